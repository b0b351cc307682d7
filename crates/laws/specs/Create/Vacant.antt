-- Where an entry's page hangs: its block and slot, and that an empty slot may be used (Vacant). Assumes nothing.
use Rattle.std.specs.Prelude.{◌≡◌, ◌≢◌, ◌⊎◌, ℕ, suc, ◌+◌, ◌/◌, ◌%◌, ◌≤◌, ◌<◌, ◌*◌}
use Rattle.std.proofs.Math.Path.{sym, ap, ap₂, subst}
use Rattle.std.proofs.Common.{◌∙◌, inl, inr}
use native.Mathlib.Omega.{arith}
use Rattle.sums.specs.Sum.{sum-at}
use Rattle.book.specs.Create.{object_index}
use Rattle.book.specs.Entries.{user_file, object_file, user_page, object_page, entry_page, user, used, file_entry}
use Rattle.book.specs.Grow.{index_of}
use Rattle.book.specs.Holders.{hit}
use Rattle.book.specs.Pointers.{slot, flags, page, Zero, Inside, object_pointer, user_pointer}
use Rattle.book.specs.Rules.{Rule2, Rule5, Rule5By, Sound}
use Rattle.book.specs.Trees.{Root, tree, root_at, page_at, blocks, blocks_r, Below}
use Rattle.book.specs.Words.{Vol}
use Rattle.laws.specs.Count.Good.{good, bit_le}
use Rattle.laws.specs.Count.Reach.{high-unused}
use Rattle.laws.specs.Frame.Renewed.{users-top}
use Rattle.laws.specs.Frame.Rest.{rest, all_rest}
use Rattle.laws.specs.Frame.Roots.{zero-none, used-page, blocks_r-le}
use Rattle.laws.specs.Tree.Pointer.{root-1, root-2, flags-ext, page-ext}
use Rattle.laws.specs.Tree.Positions.{root-one, root-two}
use Rattle.laws.specs.Tree.Slot.{hit-zero, hit_same, slot-zero}

-- a block of the user or the object file with an empty slot k that may be used
pub record Vacant (P : ℕ) (v : Vol) (X k : ℕ) : Type 0 where
  pub below : X < P
  pub real : 0 < X
  pub block : 1 ≤ blocks_r v (user_file v) (hit X) + blocks_r v (object_file v) (hit X)
  pub room : k < 512
  pub was : slot v X k ≡ 0
  pub eight : page (v 0) user_pointer ≡ X → k < 8
  pub four : flags (v 0) object_pointer ≡ 2 → page (v 0) object_pointer ≡ X → k < 4

-- ---- blocks

-- a block counts itself; and each block under a block of two levels
blocks-top : (v : Vol) (l t : ℕ) → 0 < t → 1 ≤ blocks v (suc l) t (hit t)
unfolding blocks
blocks-top v l t h = omega (arith, hit_same t h)

blocks-under : (v : Vol) (t k X : ℕ) → k < 512 → 0 < X → slot v t k ≡ X → hit X t + 1 ≤ blocks v 2 t (hit X)
unfolding blocks
blocks-under v t k X h p e =
    omega (arith, sum-at 512 (λ k. blocks v 1 (slot v t k) (hit X)) k h, subst (λ (x : ℕ). 1 ≤ blocks v 1 x (hit X)) (sym e) (blocks-top v 0 X p))

module _ (P : ℕ) (v : Vol) (S : Sound P v) where
  -- a page is one block at most
  pub once : (X : ℕ) → X < P → blocks_r v (user_file v) (hit X) + blocks_r v (object_file v) (hit X) ≤ 1
  unfolding rest
  once X h = omega (arith, (good P v S).held X h, bit_le P v X, all_rest P v (hit X), blocks_r-le v (user_file v) (hit X), blocks_r-le v (object_file v) (hit X))

  -- ---- users

  module _ (one : flags (v 0) user_pointer ≡ 1) (real : 0 < page (v 0) user_pointer) (below : page (v 0) user_pointer < P) (u : ℕ) (hu : u < 256) where
    abbrev t : ℕ
    t = page (v 0) user_pointer

    pub user-slot : user_page v u ≡ slot v t (entry_page u)
    unfolding user_page user_file root_at
    user-slot = root-one v (flags (v 0) user_pointer) t 0 (u / 32) one (omega arith)

    pub user-block : 1 ≤ blocks_r v (user_file v) (hit t)
    unfolding user_file blocks_r
    user-block = subst (λ (r : Root). 1 ≤ blocks_r v r (hit t)) (sym (root-1 (v 0) user_pointer 0 one)) (blocks-top v 0 t real)

    pub user-vacant : user_page v u ≡ 0 → Vacant P v t (entry_page u)
    unfolding object_file blocks_r
    user-vacant z = record {
      below = below;
      real = real;
      block = omega (arith, user-block);
      room = omega arith;
      was = sym user-slot ∙ z;
      eight = λ e. omega arith;
      four = λ x e. absurd (let r : ⊥ = omega (
        arith,
        once t below,
        user-block,
        subst (λ (r : Root). 1 ≤ blocks_r v r (hit t)) (sym (root-2 (v 0) object_pointer 0 x)) (subst (λ (y : ℕ). 1 ≤ blocks v 2 y (hit t)) (sym e) (blocks-top v 1 t real)),
      ) in r);
    }

-- ---- objects

-- the object pointer reaches entry e: an index block the 512 pages of users 0 to 63, a subindex block all
abbrev pub Reaches : Vol → ℕ → Type 0
Reaches v e = ((flags (v 0) object_pointer ≡ 1) × (e < 512 * 32)) ⊎ ((flags (v 0) object_pointer ≡ 2) × (e < 65536))

pub record Reached (P : ℕ) (v : Vol) (e : ℕ) : Type 0 where
  pub kind : Reaches v e
  pub real : 0 < page (v 0) object_pointer
  pub below : page (v 0) object_pointer < P

-- a change that leaves the pointer
pub reached-kept : (P : ℕ) (v w : Vol) (e : ℕ) → w 0 object_pointer ≡ v 0 object_pointer → w 0 (suc object_pointer) ≡ v 0 (suc object_pointer) → Reached P v e → Reached P w e
reached-kept P v w e a b R = record { kind = go R.kind; real = omega (arith, R.real, pg); below = omega (arith, R.below, pg) }
  where
    fl : flags (w 0) object_pointer ≡ flags (v 0) object_pointer
    fl = flags-ext (w 0) (v 0) object_pointer a

    pg : page (w 0) object_pointer ≡ page (v 0) object_pointer
    pg = page-ext (w 0) (v 0) object_pointer a b

    go : Reaches v e → Reaches w e
    go (inl h) = inl (fl ∙ h.0, h.1)
    go (inr h) = inr (fl ∙ h.0, h.1)

-- the entries of a used user are reached
pub used-reached : (P : ℕ) (v : Vol) → Sound P v → (u f : ℕ) → u < 256 → f < 256 → 0 < used (user v u) → Reached P v (file_entry u f)
unfolding Rule2 Inside user user_file
used-reached P v S u f hu hf q = go S.r2
  where
    go : ((Zero (v 0) user_pointer × Zero (v 0) object_pointer) ⊎ (Inside P (v 0) user_pointer 1 × (Inside P (v 0) object_pointer 1 ⊎ Inside P (v 0) object_pointer 2))) → Reached P v (file_entry u f)
    go (inl z) = absurd (let r : ⊥ = omega (arith, used-page v (user_file v) u q, zero-none v (v 0) user_pointer z.0 (u / 32)) in r)
    go (inr (a, inl i)) =
        let low : ¬ (63 < u) = λ h. omega (arith, q, high-unused P v S.r5 i.0 u h hu) in
        record { kind = inl (i.0, omega arith); real = i.1; below = i.2 }
    go (inr (a, inr i)) = record { kind = inr (i.0, omega arith); real = i.1; below = i.2 }

module _ (P : ℕ) (v : Vol) (S : Sound P v) (e : ℕ) (R : Reached P v e) where
  abbrev o : ℕ
  o = page (v 0) object_pointer

  -- an index block of its own, by the flags
  index_is : (x : ℕ) → flags (v 0) object_pointer ≡ x → object_index v e ≡ index_of v x o (entry_page e)
  unfolding object_index
  index_is x h = ap (λ (y : ℕ). index_of v y (page (v 0) object_pointer) (entry_page e)) h

  pub object-one : flags (v 0) object_pointer ≡ 1 → object_index v e ≡ o
  unfolding index_of
  object-one = index_is 1

  pub object-two : flags (v 0) object_pointer ≡ 2 → object_index v e ≡ slot v o (entry_page e / 512)
  unfolding index_of
  object-two = index_is 2

  pub object-slot : object_page v e ≡ slot v (object_index v e) (entry_page e % 512)
  unfolding object_page object_file root_at
  object-slot = go R.kind
    where
      go : Reaches v e → page_at v (root_at (v 0) object_pointer 0) (e / 32) ≡ slot v (object_index v e) (e / 32 % 512)
      go (inl h) = root-one v (flags (v 0) object_pointer) o 0 (e / 32) h.0 (omega (arith, h.1)) ∙ ap₂ (slot v) (sym (object-one h.0)) (let q : e / 32 ≡ e / 32 % 512 = omega (arith, h.1) in q)
      go (inr h) = root-two v (flags (v 0) object_pointer) o 0 (e / 32) h.0 (omega (arith, h.1)) ∙ ap (λ (x : ℕ). slot v x (e / 32 % 512)) (sym (object-two h.0))

  -- no block, no page
  pub object-none : object_index v e ≡ 0 → object_page v e ≡ 0
  object-none z = object-slot ∙ ap (λ (x : ℕ). slot v x (entry_page e % 512)) z ∙ slot-zero v (entry_page e % 512)

  -- the user index is another block
  user-index : (X : ℕ) → X < P → 0 < X → 1 ≤ blocks_r v (object_file v) (hit X) → page (v 0) user_pointer ≢ X
  user-index X h p b q = omega (arith, once P v S X h, b, users-top P v (hit X) (hit-zero X) S.r2, subst (λ (x : ℕ). hit X x ≡ 1) (sym q) (hit_same X p))

  top-block : (l : ℕ) → object_file v ≡ tree (suc l) o → 1 ≤ blocks_r v (object_file v) (hit o)
  unfolding blocks_r
  top-block l q = subst (λ (r : Root). 1 ≤ blocks_r v r (hit o)) (sym q) (blocks-top v l o R.real)

  pub top-held : flags (v 0) object_pointer ≡ 2 → 1 ≤ rest v (hit o)
  unfolding rest object_file
  top-held x = omega (arith, top-block 1 (root-2 (v 0) object_pointer 0 x), blocks_r-le v (object_file v) (hit o))

  -- an index block under the subindex block
  pub under : flags (v 0) object_pointer ≡ 2 → e < 65536 → 0 < object_index v e
      → (object_index v e < P) × (hit (object_index v e) o + 1 ≤ blocks_r v (object_file v) (hit (object_index v e)))
  unfolding Rule5 Rule5By Below object_file blocks_r
  under x h p =
      let q : slot v o (entry_page e / 512) ≡ object_index v e = sym (object-two x) in
      let b = ((subst (λ (y : ℕ). Rule5By P v y o) x S.r5).0.1 (entry_page e / 512) (omega arith)).0 in (
        omega (arith, b, q),
        subst (λ (r : Root). hit (object_index v e) o + 1 ≤ blocks_r v r (hit (object_index v e))) (sym (root-2 (v 0) object_pointer 0 x))
            (blocks-under v o (entry_page e / 512) (object_index v e) (omega arith) p q),
      )

  -- an empty slot of it may be used
  pub index-vacant : 0 < object_index v e → object_page v e ≡ 0 → Vacant P v (object_index v e) (entry_page e % 512)
  unfolding object_file
  index-vacant p z = go R.kind
    where
      go : Reaches v e → Vacant P v (object_index v e) (entry_page e % 512)
      go (inl h) =
          let b : 1 ≤ blocks_r v (object_file v) (hit o) = top-block 0 (root-1 (v 0) object_pointer 0 h.0) in
          subst (λ (x : ℕ). Vacant P v x (entry_page e % 512)) (sym (object-one h.0)) (record {
            below = R.below;
            real = R.real;
            block = omega (arith, b);
            room = omega arith;
            was = ap (λ (x : ℕ). slot v x (entry_page e % 512)) (sym (object-one h.0)) ∙ sym object-slot ∙ z;
            eight = λ q. absurd (user-index o R.below R.real b q);
            four = λ x q. absurd (let r : ⊥ = omega (arith, h.0) in r);
          })
      go (inr h) =
          let b = under h.0 h.1 p in
          record {
            below = b.0;
            real = p;
            block = omega (arith, b.1);
            room = omega arith;
            was = sym object-slot ∙ z;
            eight = λ q. absurd (user-index (object_index v e) b.0 p (omega (arith, b.1)) q);
            four = λ x q. absurd (let r : ⊥ = omega (arith, b.1, once P v S (object_index v e) b.0, subst (λ (y : ℕ). hit (object_index v e) y ≡ 1) (sym q) (hit_same (object_index v e) p)) in r);
          }

  -- the subindex block has room for the index block of e
  pub top-vacant : object_index v e ≡ 0 → Vacant P v o (entry_page e / 512)
  unfolding object_file
  top-vacant z = go R.kind
    where
      go : Reaches v e → Vacant P v o (entry_page e / 512)
      go (inl h) = absurd (let r : ⊥ = omega (arith, object-one h.0, R.real) in r)
      go (inr h) =
          let b : 1 ≤ blocks_r v (object_file v) (hit o) = top-block 1 (root-2 (v 0) object_pointer 0 h.0) in
          record {
            below = R.below;
            real = R.real;
            block = omega (arith, b);
            room = omega (arith, h.1);
            was = sym (object-two h.0) ∙ z;
            eight = λ q. absurd (user-index o R.below R.real b q);
            four = λ x q. omega (arith, h.1);
          }
