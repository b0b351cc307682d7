-- A new system page in an empty slot of a block: taken, linked and paid, it leaves a sound volume sound. Assumes nothing.
use Rattle.std.specs.Prelude.{◌≡◌, refl, ◌≢◌, ℕ, suc, ◌+◌, ◌*◌, ◌≤◌, ◌<◌}
use Rattle.std.proofs.Common.{sym, ◌∙◌, inr}
use Rattle.std.proofs.Math.Path.{ap, subst}
use native.Mathlib.Omega.{arith}
use Rattle.sums.specs.Sum.{sum}
use Rattle.book.specs.Bits.{bit_page, claim}
use Rattle.book.specs.Create.{extend}
use Rattle.book.specs.Entries.{user_file, object_file, unreserved, Table, grant}
use Rattle.book.specs.Holders.{hit, all, system_pages}
use Rattle.book.specs.Pointers.{slot, set_slot, object_pointer, unreserved_count, user_pointer}
use Rattle.book.specs.Rules.{Sound, Rule10}
use Rattle.book.specs.Trees.{Root, blocks_r}
use Rattle.book.specs.Words.{Vol, two, word}
use Rattle.book.specs.Written.{word-ext}
use Rattle.laws.specs.Bits.Choose.{Stock}
use Rattle.laws.specs.Bits.Claim.{FreePage, bit_page-rest, free-none, free-pos, claim-agree, claim-roots, claim-quiet, claim-none, claim-hand, claim-master, claim-zero, claim-bit}
use Rattle.laws.specs.Bits.Claims.{stock-free}
use Rattle.laws.specs.Bits.Taking.{Taken, TakenWords, NoWords, no_words, Taking, taking-none, taking-then, taking-wider, claim-taking, calm-blocks}
use Rattle.laws.specs.Count.Good.{bit_le, sound}
use Rattle.laws.specs.Create.Join.{only-pay, pay-page, pay-below, pay-less, SlotWords, Joining, join-bare, join-good, join_slot, join-taking}
use Rattle.laws.specs.Create.Vacant.{Vacant}
use Rattle.laws.specs.Frame.Places.{Places, UnreservedWords, Either, OnlyAt, only_then, only-put2}
use Rattle.laws.specs.Frame.Renewed.{Master, master-words}
use Rattle.laws.specs.Frame.Rest.{rest, all_rest}
use Rattle.laws.specs.Frame.Roots.{Roots, blocks_r-le, blocks_r-frame, users-root, objs-root}
use Rattle.laws.specs.Tree.Pointer.{flags-ext, page-ext}
use Rattle.laws.specs.Tree.Slot.{set_slot-page, hit-sym, slot-bare, Agree, two-ext, hit_other, slot_same}

-- from v to w, n system pages were taken and paid: w is sound, and all entries and files stay
pub record Placed (P : ℕ) (v w : Vol) (F : Places) (n : ℕ) : Type 0 where
  pub sound : Sound P w
  pub taking : Taking P v w F n n

pub placed-none : (P : ℕ) (v : Vol) → Sound P v → Placed P v v NoWords 0
placed-none P v S = record { sound = S; taking = taking-none P v }

pub placed-then : (P : ℕ) (v w x : Vol) (F H K : Places) (a b n : ℕ) → Placed P v w F a → Placed P w x H b → n ≡ a + b
    → ((p k : ℕ) → Either F H p k → Either (TakenWords P v x) K p k) → Placed P v x K n
placed-then P v w x F H K a b n S T e wide = record { sound = T.sound; taking = taking-then P v w x F H K a a b b n n S.taking T.taking e e wide }

pub placed-wider : (P : ℕ) (v w : Vol) (F K : Places) (a n : ℕ) → Placed P v w F a → n ≡ a → ((p k : ℕ) → F p k → Either (TakenWords P v w) K p k) → Placed P v w K n
placed-wider P v w F K a n S e wide = record { sound = S.sound; taking = taking-wider P v w F K a a n n S.taking e e wide }

-- ---- a claim leaves the blocks

module _ {P : ℕ} {v : Vol} {hand : ℕ → ℕ} {d : ℕ} (here : FreePage P v hand d) where
  abbrev w : Vol
  w = claim P v d

  abbrev C : ℕ → ℕ
  C x = hit (bit_page P v d) x + hit d x

  pub claim-word : (X : ℕ) → 1 ≤ rest v (hit X) → (j : ℕ) → word w X j ≡ word v X j
  unfolding Agree
  claim-word X h j = claim-agree here X (omega (
    arith,
    hit_other (bit_page P v d) X (λ e. omega (arith, h, subst (λ (x : ℕ). rest v (hit x) ≡ 0) (sym e) (bit_page-rest P v hand here.good d here.below).0)),
    hit_other d X (λ e. omega (arith, h, all_rest P v (hit X), subst (λ (x : ℕ). all P v (hit x) ≡ 0) (sym e) (free-none here).0)),
  )) j

  pub claim-vacant : (X k : ℕ) → Vacant P v X k → Vacant P w X k
  unfolding rest
  claim-vacant X k N = record {
    below = N.below;
    real = N.real;
    block = omega (
      arith,
      N.block,
      ap (λ (r : Root). blocks_r w r (hit X)) (users-root v w R) ∙ blocks_r-frame v w C (claim-agree here) (user_file v) calm.0 (hit X),
      ap (λ (r : Root). blocks_r w r (hit X)) (objs-root v w R) ∙ blocks_r-frame v w C (claim-agree here) (object_file v) calm.1 (hit X),
    );
    room = N.room;
    was = slot_same v w X (claim-word X (omega (arith, N.block, blocks_r-le v (user_file v) (hit X), blocks_r-le v (object_file v) (hit X)))) k ∙ N.was;
    eight = λ e. N.eight (sym (page-ext (w 0) (v 0) user_pointer (m user_pointer) (m (suc user_pointer))) ∙ e);
    four = λ x e. N.four (sym (flags-ext (w 0) (v 0) object_pointer (m object_pointer)) ∙ x) (sym (page-ext (w 0) (v 0) object_pointer (m object_pointer) (m (suc object_pointer))) ∙ e);
  }
    where
      R : Roots v w
      R = claim-roots here

      m : (k : ℕ) → w 0 k ≡ v 0 k
      m = claim-master here

      calm : (blocks_r v (user_file v) C ≡ 0) × (blocks_r v (object_file v) C ≡ 0)
      calm = calm-blocks P v w m C (claim-none here) (claim-agree here) (claim-quiet here)

module _ {choose : Vol → ℕ} {P : ℕ} {v : Vol} (stock : Stock choose P v) {X k : ℕ} (N : Vacant P v X k) (have : 1 ≤ unreserved v) where
  abbrev d : ℕ
  d = choose v

  abbrev v₁ : Vol
  v₁ = claim P v d

  pub extend-free : FreePage P v (λ p. 0) (choose v)
  extend-free = stock-free stock have

  pub extend_pos : 0 < d
  extend_pos = free-pos extend-free

  abbrev v' : Vol
  v' = extend choose P v X k

  below : (j : ℕ) → j < unreserved_count → v' 0 j ≡ v₁ 0 j
  unfolding extend
  below j h = pay-below (set_slot v₁ X k d) 1 j h ∙ set_slot-page v₁ X k d 0 j (omega (arith, N.real))

  -- the master page's words but those of unreserved stay
  pub extend-master : (j : ℕ) → j < unreserved_count → v' 0 j ≡ v 0 j
  extend-master j h = below j h ∙ claim-master extend-free j

  read : (q j : ℕ) → 0 < q → v' q j ≡ set_slot v₁ X k d q j
  unfolding extend
  read q j h = pay-page (set_slot v₁ X k d) 1 q j h

  paid : two (v' 0) unreserved_count + 1 ≡ two (v₁ 0) unreserved_count
  unfolding extend unreserved
  paid =
      let same : two (set_slot v₁ X k d 0) unreserved_count ≡ two (v₁ 0) unreserved_count = two-ext (set_slot v₁ X k d 0) (v₁ 0) unreserved_count (set_slot-page v₁ X k d 0 unreserved_count (omega (arith, N.real))) (set_slot-page v₁ X k d 0 (suc unreserved_count) (omega (arith, N.real))) in
      let were : two (v₁ 0) unreserved_count ≡ two (v 0) unreserved_count = two-ext (v₁ 0) (v 0) unreserved_count (claim-master extend-free unreserved_count) (claim-master extend-free (suc unreserved_count)) in
      omega (arith, have, pay-less (set_slot v₁ X k d) 1 (omega (arith, have)))

  only : OnlyAt (Either (SlotWords X k) UnreservedWords) v₁ v'
  unfolding extend set_slot
  only = only_then (SlotWords X k) UnreservedWords v₁ (set_slot v₁ X k d) v' (only-put2 v₁ X (2 * k) d) (only-pay (set_slot v₁ X k d) 1)

  M : Master v₁ v'
  M = master-words v₁ v' (λ j a b. below j b)

  join : Joining P v₁ v' (λ p. 0 + hit d p) X k d
  join = record { got = claim-hand extend-free; vacant = claim-vacant extend-free X k N; bare = claim-zero extend-free; read = read; master = M; paid = paid }

  pub extend-slot : slot v' X k ≡ d
  extend-slot = join_slot join

  -- the new page has no pointers
  pub extend-bare : (j : ℕ) → slot v' d j ≡ 0
  extend-bare = slot-bare v' d (join-bare join)

  -- other blocks keep their words
  pub extend-keeps : (q : ℕ) → q ≢ X → 1 ≤ rest v (hit q) → (j : ℕ) → word v' q j ≡ word v q j
  extend-keeps q n h j = word-ext v₁ v' q j (λ p. read q j p ∙ set_slot-page v₁ X k d q j n) ∙ claim-word extend-free q h j

  joined : Taking P v₁ v' (Either (SlotWords X k) UnreservedWords) 0 1
  joined = join-taking join (Either (SlotWords X k) UnreservedWords) only

  pub extend-taken : Taken P v v' d
  extend-taken = (extend-free.below, extend-free.clear, omega (arith, joined.bits d extend-free.below, claim-bit extend-free, bit_le P v' d))

  pub extend-placed : Placed P v v' (Either (SlotWords X k) UnreservedWords) 1
  extend-placed = record {
    sound = sound P v' (λ p. 0) (join-good join (λ p. 0)
        (λ p h. omega (arith, hit-sym p d))) (λ p h. refl);
    taking = taking-then P v v₁ v' NoWords (Either (SlotWords X k) UnreservedWords) (Either (SlotWords X k) UnreservedWords) 1 0 0 1 1 1 (claim-taking extend-free) joined
        refl refl (λ p j h. inr (no_words (Either (SlotWords X k) UnreservedWords) p j h));
  }

-- n pages placed: n more system pages
pub placed-system : (P : ℕ) (v w : Vol) (F : Places) (n : ℕ) → Sound P v → Placed P v w F n → system_pages P w ≡ system_pages P v + n
unfolding Rule10
placed-system P v w F n S T = omega (arith, S.r10.1, T.sound.r10.1, T.taking.paid, ap (λ (U : Table). sum 256 (grant U)) T.taking.users)
