-- Counting the holders of a page is telling them apart. Assumes nothing.
use Rattle.std.specs.Prelude.{◌≡◌, refl, ◌≢◌, ◌⊎◌}
use Rattle.std.proofs.Math.Path.{sym, ap₂}
use Rattle.std.proofs.Common.{ap, ◌∙◌, subst, inl, inr}
use Prim.Native.Nat.{ℕ, zero, suc, ◌+◌, ◌*◌, ◌/◌, ◌%◌, ◌≤◌, ◌<◌}
use Rattle.std.proofs.Math.Decide.{ℕ_discrete}
use native.Mathlib.Omega.{arith}
use Rattle.std.proofs.Math.Arith.{lt-one}
use Rattle.sums.specs.Sum.{sum, is_same, is-other, sum-none, sum-at, sum-at₂, sum-find}
use Rattle.book.specs.declared.Role.{Role}
use Rattle.book.specs.declared.Role.TheVariants.{Subindex, Index, Data}
use Rattle.book.specs.declared.Holder.{Holder}
use Rattle.book.specs.declared.Holder.TheVariants.{Free, Master, BitFile, UserIndex, UserPage, ObjectSubindex, ObjectIndex, ObjectPage, File}
use Rattle.book.specs.Bits.{bit_file}
use Rattle.book.specs.Entries.{user_file, file_entry}
use Rattle.book.specs.Files.{file_at}
use Rattle.book.specs.Holders.{hit, holders, role_page, Exists, Holds}
use Rattle.book.specs.Pointers.{page, Inside, user_pointer}
use Rattle.book.specs.Rules.{Rule2}
use Rattle.book.specs.Trees.{Root, tree, run, weigh_r, index_at, subindex_of}
use Rattle.book.specs.Words.{Vol}
use Rattle.laws.specs.Count.Owners.{owners, root_of, root-file, owners-sum, owner-shallow}
use Rattle.laws.specs.Count.Sums.{Twice, apart, within, sum-find₂}
use Rattle.laws.specs.Frame.Roots.{weigh_r-nobody}
use Rattle.laws.specs.Tree.Pointer.{root-0, root-1, zero_flags}
use Rattle.laws.specs.Tree.Roles.{role-pos, role-one, role-find, role-find₂, upto-pos}
use Rattle.laws.specs.Tree.Slot.{hit-zero, hit_other}

-- ---- a holder is an owner and a role

abbrev pub owner_of : Holder → ℕ
owner_of Free = 0
owner_of Master = 0
owner_of (BitFile n) = 0
owner_of UserIndex = 1
owner_of (UserPage n) = 1
owner_of ObjectSubindex = 2
owner_of (ObjectIndex n) = 2
owner_of (ObjectPage n) = 2
owner_of (File h) = 3 + file_entry h.user h.file

abbrev pub role_of : Holder → Role
role_of Free = Subindex
role_of Master = Subindex
role_of (BitFile n) = Data n
role_of UserIndex = Index 0
role_of (UserPage n) = Data n
role_of ObjectSubindex = Subindex
role_of (ObjectIndex n) = Index n
role_of (ObjectPage n) = Data n
role_of (File h) = h.role

-- the holder of an owner and a role; the master where there is none
abbrev bit_holder : Role → Holder
bit_holder Subindex = Master
bit_holder (Index n) = Master
bit_holder (Data n) = BitFile n

abbrev user_holder : Role → Holder
user_holder Subindex = Master
user_holder (Index n) = UserIndex
user_holder (Data n) = UserPage n

abbrev object_holder : Role → Holder
object_holder Subindex = ObjectSubindex
object_holder (Index n) = ObjectIndex n
object_holder (Data n) = ObjectPage n

abbrev pub file_holder : ℕ → ℕ → Role → Holder
file_holder u f x = File (record { user = u; file = f; role = x })

abbrev pub joined : ℕ → Role → Holder
joined zero x = bit_holder x
joined (suc zero) x = user_holder x
joined (suc (suc zero)) x = object_holder x
joined (suc (suc (suc e))) x = file_holder (e / 256) (e % 256) x

-- nothing is lost
joined_same : (h : Holder) → Exists h → joined (owner_of h) (role_of h) ≡ h
joined_same Free e = absurd e
joined_same Master e = refl
joined_same (BitFile n) e = refl
joined_same UserIndex e = refl
joined_same (UserPage n) e = refl
joined_same ObjectSubindex e = refl
joined_same (ObjectIndex n) e = refl
joined_same (ObjectPage n) e = refl
joined_same (File h) e =
    let q : 3 + (256 * h.user + h.file) ≡ suc (suc (suc (256 * h.user + h.file))) = omega arith in
    let a : (256 * h.user + h.file) / 256 ≡ h.user = omega (arith, e.1) in
    let b : (256 * h.user + h.file) % 256 ≡ h.file = omega (arith, e.1) in
    ap (λ (i : ℕ). joined i h.role) q ∙ ap₂ (λ (u f : ℕ). file_holder u f h.role) a b

-- the page that a holder has is its owner's, in its role
held-role : (P : ℕ) (v : Vol) (p : ℕ) (h : Holder) → Holds P v (suc p) h → (owner_of h < owners) × (role_page v (root_of P v (owner_of h)) (role_of h) ≡ suc p)
unfolding Holds root_of
held-role P v p Free a = absurd a.0
held-role P v p Master a = absurd (omega (arith, a.1))
held-role P v p (BitFile n) a = (omega arith, a.1)
held-role P v p UserIndex a = (omega arith, a.1)
held-role P v p (UserPage n) a = (omega arith, a.1)
held-role P v p ObjectSubindex a = (omega arith, a.1)
held-role P v p (ObjectIndex n) a = (omega arith, a.1)
held-role P v p (ObjectPage n) a = (omega arith, a.1)
held-role P v p (File h) a =
    (omega (arith, a.0.0, a.0.1), ap (λ (r : Root). role_page v r h.role) (root-file P v (256 * h.user + h.file)) ∙ a.1)

-- ---- the user file has one index block, and no subindex block

user-root : (P : ℕ) (v : Vol) → Rule2 P v → (user_file v ≡ run (page (v 0) user_pointer) 0) ⊎ (user_file v ≡ tree 1 (page (v 0) user_pointer))
unfolding Rule2 user_file Inside
user-root P v (inl z) = inl (root-0 (v 0) user_pointer 0 (zero_flags (v 0) user_pointer z.0))
user-root P v (inr i) = inr (root-1 (v 0) user_pointer 0 i.0.0)

user-subindex : (P : ℕ) (v : Vol) (p : ℕ) → Rule2 P v → subindex_of (user_file v) ≡ suc p → ⊥
unfolding subindex_of
user-subindex P v p two e = elim (user-root P v two) [
  | inl q ↦ omega (arith, e, ap subindex_of q)
  | inr q ↦ omega (arith, e, ap subindex_of q)
]

user-index : (P : ℕ) (v : Vol) (p n : ℕ) → Rule2 P v → index_at v (user_file v) n ≡ suc p → n ≡ 0
unfolding index_at
user-index P v p n two e = elim (user-root P v two) [
  | inl q ↦ absurd (omega (arith, e, ap (λ (r : Root). index_at v r n) q))
  | inr q ↦ lt-one (upto-pos n 1 _ (suc p) (omega arith) (sym (ap (λ (r : Root). index_at v r n) q) ∙ e)).0
]

-- so an owner's page is its holder's, and the holder is of that owner and role
pub record Joined (P : ℕ) (v : Vol) (p i : ℕ) (x : Role) : Type 0 where
  pub holds : Holds P v (suc p) (joined i x)
  pub owner : owner_of (joined i x) ≡ i
  pub role : role_of (joined i x) ≡ x

join : (P : ℕ) (v : Vol) (p : ℕ) → Rule2 P v → (i : ℕ) (x : Role) → i < owners → role_page v (root_of P v i) x ≡ suc p → Joined P v p i x
unfolding Holds root_of bit_file subindex_of index_at
join P v p two zero Subindex h e = absurd (omega arith)
join P v p two zero (Index n) h e = absurd (omega arith)
join P v p two zero (Data n) h e = record { holds = (tt, e); owner = refl; role = refl }
join P v p two (suc zero) Subindex h e = absurd (user-subindex P v p two e)
join P v p two (suc zero) (Index n) h e = let z : n ≡ 0 = user-index P v p n two e in
    record { holds = (tt, subst (λ (k : ℕ). index_at v (user_file v) k ≡ suc p) z e); owner = refl; role = ap Index (sym z) }
join P v p two (suc zero) (Data n) h e = record { holds = (tt, e); owner = refl; role = refl }
join P v p two (suc (suc zero)) Subindex h e = record { holds = (tt, e); owner = refl; role = refl }
join P v p two (suc (suc zero)) (Index n) h e = record { holds = (tt, e); owner = refl; role = refl }
join P v p two (suc (suc zero)) (Data n) h e = record { holds = (tt, e); owner = refl; role = refl }
join P v p two (suc (suc (suc e))) x h q =
    let s : e ≡ 256 * (e / 256) + e % 256 = omega arith in
    record { holds = ((omega arith, omega arith), subst (λ (k : ℕ). role_page v (file_at v k) x ≡ suc p) s q); owner = omega arith; role = refl }

-- ---- the counts

pub holders-zero : (P : ℕ) (v : Vol) → holders P v 0 ≡ 1
unfolding holders
holders-zero P v = omega (
  arith,
  is_same 0,
  owners-sum P v (hit 0),
  sum-none owners (λ i. weigh_r v (root_of P v i) (hit 0)) (λ i h. weigh_r-nobody v (hit 0) nobody (root_of P v i)),
)
  where
    nobody : (x : ℕ) → hit 0 x ≡ 0
    nobody x = elim (ℕ_discrete x 0) [ yes e ↦ ap (hit 0) e ∙ hit-zero 0 | no ne ↦ hit_other 0 x ne ]

held-sum : (P : ℕ) (v : Vol) (p : ℕ) → sum owners (λ i. weigh_r v (root_of P v i) (hit (suc p))) ≡ holders P v (suc p)
unfolding holders
held-sum P v p = omega (arith, is-other (suc p) 0 (omega arith), owners-sum P v (hit (suc p)))

module _ (P : ℕ) (v : Vol) where
  -- how often each owner has page p + 1
  abbrev W : ℕ → ℕ → ℕ
  W p i = weigh_r v (root_of P v i) (hit (suc p))

  -- a page with a holder is counted
  pub holder-some : (p : ℕ) (h : Holder) → Holds P v p h → 0 < holders P v p
  holder-some zero h a = omega (arith, holders-zero P v)
  holder-some (suc p) h a = let r = held-role P v p h a in
      omega (arith, held-sum P v p, sum-at owners (W p) (owner_of h) r.0, role-pos v (suc p) (omega arith) (root_of P v (owner_of h)) (role_of h) r.1)

  -- one that is counted at most once has at most one
  pub holder-one : (p : ℕ) → holders P v p ≤ 1 → (h k : Holder) → Holds P v p h → Holds P v p k → h ≡ k
  unfolding Holds
  holder-one zero le h k a b = a ∙ sym b
  holder-one (suc p) le h k a b =
      let pos : 0 < suc p = omega arith in
      let i : ℕ = owner_of h in let j : ℕ = owner_of k in
      let r = held-role P v p h a in let s = held-role P v p k b in
      let ri = role-pos v (suc p) pos (root_of P v i) (role_of h) r.1 in
      let sj = role-pos v (suc p) pos (root_of P v j) (role_of k) s.1 in
      elim (ℕ_discrete i j) [
        | no ne ↦ absurd (omega (arith, held-sum P v p, sum-at₂ owners (W p) i j r.0 s.0 ne, ri, sj))
        | yes e ↦
            let le₁ : W p i ≤ 1 = omega (arith, held-sum P v p, sum-at owners (W p) i r.0) in
            let x : role_of h ≡ role_of k = role-one v (suc p) pos (root_of P v i) le₁ (role_of h) (role_of k) r.1 (ap (λ (m : ℕ). role_page v (root_of P v m) (role_of k)) e ∙ s.1) in
            sym (joined_same h a.0) ∙ ap₂ joined e x ∙ joined_same k b.0
      ]

  -- an owner that has a page has it in some role
  pub owner-holds : Rule2 P v → (p i : ℕ) → i < owners → 0 < W p i → (x : Role) × Joined P v p i x
  owner-holds two p i h q = let x = role-find v (suc p) (root_of P v i) (owner-shallow P v i) q in (x.0, join P v p two i x.0 h x.1)

  -- one that is counted has one
  pub holder-find : Rule2 P v → (p : ℕ) → 0 < holders P v p → (h : Holder) × Holds P v p h
  unfolding Holds
  holder-find two zero h = (Master, refl)
  holder-find two (suc p) h =
      let i = sum-find owners (W p) (omega (arith, held-sum P v p)) in
      let a = owner-holds two p i.0 i.1 i.2 in
      (joined i.0 a.0, a.1.holds)

  -- and one that is counted twice has two
  pub holder-two : Rule2 P v → (p : ℕ) → 2 ≤ holders P v p → (h : Holder) × (k : Holder) × (h ≢ k) × Holds P v p h × Holds P v p k
  holder-two two zero h = absurd (omega (arith, holders-zero P v))
  holder-two two (suc p) h = go (sum-find₂ owners (W p) (omega (arith, held-sum P v p)))
    where
      go : Twice owners (W p) → (h : Holder) × (k : Holder) × (h ≢ k) × Holds P v (suc p) h × Holds P v (suc p) k
      go (apart i j hi hj ne pi pj) =
          let a = owner-holds two p i hi pi in let b = owner-holds two p j hj pj in
          (joined i a.0, joined j b.0, (λ e. ne (sym a.1.owner ∙ ap owner_of e ∙ b.1.owner)), a.1.holds, b.1.holds)
      go (within i hi pi) =
          let xy = role-find₂ v (suc p) (root_of P v i) (owner-shallow P v i) pi in
          let x = xy.0 in let y = xy.1 in
          let a = join P v p two i x hi xy.3 in let b = join P v p two i y hi xy.4 in
          (joined i x, joined i y, (λ e. xy.2 (sym a.role ∙ ap role_of e ∙ b.role)), a.holds, b.holds)
