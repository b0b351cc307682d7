-- For each rule a volume that breaks it and no lower one: the rules are apart, and each says something. Assumes nothing.
use Rattle.std.specs.Prelude.{◌≡◌, refl, List, [], ◌∷◌, ◌++◌, get_or}
use Rattle.std.proofs.Common.{sym, ◌∙◌, not-suc-le-zero, arith}
use Rattle.std.proofs.Math.Path.{ap, subst}
use Rattle.std.proofs.Math.Logic.{inl, inr}
use Prim.Native.Nat.{ℕ, zero, suc, ◌+◌, ◌*◌, ◌/◌, ◌%◌, ◌^◌, ◌≤◌, ◌<◌}
use Rattle.sums.specs.Sum.{is}
use Rattle.sums.specs.Search.{pick}
use Rattle.book.specs.Words.{Words, Vol, two, word, put}
use Rattle.book.specs.Pointers.{flags, page, slot, Zero, Inside, bit_pointer, object_pointer, unreserved_count, user_pointer, volume_name, flags_above}
use Rattle.book.specs.Trees.{Root, tree, Below}
use Rattle.book.specs.Entries.{entry, user, object, user_file, object_file, used}
use Rattle.book.specs.Names.{Letter, Text, NameText, LegalName, byte_at, ends, words_of}
use Rattle.book.specs.Rows.{Lowest}
use Rattle.book.specs.Rules.{Rule1, Rule2, Rule3, Rule4, Rule4Over, Rule5, Rule5By, Rule6, Rule6Over, rules, rules_of}
use Rattle.laws.specs.Example.Sparse.{Cell, cell, volume, Off, volume-off, entry_first, entry-bare}
use Rattle.laws.specs.File.Packed.{legal-back, behind-old}
use Rattle.laws.specs.File.Stored.{nameless}
use Rattle.laws.specs.Format.Formatted.{rule4-none}
use Rattle.laws.specs.Tree.Pointer.{root-1}

-- ---- a yard disk of 16 pages, bit page 8, name YARD, zero-filled as disks were at first

unfoldable pub yard_name : List ℕ
yard_name = 89 ∷ 65 ∷ 82 ∷ 68 ∷ []

pub yard-text : NameText yard_name
unfolding Text Letter yard_name
yard-text = (omega arith, omega arith, go)
  where
    go : (i : ℕ) → i < 4 → Letter (get_or (89 ∷ 65 ∷ 82 ∷ 68 ∷ []) i 0)
    go zero h = inl (omega arith, omega arith)
    go (suc zero) h = inl (omega arith, omega arith)
    go (suc (suc zero)) h = inl (omega arith, omega arith)
    go (suc (suc (suc zero))) h = inl (omega arith, omega arith)
    go (suc (suc (suc (suc i)))) h = absurd (let r : ⊥ = omega arith in r)

-- the words that rule 1 reads, with bit page b
pub record Head (v : Vol) (b : ℕ) : Type 0 where
  pub first : v 0 volume_name ≡ 22849
  pub second : v 0 1009 ≡ 21060
  pub tail : (k : ℕ) → 1010 ≤ k → k < object_pointer → v 0 k ≡ 0
  pub high : v 0 bit_pointer ≡ 0
  pub low : v 0 (suc bit_pointer) ≡ b

pub head-rule : {P b : ℕ} (v : Vol) → Head v b → 0 < b → b < P → P ≤ 16384 → Rule1 P v
unfolding flags page words_of yard_name
head-rule v H pos below most = record {
  name = legal-back 1 16 yard_name yard-text [] behind-old (v 0) volume_name (λ i h. words (i / 2) (omega arith));
  unflagged = omega (arith, H.high);
  start = omega (arith, H.high, H.low);
  fits = omega (arith, H.high, H.low);
}
  where
    words : (j : ℕ) → j < 8 → v 0 (volume_name + j) ≡ words_of (yard_name ++ []) j
    words zero h = H.first
    words (suc zero) h = H.second
    words (suc (suc zero)) h = H.tail 1010 (omega arith) (omega arith)
    words (suc (suc (suc zero))) h = H.tail 1011 (omega arith) (omega arith)
    words (suc (suc (suc (suc zero)))) h = H.tail 1012 (omega arith) (omega arith)
    words (suc (suc (suc (suc (suc zero))))) h = H.tail 1013 (omega arith) (omega arith)
    words (suc (suc (suc (suc (suc (suc zero)))))) h = H.tail 1014 (omega arith) (omega arith)
    words (suc (suc (suc (suc (suc (suc (suc zero))))))) h = H.tail 1015 (omega arith) (omega arith)
    words (suc (suc (suc (suc (suc (suc (suc (suc j)))))))) h = absurd (let r : ⊥ = omega arith in r)

abbrev pub yard : List Cell
yard = cell 0 volume_name 22849 ∷ cell 0 1009 21060 ∷ cell 0 (suc bit_pointer) 8 ∷ cell 0 (suc unreserved_count) 14 ∷ cell 8 0 257 ∷ []

-- the same with a user index in page 1 and an object index in page o
abbrev pub trees : ℕ → List Cell
trees o = cell 0 user_pointer flags_above ∷ cell 0 (suc user_pointer) 1 ∷ cell 0 object_pointer flags_above ∷ cell 0 (suc object_pointer) o ∷ yard

-- ---- the ten volumes

abbrev pub broken1 : List Cell
broken1 = []

-- a user pointer with S
abbrev pub broken2 : List Cell
broken2 = cell 0 user_pointer 32768 ∷ yard

-- slot 8 of the user index in use
abbrev pub broken3 : List Cell
broken3 = cell 1 17 3 ∷ trees 2

-- a used user without a name
abbrev pub broken4 : List Cell
broken4 = cell 1 1 3 ∷ cell 3 0 32768 ∷ trees 2

-- an object page at P
abbrev pub broken5 : List Cell
broken5 = cell 2 1 16 ∷ trees 2

-- a used object of an unused user
abbrev pub broken6 : List Cell
broken6 = cell 2 1 4 ∷ cell 4 0 32768 ∷ trees 2

-- user A with an empty file A that has a byte
abbrev pub broken7 : List Cell
broken7 = cell 1 1 3 ∷ cell 2 1 4 ∷ cell 3 0 32768 ∷ cell 3 1 16640 ∷ cell 4 0 32768 ∷ cell 4 1 16640 ∷ cell 4 29 1 ∷ trees 2

-- one page is user index and object index
abbrev pub broken8 : List Cell
broken8 = trees 1

-- the bit of page 5 is set
abbrev pub broken9 : List Cell
broken9 = cell 8 0 289 ∷ yard

-- one page too many unreserved
abbrev pub broken10 : List Cell
broken10 = cell 0 (suc unreserved_count) 15 ∷ yard

-- ---- rule 1

-- a name whose first byte ends it is no name
pub first_ends : (w : Words) (k x : ℕ) → w k ≡ x → 0 < ends (x / 256 ^ 1 % 256) → LegalName w k → ⊥
unfolding byte_at
first_ends w k x z h =
    let e : k + 0 / 2 ≡ k = omega arith in
    nameless 16 w k 0 (subst (λ (b : ℕ). 0 < ends b) (sym (ap (λ (j : ℕ). w j / 256 ^ 1 % 256) e ∙ ap (λ (y : ℕ). y / 256 ^ 1 % 256) z)) h)

-- so no name begins with a zero word
pub zero-first : (w : Words) (k : ℕ) → w k ≡ 0 → LegalName w k → ⊥
unfolding ends is
zero-first w k z = first_ends w k 0 z (omega arith)

pub breaks1 : Lowest (rules 16 (volume broken1)) 1
unfolding rules_of Lowest volume
breaks1 = inl (refl, λ r. zero-first (volume [] 0) volume_name refl r.name)

-- ---- rule 2

pub head2 : Head (volume broken2) 8
unfolding volume Off put pick is
head2 = record { first = refl; second = refl; tail = λ k a b. volume-off broken2 0 k (omega arith); high = refl; low = refl }

pub breaks2 : Lowest (rules 16 (volume broken2)) 2
unfolding rules_of Lowest Rule2 Zero Inside flags volume put pick is
breaks2 = inr (head-rule (volume broken2) head2 (omega arith) (omega arith) (omega arith), inl (refl, no))
  where
    v : Vol
    v = volume broken2

    no : Rule2 16 (volume broken2) → ⊥
    no (inl z) = let r : ⊥ = omega (arith, z.0.0) in r
    no (inr i) = let r : ⊥ = omega (arith, i.0.0) in r

-- ---- rules 3 to 8: a user index in page 1, an object index in page 1 or 2

-- what the master page of such a volume says: the bit page is b, the object index is page o
pub record Master (v : Vol) (b o : ℕ) : Type 0 where
  pub head : Head v b
  pub ufl : v 0 user_pointer ≡ flags_above
  pub upg : v 0 (suc user_pointer) ≡ 1
  pub ofl : v 0 object_pointer ≡ flags_above
  pub opg : v 0 (suc object_pointer) ≡ o

module _ (v : Vol) {b o : ℕ} (M : Master v b o) where
  pub user-root : user_file v ≡ tree 1 1
  unfolding user_file flags page
  user-root = root-1 (v 0) user_pointer 0 (omega (arith, M.ufl)) ∙ ap (tree 1) (omega (arith, M.ufl, M.upg))

  pub object-root : object_file v ≡ tree 1 o
  unfolding object_file flags page
  object-root = root-1 (v 0) object_pointer 0 (omega (arith, M.ofl)) ∙ ap (tree 1) (omega (arith, M.ofl, M.opg))

  pub rule-2 : {P : ℕ} → 0 < o → o < P → 1 < P → Rule2 P v
  unfolding Rule2 Inside flags page
  rule-2 a l m = inr (
    (omega (arith, M.ufl), omega (arith, M.ufl, M.upg), omega (arith, M.ufl, M.upg)),
    inl (omega (arith, M.ofl), omega (arith, M.ofl, M.opg), omega (arith, M.ofl, M.opg)),
  )

  pub user-page : page (v 0) user_pointer ≡ 1
  unfolding page
  user-page = omega (arith, M.ufl, M.upg)

  pub object-page : page (v 0) object_pointer ≡ o
  unfolding page
  object-page = omega (arith, M.ofl, M.opg)

  pub object-flags : flags (v 0) object_pointer ≡ 1
  unfolding flags
  object-flags = omega (arith, M.ofl)

  -- at most the first slot of the user index is in use
  pub rule-3 : {P : ℕ} → slot v 1 0 < P → ((n : ℕ) → 0 < n → slot v 1 n ≡ 0) → Rule3 P v
  unfolding Rule3
  rule-3 {P} a z n h = subst (λ (t : ℕ). (slot v t n < P) × (8 ≤ n → slot v t n ≡ 0)) (sym user-page) (below n, λ l. z n (omega arith))
    where
      below : (n : ℕ) → slot v 1 n < P
      below zero = a
      below (suc n) = omega (arith, z (suc n) (omega arith))

  -- and none: no user is used
  pub no-users : ((n : ℕ) → slot v 1 n ≡ 0) → (u : ℕ) → used (user v u) ≡ 0
  unfolding used user
  no-users z u = ap (λ (x : ℕ). x / 32768) (ap (λ (r : Root). entry v r u 0) user-root ∙ entry-bare v 1 (λ n h. z n) u 0)

  pub no-objects : ((n : ℕ) → slot v o n ≡ 0) → (e : ℕ) → used (object v e) ≡ 0
  unfolding used object
  no-objects z e = ap (λ (x : ℕ). x / 32768) (ap (λ (r : Root). entry v r e 0) object-root ∙ entry-bare v o (λ n h. z n) e 0)

  -- the object index has at most its first slot in use, and no user above 63 is used
  pub rule-5 : {P : ℕ} → o < P → slot v o 0 < P → ((n : ℕ) → 0 < n → slot v o n ≡ 0) → ((u : ℕ) → 63 < u → used (user v u) ≡ 0) → Rule5 P v
  unfolding Rule5 Rule5By Below
  rule-5 {P} l a z nu = subst (λ (x : ℕ). Rule5By P v x (page (v 0) object_pointer)) (sym object-flags)
      (subst (λ (t : ℕ). Rule5By P v 1 t) (sym object-page) ((l, λ k h. below k), λ u h i. nu u h))
    where
      below : (n : ℕ) → slot v o n < P
      below zero = a
      below (suc n) = omega (arith, z (suc n) (omega arith))

  -- rule 5 asks each slot to be below P
  rule-5-slot : Rule5 16 v → slot v o 0 < 16
  unfolding Rule5 Rule5By Below
  rule-5-slot r = (subst (λ (t : ℕ). Rule5By 16 v 1 t) object-page (subst (λ (x : ℕ). Rule5By 16 v x (page (v 0) object_pointer)) object-flags r)).0.1 0 (omega arith)

-- the words of a slot that no cell has
pub bare : (l : List Cell) (b n : ℕ) → 0 < b → Off l b (2 * n) → Off l b (suc (2 * n)) → slot (volume l) b n ≡ 0
unfolding slot two word
bare l zero n h a c = absurd (not-suc-le-zero h)
bare l (suc b) n h a c = omega (arith, volume-off l (suc b) (2 * n) a, volume-off l (suc b) (suc (2 * n)) c)

pub master3 : Master (volume broken3) 8 2
unfolding volume Off put pick is
master3 = record { head = record { first = refl; second = refl; tail = λ k a b. volume-off broken3 0 k (omega arith); high = refl; low = refl }; ufl = refl; upg = refl; ofl = refl; opg = refl }

pub breaks3 : Lowest (rules 16 (volume broken3)) 3
unfolding rules_of Lowest Rule3 slot two word volume put pick is
breaks3 = inr (head-rule v master3.head (omega arith) (omega arith) (omega arith), inr (rule-2 v master3 (omega arith) (omega arith) (omega arith), inl (refl, no)))
  where
    v : Vol
    v = volume broken3

    no : Rule3 16 (volume broken3) → ⊥
    no r = let z : slot (volume broken3) 1 8 ≡ 0 = subst (λ (t : ℕ). slot (volume broken3) t 8 ≡ 0) (user-page (volume broken3) master3) ((r 8 (omega arith)).1 (omega arith)) in
        let q : ⊥ = omega (arith, z) in q

pub master4 : Master (volume broken4) 8 2
unfolding volume Off put pick is
master4 = record { head = record { first = refl; second = refl; tail = λ k a b. volume-off broken4 0 k (omega arith); high = refl; low = refl }; ufl = refl; upg = refl; ofl = refl; opg = refl }

-- user 0's entry is in the page of the first slot
pub user-first : (l : List Cell) {b o : ℕ} → Master (volume l) b o → {q : ℕ} → slot (volume l) 1 0 ≡ suc q → (u k : ℕ) → u < 32 → user (volume l) u k ≡ volume l (suc q) (32 * u + k)
unfolding user word
user-first l M e u k h = ap (λ (r : Root). entry (volume l) r u k) (user-root (volume l) M) ∙ entry_first (volume l) 1 u k h ∙ ap (λ (q : ℕ). word (volume l) q (32 * u + k)) e

pub breaks4 : Lowest (rules 16 (volume broken4)) 4
unfolding rules_of Lowest Rule4Over slot two word volume put pick is Off used
breaks4 = inr (
  head-rule (volume broken4) master4.head (omega arith) (omega arith) (omega arith),
  inr (
    rule-2 (volume broken4) master4 (omega arith) (omega arith) (omega arith),
    inr (rule-3 (volume broken4) master4 (omega arith) (λ n h. bare broken4 1 n (omega arith) (omega arith) (omega arith)), inl (refl, no)),
  ),
)
  where
    at : (k : ℕ) → user (volume broken4) 0 k ≡ volume broken4 3 (32 * 0 + k)
    at k = user-first broken4 master4 refl 0 k (omega arith)

    no : Rule4 (user (volume broken4)) → ⊥
    no r = zero-first (user (volume broken4) 0) 1 (at 1) (r.0 0 (omega arith) (omega (arith, at 0))).name

pub master5 : Master (volume broken5) 8 2
unfolding volume Off put pick is
master5 = record { head = record { first = refl; second = refl; tail = λ k a b. volume-off broken5 0 k (omega arith); high = refl; low = refl }; ufl = refl; upg = refl; ofl = refl; opg = refl }

pub breaks5 : Lowest (rules 16 (volume broken5)) 5
unfolding rules_of Lowest slot two word volume put pick is Off
breaks5 = inr (
  head-rule (volume broken5) master5.head (omega arith) (omega arith) (omega arith),
  inr (
    rule-2 (volume broken5) master5 (omega arith) (omega arith) (omega arith),
    inr (
      rule-3 (volume broken5) master5 (omega arith) (λ n h. empty n),
      inr (rule4-none (volume broken5) (no-users (volume broken5) master5 empty), inl (refl, λ r. let q : ⊥ = omega (arith, rule-5-slot (volume broken5) master5 r) in q)),
    ),
  ),
)
  where
    empty : (n : ℕ) → slot (volume broken5) 1 n ≡ 0
    empty n = bare broken5 1 n (omega arith) (omega arith) (omega arith)

pub master6 : Master (volume broken6) 8 2
unfolding volume Off put pick is
master6 = record { head = record { first = refl; second = refl; tail = λ k a b. volume-off broken6 0 k (omega arith); high = refl; low = refl }; ufl = refl; upg = refl; ofl = refl; opg = refl }

-- object 0's entry is in page 4
pub object-first : (l : List Cell) {b : ℕ} → Master (volume l) b 2 → slot (volume l) 2 0 ≡ 4 → (e k : ℕ) → e < 32 → object (volume l) e k ≡ volume l 4 (32 * e + k)
unfolding object word
object-first l M q e k h = ap (λ (r : Root). entry (volume l) r e k) (object-root (volume l) M) ∙ entry_first (volume l) 2 e k h ∙ ap (λ (p : ℕ). word (volume l) p (32 * e + k)) q

pub breaks6 : Lowest (rules 16 (volume broken6)) 6
unfolding rules_of Lowest Rule6Over slot two word volume put pick is Off used
breaks6 = inr (
  head-rule (volume broken6) master6.head (omega arith) (omega arith) (omega arith),
  inr (
    rule-2 (volume broken6) master6 (omega arith) (omega arith) (omega arith),
    inr (
      rule-3 (volume broken6) master6 (omega arith) (λ n h. empty n),
      inr (
        rule4-none (volume broken6) nobody,
        inr (rule-5 (volume broken6) master6 (omega arith) (omega arith) (λ n h. bare broken6 2 n (omega arith) (omega arith) (omega arith)) (λ u h. nobody u), inl (refl, no)),
      ),
    ),
  ),
)
  where
    empty : (n : ℕ) → slot (volume broken6) 1 n ≡ 0
    empty n = bare broken6 1 n (omega arith) (omega arith) (omega arith)

    nobody : (u : ℕ) → used (user (volume broken6) u) ≡ 0
    nobody = no-users (volume broken6) master6 empty

    no : Rule6 (user (volume broken6)) (object (volume broken6)) → ⊥
    no r = let o : 0 < used (user (volume broken6) 0) = (r.0 0 0 (omega arith) (omega arith) (omega (arith, object-first broken6 master6 refl 0 0 (omega arith)))).owner in
        let q : ⊥ = omega (arith, o, nobody 0) in q
