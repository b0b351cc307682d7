-- Rules 4 and 6, by the parts that the code judges. Assumes nothing.
use mathlib.Core.Path.{◌≡◌, sym, ap, ◌∙◌, subst, fun_ext}
use mathlib.Core.Bool.{Bool, true, false}
use mathlib.Core.List.{List}
use Prim.Native.Nat.{ℕ, ◌+◌, ◌-◌, ◌*◌, ◌/◌, ◌%◌, ◌≤◌, ◌<◌}
use native.Mathlib.Decide.{dec_lt, ℕ_discrete}
use native.Mathlib.Omega.{arith}
use Rattle.book.specs.Words.{Vol, vol}
use Rattle.book.specs.Pointers.{flags, page, object_pointer, user_pointer}
use Rattle.book.specs.Trees.{Root, root_by}
use Rattle.book.specs.Entries.{Table, entry, user, object, used, file_entry}
use Rattle.book.specs.Names.{stored, SameFile}
use Rattle.book.specs.Rules.{Asked, Rule4Over, Rule6, Rule6Over, FileOk}
use Rattle.book.specs.Decides.{Decides}
use Rattle.page.proofs.Deciding.{decides-iff}
use Rattle.tree.specs.Ends.{Ends}
use Rattle.tree.proofs.Reach.{user-root, object-root}
use Rattle.tree.proofs.Absent.{ends-unused}
use Rattle.heads.specs.Span.{Span, span-join, span-part}
use Rattle.heads.specs.Fine.{UserFine, FileFine}
use Rattle.heads.specs.Twins.{SameTitle, Apart, FilesApart}
use Rattle.heads.proofs.Alike.{title-none}

-- what holds is right, asked or not
pub asked-holds : (ten : Bool) (A : Type 0) → A → Asked ten A
asked-holds true A a = a
asked-holds false A a = tt

-- ---- the entries of the user file and of the object file, by flags and page of their pointers

pub users-table : (v : Vol) (x t : ℕ) → x ≡ flags (v 0) user_pointer → t ≡ page (v 0) user_pointer → entry v (root_by x t 0) ≡ user v
unfolding user
users-table v x t a b = fun_ext (λ u. ap (λ (r : Root). entry v r u) (sym (user-root v x t a b)))

objects-table : (v : Vol) (x t : ℕ) → x ≡ flags (v 0) object_pointer → t ≡ page (v 0) object_pointer → entry v (root_by x t 0) ≡ object v
unfolding object
objects-table v x t a b = fun_ext (λ e. ap (λ (r : Root). entry v r e) (sym (object-root v x t a b)))

-- ---- no twins: two entries of one name are one

abbrev One : Table → ℕ → ℕ → ℕ → Type 0
One E n base z = (a b : ℕ) → base ≤ a → a < z → base ≤ b → b < z → 0 < used (E a) → 0 < used (E b) → SameTitle n (E a) (E b) → a ≡ b

module _ (E : Table) (n base z : ℕ) where
  apart-one : Apart E n base z → One E n base z
  unfolding Span
  apart-one s a b h i j k u w same = elim (ℕ_discrete a b) [
    | yes e ↦ e
    | no d ↦ elim (dec_lt a b) [
      | yes l ↦ absurd (s b j k a h l (record { first = u; second = w; title = same }))
      | no l ↦ absurd (s a h i b j (omega arith) (record { first = w; second = u; title = (sym same.0, sym same.1) }))
    ]
  ]

  one_apart : One E n base z → Apart E n base z
  unfolding Span
  one_apart f y h i x j k t = let e : x ≡ y = f x y j (omega arith) h i t.first t.second t.title in omega arith

-- ---- rule 4

module _ (ten : Bool) (U : Table) where
  pub rule4-users : Rule4Over stored ten U → Span (UserFine ten U) 0 256
  unfolding Rule4Over Span
  rule4-users r u h l = r.0 u l

  pub rule4-by : (b : Bool) → Span (UserFine ten U) 0 256 → Decides b (Apart U 0 0 256) → Decides b (Rule4Over stored ten U)
  unfolding Rule4Over Span
  rule4-by b s =
      decides-iff b _ _ (λ a. ((λ u l. s u (omega arith) l), λ x y i j p q s. apart-one U 0 0 256 a x y (omega arith) i (omega arith) j p q (title-none (U x) (U y) s)))
      (λ r. one_apart U 0 0 256 (λ x y h i j k p q s. r.1 x y i k p q s.0))

-- ---- rule 6

module _ (U O : Table) where
  rule6-files : Rule6 U O → Span (FileFine U O) 0 65536
  unfolding Rule6Over Span
  rule6-files r e h l =
      let q : 256 * (e / 256) + e % 256 ≡ e = omega arith in
      subst (λ (y : ℕ). 0 < used (O y) → FileOk U O (e / 256) y) q (r.0 (e / 256) (e % 256) (omega arith) (omega arith))

  files-fine : Span (FileFine U O) 0 65536 → (u f : ℕ) → u < 256 → f < 256 → 0 < used (O (file_entry u f)) → FileOk U O u (file_entry u f)
  unfolding Span
  files-fine s u f h i =
      let q : file_entry u f / 256 ≡ u = omega arith in
      subst (λ (w : ℕ). 0 < used (O (file_entry u f)) → FileOk U O w (file_entry u f)) q (s (file_entry u f) (omega arith) (omega arith))

  files-apart : Span (FilesApart O) 0 256 → (u a b : ℕ) → u < 256 → a < 256 → b < 256 → 0 < used (O (file_entry u a)) → 0 < used (O (file_entry u b)) → SameFile (O (file_entry u a)) (O (file_entry u b)) → a ≡ b
  unfolding Span
  files-apart s u a b h i j p q same =
      let e : file_entry u a ≡ file_entry u b = apart-one O 4 (256 * u) (256 * u + 256) (s u (omega arith) h) (file_entry u a) (file_entry u b) (omega arith) (omega arith) (omega arith) (omega arith) p q same in
      omega arith

  rule6-one : Rule6 U O → (u : ℕ) → u < 256 → One O 4 (256 * u) (256 * u + 256)
  unfolding Rule6Over
  rule6-one r u h x y i j k l p q same =
      let a : file_entry u (x - 256 * u) ≡ x = omega arith in
      let b : file_entry u (y - 256 * u) ≡ y = omega arith in
      let s : SameFile (O (file_entry u (x - 256 * u))) (O (file_entry u (y - 256 * u))) =
      subst (λ (z : ℕ). SameFile (O z) (O (file_entry u (y - 256 * u)))) (sym a) (subst (λ (z : ℕ). SameFile (O x) (O z)) (sym b) same) in
      let e : x - 256 * u ≡ y - 256 * u = r.1 u (x - 256 * u) (y - 256 * u) h (omega arith) (omega arith) (subst (λ (z : ℕ). 0 < used (O z)) (sym a) p) (subst (λ (z : ℕ). 0 < used (O z)) (sym b) q) s in
      omega arith

  rule6-apart : Rule6 U O → Span (FilesApart O) 0 256
  unfolding Span
  rule6-apart r u z h = one_apart O 4 (256 * u) (256 * u + 256) (rule6-one r u h)

  rule6-by : (b : Bool) → Span (FileFine U O) 0 65536 → Decides b (Span (FilesApart O) 0 256) → Decides b (Rule6 U O)
  unfolding Rule6Over
  rule6-by b s = decides-iff b _ _ (λ a. (files-fine s, files-apart a)) rule6-apart

-- ---- by the pages that the object file has, up to its end: later objects are unused

-- x and t are the flags and the page of the object pointer
module _ (img : List ℕ) (x t n : ℕ) (d : Ends img n) (a : x ≡ flags (vol img 0) object_pointer) (c : t ≡ page (vol img 0) object_pointer) where
  abbrev v : Vol
  v = vol img

  abbrev O : Table
  O = entry v (root_by x t 0)

  past-unused : (e : ℕ) → 32 * n ≤ e → e < 65536 → used (O e) ≡ 0
  past-unused e h l = ap (λ (E : Table). used (E e)) (objects-table v x t a c) ∙ ends-unused img n d e h l

  files-all : Span (FileFine (user v) O) 0 (32 * n) → Span (FileFine (user v) O) 0 65536
  unfolding Span
  files-all s = span-join _ 0 (32 * n) 65536 s (λ e h l u. absurd (let r : ⊥ = omega (arith, past-unused e h l) in r))

  pub rule6-fine : Rule6 (user v) (object v) → Span (FileFine (user v) O) 0 (32 * n)
  rule6-fine r = span-part _ 0 0 (32 * n) 65536 (omega arith) (omega (arith, d.most)) (rule6-files (user v) O (subst (λ (E : Table). Rule6 (user v) E) (sym (objects-table v x t a c)) r))

  -- m users have objects on these pages
  module _ (m : ℕ) (most : m ≤ 256) (room : n ≤ 8 * m) where
    apart-all : (b : Bool) → Decides b (Span (FilesApart O) 0 m) → Decides b (Span (FilesApart O) 0 256)
    unfolding Span
    apart-all b = decides-iff b _ _ (λ s. span-join _ 0 m 256 s (λ u h l y i j z k q w. absurd (let r : ⊥ = omega (arith, w.second, past-unused y (omega arith) (omega arith)) in r)))
        (span-part _ 0 0 m 256 (omega arith) most)

    pub rule6-right : (b : Bool) → Span (FileFine (user v) O) 0 (32 * n) → Decides b (Span (FilesApart O) 0 m) → Decides b (Rule6 (user v) (object v))
    rule6-right b s e = subst (λ (E : Table). Decides b (Rule6 (user v) E)) (objects-table v x t a c) (rule6-by (user v) O b (files-all s) (apart-all b e))
