-- Users by the page of their entry, and the sums that rule 10 asks for. Assumes nothing.
use mathlib.Core.Path.{◌≡◌, refl, sym, ap, ◌∙◌, subst}
use mathlib.Core.Bool.{Bool}
use mathlib.Core.List.{List}
use Prim.Native.Nat.{ℕ, ◌+◌, ◌*◌, ◌/◌, ◌%◌, ◌≤◌, ◌<◌, zero-le}
use native.Mathlib.Decide.{dec_lt}
use native.Mathlib.Omega.{arith}
use lib.Dec.{eqb}
use Rattle.sums.specs.Search.{pick_yes, pick_no}
use Rattle.sums.specs.Sum.{sum, sum-ext, sum-none}
use Rattle.book.specs.Decides.{Decides, decides_and}
use Rattle.book.specs.Entries.{user, object, user_file, user_page, used, given, used_pages, grant, unreserved, file_entry}
use Rattle.book.specs.Holders.{all, mine, some, system_pages}
use Rattle.book.specs.Image.{pages, Whole}
use Rattle.book.specs.Rules.{Rule2, Rule3, Rule6, Rule6Over, Rule7, Rule10}
use Rattle.book.specs.Trees.{page_at}
use Rattle.book.specs.Words.{Words, Vol, vol, two}
use Rattle.book.specs.Pointers.{unreserved_count}
use Rattle.laws.specs.Count.Charge.{mine-pages}
use Rattle.laws.specs.Count.Reach.{below-users}
use Rattle.page.proofs.Deciding.{decides-iff, decides_eq}
use Rattle.tree.specs.Reach.{Reach, entry_in}
use Rattle.tree.proofs.Entries.{user-in, absent-word}
use Rattle.shape.specs.Counts.{pages_of, count_in, CountRight, UsersRight}
use Rattle.shape.proofs.Sums.{pages-none}

pub reach-users : (img : List ℕ) → Whole img → Rule2 (pages img) (vol img) → Rule3 (pages img) (vol img) → Reach img (user_file (vol img))
reach-users img w a b = record { some = omega arith; below = below-users (pages img) (vol img) a b }

-- ---- by the words w of an entry

module _ (k : ℕ) (w : Words) where
  pub count-unused : (0 < used w → ⊥) → 0 ≡ count_in k w
  unfolding count_in
  count-unused h = sym (pick_no (used w) (two w k) 0 (omega arith))

  pub count-used : 0 < used w → two w k ≡ count_in k w
  unfolding count_in
  count-used h = sym (pick_yes (used w) (two w k) 0 h)

-- from the used pages n and the files' pages m that code has
pub decides-count : (v : Vol) (u : ℕ) (w : Words) (n m : ℕ) → 0 < used w → n ≡ two w 16 → m ≡ pages_of v u → Decides (eqb n m) (CountRight v u w)
decides-count v u w n m h a b = decides-iff (eqb n m) _ _ (λ d i. sym a ∙ d ∙ b) (λ d. a ∙ d h ∙ sym b) (decides_eq n m)

-- ---- user u, one of the 32 from `first` on, on page q

module _ (v : Vol) (q first u : ℕ) (f : first % 32 ≡ 0) (h : first ≤ u) (l : u < first + 32) (at : q ≡ user_page v first) where
  pub user-at : entry_in v q u ≡ user v u
  unfolding user_page
  user-at = user-in v u q (at ∙ ap (page_at v (user_file v)) (let s : first / 32 ≡ u / 32 = omega arith in s))

  pub absent-user : q ≡ 0 → 0 < used (user v u) → ⊥
  unfolding used
  absent-user z i = omega (arith, ap (λ (w : Words). w 0) user-at, absent-word v q u 0 z)

-- an absent page
module _ (v : Vol) (q first : ℕ) (f : first % 32 ≡ 0) (at : q ≡ user_page v first) (z : q ≡ 0) where
  pub sum-absent : (k : ℕ) → 0 ≡ sum 32 (λ i. count_in k (user v (first + i)))
  sum-absent k =
      sym (sum-none 32 (λ i. count_in k (user v (first + i))) (λ i h. sym (count-unused k (user v (first + i)) (absent-user v q first (first + i) f (omega arith) (omega arith) at z))))

  pub users-absent : UsersRight v first (first + 32)
  users-absent u l h i = absurd (absent-user v q first u f h l at z i)

-- ---- sums

-- the given pages
pub grants-sum : (v : Vol) → sum 256 (λ u. count_in 14 (user v u)) ≡ sum 256 (grant (user v))
unfolding count_in grant given
grants-sum v = sum-ext 256 (λ u. count_in 14 (user v u)) (grant (user v)) (λ u h. refl)

-- an unused user has none
pub none-held : (v : Vol) → Rule6 (user v) (object v) → (u : ℕ) → u < 256 → (0 < used (user v u) → ⊥) → 0 ≡ pages_of v u
unfolding Rule6Over
none-held v r6 u h n = pages-none v u (λ i k a b j. n (r6.0 u (32 * i + k) h (omega arith) (subst (λ (e : ℕ). 0 < used (object v e)) (here i k) j)).owner)
  where
    here : (i k : ℕ) → 32 * (8 * u + i) + k ≡ file_entry u (32 * i + k)
    here i k = omega arith

-- the used pages, where they are those of the files
module _ (P : ℕ) (v : Vol) (r6 : Rule6 (user v) (object v)) (r7 : Rule7 P v) (right : UsersRight v 0 256) where
  taken_at : (u : ℕ) → u < 256 → count_in 16 (user v u) ≡ mine v u some
  taken_at u h = elim (dec_lt 0 (used (user v u))) [
    | yes i ↦ sym (count-used 16 (user v u) i) ∙ right u h zero-le i
    | no i ↦ sym (count-unused 16 (user v u) i) ∙ none-held v r6 u h i
  ] ∙ mine-pages P v r7 u h

  pub taken-sum : sum 256 (λ u. count_in 16 (user v u)) ≡ sum 256 (λ u. mine v u some)
  taken-sum = sum-ext 256 (λ u. count_in 16 (user v u)) (λ u. mine v u some) taken_at

-- unreserved pages a, given pages g, visits n, P pages t and the files' pages h, as code has them
module _ (P : ℕ) (v : Vol) (a g n t h : ℕ) (ea : a ≡ two (v 0) unreserved_count) (eg : g ≡ sum 256 (grant (user v))) (en : n ≡ 1 + all P v some) (et : t ≡ P) (eh : h ≡ sum 256 (λ u. mine v u some)) where
  pub decides-sum : Decides (eqb (a + g + n) (t + h)) (unreserved v + sum 256 (grant (user v)) + system_pages P v ≡ P)
  unfolding all system_pages unreserved
  decides-sum = decides-iff (eqb (a + g + n) (t + h)) _ _ (λ d. omega arith) (λ d. omega arith) (decides_eq (a + g + n) (t + h))

-- ---- rule 10, by the parts that the code judges

module _ (P : ℕ) (v : Vol) (r7 : Rule7 P v) where
  pub decides-10 : (r : Bool) → UsersRight v 0 256 → Decides r (unreserved v + sum 256 (grant (user v)) + system_pages P v ≡ P) → Decides r (Rule10 P v)
  unfolding Rule10 used_pages
  decides-10 r f d = decides_and r _ _ (λ u h i. f u h zero-le i ∙ mine-pages P v r7 u h) d

  pub wrong-10 : (UsersRight v 0 256 → ⊥) → Rule10 P v → ⊥
  unfolding Rule10 used_pages
  wrong-10 f r = f (λ u h i j. r.0 u h j ∙ sym (mine-pages P v r7 u h))
