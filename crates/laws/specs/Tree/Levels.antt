-- Pages and blocks of a tree of one and of two levels by slots; the pages that the last position of a file needs. Assumes nothing.
use Rattle.std.specs.Prelude.{◌≡◌, ◌≢◌, ℕ, zero, suc, ◌+◌, ◌-◌, ◌*◌, ◌/◌, ◌%◌, ◌^◌, ◌≤◌, ◌<◌, min}
use Rattle.std.proofs.Math.Path.{refl, ap}
use Rattle.std.proofs.Common.{sym, ◌∙◌, div-one, mod-lt, div-add-mod'}
use Rattle.std.proofs.Math.Decide.{dec_lt}
use native.Mathlib.Omega.{arith}
use Rattle.sums.specs.Sum.{is, is_same, is-other, sum-le}
use Rattle.book.specs.Files.{Shape, need}
use Rattle.book.specs.Pointers.{slot}
use Rattle.book.specs.Trees.{Root, tree, run, blocks, blocks_r, leaf, upto, page_at, index_at, subindex_of, root_by, Fill}
use Rattle.book.specs.Words.{Vol}
use Rattle.laws.specs.Frame.Roots.{upto-in, upto-out, page_at-frame}
use Rattle.laws.specs.Tree.Positions.{root-one, root-two}
use Rattle.laws.specs.Tree.Slot.{Agree}
use Rattle.laws.specs.Tree.Weigh.{pow_pos, slot_lt}

module _ (v : Vol) (t : ℕ) where
  pub page-1 : (m : ℕ) → m < 512 → page_at v (tree 1 t) m ≡ slot v t m
  unfolding root_by
  page-1 m h = root-one v 1 t 0 m refl h

  pub page-2 : (m : ℕ) → m < 262144 → page_at v (tree 2 t) m ≡ slot v (slot v t (m / 512)) (m % 512)
  unfolding root_by
  page-2 m h = root-two v 2 t 0 m refl h

  pub index-1 : index_at v (tree 1 t) 0 ≡ t
  unfolding index_at leaf
  index-1 = upto-in 0 1 t (omega arith)

  pub index-2 : (m : ℕ) → m < 512 → index_at v (tree 2 t) m ≡ slot v t m
  unfolding index_at leaf
  index-2 m h = upto-in m 512 (slot v t (m / 1)) h ∙ ap (slot v t) (div-one m)

-- index blocks are read from blocks alone
blocks-up : (v : Vol) (g : ℕ → ℕ) (l t : ℕ) → blocks v l t g ≤ blocks v (suc l) t g
unfolding blocks
blocks-up v g zero t = omega arith
blocks-up v g (suc l) t = omega (arith, sum-le 512 (λ k. blocks v l (slot v t k) g) (λ k. blocks v (suc l) (slot v t k) g) (λ k h. blocks-up v g l (slot v t k)))

pub index_at-frame : (v v' : Vol) (C : ℕ → ℕ) → Agree C v v' → (r : Root) → blocks_r v r C ≡ 0 → (n : ℕ) → index_at v' r n ≡ index_at v r n
unfolding index_at blocks_r page_at
index_at-frame v v' C A (tree zero t) h n = refl
index_at-frame v v' C A (tree (suc l) t) h n = page_at-frame v v' C A (tree l t) (omega (arith, h, blocks-up v C l t)) n
index_at-frame v v' C A (run s m) h n = refl

-- ---- no page past the last

pub leaf-none : (v : Vol) (l t n : ℕ) → Fill v l t n → (m : ℕ) → n ≤ m → m < 512 ^ l → leaf v l t m ≡ 0
unfolding Fill leaf
leaf-none v zero t n F m h i = F.1 (omega (arith, i))
leaf-none v (suc l) t n F m h i =
    let j : ℕ = m / 512 ^ l in
    leaf-none v l (slot v t j) (min (n - j * 512 ^ l) (512 ^ l)) (F.2 j (slot_lt l m i)) (m % 512 ^ l)
    (omega (arith, div-add-mod' m (512 ^ l))) (mod-lt m (pow_pos l))

pub page-none : (P : ℕ) (v : Vol) (x t n : ℕ) → Shape P v x t n → (m : ℕ) → n ≤ m → page_at v (root_by x t n) m ≡ 0
unfolding Shape root_by page_at
page-none P v zero t n s m h = upto-out m n (t + m) h
page-none P v (suc zero) t n s m h = elim (dec_lt m 512) [
  | yes i ↦ ap (upto m 512) (leaf-none v 1 t n s.2 m h i) ∙ upto-in m 512 0 i
  | no i ↦ upto-out m 512 (leaf v 1 t m) (omega arith)
]
page-none P v (suc (suc zero)) t n s m h = elim (dec_lt m 262144) [
  | yes i ↦ ap (upto m 262144) (leaf-none v 2 t n s.2 m h i) ∙ upto-in m 262144 0 i
  | no i ↦ upto-out m 262144 (leaf v 2 t m) (omega arith)
]
page-none P v (suc (suc (suc x))) t n s m h = absurd s

-- ---- the pages that position n of a file needs and the positions below it do not: its own, its index block if it is the first there, the subindex block at 512

unfoldable pub last : Vol → Root → ℕ → (ℕ → ℕ) → ℕ
last v r n g = g (page_at v r n) + is (n % 512) 0 * g (index_at v r (n / 512)) + is n 512 * g (subindex_of r)

is-yes : {x y : ℕ} → x ≡ y → is x y ≡ 1
is-yes {x} {y} q = ap (is x) (sym q) ∙ is_same x

module _ (v : Vol) (r : Root) (n : ℕ) (g : ℕ → ℕ) where
  abbrev first : ℕ
  first = g (index_at v r (n / 512))

  abbrev above : ℕ
  above = g (subindex_of r)

  pub last-mid : 0 < n % 512 → last v r n g ≡ g (page_at v r n)
  unfolding last
  last-mid h = omega (arith, ap (λ (x : ℕ). x * first) (is-other (n % 512) 0 (omega arith)), ap (λ (x : ℕ). x * above) (is-other n 512 (λ q. omega (arith, h, q))))

  pub last_block : n % 512 ≡ 0 → n ≢ 512 → last v r n g ≡ g (page_at v r n) + first
  unfolding last
  last_block h i = omega (arith, ap (λ (x : ℕ). x * first) (is-yes h), ap (λ (x : ℕ). x * above) (is-other n 512 i))

  pub last-raise : n ≡ 512 → last v r n g ≡ g (page_at v r n) + first + above
  unfolding last
  last-raise h = omega (arith, ap (λ (x : ℕ). x * first) (is-yes (let q : n % 512 ≡ 0 = omega arith in q)), ap (λ (x : ℕ). x * above) (is-yes h))

-- as many as these does growing ask for
pub need-mid : (n : ℕ) → 0 < n % 512 → need n ≡ 1
unfolding need
need-mid n h = omega (arith, is-other (n % 512) 0 (omega arith), is-other n 512 (λ q. omega (arith, h, q)))

pub need-block : (n : ℕ) → n % 512 ≡ 0 → n ≢ 512 → need n ≡ 2
unfolding need
need-block n h i = omega (arith, is-yes h, is-other n 512 i)

pub need-raise : (n : ℕ) → n ≡ 512 → need n ≡ 3
unfolding need
need-raise n h = omega (arith, is-yes (let q : n % 512 ≡ 0 = omega arith in q), is-yes h)
