-- The trees at roots: what a change of some pages leaves alone, where the pointers of the master page stay (Roots). Assumes nothing.
use Rattle.std.specs.Prelude.{◌≡◌, ◌≢◌, ℕ, zero, suc, ◌+◌, ◌-◌, ◌*◌, ◌/◌, ◌%◌, ◌^◌, ◌≤◌, ◌<◌}
use Rattle.std.proofs.Math.Path.{refl, sym, ap}
use Rattle.std.proofs.Common.{◌∙◌, subst, zero-le, one-mul, zero-mul, not-suc-le-zero, arith}
use Rattle.std.proofs.Math.Decide.{dec_lt}
use Rattle.sums.specs.Search.{pick}
use Rattle.sums.specs.Sum.{sum, sum-ext, sum-at, sum-at₂, sum-change, sum-none, sum-add}
use Rattle.book.specs.Bits.{bit_file, bit_pages, bit_page, page_bits}
use Rattle.book.specs.Entries.{entry, user_file, object_file, object, used}
use Rattle.book.specs.Files.{file_at}
use Rattle.book.specs.Holders.{mine, system, all}
use Rattle.book.specs.Pointers.{page, Zero, bit_pointer, object_pointer, unreserved_count, user_pointer}
use Rattle.book.specs.Trees.{Root, tree, run, weigh, weigh_r, blocks, blocks_r, leaf, page_at, upto, root_at}
use Rattle.book.specs.Words.{Vol, two, word}
use Rattle.laws.specs.Tree.Pointer.{root-0, zero_flags, root_at-ext, page-ext}
use Rattle.laws.specs.Tree.Slot.{Agree}
use Rattle.laws.specs.Tree.Weigh.{BelowR, weigh-frame, blocks-frame, leaf-frame, blocks-le, leaf-le, leaf-le₂, leaf-below, weigh-nobody, weigh-add, blocks-add}

pub upto-in : (n m x : ℕ) → n < m → upto n m x ≡ x
unfolding upto
upto-in n m x h = let e : 1 - (suc n - m) ≡ 1 = omega arith in ap (λ (c : ℕ). c * x) e ∙ one-mul x

pub upto-out : (n m x : ℕ) → m ≤ n → upto n m x ≡ 0
unfolding upto
upto-out n m x h = let e : 1 - (suc n - m) ≡ 0 = omega arith in ap (λ (c : ℕ). c * x) e ∙ zero-mul x

pub blocks_r-le : (v : Vol) (r : Root) (g : ℕ → ℕ) → blocks_r v r g ≤ weigh_r v r g
unfolding blocks_r weigh_r
blocks_r-le v (tree l t) g = blocks-le v g l t
blocks_r-le v (run s n) g = zero-le

-- a page of a tree, beside its blocks
pub page_at-le : (v : Vol) (g : ℕ → ℕ) → g 0 ≡ 0 → (r : Root) (n : ℕ) → blocks_r v r g + g (page_at v r n) ≤ weigh_r v r g
unfolding page_at blocks_r weigh_r
page_at-le v g g0 (tree l t) n = elim (dec_lt n (512 ^ l)) [
  | yes i ↦ subst (λ (x : ℕ). blocks v l t g + g x ≤ weigh v l t g) (sym (upto-in n (512 ^ l) (leaf v l t n) i)) (leaf-le v g l t n i)
  | no i ↦ subst (λ (x : ℕ). blocks v l t g + g x ≤ weigh v l t g) (sym (upto-out n (512 ^ l) (leaf v l t n) (omega arith))) (omega (arith, g0, blocks-le v g l t))
]
page_at-le v g g0 (run s m) n = elim (dec_lt n m) [
  | yes i ↦ subst (λ (x : ℕ). 0 + g x ≤ sum m (λ i. g (s + i))) (sym (upto-in n m (s + n) i)) (omega (arith, sum-at m (λ i. g (s + i)) n i))
  | no i ↦ subst (λ (x : ℕ). 0 + g x ≤ sum m (λ i. g (s + i))) (sym (upto-out n m (s + n) (omega arith))) (omega (arith, g0))
]

-- two positions
pub page_at-le₂ : (v : Vol) (g : ℕ → ℕ) → g 0 ≡ 0 → (r : Root) (n m : ℕ) → n ≢ m → g (page_at v r n) + g (page_at v r m) ≤ weigh_r v r g
unfolding page_at weigh_r
page_at-le₂ v g g0 (tree l t) n m ne = elim (dec_lt n (512 ^ l)) [
  | yes i ↦ elim (dec_lt m (512 ^ l)) [
    | yes j ↦ subst (λ (x : ℕ). g x + g (upto m (512 ^ l) (leaf v l t m)) ≤ weigh v l t g) (sym (upto-in n (512 ^ l) (leaf v l t n) i))
        (subst (λ (x : ℕ). g (leaf v l t n) + g x ≤ weigh v l t g) (sym (upto-in m (512 ^ l) (leaf v l t m) j)) (leaf-le₂ v g l t n m i j ne))
    | no j ↦ omega (arith, page_at-le v g g0 (tree l t) n, g0, ap g (upto-out m (512 ^ l) (leaf v l t m) (omega arith)))
  ]
  | no i ↦ omega (arith, page_at-le v g g0 (tree l t) m, g0, ap g (upto-out n (512 ^ l) (leaf v l t n) (omega arith)))
]
page_at-le₂ v g g0 (run s k) n m ne = elim (dec_lt n k) [
  | yes i ↦ elim (dec_lt m k) [
    | yes j ↦ omega (arith, ap g (upto-in n k (s + n) i), ap g (upto-in m k (s + m) j), sum-at₂ k (λ i. g (s + i)) n m i j ne)
    | no j ↦ omega (arith, page_at-le v g g0 (run s k) n, g0, ap g (upto-out m k (s + m) (omega arith)))
  ]
  | no i ↦ omega (arith, page_at-le v g g0 (run s k) m, g0, ap g (upto-out n k (s + n) (omega arith)))
]

pub page_at-below : (v : Vol) (P : ℕ) → 0 < P → (r : Root) → BelowR v P r → (n : ℕ) → page_at v r n < P
unfolding page_at BelowR
page_at-below v P h (tree l t) b n = elim (dec_lt n (512 ^ l)) [
  | yes i ↦ omega (arith, upto-in n (512 ^ l) (leaf v l t n) i, leaf-below v P l t n i b)
  | no i ↦ omega (arith, upto-out n (512 ^ l) (leaf v l t n) (omega arith))
]
page_at-below v P h (run s m) b n = elim (dec_lt n m) [
  | yes i ↦ omega (arith, upto-in n m (s + n) i)
  | no i ↦ omega (arith, upto-out n m (s + n) (omega arith))
]

pub weigh_r-nobody : (v : Vol) (g : ℕ → ℕ) → ((x : ℕ) → g x ≡ 0) → (r : Root) → weigh_r v r g ≡ 0
unfolding weigh_r
weigh_r-nobody v g h (tree l t) = weigh-nobody v g h l t
weigh_r-nobody v g h (run s n) = sum-none n (λ i. g (s + i)) (λ i l. h (s + i))

pub weigh_r-add : (v : Vol) (g h : ℕ → ℕ) (r : Root) → weigh_r v r (λ x. g x + h x) ≡ weigh_r v r g + weigh_r v r h
unfolding weigh_r
weigh_r-add v g h (tree l t) = weigh-add v g h l t
weigh_r-add v g h (run s n) = sum-add n (λ i. g (s + i)) (λ i. h (s + i))

pub blocks_r-add : (v : Vol) (g h : ℕ → ℕ) (r : Root) → blocks_r v r (λ x. g x + h x) ≡ blocks_r v r g + blocks_r v r h
unfolding blocks_r
blocks_r-add v g h (tree l t) = blocks-add v g h l t
blocks_r-add v g h (run s n) = refl

pub no_blocks : (v : Vol) (r : Root) → blocks_r v r (λ x. 0) ≡ 0
no_blocks v r = omega (arith, blocks_r-le v r (λ x. 0), weigh_r-nobody v (λ x. 0) (λ x. refl) r)

-- a pointer of zeros has no page
pub zero-none : (v : Vol) (w : ℕ → ℕ) (k : ℕ) → Zero w k → (i : ℕ) → page_at v (root_at w k 0) i ≡ 0
unfolding page_at
zero-none v w k z i = ap (λ (r : Root). page_at v r i) (root-0 w k 0 (zero_flags w k z)) ∙ upto-out i 0 _ zero-le

pub used-page : (v : Vol) (r : Root) (n : ℕ) → 0 < used (entry v r n) → 0 < page_at v r (n / 32)
unfolding used entry word
used-page v r n h = go (page_at v r (n / 32)) h
  where
    go : (p : ℕ) → 0 < word v p (32 * (n % 32) + 0) / 32768 → 0 < p
    go zero i = absurd (not-suc-le-zero i)
    go (suc p) i = omega arith

-- the words of an entry that say what the file is
pub record Kept (w x : ℕ → ℕ) : Type 0 where
  pub head : w 0 ≡ x 0
  pub pages : two w 26 ≡ two x 26
  pub ptr : w 30 ≡ x 30
  pub ptr' : w 31 ≡ x 31

pub file-kept : (v v' : Vol) (e : ℕ) → Kept (object v' e) (object v e) → file_at v' e ≡ file_at v e
unfolding file_at used pick
file-kept v v' e k =
    ap (λ (x : ℕ). pick (x / 32768) (root_at (object v' e) 30 (two (object v' e) 26)) (run 0 0)) k.head ∙ go (object v e 0 / 32768)
  where
    go : (x : ℕ) → pick x (root_at (object v' e) 30 (two (object v' e) 26)) (run 0 0) ≡ pick x (root_at (object v e) 30 (two (object v e) 26)) (run 0 0)
    go zero = refl
    go (suc x) = root_at-ext (object v' e) (object v e) 30 (two (object v' e) 26) k.ptr k.ptr' ∙ ap (root_at (object v e) 30) k.pages

-- ---- pages at which C is 0 stay

module _ (v v' : Vol) (C : ℕ → ℕ) (same : Agree C v v') where
  pub weigh_r-frame : (r : Root) → blocks_r v r C ≡ 0 → (g : ℕ → ℕ) → weigh_r v' r g ≡ weigh_r v r g
  unfolding weigh_r blocks_r
  weigh_r-frame (tree l t) h g = weigh-frame v v' C same l t h g
  weigh_r-frame (run s n) h g = refl

  pub blocks_r-frame : (r : Root) → blocks_r v r C ≡ 0 → (g : ℕ → ℕ) → blocks_r v' r g ≡ blocks_r v r g
  unfolding blocks_r
  blocks_r-frame (tree l t) h g = blocks-frame v v' C same l t h g
  blocks_r-frame (run s n) h g = refl

  pub page_at-frame : (r : Root) → blocks_r v r C ≡ 0 → (n : ℕ) → page_at v' r n ≡ page_at v r n
  unfolding page_at blocks_r
  page_at-frame (tree l t) h n = elim (dec_lt n (512 ^ l)) [
    | yes i ↦ ap (upto n (512 ^ l)) (leaf-frame v v' C same l t h n i)
    | no i ↦ upto-out n (512 ^ l) (leaf v' l t n) (omega arith) ∙ sym (upto-out n (512 ^ l) (leaf v l t n) (omega arith))
  ]
  page_at-frame (run s m) h n = refl

  pub entry_frame : C 0 ≡ 0 → (r : Root) → weigh_r v r C ≡ 0 → (n k : ℕ) → entry v' r n k ≡ entry v r n k
  unfolding entry Agree
  entry_frame c0 r h n k =
      let le : blocks_r v r C + C (page_at v r (n / 32)) ≤ weigh_r v r C = page_at-le v C c0 r (n / 32) in
      ap (λ (p : ℕ). word v' p (32 * (n % 32) + k)) (page_at-frame r (omega arith) (n / 32))
      ∙ same (page_at v r (n / 32)) (omega arith) (32 * (n % 32) + k)

-- a change that leaves the pointers of the master page
unfoldable pub Roots : Vol → Vol → Type 0
Roots v v' = (k : ℕ) → object_pointer ≤ k → k < unreserved_count → v' 0 k ≡ v 0 k

module _ (v v' : Vol) (R : Roots v v') where
  pub users-root : user_file v' ≡ user_file v
  unfolding user_file Roots
  users-root = root_at-ext (v' 0) (v 0) user_pointer 0 (R user_pointer (omega arith) (omega arith)) (R (suc user_pointer) (omega arith) (omega arith))

  pub objs-root : object_file v' ≡ object_file v
  unfolding object_file Roots
  objs-root = root_at-ext (v' 0) (v 0) object_pointer 0 (R object_pointer (omega arith) (omega arith)) (R (suc object_pointer) (omega arith) (omega arith))

  pub bits-root : (P : ℕ) → bit_file P v' ≡ bit_file P v
  unfolding bit_file Roots page
  bits-root P = ap (λ (t : ℕ). run t (bit_pages P)) (page-ext (v' 0) (v 0) bit_pointer (R bit_pointer (omega arith) (omega arith)) (R (suc bit_pointer) (omega arith) (omega arith)))

-- the pages of the bit file are told by the master page, and so is where a page's bit lies
pub bits-same : (P : ℕ) (v w : Vol) → Roots v w → (n : ℕ) → page_at w (bit_file P w) n ≡ page_at v (bit_file P v) n
unfolding bit_file page_at
bits-same P v w R n = ap (λ (r : Root). page_at w r n) (bits-root v w R P)

pub bit_page-root : (P : ℕ) (v w : Vol) → Roots v w → (p : ℕ) → bit_page P w p ≡ bit_page P v p
unfolding bit_page
bit_page-root P v w R p = bits-same P v w R (p / page_bits)

module _ (P : ℕ) (v v' : Vol) (g : ℕ → ℕ) (a b : ℕ) (ha : a < 256) (hb : b < 256)
    (wb : weigh_r v' (bit_file P v') g ≡ weigh_r v (bit_file P v) g) (wu : weigh_r v' (user_file v') g ≡ weigh_r v (user_file v) g) (wo : weigh_r v' (object_file v') g ≡ weigh_r v (object_file v) g)
    (wf : (u f : ℕ) → u < 256 → f < 256 → 256 * u + f ≢ 256 * a + b → weigh_r v' (file_at v' (256 * u + f)) g ≡ weigh_r v (file_at v (256 * u + f)) g) where
  pub mine-other : (u : ℕ) → u < 256 → u ≢ a → mine v' u g ≡ mine v u g
  unfolding mine
  mine-other u h n = sum-ext 256 _ _ (λ f i. wf u f h i (omega arith))

  pub mine-change : mine v' a g + weigh_r v (file_at v (256 * a + b)) g ≡ mine v a g + weigh_r v' (file_at v' (256 * a + b)) g
  unfolding mine
  mine-change = sum-change 256 (λ f. weigh_r v (file_at v (256 * a + f)) g) (λ f. weigh_r v' (file_at v' (256 * a + f)) g) b hb (λ f i n. wf a f ha i (omega arith))

  pub all-change : all P v' g + weigh_r v (file_at v (256 * a + b)) g ≡ all P v g + weigh_r v' (file_at v' (256 * a + b)) g
  unfolding all system
  all-change = omega (arith, wb, wu, wo, mine-change, sum-change 256 (λ u. mine v u g) (λ u. mine v' u g) a ha (λ u i n. mine-other u i n))
