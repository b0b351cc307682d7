-- The text of an image of at most 32 pages has at most 65,536 bytes: an entry has a line, and the pages of entries are system pages. Assumes nothing.
use mathlib.Core.Path.{◌≡◌, refl, sym, ap, subst, ◌∙◌}
use mathlib.Core.Logic.{inl, inr}
use mathlib.Core.List.{List, [], ◌∷◌, ◌++◌}
use Prim.Native.Nat.{ℕ, zero, suc, ◌+◌, ◌*◌, ◌/◌, ◌%◌, ◌^◌, ◌≤◌, ◌<◌, zero-le}
use native.Mathlib.Nat.{le_refl, le_trans, le_of_suc-le-suc, not-suc-le-zero, eq-zero-or-pos, add-zero, add-suc, add_assoc, suc-mul, zero-mul, mul_comm, pow-suc}
use native.Mathlib.Decide.{dec_lt, ℕ_discrete}
use native.Mathlib.Omega.{arith}
use lib.Arith.{digits_div, digits_mod}
use lib.ListN.{length, get_or, take, length-append}
use lib.Seq.{length-take-le, get_or-take, ext_get_or}
use Rattle.sums.specs.Sum.{sum, sum-zero, sum-suc, sum-ext, sum-add, sum-le, sum-const, sum-mul}
use Rattle.sums.specs.Search.{pick, pick_yes, pick_no}
use Rattle.book.specs.Words.{Vol, vol, word}
use Rattle.book.specs.Pointers.{slot}
use Rattle.book.specs.Trees.{Root, tree, run, weigh, weigh_r, leaf, upto, page_at}
use Rattle.book.specs.Bits.{bit_pages, bit_file}
use Rattle.book.specs.Entries.{user, object, user_file, object_file, entry, entry_page, entry_word, used, file_entry, object_pages}
use Rattle.book.specs.Holders.{some, system, system_pages}
use Rattle.book.specs.Rules.{Rule10, Sound}
use Rattle.book.specs.Rows.{Lowest, Clear}
use Rattle.book.specs.Image.{pages}
use Rattle.book.specs.Outcome.{Outcome, call, asking, judged}
use Rattle.book.specs.Calls.{check_call}
use Rattle.book.specs.Listing.{Bytes, joined, file_line, file_lines, file_of, user_line, user_lines, head_line, listing, refused_line, report, Listed, Shown, Reported}
use Rattle.laws.specs.Count.Pages.{run-count}
use Rattle.laws.specs.Frame.Roots.{upto-in, upto-out}
use Rattle.laws.specs.Tree.Slot.{some-zero, some-pos}
use Rattle.listing.proofs.Lengths.{joined_length, head-length, user-length, file-length, refused-length}

-- ---- sums over rows

sum_more : (n m : ℕ) (h : ℕ → ℕ) → n ≤ m → sum n h ≤ sum m h
unfolding sum
sum_more n zero h l = subst (λ (k : ℕ). sum k h ≤ 0) (let z : 0 ≡ n = omega arith in z) zero-le
sum_more n (suc m) h l = elim (ℕ_discrete n (suc m)) [
  | yes e ↦ subst (λ (k : ℕ). sum k h ≤ sum m h + h m) (sym e) (le_refl (sum m h + h m))
  | no ne ↦ omega (arith, sum_more n m h (omega arith))
]

sum-plus : (n m : ℕ) (h : ℕ → ℕ) → sum n h + sum m (λ j. h (n + j)) ≡ sum (n + m) h
unfolding sum
sum-plus n zero h = add-zero (sum n h) ∙ ap (λ (k : ℕ). sum k h) (sym (add-zero n))
sum-plus n (suc m) h = sym (add_assoc (sum n h) (sum m (λ j. h (n + j))) (h (n + m))) ∙ ap (λ (x : ℕ). x + h (n + m)) (sum-plus n m h)
    ∙ ap (λ (k : ℕ). sum k h) (sym (add-suc n m))

-- n rows of k are all below n * k
sum_rows : (n k : ℕ) (h : ℕ → ℕ) → sum n (λ i. sum k (λ j. h (i * k + j))) ≡ sum (n * k) h
unfolding sum
sum_rows zero k h = ap (λ (x : ℕ). sum x h) (sym (zero-mul k))
sum_rows (suc n) k h = ap (λ (x : ℕ). x + sum k (λ j. h (n * k + j))) (sum_rows n k h) ∙ sum-plus (n * k) k h ∙ ap (λ (x : ℕ). sum x h) (sym (suc-mul n k))

-- what each of 32 entries of a page weighs alike
sum-entries : (n c : ℕ) (h : ℕ → ℕ) → sum (n * 32) (λ e. h (e / 32) * c) ≡ sum n h * (32 * c)
sum-entries n c h =
    sym (sum_rows n 32 (λ e. h (e / 32) * c))
    ∙ sum-ext n (λ i. sum 32 (λ j. h ((i * 32 + j) / 32) * c)) (λ i. h i * (32 * c)) row
    ∙ sum-mul n h (32 * c)
  where
    row : (i : ℕ) → i < n → sum 32 (λ j. h ((i * 32 + j) / 32) * c) ≡ h i * (32 * c)
    row i l =
        sum-ext 32 (λ j. h ((i * 32 + j) / 32) * c) (λ j. h i * c) (λ j b. ap (λ (x : ℕ). h x * c) (let q : (i * 32 + j) / 32 ≡ i = omega arith in q))
        ∙ sum-const 32 (h i * c) ∙ (let q : 32 * (h i * c) ≡ h i * (32 * c) = omega arith in q)

-- ---- the pages of a file, each weighed once

-- the pages at the bottom of a tree
leaves-weigh : (v : Vol) (g : ℕ → ℕ) (l t : ℕ) → sum (512 ^ l) (λ n. g (leaf v l t n)) ≤ weigh v l t g
unfolding leaf weigh
leaves-weigh v g zero t = omega (arith, sum-suc 0 (λ n. g t), sum-zero (λ n. g t))
leaves-weigh v g (suc l) t = omega (
  arith,
  sum_rows 512 (512 ^ l) F,
  ap (λ (x : ℕ). sum x F) (pow-suc 512 l ∙ mul_comm (512 ^ l) 512),
  sum-le 512 (λ i. sum (512 ^ l) (λ j. F (i * 512 ^ l + j))) (λ k. weigh v l (slot v t k) g) (λ i h. row i (leaves-weigh v g l (slot v t i))),
)
  where
    F : ℕ → ℕ
    F n = g (leaf v l (slot v t (n / 512 ^ l)) (n % 512 ^ l))

    under : (i j : ℕ) → j < 512 ^ l → F (i * 512 ^ l + j) ≡ g (leaf v l (slot v t i) j)
    under i j h =
        ap (λ (x : ℕ). g (leaf v l (slot v t x) ((i * 512 ^ l + j) % 512 ^ l))) (digits_div i h)
        ∙ ap (λ (x : ℕ). g (leaf v l (slot v t i) x)) (digits_mod i h)

    row : (i : ℕ) → sum (512 ^ l) (λ j. g (leaf v l (slot v t i) j)) ≤ weigh v l (slot v t i) g → sum (512 ^ l) (λ j. F (i * 512 ^ l + j)) ≤ weigh v l (slot v t i) g
    row i below = omega (arith, below, sum-ext (512 ^ l) (λ j. F (i * 512 ^ l + j)) (λ j. g (leaf v l (slot v t i) j)) (under i))

module _ (g : ℕ → ℕ) (none : g 0 ≡ 0) where
  -- positions past the last weigh nothing
  cut : (x : ℕ → ℕ) (m n : ℕ) → sum n (λ p. g (upto p m (x p))) ≤ sum m (λ p. g (x p))
  cut x m zero = omega (arith, sum-zero (λ p. g (upto p m (x p))))
  cut x m (suc n) = elim (dec_lt n m) [
    | yes h ↦ omega (
      arith,
      sum-ext (suc n) (λ p. g (upto p m (x p))) (λ p. g (x p)) (λ p i. ap g (upto-in p m (x p) (omega arith))),
      sum_more (suc n) m (λ p. g (x p)) (omega arith),
    )
    | no h ↦ omega (arith, sum-suc n (λ p. g (upto p m (x p))), ap g (upto-out n m (x n) (omega arith)), none, cut x m n)
  ]

  pages-weigh : (v : Vol) (r : Root) (n : ℕ) → sum n (λ p. g (page_at v r p)) ≤ weigh_r v r g
  unfolding page_at weigh_r
  pages-weigh v (tree l t) n = le_trans (cut (leaf v l t) (512 ^ l) n) (leaves-weigh v g l t)
  pages-weigh v (run s m) n = cut (λ i. s + i) m n

-- ---- the lines of the entries

some-le : (x : ℕ) → some x ≤ 1
unfolding some
some-le zero = zero-le
some-le (suc x) = le_refl 1

-- an entry that is used has a page
word-there : (v : Vol) (q k : ℕ) → some (word v q k / 32768) ≤ some q
unfolding word some
word-there v zero k = zero-le
word-there v (suc q) k = some-le (v (suc q) k / 32768)

used-there : (v : Vol) (r : Root) (n : ℕ) → some (used (entry v r n)) ≤ some (page_at v r (entry_page n))
unfolding used entry
used-there v r n = word-there v (page_at v r (entry_page n)) (entry_word n + 0)

-- a line or none
line-some : (x : ℕ) (s : Bytes) (m : ℕ) → length s ≤ m → length (pick x s []) ≤ some x * m
unfolding pick some
line-some zero s m h = zero-le
line-some (suc x) s m h = omega (arith, h)

module _ (v : Vol) where
  -- 1 for each page of users, and of objects, that is there
  abbrev U : ℕ → ℕ
  U p = some (page_at v (user_file v) p)

  abbrev O : ℕ → ℕ
  O p = some (page_at v (object_file v) p)

  file-lines : (u f : ℕ) → length (file_of v u f) ≤ O ((u * 256 + f) / 32) * 66
  unfolding file_of file_lines object
  file-lines u f =
      let e : ℕ = file_entry u f in
      let l : length (pick (used (object v e)) (file_line f (object v e)) []) ≤ some (used (object v e)) * 66 =
      line-some (used (object v e)) (file_line f (object v e)) 66 (file-length f (object v e)) in
      let t : some (used (object v e)) ≤ O (e / 32) = used-there v (object_file v) e in
      let q : O (e / 32) ≡ O ((u * 256 + f) / 32) = ap O (let r : (256 * u + f) / 32 ≡ (u * 256 + f) / 32 = omega arith in r) in
      omega (arith, l, t, q)

  user-lines : (u : ℕ) → length (user_lines v u) ≤ U (u / 32) * 66 + sum 256 (λ f. length (file_of v u f))
  unfolding user_lines user
  user-lines u =
      let t : some (used (user v u)) ≤ U (u / 32) = used-there v (user_file v) u in
      elim (eq-zero-or-pos (used (user v u))) [
        | inl z ↦ let n : length (user_lines v u) ≡ 0 = ap length (pick_no (used (user v u)) (user_line (user v) u ++ joined (file_of v u) 256) [] z) in omega (arith, n)
        | inr p ↦
            let n : length (user_lines v u) ≡ length (user_line (user v) u ++ joined (file_of v u) 256) =
            ap length (pick_yes (used (user v u)) (user_line (user v) u ++ joined (file_of v u) 256) [] p) in
            omega (
              arith,
              n,
              t,
              some-pos (used (user v u)) p,
              length-append (user_line (user v) u) (joined (file_of v u) 256),
              joined_length (file_of v u) 256,
              user-length (user v) u,
            )
      ]

  entry-lines : length (joined (user_lines v) 256) ≤ sum 8 U * 2112 + sum object_pages O * 2112
  entry-lines =
      let a : sum 256 (λ u. U (u / 32) * 66) ≡ sum 8 U * 2112 = sum-entries 8 66 U in
      let b : sum 65536 (λ e. O (e / 32) * 66) ≡ sum object_pages O * 2112 = sum-entries object_pages 66 O in
      let c : sum 256 (λ u. sum 256 (λ f. O ((u * 256 + f) / 32) * 66)) ≡ sum 65536 (λ e. O (e / 32) * 66) = sum_rows 256 256 (λ e. O (e / 32) * 66) in
      omega (
        arith,
        a,
        b,
        c,
        joined_length (user_lines v) 256,
        sum-le 256 (λ u. length (user_lines v u)) (λ u. U (u / 32) * 66 + sum 256 (λ f. O ((u * 256 + f) / 32) * 66)) of-user,
        sum-add 256 (λ u. U (u / 32) * 66) (λ u. sum 256 (λ f. O ((u * 256 + f) / 32) * 66)),
      )
    where
      of-user : (u : ℕ) → u < 256 → length (user_lines v u) ≤ U (u / 32) * 66 + sum 256 (λ f. O ((u * 256 + f) / 32) * 66)
      of-user u h = omega (arith, user-lines u, sum-le 256 (λ f. length (file_of v u f)) (λ f. O ((u * 256 + f) / 32) * 66) (λ f l. file-lines u f))

-- ---- the text

-- the pages of users and objects are system pages, beside the master and the bit file
entry-pages : (P : ℕ) (v : Vol) → Sound P v → weigh_r v (user_file v) some + weigh_r v (object_file v) some + 2 ≤ P
unfolding Rule10 system_pages system bit_file
entry-pages P v S =
    let b : weigh_r v (bit_file P v) some ≡ bit_pages P = run-count v _ (bit_pages P) S.r1.start in
    omega (arith, b, S.r10.1, S.r1.start, S.r1.fits)

pub listing-length : (P : ℕ) (v : Vol) → P ≤ 32 → Sound P v → length (listing P v) ≤ 65536
unfolding listing
listing-length P v h S = omega (
  arith,
  length-append (head_line P v) (joined (user_lines v) 256),
  head-length P v,
  entry-lines v,
  pages-weigh some some-zero v (user_file v) 8,
  pages-weigh some some-zero v (object_file v) object_pages,
  entry-pages P v S,
)

-- a refusal has a number
lowest-not : (img : List ℕ) (n : ℕ) → Lowest (check_call img).table n → n ≡ 0 → ⊥
unfolding check_call call asking judged Lowest
lowest-not img n (inl e) z = omega (arith, e.0)
lowest-not img n (inr (w, inl e)) z = omega (arith, e.0)
lowest-not img n (inr (w, inr (x, inl e))) z = omega (arith, e.0)
lowest-not img n (inr (w, inr (x, inr e))) z = e.1

passed : (img : List ℕ) → Clear (check_call img).table → Sound (pages img) (vol img)
unfolding check_call call asking judged Clear
passed img c = c.1.1.0

pub text-length : (img : List ℕ) (t : Bytes) → length img ≤ 32768 → Listed img t → length t ≤ 65536
unfolding Listed report Outcome
text-length img t h (a, inl x, e) = elim (eq-zero-or-pos a.number) [
  | inl z ↦ absurd (lowest-not img a.number x.number z)
  | inr p ↦ omega (
    arith,
    ap length (e ∙ pick_yes a.number (refused_line a.number a.broken.rule) (listing (pages img) (vol img)) p),
    refused-length a.number a.broken.rule,
  )
]
text-length img t h (a, inr x, e) = omega (
  arith,
  ap length (e ∙ pick_no a.number (refused_line a.number a.broken.rule) (listing (pages img) (vol img)) x.number),
  listing-length (pages img) (vol img) (omega arith) (passed img x.clear),
)

-- ---- in a buffer of so many bytes

get_d_any : (l : Bytes) (i a b : ℕ) → i < length l → get_or l i a ≡ get_or l i b
get_d_any [] i a b h = absurd (not-suc-le-zero h)
get_d_any (x ∷ l) zero a b h = refl
get_d_any (x ∷ l) (suc i) a b h = get_d_any l i a b (le_of_suc-le-suc h)

-- a buffer that reaches shows all of a text
shown-all : (t o out : Bytes) (n : ℕ) → Shown t o out n → length t ≤ length o → take n out ≡ t
shown-all t o out n S h =
    let l : length (take n out) ≡ n = length-take-le n out (omega (arith, S.whole, S.size)) in
    ext_get_or 0 (take n out) t (l ∙ S.whole) (λ i b.
    get_or-take n out i 0 (omega (arith, l)) ∙ S.bytes i (omega (arith, l, S.whole)) ∙ get_d_any t i (get_or o i 0) 0 (omega (arith, l, S.whole)))

-- the front of the buffer is the text
pub whole-text : (img o out : List ℕ) (n : ℕ) → length img ≤ 32768 → 65536 ≤ length o → Reported img o out n → (n ≤ 65536) × Listed img (take n out)
whole-text img o out n h b (t, L, S) =
    let l : length t ≤ 65536 = text-length img t h L in
    (omega (arith, l, S.whole), subst (λ (x : Bytes). Listed img x) (sym (shown-all t o out n S (omega arith))) L)
