-- The kind of a file by its flags and page count, and that each of its positions has a page. Assumes nothing.
use Rattle.std.specs.Prelude.{◌≡◌}
use Rattle.std.proofs.Math.Path.{refl}
use Rattle.std.proofs.Common.{sym, subst, inl, inr, eq-zero-or-pos, mod-lt, div-add-mod', arith}
use Prim.Native.Nat.{ℕ, zero, suc, ◌≤◌, ◌<◌, ◌+◌, ◌-◌, ◌*◌, ◌/◌, ◌%◌, ◌^◌, min}
use Rattle.book.specs.Entries.{object, used, file_pointer, page_count}
use Rattle.book.specs.Files.{Shape, IsRun, file_at, FileShape}
use Rattle.book.specs.Pointers.{flags, page, slot}
use Rattle.book.specs.Rules.{Rule7, Sound}
use Rattle.book.specs.Trees.{Root, leaf, page_at, Fill, root_at, root_by}
use Rattle.book.specs.Words.{Vol}
use Rattle.laws.specs.Frame.Roots.{upto-in}
use Rattle.laws.specs.Tree.Pointer.{file-used}
use Rattle.laws.specs.Tree.Weigh.{pow_pos, slot_lt}

module _ (P : ℕ) (v : Vol) (t n : ℕ) where
  pub kind-empty : (x : ℕ) → Shape P v x t n → n ≡ 0 → x ≡ 0
  unfolding Shape
  kind-empty zero s z = refl
  kind-empty (suc zero) s z = absurd (let q : ⊥ = omega (arith, s.0) in q)
  kind-empty (suc (suc zero)) s z = absurd (let q : ⊥ = omega (arith, s.0) in q)
  kind-empty (suc (suc (suc x))) s z = absurd s

  pub kind-low : (x : ℕ) → Shape P v x t n → (x ≡ 0 → n ≡ 0) → 0 < n → n ≤ 512 → x ≡ 1
  unfolding Shape
  kind-low zero s k i j = absurd (let q : ⊥ = omega (arith, k refl) in q)
  kind-low (suc zero) s k i j = refl
  kind-low (suc (suc zero)) s k i j = absurd (let q : ⊥ = omega (arith, s.0) in q)
  kind-low (suc (suc (suc x))) s k i j = absurd s

  pub kind-high : (x : ℕ) → Shape P v x t n → (x ≡ 0 → n ≡ 0) → 512 < n → x ≡ 2
  unfolding Shape
  kind-high zero s k i = absurd (let q : ⊥ = omega (arith, k refl) in q)
  kind-high (suc zero) s k i = absurd (let q : ⊥ = omega (arith, s.1) in q)
  kind-high (suc (suc zero)) s k i = refl
  kind-high (suc (suc (suc x))) s k i = absurd s

-- what the calls ask of the kind
pub grows-kind : (x n : ℕ) → (IsRun x n → ⊥) → x ≡ 0 → n ≡ 0
grows-kind x n g q = elim (eq-zero-or-pos n) [ inl z ↦ z | inr h ↦ absurd (g (q, h)) ]

-- ---- a position of a file has a page

fill-leaf : (v : Vol) (l t n m : ℕ) → Fill v l t n → m < n → m < 512 ^ l → 0 < leaf v l t m
unfolding Fill leaf
fill-leaf v zero t n m F h i = F.0 (omega arith)
fill-leaf v (suc l) t n m F h i =
    let L : ℕ = 512 ^ l in let k : ℕ = m / 512 ^ l in
    fill-leaf v l (slot v t k) (min (n - k * L) L) (m % L) (F.2 k (slot_lt l m i)) (omega (arith, mod-lt m (pow_pos l), div-add-mod' m L)) (mod-lt m (pow_pos l))

shape-page : (P : ℕ) (v : Vol) (x t n m : ℕ) → Shape P v x t n → m < n → 0 < page_at v (root_by x t n) m
unfolding Shape root_by page_at
shape-page P v zero t n m (inl a) h = absurd (let r : ⊥ = omega (arith, a.0) in r)
shape-page P v zero t n m (inr a) h = omega (arith, upto-in m n (t + m) h, a.1)
shape-page P v (suc zero) t n m a h = omega (arith, upto-in m 512 (leaf v 1 t m) (omega (arith, a.1)), fill-leaf v 1 t n m a.2 h (omega (arith, a.1)))
shape-page P v (suc (suc zero)) t n m a h = omega (arith, upto-in m 262144 (leaf v 2 t m) (omega (arith, a.1)), fill-leaf v 2 t n m a.2 h (omega (arith, a.1)))
shape-page P v (suc (suc (suc x))) t n m a h = absurd a

pub position-page : (P : ℕ) (v : Vol) → Sound P v → (e m : ℕ) → e < 65536 → 0 < used (object v e) → m < page_count (object v e) → 0 < page_at v (file_at v e) m
unfolding Rule7 FileShape root_at
position-page P v S e m he ue h = subst (λ (r : Root). 0 < page_at v r m) (sym (file-used v e ue))
    (shape-page P v (flags (object v e) file_pointer) (page (object v e) file_pointer) (page_count (object v e)) m (S.r7 e he ue).0 h)
