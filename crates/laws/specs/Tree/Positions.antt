-- The page at a position of a root, by its flags x, page t and count m: as code reads it. Assumes nothing.
use Rattle.std.specs.Prelude.{◌≡◌}
use Rattle.std.proofs.Math.Path.{ap}
use Rattle.std.proofs.Common.{◌∙◌, subst}
use Prim.Native.Nat.{ℕ, zero, suc, ◌+◌, ◌/◌, ◌%◌, ◌≤◌, ◌<◌}
use native.Mathlib.Omega.{arith}
use Rattle.book.specs.Pointers.{slot}
use Rattle.book.specs.Trees.{leaf, page_at, root_by, Below}
use Rattle.book.specs.Words.{Vol}
use Rattle.laws.specs.Frame.Roots.{upto-in, upto-out}
use Rattle.laws.specs.Tree.Weigh.{BelowR}

module _ (v : Vol) (x t m n : ℕ) where
  kind : (y : ℕ) → x ≡ y → page_at v (root_by x t m) n ≡ page_at v (root_by y t m) n
  kind y e = ap (λ (z : ℕ). page_at v (root_by z t m) n) e

  pub root-one : x ≡ 1 → n < 512 → page_at v (root_by x t m) n ≡ slot v t n
  unfolding root_by page_at leaf
  root-one e h = let q : n / 1 ≡ n = omega arith in kind 1 e ∙ upto-in n 512 (slot v t (n / 1)) h ∙ ap (slot v t) q

  pub root-one-past : x ≡ 1 → 512 ≤ n → page_at v (root_by x t m) n ≡ 0
  unfolding root_by page_at leaf
  root-one-past e h = kind 1 e ∙ upto-out n 512 (slot v t (n / 1)) h

  pub root-two : x ≡ 2 → n < 262144 → page_at v (root_by x t m) n ≡ slot v (slot v t (n / 512)) (n % 512)
  unfolding root_by page_at leaf
  root-two e h = let q : n % 512 / 1 ≡ n % 512 = omega arith in
      kind 2 e ∙ upto-in n 262144 (slot v (slot v t (n / 512)) (n % 512 / 1)) h ∙ ap (slot v (slot v t (n / 512))) q

  pub root-two-past : x ≡ 2 → 262144 ≤ n → page_at v (root_by x t m) n ≡ 0
  unfolding root_by page_at leaf
  root-two-past e h = kind 2 e ∙ upto-out n 262144 (slot v (slot v t (n / 512)) (n % 512 / 1)) h

  pub root-run : x ≡ 0 → n < m → page_at v (root_by x t m) n ≡ t + n
  unfolding root_by page_at
  root-run e h = kind 0 e ∙ upto-in n m (t + n) h

  pub root-run-past : x ≡ 0 → m ≤ n → page_at v (root_by x t m) n ≡ 0
  unfolding root_by page_at
  root-run-past e h = kind 0 e ∙ upto-out n m (t + n) h

  pub root-bad : 2 < x → page_at v (root_by x t m) n ≡ 0
  unfolding root_by page_at
  root-bad h = go x h
    where
      go : (y : ℕ) → 2 < y → page_at v (root_by y t m) n ≡ 0
      go zero h = absurd (let r : ⊥ = omega arith in r)
      go (suc zero) h = absurd (let r : ⊥ = omega arith in r)
      go (suc (suc zero)) h = absurd (let r : ⊥ = omega arith in r)
      go (suc (suc (suc y))) h = upto-out n 0 (0 + n) (omega arith)

-- the pages of a root that is below P
module _ (v : Vol) (P x t m : ℕ) (b : BelowR v P (root_by x t m)) where
  at : (y : ℕ) → x ≡ y → BelowR v P (root_by y t m)
  at y e = subst (λ (z : ℕ). BelowR v P (root_by z t m)) e b

  pub root_below : (l : ℕ) → x ≡ suc l → l < 2 → Below v P (suc l) t
  unfolding root_by BelowR
  root_below zero e h = at 1 e
  root_below (suc zero) e h = at 2 e
  root_below (suc (suc l)) e h = absurd (let r : ⊥ = omega arith in r)

  pub run-below : x ≡ 0 → t + m ≤ P
  unfolding root_by BelowR
  run-below e = at 0 e

  pub slots-one : x ≡ 1 → (k : ℕ) → k < 512 → (t < P) × (slot v t k < P)
  unfolding Below
  slots-one e k h = let c = root_below 0 e (omega arith) in (c.0, c.1 k h)

  pub slots-two : x ≡ 2 → (k j : ℕ) → k < 512 → j < 512 → (t < P) × (slot v t k < P) × (slot v (slot v t k) j < P)
  unfolding Below
  slots-two e k j h i = let c = root_below 1 e (omega arith) in (c.0, (c.1 k h).0, (c.1 k h).1 j i)
