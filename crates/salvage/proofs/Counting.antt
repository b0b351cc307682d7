-- Counting what the files of each user hold, and what the sum leaves as unreserved. Assumes nothing.
use mathlib.Core.Path.{◌≡◌, sym, ◌∙◌, subst}
use mathlib.Core.Bool.{Bool, true, false}
use Rattle.std.proofs.Common.{Ok}
use mathlib.Core.List.{List}
use Prim.Native.Nat.{ℕ, ◌+◌, ◌-◌, ◌≤◌, ◌<◌}
use native.Mathlib.Nat.{not-suc-le-zero}
use native.Mathlib.Decide.{ℕ_discrete, dec_lt}
use native.Mathlib.Omega.{arith}
use lib.ListN.{length, get_or, set, length-set}
use lib.Seq.{get_or-set_same, get_or-set_other}
use Rattle.sums.specs.Sum.{sum, sum-ext}
use Rattle.book.specs.Entries.{user, used, given}
use Rattle.book.specs.Holders.{all, mine, some, system_pages}
use Rattle.book.specs.Rules.{Pointed}
use Rattle.book.specs.Salvage.{Affords, spent}
use Rattle.book.specs.Words.{Vol}
use Rattle.laws.specs.Count.Charge.{mine-pages}
use Rattle.shape.specs.Counts.{pages_of, count_in}
use Rattle.shape.proofs.Users.{count-used, none-held, grants-sum}
use Rattle.salvage.specs.Facts.{CountsBelow, Tallied, Counts, Balanced}

-- ---- the loop over the users

module _ (v : Vol) (c : List ℕ) where
  pub counted_start : length c ≡ 256 → CountsBelow v 0 c
  counted_start l = record { size = l; right = λ u h. absurd (not-suc-le-zero h) }

  pub counted-more : (u n : ℕ) → CountsBelow v u c → u < 256 → n ≡ pages_of v u → n ≤ count_in 14 (user v u) → CountsBelow v (u + 1) (set c u n)
  counted-more u n s h e l = record {
    size = length-set c u n ∙ s.size;
    right = λ i j. elim (ℕ_discrete i u) [
      | yes x ↦ subst (λ (k : ℕ). (get_or (set c u n) k 0 ≡ pages_of v k) × (pages_of v k ≤ count_in 14 (user v k))) (sym x)
          (get_or-set_same c u n 0 (omega (arith, s.size)) ∙ e, omega arith)
      | no x ↦ let r = s.right i (omega arith) in (get_or-set_other c u i n 0 x ∙ r.0, r.1)
    ];
  }

-- ---- by the answer of the loop

module _ (v : Vol) (c : List ℕ) (r : Bool) (k : Tallied v c r) where
  pub counting-yes : r ≡ true → CountsBelow v 256 c
  counting-yes e = subst (Tallied v c) e k

  pub counting-no : r ≡ false → (u : ℕ) × (u < 256) × (count_in 14 (user v u) < pages_of v u)
  counting-no e = subst (Tallied v c) e k

-- ---- what the counts say of 13

module _ (P : ℕ) (v : Vol) (S : Pointed P v) where
  pub holds_more : (u : ℕ) × (u < 256) × (count_in 14 (user v u) < pages_of v u) → Affords P v → ⊥
  unfolding given
  holds_more (u, h, l) A = elim (dec_lt 0 (used (user v u))) [
    | yes i ↦ omega (arith, count-used 14 (user v u) i, A.users u h i, mine-pages P v S.r7 u h)
    | no i ↦ omega (arith, none-held v S.r6 u h i)
  ]

  module _ (c : List ℕ) (C : CountsBelow v 256 c) where
    counts : Counts v c
    counts = record { size = C.size; right = λ u h. (C.right u h).0 ∙ mine-pages P v S.r7 u h }

    users : (u : ℕ) → u < 256 → 0 < used (user v u) → mine v u some ≤ given (user v) u
    unfolding given
    users u h i = omega (arith, count-used 14 (user v u) i, (C.right u h).1, mine-pages P v S.r7 u h)

    -- P pages t, the counts' sum h, the given pages g and the visits n, as code has them
    module _ (t h g n : ℕ) (et : t ≡ P) (eh : h ≡ sum 256 (λ u. get_or c u 0)) (eg : g ≡ sum 256 (λ u. count_in 14 (user v u))) (en : n ≡ 1 + all P v some) where
      spends : g + n ≡ spent P v + h
      unfolding all system_pages spent
      spends = omega (arith, eg ∙ grants-sum v, eh ∙ sum-ext 256 (λ u. get_or c u 0) (λ u. mine v u some) counts.right, en)

      pub sum_below : t + h < g + n → Affords P v → ⊥
      sum_below l A = omega (arith, l, et, spends, A.left)

      pub sum-leaves : g + n ≤ t + h → Balanced P v c (Ok (t + h - (g + n)))
      sum-leaves l = (record { users = users; left = omega (arith, l, et, spends) }, counts, omega (arith, l, et, spends))

      pub sum-small : t + h - (g + n) ≤ P
      sum-small = omega (arith, et, spends)
