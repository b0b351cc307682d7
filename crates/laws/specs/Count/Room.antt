-- Room: what is unreserved is free, and what is given or charged is of the volume. Assumes nothing.
use Rattle.std.specs.Prelude.{refl, ℕ, zero, ◌≤◌, ◌<◌, ◌+◌, ◌*◌}
use native.Mathlib.Omega.{arith}
use Rattle.sums.specs.Sum.{sum-le, sum-none, sum-at}
use Rattle.book.specs.Entries.{user, grant, unreserved, used, given, object, used_pages}
use Rattle.book.specs.Files.{file_at}
use Rattle.book.specs.Holders.{some, mine, all, system_pages}
use Rattle.book.specs.Rules.{Rule10, Sound, Rule6Over}
use Rattle.book.specs.Trees.{weigh_r}
use Rattle.book.specs.Words.{Vol}
use Rattle.laws.specs.Count.Good.{free, free-count, good, most, mine-le, grant-used}
use Rattle.laws.specs.Frame.Rest.{all_rest, rest}

-- so n pages are free where n are unreserved, and each that is claimed leaves the rest (claim-free)
pub system-room : (P : ℕ) (v : Vol) → Sound P v → 0 < P → unreserved v ≤ free P v
unfolding Rule10 all unreserved system_pages
system-room P v s h = omega (
  arith,
  sum-le 256 (λ u. mine v u some) (grant (user v)) (mine-le P v (most P v s)),
  s.r10.1,
  free-count P v (λ p. 0) (good P v s) h,
  sum-none P (λ p. zero) (λ p i. refl),
)

module _ (P : ℕ) (v : Vol) (r : Rule10 P v) where
  pub given-room : (u : ℕ) → u < 256 → 0 < used (user v u) → unreserved v + given (user v) u ≤ P
  unfolding Rule10
  given-room u h i = omega (arith, r.1, sum-at 256 (grant (user v)) u h, grant-used v u i)

module _ (P : ℕ) (v : Vol) (S : Sound P v) (pos : 0 < P) (u : ℕ) (hu : u < 256) where
  pub charged-lt : 0 < used (user v u) → used_pages (user v) u < P
  unfolding Rule10 rest
  charged-lt h = omega (
    arith,
    S.r10.0 u hu h,
    sum-at 256 (λ u. mine v u some) u hu,
    all_rest P v some,
    free-count P v (λ p. 0) (good P v S) pos,
  )

  -- a file of his is charged to him
  module _ (f : ℕ) (hf : f < 256) (h : 0 < used (object v (256 * u + f))) where
    pub charged-owner : 0 < used (user v u)
    unfolding Rule6Over
    charged-owner = (S.r6.0 u f hu hf h).owner

    pub charged-file : weigh_r v (file_at v (256 * u + f)) some ≤ used_pages (user v) u
    unfolding Rule10 mine
    charged-file = omega (arith, S.r10.0 u hu charged-owner, sum-at 256 (λ f. weigh_r v (file_at v (256 * u + f)) some) f hf)
