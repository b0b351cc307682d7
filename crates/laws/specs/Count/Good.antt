-- A volume whose pages are held as often as their bits say, by trees and by hand (Good): the free pages are counted. Assumes nothing.
use Rattle.std.specs.Prelude.{◌≡◌, refl, ◌≢◌, ℕ, zero, ◌+◌, ◌-◌, ◌*◌, ◌%◌, ◌≤◌, ◌<◌}
use Rattle.std.proofs.Math.Path.{ap, ap₂}
use Rattle.std.proofs.Common.{◌∙◌, eq-zero-or-pos, arith}
use Rattle.std.proofs.Math.Logic.{inl, inr}
use Rattle.sums.specs.Search.{pick_yes}
use Rattle.sums.specs.Sum.{sum, is, sum-ext, sum-none, sum-add, sum-swap, sum_is, sum-le-at, sum-find, sum-const, is-sym}
use Rattle.book.specs.Bits.{bit_file, bit}
use Rattle.book.specs.Entries.{user_file, object_file, user, object, used, given, used_pages, grant, unreserved}
use Rattle.book.specs.Files.{file_at}
use Rattle.book.specs.Holders.{hit, some, mine, system, all, holders, system_pages}
use Rattle.book.specs.Pointers.{unreserved_count}
use Rattle.book.specs.Rules.{Rule1, Rule2, Rule3, Rule4, Rule4Over, Rule5, Rule6, Rule6Over, Rule7, Rule8, Rule9, Rule10, Sound}
use Rattle.book.specs.Trees.{Root, tree, run, weigh_r}
use Rattle.book.specs.Words.{Vol, two}
use Rattle.book.specs.Written.{digit-le}
use Rattle.laws.specs.Count.Reach.{Within, rules-within}
use Rattle.laws.specs.Tree.Pointer.{file-unused}
use Rattle.laws.specs.Tree.Slot.{sum-hit}
use Rattle.laws.specs.Tree.Weigh.{weigh-count, BelowR}

pub root-count : (v : Vol) (P : ℕ) (r : Root) → BelowR v P r → sum P (λ p. weigh_r v r (hit p)) ≡ weigh_r v r some
unfolding BelowR weigh_r
root-count v P (tree l t) b = weigh-count v P l t b
root-count v P (run s n) b =
    sum-swap P n (λ p i. hit p (s + i)) ∙ sum-ext n (λ i. sum P (λ p. hit p (s + i))) (λ i. some (s + i)) (λ i h. sum-hit P (s + i) (omega arith))

module _ (P : ℕ) (v : Vol) (W : Within P v) where
  pub mine-count : (u : ℕ) → u < 256 → sum P (λ p. mine v u (hit p)) ≡ mine v u some
  unfolding mine
  mine-count u h =
      sum-swap P 256 (λ p f. weigh_r v (file_at v (256 * u + f)) (hit p))
      ∙ sum-ext 256 (λ f. sum P (λ p. weigh_r v (file_at v (256 * u + f)) (hit p))) (λ f. weigh_r v (file_at v (256 * u + f)) some)
      (λ f i. root-count v P (file_at v (256 * u + f)) (W.files u f h i))

  pub sys-count : sum P (λ p. system P v (hit p)) ≡ system P v some
  unfolding system
  sys-count =
      sum-add P (λ p. weigh_r v (bit_file P v) (hit p) + weigh_r v (user_file v) (hit p)) (λ p. weigh_r v (object_file v) (hit p))
      ∙ ap₂ (λ (a b : ℕ). a + b)
      (sum-add P (λ p. weigh_r v (bit_file P v) (hit p)) (λ p. weigh_r v (user_file v) (hit p))
      ∙ ap₂ (λ (a b : ℕ). a + b) (root-count v P (bit_file P v) W.bits) (root-count v P (user_file v) W.users))
      (root-count v P (object_file v) W.objs)

  pub all-count : sum P (λ p. all P v (hit p)) ≡ all P v some
  unfolding all
  all-count =
      sum-add P (λ p. system P v (hit p)) (λ p. sum 256 (λ u. mine v u (hit p)))
      ∙ ap₂ (λ (a b : ℕ). a + b) sys-count
      (sum-swap P 256 (λ p u. mine v u (hit p)) ∙ sum-ext 256 (λ u. sum P (λ p. mine v u (hit p))) (λ u. mine v u some) mine-count)

  -- the pages held are 1 and all that the trees hold
  pub holders-count : 0 < P → sum P (holders P v) ≡ 1 + all P v some
  unfolding holders
  holders-count h =
      sum-add P (λ p. is p 0) (λ p. all P v (hit p))
      ∙ ap₂ (λ (a b : ℕ). a + b) (sum-ext P (λ p. is p 0) (λ p. is 0 p) (λ p i. is-sym p 0) ∙ sum_is P 0 h) all-count

pub holders-held : (P : ℕ) (v : Vol) (p b c : ℕ) → b ≡ is p 0 + all P v (hit p) + c → b ≡ holders P v p + c
unfolding holders
holders-held P v p b c e = e

pub bit_le : (P : ℕ) (v : Vol) (p : ℕ) → bit P v p ≤ 1
unfolding bit
bit_le P v p = digit-le (p % 16) _

-- the rules but 8 and 9
pub record Most (P : ℕ) (v : Vol) : Type 0 where
  pub r1 : Rule1 P v
  pub r2 : Rule2 P v
  pub r3 : Rule3 P v
  pub r4 : Rule4 (user v)
  pub r5 : Rule5 P v
  pub r6 : Rule6 (user v) (object v)
  pub r7 : Rule7 P v
  pub r10 : Rule10 P v

-- each page below P is held as often as its bit says, by the trees and by hand
pub record Good (P : ℕ) (v : Vol) (hand : ℕ → ℕ) : Type 0 where
  pub most : Most P v
  pub held : (p : ℕ) → p < P → bit P v p ≡ is p 0 + all P v (hit p) + hand p

pub sound-within : (P : ℕ) (v : Vol) → Most P v → Within P v
sound-within P v s = rules-within P v s.r1 s.r2 s.r3 s.r5 s.r7

pub most : (P : ℕ) (v : Vol) → Sound P v → Most P v
most P v s = record { r1 = s.r1; r2 = s.r2; r3 = s.r3; r4 = s.r4; r5 = s.r5; r6 = s.r6; r7 = s.r7; r10 = s.r10 }

module _ (P : ℕ) (v : Vol) (s : Sound P v) where
  bit_not : (p : ℕ) → p < P → holders P v p ≡ 0 → bit P v p ≢ 1
  unfolding Rule9
  bit_not p h z b = omega (arith, (s.r9 p h).0 b, z)

  -- rules 8 and 9 together: a page is held as often as its bit says
  pub bit-holders : (p : ℕ) → p < P → bit P v p ≡ holders P v p
  unfolding Rule8 Rule9
  bit-holders p h = elim (eq-zero-or-pos (holders P v p)) [
    | inl z ↦ omega (arith, z, bit_le P v p, bit_not p h z)
    | inr q ↦ omega (arith, q, s.r8 p h, (s.r9 p h).1 q)
  ]

  pub good : Good P v (λ p. 0)
  unfolding holders
  good = record { most = most P v s; held = λ p h. omega (arith, bit-holders p h) }

pub sound : (P : ℕ) (v : Vol) (hand : ℕ → ℕ) → Good P v hand → ((p : ℕ) → p < P → hand p ≡ 0) → Sound P v
unfolding Rule8 Rule9 holders
sound P v hand g z = record {
  r1 = g.most.r1;
  r2 = g.most.r2;
  r3 = g.most.r3;
  r4 = g.most.r4;
  r5 = g.most.r5;
  r6 = g.most.r6;
  r7 = g.most.r7;
  r8 = λ p h. omega (arith, g.held p h, bit_le P v p);
  r9 = λ p h. ((λ b. omega (arith, g.held p h, z p h)), (λ q. omega (arith, g.held p h, bit_le P v p)));
  r10 = g.most.r10;
}

pub Good-ext : (P : ℕ) (v : Vol) (h k : ℕ → ℕ) → ((p : ℕ) → p < P → h p ≡ k p) → Good P v h → Good P v k
Good-ext P v h k e g = record { most = g.most; held = λ p i. omega (arith, g.held p i, e p i) }

unfoldable pub free : ℕ → Vol → ℕ
free P v = sum P (λ p. 1 - bit P v p)

pub grant-used : (v : Vol) (u : ℕ) → 0 < used (user v u) → grant (user v) u ≡ given (user v) u
unfolding grant
grant-used v u h = pick_yes (used (user v u)) (given (user v) u) 0 h

module _ (P : ℕ) (v : Vol) (hand : ℕ → ℕ) (G : Good P v hand) where
  pub free-count : 0 < P → free P v + (1 + all P v some) + sum P hand ≡ P
  unfolding free
  free-count h =
      let a : sum P (λ p. (1 - bit P v p) + bit P v p) ≡ sum P (λ p. 1 - bit P v p) + sum P (λ p. bit P v p) = sum-add P (λ p. 1 - bit P v p) (bit P v) in
      let b : sum P (λ p. (1 - bit P v p) + bit P v p) ≡ sum P (λ p. 1) = sum-ext P (λ p. (1 - bit P v p) + bit P v p) (λ p. 1) (λ p i. omega (arith, bit_le P v p)) in
      let c : sum P (λ p. bit P v p) ≡ sum P (λ p. holders P v p + hand p) = sum-ext P (bit P v) (λ p. holders P v p + hand p) held' in
      omega (arith, a, b, c, sum-const P 1, sum-add P (holders P v) hand, holders-count P v (sound-within P v G.most) h)
    where
      held' : (p : ℕ) → p < P → bit P v p ≡ holders P v p + hand p
      held' p i = holders-held P v p (bit P v p) (hand p) (G.held p i)

module _ (P : ℕ) (v : Vol) (s : Most P v) where
  -- the files of an unused user hold nothing
  pub mine-unused : (u : ℕ) → u < 256 → used (user v u) ≡ 0 → (g : ℕ → ℕ) → mine v u g ≡ 0
  unfolding mine Rule6Over weigh_r sum
  mine-unused u h z g = sum-none 256 (λ f. weigh_r v (file_at v (256 * u + f)) g) (λ f i. ap (λ (r : Root). weigh_r v r g) (file-unused v (256 * u + f) (no-file f i)))
    where
      no-file : (f : ℕ) → f < 256 → used (object v (256 * u + f)) ≡ 0
      no-file f i = elim (eq-zero-or-pos (used (object v (256 * u + f)))) [
        | inl e ↦ e
        | inr q ↦ omega (arith, (s.r6.0 u f h i q).owner, z)
      ]

  pub mine-le : (u : ℕ) → u < 256 → mine v u some ≤ grant (user v) u
  unfolding Rule10 Rule4Over
  mine-le u h = elim (eq-zero-or-pos (used (user v u))) [
    | inl z ↦ omega (arith, mine-unused u h z some)
    | inr q ↦ omega (arith, grant-used v u q, s.r10.0 u h q, (s.r4.0 u h q).within)
  ]

-- the pages that a user has left are free, beside all unreserved ones
pub room : (P : ℕ) (v : Vol) → Sound P v → 0 < P → (u k : ℕ) → u < 256 → 0 < used (user v u) → used_pages (user v) u + k ≤ given (user v) u → two (v 0) unreserved_count + k ≤ free P v
unfolding Rule10 all unreserved system_pages
room P v s h u k i j l =
    let m : sum 256 (λ u. mine v u some) + k ≤ sum 256 (grant (user v)) =
    sum-le-at 256 (λ u. mine v u some) (grant (user v)) u k i (mine-le P v (most P v s)) (omega (arith, grant-used v u j, s.r10.0 u i j)) in
    omega (arith, m, s.r10.1, free-count P v (λ p. 0) (good P v s) h, sum-none P (λ p. zero) (λ p i. refl))

-- so while there is one, some page's bit is 0
pub free-page : (P : ℕ) (v : Vol) → 0 < free P v → (p : ℕ) × (p < P) × (bit P v p ≡ 0)
unfolding free
free-page P v q = let r = sum-find P (λ p. 1 - bit P v p) q in (r.0, r.1, omega (arith, r.2))
