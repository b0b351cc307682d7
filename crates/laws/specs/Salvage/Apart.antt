-- Where the pointers are good, user pages and bit pages are held by no other tree, and each user has a place of his own. Assumes nothing.
use Rattle.std.specs.Prelude.{◌≡◌, refl}
use Rattle.std.proofs.Common.{sym, subst, inl, inr, eq-zero-or-pos, arith}
use Prim.Native.Nat.{ℕ, zero, suc, ◌+◌, ◌*◌, ◌≤◌, ◌<◌}
use Rattle.std.proofs.Math.Decide.{ℕ_discrete}
use Rattle.sums.specs.Sum.{sum, is-other, sum-none}
use Rattle.book.specs.Bits.{bit_file, bit_page}
use Rattle.book.specs.Entries.{user_file, object_file}
use Rattle.book.specs.Files.{file_at}
use Rattle.book.specs.Holders.{hit, mine, holders}
use Rattle.book.specs.Rules.{Rule8, Pointed}
use Rattle.book.specs.Trees.{Root, weigh_r, blocks_r, page_at}
use Rattle.book.specs.Words.{Vol}
use Rattle.laws.specs.Bits.Claim.{bit_page-lt, bit_page-in}
use Rattle.laws.specs.Bits.Marked.{Alone}
use Rattle.laws.specs.Count.Reach.{below-users}
use Rattle.laws.specs.Frame.Rest.{rest, all_rest}
use Rattle.laws.specs.Frame.Roots.{weigh_r-nobody, page_at-le, page_at-le₂, page_at-below, blocks_r-le, weigh_r-add, blocks_r-add}
use Rattle.laws.specs.Tree.Slot.{hit-zero, hit_same}

-- ---- several pages together

-- 1 or more at the pages q 0 to q (n - 1)
abbrev pub hits : (ℕ → ℕ) → ℕ → ℕ → ℕ
hits q n x = sum n (λ i. hit (q i) x)

pub hits-zero : (q : ℕ → ℕ) (n : ℕ) → hits q n 0 ≡ 0
hits-zero q n = sum-none n (λ i. hit (q i) 0) (λ i h. hit-zero (q i))

module _ (v : Vol) (r : Root) (q : ℕ → ℕ) where
  pub weigh-hits : (n : ℕ) → ((i : ℕ) → i < n → weigh_r v r (hit (q i)) ≡ 0) → weigh_r v r (hits q n) ≡ 0
  unfolding sum
  weigh-hits zero h = weigh_r-nobody v (λ x. 0) (λ x. refl) r
  weigh-hits (suc n) h = omega (arith, weigh_r-add v (hits q n) (hit (q n)) r, weigh-hits n (λ i l. h i (omega arith)), h n (omega arith))

  pub blocks-hits : (n : ℕ) → ((i : ℕ) → i < n → blocks_r v r (hit (q i)) ≡ 0) → blocks_r v r (hits q n) ≡ 0
  unfolding sum
  blocks-hits zero h = omega (arith, blocks_r-le v r (λ x. 0), weigh_r-nobody v (λ x. 0) (λ x. refl) r)
  blocks-hits (suc n) h = omega (arith, blocks_r-add v (hits q n) (hit (q n)) r, blocks-hits n (λ i l. h i (omega arith)), h n (omega arith))

hit-nobody : (x : ℕ) → hit 0 x ≡ 0
unfolding hit
hit-nobody zero = refl
hit-nobody (suc x) = is-other (suc x) 0 (omega arith)

nobody : (v : Vol) (r : Root) → weigh_r v r (hit 0) ≡ 0
nobody v r = weigh_r-nobody v (hit 0) hit-nobody r

mine-nobody : (v : Vol) (u : ℕ) → mine v u (hit 0) ≡ 0
unfolding mine
mine-nobody v u = sum-none 256 (λ f. weigh_r v (file_at v (256 * u + f)) (hit 0)) (λ f j. nobody v (file_at v (256 * u + f)))

mines-nobody : (v : Vol) → sum 256 (λ u. mine v u (hit 0)) ≡ 0
mines-nobody v = sum-none 256 (λ u. mine v u (hit 0)) (λ u i. mine-nobody v u)

-- a page that only the user file holds, and at the bottom
pub record UsersAlone (P : ℕ) (v : Vol) (q : ℕ) : Type 0 where
  pub bits : weigh_r v (bit_file P v) (hit q) ≡ 0
  pub blocks : blocks_r v (user_file v) (hit q) ≡ 0
  pub objects : weigh_r v (object_file v) (hit q) ≡ 0
  pub files : sum 256 (λ u. mine v u (hit q)) ≡ 0

module _ (P : ℕ) (v : Vol) (S : Pointed P v) (pos : 0 < P) where
  -- what all hold of one page
  once : (q : ℕ) → q < P → weigh_r v (bit_file P v) (hit q) + (weigh_r v (user_file v) (hit q) + weigh_r v (object_file v) (hit q) + sum 256 (λ u. mine v u (hit q))) ≤ 1
  unfolding Rule8 holders rest
  once q h = omega (arith, S.r8 q h, all_rest P v (hit q))

  pub user-alone : (n : ℕ) → UsersAlone P v (page_at v (user_file v) n)
  user-alone n = elim (eq-zero-or-pos q) [
    | inl e ↦ subst (UsersAlone P v) (sym e) record {
      bits = nobody v (bit_file P v);
      blocks = omega (arith, blocks_r-le v (user_file v) (hit 0), nobody v (user_file v));
      objects = nobody v (object_file v);
      files = mines-nobody v;
    }
    | inr h ↦ let i : hit q q ≡ 1 = hit_same q h in record { bits = omega (arith, le, o); blocks = omega (arith, le, o); objects = omega (arith, le, o); files = omega (arith, le, o) }
  ]
    where
      q : ℕ
      q = page_at v (user_file v) n

      le : blocks_r v (user_file v) (hit q) + hit q q ≤ weigh_r v (user_file v) (hit q)
      le = page_at-le v (hit q) (hit-zero q) (user_file v) n

      o : weigh_r v (bit_file P v) (hit q) + (weigh_r v (user_file v) (hit q) + weigh_r v (object_file v) (hit q) + sum 256 (λ u. mine v u (hit q))) ≤ 1
      o = once q (page_at-below v P pos (user_file v) (below-users P v S.r2 S.r3) n)

  -- a user page has one position
  pub position : (n m : ℕ) → 0 < page_at v (user_file v) n → page_at v (user_file v) n ≡ page_at v (user_file v) m → n ≡ m
  position n m h e = elim (ℕ_discrete n m) [
    | yes i ↦ i
    | no ne ↦
        let q : ℕ = page_at v (user_file v) n in
        omega (
          arith,
          page_at-le₂ v (hit q) (hit-zero q) (user_file v) n m ne,
          hit_same q h,
          subst (λ (x : ℕ). hit q x ≡ 1) e (hit_same q h),
          once q (page_at-below v P pos (user_file v) (below-users P v S.r2 S.r3) n),
        )
  ]

  pub bits-alone : Alone P v
  unfolding Alone Rule8 holders
  bits-alone p h = let B : ℕ = bit_page P v p in omega (arith, S.r8 B (bit_page-lt P v S.r1 p h), all_rest P v (hit B), bit_page-in P v S.r1 p h)
