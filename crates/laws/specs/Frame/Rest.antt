-- The trees apart: what one holds, no other does. Assumes nothing.
use Rattle.std.specs.Prelude.{◌≡◌}
use Rattle.std.proofs.Common.{sym, ◌∙◌, le_trans}
use Rattle.std.proofs.Math.Path.{ap, subst, subst₂, fun_ext}
use Prim.Native.Nat.{ℕ, suc, ◌+◌, ◌*◌, ◌/◌, ◌%◌, ◌≤◌, ◌<◌}
use native.Mathlib.Omega.{arith}
use Rattle.sums.specs.Search.{pick}
use Rattle.sums.specs.Sum.{sum, sum-ext, sum-add, sum-at}
use Rattle.book.specs.Bits.{bit_file, bit}
use Rattle.book.specs.Entries.{entry, user_file, object_file, user, object, used, used_pages, grant, Table, unreserved}
use Rattle.book.specs.Files.{file_at}
use Rattle.book.specs.Holders.{some, mine, system, all, system_pages, hit}
use Rattle.book.specs.Pointers.{unreserved_count, volume_name}
use Rattle.book.specs.Rules.{Rule4, Rule6, Rule7, Rule10}
use Rattle.book.specs.Trees.{Root, run, weigh_r, blocks_r, page_at, root_at}
use Rattle.book.specs.Words.{Vol, two}
use Rattle.laws.specs.Count.Good.{Most, Good}
use Rattle.laws.specs.Frame.Renewed.{Master, master-words, rule1, rule2, rule3, rule5, shape_same}
use Rattle.laws.specs.Frame.Roots.{weigh_r-frame, page_at-frame, entry_frame, blocks_r-le, Roots, users-root, objs-root, bits-root, weigh_r-add}
use Rattle.laws.specs.Tree.Slot.{Agree, two-ext}

-- the user, object and file trees
unfoldable pub rest : Vol → (ℕ → ℕ) → ℕ
rest v g = weigh_r v (user_file v) g + weigh_r v (object_file v) g + sum 256 (λ u. mine v u g)

pub all_rest : (P : ℕ) (v : Vol) (g : ℕ → ℕ) → all P v g ≡ weigh_r v (bit_file P v) g + rest v g
unfolding all system rest
all_rest P v g = omega arith

pub file-le : (v : Vol) (g : ℕ → ℕ) (u f : ℕ) → u < 256 → f < 256 → weigh_r v (file_at v (256 * u + f)) g ≤ sum 256 (λ u. mine v u g)
unfolding mine
file-le v g u f h i = le_trans (sum-at 256 (λ f. weigh_r v (file_at v (256 * u + f)) g) f i) (sum-at 256 (λ u. sum 256 (λ f. weigh_r v (file_at v (256 * u + f)) g)) u h)

pub rest-add : (v : Vol) (g h : ℕ → ℕ) → rest v (λ x. g x + h x) ≡ rest v g + rest v h
unfolding rest mine
rest-add v g h =
    omega (
      arith,
      weigh_r-add v g h (user_file v),
      weigh_r-add v g h (object_file v),
      sum-ext 256 (λ u. sum 256 (λ f. weigh_r v (file_at v (256 * u + f)) (λ x. g x + h x)))
          (λ u. sum 256 (λ f. weigh_r v (file_at v (256 * u + f)) g) + sum 256 (λ f. weigh_r v (file_at v (256 * u + f)) h))
          (λ u i. sum-ext 256 (λ f. weigh_r v (file_at v (256 * u + f)) (λ x. g x + h x)) (λ f. weigh_r v (file_at v (256 * u + f)) g + weigh_r v (file_at v (256 * u + f)) h)
          (λ f j. weigh_r-add v g h (file_at v (256 * u + f)))
          ∙ sum-add 256 (λ f. weigh_r v (file_at v (256 * u + f)) g) (λ f. weigh_r v (file_at v (256 * u + f)) h)),
      sum-add 256 (λ u. sum 256 (λ f. weigh_r v (file_at v (256 * u + f)) g)) (λ u. sum 256 (λ f. weigh_r v (file_at v (256 * u + f)) h)),
    )

pub all-add : (P : ℕ) (v : Vol) (g h : ℕ → ℕ) → all P v (λ x. g x + h x) ≡ all P v g + all P v h
all-add P v g h = omega (arith, all_rest P v (λ x. g x + h x), all_rest P v g, all_rest P v h, rest-add v g h, weigh_r-add v g h (bit_file P v))

-- ---- a calm change: pages that none of those trees holds

module _ (v v' : Vol) (R : Roots v v') (C : ℕ → ℕ) (c0 : C 0 ≡ 0) (A : Agree C v v') (q : rest v C ≡ 0) where
  q-users : weigh_r v (user_file v) C ≡ 0
  unfolding rest
  q-users = omega (arith, q)

  q-objs : weigh_r v (object_file v) C ≡ 0
  unfolding rest
  q-objs = omega (arith, q)

  pub q-file : (u f : ℕ) → u < 256 → f < 256 → weigh_r v (file_at v (256 * u + f)) C ≡ 0
  unfolding rest
  q-file u f h i = omega (arith, q, file-le v C u f h i)

  pub q-entry : (e : ℕ) → e < 65536 → weigh_r v (file_at v e) C ≡ 0
  q-entry e h = let s : 256 * (e / 256) + e % 256 ≡ e = omega arith in
      subst (λ (x : ℕ). weigh_r v (file_at v x) C ≡ 0) s (q-file (e / 256) (e % 256) (omega arith) (omega arith))

  pub user-calm : user v' ≡ user v
  unfolding user
  user-calm = fun_ext (λ u. fun_ext (λ k. ap (λ (r : Root). entry v' r u k) (users-root v v' R) ∙ entry_frame v v' C A c0 (user_file v) q-users u k))

  pub obj-calm : object v' ≡ object v
  unfolding object
  obj-calm = fun_ext (λ e. fun_ext (λ k. ap (λ (r : Root). entry v' r e k) (objs-root v v' R) ∙ entry_frame v v' C A c0 (object_file v) q-objs e k))

  pub file-calm : (e : ℕ) → file_at v' e ≡ file_at v e
  unfolding file_at
  file-calm e = ap (λ (O : ℕ → ℕ → ℕ). pick (used (O e)) (root_at (O e) 30 (two (O e) 26)) (run 0 0)) obj-calm

  zero-blocks : (r : Root) → weigh_r v r C ≡ 0 → blocks_r v r C ≡ 0
  zero-blocks r h = omega (arith, blocks_r-le v r C)

  pub mine-calm : (u : ℕ) → u < 256 → (g : ℕ → ℕ) → mine v' u g ≡ mine v u g
  unfolding mine
  mine-calm u h g = sum-ext 256 (λ f. weigh_r v' (file_at v' (256 * u + f)) g) (λ f. weigh_r v (file_at v (256 * u + f)) g)
      (λ f i. ap (λ (r : Root). weigh_r v' r g) (file-calm (256 * u + f)) ∙ weigh_r-frame v v' C A (file_at v (256 * u + f)) (zero-blocks _ (q-file u f h i)) g)

  bits-calm : (P : ℕ) (g : ℕ → ℕ) → weigh_r v' (bit_file P v') g ≡ weigh_r v (bit_file P v) g
  unfolding weigh_r bit_file
  bits-calm P g = ap (λ (r : Root). weigh_r v' r g) (bits-root v v' R P)

  pub sys-calm : (P : ℕ) (g : ℕ → ℕ) → system P v' g ≡ system P v g
  unfolding system
  sys-calm P g = omega (
    arith,
    bits-calm P g,
    ap (λ (r : Root). weigh_r v' r g) (users-root v v' R) ∙ weigh_r-frame v v' C A (user_file v) (zero-blocks _ q-users) g,
    ap (λ (r : Root). weigh_r v' r g) (objs-root v v' R) ∙ weigh_r-frame v v' C A (object_file v) (zero-blocks _ q-objs) g,
  )

  pub all-calm : (P : ℕ) (g : ℕ → ℕ) → all P v' g ≡ all P v g
  unfolding all
  all-calm P g = omega (arith, sys-calm P g, sum-ext 256 (λ u. mine v' u g) (λ u. mine v u g) (λ u i. mine-calm u i g))

  -- so are the files' pages
  pub page-calm : (e : ℕ) → e < 65536 → (m : ℕ) → page_at v' (file_at v' e) m ≡ page_at v (file_at v e) m
  page-calm e h m = ap (λ (r : Root). page_at v' r m) (file-calm e) ∙ page_at-frame v v' C A (file_at v e) (zero-blocks _ (q-entry e h)) m

  -- all that the rules but 8 and 9 say is as it was
  pub most-calm : (P : ℕ) → ((k : ℕ) → volume_name ≤ k → v' 0 k ≡ v 0 k) → Most P v → Most P v'
  unfolding Rule7 Rule10 unreserved system_pages
  most-calm P m s = record {
    r1 = rule1 P v v' M s.r1;
    r2 = rule2 P v v' M s.r2;
    r3 = rule3 P v v' M C c0 A s.r2 (zero-blocks _ q-users) s.r3;
    r4 = subst (λ (U : Table). Rule4 U) (sym user-calm) s.r4;
    r5 = rule5 P v v' M C c0 A s.r2 (zero-blocks _ q-objs) (λ q u i j z. ap (λ (U : Table). used (U u)) user-calm ∙ z) s.r5;
    r6 = subst₂ (λ (U O : Table). Rule6 U O) (sym user-calm) (sym obj-calm) s.r6;
    r7 = seven;
    r10 = ten;
  }
    where
      M : Master v v'
      M = master-words v v' (λ k i j. m k i)

      seven : Rule7 P v'
      seven e h u =
          let u' : 0 < used (object v e) = subst (λ (O : Table). 0 < used (O e)) obj-calm u in
          shape_same P v v' C A e (λ k i. ap (λ (O : Table). O e k) obj-calm) u' (zero-blocks _ (q-entry e h)) (s.r7 e h u')

      ten : Rule10 P v'
      ten = (
        (λ u h i. ap (λ (U : Table). used_pages U u) user-calm ∙ s.r10.0 u h (subst (λ (U : Table). 0 < used (U u)) user-calm i) ∙ sym (mine-calm u h some)),
        omega (arith, s.r10.1, two-ext (v' 0) (v 0) unreserved_count (m unreserved_count (omega arith)) (m (suc unreserved_count) (omega arith)), ap (λ (U : Table). sum 256 (grant U)) user-calm, sys-calm P some),
      )

-- only bits change: pages in hand are given back, or taken, in one go
pub bits-good : (P : ℕ) (v v' : Vol) (hand hand' C : ℕ → ℕ) → Good P v hand → C 0 ≡ 0 → Agree C v v' → rest v C ≡ 0 → ((k : ℕ) → v' 0 k ≡ v 0 k)
    → ((p : ℕ) → p < P → bit P v' p + hand p ≡ bit P v p + hand' p) → Good P v' hand'
unfolding Roots
bits-good P v v' hand hand' C G c0 A q m e = record {
  most = most-calm v v' (λ k i j. m k) C c0 A q P (λ k i. m k) G.most;
  held = λ p h. omega (arith, e p h, G.held p h, all-calm v v' (λ k i j. m k) C c0 A q P (hit p));
}
