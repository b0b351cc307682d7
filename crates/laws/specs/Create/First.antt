-- The first user ever: the user index and the object index become pages of the volume. Assumes nothing.
use Rattle.std.specs.Prelude.{◌≡◌, refl, ◌⊎◌, ℕ, suc, ◌+◌, ◌*◌, ◌/◌, ◌%◌, ◌≤◌, ◌<◌}
use Rattle.std.proofs.Math.Path.{sym, ap, subst₂, fun_ext}
use Rattle.std.proofs.Common.{◌∙◌, zero-le}
use Rattle.std.proofs.Math.Logic.{inl, inr}
use Rattle.std.proofs.Math.Decide.{dec_lt}
use native.Mathlib.Omega.{arith}
use Rattle.sums.specs.Sum.{sum-zero, sum-none}
use Rattle.book.specs.Bits.{bit_file, bit_pages}
use Rattle.book.specs.Entries.{Table, entry, user_file, object_file, user, object, used}
use Rattle.book.specs.Files.{file_at}
use Rattle.book.specs.Holders.{system, mine}
use Rattle.book.specs.Pointers.{slot, flags, page, Zero, Inside, bit_pointer, object_pointer, unreserved_count, user_pointer, volume_name}
use Rattle.book.specs.Rules.{Rule2, Rule3, Rule5, Rule5By}
use Rattle.book.specs.Trees.{Root, tree, run, leaf, weigh_r, page_at, Below}
use Rattle.book.specs.Words.{Vol, two, word}
use Rattle.laws.specs.Count.Good.{Good}
use Rattle.laws.specs.Create.Settled.{Settled}
use Rattle.laws.specs.File.Named.{Legal-ext}
use Rattle.laws.specs.Frame.Roots.{weigh_r-nobody, upto-in, upto-out, blocks_r-le, weigh_r-frame}
use Rattle.laws.specs.Tree.Pointer.{root-0, root-1, zero_flags, flags-ext, page-ext}
use Rattle.laws.specs.Tree.Slot.{Agree, word-zero, slot_same, some-pos}
use Rattle.laws.specs.Tree.Weigh.{weigh-empty}

-- a tree of one level over an empty block has no page
bare-page : (v : Vol) (t : ℕ) → ((j : ℕ) → slot v t j ≡ 0) → (n : ℕ) → page_at v (tree 1 t) n ≡ 0
unfolding page_at leaf
bare-page v t z n = elim (dec_lt n 512) [
  | yes h ↦ upto-in n 512 (slot v t (n / 1)) h ∙ z (n / 1)
  | no h ↦ upto-out n 512 (slot v t (n / 1)) (omega arith)
]

module _ (P : ℕ) (v : Vol) (hand : ℕ → ℕ) (G : Good P v hand) (pos : 0 < P) (v' : Vol) (i o : ℕ) (hi : i < P) (pi : 0 < i) (ho : o < P) (po : 0 < o)
    (pages : (q k : ℕ) → word v' q k ≡ word v q k) (zu : Zero (v 0) user_pointer) (zo : Zero (v 0) object_pointer)
    (fu : flags (v' 0) user_pointer ≡ 1) (tu : page (v' 0) user_pointer ≡ i) (fo : flags (v' 0) object_pointer ≡ 1) (to : page (v' 0) object_pointer ≡ o)
    (bi : (j : ℕ) → slot v i j ≡ 0) (bo : (j : ℕ) → slot v o j ≡ 0)
    (mast : (k : ℕ) → volume_name ≤ k → k < unreserved_count → (k < object_pointer) ⊎ (bit_pointer ≤ k) → v' 0 k ≡ v 0 k) (pay : two (v' 0) unreserved_count + 2 ≡ two (v 0) unreserved_count) where
  sl : (q j : ℕ) → slot v' q j ≡ slot v q j
  sl q j = slot_same v v' q (pages q) j

  agree : Agree (λ x. 0) v v'
  unfolding Agree
  agree q h k = pages q k

  none : (r : Root) → weigh_r v r (λ x. 0) ≡ 0
  none r = weigh_r-nobody v (λ x. 0) (λ x. refl) r

  users-was : user_file v ≡ run (page (v 0) user_pointer) 0
  unfolding user_file
  users-was = root-0 (v 0) user_pointer 0 (zero_flags (v 0) user_pointer zu)

  objs-was : object_file v ≡ run (page (v 0) object_pointer) 0
  unfolding object_file
  objs-was = root-0 (v 0) object_pointer 0 (zero_flags (v 0) object_pointer zo)

  users-now : user_file v' ≡ tree 1 i
  unfolding user_file
  users-now = root-1 (v' 0) user_pointer 0 fu ∙ ap (tree 1) tu

  objs-now : object_file v' ≡ tree 1 o
  unfolding object_file
  objs-now = root-1 (v' 0) object_pointer 0 fo ∙ ap (tree 1) to

  -- both tables read as zeros, before and after
  ent-was : (t n k : ℕ) → entry v (run t 0) n k ≡ 0
  unfolding entry page_at
  ent-was t n k = ap (λ (x : ℕ). word v x (32 * (n % 32) + k)) (upto-out (n / 32) 0 (t + n / 32) zero-le) ∙ word-zero v _

  ent-now : (t : ℕ) → ((j : ℕ) → slot v' t j ≡ 0) → (n k : ℕ) → entry v' (tree 1 t) n k ≡ 0
  unfolding entry
  ent-now t z n k = ap (λ (x : ℕ). word v' x (32 * (n % 32) + k)) (bare-page v' t z (n / 32)) ∙ word-zero v' _

  same-users : user v' ≡ user v
  unfolding user
  same-users = fun_ext (λ u. fun_ext (λ k. ap (λ (r : Root). entry v' r u k) users-now ∙ ent-now i (λ j. sl i j ∙ bi j) u k ∙ sym (ap (λ (r : Root). entry v r u k) users-was ∙ ent-was _ u k)))

  same-objs : object v' ≡ object v
  unfolding object
  same-objs = fun_ext (λ e. fun_ext (λ k. ap (λ (r : Root). entry v' r e k) objs-now ∙ ent-now o (λ j. sl o j ∙ bo j) e k ∙ sym (ap (λ (r : Root). entry v r e k) objs-was ∙ ent-was _ e k)))

  nobody : (u : ℕ) → used (user v u) ≡ 0
  unfolding used user
  nobody u = ap (λ (x : ℕ). x / 32768) (ap (λ (r : Root). entry v r u 0) users-was ∙ ent-was _ u 0)

  page20 : page (v' 0) bit_pointer ≡ page (v 0) bit_pointer
  page20 = page-ext (v' 0) (v 0) bit_pointer (mast bit_pointer (omega arith) (omega arith) (inr (omega arith))) (mast (suc bit_pointer) (omega arith) (omega arith) (inr (omega arith)))

  bare-weight : (t : ℕ) → ((j : ℕ) → slot v' t j ≡ 0) → (g : ℕ → ℕ) → g 0 ≡ 0 → weigh_r v' (tree 1 t) g ≡ g t
  unfolding weigh_r
  bare-weight t z g g0 = weigh-empty v' g g0 1 t (λ k h. z k)

  empty-weight : (t : ℕ) (g : ℕ → ℕ) → weigh_r v (run t 0) g ≡ 0
  unfolding weigh_r
  empty-weight t g = sum-zero (λ i. g (t + i))

  weight : (g : ℕ → ℕ) → g 0 ≡ 0 → system P v' g ≡ system P v g + (g i + g o)
  unfolding system bit_file
  weight g g0 = omega (
    arith,
    ap (λ (x : ℕ). weigh_r v' (run x (bit_pages P)) g) page20 ∙ weigh_r-frame v v' (λ x. 0) agree (run (page (v 0) bit_pointer) (bit_pages P)) (omega (arith, blocks_r-le v (run (page (v 0) bit_pointer) (bit_pages P)) (λ x. 0), none (run (page (v 0) bit_pointer) (bit_pages P)))) g,
    ap (λ (r : Root). weigh_r v' r g) users-now ∙ bare-weight i (λ j. sl i j ∙ bi j) g g0,
    ap (λ (r : Root). weigh_r v r g) users-was ∙ empty-weight _ g,
    ap (λ (r : Root). weigh_r v' r g) objs-now ∙ bare-weight o (λ j. sl o j ∙ bo j) g g0,
    ap (λ (r : Root). weigh_r v r g) objs-was ∙ empty-weight _ g,
  )

  pub first-user : Settled P v v' (λ x. 0) (λ g. g i + g o)
  unfolding bit_file Rule2 Rule3 Rule5 Rule5By Inside Below mine
  first-user = record {
    none = refl;
    agree = agree;
    no_bits = none _;
    no_files = sum-none 256 (λ u. mine v u (λ x. 0)) (λ u i. sum-none 256 (λ f. weigh_r v (file_at v (256 * u + f)) (λ x. 0)) (λ f j. none (file_at v (256 * u + f))));
    bits = ap (λ (x : ℕ). run x (bit_pages P)) page20;
    rule-1 = record {
      name = Legal-ext (v' 0) (v 0) volume_name 1 16 (λ i h. mast (volume_name + i / 2) (omega arith) (omega arith) (inl (omega arith))) G.most.r1.name;
      unflagged = flags-ext (v' 0) (v 0) bit_pointer (mast bit_pointer (omega arith) (omega arith) (inr (omega arith))) ∙ G.most.r1.unflagged;
      start = omega (arith, G.most.r1.start, page20);
      fits = omega (arith, G.most.r1.fits, page20);
    };
    rule-2 = inr ((fu, omega (arith, tu), omega (arith, tu)), inl (fo, omega (arith, to), omega (arith, to)));
    rule-3 = λ n h. let z : slot v' (page (v' 0) user_pointer) n ≡ 0 = ap (λ (x : ℕ). slot v' x n) tu ∙ sl i n ∙ bi n in (omega arith, λ j. z);
    rule-5 = subst₂ (λ (x y : ℕ). Rule5By P v' x y) (sym fo) (sym to)
        ((ho, λ k h. let z : slot v' o k ≡ 0 = sl o k ∙ bo k in omega arith), λ u h j. ap (λ (U : Table). used (U u)) same-users ∙ nobody u);
    users = same-users;
    objs = same-objs;
    weight = weight;
    pay = omega (arith, pay, some-pos i pi, some-pos o po);
  }
