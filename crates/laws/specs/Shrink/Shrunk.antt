-- A tree of pages loses its last position. Assumes nothing.
use Rattle.std.specs.Prelude.{◌≡◌, refl, ◌≢◌, ℕ, zero, suc, ◌+◌, ◌-◌, ◌*◌, ◌/◌, ◌%◌, ◌^◌, ◌≤◌, ◌<◌, min}
use Rattle.std.proofs.Common.{sym, ap, ◌∙◌, subst, subst₂, not-suc-le-zero, mod-lt, mul-le-mul_right, div-add-mod', div-one, arith}
use Rattle.std.proofs.Math.Path.{subst₃}
use Rattle.std.proofs.Math.Nat.{mod-one}
use Rattle.std.proofs.Math.Decide.{ℕ_discrete}
use Rattle.sums.specs.Sum.{sum, sum-none, sum-change, sum-only}
use Rattle.book.specs.Bits.{bit_file}
use Rattle.book.specs.Entries.{user_file, object_file}
use Rattle.book.specs.Files.{file_at}
use Rattle.book.specs.Holders.{hit, all, system, mine}
use Rattle.book.specs.Pointers.{slot, set_slot}
use Rattle.book.specs.Trees.{weigh, blocks, leaf, weigh_r, Fill, Below}
use Rattle.book.specs.Words.{Vol}
use Rattle.laws.specs.Frame.Roots.{weigh_r-nobody}
use Rattle.laws.specs.Grow.Grown.{part-old, part-other}
use Rattle.laws.specs.Tree.Slot.{slot-here, slot-other, set_slot-agree, Agree, slot-zero}
use Rattle.laws.specs.Tree.Weigh.{fill-zero, below-zero, weigh-none, weigh-frame, leaf-frame, Below-frame, Fill-frame, pow_pos, slot_lt}

-- the tree under t had n + 1 positions; under t' it has n
pub record Shrunk (P : ℕ) (v v' : Vol) (l t t' n : ℕ) (gone : (ℕ → ℕ) → ℕ) : Type 0 where
  pub weight : (g : ℕ → ℕ) → g 0 ≡ 0 → weigh v' l t' g + gone g ≡ weigh v l t g
  pub fill : Fill v' l t' n
  pub old : (m : ℕ) → m < n → leaf v' l t' m ≡ leaf v l t m
  pub inside : Below v' P l t'

pub shrunk-page : (P : ℕ) (v v' : Vol) (d : ℕ) → 0 < P → Shrunk P v v' 0 d 0 0 (λ g. g d)
unfolding weigh
shrunk-page P v v' d pp = record { weight = λ g g0. omega (arith, g0); fill = fill-zero v' 0; old = λ m h. absurd (not-suc-le-zero h); inside = below-zero v' P 0 pp }

-- a block with one position goes with it
pub shrunk-block : (P : ℕ) (v v' : Vol) (l b : ℕ) (gone : (ℕ → ℕ) → ℕ) → 0 < P → Fill v (suc l) b 1 → Shrunk P v v' l (slot v b 0) 0 0 gone → Shrunk P v v' (suc l) b 0 0 (λ g. g b + gone g)
unfolding weigh Fill
shrunk-block P v v' l b gone pp F S = record { weight = w; fill = fill-zero v' (suc l); old = λ m h. absurd (not-suc-le-zero h); inside = below-zero v' P (suc l) pp }
  where
    zero-at : (k : ℕ) → k < 512 → k ≢ 0 → slot v b k ≡ 0
    zero-at k h n = let m : 1 ≤ k = omega arith in
        top v l (slot v b k) (subst (λ (x : ℕ). Fill v l (slot v b k) x) (let q : min (1 - k * 512 ^ l) (512 ^ l) ≡ 0 = omega (arith, pow_pos l, mul-le-mul_right (512 ^ l) m) in q) (F.2 k h))
      where
        top : (v : Vol) (l t : ℕ) → Fill v l t 0 → t ≡ 0
        top v zero t f = f.1 refl
        top v (suc l) t f = f.1 refl

    w : (g : ℕ → ℕ) → g 0 ≡ 0 → g 0 + sum 512 (λ k. weigh v' l (slot v' 0 k) g) + (g b + gone g) ≡ g b + sum 512 (λ k. weigh v l (slot v b k) g)
    w g g0 = omega (
      arith,
      g0,
      S.weight g g0,
      weigh-none v' g g0 l,
      sum-only 512 (λ k. weigh v l (slot v b k) g) 0 (omega arith) (λ j h n. ap (λ (x : ℕ). weigh v l x g) (zero-at j h n) ∙ weigh-none v g g0 l),
      sum-none 512 (λ k. weigh v' l (slot v' 0 k) g) (λ k h. ap (λ (x : ℕ). weigh v' l x g) (slot-zero v' k) ∙ weigh-none v' g g0 l),
    )

pub shrunk-up : (P : ℕ) (v v' : Vol) (C : ℕ → ℕ) → Agree C v v' → (l t n : ℕ) (gone : (ℕ → ℕ) → ℕ) → 0 < t → 0 < n → n < 512 ^ suc l
    → ((j : ℕ) → j ≢ n / 512 ^ l → slot v' t j ≡ slot v t j) → ((j : ℕ) → j < 512 → j ≢ n / 512 ^ l → blocks v l (slot v t j) C ≡ 0)
    → Fill v (suc l) t (suc n) → Below v P (suc l) t
    → Shrunk P v v' l (slot v t (n / 512 ^ l)) (slot v' t (n / 512 ^ l)) (n % 512 ^ l) gone → Shrunk P v v' (suc l) t t n gone
unfolding weigh Fill Below leaf
shrunk-up P v v' C A l t n gone pt pn hn so bz F B S = record { weight = w; fill = ((λ j. pt), (λ j. absurd (let z : ⊥ = omega arith in z)), fl); old = old; inside = (B.0, bl) }
  where
    old : (m : ℕ) → m < n → leaf v' l (slot v' t (m / 512 ^ l)) (m % 512 ^ l) ≡ leaf v l (slot v t (m / 512 ^ l)) (m % 512 ^ l)
    old m q = elim (ℕ_discrete (m / 512 ^ l) (n / 512 ^ l)) [
      | yes e ↦ subst (λ (x : ℕ). leaf v' l (slot v' t x) (m % 512 ^ l) ≡ leaf v l (slot v t x) (m % 512 ^ l)) (sym e)
          (S.old (m % 512 ^ l) (omega (arith, q, div-add-mod' m (512 ^ l), div-add-mod' n (512 ^ l), ap (λ (x : ℕ). x * 512 ^ l) e)))
      | no ne ↦ ap (λ (x : ℕ). leaf v' l x (m % 512 ^ l)) (so (m / 512 ^ l) ne)
          ∙ leaf-frame v v' C A l (slot v t (m / 512 ^ l)) (bz (m / 512 ^ l) (slot_lt l m (omega arith)) ne) (m % 512 ^ l) (mod-lt m (pow_pos l))
    ]

    w : (g : ℕ → ℕ) → g 0 ≡ 0 → g t + sum 512 (λ k. weigh v' l (slot v' t k) g) + gone g ≡ g t + sum 512 (λ k. weigh v l (slot v t k) g)
    w g g0 = omega (
      arith,
      S.weight g g0,
      sum-change 512 (λ k. weigh v l (slot v t k) g) (λ k. weigh v' l (slot v' t k) g) (n / 512 ^ l) (slot_lt l n hn)
          (λ j h ne. ap (λ (x : ℕ). weigh v' l x g) (so j ne) ∙ weigh-frame v v' C A l (slot v t j) (bz j h ne) g),
    )

    fl : (k : ℕ) → k < 512 → Fill v' l (slot v' t k) (min (n - k * 512 ^ l) (512 ^ l))
    fl k h = elim (ℕ_discrete k (n / 512 ^ l)) [
      | yes e ↦ subst (λ (x : ℕ). Fill v' l (slot v' t x) (min (n - x * 512 ^ l) (512 ^ l))) (sym e)
          (subst (λ (x : ℕ). Fill v' l (slot v' t (n / 512 ^ l)) x) (sym (part-old (512 ^ l) n (pow_pos l))) S.fill)
      | no ne ↦ subst₂ (λ (x y : ℕ). Fill v' l x y) (sym (so k ne)) (part-other (512 ^ l) n (pow_pos l) k ne) (Fill-frame v v' C A l (slot v t k) _ (bz k h ne) (F.2 k h))
    ]

    bl : (k : ℕ) → k < 512 → Below v' P l (slot v' t k)
    bl k h = elim (ℕ_discrete k (n / 512 ^ l)) [
      | yes e ↦ subst (λ (x : ℕ). Below v' P l (slot v' t x)) (sym e) S.inside
      | no ne ↦ subst (λ (x : ℕ). Below v' P l x) (sym (so k ne)) (Below-frame v v' C A P l (slot v t k) (bz k h ne) (B.1 k h))
    ]

-- the last page of index block X, at position m
pub shrunk-leaf : (P : ℕ) (v : Vol) (X m : ℕ) → 0 < P → 0 < X → 0 < m → m < 512 → Fill v 1 X (suc m) → Below v P 1 X → Shrunk P v (set_slot v X m 0) 1 X X m (λ g. g (slot v X m))
unfolding blocks
shrunk-leaf P v X m pp p_x pm hm F B =
    let v₂ : Vol = set_slot v X m 0 in
    let i1 : m / 1 ≡ m = div-one m in
    let now : slot v₂ X (m / 1) ≡ 0 = ap (slot v₂ X) i1 ∙ slot-here v X m 0 p_x in
    shrunk-up P v v₂ (hit X) (set_slot-agree v X m 0) 0 X m (λ g. g (slot v X m)) p_x pm hm (λ j ne. slot-other v X m 0 p_x j (λ q. ne (q ∙ sym i1))) (λ j h ne. refl) F B
    (subst₃ (λ (x y z : ℕ). Shrunk P v v₂ 0 x y z (λ g. g (slot v X m))) (sym (ap (slot v X) i1)) (sym now) (sym (mod-one m)) (shrunk-page P v v₂ (slot v X m) pp))

pub all-zero : (P : ℕ) (v : Vol) → all P v (λ x. 0) ≡ 0
unfolding all system mine
all-zero P v = omega (
  arith,
  weigh_r-nobody v (λ x. 0) (λ x. refl) (bit_file P v),
  weigh_r-nobody v (λ x. 0) (λ x. refl) (user_file v),
  weigh_r-nobody v (λ x. 0) (λ x. refl) (object_file v),
  sum-none 256 (λ u. sum 256 (λ f. weigh_r v (file_at v (256 * u + f)) (λ x. 0))) (λ u i. sum-none 256 (λ f. weigh_r v (file_at v (256 * u + f)) (λ x. 0)) (λ f j. weigh_r-nobody v (λ x. 0) (λ x. refl) (file_at v (256 * u + f)))),
)
