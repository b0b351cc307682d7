-- Blocks that were read through in vain, one marked after another. Assumes nothing.
use mathlib.Core.Path.{◌≡◌, refl, sym, ap, ap₂, ◌∙◌, subst}
use mathlib.Core.List.{List}
use mathlib.Core.Bool.{Bool, true, false}
use Prim.Native.Nat.{ℕ, min, ◌+◌, ◌*◌, ◌/◌, ◌%◌, ◌≤◌, ◌<◌}
use native.Mathlib.Decide.{dec_lt, ℕ_discrete}
use native.Mathlib.Omega.{arith}
use Rattle.std.specs.Option.{is_some}
use Rattle.std.proofs.Common.{Option, None, Some}
use Rattle.sums.specs.Sum.{is-other}
use Rattle.book.specs.Words.{Vol, vol}
use Rattle.book.specs.Pointers.{slot}
use Rattle.book.specs.Trees.{root_by}
use Rattle.page.proofs.Slots.{slot-absent}
use Rattle.tree.specs.Ends.{SlotsEnd}
use Rattle.walk.specs.Short.{Short, ShortR}
use Rattle.walk.proofs.Short.{root-short}
use Rattle.book.specs.Image.{pages}
use Rattle.bits.specs.Marks.{Marking}
use Rattle.who.specs.Least.{Never, Least}
use Rattle.who.specs.Search.{Vain, VainUnder, Passed, Search}

passed-mark : (P : ℕ) (A : ℕ → Type 0) (m : List ℕ) (b : ℕ) (m' : List ℕ) (r : Bool) → Passed P A m → Marking m b m' r → A b → Passed P A m'
passed-mark P A m b m' true d k a = record {
  room = omega (arith, k.kept, d.room);
  all = λ q e. elim (ℕ_discrete b q) [
    | yes s ↦ subst A s a
    | no n ↦ d.all q (omega (arith, e, k.more q, is-other b q n))
  ];
}
passed-mark P A m b m' false d k a = subst (Passed P A) (sym k.1) d

module _ (img : List ℕ) (p : ℕ) (seen tops : List ℕ) (d : Search img p seen tops) where
  pub search-block : (b : ℕ) (m : List ℕ) (r : Bool) → Marking seen b m r → Vain (vol img) p b → Search img p m tops
  search-block b m r k a = record { few = d.few; page = d.page; blocks = passed-mark (pages img) (Vain (vol img) p) seen b m r d.blocks k a; trees = d.trees }

  pub search-tree : (b : ℕ) (m : List ℕ) (r : Bool) → Marking tops b m r → VainUnder (vol img) p b → Search img p seen m
  search-tree b m r k a = record { few = d.few; page = d.page; blocks = d.blocks; trees = passed-mark (pages img) (VainUnder (vol img) p) tops b m r d.trees k a }

-- ---- in vain is nowhere

pub least-vain : (v : Vol) (p b n : ℕ) (r : Option ℕ) → n ≡ 0 → is_some r ≡ false → Least (λ (k : ℕ). slot v b k ≡ p) n 512 r → Vain v p b
least-vain v p b n None z s d = λ k h e. d k (omega arith) h e
least-vain v p b n (Some r) z s d = let t : true ≡ false = s in let o : ◌≡◌ {A = ℕ} 0 1 = cc in absurd (let q : ⊥ = omega arith in q)

-- ---- slots that are not filled

pub slots-all : (v : Vol) (b : ℕ) → SlotsEnd v b 512
slots-all v b = record { most = omega arith; none = λ k h l. absurd (let z : ⊥ = omega arith in z) }

-- the slots of the root of flags x, page t and count m, where no positions from n on are filled
pub end-one : (v : Vol) (x t m n z : ℕ) → x ≡ 1 → ShortR v (root_by x t m) n → z ≤ 512 → ((k : ℕ) → z ≤ k → k < 512 → n ≤ k) → SlotsEnd v t z
unfolding Short
end-one v x t m n z e s h f = record { most = h; none = λ k l i. (root-short v x t m n s 0 e (omega arith) k i).0 (omega (arith, f k l i)) }

-- z slots of a subindex block, 512 at most, hold n positions
pub slots-hold : (n d z k : ℕ) → d ≡ n / 512 + min 1 (n % 512) → z ≡ min d 512 → z ≤ k → k < 512 → n ≤ k * 512
slots-hold n d z k e f h l = omega arith

pub end-two : (v : Vol) (x t m n z : ℕ) → x ≡ 2 → ShortR v (root_by x t m) n → z ≤ 512 → ((k : ℕ) → z ≤ k → k < 512 → n ≤ k * 512) → SlotsEnd v t z
unfolding Short
end-two v x t m n z e s h f = record { most = h; none = λ k l i. (root-short v x t m n s 1 e (omega arith) k i).0 (f k l i) }

-- ---- under a subindex block

-- the page at a position
abbrev pub under : Vol → ℕ → ℕ → ℕ
under v t k = slot v (slot v t (k / 512)) (k % 512)

pub under-slot : (v : Vol) (t b k j : ℕ) → b ≡ slot v t k → j < 512 → under v t (512 * k + j) ≡ slot v b j
under-slot v t b k j e h =
    let q : (512 * k + j) / 512 ≡ k = omega arith in
    let s : (512 * k + j) % 512 ≡ j = omega arith in
    ap₂ (λ (x y : ℕ). slot v (slot v t x) y) q s ∙ ap (λ (x : ℕ). slot v x j) (sym e)

-- under slots that are not filled
pub under-past : (v : Vol) (p t n z x : ℕ) → 0 < p → SlotsEnd v t z → 512 * z ≤ x → Never (λ (k : ℕ). under v t k ≡ p) n x → Never (λ (k : ℕ). under v t k ≡ p) n 262144
under-past v p t n z x pos d l none i s h e = elim (dec_lt i x) [
  | yes o ↦ none i s o e
  | no o ↦
      let g : under v t i ≡ 0 = ap (λ (b : ℕ). slot v b (i % 512)) (d.none (i / 512) (omega arith) (omega arith)) ∙ slot-absent v (i % 512) in
      omega (arith, e, g)
]

pub under-vain : (v : Vol) (p t n : ℕ) → n ≡ 0 → Never (λ (k : ℕ). under v t k ≡ p) n 262144 → VainUnder v p t
under-vain v p t n z d k h j l e = d (512 * k + j) (omega arith) (omega arith) (under-slot v t (slot v t k) k j refl l ∙ e)
