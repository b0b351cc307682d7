-- What is told of page p, from the first turns that have it. Assumes nothing.
use mathlib.Core.Path.{◌≡◌, refl, sym, ap, ◌∙◌, subst}
use mathlib.Core.Logic.{inl, inr}
use mathlib.Core.List.{List}
use Prim.Native.Nat.{ℕ, zero, suc, ◌+◌, ◌*◌, ◌≤◌, ◌<◌}
use native.Mathlib.Nat.{not-suc-le-zero, eq-zero-or-pos}
use native.Mathlib.Decide.{dec_lt}
use native.Mathlib.Omega.{arith}
use Rattle.book.specs.declared.Holder.{Holder}
use Rattle.book.specs.declared.Holder.TheVariants.{Free, Master}
use Rattle.book.specs.Words.{Vol, vol}
use Rattle.book.specs.Answers.{holder_numbers}
use Rattle.book.specs.Holders.{holders, held_page, Exists, Holds, Told}
use Rattle.book.specs.Image.{pages, Ready}
use Rattle.book.specs.Pair.{FirstTwo}
use Rattle.book.specs.Rules.{Rule2}
use Rattle.laws.specs.Count.Holder.{holder-find, holder-two}
use Rattle.laws.specs.Count.Reach.{Within, below-bits, below-users, below-objects, below-files}
use Rattle.laws.specs.Count.Who.{holds-held}
use Rattle.walk.specs.Held.{Volume}
use Rattle.walk.proofs.Short.{rules-short}
use Rattle.who.specs.Least.{Never, Here}
use Rattle.who.specs.Turns.{positions, all_turns, turn_of, turn_page, holder_at}
use Rattle.who.proofs.Leasts.{none-on}
use Rattle.who.proofs.Turning.{Turn, Has, turn-ahead, holder-turn, turn-has}

-- ---- what the search asks for

pub ready-volume : (img : List ℕ) → Ready img → Volume img
ready-volume img d = record {
  whole = d.whole;
  within = record {
    bits = below-bits (pages img) (vol img) d.sound.r1;
    users = below-users (pages img) (vol img) d.sound.r2 d.sound.r3;
    objs = below-objects (pages img) (vol img) d.sound.r2 d.sound.r5;
    files = λ u f h i. below-files (pages img) (vol img) d.sound.r7 (256 * u + f) (omega arith);
  };
  short = rules-short (pages img) (vol img) d.sound.r2 d.sound.r3 d.sound.r5 d.sound.r7;
}

pub told-master : (P : ℕ) (v : Vol) (p : ℕ) → p ≡ 0 → Told P v p Master
unfolding Told Holds
told-master P v p e = subst (λ (q : ℕ). Told P v q Master) (sym e) (inr refl)

-- page 0 has one holder
pub two-page : (P : ℕ) (v : Vol) → Rule2 P v → (p : ℕ) → 2 ≤ holders P v p → 0 < p
unfolding Holds
two-page P v two zero h = let d = holder-two P v two 0 h in absurd (d.2 (d.3 ∙ sym d.4))
two-page P v two (suc p) h = omega arith

-- a page past 0 is had by its holders
holds_parts : (P : ℕ) (v : Vol) (p : ℕ) (h : Holder) → 0 < p → Holds P v p h → Exists h × (held_page P v h ≡ p)
unfolding Holds
holds_parts P v zero h pos d = absurd (not-suc-le-zero pos)
holds_parts P v (suc p) h pos d = d

-- ---- the holders of a page past 0, by their turns

module _ (P : ℕ) (v : Vol) (w : Within P v) (few : P ≤ positions) (p : ℕ) (pos : 0 < p) where
  abbrev A : ℕ → Type 0
  A y = turn_page P v y ≡ p

  turned : (h : Holder) → Holds P v p h → Turn P v p h
  turned h d = let x = holds_parts P v p h pos d in holder-turn P v w few p pos h x.0 x.1

  turn_low : (h : Holder) → Turn P v p h → turn_of h < all_turns
  turn_low h t = omega (arith, t.bounded.kind, t.bounded.user, t.bounded.file, t.bounded.position)

  has : (y : ℕ) → y < all_turns → A y → Has P v p y (holder_at y)
  has y h e = turn-has P v w few p pos y h e

  at-holds : (y : ℕ) → y < all_turns → A y → Holds P v p (holder_at y)
  at-holds y h e = let d = has y h e in holds-held P v p (holder_at y) pos d.exists d.page

  -- no holder comes before the first from x on
  later : (x r : ℕ) → Here A x all_turns r → (h : Holder) → Turn P v p h → x ≤ turn_of h → r ≤ turn_of h
  later x r d h t l = elim (dec_lt (turn_of h) r) [
    | yes o ↦ absurd (d.none (turn_of h) l o t.page)
    | no o ↦ omega arith
  ]

  -- one holder has one turn
  same_turn : (h k : Holder) → Turn P v p h → Turn P v p k → turn_of h ≡ turn_of k → h ≡ k
  same_turn h k s t e = sym s.again ∙ ap holder_at e ∙ t.again

  -- ---- one holder

  pub told_none : Rule2 P v → Never A 0 all_turns → Told P v p Free
  unfolding Told
  told_none two none = inl (
    elim (eq-zero-or-pos (holders P v p)) [
      | inl z ↦ z
      | inr q ↦ let h = holder-find P v two p q in let t = turned h.0 h.1 in
          absurd (none (turn_of h.0) (omega arith) (turn_low h.0 t) t.page)
    ],
    refl,
  )

  pub told_at : (r : ℕ) → A r → r < all_turns → Told P v p (holder_at r)
  unfolding Told
  told_at r e h = inr (at-holds r h e)

  -- searched in three parts: from 0 to b, from b to c, from there on
  pub none-three : (b c : ℕ) → Never A 0 b → Never A b c → Never A c all_turns → Never A 0 all_turns
  none-three b c d e f = none-on A 0 c all_turns (none-on A 0 b c d e) f

  -- ---- two holders

  module _ (two : Rule2 P v) (many : 2 ≤ holders P v p) where
    pub some-turn : Never A 0 all_turns → ⊥
    some-turn none = let q = holder-two P v two p many in let t = turned q.0 q.3 in none (turn_of q.0) (omega arith) (turn_low q.0 t) t.page

    pub second-turn : (r : ℕ) → Here A 0 all_turns r → Never A (r + 1) all_turns → ⊥
    second-turn r d none =
        let q = holder-two P v two p many in let h = q.0 in let k = q.1 in
        let t = turned h q.3 in let u = turned k q.4 in
        elim (dec_lt r (turn_of h)) [
          | yes l ↦ none (turn_of h) (omega arith) (turn_low h t) t.page
          | no l ↦ elim (dec_lt r (turn_of k)) [
            | yes m ↦ none (turn_of k) (omega arith) (turn_low k u) u.page
            | no m ↦
                let x : turn_of h ≡ r = omega (arith, later 0 r d h t (omega arith)) in
                let y : turn_of k ≡ r = omega (arith, later 0 r d k u (omega arith)) in
                q.2 (same_turn h k t u (x ∙ sym y))
          ]
        ]

    pub first_two : (r s : ℕ) → Here A 0 all_turns r → Here A (r + 1) all_turns s → FirstTwo P v p (holder_at r) (holder_at s)
    first_two r s d e =
        let a = has r d.to d.here in let b = has s e.to e.here in
        let g : Holds P v p (holder_at r) = at-holds r d.to d.here in
        let h : Holds P v p (holder_at s) = at-holds s e.to e.here in
        let t = turned (holder_at r) g in let u = turned (holder_at s) h in
        record {
          first = g;
          second = h;
          order = turn-ahead (holder_numbers (holder_at r)) (holder_numbers (holder_at s)) t.bounded u.bounded (omega (arith, a.turn, b.turn, e.from));
          least = λ k c.
              let z = turned k c in
              elim (dec_lt r (turn_of k)) [
                | no l ↦ let x : turn_of k ≡ r = omega (arith, later 0 r d k z (omega arith)) in inl (sym z.again ∙ ap holder_at x)
                | yes l ↦ elim (dec_lt s (turn_of k)) [
                  | yes m ↦ inr (inr (turn-ahead (holder_numbers (holder_at s)) (holder_numbers k) u.bounded z.bounded (omega (arith, b.turn))))
                  | no m ↦ let y : turn_of k ≡ s = omega (arith, later (r + 1) s e k z (omega arith)) in inr (inl (sym z.again ∙ ap holder_at y))
                ]
              ];
        }
