use mathlib.Core.Path.{◌≡◌, refl, sym, ap, ap₂, ◌∙◌}
use mathlib.Core.Logic.{inl, inr}
use Prim.Native.Nat.{ℕ, ◌+◌, ◌*◌, ◌/◌, ◌%◌, ◌≤◌, ◌<◌}
use native.Mathlib.Nat.{eq-zero-or-pos}
use native.Mathlib.Omega.{arith}
use lib.ListN.{length}
use Rattle.sums.specs.Search.{pick, pick_yes, pick_no}
use Rattle.book.specs.Words.{Words, vol}
use Rattle.book.specs.Names.{end_of, words_of, stored}
use Rattle.laws.specs.File.Stored.{end_is, stored-length}
use Rattle.page.specs.Cut.{cut_word}
use Rattle.page.proofs.Deciding.{told, untold}
use Rattle.page.proofs.Cut.{cut-is, low-ended, low_goes, word-ended, word-goes}
use Rattle.heads.specs.Stamps.{mix, hash, hash_of}
use Rattle.heads.proofs.Hashed.{hash-none, hash-more, hash-all}
use Rattle.heads.proofs.stamps.hash_at.Goals as goal

-- word i of the name, of which x is left; g was read, and z is the number so far
module _ (n : ℕ) (even : n % 2 ≡ 0) (w : Words) (k i : ℕ) (l : i < n / 2) (go : 2 * i ≤ end_of n w k) (g : ℕ) (eg : g ≡ w (k + i)) (fits : g < 65536) (h z : ℕ) (ez : z ≡ hash h (words_of (stored n w k)) i) where
  word : (x : ℕ) → x ≡ cut_word g → x ≡ words_of (stored n w k) i
  word x e = e ∙ ap cut_word eg ∙ cut-is n even w k i go (omega arith) (omega (arith, eg, fits))

  more : (x : ℕ) → x ≡ cut_word g → (y : ℕ) → y ≡ mix z x → y ≡ hash h (words_of (stored n w k)) (i + 1)
  more x e y ey = ey ∙ ap₂ mix ez (word x e) ∙ sym (hash-more h (words_of (stored n w k)) i)

  -- the name ends in it
  last : (x : ℕ) → x ≡ cut_word g → cut_word g % 256 ≡ 0 → (y : ℕ) → y ≡ pick x (mix z x) z → y ≡ hash_of h (stored n w k)
  last x e o y ey = elim (eq-zero-or-pos x) [
    | inl q ↦ ey ∙ pick_no x (mix z x) z q ∙ ez ∙ hash-all h (stored n w k) i (omega (arith, stored-length n w k, go, word-ended n even w k i (sym (word x e) ∙ q)))
    | inr p ↦
        more x e y (ey ∙ pick_yes x (mix z x) z p) ∙ hash-all h (stored n w k) (i + 1)
        (omega (arith, stored-length n w k, low-ended n even w k i (sym (ap (λ (t : ℕ). t % 256) (word (cut_word g) refl)) ∙ o), word-goes n even w k i (λ q. omega (arith, p, word x e, q))))
  ]

  -- it goes on
  goes : (cut_word g % 256 ≡ 0 → ⊥) → 2 * (i + 1) ≤ end_of n w k
  goes f = low_goes n even w k i (λ e. f (ap (λ (t : ℕ). t % 256) (word (cut_word g) refl) ∙ e))

pub loop-i-init : goal.loop-i-init
loop-i-init c = (omega arith, sym (hash-none _ _), omega (arith, c.requires.3))

pub returns-then-ends_in : goal.returns-then-ends_in
returns-then-ends_in c = (
  last c.args.n c.requires.1 (vol c.args.img.now c.args.p) c.args.k c.loop-i.i c.loop-i-test.true c.loop-i.invariant.0 c.word_at-x.result c.word_at-x.ensures (omega arith) c.args.h c.loop-i.z c.loop-i.invariant.1
      c.cut.result c.cut.ensures (told c.ends_in.result _ c.ends_in.ensures.0 c.if-ends_in.true) c.last_mixed.result c.last_mixed.ensures.0,
  c.last_mixed.ensures.1,
)

pub loop-i-preserved : goal.loop-i-preserved
loop-i-preserved c =
    let w = vol c.args.img.now c.args.p in (
      goes c.args.n c.requires.1 w c.args.k c.loop-i.i c.loop-i-test.true c.loop-i.invariant.0 c.word_at-x.result c.word_at-x.ensures (omega arith) c.args.h c.loop-i.z c.loop-i.invariant.1 (untold c.ends_in.result _ c.ends_in.ensures.0 c.if-ends_in.false),
      more c.args.n c.requires.1 w c.args.k c.loop-i.i c.loop-i-test.true c.loop-i.invariant.0 c.word_at-x.result c.word_at-x.ensures (omega arith) c.args.h c.loop-i.z c.loop-i.invariant.1 c.word_at-x.result (sym (c.ends_in.ensures.1 c.if-ends_in.false)) c.mixed-z.result c.mixed-z.ensures.0,
      c.mixed-z.ensures.1,
    )

pub returns : goal.returns
returns c = let w = vol c.args.img.now c.args.p in
    let e : (length (stored c.args.n w c.args.k) + 1) / 2 ≡ c.loop-i.i = omega (arith, stored-length c.args.n w c.args.k, c.loop-i.invariant.0, (end_is c.args.n w c.args.k).most) in
    (c.loop-i.invariant.1 ∙ hash-all c.args.h (stored c.args.n w c.args.k) c.loop-i.i e, c.loop-i.invariant.2)
