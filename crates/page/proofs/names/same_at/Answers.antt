-- `page::names::same_at` meets its contract. Assumes nothing.
use mathlib.Core.Path.{◌≡◌, sym, ap, ◌∙◌, subst}
use mathlib.Core.List.{List}
use Prim.Native.Nat.{ℕ, ◌+◌, ◌*◌, ◌/◌, ◌%◌, ◌≤◌, ◌<◌}
use native.Mathlib.Decide.{ℕ_discrete}
use native.Mathlib.Omega.{arith}
use lib.Dec.{eqb}
use lib.ListN.{length}
use Rattle.book.specs.Words.{Words, vol}
use Rattle.book.specs.Names.{end_of, words_of, stored}
use Rattle.book.specs.Decides.{Decides}
use Rattle.laws.specs.File.Stored.{end_is, stored-length}
use Rattle.page.specs.Cut.{Alike, cut_word}
use Rattle.page.proofs.Cut.{cut-is, word-whole, low-ended, low_goes, alike-more, alike_end, alike_all}
use Rattle.page.proofs.Deciding.{decides-iff, decides_eq, decides_le-yes}
use Rattle.page.proofs.names.same_at.Goals as goal

module _ (n : ℕ) (even : n % 2 ≡ 0) (w : Words) (j : ℕ) (x : Words) (k l : ℕ) (le : l ≡ end_of n x k) where
  within : l ≤ n
  within = omega (arith, le, (end_is n x k).most)

  module _ (i : ℕ) (s : Alike n w j x k i) where
    all : i ≤ l / 2 → l / 2 ≤ i → n ≤ l → stored n w j ≡ stored n x k
    all a b h = alike_all n even w j x k i s (omega (arith, within))

    -- g and h are the words i of both
    module _ (g h : ℕ) (eg : g ≡ w (j + i)) (eh : h ≡ x (k + i)) (fg : g < 65536) (fh : h < 65536) where
      module _ (in_field : 2 * i < n) where
        first : cut_word g ≡ words_of (stored n w j) i
        first = ap cut_word eg ∙ cut-is n even w j i s.first in_field (omega (arith, eg, fg))

        second : cut_word h ≡ words_of (stored n x k) i
        second = ap cut_word eh ∙ cut-is n even x k i s.second in_field (omega (arith, eh, fh))

        -- the word in which the second one ends
        last : (a b : ℕ) → a ≡ cut_word g → b ≡ cut_word h → l / 2 ≤ i → Decides (eqb a b) (stored n w j ≡ stored n x k)
        last a b ea eb up =
            decides-iff (eqb a b) (a ≡ b) (stored n w j ≡ stored n x k) (λ e. alike_end n even w j x k i s (word e) (ap (λ (t : ℕ). t % 256) (word e) ∙ ended))
            (λ e. ea ∙ first ∙ ap (λ (t : List ℕ). words_of t i) e ∙ sym second ∙ sym eb) (decides_eq a b)
          where
            word : a ≡ b → words_of (stored n w j) i ≡ words_of (stored n x k) i
            word e = sym first ∙ sym ea ∙ e ∙ eb ∙ second

            ended : words_of (stored n x k) i % 256 ≡ 0
            ended = elim (ℕ_discrete (words_of (stored n x k) i % 256) 0) [
              | yes z ↦ z
              | no f ↦ absurd (let r : ⊥ = omega (arith, le, low_goes n even x k i f) in r)
            ]

      -- a word before that
      module _ (low : i < l / 2) where
        other : (g ≡ h → ⊥) → stored n w j ≡ stored n x k → ⊥
        other f e =
            let d : end_of n w j ≡ end_of n x k = sym (stored-length n w j) ∙ ap (λ (t : List ℕ). length t) e ∙ stored-length n x k in
            f (eg ∙ sym (word-whole n even w j i (omega (arith, le, d)) (omega (arith, eg, fg))) ∙ ap (λ (t : List ℕ). words_of t i) e ∙ word-whole n even x k i (omega (arith, le)) (omega (arith, eh, fh)) ∙ sym eh)

        goes : g ≡ h → Alike n w j x k (i + 1)
        goes e =
            let inside : 2 * i < n = omega (arith, within) in
            let word : words_of (stored n w j) i ≡ words_of (stored n x k) i = sym (first inside) ∙ ap cut_word e ∙ second inside in
            alike-more n even w j x k i s word (λ z. omega (arith, le, low-ended n even x k i (sym (ap (λ (t : ℕ). t % 256) word) ∙ z)))

pub word_at-requires : goal.word_at-requires
word_at-requires c = omega (arith, within c.args.n c.requires.2 (vol c.args.img.now c.args.p) c.args.j (vol c.args.img.now c.args.q) c.args.k c.args.l c.requires.5)

pub word_at-requires-in-loop-i : goal.word_at-requires-in-loop-i
word_at-requires-in-loop-i c = omega (arith, within c.args.n c.requires.2 (vol c.args.img.now c.args.p) c.args.j (vol c.args.img.now c.args.q) c.args.k c.args.l c.requires.5)

pub returns-then-word_at : goal.returns-then-word_at
returns-then-word_at c =
    other c.args.n c.requires.2 (vol c.args.img.now c.args.p) c.args.j (vol c.args.img.now c.args.q) c.args.k c.args.l c.requires.5 c.loop-i.i c.loop-i.invariant c.word_at.result c.word_at-in-loop-i.result c.word_at.ensures c.word_at-in-loop-i.ensures (omega arith) (omega arith)
    c.loop-i-test.true c.if-word_at.true

pub loop-i-preserved : goal.loop-i-preserved
loop-i-preserved c =
    goes c.args.n c.requires.2 (vol c.args.img.now c.args.p) c.args.j (vol c.args.img.now c.args.q) c.args.k c.args.l c.requires.5 c.loop-i.i c.loop-i.invariant c.word_at.result c.word_at-in-loop-i.result c.word_at.ensures c.word_at-in-loop-i.ensures (omega arith) (omega arith)
    c.loop-i-test.true c.if-word_at.false

pub returns-then-n-l : goal.returns-then-n-l
returns-then-n-l c = decides_le-yes c.args.n c.args.l _ (omega arith) (all c.args.n c.requires.2 (vol c.args.img.now c.args.p) c.args.j (vol c.args.img.now c.args.q) c.args.k c.args.l c.requires.5 c.loop-i.i c.loop-i.invariant (omega arith) (omega arith) (omega arith))

pub returns-else-n-l : goal.returns-else-n-l
returns-else-n-l c =
    let i : c.loop-i.i ≡ c.args.l / 2 = omega arith in
    last c.args.n c.requires.2 (vol c.args.img.now c.args.p) c.args.j (vol c.args.img.now c.args.q) c.args.k c.args.l c.requires.5 (c.args.l / 2)
    (subst (λ (m : ℕ). Alike c.args.n (vol c.args.img.now c.args.p) c.args.j (vol c.args.img.now c.args.q) c.args.k m) i c.loop-i.invariant)
    c.word_at-else-n-l.result c.word_at-else-n-l-2.result c.word_at-else-n-l.ensures c.word_at-else-n-l-2.ensures (omega arith) (omega arith) (omega arith)
    c.cut.result c.cut-else-n-l.result c.cut.ensures c.cut-else-n-l.ensures (omega arith)
