use mathlib.Core.Path.{◌≡◌, sym, ◌∙◌, subst₂}
use mathlib.Core.Bool.{Bool}
use mathlib.Core.List.{List}
use Prim.Native.Nat.{ℕ, ◌+◌, ◌<◌}
use native.Mathlib.Omega.{arith}
use Rattle.book.specs.Words.{Vol, vol}
use Rattle.book.specs.Entries.{entry_word}
use Rattle.book.specs.Names.{stored}
use Rattle.book.specs.Decides.{Decides, decides_and}
use Rattle.page.proofs.Deciding.{told}
use Rattle.heads.proofs.Each.{decides-first}
use Rattle.tree.specs.Reach.{entry_in}
use Rattle.tree.proofs.Entries.{there-stored, there-end}
use Rattle.heads.proofs.stored.entry_same.Goals as goal

-- a test of two names, or two types, on their pages is one of the entries'
there : (v : Vol) (p a j q b k m n : ℕ) (r : Bool) → 0 < p → j ≡ entry_word a → 0 < q → k ≡ entry_word b → Decides r (stored n (v p) (j + m) ≡ stored n (v q) (k + m)) → Decides r (stored n (entry_in v p a) m ≡ stored n (entry_in v q b) m)
there v p a j q b k m n r g e h f = subst₂ (λ (x y : List ℕ). Decides r (x ≡ y)) (there-stored v p a j m n g e) (there-stored v q b k m n h f)

pub same_at-requires : goal.same_at-requires
same_at-requires c = (omega arith, omega arith, omega arith, omega arith, omega arith, c.requires.5.name ∙ sym (there-end (vol c.args.img.now) c.args.q c.args.b c.of-k.result.word 1 16 c.requires.2 c.of-k.ensures.1))

pub returns-else-same_at : goal.returns-else-same_at
returns-else-same_at c = decides-first _ _ _ (there (vol c.args.img.now) c.args.p c.args.a c.of-j.result.word c.args.q c.args.b c.of-k.result.word 1 16 c.same_at.result c.requires.0 c.of-j.ensures.1 c.requires.2 c.of-k.ensures.1 c.same_at.ensures) c.if-same_at.false (λ d. d.0)

pub same_at-requires-then-same_at : goal.same_at-requires-then-same_at
same_at-requires-then-same_at c = (omega arith, omega arith, c.requires.4.even, omega (arith, c.requires.4.most), omega (arith, c.requires.4.most), c.requires.5.type ∙ sym (there-end (vol c.args.img.now) c.args.q c.args.b c.of-k.result.word 9 c.args.n c.requires.2 c.of-k.ensures.1))

pub returns-then-same_at : goal.returns-then-same_at
returns-then-same_at c =
    decides_and c.same_at-then-same_at.result _ _
    (told c.same_at.result _ (there (vol c.args.img.now) c.args.p c.args.a c.of-j.result.word c.args.q c.args.b c.of-k.result.word 1 16 c.same_at.result c.requires.0 c.of-j.ensures.1 c.requires.2 c.of-k.ensures.1 c.same_at.ensures) c.if-same_at.true)
    (there (vol c.args.img.now) c.args.p c.args.a c.of-j.result.word c.args.q c.args.b c.of-k.result.word 9 c.args.n c.same_at-then-same_at.result c.requires.0 c.of-j.ensures.1 c.requires.2 c.of-k.ensures.1 c.same_at-then-same_at.ensures)
