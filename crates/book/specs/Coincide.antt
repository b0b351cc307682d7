-- Equal volumes are equal images, and the rules judged are their table. That two outcomes of a call are the same is proved in proofs/Coincide.antt. Assumes nothing.
use Rattle.std.specs.Prelude.{◌≡◌, Bool, List, ℕ, ◌+◌, ◌*◌, ◌/◌, ◌%◌, ◌<◌, length, get_or}
use Rattle.std.proofs.Common.{sym, ◌∙◌, ap, arith, ext_get_or}
use Rattle.book.specs.Words.{Vol, vol}
use Rattle.book.specs.Written.{vol-in}
use Rattle.book.specs.Rules.{SoundOver, rules_of}
use Rattle.book.specs.Rows.{Rows, Lowest, Clear, lowest-applies, clear_none}
use Rattle.book.specs.Outcome.{call, asking, Single}
use Rattle.book.specs.Names.{stored}

-- equal volumes of one length are equal images
pub vol-ext : (a b : List ℕ) → length a ≡ length b → vol a ≡ vol b → a ≡ b
vol-ext a b l e = ext_get_or 0 a b l (λ i h.
    let q : 1024 * (i / 1024) + i % 1024 ≡ i = omega arith in
    let m : i % 1024 < 1024 = omega arith in
    sym (ap (λ (k : ℕ). get_or a k 0) q) ∙ sym (vol-in a (i / 1024) (i % 1024) m) ∙ ap (λ (v : Vol). v (i / 1024) (i % 1024)) e
    ∙ vol-in b (i / 1024) (i % 1024) m ∙ ap (λ (k : ℕ). get_or b k 0) q)

-- a call whose value is a number gives that number
pub single-call : (img : List ℕ) (args : Type 0) (rest : Rows) (value : ℕ) (after : Vol) → Single (call img args rest value after)
unfolding Single call asking
single-call img args rest value after c x y a b = a ∙ sym b

-- the rules judged and their table
pub sound-clear : (ten : Bool) (P : ℕ) (v : Vol) → SoundOver stored ten P v → Clear (rules_of ten P v)
unfolding rules_of Clear
sound-clear ten P v S = (S.r1, (S.r2, (S.r3, (S.r4, (S.r5, (S.r6, (S.r7, (S.r8, (S.r9, (S.r10, tt))))))))))

pub clear-sound : (ten : Bool) (P : ℕ) (v : Vol) → Clear (rules_of ten P v) → SoundOver stored ten P v
unfolding rules_of Clear
clear-sound ten P v c = record {
  r1 = c.0;
  r2 = c.1.0;
  r3 = c.1.1.0;
  r4 = c.1.1.1.0;
  r5 = c.1.1.1.1.0;
  r6 = c.1.1.1.1.1.0;
  r7 = c.1.1.1.1.1.1.0;
  r8 = c.1.1.1.1.1.1.1.0;
  r9 = c.1.1.1.1.1.1.1.1.0;
  r10 = c.1.1.1.1.1.1.1.1.1.0;
}

pub broken-unsound : (ten : Bool) (P : ℕ) (v : Vol) (r : ℕ) → Lowest (rules_of ten P v) r → SoundOver stored ten P v → ⊥
broken-unsound ten P v r l S = clear_none (rules_of ten P v) (sound-clear ten P v S) r (lowest-applies (rules_of ten P v) r l)
