-- The part that reading a page tells a C caller of is the part that the read call gives. Assumes nothing.
use native.Mathlib.Omega.{arith}
use mathlib.Core.Path.{◌≡◌, refl, sym, ap, ◌∙◌}
use mathlib.Core.Logic.{inl, inr}
use mathlib.Core.List.{List, []}
use Prim.Native.Nat.{ℕ, ◌*◌, ◌<◌}
use lib.ListN.{take, drop}
use Rattle.book.specs.Words.{vol}
use Rattle.book.specs.Trees.{page_at}
use Rattle.book.specs.Entries.{file_entry}
use Rattle.book.specs.Files.{file_at}
use Rattle.book.specs.Rows.{Lowest, Counted, lowest-counted}
use Rattle.book.specs.Answers.{unbroken}
use Rattle.book.specs.Outcome.{asking, call, judged, Outcome, Gives}
use Rattle.book.specs.Calls.{address_call, read_call, position_rows, part_at}
use Rattle.edge.specs.Replied.{Lies}
use Rattle.edge.specs.declared.spell.Part.{Part}

-- the words of a part of an image
abbrev pub words_of : List ℕ → Part → List ℕ
words_of img r = take r.length (drop r.offset img)

-- a refusal's number is not 0
refused-above : (img : List ℕ) (u f n m : ℕ) → Lowest (address_call img u f n).table m → 0 < m
unfolding address_call call asking judged position_rows Counted
refused-above img u f n m l =
    lowest-counted (address_call img u f n).table m (omega arith, (omega arith, (omega arith, (omega arith, tt)))) l

empty-part : (img : List ℕ) (r : Part) → r.offset ≡ 0 → r.length ≡ 0 → words_of img r ≡ []
empty-part img r o l = ap (λ (k : ℕ). take k (drop r.offset img)) l

page-part : (img : List ℕ) (r : Part) (p q : ℕ) → p ≡ q → r.offset ≡ 1024 * p → r.length ≡ 1024 → words_of img r ≡ part_at img q
page-part img r p q e o l =
    ap (λ (k : ℕ). take k (drop r.offset img)) l ∙ ap (λ (k : ℕ). take 1024 (drop k img)) o ∙ ap (λ (k : ℕ). part_at img k) e

pub part-reads : (img : List ℕ) (u f n : ℕ) (r : Part) → Lies (address_call img u f n) img r → Gives (read_call img u f n) img (words_of img r)
unfolding Lies Outcome address_call read_call call asking
part-reads img u f n r (m, inl x, s) =
    let z : 0 < m.number = refused-above img u f n m.number x.number in
    let w : (r.offset ≡ 0) × (r.length ≡ 0) = s.1 (λ e. let q : ⊥ = omega (arith, e, z) in q) in (
      record { number = m.number; value = []; broken = m.broken },
      sym (empty-part img r w.0 w.1),
      inl (record { number = x.number; value = refl; broken = x.broken; image = x.image }),
    )
part-reads img u f n r (m, inr x, s) =
    let w : (r.offset ≡ 1024 * m.value) × (r.length ≡ 1024) = s.0 x.number in (
      record { number = 0; value = words_of img r; broken = unbroken },
      refl,
      inr (record {
        number = refl;
        clear = x.clear;
        value = page-part img r m.value (page_at (vol img) (file_at (vol img) (file_entry u f)) n) x.value w.0 w.1;
        broken = refl;
        image = x.image;
        size = x.size;
      }),
    )
