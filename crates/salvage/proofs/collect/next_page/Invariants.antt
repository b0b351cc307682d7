use Prim.Native.Nat.{ℕ, ◌+◌, ◌*◌, ◌≤◌, ◌<◌}
use Rattle.book.specs.Bits.{bit_pages}
use Rattle.book.specs.Entries.{user_page}
use Rattle.book.specs.Image.{pages}
use Rattle.book.specs.Words.{vol}
use Rattle.salvage.proofs.collect.next_page.Given as goal

abbrev pub invariant-loop-i : goal.invariant-loop-i
invariant-loop-i l = (l.p < l.r) × (l.r ≤ l.total) × ((x : ℕ) → l.p < x → l.b ≤ x → x < l.b + bit_pages (pages l.img) → l.r ≤ x) × ((j : ℕ) → j < l.i → l.p < user_page (vol l.img) (32 * j) → l.r ≤ user_page (vol l.img) (32 * j))
