-- What rules 4 and 6 ask of one entry. Assumes nothing.
use Rattle.std.specs.Prelude.{◌≡◌, Bool, ℕ, ◌/◌, ◌<◌}
use Rattle.book.specs.Entries.{Table, used}
use Rattle.book.specs.Rules.{UserOkOver, FileOk}
use Rattle.book.specs.Names.{stored}

-- user u is unused, or right by what is asked
abbrev pub UserFine : Bool → Table → ℕ → Type 0
UserFine ten U u = 0 < used (U u) → UserOkOver stored ten U u

-- object e is unused, or right
abbrev pub FileFine : Table → Table → ℕ → Type 0
FileFine U O e = 0 < used (O e) → FileOk U O (e / 256) e

-- entry x is unused
abbrev pub Unused : Table → ℕ → Type 0
Unused U x = used (U x) ≡ 0
