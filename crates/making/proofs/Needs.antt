-- The system pages that a new user asks for, the first time and later. Assumes nothing.
use mathlib.Core.Path.{◌≡◌}
use Prim.Native.Nat.{ℕ, ◌+◌, ◌-◌, ◌<◌}
use Rattle.sums.specs.Search.{pick_yes, pick_no}
use Rattle.book.specs.Words.{Vol}
use Rattle.book.specs.Pointers.{page, user_pointer}
use Rattle.book.specs.Entries.{user_page}
use Rattle.book.specs.Create.{raises, user_need}

module _ (v : Vol) (u : ℕ) where
  pub need-first : page (v 0) user_pointer ≡ 0 → user_need v u ≡ 3
  unfolding user_need
  need-first z = pick_no (page (v 0) user_pointer) ((1 - user_page v u) + raises v u) 3 z

  pub need-later : 0 < page (v 0) user_pointer → user_need v u ≡ (1 - user_page v u) + raises v u
  unfolding user_need
  need-later h = pick_yes (page (v 0) user_pointer) ((1 - user_page v u) + raises v u) 3 h
