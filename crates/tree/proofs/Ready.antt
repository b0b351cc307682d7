-- What an image that is ready gives: all pages of its trees are in it. Assumes nothing.
use mathlib.Core.List.{List}
use Prim.Native.Nat.{ℕ, ◌<◌}
use native.Mathlib.Omega.{arith}
use Rattle.book.specs.Words.{vol}
use Rattle.book.specs.Entries.{user_file, object_file}
use Rattle.book.specs.Files.{file_at}
use Rattle.book.specs.Image.{pages, Ready}
use Rattle.laws.specs.Count.Reach.{below-users, below-objects, below-files}
use Rattle.tree.specs.Reach.{Reach}

module _ (img : List ℕ) (d : Ready img) where
  pub ready-some : 0 < pages img
  ready-some = omega (arith, d.whole.least)

  pub ready-users : Reach img (user_file (vol img))
  ready-users = record { some = ready-some; below = below-users (pages img) (vol img) d.sound.r2 d.sound.r3 }

  pub ready-objects : Reach img (object_file (vol img))
  ready-objects = record { some = ready-some; below = below-objects (pages img) (vol img) d.sound.r2 d.sound.r5 }

  pub ready-file : (e : ℕ) → e < 65536 → Reach img (file_at (vol img) e)
  ready-file e h = record { some = ready-some; below = below-files (pages img) (vol img) d.sound.r7 e h }
