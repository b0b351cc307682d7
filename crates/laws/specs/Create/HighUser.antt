-- A user above 63 has a subindexed object file: creating one makes it so. Assumes nothing.
use Rattle.std.specs.Prelude.{◌≡◌, List, ℕ, ◌/◌, ◌<◌}
use Rattle.std.proofs.Common.{◌∙◌, inl, inr, arith}
use Rattle.book.specs.Answers.{Numbers}
use Rattle.book.specs.Calls.{create_user_call}
use Rattle.book.specs.Create.{user_entry}
use Rattle.book.specs.Entries.{user, user_file, used, new_user}
use Rattle.book.specs.Image.{pages}
use Rattle.book.specs.Outcome.{Outcome, DoneAs, call, asking, judged}
use Rattle.book.specs.Pointers.{flags, Inside, subindexed, user_pointer, object_pointer}
use Rattle.book.specs.Rows.{Clear}
use Rattle.book.specs.Rules.{Rule2, Rule5}
use Rattle.book.specs.Trees.{root_at}
use Rattle.book.specs.Words.{Vol, vol}
use Rattle.laws.specs.Count.Reach.{high-unused}
use Rattle.laws.specs.Create.NewEntry.{user-used}
use Rattle.laws.specs.Create.User.{UserCreated}
use Rattle.laws.specs.Create.UserCall.{create-user-done, user-created, create-user-value}
use Rattle.laws.specs.Frame.Roots.{used-page, zero-none}
use Rattle.laws.specs.Tree.Pointer.{used-ext}

-- where a user above 63 is used
pub high-subindexed : (P : ℕ) (v : Vol) → Rule2 P v → Rule5 P v → (u : ℕ) → 63 < u → u < 256 → 0 < used (user v u) → flags (v 0) object_pointer ≡ subindexed
unfolding Rule2 Inside user user_file
high-subindexed P v (inl z) r u a b q =
    absurd (let w : ⊥ = omega (arith, used-page v (root_at (v 0) user_pointer 0) u q, zero-none v (v 0) user_pointer z.0 (u / 32)) in w)
high-subindexed P v (inr (i, inl o)) r u a b q = absurd (let w : ⊥ = omega (arith, q, high-unused P v r o.0 u a b) in w)
high-subindexed P v (inr (i, inr o)) r u a b q = o.0

-- after a create user that is done with such an index
module _ (img name : List ℕ) (r : Numbers ℕ) (img' : List ℕ) (o : Outcome (create_user_call img name) img r img') (z : r.number ≡ 0) where
  made : UserCreated (pages img) (vol img) (vol img') r.value name
  made = user-created img name r img' o z

  low : r.value < 256
  unfolding create_user_call call asking judged Clear
  low = let d : DoneAs (create_user_call img name) img r img' = create-user-done img name r img' o z in
      let lt : new_user (vol img) < 256 = d.clear.1.1.1.1.0 in
      omega (arith, lt, create-user-value img name r img' o z)

  there : used (user (vol img') r.value) ≡ 1
  there = used-ext (user (vol img') r.value) (user_entry r.value name) (made.words 0 (omega arith)) ∙ user-used r.value name

  pub create-user-high : 63 < r.value → flags (vol img' 0) object_pointer ≡ subindexed
  create-user-high h = high-subindexed (pages img) (vol img') made.sound.r2 made.sound.r5 r.value h low (omega (arith, there))
