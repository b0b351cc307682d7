-- The create user call: sound again, what it writes, what it leaves. Assumes nothing.
use Rattle.std.specs.Prelude.{◌≡◌, ◌≢◌, List, ℕ, ◌≤◌, ◌<◌}
use Rattle.std.proofs.Math.Path.{refl, subst₂}
use Rattle.std.proofs.Common.{sym}
use native.Mathlib.Omega.{arith}
use Rattle.book.specs.Answers.{Numbers}
use Rattle.book.specs.Bits.{lowest_free}
use Rattle.book.specs.Calls.{create_user_call, IsUser}
use Rattle.book.specs.Create.{user_need, user_entry, create_user}
use Rattle.book.specs.Entries.{user, object, new_user, unreserved}
use Rattle.book.specs.Files.{file_at}
use Rattle.book.specs.Image.{pages, Whole}
use Rattle.book.specs.Names.{NameText}
use Rattle.book.specs.Outcome.{Outcome, DoneAs, call, asking, judged}
use Rattle.book.specs.Rows.{Clear, Counted}
use Rattle.book.specs.Rules.{Sound}
use Rattle.book.specs.Trees.{page_at}
use Rattle.book.specs.Words.{Vol, vol}
use Rattle.laws.specs.Bits.Choose.{lowest-stock}
use Rattle.laws.specs.Call.After.{after_call, kept-call}
use Rattle.laws.specs.Call.Done.{done}
use Rattle.laws.specs.Create.User.{UserCreateWords, UserCreated, create-user}
use Rattle.laws.specs.Create.NewEntry.{user-used, user-named}
use Rattle.laws.specs.Frame.Places.{OnlyAt}
use Rattle.laws.specs.Tree.Pointer.{used-ext}

module _ (img : List ℕ) (name : List ℕ) where
  abbrev P : ℕ
  P = pages img

  abbrev v : Vol
  v = vol img

  abbrev u : ℕ
  u = new_user v

  -- the step that the call takes
  step : Whole img → NameText name → Sound P v → ((x : ℕ) → IsUser v name x → ⊥) → u < 256 → user_need v u ≤ unreserved v → UserCreated P v (create_user (lowest_free P) P v name) u name
  step W T S fresh lt have = create-user (lowest-stock S (omega (arith, W.least))) (omega (arith, W.most)) name T fresh lt have

  module _ (r : Numbers ℕ) (img' : List ℕ) (o : Outcome (create_user_call img name) img r img') where
    abbrev v' : Vol
    v' = vol img'

    pub kept-create-user : Sound P v → Sound (pages img') v'
    unfolding create_user_call call Clear
    kept-create-user = kept-call img _ _ 0 _ _ r img' o (λ W A S c. (step W A S c.0 c.1.0 c.1.1.0).sound)

    -- done or refused: only these words differ
    pub frame-create-user : OnlyAt (UserCreateWords P v v' u) v v'
    unfolding create_user_call call Clear
    frame-create-user = after_call img _ _ 0 _ _ r img' o (λ w. OnlyAt (UserCreateWords P v w u) v w) (λ p k h. refl) (λ W A S c. (step W A S c.0 c.1.0 c.1.1.0).only)

    -- other users, all objects and all files' pages stay
    pub users-create-user : (x : ℕ) → x ≢ u → (k : ℕ) → k < 32 → user v' x k ≡ user v x k
    unfolding create_user_call call Clear
    users-create-user x n k h = after_call img _ _ 0 _ _ r img' o (λ w. user w x k ≡ user v x k) refl (λ W A S c. (step W A S c.0 c.1.0 c.1.1.0).users x n k h)

    pub objects-create-user : object v' ≡ object v
    unfolding create_user_call call Clear
    objects-create-user = after_call img _ _ 0 _ _ r img' o (λ w. object w ≡ object v) refl (λ W A S c. (step W A S c.0 c.1.0 c.1.1.0).objects)

    pub addresses-create-user : (x : ℕ) → x < 65536 → (m : ℕ) → page_at v' (file_at v' x) m ≡ page_at v (file_at v x) m
    unfolding create_user_call call Clear
    addresses-create-user x h m = after_call img _ _ 0 _ _ r img' o (λ w. page_at w (file_at w x) m ≡ page_at v (file_at v x) m) refl (λ W A S c. (step W A S c.0 c.1.0 c.1.1.0).address x h m)

    -- done: the index returned is the lowest unused one, and he is there
    module _ (z : r.number ≡ 0) where
      pub create-user-done : DoneAs (create_user_call img name) img r img'
      unfolding create_user_call call asking judged Counted
      create-user-done = done (create_user_call img name) img r img' (omega arith, (omega arith, (omega arith, (omega arith, (omega arith, (omega arith, tt)))))) o z

      pub user-created : UserCreated P v v' r.value name
      unfolding create_user_call call asking judged Clear
      user-created = let c = create-user-done.clear in
          subst₂ (λ (w : Vol) (x : ℕ). UserCreated P v w x name) (sym create-user-done.image) (sym create-user-done.value)
          (step c.0 c.1.0 c.1.1.0 c.1.1.1.0 c.1.1.1.1.0 c.1.1.1.1.1.0)

      pub create-user-value : r.value ≡ new_user v
      unfolding create_user_call call asking
      create-user-value = create-user-done.value

      -- he is found under his name
      pub found-create-user : IsUser v' name r.value
      unfolding create_user_call call asking judged Clear
      found-create-user =
          let c = create-user-done.clear in let w = user-created.words in (
            omega (arith, create-user-value, c.1.1.1.1.0),
            omega (arith, used-ext (user v' r.value) (user_entry r.value name) (w 0 (omega arith)), user-used r.value name),
            user-named r.value name c.1.0 (user v' r.value) w,
          )
