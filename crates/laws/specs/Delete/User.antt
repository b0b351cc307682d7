-- Delete a user: the image stays sound, his entry and the unreserved count alone differ, his given pages go back. Assumes nothing.
use Rattle.std.specs.Prelude.{◌≡◌, ◌≢◌, List, ℕ, ◌+◌, ◌/◌, ◌<◌}
use Rattle.std.proofs.Math.Path.{ap}
use Rattle.std.proofs.Common.{◌∙◌}
use native.Mathlib.Omega.{arith}
use Rattle.sums.specs.Search.{pick_no}
use Rattle.book.specs.Pointers.{unreserved_count}
use Rattle.book.specs.Answers.{Numbers}
use Rattle.book.specs.Calls.{NoFiles, delete_user_call}
use Rattle.book.specs.Delete.{delete_user}
use Rattle.book.specs.Entries.{Table, user, object, object_file, used, given, grant, user_page, entry_word, put_entry, unreserved}
use Rattle.book.specs.Files.{file_at}
use Rattle.book.specs.Image.{pages}
use Rattle.book.specs.Outcome.{call, Outcome}
use Rattle.book.specs.Rows.{Clear, Counted}
use Rattle.book.specs.Rules.{Sound}
use Rattle.book.specs.Trees.{page_at}
use Rattle.book.specs.Words.{Vol, vol, zeros}
use Rattle.book.specs.Written.{put_words-here, put2-page, put2-two}
use Rattle.laws.specs.Call.After.{Called, Stepped, after-done, called}
use Rattle.laws.specs.Count.Good.{grant-used}
use Rattle.laws.specs.Frame.Places.{Places, EntryOf, UnreservedWords, Either, OnlyAt, only_then, only-put2, only-put_words}
use Rattle.laws.specs.User.Words.{BesideUser, beside_same, user-has-page, user-now, user-beside, user-sound}

-- user u's entry, and the unreserved words
abbrev pub UserWordsOf : Vol → ℕ → Places
UserWordsOf v u = Either (EntryOf (user_page v u) u) UnreservedWords

deleted-only : (v : Vol) (u : ℕ) → OnlyAt (UserWordsOf v u) v (delete_user v u)
unfolding delete_user
deleted-only v u = only_then (EntryOf (user_page v u) u) UnreservedWords v _ _ (only-put_words v (user_page v u) (entry_word u) 32 zeros) (only-put2 _ 0 unreserved_count _)

-- his given pages are unreserved again
deleted-back : (v : Vol) (u : ℕ) → unreserved (delete_user v u) ≡ unreserved v + given (user v) u
unfolding delete_user unreserved
deleted-back v u = put2-two _ 0 unreserved_count _

module _ (P : ℕ) (v : Vol) (S : Sound P v) (pos : 0 < P) (u : ℕ) (hu : u < 256) (uu : 0 < used (user v u)) where
  abbrev U : ℕ
  U = user_page v u

  abbrev E : ℕ
  E = entry_word u

  v' : Vol
  v' = delete_user v u

  only : OnlyAt (UserWordsOf v u) v v'
  unfolding v'
  only = deleted-only v u

  cleared : user v' u 0 ≡ 0
  unfolding v' delete_user
  cleared =
      let i = user-has-page P v S pos u hu uu v' only in
      user-now P v S pos u hu uu v' only 0
      ∙ put2-page (put_entry v U u zeros) 0 unreserved_count _ U (E + 0) (λ e. let r : ⊥ = omega arith in absurd r)
      ∙ put_words-here v U E 32 zeros (E + 0) (omega arith) (omega arith)

  unused : used (user v' u) ≡ 0
  unfolding used
  unused = ap (λ (x : ℕ). x / 32768) cleared

  no-grant : grant (user v') u ≡ 0
  unfolding grant
  no-grant = pick_no (used (user v' u)) (given (user v') u) 0 unused

  deleted-step : NoFiles v u → Stepped P (λ w. BesideUser v w u) (delete_user v u)
  unfolding v'
  deleted-step none = record {
    sound = user-sound P v S pos u hu uu v' only
        record { ok = λ h. absurd (let r : ⊥ = omega (arith, unused) in r); alone = λ x h m i j q. let r : ⊥ = omega (arith, unused) in r }
        (λ f i q. absurd (let r : ⊥ = omega (arith, none f i) in r))
        (λ q i. unused)
        (omega (arith, deleted-back v u, no-grant, grant-used v u uu))
        (λ h. absurd (let r : ⊥ = omega (arith, unused) in r));
    leaves = user-beside P v S pos u hu uu v' only;
  }

module _ (img : List ℕ) (u : ℕ) (r : Numbers ℕ) (img' : List ℕ) (o : Outcome (delete_user_call img u) img r img') where
  delete : Called img (UserWordsOf (vol img) u) (λ w. BesideUser (vol img) w u) img'
  unfolding delete_user_call Clear
  delete = called img _ _ _ _ _ (deleted-only (vol img) u) (beside_same (vol img) u)
      (λ W A S c. deleted-step (pages img) (vol img) S (omega arith) u (omega (arith, A)) c.0 c.1.0) r img' o

  pub kept-delete-user : Sound (pages img) (vol img) → Sound (pages img') (vol img')
  kept-delete-user = delete.kept

  pub frame-delete-user : OnlyAt (UserWordsOf (vol img) u) (vol img) (vol img')
  frame-delete-user = delete.frame

  pub users-delete-user : (x : ℕ) → x ≢ u → (k : ℕ) → k < 32 → user (vol img') x k ≡ user (vol img) x k
  users-delete-user = delete.leaves.users

  pub objects-delete-user : (e : ℕ) → object (vol img') e ≡ object (vol img) e
  objects-delete-user e = ap (λ (O : Table). O e) delete.leaves.objects

  pub addresses-delete-user : (e : ℕ) → e < 65536 → (m : ℕ) → page_at (vol img') (file_at (vol img') e) m ≡ page_at (vol img) (file_at (vol img) e) m
  addresses-delete-user = delete.leaves.addresses

  -- going back: his given pages go to unreserved, and a subindexed object file stays so
  pub delete-user-back : r.number ≡ 0 → (unreserved (vol img') ≡ unreserved (vol img) + given (user (vol img)) u) × (object_file (vol img') ≡ object_file (vol img))
  unfolding delete_user_call call Counted
  delete-user-back z = (
    after-done img _ _ 0 _ _ r img' o (λ w. unreserved w ≡ unreserved (vol img) + given (user (vol img)) u) (omega arith, (omega arith, tt)) z (λ W A S c. deleted-back (vol img) u),
    delete.leaves.root,
  )
