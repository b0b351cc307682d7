-- The calls that create a file: sound again, what they write, what they leave. Assumes nothing.
use Rattle.std.specs.Prelude.{◌≡◌, refl, List, ℕ, ◌≤◌, ◌<◌}
use Rattle.std.proofs.Common.{sym}
use Rattle.std.proofs.Math.Path.{subst}
use native.Mathlib.Omega.{arith}
use Rattle.book.specs.Answers.{Numbers}
use Rattle.book.specs.Bits.{lowest_free, highest_run}
use Rattle.book.specs.Calls.{create_indexed_call, create_contiguous_call, HasUser, IsFile}
use Rattle.book.specs.Create.{object_entry, file_need, file_place, create_indexed, create_contiguous}
use Rattle.book.specs.Entries.{user, object, user_page, object_page, file_entry, new_file, spare, unreserved}
use Rattle.book.specs.Image.{pages, Whole, IndexArg, CountArg}
use Rattle.book.specs.Names.{NameText, TypeText}
use Rattle.book.specs.Outcome.{Outcome, DoneAs, call, asking, judged}
use Rattle.book.specs.Rows.{Clear, Counted}
use Rattle.book.specs.Rules.{Sound}
use Rattle.book.specs.Words.{Vol, vol}
use Rattle.laws.specs.Bits.Choose.{lowest-stock}
use Rattle.laws.specs.Bits.Taking.{TakenWords}
use Rattle.laws.specs.Call.After.{after_call, kept-call}
use Rattle.laws.specs.Call.Done.{done}
use Rattle.laws.specs.Create.Created.{FileWanted, BesideNew, beside-new-same, Created}
use Rattle.laws.specs.Create.File.{indexed-created, indexed-users, contiguous-created}
use Rattle.laws.specs.Create.FilePlace.{FilePlaceWords}
use Rattle.laws.specs.Create.NewEntry.{new-used, file-named, file-typed}
use Rattle.laws.specs.Tree.Pointer.{used-ext}
use Rattle.laws.specs.Frame.Places.{Places, EntryOf, FieldOf, Either, OnlyAt}

-- the words that it may change: those of the pages taken, of its place, of its entry; and, for a run, the used pages of its owner
abbrev pub IndexedWords : ℕ → Vol → Vol → ℕ → Places
IndexedWords P v v' e = Either (TakenWords P v v') (Either (FilePlaceWords v e) (EntryOf (object_page v' e) e))

abbrev pub ContiguousWords : ℕ → Vol → Vol → ℕ → ℕ → Places
ContiguousWords P v v' u e = Either (TakenWords P v v') (Either (FilePlaceWords v e) (Either (EntryOf (object_page v' e) e) (FieldOf (user_page v u) u 16 2)))

module _ (img : List ℕ) (u : ℕ) (name type : List ℕ) (created : ℕ) where
  abbrev P : ℕ
  P = pages img

  abbrev v : Vol
  v = vol img

  abbrev e : ℕ
  e = file_entry u (new_file v u)

  pub wanted : IndexArg u → NameText name → TypeText type → HasUser v u → ((f : ℕ) → IsFile v u name type f → ⊥) → new_file v u < 256 → file_need v e ≤ unreserved v → FileWanted P v u name type
  wanted a n t h fresh lt have = record { index = omega arith; owner = h; named = n; typed = t; fresh = fresh; entry = lt; room = have }

  -- a created file is found under its name and type
  found-new : {w : Vol} {n s k : ℕ} {F : Places} → NameText name → TypeText type → new_file v u < 256 → Created P v w u e (object_entry u e name type created n s) n s k F → IsFile w u name type (new_file v u)
  found-new {w} {n} {s} T Y lt c = (
    lt,
    omega (arith, used-ext (object w e) (object_entry u e name type created n s) (c.words 0 (omega arith)), new-used u e name type created n s),
    file-named u e name type created n s T (object w e) c.words,
    file-typed u e name type created n s Y (object w e) c.words,
  )

  -- ---- an indexed file

  abbrev i : Vol
  i = create_indexed (lowest_free P) P v u name type created

  indexed-step : Whole img → Sound P v → FileWanted P v u name type → Created P v i u e (object_entry u e name type created 0 0) 0 0 (file_need v e) (EntryOf (object_page i e) e)
  indexed-step W S A = indexed-created (lowest-stock S (omega (arith, W.least))) created A

  module _ (r : Numbers ℕ) (img' : List ℕ) (o : Outcome (create_indexed_call img u name type created) img r img') where
    abbrev v' : Vol
    v' = vol img'

    pub kept-create-indexed : Sound P v → Sound (pages img') v'
    unfolding create_indexed_call call Clear
    kept-create-indexed = kept-call img _ _ 0 _ _ r img' o (λ W A S c. (indexed-step W S (wanted A.0 A.1 A.2 c.0 c.1.0 c.1.1.0 c.1.1.1.0)).sound)

    -- done or refused: only these words differ, all beside the file stays, and so do all users
    indexed-left : OnlyAt (IndexedWords P v v' e) v v' × BesideNew v v' u e × ((z k : ℕ) → k < 32 → user v' z k ≡ user v z k)
    unfolding create_indexed_call call Clear
    indexed-left = after_call img _ _ 0 _ _ r img' o (λ w. OnlyAt (IndexedWords P v w e) v w × BesideNew v w u e × ((z k : ℕ) → k < 32 → user w z k ≡ user v z k))
        ((λ p k h. refl), beside-new-same v u e, (λ z k h. refl))
        (λ W A S c.
        let a : FileWanted P v u name type = wanted A.0 A.1 A.2 c.0 c.1.0 c.1.1.0 c.1.1.1.0 in
        let s = indexed-step W S a in (s.only, s.beside, indexed-users (lowest-stock S (omega (arith, W.least))) created a))

    pub frame-create-indexed : OnlyAt (IndexedWords P v v' e) v v'
    frame-create-indexed = indexed-left.0

    pub beside-create-indexed : BesideNew v v' u e
    beside-create-indexed = indexed-left.1

    pub users-create-indexed : (z k : ℕ) → k < 32 → user v' z k ≡ user v z k
    users-create-indexed = indexed-left.2

    -- done: the index returned is the lowest unused one, and the file is there
    module _ (z : r.number ≡ 0) where
      pub create-indexed-done : DoneAs (create_indexed_call img u name type created) img r img'
      unfolding create_indexed_call call asking judged Counted
      create-indexed-done = done (create_indexed_call img u name type created) img r img' (omega arith, (omega arith, (omega arith, (omega arith, (omega arith, (omega arith, (omega arith, tt))))))) o z

      pub create-indexed-value : r.value ≡ new_file v u
      unfolding create_indexed_call call asking
      create-indexed-value = create-indexed-done.value

      pub indexed-made : Created P v v' u e (object_entry u e name type created 0 0) 0 0 (file_need v e) (EntryOf (object_page v' e) e)
      unfolding create_indexed_call call asking judged Clear
      indexed-made = let c = create-indexed-done.clear in let A = c.1.0 in let R = c.1.1.1 in
          subst (λ (w : Vol). Created P v w u e (object_entry u e name type created 0 0) 0 0 (file_need v e) (EntryOf (object_page w e) e)) (sym create-indexed-done.image)
          (indexed-step c.0 c.1.1.0 (wanted A.0 A.1 A.2 R.0 R.1.0 R.1.1.0 R.1.1.1.0))

      pub found-create-indexed : IsFile v' u name type r.value
      unfolding create_indexed_call call asking judged Clear
      found-create-indexed = let c = create-indexed-done.clear in
          subst (IsFile v' u name type) (sym create-indexed-value) (found-new c.1.0.1 c.1.0.2 c.1.1.1.1.1.0 indexed-made)

  -- ---- a contiguous file of n pages

  module _ (n : ℕ) where
    abbrev w : Vol
    w = file_place (lowest_free P) P v e

    -- its first page
    abbrev s : ℕ
    s = highest_run P w n

    abbrev x : Vol
    x = create_contiguous (lowest_free P) P v u name type created n

    contiguous-step : Whole img → Sound P v → CountArg n → FileWanted P v u name type → n ≤ spare v u → 0 < s
        → Created P v x u e (object_entry u e name type created n s) n s (file_need v e) (Either (EntryOf (object_page x e) e) (FieldOf (user_page v u) u 16 2))
    contiguous-step W S N A le there =
        contiguous-created (lowest-stock S (omega (arith, W.least))) created A n N.0 le there (omega (arith, W.most))

    module _ (r : Numbers ℕ) (img' : List ℕ) (o : Outcome (create_contiguous_call img u name type created n) img r img') where
      abbrev y : Vol
      y = vol img'

      pub kept-create-contiguous : Sound P v → Sound (pages img') y
      unfolding create_contiguous_call call Clear
      kept-create-contiguous = kept-call img _ _ 0 _ _ r img' o (λ W A S c.
          (contiguous-step W S A.3 (wanted A.0 A.1 A.2 c.0 c.1.0 c.1.1.0 c.1.1.1.1.0) c.1.1.1.0 c.1.1.1.1.1.0).sound)

      contiguous-left : OnlyAt (ContiguousWords P v y u e) v y × BesideNew v y u e
      unfolding create_contiguous_call call Clear
      contiguous-left = after_call img _ _ 0 _ _ r img' o (λ w. OnlyAt (ContiguousWords P v w u e) v w × BesideNew v w u e) ((λ p k h. refl), beside-new-same v u e)
          (λ W A S c. let s = contiguous-step W S A.3 (wanted A.0 A.1 A.2 c.0 c.1.0 c.1.1.0 c.1.1.1.1.0) c.1.1.1.0 c.1.1.1.1.1.0 in (s.only, s.beside))

      pub frame-create-contiguous : OnlyAt (ContiguousWords P v y u e) v y
      frame-create-contiguous = contiguous-left.0

      pub beside-create-contiguous : BesideNew v y u e
      beside-create-contiguous = contiguous-left.1

      module _ (z : r.number ≡ 0) where
        pub create-contiguous-done : DoneAs (create_contiguous_call img u name type created n) img r img'
        unfolding create_contiguous_call call asking judged Counted
        create-contiguous-done = done (create_contiguous_call img u name type created n) img r img'
            (omega arith, (omega arith, (omega arith, (omega arith, (omega arith, (omega arith, (omega arith, (omega arith, (omega arith, tt))))))))) o z

        pub create-contiguous-value : r.value ≡ new_file v u
        unfolding create_contiguous_call call asking
        create-contiguous-value = create-contiguous-done.value

        pub contiguous-made : Created P v y u e (object_entry u e name type created n s) n s (file_need v e) (Either (EntryOf (object_page y e) e) (FieldOf (user_page v u) u 16 2))
        unfolding create_contiguous_call call asking judged Clear
        contiguous-made = let c = create-contiguous-done.clear in let A = c.1.0 in let R = c.1.1.1 in
            subst (λ (w : Vol). Created P v w u e (object_entry u e name type created n s) n s (file_need v e) (Either (EntryOf (object_page w e) e) (FieldOf (user_page v u) u 16 2)))
            (sym create-contiguous-done.image)
            (contiguous-step c.0 c.1.1.0 A.3 (wanted A.0 A.1 A.2 R.0 R.1.0 R.1.1.0 R.1.1.1.1.0) R.1.1.1.0 R.1.1.1.1.1.0)

        pub found-create-contiguous : IsFile y u name type r.value
        unfolding create_contiguous_call call asking judged Clear
        found-create-contiguous = let c = create-contiguous-done.clear in
            subst (IsFile y u name type) (sym create-contiguous-value) (found-new c.1.0.1 c.1.0.2 c.1.1.1.1.1.0 contiguous-made)
