-- Give and take: the image stays sound, four words at most differ, and what stands beside the user's entry stays. Assumes nothing.
use Rattle.std.specs.Prelude.{◌≡◌, ◌≢◌, List, ℕ, ◌<◌}
use Rattle.std.proofs.Common.{ap, arith}
use Rattle.book.specs.Answers.{Numbers}
use Rattle.book.specs.Calls.{give_call, take_call}
use Rattle.book.specs.Entries.{Table, user, object, user_page, spare}
use Rattle.book.specs.Files.{file_at}
use Rattle.book.specs.Image.{pages}
use Rattle.book.specs.Outcome.{Outcome}
use Rattle.book.specs.Rows.{Clear}
use Rattle.book.specs.Rules.{Rule4Over, Sound}
use Rattle.book.specs.Trees.{page_at}
use Rattle.book.specs.Words.{Vol, vol}
use Rattle.laws.specs.Call.After.{Called, called}
use Rattle.laws.specs.Frame.Places.{Places, FieldOf, UnreservedWords, Either, OnlyAt}
use Rattle.laws.specs.User.Move.{moved-only, moved-step}
use Rattle.laws.specs.User.Words.{BesideUser, beside_same}

-- words 14 and 15 of user u's entry, and the unreserved words
abbrev pub GivenWords : Vol → ℕ → Places
GivenWords v u = Either (FieldOf (user_page v u) u 14 2) UnreservedWords

-- ---- give: unreserved pages become the user's

module _ (img : List ℕ) (u n : ℕ) (r : Numbers ℕ) (img' : List ℕ) (o : Outcome (give_call img u n) img r img') where
  give : Called img (GivenWords (vol img) u) (λ w. BesideUser (vol img) w u) img'
  unfolding give_call Clear Rule4Over
  give = called img _ _ _ _ _ (moved-only (vol img) u _ _) (beside_same (vol img) u)
      (λ W A S c. let h : u < 256 = omega (arith, A.0) in
      moved-step (pages img) (vol img) S (omega arith) u h c.0 _ _ (omega (arith, (S.r4.0 u h c.0).within)) (omega (arith, c.1.0)))
      r img' o

  pub kept-give : Sound (pages img) (vol img) → Sound (pages img') (vol img')
  kept-give = give.kept

  pub frame-give : OnlyAt (GivenWords (vol img) u) (vol img) (vol img')
  frame-give = give.frame

  pub users-give : (x : ℕ) → x ≢ u → (k : ℕ) → k < 32 → user (vol img') x k ≡ user (vol img) x k
  users-give = give.leaves.users

  pub objects-give : (e : ℕ) → object (vol img') e ≡ object (vol img) e
  objects-give e = ap (λ (O : Table). O e) give.leaves.objects

  pub addresses-give : (e : ℕ) → e < 65536 → (m : ℕ) → page_at (vol img') (file_at (vol img') e) m ≡ page_at (vol img) (file_at (vol img) e) m
  addresses-give = give.leaves.addresses

-- ---- take: they go back

module _ (img : List ℕ) (u n : ℕ) (r : Numbers ℕ) (img' : List ℕ) (o : Outcome (take_call img u n) img r img') where
  take : Called img (GivenWords (vol img) u) (λ w. BesideUser (vol img) w u) img'
  unfolding take_call Clear Rule4Over spare
  take = called img _ _ _ _ _ (moved-only (vol img) u _ _) (beside_same (vol img) u)
      (λ W A S c. let h : u < 256 = omega (arith, A.0) in let w = (S.r4.0 u h c.0).within in
      moved-step (pages img) (vol img) S (omega arith) u h c.0 _ _ (omega (arith, w, c.1.0)) (omega (arith, w, c.1.0)))
      r img' o

  pub kept-take : Sound (pages img) (vol img) → Sound (pages img') (vol img')
  kept-take = take.kept

  pub frame-take : OnlyAt (GivenWords (vol img) u) (vol img) (vol img')
  frame-take = take.frame

  pub users-take : (x : ℕ) → x ≢ u → (k : ℕ) → k < 32 → user (vol img') x k ≡ user (vol img) x k
  users-take = take.leaves.users

  pub objects-take : (e : ℕ) → object (vol img') e ≡ object (vol img) e
  objects-take e = ap (λ (O : Table). O e) take.leaves.objects

  pub addresses-take : (e : ℕ) → e < 65536 → (m : ℕ) → page_at (vol img') (file_at (vol img') e) m ≡ page_at (vol img) (file_at (vol img) e) m
  addresses-take = take.leaves.addresses
