-- A new user: his place, then his entry. A sound volume is sound again, and all other entries and all files stay. Assumes nothing.
use Rattle.std.specs.Prelude.{◌≡◌, refl, ◌≢◌, List, ℕ, suc, ◌+◌, ◌-◌, ◌*◌, ◌/◌, ◌%◌, ◌≤◌, ◌<◌}
use Rattle.std.proofs.Math.Path.{sym, ap}
use Rattle.std.proofs.Common.{◌∙◌, subst, eq-zero-or-pos, arith}
use Rattle.std.proofs.Math.Logic.{inl, inr}
use Rattle.sums.specs.Sum.{sum-ext}
use Rattle.sums.specs.Search.{pick_no, pick_yes, lowest-is}
use Rattle.book.specs.Bits.{bit}
use Rattle.book.specs.Calls.{IsUser}
use Rattle.book.specs.Create.{user_entry, user_need, user_place, create_user}
use Rattle.book.specs.Entries.{Table, user_file, object_file, user, object, user_page, entry, entry_word, used, given, used_pages, grant, new_user, unreserved}
use Rattle.book.specs.Files.{file_at}
use Rattle.book.specs.Holders.{hit, some}
use Rattle.book.specs.Names.{Text, NameText, Named}
use Rattle.book.specs.Pointers.{page, Inside, unreserved_count, user_pointer}
use Rattle.book.specs.Rules.{Rule2, Sound}
use Rattle.book.specs.Trees.{page_at}
use Rattle.book.specs.Words.{Vol, two, word}
use Rattle.laws.specs.Bits.Choose.{Stock}
use Rattle.laws.specs.Bits.Taking.{TakenWords}
use Rattle.laws.specs.Count.Good.{Good, good, sound, free, mine-unused, most}
use Rattle.laws.specs.Create.NewEntry.{user-used, user-named, user-own, user-zero}
use Rattle.laws.specs.Create.UserPlace.{UserPlaceWords, UserPlaced, user-placed}
use Rattle.laws.specs.File.Stored.{stored-words}
use Rattle.laws.specs.Frame.Edit.{user-page}
use Rattle.laws.specs.Frame.Fields.{Outside, entry-page, entry-agree, entry-outside, entry_here}
use Rattle.laws.specs.Frame.Places.{Places, EntryOf, Either, OnlyAt, only_then, only_wider, only-put_words}
use Rattle.laws.specs.Frame.Renewed.{UserNew}
use Rattle.laws.specs.Frame.Roots.{zero-none, Roots, blocks_r-le}
use Rattle.laws.specs.Frame.Still.{SamePlaces, places-frame, places-unreserved, objects-still, address-still, kept-words, blocks-nobody}
use Rattle.laws.specs.Tree.Pointer.{used-ext}
use Rattle.laws.specs.Tree.Slot.{Agree, two-ext, hit-zero, word-zero}
use Rattle.laws.specs.User.Only.{user-there, users-else, bits-else, user-good}

-- ---- the lowest unused index

pub new-unused : (v : Vol) → new_user v < 256 → used (user v (new_user v)) ≡ 0
unfolding new_user
new-unused v h = omega (arith, (lowest-is (λ u. 1 - used (user v u)) 256).there h)

-- while there is no user file, nobody is used
pub new-first : (P : ℕ) (v : Vol) → Rule2 P v → page (v 0) user_pointer ≡ 0 → new_user v ≡ 0
unfolding new_user Rule2 Inside user entry user_file used
new-first P v r z = elim (eq-zero-or-pos (new_user v)) [
  | inl e ↦ e
  | inr p ↦ absurd (let q : ⊥ = omega (arith, (lowest-is (λ u. 1 - used (user v u)) 256).passed 0 p, none r) in q)
]
  where
    none : Rule2 P v → used (user v 0) ≡ 0
    none (inl h) = ap (λ (x : ℕ). x / 32768) (ap (λ (x : ℕ). word v x (32 * (0 % 32) + 0)) (zero-none v (v 0) user_pointer h.0 (0 / 32)) ∙ word-zero v _)
    none (inr h) = absurd (let q : ⊥ = omega (arith, h.0.1, z) in q)

-- ---- the step

-- the words that it may change: those of the pages taken, of his place, of his entry
abbrev pub UserCreateWords : ℕ → Vol → Vol → ℕ → Places
UserCreateWords P v v' u = Either (TakenWords P v v') (Either (UserPlaceWords v u) (EntryOf (user_page v' u) u))

-- v' is v with user u of this name, who has nothing yet
pub record UserCreated (P : ℕ) (v v' : Vol) (u : ℕ) (name : List ℕ) : Type 0 where
  pub sound : Sound P v'
  pub words : (k : ℕ) → k < 32 → user v' u k ≡ user_entry u name k
  pub users : (x : ℕ) → x ≢ u → (k : ℕ) → k < 32 → user v' x k ≡ user v x k
  pub objects : object v' ≡ object v
  pub address : (x : ℕ) → x < 65536 → (m : ℕ) → page_at v' (file_at v' x) m ≡ page_at v (file_at v x) m
  pub paid : unreserved v' + user_need v u ≡ unreserved v
  pub taken : free P v' + user_need v u ≡ free P v
  pub bits : (p : ℕ) → p < P → bit P v p ≤ bit P v' p
  pub only : OnlyAt (UserCreateWords P v v' u) v v'

module _ {choose : Vol → ℕ} {P : ℕ} {v : Vol} (stock : Stock choose P v) (big : P ≤ 1073741824) (name : List ℕ) (T : NameText name)
    (fresh : (u : ℕ) → IsUser v name u → ⊥) (lt : new_user v < 256) (have : user_need v (new_user v) ≤ unreserved v) where
  abbrev u : ℕ
  u = new_user v

  abbrev w : Vol
  w = user_place choose P v u

  -- his place: pages taken and paid
  user-place : UserPlaced P v w u
  user-place = user-placed stock big u lt have (λ z. omega (arith, new-first P v stock.sound.r2 z))

  abbrev v' : Vol
  v' = create_user choose P v name

  abbrev U : ℕ
  U = user_page w u

  G : Good P w (λ p. 0)
  G = good P w user-place.placed.sound

  agree : Agree (hit (page_at w (user_file w) (u / 32))) w v'
  unfolding create_user user_page
  agree = entry-agree w U u (user_entry u name)

  master : (k : ℕ) → v' 0 k ≡ w 0 k
  unfolding create_user
  master k = entry-page w U u (user_entry u name) 0 k (omega (arith, user-place.there))

  on_u : (k : ℕ) → Outside u k → word v' (page_at w (user_file w) (u / 32)) k ≡ word w (page_at w (user_file w) (u / 32)) k
  unfolding create_user user_page
  on_u k h = entry-outside w U u (user_entry u name) k h

  -- the entry reads as written
  new-user-entry : (k : ℕ) → k < 32 → user v' u k ≡ user_entry u name k
  unfolding create_user user_page
  new-user-entry k h = user-there P w (λ p. 0) G stock.pos u lt v' agree (λ k i. master k) on_u k ∙ entry_here w U u (user_entry u name) user-place.there k h

  -- every other user's stays, and every file's
  other-users : (x : ℕ) → x ≢ u → (k : ℕ) → k < 32 → user v' x k ≡ user v x k
  other-users x n k h = users-else P w (λ p. 0) G stock.pos u lt v' agree (λ k i. master k) on_u x n k h ∙ ap (λ (U : Table). U x k) user-place.placed.taking.users

  roots : Roots w v'
  unfolding Roots
  roots k i j = master k

  same-objects : object v' ≡ object w
  same-objects = objects-still w v' roots (hit _) (hit-zero _) agree (user-page P w (λ p. 0) G stock.pos (u / 32)).1

  unused : used (user w u) ≡ 0
  unused = ap (λ (U : Table). used (U u)) user-place.placed.taking.users ∙ new-unused v lt

  now-used : used (user v' u) ≡ 1
  now-used = used-ext (user v' u) (user_entry u name) (new-user-entry 0 (omega arith)) ∙ user-used u name

  zeros : (k : ℕ) → 9 ≤ k → k < 18 → user v' u k ≡ 0
  zeros k a b = new-user-entry k (omega arith) ∙ user-zero u name k a b

  none : (given (user v') u ≡ 0) × (used_pages (user v') u ≡ 0)
  unfolding given used_pages two
  none = (omega (arith, zeros 14 (omega arith) (omega arith), zeros 15 (omega arith) (omega arith)), omega (arith, zeros 16 (omega arith) (omega arith), zeros 17 (omega arith) (omega arith)))

  is-named : Named (user v' u) name
  is-named = user-named u name T (user v' u) new-user-entry

  new : UserNew v' u
  new = record {
    ok = λ h. record {
      own = new-user-entry 18 (omega arith) ∙ user-own u name;
      name = subst (Text 1 16) (sym is-named) T;
      within = omega (arith, none);
    };
    alone = λ x h n a b s. fresh x (
      h,
      omega (arith, a, used-ext (user v' x) (user v x) (other-users x n 0 (omega arith))),
      stored-words 16 (user v x) (user v' x) 1 1 (λ i j. sym (other-users x n (1 + i / 2) (omega arith))) ∙ s ∙ is-named,
    );
  }

  no-grant : (x : Vol) → used (user x u) ≡ 0 → grant (user x) u ≡ 0
  unfolding grant
  no-grant x z = pick_no (used (user x u)) (given (user x) u) 0 z

  new-grant : grant (user v') u ≡ 0
  unfolding grant
  new-grant = pick_yes (used (user v' u)) (given (user v') u) 0 (omega (arith, now-used)) ∙ none.0

  create-user-sound : Sound P v'
  create-user-sound = sound P v' (λ p. 0) (user-good P w (λ p. 0) G stock.pos u lt v' agree (λ k i. master k) on_u new (λ h i q. omega (arith, now-used))
      (λ x i. absurd (let r : ⊥ = omega (arith, user-place.high x) in r))
      (omega (arith, new-grant, no-grant w unused, two-ext (v' 0) (w 0) unreserved_count (master unreserved_count) (master (suc unreserved_count))))
      (λ h. omega (arith, none.1, mine-unused P w (most P w user-place.placed.sound) u lt unused some))) (λ p h. refl)

  -- ---- all pages of all files stay

  all-addresses : (x : ℕ) → x < 65536 → (m : ℕ) → page_at v' (file_at v' x) m ≡ page_at v (file_at v x) m
  all-addresses x h m = address-still w v' roots (hit _) (hit-zero _) agree x (kept-words (object v' x) (object w x) (λ k i n. ap (λ (O : Table). O x k) same-objects))
      (blocks-nobody w _ (user-page P w (λ p. 0) G stock.pos (u / 32)).3 x h) m ∙ user-place.placed.taking.address x h m

  -- ---- no other word changes

  same_bits : (p : ℕ) → p < P → bit P v' p ≡ bit P w p
  same_bits p h = bits-else P w (λ p. 0) G stock.pos u lt v' agree (λ k i. master k) on_u p h

  same-places : SamePlaces w v'
  same-places = places-frame w v' (hit _) agree master (user-page P w (λ p. 0) G stock.pos (u / 32)).2
      (omega (arith, blocks_r-le w (object_file w) (hit (page_at w (user_file w) (u / 32))), (user-page P w (λ p. 0) G stock.pos (u / 32)).1))

  only : OnlyAt (UserCreateWords P v v' u) v v'
  unfolding create_user
  only = only_wider (Either (Either (TakenWords P v w) (UserPlaceWords v u)) (EntryOf U u)) (UserCreateWords P v v' u) v v' wide
      (only_then (Either (TakenWords P v w) (UserPlaceWords v u)) (EntryOf U u) v w v' user-place.placed.taking.words (only-put_words w U (entry_word u) 32 (user_entry u name)))
    where
      wide : (p k : ℕ) → Either (Either (TakenWords P v w) (UserPlaceWords v u)) (EntryOf U u) p k → UserCreateWords P v v' u p k
      wide p k (inl (inl (d, (a, b, c), q))) = inl (d, (a, b, same_bits d a ∙ c), q)
      wide p k (inl (inr h)) = inr (inl h)
      wide p k (inr h) = inr (inr (h.0 ∙ sym (same-places.of_user u), h.1, h.2))

  pub create-user : UserCreated P v v' u name
  unfolding free
  create-user = record {
    sound = create-user-sound;
    words = new-user-entry;
    users = other-users;
    objects = same-objects ∙ user-place.placed.taking.objects;
    address = all-addresses;
    paid = omega (arith, user-place.placed.taking.paid, places-unreserved w v' same-places);
    taken = omega (arith, user-place.placed.taking.left, sum-ext P (λ p. 1 - bit P v' p) (λ p. 1 - bit P w p) (λ p h. ap (λ (y : ℕ). 1 - y) (same_bits p h)));
    bits = λ p h. omega (arith, same_bits p h, user-place.placed.taking.bits p h);
    only = only;
  }
