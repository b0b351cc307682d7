-- A file is created: its place, the pages in hand, then its entry: one law for an empty file and for a run. Assumes nothing.
use Rattle.std.specs.Prelude.{◌≡◌, refl, ◌≢◌, ◌⊎◌, List, ℕ, ◌+◌, ◌-◌, ◌/◌, ◌≤◌, ◌<◌}
use Rattle.std.proofs.Common.{sym, ◌∙◌, subst, arith}
use Rattle.std.proofs.Math.Path.{ap}
use Rattle.std.proofs.Math.Logic.{inl, inr}
use Rattle.sums.specs.Sum.{sum, sum-ext}
use Rattle.book.specs.Bits.{bit}
use Rattle.book.specs.Calls.{IsFile}
use Rattle.book.specs.Create.{object_entry, file_need, file_place}
use Rattle.book.specs.Entries.{Table, user_file, user, object, user_page, object_page, entry_word, file_entry, used, given, used_pages, new_file, unreserved, put_entry}
use Rattle.book.specs.Files.{file_at, Empty, Contiguous}
use Rattle.book.specs.Holders.{hit}
use Rattle.book.specs.Names.{NameText, TypeText, Named, Typed}
use Rattle.book.specs.Rules.{Sound}
use Rattle.book.specs.Trees.{run, page_at}
use Rattle.book.specs.Words.{Vol, Words, two}
use Rattle.laws.specs.Bits.Choose.{Stock}
use Rattle.laws.specs.Bits.Taking.{TakenWords, NoWords, Taking, taking-then}
use Rattle.laws.specs.Count.Good.{Good, sound, free}
use Rattle.laws.specs.Create.FilePlace.{FilePlaceWords, FilePlaced, file-placed}
use Rattle.laws.specs.Create.NewFile.{new-file-unused, Entered, new-file}
use Rattle.laws.specs.Create.Vacant.{used-reached}
use Rattle.laws.specs.Create.WriteFile.{write-change, write-master, write-entry, write-owner, write-used, write-beside, write-bits}
use Rattle.laws.specs.Frame.Beside.{Beside}
use Rattle.laws.specs.Frame.Edit.{Seat}
use Rattle.laws.specs.Frame.Places.{Places, Either, OnlyAt, only_then, only_wider}
use Rattle.laws.specs.Frame.Roots.{used-page}
use Rattle.laws.specs.Frame.Still.{places-unreserved}

-- what a new file asks for: its owner, legal words of its own, an entry, and unreserved pages for its place
pub record FileWanted (P : ℕ) (v : Vol) (u : ℕ) (name type : List ℕ) : Type 0 where
  pub index : u < 256
  pub owner : 0 < used (user v u)
  pub named : NameText name
  pub typed : TypeText type
  pub fresh : (f : ℕ) → IsFile v u name type f → ⊥
  pub entry : new_file v u < 256
  pub room : file_need v (file_entry u (new_file v u)) ≤ unreserved v

-- what stands beside the file at e and the used pages of user u is as it was: entries, and the pages of files
pub record BesideNew (v v' : Vol) (u e : ℕ) : Type 0 where
  pub owner : (i : ℕ) → i < 32 → i ≢ 16 → i ≢ 17 → user v' u i ≡ user v u i
  pub users : (z : ℕ) → z ≢ u → (i : ℕ) → i < 32 → user v' z i ≡ user v z i
  pub objects : (z : ℕ) → z ≢ e → (i : ℕ) → i < 32 → object v' z i ≡ object v z i
  pub address : (z : ℕ) → z < 65536 → z ≢ e → (m : ℕ) → page_at v' (file_at v' z) m ≡ page_at v (file_at v z) m

pub beside-new-same : (v : Vol) (u e : ℕ) → BesideNew v v u e
beside-new-same v u e = record { owner = λ i h a b. refl; users = λ z n i h. refl; objects = λ z n i h. refl; address = λ z h n m. refl }

-- v' is v with a file of n pages from s on at entry e of user u; k pages were taken for its place, and only words of F are other beside those pages
pub record Created (P : ℕ) (v v' : Vol) (u e : ℕ) (E : Words) (n s k : ℕ) (F : Places) : Type 0 where
  pub sound : Sound P v'
  pub words : (i : ℕ) → i < 32 → object v' e i ≡ E i
  pub root : file_at v' e ≡ run s n
  pub beside : BesideNew v v' u e
  pub spent : used_pages (user v') u ≡ used_pages (user v) u + n
  pub paid : unreserved v' + k ≡ unreserved v
  pub taken : free P v' + (k + n) ≡ free P v
  pub bits : (p : ℕ) → p < P → bit P v p ≤ bit P v' p
  pub only : OnlyAt (Either (TakenWords P v v') (Either (FilePlaceWords v e) F)) v v'

module _ {choose : Vol → ℕ} {P : ℕ} {v : Vol} (stock : Stock choose P v) {u : ℕ} {name type : List ℕ} (A : FileWanted P v u name type) where
  abbrev f : ℕ
  f = new_file v u

  abbrev e : ℕ
  e = file_entry u f

  abbrev w : Vol
  w = file_place choose P v e

  pub file-place : FilePlaced P v w e
  file-place = file-placed stock (used-reached P v stock.sound u f A.index A.entry A.owner) A.room

  -- the owner's page was there before
  pub owner-page : (user_page w u ≡ user_page v u) × (0 < user_page w u)
  unfolding user_page user
  owner-page =
      let h : 0 < user_page v u = used-page v (user_file v) u A.owner in
      let q : page_at w (user_file w) (u / 32) ≡ page_at v (user_file v) (u / 32) = file-place.placed.taking.user_at (u / 32) h in
      (q, omega (arith, h, q))

  -- x has the file's pages in hand, and v' is x with the entry E, and words 16 and 17 of the owner
  module _ (created n s : ℕ) (x : Vol) (hand : ℕ → ℕ) (G : Good P x hand) (X : Taking P w x NoWords n 0) (small : s < 1073741824) (form : Empty s n ⊎ Contiguous P s n)
      (hands : (p : ℕ) → p < P → hand p ≡ sum n (λ i. hit p (s + i))) (within : used_pages (user v) u + n ≤ given (user v) u) where
    abbrev E : Words
    E = object_entry u e name type created n s

    same-users : user x ≡ user v
    same-users = X.users ∙ file-place.placed.taking.users

    same-objs : object x ≡ object v
    same-objs = X.objects ∙ file-place.placed.taking.objects

    pub object_page-is : object_page x e ≡ object_page w e
    unfolding object_page
    object_page-is = X.object_at (e / 32) file-place.there

    is_o : 0 < object_page x e
    is_o = omega (arith, object_page-is, file-place.there)

    pub user_page-is : user_page x u ≡ user_page w u
    unfolding user_page
    user_page-is = X.user_at (u / 32) owner-page.1

    is_u : 0 < user_page x u
    is_u = omega (arith, user_page-is, owner-page.1)

    seat : Seat P x hand u f
    seat = record { good = G; pos = stock.pos; ha = A.index; hf = A.entry }

    module _ (v' : Vol)
        (else : (p k : ℕ) → (p ≡ user_page x u → (k ≢ entry_word u + 16) × (k ≢ entry_word u + 17)) → v' p k ≡ put_entry x (object_page x e) e E p k)
        (more : two (v' (user_page x u)) (entry_word u + 16) ≡ used_pages (user v) u + n) (F : Places) (only : OnlyAt F x v') where
      sums : used_pages (user v') u ≡ used_pages (user v) u + n
      sums = write-used seat is_o is_u E v' else ∙ more

      was : used_pages (user x) u ≡ used_pages (user v) u
      was = ap (λ (U : Table). used_pages U u) same-users

      before : Taking P v x (FilePlaceWords v e) (file_need v e + n) (file_need v e)
      before = taking-then P v w x (FilePlaceWords v e) NoWords (FilePlaceWords v e) (file_need v e) (file_need v e) n 0 (file_need v e + n) (file_need v e) file-place.placed.taking X refl (omega arith) wide
        where
          wide : (p k : ℕ) → Either (FilePlaceWords v e) NoWords p k → Either (TakenWords P v x) (FilePlaceWords v e) p k
          wide p k (inl h) = inr h
          wide p k (inr h) = absurd h

      IsIn : Table → ℕ → Type 0
      IsIn O h = (h < 256) × (0 < used (O (file_entry u h))) × Named (O (file_entry u h)) name × Typed (O (file_entry u h)) type

      whole : Entered P v' e s n
      unfolding IsIn
      whole = new-file seat (subst (λ (U : Table). 0 < used (U u)) (sym same-users) A.owner)
          (ap (λ (O : Table). used (O e)) same-objs ∙ new-file-unused v u A.entry) name type created n s A.named A.typed
          (subst (λ (O : Table). (h : ℕ) → IsIn O h → ⊥) (sym same-objs) A.fresh) small form hands
          (write-change seat is_o is_u E v' else) (write-master seat is_o is_u E v' else)
          (write-entry seat is_o is_u E v' else) (write-owner seat is_o is_u E v' else)
          (omega (arith, sums, was)) (omega (arith, was, within, ap (λ (U : Table). given U u) same-users))

      beside : Beside P x v' u e
      beside = write-beside seat is_o is_u E v' else

      bit-same : (p : ℕ) → p < P → bit P v' p ≡ bit P x p
      bit-same = write-bits seat is_o is_u E v' else

      pub file-created : Created P v v' u e E n s (file_need v e) F
      unfolding free
      file-created = record {
        sound = sound P v' (λ p. 0) whole.good (λ p h. refl);
        words = write-entry seat is_o is_u E v' else;
        root = whole.root;
        beside = record {
          owner = λ i h a b. beside.owner i h a b ∙ ap (λ (U : Table). U u i) same-users;
          users = λ z n i h. beside.users z n i h ∙ ap (λ (U : Table). U z i) same-users;
          objects = λ z n i h. beside.files z n i h ∙ ap (λ (O : Table). O z i) same-objs;
          address = λ z h n m. beside.address z h n m ∙ before.address z h m;
        };
        spent = sums;
        paid = omega (arith, before.paid, places-unreserved x v' beside.places);
        taken = omega (arith, before.left, sum-ext P (λ p. 1 - bit P v' p) (λ p. 1 - bit P x p) (λ p h. ap (λ (y : ℕ). 1 - y) (bit-same p h)));
        bits = λ p h. omega (arith, bit-same p h, before.bits p h);
        only = only_wider (Either (Either (TakenWords P v x) (FilePlaceWords v e)) F) (Either (TakenWords P v v') (Either (FilePlaceWords v e) F)) v v' wide
            (only_then (Either (TakenWords P v x) (FilePlaceWords v e)) F v x v' before.words only);
      }
        where
          wide : (p k : ℕ) → Either (Either (TakenWords P v x) (FilePlaceWords v e)) F p k → Either (TakenWords P v v') (Either (FilePlaceWords v e) F) p k
          wide p k (inl (inl (d, (a, b, c), q))) = inl (d, (a, b, bit-same d a ∙ c), q)
          wide p k (inl (inr h)) = inr (inl h)
          wide p k (inr h) = inr (inr h)
