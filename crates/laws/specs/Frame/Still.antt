-- No entry and no tree changed (Still): so it is where the pages that change are no block of any tree. Assumes nothing.
use Rattle.std.specs.Prelude.{◌≡◌, refl, ◌≢◌, ℕ, suc, ◌/◌, ◌%◌, ◌<◌}
use Rattle.std.proofs.Common.{sym, ◌∙◌, subst, arith}
use Rattle.std.proofs.Math.Path.{ap, fun_ext}
use Rattle.sums.specs.Sum.{sum}
use Rattle.book.specs.Bits.{bit_file, bit_page}
use Rattle.book.specs.Entries.{entry, user_file, object_file, user, object, file_entry, user_page, object_page, unreserved}
use Rattle.book.specs.Files.{file_at}
use Rattle.book.specs.Holders.{hit, mine, all}
use Rattle.book.specs.Pointers.{unreserved_count}
use Rattle.book.specs.Trees.{Root, weigh_r, blocks_r, page_at}
use Rattle.book.specs.Words.{Words, Vol}
use Rattle.book.specs.Written.{word-ext}
use Rattle.laws.specs.Frame.Places.{Places, OnlyAt}
use Rattle.laws.specs.Frame.Rest.{file-le, rest, all_rest, q-entry, user-calm, obj-calm, file-calm, page-calm, all-calm}
use Rattle.laws.specs.Frame.Roots.{Roots, Kept, users-root, objs-root, entry_frame, file-kept, page_at-frame, blocks_r-le, bits-root, weigh_r-frame, bit_page-root}
use Rattle.laws.specs.Tree.Slot.{Agree, hit_same, two-ext}

-- where the entries lie
pub record SamePlaces (v v' : Vol) : Type 0 where
  pub master : (k : ℕ) → v' 0 k ≡ v 0 k
  pub of_user : (u : ℕ) → user_page v' u ≡ user_page v u
  pub of_object : (x : ℕ) → object_page v' x ≡ object_page v x

-- no entry and no tree changed
pub record Still (P : ℕ) (v v' : Vol) : Type 0 where
  pub places : SamePlaces v v'
  pub users : user v' ≡ user v
  pub objects : object v' ≡ object v
  pub address : (x : ℕ) → x < 65536 → (m : ℕ) → page_at v' (file_at v' x) m ≡ page_at v (file_at v x) m
  pub holding : (x : ℕ) → x < 65536 → (g : ℕ → ℕ) → weigh_r v' (file_at v' x) g ≡ weigh_r v (file_at v x) g
  pub held : (g : ℕ → ℕ) → all P v' g ≡ all P v g

pub places-refl : (v : Vol) → SamePlaces v v
places-refl v = record { master = λ k. refl; of_user = λ u. refl; of_object = λ x. refl }

pub places-sym : (v w : Vol) → SamePlaces v w → SamePlaces w v
places-sym v w L = record { master = λ k. sym (L.master k); of_user = λ u. sym (L.of_user u); of_object = λ x. sym (L.of_object x) }

pub places-trans : (v w z : Vol) → SamePlaces v w → SamePlaces w z → SamePlaces v z
places-trans v w z L M = record { master = λ k. M.master k ∙ L.master k; of_user = λ u. M.of_user u ∙ L.of_user u; of_object = λ x. M.of_object x ∙ L.of_object x }

pub still-refl : (P : ℕ) (v : Vol) → Still P v v
still-refl P v = record {
  places = places-refl v;
  users = refl;
  objects = refl;
  address = λ x h m. refl;
  holding = λ x h g. refl;
  held = λ g. refl;
}

pub still-sym : (P : ℕ) (v w : Vol) → Still P v w → Still P w v
still-sym P v w S = record {
  places = places-sym v w S.places;
  users = sym S.users;
  objects = sym S.objects;
  address = λ x h m. sym (S.address x h m);
  holding = λ x h g. sym (S.holding x h g);
  held = λ g. sym (S.held g);
}

pub still-trans : (P : ℕ) (v w z : Vol) → Still P v w → Still P w z → Still P v z
still-trans P v w z S T = record {
  places = places-trans v w z S.places T.places;
  users = T.users ∙ S.users;
  objects = T.objects ∙ S.objects;
  address = λ x h m. T.address x h m ∙ S.address x h m;
  holding = λ x h g. T.holding x h g ∙ S.holding x h g;
  held = λ g. T.held g ∙ S.held g;
}

-- the words of A are on page q, or on page 0, which no pointer names
pub agree_at : (v v' : Vol) (A : Places) (q : ℕ) → 0 < q → ((p k : ℕ) → 0 < p → A p k → p ≡ q) → OnlyAt A v v' → Agree (hit q) v v'
unfolding Agree
agree_at v v' A q h on only p z k = word-ext v v' p k (λ i. only p k (λ a.
    let r : ⊥ = omega (arith, z, subst (λ (x : ℕ). hit q x ≡ 1) (sym (on p k i a)) (hit_same q h)) in r))

module _ (v v' : Vol) (R : Roots v v') (C : ℕ → ℕ) (c0 : C 0 ≡ 0) (A : Agree C v v') where
  -- entries of a file that holds none of those pages
  pub users-still : weigh_r v (user_file v) C ≡ 0 → user v' ≡ user v
  unfolding user
  users-still h = fun_ext (λ u. fun_ext (λ k. ap (λ (r : Root). entry v' r u k) (users-root v v' R) ∙ entry_frame v v' C A c0 (user_file v) h u k))

  pub objects-still : weigh_r v (object_file v) C ≡ 0 → object v' ≡ object v
  unfolding object
  objects-still h = fun_ext (λ e. fun_ext (λ k. ap (λ (r : Root). entry v' r e k) (objs-root v v' R) ∙ entry_frame v v' C A c0 (object_file v) h e k))

  -- a file of the same pages count and pointer
  pub address-still : (e : ℕ) → Kept (object v' e) (object v e) → blocks_r v (file_at v e) C ≡ 0 → (m : ℕ) → page_at v' (file_at v' e) m ≡ page_at v (file_at v e) m
  address-still e k h m = ap (λ (r : Root). page_at v' r m) (file-kept v v' e k) ∙ page_at-frame v v' C A (file_at v e) h m

-- an entry is kept if words 0 and 26 to 31 are
pub kept-words : (w x : Words) → ((k : ℕ) → k < 32 → k ≢ 19 → w k ≡ x k) → Kept w x
kept-words w x h = record {
  head = h 0 (omega arith) (omega arith);
  pages = two-ext w x 26 (h 26 (omega arith) (omega arith)) (h 27 (omega arith) (omega arith));
  ptr = h 30 (omega arith) (omega arith);
  ptr' = h 31 (omega arith) (omega arith);
}

-- no file has a page of C, so none has a block of C
pub blocks-nobody : (v : Vol) (C : ℕ → ℕ) → sum 256 (λ u. mine v u C) ≡ 0 → (e : ℕ) → e < 65536 → blocks_r v (file_at v e) C ≡ 0
blocks-nobody v C h e i = let s : file_entry (e / 256) (e % 256) ≡ e = omega arith in
    subst (λ (x : ℕ). blocks_r v (file_at v x) C ≡ 0) s
    (omega (arith, h, blocks_r-le v (file_at v (file_entry (e / 256) (e % 256))) C, file-le v C (e / 256) (e % 256) (omega arith) (omega arith)))

-- ---- pages that none of the user, object and file trees holds

pub places-frame : (v v' : Vol) (C : ℕ → ℕ) → Agree C v v' → ((k : ℕ) → v' 0 k ≡ v 0 k) → blocks_r v (user_file v) C ≡ 0 → blocks_r v (object_file v) C ≡ 0 → SamePlaces v v'
unfolding user_page object_page Roots
places-frame v v' C A m bu bo = record {
  master = m;
  of_user = λ u. ap (λ (r : Root). page_at v' r (u / 32)) (users-root v v' (λ k i j. m k)) ∙ page_at-frame v v' C A (user_file v) bu (u / 32);
  of_object = λ x. ap (λ (r : Root). page_at v' r (x / 32)) (objs-root v v' (λ k i j. m k)) ∙ page_at-frame v v' C A (object_file v) bo (x / 32);
}

pub still-calm : (P : ℕ) (v v' : Vol) (C : ℕ → ℕ) → C 0 ≡ 0 → Agree C v v' → rest v C ≡ 0 → ((k : ℕ) → v' 0 k ≡ v 0 k) → Still P v v'
unfolding Roots rest
still-calm P v v' C c0 A q m = record {
  places = places-frame v v' C A m (omega (arith, q, blocks_r-le v (user_file v) C)) (omega (arith, q, blocks_r-le v (object_file v) C));
  users = user-calm v v' R C c0 A q;
  objects = obj-calm v v' R C c0 A q;
  address = λ x h n. page-calm v v' R C c0 A q x h n;
  holding = λ x h g. ap (λ (r : Root). weigh_r v' r g) (file-calm v v' R C c0 A q x)
      ∙ weigh_r-frame v v' C A (file_at v x) (omega (arith, blocks_r-le v (file_at v x) C, q-entry v v' R C c0 A q x h)) g;
  held = λ g. all-calm v v' R C c0 A q P g;
}
  where
    R : Roots v v'
    R k i j = m k

-- ---- what the entries' places say of the bit file

pub bit_page-same : (P : ℕ) (v v' : Vol) → SamePlaces v v' → (p : ℕ) → bit_page P v' p ≡ bit_page P v p
unfolding Roots
bit_page-same P v v' L = bit_page-root P v v' (λ k i j. L.master k)

pub rest-same : (P : ℕ) (v v' : Vol) → Still P v v' → (g : ℕ → ℕ) → rest v' g ≡ rest v g
unfolding bit_file weigh_r Roots
rest-same P v v' S g = omega (arith, S.held g, all_rest P v' g, all_rest P v g, ap (λ (r : Root). weigh_r v r g) (bits-root v v' (λ k i j. S.places.master k) P))

-- ---- the master page and the owner

module _ (v v' : Vol) (L : SamePlaces v v') where
  pub places-unreserved : unreserved v' ≡ unreserved v
  unfolding unreserved
  places-unreserved = two-ext (v' 0) (v 0) unreserved_count (L.master unreserved_count) (L.master (suc unreserved_count))
