-- A call on another user leaves a user's entry, his files' entries and the addresses of their pages, a conversion all of it but names, and a salvage of a sound image all of it: so none can bring about a want of space. Assumes nothing.
use Rattle.std.specs.Prelude.{◌≡◌, ◌≢◌, ◌⊎◌, ◌↔◌}
use Rattle.std.proofs.Math.Path.{refl, sym, ap, subst}
use Rattle.std.proofs.Common.{◌∙◌, inl, inr}
use mathlib.Core.List.{List, [], ◌∷◌}
use Prim.Native.Nat.{ℕ, ◌/◌, ◌≤◌, ◌<◌}
use Rattle.std.proofs.Math.Decide.{dec_lt}
use native.Mathlib.Omega.{arith}
use Rattle.book.specs.Words.{Vol, vol}
use Rattle.book.specs.Trees.{page_at}
use Rattle.book.specs.Entries.{user, object, used, given, used_pages, spare, page_count, file_entry, new_user, new_file}
use Rattle.book.specs.Files.{file_at, need}
use Rattle.book.specs.Holders.{mine, some}
use Rattle.book.specs.Image.{pages, Whole, IndexArg}
use Rattle.book.specs.Names.{apostrophe}
use Rattle.book.specs.Pointers.{flags, flags_above}
use Rattle.book.specs.Rules.{Sound, Rule10}
use Rattle.book.specs.Answers.{Numbers}
use Rattle.book.specs.Rows.{Clear}
use Rattle.book.specs.Outcome.{Outcome, call}
use Rattle.book.specs.Calls.{open_call, grow_call, shrink_call, delete_file_call, create_indexed_call, create_contiguous_call, salvage_call, HasFile, Grows}
use Rattle.laws.specs.Call.After.{after_call}
use Rattle.laws.specs.Call.Open.{users-open, objects-open, addresses-open}
use Rattle.laws.specs.Call.Passes.{whole-all}
use Rattle.laws.specs.Call.Write.{users-write, objects-write, addresses-write}
use Rattle.laws.specs.Convert.Call.{BesideNames, beside-convert}
use Rattle.laws.specs.Convert.Pass.{SameAddresses}
use Rattle.laws.specs.Create.Created.{BesideNew}
use Rattle.laws.specs.Create.FileCall.{beside-create-indexed, beside-create-contiguous}
use Rattle.laws.specs.Create.User.{new-unused}
use Rattle.laws.specs.Create.UserCall.{users-create-user, objects-create-user, addresses-create-user}
use Rattle.laws.specs.Delete.FileCall.{beside-delete-file}
use Rattle.laws.specs.Delete.User.{users-delete-user, objects-delete-user, addresses-delete-user}
use Rattle.laws.specs.File.Stored.{ends-zero, ends-apostrophe}
use Rattle.laws.specs.Frame.Beside.{Beside}
use Rattle.laws.specs.Grow.Call.{beside-grow}
use Rattle.laws.specs.Grow.Space.{space-refused}
use Rattle.laws.specs.Salvage.Call.{kept-salvage, trees-salvage}
use Rattle.laws.specs.Shrink.Call.{beside-shrink}
use Rattle.laws.specs.Tree.Pointer.{used-ext}
use Rattle.laws.specs.Tree.Slot.{two-ext}
use Rattle.laws.specs.User.Give.{users-give, objects-give, addresses-give, users-take, objects-take, addresses-take}
use Rattle.laws.specs.Call.Sequence.{
  Step,
  asks,
  formats,
  formats_default,
  creates_user,
  deletes_user,
  gives,
  takes,
  creates_indexed,
  creates_contiguous,
  grows,
  shrinks,
  deletes_file,
  writes,
  opens,
  converts_to_apostrophe,
  converts_to_zeros,
  salvages,
  Calling,
  Calls,
  asks-left,
  kept-one,
  kept-all,
}

-- user u's entry, his files' entries and their pages are as they were
pub record Untouched (u : ℕ) (v v' : Vol) : Type 0 where
  pub own : (k : ℕ) → k < 32 → user v' u k ≡ user v u k
  pub files : (f : ℕ) → f < 256 → (k : ℕ) → k < 32 → object v' (file_entry u f) k ≡ object v (file_entry u f) k
  pub addresses : (f : ℕ) → f < 256 → (m : ℕ) → page_at v' (file_at v' (file_entry u f)) m ≡ page_at v (file_at v (file_entry u f)) m

same : (u : ℕ) (v : Vol) → Untouched u v v
same u v = record { own = λ k h. refl; files = λ f i k h. refl; addresses = λ f i m. refl }

-- the call is on another user, or only asks; a format, a conversion and a salvage are on all, and a create user on one that is not there yet
unfoldable pub Aside : ℕ → Step → Type 0
Aside u (asks q) = Unit {0}
Aside u (formats name b) = ⊥
Aside u (formats_default name) = ⊥
Aside u (creates_user name) = Unit {0}
Aside u (deletes_user x) = u ≢ x
Aside u (gives x n) = u ≢ x
Aside u (takes x n) = u ≢ x
Aside u (creates_indexed x name type created) = u ≢ x
Aside u (creates_contiguous x name type created n) = u ≢ x
Aside u (grows x g) = u ≢ x
Aside u (shrinks x g) = u ≢ x
Aside u (deletes_file x g) = u ≢ x
Aside u (writes x g n d) = u ≢ x
Aside u (opens x g) = u ≢ x
Aside u converts_to_apostrophe = ⊥
Aside u converts_to_zeros = ⊥
Aside u (salvages room) = ⊥

-- all calls of a list are
unfoldable pub AllAside : ℕ → List Step → Type 0
AllAside u [] = Unit {0}
AllAside u (s ∷ l) = Aside u s × AllAside u l

module _ (u x : ℕ) (hu : u < 256) (ne : u ≢ x) where
  apart : (f g : ℕ) → f < 256 → g < 256 → file_entry u f ≢ file_entry x g
  apart f g h i = λ e. ne (omega arith)

  beside : (P : ℕ) (v v' : Vol) (g : ℕ) → g < 256 → Beside P v v' x (file_entry x g) → Untouched u v v'
  beside P v v' g i b = record {
    own = b.users u ne;
    files = λ f h k j. b.files (file_entry u f) (apart f g h i) k j;
    addresses = λ f h m. b.address (file_entry u f) (omega arith) (apart f g h i) m;
  }

  file-beside : (v v' : Vol) (g : ℕ) → g < 256 → BesideNew v v' x (file_entry x g) → Untouched u v v'
  file-beside v v' g i b = record {
    own = b.users u ne;
    files = λ f h k j. b.objects (file_entry u f) (apart f g h i) k j;
    addresses = λ f h m. b.address (file_entry u f) (omega arith) (apart f g h i) m;
  }

module _ (u : ℕ) (hu : u < 256) where
  left : (img img' : List ℕ) → img' ≡ img → Untouched u (vol img) (vol img')
  left img img' e = subst (λ (i : List ℕ). Untouched u (vol img) (vol i)) (sym e) (same u (vol img))

  pub aside : (s : Step) (img img' : List ℕ) → Calling s img img' → 0 < used (user (vol img) u) → Aside u s → Untouched u (vol img) (vol img')
  unfolding Aside open_call grow_call shrink_call delete_file_call create_indexed_call create_contiguous_call call Clear
  aside (asks x) img img' c q a = left img img' (asks-left x img img' c)
  aside (formats name b) img img' c q a = absurd a
  aside (formats_default name) img img' c q a = absurd a
  aside (creates_user name) img img' (r, o) q a = record {
    own = users-create-user img name r img' o u other;
    files = λ f h k j. ap (λ (O : ℕ → ℕ → ℕ). O (file_entry u f) k) (objects-create-user img name r img' o);
    addresses = λ f h m. addresses-create-user img name r img' o (file_entry u f) (omega arith) m;
  }
    where
      other : u ≢ new_user (vol img)
      other e = elim (dec_lt (new_user (vol img)) 256) [
        | yes h ↦ let z : ⊥ = omega (arith, q, new-unused (vol img) h, ap (λ (y : ℕ). used (user (vol img) y)) e) in z
        | no h ↦ let z : ⊥ = omega arith in z
      ]
  aside (deletes_user x) img img' (r, o) q a = record {
    own = users-delete-user img x r img' o u a;
    files = λ f h k j. ap (λ (w : ℕ → ℕ). w k) (objects-delete-user img x r img' o (file_entry u f));
    addresses = λ f h m. addresses-delete-user img x r img' o (file_entry u f) (omega arith) m;
  }
  aside (gives x n) img img' (r, o) q a = record {
    own = users-give img x n r img' o u a;
    files = λ f h k j. ap (λ (w : ℕ → ℕ). w k) (objects-give img x n r img' o (file_entry u f));
    addresses = λ f h m. addresses-give img x n r img' o (file_entry u f) (omega arith) m;
  }
  aside (takes x n) img img' (r, o) q a = record {
    own = users-take img x n r img' o u a;
    files = λ f h k j. ap (λ (w : ℕ → ℕ). w k) (objects-take img x n r img' o (file_entry u f));
    addresses = λ f h m. addresses-take img x n r img' o (file_entry u f) (omega arith) m;
  }
  aside (creates_indexed x name type created) img img' (r, o) q a = elim (dec_lt (new_file (vol img) x) 256) [
    | yes h ↦ file-beside u x hu a (vol img) (vol img') (new_file (vol img) x) h (beside-create-indexed img x name type created r img' o)
    | no h ↦ after_call img _ _ 0 _ _ r img' o (Untouched u (vol img)) (same u (vol img)) (λ W b S c. absurd (h c.1.1.0))
  ]
  aside (creates_contiguous x name type created n) img img' (r, o) q a = elim (dec_lt (new_file (vol img) x) 256) [
    | yes h ↦ file-beside u x hu a (vol img) (vol img') (new_file (vol img) x) h (beside-create-contiguous img x name type created n r img' o)
    | no h ↦ after_call img _ _ 0 _ _ r img' o (Untouched u (vol img)) (same u (vol img)) (λ W b S c. absurd (h c.1.1.0))
  ]
  aside (grows x g) img img' (r, o) q a = elim (dec_lt g 256) [
    | yes h ↦ beside u x hu a _ (vol img) (vol img') g h (beside-grow img x g r img' o)
    | no h ↦ after_call img _ _ 0 _ _ r img' o (Untouched u (vol img)) (same u (vol img)) (λ W b S c. absurd (let z : ⊥ = omega (arith, b.1) in z))
  ]
  aside (shrinks x g) img img' (r, o) q a = elim (dec_lt g 256) [
    | yes h ↦ beside u x hu a _ (vol img) (vol img') g h (beside-shrink img x g r img' o)
    | no h ↦ after_call img _ _ 0 _ _ r img' o (Untouched u (vol img)) (same u (vol img)) (λ W b S c. absurd (let z : ⊥ = omega (arith, b.1) in z))
  ]
  aside (deletes_file x g) img img' (r, o) q a = elim (dec_lt g 256) [
    | yes h ↦ beside u x hu a _ (vol img) (vol img') g h (beside-delete-file img x g r img' o)
    | no h ↦ after_call img _ _ 0 _ _ r img' o (Untouched u (vol img)) (same u (vol img)) (λ W b S c. absurd (let z : ⊥ = omega (arith, b.1) in z))
  ]
  aside (writes x g n d) img img' (r, o) q a = record {
    own = λ k h. ap (λ (w : ℕ → ℕ). w k) (users-write img x g n d r img' o u);
    files = λ f h k j. ap (λ (w : ℕ → ℕ). w k) (objects-write img x g n d r img' o (file_entry u f));
    addresses = λ f h m. addresses-write img x g n d r img' o (file_entry u f) (omega arith) m;
  }
  aside (opens x g) img img' (r, o) q a = elim (dec_lt g 256) [
    | yes i ↦ record {
      own = λ k h. ap (λ (w : ℕ → ℕ). w k) (users-open img x g r img' o u);
      files = λ f h k j. objects-open img x g r img' o (file_entry u f) k j (λ e. absurd (apart u x hu a f g h i e));
      addresses = λ f h m. addresses-open img x g r img' o (file_entry u f) (omega arith) m;
    }
    | no h ↦ after_call img _ _ 0 _ _ r img' o (Untouched u (vol img)) (same u (vol img)) (λ W b S c. absurd (let z : ⊥ = omega (arith, b.1) in z))
  ]
  aside converts_to_apostrophe img img' c q a = absurd a
  aside converts_to_zeros img img' c q a = absurd a
  aside (salvages room) img img' c q a = absurd a

  then : (a b c : Vol) → Untouched u a b → Untouched u b c → Untouched u a c
  then a b c s t = record {
    own = λ k h. t.own k h ∙ s.own k h;
    files = λ f i k h. t.files f i k h ∙ s.files f i k h;
    addresses = λ f i m. t.addresses f i m ∙ s.addresses f i m;
  }

  -- and so does any sequence of such calls
  pub aside-all : (l : List Step) (img img' : List ℕ) → Calls l img img' → 0 < used (user (vol img) u) → AllAside u l → Untouched u (vol img) (vol img')
  unfolding Calls AllAside
  aside-all [] img img' e q a = left img img' e
  aside-all (s ∷ l) img img' (next, c, cs) q a =
      let t : Untouched u (vol img) (vol next) = aside s img next c q a.0 in
      then (vol img) (vol next) (vol img') t (aside-all l next img' cs (subst (λ (x : ℕ). 0 < x) (sym (used-ext _ _ (t.own 0 (omega arith)))) q) a.1)

-- ---- names aside

-- the words of user u's entry but for his name and his used count, which is the number that it was, and of his files' entries but for names and types, and
-- their pages, are as they were
pub record Unmoved (u : ℕ) (v v' : Vol) : Type 0 where
  pub own : (k : ℕ) → (k < 1) ⊎ (9 ≤ k) → k ≢ 16 → k ≢ 17 → k < 32 → user v' u k ≡ user v u k
  pub count : used_pages (user v') u ≡ used_pages (user v) u
  pub files : (f : ℕ) → f < 256 → (k : ℕ) → (k < 1) ⊎ (11 ≤ k) → k < 32 → object v' (file_entry u f) k ≡ object v (file_entry u f) k
  pub addresses : (f : ℕ) → f < 256 → (m : ℕ) → page_at v' (file_at v' (file_entry u f)) m ≡ page_at v (file_at v (file_entry u f)) m

-- the entry's first word is
first : (u : ℕ) (v v' : Vol) → Unmoved u v v' → user v' u 0 ≡ user v u 0
first u v v' t = t.own 0 (inl (omega arith)) (λ e. omega (arith, e)) (λ e. omega (arith, e)) (omega arith)

-- the call is on another user, or it converts, or it salvages
pub data Mild (u : ℕ) : Step → Type 0 where
  others : {s : Step} → Aside u s → Mild u s
  to_apostrophe : Mild u converts_to_apostrophe
  to_zeros : Mild u converts_to_zeros
  salvage : {room : ℕ} → Mild u (salvages room)

unfoldable pub AllMild : ℕ → List Step → Type 0
AllMild u [] = Unit {0}
AllMild u (s ∷ l) = Mild u s × AllMild u l

-- so are calls on others alone
pub aside-mild : (u : ℕ) (l : List Step) → AllAside u l → AllMild u l
unfolding AllAside AllMild
aside-mild u [] a = tt
aside-mild u (s ∷ l) a = (others a.0, aside-mild u l a.1)

module _ (u : ℕ) (hu : u < 256) where
  besides : (v v' : Vol) → BesideNames v v' → Unmoved u v v'
  unfolding SameAddresses used_pages
  besides v v' b = record {
    own = λ k a x y h. b.users u hu k h a;
    count = two-ext (user v' u) (user v u) 16 (b.users u hu 16 (omega arith) (inr (omega arith))) (b.users u hu 17 (omega arith) (inr (omega arith)));
    files = λ f i k a h. b.objects (file_entry u f) (omega arith) k h a;
    addresses = λ f i m. b.addresses (file_entry u f) (omega arith) m;
  }

  -- a salvage counts anew what rule 10 says
  mended : (img : List ℕ) (room : ℕ) (r : Numbers ℕ) (img' : List ℕ) → Outcome (salvage_call img room) img r img' → Sound (pages img) (vol img) → 0 < used (user (vol img) u) → Unmoved u (vol img) (vol img')
  unfolding Rule10
  mended img room r img' o S q = let t = trees-salvage img room r img' o in record {
    own = λ k a x y h. t.users u hu k h x y;
    count = later ∙ t.mines u hu some ∙ sym (S.r10.0 u hu q);
    files = λ f i k a h. ap (λ (O : ℕ → ℕ → ℕ). O (file_entry u f) k) t.objects;
    addresses = λ f i m. t.address (file_entry u f) (omega arith) m;
  }
    where
      later : used_pages (user (vol img')) u ≡ mine (vol img') u some
      later = (kept-salvage img room r img' o S).r10.0 u hu (subst (λ (x : ℕ). 0 < x) (sym (used-ext _ _ ((trees-salvage img room r img' o).users u hu 0 (omega arith) (λ e. omega (arith, e)) (λ e. omega (arith, e))))) q)

  mild : (s : Step) (img img' : List ℕ) → Calling s img img' → Sound (pages img) (vol img) → 0 < used (user (vol img) u) → Mild u s → Unmoved u (vol img) (vol img')
  unfolding used_pages
  mild s img img' c S q (others a) = let t = aside u hu s img img' c q a in
      record { own = λ k o x y h. t.own k h; count = two-ext (user (vol img') u) (user (vol img) u) 16 (t.own 16 (omega arith)) (t.own 17 (omega arith)); files = λ f i k o h. t.files f i k h; addresses = λ f i m. t.addresses f i m }
  mild converts_to_apostrophe img img' (r, o) S q to_apostrophe = besides (vol img) (vol img') (beside-convert 0 apostrophe ends-apostrophe img r img' o)
  mild converts_to_zeros img img' (r, o) S q to_zeros = besides (vol img) (vol img') (beside-convert apostrophe 0 ends-zero img r img' o)
  mild (salvages room) img img' (r, o) S q salvage = mended img room r img' o S q

  -- and so for any sequence of them
  pub mild-all : (l : List Step) (img img' : List ℕ) → Calls l img img' → Sound (pages img) (vol img) → 0 < used (user (vol img) u) → AllMild u l → Unmoved u (vol img) (vol img')
  unfolding Calls AllMild
  mild-all [] img img' e S q a = subst (λ (i : List ℕ). Unmoved u (vol img) (vol i)) (sym e) (record { own = λ k o x y h. refl; count = refl; files = λ f i k o h. refl; addresses = λ f i m. refl })
  mild-all (s ∷ l) img img' (next, c, cs) S q a =
      let t : Unmoved u (vol img) (vol next) = mild s img next c S q a.0 in
      let w = mild-all l next img' cs (kept-one s img next c S) (subst (λ (x : ℕ). 0 < x) (sym (used-ext _ _ (first u _ _ t))) q) a.1 in
      record {
        own = λ k o x y h. w.own k o x y h ∙ t.own k o x y h;
        count = w.count ∙ t.count;
        files = λ f i k o h. w.files f i k o h ∙ t.files f i k o h;
        addresses = λ f i m. w.addresses f i m ∙ t.addresses f i m;
      }

-- ---- so what growing a file of his asks for, and what he has left, stay

module _ (u : ℕ) (v v' : Vol) (t : Unmoved u v v') where
  spare-stays : spare v' u ≡ spare v u
  unfolding spare given
  spare-stays =
      let g = two-ext (user v' u) (user v u) 14 (t.own 14 (inr (omega arith)) (λ e. omega (arith, e)) (λ e. omega (arith, e)) (omega arith)) (t.own 15 (inr (omega arith)) (λ e. omega (arith, e)) (λ e. omega (arith, e)) (omega arith)) in
      omega (arith, g, t.count)

  module _ (f : ℕ) (hf : f < 256) where
    pages-stay : page_count (object v' (file_entry u f)) ≡ page_count (object v (file_entry u f))
    pages-stay = two-ext (object v' (file_entry u f)) (object v (file_entry u f)) 26 (t.files f hf 26 (inr (omega arith)) (omega arith)) (t.files f hf 27 (inr (omega arith)) (omega arith))

    file-stays : HasFile v u f → HasFile v' u f
    file-stays h = (
      subst (λ (x : ℕ). 0 < x) (sym (used-ext _ _ (first u v v' t))) h.0,
      subst (λ (x : ℕ). 0 < x) (sym (used-ext _ _ (t.files f hf 0 (inl (omega arith)) (omega arith)))) h.1,
    )

    kind-stays : Grows v (file_entry u f) → Grows v' (file_entry u f)
    unfolding flags
    kind-stays k r = k (sym (ap (λ (x : ℕ). x / flags_above) (t.files f hf 30 (inr (omega arith)) (omega arith))) ∙ r.0, omega (arith, r.1, pages-stay))

pub space-others : (u : ℕ) → u < 256 → (l : List Step) (img img' : List ℕ) → Calls l img img' → Sound (pages img) (vol img) → 0 < used (user (vol img) u) → AllMild u l
    → (spare (vol img') u ≡ spare (vol img) u) × ((f : ℕ) → f < 256 → page_count (object (vol img') (file_entry u f)) ≡ page_count (object (vol img) (file_entry u f)))
space-others u hu l img img' cs S q a =
    let t : Unmoved u (vol img) (vol img') = mild-all u hu l img img' cs S q a in (spare-stays u _ _ t, pages-stay u _ _ t)

-- growing an existing indexed file is refused for space after any calls on others, conversions and salvages, exactly if it is before them
module _ (u f : ℕ) (A : IndexArg u × IndexArg f) (img img' : List ℕ) (W : Whole img) (S : Sound (pages img) (vol img)) (H : HasFile (vol img) u f) (K : Grows (vol img) (file_entry u f))
    (l : List Step) (cs : Calls l img img') (a : AllMild u l) where
  pub space-stays : (r s : Numbers ℕ) (i j : List ℕ) → Outcome (grow_call img u f) img r i → Outcome (grow_call img' u f) img' s j → (r.number ≡ 9) ↔ (s.number ≡ 9)
  space-stays r s i j o p = (
    (λ q. later.1 (omega (arith, now.0 q, spare-same, need-same))),
    (λ q. now.1 (omega (arith, later.0 q, spare-same, need-same))),
  )
    where
      hf : f < 256
      hf = omega (arith, A.1)

      t : Unmoved u (vol img) (vol img')
      t = mild-all u (omega (arith, A.0)) l img img' cs S H.0 a

      spare-same : spare (vol img') u ≡ spare (vol img) u
      spare-same = spare-stays u (vol img) (vol img') t

      need-same : need (page_count (object (vol img') (file_entry u f))) ≡ need (page_count (object (vol img) (file_entry u f)))
      need-same = ap need (pages-stay u (vol img) (vol img') t f hf)

      now : (r.number ≡ 9) ↔ (spare (vol img) u < need (page_count (object (vol img) (file_entry u f))))
      now = space-refused img u f W A S H K r i o

      later : (s.number ≡ 9) ↔ (spare (vol img') u < need (page_count (object (vol img') (file_entry u f))))
      later = space-refused img' u f (whole-all l img img' cs W) A (kept-all l img img' cs S) (file-stays u (vol img) (vol img') t f hf H) (kind-stays u (vol img) (vol img') t f hf K) s j p
