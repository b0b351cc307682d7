-- The places of a used object, as the code reads them from its page, and of all objects of a user. Assumes nothing.
use mathlib.Core.Path.{◌≡◌, refl, sym, ap, ◌∙◌, subst, fun_ext}
use mathlib.Core.Logic.{inl, inr}
use mathlib.Core.Bool.{Bool}
use mathlib.Core.List.{List}
use Prim.Native.Nat.{ℕ, ◌+◌, ◌-◌, ◌*◌, ◌/◌, ◌<◌}
use native.Mathlib.Decide.{dec_lt}
use native.Mathlib.Omega.{arith}
use Rattle.book.specs.Decides.{Decides}
use Rattle.book.specs.Entries.{Table, entry, entry_word, user, user_page, object, object_page, used, file_entry}
use Rattle.book.specs.Image.{pages, Whole}
use Rattle.book.specs.Names.{SameFile, LegalName, LegalType}
use Rattle.book.specs.Pointers.{flags, page, object_pointer}
use Rattle.book.specs.Rules.{Rule2, Rule3, Rule5, FileOk}
use Rattle.book.specs.Trees.{Root, root_by, page_at}
use Rattle.book.specs.Words.{Words, Vol, vol}
use Rattle.book.specs.declared.Place.{Place}
use Rattle.book.specs.Spots.{Spots, at, each, AllHold, First, when-all}
use Rattle.book.specs.Places.{in_object, NewFile, object_spots}
use Rattle.tree.specs.Reach.{entry_in}
use Rattle.tree.proofs.Entries.{user-in, object-in}
use Rattle.heads.specs.Fine.{FileFine}
use Rattle.heads.specs.Span.{Span}
use Rattle.heads.specs.Twins.{Fresh, FilesApart}
use Rattle.heads.proofs.Heads.{users-reach}
use Rattle.heads.proofs.Pages.{absent-unused}
use Rattle.shape.proofs.Objects.{objects-at}
use Rattle.places.specs.Rows.{Objects, UsedObject, object_row}

-- ---- a name that no lower file of the user has

module _ (O : Table) (u f : ℕ) where
  new_by : 0 < used (O (file_entry u f)) → Fresh O 4 (256 * u) (file_entry u f) → NewFile O u f
  unfolding Span
  new_by h s a l k same = s (file_entry u a) (omega arith) (omega arith) (record { first = k; second = h; title = same })

  by-new : NewFile O u f → Fresh O 4 (256 * u) (file_entry u f)
  unfolding Span
  by-new n x h l w =
      let e : file_entry u (x - 256 * u) ≡ x = omega arith in
      n (x - 256 * u) (omega arith) (subst (λ (y : ℕ). 0 < used (O y)) (sym e) w.first)
      (subst (λ (y : ℕ). SameFile (O y) (O (file_entry u f))) (sym e) w.title)

-- ---- the object file by its pointer

module _ (img : List ℕ) (x t : ℕ) (d : Objects img x t) where
  abbrev v : Vol
  v = vol img

  abbrev E : Table
  E = entry v (root_by x t 0)

  table : E ≡ object v
  unfolding object
  table = fun_ext (λ e. ap (λ (r : Root). entry v r e) (sym d.file.root))

  on-page : (q e : ℕ) → q ≡ page_at v (root_by x t 0) (e / 32) → q ≡ object_page v e
  unfolding object_page
  on-page q e i = i ∙ ap (λ (r : Root). page_at v r (e / 32)) (sym d.file.root)

  pub words_of : (q e : ℕ) → q ≡ page_at v (root_by x t 0) (e / 32) → entry_in v q e ≡ object v e
  words_of q e i = object-in v e q (on-page q e i)

  -- an unused one, by its page
  pub object-unused : (q e : ℕ) → q ≡ page_at v (root_by x t 0) (e / 32) → (0 < used (entry_in v q e) → ⊥) → 0 < used (object v e) → ⊥
  object-unused q e i n h = n (subst (λ (w : Words). 0 < used w) (sym (words_of q e i)) h)

  -- a used one, with all that the code knows of it then
  pub object-used : (q u f : ℕ) → u < 256 → f < 256 → (q ≡ page_at v (root_by x t 0) (file_entry u f / 32)) × (q < pages img) → 0 < used (entry_in v q (file_entry u f)) → UsedObject img x t q u f
  object-used q u f hu hf i l = record {
    objects = d;
    on = record { reach = d.file.reach; at = i.0; there = there };
    inside = i.1;
    user = hu;
    file = hf;
    used = subst (λ (w : Words). 0 < used w) (words_of q (file_entry u f) i.0) l;
  }
    where
      there : 0 < q
      there = elim (dec_lt 0 q) [
        | yes y ↦ y
        | no n ↦ absurd (let r : ⊥ = omega (arith, absent-unused v q (file_entry u f) _ refl (omega arith)) in r)
      ]

  -- the objects of user u, where the judge's tests say yes
  pub objects-right : (u : ℕ) → u < 256 → Span (FileFine (user v) E) (256 * u) (256 * u + 256) × FilesApart E u → AllHold (each 256 (object_row v u))
  unfolding AllHold object_spots Span
  objects-right u hu a f hf = when-all (used (object v e)) (object_spots v u f e) (λ l.
      let o : FileOk (user v) (object v) u e = subst (λ (y : ℕ). FileOk (user v) (object v) y e) owner (fine e (omega arith) (omega arith) l) in
      (o.owner, ((o.name, new_by (object v) u f l (apart e (omega arith) (omega arith))), (o.type, (o.whose, o.number)))))
    where
      e : ℕ
      e = file_entry u f

      owner : file_entry u f / 256 ≡ u
      owner = omega arith

      fine : Span (FileFine (user v) (object v)) (256 * u) (256 * u + 256)
      fine = subst (λ (T : Table). Span (FileFine (user v) T) (256 * u) (256 * u + 256)) table a.0

      apart : FilesApart (object v) u
      apart = subst (λ (T : Table). FilesApart T u) table a.1

-- ---- file f of user u, on page q

module _ (img : List ℕ) (x t q u f : ℕ) (d : UsedObject img x t q u f) where
  abbrev w : Vol
  w = vol img

  abbrev e : ℕ
  e = file_entry u f

  abbrev T : Table
  T = entry w (root_by x t 0)

  abbrev S : Spots
  S = object_spots w u f e

  pub used-there : 0 < used (T e)
  used-there = subst (λ (O : Table). 0 < used (O e)) (sym (table img x t d.objects)) d.used

  here : (k : ℕ) (p : Place) → p ≡ at q (entry_word e + k) → p ≡ in_object w e k
  here k p i = i ∙ ap (λ (r : ℕ). at r (entry_word e + k)) (on-page img x t d.objects q e d.on.at)

  words : entry_in w q e ≡ object w e
  words = words_of img x t d.objects q e d.on.at

  word-is : (k n : ℕ) → n ≡ entry_in w q e k → n ≡ object w e k
  word-is k n i = i ∙ ap (λ (g : Words). g k) words

  abbrev Owner : Type 0
  Owner = 0 < used (user w u)

  pub owner-read : (b : Bool) (o : ℕ) → o ≡ user_page w u → Decides b (0 < used (entry_in w o u)) → Decides b Owner
  owner-read b o i = subst (λ (g : Words). Decides b (0 < used g)) (user-in w u o i)

  abbrev Named : Table → Type 0
  Named O = LegalName (O e) 1 × Fresh O 4 (256 * u) e

  abbrev Typed : Type 0
  Typed = LegalType (entry_in w q e) 9

  named : Named T → LegalName (object w e) 1 × NewFile (object w) u f
  named n = let m : Named (object w) = subst Named (table img x t d.objects) n in (m.0, new_by (object w) u f d.used m.1)

  named_back : LegalName (object w e) 1 × NewFile (object w) u f → Named T
  named_back n = subst Named (sym (table img x t d.objects)) (n.0, by-new (object w) u f n.1)

  typed : Typed → LegalType (object w e) 9
  typed = subst (λ (g : Words). LegalType g 9) words

  -- each way through the code
  module _ (p : Place) where
    pub owner-none : p ≡ at q (entry_word e + 0) → (Owner → ⊥) → First S p
    unfolding First object_spots
    owner-none i n = inl (here 0 p i, n)

    module _ (o : Owner) where
      pub name-wrong : p ≡ at q (entry_word e + 1) → (Named T → ⊥) → First S p
      unfolding First AllHold object_spots
      name-wrong i n = inr (o, inl (here 1 p i, λ a. n (named_back a)))

      module _ (m : Named T) where
        pub type-wrong : p ≡ at q (entry_word e + 9) → (Typed → ⊥) → First S p
        unfolding First AllHold object_spots
        type-wrong i n = inr (o, inr (named m, inl (here 9 p i, λ a. n (subst (λ (g : Words). LegalType g 9) (sym words) a))))

        module _ (y : Typed) (a : ℕ) (ia : a ≡ entry_in w q e 16) where
          pub whose-wrong : p ≡ at q (entry_word e + 16) → (a ≡ u → ⊥) → First S p
          unfolding First AllHold object_spots
          whose-wrong i n = inr (o, inr (named m, inr (typed y, inl (here 16 p i, λ j. n (word-is 16 a ia ∙ j)))))

          pub number-wrong : a ≡ u → p ≡ at q (entry_word e + 17) → (b : ℕ) → b ≡ entry_in w q e 17 → (b ≡ e → ⊥) → First S p
          unfolding First AllHold object_spots
          number-wrong k i b ib n = inr (o, inr (named m, inr (typed y, inr (sym (word-is 16 a ia) ∙ k, (here 17 p i, λ j. n (word-is 17 b ib ∙ j))))))

  pub object-right : Owner → Named T → Typed → (a : ℕ) → a ≡ entry_in w q e 16 → a ≡ u → (b : ℕ) → b ≡ entry_in w q e 17 → b ≡ e → AllHold S
  unfolding AllHold object_spots
  object-right o m y a ia k b ib l = (o, (named m, (typed y, (sym (word-is 16 a ia) ∙ k, sym (word-is 17 b ib) ∙ l))))

-- as the code of all objects knows it
pub objects-known : (img : List ℕ) (x t : ℕ) → Whole img → Rule2 (pages img) (vol img) → Rule3 (pages img) (vol img) → Rule5 (pages img) (vol img) → x ≡ flags (vol img 0) object_pointer → t ≡ page (vol img 0) object_pointer → Objects img x t
objects-known img x t z a b c i j = let h : 0 < pages img = omega (arith, z.least) in
    record { file = objects-at img x t z a c i j; users = users-reach img h a b; most = z.most }
