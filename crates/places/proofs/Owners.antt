-- The places of a used user, as the code reads them from his page. Assumes nothing.
use mathlib.Core.Path.{◌≡◌, refl, sym, ap, ◌∙◌, subst}
use mathlib.Core.Logic.{inl, inr}
use mathlib.Core.List.{List}
use mathlib.Core.Bool.{Bool}
use Prim.Native.Nat.{ℕ, ◌+◌, ◌/◌, ◌≤◌, ◌<◌}
use native.Mathlib.Decide.{dec_lt}
use native.Mathlib.Omega.{arith}
use Rattle.book.specs.Image.{pages, Whole}
use Rattle.book.specs.Pointers.{flags, page, user_pointer}
use Rattle.book.specs.Rules.{Rule2, Rule3, Asked, UsedWithin}
use Rattle.heads.proofs.Heads.{users-reached}
use Rattle.book.specs.Words.{Words, Vol, vol, two}
use Rattle.book.specs.Trees.{Root, root_by, page_at}
use Rattle.book.specs.Entries.{Table, entry, entry_word, user, user_file, user_page, used, given, used_pages}
use Rattle.book.specs.Names.{LegalName}
use Rattle.tree.specs.Reach.{entry_in}
use Rattle.tree.proofs.Reach.{root-read}
use Rattle.tree.proofs.Entries.{user-in}
use Rattle.heads.specs.Span.{Span}
use Rattle.heads.specs.Twins.{Fresh}
use Rattle.heads.proofs.Alike.{title-none}
use Rattle.heads.proofs.Judged.{users-table}
use Rattle.heads.proofs.Pages.{absent-unused}
use Rattle.book.specs.declared.Place.{Place}
use Rattle.book.specs.Spots.{at, AllHold, First}
use Rattle.book.specs.Places.{in_user, NewName, user_spots}
use Rattle.places.specs.Found.{Users, UserAt}

-- the page of user u, from the flags and the page of the user pointer
pub user-page : (img : List ℕ) (x t q u : ℕ) → Users img x t → q ≡ page_at (vol img) (root_by x t 0) (u / 32) → q ≡ user_page (vol img) u
unfolding user_page user_file
user-page img x t q u d e = e ∙ ap (λ (r : Root). page_at (vol img) r (u / 32)) (sym (root-read (vol img 0) user_pointer 0 x t 0 d.flagged d.top refl))

module _ (img : List ℕ) (x t q u : ℕ) (d : UserAt img x t q u) where
  abbrev v : Vol
  v = vol img

  abbrev E : Table
  E = entry v (root_by x t 0)

  page-is : q ≡ user_page v u
  page-is = user-page img x t q u d.users d.on.at

  pub words_are : entry_in v q u ≡ user v u
  words_are = user-in v u q page-is

  table : E ≡ user v
  table = users-table v x t d.users.flagged d.users.top

  pub used-there : 0 < used (E u)
  used-there = subst (λ (T : Table). 0 < used (T u)) (sym table) d.used

  here : (k : ℕ) (p : Place) → p ≡ at q (entry_word u + k) → p ≡ in_user v u k
  here k p e = e ∙ ap (λ (r : ℕ). at r (entry_word u + k)) page-is

  -- the name, by the code's two tests of it
  fresh-new : Fresh E 0 0 u → NewName (user v) u
  unfolding Span
  fresh-new f a h k s = subst (λ (T : Table). Fresh T 0 0 u) table f a (omega arith) h (record { first = k; second = d.used; title = title-none (user v a) (user v u) s })

  new-fresh : NewName (user v) u → Fresh E 0 0 u
  unfolding Span
  new-fresh n = subst (λ (T : Table). Fresh T 0 0 u) (sym table) (λ a z h w. n a h w.first w.title.0)

  -- the name, as the code tests it
  abbrev Named : Type 0
  Named = LegalName (E u) 1 × Fresh E 0 0 u

  named : Named → LegalName (user v u) 1 × NewName (user v) u
  named n = (subst (λ (T : Table). LegalName (T u) 1) table n.0, fresh-new n.1)

  unnamed : LegalName (user v u) 1 × NewName (user v) u → Named
  unnamed n = (subst (λ (T : Table). LegalName (T u) 1) (sym table) n.0, new-fresh n.1)

  abbrev WithinThere : Bool → Type 0
  WithinThere ten = Asked ten (two (entry_in v q u) 16 ≤ two (entry_in v q u) 14)

  within : (ten : Bool) → WithinThere ten → Asked ten (UsedWithin (user v) u)
  unfolding used_pages given
  within ten = subst (λ (w : Words). Asked ten (two w 16 ≤ two w 14)) words_are

  over : (ten : Bool) → (WithinThere ten → ⊥) → Asked ten (UsedWithin (user v) u) → ⊥
  unfolding used_pages given
  over ten n l = n (subst (λ (w : Words). Asked ten (two w 16 ≤ two w 14)) (sym words_are) l)

  own_is : (k : ℕ) → entry_in v q u k ≡ user v u k
  own_is k = ap (λ (w : Words). w k) words_are

  -- ---- each way through the code

  module _ (ten : Bool) (p : Place) where
    pub name-wrong : p ≡ at q (entry_word u + 1) → (Named → ⊥) → First (user_spots ten v u) p
    unfolding First user_spots
    name-wrong e n = inl (here 1 p e, λ a. n (unnamed a))

    pub used_over : Named → p ≡ at q (entry_word u + 16) → (WithinThere ten → ⊥) → First (user_spots ten v u) p
    unfolding First AllHold user_spots
    used_over n e o = inr (named n, inl (here 16 p e, over ten o))

    pub own-wrong : Named → WithinThere ten → p ≡ at q (entry_word u + 18) → (entry_in v q u 18 ≡ u → ⊥) → First (user_spots ten v u) p
    unfolding First AllHold user_spots
    own-wrong n l e w = inr (named n, inr (within ten l, (here 18 p e, λ a. w (own_is 18 ∙ a))))

  pub user-right : (ten : Bool) → Named → WithinThere ten → entry_in v q u 18 ≡ u → AllHold (user_spots ten v u)
  unfolding AllHold user_spots
  user-right ten n l w = (named n, (within ten l, sym (own_is 18) ∙ w))

-- a user on page q that is used, with all that the code knows of him then
pub user-at : (img : List ℕ) (x t q u : ℕ) → Users img x t → u < 256 → (q ≡ page_at (vol img) (root_by x t 0) (u / 32)) × (q < pages img) → 0 < used (entry_in (vol img) q u) → UserAt img x t q u
user-at img x t q u d h e l =
    let w : entry_in (vol img) q u ≡ user (vol img) u = user-in (vol img) u q (user-page img x t q u d e.0) in
    record {
      users = d;
      on = record { reach = d.reach; at = e.0; there = there };
      inside = e.1;
      below = h;
      used = subst (λ (g : Words). 0 < used g) w l;
    }
  where
    there : 0 < q
    there = elim (dec_lt 0 q) [
      | yes y ↦ y
      | no n ↦ absurd (let r : ⊥ = omega (arith, absent-unused (vol img) q u _ refl (omega arith)) in r)
    ]

-- as the code of all users knows it
pub users-known : (img : List ℕ) (x t : ℕ) → Whole img → Rule2 (pages img) (vol img) → Rule3 (pages img) (vol img) → x ≡ flags (vol img 0) user_pointer → t ≡ page (vol img 0) user_pointer → Users img x t
users-known img x t w a b e f = record { flagged = e; top = f; reach = users-reached img (omega (arith, w.least)) a b x t e f; most = w.most }

-- an unused one, by his page
pub unused-on : (img : List ℕ) (x t q u : ℕ) → Users img x t → q ≡ page_at (vol img) (root_by x t 0) (u / 32) → (0 < used (entry_in (vol img) q u) → ⊥) → 0 < used (user (vol img) u) → ⊥
unused-on img x t q u d e n h = n (subst (λ (g : Words). 0 < used g) (sym (user-in (vol img) u q (user-page img x t q u d e))) h)
