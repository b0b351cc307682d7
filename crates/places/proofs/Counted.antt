-- The places of rule 10, by the ways through the code. Assumes nothing.
use mathlib.Core.Path.{◌≡◌, sym, ap, ◌∙◌, subst}
use mathlib.Core.Logic.{inl, inr}
use Prim.Native.Nat.{ℕ, ◌+◌, ◌<◌}
use native.Mathlib.Decide.{dec_lt}
use Rattle.sums.specs.Sum.{sum}
use Rattle.book.specs.Words.{Vol}
use Rattle.book.specs.Pointers.{unreserved_count}
use Rattle.book.specs.Entries.{entry_word, user, user_page, used, used_pages, grant, unreserved}
use Rattle.book.specs.Holders.{system_pages}
use Rattle.book.specs.Rules.{Rule7}
use Rattle.book.specs.declared.Place.{Place}
use Rattle.book.specs.Spots.{at, each, AllHold, First, when-all, when-hold, when-first}
use Rattle.book.specs.Places.{in_master, spots10}
use Rattle.laws.specs.Count.Charge.{mine-pages}
use Rattle.tree.specs.Reach.{entry_in}
use Rattle.tree.proofs.Entries.{user-in}
use Rattle.shape.specs.Counts.{CountRight, UsersRight}
use Rattle.places.specs.Found.{count_row}

module _ (P : ℕ) (v : Vol) (shapes : Rule7 P v) where
  -- ---- user u, on page q

  module _ (u q : ℕ) (h : u < 256) (e : q ≡ user_page v u) where
    counted : CountRight v u (entry_in v q u) → CountRight v u (user v u)
    counted = subst (CountRight v u) (user-in v u q e)

    pub count-right : CountRight v u (entry_in v q u) → AllHold (count_row v u)
    unfolding AllHold used_pages
    count-right c = when-all (used (user v u)) _ (λ l. counted c l ∙ mine-pages P v shapes u h)

    not-counted : (CountRight v u (entry_in v q u) → ⊥) → CountRight v u (user v u) → ⊥
    not-counted n c = n (subst (CountRight v u) (sym (user-in v u q e)) c)

    pub count-wrong : (p : Place) → p ≡ at q (entry_word u + 16) → (CountRight v u (entry_in v q u) → ⊥) → First (count_row v u) p
    unfolding First used_pages
    count-wrong p i n = elim (dec_lt 0 (used (user v u))) [
      | yes l ↦ when-first (used (user v u)) _ p l (i ∙ ap (λ (y : ℕ). at y (entry_word u + 16)) e, λ a. not-counted n (λ k. a ∙ sym (mine-pages P v shapes u h)))
      | no l ↦ absurd (not-counted n (λ k. absurd (l k)))
    ]

  -- ---- all users, and the sum

  pub counts-right : AllHold (each 256 (count_row v)) → UsersRight v 0 256
  unfolding AllHold used_pages
  counts-right a u h z l = when-hold (used (user v u)) _ (a u h) l ∙ sym (mine-pages P v shapes u h)

module _ (P : ℕ) (v : Vol) where
  pub counts-wrong : (q : Place) → First (each 256 (count_row v)) q → First (spots10 P v) q
  unfolding First spots10
  counts-wrong q f = inl f

  abbrev SumRight : Type 0
  SumRight = unreserved v + sum 256 (grant (user v)) + system_pages P v ≡ P

  pub sum-wrong : (q : Place) → q ≡ in_master unreserved_count → AllHold (each 256 (count_row v)) → (SumRight → ⊥) → First (spots10 P v) q
  unfolding First spots10
  sum-wrong q e a n = inr (a, (e, n))

  pub sum-right : AllHold (each 256 (count_row v)) → SumRight → AllHold (spots10 P v)
  unfolding AllHold spots10
  sum-right a s = (a, s)
