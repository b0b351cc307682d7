-- The entries of one page of a file, and what holds of an entry read from its page. Assumes nothing.
use mathlib.Core.Path.{◌≡◌, sym, ap, ◌∙◌, subst, fun_ext}
use mathlib.Core.Bool.{Bool}
use Prim.Native.Nat.{ℕ, ◌+◌, ◌/◌, ◌%◌, ◌≤◌, ◌<◌}
use native.Mathlib.Omega.{arith}
use Rattle.book.specs.Words.{Words, Vol, two, word}
use Rattle.book.specs.Trees.{Root, page_at}
use Rattle.book.specs.Names.{LegalName, LegalType}
use Rattle.book.specs.Entries.{Table, entry_word, entry, user, user_page, used, given, used_pages}
use Rattle.book.specs.Decides.{Decides}
use Rattle.book.specs.Rules.{Asked}
use Rattle.tree.specs.Reach.{entry_in}
use Rattle.tree.proofs.Entries.{absent-word, user-in}
use Rattle.heads.specs.Span.{Span}
use Rattle.heads.specs.Fine.{UserFine, FileFine, Unused}

-- ---- entry x, on page q of the file at r

pub entry_in_lem : (v : Vol) (r : Root) (q x : ℕ) → q ≡ page_at v r (x / 32) → entry_in v q x ≡ entry v r x
unfolding entry
entry_in_lem v r q x e = fun_ext (λ k. ap (λ (p : ℕ). word v p (entry_word x + k)) e)

-- one of the 32 from `first` on, where a page begins
module _ (v : Vol) (q first x : ℕ) (f : first % 32 ≡ 0) (h : first ≤ x) (l : x < first + 32) where
  pub on-page : (r : Root) → q ≡ page_at v r (first / 32) → q ≡ page_at v r (x / 32)
  on-page r e = let s : first / 32 ≡ x / 32 = omega arith in e ∙ ap (page_at v r) s

  pub entry-on : (r : Root) → q ≡ page_at v r (first / 32) → entry_in v q x ≡ entry v r x
  entry-on r e = entry_in_lem v r q x (on-page r e)

  pub user-on : q ≡ user_page v first → entry_in v q x ≡ user v x
  unfolding user user_page
  user-on e = entry-on _ e

  -- the owner of x owns all objects of the page
  pub owner-on : (b : Bool) → q ≡ user_page v (first / 256) → Decides b (0 < used (entry_in v q (first / 256))) → Decides b (0 < used (user v (x / 256)))
  owner-on b e d =
      let s : first / 256 ≡ x / 256 = omega arith in
      subst (λ (u : ℕ). Decides b (0 < used (user v u))) s (subst (λ (w : Words). Decides b (0 < used w)) (user-in v (first / 256) q e) d)

-- an entry of an absent page is unused
pub absent-unused : (v : Vol) (q x : ℕ) (w : Words) → entry_in v q x ≡ w → q ≡ 0 → used w ≡ 0
unfolding used
absent-unused v q x w e z = omega (arith, ap (λ (y : Words). y 0) e, absent-word v q x 0 z)

-- ---- what is asked of an entry, by its words alone

module _ (U W : Table) (x : ℕ) (e : U x ≡ W x) where
  pub user-fine : (ten : Bool) → UserFine ten U x → UserFine ten W x
  unfolding given used_pages
  user-fine ten f h =
      let a = f (subst (λ (w : Words). 0 < used w) (sym e) h) in
      record {
        own = ap (λ (w : Words). w 18) (sym e) ∙ a.own;
        name = subst (λ (w : Words). LegalName w 1) e a.name;
        within = subst (λ (w : Words). Asked ten (two w 16 ≤ two w 14)) e a.within;
      }

  pub file-fine : (T : Table) → FileFine T U x → FileFine T W x
  file-fine T f h =
      let a = f (subst (λ (w : Words). 0 < used w) (sym e) h) in
      record {
        owner = a.owner;
        whose = ap (λ (w : Words). w 16) (sym e) ∙ a.whose;
        number = ap (λ (w : Words). w 17) (sym e) ∙ a.number;
        name = subst (λ (w : Words). LegalName w 1) e a.name;
        type = subst (λ (w : Words). LegalType w 9) e a.type;
      }

-- ---- a page that is absent

module _ (v : Vol) (q first : ℕ) (f : first % 32 ≡ 0) (z : q ≡ 0) where
  pub users-none : q ≡ user_page v first → Span (Unused (user v)) first (first + 32)
  unfolding Span
  users-none e x h l = absent-unused v q x _ (user-on v q first x f h l e) z

  pub users-absent : (ten : Bool) → q ≡ user_page v first → Span (UserFine ten (user v)) first (first + 32)
  unfolding Span
  users-absent ten e x h l u = absurd (let r : ⊥ = omega (arith, absent-unused v q x _ (user-on v q first x f h l e) z) in r)

  pub files-absent : (T : Table) (r : Root) → q ≡ page_at v r (first / 32) → Span (FileFine T (entry v r)) first (first + 32)
  unfolding Span
  files-absent T r e x h l u = absurd (let w : ⊥ = omega (arith, absent-unused v q x _ (entry-on v q first x f h l r e) z) in w)
