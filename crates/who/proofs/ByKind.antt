-- The pages of a kind, by its number. Assumes nothing.
use mathlib.Core.Path.{◌≡◌, refl, sym, ap₂, subst}
use Prim.Native.Nat.{ℕ, zero, suc, ◌+◌, ◌-◌, ◌*◌, ◌/◌, ◌%◌, ◌≤◌, ◌<◌}
use native.Mathlib.Omega.{arith}
use Rattle.std.proofs.Common.{Option}
use Rattle.book.specs.Words.{Vol}
use Rattle.book.specs.Trees.{root_at, page_at, index_at, upto}
use Rattle.book.specs.Bits.{bit_file}
use Rattle.book.specs.Entries.{user_file, object_file}
use Rattle.book.specs.Pointers.{user_pointer, object_pointer}
use Rattle.laws.specs.Count.Owners.{root_of, owner-shallow}
use Rattle.laws.specs.Count.Reach.{Within}
use Rattle.laws.specs.Tree.Roles.{upto-pos}
use Rattle.who.specs.Least.{Least}
use Rattle.who.specs.Turns.{positions, turns, class_page, file_page, kind_page, turn_page}
use Rattle.who.proofs.Classes.{class-below}

module _ (P : ℕ) (v : Vol) (p n z : ℕ) (r : Option ℕ) where
  -- the same kind
  kind_at : (c d : ℕ) → c ≡ d → Least (λ (k : ℕ). kind_page P v c k ≡ p) n z r → Least (λ (k : ℕ). kind_page P v d k ≡ p) n z r
  kind_at c d e = subst (λ (b : ℕ). Least (λ (k : ℕ). kind_page P v b k ≡ p) n z r) e

  pub kind-bits : (d : ℕ) → d ≡ 2 → Least (λ (k : ℕ). page_at v (bit_file P v) k ≡ p) n z r → Least (λ (k : ℕ). kind_page P v d k ≡ p) n z r
  unfolding kind_page
  kind-bits d e l = kind_at 2 d (sym e) l

  pub kind-index : (d : ℕ) → d ≡ 3 → Least (λ (k : ℕ). upto k 1 (index_at v (user_file v) 0) ≡ p) n z r → Least (λ (k : ℕ). kind_page P v d k ≡ p) n z r
  unfolding kind_page
  kind-index d e l = kind_at 3 d (sym e) l

  pub kind-users : (d : ℕ) → d ≡ 4 → Least (λ (k : ℕ). class_page v (root_at (v 0) user_pointer 0) 2 k ≡ p) n z r → Least (λ (k : ℕ). kind_page P v d k ≡ p) n z r
  unfolding kind_page class_page user_file
  kind-users d e l = kind_at 4 d (sym e) l

  object-at : (c : ℕ) → c < 3 → Least (λ (k : ℕ). class_page v (root_at (v 0) object_pointer 0) c k ≡ p) n z r → Least (λ (k : ℕ). kind_page P v (5 + c) k ≡ p) n z r
  unfolding kind_page object_file
  object-at zero h l = l
  object-at (suc zero) h l = l
  object-at (suc (suc zero)) h l = l
  object-at (suc (suc (suc c))) h l = absurd (let o : ⊥ = omega (arith, h) in o)

  pub kind-objects : (d : ℕ) → 4 < d → d < 8 → Least (λ (k : ℕ). class_page v (root_at (v 0) object_pointer 0) (d - 5) k ≡ p) n z r → Least (λ (k : ℕ). kind_page P v d k ≡ p) n z r
  kind-objects d h i l = kind_at (5 + (d - 5)) d (omega arith) (object-at (d - 5) (omega arith) l)

  pub kind-files : (d : ℕ) → 7 < d → Least (λ (k : ℕ). file_page v (d - 8) k ≡ p) n z r → Least (λ (k : ℕ). kind_page P v d k ≡ p) n z r
  unfolding kind_page
  kind-files d h l = let q : suc (suc (suc (suc (suc (suc (suc (suc (d - 8)))))))) ≡ d = omega arith in kind_at _ d q l

-- kinds 0 and 1 have no pages
pub kind-low : (P : ℕ) (v : Vol) (d i : ℕ) → d < 2 → kind_page P v d i ≡ 0
unfolding kind_page
kind-low P v zero i h = refl
kind-low P v (suc zero) i h = refl
kind-low P v (suc (suc d)) i h = absurd (let o : ⊥ = omega (arith, h) in o)

-- no system page is past the last position
module _ (P : ℕ) (v : Vol) (w : Within P v) (few : P ≤ positions) (p : ℕ) (pos : 0 < p) where
  pub kind-below : (d i : ℕ) → d < 8 → kind_page P v d i ≡ p → i < positions
  unfolding kind_page class_page root_of
  kind-below zero i h e = absurd (let o : ⊥ = omega (arith, e) in o)
  kind-below (suc zero) i h e = absurd (let o : ⊥ = omega (arith, e) in o)
  kind-below (suc (suc zero)) i h e = class-below v P p few pos (bit_file P v) (owner-shallow P v 0) w.bits 2 i e
  kind-below (suc (suc (suc zero))) i h e = omega (arith, (upto-pos i 1 (index_at v (user_file v) 0) p pos e).0)
  kind-below (suc (suc (suc (suc zero)))) i h e = class-below v P p few pos (user_file v) (owner-shallow P v 1) w.users 2 i e
  kind-below (suc (suc (suc (suc (suc zero))))) i h e = class-below v P p few pos (object_file v) (owner-shallow P v 2) w.objs 0 i e
  kind-below (suc (suc (suc (suc (suc (suc zero)))))) i h e = class-below v P p few pos (object_file v) (owner-shallow P v 2) w.objs 1 i e
  kind-below (suc (suc (suc (suc (suc (suc (suc zero))))))) i h e = class-below v P p few pos (object_file v) (owner-shallow P v 2) w.objs 2 i e
  kind-below (suc (suc (suc (suc (suc (suc (suc (suc d)))))))) i h e = absurd (let o : ⊥ = omega (arith, h) in o)

-- turn turns * d + j is turn j of kind d
pub kind-turn : (P : ℕ) (v : Vol) (d j : ℕ) → j < turns → turn_page P v (turns * d + j) ≡ kind_page P v d j
unfolding turn_page
kind-turn P v d j h =
    let q : (turns * d + j) / turns ≡ d = omega arith in
    let s : (turns * d + j) % turns ≡ j = omega arith in
    ap₂ (kind_page P v) q s
