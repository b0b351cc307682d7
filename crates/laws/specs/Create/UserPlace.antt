-- The place of a new user's entry: three pages the first time ever; later a user page if absent, and for user 64 up a subindex block. Assumes nothing.
use Rattle.std.specs.Prelude.{◌≡◌, refl, ◌≢◌, ℕ, suc, ◌+◌, ◌-◌, ◌*◌, ◌/◌, ◌≤◌, ◌<◌}
use Rattle.std.proofs.Common.{sym, ◌∙◌, eq-zero-or-pos}
use Rattle.std.proofs.Math.Path.{ap, subst}
use Rattle.std.proofs.Math.Logic.{inl, inr}
use Rattle.std.proofs.Math.Decide.{ℕ_discrete}
use native.Mathlib.Omega.{arith}
use Rattle.sums.specs.Search.{pick_yes, pick_no, at_least}
use Rattle.sums.specs.Sum.{is, is_same, is-other}
use Rattle.book.specs.Create.{extend, raises, user_need, started, with_user_page, raised, with_subindex, user_place}
use Rattle.book.specs.Entries.{user_file, user_page, entry_page, unreserved}
use Rattle.book.specs.Pointers.{slot, flags, page, Zero, Inside, object_pointer, unreserved_count, user_pointer}
use Rattle.book.specs.Rules.{Rule2}
use Rattle.book.specs.Trees.{root_at}
use Rattle.book.specs.Words.{Vol}
use Rattle.laws.specs.Bits.Choose.{Stock}
use Rattle.laws.specs.Bits.Taking.{TakenWords, NoWords}
use Rattle.laws.specs.Create.FilePlace.{When}
use Rattle.laws.specs.Create.Join.{SlotWords}
use Rattle.laws.specs.Create.Placed.{Placed, placed-none, placed-then, placed-wider, extend_pos, extend-master, extend-slot, extend-placed}
use Rattle.laws.specs.Create.Raise.{raised-flags, raised-placed}
use Rattle.laws.specs.Create.Start.{started-flags, started-slot, started-placed}
use Rattle.laws.specs.Create.Vacant.{Vacant, user-vacant}
use Rattle.laws.specs.Frame.Places.{Places, WordsOf, UnreservedWords, Either}
use Rattle.laws.specs.Tree.Pointer.{flags-ext, page-ext}
use Rattle.laws.specs.Tree.Positions.{root-one}

pub raises-one : (v : Vol) (u : ℕ) → flags (v 0) object_pointer ≡ 1 → raises v u ≡ at_least 64 u
unfolding raises
raises-one v u e = let q : is (flags (v 0) object_pointer) 1 * at_least 64 u ≡ 1 * at_least 64 u = ap (λ (x : ℕ). x * at_least 64 u) (ap (λ (x : ℕ). is x 1) e ∙ is_same 1) in omega (arith, q)

pub raises-none : (v : Vol) (u : ℕ) → flags (v 0) object_pointer ≢ 1 → raises v u ≡ 0
unfolding raises
raises-none v u n = let q : is (flags (v 0) object_pointer) 1 * at_least 64 u ≡ 0 * at_least 64 u = ap (λ (x : ℕ). x * at_least 64 u) (is-other (flags (v 0) object_pointer) 1 n) in omega (arith, q)

-- beside the pages taken and their bits: the two pointers, the object pointer, unreserved, the slot of the user page
abbrev pub UserPlaceWords : Vol → ℕ → Places
UserPlaceWords v u = Either (When (page (v 0) user_pointer ≡ 0) (WordsOf 0 object_pointer 4)) (Either (When (0 < raises v u) (WordsOf 0 object_pointer 2)) (Either (When (0 < user_need v u) UnreservedWords)
    (When ((0 < page (v 0) user_pointer) × (user_page v u ≡ 0)) (SlotWords (page (v 0) user_pointer) (entry_page u)))))

-- the entry's page is there, and user 64 and up have a subindexed object file
pub record UserPlaced (P : ℕ) (v w : Vol) (u : ℕ) : Type 0 where
  pub placed : Placed P v w (UserPlaceWords v u) (user_need v u)
  pub there : 0 < user_page w u
  pub high : flags (w 0) object_pointer ≡ 1 → u < 64

module _ {choose : Vol → ℕ} {P : ℕ} {v : Vol} (stock : Stock choose P v) (big : P ≤ 1073741824) (u : ℕ) (hu : u < 256) (have : user_need v u ≤ unreserved v) where
  abbrev t : ℕ
  t = page (v 0) user_pointer

  -- ---- the first ever

  module _ (z : t ≡ 0) (low : u < 32) where
    zeros : Rule2 P v → Zero (v 0) user_pointer × Zero (v 0) object_pointer
    unfolding Rule2 Inside
    zeros (inl h) = h
    zeros (inr h) = absurd (let r : ⊥ = omega (arith, h.0.1, z) in r)

    three : user_need v u ≡ 3
    unfolding user_need
    three = pick_no t _ 3 z

    have₃ : 3 ≤ unreserved v
    have₃ = omega (arith, have, three)

    abbrev w : Vol
    w = started choose P v

    T : Placed P v w (Either (WordsOf 0 object_pointer 4) UnreservedWords) 3
    T = started-placed stock big (zeros stock.sound.r2).0 (zeros stock.sound.r2).1 have₃

    first-there : 0 < user_page w u
    unfolding user_page user_file root_at
    first-there =
        let s = started-slot stock big (zeros stock.sound.r2).0 (zeros stock.sound.r2).1 have₃ in
        let k : u / 32 ≡ 0 = omega arith in
        omega (arith, s.0, s.1, root-one w (flags (w 0) user_pointer) (page (w 0) user_pointer) 0 (u / 32) (started-flags stock big (zeros stock.sound.r2).0 (zeros stock.sound.r2).1 have₃) (omega arith), ap (slot w (page (w 0) user_pointer)) k)

    first-placed : UserPlaced P v (user_place choose P v u) u
    unfolding user_place
    first-placed = subst (λ (w : Vol). UserPlaced P v w u) (sym (pick_no t _ w z)) (record {
      placed = placed-wider P v w (Either (WordsOf 0 object_pointer 4) UnreservedWords) (UserPlaceWords v u) 3 (user_need v u) T three wide;
      there = first-there;
      high = λ x. omega arith;
    })
      where
        wide : (p k : ℕ) → Either (WordsOf 0 object_pointer 4) UnreservedWords p k → Either (TakenWords P v w) (UserPlaceWords v u) p k
        wide p k (inl h) = inr (inl (z, h))
        wide p k (inr h) = inr (inr (inr (inl (omega (arith, three), h))))

  -- ---- later

  module _ (p : 0 < t) where
    indexed : Rule2 P v → (flags (v 0) user_pointer ≡ 1) × (t < P)
    unfolding Rule2 Inside Zero page
    indexed (inl h) = absurd (let r : ⊥ = omega (arith, p, h.0.0, h.0.1) in r)
    indexed (inr h) = (h.0.0, h.0.2)

    later : user_need v u ≡ (1 - user_page v u) + raises v u
    unfolding user_need
    later = pick_yes t _ 3 p

    -- a user page if absent
    abbrev K : Places
    K = Either (When (user_page v u ≡ 0) UnreservedWords) (When (user_page v u ≡ 0) (SlotWords t (entry_page u)))

    record WithPage (w : Vol) : Type 0 where
      placed : Placed P v w K (1 - user_page v u)
      there : 0 < user_page w u
      master : (k : ℕ) → k < unreserved_count → w 0 k ≡ v 0 k

    with-page : WithPage (with_user_page choose P v u)
    unfolding with_user_page user_page user_file root_at
    with-page = elim (eq-zero-or-pos (user_page v u)) [
      | inr q ↦ subst WithPage (sym (pick_yes (user_page v u) v _ q)) (record {
        placed = placed-wider P v v NoWords K 0 (1 - user_page v u) (placed-none P v stock.sound) (omega arith) (λ p k h. absurd h);
        there = q;
        master = λ k h. refl;
      })
      | inl z ↦ subst WithPage (sym (pick_no (user_page v u) v _ z)) (absent z)
    ]
      where
        absent : user_page v u ≡ 0 → WithPage (extend choose P v t (entry_page u))
        absent z =
            let N : Vacant P v t (entry_page u) = user-vacant P v stock.sound (indexed stock.sound.r2).0 p (indexed stock.sound.r2).1 u hu z in
            let h : 1 ≤ unreserved v = omega (arith, have, later) in
            let w : Vol = extend choose P v t (entry_page u) in
            let T : Placed P v w (Either (SlotWords t (entry_page u)) UnreservedWords) 1 = extend-placed stock N h in
            let m : (k : ℕ) → k < unreserved_count → w 0 k ≡ v 0 k = extend-master stock N h in
            let f : flags (w 0) user_pointer ≡ 1 = flags-ext (w 0) (v 0) user_pointer (m user_pointer (omega arith)) ∙ (indexed stock.sound.r2).0 in
            record {
              placed = placed-wider P v w (Either (SlotWords t (entry_page u)) UnreservedWords) K 1 (1 - user_page v u) T (omega arith) (wide z);
              there = omega (
                arith,
                extend_pos stock N h,
                root-one w (flags (w 0) user_pointer) (page (w 0) user_pointer) 0 (u / 32) f (omega arith) ∙ ap (λ (x : ℕ). slot w x (u / 32)) (page-ext (w 0) (v 0) user_pointer (m user_pointer (omega arith)) (m (suc user_pointer) (omega arith)))
                    ∙ extend-slot stock N h,
              );
              master = m;
            }
          where
            wide : user_page v u ≡ 0 → (q k : ℕ) → Either (SlotWords t (entry_page u)) UnreservedWords q k → Either (TakenWords P v (extend choose P v t (entry_page u))) K q k
            wide z q k (inl h) = inr (inr (z, h))
            wide z q k (inr h) = inr (inl (z, h))

    abbrev w₁ : Vol
    w₁ = with_user_page choose P v u

    flags₁ : flags (w₁ 0) object_pointer ≡ flags (v 0) object_pointer
    flags₁ = flags-ext (w₁ 0) (v 0) object_pointer (with-page.master object_pointer (omega arith))

    raises₁ : raises w₁ u ≡ raises v u
    unfolding raises
    raises₁ = ap (λ (x : ℕ). is x 1 * at_least 64 u) flags₁

    -- nothing is raised
    stay : raises v u ≡ 0 → UserPlaced P v w₁ u
    stay z = record {
      placed = placed-wider P v w₁ K (UserPlaceWords v u) (1 - user_page v u) (user_need v u) with-page.placed (omega (arith, later)) wide;
      there = with-page.there;
      high = λ x. omega (arith, z, raises-one v u (sym flags₁ ∙ x));
    }
      where
        wide : (q k : ℕ) → K q k → Either (TakenWords P v w₁) (UserPlaceWords v u) q k
        wide q k (inl h) = inr (inr (inr (inl (omega (arith, later, h.0), h.1))))
        wide q k (inr h) = inr (inr (inr (inr ((p, h.0), h.1))))

    -- a subindex block
    module _ (q : 0 < raises v u) where
      was : flags (v 0) object_pointer ≡ 1
      was = elim (ℕ_discrete (flags (v 0) object_pointer) 1) [ yes e ↦ e | no n ↦ absurd (let r : ⊥ = omega (arith, q, raises-none v u n) in r) ]

      one : raises v u ≡ 1
      one = omega (arith, q, raises-one v u was)

      have₁ : 1 ≤ unreserved w₁
      have₁ = omega (arith, have, later, one, with-page.placed.taking.paid)

      next : Stock choose P w₁
      next = record { choice = stock.choice; sound = with-page.placed.sound; pos = stock.pos }

      T₂ : Placed P w₁ (raised choose P w₁) (Either (WordsOf 0 object_pointer 2) UnreservedWords) 1
      T₂ = raised-placed next big (flags₁ ∙ was) have₁

      high-there : 0 < user_page (raised choose P w₁) u
      unfolding user_page
      high-there = omega (arith, with-page.there, T₂.taking.user_at (u / 32) with-page.there)

      raise : UserPlaced P v (raised choose P w₁) u
      raise = record {
        placed = placed-then P v w₁ (raised choose P w₁) K (Either (WordsOf 0 object_pointer 2) UnreservedWords) (UserPlaceWords v u) (1 - user_page v u) 1 (user_need v u) with-page.placed T₂ (omega (arith, later, one)) wide;
        there = high-there;
        high = λ x. absurd (let r : ⊥ = omega (arith, x, raised-flags next big (flags₁ ∙ was) have₁) in r);
      }
        where
          wide : (x k : ℕ) → Either K (Either (WordsOf 0 object_pointer 2) UnreservedWords) x k → Either (TakenWords P v (raised choose P w₁)) (UserPlaceWords v u) x k
          wide x k (inl (inl h)) = inr (inr (inr (inl (omega (arith, later, h.0), h.1))))
          wide x k (inl (inr h)) = inr (inr (inr (inr ((p, h.0), h.1))))
          wide x k (inr (inl h)) = inr (inr (inl (q, h)))
          wide x k (inr (inr h)) = inr (inr (inr (inl (omega (arith, later, one), h))))

    later-placed : UserPlaced P v (user_place choose P v u) u
    unfolding user_place with_subindex
    later-placed = subst (λ (w : Vol). UserPlaced P v w u) (sym (pick_yes t (with_subindex choose P w₁ u) _ p)) (elim (eq-zero-or-pos (raises v u)) [
      | inl z ↦ subst (λ (w : Vol). UserPlaced P v w u) (sym (pick_no (raises w₁ u) _ w₁ (raises₁ ∙ z))) (stay z)
      | inr q ↦ subst (λ (w : Vol). UserPlaced P v w u) (sym (pick_yes (raises w₁ u) (raised choose P w₁) w₁ (omega (arith, raises₁, q)))) (raise q)
    ])

  pub user-placed : (t ≡ 0 → u < 32) → UserPlaced P v (user_place choose P v u) u
  user-placed low = elim (eq-zero-or-pos t) [ inl z ↦ first-placed z (low z) | inr p ↦ later-placed p ]
