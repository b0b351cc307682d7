-- The place of a new file's entry: an object index block if absent, then an object page if absent. Assumes nothing.
use Rattle.std.specs.Prelude.{◌≡◌, ℕ, suc, ◌/◌, ◌%◌, ◌≤◌, ◌<◌}
use Rattle.std.proofs.Common.{sym, ◌∙◌, inl, inr, eq-zero-or-pos, arith}
use Rattle.std.proofs.Math.Path.{ap, subst}
use Rattle.sums.specs.Search.{pick_yes, pick_no}
use Rattle.book.specs.Create.{extend, object_index, file_need, with_index, with_object_page, file_place}
use Rattle.book.specs.Entries.{object_page, entry_page, unreserved}
use Rattle.book.specs.Holders.{hit}
use Rattle.book.specs.Pointers.{slot, flags, page, object_pointer, unreserved_count}
use Rattle.book.specs.Words.{Vol}
use Rattle.laws.specs.Bits.Choose.{Stock}
use Rattle.laws.specs.Bits.Taking.{TakenWords, NoWords}
use Rattle.laws.specs.Count.Good.{bit_le}
use Rattle.laws.specs.Create.Join.{SlotWords}
use Rattle.laws.specs.Create.Placed.{Placed, placed-none, placed-then, extend_pos, extend-master, extend-slot, extend-bare, extend-keeps, extend-taken, extend-placed, placed-wider}
use Rattle.laws.specs.Create.Vacant.{Reaches, Vacant, Reached, reached-kept, once, object-one, object-two, top-held, under, object-slot, object-none, index-vacant, top-vacant}
use Rattle.laws.specs.Frame.Places.{Places, UnreservedWords, Either}
use Rattle.laws.specs.Tree.Pointer.{flags-ext, page-ext}
use Rattle.laws.specs.Tree.Slot.{hit_same, slot_same}

-- words that change only under a condition
abbrev pub When : Type 0 → Places → Places
When A B p k = A × B p k

-- beside the pages taken and their bits: unreserved, the slot of the index block, the slot of the page
abbrev pub FilePlaceWords : Vol → ℕ → Places
FilePlaceWords v e = Either (When (0 < file_need v e) UnreservedWords) (Either (When (object_index v e ≡ 0) (SlotWords (page (v 0) object_pointer) (entry_page e / 512)))
    (When ((0 < object_index v e) × (object_page v e ≡ 0)) (SlotWords (object_index v e) (entry_page e % 512))))

pub record FilePlaced (P : ℕ) (v w : Vol) (e : ℕ) : Type 0 where
  pub placed : Placed P v w (FilePlaceWords v e) (file_need v e)
  pub there : 0 < object_page w e

module _ {choose : Vol → ℕ} {P : ℕ} {e : ℕ} where
  -- an absent page under an index block that is there
  module _ {v : Vol} (stock : Stock choose P v) (R : Reached P v e) (p : 0 < object_index v e) (z : object_page v e ≡ 0) (have : 1 ≤ unreserved v) where
    abbrev X : ℕ
    X = object_index v e

    abbrev j : ℕ
    j = entry_page e % 512

    abbrev v' : Vol
    v' = extend choose P v X j

    N : Vacant P v X j
    N = index-vacant P v stock.sound e R p z

    page-placed : Placed P v v' (Either (SlotWords X j) UnreservedWords) 1
    page-placed = extend-placed stock N have

    R' : Reached P v' e
    R' = reached-kept P v v' e (extend-master stock N have object_pointer (omega arith)) (extend-master stock N have (suc object_pointer) (omega arith)) R

    top-same : page (v' 0) object_pointer ≡ page (v 0) object_pointer
    top-same = page-ext (v' 0) (v 0) object_pointer (extend-master stock N have object_pointer (omega arith)) (extend-master stock N have (suc object_pointer) (omega arith))

    flags-same : flags (v' 0) object_pointer ≡ flags (v 0) object_pointer
    flags-same = flags-ext (v' 0) (v 0) object_pointer (extend-master stock N have object_pointer (omega arith))

    index_same : object_index v' e ≡ X
    index_same = go R.kind
      where
        go : Reaches v e → object_index v' e ≡ object_index v e
        go (inl h) = object-one P v' page-placed.sound e R' (flags-same ∙ h.0) ∙ top-same ∙ sym (object-one P v stock.sound e R h.0)
        go (inr h) =
            let b = under P v stock.sound e R h.0 h.1 p in
            let o : ℕ = page (v 0) object_pointer in
            object-two P v' page-placed.sound e R' (flags-same ∙ h.0) ∙ ap (λ (t : ℕ). slot v' t (entry_page e / 512)) top-same
            ∙ slot_same v v' o (extend-keeps stock N have o
            (λ q. omega (arith, b.1, once P v stock.sound (object_index v e) b.0, subst (λ (y : ℕ). hit (object_index v e) y ≡ 1) (sym q) (hit_same (object_index v e) p)))
            (top-held P v stock.sound e R h.0)) (entry_page e / 512)
            ∙ sym (object-two P v stock.sound e R h.0)

    page-there : 0 < object_page v' e
    page-there = omega (
      arith,
      extend_pos stock N have,
      object-slot P v' page-placed.sound e R' ∙ ap (λ (x : ℕ). slot v' x j) index_same ∙ extend-slot stock N have,
    )

  module _ {v : Vol} (stock : Stock choose P v) (R : Reached P v e) (have : file_need v e ≤ unreserved v) where
    abbrev o : ℕ
    o = page (v 0) object_pointer

    abbrev i : ℕ
    i = entry_page e / 512

    -- both are there
    both : 0 < object_index v e → 0 < object_page v e → FilePlaced P v (file_place choose P v e) e
    unfolding file_place with_index with_object_page file_need
    both p q = subst (λ (w : Vol). FilePlaced P v w e) (sym is) (record {
      placed = placed-wider P v v NoWords (FilePlaceWords v e) 0 (file_need v e) (placed-none P v stock.sound) (omega arith) (λ p k h. absurd h);
      there = q;
    })
      where
        is : file_place choose P v e ≡ v
        is = ap (λ (w : Vol). with_object_page choose P w e) (pick_yes (object_index v e) v (extend choose P v o i) p) ∙ pick_yes (object_page v e) v (extend choose P v (object_index v e) (entry_page e % 512)) q

    -- the page is absent
    page-absent : 0 < object_index v e → object_page v e ≡ 0 → FilePlaced P v (file_place choose P v e) e
    unfolding file_place with_index with_object_page file_need
    page-absent p z = subst (λ (w : Vol). FilePlaced P v w e) (sym is) (record {
      placed = placed-wider P v (v' stock R p z (omega (arith, have))) (Either (SlotWords (object_index v e) (entry_page e % 512)) UnreservedWords) (FilePlaceWords v e) 1 (file_need v e)
          (page-placed stock R p z (omega (arith, have))) (omega arith) wide;
      there = page-there stock R p z (omega (arith, have));
    })
      where
        is : file_place choose P v e ≡ extend choose P v (object_index v e) (entry_page e % 512)
        is = ap (λ (w : Vol). with_object_page choose P w e) (pick_yes (object_index v e) v (extend choose P v o i) p) ∙ pick_no (object_page v e) v (extend choose P v (object_index v e) (entry_page e % 512)) z

        wide : (q k : ℕ) → Either (SlotWords (object_index v e) (entry_page e % 512)) UnreservedWords q k → Either (TakenWords P v (extend choose P v (object_index v e) (entry_page e % 512))) (FilePlaceWords v e) q k
        wide q k (inl h) = inr (inr (inr ((p, z), h)))
        wide q k (inr h) = inr (inl (omega arith, h))

    -- both are absent: the index block first
    module _ (z : object_index v e ≡ 0) where
      need : file_need v e ≡ 2
      unfolding file_need
      need = omega (arith, z, object-none P v stock.sound e R z)

      have₁ : 1 ≤ unreserved v
      have₁ = omega (arith, have, need)

      N₁ : Vacant P v o i
      N₁ = top-vacant P v stock.sound e R z

      abbrev w : Vol
      w = extend choose P v o i

      T₁ : Placed P v w (Either (SlotWords o i) UnreservedWords) 1
      T₁ = extend-placed stock N₁ have₁

      next : Stock choose P w
      next = record { choice = stock.choice; sound = T₁.sound; pos = stock.pos }

      two : flags (v 0) object_pointer ≡ 2
      two = go R.kind
        where
          go : Reaches v e → flags (v 0) object_pointer ≡ 2
          go (inl h) = absurd (let r : ⊥ = omega (arith, z, object-one P v stock.sound e R h.0, R.real) in r)
          go (inr h) = h.0

      mast : (k : ℕ) → k < unreserved_count → w 0 k ≡ v 0 k
      mast = extend-master stock N₁ have₁

      R₁ : Reached P w e
      R₁ = reached-kept P v w e (mast object_pointer (omega arith)) (mast (suc object_pointer) (omega arith)) R

      index₁ : object_index w e ≡ choose v
      index₁ = object-two P w T₁.sound e R₁ (flags-ext (w 0) (v 0) object_pointer (mast object_pointer (omega arith)) ∙ two)
          ∙ ap (λ (t : ℕ). slot w t i) (page-ext (w 0) (v 0) object_pointer (mast object_pointer (omega arith)) (mast (suc object_pointer) (omega arith))) ∙ extend-slot stock N₁ have₁

      p₁ : 0 < object_index w e
      p₁ = omega (arith, index₁, extend_pos stock N₁ have₁)

      z₁ : object_page w e ≡ 0
      z₁ = object-slot P w T₁.sound e R₁ ∙ ap (λ (x : ℕ). slot w x (entry_page e % 512)) index₁ ∙ extend-bare stock N₁ have₁ (entry_page e % 512)

      have₂ : 1 ≤ unreserved w
      have₂ = omega (arith, have, need, T₁.taking.paid)

      T₂ : Placed P w (extend choose P w (object_index w e) (entry_page e % 512)) (Either (SlotWords (object_index w e) (entry_page e % 512)) UnreservedWords) 1
      T₂ = page-placed next R₁ p₁ z₁ have₂

      is : file_place choose P v e ≡ extend choose P w (object_index w e) (entry_page e % 512)
      unfolding file_place with_index with_object_page
      is = ap (λ (w : Vol). with_object_page choose P w e) (pick_no (object_index v e) v w z) ∙ pick_no (object_page w e) w (extend choose P w (object_index w e) (entry_page e % 512)) z₁

      both-absent : FilePlaced P v (file_place choose P v e) e
      both-absent = subst (λ (w : Vol). FilePlaced P v w e) (sym is) (record {
        placed = placed-then P v w (extend choose P w (object_index w e) (entry_page e % 512)) (Either (SlotWords o i) UnreservedWords)
            (Either (SlotWords (object_index w e) (entry_page e % 512)) UnreservedWords) (FilePlaceWords v e) 1 1 (file_need v e) T₁ T₂ need wide;
        there = page-there next R₁ p₁ z₁ have₂;
      })
        where
          paid : 0 < file_need v e
          paid = omega (arith, need)

          wide : (q k : ℕ) → Either (Either (SlotWords o i) UnreservedWords) (Either (SlotWords (object_index w e) (entry_page e % 512)) UnreservedWords) q k
              → Either (TakenWords P v (extend choose P w (object_index w e) (entry_page e % 512))) (FilePlaceWords v e) q k
          wide q k (inl (inl h)) = inr (inr (inl (z, h)))
          wide q k (inl (inr h)) = inr (inl (paid, h))
          wide q k (inr (inl h)) =
              let t = extend-taken stock N₁ have₁ in
              inl (choose v, (t.0, t.1, omega (arith, t.2, T₂.taking.bits (choose v) t.0, bit_le P (extend choose P w (object_index w e) (entry_page e % 512)) (choose v))), inl (h.0 ∙ index₁))
          wide q k (inr (inr h)) = inr (inl (paid, h))

    pub file-placed : FilePlaced P v (file_place choose P v e) e
    file-placed = elim (eq-zero-or-pos (object_index v e)) [
      | inl z ↦ both-absent z
      | inr p ↦ elim (eq-zero-or-pos (object_page v e)) [ inl z ↦ page-absent p z | inr q ↦ both p q ]
    ]
