-- From the outcome of a call to that of the step that asks for it, with the parts as they were found. Assumes nothing.
--     part_out, part_in      a part that does not lie in its list, and one that does
--     none-numbered          no call has the number
use mathlib.Core.Path.{◌≡◌, sym, subst, ◌∙◌}
use mathlib.Core.Bool.{Bool, true, false}
use mathlib.Core.List.{List}
use mathlib.Core.Logic.{inl, inr}
use Prim.Native.Nat.{ℕ, ◌+◌}
use native.Mathlib.Omega.{arith}
use native.Mathlib.Nat.{add-sub_cancel_left}
use borrow.Author.Tests.{le-leb, lt-leb, ne_eqb}
use lib.Dec.{eqb, leb}
use lib.ListN.{length, get_or, take, drop}
use Rattle.std.proofs.Common.{Option, Some, None}
use Rattle.std.specs.Borrow.{Bor}
use Rattle.std.specs.Slice.{IsGetRangeResult}
use Rattle.book.specs.Answers.{Numbers}
use Rattle.book.specs.Outcome.{Call, Outcome}
use Rattle.book.specs.Run.{wrong_call, pick_call, part_call, name_call, names_call, data_call, numbered}
use Rattle.run.specs.Asked.{call_number}
use Rattle.run.specs.declared.call.Call.{Call as Asked}
use Rattle.run.specs.declared.call.Call.TheVariants.{Valued}
use Rattle.run.specs.declared.call.Valued.TheVariants.{Named, Typed, Check, Address, DeleteUser, Give, Take, Grow, Shrink, DeleteFile, ReadPage, WritePage, NoteOpen, ConvertToApostrophe, ConvertToZeros}
use Rattle.run.specs.declared.call.Named.TheVariants.{Format, FormatDefault, FindUser, CreateUser}
use Rattle.run.specs.declared.call.Typed.TheVariants.{FindFile, CreateIndexed, CreateContiguous}

module _ (img : List ℕ) (r : Numbers ℕ) (img' : List ℕ) where
  abbrev Is : Call ℕ → Type 0
  Is C = Outcome C img r img'

  pick : (b : Bool) (C D : Call ℕ) → b ≡ true → Is C → Is (pick_call b C D)
  pick b C D e o = subst (λ (x : Bool). Is (pick_call x C D)) (sym e) o

  skip : (b : Bool) (C D : Call ℕ) → b ≡ false → Is D → Is (pick_call b C D)
  skip b C D e o = subst (λ (x : Bool). Is (pick_call x C D)) (sym e) o

  -- ---- the n from a on, as they were found

  module _ (l : List ℕ) (a n : ℕ) (C : List ℕ → Call ℕ) where
    part_out : (o : Option (Bor (List ℕ))) → IsGetRangeResult l a (a + n) o → o ≡ None → Is (wrong_call img) → Is (part_call img a n l C)
    unfolding part_call
    part_out o t e w = elim ((subst (IsGetRangeResult l a (a + n)) e t).0) [
      | inl h ↦ absurd (let z : ⊥ = omega (arith, h) in z)
      | inr h ↦ skip (leb (a + n) (length l)) _ _ (lt-leb (a + n) (length l) h) w
    ]

    part_in : (o : Option (Bor (List ℕ))) → IsGetRangeResult l a (a + n) o → (p : Bor (List ℕ)) → o ≡ Some p → Is (C p.now) → Is (part_call img a n l C)
    unfolding part_call
    part_in o t p e w =
        let u = (subst (IsGetRangeResult l a (a + n)) e t).0 in
        let q : p.now ≡ take n (drop a l) = u.2 ∙ rw add-sub_cancel_left in
        pick (leb (a + n) (length l)) _ _ (le-leb (a + n) (length l) u.1) (subst (λ (d : List ℕ). Is (C d)) q w)

  -- ---- a name, a name and a type, a page's words

  module _ (s l : List ℕ) (o : Option (Bor (List ℕ))) where
    module _ (t : IsGetRangeResult l (get_or s 5 0) (get_or s 5 0 + get_or s 6 0) o) where
      pub name_out : (C : List ℕ → Call ℕ) → o ≡ None → Is (wrong_call img) → Is (name_call img s l C)
      unfolding name_call
      name_out C e w = part_out l _ _ C o t e w

      pub name_in : (C : List ℕ → Call ℕ) (p : Bor (List ℕ)) → o ≡ Some p → Is (C p.now) → Is (name_call img s l C)
      unfolding name_call
      name_in C p e w = part_in l _ _ C o t p e w

      pub names-out : (C : List ℕ → List ℕ → Call ℕ) → o ≡ None → Is (wrong_call img) → Is (names_call img s l C)
      unfolding names_call
      names-out C e w = name_out _ e w

      module _ (p : Bor (List ℕ)) (e : o ≡ Some p) (C : List ℕ → List ℕ → Call ℕ) (o' : Option (Bor (List ℕ))) (t' : IsGetRangeResult l (get_or s 7 0) (get_or s 7 0 + get_or s 8 0) o') where
        pub type-out : o' ≡ None → Is (wrong_call img) → Is (names_call img s l C)
        unfolding names_call
        type-out f w = name_in _ p e (part_out l _ _ (C p.now) o' t' f w)

        pub names_in : (p' : Bor (List ℕ)) → o' ≡ Some p' → Is (C p.now p'.now) → Is (names_call img s l C)
        unfolding names_call
        names_in p' f w = name_in _ p e (part_in l _ _ (C p.now) o' t' p' f w)

    module _ (t : IsGetRangeResult l (get_or s 9 0) (get_or s 9 0 + 1024) o) (C : List ℕ → Call ℕ) where
      pub data-out : o ≡ None → Is (wrong_call img) → Is (data_call img s l C)
      unfolding data_call
      data-out e w = part_out l _ _ C o t e w

      pub data-in : (p : Bor (List ℕ)) → o ≡ Some p → Is (C p.now) → Is (data_call img s l C)
      unfolding data_call
      data-in p e w = part_in l _ _ C o t p e w

  -- ---- no call has the number

  pub none-numbered : (s text words : List ℕ) (c u f n t : ℕ) → ((k : Asked) → c ≡ call_number k → ⊥) → Is (wrong_call img) → Is (numbered c u f n t img s text words)
  unfolding numbered
  none-numbered s text words c u f n t h o =
      skip (eqb c 1) _ _ (ne_eqb c 1 (h (Valued (Named Format))))
      (skip (eqb c 2) _ _ (ne_eqb c 2 (h (Valued Check)))
      (skip (eqb c 3) _ _ (ne_eqb c 3 (h (Valued (Named FindUser))))
      (skip (eqb c 4) _ _ (ne_eqb c 4 (h (Valued (Typed FindFile))))
      (skip (eqb c 5) _ _ (ne_eqb c 5 (h (Valued Address)))
      (skip (eqb c 7) _ _ (ne_eqb c 7 (h (Valued (Named CreateUser))))
      (skip (eqb c 8) _ _ (ne_eqb c 8 (h (Valued DeleteUser)))
      (skip (eqb c 9) _ _ (ne_eqb c 9 (h (Valued Give)))
      (skip (eqb c 10) _ _ (ne_eqb c 10 (h (Valued Take)))
      (skip (eqb c 11) _ _ (ne_eqb c 11 (h (Valued (Typed CreateIndexed))))
      (skip (eqb c 12) _ _ (ne_eqb c 12 (h (Valued (Typed CreateContiguous))))
      (skip (eqb c 13) _ _ (ne_eqb c 13 (h (Valued Grow)))
      (skip (eqb c 14) _ _ (ne_eqb c 14 (h (Valued Shrink)))
      (skip (eqb c 15) _ _ (ne_eqb c 15 (h (Valued DeleteFile)))
      (skip (eqb c 16) _ _ (ne_eqb c 16 (h (Valued ReadPage)))
      (skip (eqb c 17) _ _ (ne_eqb c 17 (h (Valued WritePage)))
      (skip (eqb c 18) _ _ (ne_eqb c 18 (h (Valued NoteOpen)))
      (skip (eqb c 19) _ _ (ne_eqb c 19 (h (Valued (Named FormatDefault))))
      (skip (eqb c 20) _ _ (ne_eqb c 20 (h (Valued ConvertToApostrophe)))
      (skip (eqb c 21) _ _ (ne_eqb c 21 (h (Valued ConvertToZeros))) o)))))))))))))))))))
