-- System pages as the code takes them: the lowest free page, its links, the payment. Assumes nothing.
use mathlib.Core.Path.{◌≡◌, refl, sym, ap, ap₂, ◌∙◌}
use Prim.Native.Nat.{ℕ, ◌-◌, ◌*◌, ◌≤◌, ◌<◌, suc}
use native.Mathlib.Omega.{arith}
use Rattle.book.specs.Words.{Vol, put2}
use Rattle.book.specs.Written.{put2-page, put2-word}
use Rattle.book.specs.Pointers.{page, pointer, set_slot, bit_pointer, object_pointer, unreserved_count, user_pointer}
use Rattle.book.specs.Bits.{lowest_free}
use Rattle.book.specs.Entries.{unreserved}
use Rattle.book.specs.Rules.{Sound}
use Rattle.book.specs.Create.{pay, extend, started, raised}
use Rattle.laws.specs.Bits.Choose.{lowest-stock}
use Rattle.laws.specs.Bits.Claims.{claims, new_page, Claimed, claimed}
use Rattle.laws.specs.Count.Room.{system-room}
use Rattle.laws.specs.Frame.Still.{places-unreserved}
use Rattle.laws.specs.Tree.Slot.{two-ext}
use Rattle.bits.specs.File.{BitsAt}
use Rattle.bits.specs.Taken.{CanTake, Took}
use Rattle.bits.proofs.Places.{bits-kept}
use Rattle.bits.proofs.Taken.{can-take-on, took-on}

-- ---- writes that leave unreserved

unreserved-page : (v : Vol) (q j x : ℕ) → 0 < q → unreserved (put2 v q j x) ≡ unreserved v
unfolding unreserved
unreserved-page v q j x h = two-ext (put2 v q j x 0) (v 0) unreserved_count (put2-page v q j x 0 unreserved_count (omega arith)) (put2-page v q j x 0 (suc unreserved_count) (omega arith))

unreserved-below : (v : Vol) (q j x : ℕ) → suc j < unreserved_count → unreserved (put2 v q j x) ≡ unreserved v
unfolding unreserved
unreserved-below v q j x h = two-ext (put2 v q j x 0) (v 0) unreserved_count (put2-word v q j x 0 unreserved_count (omega arith) (omega arith)) (put2-word v q j x 0 (suc unreserved_count) (omega arith) (omega arith))

pay-is : (w : Vol) (s n : ℕ) → s ≡ unreserved w → put2 w 0 unreserved_count (s - n) ≡ pay w n
unfolding pay
pay-is w s n e = ap (λ (x : ℕ). put2 w 0 unreserved_count (x - n)) e

-- ---- pages taken one after the other, as many as are unreserved

module _ {P : ℕ} {v : Vol} (S : Sound P v) (pos : 0 < P) where
  -- the volume with i pages taken, and the page taken next
  abbrev w : ℕ → Vol
  w i = claims (lowest_free P) P v i

  abbrev new : ℕ → ℕ
  new i = new_page (lowest_free P) P v i

  taken : (i : ℕ) → i ≤ unreserved v → Claimed (lowest_free P) P v i
  taken i h = claimed (lowest-stock S pos) i (omega (arith, h, system-room P v S pos))

  unreserved-taken : (i : ℕ) → i ≤ unreserved v → unreserved (w i) ≡ unreserved v
  unreserved-taken i h = places-unreserved v (w i) (taken i h).still.places

  -- one more can be taken, of an image with i pages taken
  can-take : (i : ℕ) → i < unreserved v → (b : ℕ) → BitsAt P v b → (Q : ℕ) (x : Vol) → Q ≡ P → x ≡ w i → CanTake Q x b
  can-take i h b B Q x q e =
      let m : (k : ℕ) → w i 0 k ≡ v 0 k = (taken i (omega arith)).still.places.master in
      can-take-on P Q (w i) x q e b (bits-kept P v (w i) b (m bit_pointer) (m (suc bit_pointer)) B, ((taken (suc i) h).real i (omega arith)).1)

  took-first : (d : ℕ) (x : Vol) → Took P v d x → (d ≡ new 0) × (x ≡ w 1)
  unfolding claims
  took-first d x t = took-on P P v v refl refl d x t

  took-next : (i d Q : ℕ) (x y : Vol) → Q ≡ P → x ≡ w i → Took Q x d y → (d ≡ new i) × (y ≡ w (suc i))
  unfolding claims
  took-next i d Q x y q e t = took-on P Q (w i) x q e d y t

  -- ---- one page

  pub can-take₁ : 1 ≤ unreserved v → (b : ℕ) → BitsAt P v b → CanTake P v b
  unfolding claims
  can-take₁ h b B = can-take 0 h b B P v refl refl

  pub extend-is : 1 ≤ unreserved v → (X k : ℕ) → 0 < X → (v₁ v₂ z : Vol) (d s : ℕ) → Took P v d v₁ → s ≡ unreserved v
      → v₂ ≡ put2 v₁ X (2 * k) d → z ≡ put2 v₂ 0 unreserved_count (s - 1) → z ≡ extend (lowest_free P) P v X k
  unfolding extend set_slot claims
  extend-is h X k hx v₁ v₂ z d s t es e₂ e₃ =
      let a : (d ≡ new 0) × (v₁ ≡ w 1) = took-first d v₁ t in
      let y : Vol = put2 (w 1) X (2 * k) (new 0) in
      e₃ ∙ ap (λ (x : Vol). put2 x 0 unreserved_count (s - 1)) (e₂ ∙ ap₂ (λ (x : Vol) (c : ℕ). put2 x X (2 * k) c) a.1 a.0)
      ∙ pay-is y s 1 (es ∙ sym (unreserved-page (w 1) X (2 * k) (new 0) hx ∙ unreserved-taken 1 h))

  pub raise-is : 1 ≤ unreserved v → (v₁ v₂ v₃ z : Vol) (d s t p : ℕ) → Took P v d v₁ → s ≡ unreserved v → t ≡ page (v 0) object_pointer → p ≡ pointer 2 d
      → v₂ ≡ put2 v₁ d 0 t → v₃ ≡ put2 v₂ 0 object_pointer p → z ≡ put2 v₃ 0 unreserved_count (s - 1) → z ≡ raised (lowest_free P) P v
  unfolding raised set_slot claims
  raise-is h v₁ v₂ v₃ z d s t p tk es et ep e₂ e₃ e₄ =
      let T : ℕ = page (v 0) object_pointer in
      let a : (d ≡ new 0) × (v₁ ≡ w 1) = took-first d v₁ tk in
      let y₂ : Vol = put2 (w 1) (new 0) 0 T in
      let y₃ : Vol = put2 y₂ 0 object_pointer (pointer 2 (new 0)) in
      let a₂ : v₂ ≡ y₂ = e₂ ∙ ap (λ (x : Vol). put2 x d 0 t) a.1 ∙ ap₂ (λ (c r : ℕ). put2 (w 1) c 0 r) a.0 et in
      let a₃ : v₃ ≡ y₃ = e₃ ∙ ap₂ (λ (x : Vol) (c : ℕ). put2 x 0 object_pointer c) a₂ (ep ∙ ap (pointer 2) a.0) in
      e₄ ∙ ap (λ (x : Vol). put2 x 0 unreserved_count (s - 1)) a₃
      ∙ pay-is y₃ s 1 (es ∙ sym (unreserved-below y₂ 0 object_pointer (pointer 2 (new 0)) (omega arith) ∙ unreserved-page (w 1) (new 0) 0 T ((taken 1 h).real 0 (omega arith)).0 ∙ unreserved-taken 1 h))

  -- ---- three pages

  pub can-take₂ : 2 ≤ unreserved v → (b : ℕ) → BitsAt P v b → (i Q : ℕ) (w₁ : Vol) → Took P v i w₁ → Q ≡ P → CanTake Q w₁ b
  can-take₂ h b B i Q w₁ t e = can-take 1 h b B Q w₁ e (took-first i w₁ t).1

  module _ (i q Q : ℕ) (w₁ w₂ : Vol) (t₁ : Took P v i w₁) (eq : Q ≡ P) (t₂ : Took Q w₁ q w₂) where
    second : (q ≡ new 1) × (w₂ ≡ w 2)
    second = took-next 1 q Q w₁ w₂ eq (took-first i w₁ t₁).1 t₂

    pub can-take₃ : 3 ≤ unreserved v → (b : ℕ) → BitsAt P v b → (R : ℕ) → R ≡ P → CanTake R w₂ b
    can-take₃ h b B R er = can-take 2 h b B R w₂ er second.1

    pub start_is : 3 ≤ unreserved v → (o R : ℕ) (w₃ x₁ x₂ x₃ z : Vol) (s p r : ℕ) → R ≡ P → Took R w₂ o w₃ → s ≡ unreserved v → p ≡ pointer 1 i → r ≡ pointer 1 o
        → x₁ ≡ put2 w₃ 0 user_pointer p → x₂ ≡ put2 x₁ 0 object_pointer r → x₃ ≡ put2 x₂ i 0 q → z ≡ put2 x₃ 0 unreserved_count (s - 3) → z ≡ started (lowest_free P) P v
    unfolding started set_slot claims
    start_is h o R w₃ x₁ x₂ x₃ z s p r er t₃ es ep el f₁ f₂ f₃ f₄ =
        let a₁ : (i ≡ new 0) × (w₁ ≡ w 1) = took-first i w₁ t₁ in
        let a₃ : (o ≡ new 2) × (w₃ ≡ w 3) = took-next 2 o R w₂ w₃ er second.1 t₃ in
        let y₁ : Vol = put2 (w 3) 0 user_pointer (pointer 1 (new 0)) in
        let y₂ : Vol = put2 y₁ 0 object_pointer (pointer 1 (new 2)) in
        let y₃ : Vol = put2 y₂ (new 0) 0 (new 1) in
        let b₁ : x₁ ≡ y₁ = f₁ ∙ ap₂ (λ (x : Vol) (c : ℕ). put2 x 0 user_pointer c) a₃.1 (ep ∙ ap (pointer 1) a₁.0) in
        let b₂ : x₂ ≡ y₂ = f₂ ∙ ap₂ (λ (x : Vol) (c : ℕ). put2 x 0 object_pointer c) b₁ (el ∙ ap (pointer 1) a₃.0) in
        let b₃ : x₃ ≡ y₃ = f₃ ∙ ap (λ (x : Vol). put2 x i 0 q) b₂ ∙ ap₂ (λ (a c : ℕ). put2 y₂ a 0 c) a₁.0 second.0 in
        f₄ ∙ ap (λ (x : Vol). put2 x 0 unreserved_count (s - 3)) b₃
        ∙ pay-is y₃ s 3 (es ∙ sym (unreserved-page y₂ (new 0) 0 (new 1) ((taken 3 h).real 0 (omega arith)).0 ∙ unreserved-below y₁ 0 object_pointer (pointer 1 (new 2)) (omega arith)
        ∙ unreserved-below (w 3) 0 user_pointer (pointer 1 (new 0)) (omega arith) ∙ unreserved-taken 3 h))
