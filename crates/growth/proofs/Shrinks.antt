-- Shrinking as the code writes it: what was read, then the slot, the entries and the bits, one law for each phase. Assumes nothing.
use mathlib.Core.Path.{◌≡◌, refl, sym, ap, ap₂, ◌∙◌, subst}
use mathlib.Core.List.{List}
use Prim.Native.Nat.{ℕ, ◌-◌, ◌/◌, ◌%◌, ◌<◌}
use native.Mathlib.Omega.{arith}
use Rattle.book.specs.Words.{Vol, vol}
use Rattle.book.specs.Pointers.{flags, page, pointer, slot, set_slot}
use Rattle.book.specs.Bits.{mark}
use Rattle.book.specs.Entries.{object, user, user_page, object_page, used_pages, page_count, file_entry}
use Rattle.book.specs.Image.{pages}
use Rattle.book.specs.Grow.{Phase, finish, entered, index_of, first, onward, raise, block, phase_by}
use Rattle.book.specs.Shrink.{shrink_to, shrink}
use Rattle.bits.specs.File.{BitsAt}
use Rattle.bits.proofs.Places.{bits-mark}
use Rattle.growth.specs.declared.entries.Head.{Head}
use Rattle.growth.specs.Head.{Shrinking}
use Rattle.growth.proofs.Files.{file-owner-pos, file-entry-pos, file-top, file-index-lt, file-index-pos, file-page-lt, file-count-lt, file-one, file-two}
use Rattle.growth.proofs.Phases.{phase-onward, phase-first, phase-raise, phase-block}
use Rattle.growth.proofs.Places.{bits-slot, bits-finish}

-- page d was freed of v, which left w; b is where the bit file begins
abbrev pub Freed : ℕ → Vol → ℕ → Vol → Type 0
Freed b v d w = (N : ℕ) → BitsAt N v b → d < N → w ≡ mark N v d 0

-- no page
pointer_none : pointer 0 0 ≡ 0
unfolding pointer
pointer_none = refl

module _ {img : List ℕ} {u f : ℕ} {h : Head} (g : Shrinking img u f h) where
  abbrev P : ℕ
  P = pages img

  abbrev v : Vol
  v = vol img

  abbrev e : ℕ
  e = file_entry u f

  abbrev t : ℕ
  t = h.pointer.page

  abbrev last : ℕ
  last = h.count - 1

  -- ---- what the book reads is what the head says

  kept : h.pointer.flags ≡ flags (object v e) 30
  kept = g.at.head.kind

  pub some : 0 < h.count
  some = omega (arith, g.at.head.length, g.kind.1)

  bits : BitsAt P v h.bits
  bits = g.at.head.bits_at

  abbrev enters : Vol → ℕ → ℕ → ℕ → Vol
  enters w m ptr y = finish w h.owner h.entry u e m ptr y

  entered-is : (w : Vol) (m ptr y : ℕ) → entered u f v w m ptr y ≡ enters w m ptr y
  unfolding entered user_page object_page
  entered-is w m ptr y = ap₂ (λ (U O : ℕ). finish w U O u e m ptr y) (sym g.at.head.owner_at) (sym g.at.head.entry_at)

  used-is : used_pages (user v) u ≡ h.used
  used-is = sym g.at.head.spent

  top-is : page (object v e) 30 ≡ t
  top-is = sym g.at.head.top_at

  last-is : page_count (object v e) - 1 ≡ last
  last-is = ap (λ (m : ℕ). m - 1) (sym g.at.head.length)

  -- ---- bits stay in their place

  bits-entered : (w : Vol) (m ptr y : ℕ) → BitsAt P w h.bits → BitsAt P (enters w m ptr y) h.bits
  bits-entered w m ptr y B = bits-finish P w h.bits B h.owner h.entry u e m ptr y (file-owner-pos g.at) (file-entry-pos g.at)

  -- one page is freed, which code has as d
  one-freed : (w w' z : Vol) (d d' : ℕ) → w ≡ z → BitsAt P z h.bits → d ≡ d' → d' < P → Freed h.bits w d w' → (w' ≡ mark P z d' 0) × BitsAt P (mark P z d' 0) h.bits
  one-freed w w' z d d' i B j l F = (
    F P (subst (λ (x : Vol). BitsAt P x h.bits) (sym i) B) (omega arith) ∙ ap₂ (λ (x : Vol) (y : ℕ). mark P x y 0) i j,
    bits-mark P z h.bits d' 0 l B,
  )

  -- ---- the pages read are pages of the volume

  pub last-small : last < 262144
  last-small = omega (arith, file-count-lt g.at, g.at.ready.whole.most)

  pub back-lt : (i d : ℕ) → i ≡ index_of v h.pointer.flags t last → d ≡ slot v i (last % 512) → (i < P) × (d < P)
  back-lt i d ei ed = (
    omega (arith, file-index-lt g.at g.kind.0 some last last-small),
    omega (arith, file-page-lt g.at g.kind.0 some last last-small, ap (λ (j : ℕ). slot v j (last % 512)) ei),
  )

  pub empty-lt : h.count ≡ 1 → (d : ℕ) → d ≡ slot v t 0 → d < P
  empty-lt n d ed = omega (arith, file-one g.at g.kind.0 some (omega arith) 0 (omega arith))

  -- index block k and its first page
  pub block-lt : 512 < h.count → (k b d : ℕ) → k < 512 → b ≡ slot v t k → d ≡ slot v b 0 → (b < P) × (d < P)
  block-lt n k b d i eb ed =
      let lt = file-two g.at g.kind.0 some n k 0 i (omega arith) in (omega (arith, lt.0), omega (arith, lt.1, ap (λ (j : ℕ). slot v j 0) eb))

  pub top_lt : t < P
  top_lt = (file-top g.at g.kind.0 some).1

  -- ---- the phases

  pub back_is : (i d : ℕ) (w₁ w₂ w₃ : Vol) → i ≡ index_of v h.pointer.flags t last → d ≡ slot v i (last % 512) → w₁ ≡ set_slot v i (last % 512) 0
      → w₂ ≡ enters w₁ last (pointer h.pointer.flags t) (h.used - 1) → Freed h.bits w₂ d w₃ → w₃ ≡ shrink_to P v u f onward
  unfolding shrink_to
  back_is i d w₁ w₂ w₃ ei ed e₁ e₂ F =
      (one-freed w₂ w₃ z d (slot v I (last % 512)) (e₂ ∙ ap (λ (x : Vol). enters x last (pointer h.pointer.flags t) (h.used - 1)) (e₁ ∙ ap (λ (j : ℕ). set_slot v j (last % 512) 0) ei))
      (bits-entered _ _ _ _ (bits-slot P v h.bits bits I (last % 512) 0 (file-index-pos g.at g.kind.0 some last (omega (arith, some)))))
      (ed ∙ ap (λ (j : ℕ). slot v j (last % 512)) ei) (file-page-lt g.at g.kind.0 some last last-small) F).0
      ∙ sym (ap₂ (λ (x : Vol) (y : ℕ). mark P x y 0) (entered-is _ _ _ _) refl
      ∙ ap₂ (λ (x y : ℕ). F' x y (page_count (object v e) - 1) (used_pages (user v) u)) (sym kept) top-is ∙ ap₂ (F' h.pointer.flags t) last-is used-is)
    where
      I : ℕ
      I = index_of v h.pointer.flags t last

      z : Vol
      z = enters (set_slot v I (last % 512) 0) last (pointer h.pointer.flags t) (h.used - 1)

      F' : ℕ → ℕ → ℕ → ℕ → Vol
      F' x y m k = mark P (enters (set_slot v (index_of v x y m) (m % 512) 0) m (pointer x y) (k - 1)) (slot v (index_of v x y m) (m % 512)) 0

  pub empty-is : h.count ≡ 1 → (d : ℕ) (w₁ w₂ w₃ : Vol) → d ≡ slot v t 0 → w₁ ≡ enters v 0 (pointer 0 0) (h.used - 2) → Freed h.bits w₁ d w₂ → Freed h.bits w₂ t w₃ → w₃ ≡ shrink_to P v u f first
  unfolding shrink_to
  empty-is c1 d w₁ w₂ w₃ ed e₁ F₁ F₂ =
      let one = one-freed w₁ w₂ (enters v 0 0 (h.used - 2)) d (slot v t 0) (e₁ ∙ ap (λ (p : ℕ). enters v 0 p (h.used - 2)) pointer_none) (bits-entered v 0 0 _ bits) ed
      (file-one g.at g.kind.0 some (omega arith) 0 (omega arith)) F₁ in
      (one-freed w₂ w₃ _ t t one.0 one.1 refl (file-top g.at g.kind.0 some).1 F₂).0
      ∙ sym (ap (λ (x : Vol). mark P (mark P x (slot v (page (object v e) 30) 0) 0) (page (object v e) 30) 0) (entered-is v 0 0 _) ∙ ap₂ F' top-is used-is)
    where
      F' : ℕ → ℕ → Vol
      F' y k = mark P (mark P (enters v 0 0 (k - 2)) (slot v y 0) 0) y 0

  pub lower-is : h.count ≡ 513 → (l b d : ℕ) (w₁ w₂ w₃ w₄ : Vol) → l ≡ slot v t 0 → b ≡ slot v t 1 → d ≡ slot v b 0 → w₁ ≡ enters v 512 (pointer 1 l) (h.used - 3)
      → Freed h.bits w₁ d w₂ → Freed h.bits w₂ b w₃ → Freed h.bits w₃ t w₄ → w₄ ≡ shrink_to P v u f raise
  unfolding shrink_to
  lower-is c1 l b d w₁ w₂ w₃ w₄ el eb ed e₁ F₁ F₂ F₃ =
      let lt = file-two g.at g.kind.0 some (omega arith) 1 0 (omega arith) (omega arith) in
      let one = one-freed w₁ w₂ (enters v 512 (pointer 1 (slot v t 0)) (h.used - 3)) d (slot v (slot v t 1) 0) (e₁ ∙ ap (λ (p : ℕ). enters v 512 (pointer 1 p) (h.used - 3)) el) (bits-entered v _ _ _ bits) (ed ∙ ap (λ (x : ℕ). slot v x 0) eb) lt.1 F₁ in
      let two = one-freed w₂ w₃ _ b (slot v t 1) one.0 one.1 eb lt.0 F₂ in
      (one-freed w₃ w₄ _ t t two.0 two.1 refl (file-top g.at g.kind.0 some).1 F₃).0
      ∙ sym (ap (F'' (page (object v e) 30)) (entered-is v 512 _ _) ∙ ap₂ F' top-is used-is)
    where
      F'' : ℕ → Vol → Vol
      F'' y x = mark P (mark P (mark P x (slot v (slot v y 1) 0) 0) (slot v y 1) 0) y 0

      F' : ℕ → ℕ → Vol
      F' y k = F'' y (enters v 512 (pointer 1 (slot v y 0)) (k - 3))

  pub block-is : last % 512 ≡ 0 → 513 < h.count → (b d : ℕ) (w₁ w₂ w₃ w₄ : Vol) → b ≡ slot v t (last / 512) → d ≡ slot v b 0 → w₁ ≡ set_slot v t (last / 512) 0
      → w₂ ≡ enters w₁ last (pointer 2 t) (h.used - 2) → Freed h.bits w₂ d w₃ → Freed h.bits w₃ b w₄ → w₄ ≡ shrink_to P v u f block
  unfolding shrink_to
  block-is z i b d w₁ w₂ w₃ w₄ eb ed e₁ e₂ F₁ F₂ =
      let lt = file-two g.at g.kind.0 some (omega arith) (last / 512) 0 (omega (arith, file-count-lt g.at, g.at.ready.whole.most)) (omega arith) in
      let one = one-freed w₂ w₃ (enters (set_slot v t (last / 512) 0) last (pointer 2 t) (h.used - 2)) d (slot v (slot v t (last / 512)) 0)
      (e₂ ∙ ap (λ (x : Vol). enters x last (pointer 2 t) (h.used - 2)) e₁) (bits-entered _ _ _ _ (bits-slot P v h.bits bits t (last / 512) 0 (file-top g.at g.kind.0 some).0))
      (ed ∙ ap (λ (x : ℕ). slot v x 0) eb) lt.1 F₁ in
      (one-freed w₃ w₄ _ b (slot v t (last / 512)) one.0 one.1 eb lt.0 F₂).0
      ∙ sym (ap (F'' (page (object v e) 30) (page_count (object v e) - 1)) (entered-is _ _ _ _) ∙ ap₂ (λ (m k : ℕ). F' (page (object v e) 30) m k) last-is used-is ∙ ap (λ (y : ℕ). F' y last h.used) top-is)
    where
      F'' : ℕ → ℕ → Vol → Vol
      F'' y m x = mark P (mark P x (slot v (slot v y (m / 512)) 0) 0) (slot v y (m / 512)) 0

      F' : ℕ → ℕ → ℕ → Vol
      F' y m k = F'' y m (enters (set_slot v y (m / 512) 0) m (pointer 2 y) (k - 2))

  -- ---- by the last position

  by-phase : (w : Vol) (p : Phase) → phase_by (last % 512) (last / 512) ≡ p → w ≡ shrink_to P v u f p → w ≡ shrink P v u f
  unfolding shrink
  by-phase w p i a = a ∙ ap (shrink_to P v u f) (sym i ∙ ap (λ (m : ℕ). phase_by (m % 512) (m / 512)) (sym last-is))

  pub shrink-back : (w : Vol) → 0 < last % 512 → w ≡ shrink_to P v u f onward → w ≡ shrink P v u f
  shrink-back w i a = by-phase w _ (phase-onward (last % 512) (last / 512) i) a

  pub shrink-empty : (w : Vol) → last ≡ 0 → w ≡ shrink_to P v u f first → w ≡ shrink P v u f
  shrink-empty w i a = by-phase w _ (ap (λ (m : ℕ). phase_by (m % 512) (m / 512)) i ∙ phase-first) a

  pub shrink-lower : (w : Vol) → last ≡ 512 → w ≡ shrink_to P v u f raise → w ≡ shrink P v u f
  shrink-lower w i a = by-phase w _ (ap (λ (m : ℕ). phase_by (m % 512) (m / 512)) i ∙ phase-raise) a

  pub shrink-block : (w : Vol) → last % 512 ≡ 0 → 512 < last → w ≡ shrink_to P v u f block → w ≡ shrink P v u f
  shrink-block w z i a = by-phase w _ (phase-block (last % 512) (last / 512) z (omega arith)) a
