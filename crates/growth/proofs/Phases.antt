-- Growing as the code writes it: the pages taken, then the slots, then the entries, one law for each phase. Assumes nothing.
use mathlib.Core.Path.{◌≡◌, refl, sym, ap, ap₂, ◌∙◌}
use mathlib.Core.List.{List}
use Prim.Native.Nat.{ℕ, zero, suc, ◌+◌, ◌/◌, ◌%◌, ◌≤◌, ◌<◌}
use native.Mathlib.Numerals.{add-one}
use native.Mathlib.Nat.{not-suc-le-zero}
use native.Mathlib.Omega.{arith}
use Rattle.book.specs.Words.{Vol, vol}
use Rattle.book.specs.Pointers.{flags, page, pointer, set_slot, bit_pointer}
use Rattle.book.specs.Trees.{Root, weigh_r, root_by, weigh}
use Rattle.book.specs.Bits.{bit_page, lowest_free}
use Rattle.book.specs.Entries.{Table, object, user, user_page, object_page, used_pages, page_count, file_entry}
use Rattle.book.specs.Files.{Shape, need}
use Rattle.book.specs.Holders.{hit}
use Rattle.book.specs.Image.{pages, IndexArg}
use Rattle.book.specs.Calls.{HasFile}
use Rattle.book.specs.Grow.{Phase, finish, entered, index_of, taken₁, taken₂, taken₃, grow_to, grow, first, onward, raise, block, phase_by}
use Rattle.laws.specs.Bits.Choose.{lowest-stock}
use Rattle.laws.specs.Bits.Claim.{FreePage, claim-agree, claim-roots, claim-none, claim-quiet}
use Rattle.laws.specs.Bits.Claims.{claims, Claimed, claimed}
use Rattle.laws.specs.Count.Good.{good}
use Rattle.laws.specs.Frame.Rest.{q-file}
use Rattle.laws.specs.Frame.Still.{Still}
use Rattle.laws.specs.Grow.Space.{Finds, space-room, space-data, space-index, space-subindex}
use Rattle.laws.specs.Tree.Levels.{need-block, need-raise}
use Rattle.laws.specs.Tree.Slot.{Agree, slot_same}
use Rattle.bits.specs.File.{BitsAt}
use Rattle.bits.specs.Taken.{CanTake, Took}
use Rattle.bits.proofs.Taken.{can-take-on, took-on}
use Rattle.bits.proofs.Places.{bits-kept}
use Rattle.growth.specs.declared.entries.Head.{Head}
use Rattle.growth.specs.Head.{Growing}
use Rattle.growth.proofs.Files.{file-shape, file-root, file-owner}

-- ---- which phase a number of pages is in

pub phase-onward : (m q : ℕ) → 0 < m → phase_by m q ≡ onward
unfolding phase_by
phase-onward zero q h = absurd (not-suc-le-zero h)
phase-onward (suc m) q h = refl

pub phase-first : phase_by 0 0 ≡ first
unfolding phase_by
phase-first = refl

pub phase-raise : phase_by 0 1 ≡ raise
unfolding phase_by
phase-raise = refl

pub phase-block : (m q : ℕ) → m ≡ 0 → 1 < q → phase_by m q ≡ block
unfolding phase_by
phase-block m zero z h = absurd (not-suc-le-zero h)
phase-block m (suc zero) z h = absurd (let r : ⊥ = omega arith in r)
phase-block m (suc (suc q)) z h = ap (λ (x : ℕ). phase_by x (suc (suc q))) z

module _ {img : List ℕ} {u f : ℕ} {h : Head} (g : Growing img u f h) where
  abbrev P : ℕ
  P = pages img

  abbrev v : Vol
  v = vol img

  abbrev e : ℕ
  e = file_entry u f

  abbrev n : ℕ
  n = page_count (object v e)

  args : IndexArg u × IndexArg f
  args = (omega (arith, g.at.user), omega (arith, g.at.file))

  has : HasFile v u f
  has = (file-owner g.at, g.at.there)

  -- ---- the volumes on the way

  abbrev v₁ : Vol
  v₁ = taken₁ (lowest_free P) P v u f

  abbrev v₂ : Vol
  v₂ = taken₂ (lowest_free P) P v u f

  abbrev v₃ : Vol
  v₃ = taken₃ (lowest_free P) P v u f

  d_ok : Finds P v
  d_ok = space-data img u f g.at.ready.whole args g.at.ready.sound has g.kind g.room

  -- the data page
  abbrev d : ℕ
  d = lowest_free P v

  data-free : FreePage P v (λ p. 0) d
  data-free = record { good = good P v g.at.ready.sound; below = d_ok.0; clear = d_ok.1 }

  -- the index block
  abbrev b : ℕ
  b = lowest_free P v₁

  -- the subindex block
  abbrev s : ℕ
  s = lowest_free P v₂

  -- as many pages are taken as are needed
  taken : (i : ℕ) → i ≤ need n → Claimed (lowest_free P) P v i
  taken i m = claimed (lowest-stock g.at.ready.sound (let pos : 0 < P = omega (arith, g.at.ready.whole.least) in pos)) i (omega (arith, m, space-room img u f g.at.ready.whole args g.at.ready.sound has g.kind g.room))

  still₁ : Still P v v₁
  unfolding claims need
  still₁ = (taken 1 (omega arith)).still

  still₂ : 2 ≤ need n → Still P v v₂
  unfolding claims
  still₂ more = (taken 2 more).still

  still₃ : 3 ≤ need n → Still P v v₃
  unfolding claims
  still₃ most = (taken 3 most).still

  bits : (w : Vol) → Still P v w → BitsAt P w h.bits
  bits w T = bits-kept P v w h.bits (T.places.master bit_pointer) (T.places.master (suc bit_pointer)) g.at.head.bits_at

  -- ---- what code took is what the book takes

  took₁ : (d' : ℕ) (w : Vol) → Took P v d' w → w ≡ v₁
  took₁ d' w t = (took-on P P v v refl refl d' w t).1

  took₂ : (d' b' Q : ℕ) (w w' : Vol) → Took P v d' w → Q ≡ P → Took Q w b' w' → (b' ≡ b) × (w' ≡ v₂)
  took₂ d' b' Q w w' t q t' = took-on P Q v₁ w q (took₁ d' w t) b' w' t'

  took₃ : (d' b' s' Q R : ℕ) (w w' w'' : Vol) → Took P v d' w → Q ≡ P → Took Q w b' w' → R ≡ P → Took R w' s' w'' → (s' ≡ s) × (w'' ≡ v₃)
  took₃ d' b' s' Q R w w' w'' t q t' r t'' = took-on P R v₂ w' r (took₂ d' b' Q w w' t q t').1 s' w'' t''

  pub can-take₁ : CanTake P v h.bits
  can-take₁ = (g.at.head.bits_at, d_ok.0)

  pub can-take₂ : 2 ≤ need n → (d' Q : ℕ) (w : Vol) → Took P v d' w → Q ≡ P → CanTake Q w h.bits
  can-take₂ more d' Q w t q = can-take-on P Q v₁ w q (took₁ d' w t) h.bits (bits v₁ still₁, (space-index img u f g.at.ready.whole args g.at.ready.sound has g.kind g.room more).0)

  pub can-take₃ : 3 ≤ need n → (d' b' Q R : ℕ) (w w' : Vol) → Took P v d' w → Q ≡ P → Took Q w b' w' → R ≡ P → CanTake R w' h.bits
  can-take₃ most d' b' Q R w w' t q t' r = can-take-on P R v₂ w' r (took₂ d' b' Q w w' t q t').1 h.bits
      (bits v₂ (still₂ (omega arith)), (space-subindex img u f g.at.ready.whole args g.at.ready.sound has g.kind g.room most).0)

  -- ---- what the claims leave

  count-is : h.count ≡ n
  count-is = g.at.head.length

  module _ (w : Vol) (T : Still P v w) where
    flags-is : flags (object w e) 30 ≡ h.pointer.flags
    flags-is = ap (λ (O : Table). flags (O e) 30) T.objects ∙ sym g.at.head.kind

    top-is : page (object w e) 30 ≡ h.pointer.page
    top-is = ap (λ (O : Table). page (O e) 30) T.objects ∙ sym g.at.head.top_at

    pages-is : page_count (object w e) ≡ h.count
    pages-is = ap (λ (O : Table). page_count (O e)) T.objects ∙ sym count-is

    used-is : used_pages (user w) u ≡ h.used
    used-is = ap (λ (U : Table). used_pages U u) T.users ∙ sym g.at.head.spent

    entered-is : (w' : Vol) (m ptr k : ℕ) → entered u f w w' m ptr k ≡ finish w' h.owner h.entry u e m ptr k
    unfolding entered user_page object_page
    entered-is w' m ptr k = ap₂ (λ (U O : ℕ). finish w' U O u e m ptr k) (T.places.of_user u ∙ sym g.at.head.owner_at) (T.places.of_object e ∙ sym g.at.head.entry_at)

  -- the file's blocks are neither the page taken nor its bit's page
  abbrev C : ℕ → ℕ
  C q = hit (bit_page P v d) q + hit d q

  quiet : weigh_r v (root_by h.pointer.flags h.pointer.page h.count) C ≡ 0
  quiet = ap (λ (r : Root). weigh_r v r C) (sym (file-root g.at))
      ∙ q-file v v₁ (claim-roots data-free) C (claim-none data-free) (claim-agree data-free) (claim-quiet data-free) u f g.at.user g.at.file

  index_kept : (m : ℕ) → index_of v₁ h.pointer.flags h.pointer.page m ≡ index_of v h.pointer.flags h.pointer.page m
  unfolding index_of root_by weigh_r weigh Agree Shape
  index_kept m = go h.pointer.flags quiet (file-shape g.at)
    where
      go : (x : ℕ) → weigh_r v (root_by x h.pointer.page h.count) C ≡ 0 → Shape P v x h.pointer.page h.count → index_of v₁ x h.pointer.page m ≡ index_of v x h.pointer.page m
      go zero q s = refl
      go (suc zero) q s = refl
      go (suc (suc zero)) q s = slot_same v v₁ h.pointer.page (claim-agree data-free h.pointer.page (omega (arith, q))) (m / 512)
      go (suc (suc (suc x))) q s = absurd s

  -- ---- the phases

  pub need-first : h.count ≡ 0 → 2 ≤ need n
  need-first z = omega (arith, need-block n (omega (arith, count-is)) (omega (arith, count-is)))

  pub need-more : h.count % 512 ≡ 0 → 512 < h.count → 2 ≤ need n
  need-more z i = omega (arith, need-block n (ap (λ (m : ℕ). m % 512) (sym count-is) ∙ z) (omega (arith, count-is)))

  pub need-top : h.count ≡ 512 → 3 ≤ need n
  need-top z = omega (arith, need-raise n (sym count-is ∙ z))

  -- the answer: the first page taken, and the volume of the phase
  abbrev Grown : Phase → ℕ → Vol → Type 0
  Grown p r w = (r ≡ lowest_free P v) × (r < P) × (w ≡ grow_to (lowest_free P) P v u f p)

  module _ (d' : ℕ) (w₁ : Vol) (t₁ : Took P v d' w₁) where
    pub onward-is : (i : ℕ) (w₂ w₃ : Vol) → i ≡ index_of v h.pointer.flags h.pointer.page h.count → w₂ ≡ set_slot w₁ i (h.count % 512) d'
        → w₃ ≡ finish w₂ h.owner h.entry u e (h.count + 1) (pointer h.pointer.flags h.pointer.page) (h.used + 1) → Grown onward d' w₃
    unfolding grow_to
    onward-is i w₂ w₃ ei e₂ e₃ = (
      t₁.0,
      t₁.1,
      e₃ ∙ ap (λ (x : Vol). finish x h.owner h.entry u e (h.count + 1) (pointer h.pointer.flags h.pointer.page) (h.used + 1)) slots
          ∙ ap (λ (k : ℕ). finish (set_slot v₁ (index_of v₁ h.pointer.flags h.pointer.page h.count) (h.count % 512) d) h.owner h.entry u e k (pointer h.pointer.flags h.pointer.page) (h.used + 1)) (add-one h.count)
          ∙ sym (entered-is v₁ still₁ _ _ _ _ ∙ ap₂ (λ (x t : ℕ). F x t (page_count (object v₁ e)) (used_pages (user v₁) u)) (flags-is v₁ still₁) (top-is v₁ still₁)
          ∙ ap₂ (λ (m y : ℕ). F h.pointer.flags h.pointer.page m y) (pages-is v₁ still₁) (used-is v₁ still₁)),
    )
      where
        F : ℕ → ℕ → ℕ → ℕ → Vol
        F x t m y = finish (set_slot v₁ (index_of v₁ x t m) (m % 512) d) h.owner h.entry u e (suc m) (pointer x t) (y + 1)

        slots : w₂ ≡ set_slot v₁ (index_of v₁ h.pointer.flags h.pointer.page h.count) (h.count % 512) d
        slots = e₂ ∙ ap₂ (λ (x : Vol) (y : ℕ). set_slot x i (h.count % 512) y) (took₁ d' w₁ t₁) t₁.0 ∙ ap (λ (j : ℕ). set_slot v₁ j (h.count % 512) d) (ei ∙ sym (index_kept h.count))

    -- with an index block
    module _ (b' Q : ℕ) (w₂ : Vol) (q : Q ≡ P) (t₂ : Took Q w₁ b' w₂) where
      eb : b' ≡ b
      eb = (took₂ d' b' Q w₁ w₂ t₁ q t₂).0

      e₂ : w₂ ≡ v₂
      e₂ = (took₂ d' b' Q w₁ w₂ t₁ q t₂).1

      pub first-is : h.count ≡ 0 → (w₃ w₄ : Vol) → w₃ ≡ set_slot w₂ b' 0 d' → w₄ ≡ finish w₃ h.owner h.entry u e 1 (pointer 1 b') (h.used + 2) → Grown first d' w₄
      unfolding grow_to
      first-is z w₃ w₄ e₃ e₄ = (
        t₁.0,
        t₁.1,
        e₄
            ∙ ap (λ (x : Vol). finish x h.owner h.entry u e 1 (pointer 1 b') (h.used + 2)) (e₃ ∙ ap₂ (λ (x : Vol) (y : ℕ). set_slot x b' 0 y) e₂ t₁.0)
            ∙ ap (λ (y : ℕ). finish (set_slot v₂ y 0 d) h.owner h.entry u e 1 (pointer 1 y) (h.used + 2)) eb
            ∙ sym (entered-is v₂ T _ _ _ _ ∙ ap (λ (y : ℕ). finish (set_slot v₂ b 0 d) h.owner h.entry u e 1 (pointer 1 b) (y + 2)) (used-is v₂ T)),
      )
        where
          T : Still P v v₂
          T = still₂ (need-first z)

      pub block-is : h.count % 512 ≡ 0 → 512 < h.count → (w₃ w₄ w₅ : Vol) → w₃ ≡ set_slot w₂ h.pointer.page (h.count / 512) b' → w₄ ≡ set_slot w₃ b' 0 d'
          → w₅ ≡ finish w₄ h.owner h.entry u e (h.count + 1) (pointer 2 h.pointer.page) (h.used + 2) → Grown block d' w₅
      unfolding grow_to
      block-is z i w₃ w₄ w₅ e₃ e₄ e₅ = (
        t₁.0,
        t₁.1,
        e₅
            ∙ ap (λ (x : Vol). finish x h.owner h.entry u e (h.count + 1) (pointer 2 h.pointer.page) (h.used + 2)) slots
            ∙ ap (λ (k : ℕ). finish (set_slot (set_slot v₂ h.pointer.page (h.count / 512) b) b 0 d) h.owner h.entry u e k (pointer 2 h.pointer.page) (h.used + 2)) (add-one h.count)
            ∙ sym (entered-is v₂ T _ _ _ _ ∙ ap₂ (λ (m y : ℕ). F (page (object v₂ e) 30) m y) (pages-is v₂ T) (used-is v₂ T) ∙ ap (λ (t : ℕ). F t h.count h.used) (top-is v₂ T)),
      )
        where
          T : Still P v v₂
          T = still₂ (need-more z i)

          F : ℕ → ℕ → ℕ → Vol
          F t m y = finish (set_slot (set_slot v₂ t (m / 512) b) b 0 d) h.owner h.entry u e (suc m) (pointer 2 t) (y + 2)

          slots : w₄ ≡ set_slot (set_slot v₂ h.pointer.page (h.count / 512) b) b 0 d
          slots = e₄ ∙ ap₂ (λ (x : Vol) (y : ℕ). set_slot x b' 0 y) (e₃ ∙ ap (λ (x : Vol). set_slot x h.pointer.page (h.count / 512) b') e₂) t₁.0
              ∙ ap (λ (y : ℕ). set_slot (set_slot v₂ h.pointer.page (h.count / 512) y) y 0 d) eb

      -- and a subindex block
      module _ (s' R : ℕ) (w₃ : Vol) (r : R ≡ P) (t₃ : Took R w₂ s' w₃) where
        pub raise-is : h.count ≡ 512 → (w₄ w₅ w₆ w₇ : Vol) → w₄ ≡ set_slot w₃ s' 0 h.pointer.page → w₅ ≡ set_slot w₄ s' 1 b' → w₆ ≡ set_slot w₅ b' 0 d'
            → w₇ ≡ finish w₆ h.owner h.entry u e 513 (pointer 2 s') (h.used + 3) → Grown raise d' w₇
        unfolding grow_to
        raise-is z w₄ w₅ w₆ w₇ e₄ e₅ e₆ e₇ = (
          t₁.0,
          t₁.1,
          e₇
              ∙ ap (λ (x : Vol). finish x h.owner h.entry u e 513 (pointer 2 s') (h.used + 3)) slots
              ∙ ap (λ (y : ℕ). finish (F y h.pointer.page) h.owner h.entry u e 513 (pointer 2 y) (h.used + 3)) es
              ∙ sym (entered-is v₃ T _ _ _ _ ∙ ap₂ (λ (t y : ℕ). finish (F s t) h.owner h.entry u e 513 (pointer 2 s) (y + 3)) (top-is v₃ T) (used-is v₃ T)),
        )
          where
            T : Still P v v₃
            T = still₃ (need-top z)

            F : ℕ → ℕ → Vol
            F y t = set_slot (set_slot (set_slot v₃ y 0 t) y 1 b) b 0 d

            es : s' ≡ s
            es = (took₃ d' b' s' Q R w₁ w₂ w₃ t₁ q t₂ r t₃).0

            slots : w₆ ≡ F s' h.pointer.page
            slots = e₆
                ∙ ap₂ (λ (x : Vol) (y : ℕ). set_slot x b' 0 y) (e₅ ∙ ap (λ (x : Vol). set_slot x s' 1 b') (e₄ ∙ ap (λ (x : Vol). set_slot x s' 0 h.pointer.page) (took₃ d' b' s' Q R w₁ w₂ w₃ t₁ q t₂ r t₃).1)) t₁.0
                ∙ ap (λ (y : ℕ). set_slot (set_slot (set_slot v₃ s' 0 h.pointer.page) s' 1 y) y 0 d) eb

  -- ---- by the number of pages

  abbrev Grows' : ℕ → Vol → Type 0
  Grows' r w = (r ≡ lowest_free P v) × (r < P) × (w ≡ grow (lowest_free P) P v u f)

  by-phase : (r : ℕ) (w : Vol) (p : Phase) → phase_by (h.count % 512) (h.count / 512) ≡ p → Grown p r w → Grows' r w
  unfolding grow
  by-phase r w p i a = (a.0, a.1, a.2 ∙ ap (grow_to (lowest_free P) P v u f) (sym i ∙ ap (λ (m : ℕ). phase_by (m % 512) (m / 512)) count-is))

  pub grow-onward : (r : ℕ) (w : Vol) → 0 < h.count % 512 → Grown onward r w → Grows' r w
  grow-onward r w i a = by-phase r w _ (phase-onward (h.count % 512) (h.count / 512) i) a

  pub grow_first : (r : ℕ) (w : Vol) → h.count ≡ 0 → Grown first r w → Grows' r w
  grow_first r w i a = by-phase r w _ (ap (λ (m : ℕ). phase_by (m % 512) (m / 512)) i ∙ phase-first) a

  pub grow-raise : (r : ℕ) (w : Vol) → h.count ≡ 512 → Grown raise r w → Grows' r w
  grow-raise r w i a = by-phase r w _ (ap (λ (m : ℕ). phase_by (m % 512) (m / 512)) i ∙ phase-raise) a

  pub grow-block : (r : ℕ) (w : Vol) → h.count % 512 ≡ 0 → 512 < h.count → Grown block r w → Grows' r w
  grow-block r w z i a = by-phase r w _ (phase-block (h.count % 512) (h.count / 512) z (omega arith)) a
