-- The salvage call: one outcome; done leaves a sound image and tells exactly its changes; on a sound image, as on a second run, it tells of none. Assumes nothing.
use Rattle.std.specs.Prelude.{◌≡◌, refl, ◌≢◌, ◌⊎◌, ◌↔◌, ℕ, ◌+◌, ◌*◌, ◌/◌, ◌%◌, ◌≤◌, ◌<◌, length, get_or, take}
use Rattle.std.proofs.Math.Path.{sym, ap₂, subst}
use Rattle.std.proofs.Common.{ap, ◌∙◌, subst₂}
use Rattle.std.proofs.Math.Logic.{inl, inr}
use mathlib.Core.List.{List, [], ◌++◌}
use Rattle.std.proofs.Math.Decide.{ℕ_discrete, dec_lt}
use native.Mathlib.Omega.{arith}
use Rattle.std.proofs.Math.ListN.{drop, get_or-eq_default}
use Rattle.std.proofs.Math.Seq.{take-append_seam, drop-append_seam}
use Rattle.book.specs.Answers.{Numbers}
use Rattle.book.specs.Calls.{salvaged, repairs, repaired, salvage_call, Listed, Salvaged}
use Rattle.book.specs.Coincide.{vol-ext}
use Rattle.book.proofs.Coincide.{one-outcome}
use Rattle.book.specs.Files.{file_at}
use Rattle.book.specs.Image.{pages, Sixteen, Whole}
use Rattle.book.specs.Outcome.{Outcome, Single, RefusedAs, DoneAs}
use Rattle.book.specs.Rows.{Lowest, Clear, Counted}
use Rattle.book.specs.Rules.{Sound, Pointed}
use Rattle.book.specs.Salvage.{Affords, mended}
use Rattle.book.specs.Trees.{page_at}
use Rattle.book.specs.Words.{Vol, vol, word}
use Rattle.book.specs.Written.{vol-in, vol-out}
use Rattle.book.specs.declared.Change.{Change}
use Rattle.laws.specs.Call.After.{whole_same, small-words}
use Rattle.laws.specs.Call.Done.{done, clear-done, number-lowest}
use Rattle.laws.specs.Frame.Places.{OnlyAt}
use Rattle.laws.specs.Salvage.Again.{sound-pointed, sound-affords, mended-again, sound-mended}
use Rattle.laws.specs.Salvage.Changes.{Lists, blank, changes-lists, changes-length, same_lists}
use Rattle.laws.specs.Salvage.Mended.{SameTrees, same-trees, trees-refl, Mendable, mended-only, mended-sound}
use Rattle.laws.specs.Salvage.Most.{changed-most}

-- ---- the image

-- what done says of it
pub record DoneSalvage (img : List ℕ) (r : Numbers ℕ) (img' : List ℕ) : Type 0 where
  pub whole : Whole img
  pub pointed : Pointed (pages img) (vol img)
  pub affords : Affords (pages img) (vol img)
  pub value : r.value ≡ repaired img
  pub image : vol img' ≡ salvaged img
  pub size : length img' ≡ length img

module _ (img : List ℕ) (room : ℕ) where
  pub single-salvage : Single (salvage_call img room)
  unfolding Single salvage_call
  single-salvage c x y a b = a ∙ sym b

  numbered : Counted (salvage_call img room).table
  unfolding salvage_call Counted
  numbered = (omega arith, (omega arith, (omega arith, (omega arith, tt))))

  module _ (r : Numbers ℕ) (img' : List ℕ) (o : Outcome (salvage_call img room) img r img') where
    abbrev P : ℕ
    P = pages img

    abbrev v : Vol
    v = vol img

    pub mends : r.number ≡ 0 → DoneSalvage img r img'
    unfolding Clear salvage_call
    mends z = let d : DoneAs (salvage_call img room) img r img' = done (salvage_call img room) img r img' numbered o z in let c = d.clear in
        record { whole = c.0; pointed = c.1.0; affords = c.1.1.0; value = d.value; image = d.image; size = d.size }

    -- whatever the image was: done leaves a sound one
    pub sound-salvage : r.number ≡ 0 → Sound (pages img') (vol img')
    sound-salvage z = let d = mends z in let n : pages img' ≡ P = ap (λ (m : ℕ). m / 1024) d.size in
        subst₂ (λ (m : ℕ) (x : Vol). Sound m x) (sym n) (sym d.image) (mended-sound P v d.pointed (omega (arith, d.whole.least)) d.affords)

    -- done or refused, what holds of the image and of its mended volume holds afterwards
    either : (Q : Vol → Type 0) → Q v → (0 < P → Pointed P v → Q (salvaged img)) → Q (vol img')
    unfolding Outcome
    either Q a b = go o
      where
        go : (RefusedAs (salvage_call img room) img r img' ⊎ DoneAs (salvage_call img room) img r img') → Q (vol img')
        go (inl x) = subst (λ (i : List ℕ). Q (vol i)) (sym x.image) a
        go (inr x) = let d = mends x.number in subst Q (sym d.image) (b (omega (arith, d.whole.least)) d.pointed)

    pub kept-salvage : Sound (pages img) (vol img) → Sound (pages img') (vol img')
    unfolding Outcome
    kept-salvage S = go o
      where
        go : (RefusedAs (salvage_call img room) img r img' ⊎ DoneAs (salvage_call img room) img r img') → Sound (pages img') (vol img')
        go (inl x) = subst (λ (i : List ℕ). Sound (pages i) (vol i)) (sym x.image) S
        go (inr x) = sound-salvage x.number

    -- no word changes but the words of bits below P, the used counts of used users, and unreserved
    pub frame-salvage : OnlyAt (Mendable P v) v (vol img')
    frame-salvage = either (OnlyAt (Mendable P v) v) (λ p k a. refl) (λ pos S. mended-only P v S pos)

    -- entries, files, holders and the pages they have stay, and so do all words of files' pages
    pub trees-salvage : SameTrees P v (vol img')
    trees-salvage = either (SameTrees P v) (trees-refl P v) (λ pos S. same-trees P v S pos)

    pub addresses-salvage : (e : ℕ) → e < 65536 → (m : ℕ) → page_at (vol img') (file_at (vol img') e) m ≡ page_at v (file_at v e) m
    addresses-salvage = trees-salvage.address

    pub contents-salvage : (e : ℕ) → e < 65536 → (m k : ℕ) → word (vol img') (page_at v (file_at v e) m) k ≡ word v (page_at v (file_at v e) m) k
    contents-salvage = trees-salvage.contents

    -- ---- the numbers: where 1 and 3 do not apply, 13 exactly if the volume does not afford what it holds, and 14, where it does, exactly if too few changes are lent

    module _ (W : Whole img) (S : Pointed P v) where
      pub overdrawn-salvage : (r.number ≡ 13) ↔ (Affords P v → ⊥)
      unfolding salvage_call Lowest
      overdrawn-salvage = ((λ q. asks ((number-lowest (salvage_call img room) img r img' o 13 (omega arith)).0 q)), λ n. (number-lowest (salvage_call img room) img r img' o 13 (omega arith)).1 (inr (W, inr (S, inl (refl, n)))))
        where
          asks : Lowest (salvage_call img room).table 13 → Affords P v → ⊥
          asks (inl e) A = omega (arith, e.0)
          asks (inr (w, inl e)) A = omega (arith, e.0)
          asks (inr (w, inr (s, inl e))) A = e.1 A
          asks (inr (w, inr (s, inr (a, inl e)))) A = omega (arith, e.0)
          asks (inr (w, inr (s, inr (a, inr e)))) A = e.1

      module _ (A : Affords P v) where
        pub short-salvage : (r.number ≡ 14) ↔ (room < repaired img)
        unfolding salvage_call Lowest
        short-salvage = ((λ q. asks ((number-lowest (salvage_call img room) img r img' o 14 (omega arith)).0 q)), λ n. (number-lowest (salvage_call img room) img r img' o 14 (omega arith)).1 (inr (W, inr (S, inr (A, inl (refl, λ l. omega (arith, l, n)))))))
          where
            asks : Lowest (salvage_call img room).table 14 → room < repaired img
            asks (inl e) = absurd (omega (arith, e.0))
            asks (inr (w, inl e)) = absurd (omega (arith, e.0))
            asks (inr (w, inr (s, inl e))) = absurd (omega (arith, e.0))
            asks (inr (w, inr (s, inr (a, inl e)))) = elim (dec_lt room (repaired img)) [ yes l ↦ l | no l ↦ absurd (e.1 (omega (arith, l))) ]
            asks (inr (w, inr (s, inr (a, inr e)))) = absurd e.1

        -- a list for unreserved, a word for each 16 pages, and two for each user is never too short
        pub enough-salvage : 2 + (P + 15) / 16 + 512 ≤ room → r.number ≡ 0
        unfolding salvage_call Clear
        enough-salvage h = (clear-done (salvage_call img room) img r img' (W, (S, (A, (omega (arith, h, changed-most P v S (omega (arith, W.least)) (1024 * P)), tt)))) o).number

-- ---- the list

-- two lists after one call coincide
pub one-listed : {A : Type 0} (told : List A) (n k m : ℕ) (list a b : List A) → k ≡ m → Listed told n k list a → Listed told n m list b → a ≡ b
one-listed told n k m list a b e x y = elim (ℕ_discrete k 0) [
  | yes z ↦ x.done z ∙ sym (y.done (sym e ∙ z))
  | no h ↦ x.refused h ∙ sym (y.refused (λ z. h (e ∙ z)))
]

-- two outcomes coincide, the list with them
pub one-salvage : (img : List ℕ) (list : List Change) (r s : Numbers ℕ) (a b : List ℕ) (l m : List Change) → Salvaged img list r a l → Salvaged img list s b m → (r ≡ s) × (a ≡ b) × (l ≡ m)
one-salvage img list r s a b l m x y =
    let o = one-outcome (salvage_call img (length list)) (single-salvage img (length list)) img r s a b x.outcome y.outcome in
    (o.0, o.1, one-listed (repairs img) (repaired img) r.number s.number list l m (ap (λ (n : Numbers ℕ). n.number) o.0) x.listed y.listed)

-- two images of one length differ in their own words alone
inside : (img img' : List ℕ) → length img' ≡ length img → Whole img → (p k : ℕ) → vol img p k ≢ vol img' p k → (p < pages img) × (k < 1024)
inside img img' s W p k ne = elim (dec_lt k 1024) [
  | no h ↦ absurd (ne (vol-out img p k (omega arith) ∙ sym (vol-out img' p k (omega arith))))
  | yes h ↦ elim (dec_lt p (pages img)) [
    | yes i ↦ (i, h)
    | no i ↦ absurd (ne (vol-in img p k h ∙ get_or-eq_default img 0 (omega (arith, W.even)) ∙ sym (vol-in img' p k h ∙ get_or-eq_default img' 0 (omega (arith, W.even, s)))))
  ]
]

module _ (img : List ℕ) (list : List Change) (r : Numbers ℕ) (img' : List ℕ) (list' : List Change) (o : Salvaged img list r img' list') where
  -- refused: neither image nor list changes
  pub refused-salvage : (r.number ≡ 0 → ⊥) → (img' ≡ img) × (list' ≡ list)
  unfolding Outcome
  refused-salvage n = (go o.outcome, o.listed.refused n)
    where
      go : (RefusedAs (salvage_call img (length list)) img r img' ⊎ DoneAs (salvage_call img (length list)) img r img') → img' ≡ img
      go (inl x) = x.image
      go (inr x) = absurd (n x.number)

  module _ (z : r.number ≡ 0) where
    D : DoneSalvage img r img'
    D = mends img (length list) r img' o.outcome z

    size : length (repairs img) ≡ r.value
    size = changes-length (vol img) (salvaged img) (1024 * pages img) ∙ sym D.value

    -- the first records are the words that differ, each once, ascending
    pub list-salvage : Lists (vol img) (vol img') (1024 * pages img) (take r.value list')
    list-salvage = subst₂ (λ (x : Vol) (l : List Change). Lists (vol img) x (1024 * pages img) l) (sym D.image) (sym first) (changes-lists (vol img) (salvaged img) (1024 * pages img))
      where
        first : take r.value list' ≡ repairs img
        first = ap₂ (λ (m : ℕ) (l : List Change). take m l) (sym size) (o.listed.done z) ∙ take-append_seam (repairs img) (drop (repaired img) list)

    -- every word of the two images that differs is among them
    pub told-salvage : (p k : ℕ) → vol img p k ≢ vol img' p k
        → (i : ℕ) × (i < length (take r.value list')) × (get_or (take r.value list') i blank ≡ record { page = p; word = k; old = vol img p k; new = vol img' p k })
    told-salvage p k ne =
        let h = inside img img' D.size D.whole p k ne in
        let j : ℕ = 1024 * p + k in
        let a : j / 1024 ≡ p = omega (arith, h.1) in
        let b : j % 1024 ≡ k = omega (arith, h.1) in
        let t = list-salvage.whole j (omega (arith, h.0, h.1)) (λ e. ne (sym (ap₂ (vol img) a b) ∙ e ∙ ap₂ (vol img') a b)) in
        (t.0, t.1, t.2 ∙ ap₂ {C = Change} (λ (x y : ℕ). record { page = x; word = y; old = vol img x y; new = vol img' x y }) a b)

    -- and the records past them stay
    pub others-salvage : drop r.value list' ≡ drop r.value list
    others-salvage = ap₂ (λ (m : ℕ) (l : List Change). drop m l) (sym size) (o.listed.done z) ∙ drop-append_seam (repairs img) (drop (repaired img) list) ∙ ap (λ (m : ℕ). drop m list) (sym D.value)

-- ---- nothing to mend

-- done: nothing is told, and nothing changes
abbrev pub Idle : List ℕ → List Change → Numbers ℕ → List ℕ → List Change → Type 0
Idle img list r img' list' = (r.number ≡ 0) × (r.value ≡ 0) × (img' ≡ img) × (list' ≡ list)

module _ (img : List ℕ) (W : Whole img) (S : Sound (pages img) (vol img)) (e : salvaged img ≡ vol img) where
  idle : (list : List Change) (r : Numbers ℕ) (img' : List ℕ) (list' : List Change) → Salvaged img list r img' list' → Idle img list r img' list'
  unfolding Clear salvage_call
  idle list r img' list' o = (
    d.number,
    d.value ∙ none.0,
    vol-ext img' img d.size (d.image ∙ e),
    o.listed.done d.number ∙ ap₂ (λ (l : List Change) (m : ℕ). l ++ drop m list) none.1 none.0,
  )
    where
      none : (repaired img ≡ 0) × (repairs img ≡ [])
      none = same_lists (vol img) (salvaged img) e (1024 * pages img)

      d : DoneAs (salvage_call img (length list)) img r img'
      d = clear-done (salvage_call img (length list)) img r img' (W, (sound-pointed _ _ S, (sound-affords _ _ S, (omega (arith, none.0), tt)))) o.outcome

-- after a salvage another one has nothing to do, with any list
pub salvage-again : (img : List ℕ) (room : ℕ) (r : Numbers ℕ) (img' : List ℕ) → Outcome (salvage_call img room) img r img' → r.number ≡ 0
    → (list : List Change) (s : Numbers ℕ) (img'' : List ℕ) (list'' : List Change) → Salvaged img' list s img'' list'' → Idle img' list s img'' list''
salvage-again img room r img' o z = idle img' (whole_same img img' D.size D.whole) (sound-salvage img room r img' o z) still
  where
    D : DoneSalvage img r img'
    D = mends img room r img' o z

    still : salvaged img' ≡ vol img'
    still = ap₂ (λ (n : ℕ) (x : Vol). mended n x) (ap (λ (n : ℕ). n / 1024) D.size) D.image
        ∙ mended-again (pages img) (vol img) D.pointed (omega (arith, D.whole.least)) D.affords ∙ sym D.image

-- nor has one on a sound image of 16-bit words
pub salvage-sound : (img : List ℕ) → Sixteen img → Whole img → Sound (pages img) (vol img)
    → (list : List Change) (r : Numbers ℕ) (img' : List ℕ) (list' : List Change) → Salvaged img list r img' list' → Idle img list r img' list'
salvage-sound img B W S = idle img W S (sound-mended (pages img) (vol img) S (omega (arith, W.least)) (small-words img B))
