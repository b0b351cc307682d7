-- What the rules say of a file whose head is known. Assumes nothing.
use mathlib.Core.Path.{◌≡◌, sym, ap, ap₂, ◌∙◌, subst}
use mathlib.Core.Logic.{inl, inr}
use mathlib.Core.List.{List}
use Prim.Native.Nat.{ℕ, ◌+◌, ◌%◌, ◌≤◌, ◌<◌}
use native.Mathlib.Nat.{eq-zero-or-pos}
use native.Mathlib.Decide.{ℕ_discrete, dec_lt}
use native.Mathlib.Omega.{arith}
use Rattle.sums.specs.Search.{pick_yes, pick_no}
use Rattle.book.specs.Words.{Vol, vol}
use Rattle.book.specs.Pointers.{flags, page, slot}
use Rattle.book.specs.Trees.{root_at, root_by, weigh_r}
use Rattle.book.specs.Entries.{object, user, used, user_page, object_page, page_count, file_entry}
use Rattle.book.specs.Files.{file_at, Shape, FileShape, cost}
use Rattle.book.specs.Holders.{some}
use Rattle.book.specs.Image.{pages}
use Rattle.book.specs.Calls.{Grows}
use Rattle.book.specs.Grow.{index_of}
use Rattle.book.specs.Rules.{Rule7}
use Rattle.laws.specs.Count.Good.{good}
use Rattle.laws.specs.Count.Pages.{file-cost, run-cost}
use Rattle.laws.specs.Count.Room.{charged-lt, charged-owner, charged-file}
use Rattle.laws.specs.File.Finish.{is_o, is_u}
use Rattle.laws.specs.File.Owned.{Owned}
use Rattle.laws.specs.File.Kinds.{grows-kind, kind-low, kind-high}
use Rattle.laws.specs.Tree.Pointer.{file-used}
use Rattle.growth.specs.declared.entries.Head.{Head}
use Rattle.growth.specs.Head.{FileHead, held_by}
use Rattle.growth.proofs.Held.{held-le, held_more}
use Rattle.growth.proofs.Blocks.{top_in, index-lt, page-lt, index-pos, slot-one, slot-two}
use Rattle.tree.proofs.Ready.{ready-some}

module _ {img : List ℕ} {u f : ℕ} {h : Head} (a : FileHead img u f h) where
  abbrev P : ℕ
  P = pages img

  abbrev v : Vol
  v = vol img

  abbrev e : ℕ
  e = file_entry u f

  few : e < 65536
  few = omega (arith, a.user, a.file)

  pub file-shape : Shape P v h.pointer.flags h.pointer.page h.count
  unfolding Rule7 FileShape
  file-shape =
      subst (λ (x : ℕ). Shape P v x h.pointer.page h.count) (sym a.head.kind)
      (subst (λ (t : ℕ). Shape P v (flags (object v e) 30) t h.count) (sym a.head.top_at)
      (subst (λ (n : ℕ). Shape P v (flags (object v e) 30) (page (object v e) 30) n) (sym a.head.length) (a.ready.sound.r7 e few a.there).0))

  pub file-root : file_at v e ≡ root_by h.pointer.flags h.pointer.page h.count
  unfolding root_at
  file-root =
      file-used v e a.there ∙ ap₂ (λ (x t : ℕ). root_by x t (page_count (object v e))) (sym a.head.kind) (sym a.head.top_at)
      ∙ ap (root_by h.pointer.flags h.pointer.page) (sym a.head.length)

  -- the pages it holds
  pub file-held : weigh_r v (file_at v e) some ≡ held_by h.pointer.flags h.count
  unfolding held_by cost
  file-held = elim (ℕ_discrete h.pointer.flags 0) [
    | no q ↦ file-cost P v a.ready.sound e few a.there (λ r. q (a.head.kind ∙ r.0)) ∙ ap cost (sym a.head.length) ∙ sym (pick_yes h.pointer.flags (cost h.count) h.count (omega arith))
    | yes q ↦ elim (eq-zero-or-pos h.count) [
      | inl z ↦ file-cost P v a.ready.sound e few a.there (λ r. omega (arith, r.1, a.head.length, z)) ∙ ap cost (sym a.head.length ∙ z) ∙ omega (arith, pick_no h.pointer.flags (cost h.count) h.count q)
      | inr p ↦ run-cost P v a.ready.sound e few a.there (sym a.head.kind ∙ q, omega (arith, p, a.head.length)) ∙ sym a.head.length ∙ sym (pick_no h.pointer.flags (cost h.count) h.count q)
    ]
  ]

  pub file-owner : 0 < used (user v u)
  file-owner = charged-owner P v a.ready.sound (ready-some img a.ready) u a.user f a.file a.there

  -- its owner is charged with them, and they are pages of the volume
  pub file-charged : held_by h.pointer.flags h.count ≤ h.used
  file-charged = omega (arith, a.head.spent, file-held, charged-file P v a.ready.sound (ready-some img a.ready) u a.user f a.file a.there)

  pub file-used-lt : h.used < P
  file-used-lt = omega (arith, a.head.spent, charged-lt P v a.ready.sound (ready-some img a.ready) u a.user file-owner)

  pub file-count-lt : h.count < P
  file-count-lt = omega (arith, held-le h.pointer.flags h.count, file-charged, file-used-lt)

  owned : Owned P v (λ p. 0) u f
  owned = record {
    seat = record { good = good P v a.ready.sound; pos = ready-some img a.ready; ha = a.user; hf = a.file };
    big = omega (arith, a.ready.whole.most);
    uf = a.there;
  }

  -- the pages of the two entries are there
  pub file-entry-pos : 0 < h.entry
  unfolding object_page
  file-entry-pos = omega (arith, a.head.entry_at, is_o owned)

  pub file-owner-pos : 0 < h.owner
  unfolding user_page
  file-owner-pos = omega (arith, a.head.owner_at, is_u owned)

  -- its entries can be written, with m pages, flags x, page t and y used pages
  pub can-enter : (Q m x t y : ℕ) → Q ≡ P → m < 2097152 → x < 4 → t < P → y < P + 4
      → (u < 256) × (f < 256) × (h.owner < Q) × (h.entry < Q) × (m < 2097152) × (x < 4) × (t < 1073741824) × (y < 4294967296)
  can-enter Q m x t y q i j k l = (
    a.user,
    a.file,
    omega (arith, a.head.owner_in),
    omega (arith, a.head.entry_in),
    i,
    j,
    omega (arith, a.ready.whole.most),
    omega (arith, a.ready.whole.most),
  )

  -- a file that is no run
  module _ (k : Grows v e) where
    pub run_none : h.pointer.flags ≡ 0 → h.count ≡ 0
    run_none z = a.head.length ∙ grows-kind (flags (object v e) 30) (page_count (object v e)) k (sym a.head.kind ∙ z)

    pub flags-low : 0 < h.count → h.count ≤ 512 → h.pointer.flags ≡ 1
    flags-low i j = kind-low P v h.pointer.page h.count h.pointer.flags file-shape run_none i j

    pub flags-high : 512 < h.count → h.pointer.flags ≡ 2
    flags-high i = kind-high P v h.pointer.page h.count h.pointer.flags file-shape run_none i

    -- one with a page
    module _ (some : 0 < h.count) where
      pub flags-in : (0 < h.pointer.flags) × (h.pointer.flags < 4)
      flags-in = elim (dec_lt 512 h.count) [
        | yes j ↦ (omega (arith, flags-high j), omega (arith, flags-high j))
        | no j ↦ (omega (arith, flags-low some (omega arith)), omega (arith, flags-low some (omega arith)))
      ]

      pub file-top : (0 < h.pointer.page) × (h.pointer.page < P)
      file-top = top_in P v h.pointer.page h.count some h.pointer.flags file-shape run_none

      pub file-index-lt : (m : ℕ) → m < 262144 → index_of v h.pointer.flags h.pointer.page m < P
      file-index-lt m i = index-lt P v h.pointer.page h.count some m i h.pointer.flags file-shape run_none

      pub file-page-lt : (m : ℕ) → m < 262144 → slot v (index_of v h.pointer.flags h.pointer.page m) (m % 512) < P
      file-page-lt m i = page-lt P v h.pointer.page h.count some m i h.pointer.flags file-shape run_none

      pub file-index-pos : (m : ℕ) → m < h.count → 0 < index_of v h.pointer.flags h.pointer.page m
      file-index-pos m i = index-pos P v h.pointer.page h.count some m i h.pointer.flags file-shape run_none

      -- the pages that its pointers name
      pub file-one : h.count ≤ 512 → (k : ℕ) → k < 512 → slot v h.pointer.page k < P
      file-one i k l = slot-one P v h.pointer.flags h.pointer.page h.count file-shape (flags-low some i) k l

      pub file-two : 512 < h.count → (k j : ℕ) → k < 512 → j < 512 → (slot v h.pointer.page k < P) × (slot v (slot v h.pointer.page k) j < P)
      file-two i k j l m = slot-two P v h.pointer.flags h.pointer.page h.count file-shape (flags-high i) k j l m

      -- its owner is charged with its pages, and with a block at least
      pub file-paid : h.count < h.used
      file-paid = omega (arith, held_more h.pointer.flags h.count flags-in.0 some, file-charged)
