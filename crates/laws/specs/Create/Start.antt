-- The first user ever: user index, user page and object index, taken in this order, linked and paid. Assumes nothing.
use Rattle.std.specs.Prelude.{◌≡◌, refl, ◌⊎◌, ℕ, suc, ◌+◌, ◌*◌, ◌≤◌, ◌<◌}
use Rattle.std.proofs.Math.Path.{sym, ap}
use Rattle.std.proofs.Common.{ap₂, ◌∙◌, subst, inl, inr, arith}
use Rattle.book.specs.Bits.{bit, claim}
use Rattle.book.specs.Create.{pay, started}
use Rattle.book.specs.Entries.{user_file, object_file, unreserved}
use Rattle.book.specs.Holders.{hit}
use Rattle.book.specs.Pointers.{slot, flags, page, pointer, set_slot, Zero, bit_pointer, object_pointer, unreserved_count, user_pointer, volume_name}
use Rattle.book.specs.Trees.{Root, tree, page_at, blocks_r, blocks}
use Rattle.book.specs.Words.{Vol, two, word, put2}
use Rattle.book.specs.Written.{word-ext, put2-page, put2-word}
use Rattle.laws.specs.Bits.Choose.{Stock}
use Rattle.laws.specs.Bits.Claims.{claims, new_page, Claimed, claimed, found, claims-taking}
use Rattle.laws.specs.Bits.Taking.{TakenWords, NoWords, Taking, taking-then, settled-taking}
use Rattle.laws.specs.Count.Good.{Good-ext, Good, sound, free, bit_le}
use Rattle.laws.specs.Count.Room.{system-room}
use Rattle.laws.specs.Count.Sums.{sum-3}
use Rattle.laws.specs.Create.First.{first-user}
use Rattle.laws.specs.Create.Join.{only-pay, pay-page, pay-below, pay-less, SlotWords, Joining, join-good, join_slot, join-taking}
use Rattle.laws.specs.Create.Placed.{Placed}
use Rattle.laws.specs.Create.Settled.{Settled, system-good}
use Rattle.laws.specs.Create.Vacant.{Vacant}
use Rattle.laws.specs.Frame.Places.{Places, WordsOf, UnreservedWords, Either, OnlyAt, only_then, only_wider, only-put2}
use Rattle.laws.specs.Frame.Renewed.{Master, master-words}
use Rattle.laws.specs.Frame.Roots.{zero-none}
use Rattle.laws.specs.Tree.Pointer.{root-1, pointer-flags, pointer-page, flags-ext, page-ext}
use Rattle.laws.specs.Tree.Slot.{set_slot-page, hit-sym, slot-bare, two-ext, hit_same, some-pos, slot_same, put2-same}

module _ {choose : Vol → ℕ} {P : ℕ} {v : Vol} (stock : Stock choose P v) (big : P ≤ 1073741824)
    (zu : Zero (v 0) user_pointer) (zo : Zero (v 0) object_pointer) (have : 3 ≤ unreserved v) where
  -- ---- the three pages

  rooms : 3 ≤ free P v
  rooms = omega (arith, have, system-room P v stock.sound stock.pos)

  abbrev i : ℕ
  i = choose v

  abbrev v₁ : Vol
  v₁ = claim P v i

  abbrev u : ℕ
  u = choose v₁

  abbrev v₂ : Vol
  v₂ = claim P v₁ u

  abbrev o : ℕ
  o = choose v₂

  abbrev v₃ : Vol
  v₃ = claim P v₂ o

  C : Claimed choose P v 3
  C = claimed stock 3 rooms

  G3 : Good P v₃ (λ p. hit i p + hit u p + hit o p)
  unfolding claims
  G3 = Good-ext P v₃ _ _ (λ p h. sum-3 (λ j. hit (new_page choose P v j) p)) C.good

  T3 : Taking P v v₃ NoWords 3 0
  unfolding claims
  T3 = claims-taking stock 3 rooms

  free-i : bit P v i ≡ 0
  unfolding claims
  free-i = (found stock 3 0 rooms (omega arith)).1

  i_ok : (0 < i) × (i < P)
  unfolding claims
  i_ok = C.real 0 (omega arith)

  u_ok : (0 < u) × (u < P)
  unfolding claims
  u_ok = C.real 1 (omega arith)

  o_ok : (0 < o) × (o < P)
  unfolding claims
  o_ok = C.real 2 (omega arith)

  -- the pages are zeros still
  zero-i : (j : ℕ) → word v₃ i j ≡ 0
  unfolding claims
  zero-i = C.zero 0 (omega arith)

  zero-u : (j : ℕ) → word v₃ u j ≡ 0
  unfolding claims
  zero-u = C.zero 1 (omega arith)

  zero-o : (j : ℕ) → word v₃ o j ≡ 0
  unfolding claims
  zero-o = C.zero 2 (omega arith)

  master : (k : ℕ) → v₃ 0 k ≡ v 0 k
  unfolding claims
  master = C.still.places.master

  -- ---- the two pointers are written, and two pages paid

  abbrev x₁ : Vol
  x₁ = put2 v₃ 0 user_pointer (pointer 1 i)

  abbrev x : Vol
  x = put2 x₁ 0 object_pointer (pointer 1 o)

  abbrev w : Vol
  w = pay x 2

  x-page : (q k : ℕ) → 0 < q → x q k ≡ v₃ q k
  x-page q k h = put2-page x₁ 0 object_pointer (pointer 1 o) q k (omega arith) ∙ put2-page v₃ 0 user_pointer (pointer 1 i) q k (omega arith)

  x-master : (k : ℕ) → (k < object_pointer) ⊎ (bit_pointer ≤ k) → x 0 k ≡ v₃ 0 k
  x-master k (inl h) = put2-word x₁ 0 object_pointer (pointer 1 o) 0 k (omega arith) (omega arith) ∙ put2-word v₃ 0 user_pointer (pointer 1 i) 0 k (omega arith) (omega arith)
  x-master k (inr h) = put2-word x₁ 0 object_pointer (pointer 1 o) 0 k (omega arith) (omega arith) ∙ put2-word v₃ 0 user_pointer (pointer 1 i) 0 k (omega arith) (omega arith)

  x-pay : unreserved x ≡ unreserved v
  unfolding unreserved
  x-pay = two-ext (x 0) (v₃ 0) unreserved_count (x-master unreserved_count (inr (omega arith))) (x-master (suc unreserved_count) (inr (omega arith))) ∙ two-ext (v₃ 0) (v 0) unreserved_count (master unreserved_count) (master (suc unreserved_count))

  words : (q k : ℕ) → word w q k ≡ word v₃ q k
  words q k = word-ext v₃ w q k (λ h. pay-page x 2 q k h ∙ x-page q k h)

  x-18 : (k : ℕ) → user_pointer ≤ k → k < bit_pointer → w 0 k ≡ x₁ 0 k
  x-18 k a b = pay-below x 2 k (omega arith) ∙ put2-word x₁ 0 object_pointer (pointer 1 o) 0 k (omega arith) (omega arith)

  fu : flags (w 0) user_pointer ≡ 1
  fu = flags-ext (w 0) (x₁ 0) user_pointer (x-18 user_pointer (omega arith) (omega arith)) ∙ pointer-flags v₃ 0 user_pointer 1 i (omega (arith, i_ok.1))

  tu : page (w 0) user_pointer ≡ i
  tu = page-ext (w 0) (x₁ 0) user_pointer (x-18 user_pointer (omega arith) (omega arith)) (x-18 (suc user_pointer) (omega arith) (omega arith)) ∙ pointer-page v₃ 0 user_pointer 1 i (omega (arith, i_ok.1))

  fo : flags (w 0) object_pointer ≡ 1
  fo = flags-ext (w 0) (x 0) object_pointer (pay-below x 2 object_pointer (omega arith)) ∙ pointer-flags x₁ 0 object_pointer 1 o (omega (arith, o_ok.1))

  to : page (w 0) object_pointer ≡ o
  to = page-ext (w 0) (x 0) object_pointer (pay-below x 2 object_pointer (omega arith)) (pay-below x 2 (suc object_pointer) (omega arith)) ∙ pointer-page x₁ 0 object_pointer 1 o (omega (arith, o_ok.1))

  zero₃ : (k : ℕ) → Zero (v 0) k → Zero (v₃ 0) k
  unfolding Zero
  zero₃ k z = (master k ∙ z.0, master (suc k) ∙ z.1)

  mast : (k : ℕ) → volume_name ≤ k → k < unreserved_count → (k < object_pointer) ⊎ (bit_pointer ≤ k) → w 0 k ≡ v₃ 0 k
  mast k a b c = pay-below x 2 k b ∙ x-master k c

  paid : two (w 0) unreserved_count + 2 ≡ two (v₃ 0) unreserved_count
  unfolding unreserved
  paid = omega (arith, have, x-pay, pay-less x 2 (omega (arith, have, x-pay)), two-ext (v₃ 0) (v 0) unreserved_count (master unreserved_count) (master (suc unreserved_count)))

  T : Settled P v₃ w (λ x. 0) (λ g. g i + g o)
  T = first-user P v₃ (λ p. hit i p + hit u p + hit o p) G3 stock.pos w i o i_ok.1 i_ok.0 o_ok.1 o_ok.0 words (zero₃ user_pointer zu) (zero₃ object_pointer zo) fu tu fo to
      (slot-bare v₃ i zero-i) (slot-bare v₃ o zero-o) mast paid

  Gw : Good P w (λ p. hit p u)
  Gw = system-good G3 T (λ p. hit p u) (λ p h. omega (arith, hit-sym p u, hit-sym p i, hit-sym p o))

  abbrev F : Places
  F = Either (WordsOf 0 object_pointer 4) UnreservedWords

  only-w : OnlyAt F v₃ w
  only-w = only_then (WordsOf 0 object_pointer 4) UnreservedWords v₃ x w
      (only_wider (Either (WordsOf 0 user_pointer 2) (WordsOf 0 object_pointer 2)) (WordsOf 0 object_pointer 4) v₃ x both
      (only_then (WordsOf 0 user_pointer 2) (WordsOf 0 object_pointer 2) v₃ x₁ x (only-put2 v₃ 0 user_pointer (pointer 1 i)) (only-put2 x₁ 0 object_pointer (pointer 1 o)))) (only-pay x 2)
    where
      both : (p k : ℕ) → Either (WordsOf 0 user_pointer 2) (WordsOf 0 object_pointer 2) p k → WordsOf 0 object_pointer 4 p k
      both p k (inl h) = (h.0, omega (arith, h.1), omega (arith, h.2))
      both p k (inr h) = (h.0, omega (arith, h.1), omega (arith, h.2))

  -- nothing was there before
  none-users : (n : ℕ) → page_at v₃ (user_file v₃) n ≡ 0
  unfolding user_file
  none-users n = zero-none v₃ (v₃ 0) user_pointer (zero₃ user_pointer zu) n

  none-objs : (n : ℕ) → page_at v₃ (object_file v₃) n ≡ 0
  unfolding object_file
  none-objs n = zero-none v₃ (v₃ 0) object_pointer (zero₃ object_pointer zo) n

  Sw : Taking P v₃ w F 0 2
  Sw = subst (λ (n : ℕ). Taking P v₃ w F 0 n) (ap₂ (λ (a b : ℕ). a + b) (some-pos i i_ok.0) (some-pos o o_ok.0))
      (settled-taking G3 T
      (λ n h. absurd (let r : ⊥ = omega (arith, h, none-users n) in r)) (λ n h. absurd (let r : ⊥ = omega (arith, h, none-objs n) in r)) F only-w)

  -- ---- the user page joins the index

  abbrev v' : Vol
  v' = started choose P v

  read : (q k : ℕ) → 0 < q → v' q k ≡ set_slot w i 0 u q k
  unfolding started set_slot
  read q k h = pay-page (set_slot x i 0 u) 3 q k h ∙ put2-same x w i 0 u q k (sym (pay-page x 2 q k h))

  below : (k : ℕ) → k < unreserved_count → v' 0 k ≡ w 0 k
  unfolding started
  below k h = pay-below (set_slot x i 0 u) 3 k h ∙ set_slot-page x i 0 u 0 k (omega (arith, i_ok.0)) ∙ sym (pay-below x 2 k h)

  M : Master w v'
  M = master-words w v' (λ k a b. below k b)

  paid' : two (v' 0) unreserved_count + 1 ≡ two (w 0) unreserved_count
  unfolding started unreserved
  paid' =
      let e : two (set_slot x i 0 u 0) unreserved_count ≡ two (x 0) unreserved_count = two-ext (set_slot x i 0 u 0) (x 0) unreserved_count (set_slot-page x i 0 u 0 unreserved_count (omega (arith, i_ok.0))) (set_slot-page x i 0 u 0 (suc unreserved_count) (omega (arith, i_ok.0))) in
      omega (arith, have, x-pay, pay-less x 2 (omega (arith, have, x-pay)), pay-less (set_slot x i 0 u) 3 (omega (arith, have, x-pay, e)))

  vacant : Vacant P w i 0
  unfolding user_file blocks_r blocks
  vacant = record {
    below = i_ok.1;
    real = i_ok.0;
    block = omega (arith, ap (λ (r : Root). blocks_r w r (hit i)) (root-1 (w 0) user_pointer 0 fu ∙ ap (tree 1) tu), hit_same i i_ok.0);
    room = omega arith;
    was = slot_same v₃ w i (words i) 0 ∙ slot-bare v₃ i zero-i 0;
    eight = λ e. omega arith;
    four = λ e q. omega arith;
  }

  zero-w : (j : ℕ) → word w u j ≡ 0
  zero-w j = words u j ∙ zero-u j

  join : Joining P w v' (λ p. hit p u) i 0 u
  join = record { got = record { good = Gw; below = u_ok.1; held = omega (arith, hit_same u u_ok.0) }; vacant = vacant; bare = zero-w; read = read; master = M; paid = paid' }

  -- the user index, its flags and its first page; the object file is indexed
  pub started-flags : flags (v' 0) user_pointer ≡ 1
  started-flags = flags-ext (v' 0) (w 0) user_pointer (below user_pointer (omega arith)) ∙ fu

  pub started-slot : (slot v' (page (v' 0) user_pointer) 0 ≡ u) × (0 < u)
  started-slot = (
    ap (λ (t : ℕ). slot v' t 0) (page-ext (v' 0) (w 0) user_pointer (below user_pointer (omega arith)) (below (suc user_pointer) (omega arith)) ∙ tu)
        ∙ join_slot join,
    u_ok.0,
  )

  only : OnlyAt (Either (SlotWords i 0) UnreservedWords) w v'
  unfolding started set_slot
  only p k a = only_then (SlotWords i 0) UnreservedWords x (set_slot x i 0 u) v' (only-put2 x i (2 * 0) u) (only-pay (set_slot x i 0 u) 3) p k a ∙ sym (only-pay x 2 p k (λ h. a (inr h)))

  -- ---- all together

  abbrev K : Places
  K = Either (SlotWords i 0) F

  after₃ : Taking P v₃ v' K 0 3
  after₃ = taking-then P v₃ w v' F (Either (SlotWords i 0) UnreservedWords) K 0 2 0 1 0 3 Sw
      (join-taking join (Either (SlotWords i 0) UnreservedWords) only) refl refl wide
    where
      wide : (p k : ℕ) → Either F (Either (SlotWords i 0) UnreservedWords) p k → Either (TakenWords P v₃ v') K p k
      wide p k (inl h) = inr (inr h)
      wide p k (inr (inl h)) = inr (inl h)
      wide p k (inr (inr h)) = inr (inr (inr h))

  pub started-placed : Placed P v v' (Either (WordsOf 0 object_pointer 4) UnreservedWords) 3
  started-placed = record {
    sound = sound P v' (λ p. 0) (join-good join (λ p. 0) (λ p h. omega arith)) (λ p h. refl);
    taking = taking-then P v v₃ v' NoWords K F 3 0 0 3 3 3 T3 after₃ refl refl wide;
  }
    where
      wide : (p k : ℕ) → Either NoWords K p k → Either (TakenWords P v v') F p k
      wide p k (inl h) = absurd h
      wide p k (inr (inl h)) = inl (i, (i_ok.1, free-i, omega (arith, after₃.bits i i_ok.1, G3.held i i_ok.1, hit_same i i_ok.0, bit_le P v' i)), inl h.0)
      wide p k (inr (inr h)) = inr h
