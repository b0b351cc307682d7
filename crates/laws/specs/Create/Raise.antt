-- The object file gets its subindex block: taken, given the index block so far, linked and paid. Assumes nothing.
use Rattle.std.specs.Prelude.{◌≡◌, ◌≢◌, ℕ, suc, ◌+◌, ◌*◌, ◌≤◌, ◌<◌}
use Rattle.std.proofs.Math.Path.{refl, sym, ap}
use Rattle.std.proofs.Common.{◌∙◌, subst, inl, arith}
use Rattle.std.proofs.Math.Logic.{inr}
use Rattle.book.specs.Bits.{claim}
use Rattle.book.specs.Create.{raised}
use Rattle.book.specs.Entries.{user_file, object_file, unreserved}
use Rattle.book.specs.Holders.{hit}
use Rattle.book.specs.Pointers.{slot, flags, page, pointer, set_slot, object_pointer, unreserved_count, user_pointer, volume_name}
use Rattle.book.specs.Trees.{Root, tree, page_at}
use Rattle.book.specs.Words.{Vol, two, word, put2}
use Rattle.book.specs.Written.{word-ext, put2-page, put2-word}
use Rattle.laws.specs.Bits.Choose.{Stock}
use Rattle.laws.specs.Bits.Claim.{FreePage, InHand, free-pos, claim-hand, claim-master, claim-zero, claim-bit}
use Rattle.laws.specs.Bits.Claims.{stock-free}
use Rattle.laws.specs.Bits.Taking.{TakenWords, NoWords, Taking, taking-then, claim-taking, hand-good, hand-taking, settled-taking}
use Rattle.laws.specs.Count.Good.{sound, bit_le}
use Rattle.laws.specs.Create.Join.{only-pay, pay-page, pay-below, pay-less, SlotWords}
use Rattle.laws.specs.Create.Placed.{Placed}
use Rattle.laws.specs.Create.Settled.{Settled, leaves, system-good}
use Rattle.laws.specs.Frame.Places.{Places, WordsOf, UnreservedWords, Either, OnlyAt, only_then, only-put2}
use Rattle.laws.specs.Frame.Roots.{page_at-frame, no_blocks}
use Rattle.laws.specs.Tree.Pointer.{root-1, root-2, flags-ext, page-ext, root_at-ext, pointer-flags, pointer-page}
use Rattle.laws.specs.Tree.Slot.{set_slot-page, slot-here, slot-other, hit-sym, slot-bare, two-ext, some-pos}

module _ {choose : Vol → ℕ} {P : ℕ} {v : Vol} (stock : Stock choose P v) (big : P ≤ 1073741824) (one : flags (v 0) object_pointer ≡ 1) (have : 1 ≤ unreserved v) where
  abbrev s : ℕ
  s = choose v

  abbrev v₁ : Vol
  v₁ = claim P v s

  abbrev t : ℕ
  t = page (v 0) object_pointer

  here : FreePage P v (λ p. 0) s
  here = stock-free stock have

  hs : s < P
  hs = here.below

  ps : 0 < s
  ps = free-pos here

  got : InHand P v₁ (λ p. 0 + hit s p) s
  got = claim-hand here

  -- the block has its first slot
  abbrev w : Vol
  w = set_slot v₁ s 0 t

  filled : InHand P w (λ p. 0 + hit s p) s
  filled = record { good = hand-good got (λ q j n. set_slot-page v₁ s 0 t q j n); below = hs; held = got.held }

  master : (k : ℕ) → w 0 k ≡ v 0 k
  master k = set_slot-page v₁ s 0 t 0 k (omega (arith, ps)) ∙ claim-master here k

  -- the pointer has it
  abbrev x : Vol
  x = put2 w 0 object_pointer (pointer 2 s)

  abbrev v' : Vol
  v' = raised choose P v

  words : (q k : ℕ) → word v' q k ≡ word w q k
  unfolding raised
  words q k = word-ext w v' q k (λ h. pay-page x 1 q k h ∙ put2-page w 0 object_pointer (pointer 2 s) q k (omega arith))

  below : (k : ℕ) → k < unreserved_count → v' 0 k ≡ x 0 k
  unfolding raised
  below k h = pay-below x 1 k h

  pub raised-master : (k : ℕ) → k < unreserved_count → k ≢ object_pointer → k ≢ (suc object_pointer) → v' 0 k ≡ v 0 k
  raised-master k h a b = below k h ∙ put2-word w 0 object_pointer (pointer 2 s) 0 k a b ∙ master k

  -- it is subindexed now
  pub raised-flags : flags (v' 0) object_pointer ≡ 2
  raised-flags = flags-ext (v' 0) (x 0) object_pointer (below object_pointer (omega arith)) ∙ pointer-flags w 0 object_pointer 2 s (omega (arith, hs))

  top : page (v' 0) object_pointer ≡ s
  top = page-ext (v' 0) (x 0) object_pointer (below object_pointer (omega arith)) (below (suc object_pointer) (omega arith)) ∙ pointer-page w 0 object_pointer 2 s (omega (arith, hs))

  one' : flags (w 0) object_pointer ≡ 1
  one' = flags-ext (w 0) (v 0) object_pointer (master object_pointer) ∙ one

  s0 : slot w s 0 ≡ page (w 0) object_pointer
  s0 = slot-here v₁ s 0 t ps ∙ sym (page-ext (w 0) (v 0) object_pointer (master object_pointer) (master (suc object_pointer)))

  so : (j : ℕ) → j ≢ 0 → slot w s j ≡ 0
  so j n = slot-other v₁ s 0 t ps j n ∙ slot-bare v₁ s (claim-zero here) j

  mast : (k : ℕ) → volume_name ≤ k → k < unreserved_count → k ≢ object_pointer → k ≢ (suc object_pointer) → v' 0 k ≡ w 0 k
  mast k a b c d = raised-master k b c d ∙ sym (master k)

  paid : two (v' 0) unreserved_count + 1 ≡ two (w 0) unreserved_count
  unfolding raised unreserved
  paid =
      let a : two (x 0) unreserved_count ≡ two (w 0) unreserved_count = two-ext (x 0) (w 0) unreserved_count (put2-word w 0 object_pointer (pointer 2 s) 0 unreserved_count (omega arith) (omega arith)) (put2-word w 0 object_pointer (pointer 2 s) 0 (suc unreserved_count) (omega arith) (omega arith)) in
      let b : two (w 0) unreserved_count ≡ two (v 0) unreserved_count = two-ext (w 0) (v 0) unreserved_count (master unreserved_count) (master (suc unreserved_count)) in
      omega (arith, have, pay-less x 1 (omega (arith, have)))

  T : Settled P w v' (λ x. 0) (λ g. g s)
  T = Rattle.laws.specs.Create.Settled.raised filled v' words one' raised-flags top s0 so mast paid

  users : (i : ℕ) → page_at v' (user_file v') i ≡ page_at w (user_file w) i
  unfolding user_file
  users i = ap (λ (r : Root). page_at v' r i) (root_at-ext (v' 0) (w 0) user_pointer 0 (mast user_pointer (omega arith) (omega arith) (omega arith) (omega arith)) (mast (suc user_pointer) (omega arith) (omega arith) (omega arith) (omega arith)))
      ∙ page_at-frame w v' (λ x. 0) T.agree (user_file w) (no_blocks w (user_file w)) i

  objs : (i : ℕ) → page_at v' (object_file v') i ≡ page_at w (object_file w) i
  unfolding object_file
  objs i = ap (λ (r : Root). page_at v' r i) (root-2 (v' 0) object_pointer 0 raised-flags ∙ ap (tree 2) top)
      ∙ leaves filled v' words one' raised-flags top s0 so mast paid i
      ∙ sym (ap (λ (r : Root). page_at w r i) (root-1 (w 0) object_pointer 0 one'))

  -- the words that change on page 0
  abbrev F : Places
  F = Either (WordsOf 0 object_pointer 2) UnreservedWords

  only : OnlyAt F w v'
  unfolding raised
  only = only_then (WordsOf 0 object_pointer 2) UnreservedWords w x v' (only-put2 w 0 object_pointer (pointer 2 s)) (only-pay x 1)

  rest : Taking P v₁ v' (Either (SlotWords s 0) F) 0 1
  unfolding set_slot
  rest = taking-then P v₁ w v' (SlotWords s 0) F (Either (SlotWords s 0) F) 0 0 0 1 0 1
      (hand-taking got (λ q j n. set_slot-page v₁ s 0 t q j n) (SlotWords s 0) (only-put2 v₁ s (2 * 0) t))
      (subst (λ (n : ℕ). Taking P w v' F 0 n) (some-pos s ps) (settled-taking filled.good T (λ i h. users i) (λ i h. objs i) F only))
      refl refl (λ p k h. inr h)

  pub raised-placed : Placed P v v' (Either (WordsOf 0 object_pointer 2) UnreservedWords) 1
  raised-placed = record {
    sound = sound P v' (λ p. 0) (system-good filled.good T (λ p. 0) (λ p h. omega (arith, hit-sym p s))) (λ p h. refl);
    taking = taking-then P v v₁ v' NoWords (Either (SlotWords s 0) F) F 1 0 0 1 1 1 (claim-taking here) rest refl refl wide;
  }
    where
      wide : (p k : ℕ) → Either NoWords (Either (SlotWords s 0) F) p k → Either (TakenWords P v v') F p k
      wide p k (inl h) = absurd h
      wide p k (inr (inl h)) = inl (s, (hs, here.clear, omega (arith, rest.bits s hs, claim-bit here, bit_le P v' s)), inl h.0)
      wide p k (inr (inr h)) = inr h
