-- A page in hand joins a block of the user or the object file and is paid: a sound volume with one page fewer in hand. Assumes nothing.
use Rattle.std.specs.Prelude.{◌≡◌, ◌≢◌}
use Rattle.std.proofs.Math.Path.{refl, sym, ap, subst}
use Rattle.std.proofs.Common.{ap₂, ◌∙◌}
use Prim.Native.Nat.{ℕ, zero, suc, ◌+◌, ◌-◌, ◌*◌, ◌/◌, ◌%◌, ◌^◌, ◌≤◌, ◌<◌}
use Rattle.std.proofs.Math.Decide.{ℕ_discrete, dec_lt}
use native.Mathlib.Omega.{arith}
use Rattle.book.specs.Create.{pay}
use Rattle.book.specs.Entries.{user_file, object_file, unreserved}
use Rattle.book.specs.Holders.{hit}
use Rattle.book.specs.Pointers.{slot, set_slot, unreserved_count}
use Rattle.book.specs.Trees.{Root, tree, run, leaf, page_at}
use Rattle.book.specs.Words.{Vol, two, word}
use Rattle.book.specs.Written.{word-ext, put2-page, put2-word, put2-two}
use Rattle.laws.specs.Bits.Claim.{InHand, hand-pos}
use Rattle.laws.specs.Bits.Taking.{Taking, settled-taking}
use Rattle.laws.specs.Count.Good.{Good, bit_le}
use Rattle.laws.specs.Create.Settled.{Settled, linked, system-good}
use Rattle.laws.specs.Create.Vacant.{Vacant}
use Rattle.laws.specs.Frame.Places.{Places, WordsOf, UnreservedWords, OnlyAt, only-put2}
use Rattle.laws.specs.Frame.Renewed.{Master}
use Rattle.laws.specs.Frame.Rest.{rest, all_rest}
use Rattle.laws.specs.Frame.Roots.{upto-in, upto-out, users-root, objs-root, blocks_r-le}
use Rattle.laws.specs.Tree.Slot.{slot-here, slot-other, set_slot-page, slot-bare, some-pos, slot_same}
use Rattle.laws.specs.Tree.Weigh.{leaf-zero, Link}

-- ---- what payment leaves, and what it writes

module _ (v : Vol) (n : ℕ) where
  pub only-pay : OnlyAt UnreservedWords v (pay v n)
  unfolding pay
  only-pay = only-put2 v 0 unreserved_count (unreserved v - n)

  pub pay-page : (q j : ℕ) → 0 < q → pay v n q j ≡ v q j
  unfolding pay
  pay-page q j h = put2-page v 0 unreserved_count (unreserved v - n) q j (omega arith)

  pub pay-below : (j : ℕ) → j < unreserved_count → pay v n 0 j ≡ v 0 j
  unfolding pay
  pay-below j h = put2-word v 0 unreserved_count (unreserved v - n) 0 j (omega arith) (omega arith)

  pub pay-less : n ≤ unreserved v → unreserved (pay v n) + n ≡ unreserved v
  unfolding pay unreserved
  pay-less h = omega (arith, put2-two v 0 unreserved_count (two (v 0) unreserved_count - n))

-- the two words of slot k of block b
abbrev pub SlotWords : ℕ → ℕ → Places
SlotWords b k = WordsOf b (2 * k) 2

-- ---- a position that has a page keeps it

module _ (v v' : Vol) (X k d : ℕ) (L : Link v v' X k d) where
  leaf-there : (l t n : ℕ) → 0 < leaf v l t n → leaf v' l t n ≡ leaf v l t n
  unfolding leaf
  leaf-there zero t n h = refl
  leaf-there (suc l) t n h =
      let i : ℕ = n / 512 ^ l in
      let m : ℕ = n % 512 ^ l in
      let same : slot v' t i ≡ slot v t i = elim (ℕ_discrete t X) [
        | no ne ↦ slot_same v v' t (L.rest t ne) i
        | yes e ↦ elim (ℕ_discrete i k) [
          | no ne ↦ subst (λ (x : ℕ). slot v' x i ≡ slot v x i) (sym e) (L.others i ne)
          | yes q ↦ absurd (let r : ⊥ = omega (arith, h, ap (λ (x : ℕ). leaf v l x m) (ap₂ (slot v) e q ∙ L.was) ∙ leaf-zero v l m) in r)
        ]
      ] in
      ap (λ (x : ℕ). leaf v' l x m) same ∙ leaf-there l (slot v t i) m h

  pub page_at-there : (r : Root) (n : ℕ) → 0 < page_at v r n → page_at v' r n ≡ page_at v r n
  unfolding page_at
  page_at-there (tree l t) n h = elim (dec_lt n (512 ^ l)) [
    | yes i ↦ upto-in n (512 ^ l) (leaf v' l t n) i ∙ leaf-there l t n (omega (arith, h, upto-in n (512 ^ l) (leaf v l t n) i)) ∙ sym (upto-in n (512 ^ l) (leaf v l t n) i)
    | no i ↦ absurd (let r : ⊥ = omega (arith, h, upto-out n (512 ^ l) (leaf v l t n) (omega arith)) in r)
  ]
  page_at-there (run s m) n h = refl

-- page d in hand, all zeros, is put into the empty slot k of block X, and paid
pub record Joining (P : ℕ) (v v' : Vol) (hand : ℕ → ℕ) (X k d : ℕ) : Type 0 where
  pub got : InHand P v hand d
  pub vacant : Vacant P v X k
  pub bare : (j : ℕ) → word v d j ≡ 0
  pub read : (q j : ℕ) → 0 < q → v' q j ≡ set_slot v X k d q j
  pub master : Master v v'
  pub paid : two (v' 0) unreserved_count + 1 ≡ two (v 0) unreserved_count

module _ {P : ℕ} {v v' : Vol} {hand : ℕ → ℕ} {X k d : ℕ} (join : Joining P v v' hand X k d) where
  abbrev w : Vol
  w = set_slot v X k d

  same : (q j : ℕ) → word v' q j ≡ word w q j
  same q j = word-ext w v' q j (λ h. join.read q j h)

  apart : d ≢ X
  unfolding rest
  apart e = omega (
    arith,
    join.got.good.held X join.vacant.below,
    bit_le P v X,
    all_rest P v (hit X),
    blocks_r-le v (user_file v) (hit X),
    blocks_r-le v (object_file v) (hit X),
    join.vacant.block,
    subst (λ (x : ℕ). 1 ≤ hand x) e join.got.held,
  )

  pub join-bare : (j : ℕ) → word v' d j ≡ 0
  join-bare j = same d j ∙ word-ext v w d j (λ h. set_slot-page v X k d d j apart) ∙ join.bare j

  link : Link v v' X k d
  link = record {
    rest = λ q n j. same q j ∙ word-ext v w q j (λ h. set_slot-page v X k d q j n);
    room = join.vacant.room;
    was = join.vacant.was;
    now = slot_same w v' X (same X) k ∙ slot-here v X k d join.vacant.real;
    others = λ j n. slot_same w v' X (same X) j ∙ slot-other v X k d join.vacant.real j n;
    bare = λ j h. slot-bare v' d join-bare j;
    real = join.vacant.real;
  }

  settled : Settled P v v' (hit X) (λ g. g d)
  settled = linked join.got join.vacant link join-bare (slot-bare v' d join-bare) join.master join.paid

  pub join-good : (hand' : ℕ → ℕ) → ((p : ℕ) → p < P → hand' p + hit p d ≡ hand p) → Good P v' hand'
  join-good = system-good join.got.good settled

  pub join_slot : slot v' X k ≡ d
  join_slot = link.now

  pub join-taking : (F : Places) → OnlyAt F v v' → Taking P v v' F 0 1
  join-taking F o = subst (λ (x : ℕ). Taking P v v' F 0 x) (some-pos d (hand-pos join.got)) (settled-taking join.got.good settled
      (λ i h. ap (λ (r : Root). page_at v' r i) (users-root v v' join.master.roots) ∙ page_at-there v v' X k d link (user_file v) i h)
      (λ i h. ap (λ (r : Root). page_at v' r i) (objs-root v v' join.master.roots) ∙ page_at-there v v' X k d link (object_file v) i h) F o)
