-- A free page is reserved and made zeros: it is then in hand, and nothing else changed. Assumes nothing.
use Rattle.std.specs.Prelude.{◌≡◌, ◌≢◌}
use Rattle.std.proofs.Common.{sym, ◌∙◌}
use Rattle.std.proofs.Math.Path.{ap, ap₂, subst}
use Prim.Native.Nat.{ℕ, zero, suc, ◌+◌, ◌-◌, ◌/◌, ◌%◌, ◌≤◌, ◌<◌}
use Rattle.std.proofs.Math.Decide.{ℕ_discrete}
use native.Mathlib.Omega.{arith}
use Rattle.sums.specs.Sum.{is, is_same, sum-change}
use Rattle.book.specs.Bits.{bit_file, bit_page, bit, digit, mark, claim, bit_word, page_bits}
use Rattle.book.specs.Entries.{user, object}
use Rattle.book.specs.Holders.{hit, all}
use Rattle.book.specs.Pointers.{page, bit_pointer}
use Rattle.book.specs.Rules.{Rule1}
use Rattle.book.specs.Trees.{Root, weigh_r, page_at}
use Rattle.book.specs.Words.{Vol, word, wipe}
use Rattle.book.specs.Written.{digit-same, digit-other, word-pos, word-ext, put-here, put-page, put_word, wipe-here, wipe-page}
use Rattle.laws.specs.Count.Good.{Good, bit_le, free}
use Rattle.laws.specs.Frame.Rest.{rest, all_rest, rest-add, all-calm, most-calm, user-calm, obj-calm}
use Rattle.laws.specs.Frame.Roots.{page_at-le, Roots, bits-root, upto-in}
use Rattle.laws.specs.Tree.Slot.{Agree, hit-zero, hit_same, hit_other, pair-zero}

-- ---- the bit file's pages

module _ (P : ℕ) (v : Vol) (r : Rule1 P v) (p : ℕ) (h : p < P) where
  pub bit_page-is : bit_page P v p ≡ page (v 0) bit_pointer + p / page_bits
  unfolding bit_page bit_file page_at
  bit_page-is = upto-in (p / page_bits) ((P + (page_bits - 1)) / page_bits) (page (v 0) bit_pointer + p / page_bits) (omega arith)

  pub bit_page-pos : 0 < bit_page P v p
  bit_page-pos = omega (arith, bit_page-is, r.start)

  pub bit_page-lt : bit_page P v p < P
  bit_page-lt = omega (arith, bit_page-is, r.fits)

  pub bit_page-in : 1 ≤ weigh_r v (bit_file P v) (hit (bit_page P v p))
  unfolding bit_page
  bit_page-in =
      let B : ℕ = page_at v (bit_file P v) (p / page_bits) in
      omega (arith, page_at-le v (hit B) (hit-zero B) (bit_file P v) (p / page_bits), hit_same B bit_page-pos)

module _ (P : ℕ) (v : Vol) (hand : ℕ → ℕ) (G : Good P v hand) where
  -- no other tree has a bit page
  pub bit_page-rest : (p : ℕ) → p < P → (rest v (hit (bit_page P v p)) ≡ 0) × (hand (bit_page P v p) ≡ 0)
  bit_page-rest p h =
      let B : ℕ = bit_page P v p in
      let e : bit P v B ≡ is B 0 + all P v (hit B) + hand B = G.held B (bit_page-lt P v G.most.r1 p h) in (
        omega (arith, e, bit_le P v B, all_rest P v (hit B), bit_page-in P v G.most.r1 p h),
        omega (arith, e, bit_le P v B, all_rest P v (hit B), bit_page-in P v G.most.r1 p h),
      )

-- page d of a good volume is free
pub record FreePage (P : ℕ) (v : Vol) (hand : ℕ → ℕ) (d : ℕ) : Type 0 where
  pub good : Good P v hand
  pub below : d < P
  pub clear : bit P v d ≡ 0

-- page d of a good volume is in hand
pub record InHand (P : ℕ) (v : Vol) (hand : ℕ → ℕ) (d : ℕ) : Type 0 where
  pub good : Good P v hand
  pub below : d < P
  pub held : 1 ≤ hand d

-- page 0 is reserved and nobody's: never free, never in hand
module _ (P : ℕ) (v : Vol) (hand : ℕ → ℕ) where
  free-above : (d : ℕ) → FreePage P v hand d → 0 < d
  free-above zero h = omega (arith, h.good.held 0 h.below, h.clear, is_same 0)
  free-above (suc d) h = omega arith

  hand-above : (d : ℕ) → InHand P v hand d → 0 < d
  hand-above zero h = omega (arith, h.good.held 0 h.below, bit_le P v 0, h.held, is_same 0)
  hand-above (suc d) h = omega arith

pub hand-pos : {P : ℕ} {v : Vol} {hand : ℕ → ℕ} {d : ℕ} → InHand P v hand d → 0 < d
hand-pos {P} {v} {hand} {d} here = hand-above P v hand d here

module _ {P : ℕ} {v : Vol} {hand : ℕ → ℕ} {d : ℕ} (here : FreePage P v hand d) where
  pub free-pos : 0 < d
  free-pos = free-above P v hand d here

  pub free-none : (all P v (hit d) ≡ 0) × (hand d ≡ 0)
  free-none = (omega (arith, here.good.held d here.below, here.clear), omega (arith, here.good.held d here.below, here.clear))

  abbrev B : ℕ → ℕ
  B p = bit_page P v p

  apart : (p : ℕ) → p < P → B p ≢ d
  apart p h e = omega (arith, bit_page-in P v here.good.most.r1 p h, subst (λ (x : ℕ). all P v (hit x) ≡ 0) (sym e) free-none.0, all_rest P v (hit (bit_page P v p)))

  abbrev C : ℕ → ℕ
  C x = hit (B d) x + hit d x

  -- only the page and the bits' page change
  pub claim-else : (p k : ℕ) → p ≢ B d → p ≢ d → claim P v d p k ≡ v p k
  unfolding claim mark
  claim-else p k a b = wipe-page (mark P v d 1) d p k b ∙ put-page v (bit_page P v d) (bit_word d) _ p k a

  pub claim-agree : Agree C v (claim P v d)
  unfolding Agree
  claim-agree q e k = word-ext v (claim P v d) q k (λ h. claim-else q k (pair-zero (B d) d q h e).0 (pair-zero (B d) d q h e).1)

  pub claim-master : (k : ℕ) → claim P v d 0 k ≡ v 0 k
  claim-master k = claim-else 0 k (λ e. omega (arith, e, bit_page-pos P v here.good.most.r1 d here.below)) (λ e. omega (arith, e, free-pos))

  pub claim-roots : Roots v (claim P v d)
  unfolding Roots
  claim-roots k i j = claim-master k

  pub claim-quiet : rest v C ≡ 0
  claim-quiet = omega (arith, rest-add v (hit (bit_page P v d)) (hit d), (bit_page-rest P v hand here.good d here.below).0, free-none.0, all_rest P v (hit d))

  pub claim-none : C 0 ≡ 0
  claim-none = omega (arith, hit-zero (B d), hit-zero d)

  pub claim-zero : (k : ℕ) → word (claim P v d) d k ≡ 0
  unfolding claim
  claim-zero k = word-pos (wipe (mark P v d 1) d) d k (free-pos) ∙ wipe-here (mark P v d 1) d k

  pub claim-all : (g : ℕ → ℕ) → all P (claim P v d) g ≡ all P v g
  claim-all g = all-calm v (claim P v d) claim-roots C claim-none claim-agree claim-quiet P g

  pub claim-user : user (claim P v d) ≡ user v
  claim-user = user-calm v (claim P v d) claim-roots C claim-none claim-agree claim-quiet

  pub claim-obj : object (claim P v d) ≡ object v
  claim-obj = obj-calm v (claim P v d) claim-roots C claim-none claim-agree claim-quiet

  -- a page in hand stays as it is
  pub claim-keeps : (q : ℕ) → 1 ≤ hand q → (k : ℕ) → word (claim P v d) q k ≡ word v q k
  unfolding Agree
  claim-keeps q h k = claim-agree q (omega (
    arith,
    hit_other (B d) q (λ e. omega (arith, h, subst (λ (x : ℕ). hand x ≡ 0) (sym e) (bit_page-rest P v hand here.good d here.below).1)),
    hit_other d q (λ e. omega (arith, h, subst (λ (x : ℕ). hand x ≡ 0) (sym e) free-none.1)),
  )) k

  bit-page : (p : ℕ) → bit_page P (claim P v d) p ≡ B p
  unfolding bit_page bit_file page_at
  bit-page p = ap (λ (r : Root). page_at (claim P v d) r (p / page_bits)) (bits-root v (claim P v d) claim-roots P)

  read : (p : ℕ) → p < P → bit P (claim P v d) p ≡ digit (p % 16) (mark P v d 1 (B p) (bit_word p))
  unfolding bit claim
  read p h = ap (λ (b : ℕ). digit (p % 16) (word (claim P v d) b (bit_word p))) (bit-page p)
      ∙ ap (digit (p % 16)) (word-pos (claim P v d) (B p) (bit_word p) (bit_page-pos P v here.good.most.r1 p h) ∙ wipe-page (mark P v d 1) d (B p) (bit_word p) (apart p h))

  pub claim-bit : bit P (claim P v d) d ≡ 1
  unfolding mark
  claim-bit = read d here.below ∙ ap (digit (d % 16)) (put-here v (bit_page P v d) (bit_word d) _) ∙ digit-same (d % 16) _ 1 (omega arith)

  old : (p : ℕ) → p < P → digit (p % 16) (v (B p) (bit_word p)) ≡ bit P v p
  unfolding bit
  old p h = ap (digit (p % 16)) (sym (word-pos v (bit_page P v p) (bit_word p) (bit_page-pos P v here.good.most.r1 p h)))

  pub claim-bit-other : (p : ℕ) → p < P → p ≢ d → bit P (claim P v d) p ≡ bit P v p
  unfolding mark
  claim-bit-other p h n = read p h ∙ elim (ℕ_discrete (B p) (B d)) [
    | no a ↦ ap (digit (p % 16)) (put-page v (B d) (bit_word d) _ (B p) (bit_word p) a) ∙ old p h
    | yes e ↦ elim (ℕ_discrete (bit_word p) (bit_word d)) [
      | no a ↦ ap (digit (p % 16)) (put_word v (B d) (bit_word d) _ (B p) (bit_word p) a) ∙ old p h
      | yes e' ↦
          let ne : p % 16 ≢ d % 16 = λ i. n (omega (arith, i, e', e, bit_page-is P v here.good.most.r1 p h, bit_page-is P v here.good.most.r1 d here.below)) in
          ap₂ (λ (b w : ℕ). digit (p % 16) (mark P v d 1 b w)) e e'
          ∙ ap (digit (p % 16)) (put-here v (B d) (bit_word d) _) ∙ digit-other (p % 16) (d % 16) _ 1 ne (omega arith)
          ∙ ap (digit (p % 16)) (word-pos v (B d) (bit_word d) (bit_page-pos P v here.good.most.r1 d here.below))
          ∙ ap₂ (λ (b w : ℕ). digit (p % 16) (v b w)) (sym e) (sym e') ∙ old p h
    ]
  ]

  pub claim-good : Good P (claim P v d) (λ p. hand p + hit d p)
  claim-good = record { most = most-calm v (claim P v d) claim-roots C claim-none claim-agree claim-quiet P (λ k i. claim-master k) here.good.most; held = held }
    where
      held : (p : ℕ) → p < P → bit P (claim P v d) p ≡ is p 0 + all P (claim P v d) (hit p) + (hand p + hit d p)
      held p h = elim (ℕ_discrete p d) [
        | yes e ↦ subst (λ (x : ℕ). bit P (claim P v d) x ≡ is x 0 + all P (claim P v d) (hit x) + (hand x + hit d x)) (sym e)
            (omega (arith, here.good.held d here.below, here.clear, claim-all (hit d), claim-bit, hit_same d (free-pos)))
        | no n ↦ omega (arith, here.good.held p h, claim-all (hit p), claim-bit-other p h n, hit_other d p n)
      ]

  -- it is in hand now
  pub claim-hand : InHand P (claim P v d) (λ p. hand p + hit d p) d
  claim-hand = record { good = claim-good; below = here.below; held = omega (arith, hit_same d free-pos) }

  pub claim-free : free P (claim P v d) + 1 ≡ free P v
  unfolding free
  claim-free = omega (arith, here.clear, claim-bit, sum-change P (λ p. 1 - bit P v p) (λ p. 1 - bit P (claim P v d) p) d here.below (λ p h n. ap (λ (x : ℕ). 1 - x) (claim-bit-other p h n)))
