-- One bit is set or cleared; a page in hand is given back. Assumes nothing.
use Rattle.std.specs.Prelude.{◌≡◌, ◌≢◌, ℕ, ◌+◌, ◌/◌, ◌%◌, ◌<◌}
use Rattle.std.proofs.Common.{sym, ◌∙◌, arith}
use Rattle.std.proofs.Math.Path.{ap, ap₂, subst}
use Rattle.std.proofs.Math.Decide.{ℕ_discrete}
use Rattle.sums.specs.Sum.{is}
use Rattle.book.specs.Bits.{bit_file, bit_page, bit, digit, mark, bit_word, page_bits}
use Rattle.book.specs.Holders.{hit, all}
use Rattle.book.specs.Rules.{Rule1}
use Rattle.book.specs.Trees.{Root, page_at}
use Rattle.book.specs.Words.{Vol, word}
use Rattle.book.specs.Written.{digit-same, digit-other, word-pos, word-ext, put-here, put-page, put_word}
use Rattle.laws.specs.Bits.Claim.{bit_page-is, bit_page-pos, bit_page-rest}
use Rattle.laws.specs.Count.Good.{Good, bit_le}
use Rattle.laws.specs.Frame.Rest.{all-calm, most-calm}
use Rattle.laws.specs.Frame.Roots.{Roots, bits-root}
use Rattle.laws.specs.Tree.Slot.{Agree, hit-zero, hit_same, hit_other}

module _ (P : ℕ) (v : Vol) (r : Rule1 P v) (d x : ℕ) (hd : d < P) (hx : x < 2) where
  abbrev B : ℕ → ℕ
  B p = bit_page P v p

  pub mark-page : (q k : ℕ) → q ≢ B d → mark P v d x q k ≡ v q k
  unfolding mark
  mark-page q k n = put-page v (B d) (bit_word d) _ q k n

  pub mark-agree : Agree (hit (B d)) v (mark P v d x)
  unfolding Agree
  mark-agree q e k = word-ext v (mark P v d x) q k (λ h. mark-page q k (λ i. omega (arith, e, subst (λ (y : ℕ). hit y q ≡ 1) i (hit_same q h))))

  pub mark-master : (k : ℕ) → mark P v d x 0 k ≡ v 0 k
  mark-master k = mark-page 0 k (λ e. omega (arith, e, bit_page-pos P v r d hd))

  pub mark-roots : Roots v (mark P v d x)
  unfolding Roots
  mark-roots k i j = mark-master k

  read : (p : ℕ) → p < P → bit P (mark P v d x) p ≡ digit (p % 16) (mark P v d x (B p) (bit_word p))
  unfolding bit bit_page bit_file page_at
  read p h = ap (λ (s : Root). digit (p % 16) (word (mark P v d x) (page_at (mark P v d x) s (p / page_bits)) (bit_word p))) (bits-root v (mark P v d x) mark-roots P)
      ∙ ap (digit (p % 16)) (word-pos (mark P v d x) (B p) (bit_word p) (bit_page-pos P v r p h))

  old : (p : ℕ) → p < P → digit (p % 16) (v (B p) (bit_word p)) ≡ bit P v p
  unfolding bit
  old p h = ap (digit (p % 16)) (sym (word-pos v (bit_page P v p) (bit_word p) (bit_page-pos P v r p h)))

  pub mark-bit : bit P (mark P v d x) d ≡ x
  unfolding mark
  mark-bit = read d hd ∙ ap (digit (d % 16)) (put-here v (B d) (bit_word d) _) ∙ digit-same (d % 16) _ x hx

  pub mark-other : (p : ℕ) → p < P → p ≢ d → bit P (mark P v d x) p ≡ bit P v p
  unfolding mark
  mark-other p h n = read p h ∙ elim (ℕ_discrete (B p) (B d)) [
    | no a ↦ ap (digit (p % 16)) (put-page v (B d) (bit_word d) _ (B p) (bit_word p) a) ∙ old p h
    | yes e ↦ elim (ℕ_discrete (bit_word p) (bit_word d)) [
      | no a ↦ ap (digit (p % 16)) (put_word v (B d) (bit_word d) _ (B p) (bit_word p) a) ∙ old p h
      | yes e' ↦
          let ne : p % 16 ≢ d % 16 = λ i. n (omega (arith, i, e', e, bit_page-is P v r p h, bit_page-is P v r d hd)) in
          ap₂ (λ (b w : ℕ). digit (p % 16) (mark P v d x b w)) e e'
          ∙ ap (digit (p % 16)) (put-here v (B d) (bit_word d) _) ∙ digit-other (p % 16) (d % 16) _ x ne hx
          ∙ ap (digit (p % 16)) (word-pos v (B d) (bit_word d) (bit_page-pos P v r d hd))
          ∙ ap₂ (λ (b w : ℕ). digit (p % 16) (v b w)) (sym e) (sym e') ∙ old p h
    ]
  ]

-- a page in hand is given back: only its bit changes
pub release-good : (P : ℕ) (v : Vol) (hand hand' : ℕ → ℕ) → Good P v hand → (d : ℕ) → d < P → 0 < d → ((p : ℕ) → p < P → hand' p + hit d p ≡ hand p) → Good P (mark P v d 0) hand'
release-good P v hand hand' G d hd pd hh = record {
  most = most-calm v v' (mark-roots P v r d 0 hd two) (hit B) (hit-zero B) (mark-agree P v r d 0 hd two) (bit_page-rest P v hand G d hd).0 P (λ k i. mark-master P v r d 0 hd two k) G.most;
  held = held;
}
  where
    r : Rule1 P v
    r = G.most.r1

    two : 0 < 2
    two = omega arith

    v' : Vol
    v' = mark P v d 0

    B : ℕ
    B = bit_page P v d

    same : (g : ℕ → ℕ) → all P v' g ≡ all P v g
    same g = all-calm v v' (mark-roots P v r d 0 hd two) (hit B) (hit-zero B) (mark-agree P v r d 0 hd two) (bit_page-rest P v hand G d hd).0 P g

    held : (p : ℕ) → p < P → bit P v' p ≡ is p 0 + all P v' (hit p) + hand' p
    held p h = elim (ℕ_discrete p d) [
      | yes e ↦ subst (λ (y : ℕ). bit P v' y ≡ is y 0 + all P v' (hit y) + hand' y) (sym e)
          (omega (arith, mark-bit P v r d 0 hd two, G.held d hd, bit_le P v d, same (hit d), hh d hd, hit_same d pd))
      | no n ↦ omega (arith, mark-other P v r d 0 hd two p h n, G.held p h, same (hit p), hh p h, hit_other d p n)
    ]
