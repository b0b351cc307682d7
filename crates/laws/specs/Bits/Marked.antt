-- Marking pages, one or all, and taking one: no entry and no tree changes. Assumes nothing.
use Rattle.std.specs.Prelude.{◌≡◌}
use Rattle.std.proofs.Common.{ap, ◌∙◌, arith}
use Prim.Native.Nat.{ℕ, zero, suc, ◌+◌, ◌≤◌, ◌<◌}
use Rattle.book.specs.Bits.{bit_page, bit, mark, mark_all, claim}
use Rattle.book.specs.Holders.{hit}
use Rattle.book.specs.Rules.{Rule1}
use Rattle.book.specs.Words.{Vol}
use Rattle.laws.specs.Bits.Claim.{FreePage, claim-agree, claim-quiet, claim-none, claim-master, bit_page-rest}
use Rattle.laws.specs.Bits.Mark.{mark-agree, mark-master, mark-roots}
use Rattle.laws.specs.Bits.Painted.{Painted, painted}
use Rattle.laws.specs.Count.Good.{Good, Most}
use Rattle.laws.specs.Frame.Rest.{rest, most-calm}
use Rattle.laws.specs.Frame.Still.{Still, still-refl, still-trans, still-calm, bit_page-same, rest-same}
use Rattle.laws.specs.Tree.Slot.{hit-zero}

pub claim-still : {P : ℕ} {v : Vol} {hand : ℕ → ℕ} {d : ℕ} → FreePage P v hand d → Still P v (claim P v d)
claim-still {P} {v} {hand} {d} here = still-calm P v (claim P v d) _ (claim-none here) (claim-agree here) (claim-quiet here) (claim-master here)

-- ---- the pages of bits are held by no other tree

unfoldable pub Alone : ℕ → Vol → Type 0
Alone P v = (p : ℕ) → p < P → rest v (hit (bit_page P v p)) ≡ 0

pub alone : (P : ℕ) (v : Vol) (hand : ℕ → ℕ) → Good P v hand → Alone P v
unfolding Alone
alone P v hand G p h = (bit_page-rest P v hand G p h).0

module _ (P : ℕ) (v : Vol) (r : Rule1 P v) (A : Alone P v) (d x : ℕ) (hd : d < P) (hx : x < 2) where
  abbrev B : ℕ
  B = bit_page P v d

  pub mark-still : Still P v (mark P v d x)
  unfolding Alone
  mark-still = still-calm P v (mark P v d x) (hit B) (hit-zero B) (mark-agree P v r d x hd hx) (A d hd) (mark-master P v r d x hd hx)

  pub mark-most : Most P v → Most P (mark P v d x)
  unfolding Alone
  mark-most m = most-calm v (mark P v d x) (mark-roots P v r d x hd hx) (hit B) (hit-zero B) (mark-agree P v r d x hd hx) (A d hd) P (λ k i. mark-master P v r d x hd hx k) m

pub alone-still : (P : ℕ) (v w : Vol) → Still P v w → Alone P v → Alone P w
unfolding Alone
alone-still P v w S A p h = rest-same P v w S (hit (bit_page P w p)) ∙ ap (λ (b : ℕ). rest v (hit b)) (bit_page-same P v w S.places p) ∙ A p h

-- ---- the bits of all pages below n

pub record Marked (P : ℕ) (v w : Vol) (f : ℕ → ℕ) (n : ℕ) : Type 0 where
  pub most : Most P w
  pub still : Still P v w
  pub painted : Painted P v w f n

module _ (P : ℕ) (v : Vol) (A : Alone P v) (f : ℕ → ℕ) (small : (p : ℕ) → f p < 2) (m : Most P v) where
  pub marked : (n : ℕ) → n ≤ P → Marked P v (mark_all P v f n) f n
  unfolding mark_all
  marked zero h = record { most = m; still = still-refl P v; painted = painted P v m.r1 f small 0 h }
  marked (suc n) h =
      let M = marked n (omega arith) in
      let B : Alone P (mark_all P v f n) = alone-still P v (mark_all P v f n) M.still A in
      record {
        most = mark-most P (mark_all P v f n) M.most.r1 B n (f n) h (small n) M.most;
        still = still-trans P v (mark_all P v f n) (mark_all P v f (suc n)) M.still (mark-still P (mark_all P v f n) M.most.r1 B n (f n) h (small n));
        painted = painted P v m.r1 f small (suc n) h;
      }

-- all bits become those of f: a volume is as good as the pages in hand then say
pub marked-good : (P : ℕ) (v w : Vol) (f hand hand' : ℕ → ℕ) → Marked P v w f P → Good P v hand → ((p : ℕ) → p < P → f p + hand p ≡ bit P v p + hand' p) → Good P w hand'
marked-good P v w f hand hand' M G h = record { most = M.most; held = λ p i. omega (arith, M.painted.low p i, h p i, G.held p i, M.still.held (hit p)) }
