-- Words, slots and hits: what is read of a page, what a weight of one page counts, volumes that agree off some pages. Assumes nothing.
use Rattle.std.specs.Prelude.{◌≡◌, refl, ◌≢◌}
use Rattle.std.proofs.Common.{sym, ap₂, ◌∙◌, subst, not-suc-le-zero, arith}
use Prim.Native.Nat.{ℕ, zero, suc, ◌+◌, ◌*◌, ◌≤◌, ◌<◌, zero-le}
use Rattle.sums.specs.Sum.{sum, is_same, is-other, is_le, is_eq, sum-none, sum_is, is-sym}
use Rattle.book.specs.Holders.{hit, some}
use Rattle.book.specs.Pointers.{slot, set_slot}
use Rattle.book.specs.Words.{Vol, two, word, put, put2}
use Rattle.book.specs.Written.{word-pos, word-ext, put2-page, put2-word, put2-two}

-- ---- hits: a page met or not

pub hit-zero : (p : ℕ) → hit p 0 ≡ 0
unfolding hit
hit-zero p = refl

pub hit_same : (p : ℕ) → 0 < p → hit p p ≡ 1
unfolding hit
hit_same zero h = absurd (not-suc-le-zero h)
hit_same (suc p) h = is_same (suc p)

pub hit_other : (p x : ℕ) → x ≢ p → hit p x ≡ 0
unfolding hit
hit_other p zero h = refl
hit_other p (suc x) h = is-other (suc x) p h

pub hit-le : (p x : ℕ) → hit p x ≤ 1
unfolding hit
hit-le p zero = zero-le
hit-le p (suc x) = is_le (suc x) p

pub hit-eq : (p x : ℕ) → 0 < hit p x → x ≡ p
unfolding hit
hit-eq p zero h = absurd (not-suc-le-zero h)
hit-eq p (suc x) h = is_eq (suc x) p (omega (arith, is_le (suc x) p))

pub hit-sym : (p d : ℕ) → hit p d ≡ hit d p
unfolding hit
hit-sym zero zero = refl
hit-sym zero (suc d) = is-other (suc d) 0 (omega arith)
hit-sym (suc p) zero = sym (is-other (suc p) 0 (omega arith))
hit-sym (suc p) (suc d) = is-sym (suc d) (suc p)

-- nothing holds page 0
pub hit-nobody : (x : ℕ) → hit 0 x ≡ 0
unfolding hit
hit-nobody zero = refl
hit-nobody (suc x) = is-other (suc x) 0 (omega arith)

-- C is 0 only where neither page is
pub pair-zero : (a b q : ℕ) → 0 < q → hit a q + hit b q ≡ 0 → (q ≢ a) × (q ≢ b)
pair-zero a b q h e =
    ((λ i. omega (arith, e, subst (λ (x : ℕ). hit x q ≡ 1) i (hit_same q h))), (λ i. omega (arith, e, subst (λ (x : ℕ). hit x q ≡ 1) i (hit_same q h))))

pub some-pos : (x : ℕ) → 0 < x → some x ≡ 1
unfolding some
some-pos zero h = absurd (not-suc-le-zero h)
some-pos (suc x) h = refl

pub some-zero : some 0 ≡ 0
unfolding some
some-zero = refl

-- each page below P is counted once
pub sum-hit : (P x : ℕ) → x < P → sum P (λ p. hit p x) ≡ some x
unfolding hit some
sum-hit P zero h = sum-none P (λ p. zero) (λ i l. refl)
sum-hit P (suc x) h = sum_is P (suc x) h

-- ---- slots

pub word-zero : (v : Vol) (k : ℕ) → word v 0 k ≡ 0
unfolding word
word-zero v k = refl

pub slot-zero : (v : Vol) (k : ℕ) → slot v 0 k ≡ 0
unfolding slot two word
slot-zero v k = refl

pub two-ext : (w x : ℕ → ℕ) (k : ℕ) → w k ≡ x k → w (suc k) ≡ x (suc k) → two w k ≡ two x k
unfolding two
two-ext w x k a b = ap₂ (λ (m n : ℕ). m * 65536 + n) a b

pub slot_same : (v v' : Vol) (q : ℕ) → ((k : ℕ) → word v' q k ≡ word v q k) → (n : ℕ) → slot v' q n ≡ slot v q n
unfolding slot
slot_same v v' q h n = two-ext (word v' q) (word v q) (2 * n) (h (2 * n)) (h (suc (2 * n)))

-- a block whose words are zero has only zero slots
pub slot-bare : (v : Vol) (q : ℕ) → ((k : ℕ) → word v q k ≡ 0) → (j : ℕ) → slot v q j ≡ 0
unfolding slot two
slot-bare v q h j = omega (arith, h (2 * j), h (suc (2 * j)))

-- ---- volumes that agree off some pages

-- pages at which C is 0 are as they were
unfoldable pub Agree : (ℕ → ℕ) → Vol → Vol → Type 0
Agree C v v' = (q : ℕ) → C q ≡ 0 → (k : ℕ) → word v' q k ≡ word v q k

pub Agree-comp : (C D : ℕ → ℕ) (u v w : Vol) → Agree C u v → Agree D v w → Agree (λ x. C x + D x) u w
unfolding Agree
Agree-comp C D u v w a b q h k = b q (omega (arith, h)) k ∙ a q (omega (arith, h)) k

pub Agree-mono : (C D : ℕ → ℕ) (u v : Vol) → ((q : ℕ) → D q ≡ 0 → C q ≡ 0) → Agree C u v → Agree D u v
unfolding Agree
Agree-mono C D u v h a q z k = a q (h q z) k

-- a write reads its own word of the volume alone
pub put2-same : (v w : Vol) (q j x p k : ℕ) → v p k ≡ w p k → put2 v q j x p k ≡ put2 w q j x p k
unfolding put2 put
put2-same v w q j x p k e = rw e

-- ---- a slot is set

module _ (v : Vol) (b k d : ℕ) (pos : 0 < b) where
  pub slot-here : slot (set_slot v b k d) b k ≡ d
  unfolding slot set_slot
  slot-here = two-ext (word (put2 v b (2 * k) d) b) (put2 v b (2 * k) d b) (2 * k) (word-pos _ b (2 * k) pos) (word-pos _ b (suc (2 * k)) pos) ∙ put2-two v b (2 * k) d

  pub slot-other : (j : ℕ) → j ≢ k → slot (set_slot v b k d) b j ≡ slot v b j
  unfolding slot set_slot
  slot-other j n = two-ext (word (put2 v b (2 * k) d) b) (word v b) (2 * j) (w (2 * j) (omega arith) (omega arith)) (w (suc (2 * j)) (omega arith) (omega arith))
    where
      w : (i : ℕ) → i ≢ 2 * k → i ≢ suc (2 * k) → word (put2 v b (2 * k) d) b i ≡ word v b i
      w i a c = word-ext v (put2 v b (2 * k) d) b i (λ h. put2-word v b (2 * k) d b i a c)

pub set_slot-page : (v : Vol) (b k d q j : ℕ) → q ≢ b → set_slot v b k d q j ≡ v q j
unfolding set_slot
set_slot-page v b k d q j n = put2-page v b (2 * k) d q j n

pub set_slot-agree : (v : Vol) (b k d : ℕ) → Agree (hit b) v (set_slot v b k d)
unfolding Agree
set_slot-agree v b k d q h j = word-ext v (set_slot v b k d) q j (λ i. set_slot-page v b k d q j (λ e. omega (arith, h, subst (λ (x : ℕ). hit x q ≡ 1) e (hit_same q i))))
