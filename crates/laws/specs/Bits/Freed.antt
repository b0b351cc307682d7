-- Freeing pages: bits are marked one after the other, in any order, and the later mark of a bit wins. Assumes nothing.
use Rattle.std.specs.Prelude.{◌≡◌, ◌≢◌}
use Rattle.std.proofs.Math.Path.{refl, sym, ap, ap₂, subst, fun_ext}
use Rattle.std.proofs.Common.{◌∙◌, not-suc-le-zero, arith}
use Prim.Native.Nat.{ℕ, zero, suc, ◌+◌, ◌-◌, ◌*◌, ◌/◌, ◌%◌, ◌≤◌, ◌<◌}
use Rattle.std.proofs.Math.Decide.{ℕ_discrete}
use Rattle.book.specs.Bits.{digit, to_digit, bit_page_of, bit_word, bit_place, bit_page, bit, mark, mark_all, freed}
use Rattle.book.specs.Holders.{hit}
use Rattle.book.specs.Pointers.{page, bit_pointer}
use Rattle.book.specs.Rules.{Rule1}
use Rattle.book.specs.Words.{Vol, word, put}
use Rattle.book.specs.Written.{word-pos, put-here, put-page, put_word}
use Rattle.laws.specs.Bits.Claim.{bit_page-is}
use Rattle.laws.specs.Bits.Mark.{mark-page, mark-master, mark-bit, mark-other}
use Rattle.laws.specs.Count.Good.{bit_le}
use Rattle.laws.specs.Frame.Renewed.{master-words, rule1}
use Rattle.laws.specs.Tree.Pointer.{page-ext}
use Rattle.laws.specs.Tree.Slot.{hit_same, hit_other}

-- ---- the bits of a word

digit-own : (j w : ℕ) → to_digit j w (digit j w) ≡ w
unfolding digit to_digit
digit-own zero w = omega arith
digit-own (suc j) w = omega (arith, digit-own j (w / 2))

digit-twice : (j w x y : ℕ) → x < 2 → to_digit j (to_digit j w x) y ≡ to_digit j w y
unfolding to_digit
digit-twice zero w x y h = omega arith
digit-twice (suc j) w x y h =
    let A : ℕ = to_digit j (w / 2) x in
    let e : (A * 2 + w % 2) / 2 ≡ A = omega arith in
    omega (arith, ap (λ (a : ℕ). to_digit j a y) e, digit-twice j (w / 2) x y h)

digit-swap : (i j w x y : ℕ) → i ≢ j → x < 2 → y < 2 → to_digit i (to_digit j w x) y ≡ to_digit j (to_digit i w y) x
unfolding to_digit
digit-swap zero zero w x y n hx hy = absurd (n refl)
digit-swap zero (suc j) w x y n hx hy =
    let e : (w / 2 * 2 + y) / 2 ≡ w / 2 = omega arith in
    omega (arith, ap (λ (a : ℕ). to_digit j a x) e)
digit-swap (suc i) zero w x y n hx hy =
    let e : (w / 2 * 2 + x) / 2 ≡ w / 2 = omega arith in
    omega (arith, ap (λ (a : ℕ). to_digit i a y) e)
digit-swap (suc i) (suc j) w x y n hx hy =
    let A : ℕ = to_digit j (w / 2) x in let B : ℕ = to_digit i (w / 2) y in
    let a : (A * 2 + w % 2) / 2 ≡ A = omega arith in let b : (B * 2 + w % 2) / 2 ≡ B = omega arith in
    omega (arith, ap (λ (z : ℕ). to_digit i z y) a, ap (λ (z : ℕ). to_digit j z x) b, digit-swap i j (w / 2) x y (λ q. n (ap suc q)) hx hy)

-- ---- one word of a volume

-- a volume is told by that word and all others
put-told : (v w : Vol) (q j x : ℕ) → w q j ≡ x → ((p k : ℕ) → (p ≡ q → k ≡ j → ⊥) → w p k ≡ v p k) → put v q j x ≡ w
put-told v w q j x h o = fun_ext (λ p. fun_ext (λ k. at p k))
  where
    at : (p k : ℕ) → put v q j x p k ≡ w p k
    at p k = elim (ℕ_discrete p q) [
      | no a ↦ put-page v q j x p k a ∙ sym (o p k (λ e i. a e))
      | yes e ↦ elim (ℕ_discrete k j) [
        | no a ↦ put_word v q j x p k a ∙ sym (o p k (λ i e. a e))
        | yes i ↦ ap₂ (put v q j x) e i ∙ put-here v q j x ∙ sym (ap₂ w e i ∙ h)
      ]
    ]

put-else : (v : Vol) (q j x p k : ℕ) → (p ≡ q → k ≡ j → ⊥) → put v q j x p k ≡ v p k
put-else v q j x p k n = elim (ℕ_discrete p q) [ no a ↦ put-page v q j x p k a | yes e ↦ put_word v q j x p k (n e) ]

put-twice : (v : Vol) (q j x y : ℕ) → put (put v q j x) q j y ≡ put v q j y
put-twice v q j x y = put-told (put v q j x) (put v q j y) q j y (put-here v q j y) (λ p k n. put-else v q j y p k n ∙ sym (put-else v q j x p k n))

put-swap : (v : Vol) (q j x q' j' y : ℕ) → (q' ≡ q → j' ≡ j → ⊥) → put (put v q j x) q' j' y ≡ put (put v q' j' y) q j x
put-swap v q j x q' j' y n = put-told (put v q j x) w q' j' y (put-else (put v q' j' y) q j x q' j' n ∙ put-here v q' j' y) other
  where
    w : Vol
    w = put (put v q' j' y) q j x

    other : (p k : ℕ) → (p ≡ q' → k ≡ j' → ⊥) → w p k ≡ put v q j x p k
    other p k m = elim (ℕ_discrete p q) [
      | no a ↦ put-page (put v q' j' y) q j x p k a ∙ put-else v q' j' y p k m ∙ sym (put-page v q j x p k a)
      | yes e ↦ elim (ℕ_discrete k j) [
        | no a ↦ put_word (put v q' j' y) q j x p k a ∙ put-else v q' j' y p k m ∙ sym (put_word v q j x p k a)
        | yes i ↦ ap₂ w e i ∙ put-here (put v q' j' y) q j x ∙ sym (ap₂ (put v q j x) e i ∙ put-here v q j x)
      ]
    ]

-- ---- one bit of a volume: bit j of word k of page b

abbrev set_bit : Vol → ℕ → ℕ → ℕ → ℕ → Vol
set_bit v b k j x = put v b k (to_digit j (v b k) x)

set_own : (v : Vol) (b k j : ℕ) → set_bit v b k j (digit j (v b k)) ≡ v
set_own v b k j = ap (put v b k) (digit-own j (v b k)) ∙ put-told v v b k (v b k) refl (λ p i n. refl)

set_here : (v : Vol) (b k j x : ℕ) → set_bit v b k j x b k ≡ to_digit j (v b k) x
set_here v b k j x = put-here v b k (to_digit j (v b k) x)

set_twice : (v : Vol) (b k j x y : ℕ) → x < 2 → set_bit (set_bit v b k j x) b k j y ≡ set_bit v b k j y
set_twice v b k j x y h =
    ap (λ (z : ℕ). put (set_bit v b k j x) b k (to_digit j z y)) (set_here v b k j x)
    ∙ ap (put (set_bit v b k j x) b k) (digit-twice j (v b k) x y h) ∙ put-twice v b k (to_digit j (v b k) x) (to_digit j (v b k) y)

-- two bits of one word, and bits of two words
set-near : (v : Vol) (b k i j x y : ℕ) → i ≢ j → x < 2 → y < 2 → set_bit (set_bit v b k i x) b k j y ≡ set_bit (set_bit v b k j y) b k i x
set-near v b k i j x y n hx hy =
    one i j x y ∙ ap (put v b k) (digit-swap j i (v b k) x y (λ e. n (sym e)) hx hy) ∙ sym (one j i y x)
  where
    one : (i j x y : ℕ) → set_bit (set_bit v b k i x) b k j y ≡ put v b k (to_digit j (to_digit i (v b k) x) y)
    one i j x y = ap (λ (z : ℕ). put (set_bit v b k i x) b k (to_digit j z y)) (set_here v b k i x) ∙ put-twice v b k (to_digit i (v b k) x) _

set-far : (v : Vol) (b k i b' k' j x y : ℕ) → (b' ≡ b → k' ≡ k → ⊥) → set_bit (set_bit v b k i x) b' k' j y ≡ set_bit (set_bit v b' k' j y) b k i x
set-far v b k i b' k' j x y n =
    ap (λ (z : ℕ). put (set_bit v b k i x) b' k' (to_digit j z y)) (put-else v b k _ b' k' n)
    ∙ put-swap v b k (to_digit i (v b k) x) b' k' (to_digit j (v b' k') y) n
    ∙ ap (λ (z : ℕ). put (set_bit v b' k' j y) b k (to_digit i z x)) (sym (put-else v b' k' _ b k (λ e h. n (sym e) (sym h))))

-- ---- marks

-- the page of p's bit
abbrev B : Vol → ℕ → ℕ
B v p = page (v 0) bit_pointer + bit_page_of p

-- p's bit becomes x
abbrev set_at : Vol → ℕ → ℕ → ℕ → Vol
set_at v b p x = set_bit v (b + bit_page_of p) (bit_word p) (bit_place p) x

module _ (P : ℕ) (v : Vol) (r : Rule1 P v) where
  mark-is : (p x : ℕ) → p < P → mark P v p x ≡ set_at v (page (v 0) bit_pointer) p x
  unfolding mark
  mark-is p x h = ap (λ (b : ℕ). put v b (bit_word p) (to_digit (bit_place p) (word v b (bit_word p)) x)) (bit_page-is P v r p h)
      ∙ ap (λ (w : ℕ). put v (B v p) (bit_word p) (to_digit (bit_place p) w x)) (word-pos v (B v p) (bit_word p) (omega (arith, r.start)))

  -- a page's own bit
  pub mark-own : (p : ℕ) → p < P → mark P v p (bit P v p) ≡ v
  unfolding bit
  mark-own p h = ap (λ (b : ℕ). mark P v p (digit (bit_place p) (word v b (bit_word p)))) (bit_page-is P v r p h)
      ∙ ap (λ (w : ℕ). mark P v p (digit (bit_place p) w)) (word-pos v (B v p) (bit_word p) (omega (arith, r.start)))
      ∙ mark-is p _ h ∙ set_own v (B v p) (bit_word p) (bit_place p)

  pub mark-rule : (p x : ℕ) → p < P → x < 2 → Rule1 P (mark P v p x)
  mark-rule p x h hx = rule1 P v (mark P v p x) (master-words v (mark P v p x) (λ k a b. mark-master P v r p x h hx k)) r

module _ (P : ℕ) (v : Vol) (r : Rule1 P v) where
  abbrev b : ℕ
  b = page (v 0) bit_pointer

  module _ (p x : ℕ) (h : p < P) (hx : x < 2) where
    -- a second mark
    next : (q y : ℕ) → q < P → mark P (mark P v p x) q y ≡ set_at (set_at v b p x) b q y
    next q y i =
        mark-is P (mark P v p x) (mark-rule P v r p x h hx) q y i
        ∙ ap (λ (c : ℕ). set_at (mark P v p x) c q y) (page-ext (mark P v p x 0) (v 0) bit_pointer (mark-master P v r p x h hx _) (mark-master P v r p x h hx _))
        ∙ ap (λ (w : Vol). set_at w b q y) (mark-is P v r p x h)

    pub mark-twice : (y : ℕ) → mark P (mark P v p x) p y ≡ mark P v p y
    mark-twice y = next p y h ∙ set_twice v (B v p) (bit_word p) (bit_place p) x y hx ∙ sym (mark-is P v r p y h)

  pub mark-swap : (p x q y : ℕ) → p < P → q < P → x < 2 → y < 2 → p ≢ q → mark P (mark P v p x) q y ≡ mark P (mark P v q y) p x
  mark-swap p x q y hp hq hx hy n = next p x hp hx q y hq ∙ apart ∙ sym (next q y hq hy p x hp)
    where
      apart : set_at (set_at v b p x) b q y ≡ set_at (set_at v b q y) b p x
      apart = elim (ℕ_discrete (p / 16) (q / 16)) [
        | yes e ↦
            let eb : B v q ≡ B v p = omega arith in let ew : bit_word q ≡ bit_word p = omega arith in
            ap₂ (λ (c k : ℕ). set_bit (set_at v b p x) c k (bit_place q) y) eb ew
            ∙ set-near v (B v p) (bit_word p) (bit_place p) (bit_place q) x y (λ i. n (omega arith)) hx hy
            ∙ ap₂ (λ (c k : ℕ). set_at (set_bit v c k (bit_place q) y) b p x) (sym eb) (sym ew)
        | no ne ↦ set-far v (B v p) (bit_word p) (bit_place p) (B v q) (bit_word q) (bit_place q) x y (λ c k. ne (omega arith))
      ]

-- ---- all marks

module _ (P : ℕ) where
  mark_all-ext : (v : Vol) (f g : ℕ → ℕ) (n : ℕ) → ((p : ℕ) → p < n → f p ≡ g p) → mark_all P v f n ≡ mark_all P v g n
  unfolding mark_all
  mark_all-ext v f g zero h = refl
  mark_all-ext v f g (suc n) h = ap₂ (λ (w : Vol) (x : ℕ). mark P w n x) (mark_all-ext v f g n (λ p i. h p (omega arith))) (h n (omega arith))

  mark_all-own : (v : Vol) → Rule1 P v → (n : ℕ) → n ≤ P → mark_all P v (bit P v) n ≡ v
  unfolding mark_all
  mark_all-own v r zero h = refl
  mark_all-own v r (suc n) h = ap (λ (w : Vol). mark P w n (bit P v n)) (mark_all-own v r n (omega arith)) ∙ mark-own P v r n h

  module _ (f : ℕ → ℕ) (small : (p : ℕ) → f p < 2) where
    mark_all-rule : (v : Vol) → Rule1 P v → (n : ℕ) → n ≤ P → Rule1 P (mark_all P v f n)
    unfolding mark_all
    mark_all-rule v r zero h = r
    mark_all-rule v r (suc n) h = mark-rule P (mark_all P v f n) (mark_all-rule v r n (omega arith)) n (f n) h (small n)

    mark_all-low : (v : Vol) → Rule1 P v → (n : ℕ) → n ≤ P → (p : ℕ) → p < n → bit P (mark_all P v f n) p ≡ f p
    unfolding mark_all
    mark_all-low v r zero h p i = absurd (not-suc-le-zero i)
    mark_all-low v r (suc n) h p i =
        let w : Vol = mark_all P v f n in let rw' : Rule1 P w = mark_all-rule v r n (omega arith) in
        elim (ℕ_discrete p n) [
          | yes e ↦ subst (λ (y : ℕ). bit P (mark P w n (f n)) y ≡ f y) (sym e) (mark-bit P w rw' n (f n) h (small n))
          | no ne ↦ mark-other P w rw' n (f n) h (small n) p (omega arith) ne ∙ mark_all-low v r n (omega arith) p (omega arith)
        ]

    mark_all-master : (v : Vol) → Rule1 P v → (n : ℕ) → n ≤ P → (k : ℕ) → mark_all P v f n 0 k ≡ v 0 k
    unfolding mark_all
    mark_all-master v r zero h k = refl
    mark_all-master v r (suc n) h k =
        mark-master P (mark_all P v f n) (mark_all-rule v r n (omega arith)) n (f n) h (small n) k ∙ mark_all-master v r n (omega arith) k

    -- pages that hold none of the bits
    mark_all-page : (v : Vol) → Rule1 P v → (q k : ℕ) → ((p : ℕ) → p < P → q ≢ B v p) → (n : ℕ) → n ≤ P → mark_all P v f n q k ≡ v q k
    unfolding mark_all
    mark_all-page v r q k i zero h = refl
    mark_all-page v r q k i (suc n) h =
        let w : Vol = mark_all P v f n in let r' : Rule1 P w = mark_all-rule v r n (omega arith) in
        let same : B w n ≡ B v n = ap (λ (x : ℕ). x + bit_page_of n) (page-ext (w 0) (v 0) bit_pointer (mark_all-master v r n (omega arith) _) (mark_all-master v r n (omega arith) _)) in
        mark-page P w r' n (f n) h (small n) q k (λ e. i n h (e ∙ bit_page-is P w r' n h ∙ same)) ∙ mark_all-page v r q k i n (omega arith)

    -- a mark beyond comes last; one among them is overwritten
    mark_all-past : (v : Vol) → Rule1 P v → (p x : ℕ) → p < P → x < 2 → (n : ℕ) → n ≤ p → mark_all P (mark P v p x) f n ≡ mark P (mark_all P v f n) p x
    unfolding mark_all
    mark_all-past v r p x hp hx zero h = refl
    mark_all-past v r p x hp hx (suc n) h =
        ap (λ (w : Vol). mark P w n (f n)) (mark_all-past v r p x hp hx n (omega arith))
        ∙ mark-swap P (mark_all P v f n) (mark_all-rule v r n (omega arith)) p x n (f n) hp (omega arith) hx (small n) (omega arith)

    mark_all-over : (v : Vol) → Rule1 P v → (p x : ℕ) → x < 2 → (n : ℕ) → n ≤ P → p < n → mark_all P (mark P v p x) f n ≡ mark_all P v f n
    unfolding mark_all
    mark_all-over v r p x hx zero h i = absurd (not-suc-le-zero i)
    mark_all-over v r p x hx (suc n) h i = elim (ℕ_discrete p n) [
      | yes e ↦ subst (λ (y : ℕ). mark P (mark_all P (mark P v y x) f n) n (f n) ≡ mark P (mark_all P v f n) n (f n)) (sym e)
          (ap (λ (w : Vol). mark P w n (f n)) (mark_all-past v r n x h hx n (omega arith)) ∙ mark-twice P (mark_all P v f n) (mark_all-rule v r n (omega arith)) n x h hx (f n))
      | no ne ↦ ap (λ (w : Vol). mark P w n (f n)) (mark_all-over v r p x hx n (omega arith) (omega arith))
    ]

  mark_all-again : (f g : ℕ → ℕ) → ((p : ℕ) → f p < 2) → ((p : ℕ) → g p < 2) → (v : Vol) → Rule1 P v → (n : ℕ) → n ≤ P → mark_all P (mark_all P v f n) g P ≡ mark_all P v g P
  unfolding mark_all
  mark_all-again f g sf sg v r zero h = refl
  mark_all-again f g sf sg v r (suc n) h =
      mark_all-over g sg (mark_all P v f n) (mark_all-rule f sf v r n (omega arith)) n (f n) (sf n) P (omega arith) h ∙ mark_all-again f g sf sg v r n (omega arith)

-- ---- pages freed

module _ (P : ℕ) (v : Vol) (r : Rule1 P v) where
  abbrev left : (ℕ → ℕ) → ℕ → ℕ
  left g p = bit P v p - g p

  left_lt : (g : ℕ → ℕ) (p : ℕ) → left g p < 2
  left_lt g p = omega (arith, bit_le P v p)

  pub freed-rule : (g : ℕ → ℕ) → Rule1 P (freed P v g)
  unfolding freed
  freed-rule g = mark_all-rule P (left g) (left_lt g) v r P (omega arith)

  -- only the bit file changes
  pub freed-page : (g : ℕ → ℕ) (q k : ℕ) → ((p : ℕ) → p < P → q ≢ bit_page P v p) → freed P v g q k ≡ v q k
  unfolding freed
  freed-page g q k i = mark_all-page P (left g) (left_lt g) v r q k (λ p h e. i p h (e ∙ sym (bit_page-is P v r p h))) P (omega arith)

  pub freed-master : (g : ℕ → ℕ) (k : ℕ) → freed P v g 0 k ≡ v 0 k
  unfolding freed
  freed-master g k = mark_all-master P (left g) (left_lt g) v r P (omega arith) k

  pub freed-ext : (g h : ℕ → ℕ) → ((p : ℕ) → p < P → g p ≡ h p) → freed P v g ≡ freed P v h
  unfolding freed
  freed-ext g h e = mark_all-ext P v (left g) (left h) P (λ p i. ap (λ (x : ℕ). bit P v p - x) (e p i))

  -- no page
  pub freed-none : (g : ℕ → ℕ) → ((p : ℕ) → p < P → g p ≡ 0) → freed P v g ≡ v
  unfolding freed
  freed-none g z = mark_all-ext P v (left g) (bit P v) P (λ p i. omega (arith, z p i)) ∙ mark_all-own P v r P (omega arith)

  -- one page
  pub freed-one : (d : ℕ) → 0 < d → d < P → mark P v d 0 ≡ freed P v (λ p. hit p d)
  unfolding freed
  freed-one d pd hd = sym (
      mark_all-ext P v (left (λ p. hit p d)) (bit P w) P same
      ∙ sym (mark_all-over P (bit P w) (λ p. omega (arith, bit_le P w p)) v r d 0 (omega arith) P (omega arith) hd)
      ∙ mark_all-own P w (mark-rule P v r d 0 hd (omega arith)) P (omega arith))
    where
      w : Vol
      w = mark P v d 0

      same : (p : ℕ) → p < P → bit P v p - hit p d ≡ bit P w p
      same p h = elim (ℕ_discrete p d) [
        | yes e ↦ subst (λ (y : ℕ). bit P v y - hit y d ≡ bit P w y) (sym e) (omega (arith, hit_same d pd, bit_le P v d, mark-bit P v r d 0 hd (omega arith)))
        | no n ↦ omega (arith, hit_other p d (λ e. n (sym e)), mark-other P v r d 0 hd (omega arith) p h n)
      ]

  -- first some, then others
  pub freed-more : (g h : ℕ → ℕ) → freed P (freed P v g) h ≡ freed P v (λ p. g p + h p)
  unfolding freed
  freed-more g h =
      let w : Vol = mark_all P v (left g) P in
      let s : ℕ → ℕ = λ p. bit P w p - h p in
      mark_all-again P (left g) s (left_lt g) (λ p. omega (arith, bit_le P w p)) v r P (omega arith)
      ∙ mark_all-ext P v s (left (λ p. g p + h p)) P (λ p i. omega (arith, mark_all-low P (left g) (left_lt g) v r P (omega arith) p i))
