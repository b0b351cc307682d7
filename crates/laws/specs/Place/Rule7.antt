-- Rule 7 holds exactly when all its places do. Assumes nothing.
use Rattle.std.specs.Prelude.{◌≡◌}
use Prim.Native.Nat.{ℕ, zero, suc, ◌-◌, ◌*◌, ◌^◌, ◌≤◌, ◌<◌, min}
use Rattle.std.proofs.Math.Decide.{dec_lt}
use native.Mathlib.Omega.{arith}
use Rattle.book.specs.Words.{Vol}
use Rattle.book.specs.Pointers.{flags, page, slot}
use Rattle.book.specs.Trees.{Below, Fill}
use Rattle.book.specs.Entries.{object, used, page_count, file_pointer}
use Rattle.book.specs.Files.{Shape, FileShape}
use Rattle.book.specs.Rules.{Rule7}
use Rattle.book.specs.Spots.{AllHold, when-all, when-hold}
use Rattle.book.specs.Places.{Must, pointers, PointerRight, blocks_of, block_spots, file_spots, spots7}
use Rattle.laws.specs.Place.Rules.{slot-of-none}

-- one pointer of a block with m positions; of index block k with those of n that are its own
one-some : (m s : ℕ) → s < m → 0 < min (m - s * 512 ^ 0) (512 ^ 0)
one-some m s h = omega arith

one_none : (m s : ℕ) → m ≤ s → min (m - s * 512 ^ 0) (512 ^ 0) ≡ 0
one_none m s h = omega arith

some_one : (m s : ℕ) → 0 < min (m - s * 512 ^ 0) (512 ^ 0) → s < m
some_one m s h = omega arith

none-one : (m s : ℕ) → min (m - s * 512 ^ 0) (512 ^ 0) ≡ 0 → m ≤ s
none-one m s h = omega arith

module _ (P : ℕ) (v : Vol) where
  -- a pointer to a page that is there exactly where the position is
  must-fill : (x m s : ℕ) → Must P m s x → Fill v 0 x (min (m - s * 512 ^ 0) (512 ^ 0))
  unfolding Fill
  must-fill x m s a = ((λ q. a.2 (some_one m s q)), λ q. a.1 (none-one m s q))

  fill-must : (x m s : ℕ) → x < P → Fill v 0 x (min (m - s * 512 ^ 0) (512 ^ 0)) → Must P m s x
  unfolding Fill
  fill-must x m s l f = (l, (λ q. f.1 (one_none m s q)), λ q. f.0 (one-some m s q))

  -- of index block k: its own positions, and those from it on
  must-own : (x n k s : ℕ) → s < 512 → Must P (n - k * 512) s x → Must P (min (n - k * 512 ^ 1) (512 ^ 1)) s x
  must-own x n k s h a = (a.0, (λ q. a.1 (omega arith)), λ q. a.2 (omega arith))

  own-must : (x n k s : ℕ) → s < 512 → Must P (min (n - k * 512 ^ 1) (512 ^ 1)) s x → Must P (n - k * 512) s x
  own-must x n k s h a = (a.0, (λ q. a.1 (omega arith)), λ q. a.2 (omega arith))

  module _ (t n : ℕ) where
    pub shape-all : (x : ℕ) → Shape P v x t n → PointerRight P x t n × AllHold (block_spots P v x t n)
    unfolding Shape PointerRight AllHold block_spots pointers Fill Below
    shape-all zero r = (r, tt)
    shape-all (suc zero) r = ((r.0, r.1, r.2.0 r.0, r.3.0), λ s h. fill-must (slot v t s) n s (r.3.1 s h) (r.2.2 s h))
    shape-all (suc (suc zero)) r = (
      (r.0, r.1, r.2.0 (omega (arith, r.0)), r.3.0),
      (
        (λ k h. ((r.3.1 k h).0, (λ q. (r.2.2 k h).1 (omega arith)), λ q. (r.2.2 k h).0 (omega arith))),
        λ k h s l. let m : k < 512 = omega (arith, r.1) in
            own-must (slot v (slot v t k) s) n k s l (fill-must (slot v (slot v t k) s) (min (n - k * 512 ^ 1) (512 ^ 1)) s ((r.3.1 k m).1 s l) ((r.2.2 k m).2 s l)),
      ),
    )
    shape-all (suc (suc (suc x))) r = absurd r

    pub shape-by : (x : ℕ) → PointerRight P x t n → AllHold (block_spots P v x t n) → Shape P v x t n
    unfolding Shape PointerRight AllHold block_spots pointers Fill Below
    shape-by zero p a = p
    shape-by (suc zero) p a = (p.0, p.1, ((λ q. p.2), (λ q. absurd (let z : ⊥ = omega (arith, p.0) in z)), λ s h. must-fill (slot v t s) n s (a s h)), (p.3, λ s h. (a s h).0))
    shape-by (suc (suc zero)) p a = (
      p.0,
      p.1,
      (
        (λ q. p.2),
        (λ q. absurd (let z : ⊥ = omega (arith, p.0) in z)),
        λ k h. (
          (λ q. (a.0 k h).2 (omega arith)),
          (λ q. (a.0 k h).1 (omega arith)),
          λ s l. must-fill (slot v (slot v t k) s) (min (n - k * 512 ^ 1) (512 ^ 1)) s (must-own (slot v (slot v t k) s) n k s l (under k h s l)),
        ),
      ),
      (p.3, λ k h. ((a.0 k h).0, λ s l. (under k h s l).0)),
    )
      where
        -- a block that is not needed is absent, and has only zeros
        under : (k : ℕ) → k < 512 → (s : ℕ) → s < 512 → Must P (n - k * 512) s (slot v (slot v t k) s)
        under k h s l = elim (dec_lt k (blocks_of n)) [
          | yes e ↦ a.1 k e s l
          | no ne ↦
              let z : slot v (slot v t k) s ≡ 0 = slot-of-none v (slot v t k) s ((a.0 k h).1 (omega arith)) in
              (omega (arith, p.3), (λ q. z), λ q. absurd (let y : ⊥ = omega arith in y))
        ]
    shape-by (suc (suc (suc x))) p a = absurd p

  pub all7 : Rule7 P v → AllHold (spots7 P v)
  unfolding AllHold spots7 file_spots Rule7 FileShape
  all7 r e h = when-all (used (object v e)) _ (λ l.
      let f = r e h l in let s = shape-all (page (object v e) file_pointer) (page_count (object v e)) (flags (object v e) file_pointer) f.0 in
      (f.1, (s.0, s.1)))

  pub rule7 : AllHold (spots7 P v) → Rule7 P v
  unfolding AllHold spots7 file_spots Rule7 FileShape
  rule7 a e h l =
      let s = when-hold (used (object v e)) _ (a e h) l in
      (shape-by (page (object v e) file_pointer) (page_count (object v e)) (flags (object v e) file_pointer) s.1.0 s.1.1, s.0)
