-- Texts written one after the other. Assumes nothing.
use mathlib.Core.Path.{◌≡◌, refl, sym, ap, ap₂, ◌∙◌}
use mathlib.Core.List.{[], ◌∷◌, ◌++◌}
use Prim.Native.Nat.{ℕ, zero, suc, ◌+◌, ◌≤◌, ◌<◌}
use native.Mathlib.Nat.{add-zero, add-suc, suc-add}
use native.Mathlib.Omega.{arith}
use lib.ListN.{length, get_or, set, take, length-append, length-set}
use lib.Seq.{sets, length-sets, length-take-le, take_all, take-suc, get_or-set_same, get_or-set_other}
use native.Mathlib.Numerals.{add-one}
use Rattle.book.specs.Listing.{Bytes, Shown}
use Rattle.listing.specs.Wrote.{Wrote}

-- two runs of stores in a row
pub sets-append : (s t o : Bytes) (at : ℕ) → sets (sets o at s) (at + length s) t ≡ sets o at (s ++ t)
sets-append [] t o at = ap (λ (k : ℕ). sets o k t) (add-zero at)
sets-append (b ∷ s) t o at =
    ap (λ (k : ℕ). sets (sets (set o at b) (suc at) s) k t) (add-suc at (length s) ∙ sym (suc-add at (length s))) ∙ sets-append s t (set o at b) (suc at)

pub wrote_none : (o : Bytes) (at : ℕ) → Wrote [] o at o at
wrote_none o at = record { next = sym (add-zero at); bytes = refl }

pub wrote_then : {s t o out out' : Bytes} {at z r : ℕ} → Wrote s o at out z → Wrote t out z out' r → Wrote (s ++ t) o at out' r
wrote_then {s} {t} {o} {out} {out'} {at} {z} {r} a b = record {
  next = let e : length (s ++ t) ≡ length s + length t = length-append s t in omega (arith, a.next, b.next);
  bytes = b.bytes ∙ ap (λ (k : ℕ). sets out k t) a.next ∙ ap (λ (x : Bytes). sets x (at + length s) t) a.bytes ∙ sets-append s t o at;
}

-- the same text by another name
pub wrote_as : {s t o out : Bytes} {at r : ℕ} → s ≡ t → Wrote s o at out r → Wrote t o at out r
wrote_as {s} {t} {o} {out} {at} {r} e a = record { next = a.next ∙ ap (λ (x : Bytes). at + length x) e; bytes = a.bytes ∙ ap (λ (x : Bytes). sets o at x) e }

-- one byte
pub wrote-byte : {b : ℕ} {o out : Bytes} {at r : ℕ} → out ≡ set o at b → r ≡ at + 1 → Wrote (b ∷ []) o at out r
wrote-byte e n = record { next = n; bytes = e }

-- the bytes of s so far, and one more
pub bytes-more : (s o out out' : Bytes) (at i : ℕ) → i < length s → out ≡ sets o at (take i s) → out' ≡ set out (at + i) (get_or s i 0) → out' ≡ sets o at (take (i + 1) s)
bytes-more s o out out' at i h e n =
    let l : length (take i s) ≡ i = length-take-le i s (omega arith) in
    n ∙ ap₂ (λ (x : Bytes) (k : ℕ). set x (at + k) (get_or s i 0)) e (sym l)
    ∙ sets-append (take i s) (get_or s i 0 ∷ []) o at
    ∙ ap (sets o at) (sym (take-suc s i 0 h) ∙ ap (λ (k : ℕ). take k s) (sym (add-one i)))

pub wrote-all : (s o out : Bytes) (at i r : ℕ) → length s ≤ i → i ≤ length s → out ≡ sets o at (take i s) → r ≡ at + i → Wrote s o at out r
wrote-all s o out at i r a b e n = record { next = omega arith; bytes = e ∙ ap (sets o at) (take_all i s a) }

pub wrote-size : {t o out : Bytes} {at r : ℕ} → Wrote t o at out r → length out ≡ length o
wrote-size {t} {o} {out} {at} {r} a = ap length a.bytes ∙ length-sets o at t

-- ---- a text written from the front on is shown

sets-other : (t o : Bytes) (at i : ℕ) → i < at → get_or (sets o at t) i 0 ≡ get_or o i 0
sets-other [] o at i h = refl
sets-other (b ∷ t) o at i h = sets-other t (set o at b) (suc at) i (omega arith) ∙ get_or-set_other o at i b 0 (λ e. let z : ⊥ = omega arith in z)

sets-at : (t o : Bytes) (at i : ℕ) → at + i < length o → get_or (sets o at t) (at + i) 0 ≡ get_or t i (get_or o (at + i) 0)
sets-at [] o at i h = refl
sets-at (b ∷ t) o at zero h =
    sets-other t (set o at b) (suc at) (at + 0) (omega arith) ∙ ap (λ (k : ℕ). get_or (set o at b) k 0) (add-zero at) ∙ get_or-set_same o at b 0 (omega arith)
sets-at (b ∷ t) o at (suc i) h =
    let s : at + suc i ≡ suc at + i = omega arith in
    ap (λ (k : ℕ). get_or (sets (set o at b) (suc at) t) k 0) s
    ∙ sets-at t (set o at b) (suc at) i (omega (arith, length-set o at b))
    ∙ ap (get_or t i) (get_or-set_other o at (suc at + i) b 0 (λ e. let z : ⊥ = omega arith in z) ∙ ap (λ (k : ℕ). get_or o k 0) (sym s))

pub wrote-shown : {t o out : Bytes} {r : ℕ} → Wrote t o 0 out r → Shown t o out r
wrote-shown {t} {o} {out} {r} w = record {
  whole = omega (arith, w.next);
  size = wrote-size w;
  bytes = λ i h. let s : 0 + i ≡ i = omega arith in
      ap (λ (x : Bytes). get_or x i 0) w.bytes ∙ ap (λ (k : ℕ). get_or (sets o 0 t) k 0) (sym s)
      ∙ sets-at t o 0 i (omega arith) ∙ ap (λ (k : ℕ). get_or t i (get_or o k 0)) s;
}
