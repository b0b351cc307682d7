-- A volume that is in order is its own mended volume: so is a sound one of 16-bit words, and so is any mended one. Assumes nothing.
use Rattle.std.specs.Prelude.{◌≡◌}
use Rattle.std.proofs.Math.Path.{refl, sym, ap, ap₂, fun_ext}
use Rattle.std.proofs.Common.{◌∙◌, subst, subst₂, eq-zero-or-pos}
use Rattle.std.proofs.Math.Logic.{inl, inr}
use Prim.Native.Nat.{ℕ, zero, suc, ◌+◌, ◌-◌, ◌*◌, ◌/◌, ◌%◌, ◌≤◌, ◌<◌}
use Rattle.std.proofs.Math.Decide.{ℕ_discrete}
use native.Mathlib.Omega.{arith}
use Rattle.book.specs.Bits.{bit, mark_all}
use Rattle.book.specs.Entries.{entry, user, used, used_pages, user_page, entry_word, unreserved}
use Rattle.book.specs.Holders.{some, mine, holders}
use Rattle.book.specs.Rules.{Rule4Over, Rule8, Rule10, Sound, Pointed}
use Rattle.book.specs.Words.{Vol, two, put2}
use Rattle.book.specs.Written.{put2-hi, put2-lo, put2-page, put2-word, word-pos}
use Rattle.book.specs.Salvage.{Affords, counted, spent, balanced, mended}
use Rattle.laws.specs.Bits.Painted.{painted}
use Rattle.laws.specs.Count.Good.{bit-holders}
use Rattle.laws.specs.Salvage.Counted.{has-page, counted-yes, counted-no}
use Rattle.laws.specs.Salvage.Mended.{SameTrees, same-trees, some-le, mended-count, mended-left, mended-sound, spent-mended, used-mended}
use Rattle.laws.specs.Tree.Slot.{some-pos, some-zero}

-- a sound volume's pointers are good, and it affords what it holds
pub sound-pointed : (P : ℕ) (v : Vol) → Sound P v → Pointed P v
unfolding Rule4Over
sound-pointed P v S = record {
  r1 = S.r1;
  r2 = S.r2;
  r3 = S.r3;
  r4 = ((λ u h q. let o = S.r4.0 u h q in record { own = o.own; name = o.name; within = tt }), S.r4.1);
  r5 = S.r5;
  r6 = S.r6;
  r7 = S.r7;
  r8 = S.r8;
  r9 = tt;
  r10 = tt;
}

pub sound-affords : (P : ℕ) (v : Vol) → Sound P v → Affords P v
unfolding Rule4Over Rule10 spent
sound-affords P v S = record { users = λ u h q. omega (arith, S.r10.0 u h q, (S.r4.0 u h q).within); left = omega (arith, S.r10.1) }

-- a two-word number that is written as it was
put2-idle : (v : Vol) (q j x : ℕ) → v q j ≡ x / 65536 → v q (suc j) ≡ x % 65536 → put2 v q j x ≡ v
put2-idle v q j x a c = fun_ext (λ p. fun_ext (λ k. at p k))
  where
    at : (p k : ℕ) → put2 v q j x p k ≡ v p k
    at p k = elim (ℕ_discrete p q) [
      | no n ↦ put2-page v q j x p k n
      | yes e ↦ elim (ℕ_discrete k j) [
        | yes i ↦ subst₂ (λ (y z : ℕ). put2 v q j x y z ≡ v y z) (sym e) (sym i) (put2-hi v q j x ∙ sym a)
        | no m ↦ elim (ℕ_discrete k (suc j)) [
          | yes i ↦ subst₂ (λ (y z : ℕ). put2 v q j x y z ≡ v y z) (sym e) (sym i) (put2-lo v q j x ∙ sym c)
          | no o ↦ put2-word v q j x p k m o
        ]
      ]
    ]

-- in order: sound, and both halves of each count stand as salvage would write them
pub record InOrder (P : ℕ) (v : Vol) : Type 0 where
  pub sound : Sound P v
  pub counts : (u : ℕ) → u < 256 → 0 < used (user v u) → (v (user_page v u) (entry_word u + 16) ≡ mine v u some / 65536) × (v (user_page v u) (suc (entry_word u + 16)) ≡ mine v u some % 65536)
  pub left : (v 0 1022 ≡ (P - spent P v) / 65536) × (v 0 1023 ≡ (P - spent P v) % 65536)

module _ (P : ℕ) (v : Vol) (S : InOrder P v) (pos : 0 < P) where
  counted-idle : (n : ℕ) → n ≤ 256 → counted v n ≡ v
  unfolding counted
  counted-idle zero h = refl
  counted-idle (suc n) h = elim (eq-zero-or-pos (used (user v n))) [
    | inl z ↦ counted-no v n z ∙ counted-idle n (omega arith)
    | inr q ↦ let c = S.counts n (omega arith) q in
        counted-yes v n q ∙ ap (λ (w : Vol). put2 w (user_page v n) (entry_word n + 16) (mine v n some)) (counted-idle n (omega arith))
        ∙ put2-idle v (user_page v n) (entry_word n + 16) (mine v n some) c.0 c.1
  ]

  balanced-idle : balanced P v ≡ v
  unfolding balanced
  balanced-idle = ap (λ (w : Vol). put2 w 0 1022 (P - spent P v)) (counted-idle 256 (omega arith)) ∙ put2-idle v 0 1022 (P - spent P v) S.left.0 S.left.1

  bits-right : (p : ℕ) → p < P → some (holders P v p) ≡ bit P v p
  unfolding Rule8
  bits-right p h = elim (eq-zero-or-pos (holders P v p)) [
    | inl z ↦ omega (arith, ap some z, some-zero, bit-holders P v S.sound p h, z)
    | inr q ↦ omega (arith, some-pos (holders P v p) q, bit-holders P v S.sound p h, S.sound.r8 p h, q)
  ]

  pub in-order-mended : mended P v ≡ v
  unfolding mended
  in-order-mended = ap (λ (w : Vol). mark_all P w f P) balanced-idle ∙ fun_ext (λ p. fun_ext (λ k.
      (painted P v S.sound.r1 f (λ p. some-le (holders P v p)) P (omega arith)).words p k
      (λ c. c.2 (bits-right c.0 c.1))))
    where
      f : ℕ → ℕ
      f p = some (holders P v p)

-- ---- a mended volume

module _ (P : ℕ) (v : Vol) (S : Pointed P v) (pos : 0 < P) (A : Affords P v) where
  abbrev w : Vol
  w = mended P v

  T : SameTrees P v w
  T = same-trees P v S pos

  mended-in-order : InOrder P w
  mended-in-order = record {
    sound = mended-sound P v S pos A;
    counts = λ u h q. let c = mended-count P v S pos u h (omega (arith, used-mended P v S pos u h)) in
        subst₂ (λ (y m : ℕ). (w y (entry_word u + 16) ≡ m / 65536) × (w y (suc (entry_word u + 16)) ≡ m % 65536)) (sym (T.user_pages u)) (sym (T.mines u h some)) c;
    left = subst (λ (s : ℕ). (w 0 1022 ≡ (P - s) / 65536) × (w 0 1023 ≡ (P - s) % 65536)) (sym (spent-mended P v S pos)) (mended-left P v S pos);
  }

  -- a second run changes nothing
  pub mended-again : mended P w ≡ w
  mended-again = in-order-mended P w mended-in-order pos

-- ---- a sound volume of 16-bit words

-- each word fits 16 bits
abbrev pub Narrow : Vol → Type 0
Narrow v = (p k : ℕ) → v p k < 65536

module _ (P : ℕ) (v : Vol) (S : Sound P v) (pos : 0 < P) (N : Narrow v) where
  count-words : (u : ℕ) → 0 < used (user v u) → used_pages (user v) u ≡ v (user_page v u) (entry_word u + 16) * 65536 + v (user_page v u) (suc (entry_word u + 16))
  unfolding used_pages two user entry user_page
  count-words u q = let h : 0 < user_page v u = has-page v u q in let z : entry_word u + 17 ≡ suc (entry_word u + 16) = omega arith in
      ap₂ (λ (x y : ℕ). x * 65536 + y) (word-pos v (user_page v u) (entry_word u + 16) h) (word-pos v (user_page v u) (entry_word u + 17) h ∙ ap (v (user_page v u)) z)

  sound-in-order : InOrder P v
  unfolding Rule10 spent unreserved two
  sound-in-order = record {
    sound = S;
    counts = λ u h q. let e : mine v u some ≡ v (user_page v u) (entry_word u + 16) * 65536 + v (user_page v u) (suc (entry_word u + 16)) = sym (S.r10.0 u h q) ∙ count-words u q in
        (omega (arith, e, N (user_page v u) (suc (entry_word u + 16))), omega (arith, e, N (user_page v u) (suc (entry_word u + 16))));
    left = let e : P - spent P v ≡ v 0 1022 * 65536 + v 0 1023 = omega (arith, S.r10.1) in (omega (arith, e, N 0 1023), omega (arith, e, N 0 1023));
  }

  pub sound-mended : mended P v ≡ v
  sound-mended = in-order-mended P v sound-in-order pos
