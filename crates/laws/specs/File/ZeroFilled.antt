-- Zero-filled names, document 01's first: a volume is sound by its first rules exactly if it is sound and all short names have zeros alone behind them. Assumes nothing.
use Rattle.std.specs.Prelude.{◌≡◌, refl, [], ◌∷◌, ℕ, zero, suc, ◌+◌, ◌-◌, ◌≤◌, ◌<◌, get_or}
use Rattle.std.proofs.Math.Path.{sym, ap}
use Rattle.std.proofs.Common.{◌∙◌, add-zero, eq-zero-or-pos, arith}
use Rattle.std.proofs.Math.Logic.{inl, inr}
use Rattle.std.proofs.Math.Decide.{dec_lt}
use Rattle.std.proofs.Math.ListN.{get_or-eq_default}
use Rattle.sums.specs.Sum.{is, is_same, is_eq, is_le}
use Rattle.sums.specs.Search.{lowest, every, every-yes, every-at, lowest-at, lowest-none, lowest-is}
use Rattle.book.specs.Words.{Words, Vol}
use Rattle.book.specs.Entries.{user, object}
use Rattle.book.specs.Pointers.{volume_name}
use Rattle.book.specs.Names.{Text, byte_at, bytes, ends, end_of, stored, zero_filled}
use Rattle.book.specs.Rules.{Sound, OldSound}
use Rattle.book.specs.Convert.{Filled, AllFilled}
use Rattle.laws.specs.File.Named.{user-legal, object-legal}
use Rattle.laws.specs.File.Readings.{sound-alike}
use Rattle.laws.specs.File.Stored.{bytes-length, bytes-at, letter-not, end-at, end_is, stored-to}

-- behind a zero byte zeros stand
zeros-behind : (i : ℕ) → ◌≡◌ {A = ℕ} (get_or (0 ∷ []) i 0) 0
zeros-behind zero = refl
zeros-behind (suc i) = get_or-eq_default {A = ℕ} [] 0 {n = i} (omega arith)

module _ (n : ℕ) (w : Words) (k : ℕ) where
  abbrev blank : ℕ → ℕ
  blank i = every (λ j. is (byte_at w k (i + j)) 0) (n - i)

  abbrev l : ℕ
  l = lowest blank n

  -- from there on all bytes are zeros
  zero-at : (i : ℕ) → l ≤ i → i < n → byte_at w k i ≡ 0
  zero-at i h j =
      let e : l + (i - l) ≡ i = omega arith in
      let z : 0 < is (byte_at w k (l + (i - l))) 0 = every-at (λ j. is (byte_at w k (l + j)) 0) (n - l) ((lowest-is blank n).there (omega arith)) (i - l) (omega arith) in
      sym (ap (byte_at w k) e) ∙ is_eq _ 0 (omega (arith, z, is_le (byte_at w k (l + (i - l))) 0))

  -- ---- a legal one

  module _ (m : ℕ) (T : Text m n (zero_filled n w k)) where
    ends_there : end_of n w k ≡ l
    unfolding Text zero_filled ends
    ends_there = end-at n w k l (lowest-is blank n).most
        (λ i h. ap ends (sym (bytes-at w k l i h)) ∙ letter-not (get_or (bytes w k l) i 0) (T.2 i (omega (arith, bytes-length w k l))))
        (λ h. omega (arith, is_same 0, ap (λ (b : ℕ). is b 0) (zero-at l (omega arith) h)))

    -- is read alike
    pub alike : stored n w k ≡ zero_filled n w k
    unfolding zero_filled
    alike = stored-to n w k l ends_there

    -- and has zeros alone behind it
    pub old-filled : Filled 0 n w k
    unfolding Filled
    old-filled i h j = zero-at i (omega (arith, h, ends_there)) j ∙ sym (zeros-behind (i - end_of n w k))

  -- ---- the other way about

  module _ (F : Filled 0 n w k) where
    abbrev e : ℕ
    e = end_of n w k

    all-zero : (i : ℕ) → e ≤ i → i < n → byte_at w k i ≡ 0
    unfolding Filled
    all-zero i h j = F i h j ∙ zeros-behind (i - e)

    -- no byte before the end is zero
    not-blank : (j : ℕ) → j < e → blank j ≡ 0
    unfolding ends
    not-blank j h = elim (eq-zero-or-pos (blank j)) [
      | inl z ↦ z
      | inr p ↦
          let m = (end_is n w k).most in
          let z : 0 < is (byte_at w k (j + 0)) 0 = every-at (λ i. is (byte_at w k (j + i)) 0) (n - j) p 0 (omega (arith, h, m)) in
          absurd (let x : ⊥ = omega (arith, z, (end_is n w k).passed j h, ap (λ (i : ℕ). is (byte_at w k i) 0) (add-zero j)) in x)
    ]

    first-blank : lowest blank n ≡ e
    first-blank = elim (dec_lt e n) [
      | yes h ↦ lowest-at blank n e h
          (let y : every (λ j. is (byte_at w k (e + j)) 0) (n - e) ≡ 1 = every-yes (λ j. is (byte_at w k (e + j)) 0) (n - e)
          (λ j i. omega (arith, is_same 0, ap (λ (b : ℕ). is b 0) (all-zero (e + j) (omega arith) (omega arith)))) in omega (arith, y)) not-blank
      | no h ↦ let q : n ≡ e = omega (arith, (end_is n w k).most) in lowest-none blank n (λ j i. not-blank j (omega arith)) ∙ q
    ]

    pub alike-back : zero_filled n w k ≡ stored n w k
    unfolding zero_filled
    alike-back = sym (stored-to n w k (lowest blank n) (sym first-blank))

-- ---- volumes

module _ (P : ℕ) (v : Vol) where
  -- old disks stay good
  pub old-sound : OldSound P v → Sound P v
  old-sound S = sound-alike P v record {
    volume = alike 16 (v 0) volume_name 1 S.r1.name;
    users = λ u h i. alike 16 (user v u) 1 1 (user-legal P v S u h i);
    names = λ e h i. alike 16 (object v e) 1 1 (object-legal P v S e h i).0;
    types = λ e h i. alike 4 (object v e) 9 0 (object-legal P v S e h i).1;
  } S

  -- and all their short names have zeros alone behind them
  pub old-all-filled : OldSound P v → AllFilled 0 v
  old-all-filled S = record {
    volume = old-filled 16 (v 0) volume_name 1 S.r1.name;
    users = λ u h i. old-filled 16 (user v u) 1 1 (user-legal P v S u h i);
    names = λ e h i. old-filled 16 (object v e) 1 1 (object-legal P v S e h i).0;
    types = λ e h i. old-filled 4 (object v e) 9 0 (object-legal P v S e h i).1;
  }

  -- a sound volume that has them so is sound by the first rules
  pub sound-old : Sound P v → AllFilled 0 v → OldSound P v
  sound-old S F = sound-alike P v record {
    volume = alike-back 16 (v 0) volume_name F.volume;
    users = λ u h i. alike-back 16 (user v u) 1 (F.users u h i);
    names = λ e h i. alike-back 16 (object v e) 1 (F.names e h i);
    types = λ e h i. alike-back 4 (object v e) 9 (F.types e h i);
  } S
