-- Pages are taken one after the other: each is chosen when those before it are taken; one induction for all that is then known. Assumes nothing.
use Rattle.std.specs.Prelude.{◌≡◌}
use Rattle.std.proofs.Math.Path.{refl, subst}
use Rattle.std.proofs.Common.{sym, ◌∙◌, not-suc-le-zero}
use Rattle.std.proofs.Math.Logic.{inr}
use Prim.Native.Nat.{ℕ, zero, suc, ◌+◌, ◌≤◌, ◌<◌}
use Rattle.std.proofs.Math.Decide.{ℕ_discrete}
use native.Mathlib.Omega.{arith}
use Rattle.sums.specs.Sum.{sum, sum-at}
use Rattle.book.specs.Bits.{bit, bit_page, bit_word, claim}
use Rattle.book.specs.Entries.{unreserved}
use Rattle.book.specs.Holders.{hit}
use Rattle.book.specs.Words.{Vol, word}
use Rattle.laws.specs.Bits.Choose.{Chooser, chosen, Stock}
use Rattle.laws.specs.Bits.Claim.{FreePage, claim-good, claim-keeps, claim-zero, claim-free, free-pos}
use Rattle.laws.specs.Bits.Marked.{claim-still}
use Rattle.laws.specs.Bits.Taking.{Taking, NoWords, no_words, taking-none, taking-then, claim-taking}
use Rattle.laws.specs.Count.Good.{Good, good, free}
use Rattle.laws.specs.Count.Room.{system-room}
use Rattle.laws.specs.Frame.Places.{only-trans, only-claim, Places, WordsOf, OnlyAt}
use Rattle.laws.specs.Frame.Still.{Still, still-refl, still-trans, bit_page-same}
use Rattle.laws.specs.Tree.Slot.{hit_same}

-- while a page is free, the page chosen is; and so while one is unreserved
pub chosen-free : (choose : Vol → ℕ) {P : ℕ} {v : Vol} {hand : ℕ → ℕ} → Chooser P choose → Good P v hand → 0 < free P v → FreePage P v hand (choose v)
chosen-free choose {P} {v} ch G h = let ok = chosen choose P ch v h in record { good = G; below = ok.0; clear = ok.1 }

pub stock-free : {choose : Vol → ℕ} {P : ℕ} {v : Vol} → Stock choose P v → 1 ≤ unreserved v → FreePage P v (λ p. 0) (choose v)
stock-free {choose} {P} {v} stock have = chosen-free choose stock.choice (good P v stock.sound) (omega (arith, have, system-room P v stock.sound stock.pos))

-- the volume with i pages taken, and the page chosen next
unfoldable pub claims : (Vol → ℕ) → ℕ → Vol → ℕ → Vol
claims choose P v zero = v
claims choose P v (suc i) = claim P (claims choose P v i) (choose (claims choose P v i))

abbrev pub new_page : (Vol → ℕ) → ℕ → Vol → ℕ → ℕ
new_page choose P v i = choose (claims choose P v i)

-- i pages are taken
pub record Claimed (choose : Vol → ℕ) (P : ℕ) (v : Vol) (i : ℕ) : Type 1 where
  pub good : Good P (claims choose P v i) (λ p. sum i (λ j. hit (new_page choose P v j) p))
  pub still : Still P v (claims choose P v i)
  pub left : free P (claims choose P v i) + i ≡ free P v
  pub real : (j : ℕ) → j < i → (0 < new_page choose P v j) × (new_page choose P v j < P)
  pub zero : (j : ℕ) → j < i → (k : ℕ) → word (claims choose P v i) (new_page choose P v j) k ≡ 0
  pub words : (A : Places) → ((j : ℕ) → j < i → (k : ℕ) → A (new_page choose P v j) k)
      → ((j : ℕ) → j < i → (p k : ℕ) → WordsOf (bit_page P v (new_page choose P v j)) (bit_word (new_page choose P v j)) 1 p k → A p k) → OnlyAt A v (claims choose P v i)

module _ {choose : Vol → ℕ} {P : ℕ} {v : Vol} (stock : Stock choose P v) where
  abbrev w : ℕ → Vol
  w i = claims choose P v i

  abbrev new : ℕ → ℕ
  new i = new_page choose P v i

  more : (i : ℕ) → suc i ≤ free P v → Claimed choose P v i → Claimed choose P v (suc i)
  unfolding claims sum
  more i h C = record {
    good = claim-good next;
    still = still-trans P v (w i) (w (suc i)) C.still (claim-still next);
    left = omega (arith, C.left, claim-free next);
    real = λ j a. elim (ℕ_discrete j i) [
      | yes e ↦ subst (λ (x : ℕ). (0 < new x) × (new x < P)) (sym e) (free-pos next, next.below)
      | no ne ↦ C.real j (omega arith)
    ];
    zero = λ j a k. elim (ℕ_discrete j i) [
      | yes e ↦ subst (λ (x : ℕ). word (w (suc i)) (new x) k ≡ 0) (sym e) (claim-zero next k)
      | no ne ↦ let b : j < i = omega arith in
          claim-keeps next (new j) (omega (arith, hit_same (new j) (C.real j b).0, sum-at i (λ x. hit (new x) (new j)) j b)) k ∙ C.zero j b k
    ];
    words = λ A a b. only-trans A v (w i) (w (suc i)) (C.words A (λ j x. a j (omega arith)) (λ j x. b j (omega arith)))
        (only-claim A P (w i) (new i) (λ p k x. b i (omega arith) p k (x.0 ∙ bit_page-same P v (w i) C.still.places (new i), x.1, x.2)) (a i (omega arith)));
  }
    where
      hand : ℕ → ℕ
      hand p = sum i (λ j. hit (new j) p)

      next : FreePage P (w i) hand (new i)
      next = chosen-free choose stock.choice C.good (omega (arith, C.left))

  pub claimed : (i : ℕ) → i ≤ free P v → Claimed choose P v i
  unfolding claims sum
  claimed zero h = record {
    good = good P v stock.sound;
    still = still-refl P v;
    left = omega arith;
    real = λ j a. absurd (not-suc-le-zero a);
    zero = λ j a. absurd (not-suc-le-zero a);
    words = λ A a b p k x. refl;
  }
  claimed (suc i) h = more i h (claimed i (omega arith))

  -- each page is found free when it is chosen
  pub found : (i j : ℕ) → i ≤ free P v → j < i → (new j < P) × (bit P (w j) (new j) ≡ 0)
  found i j h a = chosen choose P stock.choice (w j) (omega (arith, (claimed j (omega arith)).left))

  -- i pages are taken, none is paid
  pub claims-taking : (i : ℕ) → i ≤ free P v → Taking P v (w i) NoWords i 0
  unfolding claims
  claims-taking zero h = taking-none P v
  claims-taking (suc i) h =
      let o : (new i < P) × (bit P (w i) (new i) ≡ 0) = found (suc i) i h (omega arith) in
      taking-then P v (w i) (w (suc i)) NoWords NoWords NoWords i 0 1 0 (suc i) 0 (claims-taking i (omega arith))
      (claim-taking (record { good = (claimed i (omega arith)).good; below = o.0; clear = o.1 })) (omega arith) refl (λ p k q. inr (no_words NoWords p k q))
