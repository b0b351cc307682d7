-- A new volume whose name has leftovers behind its apostrophe, and one whose name begins with the apostrophe. Assumes nothing.
use Rattle.std.specs.Prelude.{◌≡◌, refl, List, [], ◌∷◌, ◌++◌, ℕ, zero, suc, ◌+◌, ◌/◌, ◌<◌, get_or}
use Rattle.std.proofs.Common.{inl, inr, arith}
use Rattle.std.proofs.Math.ListN.{get_or-eq_default}
use Rattle.sums.specs.Sum.{sum, is}
use Rattle.sums.specs.Search.{pick, lowest, every}
use Rattle.book.specs.Words.{two, word, put}
use Rattle.book.specs.Pointers.{flags, page, Zero, volume_name}
use Rattle.book.specs.Trees.{weigh_r, page_at, upto}
use Rattle.book.specs.Bits.{bit, bit_page, bit_file, digit}
use Rattle.book.specs.Holders.{hit, some}
use Rattle.book.specs.Names.{Letter, Text, byte_at, bytes, ends, words_of, stored, zero_filled}
use Rattle.book.specs.Rows.{Lowest}
use Rattle.book.specs.Rules.{Sound, OldSound, rules, rules_of}
use Rattle.laws.specs.Example.Broken.{yard_name, yard-text, yard, first_ends}
use Rattle.laws.specs.Example.BrokenLate.{agree}
use Rattle.laws.specs.Example.Sparse.{Cell, cell, volume}
use Rattle.laws.specs.File.Packed.{Behind, reads-back, legal-back}
use Rattle.laws.specs.Format.Formatted.{Formatted, format-sound}

-- ---- YARD, an apostrophe, and then Old

unfoldable behind : List ℕ
behind = 39 ∷ 79 ∷ 108 ∷ 100 ∷ []

abbrev pub leftovers : List Cell
leftovers = cell 0 1010 10063 ∷ cell 0 1011 27748 ∷ yard

behind-fits : Behind behind
unfolding ends is behind
behind-fits = record { ended = omega arith; small = go }
  where
    go : (i : ℕ) → get_or (39 ∷ 79 ∷ 108 ∷ 100 ∷ []) i 0 < 256
    go zero = omega arith
    go (suc zero) = omega arith
    go (suc (suc zero)) = omega arith
    go (suc (suc (suc zero))) = omega arith
    go (suc (suc (suc (suc i)))) = omega (arith, get_or-eq_default {A = ℕ} [] 0 {n = i} (omega arith))

name-words : (i : ℕ) → i < 16 → volume leftovers 0 (volume_name + i / 2) ≡ words_of (yard_name ++ behind) (i / 2)
unfolding words_of yard_name behind volume put pick is
name-words i h = go (i / 2) (omega arith)
  where
    go : (j : ℕ) → j < 8 → volume leftovers 0 (volume_name + j) ≡ words_of (yard_name ++ behind) j
    go zero l = refl
    go (suc zero) l = refl
    go (suc (suc zero)) l = refl
    go (suc (suc (suc zero))) l = refl
    go (suc (suc (suc (suc zero)))) l = refl
    go (suc (suc (suc (suc (suc zero))))) l = refl
    go (suc (suc (suc (suc (suc (suc zero)))))) l = refl
    go (suc (suc (suc (suc (suc (suc (suc zero))))))) l = refl
    go (suc (suc (suc (suc (suc (suc (suc (suc j)))))))) l = absurd (let r : ⊥ = omega arith in r)

pub leftovers-name : stored 16 (volume leftovers 0) volume_name ≡ yard_name
leftovers-name = reads-back 1 16 yard_name yard-text behind behind-fits (volume leftovers 0) volume_name name-words

leftovers-new : Formatted 16 (volume leftovers)
unfolding Zero bit bit_page bit_file page_at upto page flags digit word two weigh_r sum hit some volume put pick is
leftovers-new = record {
  first = record {
    name = legal-back 1 16 yard_name yard-text behind behind-fits (volume leftovers 0) volume_name name-words;
    unflagged = refl;
    start = omega arith;
    fits = omega arith;
  };
  no_users = (refl, refl);
  no_objs = (refl, refl);
  bits = agree 16 (bit 16 (volume leftovers)) (λ p. is p 0 + weigh_r (volume leftovers) (bit_file 16 (volume leftovers)) (hit p)) refl;
  rest = refl;
}

-- it is sound
pub leftovers-sound : Sound 16 (volume leftovers)
leftovers-sound = format-sound 16 (volume leftovers) (omega arith) leftovers-new

-- by document 01's rules it was not
pub leftovers-old : OldSound 16 (volume leftovers) → ⊥
unfolding Text Letter zero_filled bytes byte_at lowest every volume put pick is
leftovers-old S = no (S.r1.name.2 4 (omega arith))
  where
    no : Letter 39 → ⊥
    no (inl h) = omega (arith, h.0)
    no (inr (inl h)) = omega (arith, h.0)
    no (inr (inr h)) = omega (arith, h)

-- ---- an apostrophe first

abbrev nameless : List Cell
nameless = cell 0 volume_name 10049 ∷ yard

pub apostrophe-first : Lowest (rules 16 (volume nameless)) 1
unfolding rules_of Lowest ends volume put pick is
apostrophe-first = inl (refl, λ r. first_ends (volume nameless 0) volume_name 10049 refl (omega arith) r.name)
