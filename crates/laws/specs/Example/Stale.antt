-- The yard's volume with its first user, whatever his used count, unreserved and a word of the bit file say: salvage asks nothing of them, and makes them right. Assumes nothing.
use Rattle.std.specs.Prelude.{◌≡◌, refl, false, ℕ, ◌+◌, ◌*◌, ◌<◌}
use Rattle.std.proofs.Math.Path.{sym, ap, subst}
use Rattle.std.proofs.Common.{◌∙◌, arith}
use Rattle.std.proofs.Math.Decide.{dec_lt}
use Rattle.sums.specs.Search.{pick, pick_yes, pick_no}
use Rattle.sums.specs.Sum.{is, sum-none}
use Rattle.book.specs.Bits.{bit}
use Rattle.book.specs.Entries.{user, used, given, grant, used_pages, unreserved}
use Rattle.book.specs.Holders.{hit, mine, some, system_pages}
use Rattle.book.specs.Names.{stored}
use Rattle.book.specs.Rules.{UserOkOver, Sound, Pointed}
use Rattle.book.specs.Salvage.{Affords, spent, mended}
use Rattle.book.specs.Words.{Vol, two, put}
use Rattle.laws.specs.Example.BrokenLate.{a-legal}
use Rattle.laws.specs.Example.FirstUser.{first_user, words, only, nothing, named, keeps1, keeps2, keeps3, keeps5, keeps8, held, held_by_lem}
use Rattle.laws.specs.Example.Sparse.{volume, Off, volume-off}
use Rattle.laws.specs.Format.Formatted.{rule6-none, rule7-none, all-system, mine-none}
use Rattle.laws.specs.Salvage.Mended.{mended-sound, mended-used, mended-unreserved, mended-bits}
use Rattle.laws.specs.Tree.Slot.{some-zero}

module _ (x y z : ℕ) where
  abbrev v : Vol
  v = volume (first_user x y z)

  user-named : UserOkOver stored false (user v) 0
  unfolding volume put pick is Off
  user-named = record {
    own = words x y z 18;
    name = (a-legal (user v 0) (words x y z 1) (λ k a b. words x y z k ∙ volume-off (first_user x y z) 2 (32 * 0 + k) (omega arith))).0;
    within = tt;
  }

  pub stale-pointed : Pointed 154 v
  stale-pointed = record {
    r1 = keeps1 x y z;
    r2 = keeps2 x y z;
    r3 = keeps3 x y z;
    r4 = named x y z false user-named;
    r5 = keeps5 x y z;
    r6 = rule6-none v (nothing x y z);
    r7 = rule7-none v (nothing x y z) 154;
    r8 = keeps8 x y z;
    r9 = tt;
    r10 = tt;
  }

  -- nobody was given a page, and no file holds one
  none-given : (u : ℕ) → grant (user v) u ≡ 0
  unfolding grant given two volume put pick is
  none-given u = elim (dec_lt 0 (used (user v u))) [
    | yes h ↦ pick_yes (used (user v u)) (given (user v) u) 0 h ∙ subst (λ (a : ℕ). given (user v) a ≡ 0) (sym (only x y z u h)) (omega (arith, words x y z 14, words x y z 15))
    | no h ↦ pick_no (used (user v u)) (given (user v) u) 0 (omega arith)
  ]

  none-held : (u : ℕ) → mine v u some ≡ 0
  none-held u = mine-none v (nothing x y z) u some

  -- the master, 77, 1, 2 and 3
  pub five : spent 154 v ≡ 5
  unfolding spent system_pages some
  five = omega (arith, sum-none 256 (grant (user v)) (λ u h. none-given u), sym (all-system v (nothing x y z) 154 some) ∙ held x y z some refl)

  pub stale-affords : Affords 154 v
  stale-affords = record { users = λ u h q. omega (arith, none-held u); left = omega (arith, five) }

  -- so the mended volume is sound: he has used nothing, 149 pages are unreserved, and page 100 is free
  pub stale-mended : Sound 154 (mended 154 v)
  stale-mended = mended-sound 154 v stale-pointed (omega arith) stale-affords

  pub mended-count-is : 0 < used (user v 0) → used_pages (user (mended 154 v)) 0 ≡ 0
  mended-count-is h = mended-used 154 v stale-pointed (omega arith) 0 (omega arith) h ∙ none-held 0

  pub mended-left-is : unreserved (mended 154 v) ≡ 149
  mended-left-is = omega (arith, mended-unreserved 154 v stale-pointed (omega arith), five)

  pub mended-bit-is : bit 154 (mended 154 v) 100 ≡ 0
  unfolding hit is
  mended-bit-is = mended-bits 154 v stale-pointed (omega arith) 100 (omega arith) ∙ ap some (held_by_lem x y z 100) ∙ some-zero
