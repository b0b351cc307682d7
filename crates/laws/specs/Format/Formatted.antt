-- Volumes without used entries; a formatted volume is sound: the rules can be met. Assumes nothing.
use Rattle.std.specs.Prelude.{◌≡◌, ℕ, ◌+◌, ◌*◌, ◌/◌, ◌%◌, ◌<◌}
use Rattle.std.proofs.Common.{sym, ◌∙◌, inl, zero-le}
use Rattle.std.proofs.Math.Path.{ap, subst}
use native.Mathlib.Omega.{arith}
use Rattle.sums.specs.Search.{pick_no}
use Rattle.sums.specs.Sum.{sum, is, sum-none}
use Rattle.book.specs.Bits.{bit_file, bit}
use Rattle.book.specs.Entries.{entry, user_file, object_file, user, object, used, grant, given, unreserved}
use Rattle.book.specs.Files.{file_at}
use Rattle.book.specs.Holders.{hit, some, all, system, mine, holders, system_pages}
use Rattle.book.specs.Pointers.{slot, page, Zero, object_pointer, unreserved_count, user_pointer}
use Rattle.book.specs.Rules.{Rule1, Rule2, Rule3, Rule4, Rule4Over, Rule5, Rule5By, Rule6, Rule6Over, Rule7, Rule8, Rule9, Rule10, Sound}
use Rattle.book.specs.Trees.{Root, run, weigh_r, page_at}
use Rattle.book.specs.Words.{Vol, two, word}
use Rattle.laws.specs.Count.Good.{bit_le}
use Rattle.laws.specs.Frame.Roots.{upto-out}
use Rattle.laws.specs.Tree.Pointer.{root-0, zero_flags, zero-page, file-unused}
use Rattle.laws.specs.Tree.Slot.{word-zero, slot-zero}

-- ---- no used entry

-- no user is used
module _ (v : Vol) (nu : (u : ℕ) → used (user v u) ≡ 0) where
  pub rule4-none : Rule4 (user v)
  unfolding Rule4Over
  rule4-none = ((λ u i q. absurd (let w : ⊥ = omega (arith, nu u) in w)), λ x y i j q. absurd (let w : ⊥ = omega (arith, nu x) in w))

  pub grants-none : sum 256 (grant (user v)) ≡ 0
  unfolding grant
  grants-none = sum-none 256 (grant (user v)) (λ u i. pick_no (used (user v u)) (given (user v) u) 0 (nu u))

-- no object is used
module _ (v : Vol) (no : (e : ℕ) → used (object v e) ≡ 0) where
  pub rule6-none : Rule6 (user v) (object v)
  unfolding Rule6Over
  rule6-none = ((λ u f i j q. absurd (let w : ⊥ = omega (arith, no (256 * u + f)) in w)), λ u x y i j k q. absurd (let w : ⊥ = omega (arith, no (256 * u + x)) in w))

  pub rule7-none : (P : ℕ) → Rule7 P v
  unfolding Rule7
  rule7-none P e i q = absurd (let w : ⊥ = omega (arith, no e) in w)

  pub mine-none : (u : ℕ) (g : ℕ → ℕ) → mine v u g ≡ 0
  unfolding mine weigh_r sum
  mine-none u g = sum-none 256 (λ f. weigh_r v (file_at v (256 * u + f)) g) (λ f i. ap (λ (r : Root). weigh_r v r g) (file-unused v (256 * u + f) (no (256 * u + f))))

  -- so the system's files hold all there is
  pub all-system : (P : ℕ) (g : ℕ → ℕ) → all P v g ≡ system P v g
  unfolding all
  all-system P g = omega (arith, sum-none 256 (λ u. mine v u g) (λ u i. mine-none u g))

-- ---- no user file and no object file

module _ (v : Vol) (zu : Zero (v 0) user_pointer) (zo : Zero (v 0) object_pointer) where
  users-none : user_file v ≡ run (page (v 0) user_pointer) 0
  unfolding user_file
  users-none = root-0 (v 0) user_pointer 0 (zero_flags (v 0) user_pointer zu)

  objs-none : object_file v ≡ run (page (v 0) object_pointer) 0
  unfolding object_file
  objs-none = root-0 (v 0) object_pointer 0 (zero_flags (v 0) object_pointer zo)

  entry-none : (t n k : ℕ) → entry v (run t 0) n k ≡ 0
  unfolding entry page_at
  entry-none t n k = ap (λ (x : ℕ). word v x (32 * (n % 32) + k)) (upto-out (n / 32) 0 (t + n / 32) zero-le) ∙ word-zero v _

  pub user-none : (u : ℕ) → used (user v u) ≡ 0
  unfolding used user
  user-none u = ap (λ (x : ℕ). x / 32768) (ap (λ (r : Root). entry v r u 0) users-none ∙ entry-none _ u 0)

  pub object-none : (e : ℕ) → used (object v e) ≡ 0
  unfolding used object
  object-none e = ap (λ (x : ℕ). x / 32768) (ap (λ (r : Root). entry v r e 0) objs-none ∙ entry-none _ e 0)

  pub system-none : (P : ℕ) (g : ℕ → ℕ) → system P v g ≡ weigh_r v (bit_file P v) g
  unfolding system weigh_r sum
  system-none P g = omega (arith, ap (λ (r : Root). weigh_r v r g) users-none, ap (λ (r : Root). weigh_r v r g) objs-none)

  pub all_none : (P : ℕ) (g : ℕ → ℕ) → all P v g ≡ weigh_r v (bit_file P v) g
  all_none P g = all-system v object-none P g ∙ system-none P g

  pub rule3-none : (P : ℕ) → 0 < P → Rule3 P v
  unfolding Rule3
  rule3-none P pos n i = let z : slot v (page (v 0) user_pointer) n ≡ 0 = ap (λ (x : ℕ). slot v x n) (zero-page (v 0) user_pointer zu) ∙ slot-zero v n in (omega arith, λ j. z)

  pub rule5-none : (P : ℕ) → Rule5 P v
  unfolding Rule5 Rule5By
  rule5-none P = subst (λ (x : ℕ). Rule5By P v x (page (v 0) object_pointer)) (sym (zero_flags (v 0) object_pointer zo)) tt

-- ---- a formatted volume

pub record Formatted (P : ℕ) (v : Vol) : Type 0 where
  pub first : Rule1 P v
  pub no_users : Zero (v 0) user_pointer
  pub no_objs : Zero (v 0) object_pointer
  pub bits : (p : ℕ) → p < P → bit P v p ≡ is p 0 + weigh_r v (bit_file P v) (hit p)
  pub rest : two (v 0) unreserved_count + (1 + weigh_r v (bit_file P v) some) ≡ P

pub format-sound : (P : ℕ) (v : Vol) → 0 < P → Formatted P v → Sound P v
unfolding Rule2 Rule8 Rule9 Rule10 holders unreserved system_pages
format-sound P v pos F =
    let zu = F.no_users in let zo = F.no_objs in
    let nu : (u : ℕ) → used (user v u) ≡ 0 = user-none v zu zo in let no : (e : ℕ) → used (object v e) ≡ 0 = object-none v zu zo in
    record {
      r1 = F.first;
      r2 = inl (zu, zo);
      r3 = rule3-none v zu zo P pos;
      r4 = rule4-none v nu;
      r5 = rule5-none v zu zo P;
      r6 = rule6-none v no;
      r7 = rule7-none v no P;
      r8 = λ p i. omega (arith, F.bits p i, bit_le P v p, all_none v zu zo P (hit p));
      r9 = λ p i. ((λ b. omega (arith, F.bits p i, all_none v zu zo P (hit p))), (λ b. omega (arith, F.bits p i, bit_le P v p, all_none v zu zo P (hit p))));
      r10 = ((λ u i q. absurd (let w : ⊥ = omega (arith, nu u) in w)), omega (arith, F.rest, system-none v zu zo P some, grants-none v nu));
    }
