-- The yard's volume of 154 pages with its first user, in pages 1, 2 and 3: which rules it keeps when his used count, the unreserved count and a word of the bit file are what they are. Assumes nothing.
use Rattle.std.specs.Prelude.{◌≡◌, Bool, true, List, [], ◌∷◌, ℕ, suc, ◌+◌, ◌-◌, ◌*◌, ◌%◌, ◌≤◌, ◌<◌}
use Rattle.std.proofs.Math.Path.{refl, sym, ap, subst}
use Rattle.std.proofs.Common.{◌∙◌, inr}
use Rattle.std.proofs.Math.Decide.{ℕ_discrete, dec_lt}
use native.Mathlib.Omega.{arith}
use Rattle.sums.specs.Sum.{sum, is, sum-at, sum-only}
use Rattle.sums.specs.Search.{pick}
use Rattle.book.specs.Words.{Vol, two, word, put}
use Rattle.book.specs.Pointers.{page, slot, bit_pointer, object_pointer, user_pointer, volume_name, unreserved_count, flags_above}
use Rattle.book.specs.Trees.{Root, tree, weigh, weigh_r}
use Rattle.book.specs.Bits.{bit_file}
use Rattle.book.specs.Entries.{entry, user, object, user_file, object_file, used, given, used_pages}
use Rattle.book.specs.Holders.{hit, all, system, holders}
use Rattle.book.specs.Names.{stored}
use Rattle.book.specs.Rows.{Rows, row, Lowest}
use Rattle.book.specs.Rules.{Rule1, Rule2, Rule3, Rule4, Rule4Over, UserOk, UserOkOver, Rule5, Rule6, Rule7, Rule8}
use Rattle.laws.specs.Count.Sums.{sum-1}
use Rattle.laws.specs.Example.Sparse.{Cell, cell, volume, Off, volume-off, entry_past}
use Rattle.laws.specs.Example.Broken.{Master, head-rule, user-root, object-root, rule-2, rule-3, rule-5, no-objects, bare, user-first}
use Rattle.laws.specs.Example.BrokenLate.{a-legal}
use Rattle.laws.specs.Format.Formatted.{rule6-none, rule7-none, all-system}
use Rattle.laws.specs.Tree.Slot.{hit-zero}

-- user A has used x pages, y pages are unreserved, and word 6 of the bit file is z
abbrev pub first_user : ℕ → ℕ → ℕ → List Cell
first_user x y z =
    cell 0 volume_name 22849 ∷ cell 0 1009 21060 ∷ cell 0 user_pointer flags_above ∷ cell 0 (suc user_pointer) 1 ∷ cell 0 object_pointer flags_above ∷ cell 0 (suc object_pointer) 3
    ∷ cell 0 (suc bit_pointer) 77 ∷ cell 0 (suc unreserved_count) y ∷ cell 1 1 2 ∷ cell 2 0 32768 ∷ cell 2 1 16640 ∷ cell 2 17 x ∷ cell 77 0 15 ∷ cell 77 4 8192 ∷ cell 77 6 z ∷ []

-- an index block with at most its first slot in use
one-slot : (v : Vol) (g : ℕ → ℕ) → g 0 ≡ 0 → (r : Root) (t : ℕ) → r ≡ tree 1 t → ((n : ℕ) → 0 < n → slot v t n ≡ 0) → weigh_r v r g ≡ g t + g (slot v t 0)
unfolding weigh_r weigh
one-slot v g none r t e z = ap (λ (x : Root). weigh_r v x g) e ∙ ap (λ (x : ℕ). g t + x) (sum-only 512 (λ k. g (slot v t k)) 0 (omega arith) (λ j h n. ap g (z j (omega arith)) ∙ none))

-- a function that a computed sum finds at most 1
at_most_one : (n : ℕ) (f : ℕ → ℕ) → sum n (λ p. f p - 1) ≡ 0 → (p : ℕ) → p < n → f p ≤ 1
at_most_one n f h p i = omega (arith, h, sum-at n (λ p. f p - 1) p i)

module _ (x y z : ℕ) where
  abbrev v : Vol
  v = volume (first_user x y z)

  pub master : Master v 77 3
  unfolding volume Off put pick is
  master = record { head = record { first = refl; second = refl; tail = λ k a b. volume-off (first_user x y z) 0 k (omega arith); high = refl; low = refl }; ufl = refl; upg = refl; ofl = refl; opg = refl }

  pub first_slot : slot v 1 0 ≡ 2
  unfolding slot two word volume put pick is
  first_slot = refl

  other-slots : (n : ℕ) → 0 < n → slot v 1 n ≡ 0
  unfolding Off
  other-slots n h = bare (first_user x y z) 1 n (omega arith) (omega arith) (omega arith)

  no-slots : (n : ℕ) → slot v 3 n ≡ 0
  unfolding Off
  no-slots n = bare (first_user x y z) 3 n (omega arith) (omega arith) (omega arith)

  pub words : (k : ℕ) → user v 0 k ≡ v 2 (32 * 0 + k)
  words k = user-first (first_user x y z) master first_slot 0 k (omega arith)

  -- he is the only user, and there is no file
  pub only : (u : ℕ) → 0 < used (user v u) → u ≡ 0
  unfolding used Off user
  only u h = elim (dec_lt u 32) [
    | yes l ↦ elim (ℕ_discrete u 0) [
      | yes e ↦ e
      | no n ↦ absurd (let r : ⊥ = omega (arith, h, user-first (first_user x y z) master first_slot u 0 l, volume-off (first_user x y z) 2 (32 * u + 0) (omega arith)) in r)
    ]
    | no l ↦ absurd (let r : ⊥ = omega (arith, h, ap (λ (r : Root). entry v r u 0) (user-root v master) ∙ entry_past v 1 (λ n a b. other-slots n a) u 0 (omega arith)) in r)
  ]

  pub nothing : (e : ℕ) → used (object v e) ≡ 0
  nothing = no-objects v master no-slots

  -- ---- the rules

  pub keeps1 : Rule1 154 v
  keeps1 = head-rule v master.head (omega arith) (omega arith) (omega arith)

  pub keeps2 : Rule2 154 v
  keeps2 = rule-2 v master (omega arith) (omega arith) (omega arith)

  pub keeps3 : Rule3 154 v
  keeps3 = rule-3 v master (omega (arith, first_slot)) other-slots

  pub named : (ten : Bool) → UserOkOver stored ten (user v) 0 → Rule4Over stored ten (user v)
  unfolding Rule4Over
  named ten o = ((λ u h l. subst (UserOkOver stored ten (user v)) (sym (only u l)) o), λ a b ha hb p q s. only a p ∙ sym (only b q))

  pub keeps5 : Rule5 154 v
  keeps5 = rule-5 v master (omega arith) (omega (arith, no-slots 0)) (λ n h. no-slots n) above
    where
      above : (u : ℕ) → 63 < u → used (user v u) ≡ 0
      above u h = elim (ℕ_discrete (used (user v u)) 0) [ yes e ↦ e | no n ↦ absurd (let r : ⊥ = omega (arith, only u (omega arith)) in r) ]

  -- ---- the pages held: 77, 1, 2 and 3

  bits : (g : ℕ → ℕ) → weigh_r v (bit_file 154 v) g ≡ g 77
  unfolding bit_file weigh_r page
  bits g = sum-1 (λ i. g (v 0 bit_pointer % flags_above * 65536 + v 0 (suc bit_pointer) + i))
      ∙ ap g (let e : v 0 bit_pointer % flags_above * 65536 + v 0 (suc bit_pointer) + 0 ≡ 77 = omega (arith, master.head.high, master.head.low) in e)

  pub held : (g : ℕ → ℕ) → g 0 ≡ 0 → all 154 v g ≡ g 77 + (g 1 + g 2) + g 3
  unfolding system
  held g none = all-system v nothing 154 g ∙ omega (
    arith,
    none,
    bits g,
    one-slot v g none (user_file v) 1 (user-root v master) other-slots,
    ap g first_slot,
    one-slot v g none (object_file v) 3 (object-root v master) (λ n h. no-slots n),
    ap g (no-slots 0),
  )

  pub held_by_lem : (p : ℕ) → holders 154 v p ≡ is p 0 + (hit p 77 + (hit p 1 + hit p 2) + hit p 3)
  unfolding holders
  held_by_lem p = ap (λ (n : ℕ). is p 0 + n) (held (hit p) (hit-zero p))

  pub keeps8 : Rule8 154 v
  unfolding Rule8 sum hit is
  keeps8 p h = subst (λ (n : ℕ). n ≤ 1) (sym (held_by_lem p)) (at_most_one 154 (λ p. is p 0 + (hit p 77 + (hit p 1 + hit p 2) + hit p 3)) refl p h)

user-ok : (y z : ℕ) → UserOk (user (v 0 y z)) 0
unfolding volume put pick is Off given used_pages two
user-ok y z = record {
  own = U 18;
  name = (a-legal (user (v 0 y z) 0) (U 1) (λ k a b. U k ∙ volume-off (first_user 0 y z) 2 (32 * 0 + k) (omega arith))).0;
  within = omega (arith, U 14, U 15, U 16, U 17);
}
  where
    U : (k : ℕ) → user (v 0 y z) 0 k ≡ v 0 y z 2 (32 * 0 + k)
    U = words 0 y z

-- with nothing used, rules 1 to 8
pub keeps-eight : (y z r : ℕ) (t : Rows) → Lowest t r → Lowest (row 1 (Rule1 154 (v 0 y z)) (row 2 (Rule2 154 (v 0 y z)) (row 3 (Rule3 154 (v 0 y z)) (row 4 (Rule4 (user (v 0 y z))) (row 5 (Rule5 154 (v 0 y z))
    (row 6 (Rule6 (user (v 0 y z)) (object (v 0 y z))) (row 7 (Rule7 154 (v 0 y z)) (row 8 (Rule8 154 (v 0 y z)) t)))))))) r
unfolding Lowest
keeps-eight y z r t l = inr (
  keeps1 0 y z,
  inr (
    keeps2 0 y z,
    inr (
      keeps3 0 y z,
      inr (
        named 0 y z true (user-ok y z),
        inr (
          keeps5 0 y z,
          inr (rule6-none (v 0 y z) (nothing 0 y z), inr (rule7-none (v 0 y z) (nothing 0 y z) 154, inr (keeps8 0 y z, l))),
        ),
      ),
    ),
  ),
)
