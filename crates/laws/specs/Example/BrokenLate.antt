-- The volumes that break rules 7 to 10 and no lower one. Assumes nothing.
use Rattle.std.specs.Prelude.{◌≡◌, refl, List, [], ◌∷◌, ◌++◌, ℕ, zero, suc, ◌+◌, ◌-◌, ◌*◌, ◌/◌, ◌%◌, ◌≤◌, ◌<◌, get_or}
use Rattle.std.proofs.Common.{sym, ◌∙◌, subst, not-suc-le-zero, arith}
use Rattle.std.proofs.Math.Path.{ap}
use Rattle.std.proofs.Math.Logic.{inl, inr}
use Rattle.std.proofs.Math.Decide.{ℕ_discrete, dec_lt}
use Rattle.std.proofs.Math.ListN.{get_or-eq_default}
use Rattle.sums.specs.Sum.{sum, is, sum-suc, sum-zero, sum-at}
use Rattle.sums.specs.Search.{pick}
use Rattle.book.specs.Words.{Words, Vol, two, word, put}
use Rattle.book.specs.Pointers.{page, slot, Zero, bit_pointer, object_pointer, user_pointer, flags_above}
use Rattle.book.specs.Trees.{Root, tree, weigh, weigh_r, page_at, upto}
use Rattle.book.specs.Bits.{digit, bit_file, bit_page, bit}
use Rattle.book.specs.Entries.{entry, user, object, user_file, object_file, used, given, used_pages, unreserved}
use Rattle.book.specs.Names.{Letter, Text, NameText, LegalName, LegalType, words_of}
use Rattle.book.specs.Files.{FileShape, page_bytes}
use Rattle.book.specs.Holders.{hit, some, all, system, holders, system_pages}
use Rattle.book.specs.Rows.{Rows, end, row, Lowest}
use Rattle.book.specs.Rules.{Rule1, Rule2, Rule3, Rule4, Rule4Over, UserOk, Rule5, Rule6, Rule6Over, FileOk, Rule7, Rule8, Rule9, Rule10, rules, rules_of}
use Rattle.laws.specs.Count.Good.{bit_le}
use Rattle.laws.specs.Example.Broken.{Head, Master, broken7, broken8, broken9, broken10, head-rule, user-root, object-root, rule-2, rule-3, rule-5, no-users, no-objects, bare, user-first, object-first}
use Rattle.laws.specs.Example.Sparse.{volume, Off, volume-off, entry_past}
use Rattle.laws.specs.File.Packed.{legal-back, behind-old}
use Rattle.laws.specs.Format.Formatted.{rule3-none, rule4-none, rule5-none, rule6-none, rule7-none, user-none, object-none, all_none, all-system}
use Rattle.laws.specs.Tree.Slot.{hit_same, some-pos}

-- ---- rule 7: user 0 and his file 0 are the only used entries

a_name : List ℕ
a_name = 65 ∷ []

-- the name A, and no type
pub a-legal : (w : Words) → w 1 ≡ 16640 → ((k : ℕ) → 1 < k → k < 12 → w k ≡ 0) → LegalName w 1 × LegalType w 9
unfolding Text Letter words_of a_name
a-legal w e z = (legal-back 1 16 a_name text [] behind-old w 1 (λ i h. words (i / 2) (omega arith)), legal-back 0 4 [] none [] behind-old w 9 (λ i h. z (9 + i / 2) (omega arith) (omega arith)))
  where
    text : NameText a_name
    text = (omega arith, omega arith, go)
      where
        go : (i : ℕ) → i < 1 → Letter (get_or (65 ∷ []) i 0)
        go zero h = inl (omega arith, omega arith)
        go (suc i) h = absurd (let r : ⊥ = omega arith in r)

    none : Text 0 4 []
    none = (omega arith, omega arith, λ i h. absurd (not-suc-le-zero h))

    past : (i : ℕ) → 1 ≤ i → get_or a_name i 0 ≡ 0
    past i h = get_or-eq_default a_name 0 h

    words : (j : ℕ) → j < 8 → w (1 + j) ≡ words_of (a_name ++ []) j
    words zero h = e
    words (suc zero) h = z 2 (omega arith) (omega arith)
    words (suc (suc j)) h = z (1 + suc (suc j)) (omega arith) (omega arith) ∙ sym (omega (arith, past (2 * suc (suc j)) (omega arith), past (2 * suc (suc j) + 1) (omega arith)))

pub master7 : Master (volume broken7) 8 2
unfolding volume Off put pick is
master7 = record { head = record { first = refl; second = refl; tail = λ k a b. volume-off broken7 0 k (omega arith); high = refl; low = refl }; ufl = refl; upg = refl; ofl = refl; opg = refl }

pub user7 : (u : ℕ) → 0 < used (user (volume broken7) u) → u ≡ 0
unfolding used Off volume slot two word put pick is user
user7 u h = elim (dec_lt u 32) [
  | yes l ↦ elim (ℕ_discrete u 0) [
    | yes e ↦ e
    | no n ↦ absurd (let r : ⊥ = omega (arith, h, user-first broken7 master7 refl u 0 l, volume-off broken7 3 (32 * u + 0) (omega arith)) in r)
  ]
  | no l ↦ absurd (let r : ⊥ = omega (arith, h, ap (λ (r : Root). entry (volume broken7) r u 0) (user-root (volume broken7) master7) ∙ entry_past (volume broken7) 1 (λ n a b. bare broken7 1 n (omega arith) (omega arith) (omega arith)) u 0 (omega arith)) in r)
]

pub object7 : (e : ℕ) → 0 < used (object (volume broken7) e) → e ≡ 0
unfolding used Off volume slot two word put pick is object
object7 u h = elim (dec_lt u 32) [
  | yes l ↦ elim (ℕ_discrete u 0) [
    | yes e ↦ e
    | no n ↦ absurd (let r : ⊥ = omega (arith, h, object-first broken7 master7 refl u 0 l, volume-off broken7 4 (32 * u + 0) (omega arith)) in r)
  ]
  | no l ↦ absurd (let r : ⊥ = omega (arith, h, ap (λ (r : Root). entry (volume broken7) r u 0) (object-root (volume broken7) master7) ∙ entry_past (volume broken7) 2 (λ n a b. bare broken7 2 n (omega arith) (omega arith) (omega arith)) u 0 (omega arith)) in r)
]

pub breaks7 : Lowest (rules 16 (volume broken7)) 7
unfolding rules_of Lowest Rule4Over Rule6Over Rule7 FileShape slot two word volume put pick is Off used given used_pages
breaks7 = inr (
  head-rule v master7.head (omega arith) (omega arith) (omega arith),
  inr (
    rule-2 v master7 (omega arith) (omega arith) (omega arith),
    inr (
      rule-3 v master7 (omega arith) (λ n h. bare broken7 1 n (omega arith) (omega arith) (omega arith)),
      inr (
        (ok, λ a b ha hb x y s. user7 a x ∙ sym (user7 b y)),
        inr (
          rule-5 v master7 (omega arith) (omega arith) (λ n h. bare broken7 2 n (omega arith) (omega arith) (omega arith)) above,
          inr ((file-ok, λ u a b hu ha hb x y s. same u a b (object7 (256 * u + a) x) (object7 (256 * u + b) y)), inl (refl, no)),
        ),
      ),
    ),
  ),
)
  where
    v : Vol
    v = volume broken7

    U : (k : ℕ) → user (volume broken7) 0 k ≡ volume broken7 3 (32 * 0 + k)
    U k = user-first broken7 master7 refl 0 k (omega arith)

    O : (k : ℕ) → object (volume broken7) 0 k ≡ volume broken7 4 (32 * 0 + k)
    O k = object-first broken7 master7 refl 0 k (omega arith)

    ok : (u : ℕ) → u < 256 → 0 < used (user (volume broken7) u) → UserOk (user (volume broken7)) u
    ok u h q = subst (λ (x : ℕ). UserOk (user (volume broken7)) x) (sym (user7 u q)) record {
      own = U 18;
      name = (a-legal (user (volume broken7) 0) (U 1) (λ k a b. U k ∙ volume-off broken7 3 (32 * 0 + k) (omega arith))).0;
      within = omega (arith, U 14, U 15, U 16, U 17);
    }

    above : (u : ℕ) → 63 < u → used (user (volume broken7) u) ≡ 0
    above u h = elim (ℕ_discrete (used (user (volume broken7) u)) 0) [ yes e ↦ e | no n ↦ absurd (let r : ⊥ = omega (arith, user7 u (omega arith)) in r) ]

    same : (u a b : ℕ) → 256 * u + a ≡ 0 → 256 * u + b ≡ 0 → a ≡ b
    same u a b x y = omega arith

    file-ok : (u f : ℕ) → u < 256 → f < 256 → 0 < used (object (volume broken7) (256 * u + f)) → FileOk (user (volume broken7)) (object (volume broken7)) u (256 * u + f)
    file-ok u f hu hf q =
        let e : 256 * u + f ≡ 0 = object7 (256 * u + f) q in let eu : u ≡ 0 = omega arith in
        subst (λ (x : ℕ). FileOk (user (volume broken7)) (object (volume broken7)) x (256 * u + f)) (sym eu)
        (subst (λ (x : ℕ). FileOk (user (volume broken7)) (object (volume broken7)) 0 x) (sym e) record {
          owner = omega (arith, U 0);
          whose = O 16;
          number = O 17;
          name = (a-legal (object (volume broken7) 0) (O 1) (λ k a b. O k ∙ volume-off broken7 4 (32 * 0 + k) (omega arith))).0;
          type = (a-legal (object (volume broken7) 0) (O 1) (λ k a b. O k ∙ volume-off broken7 4 (32 * 0 + k) (omega arith))).1;
        })

    no : Rule7 16 (volume broken7) → ⊥
    no r = let s : two (object (volume broken7) 0) 28 ≡ page_bytes * two (object (volume broken7) 0) 26 = (r 0 (omega arith) (omega (arith, O 0))).1 in
        let q : ⊥ = omega (arith, s, O 26, O 27, O 28, O 29) in q

-- ---- rule 8

pub master8 : Master (volume broken8) 8 1
unfolding volume Off put pick is
master8 = record { head = record { first = refl; second = refl; tail = λ k a b. volume-off broken8 0 k (omega arith); high = refl; low = refl }; ufl = refl; upg = refl; ofl = refl; opg = refl }

-- the top of a tree is one of its pages
top-le : (v : Vol) (g : ℕ → ℕ) (r : Root) (t : ℕ) → r ≡ tree 1 t → g t ≤ weigh_r v r g
unfolding weigh_r weigh
top-le v g r t e = subst (λ (x : Root). g t ≤ weigh_r v x g) (sym e) (omega arith)

pub held-twice : holders 16 (volume broken8) 1 ≤ 1 → ⊥
unfolding holders all system is
held-twice h = omega (
  arith,
  h,
  hit_same 1 (omega arith),
  top-le (volume broken8) (hit 1) (user_file (volume broken8)) 1 (user-root (volume broken8) master8),
  top-le (volume broken8) (hit 1) (object_file (volume broken8)) 1 (object-root (volume broken8) master8),
)

pub breaks8 : Lowest (rules 16 (volume broken8)) 8
unfolding rules_of Lowest Rule8 slot two word volume put pick is Off holders all system
breaks8 = inr (
  head-rule v master8.head (omega arith) (omega arith) (omega arith),
  inr (
    rule-2 v master8 (omega arith) (omega arith) (omega arith),
    inr (
      rule-3 v master8 (omega arith) (λ n h. empty n),
      inr (
        rule4-none v nobody,
        inr (
          rule-5 v master8 (omega arith) (omega arith) (λ n h. empty n) (λ u h. nobody u),
          inr (rule6-none v nothing, inr (rule7-none v nothing 16, inl (refl, no))),
        ),
      ),
    ),
  ),
)
  where
    v : Vol
    v = volume broken8

    empty : (n : ℕ) → slot (volume broken8) 1 n ≡ 0
    empty n = bare broken8 1 n (omega arith) (omega arith) (omega arith)

    nobody : (u : ℕ) → used (user (volume broken8) u) ≡ 0
    nobody = no-users (volume broken8) master8 empty

    nothing : (e : ℕ) → used (object (volume broken8) e) ≡ 0
    nothing = no-objects (volume broken8) master8 empty

    no : Rule8 16 (volume broken8) → ⊥
    no r = held-twice (r 1 (omega arith))

-- ---- rules 9 and 10: a fresh volume, one bit or one count off

-- what the master page of a fresh yard disk says
pub record Fresh (v : Vol) : Type 0 where
  pub head : Head v 8
  pub users : Zero (v 0) user_pointer
  pub objects : Zero (v 0) object_pointer

module _ (v : Vol) (F : Fresh v) where
  pub fresh-all : (g : ℕ → ℕ) → all 16 v g ≡ g 8
  unfolding bit_file weigh_r page
  fresh-all g =
      all_none v F.users F.objects 16 g ∙ sum-suc 0 (λ i. g (v 0 bit_pointer % flags_above * 65536 + v 0 (suc bit_pointer) + i))
      ∙ omega (arith, sum-zero (λ i. g (v 0 bit_pointer % flags_above * 65536 + v 0 (suc bit_pointer) + i)), ap g (let e : v 0 bit_pointer % flags_above * 65536 + v 0 (suc bit_pointer) + 0 ≡ 8 = omega (arith, F.head.high, F.head.low) in e))

  pub fresh-holders : (p : ℕ) → holders 16 v p ≡ is p 0 + hit p 8
  unfolding holders
  fresh-holders p = ap (λ (x : ℕ). is p 0 + x) (fresh-all (hit p))

  fresh-once : Rule8 16 v
  unfolding Rule8 hit is
  fresh-once p h = omega (arith, fresh-holders p)

  -- rules 1 to 8
  fresh-rules : (r : ℕ) (t : Rows) → Lowest t r → Lowest (row 1 (Rule1 16 v) (row 2 (Rule2 16 v) (row 3 (Rule3 16 v) (row 4 (Rule4 (user v)) (row 5 (Rule5 16 v) (row 6 (Rule6 (user v) (object v))
      (row 7 (Rule7 16 v) (row 8 (Rule8 16 v) t)))))))) r
  unfolding Lowest Rule2
  fresh-rules r t l = inr (
    head-rule v F.head (omega arith) (omega arith) (omega arith),
    inr (
      inl (F.users, F.objects),
      inr (
        rule3-none v F.users F.objects 16 (omega arith),
        inr (
          rule4-none v (user-none v F.users F.objects),
          inr (
            rule5-none v F.users F.objects 16,
            inr (rule6-none v (object-none v F.users F.objects), inr (rule7-none v (object-none v F.users F.objects) 16, inr (fresh-once, l))),
          ),
        ),
      ),
    ),
  )

pub fresh9 : Fresh (volume broken9)
unfolding volume Off put pick is Zero
fresh9 = record { head = record { first = refl; second = refl; tail = λ k a b. volume-off broken9 0 k (omega arith); high = refl; low = refl }; users = (refl, refl); objects = (refl, refl) }

pub breaks9 : Lowest (rules 16 (volume broken9)) 9
unfolding rules_of Lowest Rule9 bit bit_page bit_file page_at upto page digit word volume put pick is hit
breaks9 = fresh-rules (volume broken9) fresh9 9 (row 9 (Rule9 16 (volume broken9)) (row 10 (Rule10 16 (volume broken9)) end)) (inl (refl, no))
  where
    no : Rule9 16 (volume broken9) → ⊥
    no r = let q : ⊥ = omega (arith, (r 5 (omega arith)).0 refl, fresh-holders (volume broken9) fresh9 5) in q

pub fresh10 : Fresh (volume broken10)
unfolding volume Off put pick is Zero
fresh10 = record { head = record { first = refl; second = refl; tail = λ k a b. volume-off broken10 0 k (omega arith); high = refl; low = refl }; users = (refl, refl); objects = (refl, refl) }

-- two functions that a computed sum finds equal below n
pub agree : (n : ℕ) (f g : ℕ → ℕ) → sum n (λ p. (f p - g p) + (g p - f p)) ≡ 0 → (p : ℕ) → p < n → f p ≡ g p
agree n f g h p i = omega (arith, h, sum-at n (λ p. (f p - g p) + (g p - f p)) p i)

pub bits10 : (p : ℕ) → p < 16 → bit 16 (volume broken10) p ≡ is p 0 + hit p 8
unfolding sum bit bit_page bit_file page_at upto page digit word volume put pick is hit
bits10 = agree 16 (bit 16 (volume broken10)) (λ p. is p 0 + hit p 8) refl

pub breaks10 : Lowest (rules 16 (volume broken10)) 10
unfolding rules_of Lowest Rule9 Rule10 unreserved system_pages two volume put pick is
breaks10 = fresh-rules (volume broken10) fresh10 10 (row 9 (Rule9 16 (volume broken10)) (row 10 (Rule10 16 (volume broken10)) end)) (inr (nine, inl (refl, no)))
  where
    nine : Rule9 16 (volume broken10)
    nine p h = (
      (λ b. omega (arith, b, bits10 p h, fresh-holders (volume broken10) fresh10 p)),
      (λ b. omega (arith, b, bits10 p h, fresh-holders (volume broken10) fresh10 p, bit_le 16 (volume broken10) p)),
    )

    no : Rule10 16 (volume broken10) → ⊥
    no r = let q : ⊥ = omega (arith, r.1, all-system (volume broken10) (object-none (volume broken10) fresh10.users fresh10.objects) 16 some, fresh-all (volume broken10) fresh10 some, some-pos 8 (omega arith)) in q
