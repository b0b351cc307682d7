-- A freshly formatted volume is sound: for every number of pages, every name and every bit page. Assumes nothing.
use Rattle.std.specs.Prelude.{◌≡◌, refl, ◌≢◌, ◌⊎◌, List}
use Rattle.std.proofs.Common.{sym, ◌∙◌, not-suc-le-zero}
use Rattle.std.proofs.Math.Path.{ap, ap₂, subst}
use Rattle.std.proofs.Math.Logic.{inl, inr}
use Prim.Native.Nat.{ℕ, zero, suc, ◌+◌, ◌-◌, ◌/◌, ◌%◌, ◌≤◌, ◌<◌}
use Rattle.std.proofs.Math.Decide.{ℕ_discrete, dec_lt}
use native.Mathlib.Omega.{arith}
use Rattle.book.specs.Pointers.{volume_name, object_pointer, user_pointer, bit_pointer, flags, page, pointer, Zero, unreserved_count}
use Rattle.book.specs.Bits.{page_bits, bit_page_of, bit_word, bit_place, digit, bit_pages, bit_file, bit_page, bit, mark}
use Rattle.book.specs.Entries.{unreserved}
use Rattle.book.specs.Names.{NameText, stored, packed}
use Rattle.book.specs.Written.{digit-other, put-here, put-page, put_word, word-pos, put2-hi, put2-lo, put2-two, put2-word, put_words-here, wipe-here, wipe-page}
use Rattle.sums.specs.Sum.{sum, is, is_same, is-other, sum-suc, sum-zero, sum-ext, sum-const}
use Rattle.book.specs.Words.{Vol, two, put2, put_words, wipe}
use Rattle.book.specs.Trees.{weigh_r}
use Rattle.book.specs.Holders.{hit, some}
use Rattle.book.specs.Image.{BitArg}
use Rattle.book.specs.Rules.{Rule1, Sound}
use Rattle.book.specs.Format.{wipe_run, mark_run, directory, format}
use Rattle.laws.specs.Bits.Claim.{bit_page-is, bit_page-pos}
use Rattle.laws.specs.Bits.Mark.{mark-page, mark-master, mark-bit, mark-other}
use Rattle.laws.specs.File.Packed.{packed-back, packed-legal}
use Rattle.laws.specs.Format.Formatted.{Formatted, format-sound}
use Rattle.laws.specs.Frame.Places.{WordsOf, RunOf, Either, OnlyAt, only_wider, only_then, only-put2, only-put_words}
use Rattle.laws.specs.Tree.Slot.{hit_same, hit_other, some-pos, two-ext}

-- ---- pages wiped in a row

pub wipe_run-out : (v : Vol) (s n q k : ℕ) → (q < s) ⊎ (s + n ≤ q) → wipe_run v s n q k ≡ v q k
unfolding wipe_run
wipe_run-out v s zero q k h = refl
wipe_run-out v s (suc n) q k (inl h) = wipe-page (wipe_run v s n) (s + n) q k (omega arith) ∙ wipe_run-out v s n q k (inl h)
wipe_run-out v s (suc n) q k (inr h) = wipe-page (wipe_run v s n) (s + n) q k (omega arith) ∙ wipe_run-out v s n q k (inr (omega arith))

pub wipe_run-in : (v : Vol) (s n i k : ℕ) → i < n → wipe_run v s n (s + i) k ≡ 0
unfolding wipe_run
wipe_run-in v s zero i k h = absurd (not-suc-le-zero h)
wipe_run-in v s (suc n) i k h = elim (ℕ_discrete i n) [
  | yes e ↦ ap (λ (x : ℕ). wipe (wipe_run v s n) (s + n) (s + x) k) e ∙ wipe-here (wipe_run v s n) (s + n) k
  | no ne ↦ wipe-page (wipe_run v s n) (s + n) (s + i) k (omega arith) ∙ wipe_run-in v s n i k (omega arith)
]

mark_run-none : (P : ℕ) (v : Vol) (s p k : ℕ) → mark_run P v s 0 p k ≡ v p k
unfolding mark_run
mark_run-none P v s p k = refl

mark_run-more : (P : ℕ) (v : Vol) (s m p k : ℕ) → mark_run P v s (suc m) p k ≡ mark P (mark_run P v s m) (s + m) 1 p k
unfolding mark_run
mark_run-more P v s m p k = refl

-- the bit page of a page below P is one of the bit file's
bits-few : (P d : ℕ) → d < P → d / page_bits < bit_pages P
bits-few P d h = omega arith

digit-none : (j : ℕ) → digit j 0 ≡ 0
unfolding digit
digit-none zero = refl
digit-none (suc j) = digit-none j

-- ---- a run weighs nothing at a page outside it

run-miss : (s n p : ℕ) → (p < s) ⊎ (s + n ≤ p) → sum n (λ i. hit p (s + i)) ≡ 0
run-miss s zero p h = sum-zero (λ i. hit p (s + i))
run-miss s (suc n) p (inl h) = omega (arith, sum-suc n (λ i. hit p (s + i)), run-miss s n p (inl h), hit_other p (s + n) (omega arith))
run-miss s (suc n) p (inr h) = omega (arith, sum-suc n (λ i. hit p (s + i)), run-miss s n p (inr (omega arith)), hit_other p (s + n) (omega arith))

-- ---- the bit file

-- a bit from P on stays when one below P is marked
module _ (P : ℕ) (v : Vol) (r : Rule1 P v) (b : ℕ) (at : page (v 0) bit_pointer ≡ b) (d x p : ℕ) (hd : d < P) (hx : x < 2) (h : P ≤ p) where
  abbrev B : ℕ
  B = bit_page P v d

  abbrev W : ℕ
  W = bit_word d

  of-d : B ≡ b + d / page_bits
  of-d = bit_page-is P v r d hd ∙ ap (λ (y : ℕ). y + d / page_bits) at

  pub mark-past : digit (bit_place p) (mark P v d x (b + bit_page_of p) (bit_word p)) ≡ digit (bit_place p) (v (b + bit_page_of p) (bit_word p))
  unfolding mark
  mark-past = elim (ℕ_discrete (b + p / page_bits) B) [
    | no a ↦ ap (digit (p % 16)) (put-page v B W _ (b + p / page_bits) (p % page_bits / 16) a)
    | yes q ↦ elim (ℕ_discrete (p % page_bits / 16) W) [
      | no a ↦ ap (digit (p % 16)) (put_word v B W _ (b + p / page_bits) (p % page_bits / 16) a)
      | yes q' ↦
          let ne : p % 16 ≢ d % 16 = λ i. let z : ⊥ = omega (arith, i, q, q', of-d) in z in
          ap₂ (λ (y w : ℕ). digit (p % 16) (mark P v d x y w)) q q'
          ∙ ap (digit (p % 16)) (put-here v B W _) ∙ digit-other (p % 16) (d % 16) _ x ne hx
          ∙ ap (digit (p % 16)) (word-pos v B W (bit_page-pos P v r d hd))
          ∙ ap₂ (λ (y w : ℕ). digit (p % 16) (v y w)) (sym q) (sym q')
    ]
  ]

-- ---- the new volume

module _ (P : ℕ) (v : Vol) (name : List ℕ) (b : ℕ) (T : NameText name) (A : BitArg P b) where
  abbrev n : ℕ
  n = bit_pages P

  abbrev w₀ : Vol
  w₀ = directory P v name b

  dir-name : (k : ℕ) → volume_name ≤ k → k < object_pointer → w₀ 0 k ≡ packed name (k - volume_name)
  unfolding directory
  dir-name k h l =
      put2-word _ 0 unreserved_count (P - 1 - n) 0 k (omega arith) (omega arith) ∙ put2-word _ 0 bit_pointer (pointer 0 b) 0 k (omega arith) (omega arith)
      ∙ put2-word _ 0 user_pointer 0 0 k (omega arith) (omega arith) ∙ put2-word _ 0 object_pointer 0 0 k (omega arith) (omega arith)
      ∙ put_words-here v 0 volume_name 8 (packed name) k h (omega arith)

  dir-objects : (w₀ 0 object_pointer ≡ 0) × (w₀ 0 (suc object_pointer) ≡ 0)
  unfolding directory
  dir-objects = (off object_pointer (omega arith) ∙ put2-hi _ 0 object_pointer 0, off (suc object_pointer) (omega arith) ∙ put2-lo _ 0 object_pointer 0)
    where
      off : (k : ℕ) → k < user_pointer → w₀ 0 k ≡ put2 (put_words v 0 volume_name 8 (packed name)) 0 object_pointer 0 0 k
      off k h = put2-word _ 0 unreserved_count (P - 1 - n) 0 k (omega arith) (omega arith) ∙ put2-word _ 0 bit_pointer (pointer 0 b) 0 k (omega arith) (omega arith)
          ∙ put2-word _ 0 user_pointer 0 0 k (omega arith) (omega arith)

  dir-users : (w₀ 0 user_pointer ≡ 0) × (w₀ 0 (suc user_pointer) ≡ 0)
  unfolding directory
  dir-users = (off user_pointer (omega arith) ∙ put2-hi _ 0 user_pointer 0, off (suc user_pointer) (omega arith) ∙ put2-lo _ 0 user_pointer 0)
    where
      off : (k : ℕ) → k < bit_pointer → w₀ 0 k ≡ put2 (put2 (put_words v 0 volume_name 8 (packed name)) 0 object_pointer 0) 0 user_pointer 0 0 k
      off k h = put2-word _ 0 unreserved_count (P - 1 - n) 0 k (omega arith) (omega arith) ∙ put2-word _ 0 bit_pointer (pointer 0 b) 0 k (omega arith) (omega arith)

  dir-bits : (w₀ 0 bit_pointer ≡ b / 65536) × (w₀ 0 (suc bit_pointer) ≡ b % 65536)
  unfolding directory pointer
  dir-bits = (
    put2-word _ 0 unreserved_count (P - 1 - n) 0 bit_pointer (omega arith) (omega arith) ∙ put2-hi _ 0 bit_pointer (pointer 0 b) ∙ omega arith,
    put2-word _ 0 unreserved_count (P - 1 - n) 0 (suc bit_pointer) (omega arith) (omega arith) ∙ put2-lo _ 0 bit_pointer (pointer 0 b) ∙ omega arith,
  )

  dir-rest : two (w₀ 0) unreserved_count ≡ P - 1 - n
  unfolding directory
  dir-rest = put2-two _ 0 unreserved_count (P - 1 - n)

  module _ (small : P < 1073741824) where
    -- what the master page alone decides
    module _ (w : Vol) (same : (k : ℕ) → w 0 k ≡ w₀ 0 k) where
      bits-page : page (w 0) bit_pointer ≡ b
      unfolding page
      bits-page = omega (arith, same bit_pointer, same (suc bit_pointer), dir-bits.0, dir-bits.1, A.1)

      rule-1 : Rule1 P w
      unfolding flags
      rule-1 = record {
        name = packed-legal 1 16 name T (w 0) volume_name (λ i h. same (volume_name + i / 2) ∙ dir-name (volume_name + i / 2) (omega arith) (omega arith)
            ∙ ap (packed name) (let e : volume_name + i / 2 - volume_name ≡ i / 2 = omega arith in e));
        unflagged = omega (arith, same bit_pointer, dir-bits.0, A.1);
        start = omega (arith, bits-page, A.0);
        fits = omega (arith, bits-page, A.1);
      }

    -- the bit file is wiped
    abbrev w₁ : Vol
    w₁ = wipe_run w₀ b n

    same₁ : (k : ℕ) → w₁ 0 k ≡ w₀ 0 k
    same₁ k = wipe_run-out w₀ b n 0 k (inl A.0)

    bits₁ : (p : ℕ) → p < P → bit P w₁ p ≡ 0
    unfolding bit
    bits₁ p h =
        let r : Rule1 P w₁ = rule-1 w₁ same₁ in
        ap (digit (p % 16)) (word-pos w₁ (bit_page P w₁ p) (bit_word p) (bit_page-pos P w₁ r p h)
        ∙ ap (λ (q : ℕ). w₁ q (bit_word p)) (bit_page-is P w₁ r p h ∙ ap (λ (x : ℕ). x + p / page_bits) (bits-page w₁ same₁))
        ∙ wipe_run-in w₀ b n (p / page_bits) (bit_word p) (omega arith)) ∙ digit-none (p % 16)

    -- the master page is reserved
    abbrev w₂ : Vol
    w₂ = mark P w₁ 0 1

    module _ (pos : 0 < P) where
      same₂ : (k : ℕ) → w₂ 0 k ≡ w₀ 0 k
      same₂ k = mark-master P w₁ (rule-1 w₁ same₁) 0 1 pos (omega arith) k ∙ same₁ k

      bits₂ : (p : ℕ) → p < P → bit P w₂ p ≡ is p 0
      bits₂ p h = elim (ℕ_discrete p 0) [
        | yes e ↦ ap (bit P w₂) e ∙ mark-bit P w₁ (rule-1 w₁ same₁) 0 1 pos (omega arith) ∙ sym (ap (λ (x : ℕ). is x 0) e ∙ is_same 0)
        | no ne ↦ mark-other P w₁ (rule-1 w₁ same₁) 0 1 pos (omega arith) p h ne ∙ bits₁ p h ∙ sym (is-other p 0 ne)
      ]

      -- then the bit file itself
      same₃ : (m : ℕ) → m ≤ n → (k : ℕ) → mark_run P w₂ b m 0 k ≡ w₀ 0 k
      unfolding mark_run
      same₃ zero h k = same₂ k
      same₃ (suc m) h k = mark-master P (mark_run P w₂ b m) (rule-1 (mark_run P w₂ b m) (same₃ m (omega arith))) (b + m) 1 (omega (arith, A.1)) (omega arith) k ∙ same₃ m (omega arith) k

      bits₃ : (m : ℕ) → m ≤ n → (p : ℕ) → p < P → bit P (mark_run P w₂ b m) p ≡ is p 0 + sum m (λ i. hit p (b + i))
      unfolding mark_run
      bits₃ zero h p l = omega (arith, bits₂ p l, sum-zero (λ i. hit p (b + i)))
      bits₃ (suc m) h p l =
          let r : Rule1 P (mark_run P w₂ b m) = rule-1 (mark_run P w₂ b m) (same₃ m (omega arith)) in
          let s : sum (suc m) (λ i. hit p (b + i)) ≡ sum m (λ i. hit p (b + i)) + hit p (b + m) = sum-suc m (λ i. hit p (b + i)) in
          elim (ℕ_discrete p (b + m)) [
            | yes e ↦
                let q : bit P (mark P (mark_run P w₂ b m) (b + m) 1) p ≡ 1 = ap (bit P (mark P (mark_run P w₂ b m) (b + m) 1)) e ∙ mark-bit P (mark_run P w₂ b m) r (b + m) 1 (omega (arith, A.1)) (omega arith) in
                omega (arith, q, s, run-miss b m p (inr (omega arith)), is-other p 0 (omega (arith, A.0)), subst (λ (x : ℕ). hit p x ≡ 1) e (hit_same p (omega (arith, A.0))))
            | no ne ↦ omega (arith, mark-other P (mark_run P w₂ b m) r (b + m) 1 (omega (arith, A.1)) (omega arith) p l ne, bits₃ m (omega arith) p l, s, hit_other p (b + m) (λ q. ne (sym q)))
          ]

      formatted : Formatted P (format P v name b)
      unfolding format weigh_r bit_file Zero
      formatted = record {
        first = rule-1 w same;
        no_users = (same user_pointer ∙ dir-users.0, same (suc user_pointer) ∙ dir-users.1);
        no_objs = (same object_pointer ∙ dir-objects.0, same (suc object_pointer) ∙ dir-objects.1);
        bits = λ p h. bits₃ n (omega arith) p h ∙ ap (λ (x : ℕ). is p 0 + sum n (λ i. hit p (x + i))) (sym (bits-page w same));
        rest = omega (
          arith,
          two-ext (w 0) (w₀ 0) unreserved_count (same unreserved_count) (same (suc unreserved_count)),
          dir-rest,
          A.0,
          A.1,
          ap (λ (x : ℕ). sum n (λ i. some (x + i))) (bits-page w same),
          sum-ext n (λ i. some (b + i)) (λ i. 1) (λ i h. some-pos (b + i) (omega (arith, A.0))),
          sum-const n 1,
        );
      }
        where
          w : Vol
          w = mark_run P w₂ b n

          same : (k : ℕ) → w 0 k ≡ w₀ 0 k
          same = same₃ n (omega arith)

      pub formatted-sound : Sound P (format P v name b)
      formatted-sound = format-sound P (format P v name b) pos formatted

      -- ---- every other word stays

      -- the words written: the directory entry and the bit file
      pub format-only : OnlyAt (Either (WordsOf 0 volume_name 16) (RunOf b n)) v (format P v name b)
      unfolding format directory
      format-only p k a = run n (omega arith) ∙ marked 0 pos w₁ same₁ ∙ wiped ∙ master
        where
          off : (p < b) ⊎ (b + n ≤ p)
          off = elim (dec_lt p b) [
            | yes h ↦ inl h
            | no h ↦ elim (dec_lt p (b + n)) [
              | yes i ↦ absurd (a (inr (omega arith, i)))
              | no i ↦ inr (omega arith)
            ]
          ]

          master : w₀ p k ≡ v p k
          master = only_wider _ (WordsOf 0 volume_name 16) v w₀ (λ q j h. wide q j h)
              (only_then _ _ v _ _ (only_then _ _ v _ _ (only_then _ _ v _ _ (only_then _ _ v _ _ (only-put_words v 0 volume_name 8 (packed name)) (only-put2 _ 0 object_pointer 0)) (only-put2 _ 0 user_pointer 0)) (only-put2 _ 0 bit_pointer (pointer 0 b))) (only-put2 _ 0 unreserved_count (P - 1 - n)))
              p k (λ h. a (inl h))
            where
              wide : (q j : ℕ) → Either (Either (Either (Either (WordsOf 0 volume_name 8) (WordsOf 0 object_pointer 2)) (WordsOf 0 user_pointer 2)) (WordsOf 0 bit_pointer 2)) (WordsOf 0 unreserved_count 2) q j → WordsOf 0 volume_name 16 q j
              wide q j (inl (inl (inl (inl h)))) = (h.0, omega (arith, h.1), omega (arith, h.2))
              wide q j (inl (inl (inl (inr h)))) = (h.0, omega (arith, h.1), omega (arith, h.2))
              wide q j (inl (inl (inr h))) = (h.0, omega (arith, h.1), omega (arith, h.2))
              wide q j (inl (inr h)) = (h.0, omega (arith, h.1), omega (arith, h.2))
              wide q j (inr h) = (h.0, omega (arith, h.1), omega (arith, h.2))

          wiped : w₁ p k ≡ w₀ p k
          wiped = wipe_run-out w₀ b n p k off

          -- a bit is in the bit file
          inside : (d : ℕ) → d < P → (w : Vol) → ((k : ℕ) → w 0 k ≡ w₀ 0 k) → p ≢ bit_page P w d
          inside d h w same e = out off (omega (arith, e, bit_page-is P w (rule-1 w same) d h, bits-page w same)) (omega (arith, e, bit_page-is P w (rule-1 w same) d h, bits-page w same, few d h))
            where
              few : (d : ℕ) → d < P → d / page_bits < n
              few d h = bits-few P d h

              out : (p < b) ⊎ (b + n ≤ p) → b ≤ p → p < b + n → ⊥
              out (inl x) y z = omega arith
              out (inr x) y z = omega arith

          marked : (d : ℕ) → d < P → (w : Vol) → ((k : ℕ) → w 0 k ≡ w₀ 0 k) → mark P w d 1 p k ≡ w p k
          marked d h w same = mark-page P w (rule-1 w same) d 1 h (omega arith) p k (inside d h w same)

          run : (m : ℕ) → m ≤ n → mark_run P w₂ b m p k ≡ w₂ p k
          run zero h = mark_run-none P w₂ b p k
          run (suc m) h = mark_run-more P w₂ b m p k ∙ marked (b + m) (omega (arith, A.1)) (mark_run P w₂ b m) (same₃ m (omega arith)) ∙ run m (omega arith)

      -- ---- what format writes

      same : (k : ℕ) → mark_run P w₂ b n 0 k ≡ w₀ 0 k
      same = same₃ n (omega arith)

      bits_at : two (mark_run P w₂ b n 0) bit_pointer ≡ b
      unfolding two
      bits_at = omega (arith, same bit_pointer, same (suc bit_pointer), dir-bits.0, dir-bits.1)

      name-words : (i : ℕ) → i < 8 → mark_run P w₂ b n 0 (volume_name + i) ≡ packed name i
      name-words i h = same (volume_name + i) ∙ dir-name (volume_name + i) (omega arith) (omega arith) ∙ ap (packed name) (let e : volume_name + i - volume_name ≡ i = omega arith in e)

      -- the directory entry: the name as it is written, which reads as it was given, no objects and no users, the bit file at b, all but the master page and the bit file unreserved
      pub format-entry : ((i : ℕ) → i < 8 → format P v name b 0 (volume_name + i) ≡ packed name i) × (stored 16 (format P v name b 0) volume_name ≡ name) × Zero (format P v name b 0) object_pointer × Zero (format P v name b 0) user_pointer
          × (two (format P v name b 0) bit_pointer ≡ b) × (unreserved (format P v name b) ≡ P - 1 - n)
      unfolding format unreserved
      format-entry = (
        name-words,
        packed-back 1 16 name T (mark_run P w₂ b n 0) volume_name (λ i h. name-words (i / 2) (omega arith)),
        formatted.no_objs,
        formatted.no_users,
        bits_at,
        two-ext (mark_run P w₂ b n 0) (w₀ 0) unreserved_count (same unreserved_count) (same (suc unreserved_count)) ∙ dir-rest,
      )

      -- the bits from P on are 0
      past : (p : ℕ) → P ≤ p → bit_page_of p < n → (m : ℕ) → m ≤ n → digit (bit_place p) (mark_run P w₂ b m (b + bit_page_of p) (bit_word p)) ≡ 0
      unfolding mark_run
      past p h l zero i =
          mark-past P w₁ (rule-1 w₁ same₁) b (bits-page w₁ same₁) 0 1 p pos (omega arith) h
          ∙ ap (digit (bit_place p)) (wipe_run-in w₀ b n (bit_page_of p) (bit_word p) l) ∙ digit-none (bit_place p)
      past p h l (suc m) i =
          mark-past P (mark_run P w₂ b m) (rule-1 (mark_run P w₂ b m) (same₃ m (omega arith))) b (bits-page (mark_run P w₂ b m) (same₃ m (omega arith))) (b + m) 1 p (omega (arith, A.1)) (omega arith) h
          ∙ past p h l m (omega arith)

      pub format-past : (p : ℕ) → P ≤ p → bit_page_of p < n → digit (bit_place p) (format P v name b (b + bit_page_of p) (bit_word p)) ≡ 0
      unfolding format
      format-past p h l = past p h l n (omega arith)
