-- The entry of a user, and of a file, with another fill behind its name and type: which words that changes, and that it says the same. Assumes nothing.
use Rattle.std.specs.Prelude.{◌≡◌, ◌⊎◌, List, ℕ, ◌+◌, ◌-◌, ◌/◌, ◌%◌, ◌≤◌, ◌<◌}
use Rattle.std.proofs.Common.{sym, ap₂, ◌∙◌, subst, inl, inr, arith}
use Rattle.sums.specs.Search.{pick}
use Rattle.book.specs.Words.{Words, among, set_words}
use Rattle.book.specs.Names.{Text, packed_by, ends, stored}
use Rattle.book.specs.Convert.{Filled, refilled, refilled_user, refilled_object}
use Rattle.laws.specs.File.Fill.{filled-words, refilled-stored, refilled-filled, refilled-low, refilled-high}
use Rattle.laws.specs.File.Stored.{stored-words}
use Rattle.laws.specs.Frame.Quiet.{UserStays, ObjectStays}

-- a field is written from its own words
pub refilled-ext : (c n : ℕ) → n % 2 ≡ 0 → (w x : Words) (k : ℕ) → ((i : ℕ) → i < n / 2 → w (k + i) ≡ x (k + i)) → (j : ℕ) → w j ≡ x j → refilled c n w k j ≡ refilled c n x k j
unfolding refilled set_words
refilled-ext c n even w x k e j h =
    ap₂ (λ (s : List ℕ) (y : ℕ). pick (among k (n / 2) j) (packed_by c s (j - k)) y) (stored-words n w x k k (λ i l. e (i / 2) (omega arith))) h

-- ---- a user's entry

pub user-ext : (c : ℕ) (w x : Words) → ((k : ℕ) → k < 32 → w k ≡ x k) → (k : ℕ) → k < 32 → refilled_user c w k ≡ refilled_user c x k
user-ext c w x e k h = refilled-ext c 16 (omega arith) w x 1 (λ i l. e (1 + i) (omega arith)) k (e k h)

-- words 1 to 8 alone change
pub user-keeps : (c : ℕ) (w : Words) (k : ℕ) → (k < 1) ⊎ (9 ≤ k) → refilled_user c w k ≡ w k
user-keeps c w k (inl h) = refilled-low c 16 w 1 k h
user-keeps c w k (inr h) = refilled-high c 16 w 1 k (omega arith)

pub user-says : (c : ℕ) → 0 < ends c → (w : Words) → Text 1 16 (stored 16 w 1) → UserStays (refilled_user c w) w
user-says c mark w T = record {
  head = user-keeps c w 0 (inl (omega arith));
  name = refilled-stored c 1 16 mark (omega arith) w 1 T;
  rest = λ k a b. user-keeps c w k (inr (omega arith));
}

-- ---- a file's entry

module _ (c : ℕ) (w : Words) where
  abbrev y : Words
  y = refilled c 16 w 1

  -- the name's words are written first, and those of the type stay till then
  pub object-name : (i : ℕ) → i < 8 → refilled_object c w (1 + i) ≡ refilled c 16 w 1 (1 + i)
  object-name i h = refilled-low c 4 y 9 (1 + i) (omega arith)

  pub type-words : (i : ℕ) → i < 2 → refilled c 16 w 1 (9 + i) ≡ w (9 + i)
  type-words i h = refilled-high c 16 w 1 (9 + i) (omega arith)

  -- words 1 to 10 alone change
  pub object-keeps : (k : ℕ) → (k < 1) ⊎ (11 ≤ k) → refilled_object c w k ≡ w k
  object-keeps k (inl h) = refilled-low c 4 y 9 k (omega arith) ∙ refilled-low c 16 w 1 k h
  object-keeps k (inr h) = refilled-high c 4 y 9 k (omega arith) ∙ refilled-high c 16 w 1 k (omega arith)

  pub type-read : stored 4 (refilled c 16 w 1) 9 ≡ stored 4 w 9
  type-read = stored-words 4 y w 9 9 (λ i h. type-words (i / 2) (omega arith))

  module _ (mark : 0 < ends c) (N : Text 1 16 (stored 16 w 1)) (T : Text 0 4 (stored 4 w 9)) where
    T' : Text 0 4 (stored 4 y 9)
    T' = subst (Text 0 4) (sym type-read) T

    pub object-says : ObjectStays (refilled_object c w) w
    object-says = record {
      head = object-keeps 0 (inl (omega arith));
      name = stored-words 16 (refilled_object c w) y 1 1 (λ i h. object-name (i / 2) (omega arith)) ∙ refilled-stored c 1 16 mark (omega arith) w 1 N;
      type = refilled-stored c 0 4 mark (omega arith) y 9 T' ∙ type-read;
      rest = λ k a b n. object-keeps k (inr (omega arith));
    }

    -- both have the fill
    pub object-filled : Filled c 16 (refilled_object c w) 1 × Filled c 4 (refilled_object c w) 9
    object-filled = (
      filled-words c 16 (refilled_object c w) y 1 1 (λ i h. object-name (i / 2) (omega arith)) (refilled-filled c 1 16 mark (omega arith) w 1 N),
      refilled-filled c 0 4 mark (omega arith) y 9 T',
    )

pub object-ext : (c : ℕ) (w x : Words) → ((k : ℕ) → k < 32 → w k ≡ x k) → (k : ℕ) → k < 32 → refilled_object c w k ≡ refilled_object c x k
object-ext c w x e k h = refilled-ext c 4 (omega arith) (y c w) (y c x) 9 (λ i l. step (9 + i) (omega arith)) k (step k h)
  where
    step : (k : ℕ) → k < 32 → refilled c 16 w 1 k ≡ refilled c 16 x 1 k
    step k h = refilled-ext c 16 (omega arith) w x 1 (λ i l. e (1 + i) (omega arith)) k (e k h)
