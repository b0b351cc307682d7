-- The used entries of a file of entries are made anew, one after the other: each is what was made of it, and nothing else changes. Assumes nothing.
use Rattle.std.specs.Prelude.{◌≡◌, refl, ◌≢◌, ◌⊎◌}
use Rattle.std.proofs.Math.Path.{sym, ap, subst}
use Rattle.std.proofs.Common.{ap₂, ◌∙◌, not-suc-le-zero, eq-zero-or-pos, arith}
use Rattle.std.proofs.Math.Logic.{inl, inr}
use Prim.Native.Nat.{ℕ, zero, suc, ◌+◌, ◌-◌, ◌/◌, ◌≤◌, ◌<◌}
use Rattle.std.proofs.Math.Decide.{ℕ_discrete, dec_lt}
use Rattle.sums.specs.Search.{pick, pick_yes, pick_no}
use Rattle.book.specs.Words.{Words, Vol}
use Rattle.book.specs.Written.{word-pos}
use Rattle.book.specs.Entries.{entry, entry_word, put_entry, used}
use Rattle.book.specs.Files.{file_at}
use Rattle.book.specs.Rules.{Sound}
use Rattle.book.specs.Trees.{Root, page_at}
use Rattle.book.specs.Convert.{remake, remake_all}
use Rattle.laws.specs.Frame.EntryFile.{EntryFile, master-same, roots-same, pages-same, other-pages, entries-else, other_entries, put_only, put-own}
use Rattle.laws.specs.Frame.Fields.{row_at}
use Rattle.laws.specs.Frame.Places.{EntryOf, FieldOf, OnlyAt, at-put_words}
use Rattle.laws.specs.Frame.Roots.{Roots, used-page}
use Rattle.laws.specs.Tree.Pointer.{used-ext}

-- the addresses of all files' pages
unfoldable pub SameAddresses : Vol → Vol → Type 0
SameAddresses v v' = (x : ℕ) → x < 65536 → (m : ℕ) → page_at v' (file_at v' x) m ≡ page_at v (file_at v x) m

-- what f makes of an entry, if it is used
unfoldable pub remade : (Words → Words) → Words → Words
remade f x k = pick (used x) (f x k) (x k)

-- a file of so many entries, beside the other one, whose used entries f may make anew: it changes the words from 1 on, as many as `wide` says, and keeps a sound volume sound
pub record Making (P : ℕ) (file other : Vol → Root) (f : Words → Words) (count wide : ℕ) : Type 0 where
  pub ext : (w x : Words) → ((k : ℕ) → k < 32 → w k ≡ x k) → (k : ℕ) → k < 32 → f w k ≡ f x k
  pub keeps : (w : Words) (k : ℕ) → (k < 1) ⊎ (suc wide ≤ k) → f w k ≡ w k
  pub entries : (v : Vol) → Sound P v → EntryFile P v (file v) (other v)
  pub root : (v v' : Vol) → Roots v v' → file v' ≡ file v
  pub root' : (v v' : Vol) → Roots v v' → other v' ≡ other v
  pub sound : (v : Vol) → Sound P v → (n : ℕ) → n < count → 0 < used (entry v (file v) n)
      → let v' : Vol = put_entry v (page_at v (file v) (n / 32)) n (f (entry v (file v) n)) in Sound P v' × SameAddresses v v'

module _ {P : ℕ} {file other : Vol → Root} {f : Words → Words} {count wide : ℕ} (M : Making P file other f count wide) where
  -- word k of page p is one of those that may change in entry m
  abbrev pub Written : Vol → ℕ → ℕ → ℕ → Type 0
  Written v m p k = (0 < used (entry v (file v) m)) × FieldOf (page_at v (file v) (m / 32)) m 1 wide p k

  -- the first n entries were made anew
  pub record Passed (v : Vol) (n : ℕ) (v' : Vol) : Type 0 where
    pub sound : Sound P v'
    pub master : (k : ℕ) → v' 0 k ≡ v 0 k
    pub pages : (m : ℕ) → page_at v' (file v') m ≡ page_at v (file v) m
    pub pages' : (m : ℕ) → page_at v' (other v') m ≡ page_at v (other v) m
    pub made : (m : ℕ) → m < n → (k : ℕ) → k < 32 → entry v' (file v') m k ≡ remade f (entry v (file v) m) k
    pub left : (m : ℕ) → n ≤ m → (k : ℕ) → k < 32 → entry v' (file v') m k ≡ entry v (file v) m k
    pub others : (m k : ℕ) → entry v' (other v') m k ≡ entry v (other v) m k
    pub addresses : SameAddresses v v'
    pub lies : (p k : ℕ) → (v' p k ≡ v p k) ⊎ ((m : ℕ) × (m < n) × Written v m p k)

  none_passed : (v : Vol) → Sound P v → Passed v 0 v
  unfolding SameAddresses
  none_passed v S = record {
    sound = S;
    master = λ k. refl;
    pages = λ m. refl;
    pages' = λ m. refl;
    made = λ m h. absurd (not-suc-le-zero h);
    left = λ m h k l. refl;
    others = λ m k. refl;
    addresses = λ x h m. refl;
    lies = λ p k. inl refl;
  }

  -- ---- one more

  module _ (v : Vol) (n : ℕ) (w : Vol) (A : Passed v n w) where
    abbrev x : Words
    x = entry w (file w) n

    abbrev y : Words
    y = entry v (file v) n

    used-same : used x ≡ used y
    used-same = used-ext x y (A.left n (omega arith) 0 (omega arith))

    longer : {p k : ℕ} → (w p k ≡ v p k) ⊎ ((m : ℕ) × (m < n) × Written v m p k) → (w p k ≡ v p k) ⊎ ((m : ℕ) × (m < suc n) × Written v m p k)
    longer (inl e) = inl e
    longer (inr (m, h, r)) = inr (m, omega arith, r)

    -- it is not used
    skipped : used x ≡ 0 → Passed v (suc n) w
    unfolding remade
    skipped z = record {
      sound = A.sound;
      master = A.master;
      pages = A.pages;
      pages' = A.pages';
      made = λ m h k l. elim (ℕ_discrete m n) [
        | no d ↦ A.made m (omega arith) k l
        | yes e ↦ A.left m (omega arith) k l ∙ sym (pick_no (used (entry v (file v) m)) _ _ (ap (λ (i : ℕ). used (entry v (file v) i)) e ∙ sym used-same ∙ z))
      ];
      left = λ m h k l. A.left m (omega arith) k l;
      others = A.others;
      addresses = A.addresses;
      lies = λ p k. longer (A.lies p k);
    }

    -- it is
    module _ (hn : n < count) (u : 0 < used x) where
      abbrev q : ℕ
      q = page_at w (file w) (n / 32)

      abbrev z : Vol
      z = put_entry w q n (f x)

      F : EntryFile P w (file w) (other w)
      F = M.entries w A.sound

      real : 0 < q
      real = used-page w (file w) n u

      only : OnlyAt (EntryOf q n) w z
      only = put_only F n real (f x)

      roots : Roots w z
      roots = roots-same F n real z only

      root_z : file z ≡ file w
      root_z = M.root w z roots

      rootZ' : other z ≡ other w
      rootZ' = M.root' w z roots

      own : (k : ℕ) → k < 32 → entry z (file z) n k ≡ f y k
      own k l = ap (λ (r : Root). entry z r n k) root_z ∙ put-own F n real (f x) k l ∙ M.ext x y (λ i j. A.left n (omega arith) i j) k l

      else : (m : ℕ) → m ≢ n → (k : ℕ) → k < 32 → entry z (file z) m k ≡ entry w (file w) m k
      else m d k l = ap (λ (r : Root). entry z r m k) root_z ∙ entries-else F n real z only m d k l

      -- a word of the entry beside those that f changes
      kept : (j : ℕ) → (j < 1) ⊎ (suc wide ≤ j) → j < 32 → z q (entry_word n + j) ≡ w q (entry_word n + j)
      unfolding entry
      kept j h l = row_at w q (entry_word n) 32 (f x) j l ∙ M.keeps x j h ∙ word-pos w q (entry_word n + j) real

      -- the words that change are the field's
      changes : (p k : ℕ) → (z p k ≡ w p k) ⊎ FieldOf q n 1 wide p k
      changes p k = go (at-put_words w q (entry_word n) 32 (f x) p k)
        where
          same : (j : ℕ) → p ≡ q → k ≡ entry_word n + j → z q (entry_word n + j) ≡ w q (entry_word n + j) → z p k ≡ w p k
          same j e s h = ap₂ z e s ∙ h ∙ sym (ap₂ w e s)

          go : (z p k ≡ w p k) ⊎ EntryOf q n p k → (z p k ≡ w p k) ⊎ FieldOf q n 1 wide p k
          go (inl e) = inl e
          go (inr (e, a, b)) = let j : ℕ = k - entry_word n in elim (dec_lt j 1) [
            | yes c ↦ inl (same j e (omega arith) (kept j (inl c) (omega arith)))
            | no c ↦ elim (dec_lt j (suc wide)) [
              | yes d ↦ inr (e, omega arith, omega arith)
              | no d ↦ inl (same j e (omega arith) (kept j (inr (omega arith)) (omega arith)))
            ]
          ]

      there : {p k : ℕ} → FieldOf q n 1 wide p k → Written v n p k
      there {p} {k} a = (subst (λ (i : ℕ). 0 < i) used-same u, subst (λ (i : ℕ). FieldOf i n 1 wide p k) (A.pages (n / 32)) a)

      again : {p k : ℕ} → (z p k ≡ w p k) ⊎ FieldOf q n 1 wide p k → (w p k ≡ v p k) ⊎ ((m : ℕ) × (m < n) × Written v m p k) → (z p k ≡ v p k) ⊎ ((m : ℕ) × (m < suc n) × Written v m p k)
      again (inr a) b = inr (n, omega arith, there a)
      again (inl e) (inl s) = inl (e ∙ s)
      again (inl e) (inr (m, h, r)) = inr (m, omega arith, r)

      remade-one : Passed v (suc n) z
      unfolding remade SameAddresses
      remade-one = let s = M.sound w A.sound n hn u in record {
        sound = s.0;
        master = λ k. master-same F n real z only k ∙ A.master k;
        pages = λ m. ap (λ (r : Root). page_at z r m) root_z ∙ pages-same F n real z only m ∙ A.pages m;
        pages' = λ m. ap (λ (r : Root). page_at z r m) rootZ' ∙ other-pages F n real z only m ∙ A.pages' m;
        made = λ m h k l. elim (ℕ_discrete m n) [
          | no d ↦ else m d k l ∙ A.made m (omega arith) k l
          | yes e ↦ ap (λ (i : ℕ). entry z (file z) i k) e ∙ own k l ∙ sym (ap (λ (i : ℕ). remade f (entry v (file v) i) k) e ∙ pick_yes (used y) (f y k) (y k) (subst (λ (i : ℕ). 0 < i) used-same u))
        ];
        left = λ m h k l. else m (omega arith) k l ∙ A.left m (omega arith) k l;
        others = λ m k. ap (λ (r : Root). entry z r m k) rootZ' ∙ other_entries F n real z only m k ∙ A.others m k;
        addresses = λ i h m. s.1 i h m ∙ A.addresses i h m;
        lies = λ p k. again (changes p k) (A.lies p k);
      }

    one_more_lem : n < count → Passed v (suc n) (remake file f w n)
    unfolding remake
    one_more_lem hn = elim (eq-zero-or-pos (used x)) [
      | inl e ↦ subst (Passed v (suc n)) (sym (pick_no (used x) _ w e)) (skipped e)
      | inr u ↦ subst (Passed v (suc n)) (sym (pick_yes (used x) _ w u)) (remade-one hn u)
    ]

  pub passed : (v : Vol) → Sound P v → (n : ℕ) → n ≤ count → Passed v n (remake_all file f v n)
  unfolding remake_all
  passed v S zero h = none_passed v S
  passed v S (suc n) h = one_more_lem v n (remake_all file f v n) (passed v S n (omega arith)) (omega arith)
