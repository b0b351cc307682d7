-- Pages met, as code tells it. Assumes nothing.
use mathlib.Core.Path.{◌≡◌, refl, sym, ap, ◌∙◌, subst}
use mathlib.Core.Bool.{Bool, true, false, not}
use mathlib.Core.List.{List}
use Prim.Native.Nat.{ℕ, zero, suc, ◌+◌, ◌-◌, ◌≤◌, ◌<◌}
use native.Mathlib.Nat.{le_refl}
use native.Mathlib.Omega.{arith}
use lib.ListN.{length}
use Rattle.sums.specs.Sum.{sum, sum-none, sum-zero}
use Rattle.book.specs.Words.{Vol}
use Rattle.book.specs.Pointers.{slot}
use Rattle.book.specs.Trees.{weigh, weigh_r, root_by}
use Rattle.book.specs.Holders.{hit}
use Rattle.book.specs.Image.{most_pages}
use Rattle.laws.specs.Count.Sums.{sum-cat}
use Rattle.laws.specs.Tree.Slot.{hit-zero, hit_other}
use Rattle.laws.specs.Tree.Weigh.{weigh-none}
use Rattle.bits.specs.Marks.{Marking}
use Rattle.bits.proofs.Marked.{marking-new, marking-old}
use Rattle.places.specs.Low.{under, opened_size, opened, Opens, Opening, Room, Meets, Meets₁, Meets₂}
use Rattle.places.proofs.Meeting.{met-past, met-none, met-same, met-then, met-turn, met-new, met-old, met-skip, met-skip₂, met-open, met-open₂}

-- ---- the marks alone

module _ (m : List ℕ) (c : ℕ) where
  pub meets-past : Room m c → (w : ℕ → ℕ) → ((p : ℕ) → p < c → w p ≡ 0) → Meets m c w m c
  meets-past r w z = record { size = r.size; most = le_refl c; met = λ P v a b. met-past P v m a b c w (λ f s. z) }

  pub meets-same : (w x : ℕ → ℕ) → ((p : ℕ) → w p ≡ x p) → (m' : List ℕ) (c' : ℕ) → Meets m c w m' c' → Meets m c x m' c'
  meets-same w x e m' c' k = record { size = k.size; most = k.most; met = λ P v a b. met-same P v m a b c w x e m' a b c' (k.met P v a b) }

  pub meets-then : (w x : ℕ → ℕ) (m' : List ℕ) (c' : ℕ) (m'' : List ℕ) (c'' : ℕ) → Meets m c w m' c' → Meets m' c' x m'' c'' → Meets m c (λ p. w p + x p) m'' c''
  meets-then w x m' c' m'' c'' k j = record { size = j.size; most = omega (arith, k.most, j.most); met = λ P v a b. met-then P v m a b c w x m' a b c' m'' a b c'' (k.met P v a b) (j.met P v a b) }

  -- one page, by the ways through the code
  pub page-none : Room m c → (q : ℕ) → q ≡ 0 → Meets m c (λ p. hit p q) m c
  page-none r q e = meets-past r (λ p. hit p q) (λ p h. ap (hit p) e ∙ hit-zero p)

  pub page-past : Room m c → (q : ℕ) → c ≤ q → Meets m c (λ p. hit p q) m c
  page-past r q l = meets-past r (λ p. hit p q) (λ p h. hit_other p q (λ e. omega arith))

  pub page-old : Room m c → (q : ℕ) → (q ≡ 0 → ⊥) → q < c → (m' : List ℕ) (b : Bool) → Marking m q m' b → not b ≡ true → Meets m c (λ p. hit p q) m' q
  page-old r q z l m' b d e =
      let o = marking-old m q m' b d e in
      subst (λ (x : List ℕ). Meets m c (λ p. hit p q) x q) (sym o.1)
      (record { size = r.size; most = omega arith; met = λ P v a b. met-old P v m a b c q (omega arith) l o.0 })

  pub page-new : Room m c → (q : ℕ) → (q ≡ 0 → ⊥) → (m' : List ℕ) (b : Bool) → Marking m q m' b → not b ≡ false → Meets m c (λ p. hit p q) m' c
  page-new r q z m' b d e =
      let n = marking-new m q m' b d e in
      record { size = n.kept ∙ r.size; most = le_refl c; met = λ P v a b. met-new P v m a b c q m' (omega arith) n }

  -- ---- a loop: x j is met at turn j

  module _ (x : ℕ → ℕ → ℕ) where
    pub turns-none : Room m c → Meets m c (λ p. sum 0 (λ j. x j p)) m c
    turns-none r = meets-past r (λ p. sum 0 (λ j. x j p)) (λ p h. sum-zero (λ j. x j p))

    pub turns_more : (i : ℕ) (m' : List ℕ) (c' : ℕ) (m'' : List ℕ) (c'' : ℕ) → Meets m c (λ p. sum i (λ j. x j p)) m' c' → Meets m' c' (x i) m'' c'' → Meets m c (λ p. sum (i + 1) (λ j. x j p)) m'' c''
    turns_more i m' c' m'' c'' k j = record { size = j.size; most = omega (arith, k.most, j.most); met = λ P v a b. met-turn P v m a b c x i m' a b c' m'' a b c'' (k.met P v a b) (j.met P v a b) }

    pub turns-end : (i n : ℕ) → i ≡ n → (m' : List ℕ) (c' : ℕ) → Meets m c (λ p. sum i (λ j. x j p)) m' c' → Meets m c (λ p. sum n (λ j. x j p)) m' c'
    turns-end i n e m' c' k = subst (λ (z : ℕ). Meets m c (λ p. sum z (λ j. x j p)) m' c') e k

    -- the rest is not below c'
    pub turns-past : (i n : ℕ) → i ≤ n → (m' : List ℕ) (c' : ℕ) → c ≤ most_pages → Meets m c (λ p. sum i (λ j. x j p)) m' c' → ((j p : ℕ) → i ≤ j → p < c' → x j p ≡ 0) → Meets m c (λ p. sum n (λ j. x j p)) m' c'
    turns-past i n h m' c' l k z =
        let e : i + (n - i) ≡ n = omega arith in
        meets-same (λ p. sum i (λ j. x j p) + sum (n - i) (λ j. x (i + j) p)) (λ p. sum n (λ j. x j p))
        (λ p. sym (sum-cat (n - i) i (λ j. x j p)) ∙ ap (λ (y : ℕ). sum y (λ j. x j p)) e) m' c'
        (meets-then (λ p. sum i (λ j. x j p)) (λ p. sum (n - i) (λ j. x (i + j) p)) m' c' m' c' k
        (meets-rest m' c' (record { size = k.size; most = omega (arith, k.most) }) (λ p. sum (n - i) (λ j. x (i + j) p)) (λ p q. sum-none (n - i) (λ j. x (i + j) p) (λ j u. z (i + j) p (omega arith) q))))
      where
        meets-rest : (m : List ℕ) (c : ℕ) → Room m c → (w : ℕ → ℕ) → ((p : ℕ) → p < c → w p ≡ 0) → Meets m c w m c
        meets-rest m c r w z = record { size = r.size; most = le_refl c; met = λ P v a b. met-past P v m a b c w (λ f s. z) }

-- a page that a pointer names
pub slot-met : (v : Vol) (t k q : ℕ) (m : List ℕ) (c : ℕ) (m' : List ℕ) (c' : ℕ) → q ≡ slot v t k → Meets m c (λ p. hit p q) m' c' → Meets m c (λ p. weigh v 0 (slot v t k) (hit p)) m' c'
unfolding weigh
slot-met v t k q m c m' c' e d = meets-same m c (λ p. hit p q) (λ p. hit p (slot v t k)) (λ p. ap (hit p) e) m' c' d

-- ---- a block that is opened, after a test of the answer

module _ (a : List ℕ) (t : ℕ) (a' : List ℕ) where
  opening-new : (r : Bool) → Opening a t a' r → not r ≡ false → Opens a t a'
  opening-new true d e = d
  opening-new false d e = let z : ◌≡◌ {A = ℕ} 0 1 = cc in absurd (omega arith)

  opening-old : (r : Bool) → Opening a t a' r → not r ≡ true → (2 ≤ opened a t) × (a' ≡ a)
  opening-old false d e = d
  opening-old true d e = let z : ◌≡◌ {A = ℕ} 0 1 = cc in absurd (omega arith)

-- ---- an index block

module _ (P : ℕ) (v : Vol) (m a : List ℕ) (c t : ℕ) (room : length a ≡ opened_size) where
  pub index-none : Room m c → t ≡ 0 → Meets₁ P v m a c (λ p. weigh v 1 t (hit p)) m a c
  index-none r e = record {
    size = r.size;
    index = room;
    most = le_refl c;
    met = λ b. met-none P v m a b c (λ p. weigh v 1 t (hit p)) (λ p. ap (λ (x : ℕ). weigh v 1 x (hit p)) e ∙ weigh-none v (hit p) (hit-zero p) 1);
  }

  module _ (l : t < P) (m' : List ℕ) (c' : ℕ) (k : Meets m c (λ p. hit p t) m' c') (a' : List ℕ) (r : Bool) (d : Opening a t a' r) where
    pub index-skip : not r ≡ true → Meets₁ P v m a c (λ p. weigh v 1 t (hit p)) m' a' c'
    unfolding weigh
    index-skip e = let o = opening-old a t a' r d e in subst (λ (x : List ℕ). Meets₁ P v m a c (λ p. weigh v 1 t (hit p)) m' x c') (sym o.1) (record {
      size = k.size;
      index = room;
      most = k.most;
      met = λ b. met-then P v m a b c (λ p. hit p t) (under v 0 t) m' a b c' m' a b c' (k.met P v a b) (met-skip P v m' a b c' t l o.0);
    })

    pub index-open : not r ≡ false → (m'' : List ℕ) (c'' : ℕ) → Meets m' c' (under v 0 t) m'' c'' → Meets₁ P v m a c (λ p. weigh v 1 t (hit p)) m'' a' c''
    unfolding weigh
    index-open e m'' c'' j = let o = opening-new a t a' r d e in record {
      size = j.size;
      index = o.kept ∙ room;
      most = omega (arith, k.most, j.most);
      met = λ b. met-then P v m a b c (λ p. hit p t) (under v 0 t) m' a b c' m'' a' b c'' (k.met P v a b)
          (met-open P v m' a b c' t a' o l m'' c'' (j.met P v a b));
    }

-- ---- a row of index blocks

module _ (P : ℕ) (v : Vol) (m a : List ℕ) (c : ℕ) (x : ℕ → ℕ → ℕ) where
  pub rows_none : Room m c → length a ≡ opened_size → Meets₁ P v m a c (λ p. sum 0 (λ j. x j p)) m a c
  rows_none r h = record { size = r.size; index = h; most = le_refl c; met = λ b. met-none P v m a b c (λ p. sum 0 (λ j. x j p)) (λ p. sum-zero (λ j. x j p)) }

  pub rows_more : (i : ℕ) (m' a' : List ℕ) (c' : ℕ) (m'' a'' : List ℕ) (c'' : ℕ) → Meets₁ P v m a c (λ p. sum i (λ j. x j p)) m' a' c' → Meets₁ P v m' a' c' (x i) m'' a'' c'' → Meets₁ P v m a c (λ p. sum (i + 1) (λ j. x j p)) m'' a'' c''
  rows_more i m' a' c' m'' a'' c'' k j = record { size = j.size; index = j.index; most = omega (arith, k.most, j.most); met = λ b. met-turn P v m a b c x i m' a' b c' m'' a'' b c'' (k.met b) (j.met b) }

  pub rows_end : (i n : ℕ) → i ≡ n → (m' a' : List ℕ) (c' : ℕ) → Meets₁ P v m a c (λ p. sum i (λ j. x j p)) m' a' c' → Meets₁ P v m a c (λ p. sum n (λ j. x j p)) m' a' c'
  rows_end i n e m' a' c' k = subst (λ (z : ℕ). Meets₁ P v m a c (λ p. sum z (λ j. x j p)) m' a' c') e k

-- ---- a subindex block

module _ (P : ℕ) (v : Vol) (m a b : List ℕ) (c : ℕ) (one : length a ≡ opened_size) (two : length b ≡ opened_size) where
  pub none₂ : Room m c → (w : ℕ → ℕ) → ((p : ℕ) → w p ≡ 0) → Meets₂ P v m a b c w m a b c
  none₂ r w z = record { size = r.size; index = one; subindex = two; most = le_refl c; met = met-none P v m a b c w z }

  pub same₂ : (w x : ℕ → ℕ) → ((p : ℕ) → w p ≡ x p) → (m' a' b' : List ℕ) (c' : ℕ) → Meets₂ P v m a b c w m' a' b' c' → Meets₂ P v m a b c x m' a' b' c'
  same₂ w x e m' a' b' c' k = record { size = k.size; index = k.index; subindex = k.subindex; most = k.most; met = met-same P v m a b c w x e m' a' b' c' k.met }

  pub from-marks : (w : ℕ → ℕ) (m' : List ℕ) (c' : ℕ) → Meets m c w m' c' → Meets₂ P v m a b c w m' a b c'
  from-marks w m' c' k = record { size = k.size; index = one; subindex = two; most = k.most; met = k.met P v a b }

  pub from-index : (w : ℕ → ℕ) (m' a' : List ℕ) (c' : ℕ) → Meets₁ P v m a c w m' a' c' → Meets₂ P v m a b c w m' a' b c'
  from-index w m' a' c' k = record { size = k.size; index = k.index; subindex = two; most = k.most; met = k.met b }

  pub sub-none : (t : ℕ) → Room m c → t ≡ 0 → Meets₂ P v m a b c (λ p. weigh v 2 t (hit p)) m a b c
  sub-none t r e = none₂ r (λ p. weigh v 2 t (hit p)) (λ p. ap (λ (x : ℕ). weigh v 2 x (hit p)) e ∙ weigh-none v (hit p) (hit-zero p) 2)

  module _ (t : ℕ) (l : t < P) (m' : List ℕ) (c' : ℕ) (k : Meets m c (λ p. hit p t) m' c') (b' : List ℕ) (r : Bool) (d : Opening b t b' r) where
    pub sub-skip : not r ≡ true → Meets₂ P v m a b c (λ p. weigh v 2 t (hit p)) m' a b' c'
    unfolding weigh
    sub-skip e = let o = opening-old b t b' r d e in subst (λ (x : List ℕ). Meets₂ P v m a b c (λ p. weigh v 2 t (hit p)) m' a x c') (sym o.1) (record {
      size = k.size;
      index = one;
      subindex = two;
      most = k.most;
      met = met-then P v m a b c (λ p. hit p t) (under v 1 t) m' a b c' m' a b c' (k.met P v a b) (met-skip₂ P v m' a b c' t l o.0);
    })

    pub sub_open : not r ≡ false → (m'' a'' : List ℕ) (c'' : ℕ) → Meets₁ P v m' a c' (under v 1 t) m'' a'' c'' → Meets₂ P v m a b c (λ p. weigh v 2 t (hit p)) m'' a'' b' c''
    unfolding weigh
    sub_open e m'' a'' c'' j = let o = opening-new b t b' r d e in record {
      size = j.size;
      index = j.index;
      subindex = o.kept ∙ two;
      most = omega (arith, k.most, j.most);
      met = met-then P v m a b c (λ p. hit p t) (under v 1 t) m' a b c' m'' a'' b' c'' (k.met P v a b)
          (met-open₂ P v m' a b c' t b' o l m'' a'' c'' (j.met b));
    }

-- ---- roots in a row

module _ (P : ℕ) (v : Vol) (m a b : List ℕ) (c : ℕ) where
  pub then₂ : (w x : ℕ → ℕ) (m' a' b' : List ℕ) (c' : ℕ) (m'' a'' b'' : List ℕ) (c'' : ℕ) → Meets₂ P v m a b c w m' a' b' c' → Meets₂ P v m' a' b' c' x m'' a'' b'' c'' → Meets₂ P v m a b c (λ p. w p + x p) m'' a'' b'' c''
  then₂ w x m' a' b' c' m'' a'' b'' c'' k j = record { size = j.size; index = j.index; subindex = j.subindex; most = omega (arith, k.most, j.most); met = met-then P v m a b c w x m' a' b' c' m'' a'' b'' c'' k.met j.met }

  pub files-more : (x : ℕ → ℕ → ℕ) (i : ℕ) (m' a' b' : List ℕ) (c' : ℕ) (m'' a'' b'' : List ℕ) (c'' : ℕ) → Meets₂ P v m a b c (λ p. sum i (λ j. x j p)) m' a' b' c' → Meets₂ P v m' a' b' c' (x i) m'' a'' b'' c'' → Meets₂ P v m a b c (λ p. sum (i + 1) (λ j. x j p)) m'' a'' b'' c''
  files-more x i m' a' b' c' m'' a'' b'' c'' k j = record { size = j.size; index = j.index; subindex = j.subindex; most = omega (arith, k.most, j.most); met = met-turn P v m a b c x i m' a' b' c' m'' a'' b'' c'' k.met j.met }

-- what a root weighs, by its flags
module _ (v : Vol) (t n : ℕ) (g : ℕ → ℕ) where
  pub root-run : (x : ℕ) → x ≡ 0 → sum n (λ i. g (t + i)) ≡ weigh_r v (root_by x t n) g
  unfolding weigh_r root_by
  root-run x e = sym (ap (λ (y : ℕ). weigh_r v (root_by y t n) g) e)

  pub root-one : (x : ℕ) → x ≡ 1 → weigh v 1 t g ≡ weigh_r v (root_by x t n) g
  unfolding weigh_r root_by
  root-one x e = sym (ap (λ (y : ℕ). weigh_r v (root_by y t n) g) e)

  pub root-two : (x : ℕ) → x ≡ 2 → weigh v 2 t g ≡ weigh_r v (root_by x t n) g
  unfolding weigh_r root_by
  root-two x e = sym (ap (λ (y : ℕ). weigh_r v (root_by y t n) g) e)

  pub root-wrong : (x : ℕ) → (x ≡ 0 → ⊥) → (x ≡ 1 → ⊥) → (x ≡ 2 → ⊥) → weigh_r v (root_by x t n) g ≡ 0
  unfolding weigh_r root_by
  root-wrong zero a b c = absurd (a refl)
  root-wrong (suc zero) a b c = absurd (b refl)
  root-wrong (suc (suc zero)) a b c = absurd (c refl)
  root-wrong (suc (suc (suc x))) a b c = sum-zero (λ i. g (0 + i))

-- an index block that a pointer names
pub index_same : (P : ℕ) (v : Vol) (t k q : ℕ) (m a : List ℕ) (c : ℕ) (m' a' : List ℕ) (c' : ℕ) → q ≡ slot v t k → Meets₁ P v m a c (λ p. weigh v 1 q (hit p)) m' a' c' → Meets₁ P v m a c (λ p. weigh v 1 (slot v t k) (hit p)) m' a' c'
index_same P v t k q m a c m' a' c' e d = subst (λ (x : ℕ). Meets₁ P v m a c (λ p. weigh v 1 x (hit p)) m' a' c') e d
