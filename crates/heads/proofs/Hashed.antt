-- Stamped slots: what they say of names met before. Assumes nothing.
use mathlib.Core.Path.{◌≡◌, refl, sym, ap, ap₂, ◌∙◌, subst}
use mathlib.Core.List.{List}
use Prim.Native.Nat.{ℕ, ◌+◌, ◌/◌, ◌%◌, ◌<◌}
use native.Mathlib.Decide.{ℕ_discrete}
use native.Mathlib.Numerals.{add-one}
use native.Mathlib.Omega.{arith}
use lib.ListN.{length, get_or, set, length-set}
use lib.Seq.{get_or-set_same, get_or-set_other}
use Rattle.book.specs.Words.{Words, Vol}
use Rattle.book.specs.Trees.{Root, page_at}
use Rattle.book.specs.Entries.{Table, entry, entry_word, used}
use Rattle.book.specs.Names.{words_of, stored}
use Rattle.tree.specs.Reach.{entry_in}
use Rattle.heads.specs.Span.{Span, span_none, span_more, span-join, span-by}
use Rattle.heads.specs.Stamps.{mix, hash, hash_of, title_hash, low_place, high_place, stamp_of, Met, Stamped}
use Rattle.heads.specs.Twins.{SameTitle, Fresh}
use Rattle.heads.proofs.Pages.{entry_in_lem, entry-on, absent-unused}
use Rattle.tree.proofs.Entries.{there-stored}
use Rattle.heads.proofs.Alike.{used-on, fresh-unused}

-- ---- the number of a name

pub hash-none : (h : ℕ) (x : Words) → hash h x 0 ≡ h
unfolding hash
hash-none h x = refl

pub hash-more : (h : ℕ) (x : Words) (i : ℕ) → hash h x (i + 1) ≡ mix (hash h x i) (x i)
unfolding hash
hash-more h x i = ap (hash h x) (add-one i)

-- all words of the name are in
pub hash-all : (h : ℕ) (s : List ℕ) (i : ℕ) → (length s + 1) / 2 ≡ i → hash h (words_of s) i ≡ hash_of h s
unfolding hash_of
hash-all h s i e = ap (hash h (words_of s)) (sym e)

-- read at its place on its page
pub title-in : (v : Vol) (q e w n h r : ℕ) → 0 < q → w ≡ entry_word e → h ≡ hash_of 0 (stored 16 (v q) (w + 1)) → r ≡ hash_of h (stored n (v q) (w + 9)) → r ≡ title_hash n (entry_in v q e)
title-in v q e w n h r g a c d =
    d ∙ ap₂ hash_of (c ∙ ap (hash_of 0) (there-stored v q e w 1 16 g a)) (there-stored v q e w 9 n g a)

-- ---- a slot stamped

module _ (T : List ℕ) (h s m : ℕ) (l : h < length T) (g : s ≡ m) where
  set_here : (k : ℕ) → k ≡ h → get_or (set T h s) k 0 ≡ m
  set_here k q = ap (λ (j : ℕ). get_or (set T h s) j 0) q ∙ get_or-set_same T h s 0 l ∙ g

  -- a slot that has the stamp keeps it
  set_keeps : (k : ℕ) → get_or T k 0 ≡ m → get_or (set T h s) k 0 ≡ m
  set_keeps k e = elim (ℕ_discrete k h) [
    | yes q ↦ set_here k q
    | no q ↦ get_or-set_other T h k s 0 q ∙ e
  ]

-- ---- entries that were met, by their slots p

module _ (E : Table) (p : Words → ℕ) (base y : ℕ) (T : List ℕ) (d : Met E p base y T) where
  -- an unused entry needs no stamp
  met-unused : (0 < used (E y) → ⊥) → Met E p base (y + 1) T
  met-unused u = span_more _ base y d (λ h. absurd (u h))

  met-more : get_or T (p (E y)) 0 ≡ stamp_of base → Met E p base (y + 1) T
  met-more e = span_more _ base y d (λ u. e)

  met-set : (h s : ℕ) → h < length T → s ≡ stamp_of base → Met E p base y (set T h s)
  unfolding Span
  met-set h s l g x i j u = set_keeps T h s (stamp_of base) l g (p (E x)) (d x i j u)

  -- where y's slot has not the stamp, no entry before has its name
  met-fresh : (n : ℕ) → ((w x : Words) → SameTitle n w x → p w ≡ p x) → (get_or T (p (E y)) 0 ≡ stamp_of base → ⊥) → Fresh E n base y
  unfolding Span
  met-fresh n same other x i j t = other (ap (λ (k : ℕ). get_or T k 0) (sym (same (E x) (E y) t.title)) ∙ d x i j t.first)

-- names and types that are the same have the same slots
by-hash : (n : ℕ) (f : ℕ → ℕ) (w x : Words) → SameTitle n w x → f (title_hash n w) ≡ f (title_hash n x)
by-hash n f w x s = ap₂ (λ (a b : List ℕ). f (hash_of (hash_of 0 a) b)) s.0 s.1

-- ---- both slots of entry y stamped, first a and then b

module _ (E : Table) (n base y : ℕ) (T : List ℕ) (d : Stamped E n base y T) (a b s : ℕ) (ea : a ≡ low_place n (E y)) (eb : b ≡ high_place n (E y)) (la : a < 4096) (lb : b < 4096) (g : s ≡ stamp_of base) where
  abbrev R : List ℕ
  R = set T a s

  long : length R ≡ 4096
  long = length-set T a s ∙ d.size

  stamped-both : Stamped E n base (y + 1) (set R b s)
  stamped-both = record {
    size = length-set R b s ∙ long;
    low = met-more E (low_place n) base y (set R b s) (keep (low_place n) d.low) (set_keeps R b s (stamp_of base) (omega (arith, long)) g (low_place n (E y)) (set_here T a s (stamp_of base) (omega (arith, d.size)) g (low_place n (E y)) (sym ea)));
    high = met-more E (high_place n) base y (set R b s) (keep (high_place n) d.high) (set_here R b s (stamp_of base) (omega (arith, long)) g (high_place n (E y)) (sym eb));
  }
    where
      keep : (p : Words → ℕ) → Met E p base y T → Met E p base y (set R b s)
      keep p m = met-set E p base y R (met-set E p base y T m a s (omega (arith, d.size)) g) b s (omega (arith, long)) g

  fresh-low : (get_or T a 0 ≡ s → ⊥) → Fresh E n base y
  fresh-low f = met-fresh E (low_place n) base y T d.low n (by-hash n (λ h. h / 256 % 4096)) (λ e. f (ap (λ (k : ℕ). get_or T k 0) ea ∙ e ∙ sym g))

  fresh-high : (get_or R b 0 ≡ s → ⊥) → Fresh E n base y
  fresh-high f =
      met-fresh E (high_place n) base y R (met-set E (high_place n) base y T d.high a s (omega (arith, d.size)) g) n (by-hash n (λ h. h / 1048576)) (λ e. f (ap (λ (k : ℕ). get_or R k 0) eb ∙ e ∙ sym g))

-- ---- as the code goes on to entry y, on page q of the file at r

module _ (v : Vol) (r : Root) (n base q y : ℕ) (T : List ℕ) (a : q ≡ page_at v r (y / 32)) (d : Stamped (entry v r) n base y T) where
  pub entry-unused : (0 < used (entry_in v q y) → ⊥) → Fresh (entry v r) n base y × Stamped (entry v r) n base (y + 1) T
  entry-unused u =
      let w : 0 < used (entry v r y) → ⊥ = λ h. u (omega (arith, h, used-on v r q y a)) in (
        fresh-unused (entry v r) n base y w,
        record { size = d.size; low = met-unused (entry v r) (low_place n) base y T d.low w; high = met-unused (entry v r) (high_place n) base y T d.high w },
      )

  -- h is the number of its name and type, and R and S the table after one stamp and after both
  module _ (h s : ℕ) (e : h ≡ title_hash n (entry_in v q y)) (l : h < 4294967296) (g : s ≡ stamp_of base) (R : List ℕ) (once : R ≡ set T (h / 256 % 4096) s) where
    number : h ≡ title_hash n (entry v r y)
    number = e ∙ ap (title_hash n) (entry_in_lem v r q y a)

    low-is : h / 256 % 4096 ≡ low_place n (entry v r y)
    low-is = ap (λ (x : ℕ). x / 256 % 4096) number

    high_is : h / 1048576 ≡ high_place n (entry v r y)
    high_is = ap (λ (x : ℕ). x / 1048576) number

    pub entry-stamped : (S : List ℕ) → S ≡ set R (h / 1048576) s → Stamped (entry v r) n base (y + 1) S
    entry-stamped S twice =
        subst (Stamped (entry v r) n base (y + 1)) (sym (twice ∙ ap (λ (X : List ℕ). set X (h / 1048576) s) once)) (stamped-both (entry v r) n base y T d (h / 256 % 4096) (h / 1048576) s low-is high_is (omega arith) (omega arith) g)

    pub entry-low : (get_or T (h / 256 % 4096) 0 ≡ s → ⊥) → Fresh (entry v r) n base y
    entry-low = fresh-low (entry v r) n base y T d (h / 256 % 4096) (h / 1048576) s low-is high_is (omega arith) (omega arith) g

    pub entry-high : (get_or R (h / 1048576) 0 ≡ s → ⊥) → Fresh (entry v r) n base y
    entry-high f = fresh-high (entry v r) n base y T d (h / 256 % 4096) (h / 1048576) s low-is high_is (omega arith) (omega arith) g (λ x. f (ap (λ (X : List ℕ). get_or X (h / 1048576) 0) once ∙ x))

-- an absent page has no used entries
pub stamped-page : (v : Vol) (r : Root) (n base q first : ℕ) (T : List ℕ) → first % 32 ≡ 0 → q ≡ page_at v r (first / 32) → q ≡ 0 → Stamped (entry v r) n base first T → Stamped (entry v r) n base (first + 32) T
stamped-page v r n base q first T f e z d = record { size = d.size; low = past (low_place n) d.low; high = past (high_place n) d.high }
  where
    past : (p : Words → ℕ) → Met (entry v r) p base first T → Met (entry v r) p base (first + 32) T
    past p m = span-join _ base first (first + 32) m (span-by _ first (first + 32) (λ x h l u. absurd (let w : ⊥ = omega (arith, absent-unused v q x _ (entry-on v q first x f h l r e) z) in w)))

-- before the first entry
pub stamped-none : (E : Table) (n base : ℕ) (T : List ℕ) → length T ≡ 4096 → Stamped E n base base T
stamped-none E n base T e = record { size = e; low = span_none _ base; high = span_none _ base }
