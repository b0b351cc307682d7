-- All that is held, met. Assumes nothing.
use mathlib.Core.Path.{◌≡◌, refl, sym, ap, ap₂, ◌∙◌, subst}
use mathlib.Core.List.{List}
use mathlib.Core.Bool.{Bool}
use Prim.Native.Nat.{ℕ, ◌+◌, ◌-◌, ◌*◌, ◌≤◌, ◌<◌}
use native.Mathlib.Omega.{arith}
use lib.ListN.{length, replicate, length-replicate}
use Rattle.sums.specs.Sum.{sum, is, is-sym, sum-none, sum-zero}
use Rattle.book.specs.Words.{Vol, vol}
use Rattle.book.specs.Pointers.{page, bit_pointer}
use Rattle.book.specs.Trees.{Root, run, weigh_r}
use Rattle.book.specs.Bits.{bit_pages, bit_file}
use Rattle.book.specs.Entries.{user_file, object_file}
use Rattle.book.specs.Files.{file_at}
use Rattle.book.specs.Holders.{hit, mine, system, all, holders}
use Rattle.laws.specs.Count.Sums.{sum-cat, sum_rows}
use Rattle.laws.specs.Tree.Pointer.{file-unused}
use Rattle.tree.specs.Ends.{Ends}
use Rattle.tree.proofs.Absent.{ends-unused}
use Rattle.bits.specs.Marks.{Unmarked, Marking}
use Rattle.bits.proofs.Marked.{marked-le, no-marks}
use Rattle.walk.proofs.Holding.{first-mark}
use Rattle.book.specs.declared.Place.{Place}
use Rattle.book.specs.Spots.{at, AllHold, First}
use Rattle.book.specs.Places.{spots8}
use Rattle.places.specs.Low.{opened_size, under, Seen, Met, Room, Meets, Meets₂, Index, Unopened, Meeting}
use Rattle.places.proofs.Steps.{same₂, from-marks, then₂}

-- ---- what is given on

pub room_of : (img m a b : List ℕ) (c : ℕ) → Meeting img m a b c → Room m c × Index img a × (length b ≡ opened_size)
room_of img m a b c d = (d.room, record { size = d.index; few = d.volume.whole.most; some = omega (arith, d.volume.whole.least) }, d.subindex)

pub meeting-on : (img m a b : List ℕ) (c : ℕ) → Meeting img m a b c → (P : ℕ) (v : Vol) (w : ℕ → ℕ) (m' a' b' : List ℕ) (c' : ℕ) → Meets₂ P v m a b c w m' a' b' c' → Meeting img m' a' b' c'
meeting-on img m a b c d P v w m' a' b' c' k = record { volume = d.volume; room = record { size = k.size; most = omega (arith, d.room.most, k.most) }; index = k.index; subindex = k.subindex }

-- ---- one file

pub root-same : (P : ℕ) (v : Vol) (m a b : List ℕ) (c : ℕ) → length a ≡ opened_size → length b ≡ opened_size → (r s : Root) → r ≡ s → (m' a' b' : List ℕ) (c' : ℕ) → Meets₂ P v m a b c (λ p. weigh_r v s (hit p)) m' a' b' c' → Meets₂ P v m a b c (λ p. weigh_r v r (hit p)) m' a' b' c'
root-same P v m a b c one two r s e m' a' b' c' k = same₂ P v m a b c one two (λ p. weigh_r v s (hit p)) (λ p. weigh_r v r (hit p)) (λ p. ap (λ (x : Root). weigh_r v x (hit p)) (sym e)) m' a' b' c' k

pub run_none : (v : Vol) (r : Root) → r ≡ run 0 0 → (g : ℕ → ℕ) → weigh_r v r g ≡ 0
unfolding weigh_r
run_none v r e g = ap (λ (x : Root). weigh_r v x g) e ∙ sum-zero (λ i. g (0 + i))

-- ---- all files: those past the object file's end have no pages

module _ (img : List ℕ) (ends : ℕ) (d : Ends img ends) (g : ℕ → ℕ) where
  abbrev v : Vol
  v = vol img

  abbrev W : ℕ → ℕ
  W e = weigh_r v (file_at v e) g

  pub files-all : sum (32 * ends) W ≡ sum 256 (λ u. mine v u g)
  unfolding mine
  files-all =
      let n : 32 * ends + (65536 - 32 * ends) ≡ 65536 = omega (arith, d.most) in
      let z : sum (65536 - 32 * ends) (λ i. W (32 * ends + i)) ≡ 0 = sum-none (65536 - 32 * ends) (λ i. W (32 * ends + i)) (λ i h. run_none v (file_at v (32 * ends + i)) (file-unused v (32 * ends + i) (ends-unused img ends d (32 * ends + i) (omega arith) (omega (arith, d.most)))) g) in
      let a : sum 65536 W ≡ sum (32 * ends) W = sym (ap (λ (k : ℕ). sum k W) n) ∙ sum-cat (65536 - 32 * ends) (32 * ends) W ∙ omega (arith, z) in
      sym a ∙ sym (sum_rows 256 256 W)

-- ---- the bit file

pub bits-run : (P : ℕ) (v : Vol) (s n : ℕ) → s ≡ page (v 0) bit_pointer → n ≡ bit_pages P → (g : ℕ → ℕ) → sum n (λ i. g (s + i)) ≡ weigh_r v (bit_file P v) g
unfolding bit_file weigh_r
bits-run P v s n a b g = ap₂ (λ (x y : ℕ). sum y (λ i. g (x + i))) a b

pub system-is : (P : ℕ) (v : Vol) (g : ℕ → ℕ) → weigh_r v (bit_file P v) g + weigh_r v (user_file v) g + weigh_r v (object_file v) g ≡ system P v g
unfolding system
system-is P v g = refl

pub all-is : (img : List ℕ) (ends : ℕ) → Ends img ends → (P : ℕ) (g : ℕ → ℕ) → system P (vol img) g + sum (32 * ends) (λ e. weigh_r (vol img) (file_at (vol img) e) g) ≡ all P (vol img) g
unfolding all
all-is img ends d P g = ap (λ (x : ℕ). system P (vol img) g + x) (files-all img ends d g)

-- ---- from no marks and no opened blocks on

pub unopened : (n : ℕ) → n ≡ opened_size → Unopened (replicate n 0)
unopened n e = let d = no-marks 0 n (omega arith) in record { size = length-replicate n 0 ∙ e; none = λ t. omega (arith, d.none (2 * t), d.none (2 * t + 1)) }

module _ (P : ℕ) (v : Vol) (N : ℕ) (m₀ : List ℕ) (u : Unmarked N m₀) (m : List ℕ) (r : Bool) (k : Marking m₀ 0 m r) (a b : List ℕ) (da : Unopened a) (db : Unopened b) where
  pub started : Seen P v m a b P (λ p. is p 0)
  started = let d = first-mark N m₀ u m r k in record {
    below = λ p h. omega (arith, d.more p, u.none p, is-sym 0 p);
    twice = λ h. absurd (omega arith);
    index = λ t p h. omega (arith, ap (λ (y : ℕ). y * under v 0 t p) (da.none t));
    subindex = λ t p h. omega (arith, ap (λ (y : ℕ). y * under v 1 t p) (db.none t));
  }

  module _ (m' a' b' : List ℕ) (c : ℕ) (j : Meets₂ P v m a b P (λ p. all P v (hit p)) m' a' b' c) where
    ended : Seen P v m' a' b' c (holders P v)
    unfolding holders Met
    ended = j.met (λ p. is p 0) started

    once : (p : ℕ) → p < c → holders P v p ≤ 1
    once p h = omega (arith, ended.below p h, marked-le m' p)

    pub held-once : P ≤ c → AllHold (spots8 P v)
    unfolding spots8 AllHold
    held-once h p l = once p (omega arith)

    pub held_first : c < P → (q : Place) → q ≡ at c 0 → First (spots8 P v) q
    unfolding spots8 First AllHold
    held_first h q e = (c, h, (λ p l. once p l), (e, λ o. omega (arith, o, ended.twice h)))

-- ---- the three parts of the system, and the system and the files

module _ (P : ℕ) (v : Vol) (m a b : List ℕ) (c : ℕ) (one : length a ≡ opened_size) (two : length b ≡ opened_size) where
  pub bits_met : (s n : ℕ) → s ≡ page (v 0) bit_pointer → n ≡ bit_pages P → (m' : List ℕ) (c' : ℕ) → Meets m c (λ p. sum n (λ i. hit p (s + i))) m' c' → Meets₂ P v m a b c (λ p. weigh_r v (bit_file P v) (hit p)) m' a b c'
  bits_met s n e f m' c' k = same₂ P v m a b c one two (λ p. sum n (λ i. hit p (s + i))) (λ p. weigh_r v (bit_file P v) (hit p)) (λ p. bits-run P v s n e f (hit p)) m' a b c' (from-marks P v m a b c one two _ m' c' k)

  pub system-met : (m₁ a₁ b₁ : List ℕ) (c₁ : ℕ) (m₂ a₂ b₂ : List ℕ) (c₂ : ℕ) (m₃ a₃ b₃ : List ℕ) (c₃ : ℕ) → Meets₂ P v m a b c (λ p. weigh_r v (bit_file P v) (hit p)) m₁ a₁ b₁ c₁ → Meets₂ P v m₁ a₁ b₁ c₁ (λ p. weigh_r v (user_file v) (hit p)) m₂ a₂ b₂ c₂
      → Meets₂ P v m₂ a₂ b₂ c₂ (λ p. weigh_r v (object_file v) (hit p)) m₃ a₃ b₃ c₃ → Meets₂ P v m a b c (λ p. system P v (hit p)) m₃ a₃ b₃ c₃
  system-met m₁ a₁ b₁ c₁ m₂ a₂ b₂ c₂ m₃ a₃ b₃ c₃ x y z =
      same₂ P v m a b c one two (λ p. weigh_r v (bit_file P v) (hit p) + weigh_r v (user_file v) (hit p) + weigh_r v (object_file v) (hit p)) (λ p. system P v (hit p)) (λ p. system-is P v (hit p)) m₃ a₃ b₃ c₃
      (then₂ P v m a b c (λ p. weigh_r v (bit_file P v) (hit p) + weigh_r v (user_file v) (hit p)) (λ p. weigh_r v (object_file v) (hit p)) m₂ a₂ b₂ c₂ m₃ a₃ b₃ c₃
      (then₂ P v m a b c (λ p. weigh_r v (bit_file P v) (hit p)) (λ p. weigh_r v (user_file v) (hit p)) m₁ a₁ b₁ c₁ m₂ a₂ b₂ c₂ x y) z)

pub all-met : (img : List ℕ) (ends : ℕ) → Ends img ends → (P : ℕ) (m a b : List ℕ) (c : ℕ) → length a ≡ opened_size → length b ≡ opened_size → (m₁ a₁ b₁ : List ℕ) (c₁ : ℕ) (m₂ a₂ b₂ : List ℕ) (c₂ : ℕ) → Meets₂ P (vol img) m a b c (λ p. system P (vol img) (hit p)) m₁ a₁ b₁ c₁
    → Meets₂ P (vol img) m₁ a₁ b₁ c₁ (λ p. sum (32 * ends) (λ e. weigh_r (vol img) (file_at (vol img) e) (hit p))) m₂ a₂ b₂ c₂ → Meets₂ P (vol img) m a b c (λ p. all P (vol img) (hit p)) m₂ a₂ b₂ c₂
all-met img ends d P m a b c one two m₁ a₁ b₁ c₁ m₂ a₂ b₂ c₂ x y =
    same₂ P (vol img) m a b c one two (λ p. system P (vol img) (hit p) + sum (32 * ends) (λ e. weigh_r (vol img) (file_at (vol img) e) (hit p))) (λ p. all P (vol img) (hit p)) (λ p. all-is img ends d P (hit p)) m₂ a₂ b₂ c₂
    (then₂ P (vol img) m a b c _ _ m₁ a₁ b₁ c₁ m₂ a₂ b₂ c₂ x y)

pub met-total : (P : ℕ) (v : Vol) (m a b : List ℕ) (c : ℕ) → c ≡ P → (w : ℕ → ℕ) (m' a' b' : List ℕ) (c' : ℕ) → Meets₂ P v m a b c w m' a' b' c' → Meets₂ P v m a b P w m' a' b' c'
met-total P v m a b c e w m' a' b' c' k = subst (λ (x : ℕ). Meets₂ P v m a b x w m' a' b' c') e k
