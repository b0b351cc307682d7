-- Walking over the system pages and over all that is held. Assumes nothing.
use mathlib.Core.Path.{◌≡◌, sym, ap, ap₂, ◌∙◌, subst}
use mathlib.Core.List.{List}
use mathlib.Core.Bool.{Bool, true, false}
use Prim.Native.Nat.{ℕ, ◌+◌, ◌*◌, ◌/◌, ◌%◌, ◌≤◌}
use native.Mathlib.Omega.{arith}
use Rattle.std.specs.Prelude.{Option, Some, None}
use Rattle.sums.specs.Sum.{sum, is, is_same, is-sym}
use Rattle.book.specs.Words.{Vol, vol}
use Rattle.book.specs.Pointers.{page, bit_pointer}
use Rattle.book.specs.Trees.{Root, run, weigh_r}
use Rattle.book.specs.Bits.{bit_pages, bit_file}
use Rattle.book.specs.Entries.{user_file, object_file}
use Rattle.book.specs.Files.{file_at}
use Rattle.book.specs.Holders.{hit, mine, system, all, holders}
use Rattle.book.specs.Image.{pages}
use Rattle.laws.specs.Count.Good.{sys-count}
use Rattle.laws.specs.Tree.Weigh.{BelowR}
use Rattle.tree.specs.Reach.{Reach}
use Rattle.bits.specs.Marks.{marked, Unmarked, Newly, Marking}
use Rattle.walk.specs.Walked.{Walking, Walked}
use Rattle.walk.specs.Files.{FilesFit}
use Rattle.walk.specs.Held.{Held, Volume}
use Rattle.bits.proofs.Marked.{marks-more}
use Rattle.walk.proofs.Walks.{Counts, row_of, walked_same}
use Rattle.walk.proofs.Runs.{run_of, root-counts}

-- ---- the bit file, as code reads it

module _ (P : ℕ) (v : Vol) (s n : ℕ) (es : s ≡ page (v 0) bit_pointer) (en : n ≡ bit_pages P) where
  root : bit_file P v ≡ run s n
  unfolding bit_file
  root = sym (ap₂ run es en)

  pub bits_below : BelowR v P (bit_file P v) → s + n ≤ P
  unfolding BelowR
  bits_below b = subst (λ (r : Root). BelowR v P r) root b

  pub walked-bits : (m : List ℕ) (x : ℕ) (m' : List ℕ) (r : Option ℕ) → Walked P m x (row_of (run_of s) n) m' r → Walked P m x (weigh_r v (bit_file P v)) m' r
  unfolding weigh_r
  walked-bits m x m' r k = walked_same P m x (row_of (run_of s) n) (weigh_r v (bit_file P v)) (λ g. ap (λ (y : Root). weigh_r v y g) (sym root)) m' r k

-- ---- the user file and the object file

pub below-same : (v : Vol) (P : ℕ) (r s : Root) → r ≡ s → BelowR v P r → BelowR v P s
below-same v P r s e b = subst (λ (x : Root). BelowR v P x) e b

-- ---- the system pages

pub walked-system : (P : ℕ) (v : Vol) (m : List ℕ) (x : ℕ) (m' : List ℕ) (r : Option ℕ)
    → Walked P m x (λ g. weigh_r v (bit_file P v) g + (weigh_r v (user_file v) g + weigh_r v (object_file v) g)) m' r → Walked P m x (system P v) m' r
unfolding system
walked-system P v m x m' r k =
    walked_same P m x (λ g. weigh_r v (bit_file P v) g + (weigh_r v (user_file v) g + weigh_r v (object_file v) g)) (system P v) (λ g. omega arith) m' r k

module _ (img : List ℕ) (w : Volume img) where
  pub bits-counts : Counts (pages img) (weigh_r (vol img) (bit_file (pages img) (vol img)))
  bits-counts = root-counts (vol img) (pages img) (bit_file (pages img) (vol img)) w.within.bits

  pub users-counts : Counts (pages img) (weigh_r (vol img) (user_file (vol img)))
  users-counts = root-counts (vol img) (pages img) (user_file (vol img)) w.within.users

  pub system-counts : Counts (pages img) (system (pages img) (vol img))
  unfolding Counts
  system-counts = sys-count (pages img) (vol img) w.within

  pub objects-reach : Reach img (object_file (vol img))
  objects-reach = record { some = omega (arith, w.whole.least); below = w.within.objs }

  pub files-fit : FilesFit img
  files-fit = record { short = w.short.files; below = λ e h. subst (λ (x : ℕ). BelowR (vol img) (pages img) (file_at (vol img) x)) (let q : 256 * (e / 256) + e % 256 ≡ e = omega arith in q) (w.within.files (e / 256) (e % 256) (omega arith) (omega arith)) }

-- ---- all, from no marks on

module _ (P : ℕ) (m : List ℕ) (u : Unmarked P m) (m' : List ℕ) where
  -- the master page's mark
  pub first-mark : (r : Bool) → Marking m 0 m' r → Newly m 0 m'
  first-mark true d = d
  first-mark false d = absurd (let z : ⊥ = omega (arith, d.0, u.none 0) in z)

  module _ (d : Newly m 0 m') where
    pub first-walking : (img : List ℕ) → P ≡ pages img → Volume img → Walking img m' 1
    first-walking img e w = record { room = omega (arith, e, d.kept, u.room); few = w.whole.most; some = omega (arith, w.whole.least); master = omega (arith, d.more 0, u.none 0, is_same 0); counted = omega (arith, marks-more (pages img) m 0 m' d (omega (arith, w.whole.least))) }

    at_first : (p : ℕ) → marked m' p ≡ is p 0
    at_first p = omega (arith, d.more p, u.none p, is-sym 0 p)

    pub held : (v : Vol) (m'' : List ℕ) (r : Option ℕ) → Walked P m' 1 (λ g. system P v g + sum 256 (λ u. mine v u g)) m'' r → Held P v m'' r
    unfolding holders all
    held v m'' (Some x) k = record {
      held = λ p h. k.more p h ∙ ap (λ (y : ℕ). y + (system P v (hit p) + sum 256 (λ u. mine v u (hit p)))) (at_first p);
      count = k.count;
      room = omega (arith, k.kept, d.kept, u.room);
    }
    held v m'' None k = (k.0, k.1, omega (arith, k.2, at_first k.0))
