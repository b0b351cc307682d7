-- One entry of the user file or the object file changes, in a sound volume: the other entries stay, and so do both files' pages. Assumes nothing.
use Rattle.std.specs.Prelude.{◌≡◌, ◌≢◌, ◌⊎◌, ℕ, ◌+◌, ◌*◌, ◌/◌, ◌%◌, ◌≤◌, ◌<◌}
use Rattle.std.proofs.Math.Path.{ap}
use Rattle.std.proofs.Common.{◌∙◌, inl, inr}
use native.Mathlib.Omega.{arith}
use Rattle.book.specs.Entries.{entry, entry_word, put_entry, user_file, object_file}
use Rattle.book.specs.Holders.{hit}
use Rattle.book.specs.Rules.{Sound}
use Rattle.book.specs.Trees.{Root, weigh_r, blocks_r, page_at}
use Rattle.book.specs.Words.{Words, Vol, word}
use Rattle.book.specs.Written.{word-pos, word-ext}
use Rattle.laws.specs.Count.Good.{Good, good, most, bit_le, sound-within}
use Rattle.laws.specs.Frame.Edit.{obj-page, user-page, position, entry_other}
use Rattle.laws.specs.Frame.Fields.{Outside, row_at}
use Rattle.laws.specs.Frame.Places.{EntryOf, OnlyAt, only-put_words}
use Rattle.laws.specs.Frame.Quiet.{Quiet}
use Rattle.laws.specs.Frame.Rest.{rest, all_rest}
use Rattle.laws.specs.Frame.Roots.{Roots, page_at-frame, entry_frame, blocks_r-le}
use Rattle.laws.specs.Frame.Still.{agree_at, blocks-nobody}
use Rattle.laws.specs.Tree.Slot.{Agree, hit-zero, hit_other}

-- the file of entries at r, beside the other one: its pages hold entries alone, each at one position
pub record EntryFile (P : ℕ) (v : Vol) (r other : Root) : Type 0 where
  pub quiet : (n : ℕ) → Quiet P v (hit (page_at v r n))
  pub blocks : (n : ℕ) → blocks_r v r (hit (page_at v r n)) ≡ 0
  pub apart : (n : ℕ) → weigh_r v other (hit (page_at v r n)) ≡ 0
  pub unique : (n m : ℕ) → 0 < page_at v r n → page_at v r n ≡ page_at v r m → n ≡ m

-- ---- both files of a sound volume are such

module _ (P : ℕ) (v : Vol) (S : Sound P v) (pos : 0 < P) where
  G : Good P v (λ p. 0)
  G = good P v S

  once : (q : ℕ) → q < P → weigh_r v (user_file v) (hit q) + weigh_r v (object_file v) (hit q) ≤ 1
  unfolding rest
  once q h = omega (arith, G.held q h, bit_le P v q, all_rest P v (hit q))

  pub user-entries : EntryFile P v (user_file v) (object_file v)
  user-entries = let at = user-page P v (λ p. 0) G pos in record {
    quiet = λ n. let b = at n in record {
      none = hit-zero _;
      bits = b.0;
      users = b.2;
      objects = omega (arith, b.1, blocks_r-le v (object_file v) (hit (page_at v (user_file v) n)));
      files = blocks-nobody v _ b.3;
    };
    blocks = λ n. (at n).2;
    apart = λ n. (at n).1;
    unique = position P v (λ p. 0) G pos (user_file v) (sound-within P v (most P v S)).users (λ q h. omega (arith, once q h));
  }

  pub object-entries : EntryFile P v (object_file v) (user_file v)
  object-entries = let at = obj-page P v (λ p. 0) G pos in record {
    quiet = λ n. let b = at n in record {
      none = hit-zero _;
      bits = b.0;
      users = omega (arith, b.1, blocks_r-le v (user_file v) (hit (page_at v (object_file v) n)));
      objects = b.2;
      files = blocks-nobody v _ b.3;
    };
    blocks = λ n. (at n).2;
    apart = λ n. (at n).1;
    unique = position P v (λ p. 0) G pos (object_file v) (sound-within P v (most P v S)).objs (λ q h. omega (arith, once q h));
  }

-- ---- entry n of such a file changes

module _ {P : ℕ} {v : Vol} {r other : Root} (F : EntryFile P v r other) (n : ℕ) (real : 0 < page_at v r (n / 32)) (v' : Vol) (only : OnlyAt (EntryOf (page_at v r (n / 32)) n) v v') where
  abbrev q : ℕ
  q = page_at v r (n / 32)

  pub entry-agrees : Agree (hit q) v v'
  entry-agrees = agree_at v v' (EntryOf q n) q real (λ p k i a. a.0) only

  pub master-same : (k : ℕ) → v' 0 k ≡ v 0 k
  master-same k = only 0 k (λ a. let e = a.0 in let z : ⊥ = omega (arith, real, e) in z)

  pub roots-same : Roots v v'
  unfolding Roots
  roots-same k i j = master-same k

  pub pages-same : (m : ℕ) → page_at v' r m ≡ page_at v r m
  pages-same m = page_at-frame v v' (hit q) entry-agrees r (F.blocks (n / 32)) m

  pub other-pages : (m : ℕ) → page_at v' other m ≡ page_at v other m
  other-pages m = page_at-frame v v' (hit q) entry-agrees other (omega (arith, F.apart (n / 32), blocks_r-le v other (hit q))) m

  -- its words are those of its page
  pub entry-own : (k : ℕ) → entry v' r n k ≡ v' q (entry_word n + k)
  unfolding entry
  entry-own k = ap (λ (p : ℕ). word v' p (entry_word n + k)) (pages-same (n / 32)) ∙ word-pos v' q (entry_word n + k) real

  near : (j : ℕ) → Outside n j → word v' q j ≡ word v q j
  unfolding Outside
  near j h = word-ext v v' q j (λ p. only q j (λ a. out h a.1 a.2))
    where
      out : (j < 32 * (n % 32)) ⊎ (32 * (n % 32) + 32 ≤ j) → entry_word n ≤ j → j < entry_word n + 32 → ⊥
      out (inl a) m l = omega arith
      out (inr a) m l = omega arith

  pub entries-else : (m : ℕ) → m ≢ n → (k : ℕ) → k < 32 → entry v' r m k ≡ entry v r m k
  entries-else = entry_other v v' (hit q) entry-agrees r (F.blocks (n / 32)) n (F.unique (n / 32)) (λ i d. hit_other q _ d) near

  pub other_entries : (m k : ℕ) → entry v' other m k ≡ entry v other m k
  other_entries = entry_frame v v' (hit q) entry-agrees (hit-zero q) other (F.apart (n / 32))

-- it becomes E
module _ {P : ℕ} {v : Vol} {r other : Root} (F : EntryFile P v r other) (n : ℕ) (real : 0 < page_at v r (n / 32)) (E : Words) where
  pub put_only : OnlyAt (EntryOf (page_at v r (n / 32)) n) v (put_entry v (page_at v r (n / 32)) n E)
  put_only = only-put_words v (page_at v r (n / 32)) (entry_word n) 32 E

  pub put-own : (k : ℕ) → k < 32 → entry (put_entry v (page_at v r (n / 32)) n E) r n k ≡ E k
  put-own k h = entry-own F n real _ put_only k ∙ row_at v (page_at v r (n / 32)) (entry_word n) 32 E k h
