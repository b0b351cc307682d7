-- The words of a file's last position (Around), and a file that is one page longer in one volume than in another (Longer). Assumes nothing.
use Rattle.std.specs.Prelude.{◌≡◌, ◌⊎◌, ℕ, ◌+◌, ◌*◌, ◌/◌, ◌%◌, ◌<◌, suc}
use Rattle.std.proofs.Common.{sym, ◌∙◌, ap, arith}
use Rattle.book.specs.Bits.{bit_page, bit_word}
use Rattle.book.specs.Entries.{object_page, user_page, Table, user, object, used_pages}
use Rattle.book.specs.Files.{file_at, need, page_bytes}
use Rattle.book.specs.Grow.{finish}
use Rattle.book.specs.Holders.{hit}
use Rattle.book.specs.Trees.{Root, index_at, subindex_of, weigh_r, page_at}
use Rattle.book.specs.Words.{Vol, put2, two}
use Rattle.laws.specs.Frame.Places.{Places, WordsOf, FieldOf, Either, OnlyAt, only_wider, only-put2, only-trans}
use Rattle.laws.specs.Frame.Still.{Still}
use Rattle.laws.specs.Tree.Levels.{last}

-- page x is one of those that position n needs
abbrev pub Needs : Vol → Root → ℕ → ℕ → Type 0
Needs v r n x = 0 < last v r n (hit x)

-- the slot of position n in a block that serves positions below it too
abbrev pub SlotOf : Vol → Root → ℕ → Places
SlotOf v r n p k = ((0 < n % 512) × WordsOf (index_at v r (n / 512)) (2 * (n % 512)) 2 p k) ⊎ ((n % 512 ≡ 0) × (512 < n) × WordsOf (subindex_of r) (2 * (n / 512)) 2 p k)

-- the words of the bits of its pages
abbrev pub BitsOf : ℕ → Vol → Root → ℕ → Places
BitsOf P v r n p k = (x : ℕ) × Needs v r n x × WordsOf (bit_page P v x) (bit_word x) 1 p k

-- pages, bytes and pointer of the file, used pages of its owner
abbrev pub CountsOf : Vol → ℕ → ℕ → Places
CountsOf v a e = Either (FieldOf (object_page v e) e 26 6) (FieldOf (user_page v a) a 16 2)

-- what shrinking away position n of the file at e changes in v; growing to v changes these and the pages of the position
abbrev pub Around : ℕ → Vol → ℕ → ℕ → ℕ → Places
Around P v a e n = Either (BitsOf P v (file_at v e) n) (Either (SlotOf v (file_at v e) n) (CountsOf v a e))

abbrev pub AroundNew : ℕ → Vol → ℕ → ℕ → ℕ → Places
AroundNew P v a e n = Either (λ p k. Needs v (file_at v e) n p) (Around P v a e n)

pub only-finish : (A : Places) (v : Vol) (U O a e n ptr x : ℕ) → ((p j : ℕ) → FieldOf O e 26 6 p j → A p j) → ((p j : ℕ) → FieldOf U a 16 2 p j → A p j) → OnlyAt A v (finish v U O a e n ptr x)
unfolding finish
only-finish A v U O a e n ptr x o u =
    only-trans A v v₃ _ (only-trans A v v₂ v₃ (only-trans A v v₁ v₂
    (only_wider _ A v v₁ (λ p j h. o p j (h.0, omega (arith, h.1), omega (arith, h.2))) (only-put2 v O (w + 26) n))
    (only_wider _ A v₁ v₂ (λ p j h. o p j (h.0, omega (arith, h.1), omega (arith, h.2))) (only-put2 v₁ O (w + 28) (page_bytes * n))))
    (only_wider _ A v₂ v₃ (λ p j h. o p j (h.0, omega (arith, h.1), omega (arith, h.2))) (only-put2 v₂ O (w + 30) ptr)))
    (only_wider _ A v₃ _ u (only-put2 v₃ U (32 * (a % 32) + 16) x))
  where
    w : ℕ
    w = 32 * (e % 32)

    v₁ : Vol
    v₁ = put2 v O (w + 26) n

    v₂ : Vol
    v₂ = put2 v₁ O (w + 28) (page_bytes * n)

    v₃ : Vol
    v₃ = put2 v₂ O (w + 30) ptr

-- the file at e of user a has n pages in v; in v' it has position n too, with the pages that this one needs, and is else the same
pub record Longer (v v' : Vol) (a e n : ℕ) : Type 0 where
  pub count : two (object v e) 26 ≡ n
  pub count' : two (object v' e) 26 ≡ suc n
  pub entry : (k : ℕ) → k < 26 → object v' e k ≡ object v e k
  pub spent : used_pages (user v') a ≡ used_pages (user v) a + need n
  pub old : (m : ℕ) → m < n → page_at v' (file_at v' e) m ≡ page_at v (file_at v e) m
  pub weight : (g : ℕ → ℕ) → g 0 ≡ 0 → weigh_r v' (file_at v' e) g ≡ weigh_r v (file_at v e) g + last v' (file_at v' e) n g

-- the shorter side may be read before or after changes that leave all trees
pub longer-still : (P : ℕ) (v w v' : Vol) (a e n : ℕ) → e < 65536 → Still P v w → Longer w v' a e n → Longer v v' a e n
longer-still P v w v' a e n h S L = record {
  count = sym (ap (λ (O : Table). two (O e) 26) S.objects) ∙ L.count;
  count' = L.count';
  entry = λ k i. L.entry k i ∙ ap (λ (O : Table). O e k) S.objects;
  spent = L.spent ∙ ap (λ (U : Table). used_pages U a + need n) S.users;
  old = λ m i. L.old m i ∙ S.address e h m;
  weight = λ g g0. omega (arith, L.weight g g0, S.holding e h g);
}
