-- The entries of a file and of its owner are written: all that is then known. Assumes nothing.
use Rattle.std.specs.Prelude.{◌≡◌, ℕ, ◌+◌, ◌*◌, ◌/◌, ◌<◌}
use Rattle.std.proofs.Math.Path.{ap}
use Rattle.std.proofs.Common.{◌∙◌}
use Rattle.std.proofs.Math.Logic.{inl, inr}
use Rattle.book.specs.Entries.{user_file, object_file, user_page, object_page, user, object, used_pages}
use Rattle.book.specs.Files.{file_at}
use Rattle.book.specs.Grow.{finish}
use Rattle.book.specs.Pointers.{pointer}
use Rattle.book.specs.Trees.{Root, weigh_r, page_at, index_at, root_by}
use Rattle.book.specs.Words.{Vol, two}
use Rattle.laws.specs.Count.Good.{Good}
use Rattle.laws.specs.File.Around.{CountsOf, only-finish}
use Rattle.laws.specs.File.Finish.{Blocks, Regrown, finish-good, finish-page, change, master, weight, new-root, new-pages, new-spent, obj-kept, user-kept, agree_b, quiet}
use Rattle.laws.specs.File.Owned.{Owned}
use Rattle.laws.specs.Frame.Beside.{Beside, edit-beside}
use Rattle.laws.specs.Frame.Places.{OnlyAt}
use Rattle.laws.specs.Tree.Levels.{index_at-frame}

-- v became v₂ by its blocks and v₃ by its entries: the file has n pages under a pointer with flags x to t, and its owner has used y
pub record Finished (P : ℕ) (v v₂ v₃ : Vol) (a e n x t y : ℕ) (gone new : (ℕ → ℕ) → ℕ) (hand : ℕ → ℕ) : Type 0 where
  pub good : Good P v₃ hand
  pub beside : Beside P v v₃ a e
  pub count : two (object v₃ e) 26 ≡ n
  pub entry : (k : ℕ) → k < 26 → object v₃ e k ≡ object v e k
  pub spent : used_pages (user v₃) a ≡ y
  pub root : file_at v₃ e ≡ root_by x t n
  pub page : (m : ℕ) → page_at v₃ (file_at v₃ e) m ≡ page_at v₂ (root_by x t n) m
  pub index : (m : ℕ) → index_at v₃ (file_at v₃ e) m ≡ index_at v₂ (root_by x t n) m
  pub words : OnlyAt (CountsOf v a e) v₂ v₃
  pub weight : (g : ℕ → ℕ) → g 0 ≡ 0 → weigh_r v₃ (file_at v₃ e) g + gone g ≡ weigh_r v (file_at v e) g + new g

module _ {P : ℕ} {v : Vol} {hand : ℕ → ℕ} {a f : ℕ} (here : Owned P v hand a f)
    {D : ℕ → ℕ} {v₂ : Vol} (K : Blocks here D v₂) (n x t y : ℕ)
    (gone new : (ℕ → ℕ) → ℕ) (hand' : ℕ → ℕ) (R : Regrown here K n x t y gone new hand') where
  abbrev e : ℕ
  e = 256 * a + f

  abbrev v₃ : Vol
  v₃ = finish v₂ (page_at v (user_file v) (a / 32)) (page_at v (object_file v) (e / 32)) a e n (pointer x t) y

  pub finished : Finished P v v₂ v₃ a e n x t y gone new hand'
  unfolding user_page object_page
  finished = record {
    good = finish-good here K n x t y gone new hand' R;
    beside = edit-beside here.seat (change here K n x t y)
        (master here K n x t y gone new hand' R) (λ k h i j. user-kept here K n x t y k i j);
    count = new-pages here K n x t y;
    entry = obj-kept here K n x t y;
    spent = new-spent here K n x t y;
    root = root;
    page = finish-page here K n x t y gone new hand' R;
    index = λ m. ap (λ (r : Root). index_at v₃ r m) root
        ∙ index_at-frame v₂ v₃ _ (agree_b here K n x t y gone new hand' R) (root_by x t n) (quiet here K n x t y gone new hand' R) m;
    words = only-finish (CountsOf v a e) v₂ _ _ a e n (pointer x t) y (λ p j h. inl h) (λ p j h. inr h);
    weight = weight here K n x t y gone new hand' R;
  }
    where
      root : file_at v₃ e ≡ root_by x t n
      root = new-root here K n x t y gone new hand' R
