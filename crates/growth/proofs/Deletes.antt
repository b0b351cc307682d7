-- Deleting a file as the code writes it: once its entry is cleared, its blocks are those of before. Assumes nothing.
use mathlib.Core.Path.{◌≡◌, sym, ap, ap₂, ◌∙◌, subst₂, fun_ext}
use mathlib.Core.Logic.{◌≢◌, inl, inr}
use mathlib.Core.List.{List}
use Prim.Native.Nat.{ℕ, zero, suc, ◌+◌, ◌-◌, ◌*◌, ◌/◌, ◌<◌}
use native.Mathlib.Omega.{arith}
use lib.ListN.{length}
use Rattle.sums.specs.Sum.{sum}
use Rattle.book.specs.Words.{Vol, vol, put2, zeros}
use Rattle.book.specs.Written.{word-ext, put2-page, put_words-page}
use Rattle.book.specs.Pointers.{page, bit_pointer}
use Rattle.book.specs.Trees.{Root, tree, run, weigh_r, blocks_r, root_by}
use Rattle.book.specs.Bits.{page_bits, bit_pages, bit_page, freed}
use Rattle.book.specs.Delete.{delete_file}
use Rattle.book.specs.Entries.{user, user_page, object_page, put_entry, entry_word, entry_page, used_pages, file_entry}
use Rattle.book.specs.Files.{file_at, Shape}
use Rattle.book.specs.Holders.{hit, some, mine}
use Rattle.book.specs.Image.{pages}
use Rattle.book.specs.Rules.{Rule1}
use Rattle.laws.specs.Bits.Claim.{bit_page-is, bit_page-rest}
use Rattle.laws.specs.Count.Good.{Good, good}
use Rattle.laws.specs.Count.Reach.{below-shape}
use Rattle.laws.specs.Frame.Edit.{obj-page, user-page}
use Rattle.laws.specs.Frame.Renewed.{master-words, rule1}
use Rattle.laws.specs.Frame.Rest.{rest, file-le}
use Rattle.laws.specs.Frame.Roots.{blocks_r-add, blocks_r-frame, blocks_r-le, weigh_r-frame}
use Rattle.laws.specs.Salvage.Apart.{blocks-hits}
use Rattle.laws.specs.Tree.Pointer.{page-ext}
use Rattle.laws.specs.Tree.Slot.{Agree, pair-zero}
use Rattle.laws.specs.Tree.Weigh.{Below-frame, BelowR}
use Rattle.growth.specs.declared.entries.Head.{Head}
use Rattle.growth.specs.Head.{FileHead, held_by}
use Rattle.growth.specs.Freeing.{bit_hits, Freeing, RootApart}
use Rattle.tree.proofs.Ready.{ready-some}
use Rattle.growth.proofs.Files.{file-shape, file-root, file-held, file-entry-pos, file-owner-pos}

below-frame : (P : ℕ) (v v' : Vol) (C : ℕ → ℕ) → Agree C v v' → (r : Root) → blocks_r v r C ≡ 0 → BelowR v P r → BelowR v' P r
unfolding BelowR blocks_r
below-frame P v v' C A (tree l t) z b = Below-frame v v' C A P l t z b
below-frame P v v' C A (run s n) z b = b

-- by the flags x of a shape
shape-known : (P : ℕ) (v : Vol) (x t n : ℕ) → Shape P v x t n → x < 3
unfolding Shape
shape-known P v zero t n s = omega arith
shape-known P v (suc zero) t n s = omega arith
shape-known P v (suc (suc zero)) t n s = omega arith
shape-known P v (suc (suc (suc x))) t n s = absurd s

shape-start : (P : ℕ) (v : Vol) (x t n : ℕ) → Shape P v x t n → x ≡ 0 → 0 < n → 0 < t
unfolding Shape
shape-start P v zero t n (inl s) z h = absurd (let r : ⊥ = omega (arith, s.0) in r)
shape-start P v zero t n (inr s) z h = s.1
shape-start P v (suc x) t n s z h = absurd (let r : ⊥ = omega arith in r)

module _ {img : List ℕ} {u f : ℕ} {h : Head} (a : FileHead img u f h) where
  abbrev P : ℕ
  P = pages img

  abbrev v : Vol
  v = vol img

  abbrev e : ℕ
  e = file_entry u f

  abbrev r : Root
  r = root_by h.pointer.flags h.pointer.page h.count

  G : Good P v (λ p. 0)
  G = good P v a.ready.sound

  pos : 0 < P
  pos = ready-some img a.ready

  -- ---- no block of the file is an entry's page or one of the bit file

  -- a page that no file holds
  unheld : (q : ℕ) → sum 256 (λ u. mine v u (hit q)) ≡ 0 → blocks_r v r (hit q) ≡ 0
  unheld q z = ap (λ (x : Root). blocks_r v x (hit q)) (sym (file-root a)) ∙ omega (arith, z, file-le v (hit q) u f a.user a.file, blocks_r-le v (file_at v e) (hit q))

  unheld-entry : blocks_r v r (hit h.entry) ≡ 0
  unfolding object_page
  unheld-entry = unheld h.entry (ap (λ (q : ℕ). sum 256 (λ u. mine v u (hit q))) a.head.entry_at ∙ (obj-page P v (λ p. 0) G pos (entry_page e)).3)

  unheld-owner : blocks_r v r (hit h.owner) ≡ 0
  unfolding user_page
  unheld-owner = unheld h.owner (ap (λ (q : ℕ). sum 256 (λ u. mine v u (hit q))) a.head.owner_at ∙ (user-page P v (λ p. 0) G pos (entry_page u)).3)

  unheld-bits : blocks_r v r (bit_hits P h.bits) ≡ 0
  unfolding rest
  unheld-bits = blocks-hits v r (λ i. h.bits + i) (bit_pages P) (λ i l. unheld (h.bits + i)
      (ap (λ (q : ℕ). sum 256 (λ u. mine v u (hit q))) (sym (at i l)) ∙ omega (arith, (bit_page-rest P v (λ p. 0) G (page_bits * i) (omega arith)).0)))
    where
      at : (i : ℕ) → i < bit_pages P → bit_page P v (page_bits * i) ≡ h.bits + i
      at i l = bit_page-is P v a.ready.sound.r1 (page_bits * i) (omega arith) ∙ omega (arith, a.head.bits_at.at)

  -- ---- the entry is cleared, and its owner has used y

  module _ (y : ℕ) where
    abbrev w : Vol
    w = put2 (put_entry v h.entry e zeros) h.owner (entry_word u + 16) y

    else : (q k : ℕ) → q ≢ h.entry → q ≢ h.owner → w q k ≡ v q k
    else q k i j = put2-page (put_entry v h.entry e zeros) h.owner (entry_word u + 16) y q k j ∙ put_words-page v h.entry (entry_word e) 32 zeros q k i

    abbrev C : ℕ → ℕ
    C x = hit h.entry x + hit h.owner x

    agree : Agree C v w
    unfolding Agree
    agree q z k = word-ext v w q k (λ p. let n = pair-zero h.entry h.owner q p z in else q k n.0 n.1)

    quiet : blocks_r v r C ≡ 0
    quiet = omega (arith, blocks_r-add v (hit h.entry) (hit h.owner) r, unheld-entry, unheld-owner)

    master : (k : ℕ) → w 0 k ≡ v 0 k
    master k = else 0 k (λ i. omega (arith, i, file-entry-pos a)) (λ i. omega (arith, i, file-owner-pos a))

    weight : (g : ℕ → ℕ) → weigh_r w r g ≡ weigh_r v (file_at v e) g
    weight g = weigh_r-frame v w C agree r quiet g ∙ ap (λ (x : Root). weigh_r v x g) (sym (file-root a))

    module _ (img' : List ℕ) (len : length img' ≡ length img) (i : vol img' ≡ w) where
      same : pages img' ≡ P
      same = ap (λ (n : ℕ). n / 1024) len

      pub erased-freeing : Freeing img' h.bits
      erased-freeing = record {
        whole = record { even = omega (arith, a.ready.whole.even); least = omega (arith, a.ready.whole.least); most = omega (arith, a.ready.whole.most) };
        rule = subst₂ (λ (N : ℕ) (x : Vol). Rule1 N x) (sym same) (sym i) (rule1 P v w (master-words v w (λ k m l. master k)) a.ready.sound.r1);
        at = ap (λ (x : Vol). page (x 0) bit_pointer) i ∙ page-ext (w 0) (v 0) bit_pointer (master _) (master _) ∙ a.head.bits_at.at;
      }

      pub erased-apart : RootApart (pages img') (vol img') h.bits h.pointer.flags h.pointer.page h.count
      erased-apart = subst₂ (λ (N : ℕ) (x : Vol). RootApart N x h.bits h.pointer.flags h.pointer.page h.count) (sym same) (sym i) record {
        known = shape-known P v h.pointer.flags h.pointer.page h.count (file-shape a);
        below = below-frame P v w C agree r quiet (below-shape P v h.pointer.flags h.pointer.page h.count (file-shape a));
        apart = blocks_r-frame v w C agree r quiet (bit_hits P h.bits) ∙ unheld-bits;
        start = shape-start P v h.pointer.flags h.pointer.page h.count (file-shape a);
      }

      -- and then all its pages are freed
      pub delete-is : y ≡ h.used - held_by h.pointer.flags h.count → (x : Vol) → x ≡ freed (pages img') (vol img') (λ p. weigh_r (vol img') r (hit p)) → x ≡ delete_file P v u f
      unfolding delete_file
      delete-is ey x ex =
          ex ∙ ap₂ (λ (N : ℕ) (z : Vol). freed N z (λ p. weigh_r z r (hit p))) same i
          ∙ ap (freed P w) (fun_ext (λ p. weight (hit p)))
          ∙ ap (λ (z : Vol). freed P z (λ p. weigh_r v (file_at v e) (hit p))) entries
        where
          left : y ≡ used_pages (user v) u - weigh_r v (file_at v e) some
          left = ey ∙ ap₂ (λ (m n : ℕ). m - n) a.head.spent (sym (file-held a))

          entries : w ≡ put2 (put_entry v (object_page v e) e zeros) (user_page v u) (entry_word u + 16) (used_pages (user v) u - weigh_r v (file_at v e) some)
          entries = ap₂ (λ (o q : ℕ). put2 (put_entry v o e zeros) q (entry_word u + 16) y) a.head.entry_at a.head.owner_at
              ∙ ap (put2 (put_entry v (object_page v e) e zeros) (user_page v u) (entry_word u + 16)) left
