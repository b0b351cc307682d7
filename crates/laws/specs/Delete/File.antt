-- Deleting a file leaves a sound volume sound, with the file's pages free. Assumes nothing.
use Rattle.std.specs.Prelude.{◌≡◌, refl, ◌≢◌, ◌⊎◌}
use Rattle.std.proofs.Math.Path.{sym, ap, subst}
use Rattle.std.proofs.Common.{◌∙◌, inl, eq-zero-or-pos}
use Rattle.std.proofs.Math.Logic.{inr}
use Prim.Native.Nat.{ℕ, suc, ◌+◌, ◌-◌, ◌*◌, ◌/◌, ◌%◌, ◌≤◌, ◌<◌}
use native.Mathlib.Omega.{arith}
use Rattle.sums.specs.Sum.{sum-at}
use Rattle.book.specs.Bits.{bit_page, bit_word, bit, mark_all, freed}
use Rattle.book.specs.Delete.{delete_file}
use Rattle.book.specs.Entries.{Table, entry, user_file, object_file, user_page, object_page, user, object, used, used_pages}
use Rattle.book.specs.Files.{file_at}
use Rattle.book.specs.Holders.{hit, some, mine}
use Rattle.book.specs.Rules.{Rule10, Sound}
use Rattle.book.specs.Trees.{weigh_r, page_at}
use Rattle.book.specs.Words.{Words, Vol, two, word, put2, put_words, zeros}
use Rattle.book.specs.Written.{word-pos, word-ext, put2-page, put2-word, put2-hi, put2-lo, put_words-here, put_words-page, put_words-low, put_words-high}
use Rattle.laws.specs.Bits.Marked.{Marked, marked, marked-good, alone}
use Rattle.laws.specs.Bits.Painted.{Changed}
use Rattle.laws.specs.Count.Good.{Good, good, sound, bit_le}
use Rattle.laws.specs.Delete.Entry.{delete-good}
use Rattle.laws.specs.File.Finish.{is_o, is_u, UO, owner-used}
use Rattle.laws.specs.File.Owned.{Owned}
use Rattle.laws.specs.Frame.Beside.{Beside, still-beside, beside_trans, edit-beside}
use Rattle.laws.specs.Frame.Edit.{Change, user-at, obj-at}
use Rattle.laws.specs.Frame.Fields.{Outside}
use Rattle.laws.specs.Frame.Places.{only-trans, Places, WordsOf, EntryOf, FieldOf, Either, OnlyAt, only_wider, only-put_words, only-put2}
use Rattle.laws.specs.Frame.Roots.{weigh_r-nobody}
use Rattle.laws.specs.Frame.Still.{bit_page-same}
use Rattle.laws.specs.Shrink.Shrunk.{all-zero}
use Rattle.laws.specs.Tree.Slot.{Agree, hit_same}

-- the words of the bits of the file's pages, its entry, its owner's used pages
abbrev pub DeletePlaces : ℕ → Vol → ℕ → ℕ → Places
DeletePlaces P v a e =
    Either (λ q k. (p : ℕ) × (0 < weigh_r v (file_at v e) (hit p)) × WordsOf (bit_page P v p) (bit_word p) 1 q k) (Either (EntryOf (object_page v e) e) (FieldOf (user_page v a) a 16 2))

-- the file at e of user a is gone: its entry is clear, its pages are free and no longer counted, and all beside is as it was
pub record Deleted (P : ℕ) (v v' : Vol) (a e : ℕ) : Type 0 where
  pub good : Good P v' (λ p. 0)
  pub beside : Beside P v v' a e
  pub clear : (k : ℕ) → k < 32 → object v' e k ≡ 0
  pub spent : used_pages (user v') a + weigh_r v (file_at v e) some ≡ used_pages (user v) a
  pub words : OnlyAt (DeletePlaces P v a e) v v'

pub used-zero : (w : Words) → w 0 ≡ 0 → used w ≡ 0
unfolding used
used-zero w h = ap (λ (x : ℕ). x / 32768) h

module _ (P : ℕ) (v : Vol) (S : Sound P v) (pos : 0 < P) (big : P ≤ 1073741824) (a f : ℕ) (ha : a < 256) (hf : f < 256) (uf : 0 < used (object v (256 * a + f))) where
  abbrev e : ℕ
  e = 256 * a + f

  abbrev U : ℕ
  U = page_at v (user_file v) (a / 32)

  abbrev O : ℕ
  O = page_at v (object_file v) (e / 32)

  abbrev at : ℕ
  at = 32 * (a % 32) + 16

  G : Good P v (λ p. 0)
  G = good P v S

  here : Owned P v (λ p. 0) a f
  here = record { seat = record { good = G; pos = pos; ha = ha; hf = hf }; big = big; uf = uf }

  p_o : 0 < O
  p_o = is_o here

  p_u : 0 < U
  p_u = is_u here

  apart : U ≢ O
  apart = UO here

  -- the file's entry is cleared, and its owner has used y
  module _ (y : ℕ) where
    abbrev v₁ : Vol
    v₁ = put_words v O (32 * (e % 32)) 32 zeros

    abbrev w : Vol
    w = put2 v₁ U at y

    else : (q k : ℕ) → q ≢ O → q ≢ U → w q k ≡ v q k
    else q k i j = put2-page v₁ U at y q k j ∙ put_words-page v O (32 * (e % 32)) 32 zeros q k i

    on_o : (k : ℕ) → Outside e k → word w O k ≡ word v O k
    unfolding Outside
    on_o k h = word-ext v w O k (λ p. put2-page v₁ U at y O k (λ i. apart (sym i)) ∙ go h)
      where
        go : (k < 32 * (e % 32)) ⊎ (32 * (e % 32) + 32 ≤ k) → v₁ O k ≡ v O k
        go (inl i) = put_words-low v O (32 * (e % 32)) 32 zeros O k i
        go (inr i) = put_words-high v O (32 * (e % 32)) 32 zeros O k i

    on_u : (k : ℕ) → k ≢ at → k ≢ suc at → word w U k ≡ word v U k
    on_u k i j = word-ext v w U k (λ p. put2-word v₁ U at y U k i j ∙ put_words-page v O (32 * (e % 32)) 32 zeros U k apart)

    change : Change here.seat (λ x. 0) w
    unfolding Agree Outside
    change = record {
      none = refl;
      only = all-zero P v ∙ sym (weigh_r-nobody v (λ x. 0) (λ x. refl) (file_at v e));
      agree = λ q h k. word-ext v w q k (λ p. else q k (λ i. omega (arith, h, subst (λ (z : ℕ). hit z q ≡ 1) i (hit_same q p))) (λ i. omega (arith, h, subst (λ (z : ℕ). hit z q ≡ 1) i (hit_same q p))));
      master = λ k h. master k;
      on_o = on_o;
      on_u = λ k h. away k h;
    }
      where
        master : (k : ℕ) → w 0 k ≡ v 0 k
        master k = else 0 k (λ i. omega (arith, i, p_o)) (λ i. omega (arith, i, p_u))

        away : (k : ℕ) → (k < 32 * (a % 32)) ⊎ (32 * (a % 32) + 32 ≤ k) → word w U k ≡ word v U k
        away k (inl h) = on_u k (omega arith) (omega arith)
        away k (inr h) = on_u k (omega arith) (omega arith)

    master : (k : ℕ) → w 0 k ≡ v 0 k
    master k = else 0 k (λ i. omega (arith, i, p_o)) (λ i. omega (arith, i, p_u))

    clear : (k : ℕ) → k < 32 → object w e k ≡ 0
    clear k h = obj-at here.seat change k ∙ word-pos w O (32 * (e % 32) + k) p_o
        ∙ put2-page v₁ U at y O (32 * (e % 32) + k) (λ i. apart (sym i)) ∙ put_words-here v O (32 * (e % 32)) 32 zeros (32 * (e % 32) + k) (omega arith) (omega arith)

    kept : (k : ℕ) → k < 32 → k ≢ 16 → k ≢ 17 → user w a k ≡ user v a k
    unfolding user entry
    kept k h i j = user-at here.seat change k ∙ on_u (32 * (a % 32) + k) (omega arith) (omega arith)

    now : used_pages (user w) a ≡ y
    unfolding used_pages two
    now =
        let hi : user w a 16 ≡ y / 65536 = there 16 ∙ put2-hi v₁ U at y in
        let lo : user w a 17 ≡ y % 65536 = there 17 ∙ ap (w U) (let q : 32 * (a % 32) + 17 ≡ suc at = omega arith in q) ∙ put2-lo v₁ U at y in
        omega arith
      where
        there : (k : ℕ) → user w a k ≡ w U (32 * (a % 32) + k)
        there k = user-at here.seat change k ∙ word-pos w U (32 * (a % 32) + k) p_u

  -- what the file held was counted
  counted : weigh_r v (file_at v e) some ≤ used_pages (user v) a
  unfolding Rule10 mine
  counted = omega (arith, G.most.r10.0 a ha (owner-used here), sum-at 256 (λ f. weigh_r v (file_at v (256 * a + f)) some) f hf)

  abbrev left : ℕ
  left = used_pages (user v) a - weigh_r v (file_at v e) some

  abbrev held : ℕ → ℕ
  held p = weigh_r v (file_at v e) (hit p)

  -- all that the file held is in hand
  good₁ : Good P (w left) (λ p. 0 + held p)
  good₁ = delete-good here.seat uf (change left) (used-zero (object (w left) e) (clear left 0 (omega arith))) (kept left) (master left) (omega (arith, now left, counted))

  abbrev f₁ : ℕ → ℕ
  f₁ p = bit P (w left) p - held p

  marked₁ : Marked P (w left) (mark_all P (w left) f₁ P) f₁ P
  marked₁ = marked P (w left) (alone P (w left) (λ p. 0 + held p) good₁) f₁ (λ p. omega (arith, bit_le P (w left) p)) good₁.most P (omega arith)

  beside₁ : Beside P v (w left) a e
  beside₁ = edit-beside here.seat (change left) (master left) (kept left)

  -- a bit that changes is that of a page of the file
  gone : (p : ℕ) → f₁ p ≢ bit P (w left) p → 0 < held p
  gone p ne = elim (eq-zero-or-pos (held p)) [ inl z ↦ absurd (ne (omega (arith, z))) | inr h ↦ h ]

  pub deleted : Deleted P v (delete_file P v a f) a e
  unfolding delete_file freed user_page object_page
  deleted = record {
    good = marked-good P (w left) (mark_all P (w left) f₁ P) f₁ (λ p. 0 + held p) (λ p. 0) marked₁ good₁ (λ p h. omega (arith, good₁.held p h));
    beside = beside_trans P v (w left) (mark_all P (w left) f₁ P) a e beside₁ (still-beside P (w left) (mark_all P (w left) f₁ P) a e (omega arith) marked₁.still);
    clear = λ k h. ap (λ (T : Table). T e k) marked₁.still.objects ∙ clear left k h;
    spent = omega (arith, ap (λ (T : Table). used_pages T a) marked₁.still.users, now left, counted);
    words = only-trans (DeletePlaces P v a e) v (w left) (mark_all P (w left) f₁ P)
        (only-trans (DeletePlaces P v a e) v v₁' (w left) (only_wider _ _ v v₁' (λ p k h. inr (inl h)) (only-put_words v O (32 * (e % 32)) 32 zeros)) (only_wider _ _ v₁' (w left) (λ p k h. inr (inr h)) (only-put2 v₁' U at left)))
        (only_wider _ _ (w left) _ bits marked₁.painted.words);
  }
    where
      v₁' : Vol
      v₁' = put_words v O (32 * (e % 32)) 32 zeros

      bits : (q k : ℕ) → Changed P (w left) f₁ P q k → DeletePlaces P v a e q k
      bits q k (p, h, ne, (z, lo, hi)) = inl (p, gone p ne, (z ∙ bit_page-same P v (w left) beside₁.places p, lo, hi))

  pub delete-sound : Sound P (delete_file P v a f)
  delete-sound = sound P (delete_file P v a f) (λ p. 0) deleted.good (λ p h. refl)
