-- A file's entry is written, and words 16 and 17 of its owner's: what the two entries then are, and that all others stay. Assumes nothing.
use Rattle.std.specs.Prelude.{◌≡◌, refl, ◌≢◌}
use Rattle.std.proofs.Math.Path.{sym, ap, subst}
use Rattle.std.proofs.Common.{ap₂, ◌∙◌, inl, inr}
use Prim.Native.Nat.{ℕ, suc, ◌+◌, ◌*◌, ◌/◌, ◌<◌}
use native.Mathlib.Omega.{arith}
use Rattle.book.specs.Bits.{bit}
use Rattle.book.specs.Entries.{user_file, object_file, user, object, user_page, object_page, entry, entry_word, file_entry, used_pages, put_entry}
use Rattle.book.specs.Files.{file_at}
use Rattle.book.specs.Holders.{hit}
use Rattle.book.specs.Trees.{page_at}
use Rattle.book.specs.Words.{Vol, Words, two, word}
use Rattle.book.specs.Written.{word-pos, word-ext}
use Rattle.laws.specs.Frame.Beside.{Beside, edit-beside}
use Rattle.laws.specs.Frame.Edit.{Change, user-page, user-at, obj-at, bits-same, Seat}
use Rattle.laws.specs.Frame.Fields.{Outside, entry-page, entry-outside, entry_here}
use Rattle.laws.specs.Frame.Roots.{weigh_r-nobody, page_at-le}
use Rattle.laws.specs.Shrink.Shrunk.{all-zero}
use Rattle.laws.specs.Tree.Slot.{Agree, hit-zero, hit_same}

-- two words alike at two places
two_at : (a b : Words) (j k : ℕ) → a j ≡ b k → a (suc j) ≡ b (suc k) → two a j ≡ two b k
unfolding two
two_at a b j k p q = ap₂ (λ (m n : ℕ). m * 65536 + n) p q

module _ {P : ℕ} {x : Vol} {hand : ℕ → ℕ} {u f : ℕ} (seat : Seat P x hand u f) (is_o : 0 < object_page x (file_entry u f)) (is_u : 0 < user_page x u)
    (E : Words) (v' : Vol)
    (else : (p k : ℕ) → (p ≡ user_page x u → (k ≢ entry_word u + 16) × (k ≢ entry_word u + 17)) → v' p k ≡ put_entry x (object_page x (file_entry u f)) (file_entry u f) E p k) where
  abbrev e : ℕ
  e = file_entry u f

  abbrev O : ℕ
  O = object_page x e

  abbrev U : ℕ
  U = user_page x u

  abbrev y : Vol
  y = put_entry x O e E

  pub write-apart : U ≢ O
  unfolding user_page object_page
  write-apart q =
      let U : ℕ = page_at x (user_file x) (u / 32) in
      omega (arith, page_at-le x (hit U) (hit-zero U) (object_file x) (e / 32), (user-page P x hand seat.good seat.pos (u / 32)).1, subst (λ (z : ℕ). hit U z ≡ 1) q (hit_same U is_u))

  away : (p k : ℕ) → p ≢ U → p ≢ O → v' p k ≡ x p k
  away p k a b = else p k (λ q. absurd (a q)) ∙ entry-page x O e E p k b

  pub write-master : (k : ℕ) → v' 0 k ≡ x 0 k
  write-master k = away 0 k (omega (arith, is_u)) (omega (arith, is_o))

  in_o : (k : ℕ) → word v' O k ≡ word y O k
  in_o k = word-ext y v' O k (λ h. else O k (λ q. absurd (write-apart (sym q))))

  in_u : (k : ℕ) → k ≢ entry_word u + 16 → k ≢ entry_word u + 17 → word v' U k ≡ word x U k
  in_u k a b = word-ext x v' U k (λ h. else U k (λ q. (a, b)) ∙ entry-page x O e E U k write-apart)

  pub write-change : Change seat (λ x. 0) v'
  unfolding Agree user_page object_page Outside
  write-change = record {
    none = refl;
    only = all-zero P x ∙ sym (weigh_r-nobody x (λ x. 0) (λ x. refl) (file_at x e));
    agree = λ q h k. word-ext x v' q k (λ i. away q k (λ j. omega (arith, h, subst (λ (z : ℕ). hit z q ≡ 1) j (hit_same q i))) (λ j. omega (arith, h, subst (λ (z : ℕ). hit z q ≡ 1) j (hit_same q i))));
    master = λ k h. write-master k;
    on_o = λ k h. in_o k ∙ entry-outside x O e E k h;
    on_u = on_u;
  }
    where
      on_u : (k : ℕ) → Outside u k → word v' U k ≡ word x U k
      on_u k (inl h) = in_u k (omega arith) (omega arith)
      on_u k (inr h) = in_u k (omega arith) (omega arith)

  -- the file's entry
  pub write-entry : (k : ℕ) → k < 32 → object v' e k ≡ E k
  unfolding object_page
  write-entry k h = obj-at seat write-change k ∙ in_o (entry_word e + k) ∙ entry_here x O e E is_o k h

  -- the owner's
  pub write-owner : (k : ℕ) → k < 32 → k ≢ 16 → k ≢ 17 → user v' u k ≡ user x u k
  unfolding user_page user entry
  write-owner k h a b = user-at seat write-change k ∙ in_u (entry_word u + k) (omega arith) (omega arith)

  -- where its words are, after and before
  pub owner-now : (k : ℕ) → user v' u k ≡ v' U (entry_word u + k)
  unfolding user_page
  owner-now k = user-at seat write-change k ∙ word-pos v' U (entry_word u + k) is_u

  pub owner-was : (k : ℕ) → user x u k ≡ x U (entry_word u + k)
  unfolding user_page user entry
  owner-was k = word-pos x U (entry_word u + k) is_u

  pub write-used : used_pages (user v') u ≡ two (v' U) (entry_word u + 16)
  unfolding used_pages
  write-used = two_at (user v' u) (v' U) 16 (entry_word u + 16) (owner-now 16) (owner-now 17 ∙ ap (v' U) (let q : entry_word u + 17 ≡ suc (entry_word u + 16) = omega arith in q))

  -- all beside the file and its owner's used count stays
  pub write-beside : Beside P x v' u e
  write-beside = edit-beside seat write-change write-master write-owner

  pub write-bits : (p : ℕ) → p < P → bit P v' p ≡ bit P x p
  write-bits p h = bits-same seat write-change p h
