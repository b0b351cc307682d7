-- Back: a volume that has the names of v, in the same places, gets the words of v when it is converted to the fill that all names of v have. Assumes nothing.
use Rattle.std.specs.Prelude.{◌≡◌, ◌≢◌, ◌⊎◌, ℕ, ◌+◌, ◌-◌, ◌/◌, ◌<◌}
use Rattle.std.proofs.Common.{sym, ap, ap₂, ◌∙◌, arith}
use Rattle.std.proofs.Math.Path.{subst, fun_ext}
use Rattle.std.proofs.Math.Logic.{inl, inr}
use Rattle.std.proofs.Math.Decide.{dec_lt}
use Rattle.book.specs.Words.{Words, Vol}
use Rattle.book.specs.Written.{word-pos}
use Rattle.book.specs.Names.{ends, end_of, stored}
use Rattle.book.specs.Entries.{entry, entry_word, user, object, user_page, object_page, user_file, object_file, used}
use Rattle.book.specs.Pointers.{volume_name}
use Rattle.book.specs.Rules.{Sound}
use Rattle.book.specs.Trees.{page_at}
use Rattle.book.specs.Convert.{Filled, refilled, refilled_object, AllFilled, convert}
use Rattle.laws.specs.Convert.Filled.{Renamed, renamed-refl, renamed, user-anew, object-anew, users-used, objects-used}
use Rattle.laws.specs.Convert.Refilled.{object-name, type-read}
use Rattle.laws.specs.Convert.Volume.{Converted, converted, NameWords}
use Rattle.laws.specs.File.Fill.{refilled-restores, two-fills, full-filled}
use Rattle.laws.specs.Frame.Places.{WordsOf, FieldOf}
use Rattle.laws.specs.Frame.Roots.{used-page}

-- words in a row that are the same one by one
words_back : (v w : Vol) (q a n : ℕ) → ((j : ℕ) → j < n → w q (a + j) ≡ v q (a + j)) → (p k : ℕ) → WordsOf q a n p k → w p k ≡ v p k
words_back v w q a n h p k (e, l, m) =
    let s : k ≡ a + (k - a) = omega arith in
    ap (λ (x : ℕ). w x k) e ∙ ap (w q) s ∙ h (k - a) (omega arith) ∙ sym (ap (λ (x : ℕ). v x k) e ∙ ap (v q) s)

-- a used entry's words, on its page
module _ (v : Vol) where
  user-word : (u : ℕ) → 0 < used (user v u) → (k : ℕ) → user v u k ≡ v (user_page v u) (entry_word u + k)
  unfolding user entry user_page
  user-word u h k = word-pos v (page_at v (user_file v) (u / 32)) (entry_word u + k) (used-page v (user_file v) u h)

  object-word : (e : ℕ) → 0 < used (object v e) → (k : ℕ) → object v e k ≡ v (object_page v e) (entry_word e + k)
  unfolding object entry object_page
  object-word e h k = word-pos v (page_at v (object_file v) (e / 32)) (entry_word e + k) (used-page v (object_file v) e h)

-- the words 1 to 10 of a file's entry: name, then type
object-restores : (c : ℕ) (w x : Words) → Filled c 16 w 1 → Filled c 4 w 9 → ((k : ℕ) → w k < 65536) → stored 16 x 1 ≡ stored 16 w 1 → stored 4 x 9 ≡ stored 4 w 9
    → (j : ℕ) → j < 10 → refilled_object c x (1 + j) ≡ w (1 + j)
object-restores c w x N T small n t j h = elim (dec_lt j 8) [
  | yes a ↦ object-name c x j a ∙ refilled-restores c 16 (omega arith) w x 1 N (λ i l. small (1 + i)) n j (omega arith)
  | no a ↦
      let s : 1 + j ≡ 9 + (j - 8) = omega arith in
      ap (refilled_object c x) s ∙ refilled-restores c 4 (omega arith) w (refilled c 16 x 1) 9 T (λ i l. small (9 + i)) (type-read c x ∙ t) (j - 8) (omega arith) ∙ sym (ap w s)
]

module _ (P : ℕ) (pos : 0 < P) (c : ℕ) (mark : 0 < ends c) (v v₁ : Vol) (F : AllFilled c v) (small : (p k : ℕ) → v p k < 65536) (A : Renamed v v₁) (S : Sound P v₁) where
  abbrev v₂ : Vol
  v₂ = convert c v₁

  B : Converted P c v₁ v₂
  B = converted P c mark v₁ S pos

  of-name : (i : ℕ) → i < 8 → v₂ 0 (volume_name + i) ≡ v 0 (volume_name + i)
  of-name i h = B.name (volume_name + i) ∙ refilled-restores c 16 (omega arith) (v 0) (v₁ 0) volume_name F.volume (λ j l. small 0 (volume_name + j)) A.volume i (omega arith)

  module _ (u : ℕ) (h : u < 256) (i : 0 < used (user v u)) where
    i₁ : 0 < used (user v₁ u)
    i₁ = subst (λ (n : ℕ). 0 < n) (sym (A.used_users u h)) i

    i₂ : 0 < used (user v₂ u)
    i₂ = subst (λ (n : ℕ). 0 < n) (sym (users-used P c v₁ v₂ B u h)) i₁

    of-user : (j : ℕ) → j < 8 → user v₂ u (1 + j) ≡ user v u (1 + j)
    of-user j l = user-anew P c v₁ v₂ B u h i₁ (1 + j) (omega arith) ∙ refilled-restores c 16 (omega arith) (user v u) (user v₁ u) 1 (F.users u h i)
        (λ n m. subst (λ (x : ℕ). x < 65536) (sym (user-word v u i (1 + n))) (small _ _)) (A.users u h i) j (omega arith)

    user-back : (p k : ℕ) → FieldOf (user_page v u) u 1 8 p k → v₂ p k ≡ v p k
    user-back = words_back v v₂ (user_page v u) (entry_word u + 1) 8 (λ j l.
        let s : entry_word u + 1 + j ≡ entry_word u + (1 + j) = omega arith in
        ap₂ v₂ (sym (B.user_pages u ∙ A.user_pages u)) s ∙ sym (user-word v₂ u i₂ (1 + j)) ∙ of-user j l ∙ user-word v u i (1 + j) ∙ sym (ap (v (user_page v u)) s))

  module _ (e : ℕ) (h : e < 65536) (i : 0 < used (object v e)) where
    o₁ : 0 < used (object v₁ e)
    o₁ = subst (λ (n : ℕ). 0 < n) (sym (A.used_objects e h)) i

    o₂ : 0 < used (object v₂ e)
    o₂ = subst (λ (n : ℕ). 0 < n) (sym (objects-used P c v₁ v₂ B e h)) o₁

    of-object : (j : ℕ) → j < 10 → object v₂ e (1 + j) ≡ object v e (1 + j)
    of-object j l = object-anew P c v₁ v₂ B e h o₁ (1 + j) (omega arith) ∙ object-restores c (object v e) (object v₁ e) (F.names e h i) (F.types e h i)
        (λ k. subst (λ (x : ℕ). x < 65536) (sym (object-word v e i k)) (small _ _)) (A.names e h i) (A.types e h i) j l

    object-back : (p k : ℕ) → FieldOf (object_page v e) e 1 10 p k → v₂ p k ≡ v p k
    object-back = words_back v v₂ (object_page v e) (entry_word e + 1) 10 (λ j l.
        let s : entry_word e + 1 + j ≡ entry_word e + (1 + j) = omega arith in
        ap₂ v₂ (sym (B.object_pages e ∙ A.object_pages e)) s ∙ sym (object-word v₂ e o₂ (1 + j)) ∙ of-object j l ∙ object-word v e i (1 + j) ∙ sym (ap (v (object_page v e)) s))

  -- every word in which v₁ may differ, or which the conversion may change
  name_back : (p k : ℕ) → NameWords v p k → v₂ p k ≡ v p k
  unfolding NameWords
  name_back p k (inl a) = words_back v v₂ 0 volume_name 8 of-name p k a
  name_back p k (inr (inl (u, h, i, a))) = user-back u h i p k a
  name_back p k (inr (inr (e, h, i, a))) = object-back e h i p k a

  same-words : (p k : ℕ) → NameWords v₁ p k → NameWords v p k
  unfolding NameWords
  same-words p k (inl a) = inl a
  same-words p k (inr (inl (u, h, i, a))) = inr (inl (u, h, subst (λ (n : ℕ). 0 < n) (A.used_users u h) i, subst (λ (q : ℕ). FieldOf q u 1 8 p k) (A.user_pages u) a))
  same-words p k (inr (inr (e, h, i, a))) = inr (inr (e, h, subst (λ (n : ℕ). 0 < n) (A.used_objects e h) i, subst (λ (q : ℕ). FieldOf q e 1 10 p k) (A.object_pages e) a))

  at : (p k : ℕ) → (v₁ p k ≡ v p k) ⊎ NameWords v p k → (v₂ p k ≡ v₁ p k) ⊎ NameWords v₁ p k → v₂ p k ≡ v p k
  at p k (inr a) b = name_back p k a
  at p k (inl e) (inr b) = name_back p k (same-words p k b)
  at p k (inl e) (inl f) = f ∙ e

  pub restored : convert c v₁ ≡ v
  restored = fun_ext (λ p. fun_ext (λ k. at p k (A.lies p k) (B.lies p k)))

module _ (P : ℕ) (pos : 0 < P) (c : ℕ) (mark : 0 < ends c) (v : Vol) (S : Sound P v) (F : AllFilled c v) (small : (p k : ℕ) → v p k < 65536) where
  -- there and back
  pub there_and_back : (d : ℕ) → 0 < ends d → convert c (convert d v) ≡ v
  there_and_back d md = let A = converted P d md v S pos in restored P pos c mark v (convert d v) F small (renamed P d v (convert d v) A md S) A.sound

  -- a volume that has the fill stays
  pub convert-same : convert c v ≡ v
  convert-same = restored P pos c mark v v F small (renamed-refl v) S

-- ---- no name is short

-- the volume's name, and the names and types of used entries, fill their fields
pub record AllFull (v : Vol) : Type 0 where
  pub volume : end_of 16 (v 0) volume_name ≡ 16
  pub users : (u : ℕ) → u < 256 → 0 < used (user v u) → end_of 16 (user v u) 1 ≡ 16
  pub names : (e : ℕ) → e < 65536 → 0 < used (object v e) → end_of 16 (object v e) 1 ≡ 16
  pub types : (e : ℕ) → e < 65536 → 0 < used (object v e) → end_of 4 (object v e) 9 ≡ 4

-- a volume that has both fills has no short name, and one without has either
pub both-full : (c d : ℕ) (v : Vol) → c ≢ d → AllFilled c v → AllFilled d v → AllFull v
both-full c d v ne F G = record {
  volume = two-fills c d 16 (v 0) volume_name ne F.volume G.volume;
  users = λ u h i. two-fills c d 16 (user v u) 1 ne (F.users u h i) (G.users u h i);
  names = λ e h i. two-fills c d 16 (object v e) 1 ne (F.names e h i) (G.names e h i);
  types = λ e h i. two-fills c d 4 (object v e) 9 ne (F.types e h i) (G.types e h i);
}

pub full-any : (c : ℕ) (v : Vol) → AllFull v → AllFilled c v
full-any c v A = record {
  volume = full-filled c 16 (v 0) volume_name A.volume;
  users = λ u h i. full-filled c 16 (user v u) 1 (A.users u h i);
  names = λ e h i. full-filled c 16 (object v e) 1 (A.names e h i);
  types = λ e h i. full-filled c 4 (object v e) 9 (A.types e h i);
}
