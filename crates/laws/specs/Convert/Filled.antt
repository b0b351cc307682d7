-- After a conversion every name and type is where it was, is read as it was, and has the new fill. Assumes nothing.
use Rattle.std.specs.Prelude.{◌≡◌, refl, ◌⊎◌, ℕ, ◌+◌, ◌/◌, ◌<◌}
use Rattle.std.proofs.Common.{◌∙◌, subst, inl, inr, eq-zero-or-pos, arith}
use Rattle.sums.specs.Search.{pick_yes, pick_no}
use Rattle.book.specs.Words.{Words, Vol}
use Rattle.book.specs.Names.{ends, stored}
use Rattle.book.specs.Entries.{user, object, used, user_page, object_page}
use Rattle.book.specs.Pointers.{volume_name}
use Rattle.book.specs.Rules.{Sound}
use Rattle.book.specs.Convert.{Filled, refilled, refilled_user, refilled_object, AllFilled}
use Rattle.laws.specs.Convert.Pass.{remade}
use Rattle.laws.specs.Convert.Refilled.{user-keeps, user-says, object-keeps, object-says, object-filled}
use Rattle.laws.specs.Convert.Volume.{NameWords, Converted}
use Rattle.laws.specs.File.Fill.{filled-words, refilled-filled, refilled-stored}
use Rattle.laws.specs.File.Named.{user-legal, object-legal}
use Rattle.laws.specs.File.Stored.{stored-words}
use Rattle.laws.specs.Frame.Quiet.{ObjectStays}
use Rattle.laws.specs.Tree.Pointer.{used-ext}

-- ---- an entry made anew

module _ (f : Words → Words) (x : Words) where
  pub remade-used : 0 < used x → (k : ℕ) → remade f x k ≡ f x k
  unfolding remade
  remade-used h k = pick_yes (used x) (f x k) (x k) h

  pub remade-unused : used x ≡ 0 → (k : ℕ) → remade f x k ≡ x k
  unfolding remade
  remade-unused h k = pick_no (used x) (f x k) (x k) h

  -- a word that f keeps
  pub remade-kept : (k : ℕ) → f x k ≡ x k → remade f x k ≡ x k
  remade-kept k e = elim (eq-zero-or-pos (used x)) [ inl z ↦ remade-unused z k | inr p ↦ remade-used p k ∙ e ]

-- ---- a volume converted

-- v' has the names of v in the same places, and its words everywhere else
pub record Renamed (v v' : Vol) : Type 0 where
  pub user_pages : (u : ℕ) → user_page v' u ≡ user_page v u
  pub object_pages : (e : ℕ) → object_page v' e ≡ object_page v e
  pub used_users : (u : ℕ) → u < 256 → used (user v' u) ≡ used (user v u)
  pub used_objects : (e : ℕ) → e < 65536 → used (object v' e) ≡ used (object v e)
  pub volume : stored 16 (v' 0) volume_name ≡ stored 16 (v 0) volume_name
  pub users : (u : ℕ) → u < 256 → 0 < used (user v u) → stored 16 (user v' u) 1 ≡ stored 16 (user v u) 1
  pub names : (e : ℕ) → e < 65536 → 0 < used (object v e) → stored 16 (object v' e) 1 ≡ stored 16 (object v e) 1
  pub types : (e : ℕ) → e < 65536 → 0 < used (object v e) → stored 4 (object v' e) 9 ≡ stored 4 (object v e) 9
  pub lies : (p k : ℕ) → (v' p k ≡ v p k) ⊎ NameWords v p k

pub renamed-refl : (v : Vol) → Renamed v v
renamed-refl v = record {
  user_pages = λ u. refl;
  object_pages = λ e. refl;
  used_users = λ u h. refl;
  used_objects = λ e h. refl;
  volume = refl;
  users = λ u h i. refl;
  names = λ e h i. refl;
  types = λ e h i. refl;
  lies = λ p k. inl refl;
}

module _ (P c : ℕ) (v v' : Vol) (C : Converted P c v v') where
  -- the same entries are used
  pub users-used : (u : ℕ) → u < 256 → used (user v' u) ≡ used (user v u)
  users-used u h = used-ext (user v' u) (user v u) (C.users u h 0 (omega arith) ∙ remade-kept (refilled_user c) (user v u) 0 (user-keeps c (user v u) 0 (inl (omega arith))))

  pub objects-used : (e : ℕ) → e < 65536 → used (object v' e) ≡ used (object v e)
  objects-used e h = used-ext (object v' e) (object v e) (C.objects e h 0 (omega arith) ∙ remade-kept (refilled_object c) (object v e) 0 (object-keeps c (object v e) 0 (inl (omega arith))))

  -- a used entry's words are those of its name, and its type, with the fill c
  pub user-anew : (u : ℕ) → u < 256 → 0 < used (user v u) → (k : ℕ) → k < 32 → user v' u k ≡ refilled_user c (user v u) k
  user-anew u h i k l = C.users u h k l ∙ remade-used (refilled_user c) (user v u) i k

  pub object-anew : (e : ℕ) → e < 65536 → 0 < used (object v e) → (k : ℕ) → k < 32 → object v' e k ≡ refilled_object c (object v e) k
  object-anew e h i k l = C.objects e h k l ∙ remade-used (refilled_object c) (object v e) i k

  module _ (mark : 0 < ends c) (S : Sound P v) where
    pub renamed : Renamed v v'
    renamed = record {
      user_pages = C.user_pages;
      object_pages = C.object_pages;
      used_users = users-used;
      used_objects = objects-used;
      volume = stored-words 16 (v' 0) (refilled c 16 (v 0) volume_name) volume_name volume_name (λ i h. C.name (volume_name + i / 2)) ∙ refilled-stored c 1 16 mark (omega arith) (v 0) volume_name S.r1.name;
      users = λ u h i. stored-words 16 (user v' u) (refilled_user c (user v u)) 1 1 (λ j l. user-anew u h i (1 + j / 2) (omega arith)) ∙ (user-says c mark (user v u) (user-legal P v S u h i)).name;
      names = λ e h i. stored-words 16 (object v' e) (refilled_object c (object v e)) 1 1 (λ j l. object-anew e h i (1 + j / 2) (omega arith)) ∙ (says e h i).name;
      types = λ e h i. stored-words 4 (object v' e) (refilled_object c (object v e)) 9 9 (λ j l. object-anew e h i (9 + j / 2) (omega arith)) ∙ (says e h i).type;
      lies = C.lies;
    }
      where
        says : (e : ℕ) → e < 65536 → 0 < used (object v e) → ObjectStays (refilled_object c (object v e)) (object v e)
        says e h i = let o = object-legal P v S e h i in object-says c (object v e) mark o.0 o.1

    pub all-filled : AllFilled c v'
    all-filled = record {
      volume = filled-words c 16 (v' 0) (refilled c 16 (v 0) volume_name) volume_name volume_name (λ i h. C.name (volume_name + i / 2)) (refilled-filled c 1 16 mark (omega arith) (v 0) volume_name S.r1.name);
      users = λ u h i. let j = subst (λ (n : ℕ). 0 < n) (users-used u h) i in
          filled-words c 16 (user v' u) (refilled_user c (user v u)) 1 1 (λ n l. user-anew u h j (1 + n / 2) (omega arith)) (refilled-filled c 1 16 mark (omega arith) (user v u) 1 (user-legal P v S u h j));
      names = λ e h i. let j = subst (λ (n : ℕ). 0 < n) (objects-used e h) i in
          filled-words c 16 (object v' e) (refilled_object c (object v e)) 1 1 (λ n l. object-anew e h j (1 + n / 2) (omega arith)) (both e h j).0;
      types = λ e h i. let j = subst (λ (n : ℕ). 0 < n) (objects-used e h) i in
          filled-words c 4 (object v' e) (refilled_object c (object v e)) 9 9 (λ n l. object-anew e h j (9 + n / 2) (omega arith)) (both e h j).1;
    }
      where
        both : (e : ℕ) → e < 65536 → 0 < used (object v e) → Filled c 16 (refilled_object c (object v e)) 1 × Filled c 4 (refilled_object c (object v e)) 9
        both e h i = let o = object-legal P v S e h i in object-filled c (object v e) mark o.0 o.1
