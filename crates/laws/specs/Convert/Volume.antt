-- A sound volume with another fill everywhere: it is sound, each name and type has that fill, and no other word differs. Assumes nothing.
use Rattle.std.specs.Prelude.{◌≡◌, refl, ◌⊎◌, ℕ, ◌+◌, ◌-◌, ◌/◌, ◌≤◌, ◌<◌}
use Rattle.std.proofs.Common.{sym, ◌∙◌, arith}
use Rattle.std.proofs.Math.Path.{ap, subst, fun_ext}
use Rattle.std.proofs.Math.Logic.{inl, inr}
use Rattle.std.proofs.Math.Decide.{dec_lt}
use Rattle.book.specs.Words.{Words, Vol}
use Rattle.book.specs.Written.{word-ext, put_words-here, put_words-page, put_words-low, put_words-high}
use Rattle.book.specs.Names.{packed_by, ends, stored}
use Rattle.book.specs.Bits.{bit_file}
use Rattle.book.specs.Entries.{Table, user_file, object_file, user, object, user_page, object_page, used}
use Rattle.book.specs.Files.{file_at}
use Rattle.book.specs.Pointers.{object_pointer, volume_name}
use Rattle.book.specs.Rules.{Sound}
use Rattle.book.specs.Trees.{Root, page_at}
use Rattle.book.specs.Convert.{refilled, refilled_user, refilled_object, convert_name, convert_users, convert_objects, convert}
use Rattle.laws.specs.Convert.Kinds.{user-making, object-making}
use Rattle.laws.specs.Convert.Pass.{SameAddresses, remade, Passed, Written, passed}
use Rattle.laws.specs.File.Fill.{refilled-in, refilled-stored, refilled-low, refilled-high}
use Rattle.laws.specs.File.Stored.{stored-words}
use Rattle.laws.specs.Frame.Places.{Places, WordsOf, FieldOf, at-put_words}
use Rattle.laws.specs.Frame.Quiet.{Quiet, Stays, user-stays, object-stays, quiet-sound, quiet-address}
use Rattle.laws.specs.Frame.Roots.{Roots, users-root, objs-root, page_at-frame, no_blocks, weigh_r-nobody}
use Rattle.laws.specs.Frame.Still.{users-still, objects-still}
use Rattle.laws.specs.Tree.Slot.{Agree}

-- the words of the volume's name, of used users' names, and of used objects' names and types
unfoldable pub NameWords : Vol → Places
NameWords v p k = WordsOf 0 volume_name 8 p k
    ⊎ (((u : ℕ) × (u < 256) × (0 < used (user v u)) × FieldOf (user_page v u) u 1 8 p k)
    ⊎ ((e : ℕ) × (e < 65536) × (0 < used (object v e)) × FieldOf (object_page v e) e 1 10 p k))

-- v' is v with the fill c everywhere
pub record Converted (P c : ℕ) (v v' : Vol) : Type 0 where
  pub sound : Sound P v'
  pub name : (k : ℕ) → v' 0 k ≡ refilled c 16 (v 0) volume_name k
  pub users : (u : ℕ) → u < 256 → (k : ℕ) → k < 32 → user v' u k ≡ remade (refilled_user c) (user v u) k
  pub objects : (e : ℕ) → e < 65536 → (k : ℕ) → k < 32 → object v' e k ≡ remade (refilled_object c) (object v e) k
  pub user_pages : (u : ℕ) → user_page v' u ≡ user_page v u
  pub object_pages : (e : ℕ) → object_page v' e ≡ object_page v e
  pub addresses : SameAddresses v v'
  pub lies : (p k : ℕ) → (v' p k ≡ v p k) ⊎ NameWords v p k

-- ---- the volume's name

module _ (P : ℕ) (c : ℕ) (mark : 0 < ends c) (v : Vol) (S : Sound P v) where
  abbrev v₁ : Vol
  v₁ = convert_name c v

  abbrev new : Words
  new = packed_by c (stored 16 (v 0) volume_name)

  off : (p k : ℕ) → 0 < p → v₁ p k ≡ v p k
  off p k h = put_words-page v 0 volume_name 8 new p k (omega arith)

  pub name-is : (k : ℕ) → convert_name c v 0 k ≡ refilled c 16 (v 0) volume_name k
  name-is k = elim (dec_lt k volume_name) [
    | yes a ↦ put_words-low v 0 volume_name 8 new 0 k a ∙ sym (refilled-low c 16 (v 0) volume_name k a)
    | no a ↦ elim (dec_lt k (volume_name + 8)) [
      | no b ↦ put_words-high v 0 volume_name 8 new 0 k (omega arith) ∙ sym (refilled-high c 16 (v 0) volume_name k (omega arith))
      | yes b ↦
          let i : ℕ = k - volume_name in let e : k ≡ volume_name + i = omega arith in
          put_words-here v 0 volume_name 8 new k (omega arith) b
          ∙ sym (ap (refilled c 16 (v 0) volume_name) e ∙ refilled-in c 16 (v 0) volume_name i (omega arith))
    ]
  ]

  past : (k : ℕ) → object_pointer ≤ k → v₁ 0 k ≡ v 0 k
  past k h = put_words-high v 0 volume_name 8 new 0 k (omega arith)

  agree : Agree (λ x. 0) v v₁
  unfolding Agree
  agree p z k = word-ext v v₁ p k (λ h. off p k h)

  quiet : Quiet P v (λ x. 0)
  quiet = record {
    none = refl;
    bits = weigh_r-nobody v (λ x. 0) (λ x. refl) (bit_file P v);
    users = no_blocks v (user_file v);
    objects = no_blocks v (object_file v);
    files = λ e h. no_blocks v (file_at v e);
  }

  roots : Roots v v₁
  unfolding Roots
  roots k i j = past k i

  users₁ : user v₁ ≡ user v
  users₁ = users-still v v₁ roots (λ x. 0) refl agree (weigh_r-nobody v (λ x. 0) (λ x. refl) (user_file v))

  objects₁ : object v₁ ≡ object v
  objects₁ = objects-still v v₁ roots (λ x. 0) refl agree (weigh_r-nobody v (λ x. 0) (λ x. refl) (object_file v))

  stays : Stays v v₁ (λ x. 0)
  stays = record {
    pages = agree;
    name = stored-words 16 (v₁ 0) (refilled c 16 (v 0) volume_name) volume_name volume_name (λ i h. name-is (volume_name + i / 2))
        ∙ refilled-stored c 1 16 mark (omega arith) (v 0) volume_name S.r1.name;
    master = past;
    users = λ u. user-stays _ _ (λ k h. ap (λ (U : Table). U u k) users₁);
    objects = λ e. object-stays _ _ (λ k h n. ap (λ (O : Table). O e k) objects₁);
  }

  pub name-sound : Sound P (convert_name c v)
  name-sound = quiet-sound P v v₁ (λ x. 0) quiet stays S

  user_pages₁ : (u : ℕ) → user_page v₁ u ≡ user_page v u
  unfolding user_page
  user_pages₁ u = ap (λ (r : Root). page_at v₁ r (u / 32)) (users-root v v₁ roots) ∙ page_at-frame v v₁ (λ x. 0) agree (user_file v) (no_blocks v (user_file v)) (u / 32)

  object_pages₁ : (e : ℕ) → object_page v₁ e ≡ object_page v e
  unfolding object_page
  object_pages₁ e = ap (λ (r : Root). page_at v₁ r (e / 32)) (objs-root v v₁ roots) ∙ page_at-frame v v₁ (λ x. 0) agree (object_file v) (no_blocks v (object_file v)) (e / 32)

  -- ---- then the users, then the objects

  module _ (pos : 0 < P) where
    abbrev v₂ : Vol
    v₂ = convert_users c v₁

    abbrev v₃ : Vol
    v₃ = convert_objects c v₂

    A : Passed (user-making P pos c mark) v₁ 256 v₂
    A = passed (user-making P pos c mark) v₁ name-sound 256 (omega arith)

    B : Passed (object-making P pos c mark) v₂ 65536 v₃
    B = passed (object-making P pos c mark) v₂ A.sound 65536 (omega arith)

    objects₂ : (e : ℕ) → object v₂ e ≡ object v e
    unfolding object
    objects₂ e = fun_ext (λ k. A.others e k) ∙ ap (λ (O : Table). O e) objects₁

    user_pages₂ : (u : ℕ) → user_page v₂ u ≡ user_page v u
    unfolding user_page
    user_pages₂ u = A.pages (u / 32) ∙ user_pages₁ u

    object_pages₂ : (e : ℕ) → object_page v₂ e ≡ object_page v e
    unfolding object_page
    object_pages₂ e = A.pages' (e / 32) ∙ object_pages₁ e

    -- where a word of an entry was written
    of_user : {p k : ℕ} → (m : ℕ) × (m < 256) × Written (user-making P pos c mark) v₁ m p k → NameWords v p k
    unfolding NameWords user_page user
    of_user {p} {k} (m, h, (u, a)) = inr (inl (m, h, subst (λ (U : Table). 0 < used (U m)) users₁ u, subst (λ (q : ℕ). FieldOf q m 1 8 p k) (user_pages₁ m) a))

    of_object : {p k : ℕ} → (m : ℕ) × (m < 65536) × Written (object-making P pos c mark) v₂ m p k → NameWords v p k
    unfolding NameWords object_page object
    of_object {p} {k} (m, h, (u, a)) = inr (inr (m, h, subst (λ (w : Words). 0 < used w) (objects₂ m) u, subst (λ (q : ℕ). FieldOf q m 1 10 p k) (object_pages₂ m) a))

    lies₃ : (p k : ℕ) → (v₃ p k ≡ v p k) ⊎ NameWords v p k
    unfolding NameWords
    lies₃ p k = go (B.lies p k) (A.lies p k) (at-put_words v 0 volume_name 8 new p k)
      where
        go : (v₃ p k ≡ v₂ p k) ⊎ ((m : ℕ) × (m < 65536) × Written (object-making P pos c mark) v₂ m p k)
            → (v₂ p k ≡ v₁ p k) ⊎ ((m : ℕ) × (m < 256) × Written (user-making P pos c mark) v₁ m p k)
            → (v₁ p k ≡ v p k) ⊎ WordsOf 0 volume_name 8 p k → (v₃ p k ≡ v p k) ⊎ NameWords v p k
        go (inr a) b d = inr (of_object a)
        go (inl e) (inr a) d = inr (of_user a)
        go (inl e) (inl f) (inr a) = inr (inl a)
        go (inl e) (inl f) (inl g) = inl (e ∙ f ∙ g)

    all-converted : Converted P c v v₃
    unfolding SameAddresses user object user_page object_page
    all-converted = record {
      sound = B.sound;
      name = λ k. B.master k ∙ A.master k ∙ name-is k;
      users = λ u h k l. B.others u k ∙ A.made u h k l ∙ ap (λ (U : Table). remade (refilled_user c) (U u) k) users₁;
      objects = λ e h k l. B.made e h k l ∙ ap (λ (w : Words). remade (refilled_object c) w k) (objects₂ e);
      user_pages = λ u. B.pages' (u / 32) ∙ user_pages₂ u;
      object_pages = λ e. B.pages (e / 32) ∙ object_pages₂ e;
      addresses = λ x h m. B.addresses x h m ∙ A.addresses x h m ∙ quiet-address P v v₁ (λ x. 0) quiet stays x h m;
      lies = lies₃;
    }

    pub converted : Converted P c v (convert c v)
    unfolding convert
    converted = all-converted
