-- Between the pages of a place: the volume is sound, and what the next page asks for is there. Assumes nothing.
use mathlib.Core.Path.{◌≡◌, refl, sym, ap, ap₂, ◌∙◌, subst}
use mathlib.Core.Logic.{◌⊎◌, inl, inr}
use mathlib.Core.List.{List}
use Prim.Native.Nat.{ℕ, ◌+◌, ◌-◌, ◌*◌, ◌/◌, ◌%◌, ◌≤◌, ◌<◌, suc}
use native.Mathlib.Nat.{eq-zero-or-pos}
use native.Mathlib.Omega.{arith}
use lib.ListN.{length}
use Rattle.sums.specs.Sum.{is}
use Rattle.sums.specs.Search.{pick_yes, pick_no, at_least}
use Rattle.book.specs.Words.{Vol, vol}
use Rattle.book.specs.Image.{pages, Ready}
use Rattle.book.specs.Pointers.{flags, page, slot, Zero, Inside, object_pointer, unreserved_count, user_pointer}
use Rattle.book.specs.Bits.{lowest_free}
use Rattle.book.specs.Entries.{user_page, object_page, entry_page, unreserved}
use Rattle.book.specs.Rules.{Rule2, Sound}
use Rattle.book.specs.Create.{extend, started, raised, raises, with_user_page, with_subindex, user_place, object_index, file_need, with_index, with_object_page, file_place}
use Rattle.laws.specs.Bits.Choose.{lowest-stock}
use Rattle.laws.specs.Create.Join.{SlotWords}
use Rattle.laws.specs.Create.Placed.{Placed, extend_pos, extend-master, extend-slot, extend-bare, extend-placed}
use Rattle.laws.specs.Create.Vacant.{Reached, Vacant, object-none, object-one, object-slot, object-two, reached-kept, top-vacant, user-vacant}
use Rattle.laws.specs.Frame.Places.{UnreservedWords, Either}
use Rattle.laws.specs.Tree.Pointer.{flags-ext, page-ext}
use Rattle.making.proofs.Ready.{same-pages, ready-next}

-- ---- users

raises-same : (v w : Vol) (u : ℕ) → w 0 object_pointer ≡ v 0 object_pointer → raises w u ≡ raises v u
unfolding raises
raises-same v w u e = ap (λ (x : ℕ). is x 1 * at_least 64 u) (flags-ext (w 0) (v 0) object_pointer e)

module _ (P : ℕ) (v : Vol) (S : Sound P v) (pos : 0 < P) (u : ℕ) (hu : u < 256) (some : 0 < page (v 0) user_pointer) where
  indexed : Rule2 P v → (flags (v 0) user_pointer ≡ 1) × (page (v 0) user_pointer < P)
  unfolding Rule2 Inside Zero page
  indexed (inl h) = absurd (let r : ⊥ = omega (arith, some, h.0.0, h.0.1) in r)
  indexed (inr h) = (h.0.0, h.0.2)

  -- the slot of an absent user page
  pub user-room : user_page v u ≡ 0 → Vacant P v (page (v 0) user_pointer) (entry_page u)
  user-room z = user-vacant P v S (indexed S.r2).0 some (indexed S.r2).1 u hu z

  -- with the user page
  pub record WithPage (w : Vol) : Type 0 where
    pub sound : Sound P w
    pub asks : raises w u ≡ raises v u
    pub left : unreserved w + (1 - user_page v u) ≡ unreserved v

  module _ (have : 1 - user_page v u ≤ unreserved v) where
    pub with-page : WithPage (with_user_page (lowest_free P) P v u)
    unfolding with_user_page
    with-page = elim (eq-zero-or-pos (user_page v u)) [
      | inr q ↦ subst WithPage (sym (pick_yes (user_page v u) v _ q)) (record { sound = S; asks = refl; left = omega arith })
      | inl z ↦ subst WithPage (sym (pick_no (user_page v u) v _ z)) (absent z)
    ]
      where
        absent : user_page v u ≡ 0 → WithPage (extend (lowest_free P) P v (page (v 0) user_pointer) (entry_page u))
        absent z =
            let h : 1 ≤ unreserved v = omega (arith, have) in
            let w : Vol = extend (lowest_free P) P v (page (v 0) user_pointer) (entry_page u) in
            let T = extend-placed (lowest-stock S pos) (user-room z) h in
            record {
              sound = T.sound;
              asks = raises-same v w u (extend-master (lowest-stock S pos) (user-room z) h object_pointer (omega arith));
              left = omega (arith, T.taking.paid);
            }

-- the place of a user, the first time ever and later
module _ (P : ℕ) (v : Vol) (u : ℕ) where
  pub place-first : page (v 0) user_pointer ≡ 0 → (w : Vol) → w ≡ started (lowest_free P) P v → w ≡ user_place (lowest_free P) P v u
  unfolding user_place
  place-first z w e = e ∙ sym (pick_no (page (v 0) user_pointer) _ _ z)

  pub place-later : 0 < page (v 0) user_pointer → (w₁ w : Vol) → w₁ ≡ with_user_page (lowest_free P) P v u → (P' : ℕ) → w ≡ with_subindex (lowest_free P') P' w₁ u → P' ≡ P → w ≡ user_place (lowest_free P) P v u
  unfolding user_place
  place-later h w₁ w a P' b p =
      b ∙ ap₂ (λ (n : ℕ) (x : Vol). with_subindex (lowest_free n) n x u) p a ∙ sym (pick_yes (page (v 0) user_pointer) _ _ h)

  pub page-kept : 0 < user_page v u → v ≡ with_user_page (lowest_free P) P v u
  unfolding with_user_page
  page-kept h = sym (pick_yes (user_page v u) _ _ h)

  pub page-new : user_page v u ≡ 0 → (t k : ℕ) → t ≡ page (v 0) user_pointer → k ≡ entry_page u → (w : Vol) → w ≡ extend (lowest_free P) P v t k → w ≡ with_user_page (lowest_free P) P v u
  unfolding with_user_page
  page-new z t k a b w e = e ∙ ap₂ (extend (lowest_free P) P v) a b ∙ sym (pick_no (user_page v u) _ _ z)

  pub sub-kept : raises v u ≡ 0 → v ≡ with_subindex (lowest_free P) P v u
  unfolding with_subindex
  sub-kept z = sym (pick_no (raises v u) _ _ z)

  pub sub-new : 0 < raises v u → (w : Vol) → w ≡ raised (lowest_free P) P v → w ≡ with_subindex (lowest_free P) P v u
  unfolding with_subindex
  sub-new h w e = e ∙ sym (pick_yes (raises v u) _ _ h)

-- ---- files

module _ (P : ℕ) (v : Vol) (e : ℕ) where
  pub index_kept : 0 < object_index v e → v ≡ with_index (lowest_free P) P v e
  unfolding with_index
  index_kept h = sym (pick_yes (object_index v e) _ _ h)

  pub index-new : object_index v e ≡ 0 → (t k : ℕ) → t ≡ page (v 0) object_pointer → k ≡ entry_page e / 512 → (w : Vol) → w ≡ extend (lowest_free P) P v t k → w ≡ with_index (lowest_free P) P v e
  unfolding with_index
  index-new z t k a b w q = q ∙ ap₂ (extend (lowest_free P) P v) a b ∙ sym (pick_no (object_index v e) _ _ z)

  pub object-kept : 0 < object_page v e → v ≡ with_object_page (lowest_free P) P v e
  unfolding with_object_page
  object-kept h = sym (pick_yes (object_page v e) _ _ h)

  pub object-new : object_page v e ≡ 0 → (t k : ℕ) → t ≡ object_index v e → k ≡ entry_page e % 512 → (w : Vol) → w ≡ extend (lowest_free P) P v t k → w ≡ with_object_page (lowest_free P) P v e
  unfolding with_object_page
  object-new z t k a b w q = q ∙ ap₂ (extend (lowest_free P) P v) a b ∙ sym (pick_no (object_page v e) _ _ z)

  pub file-place-is : (w₁ w : Vol) → w₁ ≡ with_index (lowest_free P) P v e → (P' : ℕ) → w ≡ with_object_page (lowest_free P') P' w₁ e → P' ≡ P → w ≡ file_place (lowest_free P) P v e
  unfolding file_place
  file-place-is w₁ w a P' b p = b ∙ ap₂ (λ (n : ℕ) (x : Vol). with_object_page (lowest_free n) n x e) p a

  -- with the index block
  pub record Indexed (w : Vol) : Type 0 where
    pub sound : Sound P w
    pub reached : Reached P w e
    pub index : 0 < object_index w e
    pub room : 1 - object_page w e ≤ unreserved w

  module _ (S : Sound P v) (pos : 0 < P) (R : Reached P v e) (have : file_need v e ≤ unreserved v) where
    pub need-one : object_index v e ≡ 0 → 1 ≤ unreserved v
    unfolding file_need
    need-one z = omega (arith, have, z)

    module _ (z : object_index v e ≡ 0) where
      abbrev o : ℕ
      o = page (v 0) object_pointer

      abbrev i : ℕ
      i = entry_page e / 512

      abbrev w : Vol
      w = extend (lowest_free P) P v o i

      N : Vacant P v o i
      N = top-vacant P v S e R z

      T : Placed P v w (Either (SlotWords o i) UnreservedWords) 1
      T = extend-placed (lowest-stock S pos) N (need-one z)

      mast : (k : ℕ) → k < unreserved_count → w 0 k ≡ v 0 k
      mast = extend-master (lowest-stock S pos) N (need-one z)

      R₁ : Reached P w e
      R₁ = reached-kept P v w e (mast object_pointer (omega arith)) (mast (suc object_pointer) (omega arith)) R

      two : flags (v 0) object_pointer ≡ 2
      two = go R.kind
        where
          go : ((flags (v 0) object_pointer ≡ 1) × (e < 16384)) ⊎ ((flags (v 0) object_pointer ≡ 2) × (e < 65536)) → flags (v 0) object_pointer ≡ 2
          go (inl h) = absurd (let r : ⊥ = omega (arith, z, object-one P v S e R h.0, R.real) in r)
          go (inr h) = h.0

      index₁ : object_index w e ≡ lowest_free P v
      index₁ = object-two P w T.sound e R₁ (flags-ext (w 0) (v 0) object_pointer (mast object_pointer (omega arith)) ∙ two)
          ∙ ap (λ (t : ℕ). slot w t i) (page-ext (w 0) (v 0) object_pointer (mast object_pointer (omega arith)) (mast (suc object_pointer) (omega arith)))
          ∙ extend-slot (lowest-stock S pos) N (need-one z)

      pub page-unmade : object_page (extend (lowest_free P) P v (page (v 0) object_pointer) (entry_page e / 512)) e ≡ 0
      page-unmade = object-slot P w T.sound e R₁ ∙ ap (λ (x : ℕ). slot w x (entry_page e % 512)) index₁
          ∙ extend-bare (lowest-stock S pos) N (need-one z) (entry_page e % 512)

      pub index-made : Indexed (extend (lowest_free P) P v (page (v 0) object_pointer) (entry_page e / 512))
      unfolding file_need
      index-made = record {
        sound = T.sound;
        reached = R₁;
        index = omega (arith, index₁, extend_pos (lowest-stock S pos) N (need-one z));
        room = omega (arith, have, z, object-none P v S e R z, T.taking.paid);
      }

    pub with-index : Indexed (with_index (lowest_free P) P v e)
    unfolding with_index file_need
    with-index = elim (eq-zero-or-pos (object_index v e)) [
      | inr p ↦ subst Indexed (sym (pick_yes (object_index v e) v _ p)) (record { sound = S; reached = R; index = p; room = omega (arith, have) })
      | inl z ↦ subst Indexed (sym (pick_no (object_index v e) v _ z)) (index-made z)
    ]

-- so the image is ready for the page
pub indexed-next : (img img' : List ℕ) (e : ℕ) → Ready img → (w : Vol) → vol img' ≡ w → Indexed (pages img) (vol img) e w → length img' ≡ length img
    → Ready img' × Reached (pages img') (vol img') e × (0 < object_index (vol img') e) × (1 - object_page (vol img') e ≤ unreserved (vol img'))
indexed-next img img' e d w q I l = (
  ready-next img img' d w q I.sound l,
  subst (λ (n : ℕ). Reached n (vol img') e) (sym (same-pages img img' l)) (subst (λ (x : Vol). Reached (pages img) x e) (sym q) I.reached),
  subst (λ (x : Vol). 0 < object_index x e) (sym q) I.index,
  subst (λ (x : Vol). 1 - object_page x e ≤ unreserved x) (sym q) I.room,
)
