-- Both files of entries, all their entries one after the other. Assumes nothing.
use mathlib.Core.Path.{◌≡◌, refl, sym, ap, ◌∙◌, subst, fun_ext}
use mathlib.Core.Bool.{Bool, true, false}
use mathlib.Core.List.{List}
use Prim.Native.Nat.{ℕ, zero, suc, ◌+◌, ◌-◌, ◌*◌, ◌/◌, ◌≤◌, ◌<◌}
use native.Mathlib.Decide.{dec_lt}
use native.Mathlib.Omega.{arith}
use native.Mathlib.Numerals.{add-one}
use lib.ListN.{length}
use Rattle.sums.specs.Search.{pick_yes, pick_no}
use Rattle.book.specs.Words.{Words, Vol, vol, word}
use Rattle.book.specs.Names.{ends}
use Rattle.book.specs.Entries.{entry, entry_word, put_entry, user, object, object_file, used}
use Rattle.book.specs.Pointers.{volume_name}
use Rattle.book.specs.Image.{pages, Ready}
use Rattle.book.specs.Rules.{Sound}
use Rattle.book.specs.Trees.{Root, page_at}
use Rattle.book.specs.Decides.{Decides}
use Rattle.book.specs.Convert.{remake, remake_all, AllFilled, Filled, convert_name, convert_users, convert_objects, convert, refilled_object}
use Rattle.laws.specs.Call.After.{whole_same}
use Rattle.laws.specs.Convert.Kinds.{user-making, object-making}
use Rattle.laws.specs.Convert.Pass.{passed}
use Rattle.laws.specs.Convert.Volume.{name-sound}
use Rattle.laws.specs.Frame.Roots.{used-page}
use Rattle.laws.specs.Tree.Pointer.{used-ext}
use Rattle.tree.specs.Reach.{entry_in}
use Rattle.tree.specs.Ends.{Ends}
use Rattle.tree.proofs.Absent.{ends-unused}
use Rattle.convert.specs.Kinds.{file_of, entries_of, refilled_entry, FilledEntry, FilledAt, FilledTo, PastEnd}

-- ---- an entry on its page

module _ (typed : Bool) (v : Vol) (q n : ℕ) (at : q ≡ page_at v (file_of typed v) (n / 32)) where
  pub entry-at : entry_in v q n ≡ entry v (file_of typed v) n
  unfolding entry
  entry-at = fun_ext (λ k. ap (λ (p : ℕ). word v p (entry_word n + k)) at)

  pub page-there : 0 < used (entry_in v q n) → 0 < q
  page-there h = subst (λ (p : ℕ). 0 < p) (sym at) (used-page v (file_of typed v) n (subst (λ (w : Words). 0 < used w) entry-at h))

  -- it stays where it is not used
  pub unused-filled : (c : ℕ) → (0 < used (entry_in v q n) → ⊥) → FilledAt typed c v n
  unused-filled c h u = absurd (h (subst (λ (w : Words). 0 < used w) (sym entry-at) u))

  pub unused-stays : (c : ℕ) → (0 < used (entry_in v q n) → ⊥) → v ≡ remake (file_of typed) (refilled_entry typed c) v n
  unfolding remake
  unused-stays c h = sym (pick_no (used (entry v (file_of typed v) n)) _ v (let e : used (entry_in v q n) ≡ used (entry v (file_of typed v) n) = ap used entry-at in omega (arith, e, none)))
    where
      none : used (entry_in v q n) ≡ 0
      none = omega (arith, h)

  -- and is made anew where it is
  pub used-anew : (c : ℕ) → 0 < used (entry_in v q n) → (u : Vol) → u ≡ put_entry v q n (refilled_entry typed c (entry_in v q n)) → u ≡ remake (file_of typed) (refilled_entry typed c) v n
  unfolding remake
  used-anew c h u e = e ∙ ap (λ (w : Words). put_entry v q n (refilled_entry typed c w)) entry-at ∙ ap (λ (p : ℕ). put_entry v p n (refilled_entry typed c (entry v (file_of typed v) n))) at
      ∙ sym (pick_yes (used (entry v (file_of typed v) n)) _ v (subst (λ (w : Words). 0 < used w) entry-at h))

  -- its fill, if it is used
  pub used-filled : (b : Bool) (c : ℕ) → 0 < used (entry_in v q n) → Decides b (FilledEntry typed c (entry_in v q n)) → Decides b (FilledAt typed c v n)
  used-filled b c h d = go b (subst (λ (w : Words). Decides b (FilledEntry typed c w)) entry-at d)
    where
      go : (b : Bool) → Decides b (FilledEntry typed c (entry v (file_of typed v) n)) → Decides b (FilledAt typed c v n)
      go true f = λ u. f
      go false f = λ g. f (g (subst (λ (w : Words). 0 < used w) entry-at h))

-- ---- the first n entries

-- a ready image of another that has its length is ready if its volume is sound
pub ready-again : (img img' : List ℕ) → Ready img → length img' ≡ length img → (v : Vol) → vol img' ≡ v → Sound (pages img) v → Ready img'
ready-again img img' r e v q S =
    let p : pages img' ≡ pages img = ap (λ (n : ℕ). n / 1024) e in record {
      whole = whole_same img img' e r.whole;
      sound = subst (λ (P : ℕ). Sound P (vol img')) (sym p) (subst (λ (w : Vol). Sound (pages img) w) (sym q) S);
    }

pub remade-sound : (typed : Bool) (P c : ℕ) → 0 < P → 0 < ends c → (v : Vol) → Sound P v → (n : ℕ) → n ≤ entries_of typed → Sound P (remake_all (file_of typed) (refilled_entry typed c) v n)
remade-sound true P c pos mark v S n h = (passed (object-making P pos c mark) v S n h).sound
remade-sound false P c pos mark v S n h = (passed (user-making P pos c mark) v S n h).sound

pub remade-none : (file : Vol → Root) (f : Words → Words) (v : Vol) → v ≡ remake_all file f v 0
unfolding remake_all
remade-none file f v = refl

pub remade-more : (file : Vol → Root) (f : Words → Words) (v u w : Vol) (n : ℕ) → u ≡ remake_all file f v n → w ≡ remake file f u n → w ≡ remake_all file f v (n + 1)
unfolding remake_all
remade-more file f v u w n e q = q ∙ ap (λ (x : Vol). remake file f x n) e ∙ ap (remake_all file f v) (sym (add-one n))

-- ---- up to the end of the object file

pub past_end : (img : List ℕ) (n r : ℕ) → Ends img n → r ≡ 32 * n → PastEnd (vol img) r
past_end img n r d e = record { most = omega (arith, d.most, e); none = λ i h l. ends-unused img n d i (omega (arith, e)) l }

-- so all entries have the fill if those before it have
pub filled-end : (v : Vol) (n : ℕ) → PastEnd v n → (c : ℕ) → FilledTo true c v n → (e : ℕ) → e < 65536 → FilledAt true c v e
unfolding object
filled-end v n d c f e h u = elim (dec_lt e n) [
  | yes l ↦ f e l u
  | no l ↦ absurd (let z : ⊥ = omega (arith, d.none e (omega arith) h) in z)
]

-- and those from it on stay
module _ (P : ℕ) (pos : 0 < P) (c : ℕ) (mark : 0 < ends c) (v : Vol) (S : Sound P v) (n : ℕ) (d : PastEnd v n) where
  abbrev up_to : ℕ → Vol
  up_to m = remake_all object_file (refilled_object c) v m

  still-unused : (m : ℕ) → n ≤ m → m < 65536 → used (entry (up_to m) (object_file (up_to m)) m) ≡ 0
  unfolding object
  still-unused m h l = used-ext _ _ ((passed (object-making P pos c mark) v S m (omega arith)).left m (omega arith) 0 (omega arith)) ∙ d.none m h l

  stay : (k : ℕ) → n + k ≤ 65536 → up_to (n + k) ≡ up_to n
  unfolding remake_all remake
  stay zero h = ap up_to (let e : n + 0 ≡ n = omega arith in e)
  stay (suc k) h =
      let e : n + suc k ≡ suc (n + k) = omega arith in
      ap up_to e ∙ pick_no (used (entry (up_to (n + k)) (object_file (up_to (n + k))) (n + k))) _ (up_to (n + k)) (still-unused (n + k) (omega arith) (omega arith)) ∙ stay k (omega arith)

  pub end-all : remake_all object_file (refilled_object c) v n ≡ convert_objects c v
  end-all = let e : n + (65536 - n) ≡ 65536 = omega (arith, d.most) in sym (stay (65536 - n) (omega (arith, d.most))) ∙ ap up_to e

-- ---- the volume

-- after its name, and after its users
module _ (c : ℕ) (mark : 0 < ends c) (img : List ℕ) (r : Ready img) (img₁ : List ℕ) (l : length img₁ ≡ length img) (e : vol img₁ ≡ convert_name c (vol img)) where
  pub name-ready : Ready img₁
  name-ready = ready-again img img₁ r l (convert_name c (vol img)) e (name-sound (pages img) c mark (vol img) r.sound)

  module _ (img₂ : List ℕ) (l₂ : length img₂ ≡ length img₁) (e₂ : vol img₂ ≡ convert_users c (vol img₁)) where
    pub users-ready : Ready img₂
    users-ready = ready-again img₁ img₂ name-ready l₂ (convert_users c (vol img₁)) e₂
        (remade-sound false (pages img₁) c (omega (arith, name-ready.whole.least)) mark (vol img₁) name-ready.sound 256 (omega arith))

    pub all-converted : (n : ℕ) → PastEnd (vol img₂) n → (v : Vol) → v ≡ remake_all object_file (refilled_object c) (vol img₂) n → v ≡ convert c (vol img)
    unfolding convert
    all-converted n d v q = q ∙ end-all (pages img₂) (omega (arith, users-ready.whole.least)) c mark (vol img₂) users-ready.sound n d
        ∙ ap (convert_objects c) (e₂ ∙ ap (convert_users c) e)

pub all-parts : (c : ℕ) (v : Vol) → Filled c 16 (v 0) volume_name → FilledTo false c v 256 → ((e : ℕ) → e < 65536 → FilledAt true c v e) → AllFilled c v
unfolding user object
all-parts c v n u o = record { volume = n; users = u; names = λ e h i. (o e h i).0; types = λ e h i. (o e h i).1 }

pub parts-users : (c : ℕ) (v : Vol) → AllFilled c v → FilledTo false c v 256
unfolding user
parts-users c v F u h i = F.users u h i

pub parts-objects : (c : ℕ) (v : Vol) (n : ℕ) → n ≤ 65536 → AllFilled c v → FilledTo true c v n
unfolding object
parts-objects c v n l F e h i = (F.names e (omega arith) i, F.types e (omega arith) i)
