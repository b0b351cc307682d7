-- Each creation as the code writes it: the place, then the entry; and that the image is ready between the two. Assumes nothing.
use mathlib.Core.Path.{◌≡◌, sym, ap, ap₂, ◌∙◌, subst}
use mathlib.Core.List.{List}
use Prim.Native.Nat.{ℕ, ◌+◌, ◌≤◌, ◌<◌}
use native.Mathlib.Omega.{arith}
use lib.ListN.{length}
use Rattle.book.specs.Words.{Vol, vol, put2}
use Rattle.book.specs.Bits.{lowest_free, claim_run, highest_run}
use Rattle.book.specs.Entries.{Table, user, used, used_pages, spare, unreserved, user_page, object_page, put_entry, entry_word, file_entry, new_user, new_file}
use Rattle.book.specs.Image.{pages, most_pages, Ready}
use Rattle.book.specs.Rules.{Rule4Over}
use Rattle.book.specs.Create.{user_entry, object_entry, user_need, file_need, user_place, file_place, create_user, create_indexed, create_contiguous}
use Rattle.laws.specs.Bits.Choose.{FreeRun, lowest-stock, run-found}
use Rattle.laws.specs.Count.Room.{given-room}
use Rattle.laws.specs.Create.FilePlace.{FilePlaced, file-placed}
use Rattle.laws.specs.Create.User.{new-first}
use Rattle.laws.specs.Create.UserPlace.{user-placed}
use Rattle.laws.specs.Create.Vacant.{Reached, used-reached}
use Rattle.making.proofs.Ready.{ready-next}

-- ---- a user

-- ready again after his place is made
pub user-ready : (img img' : List ℕ) → Ready img → (u : ℕ) → u ≡ new_user (vol img) → u < 256 → user_need (vol img) u ≤ unreserved (vol img)
    → vol img' ≡ user_place (lowest_free (pages img)) (pages img) (vol img) u → length img' ≡ length img → Ready img'
user-ready img img' d u eu hu have q l =
    let v : Vol = vol img in
    ready-next img img' d _ q (user-placed (lowest-stock d.sound (omega (arith, d.whole.least))) (omega (arith, d.whole.most)) u hu have
    (λ z. omega (arith, eu, new-first (pages img) v d.sound.r2 z))).placed.sound l

pub create-user-is : (P : ℕ) (v : Vol) (u : ℕ) (name : List ℕ) → u ≡ new_user v → (w₁ w : Vol) (q : ℕ) → w₁ ≡ user_place (lowest_free P) P v u → q ≡ user_page w₁ u
    → w ≡ put_entry w₁ q u (user_entry u name) → w ≡ create_user (lowest_free P) P v name
unfolding create_user
create-user-is P v u name eu w₁ w q a b c =
    let made : ℕ → Vol = λ z. put_entry (user_place (lowest_free P) P v z) (user_page (user_place (lowest_free P) P v z) z) z (user_entry z name) in
    c ∙ ap (λ (p : ℕ). put_entry w₁ p u (user_entry u name)) b ∙ ap (λ (x : Vol). put_entry x (user_page x u) u (user_entry u name)) a ∙ ap made eu

-- ---- a file at entry e

module _ {img : List ℕ} {u f e : ℕ} (d : Ready img) (hu : u < 256) (hf : f < 256) (owner : 0 < used (user (vol img) u)) (is : e ≡ file_entry u f) where
  abbrev P : ℕ
  P = pages img

  abbrev v : Vol
  v = vol img

  pub entry-reached : Reached (pages img) (vol img) e
  entry-reached = subst (Reached P v) (sym is) (used-reached P v d.sound u f hu hf owner)

  module _ (have : file_need (vol img) (file_entry u f) ≤ unreserved (vol img)) where
    pub entry-room : file_need (vol img) e ≤ unreserved (vol img)
    entry-room = subst (λ (x : ℕ). file_need v x ≤ unreserved v) (sym is) have

    placed : FilePlaced P v (file_place (lowest_free P) P v e) e
    placed = file-placed (lowest-stock d.sound (omega (arith, d.whole.least))) entry-reached entry-room

    -- ready again after its place is made
    pub file-ready : (img' : List ℕ) → vol img' ≡ file_place (lowest_free (pages img)) (pages img) (vol img) e → length img' ≡ length img → Ready img'
    file-ready img' q l = ready-next img img' d _ q placed.placed.sound l

    -- the owner's used pages stay, and n more are few
    pub used-room : (n : ℕ) → n ≤ spare (vol img) u → (w : Vol) → w ≡ file_place (lowest_free (pages img)) (pages img) (vol img) e → used_pages (user w) u + n ≤ most_pages
    unfolding spare Rule4Over
    used-room n le w q = omega (
      arith,
      le,
      (d.sound.r4.0 u hu owner).within,
      given-room P v d.sound.r10 u hu owner,
      d.whole.most,
      ap (λ (x : Vol). used_pages (user x) u) q ∙ ap (λ (U : Table). used_pages U u) placed.placed.taking.users,
    )

-- a run that was found lies below P
pub run_inside : (P : ℕ) (w : Vol) (n s : ℕ) → s ≡ highest_run P w n → 0 < s → s + n ≤ P
unfolding FreeRun
run_inside P w n s e h = omega (arith, e, (run-found P w n (omega (arith, e, h))).0)

module _ (P : ℕ) (v : Vol) (u f e : ℕ) (name type : List ℕ) (created : ℕ) (new : f ≡ new_file v u) (is : e ≡ file_entry u f) where
  at : e ≡ file_entry u (new_file v u)
  at = is ∙ ap (file_entry u) new

  abbrev place : ℕ → Vol
  place z = file_place (lowest_free P) P v z

  pub create-indexed-is : (w₁ w : Vol) (q : ℕ) → w₁ ≡ file_place (lowest_free P) P v e → q ≡ object_page w₁ e
      → w ≡ put_entry w₁ q e (object_entry u e name type created 0 0) → w ≡ create_indexed (lowest_free P) P v u name type created
  unfolding create_indexed
  create-indexed-is w₁ w q a b c =
      let made : ℕ → Vol = λ z. put_entry (place z) (object_page (place z) z) z (object_entry u z name type created 0 0) in
      c ∙ ap (λ (p : ℕ). put_entry w₁ p e (object_entry u e name type created 0 0)) b
      ∙ ap (λ (x : Vol). put_entry x (object_page x e) e (object_entry u e name type created 0 0)) a ∙ ap made at

  pub create-contiguous-is : (n s : ℕ) → s ≡ highest_run P (file_place (lowest_free P) P v (file_entry u f)) n → (w₁ x y w : Vol) (q o k t : ℕ) → w₁ ≡ file_place (lowest_free P) P v e
      → q ≡ object_page w₁ e → o ≡ user_page w₁ u → k ≡ entry_word u → t ≡ used_pages (user w₁) u → x ≡ claim_run P w₁ s n
      → y ≡ put_entry x q e (object_entry u e name type created n s) → w ≡ put2 y o (k + 16) (t + n) → w ≡ create_contiguous (lowest_free P) P v u name type created n
  unfolding create_contiguous
  create-contiguous-is n s es w₁ x y w q o k t a b eo ek et ex ey ew =
      let run : ℕ → Vol = λ z. claim_run P (place z) (highest_run P (place z) n) n in
      let entered : ℕ → Vol = λ z. put_entry (run z) (object_page (place z) z) z (object_entry u z name type created n (highest_run P (place z) n)) in
      let made : ℕ → Vol = λ z. put2 (entered z) (user_page (place z) u) (entry_word u + 16) (used_pages (user (place z)) u + n) in
      let found : s ≡ highest_run P (place e) n = es ∙ ap (λ (z : ℕ). highest_run P (place z) n) (sym is) in
      let hx : x ≡ run e = ex ∙ ap₂ (λ (i : Vol) (j : ℕ). claim_run P i j n) a found in
      let hy : y ≡ entered e =
      ey ∙ ap₂ (λ (i : Vol) (p : ℕ). put_entry i p e (object_entry u e name type created n s)) hx (b ∙ ap (λ (i : Vol). object_page i e) a)
      ∙ ap (λ (j : ℕ). put_entry (run e) (object_page (place e) e) e (object_entry u e name type created n j)) found in
      ew ∙ ap₂ (λ (i j : ℕ). put2 y i (j + 16) (t + n)) (eo ∙ ap (λ (i : Vol). user_page i u) a) ek
      ∙ ap₂ (λ (i : Vol) (j : ℕ). put2 i (user_page (place e) u) (entry_word u + 16) (j + n)) hy (et ∙ ap (λ (i : Vol). used_pages (user i) u) a) ∙ ap made at
