-- The places of one file, as code reads its entry. Assumes nothing.
use mathlib.Core.Path.{◌≡◌, sym, ap, ◌∙◌, subst, subst₂}
use mathlib.Core.Logic.{◌⊎◌, inl, inr}
use mathlib.Core.Bool.{Bool}
use mathlib.Core.List.{List}
use Prim.Native.Nat.{ℕ, zero, suc, ◌+◌, ◌≤◌, ◌<◌}
use native.Mathlib.Omega.{arith}
use Rattle.book.specs.Words.{Words, Vol, vol, two}
use Rattle.book.specs.Pointers.{flags, page, slot}
use Rattle.book.specs.Entries.{object, entry_word, page_count, file_pointer}
use Rattle.book.specs.Files.{Empty, Contiguous, BytesRight, bytes_of}
use Rattle.book.specs.Image.{pages}
use Rattle.book.specs.Decides.{Decides}
use Rattle.tree.specs.Reach.{entry_in}
use Rattle.tree.proofs.Entries.{object-in}
use Rattle.book.specs.declared.Place.{Place}
use Rattle.std.proofs.Common.{Option, None, Some}
use Rattle.book.specs.Spots.{Spots, spot, ◌then◌, at, AllHold, First}
use Rattle.book.specs.Places.{in_object, Must, pointers, PointerRight, block_spots, file_spots}
use Rattle.places.specs.Found.{Finds, ObjectAt}

-- ---- the pointer against the page count

module _ (P x t n : ℕ) (r : Bool) where
  with-flags : (y : ℕ) → x ≡ y → Decides r (PointerRight P y t n) → Decides r (PointerRight P x t n)
  with-flags y e d = subst (λ (z : ℕ). Decides r (PointerRight P z t n)) (sym e) d

  pub right-0 : x ≡ 0 → Decides r (Empty t n ⊎ Contiguous P t n) → Decides r (PointerRight P x t n)
  unfolding PointerRight
  right-0 e d = with-flags 0 e d

  pub right-1 : x ≡ 1 → Decides r ((1 ≤ n) × (n ≤ 512) × (0 < t) × (t < P)) → Decides r (PointerRight P x t n)
  unfolding PointerRight
  right-1 e d = with-flags 1 e d

  pub right-2 : x ≡ 2 → Decides r ((513 ≤ n) × (n ≤ 262144) × (0 < t) × (t < P)) → Decides r (PointerRight P x t n)
  unfolding PointerRight
  right-2 e d = with-flags 2 e d

pub right-wrong : (P x t n : ℕ) → 2 < x → PointerRight P x t n → ⊥
unfolding PointerRight
right-wrong P zero t n h s = omega arith
right-wrong P (suc zero) t n h s = omega arith
right-wrong P (suc (suc zero)) t n h s = omega arith
right-wrong P (suc (suc (suc x))) t n h s = s

-- ---- the blocks

pub block-found : (P : ℕ) (v : Vol) (b c m k : ℕ) (r : Option Place) → b ≡ c → k ≡ m → Finds (pointers v b (Must P k)) r → Finds (pointers v c (Must P m)) r
block-found P v b c m k r e f d = subst₂ (λ (x y : ℕ). Finds (pointers v x (Must P y)) r) e f d

pub slot-inside : (P : ℕ) (v : Vol) (t m : ℕ) → AllHold (pointers v t (Must P m)) → (i : ℕ) → i < 512 → slot v t i < P
unfolding AllHold pointers
slot-inside P v t m a i h = (a i h).0

pub then_found : (s t : Spots) (r : Option Place) → AllHold s → Finds t r → Finds (s then t) r
unfolding AllHold First
then_found s t None a d = (a, d)
then_found s t (Some q) a d = inr (a, d)

-- by the flags of a pointer that is right
module _ (P : ℕ) (v : Vol) (x t n : ℕ) (r : Option Place) where
  flagged : (y : ℕ) → x ≡ y → Finds (block_spots P v y t n) r → Finds (block_spots P v x t n) r
  flagged y e d = subst (λ (z : ℕ). Finds (block_spots P v z t n) r) (sym e) d

  pub blocks-1 : x ≡ 1 → Finds (pointers v t (Must P n)) r → Finds (block_spots P v x t n) r
  unfolding block_spots
  blocks-1 e d = flagged 1 e d

pub blocks-none : (P : ℕ) (v : Vol) (x t n : ℕ) → (x ≡ 1 → ⊥) → (x ≡ 2 → ⊥) → AllHold (block_spots P v x t n)
unfolding AllHold block_spots
blocks-none P v zero t n a b = tt
blocks-none P v (suc zero) t n a b = absurd (let z : ⊥ = omega arith in z)
blocks-none P v (suc (suc zero)) t n a b = absurd (let z : ⊥ = omega arith in z)
blocks-none P v (suc (suc (suc x))) t n a b = tt

pub inside-1 : (P x t n : ℕ) → PointerRight P x t n → x ≡ 1 → t < P
unfolding PointerRight
inside-1 P x t n d e = (subst (λ (z : ℕ). PointerRight P z t n) e d).3

pub inside-2 : (P x t n : ℕ) → PointerRight P x t n → x ≡ 2 → (t < P) × (n ≤ 262144)
unfolding PointerRight
inside-2 P x t n d e = let p = subst (λ (z : ℕ). PointerRight P z t n) e d in (p.3, p.1)

-- ---- the file of entry e on page q: flags x, page t, count n and bytes b as code has read them

module _ (img : List ℕ) (total q e : ℕ) (d : ObjectAt img total q e) (x t n b : ℕ) (ex : x ≡ flags (entry_in (vol img) q e) 30) (et : t ≡ page (entry_in (vol img) q e) 30) (en : n ≡ two (entry_in (vol img) q e) 26) (eb : b ≡ two (entry_in (vol img) q e) 28) where
  abbrev v : Vol
  v = vol img

  abbrev w : Words
  w = object v e

  abbrev S : Spots
  S = file_spots (pages img) v e (flags w file_pointer) (page w file_pointer) (page_count w)

  words : entry_in v q e ≡ w
  words = object-in v e q d.on

  here : (k : ℕ) (p : Place) → p ≡ at q (entry_word e + k) → p ≡ in_object v e k
  here k p i = i ∙ ap (λ (y : ℕ). at y (entry_word e + k)) d.on

  gx : x ≡ flags w 30
  gx = ex ∙ ap (λ (y : Words). flags y 30) words

  gt : t ≡ page w 30
  gt = et ∙ ap (λ (y : Words). page y 30) words

  gn : n ≡ two w 26
  gn = en ∙ ap (λ (y : Words). two y 26) words

  gb : b ≡ two w 28
  gb = eb ∙ ap (λ (y : Words). two y 28) words

  bytes-right : b ≡ bytes_of n → BytesRight w
  bytes-right i = sym gb ∙ i ∙ ap bytes_of gn

  pub bytes-wrong : (p : Place) → p ≡ at q (entry_word e + 28) → (b ≡ bytes_of n → ⊥) → First S p
  unfolding First file_spots
  bytes-wrong p i h = inl (here 28 p i, λ a. h (gb ∙ a ∙ ap bytes_of (sym gn)))

  pointer-there : PointerRight total x t n → PointerRight (pages img) (flags w 30) (page w 30) (two w 26)
  pointer-there r = subst (λ (m : ℕ). PointerRight (pages img) (flags w 30) (page w 30) m) gn (subst₂ (λ (y z : ℕ). PointerRight (pages img) y z n) gx gt (subst (λ (m : ℕ). PointerRight m x t n) d.count r))

  pointer_back : PointerRight (pages img) (flags w 30) (page w 30) (two w 26) → PointerRight total x t n
  pointer_back r = subst (λ (m : ℕ). PointerRight m x t n) (sym d.count) (subst₂ (λ (y z : ℕ). PointerRight (pages img) y z n) (sym gx) (sym gt) (subst (λ (m : ℕ). PointerRight (pages img) (flags w 30) (page w 30) m) (sym gn) r))

  pub pointer-wrong : b ≡ bytes_of n → (p : Place) → p ≡ at q (entry_word e + 30) → (PointerRight total x t n → ⊥) → First S p
  unfolding First AllHold file_spots
  pointer-wrong i p j h = inr (bytes-right i, inl (here 30 p j, λ a. h (pointer_back a)))

  pub file-found : b ≡ bytes_of n → PointerRight total x t n → (r : Option Place) → Finds (block_spots (pages img) v x t n) r → Finds S r
  unfolding AllHold file_spots
  file-found i k r f =
      let pointed = spot (in_object v e file_pointer) (PointerRight (pages img) (flags w 30) (page w 30) (two w 26)) in
      let blocks = block_spots (pages img) v (flags w 30) (page w 30) (two w 26) in
      then_found (spot (in_object v e 28) (BytesRight w)) (pointed then blocks) r (bytes-right i) (then_found pointed blocks r (pointer-there k)
      (subst (λ (m : ℕ). Finds (block_spots (pages img) v (flags w 30) (page w 30) m) r) gn (subst₂ (λ (y z : ℕ). Finds (block_spots (pages img) v y z n) r) gx gt f)))
