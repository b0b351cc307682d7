-- One pointer of a block. Assumes nothing.
use mathlib.Core.Path.{◌≡◌, sym, subst, subst₂}
use Prim.Native.Nat.{ℕ, ◌*◌, ◌<◌}
use Rattle.book.specs.Words.{Vol}
use Rattle.book.specs.Pointers.{slot}
use Rattle.book.specs.declared.Place.{Place}
use Rattle.book.specs.Spots.{Spots, spot, at, AllHold, First}
use Rattle.book.specs.Places.{Filled, pointers}
use Rattle.std.proofs.Common.{Option}
use Rattle.places.specs.Found.{Finds}

-- the row of slot s
abbrev pub slot_row : ℕ → Vol → ℕ → ℕ → ℕ → ℕ → Spots
slot_row P v b least m s = spot (at b (2 * s)) (Filled P least m s (slot v b s))

module _ (P T : ℕ) (e : T ≡ P) (v : Vol) (b least m s x : ℕ) (i : x ≡ slot v b s) where
  pub slot-right : Filled T least m s x → AllHold (slot_row P v b least m s)
  unfolding AllHold
  slot-right f = subst (λ (y : ℕ). Filled P least m s y) i (subst (λ (y : ℕ). Filled y least m s x) e f)

  pub slot-wrong : (q : Place) → q ≡ at b (2 * s) → (Filled T least m s x → ⊥) → First (slot_row P v b least m s) q
  unfolding First
  slot-wrong q r n = (r, λ f. n (subst (λ (y : ℕ). Filled y least m s x) (sym e) (subst (λ (y : ℕ). Filled P least m s y) (sym i) f)))

-- ---- all pointers of a block, as code has read where it is and how many are allowed

pub pointers-found : (P : ℕ) (v : Vol) (least b c k m : ℕ) (r : Option Place) → b ≡ c → k ≡ m → Finds (pointers v b (Filled P least k)) r → Finds (pointers v c (Filled P least m)) r
pointers-found P v least b c k m r e f d = subst₂ (λ (x y : ℕ). Finds (pointers v x (Filled P least y)) r) e f d

pub pointers-below : (P : ℕ) (v : Vol) (least t m : ℕ) → AllHold (pointers v t (Filled P least m)) → (i : ℕ) → i < 512 → slot v t i < P
unfolding AllHold pointers
pointers-below P v least t m a i h = (a i h).0
