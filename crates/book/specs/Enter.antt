-- How a call goes in. Its outer half asks numbers 1 to 3 and hands over; its open half sees a ready image and right arguments. Assumes nothing.
use Rattle.std.specs.Prelude.{◌≡◌, refl, Bool, true, false, not, List, ℕ, Result, Ok, Err}
use Rattle.std.proofs.Common.{subst, arith}
use Rattle.book.specs.Decides.{Decides}
use Rattle.book.specs.Image.{Ready}
use Rattle.book.specs.Gate.{Shuts, Gated}
use Rattle.book.specs.declared.Refusal.{Refusal}
use Rattle.book.specs.declared.Refusal.TheVariants.{Size, Argument, Unsound, Missing, Taken, Kind, HasFiles, Full, Allowance, Unreserved, NoRun, Fill, Overdrawn, ShortList}

-- what an open half may assume
pub record Fit (img : List ℕ) (args : Type 0) : Type 0 where
  pub ready : Ready img
  pub right : args

-- the image is known to be whole and sound, or nothing is known of it
abbrev pub Known : Bool → List ℕ → Type 0
Known true img = Ready img
Known false img = Unit {0}

-- the gate as a call sees it: shut by 1, 2 or 3, or open; a record, so that laws find the image and the arguments by themselves
abbrev pub Enters : List ℕ → Type 0 → Result ℕ Refusal → Type 0
Enters img args (Err w) = Shuts img args w
Enters img args (Ok n) = Fit img args

pub record Entered (img : List ℕ) (args : Type 0) (g : Result ℕ Refusal) : Type 0 where
  pub enters : Enters img args g

-- ---- laws

pub ready-known : (known : Bool) (img : List ℕ) → Known known img → not known ≡ false → Ready img
ready-known true img h e = h
ready-known false img h e = let z : ◌≡◌ {A = ℕ} 0 1 = cc in absurd (omega arith)

-- a flag that is false is not true
pub not_right : (ok : Bool) → ok ≡ false → ok ≡ true → ⊥
not_right ok e q = let z : ◌≡◌ {A = ℕ} 0 1 = cc in omega arith

-- the gate of the check, whose open door also counts the visits
pub gated : (img : List ℕ) (ok : Bool) (g : Result ℕ Refusal) → Gated img ok g → Entered img (ok ≡ true) g
gated img ok (Err w) h = record { enters = h }
gated img ok (Ok n) h = record { enters = record { ready = h.0; right = h.1 } }

-- a flag that decides the arguments stands for them
module _ (img : List ℕ) (args : Type 0) (ok : Bool) (d : Decides ok args) where
  right : ok ≡ true → args
  right e = subst (λ (b : Bool). Decides b args) e d

  flag : (ok : Bool) → Decides ok args → args → ok ≡ true
  flag true d a = refl
  flag false d a = absurd (d a)

  pub entered : (g : Result ℕ Refusal) → Entered img (ok ≡ true) g → Entered img args g
  entered g h = record { enters = go g h.enters }
    where
      go : (g : Result ℕ Refusal) → Enters img (ok ≡ true) g → Enters img args g
      go (Ok n) k = record { ready = k.ready; right = right k.right }
      go (Err Size) k = k
      go (Err Argument) k = (k.0, λ a. k.1 (flag ok d a))
      go (Err (Unsound r)) k = (k.0, right k.1, k.2)
      go (Err Missing) k = absurd k
      go (Err Taken) k = absurd k
      go (Err Kind) k = absurd k
      go (Err HasFiles) k = absurd k
      go (Err Full) k = absurd k
      go (Err Allowance) k = absurd k
      go (Err Unreserved) k = absurd k
      go (Err NoRun) k = absurd k
      go (Err Fill) k = absurd k
      go (Err Overdrawn) k = absurd k
      go (Err ShortList) k = absurd k

-- open: what the open half asks for
pub fit : {img : List ℕ} {args : Type 0} {g : Result ℕ Refusal} {n : ℕ} → Entered img args g → g ≡ Ok n → Fit img args
fit {img} {args} {g} h e = subst (λ (x : Result ℕ Refusal). Enters img args x) e h.enters
