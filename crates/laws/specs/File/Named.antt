-- Names and types of entries whose words stay, and of a sound volume's used entries. Assumes nothing.
use Rattle.std.specs.Prelude.{◌≡◌, Bool, ℕ, ◌+◌, ◌/◌, ◌%◌, ◌<◌}
use Rattle.std.proofs.Common.{sym, ap, ◌∙◌}
use Rattle.std.proofs.Math.Path.{subst}
use native.Mathlib.Omega.{arith}
use Rattle.book.specs.Entries.{user, object, used, file_entry}
use Rattle.book.specs.Names.{Text, Reading, stored, NameOver, TypeOver, SameName, SameFile}
use Rattle.book.specs.Rules.{Rule4Over, Rule6Over, SoundOver}
use Rattle.book.specs.Words.{Words, Vol}
use Rattle.laws.specs.File.Stored.{stored-words}

pub Legal-ext : (w x : Words) (k m n : ℕ) → ((i : ℕ) → i < n → w (k + i / 2) ≡ x (k + i / 2)) → Text m n (stored n x k) → Text m n (stored n w k)
Legal-ext w x k m n h = subst (Text m n) (sym (stored-words n w x k k h))

-- words 1 to 8 are the name
pub SameName-ext : (w x w' x' : Words) → ((i : ℕ) → i < 8 → w' (1 + i) ≡ w (1 + i)) → ((i : ℕ) → i < 8 → x' (1 + i) ≡ x (1 + i)) → SameName w' x' → SameName w x
SameName-ext w x w' x' a b s =
    sym (stored-words 16 w' w 1 1 (λ i h. a (i / 2) (omega arith))) ∙ s ∙ stored-words 16 x' x 1 1 (λ i h. b (i / 2) (omega arith))

-- words 1 to 10 are name and type
pub SameFile-ext : (w x w' x' : Words) → ((i : ℕ) → i < 10 → w' (1 + i) ≡ w (1 + i)) → ((i : ℕ) → i < 10 → x' (1 + i) ≡ x (1 + i)) → SameFile w' x' → SameFile w x
SameFile-ext w x w' x' a b s = (
  SameName-ext w x w' x' (λ i h. a i (omega arith)) (λ i h. b i (omega arith)) s.0,
  sym (type w' w a) ∙ s.1 ∙ type x' x b,
)
  where
    type : (y z : Words) → ((i : ℕ) → i < 10 → y (1 + i) ≡ z (1 + i)) → stored 4 y 9 ≡ stored 4 z 9
    type y z c = stored-words 4 y z 9 9 (λ i h. let e : 9 + i / 2 ≡ 1 + (8 + i / 2) = omega arith in ap y e ∙ c (8 + i / 2) (omega arith) ∙ sym (ap z e))

pub SameFile-sym : (w x : Words) → SameFile w x → SameFile x w
SameFile-sym w x s = (sym s.0, sym s.1)

-- ---- on a sound volume, in whichever way its names are read

module _ {read : Reading} {ten : Bool} (P : ℕ) (v : Vol) (S : SoundOver read ten P v) where
  pub user-legal : (u : ℕ) → u < 256 → 0 < used (user v u) → NameOver read (user v u) 1
  unfolding Rule4Over
  user-legal u h i = (S.r4.0 u h i).name

  pub object-legal : (e : ℕ) → e < 65536 → 0 < used (object v e) → NameOver read (object v e) 1 × TypeOver read (object v e) 9
  unfolding Rule6Over
  object-legal e h i =
      let n : file_entry (e / 256) (e % 256) ≡ e = omega arith in
      let o = S.r6.0 (e / 256) (e % 256) (omega arith) (omega arith) (subst (λ (x : ℕ). 0 < used (object v x)) (sym n) i) in
      subst (λ (x : ℕ). NameOver read (object v x) 1 × TypeOver read (object v x) 9) n (o.name, o.type)
