-- Two ways of reading names that give the same for a volume's own names: what is sound by the one is sound by the other. Assumes nothing.
use Rattle.std.specs.Prelude.{◌≡◌, Bool, ℕ, ◌<◌}
use Rattle.std.proofs.Math.Path.{sym, subst}
use Rattle.std.proofs.Common.{◌∙◌}
use native.Mathlib.Omega.{arith}
use Rattle.book.specs.Entries.{user, object, used, file_entry}
use Rattle.book.specs.Names.{Reading, Text}
use Rattle.book.specs.Pointers.{volume_name}
use Rattle.book.specs.Rules.{Rule4Over, Rule6Over, SoundOver}
use Rattle.book.specs.Words.{Vol}

-- the volume's name, and the names and types of used entries, are read alike
pub record Alike (read read' : Reading) (v : Vol) : Type 0 where
  pub volume : read' 16 (v 0) volume_name ≡ read 16 (v 0) volume_name
  pub users : (u : ℕ) → u < 256 → 0 < used (user v u) → read' 16 (user v u) 1 ≡ read 16 (user v u) 1
  pub names : (e : ℕ) → e < 65536 → 0 < used (object v e) → read' 16 (object v e) 1 ≡ read 16 (object v e) 1
  pub types : (e : ℕ) → e < 65536 → 0 < used (object v e) → read' 4 (object v e) 9 ≡ read 4 (object v e) 9

module _ {read read' : Reading} {ten : Bool} (P : ℕ) (v : Vol) (A : Alike read read' v) (S : SoundOver read ten P v) where
  four : Rule4Over read' ten (user v)
  unfolding Rule4Over
  four = (
    (λ u h i. let o = S.r4.0 u h i in record { own = o.own; name = subst (Text 1 16) (sym (A.users u h i)) o.name; within = o.within }),
    λ a b h i j l s. S.r4.1 a b h i j l (sym (A.users a h j) ∙ s ∙ A.users b i l),
  )

  six : Rule6Over read' (user v) (object v)
  unfolding Rule6Over
  six = (
    (λ u f h i j. let o = S.r6.0 u f h i j in let e : file_entry u f < 65536 = omega arith in record {
      owner = o.owner;
      whose = o.whose;
      number = o.number;
      name = subst (Text 1 16) (sym (A.names (file_entry u f) e j)) o.name;
      type = subst (Text 0 4) (sym (A.types (file_entry u f) e j)) o.type;
    }),
    λ u a b g h i j l s. let x : file_entry u a < 65536 = omega arith in let y : file_entry u b < 65536 = omega arith in
        S.r6.1 u a b g h i j l (
          sym (A.names (file_entry u a) x j) ∙ s.0 ∙ A.names (file_entry u b) y l,
          sym (A.types (file_entry u a) x j) ∙ s.1 ∙ A.types (file_entry u b) y l,
        ),
  )

  pub sound-alike : SoundOver read' ten P v
  sound-alike = record {
    r1 = let r = S.r1 in record { name = subst (Text 1 16) (sym A.volume) r.name; unflagged = r.unflagged; start = r.start; fits = r.fits };
    r2 = S.r2;
    r3 = S.r3;
    r4 = four;
    r5 = S.r5;
    r6 = six;
    r7 = S.r7;
    r8 = S.r8;
    r9 = S.r9;
    r10 = S.r10;
  }
