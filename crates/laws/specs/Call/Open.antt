-- Note an open: the image stays sound, and word 19 of the file's entry alone differs. Assumes nothing.
use Rattle.std.specs.Prelude.{◌≡◌, ◌≢◌, List, ℕ, ◌+◌, ◌/◌, ◌<◌}
use Rattle.std.proofs.Math.Path.{refl, sym, ap, subst, fun_ext}
use Rattle.std.proofs.Common.{◌∙◌, arith}
use Rattle.std.proofs.Math.Decide.{ℕ_discrete}
use Rattle.book.specs.Answers.{Numbers}
use Rattle.book.specs.Calls.{open_call}
use Rattle.book.specs.Entries.{Table, entry, user_file, object_file, user, object, used, object_page, entry_word, file_entry}
use Rattle.book.specs.Files.{file_at}
use Rattle.book.specs.Holders.{hit}
use Rattle.book.specs.Image.{pages}
use Rattle.book.specs.Outcome.{Outcome}
use Rattle.book.specs.Pointers.{volume_name}
use Rattle.book.specs.Rows.{Clear}
use Rattle.book.specs.Rules.{Sound}
use Rattle.book.specs.Steps.{open_step}
use Rattle.book.specs.Trees.{Root, page_at}
use Rattle.book.specs.Words.{Vol, vol}
use Rattle.book.specs.Written.{word-pos}
use Rattle.laws.specs.Call.After.{Stepped, Called, called}
use Rattle.laws.specs.File.Stored.{stored-words}
use Rattle.laws.specs.Frame.EntryFile.{EntryFile, object-entries, entry-agrees, master-same, roots-same, entry-own, entries-else, other_entries}
use Rattle.laws.specs.Frame.Places.{Places, EntryOf, FieldOf, OnlyAt, only-put, only_wider}
use Rattle.laws.specs.Frame.Quiet.{Stays, user-stays, object-stays, quiet-address, quiet-sound}
use Rattle.laws.specs.Frame.Roots.{used-page, Roots, users-root, objs-root}

-- word 19 of object entry e
abbrev pub OpensWord : Vol → ℕ → Places
OpensWord v e = FieldOf (object_page v e) e 19 1

-- what stands beside it is as it was
record BesideOpens (v v' : Vol) (e : ℕ) : Type 0 where
  users : user v' ≡ user v
  objects : (x k : ℕ) → k < 32 → (x ≡ e → k ≢ 19) → object v' x k ≡ object v x k
  addresses : (x : ℕ) → x < 65536 → (m : ℕ) → page_at v' (file_at v' x) m ≡ page_at v (file_at v x) m

opened-only : (v : Vol) (e : ℕ) → OnlyAt (OpensWord v e) v (open_step v e)
unfolding open_step
opened-only v e = only-put v (object_page v e) (entry_word e + 19) _

module _ (P : ℕ) (v : Vol) (S : Sound P v) (pos : 0 < P) (e : ℕ) (ue : 0 < used (object v e)) (v' : Vol) (only : OnlyAt (OpensWord v e) v v') where
  abbrev O : ℕ
  O = page_at v (object_file v) (e / 32)

  F : EntryFile P v (object_file v) (user_file v)
  F = object-entries P v S pos

  is_o : 0 < O
  unfolding object
  is_o = used-page v (object_file v) e ue

  else : (p k : ℕ) → (p ≡ O → k ≢ entry_word e + 19) → v' p k ≡ v p k
  unfolding object_page
  else p k h = only p k (λ a. let r : ⊥ = h a.0 (omega (arith, a.1, a.2)) in r)

  within : OnlyAt (EntryOf O e) v v'
  unfolding object_page
  within = only_wider (OpensWord v e) (EntryOf O e) v v' (λ p k a. (a.0, omega (arith, a.1), omega (arith, a.2))) only

  roots : Roots v v'
  roots = roots-same F e is_o v' within

  objects : (x k : ℕ) → k < 32 → (x ≡ e → k ≢ 19) → object v' x k ≡ object v x k
  unfolding object entry
  objects x k h n = ap (λ (r : Root). entry v' r x k) (objs-root v v' roots) ∙ elim (ℕ_discrete x e) [
    | no d ↦ entries-else F e is_o v' within x d k h
    | yes i ↦ subst (λ (y : ℕ). entry v' (object_file v) y k ≡ object v y k) (sym i)
        (entry-own F e is_o v' within k ∙ else O (entry_word e + k) (λ j m. n i (omega arith)) ∙ sym (word-pos v O (entry_word e + k) is_o))
  ]

  users : user v' ≡ user v
  unfolding user
  users = fun_ext (λ u. fun_ext (λ k. ap (λ (r : Root). entry v' r u k) (users-root v v' roots) ∙ other_entries F e is_o v' within u k))

  stays : Stays v v' (hit O)
  stays = record {
    pages = entry-agrees F e is_o v' within;
    name = stored-words 16 (v' 0) (v 0) volume_name volume_name (λ i h. master-same F e is_o v' within (volume_name + i / 2));
    master = λ k h. master-same F e is_o v' within k;
    users = λ u. user-stays _ _ (λ k h. ap (λ (U : Table). U u k) users);
    objects = λ x. object-stays _ _ (λ k h n. objects x k h (λ i. n));
  }

  opened-step : Stepped P (λ w. BesideOpens v w e) v'
  opened-step = record {
    sound = quiet-sound P v v' (hit O) (F.quiet (e / 32)) stays S;
    leaves = record { users = users; objects = objects; addresses = quiet-address P v v' (hit O) (F.quiet (e / 32)) stays };
  }

module _ (img : List ℕ) (u f : ℕ) (r : Numbers ℕ) (img' : List ℕ) (o : Outcome (open_call img u f) img r img') where
  note : Called img (OpensWord (vol img) (file_entry u f)) (λ w. BesideOpens (vol img) w (file_entry u f)) img'
  unfolding open_call Clear
  note = called img _ _ _ _ _ (opened-only (vol img) (file_entry u f)) (record { users = refl; objects = λ x k h n. refl; addresses = λ x h m. refl })
      (λ W A S c. opened-step (pages img) (vol img) S (omega arith) (file_entry u f) c.0.1 _ (opened-only (vol img) (file_entry u f))) r img' o

  pub kept-open : Sound (pages img) (vol img) → Sound (pages img') (vol img')
  kept-open = note.kept

  pub frame-open : OnlyAt (OpensWord (vol img) (file_entry u f)) (vol img) (vol img')
  frame-open = note.frame

  pub users-open : (x : ℕ) → user (vol img') x ≡ user (vol img) x
  users-open x = ap (λ (U : Table). U x) note.leaves.users

  pub objects-open : (x k : ℕ) → k < 32 → (x ≡ file_entry u f → k ≢ 19) → object (vol img') x k ≡ object (vol img) x k
  objects-open = note.leaves.objects

  pub addresses-open : (x : ℕ) → x < 65536 → (m : ℕ) → page_at (vol img') (file_at (vol img') x) m ≡ page_at (vol img) (file_at (vol img) x) m
  addresses-open = note.leaves.addresses
