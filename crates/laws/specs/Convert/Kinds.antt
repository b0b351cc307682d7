-- User entries and object entries can be made anew with another fill: both files keep a sound volume sound. Assumes nothing.
use Rattle.std.specs.Prelude.{◌≡◌, ◌≢◌, ℕ, ◌+◌, ◌/◌, ◌<◌}
use Rattle.std.proofs.Common.{sym, subst}
use Rattle.std.proofs.Math.Decide.{ℕ_discrete}
use Rattle.book.specs.Words.{Words, Vol}
use Rattle.book.specs.Names.{LegalName, LegalType, ends}
use Rattle.book.specs.Entries.{entry, put_entry, user_file, object_file, user, object, used}
use Rattle.book.specs.Holders.{hit}
use Rattle.book.specs.Pointers.{volume_name}
use Rattle.book.specs.Rules.{Sound}
use Rattle.book.specs.Trees.{Root, page_at}
use Rattle.book.specs.Convert.{refilled_user, refilled_object}
use Rattle.laws.specs.Convert.Pass.{SameAddresses, Making}
use Rattle.laws.specs.Convert.Refilled.{user-ext, user-keeps, user-says, object-ext, object-keeps, object-says}
use Rattle.laws.specs.File.Named.{user-legal, object-legal}
use Rattle.laws.specs.File.Stored.{stored-words}
use Rattle.laws.specs.Frame.EntryFile.{EntryFile, user-entries, object-entries, entry-agrees, master-same, roots-same, entries-else, other_entries, put_only, put-own}
use Rattle.laws.specs.Frame.Places.{EntryOf, OnlyAt}
use Rattle.laws.specs.Frame.Quiet.{Stays, UserStays, ObjectStays, user-stays, object-stays, user-then, object-then, quiet-sound, quiet-address}
use Rattle.laws.specs.Frame.Roots.{Roots, users-root, objs-root, used-page}

module _ (P : ℕ) (pos : 0 < P) (v : Vol) (S : Sound P v) (n : ℕ) where
  -- what is left to show of a file of entries whose entry n becomes E: that each user's entry and each object's says the same
  module _ {r other : Root} (F : EntryFile P v r other) (real : 0 < page_at v r (n / 32)) (E : Words) where
    abbrev q : ℕ
    q = page_at v r (n / 32)

    abbrev v' : Vol
    v' = put_entry v q n E

    only : OnlyAt (EntryOf q n) v v'
    only = put_only F n real E

    same : ((u : ℕ) → UserStays (user v' u) (user v u)) → ((e : ℕ) → ObjectStays (object v' e) (object v e)) → Sound P v' × SameAddresses v v'
    unfolding SameAddresses
    same users objects = (quiet-sound P v v' (hit q) (F.quiet (n / 32)) stays S, quiet-address P v v' (hit q) (F.quiet (n / 32)) stays)
      where
        stays : Stays v v' (hit q)
        stays = record {
          pages = entry-agrees F n real v' only;
          name = stored-words 16 (v' 0) (v 0) volume_name volume_name (λ i h. master-same F n real v' only (volume_name + i / 2));
          master = λ k h. master-same F n real v' only k;
          users = users;
          objects = objects;
        }

    -- the entries of both files, read from the volume afterwards
    roots : Roots v v'
    roots = roots-same F n real v' only

    changed : (k : ℕ) → k < 32 → entry v' r n k ≡ E k
    changed = put-own F n real E

    else : (m : ℕ) → m ≢ n → (k : ℕ) → k < 32 → entry v' r m k ≡ entry v r m k
    else = entries-else F n real v' only

    beside : (m k : ℕ) → entry v' other m k ≡ entry v other m k
    beside = other_entries F n real v' only

  user-sound : (c : ℕ) → 0 < ends c → n < 256 → 0 < used (user v n)
      → let v' : Vol = put_entry v (page_at v (user_file v) (n / 32)) n (refilled_user c (user v n)) in Sound P v' × SameAddresses v v'
  unfolding user object
  user-sound c mark h u = same F real E users objects
    where
      F : EntryFile P v (user_file v) (object_file v)
      F = user-entries P v S pos

      real : 0 < page_at v (user_file v) (n / 32)
      real = used-page v (user_file v) n u

      E : Words
      E = refilled_user c (user v n)

      w : Vol
      w = put_entry v (page_at v (user_file v) (n / 32)) n E

      users : (i : ℕ) → UserStays (user w i) (user v i)
      users i = subst (λ (r : Root). UserStays (entry w r i) (entry v (user_file v) i)) (sym (users-root v w (roots F real E))) (elim (ℕ_discrete i n) [
        | no d ↦ user-stays _ _ (else F real E i d)
        | yes e ↦ subst (λ (j : ℕ). UserStays (entry w (user_file v) j) (entry v (user_file v) j)) (sym e) (user-then _ E _ (user-stays _ _ (changed F real E)) (user-says c mark (user v n) (user-legal P v S n h u)))
      ])

      objects : (e : ℕ) → ObjectStays (object w e) (object v e)
      objects e = subst (λ (r : Root). ObjectStays (entry w r e) (entry v (object_file v) e)) (sym (objs-root v w (roots F real E))) (object-stays _ _ (λ k l d. beside F real E e k))

  object-sound : (c : ℕ) → 0 < ends c → n < 65536 → 0 < used (object v n)
      → let v' : Vol = put_entry v (page_at v (object_file v) (n / 32)) n (refilled_object c (object v n)) in Sound P v' × SameAddresses v v'
  unfolding user object
  object-sound c mark h u = same F real E users objects
    where
      F : EntryFile P v (object_file v) (user_file v)
      F = object-entries P v S pos

      real : 0 < page_at v (object_file v) (n / 32)
      real = used-page v (object_file v) n u

      E : Words
      E = refilled_object c (object v n)

      w : Vol
      w = put_entry v (page_at v (object_file v) (n / 32)) n E

      N : LegalName (object v n) 1 × LegalType (object v n) 9
      N = object-legal P v S n h u

      objects : (e : ℕ) → ObjectStays (object w e) (object v e)
      objects e = subst (λ (r : Root). ObjectStays (entry w r e) (entry v (object_file v) e)) (sym (objs-root v w (roots F real E))) (elim (ℕ_discrete e n) [
        | no d ↦ object-stays _ _ (λ k l i. else F real E e d k l)
        | yes s ↦ subst (λ (i : ℕ). ObjectStays (entry w (object_file v) i) (entry v (object_file v) i)) (sym s)
            (object-then _ E _ (object-stays _ _ (λ k l i. changed F real E k l)) (object-says c (object v n) mark N.0 N.1))
      ])

      users : (u : ℕ) → UserStays (user w u) (user v u)
      users u = subst (λ (r : Root). UserStays (entry w r u) (entry v (user_file v) u)) (sym (users-root v w (roots F real E))) (user-stays _ _ (λ k l. beside F real E u k))

module _ (P : ℕ) (pos : 0 < P) (c : ℕ) (mark : 0 < ends c) where
  pub user-making : Making P user_file object_file (refilled_user c) 256 8
  unfolding user
  user-making = record {
    ext = user-ext c;
    keeps = user-keeps c;
    entries = λ v S. user-entries P v S pos;
    root = users-root;
    root' = objs-root;
    sound = λ v S n h u. user-sound P pos v S n c mark h u;
  }

  pub object-making : Making P object_file user_file (refilled_object c) 65536 10
  unfolding object
  object-making = record {
    ext = object-ext c;
    keeps = object-keeps c;
    entries = λ v S. object-entries P v S pos;
    root = objs-root;
    root' = users-root;
    sound = λ v S n h u. object-sound P pos v S n c mark h u;
  }
