-- Only words of one used user's entry and the unreserved count change: give, take, delete a user. Assumes nothing.
use Rattle.std.specs.Prelude.{◌≡◌, refl, ◌≢◌, ◌⊎◌, ℕ, ◌+◌, ◌*◌, ◌/◌, ◌%◌, ◌≤◌, ◌<◌}
use Rattle.std.proofs.Common.{ap, ◌∙◌, arith}
use Rattle.std.proofs.Math.Logic.{inl, inr}
use Rattle.book.specs.Entries.{Table, user_file, object_file, user, object, used, used_pages, grant, user_page, entry_word, file_entry, unreserved}
use Rattle.book.specs.Files.{file_at}
use Rattle.book.specs.Holders.{hit, some, mine}
use Rattle.book.specs.Pointers.{flags, object_pointer, indexed, unreserved_count}
use Rattle.book.specs.Rules.{Sound}
use Rattle.book.specs.Trees.{page_at}
use Rattle.book.specs.Words.{Vol, word}
use Rattle.book.specs.Written.{word-pos, word-ext}
use Rattle.laws.specs.Count.Good.{Good, good, sound}
use Rattle.laws.specs.Frame.Edit.{user-page}
use Rattle.laws.specs.Frame.Fields.{Outside}
use Rattle.laws.specs.Frame.Places.{EntryOf, UnreservedWords, Either, OnlyAt, only-either}
use Rattle.laws.specs.Frame.Renewed.{UserNew}
use Rattle.laws.specs.Frame.Roots.{used-page, Roots, objs-root}
use Rattle.laws.specs.Frame.Still.{agree_at, objects-still, address-still, kept-words, blocks-nobody}
use Rattle.laws.specs.Tree.Slot.{Agree, hit-zero}
use Rattle.laws.specs.User.Only.{user-there, users-else, user-good}

-- what stands beside user u's entry is as it was: other users, all objects, the pages of their files
pub record BesideUser (v v' : Vol) (u : ℕ) : Type 0 where
  pub users : (x : ℕ) → x ≢ u → (k : ℕ) → k < 32 → user v' x k ≡ user v x k
  pub objects : object v' ≡ object v
  pub addresses : (e : ℕ) → e < 65536 → (m : ℕ) → page_at v' (file_at v' e) m ≡ page_at v (file_at v e) m
  pub root : object_file v' ≡ object_file v

pub beside_same : (v : Vol) (u : ℕ) → BesideUser v v u
beside_same v u = record { users = λ x n k h. refl; objects = refl; addresses = λ e h m. refl; root = refl }

module _ (P : ℕ) (v : Vol) (S : Sound P v) (pos : 0 < P) (u : ℕ) (hu : u < 256) (uu : 0 < used (user v u)) (v' : Vol)
    (only : OnlyAt (Either (EntryOf (user_page v u) u) UnreservedWords) v v') where
  abbrev U : ℕ
  U = user_page v u

  -- his entry has a page
  pub user-has-page : 0 < U
  unfolding user user_page
  user-has-page = used-page v (user_file v) u uu

  agree : Agree (hit (page_at v (user_file v) (u / 32))) v v'
  unfolding user_page
  agree = agree_at v v' (Either (EntryOf U u) UnreservedWords) U user-has-page (λ p k i c. elim c [ inl a ↦ a.0 | inr b ↦ absurd (let r : ⊥ = omega (arith, b.0) in r) ]) only

  master : (k : ℕ) → k < unreserved_count → v' 0 k ≡ v 0 k
  master k h = only-either (EntryOf U u) UnreservedWords v v' only 0 k (λ a. let i = user-has-page in let r : ⊥ = omega (arith, a.0) in r) (λ b. let r : ⊥ = omega (arith, b.1) in r)

  off : (k : ℕ) → Outside u k → word v' (page_at v (user_file v) (u / 32)) k ≡ word v (page_at v (user_file v) (u / 32)) k
  unfolding Outside user_page
  off k h = word-ext v v' U k (λ p. only-either (EntryOf U u) UnreservedWords v v' only U k (λ a. out a h) (λ b. let r : ⊥ = omega (arith, b.0) in r))
    where
      out : EntryOf U u U k → (k < 32 * (u % 32)) ⊎ (32 * (u % 32) + 32 ≤ k) → ⊥
      out a (inl i) = omega (arith, a.1)
      out a (inr i) = omega (arith, a.2)

  roots : Roots v v'
  unfolding Roots
  roots k i j = master k j

  G : Good P v (λ p. 0)
  G = good P v S

  -- his entry is where it was
  pub user-now : (k : ℕ) → user v' u k ≡ v' U (entry_word u + k)
  unfolding user_page
  user-now k = user-there P v (λ p. 0) G pos u hu v' agree master off k ∙ word-pos v' U (entry_word u + k) user-has-page

  objects : object v' ≡ object v
  objects = objects-still v v' roots (hit _) (hit-zero _) agree (user-page P v (λ p. 0) G pos (u / 32)).1

  pub user-beside : BesideUser v v' u
  user-beside = record {
    users = λ x n k h. users-else P v (λ p. 0) G pos u hu v' agree master off x n k h;
    objects = objects;
    addresses = λ e h. address-still v v' roots (hit _) (hit-zero _) agree e
        (kept-words (object v' e) (object v e) (λ k i n. ap (λ (O : Table). O e k) objects)) (blocks-nobody v _ (user-page P v (λ p. 0) G pos (u / 32)).3 e h);
    root = objs-root v v' roots;
  }

  -- so the volume stays sound, if his entry is in order and the pages balance
  module _ (new : UserNew v' u) (owner : (f : ℕ) → f < 256 → 0 < used (object v (file_entry u f)) → 0 < used (user v' u))
      (high : flags (v 0) object_pointer ≡ indexed → 63 < u → used (user v' u) ≡ 0)
      (balance : unreserved v' + grant (user v') u ≡ unreserved v + grant (user v) u)
      (count : 0 < used (user v' u) → used_pages (user v') u ≡ mine v u some) where
    pub user-sound : Sound P v'
    unfolding unreserved
    user-sound = sound P v' (λ p. 0) (user-good P v (λ p. 0) G pos u hu v' agree master off new owner high balance count) (λ p h. refl)
