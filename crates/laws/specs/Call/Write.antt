-- Write a file's page: the image stays sound, and that page's words alone differ. Assumes nothing.
use Rattle.std.specs.Prelude.{◌≡◌, List, ℕ, ◌+◌, ◌/◌, ◌%◌, ◌≤◌, ◌<◌}
use Rattle.std.proofs.Math.Path.{refl}
use Rattle.std.proofs.Common.{sym, ap, subst, arith}
use Rattle.std.proofs.Math.Decide.{ℕ_discrete}
use Rattle.sums.specs.Sum.{sum}
use Rattle.book.specs.Answers.{Numbers}
use Rattle.book.specs.Bits.{bit_file}
use Rattle.book.specs.Calls.{position_rows, write_call}
use Rattle.book.specs.Entries.{Table, user_file, object_file, user, object, used, page_count, file_entry}
use Rattle.book.specs.Files.{file_at}
use Rattle.book.specs.Holders.{hit, mine}
use Rattle.book.specs.Image.{pages}
use Rattle.book.specs.Outcome.{Outcome}
use Rattle.book.specs.Pointers.{volume_name}
use Rattle.book.specs.Rows.{Clear}
use Rattle.book.specs.Rules.{Sound}
use Rattle.book.specs.Steps.{write_step}
use Rattle.book.specs.Trees.{weigh_r, blocks_r, page_at}
use Rattle.book.specs.Words.{Vol, vol}
use Rattle.book.specs.Written.{put_words-page}
use Rattle.laws.specs.Call.After.{Stepped, Called, called}
use Rattle.laws.specs.Count.Good.{good, most, bit_le, sound-within}
use Rattle.laws.specs.File.Kinds.{position-page}
use Rattle.laws.specs.File.Stored.{stored-words}
use Rattle.laws.specs.Frame.Edit.{file-le₂}
use Rattle.laws.specs.Frame.Places.{Places, PageOf, OnlyAt}
use Rattle.laws.specs.Frame.Quiet.{Quiet, Stays, user-stays, object-stays, quiet-address, quiet-sound}
use Rattle.laws.specs.Frame.Rest.{rest, all_rest, file-le}
use Rattle.laws.specs.Frame.Roots.{Roots, page_at-le, page_at-below, blocks_r-le}
use Rattle.laws.specs.Frame.Still.{agree_at, users-still, objects-still}
use Rattle.laws.specs.Tree.Slot.{Agree, hit_same, hit-zero}

-- the page at position n of object entry e's file
abbrev pub DataPage : Vol → ℕ → ℕ → Places
DataPage v e n = PageOf (page_at v (file_at v e) n)

-- all entries and all addresses are as they were
record BesideData (v v' : Vol) : Type 0 where
  users : user v' ≡ user v
  objects : object v' ≡ object v
  addresses : (x : ℕ) → x < 65536 → (m : ℕ) → page_at v' (file_at v' x) m ≡ page_at v (file_at v x) m

written-only : (v : Vol) (e n : ℕ) (d : List ℕ) → OnlyAt (DataPage v e n) v (write_step v e n d)
unfolding write_step
written-only v e n d p k a = put_words-page v (page_at v (file_at v e) n) 0 1024 _ p k a

module _ (P : ℕ) (v : Vol) (S : Sound P v) (pos : 0 < P) (a f : ℕ) (ha : a < 256) (hf : f < 256) (uf : 0 < used (object v (file_entry a f)))
    (n : ℕ) (hn : n < page_count (object v (file_entry a f))) where
  abbrev e : ℕ
  e = file_entry a f

  abbrev q : ℕ
  q = page_at v (file_at v e) n

  isq : 0 < q
  isq = position-page P v S e n (omega arith) uf hn

  -- the file holds its data page once, at the bottom; nothing else does
  least : blocks_r v (file_at v e) (hit q) + 1 ≤ weigh_r v (file_at v e) (hit q)
  least = omega (arith, page_at-le v (hit q) (hit-zero q) (file_at v e) n, hit_same q isq)

  most-one : weigh_r v (bit_file P v) (hit q) + (weigh_r v (user_file v) (hit q) + weigh_r v (object_file v) (hit q) + sum 256 (λ u. mine v u (hit q))) ≤ 1
  unfolding rest
  most-one =
      let h : q < P = page_at-below v P pos (file_at v e) ((sound-within P v (most P v S)).files a f ha hf) n in
      omega (arith, (good P v S).held q h, bit_le P v q, all_rest P v (hit q))

  file : weigh_r v (file_at v e) (hit q) ≤ sum 256 (λ u. mine v u (hit q))
  file = file-le v (hit q) a f ha hf

  pub no-users : weigh_r v (user_file v) (hit q) ≡ 0
  no-users = omega (arith, least, most-one, file)

  pub no-objects : weigh_r v (object_file v) (hit q) ≡ 0
  no-objects = omega (arith, least, most-one, file)

  no_blocks : (x : ℕ) → x < 65536 → blocks_r v (file_at v x) (hit q) ≡ 0
  no_blocks x h = elim (ℕ_discrete x e) [
    | yes i ↦ subst (λ (y : ℕ). blocks_r v (file_at v y) (hit q) ≡ 0) (sym i) (omega (arith, least, most-one, file))
    | no ne ↦
        let s : file_entry (x / 256) (x % 256) ≡ x = omega arith in
        subst (λ (y : ℕ). blocks_r v (file_at v y) (hit q) ≡ 0) s
        (omega (
          arith,
          least,
          most-one,
          blocks_r-le v (file_at v (file_entry (x / 256) (x % 256))) (hit q),
          file-le₂ v (hit q) (x / 256) (x % 256) a f (omega arith) (omega arith) ha hf (λ i. ne (omega arith)),
        ))
  ]

  quiet : Quiet P v (hit q)
  quiet = record {
    none = hit-zero q;
    bits = omega (arith, least, most-one, file);
    users = omega (arith, no-users, blocks_r-le v (user_file v) (hit q));
    objects = omega (arith, no-objects, blocks_r-le v (object_file v) (hit q));
    files = no_blocks;
  }

  module _ (v' : Vol) (only : OnlyAt (DataPage v e n) v v') where
    agree : Agree (hit q) v v'
    agree = agree_at v v' (DataPage v e n) q isq (λ p k i a. a) only

    master : (k : ℕ) → v' 0 k ≡ v 0 k
    master k = only 0 k (λ j. let i = isq in let r : ⊥ = omega arith in r)

    roots : Roots v v'
    unfolding Roots
    roots k i j = master k

    objects : object v' ≡ object v
    objects = objects-still v v' roots (hit q) (hit-zero q) agree no-objects

    users : user v' ≡ user v
    users = users-still v v' roots (hit q) (hit-zero q) agree no-users

    stays : Stays v v' (hit q)
    stays = record {
      pages = agree;
      name = stored-words 16 (v' 0) (v 0) volume_name volume_name (λ i h. master (volume_name + i / 2));
      master = λ k h. master k;
      users = λ u. user-stays _ _ (λ k h. ap (λ (U : Table). U u k) users);
      objects = λ x. object-stays _ _ (λ k h m. ap (λ (O : Table). O x k) objects);
    }

    written_step : Stepped P (λ w. BesideData v w) v'
    written_step = record {
      sound = quiet-sound P v v' (hit q) quiet stays S;
      leaves = record { users = users; objects = objects; addresses = quiet-address P v v' (hit q) quiet stays };
    }

module _ (img : List ℕ) (u f n : ℕ) (d : List ℕ) (r : Numbers ℕ) (img' : List ℕ) (o : Outcome (write_call img u f n d) img r img') where
  write : Called img (DataPage (vol img) (file_entry u f) n) (λ w. BesideData (vol img) w) img'
  unfolding write_call position_rows Clear
  write = called img _ _ _ _ _ (written-only (vol img) (file_entry u f) n d) (record { users = refl; objects = refl; addresses = λ x h m. refl })
      (λ W A S c. written_step (pages img) (vol img) S (omega arith) u f (omega (arith, A.0)) (omega (arith, A.1)) c.0.1 n c.0.2 _ (written-only (vol img) (file_entry u f) n d)) r img' o

  pub kept-write : Sound (pages img) (vol img) → Sound (pages img') (vol img')
  kept-write = write.kept

  pub frame-write : OnlyAt (DataPage (vol img) (file_entry u f) n) (vol img) (vol img')
  frame-write = write.frame

  pub users-write : (x : ℕ) → user (vol img') x ≡ user (vol img) x
  users-write x = ap (λ (U : Table). U x) write.leaves.users

  pub objects-write : (x : ℕ) → object (vol img') x ≡ object (vol img) x
  objects-write x = ap (λ (O : Table). O x) write.leaves.objects

  pub addresses-write : (x : ℕ) → x < 65536 → (m : ℕ) → page_at (vol img') (file_at (vol img') x) m ≡ page_at (vol img) (file_at (vol img) x) m
  addresses-write = write.leaves.addresses
