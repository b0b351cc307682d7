-- A new file's entry is written, with its owner's used count: one law for an empty file and for a run in hand. Assumes nothing.
use Rattle.std.specs.Prelude.{◌≡◌, ◌≢◌, ◌⊎◌, List, ℕ, suc, ◌+◌, ◌-◌, ◌*◌, ◌/◌, ◌≤◌, ◌<◌}
use Rattle.std.proofs.Common.{sym, ◌∙◌, subst₂, inl, inr, arith}
use Rattle.std.proofs.Math.Path.{ap, ap₂, subst}
use Rattle.sums.specs.Search.{pick, lowest-is}
use Rattle.sums.specs.Sum.{sum, sum-zero}
use Rattle.book.specs.Calls.{IsFile}
use Rattle.book.specs.Create.{object_entry}
use Rattle.book.specs.Entries.{user, object, used, given, used_pages, grant, file_entry, new_file}
use Rattle.book.specs.Files.{file_at, Shape, FileShape, Empty, Contiguous, page_bytes}
use Rattle.book.specs.Holders.{hit, some}
use Rattle.book.specs.Names.{Text, NameText, TypeText, Named, Typed}
use Rattle.book.specs.Pointers.{flags, page, unreserved_count}
use Rattle.book.specs.Rules.{UserOk, Rule4Over, Rule10}
use Rattle.book.specs.Trees.{Root, run, weigh_r}
use Rattle.book.specs.Words.{Vol, two}
use Rattle.laws.specs.Count.Good.{Good}
use Rattle.laws.specs.Count.Pages.{run-count}
use Rattle.laws.specs.Count.Reach.{high-unused}
use Rattle.laws.specs.Create.NewEntry.{new-used, file-named, file-typed, file-whose, file-number, file-pages, file-bytes, file-flags, file-page}
use Rattle.laws.specs.File.Named.{Legal-ext, SameName-ext}
use Rattle.laws.specs.File.Stored.{stored-words}
use Rattle.laws.specs.Frame.Edit.{Change, entries, objs-words, edit-mine, edit-good, Seat}
use Rattle.laws.specs.Frame.Renewed.{FileNew, used-same}
use Rattle.laws.specs.Tree.Pointer.{file-unused, root-0, file-used, used-ext, flags-ext, page-ext}
use Rattle.laws.specs.Tree.Slot.{two-ext}

-- the lowest unused file of user u
pub new-file-unused : (v : Vol) (u : ℕ) → new_file v u < 256 → used (object v (file_entry u (new_file v u))) ≡ 0
unfolding new_file
new-file-unused v u h = omega (arith, (lowest-is (λ f. 1 - used (object v (file_entry u f))) 256).there h)

-- the file is there, and no page is in hand
pub record Entered (P : ℕ) (v' : Vol) (e s n : ℕ) : Type 0 where
  pub good : Good P v' (λ p. 0)
  pub root : file_at v' e ≡ run s n

module _ {P : ℕ} {x : Vol} {hand : ℕ → ℕ} {u f : ℕ} (seat : Seat P x hand u f) (uu : 0 < used (user x u)) (uf : used (object x (file_entry u f)) ≡ 0)
    (name type : List ℕ) (created n s : ℕ) (N : NameText name) (T : TypeText type) (fresh : (h : ℕ) → IsFile x u name type h → ⊥)
    (small : s < 1073741824) (form : Empty s n ⊎ Contiguous P s n) (hands : (p : ℕ) → p < P → hand p ≡ sum n (λ i. hit p (s + i)))
    {v' : Vol} (E : Change seat (λ x. 0) v') (master : (k : ℕ) → v' 0 k ≡ x 0 k)
    (words : (k : ℕ) → k < 32 → object v' (file_entry u f) k ≡ object_entry u (file_entry u f) name type created n s k)
    (kept : (k : ℕ) → k < 32 → k ≢ 16 → k ≢ 17 → user v' u k ≡ user x u k)
    (more : used_pages (user v') u ≡ used_pages (user x) u + n) (within : used_pages (user x) u + n ≤ given (user x) u) where
  abbrev e : ℕ
  e = file_entry u f

  -- ---- the file

  now-used : used (object v' e) ≡ 1
  now-used = used-ext (object v' e) (object_entry u e name type created n s) (words 0 (omega arith)) ∙ new-used u e name type created n s

  pages : two (object v' e) 26 ≡ n
  pages = two-ext (object v' e) (object_entry u e name type created n s) 26 (words 26 (omega arith)) (words 27 (omega arith)) ∙ file-pages u e name type created n s

  bytes : two (object v' e) 28 ≡ page_bytes * n
  bytes = two-ext (object v' e) (object_entry u e name type created n s) 28 (words 28 (omega arith)) (words 29 (omega arith)) ∙ file-bytes u e name type created n s

  plain : flags (object v' e) 30 ≡ 0
  plain = flags-ext (object v' e) (object_entry u e name type created n s) 30 (words 30 (omega arith)) ∙ file-flags u e name type created n s small

  start : page (object v' e) 30 ≡ s
  start = page-ext (object v' e) (object_entry u e name type created n s) 30 (words 30 (omega arith)) (words 31 (omega arith)) ∙ file-page u e name type created n s small

  -- its pages are the run
  new-root : file_at v' e ≡ run s n
  new-root = file-used v' e (omega (arith, now-used)) ∙ root-0 (object v' e) 30 (two (object v' e) 26) plain ∙ ap₂ run start pages

  weight : (g : ℕ → ℕ) → weigh_r v' (file_at v' e) g ≡ sum n (λ i. g (s + i))
  unfolding weigh_r
  weight g = ap (λ (r : Root). weigh_r v' r g) new-root

  none : (g : ℕ → ℕ) → weigh_r x (file_at x e) g ≡ 0
  unfolding weigh_r
  none g = ap (λ (r : Root). weigh_r x r g) (file-unused x e uf) ∙ sum-zero (λ i. g (0 + i))

  shape : FileShape P v' e
  unfolding FileShape Shape
  shape = (subst (λ (y : ℕ). Shape P v' y (page (object v' e) 30) (two (object v' e) 26)) (sym plain) (subst₂ (λ (y z : ℕ). Shape P v' 0 y z) (sym start) (sym pages) form), omega (arith, bytes, pages))

  -- it has n pages
  count : weigh_r v' (run s n) some ≡ n
  unfolding weigh_r
  count = go form
    where
      go : Empty s n ⊎ Contiguous P s n → sum n (λ i. some (s + i)) ≡ n
      go (inl h) = subst (λ (m : ℕ). sum m (λ i. some (s + i)) ≡ m) (sym h.0) (sum-zero (λ i. some (s + i)))
      go (inr h) = run-count v' s n h.1

  is-named : Named (object v' e) name
  is-named = file-named u e name type created n s N (object v' e) words

  is-typed : Typed (object v' e) type
  is-typed = file-typed u e name type created n s T (object v' e) words

  file-new : FileNew P v' u f
  file-new = record {
    ok = λ h. record {
      owner = omega (arith, uu, used-ext (user v' u) (user x u) (kept 0 (omega arith) (omega arith) (omega arith)));
      whose = words 16 (omega arith) ∙ file-whose u e name type created n s;
      number = words 17 (omega arith) ∙ file-number u e name type created n s;
      name = subst (Text 1 16) (sym is-named) N;
      type = subst (Text 0 4) (sym is-typed) T;
    };
    alone = λ h i m a b q.
        let old : (k : ℕ) → k < 32 → object v' (file_entry u h) k ≡ object x (file_entry u h) k = objs-words seat E (file_entry u h) (λ z. m (omega arith)) in
        fresh h (
          i,
          omega (arith, a, used-ext (object v' (file_entry u h)) (object x (file_entry u h)) (old 0 (omega arith))),
          stored-words 16 (object x (file_entry u h)) (object v' (file_entry u h)) 1 1 (λ k j. sym (old (1 + k / 2) (omega arith))) ∙ q.0 ∙ is-named,
          stored-words 4 (object x (file_entry u h)) (object v' (file_entry u h)) 9 9 (λ k j. sym (old (9 + k / 2) (omega arith))) ∙ q.1 ∙ is-typed,
        );
    shape = λ h. shape;
  }

  -- ---- the owner

  user-used : used (user v' u) ≡ used (user x u)
  user-used = used-ext (user v' u) (user x u) (kept 0 (omega arith) (omega arith) (omega arith))

  given-kept : given (user v') u ≡ given (user x) u
  unfolding given
  given-kept = two-ext (user v' u) (user x u) 14 (kept 14 (omega arith) (omega arith) (omega arith)) (kept 15 (omega arith) (omega arith) (omega arith))

  ok : UserOk (user x) u
  unfolding Rule4Over
  ok = seat.good.most.r4.0 u seat.ha uu

  new-good : Good P v' (λ p. 0)
  unfolding Rule4Over Rule10 grant
  new-good = edit-good seat E (λ g. 0) (λ g. sum n (λ i. g (s + i))) (λ p. 0) record {
    weight = λ g g0. omega (arith, weight g, none g);
    hands = λ p h. omega (arith, hands p h);
    user_new = record {
      ok = λ h. record {
        own = kept 18 (omega arith) (omega arith) (omega arith) ∙ ok.own;
        name = Legal-ext (user v' u) (user x u) 1 1 16 (λ i j. kept (1 + i / 2) (omega arith) (omega arith) (omega arith)) ok.name;
        within = omega (arith, more, given-kept, within);
      };
      alone = λ y h m i j q. m (seat.good.most.r4.1 y u h seat.ha (omega (arith, used-same P x v' u f seat.ha seat.hf (entries seat E) y h m)) uu
          (SameName-ext (user x y) (user x u) (user v' y) (user v' u) (λ k l. (entries seat E).users y h m (1 + k) (omega arith))
          (λ k l. kept (1 + k) (omega arith) (omega arith) (omega arith)) q));
    };
    file_new = file-new;
    owner = λ h i q. omega (arith, user-used, uu);
    high = λ q i. user-used ∙ high-unused P x seat.good.most.r5 q u i seat.ha;
    balance = omega (arith, two-ext (v' 0) (x 0) unreserved_count (master unreserved_count) (master (suc unreserved_count)), ap₂ (λ (y z : ℕ). pick y z 0) user-used given-kept);
    count = λ h. omega (arith, more, none some, ap (λ (r : Root). weigh_r v' r some) new-root, count, seat.good.most.r10.0 u seat.ha uu, edit-mine seat E some);
  }

  pub new-file : Entered P v' e s n
  new-file = record { good = new-good; root = new-root }
