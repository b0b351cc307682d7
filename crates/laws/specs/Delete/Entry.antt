-- The entry of a file is cleared and its owner's count falls: all that the file held is then in hand. Assumes nothing.
use Rattle.std.specs.Prelude.{◌≡◌, ◌≢◌, ℕ, suc, ◌+◌, ◌*◌, ◌/◌, ◌<◌}
use Rattle.std.proofs.Math.Path.{ap, ap₂}
use Rattle.std.proofs.Common.{◌∙◌, subst, arith}
use Rattle.sums.specs.Search.{pick}
use Rattle.sums.specs.Sum.{sum-zero}
use Rattle.book.specs.Entries.{user, object, used, given, used_pages, grant}
use Rattle.book.specs.Files.{file_at}
use Rattle.book.specs.Holders.{hit, some}
use Rattle.book.specs.Pointers.{flags, page, object_pointer, unreserved_count}
use Rattle.book.specs.Rules.{UserOk, Rule4Over, Rule5, Rule5By, Rule6Over, Rule10}
use Rattle.book.specs.Trees.{Root, weigh_r}
use Rattle.book.specs.Words.{Vol}
use Rattle.laws.specs.Count.Good.{Good}
use Rattle.laws.specs.File.Named.{Legal-ext, SameName-ext}
use Rattle.laws.specs.Frame.Edit.{Change, entries, edit-mine, edit-good, Seat}
use Rattle.laws.specs.Frame.Renewed.{used-same}
use Rattle.laws.specs.Tree.Pointer.{file-unused, used-ext}
use Rattle.laws.specs.Tree.Slot.{two-ext}

module _ {P : ℕ} {v : Vol} {hand : ℕ → ℕ} {a f : ℕ} (seat : Seat P v hand a f) (uf : 0 < used (object v (256 * a + f)))
    {v' : Vol} (E : Change seat (λ x. 0) v') (gone : used (object v' (256 * a + f)) ≡ 0)
    (kept : (k : ℕ) → k < 32 → k ≢ 16 → k ≢ 17 → user v' a k ≡ user v a k) (master : (k : ℕ) → v' 0 k ≡ v 0 k)
    (less : used_pages (user v') a + weigh_r v (file_at v (256 * a + f)) some ≡ used_pages (user v) a) where
  abbrev e : ℕ
  e = 256 * a + f

  owner-used : 0 < used (user v a)
  unfolding Rule6Over
  owner-used = (seat.good.most.r6.0 a f seat.ha seat.hf uf).owner

  user-used : used (user v' a) ≡ used (user v a)
  user-used = used-ext (user v' a) (user v a) (kept 0 (omega arith) (omega arith) (omega arith))

  given-kept : given (user v') a ≡ given (user v) a
  unfolding given
  given-kept = two-ext (user v' a) (user v a) 14 (kept 14 (omega arith) (omega arith) (omega arith)) (kept 15 (omega arith) (omega arith) (omega arith))

  ok : UserOk (user v) a
  unfolding Rule4Over
  ok = seat.good.most.r4.0 a seat.ha owner-used

  none : (g : ℕ → ℕ) → weigh_r v' (file_at v' e) g ≡ 0
  unfolding weigh_r
  none g = ap (λ (r : Root). weigh_r v' r g) (file-unused v' e gone) ∙ sum-zero (λ i. g (0 + i))

  high : flags (v 0) object_pointer ≡ 1 → 63 < a → used (user v a) ≡ 0
  unfolding Rule5 Rule5By
  high q i = (subst (λ (x : ℕ). Rule5By P v x (page (v 0) object_pointer)) q seat.good.most.r5).1 a i seat.ha

  -- all that the file held is now in hand
  pub delete-good : Good P v' (λ p. hand p + weigh_r v (file_at v e) (hit p))
  unfolding Rule4Over Rule10 grant
  delete-good = edit-good seat E (λ g. weigh_r v (file_at v e) g) (λ g. 0) (λ p. hand p + weigh_r v (file_at v e) (hit p)) record {
    weight = λ g g0. omega (arith, none g);
    hands = λ p h. omega arith;
    user_new = record {
      ok = λ h. record {
        own = kept 18 (omega arith) (omega arith) (omega arith) ∙ ok.own;
        name = Legal-ext (user v' a) (user v a) 1 1 16 (λ i j. kept (1 + i / 2) (omega arith) (omega arith) (omega arith)) ok.name;
        within = omega (arith, less, given-kept, ok.within);
      };
      alone = λ u h m i j s. m (seat.good.most.r4.1 u a h seat.ha (omega (arith, used-same P v v' a f seat.ha seat.hf (entries seat E) u h m)) owner-used
          (SameName-ext (user v u) (user v a) (user v' u) (user v' a) (λ k l. (entries seat E).users u h m (1 + k) (omega arith))
          (λ k l. kept (1 + k) (omega arith) (omega arith) (omega arith)) s));
    };
    file_new = record {
      ok = λ h. absurd (let r : ⊥ = omega (arith, gone) in r);
      alone = λ h i m j l s. absurd (let r : ⊥ = omega (arith, gone) in r);
      shape = λ h. absurd (let r : ⊥ = omega (arith, gone) in r);
    };
    owner = λ h i q. omega (arith, user-used, owner-used);
    high = λ q i. user-used ∙ high q i;
    balance = omega (arith, two-ext (v' 0) (v 0) unreserved_count (master unreserved_count) (master (suc unreserved_count)), ap₂ (λ (x y : ℕ). pick x y 0) user-used given-kept);
    count = λ h. omega (arith, less, none some, seat.good.most.r10.0 a seat.ha owner-used, edit-mine seat E some);
  }
