-- A user's given pages and the unreserved count change, their sum does not: give and take. Assumes nothing.
use Rattle.std.specs.Prelude.{◌≡◌, refl, ◌≢◌}
use Rattle.std.proofs.Math.Path.{sym, ap}
use Rattle.std.proofs.Common.{◌∙◌, inl, inr}
use Prim.Native.Nat.{ℕ, suc, ◌+◌, ◌/◌, ◌%◌, ◌≤◌, ◌<◌}
use native.Mathlib.Omega.{arith}
use Rattle.book.specs.Entries.{user, used, given, used_pages, user_page, entry_word, unreserved}
use Rattle.book.specs.Pointers.{unreserved_count}
use Rattle.book.specs.Rules.{UserOk, Rule4Over, Rule10, Sound}
use Rattle.book.specs.Steps.{moved}
use Rattle.book.specs.Words.{Vol, two, put2}
use Rattle.book.specs.Written.{put2-page, put2-two, put2-hi, put2-lo}
use Rattle.laws.specs.Call.After.{Stepped}
use Rattle.laws.specs.Count.Good.{grant-used}
use Rattle.laws.specs.Count.Reach.{high-unused}
use Rattle.laws.specs.File.Named.{Legal-ext, SameName-ext}
use Rattle.laws.specs.Frame.Places.{EntryOf, FieldOf, UnreservedWords, Either, OnlyAt, only_wider, only_then, only-either, only-put2}
use Rattle.laws.specs.Frame.Renewed.{UserNew}
use Rattle.laws.specs.Tree.Pointer.{used-ext}
use Rattle.laws.specs.Tree.Slot.{two-ext}
use Rattle.laws.specs.User.Words.{BesideUser, user-has-page, user-now, user-beside, user-sound}

-- words 14 and 15 of his entry and the unreserved words alone
pub moved-only : (v : Vol) (u g s : ℕ) → OnlyAt (Either (FieldOf (user_page v u) u 14 2) UnreservedWords) v (moved v u g s)
unfolding moved
moved-only v u g s = only_then (FieldOf (user_page v u) u 14 2) UnreservedWords v _ _ (only-put2 v (user_page v u) (entry_word u + 14) g) (only-put2 _ 0 unreserved_count s)

moved-wide : (v : Vol) (u g s : ℕ) → OnlyAt (Either (EntryOf (user_page v u) u) UnreservedWords) v (moved v u g s)
moved-wide v u g s =
    only_wider (Either (FieldOf (user_page v u) u 14 2) UnreservedWords) (Either (EntryOf (user_page v u) u) UnreservedWords) v (moved v u g s)
    (λ p k h. elim h [ inl a ↦ inl (a.0, omega (arith, a.1), omega (arith, a.2)) | inr b ↦ inr b ]) (moved-only v u g s)

module _ (P : ℕ) (v : Vol) (S : Sound P v) (pos : 0 < P) (u : ℕ) (hu : u < 256) (uu : 0 < used (user v u)) (g s : ℕ) where
  abbrev U : ℕ
  U = user_page v u

  abbrev E : ℕ
  E = entry_word u

  v' : Vol
  v' = moved v u g s

  only : OnlyAt (Either (EntryOf U u) UnreservedWords) v v'
  unfolding v'
  only = moved-wide v u g s

  is_u : 0 < U
  is_u = user-has-page P v S pos u hu uu v' only

  now : (k : ℕ) → user v' u k ≡ v' U (E + k)
  now = user-now P v S pos u hu uu v' only

  kept : (k : ℕ) → k ≢ 14 → k ≢ 15 → user v' u k ≡ user v u k
  unfolding v'
  kept k a b =
      now k ∙ only-either (FieldOf U u 14 2) UnreservedWords v v' (moved-only v u g s) U (E + k)
      (λ h. let r : ⊥ = omega (arith, h.1, h.2) in r) (λ h. let i = is_u in let r : ⊥ = omega (arith, h.0) in r)
      ∙ sym (user-now P v S pos u hu uu v (λ p k a. refl) k)

  given-now : given (user v') u ≡ g
  unfolding given v' moved two
  given-now =
      let hi : user v' u 14 ≡ g / 65536 = now 14 ∙ at (E + 14) ∙ put2-hi v U (E + 14) g in
      let e : E + 15 ≡ suc (E + 14) = omega arith in
      let lo : user v' u 15 ≡ g % 65536 = now 15 ∙ at (E + 15) ∙ ap (λ (k : ℕ). put2 v U (E + 14) g U k) e ∙ put2-lo v U (E + 14) g in
      omega (arith, hi, lo)
    where
      at : (k : ℕ) → v' U k ≡ put2 v U (E + 14) g U k
      at k = put2-page (put2 v U (E + 14) g) 0 unreserved_count s U k (λ e. let i = is_u in let r : ⊥ = omega arith in absurd r)

  left-now : unreserved v' ≡ s
  unfolding v' moved unreserved
  left-now = put2-two (put2 v U (E + 14) g) 0 unreserved_count s

  used-now : used (user v' u) ≡ used (user v u)
  used-now = used-ext (user v' u) (user v u) (kept 0 (omega arith) (omega arith))

  spent-now : used_pages (user v') u ≡ used_pages (user v) u
  unfolding used_pages
  spent-now = two-ext (user v' u) (user v u) 16 (kept 16 (omega arith) (omega arith)) (kept 17 (omega arith) (omega arith))

  beside : BesideUser v v' u
  beside = user-beside P v S pos u hu uu v' only

  ok : UserOk (user v) u
  unfolding Rule4Over
  ok = S.r4.0 u hu uu

  module _ (within : used_pages (user v) u ≤ g) (balance : s + g ≡ unreserved v + given (user v) u) where
    new : UserNew v' u
    unfolding Rule4Over v'
    new = record {
      ok = λ h. record {
        own = kept 18 (omega arith) (omega arith) ∙ ok.own;
        name = Legal-ext (user v' u) (user v u) 1 1 16 (λ i j. kept (1 + i / 2) (omega arith) (omega arith)) ok.name;
        within = omega (arith, given-now, spent-now);
      };
      alone = λ x h m i j q. let else : (k : ℕ) → k < 32 → user v' x k ≡ user v x k = beside.users x m in
          m (S.r4.1 x u h hu (omega (arith, used-ext (user v' x) (user v x) (else 0 (omega arith)))) uu
          (SameName-ext (user v x) (user v u) (user v' x) (user v' u) (λ k l. else (1 + k) (omega arith)) (λ k l. kept (1 + k) (omega arith) (omega arith)) q));
    }

    pub moved-step : Stepped P (λ w. BesideUser v w u) (moved v u g s)
    unfolding v' Rule10
    moved-step = record {
      sound = user-sound P v S pos u hu uu v' only new (λ h i q. omega (arith, used-now)) (λ q i. used-now ∙ high-unused P v S.r5 q u i hu)
          (omega (arith, left-now, balance, given-now, grant-used v' u (omega (arith, used-now)), grant-used v u uu))
          (λ h. spent-now ∙ S.r10.0 u hu uu);
      leaves = beside;
    }
