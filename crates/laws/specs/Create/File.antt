-- Creating an indexed file and a contiguous one. Assumes nothing.
use Rattle.std.specs.Prelude.{◌≡◌, ◌≢◌, List, ℕ, ◌+◌, ◌/◌, ◌≤◌, ◌<◌}
use Rattle.std.proofs.Math.Path.{refl, sym, ap, subst, subst₂}
use Rattle.std.proofs.Common.{◌∙◌, inl, inr, arith}
use Rattle.std.proofs.Math.Decide.{ℕ_discrete}
use Rattle.sums.specs.Sum.{sum, sum-zero, sum-ext}
use Rattle.book.specs.Bits.{bit, claim_run, highest_run}
use Rattle.book.specs.Create.{object_entry, file_need, file_place, create_indexed, create_contiguous}
use Rattle.book.specs.Entries.{Table, user, user_page, object_page, entry_word, file_entry, given, used_pages, spare, new_file, put_entry}
use Rattle.book.specs.Holders.{hit}
use Rattle.book.specs.Rules.{Rule4Over, Sound}
use Rattle.book.specs.Words.{Vol, Words, two}
use Rattle.book.specs.Written.{put2-two}
use Rattle.laws.specs.Bits.Choose.{Stock, FreeRun, run-found}
use Rattle.laws.specs.Bits.Runs.{run-taking, taken}
use Rattle.laws.specs.Bits.Taking.{NoWords, Taking, taking-none}
use Rattle.laws.specs.Count.Good.{Good, good}
use Rattle.laws.specs.Create.Created.{FileWanted, Created, file-place, owner-page, file-created}
use Rattle.laws.specs.Create.WriteFile.{write-apart, write-beside, write-used, owner-now, owner-was}
use Rattle.laws.specs.Frame.Edit.{Seat}
use Rattle.laws.specs.Frame.Fields.{entry-page}
use Rattle.laws.specs.Frame.Places.{EntryOf, FieldOf, Either, OnlyAt, only_then, only-put_words, only-put2}
use Rattle.laws.specs.Tree.Slot.{hit-sym, two-ext}

module _ {choose : Vol → ℕ} {P : ℕ} {v : Vol} (stock : Stock choose P v) {u : ℕ} {name type : List ℕ} (created : ℕ) (A : FileWanted P v u name type) where
  abbrev f : ℕ
  f = new_file v u

  abbrev e : ℕ
  e = file_entry u f

  abbrev w : Vol
  w = file_place choose P v e

  sound-w : Sound P w
  sound-w = (file-place stock A).placed.sound

  Gw : Good P w (λ p. 0)
  Gw = good P w sound-w

  within : used_pages (user v) u ≤ given (user v) u
  unfolding Rule4Over
  within = (stock.sound.r4.0 u A.index A.owner).within

  -- ---- an indexed file has no page yet

  abbrev v₀ : Vol
  v₀ = create_indexed choose P v u name type created

  abbrev E₀ : Words
  E₀ = object_entry u e name type created 0 0

  is_o : 0 < object_page w e
  is_o = (file-place stock A).there

  is_u : 0 < user_page w u
  is_u = (owner-page stock A).1

  same : used_pages (user w) u ≡ used_pages (user v) u
  same = ap (λ (U : Table). used_pages U u) (file-place stock A).placed.taking.users

  else₀ : (p k : ℕ) → (p ≡ user_page w u → (k ≢ entry_word u + 16) × (k ≢ entry_word u + 17)) → v₀ p k ≡ put_entry w (object_page w e) e E₀ p k
  unfolding create_indexed
  else₀ p k h = refl

  seat₀ : Seat P w (λ p. 0) u f
  seat₀ = record { good = Gw; pos = stock.pos; ha = A.index; hf = A.entry }

  -- its owner's entry stays as it is
  owner₀ : (k : ℕ) → user v₀ u k ≡ user w u k
  unfolding create_indexed
  owner₀ k = owner-now seat₀ is_o is_u E₀ v₀ else₀ k
      ∙ entry-page w (object_page w e) e E₀ (user_page w u) (entry_word u + k) (write-apart seat₀ is_o is_u E₀ v₀ else₀)
      ∙ sym (owner-was seat₀ is_o is_u E₀ v₀ else₀ k)

  more₀ : two (v₀ (user_page w u)) (entry_word u + 16) ≡ used_pages (user v) u + 0
  unfolding used_pages
  more₀ = sym (write-used seat₀ is_o is_u E₀ v₀ else₀) ∙ omega (arith, two-ext (user v₀ u) (user w u) 16 (owner₀ 16) (owner₀ 17), same)

  only₀ : OnlyAt (EntryOf (object_page v₀ e) e) w v₀
  unfolding create_indexed
  only₀ = subst (λ (q : ℕ). OnlyAt (EntryOf q e) w v₀) (sym ((write-beside seat₀ is_o is_u E₀ v₀ else₀).places.of_object e)) (only-put_words w (object_page w e) (entry_word e) 32 E₀)

  pub indexed-created : Created P v v₀ u e E₀ 0 0 (file_need v e) (EntryOf (object_page v₀ e) e)
  indexed-created = file-created stock A created 0 0 w (λ p. 0) Gw (taking-none P w) (omega arith) (inl (refl, refl))
      (λ p h. sym (sum-zero (λ i. hit p (0 + i)))) (omega (arith, within)) v₀ else₀ more₀ (EntryOf (object_page v₀ e) e) only₀

  -- no user's entry changes
  pub indexed-users : (z k : ℕ) → k < 32 → user v₀ z k ≡ user v z k
  indexed-users z k h = elim (ℕ_discrete z u) [
    | yes q ↦ subst (λ (y : ℕ). user v₀ y k ≡ user v y k) (sym q) (owner₀ k ∙ ap (λ (U : Table). U u k) (file-place stock A).placed.taking.users)
    | no n ↦ indexed-created.beside.users z n k h
  ]

  -- ---- a contiguous file of n pages

  module _ (n : ℕ) (some : 0 < n) (le : n ≤ spare v u) (there : 0 < highest_run P w n) (big : P ≤ 1073741824) where
    abbrev s : ℕ
    s = highest_run P w n

    abbrev v' : Vol
    v' = create_contiguous choose P v u name type created n

    abbrev E : Words
    E = object_entry u e name type created n s

    -- its pages are free after the system pages are taken
    pub contiguous-run : FreeRun P w n s
    contiguous-run = run-found P w n there

    fits : s + n ≤ P
    unfolding FreeRun
    fits = contiguous-run.0

    clear : (i : ℕ) → i < n → bit P w (s + i) ≡ 0
    unfolding FreeRun
    clear = contiguous-run.1

    abbrev x : Vol
    x = claim_run P w s n

    abbrev hand : ℕ → ℕ
    hand p = 0 + sum n (λ i. hit (s + i) p)

    G : Good P x hand
    G = (taken P w (λ p. 0) Gw s n fits clear).good

    X : Taking P w x NoWords n 0
    X = run-taking P w (λ p. 0) Gw s n fits clear

    hands : (p : ℕ) → p < P → hand p ≡ sum n (λ i. hit p (s + i))
    hands p h = omega (arith, sum-ext n (λ i. hit (s + i) p) (λ i. hit p (s + i)) (λ i l. hit-sym (s + i) p))

    left : used_pages (user v) u + n ≤ given (user v) u
    unfolding spare
    left = omega (arith, le, within)

    O-is : object_page x e ≡ object_page w e
    unfolding object_page
    O-is = X.object_at (e / 32) is_o

    U-is : user_page x u ≡ user_page w u
    unfolding user_page
    U-is = X.user_at (u / 32) is_u

    abbrev y : Vol
    y = put_entry x (object_page w e) e E

    else : (p k : ℕ) → (p ≡ user_page x u → (k ≢ entry_word u + 16) × (k ≢ entry_word u + 17)) → v' p k ≡ put_entry x (object_page x e) e E p k
    unfolding create_contiguous
    else p k h = only-put2 y (user_page w u) (entry_word u + 16) (used_pages (user w) u + n) p k (λ q. let a = h (q.0 ∙ sym U-is) in omega (arith, a.0, a.1, q.1, q.2)) ∙ ap (λ (q : ℕ). put_entry x q e E p k) (sym O-is)

    more : two (v' (user_page x u)) (entry_word u + 16) ≡ used_pages (user v) u + n
    unfolding create_contiguous
    more = ap (λ (q : ℕ). two (v' q) (entry_word u + 16)) U-is ∙ put2-two y (user_page w u) (entry_word u + 16) (used_pages (user w) u + n) ∙ ap (λ (z : ℕ). z + n) same

    seat : Seat P x hand u f
    seat = record { good = G; pos = stock.pos; ha = A.index; hf = A.entry }

    only : OnlyAt (Either (EntryOf (object_page v' e) e) (FieldOf (user_page v u) u 16 2)) x v'
    unfolding create_contiguous
    only = subst₂ (λ (q r : ℕ). OnlyAt (Either (EntryOf q e) (FieldOf r u 16 2)) x v')
        (sym ((write-beside seat (omega (arith, is_o, O-is)) (omega (arith, is_u, U-is)) E v' else).places.of_object e ∙ O-is))
        (owner-page stock A).0
        (only_then (EntryOf (object_page w e) e) (FieldOf (user_page w u) u 16 2) x y v' (only-put_words x (object_page w e) (entry_word e) 32 E)
        (only-put2 y (user_page w u) (entry_word u + 16) (used_pages (user w) u + n)))

    pub contiguous-created : Created P v v' u e E n s (file_need v e) (Either (EntryOf (object_page v' e) e) (FieldOf (user_page v u) u 16 2))
    contiguous-created = file-created stock A created n s x hand G X (omega (arith, fits, some)) (inr (some, there, fits)) hands left v' else more
        (Either (EntryOf (object_page v' e) e) (FieldOf (user_page v u) u 16 2)) only
