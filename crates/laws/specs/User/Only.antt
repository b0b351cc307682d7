-- Only one user's entry and the unreserved count change: create a user's entry, delete a user, give, take. Assumes nothing.
use Rattle.std.specs.Prelude.{◌≡◌, refl, ◌≢◌, ℕ, ◌+◌, ◌*◌, ◌/◌, ◌%◌, ◌<◌}
use Rattle.std.proofs.Math.Path.{sym, subst}
use Rattle.std.proofs.Common.{ap, ◌∙◌, arith}
use Rattle.std.proofs.Math.Decide.{ℕ_discrete}
use Rattle.book.specs.Bits.{bit}
use Rattle.book.specs.Entries.{entry, user_file, object_file, user, object, used, used_pages, grant}
use Rattle.book.specs.Files.{file_at}
use Rattle.book.specs.Holders.{hit, some, mine}
use Rattle.book.specs.Pointers.{flags, object_pointer, unreserved_count}
use Rattle.book.specs.Rules.{Rule6Over, Rule7}
use Rattle.book.specs.Trees.{Root, weigh_r, blocks_r, page_at}
use Rattle.book.specs.Words.{Vol, two, word}
use Rattle.laws.specs.Count.Good.{Good}
use Rattle.laws.specs.File.Named.{Legal-ext, SameFile-ext}
use Rattle.laws.specs.Frame.Edit.{Change, user-page, obj-at, objs-words, user-at, users-words, bits-same, edit-mine, edit-good, Seat}
use Rattle.laws.specs.Frame.Fields.{Outside}
use Rattle.laws.specs.Frame.Renewed.{UserNew, FileNew, shape_same}
use Rattle.laws.specs.Frame.Rest.{file-le}
use Rattle.laws.specs.Frame.Roots.{weigh_r-nobody, page_at-le, weigh_r-frame, blocks_r-le, file-kept}
use Rattle.laws.specs.Shrink.Shrunk.{all-zero}
use Rattle.laws.specs.Tree.Pointer.{used-ext}
use Rattle.laws.specs.Tree.Slot.{Agree, two-ext, hit-zero}

module _ (P : ℕ) (v : Vol) (hand : ℕ → ℕ) (G : Good P v hand) (pos : 0 < P) (a : ℕ) (ha : a < 256) (v' : Vol)
    (agree : Agree (hit (page_at v (user_file v) (a / 32))) v v') (master : (k : ℕ) → k < unreserved_count → v' 0 k ≡ v 0 k)
    (on_u : (k : ℕ) → Outside a k → word v' (page_at v (user_file v) (a / 32)) k ≡ word v (page_at v (user_file v) (a / 32)) k) where
  abbrev U : ℕ
  U = page_at v (user_file v) (a / 32)

  abbrev e : ℕ
  e = 256 * a + 0

  abbrev O : ℕ
  O = page_at v (object_file v) (e / 32)

  same_o : (k : ℕ) → word v' O k ≡ word v O k
  unfolding Agree
  same_o k = agree O (omega (arith, page_at-le v (hit U) (hit-zero U) (object_file v) (e / 32), (user-page P v hand G pos (a / 32)).1)) k

  zero256 : 0 < 256
  zero256 = omega arith

  seat : Seat P v hand a 0
  seat = record { good = G; pos = pos; ha = ha; hf = zero256 }

  change : Change seat (λ x. 0) v'
  unfolding Agree
  change = record { none = refl; only = all-zero P v ∙ sym (weigh_r-nobody v (λ x. 0) (λ x. refl) (file_at v e)); agree = λ q h k. agree q (omega (arith, h)) k; master = master; on_o = λ k h. same_o k; on_u = on_u }

  -- his entry is where it was, and every other user's stays
  pub user-there : (k : ℕ) → user v' a k ≡ word v' U (32 * (a % 32) + k)
  user-there k = user-at seat change k

  pub users-else : (u : ℕ) → u ≢ a → (k : ℕ) → k < 32 → user v' u k ≡ user v u k
  users-else u n k h = users-words seat change u n k h

  -- every object entry stays
  words : (x k : ℕ) → k < 32 → object v' x k ≡ object v x k
  unfolding object entry
  words x k h = elim (ℕ_discrete x e) [
    | yes q ↦ subst (λ (y : ℕ). object v' y k ≡ object v y k) (sym q) (obj-at seat change k ∙ same_o (32 * (e % 32) + k))
    | no n ↦ objs-words seat change x n k h
  ]

  -- the bits stay
  pub bits-else : (p : ℕ) → p < P → bit P v' p ≡ bit P v p
  bits-else p h = bits-same seat change p h

  quiet : blocks_r v (file_at v e) (hit U) ≡ 0
  quiet = omega (arith, blocks_r-le v (file_at v e) (hit U), file-le v (hit U) a 0 ha zero256, (user-page P v hand G pos (a / 32)).3)

  root : file_at v' e ≡ file_at v e
  root = file-kept v v' e (record {
    head = words e 0 (omega arith);
    pages = two-ext (object v' e) (object v e) 26 (words e 26 (omega arith)) (words e 27 (omega arith));
    ptr = words e 30 (omega arith);
    ptr' = words e 31 (omega arith);
  })

  weight : (g : ℕ → ℕ) → weigh_r v' (file_at v' e) g ≡ weigh_r v (file_at v e) g
  weight g = ap (λ (r : Root). weigh_r v' r g) root ∙ weigh_r-frame v v' (hit U) agree (file_at v e) quiet g

  used-obj : (x : ℕ) → used (object v' x) ≡ used (object v x)
  used-obj x = used-ext (object v' x) (object v x) (words x 0 (omega arith))

  module _ (N : UserNew v' a) (owner : (h : ℕ) → h < 256 → 0 < used (object v (256 * a + h)) → 0 < used (user v' a))
      (high : flags (v 0) object_pointer ≡ 1 → 63 < a → used (user v' a) ≡ 0)
      (balance : two (v' 0) unreserved_count + grant (user v') a ≡ two (v 0) unreserved_count + grant (user v) a)
      (count : 0 < used (user v' a) → used_pages (user v') a ≡ mine v a some) where
    file-new : FileNew P v' a 0
    unfolding Rule6Over Rule7
    file-new = record {
      ok = λ h. let h' : 0 < used (object v e) = omega (arith, used-obj e) in let o = G.most.r6.0 a 0 ha zero256 h' in record {
        owner = owner 0 zero256 h';
        whose = words e 16 (omega arith) ∙ o.whose;
        number = words e 17 (omega arith) ∙ o.number;
        name = Legal-ext (object v' e) (object v e) 1 1 16 (λ i j. words e (1 + i / 2) (omega arith)) o.name;
        type = Legal-ext (object v' e) (object v e) 9 0 4 (λ i j. words e (9 + i / 2) (omega arith)) o.type;
      };
      alone = λ h i n j k s. n (G.most.r6.1 a h 0 ha i zero256 (omega (arith, used-obj (256 * a + h))) (omega (arith, used-obj e))
          (SameFile-ext (object v (256 * a + h)) (object v e) (object v' (256 * a + h)) (object v' e) (λ l o. words (256 * a + h) (1 + l) (omega arith)) (λ l o. words e (1 + l) (omega arith)) s));
      shape = λ h. let h' : 0 < used (object v e) = omega (arith, used-obj e) in shape_same P v v' (hit U) agree e (words e) h' quiet (G.most.r7 e (omega arith) h');
    }

    pub user-good : Good P v' hand
    user-good = edit-good seat change (λ g. 0) (λ g. 0) hand record {
      weight = λ g g0. omega (arith, weight g);
      hands = λ p h. refl;
      user_new = N;
      file_new = file-new;
      owner = λ h i q. owner h i (omega (arith, used-obj (256 * a + h)));
      high = high;
      balance = balance;
      count = λ h. omega (arith, count h, edit-mine seat change some, weight some);
    }
