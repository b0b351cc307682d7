-- A quiet change: pages that are no tree's block and hold no bit; of the entries and the master page stays what the rules ask about. Assumes nothing.
use Rattle.std.specs.Prelude.{◌≡◌, refl, ◌≢◌}
use Rattle.std.proofs.Math.Path.{sym, ap, ap₂, subst}
use Rattle.std.proofs.Common.{◌∙◌}
use Prim.Native.Nat.{ℕ, suc, ◌+◌, ◌/◌, ◌%◌, ◌≤◌, ◌<◌}
use native.Mathlib.Omega.{arith}
use Rattle.sums.specs.Sum.{sum-ext}
use Rattle.sums.specs.Search.{pick}
use Rattle.book.specs.Bits.{bit_file, bit_page, bit, digit, bit_word, page_bits}
use Rattle.book.specs.Entries.{user_file, object_file, user, object, used, given, used_pages, grant, file_entry, unreserved}
use Rattle.book.specs.Files.{file_at}
use Rattle.book.specs.Holders.{hit, some, mine, system, all, system_pages}
use Rattle.book.specs.Names.{Text, stored, SameName, SameFile}
use Rattle.book.specs.Pointers.{object_pointer, unreserved_count, volume_name}
use Rattle.book.specs.Rules.{UserOk, FileOk, Rule4, Rule4Over, Rule6, Rule6Over, Rule7, Rule10, Sound}
use Rattle.book.specs.Trees.{Root, weigh_r, blocks_r, page_at}
use Rattle.book.specs.Words.{Words, Vol, word}
use Rattle.laws.specs.Count.Good.{good, sound}
use Rattle.laws.specs.File.Stored.{stored-words}
use Rattle.laws.specs.Frame.Renewed.{Master, rule1, rule2, rule3, rule5, shape-kept}
use Rattle.laws.specs.Frame.Roots.{Roots, Kept, users-root, objs-root, bits-root, page_at-le, page_at-frame, weigh_r-frame, blocks_r-le, file-kept}
use Rattle.laws.specs.Frame.Still.{address-still}
use Rattle.laws.specs.Tree.Pointer.{used-ext}
use Rattle.laws.specs.Tree.Slot.{Agree, two-ext}

-- what the pages at C are not
pub record Quiet (P : ℕ) (v : Vol) (C : ℕ → ℕ) : Type 0 where
  pub none : C 0 ≡ 0
  pub bits : weigh_r v (bit_file P v) C ≡ 0
  pub users : blocks_r v (user_file v) C ≡ 0
  pub objects : blocks_r v (object_file v) C ≡ 0
  pub files : (e : ℕ) → e < 65536 → blocks_r v (file_at v e) C ≡ 0

-- what stays of an entry: all that the rules ask about. Names are read as before
pub record UserStays (w x : Words) : Type 0 where
  pub head : w 0 ≡ x 0
  pub name : stored 16 w 1 ≡ stored 16 x 1
  pub rest : (k : ℕ) → 14 ≤ k → k < 19 → w k ≡ x k

pub record ObjectStays (w x : Words) : Type 0 where
  pub head : w 0 ≡ x 0
  pub name : stored 16 w 1 ≡ stored 16 x 1
  pub type : stored 4 w 9 ≡ stored 4 x 9
  pub rest : (k : ℕ) → 16 ≤ k → k < 32 → k ≢ 19 → w k ≡ x k

-- an entry whose words stay
pub user-stays : (w x : Words) → ((k : ℕ) → k < 32 → w k ≡ x k) → UserStays w x
user-stays w x h = record { head = h 0 (omega arith); name = stored-words 16 w x 1 1 (λ i j. h (1 + i / 2) (omega arith)); rest = λ k a b. h k (omega arith) }

pub object-stays : (w x : Words) → ((k : ℕ) → k < 32 → k ≢ 19 → w k ≡ x k) → ObjectStays w x
object-stays w x h = record {
  head = h 0 (omega arith) (omega arith);
  name = stored-words 16 w x 1 1 (λ i j. h (1 + i / 2) (omega arith) (omega arith));
  type = stored-words 4 w x 9 9 (λ i j. h (9 + i / 2) (omega arith) (omega arith));
  rest = λ k a b n. h k b n;
}

-- one change after the other
pub user-then : (w x y : Words) → UserStays w x → UserStays x y → UserStays w y
user-then w x y a b = record { head = a.head ∙ b.head; name = a.name ∙ b.name; rest = λ k i j. a.rest k i j ∙ b.rest k i j }

pub object-then : (w x y : Words) → ObjectStays w x → ObjectStays x y → ObjectStays w y
object-then w x y a b = record { head = a.head ∙ b.head; name = a.name ∙ b.name; type = a.type ∙ b.type; rest = λ k i j n. a.rest k i j n ∙ b.rest k i j n }

-- what stays
pub record Stays (v v' : Vol) (C : ℕ → ℕ) : Type 0 where
  pub pages : Agree C v v'
  pub name : stored 16 (v' 0) volume_name ≡ stored 16 (v 0) volume_name
  pub master : (k : ℕ) → object_pointer ≤ k → v' 0 k ≡ v 0 k
  pub users : (u : ℕ) → UserStays (user v' u) (user v u)
  pub objects : (e : ℕ) → ObjectStays (object v' e) (object v e)

module _ (P : ℕ) (v v' : Vol) (C : ℕ → ℕ) (q : Quiet P v C) (s : Stays v v' C) where
  roots : Roots v v'
  unfolding Roots
  roots k i j = s.master k i

  mast : Master v v'
  mast = record { roots = roots; name = s.name }

  kept : (e : ℕ) → Kept (object v' e) (object v e)
  kept e = let o = s.objects e in record {
    head = o.head;
    pages = two-ext _ _ 26 (o.rest 26 (omega arith) (omega arith) (omega arith)) (o.rest 27 (omega arith) (omega arith) (omega arith));
    ptr = o.rest 30 (omega arith) (omega arith) (omega arith);
    ptr' = o.rest 31 (omega arith) (omega arith) (omega arith);
  }

  -- no page of a file moves
  pub quiet-address : (e : ℕ) → e < 65536 → (m : ℕ) → page_at v' (file_at v' e) m ≡ page_at v (file_at v e) m
  quiet-address e h = address-still v v' roots C q.none s.pages e (kept e) (q.files e h)

  file-weight : (g : ℕ → ℕ) (e : ℕ) → e < 65536 → weigh_r v' (file_at v' e) g ≡ weigh_r v (file_at v e) g
  file-weight g e h = ap (λ (r : Root). weigh_r v' r g) (file-kept v v' e (kept e)) ∙ weigh_r-frame v v' C s.pages (file_at v e) (q.files e h) g

  mine-same : (g : ℕ → ℕ) (u : ℕ) → u < 256 → mine v' u g ≡ mine v u g
  unfolding mine
  mine-same g u h = sum-ext 256 _ _ (λ f i. file-weight g (file_entry u f) (omega arith))

  no_bits_lem : blocks_r v (bit_file P v) C ≡ 0
  no_bits_lem = omega (arith, q.bits, blocks_r-le v (bit_file P v) C)

  system-same : (g : ℕ → ℕ) → system P v' g ≡ system P v g
  unfolding system
  system-same g = omega (
    arith,
    ap (λ (r : Root). weigh_r v' r g) (bits-root v v' roots P) ∙ weigh_r-frame v v' C s.pages (bit_file P v) no_bits_lem g,
    ap (λ (r : Root). weigh_r v' r g) (users-root v v' roots) ∙ weigh_r-frame v v' C s.pages (user_file v) q.users g,
    ap (λ (r : Root). weigh_r v' r g) (objs-root v v' roots) ∙ weigh_r-frame v v' C s.pages (object_file v) q.objects g,
  )

  all_same : (g : ℕ → ℕ) → all P v' g ≡ all P v g
  unfolding all
  all_same g = omega (arith, system-same g, sum-ext 256 (λ u. mine v' u g) (λ u. mine v u g) (mine-same g))

  bit-same : (p : ℕ) → bit P v' p ≡ bit P v p
  unfolding bit bit_page Agree
  bit-same p =
      let t : ℕ = page_at v (bit_file P v) (p / page_bits) in
      ap (λ (r : Root). digit (p % 16) (word v' (page_at v' r (p / page_bits)) (bit_word p))) (bits-root v v' roots P)
      ∙ ap (λ (x : ℕ). digit (p % 16) (word v' x (bit_word p))) (page_at-frame v v' C s.pages (bit_file P v) no_bits_lem (p / page_bits))
      ∙ ap (digit (p % 16)) (s.pages t (omega (arith, q.bits, page_at-le v C q.none (bit_file P v) (p / page_bits))) (bit_word p))

  used-object : (e : ℕ) → used (object v' e) ≡ used (object v e)
  used-object e = used-ext (object v' e) (object v e) (s.objects e).head

  used-user : (u : ℕ) → used (user v' u) ≡ used (user v u)
  used-user u = used-ext (user v' u) (user v u) (s.users u).head

  given-user : (u : ℕ) → given (user v') u ≡ given (user v) u
  unfolding given
  given-user u = two-ext (user v' u) (user v u) 14 ((s.users u).rest 14 (omega arith) (omega arith)) ((s.users u).rest 15 (omega arith) (omega arith))

  spent-user : (u : ℕ) → used_pages (user v') u ≡ used_pages (user v) u
  unfolding used_pages
  spent-user u = two-ext (user v' u) (user v u) 16 ((s.users u).rest 16 (omega arith) (omega arith)) ((s.users u).rest 17 (omega arith) (omega arith))

  grant-user : (u : ℕ) → grant (user v') u ≡ grant (user v) u
  unfolding grant
  grant-user u = ap₂ (λ (x y : ℕ). pick x y 0) (used-user u) (given-user u)

  four : Rule4 (user v) → Rule4 (user v')
  unfolding Rule4Over
  four r = (ok, one)
    where
      ok : (u : ℕ) → u < 256 → 0 < used (user v' u) → UserOk (user v') u
      ok u h i = let o = r.0 u h (omega (arith, used-user u)) in record {
        own = (s.users u).rest 18 (omega arith) (omega arith) ∙ o.own;
        name = subst (Text 1 16) (sym (s.users u).name) o.name;
        within = omega (arith, o.within, given-user u, spent-user u);
      }

      one : (a b : ℕ) → a < 256 → b < 256 → 0 < used (user v' a) → 0 < used (user v' b) → SameName (user v' a) (user v' b) → a ≡ b
      one a b ha hb ua ub m = r.1 a b ha hb (omega (arith, used-user a)) (omega (arith, used-user b)) (sym (s.users a).name ∙ m ∙ (s.users b).name)

  six : Rule6 (user v) (object v) → Rule6 (user v') (object v')
  unfolding Rule6Over
  six r = (ok, one)
    where
      ok : (u f : ℕ) → u < 256 → f < 256 → 0 < used (object v' (file_entry u f)) → FileOk (user v') (object v') u (file_entry u f)
      ok u f hu hf h = let e : ℕ = file_entry u f in let o = r.0 u f hu hf (omega (arith, used-object e)) in record {
        owner = omega (arith, used-user u, o.owner);
        whose = (s.objects e).rest 16 (omega arith) (omega arith) (omega arith) ∙ o.whose;
        number = (s.objects e).rest 17 (omega arith) (omega arith) (omega arith) ∙ o.number;
        name = subst (Text 1 16) (sym (s.objects e).name) o.name;
        type = subst (Text 0 4) (sym (s.objects e).type) o.type;
      }

      one : (u a b : ℕ) → u < 256 → a < 256 → b < 256 → 0 < used (object v' (file_entry u a)) → 0 < used (object v' (file_entry u b))
          → SameFile (object v' (file_entry u a)) (object v' (file_entry u b)) → a ≡ b
      one u a b hu ha hb ua ub m = r.1 u a b hu ha hb (omega (arith, used-object (file_entry u a))) (omega (arith, used-object (file_entry u b)))
          (sym (s.objects (file_entry u a)).name ∙ m.0 ∙ (s.objects (file_entry u b)).name, sym (s.objects (file_entry u a)).type ∙ m.1 ∙ (s.objects (file_entry u b)).type)

  seven : Rule7 P v → Rule7 P v'
  unfolding Rule7
  seven r e h i = let i' : 0 < used (object v e) = omega (arith, used-object e) in
      shape-kept P v v' C s.pages e (λ k a b. (s.objects e).rest k (omega arith) b (omega arith)) i' (q.files e h) (r e h i')

  ten : Rule10 P v → Rule10 P v'
  unfolding Rule10 unreserved system_pages
  ten r = (
    (λ u h i. spent-user u ∙ r.0 u h (omega (arith, used-user u)) ∙ sym (mine-same some u h)),
    omega (
      arith,
      r.1,
      two-ext (v' 0) (v 0) unreserved_count (s.master unreserved_count (omega arith)) (s.master (suc unreserved_count) (omega arith)),
      sum-ext 256 (grant (user v')) (grant (user v)) (λ u h. grant-user u),
      system-same some,
    ),
  )

  pub quiet-sound : Sound P v → Sound P v'
  quiet-sound S = sound P v' (λ p. 0)
      record {
        most = record {
          r1 = rule1 P v v' mast S.r1;
          r2 = rule2 P v v' mast S.r2;
          r3 = rule3 P v v' mast C q.none s.pages S.r2 q.users S.r3;
          r4 = four S.r4;
          r5 = rule5 P v v' mast C q.none s.pages S.r2 q.objects (λ x u i j z. used-user u ∙ z) S.r5;
          r6 = six S.r6;
          r7 = seven S.r7;
          r10 = ten S.r10;
        };
        held = λ p h. omega (arith, bit-same p, (good P v S).held p h, all_same (hit p));
      }
      (λ p h. refl)
