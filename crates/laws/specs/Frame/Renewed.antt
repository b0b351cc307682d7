-- Rules 1 to 7 after a change of at most one user's entry and at most one file's (UserNew, FileNew). Assumes nothing.
use Rattle.std.specs.Prelude.{◌≡◌, ◌≢◌, ◌⊎◌}
use Rattle.std.proofs.Math.Path.{refl, ap, ap₂, subst}
use Rattle.std.proofs.Common.{sym, ◌∙◌, subst₂, not-suc-le-zero, arith}
use Rattle.std.proofs.Math.Logic.{inl, inr}
use Prim.Native.Nat.{ℕ, zero, suc, ◌+◌, ◌*◌, ◌/◌, ◌≤◌, ◌<◌}
use Rattle.std.proofs.Math.Decide.{ℕ_discrete}
use Rattle.sums.specs.Search.{pick}
use Rattle.book.specs.Entries.{user_file, object_file, user, object, used, given, used_pages, grant}
use Rattle.book.specs.Files.{file_at, Shape, FileShape}
use Rattle.book.specs.Names.{Text, stored, SameName, SameFile}
use Rattle.book.specs.Pointers.{slot, flags, page, Zero, Inside, bit_pointer, object_pointer, unreserved_count, user_pointer, volume_name}
use Rattle.book.specs.Rules.{UserOk, FileOk, Rule1, Rule2, Rule3, Rule4, Rule4Over, Rule5, Rule5By, Rule6, Rule6Over, Rule7}
use Rattle.book.specs.Trees.{run, blocks, blocks_r, root_at, root_by, Root}
use Rattle.book.specs.Words.{Vol, two}
use Rattle.laws.specs.File.Named.{Legal-ext, SameName-ext, SameFile-ext, SameFile-sym}
use Rattle.laws.specs.File.Stored.{stored-words}
use Rattle.laws.specs.Frame.Roots.{Roots}
use Rattle.laws.specs.Tree.Pointer.{flags-ext, page-ext, used-ext, root-1, zero-page}
use Rattle.laws.specs.Tree.Slot.{Agree, two-ext, slot_same}
use Rattle.laws.specs.Tree.Weigh.{Below-frame, Fill-frame}

-- the page of the user index, and of the object file's top, is one of its tree's blocks
module _ (P : ℕ) (v : Vol) (C : ℕ → ℕ) (c0 : C 0 ≡ 0) where
  pub users-top : Rule2 P v → C (page (v 0) user_pointer) ≤ blocks_r v (user_file v) C
  unfolding Rule2 Inside user_file blocks_r blocks
  users-top (inl z) = omega (arith, c0, ap C (zero-page (v 0) user_pointer z.0))
  users-top (inr i) = subst (λ (r : Root). C (page (v 0) user_pointer) ≤ blocks_r v r C) (sym (root-1 (v 0) user_pointer 0 i.0.0)) (omega arith)

module _ (v v' : Vol) (C : ℕ → ℕ) (A : Agree C v v') where
  pub Shape-frame : (P x t n : ℕ) → blocks_r v (root_by x t n) C ≡ 0 → Shape P v x t n → Shape P v' x t n
  unfolding Shape root_by blocks_r
  Shape-frame P zero t n h a = a
  Shape-frame P (suc zero) t n h a = (a.0, a.1, Fill-frame v v' C A 1 t n h a.2, Below-frame v v' C A P 1 t h a.3)
  Shape-frame P (suc (suc zero)) t n h a = (a.0, a.1, Fill-frame v v' C A 2 t n h a.2, Below-frame v v' C A P 2 t h a.3)
  Shape-frame P (suc (suc (suc x))) t n h a = a

-- ---- the master page

-- the directory entry's pointers stay, and its name is read as before
pub record Master (v v' : Vol) : Type 0 where
  pub roots : Roots v v'
  pub name : stored 16 (v' 0) volume_name ≡ stored 16 (v 0) volume_name

-- where their words stay
pub master-words : (v v' : Vol) → ((k : ℕ) → volume_name ≤ k → k < unreserved_count → v' 0 k ≡ v 0 k) → Master v v'
unfolding Roots
master-words v v' m = record {
  roots = λ k a b. m k (omega arith) b;
  name = stored-words 16 (v' 0) (v 0) volume_name volume_name (λ i h. m (volume_name + i / 2) (omega arith) (omega arith));
}

module _ (P : ℕ) (v v' : Vol) (M : Master v v') where
  at : (k : ℕ) → object_pointer ≤ k → k < unreserved_count → v' 0 k ≡ v 0 k
  unfolding Roots
  at = M.roots

  pub flags-at : (k : ℕ) → object_pointer ≤ k → k < unreserved_count → flags (v' 0) k ≡ flags (v 0) k
  flags-at k a b = flags-ext (v' 0) (v 0) k (at k a b)

  pub page-at : (k : ℕ) → object_pointer ≤ k → k < (suc bit_pointer) → page (v' 0) k ≡ page (v 0) k
  page-at k a b = page-ext (v' 0) (v 0) k (at k a (omega arith)) (at (suc k) (omega arith) (omega arith))

  pub rule1 : Rule1 P v → Rule1 P v'
  rule1 r = record {
    name = subst (Text 1 16) (sym M.name) r.name;
    unflagged = flags-at bit_pointer (omega arith) (omega arith) ∙ r.unflagged;
    start = omega (arith, r.start, page-at bit_pointer (omega arith) (omega arith));
    fits = omega (arith, r.fits, page-at bit_pointer (omega arith) (omega arith));
  }

  zero-at : (k : ℕ) → object_pointer ≤ k → k < (suc bit_pointer) → Zero (v 0) k → Zero (v' 0) k
  unfolding Zero
  zero-at k a b z = (at k a (omega arith) ∙ z.0, at (suc k) (omega arith) (omega arith) ∙ z.1)

  inside-at : (k x : ℕ) → object_pointer ≤ k → k < (suc bit_pointer) → Inside P (v 0) k x → Inside P (v' 0) k x
  unfolding Inside
  inside-at k x a b i = (flags-at k a (omega arith) ∙ i.0, omega (arith, i.1, page-at k a b), omega (arith, i.2, page-at k a b))

  pub rule2 : Rule2 P v → Rule2 P v'
  unfolding Rule2
  rule2 (inl z) = inl (zero-at user_pointer (omega arith) (omega arith) z.0, zero-at object_pointer (omega arith) (omega arith) z.1)
  rule2 (inr i) = inr (inside-at user_pointer 1 (omega arith) (omega arith) i.0, go i.1)
    where
      go : (Inside P (v 0) object_pointer 1 ⊎ Inside P (v 0) object_pointer 2) → (Inside P (v' 0) object_pointer 1 ⊎ Inside P (v' 0) object_pointer 2)
      go (inl a) = inl (inside-at object_pointer 1 (omega arith) (omega arith) a)
      go (inr a) = inr (inside-at object_pointer 2 (omega arith) (omega arith) a)

-- ---- the user and object trees stay

module _ (P : ℕ) (v v' : Vol) (M : Master v v') (C : ℕ → ℕ) (c0 : C 0 ≡ 0) (A : Agree C v v') where
  pub rule3 : Rule2 P v → blocks_r v (user_file v) C ≡ 0 → Rule3 P v → Rule3 P v'
  unfolding Rule3 Agree
  rule3 r2 h r n i =
      let t : ℕ = page (v 0) user_pointer in
      let e : slot v' (page (v' 0) user_pointer) n ≡ slot v t n =
      ap (λ (x : ℕ). slot v' x n) (page-at P v v' M user_pointer (omega arith) (omega arith))
      ∙ slot_same v v' t (A t (omega (arith, users-top P v C c0 r2))) n in
      (omega (arith, e, (r n i).0), λ j. e ∙ (r n i).1 j)

  pub rule5 : Rule2 P v → blocks_r v (object_file v) C ≡ 0 → (flags (v 0) object_pointer ≡ 1 → (u : ℕ) → 63 < u → u < 256 → used (user v u) ≡ 0 → used (user v' u) ≡ 0) → Rule5 P v → Rule5 P v'
  unfolding Rule5 object_file Rule5By root_at root_by blocks_r blocks Agree
  rule5 r2 h k r =
      subst (λ (x : ℕ). Rule5By P v' x (page (v' 0) object_pointer)) (sym (flags-at P v v' M object_pointer (omega arith) (omega arith)))
      (subst (λ (t : ℕ). Rule5By P v' (flags (v 0) object_pointer) t) (sym (page-at P v v' M object_pointer (omega arith) (omega arith))) (go (flags (v 0) object_pointer) (page (v 0) object_pointer) refl h r))
    where
      go : (x t : ℕ) → flags (v 0) object_pointer ≡ x → blocks_r v (root_by x t 0) C ≡ 0 → Rule5By P v x t → Rule5By P v' x t
      go zero t q b a = tt
      go (suc zero) t q b a = (Below-frame v v' C A P 1 t b a.0, λ u i j. k q u i j (a.1 u i j))
      go (suc (suc zero)) t q b a = (Below-frame v v' C A P 2 t b a.0, λ i j l. slot_same v v' t (A t (omega (arith, b))) i ∙ a.1 i j l)
      go (suc (suc (suc x))) t q b a = a

-- ---- the entries: user a's and file e's may change, all others stay

pub record Entries (v v' : Vol) (a e : ℕ) : Type 0 where
  pub users : (u : ℕ) → u < 256 → u ≢ a → (k : ℕ) → k < 32 → user v' u k ≡ user v u k
  pub files : (x : ℕ) → x < 65536 → x ≢ e → (k : ℕ) → k < 32 → object v' x k ≡ object v x k

-- user a's entry afterwards, and his name beside the others'
pub record UserNew (v' : Vol) (a : ℕ) : Type 0 where
  pub ok : 0 < used (user v' a) → UserOk (user v') a
  pub alone : (u : ℕ) → u < 256 → u ≢ a → 0 < used (user v' u) → 0 < used (user v' a) → ¬ (SameName (user v' u) (user v' a))

-- file f of user a afterwards
pub record FileNew (P : ℕ) (v' : Vol) (a f : ℕ) : Type 0 where
  pub ok : 0 < used (object v' (256 * a + f)) → FileOk (user v') (object v') a (256 * a + f)
  pub alone : (h : ℕ) → h < 256 → h ≢ f → 0 < used (object v' (256 * a + h)) → 0 < used (object v' (256 * a + f))
      → ¬ (SameFile (object v' (256 * a + h)) (object v' (256 * a + f)))
  pub shape : 0 < used (object v' (256 * a + f)) → FileShape P v' (256 * a + f)

module _ (P : ℕ) (v v' : Vol) where
  -- a file whose words 26 to 31 and blocks stay keeps its shape
  pub shape-kept : (C : ℕ → ℕ) → Agree C v v' → (x : ℕ) → ((k : ℕ) → 26 ≤ k → k < 32 → object v' x k ≡ object v x k) → 0 < used (object v x) → blocks_r v (file_at v x) C ≡ 0
      → FileShape P v x → FileShape P v' x
  unfolding FileShape file_at root_at pick
  shape-kept C A x w q b s =
      let n : two (object v' x) 26 ≡ two (object v x) 26 = two-ext (object v' x) (object v x) 26 (w 26 (omega arith) (omega arith)) (w 27 (omega arith) (omega arith)) in
      let m : two (object v' x) 28 ≡ two (object v x) 28 = two-ext (object v' x) (object v x) 28 (w 28 (omega arith) (omega arith)) (w 29 (omega arith) (omega arith)) in
      let fl : flags (object v' x) 30 ≡ flags (object v x) 30 = flags-ext (object v' x) (object v x) 30 (w 30 (omega arith) (omega arith)) in
      let pg : page (object v' x) 30 ≡ page (object v x) 30 = page-ext (object v' x) (object v x) 30 (w 30 (omega arith) (omega arith)) (w 31 (omega arith) (omega arith)) in (
        subst (λ (z : ℕ). Shape P v' z (page (object v' x) 30) (two (object v' x) 26)) (sym fl)
            (subst₂ (λ (z y : ℕ). Shape P v' (flags (object v x) 30) z y) (sym pg) (sym n)
            (Shape-frame v v' C A P (flags (object v x) 30) (page (object v x) 30) (two (object v x) 26) (go (used (object v x)) q b) s.0)),
        omega (arith, m, n, s.1),
      )
    where
      go : (y : ℕ) → 0 < y → blocks_r v (pick y (root_at (object v x) 30 (two (object v x) 26)) (run 0 0)) C ≡ 0 → blocks_r v (root_by (flags (object v x) 30) (page (object v x) 30) (two (object v x) 26)) C ≡ 0
      go zero i e = absurd (not-suc-le-zero i)
      go (suc y) i e = e

  pub shape_same : (C : ℕ → ℕ) → Agree C v v' → (x : ℕ) → ((k : ℕ) → k < 32 → object v' x k ≡ object v x k) → 0 < used (object v x) → blocks_r v (file_at v x) C ≡ 0
      → FileShape P v x → FileShape P v' x
  shape_same C A x w = shape-kept C A x (λ k i j. w k j)

module _ (P : ℕ) (v v' : Vol) (a f : ℕ) (ha : a < 256) (hf : f < 256) (E : Entries v v' a (256 * a + f)) where
  pub used-same : (u : ℕ) → u < 256 → u ≢ a → used (user v' u) ≡ used (user v u)
  used-same u h n = used-ext (user v' u) (user v u) (E.users u h n 0 (omega arith))

  pub given-same : (u : ℕ) → u < 256 → u ≢ a → given (user v') u ≡ given (user v) u
  unfolding given
  given-same u h n = two-ext (user v' u) (user v u) 14 (E.users u h n 14 (omega arith)) (E.users u h n 15 (omega arith))

  pub spent-same : (u : ℕ) → u < 256 → u ≢ a → used_pages (user v') u ≡ used_pages (user v) u
  unfolding used_pages
  spent-same u h n = two-ext (user v' u) (user v u) 16 (E.users u h n 16 (omega arith)) (E.users u h n 17 (omega arith))

  pub grant-same : (u : ℕ) → u < 256 → u ≢ a → grant (user v') u ≡ grant (user v) u
  unfolding grant
  grant-same u h n = ap₂ (λ (x y : ℕ). pick x y 0) (used-same u h n) (given-same u h n)

  pub rule4 : UserNew v' a → Rule4 (user v) → Rule4 (user v')
  unfolding Rule4Over
  rule4 N r = (ok, one)
    where
      ok : (u : ℕ) → u < 256 → 0 < used (user v' u) → UserOk (user v') u
      ok u h q = elim (ℕ_discrete u a) [
        | yes e ↦ subst (λ (x : ℕ). UserOk (user v') x) (sym e) (N.ok (subst (λ (x : ℕ). 0 < used (user v' x)) e q))
        | no n ↦
            let o : UserOk (user v) u = r.0 u h (omega (arith, used-same u h n)) in
            record {
              own = E.users u h n 18 (omega arith) ∙ o.own;
              name = Legal-ext (user v' u) (user v u) 1 1 16 (λ i j. E.users u h n (1 + i / 2) (omega arith)) o.name;
              within = omega (arith, o.within, given-same u h n, spent-same u h n);
            }
      ]

      one : (x y : ℕ) → x < 256 → y < 256 → 0 < used (user v' x) → 0 < used (user v' y) → SameName (user v' x) (user v' y) → x ≡ y
      one x y hx hy ux uy s = elim (ℕ_discrete x a) [
        | yes e ↦ elim (ℕ_discrete y a) [
          | yes e' ↦ e ∙ sym e'
          | no n ↦ absurd (N.alone y hy n uy (subst (λ (z : ℕ). 0 < used (user v' z)) e ux) (sym (subst (λ (z : ℕ). SameName (user v' z) (user v' y)) e s)))
        ]
        | no n ↦ elim (ℕ_discrete y a) [
          | yes e ↦ absurd (N.alone x hx n ux (subst (λ (z : ℕ). 0 < used (user v' z)) e uy) (subst (λ (z : ℕ). SameName (user v' x) (user v' z)) e s))
          | no m ↦ r.1 x y hx hy (omega (arith, used-same x hx n)) (omega (arith, used-same y hy m))
              (SameName-ext (user v x) (user v y) (user v' x) (user v' y) (λ i j. E.users x hx n (1 + i) (omega arith)) (λ i j. E.users y hy m (1 + i) (omega arith)) s)
        ]
      ]

  pub obj-used-same : (x : ℕ) → x < 65536 → x ≢ 256 * a + f → used (object v' x) ≡ used (object v x)
  obj-used-same x h n = used-ext (object v' x) (object v x) (E.files x h n 0 (omega arith))

  pub rule6 : FileNew P v' a f → ((h : ℕ) → h < 256 → 0 < used (object v' (256 * a + h)) → 0 < used (user v' a)) → Rule6 (user v) (object v) → Rule6 (user v') (object v')
  unfolding Rule6Over
  rule6 N keep r = (ok, one)
    where
      owner : (u h : ℕ) → u < 256 → h < 256 → 0 < used (object v' (256 * u + h)) → 0 < used (user v u) → 0 < used (user v' u)
      owner u h hu hh q o = elim (ℕ_discrete u a) [
        | yes e ↦ subst (λ (z : ℕ). 0 < used (user v' z)) (sym e) (keep h hh (subst (λ (z : ℕ). 0 < used (object v' (256 * z + h))) e q))
        | no n ↦ omega (arith, used-same u hu n)
      ]

      ok : (u h : ℕ) → u < 256 → h < 256 → 0 < used (object v' (256 * u + h)) → FileOk (user v') (object v') u (256 * u + h)
      ok u h hu hh q = elim (ℕ_discrete (256 * u + h) (256 * a + f)) [
        | yes e ↦
            let eu : u ≡ a = omega arith in let ef : h ≡ f = omega arith in
            subst₂ (λ (z w : ℕ). FileOk (user v') (object v') z w) (sym eu) (sym e) (N.ok (subst (λ (z : ℕ). 0 < used (object v' z)) e q))
        | no n ↦
            let x : ℕ = 256 * u + h in
            let hx : x < 65536 = omega arith in
            let o : FileOk (user v) (object v) u (256 * u + h) = r.0 u h hu hh (omega (arith, obj-used-same x hx n)) in
            record {
              owner = owner u h hu hh q o.owner;
              whose = E.files x hx n 16 (omega arith) ∙ o.whose;
              number = E.files x hx n 17 (omega arith) ∙ o.number;
              name = Legal-ext (object v' x) (object v x) 1 1 16 (λ i j. E.files x hx n (1 + i / 2) (omega arith)) o.name;
              type = Legal-ext (object v' x) (object v x) 9 0 4 (λ i j. E.files x hx n (9 + i / 2) (omega arith)) o.type;
            }
      ]

      one : (u x y : ℕ) → u < 256 → x < 256 → y < 256 → 0 < used (object v' (256 * u + x)) → 0 < used (object v' (256 * u + y))
          → SameFile (object v' (256 * u + x)) (object v' (256 * u + y)) → x ≡ y
      one u x y hu hx hy ux uy s = elim (ℕ_discrete (256 * u + x) (256 * a + f)) [
        | yes e ↦ elim (ℕ_discrete y f) [
          | yes e' ↦ omega arith
          | no n ↦
              let eu : u ≡ a = omega arith in
              absurd (N.alone y hy n (subst (λ (z : ℕ). 0 < used (object v' (256 * z + y))) eu uy) (subst (λ (z : ℕ). 0 < used (object v' z)) e ux)
              (SameFile-sym _ _ (subst₂ (λ (z w : ℕ). SameFile (object v' z) (object v' (256 * w + y))) e eu s)))
        ]
        | no n ↦ elim (ℕ_discrete (256 * u + y) (256 * a + f)) [
          | yes e ↦
              let eu : u ≡ a = omega arith in
              absurd (N.alone x hx (omega arith) (subst (λ (z : ℕ). 0 < used (object v' (256 * z + x))) eu ux) (subst (λ (z : ℕ). 0 < used (object v' z)) e uy)
              (subst₂ (λ (z w : ℕ). SameFile (object v' (256 * w + x)) (object v' z)) e eu s))
          | no m ↦
              let lx : 256 * u + x < 65536 = omega arith in let ly : 256 * u + y < 65536 = omega arith in
              r.1 u x y hu hx hy (omega (arith, obj-used-same (256 * u + x) lx n)) (omega (arith, obj-used-same (256 * u + y) ly m))
              (SameFile-ext _ _ _ _ (λ i j. E.files (256 * u + x) lx n (1 + i) (omega arith)) (λ i j. E.files (256 * u + y) ly m (1 + i) (omega arith)) s)
        ]
      ]

  pub rule7 : FileNew P v' a f → (C : ℕ → ℕ) → Agree C v v' → ((x : ℕ) → x < 65536 → x ≢ 256 * a + f → blocks_r v (file_at v x) C ≡ 0) → Rule7 P v → Rule7 P v'
  unfolding Rule7
  rule7 N C A b r x h q = elim (ℕ_discrete x (256 * a + f)) [
    | yes e ↦ subst (λ (z : ℕ). FileShape P v' z) (sym e) (N.shape (subst (λ (z : ℕ). 0 < used (object v' z)) e q))
    | no n ↦ let q' : 0 < used (object v x) = omega (arith, obj-used-same x h n) in shape_same P v v' C A x (E.files x h n) q' (b x h n) (r x h q')
  ]
