-- The pages of a root by role: to count a page is to find its role. Assumes nothing.
use Rattle.std.specs.Prelude.{◌≡◌, ◌≢◌}
use Rattle.std.proofs.Math.Path.{refl, ap}
use Rattle.std.proofs.Common.{sym, ◌∙◌, subst, subst₂, inl, inr, eq-zero-or-pos}
use Prim.Native.Nat.{ℕ, zero, suc, ◌+◌, ◌-◌, ◌^◌, ◌≤◌, ◌<◌, zero-le}
use Rattle.std.proofs.Math.Nat.{le_refl}
use Rattle.std.proofs.Math.Decide.{dec_lt}
use native.Mathlib.Omega.{arith}
use Rattle.std.proofs.Math.Arith.{lt-one}
use Rattle.sums.specs.Sum.{sum-at, sum-find}
use Rattle.book.specs.declared.Role.{Role}
use Rattle.book.specs.declared.Role.TheVariants.{Subindex, Index, Data}
use Rattle.book.specs.Holders.{hit, role_page}
use Rattle.book.specs.Trees.{Root, tree, run, weigh_r, leaf, upto, page_at, index_at, subindex_of, root_by}
use Rattle.book.specs.Words.{Vol}
use Rattle.laws.specs.Count.Sums.{Twice, apart, within, sum-find₂}
use Rattle.laws.specs.Frame.Roots.{upto-in, upto-out}
use Rattle.laws.specs.Tree.Node.{Node, node-pos, node-one, node-find, node-find₂}
use Rattle.laws.specs.Tree.Slot.{hit_same, hit-le, hit-eq}

-- ---- a role in a tree of level l is a node of it

-- by depth and place
unfoldable pub At : ℕ → Role → ℕ → ℕ → Type 0
At l Subindex j n = (2 ≤ l) × (j ≡ 0) × (n ≡ 0)
At l (Index m) j n = (suc j ≡ l) × (n ≡ m)
At l (Data m) j n = (j ≡ l) × (n ≡ m)

-- a node has one role, and a role one node
at-role : (l j n : ℕ) (x y : Role) → At l x j n → At l y j n → x ≡ y
unfolding At
at-role l j n Subindex Subindex a b = refl
at-role l j n Subindex (Index m) a b = absurd (omega arith)
at-role l j n Subindex (Data m) a b = absurd (omega arith)
at-role l j n (Index k) Subindex a b = absurd (omega arith)
at-role l j n (Index k) (Index m) a b = ap Index (sym a.1 ∙ b.1)
at-role l j n (Index k) (Data m) a b = absurd (omega arith)
at-role l j n (Data k) Subindex a b = absurd (omega arith)
at-role l j n (Data k) (Index m) a b = absurd (omega arith)
at-role l j n (Data k) (Data m) a b = ap Data (sym a.1 ∙ b.1)

at-node : (l : ℕ) (x : Role) (j n j' n' : ℕ) → At l x j n → At l x j' n' → (j ≡ j') × (n ≡ n')
unfolding At
at-node l Subindex j n j' n' a b = (omega arith, omega arith)
at-node l (Index m) j n j' n' a b = (omega arith, omega arith)
at-node l (Data m) j n j' n' a b = (omega arith, omega arith)

-- a position with a page is one of the file
pub upto-pos : (n m x p : ℕ) → 0 < p → upto n m x ≡ p → (n < m) × (x ≡ p)
upto-pos n m x p pos e = elim (dec_lt n m) [
  | yes h ↦ (h, sym (upto-in n m x h) ∙ e)
  | no h ↦ absurd (omega (arith, e, upto-out n m x (omega arith)))
]

module _ (v : Vol) (p : ℕ) where
  role-node : 0 < p → (l t : ℕ) (x : Role) → role_page v (tree l t) x ≡ p → (a : Node v p l t) × At l x a.depth a.place
  unfolding subindex_of index_at page_at leaf At
  role-node pos zero t Subindex e = absurd (omega arith)
  role-node pos (suc zero) t Subindex e = absurd (omega arith)
  role-node pos (suc (suc l)) t Subindex e = (record { depth = 0; place = 0; deep = zero-le; room = le_refl 1; here = e }, (omega arith, refl, refl))
  role-node pos zero t (Index n) e = absurd (omega arith)
  role-node pos (suc l) t (Index n) e = let u = upto-pos n (512 ^ l) (leaf v l t n) p pos e in
      (record { depth = l; place = n; deep = omega arith; room = u.0; here = u.1 }, (refl, refl))
  role-node pos l t (Data n) e = let u = upto-pos n (512 ^ l) (leaf v l t n) p pos e in
      (record { depth = l; place = n; deep = le_refl l; room = u.0; here = u.1 }, (refl, refl))

  leaf-page : (l m t : ℕ) (a : Node v p l t) (i : ℕ) → a.depth ≡ i → a.place ≡ m → upto m (512 ^ i) (leaf v i t m) ≡ p
  leaf-page l m t a i e q =
      subst₂ (λ (i m : ℕ). upto m (512 ^ i) (leaf v i t m) ≡ p) e q (upto-in a.place (512 ^ a.depth) (leaf v a.depth t a.place) a.room ∙ a.here)

  -- and back
  node-page : (l t : ℕ) (x : Role) (a : Node v p l t) → At l x a.depth a.place → role_page v (tree l t) x ≡ p
  unfolding subindex_of index_at page_at leaf At
  node-page zero t Subindex a h = absurd (omega arith)
  node-page (suc zero) t Subindex a h = absurd (omega arith)
  node-page (suc (suc l)) t Subindex a h = ap (λ (j : ℕ). leaf v j t a.place) (sym h.1) ∙ a.here
  node-page zero t (Index m) a h = absurd (omega arith)
  node-page (suc l) t (Index m) a h = leaf-page (suc l) m t a l (omega arith) h.1
  node-page l t (Data m) a h = leaf-page l m t a l h.0 h.1

-- the role of a page at place n with h levels below it, in a tree of level 1 or 2
abbrev pub role_by : ℕ → ℕ → Role
role_by zero n = Data n
role_by (suc zero) n = Index n
role_by (suc (suc h)) n = Subindex

at-by : (l h j n : ℕ) → 0 < l → l ≤ 2 → h + j ≡ l → n < 512 ^ j → At l (role_by h n) j n
unfolding At
at-by l zero j n pos le e i = (omega arith, refl)
at-by l (suc zero) j n pos le e i = (omega arith, refl)
at-by l (suc (suc h)) j n pos le e i = let z : j ≡ 0 = omega arith in (omega arith, z, lt-one (subst (λ (x : ℕ). n < 512 ^ x) z i))

-- what a search that counts levels has found
pub role-by : (v : Vol) (p l t h j n : ℕ) → 0 < l → l ≤ 2 → h + j ≡ l → n < 512 ^ j → leaf v j t n ≡ p → role_page v (tree l t) (role_by h n) ≡ p
role-by v p l t h j n pos le e i q =
    node-page v p l t (role_by h n) (record { depth = j; place = n; deep = omega arith; room = i; here = q }) (at-by l h j n pos le e i)

node-role : {v : Vol} {p l t : ℕ} → 0 < l → l ≤ 2 → (a : Node v p l t) → (x : Role) × At l x a.depth a.place
node-role {l = l} pos le a = (role_by (l - a.depth) a.place, at-by l (l - a.depth) a.depth a.place pos le (omega arith) a.room)

-- ---- roots

-- a run, or a tree of level 1 or 2
unfoldable pub Shallow : Root → Type 0
Shallow (tree l t) = (0 < l) × (l ≤ 2)
Shallow (run s m) = Unit {0}

-- what a pointer stands for is that
pub shallow-by : (x t n : ℕ) → Shallow (root_by x t n)
unfolding root_by Shallow
shallow-by zero t n = tt
shallow-by (suc zero) t n = (omega arith, omega arith)
shallow-by (suc (suc zero)) t n = (omega arith, omega arith)
shallow-by (suc (suc (suc x))) t n = tt

module _ (v : Vol) (p : ℕ) where
  -- a page with a role is counted
  pub role-pos : 0 < p → (r : Root) (x : Role) → role_page v r x ≡ p → 0 < weigh_r v r (hit p)
  unfolding weigh_r subindex_of index_at page_at
  role-pos pos (tree l t) x e = node-pos v p l t pos (role-node v p pos l t x e).0
  role-pos pos (run s m) Subindex e = omega arith
  role-pos pos (run s m) (Index n) e = omega arith
  role-pos pos (run s m) (Data n) e = let u = upto-pos n m (s + n) p pos e in
      omega (arith, sum-at m (λ i. hit p (s + i)) n u.0, ap (hit p) u.1, hit_same p pos)

  -- one that is counted at most once has one role
  pub role-one : 0 < p → (r : Root) → weigh_r v r (hit p) ≤ 1 → (x y : Role) → role_page v r x ≡ p → role_page v r y ≡ p → x ≡ y
  unfolding weigh_r subindex_of index_at page_at
  role-one pos (tree l t) le x y e i =
      let a = role-node v p pos l t x e in let b = role-node v p pos l t y i in
      let q = node-one v p l t pos le a.0 b.0 in
      at-role l _ _ x y a.1 (subst₂ (λ (j n : ℕ). At l y j n) (sym q.0) (sym q.1) b.1)
  role-one pos (run s m) le Subindex y e i = absurd (omega arith)
  role-one pos (run s m) le (Index n) y e i = absurd (omega arith)
  role-one pos (run s m) le (Data n) Subindex e i = absurd (omega arith)
  role-one pos (run s m) le (Data n) (Index k) e i = absurd (omega arith)
  role-one pos (run s m) le (Data n) (Data k) e i = ap Data (omega (arith, (upto-pos n m (s + n) p pos e).1, (upto-pos k m (s + k) p pos i).1))

  -- one that is counted has a role, one that has none is not counted, and one that is counted twice has two
  pub role-find : (r : Root) → Shallow r → 0 < weigh_r v r (hit p) → (x : Role) × (role_page v r x ≡ p)
  unfolding weigh_r page_at Shallow
  role-find (tree l t) sh h =
      let a = node-find v p l t h in let x = node-role sh.0 sh.1 a in
      (x.0, node-page v p l t x.0 a x.1)
  role-find (run s m) sh h = let i = sum-find m (λ i. hit p (s + i)) h in
      (Data i.0, upto-in i.0 m (s + i.0) i.1 ∙ hit-eq p (s + i.0) i.2)

  pub role-none : (r : Root) → Shallow r → ((x : Role) → role_page v r x ≢ p) → weigh_r v r (hit p) ≡ 0
  role-none r sh none = elim (eq-zero-or-pos (weigh_r v r (hit p))) [
    | inl z ↦ z
    | inr q ↦ let x = role-find r sh q in absurd (none x.0 x.1)
  ]

  pub role-find₂ : (r : Root) → Shallow r → 2 ≤ weigh_r v r (hit p) → (x : Role) × (y : Role) × (x ≢ y) × (role_page v r x ≡ p) × (role_page v r y ≡ p)
  unfolding weigh_r Shallow
  role-find₂ (tree l t) sh h =
      let ab = node-find₂ v p l t h in let a = ab.0 in let b = ab.1 in
      let x = node-role sh.0 sh.1 a in
      let y = node-role sh.0 sh.1 b in
      let d : x.0 ≢ y.0 = λ e. let q = at-node l x.0 _ _ _ _ x.1 (subst (λ (z : Role). At l z b.depth b.place) (sym e) y.1) in ab.2 q.0 q.1 in
      (x.0, y.0, d, node-page v p l t x.0 a x.1, node-page v p l t y.0 b y.1)
  role-find₂ (run s m) sh h = absurd (go (sum-find₂ m (λ i. hit p (s + i)) h))
    where
      go : Twice m (λ i. hit p (s + i)) → ⊥
      go (apart i j hi hj ne pi pj) = ne (omega (arith, hit-eq p (s + i) pi, hit-eq p (s + j) pj))
      go (within i hi pi) = omega (arith, hit-le p (s + i))
