-- One file of one user changes, with his entry: all else stays. Assumes nothing.
use Rattle.std.specs.Prelude.{◌≡◌, ◌≢◌}
use Rattle.std.proofs.Math.Path.{sym, ap, subst}
use Rattle.std.proofs.Common.{◌∙◌, le_trans, eq-zero-or-pos}
use Rattle.std.proofs.Math.Logic.{inl, inr}
use Prim.Native.Nat.{ℕ, ◌+◌, ◌*◌, ◌/◌, ◌%◌, ◌≤◌, ◌<◌}
use Rattle.std.proofs.Math.Decide.{ℕ_discrete}
use native.Mathlib.Omega.{arith}
use Rattle.sums.specs.Sum.{sum, sum-at, sum-at₂, sum-none, sum-change}
use Rattle.book.specs.Bits.{bit_file, bit_page, bit, digit, bit_word, page_bits}
use Rattle.book.specs.Entries.{entry, user_file, object_file, user, object, used, used_pages, grant, unreserved}
use Rattle.book.specs.Files.{file_at}
use Rattle.book.specs.Holders.{hit, some, all, system, mine, system_pages}
use Rattle.book.specs.Pointers.{flags, object_pointer, unreserved_count}
use Rattle.book.specs.Rules.{Rule10}
use Rattle.book.specs.Trees.{Root, weigh_r, blocks_r, page_at}
use Rattle.book.specs.Words.{Vol, two, word}
use Rattle.laws.specs.Count.Good.{Good, bit_le, sound-within}
use Rattle.laws.specs.Count.Reach.{Within}
use Rattle.laws.specs.Frame.Fields.{Outside, outside}
use Rattle.laws.specs.Frame.Renewed.{Master, master-words, Entries, UserNew, FileNew, rule1, rule2, rule3, rule4, rule5, rule6, rule7, used-same, spent-same, grant-same}
use Rattle.laws.specs.Frame.Rest.{rest, all_rest, file-le}
use Rattle.laws.specs.Frame.Roots.{weigh_r-add, blocks_r-add, page_at-le, page_at-le₂, page_at-below, page_at-frame, weigh_r-frame, Roots, bits-root, users-root, objs-root, blocks_r-le, file-kept, mine-other, mine-change, all-change, weigh_r-nobody}
use Rattle.laws.specs.Tree.Slot.{Agree, word-zero, two-ext, hit-zero, hit_same, hit_other, hit-nobody}
use Rattle.laws.specs.Tree.Weigh.{BelowR}

-- two files
pub file-le₂ : (v : Vol) (g : ℕ → ℕ) (u f a b : ℕ) → u < 256 → f < 256 → a < 256 → b < 256 → 256 * u + f ≢ 256 * a + b
    → weigh_r v (file_at v (256 * u + f)) g + weigh_r v (file_at v (256 * a + b)) g ≤ sum 256 (λ u. mine v u g)
unfolding mine
file-le₂ v g u f a b hu hf ha hb ne =
    let F : ℕ → ℕ → ℕ = λ u f. weigh_r v (file_at v (256 * u + f)) g in
    elim (ℕ_discrete u a) [
      | yes e ↦ subst (λ (x : ℕ). F u f + F x b ≤ sum 256 (λ u. sum 256 (F u))) e
          (le_trans (sum-at₂ 256 (F u) f b hf hb (λ i. ne (omega arith))) (sum-at 256 (λ u. sum 256 (F u)) u hu))
      | no n ↦ omega (arith, sum-at 256 (F u) f hf, sum-at 256 (F a) b hb, sum-at₂ 256 (λ u. sum 256 (F u)) u a hu ha n)
    ]

all-nobody : (P : ℕ) (v : Vol) → all P v (hit 0) ≡ 0
unfolding all system mine
all-nobody P v = omega (
  arith,
  weigh_r-nobody v (hit 0) hit-nobody (bit_file P v),
  weigh_r-nobody v (hit 0) hit-nobody (user_file v),
  weigh_r-nobody v (hit 0) hit-nobody (object_file v),
  sum-none 256 (λ u. sum 256 (λ f. weigh_r v (file_at v (256 * u + f)) (hit 0))) (λ u i. sum-none 256 (λ f. weigh_r v (file_at v (256 * u + f)) (hit 0)) (λ f j. weigh_r-nobody v (hit 0) hit-nobody (file_at v (256 * u + f)))),
)

module _ (P : ℕ) (v : Vol) (hand : ℕ → ℕ) (G : Good P v hand) (pos : 0 < P) where
  W : Within P v
  W = sound-within P v G.most

  -- what all hold of one page
  one : (q : ℕ) → q < P → weigh_r v (bit_file P v) (hit q) + (weigh_r v (user_file v) (hit q) + weigh_r v (object_file v) (hit q) + sum 256 (λ u. mine v u (hit q))) ≤ 1
  unfolding rest
  one q h = omega (arith, G.held q h, bit_le P v q, all_rest P v (hit q))

  -- an object page is held by the object tree alone, and at the bottom; a user page likewise; no page is held by none
  pub obj-page : (n : ℕ) → (weigh_r v (bit_file P v) (hit (page_at v (object_file v) n)) ≡ 0) × (weigh_r v (user_file v) (hit (page_at v (object_file v) n)) ≡ 0)
      × (blocks_r v (object_file v) (hit (page_at v (object_file v) n)) ≡ 0) × (sum 256 (λ u. mine v u (hit (page_at v (object_file v) n))) ≡ 0)
  unfolding rest
  obj-page n =
      let q : ℕ = page_at v (object_file v) n in
      let le : blocks_r v (object_file v) (hit q) + hit q q ≤ weigh_r v (object_file v) (hit q) = page_at-le v (hit q) (hit-zero q) (object_file v) n in
      let bl : blocks_r v (object_file v) (hit q) ≤ weigh_r v (object_file v) (hit q) = blocks_r-le v (object_file v) (hit q) in
      let o = one q (page_at-below v P pos (object_file v) W.objs n) in
      elim (eq-zero-or-pos q) [
        | inl e ↦ let r : all P v (hit q) ≡ 0 = ap (λ (x : ℕ). all P v (hit x)) e ∙ all-nobody P v in let a = all_rest P v (hit q) in (omega arith, omega arith, omega arith, omega arith)
        | inr h ↦ let i : hit q q ≡ 1 = hit_same q h in (omega arith, omega arith, omega arith, omega arith)
      ]

  pub user-page : (n : ℕ) → (weigh_r v (bit_file P v) (hit (page_at v (user_file v) n)) ≡ 0) × (weigh_r v (object_file v) (hit (page_at v (user_file v) n)) ≡ 0)
      × (blocks_r v (user_file v) (hit (page_at v (user_file v) n)) ≡ 0) × (sum 256 (λ u. mine v u (hit (page_at v (user_file v) n))) ≡ 0)
  unfolding rest
  user-page n =
      let q : ℕ = page_at v (user_file v) n in
      let le : blocks_r v (user_file v) (hit q) + hit q q ≤ weigh_r v (user_file v) (hit q) = page_at-le v (hit q) (hit-zero q) (user_file v) n in
      let bl : blocks_r v (user_file v) (hit q) ≤ weigh_r v (user_file v) (hit q) = blocks_r-le v (user_file v) (hit q) in
      let o = one q (page_at-below v P pos (user_file v) W.users n) in
      elim (eq-zero-or-pos q) [
        | inl e ↦ let r : all P v (hit q) ≡ 0 = ap (λ (x : ℕ). all P v (hit x)) e ∙ all-nobody P v in let a = all_rest P v (hit q) in (omega arith, omega arith, omega arith, omega arith)
        | inr h ↦ let i : hit q q ≡ 1 = hit_same q h in (omega arith, omega arith, omega arith, omega arith)
      ]

  -- a page of a tree has one position
  pub position : (r : Root) → BelowR v P r → ((q : ℕ) → q < P → weigh_r v r (hit q) ≤ 1) → (n m : ℕ) → 0 < page_at v r n → page_at v r n ≡ page_at v r m → n ≡ m
  position r b le n m h e = elim (ℕ_discrete n m) [
    | yes i ↦ i
    | no ne ↦
        let q : ℕ = page_at v r n in
        omega (arith, page_at-le₂ v (hit q) (hit-zero q) r n m ne, hit_same q h, subst (λ (x : ℕ). hit q x ≡ 1) e (hit_same q h), le q (page_at-below v P pos r b n))
  ]

-- ---- one entry of an entry file changes: the others stay

module _ (v v' : Vol) (C : ℕ → ℕ) (A : Agree C v v') (r : Root) (bz : blocks_r v r C ≡ 0) (m : ℕ)
    (uniq : (i : ℕ) → 0 < page_at v r (m / 32) → page_at v r (m / 32) ≡ page_at v r i → m / 32 ≡ i)
    (far : (i : ℕ) → page_at v r i ≢ page_at v r (m / 32) → C (page_at v r i) ≡ 0)
    (near : (k : ℕ) → Outside m k → word v' (page_at v r (m / 32)) k ≡ word v (page_at v r (m / 32)) k) where
  pub entry_other : (n : ℕ) → n ≢ m → (k : ℕ) → k < 32 → entry v' r n k ≡ entry v r n k
  unfolding entry Agree
  entry_other n ne k h =
      let w : ℕ = 32 * (n % 32) + k in
      ap (λ (x : ℕ). word v' x w) (page_at-frame v v' C A r bz (n / 32)) ∙ elim (ℕ_discrete (page_at v r (n / 32)) (page_at v r (m / 32))) [
        | no d ↦ A (page_at v r (n / 32)) (far (n / 32) d) w
        | yes e ↦ elim (eq-zero-or-pos (page_at v r (m / 32))) [
          | inl z ↦ subst (λ (x : ℕ). word v' x w ≡ word v x w) (sym (e ∙ z)) (word-zero v' w ∙ sym (word-zero v w))
          | inr p ↦
              let same : m / 32 ≡ n / 32 = uniq (n / 32) p (sym e) in
              subst (λ (x : ℕ). word v' x w ≡ word v x w) (sym e) (near w (outside n m k (omega arith) h))
        ]
      ]

-- ---- the change

-- file f of user a, in a good volume
pub record Seat (P : ℕ) (v : Vol) (hand : ℕ → ℕ) (a f : ℕ) : Type 0 where
  pub good : Good P v hand
  pub pos : 0 < P
  pub ha : a < 256
  pub hf : f < 256

module _ {P : ℕ} {v : Vol} {hand : ℕ → ℕ} {a f : ℕ} (seat : Seat P v hand a f) where
  -- the pages of his entry, and of the file's
  abbrev U : ℕ
  U = page_at v (user_file v) (a / 32)

  abbrev O : ℕ
  O = page_at v (object_file v) ((256 * a + f) / 32)

  -- the pages at D are the file's own, or nobody's
  pub record Change (D : ℕ → ℕ) (v' : Vol) : Type 0 where
    pub none : D 0 ≡ 0
    pub only : all P v D ≡ weigh_r v (file_at v (256 * a + f)) D
    pub agree : Agree (λ x. D x + (hit O x + hit U x)) v v'
    pub master : (k : ℕ) → k < unreserved_count → v' 0 k ≡ v 0 k
    pub on_o : (k : ℕ) → Outside (256 * a + f) k → word v' O k ≡ word v O k
    pub on_u : (k : ℕ) → Outside a k → word v' U k ≡ word v U k

  module _ {D : ℕ → ℕ} {v' : Vol} (E : Change D v') where
    abbrev C : ℕ → ℕ
    C x = D x + (hit O x + hit U x)

    c0 : C 0 ≡ 0
    c0 = omega (arith, E.none, hit-zero O, hit-zero U)

    abbrev e : ℕ
    e = 256 * a + f

    -- the weights of C
    parts : (r : Root) → weigh_r v r C ≡ weigh_r v r D + (weigh_r v r (hit O) + weigh_r v r (hit U))
    parts r = omega (arith, weigh_r-add v D (λ x. hit O x + hit U x) r, weigh_r-add v (hit O) (hit U) r)

    parts_b : (r : Root) → blocks_r v r C ≡ blocks_r v r D + (blocks_r v r (hit O) + blocks_r v r (hit U))
    parts_b r = omega (arith, blocks_r-add v D (λ x. hit O x + hit U x) r, blocks_r-add v (hit O) (hit U) r)

    D-else : weigh_r v (bit_file P v) D + (weigh_r v (user_file v) D + weigh_r v (object_file v) D) + sum 256 (λ u. mine v u D) ≡ weigh_r v (file_at v e) D
    unfolding rest
    D-else = omega (arith, all_rest P v D, E.only)

    c-bits : weigh_r v (bit_file P v) C ≡ 0
    c-bits = omega (arith, parts (bit_file P v), D-else, file-le v D a f seat.ha seat.hf, (obj-page P v hand seat.good seat.pos (e / 32)).0, (user-page P v hand seat.good seat.pos (a / 32)).0)

    pub c-users : blocks_r v (user_file v) C ≡ 0
    c-users = omega (
      arith,
      parts_b (user_file v),
      D-else,
      file-le v D a f seat.ha seat.hf,
      blocks_r-le v (user_file v) D,
      blocks_r-le v (user_file v) (hit O),
      (obj-page P v hand seat.good seat.pos (e / 32)).1,
      (user-page P v hand seat.good seat.pos (a / 32)).2,
    )

    pub c-objs : blocks_r v (object_file v) C ≡ 0
    c-objs = omega (
      arith,
      parts_b (object_file v),
      D-else,
      file-le v D a f seat.ha seat.hf,
      blocks_r-le v (object_file v) D,
      blocks_r-le v (object_file v) (hit U),
      (obj-page P v hand seat.good seat.pos (e / 32)).2,
      (user-page P v hand seat.good seat.pos (a / 32)).1,
    )

    pub c-file : (u h : ℕ) → u < 256 → h < 256 → 256 * u + h ≢ e → weigh_r v (file_at v (256 * u + h)) C ≡ 0
    c-file u h hu hh ne = omega (
      arith,
      parts (file_at v (256 * u + h)),
      D-else,
      file-le₂ v D u h a f hu hh seat.ha seat.hf ne,
      file-le v (hit O) u h hu hh,
      file-le v (hit U) u h hu hh,
      (obj-page P v hand seat.good seat.pos (e / 32)).3,
      (user-page P v hand seat.good seat.pos (a / 32)).3,
    )

    roots : Roots v v'
    unfolding Roots
    roots k i j = E.master k j

    mast : Master v v'
    mast = master-words v v' (λ k i j. E.master k j)

    -- entries
    pub users-words : (u : ℕ) → u ≢ a → (k : ℕ) → k < 32 → user v' u k ≡ user v u k
    unfolding user
    users-words u n k h = ap (λ (r : Root). entry v' r u k) (users-root v v' roots)
        ∙ entry_other v v' C E.agree (user_file v) c-users a
        (λ i p q. position P v hand seat.good seat.pos (user_file v) (W P v hand seat.good seat.pos).users (λ q i. omega (arith, one P v hand seat.good seat.pos q i)) (a / 32) i p q)
        (λ i q. let x : ℕ = page_at v (user_file v) i in
        omega (
          arith,
          page_at-le v D E.none (user_file v) i,
          page_at-le v (hit O) (hit-zero O) (user_file v) i,
          hit_other U x q,
          D-else,
          file-le v D a f seat.ha seat.hf,
          (obj-page P v hand seat.good seat.pos (e / 32)).1,
        ))
        E.on_u u n k h

    pub objs-words : (x : ℕ) → x ≢ e → (k : ℕ) → k < 32 → object v' x k ≡ object v x k
    unfolding object
    objs-words x n k h = ap (λ (r : Root). entry v' r x k) (objs-root v v' roots)
        ∙ entry_other v v' C E.agree (object_file v) c-objs e
        (λ i p q. position P v hand seat.good seat.pos (object_file v) (W P v hand seat.good seat.pos).objs (λ q i. omega (arith, one P v hand seat.good seat.pos q i)) (e / 32) i p q)
        (λ i q. let y : ℕ = page_at v (object_file v) i in
        omega (
          arith,
          page_at-le v D E.none (object_file v) i,
          page_at-le v (hit U) (hit-zero U) (object_file v) i,
          hit_other O y q,
          D-else,
          file-le v D a f seat.ha seat.hf,
          (user-page P v hand seat.good seat.pos (a / 32)).1,
        ))
        E.on_o x n k h

    pub entries : Entries v v' a e
    entries = record { users = λ u h n k i. users-words u n k i; files = λ x h n k i. objs-words x n k i }

    -- the words of the changed entries are where they were
    pub user-at : (k : ℕ) → user v' a k ≡ word v' U (32 * (a % 32) + k)
    unfolding user entry
    user-at k = ap (λ (r : Root). word v' (page_at v' r (a / 32)) (32 * (a % 32) + k)) (users-root v v' roots)
        ∙ ap (λ (x : ℕ). word v' x (32 * (a % 32) + k)) (page_at-frame v v' C E.agree (user_file v) c-users (a / 32))

    pub obj-at : (k : ℕ) → object v' e k ≡ word v' O (32 * (e % 32) + k)
    unfolding object entry
    obj-at k = ap (λ (r : Root). word v' (page_at v' r (e / 32)) (32 * (e % 32) + k)) (objs-root v v' roots)
        ∙ ap (λ (x : ℕ). word v' x (32 * (e % 32) + k)) (page_at-frame v v' C E.agree (object_file v) c-objs (e / 32))

    pub bits-same : (p : ℕ) → p < P → bit P v' p ≡ bit P v p
    unfolding bit bit_page Agree
    bits-same p h =
        ap (λ (r : Root). digit (p % 16) (word v' (page_at v' r (p / page_bits)) (bit_word p))) (bits-root v v' roots P)
        ∙ ap (λ (x : ℕ). digit (p % 16) (word v' x (bit_word p))) (page_at-frame v v' C E.agree (bit_file P v) (omega (arith, c-bits, blocks_r-le v (bit_file P v) C)) (p / page_bits))
        ∙ ap (digit (p % 16)) (E.agree (page_at v (bit_file P v) (p / page_bits)) (omega (arith, c-bits, page_at-le v C c0 (bit_file P v) (p / page_bits))) (bit_word p))

    -- the trees' weights
    pub zero_b : (r : Root) → weigh_r v r C ≡ 0 → blocks_r v r C ≡ 0
    zero_b r h = omega (arith, blocks_r-le v r C)

    pub file-root : (x : ℕ) → x ≢ e → file_at v' x ≡ file_at v x
    file-root x n = file-kept v v' x (record {
      head = objs-words x n 0 (omega arith);
      pages = two-ext (object v' x) (object v x) 26 (objs-words x n 26 (omega arith)) (objs-words x n 27 (omega arith));
      ptr = objs-words x n 30 (omega arith);
      ptr' = objs-words x n 31 (omega arith);
    })

    pub w-file : (g : ℕ → ℕ) (u h : ℕ) → u < 256 → h < 256 → 256 * u + h ≢ e → weigh_r v' (file_at v' (256 * u + h)) g ≡ weigh_r v (file_at v (256 * u + h)) g
    w-file g u h hu hh n = ap (λ (r : Root). weigh_r v' r g) (file-root (256 * u + h) n)
        ∙ weigh_r-frame v v' C E.agree (file_at v (256 * u + h)) (zero_b _ (c-file u h hu hh n)) g

    w-bits : (g : ℕ → ℕ) → weigh_r v' (bit_file P v') g ≡ weigh_r v (bit_file P v) g
    w-bits g = ap (λ (r : Root). weigh_r v' r g) (bits-root v v' roots P) ∙ weigh_r-frame v v' C E.agree (bit_file P v) (zero_b _ c-bits) g

    w-users : (g : ℕ → ℕ) → weigh_r v' (user_file v') g ≡ weigh_r v (user_file v) g
    w-users g = ap (λ (r : Root). weigh_r v' r g) (users-root v v' roots) ∙ weigh_r-frame v v' C E.agree (user_file v) c-users g

    w-objs : (g : ℕ → ℕ) → weigh_r v' (object_file v') g ≡ weigh_r v (object_file v) g
    w-objs g = ap (λ (r : Root). weigh_r v' r g) (objs-root v v' roots) ∙ weigh_r-frame v v' C E.agree (object_file v) c-objs g

    pub edit-sys : (g : ℕ → ℕ) → system P v' g ≡ system P v g
    unfolding system
    edit-sys g = omega (arith, w-bits g, w-users g, w-objs g)

    pub edit-all : (g : ℕ → ℕ) → all P v' g + weigh_r v (file_at v e) g ≡ all P v g + weigh_r v' (file_at v' e) g
    edit-all g = all-change P v v' g a f seat.ha seat.hf (w-bits g) (w-users g) (w-objs g) (w-file g)

    pub edit-mine : (g : ℕ → ℕ) → mine v' a g + weigh_r v (file_at v e) g ≡ mine v a g + weigh_r v' (file_at v' e) g
    edit-mine g = mine-change P v v' g a f seat.ha seat.hf (w-bits g) (w-users g) (w-objs g) (w-file g)

    pub edit-others : (g : ℕ → ℕ) (u : ℕ) → u < 256 → u ≢ a → mine v' u g ≡ mine v u g
    edit-others g = mine-other P v v' g a f seat.ha seat.hf (w-bits g) (w-users g) (w-objs g) (w-file g)

    -- ---- so the rules hold again, if they do for his entry and the file's

    pub record Fine (gone new : (ℕ → ℕ) → ℕ) (hand' : ℕ → ℕ) : Type 0 where
      pub weight : (g : ℕ → ℕ) → g 0 ≡ 0 → weigh_r v' (file_at v' e) g + gone g ≡ weigh_r v (file_at v e) g + new g
      pub hands : (p : ℕ) → p < P → hand' p + new (hit p) ≡ hand p + gone (hit p)
      pub user_new : UserNew v' a
      pub file_new : FileNew P v' a f
      pub owner : (h : ℕ) → h < 256 → 0 < used (object v' (256 * a + h)) → 0 < used (user v' a)
      pub high : flags (v 0) object_pointer ≡ 1 → 63 < a → used (user v' a) ≡ 0
      pub balance : two (v' 0) unreserved_count + grant (user v') a ≡ two (v 0) unreserved_count + grant (user v) a
      pub count : 0 < used (user v' a) → used_pages (user v') a ≡ mine v' a some

    module _ (gone new : (ℕ → ℕ) → ℕ) (hand' : ℕ → ℕ) (F : Fine gone new hand') where
      grant-else : (u : ℕ) → u < 256 → u ≢ a → grant (user v') u ≡ grant (user v) u
      grant-else u h n = grant-same P v v' a f seat.ha seat.hf entries u h n

      b-file : (x : ℕ) → x < 65536 → x ≢ e → blocks_r v (file_at v x) C ≡ 0
      b-file x h n = let s : 256 * (x / 256) + x % 256 ≡ x = omega arith in
          subst (λ (y : ℕ). blocks_r v (file_at v y) C ≡ 0) s (zero_b _ (c-file (x / 256) (x % 256) (omega arith) (omega arith) (λ i. n (omega arith))))

      ten : Rule10 P v'
      unfolding Rule10 unreserved system_pages
      ten = (each, omega (arith, seat.good.most.r10.1, F.balance, edit-sys some, sum-change 256 (grant (user v)) (grant (user v')) a seat.ha grant-else))
        where
          each : (u : ℕ) → u < 256 → 0 < used (user v' u) → used_pages (user v') u ≡ mine v' u some
          each u h q = elim (ℕ_discrete u a) [
            | yes i ↦ subst (λ (x : ℕ). used_pages (user v') x ≡ mine v' x some) (sym i) (F.count (subst (λ (x : ℕ). 0 < used (user v' x)) i q))
            | no n ↦ omega (
              arith,
              spent-same P v v' a f seat.ha seat.hf entries u h n,
              edit-others some u h n,
              seat.good.most.r10.0 u h (omega (arith, used-same P v v' a f seat.ha seat.hf entries u h n)),
            )
          ]

      five : flags (v 0) object_pointer ≡ 1 → (u : ℕ) → 63 < u → u < 256 → used (user v u) ≡ 0 → used (user v' u) ≡ 0
      five k u i j z = elim (ℕ_discrete u a) [
        | yes q ↦ subst (λ (x : ℕ). used (user v' x) ≡ 0) (sym q) (F.high k (omega arith))
        | no n ↦ used-same P v v' a f seat.ha seat.hf entries u j n ∙ z
      ]

      pub edit-good : Good P v' hand'
      edit-good = record {
        most = record {
          r1 = rule1 P v v' mast seat.good.most.r1;
          r2 = rule2 P v v' mast seat.good.most.r2;
          r3 = rule3 P v v' mast C c0 E.agree seat.good.most.r2 c-users seat.good.most.r3;
          r4 = rule4 P v v' a f seat.ha seat.hf entries F.user_new seat.good.most.r4;
          r5 = rule5 P v v' mast C c0 E.agree seat.good.most.r2 c-objs five seat.good.most.r5;
          r6 = rule6 P v v' a f seat.ha seat.hf entries F.file_new F.owner seat.good.most.r6;
          r7 = rule7 P v v' a f seat.ha seat.hf entries F.file_new C E.agree b-file seat.good.most.r7;
          r10 = ten;
        };
        held = λ p h. omega (arith, bits-same p h, seat.good.held p h, edit-all (hit p), F.weight (hit p) (hit-zero p), F.hands p h);
      }
