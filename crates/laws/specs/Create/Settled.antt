-- A page of zeros becomes a page of the object file: a pointer to it is stored in one of its blocks. Assumes nothing.
use Rattle.std.specs.Prelude.{◌≡◌, ◌≢◌}
use Rattle.std.proofs.Math.Path.{refl, sym, ap, ap₂, subst, subst₂, fun_ext}
use Rattle.std.proofs.Common.{◌∙◌, mod-lt, eq-zero-or-pos}
use Rattle.std.proofs.Math.Logic.{inl, inr}
use Prim.Native.Nat.{ℕ, zero, suc, ◌+◌, ◌*◌, ◌/◌, ◌%◌, ◌^◌, ◌≤◌, ◌<◌}
use Rattle.std.proofs.Math.Decide.{ℕ_discrete, dec_lt}
use native.Mathlib.Omega.{arith}
use Rattle.sums.specs.Search.{pick}
use Rattle.sums.specs.Sum.{sum, sum-ext, sum-none, sum-only}
use Rattle.book.specs.Bits.{bit_file, bit_page, bit_pages, bit, digit, bit_word, page_bits}
use Rattle.book.specs.Entries.{Table, entry, user_file, object_file, user, object, used, used_pages, grant, unreserved}
use Rattle.book.specs.Files.{file_at}
use Rattle.book.specs.Holders.{hit, some, all, system, mine, system_pages}
use Rattle.book.specs.Pointers.{slot, flags, page, Inside, bit_pointer, object_pointer, unreserved_count, user_pointer, volume_name}
use Rattle.book.specs.Rules.{Rule1, Rule2, Rule3, Rule4, Rule5, Rule5By, Rule6, Rule7, Rule10}
use Rattle.book.specs.Trees.{Root, tree, run, weigh, blocks, leaf, weigh_r, blocks_r, page_at, upto, root_at, Below}
use Rattle.book.specs.Words.{Vol, two, word}
use Rattle.laws.specs.Bits.Claim.{InHand, hand-pos}
use Rattle.laws.specs.Count.Good.{Good, bit_le}
use Rattle.laws.specs.Count.Sums.{sum-tight}
use Rattle.laws.specs.Create.Vacant.{Vacant}
use Rattle.laws.specs.File.Named.{Legal-ext}
use Rattle.laws.specs.Frame.Renewed.{Master, flags-at, page-at, rule1, rule2, shape_same}
use Rattle.laws.specs.Frame.Rest.{rest, all_rest, file-le}
use Rattle.laws.specs.Frame.Roots.{weigh_r-nobody, upto-in, upto-out, page_at-le, page_at-frame, weigh_r-frame, entry_frame, Roots, bits-root, users-root, objs-root, blocks_r-le}
use Rattle.laws.specs.Tree.Pointer.{root-1, root-2, zero_flags, flags-ext, page-ext, root_at-ext}
use Rattle.laws.specs.Tree.Slot.{Agree, some-zero, some-pos, hit-zero, hit_same, word-zero, slot-zero, slot_same}
use Rattle.laws.specs.Tree.Weigh.{weigh-nobody, below-zero, Link, weigh-link, weigh-none, Below-frame, blocks-le, pow_pos, slot_lt, leaf-zero}

-- under a page of zeros there are only zeros
leaf-bare : (v : Vol) (d : ℕ) → ((j : ℕ) → word v d j ≡ 0) → ((j : ℕ) → slot v d j ≡ 0) → (l n j : ℕ) → word v (leaf v l d n) j ≡ 0
unfolding leaf
leaf-bare v d z s zero n j = z j
leaf-bare v d z s (suc l) n j = ap (λ (x : ℕ). word v x j) (ap (λ (x : ℕ). leaf v l x (n % 512 ^ l)) (s (n / 512 ^ l)) ∙ leaf-zero v l (n % 512 ^ l)) ∙ word-zero v j

module _ (v v' : Vol) (X k d : ℕ) (L : Link v v' X k d) (z : (j : ℕ) → word v' d j ≡ 0) (zs : (j : ℕ) → slot v' d j ≡ 0) where
  -- the words at each position stay, if X is no page at the bottom
  pub leaf-link : (l t n j : ℕ) → n < 512 ^ l → weigh v l t (hit X) ≤ blocks v l t (hit X) → word v' (leaf v' l t n) j ≡ word v (leaf v l t n) j
  unfolding leaf weigh blocks
  leaf-link zero t n j h le = L.rest t (λ e. omega (arith, le, subst (λ (x : ℕ). hit X x ≡ 1) (sym e) (hit_same X L.real))) j
  leaf-link (suc l) t n j h le =
      let i : ℕ = n / 512 ^ l in
      let m : ℕ = n % 512 ^ l in
      let tight : weigh v l (slot v t i) (hit X) ≤ blocks v l (slot v t i) (hit X) =
      sum-tight 512 (λ k. blocks v l (slot v t k) (hit X)) (λ k. weigh v l (slot v t k) (hit X)) (λ k q. blocks-le v (hit X) l (slot v t k)) (omega (arith, le)) i (slot_lt l n h) in
      let down : slot v' t i ≡ slot v t i → word v' (leaf v' l (slot v' t i) m) j ≡ word v (leaf v l (slot v t i) m) j = λ s.
      ap (λ (x : ℕ). word v' (leaf v' l x m) j) s ∙ leaf-link l (slot v t i) m j (mod-lt n (pow_pos l)) tight in
      elim (ℕ_discrete t X) [
        | no ne ↦ down (slot_same v v' t (L.rest t ne) i)
        | yes e ↦ elim (ℕ_discrete i k) [
          | no ne ↦ down (subst (λ (x : ℕ). slot v' x i ≡ slot v x i) (sym e) (L.others i ne))
          | yes q ↦
              let now : slot v' t i ≡ d = ap₂ (slot v') e q ∙ L.now in
              let was : slot v t i ≡ 0 = ap₂ (slot v) e q ∙ L.was in
              ap (λ (x : ℕ). word v' (leaf v' l x m) j) now ∙ leaf-bare v' d z zs l m j
              ∙ sym (ap (λ (x : ℕ). word v (leaf v l x m) j) was ∙ ap (λ (x : ℕ). word v x j) (leaf-zero v l m) ∙ word-zero v j)
        ]
      ]

  pub entry-link : (r : Root) → weigh_r v r (hit X) ≤ blocks_r v r (hit X) → (n j : ℕ) → entry v' r n j ≡ entry v r n j
  unfolding entry page_at weigh_r blocks_r
  entry-link (tree l t) le n j = elim (dec_lt (n / 32) (512 ^ l)) [
    | yes h ↦ ap (λ (x : ℕ). word v' x (32 * (n % 32) + j)) (upto-in (n / 32) (512 ^ l) (leaf v' l t (n / 32)) h) ∙ leaf-link l t (n / 32) (32 * (n % 32) + j) h le
        ∙ sym (ap (λ (x : ℕ). word v x (32 * (n % 32) + j)) (upto-in (n / 32) (512 ^ l) (leaf v l t (n / 32)) h))
    | no h ↦ ap (λ (x : ℕ). word v' x (32 * (n % 32) + j)) (upto-out (n / 32) (512 ^ l) (leaf v' l t (n / 32)) (omega arith)) ∙ word-zero v' _
        ∙ sym (ap (λ (x : ℕ). word v x (32 * (n % 32) + j)) (upto-out (n / 32) (512 ^ l) (leaf v l t (n / 32)) (omega arith)) ∙ word-zero v _)
  ]
  entry-link (run s m) le n j = L.rest (upto (n / 32) m (s + n / 32)) (λ e.
      omega (arith, le, page_at-le v (hit X) (hit-zero X) (run s m) (n / 32), subst (λ (x : ℕ). hit X x ≡ 1) (sym e) (hit_same X L.real))) (32 * (n % 32) + j)

  pub weigh_r-link : (r : Root) (g : ℕ → ℕ) → g 0 ≡ 0 → weigh_r v' r g ≡ weigh_r v r g + blocks_r v r (hit X) * g d
  unfolding weigh_r blocks_r
  weigh_r-link (tree l t) g g0 = weigh-link v v' X k d L g g0 l t
  weigh_r-link (run s n) g g0 = omega arith

  below-bare : (P : ℕ) → d < P → 0 < P → (m : ℕ) → Below v' P m d
  unfolding Below
  below-bare P ld pp zero = ld
  below-bare P ld pp (suc m) = (ld, λ j h. subst (λ (x : ℕ). Below v' P m x) (sym (zs j)) (below-zero v' P m pp))

  pub Below-link : (P : ℕ) → d < P → 0 < P → (l t : ℕ) → Below v P l t → Below v' P l t
  unfolding Below
  Below-link P ld pp zero t b = b
  Below-link P ld pp (suc l) t b = (
    b.0,
    λ j h.
        let rec : Below v' P l (slot v t j) = Below-link P ld pp l (slot v t j) (b.1 j h) in
        elim (ℕ_discrete t X) [
          | no ne ↦ subst (λ (x : ℕ). Below v' P l x) (sym (slot_same v v' t (L.rest t ne) j)) rec
          | yes e ↦ elim (ℕ_discrete j k) [
            | no ne ↦ subst (λ (x : ℕ). Below v' P l x) (sym (subst (λ (x : ℕ). slot v' x j ≡ slot v x j) (sym e) (L.others j ne))) rec
            | yes q ↦ subst (λ (x : ℕ). Below v' P l x) (sym (ap₂ (slot v') e q ∙ L.now)) (below-bare P ld pp l)
          ]
        ],
  )

-- ---- the system's trees change, and every entry reads as before

pub record Settled (P : ℕ) (v v' : Vol) (C : ℕ → ℕ) (new : (ℕ → ℕ) → ℕ) : Type 0 where
  pub none : C 0 ≡ 0
  pub agree : Agree C v v'
  pub no_bits : weigh_r v (bit_file P v) C ≡ 0
  pub no_files : sum 256 (λ u. mine v u C) ≡ 0
  pub bits : bit_file P v' ≡ bit_file P v
  pub rule-1 : Rule1 P v'
  pub rule-2 : Rule2 P v'
  pub rule-3 : Rule3 P v'
  pub rule-5 : Rule5 P v'
  pub users : user v' ≡ user v
  pub objs : object v' ≡ object v
  pub weight : (g : ℕ → ℕ) → g 0 ≡ 0 → system P v' g ≡ system P v g + new g
  pub pay : two (v' 0) unreserved_count + new some ≡ two (v 0) unreserved_count

module _ {P : ℕ} {v v' : Vol} {hand C : ℕ → ℕ} {new : (ℕ → ℕ) → ℕ} (G : Good P v hand) (T : Settled P v v' C new) where
  pub file-same : (e : ℕ) → file_at v' e ≡ file_at v e
  unfolding file_at
  file-same e = ap (λ (O : Table). pick (used (O e)) (root_at (O e) 30 (two (O e) 26)) (run 0 0)) T.objs

  zero_b : (r : Root) → weigh_r v r C ≡ 0 → blocks_r v r C ≡ 0
  zero_b r h = omega (arith, blocks_r-le v r C)

  file_c : (u f : ℕ) → u < 256 → f < 256 → weigh_r v (file_at v (256 * u + f)) C ≡ 0
  file_c u f h i = omega (arith, file-le v C u f h i, T.no_files)

  mine-same : (g : ℕ → ℕ) (u : ℕ) → u < 256 → mine v' u g ≡ mine v u g
  unfolding mine
  mine-same g u h = sum-ext 256 (λ f. weigh_r v' (file_at v' (256 * u + f)) g) (λ f. weigh_r v (file_at v (256 * u + f)) g)
      (λ f i. ap (λ (r : Root). weigh_r v' r g) (file-same (256 * u + f)) ∙ weigh_r-frame v v' C T.agree (file_at v (256 * u + f)) (zero_b _ (file_c u f h i)) g)

  all_new : (g : ℕ → ℕ) → g 0 ≡ 0 → all P v' g ≡ all P v g + new g
  unfolding all
  all_new g g0 = omega (arith, T.weight g g0, sum-ext 256 (λ u. mine v' u g) (λ u. mine v u g) (mine-same g))

  pub bits-kept : (p : ℕ) → bit P v' p ≡ bit P v p
  unfolding bit bit_page Agree
  bits-kept p =
      ap (λ (r : Root). digit (p % 16) (word v' (page_at v' r (p / page_bits)) (bit_word p))) T.bits
      ∙ ap (λ (x : ℕ). digit (p % 16) (word v' x (bit_word p))) (page_at-frame v v' C T.agree (bit_file P v) (zero_b _ T.no_bits) (p / page_bits))
      ∙ ap (digit (p % 16)) (T.agree (page_at v (bit_file P v) (p / page_bits)) (omega (arith, T.no_bits, page_at-le v C T.none (bit_file P v) (p / page_bits))) (bit_word p))

  pub system-good : (hand' : ℕ → ℕ) → ((p : ℕ) → p < P → hand' p + new (hit p) ≡ hand p) → Good P v' hand'
  unfolding Rule7 Rule10 unreserved system_pages
  system-good hand' hh = record {
    most = record {
      r1 = T.rule-1;
      r2 = T.rule-2;
      r3 = T.rule-3;
      r4 = subst (λ (U : Table). Rule4 U) (sym T.users) G.most.r4;
      r5 = T.rule-5;
      r6 = subst₂ (λ (U O : Table). Rule6 U O) (sym T.users) (sym T.objs) G.most.r6;
      r7 = λ e h u.
          let u' : 0 < used (object v e) = subst (λ (O : Table). 0 < used (O e)) T.objs u in
          let s : 256 * (e / 256) + e % 256 ≡ e = omega arith in
          shape_same P v v' C T.agree e (λ j i. ap (λ (O : Table). O e j) T.objs) u'
          (subst (λ (x : ℕ). blocks_r v (file_at v x) C ≡ 0) s (zero_b _ (file_c (e / 256) (e % 256) (omega arith) (omega arith)))) (G.most.r7 e h u');
      r10 = (
        (λ u h i. ap (λ (U : Table). used_pages U u) T.users ∙ G.most.r10.0 u h (subst (λ (U : Table). 0 < used (U u)) T.users i) ∙ sym (mine-same some u h)),
        omega (arith, G.most.r10.1, T.pay, T.weight some some-zero, ap (λ (U : Table). sum 256 (grant U)) T.users),
      );
    };
    held = λ p h. omega (arith, G.held p h, bits-kept p, all_new (hit p) (hit-zero p), hh p h);
  }

-- ---- a pointer to a page of zeros is stored in a block X of the user or the object file

module _ {P : ℕ} {v v' : Vol} {hand : ℕ → ℕ} {X k d : ℕ} (got : InHand P v hand d) (N : Vacant P v X k) (L : Link v v' X k d)
    (z : (j : ℕ) → word v' d j ≡ 0) (zs : (j : ℕ) → slot v' d j ≡ 0) (M : Master v v') (pay : two (v' 0) unreserved_count + 1 ≡ two (v 0) unreserved_count) where
  agree : Agree (hit X) v v'
  unfolding Agree
  agree q h j = elim (eq-zero-or-pos q) [
    | inl e ↦ subst (λ (x : ℕ). word v' x j ≡ word v x j) (sym e) (word-zero v' j ∙ sym (word-zero v j))
    | inr p ↦ L.rest q (λ e. omega (arith, h, subst (λ (x : ℕ). hit x q ≡ 1) e (hit_same q p))) j
  ]

  -- X is held there alone, and as a block
  parts : (weigh_r v (bit_file P v) (hit X) ≡ 0) × (weigh_r v (user_file v) (hit X) ≤ blocks_r v (user_file v) (hit X)) × (weigh_r v (object_file v) (hit X) ≤ blocks_r v (object_file v) (hit X))
      × (blocks_r v (user_file v) (hit X) + blocks_r v (object_file v) (hit X) ≡ 1) × (sum 256 (λ u. mine v u (hit X)) ≡ 0)
  unfolding rest
  parts =
      let h = got.good.held X N.below in let b = bit_le P v X in let r = all_rest P v (hit X) in let l = blocks_r-le v (object_file v) (hit X) in let m = blocks_r-le v (user_file v) (hit X) in
      (omega arith, omega arith, omega arith, omega arith, omega arith)

  roots : Roots v v'
  roots = M.roots

  same-users : user v' ≡ user v
  unfolding user
  same-users = fun_ext (λ u. fun_ext (λ j. ap (λ (r : Root). entry v' r u j) (users-root v v' roots) ∙ entry-link v v' X k d L z zs (user_file v) parts.1 u j))

  same-objs : object v' ≡ object v
  unfolding object
  same-objs = fun_ext (λ e. fun_ext (λ j. ap (λ (r : Root). entry v' r e j) (objs-root v v' roots) ∙ entry-link v v' X k d L z zs (object_file v) parts.2 e j))

  weight : (g : ℕ → ℕ) → g 0 ≡ 0 → system P v' g ≡ system P v g + g d
  unfolding system
  weight g g0 =
      let one : (blocks_r v (user_file v) (hit X) + blocks_r v (object_file v) (hit X)) * g d ≡ 1 * g d = ap (λ (x : ℕ). x * g d) parts.3 in
      omega (
        arith,
        one,
        ap (λ (r : Root). weigh_r v' r g) (bits-root v v' roots P) ∙ weigh_r-link v v' X k d L z zs (bit_file P v) g g0,
        bits-no_b,
        ap (λ (r : Root). weigh_r v' r g) (users-root v v' roots) ∙ weigh_r-link v v' X k d L z zs (user_file v) g g0,
        ap (λ (r : Root). weigh_r v' r g) (objs-root v v' roots) ∙ weigh_r-link v v' X k d L z zs (object_file v) g g0,
      )
    where
      bits-no_b : blocks_r v (bit_file P v) (hit X) * g d ≡ 0 * g d
      bits-no_b = ap (λ (x : ℕ). x * g d) (let q : blocks_r v (bit_file P v) (hit X) ≡ 0 = omega (arith, parts.0, blocks_r-le v (bit_file P v) (hit X)) in q)

  three : Rule3 P v'
  unfolding Rule3
  three n i =
      let t : ℕ = page (v 0) user_pointer in
      let e : slot v' (page (v' 0) user_pointer) n ≡ slot v' t n = ap (λ (x : ℕ). slot v' x n) (page-at P v v' M user_pointer (omega arith) (omega arith)) in
      elim (ℕ_discrete t X) [
        | no ne ↦ let s : slot v' t n ≡ slot v t n = slot_same v v' t (L.rest t ne) n in (omega (arith, e, s, (got.good.most.r3 n i).0), λ j. e ∙ s ∙ (got.good.most.r3 n i).1 j)
        | yes q ↦ elim (ℕ_discrete n k) [
          | no ne ↦ let s : slot v' t n ≡ slot v t n = subst (λ (x : ℕ). slot v' x n ≡ slot v x n) (sym q) (L.others n ne) in (omega (arith, e, s, (got.good.most.r3 n i).0), λ j. e ∙ s ∙ (got.good.most.r3 n i).1 j)
          | yes w ↦ let s : slot v' t n ≡ d = ap₂ (slot v') q w ∙ L.now in (omega (arith, e, s), λ j. absurd (let r : ⊥ = omega (arith, N.eight q) in r))
        ]
      ]

  five : Rule5 P v'
  unfolding Rule5 Rule5By
  five =
      subst (λ (x : ℕ). Rule5By P v' x (page (v' 0) object_pointer)) (sym (flags-at P v v' M object_pointer (omega arith) (omega arith)))
      (subst (λ (t : ℕ). Rule5By P v' (flags (v 0) object_pointer) t) (sym (page-at P v v' M object_pointer (omega arith) (omega arith))) (go (flags (v 0) object_pointer) refl got.good.most.r5))
    where
      t : ℕ
      t = page (v 0) object_pointer

      go : (x : ℕ) → flags (v 0) object_pointer ≡ x → Rule5By P v x t → Rule5By P v' x t
      go zero q a = tt
      go (suc zero) q a = (Below-link v v' X k d L z zs P got.below (omega (arith, got.below)) 1 t a.0, λ u i j. ap (λ (U : Table). used (U u)) same-users ∙ a.1 u i j)
      go (suc (suc zero)) q a = (
        Below-link v v' X k d L z zs P got.below (omega (arith, got.below)) 2 t a.0,
        λ i j l. elim (ℕ_discrete t X) [
          | no ne ↦ slot_same v v' t (L.rest t ne) i ∙ a.1 i j l
          | yes e ↦ subst (λ (x : ℕ). slot v' x i ≡ slot v x i) (sym e) (L.others i (λ w. omega (arith, w, N.four q e))) ∙ a.1 i j l
        ],
      )
      go (suc (suc (suc x))) q a = a

  pub linked : Settled P v v' (hit X) (λ g. g d)
  linked = record {
    none = hit-zero X;
    agree = agree;
    no_bits = parts.0;
    no_files = parts.4;
    bits = bits-root v v' roots P;
    rule-1 = rule1 P v v' M got.good.most.r1;
    rule-2 = rule2 P v v' M got.good.most.r2;
    rule-3 = three;
    rule-5 = five;
    users = same-users;
    objs = same-objs;
    weight = weight;
    pay = omega (arith, pay, some-pos d (hand-pos got));
  }

-- ---- the object file gets a second level: s in hand has the old index block in its first slot

module _ {P : ℕ} {v : Vol} {hand : ℕ → ℕ} {s : ℕ} (here : InHand P v hand s) (v' : Vol)
    (pages : (q k : ℕ) → word v' q k ≡ word v q k) (one : flags (v 0) object_pointer ≡ 1) (now : flags (v' 0) object_pointer ≡ 2) (top : page (v' 0) object_pointer ≡ s)
    (s0 : slot v s 0 ≡ page (v 0) object_pointer) (so : (j : ℕ) → j ≢ 0 → slot v s j ≡ 0)
    (mast : (k : ℕ) → volume_name ≤ k → k < unreserved_count → k ≢ object_pointer → k ≢ (suc object_pointer) → v' 0 k ≡ v 0 k) (pay : two (v' 0) unreserved_count + 1 ≡ two (v 0) unreserved_count) where
  abbrev t : ℕ
  t = page (v 0) object_pointer

  abbrev C : ℕ → ℕ
  C x = 0

  agree0 : Agree C v v'
  unfolding Agree
  agree0 q h k = pages q k

  none0 : (r : Root) → weigh_r v r C ≡ 0
  none0 r = weigh_r-nobody v (λ x. 0) (λ x. refl) r

  none_b : (r : Root) → blocks_r v r C ≡ 0
  none_b r = omega (arith, none0 r, blocks_r-le v r C)

  sl : (q j : ℕ) → slot v' q j ≡ slot v q j
  sl q j = slot_same v v' q (pages q) j

  users-r : user_file v' ≡ user_file v
  unfolding user_file
  users-r = root_at-ext (v' 0) (v 0) user_pointer 0 (mast user_pointer (omega arith) (omega arith) (omega arith) (omega arith)) (mast (suc user_pointer) (omega arith) (omega arith) (omega arith) (omega arith))

  objs-r : object_file v ≡ tree 1 t
  unfolding object_file
  objs-r = root-1 (v 0) object_pointer 0 one

  objs-r' : object_file v' ≡ tree 2 s
  unfolding object_file
  objs-r' = root-2 (v' 0) object_pointer 0 now ∙ ap (tree 2) top

  page20 : page (v' 0) bit_pointer ≡ page (v 0) bit_pointer
  page20 = page-ext (v' 0) (v 0) bit_pointer (mast bit_pointer (omega arith) (omega arith) (omega arith) (omega arith)) (mast (suc bit_pointer) (omega arith) (omega arith) (omega arith) (omega arith))

  page18 : page (v' 0) user_pointer ≡ page (v 0) user_pointer
  page18 = page-ext (v' 0) (v 0) user_pointer (mast user_pointer (omega arith) (omega arith) (omega arith) (omega arith)) (mast (suc user_pointer) (omega arith) (omega arith) (omega arith) (omega arith))

  -- each position has the page that it had
  pub leaves : (n : ℕ) → page_at v' (tree 2 s) n ≡ page_at v (tree 1 t) n
  unfolding page_at leaf
  leaves n = elim (dec_lt n 512) [
    | yes h ↦ upto-in n 262144 _ (omega arith) ∙ low h ∙ sym (upto-in n 512 _ h)
    | no h ↦ elim (dec_lt n 262144) [
      | yes i ↦ upto-in n 262144 _ i ∙ ap (λ (x : ℕ). slot v' x (n % 512 / 1)) (sl s (n / 512) ∙ so (n / 512) (omega arith)) ∙ slot-zero v' _ ∙ sym (upto-out n 512 _ (omega arith))
      | no i ↦ upto-out n 262144 _ (omega arith) ∙ sym (upto-out n 512 _ (omega arith))
    ]
  ]
    where
      low : n < 512 → slot v' (slot v' s (n / 512)) (n % 512 / 1) ≡ slot v t (n / 1)
      low h =
          let e0 : n / 512 ≡ 0 = omega arith in
          let e1 : n % 512 / 1 ≡ n / 1 = omega arith in
          ap₂ (slot v') (sl s (n / 512) ∙ ap (slot v s) e0 ∙ s0) e1 ∙ sl t (n / 1)

  five' : Rule5 P v → Rule5 P v'
  unfolding Rule5 Rule5By Below
  five' r =
      let B : Below v P 1 t = (subst (λ (x : ℕ). Rule5By P v x t) one r).0 in
      subst₂ (λ (x y : ℕ). Rule5By P v' x y) (sym now) (sym top) (
        (
          here.below,
          λ k h. elim (ℕ_discrete k 0) [
            | yes e ↦ subst (λ (x : ℕ). Below v' P 1 x) (sym (sl s k ∙ ap (slot v s) e ∙ s0)) (Below-frame v v' C agree0 P 1 t (blocks0 1 t) B)
            | no n ↦ subst (λ (x : ℕ). Below v' P 1 x) (sym (sl s k ∙ so k n)) (below-zero v' P 1 (omega (arith, here.below)))
          ],
        ),
        λ i j l. sl s i ∙ so i (omega arith),
      )
    where
      blocks0 : (l x : ℕ) → blocks v l x C ≡ 0
      blocks0 l x = omega (arith, blocks-le v C l x, weigh-nobody v C (λ y. refl) l x)

  objs-weight : (g : ℕ → ℕ) → g 0 ≡ 0 → weigh_r v' (object_file v') g ≡ weigh_r v (object_file v) g + g s
  unfolding weigh_r weigh
  objs-weight g g0 =
      let f : ℕ → ℕ = λ k. weigh v' 1 (slot v' s k) g in
      let a : f 0 ≡ weigh v' 1 t g = ap (λ (x : ℕ). weigh v' 1 x g) (sl s 0 ∙ s0) in
      let b : sum 512 f ≡ f 0 = sum-only 512 f 0 (omega arith) (λ j h n. ap (λ (x : ℕ). weigh v' 1 x g) (sl s j ∙ so j n) ∙ weigh-none v' g g0 1) in
      let c : weigh v' 1 t g ≡ weigh v 1 t g = weigh_r-frame v v' C agree0 (tree 1 t) (none_b (tree 1 t)) g in
      ap (λ (r : Root). weigh_r v' r g) objs-r' ∙ omega (arith, a, b, c) ∙ sym (ap (λ (r : Root). weigh_r v r g + g s) objs-r)

  pub raised : Settled P v v' C (λ g. g s)
  unfolding user object system bit_file entry Rule2 Rule3 Inside mine
  raised = record {
    none = refl;
    agree = agree0;
    no_bits = none0 (bit_file P v);
    no_files = sum-none 256 (λ u. mine v u C) (λ u i. sum-none 256 (λ f. weigh_r v (file_at v (256 * u + f)) C) (λ f j. none0 (file_at v (256 * u + f))));
    bits = ap (λ (x : ℕ). run x (bit_pages P)) page20;
    rule-1 = record {
      name = Legal-ext (v' 0) (v 0) volume_name 1 16 (λ i h. mast (volume_name + i / 2) (omega arith) (omega arith) (omega arith) (omega arith)) here.good.most.r1.name;
      unflagged = flags-ext (v' 0) (v 0) bit_pointer (mast bit_pointer (omega arith) (omega arith) (omega arith) (omega arith)) ∙ here.good.most.r1.unflagged;
      start = omega (arith, here.good.most.r1.start, page20);
      fits = omega (arith, here.good.most.r1.fits, page20);
    };
    rule-2 = two-again here.good.most.r2;
    rule-3 = λ n i. let e : slot v' (page (v' 0) user_pointer) n ≡ slot v (page (v 0) user_pointer) n = ap (λ (x : ℕ). slot v' x n) page18 ∙ sl _ n in
        (omega (arith, e, (here.good.most.r3 n i).0), λ j. e ∙ (here.good.most.r3 n i).1 j);
    rule-5 = five' here.good.most.r5;
    users = fun_ext (λ u. fun_ext (λ k. ap (λ (r : Root). entry v' r u k) users-r ∙ entry_frame v v' C agree0 refl (user_file v) (none0 (user_file v)) u k));
    objs = fun_ext (λ e. fun_ext (λ k. ap (λ (r : Root). entry v' r e k) objs-r' ∙ ap (λ (x : ℕ). word v' x (32 * (e % 32) + k)) (leaves (e / 32)) ∙ pages _ _
        ∙ sym (ap (λ (r : Root). entry v r e k) objs-r)));
    weight = λ g g0. omega (
      arith,
      objs-weight g g0,
      ap (λ (r : Root). weigh_r v' r g) users-r ∙ weigh_r-frame v v' C agree0 (user_file v) (none_b _) g,
      ap (λ (x : ℕ). weigh_r v' (run x (bit_pages P)) g) page20 ∙ weigh_r-frame v v' C agree0 (run (page (v 0) bit_pointer) (bit_pages P)) (none_b _) g,
    );
    pay = omega (arith, pay, some-pos s (hand-pos here));
  }
    where
      two-again : Rule2 P v → Rule2 P v'
      two-again (inl z) = absurd (let r : ⊥ = omega (arith, one, zero_flags (v 0) object_pointer z.1) in r)
      two-again (inr i) = inr (
        (flags-ext (v' 0) (v 0) user_pointer (mast user_pointer (omega arith) (omega arith) (omega arith) (omega arith)) ∙ i.0.0, omega (arith, page18, i.0.1), omega (arith, page18, i.0.2)),
        inr (now, omega (arith, top, hand-pos here), omega (arith, top, here.below)),
      )
