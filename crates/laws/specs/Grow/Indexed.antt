-- A file that grows by one page, over new pages in hand; the two ways without a subindex block. Assumes nothing.
use Rattle.std.specs.Prelude.{◌≡◌}
use Rattle.std.proofs.Math.Path.{refl, sym, ap, subst, subst₃}
use Rattle.std.proofs.Common.{◌∙◌, le_refl, div-one, arith}
use Rattle.std.proofs.Math.Logic.{inl, inr}
use Prim.Native.Nat.{ℕ, suc, ◌+◌, ◌-◌, ◌*◌, ◌/◌, ◌%◌, ◌≤◌, ◌<◌, min}
use Rattle.std.proofs.Math.Nat.{mod-one}
use Rattle.sums.specs.Sum.{sum, is}
use Rattle.book.specs.Entries.{user_file, object_file, user, object, given, used_pages}
use Rattle.book.specs.Files.{file_at, Shape, need}
use Rattle.book.specs.Grow.{finish}
use Rattle.book.specs.Holders.{hit, all}
use Rattle.book.specs.Pointers.{slot, flags, page, pointer, set_slot}
use Rattle.book.specs.Trees.{Root, tree, run, weigh, blocks, weigh_r, page_at, index_at, subindex_of, upto, leaf, root_by, Fill, Below}
use Rattle.book.specs.Words.{Vol, two}
use Rattle.laws.specs.Count.Good.{Good}
use Rattle.laws.specs.File.Around.{AroundNew, Needs, SlotOf, CountsOf, Longer}
use Rattle.laws.specs.File.Finish.{Blocks, Regrown}
use Rattle.laws.specs.File.Finished.{Finished, finished}
use Rattle.laws.specs.File.Owned.{own, loose, root_is, shape_is, Owned}
use Rattle.laws.specs.Frame.Beside.{Beside}
use Rattle.laws.specs.Frame.Places.{only-slot, only-trans, Places, Either, OnlyAt, only_wider}
use Rattle.laws.specs.Frame.Roots.{upto-in}
use Rattle.laws.specs.Grow.Grown.{Grown, grown-page, grown-block, grown-up, part-old}
use Rattle.laws.specs.Tree.Levels.{last, last-mid, last_block, need-mid, need-block, index-1}
use Rattle.laws.specs.Tree.Slot.{slot-here, slot-other, set_slot-page, set_slot-agree, hit-zero, hit_same, some-pos, hit-sym}
use Rattle.laws.specs.Tree.Weigh.{weigh-none}

-- the file at e of user a grew by position n, which has page d: the volume is as good as before, all beside is as it was, and the pages in hand are the new position's
pub record Grew (P : ℕ) (v v' : Vol) (a e n d : ℕ) (hand : ℕ → ℕ) : Type 0 where
  pub good : Good P v' (λ p. 0)
  pub longer : Longer v v' a e n
  pub beside : Beside P v v' a e
  pub at : page_at v' (file_at v' e) n ≡ d
  pub taken : (x : ℕ) → 0 < hand x → Needs v' (file_at v' e) n x
  pub words : OnlyAt (AroundNew P v' a e n) v v'

-- the pages of the new position, and its slot, in the blocks
abbrev pub NewIn : Vol → Root → ℕ → Places
NewIn v r n = Either (λ p k. Needs v r n p) (SlotOf v r n)

-- from what is known of its blocks
pub grew : (P : ℕ) (v v₂ v₃ : Vol) (a e n d x t y c : ℕ) (new : (ℕ → ℕ) → ℕ) (hand : ℕ → ℕ) → Finished P v v₂ v₃ a e c x t y (λ g. 0) new (λ p. 0) → two (object v e) 26 ≡ n → c ≡ suc n
    → y ≡ used_pages (user v) a + need n → ((m : ℕ) → m < n → page_at v₂ (root_by x t c) m ≡ page_at v (file_at v e) m) → page_at v₂ (root_by x t c) n ≡ d
    → ((g : ℕ → ℕ) → last v₂ (root_by x t c) n g ≡ new g) → ((p : ℕ) → new (hit p) ≡ hand p) → OnlyAt (NewIn v₂ (root_by x t c) n) v v₂ → Grew P v v₃ a e n d hand
unfolding last
grew P v v₂ v₃ a e n d x t y c new hand F i j k old at l hands o = record {
  good = F.good;
  longer = record { count = i; count' = F.count ∙ j; entry = F.entry; spent = F.spent ∙ k; old = λ m h. F.page m ∙ old m h; weight = λ g g0. omega (arith, F.weight g g0, l g, same g) };
  beside = F.beside;
  at = F.page n ∙ at;
  taken = λ z h. omega (arith, h, same (hit z), l (hit z), hands z);
  words = only-trans (AroundNew P v₃ a e n) v v₂ v₃ (only_wider _ _ v v₂ blocks o) (only_wider _ _ v₂ v₃ counts F.words);
}
  where
    same : (g : ℕ → ℕ) → last v₃ (file_at v₃ e) n g ≡ last v₂ (root_by x t c) n g
    same g = omega (
      arith,
      ap g (F.page n),
      ap (λ (z : ℕ). is (n % 512) 0 * g z) (F.index (n / 512)),
      ap (λ (r : Root). is n 512 * g (subindex_of r)) F.root,
    )

    blocks : (p q : ℕ) → NewIn v₂ (root_by x t c) n p q → AroundNew P v₃ a e n p q
    blocks p q (inl h) = inl (omega (arith, h, same (hit p)))
    blocks p q (inr (inl (h, (z, lo, hi)))) = inr (inr (inl (inl (h, (z ∙ sym (F.index (n / 512)), lo, hi)))))
    blocks p q (inr (inr (h, b, (z, lo, hi)))) = inr (inr (inl (inr (h, b, (z ∙ sym (ap subindex_of F.root), lo, hi)))))

    counts : (p q : ℕ) → CountsOf v a e p q → AroundNew P v₃ a e n p q
    counts p q (inl (z, lo, hi)) = inr (inr (inr (inl (z ∙ sym (F.beside.places.of_object e), lo, hi))))
    counts p q (inr (z, lo, hi)) = inr (inr (inr (inr (z ∙ sym (F.beside.places.of_user a), lo, hi))))

-- a page is put at position m of index block X, which has m
pub grown-leaf : (P : ℕ) (v : Vol) (X m d : ℕ) → 0 < X → m < 512 → 0 < d → d < P → Fill v 1 X m → Below v P 1 X → Grown P v (set_slot v X m d) 1 X X m d (λ g. g d)
unfolding Fill blocks
grown-leaf P v X m d p_x hm pd ld F B =
    let v₂ : Vol = set_slot v X m d in
    let i1 : m / 1 ≡ m = div-one m in
    let f0 : Fill v 0 (slot v X (m / 1)) (min (m - m / 1 * 1) 1) = F.2 (m / 1) (omega arith) in
    let was : slot v X (m / 1) ≡ 0 = f0.1 (part-old 1 m (le_refl 1) ∙ mod-one m) in
    let now : slot v₂ X (m / 1) ≡ d = ap (slot v₂ X) i1 ∙ slot-here v X m d p_x in
    grown-up P v v₂ (hit X) (set_slot-agree v X m d) 0 X m d (λ g. g d) p_x hm (λ j ne. slot-other v X m d p_x j (λ q. ne (q ∙ sym i1))) (λ j h ne. refl) F B
    (subst₃ (λ (x y z : ℕ). Grown P v v₂ 0 x y z d (λ g. g d)) (sym was) (sym now) (sym (mod-one m)) (grown-page P v v₂ d pd ld))

module _ {P : ℕ} {v : Vol} {hand : ℕ → ℕ} {a f : ℕ} (here : Owned P v hand a f) where
  abbrev e : ℕ
  e = 256 * a + f

  abbrev U : ℕ
  U = page_at v (user_file v) (a / 32)

  abbrev O : ℕ
  O = page_at v (object_file v) (e / 32)

  abbrev n : ℕ
  n = two (object v e) 26

  abbrev t : ℕ
  t = page (object v e) 30

  -- ---- an empty file: index block b with its first page
  module _ (d b : ℕ) (hd : d < P) (hb : b < P) (pd : 0 < d) (pb : 0 < b) (hand-is : (p : ℕ) → hand p ≡ hit d p + hit b p) (bare : (j : ℕ) → slot v b j ≡ 0)
      (fl : flags (object v e) 30 ≡ 0) (n0 : n ≡ 0) (le : used_pages (user v) a + 2 ≤ given (user v) a) where
    pub grew-first : Grew P v (finish (set_slot v b 0 d) U O a e 1 (pointer 1 b) (used_pages (user v) a + 2)) a e n d hand
    unfolding Shape root_by weigh_r sum Below page_at
    grew-first = grew P v v₂ _ a e n d 1 b _ 1 (λ g. g b + g d) hand
        (finished here K 1 1 b (used_pages (user v) a + 2) (λ g. 0) (λ g. g b + g d) (λ p. 0) R)
        refl (sym (ap suc n0)) (ap (λ (k : ℕ). used_pages (user v) a + k) (sym (need-block n (omega (arith, n0)) (omega (arith, n0)))))
        (λ m h. absurd (let r : ⊥ = omega (arith, n0) in r)) pg
        lastly (λ p. omega (arith, hand-is p, hit-sym p d, hit-sym p b)) (only-slot _ v b 0 d (λ p j h. inl (omega (arith, lastly (hit p), subst (λ (z : ℕ). hit p z ≡ 1) h.0 (hit_same p (omega (arith, h.0)))))))
      where
        v₂ : Vol
        v₂ = set_slot v b 0 d

        lo : (all P v (hit b) ≡ 0) × (weigh_r v (file_at v e) (hit b) ≡ 0) × (hand b ≡ 1)
        lo = loose here b hb (omega (arith, hand-is b, hit_same b pb))

        K : Blocks here (hit b) v₂
        K = record { none = hit-zero b; only = omega (arith, lo); agree = set_slot-agree v b 0 d; master = λ k. set_slot-page v b 0 d 0 k (omega arith) }

        W : Grown P v v₂ 1 0 b 0 d (λ g. g b + g d)
        W = grown-block P v v₂ 0 b d d (λ g. g d) here.seat.pos pb hb (slot-here v b 0 d pb) (λ k ne. slot-other v b 0 d pb k ne ∙ bare k) (grown-page P v v₂ d pd hd)

        R : Regrown here K 1 1 b (used_pages (user v) a + 2) (λ g. 0) (λ g. g b + g d) (λ p. 0)
        R = record {
          weight = λ g g0. omega (arith, ap (λ (r : Root). weigh_r v r g) (root_is here 0 fl) ∙ ap (λ (k : ℕ). weigh_r v (run t k) g) n0, W.weight g g0, weigh-none v g g0 1);
          shape = (omega arith, omega arith, W.fill, W.inside);
          top = hb;
          hands = λ p h. omega (arith, hand-is p, hit-sym p d, hit-sym p b);
          fresh = λ q z. omega (arith, hand-is q, hit-sym q d, hit-sym q b);
          count = omega (arith, some-pos d pd, some-pos b pb);
          within = le;
        }

        pg : upto n 512 (leaf v₂ 1 b n) ≡ d
        pg = upto-in n 512 (leaf v₂ 1 b n) (omega (arith, n0)) ∙ ap (leaf v₂ 1 b) n0 ∙ W.at

        lastly : (g : ℕ → ℕ) → last v₂ (tree 1 b) n g ≡ g b + g d
        lastly g = omega (arith, last_block v₂ (tree 1 b) n g (omega (arith, n0)) (omega (arith, n0)), ap g pg, ap g (ap (index_at v₂ (tree 1 b)) (let q : n / 512 ≡ 0 = omega (arith, n0) in q) ∙ index-1 v₂ b))

  -- ---- within one index block: position n of page t
  module _ (d : ℕ) (hd : d < P) (pd : 0 < d) (hand-is : (p : ℕ) → hand p ≡ hit d p) (fl : flags (object v e) 30 ≡ 1) (lt : n < 512)
      (le : used_pages (user v) a + 1 ≤ given (user v) a) where
    pub grew-onward : Grew P v (finish (set_slot v t n d) U O a e (suc n) (pointer 1 t) (used_pages (user v) a + 1)) a e n d hand
    unfolding Shape root_by weigh_r Fill Below weigh page_at
    grew-onward = grew P v v₂ _ a e n d 1 t _ (suc n) (λ g. g d) hand
        (finished here K (suc n) 1 t (used_pages (user v) a + 1) (λ g. 0) (λ g. g d) (λ p. 0) R)
        refl refl (ap (λ (k : ℕ). used_pages (user v) a + k) (sym (need-mid n mid)))
        (λ m h. ap (upto m 512) (W.old m h) ∙ sym (ap (λ (r : Root). page_at v r m) (root_is here 1 fl))) at (λ g. last-mid v₂ (tree 1 t) n g mid ∙ ap g at)
        (λ p. omega (arith, hand-is p, hit-sym p d)) (only-slot _ v t n d (λ p j h. inr (inl (mid, (h.0 ∙ sym ix, omega (arith, h.1, lt), omega (arith, h.2, lt))))))
      where
        S : Shape P v 1 t n
        S = shape_is here 1 fl

        v₂ : Vol
        v₂ = set_slot v t n d

        pt : 0 < t
        pt = S.2.0 S.0

        K : Blocks here (hit t) v₂
        K = record {
          none = hit-zero t;
          only = (own here t S.3.0 (omega (arith, ap (λ (r : Root). weigh_r v r (hit t)) (root_is here 1 fl), hit_same t pt))).0;
          agree = set_slot-agree v t n d;
          master = λ k. set_slot-page v t n d 0 k (omega (arith, pt));
        }

        W : Grown P v v₂ 1 t t n d (λ g. g d)
        W = grown-leaf P v t n d pt lt pd hd S.2 S.3

        R : Regrown here K (suc n) 1 t (used_pages (user v) a + 1) (λ g. 0) (λ g. g d) (λ p. 0)
        R = record {
          weight = λ g g0. omega (arith, ap (λ (r : Root). weigh_r v r g) (root_is here 1 fl), W.weight g g0);
          shape = (omega arith, lt, W.fill, W.inside);
          top = S.3.0;
          hands = λ p h. omega (arith, hand-is p, hit-sym p d);
          fresh = λ q z. omega (arith, hand-is q, hit-sym q d);
          count = omega (arith, some-pos d pd);
          within = le;
        }

        mid : 0 < n % 512
        mid = omega (arith, S.0)

        at : upto n 512 (leaf v₂ 1 t n) ≡ d
        at = upto-in n 512 (leaf v₂ 1 t n) lt ∙ W.at

        ix : index_at v₂ (tree 1 t) (n / 512) ≡ t
        ix = ap (index_at v₂ (tree 1 t)) (let q : n / 512 ≡ 0 = omega (arith, lt) in q) ∙ index-1 v₂ t
