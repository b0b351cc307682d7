-- After the blocks of a file have changed, its entry and its owner's are written. Assumes nothing.
use Rattle.std.specs.Prelude.{◌≡◌, ◌≢◌, ◌⊎◌}
use Rattle.std.proofs.Math.Path.{sym, ap, ap₂, subst}
use Rattle.std.proofs.Common.{◌∙◌, subst₂, inl, inr}
use Prim.Native.Nat.{ℕ, suc, ◌+◌, ◌*◌, ◌/◌, ◌%◌, ◌≤◌, ◌<◌}
use native.Mathlib.Omega.{arith}
use Rattle.sums.specs.Search.{pick}
use Rattle.book.specs.Entries.{entry, user_file, object_file, user, object, used, given, used_pages, grant}
use Rattle.book.specs.Files.{file_at, Shape, FileShape, page_bytes}
use Rattle.book.specs.Grow.{finish}
use Rattle.book.specs.Holders.{hit, some, all}
use Rattle.book.specs.Pointers.{flags, page, pointer, object_pointer, unreserved_count, flags_above}
use Rattle.book.specs.Rules.{UserOk, FileOk, Rule4Over, Rule5, Rule5By, Rule6Over, Rule10}
use Rattle.book.specs.Trees.{Root, weigh_r, blocks_r, page_at, root_at, root_by}
use Rattle.book.specs.Words.{Vol, two, word, put2}
use Rattle.book.specs.Written.{word-pos, word-ext, put2-hi, put2-lo, put2-page, put2-word}
use Rattle.laws.specs.Count.Good.{Good, bit_le, sound-within}
use Rattle.laws.specs.File.Named.{Legal-ext, SameName-ext, SameFile-ext}
use Rattle.laws.specs.File.Owned.{Owned}
use Rattle.laws.specs.Frame.Edit.{Change, obj-page, user-page, user-at, obj-at, entries, edit-good, edit-mine, Fine}
use Rattle.laws.specs.Frame.Fields.{Outside}
use Rattle.laws.specs.Frame.Renewed.{Shape-frame, Entries, used-same, obj-used-same}
use Rattle.laws.specs.Frame.Rest.{rest, all_rest, file-le}
use Rattle.laws.specs.Frame.Roots.{weigh_r-add, page_at-le, page_at-below, page_at-frame, weigh_r-frame, blocks_r-le, used-page}
use Rattle.laws.specs.Tree.Pointer.{used-ext, flags-pointer, page-pointer, file-used}
use Rattle.laws.specs.Tree.Slot.{Agree, some-zero, two-ext, hit-zero, hit_same}

module _ (v : Vol) (U O a e n ptr x : ℕ) (apart : U ≢ O) where
  abbrev w : ℕ
  w = 32 * (e % 32)

  abbrev z : ℕ
  z = 32 * (a % 32)

  abbrev v' : Vol
  v' = finish v U O a e n ptr x

  pub fin-page : (q k : ℕ) → q ≢ O → q ≢ U → v' q k ≡ v q k
  unfolding finish
  fin-page q k i j = put2-page _ U (z + 16) x q k j ∙ put2-page _ O (w + 30) ptr q k i ∙ put2-page _ O (w + 28) (page_bytes * n) q k i ∙ put2-page v O (w + 26) n q k i

  -- page O
  of_o : (k : ℕ) → v' O k ≡ put2 (put2 (put2 v O (w + 26) n) O (w + 28) (page_bytes * n)) O (w + 30) ptr O k
  unfolding finish
  of_o k = put2-page _ U (z + 16) x O k (λ i. apart (sym i))

  pub fin-O : (k : ℕ) → (k < w + 26) ⊎ (w + 32 ≤ k) → v' O k ≡ v O k
  fin-O k (inl h) = of_o k ∙ put2-word _ O (w + 30) ptr O k (omega arith) (omega arith) ∙ put2-word _ O (w + 28) (page_bytes * n) O k (omega arith) (omega arith) ∙ put2-word v O (w + 26) n O k (omega arith) (omega arith)
  fin-O k (inr h) = of_o k ∙ put2-word _ O (w + 30) ptr O k (omega arith) (omega arith) ∙ put2-word _ O (w + 28) (page_bytes * n) O k (omega arith) (omega arith) ∙ put2-word v O (w + 26) n O k (omega arith) (omega arith)

  pub fin-26 : v' O (w + 26) ≡ n / 65536
  fin-26 = of_o (w + 26) ∙ put2-word _ O (w + 30) ptr O (w + 26) (omega arith) (omega arith) ∙ put2-word _ O (w + 28) (page_bytes * n) O (w + 26) (omega arith) (omega arith) ∙ put2-hi v O (w + 26) n

  pub fin-27 : v' O (w + 27) ≡ n % 65536
  fin-27 = of_o (w + 27) ∙ put2-word _ O (w + 30) ptr O (w + 27) (omega arith) (omega arith) ∙ put2-word _ O (w + 28) (page_bytes * n) O (w + 27) (omega arith) (omega arith)
      ∙ ap (put2 v O (w + 26) n O) (let s : w + 27 ≡ suc (w + 26) = omega arith in s) ∙ put2-lo v O (w + 26) n

  pub fin-28 : v' O (w + 28) ≡ page_bytes * n / 65536
  fin-28 = of_o (w + 28) ∙ put2-word _ O (w + 30) ptr O (w + 28) (omega arith) (omega arith) ∙ put2-hi _ O (w + 28) (page_bytes * n)

  pub fin-29 : v' O (w + 29) ≡ page_bytes * n % 65536
  fin-29 = of_o (w + 29) ∙ put2-word _ O (w + 30) ptr O (w + 29) (omega arith) (omega arith)
      ∙ ap (put2 (put2 v O (w + 26) n) O (w + 28) (page_bytes * n) O) (let s : w + 29 ≡ suc (w + 28) = omega arith in s) ∙ put2-lo _ O (w + 28) (page_bytes * n)

  pub fin-30 : v' O (w + 30) ≡ ptr / 65536
  fin-30 = of_o (w + 30) ∙ put2-hi _ O (w + 30) ptr

  pub fin-31 : v' O (w + 31) ≡ ptr % 65536
  fin-31 = of_o (w + 31) ∙ ap (put2 (put2 (put2 v O (w + 26) n) O (w + 28) (page_bytes * n)) O (w + 30) ptr O) (let s : w + 31 ≡ suc (w + 30) = omega arith in s) ∙ put2-lo _ O (w + 30) ptr

  -- page U
  pub fin-U : (k : ℕ) → k ≢ z + 16 → k ≢ z + 17 → v' U k ≡ v U k
  unfolding finish
  fin-U k i j = put2-word _ U (z + 16) x U k i (λ q. j (omega arith)) ∙ put2-page _ O (w + 30) ptr U k apart ∙ put2-page _ O (w + 28) (page_bytes * n) U k apart ∙ put2-page v O (w + 26) n U k apart

  pub fin-16 : v' U (z + 16) ≡ x / 65536
  unfolding finish
  fin-16 = put2-hi _ U (z + 16) x

  pub fin-17 : v' U (z + 17) ≡ x % 65536
  unfolding finish
  fin-17 = ap (finish v U O a e n ptr x U) (let s : z + 17 ≡ suc (z + 16) = omega arith in s) ∙ put2-lo _ U (z + 16) x

module _ {P : ℕ} {v : Vol} {hand : ℕ → ℕ} {a f : ℕ} (here : Owned P v hand a f) where
  abbrev ee : ℕ
  ee = 256 * a + f

  abbrev UU : ℕ
  UU = page_at v (user_file v) (a / 32)

  abbrev OO : ℕ
  OO = page_at v (object_file v) (ee / 32)

  pub is_o : 0 < OO
  unfolding object
  is_o = used-page v (object_file v) ee here.uf

  pub owner-used : 0 < used (user v a)
  unfolding Rule6Over
  owner-used = (here.seat.good.most.r6.0 a f here.seat.ha here.seat.hf here.uf).owner

  pub is_u : 0 < UU
  unfolding user
  is_u = used-page v (user_file v) a owner-used

  pub UO : UU ≢ OO
  UO i = omega (arith, page_at-le v (hit UU) (hit-zero UU) (object_file v) (ee / 32), (user-page P v hand here.seat.good here.seat.pos (a / 32)).1, subst (λ (y : ℕ). hit UU y ≡ 1) i (hit_same UU is_u))

  -- the blocks have changed: v₂ differs from v only at D, where only this file and the hand hold pages
  pub record Blocks (D : ℕ → ℕ) (v₂ : Vol) : Type 0 where
    pub none : D 0 ≡ 0
    pub only : all P v D ≡ weigh_r v (file_at v ee) D
    pub agree : Agree D v v₂
    pub master : (k : ℕ) → v₂ 0 k ≡ v 0 k

  module _ {D : ℕ → ℕ} {v₂ : Vol} (K : Blocks D v₂) (n kind t x : ℕ) where
    abbrev v₃ : Vol
    v₃ = finish v₂ UU OO a ee n (pointer kind t) x

    D-none : (weigh_r v (user_file v) D ≡ 0) × (weigh_r v (object_file v) D ≡ 0)
    unfolding rest
    D-none = (omega (arith, all_rest P v D, K.only, file-le v D a f here.seat.ha here.seat.hf), omega (arith, all_rest P v D, K.only, file-le v D a f here.seat.ha here.seat.hf))

    same_o : (k : ℕ) → word v₂ OO k ≡ word v OO k
    unfolding Agree
    same_o k = K.agree OO (omega (arith, D-none, page_at-le v D K.none (object_file v) (ee / 32))) k

    same_u : (k : ℕ) → word v₂ UU k ≡ word v UU k
    unfolding Agree
    same_u k = K.agree UU (omega (arith, D-none, page_at-le v D K.none (user_file v) (a / 32))) k

    -- words of page O and of page U
    in_o : (k : ℕ) → (k < 32 * (ee % 32) + 26) ⊎ (32 * (ee % 32) + 32 ≤ k) → word v₃ OO k ≡ word v OO k
    in_o k h = word-pos v₃ OO k is_o ∙ fin-O v₂ UU OO a ee n (pointer kind t) x UO k h ∙ sym (word-pos v₂ OO k is_o) ∙ same_o k

    in_u : (k : ℕ) → k ≢ 32 * (a % 32) + 16 → k ≢ 32 * (a % 32) + 17 → word v₃ UU k ≡ word v UU k
    in_u k i j = word-pos v₃ UU k is_u ∙ fin-U v₂ UU OO a ee n (pointer kind t) x UO k i j ∙ sym (word-pos v₂ UU k is_u) ∙ same_u k

    pub change : Change here.seat D v₃
    unfolding Agree Outside
    change = record {
      none = K.none;
      only = K.only;
      agree = λ q h k. word-ext v v₃ q k (λ i. away q i h k);
      master = λ k h. fin-page v₂ UU OO a ee n (pointer kind t) x UO 0 k (λ i. omega (arith, i, is_o)) (λ i. omega (arith, i, is_u)) ∙ K.master k;
      on_o = on_o;
      on_u = on_u;
    }
      where
        away : (q : ℕ) → 0 < q → D q + (hit OO q + hit UU q) ≡ 0 → (k : ℕ) → v₃ q k ≡ v q k
        away q i h k = fin-page v₂ UU OO a ee n (pointer kind t) x UO q k
            (λ j. omega (arith, h, subst (λ (y : ℕ). hit y q ≡ 1) j (hit_same q i))) (λ j. omega (arith, h, subst (λ (y : ℕ). hit y q ≡ 1) j (hit_same q i)))
            ∙ sym (word-pos v₂ q k i) ∙ K.agree q (omega (arith, h)) k ∙ word-pos v q k i

        on_o : (k : ℕ) → Outside ee k → word v₃ OO k ≡ word v OO k
        on_o k (inl h) = in_o k (inl (omega arith))
        on_o k (inr h) = in_o k (inr h)

        on_u : (k : ℕ) → Outside a k → word v₃ UU k ≡ word v UU k
        on_u k (inl h) = in_u k (omega arith) (omega arith)
        on_u k (inr h) = in_u k (omega arith) (omega arith)

    -- the two entries
    pub obj-kept : (k : ℕ) → k < 26 → object v₃ ee k ≡ object v ee k
    unfolding object entry
    obj-kept k h = obj-at here.seat change k ∙ in_o (32 * (ee % 32) + k) (inl (omega arith))

    o-word : (k : ℕ) → object v₃ ee k ≡ v₃ OO (32 * (ee % 32) + k)
    o-word k = obj-at here.seat change k ∙ word-pos v₃ OO (32 * (ee % 32) + k) is_o

    pub new-pages : two (object v₃ ee) 26 ≡ n
    unfolding two
    new-pages = omega (arith, o-word 26, o-word 27, fin-26 v₂ UU OO a ee n (pointer kind t) x UO, fin-27 v₂ UU OO a ee n (pointer kind t) x UO)

    pub new-bytes : two (object v₃ ee) 28 ≡ page_bytes * n
    unfolding two
    new-bytes = omega (arith, o-word 28, o-word 29, fin-28 v₂ UU OO a ee n (pointer kind t) x UO, fin-29 v₂ UU OO a ee n (pointer kind t) x UO)

    pub new-flags : t < P → flags (object v₃ ee) 30 ≡ kind
    unfolding flags
    new-flags h = ap (λ (y : ℕ). y / flags_above) (o-word 30 ∙ fin-30 v₂ UU OO a ee n (pointer kind t) x UO) ∙ flags-pointer kind t (omega arith)

    pub new-page : t < P → page (object v₃ ee) 30 ≡ t
    unfolding page
    new-page h = ap₂ (λ (y z : ℕ). y % flags_above * 65536 + z) (o-word 30 ∙ fin-30 v₂ UU OO a ee n (pointer kind t) x UO) (o-word 31 ∙ fin-31 v₂ UU OO a ee n (pointer kind t) x UO) ∙ page-pointer kind t (omega arith)

    pub user-kept : (k : ℕ) → k ≢ 16 → k ≢ 17 → user v₃ a k ≡ user v a k
    unfolding user entry
    user-kept k i j = user-at here.seat change k ∙ in_u (32 * (a % 32) + k) (omega arith) (omega arith)

    u-word : (k : ℕ) → user v₃ a k ≡ v₃ UU (32 * (a % 32) + k)
    u-word k = user-at here.seat change k ∙ word-pos v₃ UU (32 * (a % 32) + k) is_u

    pub new-spent : used_pages (user v₃) a ≡ x
    unfolding used_pages two
    new-spent = omega (arith, u-word 16, u-word 17, fin-16 v₂ UU OO a ee n (pointer kind t) x UO, fin-17 v₂ UU OO a ee n (pointer kind t) x UO)

    -- ---- the file's tree after the blocks have changed, its shape, and the owner's count

    pub record Regrown (gone new : (ℕ → ℕ) → ℕ) (hand' : ℕ → ℕ) : Type 0 where
      pub weight : (g : ℕ → ℕ) → g 0 ≡ 0 → weigh_r v₂ (root_by kind t n) g + gone g ≡ weigh_r v (file_at v ee) g + new g
      pub shape : Shape P v₂ kind t n
      pub top : t < P
      pub hands : (p : ℕ) → p < P → hand' p + new (hit p) ≡ hand p + gone (hit p)
      pub fresh : (q : ℕ) → hand q ≡ 0 → new (hit q) ≡ 0
      pub count : x + gone some ≡ used_pages (user v) a + new some
      pub within : x ≤ given (user v) a

    module _ (gone new : (ℕ → ℕ) → ℕ) (hand' : ℕ → ℕ) (R : Regrown gone new hand') where
      abbrev B : ℕ → ℕ
      B y = hit OO y + hit UU y

      pub agree_b : Agree B v₂ v₃
      unfolding Agree
      agree_b q h k = word-ext v₂ v₃ q k (λ i. fin-page v₂ UU OO a ee n (pointer kind t) x UO q k
          (λ j. omega (arith, h, subst (λ (y : ℕ). hit y q ≡ 1) j (hit_same q i))) (λ j. omega (arith, h, subst (λ (y : ℕ). hit y q ≡ 1) j (hit_same q i))))

      -- the entries' pages are no blocks of the new tree
      hand_o : hand OO ≡ 0
      unfolding rest
      hand_o = omega (
        arith,
        here.seat.good.held OO (page_at-below v P here.seat.pos (object_file v) (sound-within P v here.seat.good.most).objs (ee / 32)),
        bit_le P v OO,
        all_rest P v (hit OO),
        page_at-le v (hit OO) (hit-zero OO) (object_file v) (ee / 32),
        hit_same OO is_o,
      )

      hand_u : hand UU ≡ 0
      unfolding rest
      hand_u = omega (
        arith,
        here.seat.good.held UU (page_at-below v P here.seat.pos (user_file v) (sound-within P v here.seat.good.most).users (a / 32)),
        bit_le P v UU,
        all_rest P v (hit UU),
        page_at-le v (hit UU) (hit-zero UU) (user_file v) (a / 32),
        hit_same UU is_u,
      )

      pub quiet : blocks_r v₂ (root_by kind t n) B ≡ 0
      quiet = omega (
        arith,
        blocks_r-le v₂ (root_by kind t n) B,
        weigh_r-add v₂ (hit OO) (hit UU) (root_by kind t n),
        R.weight (hit OO) (hit-zero OO),
        R.weight (hit UU) (hit-zero UU),
        R.fresh OO hand_o,
        R.fresh UU hand_u,
        file-le v (hit OO) a f here.seat.ha here.seat.hf,
        (obj-page P v hand here.seat.good here.seat.pos (ee / 32)).3,
        file-le v (hit UU) a f here.seat.ha here.seat.hf,
        (user-page P v hand here.seat.good here.seat.pos (a / 32)).3,
      )

      used-kept : used (object v₃ ee) ≡ used (object v ee)
      used-kept = used-ext (object v₃ ee) (object v ee) (obj-kept 0 (omega arith))

      pub new-root : file_at v₃ ee ≡ root_by kind t n
      unfolding root_at
      new-root = file-used v₃ ee (omega (arith, used-kept)) ∙ root
        where
          root : root_at (object v₃ ee) 30 (two (object v₃ ee) 26) ≡ root_by kind t n
          root = ap₂ (λ (y z : ℕ). root_by y z (two (object v₃ ee) 26)) (new-flags R.top) (new-page R.top) ∙ ap (root_by kind t) new-pages

      user-used : used (user v₃ a) ≡ used (user v a)
      user-used = used-ext (user v₃ a) (user v a) (user-kept 0 (omega arith) (omega arith))

      given-kept : given (user v₃) a ≡ given (user v) a
      unfolding given
      given-kept = two-ext (user v₃ a) (user v a) 14 (user-kept 14 (omega arith) (omega arith)) (user-kept 15 (omega arith) (omega arith))

      E : Entries v v₃ a ee
      E = entries here.seat change

      owner-ok : UserOk (user v) a
      unfolding Rule4Over
      owner-ok = here.seat.good.most.r4.0 a here.seat.ha owner-used

      file-ok : FileOk (user v) (object v) a ee
      unfolding Rule6Over
      file-ok = here.seat.good.most.r6.0 a f here.seat.ha here.seat.hf here.uf

      shaped : FileShape P v₃ ee
      unfolding FileShape
      shaped = (
        subst (λ (y : ℕ). Shape P v₃ y (page (object v₃ ee) 30) (two (object v₃ ee) 26)) (sym (new-flags R.top))
            (subst₂ (λ (y z : ℕ). Shape P v₃ kind y z) (sym (new-page R.top)) (sym new-pages) (Shape-frame v₂ v₃ B agree_b P kind t n quiet R.shape)),
        omega (arith, new-bytes, new-pages),
      )

      pub weight : (g : ℕ → ℕ) → g 0 ≡ 0 → weigh_r v₃ (file_at v₃ ee) g + gone g ≡ weigh_r v (file_at v ee) g + new g
      weight g g0 = omega (arith, ap (λ (r : Root). weigh_r v₃ r g) new-root ∙ weigh_r-frame v₂ v₃ B agree_b (root_by kind t n) quiet g, R.weight g g0)

      high : flags (v 0) object_pointer ≡ 1 → 63 < a → used (user v a) ≡ 0
      unfolding Rule5 Rule5By
      high q i = (subst (λ (x : ℕ). Rule5By P v x (page (v 0) object_pointer)) q here.seat.good.most.r5).1 a i here.seat.ha

      pub master : (k : ℕ) → v₃ 0 k ≡ v 0 k
      master k = fin-page v₂ UU OO a ee n (pointer kind t) x UO 0 k (λ i. omega (arith, i, is_o)) (λ i. omega (arith, i, is_u)) ∙ K.master k

      fine : Fine here.seat change gone new hand'
      unfolding Rule4Over Rule6Over Rule10 grant
      fine = record {
        weight = weight;
        hands = R.hands;
        user_new = record {
          ok = λ h. record {
            own = user-kept 18 (omega arith) (omega arith) ∙ owner-ok.own;
            name = Legal-ext (user v₃ a) (user v a) 1 1 16 (λ i j. user-kept (1 + i / 2) (omega arith) (omega arith)) owner-ok.name;
            within = omega (arith, new-spent, given-kept, R.within);
          };
          alone = λ u h m i j s. m (here.seat.good.most.r4.1 u a h here.seat.ha (omega (arith, used-same P v v₃ a f here.seat.ha here.seat.hf E u h m)) owner-used
              (SameName-ext (user v u) (user v a) (user v₃ u) (user v₃ a) (λ k l. E.users u h m (1 + k) (omega arith)) (λ k l. user-kept (1 + k) (omega arith) (omega arith)) s));
        };
        file_new = record {
          ok = λ h. record {
            owner = omega (arith, user-used, owner-used);
            whose = obj-kept 16 (omega arith) ∙ file-ok.whose;
            number = obj-kept 17 (omega arith) ∙ file-ok.number;
            name = Legal-ext (object v₃ ee) (object v ee) 1 1 16 (λ i j. obj-kept (1 + i / 2) (omega arith)) file-ok.name;
            type = Legal-ext (object v₃ ee) (object v ee) 9 0 4 (λ i j. obj-kept (9 + i / 2) (omega arith)) file-ok.type;
          };
          alone = λ h i m j l s. m (here.seat.good.most.r6.1 a h f here.seat.ha i here.seat.hf
              (omega (arith, obj-used-same P v v₃ a f here.seat.ha here.seat.hf E (256 * a + h) (omega arith) (λ q. m (omega arith)))) here.uf
              (SameFile-ext (object v (256 * a + h)) (object v ee) (object v₃ (256 * a + h)) (object v₃ ee)
              (λ k o. E.files (256 * a + h) (omega arith) (λ q. m (omega arith)) (1 + k) (omega arith)) (λ k o. obj-kept (1 + k) (omega arith)) s));
          shape = λ h. shaped;
        };
        owner = λ h i q. omega (arith, user-used, owner-used);
        high = λ q i. user-used ∙ high q i;
        balance = omega (arith, two-ext (v₃ 0) (v 0) unreserved_count (master unreserved_count) (master (suc unreserved_count)), ap₂ (λ (x y : ℕ). pick x y 0) user-used given-kept);
        count = λ h. omega (arith, R.count, new-spent, here.seat.good.most.r10.0 a here.seat.ha owner-used, weight some some-zero, edit-mine here.seat change some);
      }

      pub finish-good : Good P v₃ hand'
      finish-good = edit-good here.seat change gone new hand' fine

      -- the file's pages are those of the changed blocks
      pub finish-page : (m : ℕ) → page_at v₃ (file_at v₃ ee) m ≡ page_at v₂ (root_by kind t n) m
      finish-page m = ap (λ (r : Root). page_at v₃ r m) new-root ∙ page_at-frame v₂ v₃ B agree_b (root_by kind t n) quiet m
