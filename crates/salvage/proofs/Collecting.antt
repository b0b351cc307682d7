-- Collecting the changes: what each word must become, and which words stay. Assumes nothing.
use mathlib.Core.Path.{◌≡◌, sym, ap, ap₂, ◌∙◌, subst, subst₂}
use mathlib.Core.Logic.{inl, inr}
use mathlib.Core.List.{List}
use Prim.Native.Nat.{ℕ, zero, suc, ◌+◌, ◌-◌, ◌*◌, ◌/◌, ◌%◌, ◌≤◌, ◌<◌}
use native.Mathlib.Decide.{ℕ_discrete}
use native.Mathlib.Omega.{arith}
use lib.ListN.{length, get_or}
use Rattle.book.specs.Bits.{bit_page, bit_pages, digit}
use Rattle.book.specs.Calls.{salvaged}
use Rattle.book.specs.Entries.{entry, user_file, user_page, user, used, given, entry_word}
use Rattle.book.specs.Holders.{holders, mine, some}
use Rattle.book.specs.Image.{pages}
use Rattle.book.specs.Pointers.{page, bit_pointer}
use Rattle.book.specs.Rules.{Rule8, Pointed}
use Rattle.book.specs.Salvage.{word_at, spent}
use Rattle.book.specs.Trees.{page_at}
use Rattle.book.specs.Words.{Vol, vol, two}
use Rattle.book.specs.Written.{vol-in}
use Rattle.page.specs.Parts.{word_from}
use Rattle.bits.specs.Marks.{marked}
use Rattle.laws.specs.Bits.Claim.{bit_page-is}
use Rattle.laws.specs.Call.After.{small-words}
use Rattle.laws.specs.Count.Reach.{below-users}
use Rattle.laws.specs.Salvage.Again.{Narrow}
use Rattle.laws.specs.Salvage.Counted.{has-page}
use Rattle.laws.specs.Salvage.Mended.{mended-master, mended-left, mended-count, mended-only, user-no-bits}
use Rattle.laws.specs.Salvage.Most.{changed-most}
use Rattle.laws.specs.Tree.Slot.{some-pos, some-zero}
use Rattle.tree.specs.Reach.{Reach, entry_in}
use Rattle.tree.proofs.Entries.{user-in}
use Rattle.salvage.specs.Facts.{Sure, MarksHeld, BitsRight, BitPage, Other, Next}
use Rattle.salvage.specs.Row.{row_size, RowTells, Noted}
use Rattle.salvage.proofs.Rows.{told-start, told-skip, told-step}
use Rattle.salvage.proofs.Words.{mended-fits, word_fits, bit_word_lem, other-page, user-word}

module _ (img : List ℕ) (S : Sure img) where
  abbrev P : ℕ
  P = pages img

  abbrev v : Vol
  v = vol img

  abbrev w : Vol
  w = salvaged img

  abbrev D : Pointed P v
  D = S.good.pointed

  pos : 0 < P
  pos = omega (arith, S.good.whole.least)

  pub long : length img ≡ 1024 * P
  long = omega (arith, S.good.whole.even)

  pub users-reach : Reach img (user_file v)
  users-reach = record { some = pos; below = below-users P v D.r2 D.r3 }

  narrow : Narrow v
  narrow = small-words img S.sixteen

  few : (u : ℕ) → u < 256 → 0 < used (user v u) → mine v u some < 4294967296
  unfolding given two user entry
  few u h q = omega (arith, S.affords.users u h q, word_fits v (page_at v (user_file v) (u / 32)) (32 * (u % 32) + 14) narrow, word_fits v (page_at v (user_file v) (u / 32)) (32 * (u % 32) + 15) narrow)

  pub fits : Narrow w
  fits = mended-fits P v (omega (arith, S.good.whole.most)) few narrow

  -- the row has room for one more, always
  pub room : (i : ℕ) (row : List ℕ) (n : ℕ) → RowTells img i row n → n < row_size
  room i row n t = omega (arith, t.count, changed-most P v D pos i, S.good.whole.most)

  -- ---- one word

  pub noted : (i : ℕ) (row : List ℕ) (n : ℕ) → RowTells img i row n → i < length img → (y x : ℕ) → y ≡ get_or img i 0 → x ≡ word_at w i
      → (row' : List ℕ) (r : ℕ) → Noted row i y x n row' r → RowTells img (i + 1) row' r
  noted i row n t h y x ey ex row' r a =
      let q : 1024 * (i / 1024) + i % 1024 ≡ i = omega arith in
      let old : y ≡ word_at v i = ey ∙ sym (vol-in img (i / 1024) (i % 1024) (omega arith) ∙ ap (λ (k : ℕ). get_or img k 0) q) in
      let s : suc i ≡ i + 1 = omega arith in
      subst (λ (k : ℕ). RowTells img k row' r) s (told-step img i row n t (room i row n t) (narrow (i / 1024) (i % 1024)) (fits (i / 1024) (i % 1024)) row' r (subst₂ (λ (a b : ℕ). Noted row i a b n row' r) old ex a))

  -- places of one page
  pub place : (p k j : ℕ) → k < 1024 → j ≡ 1024 * p + k → (word_at w j ≡ w p k) × (word_at v j ≡ v p k)
  place p k j h e = let a : j / 1024 ≡ p = omega (arith, h, e) in let b : j % 1024 ≡ k = omega (arith, h, e) in (ap₂ w a b, ap₂ v a b)

  -- words of page p that stay are passed over
  pub skip : (p a z : ℕ) → a ≤ z → z ≤ 1024 → ((k : ℕ) → a ≤ k → k < z → w p k ≡ v p k) → (row : List ℕ) (n : ℕ) → RowTells img (1024 * p + a) row n → RowTells img (1024 * p + z) row n
  skip p a z h l f row n t = told-skip img (1024 * p + a) (1024 * p + z) (omega arith) (λ j x y.
      let k : ℕ = j - 1024 * p in let e : j ≡ 1024 * p + k = omega (arith, x) in let hk : k < 1024 = omega (arith, x, y, l) in
      let q = place p k j hk e in q.0 ∙ f k (omega (arith, x)) (omega (arith, x, y)) ∙ sym q.1) row n t

  -- whole pages that stay
  pub skip-pages : (p r : ℕ) → p ≤ r → ((x : ℕ) → p ≤ x → x < r → (k : ℕ) → w x k ≡ v x k) → (row : List ℕ) (n : ℕ) → RowTells img (1024 * p) row n → RowTells img (1024 * r) row n
  skip-pages p r h f row n t = told-skip img (1024 * p) (1024 * r) (omega arith) (λ j x y. f (j / 1024) (omega (arith, x)) (omega (arith, y)) (j % 1024)) row n t

  -- ---- the master page

  pub master-start : (row : List ℕ) → length row ≡ row_size → RowTells img 1022 row 0
  master-start row l =
      let z : 1024 * 0 + 0 ≡ 0 = omega arith in let e : 1024 * 0 + 1022 ≡ 1022 = omega arith in
      subst (λ (i : ℕ). RowTells img i row 0) e (skip 0 0 1022 (omega arith) (omega arith) (λ k a b. mended-master P v D pos k b) row 0 (subst (λ (i : ℕ). RowTells img i row 0) (sym z) (told-start img row l)))

  pub left-words : (x : ℕ) → x ≡ P - spent P v → (x / 65536 ≡ word_at w 1022) × (x % 65536 ≡ word_at w (1022 + 1))
  left-words x e = let l = mended-left P v D pos in (ap (λ (y : ℕ). y / 65536) e ∙ sym l.0, ap (λ (y : ℕ). y % 65536) e ∙ sym l.1)

  -- ---- the bit file

  module _ (b : ℕ) (eb : b ≡ page (v 0) bit_pointer) where
    pub bits-page : (d : ℕ) → d < P → bit_page P v d ≡ b + d / 16384
    bits-page d h = omega (arith, bit_page-is P v D.r1 d h, eb)

    pub bits_below : (0 < b) × (b + bit_pages P ≤ P)
    bits_below = (omega (arith, eb, D.r1.start), omega (arith, eb, D.r1.fits))

    -- its word k
    pub bit_is : (k : ℕ) → 16 * k < P → (x : ℕ) → x < 65536 → BitsRight img b k x → x ≡ word_from w b k
    unfolding BitsRight
    bit_is k h x l g =
        let i : ℕ = k / 1024 in let n : ℕ = k % 1024 in let hi : 16384 * i < P = omega (arith, h) in
        let q : bit_page P v (16384 * i) ≡ b + i = omega (arith, bits-page (16384 * i) hi) in
        bit_word_lem P v D pos i n hi (omega arith) (fits (bit_page P v (16384 * i)) n) x l (λ j hj.
        let e : 16384 * i + 16 * n + j ≡ 16 * k + j = omega arith in (
          λ m. (g j hj).0 (omega (arith, m)) ∙ ap (λ (y : ℕ). some (holders P v y)) (sym e),
          λ m. (g j hj).1 (omega (arith, m)) ∙ ap (λ (y : ℕ). digit j (v y n)) (sym q),
        )) ∙ ap (λ (y : ℕ). w y n) q

    pub bit-place : (k : ℕ) → word_at w (1024 * b + k) ≡ word_from w b k
    bit-place k = (place (b + k / 1024) (k % 1024) (1024 * b + k) (omega arith) (omega arith)).0

    -- a word of marks that all stand for pages
    module _ (m : List ℕ) (M : MarksHeld img m) where
      mark-digit : (k j : ℕ) → j < 16 → 16 * k + j < P → digit j (get_or m k 0) ≡ some (holders P v (16 * k + j))
      unfolding marked Rule8
      mark-digit k j hj h =
          let a : (16 * k + j) % 16 ≡ j = omega (arith, hj) in let c : (16 * k + j) / 16 ≡ k = omega (arith, hj) in
          sym (ap₂ (λ (x y : ℕ). digit x (get_or m y 0)) a c) ∙ M.held (16 * k + j) h ∙ once (holders P v (16 * k + j)) (D.r8 (16 * k + j) h)
        where
          once : (x : ℕ) → x ≤ 1 → x ≡ some x
          once zero l = sym some-zero
          once (suc x) l = omega (arith, some-pos (suc x) (omega arith), l)

      pub full-right : (k : ℕ) → 16 * k + 16 ≤ P → BitsRight img b k (get_or m k 0)
      unfolding BitsRight
      full-right k h j hj = (mark-digit k j hj, λ l. absurd (let r : ⊥ = omega (arith, l, h, hj) in r))

      pub last-right : (x : ℕ) → ((j : ℕ) → j < 16 → (j < P % 16 → digit j x ≡ digit j (get_or m (P / 16) 0)) × (P % 16 ≤ j → digit j x ≡ digit j (word_from v b (P / 16)))) → BitsRight img b (P / 16) x
      unfolding BitsRight
      last-right x g j hj = (λ l. (g j hj).0 (omega (arith, l, hj)) ∙ mark-digit (P / 16) j hj l, λ l. (g j hj).1 (omega (arith, l, hj)))

    -- behind the words of bits nothing changes on page p of it
    pub bits-rest : (p k : ℕ) → BitPage P b p → P ≤ 16 * (1024 * (p - b) + k) → k < 1024 → w p k ≡ v p k
    unfolding user_page
    bits-rest p k f h hk = mended-only P v D pos p k (λ a. elim a [
      | inl c ↦ let r : ⊥ = omega (arith, f, h, hk, c.1, c.2.0, c.2.1, bits-page c.0 c.1) in r
      | inr y ↦ elim y [
        | inl c ↦
            let d : ℕ = 16384 * (p - b) in let hd : d < P = omega (arith, f) in
            user-no-bits P v D pos (c.0 / 32) (page-of c.0 c.2) d hd (sym c.3.0 ∙ omega (arith, f, bits-page d hd))
        | inr c ↦ let r : ⊥ = omega (arith, c.0, f, bits_below.0) in r
      ]
    ])
      where
        page-of : (u : ℕ) → 0 < used (user v u) → 0 < page_at v (user_file v) (u / 32)
        page-of u q = has-page v u q

    -- from word k of the bit file on to the end of its page p
    pub rest-skip : (p : ℕ) → BitPage P b p → (k : ℕ) → P ≤ 16 * k → 1024 * (p - b) ≤ k → k ≤ 1024 * (p - b) + 1024
        → (row : List ℕ) (n : ℕ) → RowTells img (1024 * b + k) row n → RowTells img (1024 * p + 1024) row n
    rest-skip p f k h from most row n t =
        let e : 1024 * b + k ≡ 1024 * p + (k - 1024 * (p - b)) = omega (arith, f, from) in
        skip p (k - 1024 * (p - b)) 1024 (omega (arith, most)) (omega arith) (λ x a z. bits-rest p x f (omega (arith, h, a)) z) row n
        (subst (λ (i : ℕ). RowTells img i row n) e t)

  -- ---- a user page

  module _ (q u : ℕ) (hu : u < 256) (hq : 0 < q) (eq : q ≡ user_page v u) where
    stays : (k : ℕ) → k < 32 → (0 < used (user v u) → 16 ≤ k → k < 18 → ⊥) → w q (entry_word u + k) ≡ v q (entry_word u + k)
    stays k h out = subst (λ (x : ℕ). w x (entry_word u + k) ≡ v x (entry_word u + k)) (sym eq) (user-word P v D pos u k hu h (omega (arith, hq, eq)) out)

    entry-skip : (a z : ℕ) → a ≤ z → z ≤ 32 → ((k : ℕ) → a ≤ k → k < z → 0 < used (user v u) → 16 ≤ k → k < 18 → ⊥)
        → (row : List ℕ) (n : ℕ) → RowTells img (1024 * q + entry_word u + a) row n → RowTells img (1024 * q + entry_word u + z) row n
    entry-skip a z h l out row n t =
        let e : 1024 * q + entry_word u + a ≡ 1024 * q + (entry_word u + a) = omega arith in let f : 1024 * q + (entry_word u + z) ≡ 1024 * q + entry_word u + z = omega arith in
        subst (λ (i : ℕ). RowTells img i row n) f (skip q (entry_word u + a) (entry_word u + z) (omega arith) (omega (arith, l)) (λ k x y.
        let s : entry_word u + (k - entry_word u) ≡ k = omega (arith, x) in
        subst (λ (m : ℕ). w q m ≡ v q m) s (stays (k - entry_word u) (omega (arith, x, y, l)) (out (k - entry_word u) (omega (arith, x)) (omega (arith, x, y))))) row n (subst (λ (i : ℕ). RowTells img i row n) e t))

    pub unused-skip : (0 < used (entry_in v q u) → ⊥) → (row : List ℕ) (n : ℕ) → RowTells img (1024 * q + entry_word u) row n → RowTells img (1024 * q + entry_word u + 32) row n
    unused-skip out row n t =
        let z : 1024 * q + entry_word u ≡ 1024 * q + entry_word u + 0 = omega arith in
        entry-skip 0 32 (omega arith) (omega arith) (λ k x y us. absurd (out (subst (λ (e : ℕ → ℕ). 0 < used e) (sym (user-in v u q eq)) us))) row n (subst (λ (i : ℕ). RowTells img i row n) z t)

    pub before-count : (row : List ℕ) (n : ℕ) → RowTells img (1024 * q + entry_word u) row n → RowTells img (1024 * q + entry_word u + 16) row n
    before-count row n t =
        let z : 1024 * q + entry_word u ≡ 1024 * q + entry_word u + 0 = omega arith in
        entry-skip 0 16 (omega arith) (omega arith) (λ k x y us a c. let r : ⊥ = omega (arith, y, a) in r) row n (subst (λ (i : ℕ). RowTells img i row n) z t)

    pub after-count : (row : List ℕ) (n : ℕ) → RowTells img (1024 * q + entry_word u + 16 + 2) row n → RowTells img (1024 * q + entry_word u + 32) row n
    after-count row n t =
        let z : 1024 * q + entry_word u + 16 + 2 ≡ 1024 * q + entry_word u + 18 = omega arith in
        entry-skip 18 32 (omega arith) (omega arith) (λ k x y us a c. let r : ⊥ = omega (arith, x, c) in r) row n (subst (λ (i : ℕ). RowTells img i row n) z t)

    pub count-words : 0 < used (entry_in v q u) → (x : ℕ) → x ≡ mine v u some
        → (x / 65536 ≡ word_at w (1024 * q + entry_word u + 16)) × (x % 65536 ≡ word_at w (1024 * q + entry_word u + 16 + 1))
    count-words us x e =
        let m = mended-count P v D pos u hu (subst (λ (e : ℕ → ℕ). 0 < used e) (user-in v u q eq) us) in
        let a = place q (entry_word u + 16) (1024 * q + entry_word u + 16) (omega arith) (omega arith) in
        let b = place q (suc (entry_word u + 16)) (1024 * q + entry_word u + 16 + 1) (omega arith) (omega arith) in (
          ap (λ (y : ℕ). y / 65536) e ∙ sym m.0 ∙ sym (ap (λ (y : ℕ). w y (entry_word u + 16)) eq) ∙ sym a.0,
          ap (λ (y : ℕ). y % 65536) e ∙ sym m.1 ∙ sym (ap (λ (y : ℕ). w y (suc (entry_word u + 16))) eq) ∙ sym b.0,
        )

  -- ---- any other page

  pub other-stays : (p : ℕ) → 0 < p → Other P v p → (k : ℕ) → w p k ≡ v p k
  other-stays p h o k = other-page P v D pos p h (λ d l e. o.bits d l (sym e)) (λ i l e. o.users i l (sym e)) k

  -- r is behind p, and not behind any page from p on that has words to change
  module _ (b : ℕ) (eb : b ≡ page (v 0) bit_pointer) where
    pub next-is : (p r : ℕ) → p < r → r ≤ P → ((x : ℕ) → p < x → b ≤ x → x < b + bit_pages P → r ≤ x) → ((j : ℕ) → j < 8 → p < user_page v (32 * j) → r ≤ user_page v (32 * j)) → Next P v p r
    unfolding user_page
    next-is p r h l fb fu = record {
      after = h;
      most = l;
      between = λ x a c. record {
        bits = λ d i e. let q = bits-page b eb d i in let z : ⊥ = omega (arith, fb x a (omega (arith, q, e)) (omega (arith, q, e, i)), c) in z;
        users = λ i k e. let q : 32 * i / 32 ≡ i = omega arith in let f : page_at v (user_file v) (32 * i / 32) ≡ x = ap (page_at v (user_file v)) q ∙ e in
            let z : ⊥ = omega (arith, fu i k (omega (arith, f, a)), f, c) in z;
      };
    }

    -- p has no bits and no users
    pub other-is : (p : ℕ) → (BitPage P b p → ⊥) → ((j : ℕ) → j < 8 → user_page v (32 * j) ≡ p → ⊥) → Other P v p
    unfolding user_page
    other-is p nb nu = record {
      bits = λ d h e. let q = bits-page b eb d h in nb (omega (arith, q, e), omega (arith, q, e, h));
      users = λ i h e. let q : 32 * i / 32 ≡ i = omega arith in nu i h (ap (page_at v (user_file v)) q ∙ e);
    }

  -- from behind page p to the next that has
  pub next-told : (p r : ℕ) → Next P v p r → (row : List ℕ) (n : ℕ) → RowTells img (1024 * (p + 1)) row n → RowTells img (1024 * r) row n
  next-told p r x = skip-pages (p + 1) r (omega (arith, x.after)) (λ y a c. other-stays y (omega (arith, a)) (x.between y (omega (arith, a)) c))

-- one of the n pages from b on, n being written otherwise
pub run-page : {b p n m : ℕ} → (b ≤ p) × (p < b + n) → n ≡ m → (b ≤ p) × (p < b + m)
run-page h e = (h.0, omega (arith, h.1, e))

-- ---- for loops

-- users of one page
pub same-page : (v : Vol) (q first k : ℕ) → first % 32 ≡ 0 → k < 32 → q ≡ user_page v first → q ≡ user_page v (first + k)
unfolding user_page
same-page v q first k f h e = let s : first / 32 ≡ (first + k) / 32 = omega (arith, f, h) in e ∙ ap (page_at v (user_file v)) s

-- the user page at position i is q; one page more is none of them
module _ (v : Vol) (p i q : ℕ) (e : q ≡ user_page v (32 * i)) where
  at : (j : ℕ) → j ≡ i → user_page v (32 * j) ≡ q
  at j s = ap (λ (k : ℕ). user_page v (32 * k)) s ∙ sym e

  pub none_more : ((j : ℕ) → j < i → user_page v (32 * j) ≡ p → ⊥) → (q ≡ p → ⊥) → (j : ℕ) → j < i + 1 → user_page v (32 * j) ≡ p → ⊥
  none_more g n j h x = elim (ℕ_discrete j i) [ yes s ↦ n (sym (at j s) ∙ x) | no s ↦ g j (omega (arith, h, s)) x ]

  -- or one bound more holds of them
  pub nearest : (r z : ℕ) → ((j : ℕ) → j < i → p < user_page v (32 * j) → r ≤ user_page v (32 * j)) → z ≤ r → (p < q → z ≤ q) → (j : ℕ) → j < i + 1 → p < user_page v (32 * j) → z ≤ user_page v (32 * j)
  nearest r z g l n j h x = elim (ℕ_discrete j i) [
    | yes s ↦ omega (arith, at j s, n (omega (arith, at j s, x)))
    | no s ↦ omega (arith, l, g j (omega (arith, h, s)) x)
  ]

-- the last word of bits, as code joins it
pub last_word : (T P : ℕ) → T ≡ P → (m : List ℕ) (x : ℕ) (b : ℕ) (v : Vol) (w : ℕ) → w ≡ word_from v b (T / 16)
    → ((j : ℕ) → j < 16 → (j < T % 16 → digit j x ≡ digit j (get_or m (T / 16) 0)) × (T % 16 ≤ j → digit j x ≡ digit j w))
    → (j : ℕ) → j < 16 → (j < P % 16 → digit j x ≡ digit j (get_or m (P / 16) 0)) × (P % 16 ≤ j → digit j x ≡ digit j (word_from v b (P / 16)))
last_word T P e m x b v w ew g = subst (λ (n : ℕ). (j : ℕ) → j < 16 → (j < n % 16 → digit j x ≡ digit j (get_or m (n / 16) 0)) × (n % 16 ≤ j → digit j x ≡ digit j (word_from v b (n / 16)))) e
    (λ j h. ((g j h).0, λ l. (g j h).1 l ∙ ap (digit j) ew))
