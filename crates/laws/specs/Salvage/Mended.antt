-- A mended volume has the trees, holders, addresses and files that it had; bits, used counts and unreserved are those of its pointers. Assumes nothing.
use Rattle.std.specs.Prelude.{◌≡◌, refl, ◌≢◌, ◌⊎◌}
use Rattle.std.proofs.Math.Path.{sym, ap, ap₂, subst}
use Rattle.std.proofs.Common.{◌∙◌, eq-zero-or-pos}
use Rattle.std.proofs.Math.Logic.{inl, inr}
use Prim.Native.Nat.{ℕ, zero, suc, ◌+◌, ◌-◌, ◌*◌, ◌/◌, ◌%◌, ◌≤◌, ◌<◌}
use native.Mathlib.Omega.{arith}
use Rattle.sums.specs.Search.{pick}
use Rattle.sums.specs.Sum.{sum, sum-at, sum-ext}
use Rattle.book.specs.Bits.{bit_file, bit_page, bit_word, bit_place, bit, digit}
use Rattle.book.specs.Entries.{Table, entry, user_file, object_file, user, object, used, user_page, object_page, entry_word, file_entry, unreserved, used_pages, given, grant}
use Rattle.book.specs.Files.{file_at}
use Rattle.book.specs.Holders.{hit, some, mine, system, all, holders, system_pages, held_page, role_page, Exists}
use Rattle.book.specs.Rules.{Rule4, Rule4Over, Rule6, Rule6Over, Rule7, Rule8, Rule9, Rule10, Sound, Pointed}
use Rattle.book.specs.Trees.{Root, weigh_r, blocks_r, page_at, index_at, subindex_of}
use Rattle.book.specs.Words.{Vol, word, two}
use Rattle.book.specs.Written.{word-ext, word-pos, put2-hi, put2-lo, put2-page, put2-word}
use Rattle.book.specs.declared.Role.{Role}
use Rattle.book.specs.declared.Role.TheVariants.{Subindex, Index, Data}
use Rattle.book.specs.declared.Holder.{Holder}
use Rattle.book.specs.declared.Holder.TheVariants.{Free, Master, BitFile, UserIndex, UserPage, ObjectSubindex, ObjectIndex, ObjectPage, File}
use Rattle.book.specs.Salvage.{Affords, counted, spent, balanced, mended}
use Rattle.laws.specs.Bits.Claim.{bit_page-in, bit_page-pos}
use Rattle.laws.specs.Bits.Marked.{Alone}
use Rattle.laws.specs.Bits.Painted.{Painted, painted}
use Rattle.laws.specs.File.Named.{Legal-ext, SameName-ext}
use Rattle.laws.specs.Frame.Places.{Places, WordsOf, FieldOf, UnreservedWords, Apart, OnlyAt, only-put2}
use Rattle.laws.specs.Frame.Renewed.{Master as Mast, master-words, rule1, rule2, rule3, rule5, shape_same}
use Rattle.laws.specs.Frame.Rest.{rest, file-le}
use Rattle.laws.specs.Tree.Pointer.{used-ext}
use Rattle.laws.specs.Frame.Roots.{page_at-le, Roots, users-root, objs-root, bits-root, page_at-frame, weigh_r-frame, blocks_r-le, file-kept, weigh_r-add, blocks_r-add, bits-same, bit_page-root}
use Rattle.laws.specs.Frame.Still.{objects-still, kept-words}
use Rattle.laws.specs.Salvage.Apart.{hits, hits-zero, weigh-hits, blocks-hits, user-alone, bits-alone}
use Rattle.laws.specs.Salvage.Counted.{has-page, counted-off, counted-at, own-field}
use Rattle.laws.specs.Tree.Levels.{index_at-frame}
use Rattle.laws.specs.Tree.Slot.{Agree, hit_same, some-pos, some-zero, two-ext}

-- what two volumes have in common
pub record SameTrees (P : ℕ) (v w : Vol) : Type 0 where
  pub master : (k : ℕ) → k < 1022 → w 0 k ≡ v 0 k
  pub user_pages : (u : ℕ) → user_page w u ≡ user_page v u
  pub object_pages : (e : ℕ) → object_page w e ≡ object_page v e
  pub bit_pages : (p : ℕ) → bit_page P w p ≡ bit_page P v p
  pub users : (u : ℕ) → u < 256 → (k : ℕ) → k < 32 → k ≢ 16 → k ≢ 17 → user w u k ≡ user v u k
  pub unused : (u : ℕ) → u < 256 → used (user v u) ≡ 0 → (k : ℕ) → k < 32 → user w u k ≡ user v u k
  pub objects : object w ≡ object v
  pub files : (e : ℕ) → file_at w e ≡ file_at v e
  pub address : (e : ℕ) → e < 65536 → (m : ℕ) → page_at w (file_at w e) m ≡ page_at v (file_at v e) m
  pub mines : (u : ℕ) → u < 256 → (g : ℕ → ℕ) → mine w u g ≡ mine v u g
  pub systems : (g : ℕ → ℕ) → system P w g ≡ system P v g
  pub contents : (e : ℕ) → e < 65536 → (m k : ℕ) → word w (page_at v (file_at v e) m) k ≡ word v (page_at v (file_at v e) m) k
  pub holding : (p : ℕ) → holders P w p ≡ holders P v p
  pub held : (h : Holder) → Exists h → held_page P w h ≡ held_page P v h

pub trees-refl : (P : ℕ) (v : Vol) → SameTrees P v v
trees-refl P v = record {
  master = λ k h. refl;
  user_pages = λ u. refl;
  object_pages = λ e. refl;
  bit_pages = λ p. refl;
  users = λ u h k i n m. refl;
  unused = λ u h z k i. refl;
  objects = refl;
  files = λ e. refl;
  address = λ e h m. refl;
  mines = λ u h g. refl;
  systems = λ g. refl;
  contents = λ e h m k. refl;
  holding = λ p. refl;
  held = λ h x. refl;
}

-- the words of bits below P, the used counts of used users, the unreserved pages
abbrev pub Mendable : ℕ → Vol → Places
Mendable P v p k = ((d : ℕ) × (d < P) × WordsOf (bit_page P v d) (bit_word d) 1 p k)
    ⊎ (((u : ℕ) × (u < 256) × (0 < used (user v u)) × FieldOf (user_page v u) u 16 2 p k) ⊎ UnreservedWords p k)

pub some-le : (x : ℕ) → some x < 2
unfolding some
some-le zero = omega arith
some-le (suc x) = omega arith

module _ (P : ℕ) (v : Vol) (S : Pointed P v) (pos : 0 < P) where
  abbrev b : Vol
  b = balanced P v

  abbrev w : Vol
  w = mended P v

  -- ---- the counts and unreserved

  bal-master : (k : ℕ) → k < 1022 → b 0 k ≡ v 0 k
  unfolding balanced
  bal-master k h = put2-word (counted v 256) 0 1022 _ 0 k (omega arith) (omega arith)
      ∙ counted-off v 256 0 k (λ u l uu c. let r : ⊥ = omega (arith, c.0, has-page v u uu) in r)

  bal-page : (p k : ℕ) → 0 < p → b p k ≡ counted v 256 p k
  unfolding balanced
  bal-page p k h = put2-page (counted v 256) 0 1022 _ p k (omega arith)

  bal-left : (b 0 1022 ≡ (P - spent P v) / 65536) × (b 0 1023 ≡ (P - spent P v) % 65536)
  unfolding balanced
  bal-left = (put2-hi (counted v 256) 0 1022 _, put2-lo (counted v 256) 0 1022 _)

  bal-mast : Mast v b
  bal-mast = master-words v b (λ k i j. bal-master k j)

  -- ---- then the bits

  paint : Painted P b w (λ p. some (holders P v p)) P
  unfolding mended
  paint = painted P b (rule1 P v b bal-mast S.r1) (λ p. some (holders P v p)) (λ p. some-le (holders P v p)) P (omega arith)

  bal-roots : Roots v b
  bal-roots = bal-mast.roots

  bit-there : (d : ℕ) → bit_page P b d ≡ bit_page P v d
  bit-there = bit_page-root P v b bal-roots

  pub mended-master : (k : ℕ) → k < 1022 → w 0 k ≡ v 0 k
  mended-master k h = paint.master k ∙ bal-master k h

  pub mended-left : (w 0 1022 ≡ (P - spent P v) / 65536) × (w 0 1023 ≡ (P - spent P v) % 65536)
  mended-left = (paint.master 1022 ∙ bal-left.0, paint.master 1023 ∙ bal-left.1)

  pub mended-bits : (p : ℕ) → p < P → bit P w p ≡ some (holders P v p)
  mended-bits p h = paint.low p h

  -- a page that has no bits
  off-bits : (p k : ℕ) → ((d : ℕ) → d < P → p ≢ bit_page P v d) → w p k ≡ b p k
  off-bits p k h = paint.words p k (λ c. h c.0 c.1 (c.3.0 ∙ bit-there c.0))

  -- ---- the pages written, and who holds them

  abbrev q : ℕ → ℕ
  q i = page_at v (user_file v) i

  abbrev C : ℕ → ℕ
  C x = hits q 8 x + hits (bit_page P v) P x

  c0 : C 0 ≡ 0
  c0 = omega (arith, hits-zero q 8, hits-zero (bit_page P v) P)

  agree : Agree C v w
  unfolding Agree user_page
  agree x e k = word-ext v w x k (λ h. off-bits x k (no_bits h) ∙ bal-page x k h ∙ counted-off v 256 x k (λ u l uu c. no-user h u l c.0))
    where
      no_bits : 0 < x → (d : ℕ) → d < P → x ≢ bit_page P v d
      no_bits h d i z = let r : ⊥ = omega (arith, e, sum-at P (λ j. hit (bit_page P v j) x) d i, subst (λ (y : ℕ). hit y x ≡ 1) z (hit_same x h)) in r

      no-user : 0 < x → (u : ℕ) → u < 256 → x ≢ page_at v (user_file v) (u / 32)
      no-user h u i z = let r : ⊥ = omega (arith, e, sum-at 8 (λ j. hit (q j) x) (u / 32) (omega arith), subst (λ (y : ℕ). hit y x ≡ 1) z (hit_same x h)) in r

  -- no other tree holds a bit page
  no-rest : (d : ℕ) → d < P → (weigh_r v (user_file v) (hit (bit_page P v d)) ≡ 0) × (weigh_r v (object_file v) (hit (bit_page P v d)) ≡ 0) × (sum 256 (λ u. mine v u (hit (bit_page P v d))) ≡ 0)
  unfolding rest Alone
  no-rest d h = let r = bits-alone P v S pos d h in (omega (arith, r), omega (arith, r), omega (arith, r))

  c-users : blocks_r v (user_file v) C ≡ 0
  c-users = omega (
    arith,
    blocks_r-add v (hits q 8) (hits (bit_page P v) P) (user_file v),
    blocks-hits v (user_file v) q 8 (λ i h. (user-alone P v S pos i).blocks),
    blocks-hits v (user_file v) (bit_page P v) P (λ d h. omega (arith, blocks_r-le v (user_file v) (hit (bit_page P v d)), (no-rest d h).0)),
  )

  c-objects : weigh_r v (object_file v) C ≡ 0
  c-objects = omega (
    arith,
    weigh_r-add v (hits q 8) (hits (bit_page P v) P) (object_file v),
    weigh-hits v (object_file v) q 8 (λ i h. (user-alone P v S pos i).objects),
    weigh-hits v (object_file v) (bit_page P v) P (λ d h. (no-rest d h).1),
  )

  c-file : (u f : ℕ) → u < 256 → f < 256 → weigh_r v (file_at v (256 * u + f)) C ≡ 0
  c-file u f hu hf = omega (
    arith,
    weigh_r-add v (hits q 8) (hits (bit_page P v) P) (file_at v (256 * u + f)),
    weigh-hits v (file_at v (256 * u + f)) q 8 (λ i h. omega (arith, file-le v (hit (q i)) u f hu hf, (user-alone P v S pos i).files)),
    weigh-hits v (file_at v (256 * u + f)) (bit_page P v) P (λ d h. omega (arith, file-le v (hit (bit_page P v d)) u f hu hf, (no-rest d h).2)),
  )

  w-file : (e : ℕ) → e < 65536 → weigh_r v (file_at v e) C ≡ 0
  w-file e h = let s : 256 * (e / 256) + e % 256 ≡ e = omega arith in subst (λ (x : ℕ). weigh_r v (file_at v x) C ≡ 0) s (c-file (e / 256) (e % 256) (omega arith) (omega arith))

  b-file : (e : ℕ) → e < 65536 → blocks_r v (file_at v e) C ≡ 0
  b-file e h = omega (arith, blocks_r-le v (file_at v e) C, w-file e h)

  b-objects : blocks_r v (object_file v) C ≡ 0
  b-objects = omega (arith, blocks_r-le v (object_file v) C, c-objects)

  -- ---- what stays

  mast : Mast v w
  mast = master-words v w (λ k i j. mended-master k j)

  roots : Roots v w
  roots = mast.roots

  objects-same : object w ≡ object v
  objects-same = objects-still v w roots C c0 agree c-objects

  file-same : (e : ℕ) → file_at w e ≡ file_at v e
  file-same e = file-kept v w e (kept-words (object w e) (object v e) (λ k i n. ap (λ (O : Table). O e k) objects-same))

  file-weight : (g : ℕ → ℕ) (e : ℕ) → e < 65536 → weigh_r w (file_at w e) g ≡ weigh_r v (file_at v e) g
  file-weight g e h = ap (λ (r : Root). weigh_r w r g) (file-same e) ∙ weigh_r-frame v w C agree (file_at v e) (b-file e h) g

  mine-same : (u : ℕ) → u < 256 → (g : ℕ → ℕ) → mine w u g ≡ mine v u g
  unfolding mine
  mine-same u h g = sum-ext 256 _ _ (λ f i. file-weight g (256 * u + f) (omega arith))

  bits-weight : (g : ℕ → ℕ) → weigh_r w (bit_file P w) g ≡ weigh_r v (bit_file P v) g
  unfolding weigh_r bit_file
  bits-weight g = ap (λ (r : Root). weigh_r w r g) (bits-root v w roots P)

  system-same : (g : ℕ → ℕ) → system P w g ≡ system P v g
  unfolding system
  system-same g = omega (
    arith,
    bits-weight g,
    ap (λ (r : Root). weigh_r w r g) (users-root v w roots) ∙ weigh_r-frame v w C agree (user_file v) c-users g,
    ap (λ (r : Root). weigh_r w r g) (objs-root v w roots) ∙ weigh_r-frame v w C agree (object_file v) b-objects g,
  )

  holders-same : (p : ℕ) → holders P w p ≡ holders P v p
  unfolding holders all
  holders-same p = omega (arith, system-same (hit p), sum-ext 256 (λ u. mine w u (hit p)) (λ u. mine v u (hit p)) (λ u h. mine-same u h (hit p)))

  user-page : (n : ℕ) → page_at w (user_file w) n ≡ page_at v (user_file v) n
  user-page n = ap (λ (r : Root). page_at w r n) (users-root v w roots) ∙ page_at-frame v w C agree (user_file v) c-users n

  object-page : (n : ℕ) → page_at w (object_file w) n ≡ page_at v (object_file v) n
  object-page n = ap (λ (r : Root). page_at w r n) (objs-root v w roots) ∙ page_at-frame v w C agree (object_file v) b-objects n

  bit-page : (n : ℕ) → page_at w (bit_file P w) n ≡ page_at v (bit_file P v) n
  bit-page = bits-same P v w roots

  content : (e : ℕ) → e < 65536 → (m k : ℕ) → word w (page_at v (file_at v e) m) k ≡ word v (page_at v (file_at v e) m) k
  unfolding Agree
  content e h m k = agree (page_at v (file_at v e) m) (omega (arith, page_at-le v C c0 (file_at v e) m, w-file e h)) k

  role_same : (e : ℕ) → e < 65536 → (r : Role) → role_page w (file_at w e) r ≡ role_page v (file_at v e) r
  role_same e h Subindex = ap subindex_of (file-same e)
  role_same e h (Index n) = ap (λ (r : Root). index_at w r n) (file-same e) ∙ index_at-frame v w C agree (file_at v e) (b-file e h) n
  role_same e h (Data n) = ap (λ (r : Root). page_at w r n) (file-same e) ∙ page_at-frame v w C agree (file_at v e) (b-file e h) n

  held_same : (h : Holder) → Exists h → held_page P w h ≡ held_page P v h
  held_same Free x = absurd x
  held_same Master x = refl
  held_same (BitFile n) x = bit-page n
  held_same UserIndex x = ap (λ (r : Root). index_at w r 0) (users-root v w roots) ∙ index_at-frame v w C agree (user_file v) c-users 0
  held_same (UserPage n) x = user-page n
  held_same ObjectSubindex x = ap subindex_of (objs-root v w roots)
  held_same (ObjectIndex n) x = ap (λ (r : Root). index_at w r n) (objs-root v w roots) ∙ index_at-frame v w C agree (object_file v) b-objects n
  held_same (ObjectPage n) x = object-page n
  held_same (File h) x = role_same (file_entry h.user h.file) (omega (arith, x.0, x.1)) h.role

  -- ---- the users' entries

  -- a user page has no bits
  pub user-no-bits : (n : ℕ) → 0 < q n → (d : ℕ) → d < P → q n ≢ bit_page P v d
  user-no-bits n h d i e = let r : ⊥ = omega (arith, (user-alone P v S pos n).bits, bit_page-in P v S.r1 d i, ap (λ (x : ℕ). weigh_r v (bit_file P v) (hit x)) e) in r

  entry-word : (u k : ℕ) → user w u k ≡ word w (user_page v u) (entry_word u + k)
  unfolding user entry user_page
  entry-word u k = ap (λ (x : ℕ). word w x (entry_word u + k)) (user-page (u / 32))

  entry-now : (u j : ℕ) → 0 < user_page v u → w (user_page v u) j ≡ counted v 256 (user_page v u) j
  unfolding user_page
  entry-now u j h = off-bits (q (u / 32)) j (user-no-bits (u / 32) h) ∙ bal-page (q (u / 32)) j h

  stays : (u k : ℕ) → k < 32 → (0 < used (user v u) → 16 ≤ k → k < 18 → ⊥) → user w u k ≡ user v u k
  unfolding user entry user_page
  stays u k hk out = entry-word u k ∙ word-ext v w (user_page v u) (entry_word u + k) (λ h. entry-now u (entry_word u + k) h
      ∙ counted-off v 256 (user_page v u) (entry_word u + k) (λ x l ux c. let o = own-field P v S pos u x k hk h c in out (subst (λ (y : ℕ). 0 < used (user v y)) (sym o.0) ux) o.1 o.2))

  pub mended-count : (u : ℕ) → u < 256 → 0 < used (user v u) → (w (user_page v u) (entry_word u + 16) ≡ mine v u some / 65536) × (w (user_page v u) (suc (entry_word u + 16)) ≡ mine v u some % 65536)
  mended-count u h uu = let c = counted-at P v S pos 256 u h uu in (entry-now u (entry_word u + 16) (has-page v u uu) ∙ c.0, entry-now u (suc (entry_word u + 16)) (has-page v u uu) ∙ c.1)

  -- each used user's count is what his files hold
  pub mended-used : (u : ℕ) → u < 256 → 0 < used (user v u) → used_pages (user w) u ≡ mine v u some
  unfolding used_pages two
  mended-used u h uu =
      let c = mended-count u h uu in
      let a : user w u 16 ≡ mine v u some / 65536 = entry-word u 16 ∙ word-pos w (user_page v u) (entry_word u + 16) (has-page v u uu) ∙ c.0 in
      let z : entry_word u + 17 ≡ suc (entry_word u + 16) = omega arith in
      let d : user w u 17 ≡ mine v u some % 65536 = entry-word u 17 ∙ word-pos w (user_page v u) (entry_word u + 17) (has-page v u uu) ∙ ap (w (user_page v u)) z ∙ c.1 in
      omega (arith, a, d)

  pub mended-unreserved : unreserved w ≡ P - spent P v
  unfolding unreserved two
  mended-unreserved = let a : P - spent P v ≡ (P - spent P v) / 65536 * 65536 + (P - spent P v) % 65536 = omega arith in omega (arith, mended-left.0, mended-left.1)

  -- ---- the words and bits that salvage may write

  pub mended-only : OnlyAt (Mendable P v) v w
  unfolding balanced
  mended-only p k a = paint.words p k (λ c. a (inl (c.0, c.1, (c.3.0 ∙ bit-there c.0, c.3.1, c.3.2)))) ∙ bal p k a
    where
      bal : (p k : ℕ) → Apart (Mendable P v) p k → b p k ≡ v p k
      bal p k a = only-put2 (counted v 256) 0 1022 (P - spent P v) p k (λ c. a (inr (inr c))) ∙ counted-off v 256 p k (λ u h q c. a (inr (inl (u, h, q, c))))

  -- bits of pages from P on keep their values: in a bit page any bit stays that is no page's below P
  pub mended-digits : (d k j : ℕ) → d < P → ((e : ℕ) → e < P → bit_page P v d ≡ bit_page P v e → k ≡ bit_word e → j ≡ bit_place e → ⊥)
      → digit j (w (bit_page P v d) k) ≡ digit j (v (bit_page P v d) k)
  unfolding user_page
  mended-digits d k j h a = paint.digits (bit_page P v d) k j (λ e i x y z. a e i (x ∙ bit-there e) y z) ∙ ap (digit j) (bal-page (bit_page P v d) k (bit_page-pos P v S.r1 d h)
      ∙ counted-off v 256 (bit_page P v d) k (λ u i q c. no-user u q c.0))
    where
      no-user : (u : ℕ) → 0 < used (user v u) → bit_page P v d ≡ user_page v u → ⊥
      no-user u q e = user-no-bits (u / 32) (has-page v u q) d h (sym e)

  pub same-trees : SameTrees P v w
  unfolding user_page object_page bit_page
  same-trees = record {
    master = mended-master;
    user_pages = λ u. user-page (u / 32);
    object_pages = λ e. object-page (e / 32);
    bit_pages = λ p. bit-page (p / 16384);
    users = λ u h k i n m. stays u k i (λ x y z. let r : ⊥ = omega (arith, n, m) in r);
    unused = λ u h z k i. stays u k i (λ x c d. let r : ⊥ = omega (arith, x, z) in r);
    objects = objects-same;
    files = file-same;
    address = λ e h m. role_same e h (Data m);
    mines = mine-same;
    systems = system-same;
    contents = content;
    holding = holders-same;
    held = held_same;
  }

  -- ---- the rules

  pub used-mended : (u : ℕ) → u < 256 → used (user w u) ≡ used (user v u)
  used-mended u h = used-ext (user w u) (user v u) (stays u 0 (omega arith) (λ x y z. let r : ⊥ = omega (arith, y) in r))

  given-same : (u : ℕ) → u < 256 → given (user w) u ≡ given (user v) u
  unfolding given
  given-same u h = two-ext (user w u) (user v u) 14 (stays u 14 (omega arith) (λ x y z. let r : ⊥ = omega (arith, y) in r)) (stays u 15 (omega arith) (λ x y z. let r : ⊥ = omega (arith, y) in r))

  grant-same : (u : ℕ) → u < 256 → grant (user w) u ≡ grant (user v) u
  unfolding grant
  grant-same u h = ap₂ (λ (x y : ℕ). pick x y 0) (used-mended u h) (given-same u h)

  low_word : (u k : ℕ) → u < 256 → k < 16 → user w u k ≡ user v u k
  low_word u k h i = stays u k (omega arith) (λ x y z. let r : ⊥ = omega (arith, y) in r)

  four : ((u : ℕ) → u < 256 → 0 < used (user v u) → mine v u some ≤ given (user v) u) → Rule4 (user w)
  unfolding Rule4Over
  four A = (
    (λ u h q. let q' : 0 < used (user v u) = omega (arith, used-mended u h) in let o = S.r4.0 u h q' in record {
      own = stays u 18 (omega arith) (λ x y z. let r : ⊥ = omega (arith, z) in r) ∙ o.own;
      name = Legal-ext (user w u) (user v u) 1 1 16 (λ i j. low_word u (1 + i / 2) h (omega arith)) o.name;
      within = omega (arith, mended-used u h q', A u h q', given-same u h);
    }),
    (λ a c ha hc ua uc s. S.r4.1 a c ha hc (omega (arith, used-mended a ha)) (omega (arith, used-mended c hc))
        (SameName-ext (user v a) (user v c) (user w a) (user w c) (λ i j. low_word a (1 + i) ha (omega arith)) (λ i j. low_word c (1 + i) hc (omega arith)) s)),
  )

  six : Rule6 (user w) (object w)
  unfolding Rule6Over
  six = subst (λ (O : Table). Rule6 (user w) O) (sym objects-same) here
    where
      here : Rule6 (user w) (object v)
      here = (
        (λ u f hu hf h. let o = S.r6.0 u f hu hf h in record { owner = omega (arith, o.owner, used-mended u hu); whose = o.whose; number = o.number; name = o.name; type = o.type }),
        S.r6.1,
      )

  seven : Rule7 P w
  unfolding Rule7
  seven e h i = let i' : 0 < used (object v e) = subst (λ (O : Table). 0 < used (O e)) objects-same i in
      shape_same P v w C agree e (λ k j. ap (λ (O : Table). O e k) objects-same) i' (b-file e h) (S.r7 e h i')

  nine : Rule9 P w
  unfolding Rule9
  nine p h = (
    (λ e. one (holders P w p) (ap some (holders-same p) ∙ sym (mended-bits p h) ∙ e)),
    (λ z. mended-bits p h ∙ sym (ap some (holders-same p)) ∙ some-pos (holders P w p) z),
  )
    where
      one : (x : ℕ) → some x ≡ 1 → 0 < x
      one x e = elim (eq-zero-or-pos x) [ inl z ↦ absurd (let r : ⊥ = omega (arith, e, ap some z, some-zero) in r) | inr z ↦ z ]

  pub spent-mended : spent P w ≡ spent P v
  unfolding spent system_pages
  spent-mended = omega (arith, system-same some, sum-ext 256 (grant (user w)) (grant (user v)) grant-same)

  ten : spent P v ≤ P → Rule10 P w
  unfolding Rule10 spent
  ten l = (
    (λ u h q. mended-used u h (omega (arith, used-mended u h)) ∙ sym (mine-same u h some)),
    omega (arith, mended-unreserved, spent-mended, l),
  )

  -- where 13 does not apply the volume is sound
  pub mended-sound : Affords P v → Sound P w
  unfolding Rule8
  mended-sound A = record {
    r1 = rule1 P v w mast S.r1;
    r2 = rule2 P v w mast S.r2;
    r3 = rule3 P v w mast C c0 agree S.r2 c-users S.r3;
    r4 = four A.users;
    r5 = rule5 P v w mast C c0 agree S.r2 b-objects (λ x u i j z. used-mended u j ∙ z) S.r5;
    r6 = six;
    r7 = seven;
    r8 = λ p h. omega (arith, holders-same p, S.r8 p h);
    r9 = nine;
    r10 = ten A.left;
  }
