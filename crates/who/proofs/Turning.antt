-- A holder has one turn, and a turn with a page one holder; the order of turns is that of holders. Assumes nothing.
use mathlib.Core.Path.{◌≡◌, refl, sym, ap, ap₂, ◌∙◌, subst}
use mathlib.Core.Logic.{inl, inr}
use Prim.Native.Nat.{ℕ, zero, suc, ◌+◌, ◌*◌, ◌/◌, ◌%◌, ◌≤◌, ◌<◌}
use native.Mathlib.Decide.{dec_lt}
use native.Mathlib.Omega.{arith}
use Rattle.book.specs.Words.{Vol}
use Rattle.book.specs.Trees.{page_at, index_at, subindex_of}
use Rattle.book.specs.Bits.{bit_file}
use Rattle.book.specs.Entries.{user_file, object_file, file_entry}
use Rattle.book.specs.Files.{file_at}
use Rattle.book.specs.Holders.{role_page, held_page, Exists}
use Rattle.book.specs.Answers.{HolderNumbers, holder_numbers}
use Rattle.book.specs.Pair.{Lower, Ahead}
use Rattle.book.specs.declared.Role.{Role}
use Rattle.book.specs.declared.Role.TheVariants.{Subindex, Index, Data}
use Rattle.book.specs.declared.Holder.{Holder}
use Rattle.book.specs.declared.Holder.TheVariants.{Free, Master, BitFile, UserIndex, UserPage, ObjectSubindex, ObjectIndex, ObjectPage, File}
use Rattle.laws.specs.Count.Holder.{file_holder}
use Rattle.laws.specs.Count.Owners.{file-shallow}
use Rattle.laws.specs.Count.Reach.{Within}
use Rattle.laws.specs.Frame.Roots.{upto-in}
use Rattle.laws.specs.Tree.Roles.{upto-pos}
use Rattle.laws.specs.Tree.Weigh.{BelowR}
use Rattle.who.specs.Turns.{positions, turns, all_turns, turn_by, turn_of, class_page, file_page, kind_page, turn_page, file_role, holder_by, holder_at}
use Rattle.who.proofs.ByKind.{kind-below}
use Rattle.who.proofs.Classes.{class-below}

-- numbers as they are in a volume
pub record Bounded (a : HolderNumbers) : Type 0 where
  pub kind : a.kind < 11
  pub user : a.user < 256
  pub file : a.file < 256
  pub position : a.position < positions

-- ---- the order

module _ (a b : HolderNumbers) (m : Bounded a) (n : Bounded b) (h : turn_by a < turn_by b) where
  by-position : a.kind ≡ b.kind → a.user ≡ b.user → a.file ≡ b.file → a.position < b.position
  by-position d e f = omega (arith, m.position, n.position)

  by-file : a.kind ≡ b.kind → a.user ≡ b.user → Lower a.file b.file (a.position < b.position)
  by-file d e = elim (dec_lt a.file b.file) [
    | yes l ↦ inl l
    | no l ↦ let f : a.file ≡ b.file = omega (arith, m.position, n.position) in inr (f, by-position d e f)
  ]

  by-user : a.kind ≡ b.kind → Lower a.user b.user (Lower a.file b.file (a.position < b.position))
  by-user d = elim (dec_lt a.user b.user) [
    | yes l ↦ inl l
    | no l ↦ let e : a.user ≡ b.user = omega (arith, m.position, n.position, m.file, n.file) in inr (e, by-file d e)
  ]

  pub turn-ahead : Ahead a b
  unfolding Ahead
  turn-ahead = elim (dec_lt a.kind b.kind) [
    | yes l ↦ inl l
    | no l ↦ let d : a.kind ≡ b.kind = omega (arith, m.position, n.position, m.file, n.file, m.user, n.user) in inr (d, by-user d)
  ]

-- ---- the turn of kind k, entry e and position n

module _ (x k e n : ℕ) (at : x ≡ turns * k + positions * e + n) (he : e < 65536) (hn : n < positions) where
  turn-holder : holder_at x ≡ holder_by k e n
  unfolding holder_at
  turn-holder =
      let a : x / turns ≡ k = omega arith in
      let b : x % turns / positions ≡ e = omega arith in
      let c : x % positions ≡ n = omega arith in
      ap₂ (λ (i j : ℕ). holder_by i j (x % positions)) a b ∙ ap (holder_by k e) c

  turn-kind : (P : ℕ) (v : Vol) → turn_page P v x ≡ kind_page P v k (positions * e + n)
  unfolding turn_page
  turn-kind P v =
      let a : x / turns ≡ k = omega arith in
      let b : x % turns ≡ positions * e + n = omega arith in
      ap₂ (kind_page P v) a b

-- ---- a holder's turn

pub record Turn (P : ℕ) (v : Vol) (p : ℕ) (h : Holder) : Type 0 where
  pub bounded : Bounded (holder_numbers h)
  pub page : turn_page P v (turn_of h) ≡ p
  pub again : holder_at (turn_of h) ≡ h

module _ (P : ℕ) (v : Vol) (w : Within P v) (few : P ≤ positions) (p : ℕ) (pos : 0 < p) where
  -- of a system page at position n
  system-turn : (k n : ℕ) (h : Holder) → holder_numbers h ≡ record { kind = k; user = 0; file = 0; position = n } → k < 8 → holder_by k 0 n ≡ h → kind_page P v k n ≡ p → Turn P v p h
  system-turn k n h same lk back e =
      let hn : n < positions = kind-below P v w few p pos k n lk e in
      let x : ℕ = turn_of h in
      let at : x ≡ turns * k + positions * 0 + n = ap turn_by same ∙ (let s : turns * k + positions * (256 * 0 + 0) + n ≡ turns * k + positions * 0 + n = omega arith in s) in
      let q : positions * 0 + n ≡ n = omega arith in
      record {
        bounded = subst Bounded (sym same) (record { kind = omega arith; user = omega arith; file = omega arith; position = hn });
        page = turn-kind x k 0 n at (omega arith) hn P v ∙ ap (kind_page P v k) q ∙ e;
        again = turn-holder x k 0 n at (omega arith) hn ∙ back;
      }

  -- of a file's page, in class c at position n
  file-turn : (u f c n : ℕ) (x : Role) → u < 256 → f < 256 → c < 3 → BelowR v P (file_at v (file_entry u f))
      → holder_numbers (file_holder u f x) ≡ record { kind = suc (suc (suc (suc (suc (suc (suc (suc c))))))); user = u; file = f; position = n } → file_role c n ≡ x
      → class_page v (file_at v (file_entry u f)) c n ≡ p → Turn P v p (file_holder u f x)
  unfolding kind_page file_page holder_by
  file-turn u f c n x hu hf hc below same back e =
      let k : ℕ = suc (suc (suc (suc (suc (suc (suc (suc c))))))) in
      let i : ℕ = file_entry u f in
      let hi : i < 65536 = omega arith in
      let hn : n < positions = class-below v P p few pos (file_at v i) (file-shallow v i) below c n e in
      let t : ℕ = turn_of (file_holder u f x) in
      let at : t ≡ turns * k + positions * i + n = ap turn_by same in
      let q : (positions * i + n) / positions ≡ i = omega arith in
      let s : (positions * i + n) % positions ≡ n = omega arith in
      let a : i / 256 ≡ u = omega arith in
      let b : i % 256 ≡ f = omega arith in
      record {
        bounded = subst Bounded (sym same) (record { kind = omega arith; user = hu; file = hf; position = hn });
        page = turn-kind t k i n at hi hn P v ∙ ap₂ (λ (y z : ℕ). class_page v (file_at v y) c z) q s ∙ e;
        again = turn-holder t k i n at hi hn ∙ ap₂ (λ (y z : ℕ). file_holder y z (file_role c n)) a b ∙ ap (file_holder u f) back;
      }

  role-turn : (u f : ℕ) (x : Role) → u < 256 → f < 256 → role_page v (file_at v (file_entry u f)) x ≡ p → Turn P v p (file_holder u f x)
  unfolding class_page file_role
  role-turn u f Subindex hu hf e = file-turn u f 0 0 Subindex hu hf (omega arith) (w.files u f hu hf) refl refl (upto-in 0 1 (subindex_of (file_at v (file_entry u f))) (omega arith) ∙ e)
  role-turn u f (Index n) hu hf e = file-turn u f 1 n (Index n) hu hf (omega arith) (w.files u f hu hf) refl refl e
  role-turn u f (Data n) hu hf e = file-turn u f 2 n (Data n) hu hf (omega arith) (w.files u f hu hf) refl refl e

  pub holder-turn : (h : Holder) → Exists h → held_page P v h ≡ p → Turn P v p h
  unfolding kind_page class_page holder_by
  holder-turn Free x e = absurd x
  holder-turn Master x e = absurd (let o : ⊥ = omega (arith, e) in o)
  holder-turn (BitFile n) x e = system-turn 2 n (BitFile n) refl (omega arith) refl e
  holder-turn UserIndex x e = system-turn 3 0 UserIndex refl (omega arith) refl (upto-in 0 1 (index_at v (user_file v) 0) (omega arith) ∙ e)
  holder-turn (UserPage n) x e = system-turn 4 n (UserPage n) refl (omega arith) refl e
  holder-turn ObjectSubindex x e = system-turn 5 0 ObjectSubindex refl (omega arith) refl (upto-in 0 1 (subindex_of (object_file v)) (omega arith) ∙ e)
  holder-turn (ObjectIndex n) x e = system-turn 6 n (ObjectIndex n) refl (omega arith) refl e
  holder-turn (ObjectPage n) x e = system-turn 7 n (ObjectPage n) refl (omega arith) refl e
  holder-turn (File h) x e = role-turn h.user h.file h.role x.0 x.1 e

-- ---- a turn's holder

pub record Has (P : ℕ) (v : Vol) (p y : ℕ) (h : Holder) : Type 0 where
  pub exists : Exists h
  pub page : held_page P v h ≡ p
  pub turn : turn_of h ≡ y

module _ (P : ℕ) (v : Vol) (w : Within P v) (few : P ≤ positions) (p : ℕ) (pos : 0 < p) where
  -- turn x of kind k
  by_kind : (k x : ℕ) → k < 11 → x < turns → kind_page P v k x ≡ p → Has P v p (turns * k + x) (holder_by k (x / positions) (x % positions))
  unfolding kind_page class_page file_page holder_by file_role
  by_kind zero x hk hx e = absurd (let o : ⊥ = omega (arith, e) in o)
  by_kind (suc zero) x hk hx e = absurd (let o : ⊥ = omega (arith, e) in o)
  by_kind (suc (suc zero)) x hk hx e =
      let n : x % positions ≡ x = omega (arith, kind-below P v w few p pos 2 x (omega arith) e) in
      record { exists = tt; page = ap (page_at v (bit_file P v)) n ∙ e; turn = omega arith }
  by_kind (suc (suc (suc zero))) x hk hx e = let u = upto-pos x 1 (index_at v (user_file v) 0) p pos e in
      record { exists = tt; page = u.1; turn = omega (arith, u.0) }
  by_kind (suc (suc (suc (suc zero)))) x hk hx e =
      let n : x % positions ≡ x = omega (arith, kind-below P v w few p pos 4 x (omega arith) e) in
      record { exists = tt; page = ap (page_at v (user_file v)) n ∙ e; turn = omega arith }
  by_kind (suc (suc (suc (suc (suc zero))))) x hk hx e = let u = upto-pos x 1 (subindex_of (object_file v)) p pos e in
      record { exists = tt; page = u.1; turn = omega (arith, u.0) }
  by_kind (suc (suc (suc (suc (suc (suc zero)))))) x hk hx e =
      let n : x % positions ≡ x = omega (arith, kind-below P v w few p pos 6 x (omega arith) e) in
      record { exists = tt; page = ap (index_at v (object_file v)) n ∙ e; turn = omega arith }
  by_kind (suc (suc (suc (suc (suc (suc (suc zero))))))) x hk hx e =
      let n : x % positions ≡ x = omega (arith, kind-below P v w few p pos 7 x (omega arith) e) in
      record { exists = tt; page = ap (page_at v (object_file v)) n ∙ e; turn = omega arith }
  by_kind (suc (suc (suc (suc (suc (suc (suc (suc zero)))))))) x hk hx e =
      let i : ℕ = x / positions in
      let s : 256 * (i / 256) + i % 256 ≡ i = omega arith in
      let u = upto-pos (x % positions) 1 (subindex_of (file_at v i)) p pos e in
      record { exists = (omega arith, omega arith); page = ap (λ (m : ℕ). subindex_of (file_at v m)) s ∙ u.1; turn = omega (arith, u.0) }
  by_kind (suc (suc (suc (suc (suc (suc (suc (suc (suc zero))))))))) x hk hx e =
      let i : ℕ = x / positions in
      let s : 256 * (i / 256) + i % 256 ≡ i = omega arith in
      record { exists = (omega arith, omega arith); page = ap (λ (m : ℕ). index_at v (file_at v m) (x % positions)) s ∙ e; turn = omega arith }
  by_kind (suc (suc (suc (suc (suc (suc (suc (suc (suc (suc c)))))))))) x hk hx e =
      let z : c ≡ 0 = omega (arith, hk) in
      let i : ℕ = x / positions in
      let s : 256 * (i / 256) + i % 256 ≡ i = omega arith in
      record { exists = (omega arith, omega arith); page = ap (λ (m : ℕ). page_at v (file_at v m) (x % positions)) s ∙ e; turn = omega arith }

  pub turn-has : (y : ℕ) → y < all_turns → turn_page P v y ≡ p → Has P v p y (holder_at y)
  unfolding turn_page holder_at
  turn-has y h e =
      let d = by_kind (y / turns) (y % turns) (omega arith) (omega arith) e in
      let a : y % turns % positions ≡ y % positions = omega arith in
      let b : turns * (y / turns) + y % turns ≡ y = omega arith in
      subst (λ (x : ℕ). Has P v p x (holder_by (y / turns) (y % turns / positions) (y % positions))) b
      (subst (λ (n : ℕ). Has P v p (turns * (y / turns) + y % turns) (holder_by (y / turns) (y % turns / positions) n)) a d)
