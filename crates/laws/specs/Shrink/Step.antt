-- Shrinking a file by one page leaves a sound volume sound, and gives back the pages of its last position. Assumes nothing.
use Rattle.std.specs.Prelude.{◌≡◌}
use Rattle.std.proofs.Math.Path.{refl, subst}
use Rattle.std.proofs.Common.{sym, ◌∙◌, inl, arith}
use Prim.Native.Nat.{ℕ, zero, suc, ◌+◌, ◌-◌, ◌*◌, ◌/◌, ◌%◌, ◌≤◌, ◌<◌}
use Rattle.book.specs.Bits.{mark}
use Rattle.book.specs.Entries.{user, object, used, used_pages}
use Rattle.book.specs.Files.{Shape}
use Rattle.book.specs.Grow.{first, onward, raise, block, phase_by, index_of, entered}
use Rattle.book.specs.Holders.{hit}
use Rattle.book.specs.Pointers.{slot, flags, page, pointer, set_slot}
use Rattle.book.specs.Rules.{Sound}
use Rattle.book.specs.Shrink.{shrink_to, shrink}
use Rattle.book.specs.Words.{Vol, two}
use Rattle.laws.specs.Bits.Mark.{release-good}
use Rattle.laws.specs.Bits.Marked.{alone, mark-still}
use Rattle.laws.specs.Count.Good.{Good, good, sound}
use Rattle.laws.specs.File.Around.{Around, longer-still}
use Rattle.laws.specs.File.Kinds.{kind-low, kind-high}
use Rattle.laws.specs.File.Owned.{shape_is, Owned}
use Rattle.laws.specs.Frame.Beside.{still-beside, beside_trans}
use Rattle.laws.specs.Frame.Places.{only-mark, only-trans}
use Rattle.laws.specs.Frame.Still.{Still, still-sym, bit_page-same}
use Rattle.laws.specs.Shrink.Indexed.{Lost, Real, lost-first, lost-onward}
use Rattle.laws.specs.Shrink.Subindexed.{lost-raise, lost-onward-sub, lost-block}
use Rattle.laws.specs.Tree.Slot.{hit-sym}

-- one of the pages in hand is given back
pub lost-release : (P : ℕ) (v w : Vol) (a e n : ℕ) (hand hand' : ℕ → ℕ) (d : ℕ) → e < 65536 → Lost P v w a e n hand → Real P v e n d
    → ((p : ℕ) → hand' p + hit p d ≡ hand p) → Lost P v (mark P w d 0) a e n hand'
lost-release P v w a e n hand hand' d he L r h = record {
  good = release-good P w hand hand' L.good d r.1 r.0 (λ p i. omega (arith, h p, hit-sym p d));
  longer = longer-still P (mark P w d 0) w v a e n he (still-sym P w (mark P w d 0) S) L.longer;
  beside = beside_trans P v w (mark P w d 0) a e L.beside (still-beside P w (mark P w d 0) a e he S);
  words = only-trans (Around P v a e n) v w (mark P w d 0) L.words
      (only-mark (Around P v a e n) P w d 0 (λ p j i. inl (d, r.2, (i.0 ∙ bit_page-same P v w L.beside.places d, i.1, i.2))));
}
  where
    S : Still P w (mark P w d 0)
    S = mark-still P w L.good.most.r1 (alone P w hand L.good) d 0 r.1 (omega arith)

module _ (P : ℕ) (v : Vol) (S : Sound P v) (pos : 0 < P) (big : P ≤ 1073741824) (a f : ℕ) (ha : a < 256) (hf : f < 256)
    (uf : 0 < used (object v (256 * a + f))) (kind : flags (object v (256 * a + f)) 30 ≡ 0 → two (object v (256 * a + f)) 26 ≡ 0) (has : 0 < two (object v (256 * a + f)) 26) where
  abbrev e : ℕ
  e = 256 * a + f

  abbrev n : ℕ
  n = two (object v e) 26

  -- the last position
  abbrev m : ℕ
  m = n - 1

  nm : n ≡ suc m
  nm = omega arith

  abbrev x : ℕ
  x = flags (object v e) 30

  abbrev t : ℕ
  t = page (object v e) 30

  G : Good P v (λ p. 0)
  G = good P v S

  here : Owned P v (λ p. 0) a f
  here = record { seat = record { good = G; pos = pos; ha = ha; hf = hf }; big = big; uf = uf }

  he : e < 65536
  he = omega arith

  shape : Shape P v x t n
  shape = shape_is here x refl

  low : n ≤ 512 → x ≡ 1
  low h = kind-low P v t n x shape kind (omega arith) h

  high : 512 < n → x ≡ 2
  high h = kind-high P v t n x shape kind h

  abbrev left : ℕ → ℕ
  left k = used_pages (user v) a - k

  -- the last page of an index block that stays
  onwarded : 0 < m % 512 → (y : ℕ) → x ≡ y → Shape P v y t n
      → Lost P v (mark P (entered a f v (set_slot v (index_of v y t m) (m % 512) 0) m (pointer y t) (left 1)) (slot v (index_of v y t m) (m % 512)) 0) a e m (λ p. 0)
  unfolding entered index_of Shape
  onwarded h zero q s = absurd (let r : ⊥ = omega (arith, kind q) in r)
  onwarded h (suc zero) q s = let c = lost-onward here m nm (omega arith) q in
      subst (λ (k : ℕ). Lost P v (mark P (entered a f v (set_slot v t k 0) m (pointer 1 t) (left 1)) (slot v t k) 0) a e m (λ p. 0)) (let r : m ≡ m % 512 = omega (arith, s.1) in r)
      (lost-release P v _ a e m _ (λ p. 0) (slot v t m) he c.0 c.1 (λ p. omega arith))
  onwarded h (suc (suc zero)) q s = let c = lost-onward-sub here m nm (omega (arith, s.0)) h q in
      lost-release P v _ a e m _ (λ p. 0) (slot v (slot v t (m / 512)) (m % 512)) he c.0 c.1 (λ p. omega arith)
  onwarded h (suc (suc (suc y))) q s = absurd s

  stayed : 0 < m % 512 → Lost P v (shrink_to P v a f onward) a e m (λ p. 0)
  unfolding shrink_to
  stayed h = onwarded h x refl shape

  -- the only page
  firsted : m ≡ 0 → Lost P v (shrink_to P v a f first) a e m (λ p. 0)
  unfolding shrink_to entered pointer
  firsted h = let c = lost-first here (omega arith) (low (omega arith)) in
      subst (λ (k : ℕ). Lost P v (shrink_to P v a f first) a e k (λ p. 0)) (sym h)
      (lost-release P v _ a e 0 _ (λ p. 0) t he (lost-release P v _ a e 0 _ (λ p. hit p t) (slot v t 0) he c.0 c.2 (λ p. omega arith)) c.1 (λ p. omega arith))

  -- 513 pages
  raised : m ≡ 512 → Lost P v (shrink_to P v a f raise) a e m (λ p. 0)
  unfolding shrink_to entered
  raised h = let c = lost-raise here (omega arith) (high (omega arith)) in let b : ℕ = slot v t 1 in
      subst (λ (k : ℕ). Lost P v (shrink_to P v a f raise) a e k (λ p. 0)) (sym h)
      (lost-release P v _ a e 512 _ (λ p. 0) t he
      (lost-release P v _ a e 512 _ (λ p. hit p t) b he (lost-release P v _ a e 512 _ (λ p. hit p t + hit p b) (slot v b 0) he c.0 c.3 (λ p. omega arith)) c.2 (λ p. omega arith)) c.1 (λ p. omega arith))

  -- the only page of the last index block of several
  blocked : m % 512 ≡ 0 → 512 < m → Lost P v (shrink_to P v a f block) a e m (λ p. 0)
  unfolding shrink_to entered
  blocked h i = let c = lost-block here m nm i h (high (omega arith)) in let b : ℕ = slot v t (m / 512) in
      lost-release P v _ a e m _ (λ p. 0) b he (lost-release P v _ a e m _ (λ p. hit p b) (slot v b 0) he c.0 c.2 (λ p. omega arith)) c.1 (λ p. omega arith)

  -- the whole step: the pages of the last position are free again
  pub shrunk : Lost P v (shrink P v a f) a e m (λ p. 0)
  unfolding shrink phase_by
  shrunk = go (m % 512) (m / 512) refl refl
    where
      go : (k q : ℕ) → m % 512 ≡ k → m / 512 ≡ q → Lost P v (shrink_to P v a f (phase_by k q)) a e m (λ p. 0)
      go (suc k) q i j = stayed (omega arith)
      go zero zero i j = firsted (omega arith)
      go zero (suc zero) i j = raised (omega arith)
      go zero (suc (suc q)) i j = blocked i (omega arith)

  pub shrink-sound : Sound P (shrink P v a f)
  shrink-sound = sound P (shrink P v a f) (λ p. 0) shrunk.good (λ p h. refl)
