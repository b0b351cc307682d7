-- A file grown and shrunk again: the volume says what it said before. Assumes nothing.
use Rattle.std.specs.Prelude.{◌≡◌, List, ℕ, ◌-◌, ◌/◌, ◌≤◌, ◌<◌}
use Rattle.std.proofs.Common.{sym, ap, ◌∙◌, subst, arith}
use Rattle.std.proofs.Math.Decide.{ℕ_discrete, dec_lt}
use Rattle.sums.specs.Sum.{sum-ext}
use Rattle.book.specs.Answers.{Numbers}
use Rattle.book.specs.Bits.{bit}
use Rattle.book.specs.Calls.{grow_call, shrink_call}
use Rattle.book.specs.Entries.{user, object, used, used_pages, unreserved, page_count, file_entry}
use Rattle.book.specs.Files.{file_at, FileShape}
use Rattle.book.specs.Holders.{hit}
use Rattle.book.specs.Image.{pages}
use Rattle.book.specs.Outcome.{Outcome, call, asking, judged}
use Rattle.book.specs.Pointers.{flags, page}
use Rattle.book.specs.Rows.{Clear}
use Rattle.book.specs.Rules.{Rule7, Sound}
use Rattle.book.specs.Trees.{Root, page_at, root_at}
use Rattle.book.specs.Words.{Vol, vol}
use Rattle.laws.specs.Count.Good.{Most, good, free}
use Rattle.laws.specs.Frame.Beside.{Beside, beside_trans, beside-bits}
use Rattle.laws.specs.Frame.Still.{places-unreserved}
use Rattle.laws.specs.Grow.Call.{grow-done, grow-count, grew-call}
use Rattle.laws.specs.Grow.Indexed.{Grew}
use Rattle.laws.specs.Shrink.Call.{shrunk-call}
use Rattle.laws.specs.Shrink.Indexed.{Lost}
use Rattle.laws.specs.Tree.Levels.{page-none}
use Rattle.laws.specs.Tree.Pointer.{file-used, used-ext}
use Rattle.laws.specs.Tree.Slot.{hit-zero}

-- a file has no page past its last
pub past-none : (P : ℕ) (v : Vol) → Most P v → (e : ℕ) → e < 65536 → 0 < used (object v e) → (m : ℕ) → page_count (object v e) ≤ m → page_at v (file_at v e) m ≡ 0
unfolding Rule7 FileShape root_at
past-none P v s e h u m i = ap (λ (r : Root). page_at v r m) (file-used v e u) ∙ page-none P v (flags (object v e) 30) (page (object v e) 30) (page_count (object v e)) (s.r7 e h u).0 m i

-- counts, bits and every address of w are those of v
pub record Returned (P : ℕ) (v w : Vol) (a e : ℕ) : Type 0 where
  pub count : page_count (object w e) ≡ page_count (object v e)
  pub spent : used_pages (user w) a ≡ used_pages (user v) a
  pub unreserved : unreserved w ≡ unreserved v
  pub bits : (p : ℕ) → p < P → bit P w p ≡ bit P v p
  pub free : free P w ≡ free P v
  pub address : (x : ℕ) → x < 65536 → (m : ℕ) → page_at w (file_at w x) m ≡ page_at v (file_at v x) m
  pub beside : Beside P v w a e

pub returned : (P : ℕ) (v v' v'' : Vol) (a e n d : ℕ) → e < 65536 → 0 < used (object v e) → Sound P v → Grew P v v' a e n d (λ p. 0) → Lost P v' v'' a e n (λ p. 0) → Returned P v v'' a e
unfolding free
returned P v v' v'' a e n d he ue S g l = record {
  count = l.longer.count ∙ sym g.longer.count;
  spent = omega (arith, g.longer.spent, l.longer.spent);
  unreserved = places-unreserved v v'' B.places;
  bits = bits;
  free = sum-ext P (λ p. 1 - bit P v'' p) (λ p. 1 - bit P v p) (λ p h. ap (λ (x : ℕ). 1 - x) (bits p h));
  address = λ x h m. elim (ℕ_discrete x e) [
    | no ne ↦ B.address x h ne m
    | yes q ↦ subst (λ (y : ℕ). page_at v'' (file_at v'' y) m ≡ page_at v (file_at v y) m) (sym q) (own m)
  ];
  beside = B;
}
  where
    B : Beside P v v'' a e
    B = beside_trans P v v' v'' a e g.beside l.beside

    bits : (p : ℕ) → p < P → bit P v'' p ≡ bit P v p
    bits p h = omega (arith, beside-bits P v v'' a e (good P v S) l.good B p h, g.longer.weight (hit p) (hit-zero p), l.longer.weight (hit p) (hit-zero p))

    same : used (object v'' e) ≡ used (object v e)
    same = used-ext (object v'' e) (object v e) (sym (l.longer.entry 0 (omega arith)) ∙ g.longer.entry 0 (omega arith))

    own : (m : ℕ) → page_at v'' (file_at v'' e) m ≡ page_at v (file_at v e) m
    own m = elim (dec_lt m n) [
      | yes h ↦ sym (l.longer.old m h) ∙ g.longer.old m h
      | no h ↦ past-none P v'' l.good.most e he (omega (arith, same)) m (omega (arith, l.longer.count))
          ∙ sym (past-none P v (good P v S).most e he ue m (omega (arith, g.longer.count)))
    ]

-- grow, done, and shrink, done
pub shrink-grow : (img : List ℕ) (u f : ℕ) (r : Numbers ℕ) (img' : List ℕ) → Outcome (grow_call img u f) img r img' → r.number ≡ 0
    → (r' : Numbers ℕ) (img'' : List ℕ) → Outcome (shrink_call img' u f) img' r' img'' → r'.number ≡ 0 → Returned (pages img) (vol img) (vol img'') u (file_entry u f)
unfolding grow_call call asking judged Clear
shrink-grow img u f r img' o z r' img'' o' z' =
    let e : ℕ = file_entry u f in
    let D = grow-done img u f r img' o z in let c = D.clear in
    let n : ℕ = page_count (object (vol img) e) in
    let q : page_count (object (vol img') e) - 1 ≡ n = omega (arith, grow-count img u f r img' o z) in
    let L : Lost (pages img') (vol img') (vol img'') u e n (λ p. 0) = subst (λ (m : ℕ). Lost (pages img') (vol img') (vol img'') u e m (λ p. 0)) q (shrunk-call img' u f r' img'' o' z') in
    returned (pages img) (vol img) (vol img') (vol img'') u e n r.value (omega (arith, c.1.0.0, c.1.0.1)) c.1.1.1.0.1 c.1.1.0 (grew-call img u f r img' o z)
    (subst (λ (l : ℕ). Lost (l / 1024) (vol img') (vol img'') u e n (λ p. 0)) D.size L)
