-- Nothing changed but one file and its owner's used count (Beside). Assumes nothing.
use Rattle.std.specs.Prelude.{◌≡◌, refl, ◌≢◌, ℕ, ◌+◌, ◌/◌, ◌<◌, ◌*◌, ◌%◌}
use Rattle.std.proofs.Common.{ap, ◌∙◌, subst, arith}
use Rattle.sums.specs.Sum.{sum-change, sum-none}
use Rattle.book.specs.Bits.{bit}
use Rattle.book.specs.Entries.{Table, user, object, used, used_pages}
use Rattle.book.specs.Files.{file_at}
use Rattle.book.specs.Holders.{hit, all, some, mine}
use Rattle.book.specs.Rules.{Rule6Over, Rule10}
use Rattle.book.specs.Trees.{Root, weigh_r, page_at}
use Rattle.book.specs.Words.{Vol}
use Rattle.laws.specs.Count.Good.{Good, free, free-count}
use Rattle.laws.specs.Frame.Edit.{Change, c-users, c-objs, c-file, file-root, w-file, zero_b, users-words, objs-words, edit-all, Seat}
use Rattle.laws.specs.Frame.Roots.{page_at-frame}
use Rattle.laws.specs.Frame.Still.{SamePlaces, Still, places-refl, places-trans, places-frame}
use Rattle.laws.specs.Tree.Pointer.{used-ext}

-- nothing changed but what the file at e is, and the used count of user a
pub record Beside (P : ℕ) (v v' : Vol) (a e : ℕ) : Type 0 where
  pub places : SamePlaces v v'
  pub users : (u : ℕ) → u ≢ a → (k : ℕ) → k < 32 → user v' u k ≡ user v u k
  pub owner : (k : ℕ) → k < 32 → k ≢ 16 → k ≢ 17 → user v' a k ≡ user v a k
  pub files : (x : ℕ) → x ≢ e → (k : ℕ) → k < 32 → object v' x k ≡ object v x k
  pub address : (x : ℕ) → x < 65536 → x ≢ e → (m : ℕ) → page_at v' (file_at v' x) m ≡ page_at v (file_at v x) m
  pub holding : (x : ℕ) → x < 65536 → x ≢ e → (g : ℕ → ℕ) → weigh_r v' (file_at v' x) g ≡ weigh_r v (file_at v x) g
  pub held : (g : ℕ → ℕ) → all P v' g + weigh_r v (file_at v e) g ≡ all P v g + weigh_r v' (file_at v' e) g

pub still-beside : (P : ℕ) (v w : Vol) (a e : ℕ) → e < 65536 → Still P v w → Beside P v w a e
still-beside P v w a e he S = record {
  places = S.places;
  users = λ u n k h. ap (λ (U : Table). U u k) S.users;
  owner = λ k h i j. ap (λ (U : Table). U a k) S.users;
  files = λ x n k h. ap (λ (O : Table). O x k) S.objects;
  address = λ x h n m. S.address x h m;
  holding = λ x h n g. S.holding x h g;
  held = λ g. omega (arith, S.held g, S.holding e he g);
}

pub beside-refl : (P : ℕ) (v : Vol) (a e : ℕ) → Beside P v v a e
beside-refl P v a e = record {
  places = places-refl v;
  users = λ u n k h. refl;
  owner = λ k h i j. refl;
  files = λ x n k h. refl;
  address = λ x h n m. refl;
  holding = λ x h n g. refl;
  held = λ g. refl;
}

pub beside_trans : (P : ℕ) (v w z : Vol) (a e : ℕ) → Beside P v w a e → Beside P w z a e → Beside P v z a e
beside_trans P v w z a e S T = record {
  places = places-trans v w z S.places T.places;
  users = λ u n k h. T.users u n k h ∙ S.users u n k h;
  owner = λ k h i j. T.owner k h i j ∙ S.owner k h i j;
  files = λ x n k h. T.files x n k h ∙ S.files x n k h;
  address = λ x h n m. T.address x h n m ∙ S.address x h n m;
  holding = λ x h n g. T.holding x h n g ∙ S.holding x h n g;
  held = λ g. omega (arith, S.held g, T.held g);
}

-- so the bits change as the file's pages do
pub beside-bits : (P : ℕ) (v v' : Vol) (a e : ℕ) → Good P v (λ p. 0) → Good P v' (λ p. 0) → Beside P v v' a e → (p : ℕ) → p < P
    → bit P v' p + weigh_r v (file_at v e) (hit p) ≡ bit P v p + weigh_r v' (file_at v' e) (hit p)
beside-bits P v v' a e G H B p h = omega (arith, G.held p h, H.held p h, B.held (hit p))

module _ (P : ℕ) (v v' : Vol) (a e : ℕ) (B : Beside P v v' a e) where
  pub beside-used : used (user v' a) ≡ used (user v a)
  beside-used = used-ext (user v' a) (user v a) (B.owner 0 (omega arith) (omega arith) (omega arith))

module _ {P : ℕ} {v : Vol} {hand : ℕ → ℕ} {a f : ℕ} (seat : Seat P v hand a f) {D : ℕ → ℕ} {v' : Vol} (E : Change seat D v') where
  -- over entry numbers
  by-entry : (Q : ℕ → Type 0) → ((u h : ℕ) → u < 256 → h < 256 → 256 * u + h ≢ 256 * a + f → Q (256 * u + h)) → (x : ℕ) → x < 65536 → x ≢ 256 * a + f → Q x
  by-entry Q q x h n = let s : 256 * (x / 256) + x % 256 ≡ x = omega arith in
      subst Q s (q (x / 256) (x % 256) (omega arith) (omega arith) (λ i. n (omega arith)))

  pub edit-beside : ((k : ℕ) → v' 0 k ≡ v 0 k) → ((k : ℕ) → k < 32 → k ≢ 16 → k ≢ 17 → user v' a k ≡ user v a k) → Beside P v v' a (256 * a + f)
  edit-beside m o = record {
    places = places-frame v v' _ E.agree m (c-users seat E) (c-objs seat E);
    users = users-words seat E;
    owner = o;
    files = objs-words seat E;
    address = by-entry (λ x. (m : ℕ) → page_at v' (file_at v' x) m ≡ page_at v (file_at v x) m)
        (λ u h i j n m. ap (λ (r : Root). page_at v' r m) (file-root seat E (256 * u + h) n)
        ∙ page_at-frame v v' _ E.agree (file_at v (256 * u + h)) (zero_b seat E _ (c-file seat E u h i j n)) m);
    holding = by-entry (λ x. (g : ℕ → ℕ) → weigh_r v' (file_at v' x) g ≡ weigh_r v (file_at v x) g) (λ u h i j n g. w-file seat E g u h i j n);
    held = edit-all seat E;
  }

-- what the owner's files hold changes as the file does
pub beside-mine : (P : ℕ) (v v' : Vol) (a f : ℕ) → a < 256 → f < 256 → Beside P v v' a (256 * a + f) → (g : ℕ → ℕ)
    → mine v' a g + weigh_r v (file_at v (256 * a + f)) g ≡ mine v a g + weigh_r v' (file_at v' (256 * a + f)) g
unfolding mine
beside-mine P v v' a f ha hf B g = sum-change 256 (λ h. weigh_r v (file_at v (256 * a + h)) g) (λ h. weigh_r v' (file_at v' (256 * a + h)) g) f hf
    (λ h i n. B.holding (256 * a + h) (omega arith) (λ q. n (omega arith)) g)

pub beside-free : (P : ℕ) (v v' : Vol) (a f : ℕ) → 0 < P → a < 256 → f < 256 → 0 < used (object v (256 * a + f)) → Good P v (λ p. 0) → Good P v' (λ p. 0) → Beside P v v' a (256 * a + f)
    → free P v' + used_pages (user v') a ≡ free P v + used_pages (user v) a
unfolding Rule6Over Rule10
beside-free P v v' a f pos ha hf uf G H B =
    let o : 0 < used (user v a) = (G.most.r6.0 a f ha hf uf).owner in
    omega (
      arith,
      free-count P v (λ p. 0) G pos,
      free-count P v' (λ p. 0) H pos,
      sum-none P (λ p. 0) (λ p i. refl),
      B.held some,
      beside-mine P v v' a f ha hf B some,
      G.most.r10.0 a ha o,
      H.most.r10.0 a ha (omega (arith, beside-used P v v' a (256 * a + f) B)),
    )
