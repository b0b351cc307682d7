-- A step that takes pages and pays for them out of unreserved (Taking): all entries, all files and all pages that are there stay. Assumes nothing.
use Rattle.std.specs.Prelude.{◌≡◌, refl, ◌≢◌, ◌⊎◌, ℕ, ◌+◌, ◌-◌, ◌/◌, ◌≤◌, ◌<◌}
use Rattle.std.proofs.Common.{sym, ◌∙◌, inl, arith}
use Rattle.std.proofs.Math.Path.{ap, subst}
use Rattle.std.proofs.Math.Logic.{inr}
use Rattle.std.proofs.Math.Decide.{ℕ_discrete}
use Rattle.sums.specs.Sum.{sum-ext, sum-add, sum-const}
use Rattle.book.specs.Bits.{bit, bit_word, bit_place, bit_page, bit_file, digit, mark, claim, reserved, page_bits}
use Rattle.book.specs.Entries.{user_file, object_file, user, object, unreserved}
use Rattle.book.specs.Files.{file_at}
use Rattle.book.specs.Holders.{hit, some}
use Rattle.book.specs.Trees.{Root, weigh_r, blocks_r, page_at}
use Rattle.book.specs.Words.{Vol, word}
use Rattle.book.specs.Written.{word-ext}
use Rattle.laws.specs.Bits.Claim.{FreePage, InHand, hand-pos, bit_page-rest, claim-agree, claim-quiet, claim-none, claim-bit, claim-bit-other, claim-free, claim-master}
use Rattle.laws.specs.Count.Good.{Good, free, bit_le}
use Rattle.laws.specs.Create.Settled.{Settled, file-same, bits-kept}
use Rattle.laws.specs.Frame.Places.{Places, PageOf, WordsOf, Either, OnlyAt, only_wider, only_then, only-put, only-wipe}
use Rattle.laws.specs.Frame.Rest.{bits-good, rest, all_rest}
use Rattle.laws.specs.Frame.Roots.{Roots, page_at-frame, weigh_r-frame, blocks_r-le, users-root, objs-root}
use Rattle.laws.specs.Frame.Still.{Still, still-calm, bit_page-same, places-unreserved, blocks-nobody}
use Rattle.laws.specs.Tree.Slot.{Agree, hit-zero, hit_same, hit_other}

-- ---- pages taken

-- page d was free in v, and is reserved in w
abbrev pub Taken : ℕ → Vol → Vol → ℕ → Type 0
Taken P v w d = (d < P) × (bit P v d ≡ 0) × (bit P w d ≡ 1)

-- the words of the pages taken, and the words of their bits
abbrev pub TakenWords : ℕ → Vol → Vol → Places
TakenWords P v w p k = (d : ℕ) × Taken P v w d × (PageOf d p k ⊎ WordsOf (bit_page P v d) (bit_word d) 1 p k)

-- no words at all
abbrev pub NoWords : Places
NoWords p k = ⊥

pub no_words : (K : Places) (p k : ℕ) → Either NoWords K p k → K p k
no_words K p k (inl h) = absurd h
no_words K p k (inr h) = h

-- n pages are taken and m paid; but for these pages, only words of F change
pub record Taking (P : ℕ) (v w : Vol) (F : Places) (n m : ℕ) : Type 0 where
  pub users : user w ≡ user v
  pub objects : object w ≡ object v
  pub user_at : (i : ℕ) → 0 < page_at v (user_file v) i → page_at w (user_file w) i ≡ page_at v (user_file v) i
  pub object_at : (i : ℕ) → 0 < page_at v (object_file v) i → page_at w (object_file w) i ≡ page_at v (object_file v) i
  pub address : (e : ℕ) → e < 65536 → (i : ℕ) → page_at w (file_at w e) i ≡ page_at v (file_at v e) i
  pub holding : (e : ℕ) → e < 65536 → (g : ℕ → ℕ) → weigh_r w (file_at w e) g ≡ weigh_r v (file_at v e) g
  pub bits : (p : ℕ) → p < P → bit P v p ≤ bit P w p
  pub places : (p : ℕ) → bit_page P w p ≡ bit_page P v p
  pub left : free P w + n ≡ free P v
  pub paid : unreserved w + m ≡ unreserved v
  pub words : OnlyAt (Either (TakenWords P v w) F) v w

pub taking-none : (P : ℕ) (v : Vol) → Taking P v v NoWords 0 0
taking-none P v = record {
  users = refl;
  objects = refl;
  user_at = λ i h. refl;
  object_at = λ i h. refl;
  address = λ e h i. refl;
  holding = λ e h g. refl;
  bits = λ p h. omega arith;
  places = λ p. refl;
  left = omega arith;
  paid = omega arith;
  words = λ p k a. refl;
}

-- one step after the other; n, m and F are what they come to
pub taking-then : (P : ℕ) (v w x : Vol) (F H K : Places) (a b c d n m : ℕ) → Taking P v w F a b → Taking P w x H c d → n ≡ a + c → m ≡ b + d
    → ((p k : ℕ) → Either F H p k → Either (TakenWords P v x) K p k) → Taking P v x K n m
taking-then P v w x F H K a b c d n m S T en em wide = record {
  users = T.users ∙ S.users;
  objects = T.objects ∙ S.objects;
  user_at = λ i h. T.user_at i (omega (arith, S.user_at i h)) ∙ S.user_at i h;
  object_at = λ i h. T.object_at i (omega (arith, S.object_at i h)) ∙ S.object_at i h;
  address = λ e h i. T.address e h i ∙ S.address e h i;
  holding = λ e h g. T.holding e h g ∙ S.holding e h g;
  bits = λ p h. omega (arith, S.bits p h, T.bits p h);
  places = λ p. T.places p ∙ S.places p;
  left = omega (arith, S.left, T.left);
  paid = omega (arith, S.paid, T.paid);
  words = only_wider _ (Either (TakenWords P v x) K) v x both (only_then (Either (TakenWords P v w) F) (Either (TakenWords P w x) H) v w x S.words T.words);
}
  where
    both : (p k : ℕ) → Either (Either (TakenWords P v w) F) (Either (TakenWords P w x) H) p k → Either (TakenWords P v x) K p k
    both p k (inl (inl (d, (h, z, o), q))) = inl (d, (h, z, omega (arith, T.bits d h, bit_le P x d)), q)
    both p k (inl (inr f)) = wide p k (inl f)
    both p k (inr (inl (d, (h, z, o), inl q))) = inl (d, (h, omega (arith, S.bits d h), o), inl q)
    both p k (inr (inl (d, (h, z, o), inr (q, i, j)))) = inl (d, (h, omega (arith, S.bits d h), o), inr (q ∙ S.places d, i, j))
    both p k (inr (inr f)) = wide p k (inr f)

-- the same in other words
pub taking-wider : (P : ℕ) (v w : Vol) (F K : Places) (a b n m : ℕ) → Taking P v w F a b → n ≡ a → m ≡ b → ((p k : ℕ) → F p k → Either (TakenWords P v w) K p k) → Taking P v w K n m
taking-wider P v w F K a b n m S en em wide = taking-then P v v w NoWords F K 0 0 a b n m (taking-none P v) S (omega arith) (omega arith) (λ p k h. wide p k (no_words F p k h))

-- ---- pages that no user, object or file tree holds change

module _ (P : ℕ) (v w : Vol) (m : (k : ℕ) → w 0 k ≡ v 0 k) (C : ℕ → ℕ) (c0 : C 0 ≡ 0) (A : Agree C v w) (q : rest v C ≡ 0) where
  R : Roots v w
  unfolding Roots
  R k i j = m k

  pub calm-blocks : (blocks_r v (user_file v) C ≡ 0) × (blocks_r v (object_file v) C ≡ 0)
  unfolding rest
  calm-blocks = (omega (arith, blocks_r-le v (user_file v) C, q), omega (arith, blocks_r-le v (object_file v) C, q))

  pub calm-users : (i : ℕ) → page_at w (user_file w) i ≡ page_at v (user_file v) i
  calm-users i = ap (λ (r : Root). page_at w r i) (users-root v w R) ∙ page_at-frame v w C A (user_file v) calm-blocks.0 i

  pub calm-objs : (i : ℕ) → page_at w (object_file w) i ≡ page_at v (object_file v) i
  calm-objs i = ap (λ (r : Root). page_at w r i) (objs-root v w R) ∙ page_at-frame v w C A (object_file v) calm-blocks.1 i

  pub calm-taking : (F : Places) (n : ℕ) → ((p : ℕ) → p < P → bit P v p ≤ bit P w p) → free P w + n ≡ free P v → OnlyAt (Either (TakenWords P v w) F) v w → Taking P v w F n 0
  calm-taking F n more left words = record {
    users = S.users;
    objects = S.objects;
    user_at = λ i h. calm-users i;
    object_at = λ i h. calm-objs i;
    address = S.address;
    holding = S.holding;
    bits = more;
    places = bit_page-same P v w S.places;
    left = left;
    paid = omega (arith, places-unreserved v w S.places);
    words = words;
  }
    where
      S : Still P v w
      S = still-calm P v w C c0 A q m

-- a page is taken
module _ {P : ℕ} {v : Vol} {hand : ℕ → ℕ} {d : ℕ} (here : FreePage P v hand d) where
  abbrev w : Vol
  w = claim P v d

  claim-words : OnlyAt (Either (WordsOf (bit_page P v d) (bit_word d) 1) (PageOf d)) v w
  unfolding claim mark
  claim-words = only_then _ (PageOf d) v (mark P v d 1) w (only-put v (bit_page P v d) (bit_word d) _) (only-wipe (mark P v d 1) d)

  pub claim-taking : Taking P v w NoWords 1 0
  claim-taking = calm-taking P v w (claim-master here) (λ x. hit (bit_page P v d) x + hit d x) (claim-none here) (claim-agree here)
      (claim-quiet here) NoWords 1 more (claim-free here) (only_wider _ (Either (TakenWords P v w) NoWords) v w wide claim-words)
    where
      more : (p : ℕ) → p < P → bit P v p ≤ bit P w p
      more p h = elim (ℕ_discrete p d) [
        | yes e ↦ subst (λ (x : ℕ). bit P v x ≤ bit P w x) (sym e) (omega (arith, here.clear))
        | no n ↦ omega (arith, claim-bit-other here p h n)
      ]

      wide : (p k : ℕ) → Either (WordsOf (bit_page P v d) (bit_word d) 1) (PageOf d) p k → Either (TakenWords P v w) NoWords p k
      wide p k (inl h) = inl (d, (here.below, here.clear, claim-bit here), inr h)
      wide p k (inr h) = inl (d, (here.below, here.clear, claim-bit here), inl h)

-- a page in hand is written
module _ {P : ℕ} {v : Vol} {hand : ℕ → ℕ} {s : ℕ} (here : InHand P v hand s) {w : Vol} (else : (q j : ℕ) → q ≢ s → w q j ≡ v q j) where
  master : (k : ℕ) → w 0 k ≡ v 0 k
  master k = else 0 k (omega (arith, hand-pos here))

  agree : Agree (hit s) v w
  unfolding Agree
  agree q z k = word-ext v w q k (λ h. else q k (λ e. omega (arith, z, subst (λ (x : ℕ). hit x q ≡ 1) e (hit_same q h))))

  quiet : rest v (hit s) ≡ 0
  quiet = omega (arith, here.good.held s here.below, bit_le P v s, here.held, all_rest P v (hit s))

  bits : (p : ℕ) → p < P → bit P w p ≡ bit P v p
  unfolding bit Agree
  bits p h =
      ap (λ (x : ℕ). digit (bit_place p) (word w x (bit_word p))) (bit_page-same P v w (still-calm P v w (hit s) (hit-zero s) agree quiet master).places p)
      ∙ ap (digit (bit_place p)) (agree (bit_page P v p) (hit_other s (bit_page P v p) (λ e. omega (arith, here.held, subst (λ (x : ℕ). hand x ≡ 0) e (bit_page-rest P v hand here.good p h).1))) (bit_word p))

  pub hand-good : Good P w hand
  hand-good = bits-good P v w hand hand (hit s) here.good (hit-zero s) agree quiet master (λ p h. omega (arith, bits p h))

  pub hand-taking : (F : Places) → OnlyAt F v w → Taking P v w F 0 0
  unfolding free
  hand-taking F o = calm-taking P v w master (hit s) (hit-zero s) agree quiet F 0 (λ p h. omega (arith, bits p h))
      (omega (arith, sum-ext P (λ p. 1 - bit P w p) (λ p. 1 - bit P v p) (λ p h. ap (λ (x : ℕ). 1 - x) (bits p h))))
      (only_wider F (Either (TakenWords P v w) F) v w (λ p k h. inr h) o)

-- ---- a page in hand becomes the system's, and is paid

pub settled-taking : {P : ℕ} {v v' : Vol} {hand C : ℕ → ℕ} {new : (ℕ → ℕ) → ℕ} → Good P v hand → Settled P v v' C new
    → ((i : ℕ) → 0 < page_at v (user_file v) i → page_at v' (user_file v') i ≡ page_at v (user_file v) i)
    → ((i : ℕ) → 0 < page_at v (object_file v) i → page_at v' (object_file v') i ≡ page_at v (object_file v) i)
    → (F : Places) → OnlyAt F v v' → Taking P v v' F 0 (new some)
unfolding unreserved bit_page bit_file page_at free
settled-taking {P} {v} {v'} {hand} {C} {new} G T ua oa F o = record {
  users = T.users;
  objects = T.objs;
  user_at = ua;
  object_at = oa;
  address = λ e h i. ap (λ (r : Root). page_at v' r i) (file-same G T e) ∙ page_at-frame v v' C T.agree (file_at v e) (blocks-nobody v C T.no_files e h) i;
  holding = λ e h g. ap (λ (r : Root). weigh_r v' r g) (file-same G T e) ∙ weigh_r-frame v v' C T.agree (file_at v e) (blocks-nobody v C T.no_files e h) g;
  bits = λ p h. omega (arith, bits-kept G T p);
  places = λ p. ap (λ (r : Root). page_at v r (p / page_bits)) T.bits;
  left = omega (arith, sum-ext P (λ p. 1 - bit P v' p) (λ p. 1 - bit P v p) (λ p h. ap (λ (x : ℕ). 1 - x) (bits-kept G T p)));
  paid = T.pay;
  words = only_wider F (Either (TakenWords P v v') F) v v' (λ p k h. inr h) o;
}

pub free-reserved : (P : ℕ) (v : Vol) → free P v + reserved P v ≡ P
unfolding free reserved
free-reserved P v = omega (
  arith,
  sum-add P (λ p. 1 - bit P v p) (bit P v),
  sum-ext P (λ p. (1 - bit P v p) + bit P v p) (λ p. 1) (λ p h. omega (arith, bit_le P v p)),
  sum-const P 1,
)

-- n pages taken: n more reserved
pub taking-reserved : (P : ℕ) (v w : Vol) (F : Places) (n m : ℕ) → Taking P v w F n m → reserved P w ≡ reserved P v + n
taking-reserved P v w F n m T = omega (arith, T.left, free-reserved P v, free-reserved P w)
