-- The two conversions as calls: the image stays sound, words of names and types alone differ, and what names are read as stays. Assumes nothing.
use Rattle.std.specs.Prelude.{◌≡◌, refl, ◌≢◌, ◌⊎◌, List, ℕ, ◌/◌, ◌≤◌, ◌<◌}
use Rattle.std.proofs.Common.{◌∙◌, subst, inl, inr}
use native.Mathlib.Omega.{arith}
use Rattle.book.specs.Answers.{Numbers}
use Rattle.book.specs.Calls.{convert_call}
use Rattle.book.specs.Entries.{user, object, used, user_page, object_page, user_file, object_file, page_count, file_entry}
use Rattle.book.specs.Files.{file_at}
use Rattle.book.specs.Holders.{hit}
use Rattle.book.specs.Image.{pages, Whole}
use Rattle.book.specs.Names.{ends}
use Rattle.book.specs.Outcome.{Outcome, call}
use Rattle.book.specs.Rows.{Rows, end, row, Counted}
use Rattle.book.specs.Rules.{Sound}
use Rattle.book.specs.Trees.{Root, weigh_r, page_at}
use Rattle.book.specs.Words.{Vol, vol}
use Rattle.book.specs.Convert.{refilled_user, refilled_object, AllFilled, convert}
use Rattle.laws.specs.Call.After.{kept-call, frame-call, after_call, after-done}
use Rattle.laws.specs.Call.Write.{no-users, no-objects}
use Rattle.laws.specs.Convert.Filled.{Renamed, renamed-refl, renamed, remade-unused, remade-kept, all-filled}
use Rattle.laws.specs.Convert.Pass.{SameAddresses}
use Rattle.laws.specs.Convert.Refilled.{user-keeps, object-keeps}
use Rattle.laws.specs.Convert.Volume.{NameWords, Converted, converted}
use Rattle.laws.specs.File.Kinds.{position-page}
use Rattle.laws.specs.Frame.Places.{OnlyAt}
use Rattle.laws.specs.Frame.Roots.{page_at-le}
use Rattle.laws.specs.Tree.Slot.{hit_same, hit-zero}

-- ---- what a conversion leaves

-- every word of an entry beside its name and type, and every word of an unused one; where names and types are, and what they are read as; every address; every word of every file's pages
pub record BesideNames (v v' : Vol) : Type 0 where
  pub users : (u : ℕ) → u < 256 → (k : ℕ) → k < 32 → (k < 1) ⊎ (9 ≤ k) → user v' u k ≡ user v u k
  pub objects : (e : ℕ) → e < 65536 → (k : ℕ) → k < 32 → (k < 1) ⊎ (11 ≤ k) → object v' e k ≡ object v e k
  pub unused_users : (u : ℕ) → u < 256 → used (user v u) ≡ 0 → (k : ℕ) → k < 32 → user v' u k ≡ user v u k
  pub unused_objects : (e : ℕ) → e < 65536 → used (object v e) ≡ 0 → (k : ℕ) → k < 32 → object v' e k ≡ object v e k
  pub renamed : Renamed v v'
  pub addresses : SameAddresses v v'
  pub contents : (a f n : ℕ) → a < 256 → f < 256 → 0 < used (object v (file_entry a f)) → n < page_count (object v (file_entry a f))
      → (k : ℕ) → v' (page_at v (file_at v (file_entry a f)) n) k ≡ v (page_at v (file_at v (file_entry a f)) n) k

nothing : (v : Vol) → BesideNames v v
unfolding SameAddresses
nothing v = record {
  users = λ u h k l j. refl;
  objects = λ e h k l j. refl;
  unused_users = λ u h z k l. refl;
  unused_objects = λ e h z k l. refl;
  renamed = renamed-refl v;
  addresses = λ x h m. refl;
  contents = λ a f n ha hf i l k. refl;
}

module _ (P c : ℕ) (mark : 0 < ends c) (v v' : Vol) (S : Sound P v) (pos : 0 < P) (C : Converted P c v v') where
  -- a page of a file is no page of names
  module _ (a f n : ℕ) (ha : a < 256) (hf : f < 256) (i : 0 < used (object v (file_entry a f))) (hn : n < page_count (object v (file_entry a f))) where
    abbrev q : ℕ
    q = page_at v (file_at v (file_entry a f)) n

    isq : 0 < q
    isq = position-page P v S (file_entry a f) n (omega arith) i hn

    apart : (r : Root) (m : ℕ) → weigh_r v r (hit q) ≡ 0 → q ≢ page_at v r m
    apart r m z e = let o : ⊥ = omega (arith, z, page_at-le v (hit q) (hit-zero q) r m, subst (λ (x : ℕ). hit q x ≡ 1) e (hit_same q isq)) in o

    content : (k : ℕ) → (v' q k ≡ v q k) ⊎ NameWords v q k → v' q k ≡ v q k
    unfolding NameWords user_page object_page
    content k (inl e) = e
    content k (inr (inl w)) = absurd (let e = w.0 in let p = isq in let o : ⊥ = omega (arith, p, e) in o)
    content k (inr (inr (inl (u, h, j, w)))) = absurd (apart (user_file v) (u / 32) (no-users P v S pos a f ha hf i n hn) w.0)
    content k (inr (inr (inr (e, h, j, w)))) = absurd (apart (object_file v) (e / 32) (no-objects P v S pos a f ha hf i n hn) w.0)

  beside : BesideNames v v'
  beside = record {
    users = λ u h k l j. C.users u h k l ∙ remade-kept (refilled_user c) (user v u) k (user-keeps c (user v u) k j);
    objects = λ e h k l j. C.objects e h k l ∙ remade-kept (refilled_object c) (object v e) k (object-keeps c (object v e) k j);
    unused_users = λ u h z k l. C.users u h k l ∙ remade-unused (refilled_user c) (user v u) z k;
    unused_objects = λ e h z k l. C.objects e h k l ∙ remade-unused (refilled_object c) (object v e) z k;
    renamed = renamed P c v v' C mark S;
    addresses = C.addresses;
    contents = λ a f n ha hf i hn k. content a f n ha hf i hn k (C.lies _ k);
  }

-- ---- the calls

module _ (from to : ℕ) (mark : 0 < ends to) (img : List ℕ) (r : Numbers ℕ) (img' : List ℕ) (o : Outcome (convert_call from to img) img r img') where
  abbrev v : Vol
  v = vol img

  abbrev asks : Rows
  asks = row 12 (AllFilled from v) end

  all : Whole img → Sound (pages img) v → Converted (pages img) to v (convert to v)
  all W S = converted (pages img) to mark v S (omega (arith, W.least))

  pub kept-convert : Sound (pages img) (vol img) → Sound (pages img') (vol img')
  unfolding convert_call call
  kept-convert = kept-call img (Unit {0}) asks 0 _ (convert to v) r img' o (λ W a S c. (all W S).sound)

  pub frame-convert : OnlyAt (NameWords (vol img)) (vol img) (vol img')
  unfolding convert_call call
  frame-convert p k h = frame-call img (Unit {0}) asks 0 _ (convert to v) r img' o p k (λ W a S c. go ((all W S).lies p k))
    where
      go : (convert to v p k ≡ v p k) ⊎ NameWords v p k → convert to v p k ≡ v p k
      go (inl e) = e
      go (inr w) = absurd (h w)

  pub beside-convert : BesideNames (vol img) (vol img')
  unfolding convert_call call
  beside-convert = after_call img (Unit {0}) asks 0 _ (convert to v) r img' o (BesideNames v) (nothing v)
      (λ W a S c. beside (pages img) to mark v (convert to v) S (omega (arith, W.least)) (all W S))

  pub addresses-convert : (x : ℕ) → x < 65536 → (m : ℕ) → page_at (vol img') (file_at (vol img') x) m ≡ page_at (vol img) (file_at (vol img) x) m
  unfolding SameAddresses
  addresses-convert = beside-convert.addresses

  -- done: every word, and every name and type has the new fill
  module _ (z : r.number ≡ 0) where
    done : (Q : Vol → Type 0) → (Whole img → Sound (pages img) v → Q (convert to v)) → Q (vol img')
    unfolding convert_call call Counted
    done Q h = after-done img (Unit {0}) asks 0 _ (convert to v) r img' o Q (omega arith, tt) z (λ W a S c. h W S)

    pub words-convert : Converted (pages img) to (vol img) (vol img')
    words-convert = done (Converted (pages img) to v) all

    pub filled-convert : AllFilled to (vol img')
    filled-convert = done (AllFilled to) (λ W S. all-filled (pages img) to v (convert to v) (all W S) mark S)
