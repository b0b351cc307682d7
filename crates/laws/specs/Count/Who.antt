-- What is told of a page's holder: one thing, and how a search gets it. Assumes nothing.
use Rattle.std.specs.Prelude.{◌≡◌, refl, List}
use Rattle.std.proofs.Common.{sym, ◌∙◌, inr, not-suc-le-zero}
use Rattle.std.proofs.Math.Logic.{inl}
use Prim.Native.Nat.{ℕ, zero, suc, ◌≤◌, ◌<◌}
use native.Mathlib.Omega.{arith}
use Rattle.sums.specs.Sum.{sum, is-other, sum-none}
use Rattle.book.specs.Bits.{bit_file, bit}
use Rattle.book.specs.Calls.{who_call}
use Rattle.book.specs.Entries.{user_file, object_file, file_entry}
use Rattle.book.specs.Files.{file_at}
use Rattle.book.specs.Holders.{hit, mine, system, all, holders, held_page, Exists, Holds, Told}
use Rattle.book.specs.Image.{pages}
use Rattle.book.specs.Outcome.{Single, asking, judged}
use Rattle.book.specs.Rows.{Clear}
use Rattle.book.specs.Rules.{Rule8, Sound}
use Rattle.book.specs.Trees.{weigh_r}
use Rattle.book.specs.Words.{Vol, vol}
use Rattle.book.specs.declared.Holder.{Holder}
use Rattle.book.specs.declared.Holder.TheVariants.{Free}
use Rattle.book.specs.declared.Role.{Role}
use Rattle.laws.specs.Count.Good.{bit-holders}
use Rattle.laws.specs.Count.Holder.{file_holder, holder-some, holder-one, holder-find}
use Rattle.laws.specs.Count.Owners.{file-shallow}
use Rattle.laws.specs.Tree.Roles.{role-find}

-- ---- one thing is told

pub told-one : (P : ℕ) (v : Vol) (p : ℕ) → holders P v p ≤ 1 → (h k : Holder) → Told P v p h → Told P v p k → h ≡ k
unfolding Told
told-one P v p le h k (inl a) (inl b) = a.1 ∙ sym b.1
told-one P v p le h k (inl a) (inr b) = absurd (omega (arith, a.0, holder-some P v p k b))
told-one P v p le h k (inr a) (inl b) = absurd (omega (arith, b.0, holder-some P v p h a))
told-one P v p le h k (inr a) (inr b) = holder-one P v p le h k a b

pub single-who : (img : List ℕ) (p : ℕ) → Single (who_call img p)
unfolding Single who_call asking judged Clear Rule8
single-who img p c = told-one (pages img) (vol img) p (c.1.1.0.r8 p c.1.0)

-- ---- what a search tells

module _ (P : ℕ) (v : Vol) where
  -- a page past 0 that a holder has, of any kind and in any role: the book computes it
  pub holds-held : (p : ℕ) (h : Holder) → 0 < p → Exists h → held_page P v h ≡ p → Holds P v p h
  unfolding Holds
  holds-held zero h pos x e = absurd (not-suc-le-zero pos)
  holds-held (suc p) h pos x e = (x, e)

  -- so is one that no owner has
  pub holders-none : (p : ℕ) → 0 < p → weigh_r v (bit_file P v) (hit p) ≡ 0 → weigh_r v (user_file v) (hit p) ≡ 0 → weigh_r v (object_file v) (hit p) ≡ 0
      → ((u f : ℕ) → u < 256 → f < 256 → weigh_r v (file_at v (file_entry u f)) (hit p) ≡ 0) → holders P v p ≡ 0
  unfolding holders all system mine
  holders-none p pos b u o none = omega (
    arith,
    is-other p 0 (omega arith),
    sum-none 256 (λ u. sum 256 (λ f. weigh_r v (file_at v (file_entry u f)) (hit p)))
        (λ u h. sum-none 256 (λ f. weigh_r v (file_at v (file_entry u f)) (hit p)) (λ f i. none u f h i)),
  )

  -- a page whose bit is 0 is free, and one whose bit is 1 has a holder
  pub told_free : Sound P v → (p : ℕ) → p < P → bit P v p ≡ 0 → Told P v p Free
  unfolding Told
  told_free s p h e = inl (sym (bit-holders P v s p h) ∙ e, refl)

  pub told-some : Sound P v → (p : ℕ) → p < P → 0 < bit P v p → (h : Holder) × Holds P v p h
  told-some s p h q = holder-find P v s.r2 p (omega (arith, bit-holders P v s p h))

  -- a file that has the page is its holder, in some role
  pub file-holds : (p u f : ℕ) → 0 < p → u < 256 → f < 256 → 0 < weigh_r v (file_at v (file_entry u f)) (hit p) → (x : Role) × Holds P v p (file_holder u f x)
  file-holds p u f pos hu hf q =
      let x = role-find v p (file_at v (file_entry u f)) (file-shallow v (file_entry u f)) q in
      (x.0, holds-held p (file_holder u f x.0) pos (hu, hf) x.1)
