-- A reply spells its answer. Assumes nothing.
use native.Mathlib.Omega.{arith}
use mathlib.Core.Path.{◌≡◌, refl, sym, ap, ap₂, subst, ◌∙◌}
use mathlib.Core.List.{List}
use Rattle.std.proofs.Common.{Result, Ok, Err}
use Prim.Native.Nat.{ℕ, ◌+◌, ◌*◌}
use Rattle.book.specs.Answers.{HolderNumbers, holder_numbers, number_of, unbroken, broken_of, done_with, refused_with, numbers, holding}
use Rattle.book.specs.Return.{number-pos}
use Rattle.book.specs.declared.Break.{Break}
use Rattle.book.specs.declared.Holder.{Holder}
use Rattle.book.specs.declared.Holder.TheVariants.{Free}
use Rattle.book.specs.declared.Refusal.{Refusal}
use Rattle.book.specs.Run.{held_by, held_reply, put_three, put_four, put_place, put_holder, put_break, put_reply}
use Rattle.sums.specs.Search.{pick, pick_yes}
use Rattle.sound.specs.Told.{Tells}
use Rattle.sound.specs.declared.numbers.HolderNumbers.{HolderNumbers as Struct}

-- a holder by the struct that tells it
pub put-told : (o p : List ℕ) (at : ℕ) (t : Struct) (h : HolderNumbers) → Tells t h → p ≡ put_four o at t.kind t.user t.file t.position → p ≡ put_holder o at h
put-told o p at t h e w =
    w ∙ ap (λ (x : ℕ). put_four o at x t.user t.file t.position) e.0 ∙ ap (λ (x : ℕ). put_four o at h.kind x t.file t.position) e.1
    ∙ ap (λ (x : ℕ). put_four o at h.kind h.user x t.position) e.2 ∙ ap (λ (x : ℕ). put_four o at h.kind h.user h.file x) e.3

-- the place, then the two holders
pub put-broken : (o p q r : List ℕ) (at : ℕ) (b : Break) → p ≡ put_place o at b.place → q ≡ put_holder p (at + 2) (holder_numbers b.first)
    → r ≡ put_holder q (at + 6) (holder_numbers b.second) → r ≡ put_break o at b
put-broken o p q r at b x y z =
    z ∙ ap (λ (l : List ℕ). put_holder l (at + 6) (holder_numbers b.second)) (y ∙ ap (λ (l : List ℕ). put_holder l (at + 2) (holder_numbers b.first)) x)

-- a reply of step i
module _ (o p q : List ℕ) (i : ℕ) where
  pub reply-done : (v : ℕ) → p ≡ put_three o (i * 13) 0 0 v → q ≡ put_break p (i * 13 + 3) unbroken → q ≡ put_reply o i (done_with v)
  reply-done v x y = y ∙ ap (λ (l : List ℕ). put_break l (i * 13 + 3) unbroken) x

  pub reply-refused : (w : Refusal) (b : Break) (n : ℕ) → b ≡ broken_of w → n ≡ number_of w → p ≡ put_three o (i * 13) n b.rule 0 → q ≡ put_break p (i * 13 + 3) b → q ≡ put_reply o i (refused_with 0 w)
  reply-refused w b n e f x y =
      y ∙ ap (λ (l : List ℕ). put_break l (i * 13 + 3) b) (x ∙ ap (λ (k : ℕ). put_three o (i * 13) k b.rule 0) f)
      ∙ ap (λ (c : Break). put_break (put_three o (i * 13) (number_of w) c.rule 0) (i * 13 + 3) c) e

module _ (o p : List ℕ) (i : ℕ) (a : Result ℕ Refusal) where
  pub answer-done : (v : ℕ) → a ≡ Ok v → p ≡ put_reply o i (done_with v) → (p ≡ put_reply o i (numbers a)) × ((numbers a).number ≡ 0)
  answer-done v e w = subst (λ (b : Result ℕ Refusal). (p ≡ put_reply o i (numbers b)) × ((numbers b).number ≡ 0)) (sym e) (w, refl)

  pub answer-refused : (y : Refusal) → a ≡ Err y → p ≡ put_reply o i (refused_with 0 y) → (p ≡ put_reply o i (numbers a)) × ((numbers a).number ≡ 0 → ⊥)
  answer-refused y e w = subst (λ (b : Result ℕ Refusal). (p ≡ put_reply o i (numbers b)) × ((numbers b).number ≡ 0 → ⊥)) (sym e) (w, λ z. omega (arith, z, number-pos y))

-- a reply that tells a holder
pub reply-held : (o p q : List ℕ) (i : ℕ) (h : Holder) (b : Break) → b ≡ held_by h → p ≡ put_three o (i * 13) 0 0 0 → q ≡ put_break p (i * 13 + 3) b → q ≡ put_reply o i (held_reply (done_with h))
unfolding pick
reply-held o p q i h b e x y = y ∙ ap₂ (λ (l : List ℕ) (c : Break). put_break l (i * 13 + 3) c) x e

module _ (o p : List ℕ) (i : ℕ) (a : Result Holder Refusal) where
  pub holding-done : (h : Holder) → a ≡ Ok h → p ≡ put_reply o i (held_reply (done_with h)) → (p ≡ put_reply o i (held_reply (holding a))) × ((holding a).number ≡ 0)
  holding-done h e w = subst (λ (b : Result Holder Refusal). (p ≡ put_reply o i (held_reply (holding b))) × ((holding b).number ≡ 0)) (sym e) (w, refl)

  pub holding-refused : (y : Refusal) → a ≡ Err y → p ≡ put_reply o i (refused_with 0 y) → (p ≡ put_reply o i (held_reply (holding a))) × ((holding a).number ≡ 0 → ⊥)
  holding-refused y e w =
      subst (λ (b : Result Holder Refusal). (p ≡ put_reply o i (held_reply (holding b))) × ((holding b).number ≡ 0 → ⊥)) (sym e) (
        w ∙ ap (λ (b : Break). put_reply o i (record { number = number_of y; value = 0; broken = b })) (sym (pick_yes (number_of y) (broken_of y) (held_by Free) (number-pos y))),
        λ z. omega (arith, z, number-pos y),
      )
