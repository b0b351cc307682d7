-- A page with two first holders is held twice; the order of holders is total. Assumes nothing.
use Rattle.std.specs.Prelude.{◌≡◌, refl, ◌⊎◌, ℕ, zero, suc, ◌≤◌, ◌<◌}
use Rattle.std.proofs.Common.{sym, ap, ◌∙◌, subst, inl, inr, arith}
use Rattle.std.proofs.Math.Decide.{dec_lt}
use Rattle.book.specs.Words.{Vol}
use Rattle.book.specs.Holders.{holders}
use Rattle.book.specs.Answers.{HolderNumbers, holder_numbers}
use Rattle.book.specs.declared.Role.{Role}
use Rattle.book.specs.declared.Role.TheVariants.{Subindex, Index, Data}
use Rattle.book.specs.declared.Holder.{Holder}
use Rattle.book.specs.declared.Holder.TheVariants.{Free, Master, BitFile, UserIndex, UserPage, ObjectSubindex, ObjectIndex, ObjectPage, File}
use Rattle.laws.specs.Count.Holder.{holder-one, file_holder}
use Rattle.book.specs.Pair.{Lower, Ahead, Before, FirstTwo, ahead-not}

pub two-held : (P : ℕ) (v : Vol) (p : ℕ) (g h : Holder) → FirstTwo P v p g h → 2 ≤ holders P v p
two-held P v p g h x = elim (dec_lt 1 (holders P v p)) [
  | yes l ↦ l
  | no n ↦
      let e : g ≡ h = holder-one P v p (omega arith) g h x.first x.second in
      absurd (ahead-not (holder_numbers g) (subst (λ (k : Holder). Before g k) (sym e) x.order))
]

-- ---- no two holders have the same numbers

abbrev role_back : ℕ → ℕ → ℕ → ℕ → Holder
role_back u f zero n = file_holder u f Subindex
role_back u f (suc zero) n = file_holder u f (Index n)
role_back u f (suc (suc k)) n = file_holder u f (Data n)

abbrev back : ℕ → ℕ → ℕ → ℕ → Holder
back zero u f n = Free
back (suc zero) u f n = Master
back (suc (suc zero)) u f n = BitFile n
back (suc (suc (suc zero))) u f n = UserIndex
back (suc (suc (suc (suc zero)))) u f n = UserPage n
back (suc (suc (suc (suc (suc zero))))) u f n = ObjectSubindex
back (suc (suc (suc (suc (suc (suc zero)))))) u f n = ObjectIndex n
back (suc (suc (suc (suc (suc (suc (suc zero))))))) u f n = ObjectPage n
back (suc (suc (suc (suc (suc (suc (suc (suc k)))))))) u f n = role_back u f k n

abbrev again : HolderNumbers → Holder
again x = back x.kind x.user x.file x.position

role-again : (u f : ℕ) (x : Role) → again (holder_numbers (file_holder u f x)) ≡ file_holder u f x
role-again u f Subindex = refl
role-again u f (Index n) = refl
role-again u f (Data n) = refl

holder-again : (h : Holder) → again (holder_numbers h) ≡ h
holder-again Free = refl
holder-again Master = refl
holder-again (BitFile n) = refl
holder-again UserIndex = refl
holder-again (UserPage n) = refl
holder-again ObjectSubindex = refl
holder-again (ObjectIndex n) = refl
holder-again (ObjectPage n) = refl
holder-again (File h) = role-again h.user h.file h.role

-- ---- so one of two comes first

lower-total : (x y : ℕ) (A B C : Type 0) → (x ≡ y → A ⊎ (B ⊎ C)) → Lower x y A ⊎ (((x ≡ y) × B) ⊎ Lower y x C)
lower-total x y A B C f = elim (dec_lt x y) [
  | yes l ↦ inl (inl l)
  | no n ↦ elim (dec_lt y x) [
    | yes l ↦ inr (inr (inl l))
    | no m ↦ let e : x ≡ y = omega arith in go e (f e)
  ]
]
  where
    go : x ≡ y → A ⊎ (B ⊎ C) → Lower x y A ⊎ (((x ≡ y) × B) ⊎ Lower y x C)
    go e (inl a) = inl (inr (e, a))
    go e (inr (inl b)) = inr (inl (e, b))
    go e (inr (inr c)) = inr (inr (inr (sym e, c)))

less-total : (x y : ℕ) → (x < y) ⊎ ((x ≡ y) ⊎ (y < x))
less-total x y = elim (dec_lt x y) [
  | yes l ↦ inl l
  | no n ↦ elim (dec_lt y x) [ yes l ↦ inr (inr l) | no m ↦ inr (inl (omega arith)) ]
]

pub before-total : (g h : Holder) → Before g h ⊎ ((g ≡ h) ⊎ Before h g)
unfolding Ahead
before-total g h = close (lower-total a.kind b.kind _ _ _ (λ i. lower-total a.user b.user _ _ _ (λ j. lower-total a.file b.file _ _ _ (λ k. less-total a.position b.position))))
  where
    a : HolderNumbers
    a = holder_numbers g

    b : HolderNumbers
    b = holder_numbers h

    Same : Type 0
    Same = (a.kind ≡ b.kind) × ((a.user ≡ b.user) × ((a.file ≡ b.file) × (a.position ≡ b.position)))

    equal : Same → g ≡ h
    equal e =
        sym (holder-again g) ∙ ap (λ (k : ℕ). back k a.user a.file a.position) e.0 ∙ ap (λ (k : ℕ). back b.kind k a.file a.position) e.1.0
        ∙ ap (λ (k : ℕ). back b.kind b.user k a.position) e.1.1.0 ∙ ap (back b.kind b.user b.file) e.1.1.1 ∙ holder-again h

    close : Ahead a b ⊎ (Same ⊎ Ahead b a) → Before g h ⊎ ((g ≡ h) ⊎ Before h g)
    close (inl x) = inl x
    close (inr (inl e)) = inr (inl (equal e))
    close (inr (inr x)) = inr (inr x)
