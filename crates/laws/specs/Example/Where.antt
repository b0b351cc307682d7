-- Where the ten broken volumes are broken, and three more of the yard's: what refusal 3 tells of each, as rows of one table. Assumes nothing.
use Rattle.std.specs.Prelude.{◌≡◌, refl, ◌⊎◌, List, [], ◌∷◌, true, ℕ, ◌+◌, ◌*◌, ◌≤◌, ◌<◌}
use Rattle.std.proofs.Common.{sym, ap, ◌∙◌, subst, inl, inr, not-suc-le-zero, arith}
use Rattle.std.proofs.Math.Decide.{dec_lt}
use Rattle.sums.specs.Sum.{sum, is}
use Rattle.sums.specs.Search.{pick}
use Rattle.book.specs.Words.{Vol, two, word, put}
use Rattle.book.specs.Pointers.{flags, page, slot, Zero, Inside, object_pointer, user_pointer, volume_name}
use Rattle.book.specs.Trees.{Root, tree, page_at, index_at, subindex_of, upto, leaf}
use Rattle.book.specs.Bits.{digit, bit_file, bit_page, bit}
use Rattle.book.specs.Entries.{user, object, user_file, object_file, user_page, object_page, file_entry, used, given, used_pages, grant, unreserved}
use Rattle.book.specs.Files.{page_bytes, file_at}
use Rattle.book.specs.Holders.{hit, mine, some, holders, Holds, Exists, held_page, role_page, system_pages}
use Rattle.book.specs.Rows.{end, row, Lowest}
use Rattle.book.specs.Names.{LegalName}
use Rattle.book.specs.Rules.{rules, Rule4Over, Rule9, Rule10, rules_of}
use Rattle.book.specs.Spots.{at, spot, when, AllHold, First, nth, when-all, when-first}
use Rattle.book.specs.Places.{in_user, pointers, spots1, spots2, spots3, spots4, user_spots, spots5, spots5_by, spots6, object_spots, spots7, file_spots, spots8, spots9, spots10, spots, spots_of}
use Rattle.book.specs.Pair.{Ahead, Before}
use Rattle.book.specs.Broken.{BrokenAt, PairFor}
use Rattle.book.specs.declared.Place.{Place}
use Rattle.book.specs.declared.Break.{Break}
use Rattle.book.specs.declared.Role.{Role}
use Rattle.book.specs.declared.Role.TheVariants.{Subindex, Index, Data}
use Rattle.book.specs.declared.Holder.{Holder}
use Rattle.book.specs.declared.Holder.TheVariants.{Free, Master as MasterPage, BitFile, UserIndex, UserPage, ObjectSubindex, ObjectIndex, ObjectPage, File}
use Rattle.laws.specs.Example.Sparse.{Cell, volume, volume-off, Off, page-one, page-past}
use Rattle.laws.specs.Count.Holder.{holders-zero}
use Rattle.laws.specs.Count.Good.{bit_le}
use Rattle.laws.specs.Format.Formatted.{user-none, object-none, mine-none, all-system}
use Rattle.laws.specs.Frame.Roots.{upto-in, upto-out}
use Rattle.laws.specs.Tree.Pointer.{file-unused}
use Rattle.laws.specs.Tree.Roles.{upto-pos}
use Rattle.laws.specs.Tree.Slot.{some-pos}
use Rattle.laws.specs.Example.Broken.{Master, broken1, broken2, broken3, broken4, broken5, broken6, broken7, broken8, broken9, broken10, breaks1, breaks2, breaks3, breaks4, breaks5, breaks6}
use Rattle.laws.specs.Example.FirstUser.{first_user, master, first_slot, words, only, nothing, keeps1, keeps2, keeps3, keeps-eight, held, held_by_lem}
use Rattle.laws.specs.Example.BrokenLate.{a-legal, breaks7, breaks8, breaks9, breaks10, master7, master8, fresh9, fresh10, fresh-all, fresh-holders, agree, held-twice}
use Rattle.laws.specs.Example.Broken.{master3, master4, master5, master6, zero-first, user-page, object-page, object-flags, user-root, object-root, user-first, object-first, no-users, no-objects, bare}

-- a rule other than 8 has no holders to tell
pub plain : {P : ℕ} {v : Vol} {r : ℕ} {q : Place} → (r ≡ 8 → ⊥) → Lowest (rules P v) r → First (spots P v r) q
    → BrokenAt P v (record { rule = r; place = q; first = Free; second = Free })
unfolding PairFor
plain n l f = record { rule = l; place = f; pair = (λ e. absurd (n e), λ e. (refl, refl)) }

-- ---- 1: the volume name

told1 : BrokenAt 16 (volume broken1) (record { rule = 1; place = at 0 1008; first = Free; second = Free })
unfolding spots_of nth spots1 First volume
told1 = plain (λ e. omega (arith, e)) breaks1 (inl (refl, zero-first (volume [] 0) volume_name refl))

-- ---- 2: one pointer of the two is zero

told2 : BrokenAt 16 (volume broken2) (record { rule = 2; place = at 0 1016; first = Free; second = Free })
unfolding spots_of nth spots2 First Zero Inside flags volume put pick is
told2 = plain (λ e. omega (arith, e)) breaks2 (inl (refl, no))
  where
    no : (Zero (volume broken2 0) user_pointer × Zero (volume broken2 0) object_pointer)
        ⊎ ((Zero (volume broken2 0) user_pointer → ⊥) × (Inside 16 (volume broken2 0) object_pointer 1 ⊎ Inside 16 (volume broken2 0) object_pointer 2)) → ⊥
    no (inl z) = let r : ⊥ = omega (arith, z.0.0) in r
    no (inr (n, inl i)) = let r : ⊥ = omega (arith, i.0) in r
    no (inr (n, inr i)) = let r : ⊥ = omega (arith, i.0) in r

-- ---- 3: slot 8 of the user index

told3 : BrokenAt 16 (volume broken3) (record { rule = 3; place = at 1 16; first = Free; second = Free })
unfolding spots_of nth spots3 pointers AllHold First slot two word volume put pick is Off
told3 = plain (λ e. omega (arith, e)) breaks3 (subst (λ (t : ℕ). First (pointers (volume broken3) t (λ s x. (x < 16) × (8 ≤ s → x ≡ 0) × (s < 8 → 0 ≤ x))) (at 1 16)) (sym (user-page (volume broken3) master3))
    (8, omega arith, (λ j h. let z : slot (volume broken3) 1 j ≡ 0 = bare broken3 1 j (omega arith) (omega arith) (omega arith) in (omega (arith, z), (λ l. z), λ l. omega arith)), (refl, λ a. let r : ⊥ = omega (arith, a.1 (omega arith)) in r)))

-- ---- 4: user 0's name

first-page : (l : List Cell) {b o q : ℕ} → Master (volume l) b o → slot (volume l) 1 0 ≡ q → user_page (volume l) 0 ≡ q
unfolding user_page
first-page l M e = ap (λ (r : Root). page_at (volume l) r 0) (user-root (volume l) M) ∙ page-one (volume l) 1 0 (omega arith) ∙ e

told4 : BrokenAt 16 (volume broken4) (record { rule = 4; place = at 3 1; first = Free; second = Free })
unfolding spots_of nth spots4 user_spots First slot two word volume put pick is Off used
told4 = plain (λ e. omega (arith, e)) breaks4 (
  0,
  omega arith,
  (λ j h. absurd (not-suc-le-zero h)),
  when-first _ (user_spots true (volume broken4) 0) (at 3 1) (omega (arith, U 0))
      (inl (ap (λ (q : ℕ). at q 1) (sym (first-page broken4 master4 refl)), λ a. zero-first (user (volume broken4) 0) 1 (U 1) a.0)),
)
  where
    U : (k : ℕ) → user (volume broken4) 0 k ≡ volume broken4 3 (32 * 0 + k)
    U k = user-first broken4 master4 refl 0 k (omega arith)

-- ---- 5: slot 0 of the object index

told5 : BrokenAt 16 (volume broken5) (record { rule = 5; place = at 2 0; first = Free; second = Free })
unfolding spots_of nth spots5 spots5_by pointers AllHold First slot two word volume put pick is Off
told5 = plain (λ e. omega (arith, e)) breaks5 (subst (λ (x : ℕ). First (spots5_by 16 (volume broken5) x (page (volume broken5 0) object_pointer)) (at 2 0)) (sym (object-flags (volume broken5) master5))
    (subst (λ (t : ℕ). First (spots5_by 16 (volume broken5) 1 t) (at 2 0)) (sym (object-page (volume broken5) master5))
    (inr ((λ u h l. no-users (volume broken5) master5 empty u), (0, omega arith, (λ j h. absurd (not-suc-le-zero h)), (refl, λ a. let r : ⊥ = omega (arith, a.0) in r))))))
  where
    empty : (n : ℕ) → slot (volume broken5) 1 n ≡ 0
    empty n = bare broken5 1 n (omega arith) (omega arith) (omega arith)

-- ---- 6: object 0 and its owner

first-object : (l : List Cell) {b o q : ℕ} → Master (volume l) b o → slot (volume l) o 0 ≡ q → object_page (volume l) 0 ≡ q
unfolding object_page
first-object l {b} {o} M e = ap (λ (r : Root). page_at (volume l) r 0) (object-root (volume l) M) ∙ page-one (volume l) o 0 (omega arith) ∙ e

told6 : BrokenAt 16 (volume broken6) (record { rule = 6; place = at 4 0; first = Free; second = Free })
unfolding spots_of nth spots6 object_spots First slot two word volume put pick is Off used
told6 = plain (λ e. omega (arith, e)) breaks6 (
  0,
  omega arith,
  (λ j h. absurd (not-suc-le-zero h)),
  (
    0,
    omega arith,
    (λ j h. absurd (not-suc-le-zero h)),
    when-first _ (object_spots (volume broken6) 0 0 0) (at 4 0) (omega (arith, object-first broken6 master6 refl 0 0 (omega arith)))
        (inl (ap (λ (q : ℕ). at q 0) (sym (first-object broken6 master6 refl)), λ a. let r : ⊥ = omega (arith, a, no-users (volume broken6) master6 empty 0) in r)),
  ),
)
  where
    empty : (n : ℕ) → slot (volume broken6) 1 n ≡ 0
    empty n = bare broken6 1 n (omega arith) (omega arith) (omega arith)

-- ---- 7: object 0's bytes

told7 : BrokenAt 16 (volume broken7) (record { rule = 7; place = at 4 28; first = Free; second = Free })
unfolding spots_of nth spots7 file_spots First slot two word volume put pick is Off used
told7 = plain (λ e. omega (arith, e)) breaks7 (
  0,
  omega arith,
  (λ j h. absurd (not-suc-le-zero h)),
  when-first _ _ (at 4 28) (omega (arith, O 0))
      (inl (ap (λ (q : ℕ). at q 28) (sym (first-object broken7 master7 refl)), no)),
)
  where
    O : (k : ℕ) → object (volume broken7) 0 k ≡ volume broken7 4 (32 * 0 + k)
    O k = object-first broken7 master7 refl 0 k (omega arith)

    no : two (object (volume broken7) 0) 28 ≡ page_bytes * two (object (volume broken7) 0) 26 → ⊥
    no s = let r : ⊥ = omega (arith, s, O 26, O 27, O 28, O 29) in r

-- ---- 8: page 1 is user index and object index

empty8 : (n : ℕ) → slot (volume broken8) 1 n ≡ 0
unfolding Off
empty8 n = bare broken8 1 n (omega arith) (omega arith) (omega arith)

bare8 : (r : Root) → r ≡ tree 1 1 → (n : ℕ) → page_at (volume broken8) r n ≡ 0
bare8 r q n = ap (λ (x : Root). page_at (volume broken8) x n) q ∙ elim (dec_lt n 512) [
  | yes h ↦ page-one (volume broken8) 1 n h ∙ empty8 n
  | no h ↦ page-past (volume broken8) 1 n (omega arith)
]

-- an unused object has no page in any role
no-role : (v : Vol) (e : ℕ) (x : Role) → used (object v e) ≡ 0 → role_page v (file_at v e) x ≡ 0
unfolding subindex_of index_at page_at
no-role v e Subindex u = ap subindex_of (file-unused v e u)
no-role v e (Index n) u = ap (λ (r : Root). index_at v r n) (file-unused v e u)
no-role v e (Data n) u = ap (λ (r : Root). page_at v r n) (file-unused v e u) ∙ upto-out n 0 (0 + n) (omega arith)

-- what has page 1: the top of either tree, since no slot is in use and no object is used
held8 : (k : Holder) → Exists k → held_page 16 (volume broken8) k ≡ 1 → (k ≡ UserIndex) ⊎ (k ≡ ObjectIndex 0)
unfolding bit_file page_at index_at subindex_of leaf page volume put pick is
held8 Free x e = absurd x
held8 MasterPage x e = absurd (let r : ⊥ = omega (arith, e) in r)
held8 (BitFile n) x e = absurd (let r : ⊥ = omega (arith, (upto-pos n 1 (8 + n) 1 (omega arith) e).1) in r)
held8 UserIndex x e = inl refl
held8 (UserPage n) x e = absurd (let r : ⊥ = omega (arith, e, bare8 (user_file (volume broken8)) (user-root (volume broken8) master8) n) in r)
held8 ObjectSubindex x e = absurd (let r : ⊥ = omega (arith, sym (ap subindex_of (object-root (volume broken8) master8)) ∙ e) in r)
held8 (ObjectIndex n) x e = inr (ap ObjectIndex (let u = upto-pos n 1 1 1 (omega arith) (sym (ap (λ (r : Root). index_at (volume broken8) r n) (object-root (volume broken8) master8)) ∙ e) in omega (arith, u.0)))
held8 (ObjectPage n) x e = absurd (let r : ⊥ = omega (arith, e, bare8 (object_file (volume broken8)) (object-root (volume broken8) master8) n) in r)
held8 (File h) x e = absurd (let r : ⊥ = omega (arith, e, no-role (volume broken8) (file_entry h.user h.file) h.role (no-objects (volume broken8) master8 empty8 (file_entry h.user h.file))) in r)

told8 : BrokenAt 16 (volume broken8) (record { rule = 8; place = at 1 0; first = UserIndex; second = ObjectIndex 0 })
unfolding spots_of nth spots8 AllHold First PairFor Ahead Holds index_at leaf
told8 = record {
  rule = breaks8;
  place = (1, omega arith, (λ p h. let e : p ≡ 0 = omega arith in omega (arith, ap (holders 16 (volume broken8)) e, holders-zero 16 (volume broken8))), (refl, twice));
  pair = (
    (λ q. record {
      first = (tt, tops (user_file (volume broken8)) (user-root (volume broken8) master8));
      second = (tt, tops (object_file (volume broken8)) (object-root (volume broken8) master8));
      order = inl (omega arith);
      least = λ k x. least k (held8 k x.0 x.1);
    }),
    λ n. absurd (n refl),
  );
}
  where
    tops : (r : Root) → r ≡ tree 1 1 → index_at (volume broken8) r 0 ≡ 1
    tops r q = ap (λ (x : Root). index_at (volume broken8) x 0) q ∙ upto-in 0 1 1 (omega arith)

    least : (k : Holder) → (k ≡ UserIndex) ⊎ (k ≡ ObjectIndex 0) → (k ≡ UserIndex) ⊎ ((k ≡ ObjectIndex 0) ⊎ Before (ObjectIndex 0) k)
    least k (inl e) = inl e
    least k (inr e) = inr (inl e)

    twice : holders 16 (volume broken8) 1 ≤ 1 → ⊥
    twice = held-twice

-- ---- 9: the word of page 5's bit

-- a bit that is the number of its page's holders is right
nine-by : (P : ℕ) (v : Vol) (p : ℕ) → bit P v p ≡ holders P v p → (bit P v p ≡ 1 → 0 < holders P v p) × (0 < holders P v p → bit P v p ≡ 1)
nine-by P v p e = ((λ b. omega (arith, b, e)), λ b. omega (arith, b, e, bit_le P v p))

told9 : BrokenAt 16 (volume broken9) (record { rule = 9; place = at 8 0; first = Free; second = Free })
unfolding sum spots_of nth spots9 AllHold First bit bit_page bit_file page_at upto page digit word volume put pick is hit
told9 = plain (λ e. omega (arith, e)) breaks9 (5, omega arith, before, (refl, λ a. let r : ⊥ = omega (arith, a.0 refl, fresh-holders (volume broken9) fresh9 5) in r))
  where
    same : (p : ℕ) → p < 5 → bit 16 (volume broken9) p ≡ is p 0 + hit p 8
    same = agree 5 (bit 16 (volume broken9)) (λ p. is p 0 + hit p 8) refl

    before : (p : ℕ) → p < 5 → (bit 16 (volume broken9) p ≡ 1 → 0 < holders 16 (volume broken9) p) × (0 < holders 16 (volume broken9) p → bit 16 (volume broken9) p ≡ 1)
    before p h = nine-by 16 (volume broken9) p (same p h ∙ sym (fresh-holders (volume broken9) fresh9 p))

-- ---- 10: the sum

told10 : BrokenAt 16 (volume broken10) (record { rule = 10; place = at 0 1022; first = Free; second = Free })
unfolding spots_of nth spots10 AllHold First unreserved system_pages two volume put pick is
told10 = plain (λ e. omega (arith, e)) breaks10 (inr ((λ u h. when-all _ _ (λ l. absurd (nobody u l))), (refl, no)))
  where
    nobody : (u : ℕ) → 0 < used (user (volume broken10) u) → ⊥
    nobody u l = omega (arith, l, user-none (volume broken10) fresh10.users fresh10.objects u)

    no : unreserved (volume broken10) + sum 256 (grant (user (volume broken10))) + system_pages 16 (volume broken10) ≡ 16 → ⊥
    no r = let q : ⊥ = omega (arith, r, all-system (volume broken10) (object-none (volume broken10) fresh10.users fresh10.objects) 16 some, fresh-all (volume broken10) fresh10 some, some-pos 8 (omega arith)) in q

-- ---- the yard's volume of 154 pages with its first user: three more

-- his used count is 1
told-used : BrokenAt 154 (volume (first_user 1 149 0)) (record { rule = 4; place = at 2 16; first = Free; second = Free })
unfolding rules_of Lowest spots_of nth spots4 user_spots AllHold First Rule4Over volume put pick is Off used given used_pages two user_page
told-used = plain (λ e. omega (arith, e)) (inr (keeps1 1 149 0, inr (keeps2 1 149 0, inr (keeps3 1 149 0, inl (refl, λ r. over (r.0 0 (omega arith) (omega (arith, U 0))).within))))) (
  0,
  omega arith,
  (λ j h. absurd (not-suc-le-zero h)),
  when-first _ (user_spots true (volume (first_user 1 149 0)) 0) (at 2 16) (omega (arith, U 0))
      (inr ((name, λ a h l e. absurd (not-suc-le-zero h)), inl (ap (λ (q : ℕ). at q 16) (sym (first-page (first_user 1 149 0) (master 1 149 0) (first_slot 1 149 0))), over))),
)
  where
    U : (k : ℕ) → user (volume (first_user 1 149 0)) 0 k ≡ volume (first_user 1 149 0) 2 (32 * 0 + k)
    U = words 1 149 0

    name : LegalName (user (volume (first_user 1 149 0)) 0) 1
    name = (a-legal (user (volume (first_user 1 149 0)) 0) (U 1) (λ k a b. U k ∙ volume-off (first_user 1 149 0) 2 (32 * 0 + k) (omega arith))).0

    over : used_pages (user (volume (first_user 1 149 0))) 0 ≤ given (user (volume (first_user 1 149 0))) 0 → ⊥
    over h = omega (arith, h, U 14, U 15, U 16, U 17)

-- the bit of page 100 is set
told-bit : BrokenAt 154 (volume (first_user 0 149 16)) (record { rule = 9; place = at 77 6; first = Free; second = Free })
unfolding sum rules_of Lowest spots_of nth spots9 AllHold First Rule9 bit bit_page bit_file page_at upto page digit word volume put pick is hit
told-bit = plain (λ e. omega (arith, e)) (keeps-eight 149 16 9 (row 9 (Rule9 154 (volume (first_user 0 149 16))) (row 10 (Rule10 154 (volume (first_user 0 149 16))) end)) (inl (refl, λ r. over ((r 100 (omega arith)).0 refl)))) (100, omega arith, before, (refl, λ a. over (a.0 refl)))
  where
    over : 0 < holders 154 (volume (first_user 0 149 16)) 100 → ⊥
    over h = omega (arith, h, held_by_lem 0 149 16 100)

    same : (p : ℕ) → p < 100 → bit 154 (volume (first_user 0 149 16)) p ≡ is p 0 + (hit p 77 + (hit p 1 + hit p 2) + hit p 3)
    same = agree 100 (bit 154 (volume (first_user 0 149 16))) (λ p. is p 0 + (hit p 77 + (hit p 1 + hit p 2) + hit p 3)) refl

    before : (p : ℕ) → p < 100 → (bit 154 (volume (first_user 0 149 16)) p ≡ 1 → 0 < holders 154 (volume (first_user 0 149 16)) p) × (0 < holders 154 (volume (first_user 0 149 16)) p → bit 154 (volume (first_user 0 149 16)) p ≡ 1)
    before p h = let e : bit 154 (volume (first_user 0 149 16)) p ≡ holders 154 (volume (first_user 0 149 16)) p = same p h ∙ sym (held_by_lem 0 149 16 p) in nine-by 154 (volume (first_user 0 149 16)) p e

-- one page too many unreserved
sum-off : unreserved (volume (first_user 0 150 0)) + sum 256 (grant (user (volume (first_user 0 150 0)))) + system_pages 154 (volume (first_user 0 150 0)) ≡ 154 → ⊥
unfolding unreserved system_pages two volume put pick is some
sum-off r = omega (arith, r, sym (all-system (volume (first_user 0 150 0)) (nothing 0 150 0) 154 some) ∙ held 0 150 0 some refl)

counted : (u : ℕ) → u ≡ 0 → used_pages (user (volume (first_user 0 150 0))) u ≡ mine (volume (first_user 0 150 0)) u some
unfolding used_pages two volume put pick is
counted u e = subst (λ (a : ℕ). used_pages (user (volume (first_user 0 150 0))) a ≡ mine (volume (first_user 0 150 0)) a some) (sym e)
    (omega (arith, words 0 150 0 16, words 0 150 0 17, mine-none (volume (first_user 0 150 0)) (nothing 0 150 0) 0 some))

told-sum : BrokenAt 154 (volume (first_user 0 150 0)) (record { rule = 10; place = at 0 1022; first = Free; second = Free })
unfolding sum rules_of Lowest spots_of nth spots10 AllHold First Rule9 Rule10 bit bit_page bit_file page_at upto page digit word volume put pick is hit
told-sum = plain (λ e. omega (arith, e)) (keeps-eight 150 0 10 (row 9 (Rule9 154 (volume (first_user 0 150 0))) (row 10 (Rule10 154 (volume (first_user 0 150 0))) end)) (inr ((λ p h. nine-by 154 (volume (first_user 0 150 0)) p (same p h ∙ sym (held_by_lem 0 150 0 p))), inl (refl, λ r. over r.1)))) (inr (counts, (refl, over)))
  where
    same : (p : ℕ) → p < 154 → bit 154 (volume (first_user 0 150 0)) p ≡ is p 0 + (hit p 77 + (hit p 1 + hit p 2) + hit p 3)
    same = agree 154 (bit 154 (volume (first_user 0 150 0))) (λ p. is p 0 + (hit p 77 + (hit p 1 + hit p 2) + hit p 3)) refl

    over : unreserved (volume (first_user 0 150 0)) + sum 256 (grant (user (volume (first_user 0 150 0)))) + system_pages 154 (volume (first_user 0 150 0)) ≡ 154 → ⊥
    over = sum-off

    counts : (u : ℕ) → u < 256 → AllHold (when (used (user (volume (first_user 0 150 0)) u)) (spot (in_user (volume (first_user 0 150 0)) u 16) (used_pages (user (volume (first_user 0 150 0))) u ≡ mine (volume (first_user 0 150 0)) u some)))
    counts u h = when-all _ _ (λ l. counted u (only 0 150 0 u l))

-- ---- the table

-- a volume of so many pages, and what refusal 3 tells of it
pub record Case : Type 0 where
  pub pages : ℕ
  pub cells : List Cell
  pub told : Break

abbrev pub case : ℕ → List Cell → ℕ → Place → Case
case P l r q = record { pages = P; cells = l; told = record { rule = r; place = q; first = Free; second = Free } }

abbrev pub AllTold : List Case → Type 0
AllTold [] = Unit {0}
AllTold (c ∷ t) = BrokenAt c.pages (volume c.cells) c.told × AllTold t

abbrev pub table : List Case
table =
    case 16 broken1 1 (at 0 1008)
    ∷ case 16 broken2 2 (at 0 1016)
    ∷ case 16 broken3 3 (at 1 16)
    ∷ case 16 broken4 4 (at 3 1)
    ∷ case 16 broken5 5 (at 2 0)
    ∷ case 16 broken6 6 (at 4 0)
    ∷ case 16 broken7 7 (at 4 28)
    ∷ record { pages = 16; cells = broken8; told = record { rule = 8; place = at 1 0; first = UserIndex; second = ObjectIndex 0 } }
    ∷ case 16 broken9 9 (at 8 0)
    ∷ case 16 broken10 10 (at 0 1022)
    ∷ case 154 (first_user 1 149 0) 4 (at 2 16)
    ∷ case 154 (first_user 0 150 0) 10 (at 0 1022)
    ∷ case 154 (first_user 0 149 16) 9 (at 77 6)
    ∷ []

pub told : AllTold table
told = (told1, (told2, (told3, (told4, (told5, (told6, (told7, (told8, (told9, (told10, (told-used, (told-sum, (told-bit, tt)))))))))))))
