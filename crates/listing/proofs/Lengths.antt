-- How long the lines of the listing can be. Assumes nothing.
use mathlib.Core.Path.{◌≡◌, refl, ap, subst, ◌∙◌}
use mathlib.Core.List.{[], ◌∷◌, ◌++◌}
use Prim.Native.Nat.{ℕ, zero, suc, ◌+◌, ◌/◌, ◌%◌, ◌≤◌, zero-le}
use native.Mathlib.Nat.{le_refl}
use native.Mathlib.Omega.{arith}
use lib.ListN.{length, length-append}
use Rattle.sums.specs.Sum.{sum, is}
use Rattle.sums.specs.Search.{pick}
use Rattle.book.specs.Words.{Words, Vol}
use Rattle.book.specs.Pointers.{flags, volume_name}
use Rattle.book.specs.Bits.{reserved}
use Rattle.book.specs.Entries.{Table, given, used_pages, page_count, file_pointer, unreserved}
use Rattle.book.specs.Names.{stored}
use Rattle.laws.specs.File.Stored.{end_is, stored-length}
use Rattle.book.specs.Listing.{Bytes, joined, digits, field, volume, pages_are, reserved_are, unreserved_are, user_is, given_are, used_are, file_is, refused_is, rule_is, space, colon, newline}
use Rattle.book.specs.Listing.{subindex, contiguous, kind_of, head_line, user_line, file_title, file_line, refused_line}

-- ---- parts

-- at most m bytes
record AtMost (m : ℕ) (s : Bytes) : Type 0 where
  pub most : length s ≤ m

all_of : (s : Bytes) → AtMost (length s) s
all_of s = record { most = le_refl (length s) }

-- one text after the other
both : {s t : Bytes} {m n : ℕ} → AtMost m s → AtMost n t → AtMost (m + n) (s ++ t)
both {s} {t} {m} {n} a b = record { most = omega (arith, length-append s t, a.most, b.most) }

-- one of two texts
either : (x m : ℕ) {s t : Bytes} → AtMost m s → AtMost m t → AtMost m (pick x s t)
unfolding pick
either zero m a b = b
either (suc x) m a b = a

none : (m : ℕ) → AtMost m []
none m = record { most = zero-le }

pub joined_length : (g : ℕ → Bytes) (n : ℕ) → length (joined g n) ≡ sum n (λ i. length (g i))
unfolding joined sum
joined_length g zero = refl
joined_length g (suc n) = length-append (joined g n) (g n) ∙ ap (λ (x : ℕ). x + length (g n)) (joined_length g n)

digits-length : (k n : ℕ) → AtMost k (digits k n)
unfolding digits
digits-length zero n = none 0
digits-length (suc k) n =
    subst (λ (m : ℕ). AtMost m (digits (suc k) n)) (let e : k + 1 ≡ suc k = omega arith in e)
    (both (either (n / 10) k (digits-length k (n / 10)) (none k)) (all_of ((48 + n % 10) ∷ [])))

field-length : (label : Bytes) (n : ℕ) → AtMost (length label + 10) (field label n)
unfolding field
field-length label n = both (all_of label) (digits-length 10 n)

name-length : (n : ℕ) (w : Words) (k : ℕ) → AtMost n (stored n w k)
name-length n w k = record { most = omega (arith, stored-length n w k, (end_is n w k).most) }

kind-length : (x n : ℕ) → AtMost 11 (kind_of x n)
unfolding kind_of
kind-length zero n = either n 11 (all_of contiguous) (record { most = omega arith })
kind-length (suc zero) n = record { most = omega arith }
kind-length (suc (suc x)) n = all_of subindex

-- ---- lines

pub head-length : (P : ℕ) (v : Vol) → length (head_line P v) ≤ 83
unfolding head_line
head-length P v =
    let l : AtMost 83 (head_line P v) =
    both (both (both (both (both (all_of volume) (name-length 16 (v 0) volume_name)) (field-length pages_are P)) (field-length reserved_are (reserved P v)))
    (field-length unreserved_are (unreserved v))) (all_of newline) in
    l.most

-- a user's line and a file's
pub user-length : (U : Table) (u : ℕ) → length (user_line U u) ≤ 66
unfolding user_line
user-length U u =
    let l : AtMost 66 (user_line U u) =
    both (both (both (both (both (field-length user_is u) (all_of space)) (name-length 16 (U u) 1)) (field-length given_are (given U u)))
    (field-length used_are (used_pages U u))) (all_of newline) in
    l.most

title-length : (f : ℕ) (w : Words) → AtMost 37 (file_title f w)
unfolding file_title
title-length f w = both (both (both (both (field-length file_is f) (all_of space)) (name-length 16 w 1)) (all_of colon)) (name-length 4 w 9)

pub file-length : (f : ℕ) (w : Words) → length (file_line f w) ≤ 66
unfolding file_line
file-length f w =
    let l : AtMost 66 (file_line f w) =
    both (both (both (title-length f w) (field-length pages_are (page_count w))) (kind-length (flags w file_pointer) (page_count w))) (all_of newline) in
    l.most

pub refused-length : (n r : ℕ) → length (refused_line n r) ≤ 35
unfolding refused_line
refused-length n r =
    let l : AtMost 35 (refused_line n r) = both (both (field-length refused_is n) (either (is n 3) 16 (field-length rule_is r) (none 16))) (all_of newline) in
    l.most
