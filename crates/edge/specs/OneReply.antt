-- Two replies that meet a call's statement are the same, and so is the image afterwards: once for any call that gives one value, then for each call. Assumes nothing.
use Rattle.std.specs.Prelude.{◌≡◌, List, ℕ}
use Rattle.std.proofs.Common.{sym, ap, subst, ◌∙◌}
use Rattle.std.proofs.Math.Decide.{ℕ_discrete}
use Rattle.book.specs.Answers.{Numbers}
use Rattle.book.specs.Outcome.{Call, Single}
use Rattle.book.proofs.Coincide.{one-outcome}
use Rattle.book.specs.Calls.{check_call, find_user_call, find_file_call, address_call, who_call, format_call, format_default_call, create_user_call, delete_user_call, give_call, take_call}
use Rattle.book.specs.Calls.{create_indexed_call, create_contiguous_call, grow_call, shrink_call, delete_file_call, write_call, open_call, to_apostrophe_call, to_zeros_call}
use Rattle.book.specs.Format.{middle}
use Rattle.book.specs.Image.{pages}
use Rattle.book.specs.Names.{apostrophe}
use Rattle.book.specs.declared.Holder.{Holder}
use Rattle.book.specs.declared.Place.{Place}
use Rattle.laws.specs.Call.Singles.{single-check, single-convert, single-address, single-create-user, single-delete-user, single-give, single-take, single-create-indexed, single-create-contiguous, single-grow, single-shrink, single-delete-file, single-write, single-open, single-find-user, single-find-file}
use Rattle.laws.specs.Count.Who.{single-who}
use Rattle.laws.specs.Format.Call.{single-format}
use Rattle.sound.specs.declared.numbers.HolderNumbers.{HolderNumbers}
use Rattle.sound.specs.Told.{one_told}
use Rattle.edge.specs.Replied.{SamePlace, Spelled, Replied, HeldAs, Held, Placed, Lies}
use Rattle.edge.specs.declared.spell.Place.{Place as Spot}
use Rattle.edge.specs.declared.spell.Reply.{Reply}
use Rattle.edge.specs.declared.spell.HolderReply.{HolderReply}
use Rattle.edge.specs.declared.spell.Part.{Part}

-- ---- structs that spell the same are equal

same_place : (p : Place) (q r : Spot) → SamePlace p q → SamePlace p r → q ≡ r
same_place p q r a b = ap (λ (x : ℕ). mk x q.word) (a.0 ∙ sym b.0) ∙ ap (λ (x : ℕ). mk r.page x) (a.1 ∙ sym b.1)
  where
    mk : ℕ → ℕ → Spot
    mk p k = record { page = p; word = k }

pub same-reply : (n : Numbers ℕ) (r s : Reply) → Spelled n r → Spelled n s → r ≡ s
same-reply n r s a b =
    ap (λ (x : ℕ). mk x r.rule r.value r.place r.first r.second) (a.0 ∙ sym b.0)
    ∙ ap (λ (x : ℕ). mk s.number x r.value r.place r.first r.second) (a.2.0 ∙ sym b.2.0)
    ∙ ap (λ (x : ℕ). mk s.number s.rule x r.place r.first r.second) (a.1 ∙ sym b.1)
    ∙ ap (λ (q : Spot). mk s.number s.rule s.value q r.first r.second) (same_place n.broken.place r.place s.place a.2.1 b.2.1)
    ∙ ap (λ (h : HolderNumbers). mk s.number s.rule s.value s.place h r.second) (one_told _ r.first s.first a.2.2 b.2.2)
    ∙ ap (mk s.number s.rule s.value s.place s.first) (one_told _ r.second s.second a.2.3 b.2.3)
  where
    mk : ℕ → ℕ → ℕ → Spot → HolderNumbers → HolderNumbers → Reply
    mk n x y q g h = record { number = n; rule = x; value = y; place = q; first = g; second = h }

same-held : (n : Numbers Holder) (r s : HolderReply) → HeldAs n r → HeldAs n s → r ≡ s
same-held n r s a b =
    ap (λ (x : ℕ). mk x r.rule r.holder r.place r.first r.second) (a.0 ∙ sym b.0)
    ∙ ap (λ (x : ℕ). mk s.number x r.holder r.place r.first r.second) (a.2.0 ∙ sym b.2.0)
    ∙ ap (λ (h : HolderNumbers). mk s.number s.rule h r.place r.first r.second) (one_told _ r.holder s.holder a.1 b.1)
    ∙ ap (λ (q : Spot). mk s.number s.rule s.holder q r.first r.second) (same_place n.broken.place r.place s.place a.2.1 b.2.1)
    ∙ ap (λ (h : HolderNumbers). mk s.number s.rule s.holder s.place h r.second) (one_told _ r.first s.first a.2.2 b.2.2)
    ∙ ap (mk s.number s.rule s.holder s.place s.first) (one_told _ r.second s.second a.2.3 b.2.3)
  where
    mk : ℕ → ℕ → HolderNumbers → Spot → HolderNumbers → HolderNumbers → HolderReply
    mk n x k q g h = record { number = n; rule = x; holder = k; place = q; first = g; second = h }

same-part : (r s : Part) → r.offset ≡ s.offset → r.length ≡ s.length → r ≡ s
same-part r s a b = ap (λ (x : ℕ). mk x r.length) a ∙ ap (λ (x : ℕ). mk s.offset x) b
  where
    mk : ℕ → ℕ → Part
    mk o l = record { offset = o; length = l }

-- ---- for any call that gives one value

-- a reply, and the image afterwards
pub one-reply : (C : Call ℕ) → Single C → (img : List ℕ) (r s : Reply) (a b : List ℕ) → Replied C img r a → Replied C img s b → (r ≡ s) × (a ≡ b)
unfolding Replied
one-reply C u img r s a b (m, x, p) (n, y, q) =
    let o = one-outcome C u img m n a b x y in
    let t : Spelled m s = subst (λ (k : Numbers ℕ). Spelled k s) (sym o.0) q in (same-reply m r s p t, o.1)

-- a holder
pub one-held : (C : Call Holder) → Single C → (img : List ℕ) (r s : HolderReply) → Held C img r → Held C img s → r ≡ s
unfolding Held
one-held C u img r s (m, x, p) (n, y, q) = same-held m r s p (subst (λ (k : Numbers Holder). HeldAs k s) (sym (one-outcome C u img m n img img x y).0) q)

-- a part of the image
pub one_lies : (C : Call ℕ) → Single C → (img : List ℕ) (r s : Part) → Lies C img r → Lies C img s → r ≡ s
unfolding Lies
one_lies C u img r s (m, x, p) (n, y, q) =
    let t : Placed m s = subst (λ (k : Numbers ℕ). Placed k s) (sym (one-outcome C u img m n img img x y).0) q in
    elim (ℕ_discrete m.number 0) [
      | yes h ↦ same-part r s ((p.0 h).0 ∙ sym (t.0 h).0) ((p.0 h).1 ∙ sym (t.0 h).1)
      | no h ↦ same-part r s ((p.1 h).0 ∙ sym (t.1 h).0) ((p.1 h).1 ∙ sym (t.1 h).1)
    ]

-- ---- for each call

-- the call has one reply and leaves one image
abbrev pub OneReply : List ℕ → Call ℕ → Type 0
OneReply img C = (r s : Reply) (a b : List ℕ) → Replied C img r a → Replied C img s b → (r ≡ s) × (a ≡ b)

module _ (img : List ℕ) where
  pub one-check : OneReply img (check_call img)
  one-check = one-reply _ (single-check img) img

  pub one-find-user : (name : List ℕ) → OneReply img (find_user_call img name)
  one-find-user name = one-reply _ (single-find-user img name) img

  pub one_format : (name : List ℕ) (b : ℕ) → OneReply img (format_call img name b)
  one_format name b = one-reply _ (single-format img name b) img

  pub one-format-default : (name : List ℕ) → OneReply img (format_default_call img name)
  one-format-default name = one_format name (middle (pages img))

  pub one-create-user : (name : List ℕ) → OneReply img (create_user_call img name)
  one-create-user name = one-reply _ (single-create-user img name) img

  pub one-to-apostrophe : OneReply img (to_apostrophe_call img)
  one-to-apostrophe = one-reply _ (single-convert img 0 apostrophe) img

  pub one-to-zeros : OneReply img (to_zeros_call img)
  one-to-zeros = one-reply _ (single-convert img apostrophe 0) img

  pub one-who : (page : ℕ) (r s : HolderReply) → Held (who_call img page) img r → Held (who_call img page) img s → r ≡ s
  one-who page = one-held _ (single-who img page) img

  module _ (u : ℕ) where
    pub one-find-file : (name type : List ℕ) → OneReply img (find_file_call img u name type)
    one-find-file name type = one-reply _ (single-find-file img u name type) img

    pub one-delete-user : OneReply img (delete_user_call img u)
    one-delete-user = one-reply _ (single-delete-user img u) img

    pub one-give : (n : ℕ) → OneReply img (give_call img u n)
    one-give n = one-reply _ (single-give img u n) img

    pub one-take : (n : ℕ) → OneReply img (take_call img u n)
    one-take n = one-reply _ (single-take img u n) img

    pub one-create-indexed : (name type : List ℕ) (created : ℕ) → OneReply img (create_indexed_call img u name type created)
    one-create-indexed name type created = one-reply _ (single-create-indexed img u name type created) img

    pub one-create-contiguous : (name type : List ℕ) (created n : ℕ) → OneReply img (create_contiguous_call img u name type created n)
    one-create-contiguous name type created n = one-reply _ (single-create-contiguous img u name type created n) img

    module _ (f : ℕ) where
      pub one_address : (n : ℕ) → OneReply img (address_call img u f n)
      one_address n = one-reply _ (single-address img u f n) img

      pub one-read : (n : ℕ) (r s : Part) → Lies (address_call img u f n) img r → Lies (address_call img u f n) img s → r ≡ s
      one-read n = one_lies _ (single-address img u f n) img

      pub one-grow : OneReply img (grow_call img u f)
      one-grow = one-reply _ (single-grow img u f) img

      pub one-shrink : OneReply img (shrink_call img u f)
      one-shrink = one-reply _ (single-shrink img u f) img

      pub one-delete-file : OneReply img (delete_file_call img u f)
      one-delete-file = one-reply _ (single-delete-file img u f) img

      pub one-write : (n : ℕ) (d : List ℕ) → OneReply img (write_call img u f n d)
      one-write n d = one-reply _ (single-write img u f n d) img

      pub one-open : OneReply img (open_call img u f)
      one-open = one-reply _ (single-open img u f) img
