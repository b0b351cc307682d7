-- Each of the twenty-one calls gives one value, so that any two of its outcomes coincide (Coincide.one-outcome). Assumes nothing.
use Rattle.std.proofs.Math.Path.{sym}
use Rattle.std.proofs.Common.{◌∙◌, arith}
use Rattle.std.specs.Prelude.{List, ℕ}
use Rattle.book.specs.Calls.{check_call, address_call, read_call, create_user_call, delete_user_call, give_call, take_call, create_indexed_call, create_contiguous_call, grow_call, shrink_call, delete_file_call, write_call, open_call, convert_call, find_user_call, find_file_call}
use Rattle.book.specs.Coincide.{single-call}
use Rattle.book.specs.Outcome.{Single, asking, judged}
use Rattle.book.specs.Rows.{Clear}
use Rattle.book.specs.Rules.{Rule4Over, Rule6Over}

-- who holds, format and salvage: Count.Who.single-who, Format.Call.single-format, Salvage.Call.single-salvage

module _ (img : List ℕ) where
  pub single-check : Single (check_call img)
  unfolding check_call
  single-check = single-call img _ _ _ _

  pub single-create-user : (name : List ℕ) → Single (create_user_call img name)
  unfolding create_user_call
  single-create-user name = single-call img _ _ _ _

  pub single-convert : (from to : ℕ) → Single (convert_call from to img)
  unfolding convert_call
  single-convert from to = single-call img _ _ _ _

  module _ (u : ℕ) where
    pub single-delete-user : Single (delete_user_call img u)
    unfolding delete_user_call
    single-delete-user = single-call img _ _ _ _

    pub single-give : (n : ℕ) → Single (give_call img u n)
    unfolding give_call
    single-give n = single-call img _ _ _ _

    pub single-take : (n : ℕ) → Single (take_call img u n)
    unfolding take_call
    single-take n = single-call img _ _ _ _

    pub single-create-indexed : (name type : List ℕ) (created : ℕ) → Single (create_indexed_call img u name type created)
    unfolding create_indexed_call
    single-create-indexed name type created = single-call img _ _ _ _

    pub single-create-contiguous : (name type : List ℕ) (created n : ℕ) → Single (create_contiguous_call img u name type created n)
    unfolding create_contiguous_call
    single-create-contiguous name type created n = single-call img _ _ _ _

    module _ (f : ℕ) where
      pub single-address : (n : ℕ) → Single (address_call img u f n)
      unfolding address_call
      single-address n = single-call img _ _ _ _

      pub single-read : (n : ℕ) → Single (read_call img u f n)
      unfolding Single read_call asking
      single-read n c x y p q = p ∙ sym q

      pub single-grow : Single (grow_call img u f)
      unfolding grow_call
      single-grow = single-call img _ _ _ _

      pub single-shrink : Single (shrink_call img u f)
      unfolding shrink_call
      single-shrink = single-call img _ _ _ _

      pub single-delete-file : Single (delete_file_call img u f)
      unfolding delete_file_call
      single-delete-file = single-call img _ _ _ _

      pub single-write : (n : ℕ) (d : List ℕ) → Single (write_call img u f n d)
      unfolding write_call
      single-write n d = single-call img _ _ _ _

      pub single-open : Single (open_call img u f)
      unfolding open_call
      single-open = single-call img _ _ _ _

pub single-find-user : (img name : List ℕ) → Single (find_user_call img name)
unfolding Single find_user_call asking judged Clear Rule4Over
single-find-user img name c x y a b = c.1.1.0.r4.1 x y a.0 b.0 a.1 b.1 (a.2 ∙ sym b.2)

pub single-find-file : (img : List ℕ) (u : ℕ) (name type : List ℕ) → Single (find_file_call img u name type)
unfolding Single find_file_call asking judged Clear Rule6Over
single-find-file img u name type c x y a b =
    c.1.1.0.r6.1 u x y (omega (arith, c.1.0.0)) a.0 b.0 a.1 b.1 (a.2 ∙ sym b.2, a.3 ∙ sym b.3)
