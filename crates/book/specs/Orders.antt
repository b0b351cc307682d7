-- The numbers that each call can be refused with, and the ten rules, in the paper's order: rows of a table, each with the numbers of our table beside the paper's. Assumes nothing.
use Rattle.std.specs.Prelude.{refl, List, [], ◌∷◌, ℕ}
use Rattle.book.specs.Words.{Vol}
use Rattle.book.specs.Rows.{Rows, numbers_of}
use Rattle.book.specs.Rules.{rules, rules_of}
use Rattle.book.specs.Outcome.{call, asking, judged}
use Rattle.book.specs.Calls.{
  check_call,
  find_user_call,
  find_file_call,
  position_rows,
  address_call,
  read_call,
  who_call,
  format_call,
  format_default_call,
  create_user_call,
  delete_user_call,
  give_call,
  take_call,
  create_indexed_call,
  create_contiguous_call,
  grow_call,
  shrink_call,
  delete_file_call,
  write_call,
  open_call,
  convert_call,
  to_apostrophe_call,
  to_zeros_call,
  salvage_call,
}
use Rattle.book.specs.Yard.{Row, example, Right}

abbrev order : Rows → List ℕ → Row
order t paper = example (numbers_of t) paper

-- on any image, with any arguments; check and the conversions have no argument, and their row 2 always holds
abbrev pub tables : (img name type d : List ℕ) (u f n b p created : ℕ) (P : ℕ) (v : Vol) → List Row
tables img name type d u f n b p created P v =
    order (check_call img).table (1 ∷ 2 ∷ 3 ∷ [])
    ∷ order (find_user_call img name).table (1 ∷ 2 ∷ 3 ∷ 4 ∷ [])
    ∷ order (find_file_call img u name type).table (1 ∷ 2 ∷ 3 ∷ 4 ∷ [])
    ∷ order (address_call img u f n).table (1 ∷ 2 ∷ 3 ∷ 4 ∷ [])
    ∷ order (read_call img u f n).table (1 ∷ 2 ∷ 3 ∷ 4 ∷ [])
    ∷ order (who_call img p).table (1 ∷ 2 ∷ 3 ∷ [])
    ∷ order (format_call img name b).table (1 ∷ 2 ∷ [])
    ∷ order (format_default_call img name).table (1 ∷ 2 ∷ [])
    ∷ order (create_user_call img name).table (1 ∷ 2 ∷ 3 ∷ 5 ∷ 8 ∷ 10 ∷ [])
    ∷ order (delete_user_call img u).table (1 ∷ 2 ∷ 3 ∷ 4 ∷ 7 ∷ [])
    ∷ order (give_call img u n).table (1 ∷ 2 ∷ 3 ∷ 4 ∷ 10 ∷ [])
    ∷ order (take_call img u n).table (1 ∷ 2 ∷ 3 ∷ 4 ∷ 9 ∷ [])
    ∷ order (create_indexed_call img u name type created).table (1 ∷ 2 ∷ 3 ∷ 4 ∷ 5 ∷ 8 ∷ 10 ∷ [])
    ∷ order (create_contiguous_call img u name type created n).table (1 ∷ 2 ∷ 3 ∷ 4 ∷ 5 ∷ 8 ∷ 9 ∷ 10 ∷ 11 ∷ [])
    ∷ order (grow_call img u f).table (1 ∷ 2 ∷ 3 ∷ 4 ∷ 6 ∷ 9 ∷ [])
    ∷ order (shrink_call img u f).table (1 ∷ 2 ∷ 3 ∷ 4 ∷ 6 ∷ [])
    ∷ order (delete_file_call img u f).table (1 ∷ 2 ∷ 3 ∷ 4 ∷ [])
    ∷ order (write_call img u f n d).table (1 ∷ 2 ∷ 3 ∷ 4 ∷ [])
    ∷ order (open_call img u f).table (1 ∷ 2 ∷ 3 ∷ 4 ∷ [])
    ∷ order (to_apostrophe_call img).table (1 ∷ 2 ∷ 3 ∷ 12 ∷ [])
    ∷ order (to_zeros_call img).table (1 ∷ 2 ∷ 3 ∷ 12 ∷ [])
    ∷ order (salvage_call img n).table (1 ∷ 3 ∷ 13 ∷ 14 ∷ [])
    ∷ order (rules P v) (1 ∷ 2 ∷ 3 ∷ 4 ∷ 5 ∷ 6 ∷ 7 ∷ 8 ∷ 9 ∷ 10 ∷ [])
    ∷ []

pub orders : (img name type d : List ℕ) (u f n b p created : ℕ) (P : ℕ) (v : Vol) → Right (tables img name type d u f n b p created P v)
unfolding Right numbers_of rules_of call asking judged position_rows check_call find_user_call find_file_call address_call read_call who_call format_call create_user_call delete_user_call give_call take_call create_indexed_call create_contiguous_call grow_call shrink_call delete_file_call write_call open_call convert_call salvage_call
orders img name type d u f n b p created P v =
    (refl, (refl, (refl, (refl, (refl, (refl, (refl, (refl, (refl, (refl, (refl, (refl, (refl, (refl, (refl, (refl, (refl, (refl, (refl, (refl, (refl, (refl, (refl, tt)))))))))))))))))))))))
