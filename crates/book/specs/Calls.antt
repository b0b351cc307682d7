-- The twenty-one calls: for each number that it can be refused with, what that number asks for. Assumes nothing.
use Rattle.std.specs.Prelude.{◌≡◌, true, false, List, [], ◌++◌, ℕ, ◌*◌, ◌≤◌, ◌<◌, length, take, drop}
use Rattle.book.specs.Words.{Vol, vol}
use Rattle.book.specs.Pointers.{flags}
use Rattle.book.specs.Trees.{page_at}
use Rattle.book.specs.Bits.{lowest_free, highest_run}
use Rattle.book.specs.Entries.{user, object, used, spare, unreserved, file_entry, page_count, file_pointer, new_user, new_file}
use Rattle.book.specs.Names.{NameText, TypeText, apostrophe, Named, Typed}
use Rattle.book.specs.Files.{file_at, need, IsRun}
use Rattle.book.specs.Holders.{visits, Told}
use Rattle.book.specs.Rows.{Rows, end, row}
use Rattle.book.specs.Image.{pages, Whole, IndexArg, CountArg, PageArg, BitArg, DataArg}
use Rattle.book.specs.Rules.{Pointed}
use Rattle.book.specs.Answers.{Numbers}
use Rattle.book.specs.Outcome.{Call, call, asking, Outcome}
use Rattle.book.specs.Steps.{give_step, take_step, write_step, open_step}
use Rattle.book.specs.Grow.{grow}
use Rattle.book.specs.Shrink.{shrink}
use Rattle.book.specs.Create.{user_need, file_need, file_place, create_user, create_indexed, create_contiguous}
use Rattle.book.specs.Delete.{delete_file, delete_user}
use Rattle.book.specs.Format.{format, middle}
use Rattle.book.specs.Convert.{AllFilled, convert}
use Rattle.book.specs.Salvage.{mended, Affords, changes, changed}
use Rattle.book.specs.declared.Change.{Change}
use Rattle.book.specs.declared.Holder.{Holder}
use Rattle.book.specs.declared.Holder.TheVariants.{Free}

-- ---- what rows ask

-- 4: the user, the file, the position is there
abbrev pub HasUser : Vol → ℕ → Type 0
HasUser v u = 0 < used (user v u)

abbrev pub HasFile : Vol → ℕ → ℕ → Type 0
HasFile v u f = HasUser v u × (0 < used (object v (file_entry u f)))

abbrev pub HasPosition : Vol → ℕ → ℕ → ℕ → Type 0
HasPosition v u f n = HasUser v u × (0 < used (object v (file_entry u f))) × (n < page_count (object v (file_entry u f)))

-- the user of a name, the file of a name and type
abbrev pub IsUser : Vol → List ℕ → ℕ → Type 0
IsUser v name u = (u < 256) × (0 < used (user v u)) × Named (user v u) name

abbrev pub IsFile : Vol → ℕ → List ℕ → List ℕ → ℕ → Type 0
IsFile v u name type f = (f < 256) × (0 < used (object v (file_entry u f))) × Named (object v (file_entry u f)) name × Typed (object v (file_entry u f)) type

-- 6: an indexed file; one with a page
abbrev pub Grows : Vol → ℕ → Type 0
Grows v e = IsRun (flags (object v e) file_pointer) (page_count (object v e)) → ⊥

abbrev pub Shrinks : Vol → ℕ → Type 0
Shrinks v e = Grows v e × (0 < page_count (object v e))

-- 7: no file of his is used
abbrev pub NoFiles : Vol → ℕ → Type 0
NoFiles v u = (f : ℕ) → f < 256 → used (object v (file_entry u f)) ≡ 0

-- ---- calls that change nothing

unfoldable pub check_call : List ℕ → Call ℕ
check_call img = call img (Unit {0}) end (visits (pages img) (vol img)) (vol img)

unfoldable pub find_user_call : List ℕ → List ℕ → Call ℕ
find_user_call img name =
    asking img (NameText name)
    (row 4 ((u : ℕ) × IsUser (vol img) name u) end)
    0 (IsUser (vol img) name) (vol img)

unfoldable pub find_file_call : List ℕ → ℕ → List ℕ → List ℕ → Call ℕ
find_file_call img u name type =
    asking img (IndexArg u × NameText name × TypeText type)
    (row 4 (HasUser (vol img) u × ((f : ℕ) × IsFile (vol img) u name type f)) end)
    0 (IsFile (vol img) u name type) (vol img)

-- what address and read ask alike
unfoldable pub position_rows : Vol → ℕ → ℕ → ℕ → Rows
position_rows v u f n = row 4 (HasPosition v u f n) end

unfoldable pub address_call : List ℕ → ℕ → ℕ → ℕ → Call ℕ
address_call img u f n =
    call img (IndexArg u × IndexArg f) (position_rows (vol img) u f n)
    (page_at (vol img) (file_at (vol img) (file_entry u f)) n) (vol img)

-- the 1,024 words of page p
abbrev pub part_at : List ℕ → ℕ → List ℕ
part_at img p = take 1024 (drop (1024 * p) img)

unfoldable pub read_call : List ℕ → ℕ → ℕ → ℕ → Call (List ℕ)
read_call img u f n =
    asking img (IndexArg u × IndexArg f) (position_rows (vol img) u f n)
    [] (λ part. part ≡ part_at img (page_at (vol img) (file_at (vol img) (file_entry u f)) n)) (vol img)

unfoldable pub who_call : List ℕ → ℕ → Call Holder
who_call img p = asking img (PageArg (pages img) p) end Free (Told (pages img) (vol img) p) (vol img)

-- ---- calls that change

-- the image need not be sound
unfoldable pub format_call : List ℕ → List ℕ → ℕ → Call ℕ
format_call img name b = record {
  table = row 1 (Whole img) (row 2 (NameText name × BitArg (pages img) b) end);
  ten = true;
  none = 0;
  gives = λ x. x ≡ 0;
  after = format (pages img) (vol img) name b;
}

abbrev pub format_default_call : List ℕ → List ℕ → Call ℕ
format_default_call img name = format_call img name (middle (pages img))

unfoldable pub create_user_call : List ℕ → List ℕ → Call ℕ
create_user_call img name = let v : Vol = vol img in let P : ℕ = pages img in
    call img (NameText name)
    (row 5 ((u : ℕ) → IsUser v name u → ⊥)
    (row 8 (new_user v < 256)
    (row 10 (user_need v (new_user v) ≤ unreserved v) end)))
    (new_user v) (create_user (lowest_free P) P v name)

unfoldable pub delete_user_call : List ℕ → ℕ → Call ℕ
delete_user_call img u = call img (IndexArg u) (row 4 (HasUser (vol img) u) (row 7 (NoFiles (vol img) u) end)) 0 (delete_user (vol img) u)

unfoldable pub give_call : List ℕ → ℕ → ℕ → Call ℕ
give_call img u n =
    call img (IndexArg u × CountArg n) (row 4 (HasUser (vol img) u) (row 10 (n ≤ unreserved (vol img)) end)) 0 (give_step (vol img) u n)

unfoldable pub take_call : List ℕ → ℕ → ℕ → Call ℕ
take_call img u n =
    call img (IndexArg u × CountArg n) (row 4 (HasUser (vol img) u) (row 9 (n ≤ spare (vol img) u) end)) 0 (take_step (vol img) u n)

unfoldable pub create_indexed_call : List ℕ → ℕ → List ℕ → List ℕ → ℕ → Call ℕ
create_indexed_call img u name type created = let v : Vol = vol img in let P : ℕ = pages img in
    call img (IndexArg u × NameText name × TypeText type)
    (row 4 (HasUser v u)
    (row 5 ((f : ℕ) → IsFile v u name type f → ⊥)
    (row 8 (new_file v u < 256)
    (row 10 (file_need v (file_entry u (new_file v u)) ≤ unreserved v) end))))
    (new_file v u) (create_indexed (lowest_free P) P v u name type created)

unfoldable pub create_contiguous_call : List ℕ → ℕ → List ℕ → List ℕ → ℕ → ℕ → Call ℕ
create_contiguous_call img u name type created n = let v : Vol = vol img in let P : ℕ = pages img in
    call img (IndexArg u × NameText name × TypeText type × CountArg n)
    (row 4 (HasUser v u)
    (row 5 ((f : ℕ) → IsFile v u name type f → ⊥)
    (row 8 (new_file v u < 256)
    (row 9 (n ≤ spare v u)
    (row 10 (file_need v (file_entry u (new_file v u)) ≤ unreserved v)
    (row 11 (0 < highest_run P (file_place (lowest_free P) P v (file_entry u (new_file v u))) n) end))))))
    (new_file v u) (create_contiguous (lowest_free P) P v u name type created n)

-- grow gives the data page
unfoldable pub grow_call : List ℕ → ℕ → ℕ → Call ℕ
grow_call img u f = let v : Vol = vol img in let P : ℕ = pages img in
    call img (IndexArg u × IndexArg f)
    (row 4 (HasFile v u f)
    (row 6 (Grows v (file_entry u f))
    (row 9 (need (page_count (object v (file_entry u f))) ≤ spare v u) end)))
    (lowest_free P v) (grow (lowest_free P) P v u f)

unfoldable pub shrink_call : List ℕ → ℕ → ℕ → Call ℕ
shrink_call img u f =
    call img (IndexArg u × IndexArg f) (row 4 (HasFile (vol img) u f) (row 6 (Shrinks (vol img) (file_entry u f)) end)) 0 (shrink (pages img) (vol img) u f)

unfoldable pub delete_file_call : List ℕ → ℕ → ℕ → Call ℕ
delete_file_call img u f = call img (IndexArg u × IndexArg f) (row 4 (HasFile (vol img) u f) end) 0 (delete_file (pages img) (vol img) u f)

unfoldable pub write_call : List ℕ → ℕ → ℕ → ℕ → List ℕ → Call ℕ
write_call img u f n d =
    call img (IndexArg u × IndexArg f × DataArg d) (position_rows (vol img) u f n) 0 (write_step (vol img) (file_entry u f) n d)

unfoldable pub open_call : List ℕ → ℕ → ℕ → Call ℕ
open_call img u f = call img (IndexArg u × IndexArg f) (row 4 (HasFile (vol img) u f) end) 0 (open_step (vol img) (file_entry u f))

-- from one fill to the other: 12 asks that every short name and type has exactly the fill that it starts from
unfoldable pub convert_call : ℕ → ℕ → List ℕ → Call ℕ
convert_call from to img = call img (Unit {0}) (row 12 (AllFilled from (vol img)) end) 0 (convert to (vol img))

abbrev pub to_apostrophe_call : List ℕ → Call ℕ
to_apostrophe_call = convert_call 0 apostrophe

abbrev pub to_zeros_call : List ℕ → Call ℕ
to_zeros_call = convert_call apostrophe 0

-- ---- salvage

-- the volume it leaves, the changes it tells, and their number
abbrev pub salvaged : List ℕ → Vol
salvaged img = mended (pages img) (vol img)

abbrev pub repairs : List ℕ → List Change
repairs img = changes (vol img) (salvaged img) (1024 * pages img)

abbrev pub repaired : List ℕ → ℕ
repaired img = changed (vol img) (salvaged img) (1024 * pages img)

-- 3 judges the pointers alone; so many changes can be told
unfoldable pub salvage_call : List ℕ → ℕ → Call ℕ
salvage_call img room = record {
  table = row 1 (Whole img) (row 3 (Pointed (pages img) (vol img)) (row 13 (Affords (pages img) (vol img)) (row 14 (repaired img ≤ room) end)));
  ten = false;
  none = 0;
  gives = λ x. x ≡ repaired img;
  after = salvaged img;
}

-- done: the list begins with what is told, n long, and what is past it stays; refused: it is as it was
pub record Listed {A : Type 0} (told : List A) (n number : ℕ) (list list' : List A) : Type 0 where
  pub done : number ≡ 0 → list' ≡ told ++ drop n list
  pub refused : (number ≡ 0 → ⊥) → list' ≡ list

-- with a list lent
pub record Salvaged (img : List ℕ) (list : List Change) (r : Numbers ℕ) (img' : List ℕ) (list' : List Change) : Type 0 where
  pub outcome : Outcome (salvage_call img (length list)) img r img'
  pub listed : Listed (repairs img) (repaired img) r.number list list'
