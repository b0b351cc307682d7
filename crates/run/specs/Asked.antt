-- The numbers of the calls, and the book's call that each asks for. Assumes nothing.
use Rattle.std.specs.Prelude.{◌≡◌, List, ℕ, Option, Some, None}
use Rattle.book.specs.Calls.{check_call, find_user_call, find_file_call, address_call, format_call, format_default_call, create_user_call, delete_user_call}
use Rattle.book.specs.Calls.{give_call, take_call, create_indexed_call, create_contiguous_call, grow_call, shrink_call, delete_file_call, write_call, open_call, to_apostrophe_call, to_zeros_call}
use Rattle.book.specs.Outcome.{Call as BookCall}
use Rattle.book.specs.Run.{name_call, names_call, data_call, offset_call}
use Rattle.run.specs.declared.call.Named.{Named}
use Rattle.run.specs.declared.call.Named.TheVariants.{Format, FormatDefault, FindUser, CreateUser}
use Rattle.run.specs.declared.call.Typed.{Typed}
use Rattle.run.specs.declared.call.Typed.TheVariants.{FindFile, CreateIndexed, CreateContiguous}
use Rattle.run.specs.declared.call.Valued.{Valued}
use Rattle.run.specs.declared.call.Valued.TheVariants.{Named as WithName, Typed as WithType, Check, Address, DeleteUser, Give, Take, Grow, Shrink, DeleteFile, ReadPage, WritePage, NoteOpen, ConvertToApostrophe, ConvertToZeros}
use Rattle.run.specs.declared.call.Call.{Call}
use Rattle.run.specs.declared.call.Call.TheVariants.{WhoHolds, Salvage, Valued as OneValue}

-- ---- the numbers

abbrev pub named_number : Named → ℕ
named_number Format = 1
named_number FindUser = 3
named_number CreateUser = 7
named_number FormatDefault = 19

abbrev pub typed_number : Typed → ℕ
typed_number FindFile = 4
typed_number CreateIndexed = 11
typed_number CreateContiguous = 12

abbrev pub valued_number : Valued → ℕ
valued_number (WithName k) = named_number k
valued_number (WithType k) = typed_number k
valued_number Check = 2
valued_number Address = 5
valued_number DeleteUser = 8
valued_number Give = 9
valued_number Take = 10
valued_number Grow = 13
valued_number Shrink = 14
valued_number DeleteFile = 15
valued_number ReadPage = 16
valued_number WritePage = 17
valued_number NoteOpen = 18
valued_number ConvertToApostrophe = 20
valued_number ConvertToZeros = 21

abbrev pub call_number : Call → ℕ
call_number WhoHolds = 6
call_number Salvage = 22
call_number (OneValue k) = valued_number k

-- the call has this number; none has it
abbrev pub Asks : ℕ → Option Call → Type 0
Asks n (Some k) = n ≡ call_number k
Asks n None = (k : Call) → n ≡ call_number k → ⊥

-- ---- the calls

-- with a name, whose bit file begins at page n
abbrev pub named_call : List ℕ → ℕ → Named → List ℕ → BookCall ℕ
named_call img n Format name = format_call img name n
named_call img n FormatDefault name = format_default_call img name
named_call img n FindUser name = find_user_call img name
named_call img n CreateUser name = create_user_call img name

-- with a name and a type: of user u, of n pages, created at t
abbrev pub typed_call : List ℕ → (u n t : ℕ) → Typed → List ℕ → List ℕ → BookCall ℕ
typed_call img u n t FindFile name type = find_file_call img u name type
typed_call img u n t CreateIndexed name type = create_indexed_call img u name type t
typed_call img u n t CreateContiguous name type = create_contiguous_call img u name type t n

-- of user u and file f
abbrev pub valued_call : (img s text words : List ℕ) → (u f n t : ℕ) → Valued → BookCall ℕ
valued_call img s text words u f n t (WithName k) = name_call img s text (named_call img n k)
valued_call img s text words u f n t (WithType k) = names_call img s text (typed_call img u n t k)
valued_call img s text words u f n t Check = check_call img
valued_call img s text words u f n t Address = address_call img u f n
valued_call img s text words u f n t DeleteUser = delete_user_call img u
valued_call img s text words u f n t Give = give_call img u n
valued_call img s text words u f n t Take = take_call img u n
valued_call img s text words u f n t Grow = grow_call img u f
valued_call img s text words u f n t Shrink = shrink_call img u f
valued_call img s text words u f n t DeleteFile = delete_file_call img u f
valued_call img s text words u f n t ReadPage = offset_call img u f n
valued_call img s text words u f n t WritePage = data_call img s words (write_call img u f n)
valued_call img s text words u f n t NoteOpen = open_call img u f
valued_call img s text words u f n t ConvertToApostrophe = to_apostrophe_call img
valued_call img s text words u f n t ConvertToZeros = to_zeros_call img
