-- The numbers of document 01 that each answer stands for. Assumes nothing.
use Rattle.std.specs.Prelude.{ℕ, Result, Ok, Err}
use Rattle.book.specs.declared.Role.{Role}
use Rattle.book.specs.declared.Role.TheVariants.{Subindex, Index, Data}
use Rattle.book.specs.declared.Holder.{Holder}
use Rattle.book.specs.declared.Holder.TheVariants.{Free, Master, BitFile, UserIndex, UserPage, ObjectSubindex, ObjectIndex, ObjectPage, File}
use Rattle.book.specs.declared.Break.{Break}
use Rattle.book.specs.declared.Refusal.{Refusal}
use Rattle.book.specs.declared.Refusal.TheVariants.{Size, Argument, Unsound, Missing, Taken, Kind, HasFiles, Full, Allowance, Unreserved, NoRun, Fill, Overdrawn, ShortList}

-- what comes back: the number, the value, and with 3 what is broken
pub record Numbers (A : Type 0) : Type 0 where
  pub number : ℕ
  pub value : A
  pub broken : Break

-- with any other number than 3
abbrev pub unbroken : Break
unbroken = record { rule = 0; place = record { page = 0; word = 0 }; first = Free; second = Free }

abbrev pub number_of : Refusal → ℕ
number_of Size = 1
number_of Argument = 2
number_of (Unsound b) = 3
number_of Missing = 4
number_of Taken = 5
number_of Kind = 6
number_of HasFiles = 7
number_of Full = 8
number_of Allowance = 9
number_of Unreserved = 10
number_of NoRun = 11
number_of Fill = 12
number_of Overdrawn = 13
number_of ShortList = 14

abbrev pub broken_of : Refusal → Break
broken_of Size = unbroken
broken_of Argument = unbroken
broken_of (Unsound b) = b
broken_of Missing = unbroken
broken_of Taken = unbroken
broken_of Kind = unbroken
broken_of HasFiles = unbroken
broken_of Full = unbroken
broken_of Allowance = unbroken
broken_of Unreserved = unbroken
broken_of NoRun = unbroken
broken_of Fill = unbroken
broken_of Overdrawn = unbroken
broken_of ShortList = unbroken

-- done with a value; a refusal has the value none
abbrev pub done_with : {A : Type 0} → A → Numbers A
done_with x = record { number = 0; value = x; broken = unbroken }

abbrev pub refused_with : {A : Type 0} → A → Refusal → Numbers A
refused_with none w = record { number = number_of w; value = none; broken = broken_of w }

abbrev pub numbers : Result ℕ Refusal → Numbers ℕ
numbers (Ok x) = done_with x
numbers (Err w) = refused_with 0 w

abbrev pub holding : Result Holder Refusal → Numbers Holder
holding (Ok h) = done_with h
holding (Err w) = refused_with Free w

-- a holder in numbers: its kind, its user and file, its position; a system page's user and file are 0
pub record HolderNumbers : Type 0 where
  pub kind : ℕ
  pub user : ℕ
  pub file : ℕ
  pub position : ℕ

abbrev pub system_numbers : ℕ → ℕ → HolderNumbers
system_numbers k n = record { kind = k; user = 0; file = 0; position = n }

abbrev pub role_numbers : ℕ → ℕ → Role → HolderNumbers
role_numbers u f Subindex = record { kind = 8; user = u; file = f; position = 0 }
role_numbers u f (Index n) = record { kind = 9; user = u; file = f; position = n }
role_numbers u f (Data n) = record { kind = 10; user = u; file = f; position = n }

abbrev pub holder_numbers : Holder → HolderNumbers
holder_numbers Free = system_numbers 0 0
holder_numbers Master = system_numbers 1 0
holder_numbers (BitFile n) = system_numbers 2 n
holder_numbers UserIndex = system_numbers 3 0
holder_numbers (UserPage n) = system_numbers 4 n
holder_numbers ObjectSubindex = system_numbers 5 0
holder_numbers (ObjectIndex n) = system_numbers 6 n
holder_numbers (ObjectPage n) = system_numbers 7 n
holder_numbers (File h) = role_numbers h.user h.file h.role
