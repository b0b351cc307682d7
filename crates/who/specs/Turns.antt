-- The order of holders as one number, the holder's turn: by kind, then by entry, then by position. Assumes nothing.
use Rattle.std.specs.Prelude.{ℕ, zero, suc, ◌+◌, ◌*◌, ◌/◌, ◌%◌}
use Rattle.book.specs.Words.{Vol}
use Rattle.book.specs.Trees.{Root, upto, page_at, index_at, subindex_of}
use Rattle.book.specs.Bits.{bit_file}
use Rattle.book.specs.Entries.{user_file, object_file, file_entry}
use Rattle.book.specs.Files.{file_at}
use Rattle.book.specs.Answers.{HolderNumbers, holder_numbers}
use Rattle.book.specs.declared.Role.{Role}
use Rattle.book.specs.declared.Role.TheVariants.{Subindex, Index, Data}
use Rattle.book.specs.declared.Holder.{Holder}
use Rattle.book.specs.declared.Holder.TheVariants.{Free, Master, BitFile, UserIndex, UserPage, ObjectSubindex, ObjectIndex, ObjectPage}
use Rattle.laws.specs.Count.Holder.{file_holder}

-- no root has more positions
abbrev pub positions : ℕ
positions = 262144

-- the turns of one kind: 65,536 entries
abbrev pub turns : ℕ
turns = 17179869184

-- all turns: 11 kinds
abbrev pub all_turns : ℕ
all_turns = 188978561024

abbrev pub turn_by : HolderNumbers → ℕ
turn_by x = turns * x.kind + positions * file_entry x.user x.file + x.position

abbrev pub turn_of : Holder → ℕ
turn_of h = turn_by (holder_numbers h)

-- ---- the page that has a turn, 0 where none has

-- position n of a class of pages: 0 the subindex block, 1 the index blocks, 2 the data pages
unfoldable pub class_page : Vol → Root → ℕ → ℕ → ℕ
class_page v r zero n = upto n 1 (subindex_of r)
class_page v r (suc zero) n = index_at v r n
class_page v r (suc (suc c)) n = page_at v r n

-- turn x of a class in all files
unfoldable pub file_page : Vol → ℕ → ℕ → ℕ
file_page v c x = class_page v (file_at v (x / positions)) c (x % positions)

-- turn x of a kind; a user file has one index block
unfoldable pub kind_page : ℕ → Vol → ℕ → ℕ → ℕ
kind_page P v zero x = 0
kind_page P v (suc zero) x = 0
kind_page P v (suc (suc zero)) x = page_at v (bit_file P v) x
kind_page P v (suc (suc (suc zero))) x = upto x 1 (index_at v (user_file v) 0)
kind_page P v (suc (suc (suc (suc zero)))) x = page_at v (user_file v) x
kind_page P v (suc (suc (suc (suc (suc zero))))) x = class_page v (object_file v) 0 x
kind_page P v (suc (suc (suc (suc (suc (suc zero)))))) x = class_page v (object_file v) 1 x
kind_page P v (suc (suc (suc (suc (suc (suc (suc zero))))))) x = class_page v (object_file v) 2 x
kind_page P v (suc (suc (suc (suc (suc (suc (suc (suc c)))))))) x = file_page v c x

unfoldable pub turn_page : ℕ → Vol → ℕ → ℕ
turn_page P v x = kind_page P v (x / turns) (x % turns)

-- ---- the holder that has a turn

unfoldable pub file_role : ℕ → ℕ → Role
file_role zero n = Subindex
file_role (suc zero) n = Index n
file_role (suc (suc c)) n = Data n

-- of kind k, entry e and position n
unfoldable pub holder_by : ℕ → ℕ → ℕ → Holder
holder_by zero e n = Free
holder_by (suc zero) e n = Master
holder_by (suc (suc zero)) e n = BitFile n
holder_by (suc (suc (suc zero))) e n = UserIndex
holder_by (suc (suc (suc (suc zero)))) e n = UserPage n
holder_by (suc (suc (suc (suc (suc zero))))) e n = ObjectSubindex
holder_by (suc (suc (suc (suc (suc (suc zero)))))) e n = ObjectIndex n
holder_by (suc (suc (suc (suc (suc (suc (suc zero))))))) e n = ObjectPage n
holder_by (suc (suc (suc (suc (suc (suc (suc (suc c)))))))) e n = file_holder (e / 256) (e % 256) (file_role c n)

unfoldable pub holder_at : ℕ → Holder
holder_at x = holder_by (x / turns) (x % turns / positions) (x % positions)
