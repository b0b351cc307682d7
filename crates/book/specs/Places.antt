-- The places of each rule, in the order in which the first that breaks it is told. Assumes nothing.
use Rattle.std.specs.Prelude.{◌≡◌, Bool, true, ◌⊎◌, ℕ, zero, suc, ◌+◌, ◌-◌, ◌*◌, ◌/◌, ◌≤◌, ◌<◌}
use Rattle.sums.specs.Sum.{sum}
use Rattle.book.specs.Words.{Vol}
use Rattle.book.specs.Pointers.{flags, page, slot, Zero, Inside, plain, indexed, subindexed, bit_pointer, user_pointer, object_pointer, volume_name, unreserved_count}
use Rattle.book.specs.Bits.{bit, bit_pages, bit_page, bit_word}
use Rattle.book.specs.Entries.{Table, entry_word, user, object, user_page, object_page, used, used_pages, grant, page_count, file_pointer, file_entry, unreserved}
use Rattle.book.specs.Names.{LegalName, LegalType, SameName, SameFile}
use Rattle.book.specs.Files.{Empty, Contiguous, BytesRight}
use Rattle.book.specs.Holders.{mine, holders, some, system_pages}
use Rattle.book.specs.Rules.{Asked, UsedWithin}
use Rattle.book.specs.declared.Place.{Place}
use Rattle.book.specs.Spots.{at, Spots, none, spot, ◌then◌, each, when, last, chapter, nth}

-- word k of the master page, of user u's entry, of object entry e
abbrev pub in_master : ℕ → Place
in_master k = at 0 k

abbrev pub in_user : Vol → ℕ → ℕ → Place
in_user v u k = at (user_page v u) (entry_word u + k)

abbrev pub in_object : Vol → ℕ → ℕ → Place
in_object v e k = at (object_page v e) (entry_word e + k)

-- the 512 pointers of block b, where A tells what each may be. An absent block has only zeros, which break nothing
unfoldable pub pointers : Vol → ℕ → (ℕ → ℕ → Type 0) → Spots
pointers v b A = each 512 (λ s. spot (at b (2 * s)) (A s (slot v b s)))

-- pointer s is in least..P-1 before slot m, and zero from there on; least is 0 where it may be zero, and 1 where it must not
abbrev pub Filled : ℕ → ℕ → ℕ → ℕ → ℕ → Type 0
Filled P least m s x = (x < P) × (m ≤ s → x ≡ 0) × (s < m → least ≤ x)

abbrev pub May : ℕ → ℕ → ℕ → ℕ → Type 0
May P m = Filled P 0 m

abbrev pub Must : ℕ → ℕ → ℕ → ℕ → Type 0
Must P m = Filled P 1 m

-- 1: the volume name, the bit pointer
unfoldable pub spots1 : ℕ → Vol → Spots
spots1 P v = spot (in_master volume_name) (LegalName (v 0) volume_name)
    then spot (in_master bit_pointer) ((flags (v 0) bit_pointer ≡ plain) × (0 < page (v 0) bit_pointer) × (page (v 0) bit_pointer + bit_pages P ≤ P))

-- 2: the object pointer, which is zero exactly when the user pointer is; the user pointer
unfoldable pub spots2 : ℕ → Vol → Spots
spots2 P v = spot (in_master object_pointer) ((Zero (v 0) user_pointer × Zero (v 0) object_pointer)
    ⊎ ((Zero (v 0) user_pointer → ⊥) × (Inside P (v 0) object_pointer indexed ⊎ Inside P (v 0) object_pointer subindexed)))
    then spot (in_master user_pointer) (Zero (v 0) user_pointer ⊎ Inside P (v 0) user_pointer indexed)

-- 3: the pointers of the user index
unfoldable pub spots3 : ℕ → Vol → Spots
spots3 P v = pointers v (page (v 0) user_pointer) (May P 8)

-- 4: used users; for each its name, which no lower one has, its used count if it is asked for, its own index
abbrev pub NewName : Table → ℕ → Type 0
NewName U u = (a : ℕ) → a < u → 0 < used (U a) → SameName (U a) (U u) → ⊥

unfoldable pub user_spots : Bool → Vol → ℕ → Spots
user_spots ten v u = spot (in_user v u 1) (LegalName (user v u) 1 × NewName (user v) u)
    then spot (in_user v u 16) (Asked ten (UsedWithin (user v) u))
    then spot (in_user v u 18) (user v u 18 ≡ u)

abbrev pub user_row : Bool → Vol → ℕ → Spots
user_row ten v u = when (used (user v u)) (user_spots ten v u)

unfoldable pub spots4 : Bool → Vol → Spots
spots4 ten v = each 256 (user_row ten v)

-- 5: a used user above 63 where the object file is indexed; the subindex block; the index blocks
unfoldable pub spots5_by : ℕ → Vol → ℕ → ℕ → Spots
spots5_by P v zero t = none
spots5_by P v (suc zero) t = spot (in_master object_pointer) ((u : ℕ) → 63 < u → u < 256 → used (user v u) ≡ 0) then pointers v t (May P 512)
spots5_by P v (suc (suc zero)) t = pointers v t (May P 4) then each 4 (λ i. pointers v (slot v t i) (May P 512))
spots5_by P v (suc (suc (suc x))) t = none

unfoldable pub spots5 : ℕ → Vol → Spots
spots5 P v = spots5_by P v (flags (v 0) object_pointer) (page (v 0) object_pointer)

-- 6: used objects; for each its owner, its name, which with its type no lower file of the user has, its type, words 16 and 17
abbrev pub NewFile : Table → ℕ → ℕ → Type 0
NewFile O u f = (a : ℕ) → a < f → 0 < used (O (file_entry u a)) → SameFile (O (file_entry u a)) (O (file_entry u f)) → ⊥

unfoldable pub object_spots : Vol → ℕ → ℕ → ℕ → Spots
object_spots v u f e = spot (in_object v e 0) (0 < used (user v u))
    then spot (in_object v e 1) (LegalName (object v e) 1 × NewFile (object v) u f)
    then spot (in_object v e 9) (LegalType (object v e) 9)
    then spot (in_object v e 16) (object v e 16 ≡ u)
    then spot (in_object v e 17) (object v e 17 ≡ e)

unfoldable pub spots6 : Vol → Spots
spots6 v = each 256 (λ u. each 256 (λ f. when (used (object v (file_entry u f))) (object_spots v u f (file_entry u f))))

-- 7: used objects; for each its bytes, its pointer against its page count, its subindex block, its index blocks
unfoldable pub PointerRight : ℕ → ℕ → ℕ → ℕ → Type 0
PointerRight P zero t n = Empty t n ⊎ Contiguous P t n
PointerRight P (suc zero) t n = (0 < n) × (n ≤ 512) × (0 < t) × (t < P)
PointerRight P (suc (suc zero)) t n = (512 < n) × (n ≤ 262144) × (0 < t) × (t < P)
PointerRight P (suc (suc (suc x))) t n = ⊥

-- the index blocks of n pages
abbrev pub blocks_of : ℕ → ℕ
blocks_of n = (n + 511) / 512

unfoldable pub block_spots : ℕ → Vol → ℕ → ℕ → ℕ → Spots
block_spots P v zero t n = none
block_spots P v (suc zero) t n = pointers v t (Must P n)
block_spots P v (suc (suc zero)) t n = pointers v t (Must P (blocks_of n)) then each (blocks_of n) (λ i. pointers v (slot v t i) (Must P (n - i * 512)))
block_spots P v (suc (suc (suc x))) t n = none

unfoldable pub file_spots : ℕ → Vol → ℕ → ℕ → ℕ → ℕ → Spots
file_spots P v e x t n = spot (in_object v e 28) (BytesRight (object v e)) then spot (in_object v e file_pointer) (PointerRight P x t n) then block_spots P v x t n

unfoldable pub spots7 : ℕ → Vol → Spots
spots7 P v = each 65536 (λ e. when (used (object v e)) (file_spots P v e (flags (object v e) file_pointer) (page (object v e) file_pointer) (page_count (object v e))))

-- 8: the pages
abbrev pub page_row : ℕ → Vol → ℕ → Spots
page_row P v p = spot (at p 0) (holders P v p ≤ 1)

unfoldable pub spots8 : ℕ → Vol → Spots
spots8 P v = each P (page_row P v)

-- 9: the words of the bit file, by the pages whose bits they have
abbrev pub bit_row : ℕ → Vol → ℕ → Spots
bit_row P v p = spot (at (bit_page P v p) (bit_word p)) ((bit P v p ≡ 1 → 0 < holders P v p) × (0 < holders P v p → bit P v p ≡ 1))

unfoldable pub spots9 : ℕ → Vol → Spots
spots9 P v = each P (bit_row P v)

-- 10: the used counts of used users; the sum
unfoldable pub spots10 : ℕ → Vol → Spots
spots10 P v = each 256 (λ u. when (used (user v u)) (spot (in_user v u 16) (used_pages (user v) u ≡ mine v u some)))
    then spot (in_master unreserved_count) (unreserved v + sum 256 (grant (user v)) + system_pages P v ≡ P)

-- by the number of the rule
unfoldable pub spots_of : Bool → ℕ → Vol → ℕ → Spots
spots_of ten P v = nth (chapter none (chapter (spots1 P v) (chapter (spots2 P v) (chapter (spots3 P v) (chapter (spots4 ten v) (chapter (spots5 P v)
    (chapter (spots6 v) (chapter (spots7 P v) (chapter (spots8 P v) (chapter (spots9 P v) (chapter (spots10 P v) last)))))))))))

abbrev pub spots : ℕ → Vol → ℕ → Spots
spots = spots_of true
