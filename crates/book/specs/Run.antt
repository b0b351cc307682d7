-- A run: a list of steps in numbers, the call that each asks for and what it comes back with, and the steps made one after the other up to the first that is refused. Assumes nothing.
use Rattle.std.specs.Prelude.{◌≡◌, Bool, true, false, List, [], ◌∷◌, ℕ, suc, ◌+◌, ◌*◌, ◌/◌, ◌<◌, min, eqb, leb, length, get_or, take, drop, set}
use Rattle.sums.specs.Search.{pick}
use Rattle.book.specs.Words.{vol}
use Rattle.book.specs.Trees.{page_at}
use Rattle.book.specs.Entries.{file_entry}
use Rattle.book.specs.Files.{file_at}
use Rattle.book.specs.Image.{IndexArg}
use Rattle.book.specs.Rows.{end}
use Rattle.book.specs.Answers.{Numbers, HolderNumbers, holder_numbers}
use Rattle.book.specs.declared.Place.{Place}
use Rattle.book.specs.declared.Break.{Break}
use Rattle.book.specs.declared.Change.{Change}
use Rattle.book.specs.declared.Holder.{Holder}
use Rattle.book.specs.declared.Holder.TheVariants.{Free}
use Rattle.book.specs.Outcome.{Call, call, Outcome}
use Rattle.book.specs.Calls.{position_rows, who_call, salvage_call, repairs, repaired, Listed}
use Rattle.book.specs.Calls.{check_call, find_user_call, find_file_call, address_call, format_call, format_default_call, create_user_call, delete_user_call}
use Rattle.book.specs.Calls.{give_call, take_call, create_indexed_call, create_contiguous_call, grow_call, shrink_call, delete_file_call, write_call, open_call, to_apostrophe_call, to_zeros_call}

-- a step is ten numbers: 0 the call; 1 the user; 2 the file; 3 the page count, the position, the page or where a format's bit file begins; 4 the time of creation;
-- 5 and 6 where the name lies in the text, and its length; 7 and 8 the same of the type; 9 where a page's data lies in the words
abbrev pub step_of : List ℕ → ℕ → List ℕ
step_of steps k = take 10 (drop (k * 10) steps)

-- ---- the call that a step asks for

-- a call with an argument that is never right: refused with 1 or 2
unfoldable pub wrong_call : List ℕ → Call ℕ
wrong_call img = call img ⊥ end 0 (vol img)

abbrev pub pick_call : Bool → Call ℕ → Call ℕ → Call ℕ
pick_call true C D = C
pick_call false C D = D

-- a call with a part of a list, n long from a on; a part that does not lie in the list is a wrong argument
unfoldable pub part_call : List ℕ → ℕ → ℕ → List ℕ → (List ℕ → Call ℕ) → Call ℕ
part_call img a n l C = pick_call (leb (a + n) (length l)) (C (take n (drop a l))) (wrong_call img)

-- with a name, with a name and a type, with a page's data
unfoldable pub name_call : List ℕ → List ℕ → List ℕ → (List ℕ → Call ℕ) → Call ℕ
name_call img s text C = part_call img (get_or s 5 0) (get_or s 6 0) text C

unfoldable pub names_call : List ℕ → List ℕ → List ℕ → (List ℕ → List ℕ → Call ℕ) → Call ℕ
names_call img s text C = name_call img s text (λ name. part_call img (get_or s 7 0) (get_or s 8 0) text (C name))

unfoldable pub data_call : List ℕ → List ℕ → List ℕ → (List ℕ → Call ℕ) → Call ℕ
data_call img s words C = part_call img (get_or s 9 0) 1024 words C

-- read page: its value is where the page's 1,024 words begin in the image
unfoldable pub offset_call : List ℕ → ℕ → ℕ → ℕ → Call ℕ
offset_call img u f n =
    call img (IndexArg u × IndexArg f) (position_rows (vol img) u f n)
    (1024 * page_at (vol img) (file_at (vol img) (file_entry u f)) n) (vol img)

-- the call of a number, in the order of document 01's list of work and then of document 02, with user u, file f, count n and time of creation t;
-- any other number is a wrong argument
unfoldable pub numbered : ℕ → (u f n t : ℕ) → List ℕ → List ℕ → List ℕ → List ℕ → Call ℕ
numbered c u f n t img s text words =
    pick_call (eqb c 1) (name_call img s text (λ name. format_call img name n))
    (pick_call (eqb c 2) (check_call img)
    (pick_call (eqb c 3) (name_call img s text (find_user_call img))
    (pick_call (eqb c 4) (names_call img s text (find_file_call img u))
    (pick_call (eqb c 5) (address_call img u f n)
    (pick_call (eqb c 7) (name_call img s text (create_user_call img))
    (pick_call (eqb c 8) (delete_user_call img u)
    (pick_call (eqb c 9) (give_call img u n)
    (pick_call (eqb c 10) (take_call img u n)
    (pick_call (eqb c 11) (names_call img s text (λ name type. create_indexed_call img u name type t))
    (pick_call (eqb c 12) (names_call img s text (λ name type. create_contiguous_call img u name type t n))
    (pick_call (eqb c 13) (grow_call img u f)
    (pick_call (eqb c 14) (shrink_call img u f)
    (pick_call (eqb c 15) (delete_file_call img u f)
    (pick_call (eqb c 16) (offset_call img u f n)
    (pick_call (eqb c 17) (data_call img s words (write_call img u f n))
    (pick_call (eqb c 18) (open_call img u f)
    (pick_call (eqb c 19) (name_call img s text (format_default_call img))
    (pick_call (eqb c 20) (to_apostrophe_call img)
    (pick_call (eqb c 21) (to_zeros_call img)
    (wrong_call img))))))))))))))))))))

unfoldable pub step_call : List ℕ → List ℕ → List ℕ → List ℕ → Call ℕ
step_call img s text words = numbered (get_or s 0 0) (get_or s 1 0) (get_or s 2 0) (get_or s 3 0) (get_or s 4 0) img s text words

-- ---- what a step may come back with: the numbers of a reply, and the image and the list of changes afterwards

abbrev pub Result : Type 1
Result = Numbers ℕ → List ℕ → List ℕ → Type 0

-- a call whose value is a number leaves the list
pub record NumberResult (C : Call ℕ) (img list : List ℕ) (r : Numbers ℕ) (img' list' : List ℕ) : Type 0 where
  pub outcome : Outcome C img r img'
  pub kept : list' ≡ list

-- who holds a page: its value is no number; with done the first holder of the reply tells it
abbrev pub held_by : Holder → Break
held_by h = record { rule = 0; place = record { page = 0; word = 0 }; first = h; second = Free }

abbrev pub held_reply : Numbers Holder → Numbers ℕ
held_reply a = record { number = a.number; value = 0; broken = pick a.number a.broken (held_by a.value) }

pub record HolderResult (img list : List ℕ) (p : ℕ) (r : Numbers ℕ) (img' list' : List ℕ) : Type 0 where
  pub answer : Numbers Holder
  pub outcome : Outcome (who_call img p) img answer img'
  pub reply : r ≡ held_reply answer
  pub kept : list' ≡ list

-- salvage: a change is four numbers of the list, and there is room for as many as it has fours
unfoldable pub flat : List Change → List ℕ
flat [] = []
flat (c ∷ l) = c.page ∷ c.word ∷ c.old ∷ c.new ∷ flat l

pub record ChangesResult (img list : List ℕ) (r : Numbers ℕ) (img' list' : List ℕ) : Type 0 where
  pub outcome : Outcome (salvage_call img (length list / 4)) img r img'
  pub listed : Listed (flat (repairs img)) (4 * repaired img) r.number list list'

abbrev pub pick_result : Bool → Result → Result → Result
pick_result true R Q = R
pick_result false R Q = Q

-- 6 asks who holds the page that is the step's count, 22 salvages, and any other makes its call
unfoldable pub StepResult : (img list s text words : List ℕ) → Result
StepResult img list s text words =
    pick_result (eqb (get_or s 0 0) 6) (HolderResult img list (get_or s 3 0))
    (pick_result (eqb (get_or s 0 0) 22) (ChangesResult img list)
    (NumberResult (step_call img s text words) img list))

-- ---- a reply is thirteen numbers: 0 or the number of the refusal, the broken rule with 3, the value; the page and the word with 3;
-- and two holders, each by kind, user, file and position: with rule 8 the first two, and the page's if a step asked for it

abbrev pub put_three : List ℕ → ℕ → ℕ → ℕ → ℕ → List ℕ
put_three out at a b c = set (set (set out at a) (at + 1) b) (at + 2) c

abbrev pub put_four : List ℕ → ℕ → ℕ → ℕ → ℕ → ℕ → List ℕ
put_four out at a b c d = set (set (set (set out at a) (at + 1) b) (at + 2) c) (at + 3) d

abbrev pub put_place : List ℕ → ℕ → Place → List ℕ
put_place out at q = set (set out at q.page) (at + 1) q.word

abbrev pub put_holder : List ℕ → ℕ → HolderNumbers → List ℕ
put_holder out at h = put_four out at h.kind h.user h.file h.position

abbrev pub put_break : List ℕ → ℕ → Break → List ℕ
put_break out at b = put_holder (put_holder (put_place out at b.place) (at + 2) (holder_numbers b.first)) (at + 6) (holder_numbers b.second)

abbrev pub put_reply : List ℕ → ℕ → Numbers ℕ → List ℕ
put_reply out k r = put_break (put_three out (k * 13) r.number r.broken.rule r.value) (k * 13 + 3) r.broken

-- ---- the run

-- as many steps as there are, and as have room for a reply
abbrev pub limit : List ℕ → List ℕ → ℕ
limit steps out = min (length steps / 10) (length out / 13)

-- the first k steps were made and done, each on the image and the list that the one before left, and each has its reply
pub data Made (steps text words img₀ list₀ out₀ : List ℕ) : ℕ → List ℕ → List ℕ → List ℕ → Type 0 where
  none : Made steps text words img₀ list₀ out₀ 0 img₀ list₀ out₀
  more : {k : ℕ} {img img' list list' out : List ℕ} (r : Numbers ℕ) → Made steps text words img₀ list₀ out₀ k img list out
      → StepResult img list (step_of steps k) text words r img' list' → r.number ≡ 0
      → Made steps text words img₀ list₀ out₀ (suc k) img' list' (put_reply out k r)

-- a run made n steps: all there are, and all were done; or the last of them was refused
pub data Ran (steps text words img₀ list₀ out₀ : List ℕ) : ℕ → List ℕ → List ℕ → List ℕ → Type 0 where
  all : {n : ℕ} {img list out : List ℕ} → n ≡ limit steps out₀ → Made steps text words img₀ list₀ out₀ n img list out → Ran steps text words img₀ list₀ out₀ n img list out
  stopped : {k : ℕ} {img img' list list' out : List ℕ} (r : Numbers ℕ) → k < limit steps out₀ → Made steps text words img₀ list₀ out₀ k img list out
      → StepResult img list (step_of steps k) text words r img' list' → (r.number ≡ 0 → ⊥)
      → Ran steps text words img₀ list₀ out₀ (suc k) img' list' (put_reply out k r)
