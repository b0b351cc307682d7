-- Any sequence of calls, with any arguments, keeps a sound image sound. Assumes nothing.
use Rattle.std.specs.Prelude.{◌≡◌, refl, List, [], ◌∷◌, ℕ}
use Rattle.std.proofs.Common.{sym, subst, ◌∙◌, inl, inr}
use Rattle.book.specs.Words.{vol}
use Rattle.book.specs.Rules.{Sound}
use Rattle.book.specs.Answers.{Numbers}
use Rattle.book.specs.Image.{pages}
use Rattle.book.specs.Outcome.{Call, call, asking, Outcome}
use Rattle.book.specs.Coincide.{vol-ext}
use Rattle.book.specs.Format.{middle}
use Rattle.book.specs.Calls.{
  check_call,
  find_user_call,
  find_file_call,
  address_call,
  who_call,
  read_call,
  format_call,
  format_default_call,
  create_user_call,
  delete_user_call,
  give_call,
  take_call,
  create_indexed_call,
  create_contiguous_call,
  grow_call,
  shrink_call,
  delete_file_call,
  write_call,
  open_call,
  to_apostrophe_call,
  to_zeros_call,
  salvage_call,
}
use Rattle.book.specs.Names.{apostrophe}
use Rattle.book.specs.declared.Holder.{Holder}
use Rattle.laws.specs.Call.Open.{kept-open}
use Rattle.laws.specs.Call.Write.{kept-write}
use Rattle.laws.specs.Convert.Call.{kept-convert}
use Rattle.laws.specs.Create.FileCall.{kept-create-indexed, kept-create-contiguous}
use Rattle.laws.specs.Create.UserCall.{kept-create-user}
use Rattle.laws.specs.Delete.FileCall.{kept-delete-file}
use Rattle.laws.specs.Delete.User.{kept-delete-user}
use Rattle.laws.specs.File.Stored.{ends-zero, ends-apostrophe}
use Rattle.laws.specs.Format.Call.{kept-format}
use Rattle.laws.specs.Grow.Call.{kept-grow}
use Rattle.laws.specs.Salvage.Call.{kept-salvage}
use Rattle.laws.specs.Shrink.Call.{kept-shrink}
use Rattle.laws.specs.User.Give.{kept-give, kept-take}

-- the six calls that only ask, with their arguments
pub data Question : Type 0 where
  check : Question
  find_user : (name : List ℕ) → Question
  find_file : (u : ℕ) (name type : List ℕ) → Question
  address : (u f n : ℕ) → Question
  who_holds : (p : ℕ) → Question
  read_page : (u f n : ℕ) → Question

-- the twenty-one calls, with their arguments; a format by default too
pub data Step : Type 0 where
  asks : Question → Step
  formats : (name : List ℕ) (b : ℕ) → Step
  formats_default : (name : List ℕ) → Step
  creates_user : (name : List ℕ) → Step
  deletes_user : (u : ℕ) → Step
  gives : (u n : ℕ) → Step
  takes : (u n : ℕ) → Step
  creates_indexed : (u : ℕ) (name type : List ℕ) (created : ℕ) → Step
  creates_contiguous : (u : ℕ) (name type : List ℕ) (created n : ℕ) → Step
  grows : (u f : ℕ) → Step
  shrinks : (u f : ℕ) → Step
  deletes_file : (u f : ℕ) → Step
  writes : (u f n : ℕ) (d : List ℕ) → Step
  opens : (u f : ℕ) → Step
  converts_to_apostrophe : Step
  converts_to_zeros : Step
  salvages : (room : ℕ) → Step

-- the book's call on an image, after the type of its value
abbrev pub asked : Question → List ℕ → (A : Type 0) × Call A
asked check img = (ℕ, check_call img)
asked (find_user name) img = (ℕ, find_user_call img name)
asked (find_file u name type) img = (ℕ, find_file_call img u name type)
asked (address u f n) img = (ℕ, address_call img u f n)
asked (who_holds p) img = (Holder, who_call img p)
asked (read_page u f n) img = (List ℕ, read_call img u f n)

abbrev pub made : Step → List ℕ → (A : Type 0) × Call A
made (asks q) img = asked q img
made (formats name b) img = (ℕ, format_call img name b)
made (formats_default name) img = (ℕ, format_default_call img name)
made (creates_user name) img = (ℕ, create_user_call img name)
made (deletes_user u) img = (ℕ, delete_user_call img u)
made (gives u n) img = (ℕ, give_call img u n)
made (takes u n) img = (ℕ, take_call img u n)
made (creates_indexed u name type created) img = (ℕ, create_indexed_call img u name type created)
made (creates_contiguous u name type created n) img = (ℕ, create_contiguous_call img u name type created n)
made (grows u f) img = (ℕ, grow_call img u f)
made (shrinks u f) img = (ℕ, shrink_call img u f)
made (deletes_file u f) img = (ℕ, delete_file_call img u f)
made (writes u f n d) img = (ℕ, write_call img u f n d)
made (opens u f) img = (ℕ, open_call img u f)
made converts_to_apostrophe img = (ℕ, to_apostrophe_call img)
made converts_to_zeros img = (ℕ, to_zeros_call img)
made (salvages room) img = (ℕ, salvage_call img room)

-- from an image to the image after one call, whatever it came back with
abbrev pub Calling : Step → List ℕ → List ℕ → Type 0
Calling s img img' = (r : Numbers (made s img).0) × Outcome (made s img).1 img r img'

-- one call after the other
unfoldable pub Calls : List Step → List ℕ → List ℕ → Type 0
Calls [] img img' = img' ≡ img
Calls (s ∷ l) img img' = (next : List ℕ) × Calling s img next × Calls l next img'

-- ---- laws

-- a call that leaves the volume leaves the image
left : {A : Type 0} (C : Call A) (img img' : List ℕ) (r : Numbers A) → C.after ≡ vol img → Outcome C img r img' → img' ≡ img
unfolding Outcome
left C img img' r e (inl x) = x.image
left C img img' r e (inr x) = vol-ext img' img x.size (x.image ∙ e)

-- so asking does
pub asks-left : (q : Question) (img img' : List ℕ) → Calling (asks q) img img' → img' ≡ img
unfolding check_call find_user_call find_file_call address_call who_call read_call call asking
asks-left check img img' (r, o) = left (check_call img) img img' r refl o
asks-left (find_user name) img img' (r, o) = left (find_user_call img name) img img' r refl o
asks-left (find_file u name type) img img' (r, o) = left (find_file_call img u name type) img img' r refl o
asks-left (address u f n) img img' (r, o) = left (address_call img u f n) img img' r refl o
asks-left (who_holds p) img img' (r, o) = left (who_call img p) img img' r refl o
asks-left (read_page u f n) img img' (r, o) = left (read_call img u f n) img img' r refl o

kept-left : (img img' : List ℕ) → img' ≡ img → Sound (pages img) (vol img) → Sound (pages img') (vol img')
kept-left img img' e = subst (λ (i : List ℕ). Sound (pages i) (vol i)) (sym e)

pub kept-one : (s : Step) (img img' : List ℕ) → Calling s img img' → Sound (pages img) (vol img) → Sound (pages img') (vol img')
kept-one (asks q) img img' c = kept-left img img' (asks-left q img img' c)
kept-one (formats name b) img img' (r, o) = kept-format img name b r img' o
kept-one (formats_default name) img img' (r, o) = kept-format img name (middle (pages img)) r img' o
kept-one (creates_user name) img img' (r, o) = kept-create-user img name r img' o
kept-one (deletes_user u) img img' (r, o) = kept-delete-user img u r img' o
kept-one (gives u n) img img' (r, o) = kept-give img u n r img' o
kept-one (takes u n) img img' (r, o) = kept-take img u n r img' o
kept-one (creates_indexed u name type created) img img' (r, o) = kept-create-indexed img u name type created r img' o
kept-one (creates_contiguous u name type created n) img img' (r, o) = kept-create-contiguous img u name type created n r img' o
kept-one (grows u f) img img' (r, o) = kept-grow img u f r img' o
kept-one (shrinks u f) img img' (r, o) = kept-shrink img u f r img' o
kept-one (deletes_file u f) img img' (r, o) = kept-delete-file img u f r img' o
kept-one (writes u f n d) img img' (r, o) = kept-write img u f n d r img' o
kept-one (opens u f) img img' (r, o) = kept-open img u f r img' o
kept-one converts_to_apostrophe img img' (r, o) = kept-convert 0 apostrophe ends-apostrophe img r img' o
kept-one converts_to_zeros img img' (r, o) = kept-convert apostrophe 0 ends-zero img r img' o
kept-one (salvages room) img img' (r, o) = kept-salvage img room r img' o

pub kept-all : (l : List Step) (img img' : List ℕ) → Calls l img img' → Sound (pages img) (vol img) → Sound (pages img') (vol img')
unfolding Calls
kept-all [] img img' e S = kept-left img img' e S
kept-all (s ∷ l) img img' (next, c, cs) S = kept-all l next img' cs (kept-one s img next c S)
