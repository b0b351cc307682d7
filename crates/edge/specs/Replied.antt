-- What a C caller is told: the structs of numbers that the exported calls give back, against the book's calls. Assumes nothing.
use Rattle.std.specs.Prelude.{◌≡◌, List, ℕ, ◌*◌}
use Rattle.book.specs.Answers.{Numbers, holder_numbers}
use Rattle.book.specs.Outcome.{Call, Outcome}
use Rattle.book.specs.declared.Holder.{Holder}
use Rattle.book.specs.declared.Place.{Place}
use Rattle.book.specs.declared.Break.{Break}
use Rattle.sound.specs.declared.numbers.HolderNumbers.{HolderNumbers}
use Rattle.sound.specs.Told.{Tells}
use Rattle.edge.specs.declared.spell.Place.{Place as Spot}
use Rattle.edge.specs.declared.spell.Reply.{Reply}
use Rattle.edge.specs.declared.spell.HolderReply.{HolderReply}
use Rattle.edge.specs.declared.spell.Part.{Part}

-- the place, in two numbers
abbrev pub SamePlace : Place → Spot → Type 0
SamePlace p q = (q.page ≡ p.page) × (q.word ≡ p.word)

-- what is broken: the rule, the place, and two holders in four numbers each
abbrev pub Breaks : Break → ℕ → Spot → HolderNumbers → HolderNumbers → Type 0
Breaks b x q g h = (x ≡ b.rule) × SamePlace b.place q × Tells g (holder_numbers b.first) × Tells h (holder_numbers b.second)

-- a reply that spells these numbers
abbrev pub Spelled : Numbers ℕ → Reply → Type 0
Spelled n r = (r.number ≡ n.number) × (r.value ≡ n.value) × Breaks n.broken r.rule r.place r.first r.second

-- a call whose value is a number: the reply spells an outcome of the call
unfoldable pub Replied : Call ℕ → List ℕ → Reply → List ℕ → Type 0
Replied C img r img' = (n : Numbers ℕ) × Outcome C img n img' × Spelled n r

-- a reply of who-holds that spells these numbers, the holder in its own
abbrev pub HeldAs : Numbers Holder → HolderReply → Type 0
HeldAs n r = (r.number ≡ n.number) × Tells r.holder (holder_numbers n.value) × Breaks n.broken r.rule r.place r.first r.second

-- who-holds: the reply spells an outcome of the call, which leaves the image
unfoldable pub Held : Call Holder → List ℕ → HolderReply → Type 0
Held C img r = (n : Numbers Holder) × Outcome C img n img × HeldAs n r

-- the part is the page of the value, or empty with a refusal
abbrev pub Placed : Numbers ℕ → Part → Type 0
Placed n r = (n.number ≡ 0 → (r.offset ≡ 1024 * n.value) × (r.length ≡ 1024)) × ((n.number ≡ 0 → ⊥) → (r.offset ≡ 0) × (r.length ≡ 0))

-- read page: the part lies where an outcome of the address call says
unfoldable pub Lies : Call ℕ → List ℕ → Part → Type 0
Lies C img r = (n : Numbers ℕ) × Outcome C img n img × Placed n r
