-- From the answers of the calls to what a C caller is told. Assumes nothing.
use mathlib.Core.List.{List}
use Prim.Native.Nat.{ℕ}
use Rattle.book.specs.Answers.{Numbers}
use Rattle.book.specs.Outcome.{Call, Outcome}
use Rattle.book.specs.declared.Holder.{Holder}
use Rattle.edge.specs.Replied.{Replied, Spelled, Held, HeldAs, Placed, Lies}
use Rattle.edge.specs.declared.spell.Reply.{Reply}
use Rattle.edge.specs.declared.spell.HolderReply.{HolderReply}
use Rattle.edge.specs.declared.spell.Part.{Part}

pub replied : (C : Call ℕ) (img img' : List ℕ) (n : Numbers ℕ) (r : Reply) → Outcome C img n img' → Spelled n r → Replied C img r img'
unfolding Replied
replied C img img' n r o s = (n, o, s)

pub held : (C : Call Holder) (img : List ℕ) (n : Numbers Holder) (r : HolderReply) → Outcome C img n img → HeldAs n r → Held C img r
unfolding Held
held C img n r o s = (n, o, s)

pub lies : (C : Call ℕ) (img : List ℕ) (n : Numbers ℕ) (r : Part) → Outcome C img n img → Placed n r → Lies C img r
unfolding Lies
lies C img n r o s = (n, o, s)
