-- `making::entry::put_numbers` meets its contract. Assumes nothing.
use Rattle.making.proofs.Fields.{numbered_is}
use Rattle.making.proofs.entry.put_numbers.Goals as goal

pub returns : goal.returns
returns c =
    λ x w h. numbered_is x c.args.q c.args.k w _ _ _ _ _ _ _ c.args.u c.args.e c.args.created c.args.n c.args.ptr
    c.put_word.ensures c.put_word-2.ensures c.put_two.ensures c.put_two-2.ensures c.put_two-3.ensures c.put_two-4.ensures h
