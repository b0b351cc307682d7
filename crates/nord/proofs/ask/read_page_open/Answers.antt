use Rattle.book.specs.Calls.{read_call, position_rows, part_at}
use Rattle.nord.proofs.Part.{gives-refused, gives-done}
use Rattle.nord.proofs.Halves.{refl, ap, ◌∙◌, inl, rules, Lowest, Clear, Missing}
use Rattle.nord.proofs.ask.read_page_open.Goals as goal

pub returns-then-not-has_position : goal.returns-then-not-has_position
unfolding read_call position_rows Lowest
returns-then-not-has_position c = gives-refused _ _ _ _ _ _ c.requires Missing tt (inl (refl, search rules)) _ c.empty.ensures

pub returns : goal.returns
unfolding read_call position_rows Clear
returns c = gives-done _ _ _ _ _ _ c.requires (search rules, tt) _ (c.page_part.ensures ∙ ap (part_at _) c.address.ensures.0) refl
