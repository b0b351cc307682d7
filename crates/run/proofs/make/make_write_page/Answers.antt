use Rattle.run.proofs.Parts.{data-out, data-in}
use Rattle.run.proofs.make.make_write_page.Goals as goal

pub returns-in_default : goal.returns-in_default
returns-in_default c = data-out _ _ _ _ _ c.page_words.result c.page_words.ensures _ c.in_default.is c.wrong.ensures

pub returns : goal.returns
returns c = data-in _ _ _ _ _ c.page_words.result c.page_words.ensures _ c.in-Some.«data» c.in-Some.is c.write_page.ensures
