use Rattle.run.specs.Asked.{named_call}
use Rattle.run.proofs.Parts.{name_out, name_in}
use Rattle.run.proofs.make.make_named.Goals as goal

pub returns-in_default : goal.returns-in_default
returns-in_default c = name_out _ _ _ _ _ c.name.result c.name.ensures _ c.in_default.is c.wrong.ensures

pub returns-in-Format : goal.returns-in-Format
returns-in-Format c = name_in _ _ _ _ _ c.name.result c.name.ensures (named_call c.args.img.now c.args.at c.args.call) c.in-Some.name c.in-Some.is (rw c.in-Format.is c.format.ensures)

pub returns-in-FormatDefault : goal.returns-in-FormatDefault
returns-in-FormatDefault c = name_in _ _ _ _ _ c.name.result c.name.ensures (named_call c.args.img.now c.args.at c.args.call) c.in-Some.name c.in-Some.is (rw c.in-FormatDefault.is c.format_default.ensures)

pub returns-in-FindUser : goal.returns-in-FindUser
returns-in-FindUser c = name_in _ _ _ _ _ c.name.result c.name.ensures (named_call c.args.img.now c.args.at c.args.call) c.in-Some.name c.in-Some.is (rw c.in-FindUser.is c.find_user.ensures)

pub returns-in-CreateUser : goal.returns-in-CreateUser
returns-in-CreateUser c = name_in _ _ _ _ _ c.name.result c.name.ensures (named_call c.args.img.now c.args.at c.args.call) c.in-Some.name c.in-Some.is (rw c.in-CreateUser.is c.create_user.ensures)
