use lib.ListN.{get_or}
use Rattle.run.specs.Asked.{typed_call}
use Rattle.run.proofs.Parts.{names-out, type-out, names_in}
use Rattle.run.proofs.make.make_typed.Goals as goal

pub returns-in_default : goal.returns-in_default
returns-in_default c = names-out _ _ _ _ _ c.name.result c.name.ensures _ c.in_default.is c.wrong.ensures

pub returns-in-FindFile : goal.returns-in-FindFile
returns-in-FindFile c =
    names_in _ _ _ _ _ c.name.result c.name.ensures c.in-Some.name c.in-Some.is (typed_call c.args.img.now c.args.user c.args.count (get_or c.args.step.now 4 0) c.args.call)
    c.kind.result c.kind.ensures c.in-Some-kind.kind c.in-Some-kind.is (rw c.in-FindFile.is c.find_file.ensures)

pub returns-in-CreateIndexed : goal.returns-in-CreateIndexed
returns-in-CreateIndexed c =
    names_in _ _ _ _ _ c.name.result c.name.ensures c.in-Some.name c.in-Some.is (typed_call c.args.img.now c.args.user c.args.count (get_or c.args.step.now 4 0) c.args.call)
    c.kind.result c.kind.ensures c.in-Some-kind.kind c.in-Some-kind.is (rw (c.in-CreateIndexed.is, ← c.created-time.ensures) c.create_indexed.ensures)

pub returns-in-CreateContiguous : goal.returns-in-CreateContiguous
returns-in-CreateContiguous c =
    names_in _ _ _ _ _ c.name.result c.name.ensures c.in-Some.name c.in-Some.is (typed_call c.args.img.now c.args.user c.args.count (get_or c.args.step.now 4 0) c.args.call)
    c.kind.result c.kind.ensures c.in-Some-kind.kind c.in-Some-kind.is (rw (c.in-CreateContiguous.is, ← c.created-time.ensures) c.create_contiguous.ensures)

pub returns-in_default-kind : goal.returns-in_default-kind
returns-in_default-kind c = type-out _ _ _ _ _ c.name.result c.name.ensures c.in-Some.name c.in-Some.is _ c.kind.result c.kind.ensures c.in_default-kind.is c.wrong-in_default-kind.ensures
