use Rattle.sound.proofs.Told.{tells-role}
use Rattle.sound.proofs.numbers.role_of.Goals as goal

pub returns-in-Subindex : goal.returns-in-Subindex
returns-in-Subindex c = tells-role c.args.user c.args.file c.args.role _ c.of_file.result c.in-Subindex.is c.of_file.ensures

pub returns-in-Index : goal.returns-in-Index
returns-in-Index c = tells-role c.args.user c.args.file c.args.role _ c.of_file-in-Index.result c.in-Index.is c.of_file-in-Index.ensures

pub returns-in-Data : goal.returns-in-Data
returns-in-Data c = tells-role c.args.user c.args.file c.args.role _ c.of_file-in-Data.result c.in-Data.is c.of_file-in-Data.ensures
