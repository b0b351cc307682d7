use Rattle.sound.proofs.Told.{tells-holder}
use Rattle.sound.proofs.numbers.holder_of.Goals as goal

pub returns-in-Free : goal.returns-in-Free
returns-in-Free c = tells-holder c.args.h _ c.system.result c.in-Free.is c.system.ensures

pub returns-in-Master : goal.returns-in-Master
returns-in-Master c = tells-holder c.args.h _ c.system-in-Master.result c.in-Master.is c.system-in-Master.ensures

pub returns-in-BitFile : goal.returns-in-BitFile
returns-in-BitFile c = tells-holder c.args.h _ c.system-in-BitFile.result c.in-BitFile.is c.system-in-BitFile.ensures

pub returns-in-UserIndex : goal.returns-in-UserIndex
returns-in-UserIndex c = tells-holder c.args.h _ c.system-in-UserIndex.result c.in-UserIndex.is c.system-in-UserIndex.ensures

pub returns-in-UserPage : goal.returns-in-UserPage
returns-in-UserPage c = tells-holder c.args.h _ c.system-in-UserPage.result c.in-UserPage.is c.system-in-UserPage.ensures

pub returns-in-ObjectSubindex : goal.returns-in-ObjectSubindex
returns-in-ObjectSubindex c = tells-holder c.args.h _ c.system-in-ObjectSubindex.result c.in-ObjectSubindex.is c.system-in-ObjectSubindex.ensures

pub returns-in-ObjectIndex : goal.returns-in-ObjectIndex
returns-in-ObjectIndex c = tells-holder c.args.h _ c.system-in-ObjectIndex.result c.in-ObjectIndex.is c.system-in-ObjectIndex.ensures

pub returns-in-ObjectPage : goal.returns-in-ObjectPage
returns-in-ObjectPage c = tells-holder c.args.h _ c.system-in-ObjectPage.result c.in-ObjectPage.is c.system-in-ObjectPage.ensures

pub returns-in-File : goal.returns-in-File
returns-in-File c = tells-holder c.args.h _ c.file_of.result c.in-File.is c.file_of.ensures
