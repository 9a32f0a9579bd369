use Rattle.std.proofs.Common.{refl}
use Rattle.cw_text.specs.Printed.{printed}
use Rattle.cw_text.proofs.Lines.{program_of-same}
use Rattle.cw_text.proofs.PrintedIsWritten.{printed_is_written}
use Rattle.cw_text.proofs.ReadPrograms.{text_is_readable}
use Rattle.cw_text.proofs.WrittenIsRead.{written_is_read}
use Rattle.cw_text.proofs.WrittenIsReadable.{read_is_readable}
use Rattle.cw_text.proofs.printed_is_read.Goals as goal

pub returns-clause-read : goal.returns-clause-read
returns-clause-read c = λ ds h. written_is_read (printed ds) ds (printed_is_written ds h)

pub returns-clause-readable : goal.returns-clause-readable
returns-clause-readable c = read_is_readable

pub returns-clause-texts : goal.returns-clause-texts
returns-clause-texts c = λ newest text s known h. written_is_read (printed s.items) s.items (printed_is_written s.items (text_is_readable newest 1048576 text s known h).readable)

pub returns-clause-lines : goal.returns-clause-lines
returns-clause-lines c = program_of-same

pub returns-clause-worked : goal.returns-clause-worked
returns-clause-worked c = refl
