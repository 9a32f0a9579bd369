use Rattle.cw_text.proofs.Headings.{heading_is, heading_named}
use Rattle.cw_text.proofs.ReadIsWritten.{read_is_written}
use Rattle.cw_text.proofs.WrittenIsRead.{written_is_read}
use Rattle.cw_text.proofs.read_is_written.Goals as goal

pub returns-clause-written : goal.returns-clause-written
returns-clause-written c = read_is_written

pub returns-clause-read : goal.returns-clause-read
returns-clause-read c = written_is_read

pub returns-clause-heading : goal.returns-clause-heading
returns-clause-heading c = heading_is

pub returns-clause-headed : goal.returns-clause-headed
returns-clause-headed c = heading_named
