use Rattle.cw_code.proofs.TableRows.{row_found}
use Rattle.cw_code.proofs.table.row_at.Goals as goal

pub returns : goal.returns
returns c = row_found c.args.op c.look_up.result c.look_up.ensures.found c.look_up.ensures.none
