use Rattle.std.proofs.Common.{refl, sym, rules}
use Rattle.std.proofs.lemmas.Option.{slice_get_read}
use Rattle.cw_serial.proofs.table.Table.put.Goals as goal

pub returns : goal.returns
returns g c = record {
  row = c.index_mut-row.result.now;
  here = slice_get_read c.args.self.now.rows.items _ c.args.number c.index_mut-row.result.now (search rules) c.requires c.index_mut-row.ensures.value;
  was = sym c.replace.ensures.value;
  names = refl;
  rows = rw c.replace.ensures.after refl;
}
