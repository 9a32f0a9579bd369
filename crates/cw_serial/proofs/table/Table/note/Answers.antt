use Rattle.std.proofs.Common.{◌≡◌, refl, rules, arith, length, vec_len, ap}
use Rattle.std.proofs.lemmas.Option.{slice_get_read}
use Rattle.std.proofs.lemmas.List.{length_push}
use Rattle.cw_serial.proofs.table.Table.note.Goals as goal

pub returns : goal.returns
returns g c = record {
  row = c.index_mut-row.result.now;
  here = slice_get_read c.args.self.now.rows.items _ c.args.number c.index_mut-row.result.now (search rules) c.requires c.index_mut-row.ensures.value;
  more = record c.index_mut-row.result.now { forks = c.push.new.self };
  place = refl;
  forks = search rules;
  number =
      let len : vec_len c.push.new.self ≡ length c.push.new.self.items = search rules in
      let more = length_push c.index_mut-row.result.now.forks.items c.args.sides in
      let items = ap length c.in_ok-push.ensures.items in
      omega (arith, c.in-Ok.ensures, c.len.ensures);
  names = refl;
  rows = refl;
}
