use Rattle.std.proofs.Common.{refl, rules}
use Rattle.cw_serial.specs.declared.table.Place.TheVariants.{Stands}
use Rattle.cw_serial.proofs.table.Table.start.Goals as goal

pub returns : goal.returns
returns g c = record {
  row = record { place = Stands c.args.strand; forks = c.new.result };
  place = refl;
  forks = c.new.ensures.items;
  names = search rules;
  rows = search rules;
}
