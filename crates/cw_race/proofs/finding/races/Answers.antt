use Rattle.std.proofs.Common.{[]}
use Rattle.cw_record.specs.Items.{place_of_end}
use Rattle.cw_record.proofs.OneWorker.NoneAborted.{none_aborted}
use Rattle.cw_race.proofs.Listing.{listed_races}
use Rattle.cw_race.proofs.finding.races.Goals as goal

pub look_through-requires-clause-live : goal.look_through-requires-clause-live
look_through-requires-clause-live g c =
    let t = c.args.kept.now.tree in
    none_aborted t (place_of_end t [] 0 c.args.kept.now.end) c.requires.blocks

pub returns-clause-races : goal.returns-clause-races
returns-clause-races g c = listed_races c.args.kept.now.tree c.in_ok-search.search.found c.in_ok-search.ensures.found c.races.result (λ v. v.items) c.races.ensures.ordered c.races.ensures.races
