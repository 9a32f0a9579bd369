use Rattle.std.proofs.Common.{refl, sym, ◌∙◌}
use Rattle.cw_race.specs.declared.search.Search.{Search}
use Rattle.cw_race.proofs.Noting.{no_value, noted_known, noted_finds}
use Rattle.cw_race.proofs.search.Search.note.Goals as goal

pub returns-then-contains_key-clause-noted : goal.returns-then-contains_key-clause-noted
returns-then-contains_key-clause-noted g c = noted_known c.args.pairs.now c.args.group c.args.node c.args.writes c.args.self.now (sym c.contains_key.ensures ∙ c.if-contains_key.true)

pub returns-in_ok-insert-clause-noted : goal.returns-in_ok-insert-clause-noted
returns-in_ok-insert-clause-noted g c =
    let new : Search = record { kept = c.args.self.now.kept; found = c.insert.new.self } in
    noted_finds c.args.pairs.now c.args.group c.args.node c.args.writes c.args.self.now (no_value _ (sym c.contains_key.ensures ∙ c.if-contains_key.false)) c.kept_of-kept.result c.kept_of-kept.ensures
    c.take.result c.take.ensures.rival c.in-Some.first c.in-Some.is new refl c.in_ok-insert.ensures.updates
