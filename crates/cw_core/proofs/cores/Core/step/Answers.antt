use Rattle.std.proofs.Common.{◌≡◌, refl, rules}
use Rattle.std.specs.Prelude.{OnOk}
use Rattle.cw_core.specs.Events.{after_event}
use Rattle.cw_core.specs.declared.event.Event.TheVariants as event
use Rattle.cw_core.proofs.Events.Stepping.{runs, stands, stands_after, chains, chains_after}
use Rattle.cw_core.proofs.cores.Core.step.Goals as goal

pub returns-in-Fork-clause-run : goal.returns-in-Fork-clause-run
returns-in-Fork-clause-run c = runs c.args.self.now c.hint.ensures c.args.event c.requires

pub returns-in-Fork-clause-stands : goal.returns-in-Fork-clause-stands
returns-in-Fork-clause-stands c = stands c.args.self.now c.hint.ensures c.args.event c.requires c.fork.result c.fork.new.self (event.Fork c.in-Fork.strand) c.in-Fork.is c.fork.ensures.ok c.fork.ensures.err

pub returns-in-Fork-clause-chains : goal.returns-in-Fork-clause-chains
returns-in-Fork-clause-chains c = chains c.args.self.now c.hint.ensures c.args.event c.requires c.fork.result c.fork.new.self (event.Fork c.in-Fork.strand) c.in-Fork.is c.fork.ensures.ok c.fork.ensures.err

pub returns-in-Begin-clause-run : goal.returns-in-Begin-clause-run
returns-in-Begin-clause-run c = runs c.args.self.now c.hint.ensures c.args.event c.requires

pub returns-in-Begin-clause-stands : goal.returns-in-Begin-clause-stands
returns-in-Begin-clause-stands c = stands c.args.self.now c.hint.ensures c.args.event c.requires c.begin.result c.begin.new.self (event.Begin c.in-Begin.strand) c.in-Begin.is c.begin.ensures.ok c.begin.ensures.err

pub returns-in-Begin-clause-chains : goal.returns-in-Begin-clause-chains
returns-in-Begin-clause-chains c = chains c.args.self.now c.hint.ensures c.args.event c.requires c.begin.result c.begin.new.self (event.Begin c.in-Begin.strand) c.in-Begin.is c.begin.ensures.ok c.begin.ensures.err

pub returns-in-Access-clause-run : goal.returns-in-Access-clause-run
returns-in-Access-clause-run c = runs c.args.self.now c.hint.ensures c.args.event c.requires

pub returns-in-Access-clause-stands : goal.returns-in-Access-clause-stands
returns-in-Access-clause-stands c = stands c.args.self.now c.hint.ensures c.args.event c.requires c.access.result c.access.new.self (event.Access c.in-Access.strand c.in-Access.cell c.in-Access.write) c.in-Access.is c.access.ensures.ok c.access.ensures.err

pub returns-in-Access-clause-chains : goal.returns-in-Access-clause-chains
returns-in-Access-clause-chains c = chains c.args.self.now c.hint.ensures c.args.event c.requires c.access.result c.access.new.self (event.Access c.in-Access.strand c.in-Access.cell c.in-Access.write) c.in-Access.is c.access.ensures.ok c.access.ensures.err

pub returns-in-Out-clause-run : goal.returns-in-Out-clause-run
returns-in-Out-clause-run c = runs c.args.self.now c.hint.ensures c.args.event c.requires

pub returns-in-Out-clause-stands : goal.returns-in-Out-clause-stands
returns-in-Out-clause-stands c =
    let ok : OnOk c.output.result (c.output.new.self ≡ after_event c.args.self.now c.args.event) = search rules in
    stands c.args.self.now c.hint.ensures c.args.event c.requires c.output.result c.output.new.self c.args.event refl ok c.output.ensures.err

pub returns-in-Out-clause-chains : goal.returns-in-Out-clause-chains
returns-in-Out-clause-chains c =
    let ok : OnOk c.output.result (c.output.new.self ≡ after_event c.args.self.now c.args.event) = search rules in
    chains c.args.self.now c.hint.ensures c.args.event c.requires c.output.result c.output.new.self c.args.event refl ok c.output.ensures.err

pub returns-in-Cancel-clause-run : goal.returns-in-Cancel-clause-run
returns-in-Cancel-clause-run c = runs c.args.self.now c.hint.ensures c.args.event c.requires

pub returns-in-Cancel-clause-stands : goal.returns-in-Cancel-clause-stands
returns-in-Cancel-clause-stands c = stands c.args.self.now c.hint.ensures c.args.event c.requires c.cancel.result c.cancel.new.self
    (event.Cancel c.in-Cancel.strand) c.in-Cancel.is c.cancel.ensures.ok c.cancel.ensures.err

pub returns-in-Cancel-clause-chains : goal.returns-in-Cancel-clause-chains
returns-in-Cancel-clause-chains c = chains c.args.self.now c.hint.ensures c.args.event c.requires c.cancel.result c.cancel.new.self
    (event.Cancel c.in-Cancel.strand) c.in-Cancel.is c.cancel.ensures.ok c.cancel.ensures.err

pub returns-in-Commit-clause-run : goal.returns-in-Commit-clause-run
returns-in-Commit-clause-run c = runs c.args.self.now c.hint.ensures c.args.event c.requires

pub returns-in-Commit-clause-stands : goal.returns-in-Commit-clause-stands
returns-in-Commit-clause-stands c = stands_after c.args.self.now c.hint.ensures c.args.event c.requires c.commit.new.self (event.Commit c.in-Commit.strand) c.in-Commit.is c.commit.ensures

pub returns-in-Commit-clause-chains : goal.returns-in-Commit-clause-chains
returns-in-Commit-clause-chains c = chains_after c.args.self.now c.hint.ensures c.args.event c.requires c.commit.new.self (event.Commit c.in-Commit.strand) c.in-Commit.is c.commit.ensures

pub returns-in-Roll-clause-run : goal.returns-in-Roll-clause-run
returns-in-Roll-clause-run c = runs c.args.self.now c.hint.ensures c.args.event c.requires

pub returns-in-Roll-clause-stands : goal.returns-in-Roll-clause-stands
returns-in-Roll-clause-stands c = stands_after c.args.self.now c.hint.ensures c.args.event c.requires c.roll.new.self (event.Roll c.in-Roll.strand) c.in-Roll.is c.roll.ensures

pub returns-in-Roll-clause-chains : goal.returns-in-Roll-clause-chains
returns-in-Roll-clause-chains c = chains_after c.args.self.now c.hint.ensures c.args.event c.requires c.roll.new.self (event.Roll c.in-Roll.strand) c.in-Roll.is c.roll.ensures

pub returns-in-Finish-clause-run : goal.returns-in-Finish-clause-run
returns-in-Finish-clause-run c = runs c.args.self.now c.hint.ensures c.args.event c.requires

pub returns-in-Finish-clause-stands : goal.returns-in-Finish-clause-stands
returns-in-Finish-clause-stands c = stands c.args.self.now c.hint.ensures c.args.event c.requires c.finish.result c.finish.new.self (event.Finish c.in-Finish.strand c.in-Finish.dead) c.in-Finish.is c.finish.ensures.ok c.finish.ensures.err

pub returns-in-Finish-clause-chains : goal.returns-in-Finish-clause-chains
returns-in-Finish-clause-chains c = chains c.args.self.now c.hint.ensures c.args.event c.requires c.finish.result c.finish.new.self (event.Finish c.in-Finish.strand c.in-Finish.dead) c.in-Finish.is c.finish.ensures.ok c.finish.ensures.err

pub returns-in-Split-clause-stands : goal.returns-in-Split-clause-stands
returns-in-Split-clause-stands c = stands c.args.self.now c.hint.ensures c.args.event c.requires c.split.result c.split.new.self (event.Split c.in-Split.fork) c.in-Split.is c.split.ensures.ok c.split.ensures.err

pub returns-in-Split-clause-chains : goal.returns-in-Split-clause-chains
returns-in-Split-clause-chains c = chains c.args.self.now c.hint.ensures c.args.event c.requires c.split.result c.split.new.self (event.Split c.in-Split.fork) c.in-Split.is c.split.ensures.ok c.split.ensures.err

pub returns-in-Join-clause-stands : goal.returns-in-Join-clause-stands
returns-in-Join-clause-stands c = stands c.args.self.now c.hint.ensures c.args.event c.requires c.join.result c.join.new.self (event.Join c.in-Join.fork) c.in-Join.is c.join.ensures.ok c.join.ensures.err

pub returns-in-Join-clause-chains : goal.returns-in-Join-clause-chains
returns-in-Join-clause-chains c = chains c.args.self.now c.hint.ensures c.args.event c.requires c.join.result c.join.new.self (event.Join c.in-Join.fork) c.in-Join.is c.join.ensures.ok c.join.ensures.err

pub returns-in-Stop-clause-run : goal.returns-in-Stop-clause-run
returns-in-Stop-clause-run c = runs c.args.self.now c.hint.ensures c.args.event c.requires

pub returns-in-Stop-clause-stands : goal.returns-in-Stop-clause-stands
returns-in-Stop-clause-stands c = stands_after c.args.self.now c.hint.ensures c.args.event c.requires c.stop.new.self (event.Stop c.in-Stop.halt) c.in-Stop.is c.stop.ensures

pub returns-in-Stop-clause-chains : goal.returns-in-Stop-clause-chains
returns-in-Stop-clause-chains c = chains_after c.args.self.now c.hint.ensures c.args.event c.requires c.stop.new.self (event.Stop c.in-Stop.halt) c.in-Stop.is c.stop.ensures
