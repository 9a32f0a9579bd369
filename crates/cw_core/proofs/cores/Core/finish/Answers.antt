use Rattle.std.proofs.Common.{◌≡◌, arith, true}
use Rattle.cw_core.specs.Events.{fits}
use Rattle.cw_core.specs.InMemory.{state_of}
use Rattle.cw_core.specs.declared.event.Event.TheVariants as event
use Rattle.cw_core.proofs.InMemory.Out.{seen, running_there, runs_finish, finish_kept}
use Rattle.cw_core.proofs.cores.Core.finish.Goals as goal

pub finish_row-requires : goal.finish_row-requires
finish_row-requires c =
    let fit = seen c.self.inside c.args.self.now (λ k. fits k (event.Finish c.args.strand c.args.dead) ≡ true) c.self.view_is c.requires in
    let low = running_there (state_of c.self.inside).machine c.args.strand (runs_finish (state_of c.self.inside) c.args.strand c.args.dead fit) in
    omega (arith, low, c.self.invariant.rowed.len)

pub invariant_of-self-2 : goal.invariant_of-self-2
invariant_of-self-2 c =
    let fit = seen c.self.inside c.args.self.now (λ k. fits k (event.Finish c.args.strand c.args.dead) ≡ true) c.self.view_is c.requires in
    finish_kept c.self.inside c.self.invariant c.args.strand c.args.dead fit (record c.self.inside { finished = c.push.new.self; rows = c.finish_row.new.table }) c.in_ok-push.ensures.ok c.finish_row.ensures
