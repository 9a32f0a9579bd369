-- The strand stands in a block, or comes to its end.
use Rattle.std.proofs.Common.{sym}
use Rattle.std.proofs.lemmas.Result.{on_ok_weaker}
use Rattle.cw_sim.proofs.InMemory.Moves.{dying_strand, may_roll, may_finish_dead, died_rolled, died_finished}
use Rattle.cw_sim.proofs.moves.Driver.die.Goals as goal

pub in_block-requires : goal.in_block-requires
in_block-requires c = dying_strand c.args.self.now c.args.w c.args.strand c.requires.0 c.requires.1

pub roll_back-requires : goal.roll_back-requires
roll_back-requires c = (c.requires.0, may_roll c.args.self.now c.args.w c.args.strand c.requires.0 c.requires.1 (sym c.if-in_block.ensures))

pub finish_strand-requires : goal.finish_strand-requires
finish_strand-requires c = (c.requires.0, may_finish_dead c.args.self.now c.args.w c.args.strand c.requires.0 c.requires.1 (sym c.if-in_block.ensures))

pub returns-then-in_block : goal.returns-then-in_block
returns-then-in_block c =
    on_ok_weaker c.roll_back.result (λ comes z may. died_rolled c.args.self.now c.args.w c.args.strand z may (sym c.if-in_block.ensures) c.roll_back.new.self (comes z)) c.roll_back.ensures

pub returns-else-in_block : goal.returns-else-in_block
returns-else-in_block c =
    on_ok_weaker c.finish_strand.result (λ comes z may. died_finished c.args.self.now c.args.w c.args.strand z may (sym c.if-in_block.ensures) c.finish_strand.new.self (comes z)) c.finish_strand.ensures
