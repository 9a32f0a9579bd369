-- Strands can have done what a tree tells exactly if the strand of main fits it.
use Rattle.std.proofs.Common.{ℕ, List}
use Rattle.cw_strand.specs.Strands.{Strands}
use Rattle.cw_tree.specs.declared.node.Node.{Node}
use Rattle.cw_record.specs.declared.record_end.RecordEnd.{RecordEnd}
use Rattle.cw_record.specs.declared.record_end.RecordEnd.TheVariants.{Finished, Fault, Budget, Moves}
use Rattle.cw_record.specs.Coherent.{EndStands}
use Rattle.cw_audit.specs.Settled.{ClosesBlocks, StatesAreSettled}
use Rattle.cw_audit.proofs.Settling.Following.{main_fits}
use Rattle.cw_audit.proofs.Settling.Choosing.{can_follow}

closes_blocks : {A : Type 0} (s : Strands A) (t : List Node) (before after reached : ℕ → A) (e : RecordEnd) → EndStands s t before after reached e → ClosesBlocks t e
closes_blocks s t before after reached (Finished memory outputs) x = x.0
closes_blocks s t before after reached (Fault y kind) x = tt
closes_blocks s t before after reached (Budget y) x = tt
closes_blocks s t before after reached Moves x = tt

pub states_are_settled : {A : Type 0} (s : Strands A) → StatesAreSettled s
states_are_settled s t e tree named = (
  λ (before, after, reached, follows, stands). (closes_blocks s t before after reached e stands, main_fits s t e tree before after reached follows stands),
  λ (closes, main). can_follow s t e tree named closes main,
)
