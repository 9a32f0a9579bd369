use Rattle.std.proofs.Common.{arith, sym}
use Rattle.cw_record.proofs.Plain.Passing.{undone_kept, undone_new, undone_none}
use Rattle.cw_record.proofs.passing.undone_at.Goals as goal

pub returns-then-before-parent : goal.returns-then-before-parent
returns-then-before-parent c =
    undone_kept c.args.tree.now c.parent.ensures.numbered c.args.n c.requires.child c.requires.there c.requires.hangs c.args.before c.requires.before (omega (arith, c.parent.ensures.parent))

pub returns-then-is_aborted : goal.returns-then-is_aborted
returns-then-is_aborted c =
    undone_new c.args.tree.now c.parent.ensures.numbered c.args.n c.requires.child c.requires.there c.requires.hangs c.args.before c.requires.before (omega (arith, c.parent.ensures.parent))

pub returns-else-is_aborted : goal.returns-else-is_aborted
returns-else-is_aborted c =
    undone_none c.args.tree.now c.parent.ensures.numbered c.args.n c.requires.child c.requires.there c.requires.hangs c.args.before c.requires.before (omega (arith, c.parent.ensures.parent)) (sym c.if-is_aborted.ensures)
