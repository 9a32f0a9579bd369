use Rattle.std.proofs.Common.{◌≡◌, true, not, ap, ◌∙◌, rules}
use Rattle.cw_tree.specs.Nodes.{is_fork}
use Rattle.cw_sheet.specs.Reading.{hangs_well}
use Rattle.cw_sheet.proofs.Placed.{misplaced_fork}
use Rattle.cw_sheet.proofs.judging.is_misplaced.Goals as goal

pub returns-then-is_fork : goal.returns-then-is_fork
returns-then-is_fork c =
    let h : hangs_well c.args.nodes.now c.args.n ≡ true = search rules in
    let f : is_fork c.args.nodes.now c.args.n ≡ true = search rules in
    ap not c.is_two.ensures ∙ misplaced_fork c.args.nodes.now c.args.n c.args.beneath c.requires.beneath h f
