use Rattle.std.proofs.Common.{◌≡◌, ◌∙◌, ◌++◌, Some, ap, length, rules, string_bytes, sym}
use Rattle.cw_tree.specs.Nodes.{stamp_of, with_stamp}
use Rattle.std.specs.Prelude.{◌==◌}
use Rattle.cw_report.specs.Report.{maker_text}
use Rattle.cw_report.proofs.Lookups.{found_there, is_there}
use Rattle.cw_report.proofs.found.Found.push_maker.Goals as goal

pub returns-in_ok-push_strand-in-Some : goal.returns-in_ok-push_strand-in-Some
returns-in_ok-push_strand-in-Some c =
    let t = c.args.tree.now in
    let n = c.in-Some.node.now in
    let found : with_stamp t c.args.stamp ≡ Some n = search (rules, c.requires.first c.args.stamp) in
    let there = found_there (λ m. stamp_of t m == c.args.stamp) (length t) n found in
    c.in_ok-push_strand-in-Some.ensures ∙ ap (λ o. string_bytes c.args.text.now ++ maker_text t o) (is_there t n there ∙ sym found)
