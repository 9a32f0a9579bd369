use Rattle.std.proofs.Common.{◌≡◌, ◌<◌, ◌≤◌, ◌∙◌, ◌++◌, true, ap, sym, arith, append_assoc, get_or, length, rules, string_bytes}
use Rattle.std.specs.Prelude.{codes}
use Rattle.std.specs.List.{flat_map}
use Rattle.cw_tree.specs.Nodes.{is_strand}
use Rattle.cw_tree.specs.Names.{name_of, turn_text}
use Rattle.cw_tree.specs.Series.{strand_of}
use Rattle.cw_tree.proofs.Lists.{length_map_below, get_map_below}
use Rattle.cw_tree.proofs.Walks.Strands.{strand_of_le}
use Rattle.cw_record.proofs.StrandIs.{strand_is}
use Rattle.cw_report.specs.Report.{maker_text}
use Rattle.cw_report.specs.Results.{strand_text}
use Rattle.cw_report.proofs.Lookups.{is_there, is_not_there}
use Rattle.cw_report.proofs.strands.Strands.push_strand.Goals as goal

pub returns-then-node-len : goal.returns-then-node-len
returns-then-node-len c =
    let t = c.args.tree.now in
    let high : length t ≤ c.args.node = omega (arith, ap length c.requires.owners, length_map_below (strand_of t) (length t)) in
    c.in_ok-push_str.ensures.bytes ∙ ap (λ o. string_bytes c.args.text.now ++ maker_text t o) (sym (is_not_there t c.args.node high))

pub turns-requires-clause-there : goal.turns-requires-clause-there
turns-requires-clause-there c =
    let t = c.args.tree.now in
    let low : c.args.node < length t = omega (arith, ap length c.requires.owners, length_map_below (strand_of t) (length t)) in
    let is : c.index.result.now ≡ strand_of t c.args.node = c.index.ensures ∙ ap (λ xs. get_or xs c.args.node c.index.result.now) c.requires.owners ∙ get_map_below (strand_of t) (length t) c.args.node c.index.result.now low in
    omega (arith, is, low, strand_of_le t c.nodes.ensures.numbered.rooted c.args.node low)

pub turns-requires-clause-strand : goal.turns-requires-clause-strand
turns-requires-clause-strand c =
    let t = c.args.tree.now in
    let low : c.args.node < length t = omega (arith, ap length c.requires.owners, length_map_below (strand_of t) (length t)) in
    let is : c.index.result.now ≡ strand_of t c.args.node = c.index.ensures ∙ ap (λ xs. get_or xs c.args.node c.index.result.now) c.requires.owners ∙ get_map_below (strand_of t) (length t) c.args.node c.index.result.now low in
    let root : is_strand t 0 ≡ true = search (rules, c.nodes.ensures.numbered.root) in
    search (rules, ap (is_strand t) is ∙ strand_is t c.nodes.ensures.numbered.rooted root c.args.node low)

pub returns : goal.returns
returns c =
    let t = c.args.tree.now in
    let text = string_bytes c.args.text.now in
    let low : c.args.node < length t = omega (arith, ap length c.requires.owners, length_map_below (strand_of t) (length t)) in
    let is : c.index.result.now ≡ strand_of t c.args.node = c.index.ensures ∙ ap (λ xs. get_or xs c.args.node c.index.result.now) c.requires.owners ∙ get_map_below (strand_of t) (length t) c.args.node c.index.result.now low in
    c.in_ok-push_turns.ensures
    ∙ ap (λ xs. string_bytes c.push_str-2.new.self ++ flat_map turn_text xs) (c.as_slice.ensures.value ∙ c.in_ok-turns.ensures)
    ∙ ap (λ bytes. bytes ++ flat_map turn_text (name_of t c.index.result.now)) c.in_ok-push_str-2.ensures.bytes
    ∙ append_assoc text (codes "0") (flat_map turn_text (name_of t c.index.result.now))
    ∙ ap (λ s. text ++ strand_text t s) is
    ∙ ap (λ o. text ++ maker_text t o) (sym (is_there t c.args.node low))
