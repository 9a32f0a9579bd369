use Rattle.std.proofs.Common.{◌≡◌, sym, ◌∙◌, ap, arith, length, get_or, false}
use Rattle.std.specs.Prelude.{◌||◌}
use Rattle.std.specs.List.{list_any}
use Rattle.std.proofs.lemmas.Bool.{or_left}
use Rattle.cw_tree.specs.Nodes.{parent_of}
use Rattle.cw_tree.specs.Walks.{above}
use Rattle.cw_tree.specs.Refusals.{is_victim}
use Rattle.cw_tree.proofs.Lists.{length_map_below, get_map_below}
use Rattle.cw_tree.proofs.Walks.Climbs.{path_split, path_step}
use Rattle.cw_audit.specs.Victims.{is_in_victim}
use Rattle.cw_audit.proofs.refused.is_in_victim.Goals as goal

pub bounds-before-parent : goal.bounds-before-parent
bounds-before-parent c = omega (arith, ap length c.requires.before, length_map_below (is_in_victim c.args.tree.now c.args.conflicts.now) c.args.n, c.parent.ensures.low (omega arith))

pub returns-then-is_victim : goal.returns-then-is_victim
returns-then-is_victim c =
    let t = c.args.tree.now in
    let v = is_victim t c.args.conflicts.now in
    sym (ap (list_any v) (path_split t c.args.n) ∙ or_left (v c.args.n) (list_any v (above t c.args.n)) (sym c.is_victim.ensures ∙ c.if-is_victim.true))

pub returns : goal.returns
returns c =
    let t = c.args.tree.now in
    let cs = c.args.conflicts.now in
    let v = is_victim t cs in
    let n = c.args.n in
    let q = c.parent.result in
    ap (λ xs. get_or xs q false) c.requires.before
    ∙ get_map_below (is_in_victim t cs) n q false (c.parent.ensures.low (omega arith))
    ∙ ap (is_in_victim t cs) c.parent.ensures.parent
    ∙ sym (ap (list_any v) (path_step t c.parent.ensures.numbered.rooted n (omega arith) c.requires.there) ∙ ap (λ b. b || is_in_victim t cs (parent_of t n)) (sym c.is_victim.ensures ∙ c.if-is_victim.false))

pub returns-then-n-eq0 : goal.returns-then-n-eq0
returns-then-n-eq0 c =
    let t = c.args.tree.now in
    let cs = c.args.conflicts.now in
    let zero : c.args.n ≡ 0 = omega arith in
    let root : is_victim t cs 0 ≡ false = ap (is_victim t cs) (sym zero) ∙ sym c.is_victim.ensures ∙ c.if-is_victim.false in
    sym (ap (is_in_victim t cs) zero ∙ ap (λ b. b || false) root)
