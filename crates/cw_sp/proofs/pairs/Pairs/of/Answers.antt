use Rattle.std.proofs.Common.{List, ℕ, sym, subst, ◌∙◌}
use Rattle.cw_sp.specs.Lines.{IsWalk}
use Rattle.cw_sp.proofs.Orders.{english_is_depth_first}
use Rattle.cw_sp.proofs.BothLines.{english_walk, hebrew_walk}
use Rattle.cw_sp.proofs.pairs.Pairs.of.Goals as goal

pub of_walk-requires : goal.of_walk-requires
of_walk-requires c =
    let t = c.args.tree.now in
    let P : List ℕ → Type 0 = IsWalk t in
    subst P (english_is_depth_first t ∙ sym c.in_ok-order.ensures ∙ sym c.as_slice.ensures.value) (english_walk t c.requires)

pub of_walk-requires-2 : goal.of_walk-requires-2
of_walk-requires-2 c =
    let t = c.args.tree.now in
    let P : List ℕ → Type 0 = IsWalk t in
    subst P (sym c.in_ok-mirrored.ensures ∙ sym c.as_slice-2.ensures.value) (hebrew_walk t c.requires)
