-- Whether a node is live is told by its parent.
use Rattle.std.proofs.Common.{◌≡◌, ℕ, ◌<◌, List, length, map, ap, sym, ◌∙◌, Bool, false, get_or}
use Rattle.std.specs.Prelude.{◌&&◌, not}
use Rattle.std.specs.List.{list_all}
use Rattle.cw_tree.specs.declared.node.Node.{Node}
use Rattle.cw_tree.specs.Nodes.{parent_of, is_aborted, below}
use Rattle.cw_tree.specs.Walks.{IsRooted}
use Rattle.cw_tree.specs.Accesses.{is_live}
use Rattle.cw_tree.proofs.Lists.{get_map_below}
use Rattle.cw_tree.proofs.Walks.Climbs.{above_step}

pub live_step : (t : List Node) → IsRooted t → (n q : ℕ) → q ≡ parent_of t n → 0 < n → n < length t → is_live t n ≡ (not (is_aborted t q) && is_live t q)
live_step t r n q e s h = ap (list_all (λ a. not (is_aborted t a))) (above_step t r n s h) ∙ ap (λ x. not (is_aborted t x) && is_live t x) (sym e)

-- the parent's, as it was read
pub live_read : (t : List Node) (before : List Bool) (n q : ℕ) → before ≡ map (is_live t) (below n) → q < n → get_or before q false ≡ is_live t q
live_read t before n q e l = ap (λ xs. get_or xs q false) e ∙ get_map_below (is_live t) n q false l
