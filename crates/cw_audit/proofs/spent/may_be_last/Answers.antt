use Rattle.std.proofs.Common.{◌≡◌, ℕ, ◌<◌, List, length, sym, ap, ◌∙◌, arith, true, false}
use Rattle.std.specs.Prelude.{◌&&◌, ◌||◌}
use Rattle.std.proofs.lemmas.Bool.{and_from, or_left}
use Rattle.cw_tree.specs.declared.conflict.Conflict.{Conflict}
use Rattle.cw_tree.specs.declared.node.Node.{Node}
use Rattle.cw_tree.specs.Accesses.{is_live}
use Rattle.cw_tree.specs.Nodes.{is_pending, is_tried}
use Rattle.cw_tree.specs.Refusals.{may_be_last, refused_node}
use Rattle.cw_tree.proofs.Lists.{length_map_below}
use Rattle.cw_audit.proofs.Living.{live_read}
use Rattle.cw_audit.proofs.spent.may_be_last.Goals as goal

-- by the node that it refused
last_at : (t : List Node) (k : Conflict) (n : ℕ) → n ≡ refused_node t k → may_be_last t k ≡ (is_live t n && (is_tried t n || is_pending t n))
last_at t k n e = ap (λ m. is_live t m && (is_tried t m || is_pending t m)) (sym e)

pub bounds-lives-n : goal.bounds-lives-n
bounds-lives-n c = omega (arith, ap length c.requires, length_map_below (is_live c.args.tree.now) (length c.args.tree.now), ap length c.nodes.ensures.nodes, c.if-n-nodes.false)

pub returns-then-is_tried : goal.returns-then-is_tried
returns-then-is_tried c =
    let t = c.args.tree.now in
    let n = c.refused_node-n.result in
    let there : n < length t = omega (arith, ap length c.nodes.ensures.nodes, c.if-n-nodes.false) in
    let live : is_live t n ≡ true = sym (live_read t c.args.lives.now (length t) n c.requires there) ∙ c.if-lives-n.true in
    let tried : is_tried t n ≡ true = sym c.is_tried.ensures ∙ c.if-is_tried.true in
    c.if-is_tried.true ∙ sym (last_at t c.args.conflict.now n c.refused_node-n.ensures ∙ and_from (is_live t n) (is_tried t n || is_pending t n) live (or_left (is_tried t n) (is_pending t n) tried))

pub returns-else-is_tried : goal.returns-else-is_tried
returns-else-is_tried c =
    let t = c.args.tree.now in
    let n = c.refused_node-n.result in
    let there : n < length t = omega (arith, ap length c.nodes.ensures.nodes, c.if-n-nodes.false) in
    let live : is_live t n ≡ true = sym (live_read t c.args.lives.now (length t) n c.requires there) ∙ c.if-lives-n.true in
    let tried : is_tried t n ≡ false = sym c.is_tried.ensures ∙ c.if-is_tried.false in
    c.is_pending.ensures ∙ sym (last_at t c.args.conflict.now n c.refused_node-n.ensures ∙ ap (λ b. b && (is_tried t n || is_pending t n)) live ∙ ap (λ b. b || is_pending t n) tried)

pub returns-else-lives-n : goal.returns-else-lives-n
returns-else-lives-n c =
    let t = c.args.tree.now in
    let n = c.refused_node-n.result in
    let there : n < length t = omega (arith, ap length c.nodes.ensures.nodes, c.if-n-nodes.false) in
    let live : is_live t n ≡ false = sym (live_read t c.args.lives.now (length t) n c.requires there) ∙ c.if-lives-n.false in
    c.if-lives-n.false ∙ sym (last_at t c.args.conflict.now n c.refused_node-n.ensures ∙ ap (λ b. b && (is_tried t n || is_pending t n)) live)
