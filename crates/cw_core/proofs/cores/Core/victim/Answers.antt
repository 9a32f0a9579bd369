use Rattle.std.proofs.Common.{◌≡◌, ◌<◌, ℕ, Bool, Some, cond, ap, sym, ◌∙◌, subst, arith}
use Rattle.std.specs.Option.{option_or}
use Rattle.cw_tree.specs.Nodes.{parent_of}
use Rattle.cw_tree.specs.Shape.{IsTree}
use Rattle.cw_tree.specs.Walks.{path, outermost, may_fall}
use Rattle.cw_tree.specs.AccessStacks.{access_at}
use Rattle.cw_core.specs.State.{CoreState}
use Rattle.cw_core.specs.InMemory.{state_of}
use Rattle.cw_core.proofs.Events.Going.{well}
use Rattle.cw_core.proofs.Kept.Falls.{walk_on, walk_ends}
use Rattle.cw_core.proofs.cores.Core.victim.Goals as goal

pub loop-node-preserved : goal.loop-node-preserved
loop-node-preserved g c =
    let k = c.args.self.now in
    let t = k.machine.tree in
    let j = state_of c.self.inside in
    let T : CoreState → Type 0 = λ k. IsTree k.machine.tree in
    let tree = subst T c.self.view_is ((well j.machine.first j c.self.invariant.core).sound.tree) in
    let n = c.loop-node.node in
    let q : ℕ → Bool = may_fall t (access_at t c.args.last.stamp) in
    let some : 0 < n = c.loop-node-test.true in
    let up : c.parent-node.result ≡ parent_of t n = c.parent-node.ensures.parent ∙ ap (λ k. parent_of k.machine.tree n) c.self.view_is in
    let later : cond (q n) (Some n) c.loop-node.found ≡ c.or_later-found.result = ap (λ b. cond b (Some n) c.loop-node.found) (sym c.may_fall-falls.ensures) ∙ sym c.or_later-found.ensures in
    let low = c.parent-node.ensures.low some in (
      omega (arith, low, c.loop-node.invariant.0),
      c.loop-node.invariant.1
          ∙ walk_on t tree q n some c.loop-node.invariant.0 c.loop-node.found
          ∙ ap (λ p. option_or (outermost q (path t p)) (cond (q n) (Some n) c.loop-node.found)) (sym up)
          ∙ ap (option_or (outermost q (path t c.parent-node.result))) later,
    )

pub returns : goal.returns
returns g c =
    let k = c.args.self.now in
    let t = k.machine.tree in
    let j = state_of c.self.inside in
    let T : CoreState → Type 0 = λ k. IsTree k.machine.tree in
    let tree = subst T c.self.view_is ((well j.machine.first j c.self.invariant.core).sound.tree) in
    let u = access_at t c.args.last.stamp in
    let ends : c.loop-node.node ≡ 0 = omega (arith, c.loop-node-test.false) in
    sym (c.loop-node.invariant.1 ∙ ap (λ n. option_or (outermost (may_fall t u) (path t n)) c.loop-node.found) ends ∙ walk_ends t tree u c.loop-node.found)
