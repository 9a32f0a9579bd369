use Rattle.std.proofs.Common.{◌≡◌, ◌<◌, ◌++◌, [], ◌∷◌, ◌∙◌, ℕ, List, Bool, length, get_or, take, cond, arith, ap, sym, subst, append-nil}
use Rattle.std.specs.List.{filter}
use Rattle.std.proofs.lemmas.List.{take_all}
use Rattle.std.proofs.lemmas.List.Elements.{filter_more}
use Rattle.cw_tree.specs.Nodes.{is_strand}
use Rattle.cw_tree.specs.Series.{depth_first}
use Rattle.cw_tree.proofs.InOrder.Visits.{as_many}
use Rattle.cw_tree.proofs.InOrder.Renumbered.{some_node, visited_there}
use Rattle.cw_record.proofs.strands.by_walk.Goals as goal
use Rattle.cw_record.proofs.strands.by_walk.Goals.{then-is_strand+in_ok-push, else-is_strand}

pub is_strand-requires : goal.is_strand-requires
is_strand-requires c =
    let t = c.args.tree.now in
    let w = c.nodes.ensures.numbered in
    let i = c.loop-n.n-index in
    let e : c.deref-n-items.result.now ≡ depth_first t = c.deref-n-items.ensures.value ∙ c.in_ok-order.ensures in
    let P : List ℕ → Type 0 = λ xs. get_or xs i 0 < length t in
    subst P (sym e) (visited_there t w i (omega (arith, c.loop-n-test.true, ap length e, as_many t w.rooted (some_node t w))))

pub loop-n-preserved : goal.loop-n-preserved
loop-n-preserved c =
    let t = c.args.tree.now in
    let xs = c.deref-n-items.result.now in
    let i = c.loop-n.n-index in
    let n = get_or xs i 0 in
    let so_far = filter (is_strand t) (take i xs) in
    let more = λ (b : Bool) (e : is_strand t n ≡ b). filter_more (is_strand t) xs i 0 c.loop-n-test.true ∙ ap (λ b. so_far ++ cond b (n ∷ []) []) e in
    elim c.if-is_strand.branch [
      | then-is_strand+in_ok-push w ↦ ap (λ v. v.items) w.found-is ∙ w.in_ok-push.ensures.items ∙ ap (λ ns. ns ++ n ∷ []) c.loop-n.invariant ∙ sym (more _ (sym c.is_strand.ensures ∙ w.if-is_strand.true))
      | else-is_strand w ↦ ap (λ v. v.items) w.found-is ∙ c.loop-n.invariant ∙ sym (more _ (sym c.is_strand.ensures ∙ w.if-is_strand.false) ∙ append-nil so_far)
    ]

pub returns : goal.returns
returns c =
    c.loop-n.invariant ∙ ap (filter (is_strand c.args.tree.now)) (take_all c.loop-n.n-index c.deref-n-items.result.now c.loop-n-test.false ∙ c.deref-n-items.ensures.value ∙ c.in_ok-order.ensures)
