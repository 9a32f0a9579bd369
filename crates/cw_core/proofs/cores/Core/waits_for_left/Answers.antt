use Rattle.std.proofs.Common.{◌≡◌, ap, sym, ◌∙◌, subst, arith, ℕ, Bool, true, false, refl}
use Rattle.std.specs.Prelude.{◌&&◌, ◌||◌, not}
use Rattle.std.specs.List.{list_any}
use Rattle.std.proofs.lemmas.Bool.{and_right}
use Rattle.cw_tree.specs.Nodes.{is_fork_kind, parent_of}
use Rattle.cw_tree.proofs.Walks.There.{node_there}
use Rattle.cw_tree.specs.Shape.{IsTree}
use Rattle.cw_open.specs.Machine.{has_finished}
use Rattle.cw_core.specs.State.{CoreState, is_split}
use Rattle.cw_core.specs.InMemory.{state_of}
use Rattle.cw_core.specs.Kept.{IsRow, elder_list}
use Rattle.cw_core.proofs.Events.Going.{well}
use Rattle.cw_core.proofs.Fits.LeftStrands.{waits_tell, elder_there}
use Rattle.cw_core.proofs.cores.Core.waits_for_left.Goals as goal

pub row-requires-in-Some : goal.row-requires-in-Some
row-requires-in-Some c =
    let k = c.args.self.now in
    let j = state_of c.self.inside in
    let T : CoreState → Type 0 = λ k. IsTree k.machine.tree in
    let tree = subst T c.self.view_is ((well j.machine.first j c.self.invariant.core).sound.tree) in
    let s = c.args.strand in
    let tells = waits_tell k tree s c.requires c.row.result.made c.row.ensures.row.made in
    let there = elder_there k tree s c.requires c.row.result.made c.row.ensures.row.made c.in-Some.left c.in-Some.is in
    let up : c.parent-fork.result ≡ parent_of k.machine.tree s = c.parent-fork.ensures.parent ∙ ap (λ k. parent_of k.machine.tree s) c.self.view_is in
    let low = node_there (λ y. is_fork_kind y.kind) k.machine.tree (parent_of k.machine.tree s) there.1 in
    omega (arith, up, low)

pub row-requires-then-not-row : goal.row-requires-then-not-row
row-requires-then-not-row c =
    let k = c.args.self.now in
    let j = state_of c.self.inside in
    let T : CoreState → Type 0 = λ k. IsTree k.machine.tree in
    let tree = subst T c.self.view_is ((well j.machine.first j c.self.invariant.core).sound.tree) in
    let s = c.args.strand in
    let tells = waits_tell k tree s c.requires c.row.result.made c.row.ensures.row.made in
    let there = elder_there k tree s c.requires c.row.result.made c.row.ensures.row.made c.in-Some.left c.in-Some.is in
    let up : c.parent-fork.result ≡ parent_of k.machine.tree s = c.parent-fork.ensures.parent ∙ ap (λ k. parent_of k.machine.tree s) c.self.view_is in
    there.0

pub returns-in-None : goal.returns-in-None
returns-in-None c =
    let k = c.args.self.now in
    let j = state_of c.self.inside in
    let T : CoreState → Type 0 = λ k. IsTree k.machine.tree in
    let tree = subst T c.self.view_is ((well j.machine.first j c.self.invariant.core).sound.tree) in
    let s = c.args.strand in
    let tells = waits_tell k tree s c.requires c.row.result.made c.row.ensures.row.made in
    sym (tells ∙ ap (λ o. not (is_split k (parent_of k.machine.tree s)) && list_any (λ l. not (has_finished k.machine l)) (elder_list o)) c.in-None.is ∙ and_right (not (is_split k (parent_of k.machine.tree s))) false refl)

pub returns-then-not-row : goal.returns-then-not-row
returns-then-not-row c =
    let k = c.args.self.now in
    let j = state_of c.self.inside in
    let T : CoreState → Type 0 = λ k. IsTree k.machine.tree in
    let tree = subst T c.self.view_is ((well j.machine.first j c.self.invariant.core).sound.tree) in
    let s = c.args.strand in
    let tells = waits_tell k tree s c.requires c.row.result.made c.row.ensures.row.made in
    let there = elder_there k tree s c.requires c.row.result.made c.row.ensures.row.made c.in-Some.left c.in-Some.is in
    let up : c.parent-fork.result ≡ parent_of k.machine.tree s = c.parent-fork.ensures.parent ∙ ap (λ k. parent_of k.machine.tree s) c.self.view_is in
    let P : ℕ → Type 0 = λ f. IsRow k f c.row-in-Some.result in
    let split = (subst P up c.row-in-Some.ensures.row).now.split there.1 in
    let told = tells ∙ ap (λ o. not (is_split k (parent_of k.machine.tree s)) && list_any (λ l. not (has_finished k.machine l)) (elder_list o)) c.in-Some.is in
    let or_false : (x : Bool) → (x || false) ≡ x = λ x. elim x as (λ x. (x || false) ≡ x) [ true ↦ refl | false ↦ refl ] in
    let done = c.row-then-not-row.ensures.row.now.finished in
    let whole : not (is_split k (parent_of k.machine.tree s)) ≡ true = ap not split ∙ c.if-not-row.true in
    sym (told ∙ ap (λ b. b && (not (has_finished k.machine c.in-Some.left) || false)) whole ∙ or_false (not (has_finished k.machine c.in-Some.left)) ∙ ap not done)

pub returns-else-not-row : goal.returns-else-not-row
returns-else-not-row c =
    let k = c.args.self.now in
    let j = state_of c.self.inside in
    let T : CoreState → Type 0 = λ k. IsTree k.machine.tree in
    let tree = subst T c.self.view_is ((well j.machine.first j c.self.invariant.core).sound.tree) in
    let s = c.args.strand in
    let tells = waits_tell k tree s c.requires c.row.result.made c.row.ensures.row.made in
    let there = elder_there k tree s c.requires c.row.result.made c.row.ensures.row.made c.in-Some.left c.in-Some.is in
    let up : c.parent-fork.result ≡ parent_of k.machine.tree s = c.parent-fork.ensures.parent ∙ ap (λ k. parent_of k.machine.tree s) c.self.view_is in
    let P : ℕ → Type 0 = λ f. IsRow k f c.row-in-Some.result in
    let split = (subst P up c.row-in-Some.ensures.row).now.split there.1 in
    let told = tells ∙ ap (λ o. not (is_split k (parent_of k.machine.tree s)) && list_any (λ l. not (has_finished k.machine l)) (elder_list o)) c.in-Some.is in
    let or_false : (x : Bool) → (x || false) ≡ x = λ x. elim x as (λ x. (x || false) ≡ x) [ true ↦ refl | false ↦ refl ] in
    let whole : not (is_split k (parent_of k.machine.tree s)) ≡ not c.row-in-Some.result.now.split = ap not split in
    c.if-not-row.false ∙ sym (told ∙ ap (λ b. b && (not (has_finished k.machine c.in-Some.left) || false)) (whole ∙ c.if-not-row.false))
