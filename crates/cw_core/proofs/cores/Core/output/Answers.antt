use Rattle.std.proofs.Common.{◌≡◌, ◌+◌, ◌++◌, [], ◌∷◌, refl, ap, ◌∙◌, arith, true, rules, SFits, w64}
use Rattle.std.proofs.lemmas.Int.{to_z-of_z}
use Rattle.cw_tree.specs.declared.node.Kind.TheVariants.{Out}
use Rattle.cw_tree.specs.Nodes.{fresh_node}
use Rattle.cw_tree.specs.Series.{place}
use Rattle.cw_core.specs.Kept.{with_row_changed, with_tail, with_place, plain_tail, leaf_row}
use Rattle.cw_core.specs.Events.{fits, after_event}
use Rattle.cw_core.specs.declared.event.Event.TheVariants as event
use Rattle.cw_core.proofs.InMemory.Out.{seen, now_of, runs_free, running_there, finds, out_state, out_kept}
use Rattle.cw_core.proofs.cores.Core.output.Goals as goal

pub row-place-requires : goal.row-place-requires
row-place-requires c = running_there c.args.self.now.machine c.args.strand (runs_free c.args.self.now c.args.strand (now_of c.args.self.now (event.Out c.args.strand c.args.value) c.requires))

pub overflow_add-stamp : goal.overflow_add-stamp
overflow_add-stamp c =
    let f = finds c.self.inside c.self.invariant c.args.self.now c.self.view_is c.args.strand (runs_free c.args.self.now c.args.strand (now_of c.args.self.now (event.Out c.args.strand c.args.value) c.requires)) c.row-place.result c.row-place.ensures.row in
    omega (arith, f.clock)

pub add-requires : goal.add-requires
add-requires c =
    let f = finds c.self.inside c.self.invariant c.args.self.now c.self.view_is c.args.strand (runs_free c.args.self.now c.args.strand (now_of c.args.self.now (event.Out c.args.strand c.args.value) c.requires)) c.row-place.result c.row-place.ensures.row in
    omega (arith, f.at, f.there)

pub put_leaf-requires-clause-strand : goal.put_leaf-requires-clause-strand
put_leaf-requires-clause-strand c =
    let f = finds c.self.inside c.self.invariant c.args.self.now c.self.view_is c.args.strand (runs_free c.args.self.now c.args.strand (now_of c.args.self.now (event.Out c.args.strand c.args.value) c.requires)) c.row-place.result c.row-place.ensures.row in
    omega (arith, f.strand, f.rows, c.reserve.ensures.len)

pub put_leaf-requires-clause-place : goal.put_leaf-requires-clause-place
put_leaf-requires-clause-place c =
    let f = finds c.self.inside c.self.invariant c.args.self.now c.self.view_is c.args.strand (runs_free c.args.self.now c.args.strand (now_of c.args.self.now (event.Out c.args.strand c.args.value) c.requires)) c.row-place.result c.row-place.ensures.row in
    omega (arith, f.at, f.there, f.rows, c.reserve.ensures.len)

pub invariant_of-self-2 : goal.invariant_of-self-2
invariant_of-self-2 c =
    let s = c.args.strand in
    let v = c.args.value in
    let signed : SFits w64 c.args.value = search rules in
    let a = c.self.inside in
    let f = finds a c.self.invariant c.args.self.now c.self.view_is s (runs_free c.args.self.now s (now_of c.args.self.now (event.Out s v) c.requires)) c.row-place.result c.row-place.ensures.row in
    let fit = seen a c.args.self.now (λ k. fits k (event.Out s v) ≡ true) c.self.view_is c.requires in
    let grown : c.add.new.self ≡ a.tree ++ fresh_node (place a.tree s) (Out v) (a.clock + 1) ∷ [] = c.in_ok-add.ensures.ok ∙ ap (λ v. a.tree ++ fresh_node c.row-place.result.now.place (Out v) (a.clock + 1) ∷ []) (to_z-of_z w64 v signed) ∙ ap (λ q. a.tree ++ fresh_node q (Out v) (a.clock + 1) ∷ []) f.at in
    let rows : c.put_leaf.new.table.items ≡ with_row_changed (with_place (place a.tree s)) s (with_row_changed (with_tail plain_tail) (place a.tree s) a.rows.items ++ leaf_row s 0 ∷ []) =
    c.put_leaf.ensures
    ∙ ap (λ q. with_row_changed (with_place q) s (with_row_changed (with_tail plain_tail) q c.reserve.new.self.items ++ leaf_row s 0 ∷ [])) f.at
    ∙ ap (λ rs. with_row_changed (with_place (place a.tree s)) s (with_row_changed (with_tail plain_tail) (place a.tree s) rs ++ leaf_row s 0 ∷ [])) c.reserve.ensures.items in
    out_kept a c.self.invariant s v fit (record a { tree = c.add.new.self; rows = c.put_leaf.new.table; clock = a.clock + 1 }) grown refl (λ e. absurd (cc (c.in_ok-add.ensures.full e))) rows

pub returns-clause-ok : goal.returns-clause-ok
returns-clause-ok c =
    let s = c.args.strand in
    let v = c.args.value in
    let signed : SFits w64 c.args.value = search rules in
    let a = c.self.inside in
    let f = finds a c.self.invariant c.args.self.now c.self.view_is s (runs_free c.args.self.now s (now_of c.args.self.now (event.Out s v) c.requires)) c.row-place.result c.row-place.ensures.row in
    let fit = seen a c.args.self.now (λ k. fits k (event.Out s v) ≡ true) c.self.view_is c.requires in
    let grown : c.add.new.self ≡ a.tree ++ fresh_node (place a.tree s) (Out v) (a.clock + 1) ∷ [] = c.in_ok-add.ensures.ok ∙ ap (λ v. a.tree ++ fresh_node c.row-place.result.now.place (Out v) (a.clock + 1) ∷ []) (to_z-of_z w64 v signed) ∙ ap (λ q. a.tree ++ fresh_node q (Out v) (a.clock + 1) ∷ []) f.at in
    out_state a c.self.invariant s v fit (record a { tree = c.add.new.self; rows = c.put_leaf.new.table; clock = a.clock + 1 }) grown refl ∙ ap (λ k. after_event k (event.Out s v)) c.self.view_is
