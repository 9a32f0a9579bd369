use Rattle.std.proofs.Common.{to_z, of_z, ◌≡◌, ◌+◌, ◌++◌, [], ◌∷◌, refl, ap, sym, ◌∙◌, subst, arith, List, rules, SFits, w64}
use Rattle.std.specs.Prelude.{unwrap_or, vec_len}
use Rattle.std.proofs.lemmas.Int.{to_z-of_z}
use Rattle.std.proofs.lemmas.Option.{slice_get_read}
use Rattle.cw_tree.specs.declared.node.Node.{Node}
use Rattle.cw_tree.specs.Nodes.{fresh_node}
use Rattle.cw_tree.specs.Series.{place}
use Rattle.cw_tree.specs.AccessStacks.{access_kind}
use Rattle.cw_stack.specs.Cells as stack
use Rattle.cw_open.specs.Machine.{live_value}
use Rattle.cw_core.specs.InMemory.{state_of}
use Rattle.cw_core.specs.Kept.{with_row_changed, with_tail, with_place, plain_tail, leaf_row, cell_changed, with_entry}
use Rattle.cw_core.specs.State.{column_of}
use Rattle.cw_core.specs.Events.{after_event}
use Rattle.cw_core.specs.declared.event.Event.TheVariants as event
use Rattle.cw_core.proofs.InMemory.Out.{running_there, finds}
use Rattle.cw_core.proofs.InMemory.Access.{runs_access, cell_there, rooms_len, rooms_state, rooms_kept, has_room, comes_later, found_value, made_reply, answered, on_err, access_state, access_kept}
use Rattle.cw_core.proofs.cores.Core.make_access.Goals as goal

pub row-own-requires : goal.row-own-requires
row-own-requires c = running_there c.args.self.now.machine c.args.strand (runs_access c.args.self.now c.args.strand c.args.cell c.args.write c.requires.fits)

pub index-requires : goal.index-requires
index-requires c = omega (arith, cell_there c.self.inside c.args.self.now c.self.view_is c.args.strand c.args.cell c.args.write c.requires.fits)

pub reserve_entry-requires : goal.reserve_entry-requires
reserve_entry-requires c = omega (arith, cell_there c.self.inside c.args.self.now c.self.view_is c.args.strand c.args.cell c.args.write c.requires.fits)

pub invariant_of-self-in_err-reserve_entry : goal.invariant_of-self-in_err-reserve_entry
invariant_of-self-in_err-reserve_entry c =
    rooms_kept c.self.inside (record c.self.inside { cells = c.reserve_entry.new.cells; rows = c.reserve.new.self }) c.self.invariant c.in_err-reserve_entry.ensures.kept c.reserve.ensures.items

pub returns-in_err-reserve_entry-clause-err : goal.returns-in_err-reserve_entry-clause-err
returns-in_err-reserve_entry-clause-err c =
    on_err c.from_residual-in_err-reserve_entry.result _ (rooms_state c.self.inside (record c.self.inside { cells = c.reserve_entry.new.cells; rows = c.reserve.new.self }) c.in_err-reserve_entry.ensures.kept ∙ c.self.view_is)

pub overflow_add-stamp : goal.overflow_add-stamp
overflow_add-stamp c =
    let f = finds c.self.inside c.self.invariant c.args.self.now c.self.view_is c.args.strand (runs_access c.args.self.now c.args.strand c.args.cell c.args.write c.requires.fits) c.row-own.result c.row-own.ensures.row in
    omega (arith, f.clock)

pub add-requires : goal.add-requires
add-requires c =
    let f = finds c.self.inside c.self.invariant c.args.self.now c.self.view_is c.args.strand (runs_access c.args.self.now c.args.strand c.args.cell c.args.write c.requires.fits) c.row-own.result c.row-own.ensures.row in
    omega (arith, f.at, f.there)

pub invariant_of-self-in_err-add : goal.invariant_of-self-in_err-add
invariant_of-self-in_err-add c =
    let kept = rooms_kept c.self.inside (record c.self.inside { cells = c.reserve_entry.new.cells; rows = c.reserve.new.self }) c.self.invariant c.in_ok-reserve_entry.ensures.kept c.reserve.ensures.items in
    let P : List Node → Type 0 = λ t. Rattle.cw_core.specs.InMemory.IsCoreInMemory (record c.self.inside { tree = t; cells = c.reserve_entry.new.cells; rows = c.reserve.new.self }) in
    subst P (sym c.in_err-add.ensures.err) kept

pub returns-in_err-add-clause-err : goal.returns-in_err-add-clause-err
returns-in_err-add-clause-err c =
    on_err c.from_residual-in_err-add.result _
    (ap (λ t. state_of (record c.self.inside { tree = t; cells = c.reserve_entry.new.cells; rows = c.reserve.new.self })) c.in_err-add.ensures.err
    ∙ rooms_state c.self.inside (record c.self.inside { cells = c.reserve_entry.new.cells; rows = c.reserve.new.self }) c.in_ok-reserve_entry.ensures.kept
    ∙ c.self.view_is)

pub put_leaf-requires-clause-strand : goal.put_leaf-requires-clause-strand
put_leaf-requires-clause-strand c =
    let f = finds c.self.inside c.self.invariant c.args.self.now c.self.view_is c.args.strand (runs_access c.args.self.now c.args.strand c.args.cell c.args.write c.requires.fits) c.row-own.result c.row-own.ensures.row in
    omega (arith, f.strand, f.rows, c.reserve.ensures.len)

pub put_leaf-requires-clause-place : goal.put_leaf-requires-clause-place
put_leaf-requires-clause-place c =
    let f = finds c.self.inside c.self.invariant c.args.self.now c.self.view_is c.args.strand (runs_access c.args.self.now c.args.strand c.args.cell c.args.write c.requires.fits) c.row-own.result c.row-own.ensures.row in
    omega (arith, f.at, f.there, f.rows, c.reserve.ensures.len)

pub put_entry-value-requires-clause-there : goal.put_entry-value-requires-clause-there
put_entry-value-requires-clause-there c =
    let low = cell_there c.self.inside c.args.self.now c.self.view_is c.args.strand c.args.cell c.args.write c.requires.fits in
    omega (arith, low, rooms_len c.reserve_entry.new.cells.items c.self.inside.cells.items c.in_ok-reserve_entry.ensures.kept)

pub put_entry-value-requires-clause-later : goal.put_entry-value-requires-clause-later
put_entry-value-requires-clause-later c =
    let b = record c.self.inside { cells = c.reserve_entry.new.cells; rows = c.reserve.new.self } in
    let h = has_room c.self.inside c.self.invariant c.args.self.now c.self.view_is c.args.strand c.args.cell c.args.write c.requires.fits c.requires.met b c.in_ok-reserve_entry.ensures.kept c.reserve.ensures.items in
    comes_later b h.kept c.args.cell

pub invariant_of-self-2 : goal.invariant_of-self-2
invariant_of-self-2 c =
    let s = c.args.strand in
    let a = c.self.inside in
    let f = finds c.self.inside c.self.invariant c.args.self.now c.self.view_is c.args.strand (runs_access c.args.self.now c.args.strand c.args.cell c.args.write c.requires.fits) c.row-own.result c.row-own.ensures.row in
    let b = record c.self.inside { cells = c.reserve_entry.new.cells; rows = c.reserve.new.self } in
    let h = has_room c.self.inside c.self.invariant c.args.self.now c.self.view_is c.args.strand c.args.cell c.args.write c.requires.fits c.requires.met b c.in_ok-reserve_entry.ensures.kept c.reserve.ensures.items in
    let at = slice_get_read a.cells.items (vec_len a.cells) c.args.cell c.index.result.now (search rules) (omega (arith, cell_there a c.args.self.now c.self.view_is s c.args.cell c.args.write c.requires.fits)) c.index.ensures in
    let signed : SFits w64 c.value-value.result = search rules in
    let value : to_z w64 (of_z w64 c.value-value.result) ≡ live_value (state_of b).machine c.args.cell =
    to_z-of_z w64 c.value-value.result signed ∙ c.value-value.ensures ∙ found_value a c.self.invariant c.args.self.now c.self.view_is c.args.cell c.index.result.now at ∙ ap (λ k. live_value k.machine c.args.cell) (sym h.view) in
    let grown : c.add.new.self ≡ a.tree ++ fresh_node (place a.tree s) (access_kind c.args.cell c.args.write (live_value (state_of b).machine c.args.cell)) (a.clock + 1) ∷ [] =
    c.in_ok-add.ensures.ok
    ∙ ap (λ y. a.tree ++ fresh_node c.row-own.result.now.place y (a.clock + 1) ∷ []) c.access_kind.ensures
    ∙ ap (λ q. a.tree ++ fresh_node q (access_kind c.args.cell c.args.write (to_z w64 (of_z w64 c.value-value.result))) (a.clock + 1) ∷ []) f.at
    ∙ ap (λ v. a.tree ++ fresh_node (place a.tree s) (access_kind c.args.cell c.args.write v) (a.clock + 1) ∷ []) value in
    let entries : c.put_entry-value.new.cells.items ≡ cell_changed (with_entry (column_of (state_of b) s) (a.clock + 1) c.args.write) c.args.cell b.cells.items =
    c.put_entry-value.ensures.entries ∙ ap (λ i. cell_changed (with_entry i (a.clock + 1) c.args.write) c.args.cell b.cells.items) f.column in
    let rows : c.put_leaf.new.table.items ≡ with_row_changed (with_place (place a.tree s)) s (with_row_changed (with_tail plain_tail) (place a.tree s) b.rows.items ++ leaf_row s 0 ∷ []) =
    c.put_leaf.ensures ∙ ap (λ q. with_row_changed (with_place q) s (with_row_changed (with_tail plain_tail) q b.rows.items ++ leaf_row s 0 ∷ [])) f.at in
    access_kept b h.kept s c.args.cell c.args.write h.fit h.off h.cell h.at (record b { tree = c.add.new.self; rows = c.put_leaf.new.table; clock = a.clock + 1; cells = c.put_entry-value.new.cells }) grown refl entries (λ e. absurd (cc (c.in_ok-add.ensures.full e))) rows

pub returns-clause-ok : goal.returns-clause-ok
returns-clause-ok c =
    let s = c.args.strand in
    let a = c.self.inside in
    let f = finds c.self.inside c.self.invariant c.args.self.now c.self.view_is c.args.strand (runs_access c.args.self.now c.args.strand c.args.cell c.args.write c.requires.fits) c.row-own.result c.row-own.ensures.row in
    let b = record c.self.inside { cells = c.reserve_entry.new.cells; rows = c.reserve.new.self } in
    let h = has_room c.self.inside c.self.invariant c.args.self.now c.self.view_is c.args.strand c.args.cell c.args.write c.requires.fits c.requires.met b c.in_ok-reserve_entry.ensures.kept c.reserve.ensures.items in
    let at = slice_get_read a.cells.items (vec_len a.cells) c.args.cell c.index.result.now (search rules) (omega (arith, cell_there a c.args.self.now c.self.view_is s c.args.cell c.args.write c.requires.fits)) c.index.ensures in
    let signed : SFits w64 c.value-value.result = search rules in
    let value : to_z w64 (of_z w64 c.value-value.result) ≡ live_value (state_of b).machine c.args.cell =
    to_z-of_z w64 c.value-value.result signed ∙ c.value-value.ensures ∙ found_value a c.self.invariant c.args.self.now c.self.view_is c.args.cell c.index.result.now at ∙ ap (λ k. live_value k.machine c.args.cell) (sym h.view) in
    let grown : c.add.new.self ≡ a.tree ++ fresh_node (place a.tree s) (access_kind c.args.cell c.args.write (live_value (state_of b).machine c.args.cell)) (a.clock + 1) ∷ [] =
    c.in_ok-add.ensures.ok
    ∙ ap (λ y. a.tree ++ fresh_node c.row-own.result.now.place y (a.clock + 1) ∷ []) c.access_kind.ensures
    ∙ ap (λ q. a.tree ++ fresh_node q (access_kind c.args.cell c.args.write (to_z w64 (of_z w64 c.value-value.result))) (a.clock + 1) ∷ []) f.at
    ∙ ap (λ v. a.tree ++ fresh_node (place a.tree s) (access_kind c.args.cell c.args.write v) (a.clock + 1) ∷ []) value in
    let entries : c.put_entry-value.new.cells.items ≡ cell_changed (with_entry (column_of (state_of b) s) (a.clock + 1) c.args.write) c.args.cell b.cells.items =
    c.put_entry-value.ensures.entries ∙ ap (λ i. cell_changed (with_entry i (a.clock + 1) c.args.write) c.args.cell b.cells.items) f.column in
    let rows : c.put_leaf.new.table.items ≡ with_row_changed (with_place (place a.tree s)) s (with_row_changed (with_tail plain_tail) (place a.tree s) b.rows.items ++ leaf_row s 0 ∷ []) =
    c.put_leaf.ensures ∙ ap (λ q. with_row_changed (with_place q) s (with_row_changed (with_tail plain_tail) q b.rows.items ++ leaf_row s 0 ∷ [])) f.at in
    access_state b h.kept s c.args.cell c.args.write h.fit h.off h.cell h.at (record b { tree = c.add.new.self; rows = c.put_leaf.new.table; clock = a.clock + 1; cells = c.put_entry-value.new.cells }) grown refl entries
    ∙ ap (λ k. after_event k (event.Access s c.args.cell c.args.write)) h.view

pub returns-clause-reply : goal.returns-clause-reply
returns-clause-reply c =
    let b = record c.self.inside { cells = c.reserve_entry.new.cells; rows = c.reserve.new.self } in
    let h = has_room c.self.inside c.self.invariant c.args.self.now c.self.view_is c.args.strand c.args.cell c.args.write c.requires.fits c.requires.met b c.in_ok-reserve_entry.ensures.kept c.reserve.ensures.items in
    let signed : SFits w64 c.put_entry-value.result = search rules in
    let answer = answered b.cells.items c.args.cell h.cell (λ x. c.put_entry-value.result ≡ unwrap_or c.args.write (stack.entries_value x)) h.at c.put_entry-value.ensures.answer in
    made_reply c.args.self.now c.args.strand c.args.cell c.args.write c.requires.met (to_z w64 (of_z w64 c.put_entry-value.result))
    (to_z-of_z w64 c.put_entry-value.result signed ∙ answer ∙ ap (unwrap_or c.args.write) (found_value b h.kept c.args.self.now h.view c.args.cell h.cell h.at))
