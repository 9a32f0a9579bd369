use Rattle.std.proofs.Common.{◌≡◌, ◌++◌, [], ◌∷◌, None, length, ap, ◌∙◌, subst, arith, rules, true}
use Rattle.std.specs.Prelude.{vec_len, IfSome}
use Rattle.std.proofs.lemmas.Option.{slice_get_read}
use Rattle.cw_tree.specs.declared.node.Kind.TheVariants.{Tried}
use Rattle.cw_tree.specs.Nodes.{is_pending, fresh_node}
use Rattle.cw_tree.specs.Series.{place}
use Rattle.cw_core.specs.State.{CoreState}
use Rattle.cw_core.specs.Kept.{IsRow, with_row_changed, with_tail, with_victim, tried_tail, leaf_row, tried_again}
use Rattle.cw_core.specs.Events.{after_event, reply_to}
use Rattle.cw_core.specs.declared.event.Event.TheVariants as event
use Rattle.cw_core.proofs.InMemory.Out.{seen, running_there}
use Rattle.cw_core.proofs.InMemory.Out as out
use Rattle.cw_core.proofs.InMemory.Access.{runs_access, cell_there}
use Rattle.cw_core.proofs.InMemory.Refused.{finds, tells, tried_fits, each_pending, spends_so, conflict_is, refused_view, refused_kept, refused_reply}
use Rattle.cw_core.proofs.cores.Core.refuse_access.Goals as goal

pub row-place-requires : goal.row-place-requires
row-place-requires g c = running_there c.args.self.now.machine c.args.strand (runs_access c.args.self.now c.args.strand c.args.cell None c.requires.fits)

pub row-requires : goal.row-requires
row-requires g c =
    let f = out.finds c.self.inside c.self.invariant c.args.self.now c.self.view_is c.args.strand (runs_access c.args.self.now c.args.strand c.args.cell None c.requires.fits) c.row-place.result c.row-place.ensures.row in
    let same = ap (λ k. length k.machine.tree) c.self.view_is in
    omega (arith, f.at, f.there, same)

pub tried_tail-tail-requires : goal.tried_tail-tail-requires
tried_tail-tail-requires g c =
    let f = out.finds c.self.inside c.self.invariant c.args.self.now c.self.view_is c.args.strand (runs_access c.args.self.now c.args.strand c.args.cell None c.requires.fits) c.row-place.result c.row-place.ensures.row in
    let row = seen c.self.inside c.args.self.now (λ k. IsRow k c.row-place.result.now.place c.row.result) c.self.view_is c.row.ensures.row in
    omega (arith, tried_fits c.self.inside c.self.invariant c.row-place.result.now.place (omega (arith, f.at, f.there)) c.row.result row)

pub victim-victim-requires-clause-place : goal.victim-victim-requires-clause-place
victim-victim-requires-clause-place g c =
    let f = out.finds c.self.inside c.self.invariant c.args.self.now c.self.view_is c.args.strand (runs_access c.args.self.now c.args.strand c.args.cell None c.requires.fits) c.row-place.result c.row-place.ensures.row in
    let same = ap (λ k. length k.machine.tree) c.self.view_is in
    omega (arith, f.at, f.there, same)

pub victim-victim-requires-clause-last : goal.victim-victim-requires-clause-last
victim-victim-requires-clause-last g c = c.requires.barrier.marked

pub refusal-refused-requires : goal.refusal-refused-requires
refusal-refused-requires g c =
    let a = c.self.inside in
    let s = c.args.strand in
    let h = finds a c.self.invariant c.args.self.now c.self.view_is s c.args.cell c.requires.fits c.args.barrier c.requires.barrier c.row-place.result c.row-place.ensures.row c.row.result c.row.ensures.row c.victim-victim.result c.victim-victim.ensures in
    let P : CoreState → Type 0 = λ k. IfSome c.victim-victim.result (λ y. is_pending k.machine.tree y ≡ true) in
    subst P c.self.view_is (each_pending a c.self.invariant s c.args.cell c.args.barrier c.row-place.result c.row.result c.victim-victim.result h)

pub index-requires : goal.index-requires
index-requires g c = omega (arith, cell_there c.self.inside c.args.self.now c.self.view_is c.args.strand c.args.cell None c.requires.fits)

pub index-requires-2 : goal.index-requires-2
index-requires-2 g c = omega (arith, cell_there c.self.inside c.args.self.now c.self.view_is c.args.strand c.args.cell None c.requires.fits)

pub add-requires : goal.add-requires
add-requires g c =
    let a = c.self.inside in
    let s = c.args.strand in
    let h = finds a c.self.invariant c.args.self.now c.self.view_is s c.args.cell c.requires.fits c.args.barrier c.requires.barrier c.row-place.result c.row-place.ensures.row c.row.result c.row.ensures.row c.victim-victim.result c.victim-victim.ensures in
    omega (arith, h.there)

pub put_tried-requires-clause-strand : goal.put_tried-requires-clause-strand
put_tried-requires-clause-strand g c =
    let a = c.self.inside in
    let s = c.args.strand in
    let h = finds a c.self.invariant c.args.self.now c.self.view_is s c.args.cell c.requires.fits c.args.barrier c.requires.barrier c.row-place.result c.row-place.ensures.row c.row.result c.row.ensures.row c.victim-victim.result c.victim-victim.ensures in
    omega (arith, h.strand, c.self.invariant.rowed.len, c.reserve-2.ensures.len)

pub put_tried-requires-clause-place : goal.put_tried-requires-clause-place
put_tried-requires-clause-place g c =
    let a = c.self.inside in
    let s = c.args.strand in
    let h = finds a c.self.invariant c.args.self.now c.self.view_is s c.args.cell c.requires.fits c.args.barrier c.requires.barrier c.row-place.result c.row-place.ensures.row c.row.result c.row.ensures.row c.victim-victim.result c.victim-victim.ensures in
    omega (arith, h.there, c.self.invariant.rowed.len, c.reserve-2.ensures.len)

pub invariant_of-self-2 : goal.invariant_of-self-2
invariant_of-self-2 g c =
    let a = c.self.inside in
    let s = c.args.strand in
    let h = finds a c.self.invariant c.args.self.now c.self.view_is s c.args.cell c.requires.fits c.args.barrier c.requires.barrier c.row-place.result c.row-place.ensures.row c.row.result c.row.ensures.row c.victim-victim.result c.victim-victim.ensures in
    let grown : c.add.new.self ≡ a.tree ++ fresh_node (place a.tree s) (Tried c.args.cell) 0 ∷ [] = c.in_ok-asker.ensures.ok ∙ ap (λ q. a.tree ++ fresh_node q (Tried c.args.cell) 0 ∷ []) h.at in
    let x = c.refusal-refused.result in
    let told = tells a c.args.self.now c.self.view_is s c.victim-victim.result x c.tried_tail-tail.result.tried (tried_again c.args.cell c.row.result.tail) c.refusal-refused.ensures.victim c.refusal-refused.ensures.attempt c.refusal-refused.ensures.strand (ap (λ y. y.tried) c.tried_tail-tail.ensures) in
    let at = slice_get_read a.cells.items (vec_len a.cells) c.args.cell c.index.result.now (search rules) (omega (arith, cell_there a c.args.self.now c.self.view_is s c.args.cell None c.requires.fits)) c.index.ensures in
    let more = c.push_reserved.ensures.items ∙ ap (λ cs. cs ++ c.conflict_with.result ∷ []) c.reserve.ensures.items ∙ ap (λ d. a.conflicts.items ++ d ∷ []) (c.conflict_with.ensures ∙ conflict_is a c.self.invariant s c.args.cell c.args.barrier c.row-place.result c.row.result c.victim-victim.result h x told c.in_ok-asker.asker c.in_ok-asker.ensures.number c.index.result.now at c.in_ok-kept.kept.items c.in_ok-kept.ensures) in
    let v = c.victim-victim.result in
    let rows : c.put_tried.new.table.items ≡ with_row_changed (with_victim v) s (with_row_changed (with_tail (tried_tail c.args.cell c.row.result.tail)) (place a.tree s) a.rows.items ++ leaf_row s 0 ∷ []) =
    c.put_tried.ensures
    ∙ ap (λ q. with_row_changed (with_victim v) s (with_row_changed (with_tail c.tried_tail-tail.result) q c.reserve-2.new.self.items ++ leaf_row s 0 ∷ [])) h.at
    ∙ ap (λ rs. with_row_changed (with_victim v) s (with_row_changed (with_tail c.tried_tail-tail.result) (place a.tree s) rs ++ leaf_row s 0 ∷ [])) c.reserve-2.ensures.items
    ∙ ap (λ y. with_row_changed (with_victim v) s (with_row_changed (with_tail y) (place a.tree s) a.rows.items ++ leaf_row s 0 ∷ [])) c.tried_tail-tail.ensures in
    refused_kept a c.self.invariant s c.args.cell c.args.barrier c.row-place.result c.row.result c.victim-victim.result h (record a { tree = c.add.new.self; rows = c.put_tried.new.table; conflicts = c.push_reserved.new.self; spent = c.or_later-self-inside.result }) grown more (λ e. absurd (cc (c.in_ok-asker.ensures.full e))) rows (spends_so a c.self.invariant s c.args.cell c.args.barrier c.row-place.result c.row.result c.victim-victim.result h x told c.or_later-self-inside.result c.or_later-self-inside.ensures)

pub returns-clause-ok : goal.returns-clause-ok
returns-clause-ok g c =
    let a = c.self.inside in
    let s = c.args.strand in
    let h = finds a c.self.invariant c.args.self.now c.self.view_is s c.args.cell c.requires.fits c.args.barrier c.requires.barrier c.row-place.result c.row-place.ensures.row c.row.result c.row.ensures.row c.victim-victim.result c.victim-victim.ensures in
    let grown : c.add.new.self ≡ a.tree ++ fresh_node (place a.tree s) (Tried c.args.cell) 0 ∷ [] = c.in_ok-asker.ensures.ok ∙ ap (λ q. a.tree ++ fresh_node q (Tried c.args.cell) 0 ∷ []) h.at in
    let x = c.refusal-refused.result in
    let told = tells a c.args.self.now c.self.view_is s c.victim-victim.result x c.tried_tail-tail.result.tried (tried_again c.args.cell c.row.result.tail) c.refusal-refused.ensures.victim c.refusal-refused.ensures.attempt c.refusal-refused.ensures.strand (ap (λ y. y.tried) c.tried_tail-tail.ensures) in
    let at = slice_get_read a.cells.items (vec_len a.cells) c.args.cell c.index.result.now (search rules) (omega (arith, cell_there a c.args.self.now c.self.view_is s c.args.cell None c.requires.fits)) c.index.ensures in
    let more = c.push_reserved.ensures.items ∙ ap (λ cs. cs ++ c.conflict_with.result ∷ []) c.reserve.ensures.items ∙ ap (λ d. a.conflicts.items ++ d ∷ []) (c.conflict_with.ensures ∙ conflict_is a c.self.invariant s c.args.cell c.args.barrier c.row-place.result c.row.result c.victim-victim.result h x told c.in_ok-asker.asker c.in_ok-asker.ensures.number c.index.result.now at c.in_ok-kept.kept.items c.in_ok-kept.ensures) in
    λ write. (refused_view a c.self.invariant s c.args.cell c.args.barrier c.row-place.result c.row.result c.victim-victim.result h (record a { tree = c.add.new.self; rows = c.put_tried.new.table; conflicts = c.push_reserved.new.self; spent = c.or_later-self-inside.result }) grown more write ∙ ap (λ k. after_event k (event.Access s c.args.cell write)) c.self.view_is)

pub returns-clause-reply : goal.returns-clause-reply
returns-clause-reply g c =
    let a = c.self.inside in
    let s = c.args.strand in
    let h = finds a c.self.invariant c.args.self.now c.self.view_is s c.args.cell c.requires.fits c.args.barrier c.requires.barrier c.row-place.result c.row-place.ensures.row c.row.result c.row.ensures.row c.victim-victim.result c.victim-victim.ensures in
    let x = c.refusal-refused.result in
    let told = tells a c.args.self.now c.self.view_is s c.victim-victim.result x c.tried_tail-tail.result.tried (tried_again c.args.cell c.row.result.tail) c.refusal-refused.ensures.victim c.refusal-refused.ensures.attempt c.refusal-refused.ensures.strand (ap (λ y. y.tried) c.tried_tail-tail.ensures) in
    let at = slice_get_read a.cells.items (vec_len a.cells) c.args.cell c.index-2.result.now (search rules) (omega (arith, cell_there a c.args.self.now c.self.view_is s c.args.cell None c.requires.fits)) c.index-2.ensures in
    λ write. (refused_reply a c.self.invariant s c.args.cell c.args.barrier c.row-place.result c.row.result c.victim-victim.result h write c.conflict_with-2.result (c.conflict_with-2.ensures ∙ conflict_is a c.self.invariant s c.args.cell c.args.barrier c.row-place.result c.row.result c.victim-victim.result h x told c.in_ok-asker.asker c.in_ok-asker.ensures.number c.index-2.result.now at c.in_ok-chain.chain.items c.in_ok-chain.ensures) ∙ ap (λ k. reply_to k (event.Access s c.args.cell write)) c.self.view_is)
