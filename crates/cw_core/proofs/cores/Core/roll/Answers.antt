use Rattle.std.proofs.Common.{◌≡◌, ◌+◌, ap, sym, ◌∙◌, subst, arith, ℕ, length, true, refl}
use Rattle.cw_tree.specs.declared.node.BlockState.TheVariants.{Aborted}
use Rattle.cw_tree.specs.Nodes.{number_in, parent_of, stamp_of, is_block, closed}
use Rattle.cw_tree.specs.Series.{place}
use Rattle.cw_trace.specs.Columns.{gap, closed_word}
use Rattle.cw_core.specs.Events.{fits, after_event}
use Rattle.cw_core.specs.InMemory.{state_of}
use Rattle.cw_core.specs.State.{gap_of}
use Rattle.cw_core.specs.Undone.{MayUndo, AreUndone}
use Rattle.cw_core.specs.Kept.{IsRow, with_row_changed, with_tail, with_rolled, aborted_tail}
use Rattle.cw_core.specs.declared.event.Event.TheVariants as event
use Rattle.cw_core.proofs.InMemory.Out.{seen, finds}
use Rattle.cw_core.proofs.Kept.Rolled.{may_undo, is_pending_block}
use Rattle.cw_core.proofs.Kept.Rolls.{may_roll, block_here, parent_low, roll_state, roll_kept, none_left}
use Rattle.cw_core.proofs.cores.Core.roll.Goals as goal

pub row-attempt-requires : goal.row-attempt-requires
row-attempt-requires c =
    let f = finds c.self.inside c.self.invariant c.args.self.now c.self.view_is c.args.strand (may_roll c.args.self.now c.args.strand c.requires).running c.row-own.result c.row-own.ensures.row in
    let at_now = ap (λ k. length k.machine.tree) c.self.view_is in
    omega (arith, f.at, f.there, at_now)

pub gap-gap-requires : goal.gap-gap-requires
gap-gap-requires c =
    let f = finds c.self.inside c.self.invariant c.args.self.now c.self.view_is c.args.strand (may_roll c.args.self.now c.args.strand c.requires).running c.row-own.result c.row-own.ensures.row in
    f.used

pub parent-parent-requires : goal.parent-parent-requires
parent-parent-requires c =
    let f = finds c.self.inside c.self.invariant c.args.self.now c.self.view_is c.args.strand (may_roll c.args.self.now c.args.strand c.requires).running c.row-own.result c.row-own.ensures.row in
    omega (arith, f.at, f.there)

pub node-requires : goal.node-requires
node-requires c =
    let f = finds c.self.inside c.self.invariant c.args.self.now c.self.view_is c.args.strand (may_roll c.args.self.now c.args.strand c.requires).running c.row-own.result c.row-own.ensures.row in
    omega (arith, f.at, f.there)

pub undo-requires-clause-block : goal.undo-requires-clause-block
undo-requires-clause-block c =
    let f = finds c.self.inside c.self.invariant c.args.self.now c.self.view_is c.args.strand (may_roll c.args.self.now c.args.strand c.requires).running c.row-own.result c.row-own.ensures.row in
    omega (arith, f.at, f.there)

pub overflow_add-stamp : goal.overflow_add-stamp
overflow_add-stamp c =
    let f = finds c.self.inside c.self.invariant c.args.self.now c.self.view_is c.args.strand (may_roll c.args.self.now c.args.strand c.requires).running c.row-own.result c.row-own.ensures.row in
    omega (arith, f.clock)

pub undo-requires-clause-cells : goal.undo-requires-clause-cells
undo-requires-clause-cells c =
    let a = c.self.inside in
    let f = finds c.self.inside c.self.invariant c.args.self.now c.self.view_is c.args.strand (may_roll c.args.self.now c.args.strand c.requires).running c.row-own.result c.row-own.ensures.row in
    let fit = seen c.self.inside c.args.self.now (λ k. fits k (event.Roll c.args.strand) ≡ true) c.self.view_is c.requires in
    let may = may_roll (state_of a) c.args.strand fit in
    let Q : ℕ → Type 0 = λ n. MayUndo a.tree n a.cells.items in
    subst Q (sym f.at) (may_undo (state_of a) a.rows.items a.forks.items a.cells.items a.spent c.self.invariant c.args.strand may.running may.ready may.within)

pub abort-requires-clause-block : goal.abort-requires-clause-block
abort-requires-clause-block c =
    let a = c.self.inside in
    let f = finds c.self.inside c.self.invariant c.args.self.now c.self.view_is c.args.strand (may_roll c.args.self.now c.args.strand c.requires).running c.row-own.result c.row-own.ensures.row in
    let fit = seen c.self.inside c.args.self.now (λ k. fits k (event.Roll c.args.strand) ≡ true) c.self.view_is c.requires in
    let Q : ℕ → Type 0 = λ n. is_block a.tree n ≡ true in
    subst Q (sym f.at) (block_here (state_of a) a.rows.items a.forks.items a.cells.items a.spent c.self.invariant c.args.strand fit)

pub abort-requires-clause-undone : goal.abort-requires-clause-undone
abort-requires-clause-undone c =
    none_left c.self.inside.tree c.row-own.result.now.place c.self.inside.cells.items c.undo.new.cells.items c.undo.ensures

pub end_word-requires : goal.end_word-requires
end_word-requires c =
    let f = finds c.self.inside c.self.invariant c.args.self.now c.self.view_is c.args.strand (may_roll c.args.self.now c.args.strand c.requires).running c.row-own.result c.row-own.ensures.row in
    omega (arith, f.gap, c.gap-gap.ensures)

pub roll_row-requires-clause-strand : goal.roll_row-requires-clause-strand
roll_row-requires-clause-strand c =
    let f = finds c.self.inside c.self.invariant c.args.self.now c.self.view_is c.args.strand (may_roll c.args.self.now c.args.strand c.requires).running c.row-own.result c.row-own.ensures.row in
    omega (arith, f.strand, f.rows)

pub roll_row-requires-clause-parent : goal.roll_row-requires-clause-parent
roll_row-requires-clause-parent c =
    let a = c.self.inside in
    let f = finds c.self.inside c.self.invariant c.args.self.now c.self.view_is c.args.strand (may_roll c.args.self.now c.args.strand c.requires).running c.row-own.result c.row-own.ensures.row in
    let fit = seen c.self.inside c.args.self.now (λ k. fits k (event.Roll c.args.strand) ≡ true) c.self.view_is c.requires in
    let up : c.parent-parent.result ≡ parent_of a.tree (place a.tree c.args.strand) = c.parent-parent.ensures.parent ∙ ap (parent_of a.tree) f.at in
    omega (arith, up, parent_low (state_of a) a.rows.items a.forks.items a.cells.items a.spent c.self.invariant c.args.strand fit, f.there, f.rows)

pub invariant_of-self : goal.invariant_of-self
invariant_of-self c =
    let a = c.self.inside in
    let f = finds c.self.inside c.self.invariant c.args.self.now c.self.view_is c.args.strand (may_roll c.args.self.now c.args.strand c.requires).running c.row-own.result c.row-own.ensures.row in
    let fit = seen c.self.inside c.args.self.now (λ k. fits k (event.Roll c.args.strand) ≡ true) c.self.view_is c.requires in
    let tree : c.abort.new.tree ≡ closed a.tree (place a.tree c.args.strand) Aborted (a.clock + 1) = c.abort.ensures ∙ ap (λ n. closed a.tree n Aborted (a.clock + 1)) f.at in
    let begun : c.node.result.now.stamp ≡ stamp_of a.tree (place a.tree c.args.strand) = sym (ap (number_in (λ x. x.stamp)) c.node.ensures) ∙ ap (stamp_of a.tree) f.at in
    let words : c.end_word.new.gaps.words.items ≡ closed_word a.gaps.words.items (gap_of (state_of a) c.args.strand) (stamp_of a.tree (place a.tree c.args.strand)) =
    c.end_word.ensures ∙ ap (λ g. closed_word a.gaps.words.items g c.node.result.now.stamp) (c.gap-gap.ensures ∙ ap (gap a.tier.columns) f.column) ∙ ap (closed_word a.gaps.words.items (gap_of (state_of a) c.args.strand)) begun in
    let P : ℕ → Type 0 = λ n. AreUndone a.tree n a.cells.items c.undo.new.cells.items in
    let undone = subst P f.at c.undo.ensures in
    let o = record a { tree = c.abort.new.tree; clock = a.clock + 1; gaps = c.end_word.new.gaps; rows = c.roll_row.new.table; cells = c.undo.new.cells } in
    let up : c.parent-parent.result ≡ parent_of a.tree (place a.tree c.args.strand) = c.parent-parent.ensures.parent ∙ ap (parent_of a.tree) f.at in
    let R : ℕ → Type 0 = λ n. IsRow c.args.self.now n c.row-attempt.result in
    let row = seen a c.args.self.now (λ k. IsRow k (place a.tree c.args.strand) c.row-attempt.result) c.self.view_is (subst R f.at c.row-attempt.ensures.row) in
    let may = may_roll (state_of a) c.args.strand fit in
    let attempt = row.made.attempt (is_pending_block (state_of a) a.rows.items a.forks.items a.cells.items a.spent c.self.invariant c.args.strand may.running may.ready may.within) in
    let rows = c.roll_row.ensures
    ∙ ap (λ q. with_row_changed (with_rolled q c.row-own.result.now.place) c.args.strand (with_row_changed (with_tail (aborted_tail c.row-attempt.result.made.attempt)) q a.rows.items)) up
    ∙ ap (λ b. with_row_changed (with_rolled (parent_of a.tree (place a.tree c.args.strand)) b) c.args.strand (with_row_changed (with_tail (aborted_tail c.row-attempt.result.made.attempt)) (parent_of a.tree (place a.tree c.args.strand)) a.rows.items)) f.at in
    roll_kept a c.self.invariant c.args.strand fit o tree refl words undone c.row-attempt.result.made.attempt attempt rows

pub returns : goal.returns
returns c =
    let a = c.self.inside in
    let f = finds c.self.inside c.self.invariant c.args.self.now c.self.view_is c.args.strand (may_roll c.args.self.now c.args.strand c.requires).running c.row-own.result c.row-own.ensures.row in
    let fit = seen c.self.inside c.args.self.now (λ k. fits k (event.Roll c.args.strand) ≡ true) c.self.view_is c.requires in
    let tree : c.abort.new.tree ≡ closed a.tree (place a.tree c.args.strand) Aborted (a.clock + 1) = c.abort.ensures ∙ ap (λ n. closed a.tree n Aborted (a.clock + 1)) f.at in
    let begun : c.node.result.now.stamp ≡ stamp_of a.tree (place a.tree c.args.strand) = sym (ap (number_in (λ x. x.stamp)) c.node.ensures) ∙ ap (stamp_of a.tree) f.at in
    let words : c.end_word.new.gaps.words.items ≡ closed_word a.gaps.words.items (gap_of (state_of a) c.args.strand) (stamp_of a.tree (place a.tree c.args.strand)) =
    c.end_word.ensures ∙ ap (λ g. closed_word a.gaps.words.items g c.node.result.now.stamp) (c.gap-gap.ensures ∙ ap (gap a.tier.columns) f.column) ∙ ap (closed_word a.gaps.words.items (gap_of (state_of a) c.args.strand)) begun in
    let P : ℕ → Type 0 = λ n. AreUndone a.tree n a.cells.items c.undo.new.cells.items in
    let undone = subst P f.at c.undo.ensures in
    let o = record a { tree = c.abort.new.tree; clock = a.clock + 1; gaps = c.end_word.new.gaps; rows = c.roll_row.new.table; cells = c.undo.new.cells } in
    roll_state a c.self.invariant c.args.strand fit o tree refl words undone ∙ ap (λ k. after_event k (event.Roll c.args.strand)) c.self.view_is
