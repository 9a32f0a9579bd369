use Rattle.std.proofs.Common.{◌≡◌, ◌+◌, ap, sym, ◌∙◌, subst, arith, ℕ, true, refl}
use Rattle.cw_tree.specs.declared.node.BlockState.TheVariants.{Committed}
use Rattle.cw_tree.specs.Nodes.{number_in, parent_of, stamp_of, is_block, closed}
use Rattle.cw_tree.specs.Series.{place}
use Rattle.cw_trace.specs.Columns.{gap, closed_word}
use Rattle.cw_core.specs.Events.{fits, after_event}
use Rattle.cw_core.specs.InMemory.{state_of}
use Rattle.cw_core.specs.State.{gap_of}
use Rattle.cw_core.specs.Kept.{with_row_changed, with_tail, with_place, plain_tail}
use Rattle.cw_core.specs.declared.event.Event.TheVariants as event
use Rattle.cw_core.proofs.InMemory.Out.{seen, running_there, finds}
use Rattle.cw_core.proofs.Kept.Commits.{may_commit, block_here, parent_low, commit_state, commit_kept}
use Rattle.cw_core.proofs.cores.Core.commit.Goals as goal

pub row-own-requires : goal.row-own-requires
row-own-requires c =
    running_there c.args.self.now.machine c.args.strand (may_commit c.args.self.now c.args.strand c.requires).running

pub gap-gap-requires : goal.gap-gap-requires
gap-gap-requires c =
    let f = finds c.self.inside c.self.invariant c.args.self.now c.self.view_is c.args.strand (may_commit c.args.self.now c.args.strand c.requires).running c.row-own.result c.row-own.ensures.row in
    f.used

pub parent-parent-requires : goal.parent-parent-requires
parent-parent-requires c =
    let f = finds c.self.inside c.self.invariant c.args.self.now c.self.view_is c.args.strand (may_commit c.args.self.now c.args.strand c.requires).running c.row-own.result c.row-own.ensures.row in
    omega (arith, f.at, f.there)

pub node-requires : goal.node-requires
node-requires c =
    let f = finds c.self.inside c.self.invariant c.args.self.now c.self.view_is c.args.strand (may_commit c.args.self.now c.args.strand c.requires).running c.row-own.result c.row-own.ensures.row in
    omega (arith, f.at, f.there)

pub overflow_add-stamp : goal.overflow_add-stamp
overflow_add-stamp c =
    let f = finds c.self.inside c.self.invariant c.args.self.now c.self.view_is c.args.strand (may_commit c.args.self.now c.args.strand c.requires).running c.row-own.result c.row-own.ensures.row in
    omega (arith, f.clock)

pub close-requires : goal.close-requires
close-requires c =
    let f = finds c.self.inside c.self.invariant c.args.self.now c.self.view_is c.args.strand (may_commit c.args.self.now c.args.strand c.requires).running c.row-own.result c.row-own.ensures.row in
    let fit = seen c.self.inside c.args.self.now (λ k. fits k (event.Commit c.args.strand) ≡ true) c.self.view_is c.requires in
    let Q : ℕ → Type 0 = λ n. is_block c.self.inside.tree n ≡ true in
    subst Q (sym f.at) (block_here (state_of c.self.inside) c.self.inside.rows.items c.self.inside.forks.items c.self.inside.cells.items c.self.inside.spent c.self.invariant c.args.strand fit)

pub end_word-requires : goal.end_word-requires
end_word-requires c =
    let f = finds c.self.inside c.self.invariant c.args.self.now c.self.view_is c.args.strand (may_commit c.args.self.now c.args.strand c.requires).running c.row-own.result c.row-own.ensures.row in
    omega (arith, f.gap, c.gap-gap.ensures)

pub close_row-requires-clause-strand : goal.close_row-requires-clause-strand
close_row-requires-clause-strand c =
    let f = finds c.self.inside c.self.invariant c.args.self.now c.self.view_is c.args.strand (may_commit c.args.self.now c.args.strand c.requires).running c.row-own.result c.row-own.ensures.row in
    omega (arith, f.strand, f.rows)

pub close_row-requires-clause-parent : goal.close_row-requires-clause-parent
close_row-requires-clause-parent c =
    let f = finds c.self.inside c.self.invariant c.args.self.now c.self.view_is c.args.strand (may_commit c.args.self.now c.args.strand c.requires).running c.row-own.result c.row-own.ensures.row in
    let fit = seen c.self.inside c.args.self.now (λ k. fits k (event.Commit c.args.strand) ≡ true) c.self.view_is c.requires in
    let up : c.parent-parent.result ≡ parent_of c.self.inside.tree (place c.self.inside.tree c.args.strand) = c.parent-parent.ensures.parent ∙ ap (parent_of c.self.inside.tree) f.at in
    omega (arith, up, parent_low (state_of c.self.inside) c.self.inside.rows.items c.self.inside.forks.items c.self.inside.cells.items c.self.inside.spent c.self.invariant c.args.strand fit, f.there, f.rows)

pub invariant_of-self : goal.invariant_of-self
invariant_of-self c =
    let f = finds c.self.inside c.self.invariant c.args.self.now c.self.view_is c.args.strand (may_commit c.args.self.now c.args.strand c.requires).running c.row-own.result c.row-own.ensures.row in
    let fit = seen c.self.inside c.args.self.now (λ k. fits k (event.Commit c.args.strand) ≡ true) c.self.view_is c.requires in
    let up : c.parent-parent.result ≡ parent_of c.self.inside.tree (place c.self.inside.tree c.args.strand) = c.parent-parent.ensures.parent ∙ ap (parent_of c.self.inside.tree) f.at in
    let a = c.self.inside in
    let tree : c.close.new.self ≡ closed a.tree (place a.tree c.args.strand) Committed (a.clock + 1) = c.close.ensures ∙ ap (λ n. closed a.tree n Committed (a.clock + 1)) f.at in
    let begun : c.node.result.now.stamp ≡ stamp_of a.tree (place a.tree c.args.strand) = sym (ap (number_in (λ x. x.stamp)) c.node.ensures) ∙ ap (stamp_of a.tree) f.at in
    let words : c.end_word.new.gaps.words.items ≡ closed_word a.gaps.words.items (gap_of (state_of a) c.args.strand) (stamp_of a.tree (place a.tree c.args.strand)) =
    c.end_word.ensures ∙ ap (λ g. closed_word a.gaps.words.items g c.node.result.now.stamp) (c.gap-gap.ensures ∙ ap (gap a.tier.columns) f.column) ∙ ap (closed_word a.gaps.words.items (gap_of (state_of a) c.args.strand)) begun in
    commit_kept a c.self.invariant c.args.strand fit (record a { tree = c.close.new.self; clock = a.clock + 1; gaps = c.end_word.new.gaps; rows = c.close_row.new.table }) tree refl words (c.close_row.ensures ∙ ap (λ q. with_row_changed (with_place q) c.args.strand (with_row_changed (with_tail plain_tail) q a.rows.items)) up)

pub returns : goal.returns
returns c =
    let f = finds c.self.inside c.self.invariant c.args.self.now c.self.view_is c.args.strand (may_commit c.args.self.now c.args.strand c.requires).running c.row-own.result c.row-own.ensures.row in
    let fit = seen c.self.inside c.args.self.now (λ k. fits k (event.Commit c.args.strand) ≡ true) c.self.view_is c.requires in
    let a = c.self.inside in
    let tree : c.close.new.self ≡ closed a.tree (place a.tree c.args.strand) Committed (a.clock + 1) = c.close.ensures ∙ ap (λ n. closed a.tree n Committed (a.clock + 1)) f.at in
    let begun : c.node.result.now.stamp ≡ stamp_of a.tree (place a.tree c.args.strand) = sym (ap (number_in (λ x. x.stamp)) c.node.ensures) ∙ ap (stamp_of a.tree) f.at in
    let words : c.end_word.new.gaps.words.items ≡ closed_word a.gaps.words.items (gap_of (state_of a) c.args.strand) (stamp_of a.tree (place a.tree c.args.strand)) =
    c.end_word.ensures ∙ ap (λ g. closed_word a.gaps.words.items g c.node.result.now.stamp) (c.gap-gap.ensures ∙ ap (gap a.tier.columns) f.column) ∙ ap (closed_word a.gaps.words.items (gap_of (state_of a) c.args.strand)) begun in
    commit_state a c.self.invariant c.args.strand fit (record a { tree = c.close.new.self; clock = a.clock + 1; gaps = c.end_word.new.gaps; rows = c.close_row.new.table }) tree refl words ∙ ap (λ k. after_event k (event.Commit c.args.strand)) c.self.view_is
