use Rattle.std.proofs.Common.{◌≡◌, ◌+◌, ◌++◌, [], ◌∷◌, length, refl, ap, sym, ◌∙◌, arith, rules, true, false}
use Rattle.std.specs.Prelude.{slice_index, vec_len}
use Rattle.std.proofs.lemmas.Option.{slice_get_read, get_or_from_slice_get}
use Rattle.cw_tree.specs.Series.{place}
use Rattle.cw_tree.specs.NextNodes.{fork_nodes}
use Rattle.cw_trace.specs.Columns.{gap, used, forked}
use Rattle.cw_core.specs.Kept.{with_row_changed, with_tail, with_wait, plain_tail, fork_rows}
use Rattle.cw_core.specs.InMemory.{state_of}
use Rattle.cw_core.specs.State.{column_of, gap_of}
use Rattle.cw_core.specs.Events.{fits, may_fork, after_event}
use Rattle.cw_core.specs.declared.event.Event.TheVariants as event
use Rattle.cw_core.proofs.InMemory.Out.{seen, running_there, finds}
use Rattle.cw_core.proofs.InMemory.Fork.{runs_fork, may, may_not, fork_state, fork_kept, fork_reply, inline_reply}
use Rattle.cw_core.proofs.cores.Core.fork.Goals as goal

pub row-own-requires : goal.row-own-requires
row-own-requires c = running_there c.args.self.now.machine c.args.strand (runs_fork c.args.self.now c.args.strand c.requires)

pub gap-gap-requires : goal.gap-gap-requires
gap-gap-requires c =
    let f = finds c.self.inside c.self.invariant c.args.self.now c.self.view_is c.args.strand (runs_fork c.args.self.now c.args.strand c.requires) c.row-own.result c.row-own.ensures.row in
    f.used

pub index-word-requires : goal.index-word-requires
index-word-requires c =
    let f = finds c.self.inside c.self.invariant c.args.self.now c.self.view_is c.args.strand (runs_fork c.args.self.now c.args.strand c.requires) c.row-own.result c.row-own.ensures.row in
    omega (arith, f.gap, c.gap-gap.ensures)

pub overflow_add-stamp : goal.overflow_add-stamp
overflow_add-stamp c =
    let f = finds c.self.inside c.self.invariant c.args.self.now c.self.view_is c.args.strand (runs_fork c.args.self.now c.args.strand c.requires) c.row-own.result c.row-own.ensures.row in
    omega (arith, f.clock)

pub fork-requires : goal.fork-requires
fork-requires c =
    let f = finds c.self.inside c.self.invariant c.args.self.now c.self.view_is c.args.strand (runs_fork c.args.self.now c.args.strand c.requires) c.row-own.result c.row-own.ensures.row in
    omega (arith, f.at, f.there)

pub fork-requires-2 : goal.fork-requires-2
fork-requires-2 c =
    let f = finds c.self.inside c.self.invariant c.args.self.now c.self.view_is c.args.strand (runs_fork c.args.self.now c.args.strand c.requires) c.row-own.result c.row-own.ensures.row in
    f.used

pub put_fork-requires-clause-strand : goal.put_fork-requires-clause-strand
put_fork-requires-clause-strand c =
    let f = finds c.self.inside c.self.invariant c.args.self.now c.self.view_is c.args.strand (runs_fork c.args.self.now c.args.strand c.requires) c.row-own.result c.row-own.ensures.row in
    omega (arith, f.strand, f.rows, c.reserve.ensures.len)

pub put_fork-requires-clause-place : goal.put_fork-requires-clause-place
put_fork-requires-clause-place c =
    let f = finds c.self.inside c.self.invariant c.args.self.now c.self.view_is c.args.strand (runs_fork c.args.self.now c.args.strand c.requires) c.row-own.result c.row-own.ensures.row in
    omega (arith, f.at, f.there, f.rows, c.reserve.ensures.len)

pub invariant_of-self-in-Ok : goal.invariant_of-self-in-Ok
invariant_of-self-in-Ok c =
    let s = c.args.strand in
    let a = c.self.inside in
    let f = finds c.self.inside c.self.invariant c.args.self.now c.self.view_is c.args.strand (runs_fork c.args.self.now c.args.strand c.requires) c.row-own.result c.row-own.ensures.row in
    let fit = seen a c.args.self.now (λ k. fits k (event.Fork s) ≡ true) c.self.view_is c.requires in
    let grown : c.fork.new.self ≡ a.tree ++ fork_nodes (length a.tree) (place a.tree s) (a.clock + 1) = c.in_ok-fork.ensures.ok ∙ ap (λ q. a.tree ++ fork_nodes (length a.tree) q (a.clock + 1)) f.at in
    let e = may a.tier.columns c.in-Ok.ensures.room in
    let at = slice_get_read a.gaps.words.items (vec_len a.gaps.words) c.gap-gap.result c.index-word.result.now (search rules) (omega (arith, f.gap, c.gap-gap.ensures)) c.index-word.ensures in
    let word : c.index-word.result.now ≡ slice_index a.gaps.words.items (gap_of (state_of a) s) =
    sym (get_or_from_slice_get a.gaps.words.items c.gap-gap.result c.index-word.result.now 0 at) ∙ ap (slice_index a.gaps.words.items) (c.gap-gap.ensures ∙ ap (gap a.tier.columns) f.column) in
    let columns : c.fork-2.new.self.columns ≡ forked (slice_index a.gaps.words.items (gap_of (state_of a) s)) (column_of (state_of a) s) a.tier.columns =
    c.in-Ok.ensures.forked ∙ ap (λ w. forked w c.row-own.result.made.column a.tier.columns) word ∙ ap (λ i. forked (slice_index a.gaps.words.items (gap_of (state_of a) s)) i a.tier.columns) f.column in
    let rows : c.put_fork.new.table.items ≡ with_row_changed with_wait s (with_row_changed (with_tail plain_tail) (place a.tree s) a.rows.items ++ fork_rows s (used a.tier.columns) (used a.tier.columns + 1) (length a.tree) true) =
    c.put_fork.ensures
    ∙ ap (λ q. with_row_changed with_wait s (with_row_changed (with_tail plain_tail) q c.reserve.new.self.items ++ fork_rows s c.in-Ok.columns.0 c.in-Ok.columns.1 c.in_ok-fork.fork true)) f.at
    ∙ ap (λ rs. with_row_changed with_wait s (with_row_changed (with_tail plain_tail) (place a.tree s) rs ++ fork_rows s c.in-Ok.columns.0 c.in-Ok.columns.1 c.in_ok-fork.fork true)) c.reserve.ensures.items
    ∙ ap (λ n. with_row_changed with_wait s (with_row_changed (with_tail plain_tail) (place a.tree s) a.rows.items ++ fork_rows s c.in-Ok.columns.0 c.in-Ok.columns.1 n true)) c.in_ok-fork.ensures.number
    ∙ ap (λ l. with_row_changed with_wait s (with_row_changed (with_tail plain_tail) (place a.tree s) a.rows.items ++ fork_rows s l c.in-Ok.columns.1 (length a.tree) true)) c.in-Ok.ensures.strands.0
    ∙ ap (λ r. with_row_changed with_wait s (with_row_changed (with_tail plain_tail) (place a.tree s) a.rows.items ++ fork_rows s (used a.tier.columns) r (length a.tree) true)) c.in-Ok.ensures.strands.1 in
    let forks : c.push_reserved.new.self.items ≡ a.forks.items ++ length a.tree ∷ [] =
    c.push_reserved.ensures.items ∙ ap (λ fs. fs ++ c.in_ok-fork.fork ∷ []) c.reserve-2.ensures.items ∙ ap (λ n. a.forks.items ++ n ∷ []) c.in_ok-fork.ensures.number in
    fork_kept a c.self.invariant s fit true e (record a { tree = c.fork.new.self; rows = c.put_fork.new.table; clock = a.clock + 1; tier = c.fork-2.new.self; forks = c.push_reserved.new.self }) grown refl columns c.in_ok-fork.ensures.few rows forks

pub returns-in-Ok-clause-ok : goal.returns-in-Ok-clause-ok
returns-in-Ok-clause-ok c =
    let s = c.args.strand in
    let a = c.self.inside in
    let f = finds c.self.inside c.self.invariant c.args.self.now c.self.view_is c.args.strand (runs_fork c.args.self.now c.args.strand c.requires) c.row-own.result c.row-own.ensures.row in
    let fit = seen a c.args.self.now (λ k. fits k (event.Fork s) ≡ true) c.self.view_is c.requires in
    let grown : c.fork.new.self ≡ a.tree ++ fork_nodes (length a.tree) (place a.tree s) (a.clock + 1) = c.in_ok-fork.ensures.ok ∙ ap (λ q. a.tree ++ fork_nodes (length a.tree) q (a.clock + 1)) f.at in
    let e = may a.tier.columns c.in-Ok.ensures.room in
    let at = slice_get_read a.gaps.words.items (vec_len a.gaps.words) c.gap-gap.result c.index-word.result.now (search rules) (omega (arith, f.gap, c.gap-gap.ensures)) c.index-word.ensures in
    let word : c.index-word.result.now ≡ slice_index a.gaps.words.items (gap_of (state_of a) s) =
    sym (get_or_from_slice_get a.gaps.words.items c.gap-gap.result c.index-word.result.now 0 at) ∙ ap (slice_index a.gaps.words.items) (c.gap-gap.ensures ∙ ap (gap a.tier.columns) f.column) in
    let columns : c.fork-2.new.self.columns ≡ forked (slice_index a.gaps.words.items (gap_of (state_of a) s)) (column_of (state_of a) s) a.tier.columns =
    c.in-Ok.ensures.forked ∙ ap (λ w. forked w c.row-own.result.made.column a.tier.columns) word ∙ ap (λ i. forked (slice_index a.gaps.words.items (gap_of (state_of a) s)) i a.tier.columns) f.column in
    fork_state a c.self.invariant s fit true e (record a { tree = c.fork.new.self; rows = c.put_fork.new.table; clock = a.clock + 1; tier = c.fork-2.new.self; forks = c.push_reserved.new.self }) grown refl columns
    ∙ ap (λ k. after_event k (event.Fork s)) c.self.view_is

pub returns-in-Ok-clause-reply : goal.returns-in-Ok-clause-reply
returns-in-Ok-clause-reply c =
    let e = sym (ap may_fork c.self.view_is) ∙ (may c.self.inside.tier.columns c.in-Ok.ensures.room) in
    fork_reply c.args.self.now c.args.strand c.in_ok-fork.fork (c.in_ok-fork.fork + 1) (c.in_ok-fork.fork + 2) e (c.in_ok-fork.ensures.number ∙ ap (λ k. length k.machine.tree) c.self.view_is) refl refl

pub put_fork-requires-in-Err-clause-strand : goal.put_fork-requires-in-Err-clause-strand
put_fork-requires-in-Err-clause-strand c =
    let f = finds c.self.inside c.self.invariant c.args.self.now c.self.view_is c.args.strand (runs_fork c.args.self.now c.args.strand c.requires) c.row-own.result c.row-own.ensures.row in
    omega (arith, f.strand, f.rows, c.reserve.ensures.len)

pub put_fork-requires-in-Err-clause-place : goal.put_fork-requires-in-Err-clause-place
put_fork-requires-in-Err-clause-place c =
    let f = finds c.self.inside c.self.invariant c.args.self.now c.self.view_is c.args.strand (runs_fork c.args.self.now c.args.strand c.requires) c.row-own.result c.row-own.ensures.row in
    omega (arith, f.at, f.there, f.rows, c.reserve.ensures.len)

pub invariant_of-self-in-Err : goal.invariant_of-self-in-Err
invariant_of-self-in-Err c =
    let s = c.args.strand in
    let a = c.self.inside in
    let f = finds c.self.inside c.self.invariant c.args.self.now c.self.view_is c.args.strand (runs_fork c.args.self.now c.args.strand c.requires) c.row-own.result c.row-own.ensures.row in
    let fit = seen a c.args.self.now (λ k. fits k (event.Fork s) ≡ true) c.self.view_is c.requires in
    let grown : c.fork.new.self ≡ a.tree ++ fork_nodes (length a.tree) (place a.tree s) (a.clock + 1) = c.in_ok-fork.ensures.ok ∙ ap (λ q. a.tree ++ fork_nodes (length a.tree) q (a.clock + 1)) f.at in
    let e = may_not a.tier.columns c.in-Err.ensures.inline in
    let columns : c.fork-2.new.self.columns ≡ a.tier.columns = ap (λ t. t.columns) c.in-Err.ensures.err in
    let rows : c.put_fork-in-Err.new.table.items ≡ with_row_changed with_wait s (with_row_changed (with_tail plain_tail) (place a.tree s) a.rows.items ++ fork_rows s (column_of (state_of a) s) (column_of (state_of a) s) (length a.tree) false) =
    c.put_fork-in-Err.ensures
    ∙ ap (λ q. with_row_changed with_wait s (with_row_changed (with_tail plain_tail) q c.reserve.new.self.items ++ fork_rows s c.row-own.result.made.column c.row-own.result.made.column c.in_ok-fork.fork false)) f.at
    ∙ ap (λ rs. with_row_changed with_wait s (with_row_changed (with_tail plain_tail) (place a.tree s) rs ++ fork_rows s c.row-own.result.made.column c.row-own.result.made.column c.in_ok-fork.fork false)) c.reserve.ensures.items
    ∙ ap (λ n. with_row_changed with_wait s (with_row_changed (with_tail plain_tail) (place a.tree s) a.rows.items ++ fork_rows s c.row-own.result.made.column c.row-own.result.made.column n false)) c.in_ok-fork.ensures.number
    ∙ ap (λ i. with_row_changed with_wait s (with_row_changed (with_tail plain_tail) (place a.tree s) a.rows.items ++ fork_rows s i i (length a.tree) false)) f.column in
    fork_kept a c.self.invariant s fit false e (record a { tree = c.fork.new.self; rows = c.put_fork-in-Err.new.table; clock = a.clock + 1; tier = c.fork-2.new.self; forks = c.reserve-2.new.self }) grown refl columns c.in_ok-fork.ensures.few rows c.reserve-2.ensures.items

pub returns-in-Err-clause-ok : goal.returns-in-Err-clause-ok
returns-in-Err-clause-ok c =
    let s = c.args.strand in
    let a = c.self.inside in
    let f = finds c.self.inside c.self.invariant c.args.self.now c.self.view_is c.args.strand (runs_fork c.args.self.now c.args.strand c.requires) c.row-own.result c.row-own.ensures.row in
    let fit = seen a c.args.self.now (λ k. fits k (event.Fork s) ≡ true) c.self.view_is c.requires in
    let grown : c.fork.new.self ≡ a.tree ++ fork_nodes (length a.tree) (place a.tree s) (a.clock + 1) = c.in_ok-fork.ensures.ok ∙ ap (λ q. a.tree ++ fork_nodes (length a.tree) q (a.clock + 1)) f.at in
    let e = may_not a.tier.columns c.in-Err.ensures.inline in
    let columns : c.fork-2.new.self.columns ≡ a.tier.columns = ap (λ t. t.columns) c.in-Err.ensures.err in
    fork_state a c.self.invariant s fit false e (record a { tree = c.fork.new.self; rows = c.put_fork-in-Err.new.table; clock = a.clock + 1; tier = c.fork-2.new.self; forks = c.reserve-2.new.self }) grown refl columns
    ∙ ap (λ k. after_event k (event.Fork s)) c.self.view_is

pub returns-in-Err-clause-reply : goal.returns-in-Err-clause-reply
returns-in-Err-clause-reply c =
    let e = sym (ap may_fork c.self.view_is) ∙ (may_not c.self.inside.tier.columns c.in-Err.ensures.inline) in
    inline_reply c.args.self.now c.args.strand c.in_ok-fork.fork (c.in_ok-fork.fork + 1) (c.in_ok-fork.fork + 2) e (c.in_ok-fork.ensures.number ∙ ap (λ k. length k.machine.tree) c.self.view_is) refl refl
