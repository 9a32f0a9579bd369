use Rattle.std.proofs.Common.{ap, ◌∙◌, arith, length}
use Rattle.cw_core.specs.InMemory.{state_of}
use Rattle.cw_core.specs.Kept.{with_row_changed, with_joined, with_back}
use Rattle.cw_core.proofs.InMemory.Join.{join_there, may_here, row_here, halves_there, strand_low, merge_low, merge_left, merge_named, join_state, join_kept}
use Rattle.cw_core.proofs.cores.Core.join.Goals as goal

pub row-row-requires : goal.row-row-requires
row-row-requires c =
    join_there c.args.self.now c.args.fork c.requires

pub row-left-requires : goal.row-left-requires
row-left-requires c =
    let may = may_here c.self.inside c.self.invariant c.args.self.now c.self.view_is c.args.fork c.requires in
    let row = row_here c.self.inside c.self.invariant c.args.self.now c.self.view_is c.args.fork c.requires c.args.fork c.row-row.result c.row-row.ensures.row in
    let seen = ap (λ k. length k.machine.tree) c.self.view_is in
    omega (arith, (halves_there (state_of c.self.inside) c.self.inside.rows.items c.self.inside.forks.items c.self.inside.cells.items c.self.inside.spent c.self.invariant c.args.fork may c.row-row.result row).1, seen)

pub row-right-requires : goal.row-right-requires
row-right-requires c =
    let may = may_here c.self.inside c.self.invariant c.args.self.now c.self.view_is c.args.fork c.requires in
    let row = row_here c.self.inside c.self.invariant c.args.self.now c.self.view_is c.args.fork c.requires c.args.fork c.row-row.result c.row-row.ensures.row in
    let seen = ap (λ k. length k.machine.tree) c.self.view_is in
    omega (arith, (halves_there (state_of c.self.inside) c.self.inside.rows.items c.self.inside.forks.items c.self.inside.cells.items c.self.inside.spent c.self.invariant c.args.fork may c.row-row.result row).3, seen)

pub merge_where-requires-clause-low : goal.merge_where-requires-clause-low
merge_where-requires-clause-low c =
    let may = may_here c.self.inside c.self.invariant c.args.self.now c.self.view_is c.args.fork c.requires in
    let row = row_here c.self.inside c.self.invariant c.args.self.now c.self.view_is c.args.fork c.requires c.args.fork c.row-row.result c.row-row.ensures.row in
    merge_low (state_of c.self.inside) c.self.inside.rows.items c.self.inside.forks.items c.self.inside.cells.items c.self.inside.spent c.self.invariant c.args.fork may c.row-row.result row

pub merge_where-requires-clause-left : goal.merge_where-requires-clause-left
merge_where-requires-clause-left c =
    let may = may_here c.self.inside c.self.invariant c.args.self.now c.self.view_is c.args.fork c.requires in
    let row = row_here c.self.inside c.self.invariant c.args.self.now c.self.view_is c.args.fork c.requires c.args.fork c.row-row.result c.row-row.ensures.row in
    merge_left (state_of c.self.inside) c.self.inside.rows.items c.self.inside.forks.items c.self.inside.cells.items c.self.inside.spent c.self.invariant c.args.fork may c.row-row.result row

pub merge_where-requires-clause-split : goal.merge_where-requires-clause-split
merge_where-requires-clause-split c =
    let may = may_here c.self.inside c.self.invariant c.args.self.now c.self.view_is c.args.fork c.requires in
    let row = row_here c.self.inside c.self.invariant c.args.self.now c.self.view_is c.args.fork c.requires c.args.fork c.row-row.result c.row-row.ensures.row in
    merge_named (state_of c.self.inside) c.self.inside.rows.items c.self.inside.forks.items c.self.inside.cells.items c.self.inside.spent c.self.invariant c.args.fork may c.row-row.result row

pub join_rows-requires-clause-fork : goal.join_rows-requires-clause-fork
join_rows-requires-clause-fork c =
    let seen = ap (λ k. length k.machine.tree) c.self.view_is in
    omega (arith, join_there c.args.self.now c.args.fork c.requires, seen, c.self.invariant.rowed.len)

pub join_rows-requires-clause-strand : goal.join_rows-requires-clause-strand
join_rows-requires-clause-strand c =
    let may = may_here c.self.inside c.self.invariant c.args.self.now c.self.view_is c.args.fork c.requires in
    let row = row_here c.self.inside c.self.invariant c.args.self.now c.self.view_is c.args.fork c.requires c.args.fork c.row-row.result c.row-row.ensures.row in
    omega (arith, strand_low (state_of c.self.inside) c.self.inside.rows.items c.self.inside.forks.items c.self.inside.cells.items c.self.inside.spent c.self.invariant c.args.fork may, row.made.strand, c.self.invariant.rowed.len)

pub invariant_of-self-2 : goal.invariant_of-self-2
invariant_of-self-2 c =
    let may = may_here c.self.inside c.self.invariant c.args.self.now c.self.view_is c.args.fork c.requires in
    let row = row_here c.self.inside c.self.invariant c.args.self.now c.self.view_is c.args.fork c.requires c.args.fork c.row-row.result c.row-row.ensures.row in
    let left = row_here c.self.inside c.self.invariant c.args.self.now c.self.view_is c.args.fork c.requires c.row-row.result.made.left c.row-left.result c.row-left.ensures.row in
    let right = row_here c.self.inside c.self.invariant c.args.self.now c.self.view_is c.args.fork c.requires c.row-row.result.made.right c.row-right.result c.row-right.ensures.row in
    let rows = c.join_rows.ensures ∙ ap (λ v. with_row_changed with_joined c.args.fork (with_row_changed (with_back v) c.row-row.result.made.strand c.self.inside.rows.items)) c.least-victim.ensures in
    join_kept c.self.inside c.self.invariant c.args.self.now c.self.view_is c.args.fork c.requires (record c.self.inside { tier = c.merge_where.new.tier; joined = c.push.new.self; rows = c.join_rows.new.table }) c.row-row.result row c.in_ok-push.ensures.ok c.merge_where.ensures c.row-left.result c.row-right.result left right rows

pub returns-clause-ok : goal.returns-clause-ok
returns-clause-ok c =
    let may = may_here c.self.inside c.self.invariant c.args.self.now c.self.view_is c.args.fork c.requires in
    let row = row_here c.self.inside c.self.invariant c.args.self.now c.self.view_is c.args.fork c.requires c.args.fork c.row-row.result c.row-row.ensures.row in
    join_state c.self.inside c.self.invariant c.args.self.now c.self.view_is c.args.fork c.requires (record c.self.inside { tier = c.merge_where.new.tier; joined = c.push.new.self; rows = c.join_rows.new.table }) c.row-row.result row c.in_ok-push.ensures.ok c.merge_where.ensures
