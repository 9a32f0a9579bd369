use Rattle.std.proofs.Common.{◌/◌, ap, sym, ◌∙◌, arith, length, refl}
use Rattle.std.proofs.lemmas.Option.{slice_get_read}
use Rattle.cw_core.specs.InMemory.{state_of}
use Rattle.cw_core.proofs.InMemory.Split.{split_there, cuts, split_state, split_kept, split_reply, early_state, early_reply, before, popped}
use Rattle.cw_core.proofs.cores.Core.split.Goals as goal

pub row-column-requires : goal.row-column-requires
row-column-requires c =
    split_there c.args.self.now c.args.fork c.requires

pub split-requires-clause-low : goal.split-requires-clause-low
split-requires-clause-low c =
    let f = cuts c.self.inside c.self.invariant c.args.self.now c.self.view_is c.args.fork c.requires c.row-column.result c.row-column.ensures.row in
    f.low

pub split-requires-clause-left : goal.split-requires-clause-left
split-requires-clause-left c =
    let f = cuts c.self.inside c.self.invariant c.args.self.now c.self.view_is c.args.fork c.requires c.row-column.result c.row-column.ensures.row in
    f.left

pub split-requires-clause-whole : goal.split-requires-clause-whole
split-requires-clause-whole c =
    let f = cuts c.self.inside c.self.invariant c.args.self.now c.self.view_is c.args.fork c.requires c.row-column.result c.row-column.ensures.row in
    f.whole

pub split_row-requires : goal.split_row-requires
split_row-requires c =
    let f = cuts c.self.inside c.self.invariant c.args.self.now c.self.view_is c.args.fork c.requires c.row-column.result c.row-column.ensures.row in
    omega (arith, f.fork, f.rows)

pub invariant_of-self-in-Ok : goal.invariant_of-self-in-Ok
invariant_of-self-in-Ok c =
    split_kept c.self.inside c.self.invariant c.args.self.now c.self.view_is c.args.fork c.requires c.row-column.result c.row-column.ensures.row (record c.self.inside { tier = c.split.new.self; splits = c.push.new.self; rows = c.split_row.new.table }) c.in-Ok.ensures.now c.in-Ok.ensures.split c.in_ok-push.ensures.ok c.split_row.ensures

pub returns-in-Ok-clause-ok : goal.returns-in-Ok-clause-ok
returns-in-Ok-clause-ok c =
    split_state c.self.inside c.self.invariant c.args.self.now c.self.view_is c.args.fork c.requires c.row-column.result c.row-column.ensures.row (record c.self.inside { tier = c.split.new.self; splits = c.push.new.self; rows = c.split_row.new.table }) c.in-Ok.ensures.now c.in-Ok.ensures.split c.in_ok-push.ensures.ok

pub returns-in-Ok-clause-reply : goal.returns-in-Ok-clause-reply
returns-in-Ok-clause-reply c =
    split_reply c.self.inside c.self.invariant c.args.self.now c.self.view_is c.args.fork c.requires c.row-column.result c.row-column.ensures.row (record c.self.inside { tier = c.split.new.self; splits = c.push.new.self; rows = c.split_row.new.table }) c.in-Ok.ensures.now

pub index-before-requires : goal.index-before-requires
index-before-requires c =
    let w = before c.self.inside c.self.invariant c.args.self.now c.self.view_is c.args.fork c.requires c.row-column.result c.row-column.ensures.row c.self.inside c.in-Err.field-0.before c.in-Err.ensures.barred in
    omega (arith, w.low)

pub returns-in-Err-clause-ok : goal.returns-in-Err-clause-ok
returns-in-Err-clause-ok c =
    let back = popped c.pop.result c.push.new.self c.pop.new.self c.self.inside.splits c.row-column.result.made.column c.pop.ensures c.in_ok-push.ensures.ok in
    ap (λ t. state_of (record c.self.inside { tier = t; splits = c.pop.new.self })) c.in-Err.ensures.err
    ∙ ap (λ ss. state_of (record c.self.inside { splits = ss })) back
    ∙ c.self.view_is
    ∙ sym (early_state c.self.inside c.self.invariant c.args.self.now c.self.view_is c.args.fork c.requires c.row-column.result c.row-column.ensures.row c.self.inside c.in-Err.field-0.before c.in-Err.ensures.early)

pub returns-in-Err-clause-reply : goal.returns-in-Err-clause-reply
returns-in-Err-clause-reply c =
    let w = before c.self.inside c.self.invariant c.args.self.now c.self.view_is c.args.fork c.requires c.row-column.result c.row-column.ensures.row c.self.inside c.in-Err.field-0.before c.in-Err.ensures.barred in
    let at = slice_get_read c.self.inside.forks.items (length c.self.inside.forks.items) (c.in-Err.field-0.before / 2) c.index-before.result.now refl w.low c.index-before.ensures in
    early_reply c.self.inside c.self.invariant c.args.self.now c.self.view_is c.args.fork c.requires c.row-column.result c.row-column.ensures.row c.self.inside c.in-Err.field-0.before c.in-Err.ensures.early c.in-Err.ensures.barred c.index-before.result.now at
