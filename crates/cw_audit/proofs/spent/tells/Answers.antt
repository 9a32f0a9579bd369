use Rattle.std.proofs.Common.{arith, ap, sym, ◌∙◌, nat_eq, length, Some}
use Rattle.cw_tree.specs.Series.{strand_of}
use Rattle.cw_record.proofs.Orders.Scans.{table_len, table_at}
use Rattle.cw_record.proofs.Orders.Tells.{tells_block}
use Rattle.cw_audit.proofs.spent.tells.Goals as goal

pub bounds-strands-block : goal.bounds-strands-block
bounds-strands-block c = omega (arith, table_len (strand_of c.args.tree.now) c.args.strands.now (length c.args.tree.now) c.requires.strands, c.in-Some.ensures.there)

pub returns-in-Some : goal.returns-in-Some
returns-in-Some c =
    let t = c.args.tree.now in
    ap (λ k. nat_eq k c.args.strand) (table_at (strand_of t) c.args.strands.now (length t) c.in-Some.block c.requires.strands c.in-Some.ensures.there)
    ∙ sym (tells_block t c.args.strand c.args.conflict.now (Some c.in-Some.block) c.if-conflict-eq0.false c.in-Some.ensures.result)
