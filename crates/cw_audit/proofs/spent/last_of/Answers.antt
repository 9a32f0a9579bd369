use Rattle.std.proofs.Common.{arith, ap, sym, ◌∙◌, nat_eq, length, ◌-◌}
use Rattle.std.specs.Prelude.{unwrap_or}
use Rattle.std.proofs.lemmas.Bool.{eq-eqb, ne_eqb}
use Rattle.cw_tree.specs.Series.{strand_of}
use Rattle.cw_record.proofs.Orders.Scans.{table_len, table_at, last_found, last_passed}
use Rattle.cw_audit.proofs.spent.last_of.Goals as goal

pub bounds-strands-n : goal.bounds-strands-n
bounds-strands-n c = let there = c.loop-n.invariant.there in omega (arith, table_len (strand_of c.args.tree.now) c.args.strands.now (length c.args.tree.now) c.requires)

pub returns-then-strands-n : goal.returns-then-strands-n
returns-then-strands-n c =
    let t = c.args.tree.now in
    let n = c.loop-n.n in
    let there = c.loop-n.invariant.there in
    let read = table_at (strand_of t) c.args.strands.now (length t) (n - 1) c.requires (omega arith) in
    sym (ap (λ o. unwrap_or o c.args.strand) (last_found (λ m. nat_eq (strand_of t m) c.args.strand) n (omega arith) (eq-eqb (strand_of t (n - 1)) c.args.strand (sym read ∙ c.if-strands-n.true))))
    ∙ c.loop-n.invariant.same

pub loop-n-preserved : goal.loop-n-preserved
loop-n-preserved c =
    let t = c.args.tree.now in
    let n = c.loop-n.n in
    let there = c.loop-n.invariant.there in
    let read = table_at (strand_of t) c.args.strands.now (length t) (n - 1) c.requires (omega arith) in
    record {
      there = omega arith;
      same = sym (ap (λ o. unwrap_or o c.args.strand) (last_passed (λ m. nat_eq (strand_of t m) c.args.strand) n (omega arith) (ne_eqb (strand_of t (n - 1)) c.args.strand (λ e. c.if-strands-n.false (read ∙ e)))))
          ∙ c.loop-n.invariant.same;
    }
