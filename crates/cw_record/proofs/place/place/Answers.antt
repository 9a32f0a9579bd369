use Rattle.std.proofs.Common.{arith, ap, sym, ◌∙◌, ◌≡◌, ◌-◌, false, nat_eq, length}
use Rattle.std.specs.Prelude.{◌&&◌, unwrap_or}
use Rattle.std.proofs.lemmas.Bool.{eq-eqb, ne_eqb, and_from, and_left, and_right}
use Rattle.cw_tree.specs.Nodes.{is_pending}
use Rattle.cw_tree.specs.Series.{strand_of}
use Rattle.cw_record.proofs.Orders.Scans.{table_len, table_at, last_found, last_passed}
use Rattle.cw_record.proofs.place.place.Goals as goal
use Rattle.cw_record.proofs.place.place.Goals.{else-is_pending-via-then-is_pending+else-strands-n, else-is_pending-via-else-is_pending}

pub bounds-strands-n : goal.bounds-strands-n
bounds-strands-n c = let there = c.loop-n.invariant.there in omega (arith, table_len (strand_of c.args.tree.now) c.args.strands.now (length c.args.tree.now) c.requires)

pub returns-then-strands-n : goal.returns-then-strands-n
returns-then-strands-n c =
    let t = c.args.tree.now in
    let s = c.args.strand in
    let n = c.loop-n.n in
    let there = c.loop-n.invariant.there in
    let read = table_at (strand_of t) c.args.strands.now (length t) (n - 1) c.requires (omega arith) in
    sym (ap (λ o. unwrap_or o s) (last_found (λ m. is_pending t m && nat_eq (strand_of t m) s) n (omega arith) (
    and_from (is_pending t (n - 1)) (nat_eq (strand_of t (n - 1)) s) (sym c.if-is_pending.ensures) (eq-eqb (strand_of t (n - 1)) s (sym read ∙ c.if-strands-n.true))
    )))
    ∙ c.loop-n.invariant.same

pub loop-n-preserved : goal.loop-n-preserved
loop-n-preserved c =
    let t = c.args.tree.now in
    let s = c.args.strand in
    let n = c.loop-n.n in
    let there = c.loop-n.invariant.there in
    let read = table_at (strand_of t) c.args.strands.now (length t) (n - 1) c.requires (omega arith) in
    let other : (is_pending t (n - 1) && nat_eq (strand_of t (n - 1)) s) ≡ false =
    elim c.else-is_pending.branch [
      | else-is_pending-via-then-is_pending+else-strands-n w ↦ and_right (is_pending t (n - 1)) (nat_eq (strand_of t (n - 1)) s) (ne_eqb (strand_of t (n - 1)) s (λ e. w.if-strands-n.false (read ∙ e)))
      | else-is_pending-via-else-is_pending w ↦ and_left (is_pending t (n - 1)) (nat_eq (strand_of t (n - 1)) s) (sym c.is_pending.ensures ∙ w.if-is_pending.false)
    ]
    in
    record { there = omega arith; same = sym (ap (λ o. unwrap_or o s) (last_passed (λ m. is_pending t m && nat_eq (strand_of t m) s) n (omega arith) other)) ∙ c.loop-n.invariant.same }
