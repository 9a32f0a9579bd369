use Rattle.std.proofs.Common.{sym, refl, ◌∙◌, arith, inl, inr}
use Rattle.cw_order.proofs.Rows.{row_alone, row_back, row_from, row_from_on, row_whole}
use Rattle.cw_order.proofs.ring.Ring.sparse_run.Goals as goal
use Rattle.cw_order.proofs.ring.Ring.sparse_run.Goals.{then-loop-run-test+else-label-size, else-loop-run-test}

pub loop-run-init : goal.loop-run-init
loop-run-init c = record {
  place = c.requires.place;
  some = omega arith;
  few = omega (arith, c.requires.most);
  row = λ xs ring has. row_alone xs c.args.at has;
}

pub loop-run-preserved : goal.loop-run-preserved
loop-run-preserved c = record {
  place = c.previous-in-loop-run.ensures.place;
  some = omega arith;
  few = omega arith;
  row = λ xs ring has. row_back c.args.self.now xs c.args.at c.args.at c.previous-in-loop-run.result _ c.loop-run.run ring (c.loop-run.invariant.row xs ring has) c.loop-run-test.true c.previous-in-loop-run.ensures.value refl;
}

pub loop-run-2-init : goal.loop-run-2-init
loop-run-2-init c = record {
  place = c.loop-run.invariant.place;
  last = c.requires.place;
  some = c.loop-run.invariant.some;
  few = c.loop-run.invariant.few;
  row = λ xs ring has. row_from c.args.self.now xs c.args.at c.args.size c.args.at c.loop-run.run c.requires.size ring (c.loop-run.invariant.row xs ring has) (
      elim c.loop-run-test.branch [
        | then-loop-run-test+else-label-size w ↦ inr (λ q. w.if-label-size.false (let e = w.label-in-loop-run.ensures in let f = w.previous.ensures.value in cc (q, c.label.ensures)))
        | else-loop-run-test w ↦ inl w.loop-run-test.false
      ]
      );
}

pub loop-run-2-preserved : goal.loop-run-2-preserved
loop-run-2-preserved c = record {
  place = c.loop-run-2.invariant.place;
  last = c.next-last.ensures.place;
  some = omega arith;
  few = omega arith;
  row = λ xs ring has. row_from_on c.args.self.now xs c.args.at c.args.size c.loop-run-2.last c.next-last.result _ c.loop-run-2.run ring (c.loop-run-2.invariant.row xs ring has) (λ q. c.loop-run-2-test.true (c.next.ensures.value ∙ (sym c.next-last.ensures.value ∙ q))) c.next-last.ensures.value refl;
}

pub returns-else-label-size-2-clause-run : goal.returns-else-label-size-2-clause-run
returns-else-label-size-2-clause-run c = λ xs ring has.
    row_whole c.args.self.now xs c.args.at c.args.size c.loop-run-2.last c.loop-run-2.run c.requires.size ring (c.loop-run-2.invariant.row xs ring has) (inr (λ q. c.if-label-size-2.false (cc (q, c.label.ensures, c.label-in-loop-run-2.ensures, c.next-in-loop-run-2.ensures.value))))

pub returns-after-loop-run-2-clause-run : goal.returns-after-loop-run-2-clause-run
returns-after-loop-run-2-clause-run c = λ xs ring has.
    row_whole c.args.self.now xs c.args.at c.args.size c.loop-run-2.last c.loop-run-2.run c.requires.size ring (c.loop-run-2.invariant.row xs ring has) (inl (sym c.next.ensures.value ∙ c.loop-run-2-test.false))
