use Rattle.std.proofs.Common.{◌≡◌, ◌<◌, ◌∙◌, suc, length, refl, ap, sym, arith}
use Rattle.cw_strand.specs.Coded.{State}
use Rattle.cw_strand.specs.Saving.{Kept, lowest}
use Rattle.cw_strand.proofs.Lowest.{lowest_behind}
use Rattle.cw_strand.proofs.Returning.{enough_callers, as_many_locals, as_many_scopes, went_back}
use Rattle.cw_strand.proofs.strand.Strand.back.Goals as goal
use Rattle.cw_strand.proofs.strand.Strand.back.Goals.{After-leave}

pub loop-saved-init : goal.loop-saved-init
loop-saved-init c = record { same = refl; rest = refl; enough = enough_callers c.args.saved.now c.args.self.now c.requires }

pub loop-saved-smaller : goal.loop-saved-smaller
loop-saved-smaller c = omega (arith, ap length c.leave.ensures.functions)

-- more functions wait than at the begin
more : (c : After-leave) → c.args.saved.now.callers < length c.loop-saved.self.callers
more c = omega (arith, c.loop-saved-test.true, c.len.ensures, ap (λ (k : Kept). k.callers) c.saved.view_is, ap (λ (s : State). length s.callers) c.self.view_is)

pub loop-saved-preserved : goal.loop-saved-preserved
loop-saved-preserved c =
    let n = suc c.args.saved.now.callers in
    let left = c.leave.ensures.functions in
    let now = c.leave.new.self in
    let was = c.loop-saved.self in
    record {
      same = ap (lowest n) (sym left) ∙ sym (lowest_behind n was.current was.callers (omega (arith, more c))) ∙ c.loop-saved.invariant.same;
      rest = c.leave.ensures.rest ∙ ap (λ (s : State). record s { current = now.current; callers = now.callers }) c.loop-saved.invariant.rest;
      enough = omega (arith, more c, ap length left);
    }

pub leave-requires : goal.leave-requires
leave-requires c = omega (arith, c.loop-saved-test.true, c.len.ensures, ap (λ (s : State). length s.callers) c.self.view_is)

pub stand_again-requires-clause-locals : goal.stand_again-requires-clause-locals
stand_again-requires-clause-locals c =
    let left : length c.loop-saved.self.callers ≡ c.args.saved.now.callers = omega (arith, c.loop-saved-test.false, c.loop-saved.invariant.enough, c.len.ensures, ap (λ (k : Kept). k.callers) c.saved.view_is, ap (λ (s : State). length s.callers) c.self.view_is) in
    as_many_locals c.args.saved.now c.args.self.now c.requires c.loop-saved.self c.loop-saved.invariant.same c.loop-saved.invariant.rest left

pub stand_again-requires-clause-scopes : goal.stand_again-requires-clause-scopes
stand_again-requires-clause-scopes c =
    let left : length c.loop-saved.self.callers ≡ c.args.saved.now.callers = omega (arith, c.loop-saved-test.false, c.loop-saved.invariant.enough, c.len.ensures, ap (λ (k : Kept). k.callers) c.saved.view_is, ap (λ (s : State). length s.callers) c.self.view_is) in
    as_many_scopes c.args.saved.now c.args.self.now c.requires c.loop-saved.self c.loop-saved.invariant.same c.loop-saved.invariant.rest left

pub returns : goal.returns
returns c = λ m.
    let left : length c.loop-saved.self.callers ≡ c.args.saved.now.callers = omega (arith, c.loop-saved-test.false, c.loop-saved.invariant.enough, c.len.ensures, ap (λ (k : Kept). k.callers) c.saved.view_is, ap (λ (s : State). length s.callers) c.self.view_is) in
    c.stand_again.ensures ∙ went_back c.args.saved.now c.args.self.now m c.loop-saved.self c.loop-saved.invariant.same c.loop-saved.invariant.rest left
