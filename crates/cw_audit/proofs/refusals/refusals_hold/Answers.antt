use Rattle.std.proofs.Common.{◌↔◌, ℕ, Bool, List, All, subst}
use Rattle.std.specs.Prelude.{IsTrue, IfOk}
use Rattle.std.proofs.lemmas.Result.{IfOk-weaker}
use Rattle.cw_tree.specs.declared.conflict.Conflict.{Conflict}
use Rattle.cw_tree.specs.declared.node.Node.{Node}
use Rattle.cw_tree.specs.Nodes.{is_strand}
use Rattle.cw_tree.specs.Refusals.{IsRecorded, MaySpend}
use Rattle.cw_record.specs.declared.record_end.RecordEnd.{RecordEnd}
use Rattle.cw_record.specs.Coherent.{halt_of}
use Rattle.cw_record.specs.Order.{ending_strand}
use Rattle.cw_audit.specs.Parts.{RefusalsHold}
use Rattle.cw_audit.specs.Victims.{AskersAreRefused, VictimsFit}
use Rattle.cw_audit.proofs.refusals.refusals_hold.Goals as goal

-- the last fact decides, once the others hold
whole : (t : List Node) (cs : List Conflict) (budget : ℕ) (e : RecordEnd) → AskersAreRefused t cs → VictimsFit t cs → (IsTrue (is_strand t (ending_strand e)) → MaySpend t cs budget (halt_of e))
    → (b : Bool) → IsTrue b ↔ All (IsRecorded t) cs → IsTrue b ↔ RefusalsHold t cs budget e
whole t cs budget e each fit spent b w = (
  λ h. record {
    refused = record { each = each; recorded = w.0 h; aborted = λ n l. (fit n l).aborted; committed = λ n l. (fit n l).committed };
    spent = spent;
  },
  λ r. w.1 r.refused.recorded,
)

pub returns : goal.returns
returns c =
    let sheet = c.args.sheet.now in
    let t = sheet.tree in
    let cs = c.as_slice-conflicts.result.now in
    let budget = sheet.limits.aborts in
    let each = c.in_ok-askers_are_refused.ensures.0 c.if-not-branch.false in
    let fit = c.in_ok-victims_fit.ensures.0 c.if-not-branch-2.false in
    let spent = c.in_ok-spent_holds.ensures.0 c.if-not-branch-3.false in
    let P : List Conflict → Type 0 = λ ks. IfOk c.are_recorded.result (λ b. IsTrue b ↔ RefusalsHold t ks budget sheet.end) in
    subst P c.as_slice-conflicts.ensures (
    IfOk-weaker c.are_recorded.result (λ b. IsTrue b ↔ All (IsRecorded t) cs) (λ b. IsTrue b ↔ RefusalsHold t cs budget sheet.end)
    (whole t cs budget sheet.end each fit spent) c.are_recorded.ensures)
