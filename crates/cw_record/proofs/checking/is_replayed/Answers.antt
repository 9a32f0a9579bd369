use Rattle.std.proofs.Common.{◌≡◌, true, sym, ◌∙◌, subst, ap}
use Rattle.std.specs.Prelude.{◌↔◌, IsTrue}
use Rattle.std.proofs.lemmas.Result.{IfOk-weaker}
use Rattle.cw_serial.specs.declared.ends.SerialEnd.{SerialEnd}
use Rattle.cw_tree.specs.Nodes.{is_strand}
use Rattle.cw_record.specs.Order.{ending_strand, order_of}
use Rattle.cw_record.specs.Replay.{SameEnd}
use Rattle.cw_record.specs.Records.{IsReplayed}
use Rattle.cw_record.specs.Replaying.{ItemsAreDone}
use Rattle.cw_record.proofs.Replay.OneRun.{same_end, replays_if_done}
use Rattle.cw_record.proofs.checking.is_replayed.Goals as goal
use Rattle.cw_record.proofs.checking.is_replayed.Goals.{then-not-has_named_strand-via-then-not-has_named_strand, then-not-has_named_strand-via-else-not-has_named_strand+then-not-is_same_end}

pub returns-then-not-has_named_strand : goal.returns-then-not-has_named_strand
returns-then-not-has_named_strand c =
    let r = c.args.kept.now in
    let E : SerialEnd → Type 0 = λ e. SameEnd r.end r.order e in
    elim c.then-not-has_named_strand.branch [
      | then-not-has_named_strand-via-then-not-has_named_strand w ↦ (λ h. absurd (cc h), λ h. let yes = h.strand in let no = w.if-not-has_named_strand.true in let is = c.has_named_strand.ensures in cc)
      | then-not-has_named_strand-via-else-not-has_named_strand+then-not-is_same_end w ↦ (λ h. absurd (cc h), λ h. let yes = w.is_same_end.ensures.1 (subst E (sym c.requires.end) (same_end r c.nodes.ensures.numbered.rooted c.nodes.ensures.numbered.root h)) in let no = w.if-not-is_same_end.true in cc)
    ]

pub returns : goal.returns
returns c =
    let r = c.args.kept.now in
    let E : SerialEnd → Type 0 = λ e. SameEnd r.end r.order e in
    let strand : is_strand r.tree (ending_strand r.end) ≡ true = (let yes = c.if-not-has_named_strand.false in let is = c.has_named_strand.ensures in cc) in
    let order : r.order ≡ order_of r.tree r.conflicts r.limits.aborts r.end = c.same_picks.ensures.0 c.if-not-same_picks.false ∙ (c.in_ok-order.ensures ∙ ap (λ cs. order_of r.tree cs r.limits.aborts r.end) c.as_slice.ensures) in
    let end = subst E c.requires.end (c.is_same_end.ensures.0 c.if-not-is_same_end.false) in
    let both = replays_if_done r c.nodes.ensures.numbered.rooted c.nodes.ensures.numbered.root strand order end in
    IfOk-weaker c.is_followed.result (λ b. IsTrue b ↔ ItemsAreDone r) (λ b. IsTrue b ↔ IsReplayed r) (λ b e. (λ h. both.0 (e.0 h), λ h. e.1 (both.1 h))) c.is_followed.ensures
