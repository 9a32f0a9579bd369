use Rattle.std.proofs.Common.{◌≡◌, ◌↔◌, ◌∙◌, ℤ, List, ap}
use Rattle.std.specs.Prelude.{IsTrue, length}
use Rattle.std.proofs.lemmas.Result.{IfOk-weaker}
use Rattle.cw_strand.specs.Laws.{compiled}
use Rattle.cw_sheet.specs.Contents.{contents_of}
use Rattle.cw_job.specs.Jobs.{Job}
use Rattle.cw_job.specs.Room.Strands.{strands_of_job}
use Rattle.cw_audit.specs.Parts.{CanHaveDone, strands_of_sheet}
use Rattle.cw_audit.specs.Settled.{CanDo}
use Rattle.cw_audit.proofs.Deciding.{decided, undecided, law_same}
use Rattle.cw_audit.proofs.strands.can_have_done.Goals as goal

pub returns-then-not-closes_blocks : goal.returns-then-not-closes_blocks
returns-then-not-closes_blocks c =
    let sheet = c.args.sheet.now in
    let end = c.args.end.now in (
      λ e. absurd (cc e),
      λ d. absurd (undecided sheet.tree end c.requires.tree c.requires.named (strands_of_sheet (contents_of sheet))
          (λ closed. cc (c.closes_blocks.ensures.1 closed, c.if-not-closes_blocks.true)) d),
    )

pub returns : goal.returns
returns c =
    let sheet = c.args.sheet.now in
    let end = c.args.end.now in
    let program = c.args.program.now in
    let source = (contents_of sheet).source.items in
    let job : Job = record { program = program; words = c.as_slice.result.now; limits = sheet.limits } in
    let law = strands_of_job job in
    let strands = strands_of_sheet (contents_of sheet) in
    let same : law ≡ strands = law_same source program c.requires.program c.as_slice.result.now sheet.limits ∙ ap (λ (words : List ℤ). compiled source words sheet.limits) c.as_slice.ensures in
    let closed = c.closes_blocks.ensures.0 c.if-not-closes_blocks.false in
    IfOk-weaker c.fits.result (λ b. IsTrue b ↔ CanDo law sheet.tree end (length sheet.tree) 0 law.start) (λ b. IsTrue b ↔ CanHaveDone strands sheet.tree end)
    (λ b w. decided sheet.tree end c.requires.tree c.requires.named law strands same closed b w) c.fits.ensures
