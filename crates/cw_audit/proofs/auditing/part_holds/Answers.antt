use Rattle.std.proofs.Common.{◌≡◌, ◌↔◌, ℤ, List, length, ap, sym, ◌∙◌, subst, arith}
use Rattle.std.specs.Prelude.{IsTrue, IfOk}
use Rattle.cw_tree.specs.Cancels.{AreCancels}
use Rattle.cw_tree.specs.Journals.{FitsCells}
use Rattle.cw_record.specs.Coherent.{IsMemory}
use Rattle.cw_sheet.specs.Contents.{contents_of}
use Rattle.cw_audit.specs.Parts.{first_values}
use Rattle.cw_audit.specs.Audits.{stamps, accesses, blocks, refusals, strands, cancels, order, HoldBefore}
use Rattle.cw_audit.specs.Naming.{HoldSoFar}
use Rattle.cw_audit.proofs.PartByPart.{by_number, asked}
use Rattle.cw_audit.proofs.auditing.part_holds.Goals as goal

pub blocks_hold-requires-clause-cells : goal.blocks_hold-requires-clause-cells
blocks_hold-requires-clause-cells c =
    let sheet = c.args.sheet.now in
    let first : first_values (contents_of sheet) ≡ c.as_slice-first.result.now = sym (c.as_slice-first.ensures.value ∙ c.requires.work.first) in
    let cells : FitsCells sheet.tree (length (first_values (contents_of sheet))) = (c.requires.before accesses (omega (arith, c.in-3.is))).cells in
    subst (FitsCells sheet.tree) (ap length first) cells

pub refusals_hold-requires-clause-stamps : goal.refusals_hold-requires-clause-stamps
refusals_hold-requires-clause-stamps c = c.requires.before stamps (omega (arith, c.in-4.is))

pub strands_hold-requires-clause-stamps : goal.strands_hold-requires-clause-stamps
strands_hold-requires-clause-stamps c = c.requires.before stamps (omega (arith, c.in-5.is))

pub strands_hold-requires-clause-askers : goal.strands_hold-requires-clause-askers
strands_hold-requires-clause-askers c = asked c.args.sheet.now.tree c.args.sheet.now.conflicts (c.requires.before refusals (omega (arith, c.in-5.is))).refused.each

pub end_holds-requires-clause-left : goal.end_holds-requires-clause-left
end_holds-requires-clause-left c =
    let sheet = c.args.sheet.now in
    let P : List ℤ → Type 0 = λ m. IsMemory sheet.tree (first_values (contents_of sheet)) m in
    let fit = c.requires.work.fit.1 (c.requires.before accesses (omega (arith, c.in-6.is))) in
    subst P (sym c.as_slice.ensures.value) (c.requires.work.left fit)

pub end_holds-requires-clause-strands : goal.end_holds-requires-clause-strands
end_holds-requires-clause-strands c = c.requires.before strands (omega (arith, c.in-6.is))

pub cancels_hold-requires-clause-cells : goal.cancels_hold-requires-clause-cells
cancels_hold-requires-clause-cells c =
    let sheet = c.args.sheet.now in
    let first : first_values (contents_of sheet) ≡ c.as_slice-first.result.now = sym (c.as_slice-first.ensures.value ∙ c.requires.work.first) in
    let cells : FitsCells sheet.tree (length (first_values (contents_of sheet))) = (c.requires.before accesses (omega (arith, c.in-7.is))).cells in
    subst (FitsCells sheet.tree) (ap length first) cells

pub cancels_hold-requires-clause-before : goal.cancels_hold-requires-clause-before
cancels_hold-requires-clause-before c =
    let sheet = c.args.sheet.now in
    let first : first_values (contents_of sheet) ≡ c.as_slice-first.result.now = sym (c.as_slice-first.ensures.value ∙ c.requires.work.first) in
    let held : HoldSoFar sheet.tree (first_values (contents_of sheet)) = record {
      stamps = c.requires.before stamps (omega (arith, c.in-7.is));
      reads = (c.requires.before accesses (omega (arith, c.in-7.is))).reads;
      ended = c.requires.before blocks (omega (arith, c.in-7.is));
    } in
    subst (HoldSoFar sheet.tree) first held

pub order_holds-requires-clause-before : goal.order_holds-requires-clause-before
order_holds-requires-clause-before c =
    let eight : c.args.part ≡ 8 = omega arith in
    subst (HoldBefore (contents_of c.args.sheet.now)) eight c.requires.before

pub returns-in-1 : goal.returns-in-1
returns-in-1 c = by_number (contents_of c.args.sheet.now) c.args.part stamps (sym c.in-1.is) c.stamps_hold.result c.stamps_hold.ensures

pub returns-in-5 : goal.returns-in-5
returns-in-5 c = by_number (contents_of c.args.sheet.now) c.args.part strands (sym c.in-5.is) c.strands_hold.result c.strands_hold.ensures

pub returns-in-7 : goal.returns-in-7
returns-in-7 c =
    let sheet = c.args.sheet.now in
    let P : List ℤ → Type 0 = λ first. IfOk c.cancels_hold.result (λ b. IsTrue b ↔ AreCancels sheet.tree first) in
    by_number (contents_of sheet) c.args.part cancels (sym c.in-7.is) c.cancels_hold.result (subst P (c.as_slice-first.ensures.value ∙ c.requires.work.first) c.cancels_hold.ensures)

pub returns-in_default : goal.returns-in_default
returns-in_default c =
    let eight : c.args.part ≡ 8 = omega arith in
    by_number (contents_of c.args.sheet.now) c.args.part order (sym eight) c.order_holds.result c.order_holds.ensures
