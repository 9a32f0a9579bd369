-- A fault in a block that another strand was about to have rolled back.
use Rattle.std.proofs.Common.{◌≡◌, ℕ, List, [], ◌∷◌, refl, ap, sym, ◌∙◌, arith, pos}
use Rattle.cw_code.specs.declared.FaultKind.{FaultKind}
use Rattle.cw_code.specs.declared.FaultKind.TheVariants.{Zero, Overflow}
use Rattle.cw_strand.specs.declared.want.Want.TheVariants.{Fault as Fails}
use Rattle.cw_strand.specs.declared.want.Given.TheVariants.{Nothing, Value}
use Rattle.cw_strand.specs.Pasts.{Past, start, answered, left_of, right_of, became}
use Rattle.cw_strand.specs.Strands.{Strands}
use Rattle.cw_tree.specs.declared.node.Node.{Node}
use Rattle.cw_tree.specs.Worked.{pending, aborted}
use Rattle.cw_tree.proofs.Cancels.{no_cancels}
use Rattle.cw_tree.proofs.Worked.Checks.{is_tree, are_stamps, are_refusals}
use Rattle.cw_tree.proofs.Worked.KeptParts.{recorded}
use Rattle.cw_job.specs.Room.Strands.{StrandState}
use Rattle.cw_record.specs.Coherent.{Follows}
use Rattle.cw_record.specs.WorkedEnds.{divided, refused_in_block}
use Rattle.cw_record.proofs.WorkedEnds.Parts.{follows, ended_two, no_fork_last}
use Rattle.cw_audit.specs.declared.findings.Audit.TheVariants.{Sound, Broken}
use Rattle.cw_audit.specs.Parts.{strands_of_sheet}
use Rattle.cw_audit.specs.Audits.{strands, ending, IsAudit}
use Rattle.cw_audit.specs.Worked.{divider}
use Rattle.cw_audit.proofs.Worked.Claims.{Before, broken_row, sound_row, accesses_fit, reads_of_two, past_in, strands_by, by_default, left, right}

abbrev s : Strands StrandState
s = strands_of_sheet (divider (pending 5 4) Zero)

-- the tree in which that block is pending, and the one in which it was rolled back
abbrev t : List Node
t = divided (pending 5 4) (pos 0)

abbrev u : List Node
u = divided (aborted 5 4 7) (pos 0)

abbrev x0 : Past
x0 = left_of (right 1)

abbrev y0 : Past
y0 = right_of (right 1)

abbrev y1 : Past
y1 = answered y0 (Value (pos 0))

-- nothing is said of a state behind a fork whose strands run
abbrev before : ℕ → StrandState
before n = became s (past_in (start ∷ start ∷ left 0 ∷ left 0 ∷ left 1 ∷ right 0 ∷ right 0 ∷ right 1 ∷ x0 ∷ x0 ∷ y0 ∷ y0 ∷ []) n)

abbrev after : ℕ → StrandState
after n = became s (past_in (start ∷ start ∷ start ∷ left 0 ∷ left 2 ∷ start ∷ right 0 ∷ start ∷ start ∷ x0 ∷ start ∷ y1 ∷ []) n)

abbrev reached : ℕ → StrandState
reached n = became s (past_in (start ∷ start ∷ left 0 ∷ left 2 ∷ start ∷ right 0 ∷ start ∷ start ∷ x0 ∷ start ∷ y1 ∷ []) n)

did : Follows s t before after reached
did =
    follows s t before after reached refl
    ((((((((((((tt, (refl, refl)), tt), (refl, refl)), (refl, refl)), tt), (refl, refl)), (refl, refl)), tt), (refl, refl)), tt), (refl, refl)), tt)
    (tt, ((refl, (refl, refl)), (tt, ((refl, refl), ((refl, refl), (tt, ((refl, refl), ((refl, (refl, refl)), (tt, ((refl, refl), (tt, ((refl, refl), tt))))))))))))
    refl

did_undone : Follows s u before after reached
did_undone =
    follows s u before after reached refl
    ((((((((((((tt, (refl, refl)), tt), (refl, refl)), (refl, refl)), tt), (refl, refl)), (refl, refl)), tt), (refl, refl)), tt), (refl, refl)), tt)
    (tt, ((refl, (refl, refl)), (tt, ((refl, refl), ((refl, refl), (tt, ((refl, refl), ((refl, (refl, refl)), (tt, ((refl, refl), (tt, ((refl, refl), tt))))))))))))
    refl

-- parts 1 to 4, if the strand is at this fault
four : (kind : FaultKind) → Before (divider (pending 5 4) kind) 5
four kind = (
  are_stamps t refl refl refl refl refl refl refl refl refl,
  record { cells = accesses_fit t 2 refl; reads = reads_of_two t (pos 0) (pos 0) (refl, tt) (refl, tt) },
  ended_two t tt tt,
  record {
    refused = are_refusals t (refused_in_block ∷ []) refl (recorded t refused_in_block 4 3 (refl, refl, refl, refl, refl, refl, refl, refl, refl) (refl, refl, refl)) refl refl;
    spent = λ is. tt;
  },
  tt,
  tt,
  tt,
  tt,
)

pub faulted : IsAudit (divider (pending 5 4) Zero) Sound
faulted =
    let (p1, p2, p3, p4, p5, p6, p7, p8) = four Zero in
    sound_row (divider (pending 5 4) Zero) (is_tree t (omega arith) refl refl refl refl refl) refl (
      p1,
      p2,
      p3,
      p4,
      strands_by (divider (pending 5 4) Zero) (_, refl, refl) by_default refl refl refl refl refl (before, after, reached, did, (refl, no_fork_last s t before after reached 10 11 refl refl)),
      record { faulted = refl; memory = tt; done = (before, after, reached, did, (refl, no_fork_last s t before after reached 10 11 refl refl)) },
      no_cancels t (pos 0 ∷ pos 0 ∷ []) refl,
      tt,
    )
    tt

-- the strand is at this fault alone
at_zero : (b a r : ℕ → StrandState) → Follows s t b a r → s.want (r 10) ≡ Fails Zero
at_zero b a r d =
    let go : StrandState → StrandState = λ x. s.answer x Nothing in
    let at_fork : b 1 ≡ s.start = (d.series 0 (omega arith) refl).0 ∙ d.start in
    let at_right : b 5 ≡ became s (right 0) = (d.fits 1 _ refl).1.1 ∙ ap s.right at_fork in
    let at_block : b 6 ≡ became s (right 0) = (d.series 5 (omega arith) refl).0 ∙ at_right in
    let at_inner : b 7 ≡ became s (right 1) = (d.series 6 (omega arith) refl).0 ∙ ap go at_block in
    let at_start : b 10 ≡ became s y0 = (d.fits 7 _ refl).1.1 ∙ ap s.right at_inner in
    let at_read : b 11 ≡ became s y0 = (d.series 10 (omega arith) refl).0 ∙ at_start in
    let at_end : r 10 ≡ became s y1 = sym (d.series 10 (omega arith) refl).1 ∙ (d.fits 11 _ refl).1 ∙ ap (λ x. s.answer x (Value (pos 0))) at_read in
    ap s.want at_end

pub other_fault : IsAudit (divider (pending 5 4) Overflow) (Broken 5)
other_fault =
    broken_row (divider (pending 5 4) Overflow) strands (four Overflow)
    (λ w. (let (b, a, r, d, stands) = w.done in let z : Fails Zero ≡ Fails Overflow = sym (at_zero b a r d) ∙ stands.0 in absurd (cc z)))

pub undone_fault : IsAudit (divider (aborted 5 4 7) Zero) (Broken 6)
undone_fault =
    broken_row (divider (aborted 5 4 7) Zero) ending (
      are_stamps u refl refl refl refl refl refl refl refl refl,
      record { cells = accesses_fit u 2 refl; reads = reads_of_two u (pos 0) (pos 0) (refl, tt) tt },
      ended_two u tt tt,
      record {
        refused = are_refusals u (refused_in_block ∷ []) refl (recorded u refused_in_block 4 3 (refl, refl, refl, refl, refl, refl, refl, refl, refl) (refl, refl, refl)) refl refl;
        spent = λ is. tt;
      },
      strands_by (divider (aborted 5 4 7) Zero) (_, refl, refl) by_default refl refl refl refl refl (before, after, reached, did_undone, (refl, no_fork_last s u before after reached 10 11 refl refl)),
      tt,
      tt,
      tt,
    )
    (λ w. (let live = w.faulted in absurd (cc live)))
