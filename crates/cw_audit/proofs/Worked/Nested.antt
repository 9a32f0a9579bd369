-- An attempt that is rolled back at its own end.
use Rattle.std.proofs.Common.{ℕ, List, [], ◌∷◌, refl, arith, pos}
use Rattle.std.proofs.lemmas.List.Elements.{All-head, All-cons}
use Rattle.cw_strand.specs.Pasts.{Past, start, left_of, right_of, joined_of, became}
use Rattle.cw_strand.specs.Strands.{Strands}
use Rattle.cw_tree.specs.declared.node.Node.{Node}
use Rattle.cw_tree.specs.Refusals.{IsRecorded}
use Rattle.cw_tree.proofs.Cancels.{no_cancels}
use Rattle.cw_tree.proofs.Worked.Checks.{is_tree, are_stamps, are_refusals}
use Rattle.cw_tree.proofs.Worked.KeptParts.{recorded}
use Rattle.cw_job.specs.Room.Strands.{StrandState}
use Rattle.cw_record.specs.Coherent.{alone, IsJoined, Follows}
use Rattle.cw_record.proofs.WorkedEnds.Parts.{ended_two}
use Rattle.cw_audit.specs.declared.findings.Audit.TheVariants.{Sound}
use Rattle.cw_audit.specs.Parts.{strands_of_sheet}
use Rattle.cw_audit.specs.Audits.{IsAudit}
use Rattle.cw_audit.specs.Worked.{nested, nested_tree, of_inner, of_outer}
use Rattle.cw_audit.proofs.Worked.Claims.{sound_row, accesses_fit, no_fork, reads_of_two, past_in, follows_joined, strands_by, by_default, left, right, goes_on}

abbrev s : Strands StrandState
s = strands_of_sheet nested

abbrev t : List Node
t = nested_tree

-- the left strand of that fork at its block, at the fork in that, and the two strands there
abbrev x0 : Past
x0 = left_of (right 1)

abbrev x1 : Past
x1 = goes_on 1 x0

abbrev p0 : Past
p0 = left_of x1

abbrev q0 : Past
q0 = right_of x1

-- behind that fork, and behind the block
abbrev x2 : Past
x2 = joined_of (goes_on 1 q0) (goes_on 1 p0)

abbrev x3 : Past
x3 = goes_on 1 x2

abbrev y0 : Past
y0 = right_of (right 1)

-- at the end of the right strand's block
abbrev r2 : Past
r2 = joined_of (goes_on 3 y0) x3

abbrev before : ℕ → StrandState
before n = became s (past_in (start ∷ start ∷ left 0 ∷ left 0 ∷ left 1 ∷ right 0 ∷ right 0 ∷ right 1 ∷ x0 ∷ x0 ∷ x1 ∷ p0 ∷ p0 ∷ q0 ∷ q0 ∷ x0 ∷ x1 ∷ p0 ∷ p0 ∷ q0 ∷ q0 ∷ y0 ∷ y0 ∷ goes_on 1 y0 ∷ right 0 ∷ []) n)

abbrev after : ℕ → StrandState
after n =
    became s
    (past_in (start ∷ start ∷ start ∷ left 3 ∷ left 2 ∷ start ∷ right 0 ∷ r2 ∷ start ∷ x0 ∷ start ∷ start ∷ p0 ∷ start ∷ q0 ∷ x3 ∷ x2 ∷ start ∷ goes_on 1 p0 ∷ start ∷ goes_on 1 q0 ∷ start ∷ goes_on 3 y0 ∷ goes_on 2 y0 ∷ right 0 ∷ []) n)

abbrev reached : ℕ → StrandState
reached n =
    became s
    (past_in (start ∷ start ∷ left 3 ∷ left 2 ∷ start ∷ right 0 ∷ r2 ∷ start ∷ x3 ∷ start ∷ start ∷ p0 ∷ start ∷ q0 ∷ start ∷ x2 ∷ start ∷ goes_on 1 p0 ∷ start ∷ goes_on 1 q0 ∷ start ∷ goes_on 3 y0 ∷ goes_on 2 y0 ∷ start ∷ right 1 ∷ []) n)

-- the fork of the second attempt of the inner block
joined_again : IsJoined s t before after reached 16
joined_again = record {
  left = 17;
  right = 19;
  strands = refl;
  left_ended = alone {x = 17} refl (λ f e. no_fork t 18 f refl e);
  right_ended = alone {x = 19} refl (λ f e. no_fork t 20 f refl e);
  behind = refl;
}

did : Follows s t before after reached
did =
    follows_joined s t before after reached refl
    (((((((((((((((((((((((((tt, (refl, refl)), tt), (refl, refl)), (refl, refl)), tt), (refl, (refl, refl))), (refl, refl)), tt), (refl, (refl, refl))), (refl, refl)), tt), (refl, refl)), tt), (refl, refl)), tt), (refl, refl)), tt), (refl, refl)), tt), (refl, refl)), tt), (refl, refl)), (refl, refl)), tt), refl)
    (tt, ((refl, (refl, refl)), (tt, ((refl, (refl, refl)), ((refl, refl), (tt, ((refl, refl), ((refl, (refl, refl)), (tt, ((refl, refl), ((refl, (refl, refl)), (tt, ((refl, refl), (tt, ((refl, refl), ((refl, (refl, refl)), ((refl, (refl, refl)), (tt, ((refl, refl), (tt, ((refl, refl), (tt, ((refl, (refl, refl)), ((refl, refl), ((refl, refl), tt)))))))))))))))))))))))))
    (((((((((((((((((((((((((tt, tt), tt), tt), tt), tt), tt), tt), tt), tt), tt), tt), tt), tt), tt), tt), tt), joined_again), tt), tt), tt), tt), tt), tt), tt), tt)

pub own_end : IsAudit nested Sound
own_end =
    let inner = All-head (IsRecorded t) of_inner [] (recorded t of_inner 23 22 (refl, refl, refl, refl, refl, refl, refl, refl, refl) (refl, refl, refl)) in
    sound_row nested (is_tree t (omega arith) refl refl refl refl refl) refl (
      are_stamps t refl refl refl refl refl refl refl refl refl,
      record { cells = accesses_fit t 2 refl; reads = reads_of_two t (pos 0) (pos 0) (refl, tt) tt },
      ended_two t tt tt,
      record {
        refused =
            are_refusals t (of_inner ∷ of_outer ∷ []) refl
            (All-cons (IsRecorded t) of_inner (of_outer ∷ []) inner (recorded t of_outer 4 3 (refl, refl, refl, refl, refl, refl, refl, refl, refl) (refl, refl, refl))) refl refl;
        spent = λ is. tt;
      },
      strands_by nested (_, refl, refl) by_default refl refl refl refl refl (before, after, reached, did, tt),
      record { faulted = tt; memory = tt; done = (before, after, reached, did, tt) },
      no_cancels t (pos 0 ∷ pos 0 ∷ []) refl,
      tt,
    )
    tt
