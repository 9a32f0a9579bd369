use Rattle.std.proofs.Common.{rules, ◌≡◌, ◌∙◌, ap, sym, true, SFits, w64}
use Rattle.std.proofs.lemmas.Int.{to_z-of_z}
use Rattle.cw_steps.specs.Beneath.{is_written_beneath}
use Rattle.cw_board.specs.Cancelled.{has_written, Look}
use Rattle.cw_board.proofs.PutBack.{back_not, back_there}
use Rattle.cw_board.proofs.cancelling.back_in.Goals as goal

pub returns-then-has_written : goal.returns-then-has_written
returns-then-has_written c x h =
    let l : Look = record { cell = c.args.number; lay = c.args.cell.now } in
    let wrote : has_written x l ≡ true = sym (c.has_written.ensures x h ∙ ap (is_written_beneath x c.args.number) c.journal.ensures.entries) ∙ c.if-has_written.true in
    let fits : SFits w64 c.value_before-value.result = search rules in
    back_there x l _ wrote (to_z-of_z w64 c.value_before-value.result fits ∙ c.value_before-value.ensures x h)

pub returns-else-has_written : goal.returns-else-has_written
returns-else-has_written c x h =
    let l : Look = record { cell = c.args.number; lay = c.args.cell.now } in
    back_not x l (sym (c.has_written.ensures x h ∙ ap (is_written_beneath x c.args.number) c.journal.ensures.entries) ∙ c.if-has_written.false)
