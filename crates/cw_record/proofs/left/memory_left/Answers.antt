use Rattle.std.proofs.Common.{◌≡◌, ◌≤◌, length, get_or, set, to_z, of_z, ap, sym, ◌∙◌, subst, arith, inl, inr, rules, pos, SFits, w64}
use Rattle.std.specs.Option.{IsSome}
use Rattle.std.proofs.lemmas.Bool.{cases_lt}
use Rattle.std.proofs.lemmas.Int.{to_z-of_z}
use Rattle.std.proofs.lemmas.List.{set_past}
use Rattle.cw_strand.specs.Names.{first_memory}
use Rattle.cw_record.specs.Built.{value_left}
use Rattle.cw_record.proofs.ClosedRun.LeftMemory.{one_more_left}
use Rattle.cw_record.proofs.left.memory_left.Goals as goal
use Rattle.cw_record.proofs.left.memory_left.Goals.{in-Some, in_default}

pub loop-cell-preserved : goal.loop-cell-preserved
loop-cell-preserved c =
    let first = first_memory c.args.program.now.cells in
    let journals = c.args.journals.now in
    let journal = c.index-journals-cell.result in
    let memory = c.loop-cell.memory.items in
    let i = c.loop-cell.cell in
    elim c.match-get_mut.branch [
      | in-Some w ↦
          let old = w.in-Some.value.now in
          let fits : SFits w64 w.value_left.result = search rules in
          let old_fits : SFits w64 old = search rules in
          let written : to_z w64 (of_z w64 w.value_left.result) ≡ value_left (get_or memory i old) (get_or journals i journal) =
          to_z-of_z w64 w.value_left.result fits
          ∙ w.value_left.ensures
          ∙ ap (λ v. value_left v w.as_slice-in-Some.result.now) (to_z-of_z w64 old old_fits ∙ w.in-Some.ensures.value)
          ∙ ap (value_left (get_or memory i old)) (w.as_slice-in-Some.ensures ∙ c.index-journals-cell.is)
          in
          ap (λ v. v.items) w.memory-is ∙ ap (set memory i) written ∙ one_more_left first journals i old journal memory c.loop-cell-test.true c.loop-cell.invariant
      | in_default w ↦ (
          -- a cell that is not there is left out
          let past : length memory ≤ i =
          elim (cases_lt i (length memory)) [ inl l ↦ absurd (cc (subst IsSome w.in_default.is (c.get_mut.ensures.variant.1 (omega (arith, c.loop-cell.memory.ok.0))))) | inr p ↦ p ] in
          ap (λ v. v.items) w.memory-is
          ∙ sym (set_past memory i (value_left (get_or memory i (pos 0)) (get_or journals i journal)) past)
          ∙ one_more_left first journals i (pos 0) journal memory c.loop-cell-test.true c.loop-cell.invariant)
    ]
