-- The strands of a compiled program are those of its source, so a walk over its strands decides what a sheet asks.
use Rattle.std.proofs.Common.{◌≡◌, ℕ, ℤ, List, length, ap, ◌∙◌, subst, Bool}
use Rattle.std.specs.Prelude.{◌↔◌, IsTrue}
use Rattle.cw_text.specs.Syntax.{Declaration}
use Rattle.cw_code.specs.declared.instruction.Code.{Code}
use Rattle.cw_code.specs.declared.program.Program.{Program}
use Rattle.cw_code.specs.declared.Limits.{Limits}
use Rattle.cw_strand.specs.Strands.{Strands}
use Rattle.cw_strand.specs.Coded as coded
use Rattle.cw_strand.specs.Compilation.{code_of}
use Rattle.cw_strand.specs.Programs.{IsProgramOf}
use Rattle.cw_strand.specs.Laws.{compiled}
use Rattle.cw_job.specs.Jobs.{Job}
use Rattle.cw_job.specs.Room.Strands.{strands_of_job}
use Rattle.cw_tree.specs.declared.node.Node.{Node}
use Rattle.cw_tree.specs.Nodes.{is_strand}
use Rattle.cw_tree.specs.Shape.{IsTree}
use Rattle.cw_record.specs.declared.record_end.RecordEnd.{RecordEnd}
use Rattle.cw_record.specs.Order.{ending_strand}
use Rattle.cw_audit.specs.Parts.{CanHaveDone}
use Rattle.cw_audit.specs.Settled.{ClosesBlocks, CanDo}
use Rattle.cw_audit.proofs.Settling.Theorem.{states_are_settled}

module _ (ds : List Declaration) (p : Program) (is : IsProgramOf ds p) where
  pub law_same : (words : List ℤ) (limits : Limits) → (let job : Job = record { program = p; words = words; limits = limits } in strands_of_job job) ≡ compiled ds words limits
  unfolding strands_of_job
  law_same words limits =
      ap (λ (c : Code). coded.strands_of_code c p.main words limits) is.code ∙ ap (λ (m : ℕ). coded.strands_of_code (code_of ds) m words limits) is.main

module _ {A : Type 0} (t : List Node) (e : RecordEnd) (tree : IsTree t) (named : IsTrue (is_strand t (ending_strand e))) where
  -- whether the strand of main fits decides it
  pub decided : (law s : Strands A) → law ≡ s → ClosesBlocks t e → (b : Bool) → (IsTrue b ↔ CanDo law t e (length t) 0 law.start) → IsTrue b ↔ CanHaveDone s t e
  decided law s same closes b fits =
      let P : Strands A → Type 0 = λ q. IsTrue b ↔ CanDo q t e (length t) 0 q.start in
      let whole = subst P same fits in
      let settled = states_are_settled s t e tree named in (
        (λ y. settled.1 (closes, whole.0 y)),
        (λ d. whole.1 (settled.0 d).1),
      )

  pub undecided : (s : Strands A) → (ClosesBlocks t e → ⊥) → CanHaveDone s t e → ⊥
  undecided s opened d = opened ((states_are_settled s t e tree named).0 d).0
