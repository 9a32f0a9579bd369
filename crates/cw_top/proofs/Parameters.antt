-- How many parameters main has: in the source as in the code that it is compiled to.
use Rattle.std.proofs.Common.{◌≡◌, ◌∙◌, ℕ, ℤ, List, length, Option, Some, None, IfSome, IsSomeAnd, ap, subst, sym}
use Rattle.std.specs.Result.{result_ok}
use Rattle.std.proofs.lemmas.Option.{same_Some}
use Rattle.cw_text.specs.Syntax.{Declaration, Source}
use Rattle.cw_code.specs.declared.instruction.Code.{Code}
use Rattle.cw_code.specs.declared.program.Program.{Program}
use Rattle.cw_strand.specs.Coded as coded
use Rattle.cw_strand.specs.Compilation.{code_of}
use Rattle.cw_strand.specs.Meaning.{MainTakes, params_in}
use Rattle.cw_strand.specs.Programs.{IsProgramOf}
use Rattle.cw_strand.proofs.MainCode.{main_code}
use Rattle.cw_job.specs.Jobs.{TakesWords}
use Rattle.cw_job.proofs.Room.Lawful.{source_takes}
use Rattle.cw_gen.specs.Load.{load_tree}
use Rattle.cw_gen.proofs.Mains.{takes_no_words}
use Rattle.cw_words.specs.declared.command.Command.{Command}
use Rattle.cw_words.specs.declared.command.Command.TheVariants.{Run, Sim, Load, Keep, Races, Check}
use Rattle.cw_words.specs.Words.{words_of}
use Rattle.cw_top.specs.declared.outcome.Note.TheVariants.{Usage}
use Rattle.cw_top.specs.Outcome.{HasCause}
use Rattle.cw_top.specs.Runs.{IsItsProgram, RunsProgram}
use Rattle.cw_top.specs.Refusals.{AsksFor, IsMisfit, Spells, note_of_fault, of_reading, refusal}

module _ (ds : List Declaration) (p : Program) (is : IsProgramOf ds p) (n : ℕ) where
  code_takes : MainTakes ds n → TakesWords p n
  code_takes h =
      let m = main_code ds is.named in
      let same : m.func.params ≡ n = m.params ∙ (sym (ap params_in m.found) ∙ h) in
      let takes : coded.MainTakes p.code p.main n =
      subst (λ (c : Code). coded.MainTakes c p.main n) (sym is.code)
      (subst (λ (k : ℕ). coded.MainTakes (code_of ds) k n) (sym is.main) (m.func, m.numbered, same)) in
      takes

module _ (l n : ℕ) (bytes : List ℕ) (p : Program) (spells : Spells l bytes p) where
  pub takes : AsksFor l bytes n → TakesWords p n
  takes asks =
      let same : asks.0 ≡ spells.0 = same_Some asks.0 spells.0 (sym (ap result_ok asks.1.0) ∙ ap result_ok spells.1.0) in
      code_takes spells.0.items p spells.1.1 n (subst (λ (source : Source). MainTakes source.items n) same asks.1.1)

  pub asks : TakesWords p n → AsksFor l bytes n
  asks t = (spells.0, (spells.1.0, source_takes spells.0.items p spells.1.1 n t))

-- bytes that spell a program are not refused
pub spelled_accepted : (l : ℕ) (bytes : List ℕ) (p : Program) → Spells l bytes p → refusal l bytes ≡ None
spelled_accepted l bytes p spells = ap of_reading spells.1.0 ∙ ap note_of_fault spells.1.1.named

-- the words do not fit where the program takes another number of them
pub misfits : (l : ℕ) (left : Option (List ℕ)) (words : List ℤ) (p : Program) → IfSome left (λ bytes. Spells l bytes p) → (TakesWords p (length words) → ⊥) → IfSome left (IsMisfit l words)
misfits l None words p spells other = tt
misfits l (Some bytes) words p spells other = (spelled_accepted l bytes p spells, λ a. other (takes l (length words) bytes p spells a))

-- words that a program takes do fit
pub fits : (l : ℕ) (left : Option (List ℕ)) (words : List ℤ) (p : Program) → IfSome left (λ bytes. Spells l bytes p) → TakesWords p (length words) → IsSomeAnd left (IsMisfit l words) → ⊥
fits l None words p spells t misfit = misfit
fits l (Some bytes) words p spells t misfit = misfit.1 (asks l (length words) bytes p spells t)

-- a command is of no use where its program takes another number of words; that of a load takes none, as it has
pub of_no_use : (co : Command) (left : Option (List ℕ)) (p : Program) (r w : Type 0) → IsItsProgram co left p → (TakesWords p (length (words_of co)) → ⊥) → RunsProgram co → HasCause (Some co) Usage left r w
of_no_use (Run ws ls wk rp) left p r w its other runs = misfits 2 left ws p its other
of_no_use (Sim ws ls wk sc rp) left p r w its other runs = misfits 2 left ws p its other
of_no_use (Keep ws ls wk) left p r w its other runs = misfits 2 left ws p its other
of_no_use (Races ws ls) left p r w its other runs = misfits 2 left ws p its other
of_no_use (Load tr wk) left p r w its other runs = other (code_takes (load_tree tr) p its 0 (takes_no_words tr))
of_no_use Check left p r w its other runs = absurd runs
