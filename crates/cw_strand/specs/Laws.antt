-- What holds of strands: over the syntax, over code that breaks no rule, and of both together.
use Rattle.std.specs.Prelude.{◌≡◌, ◌<◌, ℕ, ℤ, List, [], ◌∷◌, length, None, false}
use Rattle.cw_text.specs.Cancels.{has_cancel}
use Rattle.cw_text.specs.Syntax.{Declaration}
use Rattle.cw_code.specs.declared.Limits.{Limits}
use Rattle.cw_code.specs.declared.instruction.Code.{Code}
use Rattle.cw_code.specs.Programs.{cancels}
use Rattle.cw_code.specs.Rules.{faults}
use Rattle.cw_strand.specs.declared.want.Want.{Want}
use Rattle.cw_strand.specs.declared.want.Want.TheVariants.{Load, Store, Begin, Cancel, Done}
use Rattle.cw_strand.specs.Strands.{Strands, Reached, IsDeep, Closes, IsLawful}
use Rattle.cw_strand.specs.Running.{Standing, Settles, NeverStuck, Visits}
use Rattle.cw_strand.specs.Pasts.{Past, became, CanBe, WantTheSame}
use Rattle.cw_strand.specs.Names.{naming_fault}
use Rattle.cw_strand.specs.Meaning as meaning
use Rattle.cw_strand.specs.Meaning.{State, Task, finish, finish_main}
use Rattle.cw_strand.specs.Coded as coded
use Rattle.cw_strand.specs.Standing.{StandsIn, StandsWanting, StepStands}
use Rattle.cw_strand.specs.Saving.{StaysIn, Inside, StillStands}
use Rattle.cw_strand.specs.Compilation.{code_of, main_function}

-- ## Over the syntax

-- A strand never goes on by itself for ever: its steps lead to the want that `stand` gives.
abbrev pub LocalWorkEnds : Type 0
LocalWorkEnds = (ds : List Declaration) (words : List ℤ) (limits : Limits) → Settles (meaning.runs ds words limits)

-- Whatever a strand is answered, its depth bounds how many forks and answers follow each other.
abbrev pub ForksEnd : Type 0
ForksEnd = (ds : List Declaration) (words : List ℤ) (limits : Limits) → IsDeep (meaning.strands_of_syntax ds words limits)

-- Only its end is left to a strand, and no operand is left over except main's own value.
abbrev pub AllIsDone : List Task → List ℤ → Type 0
AllIsDone (finish ∷ []) [] = Unit {0}
AllIsDone (finish_main ∷ []) (v ∷ []) = Unit {0}
AllIsDone todo values = ⊥

-- The strand has come to its end.
abbrev pub HasDoneAll : Standing State → Type 0
HasDoneAll x = AllIsDone x.state.todo x.state.values

-- The program has no naming fault, and the command has a word for each parameter of its main.
pub record IsFaultless (ds : List Declaration) (words : List ℤ) : Type 0 where
  pub named : naming_fault ds ≡ None
  pub takes : meaning.MainTakes ds (length words)

-- A strand of a program without a naming fault is done only if it has done all that it had to do.
abbrev pub EndsOnlyWhenDone : Type 0
EndsOnlyWhenDone =
    (ds : List Declaration) (words : List ℤ) (limits : Limits) → IsFaultless ds words
    → let s = meaning.strands_of_syntax ds words limits in
    (own : List ℕ) (x : Standing State) → Reached s own x → s.want x ≡ Done → HasDoneAll x

-- In a program without a naming fault a block ends in the strand that began it, and a strand ends only after its own blocks.
abbrev pub BlocksClose : Type 0
BlocksClose = (ds : List Declaration) (words : List ℤ) (limits : Limits) → IsFaultless ds words → Closes (meaning.strands_of_syntax ds words limits)

-- The strands of every program without a naming fault keep the law.
abbrev pub StrandsAreLawful : Type 0
StrandsAreLawful = (ds : List Declaration) (words : List ℤ) (limits : Limits) → IsFaultless ds words → IsLawful (meaning.strands_of_syntax ds words limits)

-- ## Over code that breaks no rule

-- No strand, whatever it is answered, ever lacks an operand, a local, a function or a place to go on.
abbrev pub CodeIsNeverStuck : Type 0
CodeIsNeverStuck =
    (code : Code) (main : ℕ) (words : List ℤ) (limits : Limits) → faults code ≡ [] → coded.MainTakes code main (length words)
    → NeverStuck (coded.runs code main words limits)

-- If each function of a strand is at a place of the code, with the locals and operands that the rules say of it, this
-- holds after its next step.
abbrev pub StandsOn : Type 0
StandsOn = (code : Code) (s : coded.State) → faults code ≡ [] → StandsIn code s → StepStands code (coded.step code s)

-- This holds of each state that the strands of a main go through, whatever they are answered and whichever are joined.
abbrev pub VisitedStand : Type 0
VisitedStand =
    (code : Code) (main : ℕ) (words : List ℤ) (limits : Limits) → faults code ≡ [] → coded.MainTakes code main (length words)
    → (s : coded.State) → Visits (coded.runs code main words limits) s → StandsIn code s

-- A strand never goes on by itself for ever.
abbrev pub CodeWorkEnds : Type 0
CodeWorkEnds = (code : Code) (main : ℕ) (words : List ℤ) (limits : Limits) → faults code ≡ [] → Settles (coded.runs code main words limits)

-- Whatever a strand is answered, its depth bounds how many forks and answers follow each other.
abbrev pub CodeForksEnd : Type 0
CodeForksEnd = (code : Code) (main : ℕ) (words : List ℤ) (limits : Limits) → faults code ≡ [] → IsDeep (coded.strands_of_code code main words limits)

-- a want names only elements of the cells
abbrev pub NamesElement : Code → Want → Type 0
NamesElement code (Load c) = c < code.cells
NamesElement code (Store c v) = c < code.cells
NamesElement code w = Unit {0}

-- A strand loads and stores only elements of the cells.
abbrev pub CodeNamesElements : Type 0
CodeNamesElements =
    (code : Code) (main : ℕ) (words : List ℤ) (limits : Limits) → faults code ≡ []
    → let s = coded.strands_of_code code main words limits in
    (own : List ℕ) (x : Standing coded.State) → Reached s own x → NamesElement code (s.want x)

-- a want is not a cancel
abbrev pub GivesUpNothing : Want → Type 0
GivesUpNothing Cancel = ⊥
GivesUpNothing w = Unit {0}

-- A strand of code without a cancel never gives up a block.
abbrev pub CodeGivesUpNothing : Type 0
CodeGivesUpNothing =
    (code : Code) (main : ℕ) (words : List ℤ) (limits : Limits) → faults code ≡ [] → cancels code ≡ false
    → let s = coded.strands_of_code code main words limits in
    (own : List ℕ) (x : Standing coded.State) → Reached s own x → GivesUpNothing (s.want x)

-- What was below the begin of a block is still there for each strand inside the block that does not want its end.
abbrev pub BeginStaysBelow : Type 0
BeginStaysBelow =
    (code : Code) (main : ℕ) (words : List ℤ) (limits : Limits) → faults code ≡ []
    → let s = coded.strands_of_code code main words limits in
    (begin x : Standing coded.State) (forks inner : ℕ) → s.want begin ≡ Begin → StandsWanting code Begin begin.state
    → Inside s begin forks inner x → StaysIn (s.want x) inner → StillStands begin.state x.state

-- ## Compiled code

-- The code of a program without a naming fault breaks no rule.
abbrev pub BreaksNoRule : Type 0
BreaksNoRule = (ds : List Declaration) → naming_fault ds ≡ None → faults (code_of ds) ≡ []

-- The code of a program has a cancel exactly if the program has one.
abbrev pub CodeHasItsCancels : Type 0
CodeHasItsCancels = (ds : List Declaration) → cancels (code_of ds) ≡ has_cancel ds

-- the strands of a program's code
abbrev pub compiled : List Declaration → List ℤ → Limits → Strands (Standing coded.State)
compiled ds words limits = coded.strands_of_code (code_of ds) (main_function ds) words limits

-- Compiled code wants what the source wants.
abbrev pub WantsOfTheSource : Type 0
WantsOfTheSource =
    (ds : List Declaration) (words : List ℤ) (limits : Limits) → IsFaultless ds words
    → WantTheSame (meaning.strands_of_syntax ds words limits) (compiled ds words limits)

-- A strand of compiled code is done only if the strand of the source with the same past has done all that it had to do.
abbrev pub CodeEndsOnlyWhenDone : Type 0
CodeEndsOnlyWhenDone =
    (ds : List Declaration) (words : List ℤ) (limits : Limits) → IsFaultless ds words
    → let s = meaning.strands_of_syntax ds words limits in
    let t = compiled ds words limits in
    (own : List ℕ) (x : Standing coded.State) → Reached t own x → t.want x ≡ Done
    → (p : Past) × (CanBe s p × ((x ≡ became t p) × HasDoneAll (became s p)))

-- The strands of the code of every program without a naming fault keep the law.
abbrev pub CodeIsLawful : Type 0
CodeIsLawful = (ds : List Declaration) (words : List ℤ) (limits : Limits) → IsFaultless ds words → IsLawful (compiled ds words limits)

-- ## Laws that want the same

-- If blocks close over s, they close over t.
abbrev pub ClosesWithIt : {A B : Type 0} → Strands A → Strands B → Type 0
ClosesWithIt s t = WantTheSame s t → Closes s → Closes t
