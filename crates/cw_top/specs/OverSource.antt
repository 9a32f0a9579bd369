-- The run of a source, over its syntax. This file cites only the grammar, the names, the meaning over the syntax, the machine with
-- one memory, and the order of a run: no instructions, no rules of code, no compilation.
use Rattle.std.specs.Prelude.{◌≡◌, ℕ, ℤ, List, [], length, Option, Some, None, Ok, IfSome, IsTrue}
use Rattle.cw_text.specs.Syntax.{Declaration, Source}
use Rattle.cw_text.specs.Text.{program}
use Rattle.cw_code.specs.declared.Limits.{Limits}
use Rattle.cw_strand.specs.Names.{naming_fault, cells_of, first_memory}
use Rattle.cw_strand.specs.Meaning.{MainTakes, strands_of_syntax}
use Rattle.cw_record.specs.declared.record.Record.{Record}
use Rattle.cw_record.specs.Replay.{Replays}
use Rattle.cw_replay.specs.Spawning.{any_spawns}
use Rattle.cw_gen.specs.Load.{load_tree}
use Rattle.cw_words.specs.declared.command.Command.{Command}
use Rattle.cw_words.specs.declared.command.Command.TheVariants.{Load}
use Rattle.cw_words.specs.Words.{words_of, limits_of}
use Rattle.cw_code.specs.Ranges.{default_limits}
use Rattle.cw_top.specs.Refusals.{newest_language}

-- A run of these declarations, with these words and limits. One memory runs their strands in the order that is kept. At each step
-- it does what the run's tree has there, each atomic block without a break, and it comes to the end of the run.
pub record IsRunOfDeclarations (words : List ℤ) (limits : Limits) (source : List Declaration) (r : Record) : Type 0 where
  -- no name in the source is at fault, and its main takes these words
  pub named : naming_fault source ≡ None
  pub takes : MainTakes source (length words)
  -- the cells of the text that is written are those that the source declares
  pub cells : r.program.cells ≡ cells_of source
  pub replays : Replays (strands_of_syntax source words limits) (first_memory (cells_of source)) limits.aborts r.tree r.conflicts r.order r.end

-- a run of the syntax tree that these bytes spell, if no language after this one is read
abbrev pub IsRunOfSyntax : (language : ℕ) (words : List ℤ) (limits : Limits) (bytes : List ℕ) → Record → Type 0
IsRunOfSyntax language words limits bytes r = (source : Source) × (program language bytes ≡ Ok source) × IsRunOfDeclarations words limits source.items r

-- The run that is kept, over the syntax. For `run` and `sim` it is a run of what the source's bytes spell, if these are known. For
-- a load it is a run of the load's own tree. Words that are no command leave no run.
abbrev pub IsRunOfSource : Option Command → (left : Option (List ℕ)) → Record → Type 0
IsRunOfSource None left r = ⊥
IsRunOfSource (Some (Load transfers workers)) left r = IsRunOfDeclarations [] default_limits (load_tree transfers) r
IsRunOfSource (Some c) left r = IfSome left (λ bytes. IsRunOfSyntax (newest_language c) (words_of c) (limits_of c) bytes r)

-- The tree that these bytes spell has a `spawn` somewhere in a function.
abbrev pub Spawns : (language : ℕ) → List ℕ → Type 0
Spawns language bytes = (source : Source) × (program language bytes ≡ Ok source) × IsTrue (any_spawns source.items)
