-- What was read.
use Rattle.std.specs.Prelude.{◌≡◌, ◌≤◌, ℕ, ◌+◌, List, ◌++◌, length, Option, Some, None, IfSome, IsSomeAnd}
use Rattle.cw_io.specs.Outside.{RunsDry, Takes, TakesNothing}
use Rattle.cw_words.specs.declared.command.Command.{Command}
use Rattle.cw_words.specs.declared.command.Command.TheVariants.{Load, Check}
use Rattle.cw_words.specs.Words.{words_of}
use Rattle.cw_top.specs.declared.outcome.Note.{Note}
use Rattle.cw_top.specs.declared.outcome.Note.TheVariants as note
use Rattle.cw_top.specs.Refusals.{AsksFor, newest_language, refusal, sheet_refusal}

-- the most bytes that are taken for a program: one more than its text may have
abbrev pub most_bytes : ℕ
most_bytes = 1048577

-- and for a sheet
abbrev pub most_sheet_bytes : ℕ
most_sheet_bytes = 67108865

-- the most bytes that a command takes
abbrev pub most_read : Option Command → ℕ
most_read None = 0
most_read (Some (Load transfers workers)) = 0
most_read (Some Check) = most_sheet_bytes
most_read (Some c) = most_bytes

-- the most reads of a command that give no byte: one, after which it reads no more
abbrev pub most_ends : Option Command → ℕ
most_ends None = 0
most_ends (Some (Load transfers workers)) = 0
most_ends (Some c) = 1

-- A count rose by `most` at most, and did not fall.
abbrev pub RisesAtMost : ℕ → (before after : ℕ) → Type 0
RisesAtMost most before after = (before ≤ after) × (after ≤ before + most)

-- At most `most` bytes were taken.
abbrev pub TakesAtMost : ℕ → (old new : Option (List ℕ)) → Type 0
TakesAtMost most old new = (bytes : List ℕ) × (length bytes ≤ most) × Takes old new bytes

-- `count` bytes came, and follow those that were there.
abbrev pub GivesOn : (left_old left_new : Option (List ℕ)) (old new : List ℕ) (count : ℕ) → Type 0
GivesOn left_old left_new old new count = (bytes : List ℕ) × (length bytes ≡ count) × (new ≡ old ++ bytes) × Takes left_old left_new bytes

-- what a command has read if it ran or answered: the whole source, or nothing for a load
abbrev pub HasRead : Option Command → (old new : Option (List ℕ)) → Type 0
HasRead None old new = ⊥
HasRead (Some (Load transfers workers)) old new = TakesNothing old new
HasRead (Some c) old new = RunsDry old new

-- A source is refused for this reason, if its bytes are known and no language after this one is read.
abbrev pub IsRefusedIn : (language : ℕ) → Note → Option (List ℕ) → Type 0
IsRefusedIn language n left = IfSome left (λ bytes. refusal language bytes ≡ Some n)

-- The program of a command is refused for this reason. Words that are no command, a load and a check read no program.
abbrev pub IsRefusedFor : Option Command → Note → Option (List ℕ) → Type 0
IsRefusedFor None n left = ⊥
IsRefusedFor (Some (Load transfers workers)) n left = ⊥
IsRefusedFor (Some Check) n left = ⊥
IsRefusedFor (Some c) n left = IsRefusedIn (newest_language c) n left

-- The sheet of a check is refused for this reason. No other command reads a sheet.
abbrev pub IsUnreadFor : Option Command → Note → Option (List ℕ) → Type 0
IsUnreadFor (Some Check) n left = IfSome left (λ bytes. sheet_refusal bytes ≡ Some n)
IsUnreadFor command n left = ⊥

-- A check has answered, even if its answer could not be written.
abbrev pub HasAnswered : Option Command → Note → Type 0
HasAnswered (Some Check) note.Nothing = Unit {0}
HasAnswered (Some Check) note.Write = Unit {0}
HasAnswered command n = ⊥

-- A command accepts this source, whose bytes are known: it is not refused, and asks for as many words as the command has. A load
-- and a check accept any source.
abbrev pub Accepts : Option Command → Option (List ℕ) → Type 0
Accepts None left = Unit {0}
Accepts (Some (Load transfers workers)) left = Unit {0}
Accepts (Some Check) left = Unit {0}
Accepts (Some c) left = IsSomeAnd left (λ bytes. (refusal (newest_language c) bytes ≡ None) × AsksFor (newest_language c) bytes (length (words_of c)))
