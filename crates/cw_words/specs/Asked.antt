-- What clap's matches ask for, by the value of each option and the words that belong to none.
use Rattle.std.specs.Prelude.{ℕ, ℤ, ◌==◌, Bool, List, [], Option, Some, None, codes, find, if◌then◌else◌, length, option_and_then, option_map}
use Rattle.std.specs.Option.{option_map_or}
use Rattle.std.specs.Str.{bytes_eq}
use Rattle.clap.specs.Words.{Row, Text, first_of}
use Rattle.clap.specs.Walk.{rows_of}
use Rattle.clap.specs.declared.parser.matches.Found.{Found}
use Rattle.cw_code.specs.declared.Limits.{Limits}
use Rattle.cw_code.specs.Ranges.{NumberOption, aborts_option, fuel_option, moves_option, size_option, strands_option, workers_option}
use Rattle.cw_io.specs.declared.schedule.Schedule.{Schedule}
use Rattle.cw_words.specs.declared.command.Command.{Command}
use Rattle.cw_words.specs.declared.command.Command.TheVariants.{Run, Sim, Load, Keep, Races, Check}
use Rattle.cw_words.specs.declared.command.ReportVersion.{ReportVersion}
use Rattle.cw_words.specs.Options.{integers_of, number_in, number_within, sole_word}
use Rattle.cw_words.specs.Words.{most_transfers, report_in, schedule_in}

-- ## Matches

-- the value of each option
abbrev pub Values : Type 0
Values = Text → Option Text

-- the values of an argument
abbrev pub vals : Text → List Row → List Text
vals id rows = option_map_or (λ r. r.values) (find (λ r. bytes_eq r.id id) rows) []

abbrev pub value_in : Found → Values
value_in f name = first_of name (rows_of f)

-- the words that belong to no option
abbrev pub words_in : Found → List Text
words_in f = vals (codes "words") (rows_of f)

-- the word `-`
abbrev pub is_dash : Text → Bool
is_dash w = bytes_eq w (codes "-")

-- ## What they ask for

abbrev pub number_at : NumberOption → Values → Option ℕ
number_at o val = number_in o (val o.name)

abbrev pub limits_from : (fuel size aborts strands moves : Option ℕ) → Option Limits
limits_from fuel size aborts strands moves =
    option_and_then (λ f. option_and_then (λ n. option_and_then (λ b. option_and_then (λ m. option_map (λ c.
    record { fuel = f; size = n; aborts = b; strands = m; moves = c })
    moves) strands) aborts) size) fuel

abbrev pub limits_at : Values → Option Limits
limits_at val = limits_from (number_at fuel_option val) (number_at size_option val) (number_at aborts_option val) (number_at strands_option val) (number_at moves_option val)

abbrev pub report_at : Values → Option (Option ReportVersion)
report_at val = report_in (val (codes "report"))

abbrev pub schedule_at : (workers : ℕ) → Values → Option Schedule
schedule_at workers val = schedule_in workers (val (codes "schedule")) (val (codes "seed"))

abbrev pub run_from : Option Limits → Option (Option ReportVersion) → Option ℕ → Option (List ℤ) → Option Command
run_from limits report workers integers = option_and_then (λ l. option_and_then (λ r. option_and_then (λ w. option_map (λ ns. Run ns l w r) integers) workers) report) limits

abbrev pub run_at : Values → List Text → Option Command
run_at val ws = run_from (limits_at val) (report_at val) (number_at workers_option val) (integers_of ws)

abbrev pub sim_from : Option Limits → Option (Option ReportVersion) → Option ℕ → (ℕ → Option Schedule) → Option (List ℤ) → Option Command
sim_from limits report workers schedule integers =
    option_and_then (λ l. option_and_then (λ r. option_and_then (λ w. option_and_then (λ s. option_map (λ ns. Sim ns l w s r) integers) (schedule w)) workers) report) limits

abbrev pub sim_at : Values → List Text → Option Command
sim_at val ws = sim_from (limits_at val) (report_at val) (number_at workers_option val) (λ w. schedule_at w val) (integers_of ws)

abbrev pub transfers_at : List Text → Option ℕ
transfers_at ws = option_and_then (number_within 1 most_transfers) (sole_word ws)

abbrev pub load_from : (workers transfers : Option ℕ) → Option Command
load_from workers transfers = option_and_then (λ w. option_map (λ n. Load n w) transfers) workers

abbrev pub load_asked : Values → List Text → Option Command
load_asked val ws = load_from (number_at workers_option val) (transfers_at ws)

abbrev pub keep_from : Option Limits → Option ℕ → Option (List ℤ) → Option Command
keep_from limits workers integers = option_and_then (λ l. option_and_then (λ w. option_map (λ ns. Keep ns l w) integers) workers) limits

abbrev pub keep_at : Values → List Text → Option Command
keep_at val ws = keep_from (limits_at val) (number_at workers_option val) (integers_of ws)

abbrev pub races_from : Option Limits → Option (List ℤ) → Option Command
races_from limits integers = option_and_then (λ l. option_map (λ ns. Races ns l) integers) limits

abbrev pub races_at : Values → List Text → Option Command
races_at val ws = races_from (limits_at val) (integers_of ws)

abbrev pub check_at : Values → List Text → Option Command
check_at val ws = if length ws == 0 then Some Check else None
