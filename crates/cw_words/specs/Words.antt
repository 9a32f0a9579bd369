-- Which words are a command, and what they say. There are six commands. `run` has six options, `keep` has five of them and
-- `races` two, and `sim` has nine. These four have the words of main. `load` has one option and a number, and `check` has neither
-- options nor words.
use Rattle.std.specs.Prelude.{◌-◌, ◌^◌, ◌==◌, ◌&&◌, length, List, [], ◌∷◌, ℕ, ℤ, Option, Some, None, codes, if◌then◌else◌, map, option_and_then, option_map, string_bytes, String}
use Rattle.std.specs.declared.alloc.Global.{Global}
use Rattle.std.specs.Str.{bytes_eq}
use Rattle.cw_code.specs.declared.Limits.{Limits}
use Rattle.cw_code.specs.Ranges.{aborts_option, default_limits, fuel_option, moves_option, size_option, strands_option, workers_option}
use Rattle.cw_io.specs.declared.schedule.Schedule.{Schedule}
use Rattle.cw_io.specs.declared.schedule.Schedule.TheVariants.{List as Listed, Seeded}
use Rattle.cw_words.specs.declared.command.Command.{Command}
use Rattle.cw_words.specs.declared.command.Command.TheVariants.{Run, Sim, Load, Keep, Races, Check}
use Rattle.cw_words.specs.declared.command.ReportVersion.{ReportVersion}
use Rattle.cw_words.specs.declared.command.ReportVersion.TheVariants.{First, Second}
use Rattle.cw_words.specs.Options.{Given, GivenOption, are_known, given, integers_of, list_below, number_given, number_within, sole_word, option_value}

-- ## Options

-- the names of the options of each command
abbrev pub run_options : List (List ℕ)
run_options = codes "fuel" ∷ codes "size" ∷ codes "aborts" ∷ codes "strands" ∷ codes "workers" ∷ codes "report" ∷ []

abbrev pub sim_options : List (List ℕ)
sim_options = codes "fuel" ∷ codes "size" ∷ codes "aborts" ∷ codes "strands" ∷ codes "moves" ∷ codes "workers" ∷ codes "schedule" ∷ codes "seed" ∷ codes "report" ∷ []

abbrev pub load_options : List (List ℕ)
load_options = codes "workers" ∷ []

abbrev pub keep_options : List (List ℕ)
keep_options = codes "fuel" ∷ codes "size" ∷ codes "aborts" ∷ codes "strands" ∷ codes "workers" ∷ []

abbrev pub races_options : List (List ℕ)
races_options = codes "fuel" ∷ codes "size" ∷ []

abbrev pub check_options : List (List ℕ)
check_options = []

-- The limits that options give. A limit that is not given, or that is no option of the command, has its default.
abbrev pub limits_given : List GivenOption → Option Limits
limits_given os =
    option_and_then (λ f. option_and_then (λ n. option_and_then (λ b. option_and_then (λ m. option_map (λ c.
    record { fuel = f; size = n; aborts = b; strands = m; moves = c })
    (number_given moves_option os)) (number_given strands_option os)) (number_given aborts_option os)) (number_given size_option os)) (number_given fuel_option os)

-- The version of the report that is asked for, if one is. The option's value is its number.
abbrev pub report_in : (value : Option (List ℕ)) → Option (Option ReportVersion)
report_in None = Some None
report_in (Some v) = option_map (λ n. Some (if n == 1 then First else Second)) (number_within 1 2 v)

abbrev pub report_given : List GivenOption → Option (Option ReportVersion)
report_given os = option_and_then report_in (option_value (codes "report") os)

-- ## Schedules

-- the most workers that may be listed
abbrev pub most_listed : ℕ
most_listed = 20000

-- The schedule for `workers` workers, by the values of its two options: a list of worker numbers, or a seed. Both together are
-- refused. Without either, the list is empty.
abbrev pub schedule_in : (workers : ℕ) → (list seed : Option (List ℕ)) → Option Schedule
schedule_in workers None None = Some (Listed [])
schedule_in workers (Some v) None = option_map Listed (list_below workers most_listed v)
schedule_in workers None (Some v) = option_map Seeded (number_within 0 (2 ^ 64 - 1) v)
schedule_in workers (Some v) (Some w) = None

abbrev pub schedule_given : (workers : ℕ) → List GivenOption → Option Schedule
schedule_given workers os =
    option_and_then (λ list. option_and_then (λ seed. schedule_in workers list seed) (option_value (codes "seed") os)) (option_value (codes "schedule") os)

-- ## Loads

-- the most transfers that a load has
abbrev pub most_transfers : ℕ
most_transfers = 20000

-- The number of transfers is the one word that belongs to no option.
abbrev pub transfers_given : Given → Option ℕ
transfers_given g = option_and_then (number_within 1 most_transfers) (sole_word g.words)

-- ## Commands

-- the run that options and words ask for
abbrev pub run_given : Given → Option Command
run_given g =
    if are_known run_options g.options then
    option_and_then (λ limits. option_and_then (λ report. option_and_then (λ workers. option_map (λ ns. Run ns limits workers report)
    (integers_of g.words)) (number_given workers_option g.options)) (report_given g.options)) (limits_given g.options)
    else None

-- the simulation that options and words ask for
abbrev pub sim_given : Given → Option Command
sim_given g =
    if are_known sim_options g.options then
    option_and_then (λ limits. option_and_then (λ report. option_and_then (λ workers. option_and_then (λ schedule. option_map (λ ns. Sim ns limits workers schedule report)
    (integers_of g.words)) (schedule_given workers g.options)) (number_given workers_option g.options)) (report_given g.options)) (limits_given g.options)
    else None

-- the load that options and a word ask for
abbrev pub load_given : Given → Option Command
load_given g =
    if are_known load_options g.options then option_and_then (λ workers. option_map (λ n. Load n workers) (transfers_given g)) (number_given workers_option g.options)
    else None

-- the kept run that options and words ask for
abbrev pub keep_given : Given → Option Command
keep_given g =
    if are_known keep_options g.options then
    option_and_then (λ limits. option_and_then (λ workers. option_map (λ ns. Keep ns limits workers)
    (integers_of g.words)) (number_given workers_option g.options)) (limits_given g.options)
    else None

-- the search for races that options and words ask for
abbrev pub races_given : Given → Option Command
races_given g =
    if are_known races_options g.options then option_and_then (λ limits. option_map (λ ns. Races ns limits) (integers_of g.words)) (limits_given g.options)
    else None

-- the check of a sheet, if there is no word
abbrev pub check_given : Given → Option Command
check_given g = if are_known check_options g.options && length g.words == 0 then Some Check else None

-- The first word says which command it is.
abbrev pub command_of : List (List ℕ) → Option Command
command_of [] = None
command_of (name ∷ words) =
    if bytes_eq name (codes "run") then option_and_then run_given (given words)
    else if bytes_eq name (codes "sim") then option_and_then sim_given (given words)
    else if bytes_eq name (codes "load") then option_and_then load_given (given words)
    else if bytes_eq name (codes "keep") then option_and_then keep_given (given words)
    else if bytes_eq name (codes "races") then option_and_then races_given (given words)
    else if bytes_eq name (codes "check") then option_and_then check_given (given words)
    else None

abbrev pub words_of : Command → List ℤ
words_of (Run words limits workers report) = words
words_of (Sim words limits workers schedule report) = words
words_of (Load transfers workers) = []
words_of (Keep words limits workers) = words
words_of (Races words limits) = words
words_of Check = []

abbrev pub limits_of : Command → Limits
limits_of (Run words limits workers report) = limits
limits_of (Sim words limits workers schedule report) = limits
limits_of (Load transfers workers) = default_limits
limits_of (Keep words limits workers) = limits
limits_of (Races words limits) = limits
limits_of Check = default_limits

-- the command that the words behind the program's name are, if they are one
abbrev pub command_in : List (String Global) → Option Command
command_in words = command_of (map string_bytes words)
