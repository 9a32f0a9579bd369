-- Examples of words, and the commands that they are.
use Rattle.std.specs.Prelude.{◌≡◌, ℕ, ℤ, pos, neg_ℤ, List, [], ◌∷◌, ◌++◌, Option, Some, None, codes, replicate}
use Rattle.std.specs.List.{flat_map}
use Rattle.cw_code.specs.declared.Limits.{Limits}
use Rattle.cw_code.specs.Ranges.{default_limits}
use Rattle.cw_io.specs.declared.schedule.Schedule.{Schedule}
use Rattle.cw_io.specs.declared.schedule.Schedule.TheVariants.{List as Listed, Seeded}
use Rattle.cw_words.specs.declared.command.Command.{Command}
use Rattle.cw_words.specs.declared.command.Command.TheVariants.{Run, Sim, Load, Keep, Races, Check}
use Rattle.cw_words.specs.declared.command.ReportVersion.TheVariants.{First, Second}
use Rattle.cw_words.specs.Options.{list_below}
use Rattle.cw_words.specs.Words.{command_of}

-- a run with this fuel and size; its other limits are the defaults
abbrev pub run_of : (fuel size : ℕ) → Option Command
run_of fuel size = Some (Run [] (record default_limits { fuel = fuel; size = size }) 4 None)

-- a run of these words
abbrev pub run_on : List ℤ → Option Command
run_on words = Some (Run words default_limits 4 None)

-- a run with these limits, without words, by `workers` workers
abbrev pub run_by : Limits → (workers : ℕ) → Option Command
run_by limits workers = Some (Run [] limits workers None)

-- a simulation with these limits, without words, by `workers` workers in the turns of a schedule
abbrev pub sim_of : Limits → (workers : ℕ) → Schedule → Option Command
sim_of limits workers schedule = Some (Sim [] limits workers schedule None)

-- the list of `n + 1` zeros, with commas between them
abbrev pub zeros : ℕ → List ℕ
zeros n = codes "0" ++ flat_map {X = ℕ} (λ x. codes ",0") (replicate n 0)

pub record Commands : Type 0 where
  pub plain : command_of (codes "run" ∷ []) ≡ Some (Run [] default_limits 4 None)
  pub none : command_of [] ≡ None
  pub capital : command_of (codes "Run" ∷ []) ≡ None
  pub empty : command_of ([] ∷ []) ≡ None
  -- the options, and both ways to give them
  pub fuel : command_of (codes "run" ∷ codes "--fuel" ∷ codes "2" ∷ []) ≡ run_of 2 1000000
  pub size : command_of (codes "run" ∷ codes "--size=4" ∷ []) ≡ run_of 1000000 4
  pub both : command_of (codes "run" ∷ codes "--size=4" ∷ codes "--fuel" ∷ codes "2" ∷ []) ≡ run_of 2 4
  pub either_order : command_of (codes "run" ∷ codes "--size" ∷ codes "3" ∷ codes "--fuel=2" ∷ []) ≡ run_of 2 3
  pub zeros : command_of (codes "run" ∷ codes "--size" ∷ codes "007" ∷ []) ≡ run_of 1000000 7
  pub most : command_of (codes "run" ∷ codes "--fuel=1000000000" ∷ codes "--size=10000000" ∷ []) ≡ run_of 1000000000 10000000
  pub least : command_of (codes "run" ∷ codes "--fuel=1" ∷ codes "--size=1" ∷ []) ≡ run_of 1 1
  -- values out of range
  pub no_fuel : command_of (codes "run" ∷ codes "--fuel" ∷ codes "0" ∷ []) ≡ None
  pub much_fuel : command_of (codes "run" ∷ codes "--fuel" ∷ codes "1000000001" ∷ []) ≡ None
  pub no_size : command_of (codes "run" ∷ codes "--size=0" ∷ []) ≡ None
  pub much_size : command_of (codes "run" ∷ codes "--size" ∷ codes "10000001" ∷ []) ≡ None
  pub huge : command_of (codes "run" ∷ codes "--size" ∷ codes "18446744073709551617" ∷ []) ≡ None
  -- values that are missing or no number
  pub ends : command_of (codes "run" ∷ codes "--size" ∷ []) ≡ None
  pub nothing : command_of (codes "run" ∷ codes "--size=" ∷ []) ≡ None
  pub nothing_next : command_of (codes "run" ∷ codes "--size" ∷ [] ∷ []) ≡ None
  pub plus : command_of (codes "run" ∷ codes "--size=+4" ∷ []) ≡ None
  pub plus_next : command_of (codes "run" ∷ codes "--size" ∷ codes "+4" ∷ []) ≡ None
  pub minus : command_of (codes "run" ∷ codes "--fuel" ∷ codes "-1" ∷ []) ≡ None
  pub hyphen : command_of (codes "run" ∷ codes "--fuel" ∷ codes "--size" ∷ codes "4" ∷ []) ≡ None
  pub letter : command_of (codes "run" ∷ codes "--fuel=1a" ∷ []) ≡ None
  pub equals : command_of (codes "run" ∷ codes "--fuel==1" ∷ []) ≡ None
  -- an option that is given twice, one that does not exist, and one before the command
  pub twice : command_of (codes "run" ∷ codes "--fuel" ∷ codes "1" ∷ codes "--fuel=1" ∷ []) ≡ None
  pub short : command_of (codes "run" ∷ codes "--fue" ∷ codes "1" ∷ []) ≡ None
  pub unknown : command_of (codes "run" ∷ codes "--worker" ∷ codes "1" ∷ []) ≡ None
  pub nameless : command_of (codes "run" ∷ codes "--=1" ∷ []) ≡ None
  pub one_hyphen : command_of (codes "run" ∷ codes "-fuel" ∷ codes "1" ∷ []) ≡ None
  pub before : command_of (codes "--fuel" ∷ codes "1" ∷ codes "run" ∷ []) ≡ None
  -- words of main, in their order, before, between and behind options
  pub word : command_of (codes "run" ∷ codes "7" ∷ []) ≡ run_on (pos 7 ∷ [])
  pub words : command_of (codes "run" ∷ codes "7" ∷ codes "--fuel" ∷ codes "2" ∷ codes "5" ∷ codes "--size=4" ∷ []) ≡ Some (Run (pos 7 ∷ pos 5 ∷ []) (record default_limits { fuel = 2; size = 4 }) 4 None)
  pub word_zeros : command_of (codes "run" ∷ codes "007" ∷ []) ≡ run_on (pos 7 ∷ [])
  pub greatest : command_of (codes "run" ∷ codes "9223372036854775807" ∷ []) ≡ run_on (pos 9223372036854775807 ∷ [])
  -- behind `--` there are only words
  pub only_words : command_of (codes "run" ∷ codes "--" ∷ codes "7" ∷ codes "-5" ∷ []) ≡ run_on (pos 7 ∷ neg_ℤ (pos 5) ∷ [])
  pub only_behind : command_of (codes "run" ∷ codes "7" ∷ codes "--" ∷ codes "-5" ∷ []) ≡ run_on (pos 7 ∷ neg_ℤ (pos 5) ∷ [])
  pub no_more : command_of (codes "run" ∷ codes "--" ∷ []) ≡ run_on []
  pub option_before : command_of (codes "run" ∷ codes "--size=4" ∷ codes "--" ∷ codes "1" ∷ []) ≡ Some (Run (pos 1 ∷ []) (record default_limits { size = 4 }) 4 None)
  pub signed_zeros : command_of (codes "run" ∷ codes "--" ∷ codes "-0" ∷ codes "-007" ∷ []) ≡ run_on (pos 0 ∷ neg_ℤ (pos 7) ∷ [])
  pub lowest : command_of (codes "run" ∷ codes "--" ∷ codes "-9223372036854775808" ∷ codes "0" ∷ []) ≡ run_on (neg_ℤ (pos 9223372036854775808) ∷ pos 0 ∷ [])
  -- what is no word of main
  pub below : command_of (codes "run" ∷ codes "--" ∷ codes "-9223372036854775809" ∷ codes "0" ∷ []) ≡ None
  pub above : command_of (codes "run" ∷ codes "9223372036854775808" ∷ []) ≡ None
  pub negative : command_of (codes "run" ∷ codes "-5" ∷ []) ≡ None
  pub end_twice : command_of (codes "run" ∷ codes "--" ∷ codes "7" ∷ codes "--" ∷ []) ≡ None
  pub option_behind : command_of (codes "run" ∷ codes "--" ∷ codes "--size=4" ∷ []) ≡ None
  pub value_hidden : command_of (codes "run" ∷ codes "--size" ∷ codes "--" ∷ codes "4" ∷ []) ≡ None
  pub sign : command_of (codes "run" ∷ codes "--" ∷ codes "-" ∷ []) ≡ None
  pub sign_before : command_of (codes "run" ∷ codes "-" ∷ []) ≡ None
  pub two_signs : command_of (codes "run" ∷ codes "--" ∷ codes "-+5" ∷ []) ≡ None
  pub plus_word : command_of (codes "run" ∷ codes "+5" ∷ []) ≡ None
  pub no_digits : command_of (codes "run" ∷ [] ∷ []) ≡ None
  pub blank : command_of (codes "run" ∷ codes " 5" ∷ []) ≡ None
  pub hexadecimal : command_of (codes "run" ∷ codes "0x5" ∷ []) ≡ None
  pub bad_behind : command_of (codes "run" ∷ codes "7" ∷ codes "--" ∷ codes "5a" ∷ []) ≡ None

pub record Simulations : Type 0 where
  pub plain : command_of (codes "sim" ∷ []) ≡ sim_of default_limits 4 (Listed [])
  pub capital : command_of (codes "SIM" ∷ []) ≡ None
  -- all options, both ways to give them, and words between them
  pub all : command_of (codes "sim" ∷ codes "--workers" ∷ codes "2" ∷ codes "--fuel=3" ∷ codes "--size" ∷ codes "4" ∷ codes "7" ∷ codes "--aborts=5" ∷ codes "--strands" ∷ codes "6" ∷ codes "--moves=8" ∷ codes "--schedule" ∷ codes "0,1,0" ∷ codes "--" ∷ codes "-9" ∷ [])
      ≡ Some (Sim (pos 7 ∷ neg_ℤ (pos 9) ∷ []) (record { fuel = 3; size = 4; aborts = 5; strands = 6; moves = 8 }) 2 (Listed (0 ∷ 1 ∷ 0 ∷ [])) None)
  pub most : command_of (codes "sim" ∷ codes "--workers=64" ∷ codes "--fuel=1000000000" ∷ codes "--size=10000000" ∷ codes "--aborts=1000000000" ∷ codes "--strands=1000000" ∷ codes "--moves=1000000000" ∷ codes "--schedule=63" ∷ [])
      ≡ sim_of (record { fuel = 1000000000; size = 10000000; aborts = 1000000000; strands = 1000000; moves = 1000000000 }) 64 (Listed (63 ∷ []))
  pub least : command_of (codes "sim" ∷ codes "--workers=1" ∷ codes "--fuel=1" ∷ codes "--size=1" ∷ codes "--aborts=1" ∷ codes "--strands=1" ∷ codes "--moves=1" ∷ codes "--schedule=0" ∷ [])
      ≡ sim_of (record { fuel = 1; size = 1; aborts = 1; strands = 1; moves = 1 }) 1 (Listed (0 ∷ []))
  -- numbers out of range
  pub no_workers : command_of (codes "sim" ∷ codes "--workers=0" ∷ []) ≡ None
  pub many_workers : command_of (codes "sim" ∷ codes "--workers=65" ∷ []) ≡ None
  pub no_aborts : command_of (codes "sim" ∷ codes "--aborts=0" ∷ []) ≡ None
  pub many_aborts : command_of (codes "sim" ∷ codes "--aborts=1000000001" ∷ []) ≡ None
  pub no_strands : command_of (codes "sim" ∷ codes "--strands=0" ∷ []) ≡ None
  pub many_strands : command_of (codes "sim" ∷ codes "--strands=1000001" ∷ []) ≡ None
  pub no_moves : command_of (codes "sim" ∷ codes "--moves=0" ∷ []) ≡ None
  pub many_moves : command_of (codes "sim" ∷ codes "--moves=1000000001" ∷ []) ≡ None
  -- lists: of workers that exist, wherever the number of workers is given
  pub workers_before : command_of (codes "sim" ∷ codes "--workers=2" ∷ codes "--schedule=1" ∷ []) ≡ sim_of default_limits 2 (Listed (1 ∷ []))
  pub workers_behind : command_of (codes "sim" ∷ codes "--schedule=1" ∷ codes "--workers=2" ∷ []) ≡ sim_of default_limits 2 (Listed (1 ∷ []))
  pub workers_are_four : command_of (codes "sim" ∷ codes "--schedule=3,0" ∷ []) ≡ sim_of default_limits 4 (Listed (3 ∷ 0 ∷ []))
  pub fifth : command_of (codes "sim" ∷ codes "--schedule=4" ∷ []) ≡ None
  pub third_before : command_of (codes "sim" ∷ codes "--workers=2" ∷ codes "--schedule=0,2" ∷ []) ≡ None
  pub third_behind : command_of (codes "sim" ∷ codes "--schedule=0,2" ∷ codes "--workers=2" ∷ []) ≡ None
  pub list_zeros : command_of (codes "sim" ∷ codes "--schedule=00,01" ∷ []) ≡ sim_of default_limits 4 (Listed (0 ∷ 1 ∷ []))
  pub no_list : command_of (codes "sim" ∷ codes "--schedule=" ∷ []) ≡ None
  pub first_comma : command_of (codes "sim" ∷ codes "--schedule=,1" ∷ []) ≡ None
  pub last_comma : command_of (codes "sim" ∷ codes "--schedule=1," ∷ []) ≡ None
  pub two_commas : command_of (codes "sim" ∷ codes "--schedule=1,,1" ∷ []) ≡ None
  pub signed : command_of (codes "sim" ∷ codes "--schedule=+1" ∷ []) ≡ None
  pub minus : command_of (codes "sim" ∷ codes "--schedule=0,-1" ∷ []) ≡ None
  pub spaced : command_of (codes "sim" ∷ codes "--schedule=0, 1" ∷ []) ≡ None
  pub list_twice : command_of (codes "sim" ∷ codes "--schedule=0" ∷ codes "--schedule" ∷ codes "0" ∷ []) ≡ None
  pub as_many : list_below 4 3 (zeros 2) ≡ Some (0 ∷ 0 ∷ 0 ∷ [])
  pub too_many : list_below 4 3 (zeros 3) ≡ None
  -- seeds
  pub seed : command_of (codes "sim" ∷ codes "--seed" ∷ codes "0" ∷ []) ≡ sim_of default_limits 4 (Seeded 0)
  pub greatest_seed : command_of (codes "sim" ∷ codes "--seed=18446744073709551615" ∷ []) ≡ sim_of default_limits 4 (Seeded 18446744073709551615)
  pub great_seed : command_of (codes "sim" ∷ codes "--seed=18446744073709551616" ∷ []) ≡ None
  pub both : command_of (codes "sim" ∷ codes "--seed=1" ∷ codes "--schedule=0" ∷ []) ≡ None
  pub both_other : command_of (codes "sim" ∷ codes "--schedule" ∷ codes "0" ∷ codes "--seed" ∷ codes "1" ∷ []) ≡ None
  -- a report: the option's value is the number of its version
  pub report : command_of (codes "sim" ∷ codes "--report" ∷ codes "1" ∷ []) ≡ Some (Sim [] default_limits 4 (Listed []) (Some First))
  pub run_report : command_of (codes "run" ∷ codes "--report=01" ∷ []) ≡ Some (Run [] default_limits 4 (Some First))
  pub second_report : command_of (codes "run" ∷ codes "--report" ∷ codes "2" ∷ []) ≡ Some (Run [] default_limits 4 (Some Second))
  pub report_zeros : command_of (codes "sim" ∷ codes "--report=02" ∷ []) ≡ Some (Sim [] default_limits 4 (Listed []) (Some Second))
  pub third_report : command_of (codes "run" ∷ codes "--report" ∷ codes "3" ∷ []) ≡ None
  pub empty_report : command_of (codes "run" ∷ codes "--report=" ∷ []) ≡ None
  pub no_report : command_of (codes "sim" ∷ codes "--report=0" ∷ []) ≡ None
  -- options of a run, too
  pub run_workers : command_of (codes "run" ∷ codes "--workers" ∷ codes "1" ∷ []) ≡ run_by default_limits 1
  pub run_zeros : command_of (codes "run" ∷ codes "--workers=007" ∷ []) ≡ run_by default_limits 7
  pub run_most : command_of (codes "run" ∷ codes "--workers=64" ∷ codes "--aborts=1000000000" ∷ codes "--strands=1000000" ∷ [])
      ≡ run_by (record default_limits { aborts = 1000000000; strands = 1000000 }) 64
  pub run_least : command_of (codes "run" ∷ codes "--strands=1" ∷ codes "--aborts" ∷ codes "1" ∷ []) ≡ run_by (record default_limits { aborts = 1; strands = 1 }) 4
  pub run_no_workers : command_of (codes "run" ∷ codes "--workers=0" ∷ []) ≡ None
  pub run_many_workers : command_of (codes "run" ∷ codes "--workers=65" ∷ []) ≡ None
  pub run_many_strands : command_of (codes "run" ∷ codes "--strands=1000001" ∷ []) ≡ None
  pub run_workers_twice : command_of (codes "run" ∷ codes "--workers" ∷ codes "4" ∷ codes "--workers=4" ∷ []) ≡ None
  -- options of a simulation only
  pub run_moves : command_of (codes "run" ∷ codes "--moves=1" ∷ []) ≡ None
  pub run_schedule : command_of (codes "run" ∷ codes "--schedule=0" ∷ []) ≡ None
  pub run_seed : command_of (codes "run" ∷ codes "--seed=1" ∷ []) ≡ None
  pub bad_word : command_of (codes "sim" ∷ codes "--seed=1" ∷ codes "x" ∷ []) ≡ None

pub record Loads : Type 0 where
  pub limits : default_limits ≡ record { fuel = 1000000; size = 1000000; aborts = 100000; strands = 262144; moves = 10000000 }
  pub plain : command_of (codes "load" ∷ codes "10000" ∷ []) ≡ Some (Load 10000 4)
  pub least : command_of (codes "load" ∷ codes "--workers=1" ∷ codes "01" ∷ []) ≡ Some (Load 1 1)
  pub most : command_of (codes "load" ∷ codes "20000" ∷ codes "--workers" ∷ codes "64" ∷ []) ≡ Some (Load 20000 64)
  pub only_words : command_of (codes "load" ∷ codes "--" ∷ codes "5" ∷ []) ≡ Some (Load 5 4)
  pub capital : command_of (codes "Load" ∷ codes "5" ∷ []) ≡ None
  -- numbers out of range, no number, and two
  pub zero : command_of (codes "load" ∷ codes "0" ∷ []) ≡ None
  pub many : command_of (codes "load" ∷ codes "20001" ∷ []) ≡ None
  pub negative : command_of (codes "load" ∷ codes "--" ∷ codes "-5" ∷ []) ≡ None
  pub none : command_of (codes "load" ∷ []) ≡ None
  pub two : command_of (codes "load" ∷ codes "5" ∷ codes "6" ∷ []) ≡ None
  pub two_apart : command_of (codes "load" ∷ codes "5" ∷ codes "--" ∷ codes "6" ∷ []) ≡ None
  pub empty : command_of (codes "load" ∷ [] ∷ []) ≡ None
  pub plus : command_of (codes "load" ∷ codes "+5" ∷ []) ≡ None
  pub minus : command_of (codes "load" ∷ codes "-5" ∷ []) ≡ None
  -- options
  pub workers_twice : command_of (codes "load" ∷ codes "--workers=4" ∷ codes "--workers" ∷ codes "4" ∷ codes "5" ∷ []) ≡ None
  pub workers_first : command_of (codes "--workers" ∷ codes "4" ∷ codes "load" ∷ codes "5" ∷ []) ≡ None
  pub many_workers : command_of (codes "load" ∷ codes "--workers=65" ∷ codes "5" ∷ []) ≡ None
  pub fuel : command_of (codes "load" ∷ codes "--fuel" ∷ codes "1" ∷ codes "5" ∷ []) ≡ None
  pub report : command_of (codes "load" ∷ codes "5" ∷ codes "--report=1" ∷ []) ≡ None

pub record Keeps : Type 0 where
  pub plain : command_of (codes "keep" ∷ []) ≡ Some (Keep [] default_limits 4)
  pub all : command_of (codes "keep" ∷ codes "--workers" ∷ codes "2" ∷ codes "--fuel=3" ∷ codes "--size" ∷ codes "4" ∷ codes "7" ∷ codes "--aborts=5" ∷ codes "--strands" ∷ codes "6" ∷ codes "--" ∷ codes "-9" ∷ [])
      ≡ Some (Keep (pos 7 ∷ neg_ℤ (pos 9) ∷ []) (record default_limits { fuel = 3; size = 4; aborts = 5; strands = 6 }) 2)
  pub capital : command_of (codes "Keep" ∷ []) ≡ None
  -- options of other commands
  pub report : command_of (codes "keep" ∷ codes "--report" ∷ codes "1" ∷ []) ≡ None
  pub moves : command_of (codes "keep" ∷ codes "--moves=5" ∷ []) ≡ None
  pub seed : command_of (codes "keep" ∷ codes "--seed" ∷ codes "1" ∷ []) ≡ None
  -- no word of main, and an option given twice
  pub letter : command_of (codes "keep" ∷ codes "x" ∷ []) ≡ None
  pub workers_twice : command_of (codes "keep" ∷ codes "--workers=4" ∷ codes "--workers" ∷ codes "4" ∷ []) ≡ None
  pub no_workers : command_of (codes "keep" ∷ codes "--workers=0" ∷ []) ≡ None

pub record RaceSearches : Type 0 where
  pub plain : command_of (codes "races" ∷ []) ≡ Some (Races [] default_limits)
  pub all : command_of (codes "races" ∷ codes "--fuel=3" ∷ codes "7" ∷ codes "--size" ∷ codes "4" ∷ codes "--" ∷ codes "-9" ∷ []) ≡ Some (Races (pos 7 ∷ neg_ℤ (pos 9) ∷ []) (record default_limits { fuel = 3; size = 4 }))
  -- options of other commands
  pub workers : command_of (codes "races" ∷ codes "--workers" ∷ codes "1" ∷ []) ≡ None
  pub aborts : command_of (codes "races" ∷ codes "--aborts=3" ∷ []) ≡ None
  pub report : command_of (codes "races" ∷ codes "--report" ∷ codes "1" ∷ []) ≡ None
  pub fuel_twice : command_of (codes "races" ∷ codes "--fuel=4" ∷ codes "--fuel" ∷ codes "4" ∷ []) ≡ None
  pub letter : command_of (codes "races" ∷ codes "x" ∷ []) ≡ None

pub record Checks : Type 0 where
  pub plain : command_of (codes "check" ∷ []) ≡ Some Check
  pub no_more : command_of (codes "check" ∷ codes "--" ∷ []) ≡ Some Check
  pub capital : command_of (codes "Check" ∷ []) ≡ None
  -- words, and options of other commands
  pub letter : command_of (codes "check" ∷ codes "x" ∷ []) ≡ None
  pub number : command_of (codes "check" ∷ codes "7" ∷ []) ≡ None
  pub empty : command_of (codes "check" ∷ [] ∷ []) ≡ None
  pub only_words : command_of (codes "check" ∷ codes "--" ∷ codes "x" ∷ []) ≡ None
  pub end_twice : command_of (codes "check" ∷ codes "--" ∷ codes "--" ∷ []) ≡ None
  pub dash : command_of (codes "check" ∷ codes "-" ∷ []) ≡ None
  pub fuel : command_of (codes "check" ∷ codes "--fuel" ∷ codes "1" ∷ []) ≡ None
  pub report : command_of (codes "check" ∷ codes "--report=1" ∷ []) ≡ None
