-- The command line as clap has it: as the code writes it, and as clap builds it. And what clap's walk over the words of a command
-- makes of them.
use Rattle.std.specs.Prelude.{Bool, true, false, List, [], ◌∷◌, ◌&&◌, not, map, Option, Some, None, codes, drop, fold}
use Rattle.std.specs.List.{list_any, list_all}
use Rattle.std.specs.Str.{bytes_eq, chars}
use Rattle.clap.specs.Words.{App, Kinds, Row, Rule, Shape, Text, new_rule}
use Rattle.clap.specs.Kinds.{or_else}
use Rattle.clap.specs.Simple.{new_shape}
use Rattle.clap.specs.Walk.{Held, Waiting, Walk, has_row, is_empty, settled_rows, used, walked}
use Rattle.clap.specs.Faults.{settle_fault, walk_fault}
use Rattle.clap.specs.declared.builder.action.ArgAction.TheVariants.{Append, Set}
use Rattle.clap.specs.declared.builder.value_parser.ValueParser.TheVariants as vp
use Rattle.cw_words.specs.Words.{check_options, keep_options, load_options, races_options, run_options, sim_options}
use Rattle.cw_words.specs.Options.{Given, GivenOption, has_hyphen, is_option}

abbrev pub option_rule : Text → Rule
option_rule name = record (new_rule name) { long = Some name }

abbrev pub word_rule : Rule
word_rule = record (new_rule (codes "words")) { action = Some Append }

abbrev pub leaf_app : Text → List Text → App
leaf_app name options = record { top = record (new_shape name) { rules = word_rule ∷ map option_rule options }; subs = [] }

-- the same, built
abbrev pub built_option : Text → Rule
built_option name = record (new_rule name) { long = Some name; action = Some Set; range = Some (record { start_inclusive = 1; end_inclusive = 1 }); parser = Some vp.String }

abbrev pub built_word : Rule
built_word = record (new_rule (codes "words")) { index = Some 1; action = Some Append; range = Some (record { start_inclusive = 1; end_inclusive = 1 }); parser = Some vp.String }

abbrev pub leaf_rules : List Text → List Rule
leaf_rules names = built_word ∷ map built_option names

abbrev pub leaf : Text → List Text → Shape
leaf name names = record (new_shape name) { rules = leaf_rules names; no_binary_name = true; disable_help_flag = true; disable_help_subcommand = true; is_built = true }

-- ## a walk

abbrev pub fine : Kinds → Bool
fine [] = true
fine (k ∷ ks) = false

abbrev pub held_at : List Row → Option (Text × List Text) → Held
held_at rows p = record { rows = rows; pending = p; skip = 0 }

abbrev pub walk_at : List Row → Option (Text × List Text) → Waiting → Bool → Walk
walk_at rows p waiting trailing = record { held = held_at rows p; waiting = waiting; position = 1; is_trailing = trailing; stopped = None }

abbrev pub end_from : List Text → Walk → List Text → Held
end_from names w ws = (fold (walked (leaf_rules names) []) w ws).held

abbrev pub fault_from : Text → List Text → Walk → List Text → Kinds
fault_from name names w ws = or_else (walk_fault (leaf name names) [] w ws) (settle_fault (leaf_rules names) false (end_from names w ws))

abbrev pub rows_from : List Text → Walk → List Text → List Row
rows_from names w ws = settled_rows (leaf_rules names) (end_from names w ws).pending (end_from names w ws).rows

-- ## what is given

abbrev pub is_known : List Text → Text → Bool
is_known names name = list_any (λ k. bytes_eq k name) names

abbrev pub add_option : (name value : Text) → List Row → List Row
add_option name value = used (built_option name) (value ∷ [])

abbrev pub add_word : (value : Text) → List Row → List Row
add_word value = used built_word (value ∷ [])

abbrev pub fits : (names : List Text) → List GivenOption → List Row → Bool
fits names [] rows = true
fits names (o ∷ os) rows = is_known names o.0 && (not (has_row o.0 rows) && fits names os (add_option o.0 o.1 rows))

abbrev pub judged : (names : List Text) → Option Given → List Row → Bool
judged names None rows = false
judged names (Some g) rows = fits names g.options rows

-- a word that begins with a hyphen, and with no option and no letter
abbrev pub is_odd : Text → Bool
is_odd w = has_hyphen w && (not (is_option w) && is_empty (chars (drop 1 w)))

abbrev pub has_no_odd : List Text → Bool
has_no_odd ws = list_all (λ w. not (is_odd w)) ws

-- the command line
abbrev pub cli : App
cli = record {
  top = record (new_shape (codes "cwstm")) { is_leaf = false; no_binary_name = true; disable_help_flag = true; disable_help_subcommand = true };
  subs = (leaf_app (codes "run") run_options).top ∷ (leaf_app (codes "sim") sim_options).top ∷ (leaf_app (codes "load") load_options).top ∷ (leaf_app (codes "keep") keep_options).top ∷ (leaf_app (codes "races") races_options).top ∷ (leaf_app (codes "check") check_options).top ∷ [];
}
