-- The parse of the words behind a command, and the level above it.
use Rattle.std.proofs.Common.{◌≡◌, ◌∙◌, ◌&&◌, ◌||◌, ℕ, Bool, true, false, true≢false, List, [], ◌∷◌, ◌++◌, map, Some, None, codes, not, is_some, refl, sym, ap, subst, append_assoc, append-nil}
use Rattle.std.specs.Prelude.{if◌then◌else◌, fold}
use Rattle.std.specs.List.{list_any}
use Rattle.std.specs.Str.{bytes_eq}
use Rattle.std.specs.Str.{chars}
use Rattle.std.specs.Prelude.{slice_get}
use Rattle.clap.specs.Lexer.{long_of, short_of}
use Rattle.clap.specs.Faults.{flags_fault, turn_fault}
use Rattle.clap.specs.Kinds.{Kinds, check_kinds, or_else}
use Rattle.clap.specs.Words.{App, Row, Shape, Text, fault_of, is_simple_and_free, subcommand_of}
use Rattle.clap.specs.Simple.{built, filled_from, names_of, new_shape}
use Rattle.clap.specs.Takes.{is_given}
use Rattle.clap.specs.Walk.{Names, Walk, finished, has_row, idle, nothing_held, rows_after, settled, walk, walk_from, walked, with_default}
use Rattle.clap.specs.Faults.{check_fault, default_fault, defaults_fault, given_default_fault, level_fault, settle_fault, walk_fault}
use Rattle.cw_words.specs.Options.{given}
use Rattle.cw_words.specs.Words.{check_options, keep_options, load_options, races_options, run_options, sim_options}
use Rattle.cw_words.specs.Shapes.{built_option, built_word, end_from, fault_from, fine, has_no_odd, is_known, judged, leaf, leaf_rules, rows_from, walk_at}
use Rattle.std.proofs.Common.{inl, inr, ◌⊎◌}
use Rattle.std.specs.Prelude.{option_and_then}
use Rattle.clap.specs.Lexer.{long_of_rest}
use Rattle.clap.specs.Walk.{is_empty}
use Rattle.cw_words.specs.Shapes.{cli, is_odd}
use Rattle.cw_words.proofs.Walks.{IsPlainWord, empty_is_plain, fine-or_else, first_char, no_option, odd_one, other_is_plain, walks, word_cases}
use Rattle.cw_words.proofs.Rows.{Sees, ends}

or_true : (a : Bool) → (a || true) ≡ true
or_true true = refl
or_true false = refl

same : {X : Type 0} (b : Bool) (x : X) → (if b then x else x) ≡ x
same true x = refl
same false x = refl

-- ## Nothing has a default or is required

no_defaults : (ks : List Text) (rows : List Row) → defaults_fault rows (map built_option ks) ≡ []
unfolding defaults_fault
no_defaults [] rows = refl
no_defaults (k ∷ ks) rows =
    ap (λ t. or_else (if t then [] else given_default_fault (built_option k) []) (defaults_fault (with_default rows (built_option k)) (map built_option ks))) (or_true (has_row k rows))
    ∙ no_defaults ks (with_default rows (built_option k))

pub leaf_defaults : (names : List Text) (rows : List Row) → defaults_fault rows (leaf_rules names) ≡ []
unfolding defaults_fault
leaf_defaults names rows =
    ap (λ t. or_else (if t then [] else given_default_fault built_word []) (defaults_fault (with_default rows built_word) (map built_option names))) (or_true (has_row (codes "words") rows))
    ∙ no_defaults names (with_default rows built_word)

no_required : (ks : List Text) (rows : List Row) → list_any (λ a. a.required && not (is_given a.id rows)) (map built_option ks) ≡ false
no_required [] rows = refl
no_required (k ∷ ks) rows = no_required ks rows

pub leaf_check : (name : Text) (names : List Text) (rows : List Row) → check_fault (leaf name names) rows false ≡ []
leaf_check name names rows = ap (λ t. check_kinds false false t) (no_required names rows)

no_default_rows : (ks : List Text) (rows : List Row) → fold with_default rows (map built_option ks) ≡ rows
no_default_rows [] rows = refl
no_default_rows (k ∷ ks) rows = ap (λ rs. fold with_default rs (map built_option ks)) (same (has_row k rows) rows) ∙ no_default_rows ks rows

pub leaf_rows : (names : List Text) (ws : List Text) → rows_after (leaf_rules names) [] ws ≡ rows_from names (walk_at [] None idle false) ws
leaf_rows names ws =
    let rows = rows_from names (walk_at [] None idle false) ws in
    ap (λ rs. fold with_default rs (map built_option names)) (same (has_row (codes "words") rows) rows) ∙ no_default_rows names rows

pub leaf_level : (name : Text) (names : List Text) (ws : List Text) → fine (level_fault (leaf name names) [] nothing_held ws false []) ≡ fine (fault_from name names (walk_at [] None idle false) ws)
leaf_level name names ws =
    let last = end_from names (walk_at [] None idle false) ws in
    let w = walk_fault (leaf name names) [] (walk_at [] None idle false) ws in
    let s = settle_fault (leaf_rules names) false last in
    fine-or_else w (or_else s (or_else (defaults_fault (settled (leaf_rules names) last).rows (leaf_rules names)) (check_fault (leaf name names) (finished (leaf_rules names) last) false)))
    ∙ ap (λ k. fine w && fine (or_else s (or_else k (check_fault (leaf name names) (finished (leaf_rules names) last) false)))) (leaf_defaults names (settled (leaf_rules names) last).rows)
    ∙ ap (λ k. fine w && fine (or_else s k)) (leaf_check name names (finished (leaf_rules names) last))
    ∙ ap (λ t. fine w && t) (or_nothing s)
    ∙ sym (fine-or_else w s)
  where
    or_nothing : (k : Kinds) → fine (or_else k []) ≡ fine k
    or_nothing [] = refl
    or_nothing (x ∷ xs) = refl

-- the parse of the words behind a command fails exactly where they cannot be read, or name an option that is not known, or one twice
pub leaf_judged : (name : Text) (names : List Text) → is_known names (codes "words") ≡ false → (ws : List Text) → has_no_odd ws ≡ true
    → fine (level_fault (leaf name names) [] nothing_held ws false []) ≡ judged names (given ws) []
leaf_judged name names other ws even = leaf_level name names ws ∙ (walks name names other ws even).resting [] None true

-- and where it does not fail, its rows are the options and words that are given
pub leaf_seen : (names : List Text) (other : is_known names (codes "words") ≡ false) (ws : List Text) → Sees names other (rows_after (leaf_rules names) [] ws) [] (given ws)
leaf_seen names other ws = subst (λ (rs : List Row). Sees names other rs [] (given ws)) (sym (leaf_rows names ws)) ((ends names other ws).at_rest [] None true)

-- ## The command with its subcommands

abbrev pub cli_top : Shape
cli_top = record (new_shape (codes "cwstm")) { is_leaf = false; no_binary_name = true; disable_help_flag = true; disable_help_subcommand = true; is_built = true }

abbrev pub cli_built : App
cli_built = record { top = cli_top; subs = leaf (codes "run") run_options ∷ leaf (codes "sim") sim_options ∷ leaf (codes "load") load_options ∷ leaf (codes "keep") keep_options ∷ leaf (codes "races") races_options ∷ leaf (codes "check") check_options ∷ [] }

pub cli_is_built : built cli ≡ cli_built
cli_is_built = refl

pub cli_is_simple : is_simple_and_free cli ≡ true
cli_is_simple = refl

abbrev names : Names
names = names_of cli_built

abbrev stopped_at : Text → List Text → Walk
stopped_at name behind = record (walk_from nothing_held) { stopped = Some (name, behind) }

stays_stopped : (name : Text) (behind ws : List Text) → fold (walked [] names) (stopped_at name behind) ws ≡ stopped_at name (behind ++ ws)
unfolding walked
stays_stopped name behind [] = ap (stopped_at name) (sym (append-nil behind))
stays_stopped name behind (w ∷ ws) = stays_stopped name (behind ++ w ∷ []) ws ∙ ap (stopped_at name) (append_assoc behind (w ∷ []) ws)

no_fault : (name : Text) (behind ws : List Text) → walk_fault cli_top names (stopped_at name behind) ws ≡ []
unfolding walked walk_fault
no_fault name behind [] = refl
no_fault name behind (w ∷ ws) = no_fault name (behind ++ w ∷ []) ws

run_walk : (ws : List Text) → walk [] names nothing_held (codes "run" ∷ ws) ≡ stopped_at (codes "run") ws
unfolding walked
run_walk ws = stays_stopped (codes "run") [] ws

run_walk_fault : (ws : List Text) → walk_fault cli_top names (walk_from nothing_held) (codes "run" ∷ ws) ≡ []
unfolding walked walk_fault
run_walk_fault ws = no_fault (codes "run") [] ws

sim_walk : (ws : List Text) → walk [] names nothing_held (codes "sim" ∷ ws) ≡ stopped_at (codes "sim") ws
unfolding walked
sim_walk ws = stays_stopped (codes "sim") [] ws

sim_walk_fault : (ws : List Text) → walk_fault cli_top names (walk_from nothing_held) (codes "sim" ∷ ws) ≡ []
unfolding walked walk_fault
sim_walk_fault ws = no_fault (codes "sim") [] ws

load_walk : (ws : List Text) → walk [] names nothing_held (codes "load" ∷ ws) ≡ stopped_at (codes "load") ws
unfolding walked
load_walk ws = stays_stopped (codes "load") [] ws

load_walk_fault : (ws : List Text) → walk_fault cli_top names (walk_from nothing_held) (codes "load" ∷ ws) ≡ []
unfolding walked walk_fault
load_walk_fault ws = no_fault (codes "load") [] ws

keep_walk : (ws : List Text) → walk [] names nothing_held (codes "keep" ∷ ws) ≡ stopped_at (codes "keep") ws
unfolding walked
keep_walk ws = stays_stopped (codes "keep") [] ws

keep_walk_fault : (ws : List Text) → walk_fault cli_top names (walk_from nothing_held) (codes "keep" ∷ ws) ≡ []
unfolding walked walk_fault
keep_walk_fault ws = no_fault (codes "keep") [] ws

races_walk : (ws : List Text) → walk [] names nothing_held (codes "races" ∷ ws) ≡ stopped_at (codes "races") ws
unfolding walked
races_walk ws = stays_stopped (codes "races") [] ws

races_walk_fault : (ws : List Text) → walk_fault cli_top names (walk_from nothing_held) (codes "races" ∷ ws) ≡ []
unfolding walked walk_fault
races_walk_fault ws = no_fault (codes "races") [] ws

check_walk : (ws : List Text) → walk [] names nothing_held (codes "check" ∷ ws) ≡ stopped_at (codes "check") ws
unfolding walked
check_walk ws = stays_stopped (codes "check") [] ws

check_walk_fault : (ws : List Text) → walk_fault cli_top names (walk_from nothing_held) (codes "check" ∷ ws) ≡ []
unfolding walked walk_fault
check_walk_fault ws = no_fault (codes "check") [] ws

pub sim_rows : (ws : List Text) → subcommand_of cli (codes "sim" ∷ ws) ≡ Some (codes "sim", rows_after (leaf_rules sim_options) [] ws)
sim_rows ws = ap (λ w. Rattle.clap.specs.Simple.entered cli_built w.stopped) (sim_walk ws)

pub load_rows : (ws : List Text) → subcommand_of cli (codes "load" ∷ ws) ≡ Some (codes "load", rows_after (leaf_rules load_options) [] ws)
load_rows ws = ap (λ w. Rattle.clap.specs.Simple.entered cli_built w.stopped) (load_walk ws)

pub keep_rows : (ws : List Text) → subcommand_of cli (codes "keep" ∷ ws) ≡ Some (codes "keep", rows_after (leaf_rules keep_options) [] ws)
keep_rows ws = ap (λ w. Rattle.clap.specs.Simple.entered cli_built w.stopped) (keep_walk ws)

pub races_rows : (ws : List Text) → subcommand_of cli (codes "races" ∷ ws) ≡ Some (codes "races", rows_after (leaf_rules races_options) [] ws)
races_rows ws = ap (λ w. Rattle.clap.specs.Simple.entered cli_built w.stopped) (races_walk ws)

pub check_rows : (ws : List Text) → subcommand_of cli (codes "check" ∷ ws) ≡ Some (codes "check", rows_after (leaf_rules check_options) [] ws)
check_rows ws = ap (λ w. Rattle.clap.specs.Simple.entered cli_built w.stopped) (check_walk ws)

pub run_rows : (ws : List Text) → subcommand_of cli (codes "run" ∷ ws) ≡ Some (codes "run", rows_after (leaf_rules run_options) [] ws)
run_rows ws = ap (λ w. Rattle.clap.specs.Simple.entered cli_built w.stopped) (run_walk ws)

-- the fault of the whole by the walk, and where it ends
abbrev whole : Kinds → Walk → Kinds
whole k w =
    or_else k (or_else (Rattle.clap.specs.Faults.entered_fault cli_built w.stopped) (or_else (settle_fault [] false w.held) (or_else (defaults_fault (settled [] w.held).rows [])
    (check_fault cli_top (finished [] w.held) (is_some (Rattle.clap.specs.Simple.entered cli_built w.stopped))))))

pub whole_is : (words : List Text) → fault_of cli words ≡ whole (walk_fault cli_top names (walk_from nothing_held) words) (walk [] names nothing_held words)
whole_is words = refl

or_nothing : (k : Kinds) → or_else k [] ≡ k
or_nothing [] = refl
or_nothing (x ∷ xs) = refl

pub run_fault : (ws : List Text) → fault_of cli (codes "run" ∷ ws) ≡ level_fault (leaf (codes "run") run_options) [] nothing_held ws false []
unfolding defaults_fault
run_fault ws = ap (λ k. whole k (walk [] names nothing_held (codes "run" ∷ ws))) (run_walk_fault ws) ∙ ap (whole []) (run_walk ws) ∙ or_nothing (level_fault (leaf (codes "run") run_options) [] nothing_held ws false [])

pub sim_fault : (ws : List Text) → fault_of cli (codes "sim" ∷ ws) ≡ level_fault (leaf (codes "sim") sim_options) [] nothing_held ws false []
unfolding defaults_fault
sim_fault ws = ap (λ k. whole k (walk [] names nothing_held (codes "sim" ∷ ws))) (sim_walk_fault ws) ∙ ap (whole []) (sim_walk ws) ∙ or_nothing (level_fault (leaf (codes "sim") sim_options) [] nothing_held ws false [])

pub load_fault : (ws : List Text) → fault_of cli (codes "load" ∷ ws) ≡ level_fault (leaf (codes "load") load_options) [] nothing_held ws false []
unfolding defaults_fault
load_fault ws = ap (λ k. whole k (walk [] names nothing_held (codes "load" ∷ ws))) (load_walk_fault ws) ∙ ap (whole []) (load_walk ws) ∙ or_nothing (level_fault (leaf (codes "load") load_options) [] nothing_held ws false [])

pub keep_fault : (ws : List Text) → fault_of cli (codes "keep" ∷ ws) ≡ level_fault (leaf (codes "keep") keep_options) [] nothing_held ws false []
unfolding defaults_fault
keep_fault ws = ap (λ k. whole k (walk [] names nothing_held (codes "keep" ∷ ws))) (keep_walk_fault ws) ∙ ap (whole []) (keep_walk ws) ∙ or_nothing (level_fault (leaf (codes "keep") keep_options) [] nothing_held ws false [])

pub races_fault : (ws : List Text) → fault_of cli (codes "races" ∷ ws) ≡ level_fault (leaf (codes "races") races_options) [] nothing_held ws false []
unfolding defaults_fault
races_fault ws = ap (λ k. whole k (walk [] names nothing_held (codes "races" ∷ ws))) (races_walk_fault ws) ∙ ap (whole []) (races_walk ws) ∙ or_nothing (level_fault (leaf (codes "races") races_options) [] nothing_held ws false [])

pub check_command_fault : (ws : List Text) → fault_of cli (codes "check" ∷ ws) ≡ level_fault (leaf (codes "check") check_options) [] nothing_held ws false []
unfolding defaults_fault
check_command_fault ws = ap (λ k. whole k (walk [] names nothing_held (codes "check" ∷ ws))) (check_walk_fault ws) ∙ ap (whole []) (check_walk ws) ∙ or_nothing (level_fault (leaf (codes "check") check_options) [] nothing_held ws false [])

-- ## A first word that is no command

pub no_words : subcommand_of cli [] ≡ None
no_words = refl

abbrev pub is_command : Text → Bool
is_command w = bytes_eq (codes "run") w || (bytes_eq (codes "sim") w || (bytes_eq (codes "load") w || (bytes_eq (codes "keep") w || (bytes_eq (codes "races") w || bytes_eq (codes "check") w))))

-- behind `--` there is no subcommand
ends_walk : (ws : List Text) (h : Walk) → h.is_trailing ≡ true → h.stopped ≡ None → (fold (walked [] names) h ws).stopped ≡ None
unfolding walked
ends_walk [] h t s = s
ends_walk (w ∷ ws) h t s = ends_walk ws (walked [] names h w) (rw (s, t) refl) (rw (s, t) refl)

top_plain : (w : Text) → bytes_eq (codes "run") w ≡ false → bytes_eq (codes "sim") w ≡ false → bytes_eq (codes "load") w ≡ false → bytes_eq (codes "keep") w ≡ false → bytes_eq (codes "races") w ≡ false → bytes_eq (codes "check") w ≡ false → bytes_eq w (45 ∷ 45 ∷ []) ≡ false → long_of w ≡ None → short_of w ≡ None
    → fine (turn_fault cli_top names (walk_from nothing_held) w) ≡ false
top_plain w a b c d e f e1 e2 e3 = rw (a, b, c, d, e, f, e1, e2, e3) refl

top_long : (e : ℕ) (es : Text) → fine (turn_fault cli_top names (walk_from nothing_held) (45 ∷ 45 ∷ e ∷ es)) ≡ false
top_long e es = refl

top_short : (w : Text) (f : ℕ) (fs : Text) (x : ℕ) → bytes_eq (codes "run") w ≡ false → bytes_eq (codes "sim") w ≡ false → bytes_eq (codes "load") w ≡ false → bytes_eq (codes "keep") w ≡ false → bytes_eq (codes "races") w ≡ false → bytes_eq (codes "check") w ≡ false → bytes_eq w (45 ∷ 45 ∷ []) ≡ false → long_of w ≡ None → short_of w ≡ Some (f ∷ fs)
    → slice_get (chars (f ∷ fs)) 0 ≡ Some x → fine (turn_fault cli_top names (walk_from nothing_held) w) ≡ false
unfolding flags_fault
top_short w f fs x a b c d e g e1 e2 e3 e4 = rw (a, b, c, d, e, g, e1, e2, e3, e4) refl

-- ## The first word

-- the parse fails, or enters no subcommand
abbrev pub Enters : (w : Text) → List Text → Type 0
Enters w ws = (fine (fault_of cli (w ∷ ws)) ≡ false) ⊎ (subcommand_of cli (w ∷ ws) ≡ None)

first_fails : (w : Text) (ws : List Text) → fine (turn_fault cli_top names (walk_from nothing_held) w) ≡ false → fine (fault_of cli (w ∷ ws)) ≡ false
unfolding walk_fault
first_fails w ws e =
    let next = walked [] names (walk_from nothing_held) w in
    let a = turn_fault cli_top names (walk_from nothing_held) w in
    let b = walk_fault cli_top names next ws in
    let end = walk [] names nothing_held (w ∷ ws) in
    let c = or_else (Rattle.clap.specs.Faults.entered_fault cli_built end.stopped) (or_else (settle_fault [] false end.held) (or_else (defaults_fault (settled [] end.held).rows [])
    (check_fault cli_top (finished [] end.held) (is_some (Rattle.clap.specs.Simple.entered cli_built end.stopped))))) in
    fine-or_else (or_else a b) c ∙ ap (λ t. t && fine c) (fine-or_else a b) ∙ ap (λ t. (t && fine b) && fine c) e

only_ends : (ws : List Text) → subcommand_of cli ((45 ∷ 45 ∷ []) ∷ ws) ≡ None
unfolding walked
only_ends ws = ap (Rattle.clap.specs.Simple.entered cli_built) (ends_walk ws (record (walk_from nothing_held) { is_trailing = true }) refl refl)

pub other_first : (ws : List Text) (w : Text) → bytes_eq (codes "run") w ≡ false → bytes_eq (codes "sim") w ≡ false → bytes_eq (codes "load") w ≡ false → bytes_eq (codes "keep") w ≡ false → bytes_eq (codes "races") w ≡ false → bytes_eq (codes "check") w ≡ false → is_odd w ≡ false → Enters w ws
other_first ws w =
    word_cases (λ x. bytes_eq (codes "run") x ≡ false → bytes_eq (codes "sim") x ≡ false → bytes_eq (codes "load") x ≡ false → bytes_eq (codes "keep") x ≡ false → bytes_eq (codes "races") x ≡ false → bytes_eq (codes "check") x ≡ false → is_odd x ≡ false → Enters x ws)
    (λ a b c k r q o. plain [] empty_is_plain a b c k r q)
    (λ x xs i a b c k r q o. plain (x ∷ xs) (other_is_plain x xs i) a b c k r q)
    (λ a b c k r q o. absurd (true≢false (sym odd_one ∙ o)))
    (λ d ds i a b c k r q o.
    let some = first_char (chars (d ∷ ds)) (sym (ap (λ t. not t && is_empty (chars (d ∷ ds))) (no_option d ds i)) ∙ o) in
    inl (first_fails (45 ∷ d ∷ ds) ws (top_short (45 ∷ d ∷ ds) d ds some.0 a b c k r q
    (ap (λ t. t && bytes_eq ds []) i)
    (ap (λ t. option_and_then long_of_rest (if t then Some ds else None)) i)
    (ap (λ t. if t then None else Some (d ∷ ds)) i) some.1)))
    (λ a b c k r q o. inr (only_ends ws))
    (λ e es a b c k r q o. inl (first_fails (45 ∷ 45 ∷ e ∷ es) ws (top_long e es)))
    w
  where
    plain : (x : Text) → IsPlainWord x → bytes_eq (codes "run") x ≡ false → bytes_eq (codes "sim") x ≡ false → bytes_eq (codes "load") x ≡ false → bytes_eq (codes "keep") x ≡ false → bytes_eq (codes "races") x ≡ false → bytes_eq (codes "check") x ≡ false → Enters x ws
    plain x is a b c k r q = inl (first_fails x ws (top_plain x a b c k r q is.ends is.long is.short))
