-- Words of which one is `-` are no command.
use Rattle.std.proofs.Common.{rules, ◌≡◌, ◌∙◌, ℕ, Bool, true, false, true≢false, inl, inr, List, [], ◌∷◌, Option, Some, None, codes, refl, sym, ap}
use Rattle.std.specs.Prelude.{◌==◌, ◌&&◌, if◌then◌else◌, length, option_and_then}
use Rattle.std.specs.List.{list_any}
use Rattle.std.specs.Str.{bytes_eq}
use Rattle.std.proofs.lemmas.Slice.Eq.{bytes_eq-Decides}
use Rattle.clap.specs.Words.{Text}
use Rattle.cw_code.specs.declared.Limits.{Limits}
use Rattle.cw_io.specs.declared.schedule.Schedule.{Schedule}
use Rattle.cw_words.specs.declared.command.Command.{Command}
use Rattle.cw_words.specs.declared.command.Command.TheVariants.{Check}
use Rattle.cw_words.specs.declared.command.ReportVersion.{ReportVersion}
use Rattle.cw_words.specs.Asked.{is_dash, keep_from, load_from, races_from, run_from, sim_from}
use Rattle.cw_words.specs.Options.{Given, are_known, given, number_given, number_within, sole_word}
use Rattle.cw_code.specs.Ranges.{workers_option}
use Rattle.cw_words.specs.Words.{check_given, check_options, command_of, keep_given, keep_options, limits_given, load_given, load_options, most_transfers, races_given, races_options, report_given, run_given, run_options, schedule_given, sim_given, sim_options}
use Rattle.cw_words.proofs.Whole.{HasDash, dash_given, dash_integers, or_cases}

no_run : (g : Given) → list_any is_dash g.words ≡ true → run_given g ≡ None
no_run g d =
    ap (λ n. if are_known run_options g.options then run_from (limits_given g.options) (report_given g.options) (number_given workers_option g.options) n else None) (dash_integers g.words d)
    ∙ go (are_known run_options g.options) (limits_given g.options) (report_given g.options) (number_given workers_option g.options)
  where
    go : (k : Bool) (l : Option Limits) (r : Option (Option ReportVersion)) (w : Option ℕ) → (if k then run_from l r w None else None) ≡ None
    go false l r w = refl
    go true None r w = refl
    go true (Some l) None w = refl
    go true (Some l) (Some r) None = refl
    go true (Some l) (Some r) (Some w) = refl

no_sim : (g : Given) → list_any is_dash g.words ≡ true → sim_given g ≡ None
no_sim g d =
    ap (λ n. if are_known sim_options g.options then sim_from (limits_given g.options) (report_given g.options) (number_given workers_option g.options) (λ w. schedule_given w g.options) n else None) (dash_integers g.words d)
    ∙ go (are_known sim_options g.options) (limits_given g.options) (report_given g.options) (number_given workers_option g.options)
  where
    turns : (s : Option Schedule) (l : Limits) (r : Option ReportVersion) (w : ℕ) → sim_from (Some l) (Some r) (Some w) (λ v. s) None ≡ None
    turns None l r w = refl
    turns (Some s) l r w = refl

    go : (k : Bool) (l : Option Limits) (r : Option (Option ReportVersion)) (w : Option ℕ) → (if k then sim_from l r w (λ v. schedule_given v g.options) None else None) ≡ None
    go false l r w = refl
    go true None r w = refl
    go true (Some l) None w = refl
    go true (Some l) (Some r) None = refl
    go true (Some l) (Some r) (Some w) = turns (schedule_given w g.options) l r w

no_transfers : (ws : List Text) → list_any is_dash ws ≡ true → option_and_then (number_within 1 most_transfers) (sole_word ws) ≡ None
no_transfers [] d = absurd (true≢false (sym d))
no_transfers (w ∷ []) d = elim (or_cases (is_dash w) false d) [
  | inl i ↦ ap (number_within 1 most_transfers) ((bytes_eq-Decides w (45 ∷ [])).0 i)
  | inr i ↦ absurd (true≢false (sym i))
]
no_transfers (w ∷ v ∷ ws) d = refl

no_load : (g : Given) → list_any is_dash g.words ≡ true → load_given g ≡ None
no_load g d =
    ap (λ n. if are_known load_options g.options then load_from (number_given workers_option g.options) n else None) (no_transfers g.words d)
    ∙ go (are_known load_options g.options) (number_given workers_option g.options)
  where
    go : (k : Bool) (w : Option ℕ) → (if k then load_from w None else None) ≡ None
    go false w = refl
    go true None = refl
    go true (Some w) = refl

no_keep : (g : Given) → list_any is_dash g.words ≡ true → keep_given g ≡ None
no_keep g d =
    ap (λ n. if are_known keep_options g.options then keep_from (limits_given g.options) (number_given workers_option g.options) n else None) (dash_integers g.words d)
    ∙ go (are_known keep_options g.options) (limits_given g.options) (number_given workers_option g.options)
  where
    go : (k : Bool) (l : Option Limits) (w : Option ℕ) → (if k then keep_from l w None else None) ≡ None
    go false l w = refl
    go true None w = refl
    go true (Some l) None = refl
    go true (Some l) (Some w) = refl

no_races : (g : Given) → list_any is_dash g.words ≡ true → races_given g ≡ None
no_races g d =
    ap (λ n. if are_known races_options g.options then races_from (limits_given g.options) n else None) (dash_integers g.words d)
    ∙ go (are_known races_options g.options) (limits_given g.options)
  where
    go : (k : Bool) (l : Option Limits) → (if k then races_from l None else None) ≡ None
    go false l = refl
    go true None = refl
    go true (Some l) = refl

no_check : (g : Given) → list_any is_dash g.words ≡ true → check_given g ≡ None
no_check g d = go (are_known check_options g.options) g.words d
  where
    go : (k : Bool) (ws : List Text) → list_any is_dash ws ≡ true → (if k && length ws == 0 then Some Check else None) ≡ None
    go false ws e = refl
    go true [] e = absurd (true≢false (sym e))
    go true (w ∷ ws) e = let some : (length (w ∷ ws) == 0) ≡ false = search rules in ap (λ t. if t then Some Check else None) some

none_of : (make : Given → Option Command) → ((g : Given) → list_any is_dash g.words ≡ true → make g ≡ None) → (o : Option Given) → HasDash o → option_and_then make o ≡ None
none_of make never None h = refl
none_of make never (Some g) h = never g h

pub dash_refused : (ws : List Text) → list_any is_dash ws ≡ true → command_of ws ≡ None
dash_refused [] h = refl
dash_refused (w ∷ ws) h = elim (or_cases (is_dash w) (list_any is_dash ws) h) [
  | inl d ↦ ap (λ x. command_of (x ∷ ws)) ((bytes_eq-Decides w (45 ∷ [])).0 d)
  | inr d ↦ go (bytes_eq w (codes "run")) (bytes_eq w (codes "sim")) (bytes_eq w (codes "load")) (bytes_eq w (codes "keep")) (bytes_eq w (codes "races")) (bytes_eq w (codes "check")) (dash_given ws None d)
]
  where
    go : (a b c e f x : Bool) → HasDash (given ws)
        → (if a then option_and_then run_given (given ws) else if b then option_and_then sim_given (given ws) else if c then option_and_then load_given (given ws) else if e then option_and_then keep_given (given ws) else if f then option_and_then races_given (given ws) else if x then option_and_then check_given (given ws) else None) ≡ None
    go true b c e f x h = none_of run_given no_run (given ws) h
    go false true c e f x h = none_of sim_given no_sim (given ws) h
    go false false true e f x h = none_of load_given no_load (given ws) h
    go false false false true f x h = none_of keep_given no_keep (given ws) h
    go false false false false true x h = none_of races_given no_races (given ws) h
    go false false false false false true h = none_of check_given no_check (given ws) h
    go false false false false false false h = refl
