-- What clap's matches give: the words that belong to no option, and the command that a parse enters.
use Rattle.std.proofs.Common.{◌≡◌, ◌∙◌, ◌∷◌, [], true, false, not, List, Option, Some, None, codes, option_map, refl, sym, ap}
use Rattle.std.specs.Prelude.{find, unwrap_or}
use Rattle.std.specs.Option.{option_map_or}
use Rattle.std.specs.Str.{bytes_eq}
use Rattle.std.specs.Borrow.{Bor}
use Rattle.std.specs.Prelude.{Box}
use Rattle.clap.specs.declared.parser.matches.ArgMatches.{ArgMatches}
use Rattle.clap.specs.declared.parser.matches.ArgMatches.TheViews.{out-ArgMatches, out-SubCommand}
use Rattle.clap.specs.declared.parser.matches.SubCommand.{SubCommand}
use Rattle.clap.specs.Simple.{subcommand_rows}
use Rattle.std.specs.Box.{box_value}
use Rattle.clap.specs.Words.{Row, Text, fault_of, found_of, matched_of, raw_values, subcommand_name_of, subcommand_of, subcommand_rows_of}
use Rattle.clap.specs.Walk.{rows_of}
use Rattle.clap.specs.declared.parser.matches.Found.{Found}
use Rattle.clap.proofs.WalkLemmas.{both, raw_values-rows}
use Rattle.cw_words.specs.Asked.{check_at, keep_at, load_asked, races_at, run_at, sim_at, value_in, words_in}
use Rattle.cw_words.specs.Shapes.{cli, fine, has_no_odd, is_odd}
use Rattle.cw_words.specs.Words.{command_of}
use Rattle.cw_words.proofs.Walks.{not_true}
use Rattle.cw_words.proofs.Whole.{command_by, whole_refused, whole_taken}

pub words_given : (f : Found) (o : Option (List Text)) → o ≡ option_map raw_values (matched_of f (codes "words")) → words_in f ≡ unwrap_or o []
words_given f o e = go (find (λ (r : Row). bytes_eq r.id (codes "words")) (rows_of f)) ∙ ap (λ x. unwrap_or x []) (sym (e ∙ raw_values-rows f (codes "words")))
  where
    go : (r : Option Row) → option_map_or (λ (r : Row). r.values) r [] ≡ unwrap_or (option_map (λ (r : Row). r.values) r) []
    go None = refl
    go (Some r) = refl

-- ## The command that a parse enters

pub of_taken : (ws : List Text) → has_no_odd ws ≡ true → fault_of cli ws ≡ [] → command_of ws ≡ command_by (subcommand_of cli ws)
of_taken [] even e = refl
of_taken (w ∷ ws) even e =
    let b = both (not (is_odd w)) (has_no_odd ws) even in
    whole_taken ws b.1 w (not_true (is_odd w) b.0) e

pub of_refused : (ws : List Text) → has_no_odd ws ≡ true → fine (fault_of cli ws) ≡ false → command_of ws ≡ None
of_refused [] even e = refl
of_refused (w ∷ ws) even e = whole_refused ws (both (not (is_odd w)) (has_no_odd ws) even).1 w e

pub entered_is : (m : ArgMatches) (r : Option (Bor Text × Bor ArgMatches)) → option_map (λ p. p.0.now) r ≡ subcommand_name_of m
    → option_map (λ p. rows_of (found_of p.1.now)) r ≡ option_map (λ p. p.1) (subcommand_rows_of m) → subcommand_rows_of m ≡ option_map (λ p. (p.0.now, rows_of (found_of p.1.now))) r
entered_is m r n rows = go (subcommand_rows_of m) r (n ∙ named (out-ArgMatches m).subcommand) rows
  where
    named : {Z : Type 0} (o : Option (Box SubCommand Z)) → option_map (λ b. (out-SubCommand (box_value b)).name.now) o ≡ option_map (λ p. p.0) (subcommand_rows o)
    named None = refl
    named (Some b) = refl

    go : (o : Option (Text × List Row)) (r : Option (Bor Text × Bor ArgMatches)) → option_map (λ p. p.0.now) r ≡ option_map (λ p. p.0) o
        → option_map (λ p. rows_of (found_of p.1.now)) r ≡ option_map (λ p. p.1) o → o ≡ option_map (λ p. (p.0.now, rows_of (found_of p.1.now))) r
    go None None a b = refl
    go None (Some p) a b = cc
    go (Some q) None a b = cc
    go (Some q) (Some p) a b =
        let name = ap (λ (o : Option Text). unwrap_or o q.0) a in
        let held = ap (λ (o : Option (List Row)). unwrap_or o q.1) b in
        λ i. Some (sym name i, sym held i)

pub as_entered : (ws : List Text) (m : ArgMatches) (r : Option (Bor Text × Bor ArgMatches)) → has_no_odd ws ≡ true → (fault_of cli ws ≡ []) × (subcommand_rows_of m ≡ subcommand_of cli ws)
    → option_map (λ p. p.0.now) r ≡ subcommand_name_of m → option_map (λ p. rows_of (found_of p.1.now)) r ≡ option_map (λ p. p.1) (subcommand_rows_of m)
    → command_of ws ≡ command_by (option_map (λ p. (p.0.now, rows_of (found_of p.1.now))) r)
as_entered ws m r even ok n rows = of_taken ws even ok.0 ∙ ap command_by (sym ok.1 ∙ entered_is m r n rows)

module _ (ws : List Text) (m : ArgMatches) (r : Option (Bor Text × Bor ArgMatches)) (even : has_no_odd ws ≡ true) (ok : (fault_of cli ws ≡ []) × (subcommand_rows_of m ≡ subcommand_of cli ws))
    (n : option_map (λ p. p.0.now) r ≡ subcommand_name_of m) (rows : option_map (λ p. rows_of (found_of p.1.now)) r ≡ option_map (λ p. p.1) (subcommand_rows_of m)) where
  pub none_entered : r ≡ None → command_of ws ≡ None
  none_entered e = as_entered ws m r even ok n rows ∙ ap (λ (x : Option (Bor Text × Bor ArgMatches)). command_by (option_map (λ p. (p.0.now, rows_of (found_of p.1.now))) x)) e

  module _ (name : Bor Text) (found : Bor ArgMatches) (e : r ≡ Some (name, found)) where
    entered : command_of ws ≡ command_by (Some (name.now, rows_of (found_of found.now)))
    entered = as_entered ws m r even ok n rows ∙ ap (λ (x : Option (Bor Text × Bor ArgMatches)). command_by (option_map (λ p. (p.0.now, rows_of (found_of p.1.now))) x)) e

    pub run_entered : bytes_eq name.now (codes "run") ≡ true → command_of ws ≡ run_at (value_in (found_of found.now)) (words_in (found_of found.now))
    run_entered a = entered ∙ rw a refl

    pub sim_entered : bytes_eq name.now (codes "run") ≡ false → bytes_eq name.now (codes "sim") ≡ true → command_of ws ≡ sim_at (value_in (found_of found.now)) (words_in (found_of found.now))
    sim_entered a b = entered ∙ rw (a, b) refl

    pub load_entered : bytes_eq name.now (codes "run") ≡ false → bytes_eq name.now (codes "sim") ≡ false → bytes_eq name.now (codes "load") ≡ true → command_of ws ≡ load_asked (value_in (found_of found.now)) (words_in (found_of found.now))
    load_entered a b c = entered ∙ rw (a, b, c) refl

    pub keep_entered : bytes_eq name.now (codes "run") ≡ false → bytes_eq name.now (codes "sim") ≡ false → bytes_eq name.now (codes "load") ≡ false → bytes_eq name.now (codes "keep") ≡ true → command_of ws ≡ keep_at (value_in (found_of found.now)) (words_in (found_of found.now))
    keep_entered a b c d = entered ∙ rw (a, b, c, d) refl

    pub races_entered : bytes_eq name.now (codes "run") ≡ false → bytes_eq name.now (codes "sim") ≡ false → bytes_eq name.now (codes "load") ≡ false → bytes_eq name.now (codes "keep") ≡ false → bytes_eq name.now (codes "races") ≡ true
        → command_of ws ≡ races_at (value_in (found_of found.now)) (words_in (found_of found.now))
    races_entered a b c d e = entered ∙ rw (a, b, c, d, e) refl

    pub check_entered : bytes_eq name.now (codes "run") ≡ false → bytes_eq name.now (codes "sim") ≡ false → bytes_eq name.now (codes "load") ≡ false → bytes_eq name.now (codes "keep") ≡ false → bytes_eq name.now (codes "races") ≡ false → bytes_eq name.now (codes "check") ≡ true
        → command_of ws ≡ check_at (value_in (found_of found.now)) (words_in (found_of found.now))
    check_entered a b c d e f = entered ∙ rw (a, b, c, d, e, f) refl

    pub other_entered : bytes_eq name.now (codes "run") ≡ false → bytes_eq name.now (codes "sim") ≡ false → bytes_eq name.now (codes "load") ≡ false → bytes_eq name.now (codes "keep") ≡ false → bytes_eq name.now (codes "races") ≡ false → bytes_eq name.now (codes "check") ≡ false → command_of ws ≡ None
    other_entered a b c d e f = entered ∙ rw (a, b, c, d, e, f) refl
