-- The command that words are, by what clap's parse makes of them.
use Rattle.std.proofs.Common.{◌≡◌, ◌∙◌, ◌&&◌, ◌||◌, ℕ, ℤ, Bool, true, false, true≢false, List, [], ◌∷◌, Option, Some, None, codes, not, is_some, option_map, refl, sym, ap, subst}
use Rattle.std.specs.Prelude.{◌==◌, if◌then◌else◌, find, length, option_and_then, slice_get}
use Rattle.std.specs.Str.{bytes_eq}
use Rattle.std.specs.List.{list_all}
use Rattle.std.specs.Option.{option_map_or}
use Rattle.std.proofs.lemmas.Slice.Eq.{bytes_eq-Decides}
use Rattle.clap.proofs.WalkLemmas.{both}
use Rattle.clap.specs.Words.{Row, Text, first_of}
use Rattle.clap.specs.Words.{fault_of, subcommand_of}
use Rattle.clap.specs.Walk.{rows_after}
use Rattle.cw_io.specs.declared.schedule.Schedule.{Schedule}
use Rattle.cw_code.specs.declared.Limits.{Limits}
use Rattle.cw_code.specs.Ranges.{aborts_option, fuel_option, moves_option, size_option, strands_option, workers_option}
use Rattle.cw_words.specs.declared.command.Command.{Command}
use Rattle.cw_words.specs.declared.command.Command.TheVariants.{Check}
use Rattle.cw_words.specs.declared.command.ReportVersion.{ReportVersion}
use Rattle.std.proofs.Common.{drop}
use Rattle.std.specs.List.{after_first, before_first}
use Rattle.cw_words.specs.Options.{given_on, has_hyphen, integer_of, is_equals, is_option, only_words, with_option, with_word}
use Rattle.cw_words.proofs.Fits.{or_right}
use Rattle.cw_words.specs.Options.{Given, GivenOption, are_known, given, integers_of, number_in, option_value}
use Rattle.cw_words.specs.Words as words
use Rattle.cw_words.specs.Words.{check_given, check_options, command_of, keep_given, keep_options, load_given, load_options, races_given, races_options, run_given, run_options, sim_given, sim_options}
use Rattle.cw_words.specs.Asked.{Values, check_at, is_dash, keep_at, keep_from, limits_from, load_asked, load_from, races_at, races_from, run_at, run_from, sim_at, sim_from, transfers_at, vals}
use Rattle.cw_words.specs.Shapes.{fine, fits, has_no_odd, is_known, judged, leaf_rules}
use Rattle.cw_words.proofs.Fits.{fits_known, fits_one, one_fits}
use Rattle.std.proofs.Common.{inl, inr, ◌⊎◌}
use Rattle.std.specs.List.{list_any}
use Rattle.cw_words.specs.Shapes.{cli, is_odd}
use Rattle.cw_words.proofs.Leaf.{Enters, check_command_fault, check_rows, keep_fault, keep_rows, other_first, leaf_judged, leaf_seen, load_fault, load_rows, races_fault, races_rows, run_fault, run_rows, sim_fault, sim_rows}
use Rattle.cw_words.proofs.Rows.{Sees}

-- the values of the options by what was given
abbrev IsValued : List GivenOption → Values → Type 0
IsValued os val = (j : Text) → bytes_eq (codes "words") j ≡ false → option_value j os ≡ Some (val j)

limits_same : (os : List GivenOption) (val : Values) → IsValued os val
    → words.limits_given os ≡ limits_from (number_in fuel_option (val (codes "fuel"))) (number_in size_option (val (codes "size"))) (number_in aborts_option (val (codes "aborts"))) (number_in strands_option (val (codes "strands"))) (number_in moves_option (val (codes "moves")))
limits_same os val e =
    λ i. limits_from (option_and_then (number_in fuel_option) (e (codes "fuel") refl i)) (option_and_then (number_in size_option) (e (codes "size") refl i)) (option_and_then (number_in aborts_option) (e (codes "aborts") refl i)) (option_and_then (number_in strands_option) (e (codes "strands") refl i)) (option_and_then (number_in moves_option) (e (codes "moves") refl i))

pub run_same : (g : Given) (val : Values) → are_known run_options g.options ≡ true → IsValued g.options val → run_given g ≡ run_at val g.words
run_same g val k e =
    λ i. if k i then run_from (limits_same g.options val e i) (option_and_then words.report_in (e (codes "report") refl i)) (option_and_then (number_in workers_option) (e (codes "workers") refl i)) (integers_of g.words) else None

pub sim_same : (g : Given) (val : Values) → are_known sim_options g.options ≡ true → IsValued g.options val → sim_given g ≡ sim_at val g.words
sim_same g val k e =
    λ i. if k i then sim_from (limits_same g.options val e i) (option_and_then words.report_in (e (codes "report") refl i)) (option_and_then (number_in workers_option) (e (codes "workers") refl i))
    (λ w. option_and_then (λ list. option_and_then (λ seed. words.schedule_in w list seed) (e (codes "seed") refl i)) (e (codes "schedule") refl i)) (integers_of g.words) else None

pub load_same : (g : Given) (val : Values) → are_known load_options g.options ≡ true → IsValued g.options val → load_given g ≡ load_asked val g.words
load_same g val k e = λ i. if k i then load_from (option_and_then (number_in workers_option) (e (codes "workers") refl i)) (transfers_at g.words) else None

pub keep_same : (g : Given) (val : Values) → are_known keep_options g.options ≡ true → IsValued g.options val → keep_given g ≡ keep_at val g.words
keep_same g val k e =
    λ i. if k i then keep_from (limits_same g.options val e i) (option_and_then (number_in workers_option) (e (codes "workers") refl i)) (integers_of g.words) else None

pub races_same : (g : Given) (val : Values) → are_known races_options g.options ≡ true → IsValued g.options val → races_given g ≡ races_at val g.words
races_same g val k e = λ i. if k i then races_from (limits_same g.options val e i) (integers_of g.words) else None

pub check_same : (g : Given) (val : Values) → are_known check_options g.options ≡ true → IsValued g.options val → check_given g ≡ check_at val g.words
check_same g val k e = ap (λ t. if t && length g.words == 0 then Some Check else None) k

first_vals : (j : Text) (rows : List Row) → slice_get (vals j rows) 0 ≡ first_of j rows
first_vals j rows = go (find (λ r. bytes_eq r.id j) rows)
  where
    go : (o : Option Row) → slice_get (option_map_or (λ r. r.values) o []) 0 ≡ option_and_then (λ r. slice_get r.values 0) o
    go None = refl
    go (Some r) = refl

-- ## One command

module _ (names : List Text) (other : is_known names (codes "words") ≡ false) (make : Given → Option Command) (by : Values → List Text → Option Command)
    (same : (g : Given) (val : Values) → are_known names g.options ≡ true → IsValued g.options val → make g ≡ by val g.words)
    (unknown : (g : Given) → are_known names g.options ≡ false → make g ≡ None)
    (missing : (g : Given) → list_all (λ n. is_some (option_value n g.options)) names ≡ false → make g ≡ None) where
  pub taken : (ws : List Text) → judged names (given ws) [] ≡ true
      → option_and_then make (given ws) ≡ by (λ j. first_of j (rows_after (leaf_rules names) [] ws)) (vals (codes "words") (rows_after (leaf_rules names) [] ws))
  taken ws e = go (given ws) e (leaf_seen names other ws)
    where
      rows : List Row
      rows = rows_after (leaf_rules names) [] ws

      go : (o : Option Given) → judged names o [] ≡ true → Sees names other (rows_after (leaf_rules names) [] ws) [] o
          → option_and_then make o ≡ by (λ j. first_of j (rows_after (leaf_rules names) [] ws)) (vals (codes "words") (rows_after (leaf_rules names) [] ws))
      go None e h = absurd (true≢false (sym e))
      go (Some g) e h =
          let s = h e in
          same g (λ j. first_of j (rows_after (leaf_rules names) [] ws)) (fits_known names g.options [] e)
          (λ j d. fits_one names j g.options [] e ∙ ap (λ vs. Some (slice_get vs 0)) (sym (s.options j d)) ∙ ap Some (first_vals j (rows_after (leaf_rules names) [] ws)))
          ∙ ap (by (λ j. first_of j (rows_after (leaf_rules names) [] ws))) (sym s.words)

  all_there : (p : Text → Bool) (ks : List Text) (j : Text) → list_all p ks ≡ true → is_known ks j ≡ true → p j ≡ true
  all_there p [] j e k = absurd (true≢false (sym k))
  all_there p (x ∷ xs) j e k = go (bytes_eq x j) refl (both (p x) (list_all p xs) e).0 (λ l. all_there p xs j (both (p x) (list_all p xs) e).1 l)
    where
      go : (t : Bool) → bytes_eq x j ≡ t → p x ≡ true → (is_known xs j ≡ true → p j ≡ true) → p j ≡ true
      go true i first later = subst (λ y. p y ≡ true) ((bytes_eq-Decides x j).0 i) first
      go false i first later = later (sym (ap (λ t. t || is_known xs j) i) ∙ k)

  pub refused : (ws : List Text) → judged names (given ws) [] ≡ false → option_and_then make (given ws) ≡ None
  refused ws e = go (given ws) e
    where
      third : (g : Given) → fits names g.options [] ≡ false → are_known names g.options ≡ true → (t : Bool) → list_all (λ n. is_some (option_value n g.options)) names ≡ t → make g ≡ None
      third g e k true all = absurd (true≢false (sym (one_fits names g.options [] k (λ j l. all_there (λ n. is_some (option_value n g.options)) names j all l) (λ j h. absurd (true≢false (sym h)))) ∙ e))
      third g e k false all = missing g all

      second : (g : Given) → fits names g.options [] ≡ false → (t : Bool) → are_known names g.options ≡ t → make g ≡ None
      second g e true k = third g e k (list_all (λ n. is_some (option_value n g.options)) names) refl
      second g e false k = unknown g k

      go : (o : Option Given) → judged names o [] ≡ false → option_and_then make o ≡ None
      go None e = refl
      go (Some g) e = second g e (are_known names g.options) refl

-- ## Commands of which an option is given twice

abbrev Twice : Type 0
Twice = Option (Option Text)

limits_none : (a b c d m : Twice) → (is_some a && (is_some b && (is_some c && is_some d))) ≡ false
    → limits_from (option_and_then (number_in fuel_option) a) (option_and_then (number_in size_option) b) (option_and_then (number_in aborts_option) c) (option_and_then (number_in strands_option) d) (option_and_then (number_in moves_option) m) ≡ None
limits_none None b c d m h = refl
limits_none (Some a) None c d m h = second (number_in fuel_option a)
  where
    second : (x : Option ℕ) → limits_from x None (option_and_then (number_in aborts_option) c) (option_and_then (number_in strands_option) d) (option_and_then (number_in moves_option) m) ≡ None
    second None = refl
    second (Some n) = refl
limits_none (Some a) (Some b) None d m h = third (number_in fuel_option a) (number_in size_option b)
  where
    third : (x y : Option ℕ) → limits_from x y None (option_and_then (number_in strands_option) d) (option_and_then (number_in moves_option) m) ≡ None
    third None y = refl
    third (Some n) None = refl
    third (Some n) (Some k) = refl
limits_none (Some a) (Some b) (Some c) None m h = fourth (number_in fuel_option a) (number_in size_option b) (number_in aborts_option c)
  where
    fourth : (x y z : Option ℕ) → limits_from x y z None (option_and_then (number_in moves_option) m) ≡ None
    fourth None y z = refl
    fourth (Some n) None z = refl
    fourth (Some n) (Some k) None = refl
    fourth (Some n) (Some k) (Some l) = refl
limits_none (Some a) (Some b) (Some c) (Some d) m h = absurd (true≢false h)

run_report : (l : Option Limits) (w : Option ℕ) (n : Option (List ℤ)) → run_from l None w n ≡ None
run_report None w n = refl
run_report (Some l) w n = refl

run_workers : (l : Option Limits) (r : Option (Option ReportVersion)) (n : Option (List ℤ)) → run_from l r None n ≡ None
run_workers None r n = refl
run_workers (Some l) None n = refl
run_workers (Some l) (Some r) n = refl

pub load_missing : (g : Given) → list_all (λ n. is_some (option_value n g.options)) load_options ≡ false → load_given g ≡ None
load_missing g h = go (are_known load_options g.options) (option_value (codes "workers") g.options) h
  where
    go : (k : Bool) (w : Twice) → (is_some w && true) ≡ false → (if k then load_from (option_and_then (number_in workers_option) w) (transfers_at g.words) else None) ≡ None
    go false w h = refl
    go true None h = refl
    go true (Some w) h = absurd (true≢false h)

pub load_unknown : (g : Given) → are_known load_options g.options ≡ false → load_given g ≡ None
load_unknown g k = ap (λ t. if t then load_from (option_and_then (number_in workers_option) (option_value (codes "workers") g.options)) (transfers_at g.words) else None) k

abbrev run_parts : Bool → (f s a st m w r : Twice) → List Text → Option Command
run_parts k f s a st m w r ws =
    if k then run_from (limits_from (option_and_then (number_in fuel_option) f) (option_and_then (number_in size_option) s) (option_and_then (number_in aborts_option) a) (option_and_then (number_in strands_option) st) (option_and_then (number_in moves_option) m))
    (option_and_then words.report_in r) (option_and_then (number_in workers_option) w) (integers_of ws) else None

pub run_unknown : (g : Given) → are_known run_options g.options ≡ false → run_given g ≡ None
run_unknown g k =
    let v = λ (n : Text). option_value n g.options in
    ap (λ t. run_parts t (v (codes "fuel")) (v (codes "size")) (v (codes "aborts")) (v (codes "strands")) (v (codes "moves")) (v (codes "workers")) (v (codes "report")) g.words) k

pub run_missing : (g : Given) → list_all (λ n. is_some (option_value n g.options)) run_options ≡ false → run_given g ≡ None
run_missing g h =
    let v = λ (n : Text). option_value n g.options in
    go (are_known run_options g.options) (v (codes "fuel")) (v (codes "size")) (v (codes "aborts")) (v (codes "strands")) (v (codes "moves")) (v (codes "workers")) (v (codes "report")) h
  where
    go : (k : Bool) (f s a st m w r : Twice) → (is_some f && (is_some s && (is_some a && (is_some st && (is_some w && (is_some r && true)))))) ≡ false → run_parts k f s a st m w r g.words ≡ None
    go false f s a st m w r h = refl
    go true None s a st m w r h = refl
    go true (Some f) None a st m w r h = ap (λ l. run_from l (option_and_then words.report_in r) (option_and_then (number_in workers_option) w) (integers_of g.words)) (limits_none (Some f) None a st m refl)
    go true (Some f) (Some s) None st m w r h = ap (λ l. run_from l (option_and_then words.report_in r) (option_and_then (number_in workers_option) w) (integers_of g.words)) (limits_none (Some f) (Some s) None st m refl)
    go true (Some f) (Some s) (Some a) None m w r h = ap (λ l. run_from l (option_and_then words.report_in r) (option_and_then (number_in workers_option) w) (integers_of g.words)) (limits_none (Some f) (Some s) (Some a) None m refl)
    go true (Some f) (Some s) (Some a) (Some st) m None r h = run_workers (limits_from (option_and_then (number_in fuel_option) (Some f)) (option_and_then (number_in size_option) (Some s)) (option_and_then (number_in aborts_option) (Some a)) (option_and_then (number_in strands_option) (Some st)) (option_and_then (number_in moves_option) m)) (option_and_then words.report_in r) (integers_of g.words)
    go true (Some f) (Some s) (Some a) (Some st) m (Some w) None h = run_report (limits_from (option_and_then (number_in fuel_option) (Some f)) (option_and_then (number_in size_option) (Some s)) (option_and_then (number_in aborts_option) (Some a)) (option_and_then (number_in strands_option) (Some st)) (option_and_then (number_in moves_option) m)) (option_and_then (number_in workers_option) (Some w)) (integers_of g.words)
    go true (Some f) (Some s) (Some a) (Some st) m (Some w) (Some r) h = absurd (true≢false h)

keep_workers : (l : Option Limits) (n : Option (List ℤ)) → keep_from l None n ≡ None
keep_workers None n = refl
keep_workers (Some l) n = refl

abbrev keep_parts : Bool → (f s a st m w : Twice) → List Text → Option Command
keep_parts k f s a st m w ws =
    if k then keep_from (limits_from (option_and_then (number_in fuel_option) f) (option_and_then (number_in size_option) s) (option_and_then (number_in aborts_option) a) (option_and_then (number_in strands_option) st) (option_and_then (number_in moves_option) m))
    (option_and_then (number_in workers_option) w) (integers_of ws) else None

pub keep_unknown : (g : Given) → are_known keep_options g.options ≡ false → keep_given g ≡ None
keep_unknown g k =
    let v = λ (n : Text). option_value n g.options in
    ap (λ t. keep_parts t (v (codes "fuel")) (v (codes "size")) (v (codes "aborts")) (v (codes "strands")) (v (codes "moves")) (v (codes "workers")) g.words) k

pub keep_missing : (g : Given) → list_all (λ n. is_some (option_value n g.options)) keep_options ≡ false → keep_given g ≡ None
keep_missing g h =
    let v = λ (n : Text). option_value n g.options in
    go (are_known keep_options g.options) (v (codes "fuel")) (v (codes "size")) (v (codes "aborts")) (v (codes "strands")) (v (codes "moves")) (v (codes "workers")) h
  where
    limited : (f s a st m w : Twice) → limits_from (option_and_then (number_in fuel_option) f) (option_and_then (number_in size_option) s) (option_and_then (number_in aborts_option) a) (option_and_then (number_in strands_option) st) (option_and_then (number_in moves_option) m) ≡ None → keep_parts true f s a st m w g.words ≡ None
    limited f s a st m w e = ap (λ l. keep_from l (option_and_then (number_in workers_option) w) (integers_of g.words)) e

    go : (k : Bool) (f s a st m w : Twice) → (is_some f && (is_some s && (is_some a && (is_some st && (is_some w && true))))) ≡ false → keep_parts k f s a st m w g.words ≡ None
    go false f s a st m w h = refl
    go true None s a st m w h = refl
    go true (Some f) None a st m w h = limited (Some f) None a st m w (limits_none (Some f) None a st m refl)
    go true (Some f) (Some s) None st m w h = limited (Some f) (Some s) None st m w (limits_none (Some f) (Some s) None st m refl)
    go true (Some f) (Some s) (Some a) None m w h = limited (Some f) (Some s) (Some a) None m w (limits_none (Some f) (Some s) (Some a) None m refl)
    go true (Some f) (Some s) (Some a) (Some st) m None h = keep_workers (limits_from (option_and_then (number_in fuel_option) (Some f)) (option_and_then (number_in size_option) (Some s)) (option_and_then (number_in aborts_option) (Some a)) (option_and_then (number_in strands_option) (Some st)) (option_and_then (number_in moves_option) m)) (integers_of g.words)
    go true (Some f) (Some s) (Some a) (Some st) m (Some w) h = absurd (true≢false h)

abbrev races_parts : Bool → (f s a st m : Twice) → List Text → Option Command
races_parts k f s a st m ws = if k then races_from (limits_from (option_and_then (number_in fuel_option) f) (option_and_then (number_in size_option) s) (option_and_then (number_in aborts_option) a) (option_and_then (number_in strands_option) st) (option_and_then (number_in moves_option) m)) (integers_of ws) else None

pub races_unknown : (g : Given) → are_known races_options g.options ≡ false → races_given g ≡ None
races_unknown g k =
    let v = λ (n : Text). option_value n g.options in
    ap (λ t. races_parts t (v (codes "fuel")) (v (codes "size")) (v (codes "aborts")) (v (codes "strands")) (v (codes "moves")) g.words) k

no_limits : (a b c d m : Twice) → (is_some a && is_some b) ≡ false
    → limits_from (option_and_then (number_in fuel_option) a) (option_and_then (number_in size_option) b) (option_and_then (number_in aborts_option) c) (option_and_then (number_in strands_option) d) (option_and_then (number_in moves_option) m) ≡ None
no_limits None b c d m h = refl
no_limits (Some a) None c d m h = limits_none (Some a) None c d m refl
no_limits (Some a) (Some b) c d m h = absurd (true≢false h)

pub races_missing : (g : Given) → list_all (λ n. is_some (option_value n g.options)) races_options ≡ false → races_given g ≡ None
races_missing g h =
    let v = λ (n : Text). option_value n g.options in
    go (are_known races_options g.options) (v (codes "fuel")) (v (codes "size")) (v (codes "aborts")) (v (codes "strands")) (v (codes "moves")) h
  where
    go : (k : Bool) (f s a st m : Twice) → (is_some f && (is_some s && true)) ≡ false → races_parts k f s a st m g.words ≡ None
    go false f s a st m h = refl
    go true None s a st m h = ap (λ l. races_from l (integers_of g.words)) (no_limits None s a st m refl)
    go true (Some f) None a st m h = ap (λ l. races_from l (integers_of g.words)) (no_limits (Some f) None a st m refl)
    go true (Some f) (Some s) a st m h = absurd (true≢false h)

pub check_unknown : (g : Given) → are_known check_options g.options ≡ false → check_given g ≡ None
check_unknown g k = ap (λ t. if t && length g.words == 0 then Some Check else None) k

pub check_missing : (g : Given) → list_all (λ n. is_some (option_value n g.options)) check_options ≡ false → check_given g ≡ None
check_missing g h = absurd (true≢false h)

limits_moves : (a b c d : Option ℕ) → limits_from a b c d None ≡ None
limits_moves None b c d = refl
limits_moves (Some a) None c d = refl
limits_moves (Some a) (Some b) None d = refl
limits_moves (Some a) (Some b) (Some c) None = refl
limits_moves (Some a) (Some b) (Some c) (Some d) = refl

sim_report : (l : Option Limits) (w : Option ℕ) (s : ℕ → Option Schedule) (n : Option (List ℤ)) → sim_from l None w s n ≡ None
sim_report None w s n = refl
sim_report (Some l) w s n = refl

sim_workers : (l : Option Limits) (r : Option (Option ReportVersion)) (s : ℕ → Option Schedule) (n : Option (List ℤ)) → sim_from l r None s n ≡ None
sim_workers None r s n = refl
sim_workers (Some l) None s n = refl
sim_workers (Some l) (Some r) s n = refl

sim_schedule : (l : Option Limits) (r : Option (Option ReportVersion)) (w : Option ℕ) (n : Option (List ℤ)) → sim_from l r w (λ k. None) n ≡ None
sim_schedule None r w n = refl
sim_schedule (Some l) None w n = refl
sim_schedule (Some l) (Some r) None n = refl
sim_schedule (Some l) (Some r) (Some w) n = refl

abbrev sim_limits : (f s a st m : Twice) → Option Limits
sim_limits f s a st m = limits_from (option_and_then (number_in fuel_option) f) (option_and_then (number_in size_option) s) (option_and_then (number_in aborts_option) a) (option_and_then (number_in strands_option) st) (option_and_then (number_in moves_option) m)

abbrev sim_turns : (list seed : Twice) → ℕ → Option Schedule
sim_turns list seed w = option_and_then (λ l. option_and_then (λ s. words.schedule_in w l s) seed) list

abbrev sim_parts : Bool → Option Limits → (w list seed r : Twice) → List Text → Option Command
sim_parts k l w list seed r ws =
    if k then sim_from l (option_and_then words.report_in r) (option_and_then (number_in workers_option) w) (sim_turns list seed) (integers_of ws) else None

pub sim_unknown : (g : Given) → are_known sim_options g.options ≡ false → sim_given g ≡ None
sim_unknown g k =
    let v = λ (n : Text). option_value n g.options in
    ap (λ t. sim_parts t (sim_limits (v (codes "fuel")) (v (codes "size")) (v (codes "aborts")) (v (codes "strands")) (v (codes "moves"))) (v (codes "workers")) (v (codes "schedule")) (v (codes "seed")) (v (codes "report")) g.words) k

no_seed : (o : Option Text) (w : ℕ) → sim_turns (Some o) None w ≡ None
no_seed o w = refl

pub sim_missing : (g : Given) → list_all (λ n. is_some (option_value n g.options)) sim_options ≡ false → sim_given g ≡ None
sim_missing g h =
    let v = λ (n : Text). option_value n g.options in
    go (are_known sim_options g.options) (v (codes "fuel")) (v (codes "size")) (v (codes "aborts")) (v (codes "strands")) (v (codes "moves")) (v (codes "workers")) (v (codes "schedule")) (v (codes "seed")) (v (codes "report")) h
  where
    limited : (k : Bool) (l : Option Limits) (w list seed r : Twice) → l ≡ None → sim_parts k l w list seed r g.words ≡ None
    limited false l w list seed r e = refl
    limited true l w list seed r e = ap (λ x. sim_from x (option_and_then words.report_in r) (option_and_then (number_in workers_option) w) (sim_turns list seed) (integers_of g.words)) e

    go : (k : Bool) (f s a st m w list seed r : Twice)
        → (is_some f && (is_some s && (is_some a && (is_some st && (is_some m && (is_some w && (is_some list && (is_some seed && (is_some r && true))))))))) ≡ false → sim_parts k (sim_limits f s a st m) w list seed r g.words ≡ None
    go k None s a st m w list seed r h = limited k (sim_limits None s a st m) w list seed r (limits_none None s a st m refl)
    go k (Some f) None a st m w list seed r h = limited k (sim_limits (Some f) None a st m) w list seed r (limits_none (Some f) None a st m refl)
    go k (Some f) (Some s) None st m w list seed r h = limited k (sim_limits (Some f) (Some s) None st m) w list seed r (limits_none (Some f) (Some s) None st m refl)
    go k (Some f) (Some s) (Some a) None m w list seed r h = limited k (sim_limits (Some f) (Some s) (Some a) None m) w list seed r (limits_none (Some f) (Some s) (Some a) None m refl)
    go k (Some f) (Some s) (Some a) (Some st) None w list seed r h =
        limited k (sim_limits (Some f) (Some s) (Some a) (Some st) None) w list seed r (limits_moves (number_in fuel_option f) (number_in size_option s) (number_in aborts_option a) (number_in strands_option st))
    go false (Some f) (Some s) (Some a) (Some st) (Some m) w list seed r h = refl
    go true (Some f) (Some s) (Some a) (Some st) (Some m) None list seed r h = sim_workers (sim_limits (Some f) (Some s) (Some a) (Some st) (Some m)) (option_and_then words.report_in r) (sim_turns list seed) (integers_of g.words)
    go true (Some f) (Some s) (Some a) (Some st) (Some m) (Some w) None seed r h = sim_schedule (sim_limits (Some f) (Some s) (Some a) (Some st) (Some m)) (option_and_then words.report_in r) (number_in workers_option w) (integers_of g.words)
    go true (Some f) (Some s) (Some a) (Some st) (Some m) (Some w) (Some list) None r h = sim_schedule (sim_limits (Some f) (Some s) (Some a) (Some st) (Some m)) (option_and_then words.report_in r) (number_in workers_option w) (integers_of g.words)
    go true (Some f) (Some s) (Some a) (Some st) (Some m) (Some w) (Some list) (Some seed) None h = sim_report (sim_limits (Some f) (Some s) (Some a) (Some st) (Some m)) (number_in workers_option w) (sim_turns (Some list) (Some seed)) (integers_of g.words)
    go true (Some f) (Some s) (Some a) (Some st) (Some m) (Some w) (Some list) (Some seed) (Some r) h = absurd (true≢false h)

-- ## The whole command line

pub run_taken : (ws : List Text) → has_no_odd ws ≡ true → fault_of cli (codes "run" ∷ ws) ≡ []
    → command_of (codes "run" ∷ ws) ≡ run_at (λ j. first_of j (rows_after (leaf_rules run_options) [] ws)) (vals (codes "words") (rows_after (leaf_rules run_options) [] ws))
run_taken ws even e =
    taken run_options refl run_given run_at run_same run_unknown run_missing ws
    (sym (leaf_judged (codes "run") run_options refl ws even) ∙ ap fine (sym (run_fault ws) ∙ e))

pub run_refused : (ws : List Text) → has_no_odd ws ≡ true → fine (fault_of cli (codes "run" ∷ ws)) ≡ false → command_of (codes "run" ∷ ws) ≡ None
run_refused ws even e =
    refused run_options refl run_given run_at run_same run_unknown run_missing ws
    (sym (leaf_judged (codes "run") run_options refl ws even) ∙ sym (ap fine (run_fault ws)) ∙ e)

pub load_taken : (ws : List Text) → has_no_odd ws ≡ true → fault_of cli (codes "load" ∷ ws) ≡ []
    → command_of (codes "load" ∷ ws) ≡ load_asked (λ j. first_of j (rows_after (leaf_rules load_options) [] ws)) (vals (codes "words") (rows_after (leaf_rules load_options) [] ws))
load_taken ws even e =
    taken load_options refl load_given load_asked load_same load_unknown load_missing ws
    (sym (leaf_judged (codes "load") load_options refl ws even) ∙ ap fine (sym (load_fault ws) ∙ e))

pub load_refused : (ws : List Text) → has_no_odd ws ≡ true → fine (fault_of cli (codes "load" ∷ ws)) ≡ false → command_of (codes "load" ∷ ws) ≡ None
load_refused ws even e =
    refused load_options refl load_given load_asked load_same load_unknown load_missing ws
    (sym (leaf_judged (codes "load") load_options refl ws even) ∙ sym (ap fine (load_fault ws)) ∙ e)

pub sim_taken : (ws : List Text) → has_no_odd ws ≡ true → fault_of cli (codes "sim" ∷ ws) ≡ []
    → command_of (codes "sim" ∷ ws) ≡ sim_at (λ j. first_of j (rows_after (leaf_rules sim_options) [] ws)) (vals (codes "words") (rows_after (leaf_rules sim_options) [] ws))
sim_taken ws even e =
    taken sim_options refl sim_given sim_at sim_same sim_unknown sim_missing ws
    (sym (leaf_judged (codes "sim") sim_options refl ws even) ∙ ap fine (sym (sim_fault ws) ∙ e))

pub sim_refused : (ws : List Text) → has_no_odd ws ≡ true → fine (fault_of cli (codes "sim" ∷ ws)) ≡ false → command_of (codes "sim" ∷ ws) ≡ None
sim_refused ws even e =
    refused sim_options refl sim_given sim_at sim_same sim_unknown sim_missing ws
    (sym (leaf_judged (codes "sim") sim_options refl ws even) ∙ sym (ap fine (sim_fault ws)) ∙ e)

pub keep_taken : (ws : List Text) → has_no_odd ws ≡ true → fault_of cli (codes "keep" ∷ ws) ≡ []
    → command_of (codes "keep" ∷ ws) ≡ keep_at (λ j. first_of j (rows_after (leaf_rules keep_options) [] ws)) (vals (codes "words") (rows_after (leaf_rules keep_options) [] ws))
keep_taken ws even e =
    taken keep_options refl keep_given keep_at keep_same keep_unknown keep_missing ws
    (sym (leaf_judged (codes "keep") keep_options refl ws even) ∙ ap fine (sym (keep_fault ws) ∙ e))

pub keep_refused : (ws : List Text) → has_no_odd ws ≡ true → fine (fault_of cli (codes "keep" ∷ ws)) ≡ false → command_of (codes "keep" ∷ ws) ≡ None
keep_refused ws even e =
    refused keep_options refl keep_given keep_at keep_same keep_unknown keep_missing ws
    (sym (leaf_judged (codes "keep") keep_options refl ws even) ∙ sym (ap fine (keep_fault ws)) ∙ e)

pub races_taken : (ws : List Text) → has_no_odd ws ≡ true → fault_of cli (codes "races" ∷ ws) ≡ []
    → command_of (codes "races" ∷ ws) ≡ races_at (λ j. first_of j (rows_after (leaf_rules races_options) [] ws)) (vals (codes "words") (rows_after (leaf_rules races_options) [] ws))
races_taken ws even e =
    taken races_options refl races_given races_at races_same races_unknown races_missing ws
    (sym (leaf_judged (codes "races") races_options refl ws even) ∙ ap fine (sym (races_fault ws) ∙ e))

pub races_refused : (ws : List Text) → has_no_odd ws ≡ true → fine (fault_of cli (codes "races" ∷ ws)) ≡ false → command_of (codes "races" ∷ ws) ≡ None
races_refused ws even e =
    refused races_options refl races_given races_at races_same races_unknown races_missing ws
    (sym (leaf_judged (codes "races") races_options refl ws even) ∙ sym (ap fine (races_fault ws)) ∙ e)

pub check_taken : (ws : List Text) → has_no_odd ws ≡ true → fault_of cli (codes "check" ∷ ws) ≡ []
    → command_of (codes "check" ∷ ws) ≡ check_at (λ j. first_of j (rows_after (leaf_rules check_options) [] ws)) (vals (codes "words") (rows_after (leaf_rules check_options) [] ws))
check_taken ws even e =
    taken check_options refl check_given check_at check_same check_unknown check_missing ws
    (sym (leaf_judged (codes "check") check_options refl ws even) ∙ ap fine (sym (check_command_fault ws) ∙ e))

pub check_refused : (ws : List Text) → has_no_odd ws ≡ true → fine (fault_of cli (codes "check" ∷ ws)) ≡ false → command_of (codes "check" ∷ ws) ≡ None
check_refused ws even e =
    refused check_options refl check_given check_at check_same check_unknown check_missing ws
    (sym (leaf_judged (codes "check") check_options refl ws even) ∙ sym (ap fine (check_command_fault ws)) ∙ e)

-- the command by the subcommand that a parse enters, and its rows
abbrev pub command_by : Option (Text × List Row) → Option Command
command_by None = None
command_by (Some p) =
    if bytes_eq p.0 (codes "run") then run_at (λ j. first_of j p.1) (vals (codes "words") p.1)
    else if bytes_eq p.0 (codes "sim") then sim_at (λ j. first_of j p.1) (vals (codes "words") p.1)
    else if bytes_eq p.0 (codes "load") then load_asked (λ j. first_of j p.1) (vals (codes "words") p.1)
    else if bytes_eq p.0 (codes "keep") then keep_at (λ j. first_of j p.1) (vals (codes "words") p.1)
    else if bytes_eq p.0 (codes "races") then races_at (λ j. first_of j p.1) (vals (codes "words") p.1)
    else if bytes_eq p.0 (codes "check") then check_at (λ j. first_of j p.1) (vals (codes "words") p.1)
    else None

abbrev is_name : Text → Bool
is_name w = bytes_eq w (codes "run") || (bytes_eq w (codes "sim") || (bytes_eq w (codes "load") || (bytes_eq w (codes "keep") || (bytes_eq w (codes "races") || bytes_eq w (codes "check")))))

no_name : (w : Text) (ws : List Text) → is_name w ≡ false → command_of (w ∷ ws) ≡ None
no_name w ws = go (bytes_eq w (codes "run")) (bytes_eq w (codes "sim")) (bytes_eq w (codes "load")) (bytes_eq w (codes "keep")) (bytes_eq w (codes "races")) (bytes_eq w (codes "check"))
  where
    go : (a b c d x y : Bool) → (a || (b || (c || (d || (x || y))))) ≡ false
        → (if a then option_and_then run_given (given ws) else if b then option_and_then sim_given (given ws) else if c then option_and_then load_given (given ws) else if d then option_and_then keep_given (given ws) else if x then option_and_then races_given (given ws) else if y then option_and_then check_given (given ws) else None) ≡ None
    go true b c d x y e = absurd (true≢false e)
    go false true c d x y e = absurd (true≢false e)
    go false false true d x y e = absurd (true≢false e)
    go false false false true x y e = absurd (true≢false e)
    go false false false false true y e = absurd (true≢false e)
    go false false false false false true e = absurd (true≢false e)
    go false false false false false false e = refl

module _ (ws : List Text) (even : has_no_odd ws ≡ true) where
  pub whole_refused : (w : Text) → fine (fault_of cli (w ∷ ws)) ≡ false → command_of (w ∷ ws) ≡ None
  whole_refused w e = go (bytes_eq w (codes "run")) (bytes_eq w (codes "sim")) (bytes_eq w (codes "load")) (bytes_eq w (codes "keep")) (bytes_eq w (codes "races")) (bytes_eq w (codes "check")) refl refl refl refl refl refl
    where
      go : (a b c d x y : Bool) → bytes_eq w (codes "run") ≡ a → bytes_eq w (codes "sim") ≡ b → bytes_eq w (codes "load") ≡ c → bytes_eq w (codes "keep") ≡ d → bytes_eq w (codes "races") ≡ x → bytes_eq w (codes "check") ≡ y → command_of (w ∷ ws) ≡ None
      go true b c d x y i j k l m n = subst (λ x. fine (fault_of cli (x ∷ ws)) ≡ false → command_of (x ∷ ws) ≡ None) (sym ((bytes_eq-Decides w (codes "run")).0 i)) (run_refused ws even) e
      go false true c d x y i j k l m n = subst (λ x. fine (fault_of cli (x ∷ ws)) ≡ false → command_of (x ∷ ws) ≡ None) (sym ((bytes_eq-Decides w (codes "sim")).0 j)) (sim_refused ws even) e
      go false false true d x y i j k l m n = subst (λ x. fine (fault_of cli (x ∷ ws)) ≡ false → command_of (x ∷ ws) ≡ None) (sym ((bytes_eq-Decides w (codes "load")).0 k)) (load_refused ws even) e
      go false false false true x y i j k l m n = subst (λ x. fine (fault_of cli (x ∷ ws)) ≡ false → command_of (x ∷ ws) ≡ None) (sym ((bytes_eq-Decides w (codes "keep")).0 l)) (keep_refused ws even) e
      go false false false false true y i j k l m n = subst (λ y. fine (fault_of cli (y ∷ ws)) ≡ false → command_of (y ∷ ws) ≡ None) (sym ((bytes_eq-Decides w (codes "races")).0 m)) (races_refused ws even) e
      go false false false false false true i j k l m n = subst (λ y. fine (fault_of cli (y ∷ ws)) ≡ false → command_of (y ∷ ws) ≡ None) (sym ((bytes_eq-Decides w (codes "check")).0 n)) (check_refused ws even) e
      go false false false false false false i j k l m n = no_name w ws (λ z. i z || (j z || (k z || (l z || (m z || n z)))))

  pub named_taken : (w : Text) → is_name w ≡ true → fault_of cli (w ∷ ws) ≡ [] → command_of (w ∷ ws) ≡ command_by (subcommand_of cli (w ∷ ws))
  named_taken w is e = go (bytes_eq w (codes "run")) (bytes_eq w (codes "sim")) (bytes_eq w (codes "load")) (bytes_eq w (codes "keep")) (bytes_eq w (codes "races")) (bytes_eq w (codes "check")) refl refl refl refl refl refl
    where
      go : (a b c d x y : Bool) → bytes_eq w (codes "run") ≡ a → bytes_eq w (codes "sim") ≡ b → bytes_eq w (codes "load") ≡ c → bytes_eq w (codes "keep") ≡ d → bytes_eq w (codes "races") ≡ x → bytes_eq w (codes "check") ≡ y → command_of (w ∷ ws) ≡ command_by (subcommand_of cli (w ∷ ws))
      go true b c d x y i j k l m n = subst (λ x. fault_of cli (x ∷ ws) ≡ [] → command_of (x ∷ ws) ≡ command_by (subcommand_of cli (x ∷ ws))) (sym ((bytes_eq-Decides w (codes "run")).0 i)) (λ f. run_taken ws even f ∙ sym (ap command_by (run_rows ws))) e
      go false true c d x y i j k l m n = subst (λ x. fault_of cli (x ∷ ws) ≡ [] → command_of (x ∷ ws) ≡ command_by (subcommand_of cli (x ∷ ws))) (sym ((bytes_eq-Decides w (codes "sim")).0 j)) (λ f. sim_taken ws even f ∙ sym (ap command_by (sim_rows ws))) e
      go false false true d x y i j k l m n = subst (λ x. fault_of cli (x ∷ ws) ≡ [] → command_of (x ∷ ws) ≡ command_by (subcommand_of cli (x ∷ ws))) (sym ((bytes_eq-Decides w (codes "load")).0 k)) (λ f. load_taken ws even f ∙ sym (ap command_by (load_rows ws))) e
      go false false false true x y i j k l m n = subst (λ x. fault_of cli (x ∷ ws) ≡ [] → command_of (x ∷ ws) ≡ command_by (subcommand_of cli (x ∷ ws))) (sym ((bytes_eq-Decides w (codes "keep")).0 l)) (λ f. keep_taken ws even f ∙ sym (ap command_by (keep_rows ws))) e
      go false false false false true y i j k l m n = subst (λ y. fault_of cli (y ∷ ws) ≡ [] → command_of (y ∷ ws) ≡ command_by (subcommand_of cli (y ∷ ws))) (sym ((bytes_eq-Decides w (codes "races")).0 m)) (λ f. races_taken ws even f ∙ sym (ap command_by (races_rows ws))) e
      go false false false false false true i j k l m n = subst (λ y. fault_of cli (y ∷ ws) ≡ [] → command_of (y ∷ ws) ≡ command_by (subcommand_of cli (y ∷ ws))) (sym ((bytes_eq-Decides w (codes "check")).0 n)) (λ f. check_taken ws even f ∙ sym (ap command_by (check_rows ws))) e
      go false false false false false false i j k l m n = absurd (true≢false (sym is ∙ (λ z. i z || (j z || (k z || (l z || (m z || n z)))))))

  flipped : (x y : Text) → bytes_eq x y ≡ false → bytes_eq y x ≡ false
  flipped x y e = go (bytes_eq y x) refl
    where
      go : (t : Bool) → bytes_eq y x ≡ t → t ≡ false
      go true i = sym ((bytes_eq-Decides x y).1 (sym ((bytes_eq-Decides y x).0 i))) ∙ e
      go false i = refl

  -- a parse that does not fail gives the command that the words are
  pub whole_taken : (w : Text) → is_odd w ≡ false → fault_of cli (w ∷ ws) ≡ [] → command_of (w ∷ ws) ≡ command_by (subcommand_of cli (w ∷ ws))
  whole_taken w o e = go (bytes_eq w (codes "run")) (bytes_eq w (codes "sim")) (bytes_eq w (codes "load")) (bytes_eq w (codes "keep")) (bytes_eq w (codes "races")) (bytes_eq w (codes "check")) refl refl refl refl refl refl
    where
      other : Enters w ws → command_of (w ∷ ws) ≡ None → command_of (w ∷ ws) ≡ command_by (subcommand_of cli (w ∷ ws))
      other (inl f) none = absurd (true≢false (sym (ap fine e) ∙ f))
      other (inr s) none = none ∙ sym (ap command_by s)

      go : (a b c d x y : Bool) → bytes_eq w (codes "run") ≡ a → bytes_eq w (codes "sim") ≡ b → bytes_eq w (codes "load") ≡ c → bytes_eq w (codes "keep") ≡ d → bytes_eq w (codes "races") ≡ x → bytes_eq w (codes "check") ≡ y → command_of (w ∷ ws) ≡ command_by (subcommand_of cli (w ∷ ws))
      go true b c d x y i j k l m n = named_taken w (ap (λ t. t || (bytes_eq w (codes "sim") || (bytes_eq w (codes "load") || (bytes_eq w (codes "keep") || (bytes_eq w (codes "races") || bytes_eq w (codes "check")))))) i) e
      go false true c d x y i j k l m n = named_taken w (λ z. i z || (j z || (bytes_eq w (codes "load") || (bytes_eq w (codes "keep") || (bytes_eq w (codes "races") || bytes_eq w (codes "check")))))) e
      go false false true d x y i j k l m n = named_taken w (λ z. i z || (j z || (k z || (bytes_eq w (codes "keep") || (bytes_eq w (codes "races") || bytes_eq w (codes "check")))))) e
      go false false false true x y i j k l m n = named_taken w (λ z. i z || (j z || (k z || (l z || (bytes_eq w (codes "races") || bytes_eq w (codes "check")))))) e
      go false false false false true y i j k l m n = named_taken w (λ z. i z || (j z || (k z || (l z || (m z || n z))))) e
      go false false false false false true i j k l m n = named_taken w (λ z. i z || (j z || (k z || (l z || (m z || n z))))) e
      go false false false false false false i j k l m n = other (other_first ws w (flipped w (codes "run") i) (flipped w (codes "sim") j) (flipped w (codes "load") k) (flipped w (codes "keep") l) (flipped w (codes "races") m) (flipped w (codes "check") n) o) (no_name w ws (λ z. i z || (j z || (k z || (l z || (m z || n z))))))

-- ## `-` as a word

abbrev pub HasDash : Option Given → Type 0
HasDash None = Unit {0}
HasDash (Some g) = list_any is_dash g.words ≡ true

dash_word : (w : Text) (g : Option Given) → HasDash g → HasDash (option_map (with_word w) g)
dash_word w None h = tt
dash_word w (Some g) h = or_right (is_dash w) (list_any is_dash g.words) h

dash_option : (n v : Text) (g : Option Given) → HasDash g → HasDash (option_map (with_option n v) g)
dash_option n v None h = tt
dash_option n v (Some g) h = h

pub or_cases : (a b : Bool) → (a || b) ≡ true → (a ≡ true) ⊎ (b ≡ true)
or_cases true b e = inl refl
or_cases false b e = inr e

-- words with a `-` cannot be read, or it belongs to no option
pub dash_given : (ws : List Text) (st : Option Text) → list_any is_dash ws ≡ true → HasDash (given_on st ws)
dash_given [] st h = absurd (true≢false (sym h))
dash_given (w ∷ ws) st h = elim (or_cases (is_dash w) (list_any is_dash ws) h) [
  | inl d ↦ subst (λ (x : Text). HasDash (given_on st (x ∷ ws))) (sym ((bytes_eq-Decides w (45 ∷ [])).0 d)) (here st)
  | inr d ↦ later st (λ s. dash_given ws s d) d
]
  where
    here : (s : Option Text) → HasDash (given_on s ((45 ∷ []) ∷ ws))
    here None = tt
    here (Some n) = tt

    behind : (a b c e : Bool) → list_any is_dash ws ≡ true → ((s : Option Text) → HasDash (given_on s ws)) → HasDash (if not a then option_map (with_word w) (given_on None ws) else (if not b then None else (if c then Some (only_words ws)
        else (if e then option_map (with_option (before_first is_equals (drop 2 w)) (after_first is_equals (drop 2 w))) (given_on None ws) else given_on (Some (drop 2 w)) ws))))
    behind false b c e d rest = dash_word w (given_on None ws) (rest None)
    behind true false c e d rest = tt
    behind true true true e d rest = d
    behind true true false true d rest = dash_option (before_first is_equals (drop 2 w)) (after_first is_equals (drop 2 w)) (given_on None ws) (rest None)
    behind true true false false d rest = rest (Some (drop 2 w))

    value : (n : Text) (a : Bool) → HasDash (given_on None ws) → HasDash (if a then None else option_map (with_option n w) (given_on None ws))
    value n true r = tt
    value n false r = dash_option n w (given_on None ws) r

    later : (s : Option Text) → ((t : Option Text) → HasDash (given_on t ws)) → list_any is_dash ws ≡ true → HasDash (given_on s (w ∷ ws))
    later None rest d = behind (has_hyphen w) (is_option w) (bytes_eq w (codes "--")) (list_any is_equals (drop 2 w)) d rest
    later (Some n) rest d = value n (has_hyphen w) (rest None)

-- `-` is no number
pub dash_integers : (ws : List Text) → list_any is_dash ws ≡ true → integers_of ws ≡ None
dash_integers [] h = absurd (true≢false (sym h))
dash_integers (w ∷ ws) h = elim (or_cases (is_dash w) (list_any is_dash ws) h) [
  | inl d ↦ subst (λ (x : Text). integers_of (x ∷ ws) ≡ None) (sym ((bytes_eq-Decides w (45 ∷ [])).0 d)) refl
  | inr d ↦ rw (dash_integers ws d) (nothing (integer_of w))
]
  where
    nothing : (o : Option ℤ) → option_and_then (λ (n : ℤ). option_map (λ (ns : List ℤ). n ∷ ns) None) o ≡ None
    nothing None = refl
    nothing (Some n) = refl
