-- What rows clap's walk over the words behind a command leaves: the values of its options, and the words that belong to none.
use Rattle.std.proofs.Common.{◌≡◌, ◌∙◌, ◌&&◌, ◌||◌, ℕ, Bool, true, false, true≢false, List, [], ◌∷◌, ◌++◌, Option, Some, None, codes, not, option_map, refl, sym, ap, subst, append_assoc, append-nil}
use Rattle.std.specs.Prelude.{if◌then◌else◌, find, ◌==◌}
use Rattle.std.specs.Option.{option_map_or}
use Rattle.std.specs.List.{list_any, after_first, before_first}
use Rattle.std.specs.Str.{bytes_eq}
use Rattle.std.proofs.lemmas.Slice.Eq.{bytes_eq-Decides}
use Rattle.clap.specs.Lexer.{name_and_value}
use Rattle.clap.specs.declared.builder.value_parser.Reading.{Reading}
use Rattle.clap.specs.declared.parser.matches.ValueSource.{ValueSource}
use Rattle.clap.specs.declared.parser.matches.ValueSource.TheVariants.{CommandLine}
use Rattle.clap.proofs.WalkLemmas.{both}
use Rattle.clap.specs.Walk.{Row, Rule, Text, Waiting, Walk, after_step, arg_by_long, has_row, idle, more_values, option, positional, reading_by, settled_rows, walked, with_values, without}
use Rattle.cw_words.specs.Options.{Given, given, given_on, has_hyphen, is_equals, only_words, values_of, with_option, with_word}
use Rattle.cw_words.specs.Asked.{vals}
use Rattle.cw_words.specs.Shapes.{add_option, add_word, built_option, built_word, fits, held_at, is_known, leaf_rules, rows_from, walk_at}
use Rattle.cw_words.proofs.Walks.{IsPlainWord, before_all, by_id, empty_is_plain, ends_walked, fits_same, given_bare, given_equals, given_plain, given_short, has_word, long_after, long_known, other_is_plain, plain_walked, resting, settled_option, trailing_walked, value_plain, value_there, value_walked, walked_long, without_none, word_cases, words_differ, not_true}

pub vals_with : (id j : Text) (how : Reading) (s : ValueSource) (vs : List Text) (rows : List Row) → vals j (with_values id how s vs rows) ≡ (if bytes_eq id j then vals j rows ++ vs else vals j rows)
vals_with id j how s vs [] = go (bytes_eq id j)
  where
    go : (t : Bool) → option_map_or (λ (r : Row). r.values) (if t then Some (record { id = id; values = vs; count = None; source = Some s; reading = how }) else None) [] ≡ (if t then [] ++ vs else [])
    go true = refl
    go false = refl
vals_with id j how s vs (r ∷ rs) = go (bytes_eq r.id id) refl (vals_with id j how s vs rs)
  where
    pair : (u : Bool) → vals j (more_values s vs r ++ rs) ≡ (if bytes_eq r.id j then vals j (r ∷ rs) ++ vs else vals j (r ∷ rs))
    pair u = both_ways (bytes_eq r.id j)
      where
        both_ways : (t : Bool) → option_map_or (λ (x : Row). x.values) (if t then Some (record r { values = r.values ++ vs; source = Some (Rattle.clap.specs.Walk.stronger r.source s) }) else find (λ x. bytes_eq x.id j) rs) []
            ≡ (if t then option_map_or (λ (x : Row). x.values) (if t then Some r else find (λ x. bytes_eq x.id j) rs) [] ++ vs else option_map_or (λ (x : Row). x.values) (if t then Some r else find (λ x. bytes_eq x.id j) rs) [])
        both_ways true = refl
        both_ways false = refl

    differ : (w : Bool) → bytes_eq id j ≡ w → bytes_eq r.id j ≡ true → bytes_eq r.id id ≡ false → r.values ≡ (if w then r.values ++ vs else r.values)
    differ true iw iu i = absurd (true≢false (sym ((bytes_eq-Decides r.id id).1 ((bytes_eq-Decides r.id j).0 iu ∙ sym ((bytes_eq-Decides id j).0 iw))) ∙ i))
    differ false iw iu i = refl

    pick : (u : Bool) → bytes_eq r.id j ≡ u → bytes_eq r.id id ≡ false → vals j (with_values id how s vs rs) ≡ (if bytes_eq id j then vals j rs ++ vs else vals j rs)
        → option_map_or (λ (x : Row). x.values) (if u then Some r else find (λ x. bytes_eq x.id j) (with_values id how s vs rs)) []
        ≡ (if bytes_eq id j then option_map_or (λ (x : Row). x.values) (if u then Some r else find (λ x. bytes_eq x.id j) rs) [] ++ vs else option_map_or (λ (x : Row). x.values) (if u then Some r else find (λ x. bytes_eq x.id j) rs) [])
    pick true iu i later = differ (bytes_eq id j) refl iu i
    pick false iu i later = later

    go : (t : Bool) → bytes_eq r.id id ≡ t → vals j (with_values id how s vs rs) ≡ (if bytes_eq id j then vals j rs ++ vs else vals j rs)
        → vals j (if t then more_values s vs r ++ rs else r ∷ with_values id how s vs rs) ≡ (if bytes_eq id j then vals j (r ∷ rs) ++ vs else vals j (r ∷ rs))
    go true i later = pair true ∙ ap (λ (x : Text). if bytes_eq x j then vals j (r ∷ rs) ++ vs else vals j (r ∷ rs)) ((bytes_eq-Decides r.id id).0 i)
    go false i later = pick (bytes_eq r.id j) refl i later

pub vals_option : (n j v : Text) (rows : List Row) → has_row n rows ≡ false → vals j (add_option n v rows) ≡ (if bytes_eq n j then vals j rows ++ v ∷ [] else vals j rows)
vals_option n j v rows e = vals_with n j (reading_by (built_option n)) CommandLine (v ∷ []) (without n rows) ∙ ap (λ rs. if bytes_eq n j then vals j rs ++ v ∷ [] else vals j rs) (without_none n rows e)

pub vals_word : (j v : Text) (rows : List Row) → vals j (add_word v rows) ≡ (if bytes_eq (codes "words") j then vals j rows ++ v ∷ [] else vals j rows)
vals_word j v rows = vals_with (codes "words") j (reading_by built_word) CommandLine (v ∷ []) rows

abbrev pub words_added : List Text → List Row → List Row
words_added [] rows = rows
words_added (v ∷ vs) rows = words_added vs (add_word v rows)

module _ (names : List Text) (other : is_known names (codes "words") ≡ false) where
  -- what the rows at the end have more than these rows
  pub record Shows (last rows : List Row) (g : Given) : Type 0 where
    pub words : vals (codes "words") last ≡ vals (codes "words") rows ++ g.words
    pub options : (j : Text) → bytes_eq (codes "words") j ≡ false → vals j last ≡ vals j rows ++ values_of j g.options

  abbrev pub Sees : (last rows : List Row) → Option Given → Type 0
  Sees last rows None = Unit {0}
  Sees last rows (Some g) = fits names g.options rows ≡ true → Shows last rows g

  only_shown : (ws : List Text) (rows : List Row) → Shows (words_added ws rows) rows (only_words ws)
  only_shown [] rows = record { words = sym (append-nil (vals (codes "words") rows)); options = λ j k. sym (append-nil (vals j rows)) }
  only_shown (v ∷ vs) rows =
      let later = only_shown vs (add_word v rows) in
      record {
        words = later.words ∙ ap (λ xs. xs ++ vs) (vals_word (codes "words") v rows) ∙ append_assoc (vals (codes "words") rows) (v ∷ []) vs;
        options = λ j k. later.options j k ∙ ap (λ xs. xs ++ []) (vals_word j v rows ∙ ap (λ t. if t then vals j rows ++ v ∷ [] else vals j rows) k);
      }

  sees_word : (w : Text) (last rows : List Row) (g : Option Given) → Sees last (add_word w rows) g → Sees last rows (option_map (with_word w) g)
  sees_word w last rows None h = tt
  sees_word w last rows (Some g) h = λ fit.
      let s = h (fits_same names g.options (add_word w rows) rows (λ j k. has_word j w rows ∙ ap (λ t. t || has_row j rows) (words_differ names j other k)) ∙ fit) in
      record {
        words = s.words ∙ ap (λ xs. xs ++ g.words) (vals_word (codes "words") w rows) ∙ append_assoc (vals (codes "words") rows) (w ∷ []) g.words;
        options = λ j k. s.options j k ∙ ap (λ xs. xs ++ values_of j g.options) (vals_word j w rows ∙ ap (λ t. if t then vals j rows ++ w ∷ [] else vals j rows) k);
      }

  not_words : (n : Text) → is_known names n ≡ true → bytes_eq n (codes "words") ≡ false
  not_words n k = go (bytes_eq n (codes "words")) refl
    where
      go : (t : Bool) → bytes_eq n (codes "words") ≡ t → t ≡ false
      go true i = absurd (true≢false (sym k ∙ ap (is_known names) ((bytes_eq-Decides n (codes "words")).0 i) ∙ other))
      go false i = refl

  one_more : (t : Bool) (xs vs : List Text) (v : Text) → (if t then xs ++ v ∷ [] else xs) ++ vs ≡ xs ++ (if t then v ∷ vs else vs)
  one_more true xs vs v = append_assoc xs (v ∷ []) vs
  one_more false xs vs v = refl

  sees_option : (n v : Text) (last rows : List Row) (g : Option Given) → Sees last (add_option n v rows) g → Sees last rows (option_map (with_option n v) g)
  sees_option n v last rows None h = tt
  sees_option n v last rows (Some g) h = λ fit.
      let first = both (is_known names n) (not (has_row n rows) && fits names g.options (add_option n v rows)) fit in
      let second = both (not (has_row n rows)) (fits names g.options (add_option n v rows)) first.1 in
      let free = not_true (has_row n rows) second.0 in
      let s = h second.1 in
      record {
        words = s.words ∙ ap (λ xs. xs ++ g.words) (vals_option n (codes "words") v rows free ∙ ap (λ t. if t then vals (codes "words") rows ++ v ∷ [] else vals (codes "words") rows) (not_words n first.0));
        options = λ j k. s.options j k ∙ ap (λ xs. xs ++ values_of j g.options) (vals_option n j v rows free) ∙ one_more (bytes_eq n j) (vals j rows) (values_of j g.options) v;
      }

  unknown_option : (n v : Text) (last rows : List Row) (g : Option Given) → is_known names n ≡ false → Sees last rows (option_map (with_option n v) g)
  unknown_option n v last rows None e = tt
  unknown_option n v last rows (Some g) e = λ fit. absurd (true≢false (sym fit ∙ ap (λ t. t && (not (has_row n rows) && fits names g.options (add_option n v rows))) e))

  unknown_waits : (n : Text) (ws : List Text) (last rows : List Row) → is_known names n ≡ false → Sees last rows (given_on (Some n) ws)
  unknown_waits n [] last rows e = tt
  unknown_waits n (w ∷ ws) last rows e = go (has_hyphen w)
    where
      go : (t : Bool) → Sees last rows (if t then None else option_map (with_option n w) (given ws))
      go true = tt
      go false = unknown_option n w last rows (given ws) e

  abbrev T : List Row → Option (Text × List Text) → List Row
  T rows p = settled_rows (leaf_rules names) p rows

  trailing_rows : (ws : List Text) (rows : List Row) (p : Option (Text × List Text)) (wt : Waiting) → rows_from names (walk_at rows p wt true) ws ≡ words_added ws (T rows p)
  trailing_rows [] rows p wt = refl
  trailing_rows (v ∷ vs) rows p wt = ap (λ w. rows_from names w vs) (trailing_walked names rows p wt v) ∙ trailing_rows vs (T rows p) (Some (codes "words", v ∷ [])) positional

  pub record Ends (ws : List Text) : Type 0 where
    pub at_rest : (rows : List Row) (p : Option (Text × List Text)) (r : Bool) → Sees (rows_from names (walk_at rows p (resting r) false) ws) (T rows p) (given ws)
    pub at_option : (rows : List Row) (n : Text) → is_known names n ≡ true → Sees (rows_from names (walk_at rows (Some (n, [])) (option n) false) ws) rows (given_on (Some n) ws)

  ends_here : Ends []
  ends_here = record {
    at_rest = λ rows p r fit. only_shown [] (T rows p);
    at_option = λ rows n k. tt;
  }

  ends_plain : (w : Text) → IsPlainWord w → (ws : List Text) → Ends ws → Ends (w ∷ ws)
  ends_plain w is ws b = record {
    at_rest = λ rows p r.
        let last = ap (λ x. rows_from names x ws) (plain_walked names rows p r w is.ends is.long is.short) in
        let h = sees_word w _ (T rows p) (given ws) (b.at_rest (T rows p) (Some (codes "words", w ∷ [])) false) in
        subst (λ (g : Option Given). Sees (rows_from names (walk_at rows p (resting r) false) (w ∷ ws)) (T rows p) g) (sym (given_plain w ws is.hyphen))
        (subst (λ (rs : List Row). Sees rs (T rows p) (option_map (with_word w) (given ws))) (sym last) h);
    at_option = λ rows n k.
        let found = by_id names n other k in
        let last = ap (λ x. rows_from names x ws) (value_walked names rows n w is.ends is.long is.short found) in
        let h = subst (λ (rs : List Row). Sees (rows_from names (walk_at rows (Some (n, w ∷ [])) idle false) ws) rs (given ws)) (settled_option names n w rows found) (b.at_rest rows (Some (n, w ∷ [])) true) in
        subst (λ (g : Option Given). Sees (rows_from names (walk_at rows (Some (n, [])) (option n) false) (w ∷ ws)) rows g) (sym (value_plain n w ws is.hyphen))
        (subst (λ (rs : List Row). Sees rs rows (option_map (with_option n w) (given ws))) (sym last) (sees_option n w _ rows (given ws) h));
  }

  ends_one : (ws : List Text) → Ends ((45 ∷ []) ∷ ws)
  ends_one ws = record { at_rest = λ rows p r. tt; at_option = λ rows n k. tt }

  ends_short : (d : ℕ) (ds : Text) → (d == 45) ≡ false → (ws : List Text) → Ends ((45 ∷ d ∷ ds) ∷ ws)
  ends_short d ds i ws = record {
    at_rest = λ rows p r. subst (λ (g : Option Given). Sees (rows_from names (walk_at rows p (resting r) false) ((45 ∷ d ∷ ds) ∷ ws)) (T rows p) g) (sym (given_short d ds ws i)) tt;
    at_option = λ rows n k. tt;
  }

  ends_only : (ws : List Text) → Ends ((45 ∷ 45 ∷ []) ∷ ws)
  ends_only ws = record {
    at_rest = λ rows p r fit.
        let last = ap (λ x. rows_from names x ws) (ends_walked names rows p (resting r)) ∙ trailing_rows ws rows p (resting r) in
        subst (λ (rs : List Row). Shows rs (T rows p) (only_words ws)) (sym last) (only_shown ws (T rows p));
    at_option = λ rows n k. tt;
  }

  module _ (e : ℕ) (es : Text) (ws : List Text) (b : Ends ws) (rows : List Row) (p : Option (Text × List Text)) (wt : Waiting) where
    abbrev word : Text
    word = 45 ∷ 45 ∷ e ∷ es

    abbrev N : Text
    N = before_first is_equals (e ∷ es)

    abbrev rest : Option Rule → Option Text → List Row
    rest a v = rows_from names (after_step (leaf_rules names) word (walk_at rows p wt false) (long_after names wt word a v (held_at rows p)).0 (long_after names wt word a v (held_at rows p)).1) ws

    is_rest : rows_from names (walk_at rows p wt false) (word ∷ ws) ≡ rest (arg_by_long (leaf_rules names) N) (name_and_value (e ∷ es)).1
    is_rest = ap (λ x. rows_from names x ws) (walked_long names rows p wt e es)

    with_value : (n v : Text) (k : Bool) → is_known names n ≡ k → Sees (rest (arg_by_long (leaf_rules names) n) (Some v)) (T rows p) (option_map (with_option n v) (given ws))
    with_value n v true k =
        subst (λ (a : Option Rule). Sees (rest a (Some v)) (T rows p) (option_map (with_option n v) (given ws))) (sym (long_known names n k))
        (sees_option n v _ (T rows p) (given ws) (b.at_rest (add_option n v (T rows p)) None true))
    with_value n v false k = unknown_option n v (rest (arg_by_long (leaf_rules names) n) (Some v)) (T rows p) (given ws) k

    without_value : (n : Text) (k : Bool) → is_known names n ≡ k → Sees (rest (arg_by_long (leaf_rules names) n) None) (T rows p) (given_on (Some n) ws)
    without_value n true k = subst (λ (a : Option Rule). Sees (rest a None) (T rows p) (given_on (Some n) ws)) (sym (long_known names n k)) (b.at_option (T rows p) n k)
    without_value n false k = unknown_waits n ws (rest (arg_by_long (leaf_rules names) n) None) (T rows p) k

    ends_either : (t : Bool) → list_any is_equals (e ∷ es) ≡ t → Sees (rows_from names (walk_at rows p wt false) (word ∷ ws)) (T rows p) (given (word ∷ ws))
    ends_either true n =
        subst (λ (g : Option Given). Sees (rows_from names (walk_at rows p wt false) (word ∷ ws)) (T rows p) g) (sym (given_equals e es ws n))
        (subst (λ (rs : List Row). Sees rs (T rows p) (option_map (with_option N (after_first is_equals (e ∷ es))) (given ws)))
        (sym (is_rest ∙ ap (λ v. rest (arg_by_long (leaf_rules names) N) v) (value_there (e ∷ es) true n)))
        (with_value N (after_first is_equals (e ∷ es)) (is_known names N) refl))
    ends_either false n =
        subst (λ (g : Option Given). Sees (rows_from names (walk_at rows p wt false) (word ∷ ws)) (T rows p) g) (ap (λ m. given_on (Some m) ws) (before_all (e ∷ es) n) ∙ sym (given_bare e es ws n))
        (subst (λ (rs : List Row). Sees rs (T rows p) (given_on (Some N) ws))
        (sym (is_rest ∙ ap (λ v. rest (arg_by_long (leaf_rules names) N) v) (value_there (e ∷ es) false n)))
        (without_value N (is_known names N) refl))

  ends_long : (e : ℕ) (es : Text) (ws : List Text) → Ends ws → Ends ((45 ∷ 45 ∷ e ∷ es) ∷ ws)
  ends_long e es ws b = record {
    at_rest = λ rows p r. ends_either e es ws b rows p (resting r) (list_any is_equals (e ∷ es)) refl;
    at_option = λ rows n k. tt;
  }

  pub ends : (ws : List Text) → Ends ws
  ends [] = ends_here
  ends (w ∷ ws) =
      word_cases (λ x. Ends ws → Ends (x ∷ ws))
      (λ b. ends_plain [] empty_is_plain ws b)
      (λ c cs i b. ends_plain (c ∷ cs) (other_is_plain c cs i) ws b)
      (λ b. ends_one ws)
      (λ d ds i b. ends_short d ds i ws)
      (λ b. ends_only ws)
      (λ e es b. ends_long e es ws b)
      w (ends ws)
