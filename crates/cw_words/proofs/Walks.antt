-- Each turn of clap's walk over the words behind a command, by the kind of the word, and what the whole walk judges of them.
use Rattle.std.proofs.Common.{◌≡◌, ◌∙◌, ◌&&◌, ◌||◌, ℕ, Bool, true, false, true≢false, List, [], ◌∷◌, ◌++◌, map, Option, Some, None, codes, not, is_some, option_map, refl, sym, ap, arith, subst, take, suc, ◌+◌}
use Rattle.std.specs.Prelude.{if◌then◌else◌, find, slice_get, ◌==◌}
use Rattle.std.specs.List.{list_any, after_first, before_first, position_or_len}
use Rattle.std.specs.Str.{bytes_eq, chars}
use Rattle.std.proofs.lemmas.Slice.Eq.{bytes_eq-Decides}
use Rattle.std.proofs.lemmas.Bool.Decides.{Decides-eqb}
use Rattle.std.specs.Prelude.{nat_lt, option_and_then}
use Rattle.std.specs.Option.{option_map_or}
use Rattle.clap.specs.Lexer.{long_of, long_of_rest, name_and_value, short_of, short_of_rest, strip_byte}
use Rattle.clap.specs.declared.builder.value_parser.Reading.{Reading}
use Rattle.clap.specs.declared.parser.matches.ValueSource.{ValueSource}
use Rattle.clap.specs.declared.parser.matches.ValueSource.TheVariants.{CommandLine}
use Rattle.clap.proofs.WalkLemmas.{both}
use Rattle.std.proofs.lemmas.Str.{chars-nil}
use Rattle.clap.specs.declared.error.kind.ErrorKind.TheVariants as kind
use Rattle.clap.specs.Kinds.{Kinds, or_else}
use Rattle.clap.specs.Walk.{Held, Row, Rule, Step, Text, Waiting, Walk, after_flag, after_step, long_met, option_word, arg_by_id, arg_by_long, arg_by_short, has_long, has_row, has_short, idle, is_empty, is_pending, more_values, reading_by, used_by_id, with_values, without, option, positional, pushed, settled, settled_rows, walked}
use Rattle.clap.specs.Faults.{flags_fault, long_fault, step_fault, settle_fault, turn_fault, use_fault, walk_fault}
use Rattle.cw_words.specs.Options.{Given, GivenOption, given, given_on, has_hyphen, is_equals, is_option, only_words, with_option, with_word}
use Rattle.cw_words.specs.Shapes.{add_option, add_word, built_option, built_word, end_from, fault_from, fine, fits, has_no_odd, held_at, is_known, is_odd, judged, leaf, leaf_rules, walk_at}

pub fine-or_else : (a b : Kinds) → fine (or_else a b) ≡ (fine a && fine b)
fine-or_else [] b = refl
fine-or_else (k ∷ ks) b = refl

pub and_assoc : (a b c : Bool) → ((a && b) && c) ≡ (a && (b && c))
and_assoc true b c = refl
and_assoc false b c = refl

pub and_false : (a : Bool) → (a && false) ≡ false
and_false true = refl
and_false false = refl

pub and_true : (a : Bool) → (a && true) ≡ a
and_true true = refl
and_true false = refl

-- ## Arguments by their names

pub long_known : (names : List Text) (n : Text) → is_known names n ≡ true → arg_by_long (leaf_rules names) n ≡ Some (built_option n)
long_known names n e = go names e
  where
    go : (ks : List Text) → is_known ks n ≡ true → find (λ a. not (is_some a.index) && has_long a n) (map built_option ks) ≡ Some (built_option n)
    go [] e = absurd (true≢false (sym e))
    go (k ∷ ks) e = step (bytes_eq k n) refl (go ks)
      where
        step : (t : Bool) → bytes_eq k n ≡ t → (is_known ks n ≡ true → find (λ a. not (is_some a.index) && has_long a n) (map built_option ks) ≡ Some (built_option n)) → find (λ a. not (is_some a.index) && has_long a n) (map built_option (k ∷ ks)) ≡ Some (built_option n)
        step true i later = rw i (ap (λ t. Some (built_option t)) ((bytes_eq-Decides k n).0 i))
        step false i later = let z = rw i at e in rw i (later z)

pub long_unknown : (names : List Text) (n : Text) → is_known names n ≡ false → arg_by_long (leaf_rules names) n ≡ None
long_unknown names n e = go names e
  where
    go : (ks : List Text) → is_known ks n ≡ false → find (λ a. not (is_some a.index) && has_long a n) (map built_option ks) ≡ None
    go [] e = refl
    go (k ∷ ks) e = step (bytes_eq k n) refl (go ks)
      where
        step : (t : Bool) → bytes_eq k n ≡ t → (is_known ks n ≡ false → find (λ a. not (is_some a.index) && has_long a n) (map built_option ks) ≡ None) → find (λ a. not (is_some a.index) && has_long a n) (map built_option (k ∷ ks)) ≡ None
        step true i later = let z = rw i at e in absurd (true≢false z)
        step false i later = let z = rw i at e in rw i (later z)

pub no_short : (names : List Text) (x : ℕ) → arg_by_short (leaf_rules names) x ≡ None
no_short names x = go names
  where
    go : (ks : List Text) → find (λ a. not (is_some a.index) && has_short a x) (map built_option ks) ≡ None
    go [] = refl
    go (k ∷ ks) = go ks

-- no option has the id of the words
pub by_id : (names : List Text) (n : Text) → is_known names (codes "words") ≡ false → is_known names n ≡ true → arg_by_id (leaf_rules names) n ≡ Some (built_option n)
by_id names n other e = first (bytes_eq (codes "words") n) refl
  where
    go : (ks : List Text) → is_known ks n ≡ true → find (λ a. bytes_eq a.id n) (map built_option ks) ≡ Some (built_option n)
    go [] e = absurd (true≢false (sym e))
    go (k ∷ ks) e = step (bytes_eq k n) refl (go ks)
      where
        step : (t : Bool) → bytes_eq k n ≡ t → (is_known ks n ≡ true → find (λ a. bytes_eq a.id n) (map built_option ks) ≡ Some (built_option n)) → find (λ a. bytes_eq a.id n) (map built_option (k ∷ ks)) ≡ Some (built_option n)
        step true i later = rw i (ap (λ t. Some (built_option t)) ((bytes_eq-Decides k n).0 i))
        step false i later = let z = rw i at e in rw i (later z)

    first : (t : Bool) → bytes_eq (codes "words") n ≡ t → find (λ a. bytes_eq a.id n) (leaf_rules names) ≡ Some (built_option n)
    first true i = absurd (true≢false (sym e ∙ ap (is_known names) (sym ((bytes_eq-Decides (codes "words") n).0 i)) ∙ other))
    first false i = rw i (go names e)

-- ## Steps

pub fault_step : (name : Text) (names : List Text) (w : Walk) (v : Text) (vs : List Text)
    → fine (fault_from name names w (v ∷ vs)) ≡ (fine (turn_fault (leaf name names) [] w v) && fine (fault_from name names (walked (leaf_rules names) [] w v) vs))
unfolding walk_fault
fault_step name names w v vs =
    let next = walked (leaf_rules names) [] w v in
    let a = turn_fault (leaf name names) [] w v in
    let b = walk_fault (leaf name names) [] next vs in
    let s = settle_fault (leaf_rules names) false (end_from names next vs) in
    fine-or_else (or_else a b) s ∙ ap (λ t. t && fine s) (fine-or_else a b) ∙ and_assoc (fine a) (fine b) (fine s) ∙ ap (λ t. fine a && t) (sym (fine-or_else b s))

pub fault_end : (name : Text) (names : List Text) (w : Walk) → fault_from name names w [] ≡ settle_fault (leaf_rules names) false w.held
unfolding walk_fault
fault_end name names w = refl

abbrev positional_walk : List Text → List Row → Option (Text × List Text) → Text → (trailing b : Bool) → Walk
positional_walk names rows p v trailing b = record { held = pushed (codes "words") v (if b then held_at rows p else settled (leaf_rules names) (held_at rows p)); waiting = positional; position = 1; is_trailing = trailing; stopped = None }

-- behind `--` each word is a word
pub trailing_turn : (name : Text) (names : List Text) (rows : List Row) (p : Option (Text × List Text)) (wt : Waiting) (v : Text)
    → turn_fault (leaf name names) [] (walk_at rows p wt true) v ≡ settle_fault (leaf_rules names) false (held_at rows p)
trailing_turn name names rows p wt v = ap (λ b. if b then [] else settle_fault (leaf_rules names) false (held_at rows p)) (and_false (is_pending built_word p))

pub trailing_walked : (names : List Text) (rows : List Row) (p : Option (Text × List Text)) (wt : Waiting) (v : Text)
    → walked (leaf_rules names) [] (walk_at rows p wt true) v ≡ walk_at (settled_rows (leaf_rules names) p rows) (Some (codes "words", v ∷ [])) positional true
unfolding walked
trailing_walked names rows p wt v = ap (positional_walk names rows p v true) (and_false (is_pending built_word p))

-- ## Kinds of words

module _ (P : Text → Type 0) (empty : P []) (plain : (c : ℕ) (cs : Text) → (c == 45) ≡ false → P (c ∷ cs)) (one : P (45 ∷ [])) (short : (d : ℕ) (ds : Text) → (d == 45) ≡ false → P (45 ∷ d ∷ ds)) (ends : P (45 ∷ 45 ∷ []))
    (long : (e : ℕ) (es : Text) → P (45 ∷ 45 ∷ e ∷ es)) where
  pub word_cases : (w : Text) → P w
  word_cases [] = empty
  word_cases (c ∷ cs) = first (c == 45) refl
    where
      third : (ds : Text) → P (45 ∷ 45 ∷ ds)
      third [] = ends
      third (e ∷ es) = long e es

      second : (ds : Text) → P (45 ∷ ds)
      second [] = one
      second (d ∷ ds) = go (d == 45) refl
        where
          go : (t : Bool) → (d == 45) ≡ t → P (45 ∷ d ∷ ds)
          go true i = subst (λ x. P (45 ∷ x ∷ ds)) (sym ((Decides-eqb d 45).0 i)) (third ds)
          go false i = short d ds i

      first : (t : Bool) → (c == 45) ≡ t → P (c ∷ cs)
      first true i = subst (λ x. P (x ∷ cs)) (sym ((Decides-eqb c 45).0 i)) (second cs)
      first false i = plain c cs i

other_way : (c : ℕ) → (c == 45) ≡ false → (45 == c) ≡ false
other_way c i = go (45 == c) refl
  where
    go : (t : Bool) → (45 == c) ≡ t → t ≡ false
    go true j = ap (λ x. x == 45) ((Decides-eqb 45 c).0 j) ∙ i
    go false j = refl

pub no_hyphen : (c : ℕ) (cs : Text) → (c == 45) ≡ false → has_hyphen (c ∷ cs) ≡ false
no_hyphen c cs i = ap (λ t. t && true) (other_way c i)

pub no_option : (d : ℕ) (ds : Text) → (d == 45) ≡ false → is_option (45 ∷ d ∷ ds) ≡ false
no_option d ds i = ap (λ t. t && true) (other_way d i)

-- ## Steps before `--`

abbrev pub resting : Bool → Waiting
resting true = idle
resting false = positional

-- no flag and not `--`
pub record IsPlainWord (w : Text) : Type 0 where
  pub ends : bytes_eq w (45 ∷ 45 ∷ []) ≡ false
  pub long : long_of w ≡ None
  pub short : short_of w ≡ None
  pub hyphen : has_hyphen w ≡ false

pub empty_is_plain : IsPlainWord []
empty_is_plain = record { ends = refl; long = refl; short = refl; hyphen = refl }

pub other_is_plain : (c : ℕ) (cs : Text) → (c == 45) ≡ false → IsPlainWord (c ∷ cs)
other_is_plain c cs i = record {
  ends = ap (λ t. t && bytes_eq cs (45 ∷ [])) i;
  long = ap (λ t. option_and_then long_of_rest (option_and_then (strip_byte 45) (if t then Some cs else None))) i;
  short = ap (λ t. option_and_then short_of_rest (if t then Some cs else None)) i;
  hyphen = no_hyphen c cs i;
}

pub plain_turn : (name : Text) (names : List Text) (rows : List Row) (p : Option (Text × List Text)) (r : Bool) (w : Text) → bytes_eq w (45 ∷ 45 ∷ []) ≡ false → long_of w ≡ None → short_of w ≡ None
    → turn_fault (leaf name names) [] (walk_at rows p (resting r) false) w ≡ settle_fault (leaf_rules names) false (held_at rows p)
plain_turn name names rows p true w e1 e2 e3 = rw (e1, e2, e3) (ap (λ b. if b then [] else settle_fault (leaf_rules names) false (held_at rows p)) (and_false (is_pending built_word p)))
plain_turn name names rows p false w e1 e2 e3 = rw (e1, e2, e3) (ap (λ b. if b then [] else settle_fault (leaf_rules names) false (held_at rows p)) (and_false (is_pending built_word p)))

pub plain_walked : (names : List Text) (rows : List Row) (p : Option (Text × List Text)) (r : Bool) (w : Text) → bytes_eq w (45 ∷ 45 ∷ []) ≡ false → long_of w ≡ None → short_of w ≡ None
    → walked (leaf_rules names) [] (walk_at rows p (resting r) false) w ≡ walk_at (settled_rows (leaf_rules names) p rows) (Some (codes "words", w ∷ [])) positional false
unfolding walked
plain_walked names rows p true w e1 e2 e3 = rw (e1, e2, e3) (ap (positional_walk names rows p w false) (and_false (is_pending built_word p)))
plain_walked names rows p false w e1 e2 e3 = rw (e1, e2, e3) (ap (positional_walk names rows p w false) (and_false (is_pending built_word p)))

pub ends_turn : (name : Text) (names : List Text) (rows : List Row) (p : Option (Text × List Text)) (wt : Waiting)
    → turn_fault (leaf name names) [] (walk_at rows p wt false) (45 ∷ 45 ∷ []) ≡ []
ends_turn name names rows p idle = refl
ends_turn name names rows p positional = refl
ends_turn name names rows p (option n) = refl

pub ends_walked : (names : List Text) (rows : List Row) (p : Option (Text × List Text)) (wt : Waiting)
    → walked (leaf_rules names) [] (walk_at rows p wt false) (45 ∷ 45 ∷ []) ≡ walk_at rows p wt true
unfolding walked
ends_walked names rows p idle = refl
ends_walked names rows p positional = refl
ends_walked names rows p (option n) = refl

pub first_char : (cs : Text) → is_empty cs ≡ false → (x : ℕ) × (slice_get cs 0 ≡ Some x)
first_char [] e = absurd (true≢false e)
first_char (c ∷ cs) e = (c, refl)

flags_turn : (name : Text) (names : List Text) (rows : List Row) (p : Option (Text × List Text)) (wt : Waiting) (w : Text) (f : ℕ) (fs : Text) (x : ℕ) → bytes_eq w (45 ∷ 45 ∷ []) ≡ false → long_of w ≡ None → short_of w ≡ Some (f ∷ fs)
    → slice_get (chars (f ∷ fs)) 0 ≡ Some x → arg_by_short (leaf_rules names) x ≡ None
    → fine (turn_fault (leaf name names) [] (walk_at rows p wt false) w) ≡ false
unfolding flags_fault
flags_turn name names rows p idle w f fs x e1 e2 e3 e4 e5 = rw (e1, e2, e3, e4, e5) refl
flags_turn name names rows p positional w f fs x e1 e2 e3 e4 e5 = rw (e1, e2, e3, e4, e5) refl
flags_turn name names rows p (option n) w f fs x e1 e2 e3 e4 e5 = rw (e1, e2, e3, e4, e5) refl

pub short_turn : (name : Text) (names : List Text) (rows : List Row) (p : Option (Text × List Text)) (wt : Waiting) (d : ℕ) (ds : Text) → (d == 45) ≡ false → is_odd (45 ∷ d ∷ ds) ≡ false
    → fine (turn_fault (leaf name names) [] (walk_at rows p wt false) (45 ∷ d ∷ ds)) ≡ false
short_turn name names rows p wt d ds i even =
    let some = first_char (chars (d ∷ ds)) (sym (ap (λ t. not t && is_empty (chars (d ∷ ds))) (no_option d ds i)) ∙ even) in
    flags_turn name names rows p wt (45 ∷ d ∷ ds) d ds some.0
    (ap (λ t. t && bytes_eq ds []) i)
    (ap (λ t. option_and_then long_of_rest (if t then Some ds else None)) i)
    (ap (λ t. if t then None else Some (d ∷ ds)) i) some.1 (no_short names some.0)

-- an option in one word, by the argument and the value that it names
abbrev pub long_after : List Text → Waiting → Text → Option Rule → Option Text → Held → Held × Step
long_after names wt word a v h = after_flag (leaf_rules names) wt word (long_met (leaf_rules names) a v h).0 (long_met (leaf_rules names) a v h).1

abbrev pub long_turn : Text → List Text → Waiting → Text → Option Rule → Option Text → Held → Kinds
long_turn name names wt word a v h = or_else (long_fault (leaf_rules names) false a v h) (step_fault (leaf name names) 1 (long_after names wt word a v h).0 (long_after names wt word a v h).1)

pub turn_long : (name : Text) (names : List Text) (rows : List Row) (p : Option (Text × List Text)) (wt : Waiting) (e : ℕ) (es : Text)
    → turn_fault (leaf name names) [] (walk_at rows p wt false) (45 ∷ 45 ∷ e ∷ es)
    ≡ long_turn name names wt (45 ∷ 45 ∷ e ∷ es) (arg_by_long (leaf_rules names) (name_and_value (e ∷ es)).0) (name_and_value (e ∷ es)).1 (held_at rows p)
turn_long name names rows p idle e es = refl
turn_long name names rows p positional e es = refl
turn_long name names rows p (option n) e es = refl

pub walked_long : (names : List Text) (rows : List Row) (p : Option (Text × List Text)) (wt : Waiting) (e : ℕ) (es : Text)
    → walked (leaf_rules names) [] (walk_at rows p wt false) (45 ∷ 45 ∷ e ∷ es)
    ≡ (let m = long_after names wt (45 ∷ 45 ∷ e ∷ es) (arg_by_long (leaf_rules names) (name_and_value (e ∷ es)).0) (name_and_value (e ∷ es)).1 (held_at rows p) in
    after_step (leaf_rules names) (45 ∷ 45 ∷ e ∷ es) (walk_at rows p wt false) m.0 m.1)
unfolding walked
walked_long names rows p idle e es = refl
walked_long names rows p positional e es = refl
walked_long names rows p (option n) e es = refl

-- a word that is the value of the option before it
pub value_turn : (name : Text) (names : List Text) (rows : List Row) (p : Option (Text × List Text)) (n w : Text) → bytes_eq w (45 ∷ 45 ∷ []) ≡ false → long_of w ≡ None → short_of w ≡ None
    → turn_fault (leaf name names) [] (walk_at rows p (option n) false) w ≡ []
value_turn name names rows p n w e1 e2 e3 = rw (e1, e2, e3) refl

abbrev with_pending : List Row → Text → Text → Option Rule → Walk
with_pending rows n v a =
    let m = option_word a n v (held_at rows (Some (n, []))) in
    record { held = m.0; waiting = m.1; position = 1; is_trailing = false; stopped = None }

waits_no_more : (rows : List Row) (n v : Text) → with_pending rows n v (Some (built_option n)) ≡ walk_at rows (Some (n, v ∷ [])) idle false
waits_no_more rows n v =
    ap (λ t. record { held = held_at rows (Some (n, v ∷ [])); waiting = if nat_lt (if t then 1 else 0) 1 then option n else idle; position = 1; is_trailing = false; stopped = None }) ((bytes_eq-Decides n n).1 refl)

pub value_walked : (names : List Text) (rows : List Row) (n w : Text) → bytes_eq w (45 ∷ 45 ∷ []) ≡ false → long_of w ≡ None → short_of w ≡ None → arg_by_id (leaf_rules names) n ≡ Some (built_option n)
    → walked (leaf_rules names) [] (walk_at rows (Some (n, [])) (option n) false) w ≡ walk_at rows (Some (n, w ∷ [])) idle false
unfolding walked
value_walked names rows n w e1 e2 e3 is = rw (e1, e2, e3) (ap (with_pending rows n w) is ∙ waits_no_more rows n w)

-- ## What is settled

pub use_fine : (n v : Text) (rows : List Row) → fine (use_fault false (built_option n) (v ∷ []) rows) ≡ not (has_row n rows)
use_fine n v rows = go (has_row n rows)
  where
    go : (b : Bool) → fine (or_else (if b && true then kind.ArgumentConflict ∷ [] else []) []) ≡ not b
    go true = refl
    go false = refl

pub settle_option : (names : List Text) (n v : Text) (rows : List Row) → arg_by_id (leaf_rules names) n ≡ Some (built_option n)
    → fine (settle_fault (leaf_rules names) false (held_at rows (Some (n, v ∷ [])))) ≡ not (has_row n rows)
settle_option names n v rows is = ap (λ o. fine (option_map_or (λ a. use_fault false a (v ∷ []) rows) o [])) is ∙ use_fine n v rows

pub settle_missing : (names : List Text) (n : Text) (rows : List Row) → arg_by_id (leaf_rules names) n ≡ Some (built_option n)
    → fine (settle_fault (leaf_rules names) false (held_at rows (Some (n, [])))) ≡ false
settle_missing names n rows is = ap (λ o. fine (option_map_or (λ a. use_fault false a [] rows) o [])) is

pub settled_option : (names : List Text) (n v : Text) (rows : List Row) → arg_by_id (leaf_rules names) n ≡ Some (built_option n)
    → settled_rows (leaf_rules names) (Some (n, v ∷ [])) rows ≡ add_option n v rows
settled_option names n v rows is = ap (λ o. used_by_id o (v ∷ []) rows) is

-- ## What is given

pub given_plain : (w : Text) (ws : List Text) → has_hyphen w ≡ false → given (w ∷ ws) ≡ option_map (with_word w) (given ws)
given_plain w ws h = rw h refl

pub value_plain : (n w : Text) (ws : List Text) → has_hyphen w ≡ false → given_on (Some n) (w ∷ ws) ≡ option_map (with_option n w) (given ws)
value_plain n w ws h = rw h refl

pub given_short : (d : ℕ) (ds : Text) (ws : List Text) → (d == 45) ≡ false → given ((45 ∷ d ∷ ds) ∷ ws) ≡ None
given_short d ds ws i = go (is_option (45 ∷ d ∷ ds)) (no_option d ds i)
  where
    go : (t : Bool) → t ≡ false → (if not t then None else (if bytes_eq (45 ∷ d ∷ ds) (codes "--") then Some (only_words ws)
        else (if list_any is_equals ds then option_map (with_option (before_first is_equals ds) (after_first is_equals ds)) (given_on None ws) else given_on (Some ds) ws))) ≡ None
    go true e = absurd (true≢false e)
    go false e = refl

pub judged_option : (names : List Text) (n v : Text) (g : Option Given) (rows : List Row)
    → judged names (option_map (with_option n v) g) rows ≡ (is_known names n && (not (has_row n rows) && judged names g (add_option n v rows)))
judged_option names n v None rows = sym (ap (λ t. is_known names n && t) (and_false (not (has_row n rows))) ∙ and_false (is_known names n))
judged_option names n v (Some g) rows = refl

pub judged_word : (names : List Text) (w : Text) (g : Option Given) (rows : List Row) → judged names (option_map (with_word w) g) rows ≡ judged names g rows
judged_word names w None rows = refl
judged_word names w (Some g) rows = refl

pub unknown_value : (names : List Text) (n : Text) (ws : List Text) (rows : List Row) → is_known names n ≡ false → judged names (given_on (Some n) ws) rows ≡ false
unknown_value names n [] rows e = refl
unknown_value names n (w ∷ ws) rows e = go (has_hyphen w)
  where
    go : (t : Bool) → judged names (if t then None else option_map (with_option n w) (given ws)) rows ≡ false
    go true = refl
    go false = judged_option names n w (given ws) rows ∙ ap (λ t. t && (not (has_row n rows) && judged names (given ws) (add_option n w rows))) e

-- ## What rows have

or_idem : (a b : Bool) → (a || b) ≡ (a || (a || b))
or_idem true b = refl
or_idem false b = refl

or_swap : (a b c : Bool) → (a || (b || c)) ≡ (b || (a || c))
or_swap true true c = refl
or_swap true false c = refl
or_swap false true c = refl
or_swap false false c = refl

pub has_with : (id j : Text) (how : Reading) (s : ValueSource) (vs : List Text) (rows : List Row) → has_row j (with_values id how s vs rows) ≡ (bytes_eq id j || has_row j rows)
has_with id j how s vs [] = refl
has_with id j how s vs (r ∷ rs) = go (bytes_eq r.id id) refl (has_with id j how s vs rs)
  where
    go : (t : Bool) → bytes_eq r.id id ≡ t → has_row j (with_values id how s vs rs) ≡ (bytes_eq id j || has_row j rs) → has_row j (if t then more_values s vs r ++ rs else r ∷ with_values id how s vs rs) ≡ (bytes_eq id j || (bytes_eq r.id j || has_row j rs))
    go true i later = ap (λ x. bytes_eq x j || has_row j rs) ((bytes_eq-Decides r.id id).0 i) ∙ or_idem (bytes_eq id j) (has_row j rs) ∙ ap (λ x. bytes_eq id j || (bytes_eq x j || has_row j rs)) (sym ((bytes_eq-Decides r.id id).0 i))
    go false i later = ap (λ t. bytes_eq r.id j || t) later ∙ or_swap (bytes_eq r.id j) (bytes_eq id j) (has_row j rs)

pub without_none : (id : Text) (rows : List Row) → has_row id rows ≡ false → without id rows ≡ rows
without_none id [] e = refl
without_none id (r ∷ rs) e = go (bytes_eq r.id id) refl (without_none id rs)
  where
    go : (t : Bool) → bytes_eq r.id id ≡ t → (has_row id rs ≡ false → without id rs ≡ rs) → (if t then [] ++ rs else r ∷ without id rs) ≡ r ∷ rs
    go true i later = absurd (true≢false (sym (ap (λ t. t || has_row id rs) i) ∙ e))
    go false i later = ap (λ t. r ∷ t) (later (sym (ap (λ t. t || has_row id rs) i) ∙ e))

pub has_option : (n j v : Text) (rows : List Row) → has_row n rows ≡ false → has_row j (add_option n v rows) ≡ (bytes_eq n j || has_row j rows)
has_option n j v rows e = has_with n j (reading_by (built_option n)) CommandLine (v ∷ []) (without n rows) ∙ ap (λ rs. bytes_eq n j || has_row j rs) (without_none n rows e)

pub has_word : (j v : Text) (rows : List Row) → has_row j (add_word v rows) ≡ (bytes_eq (codes "words") j || has_row j rows)
has_word j v rows = has_with (codes "words") j (reading_by built_word) CommandLine (v ∷ []) rows

-- what is judged depends on which options have rows
pub fits_same : (names : List Text) (os : List GivenOption) (a b : List Row) → ((j : Text) → is_known names j ≡ true → has_row j a ≡ has_row j b) → fits names os a ≡ fits names os b
fits_same names [] a b h = refl
fits_same names (o ∷ os) a b h = go (is_known names o.0) refl (has_row o.0 a) refl (fits_same names os (add_option o.0 o.1 a) (add_option o.0 o.1 b))
  where
    go : (k : Bool) → is_known names o.0 ≡ k → (t : Bool) → has_row o.0 a ≡ t
        → (((j : Text) → is_known names j ≡ true → has_row j (add_option o.0 o.1 a) ≡ has_row j (add_option o.0 o.1 b)) → fits names os (add_option o.0 o.1 a) ≡ fits names os (add_option o.0 o.1 b))
        → (k && (not t && fits names os (add_option o.0 o.1 a))) ≡ (k && (not (has_row o.0 b) && fits names os (add_option o.0 o.1 b)))
    go false ik t it later = refl
    go true ik true it later = sym (ap (λ x. not x && fits names os (add_option o.0 o.1 b)) (sym (h o.0 ik) ∙ it))
    go true ik false it later =
        later (λ j kj. has_option o.0 j o.1 a it ∙ ap (λ x. bytes_eq o.0 j || x) (h j kj) ∙ sym (has_option o.0 j o.1 b (sym (h o.0 ik) ∙ it)))
        ∙ sym (ap (λ x. not x && fits names os (add_option o.0 o.1 b)) (sym (h o.0 ik) ∙ it))

pub words_differ : (names : List Text) (j : Text) → is_known names (codes "words") ≡ false → is_known names j ≡ true → bytes_eq (codes "words") j ≡ false
words_differ names j other kj = go (bytes_eq (codes "words") j) refl
  where
    go : (t : Bool) → bytes_eq (codes "words") j ≡ t → t ≡ false
    go true i = absurd (true≢false (sym kj ∙ ap (is_known names) (sym ((bytes_eq-Decides (codes "words") j).0 i)) ∙ other))
    go false i = refl

pub judged_more : (names : List Text) (v : Text) (g : Option Given) (rows : List Row) → is_known names (codes "words") ≡ false → judged names g (add_word v rows) ≡ judged names g rows
judged_more names v None rows other = refl
judged_more names v (Some g) rows other = fits_same names g.options (add_word v rows) rows (λ j kj. has_word j v rows ∙ ap (λ t. t || has_row j rows) (words_differ names j other kj))

-- ## Words that begin with two hyphens

one_more : (n : ℕ) → 1 + n ≡ suc n
one_more n = omega arith

pub before_all : (cs : Text) → list_any is_equals cs ≡ false → before_first is_equals cs ≡ cs
before_all [] e = refl
before_all (c ∷ cs) e = go (is_equals c) refl (before_all cs)
  where
    go : (t : Bool) → is_equals c ≡ t → (list_any is_equals cs ≡ false → before_first is_equals cs ≡ cs) → before_first is_equals (c ∷ cs) ≡ c ∷ cs
    go true i later = let z = rw i at e in absurd (true≢false z)
    go false i later = let z = rw i at e in rw i (ap (λ k. take k (c ∷ cs)) (one_more (position_or_len is_equals cs)) ∙ ap (λ t. c ∷ t) (later z))

pub given_equals : (e : ℕ) (es : Text) (ws : List Text) → list_any is_equals (e ∷ es) ≡ true
    → given ((45 ∷ 45 ∷ e ∷ es) ∷ ws) ≡ option_map (with_option (before_first is_equals (e ∷ es)) (after_first is_equals (e ∷ es))) (given ws)
given_equals e es ws n = ap (λ t. if t then option_map (with_option (before_first is_equals (e ∷ es)) (after_first is_equals (e ∷ es))) (given_on None ws) else given_on (Some (e ∷ es)) ws) n

pub given_bare : (e : ℕ) (es : Text) (ws : List Text) → list_any is_equals (e ∷ es) ≡ false → given ((45 ∷ 45 ∷ e ∷ es) ∷ ws) ≡ given_on (Some (e ∷ es)) ws
given_bare e es ws n = ap (λ t. if t then option_map (with_option (before_first is_equals (e ∷ es)) (after_first is_equals (e ∷ es))) (given_on None ws) else given_on (Some (e ∷ es)) ws) n

pub value_there : (text : Text) (t : Bool) → list_any is_equals text ≡ t → (name_and_value text).1 ≡ (if t then Some (after_first is_equals text) else None)
value_there text t n = ap (λ u. if u then Some (after_first is_equals text) else None) n

pub odd_one : is_odd (45 ∷ []) ≡ true
odd_one = ap is_empty chars-nil

pub not_true : (b : Bool) → not b ≡ true → b ≡ false
not_true true e = absurd (true≢false (sym e))
not_true false e = refl

-- ## The whole walk

module _ (name : Text) (names : List Text) (other : is_known names (codes "words") ≡ false) where
  abbrev F : Walk → List Text → Bool
  F w ws = fine (fault_from name names w ws)

  abbrev S : List Row → Option (Text × List Text) → Bool
  S rows p = fine (settle_fault (leaf_rules names) false (held_at rows p))

  abbrev T : List Row → Option (Text × List Text) → List Row
  T rows p = settled_rows (leaf_rules names) p rows

  step : (w next : Walk) (v : Text) (vs : List Text) (k : Kinds) → turn_fault (leaf name names) [] w v ≡ k → walked (leaf_rules names) [] w v ≡ next → F w (v ∷ vs) ≡ (fine k && F next vs)
  step w next v vs k a b = fault_step name names w v vs ∙ ap (λ x. fine x && F (walked (leaf_rules names) [] w v) vs) a ∙ ap (λ x. fine k && F x vs) b

  refused : (w : Walk) (v : Text) (vs : List Text) → fine (turn_fault (leaf name names) [] w v) ≡ false → F w (v ∷ vs) ≡ false
  refused w v vs a = fault_step name names w v vs ∙ ap (λ t. t && F (walked (leaf_rules names) [] w v) vs) a

  pub trailing : (ws : List Text) (rows : List Row) (p : Option (Text × List Text)) (wt : Waiting) → F (walk_at rows p wt true) ws ≡ S rows p
  trailing [] rows p wt = ap fine (fault_end name names (walk_at rows p wt true))
  trailing (v ∷ vs) rows p wt =
      step (walk_at rows p wt true) (walk_at (T rows p) (Some (codes "words", v ∷ [])) positional true) v vs (settle_fault (leaf_rules names) false (held_at rows p)) (trailing_turn name names rows p wt v) (trailing_walked names rows p wt v)
      ∙ ap (λ t. S rows p && t) (trailing vs (T rows p) (Some (codes "words", v ∷ [])) positional)
      ∙ and_true (S rows p)

  -- what the walk makes of the words, where nothing waits for a value and where an option does
  pub record Both (ws : List Text) : Type 0 where
    pub resting : (rows : List Row) (p : Option (Text × List Text)) (r : Bool) → F (walk_at rows p (resting r) false) ws ≡ (S rows p && judged names (given ws) (T rows p))
    pub waiting : (rows : List Row) (n : Text) → is_known names n ≡ true → F (walk_at rows (Some (n, [])) (option n) false) ws ≡ judged names (given_on (Some n) ws) rows

  both_end : Both []
  both_end = record {
    resting = λ rows p r. ap fine (fault_end name names (walk_at rows p (resting r) false)) ∙ sym (and_true (S rows p));
    waiting = λ rows n k. ap fine (fault_end name names (walk_at rows (Some (n, [])) (option n) false)) ∙ settle_missing names n rows (by_id names n other k);
  }

  both_plain : (w : Text) → IsPlainWord w → (ws : List Text) → Both ws → Both (w ∷ ws)
  both_plain w is ws b = record {
    resting = λ rows p r.
        step (walk_at rows p (resting r) false) (walk_at (T rows p) (Some (codes "words", w ∷ [])) positional false) w ws (settle_fault (leaf_rules names) false (held_at rows p))
        (plain_turn name names rows p r w is.ends is.long is.short) (plain_walked names rows p r w is.ends is.long is.short)
        ∙ ap (λ t. S rows p && t) (b.resting (T rows p) (Some (codes "words", w ∷ [])) false)
        ∙ ap (λ t. S rows p && t) (judged_more names w (given ws) (T rows p) other ∙ sym (judged_word names w (given ws) (T rows p)) ∙ ap (λ g. judged names g (T rows p)) (sym (given_plain w ws is.hyphen)));
    waiting = λ rows n k.
        let found = by_id names n other k in
        step (walk_at rows (Some (n, [])) (option n) false) (walk_at rows (Some (n, w ∷ [])) idle false) w ws [] (value_turn name names rows (Some (n, [])) n w is.ends is.long is.short) (value_walked names rows n w is.ends is.long is.short found)
        ∙ b.resting rows (Some (n, w ∷ [])) true
        ∙ ap (λ t. t && judged names (given ws) (T rows (Some (n, w ∷ [])))) (settle_option names n w rows found)
        ∙ ap (λ rs. not (has_row n rows) && judged names (given ws) rs) (settled_option names n w rows found)
        ∙ sym (judged_option names n w (given ws) rows ∙ ap (λ t. t && (not (has_row n rows) && judged names (given ws) (add_option n w rows))) k)
        ∙ ap (λ g. judged names g rows) (sym (value_plain n w ws is.hyphen));
  }

  both_short : (d : ℕ) (ds : Text) → (d == 45) ≡ false → is_odd (45 ∷ d ∷ ds) ≡ false → (ws : List Text) → Both ((45 ∷ d ∷ ds) ∷ ws)
  both_short d ds i even ws = record {
    resting = λ rows p r. refused (walk_at rows p (resting r) false) (45 ∷ d ∷ ds) ws (short_turn name names rows p (resting r) d ds i even)
        ∙ sym (ap (λ g. S rows p && judged names g (T rows p)) (given_short d ds ws i) ∙ and_false (S rows p));
    waiting = λ rows n k. refused (walk_at rows (Some (n, [])) (option n) false) (45 ∷ d ∷ ds) ws (short_turn name names rows (Some (n, [])) (option n) d ds i even);
  }

  both_ends : (ws : List Text) → Both ((45 ∷ 45 ∷ []) ∷ ws)
  both_ends ws = record {
    resting = λ rows p r. step (walk_at rows p (resting r) false) (walk_at rows p (resting r) true) (45 ∷ 45 ∷ []) ws [] (ends_turn name names rows p (resting r)) (ends_walked names rows p (resting r))
        ∙ trailing ws rows p (resting r) ∙ sym (and_true (S rows p));
    waiting = λ rows n k. step (walk_at rows (Some (n, [])) (option n) false) (walk_at rows (Some (n, [])) (option n) true) (45 ∷ 45 ∷ []) ws [] (ends_turn name names rows (Some (n, [])) (option n)) (ends_walked names rows (Some (n, [])) (option n))
        ∙ trailing ws rows (Some (n, [])) (option n) ∙ settle_missing names n rows (by_id names n other k);
  }

  module _ (e : ℕ) (es : Text) (ws : List Text) (b : Both ws) (rows : List Row) (p : Option (Text × List Text)) (wt : Waiting) where
    abbrev word : Text
    word = 45 ∷ 45 ∷ e ∷ es

    abbrev N : Text
    N = before_first is_equals (e ∷ es)

    abbrev rest : Option Rule → Option Text → Bool
    rest a v = fine (long_turn name names wt word a v (held_at rows p))
        && F (after_step (leaf_rules names) word (walk_at rows p wt false) (long_after names wt word a v (held_at rows p)).0 (long_after names wt word a v (held_at rows p)).1) ws

    is_rest : F (walk_at rows p wt false) (word ∷ ws) ≡ rest (arg_by_long (leaf_rules names) N) (name_and_value (e ∷ es)).1
    is_rest = step (walk_at rows p wt false) _ word ws _ (turn_long name names rows p wt e es) (walked_long names rows p wt e es)

    fine_value : (n v : Text) → fine (long_turn name names wt word (Some (built_option n)) (Some v) (held_at rows p)) ≡ (S rows p && not (has_row n (T rows p)))
    fine_value n v =
        let s = settle_fault (leaf_rules names) false (held_at rows p) in
        let u = use_fault false (built_option n) (v ∷ []) (T rows p) in
        fine-or_else (or_else s u) [] ∙ and_true (fine (or_else s u)) ∙ fine-or_else s u ∙ ap (λ t. fine s && t) (use_fine n v (T rows p))

    has_value : (n v : Text) → rest (Some (built_option n)) (Some v) ≡ (S rows p && (not (has_row n (T rows p)) && judged names (given ws) (add_option n v (T rows p))))
    has_value n v =
        ap (λ t. t && F (walk_at (add_option n v (T rows p)) None idle false) ws) (fine_value n v)
        ∙ ap (λ t. (S rows p && not (has_row n (T rows p))) && t) (b.resting (add_option n v (T rows p)) None true)
        ∙ and_assoc (S rows p) (not (has_row n (T rows p))) (judged names (given ws) (add_option n v (T rows p)))

    no_value : (n : Text) → is_known names n ≡ true → rest (Some (built_option n)) None ≡ (S rows p && judged names (given_on (Some n) ws) (T rows p))
    no_value n k =
        let s = settle_fault (leaf_rules names) false (held_at rows p) in
        ap (λ t. t && F (walk_at (T rows p) (Some (n, [])) (option n) false) ws) (fine-or_else s [] ∙ and_true (fine s))
        ∙ ap (λ t. S rows p && t) (b.waiting (T rows p) n k)

    with_value : (n v : Text) (k : Bool) → is_known names n ≡ k → rest (arg_by_long (leaf_rules names) n) (Some v) ≡ (S rows p && judged names (option_map (with_option n v) (given ws)) (T rows p))
    with_value n v true k =
        ap (λ a. rest a (Some v)) (long_known names n k) ∙ has_value n v
        ∙ ap (λ t. S rows p && t) (sym (judged_option names n v (given ws) (T rows p) ∙ ap (λ t. t && (not (has_row n (T rows p)) && judged names (given ws) (add_option n v (T rows p)))) k))
    with_value n v false k =
        ap (λ a. rest a (Some v)) (long_unknown names n k)
        ∙ sym (ap (λ t. S rows p && t) (judged_option names n v (given ws) (T rows p) ∙ ap (λ t. t && (not (has_row n (T rows p)) && judged names (given ws) (add_option n v (T rows p)))) k) ∙ and_false (S rows p))

    without_value : (n : Text) (k : Bool) → is_known names n ≡ k → rest (arg_by_long (leaf_rules names) n) None ≡ (S rows p && judged names (given_on (Some n) ws) (T rows p))
    without_value n true k = ap (λ a. rest a None) (long_known names n k) ∙ no_value n k
    without_value n false k = ap (λ a. rest a None) (long_unknown names n k) ∙ sym (ap (λ t. S rows p && t) (unknown_value names n ws (T rows p) k) ∙ and_false (S rows p))

    either : (t : Bool) → list_any is_equals (e ∷ es) ≡ t → F (walk_at rows p wt false) (word ∷ ws) ≡ (S rows p && judged names (given (word ∷ ws)) (T rows p))
    either true n =
        is_rest ∙ ap (λ v. rest (arg_by_long (leaf_rules names) N) v) (value_there (e ∷ es) true n) ∙ with_value N (after_first is_equals (e ∷ es)) (is_known names N) refl
        ∙ ap (λ g. S rows p && judged names g (T rows p)) (sym (given_equals e es ws n))
    either false n =
        is_rest ∙ ap (λ v. rest (arg_by_long (leaf_rules names) N) v) (value_there (e ∷ es) false n) ∙ without_value N (is_known names N) refl
        ∙ ap (λ g. S rows p && judged names g (T rows p)) (ap (λ m. given_on (Some m) ws) (before_all (e ∷ es) n) ∙ sym (given_bare e es ws n))

  both_long : (e : ℕ) (es : Text) (ws : List Text) → Both ws → Both ((45 ∷ 45 ∷ e ∷ es) ∷ ws)
  both_long e es ws b = record {
    resting = λ rows p r. either e es ws b rows p (resting r) (list_any is_equals (e ∷ es)) refl;
    waiting = λ rows n k. either e es ws b rows (Some (n, [])) (option n) (list_any is_equals (e ∷ es)) refl
        ∙ ap (λ t. t && judged names (given ((45 ∷ 45 ∷ e ∷ es) ∷ ws)) (T rows (Some (n, [])))) (settle_missing names n rows (by_id names n other k));
  }

  pub walks : (ws : List Text) → has_no_odd ws ≡ true → Both ws
  walks [] even = both_end
  walks (w ∷ ws) even =
      let parts = both (not (is_odd w)) (has_no_odd ws) even in
      word_cases (λ x. is_odd x ≡ false → Both ws → Both (x ∷ ws))
      (λ i b. both_plain [] empty_is_plain ws b)
      (λ c cs i j b. both_plain (c ∷ cs) (other_is_plain c cs i) ws b)
      (λ i b. absurd (true≢false (sym odd_one ∙ i)))
      (λ d ds i even b. both_short d ds i even ws)
      (λ i b. both_ends ws)
      (λ e es i b. both_long e es ws b)
      w (not_true (is_odd w) parts.0) (walks ws parts.1)
