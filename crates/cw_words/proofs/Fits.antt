-- Options that fit are known, and none of them is given twice.
use Rattle.std.proofs.Common.{◌≡◌, ◌∙◌, ◌&&◌, ◌||◌, ◌+◌, ◌<◌, ℕ, Bool, true, false, true≢false, zero, suc, List, [], ◌∷◌, ◌++◌, map, length, take, Some, not, is_some, refl, sym, ap, arith, subst, get_or}
use Rattle.std.specs.Prelude.{if◌then◌else◌, slice_get}
use Rattle.std.proofs.Common.{inl, inr, ◌⊎◌}
use Rattle.std.specs.Borrow.{Bor}
use Rattle.std.specs.Str.{bytes_eq}
use Rattle.std.proofs.lemmas.List.{map-append}
use Rattle.std.proofs.lemmas.Slice.Eq.{bytes_eq-Decides}
use Rattle.clap.proofs.WalkLemmas.{both}
use Rattle.clap.specs.Words.{Row, Rule, Text, with_rule}
use Rattle.clap.specs.Simple.{new_shape}
use Rattle.clap.specs.Walk.{has_row}
use Rattle.cw_words.specs.Options.{GivenOption, are_known, one_of, values_of}
use Rattle.std.proofs.Common.{Result, Ok, Err, IfErr}
use Rattle.clap.specs.declared.error.Error.{Error}
use Rattle.clap.specs.declared.error.kind.ErrorKind.TheVariants as kind
use Rattle.clap.specs.Words.{FailsBy, Kinds, kind_of}
use Rattle.cw_words.specs.Shapes.{fine}
use Rattle.cw_words.specs.Shapes.{add_option, fits, is_known, leaf_app, option_rule, word_rule}
use Rattle.cw_words.proofs.Walks.{has_option, not_true}

pub leaf_more : (name : Text) (names : List Text) (n : Text) → with_rule (leaf_app name names) (option_rule n) ≡ leaf_app name (names ++ n ∷ [])
leaf_more name names n = ap (λ (rs : List Rule). record { top = record (new_shape name) { rules = word_rule ∷ rs }; subs = [] }) (sym (map-append option_rule names (n ∷ [])))

take_suc : (xs : List (Bor Text)) (i : ℕ) (d : Bor Text) → i < length xs → map (λ x. x.now) (take (suc i) xs) ≡ map (λ x. x.now) (take i xs) ++ (get_or xs i d).now ∷ []
take_suc [] i d lt = absurd (omega arith)
take_suc (x ∷ xs) zero d lt = refl
take_suc (x ∷ xs) (suc i) d lt = ap (λ rest. x.now ∷ rest) (take_suc xs i d (omega arith))

pub take_next : (xs : List (Bor Text)) (i : ℕ) (d : Bor Text) → i < length xs → map (λ x. x.now) (take (i + 1) xs) ≡ map (λ x. x.now) (take i xs) ++ (get_or xs i d).now ∷ []
take_next xs i d lt =
    let one : i + 1 ≡ suc i = omega arith in
    ap (λ k. map (λ x. x.now) (take k xs)) one ∙ take_suc xs i d lt

pub fits_known : (names : List Text) (os : List GivenOption) (rows : List Row) → fits names os rows ≡ true → are_known names os ≡ true
fits_known names [] rows e = refl
fits_known names (o ∷ os) rows e =
    let a = both (is_known names o.0) (not (has_row o.0 rows) && fits names os (add_option o.0 o.1 rows)) e in
    let b = both (not (has_row o.0 rows)) (fits names os (add_option o.0 o.1 rows)) a.1 in
    ap (λ t. t && are_known names os) a.0 ∙ fits_known names os (add_option o.0 o.1 rows) b.1

cases : (t : Bool) → (t ≡ true) ⊎ (t ≡ false)
cases true = inl refl
cases false = inr refl

pub or_right : (a b : Bool) → b ≡ true → (a || b) ≡ true
or_right true b e = refl
or_right false b e = e

-- an option that has a row is not given
pub fits_none : (names : List Text) (j : Text) (os : List GivenOption) (rows : List Row) → fits names os rows ≡ true → has_row j rows ≡ true → values_of j os ≡ []
fits_none names j [] rows e h = refl
fits_none names j (o ∷ os) rows e h =
    let a = both (is_known names o.0) (not (has_row o.0 rows) && fits names os (add_option o.0 o.1 rows)) e in
    let b = both (not (has_row o.0 rows)) (fits names os (add_option o.0 o.1 rows)) a.1 in
    let free = not_true (has_row o.0 rows) b.0 in
    go (bytes_eq o.0 j) refl free (fits_none names j os (add_option o.0 o.1 rows) b.1 (has_option o.0 j o.1 rows free ∙ or_right (bytes_eq o.0 j) (has_row j rows) h))
  where
    go : (t : Bool) → bytes_eq o.0 j ≡ t → has_row o.0 rows ≡ false → values_of j os ≡ [] → (if t then o.1 ∷ values_of j os else values_of j os) ≡ []
    go true i free later = absurd (true≢false (sym h ∙ ap (λ x. has_row x rows) (sym ((bytes_eq-Decides o.0 j).0 i)) ∙ free))
    go false i free later = later

-- no option is given twice
pub fits_one : (names : List Text) (j : Text) (os : List GivenOption) (rows : List Row) → fits names os rows ≡ true → one_of (values_of j os) ≡ Some (slice_get (values_of j os) 0)
fits_one names j [] rows e = refl
fits_one names j (o ∷ os) rows e =
    let a = both (is_known names o.0) (not (has_row o.0 rows) && fits names os (add_option o.0 o.1 rows)) e in
    let b = both (not (has_row o.0 rows)) (fits names os (add_option o.0 o.1 rows)) a.1 in
    let free = not_true (has_row o.0 rows) b.0 in
    go (bytes_eq o.0 j) refl
    (λ i. fits_none names j os (add_option o.0 o.1 rows) b.1 (has_option o.0 j o.1 rows free ∙ ap (λ t. t || has_row j rows) i))
    (fits_one names j os (add_option o.0 o.1 rows) b.1)
  where
    go : (t : Bool) → bytes_eq o.0 j ≡ t → (bytes_eq o.0 j ≡ true → values_of j os ≡ []) → one_of (values_of j os) ≡ Some (slice_get (values_of j os) 0)
        → one_of (if t then o.1 ∷ values_of j os else values_of j os) ≡ Some (slice_get (if t then o.1 ∷ values_of j os else values_of j os) 0)
    go true i none later = ap (λ vs. one_of (o.1 ∷ vs)) (none i)
    go false i none later = later

-- Options that are known fit if none of them is given twice.
pub one_fits : (names : List Text) (os : List GivenOption) (rows : List Row) → are_known names os ≡ true
    → ((j : Text) → is_known names j ≡ true → is_some (one_of (values_of j os)) ≡ true) → ((j : Text) → has_row j rows ≡ true → values_of j os ≡ []) → fits names os rows ≡ true
one_fits names [] rows k one none = refl
one_fits names (o ∷ os) rows k one none =
    let a = both (is_known names o.0) (are_known names os) k in
    let free = taken (has_row o.0 rows) refl in
    ap (λ t. t && (not (has_row o.0 rows) && fits names os (add_option o.0 o.1 rows))) a.0
    ∙ ap (λ t. not t && fits names os (add_option o.0 o.1 rows)) free
    ∙ one_fits names os (add_option o.0 o.1 rows) a.1
    (λ j kj. fewer j (bytes_eq o.0 j) (one j kj))
    (λ j h. elim (cases (bytes_eq o.0 j)) [
      | inl i ↦ alone (values_of j os) o.1 (subst (λ t. is_some (one_of (if t then o.1 ∷ values_of j os else values_of j os)) ≡ true) i (one j (subst (λ x. is_known names x ≡ true) ((bytes_eq-Decides o.0 j).0 i) a.0)))
      | inr i ↦ ap (λ t. if t then o.1 ∷ values_of j os else values_of j os) (sym i) ∙ none j (sym (ap (λ t. t || has_row j rows) i) ∙ sym (has_option o.0 j o.1 rows free) ∙ h)
    ])
  where
    cons≢nil : (x : Text) (xs : List Text) → (x ∷ xs) ≡ [] → ⊥
    cons≢nil x xs e = true≢false (ap (λ ys. elim ys [ [] ↦ false | ◌∷◌ y zs ↦ true ]) e)

    taken : (t : Bool) → has_row o.0 rows ≡ t → t ≡ false
    taken true h = absurd (cons≢nil o.1 (values_of o.0 os) (sym (ap (λ t. if t then o.1 ∷ values_of o.0 os else values_of o.0 os) ((bytes_eq-Decides o.0 o.0).1 refl)) ∙ none o.0 h))
    taken false h = refl

    alone : (vs : List Text) (v : Text) → is_some (one_of (v ∷ vs)) ≡ true → vs ≡ []
    alone [] v e = refl
    alone (x ∷ xs) v e = absurd (true≢false (sym e))

    fewer : (j : Text) (t : Bool) → is_some (one_of (if t then o.1 ∷ values_of j os else values_of j os)) ≡ true → is_some (one_of (values_of j os)) ≡ true
    fewer j true e = ap (λ vs. is_some (one_of vs)) (alone (values_of j os) o.1 e)
    fewer j false e = e

pub fails_err : {T : Type 0} (r : Result T Error) (k : Kinds) → FailsBy k r → IfErr r (λ e. (kind_of e ≡ kind.OutOfMemory) ⊎ (fine k ≡ false))
fails_err (Ok x) k h = tt
fails_err (Err e) [] h = elim h [
  | inl a ↦ inl a
  | inr b ↦ absurd b
]
fails_err (Err e) (x ∷ xs) h = elim h [
  | inl a ↦ inl a
  | inr b ↦ inr refl
]
