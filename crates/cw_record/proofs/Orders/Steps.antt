-- Steps that are compared by their parts.
use Rattle.std.proofs.Common.{◌≡◌, ℕ, refl, ap, sym, ◌∙◌, Bool, true, false, rules, tests}
use Rattle.std.specs.Ordering.{is_eq, nat_cmp, bool_cmp, ordering_then}
use Rattle.std.proofs.lemmas.Bool.{and_parts, and_from}
use Rattle.std.specs.Cmp.{tied_then}
use Rattle.cw_record.specs.Walked.{NameStep, step_cmp}

side_same : (a b : Bool) → is_eq (bool_cmp a b) ≡ true → a ≡ b
side_same true true e = refl
side_same true false e = absurd (cc e)
side_same false true e = absurd (cc e)
side_same false false e = refl

side_self : (a : Bool) → is_eq (bool_cmp a a) ≡ true
side_self true = refl
side_self false = refl

number_same : (a b : ℕ) → is_eq (nat_cmp a b) ≡ true → a ≡ b
number_same a b e = search (rules, tests)

number_self : (a : ℕ) → is_eq (nat_cmp a a) ≡ true
number_self a = search (rules, tests)

pub step_same : (a b : NameStep) → is_eq (step_cmp a b) ≡ true → a ≡ b
step_same a b e =
    let y = and_parts (is_eq (ordering_then (nat_cmp a.0 b.0) (nat_cmp a.1 b.1))) (is_eq (bool_cmp a.2 b.2)) (tied_then (ordering_then (nat_cmp a.0 b.0) (nat_cmp a.1 b.1)) (bool_cmp a.2 b.2) ∙ e) in
    let z = and_parts (is_eq (nat_cmp a.0 b.0)) (is_eq (nat_cmp a.1 b.1)) (tied_then (nat_cmp a.0 b.0) (nat_cmp a.1 b.1) ∙ y.0) in
    ap (λ x. let s : NameStep = (x, a.1, a.2) in s) (number_same a.0 b.0 z.0)
    ∙ ap (λ x. let s : NameStep = (b.0, x, a.2) in s) (number_same a.1 b.1 z.1)
    ∙ ap (λ x. let s : NameStep = (b.0, b.1, x) in s) (side_same a.2 b.2 y.1)

pub step_self : (a : NameStep) → is_eq (step_cmp a a) ≡ true
step_self a =
    sym (tied_then (ordering_then (nat_cmp a.0 a.0) (nat_cmp a.1 a.1)) (bool_cmp a.2 a.2))
    ∙ and_from (is_eq (ordering_then (nat_cmp a.0 a.0) (nat_cmp a.1 a.1))) (is_eq (bool_cmp a.2 a.2))
    (sym (tied_then (nat_cmp a.0 a.0) (nat_cmp a.1 a.1)) ∙ and_from (is_eq (nat_cmp a.0 a.0)) (is_eq (nat_cmp a.1 a.1)) (number_self a.0) (number_self a.1))
    (side_self a.2)
