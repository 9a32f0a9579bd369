-- Lists of names in which each goes on from an earlier one.
use Rattle.std.proofs.Common.{◌≡◌, ℕ, zero, suc, ◌+◌, ◌<◌, List, [], ◌∷◌, ◌++◌, length, refl, ap, sym, ◌∙◌, arith, Bool, true, false, cond, Some, inl, inr, subst, append_assoc, append-nil, length-append}
use Rattle.std.specs.Prelude.{◌⊎◌, slice_get}
use Rattle.std.specs.List.{list_any}
use Rattle.std.proofs.lemmas.Bool.{or_cases, or_left, or_right}
use Rattle.std.proofs.lemmas.List.Folds.{list_any-append}
use Rattle.cw_tree.specs.declared.picks.Turn.{Turn}
use Rattle.cw_serial.specs.Machine.{same_name}
use Rattle.cw_serial.proofs.Turns.{name_true, name_itself}
use Rattle.cw_record.specs.Listed.{once, index_of, without_last, last_turn}

-- ## Names that stand in a list

abbrev pub IsIn : List Turn → List (List Turn) → Type 0
IsIn p ps = list_any (same_name p) ps ≡ true

pub is_in_head : (p : List Turn) (ps : List (List Turn)) → IsIn p (p ∷ ps)
is_in_head p ps = or_left (same_name p p) (list_any (same_name p) ps) (name_itself p)

pub is_in_tail : (p q : List Turn) (ps : List (List Turn)) → IsIn p ps → IsIn p (q ∷ ps)
is_in_tail p q ps h = or_right (same_name p q) (list_any (same_name p) ps) h

-- the head, or a name in the tail
is_in_cases : (p q : List Turn) (ps : List (List Turn)) → IsIn p (q ∷ ps) → (p ≡ q) ⊎ IsIn p ps
is_in_cases p q ps h = elim (or_cases (same_name p q) (list_any (same_name p) ps) h) [ inl e ↦ inl (name_true p q e) | inr g ↦ inr g ]

is_in_same : (p q : List Turn) (ps : List (List Turn)) → p ≡ q → IsIn q ps → IsIn p ps
is_in_same p q ps e h = (let P : List Turn → Type 0 = λ x. IsIn x ps in subst P (sym e) h)

-- one list has all names of another
abbrev Covers : (few many : List (List Turn)) → Type 0
Covers few many = (p : List Turn) → IsIn p few → IsIn p many

covers_more : (few many : List (List Turn)) (q : List Turn) → Covers few many → Covers (q ∷ few) (q ∷ many)
covers_more few many q c p h = elim (is_in_cases p q few h) [ inl e ↦ is_in_same p q (q ∷ many) e (is_in_head q many) | inr g ↦ is_in_tail p q many (c p g) ]

covers_known : (ps : List (List Turn)) (q : List Turn) → IsIn q ps → Covers (q ∷ ps) ps
covers_known ps q known p h = elim (is_in_cases p q ps h) [ inl e ↦ is_in_same p q ps e known | inr g ↦ g ]

covers_push : (few many : List (List Turn)) (q : List Turn) → Covers few many → Covers (q ∷ few) (many ++ q ∷ [])
covers_push few many q c p h =
    list_any-append (same_name p) many (q ∷ [])
    ∙ elim (is_in_cases p q few h) [
      | inl e ↦ or_right (list_any (same_name p) many) (list_any (same_name p) (q ∷ [])) (is_in_same p q (q ∷ []) e (is_in_head q []))
      | inr g ↦ or_left (list_any (same_name p) many) (list_any (same_name p) (q ∷ [])) (c p g)
    ]

-- ## Names after names

-- what holds of each name of a list and those before it, the last one first
abbrev pub EachAfter : (List (List Turn) → List Turn → Type 0) → (seen ps : List (List Turn)) → Type 0
EachAfter P seen [] = Unit {0}
EachAfter P seen (p ∷ ps) = P seen p × EachAfter P (p ∷ seen) ps

-- a name is one turn more than one that was seen
abbrev pub GoesOn : (seen : List (List Turn)) → List Turn → Type 0
GoesOn seen p = IsIn (without_last p) seen × (p ≡ without_last p ++ last_turn p ∷ [])

-- or it is the root's
abbrev pub IsReached : (seen : List (List Turn)) → List Turn → Type 0
IsReached seen p = (p ≡ []) ⊎ GoesOn seen p

reached_more : (few many : List (List Turn)) (p : List Turn) → Covers few many → IsReached few p → IsReached many p
reached_more few many p c (inl e) = inl e
reached_more few many p c (inr h) = inr (c (without_last p) h.0, h.1)

each_more : (ps few many : List (List Turn)) → Covers few many → EachAfter IsReached few ps → EachAfter IsReached many ps
each_more [] few many c h = tt
each_more (p ∷ ps) few many c h = (reached_more few many p c h.0, each_more ps (p ∷ few) (p ∷ many) (covers_more few many p c) h.1)

pub each_append : (ps qs seen : List (List Turn)) → EachAfter IsReached seen ps → EachAfter IsReached seen qs → EachAfter IsReached seen (ps ++ qs)
each_append [] qs seen h g = g
each_append (p ∷ ps) qs seen h g = (h.0, each_append ps qs (p ∷ seen) h.1 (each_more qs seen (p ∷ seen) (λ x i. is_in_tail x p seen i) g))

-- ## Each name once

each_once_step : (b : Bool) (p : List Turn) (seen ps : List (List Turn)) → list_any (same_name p) seen ≡ b → IsIn [] seen → IsReached seen p → (IsIn p seen → EachAfter GoesOn seen (once seen ps))
    → EachAfter GoesOn (p ∷ seen) (once (p ∷ seen) ps) → EachAfter GoesOn seen (cond b (once seen ps) (p ∷ once (p ∷ seen) ps))
each_once_step true p seen ps e root h old new = old e
each_once_step false p seen ps e root (inl none) old new = absurd (cc (e, is_in_same p [] seen none root))
each_once_step false p seen ps e root (inr h) old new = (h, new)

-- after the root's name each goes on from one before it
pub each_once : (ps seen : List (List Turn)) → IsIn [] seen → EachAfter IsReached seen ps → EachAfter GoesOn seen (once seen ps)
each_once [] seen root h = tt
each_once (p ∷ ps) seen root h =
    each_once_step (list_any (same_name p) seen) p seen ps refl root h.0 (λ known. each_once ps seen root (each_more ps (p ∷ seen) seen (covers_known seen p known) h.1))
    (each_once ps (p ∷ seen) (is_in_tail [] p seen root) h.1)

once_has_step : (b : Bool) (p q : List Turn) (seen ps : List (List Turn)) → list_any (same_name q) seen ≡ b → (p ≡ q) ⊎ IsIn p ps → (IsIn p ps → IsIn p seen ⊎ IsIn p (once seen ps)) → (IsIn p ps → IsIn p (q ∷ seen) ⊎ IsIn p (once (q ∷ seen) ps))
    → IsIn p seen ⊎ IsIn p (cond b (once seen ps) (q ∷ once (q ∷ seen) ps))
once_has_step true p q seen ps e (inl same) old new = inl (is_in_same p q seen same e)
once_has_step true p q seen ps e (inr h) old new = old h
once_has_step false p q seen ps e (inl same) old new = inr (is_in_same p q (q ∷ once (q ∷ seen) ps) same (is_in_head q (once (q ∷ seen) ps)))
once_has_step false p q seen ps e (inr h) old new =
    elim (new h) [
      | inl g ↦ elim (is_in_cases p q seen g) [ inl same ↦ inr (is_in_same p q (q ∷ once (q ∷ seen) ps) same (is_in_head q (once (q ∷ seen) ps))) | inr i ↦ inl i ]
      | inr i ↦ inr (is_in_tail p q (once (q ∷ seen) ps) i)
    ]

once_has : (ps seen : List (List Turn)) (p : List Turn) → IsIn p ps → IsIn p seen ⊎ IsIn p (once seen ps)
once_has [] seen p h = absurd (cc h)
once_has (q ∷ ps) seen p h = once_has_step (list_any (same_name q) seen) p q seen ps refl (is_in_cases p q ps h) (once_has ps seen p) (once_has ps (q ∷ seen) p)

-- no name is lost
pub is_in_once : (ps : List (List Turn)) (p : List Turn) → IsIn p ps → IsIn p (once [] ps)
is_in_once ps p h = elim (once_has ps [] p h) [ inl none ↦ absurd (cc none) | inr i ↦ i ]

-- ## Their numbers

found_step : (b : Bool) (p q : List Turn) (ps : List (List Turn)) (k : ℕ) → same_name q p ≡ b → (p ≡ q) ⊎ ((index_of ps p < k) × (slice_get ps (index_of ps p) ≡ Some p))
    → (cond b 0 (suc (index_of ps p)) < suc k) × (slice_get (q ∷ ps) (cond b 0 (suc (index_of ps p))) ≡ Some p)
found_step true p q ps k e h = (omega arith, ap Some (name_true q p e))
found_step false p q ps k e (inl same) = absurd (cc (e, (let P : List Turn → Type 0 = λ x. same_name q x ≡ true in subst P (sym same) (name_itself q))))
found_step false p q ps k e (inr h) = (omega (arith, h.0), h.1)

found_early : (ps qs : List (List Turn)) (p : List Turn) → IsIn p ps → (index_of (ps ++ qs) p < length ps) × (slice_get (ps ++ qs) (index_of (ps ++ qs) p) ≡ Some p)
found_early [] qs p h = absurd (cc h)
found_early (q ∷ ps) qs p h =
    found_step (same_name q p) p q (ps ++ qs) (length ps) refl (elim (is_in_cases p q ps h) [ inl e ↦ inl e | inr g ↦ inr (found_early ps qs p g) ])

-- a name is found at its number
pub is_found : (ps : List (List Turn)) (p : List Turn) → IsIn p ps → (index_of ps p < length ps) × (slice_get ps (index_of ps p) ≡ Some p)
is_found ps p h = (let P : List (List Turn) → Type 0 = λ qs. (index_of qs p < length ps) × (slice_get qs (index_of qs p) ≡ Some p) in subst P (append-nil ps) (found_early ps [] p h))

-- name p at place n goes on from one that is found before it
pub record Follows (ps : List (List Turn)) (n : ℕ) (p : List Turn) : Type 0 where
  pub earlier : index_of ps (without_last p) < n
  pub found : slice_get ps (index_of ps (without_last p)) ≡ Some (without_last p)
  pub more : p ≡ without_last p ++ last_turn p ∷ []

follows_here : (front qs : List (List Turn)) (p : List Turn) → GoesOn front p → Follows (front ++ qs) (length front) p
follows_here front qs p h =
    let z = found_early front qs (without_last p) h.0 in
    record { earlier = z.0; found = z.1; more = h.1 }

follows_in : (qs front seen : List (List Turn)) → Covers seen front → EachAfter GoesOn seen qs → (i : ℕ) (p : List Turn) → slice_get qs i ≡ Some p → Follows (front ++ qs) (length front + i) p
follows_in [] front seen c h i p e = absurd (cc e)
follows_in (q ∷ qs) front seen c h zero p e =
    let same : q ≡ p = cc e in
    let P : List Turn → Type 0 = Follows (front ++ q ∷ qs) (length front + zero) in
    let Q : ℕ → Type 0 = λ n. Follows (front ++ q ∷ qs) n q in
    let here : length front ≡ length front + zero = omega arith in
    subst P same (subst Q here (follows_here front (q ∷ qs) q (c (without_last q) h.0.0, h.0.1)))
follows_in (q ∷ qs) front seen c h (suc i) p e =
    let P : List (List Turn) → Type 0 = λ ps. Follows ps (length front + suc i) p in
    let Q : ℕ → Type 0 = λ n. Follows ((front ++ q ∷ []) ++ qs) n p in
    let here : length (front ++ q ∷ []) + i ≡ length front + suc i = omega (arith, length-append front (q ∷ [])) in
    subst P (append_assoc front (q ∷ []) qs) (subst Q here (follows_in qs (front ++ q ∷ []) (q ∷ seen) (covers_push seen front q c) h.1 i p e))

-- where the root's name comes first
pub follows : (qs : List (List Turn)) → EachAfter GoesOn ([] ∷ []) qs → (i : ℕ) (p : List Turn) → slice_get qs i ≡ Some p → Follows ([] ∷ qs) (suc i) p
follows qs h i p e =
    let P : ℕ → Type 0 = λ n. Follows ([] ∷ qs) n p in
    let here : length {A = List Turn} ([] ∷ []) + i ≡ suc i = omega arith in
    subst P here (follows_in qs ([] ∷ []) ([] ∷ []) (λ x g. g) h i p e)
