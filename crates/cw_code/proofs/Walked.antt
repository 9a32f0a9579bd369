-- One walk over a function: where it finds no fault, there is none.
use Rattle.std.proofs.Common.{◌≡◌, ◌≢◌, ℕ, ◌+◌, ◌-◌, ◌<◌, ◌≤◌, ⊎_elim, Bool, true, false, not, ◌&&◌, List, [], ◌∷◌, ◌++◌, length, Option, Some, None, refl, sym, ap, ◌∙◌, subst, arith, length-append, nat_lt}
use Rattle.std.specs.Prelude.{slice_get, ◌==◌, if◌then◌else◌}
use Rattle.std.proofs.lemmas.List.{get_or_append_left}
use Rattle.std.proofs.Math.Seq.{get_or-append_seam}
use Rattle.std.proofs.lemmas.Bool.{ltb-false, eqb-true, cases_order}
use Rattle.std.proofs.lemmas.Bool.Decides.{eqb_tells}
use Rattle.cw_code.specs.declared.instruction.CodeKind.TheVariants.{Underflow, Uneven, NoEnd}
use Rattle.cw_code.specs.declared.instruction.Instr.{Instr}
use Rattle.cw_code.specs.declared.instruction.Func.{Func}
use Rattle.cw_code.specs.declared.instruction.Code.{Code}
use Rattle.cw_code.specs.declared.situation.Level.{Level}
use Rattle.cw_code.specs.Table.{Effect, push, local, set, load, load_at, store, store_at, lift, join, jump, jump_zero, call, ret, drop_top, out, begin, end, fork, sync, done, tick, cancel}
use Rattle.cw_code.specs.Rules.{Situation, effect_of, pops, when, operand_faults, faults_here, passed, jumps, never_passed, if_inside, natural, target_of, size_of, places, place_faults, is_border, is_torn}
use Rattle.cw_code.specs.Nested.{Nested, IsGrown, parts_at, situation_at}
use Rattle.cw_code.specs.Walked.{walked, BreaksNothing, level_noted, level_jumped, IsWalked, AllLead}
use Rattle.cw_code.proofs.Fold.{target_inside}
use Rattle.cw_code.proofs.Sound.{when_not, not_false, nil_left, nil_right}
use Rattle.cw_code.proofs.Seen.{situation_grown}
use Rattle.cw_code.proofs.Expected.{Fits, FitsAt, AllFit, next_behind}
use Rattle.cw_code.proofs.Passes.{none_at_places}
use Rattle.cw_code.proofs.Walk.{expected, at_first, expected_behind}

-- what keeps each rule in its own situation has no fault there
pub nothing_here : (c : Code) (f : Func) (p : ℕ) (i : Instr) (e : Option Effect) (s : Situation) → nat_lt s.height (pops c i e) ≡ false → (is_border e && not (s.height == 0)) ≡ false → is_torn e s ≡ false → (not (never_passed e) && (p + 1 == f.end)) ≡ false → faults_here c f p i e s ≡ []
nothing_here c f p i e s few border torn last = rw (few, border, torn, last) refl

-- ## The levels

pub more_walked : (c : Code) (f : Func) (ns ms : Nested) (ls : List Level) (l : Level) (n : ℕ) → IsGrown ns ms → IsWalked c f ns ls n → l.nesting < length ns → situation_at ns l ≡ walked c f n → BreaksNothing c f (f.start + n) (situation_at ns l) → IsWalked c f ms (ls ++ l ∷ []) (n + 1)
more_walked c f ns ms ls l n grown w low here stands = record {
  long = length-append ls (l ∷ []) ∙ ap (λ k. k + 1) w.long;
  made = λ k lt. by k lt (λ x. x.nesting < length ms) (λ old. omega (arith, w.made k old, grown.longer)) (omega (arith, low, grown.longer));
  expected = λ k lt. ⊎_elim (λ same. at_end k same) (λ o. ⊎_elim (λ old. before k old) (λ gt. absurd (omega arith)) o) (cases_order k n);
  stand = λ k lt. ⊎_elim (λ same. subst (λ x. BreaksNothing c f (f.start + x) (walked c f x)) (sym same) (subst (BreaksNothing c f (f.start + n)) here stands)) (λ o. ⊎_elim (λ old. w.stand k old) (λ gt. absurd (omega arith)) o) (cases_order k n);
}
  where
    left : (k : ℕ) → k < n → level_noted (ls ++ l ∷ []) k ≡ level_noted ls k
    left k lt = get_or_append_left ls (l ∷ []) _ k (omega (arith, w.long))

    last : (k : ℕ) → k ≡ n → level_noted (ls ++ l ∷ []) k ≡ l
    last k same = ap (level_noted (ls ++ l ∷ [])) (same ∙ sym w.long) ∙ get_or-append_seam ls l [] _

    by : (k : ℕ) → k < n + 1 → (P : Level → Type 0) → (k < n → P (level_noted ls k)) → P l → P (level_noted (ls ++ l ∷ []) k)
    by k lt P old new = ⊎_elim (λ same. subst P (sym (last k same)) new) (λ o. ⊎_elim (λ lower. subst P (sym (left k lower)) (old lower)) (λ gt. absurd (omega arith)) o) (cases_order k n)

    before : (k : ℕ) → k < n → situation_at ms (level_noted (ls ++ l ∷ []) k) ≡ walked c f k
    before k lt = ap (situation_at ms) (left k lt) ∙ situation_grown ns ms (level_noted ls k) grown (w.made k lt) ∙ w.expected k lt

    at_end : (k : ℕ) → k ≡ n → situation_at ms (level_noted (ls ++ l ∷ []) k) ≡ walked c f k
    at_end k same = ap (situation_at ms) (last k same) ∙ situation_grown ns ms l grown low ∙ here ∙ ap (walked c f) (sym same)

-- ## Targets

-- where the height is the same, the situation is
same_height : (ns : Nested) (l : Level) (h : ℕ) {g : ℕ} → h ≡ g → situation_at ns (record { height = h; nesting = l.nesting }) ≡ record { height = g; parts = parts_at ns l.nesting }
same_height ns l h e = ap (λ x. let s : Situation = record { height = x; parts = parts_at ns l.nesting } in s) e

jumped_passes : (c : Code) (i : Instr) (e : Option Effect) (ns : Nested) (l : Level) → jumps e ≡ true → situation_at ns (level_jumped e l) ≡ passed c i e (situation_at ns l)
jumped_passes c i (Some jump) ns l is = same_height ns l l.height (omega arith)
jumped_passes c i (Some fork) ns l is = same_height ns l l.height (omega arith)
jumped_passes c i (Some jump_zero) ns l is = same_height ns l (l.height - 1) (omega arith)
jumped_passes c i None ns l is = cc
jumped_passes c i (Some push) ns l is = cc
jumped_passes c i (Some local) ns l is = cc
jumped_passes c i (Some set) ns l is = cc
jumped_passes c i (Some load) ns l is = cc
jumped_passes c i (Some load_at) ns l is = cc
jumped_passes c i (Some store) ns l is = cc
jumped_passes c i (Some store_at) ns l is = cc
jumped_passes c i (Some (lift o)) ns l is = cc
jumped_passes c i (Some (join o)) ns l is = cc
jumped_passes c i (Some call) ns l is = cc
jumped_passes c i (Some ret) ns l is = cc
jumped_passes c i (Some drop_top) ns l is = cc
jumped_passes c i (Some out) ns l is = cc
jumped_passes c i (Some begin) ns l is = cc
jumped_passes c i (Some end) ns l is = cc
jumped_passes c i (Some sync) ns l is = cc
jumped_passes c i (Some done) ns l is = cc
jumped_passes c i (Some tick) ns l is = cc
jumped_passes c i (Some cancel) ns l is = cc

-- what has a target jumps
has_target : (f : Func) (i : Instr) (e : Option Effect) (q : ℕ) → target_of f i e ≡ Some q → jumps e ≡ true
has_target f i e q is = by (jumps e) is
  where
    by : (b : Bool) → (if b then if_inside f (natural i.a) else None) ≡ Some q → b ≡ true
    by true h = refl
    by false h = cc

-- ## Each instruction fits

module _ (c : Code) (f : Func) (ns : Nested) (ls : List Level) (w : IsWalked c f ns ls (size_of f)) (lead : AllLead c f ls (size_of f)) where
  module _ (k : ℕ) (lt : k < size_of f) (i : Instr) (there : slice_get c.instrs (f.start + k) ≡ Some i) (operands : operand_faults c f (f.start + k) i (effect_of i) ≡ []) (here : faults_here c f (f.start + k) i (effect_of i) (walked c f k) ≡ []) where
    abbrev p : ℕ
    p = f.start + k

    abbrev e : Option Effect
    e = effect_of i

    abbrev s : Situation
    s = walked c f k

    is_expected : expected c f p ≡ s
    is_expected = let number : p - f.start ≡ k = omega arith in ap (walked c f) number

    behind_room : when (is_border e && not (s.height == 0)) Uneven p ++ (when (is_torn e s) Uneven p ++ when (not (never_passed e) && (p + 1 == f.end)) NoEnd p) ≡ []
    behind_room = nil_right (when (nat_lt s.height (pops c i e)) Underflow p) _ here

    behind_border : when (is_torn e s) Uneven p ++ when (not (never_passed e) && (p + 1 == f.end)) NoEnd p ≡ []
    behind_border = nil_right (when (is_border e && not (s.height == 0)) Uneven p) _ behind_room

    on_border : (b : Bool) → (b && not (s.height == 0)) ≡ false → b ≡ true → s.height ≡ 0
    on_border true h is = eqb-true s.height 0 (not_false _ h)
    on_border false h is = cc

    not_last : (b : Bool) → (not b && (p + 1 == f.end)) ≡ false → b ≡ false → p + 1 < f.end
    not_last true h is = cc
    not_last false h is = ⊎_elim (λ y. absurd (let no : true ≡ false = sym y.0 ∙ h in cc)) (λ y. let ne : p + 1 ≢ f.end = y.1 in ⊎_elim (λ same. absurd (ne same)) (λ o. ⊎_elim (λ less. less) (λ gt. absurd (omega arith)) o) (cases_order (p + 1) f.end)) (eqb_tells (p + 1) f.end)

    at_target : (q : ℕ) → target_of f i e ≡ Some q → expected c f q ≡ passed c i e (expected c f p)
    at_target q is =
        let inner = target_inside f i e q is in
        let low : q - f.start < size_of f = omega (arith, inner.0, inner.1) in
        sym (w.expected (q - f.start) low) ∙ ap (situation_at ns) (lead k lt i there q is) ∙ jumped_passes c i e ns (level_noted ls k) (has_target f i e q is)
        ∙ ap (passed c i e) (w.expected k lt ∙ sym is_expected)

    fits_here : Fits c f (expected c f) p i e
    fits_here = record {
      operands = operands;
      room = subst (λ x. pops c i e ≤ x.height) (sym is_expected) (ltb-false s.height (pops c i e) (when_not _ _ p (nil_left (when (nat_lt s.height (pops c i e)) Underflow p) _ here)));
      border = subst (λ x. is_border e ≡ true → x.height ≡ 0) (sym is_expected) (on_border (is_border e) (when_not _ _ p (nil_left _ _ behind_room)));
      whole = subst (λ x. is_torn e x ≡ false) (sym is_expected) (when_not _ _ p (nil_left _ _ behind_border));
      last = not_last (never_passed e) (when_not _ _ p (nil_right (when (is_torn e s) Uneven p) _ behind_border));
      next = λ q is. ap (expected c f) (next_behind c f p e q is) ∙ expected_behind c f p i (omega arith) there;
      target = at_target;
    }

  fits_at : (k : ℕ) → k < size_of f → FitsAt c f (expected c f) (f.start + k)
  fits_at k lt = let s = w.stand k lt in record { instr = s.instr; stands = s.there; fits = fits_here k lt s.instr s.there s.operands s.here }

  all_fit : f.start < f.end → AllFit c f (expected c f)
  all_fit some = record {
    starts = at_first c f;
    some = some;
    each = λ p from to. let back : f.start + (p - f.start) ≡ p = omega arith in subst (FitsAt c f (expected c f)) back (fits_at (p - f.start) (omega arith));
  }

  pub none_walked : place_faults c f (places c f) (size_of f) ≡ []
  none_walked = ⊎_elim (λ same. empty (omega arith)) (λ o. ⊎_elim (λ lt. none_at_places c f (expected c f) (all_fit lt) (size_of f) (omega arith)) (λ gt. empty (omega arith)) o) (cases_order f.start f.end)
    where
      none : (n : ℕ) → n ≡ 0 → place_faults c f (places c f) n ≡ []
      none n z = ap (place_faults c f (places c f)) z

      empty : size_of f ≡ 0 → place_faults c f (places c f) (size_of f) ≡ []
      empty z = none (size_of f) z
