-- What is true of every cell stays so, as an entry comes and as the newest go.
use Rattle.std.proofs.Common.{◌≡◌, ℕ, zero, suc, ◌<◌, ◌≤◌, ℤ, List, [], ◌∷◌, ◌++◌, length, map, take, get_or, refl, ap, sym, ◌∙◌, arith, Option, Some, None, subst, length-append}
use Rattle.std.specs.Prelude.{is_some, unwrap_or, IfSome}
use Rattle.std.specs.List.Sorted.{IsStrictlyIncreasing}
use Rattle.std.proofs.lemmas.List.{map-append, take-map, length-take-le, length-map}
use Rattle.cw_tree.specs.declared.access.Mark.{Mark}
use Rattle.cw_tree.specs.declared.access.Entry.{Entry}
use Rattle.cw_tree.specs.Accesses.{cell_value, written}
use Rattle.cw_tree.specs.AccessStacks.{written_by, stamps, IsAccessStack}
use Rattle.cw_tree.proofs.ChainLaws.Entries.{Notes, cell_value_more}
use Rattle.cw_tree.proofs.ChainLaws.Stacks.{stacks_tell, stack_extends, with_access}
use Rattle.cw_stack.specs.Cells.{CellParts, entries_value, newest_entry, entry_of, AreSteps, first_value, IsCellInMemory, GoesWithTrees}
use Rattle.cw_stack.proofs.Rising.{rising_front, rising_more, above_last}

pub entry_wrote : (mark : Mark) (write : Option ℤ) (v : ℤ) → written_by (entry_of mark write v) ≡ write
entry_wrote mark None v = refl
entry_wrote mark (Some w) v = refl

-- what entries leave of v
abbrev pub value_after : ℤ → List Entry → ℤ
value_after v es = cell_value v (map written_by es)

pub left_more : (v : ℤ) (es : List Entry) (e : Entry) → value_after v (es ++ e ∷ []) ≡ unwrap_or (written_by e) (value_after v es)
left_more v es e = ap (cell_value v) (map-append written_by es (e ∷ [])) ∙ cell_value_more v (map written_by es) (written_by e)

-- ## One more entry

pub first_more : (v w : ℤ) (es : List Entry) (e : Entry) → e.old ≡ v → first_value w (es ++ e ∷ []) ≡ first_value v es
first_more v w [] e q = q
first_more v w (x ∷ es) e q = refl

steps_more : (v : ℤ) (es : List Entry) (e : Entry) → e.old ≡ value_after v es → e.value ≡ unwrap_or (written_by e) (value_after v es) → AreSteps v es → AreSteps v (es ++ e ∷ [])
steps_more v [] e old value s = (old, value, tt)
steps_more v (x ∷ es) e old value s = (s.0, s.1, steps_more (unwrap_or (written_by x) v) es e old value s.2)

pub kept_more : (mark : Mark) (write : Option ℤ) (v : ℤ) (es : List Entry) (cleaned : ℕ) → IsCellInMemory v es cleaned → IfSome (newest_entry es) (λ e. e.mark.stamp < mark.stamp)
    → IsCellInMemory (unwrap_or write v) (es ++ entry_of mark write v ∷ []) cleaned
kept_more mark write v es cleaned k later =
    let e = entry_of mark write v in
    let few = k.few in
    let len = length-append es (e ∷ []) in
    let first : first_value (unwrap_or write v) (es ++ e ∷ []) ≡ first_value v es = first_more v (unwrap_or write v) es e refl in
    let wrote : unwrap_or (written_by e) v ≡ unwrap_or write v = ap (λ o. unwrap_or o v) (entry_wrote mark write v) in
    let P : List ℕ → Type 0 = λ ns. IsStrictlyIncreasing ns in
    let Q : ℤ → Type 0 = λ z. AreSteps z (es ++ e ∷ []) in
    record {
      rising = subst P (sym (map-append (λ x. x.mark.stamp) es (e ∷ []))) (rising_more (stamps es) mark.stamp k.rising (above_last es mark.stamp later));
      few = omega arith;
      steps = subst Q (sym first) (steps_more (first_value v es) es e k.value (sym wrote ∙ ap (λ z. unwrap_or (written_by e) z) k.value) k.steps);
      value = sym (ap (λ z. value_after z (es ++ e ∷ [])) first ∙ left_more (first_value v es) es e ∙ ap (λ z. unwrap_or (written_by e) z) (sym k.value) ∙ wrote);
    }

-- ## The oldest entries

-- each entry met what those before it left
pub old_at : (v : ℤ) (es : List Entry) (k : ℕ) (d : Entry) → k < length es → AreSteps v es → (get_or es k d).old ≡ value_after v (take k es)
old_at v [] k d h s = absurd (omega arith)
old_at v (x ∷ es) zero d h s = s.0
old_at v (x ∷ es) (suc k) d h s = old_at (unwrap_or (written_by x) v) es k d (omega arith) s.2

steps_front : (v : ℤ) (es : List Entry) (k : ℕ) → AreSteps v es → AreSteps v (take k es)
steps_front v es zero s = tt
steps_front v [] (suc k) s = tt
steps_front v (x ∷ es) (suc k) s = (s.0, s.1, steps_front (unwrap_or (written_by x) v) es k s.2)

pub first_front : (v : ℤ) (es : List Entry) (k : ℕ) (d : Entry) → k < length es → first_value (get_or es k d).old (take k es) ≡ first_value v es
first_front v [] k d h = absurd (omega arith)
first_front v (x ∷ es) zero d h = refl
first_front v (x ∷ es) (suc k) d h = refl

pub kept_front : (v : ℤ) (es : List Entry) (cleaned k : ℕ) (d : Entry) → k < length es → cleaned ≤ k → IsCellInMemory v es cleaned → IsCellInMemory (get_or es k d).old (take k es) cleaned
kept_front v es cleaned k d h le w =
    let first = first_front v es k d h in
    let len = length-take-le k es (omega arith) in
    let P : List ℕ → Type 0 = λ ns. IsStrictlyIncreasing ns in
    let Q : ℤ → Type 0 = λ z. AreSteps z (take k es) in
    let same : length (stamps es) ≡ length es = length-map es (λ e. e.mark.stamp) in
    record {
      rising = subst P (take-map (λ e. e.mark.stamp) k es) (rising_front k (stamps es) (omega arith) w.rising);
      few = omega arith;
      steps = subst Q (sym first) (steps_front (first_value v es) es k w.steps);
      value = old_at (first_value v es) es k d h w.steps ∙ ap (λ z. value_after z (take k es)) (sym first);
    }

-- ## In a tree

pub goes_with_trees : (old new : CellParts) (mark : Mark) (write : Option ℤ) (answer : ℤ)
    → new.first ≡ old.first → new.entries ≡ old.entries ++ entry_of mark write (entries_value old) ∷ [] → answer ≡ unwrap_or write (entries_value old) → GoesWithTrees old new mark.stamp write answer
goes_with_trees old new mark write answer first entries is t c p us r hp w free =
    let tell : value_after old.first old.entries ≡ cell_value old.first (map (written t) us) = ap (cell_value old.first) (stacks_tell t c old.first us old.entries w).0 in
    let e = entry_of mark write (entries_value old) in
    let note : Notes e mark.stamp (is_some write) answer (cell_value old.first (map (written t) us)) = record { stamp = refl; wrote = refl; value = sym is; old = tell } in
    let P : ℤ → List Entry → Type 0 = λ v es. IsAccessStack (with_access t r c p hp write answer mark.stamp) c v (us ++ length t ∷ []) es in
    let more = stack_extends t r c p hp write answer mark.stamp old.first us old.entries e w free (is ∙ ap (unwrap_or write) tell) note in
    subst (λ (v : ℤ). P v new.entries) (sym first) (subst (λ (es : List Entry). P old.first es) (sym entries) more)
