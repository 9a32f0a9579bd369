use Rattle.std.proofs.Common.{rules, ◌≡◌, ◌<◌, ◌++◌, ◌∷◌, [], unwrap_or, IfSome, refl, ap, sym, subst, ◌∙◌, w64, ℤ, FitsSigned, to_z, of_z, List}
use Rattle.std.proofs.lemmas.Int.{to_z-of_z}
use Rattle.cw_tree.specs.declared.access.Entry.{Entry}
use Rattle.cw_stack.specs.Cells.{CellParts, newest_entry, entry_of, first_value, IsCellInMemory, GoesWithTrees}
use Rattle.cw_stack.specs.contracts.cell.Cell.{the_view}
use Rattle.cw_stack.proofs.Keeping.{first_more, kept_more, goes_with_trees}
use Rattle.cw_stack.proofs.cell.Cell.access.Goals as goal

-- the entry that came, the value that it left, and that it came later
record Came (c : goal.After-self-1) : Type 0 where
  value : to_z w64 (of_z w64 c.unwrap_or-value.result) ≡ unwrap_or c.args.write c.self.inside.value
  entries : c.push_reserved.new.self.items ≡ c.self.inside.entries.items ++ entry_of c.args.mark c.args.write c.self.inside.value ∷ []
  later : IfSome (newest_entry c.self.inside.entries.items) (λ e. e.mark.stamp < c.args.mark.stamp)

came : (c : goal.After-self-1) → Came c
came c =
    let old : FitsSigned w64 c.self.inside.value = search rules in
    let new : FitsSigned w64 c.unwrap_or-value.result = search rules in
    let a = to_z-of_z w64 c.self.inside.value old in
    let b = to_z-of_z w64 c.unwrap_or-value.result new in
    let P : CellParts → Type 0 = λ p. IfSome (newest_entry p.entries) (λ e. e.mark.stamp < c.args.mark.stamp) in
    record {
      value = b ∙ c.unwrap_or-value.ensures ∙ ap (unwrap_or c.args.write) a;
      entries = cc (c.push_reserved.ensures.items, c.is_some.ensures, c.unwrap_or-value.ensures, a, b);
      later = subst P (sym c.self.view_is) c.requires.later;
    }

pub invariant_of-self : goal.invariant_of-self
invariant_of-self c =
    let w = came c in
    let P : ℤ → List Entry → Type 0 = λ v es. IsCellInMemory v es c.self.inside.cleaned in
    subst (λ (v : ℤ). P v c.push_reserved.new.self.items) (sym w.value)
    (subst (λ (es : List Entry). P (unwrap_or c.args.write c.self.inside.value) es) (sym w.entries)
    (kept_more c.args.mark c.args.write c.self.inside.value c.self.inside.entries.items c.self.inside.cleaned c.self.invariant w.later))

pub returns-clause-value : goal.returns-clause-value
returns-clause-value c = sym (invariant_of-self c).value

pub returns-clause-in_a_tree : goal.returns-clause-in_a_tree
returns-clause-in_a_tree c =
    let w = came c in
    let v = c.self.inside.value in
    let es = c.self.inside.entries.items in
    let after : ℤ = to_z w64 (of_z w64 c.unwrap_or-value.result) in
    let items = c.push_reserved.new.self.items in
    let new : CellParts = record { first = first_value after items; entries = items; cleaned = 0; room = 0 } in
    let P : CellParts → Type 0 = λ old. GoesWithTrees old new c.args.mark.stamp c.args.write after in
    subst P c.self.view_is
    (goes_with_trees (the_view c.self.inside) new c.args.mark c.args.write after
    (ap (first_value after) w.entries ∙ first_more v after es (entry_of c.args.mark c.args.write v) refl)
    (w.entries ∙ ap (λ z. es ++ entry_of c.args.mark c.args.write z ∷ []) c.self.invariant.value)
    (w.value ∙ ap (unwrap_or c.args.write) c.self.invariant.value))
