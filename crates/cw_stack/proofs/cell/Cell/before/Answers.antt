use Rattle.std.proofs.Common.{rules, ◌≡◌, ◌<◌, ℤ, List, length, map, take, drop, get_or, ap, sym, ◌∙◌, arith, subst, w64, FitsSigned, to_z, of_z, Some}
use Rattle.std.specs.Prelude.{Contains, filter, find, nat_lt}
use Rattle.std.proofs.lemmas.Int.{to_z-of_z}
use Rattle.cw_tree.specs.declared.access.Entry.{Entry}
use Rattle.cw_tree.specs.Nodes.{stamp_of}
use Rattle.cw_tree.specs.Walks.{is_above}
use Rattle.cw_tree.specs.Accesses.{written, cell_value}
use Rattle.cw_tree.specs.Cancels.{before_block}
use Rattle.cw_tree.specs.AccessStacks.{written_by, stamps, IsAccessStack}
use Rattle.cw_stack.specs.Cells.{CellParts, first_value}
use Rattle.cw_stack.proofs.Keeping.{old_at}
use Rattle.cw_stack.proofs.Rolling.{contained, smaller_front, split_at, beneath_before}
use Rattle.cw_stack.proofs.cell.Cell.before.Goals as goal

pub place_of-requires-clause-there : goal.place_of-requires-clause-there
place_of-requires-clause-there c =
    let P : CellParts → Type 0 = λ p. Contains (stamps (drop p.cleaned p.entries)) c.args.first in
    let Q : List Entry → Type 0 = λ es. Contains (stamps es) c.args.first in
    subst Q (sym c.as_slice.ensures.value) (contained c.self.inside.entries.items c.self.inside.cleaned c.args.first (subst P (sym c.self.view_is) c.requires))

-- the place of the entry, among all entries
record Found (c : goal.After-result-1) : Type 0 where
  within : c.place_of.result < length c.self.inside.entries.items
  stamp : get_or (stamps c.self.inside.entries.items) c.place_of.result 0 ≡ c.args.first
  old : to_z w64 (of_z w64 c.index.result.now.old) ≡ (get_or c.self.inside.entries.items c.place_of.result c.index.result.now).old

found : (c : goal.After-result-1) → Found c
found c =
    let fits : FitsSigned w64 c.index.result.now.old = search rules in
    record {
      within = omega (arith, c.place_of.ensures.within, ap length c.as_slice.ensures.value);
      stamp = ap (λ es. get_or (stamps es) c.place_of.result 0) (sym c.as_slice.ensures.value) ∙ c.place_of.ensures.stamp;
      old = to_z-of_z w64 c.index.result.now.old fits ∙ ap (λ e. e.old) c.index.ensures;
    }

pub returns-clause-entry : goal.returns-clause-entry
returns-clause-entry c fs e gs split stamp =
    let w = found c in
    w.old
    ∙ ap (λ x. x.old) (split_at c.self.inside.entries.items fs gs e c.place_of.result c.args.first c.index.result.now
    (ap (λ p. p.entries) c.self.view_is ∙ split) stamp c.self.invariant.rising w.within w.stamp)

-- it is what the entries before it left
value_is : (c : goal.After-result-1) → to_z w64 (of_z w64 c.index.result.now.old)
    ≡ cell_value (first_value c.self.inside.value c.self.inside.entries.items) (map written_by (take c.place_of.result c.self.inside.entries.items))
value_is c =
    let w = found c in
    w.old ∙ old_at (first_value c.self.inside.value c.self.inside.entries.items) c.self.inside.entries.items c.place_of.result
    c.index.result.now w.within c.self.invariant.steps

pub returns-clause-value : goal.returns-clause-value
returns-clause-value c =
    let w = found c in
    let es = c.self.inside.entries.items in
    let P : CellParts → ℤ = λ p. cell_value p.first (map written_by (filter (λ e. nat_lt e.mark.stamp c.args.first) p.entries)) in
    value_is c
    ∙ ap (λ xs. cell_value (first_value c.self.inside.value es) (map written_by xs))
    (sym (smaller_front es c.place_of.result c.args.first c.self.invariant.rising w.within w.stamp))
    ∙ ap P c.self.view_is

pub returns-clause-beneath : goal.returns-clause-beneath
returns-clause-beneath c t cell b n us =
    let w = found c in
    let es = c.self.inside.entries.items in
    let v = to_z w64 (of_z w64 c.index.result.now.old) in
    let P : CellParts → Type 0 = λ p. IsAccessStack t cell p.first us p.entries → find (is_above t b) us ≡ Some n → stamp_of t n ≡ c.args.first
    → v ≡ cell_value p.first (map (written t) (before_block t b us)) in
    subst P c.self.view_is (λ s first stamp. value_is c ∙ ap (cell_value (first_value c.self.inside.value es))
    (beneath_before t cell b n (first_value c.self.inside.value es) us es c.place_of.result c.args.first s first stamp
    c.self.invariant.rising w.within w.stamp))
