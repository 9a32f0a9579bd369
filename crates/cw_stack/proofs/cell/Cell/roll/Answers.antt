use Rattle.std.proofs.Common.{rules, ◌≡◌, ◌<◌, ◌≤◌, ℤ, List, length, take, drop, get_or, ap, sym, ◌∙◌, arith, subst, w64, FitsSigned, to_z, of_z, true, Some}
use Rattle.std.specs.Prelude.{Contains, filter, find}
use Rattle.std.proofs.lemmas.List.{length-take-le}
use Rattle.std.proofs.lemmas.Int.{to_z-of_z}
use Rattle.cw_tree.specs.declared.access.Entry.{Entry}
use Rattle.cw_tree.specs.Nodes.{is_pending, stamp_of}
use Rattle.cw_tree.specs.Walks.{is_above}
use Rattle.cw_tree.specs.AccessStacks.{stamps, IsAccessStack}
use Rattle.cw_stack.specs.Cells.{CellParts, first_value, IsCellInMemory}
use Rattle.cw_stack.proofs.Keeping.{first_front, kept_front}
use Rattle.cw_stack.proofs.Rolling.{stays, beneath_taken, not_cleaned, contained, split_at}
use Rattle.cw_stack.proofs.cell.Cell.roll.Goals as goal

pub place_of-left-requires-clause-there : goal.place_of-left-requires-clause-there
place_of-left-requires-clause-there c =
    let P : CellParts → Type 0 = λ p. Contains (stamps (drop p.cleaned p.entries)) c.args.first in
    let Q : List Entry → Type 0 = λ es. Contains (stamps es) c.args.first in
    subst Q (sym c.as_slice.ensures.value) (contained c.self.inside.entries.items c.self.inside.cleaned c.args.first (subst P (sym c.self.view_is) c.requires))

-- the place of the first entry that goes, among all entries
record Found (c : goal.After-truncate) : Type 0 where
  within : c.place_of-left.result < length c.self.inside.entries.items
  stamp : get_or (stamps c.self.inside.entries.items) c.place_of-left.result 0 ≡ c.args.first
  old : to_z w64 (of_z w64 c.index.result.now.old) ≡ (get_or c.self.inside.entries.items c.place_of-left.result c.index.result.now).old

found : (c : goal.After-truncate) → Found c
found c =
    let fits : FitsSigned w64 c.index.result.now.old = search rules in
    record {
      within = omega (arith, c.place_of-left.ensures.within, ap length c.as_slice.ensures.value);
      stamp = ap (λ es. get_or (stamps es) c.place_of-left.result 0) (sym c.as_slice.ensures.value) ∙ c.place_of-left.ensures.stamp;
      old = to_z-of_z w64 c.index.result.now.old fits ∙ ap (λ e. e.old) c.index.ensures;
    }

behind_cleaned : (c : goal.After-truncate) → c.self.inside.cleaned ≤ c.place_of-left.result
behind_cleaned c =
    let w = found c in
    let P : CellParts → Type 0 = λ p. Contains (stamps (drop p.cleaned p.entries)) c.args.first in
    not_cleaned c.self.inside.entries.items c.self.inside.cleaned c.args.first c.place_of-left.result c.self.invariant.rising (subst P (sym c.self.view_is) c.requires) w.within w.stamp

pub invariant_of-self : goal.invariant_of-self
invariant_of-self c =
    let w = found c in
    let after : ℤ = to_z w64 (of_z w64 c.index.result.now.old) in
    let P : List Entry → Type 0 = λ es. IsCellInMemory after es c.self.inside.cleaned in
    let Q : ℤ → Type 0 = λ v. IsCellInMemory v (take c.place_of-left.result c.self.inside.entries.items) c.self.inside.cleaned in
    subst P (sym c.truncate.ensures.items)
    (subst Q (sym w.old) (kept_front c.self.inside.value c.self.inside.entries.items c.self.inside.cleaned c.place_of-left.result c.index.result.now w.within (behind_cleaned c) c.self.invariant))

pub returns-clause-value : goal.returns-clause-value
returns-clause-value c fs e gs split stamp =
    let w = found c in
    sym (invariant_of-self c).value
    ∙ w.old
    ∙ ap (λ x. x.old) (split_at c.self.inside.entries.items fs gs e c.place_of-left.result c.args.first c.index.result.now (ap (λ p. p.entries) c.self.view_is ∙ split) stamp c.self.invariant.rising w.within w.stamp)

pub returns-clause-in_a_tree : goal.returns-clause-in_a_tree
returns-clause-in_a_tree c t cell us =
    let w = found c in
    let es = c.self.inside.entries.items in
    let k = c.place_of-left.result in
    let after : ℤ = to_z w64 (of_z w64 c.index.result.now.old) in
    let first : first_value after (take k es) ≡ first_value c.self.inside.value es = ap (λ v. first_value v (take k es)) w.old ∙ first_front c.self.inside.value es k c.index.result.now w.within in
    let P : CellParts → Type 0 = λ old. IsAccessStack t cell old.first us old.entries → IsAccessStack t cell (first_value after c.truncate.new.self.items) (take (length c.truncate.new.self.items) us) c.truncate.new.self.items in
    let Q : List Entry → Type 0 = λ xs. IsAccessStack t cell (first_value after xs) (take (length xs) us) xs in
    let R : ℤ → Type 0 = λ v. IsAccessStack t cell v (take (length (take k es)) us) (take k es) in
    subst P c.self.view_is (λ s. subst Q (sym c.truncate.ensures.items) (subst R (sym first) (stays t cell k (first_value c.self.inside.value es) us es w.within s)))

pub returns-clause-beneath : goal.returns-clause-beneath
returns-clause-beneath c t cell b n us r =
    let w = found c in
    let es = c.self.inside.entries.items in
    let k = c.place_of-left.result in
    let within = w.within in
    let P : CellParts → Type 0 = λ old. IsAccessStack t cell old.first us old.entries → is_pending t b ≡ true → find (is_above t b) us ≡ Some n → stamp_of t n ≡ c.args.first → drop (length c.truncate.new.self.items) us ≡ filter (is_above t b) us in
    let size : length c.truncate.new.self.items ≡ k = ap length c.truncate.ensures.items ∙ length-take-le k es (omega arith) in
    subst P c.self.view_is (λ s pending first stamp. ap (λ i. drop i us) size ∙ beneath_taken t cell b n (first_value c.self.inside.value es) us es k c.args.first r s pending first stamp c.self.invariant.rising w.within w.stamp)
