use Rattle.std.proofs.Common.{◌≡◌, ◌∙◌, ◌++◌, ◌∷◌, ◌<◌, ◌+◌, ℕ, List, ap, append_assoc, drop, get_or, length, map, rules, string_bytes, sym}
use Rattle.std.specs.List.{flat_map}
use Rattle.std.proofs.lemmas.List.{drop_more}
use Rattle.cw_tree.specs.declared.conflict.Conflict.{Conflict}
use Rattle.cw_report.specs.Elements.{element_text}
use Rattle.cw_report.specs.Report.{conflict_line}
use Rattle.cw_report.proofs.report.push_conflicts.Goals as goal

-- one more of those that are left
goes_on : (old new whole : List ℕ) (f : Conflict → List ℕ) (ks : List Conflict) (i : ℕ) (k : Conflict) → i < length ks → k ≡ get_or ks i k → new ≡ old ++ f k → old ++ flat_map f (drop i ks) ≡ whole → new ++ flat_map f (drop (i + 1) ks) ≡ whole
goes_on old new whole f ks i k low item is h =
    ap (λ t. t ++ flat_map f (drop (i + 1) ks)) is ∙ append_assoc old (f k) (flat_map f (drop (i + 1) ks)) ∙ sym (ap (λ ms. old ++ flat_map f ms) (drop_more ks i k low ∙ ap (λ m. m ∷ drop (i + 1) ks) (sym item))) ∙ h

pub loop-conflict-preserved : goal.loop-conflict-preserved
loop-conflict-preserved c =
    goes_on (string_bytes c.loop-conflict.text) (string_bytes c.push_conflict.new.text) _ (conflict_line c.args.cells.now c.args.tree.now) c.args.conflicts.now c.loop-conflict.conflict-index c.conflict-item.result c.loop-conflict-test.true
    (search rules) (c.in_ok-push_conflict.ensures c.args.cells.now (ap (map element_text) c.as_slice.ensures.value ∙ c.in_ok-elements.ensures)) c.loop-conflict.invariant
