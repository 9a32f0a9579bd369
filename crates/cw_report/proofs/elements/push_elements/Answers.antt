use Rattle.std.proofs.Common.{◌≡◌, ◌<◌, ◌-◌, ◌+◌, ◌++◌, ◌∷◌, [], ℕ, suc, List, map, ap, sym, ◌∙◌, append_assoc, arith, rules}
use Rattle.std.specs.List.{range_with_len}
use Rattle.std.proofs.lemmas.List.{map-append}
use Rattle.cw_report.specs.Elements.{element_text}
use Rattle.cw_report.specs.Report.{element_name}
use Rattle.cw_report.proofs.elements.push_elements.Goals as goal

-- one more of the numbers from i up to n
goes_on : (old new whole : List (List ℕ)) (f : ℕ → List ℕ) (i n : ℕ) → i < n → new ≡ old ++ f i ∷ [] → old ++ map f (range_with_len i (n - i)) ≡ whole → new ++ map f (range_with_len (i + 1) (n - (i + 1))) ≡ whole
goes_on old new whole f i n low is h =
    let rest = map f (range_with_len (i + 1) (n - (i + 1))) in
    let e : n - i ≡ suc (n - (i + 1)) = omega arith in
    ap (λ t. t ++ rest) is ∙ append_assoc old (f i ∷ []) rest ∙ sym (ap (λ k. old ++ map f (range_with_len i k)) e) ∙ h

pub loop-place-preserved : goal.loop-place-preserved
loop-place-preserved c =
    goes_on (map element_text c.loop-place.list.items) (map element_text c.push-in-loop-place.new.self.items) _ (element_name c.args.cell.now) c.loop-place.place c.args.cell.now.len c.loop-place-test.true
    (ap (map element_text) c.in_ok-push-2.ensures.items ∙ map-append element_text c.loop-place.list.items _ ∙ search rules) c.loop-place.invariant
