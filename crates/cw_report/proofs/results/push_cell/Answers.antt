use Rattle.std.proofs.Common.{◌≡◌, ◌<◌, ◌-◌, ◌+◌, ◌++◌, ℕ, suc, List, ap, sym, ◌∙◌, append_assoc, arith, string_bytes}
use Rattle.std.specs.List.{flat_map, range_with_len}
use Rattle.cw_report.specs.Results.{element_line}
use Rattle.cw_report.proofs.results.push_cell.Goals as goal

-- one more of the numbers from i up to n
goes_on : (old new whole : List ℕ) (f : ℕ → List ℕ) (i n : ℕ) → i < n → new ≡ old ++ f i → old ++ flat_map f (range_with_len i (n - i)) ≡ whole → new ++ flat_map f (range_with_len (i + 1) (n - (i + 1))) ≡ whole
goes_on old new whole f i n low is h =
    let rest = flat_map f (range_with_len (i + 1) (n - (i + 1))) in
    let e : n - i ≡ suc (n - (i + 1)) = omega arith in
    ap (λ t. t ++ rest) is ∙ append_assoc old (f i) rest ∙ sym (ap (λ k. old ++ flat_map f (range_with_len i k)) e) ∙ h

pub loop-index-preserved : goal.loop-index-preserved
loop-index-preserved c = goes_on (string_bytes c.loop-index.text) (string_bytes c.push_element.new.text) _ (element_line c.args.cell.now c.args.memory.now) c.loop-index.index c.args.cell.now.len c.loop-index-test.true c.in_ok-push_element.ensures c.loop-index.invariant
