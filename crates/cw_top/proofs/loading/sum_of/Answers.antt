use Rattle.std.proofs.Common.{rules, arith, ◌≡◌, ◌∙◌, ap, sym, ◌+◌, drop, slice_index_or, w64, pos, ◌+ℤ◌, SFits, to_z, of_z}
use Rattle.std.specs.Int.{w128}
use Rattle.std.proofs.lemmas.Int.{to_z-of_z}
use Rattle.std.proofs.lemmas.List.{at_drop_more}
use Rattle.std.proofs.Math.IntN.{+ℤ_assoc}
use Rattle.cw_top.specs.Written.{sum_of_values}
use Rattle.cw_top.proofs.loading.sum_of.Goals as goal

pub loop-value-preserved : goal.loop-value-preserved
loop-value-preserved c =
    let values = c.args.values.now in
    let i = c.loop-value.value-index in
    let x = slice_index_or values i (pos 0) in
    let old = to_z w128 c.loop-value.sum-bits in
    let fits : SFits w64 x = search rules in
    let from_fits : SFits w128 c.from-sum.result = search rules in
    let sum_fits : SFits w128 (old +ℤ to_z w128 (of_z w128 c.from-sum.result)) = search rules in
    let is : c.from-sum.result ≡ x = c.from-sum.ensures ∙ to_z-of_z w64 x fits in
    let new = to_z-of_z w128 (old +ℤ to_z w128 (of_z w128 c.from-sum.result)) sum_fits ∙ ap (λ v. old +ℤ v) (to_z-of_z w128 c.from-sum.result from_fits ∙ is) in
    record {
      all = c.loop-value.invariant.all ∙ ap (λ v. old +ℤ v) (at_drop_more sum_of_values values i (pos 0) c.loop-value-test.true) ∙ sym (+ℤ_assoc old x (sum_of_values (drop (i + 1) values))) ∙ ap (λ v. v +ℤ sum_of_values (drop (i + 1) values)) (sym new);
      most = rw new (grind (arith, fits, c.loop-value.invariant.most));
      least = rw new (grind (arith, fits, c.loop-value.invariant.least));
    }
