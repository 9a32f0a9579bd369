use Rattle.std.proofs.Common.{◌≡◌, ◌*◌, ◌^◌, pos, neg_ℤ, ◌+ℤ◌, ◌≤ℤ◌, drop}
use Rattle.cw_top.specs.Written.{sum_of_values}
use Rattle.cw_top.proofs.loading.sum_of.Given as goal

abbrev pub invariant-loop-value : goal.invariant-loop-value
invariant-loop-value l = record {
  all : sum_of_values l.values ≡ l.sum +ℤ sum_of_values (drop l.value-index l.values);
  most : l.sum ≤ℤ pos (l.value-index * 2 ^ 63);
  least : neg_ℤ (pos (l.value-index * 2 ^ 63)) ≤ℤ l.sum;
}
