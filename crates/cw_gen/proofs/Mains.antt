-- Main of a load has no parameters.
use Rattle.std.proofs.Common.{◌≡◌, ℕ, zero, suc, ◌+◌, List, [], ◌∷◌, ◌++◌, map, refl, ap}
use Rattle.std.specs.Prelude.{codes}
use Rattle.std.specs.List.{range_with_len}
use Rattle.cw_text.specs.Syntax.{Declaration}
use Rattle.cw_strand.specs.Meaning.{MainTakes, function_of, params_in}
use Rattle.cw_gen.specs.Load.{group, group_count, group_function, load_tree, load_main, transfers}

module _ (n : ℕ) where
  -- no group is main
  behind_groups : (a len : ℕ) (ds : List Declaration) → function_of (map (λ k. group_function k (group k (transfers n n))) (range_with_len a len) ++ ds) (codes "main") ≡ function_of ds (codes "main")
  behind_groups a zero ds = refl
  behind_groups a (suc len) ds = behind_groups (a + 1) len ds

  pub takes_no_words : MainTakes (load_tree n) 0
  takes_no_words = ap params_in (behind_groups 0 (group_count n) (load_main (group_count n) ∷ []))
