-- No load has a cancel.
use Rattle.std.proofs.Common.{◌≡◌, ℕ, false, List, [], ◌∷◌, ◌++◌, map, refl}
use Rattle.std.specs.List.{range_with_len}
use Rattle.cw_text.specs.Cancels.{block_has_cancel, has_cancel}
use Rattle.cw_text.specs.Syntax.{Declaration, Statement, sync}
use Rattle.cw_gen.specs.Load.{Transfer, block, group, group_count, group_function, load_tree, load_main, spawned_group, spawned_transfer, summed, transfers}

calls_have_none : (ts : List Transfer) → block_has_cancel (block (map spawned_transfer ts)) ≡ false
calls_have_none [] = refl
calls_have_none (t ∷ ts) = calls_have_none ts

spawns_have_none : (ks : List ℕ) (ss : List Statement) → block_has_cancel (block (map spawned_group ks ++ ss)) ≡ block_has_cancel (block ss)
spawns_have_none [] ss = refl
spawns_have_none (k ∷ ks) ss = spawns_have_none ks ss

module _ (n : ℕ) where
  groups_have_none : (ks : List ℕ) (ds : List Declaration) → has_cancel (map (λ k. group_function k (group k (transfers n n))) ks ++ ds) ≡ has_cancel ds
  groups_have_none [] ds = refl
  groups_have_none (k ∷ ks) ds = rw (calls_have_none (group k (transfers n n))) (groups_have_none ks ds)

  pub load_has_none : has_cancel (load_tree n) ≡ false
  load_has_none =
      let ks = range_with_len 0 (group_count n) in
      rw (groups_have_none ks (load_main (group_count n) ∷ []), spawns_have_none ks (sync ∷ summed)) refl
