-- A tree made in the order of time, and log by log.
use Rattle.std.proofs.Common.{◌≡◌, ℕ, zero, suc, ◌<◌, length, map, ap, refl, arith, nat_lt, nat_eq, Bool, true, [], ◌∷◌}
use Rattle.std.specs.Prelude.{slice_get, option_map, All, ◌==◌, filter}
use Rattle.std.proofs.lemmas.Bool.{ltb-true, lt-ltb, eqb-true, eq-eqb}
use Rattle.std.proofs.lemmas.List.Elements.{All-cons, All-nil}
use Rattle.cw_tree.specs.declared.conflict.Conflict.{Conflict}
use Rattle.cw_tree.specs.Nodes.{parent_of, stamp_of}
use Rattle.cw_tree.specs.Worked.{interleaved}
use Rattle.cw_tree.specs.OneTree.{node_by, conflict_by, number_in_logs, log_by_log, AreOne, OneTreeRows, conflict_of_asker}
use Rattle.cw_tree.proofs.Worked.Checks.{each_pair, all_pairs, implies, implied, is_numbered}

nodes : (n : ℕ) → n < length interleaved → slice_get log_by_log (number_in_logs n) ≡ option_map (node_by number_in_logs) (slice_get interleaved n)
nodes zero h = refl
nodes (suc zero) h = refl
nodes (suc (suc zero)) h = refl
nodes (suc (suc (suc zero))) h = refl
nodes (suc (suc (suc (suc zero)))) h = refl
nodes (suc (suc (suc (suc (suc zero))))) h = refl
nodes (suc (suc (suc (suc (suc (suc zero)))))) h = refl
nodes (suc (suc (suc (suc (suc (suc (suc zero))))))) h = refl
nodes (suc (suc (suc (suc (suc (suc (suc (suc zero)))))))) h = refl
nodes (suc (suc (suc (suc (suc (suc (suc (suc (suc zero))))))))) h = refl
nodes (suc (suc (suc (suc (suc (suc (suc (suc (suc (suc n)))))))))) h = absurd (omega arith)

each : (n : ℕ) → n < length interleaved → filter (λ (c : Conflict). c.asker == number_in_logs n) (conflict_of_asker 4 ∷ conflict_of_asker 9 ∷ []) ≡ map (conflict_by number_in_logs) (filter (λ (c : Conflict). c.asker == n) (conflict_of_asker 6 ∷ conflict_of_asker 7 ∷ []))
each zero h = refl
each (suc zero) h = refl
each (suc (suc zero)) h = refl
each (suc (suc (suc zero))) h = refl
each (suc (suc (suc (suc zero)))) h = refl
each (suc (suc (suc (suc (suc zero))))) h = refl
each (suc (suc (suc (suc (suc (suc zero)))))) h = refl
each (suc (suc (suc (suc (suc (suc (suc zero))))))) h = refl
each (suc (suc (suc (suc (suc (suc (suc (suc zero)))))))) h = refl
each (suc (suc (suc (suc (suc (suc (suc (suc (suc zero))))))))) h = refl
each (suc (suc (suc (suc (suc (suc (suc (suc (suc (suc n)))))))))) h = absurd (omega arith)

-- each of two conflicts has an asker in a tree of ten nodes
two_low : (a b : ℕ) → a < 10 → b < 10 → All (λ (c : Conflict). c.asker < 10) (conflict_of_asker a ∷ conflict_of_asker b ∷ [])
two_low a b h g = All-cons (λ (c : Conflict). c.asker < 10) (conflict_of_asker a) (conflict_of_asker b ∷ []) h (All-cons (λ (c : Conflict). c.asker < 10) (conflict_of_asker b) [] g (All-nil (λ (c : Conflict). c.asker < 10)))

one : AreOne number_in_logs interleaved log_by_log
one = record {
  as_many = refl;
  root = refl;
  root_up = refl;
  differ = λ n m h g e. eqb-true n m (implied _ _ (each_pair (λ n m. implies (nat_eq (number_in_logs n) (number_in_logs m)) (nat_eq n m)) 10 refl n m h g) (eq-eqb _ _ e));
  nodes = nodes;
  siblings = λ n m p l h e. (
      let test : ℕ → ℕ → Bool = λ n m. implies (nat_lt 0 n) (implies (nat_lt n m) (implies (nat_eq (parent_of interleaved n) (parent_of interleaved m)) (nat_lt (number_in_logs n) (number_in_logs m)))) in
      let all : all_pairs test 10 ≡ true = refl in
      ltb-true _ _ (implied _ _ (implied _ _ (implied _ _ (each_pair test 10 all n m (omega arith) h) (lt-ltb 0 n p)) (lt-ltb n m l)) (eq-eqb _ _ e)));
}

pub rows : OneTreeRows
rows = record {
  numbered = is_numbered interleaved refl refl (omega arith);
  other_numbered = is_numbered log_by_log refl refl (omega arith);
  one = one;
  along = record { there = two_low 6 7 (omega arith) (omega arith); others_there = two_low 4 9 (omega arith) (omega arith); each = each };
  round = λ e. cc (ap (λ t. stamp_of t 7) e);
}
