use Rattle.std.proofs.Common.{◌<◌, ◌≤◌, ◌-◌, List, ℕ, vec_len}
use Rattle.std.specs.List.{Contains}
use Rattle.cw_order.specs.Ring.{IsRing, path}
use Rattle.cw_order.proofs.Rows.{IsRow, IsRowFrom}
use Rattle.cw_order.proofs.ring.Ring.sparse_run.Given as goal

abbrev pub invariant-loop-run : goal.invariant-loop-run
invariant-loop-run l = record {
  place : l.run.first < vec_len l.self.next;
  some : 0 < l.run.count;
  few : l.run.count ≤ l.most;
  row : (xs : List ℕ) → IsRing l.self xs → Contains (path xs) l.at → IsRow xs l.at l.run l.at;
}

abbrev pub decreases-loop-run : goal.decreases-loop-run
decreases-loop-run l = l.most - l.run.count

abbrev pub invariant-loop-run-2 : goal.invariant-loop-run-2
invariant-loop-run-2 l = record {
  place : l.run.first < vec_len l.self.next;
  last : l.last < vec_len l.self.next;
  some : 0 < l.run.count;
  few : l.run.count ≤ l.most;
  row : (xs : List ℕ) → IsRing l.self xs → Contains (path xs) l.at → IsRowFrom l.self xs l.at l.size l.run l.last;
}

abbrev pub decreases-loop-run-2 : goal.decreases-loop-run-2
decreases-loop-run-2 l = l.most - l.run.count
