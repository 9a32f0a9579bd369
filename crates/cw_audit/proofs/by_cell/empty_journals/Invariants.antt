use Rattle.std.proofs.Common.{◌≡◌, ℕ, length, [], get_or}
use Rattle.cw_audit.proofs.by_cell.empty_journals.Given as goal

abbrev pub invariant-loop : goal.invariant-loop
invariant-loop l = record {
  len : length l.journals.items ≡ l.counter;
  empty : (c : ℕ) → get_or l.journals.items c [] ≡ [];
}
