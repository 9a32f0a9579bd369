use Rattle.std.proofs.Common.{◌≡◌, ◌≤◌, ◌++◌, length, take, drop, reverse}
use Rattle.cw_strand.specs.Coded.{locals_for}
use Rattle.cw_strand.proofs.strand.calls.take_locals.Given as goal

-- the arguments that are left are still operands, and those that were taken are locals, with the zeros
abbrev pub invariant-loop-place : goal.invariant-loop-place
invariant-loop-place l = record {
  locals : locals_for l.func l.fn.operands ≡ reverse (take l.place l.operands) ++ drop l.place l.locals.items;
  rest : drop l.place l.operands ≡ drop l.func.params l.fn.operands;
  count : length l.locals.items ≡ l.func.locals;
  room : l.place ≤ length l.operands;
}
