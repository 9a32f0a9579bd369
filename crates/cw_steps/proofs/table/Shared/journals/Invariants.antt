use Rattle.std.specs.Prelude.{◌≡◌, ℕ, List, length, Some, slice_get}
use Rattle.cw_tree.specs.declared.access.Entry.{Entry}
use Rattle.cw_steps.specs.Leaving.{HasReturned, IsFoundJournal}
use Rattle.cw_steps.specs.Stands.{token_of}
use Rattle.cw_steps.specs.Views.{key_of, view_of, IsQuiet, IsTokenOf}
use Rattle.cw_steps.proofs.table.Shared.journals.Given as goal

-- the journals of the cells before this one
abbrev pub invariant-loop-cell : goal.invariant-loop-cell
invariant-loop-cell l = record {
  many : length l.journals.items ≡ l.cell;
  each : (n : ℕ) (es : List Entry) → slice_get l.journals.items n ≡ Some es → IsFoundJournal (key_of l.self) l.fn.token.seat.me n es;
  table : IsTokenOf l.self l.token;
  quiet : IsQuiet (view_of l.token);
  looked : HasReturned l.fn.token.seat.me l.token.seat.me;
  room : l.token.track.room ≡ l.fn.token.track.room;
  token : token_of l.token ≡ token_of l.fn.token;
}
