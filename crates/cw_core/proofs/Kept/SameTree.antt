-- The parts of a core that stay as they are where no node comes and no block is closed.
use Rattle.std.proofs.Common.{◌≡◌, ℕ, ◌+◌, List, ap, ◌∙◌, Bool, Option}
use Rattle.std.specs.Prelude.{nat_le}
use Rattle.cw_tree.specs.declared.node.Node.{Node}
use Rattle.cw_tree.specs.declared.access.Entry.{Entry}
use Rattle.cw_tree.specs.declared.closed.Halt.{Halt}
use Rattle.cw_trace.specs.Columns.{ColumnTable, used}
use Rattle.cw_trace.specs.Stands.{fork_column, column}
use Rattle.cw_stack.specs.Cells.{CellParts}
use Rattle.cw_core.specs.declared.row.Made.{Made}
use Rattle.cw_core.specs.State.{CoreState}
use Rattle.cw_core.specs.Kept.{IsMade, AreForks, IsEntryOf, IsHeld}

module _ (k : CoreState) (finished : List (ℕ × Bool)) (joined stopped : List ℕ) (tier : ColumnTable) (splits : List ℕ) (halt : Option Halt) (same : used tier ≡ used k.tier) (room : tier.room ≡ k.tier.room) where
  abbrev pub with_same_tree : CoreState
  with_same_tree = record k { machine = record k.machine { finished = finished; joined = joined; stopped = stopped }; tier = tier; splits = splits; halt = halt }

  abbrev t : List Node
  t = k.machine.tree

  pub made_same : (n : ℕ) (r : Made) → IsMade k n r → IsMade with_same_tree n r
  made_same n r w = record {
    strand = w.strand;
    column = λ e. ap (λ u. column t u n) same ∙ w.column e;
    elder = w.elder;
    halves = w.halves;
    columns = λ e. ap (λ m. nat_le (fork_column t n + 2) m) room ∙ w.columns e;
    forked = w.forked;
    attempt = w.attempt;
  }

  pub forks_same : (fs : List ℕ) → AreForks k fs → AreForks with_same_tree fs
  forks_same fs w = record { count = same ∙ w.count; each = w.each }

  pub entry_same : (c : ℕ) (e : Entry) → IsEntryOf k c e → IsEntryOf with_same_tree c e
  entry_same c e w = record { node = w.node; touches = w.touches; stamp = w.stamp; wrote = w.wrote; strand = ap (λ u. column t u w.node) same ∙ w.strand }

  pub held_same : (c : ℕ) (cell : CellParts) → IsHeld k c cell → IsHeld with_same_tree c cell
  held_same c cell w = record { whole = w.whole; entries = λ i e at. entry_same c e (w.entries i e at) }
