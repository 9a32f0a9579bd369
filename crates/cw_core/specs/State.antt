-- What a caller sees of a core: the state of the open machine, the tier and the gap words that represent its tree, and how it may
-- stop.
use Rattle.std.specs.Prelude.{ℕ, ℤ, ◌+◌, ◌==◌, ◌&&◌, Bool, not, nat_lt, nat_le, List, [], map, filter, replicate, Option, None, find}
use Rattle.std.specs.List.{list_any}
use Rattle.std.specs.Option.{option_map}
use Rattle.cw_tree.specs.declared.closed.Halt.{Halt}
use Rattle.cw_tree.specs.declared.conflict.Conflict.{Conflict}
use Rattle.cw_tree.specs.Nodes.{parent_of}
use Rattle.cw_tree.specs.Walks.{has}
use Rattle.cw_tree.specs.Series.{strand_of, children}
use Rattle.cw_tree.specs.Refusals.{refused_node}
use Rattle.cw_trace.specs.Columns.{ColumnTable, used, gap, first_tier}
use Rattle.cw_trace.specs.Stands.{column, fork_column}
use Rattle.cw_open.specs.Machine.{OpenMachine, has_finished}
use Rattle.cw_open.specs.Steps.{first_machine}

pub record CoreState : Type 0 where
  pub machine : OpenMachine
  pub tier : ColumnTable
  pub words : List ℕ
  -- the forks that were split, by their left columns
  pub splits : List ℕ
  -- how often a block or an access may be refused
  pub budget : ℕ
  pub halt : Option Halt

-- a core before its first event: one strand, with room for `room` columns
abbrev pub start : List ℤ → (room budget : ℕ) → CoreState
start first room budget = record { machine = first_machine first; tier = first_tier room; words = replicate room 0; splits = []; budget = budget; halt = None }

-- ## Columns

-- the column of the strand that node n belongs to, and the gap that it uses
abbrev pub column_of : CoreState → ℕ → ℕ
column_of k n = column k.machine.tree (used k.tier) n

abbrev pub gap_of : CoreState → ℕ → ℕ
gap_of k n = gap k.tier (column_of k n)

-- a fork gets columns while two are left
abbrev pub has_columns : CoreState → ℕ → Bool
has_columns k f = nat_le (fork_column k.machine.tree f + 2) k.tier.room

abbrev pub is_split : CoreState → ℕ → Bool
is_split k f = has_columns k f && has k.splits (fork_column k.machine.tree f)

-- the joined forks that have columns, by their left columns
abbrev pub joined_columns : CoreState → List ℕ
joined_columns k = map (fork_column k.machine.tree) (filter (has_columns k) k.machine.joined)

-- ## Strands

-- the left strand of the fork of strand s has not finished, and the fork is not split
abbrev pub waits_for_left : CoreState → ℕ → Bool
waits_for_left k s =
    not (is_split k (parent_of k.machine.tree s))
    && list_any (λ l. nat_lt l s && not (has_finished k.machine l)) (children k.machine.tree (parent_of k.machine.tree s))

-- the conflict that refused the last attempt which a block or an access has
abbrev pub last_refusal : CoreState → Option Conflict
last_refusal k = find (λ c. c.attempt == k.budget) k.machine.conflicts

-- the strand that has spent its budget: that of the block, or of the access
abbrev pub spent : CoreState → Option ℕ
spent k = option_map (λ c. strand_of k.machine.tree (refused_node k.machine.tree c)) (last_refusal k)
