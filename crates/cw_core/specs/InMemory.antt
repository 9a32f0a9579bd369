-- The state of a core, by its fields.
use Rattle.std.specs.Prelude.{map}
use Rattle.cw_tree.specs.AccessStacks.{stamps}
use Rattle.cw_core.specs.declared.cores.Core.TheInside.{Inside}
use Rattle.cw_core.specs.State.{CoreState}
use Rattle.cw_core.specs.Kept.{AreParts, stopped_by}

abbrev pub state_of : Inside → CoreState
state_of a = record {
  machine = record {
    first = map (λ c. c.first) a.cells.items;
    tree = a.tree;
    lists = map (λ c. stamps c.entries) a.cells.items;
    clock = a.clock;
    conflicts = a.conflicts.items;
    finished = a.finished;
    joined = a.joined;
    stopped = stopped_by a.halt;
  };
  tier = a.tier.columns;
  words = a.gaps.words.items;
  splits = a.splits;
  budget = a.budget;
  halt = a.halt;
}

abbrev pub IsCoreInMemory : Inside → Type 0
IsCoreInMemory a = AreParts (state_of a) a.rows.items a.forks.items a.cells.items a.spent
