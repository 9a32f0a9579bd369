-- The steps of the open machine, and what each does. A step carries its stamp, so drawing a number from the clock is no step.
use Rattle.cw_code.specs.declared.Back.{Back}
use Rattle.std.specs.Prelude.{ℕ, ℤ, Bool, not, max, List, [], ◌∷◌, ◌++◌, length, map, filter, slice_set, Option}
use Rattle.std.specs.Option.{option_map_or}
use Rattle.cw_tree.specs.declared.node.Node.{Node}
use Rattle.cw_tree.specs.declared.node.Kind.TheVariants.{Strand, Block, Out, Tried, Cancel}
use Rattle.cw_tree.specs.declared.node.BlockState.{BlockState}
use Rattle.cw_tree.specs.declared.node.BlockState.TheVariants.{Committed, Aborted}
use Rattle.cw_tree.specs.declared.conflict.Conflict.{Conflict}
use Rattle.cw_tree.specs.Nodes.{stamp_of, fresh_node, closed}
use Rattle.cw_tree.specs.Walks.{is_above}
use Rattle.cw_tree.specs.Series.{place}
use Rattle.cw_tree.specs.Attempts.{attempt_of}
use Rattle.cw_tree.specs.Cancels.{put_back}
use Rattle.cw_tree.specs.AccessStacks.{access_kind, access_at}
use Rattle.cw_tree.specs.VictimsAt.{victim_at}
use Rattle.cw_tree.specs.NextNodes.{fork_nodes}
use Rattle.cw_open.specs.Machine.{OpenMachine, live, live_value}

-- what a refused access met: the last access of its cell and a pending block that stood in the way, by their stamps,
-- and the newest accesses
pub record Met : Type 0 where
  pub last : ℕ
  pub block : ℕ
  pub chain : List ℕ

pub data Step : Type 0 where
  forks : (strand stamp : ℕ) → Step
  begins : (strand stamp : ℕ) → Step
  accesses : (strand cell : ℕ) → (write : Option ℤ) → (stamp : ℕ) → Step
  -- an access is refused
  refuses : (strand cell : ℕ) → (write : Option ℤ) → (met : Met) → Step
  outputs : (strand : ℕ) → (value : ℤ) → (stamp : ℕ) → Step
  -- the strand's innermost pending block is given up: a leaf tells what is to be put back, and the block stays pending
  cancels : (strand stamp : ℕ) → Step
  commits : (strand stamp : ℕ) → Step
  -- what the strand's innermost pending block did to a cell is undone
  undoes : (strand cell : ℕ) → Step
  aborts : (strand stamp : ℕ) → Step
  finishes : (strand : ℕ) → (dead : Bool) → Step
  joins : (fork : ℕ) → Step
  stops : (strand : ℕ) → Step

-- adds nodes, the first with the stamp
abbrev pub adds : OpenMachine → List Node → ℕ → OpenMachine
adds m xs stamp = record m { tree = m.tree ++ xs; clock = max m.clock stamp }

-- closes the block that strand s is in
abbrev pub closes : OpenMachine → ℕ → BlockState → ℕ → OpenMachine
closes m s state end = record m { tree = closed m.tree (place m.tree s) state end; clock = max m.clock end }

-- the conflict of an access of cell c that is refused at place p
abbrev pub refusal : OpenMachine → ℕ → ℕ → Met → Conflict
refusal m p c met =
    let victim = victim_at m.tree (access_at m.tree met.last) p in
    record {
      cell = c;
      last = met.last;
      asker = length m.tree;
      block = met.block;
      victim = option_map_or (stamp_of m.tree) victim 0;
      attempt = attempt_of (m.tree ++ fresh_node p (Tried c) 0 ∷ []) (length m.tree) victim;
      chain = met.chain;
    }

-- the live accesses of cell c that are not beneath node b
abbrev pub live_beside : OpenMachine → ℕ → ℕ → List ℕ
live_beside m b c = filter (λ s. not (is_above m.tree b (access_at m.tree s))) (live m c)

-- what the block that strand s is in puts back, if it is given up at a stamp
abbrev pub puts_back : OpenMachine → (s stamp : ℕ) → List Back
puts_back m s stamp = put_back m.tree m.first (λ c. map (access_at m.tree) (live m c)) (place m.tree s) stamp

-- the state after a step
abbrev pub after_open_step : OpenMachine → Step → OpenMachine
after_open_step m (forks s stamp) = adds m (fork_nodes (length m.tree) (place m.tree s) stamp) stamp
after_open_step m (begins s stamp) = adds m (fresh_node (place m.tree s) Block stamp ∷ []) stamp
after_open_step m (accesses s c w stamp) =
    record (adds m (fresh_node (place m.tree s) (access_kind c w (live_value m c)) stamp ∷ []) stamp) { lists = slice_set m.lists c (live m c ++ stamp ∷ []) }
after_open_step m (refuses s c w met) =
    record m { tree = m.tree ++ fresh_node (place m.tree s) (Tried c) 0 ∷ []; conflicts = m.conflicts ++ refusal m (place m.tree s) c met ∷ [] }
after_open_step m (outputs s v stamp) = adds m (fresh_node (place m.tree s) (Out v) stamp ∷ []) stamp
after_open_step m (cancels s stamp) = adds m (fresh_node (place m.tree s) (Cancel (puts_back m s stamp)) stamp ∷ []) stamp
after_open_step m (commits s stamp) = closes m s Committed stamp
after_open_step m (undoes s c) = record m { lists = slice_set m.lists c (live_beside m (place m.tree s) c) }
after_open_step m (aborts s stamp) = closes m s Aborted stamp
after_open_step m (finishes s dead) = record m { finished = (s, dead) ∷ m.finished }
after_open_step m (joins f) = record m { joined = f ∷ m.joined }
after_open_step m (stops s) = record m { stopped = s ∷ m.stopped }

-- the state after steps, one after another
abbrev pub after_all : OpenMachine → List Step → OpenMachine
after_all m [] = m
after_all m (e ∷ es) = after_all (after_open_step m e) es

-- before the first step: the root strand alone
abbrev pub first_machine : List ℤ → OpenMachine
first_machine first = record {
  first = first;
  tree = fresh_node 0 Strand 0 ∷ [];
  lists = map (λ v. []) first;
  clock = 0;
  conflicts = [];
  finished = [];
  joined = [];
  stopped = [];
}
