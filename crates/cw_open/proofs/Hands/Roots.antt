-- The root is its own parent in each state.
use Rattle.std.proofs.Common.{◌≡◌, List, refl, ◌∙◌}
use Rattle.std.specs.Prelude.{ℤ}
use Rattle.cw_tree.specs.Nodes.{parent_of}
use Rattle.cw_open.specs.Machine.{OpenMachine}
use Rattle.cw_open.specs.Runs.{at_any_time}
use Rattle.cw_open.specs.Laws.{RootsStay}
use Rattle.cw_open.proofs.Runs.States.{IsState, state_opening, state_after, by_run}
use Rattle.cw_open.proofs.Hands.Judged.{still_after}

-- a state whose root is its own parent
record HasRoot (first : List ℤ) (m : OpenMachine) : Type 0 where
  state : IsState first m
  root : parent_of m.tree 0 ≡ 0

pub roots_stay : RootsStay
roots_stay asked first m reached =
    (by_run (at_any_time asked) first (HasRoot first) (record { state = state_opening first; root = refl })
    (λ m e w a. record {
      state = state_after (at_any_time asked) first m e w.state a;
      root = (still_after m w.state.well.sound.tree.rooted e).stays.parents 0 w.state.well.sound.tree.some ∙ w.root;
    }) m reached).root
