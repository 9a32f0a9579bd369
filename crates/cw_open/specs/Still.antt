-- What a conflict refused stays as it was when refused, while others step.
use Rattle.std.specs.Prelude.{◌≡◌, false, Contains}
use Rattle.cw_tree.specs.declared.conflict.Conflict.{Conflict}
use Rattle.cw_tree.specs.Series.{strand_of}
use Rattle.cw_tree.specs.Refusals.{victim_of, refused_node}
use Rattle.cw_open.specs.Steps.{after_open_step}
use Rattle.cw_open.specs.Spent.{StandsStill}
use Rattle.cw_open.specs.Hands.{OfEachStep, is_step_of}

-- if what a conflict refused is as it was when refused, each step of another strand than its own leaves it so
abbrev pub StillStays : Type 0
StillStays =
    OfEachStep (λ m e. (c : Conflict) → Contains m.conflicts c → is_step_of (strand_of m.tree (refused_node m.tree c)) e ≡ false
    → StandsStill m c (victim_of c) → StandsStill (after_open_step m e) c (victim_of c))
