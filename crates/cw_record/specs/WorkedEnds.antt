-- Small records with each of the ends that are not main's own: a fault, a budget that was spent in a block and one that was spent
-- by an access, and moves that were used up. Each is coherent, and is not if one thing is changed.
use Rattle.std.specs.Prelude.{◌≡◌, ℕ, ℤ, List, [], ◌∷◌, ◌++◌, pos, true, false}
use Rattle.cw_code.specs.declared.FaultKind.TheVariants.{Zero, Overflow}
use Rattle.cw_strand.specs.declared.want.Want.TheVariants.{Load, Store, Out as Shows, Begin, End, Fault as Fails}
use Rattle.cw_strand.specs.Strands.{IsDeep}
use Rattle.cw_tree.specs.declared.node.Node.{Node}
use Rattle.cw_tree.specs.declared.node.Kind.TheVariants.{Strand, Fork, Read, Write, Out, Tried}
use Rattle.cw_tree.specs.declared.access.Entry.{Entry}
use Rattle.cw_tree.specs.declared.conflict.Conflict.{Conflict}
use Rattle.cw_tree.specs.Worked.{plain, pending, aborted}
use Rattle.cw_record.specs.declared.record_end.RecordEnd.{RecordEnd}
use Rattle.cw_record.specs.declared.record_end.RecordEnd.TheVariants.{Fault, Budget, Moves}
use Rattle.cw_record.specs.declared.items.OrderItem.TheVariants.{Begins, Does}
use Rattle.cw_record.specs.Items.{items}
use Rattle.cw_record.specs.Coherent.{IsCoherent}
use Rattle.cw_record.specs.Scripts.{Script, done, sync, act, fork, scripted}

-- the depth of every script is one
abbrev pub AreDeep : Type 0
AreDeep = (main : Script) → IsDeep (scripted main)

abbrev pub entry : (stamp : ℕ) → (value old : ℤ) → Entry
entry stamp value old = record { mark = record { strand = 0; stamp = stamp }; wrote = true; value = value; old = old }

abbrev pub met : (stamp : ℕ) → (value : ℤ) → Entry
met stamp value = record { mark = record { strand = 0; stamp = stamp }; wrote = false; value = value; old = value }

-- ## A fault in a block that a sibling strand was about to roll back
--
-- cell c; cell d; fn main() { spawn { atomic { c = 1; c = 2; } } atomic { spawn { c = 3; } d = 1 / d; } }

abbrev pub divides : Script
divides =
    fork (act Begin (act (Store 0 (pos 1)) (act (Store 0 (pos 2)) (act End done))))
    (act Begin (fork (act (Store 0 (pos 3)) done) (act (Load 1) (act (Fails Zero) (sync (act End (sync done)))))))

-- The left strand wrote c. The left strand of the right one was refused. The right strand of the right one read d, with this value.
-- `0.1r` began this block.
abbrev pub divided : Node → (value : ℤ) → List Node
divided block value =
    plain 0 Strand 0 ∷ plain 0 Fork 1 ∷ plain 1 Strand 0 ∷ pending 2 2 ∷ plain 3 (Write 0 (pos 1)) 3 ∷ plain 1 Strand 0 ∷ block ∷ plain 6 Fork 5
    ∷ plain 7 Strand 0 ∷ plain 8 (Tried 0) 0 ∷ plain 7 Strand 0 ∷ plain 10 (Read 1 value) 6 ∷ []

abbrev pub refused_in_block : Conflict
refused_in_block = record { cell = 0; last = 3; asker = 9; block = 2; victim = 4; attempt = 1; chain = 3 ∷ [] }

-- such a record is coherent, with this journal of d
abbrev pub Divides : Node → (value : ℤ) → (of_d : List Entry) → RecordEnd → Type 0
Divides block value of_d e =
    IsCoherent (scripted divides) (pos 0 ∷ pos 0 ∷ []) 2 (divided block value) ((entry 3 (pos 1) (pos 0) ∷ []) ∷ of_d ∷ []) (refused_in_block ∷ []) e

pub record AtFault : Type 0 where
  pub holds : Divides (pending 5 4) (pos 0) (met 6 (pos 0) ∷ []) (Fault 10 Zero)
  pub order : items (divided (pending 5 4) (pos 0)) (refused_in_block ∷ []) 2 (Fault 10 Zero) ≡ Begins 6 ∷ Does 11 ∷ []
  -- not if the block was rolled back, although d then has no live access; nor for a node that is no strand, nor with a fault other
  -- than that strand's, nor with a value that d did not have
  pub rolled_back : Divides (aborted 5 4 7) (pos 0) [] (Fault 10 Zero) → ⊥
  pub no_strand : Divides (pending 5 4) (pos 0) (met 6 (pos 0) ∷ []) (Fault 11 Zero) → ⊥
  pub other_kind : Divides (pending 5 4) (pos 0) (met 6 (pos 0) ∷ []) (Fault 10 Overflow) → ⊥
  pub other_value : Divides (pending 5 4) (pos 1) (met 6 (pos 0) ∷ []) (Fault 10 Zero) → ⊥

-- ## A budget that is spent in a strand that waits for its fork
--
-- cell c; fn main() { spawn { atomic { c = 1; } } atomic { spawn { c = 2; } } }

abbrev pub spawns : Script
spawns =
    fork (act Begin (act (Store 0 (pos 1)) (act End done)))
    (act Begin (fork (act (Store 0 (pos 2)) done) (sync (act End (sync done)))))

-- The strand that `0.1r` spawned was refused, and its right one never started.
abbrev pub spawned : List Node
spawned =
    plain 0 Strand 0 ∷ plain 0 Fork 1 ∷ plain 1 Strand 0 ∷ pending 2 2 ∷ plain 3 (Write 0 (pos 1)) 3 ∷ plain 1 Strand 0 ∷ pending 5 4 ∷ plain 6 Fork 5
    ∷ plain 7 Strand 0 ∷ plain 8 (Tried 0) 0 ∷ plain 7 Strand 0 ∷ []

abbrev pub Spawns : (budget : ℕ) → RecordEnd → Type 0
Spawns budget e = IsCoherent (scripted spawns) (pos 0 ∷ []) budget spawned ((entry 3 (pos 1) (pos 0) ∷ []) ∷ []) (refused_in_block ∷ []) e

pub record AtVictim : Type 0 where
  pub holds : Spawns 1 (Budget 5)
  pub order : items spawned (refused_in_block ∷ []) 1 (Budget 5) ≡ []
  -- not with another budget, nor for the strand that was refused, which did not begin the victim
  pub other_budget : Spawns 2 (Budget 5) → ⊥
  pub asker : Spawns 1 (Budget 8) → ⊥

-- ## A budget that is spent by an access, inside a pending block
--
-- cell c; fn main() { atomic { spawn { atomic { c = 1; } } c = 2; } }

abbrev pub writes : Script
writes = act Begin (fork (act Begin (act (Store 0 (pos 1)) (act End done))) (act (Store 0 (pos 2)) (sync (act End done))))

abbrev pub written : List Node
written =
    plain 0 Strand 0 ∷ pending 0 1 ∷ plain 1 Fork 2 ∷ plain 2 Strand 0 ∷ pending 3 3 ∷ plain 4 (Write 0 (pos 1)) 4 ∷ plain 2 Strand 0 ∷ plain 6 (Tried 0) 0 ∷ []

-- no block has to be rolled back
abbrev pub refused_alone : Conflict
refused_alone = record { cell = 0; last = 4; asker = 7; block = 3; victim = 0; attempt = 1; chain = 4 ∷ [] }

abbrev pub WritesTwice : Conflict → RecordEnd → Type 0
WritesTwice c e = IsCoherent (scripted writes) (pos 0 ∷ []) 1 written ((entry 4 (pos 1) (pos 0) ∷ []) ∷ []) (c ∷ []) e

pub record AtAccess : Type 0 where
  pub holds : WritesTwice refused_alone (Budget 6)
  pub order : items written (refused_alone ∷ []) 1 (Budget 6) ≡ Begins 1 ∷ []
  -- not for the node that was refused, which is no strand; nor for the block around both, which is no victim
  pub no_strand : WritesTwice refused_alone (Budget 7) → ⊥
  pub victim : WritesTwice (record refused_alone { victim = 1 }) (Budget 0) → ⊥

-- ## Moves that are used up before main has ended
--
-- cell c; fn main() { c = c + 1; out c; }

abbrev pub counts : Script
counts = act (Load 0) (act (Store 0 (pos 1)) (act (Load 0) (act (Shows (pos 1)) done)))

-- four nodes after the root; the third of them read this value
abbrev pub counted : (value : ℤ) → List Node
counted value = plain 0 Strand 0 ∷ plain 0 (Read 0 (pos 0)) 1 ∷ plain 0 (Write 0 (pos 1)) 2 ∷ plain 0 (Read 0 value) 3 ∷ plain 0 (Out (pos 1)) 4 ∷ []

-- the same with another output; below, with a fork after it
abbrev pub shown_otherwise : List Node
shown_otherwise = plain 0 Strand 0 ∷ plain 0 (Read 0 (pos 0)) 1 ∷ plain 0 (Write 0 (pos 1)) 2 ∷ plain 0 (Read 0 (pos 1)) 3 ∷ plain 0 (Out (pos 2)) 4 ∷ []

abbrev pub with_fork : List Node
with_fork = counted (pos 1) ++ plain 0 Fork 5 ∷ plain 5 Strand 0 ∷ plain 5 Strand 0 ∷ []

abbrev pub Counts : List Node → Type 0
Counts t = IsCoherent (scripted counts) (pos 0 ∷ []) 1 t ((met 1 (pos 0) ∷ entry 2 (pos 1) (pos 0) ∷ met 3 (pos 1) ∷ []) ∷ []) [] Moves

pub record AtMoves : Type 0 where
  pub holds : Counts (counted (pos 1))
  pub order : items (counted (pos 1)) [] 1 Moves ≡ Does 1 ∷ Does 2 ∷ Does 3 ∷ Does 4 ∷ []
  -- not with the value from before the write, nor with an output or a fork that main did not want
  pub old_value : Counts (counted (pos 0)) → ⊥
  pub output : Counts shown_otherwise → ⊥
  pub fork : Counts with_fork → ⊥

-- each end: scripts are deep, and a record with that end is coherent
pub record Ends : Type 0 where
  pub deep : AreDeep
  pub fault : AtFault
  pub victim : AtVictim
  pub access : AtAccess
  pub moves : AtMoves
