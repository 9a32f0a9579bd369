-- The state of the open machine, and where its strands are.
use Rattle.std.specs.Prelude.{ℕ, ℤ, pos, ◌==◌, ◌&&◌, Bool, not, List, [], ◌∷◌, map, slice_get, unwrap_or}
use Rattle.std.specs.List.{list_any}
use Rattle.cw_tree.specs.declared.node.Node.{Node}
use Rattle.cw_tree.specs.declared.conflict.Conflict.{Conflict}
use Rattle.cw_tree.specs.Nodes.{is_pending, is_fork, is_strand, all_nodes}
use Rattle.cw_tree.specs.Walks.{has, is_ancestor, is_above}
use Rattle.cw_tree.specs.Series.{strand_of, place}
use Rattle.cw_tree.specs.Accesses.{written, cell_value}
use Rattle.cw_tree.specs.AccessStacks.{access_at}
use Rattle.cw_tree.specs.Refusals.{is_victim}

pub record OpenMachine : Type 0 where
  -- the cells' first values
  pub first : List ℤ
  pub tree : List Node
  -- the stamps of each cell's live accesses, oldest first
  pub lists : List (List ℕ)
  -- no stamp is greater
  pub clock : ℕ
  -- the refused accesses, oldest first
  pub conflicts : List Conflict
  -- the strands that finished, and whether dead
  pub finished : List (ℕ × Bool)
  -- the forks that were joined
  pub joined : List ℕ
  -- the strands that stopped
  pub stopped : List ℕ

-- ## Cells

-- the live accesses of cell c
abbrev pub live : OpenMachine → ℕ → List ℕ
live m c = unwrap_or (slice_get m.lists c) []

-- the value of cell c: what its live accesses left of its first one
abbrev pub live_value : OpenMachine → ℕ → ℤ
live_value m c = cell_value (unwrap_or (slice_get m.first c) (pos 0)) (map (λ s. written m.tree (access_at m.tree s)) (live m c))

-- ## Strands

abbrev pub has_finished : OpenMachine → ℕ → Bool
has_finished m s = list_any (λ f. f.0 == s) m.finished

abbrev pub finished_dead : OpenMachine → ℕ → Bool
finished_dead m s = list_any (λ f. (f.0 == s) && f.1) m.finished

-- a fork that strand s made was not joined
abbrev pub waits : OpenMachine → ℕ → Bool
waits m s = list_any (λ f. is_fork m.tree f && (strand_of m.tree f == s) && not (has m.joined f)) (all_nodes m.tree)

abbrev pub is_running : OpenMachine → ℕ → Bool
is_running m s = is_strand m.tree s && not (has_finished m s) && not (waits m s) && not (has m.stopped s)

-- strand s has a pending block of its own
abbrev pub in_block : OpenMachine → ℕ → Bool
in_block m s = not (place m.tree s == s)

-- block b is pending, and is the victim of conflict c
abbrev pub falls : OpenMachine → Conflict → ℕ → Bool
falls m c b = is_pending m.tree b && is_victim m.tree (c ∷ []) b

-- a strand is dying while a refused access beneath it has a victim that is still pending
abbrev pub is_dying : OpenMachine → ℕ → Bool
is_dying m s = list_any (λ c. is_above m.tree s c.asker && list_any (falls m c) (all_nodes m.tree)) m.conflicts

-- the strand may go on with its own work
abbrev pub is_free : OpenMachine → ℕ → Bool
is_free m s = is_running m s && not (is_dying m s)

-- a refused access beneath strand s has a victim that is still pending, which is block b or above it
abbrev pub leads_back : OpenMachine → ℕ → ℕ → Bool
leads_back m s b = list_any (λ c. is_above m.tree s c.asker && list_any (λ v. falls m c v && is_ancestor m.tree v b) (all_nodes m.tree)) m.conflicts

-- strand s has to roll back the block that it is in
abbrev pub rolls_back : OpenMachine → ℕ → Bool
rolls_back m s = is_running m s && in_block m s && leads_back m s (place m.tree s)
