-- A strand of a fork has finished: the two join, or the worker is idle.
use Rattle.std.proofs.Common.{◌≡◌, ℕ, ◌<◌, length, ap, sym, ◌∙◌, subst, arith, Bool, true, false, None}
use Rattle.std.specs.Prelude.{◌&&◌, slice_set}
use Rattle.std.proofs.lemmas.Bool.{and_from}
use Rattle.cw_tree.proofs.InOrder.DepthFirst.{IsChild}
use Rattle.cw_open.specs.Machine.{has_finished}
use Rattle.cw_core.specs.State.{CoreState}
use Rattle.cw_core.proofs.Events.Going.{well}
use Rattle.cw_sim.specs.Workers.{left_node, right_node, worker_in}
use Rattle.cw_sim.specs.Moves.{join_strands, join_or_idle}
use Rattle.cw_sim.specs.InMemory.{Seen, law_of, Comes, MayMeet, MayJoin}
use Rattle.cw_sim.specs.WorkersInMemory.{workers_of}
use Rattle.cw_sim.specs.declared.moves.Driver.{Driver}
use Rattle.cw_sim.proofs.Kept.Halves.{right_child}
use Rattle.cw_sim.proofs.InMemory.Working.{run_stands}

module _ (c : Driver) (w f : ℕ) (z : Seen) (may : MayMeet c w f z) where
  abbrev k : CoreState
  k = z.m.core

  right : IsChild k.machine.tree f (right_node f)
  right = right_child k.machine.tree (well k.machine.first k may.steady.core.core).sound.tree may.steady.core.forks f may.fork

  -- its strands are nodes
  pub nodes_there : right_node f < length c.core.machine.tree
  nodes_there = let h = right.there in omega (arith, ap (λ j. length j.machine.tree) may.steady.stands.core)

  abbrev left_done : CoreState → Bool
  left_done j = has_finished j.machine (left_node f)

  abbrev right_done : CoreState → Bool
  right_done j = has_finished j.machine (right_node f)

  -- where both have finished in memory, they may join
  pub may_join : left_done c.core ≡ true → right_done c.core ≡ true → MayJoin c w f z
  may_join left right = record { meet = may; left = sym (ap left_done may.steady.stands.core) ∙ left; right = sym (ap right_done may.steady.stands.core) ∙ right }

  meets_as : (b : Bool) → (left_done c.core && right_done c.core) ≡ b → (d : Driver) → Comes d z (join_or_idle (law_of z) w f b z.m) → Comes d z (join_or_idle (law_of z) w f (left_done k && right_done k) z.m)
  meets_as b e d comes =
      let P : Bool → Type 0 = λ b. Comes d z (join_or_idle (law_of z) w f b z.m) in
      subst P (sym e ∙ ap (λ j. left_done j && right_done j) may.steady.stands.core) comes

  -- so they do
  pub met_joins : left_done c.core ≡ true → right_done c.core ≡ true → (d : Driver) → (MayJoin c w f z → Comes d z (join_strands (law_of z) w f z.m)) → Comes d z (join_or_idle (law_of z) w f (left_done k && right_done k) z.m)
  met_joins left right d comes = meets_as true (and_from (left_done c.core) (right_done c.core) left right) d (comes (may_join left right))

  -- else the worker is idle
  pub met_alone : (left_done c.core && right_done c.core) ≡ false → (new : Driver)
      → workers_of new.workers.items ≡ slice_set (workers_of c.workers.items) w (record (worker_in (workers_of c.workers.items) w) { runs = None })
      → Comes (record c { workers = new.workers }) z (join_or_idle (law_of z) w f (left_done k && right_done k) z.m)
  met_alone e new workers = meets_as false e (record c { workers = new.workers }) (z.there, (run_stands c z may.steady.stands new w None workers, may.steady.inside))
