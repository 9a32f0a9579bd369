-- A strand accesses a cell: it is answered, or stands where it stood while its access is refused.
use Rattle.std.proofs.Common.{◌≡◌, ℕ, ◌<◌, [], ◌∷◌, ◌++◌, length, refl, ap, sym, ◌∙◌, subst, Bool, true, false, cond, Option, Some, None}
use Rattle.std.specs.Prelude.{◌&&◌, ℤ, unwrap_or}
use Rattle.std.specs.Option.{option_map_or}
use Rattle.std.proofs.lemmas.Bool.{and_left}
use Rattle.cw_strand.specs.declared.want.Given.{Given}
use Rattle.cw_strand.specs.declared.want.Want.{Want}
use Rattle.cw_strand.specs.declared.want.Want.TheVariants.{End}
use Rattle.cw_strand.specs.Strands.{Strands, IsAnswer, given_for}
use Rattle.cw_tree.specs.declared.closed.Halt.TheVariants as halt
use Rattle.cw_tree.specs.declared.conflict.Conflict.{Conflict}
use Rattle.cw_tree.specs.declared.node.Node.{Node}
use Rattle.cw_tree.specs.declared.node.Kind.TheVariants.{Tried}
use Rattle.cw_tree.specs.Nodes.{is_block_kind, is_pending_state, fresh_node}
use Rattle.cw_tree.specs.Series.{place}
use Rattle.cw_tree.specs.AccessStacks.{access_kind}
use Rattle.cw_open.specs.Machine.{live_value}
use Rattle.cw_open.specs.Steps.{refuses, accesses as makes, refusal, after_all}
use Rattle.cw_core.specs.declared.event.Event.{Event}
use Rattle.cw_core.specs.declared.event.Event.TheVariants as event
use Rattle.cw_core.specs.declared.event.Reply.{Reply}
use Rattle.cw_core.specs.declared.event.Reply.TheVariants as reply
use Rattle.cw_core.specs.State.{CoreState, spent}
use Rattle.cw_core.specs.Events.{fits, after_event, reply_to, is_met, met_by, next}
use Rattle.cw_core.specs.Laws.{IsCore}
use Rattle.cw_sim.specs.Workers.{Simulation, changed_at}
use Rattle.cw_sim.specs.Moves.{does, meets_cell, stop_if_spent, access_cell}
use Rattle.cw_sim.specs.Kept.{CoreGoesOn}
use Rattle.cw_sim.specs.Laws.{NamesCell}
use Rattle.cw_sim.specs.Inside.{HasInside}
use Rattle.cw_sim.specs.InMemory.{Seen, StandsFor, Comes, MayDo, MayAnswer, law_of, answered, access_of}
use Rattle.cw_sim.specs.declared.moves.Driver.{Driver}
use Rattle.cw_sim.proofs.Laws.Fits.{free, access_fits}
use Rattle.cw_sim.proofs.InMemory.Acts.{fits_there, is_after, left_may}
use Rattle.cw_sim.proofs.InMemory.Left as left
use Rattle.cw_sim.proofs.InMemory.Still.{still_stands, stop_inside}
use Rattle.cw_sim.proofs.Inside.Kept.{more_left}
use Rattle.cw_sim.proofs.Inside.Moves.{access_inside, refused_inside}
use Rattle.cw_sim.proofs.Inside.Quiet.{IsLeft}
use Rattle.cw_sim.proofs.Kept.Leaves.{IsMore}
use Rattle.cw_sim.proofs.Kept.Quiet.{access_more, refused_more}

-- ## The want of an access

names_cell : (cells cell : ℕ) (write : Option ℤ) → NamesCell cells (access_of cell write) → cell < cells
names_cell cells cell None low = low
names_cell cells cell (Some v) low = low

is_answer : (elements cell : ℕ) (write : Option ℤ) (v : ℤ) → IsAnswer elements (access_of cell write) (given_for write v)
is_answer elements cell None v = tt
is_answer elements cell (Some w) v = tt

no_end : (cell : ℕ) (write : Option ℤ) → access_of cell write ≡ End → ⊥
no_end cell None e = cc
no_end cell (Some w) e = cc

access_plain : (cell : ℕ) (write : Option ℤ) (v : ℤ) → is_block_kind (access_kind cell write v) ≡ false
access_plain cell None v = refl
access_plain cell (Some w) v = refl

-- ## The reply

-- a conflict, or this value
abbrev reply_by : Conflict → ℤ → Bool → Reply
reply_by d u b = cond b (reply.Conflict d) (reply.Value u)

-- a value comes where the access is not met
made_by : (d : Conflict) (u v : ℤ) (b : Bool) → reply_by d u b ≡ reply.Value v → b ≡ false
made_by d u v true e = absurd (cc e)
made_by d u v false e = refl

-- and where none comes it is met
refused_by : (d : Conflict) (u : ℤ) (b : Bool) (r : Reply) → r ≡ reply_by d u b → ((v : ℤ) → r ≡ reply.Value v → ⊥) → b ≡ true
refused_by d u true r e off = refl
refused_by d u false r e off = absurd (off u e)

-- where the run stops for a budget, if it does, strands stay inside their blocks
spent_inside : {A : Type 0} (s : Strands A) (m : Simulation A) (there : ℕ → A) (o : Option ℕ) → HasInside s m there → HasInside s (option_map_or (λ x. does (event.Stop (halt.Budget x)) m) o m) there
spent_inside s m there None old = old
spent_inside s m there (Some x) old = stop_inside s m (halt.Budget x) there old

module _ (c : Driver) (x cell : ℕ) (write : Option ℤ) (z : Seen) (may : MayDo c x (access_of cell write) z) where
  abbrev k : CoreState
  k = z.m.core

  abbrev e : Event
  e = event.Access x cell write

  abbrev now : CoreState
  now = after_event k e

  abbrev p : ℕ
  p = place k.machine.tree x

  on : CoreGoesOn k.machine.first k
  on = may.step.steady.core

  -- the cell is there
  low : cell < length k.machine.first
  low =
      let P : Want → Type 0 = λ w. NamesCell (length k.machine.first) w in
      names_cell (length k.machine.first) cell write (subst P may.wanted (may.step.wants.named x (free k.machine.first k on x may.step.running may.step.ready may.alive)))

  fit : fits k e ≡ true
  fit = access_fits k.machine.first k on x may.step.running may.step.ready cell write may.alive low

  pub access_fits_there : fits c.core e ≡ true
  access_fits_there = fits_there c x z may.step e fit

  off_end : (law_of z).want (z.m.at x) ≡ End → ⊥
  off_end q = no_end cell write (sym may.wanted ∙ q)

  -- what it conflicts with, if it does
  abbrev against : Conflict
  against = refusal k.machine p cell (met_by k x cell)

  seen_reply : (r : Reply) → r ≡ reply_to c.core e → r ≡ reply_by against (unwrap_or write (live_value k.machine cell)) (is_met k x cell)
  seen_reply r is = is ∙ ap (λ s. reply_to s e) may.step.steady.stands.core

  -- ## It is answered

  module _ (v : ℤ) (r : Reply) (is_value : r ≡ reply.Value v) (is_reply : r ≡ reply_to c.core e) where
    replied : reply_by against (unwrap_or write (live_value k.machine cell)) (is_met k x cell) ≡ reply.Value v
    replied = sym (seen_reply r is_reply) ∙ is_value

    unmet : is_met k x cell ≡ false
    unmet = made_by against (unwrap_or write (live_value k.machine cell)) v (is_met k x cell) replied

    abbrev node : Node
    node = fresh_node p (access_kind cell write (live_value k.machine cell)) (next k)

    more : IsMore k now node
    more = access_more k.machine.first k on x may.step.running may.step.ready cell write unmet

    conflicts : now.machine.conflicts ≡ k.machine.conflicts
    conflicts =
        let P : Bool → Type 0 = λ b. (after_all k.machine (cond b (refuses x cell write (met_by k x cell)) (makes x cell write (next k)) ∷ [])).conflicts ≡ k.machine.conflicts in
        subst P (sym unmet) refl

    plain : (is_block_kind node.kind && is_pending_state node.state) ≡ false
    plain = and_left (is_block_kind node.kind) (is_pending_state node.state) (access_plain cell write (live_value k.machine cell))

    -- the strand may be answered then
    pub access_may : (new : CoreState) → new ≡ after_event c.core e → IsCore new.machine.first new → MayAnswer (record c { core = new }) x (record z { m = does e z.m })
    access_may new is core =
        left_may c x z may.step new e is core c.saved z.m.saved may.alive (more_left k now (left.whole k.machine.first k on) node more)
        (left.dying_more k.machine.first k on e fit node more conflicts)
        (λ b q. may.step.steady.stands.saved b (left.plain_more k.machine.first k on e fit node more plain b q))

    -- and it stands for the move once it is
    pub access_comes : (given : Given) → given ≡ given_for write v → (d : Driver) → StandsFor d (answered x given (record z { m = does e z.m })) → Comes d z (access_cell (law_of z) x cell write z.m)
    access_comes given is d stands =
        let P : Reply → Type 0 = λ r. Comes d z (meets_cell (law_of z) x write r (does e z.m)) in
        let Q : Given → Type 0 = λ g. StandsFor d (answered x g (record z { m = does e z.m })) in
        let R : Want → Type 0 = λ w. IsAnswer (law_of z).elements w (given_for write v) in
        subst P (sym replied) (
          changed_at x ((law_of z).answer (z.m.at x) (given_for write v)) z.there,
          (
            subst Q is stands,
            access_inside (law_of z) k.machine.first z.m on z.there may.step.steady.inside x may.step.running may.step.ready cell write (given_for write v) fit unmet conflicts may.alive
                (subst R (sym may.wanted) (is_answer (law_of z).elements cell write v)) off_end,
          ),
        )

  -- ## It is refused

  module _ (r : Reply) (no_value : (v : ℤ) → r ≡ reply.Value v → ⊥) (is_reply : r ≡ reply_to c.core e) where
    met : is_met k x cell ≡ true
    met = refused_by against (unwrap_or write (live_value k.machine cell)) (is_met k x cell) r (seen_reply r is_reply) no_value

    abbrev tried : Node
    tried = fresh_node p (Tried cell) 0

    tried_more : IsMore k now tried
    tried_more = refused_more k.machine.first k on x may.step.running may.step.ready cell write met

    new_conflict : now.machine.conflicts ≡ k.machine.conflicts ++ against ∷ []
    new_conflict = ap (λ b. (after_all k.machine (cond b (refuses x cell write (met_by k x cell)) (makes x cell write (next k)) ∷ [])).conflicts) met

    tried_left : IsLeft k.machine now.machine
    tried_left = more_left k now (left.whole k.machine.first k on) tried tried_more

    -- all bodies stay where they are
    pub refused_stands : (new : CoreState) → new ≡ after_event c.core e → IsCore new.machine.first new → StandsFor (record c { core = new }) (record z { m = does e z.m })
    refused_stands new is core =
        still_stands c new z now may.step.steady.stands (is_after c x z may.step new e is core) core (left.body_was k now tried_left)
        (λ y. left.back_was k.machine now.machine tried_left y (left.dying_refused k.machine.first k on e fit tried tried_more against new_conflict y))
        (left.plain_more k.machine.first k on e fit tried tried_more refl)

    -- and it stands for the move once the run has stopped, where it has to
    pub refused_comes : (d : Driver) → StandsFor d (record z { m = stop_if_spent (law_of z) (does e z.m) }) → Comes d z (access_cell (law_of z) x cell write z.m)
    refused_comes d stands =
        let P : Bool → Type 0 = λ b. Comes d z (meets_cell (law_of z) x write (reply_by against (unwrap_or write (live_value k.machine cell)) b) (does e z.m)) in
        subst P (sym met) (
          z.there,
          (
            stands,
            spent_inside (law_of z) (does e z.m) z.there (spent now)
                (refused_inside (law_of z) k.machine.first z.m on z.there may.step.steady.inside x may.step.running may.step.ready cell write fit met may.alive off_end),
          ),
        )
