-- Where strands stand in simulations that are alike.
use Rattle.std.proofs.Common.{◌≡◌, ℕ, zero, suc, List, sym, ◌∙◌, subst, true, false}
use Rattle.std.specs.Prelude.{Bool}
use Rattle.cw_strand.specs.Strands.{Strands}
use Rattle.cw_tree.specs.declared.node.Node.{Node}
use Rattle.cw_tree.specs.Series.{strand_of, place}
use Rattle.cw_open.specs.Machine.{waits}
use Rattle.cw_sim.specs.Workers.{Simulation, tree}
use Rattle.cw_sim.specs.Kept.{is_current, AreStanding, HasStates}

-- they have the same tree, joined forks and finished strands, and their strands the same states
pub record Alike {A : Type 0} (m z : Simulation A) : Type 0 where
  pub tree : z.core.machine.tree ≡ m.core.machine.tree
  pub joined : z.core.machine.joined ≡ m.core.machine.joined
  pub finished : z.core.machine.finished ≡ m.core.machine.finished
  pub at : (n : ℕ) → z.at n ≡ m.at n
  pub saved : (b : ℕ) → z.saved b ≡ m.saved b

module _ {A : Type 0} (s : Strands A) (m z : Simulation A) (is : Alike m z) (before after reached : ℕ → A) (h : AreStanding s m before after reached) where
  -- z with another tree, and other forks joined and strands finished
  abbrev with_nodes : List Node → List ℕ → List (ℕ × Bool) → Simulation A
  with_nodes t js fs = record z { core = record z.core { machine = record z.core.machine { tree = t; joined = js; finished = fs } } }

  abbrev old : Simulation A
  old = with_nodes (tree m) m.core.machine.joined m.core.machine.finished

  strands : (n : ℕ) → is_current old.core n ≡ true → waits old.core.machine n ≡ false → reached (place (tree old) n) ≡ old.at n
  strands zero e q = h.strands zero e q ∙ sym (is.at zero)
  strands (suc n) e q = h.strands (suc n) e q ∙ sym (is.at (suc n))

  on_old : AreStanding s old before after reached
  on_old = record {
    states = record { start = h.states.start; series = h.states.series; fits = h.states.fits; joined = h.states.joined; over = h.states.over };
    forks = λ f e off. h.forks f e off ∙ sym (is.at (strand_of (tree m) f));
    strands = strands;
    saved = λ b e. h.saved b e ∙ sym (is.saved b);
  }

  pub standing_alike : AreStanding s z before after reached
  standing_alike =
      let P : List Node → Type 0 = λ t. AreStanding s (with_nodes t m.core.machine.joined m.core.machine.finished) before after reached in
      let Q : List ℕ → Type 0 = λ js. AreStanding s (with_nodes (tree z) js m.core.machine.finished) before after reached in
      let R : List (ℕ × Bool) → Type 0 = λ fs. AreStanding s (with_nodes (tree z) z.core.machine.joined fs) before after reached in
      subst R (sym is.finished) (subst Q (sym is.joined) (subst P (sym is.tree) on_old))

pub states_alike : {A : Type 0} (s : Strands A) (m z : Simulation A) → Alike m z → HasStates s m → HasStates s z
states_alike s m z is old = let (before, after, reached, h) = old in (before, after, reached, standing_alike s m z is before after reached h)
