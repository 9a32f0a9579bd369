-- The laws of victims and of dying strands.
use Rattle.std.proofs.Common.{◌≡◌, ℕ, ◌<◌, length, ap, sym, subst, ◌∙◌, arith, true, false, cond, Some, None, inl, inr, nat_eq}
use Rattle.std.specs.Prelude.{◌&&◌, not, is_some}
use Rattle.std.proofs.lemmas.Bool.{and_parts, not-true, cases_eq, eqb-true, eq-eqb}
use Rattle.cw_tree.specs.Nodes.{is_fork_kind, parent_of, is_strand, is_block, is_aborted}
use Rattle.cw_tree.specs.Walks.{is_above, is_ancestor}
use Rattle.cw_tree.specs.Series.{strand_of, place}
use Rattle.cw_tree.specs.Refusals.{is_victim, victim_of, names_victim}
use Rattle.cw_tree.proofs.Walks.There.{node_there}
use Rattle.cw_tree.proofs.Walks.Ancestors.{ancestor_self, ancestor_up}
use Rattle.cw_tree.proofs.Walks.Strands.{strand_over}
use Rattle.cw_open.specs.Machine.{has_finished}
use Rattle.cw_open.specs.Runs.{at_any_time}
use Rattle.cw_open.specs.Refused.{AskersAreTried, AbortedAreVictims, CommittedAreSafe, DyingGoBack, DeadGoBack}
use Rattle.cw_open.proofs.Refused.Asking.{asking_states}
use Rattle.cw_open.proofs.Refused.Fell.{fell, fell_beneath, fork_fell, fell_dies, any_one}
use Rattle.cw_open.proofs.Open.Trees.{stands_well}
use Rattle.cw_open.proofs.Open.Standing.{stands}
use Rattle.cw_open.proofs.Refused.Victims.{IsTold}
use Rattle.cw_open.proofs.Refused.BackedStates.{backed_states}

pub askers_tried : AskersAreTried
askers_tried asked first m reached = asking_states (at_any_time asked) first m reached

pub aborted_victims : AbortedAreVictims
aborted_victims asked first m reached b e =
    let w = backed_states (at_any_time asked) first m reached in
    fell_beneath m.tree w.told.state.well.sound.tree.rooted m.conflicts w.told.told (strand_of m.tree b) b (w.backed.back.aborted b e)

pub committed_safe : CommittedAreSafe
committed_safe asked first m reached b e = (backed_states (at_any_time asked) first m reached).backed.back.committed b e

pub dying_back : DyingGoBack
dying_back asked first m reached =
    let w = backed_states (at_any_time asked) first m reached in
    record {
      tried = λ n low e. w.backed.back.tried n (asker_some n low e) low e;
      aborted = λ n low e. (let z = and_parts (is_aborted m.tree n) (not (is_victim m.tree m.conflicts n)) e in w.backed.back.gone n z.0 (not-true (is_victim m.tree m.conflicts n) z.1));
    } where
      -- nothing is above the root, and so no victim
      asker_some : (n : ℕ) → n < length m.tree → names_victim m.conflicts n ≡ true → 0 < n
      asker_some n low e =
          let w = backed_states (at_any_time asked) first m reached in
          let o = any_one (IsTold m.tree) (λ c. nat_eq c.asker n && is_some (victim_of c)) m.conflicts w.told.told e in
          let z = and_parts (nat_eq o.one.asker n) (is_some (victim_of o.one)) o.passes in
          let at : o.one.asker ≡ n = eqb-true o.one.asker n z.0 in
          elim (cases_eq n 0) [
            | inr ne ↦ omega arith
            | inl q ↦ elim o.holds.named [
              | inl none ↦ absurd (cc (z.1, ap (λ b. is_some (cond b None (Some o.one.victim))) (eq-eqb o.one.victim 0 none)))
              | inr y ↦
                  (let x = and_parts (is_block m.tree y.0) (is_above m.tree y.0 o.one.asker) y.1 in
                  let none : is_above m.tree y.0 o.one.asker ≡ false = ap (is_above m.tree y.0) (at ∙ q) in
                  absurd (cc (x.1, none)))
            ]
          ]

pub dead_back : DeadGoBack
dead_back asked first m reached x some e =
    let w = backed_states (at_any_time asked) first m reached in
    let d = w.backed.died x some e in
    let t = m.tree in
    let told = w.told.told in
    let r = w.told.state.well.sound.tree.rooted in
    let f = parent_of t x in
    record {
      victim = fell_beneath t r m.conflicts told f f d.fell;
      dying = λ s running here.
          (let well = w.told.state.well in
          let at = stands_well m well s running in
          let low = node_there (λ y. is_fork_kind y.kind) t f d.fork in
          let own = (stands m well.sound.tree well.nested s running).strand in
          let P : ℕ → Type 0 = λ n. is_ancestor t n (place t s) ≡ true in
          let over = ancestor_up t r s f d.some low (ap (is_ancestor t s) (sym here) ∙ subst P own (strand_over t r (place t s) at.there)) in
          let there = fork_fell t r m.conflicts told f f d.some d.fork d.fell in
          fell_dies m r told s f (place t s) (place t s) at over (ancestor_self t (place t s)) (ap (fell t m.conflicts f) here ∙ there));
      last = d.last;
      block = d.block;
      strand = λ z.
          (let y = and_parts (is_strand m.tree (parent_of m.tree (parent_of m.tree x))) (has_finished m (parent_of m.tree (parent_of m.tree x))) z in
          d.strand y.0 y.1);
    }
