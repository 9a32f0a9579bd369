-- A strand finishes: the states, and where strands stand.
use Rattle.std.proofs.Common.{◌≡◌, ℕ, zero, suc, List, ◌∷◌, refl, subst, true, false, Bool, inl, inr, nat_eq}
use Rattle.std.specs.Prelude.{◌&&◌, not}
use Rattle.std.proofs.lemmas.Bool.{and_parts, and_from, or_parts, or_cases, eq-eqb, eqb-true, not-true, not_from_false}
use Rattle.cw_strand.specs.Strands.{Strands, is_over}
use Rattle.cw_tree.specs.declared.node.Node.{Node}
use Rattle.cw_tree.specs.Nodes.{is_strand}
use Rattle.cw_tree.specs.Series.{place}
use Rattle.cw_open.specs.Machine.{OpenMachine, has_finished, finished_dead, waits}
use Rattle.cw_sim.specs.Workers.{Simulation, tree}
use Rattle.cw_sim.specs.Kept.{is_current, AreStanding}
use Rattle.cw_sim.proofs.Kept.StatesKept.{AllStates}

-- strand o finishes
abbrev pub with_finished : {A : Type 0} → Simulation A → (o : ℕ) → (dead : Bool) → Simulation A
with_finished m o dead = record m { core = record m.core { machine = record m.core.machine { finished = (o, dead) ∷ m.core.machine.finished } } }

module _ {A : Type 0} (s : Strands A) (m : Simulation A) (o : ℕ) (dead : Bool) (x : AllStates A) (h : AreStanding s m x.before x.after x.reached) (over : dead ≡ false → is_over (s.want (x.reached o)) ≡ true) where
  abbrev t : List Node
  t = tree m

  abbrev old : OpenMachine
  old = m.core.machine

  abbrev z : Simulation A
  z = with_finished m o dead

  abbrev new : OpenMachine
  new = z.core.machine

  -- a strand that did not die had not died
  alive : (i : ℕ) → finished_dead new i ≡ false → finished_dead old i ≡ false
  alive i e = (or_parts (nat_eq o i && dead) (finished_dead old i) e).1

  over_here : (d : Bool) → dead ≡ d → finished_dead new o ≡ false → is_over (s.want (x.reached o)) ≡ true
  over_here false q e = over q
  over_here true q e = absurd (let yes = and_from (nat_eq o o) dead (eq-eqb o o refl) q in let no = (or_parts (nat_eq o o && dead) (finished_dead old o) e).0 in cc (yes, no))

  over_now : (i : ℕ) → (is_strand t i && has_finished new i && not (finished_dead new i)) ≡ true → is_over (s.want (x.reached i)) ≡ true
  over_now i e =
      let a = and_parts (is_strand t i && has_finished new i) (not (finished_dead new i)) e in
      let b = and_parts (is_strand t i) (has_finished new i) a.0 in
      let live = not-true (finished_dead new i) a.1 in
      elim (or_cases (nat_eq o i) (has_finished old i) b.1) [
        | inl q ↦ (let P : ℕ → Type 0 = λ i. finished_dead new i ≡ false → is_over (s.want (x.reached i)) ≡ true in subst P (eqb-true o i q) (over_here dead refl) live)
        | inr was ↦ h.states.over i (and_from (is_strand t i && has_finished old i) (not (finished_dead old i)) (and_from (is_strand t i) (has_finished old i) b.0 was) (not_from_false (finished_dead old i) (alive i live)))
      ]

  strands : (n : ℕ) → is_current z.core n ≡ true → waits new n ≡ false → x.reached (place t n) ≡ m.at n
  strands zero e q = h.strands zero e q
  strands (suc n) e q = h.strands (suc n) e q

  pub finished_stands : AreStanding s (with_finished m o dead) x.before x.after x.reached
  finished_stands = record {
    states = record {
      start = h.states.start;
      series = h.states.series;
      fits = h.states.fits;
      joined = λ f l r e kids left right. h.states.joined f l r e kids (alive l left) (alive r right);
      over = over_now;
    };
    forks = h.forks;
    strands = strands;
    saved = h.saved;
  }
