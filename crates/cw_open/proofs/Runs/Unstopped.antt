-- A run without its stops is a run.
use Rattle.std.proofs.Common.{◌≡◌, ℕ, List, [], ◌∷◌, length, refl, ap, ◌∙◌, Bool, true, nat_lt}
use Rattle.std.specs.Prelude.{◌&&◌, not, ℤ, Option}
use Rattle.std.proofs.lemmas.Bool.{and_parts, and_from}
use Rattle.cw_tree.specs.declared.node.Node.{Node}
use Rattle.cw_tree.specs.Series.{place}
use Rattle.cw_tree.specs.Walks.{has}
use Rattle.cw_tree.specs.Nodes.{is_strand}
use Rattle.cw_open.specs.Machine.{OpenMachine, has_finished, waits, is_running, in_block, is_dying, is_free, leads_back, rolls_back}
use Rattle.cw_open.specs.Steps.{Step, forks, begins, accesses, refuses, outputs, cancels, commits, undoes, aborts, finishes, joins, stops, after_open_step, after_all, first_machine}
use Rattle.cw_open.specs.Runs.{Rules, IsRun, is_undone, at_any_time}
use Rattle.cw_open.specs.Refused.{as_told, unstopped, StopsAreLeftOut, ToldIsAtAnyTime}
use Rattle.cw_open.proofs.Runs.States.{by_rules, at_any_step}

runs_on : (m : OpenMachine) (s : ℕ) → is_running m s ≡ true → is_running (unstopped m) s ≡ true
runs_on m s e = and_from (is_strand m.tree s && not (has_finished m s) && not (waits m s)) true (and_parts (is_strand m.tree s && not (has_finished m s) && not (waits m s)) (not (has m.stopped s)) e).0 refl

free_on : (m : OpenMachine) (s : ℕ) → is_free m s ≡ true → is_free (unstopped m) s ≡ true
free_on m s e = let z = and_parts (is_running m s) (not (is_dying m s)) e in and_from (is_running (unstopped m) s) (not (is_dying m s)) (runs_on m s z.0) z.1

rolls_on : (m : OpenMachine) (s : ℕ) → rolls_back m s ≡ true → rolls_back (unstopped m) s ≡ true
rolls_on m s e =
    let z = and_parts (is_running m s && in_block m s) (leads_back m s (place m.tree s)) e in
    let y = and_parts (is_running m s) (in_block m s) z.0 in
    and_from (is_running (unstopped m) s && in_block m s) (leads_back m s (place m.tree s)) (and_from (is_running (unstopped m) s) (in_block m s) (runs_on m s y.0) y.1) z.1

-- what one part of two needs, another in its place
first_part : (a b c : Bool) → (a ≡ true → b ≡ true) → (a && c) ≡ true → (b && c) ≡ true
first_part a b c f e = let z = and_parts a c e in and_from b c (f z.0) z.1

module _ (asked : List Node → List ℕ → Option ℤ → List ℕ) where
  abbrev r : Rules
  r = at_any_time asked

  abbrev without : List Step → List Step
  without [] = []
  without (stops s ∷ es) = without es
  without (e ∷ es) = e ∷ without es

  abbrev Unstopped : OpenMachine → List Step → Type 0
  Unstopped m es = IsRun r (unstopped m) (without es) × (after_all (unstopped m) (without es) ≡ unstopped (after_all m es))

  unstopped_run : (m : OpenMachine) (es : List Step) → IsRun r m es → Unstopped m es
  unstopped_run m [] run = (tt, refl)
  unstopped_run m (stops s ∷ es) run = unstopped_run (after_open_step m (stops s)) es run.1
  unstopped_run m (forks s stamp ∷ es) run = let z = unstopped_run (after_open_step m (forks s stamp)) es run.1 in (((free_on m s run.0.0, run.0.1), z.0), z.1)
  unstopped_run m (begins s stamp ∷ es) run = let z = unstopped_run (after_open_step m (begins s stamp)) es run.1 in (((free_on m s run.0.0, run.0.1), z.0), z.1)
  unstopped_run m (accesses s c w stamp ∷ es) run =
      let z = unstopped_run (after_open_step m (accesses s c w stamp)) es run.1 in
      let n = nat_lt c (length m.lists) in
      (((first_part (is_free m s && n) (is_free (unstopped m) s && n) _ (first_part (is_free m s) (is_free (unstopped m) s) n (free_on m s)) run.0.0, run.0.1, run.0.2), z.0), z.1)
  unstopped_run m (refuses s c w met ∷ es) run =
      let z = unstopped_run (after_open_step m (refuses s c w met)) es run.1 in
      (((first_part (is_free m s) (is_free (unstopped m) s) (nat_lt c (length m.lists)) (free_on m s) run.0.0, run.0.1), z.0), z.1)
  unstopped_run m (outputs s v stamp ∷ es) run = let z = unstopped_run (after_open_step m (outputs s v stamp)) es run.1 in (((free_on m s run.0.0, run.0.1), z.0), z.1)
  unstopped_run m (cancels s stamp ∷ es) run =
      let z = unstopped_run (after_open_step m (cancels s stamp)) es run.1 in
      (((first_part (is_free m s) (is_free (unstopped m) s) (in_block m s) (free_on m s) run.0.0, run.0.1), z.0), z.1)
  unstopped_run m (commits s stamp ∷ es) run =
      let z = unstopped_run (after_open_step m (commits s stamp)) es run.1 in
      (((first_part (is_free m s && in_block m s) (is_free (unstopped m) s && in_block m s) _ (first_part (is_free m s) (is_free (unstopped m) s) (in_block m s) (free_on m s)) run.0.0, run.0.1), z.0), z.1)
  unstopped_run m (undoes s c ∷ es) run =
      let z = unstopped_run (after_open_step m (undoes s c)) es run.1 in
      ((first_part (rolls_back m s) (rolls_back (unstopped m) s) (nat_lt c (length m.lists)) (rolls_on m s) run.0, z.0), z.1)
  unstopped_run m (aborts s stamp ∷ es) run =
      let z = unstopped_run (after_open_step m (aborts s stamp)) es run.1 in
      (((first_part (rolls_back m s) (rolls_back (unstopped m) s) (is_undone m (place m.tree s)) (rolls_on m s) run.0.0, run.0.1), z.0), z.1)
  unstopped_run m (finishes s dead ∷ es) run =
      let z = unstopped_run (after_open_step m (finishes s dead)) es run.1 in
      let n = not (in_block m s) in
      ((first_part (is_running m s && n) (is_running (unstopped m) s && n) _ (first_part (is_running m s) (is_running (unstopped m) s) n (runs_on m s)) run.0, z.0), z.1)
  unstopped_run m (joins f ∷ es) run = let z = unstopped_run (after_open_step m (joins f)) es run.1 in ((run.0, z.0), z.1)

pub stops_left_out : StopsAreLeftOut
stops_left_out asked first m reached =
    let z = unstopped_run asked (first_machine first) reached.steps reached.run in
    record { steps = without asked reached.steps; run = z.0; there = z.1 ∙ ap unstopped reached.there }

pub told_any_time : ToldIsAtAnyTime
told_any_time asked first m reached = by_rules (as_told asked) (at_any_time asked) first (at_any_step (as_told asked)) m (record { steps = reached.steps; run = reached.run; there = reached.there })
