-- Runs one after another.
use Rattle.std.proofs.Common.{◌≡◌, List, [], ◌∷◌, ◌++◌, refl, ap, sym, ◌∙◌, subst}
use Rattle.std.specs.Prelude.{ℤ}
use Rattle.cw_open.specs.Machine.{OpenMachine}
use Rattle.cw_open.specs.Steps.{Step, after_open_step, after_all, first_machine}
use Rattle.cw_open.specs.Runs.{Rules, IsRun, IsReachedBy}

pub run_more : (r : Rules) (m : OpenMachine) (es fs : List Step) → IsRun r m es → IsRun r (after_all m es) fs → IsRun r m (es ++ fs)
run_more r m [] fs h g = g
run_more r m (e ∷ es) fs h g = (h.0, run_more r (after_open_step m e) es fs h.1 g)

pub after_more : (m : OpenMachine) (es fs : List Step) → after_all m (es ++ fs) ≡ after_all (after_all m es) fs
after_more m [] fs = refl
after_more m (e ∷ es) fs = after_more (after_open_step m e) es fs

-- a run from a state that is reached leads to one that is
pub reached_more : (r : Rules) (first : List ℤ) (m : OpenMachine) (es : List Step) → IsReachedBy r first m → IsRun r m es → IsReachedBy r first (after_all m es)
reached_more r first m es reached run =
    let P : OpenMachine → Type 0 = λ x. IsRun r x es in
    record {
      steps = reached.steps ++ es;
      run = run_more r (first_machine first) reached.steps es reached.run (subst P (sym reached.there) run);
      there = after_more (first_machine first) reached.steps es ∙ ap (λ x. after_all x es) reached.there;
    }
