-- A running strand acts: what it wants, or what it has to where it is dying.
use Rattle.std.proofs.Common.{◌≡◌, ℕ, ◌<◌, List, length, refl, ap, ◌∙◌, subst, Bool, true, false, cond, Option, Some, None}
use Rattle.std.specs.Prelude.{ℤ, unwrap_or}
use Rattle.std.specs.Option.{option_map_or}
use Rattle.cw_tree.specs.declared.closed.Halt.TheVariants as halt
use Rattle.cw_tree.specs.Series.{place}
use Rattle.cw_strand.specs.declared.want.Want.{Want}
use Rattle.cw_strand.specs.declared.want.Want.TheVariants.{Load, Store, Out, Begin, End, Cancel, Fork, Sync, Done, Fault}
use Rattle.cw_strand.specs.Strands.{Strands, is_over}
use Rattle.cw_open.specs.Machine.{live_value, in_block, is_dying, is_free}
use Rattle.cw_open.specs.Steps.{refusal}
use Rattle.cw_core.specs.declared.event.Event.TheVariants as event
use Rattle.cw_core.specs.declared.event.Reply.TheVariants as reply
use Rattle.cw_core.specs.State.{CoreState, spent}
use Rattle.cw_core.specs.Events.{after_event, is_met, met_by}
use Rattle.cw_sim.specs.Workers.{Simulation, Worker, tree, worker_in, worker, with_strand}
use Rattle.cw_sim.specs.Moves.{does, die, finish_strand, meets_cell, access_cell, do_want}
use Rattle.cw_sim.specs.Kept.{Runs, AreWorkers, CoreGoesOn}
use Rattle.cw_sim.specs.Laws.{NamesCell}
use Rattle.cw_sim.proofs.Laws.EventsFit.{strand_here, is_free_here, fork_fits_here, begin_fits_here, out_fits_here, cancel_fits_here, access_fits_here, commit_fits_here, rolls_here, roll_fits_here, finish_fits_here}
use Rattle.cw_sim.proofs.Laws.Fits.{stop_fits, spent_stop}
use Rattle.cw_sim.specs.HasWants.{HasWants}
use Rattle.cw_sim.proofs.Laws.MoveFinishes.{finishes_to}
use Rattle.cw_sim.proofs.Laws.MoveForks.{forks_goes, forks_workers}
use Rattle.cw_sim.proofs.Laws.Moving.{GoesTo, goes_on_there, halted, by_event}
use Rattle.cw_sim.proofs.Kept.Quiet.{keeps_out, keeps_cancel, keeps_begin, keeps_access, keeps_refused, keeps_commit, keeps_roll}
use Rattle.cw_sim.proofs.Kept.Workers.{runs_in}

module _ {A : Type 0} (s : Strands A) (first : List ℤ) (n : Simulation A) (w : ℕ) (low : w < length n.workers) (on : CoreGoesOn first n.core) (old : AreWorkers n.core n.workers) (x : ℕ) (run : (worker n w).runs ≡ Some x) where
  abbrev k : CoreState
  k = n.core

  abbrev ws : List Worker
  ws = n.workers

  at : Runs k (worker_in ws w) x
  at = runs_in k ws w x old run

  -- ## A dying strand

  pub dies_to : is_dying k.machine x ≡ true → GoesTo first k (die s w x n)
  dies_to dying = by (in_block k.machine x) refl where
    by : (b : Bool) → in_block k.machine x ≡ b → GoesTo first k (cond b (with_strand x (n.saved (place (tree n) x)) (does (event.Roll x) n)) (finish_strand s w x true n))
    by false e = finishes_to s first n w low on old x run true (finish_fits_here first k on ws old w x run true dying e)
    by true e =
        let o = with_strand x (n.saved (place (tree n) x)) (does (event.Roll x) n) in
        let fit = roll_fits_here first k on ws old w x run dying e in
        let kept = keeps_roll first k on x at.running at.ready ws old fit (rolls_here first k on ws old w x run dying e) in
        by_event first o k (event.Roll x) fit (goes_on_there first o kept.goes kept.workers)

  -- ## Any other one

  module _ (alive : is_dying k.machine x ≡ false) where
    -- where an access is refused, the run stops if the budget is spent
    refused_to : (c : ℕ) (write : Option ℤ) → c < length first → is_met k x c ≡ true → (o : Option ℕ) → spent (after_event k (event.Access x c write)) ≡ o
        → GoesTo first k (option_map_or (λ y. does (event.Stop (halt.Budget y)) (does (event.Access x c write) n)) o (does (event.Access x c write) n))
    refused_to c write named met None e =
        let o = does (event.Access x c write) n in
        let fit = access_fits_here first k on ws old w x run c write alive named in
        let kept = keeps_refused first k on x at.running at.ready c write ws old fit met e in
        by_event first o k (event.Access x c write) fit (goes_on_there first o kept.goes kept.workers)
    refused_to c write named met (Some y) e =
        let o = does (event.Stop (halt.Budget y)) (does (event.Access x c write) n) in
        let z = after_event k (event.Access x c write) in
        by_event first o k (event.Access x c write) (access_fits_here first k on ws old w x run c write alive named)
        (by_event first o z (event.Stop (halt.Budget y)) (spent_stop z y on.halt e) (halted first o (halt.Budget y) refl))

    access_to : (c : ℕ) (write : Option ℤ) → c < length first → GoesTo first k (access_cell s x c write n)
    access_to c write named = by (is_met k x c) refl where
      by : (b : Bool) → is_met k x c ≡ b
          → GoesTo first k (meets_cell s x write (cond b (reply.Conflict (refusal k.machine (place k.machine.tree x) c (met_by k x c))) (reply.Value (unwrap_or write (live_value k.machine c)))) (does (event.Access x c write) n))
      by false e =
          let o = meets_cell s x write (reply.Value (unwrap_or write (live_value k.machine c))) (does (event.Access x c write) n) in
          let fit = access_fits_here first k on ws old w x run c write alive named in
          let kept = keeps_access first k on x at.running at.ready c write ws old fit e in
          by_event first o k (event.Access x c write) fit (goes_on_there first o kept.goes kept.workers)
      by true e = refused_to c write named e (spent (after_event k (event.Access x c write))) refl

    module _ (wants : HasWants s (length first) n) where
      free : is_free k.machine x ≡ true
      free = is_free_here first k on ws old w x run alive

      names : (want : Want) → s.want (n.at x) ≡ want → NamesCell (length first) want
      names want e = subst (NamesCell (length first)) e (wants.named x free)

      out_of : (want : Want) → s.want (n.at x) ≡ want → is_over want ≡ true → in_block k.machine x ≡ false
      out_of want e over = wants.over x free (ap is_over e ∙ over)

      ends_to : (want : Want) → s.want (n.at x) ≡ want → is_over want ≡ true → GoesTo first k (finish_strand s w x false n)
      ends_to want e over = finishes_to s first n w low on old x run false (finish_fits_here first k on ws old w x run false alive (out_of want e over))

      pub acts_to : (want : Want) → s.want (n.at x) ≡ want → GoesTo first k (do_want s w x want n)
      acts_to (Load c) e = access_to c None (names (Load c) e)
      acts_to (Store c v) e = access_to c (Some v) (names (Store c v) e)
      acts_to (Out v) e =
          let o = do_want s w x (Out v) n in
          let fit = out_fits_here first k on ws old w x run v alive in
          let kept = keeps_out first k on x at.running at.ready v ws old fit in
          by_event first o k (event.Out x v) fit (goes_on_there first o kept.goes kept.workers)
      acts_to Begin e =
          let o = do_want s w x Begin n in
          let fit = begin_fits_here first k on ws old w x run alive in
          let kept = keeps_begin first k on x at.running at.ready ws old fit in
          by_event first o k (event.Begin x) fit (goes_on_there first o kept.goes kept.workers)
      acts_to End e =
          let o = do_want s w x End n in
          let fit = commit_fits_here first k on ws old w x run alive (wants.ends x free e) in
          let kept = keeps_commit first k on x at.running at.ready ws old fit in
          by_event first o k (event.Commit x) fit (goes_on_there first o kept.goes kept.workers)
      acts_to Cancel e =
          let o = do_want s w x Cancel n in
          let fit = cancel_fits_here first k on ws old w x run alive (wants.cancels x free e) in
          let kept = keeps_cancel first k on x at.running at.ready ws old fit in
          by_event first o k (event.Cancel x) fit (goes_on_there first o kept.goes kept.workers)
      acts_to Fork e =
          let o = do_want s w x Fork n in
          let fit = fork_fits_here first k on ws old w x run alive in
          by_event first o k (event.Fork x) fit (goes_on_there first o (forks_goes first k on ws old w x run fit) (forks_workers first k on ws old w x run fit low))
      acts_to Sync e = ends_to Sync e refl
      acts_to Done e = ends_to Done e refl
      acts_to (Fault kind) e =
          let o = do_want s w x (Fault kind) n in
          by_event first o k (event.Stop (halt.Fault x kind)) (stop_fits k (halt.Fault x kind) on.halt (strand_here first k on ws old w x run)) (halted first o (halt.Fault x kind) refl)
