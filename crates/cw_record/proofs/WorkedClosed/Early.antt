-- The small closed run in which a stamp was drawn early.
use Rattle.std.proofs.Common.{◌≡◌, ap, sym, ◌∙◌, ℕ, [], ◌∷◌, refl, arith, pos}
use Rattle.cw_strand.specs.declared.want.Want.TheVariants.{Load, Store, Begin, End}
use Rattle.cw_open.specs.WorkedTimes.{early}
use Rattle.cw_open.proofs.WorkedTimes.Early.{drawn_early}
use Rattle.cw_record.specs.ClosedRun.{AreStates}
use Rattle.cw_record.specs.Scripts.{Script, done, sync, act, left_of, wants_of, scripted}
use Rattle.cw_record.specs.WorkedClosed.{reads_in_block, ClosedEarly}
use Rattle.cw_record.proofs.WorkedEnds.Parts.{state_in}
use Rattle.cw_record.proofs.WorkedClosed.States.{are_states}

abbrev writes : Script
writes = act (Store 0 (pos 1)) done

abbrev ends : Script
ends = act End (sync done)

abbrev reads : Script
reads = act (Load 0) ends

abbrev before : ℕ → Script
before = state_in done (reads_in_block 1 ∷ reads_in_block 1 ∷ writes ∷ act Begin reads ∷ writes ∷ act Begin reads ∷ reads ∷ [])

abbrev after : ℕ → Script
after = state_in done (done ∷ done ∷ done ∷ done ∷ done ∷ sync done ∷ ends ∷ [])

abbrev reached : ℕ → Script
reached = state_in done (done ∷ done ∷ done ∷ sync done ∷ done ∷ ends ∷ [])

did : AreStates (scripted (reads_in_block 1)) early before after reached
did =
    are_states (scripted (reads_in_block 1)) early before after reached refl
    (((((((tt, (refl, refl)), tt), (refl, refl)), (refl, refl)), tt), (refl, refl)), tt)
    (tt, ((refl, (refl, refl)), (tt, (tt, ((refl, refl), ((refl, (refl, refl)), ((refl, refl), tt)))))))
    refl refl refl refl

-- the left strand writes what its script says
written_is : (k : ℕ) (b a r : ℕ → Script) → AreStates (scripted (reads_in_block k)) early b a r → k ≡ 1
written_is k b a r d =
    let at_write : b 4 ≡ act (Store 0 (pos k)) done = (d.series 2 (omega arith) refl).0 ∙ (d.fits 1 _ refl).1.0 ∙ ap left_of ((d.series 0 (omega arith) refl).0 ∙ d.start) in
    let same : Store 0 (pos k) ≡ Store 0 (pos 1) = sym (ap wants_of at_write) ∙ (d.fits 4 _ refl).0 in
    cc

pub closed_early : ClosedEarly
closed_early = record {
  holds = record {
    reached = drawn_early.leads;
    complete = drawn_early.complete;
    entries = drawn_early.entries;
    states = (before, after, reached, did, refl);
  };
  spent = λ w. (let (b, a, r, d, e) = w.states in absurd (cc e));
  other = λ w. (let (b, a, r, d, e) = w.states in absurd (omega (arith, written_is 2 b a r d)));
  none = λ s budget kept h spent w. drawn_early.none _ w.reached;
}
