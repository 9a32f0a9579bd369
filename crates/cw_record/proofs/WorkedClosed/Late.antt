-- The small closed run in which an access was refused late.
use Rattle.std.proofs.Common.{◌≡◌, ap, sym, ◌∙◌, ℕ, [], ◌∷◌, refl, arith, pos}
use Rattle.cw_strand.specs.declared.want.Want.TheVariants.{Load, Store, Out as Shows, Begin, End}
use Rattle.cw_open.specs.WorkedTimes.{late}
use Rattle.cw_open.proofs.WorkedTimes.Late.{refused_late}
use Rattle.cw_record.specs.ClosedRun.{AreStates}
use Rattle.cw_record.specs.Scripts.{Script, done, sync, act, left_of, after_answer, wants_of, scripted}
use Rattle.cw_record.specs.WorkedClosed.{reads_behind, ClosedLate}
use Rattle.cw_record.proofs.WorkedEnds.Parts.{state_in}
use Rattle.cw_record.proofs.WorkedClosed.States.{are_states}

abbrev shows : Script
shows = act (Shows (pos 1)) done

abbrev ends : Script
ends = act End shows

abbrev writes : Script
writes = act (Store 0 (pos 1)) ends

abbrev reads : Script
reads = act (Load 0) (sync done)

abbrev before : ℕ → Script
before = state_in done (reads_behind 1 ∷ reads_behind 1 ∷ act Begin writes ∷ reads ∷ act Begin writes ∷ writes ∷ shows ∷ reads ∷ reads ∷ [])

abbrev after : ℕ → Script
after = state_in done (done ∷ done ∷ done ∷ done ∷ shows ∷ ends ∷ done ∷ reads ∷ sync done ∷ [])

abbrev reached : ℕ → Script
reached = state_in done (done ∷ done ∷ done ∷ sync done ∷ ends ∷ [])

did : AreStates (scripted (reads_behind 1)) late before after reached
did =
    are_states (scripted (reads_behind 1)) late before after reached refl
    (((((((((tt, (refl, refl)), tt), (refl, (refl, refl))), (refl, (refl, refl))), (refl, refl)), tt), tt), tt), tt)
    (tt, ((refl, (refl, refl)), (tt, (tt, ((refl, (refl, refl)), ((refl, refl), ((refl, refl), ((refl, refl), ((refl, refl), tt)))))))))
    refl refl refl refl

-- the left strand shows what its script says
shown_is : (k : ℕ) (b a r : ℕ → Script) → AreStates (scripted (reads_behind k)) late b a r → k ≡ 1
shown_is k b a r d =
    let at_left : b 4 ≡ act Begin (act (Store 0 (pos 1)) (act End (act (Shows (pos k)) done))) = (d.series 2 (omega arith) refl).0 ∙ (d.fits 1 _ refl).1.0 ∙ ap left_of ((d.series 0 (omega arith) refl).0 ∙ d.start) in
    let at_write : b 5 ≡ act (Store 0 (pos 1)) (act End (act (Shows (pos k)) done)) = (d.series 4 (omega arith) refl).0 ∙ ap after_answer at_left in
    let at_end : r 4 ≡ act End (act (Shows (pos k)) done) = sym (d.series 4 (omega arith) refl).1 ∙ (d.fits 5 _ refl).1 ∙ ap after_answer at_write in
    let at_out : b 6 ≡ act (Shows (pos k)) done = (d.series 2 (omega arith) refl).1.0 ∙ (d.fits 4 _ refl).1.1 ∙ ap after_answer at_end in
    let same : Shows (pos k) ≡ Shows (pos 1) = sym (ap wants_of at_out) ∙ (d.fits 6 _ refl).0 in
    cc

pub closed_late : ClosedLate
closed_late = record {
  holds = record {
    reached = refused_late.leads;
    complete = refused_late.complete;
    entries = refused_late.entries;
    states = (before, after, reached, did, refl);
  };
  spent = λ w. (let (b, a, r, d, e) = w.states in absurd (cc e));
  other = λ w. (let (b, a, r, d, e) = w.states in absurd (omega (arith, shown_is 2 b a r d)));
  none = λ s budget kept h spent w. refused_late.none _ w.reached;
}
