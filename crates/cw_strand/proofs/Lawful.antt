-- The strands of a faultless program are lawful: whatever they come to fits, so they want only what they may.
use Rattle.std.proofs.Common.{◌≡◌, ◌≤◌, ℕ, zero, suc, true, List, [], ◌∷◌, length, reverse, Option, Some, None, ℤ, refl, subst, arith}
use Rattle.std.specs.Prelude.{codes}
use Rattle.std.proofs.lemmas.List.{length-reverse}
use Rattle.cw_text.specs.Syntax.{Declaration}
use Rattle.cw_code.specs.declared.Limits.{Limits}
use Rattle.cw_strand.specs.declared.naming.Around.TheVariants as around
use Rattle.cw_strand.specs.declared.want.Want.{Want}
use Rattle.cw_strand.specs.declared.want.Want.TheVariants.{Fork, Sync, Done, Fault}
use Rattle.cw_strand.specs.declared.want.Given.{Given}
use Rattle.cw_strand.specs.Names.{globals, in_functions}
use Rattle.cw_strand.specs.Strands.{is_over, IsAnswer, own_after, MayWant, GoesTo, stays, answered, joins, Reached, of_main, of_left, of_right, IsLawful}
use Rattle.cw_strand.specs.Running as running
use Rattle.cw_strand.specs.Running.{Standing, stand}
use Rattle.cw_strand.specs.Meaning.{State, Function, function_of, params_in, with_value, left, joined, at_main, runs, strands_of_syntax}
use Rattle.cw_strand.specs.Laws.{HasDoneAll, IsFaultless}
use Rattle.cw_strand.proofs.LocalWork.{bounded}
use Rattle.cw_strand.proofs.Settling.{stand_holds, deep}
use Rattle.cw_strand.proofs.StandingNames.{no_fault, body_named, main_there}
use Rattle.cw_strand.proofs.FitTasks.{opened, outermost, IsFit, FitAfter, step_goes, with_value_fits}

-- ## Standings that fit

module _ (ds : List Declaration) (words : List ℤ) (limits : Limits) (faultless : IsFaultless ds words) where
  abbrev run : running.Running State
  run = runs ds words limits

  named : in_functions (globals ds) ds ≡ None
  named = (no_fault _ _ (no_fault _ _ faultless.named).1).0

  abbrev fits : List ℕ → State → Type 0
  fits own s = IsFit ds limits own s

  -- a strand with these numbers of blocks wants only what it may, and fits once it has that
  record Stands (own : List ℕ) (x : Standing State) : Type 0 where
    may : MayWant x.want own
    after : FitAfter ds limits x.want own x.state

  stand_fits : (own : List ℕ) (s : State) → fits own s → Stands own (stand run s)
  stand_fits own s h =
      stand_holds run (bounded ds words limits).on (λ t. fits own t) (λ x. Stands own x)
      (λ t u fit is. step_goes ds limits named own t _ fit is)
      (λ t u w fit is. let goes = step_goes ds limits named own t _ fit is in record { may = goes.0; after = goes.1 })
      (λ t fit is. absurd (step_goes ds limits named own t _ fit is))
      s h

  answer_fits : (n : ℕ) (w : Want) (own : List ℕ) (t : State) (given : Given) → IsAnswer n w given → FitAfter ds limits w own t → fits (own_after w own) t
  answer_fits n Fork own t given is h = absurd is
  answer_fits n Sync own t given is h = absurd is
  answer_fits n Done own t given is h = absurd is
  answer_fits n (Fault k) own t given is h = absurd is
  answer_fits n w own t given is h = h

  left_fits : (own : List ℕ) (t : State) → FitAfter ds limits Fork own t → Stands (0 ∷ []) (stand run (left t))
  left_fits [] t h = absurd h
  left_fits (b ∷ bs) t h = stand_fits (0 ∷ []) (left t) (record { open_scopes = opened around.Spawn 0 ∷ []; counted = refl; scoped = outermost; fits = (h.1, λ more m. (refl, λ never. cc)) })

  right_fits : (own : List ℕ) (t : State) → FitAfter ds limits Fork own t → Stands (0 ∷ own) (stand run t)
  right_fits [] t h = absurd h
  right_fits (b ∷ bs) t h = stand_fits (0 ∷ b ∷ bs) t h.0

  -- a strand that wants a fork stands so
  fork_fits : (own : List ℕ) (x : Standing State) → x.want ≡ Fork → Stands own x → FitAfter ds limits Fork own x.state
  fork_fits own x fork h = subst (λ w. FitAfter ds limits w own x.state) fork h.after

  -- where the right strand of a fork from state s is over it stands at a sync
  joined_fits : (own : List ℕ) (n : ℕ) (s : State) (w : Want) (t : State) → FitAfter ds limits Fork own s → is_over w ≡ true → MayWant w (n ∷ own) → FitAfter ds limits w (n ∷ own) t → fits own t
  joined_fits own n s Sync t fork over may h = h
  joined_fits [] n s Done t fork over may h = absurd fork
  joined_fits (b ∷ bs) zero s Done t fork over may h = absurd may
  joined_fits (b ∷ bs) (suc n) s Done t fork over may h = absurd may
  joined_fits own n s w t fork over may h = absurd cc

  main_fits : (o : Option Function) → function_of ds (codes "main") ≡ o → params_in o ≡ length words → fits (0 ∷ []) (at_main o words)
  main_fits None is takes =
      let (items, rest) = no_fault _ _ faultless.named in
      absurd (main_there 0 ds (no_fault _ _ rest).1 is)
  main_fits (Some f) is takes =
      let enough : length (reverse f.params) ≤ length (reverse words) = omega (arith, takes, length-reverse words, length-reverse f.params) in
      record { open_scopes = opened around.Neither 0 ∷ []; counted = refl; scoped = outermost; fits = (body_named ds (codes "main") f (reverse words) named is enough, λ more m. ((refl, refl), λ never. cc)) }

  start_fits : Stands (0 ∷ []) (stand run (at_main (function_of ds (codes "main")) words))
  start_fits = stand_fits (0 ∷ []) _ (main_fits (function_of ds (codes "main")) refl faultless.takes)

  goes_to_fits : {from own : List ℕ} {a b : Standing State} → GoesTo (strands_of_syntax ds words limits) from a own b → Stands from a → Stands own b
  goes_to_fits stays h = h
  goes_to_fits (answered {own = own} {b = b} goes given is) h =
      let fit : fits (own_after b.want own) b.state = answer_fits _ b.want own b.state given is (goes_to_fits goes h).after in
      stand_fits (own_after b.want own) (with_value given b.state) (with_value_fits ds limits given _ b.state fit)
  goes_to_fits (joins {own = own} {n = n} {b = b} {left = l} {right = right} goes fork left left_over goes_right over) h =
      let fit = fork_fits own b fork (goes_to_fits goes h) in
      let there = goes_to_fits goes_right (right_fits own b.state fit) in
      let at = joined_fits own n b.state right.want right.state fit over there.may there.after in
      stand_fits own (joined limits right.state l.state) (record { open_scopes = at.open_scopes; counted = at.counted; scoped = at.scoped; fits = at.fits })

  reached_fits : {own : List ℕ} {a : Standing State} → Reached (strands_of_syntax ds words limits) own a → Stands own a
  reached_fits (of_main goes) = goes_to_fits goes start_fits
  reached_fits (of_left {above = above} {f = f} reached fork goes) = goes_to_fits goes (left_fits above f.state (fork_fits above f fork (reached_fits reached)))
  reached_fits (of_right {above = above} {f = f} reached fork goes) = goes_to_fits goes (right_fits above f.state (fork_fits above f fork (reached_fits reached)))

  pub ends_only_when_done : (own : List ℕ) (x : Standing State) → Reached (strands_of_syntax ds words limits) own x → x.want ≡ Done → HasDoneAll x
  ends_only_when_done own x reached done =
      subst (λ w. FitAfter ds limits w own x.state) done (reached_fits reached).after

  pub lawful : IsLawful (strands_of_syntax ds words limits)
  lawful = record { deep = deep run (bounded ds words limits); closes = λ own x reached. (reached_fits reached).may }
