-- What a strand is once it went back to the begin of a block.
use Rattle.std.proofs.Common.{◌≡◌, ◌∙◌, ℕ, suc, ◌<◌, ◌≤◌, List, [], ◌∷◌, length, drop, refl, sym, ap, subst, arith, ℤ}
use Rattle.cw_code.specs.declared.Back.{Back}
use Rattle.cw_code.specs.declared.Limits.{Limits}
use Rattle.cw_strand.specs.Coded.{Frame, State}
use Rattle.cw_strand.specs.Standing.{HasBegun}
use Rattle.cw_strand.specs.Saving.{Kept, kept_of, lowest, StillStands, MayGoBack}
use Rattle.cw_strand.proofs.Below.{stays_below}
use Rattle.cw_strand.proofs.Lowest.{lowest_all, lowest_enough, lowest_less}

abbrev made : ℕ → List ℤ → List ℤ → List Frame → List ℕ → (fuel size beside : ℕ) → Limits → State
made p vs ls fs ns fuel size beside limits = record {
  current = record { place = p; operands = vs; locals = ls };
  callers = fs;
  scopes = ns;
  fuel = fuel;
  size = size;
  beside = beside;
  back = [];
  limits = limits;
}

-- the function that stands, and those that wait
abbrev pub functions : State → List Frame
functions s = s.current ∷ s.callers

abbrev head_or : Frame → List Frame → Frame
head_or d [] = d
head_or d (f ∷ fs) = f

module _ (kept : Kept) (now : State) (m : MayGoBack kept now) where
  abbrev start : State
  start = m.begin.state

  began : HasBegun m.code start
  began = m.stands.begun refl

  still : StillStands start now
  still =
      let s = stays_below m.code m.sound m.main m.words m.limits m.begin m.there m.forks m.inner m.wants m.stands m.inside m.stays in
      subst (StillStands start) (sym m.like) (record { function = s.function; functions = s.functions; locals = s.locals; forks = s.forks; scopes = s.scopes; limits = s.limits })

  callers_kept : kept.callers ≡ length start.callers
  callers_kept = ap (λ k. k.callers) m.is_kept

  -- as many functions wait as then
  pub enough_callers : kept.callers ≤ length now.callers
  enough_callers = let le = lowest_enough (suc (length start.callers)) (functions now) (still.function ∷ start.callers) still.functions refl in omega (arith, le, callers_kept)

  scopes_kept : suc kept.scopes ≡ length start.scopes
  scopes_kept = omega (arith, ap (λ k. k.scopes) m.is_kept, ap length began.opened)

  around_it : drop 1 start.scopes ≡ began.around ∷ began.scopes
  around_it = ap (drop 1) began.opened

  pub enough_scopes : kept.scopes < length now.scopes
  enough_scopes =
      let same : length (still.forks ∷ drop 1 start.scopes) ≡ length start.scopes = omega (arith, ap length around_it, ap length began.opened) in
      omega (arith, scopes_kept, lowest_enough (length start.scopes) now.scopes (still.forks ∷ drop 1 start.scopes) still.scopes same)

  -- where those that were called since have left
  module _ (last : State) (same : lowest (suc kept.callers) (functions last) ≡ lowest (suc kept.callers) (functions now)) (rest : last ≡ record now { current = last.current; callers = last.callers }) (left : length last.callers ≡ kept.callers) where
    waiting : functions last ≡ still.function ∷ start.callers
    waiting = sym (lowest_all (suc kept.callers) (functions last) (ap suc left)) ∙ same ∙ ap (λ n. lowest (suc n) (functions now)) callers_kept ∙ still.functions

    pub as_many_locals : length last.current.locals ≡ length kept.locals
    as_many_locals = ap (λ fs. length (head_or last.current fs).locals) waiting ∙ still.locals ∙ sym (ap (λ k. length k.locals) m.is_kept)

    scopes_last : last.scopes ≡ now.scopes
    scopes_last = ap (λ s. s.scopes) rest

    pub as_many_scopes : kept.scopes < length last.scopes
    as_many_scopes = omega (arith, enough_scopes, ap length scopes_last)

    scopes_again : 0 ∷ lowest kept.scopes last.scopes ≡ start.scopes
    scopes_again =
        ap (λ ns. 0 ∷ lowest kept.scopes ns) scopes_last
        ∙ ap (λ ns. 0 ∷ ns) (sym (lowest_less kept.scopes now.scopes enough_scopes))
        ∙ ap (λ n. 0 ∷ drop 1 (lowest n now.scopes)) scopes_kept
        ∙ ap (λ ns. 0 ∷ drop 1 ns) still.scopes
        ∙ ap (λ ns. 0 ∷ ns) around_it
        ∙ sym began.opened

    -- it stands as it did at the begin
    pub went_back : made kept.place [] kept.locals last.callers (0 ∷ lowest kept.scopes last.scopes) kept.fuel kept.size kept.beside last.limits ≡ start
    went_back =
        let k : Kept = kept_of start in
        ap (λ j. made j.place [] j.locals last.callers (0 ∷ lowest kept.scopes last.scopes) j.fuel j.size j.beside last.limits) m.is_kept
        ∙ ap (λ vs. made k.place vs k.locals last.callers (0 ∷ lowest kept.scopes last.scopes) k.fuel k.size k.beside last.limits) (sym began.operands)
        ∙ ap (λ fs. made k.place start.current.operands k.locals (drop 1 fs) (0 ∷ lowest kept.scopes last.scopes) k.fuel k.size k.beside last.limits) waiting
        ∙ ap (λ ns. made k.place start.current.operands k.locals start.callers ns k.fuel k.size k.beside last.limits) scopes_again
        ∙ ap (λ l. made k.place start.current.operands k.locals start.callers start.scopes k.fuel k.size k.beside l) (ap (λ s. s.limits) rest ∙ still.limits)
        ∙ ap (λ (bs : List Back). record start { back = bs }) (sym began.back)
