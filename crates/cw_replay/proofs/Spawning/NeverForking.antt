-- Strands that never want a fork: those of code that has none; and what a record of such strands keeps has no fork.
use Rattle.std.proofs.Common.{◌≡◌, ℕ, zero, suc, ◌+◌, ℤ, Bool, true, false, List, [], ◌∷◌, length, Option, Some, None, Result, Ok, Err, refl, nat_lt, nat_le}
use Rattle.std.specs.Prelude.{if◌then◌else◌, slice_get, negsuc, pos}
use Rattle.cw_code.specs.declared.Back.{Back}
use Rattle.cw_code.specs.declared.FaultKind.{FaultKind}
use Rattle.cw_code.specs.declared.Limits.{Limits}
use Rattle.cw_code.specs.declared.instruction.Instr.{Instr}
use Rattle.cw_code.specs.declared.instruction.Func.{Func}
use Rattle.cw_code.specs.declared.instruction.Code.{Code}
use Rattle.cw_code.specs.declared.effects.Effect.{Effect}
use Rattle.cw_code.specs.declared.effects.Effect.TheVariants as effect
use Rattle.cw_code.specs.Table.{effect_at}
use Rattle.cw_strand.specs.declared.want.Want.{Want}
use Rattle.cw_strand.specs.declared.want.Want.TheVariants as want
use Rattle.cw_strand.specs.declared.want.Given.{Given}
use Rattle.cw_strand.specs.Arithmetic.{one, two}
use Rattle.cw_strand.specs.Strands as strands
use Rattle.cw_strand.specs.Strands.{Strands}
use Rattle.cw_strand.specs.Meaning.{one_inside}
use Rattle.cw_strand.specs.Running as running
use Rattle.cw_strand.specs.Running.{Running, Standing, LocalStep, on, wants, stuck}
use Rattle.cw_strand.specs.Coded as coded
use Rattle.cw_strand.specs.Coded.{State, Frame}
use Rattle.cw_replay.proofs.Spawning.ForkCode.{NoFork, is_forking, no_fork_at}

-- no strand ever wants a fork
pub record NeverForks {A : Type 0} (s : Strands A) : Type 0 where
  pub start : strands.wants_fork (s.want s.start) ≡ false
  pub answer : (a : A) (given : Given) → strands.wants_fork (s.want (s.answer a given)) ≡ false

-- ## Steps

-- a step that wants no fork
abbrev Plain : LocalStep State → Type 0
Plain (on t) = Unit {0}
Plain (wants w t) = strands.wants_fork w ≡ false
Plain stuck = Unit {0}

by_test : (b : Bool) (x y : LocalStep State) → Plain x → Plain y → Plain (if b then x else y)
by_test true x y h k = h
by_test false x y h k = k

counted_plain : (s : State) (go : State → LocalStep State) → ((t : State) → Plain (go t)) → Plain (coded.counted s go)
counted_plain s go h = by_test (nat_le s.limits.size s.size) _ _ refl (h _)

counts_plain : (w : Want) (s : State) → strands.wants_fork w ≡ false → Plain (coded.counts w s)
counts_plain w s h = counted_plain s (λ t. wants w t) (λ t. h)

spends_plain : (s : State) (go : State → LocalStep State) → ((t : State) → Plain (go t)) → Plain (coded.spends s go)
spends_plain s go h = by_test (nat_le s.limits.fuel s.fuel) _ _ refl (h _)

result_plain : (x : Result ℤ FaultKind) (p : ℕ) (vs : List ℤ) (s : State) → Plain (coded.result x p vs s)
result_plain (Ok v) p vs s = tt
result_plain (Err k) p vs s = refl

range_plain : (len : ℕ) (n : ℤ) (s : State) (go : LocalStep State) → Plain go → Plain (coded.in_range len n s go)
range_plain len (pos n) s go h = by_test (nat_lt n len) _ _ h refl
range_plain len (negsuc n) s go h = refl

local_plain : (o : Option ℤ) (p : ℕ) (vs : List ℤ) (s : State) → Plain (coded.read_local o p vs s)
local_plain None p vs s = tt
local_plain (Some v) p vs s = tt

called_plain : (o : Option Func) (p : ℕ) (vs : List ℤ) (s : State) → Plain (coded.begins_call o p vs s)
called_plain None p vs s = tt
called_plain (Some f) p vs s = by_test (nat_lt (length vs) f.params) _ _ tt (by_test (nat_le 10000 (length s.callers + 1)) _ _ refl tt)

returned_plain : (fs : List Frame) (v : ℤ) (s : State) → Plain (coded.returned fs v s)
returned_plain [] v s = refl
returned_plain (f ∷ fs) v s = tt

wait_plain : (ns : List ℕ) (p : ℕ) (vs : List ℤ) (s : State) → Plain (coded.wait_in ns p vs s)
wait_plain [] p vs s = tt
wait_plain (zero ∷ ns) p vs s = tt
wait_plain (suc n ∷ ns) p vs s = refl

module _ (code : Code) where
  act_plain : (e : Effect) (i : Instr) (p : ℕ) (vs : List ℤ) (s : State) → is_forking (Some e) ≡ false → Plain (coded.act code e i p vs s)
  act_plain effect.Push i p vs s h = tt
  act_plain effect.Local i p vs s h = local_plain (slice_get s.current.locals (coded.index i.a)) p vs s
  act_plain effect.Set i p [] s h = tt
  act_plain effect.Set i p (v ∷ vs) s h = by_test (nat_lt (coded.index i.a) (length s.current.locals)) _ _ tt tt
  act_plain effect.Load i p vs s h = counts_plain (want.Load (coded.index i.a)) (coded.goes_to p (pos 0 ∷ vs) s) refl
  act_plain effect.LoadAt i p [] s h = tt
  act_plain effect.LoadAt i p (n ∷ vs) s h =
      let w = want.Load (coded.index i.a + coded.index n) in
      let t = coded.goes_to p (pos 0 ∷ vs) s in
      range_plain i.b n s (coded.counts w t) (counts_plain w t refl)
  act_plain effect.Store i p [] s h = tt
  act_plain effect.Store i p (v ∷ vs) s h = counts_plain (want.Store (coded.index i.a) v) (coded.goes_to p vs s) refl
  act_plain effect.StoreAt i p [] s h = tt
  act_plain effect.StoreAt i p (v ∷ []) s h = tt
  act_plain effect.StoreAt i p (v ∷ n ∷ vs) s h =
      let w = want.Store (coded.index i.a + coded.index n) v in
      let t = coded.goes_to p vs s in
      range_plain i.b n s (coded.counts w t) (counts_plain w t refl)
  act_plain (effect.Lift o) i p [] s h = tt
  act_plain (effect.Lift o) i p (x ∷ vs) s h = result_plain (one o x) p vs s
  act_plain (effect.Join o) i p [] s h = tt
  act_plain (effect.Join o) i p (y ∷ []) s h = tt
  act_plain (effect.Join o) i p (y ∷ x ∷ vs) s h = result_plain (two o x y) p vs s
  act_plain effect.Jump i p vs s h = tt
  act_plain effect.JumpZero i p [] s h = tt
  act_plain effect.JumpZero i p (v ∷ vs) s h = tt
  act_plain effect.Call i p vs s h = spends_plain s (λ t. coded.begins_call (slice_get code.funcs (coded.index i.a)) p vs t) (λ t. called_plain (slice_get code.funcs (coded.index i.a)) p vs t)
  act_plain effect.Ret i p [] s h = tt
  act_plain effect.Ret i p (v ∷ vs) s h = returned_plain s.callers v s
  act_plain effect.Drop i p [] s h = tt
  act_plain effect.Drop i p (v ∷ vs) s h = tt
  act_plain effect.Out i p [] s h = tt
  act_plain effect.Out i p (v ∷ vs) s h = counts_plain (want.Out v) (coded.goes_to p vs s) refl
  act_plain effect.Begin i p vs s h = counts_plain want.Begin (record (coded.goes_to p vs s) { scopes = one_inside s.scopes }) refl
  act_plain effect.End i p vs s h = refl
  act_plain effect.Fork i p vs s h = absurd (cc h)
  act_plain effect.Sync i p vs s h = wait_plain s.scopes p vs s
  act_plain effect.Done i p vs s h = refl
  act_plain effect.Cancel i p vs s h = counts_plain want.Cancel (coded.goes_to p vs s) refl
  act_plain effect.Tick i p vs s h = spends_plain s (λ t. on (coded.goes_to p vs t)) (λ t. tt)

  module _ (none : NoFork code.instrs) where
    effect_plain : (i : Instr) (o : Option Effect) (s : State) → is_forking o ≡ false → Plain (coded.act_of code o i s)
    effect_plain i None s h = tt
    effect_plain i (Some e) s h = act_plain e i (s.current.place + 1) s.current.operands s h

    step_plain : (s : State) → Plain (coded.step code s)
    step_plain s = by_test (nat_lt s.limits.size s.size) _ _ refl (back_plain s.back)
      where
        at_plain : (o : Option Instr) → slice_get code.instrs s.current.place ≡ o → Plain (coded.step_at code o s)
        at_plain None e = tt
        at_plain (Some i) e = effect_plain i (effect_at i.op) s (no_fork_at code.instrs s.current.place i none e)

        back_plain : (bs : List Back) → Plain (coded.writes_back code bs s)
        back_plain [] = at_plain (slice_get code.instrs s.current.place) refl
        back_plain (b ∷ bs) = counts_plain (want.Store b.cell b.value) (record s { back = bs }) refl

    -- ## Strands

    module _ (main : ℕ) (words : List ℤ) (limits : Limits) where
      abbrev r : Running State
      r = coded.runs code main words limits

      by_step : (s : State) (x : LocalStep State) (go : State → Standing State) → Plain x → ((t : State) → strands.wants_fork (go t).want ≡ false) → strands.wants_fork (running.stand_by r s x go).want ≡ false
      by_step s (on t) go h k = k t
      by_step s (wants w t) go h k = h
      by_step s stuck go h k = refl

      stands : (n : ℕ) (s : State) → strands.wants_fork (running.stand_within r n s).want ≡ false
      stands zero s = by_step s (coded.step code s) _ (step_plain s) (λ t. refl)
      stands (suc n) s = by_step s (coded.step code s) _ (step_plain s) (λ t. stands n t)

      pub never_forks : NeverForks (coded.strands_of_code code main words limits)
      never_forks = record { start = stands (r.bound r.first) r.first; answer = λ a given. let t = r.answered given a.state in stands (r.bound t) t }
