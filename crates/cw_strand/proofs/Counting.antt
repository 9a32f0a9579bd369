-- What a step of code leaves as it is: the limits, and what is to be written back; and nothing is counted less.
use Rattle.std.proofs.Common.{◌≡◌, ℕ, zero, suc, ◌+◌, ◌≤◌, Bool, true, false, List, [], ◌∷◌, length, refl, arith, Option, Some, None, Result, Ok, Err, ℤ, pos, negsuc, nat_lt}
use Rattle.std.specs.Prelude.{slice_get, if◌then◌else◌, nat_le}
use Rattle.cw_code.specs.declared.instruction.Instr.{Instr}
use Rattle.cw_code.specs.declared.instruction.Func.{Func}
use Rattle.cw_code.specs.declared.instruction.Code.{Code}
use Rattle.cw_code.specs.declared.FaultKind.{FaultKind}
use Rattle.cw_code.specs.declared.effects.Effect.{Effect}
use Rattle.cw_code.specs.declared.effects.Effect.TheVariants as t
use Rattle.cw_code.specs.Table.{effect_at}
use Rattle.cw_strand.specs.declared.want.Want.{Want}
use Rattle.cw_strand.specs.declared.want.Want.TheVariants.{Begin, Cancel, Done, Load, Out, Store}
use Rattle.cw_strand.specs.Arithmetic.{one, two}
use Rattle.cw_strand.specs.Meaning.{one_inside, most_frames}
use Rattle.cw_strand.specs.Running.{on, wants, stuck}
use Rattle.cw_strand.specs.Coded as coded
use Rattle.cw_strand.specs.Coded.{Frame, State, Step, index, goes_to, counts, spends, result, in_range, read_local, write_local, returned, wait_in}

pub record Keeps (s t : State) : Type 0 where
  pub limits : t.limits ≡ s.limits
  pub counted : s.size ≤ t.size
  pub back : t.back ≡ s.back

abbrev pub StepKeeps : State → Step → Type 0
StepKeeps s (on t) = Keeps s t
StepKeeps s (wants w t) = Keeps s t
StepKeeps s stuck = Unit {0}

module _ (s : State) where
  keeps_either : (b : Bool) (x y : Step) → StepKeeps s x → StepKeeps s y → StepKeeps s (if b then x else y)
  keeps_either true x y g h = g
  keeps_either false x y g h = h

  counts_keep : (w : Want) (u : State) → Keeps s u → StepKeeps s (counts w u)
  counts_keep w u h = keeps_either (nat_le u.limits.size u.size) _ _ h (record { limits = h.limits; counted = omega (arith, h.counted); back = h.back })

  result_keeps : (r : Result ℤ FaultKind) (p : ℕ) (vs : List ℤ) → StepKeeps s (result r p vs s)
  result_keeps (Ok v) p vs = record { limits = refl; counted = omega arith; back = refl }
  result_keeps (Err k) p vs = record { limits = refl; counted = omega arith; back = refl }

  read_keeps : (o : Option ℤ) (p : ℕ) (vs : List ℤ) → StepKeeps s (read_local o p vs s)
  read_keeps None p vs = tt
  read_keeps (Some v) p vs = record { limits = refl; counted = omega arith; back = refl }

  range_keeps : (len : ℕ) (z : ℤ) (go : Step) → StepKeeps s go → StepKeeps s (in_range len z s go)
  range_keeps len (negsuc n) go h = record { limits = refl; counted = omega arith; back = refl }
  range_keeps len (pos n) go h = keeps_either (nat_lt n len) _ _ h (record { limits = refl; counted = omega arith; back = refl })

  ended_keeps : (ns : List ℕ) → StepKeeps s (wants Done (coded.ended ns s))
  ended_keeps [] = record { limits = refl; counted = omega arith; back = refl }
  ended_keeps (n ∷ []) = record { limits = refl; counted = omega arith; back = refl }
  ended_keeps (n ∷ m ∷ ns) = record { limits = refl; counted = omega arith; back = refl }

  returned_keeps : (fs : List Frame) (v : ℤ) → StepKeeps s (returned fs v s)
  returned_keeps [] v = ended_keeps s.scopes
  returned_keeps (f ∷ fs) v = record { limits = refl; counted = omega arith; back = refl }

  waited_keeps : (ns : List ℕ) (p : ℕ) (vs : List ℤ) → StepKeeps s (wait_in ns p vs s)
  waited_keeps [] p vs = record { limits = refl; counted = omega arith; back = refl }
  waited_keeps (zero ∷ ns) p vs = record { limits = refl; counted = omega arith; back = refl }
  waited_keeps (suc n ∷ ns) p vs = record { limits = refl; counted = omega arith; back = refl }

  called_keeps : (o : Option Func) (p : ℕ) (vs : List ℤ) → StepKeeps s (coded.begins_call o p vs (record s { fuel = s.fuel + 1 }))
  called_keeps None p vs = tt
  called_keeps (Some f) p vs =
      keeps_either (nat_lt (length vs) f.params) _ _ tt
      (keeps_either (nat_le most_frames (length s.callers + 1)) _ _ (record { limits = refl; counted = omega arith; back = refl }) (record { limits = refl; counted = omega arith; back = refl }))

module _ (code : Code) (s : State) where
  act_keeps : (e : Effect) (i : Instr) (p : ℕ) (vs : List ℤ) → StepKeeps s (coded.act code e i p vs s)
  act_keeps t.Push i p vs = record { limits = refl; counted = omega arith; back = refl }
  act_keeps t.Local i p vs = read_keeps s (slice_get s.current.locals (index i.a)) p vs
  act_keeps t.Set i p (v ∷ vs) = keeps_either s (nat_lt (index i.a) (length s.current.locals)) _ _ (record { limits = refl; counted = omega arith; back = refl }) tt
  act_keeps t.Load i p vs = counts_keep s (Load (index i.a)) (goes_to p (pos 0 ∷ vs) s) (record { limits = refl; counted = omega arith; back = refl })
  act_keeps t.LoadAt i p (n ∷ vs) = range_keeps s i.b n _ (counts_keep s (Load (index i.a + index n)) (goes_to p (pos 0 ∷ vs) s) (record { limits = refl; counted = omega arith; back = refl }))
  act_keeps t.Store i p (v ∷ vs) = counts_keep s (Store (index i.a) v) (goes_to p vs s) (record { limits = refl; counted = omega arith; back = refl })
  act_keeps t.StoreAt i p (v ∷ n ∷ vs) = range_keeps s i.b n _ (counts_keep s (Store (index i.a + index n) v) (goes_to p vs s) (record { limits = refl; counted = omega arith; back = refl }))
  act_keeps (t.Lift o) i p (x ∷ vs) = result_keeps s (one o x) p vs
  act_keeps (t.Join o) i p (y ∷ x ∷ vs) = result_keeps s (two o x y) p vs
  act_keeps t.Jump i p vs = record { limits = refl; counted = omega arith; back = refl }
  act_keeps t.JumpZero i p (v ∷ vs) = record { limits = refl; counted = omega arith; back = refl }
  act_keeps t.Call i p vs = keeps_either s (nat_le s.limits.fuel s.fuel) _ _ (record { limits = refl; counted = omega arith; back = refl }) (called_keeps s (slice_get code.funcs (index i.a)) p vs)
  act_keeps t.Ret i p (v ∷ vs) = returned_keeps s s.callers v
  act_keeps t.Drop i p (v ∷ vs) = record { limits = refl; counted = omega arith; back = refl }
  act_keeps t.Out i p (v ∷ vs) = counts_keep s (Out v) (goes_to p vs s) (record { limits = refl; counted = omega arith; back = refl })
  act_keeps t.Begin i p vs = counts_keep s Begin (record (goes_to p vs s) { scopes = one_inside s.scopes }) (record { limits = refl; counted = omega arith; back = refl })
  act_keeps t.End i p vs = record { limits = refl; counted = omega arith; back = refl }
  act_keeps t.Fork i p vs = keeps_either s (nat_le s.limits.size s.size) _ _ (record { limits = refl; counted = omega arith; back = refl }) (record { limits = refl; counted = omega arith; back = refl })
  act_keeps t.Sync i p vs = waited_keeps s s.scopes p vs
  act_keeps t.Done i p vs = ended_keeps s s.scopes
  act_keeps t.Tick i p vs = keeps_either s (nat_le s.limits.fuel s.fuel) _ _ (record { limits = refl; counted = omega arith; back = refl }) (record { limits = refl; counted = omega arith; back = refl })
  act_keeps t.Cancel i p vs = counts_keep s Cancel (goes_to p vs s) (record { limits = refl; counted = omega arith; back = refl })
  act_keeps e i p vs = tt

  -- a step where nothing is to be written back
  pub step_keeps : (o : Option Instr) → StepKeeps s (coded.step_at code o s)
  step_keeps None = tt
  step_keeps (Some i) = by (effect_at i.op)
    where
      by : (o : Option Effect) → StepKeeps s (coded.act_of code o i s)
      by None = tt
      by (Some e) = act_keeps e i (s.current.place + 1) s.current.operands
