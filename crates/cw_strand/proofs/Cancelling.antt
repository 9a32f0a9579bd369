-- Code in which no instruction is a cancel never gives up a block.
use Rattle.std.proofs.Common.{◌≡◌, ◌+◌, ℕ, zero, suc, Bool, true, false, List, [], ◌∷◌, length, refl, subst, Option, Some, None, Result, Ok, Err, ℤ, pos, negsuc, nat_lt}
use Rattle.std.specs.Prelude.{slice_get, if◌then◌else◌, nat_le}
use Rattle.std.proofs.lemmas.Map.Keys.{any_passes_from_place}
use Rattle.cw_code.specs.declared.Back.{Back}
use Rattle.cw_code.specs.declared.FaultKind.{FaultKind}
use Rattle.cw_code.specs.declared.Limits.{Limits}
use Rattle.cw_code.specs.declared.effects.Effect.{Effect}
use Rattle.cw_code.specs.declared.effects.Effect.TheVariants as t
use Rattle.cw_code.specs.declared.instruction.Instr.{Instr}
use Rattle.cw_code.specs.declared.instruction.Func.{Func}
use Rattle.cw_code.specs.declared.instruction.Code.{Code}
use Rattle.cw_code.specs.Programs.{cancels, is_cancel}
use Rattle.cw_code.specs.Rules.{effect_of, faults}
use Rattle.cw_strand.specs.declared.want.Want.{Want}
use Rattle.cw_strand.specs.declared.want.Want.TheVariants.{Begin, Out, Store}
use Rattle.cw_strand.specs.Strands.{Strands, GoesTo, Reached, stays, answered, joins, of_main, of_left, of_right}
use Rattle.cw_strand.specs.Running.{Standing, on, wants, stuck, stand}
use Rattle.cw_strand.specs.Coded as coded
use Rattle.cw_strand.specs.Meaning.{one_inside, most_frames}
use Rattle.cw_strand.specs.Coded.{Frame, State, Step, index, goes_to, counts, spends, result, in_range, read_local, returned, wait_in}
use Rattle.cw_strand.specs.Laws.{GivesUpNothing}
use Rattle.cw_strand.proofs.Bounding.{bounded}
use Rattle.cw_strand.proofs.Settling.{stand_holds}

module _ (code : Code) where
  -- a step that wants something does not give up a block
  abbrev Keeps : Step → Type 0
  Keeps (on s) = Unit {0}
  Keeps (wants w s) = GivesUpNothing w
  Keeps stuck = Unit {0}

  keeps_either : (b : Bool) (x y : Step) → Keeps x → Keeps y → Keeps (if b then x else y)
  keeps_either true x y g h = g
  keeps_either false x y g h = h

  counted : (w : Want) (s : State) → GivesUpNothing w → Keeps (counts w s)
  counted w s h = keeps_either (nat_le s.limits.size s.size) _ _ tt h

  spent : (s : State) (go : State → Step) → Keeps (go (record s { fuel = s.fuel + 1 })) → Keeps (spends s go)
  spent s go h = keeps_either (nat_le s.limits.fuel s.fuel) _ _ tt h

  within : (len : ℕ) (z : ℤ) (s : State) (go : Step) → Keeps go → Keeps (in_range len z s go)
  within len (negsuc n) s go h = tt
  within len (pos n) s go h = keeps_either (nat_lt n len) _ _ h tt

  gave : (r : Result ℤ FaultKind) (p : ℕ) (vs : List ℤ) (s : State) → Keeps (result r p vs s)
  gave (Ok v) p vs s = tt
  gave (Err k) p vs s = tt

  local : (o : Option ℤ) (p : ℕ) (vs : List ℤ) (s : State) → Keeps (read_local o p vs s)
  local None p vs s = tt
  local (Some v) p vs s = tt

  back : (fs : List Frame) (v : ℤ) (s : State) → Keeps (returned fs v s)
  back [] v s = tt
  back (f ∷ fs) v s = tt

  waited : (ns : List ℕ) (p : ℕ) (vs : List ℤ) (s : State) → Keeps (wait_in ns p vs s)
  waited [] p vs s = tt
  waited (zero ∷ ns) p vs s = tt
  waited (suc n ∷ ns) p vs s = tt

  called : (o : Option Func) (p : ℕ) (vs : List ℤ) (s : State) → Keeps (coded.begins_call o p vs s)
  called None p vs s = tt
  called (Some g) p vs s = keeps_either (nat_lt (length vs) g.params) _ _ tt (keeps_either (nat_le most_frames (length s.callers + 1)) _ _ tt tt)

  acted : (e : Effect) → is_cancel (Some e) ≡ false → (i : Instr) (p : ℕ) (vs : List ℤ) (s : State) → Keeps (coded.act code e i p vs s)
  acted t.Load other i p vs s = counted _ _ tt
  acted t.LoadAt other i p (n ∷ vs) s = within i.b n s _ (counted _ _ tt)
  acted t.Store other i p (v ∷ vs) s = counted _ _ tt
  acted t.StoreAt other i p (v ∷ n ∷ vs) s = within i.b n s _ (counted _ _ tt)
  acted t.Push other i p vs s = tt
  acted t.Local other i p vs s = local _ p vs s
  acted t.Set other i p (v ∷ vs) s = keeps_either (nat_lt (index i.a) (length s.current.locals)) _ _ tt tt
  acted (t.Lift o) other i p (x ∷ vs) s = gave _ p vs s
  acted (t.Join o) other i p (y ∷ x ∷ vs) s = gave _ p vs s
  acted t.Jump other i p vs s = tt
  acted t.JumpZero other i p (v ∷ vs) s = tt
  acted t.Call other i p vs s = spent s (λ u. coded.begins_call (slice_get code.funcs (index i.a)) p vs u) (called _ p vs _)
  acted t.Ret other i p (v ∷ vs) s = back s.callers v s
  acted t.Drop other i p (v ∷ vs) s = tt
  acted t.Out other i p (v ∷ vs) s = counted (Out v) _ tt
  acted t.Begin other i p vs s = counted Begin (record (goes_to p vs s) { scopes = one_inside s.scopes }) tt
  acted t.End other i p vs s = tt
  acted t.Fork other i p vs s = keeps_either (nat_le s.limits.size s.size) _ _ tt tt
  acted t.Sync other i p vs s = waited s.scopes p vs s
  acted t.Done other i p vs s = tt
  acted t.Tick other i p vs s = spent s (λ u. on (goes_to p vs u)) tt
  acted t.Cancel other i p vs s = absurd cc
  acted e other i p vs s = tt

  by_effect : (o : Option Effect) → is_cancel o ≡ false → (i : Instr) (s : State) → Keeps (coded.act_of code o i s)
  by_effect None without i s = tt
  by_effect (Some e) without i s = acted e without i (s.current.place + 1) s.current.operands s

  module _ (without : cancels code ≡ false) where
    not_one : (n : ℕ) (i : Instr) → slice_get code.instrs n ≡ Some i → is_cancel (effect_of i) ≡ false
    not_one n i is = by (is_cancel (effect_of i)) refl where
      by : (b : Bool) → is_cancel (effect_of i) ≡ b → is_cancel (effect_of i) ≡ false
      by false e = e
      by true e = absurd (let one = any_passes_from_place (λ j. is_cancel (effect_of j)) code.instrs n i is e in cc)

    pub step_keeps : (s : State) → Keeps (coded.step code s)
    step_keeps s = keeps_either (nat_lt s.limits.size s.size) _ _ tt (by s.back) where
      at : (o : Option Instr) → slice_get code.instrs s.current.place ≡ o → Keeps (coded.step_at code o s)
      at None is = tt
      at (Some i) is = by_effect (effect_of i) (not_one s.current.place i is) i s

      by : (bs : List Back) → Keeps (coded.writes_back code bs s)
      by [] = at (slice_get code.instrs s.current.place) refl
      by (b ∷ bs) = counted (Store b.cell b.value) (record s { back = bs }) tt

    module _ (ok : faults code ≡ []) (main : ℕ) (words : List ℤ) (limits : Limits) where
      abbrev strands : Strands (Standing State)
      strands = coded.strands_of_code code main words limits

      stood : (s : State) → GivesUpNothing (stand (coded.runs code main words limits) s).want
      stood s =
          stand_holds (coded.runs code main words limits) (bounded code main words limits ok).on (λ u. Unit {0}) (λ x. GivesUpNothing x.want)
          (λ u v h is. tt)
          (λ u v w h is. subst Keeps is (step_keeps u))
          (λ u h is. tt)
          s tt

      goes : (from own : List ℕ) (a b : Standing State) → GoesTo strands from a own b → GivesUpNothing a.want → GivesUpNothing b.want
      goes from own a b stays h = h
      goes from own a b (answered {b = c} g given is) h = stood (coded.with_value given c.state)
      goes from own a b (joins {left = l} {right = r} g is gl lo gr ro) h = stood (coded.joined r.state l.state)

      pub gives_up_nothing : (own : List ℕ) (x : Standing State) → Reached strands own x → GivesUpNothing x.want
      gives_up_nothing own x (of_main g) = goes _ _ _ _ g (stood (coded.runs code main words limits).first)
      gives_up_nothing own x (of_left {f = f} r is g) = goes _ _ _ _ g (stood (coded.left f.state))
      gives_up_nothing own x (of_right {f = f} r is g) = goes _ _ _ _ g (stood f.state)
