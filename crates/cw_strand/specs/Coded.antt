-- What a strand does, over compiled code.
--
-- A strand is at a place of a function, with the function's locals and operands. The functions that called it wait with
-- theirs. An instruction takes its operands from the newest on, and leaves its result there.
use Rattle.std.specs.Prelude.{◌≡◌, ℕ, suc, ◌+◌, ◌-◌, ◌*◌, List, [], ◌∷◌, ◌++◌, length, take, drop, reverse, replicate, max, Option, Some, None, Result, Ok, Err, if◌then◌else◌, nat_lt, nat_le, ℤ, pos, negsuc, slice_get, slice_set}
use Rattle.cw_code.specs.declared.instruction.Instr.{Instr}
use Rattle.cw_code.specs.declared.instruction.Func.{Func}
use Rattle.cw_code.specs.declared.instruction.Code.{Code}
use Rattle.cw_code.specs.declared.FaultKind.{FaultKind}
use Rattle.cw_code.specs.declared.FaultKind.TheVariants.{Range, Depth, Fuel, Size}
use Rattle.cw_code.specs.declared.Limits.{Limits}
use Rattle.cw_code.specs.declared.effects.Effect.{Effect}
use Rattle.cw_code.specs.declared.effects.Effect.TheVariants.{Push as push, Local as local, Set as set, Load as load, LoadAt as load_at, Store as store, StoreAt as store_at, Lift as lift, Join as join, Jump as jump, JumpZero as jump_zero, Call as call, Ret as ret, Drop as drop_top, Out as out, Begin as begin, End as end, Fork as fork, Sync as sync, Done as done, Tick as tick, Cancel as cancel}
use Rattle.cw_code.specs.Table.{effect_at}
use Rattle.cw_code.specs.Rules.{is_tick}
use Rattle.cw_strand.specs.declared.want.Want.{Want}
use Rattle.cw_strand.specs.declared.want.Want.TheVariants.{Load, Store, Out, Begin, End, Cancel, Fork, Sync, Done, Fault}
use Rattle.cw_strand.specs.declared.want.Given.{Given}
use Rattle.cw_strand.specs.declared.want.Given.TheVariants.{Nothing, Value, Back as Wrote}
use Rattle.cw_code.specs.declared.Back.{Back}
use Rattle.cw_strand.specs.Strands.{Strands}
use Rattle.cw_strand.specs.Running as running
use Rattle.cw_strand.specs.Running.{Running, Standing, on, wants, stuck}
use Rattle.cw_strand.specs.Meaning.{one_more, one_inside, in_place, both_counts, most_frames, stores_and_steps_left}
use Rattle.cw_strand.specs.Arithmetic.{one, two, is_zero}

-- an active function: where it goes on, its operands, the newest first, and its locals by number
pub record Frame : Type 0 where
  pub place : ℕ
  pub operands : List ℤ
  pub locals : List ℤ

pub record State : Type 0 where
  pub current : Frame
  -- the functions that wait for a return, the nearest first
  pub callers : List Frame
  -- for each scope that waits at its end, the innermost first, how many forks it waits for
  pub scopes : List ℕ
  -- the units of fuel that were spent, and how many things were counted
  pub fuel : ℕ
  pub size : ℕ
  -- where the left strand of the newest fork begins
  pub beside : ℕ
  -- what is still to be written back, the next first
  pub back : List Back
  pub limits : Limits

abbrev pub Step : Type 0
Step = running.LocalStep State

-- the number of the place, local, cell or function that an operand names
abbrev pub index : ℤ → ℕ
index (pos n) = n
index (negsuc n) = 0

-- the state that goes on at the place p with the operands vs
abbrev pub goes_to : ℕ → List ℤ → State → State
goes_to p vs s = record s { current = record { place = p; operands = vs; locals = s.current.locals } }

abbrev pub with_value : Given → State → State
with_value Nothing s = s
with_value (Value v) s = goes_to s.current.place (in_place v s.current.operands) s
with_value (Wrote bs) s = record s { back = bs }

-- the arguments, the last one first, become the first locals; zeros follow them
abbrev pub locals_for : Func → List ℤ → List ℤ
locals_for f vs = reverse (take f.params vs) ++ replicate (f.locals - f.params) (pos 0)

-- the state at the end: if only its own scope is open, it keeps no locals and no scope
abbrev pub ended : List ℕ → State → State
ended (n ∷ []) s = record s { current = record { place = s.current.place; operands = s.current.operands; locals = [] }; scopes = [] }
ended ns s = s

-- the left strand of the newest fork: it has the locals and the fuel spent so far, and counts from 0
abbrev pub left : State → State
left s = record s {
  current = record { place = s.beside; operands = []; locals = s.current.locals };
  callers = [];
  scopes = 0 ∷ [];
  size = 0;
  back = [];
}

-- the strand that forked has what the right one has, with the greater fuel and both counts
abbrev pub joined : (right left : State) → State
joined right left = record right { fuel = max left.fuel right.fuel; size = both_counts right.limits right.size left.size }

-- goes on and counts one, if the limit allows it
abbrev pub counted : State → (State → Step) → Step
counted s go = if nat_le s.limits.size s.size then wants (Fault Size) s else go (record s { size = s.size + 1 })

abbrev pub counts : Want → State → Step
counts w s = counted s (λ t. wants w t)

-- spends one unit of fuel and goes on, if the limit allows it
abbrev pub spends : State → (State → Step) → Step
spends s go = if nat_le s.limits.fuel s.fuel then wants (Fault Fuel) s else go (record s { fuel = s.fuel + 1 })

-- pushes an operator's result on the operands vs and goes on at the place p
abbrev pub result : Result ℤ FaultKind → ℕ → List ℤ → State → Step
result (Ok v) p vs s = on (goes_to p (v ∷ vs) s)
result (Err k) p vs s = wants (Fault k) s

-- goes on if the index is below the length
abbrev pub in_range : ℕ → ℤ → State → Step → Step
in_range len (negsuc n) s go = wants (Fault Range) s
in_range len (pos n) s go = if nat_lt n len then go else wants (Fault Range) s

abbrev pub read_local : Option ℤ → ℕ → List ℤ → State → Step
read_local None p vs s = stuck
read_local (Some v) p vs s = on (goes_to p (v ∷ vs) s)

abbrev pub write_local : ℕ → ℤ → ℕ → List ℤ → State → Step
write_local n v p vs s =
    if nat_lt n (length s.current.locals) then on (record s { current = record { place = p; operands = vs; locals = slice_set s.current.locals n v } }) else stuck

-- a function begins, within the limit of active functions; its caller goes on at the place behind the call, without the arguments
abbrev pub begins_call : Option Func → ℕ → List ℤ → State → Step
begins_call None p vs s = stuck
begins_call (Some f) p vs s =
    if nat_lt (length vs) f.params then stuck
    else if nat_le most_frames (length s.callers + 1) then wants (Fault Depth) s
    else on (record s {
      current = record { place = f.start; operands = []; locals = locals_for f vs };
      callers = record { place = p; operands = drop f.params vs; locals = s.current.locals } ∷ s.callers;
      scopes = 0 ∷ s.scopes;
    })

abbrev pub returned : List Frame → ℤ → State → Step
returned [] v s = wants Done (ended s.scopes s)
returned (f ∷ fs) v s = on (record s {
  current = record { place = f.place; operands = v ∷ f.operands; locals = f.locals };
  callers = fs;
  scopes = drop 1 s.scopes;
})

-- a strand goes on if the innermost scope waits for nothing, otherwise it ends as a right strand
abbrev pub wait_in : List ℕ → ℕ → List ℤ → State → Step
wait_in (suc n ∷ ns) p vs s = wants Sync (record s { scopes = n ∷ ns })
wait_in ns p vs s = on (goes_to p vs s)

module _ (code : Code) where
  -- what an effect does, given the place behind the instruction and the operands
  abbrev pub act : Effect → Instr → ℕ → List ℤ → State → Step
  act push i p vs s = on (goes_to p (i.a ∷ vs) s)
  act local i p vs s = read_local (slice_get s.current.locals (index i.a)) p vs s
  act set i p (v ∷ vs) s = write_local (index i.a) v p vs s
  -- a zero holds the place of the value that is loaded
  act load i p vs s = counts (Load (index i.a)) (goes_to p (pos 0 ∷ vs) s)
  act load_at i p (n ∷ vs) s = in_range i.b n s (counts (Load (index i.a + index n)) (goes_to p (pos 0 ∷ vs) s))
  act store i p (v ∷ vs) s = counts (Store (index i.a) v) (goes_to p vs s)
  act store_at i p (v ∷ n ∷ vs) s = in_range i.b n s (counts (Store (index i.a + index n) v) (goes_to p vs s))
  act (lift o) i p (x ∷ vs) s = result (one o x) p vs s
  act (join o) i p (y ∷ x ∷ vs) s = result (two o x y) p vs s
  act jump i p vs s = on (goes_to (index i.a) vs s)
  act jump_zero i p (v ∷ vs) s = on (goes_to (if is_zero v then index i.a else p) vs s)
  act call i p vs s = spends s (λ t. begins_call (slice_get code.funcs (index i.a)) p vs t)
  act ret i p (v ∷ vs) s = returned s.callers v s
  act drop_top i p (v ∷ vs) s = on (goes_to p vs s)
  act out i p (v ∷ vs) s = counts (Out v) (goes_to p vs s)
  act begin i p vs s = counts Begin (record (goes_to p vs s) { scopes = one_inside s.scopes })
  act end i p vs s = wants End (record (goes_to p vs s) { scopes = drop 1 s.scopes })
  act fork i p vs s = counted s (λ t. wants Fork (record (goes_to (index i.a) vs t) { scopes = one_more t.scopes; beside = p }))
  act sync i p vs s = wait_in s.scopes p vs s
  act done i p vs s = wants Done (ended s.scopes s)
  act cancel i p vs s = counts Cancel (goes_to p vs s)
  act tick i p vs s = spends s (λ t. on (goes_to p vs t))
  act e i p vs s = stuck

  abbrev pub act_of : Option Effect → Instr → State → Step
  act_of None i s = stuck
  act_of (Some e) i s = act e i (s.current.place + 1) s.current.operands s

  abbrev pub step_at : Option Instr → State → Step
  step_at None s = stuck
  step_at (Some i) s = act_of (effect_at i.op) i s

  -- what is to be written back comes before all else
  abbrev pub writes_back : List Back → State → Step
  writes_back [] s = step_at (slice_get code.instrs s.current.place) s
  writes_back (b ∷ bs) s = counts (Store b.cell b.value) (record s { back = bs })

  -- only a join makes the count exceed the limit
  abbrev pub step : State → Step
  step s = if nat_lt s.limits.size s.size then wants (Fault Size) s else writes_back s.back s

  -- ## Local work

  -- how far a place is from the end; a backward jump leads to a tick
  abbrev pub rank : ℕ → ℕ
  rank p = if is_tick (slice_get code.instrs p) then 0 else suc (length code.instrs - p)

  -- a bound on the steps by itself if nothing is to be written back: a tick and a call spend fuel, a return leaves a
  -- caller, any other step comes nearer to the end
  abbrev pub steps_left : State → ℕ
  steps_left s = (length code.instrs + 2) * (2 * (s.limits.fuel - s.fuel) + length s.callers) + rank s.current.place

  -- ## Strands

  -- the strand of a function with the arguments vs, the last one first
  abbrev pub starts_at : Option Func → List ℤ → Limits → State
  starts_at None vs limits = record { current = record { place = 0; operands = []; locals = [] }; callers = []; scopes = []; fuel = 0; size = 0; beside = 0; back = []; limits = limits }
  starts_at (Some f) vs limits = record {
    current = record { place = f.start; operands = []; locals = locals_for f vs };
    callers = [];
    scopes = 0 ∷ [];
    fuel = 0;
    size = 0;
    beside = 0;
    back = [];
    limits = limits;
  }

  -- the function main exists and has n parameters
  abbrev pub MainTakes : (main n : ℕ) → Type 0
  MainTakes main n = (f : Func) × (slice_get code.funcs main ≡ Some f) × (f.params ≡ n)

  -- How the strands of code run from the function `main` on, with the words of the command and the limits.
  abbrev pub runs : (main : ℕ) → List ℤ → Limits → Running State
  runs main words limits = record {
    elements = code.cells;
    first = starts_at (slice_get code.funcs main) (reverse words) limits;
    step = step;
    answered = with_value;
    left = left;
    joined = joined;
    bound = λ s. stores_and_steps_left s.limits (steps_left s) s.size;
  }

  -- The strands of code.
  abbrev pub strands_of_code : (main : ℕ) → List ℤ → Limits → Strands (Standing State)
  strands_of_code main words limits = running.strands (runs main words limits)
