-- What a strand does, over the syntax tree.
--
-- A strand has a list of what is still to be done, the nearest first. A statement is replaced by its parts, an
-- expression by its operands and its operator.
--
-- The body of a function, an atomic block and a spawned block wait at their ends for the work that was spawned directly
-- in them, and `sync` waits for it too. Where work is spawned, what comes after it goes on as the right strand. The
-- right strand ends where it would wait. The strand that forked goes on from there after both have ended.
--
-- A called function begins with its arguments as its locals, and with no operands. Its caller waits with its own. A
-- function gives the value of its `return`, which waits for what the function spawned, or 0 at its end.
--
-- A cancel waits as the end of its atomic block does. It is then told what the block wrote and which values were there
-- before. All that is left of the block is not done: those values are written back, one store after the other, and the
-- block ends.
--
-- Each statement except a loop costs a unit of fuel when it begins, and each test of a loop and each call costs one. A
-- load, a store, an output, the begin of a block, a cancel and a fork count one each, and so does each store that
-- writes back.
use Rattle.std.specs.Prelude.{◌≡◌, ℕ, suc, ◌+◌, ◌-◌, ◌*◌, List, [], ◌∷◌, length, drop, reverse, max, min, Option, Some, None, Result, Ok, Err, if◌then◌else◌, nat_lt, nat_le, codes, ℤ, pos, negsuc}
use Rattle.std.specs.Str.{bytes_eq}
use Rattle.cw_text.specs.declared.ast.Word.{Word}
use Rattle.cw_text.specs.declared.ast.Op.{Op}
use Rattle.cw_text.specs.declared.ast.Op.TheVariants as op
use Rattle.cw_text.specs.Syntax.{Term, number, name, at, call, unary, binary, Terms, none, more, Statement, declare, assign, assign_at, run, out, choose, repeat, atomic, spawn, sync, cancel, return, Block, empty, first, Declaration, cell, func}
use Rattle.cw_code.specs.declared.FaultKind.{FaultKind}
use Rattle.cw_code.specs.declared.FaultKind.TheVariants.{Range, Depth, Fuel, Size}
use Rattle.cw_code.specs.declared.CellInfo.{CellInfo}
use Rattle.cw_code.specs.declared.Limits.{Limits}
use Rattle.cw_code.specs.declared.effects.Operator.{Operator}
use Rattle.cw_code.specs.declared.effects.Operator.TheVariants.{Add as add, Sub as sub, Mul as mul, Div as div, Rem as rem, Neg as neg, Not as logical_not, Eq as eq, Ne as ne, Lt as lt, Le as le, Gt as gt, Ge as ge}
use Rattle.cw_strand.specs.declared.want.Want.{Want}
use Rattle.cw_strand.specs.declared.want.Want.TheVariants.{Load, Store, Out, Begin, End, Cancel, Fork, Sync, Done, Fault}
use Rattle.cw_strand.specs.declared.want.Given.{Given}
use Rattle.cw_strand.specs.declared.want.Given.TheVariants.{Nothing, Value, Back as Wrote}
use Rattle.cw_code.specs.declared.Back.{Back}
use Rattle.cw_strand.specs.Strands.{Strands}
use Rattle.cw_strand.specs.Running as running
use Rattle.cw_strand.specs.Running.{Running, Standing, on, wants, stuck}
use Rattle.cw_strand.specs.Names.{cells_of, count_of, first_memory}
use Rattle.cw_strand.specs.Arithmetic.{one, two, is_zero}

-- ## Names

-- the number of a plain cell's element
abbrev pub element_of : List CellInfo → List ℕ → Option ℕ
element_of [] n = None
element_of (c ∷ cs) n = if bytes_eq n c.name then Some c.base else element_of cs n

-- the cell with the name n
abbrev pub cell_of : List CellInfo → List ℕ → Option CellInfo
cell_of [] n = None
cell_of (c ∷ cs) n = if bytes_eq n c.name then Some c else cell_of cs n

-- locals, the newest first
abbrev pub Locals : Type 0
Locals = List (List ℕ × ℤ)

abbrev pub local_of : Locals → List ℕ → Option ℤ
local_of [] n = None
local_of (x ∷ xs) n = if bytes_eq n x.0 then Some x.1 else local_of xs n

abbrev pub with_local : Locals → List ℕ → ℤ → Locals
with_local [] n v = []
with_local (x ∷ xs) n v = if bytes_eq n x.0 then (x.0, v) ∷ xs else x ∷ with_local xs n v

-- the arguments, the last one first, under the parameters' names, the last one first
abbrev pub bound_to : List Word → List ℤ → Locals
bound_to [] vs = []
bound_to (w ∷ ws) [] = []
bound_to (w ∷ ws) (v ∷ vs) = (w.name, v) ∷ bound_to ws vs

-- a function
pub record Function : Type 0 where
  pub params : List Word
  pub body : Block

abbrev pub function_of : List Declaration → List ℕ → Option Function
function_of [] n = None
function_of (cell x l len i ∷ ds) n = function_of ds n
function_of (func x l ps b ∷ ds) n = if bytes_eq x n then Some (record { params = ps; body = b }) else function_of ds n

abbrev pub params_in : Option Function → ℕ
params_in None = 0
params_in (Some f) = length f.params

-- the most functions that may be active at once
abbrev pub most_frames : ℕ
most_frames = 10000

-- main has n parameters
abbrev pub MainTakes : List Declaration → ℕ → Type 0
MainTakes ds n = params_in (function_of ds (codes "main")) ≡ n

-- ## Operators

-- The unary operator that o is. A tree may name a binary one here, which then changes nothing.
abbrev pub lifted : Op → Option Operator
lifted op.Neg = Some neg
lifted op.Not = Some logical_not
lifted o = None

-- The binary operator that o is. A tree may name a unary one here, which then gives the first operand.
abbrev pub joining : Op → Option Operator
joining op.Add = Some add
joining op.Sub = Some sub
joining op.Mul = Some mul
joining op.Div = Some div
joining op.Rem = Some rem
joining op.Eq = Some eq
joining op.Ne = Some ne
joining op.Lt = Some lt
joining op.Le = Some le
joining op.Gt = Some gt
joining op.Ge = Some ge
joining op.Neg = None
joining op.Not = None

-- ## What is to be done

pub data Task : Type 0 where
  -- an expression gives its value
  value : Term → Task
  -- an operator takes its one operand, or its two
  lift : Operator → Task
  join : Operator → Task
  -- a function is called with this number of arguments, which are operands
  enter : List ℕ → ℕ → Task
  -- an operand is dropped
  discard : Task
  -- statements
  perform : Block → Task
  bind : List ℕ → Task
  store_in : List ℕ → Task
  -- an element of an array is loaded or stored, whose index is an operand
  load_at : List ℕ → Task
  store_at : List ℕ → Task
  show : Task
  -- a test takes its operand: the first block is done if it holds, otherwise the second
  choose_by : Block → Block → Task
  -- a loop before its test, and after it
  test : Term → Block → Task
  repeat_by : Term → Block → Task
  -- the end of a block that had this number of locals before it
  forget : ℕ → Task
  -- waits for what was spawned in the innermost scope
  wait : Task
  -- the end of an atomic block
  commit : Task
  -- the end of a left strand, and that of main, whose value is an operand
  finish : Task
  finish_main : Task
  -- the end of a called function, whose value is an operand: its caller goes on with these locals and operands
  back_to : Locals → List ℤ → Task
  -- a return: what is left of the function is not done
  leave : Task
  -- a cancel: what is left of the atomic block is not done
  give_up : Task

pub record State : Type 0 where
  pub todo : List Task
  -- operands, the newest first
  pub values : List ℤ
  pub locals : Locals
  -- how many functions are active
  pub frames : ℕ
  -- for each scope that waits at its end, the innermost first, how many forks it waits for
  pub scopes : List ℕ
  -- the units of fuel that were spent, and how many things were counted
  pub fuel : ℕ
  pub size : ℕ
  -- what the left strand of the newest fork does
  pub beside : Block
  -- what is still to be written back, the next first
  pub back : List Back

abbrev pub Step : Type 0
Step = running.LocalStep State

abbrev pub to_do : List Task → State → State
to_do k s = record s { todo = k }

-- pushes an operator's result on the operands vs
abbrev pub result : Result ℤ FaultKind → List ℤ → State → Step
result (Ok v) vs s = on (record s { values = v ∷ vs })
result (Err k) vs s = wants (Fault k) s

abbrev pub lifts : Option Operator → List Task → List Task
lifts None k = k
lifts (Some o) k = lift o ∷ k

abbrev pub joins_operands : Option Operator → List Task → List Task
joins_operands None k = discard ∷ k
joins_operands (Some o) k = join o ∷ k

-- arguments give their values one after another
abbrev pub arguments : Terms → List Task → List Task
arguments none k = k
arguments (more e es) k = value e ∷ arguments es k

-- what is done from the end of the function on
abbrev pub unwound : List Task → List Task
unwound [] = []
unwound (back_to ls vs ∷ k) = back_to ls vs ∷ k
unwound (finish ∷ k) = finish ∷ k
unwound (finish_main ∷ k) = finish_main ∷ k
unwound (t ∷ k) = unwound k

-- what is done after a cancel: the innermost atomic block forgets all that it declared, and ends
abbrev pub tasks_after_cancel : List Task → List Task
tasks_after_cancel [] = []
tasks_after_cancel (forget n ∷ k) = forget n ∷ tasks_after_cancel k
tasks_after_cancel (commit ∷ k) = commit ∷ k
tasks_after_cancel (t ∷ k) = tasks_after_cancel k

-- the innermost scope waits for one fork more
abbrev pub one_more : List ℕ → List ℕ
one_more [] = 1 ∷ []
one_more (n ∷ ns) = (n + 1) ∷ ns

-- opens a scope inside the open ones; if none is open, the strand's own is opened too
abbrev pub one_inside : List ℕ → List ℕ
one_inside [] = 0 ∷ 0 ∷ []
one_inside ns = 0 ∷ ns

-- a strand goes on if the innermost scope waits for nothing, otherwise it ends as a right strand
abbrev pub wait_in : List ℕ → List Task → State → Step
wait_in (suc n ∷ ns) k s = wants Sync (record s { todo = wait ∷ k; scopes = n ∷ ns })
wait_in ns k s = on (to_do k s)

-- an answer replaces the operand that holds its place
abbrev pub in_place : ℤ → List ℤ → List ℤ
in_place v [] = []
in_place v (x ∷ xs) = v ∷ xs

abbrev pub with_value : Given → State → State
with_value Nothing s = s
with_value (Value v) s = record s { values = in_place v s.values }
with_value (Wrote bs) s = record s { back = bs }

-- the state at the end: if only its own scope is open, it keeps no locals and no scope
abbrev pub ended : List ℕ → State → State
ended (n ∷ []) s = record s { locals = []; scopes = [] }
ended ns s = s

-- the left strand of the newest fork: it has the locals and the fuel spent so far, and counts from 0
abbrev pub left : State → State
left s = record s { todo = perform s.beside ∷ wait ∷ finish ∷ []; values = []; frames = 1; scopes = 0 ∷ []; size = 0; back = [] }

-- both counts, but at most one more than the limit
abbrev pub both_counts : Limits → (right left : ℕ) → ℕ
both_counts limits right left = max right (min (suc limits.size) (left + right))

-- the strand that forked has what the right one has, with the greater fuel and both counts
abbrev pub joined : Limits → (right left : State) → State
joined limits right left = record right { fuel = max left.fuel right.fuel; size = both_counts limits right.size left.size }

module _ (cells : List CellInfo) (functions : List ℕ → Option Function) (limits : Limits) where
  -- goes on and counts one, if the limit allows it
  abbrev pub counted : State → (State → Step) → Step
  counted s go = if nat_le limits.size s.size then wants (Fault Size) s else go (record s { size = s.size + 1 })

  abbrev pub counts : Want → State → Step
  counts w s = counted s (λ t. wants w t)

  -- spends one unit of fuel and goes on, if the limit allows it
  abbrev pub spends : State → (State → Step) → Step
  spends s go = if nat_le limits.fuel s.fuel then wants (Fault Fuel) s else go (record s { fuel = s.fuel + 1 })

  -- A name is that of a local or a cell. An operand holds the place of the value that is loaded.
  abbrev pub read_name : Option ℤ → Option ℕ → State → Step
  read_name (Some v) c s = on (record s { values = v ∷ s.values })
  read_name None (Some c) s = counts (Load c) (record s { values = pos 0 ∷ s.values })
  read_name None None s = stuck

  abbrev pub write_name : Option ℤ → Option ℕ → List ℕ → ℤ → State → Step
  write_name (Some old) c n v s = on (record s { locals = with_local s.locals n v })
  write_name None (Some c) n v s = counts (Store c v) s
  write_name None None n v s = stuck

  -- goes on with the element of the array that has this index, if there is one
  abbrev pub in_range : Option CellInfo → ℤ → State → (ℕ → Step) → Step
  in_range None i s go = stuck
  in_range (Some c) (negsuc n) s go = wants (Fault Range) s
  in_range (Some c) (pos n) s go = if nat_lt n c.len then go (c.base + n) else wants (Fault Range) s

  -- a function begins, within the limit of active functions; its caller waits, without the n arguments
  abbrev pub begins_call : Option Function → ℕ → List Task → State → Step
  begins_call None n k s = stuck
  begins_call (Some f) n k s =
      if nat_le most_frames s.frames then wants (Fault Depth) s
      else on (record s {
        todo = perform f.body ∷ wait ∷ value (number (pos 0)) ∷ back_to s.locals (drop n s.values) ∷ k;
        values = [];
        locals = bound_to (reverse f.params) s.values;
        frames = s.frames + 1;
        scopes = 0 ∷ s.scopes;
      })

  -- a statement whose cost is spent, and what is done after it
  abbrev pub begin_with : Statement → List Task → State → Step
  begin_with (declare w e) k s = on (to_do (value e ∷ bind w.name ∷ k) s)
  begin_with (assign w e) k s = on (to_do (value e ∷ store_in w.name ∷ k) s)
  begin_with (assign_at w i e) k s = on (to_do (value i ∷ value e ∷ store_at w.name ∷ k) s)
  begin_with (run w es) k s = on (to_do (arguments es (enter w.name (count_of es) ∷ discard ∷ k)) s)
  begin_with (out e) k s = on (to_do (value e ∷ show ∷ k) s)
  begin_with (choose e a b) k s = on (to_do (value e ∷ choose_by a b ∷ k) s)
  begin_with (repeat e b) k s = on (to_do (test e b ∷ k) s)
  begin_with (atomic b) k s = counts Begin (record s { todo = perform b ∷ forget (length s.locals) ∷ wait ∷ commit ∷ k; scopes = one_inside s.scopes })
  begin_with (spawn b) k s = counted s (λ t. wants Fork (record t { todo = k; scopes = one_more t.scopes; beside = b }))
  begin_with sync k s = on (to_do (wait ∷ k) s)
  begin_with (cancel l) k s = on (to_do (wait ∷ give_up ∷ k) s)
  begin_with (return l e) k s = on (to_do (value e ∷ wait ∷ leave ∷ k) s)

  -- only a loop costs nothing itself
  abbrev pub perform_with : Statement → List Task → State → Step
  perform_with (repeat e b) k s = begin_with (repeat e b) k s
  perform_with st k s = spends s (λ t. begin_with st k t)

  -- does a task, given the operands and what is done after it
  abbrev pub act : Task → List ℤ → List Task → State → Step
  act (value (number n)) vs k s = on (record s { todo = k; values = n ∷ vs })
  act (value (name w)) vs k s = read_name (local_of s.locals w.name) (element_of cells w.name) (to_do k s)
  act (value (at w i)) vs k s = on (to_do (value i ∷ load_at w.name ∷ k) s)
  act (value (call w es)) vs k s = on (to_do (arguments es (enter w.name (count_of es) ∷ k)) s)
  act (value (unary o e)) vs k s = on (to_do (value e ∷ lifts (lifted o) k) s)
  act (value (binary o l r)) vs k s = on (to_do (value l ∷ value r ∷ joins_operands (joining o) k) s)
  act (lift o) (x ∷ vs) k s = result (one o x) vs (to_do k s)
  act (join o) (y ∷ x ∷ vs) k s = result (two o x y) vs (to_do k s)
  act (enter n c) vs k s = spends s (λ t. begins_call (functions n) c k t)
  act discard (v ∷ vs) k s = on (record s { todo = k; values = vs })
  act (perform empty) vs k s = on (to_do k s)
  act (perform (first st b)) vs k s = perform_with st (perform b ∷ k) s
  act (bind n) (v ∷ vs) k s = on (record s { todo = k; values = vs; locals = (n, v) ∷ s.locals })
  act (store_in n) (v ∷ vs) k s = write_name (local_of s.locals n) (element_of cells n) n v (record s { todo = k; values = vs })
  act (load_at n) (i ∷ vs) k s = in_range (cell_of cells n) i s (λ c. counts (Load c) (record s { todo = k; values = pos 0 ∷ vs }))
  act (store_at n) (v ∷ i ∷ vs) k s = in_range (cell_of cells n) i s (λ c. counts (Store c v) (record s { todo = k; values = vs }))
  act show (v ∷ vs) k s = counts (Out v) (record s { todo = k; values = vs })
  act (choose_by a b) (v ∷ vs) k s = on (record s { todo = perform (if is_zero v then b else a) ∷ forget (length s.locals) ∷ k; values = vs })
  act (test e b) vs k s = spends s (λ t. on (to_do (value e ∷ repeat_by e b ∷ k) t))
  act (repeat_by e b) (v ∷ vs) k s =
      if is_zero v then on (record s { todo = k; values = vs })
      else on (record s { todo = perform b ∷ forget (length s.locals) ∷ test e b ∷ k; values = vs })
  act (forget n) vs k s = on (record s { todo = k; locals = drop (length s.locals - n) s.locals })
  act wait vs k s = wait_in s.scopes k s
  act commit vs k s = wants End (record s { todo = k; scopes = drop 1 s.scopes })
  act finish vs k s = wants Done (ended s.scopes s)
  act finish_main (v ∷ vs) k s = wants Done (ended s.scopes s)
  act (back_to ls us) (v ∷ vs) k s = on (record s { todo = k; values = v ∷ us; locals = ls; frames = s.frames - 1; scopes = drop 1 s.scopes })
  act leave vs k s = on (to_do (unwound k) s)
  act give_up vs k s = counts Cancel (to_do (tasks_after_cancel k) s)
  act t vs k s = stuck

  abbrev pub step_of : List Task → State → Step
  step_of [] s = stuck
  step_of (t ∷ k) s = act t s.values k s

  -- what is to be written back comes before all else that is to be done
  abbrev pub writes_back : List Back → State → Step
  writes_back [] s = step_of s.todo s
  writes_back (b ∷ bs) s = counts (Store b.cell b.value) (record s { back = bs })

  -- only a join makes the count exceed the limit
  abbrev pub step : State → Step
  step s = if nat_lt limits.size s.size then wants (Fault Size) s else writes_back s.back s

-- ## Local work

-- how many steps a task can take, with all that it becomes, up to a test of a loop or a call
abbrev mutual
  pub term_work : Term → ℕ
  term_work (number n) = 1
  term_work (name w) = 1
  term_work (at w i) = term_work i + 2
  term_work (call w es) = terms_work es + 2
  term_work (unary o e) = term_work e + 2
  term_work (binary o l r) = term_work l + term_work r + 2

  pub terms_work : Terms → ℕ
  terms_work none = 0
  terms_work (more e es) = term_work e + terms_work es

abbrev mutual
  pub statement_work : Statement → ℕ
  statement_work (declare w e) = term_work e + 1
  statement_work (assign w e) = term_work e + 1
  statement_work (assign_at w i e) = term_work i + term_work e + 2
  statement_work (run w es) = terms_work es + 2
  statement_work (out e) = term_work e + 1
  statement_work (choose e a b) = term_work e + block_work a + block_work b + 2
  statement_work (repeat e b) = term_work e + block_work b + 2
  statement_work (atomic b) = block_work b + 3
  statement_work (spawn b) = block_work b + 2
  statement_work sync = 1
  statement_work (cancel l) = 2
  statement_work (return l e) = term_work e + 2

  pub block_work : Block → ℕ
  block_work empty = 1
  block_work (first s b) = statement_work s + block_work b + 1

abbrev pub task_work : Task → ℕ
task_work (value e) = term_work e
task_work (perform b) = block_work b
task_work (choose_by a b) = block_work a + block_work b + 2
task_work (repeat_by e b) = block_work b + 3
task_work t = 1

abbrev pub work : List Task → ℕ
work [] = 0
work (t ∷ ts) = task_work t + work ts

-- how much work a unit of fuel can add in a loop that begins again
abbrev pub added_work : Task → ℕ
added_work (perform b) = block_work b
added_work (choose_by a b) = block_work a + block_work b
added_work (test e b) = statement_work (repeat e b)
added_work (repeat_by e b) = statement_work (repeat e b)
added_work t = 0

abbrev pub most_added : List Task → ℕ
most_added [] = 0
most_added (t ∷ ts) = max (added_work t) (most_added ts)

-- the same, for a function that begins, with its end
abbrev pub most_begun : List Declaration → ℕ
most_begun [] = 0
most_begun (cell x l len i ∷ ds) = most_begun ds
most_begun (func x l ps b ∷ ds) = max (block_work b + 2) (most_begun ds)

-- a bound on the steps by itself if nothing is to be written back
abbrev pub steps_left : List Declaration → Limits → State → ℕ
steps_left ds limits s = (max (most_begun ds) (most_added s.todo) + 1) * (limits.fuel - s.fuel) + work s.todo

-- a bound on the steps by itself and the stores that write back
abbrev pub stores_and_steps_left : Limits → (steps size : ℕ) → ℕ
stores_and_steps_left limits steps size = (limits.size + 2) * steps + (limits.size + 1 - size)

-- ## Strands

-- the strand of main, with the words of the command under its parameters' names
abbrev pub at_main : Option Function → List ℤ → State
at_main None words = record { todo = []; values = []; locals = []; frames = 1; scopes = []; fuel = 0; size = 0; beside = empty; back = [] }
at_main (Some f) words = record {
  todo = perform f.body ∷ wait ∷ value (number (pos 0)) ∷ finish_main ∷ [];
  values = [];
  locals = bound_to (reverse f.params) (reverse words);
  frames = 1;
  scopes = 0 ∷ [];
  fuel = 0;
  size = 0;
  beside = empty;
  back = [];
}

-- How the strands of a program run, with the words of its command and its limits.
abbrev pub runs : List Declaration → List ℤ → Limits → Running State
runs ds words limits = record {
  elements = length (first_memory (cells_of ds));
  first = at_main (function_of ds (codes "main")) words;
  step = step (cells_of ds) (function_of ds) limits;
  answered = with_value;
  left = left;
  joined = joined limits;
  bound = λ s. stores_and_steps_left limits (steps_left ds limits s) s.size;
}

-- The strands of a program.
abbrev pub strands_of_syntax : List Declaration → List ℤ → Limits → Strands (Standing State)
strands_of_syntax ds words limits = running.strands (runs ds words limits)
