-- What a strand has still to do finds its operands and what its names stand for, and ends the blocks that the strand began.
use Rattle.std.specs.Prelude.{nat_le, nat_lt, if◌then◌else◌}
use Rattle.std.proofs.Common.{◌≡◌, ℕ, zero, suc, Bool, true, false, cond, ◌+◌, ◌-◌, ◌≤◌, List, [], ◌∷◌, ◌++◌, length, drop, reverse, Option, Some, None, Result, Ok, Err, ℤ, pos, negsuc, refl, subst, sym, append_assoc, length-append, length-drop, add-one, arith, ap}
use Rattle.std.proofs.lemmas.List.{length-map, length-reverse}
use Rattle.std.proofs.Math.Seq.{drop-append_seam}
use Rattle.cw_text.specs.Syntax.{Term, Terms, Statement, Block, Declaration, number, name, at, call, unary, binary, none, more as one_more_term, declare, assign, assign_at, run, out, choose, repeat, atomic, spawn, sync, cancel, return, empty, first}
use Rattle.cw_code.specs.declared.CellInfo.{CellInfo}
use Rattle.cw_code.specs.declared.FaultKind.{FaultKind}
use Rattle.cw_code.specs.declared.Limits.{Limits}
use Rattle.cw_code.specs.declared.effects.Operator.{Operator}
use Rattle.cw_strand.specs.declared.want.Want.{Want}
use Rattle.cw_code.specs.declared.Back.{Back}
use Rattle.cw_strand.specs.declared.naming.Around.{Around}
use Rattle.cw_strand.specs.declared.naming.Around.TheVariants as around
use Rattle.cw_strand.specs.declared.want.Want.TheVariants.{End, Cancel, Fork, Sync, Done, Fault}
use Rattle.cw_strand.specs.declared.want.Given.{Given}
use Rattle.cw_strand.specs.declared.want.Given.TheVariants.{Nothing, Value, Back as Wrote}
use Rattle.cw_strand.specs.Strands.{own_after, MayWant}
use Rattle.cw_strand.specs.Arithmetic.{one, two, is_zero}
use Rattle.cw_strand.specs.Names.{used, indexed, fault_of_call as call_fault, find, count_of, in_term, in_terms, in_block, in_functions, returned_from, cancelled_in, globals, cells_of}
use Rattle.cw_strand.specs.Running.{on, wants, stuck}
use Rattle.cw_strand.specs.Laws.{AllIsDone}
use Rattle.cw_strand.specs.Meaning.{State, Locals, function_of, Task, value, lift, join, enter, discard, perform, bind, store_in, load_at, store_at, show, choose_by, test, repeat_by, forget, wait, commit, finish, finish_main, back_to, leave, give_up, tasks_after_cancel, counts, writes_back, arguments, unwound, begins_call, most_frames, bound_to, lifted, joining, lifts, joins_operands, Step, step, step_of, result, read_name, write_name, begin_with, perform_with, wait_in, element_of, cell_of, in_range, local_of, in_place, with_value, ended}
use Rattle.cw_strand.proofs.StandingNames.{no_fault, IsFound, IsCell, names_of, with_names, name_found, name_indexed, name_called, names_kept, names_dropped, body_named}

-- the names that are left of more names once those are dropped
names_left : (more names : List (List ℕ)) (n : ℕ) → n ≡ length names → drop (length (more ++ names) - n) (more ++ names) ≡ names
names_left more names n is =
    let same : length (more ++ names) - n ≡ length more = omega (arith, length-append more names) in
    rw same (drop-append_seam more names)

-- A scope that waits at its end, that of an atomic or a spawned block, or else that of a function; and how many forks it has to wait for.
pub data Open : Type 0 where
  opened : Around → (forks : ℕ) → Open

abbrev pub forks_in : List Open → List ℕ
forks_in [] = []
forks_in (opened i n ∷ os) = n ∷ forks_in os

-- These are the scopes for these numbers of blocks: one scope for each block of the strand's own and for each function that it called, then
-- those of the strand that forked, with one more fork to wait for in the innermost one.
pub data Scoped : List ℕ → List Open → Type 0 where
  outermost : {i : Around} → Scoped (0 ∷ []) (opened i 0 ∷ [])
  behind : {b n : ℕ} {i : Around} {bs : List ℕ} {os : List Open} → Scoped (b ∷ bs) (opened i n ∷ os) → Scoped (0 ∷ b ∷ bs) (opened i (suc n) ∷ os)
  within : {b : ℕ} {bs : List ℕ} {o : Open} {os : List Open} → Scoped (b ∷ bs) (o ∷ os) → Scoped (suc b ∷ bs) (opened around.Atomic 0 ∷ o ∷ os)
  in_function : {b : ℕ} {bs : List ℕ} {o : Open} {os : List Open} → Scoped (b ∷ bs) (o ∷ os) → Scoped (b ∷ bs) (opened around.Neither 0 ∷ o ∷ os)

function_begun : {own : List ℕ} {o : Open} {os : List Open} → Scoped own (o ∷ os) → Scoped own (opened around.Neither 0 ∷ o ∷ os)
function_begun outermost = in_function outermost
function_begun (behind r) = in_function (behind r)
function_begun (within r) = in_function (within r)
function_begun (in_function r) = in_function (in_function r)

module _ (ds : List Declaration) (limits : Limits) where
  -- ## Tasks that fit

  -- a name that may be used where the locals have these names
  abbrev MayUse : List (List ℕ) → List ℕ → Type 0
  MayUse names n = (line : ℕ) × (used (find n (with_names names (globals ds))) line ≡ None)

  -- the name of an array, where the locals have these names
  abbrev MayIndex : List (List ℕ) → List ℕ → Type 0
  MayIndex names n = (line : ℕ) × (indexed (find n (with_names names (globals ds))) line ≡ None)

  -- an expression and a block without a naming fault where the locals have these names
  abbrev MayTest : List (List ℕ) → Term → Type 0
  MayTest names e = in_term (with_names names (globals ds)) e ≡ None

  -- also in a block of a function, or else in the function itself
  abbrev MayDo : List (List ℕ) → Around → Block → Type 0
  MayDo names i b = in_block (with_names names (globals ds)) i b ≡ None

  -- the name n is that of a function with c parameters
  abbrev MayCall : List (List ℕ) → List ℕ → ℕ → Type 0
  MayCall names n c = (line : ℕ) × (call_fault (find n (with_names names (globals ds))) c line ≡ None)

  -- These tasks, begun with this number of operands while the locals have these names, find their operands one after another, use only
  -- names that they may use, and end these scopes one after another. After a block the locals that it made are there, until they
  -- are forgotten, and its scope may have any number of forks to wait for.
  abbrev mutual
    pub Fits : List Task → ℕ → List (List ℕ) → List Open → Type 0
    Fits (value e ∷ k) c names os = (in_term (with_names names (globals ds)) e ≡ None) × Fits k (suc c) names os
    Fits (lift o ∷ k) (suc c) names os = Fits k (suc c) names os
    Fits (join o ∷ k) (suc (suc c)) names os = Fits k (suc c) names os
    Fits (enter n a ∷ k) c names (o ∷ os) = ((a ≤ c) × MayCall names n a) × Fits k (suc (c - a)) names (o ∷ os)
    Fits (discard ∷ k) (suc c) names os = Fits k c names os
    Fits (perform b ∷ k) zero names (opened i n ∷ os) = MayDo names i b × ((more : List (List ℕ)) (m : ℕ) → (Fits k 0 (more ++ names) (opened i m ∷ os) × (i ≡ around.Atomic → Closes k (more ++ names) os)))
    Fits (bind n ∷ k) (suc c) names os = Fits k c (n ∷ names) os
    Fits (store_in n ∷ k) (suc c) names os = MayUse names n × Fits k c names os
    Fits (load_at n ∷ k) (suc c) names os = MayIndex names n × Fits k (suc c) names os
    Fits (store_at n ∷ k) (suc (suc c)) names os = MayIndex names n × Fits k c names os
    Fits (show ∷ k) (suc c) names os = Fits k c names os
    Fits (choose_by a b ∷ k) (suc zero) names (opened i n ∷ os) = (MayDo names i a × MayDo names i b) × ((m : ℕ) → (Fits k 0 names (opened i m ∷ os) × (i ≡ around.Atomic → Closes k names os)))
    Fits (test e b ∷ k) zero names (opened i n ∷ os) = (MayTest names e × MayDo names i b) × ((m : ℕ) → (Fits k 0 names (opened i m ∷ os) × (i ≡ around.Atomic → Closes k names os)))
    Fits (repeat_by e b ∷ k) (suc zero) names (opened i n ∷ os) = (MayTest names e × MayDo names i b) × ((m : ℕ) → (Fits k 0 names (opened i m ∷ os) × (i ≡ around.Atomic → Closes k names os)))
    Fits (forget n ∷ k) c names os = Fits k c (drop (length names - n) names) os
    Fits (wait ∷ k) c names (opened i n ∷ os) = Fits k c names (opened i 0 ∷ os)
    Fits (commit ∷ k) c names (opened around.Atomic zero ∷ o ∷ os) = Fits k c names (o ∷ os)
    Fits (finish ∷ k) zero names (opened around.Spawn zero ∷ []) = k ≡ []
    Fits (finish_main ∷ k) (suc zero) names (opened around.Neither zero ∷ []) = k ≡ []
    Fits (back_to ls vs ∷ k) (suc zero) names (opened around.Neither zero ∷ o ∷ os) = Fits k (suc (length vs)) (names_of ls) (o ∷ os)
    Fits (leave ∷ k) (suc zero) names (opened around.Neither zero ∷ os) = Ends k os
    Fits (give_up ∷ k) zero names (opened around.Atomic zero ∷ os) = Closes k names os
    Fits t c names os = ⊥

    -- where the innermost atomic block is given up its end among these tasks ends its scope
    pub Closes : List Task → List (List ℕ) → List Open → Type 0
    Closes (perform b ∷ k) names os = Closes k names os
    Closes (test e b ∷ k) names os = Closes k names os
    Closes (wait ∷ k) names os = Closes k names os
    Closes (forget n ∷ k) names os = Closes k (drop (length names - n) names) os
    Closes (commit ∷ k) names (o ∷ os) = Fits k 0 names (o ∷ os)
    Closes t names os = ⊥

    -- the function's end among these tasks, with its value, ends its scope
    pub Ends : List Task → List Open → Type 0
    Ends (back_to ls vs ∷ k) (o ∷ os) = Fits k (suc (length vs)) (names_of ls) (o ∷ os)
    Ends (back_to ls vs ∷ k) [] = ⊥
    Ends (finish_main ∷ k) [] = k ≡ []
    Ends (finish_main ∷ k) (o ∷ os) = ⊥
    Ends (finish ∷ k) os = ⊥
    Ends (t ∷ k) os = Ends k os
    Ends [] os = ⊥

  -- What is done behind a block fits, and in an atomic block it comes to that one's end.
  abbrev FitsBehind : Around → List Task → List (List ℕ) → ℕ → List Open → Type 0
  FitsBehind i k names m os = Fits k 0 names (opened i m ∷ os) × (i ≡ around.Atomic → Closes k names os)

  -- the state has these numbers of blocks to end, and its tasks fit
  pub record IsFit (own : List ℕ) (s : State) : Type 0 where
    pub open_scopes : List Open
    pub counted : s.scopes ≡ forks_in open_scopes
    pub scoped : Scoped own open_scopes
    pub fits : Fits s.todo (length s.values) (names_of s.locals) open_scopes

  -- Where a strand with these numbers of blocks comes to want this: the state from which it goes on fits. At a fork it goes on as
  -- the right strand, and the left one's block has no naming fault; at a sync it is the strand that forked.
  abbrev pub FitAfter : Want → List ℕ → State → Type 0
  FitAfter Fork (b ∷ bs) t = IsFit (0 ∷ b ∷ bs) t × (in_block (with_names (names_of t.locals) (globals ds)) around.Spawn t.beside ≡ None)
  FitAfter Fork [] t = ⊥
  FitAfter Sync (b ∷ bs) t = IsFit bs t
  FitAfter Sync [] t = ⊥
  FitAfter Done own t = AllIsDone t.todo t.values
  FitAfter (Fault k) own t = Unit {0}
  FitAfter w own t = IsFit (own_after w own) t

  -- the step leads to such a state; and it wants only what it may
  abbrev pub Goes : List ℕ → Step → Type 0
  Goes own (on t) = IsFit own t
  Goes own (wants w t) = MayWant w own × FitAfter w own t
  Goes own stuck = ⊥

  -- a choice between two steps leads to such a state if each of them does
  either : (own : List ℕ) (b : Bool) (x y : Step) → Goes own x → Goes own y → Goes own (cond b x y)
  either own true x y h g = h
  either own false x y h g = g

  -- ## The end of a function

  -- in a function itself what is to be done comes to the function's end
  comes_to_end : (k : List Task) (c : ℕ) (names : List (List ℕ)) (n : ℕ) (os : List Open) → Fits k c names (opened around.Neither n ∷ os) → Ends k os
  comes_to_end (value e ∷ k) c names n os h = comes_to_end k (suc c) names n os h.1
  comes_to_end (lift o ∷ k) (suc c) names n os h = comes_to_end k (suc c) names n os h
  comes_to_end (join o ∷ k) (suc (suc c)) names n os h = comes_to_end k (suc c) names n os h
  comes_to_end (enter x a ∷ k) c names n os h = comes_to_end k (suc (c - a)) names n os h.1
  comes_to_end (discard ∷ k) (suc c) names n os h = comes_to_end k c names n os h
  comes_to_end (perform b ∷ k) zero names n os h = comes_to_end k 0 names n os (h.1 [] n).0
  comes_to_end (bind x ∷ k) (suc c) names n os h = comes_to_end k c (x ∷ names) n os h
  comes_to_end (store_in x ∷ k) (suc c) names n os h = comes_to_end k c names n os h.1
  comes_to_end (load_at x ∷ k) (suc c) names n os h = comes_to_end k (suc c) names n os h.1
  comes_to_end (store_at x ∷ k) (suc (suc c)) names n os h = comes_to_end k c names n os h.1
  comes_to_end (show ∷ k) (suc c) names n os h = comes_to_end k c names n os h
  comes_to_end (choose_by a b ∷ k) (suc zero) names n os h = comes_to_end k 0 names n os (h.1 n).0
  comes_to_end (test e b ∷ k) zero names n os h = comes_to_end k 0 names n os (h.1 n).0
  comes_to_end (repeat_by e b ∷ k) (suc zero) names n os h = comes_to_end k 0 names n os (h.1 n).0
  comes_to_end (forget x ∷ k) c names n os h = comes_to_end k c (drop (length names - x) names) n os h
  comes_to_end (wait ∷ k) c names n os h = comes_to_end k c names 0 os h
  comes_to_end (finish ∷ k) zero names n os h = absurd h
  comes_to_end (finish ∷ k) (suc c) names n os h = absurd h
  comes_to_end (finish_main ∷ k) (suc zero) names zero [] h = h
  comes_to_end (back_to ls vs ∷ k) (suc zero) names zero (o ∷ os) h = h
  comes_to_end (leave ∷ k) (suc zero) names zero os h = h
  comes_to_end (give_up ∷ k) zero names n os h = absurd h
  comes_to_end (give_up ∷ k) (suc c) names n os h = absurd h
  comes_to_end k c names n os h = absurd h

  -- and fits from there on, with its value
  unwound_fits : (k : List Task) (names : List (List ℕ)) (os : List Open) → Ends k os → Fits (unwound k) 1 names (opened around.Neither 0 ∷ os)
  unwound_fits [] names os h = absurd h
  unwound_fits (back_to ls vs ∷ k) names [] h = absurd h
  unwound_fits (back_to ls vs ∷ k) names (o ∷ os) h = h
  unwound_fits (finish_main ∷ k) names [] h = h
  unwound_fits (finish_main ∷ k) names (o ∷ os) h = absurd h
  unwound_fits (finish ∷ k) names os h = absurd h
  unwound_fits (t ∷ k) names os h = unwound_fits k names os h

  -- ## The end of an atomic block

  -- what is given up comes to its end
  given_up_fits : (k : List Task) (names : List (List ℕ)) (os : List Open) → Closes k names os → Fits (tasks_after_cancel k) 0 names (opened around.Atomic 0 ∷ os)
  given_up_fits (perform b ∷ k) names os h = given_up_fits k names os h
  given_up_fits (test e b ∷ k) names os h = given_up_fits k names os h
  given_up_fits (wait ∷ k) names os h = given_up_fits k names os h
  given_up_fits (forget n ∷ k) names os h = given_up_fits k (drop (length names - n) names) os h
  given_up_fits (commit ∷ k) names (o ∷ os) h = h
  given_up_fits k names os h = absurd h

  -- with the scope around it
  never_closes : (k : List Task) (names : List (List ℕ)) → Closes k names [] → ⊥
  never_closes (perform b ∷ k) names h = never_closes k names h
  never_closes (test e b ∷ k) names h = never_closes k names h
  never_closes (wait ∷ k) names h = never_closes k names h
  never_closes (forget n ∷ k) names h = never_closes k (drop (length names - n) names) h
  never_closes (commit ∷ k) names h = h
  never_closes k names h = h

  -- ## Steps

  lifts_fit : (o : Option Operator) (k : List Task) (c : ℕ) (names : List (List ℕ)) (os : List Open) → Fits k (suc c) names os → Fits (lifts o k) (suc c) names os
  lifts_fit None k c names os h = h
  lifts_fit (Some o) k c names os h = h

  joins_fit : (o : Option Operator) (k : List Task) (c : ℕ) (names : List (List ℕ)) (os : List Open) → Fits k (suc c) names os → Fits (joins_operands o k) (suc (suc c)) names os
  joins_fit None k c names os h = h
  joins_fit (Some o) k c names os h = h

  arguments_fit : (es : Terms) (k : List Task) (c : ℕ) (names : List (List ℕ)) (os : List Open) → in_terms (with_names names (globals ds)) es ≡ None → Fits k (c + count_of es) names os → Fits (arguments es k) c names os
  arguments_fit none k c names os fine h = let same : c + 0 ≡ c = omega arith in subst (λ n. Fits k n names os) same h
  arguments_fit (one_more_term e es) k c names os fine h =
      let parts = no_fault (in_term (with_names names (globals ds)) e) (in_terms (with_names names (globals ds)) es) fine in
      let same : c + suc (count_of es) ≡ suc c + count_of es = omega arith in
      (parts.0, arguments_fit es k (suc c) names os parts.1 (subst (λ n. Fits k n names os) same h))

  -- the arguments of a call, and the call
  call_fits : (n : List ℕ) (line : ℕ) (es : Terms) (k : List Task) (c : ℕ) (names : List (List ℕ)) (o : Open) (os : List Open) → call_fault (find n (with_names names (globals ds))) (count_of es) line ≡ None
      → in_terms (with_names names (globals ds)) es ≡ None → Fits k (suc c) names (o ∷ os) → Fits (arguments es (enter n (count_of es) ∷ k)) c names (o ∷ os)
  call_fits n line es k c names o os may fine h =
      let same : c ≡ c + count_of es - count_of es = omega arith in
      let enough : count_of es ≤ c + count_of es = omega arith in
      arguments_fit es (enter n (count_of es) ∷ k) c names (o ∷ os) fine ((enough, (line, may)), subst (λ m. Fits k (suc m) names (o ∷ os)) same h)

  module _ (own : List ℕ) (os : List Open) (t : State) (counted : t.scopes ≡ forks_in os) (r : Scoped own os) where
    result_goes : (x : Result ℤ FaultKind) (vs : List ℤ) → Fits t.todo (suc (length vs)) (names_of t.locals) os → Goes own (result x vs t)
    result_goes (Ok v) vs h = record { open_scopes = os; counted = counted; scoped = r; fits = h }
    result_goes (Err e) vs h = (tt, tt)

    read_goes : (v : Option ℤ) (c : Option ℕ) → IsFound v c → Fits t.todo (suc (length t.values)) (names_of t.locals) os → Goes own (read_name (cells_of ds) (function_of ds) limits v c t)
    read_goes (Some v) c found h = record { open_scopes = os; counted = counted; scoped = r; fits = h }
    read_goes None (Some c) found h = either own (nat_le limits.size t.size) _ _ (tt, tt) (tt, record { open_scopes = os; counted = counted; scoped = r; fits = h })
    read_goes None None found h = absurd found

    write_goes : (old : Option ℤ) (c : Option ℕ) (n : List ℕ) (v : ℤ) → IsFound old c → Fits t.todo (length t.values) (names_of t.locals) os → Goes own (write_name (cells_of ds) (function_of ds) limits old c n v t)
    write_goes (Some o) c n v found h = record { open_scopes = os; counted = counted; scoped = r; fits = rw names_kept h }
    write_goes None (Some c) n v found h = either own (nat_le limits.size t.size) _ _ (tt, tt) (tt, record { open_scopes = os; counted = counted; scoped = r; fits = h })
    write_goes None None n v found h = absurd found

  -- an element of an array is found, or the index is none
  range_goes : (own : List ℕ) (o : Option CellInfo) (i : ℤ) (s : State) (go : ℕ → Step) → IsCell o → ((c : ℕ) → Goes own (go c)) → Goes own (in_range (cells_of ds) (function_of ds) limits o i s go)
  range_goes own None i s go found h = absurd found
  range_goes own (Some c) (negsuc m) s go found h = (tt, tt)
  range_goes own (Some c) (pos m) s go found h = either own (nat_lt m c.len) _ _ (h (c.base + m)) (tt, tt)

  -- what comes behind a block finds its names also once one more is declared
  one_more_name : (k : List Task) (n : List ℕ) (names : List (List ℕ)) (i : Around) (os : List Open) → ((more : List (List ℕ)) (m : ℕ) → FitsBehind i k (more ++ names) m os) → (more : List (List ℕ)) (m : ℕ) → FitsBehind i k (more ++ (n ∷ names)) m os
  one_more_name k n names i os h more m = rw append_assoc at (h (more ++ (n ∷ [])) m)

  module _ (ls : Locals) (frames fuel size : ℕ) (beside : Block) where
    -- a state with these parts
    abbrev state : List Task → List ℤ → List Open → State
    state todo vs os = record { todo = todo; values = vs; locals = ls; frames = frames; scopes = forks_in os; fuel = fuel; size = size; beside = beside; back = [] }

    -- it fits with the scopes that it has
    fit : {own : List ℕ} (os : List Open) (todo : List Task) (vs : List ℤ) → Scoped own os → Fits todo (length vs) (names_of ls) os → IsFit own (state todo vs os)
    fit os todo vs r h = record { open_scopes = os; counted = refl; scoped = r; fits = h }

  module _ (ls : Locals) (frames fuel size : ℕ) (beside : Block) where
    module _ (k : List Task) (b n : ℕ) (bs : List ℕ) (i : Around) (os : List Open) (r : Scoped (b ∷ bs) (opened i n ∷ os)) where
      -- a return, which no block has
      return_goes : (j : Around) (l : ℕ) (e : Term) (c : Block) → i ≡ j → returned_from j l ≡ None → in_term (with_names (names_of ls) (globals ds)) e ≡ None → Fits (perform c ∷ k) 0 (names_of ls) (opened j n ∷ os)
          → IsFit (b ∷ bs) (state ls frames fuel size beside (value e ∷ wait ∷ leave ∷ perform c ∷ k) [] (opened i n ∷ os))
      return_goes around.Atomic l e c is never fine h = absurd cc
      return_goes around.Spawn l e c is never fine h = absurd cc
      return_goes around.Neither l e c is outside fine h =
          let fits : Fits (value e ∷ wait ∷ leave ∷ perform c ∷ k) 0 (names_of ls) (opened around.Neither n ∷ os) = (fine, comes_to_end (perform c ∷ k) 0 (names_of ls) n os h) in
          record { open_scopes = opened i n ∷ os; counted = refl; scoped = r; fits = subst (λ z. Fits (value e ∷ wait ∷ leave ∷ perform c ∷ k) 0 (names_of ls) (opened z n ∷ os)) (sym is) fits }

      -- a cancel, which only an atomic block has
      cancel_goes : (j : Around) (l : ℕ) (c : Block) → i ≡ j → cancelled_in j l ≡ None → ((more : List (List ℕ)) (m : ℕ) → FitsBehind i k (more ++ names_of ls) m os)
          → IsFit (b ∷ bs) (state ls frames fuel size beside (wait ∷ give_up ∷ perform c ∷ k) [] (opened i n ∷ os))
      cancel_goes around.Neither l c is never h = absurd cc
      cancel_goes around.Spawn l c is never h = absurd cc
      cancel_goes around.Atomic l c is inside h =
          let fits : Fits (wait ∷ give_up ∷ perform c ∷ k) 0 (names_of ls) (opened around.Atomic n ∷ os) = (h [] n).1 is in
          record { open_scopes = opened i n ∷ os; counted = refl; scoped = r; fits = subst (λ z. Fits (wait ∷ give_up ∷ perform c ∷ k) 0 (names_of ls) (opened z n ∷ os)) (sym is) fits }

      -- a statement, and the block after it
      first_goes : (st : Statement) (c : Block) → Fits (perform (first st c) ∷ k) 0 (names_of ls) (opened i n ∷ os)
          → Goes (b ∷ bs) (begin_with (cells_of ds) (function_of ds) limits st (perform c ∷ k) (state ls frames fuel size beside (perform (first st c) ∷ k) [] (opened i n ∷ os)))
      first_goes (declare w e) c h =
          let (here, later) = no_fault _ _ h.0 in
          fit ls frames fuel size beside (opened i n ∷ os) (value e ∷ bind w.name ∷ perform c ∷ k) [] r ((no_fault _ _ here).1, (later, one_more_name k _ _ i os h.1))
      first_goes (assign w e) c h =
          let (here, later) = no_fault _ _ h.0 in
          let (use_fault, term_fault) = no_fault _ _ here in
          fit ls frames fuel size beside (opened i n ∷ os) (value e ∷ store_in w.name ∷ perform c ∷ k) [] r (term_fault, ((w.line, use_fault), (later, h.1)))
      first_goes (assign_at w a e) c h =
          let (here, later) = no_fault _ _ h.0 in
          let (index_fault, rest) = no_fault _ _ here in
          let (first_fault, second_fault) = no_fault _ _ rest in
          fit ls frames fuel size beside (opened i n ∷ os) (value a ∷ value e ∷ store_at w.name ∷ perform c ∷ k) [] r (first_fault, (second_fault, ((w.line, index_fault), (later, h.1))))
      first_goes (run w es) c h =
          let (here, later) = no_fault _ _ h.0 in
          let (name_fault, terms_fault) = no_fault _ _ here in
          let todo : List Task = discard ∷ perform c ∷ k in
          fit ls frames fuel size beside (opened i n ∷ os) (arguments es (enter w.name (count_of es) ∷ todo)) [] r (call_fits w.name w.line es todo 0 (names_of ls) (opened i n) os name_fault terms_fault (later, h.1))
      first_goes (out e) c h = let (here, later) = no_fault _ _ h.0 in fit ls frames fuel size beside (opened i n ∷ os) (value e ∷ show ∷ perform c ∷ k) [] r (here, (later, h.1))
      first_goes (choose e a d) c h =
          let (here, later) = no_fault _ _ h.0 in
          let (test_fault, rest) = no_fault _ _ here in
          let (first_fault, second_fault) = no_fault _ _ rest in
          fit ls frames fuel size beside (opened i n ∷ os) (value e ∷ choose_by a d ∷ perform c ∷ k) [] r (test_fault, ((first_fault, second_fault), λ m. ((later, h.1), (h.1 [] m).1)))
      first_goes (repeat e d) c h =
          let (here, later) = no_fault _ _ h.0 in
          let (test_fault, body_fault) = no_fault _ _ here in
          fit ls frames fuel size beside (opened i n ∷ os) (test e d ∷ perform c ∷ k) [] r ((test_fault, body_fault), λ m. ((later, h.1), (h.1 [] m).1))
      first_goes (atomic d) c h =
          let (here, later) = no_fault _ _ h.0 in
          let inner : List Task = perform d ∷ forget (length ls) ∷ wait ∷ commit ∷ perform c ∷ k in
          let fits : Fits inner 0 (names_of ls) (opened around.Atomic 0 ∷ opened i n ∷ os) =
          (here, λ more m. rw (names_left more (names_of ls) (length ls) (sym (length-map ls _))) ((later, h.1), λ _. (later, h.1))) in
          either (b ∷ bs) (nat_le limits.size size) _ _ (tt, tt) (tt, fit ls frames fuel (size + 1) beside (opened around.Atomic 0 ∷ opened i n ∷ os) inner [] (within r) fits)
      first_goes (spawn d) c h =
          let (here, later) = no_fault _ _ h.0 in
          let fits : Fits (perform c ∷ k) 0 (names_of ls) (opened i (suc n) ∷ os) = (later, h.1) in
          either (b ∷ bs) (nat_le limits.size size) _ _ (tt, tt) (tt, (record { open_scopes = opened i (suc n) ∷ os; counted = ap (λ (z : ℕ). z ∷ forks_in os) (add-one n); scoped = behind r; fits = fits }, here))
      first_goes sync c h = fit ls frames fuel size beside (opened i n ∷ os) (wait ∷ perform c ∷ k) [] r h
      first_goes (cancel l) c h = let (here, later) = no_fault _ _ h.0 in cancel_goes i l c refl here h.1
      first_goes (return l e) c h =
          let (here, later) = no_fault _ _ h.0 in
          let (return_fault, term_fault) = no_fault _ _ here in
          return_goes i l e c refl return_fault term_fault (later, h.1)

  module _ (ls : Locals) (frames fuel size : ℕ) (beside : Block) where
    module _ (k : List Task) (b n : ℕ) (bs : List ℕ) (i : Around) (os : List Open) (r : Scoped (b ∷ bs) (opened i n ∷ os)) where
      -- and what it costs before
      perform_goes : (st : Statement) (c : Block) → Fits (perform (first st c) ∷ k) 0 (names_of ls) (opened i n ∷ os)
          → Goes (b ∷ bs) (perform_with (cells_of ds) (function_of ds) limits st (perform c ∷ k) (state ls frames fuel size beside (perform (first st c) ∷ k) [] (opened i n ∷ os)))
      perform_goes (repeat e d) c h = first_goes ls frames fuel size beside k b n bs i os r (repeat e d) c h
      perform_goes st c h = either (b ∷ bs) (nat_le limits.fuel fuel) _ _ (tt, tt) (first_goes ls frames (fuel + 1) size beside k b n bs i os r st c h)

    module _ (k : List Task) where
      -- a block whose locals are forgotten behind it fits
      block_fits : (b : Block) (i : Around) (n : ℕ) (os : List Open) → MayDo (names_of ls) i b → ((m : ℕ) → FitsBehind i k (names_of ls) m os) → Fits (perform b ∷ forget (length ls) ∷ k) 0 (names_of ls) (opened i n ∷ os)
      block_fits b i n os may h = (may, λ more m. rw (names_left more (names_of ls) (length ls) (sym (length-map ls _))) (h m))

      choice_goes : (z : Bool) (i : Around) (a b : Block) → MayDo (names_of ls) i a → MayDo (names_of ls) i b → MayDo (names_of ls) i (if z then b else a)
      choice_goes true i a b h g = g
      choice_goes false i a b h g = h

    module _ (k : List Task) (vs : List ℤ) where
      wait_goes : {own : List ℕ} {os : List Open} → Scoped own os → Fits (wait ∷ k) (length vs) (names_of ls) os → Goes own (wait_in (forks_in os) k (state ls frames fuel size beside (wait ∷ k) vs os))
      wait_goes (outermost {i = i}) h = fit ls frames fuel size beside (opened i 0 ∷ []) k vs outermost h
      wait_goes (behind {n = n} {i = i} {os = os} r) h = (tt, fit ls frames fuel size beside (opened i n ∷ os) (wait ∷ k) vs r h)
      wait_goes (within {o = o} {os = os} r) h = fit ls frames fuel size beside (opened around.Atomic 0 ∷ o ∷ os) k vs (within r) h
      wait_goes (in_function {o = o} {os = os} r) h = fit ls frames fuel size beside (opened around.Neither 0 ∷ o ∷ os) k vs (in_function r) h

      commit_goes : {own : List ℕ} {os : List Open} → Scoped own os → Fits (commit ∷ k) (length vs) (names_of ls) os → Goes own (wants End (record (state ls frames fuel size beside k vs os) { scopes = drop 1 (forks_in os) }))
      commit_goes (outermost {i = around.Atomic}) h = absurd h
      commit_goes (outermost {i = around.Neither}) h = absurd h
      commit_goes (outermost {i = around.Spawn}) h = absurd h
      commit_goes (behind {i = around.Atomic} r) h = absurd h
      commit_goes (behind {i = around.Neither} r) h = absurd h
      commit_goes (behind {i = around.Spawn} r) h = absurd h
      commit_goes (within {o = o} {os = os} r) h = (tt, fit ls frames fuel size beside (o ∷ os) k vs r h)
      commit_goes (in_function r) h = absurd h

    give_up_goes : (k : List Task) {own : List ℕ} {os : List Open} → Scoped own os → Fits (give_up ∷ k) 0 (names_of ls) os
        → Goes own (counts (cells_of ds) (function_of ds) limits Cancel (state ls frames fuel size beside (tasks_after_cancel k) [] os))
    give_up_goes k (outermost {i = around.Atomic}) h = absurd (never_closes k (names_of ls) h)
    give_up_goes k (outermost {i = around.Spawn}) h = absurd h
    give_up_goes k (outermost {i = around.Neither}) h = absurd h
    give_up_goes k (behind {i = around.Atomic} r) h = absurd h
    give_up_goes k (behind {i = around.Spawn} r) h = absurd h
    give_up_goes k (behind {i = around.Neither} r) h = absurd h
    give_up_goes k (within {b = b} {bs = bs} {o = o} {os = os} r) h =
        either (suc b ∷ bs) (nat_le limits.size size) _ _ (tt, tt) (tt, fit ls frames fuel (size + 1) beside (opened around.Atomic 0 ∷ o ∷ os) (tasks_after_cancel k) [] (within r) (given_up_fits k (names_of ls) (o ∷ os) h))
    give_up_goes k (in_function r) h = absurd h

    finish_goes : (k : List Task) {own : List ℕ} {os : List Open} → Scoped own os → Fits (finish ∷ k) 0 (names_of ls) os → Goes own (wants Done (ended (forks_in os) (state ls frames fuel size beside (finish ∷ k) [] os)))
    finish_goes [] (outermost {i = around.Spawn}) h = (tt, tt)
    finish_goes (t ∷ k) (outermost {i = around.Spawn}) h = absurd cc
    finish_goes k (outermost {i = around.Atomic}) h = absurd h
    finish_goes k (outermost {i = around.Neither}) h = absurd h
    finish_goes k (behind {i = around.Atomic} r) h = absurd h
    finish_goes k (behind {i = around.Neither} r) h = absurd h
    finish_goes k (behind {i = around.Spawn} r) h = absurd h
    finish_goes k (within r) h = absurd h
    finish_goes k (in_function r) h = absurd h

    main_goes : (k : List Task) (v : ℤ) {own : List ℕ} {os : List Open} → Scoped own os → Fits (finish_main ∷ k) 1 (names_of ls) os → Goes own (wants Done (ended (forks_in os) (state ls frames fuel size beside (finish_main ∷ k) (v ∷ []) os)))
    main_goes [] v (outermost {i = around.Neither}) h = (tt, tt)
    main_goes (t ∷ k) v (outermost {i = around.Neither}) h = absurd cc
    main_goes k v (outermost {i = around.Atomic}) h = absurd h
    main_goes k v (outermost {i = around.Spawn}) h = absurd h
    main_goes k v (behind {i = around.Atomic} r) h = absurd h
    main_goes k v (behind {i = around.Neither} r) h = absurd h
    main_goes k v (behind {i = around.Spawn} r) h = absurd h
    main_goes k v (within r) h = absurd h
    main_goes k v (in_function r) h = absurd h

    -- back to what called the function
    back_goes : (k : List Task) (us : List ℤ) (v : ℤ) (l : Locals) {own : List ℕ} {os : List Open} → Scoped own os → Fits (back_to l us ∷ k) 1 (names_of ls) os
        → IsFit own (record { todo = k; values = v ∷ us; locals = l; frames = frames - 1; scopes = drop 1 (forks_in os); fuel = fuel; size = size; beside = beside; back = [] })
    back_goes k us v l (outermost {i = around.Atomic}) h = absurd h
    back_goes k us v l (outermost {i = around.Neither}) h = absurd h
    back_goes k us v l (outermost {i = around.Spawn}) h = absurd h
    back_goes k us v l (behind {i = around.Atomic} r) h = absurd h
    back_goes k us v l (behind {i = around.Neither} r) h = absurd h
    back_goes k us v l (behind {i = around.Spawn} r) h = absurd h
    back_goes k us v l (within r) h = absurd h
    back_goes k us v l (in_function {o = o} {os = os} r) h = fit l (frames - 1) fuel size beside (o ∷ os) k (v ∷ us) r h

    -- a return leads to the end of the function
    leave_goes : (k : List Task) (v : ℤ) {own : List ℕ} {os : List Open} → Scoped own os → Fits (leave ∷ k) 1 (names_of ls) os → IsFit own (state ls frames fuel size beside (unwound k) (v ∷ []) os)
    leave_goes k v (outermost {i = around.Atomic}) h = absurd h
    leave_goes k v (outermost {i = around.Spawn}) h = absurd h
    leave_goes k v (outermost {i = around.Neither}) h = fit ls frames fuel size beside (opened around.Neither 0 ∷ []) (unwound k) (v ∷ []) outermost (unwound_fits k (names_of ls) [] h)
    leave_goes k v (behind {i = around.Atomic} r) h = absurd h
    leave_goes k v (behind {i = around.Neither} r) h = absurd h
    leave_goes k v (behind {i = around.Spawn} r) h = absurd h
    leave_goes k v (within r) h = absurd h
    leave_goes k v (in_function {o = o} {os = os} r) h = fit ls frames fuel size beside (opened around.Neither 0 ∷ o ∷ os) (unwound k) (v ∷ []) (in_function r) (unwound_fits k (names_of ls) (o ∷ os) h)

  module _ (named : in_functions (globals ds) ds ≡ None) where
    module _ (ls : Locals) (frames fuel size : ℕ) (beside : Block) where
      -- a function begins
      called_goes : (n : List ℕ) (c : ℕ) (k : List Task) (vs : List ℤ) (own : List ℕ) (o : Open) (os : List Open) → Scoped own (o ∷ os) → Fits (enter n c ∷ k) (length vs) (names_of ls) (o ∷ os)
          → Goes own (begins_call (cells_of ds) (function_of ds) limits (function_of ds n) c k (state ls frames fuel size beside (enter n c ∷ k) vs (o ∷ os)))
      called_goes n c k vs own o os r h =
          let q = name_called ds (names_of ls) n c h.0.1.0 h.0.1.1 in
          let f = q.function in
          let inside = bound_to (reverse f.params) vs in
          let fine = body_named ds n f vs named q.found (omega (arith, h.0.0, q.count, length-reverse f.params)) in
          let left : length vs - c ≡ length (drop c vs) = sym (length-drop c vs) in
          let later : Fits k (suc (length (drop c vs))) (names_of ls) (o ∷ os) = subst (λ m. Fits k (suc m) (names_of ls) (o ∷ os)) left h.1 in
          let todo : List Task = perform f.body ∷ wait ∷ value (number (pos 0)) ∷ back_to ls (drop c vs) ∷ k in
          let fits : Fits todo 0 (names_of inside) (opened around.Neither 0 ∷ o ∷ os) = (fine, λ more m. ((refl, later), λ never. cc)) in
          subst (λ z. Goes own (begins_call (cells_of ds) (function_of ds) limits z c k (state ls frames fuel size beside (enter n c ∷ k) vs (o ∷ os)))) (sym q.found)
          (either own (nat_le most_frames frames) _ _ (tt, tt) (fit inside (frames + 1) fuel size beside (opened around.Neither 0 ∷ o ∷ os) todo [] (function_begun r) fits))

    module _ (ls : Locals) (frames fuel size : ℕ) (beside : Block) where
      tasks_go : (todo : List Task) (vs : List ℤ) (own : List ℕ) (os : List Open) → Scoped own os → Fits todo (length vs) (names_of ls) os
          → Goes own (step_of (cells_of ds) (function_of ds) limits todo (state ls frames fuel size beside todo vs os))
      tasks_go (value (number n) ∷ k) vs own os r h = fit ls frames fuel size beside os k (n ∷ vs) r h.1
      tasks_go (value (name w) ∷ k) vs own os r h = read_goes own os _ refl r (local_of ls w.name) (element_of (cells_of ds) w.name) (name_found ds ls w.name w.line h.0) h.1
      tasks_go (value (at w i) ∷ k) vs own os r h = let (index_fault, term_fault) = no_fault _ _ h.0 in fit ls frames fuel size beside os (value i ∷ load_at w.name ∷ k) vs r (term_fault, ((w.line, index_fault), h.1))
      tasks_go (value (call w es) ∷ k) vs own [] r h = elim r [ ]
      tasks_go (value (call w es) ∷ k) vs own (o ∷ os) r h =
          let (name_fault, terms_fault) = no_fault _ _ h.0 in
          fit ls frames fuel size beside (o ∷ os) (arguments es (enter w.name (count_of es) ∷ k)) vs r (call_fits w.name w.line es k (length vs) (names_of ls) o os name_fault terms_fault h.1)
      tasks_go (value (unary o e) ∷ k) vs own os r h = fit ls frames fuel size beside os (value e ∷ lifts (lifted o) k) vs r (h.0, lifts_fit (lifted o) k _ _ _ h.1)
      tasks_go (value (binary o x y) ∷ k) vs own os r h = let (left, right) = no_fault _ _ h.0 in fit ls frames fuel size beside os (value x ∷ value y ∷ joins_operands (joining o) k) vs r (left, (right, joins_fit (joining o) k _ _ _ h.1))
      tasks_go (lift o ∷ k) (x ∷ vs) own os r h = result_goes own os _ refl r (one o x) vs h
      tasks_go (join o ∷ k) (y ∷ x ∷ vs) own os r h = result_goes own os _ refl r (two o x y) vs h
      tasks_go (enter n c ∷ k) vs own (o ∷ os) r h = either own (nat_le limits.fuel fuel) _ _ (tt, tt) (called_goes ls frames (fuel + 1) size beside n c k vs own o os r h)
      tasks_go (discard ∷ k) (v ∷ vs) own os r h = fit ls frames fuel size beside os k vs r h
      tasks_go (perform empty ∷ k) [] own (opened i n ∷ os) r h = fit ls frames fuel size beside (opened i n ∷ os) k [] r (h.1 [] n).0
      tasks_go (perform (first st c) ∷ k) [] [] os r h = elim r [ ]
      tasks_go (perform (first st c) ∷ k) [] (b ∷ bs) (opened i n ∷ os) r h = perform_goes ls frames fuel size beside k b n bs i os r st c h
      tasks_go (bind n ∷ k) (v ∷ vs) own os r h = fit ((n, v) ∷ ls) frames fuel size beside os k vs r h
      tasks_go (store_in n ∷ k) (v ∷ vs) own os r h = write_goes own os _ refl r (local_of ls n) (element_of (cells_of ds) n) n v (name_found ds ls n h.0.0 h.0.1) h.1
      tasks_go (load_at n ∷ k) (i ∷ vs) own os r h =
          range_goes own (cell_of (cells_of ds) n) i _ _ (name_indexed ds (names_of ls) n h.0.0 h.0.1) (λ c. either own (nat_le limits.size size) _ _ (tt, tt) (tt, fit ls frames fuel (size + 1) beside os k (pos 0 ∷ vs) r h.1))
      tasks_go (store_at n ∷ k) (v ∷ i ∷ vs) own os r h =
          range_goes own (cell_of (cells_of ds) n) i _ _ (name_indexed ds (names_of ls) n h.0.0 h.0.1) (λ c. either own (nat_le limits.size size) _ _ (tt, tt) (tt, fit ls frames fuel (size + 1) beside os k vs r h.1))
      tasks_go (show ∷ k) (v ∷ vs) own os r h = either own (nat_le limits.size size) _ _ (tt, tt) (tt, fit ls frames fuel (size + 1) beside os k vs r h)
      tasks_go (choose_by a b ∷ k) (v ∷ []) own (opened i n ∷ os) r h =
          fit ls frames fuel size beside (opened i n ∷ os) (perform (if is_zero v then b else a) ∷ forget (length ls) ∷ k) [] r (block_fits ls frames fuel size beside k (if is_zero v then b else a) i n os (choice_goes ls frames fuel size beside k (is_zero v) i a b h.0.0 h.0.1) h.1)
      tasks_go (test e b ∷ k) [] own (opened i n ∷ os) r h = either own (nat_le limits.fuel fuel) _ _ (tt, tt) (fit ls frames (fuel + 1) size beside (opened i n ∷ os) (value e ∷ repeat_by e b ∷ k) [] r (h.0.0, h))
      tasks_go (repeat_by e b ∷ k) (v ∷ []) own (opened i n ∷ os) r h =
          either own (is_zero v) _ _ (fit ls frames fuel size beside (opened i n ∷ os) k [] r (h.1 n).0)
          (fit ls frames fuel size beside (opened i n ∷ os) (perform b ∷ forget (length ls) ∷ test e b ∷ k) [] r (block_fits ls frames fuel size beside (test e b ∷ k) b i n os h.0.1 (λ m. (h, (h.1 m).1))))
      tasks_go (forget n ∷ k) vs own os r h = record { open_scopes = os; counted = refl; scoped = r; fits = rw names_dropped at h }
      tasks_go (wait ∷ k) vs own os r h = wait_goes ls frames fuel size beside k vs r h
      tasks_go (commit ∷ k) vs own os r h = commit_goes ls frames fuel size beside k vs r h
      tasks_go (finish ∷ k) [] own os r h = finish_goes ls frames fuel size beside k r h
      tasks_go (finish_main ∷ k) (v ∷ []) own os r h = main_goes ls frames fuel size beside k v r h
      tasks_go (back_to l us ∷ k) (v ∷ []) own os r h = back_goes ls frames fuel size beside k us v l r h
      tasks_go (give_up ∷ k) [] own os r h = give_up_goes ls frames fuel size beside k r h
      tasks_go (leave ∷ k) (v ∷ []) own os r h = leave_goes ls frames fuel size beside k v r h
      tasks_go todo vs own os r h = absurd h

    pub step_goes : (own : List ℕ) (s : State) (x : Step) → IsFit own s → step (cells_of ds) (function_of ds) limits s ≡ x → Goes own x
    step_goes own s x h is =
        let go = tasks_go s.locals s.frames s.fuel s.size s.beside s.todo s.values own h.open_scopes h.scoped h.fits in
        let here = subst (λ ns. Goes own (step_of (cells_of ds) (function_of ds) limits s.todo (record s { scopes = ns; back = [] }))) (sym h.counted) go in
        subst (λ (x : Step). Goes own x) is (either own (nat_lt limits.size s.size) _ _ (tt, tt) (by s.back refl here))
      where
        by : (bs : List Back) → s.back ≡ bs → Goes own (step_of (cells_of ds) (function_of ds) limits s.todo (record s { back = [] })) → Goes own (writes_back (cells_of ds) (function_of ds) limits bs s)
        by [] same go = subst (λ (bs : List Back). Goes own (step_of (cells_of ds) (function_of ds) limits s.todo (record s { back = bs }))) (sym same) go
        by (b ∷ bs) same go = either own (nat_le limits.size s.size) _ _ (tt, tt) (tt, record { open_scopes = h.open_scopes; counted = h.counted; scoped = h.scoped; fits = h.fits })

  -- ## Answers

  length-in_place : (v : ℤ) (vs : List ℤ) → length (in_place v vs) ≡ length vs
  length-in_place v [] = refl
  length-in_place v (x ∷ xs) = refl

  pub with_value_fits : (given : Given) (own : List ℕ) (s : State) → IsFit own s → IsFit own (with_value given s)
  with_value_fits Nothing own s h = h
  with_value_fits (Value v) own s h = record { open_scopes = h.open_scopes; counted = h.counted; scoped = h.scoped; fits = rw length-in_place h.fits }
  with_value_fits (Wrote bs) own s h = record { open_scopes = h.open_scopes; counted = h.counted; scoped = h.scoped; fits = h.fits }
