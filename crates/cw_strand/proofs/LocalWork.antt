-- Over the syntax each step by itself leaves less to do: a test of a loop and a call spend a unit of fuel, and each other step leaves less work. A want
-- leaves no more than its depth says.
use Rattle.std.proofs.Common.{◌≡◌, ◌<◌, ◌≤◌, ◌+◌, ◌-◌, ◌*◌, ℕ, zero, suc, Bool, true, false, List, [], ◌∷◌, drop, Option, Some, None, Result, Ok, Err, ℤ, pos, negsuc, refl, subst, sym, arith}
use Rattle.std.specs.Prelude.{nat_le, nat_lt, max, if◌then◌else◌}
use Rattle.std.proofs.Math.Nat.{mul-le-mul}
use Rattle.std.proofs.lemmas.Bool.{leb-false}
use Rattle.std.proofs.lemmas.Option.{same_Some}
use Rattle.std.specs.Str.{bytes_eq}
use Rattle.cw_text.specs.Syntax.{number, name, at, call, unary, binary, Terms, none, more, Statement, declare, assign, assign_at, run, out, choose, repeat, atomic, spawn, sync, cancel, return, Block, empty, first, Declaration, cell, func}
use Rattle.cw_code.specs.declared.CellInfo.{CellInfo}
use Rattle.cw_code.specs.declared.Limits.{Limits}
use Rattle.cw_code.specs.declared.FaultKind.{FaultKind}
use Rattle.cw_code.specs.declared.FaultKind.TheVariants.{Fuel}
use Rattle.cw_code.specs.declared.effects.Operator.{Operator}
use Rattle.cw_strand.specs.declared.want.Want.TheVariants.{Cancel, Done, Fault, Fork, Load, Out, Store, Sync}
use Rattle.cw_strand.specs.declared.want.Given.{Given}
use Rattle.cw_strand.specs.declared.want.Given.TheVariants.{Nothing, Value, Back as Wrote}
use Rattle.cw_strand.specs.declared.want.Want.{Want}
use Rattle.cw_code.specs.declared.Back.{Back}
use Rattle.cw_strand.specs.Arithmetic.{one, two, is_zero}
use Rattle.cw_strand.specs.Running.{Running, on, wants, stuck, depth_of, IsBounded}
use Rattle.cw_strand.specs.Names.{cells_of, count_of}
use Rattle.cw_strand.proofs.Weights.{lighter, no_heavier}
use Rattle.cw_strand.specs.Meaning.{State, Locals, Step, Function, function_of, Task, value, lift, join, enter, discard, perform, bind, store_in, load_at, store_at, show, choose_by, test, repeat_by, forget, wait, commit, finish, finish_main, back_to, leave, give_up, tasks_after_cancel, counts, writes_back, left, joined, arguments, unwound, begins_call, most_frames, lifted, joining, lifts, joins_operands, result, wait_in, read_name, write_name, begin_with, perform_with, to_do, spends, local_of, element_of, cell_of, in_range, step, step_of, work, most_added, most_begun, block_work, terms_work, steps_left, with_value, ended, runs}

-- ## Less to do

module _ (ds : List Declaration) (limits : Limits) where
  -- so much a unit of fuel can add
  abbrev most : List Task → ℕ
  most todo = max (most_begun ds) (most_added todo)

  -- what is left to do where so much fuel is spent
  abbrev left_at : ℕ → List Task → ℕ
  left_at fuel todo = (most todo + 1) * (limits.fuel - fuel) + work todo

  -- These tasks are less work than those, and a unit of fuel adds no more to it.
  record IsLess (todo before : List Task) : Type 0 where
    added : most_added todo ≤ most_added before
    work : work todo < work before

  less : (fuel spent : ℕ) (todo before : List Task) → fuel ≤ spent → IsLess todo before → left_at spent todo < left_at fuel before
  less fuel spent todo before later h =
      let low : (most todo + 1) * (limits.fuel - spent) ≤ (most before + 1) * (limits.fuel - fuel) = mul-le-mul (omega (arith, h.added)) (omega (arith, later)) in
      omega (arith, h.work, low)

  no_more : (fuel spent : ℕ) (todo : List Task) → fuel ≤ spent → left_at spent todo ≤ left_at fuel todo
  no_more fuel spent todo later =
      let low : (most todo + 1) * (limits.fuel - spent) ≤ (most todo + 1) * (limits.fuel - fuel) = mul-le-mul (omega arith) (omega (arith, later)) in
      omega (arith, low)

  -- a unit of fuel is spent, which adds no more than it can
  again : (fuel : ℕ) (todo before : List Task) → fuel < limits.fuel → most_added todo ≤ most before → work todo ≤ most before + work before → left_at (fuel + 1) todo < left_at fuel before
  again fuel todo before lt added grows =
      let one_less : suc (limits.fuel - (fuel + 1)) ≡ limits.fuel - fuel = omega arith in
      let low : (most todo + 1) * (limits.fuel - (fuel + 1)) ≤ (most before + 1) * (limits.fuel - (fuel + 1)) = mul-le-mul (omega (arith, added)) (omega arith) in
      subst (λ n. left_at (fuel + 1) todo < (most before + 1) * n + work before) one_less (omega (arith, low, grows))

lifts_work : (o : Option Operator) (k : List Task) → (work (lifts o k) ≤ 1 + work k) × (most_added (lifts o k) ≤ most_added k)
lifts_work None k = (omega arith, omega arith)
lifts_work (Some o) k = (omega arith, omega arith)

joins_work : (o : Option Operator) (k : List Task) → (work (joins_operands o k) ≤ 1 + work k) × (most_added (joins_operands o k) ≤ most_added k)
joins_work None k = (omega arith, omega arith)
joins_work (Some o) k = (omega arith, omega arith)

arguments_work : (es : Terms) (k : List Task) → (work (arguments es k) ≡ terms_work es + work k) × (most_added (arguments es k) ≤ most_added k)
arguments_work none k = (omega arith, omega arith)
arguments_work (more e es) k = let h = arguments_work es k in (omega (arith, h.0), omega (arith, h.1))

unwound_work : (k : List Task) → (work (unwound k) ≤ work k) × (most_added (unwound k) ≤ most_added k)
unwound_work [] = (omega arith, omega arith)
unwound_work (back_to ls vs ∷ k) = (omega arith, omega arith)
unwound_work (finish ∷ k) = (omega arith, omega arith)
unwound_work (finish_main ∷ k) = (omega arith, omega arith)
unwound_work (t ∷ k) = let h = unwound_work k in (omega (arith, h.0), omega (arith, h.1))

given_up_work : (k : List Task) → (work (tasks_after_cancel k) ≤ work k) × (most_added (tasks_after_cancel k) ≤ most_added k)
given_up_work [] = (omega arith, omega arith)
given_up_work (forget n ∷ k) = let h = given_up_work k in (omega (arith, h.0), omega (arith, h.1))
given_up_work (commit ∷ k) = (omega arith, omega arith)
given_up_work (t ∷ k) = let h = given_up_work k in (omega (arith, h.0), omega (arith, h.1))

-- no function adds more than the greatest
body_begun : (ds : List Declaration) (n : List ℕ) (f : Function) → function_of ds n ≡ Some f → block_work f.body + 2 ≤ most_begun ds
body_begun [] n f is = absurd cc
body_begun (cell x l len i ∷ ds) n f is = body_begun ds n f is
body_begun (func x l ps b ∷ ds) n f is = by (bytes_eq x n) is (body_begun ds n f)
  where
    by : (z : Bool) → (if z then Some (record { params = ps; body = b }) else function_of ds n) ≡ Some f → (function_of ds n ≡ Some f → block_work f.body + 2 ≤ most_begun ds) → block_work f.body + 2 ≤ max (block_work b + 2) (most_begun ds)
    by true e later = subst (λ (g : Function). block_work g.body + 2 ≤ max (block_work b + 2) (most_begun ds)) (same_Some _ f e) (omega arith)
    by false e later = let low = later e in omega (arith, low)

one_of_two : (z : Bool) (a b : Block) → block_work (if z then b else a) ≤ block_work a + block_work b
one_of_two true a b = omega arith
one_of_two false a b = omega arith

-- ## Steps

module _ (ds : List Declaration) (words : List ℤ) (limits : Limits) (cells : List CellInfo) where
  abbrev functions : List ℕ → Option Function
  functions = function_of ds

  -- where nothing is to be written back
  abbrev plain : Running State
  plain = record (runs ds words limits) { bound = λ s. steps_left ds limits s }

  -- a step leaves less to do than so much
  abbrev Leaves : ℕ → Step → Type 0
  Leaves n (on t) = steps_left ds limits t < n
  Leaves n (wants w t) = depth_of plain w t ≤ n
  Leaves n stuck = Unit {0}

  either : (n : ℕ) (b : Bool) (x y : Step) → Leaves n x → Leaves n y → Leaves n (if b then x else y)
  either n true x y h g = h
  either n false x y h g = g

  result_leaves : (n : ℕ) (r : Result ℤ FaultKind) (vs : List ℤ) (s : State) → steps_left ds limits s < n → Leaves n (result r vs s)
  result_leaves n (Ok v) vs s h = h
  result_leaves n (Err k) vs s h = omega (arith, h)

  read_leaves : (n : ℕ) (v : Option ℤ) (c : Option ℕ) (s : State) → steps_left ds limits s < n → Leaves n (read_name cells functions limits v c s)
  read_leaves n (Some v) c s h = h
  read_leaves n None None s h = tt
  read_leaves n None (Some c) s h = either n (nat_le limits.size s.size) _ _ (omega (arith, h)) h

  write_leaves : (n : ℕ) (old : Option ℤ) (c : Option ℕ) (x : List ℕ) (v : ℤ) (s : State) → steps_left ds limits s < n → Leaves n (write_name cells functions limits old c x v s)
  write_leaves n (Some o) c x v s h = h
  write_leaves n None None x v s h = tt
  write_leaves n None (Some c) x v s h = either n (nat_le limits.size s.size) _ _ (omega (arith, h)) h

  range_leaves : (n : ℕ) (o : Option CellInfo) (i : ℤ) (s : State) (go : ℕ → Step) → steps_left ds limits s ≤ n → ((c : ℕ) → Leaves n (go c)) → Leaves n (in_range cells functions limits o i s go)
  range_leaves n None i s go low h = tt
  range_leaves n (Some c) (negsuc m) s go low h = low
  range_leaves n (Some c) (pos m) s go low h = either n (nat_lt m c.len) _ _ (h (c.base + m)) low

  wait_leaves : (n : ℕ) (ns : List ℕ) (k : List Task) (s : State) → steps_left ds limits (to_do k s) < n → steps_left ds limits (to_do (wait ∷ k) s) ≤ n → Leaves n (wait_in ns k s)
  wait_leaves n [] k s h low = h
  wait_leaves n (zero ∷ ns) k s h low = h
  wait_leaves n (suc m ∷ ns) k s h low = low

  ended_leaves : (ns : List ℕ) (s : State) → Leaves (steps_left ds limits s) (wants Done (ended ns s))
  ended_leaves [] s = omega arith
  ended_leaves (n ∷ []) s = omega arith
  ended_leaves (n ∷ m ∷ ns) s = omega arith

  spends_leaves : (s : State) (go : State → Step) → (s.fuel < limits.fuel → Leaves (steps_left ds limits s) (go (record s { fuel = s.fuel + 1 }))) → Leaves (steps_left ds limits s) (spends cells functions limits s go)
  spends_leaves s go h = by (nat_le limits.fuel s.fuel) refl
    where
      by : (b : Bool) → nat_le limits.fuel s.fuel ≡ b → Leaves (steps_left ds limits s) (if b then wants (Fault Fuel) s else go (record s { fuel = s.fuel + 1 }))
      by true e = omega arith
      by false e = h (leb-false limits.fuel s.fuel e)

  module _ (ls : Locals) (frames : ℕ) (ns : List ℕ) (size : ℕ) (beside : Block) where
    abbrev state : ℕ → List Task → List ℤ → State
    state fuel k vs = record { todo = k; values = vs; locals = ls; frames = frames; scopes = ns; fuel = fuel; size = size; beside = beside; back = [] }

    -- a statement, with what is done after it
    begin_leaves : (fuel spent : ℕ) → fuel ≤ spent → (st : Statement) (b : Block) (k : List Task) (vs : List ℤ)
        → let before = perform (first st b) ∷ k in Leaves (left_at ds limits fuel before) (begin_with cells functions limits st (perform b ∷ k) (state spent before vs))
    begin_leaves fuel spent later (declare w e) b k vs = less ds limits fuel spent (value e ∷ bind w.name ∷ perform b ∷ k) (perform (first (declare w e) b) ∷ k) later (record { added = omega arith; work = omega arith })
    begin_leaves fuel spent later (assign w e) b k vs = less ds limits fuel spent (value e ∷ store_in w.name ∷ perform b ∷ k) (perform (first (assign w e) b) ∷ k) later (record { added = omega arith; work = omega arith })
    begin_leaves fuel spent later (assign_at w i e) b k vs = less ds limits fuel spent (value i ∷ value e ∷ store_at w.name ∷ perform b ∷ k) (perform (first (assign_at w i e) b) ∷ k) later (record { added = omega arith; work = omega arith })
    begin_leaves fuel spent later (run w es) b k vs =
        let todo : List Task = enter w.name (count_of es) ∷ discard ∷ perform b ∷ k in
        let h = arguments_work es todo in
        less ds limits fuel spent (arguments es todo) (perform (first (run w es) b) ∷ k) later (record { added = omega (arith, h.1); work = omega (arith, h.0) })
    begin_leaves fuel spent later (out e) b k vs = less ds limits fuel spent (value e ∷ show ∷ perform b ∷ k) (perform (first (out e) b) ∷ k) later (record { added = omega arith; work = omega arith })
    begin_leaves fuel spent later (choose e c d) b k vs = less ds limits fuel spent (value e ∷ choose_by c d ∷ perform b ∷ k) (perform (first (choose e c d) b) ∷ k) later (record { added = omega arith; work = omega arith })
    begin_leaves fuel spent later (repeat e c) b k vs = less ds limits fuel spent (test e c ∷ perform b ∷ k) (perform (first (repeat e c) b) ∷ k) later (record { added = omega arith; work = omega arith })
    begin_leaves fuel spent later (atomic c) b k vs =
        let h = less ds limits fuel spent (perform c ∷ forget 0 ∷ wait ∷ commit ∷ perform b ∷ k) (perform (first (atomic c) b) ∷ k) later (record { added = omega arith; work = omega arith }) in
        either _ (nat_le limits.size size) _ _ (omega (arith, h)) h
    begin_leaves fuel spent later (spawn c) b k vs =
        let before = perform (first (spawn c) b) ∷ k in
        let right = less ds limits fuel spent (perform b ∷ k) before later (record { added = omega arith; work = omega arith }) in
        let left = less ds limits fuel spent (perform c ∷ wait ∷ finish ∷ []) before later (record { added = omega arith; work = omega arith }) in
        either _ (nat_le limits.size size) _ _ (no_more ds limits fuel spent before later) (omega (arith, right, left))
    begin_leaves fuel spent later sync b k vs = less ds limits fuel spent (wait ∷ perform b ∷ k) (perform (first sync b) ∷ k) later (record { added = omega arith; work = omega arith })
    begin_leaves fuel spent later (cancel l) b k vs = less ds limits fuel spent (wait ∷ give_up ∷ perform b ∷ k) (perform (first (cancel l) b) ∷ k) later (record { added = omega arith; work = omega arith })
    begin_leaves fuel spent later (return l e) b k vs = less ds limits fuel spent (value e ∷ wait ∷ leave ∷ perform b ∷ k) (perform (first (return l e) b) ∷ k) later (record { added = omega arith; work = omega arith })

    module _ (fuel : ℕ) where
      perform_leaves : (st : Statement) (b : Block) (k : List Task) (vs : List ℤ)
          → let before = perform (first st b) ∷ k in Leaves (left_at ds limits fuel before) (perform_with cells functions limits st (perform b ∷ k) (state fuel before vs))
      perform_leaves (repeat e c) b k vs = begin_leaves fuel fuel (omega arith) (repeat e c) b k vs
      perform_leaves st b k vs =
          spends_leaves (state fuel (perform (first st b) ∷ k) vs) (λ t. begin_with cells functions limits st (perform b ∷ k) t) (λ lt. begin_leaves fuel (fuel + 1) (omega arith) st b k vs)

      -- tasks that are less work, with other operands
      abbrev goes : (todo before : List Task) → most_added todo ≤ most_added before → work todo < work before → left_at ds limits fuel todo < left_at ds limits fuel before
      goes todo before added lt = less ds limits fuel fuel todo before (omega arith) (record { added = added; work = lt })

      -- a function begins, or too many stand
      called_leaves : (n : List ℕ) (c : ℕ) (k : List Task) (vs : List ℤ) (o : Option Function) → functions n ≡ o → fuel < limits.fuel
          → let before = enter n c ∷ k in Leaves (left_at ds limits fuel before) (begins_call cells functions limits o c k (state (fuel + 1) before vs))
      called_leaves n c k vs None is lt = tt
      called_leaves n c k vs (Some f) is lt =
          let before : List Task = enter n c ∷ k in
          let most = body_begun ds n f is in
          either _ (nat_le most_frames frames) _ _ (no_more ds limits fuel (fuel + 1) before (omega arith))
          (again ds limits fuel (perform f.body ∷ wait ∷ value (number (pos 0)) ∷ back_to ls (drop c vs) ∷ k) before lt (omega (arith, most)) (omega (arith, most)))

      leaves : (todo : List Task) (vs : List ℤ) → Leaves (left_at ds limits fuel todo) (step_of cells functions limits todo (state fuel todo vs))
      leaves [] vs = tt
      leaves (value (number n) ∷ k) vs = goes k (value (number n) ∷ k) (omega arith) (omega arith)
      leaves (value (name w) ∷ k) vs = read_leaves _ (local_of ls w.name) (element_of cells w.name) _ (goes k (value (name w) ∷ k) (omega arith) (omega arith))
      leaves (value (at w i) ∷ k) vs = goes (value i ∷ load_at w.name ∷ k) (value (at w i) ∷ k) (omega arith) (omega arith)
      leaves (value (call w es) ∷ k) vs =
          let todo : List Task = enter w.name (count_of es) ∷ k in
          let h = arguments_work es todo in
          goes (arguments es todo) (value (call w es) ∷ k) (omega (arith, h.1)) (omega (arith, h.0))
      leaves (value (unary o e) ∷ k) vs = let h = lifts_work (lifted o) k in goes (value e ∷ lifts (lifted o) k) (value (unary o e) ∷ k) (omega (arith, h.1)) (omega (arith, h.0))
      leaves (value (binary o l r) ∷ k) vs = let h = joins_work (joining o) k in goes (value l ∷ value r ∷ joins_operands (joining o) k) (value (binary o l r) ∷ k) (omega (arith, h.1)) (omega (arith, h.0))
      leaves (lift o ∷ k) (x ∷ vs) = result_leaves _ (one o x) vs _ (goes k (lift o ∷ k) (omega arith) (omega arith))
      leaves (join o ∷ k) (y ∷ x ∷ vs) = result_leaves _ (two o x y) vs _ (goes k (join o ∷ k) (omega arith) (omega arith))
      leaves (enter n c ∷ k) vs =
          spends_leaves (state fuel (enter n c ∷ k) vs) (λ t. begins_call cells functions limits (functions n) c k t) (λ lt. called_leaves n c k vs (functions n) refl lt)
      leaves (discard ∷ k) (v ∷ vs) = goes k (discard ∷ k) (omega arith) (omega arith)
      leaves (perform empty ∷ k) vs = goes k (perform empty ∷ k) (omega arith) (omega arith)
      leaves (perform (first st b) ∷ k) vs = perform_leaves st b k vs
      leaves (bind n ∷ k) (v ∷ vs) = goes k (bind n ∷ k) (omega arith) (omega arith)
      leaves (store_in n ∷ k) (v ∷ vs) = write_leaves _ (local_of ls n) (element_of cells n) n v _ (goes k (store_in n ∷ k) (omega arith) (omega arith))
      leaves (load_at n ∷ k) (i ∷ vs) =
          let lt = goes k (load_at n ∷ k) (omega arith) (omega arith) in
          range_leaves _ (cell_of cells n) i _ _ (omega arith) (λ c. either _ (nat_le limits.size size) _ _ (omega (arith, lt)) lt)
      leaves (store_at n ∷ k) (v ∷ i ∷ vs) =
          let lt = goes k (store_at n ∷ k) (omega arith) (omega arith) in
          range_leaves _ (cell_of cells n) i _ _ (omega arith) (λ c. either _ (nat_le limits.size size) _ _ (omega (arith, lt)) lt)
      leaves (show ∷ k) (v ∷ vs) = let lt = goes k (show ∷ k) (omega arith) (omega arith) in either _ (nat_le limits.size size) _ _ (omega (arith, lt)) lt
      leaves (choose_by a b ∷ k) (v ∷ vs) = goes (perform (if is_zero v then b else a) ∷ forget 0 ∷ k) (choose_by a b ∷ k) (omega (arith, one_of_two (is_zero v) a b)) (omega (arith, one_of_two (is_zero v) a b))
      leaves (test e b ∷ k) vs = spends_leaves (state fuel (test e b ∷ k) vs) (λ t. on (to_do (value e ∷ repeat_by e b ∷ k) t)) (λ lt. again ds limits fuel (value e ∷ repeat_by e b ∷ k) (test e b ∷ k) lt (omega arith) (omega arith))
      leaves (repeat_by e b ∷ k) (v ∷ vs) = either _ (is_zero v) _ _ (goes k (repeat_by e b ∷ k) (omega arith) (omega arith)) (goes (perform b ∷ forget 0 ∷ test e b ∷ k) (repeat_by e b ∷ k) (omega arith) (omega arith))
      leaves (forget n ∷ k) vs = goes k (forget n ∷ k) (omega arith) (omega arith)
      leaves (wait ∷ k) vs = wait_leaves _ ns k (state fuel (wait ∷ k) vs) (goes k (wait ∷ k) (omega arith) (omega arith)) (omega arith)
      leaves (commit ∷ k) vs = goes k (commit ∷ k) (omega arith) (omega arith)
      leaves (finish ∷ k) vs = ended_leaves ns (state fuel (finish ∷ k) vs)
      leaves (finish_main ∷ k) (v ∷ vs) = ended_leaves ns (state fuel (finish_main ∷ k) (v ∷ vs))
      leaves (back_to l us ∷ k) (v ∷ vs) = goes k (back_to l us ∷ k) (omega arith) (omega arith)
      leaves (give_up ∷ k) vs =
          let h = given_up_work k in
          let lt = goes (tasks_after_cancel k) (give_up ∷ k) (omega (arith, h.1)) (omega (arith, h.0)) in
          either _ (nat_le limits.size size) _ _ (omega (arith, lt)) lt
      leaves (leave ∷ k) vs = let h = unwound_work k in goes (unwound k) (leave ∷ k) (omega (arith, h.1)) (omega (arith, h.0))
      leaves todo vs = tt

-- ## What was counted

module _ (ds : List Declaration) (limits : Limits) (cells : List CellInfo) where
  -- where a step comes to a want, so much was counted at least
  abbrev Counts : ℕ → Step → Type 0
  Counts n (on t) = Unit {0}
  Counts n (wants w t) = n ≤ t.size
  Counts n stuck = Unit {0}

  one_of : (n : ℕ) (b : Bool) (x y : Step) → Counts n x → Counts n y → Counts n (if b then x else y)
  one_of n true x y h g = h
  one_of n false x y h g = g

  counts_one : (n : ℕ) (w : Want) (s : State) → n ≤ s.size → Counts n (counts cells (function_of ds) limits w s)
  counts_one n w s h = one_of n (nat_le limits.size s.size) _ _ h (omega (arith, h))

  counts_spent : (n : ℕ) (s : State) (go : State → Step) → n ≤ s.size → Counts n (go (record s { fuel = s.fuel + 1 })) → Counts n (spends cells (function_of ds) limits s go)
  counts_spent n s go h g = one_of n (nat_le limits.fuel s.fuel) _ _ h g

  counts_result : (n : ℕ) (r : Result ℤ FaultKind) (vs : List ℤ) (s : State) → n ≤ s.size → Counts n (result r vs s)
  counts_result n (Ok v) vs s h = tt
  counts_result n (Err k) vs s h = h

  counts_read : (n : ℕ) (v : Option ℤ) (c : Option ℕ) (s : State) → n ≤ s.size → Counts n (read_name cells (function_of ds) limits v c s)
  counts_read n (Some v) c s h = tt
  counts_read n None (Some c) s h = counts_one n _ _ h
  counts_read n None None s h = tt

  counts_write : (n : ℕ) (o : Option ℤ) (c : Option ℕ) (x : List ℕ) (v : ℤ) (s : State) → n ≤ s.size → Counts n (write_name cells (function_of ds) limits o c x v s)
  counts_write n (Some o) c x v s h = tt
  counts_write n None (Some c) x v s h = counts_one n _ _ h
  counts_write n None None x v s h = tt

  counts_range : (n : ℕ) (o : Option CellInfo) (i : ℤ) (s : State) (go : ℕ → Step) → n ≤ s.size → ((c : ℕ) → Counts n (go c)) → Counts n (in_range cells (function_of ds) limits o i s go)
  counts_range n None i s go h g = tt
  counts_range n (Some c) (negsuc m) s go h g = h
  counts_range n (Some c) (pos m) s go h g = one_of n (nat_lt m c.len) _ _ (g (c.base + m)) h

  counts_wait : (n : ℕ) (ns : List ℕ) (k : List Task) (s : State) → n ≤ s.size → Counts n (wait_in ns k s)
  counts_wait n [] k s h = tt
  counts_wait n (zero ∷ ns) k s h = tt
  counts_wait n (suc m ∷ ns) k s h = h

  counts_ended : (n : ℕ) (ns : List ℕ) (s : State) → n ≤ s.size → Counts n (wants Done (ended ns s))
  counts_ended n [] s h = h
  counts_ended n (m ∷ []) s h = h
  counts_ended n (m ∷ l ∷ ns) s h = h

  counts_call : (n : ℕ) (o : Option Function) (c : ℕ) (k : List Task) (s : State) → n ≤ s.size → Counts n (begins_call cells (function_of ds) limits o c k s)
  counts_call n None c k s h = tt
  counts_call n (Some f) c k s h = one_of n (nat_le most_frames s.frames) _ _ h tt

  counts_begin : (n : ℕ) (st : Statement) (k : List Task) (s : State) → n ≤ s.size → Counts n (begin_with cells (function_of ds) limits st k s)
  counts_begin n (atomic b) k s h = counts_one n _ _ h
  counts_begin n (spawn b) k s h = one_of n (nat_le limits.size s.size) _ _ h (omega (arith, h))
  counts_begin n st k s h = tt

  counts_perform : (n : ℕ) (st : Statement) (k : List Task) (s : State) → n ≤ s.size → Counts n (perform_with cells (function_of ds) limits st k s)
  counts_perform n (repeat e b) k s h = counts_begin n (repeat e b) k s h
  counts_perform n st k s h = counts_spent n s (λ t. begin_with cells (function_of ds) limits st k t) h (counts_begin n st k (record s { fuel = s.fuel + 1 }) h)

  counts_tasks : (n : ℕ) (todo : List Task) (vs : List ℤ) (s : State) → n ≤ s.size → Counts n (step_of cells (function_of ds) limits todo (record s { values = vs }))
  counts_tasks n [] vs s h = tt
  counts_tasks n (value (number z) ∷ k) vs s h = tt
  counts_tasks n (value (at w i) ∷ k) vs s h = tt
  counts_tasks n (value (call w es) ∷ k) vs s h = tt
  counts_tasks n (value (unary o e) ∷ k) vs s h = tt
  counts_tasks n (value (binary o l r) ∷ k) vs s h = tt
  counts_tasks n (discard ∷ k) (v ∷ vs) s h = tt
  counts_tasks n (perform empty ∷ k) vs s h = tt
  counts_tasks n (bind x ∷ k) (v ∷ vs) s h = tt
  counts_tasks n (choose_by a b ∷ k) (v ∷ vs) s h = tt
  counts_tasks n (forget m ∷ k) vs s h = tt
  counts_tasks n (back_to l us ∷ k) (v ∷ vs) s h = tt
  counts_tasks n (leave ∷ k) vs s h = tt
  counts_tasks n (value (name w) ∷ k) vs s h = counts_read n (local_of s.locals w.name) (element_of cells w.name) (record s { todo = k; values = vs }) h
  counts_tasks n (lift o ∷ k) (x ∷ vs) s h = counts_result n (one o x) vs (record s { todo = k; values = x ∷ vs }) h
  counts_tasks n (join o ∷ k) (y ∷ x ∷ vs) s h = counts_result n (two o x y) vs (record s { todo = k; values = y ∷ x ∷ vs }) h
  counts_tasks n (enter x c ∷ k) vs s h =
      let at = record s { values = vs } in
      counts_spent n at (λ t. begins_call cells (function_of ds) limits (function_of ds x) c k t) h (counts_call n (function_of ds x) c k (record at { fuel = s.fuel + 1 }) h)
  counts_tasks n (perform (first st b) ∷ k) vs s h = counts_perform n st (perform b ∷ k) (record s { values = vs }) h
  counts_tasks n (store_in x ∷ k) (v ∷ vs) s h = counts_write n (local_of s.locals x) (element_of cells x) x v (record s { todo = k; values = vs }) h
  counts_tasks n (load_at x ∷ k) (i ∷ vs) s h =
      counts_range n (cell_of cells x) i (record s { values = i ∷ vs }) (λ c. counts cells (function_of ds) limits (Load c) (record s { todo = k; values = pos 0 ∷ vs })) h (λ c. counts_one n (Load c) (record s { todo = k; values = pos 0 ∷ vs }) h)
  counts_tasks n (store_at x ∷ k) (v ∷ i ∷ vs) s h =
      counts_range n (cell_of cells x) i (record s { values = v ∷ i ∷ vs }) (λ c. counts cells (function_of ds) limits (Store c v) (record s { todo = k; values = vs })) h (λ c. counts_one n (Store c v) (record s { todo = k; values = vs }) h)
  counts_tasks n (show ∷ k) (v ∷ vs) s h = counts_one n (Out v) (record s { todo = k; values = vs }) h
  counts_tasks n (test e b ∷ k) vs s h = one_of n (nat_le limits.fuel s.fuel) _ _ h tt
  counts_tasks n (repeat_by e b ∷ k) (v ∷ vs) s h = one_of n (is_zero v) _ _ tt tt
  counts_tasks n (wait ∷ k) vs s h = counts_wait n s.scopes k (record s { values = vs }) h
  counts_tasks n (commit ∷ k) vs s h = h
  counts_tasks n (finish ∷ k) vs s h = counts_ended n s.scopes (record s { values = vs }) h
  counts_tasks n (finish_main ∷ k) (v ∷ vs) s h = counts_ended n s.scopes (record s { values = v ∷ vs }) h
  counts_tasks n (give_up ∷ k) vs s h = counts_one n Cancel (record s { todo = tasks_after_cancel k; values = vs }) h
  counts_tasks n todo vs s h = tt

-- ## With what is written back

module _ (ds : List Declaration) (words : List ℤ) (limits : Limits) where
  abbrev whole : Running State
  whole = runs ds words limits

  -- a step leaves less to do and to write back
  abbrev LeavesAll : State → Step → Type 0
  LeavesAll s (on t) = whole.bound t < whole.bound s
  LeavesAll s (wants w t) = depth_of whole w t ≤ whole.bound s
  LeavesAll s stuck = Unit {0}

  -- less to do by itself is less of all
  less_of_all : (s t : State) → steps_left ds limits t < steps_left ds limits s → whole.bound t < whole.bound s
  less_of_all s t less = lighter limits.size (steps_left ds limits t) (steps_left ds limits s) (limits.size + 1 - t.size) (limits.size + 1 - s.size) less (omega arith)

  no_more_of_all : (s t : State) → steps_left ds limits t ≤ steps_left ds limits s → s.size ≤ t.size → whole.bound t ≤ whole.bound s
  no_more_of_all s t low counted = omega (arith, no_heavier limits.size (steps_left ds limits t) (steps_left ds limits s) (limits.size + 1 - t.size) low, counted)

  want_leaves_all : (s t : State) (w : Want) → depth_of (plain ds words limits (cells_of ds)) w t ≤ steps_left ds limits s → s.size ≤ t.size → depth_of whole w t ≤ whole.bound s
  want_leaves_all s t Fork low counted = omega (arith, less_of_all s t (omega (arith, low)), less_of_all s (left t) (omega (arith, low)))
  want_leaves_all s t Sync low counted = no_more_of_all s t low counted
  want_leaves_all s t Done low counted = no_more_of_all s t low counted
  want_leaves_all s t (Fault k) low counted = no_more_of_all s t low counted
  want_leaves_all s t w low counted = omega (arith, less_of_all s t (omega (arith, low)))

  all_left : (s : State) (x : Step) → Leaves ds words limits (cells_of ds) (steps_left ds limits s) x → Counts ds limits (cells_of ds) s.size x → LeavesAll s x
  all_left s (on t) h g = less_of_all s t h
  all_left s (wants w t) h g = want_leaves_all s t w h g
  all_left s stuck h g = tt

  either_all : (s : State) (b : Bool) (x y : Step) → (b ≡ true → LeavesAll s x) → (b ≡ false → LeavesAll s y) → LeavesAll s (if b then x else y)
  either_all s true x y h g = h refl
  either_all s false x y h g = g refl

  step_leaves : (s : State) (x : Step) → step (cells_of ds) (function_of ds) limits s ≡ x → LeavesAll s x
  step_leaves s x h = subst (λ (y : Step). LeavesAll s y) h (either_all s (nat_lt limits.size s.size) _ _ (λ _. omega arith) (λ _. by s.back refl))
    where
      by : (bs : List Back) → s.back ≡ bs → LeavesAll s (writes_back (cells_of ds) (function_of ds) limits bs s)
      by [] same =
          let here = leaves ds words limits (cells_of ds) s.locals s.frames s.scopes s.size s.beside s.fuel s.todo s.values in
          let mine = subst (λ (bs : List Back). Leaves ds words limits (cells_of ds) (steps_left ds limits s) (step_of (cells_of ds) (function_of ds) limits s.todo (record s { back = bs }))) (sym same) here in
          all_left s _ mine (counts_tasks ds limits (cells_of ds) s.size s.todo s.values s (omega arith))
      by (b ∷ bs) same = either_all s (nat_le limits.size s.size) _ _ (λ _. omega arith) (λ e. omega (arith, leb-false limits.size s.size e))

  answered_leaves : (given : Given) (s : State) → whole.bound (with_value given s) ≤ whole.bound s
  answered_leaves Nothing s = omega arith
  answered_leaves (Value v) s = omega arith
  answered_leaves (Wrote bs) s = omega arith

  pub bounded : IsBounded whole
  bounded = record {
    on = λ s t is. step_leaves s (on t) is;
    want = λ s t w is. step_leaves s (wants w t) is;
    answered = answered_leaves;
    joined = λ right l. no_more_of_all right (joined limits right l) (no_more ds limits right.fuel (max l.fuel right.fuel) right.todo (omega arith)) (omega arith);
  }
