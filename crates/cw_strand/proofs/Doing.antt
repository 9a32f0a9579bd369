-- The code at a place does what is still to be done.
use Rattle.std.proofs.Common.{◌≡◌, ℕ, suc, ℤ, ◌+◌, ◌-◌, ◌<◌, ◌≤◌, List, [], ◌∷◌, ◌++◌, length, drop, refl, subst, arith, Option, Some, None, append_assoc, length-append}
use Rattle.std.specs.Prelude.{slice_get}
use Rattle.cw_text.specs.declared.ast.Op.{Op}
use Rattle.cw_text.specs.declared.ast.Op.TheVariants as op
use Rattle.cw_text.specs.Syntax.{Term, Terms, none, more, Block, repeat, Declaration}
use Rattle.cw_code.specs.declared.instruction.Instr.{Instr}
use Rattle.cw_code.specs.declared.effects.Operator.{Operator}
use Rattle.cw_code.specs.declared.effects.Effect.TheVariants as effect
use Rattle.cw_code.specs.Table.{effect_at}
use Rattle.cw_strand.specs.declared.naming.Around.{Around}
use Rattle.cw_strand.specs.declared.naming.Around.TheVariants as around
use Rattle.cw_strand.specs.Names.{find, used, indexed, fault_of_call, count_of, in_term, in_terms, in_block, cells_of}
use Rattle.cw_strand.specs.Meaning.{Locals, cell_of, Task, value, lift, join, enter, perform, bind, store_in, load_at, store_at, show, choose_by, test, repeat_by, forget, wait, commit, finish, finish_main, back_to, leave, give_up, tasks_after_cancel, arguments, unwound, lifted, joining, lifts, joins_operands}
use Rattle.cw_strand.specs.Meaning as meaning
use Rattle.cw_strand.specs.Coded.{Frame}
use Rattle.cw_strand.specs.Compilation.{Slots, slot_of, function_names, calls, term_code, terms_code, statement_code, block_code, most, plain, operator_number, lift_code, join_code, writes, loads_at, stores_at, set}
use Rattle.cw_strand.specs.Compilation as instr
use Rattle.cw_strand.proofs.StandingNames.{no_fault}
use Rattle.cw_strand.proofs.Numbering.{Agree, scope_of, slots_behind}

-- ## Instructions in their places

-- these instructions stand at this place
abbrev pub HasAt : List Instr → ℕ → List Instr → Type 0
HasAt code p [] = Unit {0}
HasAt code p (i ∷ is) = (slice_get code p ≡ Some i) × HasAt code (p + 1) is

pub front : (code : List Instr) (p : ℕ) (a b : List Instr) → HasAt code p (a ++ b) → HasAt code p a
front code p [] b h = tt
front code p (i ∷ a) b h = (h.0, front code (p + 1) a b h.1)

pub behind : (code : List Instr) (p : ℕ) (a b : List Instr) → HasAt code p (a ++ b) → HasAt code (p + length a) b
behind code p [] b h = let e : p ≡ p + 0 = omega arith in subst (λ n. HasAt code n b) e h
behind code p (i ∷ a) b h =
    let e : p + 1 + length a ≡ p + length (i ∷ a) = omega arith in
    subst (λ n. HasAt code n b) e (behind code (p + 1) a b h.1)

-- behind other instructions
pub stands_behind : (before is : List Instr) → HasAt (before ++ is) (length before) is
stands_behind before [] = tt
stands_behind before (i ∷ is) =
    let whole : (before ++ i ∷ []) ++ is ≡ before ++ i ∷ is = append_assoc before (i ∷ []) is in
    let len : length (before ++ i ∷ []) ≡ length before + 1 = length-append before (i ∷ []) in
    (there before, subst (λ q. HasAt (before ++ i ∷ is) q is) len (subst (λ l. HasAt l (length (before ++ i ∷ [])) is) whole (stands_behind (before ++ i ∷ []) is)))
  where
    there : (before : List Instr) → slice_get (before ++ i ∷ is) (length before) ≡ Some i
    there [] = refl
    there (x ∷ before) = there before

-- ## What the code does

module _ (ds : List Declaration) (code : List Instr) where
  -- The blocks of a choice stand behind the jump to the second one. After the first one comes a jump past the second one.
  pub record Choice (n p end : ℕ) (g : Slots) (a b : Block) : Type 0 where
    pub inside : Around
    -- where the innermost atomic block ends
    pub ending : ℕ
    pub first_named : in_block (scope_of ds g) inside a ≡ None
    pub second_named : in_block (scope_of ds g) inside b ≡ None
    pub first_room : most (length g) a ≤ n
    pub second_room : most (length g) b ≤ n
    pub past : ℕ
    pub past_is : past ≡ p + 1 + length (block_code (cells_of ds) (function_names ds) g (p + 1) ending a)
    pub end_is : end ≡ past + 1 + length (block_code (cells_of ds) (function_names ds) g (past + 1) ending b)
    pub skips : slice_get code p ≡ Some (instr.jump_zero (past + 1))
    pub first_stands : HasAt code (p + 1) (block_code (cells_of ds) (function_names ds) g (p + 1) ending a)
    pub passes : slice_get code past ≡ Some (instr.jump end)
    pub second_stands : HasAt code (past + 1) (block_code (cells_of ds) (function_names ds) g (past + 1) ending b)

  -- a loop stands at a place
  pub record Loop (n p : ℕ) (g : Slots) (e : Term) (b : Block) : Type 0 where
    pub inside : Around
    pub ending : ℕ
    pub test_named : in_term (scope_of ds g) e ≡ None
    pub body_named : in_block (scope_of ds g) inside b ≡ None
    pub room : most (length g) b ≤ n
    pub stands : HasAt code p (statement_code (cells_of ds) (function_names ds) g p ending (repeat e b))

  mutual
    -- The code at a place does these tasks, given the number of locals and which are visible, the number of operands, and the callers.
    pub data Does : ℕ → Slots → ℕ → List Task → ℕ → List Frame → Type 0 where
      does_value : {n h p : ℕ} {g : Slots} {e : Term} {k : List Task} {fs : List Frame} → in_term (scope_of ds g) e ≡ None → HasAt code p (term_code (cells_of ds) (function_names ds) g e) → Does n g (suc h) k (p + length (term_code (cells_of ds) (function_names ds) g e)) fs → Does n g h (value e ∷ k) p fs
      does_lift : {n h p : ℕ} {g : Slots} {o : Operator} {k : List Task} {fs : List Frame} → effect_at (operator_number o) ≡ Some (effect.Lift o) → slice_get code p ≡ Some (plain (operator_number o)) → Does n g (suc h) k (p + 1) fs → Does n g (suc h) (lift o ∷ k) p fs
      does_join : {n h p : ℕ} {g : Slots} {o : Operator} {k : List Task} {fs : List Frame} → effect_at (operator_number o) ≡ Some (effect.Join o) → slice_get code p ≡ Some (plain (operator_number o)) → Does n g (suc h) k (p + 1) fs → Does n g (suc (suc h)) (join o ∷ k) p fs
      does_enter : {n h p a : ℕ} {g : Slots} {x : List ℕ} {k : List Task} {fs : List Frame} (line : ℕ) → fault_of_call (find x (scope_of ds g)) a line ≡ None → a ≤ h → slice_get code p ≡ Some (calls (cells_of ds) (function_names ds) x) → Does n g (suc (h - a)) k (p + 1) fs → Does n g h (enter x a ∷ k) p fs
      does_discard : {n h p : ℕ} {g : Slots} {k : List Task} {fs : List Frame} → slice_get code p ≡ Some instr.discard → Does n g h k (p + 1) fs → Does n g (suc h) (meaning.discard ∷ k) p fs
      does_perform : {n h p : ℕ} {g : Slots} {b : Block} {k : List Task} {fs : List Frame} (inside : Around) (ending : ℕ) → in_block (scope_of ds g) inside b ≡ None → most (length g) b ≤ n → HasAt code p (block_code (cells_of ds) (function_names ds) g p ending b)
          → ((more : Slots) → inside ≡ around.Atomic → Shuts n (more ++ g) h k ending fs) → Does n (slots_behind b g) h k (p + length (block_code (cells_of ds) (function_names ds) g p ending b)) fs → Does n g h (perform b ∷ k) p fs
      does_bind : {n h p : ℕ} {g : Slots} {x : List ℕ} {k : List Task} {fs : List Frame} → length g < n → slice_get code p ≡ Some (set (length g)) → Does n (x ∷ g) h k (p + 1) fs → Does n g (suc h) (bind x ∷ k) p fs
      does_store : {n h p : ℕ} {g : Slots} {x : List ℕ} {k : List Task} {fs : List Frame} (line : ℕ) → used (find x (scope_of ds g)) line ≡ None → slice_get code p ≡ Some (writes (cells_of ds) (function_names ds) (slot_of g x) x) → Does n g h k (p + 1) fs → Does n g (suc h) (store_in x ∷ k) p fs
      does_load_at : {n h p : ℕ} {g : Slots} {x : List ℕ} {k : List Task} {fs : List Frame} (line : ℕ) → indexed (find x (scope_of ds g)) line ≡ None → slice_get code p ≡ Some (loads_at (cells_of ds) (function_names ds) (cell_of (cells_of ds) x)) → Does n g (suc h) k (p + 1) fs → Does n g (suc h) (load_at x ∷ k) p fs
      does_store_at : {n h p : ℕ} {g : Slots} {x : List ℕ} {k : List Task} {fs : List Frame} (line : ℕ) → indexed (find x (scope_of ds g)) line ≡ None → slice_get code p ≡ Some (stores_at (cells_of ds) (function_names ds) (cell_of (cells_of ds) x)) → Does n g h k (p + 1) fs → Does n g (suc (suc h)) (store_at x ∷ k) p fs
      does_show : {n h p : ℕ} {g : Slots} {k : List Task} {fs : List Frame} → slice_get code p ≡ Some instr.show → Does n g h k (p + 1) fs → Does n g (suc h) (show ∷ k) p fs
      does_choose : {n h p end : ℕ} {g : Slots} {a b : Block} {k : List Task} {fs : List Frame} → (w : Choice n p end g a b) → (w.inside ≡ around.Atomic → Shuts n g h k w.ending fs) → Does n g h k end fs → Does n g (suc h) (choose_by a b ∷ k) p fs
      does_test : {n h p : ℕ} {g : Slots} {e : Term} {b : Block} {k : List Task} {fs : List Frame} → (w : Loop n p g e b) → (w.inside ≡ around.Atomic → Shuts n g h k w.ending fs) → Does n g h k (p + length (statement_code (cells_of ds) (function_names ds) g p w.ending (repeat e b))) fs → Does n g h (test e b ∷ k) p fs
      does_repeat : {n h p q : ℕ} {g : Slots} {e : Term} {b : Block} {k : List Task} {fs : List Frame} → q ≡ p + 1 + length (term_code (cells_of ds) (function_names ds) g e) → (w : Loop n p g e b) → (w.inside ≡ around.Atomic → Shuts n g h k w.ending fs) → Does n g h k (p + length (statement_code (cells_of ds) (function_names ds) g p w.ending (repeat e b))) fs → Does n g (suc h) (repeat_by e b ∷ k) q fs
      -- a jump comes first
      does_there : {n h p q : ℕ} {g : Slots} {todo : List Task} {fs : List Frame} → slice_get code p ≡ Some (instr.jump q) → Does n g h todo q fs → Does n g h todo p fs
      does_forget : {n h p o : ℕ} {g : Slots} {k : List Task} {fs : List Frame} → Does n (drop (length g - o) g) h k p fs → Does n g h (forget o ∷ k) p fs
      does_wait : {n h p : ℕ} {g : Slots} {k : List Task} {fs : List Frame} → slice_get code p ≡ Some instr.wait → Does n g h k (p + 1) fs → Does n g h (wait ∷ k) p fs
      does_commit : {n h p : ℕ} {g : Slots} {k : List Task} {fs : List Frame} → slice_get code p ≡ Some instr.end → Does n g h k (p + 1) fs → Does n g h (commit ∷ k) p fs
      -- a cancel, and the jump behind it
      does_give_up : {n h p q : ℕ} {g : Slots} {k : List Task} {fs : List Frame} → slice_get code p ≡ Some instr.cancel → slice_get code (p + 1) ≡ Some (instr.jump q) → Shuts n g h k q fs → Does n g h (give_up ∷ k) p fs
      does_finish : {n p : ℕ} {g : Slots} → slice_get code p ≡ Some instr.done → Does n g 0 (finish ∷ []) p []
      -- the end of a function, and a return
      does_end : {n h p : ℕ} {g : Slots} {todo : List Task} {fs : List Frame} → slice_get code p ≡ Some instr.ret → Ending todo fs → Does n g (suc h) todo p fs
      does_leave : {n h p : ℕ} {g : Slots} {k : List Task} {fs : List Frame} → slice_get code p ≡ Some instr.ret → Ending (unwound k) fs → Does n g (suc h) (leave ∷ k) p fs

    -- The code at this place ends the innermost atomic block among these tasks, and does what comes behind it.
    pub data Shuts : ℕ → Slots → ℕ → List Task → ℕ → List Frame → Type 0 where
      shuts_perform : {n h q : ℕ} {g : Slots} {b : Block} {k : List Task} {fs : List Frame} → Shuts n g h k q fs → Shuts n g h (perform b ∷ k) q fs
      shuts_test : {n h q : ℕ} {g : Slots} {e : Term} {b : Block} {k : List Task} {fs : List Frame} → Shuts n g h k q fs → Shuts n g h (test e b ∷ k) q fs
      shuts_wait : {n h q : ℕ} {g : Slots} {k : List Task} {fs : List Frame} → Shuts n g h k q fs → Shuts n g h (wait ∷ k) q fs
      shuts_forget : {n h q o : ℕ} {g : Slots} {k : List Task} {fs : List Frame} → Shuts n (drop (length g - o) g) h k q fs → Shuts n g h (forget o ∷ k) q fs
      shuts_commit : {n h q : ℕ} {g : Slots} {k : List Task} {fs : List Frame} → slice_get code q ≡ Some instr.end → Does n g h k (q + 1) fs → Shuts n g h (commit ∷ k) q fs

    -- These tasks are done where a function has ended, with these callers.
    pub data Ending : List Task → List Frame → Type 0 where
      ends_main : Ending (finish_main ∷ []) []
      -- no program has a return in a left strand
      ends_left : Ending (finish ∷ []) []
      ends_call : {l : Locals} {vs : List ℤ} {k : List Task} {f : Frame} {fs : List Frame} (g : Slots) → Agree l g f.locals → vs ≡ f.operands → Does (length f.locals) g (suc (length vs)) k f.place fs → Ending (back_to l vs ∷ k) (f ∷ fs)

  mutual
    -- from anything that is to be done in a function the function's end follows
    pub unwinds : {n h p : ℕ} {g : Slots} {todo : List Task} {fs : List Frame} → Does n g h todo p fs → Ending (unwound todo) fs
    unwinds (does_value named has rest) = unwinds rest
    unwinds (does_lift is there rest) = unwinds rest
    unwinds (does_join is there rest) = unwinds rest
    unwinds (does_enter line named enough there rest) = unwinds rest
    unwinds (does_discard there rest) = unwinds rest
    unwinds (does_perform inside ending named room has shut rest) = unwinds rest
    unwinds (does_bind less there rest) = unwinds rest
    unwinds (does_store line named there rest) = unwinds rest
    unwinds (does_load_at line named there rest) = unwinds rest
    unwinds (does_store_at line named there rest) = unwinds rest
    unwinds (does_show there rest) = unwinds rest
    unwinds (does_choose w shut rest) = unwinds rest
    unwinds (does_test w shut rest) = unwinds rest
    unwinds (does_repeat is w shut rest) = unwinds rest
    unwinds (does_there there rest) = unwinds rest
    unwinds (does_forget rest) = unwinds rest
    unwinds (does_wait there rest) = unwinds rest
    unwinds (does_commit there rest) = unwinds rest
    unwinds (does_finish there) = ends_left
    unwinds (does_end there ends_main) = ends_main
    unwinds (does_end there ends_left) = ends_left
    unwinds (does_end there (ends_call g agree same rest)) = ends_call g agree same rest
    unwinds (does_leave there ending) = ending
    unwinds (does_give_up there jumps shut) = shut_unwinds shut

    shut_unwinds : {n h q : ℕ} {g : Slots} {k : List Task} {fs : List Frame} → Shuts n g h k q fs → Ending (unwound k) fs
    shut_unwinds (shuts_perform shut) = shut_unwinds shut
    shut_unwinds (shuts_test shut) = shut_unwinds shut
    shut_unwinds (shuts_wait shut) = shut_unwinds shut
    shut_unwinds (shuts_forget shut) = shut_unwinds shut
    shut_unwinds (shuts_commit there rest) = unwinds rest

  -- where a block is given up the code at its end does what is left
  pub shut_does : {n h q : ℕ} {g : Slots} {k : List Task} {fs : List Frame} → Shuts n g h k q fs → Does n g h (tasks_after_cancel k) q fs
  shut_does (shuts_perform shut) = shut_does shut
  shut_does (shuts_test shut) = shut_does shut
  shut_does (shuts_wait shut) = shut_does shut
  shut_does (shuts_forget shut) = does_forget (shut_does shut)
  shut_does (shuts_commit there rest) = does_commit there rest

  -- an operator of one operand, if there is one, lifts
  abbrev pub Lifts : Option Operator → Type 0
  Lifts None = Unit {0}
  Lifts (Some o) = effect_at (operator_number o) ≡ Some (effect.Lift o)

  pub lifted_lifts : (o : Op) → Lifts (lifted o)
  lifted_lifts op.Neg = refl
  lifted_lifts op.Not = refl
  lifted_lifts o = tt

  does_if_lifts : {n h p : ℕ} {g : Slots} {k : List Task} {fs : List Frame} (o : Option Operator) → Lifts o → HasAt code p (lift_code o) → Does n g (suc h) k (p + length (lift_code o)) fs → Does n g (suc h) (lifts o k) p fs
  does_if_lifts {n = n} {h = h} {p = p} {g = g} {k = k} {fs = fs} None is has rest = let e : p + 0 ≡ p = omega arith in subst (λ q. Does n g (suc h) k q fs) e rest
  does_if_lifts (Some o) is has rest = does_lift is has.0 rest

  pub does_lifts : {n h p : ℕ} {g : Slots} {k : List Task} {fs : List Frame} (o : Op) → HasAt code p (lift_code (lifted o)) → Does n g (suc h) k (p + length (lift_code (lifted o))) fs → Does n g (suc h) (lifts (lifted o) k) p fs
  does_lifts o has rest = does_if_lifts (lifted o) (lifted_lifts o) has rest

  -- an operator of two operands, if there is one, joins
  abbrev pub Joins : Option Operator → Type 0
  Joins None = Unit {0}
  Joins (Some o) = effect_at (operator_number o) ≡ Some (effect.Join o)

  pub joining_joins : (o : Op) → Joins (joining o)
  joining_joins op.Neg = tt
  joining_joins op.Not = tt
  joining_joins o = refl

  does_if_joins : {n h p : ℕ} {g : Slots} {k : List Task} {fs : List Frame} (o : Option Operator) → Joins o → slice_get code p ≡ Some (join_code o) → Does n g (suc h) k (p + 1) fs → Does n g (suc (suc h)) (joins_operands o k) p fs
  does_if_joins None is there rest = does_discard there rest
  does_if_joins (Some o) is there rest = does_join is there rest

  pub does_joins : {n h p : ℕ} {g : Slots} {k : List Task} {fs : List Frame} (o : Op) → slice_get code p ≡ Some (join_code (joining o)) → Does n g (suc h) k (p + 1) fs → Does n g (suc (suc h)) (joins_operands (joining o) k) p fs
  does_joins o there rest = does_if_joins (joining o) (joining_joins o) there rest

  -- the arguments of a call, one after another
  does_arguments : {n : ℕ} {g : Slots} {k : List Task} {fs : List Frame} (es : Terms) {h p : ℕ} → in_terms (scope_of ds g) es ≡ None → HasAt code p (terms_code (cells_of ds) (function_names ds) g es)
      → Does n g (h + count_of es) k (p + length (terms_code (cells_of ds) (function_names ds) g es)) fs → Does n g h (arguments es k) p fs
  does_arguments {n = n} {g = g} {k = k} {fs = fs} none {h = h} {p = p} named has rest =
      let count : h + 0 ≡ h = omega arith in
      let place : p + 0 ≡ p = omega arith in
      subst (λ q. Does n g h k q fs) place (subst (λ m. Does n g m k (p + 0) fs) count rest)
  does_arguments {n = n} {g = g} {k = k} {fs = fs} (more e es) {h = h} {p = p} named has rest =
      let a = term_code (cells_of ds) (function_names ds) g e in
      let b = terms_code (cells_of ds) (function_names ds) g es in
      let parts = no_fault (in_term (scope_of ds g) e) (in_terms (scope_of ds g) es) named in
      let count : h + suc (count_of es) ≡ suc h + count_of es = omega arith in
      let place : p + length (a ++ b) ≡ p + length a + length b = omega (arith, length-append a b) in
      let behind_it = subst (λ q. Does n g (suc h + count_of es) k q fs) place (subst (λ m. Does n g m k (p + length (a ++ b)) fs) count rest) in
      does_value parts.0 (front code p a b has) (does_arguments es parts.1 (behind code p a b has) behind_it)

  -- a call, from its arguments on
  pub does_call : {n h p : ℕ} {g : Slots} {k : List Task} {fs : List Frame} (x : List ℕ) (line : ℕ) (es : Terms) (is : List Instr) → fault_of_call (find x (scope_of ds g)) (count_of es) line ≡ None → in_terms (scope_of ds g) es ≡ None
      → HasAt code p (terms_code (cells_of ds) (function_names ds) g es ++ calls (cells_of ds) (function_names ds) x ∷ is) → Does n g (suc h) k (p + length (terms_code (cells_of ds) (function_names ds) g es) + 1) fs → Does n g h (arguments es (enter x (count_of es) ∷ k)) p fs
  does_call {n = n} {h = h} {p = p} {g = g} {k = k} {fs = fs} x line es is may named has rest =
      let a = terms_code (cells_of ds) (function_names ds) g es in
      let tail = calls (cells_of ds) (function_names ds) x ∷ is in
      let left : h ≡ h + count_of es - count_of es = omega arith in
      does_arguments es named (front code p a tail has) (does_enter line may (omega arith) (behind code p a tail has).0 (subst (λ m. Does n g (suc m) k (p + length a + 1) fs) left rest))
