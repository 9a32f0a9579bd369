-- The code of a program, one function of its tree after another.
--
-- Each statement except a loop starts with a tick, and so does the test of a loop, to which the jump at the loop's end
-- leads back. The arguments of a call are operands, the last one the newest, and its value replaces them. The functions
-- follow each other in the order of the text. The parameters are the first locals. A `let` takes as its number the
-- number of locals that are visible there, so the numbers of a block that has ended are used again.
use Rattle.std.specs.Prelude.{ℕ, ◌+◌, List, [], ◌∷◌, ◌++◌, length, max, Option, Some, None, if◌then◌else◌, codes, pos}
use Rattle.std.specs.Str.{bytes_eq}
use Rattle.cw_text.specs.declared.ast.Word.{Word}
use Rattle.cw_text.specs.Syntax.{Term, number, name, at, call as call_of, unary, binary, Terms, none, more, Statement, declare, assign, assign_at, run, out, choose, repeat, atomic, spawn, sync, cancel as cancel_of, return, Block, empty, first, Declaration, cell, func}
use Rattle.cw_code.specs.declared.CellInfo.{CellInfo}
use Rattle.cw_code.specs.declared.instruction.Instr.{Instr}
use Rattle.cw_code.specs.declared.instruction.Func.{Func}
use Rattle.cw_code.specs.declared.instruction.Code.{Code}
use Rattle.cw_code.specs.declared.effects.Operator.{Operator}
use Rattle.cw_code.specs.declared.effects.Operator.TheVariants.{Add as add, Sub as sub, Mul as mul, Div as div, Rem as rem, Neg as neg, Not as logical_not, Eq as eq, Ne as ne, Lt as lt, Le as le, Gt as gt, Ge as ge}
pub use Rattle.cw_code.specs.Mnemonics.{plain, with_a, push, local, set, load, store, load_at, store_at, jump, jump_zero, call, ret, discard, show, begin, end, fork, wait, done, tick, cancel}
use Rattle.cw_strand.specs.Names.{elements, cells_of}
use Rattle.cw_strand.specs.Meaning.{element_of, cell_of, lifted, joining}

-- the number of an operator's instruction
abbrev pub operator_number : Operator → ℕ
operator_number add = 8
operator_number sub = 9
operator_number mul = 10
operator_number div = 11
operator_number rem = 12
operator_number neg = 13
operator_number logical_not = 14
operator_number eq = 15
operator_number ne = 16
operator_number lt = 17
operator_number le = 18
operator_number gt = 19
operator_number ge = 20

-- the instruction of a unary operator; any other changes nothing
abbrev pub lift_code : Option Operator → List Instr
lift_code None = []
lift_code (Some o) = plain (operator_number o) ∷ []

-- the instruction of a binary operator; any other gives the first operand
abbrev pub join_code : Option Operator → Instr
join_code None = discard
join_code (Some o) = plain (operator_number o)

-- ## Names

-- the names of the visible locals, the newest first; the oldest has number 0
abbrev pub Slots : Type 0
Slots = List (List ℕ)

abbrev pub slot_of : Slots → List ℕ → Option ℕ
slot_of [] n = None
slot_of (x ∷ xs) n = if bytes_eq n x then Some (length xs) else slot_of xs n

abbrev pub slots_with_params : List Word → Slots → Slots
slots_with_params [] g = g
slots_with_params (w ∷ ws) g = slots_with_params ws (w.name ∷ g)

abbrev pub slots_after : Statement → Slots → Slots
slots_after (declare w e) g = w.name ∷ g
slots_after s g = g

-- the number of an element, or 0 if there is none
abbrev pub element : Option ℕ → ℕ
element None = 0
element (Some c) = c

-- the names of the functions, in the order of the text
abbrev pub function_names : List Declaration → List (List ℕ)
function_names [] = []
function_names (cell x l len i ∷ ds) = function_names ds
function_names (func x l ps b ∷ ds) = x ∷ function_names ds

-- the number of the function n, counted from k on; the number behind the last one if there is none
abbrev pub number_from : ℕ → List ℕ → List (List ℕ) → ℕ
number_from k n [] = k
number_from k n (x ∷ xs) = if bytes_eq x n then k else number_from (k + 1) n xs

-- ## Lengths

-- how long the code is, which does not depend on its place
abbrev mutual
  pub term_length : Term → ℕ
  term_length (number n) = 1
  term_length (name w) = 1
  term_length (at w i) = term_length i + 1
  term_length (call_of w es) = terms_length es + 1
  term_length (unary o e) = term_length e + length (lift_code (lifted o))
  term_length (binary o l r) = term_length l + term_length r + 1

  pub terms_length : Terms → ℕ
  terms_length none = 0
  terms_length (more e es) = term_length e + terms_length es

abbrev mutual
  pub statement_length : Statement → ℕ
  statement_length (declare w e) = term_length e + 2
  statement_length (assign w e) = term_length e + 2
  statement_length (assign_at w i e) = term_length i + term_length e + 2
  statement_length (run w es) = terms_length es + 3
  statement_length (out e) = term_length e + 2
  statement_length (choose e a b) = term_length e + block_length a + block_length b + 3
  statement_length (repeat e b) = term_length e + block_length b + 3
  statement_length (atomic b) = block_length b + 4
  statement_length (spawn b) = block_length b + 4
  statement_length sync = 2
  statement_length (cancel_of l) = 4
  statement_length (return l e) = term_length e + 3

  pub block_length : Block → ℕ
  block_length empty = 0
  block_length (first s b) = statement_length s + block_length b

-- ## Expressions and statements

module _ (cells : List CellInfo) (functions : List (List ℕ)) where
  abbrev pub reads : Option ℕ → List ℕ → Instr
  reads (Some n) x = local n
  reads None x = load (element (element_of cells x))

  abbrev pub writes : Option ℕ → List ℕ → Instr
  writes (Some n) x = set n
  writes None x = store (element (element_of cells x))

  abbrev pub loads_at : Option CellInfo → Instr
  loads_at None = load_at 0 0
  loads_at (Some c) = load_at c.base c.len

  abbrev pub stores_at : Option CellInfo → Instr
  stores_at None = store_at 0 0
  stores_at (Some c) = store_at c.base c.len

  abbrev pub calls : List ℕ → Instr
  calls n = call (number_from 0 n functions)

  abbrev mutual
    pub term_code : Slots → Term → List Instr
    term_code g (number n) = push n ∷ []
    term_code g (name w) = reads (slot_of g w.name) w.name ∷ []
    term_code g (at w i) = term_code g i ++ loads_at (cell_of cells w.name) ∷ []
    term_code g (call_of w es) = terms_code g es ++ calls w.name ∷ []
    term_code g (unary o e) = term_code g e ++ lift_code (lifted o)
    term_code g (binary o l r) = term_code g l ++ (term_code g r ++ join_code (joining o) ∷ [])

    -- the arguments of a call
    pub terms_code : Slots → Terms → List Instr
    terms_code g none = []
    terms_code g (more e es) = term_code g e ++ terms_code g es

  abbrev mutual
    -- the code of a statement whose first instruction is at the place p; the innermost atomic block of its function has
    -- its `end` at the place `ending`
    pub statement_code : Slots → (p ending : ℕ) → Statement → List Instr
    statement_code g p q (declare w e) = tick ∷ (term_code g e ++ set (length g) ∷ [])
    statement_code g p q (assign w e) = tick ∷ (term_code g e ++ writes (slot_of g w.name) w.name ∷ [])
    statement_code g p q (assign_at w i e) = tick ∷ (term_code g i ++ (term_code g e ++ stores_at (cell_of cells w.name) ∷ []))
    statement_code g p q (run w es) = tick ∷ (terms_code g es ++ (calls w.name ∷ discard ∷ []))
    statement_code g p q (out e) = tick ∷ (term_code g e ++ show ∷ [])
    statement_code g p q (choose e a b) =
        let test = term_code g e in
        let one = block_code g (p + 1 + length test + 1) q a in
        let past = p + 1 + length test + 1 + length one in
        let other = block_code g (past + 1) q b in
        tick ∷ (test ++ (jump_zero (past + 1) ∷ (one ++ (jump (past + 1 + length other) ∷ other))))
    statement_code g p q (repeat e b) =
        let test = term_code g e in
        let body = block_code g (p + 1 + length test + 1) q b in
        tick ∷ (test ++ (jump_zero (p + 1 + length test + 1 + length body + 1) ∷ (body ++ jump p ∷ [])))
    statement_code g p q (atomic b) = tick ∷ begin ∷ (block_code g (p + 1 + 1) (p + 1 + 1 + block_length b + 1) b ++ (wait ∷ end ∷ []))
    statement_code g p q (spawn b) =
        let body = block_code g (p + 1 + 1) q b in
        tick ∷ fork (p + 1 + 1 + length body + 1 + 1) ∷ (body ++ (wait ∷ done ∷ []))
    statement_code g p q sync = tick ∷ wait ∷ []
    statement_code g p q (cancel_of l) = tick ∷ wait ∷ cancel ∷ jump q ∷ []
    statement_code g p q (return l e) = tick ∷ (term_code g e ++ (wait ∷ ret ∷ []))

    pub block_code : Slots → (p ending : ℕ) → Block → List Instr
    block_code g p q empty = []
    block_code g p q (first s b) =
        let here = statement_code g p q s in here ++ block_code (slots_after s g) (p + length here) q b

  -- the function's value is 0 if it has no `return`
  abbrev pub function_code : ℕ → List Word → Block → List Instr
  function_code p params body = block_code (slots_with_params params []) p 0 body ++ (wait ∷ push (pos 0) ∷ ret ∷ [])

-- the most locals that are visible at once, if n are visible before
abbrev mutual
  pub most_in : ℕ → Statement → ℕ
  most_in n (declare w e) = n + 1
  most_in n (choose e a b) = max (most n a) (most n b)
  most_in n (repeat e b) = most n b
  most_in n (atomic b) = most n b
  most_in n (spawn b) = most n b
  most_in n s = n

  pub most : ℕ → Block → ℕ
  most n empty = n
  most n (first s b) = max (most_in n s) (most (visible_after s n) b)

  pub visible_after : Statement → ℕ → ℕ
  visible_after (declare w e) n = n + 1
  visible_after s n = n

-- ## Programs

module _ (cells : List CellInfo) (functions : List (List ℕ)) where
  -- the instructions of the functions from the place p on
  abbrev pub instrs_from : ℕ → List Declaration → List Instr
  instrs_from p [] = []
  instrs_from p (cell x l len i ∷ ds) = instrs_from p ds
  instrs_from p (func x l ps b ∷ ds) = let here = function_code cells functions p ps b in here ++ instrs_from (p + length here) ds

  abbrev pub funcs_from : ℕ → List Declaration → List Func
  funcs_from p [] = []
  funcs_from p (cell x l len i ∷ ds) = funcs_from p ds
  funcs_from p (func x l ps b ∷ ds) =
      let behind = p + length (function_code cells functions p ps b) in
      record { params = length ps; locals = most (length ps) b; start = p; end = behind } ∷ funcs_from behind ds

-- how many elements the cells have
abbrev pub elements_in : List Declaration → ℕ
elements_in [] = 0
elements_in (cell x l len i ∷ ds) = elements len + elements_in ds
elements_in (func x l ps b ∷ ds) = elements_in ds

abbrev pub code_of : List Declaration → Code
code_of ds = record {
  cells = elements_in ds;
  funcs = funcs_from (cells_of ds) (function_names ds) 0 ds;
  instrs = instrs_from (cells_of ds) (function_names ds) 0 ds;
}

-- the number of main
abbrev pub main_function : List Declaration → ℕ
main_function ds = number_from 0 (codes "main") (function_names ds)
