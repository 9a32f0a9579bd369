-- Which tokens are a program, and where tokens that are no program go wrong first.
--
-- Tokens are read one by one. What may still come is a list of symbols of the grammar, the nearest first. A token takes
-- the nearest symbol that it may begin, if each symbol before that one may be empty. A token that the nearest symbol
-- does not allow is the first fault. What has been read is a list of values, the newest first. The symbol `act` makes a
-- tree of the newest ones. `expansion` is the grammar: the symbols that replace a symbol once a token was read.
use Rattle.std.specs.Prelude.{ℕ, zero, suc, ◌+◌, Bool, List, [], ◌∷◌, ◌++◌, Option, Some, None, Result, Ok, Err, if◌then◌else◌, nat_lt, ℤ, pos, neg_ℤ}
use Rattle.cw_text.specs.declared.ast.Op.{Op}
use Rattle.cw_text.specs.declared.ast.Op.TheVariants as op
use Rattle.cw_text.specs.declared.ast.Word.{Word}
use Rattle.cw_text.specs.declared.fault.TextKind.{TextKind}
use Rattle.cw_text.specs.declared.fault.TextKind.TheVariants.{BadNumber, Unexpected, TooDeep}
use Rattle.cw_text.specs.declared.fault.TextFault.{TextFault}
use Rattle.cw_text.specs.declared.terminal.Terminal.{Terminal}
use Rattle.cw_text.specs.declared.terminal.Terminal.TheVariants as m
use Rattle.cw_text.specs.Syntax.{Term, number, name, at, call, unary, binary, Terms, none, Statement, declare, assign, assign_at, run, out, choose, repeat, atomic, spawn, sync, cancel, return, Block, empty, Declaration, cell, func, with_term, with_statement, height}
use Rattle.cw_text.specs.Lexemes.{Token, Lexemes, end_on, comes, name as a_name, number as a_number, terminal, bad, end, spelling}
use Rattle.std.specs.Str.{bytes_eq}

-- what has been read
pub data Value : Type 0 where
  a_word : Word → Value
  a_size : ℕ → Value
  an_init : ℤ → Value
  some_words : List Word → Value
  a_line : ℕ → Value
  a_term : Term → Value
  some_terms : Terms → Value
  a_block : Block → Value
  declared : List Declaration → Value

abbrev pub Values : Type 0
Values = List Value

-- what may still come
pub data Symbol : Type 0 where
  items cell_size size cell_init init negated params more_params : Symbol
  block stmts assignment otherwise : Symbol
  expr operand products sums comparison args more_args : Symbol
  -- what may follow a name in an expression, with the line of the name
  brackets : ℕ → Symbol
  word : Symbol
  exactly : Terminal → Symbol
  -- the end of a bracket
  closing : Terminal → Symbol
  -- makes a tree of the newest values
  act : (Values → Values) → Symbol
  -- the end of the operand of this unary operator, which is on this line
  lifted : Op → ℕ → Symbol
  -- the end of an expression, where its height is checked; the line is that of its operator, or of the name of its element or call
  read_from : ℕ → Symbol

-- a token begins these symbols, or none of them is there, or the token is not allowed here
pub data Next : Type 0 where
  take : List Symbol → Next
  skip : Next
  refuse : TextKind → Next

-- ## What is made of the values

abbrev pub push : Value → Values → Values
push v vs = v ∷ vs

abbrev pub without_newest : Values → Values
without_newest [] = []
without_newest (v ∷ vs) = vs

abbrev pub with_size : ℕ → Values → Values
with_size n (a_size z ∷ vs) = a_size n ∷ vs
with_size n vs = vs

abbrev pub with_init : ℤ → Values → Values
with_init n (an_init z ∷ vs) = an_init n ∷ vs
with_init n vs = vs

abbrev pub cell_done : Values → Values
cell_done (an_init i ∷ a_size n ∷ a_word w ∷ declared ds ∷ vs) = declared (ds ++ cell w.name w.line n i ∷ []) ∷ vs
cell_done vs = vs

abbrev pub param_done : Values → Values
param_done (a_word w ∷ some_words ws ∷ vs) = some_words (ws ++ w ∷ []) ∷ vs
param_done vs = vs

abbrev pub func_done : Values → Values
func_done (a_block b ∷ some_words ps ∷ a_word w ∷ declared ds ∷ vs) = declared (ds ++ func w.name w.line ps b ∷ []) ∷ vs
func_done vs = vs

-- adds a statement to the block that is open
abbrev pub stated : Statement → Values → Values
stated s (a_block b ∷ vs) = a_block (with_statement b s) ∷ vs
stated s vs = vs

abbrev pub let_done : Values → Values
let_done (a_term e ∷ a_word w ∷ vs) = stated (declare w e) vs
let_done vs = vs

abbrev pub assign_done : Values → Values
assign_done (a_term e ∷ a_word w ∷ vs) = stated (assign w e) vs
assign_done vs = vs

abbrev pub assign_at_done : Values → Values
assign_at_done (a_term e ∷ a_term i ∷ a_word w ∷ vs) = stated (assign_at w i e) vs
assign_at_done vs = vs

abbrev pub run_done : Values → Values
run_done (some_terms es ∷ a_word w ∷ vs) = stated (run w es) vs
run_done vs = vs

abbrev pub out_done : Values → Values
out_done (a_term e ∷ vs) = stated (out e) vs
out_done vs = vs

abbrev pub choose_done : Values → Values
choose_done (a_block b ∷ a_block a ∷ a_term e ∷ vs) = stated (choose e a b) vs
choose_done vs = vs

abbrev pub repeat_done : Values → Values
repeat_done (a_block b ∷ a_term e ∷ vs) = stated (repeat e b) vs
repeat_done vs = vs

abbrev pub atomic_done : Values → Values
atomic_done (a_block b ∷ vs) = stated (atomic b) vs
atomic_done vs = vs

abbrev pub spawn_done : Values → Values
spawn_done (a_block b ∷ vs) = stated (spawn b) vs
spawn_done vs = vs

abbrev pub sync_done : Values → Values
sync_done vs = stated sync vs

abbrev pub cancel_done : Values → Values
cancel_done (a_line l ∷ vs) = stated (cancel l) vs
cancel_done vs = vs

abbrev pub return_done : Values → Values
return_done (a_term e ∷ a_line l ∷ vs) = stated (return l e) vs
return_done vs = vs

abbrev pub lift : Op → Values → Values
lift o (a_term e ∷ vs) = a_term (unary o e) ∷ vs
lift o vs = vs

abbrev pub join : Op → Values → Values
join o (a_term r ∷ a_term l ∷ vs) = a_term (binary o l r) ∷ vs
join o vs = vs

abbrev pub index_done : Values → Values
index_done (a_term i ∷ a_term (name w) ∷ vs) = a_term (at w i) ∷ vs
index_done vs = vs

abbrev pub arg_done : Values → Values
arg_done (a_term e ∷ some_terms es ∷ vs) = some_terms (with_term es e) ∷ vs
arg_done vs = vs

abbrev pub call_done : Values → Values
call_done (some_terms es ∷ a_term (name w) ∷ vs) = a_term (call w es) ∷ vs
call_done vs = vs

abbrev pub newest_height : Values → ℕ
newest_height (a_term e ∷ vs) = height e
newest_height vs = 0

-- ## The grammar

abbrev pub same_terminal : Terminal → Terminal → Bool
same_terminal a b = bytes_eq (spelling a) (spelling b)

abbrev pub word_at : List ℕ → ℕ → Word
word_at n l = record { name = n; line = l }

-- a bad token is refused as what it is, every other token as unexpected
abbrev pub why : Token → TextKind
why (bad k) = k
why t = Unexpected

-- the fault of the next token, which is not allowed here
abbrev pub fault_at : Lexemes → TextFault
fault_at (end_on l) = record { kind = Unexpected; line = l }
fault_at (comes t l xs) = record { kind = why t; line = l }

-- takes the terminal a, and nothing else
abbrev pub only : Terminal → Terminal → Next
only a b = if same_terminal a b then take [] else refuse Unexpected

-- the operators of each kind
abbrev pub prefix_of : Terminal → Option Op
prefix_of m.Minus = Some op.Neg
prefix_of m.Bang = Some op.Not
prefix_of a = None

abbrev pub product_of : Terminal → Option Op
product_of m.Star = Some op.Mul
product_of m.Slash = Some op.Div
product_of m.Percent = Some op.Rem
product_of a = None

abbrev pub sum_of : Terminal → Option Op
sum_of m.Plus = Some op.Add
sum_of m.Minus = Some op.Sub
sum_of a = None

abbrev pub comparison_of : Terminal → Option Op
comparison_of m.EqEq = Some op.Eq
comparison_of m.BangEq = Some op.Ne
comparison_of m.Less = Some op.Lt
comparison_of m.LessEq = Some op.Le
comparison_of m.Greater = Some op.Gt
comparison_of m.GreaterEq = Some op.Ge
comparison_of a = None

-- an operator between two operands: the symbols of its right side, and those that may follow
abbrev pub infix_by : Option Op → (right following : List Symbol) → ℕ → Next
infix_by None right following l = skip
infix_by (Some o) right following l = take (operand ∷ right ++ act (join o) ∷ read_from l ∷ following)

abbrev pub prefix_by : Option Op → List Symbol → ℕ → Next
prefix_by None k l = refuse Unexpected
prefix_by (Some o) k l = take (operand ∷ lifted o l ∷ k)

-- what may follow an operand in an expression
abbrev pub rest_of_expr : List Symbol
rest_of_expr = products ∷ sums ∷ comparison ∷ []

-- how an operand begins, with the symbols that follow it
abbrev pub operand_by : List Symbol → Token → ℕ → Next
operand_by k (a_number n) l = take (act (push (a_term (number (pos n)))) ∷ k)
operand_by k (a_name n) l = take (act (push (a_term (name (word_at n l)))) ∷ brackets l ∷ k)
operand_by k (terminal m.ParenOpen) l = take (expr ∷ closing m.ParenClose ∷ k)
operand_by k (terminal a) l = prefix_by (prefix_of a) k l
operand_by k t l = refuse (why t)

abbrev pub expansion : Symbol → Token → ℕ → Next
expansion word (a_name n) l = take (act (push (a_word (word_at n l))) ∷ [])
expansion word t l = refuse (why t)
expansion (exactly a) (terminal b) l = only a b
expansion (exactly a) t l = refuse (why t)
expansion (closing a) (terminal b) l = only a b
expansion (closing a) t l = refuse (why t)
expansion items (terminal m.Cell) l = take (word ∷ act (push (a_size 0)) ∷ cell_size ∷ act (push (an_init (pos 0))) ∷ cell_init ∷ exactly m.Semicolon ∷ act cell_done ∷ items ∷ [])
expansion items (terminal m.Fn) l = take (word ∷ exactly m.ParenOpen ∷ act (push (some_words [])) ∷ params ∷ closing m.ParenClose ∷ block ∷ act func_done ∷ items ∷ [])
expansion items end l = take []
expansion items t l = refuse (why t)
expansion cell_size (terminal m.SquareOpen) l = take (size ∷ closing m.SquareClose ∷ [])
expansion cell_size t l = skip
-- an array has at least one element
expansion size (a_number zero) l = refuse BadNumber
expansion size (a_number (suc n)) l = take (act (with_size (suc n)) ∷ [])
expansion size t l = refuse (why t)
expansion cell_init (terminal m.Assign) l = take (init ∷ [])
expansion cell_init t l = skip
expansion init (terminal m.Minus) l = take (negated ∷ [])
expansion init (a_number n) l = take (act (with_init (pos n)) ∷ [])
expansion init t l = refuse (why t)
expansion negated (a_number n) l = take (act (with_init (neg_ℤ (pos n))) ∷ [])
expansion negated t l = refuse (why t)
expansion params (a_name n) l = take (act (push (a_word (word_at n l))) ∷ act param_done ∷ more_params ∷ [])
expansion params t l = skip
expansion more_params (terminal m.Comma) l = take (word ∷ act param_done ∷ more_params ∷ [])
expansion more_params t l = skip
expansion block (terminal m.BraceOpen) l = take (act (push (a_block empty)) ∷ stmts ∷ closing m.BraceClose ∷ [])
expansion block t l = refuse (why t)
expansion stmts (terminal m.Let) l = take (word ∷ exactly m.Assign ∷ expr ∷ exactly m.Semicolon ∷ act let_done ∷ stmts ∷ [])
expansion stmts (terminal m.Out) l = take (expr ∷ exactly m.Semicolon ∷ act out_done ∷ stmts ∷ [])
expansion stmts (a_name n) l = take (act (push (a_word (word_at n l))) ∷ assignment ∷ stmts ∷ [])
expansion stmts (terminal m.If) l = take (expr ∷ block ∷ act (push (a_block empty)) ∷ otherwise ∷ act choose_done ∷ stmts ∷ [])
expansion stmts (terminal m.While) l = take (expr ∷ block ∷ act repeat_done ∷ stmts ∷ [])
expansion stmts (terminal m.Atomic) l = take (block ∷ act atomic_done ∷ stmts ∷ [])
expansion stmts (terminal m.Spawn) l = take (block ∷ act spawn_done ∷ stmts ∷ [])
expansion stmts (terminal m.Sync) l = take (exactly m.Semicolon ∷ act sync_done ∷ stmts ∷ [])
expansion stmts (terminal m.Cancel) l = take (act (push (a_line l)) ∷ exactly m.Semicolon ∷ act cancel_done ∷ stmts ∷ [])
expansion stmts (terminal m.Return) l = take (act (push (a_line l)) ∷ expr ∷ exactly m.Semicolon ∷ act return_done ∷ stmts ∷ [])
expansion stmts t l = skip
-- without an `else` the empty block that was pushed stays
expansion otherwise (terminal m.Else) l = take (act without_newest ∷ block ∷ [])
expansion otherwise t l = skip
expansion assignment (terminal m.Assign) l = take (expr ∷ exactly m.Semicolon ∷ act assign_done ∷ [])
expansion assignment (terminal m.SquareOpen) l = take (expr ∷ closing m.SquareClose ∷ exactly m.Assign ∷ expr ∷ exactly m.Semicolon ∷ act assign_at_done ∷ [])
expansion assignment (terminal m.ParenOpen) l = take (act (push (some_terms none)) ∷ args ∷ closing m.ParenClose ∷ exactly m.Semicolon ∷ act run_done ∷ [])
expansion assignment t l = refuse (why t)
expansion expr t l = operand_by rest_of_expr t l
expansion operand t l = operand_by [] t l
expansion products (terminal a) l = infix_by (product_of a) [] (products ∷ []) l
expansion products t l = skip
expansion sums (terminal a) l = infix_by (sum_of a) (products ∷ []) (sums ∷ []) l
expansion sums t l = skip
expansion comparison (terminal a) l = infix_by (comparison_of a) (products ∷ sums ∷ []) [] l
expansion comparison t l = skip
expansion (brackets n) (terminal m.SquareOpen) l = take (expr ∷ closing m.SquareClose ∷ act index_done ∷ read_from n ∷ [])
expansion (brackets n) (terminal m.ParenOpen) l = take (act (push (some_terms none)) ∷ args ∷ closing m.ParenClose ∷ act call_done ∷ read_from n ∷ [])
expansion (brackets n) t l = skip
expansion args (terminal m.ParenClose) l = skip
expansion args t l = operand_by (rest_of_expr ++ act arg_done ∷ more_args ∷ []) t l
expansion more_args (terminal m.Comma) l = take (expr ∷ act arg_done ∷ more_args ∷ [])
expansion more_args t l = skip
expansion (act f) t l = skip
expansion (lifted o k) t l = skip
expansion (read_from k) t l = skip

-- ## Reading

-- how many brackets and unary operators are open
abbrev pub pending : List Symbol → ℕ
pending [] = 0
pending (closing a ∷ k) = pending k + 1
pending (lifted o l ∷ k) = pending k + 1
pending (s ∷ k) = pending k

abbrev pub text_fault : TextKind → ℕ → {A : Type 0} → Result A TextFault
text_fault k l = Err (record { kind = k; line = l })

abbrev pub ReadingState : Type 0
ReadingState = List Symbol × Values

-- refuses more than 200 open brackets and unary operators
abbrev pub opened : List Symbol → Values → ℕ → Result ReadingState TextFault
opened k vs l = if nat_lt 200 (pending k) then text_fault TooDeep l else Ok (k, vs)

-- what a symbol makes of a token; `rest` is what the symbols after it make of it
abbrev pub go_on : Next → List Symbol → Values → ℕ → Result ReadingState TextFault → Result ReadingState TextFault
go_on (take ss) k vs l rest = opened (ss ++ k) vs l
go_on skip k vs l rest = rest
go_on (refuse why) k vs l rest = text_fault why l

-- Feeds one token. The height of an expression is checked as soon as a token shows that the expression is over.
abbrev pub feed : List Symbol → Values → Token → ℕ → Result ReadingState TextFault
feed [] vs t l = text_fault (why t) l
feed (act f ∷ k) vs t l = feed k (f vs) t l
feed (lifted o begun ∷ k) vs t l = if nat_lt 200 (newest_height (lift o vs)) then text_fault TooDeep begun else feed k (lift o vs) t l
feed (read_from begun ∷ k) vs t l = if nat_lt 200 (newest_height vs) then text_fault TooDeep begun else feed k vs t l
feed (s ∷ k) vs t l = let rest = feed k vs t l in go_on (expansion s t l) k vs l rest

abbrev pub then_read : Result ReadingState TextFault → (List Symbol → Values → Result Values TextFault) → Result Values TextFault
then_read (Ok s) go = go s.0 s.1
then_read (Err e) go = Err e

-- reads all tokens of a text
abbrev pub read : List Symbol → Values → Lexemes → Result Values TextFault
read k vs (end_on l) = then_read (feed k vs end l) (λ k' vs'. Ok vs')
read k vs (comes t l xs) = then_read (feed k vs t l) (λ k' vs'. read k' vs' xs)

abbrev pub program_in : Result Values TextFault → Result (List Declaration) TextFault
program_in (Ok (declared ds ∷ vs)) = Ok ds
program_in (Ok vs) = Ok []
program_in (Err e) = Err e

-- the program that the tokens spell, or their first fault
abbrev pub program_of : Lexemes → Result (List Declaration) TextFault
program_of xs = program_in (read (items ∷ []) (declared [] ∷ []) xs)
