-- The tokens that a tree is printed as, and which trees can be read from their tokens.
use Rattle.std.specs.Prelude.{ℕ, zero, suc, ◌+◌, ◌^◌, ◌<◌, ◌≤◌, max, ◌≡◌, ◌==◌, Bool, true, false, List, [], ◌∷◌, ◌++◌, codes, if◌then◌else◌, nat_lt, ℤ, pos, negsuc, nat_abs, All}
use Rattle.std.specs.List.{flat_map}
use Rattle.cw_text.specs.declared.ast.Op.{Op}
use Rattle.cw_text.specs.declared.ast.Op.TheVariants as op
use Rattle.cw_text.specs.declared.ast.Word.{Word}
use Rattle.cw_text.specs.declared.terminal.Terminal.{Terminal}
use Rattle.cw_text.specs.declared.terminal.Terminal.TheVariants as m
use Rattle.cw_text.specs.Syntax.{Term, number, name, at, call, unary, binary, Terms, none, more, Statement, declare, assign, assign_at, run, out, choose, repeat, atomic, spawn, sync, cancel, return, Block, empty, first, Declaration, cell, func, height, height_of_all}
use Rattle.cw_text.specs.Lexemes.{Token, Lexemes, end_on, comes, name as a_name, number as a_number, terminal}

-- a token and its line
abbrev pub Placed : Type 0
Placed = Token × ℕ

-- the tokens ps, and the tokens xs behind them
abbrev pub tokens_before : List Placed → Lexemes → Lexemes
tokens_before [] xs = xs
tokens_before (p ∷ ps) xs = comes p.0 p.1 (tokens_before ps xs)

-- The tree has the lines of its names, of `cancel` and of `return`. Every other token is put on line 1.
abbrev pub name_on_line : List ℕ → ℕ → List Placed
name_on_line n l = (a_name n, l) ∷ []

abbrev pub word_tokens : Word → List Placed
word_tokens w = name_on_line w.name w.line

abbrev pub sign : Terminal → List Placed
sign a = (terminal a, 1) ∷ []

abbrev pub number_tokens : ℤ → List Placed
number_tokens (pos n) = (a_number n, 1) ∷ []
number_tokens (negsuc n) = sign m.Minus ++ (a_number (suc n), 1) ∷ []

-- ## Expressions

abbrev pub terminal_of : Op → Terminal
terminal_of op.Add = m.Plus
terminal_of op.Sub = m.Minus
terminal_of op.Mul = m.Star
terminal_of op.Div = m.Slash
terminal_of op.Rem = m.Percent
terminal_of op.Neg = m.Minus
terminal_of op.Not = m.Bang
terminal_of op.Eq = m.EqEq
terminal_of op.Ne = m.BangEq
terminal_of op.Lt = m.Less
terminal_of op.Le = m.LessEq
terminal_of op.Gt = m.Greater
terminal_of op.Ge = m.GreaterEq

-- how tightly an operator binds: a comparison 0, a sum 1, a product 2, a unary operator 3
abbrev pub tightness : Op → ℕ
tightness op.Add = 1
tightness op.Sub = 1
tightness op.Mul = 2
tightness op.Div = 2
tightness op.Rem = 2
tightness op.Neg = 3
tightness op.Not = 3
tightness o = 0

-- The tightness that an operator wants of its operands: sums and products group to the left, comparisons do not chain.
abbrev pub of_left : Op → ℕ
of_left o = max 1 (tightness o)

abbrev pub of_right : Op → ℕ
of_right o = tightness o + 1

abbrev pub in_parens : List Placed → List Placed
in_parens ps = sign m.ParenOpen ++ ps ++ sign m.ParenClose

abbrev pub bracketed : Bool → List Placed → List Placed
bracketed true ps = in_parens ps
bracketed false ps = ps

abbrev pub in_squares : List Placed → List Placed
in_squares ps = sign m.SquareOpen ++ ps ++ sign m.SquareClose

abbrev mutual
  -- an expression from which the tightness n is wanted
  pub term_tokens : ℕ → Term → List Placed
  term_tokens n (number z) = number_tokens z
  term_tokens n (name w) = word_tokens w
  term_tokens n (at w i) = word_tokens w ++ in_squares (term_tokens 0 i)
  term_tokens n (call w es) = word_tokens w ++ in_parens (terms_tokens es)
  term_tokens n (unary o e) = sign (terminal_of o) ++ term_tokens 3 e
  term_tokens n (binary o l r) = bracketed (nat_lt (tightness o) n) (term_tokens (of_left o) l ++ sign (terminal_of o) ++ term_tokens (of_right o) r)

  -- the arguments of a call, with commas between them
  pub terms_tokens : Terms → List Placed
  terms_tokens none = []
  terms_tokens (more e es) = term_tokens 0 e ++ more_terms_tokens es

  pub more_terms_tokens : Terms → List Placed
  more_terms_tokens none = []
  more_terms_tokens (more e es) = sign m.Comma ++ term_tokens 0 e ++ more_terms_tokens es

-- ## Statements and items

abbrev pub in_braces : List Placed → List Placed
in_braces ps = sign m.BraceOpen ++ ps ++ sign m.BraceClose

-- a value that is assigned, up to the end of its statement
abbrev pub value_tokens : Term → List Placed
value_tokens e = sign m.Assign ++ term_tokens 0 e ++ sign m.Semicolon

abbrev mutual
  pub statement_tokens : Statement → List Placed
  statement_tokens (declare w e) = sign m.Let ++ word_tokens w ++ value_tokens e
  statement_tokens (assign w e) = word_tokens w ++ value_tokens e
  statement_tokens (assign_at w i e) = word_tokens w ++ in_squares (term_tokens 0 i) ++ value_tokens e
  statement_tokens (run w es) = word_tokens w ++ in_parens (terms_tokens es) ++ sign m.Semicolon
  statement_tokens (out e) = sign m.Out ++ term_tokens 0 e ++ sign m.Semicolon
  statement_tokens (choose e a b) = sign m.If ++ term_tokens 0 e ++ in_braces (statements_tokens a) ++ else_tokens b
  statement_tokens (repeat e b) = sign m.While ++ term_tokens 0 e ++ in_braces (statements_tokens b)
  statement_tokens (atomic b) = sign m.Atomic ++ in_braces (statements_tokens b)
  statement_tokens (spawn b) = sign m.Spawn ++ in_braces (statements_tokens b)
  statement_tokens sync = sign m.Sync ++ sign m.Semicolon
  statement_tokens (cancel l) = (terminal m.Cancel, l) ∷ sign m.Semicolon
  statement_tokens (return l e) = (terminal m.Return, l) ∷ term_tokens 0 e ++ sign m.Semicolon

  pub statements_tokens : Block → List Placed
  statements_tokens empty = []
  statements_tokens (first s b) = statement_tokens s ++ statements_tokens b

  -- an `else` without statements is left out
  pub else_tokens : Block → List Placed
  else_tokens empty = []
  else_tokens (first s b) = sign m.Else ++ in_braces (statement_tokens s ++ statements_tokens b)

-- a plain cell has no size
abbrev pub size_tokens : ℕ → List Placed
size_tokens zero = []
size_tokens (suc n) = in_squares (number_tokens (pos (suc n)))

-- an initial value 0 is left out
abbrev pub init_tokens : ℤ → List Placed
init_tokens (pos zero) = []
init_tokens z = sign m.Assign ++ number_tokens z

-- names, with commas between them
abbrev pub words_tokens : List Word → List Placed
words_tokens [] = []
words_tokens (w ∷ ws) = word_tokens w ++ flat_map (λ w. sign m.Comma ++ word_tokens w) ws

abbrev pub declaration_tokens : Declaration → List Placed
declaration_tokens (cell n l len z) = sign m.Cell ++ name_on_line n l ++ size_tokens len ++ init_tokens z ++ sign m.Semicolon
declaration_tokens (func n l ps b) = sign m.Fn ++ name_on_line n l ++ in_parens (words_tokens ps) ++ in_braces (statements_tokens b)

abbrev pub tokens : List Declaration → List Placed
tokens ds = flat_map declaration_tokens ds

-- Language 1 is not printed.
abbrev pub heading_tokens : (language : ℕ) → List Placed
heading_tokens language = if language == 2 then name_on_line (codes "language") 1 ++ (a_number 2, 1) ∷ sign m.Semicolon else []

-- a program, which ends on line 1
abbrev pub printed : List Declaration → Lexemes
printed ds = tokens_before (tokens ds) (end_on 1)

-- ## What can be read

-- Each number can be a number of a text, and each operator has as many operands as it takes.
abbrev mutual
  pub IsWellFormed : Term → Type 0
  IsWellFormed (number (pos n)) = n < 2 ^ 63
  IsWellFormed (number (negsuc n)) = ⊥
  IsWellFormed (name w) = Unit {0}
  IsWellFormed (at w i) = IsWellFormed i
  IsWellFormed (call w es) = AreWellFormed es
  IsWellFormed (unary o e) = (tightness o ≡ 3) × IsWellFormed e
  IsWellFormed (binary o l r) = (tightness o < 3) × IsWellFormed l × IsWellFormed r

  pub AreWellFormed : Terms → Type 0
  AreWellFormed none = Unit {0}
  AreWellFormed (more e es) = IsWellFormed e × AreWellFormed es

-- the most brackets and unary operators that are open at one place of an expression's tokens
abbrev mutual
  pub most_open : ℕ → Term → ℕ
  most_open n (number z) = 0
  most_open n (name w) = 0
  most_open n (at w i) = most_open 0 i + 1
  most_open n (call w es) = most_open_of_all es + 1
  most_open n (unary o e) = most_open 3 e + 1
  most_open n (binary o l r) = max (most_open (of_left o) l) (most_open (of_right o) r) + (if nat_lt (tightness o) n then 1 else 0)

  pub most_open_of_all : Terms → ℕ
  most_open_of_all none = 0
  most_open_of_all (more e es) = max (most_open 0 e) (most_open_of_all es)

-- an expression whose tokens can be read inside `around` open brackets
pub record IsReadableTerm (around : ℕ) (e : Term) : Type 0 where
  pub formed : IsWellFormed e
  pub low : height e ≤ 200
  pub shallow : most_open 0 e + around ≤ 200

-- The bracket of the arguments is among those around them. A call has no height of its own if it is a statement.
pub record AreReadableTerms (around : ℕ) (es : Terms) : Type 0 where
  pub formed : AreWellFormed es
  pub low : height_of_all es ≤ 200
  pub shallow : most_open_of_all es + around ≤ 200

-- a statement and the statements of a block, inside `around` open brackets
abbrev mutual
  pub IsReadableStatement : (around : ℕ) → Statement → Type 0
  IsReadableStatement n (declare w e) = IsReadableTerm n e
  IsReadableStatement n (assign w e) = IsReadableTerm n e
  IsReadableStatement n (assign_at w i e) = IsReadableTerm (n + 1) i × IsReadableTerm n e
  IsReadableStatement n (run w es) = AreReadableTerms (n + 1) es
  IsReadableStatement n (out e) = IsReadableTerm n e
  IsReadableStatement n (choose e a b) = IsReadableTerm n e × (n < 200) × IsReadableBlock (n + 1) a × IsReadableBlock (n + 1) b
  IsReadableStatement n (repeat e b) = IsReadableTerm n e × (n < 200) × IsReadableBlock (n + 1) b
  IsReadableStatement n (atomic b) = (n < 200) × IsReadableBlock (n + 1) b
  IsReadableStatement n (spawn b) = (n < 200) × IsReadableBlock (n + 1) b
  IsReadableStatement n sync = Unit {0}
  IsReadableStatement n (cancel l) = Unit {0}
  IsReadableStatement n (return l e) = IsReadableTerm n e

  pub IsReadableBlock : (around : ℕ) → Block → Type 0
  IsReadableBlock n empty = Unit {0}
  IsReadableBlock n (first s b) = IsReadableStatement n s × IsReadableBlock n b

abbrev pub IsReadableDeclaration : Declaration → Type 0
IsReadableDeclaration (cell n l len z) = (len < 2 ^ 63) × (nat_abs z < 2 ^ 63)
IsReadableDeclaration (func n l ps b) = IsReadableBlock 1 b

abbrev pub IsReadable : List Declaration → Type 0
IsReadable ds = All IsReadableDeclaration ds

-- Numbers are less than 2 ^ 63, as in the tokens of a text.
abbrev pub HasSmallNumbers : Lexemes → Type 0
HasSmallNumbers (end_on l) = Unit {0}
HasSmallNumbers (comes (a_number n) l xs) = (n < 2 ^ 63) × HasSmallNumbers xs
HasSmallNumbers (comes t l xs) = HasSmallNumbers xs

-- the same tokens, with line 1 for those whose lines a tree does not have
abbrev pub only_tree_lines : Lexemes → Lexemes
only_tree_lines (end_on l) = end_on 1
only_tree_lines (comes (a_name n) l xs) = comes (a_name n) l (only_tree_lines xs)
only_tree_lines (comes (terminal m.Cancel) l xs) = comes (terminal m.Cancel) l (only_tree_lines xs)
only_tree_lines (comes (terminal m.Return) l xs) = comes (terminal m.Return) l (only_tree_lines xs)
only_tree_lines (comes t l xs) = comes t 1 (only_tree_lines xs)
