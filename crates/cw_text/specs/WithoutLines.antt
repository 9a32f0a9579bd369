-- Trees and tokens without their lines: each line is 1.
use Rattle.std.specs.Prelude.{◌≡◌, List, map, Result, Ok}
use Rattle.cw_text.specs.declared.ast.Word.{Word}
use Rattle.cw_text.specs.declared.fault.TextFault.{TextFault}
use Rattle.cw_text.specs.Lexemes.{Lexemes, end_on, comes}
use Rattle.cw_text.specs.Syntax.{Term, number, name, at, call, unary, binary, Terms, none, more, Statement, declare, assign, assign_at, run, out, choose, repeat, atomic, spawn, sync, cancel, return, Block, empty, first, Declaration, cell, func, Source}

abbrev pub word_without_line : Word → Word
word_without_line w = record w { line = 1 }

abbrev mutual
  pub term_without_lines : Term → Term
  term_without_lines (number z) = number z
  term_without_lines (name w) = name (word_without_line w)
  term_without_lines (at w i) = at (word_without_line w) (term_without_lines i)
  term_without_lines (call w es) = call (word_without_line w) (terms_without_lines es)
  term_without_lines (unary o e) = unary o (term_without_lines e)
  term_without_lines (binary o l r) = binary o (term_without_lines l) (term_without_lines r)

  pub terms_without_lines : Terms → Terms
  terms_without_lines none = none
  terms_without_lines (more e es) = more (term_without_lines e) (terms_without_lines es)

abbrev mutual
  pub statement_without_lines : Statement → Statement
  statement_without_lines (declare w e) = declare (word_without_line w) (term_without_lines e)
  statement_without_lines (assign w e) = assign (word_without_line w) (term_without_lines e)
  statement_without_lines (assign_at w i e) = assign_at (word_without_line w) (term_without_lines i) (term_without_lines e)
  statement_without_lines (run w es) = run (word_without_line w) (terms_without_lines es)
  statement_without_lines (out e) = out (term_without_lines e)
  statement_without_lines (choose e a b) = choose (term_without_lines e) (block_without_lines a) (block_without_lines b)
  statement_without_lines (repeat e b) = repeat (term_without_lines e) (block_without_lines b)
  statement_without_lines (atomic b) = atomic (block_without_lines b)
  statement_without_lines (spawn b) = spawn (block_without_lines b)
  statement_without_lines sync = sync
  statement_without_lines (cancel l) = cancel 1
  statement_without_lines (return l e) = return 1 (term_without_lines e)

  pub block_without_lines : Block → Block
  block_without_lines empty = empty
  block_without_lines (first s b) = first (statement_without_lines s) (block_without_lines b)

abbrev pub declaration_without_lines : Declaration → Declaration
declaration_without_lines (cell n l len z) = cell n 1 len z
declaration_without_lines (func n l ps b) = func n 1 (map word_without_line ps) (block_without_lines b)

abbrev pub tree_without_lines : List Declaration → List Declaration
tree_without_lines ds = map declaration_without_lines ds

abbrev pub tokens_without_lines : Lexemes → Lexemes
tokens_without_lines (end_on l) = end_on 1
tokens_without_lines (comes t l xs) = comes t 1 (tokens_without_lines xs)

-- The tree ds was read, except for its lines.
abbrev pub IsReadAs : Result (List Declaration) TextFault → List Declaration → Type 0
IsReadAs read ds = (es : List Declaration) × (read ≡ Ok es) × (tree_without_lines es ≡ tree_without_lines ds)

-- The source s was read, except for its lines.
abbrev pub IsSourceReadAs : Result Source TextFault → Source → Type 0
IsSourceReadAs read s = (t : Source) × (read ≡ Ok t) × (t.language ≡ s.language) × (tree_without_lines t.items ≡ tree_without_lines s.items)
