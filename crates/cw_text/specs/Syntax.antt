-- The syntax tree without its places in memory: what a clause sees of an `Ast`.
use Rattle.std.specs.Prelude.{ℕ, ◌+◌, max, List, [], ◌∷◌, map, ℤ}
use Rattle.cw_text.specs.declared.ast.Op.{Op}
use Rattle.cw_text.specs.declared.ast.Word.{Word}
use Rattle.cw_text.specs.declared.ast.Expr.{Expr, Row_of-Expr, end_of-Expr, more_of-Expr}
use Rattle.cw_text.specs.declared.ast.Expr.TheVariants.{Number, Name, At', Call', Unary', Binary'}
use Rattle.cw_text.specs.declared.ast.Stmt.{Stmt, Row_of-Stmt, end_of-Stmt, more_of-Stmt}
use Rattle.cw_text.specs.declared.ast.Stmt.TheVariants as stmt
use Rattle.cw_text.specs.declared.ast.Item.{Item}
use Rattle.cw_text.specs.declared.ast.Item.TheVariants.{Cell, Func}
use Rattle.cw_text.specs.declared.ast.Ast.{Ast}

mutual
  -- an expression
  pub data Term : Type 0 where
    number : ℤ → Term
    name : Word → Term
    -- an element of an array
    at : Word → Term → Term
    -- the value of a function
    call : Word → Terms → Term
    unary : Op → Term → Term
    binary : Op → Term → Term → Term

  -- the arguments of a call
  pub data Terms : Type 0 where
    none : Terms
    more : Term → Terms → Terms

mutual
  pub data Statement : Type 0 where
    declare : Word → Term → Statement
    assign : Word → Term → Statement
    -- assigns to an element of an array: its index, then its value
    assign_at : Word → Term → Term → Statement
    -- a call whose value is dropped
    run : Word → Terms → Statement
    out : Term → Statement
    -- does `then_done` if the test holds, otherwise `else_done`
    choose : Term → (then_done else_done : Block) → Statement
    -- goes on as long as the test holds
    repeat : Term → Block → Statement
    atomic : Block → Statement
    spawn : Block → Statement
    sync : Statement
    -- gives up the innermost atomic block, with the line of the keyword
    cancel : ℕ → Statement
    -- ends the function with this value, with the line of the keyword
    return : ℕ → Term → Statement

  pub data Block : Type 0 where
    empty : Block
    first : Statement → Block → Block

pub data Declaration : Type 0 where
  cell : (name : List ℕ) (line len : ℕ) (init : ℤ) → Declaration
  func : (name : List ℕ) (line : ℕ) (params : List Word) (body : Block) → Declaration

-- adds an expression at the end
abbrev pub with_term : Terms → Term → Terms
with_term none e = more e none
with_term (more x es) e = more x (with_term es e)

abbrev pub with_statement : Block → Statement → Block
with_statement empty s = first s empty
with_statement (first x b) s = first x (with_statement b s)

-- A number, a name and a call without arguments have height 1. Every other form is one higher than its highest part.
abbrev mutual
  pub height : Term → ℕ
  height (number n) = 1
  height (name w) = 1
  height (at w i) = height i + 1
  height (call w es) = height_of_all es + 1
  height (unary op e) = height e + 1
  height (binary op l r) = max (height l) (height r) + 1

  -- the greatest height, and 0 without arguments
  pub height_of_all : Terms → ℕ
  height_of_all none = 0
  height_of_all (more e es) = max (height e) (height_of_all es)

-- what lies in memory, seen as a tree
abbrev mutual
  pub term_of : Expr → Term
  term_of (Number n) = number n
  term_of (Name w) = name w
  term_of (At' w p i) = at w (term_of i)
  term_of (Call' w s es) = call w (inner_terms_of es)
  term_of (Unary' op p e) = unary op (term_of e)
  term_of (Binary' op p l q r) = binary op (term_of l) (term_of r)

  -- the arguments within an expression
  pub inner_terms_of : {m : _} → Row_of-Expr m → Terms
  inner_terms_of end_of-Expr = none
  inner_terms_of (more_of-Expr e es) = more (term_of e) (inner_terms_of es)

abbrev pub terms_of : List Expr → Terms
terms_of [] = none
terms_of (e ∷ es) = more (term_of e) (terms_of es)

abbrev mutual
  pub statement_of : Stmt → Statement
  statement_of (stmt.Let w e) = declare w (term_of e)
  statement_of (stmt.Assign w e) = assign w (term_of e)
  statement_of (stmt.AssignAt w i e) = assign_at w (term_of i) (term_of e)
  statement_of (stmt.Call w es) = run w (terms_of es.items)
  statement_of (stmt.Out e) = out (term_of e)
  statement_of (stmt.If' e s a t b) = choose (term_of e) (inner_of a) (inner_of b)
  statement_of (stmt.While' e s b) = repeat (term_of e) (inner_of b)
  statement_of (stmt.Atomic' s b) = atomic (inner_of b)
  statement_of (stmt.Spawn' s b) = spawn (inner_of b)
  statement_of stmt.Sync = sync
  statement_of (stmt.Cancel l) = cancel l
  statement_of (stmt.Return l e) = return l (term_of e)

  -- the statements within a statement
  pub inner_of : {m : _} → Row_of-Stmt m → Block
  inner_of end_of-Stmt = empty
  inner_of (more_of-Stmt s b) = first (statement_of s) (inner_of b)

abbrev pub block_of : List Stmt → Block
block_of [] = empty
block_of (s ∷ b) = first (statement_of s) (block_of b)

abbrev pub declaration_of : Item → Declaration
declaration_of (Cell n l len init) = cell n l len init
declaration_of (Func n l ps b) = func n l ps.items (block_of b.items)

abbrev pub tree_of : Ast → List Declaration
tree_of a = map declaration_of a.items.items

-- what a whole text says: its language and its declarations
pub record Source : Type 0 where
  pub language : ℕ
  pub items : List Declaration

abbrev pub source_of : Ast → Source
source_of a = record { language = a.language; items = tree_of a }
