-- Blocks and arguments: those within a statement or an expression, and some with others behind them.
use Rattle.std.proofs.Common.{◌≡◌, refl, ap, ◌∙◌, Global, Vec}
use Rattle.cw_text.specs.declared.ast.Expr.{Expr, Row_of-Expr, end_of-Expr, more_of-Expr, items-the_row-Expr}
use Rattle.cw_text.specs.declared.ast.Expr.TheBlock.{hidden-the_row-Expr-0, items_hidden-the_row-Expr-0}
use Rattle.cw_text.specs.declared.ast.Stmt.{Stmt, Row_of-Stmt, end_of-Stmt, more_of-Stmt, items-the_row-Stmt}
use Rattle.cw_text.specs.declared.ast.Stmt.TheBlock.{hidden-the_row-Stmt-0, items_hidden-the_row-Stmt-0}
use Rattle.cw_text.specs.Syntax.{Block, Statement, Term, Terms, empty, first, inner_of, inner_terms_of, block_of, more, none, statement_of, term_of, terms_of, with_statement, with_term}

-- a row in a statement has the statements of the list that it is
inner_of-row : {m : _} (b : Row_of-Stmt m) → inner_of b ≡ block_of (items-the_row-Stmt m b)
inner_of-row end_of-Stmt = refl
inner_of-row (more_of-Stmt s b) = ap (first (statement_of s)) (inner_of-row b)

-- a vector that was put into a statement is the block of its items
pub inner_is_block : (body : Vec Stmt Global) → inner_of (hidden-the_row-Stmt-0 body) ≡ block_of body.items
inner_is_block body = inner_of-row (hidden-the_row-Stmt-0 body) ∙ ap block_of (items_hidden-the_row-Stmt-0 body)

-- the same for arguments
inner_terms_of-row : {m : _} (es : Row_of-Expr m) → inner_terms_of es ≡ terms_of (items-the_row-Expr m es)
inner_terms_of-row end_of-Expr = refl
inner_terms_of-row (more_of-Expr e es) = ap (more (term_of e)) (inner_terms_of-row es)

pub inner_is_terms : (args : Vec Expr Global) → inner_terms_of (hidden-the_row-Expr-0 args) ≡ terms_of args.items
inner_is_terms args = inner_terms_of-row (hidden-the_row-Expr-0 args) ∙ ap terms_of (items_hidden-the_row-Expr-0 args)

-- a block with the statements of another one behind its own
abbrev pub joined : Block → Block → Block
joined b empty = b
joined b (first s c) = joined (with_statement b s) c

joined_first : (s : Statement) (b c : Block) → joined (first s b) c ≡ first s (joined b c)
joined_first s b empty = refl
joined_first s b (first t c) = joined_first s (with_statement b t) c

pub joined_empty : (b : Block) → joined empty b ≡ b
joined_empty empty = refl
joined_empty (first s b) = joined_first s empty b ∙ ap (first s) (joined_empty b)

-- arguments with others behind them
abbrev pub with_terms : Terms → Terms → Terms
with_terms es none = es
with_terms es (more f fs) = with_terms (with_term es f) fs

with_terms_first : (e : Term) (es fs : Terms) → with_terms (more e es) fs ≡ more e (with_terms es fs)
with_terms_first e es none = refl
with_terms_first e es (more f fs) = with_terms_first e (with_term es f) fs

with_terms_none : (es : Terms) → with_terms none es ≡ es
with_terms_none none = refl
with_terms_none (more e es) = with_terms_first e none es ∙ ap (more e) (with_terms_none es)

pub with_terms_one : (e : Term) (es : Terms) → with_terms (more e none) es ≡ more e es
with_terms_one e es = with_terms_first e none es ∙ ap (more e) (with_terms_none es)
