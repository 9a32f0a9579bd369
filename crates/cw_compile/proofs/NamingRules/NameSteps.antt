-- Going over statements and parameters one by one, where what was looked at so far has no fault.
use Rattle.std.proofs.Common.{◌≡◌, ℕ, suc, ◌+◌, ◌<◌, List, [], ◌∷◌, ◌++◌, length, drop, get_or, None, refl, ap, ◌∙◌, append_assoc}
use Rattle.cw_text.specs.declared.ast.Word.{Word}
use Rattle.cw_text.specs.declared.ast.Expr.{Expr}
use Rattle.cw_text.specs.declared.ast.Stmt.{Stmt}
use Rattle.cw_text.specs.Syntax.{terms_of, statement_of, block_of}
use Rattle.cw_text.proofs.Printing.{first_left}
use Rattle.cw_strand.specs.declared.naming.Around.{Around}
use Rattle.cw_strand.specs.Names.{Scope, find, a_local, declared_new, scope_after, count_of, in_statement, in_block, in_params, scope_with_params}
use Rattle.cw_compile.specs.declared.naming.visible.Visible.{Visible}
use Rattle.cw_compile.specs.NamingRules.Visible.{StaysVisible}

-- a statement without a fault: what is left is looked at with the names after it
pub in_block_next : (g : Scope) (inside : Around) (xs : List Stmt) (i : ℕ) (x : Stmt) → i < length xs → x ≡ get_or xs i x → in_statement g inside (statement_of x) ≡ None → in_block g inside (block_of (drop i xs)) ≡ in_block (scope_after (statement_of x) g) inside (block_of (drop (i + 1) xs))
in_block_next g inside xs i x lt is none = rw (first_left xs i x lt is, none) refl

-- the arguments are as many as the expressions
pub arguments_counted : (xs : List Expr) → count_of (terms_of xs) ≡ length xs
arguments_counted [] = refl
arguments_counted (x ∷ xs) = ap suc (arguments_counted xs)

-- a parameter whose name is new, in the same way
module _ (g : Scope) (ws : List Word) (i : ℕ) (w : Word) (lt : i < length ws) (is : w ≡ get_or ws i w) where
  pub in_params_next : declared_new (find w.name g) w.line ≡ None → in_params g (drop i ws) ≡ in_params ((w.name, a_local) ∷ g) (drop (i + 1) ws)
  in_params_next none = rw (first_left ws i w lt is, none) refl

  pub with_params_next : scope_with_params ((w.name, a_local) ∷ g) (drop (i + 1) ws) ≡ scope_with_params g (drop i ws)
  with_params_next = rw (first_left ws i w lt is) refl

-- ## What stays visible

pub keeps_more : (u v w : Visible) → StaysVisible u v → StaysVisible v w → StaysVisible u w
keeps_more u v w (xs, a) (ys, b) = (ys ++ xs, b ∙ rw (a, append_assoc) refl)
