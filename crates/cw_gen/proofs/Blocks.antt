-- Lists of statements as blocks.
use Rattle.std.proofs.Common.{◌≡◌, List, [], ◌∷◌, map, refl, ap, ◌∙◌, Global, Vec}
use Rattle.cw_text.specs.declared.ast.Stmt.{Stmt}
use Rattle.cw_text.specs.declared.ast.Stmt.TheBlock.{hidden-the_row-Stmt-0}
use Rattle.cw_text.specs.Syntax.{statement_of, block_of, inner_of, first}
use Rattle.cw_text.proofs.Blocks.{inner_is_block}
use Rattle.cw_gen.specs.Load.{block}

pub block_is : (ss : List Stmt) → block_of ss ≡ block (map statement_of ss)
block_is [] = refl
block_is (s ∷ ss) = ap (first (statement_of s)) (block_is ss)

-- a block within a statement
pub inner_is : (body : Vec Stmt Global) → inner_of (hidden-the_row-Stmt-0 body) ≡ block (map statement_of body.items)
inner_is body = inner_is_block body ∙ block_is body.items
