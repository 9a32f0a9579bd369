-- What the loops of the parser keep.
use Rattle.std.proofs.Common.{ℕ, ◌≡◌, ◌<◌, ◌≤◌, ◌+◌, List, [], ◌∷◌, ◌++◌, map}
use Rattle.cw_text.specs.Cursor.{count_of_lexemes}
use Rattle.cw_text.specs.Grammar.{Symbol, Values, a_block, a_term, args, block, closing, declared, items, more_args, more_params, params, pending, read, some_terms, some_words, stmts}
use Rattle.cw_text.specs.Lexemes.{Lexemes}
use Rattle.cw_text.specs.Parser.{ahead}
use Rattle.cw_text.specs.Syntax.{block_of, declaration_of, height_of_all, none, term_of, terms_of}
use Rattle.cw_text.specs.declared.ast.Expr.{Expr}
use Rattle.cw_text.specs.declared.ast.Item.{Item}
use Rattle.cw_text.specs.declared.ast.Stmt.{Stmt}
use Rattle.cw_text.specs.declared.ast.Word.{Word}
use Rattle.cw_text.specs.declared.terminal.Terminal.TheVariants as m
use Rattle.cw_text.specs.declared.expr.Measured.{Measured}
use Rattle.cw_text.specs.declared.parser.Parser.{Parser}

-- What the loop over operators keeps.
pub record HasRead (start : List Symbol) (more : Symbol) (old new : Parser) (e : Measured) : Type 0 where
  pub same : new.depth ≡ old.depth
  pub shorter : count_of_lexemes (ahead new) < count_of_lexemes (ahead old)
  pub reading : (k : List Symbol) (vs : Values) → pending k ≡ old.depth → read (start ++ k) vs (ahead old) ≡ read (more ∷ k) (a_term (term_of e.expr) ∷ vs) (ahead new)

-- What the loop over the arguments behind the first one keeps.
pub record HasReadArguments (old new : Parser) (list : List Expr) (height : ℕ) : Type 0 where
  pub same : new.depth ≡ old.depth
  pub shorter : count_of_lexemes (ahead new) < count_of_lexemes (ahead old)
  pub exact : height ≡ height_of_all (terms_of list)
  pub low : height ≤ 200
  pub reading : (k : List Symbol) (vs : Values) → pending k ≡ old.depth → read (args ∷ k) (some_terms none ∷ vs) (ahead old) ≡ read (more_args ∷ k) (some_terms (terms_of list) ∷ vs) (ahead new)

-- What the loop over the parameters behind the first one keeps.
pub record HasReadParams (old new : Parser) (list : List Word) : Type 0 where
  pub same : new.depth ≡ old.depth
  pub shorter : count_of_lexemes (ahead new) < count_of_lexemes (ahead old)
  pub reading : (k : List Symbol) (vs : Values) → pending k ≤ 200 → read (params ∷ k) (some_words [] ∷ vs) (ahead old) ≡ read (more_params ∷ k) (some_words list ∷ vs) (ahead new)

-- What the loop over the statements of a block keeps.
pub record HasReadStatements (old new : Parser) (body : List Stmt) : Type 0 where
  pub same : new.depth ≡ old.depth + 1
  pub low : new.depth ≤ 200
  pub shorter : count_of_lexemes (ahead new) < count_of_lexemes (ahead old)
  pub reading : (k : List Symbol) (vs : Values) → pending k ≡ old.depth → read (block ∷ k) vs (ahead old) ≡ read (stmts ∷ closing m.BraceClose ∷ k) (a_block (block_of body) ∷ vs) (ahead new)

-- What the loop over items keeps.
pub record HasReadItems (old : Lexemes) (new : Parser) (list : List Item) : Type 0 where
  pub none_open : new.depth ≡ 0
  pub reading : read (items ∷ []) (declared [] ∷ []) old ≡ read (items ∷ []) (declared (map declaration_of list) ∷ []) (ahead new)
