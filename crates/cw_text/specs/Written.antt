-- The grammar as a reader knows it: which tokens spell which tree, one case for each alternative.
--
-- `IsExpr around e xs ys` says that the tokens from xs up to ys spell the expression e, inside `around` open brackets
-- and unary operators. The others say the same of what their names tell. No more than 200 are ever open, and no
-- expression is higher than 200.
use Rattle.std.specs.Prelude.{ℕ, suc, ◌+◌, ◌<◌, ◌≤◌, ◌≡◌, false, List, [], ◌∷◌, codes, Some, ℤ, pos, neg_ℤ}
use Rattle.cw_text.specs.declared.ast.Op.{Op}
use Rattle.cw_text.specs.declared.ast.Word.{Word}
use Rattle.cw_text.specs.declared.terminal.Terminal.{Terminal}
use Rattle.cw_text.specs.declared.terminal.Terminal.TheVariants as m
use Rattle.cw_text.specs.Lexemes.{Lexemes, end_on, comes, name as a_name, number as a_number, terminal}
use Rattle.cw_text.specs.Syntax.{Term, number, name, at, call, unary, binary, Terms, none, more, Statement, declare, assign, assign_at, run, out, choose, repeat, atomic, spawn, sync, cancel, return, Block, empty, first, Declaration, cell, func, height}
use Rattle.cw_text.specs.Text.{is_headed}
use Rattle.cw_text.specs.Grammar.{prefix_of, product_of, sum_of, comparison_of, word_at}

-- ## Expressions

mutual
  -- NUMBER | NAME | NAME "[" expr "]" | NAME "(" [ expr { "," expr } ] ")" | "(" expr ")"
  pub data IsFirst : (around : ℕ) → Term → (start behind : Lexemes) → Type 0 where
    a_number_alone : {around n l : ℕ} {xs : Lexemes} → IsFirst around (number (pos n)) (comes (a_number n) l xs) xs
    a_name_alone : {around l : ℕ} {n : List ℕ} {xs : Lexemes} → IsFirst around (name (word_at n l)) (comes (a_name n) l xs) xs
    an_element : {around i j l : ℕ} {n : List ℕ} {e : Term} {xs ys : Lexemes} → around < 200 → height (at (word_at n l) e) ≤ 200 →
        IsExpr (around + 1) e xs (comes (terminal m.SquareClose) j ys) →
        IsFirst around (at (word_at n l) e) (comes (a_name n) l (comes (terminal m.SquareOpen) i xs)) ys
    a_call : {around i j l : ℕ} {n : List ℕ} {es : Terms} {xs ys : Lexemes} → around < 200 → height (call (word_at n l) es) ≤ 200 →
        AreArguments (around + 1) es xs (comes (terminal m.ParenClose) j ys) →
        IsFirst around (call (word_at n l) es) (comes (a_name n) l (comes (terminal m.ParenOpen) i xs)) ys
    in_brackets : {around i j : ℕ} {e : Term} {xs ys : Lexemes} → around < 200 →
        IsExpr (around + 1) e xs (comes (terminal m.ParenClose) j ys) →
        IsFirst around e (comes (terminal m.ParenOpen) i xs) ys

  -- ( "-" | "!" ) unary | first
  pub data IsUnary : (around : ℕ) → Term → (start behind : Lexemes) → Type 0 where
    prefixed : {around l : ℕ} {a : Terminal} {o : Op} {e : Term} {xs ys : Lexemes} → prefix_of a ≡ Some o → around < 200 → height (unary o e) ≤ 200 →
        IsUnary (around + 1) e xs ys → IsUnary around (unary o e) (comes (terminal a) l xs) ys
    a_first : {around : ℕ} {e : Term} {xs ys : Lexemes} → IsFirst around e xs ys → IsUnary around e xs ys

  -- unary { ( "*" | "/" | "%" ) unary }
  pub data IsProduct : (around : ℕ) → Term → (start behind : Lexemes) → Type 0 where
    a_unary : {around : ℕ} {e : Term} {xs ys : Lexemes} → IsUnary around e xs ys → IsProduct around e xs ys
    multiplied : {around l : ℕ} {a : Terminal} {o : Op} {e f : Term} {xs ys zs : Lexemes} → product_of a ≡ Some o → height (binary o e f) ≤ 200 →
        IsProduct around e xs (comes (terminal a) l ys) → IsUnary around f ys zs → IsProduct around (binary o e f) xs zs

  -- prod { ( "+" | "-" ) prod }
  pub data IsSum : (around : ℕ) → Term → (start behind : Lexemes) → Type 0 where
    a_product : {around : ℕ} {e : Term} {xs ys : Lexemes} → IsProduct around e xs ys → IsSum around e xs ys
    added : {around l : ℕ} {a : Terminal} {o : Op} {e f : Term} {xs ys zs : Lexemes} → sum_of a ≡ Some o → height (binary o e f) ≤ 200 →
        IsSum around e xs (comes (terminal a) l ys) → IsProduct around f ys zs → IsSum around (binary o e f) xs zs

  -- sum [ ( "==" | "!=" | "<" | "<=" | ">" | ">=" ) sum ]
  pub data IsExpr : (around : ℕ) → Term → (start behind : Lexemes) → Type 0 where
    a_sum : {around : ℕ} {e : Term} {xs ys : Lexemes} → IsSum around e xs ys → IsExpr around e xs ys
    compared : {around l : ℕ} {a : Terminal} {o : Op} {e f : Term} {xs ys zs : Lexemes} → comparison_of a ≡ Some o → height (binary o e f) ≤ 200 →
        IsSum around e xs (comes (terminal a) l ys) → IsSum around f ys zs → IsExpr around (binary o e f) xs zs

  -- [ expr { "," expr } ]
  pub data AreArguments : (around : ℕ) → Terms → (start behind : Lexemes) → Type 0 where
    no_arguments : {around : ℕ} {xs : Lexemes} → AreArguments around none xs xs
    arguments : {around : ℕ} {e : Term} {es : Terms} {xs ys zs : Lexemes} → IsExpr around e xs ys → AreMoreArguments around es ys zs → AreArguments around (more e es) xs zs

  -- { "," expr }
  pub data AreMoreArguments : (around : ℕ) → Terms → (start behind : Lexemes) → Type 0 where
    no_more : {around : ℕ} {xs : Lexemes} → AreMoreArguments around none xs xs
    one_more : {around l : ℕ} {e : Term} {es : Terms} {xs ys zs : Lexemes} → IsExpr around e xs ys → AreMoreArguments around es ys zs →
        AreMoreArguments around (more e es) (comes (terminal m.Comma) l xs) zs

-- ## Statements

mutual
  -- the alternatives of a statement
  pub data IsStatement : (around : ℕ) → Statement → (start behind : Lexemes) → Type 0 where
    declares : {around h i j l : ℕ} {n : List ℕ} {e : Term} {xs ys : Lexemes} → IsExpr around e xs (comes (terminal m.Semicolon) j ys) →
        IsStatement around (declare (word_at n l) e) (comes (terminal m.Let) h (comes (a_name n) l (comes (terminal m.Assign) i xs))) ys
    assigns : {around i j l : ℕ} {n : List ℕ} {e : Term} {xs ys : Lexemes} → IsExpr around e xs (comes (terminal m.Semicolon) j ys) →
        IsStatement around (assign (word_at n l) e) (comes (a_name n) l (comes (terminal m.Assign) i xs)) ys
    assigns_at : {around g h i j l : ℕ} {n : List ℕ} {e f : Term} {xs ys zs : Lexemes} → around < 200 →
        IsExpr (around + 1) e xs (comes (terminal m.SquareClose) h (comes (terminal m.Assign) i ys)) → IsExpr around f ys (comes (terminal m.Semicolon) j zs) →
        IsStatement around (assign_at (word_at n l) e f) (comes (a_name n) l (comes (terminal m.SquareOpen) g xs)) zs
    calls : {around h i j l : ℕ} {n : List ℕ} {es : Terms} {xs ys : Lexemes} → around < 200 →
        AreArguments (around + 1) es xs (comes (terminal m.ParenClose) i (comes (terminal m.Semicolon) j ys)) →
        IsStatement around (run (word_at n l) es) (comes (a_name n) l (comes (terminal m.ParenOpen) h xs)) ys
    outputs : {around i j : ℕ} {e : Term} {xs ys : Lexemes} → IsExpr around e xs (comes (terminal m.Semicolon) j ys) →
        IsStatement around (out e) (comes (terminal m.Out) i xs) ys
    chooses : {around i : ℕ} {e : Term} {b c : Block} {xs ys zs us : Lexemes} → IsExpr around e xs ys → IsBlock around b ys zs → IsElse around c zs us →
        IsStatement around (choose e b c) (comes (terminal m.If) i xs) us
    repeats : {around i : ℕ} {e : Term} {b : Block} {xs ys zs : Lexemes} → IsExpr around e xs ys → IsBlock around b ys zs →
        IsStatement around (repeat e b) (comes (terminal m.While) i xs) zs
    is_atomic : {around i : ℕ} {b : Block} {xs ys : Lexemes} → IsBlock around b xs ys → IsStatement around (atomic b) (comes (terminal m.Atomic) i xs) ys
    spawns : {around i : ℕ} {b : Block} {xs ys : Lexemes} → IsBlock around b xs ys → IsStatement around (spawn b) (comes (terminal m.Spawn) i xs) ys
    syncs : {around i j : ℕ} {xs : Lexemes} → IsStatement around sync (comes (terminal m.Sync) i (comes (terminal m.Semicolon) j xs)) xs
    cancels : {around j l : ℕ} {xs : Lexemes} → IsStatement around (cancel l) (comes (terminal m.Cancel) l (comes (terminal m.Semicolon) j xs)) xs
    returns : {around j l : ℕ} {e : Term} {xs ys : Lexemes} → IsExpr around e xs (comes (terminal m.Semicolon) j ys) →
        IsStatement around (return l e) (comes (terminal m.Return) l xs) ys

  -- [ "else" block ]
  pub data IsElse : (around : ℕ) → Block → (start behind : Lexemes) → Type 0 where
    no_else : {around : ℕ} {xs : Lexemes} → IsElse around empty xs xs
    an_else : {around i : ℕ} {b : Block} {xs ys : Lexemes} → IsBlock around b xs ys → IsElse around b (comes (terminal m.Else) i xs) ys

  -- "{" { stmt } "}"
  pub data IsBlock : (around : ℕ) → Block → (start behind : Lexemes) → Type 0 where
    in_braces : {around i j : ℕ} {b : Block} {xs ys : Lexemes} → around < 200 → AreStatements (around + 1) b xs (comes (terminal m.BraceClose) j ys) →
        IsBlock around b (comes (terminal m.BraceOpen) i xs) ys

  -- { stmt }
  pub data AreStatements : (around : ℕ) → Block → (start behind : Lexemes) → Type 0 where
    no_statements : {around : ℕ} {xs : Lexemes} → AreStatements around empty xs xs
    statements : {around : ℕ} {s : Statement} {b : Block} {xs ys zs : Lexemes} → IsStatement around s xs ys → AreStatements around b ys zs → AreStatements around (first s b) xs zs

-- ## Items

-- [ "[" NUMBER "]" ]
pub data IsSize : ℕ → (start behind : Lexemes) → Type 0 where
  no_size : {xs : Lexemes} → IsSize 0 xs xs
  a_size : {n i j l : ℕ} {xs : Lexemes} → IsSize (suc n) (comes (terminal m.SquareOpen) i (comes (a_number (suc n)) l (comes (terminal m.SquareClose) j xs))) xs

-- [ "=" [ "-" ] NUMBER ]
pub data IsInit : ℤ → (start behind : Lexemes) → Type 0 where
  no_init : {xs : Lexemes} → IsInit (pos 0) xs xs
  an_init : {n i l : ℕ} {xs : Lexemes} → IsInit (pos n) (comes (terminal m.Assign) i (comes (a_number n) l xs)) xs
  a_negative_init : {n i j l : ℕ} {z : ℤ} {xs : Lexemes} → z ≡ neg_ℤ (pos n) → IsInit z (comes (terminal m.Assign) i (comes (terminal m.Minus) j (comes (a_number n) l xs))) xs

-- { "," NAME }
pub data AreMoreParams : List Word → (start behind : Lexemes) → Type 0 where
  no_more_params : {xs : Lexemes} → AreMoreParams [] xs xs
  more_params : {i l : ℕ} {n : List ℕ} {ws : List Word} {xs ys : Lexemes} → AreMoreParams ws xs ys → AreMoreParams (word_at n l ∷ ws) (comes (terminal m.Comma) i (comes (a_name n) l xs)) ys

-- [ NAME { "," NAME } ]
pub data AreParams : List Word → (start behind : Lexemes) → Type 0 where
  no_params : {xs : Lexemes} → AreParams [] xs xs
  params : {l : ℕ} {n : List ℕ} {ws : List Word} {xs ys : Lexemes} → AreMoreParams ws xs ys → AreParams (word_at n l ∷ ws) (comes (a_name n) l xs) ys

-- "cell" NAME [ "[" NUMBER "]" ] [ "=" [ "-" ] NUMBER ] ";" | "fn" NAME "(" [ NAME { "," NAME } ] ")" block
pub data IsItem : Declaration → (start behind : Lexemes) → Type 0 where
  is_cell : {i j l len : ℕ} {n : List ℕ} {z : ℤ} {xs ys zs : Lexemes} → IsSize len xs ys → IsInit z ys (comes (terminal m.Semicolon) j zs) →
      IsItem (cell n l len z) (comes (terminal m.Cell) i (comes (a_name n) l xs)) zs
  is_function : {h i j l : ℕ} {n : List ℕ} {ws : List Word} {b : Block} {xs ys zs : Lexemes} → AreParams ws xs (comes (terminal m.ParenClose) j ys) → IsBlock 0 b ys zs →
      IsItem (func n l ws b) (comes (terminal m.Fn) h (comes (a_name n) l (comes (terminal m.ParenOpen) i xs))) zs

-- { item }, up to the end
pub data IsProgram : List Declaration → Lexemes → Type 0 where
  over : {l : ℕ} → IsProgram [] (end_on l)
  items : {d : Declaration} {ds : List Declaration} {xs ys : Lexemes} → IsItem d xs ys → IsProgram ds ys → IsProgram (d ∷ ds) xs

-- [ "language" NUMBER ";" ] before the items, for a text in this language, up to the newest that is read
pub data IsHeading (newest : ℕ) : (language : ℕ) → Lexemes → Type 0 where
  no_heading : {xs : Lexemes} → is_headed xs ≡ false → IsHeading newest 1 xs
  a_heading : {n i j l : ℕ} {xs : Lexemes} → 1 ≤ n → n ≤ newest → IsHeading newest n (comes (a_name (codes "language")) i (comes (a_number n) j (comes (terminal m.Semicolon) l xs)))
