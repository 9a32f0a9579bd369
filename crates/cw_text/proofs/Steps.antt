-- Steps of the grammar.
use Rattle.std.proofs.Common.{arith, max, ◌≡◌, ℕ, ◌+◌, ◌<◌, ◌≤◌, List, [], ◌∷◌, ◌++◌, ap, refl, Result, subst, sym}
use Rattle.std.proofs.lemmas.Bool.{le-ltb, lt-ltb}
use Rattle.cw_text.specs.declared.ast.Op.{Op}
use Rattle.cw_text.specs.declared.ast.Expr.{Expr}
use Rattle.cw_text.specs.declared.ast.Stmt.{Stmt}
use Rattle.cw_text.specs.declared.fault.TextKind.TheVariants.{TooDeep}
use Rattle.cw_text.specs.declared.terminal.Terminal.TheVariants as m
use Rattle.cw_text.specs.declared.cursor.Token.TheVariants as token
use Rattle.cw_text.specs.declared.parser.Parser.{Parser}
use Rattle.cw_text.specs.Lexemes.{Lexemes, rest_of, end_on, comes, number as a_number, name as a_name, terminal, bad, end}
use Rattle.cw_text.specs.declared.ast.Word.{Word}
use Rattle.cw_text.specs.Syntax.{Term, Terms, at, binary, block_of, call, first, height, height_of_all, more, name, none, statement_of, term_of, terms_of, unary, with_statement, with_term}
use Rattle.cw_text.specs.Grammar.{Symbol, Values, a_term, read, pending, lifted, text_fault, act, arg_done, args, assign_done, assignment, more_args, call_done, index_done, join, some_terms, read_from, operand, expr, products, sums, comparison, closing, exactly}
use Rattle.cw_text.specs.Parser.{ahead, taken, GoesOn}
use Rattle.cw_text.specs.declared.fault.TextFault.{TextFault}
use Rattle.cw_text.specs.declared.fault.TextRefusal.{TextRefusal}
use Rattle.cw_text.specs.declared.terminal.Terminal.{Terminal}

-- with at most 200 open a token is taken
pub taken_open : (k : List Symbol) (vs : Values) (l : ℕ) (xs : Lexemes) → pending k ≤ 200 → taken k vs l xs ≡ read k vs (rest_of xs)
taken_open k vs l xs h = rw (le-ltb 200 (pending k) h) refl

-- what is made of the values
pub read-act : (f : Values → Values) (k : List Symbol) (vs : Values) (xs : Lexemes) → read (act f ∷ k) vs xs ≡ read k (f vs) xs
read-act f k vs (end_on n) = refl
read-act f k vs (comes t n xs) = refl

-- an operator before its operand
pub read-lifted : (o : Op) (l : ℕ) (e : Term) (k : List Symbol) (vs : Values) (xs : Lexemes) → height e + 1 ≤ 200 → read (lifted o l ∷ k) (a_term e ∷ vs) xs ≡ read k (a_term (unary o e) ∷ vs) xs
read-lifted o l e k vs (end_on n) h = rw (le-ltb 200 (height e + 1) h) refl
read-lifted o l e k vs (comes t n xs) h = rw (le-ltb 200 (height e + 1) h) refl

pub read-lifted-high : (o : Op) (l : ℕ) (e : Term) (k : List Symbol) (vs : Values) (xs : Lexemes) → 200 < height e + 1 → read (lifted o l ∷ k) (a_term e ∷ vs) xs ≡ text_fault TooDeep l
read-lifted-high o l e k vs (end_on n) h = rw (lt-ltb 200 (height e + 1) h) refl
read-lifted-high o l e k vs (comes t n xs) h = rw (lt-ltb 200 (height e + 1) h) refl

-- an operator between its operands
pub read-join : (o : Op) (l : ℕ) (a b : Term) (k : List Symbol) (vs : Values) (xs : Lexemes) → max (height a) (height b) + 1 ≤ 200 → read (act (join o) ∷ read_from l ∷ k) (a_term b ∷ a_term a ∷ vs) xs ≡ read k (a_term (binary o a b) ∷ vs) xs
read-join o l a b k vs (end_on n) h = rw (le-ltb 200 (max (height a) (height b) + 1) h) refl
read-join o l a b k vs (comes t n xs) h = rw (le-ltb 200 (max (height a) (height b) + 1) h) refl

pub read-join-high : (o : Op) (l : ℕ) (a b : Term) (k : List Symbol) (vs : Values) (xs : Lexemes) → 200 < max (height a) (height b) + 1 → read (act (join o) ∷ read_from l ∷ k) (a_term b ∷ a_term a ∷ vs) xs ≡ text_fault TooDeep l
read-join-high o l a b k vs (end_on n) h = rw (lt-ltb 200 (max (height a) (height b) + 1) h) refl
read-join-high o l a b k vs (comes t n xs) h = rw (lt-ltb 200 (max (height a) (height b) + 1) h) refl

-- an index behind a name
pub read-index : (l : ℕ) (w : Word) (i : Term) (k : List Symbol) (vs : Values) (xs : Lexemes) → height i + 1 ≤ 200 → read (act index_done ∷ read_from l ∷ k) (a_term i ∷ a_term (name w) ∷ vs) xs ≡ read k (a_term (at w i) ∷ vs) xs
read-index l w i k vs (end_on n) h = rw (le-ltb 200 (height i + 1) h) refl
read-index l w i k vs (comes t n xs) h = rw (le-ltb 200 (height i + 1) h) refl

pub read-index-high : (l : ℕ) (w : Word) (i : Term) (k : List Symbol) (vs : Values) (xs : Lexemes) → 200 < height i + 1 → read (act index_done ∷ read_from l ∷ k) (a_term i ∷ a_term (name w) ∷ vs) xs ≡ text_fault TooDeep l
read-index-high l w i k vs (end_on n) h = rw (lt-ltb 200 (height i + 1) h) refl
read-index-high l w i k vs (comes t n xs) h = rw (lt-ltb 200 (height i + 1) h) refl

-- arguments behind a name
pub read-call : (l : ℕ) (w : Word) (es : Terms) (k : List Symbol) (vs : Values) (xs : Lexemes) → height_of_all es + 1 ≤ 200 → read (act call_done ∷ read_from l ∷ k) (some_terms es ∷ a_term (name w) ∷ vs) xs ≡ read k (a_term (call w es) ∷ vs) xs
read-call l w es k vs (end_on n) h = rw (le-ltb 200 (height_of_all es + 1) h) refl
read-call l w es k vs (comes t n xs) h = rw (le-ltb 200 (height_of_all es + 1) h) refl

pub read-call-high : (l : ℕ) (w : Word) (es : Terms) (k : List Symbol) (vs : Values) (xs : Lexemes) → 200 < height_of_all es + 1 → read (act call_done ∷ read_from l ∷ k) (some_terms es ∷ a_term (name w) ∷ vs) xs ≡ text_fault TooDeep l
read-call-high l w es k vs (end_on n) h = rw (lt-ltb 200 (height_of_all es + 1) h) refl
read-call-high l w es k vs (comes t n xs) h = rw (lt-ltb 200 (height_of_all es + 1) h) refl

-- one more argument
pub terms_of-append : (es : List Expr) (e : Expr) → terms_of (es ++ e ∷ []) ≡ with_term (terms_of es) (term_of e)
terms_of-append [] e = refl
terms_of-append (x ∷ es) e = ap (more (term_of x)) (terms_of-append es e)

pub height_of_all-with : (es : Terms) (e : Term) → height_of_all (with_term es e) ≡ max (height_of_all es) (height e)
height_of_all-with none e = omega arith
height_of_all-with (more x es) e = omega (arith, height_of_all-with es e)

-- a sign for a value behind the name that a statement begins with
pub value_begins : (p : Parser) (k : List Symbol) (vs : Values) → p.cursor.token ≡ token.Terminal m.Assign →
    read (assignment ∷ k) vs (ahead p) ≡ read (exactly m.Assign ∷ expr ∷ exactly m.Semicolon ∷ act assign_done ∷ k) vs (ahead p)
value_begins p k vs is = rw is refl

-- one more statement of a block
pub block_of-append : (b : List Stmt) (s : Stmt) → block_of (b ++ s ∷ []) ≡ with_statement (block_of b) (statement_of s)
block_of-append [] s = refl
block_of-append (x ∷ b) s = ap (first (statement_of x)) (block_of-append b s)

-- an expression is operands with products, sums and a comparison
pub read-expr : (k : List Symbol) (vs : Values) (xs : Lexemes) → read (expr ∷ k) vs xs ≡ read (operand ∷ products ∷ sums ∷ comparison ∷ k) vs xs
read-expr k vs (end_on l) = refl
read-expr k vs (comes (a_number n) l xs) = refl
read-expr k vs (comes (a_name n) l xs) = refl
read-expr k vs (comes (terminal m.ParenOpen) l xs) = refl
read-expr k vs (comes (terminal m.Minus) l xs) = refl
read-expr k vs (comes (terminal m.Bang) l xs) = refl
read-expr k vs (comes (terminal a) l xs) = refl
read-expr k vs (comes (bad b) l xs) = refl
read-expr k vs (comes end l xs) = refl

-- the next token is no bracket that closes
abbrev pub NoClose : Lexemes → Type 0
NoClose (comes (terminal m.ParenClose) l xs) = ⊥
NoClose xs = Unit {0}

-- arguments begin with an expression, unless their bracket ends at once
pub read-args : (k : List Symbol) (vs : Values) (xs : Lexemes) → NoClose xs → read (args ∷ k) vs xs ≡ read (expr ∷ act arg_done ∷ more_args ∷ k) vs xs
read-args k vs (end_on l) h = refl
read-args k vs (comes (a_number n) l xs) h = refl
read-args k vs (comes (a_name n) l xs) h = refl
read-args k vs (comes (terminal m.ParenOpen) l xs) h = refl
read-args k vs (comes (terminal m.Minus) l xs) h = refl
read-args k vs (comes (terminal m.Bang) l xs) h = refl
read-args k vs (comes (terminal m.ParenClose) l xs) h = absurd h
read-args k vs (comes (terminal a) l xs) h = refl
read-args k vs (comes (bad b) l xs) h = refl
read-args k vs (comes end l xs) h = refl

-- the end of a bracket is one terminal
pub read-closing : (a : Terminal) (k : List Symbol) (vs : Values) (xs : Lexemes) → read (closing a ∷ k) vs xs ≡ read (exactly a ∷ k) vs xs
read-closing a k vs (end_on l) = refl
read-closing a k vs (comes (a_number n) l xs) = refl
read-closing a k vs (comes (a_name n) l xs) = refl
read-closing a k vs (comes (terminal b) l xs) = refl
read-closing a k vs (comes (bad b) l xs) = refl
read-closing a k vs (comes end l xs) = refl

pub ruleset steps = (taken_open, read-act, read-lifted, read-lifted-high, read-join, read-join-high, read-index, read-index-high, read-call, read-call-high, terms_of-append, height_of_all-with, read-expr, read-closing, block_of-append)

-- A reading that is as another one goes on as that one.
pub goes_on : {T : Type 0} (r : Result T TextRefusal) (a b : Result Values TextFault) (behind : T → Lexemes → Result Values TextFault) (left : Lexemes) → a ≡ b → GoesOn r b behind left → GoesOn r a behind left
goes_on r a b behind left e h = subst (λ x. GoesOn r x behind left) (sym e) h
