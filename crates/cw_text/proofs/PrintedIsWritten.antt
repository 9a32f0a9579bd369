-- The tokens of a program spell that program.
use Rattle.std.proofs.Common.{◌≡◌, ℕ, zero, suc, ◌+◌, ◌<◌, ◌≤◌, max, nat_lt, cond, Bool, true, false, Some, List, [], ◌∷◌, ◌++◌, refl, sym, ◌∙◌, ap, subst, inl, inr, arith, ℤ, pos, negsuc, lit<}
use Rattle.std.proofs.lemmas.Bool.{cases_lt, ltb-false}
use Rattle.std.proofs.lemmas.List.Elements.{All-head, All-tail}
use Rattle.std.specs.List.{flat_map}
use Rattle.cw_text.specs.declared.ast.Op.{Op}
use Rattle.cw_text.specs.declared.ast.Op.TheVariants as op
use Rattle.cw_text.specs.declared.ast.Word.{Word}
use Rattle.cw_text.specs.declared.terminal.Terminal.{Terminal}
use Rattle.cw_text.specs.declared.terminal.Terminal.TheVariants as m
use Rattle.cw_text.specs.Lexemes.{Lexemes, end_on, comes, terminal, name as a_name}
use Rattle.cw_text.specs.Syntax.{Term, Terms, number, name, at, call, unary, binary, none, more, Statement, declare, assign, assign_at, run, out, choose, repeat, atomic, spawn, sync, cancel, return, Block, empty, first, Declaration, cell, func, height, height_of_all}
use Rattle.cw_text.specs.Grammar.{prefix_of}
use Rattle.cw_text.specs.Printed.{Placed, tokens_before, sign, terminal_of, tightness, of_left, of_right, bracketed, in_braces, in_parens, in_squares, word_tokens, words_tokens, term_tokens, terms_tokens, more_terms_tokens, value_tokens, statement_tokens, statements_tokens, else_tokens, size_tokens, init_tokens, declaration_tokens, tokens, printed, IsWellFormed, AreWellFormed, most_open, most_open_of_all, IsReadableTerm, IsReadableStatement, IsReadableBlock, IsReadableDeclaration, IsReadable}
use Rattle.cw_text.specs.Written as w
use Rattle.cw_text.proofs.Operators.{product_of-terminal_of, sum_of-terminal_of, comparison_of-terminal_of}

tokens_before-append : (ps qs : List Placed) (xs : Lexemes) → tokens_before (ps ++ qs) xs ≡ tokens_before ps (tokens_before qs xs)
tokens_before-append [] qs xs = refl
tokens_before-append (p ∷ ps) qs xs = ap (comes p.0 p.1) (tokens_before-append ps qs xs)

-- ## Expressions

-- what is spelled where so much tightness is wanted
abbrev Is : (n around : ℕ) → Term → Lexemes → Lexemes → Type 0
Is zero = w.IsExpr
Is (suc zero) = w.IsSum
Is (suc (suc zero)) = w.IsProduct
Is (suc (suc (suc n))) = w.IsUnary

record Spelled (n around : ℕ) (e : Term) (xs ys : Lexemes) : Type 0 where
  written : Is n around e xs ys

one_looser : {around : ℕ} {e : Term} {xs ys : Lexemes} (n : ℕ) → Spelled (suc n) around e xs ys → Spelled n around e xs ys
one_looser zero h = record { written = w.a_sum h.written }
one_looser (suc zero) h = record { written = w.a_product h.written }
one_looser (suc (suc zero)) h = record { written = w.a_unary h.written }
one_looser (suc (suc (suc n))) h = record { written = h.written }

looser : {around : ℕ} {e : Term} {xs ys : Lexemes} (n t : ℕ) → n ≤ t → Spelled t around e xs ys → Spelled n around e xs ys
looser {around} {e} {xs} {ys} n zero within h = let same : zero ≡ n = omega arith in subst (λ t. Spelled t around e xs ys) same h
looser {around} {e} {xs} {ys} n (suc t) within h =
    elim (cases_lt n (suc t)) [
      | inl less ↦ looser n t (omega arith) (one_looser t h)
      | inr greatest ↦ let same : suc t ≡ n = omega arith in subst (λ t. Spelled t around e xs ys) same h
    ]

prefix_of-terminal_of : (o : Op) → tightness o ≡ 3 → prefix_of (terminal_of o) ≡ Some o
prefix_of-terminal_of op.Neg h = refl
prefix_of-terminal_of op.Not h = refl
prefix_of-terminal_of o h = absurd (omega arith)

-- an operator between its operands
infix_written : {around i : ℕ} {e f : Term} {xs ys zs : Lexemes} (o : Op) (t : ℕ) → tightness o ≡ t → t < 3 → height (binary o e f) ≤ 200 →
    Spelled (max 1 t) around e xs (comes (terminal (terminal_of o)) i ys) → Spelled (t + 1) around f ys zs → Spelled t around (binary o e f) xs zs
infix_written o zero is two low left right = record { written = w.compared (comparison_of-terminal_of o is) low left.written right.written }
infix_written o (suc zero) is two low left right = record { written = w.added (sum_of-terminal_of o is) low left.written right.written }
infix_written o (suc (suc zero)) is two low left right = record { written = w.multiplied (product_of-terminal_of o is) low left.written right.written }
infix_written o (suc (suc (suc t))) is two low left right = absurd (omega arith)

first_looser : {around : ℕ} {e : Term} {xs ys : Lexemes} (n : ℕ) → n ≤ 3 → w.IsFirst around e xs ys → Spelled n around e xs ys
first_looser n within h = let tight : Spelled 3 _ _ _ _ = record { written = w.a_first h } in looser n 3 within tight

-- in brackets, where the tightness is less than is wanted
in_place : {e : Term} (around n t most : ℕ) (ps : List Placed) (xs : Lexemes) (b : Bool) → nat_lt t n ≡ b → n ≤ 3 → most + cond b 1 0 + around ≤ 200 →
    ((inner : ℕ) (zs : Lexemes) → most + inner ≤ 200 → Spelled t inner e (tokens_before ps zs) zs) → Spelled n around e (tokens_before (bracketed b ps) xs) xs
in_place {e} around n t most ps xs true looser_than within low bare =
    let close = comes (terminal m.ParenClose) 1 xs in
    let inner = looser 0 t (omega arith) (bare (around + 1) close (omega arith)) in
    subst (λ zs. Spelled n around e (comes (terminal m.ParenOpen) 1 zs) xs) (sym (tokens_before-append ps (sign m.ParenClose) xs))
    (first_looser n within (w.in_brackets (omega arith) inner.written))
in_place around n t most ps xs false tight within low bare = looser n t (ltb-false t n tight) (bare around xs (omega arith))

-- behind a name, in brackets
enclosed_before : (v : Word) (a b : Terminal) (ps : List Placed) (xs : Lexemes) →
    tokens_before (word_tokens v ++ (sign a ++ ps ++ sign b)) xs ≡ comes (a_name v.name) v.line (comes (terminal a) 1 (tokens_before ps (comes (terminal b) 1 xs)))
enclosed_before v a b ps xs = ap (λ ys. comes (a_name v.name) v.line (comes (terminal a) 1 ys)) (tokens_before-append ps (sign b) xs)

infix_before : (ps qs : List Placed) (a : Terminal) (xs : Lexemes) → tokens_before (ps ++ sign a ++ qs) xs ≡ tokens_before ps (comes (terminal a) 1 (tokens_before qs xs))
infix_before ps qs a xs = tokens_before-append (ps ++ sign a) qs xs ∙ tokens_before-append ps (sign a) (tokens_before qs xs)

mutual
  term_written : (n : ℕ) (e : Term) (around : ℕ) (xs : Lexemes) → n ≤ 3 → IsWellFormed e → height e ≤ 200 → most_open n e + around ≤ 200 → Spelled n around e (tokens_before (term_tokens n e) xs) xs
  term_written n (number (pos z)) around xs within formed low shallow = first_looser n within w.a_number_alone
  term_written n (number (negsuc z)) around xs within formed low shallow = absurd formed
  term_written n (name v) around xs within formed low shallow = first_looser n within w.a_name_alone
  term_written n (at v i) around xs within formed low shallow =
      let inner = term_written 0 i (around + 1) (comes (terminal m.SquareClose) 1 xs) (omega arith) formed (omega arith) (omega arith) in
      subst (λ zs. Spelled n around (at v i) zs xs) (sym (enclosed_before v m.SquareOpen m.SquareClose (term_tokens 0 i) xs))
      (first_looser n within (w.an_element (omega arith) low inner.written))
  term_written n (call v es) around xs within formed low shallow =
      subst (λ zs. Spelled n around (call v es) zs xs) (sym (enclosed_before v m.ParenOpen m.ParenClose (terms_tokens es) xs))
      (first_looser n within (w.a_call (omega arith) low (terms_written es (around + 1) (comes (terminal m.ParenClose) 1 xs) formed (omega arith) (omega arith))))
  term_written n (unary o e) around xs within formed low shallow =
      let inner = term_written 3 e (around + 1) xs (omega arith) formed.1 (omega arith) (omega arith) in
      let tight : Spelled 3 around (unary o e) _ xs = record { written = w.prefixed (prefix_of-terminal_of o formed.0) (omega arith) low inner.written } in
      looser n 3 within tight
  term_written n (binary o l r) around xs within formed low shallow =
      let left = term_tokens (of_left o) l in
      let right = term_tokens (of_right o) r in
      let most = max (most_open (of_left o) l) (most_open (of_right o) r) in
      in_place around n (tightness o) most (left ++ sign (terminal_of o) ++ right) xs (nat_lt (tightness o) n) refl within shallow
      (λ inner zs room.
      subst (λ ys. Spelled (tightness o) inner (binary o l r) ys zs) (sym (infix_before left right (terminal_of o) zs))
      (infix_written o (tightness o) refl formed.0 low
      (term_written (of_left o) l inner (comes (terminal (terminal_of o)) 1 (tokens_before right zs)) (omega arith) formed.1 (omega arith) (omega arith))
      (term_written (of_right o) r inner zs (omega arith) formed.2 (omega arith) (omega arith))))

  terms_written : (es : Terms) (around : ℕ) (xs : Lexemes) → AreWellFormed es → height_of_all es ≤ 200 → most_open_of_all es + around ≤ 200 → w.AreArguments around es (tokens_before (terms_tokens es) xs) xs
  terms_written none around xs formed low shallow = w.no_arguments
  terms_written (more e es) around xs formed low shallow =
      let one = term_written 0 e around (tokens_before (more_terms_tokens es) xs) (omega arith) formed.0 (omega arith) (omega arith) in
      subst (λ zs. w.AreArguments around (more e es) zs xs) (sym (tokens_before-append (term_tokens 0 e) (more_terms_tokens es) xs))
      (w.arguments one.written (more_terms_written es around xs formed.1 (omega arith) (omega arith)))

  more_terms_written : (es : Terms) (around : ℕ) (xs : Lexemes) → AreWellFormed es → height_of_all es ≤ 200 → most_open_of_all es + around ≤ 200 → w.AreMoreArguments around es (tokens_before (more_terms_tokens es) xs) xs
  more_terms_written none around xs formed low shallow = w.no_more
  more_terms_written (more e es) around xs formed low shallow =
      let one = term_written 0 e around (tokens_before (more_terms_tokens es) xs) (omega arith) formed.0 (omega arith) (omega arith) in
      subst (λ zs. w.AreMoreArguments around (more e es) (comes (terminal m.Comma) 1 zs) xs) (sym (tokens_before-append (term_tokens 0 e) (more_terms_tokens es) xs))
      (w.one_more one.written (more_terms_written es around xs formed.1 (omega arith) (omega arith)))

-- ## Statements

whole_written : (e : Term) (around : ℕ) (xs : Lexemes) → IsReadableTerm around e → w.IsExpr around e (tokens_before (term_tokens 0 e) xs) xs
whole_written e around xs h = let one = term_written 0 e around xs (omega arith) h.formed h.low h.shallow in one.written

-- an expression with a semicolon behind it
value_written : (e : Term) (around : ℕ) (xs : Lexemes) → IsReadableTerm around e → w.IsExpr around e (tokens_before (term_tokens 0 e ++ sign m.Semicolon) xs) (comes (terminal m.Semicolon) 1 xs)
value_written e around xs h =
    let over = comes (terminal m.Semicolon) 1 xs in
    subst (λ zs. w.IsExpr around e zs over) (sym (tokens_before-append (term_tokens 0 e) (sign m.Semicolon) xs)) (whole_written e around over h)

block_written : (b : Block) (around : ℕ) (xs : Lexemes) → around < 200 → ((ys : Lexemes) → w.AreStatements (around + 1) b (tokens_before (statements_tokens b) ys) ys) →
    w.IsBlock around b (tokens_before (in_braces (statements_tokens b)) xs) xs
block_written b around xs room inside =
    let close = comes (terminal m.BraceClose) 1 xs in
    subst (λ zs. w.IsBlock around b (comes (terminal m.BraceOpen) 1 zs) xs) (sym (tokens_before-append (statements_tokens b) (sign m.BraceClose) xs)) (w.in_braces room (inside close))

else_written : (b : Block) (around : ℕ) (xs : Lexemes) → around < 200 → ((ys : Lexemes) → w.AreStatements (around + 1) b (tokens_before (statements_tokens b) ys) ys) →
    w.IsElse around b (tokens_before (else_tokens b) xs) xs
else_written empty around xs room inside = w.no_else
else_written (first s b) around xs room inside = w.an_else (block_written (first s b) around xs room inside)

mutual
  statement_written : (s : Statement) (around : ℕ) (xs : Lexemes) → IsReadableStatement around s → w.IsStatement around s (tokens_before (statement_tokens s) xs) xs
  statement_written (declare v e) around xs h = w.declares (value_written e around xs h)
  statement_written (assign v e) around xs h = w.assigns (value_written e around xs h)
  statement_written (assign_at v i e) around xs h =
      let value = tokens_before (value_tokens e) xs in
      subst (λ zs. w.IsStatement around (assign_at v i e) zs xs)
      (sym (tokens_before-append (word_tokens v ++ in_squares (term_tokens 0 i)) (value_tokens e) xs ∙ enclosed_before v m.SquareOpen m.SquareClose (term_tokens 0 i) value))
      (w.assigns_at (omega (arith, h.0.shallow)) (whole_written i (around + 1) (comes (terminal m.SquareClose) 1 value) h.0) (value_written e around xs h.1))
  statement_written (run v es) around xs h =
      let over = comes (terminal m.Semicolon) 1 xs in
      subst (λ zs. w.IsStatement around (run v es) zs xs)
      (sym (tokens_before-append (word_tokens v ++ in_parens (terms_tokens es)) (sign m.Semicolon) xs ∙ enclosed_before v m.ParenOpen m.ParenClose (terms_tokens es) over))
      (w.calls (omega (arith, h.shallow)) (terms_written es (around + 1) (comes (terminal m.ParenClose) 1 over) h.formed h.low h.shallow))
  statement_written (out e) around xs h = w.outputs (value_written e around xs h)
  statement_written (choose e b c) around xs h =
      let last = tokens_before (else_tokens c) xs in
      let braces = tokens_before (in_braces (statements_tokens b)) last in
      subst (λ zs. w.IsStatement around (choose e b c) (comes (terminal m.If) 1 zs) xs)
      (sym (tokens_before-append (term_tokens 0 e ++ in_braces (statements_tokens b)) (else_tokens c) xs ∙ tokens_before-append (term_tokens 0 e) (in_braces (statements_tokens b)) last))
      (w.chooses (whole_written e around braces h.0) (block_written b around last h.1 (λ ys. statements_written b (around + 1) ys h.2)) (else_written c around xs h.1 (λ ys. statements_written c (around + 1) ys h.3)))
  statement_written (repeat e b) around xs h =
      let braces = tokens_before (in_braces (statements_tokens b)) xs in
      subst (λ zs. w.IsStatement around (repeat e b) (comes (terminal m.While) 1 zs) xs) (sym (tokens_before-append (term_tokens 0 e) (in_braces (statements_tokens b)) xs))
      (w.repeats (whole_written e around braces h.0) (block_written b around xs h.1 (λ ys. statements_written b (around + 1) ys h.2)))
  statement_written (atomic b) around xs h = w.is_atomic (block_written b around xs h.0 (λ ys. statements_written b (around + 1) ys h.1))
  statement_written (spawn b) around xs h = w.spawns (block_written b around xs h.0 (λ ys. statements_written b (around + 1) ys h.1))
  statement_written sync around xs h = w.syncs
  statement_written (cancel l) around xs h = w.cancels
  statement_written (return l e) around xs h = w.returns (value_written e around xs h)

  statements_written : (b : Block) (around : ℕ) (xs : Lexemes) → IsReadableBlock around b → w.AreStatements around b (tokens_before (statements_tokens b) xs) xs
  statements_written empty around xs h = w.no_statements
  statements_written (first s b) around xs h =
      subst (λ zs. w.AreStatements around (first s b) zs xs) (sym (tokens_before-append (statement_tokens s) (statements_tokens b) xs))
      (w.statements (statement_written s around (tokens_before (statements_tokens b) xs) h.0) (statements_written b around xs h.1))

-- ## Items

size_written : (len : ℕ) (xs : Lexemes) → w.IsSize len (tokens_before (size_tokens len) xs) xs
size_written zero xs = w.no_size
size_written (suc n) xs = w.a_size

init_written : (z : ℤ) (xs : Lexemes) → w.IsInit z (tokens_before (init_tokens z) xs) xs
init_written (pos zero) xs = w.no_init
init_written (pos (suc n)) xs = w.an_init
init_written (negsuc n) xs = w.a_negative_init refl

more_words_written : (ws : List Word) (xs : Lexemes) → w.AreMoreParams ws (tokens_before (flat_map (λ v. sign m.Comma ++ word_tokens v) ws) xs) xs
more_words_written [] xs = w.no_more_params
more_words_written (v ∷ ws) xs = w.more_params (more_words_written ws xs)

words_written : (ws : List Word) (xs : Lexemes) → w.AreParams ws (tokens_before (words_tokens ws) xs) xs
words_written [] xs = w.no_params
words_written (v ∷ ws) xs = w.params (more_words_written ws xs)

declaration_written : (d : Declaration) (xs : Lexemes) → IsReadableDeclaration d → w.IsItem d (tokens_before (declaration_tokens d) xs) xs
declaration_written (cell n l len z) xs h =
    let over = comes (terminal m.Semicolon) 1 xs in
    subst (λ zs. w.IsItem (cell n l len z) (comes (terminal m.Cell) 1 (comes (a_name n) l zs)) xs)
    (sym (tokens_before-append (size_tokens len ++ init_tokens z) (sign m.Semicolon) xs ∙ tokens_before-append (size_tokens len) (init_tokens z) over))
    (w.is_cell (size_written len (tokens_before (init_tokens z) over)) (init_written z over))
declaration_written (func n l ps b) xs h =
    let braces = tokens_before (in_braces (statements_tokens b)) xs in
    subst (λ zs. w.IsItem (func n l ps b) (comes (terminal m.Fn) 1 (comes (a_name n) l (comes (terminal m.ParenOpen) 1 zs))) xs)
    (sym (tokens_before-append (words_tokens ps ++ sign m.ParenClose) (in_braces (statements_tokens b)) xs ∙ tokens_before-append (words_tokens ps) (sign m.ParenClose) braces))
    (w.is_function (words_written ps (comes (terminal m.ParenClose) 1 braces)) (block_written b 0 xs (lit< tt) (λ ys. statements_written b 1 ys h)))

declarations_written : (ds : List Declaration) (xs : Lexemes) → w.IsProgram [] xs → IsReadable ds → w.IsProgram ds (tokens_before (tokens ds) xs)
declarations_written [] xs ended h = ended
declarations_written (d ∷ ds) xs ended h =
    subst (w.IsProgram (d ∷ ds)) (sym (tokens_before-append (declaration_tokens d) (tokens ds) xs))
    (w.items (declaration_written d (tokens_before (tokens ds) xs) (All-head IsReadableDeclaration d ds h)) (declarations_written ds xs ended (All-tail IsReadableDeclaration d ds h)))

pub printed_is_written : (ds : List Declaration) → IsReadable ds → w.IsProgram ds (printed ds)
printed_is_written ds h = declarations_written ds (end_on 1) w.over h
