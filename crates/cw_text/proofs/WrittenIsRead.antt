-- What is written is read so.
use Rattle.std.proofs.Common.{◌≡◌, ℕ, ◌+◌, ◌-◌, ◌<◌, ◌≤◌, max, List, [], ◌∷◌, ◌++◌, Some, Ok, refl, sym, subst, ap, ◌∙◌, arith, ℤ, pos, neg_ℤ, append-nil, append_assoc, lit≤, lit<}
use Rattle.cw_text.specs.declared.ast.Op.{Op}
use Rattle.cw_text.specs.declared.ast.Word.{Word}
use Rattle.cw_text.specs.declared.terminal.Terminal.{Terminal}
use Rattle.cw_text.specs.declared.terminal.Terminal.TheVariants as m
use Rattle.cw_text.specs.Lexemes.{Lexemes, comes, name as a_name, terminal}
use Rattle.cw_text.specs.Syntax.{Term, Terms, binary, unary, none, more, with_term, Statement, Block, empty, with_statement, Declaration, cell, height}
use Rattle.cw_text.specs.Grammar.{Symbol, Values, a_line, a_term, a_word, a_size, a_block, an_init, act, arg_done, args, assignment, assign_done, assign_at_done, atomic_done, block, cell_done, choose_done, closing, comparison_of, declared, exactly, expr, func_done, items, let_done, more_args, more_params, otherwise, out_done, param_done, params, pending, prefix_of, product_of, program_in, program_of, push, read, repeat_done, return_done, cancel_done, run_done, some_terms, some_words, spawn_done, stmts, sum_of, sync_done, without_newest, word, word_at}
use Rattle.cw_text.specs.Printed.{terminal_of, tightness}
use Rattle.cw_text.specs.Written as w
use Rattle.cw_text.proofs.Blocks.{joined, joined_empty, with_terms, with_terms_one}
use Rattle.cw_text.proofs.Levels as level
use Rattle.cw_text.proofs.Levels.{argument_read, Ends, looser, name_read, number_read, of_call, of_name, of_one, of_two, Reads, Reads-more, ReadsAll}
use Rattle.cw_text.proofs.Operators.{NoBracket, NoElse, comparison_terminal, comparison_tightness, prefix_terminal, prefix_tightness, product_terminal, product_tightness, skips_otherwise, sum_terminal, sum_tightness}
use Rattle.cw_text.proofs.Steps.{NoClose, read-act, read-args, read-expr, taken_open}

-- ## Operators by their terminals

-- the operand before an operator is over
ends_product : (a : Terminal) (o : Op) (l : ℕ) (xs : Lexemes) → product_of a ≡ Some o → Ends 2 (comes (terminal a) l xs)
ends_product m.Star o l xs h = tt
ends_product m.Slash o l xs h = tt
ends_product m.Percent o l xs h = tt
ends_product a o l xs h = cc

ends_sum : (a : Terminal) (o : Op) (l : ℕ) (xs : Lexemes) → sum_of a ≡ Some o → Ends 1 (comes (terminal a) l xs)
ends_sum m.Plus o l xs h = (tt, refl)
ends_sum m.Minus o l xs h = (tt, refl)
ends_sum a o l xs h = cc

ends_comparison : (a : Terminal) (o : Op) (l : ℕ) (xs : Lexemes) → comparison_of a ≡ Some o → Ends 1 (comes (terminal a) l xs)
ends_comparison m.EqEq o l xs h = (tt, refl)
ends_comparison m.BangEq o l xs h = (tt, refl)
ends_comparison m.Less o l xs h = (tt, refl)
ends_comparison m.LessEq o l xs h = (tt, refl)
ends_comparison m.Greater o l xs h = (tt, refl)
ends_comparison m.GreaterEq o l xs h = (tt, refl)
ends_comparison a o l xs h = cc

no_close_prefix : (a : Terminal) (o : Op) (l : ℕ) (xs : Lexemes) → prefix_of a ≡ Some o → NoClose (comes (terminal a) l xs)
no_close_prefix m.Minus o l xs h = tt
no_close_prefix m.Bang o l xs h = tt
no_close_prefix a o l xs h = cc

with_prefix : {more l : ℕ} {e : Term} {xs ys : Lexemes} (a : Terminal) (o : Op) → prefix_of a ≡ Some o → height (unary o e) ≤ 200 → Reads more 3 e xs ys →
    Reads (more + 1) 3 (unary o e) (comes (terminal a) l xs) ys
with_prefix {more} {l} {e} {xs} {ys} a o is high r =
    subst (λ c. Reads (more + 1) 3 (unary o e) (comes (terminal c) l xs) ys) (sym (prefix_terminal a o is)) (of_one o (prefix_tightness a o is) high r)

with_infix : {more l : ℕ} {e f : Term} {xs ys zs : Lexemes} (a : Terminal) (o : Op) (t : ℕ) → a ≡ terminal_of o → tightness o ≡ t → t < 3 → height (binary o e f) ≤ 200 → Ends t zs →
    Reads more (max 1 t) e xs (comes (terminal a) l ys) → Reads more (t + 1) f ys zs → Reads more t (binary o e f) xs zs
with_infix {more} {l} {e} {f} {xs} {ys} a o t same is two high ends left right =
    of_two o t is two high ends (subst (λ c. Reads more (max 1 t) e xs (comes (terminal c) l ys)) same left) right

-- ## Expressions

-- no expression begins with a bracket that closes
first_begins : {around : ℕ} {e : Term} {xs ys : Lexemes} → w.IsFirst around e xs ys → NoClose xs
first_begins w.a_number_alone = tt
first_begins w.a_name_alone = tt
first_begins (w.an_element room high h) = tt
first_begins (w.a_call room high h) = tt
first_begins (w.in_brackets room h) = tt

unary_begins : {around : ℕ} {e : Term} {xs ys : Lexemes} → w.IsUnary around e xs ys → NoClose xs
unary_begins (w.prefixed is room high h) = no_close_prefix _ _ _ _ is
unary_begins (w.a_first h) = first_begins h

product_begins : {around : ℕ} {e : Term} {xs ys : Lexemes} → w.IsProduct around e xs ys → NoClose xs
product_begins (w.a_unary h) = unary_begins h
product_begins (w.multiplied is high h g) = product_begins h

sum_begins : {around : ℕ} {e : Term} {xs ys : Lexemes} → w.IsSum around e xs ys → NoClose xs
sum_begins (w.a_product h) = product_begins h
sum_begins (w.added is high h g) = sum_begins h

expr_begins : {around : ℕ} {e : Term} {xs ys : Lexemes} → w.IsExpr around e xs ys → NoClose xs
expr_begins (w.a_sum h) = sum_begins h
expr_begins (w.compared is high h g) = sum_begins h

-- the bracket of arguments ends here
abbrev IsClosed : Lexemes → Type 0
IsClosed (comes (terminal m.ParenClose) l xs) = Unit {0}
IsClosed xs = ⊥

closed_ends : (xs : Lexemes) → IsClosed xs → Ends 0 xs
closed_ends (comes (terminal m.ParenClose) l xs) h = (tt, refl, refl, refl)
closed_ends xs h = absurd h

skips_args : (k : List Symbol) (vs : Values) (xs : Lexemes) → IsClosed xs → read (args ∷ k) vs xs ≡ read k vs xs
skips_args k vs (comes (terminal m.ParenClose) l xs) h = refl
skips_args k vs xs h = absurd h

skips_more_args : (k : List Symbol) (vs : Values) (xs : Lexemes) → IsClosed xs → read (more_args ∷ k) vs xs ≡ read k vs xs
skips_more_args k vs (comes (terminal m.ParenClose) l xs) h = refl
skips_more_args k vs xs h = absurd h

more_ends : {around : ℕ} {es : Terms} {xs ys : Lexemes} → w.AreMoreArguments around es xs ys → IsClosed ys → Ends 0 xs
more_ends w.no_more closed = closed_ends _ closed
more_ends (w.one_more h g) closed = (tt, refl, refl, refl)

mutual
  first_read : {around : ℕ} {e : Term} {xs ys : Lexemes} → w.IsFirst around e xs ys → NoBracket ys → Reads (200 - around) 3 e xs ys
  first_read w.a_number_alone ends = Reads-more _ _ (omega arith) (number_read _ _ _)
  first_read w.a_name_alone ends = Reads-more _ _ (omega arith) (name_read _ _ ends)
  first_read {around} (w.an_element room high h) ends = Reads-more (200 - (around + 1) + 1) (200 - around) (omega arith) (of_name _ high (expr_read h (tt, refl, refl, refl)))
  first_read {around} (w.a_call room high h) ends = Reads-more (200 - (around + 1) + 1) (200 - around) (omega arith) (of_call _ high (arguments_read h tt))
  first_read {around} (w.in_brackets room h) ends = Reads-more (200 - (around + 1) + 1) (200 - around) (omega arith) (level.in_brackets (expr_read h (tt, refl, refl, refl)))

  unary_read : {around : ℕ} {e : Term} {xs ys : Lexemes} → w.IsUnary around e xs ys → NoBracket ys → Reads (200 - around) 3 e xs ys
  unary_read {around} (w.prefixed is room high h) ends = Reads-more (200 - (around + 1) + 1) (200 - around) (omega arith) (with_prefix _ _ is high (unary_read h ends))
  unary_read (w.a_first h) ends = first_read h ends

  product_read : {around : ℕ} {e : Term} {xs ys : Lexemes} → w.IsProduct around e xs ys → Ends 2 ys → Reads (200 - around) 2 e xs ys
  product_read (w.a_unary h) ends = looser 2 3 (lit≤ tt) ends (unary_read h ends)
  product_read (w.multiplied is high h g) ends =
      with_infix _ _ 2 (product_terminal _ _ is) (product_tightness _ _ is) (lit< tt) high ends (product_read h (ends_product _ _ _ _ is)) (unary_read g ends)

  sum_read : {around : ℕ} {e : Term} {xs ys : Lexemes} → w.IsSum around e xs ys → Ends 1 ys → Reads (200 - around) 1 e xs ys
  sum_read (w.a_product h) ends = looser 1 2 (lit≤ tt) ends (product_read h ends.0)
  sum_read (w.added is high h g) ends =
      with_infix _ _ 1 (sum_terminal _ _ is) (sum_tightness _ _ is) (lit< tt) high ends (sum_read h (ends_sum _ _ _ _ is)) (product_read g ends.0)

  expr_read : {around : ℕ} {e : Term} {xs ys : Lexemes} → w.IsExpr around e xs ys → Ends 0 ys → Reads (200 - around) 0 e xs ys
  expr_read (w.a_sum h) ends = looser 0 1 (lit≤ tt) ends (sum_read h (ends.0, ends.1))
  expr_read (w.compared is high h g) ends =
      with_infix _ _ 0 (comparison_terminal _ _ is) (comparison_tightness _ _ is) (lit< tt) high ends (sum_read h (ends_comparison _ _ _ _ is)) (sum_read g (ends.0, ends.1))

  arguments_read : {around : ℕ} {es : Terms} {xs ys : Lexemes} → w.AreArguments around es xs ys → IsClosed ys → ReadsAll (200 - around) es xs ys
  arguments_read w.no_arguments closed = record { reading = λ k vs room. skips_args k (some_terms none ∷ vs) _ closed }
  arguments_read {ys = zs} (w.arguments {e = e} {es = es} {xs = xs} {ys = ys} h g) closed = record {
    reading = λ k vs room.
        read-args k (some_terms none ∷ vs) xs (expr_begins h)
        ∙ argument_read e none k vs xs ys room (expr_read h (more_ends g closed))
        ∙ more_arguments_read g closed (more e none) k vs room
        ∙ ap (λ es. read k (some_terms es ∷ vs) zs) (with_terms_one e es);
  }

  more_arguments_read : {around : ℕ} {fs : Terms} {xs ys : Lexemes} → w.AreMoreArguments around fs xs ys → IsClosed ys → (es : Terms) (k : List Symbol) (vs : Values) → pending k + (200 - around) ≤ 200 →
      read (more_args ∷ k) (some_terms es ∷ vs) xs ≡ read k (some_terms (with_terms es fs) ∷ vs) ys
  more_arguments_read w.no_more closed es k vs room = skips_more_args k (some_terms es ∷ vs) _ closed
  more_arguments_read (w.one_more {l = l} {e = e} {xs = xs} {ys = ys} h g) closed es k vs room =
      taken_open (expr ∷ act arg_done ∷ more_args ∷ k) (some_terms es ∷ vs) l (comes (terminal m.Comma) l xs) (omega arith)
      ∙ argument_read e es k vs xs ys room (expr_read h (more_ends g closed))
      ∙ more_arguments_read g closed (with_term es e) k vs room

-- ## Statements

-- with `around` open, these lexemes are read as an expression with others behind it
expr_all : {around : ℕ} {e : Term} {xs ys : Lexemes} (k : List Symbol) (vs : Values) → w.IsExpr around e xs ys → around ≡ pending k → Ends 0 ys → pending k ≤ 200 → read (expr ∷ k) vs xs ≡ read k (a_term e ∷ vs) ys
expr_all {xs = xs} k vs h same ends low = let whole = expr_read h ends in read-expr k vs xs ∙ whole.reading k vs (omega arith)

-- with a semicolon behind it
value_all : {around : ℕ} {e : Term} {xs ys : Lexemes} {j : ℕ} (k : List Symbol) (vs : Values) → w.IsExpr around e xs (comes (terminal m.Semicolon) j ys) → around ≡ pending k → pending k ≤ 200 →
    read (expr ∷ exactly m.Semicolon ∷ k) vs xs ≡ read k (a_term e ∷ vs) ys
value_all {e = e} {ys = ys} {j = j} k vs h same low =
    expr_all (exactly m.Semicolon ∷ k) vs h same (tt, refl, refl, refl) low
    ∙ taken_open k (a_term e ∷ vs) j (comes (terminal m.Semicolon) j ys) low

-- the name that a statement begins with
named_all : (v : Word) (k : List Symbol) (vs : Values) (xs : Lexemes) → pending k ≤ 200 →
    read (stmts ∷ k) vs (comes (a_name v.name) v.line xs) ≡ read (assignment ∷ stmts ∷ k) (a_word v ∷ vs) xs
named_all v k vs xs low =
    taken_open (act (push (a_word v)) ∷ assignment ∷ stmts ∷ k) vs v.line (comes (a_name v.name) v.line xs) low
    ∙ read-act (push (a_word v)) (assignment ∷ stmts ∷ k) vs xs

-- no statement begins with `else`
statement_begins : {around : ℕ} {s : Statement} {xs ys : Lexemes} → w.IsStatement around s xs ys → NoElse xs
statement_begins (w.declares h) = tt
statement_begins (w.assigns h) = tt
statement_begins (w.assigns_at room h g) = tt
statement_begins (w.calls room h) = tt
statement_begins (w.outputs h) = tt
statement_begins (w.chooses h g j) = tt
statement_begins (w.repeats h g) = tt
statement_begins (w.is_atomic h) = tt
statement_begins (w.spawns h) = tt
statement_begins w.syncs = tt
statement_begins w.cancels = tt
statement_begins (w.returns h) = tt

statements_begin : {around : ℕ} {b : Block} {xs ys : Lexemes} → w.AreStatements around b xs ys → NoElse ys → NoElse xs
statements_begin w.no_statements over = over
statements_begin (w.statements h g) over = statement_begins h

-- a block begins with a token that does not belong to an expression
block_begins : {around : ℕ} {b : Block} {xs ys : Lexemes} → w.IsBlock around b xs ys → Ends 0 xs
block_begins (w.in_braces room h) = (tt, refl, refl, refl)

mutual
  statement_read : {around : ℕ} {s : Statement} {xs ys : Lexemes} (b : Block) (k : List Symbol) (vs : Values) → w.IsStatement around s xs ys → around ≡ pending k → NoElse ys → pending k ≤ 200 →
      read (stmts ∷ k) (a_block b ∷ vs) xs ≡ read (stmts ∷ k) (a_block (with_statement b s) ∷ vs) ys
  statement_read {ys = ys} b k vs (w.declares {h = g} {i = i} {l = l} {n = n} {e = e} {xs = xs} h) same over low =
      let value = comes (terminal m.Assign) i xs in
      let left = exactly m.Assign ∷ expr ∷ exactly m.Semicolon ∷ act let_done ∷ stmts ∷ k in
      let values = a_word (word_at n l) ∷ a_block b ∷ vs in
      taken_open (word ∷ left) (a_block b ∷ vs) g (comes (terminal m.Let) g (comes (a_name n) l value)) low
      ∙ taken_open (act (push (a_word (word_at n l))) ∷ left) (a_block b ∷ vs) l (comes (a_name n) l value) low
      ∙ read-act (push (a_word (word_at n l))) left (a_block b ∷ vs) value
      ∙ taken_open (expr ∷ exactly m.Semicolon ∷ act let_done ∷ stmts ∷ k) values i value low
      ∙ value_all (act let_done ∷ stmts ∷ k) values h same low
      ∙ read-act let_done (stmts ∷ k) (a_term e ∷ values) ys
  statement_read {ys = ys} b k vs (w.assigns {i = i} {l = l} {n = n} {e = e} {xs = xs} h) same over low =
      let values = a_word (word_at n l) ∷ a_block b ∷ vs in
      named_all (word_at n l) k (a_block b ∷ vs) (comes (terminal m.Assign) i xs) low
      ∙ taken_open (expr ∷ exactly m.Semicolon ∷ act assign_done ∷ stmts ∷ k) values i (comes (terminal m.Assign) i xs) low
      ∙ value_all (act assign_done ∷ stmts ∷ k) values h same low
      ∙ read-act assign_done (stmts ∷ k) (a_term e ∷ values) ys
  statement_read {ys = us} b k vs (w.assigns_at {g = g} {h = h} {i = i} {l = l} {n = n} {e = e} {f = f} {xs = xs} {ys = ys} room index value) same over low =
      let values = a_word (word_at n l) ∷ a_block b ∷ vs in
      let left = exactly m.Assign ∷ expr ∷ exactly m.Semicolon ∷ act assign_at_done ∷ stmts ∷ k in
      let assigned = comes (terminal m.Assign) i ys in
      named_all (word_at n l) k (a_block b ∷ vs) (comes (terminal m.SquareOpen) g xs) low
      ∙ taken_open (expr ∷ closing m.SquareClose ∷ left) values g (comes (terminal m.SquareOpen) g xs) (omega arith)
      ∙ expr_all (closing m.SquareClose ∷ left) values index (ap (λ n. n + 1) same) (tt, refl, refl, refl) (omega arith)
      ∙ taken_open left (a_term e ∷ values) h (comes (terminal m.SquareClose) h assigned) low
      ∙ taken_open (expr ∷ exactly m.Semicolon ∷ act assign_at_done ∷ stmts ∷ k) (a_term e ∷ values) i assigned low
      ∙ value_all (act assign_at_done ∷ stmts ∷ k) (a_term e ∷ values) value same low
      ∙ read-act assign_at_done (stmts ∷ k) (a_term f ∷ a_term e ∷ values) us
  statement_read {ys = ys} b k vs (w.calls {h = h} {i = i} {j = j} {l = l} {n = n} {es = es} {xs = xs} room g) same over low =
      let values = a_word (word_at n l) ∷ a_block b ∷ vs in
      let left = exactly m.Semicolon ∷ act run_done ∷ stmts ∷ k in
      let inside = closing m.ParenClose ∷ left in
      let close = comes (terminal m.ParenClose) i (comes (terminal m.Semicolon) j ys) in
      let whole = arguments_read g tt in
      named_all (word_at n l) k (a_block b ∷ vs) (comes (terminal m.ParenOpen) h xs) low
      ∙ taken_open (act (push (some_terms none)) ∷ args ∷ inside) values h (comes (terminal m.ParenOpen) h xs) (omega arith)
      ∙ read-act (push (some_terms none)) (args ∷ inside) values xs
      ∙ whole.reading inside values (omega arith)
      ∙ taken_open left (some_terms es ∷ values) i close low
      ∙ taken_open (act run_done ∷ stmts ∷ k) (some_terms es ∷ values) j (comes (terminal m.Semicolon) j ys) low
      ∙ read-act run_done (stmts ∷ k) (some_terms es ∷ values) ys
  statement_read {ys = ys} b k vs (w.outputs {i = i} {e = e} {xs = xs} h) same over low =
      taken_open (expr ∷ exactly m.Semicolon ∷ act out_done ∷ stmts ∷ k) (a_block b ∷ vs) i (comes (terminal m.Out) i xs) low
      ∙ value_all (act out_done ∷ stmts ∷ k) (a_block b ∷ vs) h same low
      ∙ read-act out_done (stmts ∷ k) (a_term e ∷ a_block b ∷ vs) ys
  statement_read {ys = ys} b k vs (w.chooses {i = i} {e = e} {b = c} {c = d} {xs = xs} {zs = zs} test then_done else_done) same over low =
      let done = act choose_done ∷ stmts ∷ k in
      let behind = act (push (a_block empty)) ∷ otherwise ∷ done in
      let tested = a_term e ∷ a_block b ∷ vs in
      taken_open (expr ∷ block ∷ behind) (a_block b ∷ vs) i (comes (terminal m.If) i xs) low
      ∙ expr_all (block ∷ behind) (a_block b ∷ vs) test same (block_begins then_done) low
      ∙ block_read behind tested then_done same
      ∙ read-act (push (a_block empty)) (otherwise ∷ done) (a_block c ∷ tested) zs
      ∙ else_read done (a_block c ∷ tested) else_done same over low
      ∙ read-act choose_done (stmts ∷ k) (a_block d ∷ a_block c ∷ tested) ys
  statement_read {ys = ys} b k vs (w.repeats {i = i} {e = e} {b = c} {xs = xs} test body) same over low =
      let done = act repeat_done ∷ stmts ∷ k in
      let tested = a_term e ∷ a_block b ∷ vs in
      taken_open (expr ∷ block ∷ done) (a_block b ∷ vs) i (comes (terminal m.While) i xs) low
      ∙ expr_all (block ∷ done) (a_block b ∷ vs) test same (block_begins body) low
      ∙ block_read done tested body same
      ∙ read-act repeat_done (stmts ∷ k) (a_block c ∷ tested) ys
  statement_read {ys = ys} b k vs (w.is_atomic {i = i} {b = c} {xs = xs} body) same over low =
      taken_open (block ∷ act atomic_done ∷ stmts ∷ k) (a_block b ∷ vs) i (comes (terminal m.Atomic) i xs) low
      ∙ block_read (act atomic_done ∷ stmts ∷ k) (a_block b ∷ vs) body same
      ∙ read-act atomic_done (stmts ∷ k) (a_block c ∷ a_block b ∷ vs) ys
  statement_read {ys = ys} b k vs (w.spawns {i = i} {b = c} {xs = xs} body) same over low =
      taken_open (block ∷ act spawn_done ∷ stmts ∷ k) (a_block b ∷ vs) i (comes (terminal m.Spawn) i xs) low
      ∙ block_read (act spawn_done ∷ stmts ∷ k) (a_block b ∷ vs) body same
      ∙ read-act spawn_done (stmts ∷ k) (a_block c ∷ a_block b ∷ vs) ys
  statement_read {ys = ys} b k vs (w.syncs {i = i} {j = j}) same over low =
      let close = comes (terminal m.Semicolon) j ys in
      let left = act sync_done ∷ stmts ∷ k in
      taken_open (exactly m.Semicolon ∷ left) (a_block b ∷ vs) i (comes (terminal m.Sync) i close) low
      ∙ taken_open left (a_block b ∷ vs) j close low
      ∙ read-act sync_done (stmts ∷ k) (a_block b ∷ vs) ys
  statement_read {ys = ys} b k vs (w.cancels {j = j} {l = l}) same over low =
      let close = comes (terminal m.Semicolon) j ys in
      let left = act cancel_done ∷ stmts ∷ k in
      taken_open (act (push (a_line l)) ∷ exactly m.Semicolon ∷ left) (a_block b ∷ vs) l (comes (terminal m.Cancel) l close) low
      ∙ read-act (push (a_line l)) (exactly m.Semicolon ∷ left) (a_block b ∷ vs) close
      ∙ taken_open left (a_line l ∷ a_block b ∷ vs) j close low
      ∙ read-act cancel_done (stmts ∷ k) (a_line l ∷ a_block b ∷ vs) ys
  statement_read {ys = ys} b k vs (w.returns {l = l} {e = e} {xs = xs} h) same over low =
      let left = expr ∷ exactly m.Semicolon ∷ act return_done ∷ stmts ∷ k in
      taken_open (act (push (a_line l)) ∷ left) (a_block b ∷ vs) l (comes (terminal m.Return) l xs) low
      ∙ read-act (push (a_line l)) left (a_block b ∷ vs) xs
      ∙ value_all (act return_done ∷ stmts ∷ k) (a_line l ∷ a_block b ∷ vs) h same low
      ∙ read-act return_done (stmts ∷ k) (a_term e ∷ a_line l ∷ a_block b ∷ vs) ys

  statements_read : {around : ℕ} {c : Block} {xs ys : Lexemes} (b : Block) (k : List Symbol) (vs : Values) → w.AreStatements around c xs ys → around ≡ pending k → NoElse ys → pending k ≤ 200 →
      read (stmts ∷ k) (a_block b ∷ vs) xs ≡ read (stmts ∷ k) (a_block (joined b c) ∷ vs) ys
  statements_read b k vs w.no_statements same over low = refl
  statements_read b k vs (w.statements {s = s} h g) same over low = statement_read b k vs h same (statements_begin g over) low ∙ statements_read (with_statement b s) k vs g same over low

  block_read : {around : ℕ} {b : Block} {xs ys : Lexemes} (k : List Symbol) (vs : Values) → w.IsBlock around b xs ys → around ≡ pending k → read (block ∷ k) vs xs ≡ read k (a_block b ∷ vs) ys
  block_read {ys = ys} k vs (w.in_braces {i = i} {j = j} {b = b} {xs = xs} room h) same =
      let close = comes (terminal m.BraceClose) j ys in
      let left = stmts ∷ closing m.BraceClose ∷ k in
      taken_open (act (push (a_block empty)) ∷ left) vs i (comes (terminal m.BraceOpen) i xs) (omega arith)
      ∙ read-act (push (a_block empty)) left vs xs
      ∙ statements_read empty (closing m.BraceClose ∷ k) vs h (ap (λ n. n + 1) same) tt (omega arith)
      ∙ ap (λ c. read left (a_block c ∷ vs) close) (joined_empty b)
      ∙ taken_open k (a_block b ∷ vs) j close (omega arith)

  else_read : {around : ℕ} {b : Block} {xs ys : Lexemes} (k : List Symbol) (vs : Values) → w.IsElse around b xs ys → around ≡ pending k → NoElse ys → pending k ≤ 200 →
      read (otherwise ∷ k) (a_block empty ∷ vs) xs ≡ read k (a_block b ∷ vs) ys
  else_read {xs = xs} k vs w.no_else same over low = skips_otherwise k (a_block empty ∷ vs) xs over
  else_read k vs (w.an_else {i = i} {xs = xs} body) same over low =
      taken_open (act without_newest ∷ block ∷ k) (a_block empty ∷ vs) i (comes (terminal m.Else) i xs) low
      ∙ read-act without_newest (block ∷ k) (a_block empty ∷ vs) xs
      ∙ block_read k vs body same

-- ## Items

-- the bracket of parameters ends here
skips_params : (k : List Symbol) (vs : Values) (xs : Lexemes) → IsClosed xs → read (params ∷ k) vs xs ≡ read k vs xs
skips_params k vs (comes (terminal m.ParenClose) l xs) h = refl
skips_params k vs xs h = absurd h

skips_more_params : (k : List Symbol) (vs : Values) (xs : Lexemes) → IsClosed xs → read (more_params ∷ k) vs xs ≡ read k vs xs
skips_more_params k vs (comes (terminal m.ParenClose) l xs) h = refl
skips_more_params k vs xs h = absurd h

more_params_read : {ws : List Word} {xs ys : Lexemes} (us : List Word) (k : List Symbol) (vs : Values) → w.AreMoreParams ws xs ys → IsClosed ys → pending k ≤ 200 →
    read (more_params ∷ k) (some_words us ∷ vs) xs ≡ read k (some_words (us ++ ws) ∷ vs) ys
more_params_read {ys = ys} us k vs w.no_more_params closed low =
    skips_more_params k (some_words us ∷ vs) ys closed ∙ ap (λ ws. read k (some_words ws ∷ vs) ys) (sym (append-nil us))
more_params_read {ys = ys} us k vs (w.more_params {i = i} {l = l} {n = n} {ws = ws} {xs = xs} h) closed low =
    let one = comes (a_name n) l xs in
    let done = act param_done ∷ more_params ∷ k in
    taken_open (word ∷ done) (some_words us ∷ vs) i (comes (terminal m.Comma) i one) low
    ∙ taken_open (act (push (a_word (word_at n l))) ∷ done) (some_words us ∷ vs) l one low
    ∙ read-act (push (a_word (word_at n l))) done (some_words us ∷ vs) xs
    ∙ read-act param_done (more_params ∷ k) (a_word (word_at n l) ∷ some_words us ∷ vs) xs
    ∙ more_params_read (us ++ word_at n l ∷ []) k vs h closed low
    ∙ ap (λ ws. read k (some_words ws ∷ vs) ys) (append_assoc us (word_at n l ∷ []) ws)

params_read : {ws : List Word} {xs ys : Lexemes} (k : List Symbol) (vs : Values) → w.AreParams ws xs ys → IsClosed ys → pending k ≤ 200 →
    read (params ∷ k) (some_words [] ∷ vs) xs ≡ read k (some_words ws ∷ vs) ys
params_read {ys = ys} k vs w.no_params closed low = skips_params k (some_words [] ∷ vs) ys closed
params_read k vs (w.params {l = l} {n = n} {xs = xs} h) closed low =
    let done = act param_done ∷ more_params ∷ k in
    taken_open (act (push (a_word (word_at n l))) ∷ done) (some_words [] ∷ vs) l (comes (a_name n) l xs) low
    ∙ read-act (push (a_word (word_at n l))) done (some_words [] ∷ vs) xs
    ∙ read-act param_done (more_params ∷ k) (a_word (word_at n l) ∷ some_words [] ∷ vs) xs
    ∙ more_params_read (word_at n l ∷ []) k vs h closed low

cell_over : (n : List ℕ) (l len : ℕ) (z : ℤ) (ds : List Declaration) (xs : Lexemes) →
    read (act cell_done ∷ items ∷ []) (an_init z ∷ a_size len ∷ a_word (word_at n l) ∷ declared ds ∷ []) xs ≡ read (items ∷ []) (declared (ds ++ cell n l len z ∷ []) ∷ []) xs
cell_over n l len z ds xs = read-act cell_done (items ∷ []) (an_init z ∷ a_size len ∷ a_word (word_at n l) ∷ declared ds ∷ []) xs

cell_read : {len j : ℕ} {z : ℤ} {xs ys zs : Lexemes} (i l : ℕ) (n : List ℕ) (ds : List Declaration) → w.IsSize len xs ys → w.IsInit z ys (comes (terminal m.Semicolon) j zs) →
    read (items ∷ []) (declared ds ∷ []) (comes (terminal m.Cell) i (comes (a_name n) l xs)) ≡ read (items ∷ []) (declared (ds ++ cell n l len z ∷ []) ∷ []) zs
cell_read {len} {z = z} {zs = zs} i l n ds w.no_size w.no_init = cell_over n l len z ds zs
cell_read {len} {z = z} {zs = zs} i l n ds w.no_size w.an_init = cell_over n l len z ds zs
cell_read {len} {zs = zs} i l n ds w.no_size (w.a_negative_init {n = k} is) =
    cell_over n l len (neg_ℤ (pos k)) ds zs ∙ ap (λ z. read (items ∷ []) (declared (ds ++ cell n l len z ∷ []) ∷ []) zs) (sym is)
cell_read {len} {z = z} {zs = zs} i l n ds w.a_size w.no_init = cell_over n l len z ds zs
cell_read {len} {z = z} {zs = zs} i l n ds w.a_size w.an_init = cell_over n l len z ds zs
cell_read {len} {zs = zs} i l n ds w.a_size (w.a_negative_init {n = k} is) =
    cell_over n l len (neg_ℤ (pos k)) ds zs ∙ ap (λ z. read (items ∷ []) (declared (ds ++ cell n l len z ∷ []) ∷ []) zs) (sym is)

item_read : {d : Declaration} {xs ys : Lexemes} (ds : List Declaration) → w.IsItem d xs ys → read (items ∷ []) (declared ds ∷ []) xs ≡ read (items ∷ []) (declared (ds ++ d ∷ []) ∷ []) ys
item_read ds (w.is_cell {i = i} {l = l} {n = n} size init) = cell_read i l n ds size init
item_read {ys = zs} ds (w.is_function {j = j} {l = l} {n = n} {ws = ws} {b = b} {xs = xs} {ys = ys} listed body) =
    let head = a_word (word_at n l) ∷ declared ds ∷ [] in
    let done = act func_done ∷ items ∷ [] in
    read-act (push (some_words [])) (params ∷ closing m.ParenClose ∷ block ∷ done) head xs
    ∙ params_read (closing m.ParenClose ∷ block ∷ done) head listed tt (lit≤ tt)
    ∙ taken_open (block ∷ done) (some_words ws ∷ head) j (comes (terminal m.ParenClose) j ys) (lit≤ tt)
    ∙ block_read done (some_words ws ∷ head) body refl
    ∙ read-act func_done (items ∷ []) (a_block b ∷ some_words ws ∷ head) zs

items_read : {es : List Declaration} {xs : Lexemes} (ds : List Declaration) → w.IsProgram es xs → program_in (read (items ∷ []) (declared ds ∷ []) xs) ≡ Ok (ds ++ es)
items_read ds w.over = ap Ok (sym (append-nil ds))
items_read ds (w.items {d = d} {ds = es} h g) = ap program_in (item_read ds h) ∙ items_read (ds ++ d ∷ []) g ∙ ap Ok (append_assoc ds (d ∷ []) es)

pub written_is_read : (xs : Lexemes) (ds : List Declaration) → w.IsProgram ds xs → program_of xs ≡ Ok ds
written_is_read xs ds h = items_read [] h
