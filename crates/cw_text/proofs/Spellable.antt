-- The tokens of a tree that was read are signs, and names and numbers of the tokens that it was read from.
use Rattle.std.proofs.Common.{◌≡◌, ℕ, zero, suc, ◌^◌, ◌<◌, Bool, true, false, nat_lt, List, ◌++◌, Ok, ℤ, pos, neg_ℤ, sym, subst}
use Rattle.std.specs.List.{flat_map}
use Rattle.cw_text.specs.declared.ast.Op.{Op}
use Rattle.cw_text.specs.declared.ast.Op.TheVariants as op
use Rattle.cw_text.specs.declared.ast.Word.{Word}
use Rattle.cw_text.specs.declared.terminal.Terminal.{Terminal}
use Rattle.cw_text.specs.declared.terminal.Terminal.TheVariants as m
use Rattle.cw_text.specs.Lexemes.{Lexemes, rest_of, end_on, comes, name as a_name, number as a_number, spelling, terminal, word_token}
use Rattle.cw_text.specs.Syntax.{Term, Terms, Statement, Block, empty, first, Declaration}
use Rattle.cw_text.specs.Grammar.{program_of}
use Rattle.cw_text.specs.Printed.{HasSmallNumbers, Placed, bracketed, else_tokens, in_braces, init_tokens, more_terms_tokens, declaration_tokens, sign, size_tokens, statement_tokens, statements_tokens, term_tokens, terminal_of, terms_tokens, tightness, tokens, value_tokens, word_tokens, words_tokens}
use Rattle.cw_text.specs.PrintedText.{AreSpellable, IsName, IsSpellable, more, none}
use Rattle.cw_text.specs.Written as w
use Rattle.cw_text.proofs.ReadIsWritten.{read_is_written}

-- the names and numbers among tokens can be spelled
abbrev pub CanBeSpelled : (words : List Terminal) → Lexemes → Type 0
CanBeSpelled words (end_on l) = Unit {0}
CanBeSpelled words (comes (a_name n) l xs) = IsName words n × CanBeSpelled words xs
CanBeSpelled words (comes (a_number n) l xs) = (n < 2 ^ 63) × CanBeSpelled words xs
CanBeSpelled words (comes (terminal m.Cancel) l xs) = (word_token words (spelling m.Cancel) ≡ terminal m.Cancel) × CanBeSpelled words xs
CanBeSpelled words (comes t l xs) = CanBeSpelled words xs

pub small_numbers : (words : List Terminal) (xs : Lexemes) → CanBeSpelled words xs → HasSmallNumbers xs
small_numbers words (end_on l) h = tt
small_numbers words (comes (a_name n) l xs) h = small_numbers words xs h.1
small_numbers words (comes (a_number n) l xs) h = (h.0, small_numbers words xs h.1)
small_numbers words (comes (terminal m.Cancel) l xs) h = small_numbers words xs h.1
small_numbers words (comes t l xs) h = small_numbers words xs h

pub rest_spelled : (words : List Terminal) (xs : Lexemes) → CanBeSpelled words xs → CanBeSpelled words (rest_of xs)
rest_spelled words (end_on l) h = tt
rest_spelled words (comes (a_name n) l xs) h = h.1
rest_spelled words (comes (a_number n) l xs) h = h.1
rest_spelled words (comes (terminal m.Cancel) l xs) h = h.1
rest_spelled words (comes (terminal m.Cell) l xs) h = h
rest_spelled words (comes (terminal a) l xs) h = h
rest_spelled words (comes t l xs) h = h

-- ## Tokens behind others

pub joined : {words : List Terminal} {ps qs : List Placed} → AreSpellable words ps → AreSpellable words qs → AreSpellable words (ps ++ qs)
joined none h = h
joined (more is g) h = more is (joined g h)

closed : {words : List Terminal} {ps : List Placed} (a : Terminal) → IsSpellable words (terminal a) → AreSpellable words ps → AreSpellable words (ps ++ sign a)
closed a is h = joined h (more is none)

bracketed_spells : {words : List Terminal} {ps : List Placed} (b : Bool) → AreSpellable words ps → AreSpellable words (bracketed b ps)
bracketed_spells true h = more tt (closed m.ParenClose tt h)
bracketed_spells false h = h

braced : {words : List Terminal} {ps : List Placed} → AreSpellable words ps → AreSpellable words (in_braces ps)
braced h = more tt (closed m.BraceClose tt h)

-- ## Expressions

operator_spells : (words : List Terminal) (o : Op) → IsSpellable words (terminal (terminal_of o))
operator_spells words op.Add = tt
operator_spells words o = tt

record Spells (words : List Terminal) (e : Term) : Type 0 where
  tokens : (n : ℕ) → AreSpellable words (term_tokens n e)

mutual
  first_spells : (words : List Terminal) {around : ℕ} {e : Term} {xs ys : Lexemes} → w.IsFirst around e xs ys → CanBeSpelled words xs → Spells words e × CanBeSpelled words ys
  first_spells words w.a_number_alone h = (record { tokens = λ n. more h.0 none }, h.1)
  first_spells words w.a_name_alone h = (record { tokens = λ n. more h.0 none }, h.1)
  first_spells words (w.an_element inside low g) h = let r = expr_spells words g h.1 in (record { tokens = λ n. more h.0 (more tt (closed m.SquareClose tt (r.0.tokens 0))) }, r.1)
  first_spells words (w.a_call inside low g) h = let r = arguments_spell words g h.1 in (record { tokens = λ n. more h.0 (more tt (closed m.ParenClose tt r.0)) }, r.1)
  first_spells words (w.in_brackets inside g) h = let r = expr_spells words g h in (r.0, r.1)

  unary_spells : (words : List Terminal) {around : ℕ} {e : Term} {xs ys : Lexemes} → w.IsUnary around e xs ys → CanBeSpelled words xs → Spells words e × CanBeSpelled words ys
  unary_spells words (w.prefixed {l = l} {a = a} {o = o} {xs = xs} is inside low g) h = let r = unary_spells words g (rest_spelled words (comes (terminal a) l xs) h) in (record { tokens = λ n. more (operator_spells words o) (r.0.tokens 3) }, r.1)
  unary_spells words (w.a_first g) h = first_spells words g h

  product_spells : (words : List Terminal) {around : ℕ} {e : Term} {xs ys : Lexemes} → w.IsProduct around e xs ys → CanBeSpelled words xs → Spells words e × CanBeSpelled words ys
  product_spells words (w.a_unary g) h = unary_spells words g h
  product_spells words (w.multiplied {l = l} {a = a} {o = o} {ys = ys} is low g j) h =
      let left = product_spells words g h in
      let right = unary_spells words j (rest_spelled words (comes (terminal a) l ys) left.1) in
      (record { tokens = λ n. bracketed_spells (nat_lt (tightness o) n) (joined (closed (terminal_of o) (operator_spells words o) (left.0.tokens _)) (right.0.tokens _)) }, right.1)

  sum_spells : (words : List Terminal) {around : ℕ} {e : Term} {xs ys : Lexemes} → w.IsSum around e xs ys → CanBeSpelled words xs → Spells words e × CanBeSpelled words ys
  sum_spells words (w.a_product g) h = product_spells words g h
  sum_spells words (w.added {l = l} {a = a} {o = o} {ys = ys} is low g j) h =
      let left = sum_spells words g h in
      let right = product_spells words j (rest_spelled words (comes (terminal a) l ys) left.1) in
      (record { tokens = λ n. bracketed_spells (nat_lt (tightness o) n) (joined (closed (terminal_of o) (operator_spells words o) (left.0.tokens _)) (right.0.tokens _)) }, right.1)

  expr_spells : (words : List Terminal) {around : ℕ} {e : Term} {xs ys : Lexemes} → w.IsExpr around e xs ys → CanBeSpelled words xs → Spells words e × CanBeSpelled words ys
  expr_spells words (w.a_sum g) h = sum_spells words g h
  expr_spells words (w.compared {l = l} {a = a} {o = o} {ys = ys} is low g j) h =
      let left = sum_spells words g h in
      let right = sum_spells words j (rest_spelled words (comes (terminal a) l ys) left.1) in
      (record { tokens = λ n. bracketed_spells (nat_lt (tightness o) n) (joined (closed (terminal_of o) (operator_spells words o) (left.0.tokens _)) (right.0.tokens _)) }, right.1)

  arguments_spell : (words : List Terminal) {around : ℕ} {es : Terms} {xs ys : Lexemes} → w.AreArguments around es xs ys → CanBeSpelled words xs → AreSpellable words (terms_tokens es) × CanBeSpelled words ys
  arguments_spell words w.no_arguments h = (none, h)
  arguments_spell words (w.arguments g j) h =
      let one = expr_spells words g h in
      let others = more_spell words j one.1 in
      (joined (one.0.tokens 0) others.0, others.1)

  more_spell : (words : List Terminal) {around : ℕ} {es : Terms} {xs ys : Lexemes} → w.AreMoreArguments around es xs ys → CanBeSpelled words xs → AreSpellable words (more_terms_tokens es) × CanBeSpelled words ys
  more_spell words w.no_more h = (none, h)
  more_spell words (w.one_more g j) h =
      let one = expr_spells words g h in
      let others = more_spell words j one.1 in
      (more tt (joined (one.0.tokens 0) others.0), others.1)

-- ## Statements

ended : {words : List Terminal} {e : Term} → Spells words e → AreSpellable words (term_tokens 0 e ++ sign m.Semicolon)
ended h = closed m.Semicolon tt (h.tokens 0)

value_spells : {words : List Terminal} {e : Term} → Spells words e → AreSpellable words (value_tokens e)
value_spells h = more tt (ended h)

else_spelled : {words : List Terminal} (b : Block) → AreSpellable words (statements_tokens b) → AreSpellable words (else_tokens b)
else_spelled empty h = none
else_spelled (first s b) h = more tt (braced h)

mutual
  statement_spells : (words : List Terminal) {around : ℕ} {s : Statement} {xs ys : Lexemes} → w.IsStatement around s xs ys → CanBeSpelled words xs → AreSpellable words (statement_tokens s) × CanBeSpelled words ys
  statement_spells words (w.declares g) h = let r = expr_spells words g h.1 in (more tt (more h.0 (value_spells r.0)), r.1)
  statement_spells words (w.assigns g) h = let r = expr_spells words g h.1 in (more h.0 (value_spells r.0), r.1)
  statement_spells words (w.assigns_at inside g j) h =
      let index = expr_spells words g h.1 in
      let value = expr_spells words j index.1 in
      (more h.0 (more tt (joined (closed m.SquareClose tt (index.0.tokens 0)) (value_spells value.0))), value.1)
  statement_spells words (w.calls inside g) h = let r = arguments_spell words g h.1 in (more h.0 (more tt (closed m.Semicolon tt (closed m.ParenClose tt r.0))), r.1)
  statement_spells words (w.outputs g) h = let r = expr_spells words g h in (more tt (ended r.0), r.1)
  statement_spells words (w.chooses g j k) h =
      let test = expr_spells words g h in
      let then_done = block_spells words j test.1 in
      let else_done = else_spells words k then_done.1 in
      (more tt (joined (joined (test.0.tokens 0) (braced then_done.0)) else_done.0), else_done.1)
  statement_spells words (w.repeats g j) h =
      let test = expr_spells words g h in
      let body = block_spells words j test.1 in
      (more tt (joined (test.0.tokens 0) (braced body.0)), body.1)
  statement_spells words (w.is_atomic g) h = let body = block_spells words g h in (more tt (braced body.0), body.1)
  statement_spells words (w.spawns g) h = let body = block_spells words g h in (more tt (braced body.0), body.1)
  statement_spells words w.syncs h = (more tt (more tt none), h)
  statement_spells words w.cancels h = (more h.0 (more tt none), h.1)
  statement_spells words (w.returns g) h = let r = expr_spells words g h in (more tt (ended r.0), r.1)

  block_spells : (words : List Terminal) {around : ℕ} {b : Block} {xs ys : Lexemes} → w.IsBlock around b xs ys → CanBeSpelled words xs → AreSpellable words (statements_tokens b) × CanBeSpelled words ys
  block_spells words (w.in_braces inside g) h = let r = statements_spell words g h in (r.0, r.1)

  else_spells : (words : List Terminal) {around : ℕ} {b : Block} {xs ys : Lexemes} → w.IsElse around b xs ys → CanBeSpelled words xs → AreSpellable words (else_tokens b) × CanBeSpelled words ys
  else_spells words w.no_else h = (none, h)
  else_spells words (w.an_else {b = b} g) h = let r = block_spells words g h in (else_spelled b r.0, r.1)

  statements_spell : (words : List Terminal) {around : ℕ} {b : Block} {xs ys : Lexemes} → w.AreStatements around b xs ys → CanBeSpelled words xs → AreSpellable words (statements_tokens b) × CanBeSpelled words ys
  statements_spell words w.no_statements h = (none, h)
  statements_spell words (w.statements g j) h =
      let one = statement_spells words g h in
      let others = statements_spell words j one.1 in
      (joined one.0 others.0, others.1)

-- ## Items

size_spells : (words : List Terminal) {len : ℕ} {xs ys : Lexemes} → w.IsSize len xs ys → CanBeSpelled words xs → AreSpellable words (size_tokens len) × CanBeSpelled words ys
size_spells words w.no_size h = (none, h)
size_spells words w.a_size h = (more tt (more h.0 (more tt none)), h.1)

positive_spells : {words : List Terminal} (n : ℕ) → n < 2 ^ 63 → AreSpellable words (init_tokens (pos n))
positive_spells zero small = none
positive_spells (suc n) small = more tt (more small none)

negative_spells : {words : List Terminal} (n : ℕ) → n < 2 ^ 63 → AreSpellable words (init_tokens (neg_ℤ (pos n)))
negative_spells zero small = none
negative_spells (suc n) small = more tt (more tt (more small none))

init_spells : (words : List Terminal) {z : ℤ} {xs ys : Lexemes} → w.IsInit z xs ys → CanBeSpelled words xs → AreSpellable words (init_tokens z) × CanBeSpelled words ys
init_spells words w.no_init h = (none, h)
init_spells words (w.an_init {n = n}) h = (positive_spells n h.0, h.1)
init_spells words (w.a_negative_init {n = n} is) h = (subst (λ z. AreSpellable words (init_tokens z)) (sym is) (negative_spells n h.0), h.1)

more_params_spell : (words : List Terminal) {ws : List Word} {xs ys : Lexemes} → w.AreMoreParams ws xs ys → CanBeSpelled words xs → AreSpellable words (flat_map (λ w. sign m.Comma ++ word_tokens w) ws) × CanBeSpelled words ys
more_params_spell words w.no_more_params h = (none, h)
more_params_spell words (w.more_params g) h = let r = more_params_spell words g h.1 in (more tt (more h.0 r.0), r.1)

params_spell : (words : List Terminal) {ws : List Word} {xs ys : Lexemes} → w.AreParams ws xs ys → CanBeSpelled words xs → AreSpellable words (words_tokens ws) × CanBeSpelled words ys
params_spell words w.no_params h = (none, h)
params_spell words (w.params g) h = let r = more_params_spell words g h.1 in (more h.0 r.0, r.1)

item_spells : (words : List Terminal) {d : Declaration} {xs ys : Lexemes} → w.IsItem d xs ys → CanBeSpelled words xs → AreSpellable words (declaration_tokens d) × CanBeSpelled words ys
item_spells words (w.is_cell g j) h =
    let sized = size_spells words g h.1 in
    let begun = init_spells words j sized.1 in
    (more tt (more h.0 (closed m.Semicolon tt (joined sized.0 begun.0))), begun.1)
item_spells words (w.is_function g j) h =
    let params = params_spell words g h.1 in
    let body = block_spells words j params.1 in
    (more tt (more h.0 (more tt (joined (closed m.ParenClose tt params.0) (braced body.0)))), body.1)

program_spells : (words : List Terminal) {ds : List Declaration} {xs : Lexemes} → w.IsProgram ds xs → CanBeSpelled words xs → AreSpellable words (tokens ds)
program_spells words w.over h = none
program_spells words (w.items g j) h = let one = item_spells words g h in joined one.0 (program_spells words j one.1)

pub read_is_spellable : (words : List Terminal) (xs : Lexemes) (ds : List Declaration) → CanBeSpelled words xs → program_of xs ≡ Ok ds → AreSpellable words (tokens ds)
read_is_spellable words xs ds h is = program_spells words (read_is_written xs ds is) h
