-- A tree that tokens spell can be read from its own tokens.
use Rattle.std.proofs.Common.{◌≡◌, ℕ, zero, suc, ◌+◌, ◌^◌, ◌<◌, ◌≤◌, List, Ok, arith, ℤ, pos, neg_ℤ, nat_abs, lit≤, lit<, refl}
use Rattle.std.proofs.lemmas.List.Elements.{All-cons, All-nil}
use Rattle.cw_text.specs.declared.ast.Word.{Word}
use Rattle.cw_text.specs.Lexemes.{Lexemes}
use Rattle.cw_text.specs.Syntax.{Term, Terms, Statement, Block, Declaration}
use Rattle.cw_text.specs.Grammar.{program_of}
use Rattle.cw_text.specs.Printed.{AreReadableTerms, HasSmallNumbers, IsReadable, IsReadableBlock, IsReadableDeclaration, IsReadableStatement, IsReadableTerm}
use Rattle.cw_text.specs.Written as w
use Rattle.cw_text.proofs.Operators.{prefix_tightness, product_tightness, sum_tightness, comparison_tightness}
use Rattle.cw_text.proofs.ReadIsWritten.{read_is_written}
use Rattle.cw_text.proofs.Readable.{IsReadableAt, readable_binary, readable_bracketed, readable_call, readable_index, readable_looser, readable_more, readable_none, readable_unary, whole}

-- ## Expressions

-- an expression with these lexemes behind it
abbrev Good : (n around : ℕ) → Term → Lexemes → Type 0
Good n around e ys = IsReadableAt n around e × HasSmallNumbers ys

mutual
  first_good : {around : ℕ} {e : Term} {xs ys : Lexemes} → w.IsFirst around e xs ys → around ≤ 200 → HasSmallNumbers xs → Good 3 around e ys
  first_good w.a_number_alone room small = (record { formed = small.0; low = lit≤ tt; shallow = omega arith }, small.1)
  first_good w.a_name_alone room small = (record { formed = tt; low = lit≤ tt; shallow = omega arith }, small)
  first_good (w.an_element inside low h) room small = let r = expr_good h (omega arith) small in (readable_index _ low r.0, r.1)
  first_good (w.a_call inside low h) room small = let r = arguments_good h (omega arith) small in (readable_call _ low r.0, r.1)
  first_good (w.in_brackets inside h) room small = let r = expr_good h (omega arith) small in (readable_bracketed r.0, r.1)

  unary_good : {around : ℕ} {e : Term} {xs ys : Lexemes} → w.IsUnary around e xs ys → around ≤ 200 → HasSmallNumbers xs → Good 3 around e ys
  unary_good (w.prefixed is inside low h) room small = let r = unary_good h (omega arith) small in (readable_unary _ (prefix_tightness _ _ is) low r.0, r.1)
  unary_good (w.a_first h) room small = first_good h room small

  product_good : {around : ℕ} {e : Term} {xs ys : Lexemes} → w.IsProduct around e xs ys → around ≤ 200 → HasSmallNumbers xs → Good 2 around e ys
  product_good (w.a_unary h) room small = let r = unary_good h room small in (readable_looser 2 3 (lit≤ tt) r.0, r.1)
  product_good (w.multiplied is low h g) room small =
      let left = product_good h room small in
      let right = unary_good g room left.1 in
      (readable_binary _ 2 (product_tightness _ _ is) (lit< tt) low left.0 right.0, right.1)

  sum_good : {around : ℕ} {e : Term} {xs ys : Lexemes} → w.IsSum around e xs ys → around ≤ 200 → HasSmallNumbers xs → Good 1 around e ys
  sum_good (w.a_product h) room small = let r = product_good h room small in (readable_looser 1 2 (lit≤ tt) r.0, r.1)
  sum_good (w.added is low h g) room small =
      let left = sum_good h room small in
      let right = product_good g room left.1 in
      (readable_binary _ 1 (sum_tightness _ _ is) (lit< tt) low left.0 right.0, right.1)

  expr_good : {around : ℕ} {e : Term} {xs ys : Lexemes} → w.IsExpr around e xs ys → around ≤ 200 → HasSmallNumbers xs → Good 0 around e ys
  expr_good (w.a_sum h) room small = let r = sum_good h room small in (readable_looser 0 1 (lit≤ tt) r.0, r.1)
  expr_good (w.compared is low h g) room small =
      let left = sum_good h room small in
      let right = sum_good g room left.1 in
      (readable_binary _ 0 (comparison_tightness _ _ is) (lit< tt) low left.0 right.0, right.1)

  arguments_good : {around : ℕ} {es : Terms} {xs ys : Lexemes} → w.AreArguments around es xs ys → around ≤ 200 → HasSmallNumbers xs → AreReadableTerms around es × HasSmallNumbers ys
  arguments_good w.no_arguments room small = (readable_none room, small)
  arguments_good (w.arguments h g) room small =
      let one = expr_good h room small in
      let others = more_good g room one.1 in
      (readable_more _ _ _ (whole one.0) others.0, others.1)

  more_good : {around : ℕ} {es : Terms} {xs ys : Lexemes} → w.AreMoreArguments around es xs ys → around ≤ 200 → HasSmallNumbers xs → AreReadableTerms around es × HasSmallNumbers ys
  more_good w.no_more room small = (readable_none room, small)
  more_good (w.one_more h g) room small =
      let one = expr_good h room small in
      let others = more_good g room one.1 in
      (readable_more _ _ _ (whole one.0) others.0, others.1)

-- ## Statements

whole_good : {around : ℕ} {e : Term} {xs ys : Lexemes} → w.IsExpr around e xs ys → around ≤ 200 → HasSmallNumbers xs → IsReadableTerm around e × HasSmallNumbers ys
whole_good h room small = let r = expr_good h room small in (whole r.0, r.1)

mutual
  statement_good : {around : ℕ} {s : Statement} {xs ys : Lexemes} → w.IsStatement around s xs ys → around ≤ 200 → HasSmallNumbers xs → IsReadableStatement around s × HasSmallNumbers ys
  statement_good (w.declares h) room small = whole_good h room small
  statement_good (w.assigns h) room small = whole_good h room small
  statement_good (w.assigns_at inside h g) room small =
      let index = whole_good h (omega arith) small in
      let value = whole_good g room index.1 in
      ((index.0, value.0), value.1)
  statement_good (w.calls inside h) room small = arguments_good h (omega arith) small
  statement_good (w.outputs h) room small = whole_good h room small
  statement_good (w.chooses h g j) room small =
      let test = whole_good h room small in
      let then_done = block_good g test.1 in
      let else_done = else_good j then_done.0 then_done.2 in
      ((test.0, then_done.0, then_done.1, else_done.0), else_done.1)
  statement_good (w.repeats h g) room small =
      let test = whole_good h room small in
      let body = block_good g test.1 in
      ((test.0, body.0, body.1), body.2)
  statement_good (w.is_atomic h) room small = let body = block_good h small in ((body.0, body.1), body.2)
  statement_good (w.spawns h) room small = let body = block_good h small in ((body.0, body.1), body.2)
  statement_good w.syncs room small = (tt, small)
  statement_good w.cancels room small = (tt, small)
  statement_good (w.returns h) room small = whole_good h room small

  block_good : {around : ℕ} {b : Block} {xs ys : Lexemes} → w.IsBlock around b xs ys → HasSmallNumbers xs → (around < 200) × IsReadableBlock (around + 1) b × HasSmallNumbers ys
  block_good (w.in_braces inside h) small = let r = statements_good h (omega arith) small in (inside, r.0, r.1)

  else_good : {around : ℕ} {b : Block} {xs ys : Lexemes} → w.IsElse around b xs ys → around < 200 → HasSmallNumbers xs → IsReadableBlock (around + 1) b × HasSmallNumbers ys
  else_good w.no_else room small = (tt, small)
  else_good (w.an_else h) room small = let r = block_good h small in (r.1, r.2)

  statements_good : {around : ℕ} {b : Block} {xs ys : Lexemes} → w.AreStatements around b xs ys → around ≤ 200 → HasSmallNumbers xs → IsReadableBlock around b × HasSmallNumbers ys
  statements_good w.no_statements room small = (tt, small)
  statements_good (w.statements h g) room small =
      let one = statement_good h room small in
      let others = statements_good g room one.1 in
      ((one.0, others.0), others.1)

-- ## Items

nat_abs-neg : (n : ℕ) → nat_abs (neg_ℤ (pos n)) ≡ n
nat_abs-neg zero = refl
nat_abs-neg (suc n) = refl

size_good : {len : ℕ} {xs ys : Lexemes} → w.IsSize len xs ys → HasSmallNumbers xs → (len < 2 ^ 63) × HasSmallNumbers ys
size_good w.no_size small = (lit< tt, small)
size_good w.a_size small = small

init_good : {z : ℤ} {xs ys : Lexemes} → w.IsInit z xs ys → HasSmallNumbers xs → (nat_abs z < 2 ^ 63) × HasSmallNumbers ys
init_good w.no_init small = (lit< tt, small)
init_good w.an_init small = small
init_good (w.a_negative_init {n = n} is) small = (rw (is, nat_abs-neg n) small.0, small.1)

more_params_good : {ws : List Word} {xs ys : Lexemes} → w.AreMoreParams ws xs ys → HasSmallNumbers xs → HasSmallNumbers ys
more_params_good w.no_more_params small = small
more_params_good (w.more_params h) small = more_params_good h small

params_good : {ws : List Word} {xs ys : Lexemes} → w.AreParams ws xs ys → HasSmallNumbers xs → HasSmallNumbers ys
params_good w.no_params small = small
params_good (w.params h) small = more_params_good h small

item_good : {d : Declaration} {xs ys : Lexemes} → w.IsItem d xs ys → HasSmallNumbers xs → IsReadableDeclaration d × HasSmallNumbers ys
item_good (w.is_cell h g) small =
    let sized = size_good h small in
    let begun = init_good g sized.1 in
    ((sized.0, begun.0), begun.1)
item_good (w.is_function h g) small = let body = block_good g (params_good h small) in (body.1, body.2)

program_good : {ds : List Declaration} {xs : Lexemes} → w.IsProgram ds xs → HasSmallNumbers xs → IsReadable ds
program_good w.over small = All-nil IsReadableDeclaration
program_good (w.items h g) small = let one = item_good h small in All-cons IsReadableDeclaration _ _ one.0 (program_good g one.1)

pub read_is_readable : (xs : Lexemes) (ds : List Declaration) → HasSmallNumbers xs → program_of xs ≡ Ok ds → IsReadable ds
read_is_readable xs ds small is = program_good (read_is_written xs ds is) small
