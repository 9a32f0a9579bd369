-- What was read, without its lines.
use Rattle.std.proofs.Common.{◌≡◌, ◌+◌, ◌∷◌, [], ℕ, map, ℤ, refl, ap}
use Rattle.std.proofs.lemmas.List.{map-append}
use Rattle.cw_text.specs.declared.ast.Op.{Op}
use Rattle.cw_text.specs.Syntax.{cancel, Term, Terms, number, name, at, call, unary, binary, none, more, Statement, Block, empty, first, declare, assign, assign_at, run, out, choose, repeat, atomic, spawn, return, with_term, with_statement, height, height_of_all}
use Rattle.cw_text.specs.Grammar as g
use Rattle.cw_text.specs.Grammar.{Value, Values, a_word, a_size, an_init, some_words, a_line, a_term, some_terms, a_block, declared, newest_height, stated}
use Rattle.cw_text.specs.WithoutLines.{word_without_line, term_without_lines, terms_without_lines, statement_without_lines, block_without_lines, tree_without_lines}

-- ## Trees without their lines

mutual
  height_without : (e : Term) → height (term_without_lines e) ≡ height e
  height_without (number z) = refl
  height_without (name w) = refl
  height_without (at w i) = ap (λ n. n + 1) (height_without i)
  height_without (call w es) = ap (λ n. n + 1) (heights_without es)
  height_without (unary o e) = ap (λ n. n + 1) (height_without e)
  height_without (binary o l r) = rw (height_without l, height_without r) refl

  heights_without : (es : Terms) → height_of_all (terms_without_lines es) ≡ height_of_all es
  heights_without none = refl
  heights_without (more e es) = rw (height_without e, heights_without es) refl

with_term_without : (es : Terms) (e : Term) → terms_without_lines (with_term es e) ≡ with_term (terms_without_lines es) (term_without_lines e)
with_term_without none e = refl
with_term_without (more x es) e = ap (more (term_without_lines x)) (with_term_without es e)

with_statement_without : (b : Block) (s : Statement) → block_without_lines (with_statement b s) ≡ with_statement (block_without_lines b) (statement_without_lines s)
with_statement_without empty s = refl
with_statement_without (first x b) s = ap (first (statement_without_lines x)) (with_statement_without b s)

-- ## What was read, without its lines

abbrev pub value_without : Value → Value
value_without (a_word w) = a_word (word_without_line w)
value_without (some_words ws) = some_words (map word_without_line ws)
value_without (a_line l) = a_line 1
value_without (a_term e) = a_term (term_without_lines e)
value_without (some_terms es) = some_terms (terms_without_lines es)
value_without (a_block b) = a_block (block_without_lines b)
value_without (declared ds) = declared (tree_without_lines ds)
value_without v = v

abbrev pub values_without : Values → Values
values_without [] = []
values_without (v ∷ vs) = value_without v ∷ values_without vs

pub newest_without : (vs : Values) → newest_height (values_without vs) ≡ newest_height vs
newest_without (a_term e ∷ vs) = height_without e
newest_without vs = refl

-- what is made of values without lines is without lines
abbrev pub Forgets : (f h : Values → Values) → Type 0
Forgets f h = (vs : Values) → values_without (f vs) ≡ h (values_without vs)

pub stated_forgets : (s : Statement) → Forgets (stated s) (stated (statement_without_lines s))
stated_forgets s (a_block b ∷ vs) = ap (λ b. a_block b ∷ values_without vs) (with_statement_without b s)
stated_forgets s vs = refl

pub with_size_forgets : (n : ℕ) → Forgets (g.with_size n) (g.with_size n)
with_size_forgets n (a_size z ∷ vs) = refl
with_size_forgets n vs = refl

pub with_init_forgets : (z : ℤ) → Forgets (g.with_init z) (g.with_init z)
with_init_forgets z (an_init i ∷ vs) = refl
with_init_forgets z vs = refl

pub cell_done_forgets : Forgets g.cell_done g.cell_done
cell_done_forgets (an_init i ∷ a_size n ∷ a_word w ∷ declared ds ∷ vs) = rw map-append refl
cell_done_forgets vs = refl

pub param_done_forgets : Forgets g.param_done g.param_done
param_done_forgets (a_word w ∷ some_words ws ∷ vs) = rw map-append refl
param_done_forgets vs = refl

pub func_done_forgets : Forgets g.func_done g.func_done
func_done_forgets (a_block b ∷ some_words ps ∷ a_word w ∷ declared ds ∷ vs) = rw map-append refl
func_done_forgets vs = refl

pub let_done_forgets : Forgets g.let_done g.let_done
let_done_forgets (a_term e ∷ a_word w ∷ vs) = stated_forgets (declare w e) vs
let_done_forgets vs = refl

pub assign_done_forgets : Forgets g.assign_done g.assign_done
assign_done_forgets (a_term e ∷ a_word w ∷ vs) = stated_forgets (assign w e) vs
assign_done_forgets vs = refl

pub assign_at_done_forgets : Forgets g.assign_at_done g.assign_at_done
assign_at_done_forgets (a_term e ∷ a_term i ∷ a_word w ∷ vs) = stated_forgets (assign_at w i e) vs
assign_at_done_forgets vs = refl

pub run_done_forgets : Forgets g.run_done g.run_done
run_done_forgets (some_terms es ∷ a_word w ∷ vs) = stated_forgets (run w es) vs
run_done_forgets vs = refl

pub out_done_forgets : Forgets g.out_done g.out_done
out_done_forgets (a_term e ∷ vs) = stated_forgets (out e) vs
out_done_forgets vs = refl

pub choose_done_forgets : Forgets g.choose_done g.choose_done
choose_done_forgets (a_block b ∷ a_block a ∷ a_term e ∷ vs) = stated_forgets (choose e a b) vs
choose_done_forgets vs = refl

pub repeat_done_forgets : Forgets g.repeat_done g.repeat_done
repeat_done_forgets (a_block b ∷ a_term e ∷ vs) = stated_forgets (repeat e b) vs
repeat_done_forgets vs = refl

pub atomic_done_forgets : Forgets g.atomic_done g.atomic_done
atomic_done_forgets (a_block b ∷ vs) = stated_forgets (atomic b) vs
atomic_done_forgets vs = refl

pub spawn_done_forgets : Forgets g.spawn_done g.spawn_done
spawn_done_forgets (a_block b ∷ vs) = stated_forgets (spawn b) vs
spawn_done_forgets vs = refl

pub cancel_done_forgets : Forgets g.cancel_done g.cancel_done
cancel_done_forgets (a_line l ∷ vs) = stated_forgets (cancel l) vs
cancel_done_forgets vs = refl

pub return_done_forgets : Forgets g.return_done g.return_done
return_done_forgets (a_term e ∷ a_line l ∷ vs) = stated_forgets (return l e) vs
return_done_forgets vs = refl

pub lift_forgets : (o : Op) → Forgets (g.lift o) (g.lift o)
lift_forgets o (a_term e ∷ vs) = refl
lift_forgets o vs = refl

pub join_forgets : (o : Op) → Forgets (g.join o) (g.join o)
join_forgets o (a_term r ∷ a_term l ∷ vs) = refl
join_forgets o vs = refl

pub index_done_forgets : Forgets g.index_done g.index_done
index_done_forgets (a_term i ∷ a_term (name w) ∷ vs) = refl
index_done_forgets vs = refl

pub arg_done_forgets : Forgets g.arg_done g.arg_done
arg_done_forgets (a_term e ∷ some_terms es ∷ vs) = ap (λ es. some_terms es ∷ values_without vs) (with_term_without es e)
arg_done_forgets vs = refl

pub call_done_forgets : Forgets g.call_done g.call_done
call_done_forgets (some_terms es ∷ a_term (name w) ∷ vs) = refl
call_done_forgets vs = refl

pub without_newest_forgets : Forgets g.without_newest g.without_newest
without_newest_forgets [] = refl
without_newest_forgets (v ∷ vs) = refl
