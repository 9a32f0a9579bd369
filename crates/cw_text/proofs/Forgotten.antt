-- Lines have no part in which tokens are a program: without them, tokens are read as the tree without its lines.
use Rattle.std.proofs.Common.{◌≡◌, ◌+◌, ◌∷◌, ◌++◌, ◌∙◌, [], ℕ, zero, suc, nat_lt, Bool, true, false, List, pos, neg_ℤ, Option, Some, None, Result, Ok, Err, refl, ap, sym, subst, cond}
use Rattle.cw_text.specs.declared.ast.Op.{Op}
use Rattle.cw_text.specs.declared.fault.TextKind.{TextKind}
use Rattle.cw_text.specs.declared.fault.TextKind.TheVariants.{TooDeep, Unexpected}
use Rattle.cw_text.specs.declared.fault.TextFault.{TextFault}
use Rattle.cw_text.specs.declared.terminal.Terminal.{Terminal}
use Rattle.cw_text.specs.declared.terminal.Terminal.TheVariants as m
use Rattle.cw_text.specs.Lexemes.{Token, Lexemes, end_on, comes, terminal, end, name as a_name, number as a_number}
use Rattle.cw_text.specs.Syntax.{Declaration, sync}
use Rattle.cw_text.specs.Grammar as g
use Rattle.cw_text.specs.Grammar.{Value, Values, Symbol, Next, ReadingState, take, skip, refuse, declared, act, lifted, read_from, brackets, closing, exactly, expansion, feed, go_on, opened, pending, newest_height, push, read, then_read, program_in, program_of, word, items, params, block, cell_size, cell_init, size, init, negated, more_params, stmts, assignment, otherwise, expr, operand, products, sums, comparison, args, more_args, infix_by, operand_by, product_of, sum_of, comparison_of, only, rest_of_expr}
use Rattle.cw_text.specs.WithoutLines.{tree_without_lines, tokens_without_lines}
use Rattle.cw_text.proofs.Forgetting.{cancel_done_forgets, Forgets, arg_done_forgets, assign_at_done_forgets, assign_done_forgets, atomic_done_forgets, call_done_forgets, cell_done_forgets, choose_done_forgets, func_done_forgets, index_done_forgets, join_forgets, let_done_forgets, lift_forgets, newest_without, out_done_forgets, param_done_forgets, repeat_done_forgets, return_done_forgets, run_done_forgets, spawn_done_forgets, stated_forgets, value_without, values_without, with_init_forgets, with_size_forgets, without_newest_forgets}

-- ## Symbols

-- a symbol that has no line, and makes nothing
abbrev IsPlain : Symbol → Type 0
IsPlain (act f) = ⊥
IsPlain (lifted o l) = ⊥
IsPlain (read_from l) = ⊥
IsPlain (brackets l) = ⊥
IsPlain s = Unit {0}

-- the same symbol, except for its line, and for the lines in what it makes
data Alike : Symbol → Symbol → Type 0 where
  plain : {s : Symbol} → IsPlain s → Alike s s
  makes : {f h : Values → Values} → Forgets f h → Alike (act f) (act h)
  lifts : {o : Op} {i l : ℕ} → Alike (lifted o i) (lifted o l)
  reads : {i l : ℕ} → Alike (read_from i) (read_from l)
  follows : {i l : ℕ} → Alike (brackets i) (brackets l)

data AllAlike : List Symbol → List Symbol → Type 0 where
  nil : AllAlike [] []
  also : {s u : Symbol} {ss us : List Symbol} → Alike s u → AllAlike ss us → AllAlike (s ∷ ss) (u ∷ us)

data NextAlike : Next → Next → Type 0 where
  takes : {ss us : List Symbol} → AllAlike ss us → NextAlike (take ss) (take us)
  skips : NextAlike skip skip
  refuses : {a b : TextKind} → NextAlike (refuse a) (refuse b)

append_alike : {ss us k j : List Symbol} → AllAlike ss us → AllAlike k j → AllAlike (ss ++ k) (us ++ j)
append_alike nil rest = rest
append_alike (also one others) rest = also one (append_alike others rest)

pending_one : (s : Symbol) (k j : List Symbol) → pending k ≡ pending j → pending (s ∷ k) ≡ pending (s ∷ j)
pending_one (closing a) k j h = ap (λ n. n + 1) h
pending_one (lifted o l) k j h = ap (λ n. n + 1) h
pending_one s k j h = h

pending_alike : {k j : List Symbol} → AllAlike k j → pending k ≡ pending j
pending_alike nil = refl
pending_alike (also (plain {s} is) rest) = pending_one s _ _ (pending_alike rest)
pending_alike (also (makes h) rest) = pending_alike rest
pending_alike (also lifts rest) = ap (λ n. n + 1) (pending_alike rest)
pending_alike (also reads rest) = pending_alike rest
pending_alike (also follows rest) = pending_alike rest

-- ## What a symbol says of a token

same : {s : Symbol} {ss us : List Symbol} → IsPlain s → AllAlike ss us → AllAlike (s ∷ ss) (s ∷ us)
same is rest = also (plain is) rest

done : {f : Values → Values} {ss us : List Symbol} → Forgets f f → AllAlike ss us → AllAlike (act f ∷ ss) (act f ∷ us)
done h rest = also (makes h) rest

-- a value that is put to the others
put : {v u : Value} {ss us : List Symbol} → value_without v ≡ u → AllAlike ss us → AllAlike (act (push v) ∷ ss) (act (push u) ∷ us)
put e rest = also (makes (λ vs. ap (λ u. u ∷ values_without vs) e)) rest

only_alike : (a b : Terminal) → NextAlike (only a b) (only a b)
only_alike a b = elim (g.same_terminal a b) as (λ c. NextAlike (cond c (take []) (refuse Unexpected)) (cond c (take []) (refuse Unexpected))) [ true ↦ takes nil | false ↦ refuses ]

infix_alike : (o : Option Op) (l : ℕ) {right following : List Symbol} → AllAlike right right → AllAlike following following →
    NextAlike (infix_by o right following l) (infix_by o right following 1)
infix_alike None l hr hf = skips
infix_alike (Some o) l hr hf = takes (append_alike (same tt hr) (done (join_forgets o) (also reads hf)))

operand_alike : {k j : List Symbol} (t : Token) (l : ℕ) → AllAlike k j → NextAlike (operand_by k t l) (operand_by j t 1)
operand_alike (a_number n) l h = takes (put refl h)
operand_alike (a_name n) l h = takes (put refl (also follows h))
operand_alike (terminal m.ParenOpen) l h = takes (same tt (same tt h))
operand_alike (terminal m.Minus) l h = takes (same tt (also lifts h))
operand_alike (terminal m.Bang) l h = takes (same tt (also lifts h))
operand_alike (terminal a) l h = refuses
operand_alike t l h = refuses

rest_alike : {k j : List Symbol} → AllAlike k j → AllAlike (rest_of_expr ++ k) (rest_of_expr ++ j)
rest_alike h = same tt (same tt (same tt h))

arguments_alike : AllAlike (act g.arg_done ∷ more_args ∷ []) (act g.arg_done ∷ more_args ∷ [])
arguments_alike = done arg_done_forgets (same tt nil)

brackets_alike : (n i : ℕ) (t : Token) (l : ℕ) → NextAlike (expansion (brackets n) t l) (expansion (brackets i) t 1)
brackets_alike n i (terminal m.SquareOpen) l = takes (same tt (same tt (done index_done_forgets (also reads nil))))
brackets_alike n i (terminal m.ParenOpen) l = takes (put refl (same tt (same tt (done call_done_forgets (also reads nil)))))
brackets_alike n i t l = skips

-- the symbols of a statement behind its first token
statement_alike : (t : Token) (l : ℕ) → NextAlike (expansion stmts t l) (expansion stmts t 1)
statement_alike (terminal m.Let) l = takes (same tt (same tt (same tt (same tt (done let_done_forgets (same tt nil))))))
statement_alike (terminal m.Out) l = takes (same tt (same tt (done out_done_forgets (same tt nil))))
statement_alike (a_name n) l = takes (put refl (same tt (same tt nil)))
statement_alike (terminal m.If) l = takes (same tt (same tt (put refl (same tt (done choose_done_forgets (same tt nil))))))
statement_alike (terminal m.While) l = takes (same tt (same tt (done repeat_done_forgets (same tt nil))))
statement_alike (terminal m.Atomic) l = takes (same tt (done atomic_done_forgets (same tt nil)))
statement_alike (terminal m.Spawn) l = takes (same tt (done spawn_done_forgets (same tt nil)))
statement_alike (terminal m.Sync) l = takes (same tt (done (stated_forgets sync) (same tt nil)))
statement_alike (terminal m.Cancel) l = takes (put refl (same tt (done cancel_done_forgets (same tt nil))))
statement_alike (terminal m.Return) l = takes (put refl (same tt (same tt (done return_done_forgets (same tt nil)))))
statement_alike t l = skips

assignment_alike : (t : Token) (l : ℕ) → NextAlike (expansion assignment t l) (expansion assignment t 1)
assignment_alike (terminal m.Assign) l = takes (same tt (same tt (done assign_done_forgets nil)))
assignment_alike (terminal m.SquareOpen) l = takes (same tt (same tt (same tt (same tt (same tt (done assign_at_done_forgets nil))))))
assignment_alike (terminal m.ParenOpen) l = takes (put refl (same tt (same tt (same tt (done run_done_forgets nil)))))
assignment_alike t l = refuses

item_alike : (t : Token) (l : ℕ) → NextAlike (expansion items t l) (expansion items t 1)
item_alike (terminal m.Cell) l = takes (same tt (put refl (same tt (put refl (same tt (same tt (done cell_done_forgets (same tt nil))))))))
item_alike (terminal m.Fn) l = takes (same tt (same tt (put refl (same tt (same tt (same tt (done func_done_forgets (same tt nil))))))))
item_alike end l = takes nil
item_alike t l = refuses

-- a symbol without a line says the same of a token on whatever line
expansion_alike : (s : Symbol) → IsPlain s → (t : Token) (l : ℕ) → NextAlike (expansion s t l) (expansion s t 1)
expansion_alike items is t l = item_alike t l
expansion_alike stmts is t l = statement_alike t l
expansion_alike assignment is t l = assignment_alike t l
expansion_alike word is (a_name n) l = takes (put refl nil)
expansion_alike word is t l = refuses
expansion_alike (exactly a) is (terminal b) l = only_alike a b
expansion_alike (exactly a) is t l = refuses
expansion_alike (closing a) is (terminal b) l = only_alike a b
expansion_alike (closing a) is t l = refuses
expansion_alike cell_size is (terminal m.SquareOpen) l = takes (same tt (same tt nil))
expansion_alike cell_size is t l = skips
expansion_alike size is (a_number zero) l = refuses
expansion_alike size is (a_number (suc n)) l = takes (done (with_size_forgets (suc n)) nil)
expansion_alike size is t l = refuses
expansion_alike cell_init is (terminal m.Assign) l = takes (same tt nil)
expansion_alike cell_init is t l = skips
expansion_alike init is (terminal m.Minus) l = takes (same tt nil)
expansion_alike init is (a_number n) l = takes (done (with_init_forgets (pos n)) nil)
expansion_alike init is t l = refuses
expansion_alike negated is (a_number n) l = takes (done (with_init_forgets (neg_ℤ (pos n))) nil)
expansion_alike negated is t l = refuses
expansion_alike params is (a_name n) l = takes (put refl (done param_done_forgets (same tt nil)))
expansion_alike params is t l = skips
expansion_alike more_params is (terminal m.Comma) l = takes (same tt (done param_done_forgets (same tt nil)))
expansion_alike more_params is t l = skips
expansion_alike block is (terminal m.BraceOpen) l = takes (put refl (same tt (same tt nil)))
expansion_alike block is t l = refuses
expansion_alike otherwise is (terminal m.Else) l = takes (done without_newest_forgets (same tt nil))
expansion_alike otherwise is t l = skips
expansion_alike expr is t l = operand_alike t l (rest_alike nil)
expansion_alike operand is t l = operand_alike t l nil
expansion_alike products is (terminal a) l = infix_alike (product_of a) l nil (same tt nil)
expansion_alike products is t l = skips
expansion_alike sums is (terminal a) l = infix_alike (sum_of a) l (same tt nil) (same tt nil)
expansion_alike sums is t l = skips
expansion_alike comparison is (terminal a) l = infix_alike (comparison_of a) l (same tt (same tt nil)) nil
expansion_alike comparison is t l = skips
expansion_alike (brackets n) is t l = absurd is
expansion_alike args is (terminal m.ParenClose) l = skips
expansion_alike args is t l = operand_alike t l (rest_alike arguments_alike)
expansion_alike more_args is (terminal m.Comma) l = takes (same tt (done arg_done_forgets (same tt nil)))
expansion_alike more_args is t l = skips
expansion_alike (act f) is t l = absurd is
expansion_alike (lifted o k) is t l = absurd is
expansion_alike (read_from k) is t l = absurd is

-- ## One token

abbrev StateAlike : Result ReadingState TextFault → Result ReadingState TextFault → Type 0
StateAlike (Ok s) (Ok u) = AllAlike s.0 u.0 × (values_without s.1 ≡ u.1)
StateAlike (Err e) (Err f) = Unit {0}
StateAlike r q = ⊥

guarded_alike : (b c : Bool) (e f : TextFault) (r q : Result ReadingState TextFault) → b ≡ c → StateAlike r q → StateAlike (cond b (Err e) r) (cond c (Err f) q)
guarded_alike true true e f r q is h = tt
guarded_alike false false e f r q is h = h
guarded_alike true false e f r q is h = cc
guarded_alike false true e f r q is h = cc

opened_alike : {k j : List Symbol} (vs : Values) (l : ℕ) → AllAlike k j → StateAlike (opened k vs l) (opened j (values_without vs) 1)
opened_alike {k} {j} vs l h = guarded_alike (nat_lt 200 (pending k)) (nat_lt 200 (pending j)) _ _ (Ok (k, vs)) (Ok (j, values_without vs)) (ap (nat_lt 200) (pending_alike h)) (h, refl)

go_on_alike : {a b : Next} {k j : List Symbol} (vs : Values) (l : ℕ) (r q : Result ReadingState TextFault) → NextAlike a b → AllAlike k j → StateAlike r q →
    StateAlike (go_on a k vs l r) (go_on b j (values_without vs) 1 q)
go_on_alike vs l r q (takes h) rest later = opened_alike vs l (append_alike h rest)
go_on_alike vs l r q skips rest later = later
go_on_alike vs l r q refuses rest later = tt

feed_plain : (s : Symbol) (k : List Symbol) (vs : Values) (t : Token) (l : ℕ) → IsPlain s → feed (s ∷ k) vs t l ≡ go_on (expansion s t l) k vs l (feed k vs t l)
feed_plain (act f) k vs t l is = absurd is
feed_plain (lifted o i) k vs t l is = absurd is
feed_plain (read_from i) k vs t l is = absurd is
feed_plain s k vs t l is = refl

feed_alike : {k j : List Symbol} → AllAlike k j → (vs : Values) (t : Token) (l : ℕ) → StateAlike (feed k vs t l) (feed j (values_without vs) t 1)
feed_alike nil vs t l = tt
feed_alike (also {ss = k} {us = j} (makes {f} {h} e) rest) vs t l =
    subst (λ ws. StateAlike (feed k (f vs) t l) (feed j ws t 1)) (e vs) (feed_alike rest (f vs) t l)
feed_alike (also {ss = k} {us = j} (lifts {o = o} {i = i} {l = n}) rest) vs t l =
    subst (λ ws. StateAlike (feed (lifted o i ∷ k) vs t l) (cond (nat_lt 200 (newest_height ws)) (g.text_fault TooDeep n) (feed j ws t 1)))
    (lift_forgets o vs)
    (guarded_alike _ _ _ _ (feed k (g.lift o vs) t l) (feed j (values_without (g.lift o vs)) t 1) (ap (nat_lt 200) (sym (newest_without (g.lift o vs)))) (feed_alike rest (g.lift o vs) t l))
feed_alike (also {ss = k} {us = j} reads rest) vs t l =
    guarded_alike _ _ _ _ (feed k vs t l) (feed j (values_without vs) t 1) (ap (nat_lt 200) (sym (newest_without vs))) (feed_alike rest vs t l)
feed_alike (also {ss = k} {us = j} (follows {i = n} {l = i}) rest) vs t l =
    go_on_alike vs l (feed k vs t l) (feed j (values_without vs) t 1) (brackets_alike n i t l) rest (feed_alike rest vs t l)
feed_alike (also {ss = k} {us = j} (plain {s} is) rest) vs t l =
    rw (feed_plain s k vs t l is, feed_plain s j (values_without vs) t 1 is)
    (go_on_alike vs l (feed k vs t l) (feed j (values_without vs) t 1) (expansion_alike s is t l) rest (feed_alike rest vs t l))

-- ## All tokens

abbrev ValuesAlike : Result Values TextFault → Result Values TextFault → Type 0
ValuesAlike (Ok vs) (Ok ws) = values_without vs ≡ ws
ValuesAlike (Err e) (Err f) = Unit {0}
ValuesAlike r q = ⊥

then_alike : (r q : Result ReadingState TextFault) (go on : List Symbol → Values → Result Values TextFault) → StateAlike r q →
    ((k j : List Symbol) (vs : Values) → AllAlike k j → ValuesAlike (go k vs) (on j (values_without vs))) → ValuesAlike (then_read r go) (then_read q on)
then_alike (Ok s) (Ok u) go on h next = subst (λ ws. ValuesAlike (go s.0 s.1) (on u.0 ws)) h.1 (next s.0 u.0 s.1 h.0)
then_alike (Err e) (Err f) go on h next = tt
then_alike (Ok s) (Err f) go on h next = absurd h
then_alike (Err e) (Ok u) go on h next = absurd h

read_alike : (xs : Lexemes) (k j : List Symbol) (vs : Values) → AllAlike k j → ValuesAlike (read k vs xs) (read j (values_without vs) (tokens_without_lines xs))
read_alike (end_on l) k j vs h =
    then_alike (feed k vs end l) (feed j (values_without vs) end 1) (λ _ vs. Ok vs) (λ _ vs. Ok vs) (feed_alike h vs end l) (λ k j vs _. refl)
read_alike (comes t l xs) k j vs h =
    then_alike (feed k vs t l) (feed j (values_without vs) t 1) (λ k vs. read k vs xs) (λ k vs. read k vs (tokens_without_lines xs)) (feed_alike h vs t l) (read_alike xs)

-- the tree among what was read
abbrev tree_in : Values → List Declaration
tree_in (declared ds ∷ vs) = ds
tree_in vs = []

program_in_is : (vs : Values) → program_in (Ok vs) ≡ Ok (tree_in vs)
program_in_is (declared ds ∷ vs) = refl
program_in_is vs = refl

tree_in_without : (vs : Values) → tree_in (values_without vs) ≡ tree_without_lines (tree_in vs)
tree_in_without (declared ds ∷ vs) = refl
tree_in_without vs = refl

program_in_without : (vs : Values) → program_in (Ok (values_without vs)) ≡ Ok (tree_without_lines (tree_in vs))
program_in_without vs = program_in_is (values_without vs) ∙ ap Ok (tree_in_without vs)

one_tree : (r : Result (List Declaration) TextFault) (ds es : List Declaration) → r ≡ Ok ds → r ≡ Ok es → ds ≡ es
one_tree r ds es is also_is = cc

forgotten_in : (r q : Result Values TextFault) (ds : List Declaration) → ValuesAlike r q → program_in r ≡ Ok ds → program_in q ≡ Ok (tree_without_lines ds)
forgotten_in (Ok vs) (Ok ws) ds h is =
    let e : tree_in vs ≡ ds = one_tree (program_in (Ok vs)) (tree_in vs) ds (program_in_is vs) is in
    ap (λ ws. program_in (Ok ws)) (sym h) ∙ program_in_without vs ∙ ap (λ ds. Ok (tree_without_lines ds)) e
forgotten_in (Err e) q ds h is = cc
forgotten_in (Ok vs) (Err f) ds h is = absurd h

abbrev Remembers : Result (List Declaration) TextFault → List Declaration → Type 0
Remembers r ds = (es : List Declaration) × (r ≡ Ok es) × (tree_without_lines es ≡ ds)

remembered_in : (r q : Result Values TextFault) (ds : List Declaration) → ValuesAlike r q → program_in q ≡ Ok ds → Remembers (program_in r) ds
remembered_in (Ok vs) (Ok ws) ds h is =
    (tree_in vs, program_in_is vs, one_tree (program_in (Ok (values_without vs))) (tree_without_lines (tree_in vs)) ds (program_in_without vs) (ap (λ ws. program_in (Ok ws)) h ∙ is))
remembered_in (Ok vs) (Err f) ds h is = cc
remembered_in (Err e) (Ok ws) ds h is = absurd h
remembered_in (Err e) (Err f) ds h is = cc

-- Tokens that are the same except for their lines are read as trees that are.
pub same_but_lines : (xs ys : Lexemes) (ds : List Declaration) → tokens_without_lines xs ≡ tokens_without_lines ys → program_of xs ≡ Ok ds →
    (es : List Declaration) × (program_of ys ≡ Ok es) × (tree_without_lines es ≡ tree_without_lines ds)
same_but_lines xs ys ds same is =
    let start = items ∷ [] in
    let none = declared [] ∷ [] in
    let both : AllAlike start start = also (plain tt) nil in
    let forgotten = forgotten_in (read start none xs) (read start none (tokens_without_lines xs)) ds (read_alike xs start start none both) is in
    remembered_in (read start none ys) (read start none (tokens_without_lines ys)) (tree_without_lines ds) (read_alike ys start start none both)
    (ap (λ xs. program_in (read start none xs)) (sym same) ∙ forgotten)
