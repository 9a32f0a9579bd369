-- Only the lines of names, of `cancel` and of `return` have a part in what is read.
use Rattle.std.proofs.Common.{◌≡◌, ℕ, zero, ◌+◌, nat_lt, cond, Bool, true, false, List, [], ◌∷◌, ◌++◌, Option, Some, None, Result, Ok, Err, refl, ap, sym, ◌∙◌}
use Rattle.cw_text.specs.declared.fault.TextFault.{TextFault}
use Rattle.cw_text.specs.declared.terminal.Terminal.TheVariants as m
use Rattle.cw_text.specs.Lexemes.{Token, Lexemes, end_on, comes, terminal, name as a_name, number as a_number, end}
use Rattle.cw_text.specs.Syntax.{Declaration}
use Rattle.cw_text.specs.Grammar.{Symbol, Values, ReadingState, Next, take, skip, refuse, act, arg_done, args, assignment, expansion, block, brackets, cell_init, cell_size, closing, comparison, comparison_of, declared, expr, feed, go_on, infix_by, operand_by, init, items, lift, lifted, more_args, more_params, newest_height, opened, operand, otherwise, pending, product_of, products, program_in, program_of, read, read_from, rest_of_expr, size, stmts, sum_of, sums, then_read}
use Rattle.cw_text.specs.Printed.{only_tree_lines}

-- ## Symbols without their lines

abbrev pub plain : List Symbol → List Symbol
plain [] = []
plain (lifted o l ∷ k) = lifted o 1 ∷ plain k
plain (read_from l ∷ k) = read_from 1 ∷ plain k
plain (brackets l ∷ k) = brackets 1 ∷ plain k
plain (s ∷ k) = s ∷ plain k

pending-plain : (k : List Symbol) → pending (plain k) ≡ pending k
pending-plain [] = refl
pending-plain (lifted o l ∷ k) = ap (λ n. n + 1) (pending-plain k)
pending-plain (closing a ∷ k) = ap (λ n. n + 1) (pending-plain k)
pending-plain (s ∷ k) = pending-plain k

plain-plain : (k : List Symbol) → plain (plain k) ≡ plain k
plain-plain [] = refl
plain-plain (lifted o l ∷ k) = ap (λ k. lifted o 1 ∷ k) (plain-plain k)
plain-plain (read_from l ∷ k) = ap (λ k. read_from 1 ∷ k) (plain-plain k)
plain-plain (brackets l ∷ k) = ap (λ k. brackets 1 ∷ k) (plain-plain k)
plain-plain (s ∷ k) = ap (λ k. s ∷ k) (plain-plain k)

plain-append : (ss k : List Symbol) → plain (ss ++ k) ≡ plain ss ++ plain k
plain-append [] k = refl
plain-append (lifted o l ∷ ss) k = ap (λ k. lifted o 1 ∷ k) (plain-append ss k)
plain-append (read_from l ∷ ss) k = ap (λ k. read_from 1 ∷ k) (plain-append ss k)
plain-append (brackets l ∷ ss) k = ap (λ k. brackets 1 ∷ k) (plain-append ss k)
plain-append (s ∷ ss) k = ap (λ k. s ∷ k) (plain-append ss k)

abbrev plain_next : Next → Next
plain_next (take ss) = take (plain ss)
plain_next skip = skip
plain_next (refuse why) = refuse why

abbrev without_lines : ReadingState → ReadingState
without_lines s = (plain s.0, s.1)

-- none after a fault
abbrev plain_state : Result ReadingState TextFault → Option ReadingState
plain_state (Ok s) = Some (without_lines s)
plain_state (Err e) = None

-- ## One token

-- the lines of a name, of `cancel` and of `return` count
abbrev SameLine : Token → ℕ → ℕ → Type 0
SameLine (a_name n) i l = i ≡ l
SameLine (terminal m.Cancel) i l = i ≡ l
SameLine (terminal m.Return) i l = i ≡ l
SameLine t i l = Unit {0}

operand_by-plain : (k : List Symbol) (t : Token) (i l : ℕ) → SameLine t i l → plain_next (operand_by k t i) ≡ plain_next (operand_by k t l)
operand_by-plain k (a_name n) i l same = ap (λ l. plain_next (operand_by k (a_name n) l)) same
operand_by-plain k (terminal m.ParenOpen) i l same = refl
operand_by-plain k (terminal m.Minus) i l same = refl
operand_by-plain k (terminal m.Bang) i l same = refl
operand_by-plain k (terminal a) i l same = refl
operand_by-plain k t i l same = refl

expansion-plain : (s : Symbol) (t : Token) (i l : ℕ) → SameLine t i l → plain_next (expansion s t i) ≡ plain_next (expansion s t l)
expansion-plain s (a_name n) i l same = ap (λ l. plain_next (expansion s (a_name n) l)) same
expansion-plain s (terminal m.Cancel) i l same = ap (λ l. plain_next (expansion s (terminal m.Cancel) l)) same
expansion-plain s (terminal m.Return) i l same = ap (λ l. plain_next (expansion s (terminal m.Return) l)) same
expansion-plain expr t i l same = operand_by-plain rest_of_expr t i l same
expansion-plain operand t i l same = operand_by-plain [] t i l same
expansion-plain products (terminal a) i l same = elim (product_of a) as (λ o. plain_next (infix_by o [] (products ∷ []) i) ≡ plain_next (infix_by o [] (products ∷ []) l)) [ None ↦ refl | Some o ↦ refl ]
expansion-plain sums (terminal a) i l same = elim (sum_of a) as (λ o. plain_next (infix_by o (products ∷ []) (sums ∷ []) i) ≡ plain_next (infix_by o (products ∷ []) (sums ∷ []) l)) [ None ↦ refl | Some o ↦ refl ]
expansion-plain comparison (terminal a) i l same = elim (comparison_of a) as (λ o. plain_next (infix_by o (products ∷ sums ∷ []) [] i) ≡ plain_next (infix_by o (products ∷ sums ∷ []) [] l)) [ None ↦ refl | Some o ↦ refl ]
expansion-plain items (terminal m.Cell) i l same = refl
expansion-plain items t i l same = refl
expansion-plain cell_size (terminal m.SquareOpen) i l same = refl
expansion-plain cell_size t i l same = refl
expansion-plain size (a_number zero) i l same = refl
expansion-plain size t i l same = refl
expansion-plain assignment (terminal m.Assign) i l same = refl
expansion-plain assignment (terminal m.SquareOpen) i l same = refl
expansion-plain assignment (terminal m.ParenOpen) i l same = refl
expansion-plain assignment t i l same = refl
expansion-plain args (terminal m.ParenClose) i l same = refl
expansion-plain args t i l same = operand_by-plain (rest_of_expr ++ act arg_done ∷ more_args ∷ []) t i l same
expansion-plain more_args (terminal m.Comma) i l same = refl
expansion-plain more_args t i l same = refl
expansion-plain more_params (terminal m.Comma) i l same = refl
expansion-plain more_params t i l same = refl
expansion-plain (brackets n) (terminal m.SquareOpen) i l same = refl
expansion-plain (brackets n) (terminal m.ParenOpen) i l same = refl
expansion-plain (brackets n) t i l same = refl
expansion-plain cell_init (terminal m.Assign) i l same = refl
expansion-plain cell_init t i l same = refl
expansion-plain init (terminal m.Minus) i l same = refl
expansion-plain init t i l same = refl
expansion-plain block (terminal m.BraceOpen) i l same = refl
expansion-plain block t i l same = refl
expansion-plain stmts (terminal m.Let) i l same = refl
expansion-plain stmts t i l same = refl
expansion-plain otherwise (terminal m.Else) i l same = refl
expansion-plain otherwise t i l same = refl
expansion-plain s t i l same = refl

-- the line of the name before does not count
brackets-plain : (n : ℕ) (t : Token) (i l : ℕ) → plain_next (expansion (brackets 1) t i) ≡ plain_next (expansion (brackets n) t l)
brackets-plain n (terminal m.SquareOpen) i l = refl
brackets-plain n (terminal m.ParenOpen) i l = refl
brackets-plain n t i l = refl

guard-plain : (b c : Bool) (f g : TextFault) (r q : Result ReadingState TextFault) → b ≡ c → plain_state r ≡ plain_state q → plain_state (cond b (Err f) r) ≡ plain_state (cond c (Err g) q)
guard-plain true true f g r q same h = refl
guard-plain true false f g r q same h = cc
guard-plain false true f g r q same h = cc
guard-plain false false f g r q same h = h

pending-same : (j k : List Symbol) → plain j ≡ plain k → pending j ≡ pending k
pending-same j k same = sym (pending-plain j) ∙ ap pending same ∙ pending-plain k

opened-plain : (j k : List Symbol) (vs : Values) (i l : ℕ) → plain j ≡ plain k → plain_state (opened j vs i) ≡ plain_state (opened k vs l)
opened-plain j k vs i l same =
    guard-plain (nat_lt 200 (pending j)) (nat_lt 200 (pending k)) _ _ (Ok (j, vs)) (Ok (k, vs)) (ap (nat_lt 200) (pending-same j k same)) (ap (λ k. Some (k, vs)) same)

go_on-plain : (m n : Next) (k : List Symbol) (vs : Values) (i l : ℕ) (r q : Result ReadingState TextFault) → plain_next m ≡ plain_next n → plain_state r ≡ plain_state q →
    plain_state (go_on m (plain k) vs i r) ≡ plain_state (go_on n k vs l q)
go_on-plain (take ss) (take ts) k vs i l r q same h =
    let e : plain ss ≡ plain ts = cc in
    opened-plain (ss ++ plain k) (ts ++ k) vs i l (plain-append ss (plain k) ∙ ap (λ k. plain ss ++ k) (plain-plain k) ∙ ap (λ ss. ss ++ plain k) e ∙ sym (plain-append ts k))
go_on-plain skip skip k vs i l r q same h = h
go_on-plain (refuse x) (refuse y) k vs i l r q same h = refl
go_on-plain m n k vs i l r q same h = cc

feed-plain : (k : List Symbol) (vs : Values) (t : Token) (i l : ℕ) → SameLine t i l → plain_state (feed (plain k) vs t i) ≡ plain_state (feed k vs t l)
feed-plain [] vs t i l same = refl
feed-plain (act f ∷ k) vs t i l same = feed-plain k (f vs) t i l same
feed-plain (lifted o j ∷ k) vs t i l same = guard-plain (nat_lt 200 (newest_height (lift o vs))) _ _ _ _ _ refl (feed-plain k (lift o vs) t i l same)
feed-plain (read_from j ∷ k) vs t i l same = guard-plain (nat_lt 200 (newest_height vs)) _ _ _ _ _ refl (feed-plain k vs t i l same)
feed-plain (brackets n ∷ k) vs t i l same = go_on-plain (expansion (brackets 1) t i) (expansion (brackets n) t l) k vs i l (feed (plain k) vs t i) (feed k vs t l) (brackets-plain n t i l) (feed-plain k vs t i l same)
feed-plain (s ∷ k) vs t i l same = go_on-plain (expansion s t i) (expansion s t l) k vs i l (feed (plain k) vs t i) (feed k vs t l) (expansion-plain s t i l same) (feed-plain k vs t i l same)

same_line : (t : Token) (l : ℕ) → SameLine t l l
same_line (a_name n) l = refl
same_line (terminal m.Cancel) l = refl
same_line (terminal m.Return) l = refl
same_line t l = tt

-- states that are the same without lines stay the same
feed_same : (j k : List Symbol) (vs : Values) (t : Token) (i l : ℕ) → plain j ≡ plain k → SameLine t i l → plain_state (feed j vs t i) ≡ plain_state (feed k vs t l)
feed_same j k vs t i l same line = sym (feed-plain j vs t i i (same_line t i)) ∙ ap (λ k. plain_state (feed k vs t i)) same ∙ feed-plain k vs t i l line

-- ## All tokens

abbrev values_of : Result Values TextFault → Option Values
values_of (Ok vs) = Some vs
values_of (Err e) = None

then_read-same : (r q : Result ReadingState TextFault) (go on : List Symbol → Values → Result Values TextFault) → plain_state r ≡ plain_state q →
    ((j k : List Symbol) (vs : Values) → plain j ≡ plain k → values_of (go j vs) ≡ values_of (on k vs)) → values_of (then_read r go) ≡ values_of (then_read q on)
then_read-same (Ok s) (Ok u) go on same h =
    let e : without_lines s ≡ without_lines u = cc in
    h s.0 u.0 s.1 (ap (λ s. s.0) e) ∙ ap (λ s. values_of (on u.0 s.1)) e
then_read-same (Err e) (Err f) go on same h = refl
then_read-same (Ok s) (Err f) go on same h = cc
then_read-same (Err e) (Ok u) go on same h = cc

read_same : (xs : Lexemes) (j k : List Symbol) (vs : Values) → plain j ≡ plain k → values_of (read j vs (only_tree_lines xs)) ≡ values_of (read k vs xs)
read_same (end_on l) j k vs same =
    then_read-same (feed j vs end 1) (feed k vs end l) (λ _ vs. Ok vs) (λ _ vs. Ok vs) (feed_same j k vs end 1 l same tt) (λ j k vs _. refl)
read_same (comes (a_name n) l xs) j k vs same =
    then_read-same (feed j vs (a_name n) l) (feed k vs (a_name n) l) (λ k vs. read k vs (only_tree_lines xs)) (λ k vs. read k vs xs) (feed_same j k vs (a_name n) l l same refl) (read_same xs)
read_same (comes (terminal m.Cancel) l xs) j k vs same =
    let again = terminal m.Cancel in
    then_read-same (feed j vs again l) (feed k vs again l) (λ k vs. read k vs (only_tree_lines xs)) (λ k vs. read k vs xs) (feed_same j k vs again l l same refl) (read_same xs)
read_same (comes (terminal m.Return) l xs) j k vs same =
    let again = terminal m.Return in
    then_read-same (feed j vs again l) (feed k vs again l) (λ k vs. read k vs (only_tree_lines xs)) (λ k vs. read k vs xs) (feed_same j k vs again l l same refl) (read_same xs)
read_same (comes t l xs) j k vs same =
    then_read-same (feed j vs t 1) (feed k vs t l) (λ k vs. read k vs (only_tree_lines xs)) (λ k vs. read k vs xs) (feed_same j k vs t 1 l same tt) (read_same xs)

program_in-same : (r q : Result Values TextFault) (ds : List Declaration) → values_of r ≡ values_of q → program_in r ≡ Ok ds → program_in q ≡ Ok ds
program_in-same (Ok vs) (Ok ws) ds same is = let e : vs ≡ ws = cc in ap (λ vs. program_in (Ok vs)) (sym e) ∙ is
program_in-same (Err e) q ds same is = cc
program_in-same (Ok vs) (Err e) ds same is = cc

pub program_of-same : (xs ys : Lexemes) (ds : List Declaration) → only_tree_lines xs ≡ only_tree_lines ys → program_of xs ≡ Ok ds → program_of ys ≡ Ok ds
program_of-same xs ys ds same =
    let start = items ∷ [] in
    let none = declared [] ∷ [] in
    program_in-same (read start none xs) (read start none ys) ds
    (sym (read_same xs start start none refl) ∙ ap (λ xs. values_of (read start none xs)) same ∙ read_same ys start start none refl)
