-- What is read is written so: along the tokens, what the symbols that may still come owe is kept. Whatever they are
-- written as from here on, the whole is written as it should be.
use Rattle.std.proofs.Common.{◌≡◌, ℕ, zero, suc, ◌+◌, ◌≤◌, nat_lt, cond, Bool, true, false, List, [], ◌∷◌, ◌++◌, Option, Some, None, Result, Ok, Err, refl, sym, subst, ap, ◌∙◌, arith, ℤ, pos, neg_ℤ, append-nil, append_assoc}
use Rattle.std.proofs.lemmas.Bool.{cond_both, ltb-false}
use Rattle.std.specs.Cmp.Lexicographic.{same_text}
use Rattle.cw_text.specs.declared.ast.Op.{Op}
use Rattle.cw_text.specs.declared.ast.Op.TheVariants as op
use Rattle.cw_text.specs.declared.ast.Word.{Word}
use Rattle.cw_text.specs.declared.fault.TextFault.{TextFault}
use Rattle.cw_text.specs.declared.fault.TextKind.TheVariants.{Unexpected}
use Rattle.cw_text.specs.declared.terminal.Terminal.{Terminal}
use Rattle.cw_text.specs.declared.terminal.Terminal.TheVariants as m
use Rattle.cw_text.specs.Lexemes.{Token, Lexemes, end_on, comes, terminal, name as a_name, number as a_number, end, spelling, keywords_of, front, Front, found}
use Rattle.cw_text.specs.Syntax.{Term, number, name, at, call, unary, binary, Terms, none, more, Statement, declare, assign, assign_at, run, out, choose, repeat, atomic, spawn, sync, cancel, return, Block, empty, first, with_statement, Declaration, cell, func}
use Rattle.cw_text.specs.Grammar.{Symbol, Values, ReadingState, a_line, a_term, a_word, a_size, a_block, an_init, act, arg_done, args, assignment, assign_done, assign_at_done, atomic_done, block, brackets, call_done, cell_done, cell_init, cell_size, choose_done, closing, comparison, comparison_of, declared, exactly, expr, feed, func_done, go_on, index_done, infix_by, init, items, join, let_done, lift, lifted, more_args, more_params, negated, newest_height, opened, operand, operand_by, otherwise, out_done, param_done, params, pending, product_of, products, program_in, program_of, push, read, read_from, refuse, repeat_done, rest_of_expr, return_done, cancel_done, run_done, same_terminal, size, some_terms, some_words, spawn_done, stated, stmts, sum_of, sums, sync_done, take, then_read, with_init, with_size, without_newest, word, word_at}
use Rattle.cw_text.specs.Written as w
use Rattle.cw_text.proofs.Blocks.{joined, joined_empty, with_terms, with_terms_one}

-- ## What is owed

-- the newest value is one of these, before these values
abbrev HasTerm : (Term → Values → Type 0) → Values → Type 0
HasTerm P (a_term e ∷ vs) = P e vs
HasTerm P vs = ⊥

abbrev HasName : (Word → Values → Type 0) → Values → Type 0
HasName P (a_term (name v) ∷ vs) = P v vs
HasName P vs = ⊥

abbrev HasTerms : (Terms → Values → Type 0) → Values → Type 0
HasTerms P (some_terms es ∷ vs) = P es vs
HasTerms P vs = ⊥

abbrev HasWord : (Word → Values → Type 0) → Values → Type 0
HasWord P (a_word v ∷ vs) = P v vs
HasWord P vs = ⊥

abbrev HasWords : (List Word → Values → Type 0) → Values → Type 0
HasWords P (some_words us ∷ vs) = P us vs
HasWords P vs = ⊥

abbrev HasBlock : (Block → Values → Type 0) → Values → Type 0
HasBlock P (a_block b ∷ vs) = P b vs
HasBlock P vs = ⊥

abbrev HasSize : (ℕ → Values → Type 0) → Values → Type 0
HasSize P (a_size n ∷ vs) = P n vs
HasSize P vs = ⊥

abbrev HasInit : (ℤ → Values → Type 0) → Values → Type 0
HasInit P (an_init z ∷ vs) = P z vs
HasInit P vs = ⊥

abbrev HasDeclared : (List Declaration → Type 0) → Values → Type 0
HasDeclared P (declared ds ∷ []) = P ds
HasDeclared P vs = ⊥

-- The operand was read from some token on, and First is true of it. P goes on with whatever begins at that token and has All.
abbrev GoesOn : (First All : Term → Lexemes → Lexemes → Type 0) → (Values → Lexemes → Type 0) → Values → Lexemes → Type 0
GoesOn First All P vs xs = HasTerm (λ e us. (start : Lexemes) × First e start xs × ((f : Term) (ys : Lexemes) → All f start ys → P (a_term f ∷ us) ys)) vs

-- What these symbols owe from here on, so that this is true of the declarations in the end.
abbrev Owes : (List Declaration → Type 0) → List Symbol → Values → Lexemes → Type 0
Owes P [] vs xs = Unit {0}
Owes P (act f ∷ k) vs xs = Owes P k (f vs) xs
Owes P (exactly a ∷ k) vs xs = (l : ℕ) (ys : Lexemes) → xs ≡ comes (terminal a) l ys → Owes P k vs ys
Owes P (closing a ∷ k) vs xs = (l : ℕ) (ys : Lexemes) → xs ≡ comes (terminal a) l ys → Owes P k vs ys
Owes P (lifted o l ∷ k) vs xs = newest_height (lift o vs) ≤ 200 → Owes P k (lift o vs) xs
Owes P (read_from l ∷ k) vs xs = newest_height vs ≤ 200 → Owes P k vs xs
Owes P (word ∷ k) vs xs = (n : List ℕ) (l : ℕ) (ys : Lexemes) → xs ≡ comes (a_name n) l ys → Owes P k (a_word (word_at n l) ∷ vs) ys
Owes P (size ∷ k) vs xs = (n l : ℕ) (ys : Lexemes) → xs ≡ comes (a_number (suc n)) l ys → Owes P k (with_size (suc n) vs) ys
Owes P (init ∷ k) vs xs = (z : ℤ) (ys : Lexemes) → ((i : ℕ) → w.IsInit z (comes (terminal m.Assign) i xs) ys) → Owes P k (with_init z vs) ys
Owes P (negated ∷ k) vs xs = (n l : ℕ) (ys : Lexemes) → xs ≡ comes (a_number n) l ys → Owes P k (with_init (neg_ℤ (pos n)) vs) ys
Owes P (cell_size ∷ k) vs xs = HasSize (λ z us. (z ≡ 0) × ((n : ℕ) (ys : Lexemes) → w.IsSize n xs ys → Owes P k (a_size n ∷ us) ys)) vs
Owes P (cell_init ∷ k) vs xs = HasInit (λ z us. (z ≡ pos 0) × ((y : ℤ) (ys : Lexemes) → w.IsInit y xs ys → Owes P k (an_init y ∷ us) ys)) vs
Owes P (params ∷ k) vs xs = HasWords (λ us ts. (us ≡ []) × ((ws : List Word) (ys : Lexemes) → w.AreParams ws xs ys → Owes P k (some_words ws ∷ ts) ys)) vs
Owes P (more_params ∷ k) vs xs = HasWords (λ us ts. (ws : List Word) (ys : Lexemes) → w.AreMoreParams ws xs ys → Owes P k (some_words (us ++ ws) ∷ ts) ys) vs
Owes P (operand ∷ k) vs xs = (e : Term) (ys : Lexemes) → w.IsUnary (pending k) e xs ys → Owes P k (a_term e ∷ vs) ys
Owes P (expr ∷ k) vs xs = (e : Term) (ys : Lexemes) → w.IsExpr (pending k) e xs ys → Owes P k (a_term e ∷ vs) ys
Owes P (brackets l ∷ k) vs xs = HasName (λ v us. (e : Term) (ys : Lexemes) → w.IsFirst (pending k) e (comes (a_name v.name) v.line xs) ys → Owes P k (a_term e ∷ us) ys) vs
Owes P (args ∷ k) vs xs = HasTerms (λ es us. (es ≡ none) × ((fs : Terms) (ys : Lexemes) → w.AreArguments (pending k) fs xs ys → Owes P k (some_terms fs ∷ us) ys)) vs
Owes P (more_args ∷ k) vs xs = HasTerms (λ es us. (fs : Terms) (ys : Lexemes) → w.AreMoreArguments (pending k) fs xs ys → Owes P k (some_terms (with_terms es fs) ∷ us) ys) vs
Owes P (products ∷ k) vs xs = GoesOn (w.IsProduct (pending k)) (w.IsProduct (pending k)) (Owes P k) vs xs
Owes P (sums ∷ k) vs xs = GoesOn (w.IsSum (pending k)) (w.IsSum (pending k)) (Owes P k) vs xs
Owes P (comparison ∷ k) vs xs = GoesOn (w.IsSum (pending k)) (w.IsExpr (pending k)) (Owes P k) vs xs
Owes P (block ∷ k) vs xs = (b : Block) (ys : Lexemes) → w.IsBlock (pending k) b xs ys → Owes P k (a_block b ∷ vs) ys
Owes P (stmts ∷ k) vs xs = HasBlock (λ b us. (c : Block) (ys : Lexemes) → w.AreStatements (pending k) c xs ys → Owes P k (a_block (joined b c) ∷ us) ys) vs
Owes P (otherwise ∷ k) vs xs = HasBlock (λ b us. (b ≡ empty) × ((c : Block) (ys : Lexemes) → w.IsElse (pending k) c xs ys → Owes P k (a_block c ∷ us) ys)) vs
Owes P (assignment ∷ k) vs xs = HasWord (λ v us. (s : Statement) (ys : Lexemes) → w.IsStatement (pending k) s (comes (a_name v.name) v.line xs) ys → Owes P k (stated s us) ys) vs
Owes P (items ∷ []) vs xs = HasDeclared (λ ds. (es : List Declaration) → w.IsProgram es xs → P (ds ++ es)) vs
Owes P (items ∷ s ∷ k) vs xs = ⊥

-- ## One token

abbrev token_of : Lexemes → Token
token_of (end_on l) = end
token_of (comes t l xs) = t

abbrev line_of : Lexemes → ℕ
line_of (end_on l) = l
line_of (comes t l xs) = l

-- Behind a token the symbols that may come then owe the rest, and behind the end all is as it should be.
abbrev Leads : (List Declaration → Type 0) → Lexemes → Result ReadingState TextFault → Type 0
Leads P xs (Err e) = Unit {0}
Leads P (end_on l) (Ok s) = HasDeclared P s.1
Leads P (comes end l xs) (Ok s) = s.0 ≡ []
Leads P (comes t l xs) (Ok s) = Owes P s.0 s.1 xs

-- the same terminal is spelled the same
abbrev terminal_in : Front → Terminal
terminal_in (found (terminal a) n) = a
terminal_in f = m.Cell

terminal_spelled : (a : Terminal) → terminal_in (front (keywords_of 2) (spelling a)) ≡ a
terminal_spelled m.Cell = refl
terminal_spelled a = refl

spelled_alike : (a b : Terminal) → true ≡ same_terminal a b → a ≡ b
spelled_alike a b same = sym (terminal_spelled a) ∙ ap (λ s. terminal_in (front (keywords_of 2) s)) (same_text (spelling a) (spelling b) same) ∙ terminal_spelled b

unless : (P : List Declaration → Type 0) (b : Bool) (xs : Lexemes) (f : TextFault) (r : Result ReadingState TextFault) → (b ≡ false → Leads P xs r) → Leads P xs (cond b (Err f) r)
unless P b xs f r h = cond_both b (Err f) r (Leads P xs) (λ _. tt) h

opened_leads : (P : List Declaration → Type 0) (k : List Symbol) (vs : Values) (xs : Lexemes) (l : ℕ) → (pending k ≤ 200 → Leads P xs (Ok (k, vs))) → Leads P xs (opened k vs l)
opened_leads P k vs xs l h = unless P (nat_lt 200 (pending k)) xs _ (Ok (k, vs)) (λ few. h (ltb-false 200 (pending k) few))

only_leads : (P : List Declaration → Type 0) (same : Bool) (k : List Symbol) (vs : Values) (a b : Terminal) (l : ℕ) (xs : Lexemes) (rest : Result ReadingState TextFault) →
    same ≡ same_terminal a b → ((i : ℕ) (ys : Lexemes) → comes (terminal b) l xs ≡ comes (terminal a) i ys → Owes P k vs ys) →
    Leads P (comes (terminal b) l xs) (go_on (cond same (take []) (refuse Unexpected)) k vs l rest)
only_leads P true k vs a b l xs rest is owes = opened_leads P k vs (comes (terminal b) l xs) l (λ _. owes l xs (ap (λ c. comes (terminal c) l xs) (sym (spelled_alike a b is))))
only_leads P false k vs a b l xs rest is owes = tt

infix_leads : (P : List Declaration → Type 0) (found : Option Op) (right following k : List Symbol) (vs : Values) (a : Terminal) (l : ℕ) (xs : Lexemes) (rest : Result ReadingState TextFault) →
    ((o : Op) → found ≡ Some o → Owes P ((operand ∷ right ++ act (join o) ∷ read_from l ∷ following) ++ k) vs xs) →
    Leads P (comes (terminal a) l xs) rest → Leads P (comes (terminal a) l xs) (go_on (infix_by found right following l) k vs l rest)
infix_leads P None right following k vs a l xs rest taken skipped = skipped
infix_leads P (Some o) right following k vs a l xs rest taken skipped =
    opened_leads P ((operand ∷ right ++ act (join o) ∷ read_from l ∷ following) ++ k) vs (comes (terminal a) l xs) l (λ low. taken o refl)

-- what is owed of an operand, where these symbols stand behind it
abbrev OwesOperand : (List Declaration → Type 0) → List Symbol → Values → Lexemes → Type 0
OwesOperand P k vs xs = (e : Term) (ys : Lexemes) → w.IsUnary (pending k) e xs ys → Owes P k (a_term e ∷ vs) ys

operand_leads : (P : List Declaration → Type 0) (ss k : List Symbol) (vs : Values) (xs : Lexemes) (rest : Result ReadingState TextFault) →
    OwesOperand P (ss ++ k) vs xs → Leads P xs (go_on (operand_by ss (token_of xs) (line_of xs)) k vs (line_of xs) rest)
operand_leads P ss k vs (comes (a_number n) l xs) rest owes =
    opened_leads P (act (push (a_term (number (pos n)))) ∷ (ss ++ k)) vs (comes (a_number n) l xs) l
    (λ low. owes (number (pos n)) xs (w.a_first w.a_number_alone))
operand_leads P ss k vs (comes (a_name n) l xs) rest owes =
    opened_leads P (act (push (a_term (name (word_at n l)))) ∷ brackets l ∷ (ss ++ k)) vs (comes (a_name n) l xs) l
    (λ low e ys h. owes e ys (w.a_first h))
operand_leads P ss k vs (comes (terminal m.ParenOpen) l xs) rest owes =
    opened_leads P (expr ∷ closing m.ParenClose ∷ (ss ++ k)) vs (comes (terminal m.ParenOpen) l xs) l
    (λ low e ys h i zs is. owes e zs (w.a_first (w.in_brackets (omega arith) (subst (w.IsExpr (pending (ss ++ k) + 1) e xs) is h))))
operand_leads P ss k vs (comes (terminal m.Minus) l xs) rest owes =
    opened_leads P (operand ∷ lifted op.Neg l ∷ (ss ++ k)) vs (comes (terminal m.Minus) l xs) l
    (λ low e ys h high. owes (unary op.Neg e) ys (w.prefixed refl (omega arith) high h))
operand_leads P ss k vs (comes (terminal m.Bang) l xs) rest owes =
    opened_leads P (operand ∷ lifted op.Not l ∷ (ss ++ k)) vs (comes (terminal m.Bang) l xs) l
    (λ low e ys h high. owes (unary op.Not e) ys (w.prefixed refl (omega arith) high h))
operand_leads P ss k vs (comes (terminal a) l xs) rest owes = tt
operand_leads P ss k vs xs rest owes = tt

-- an expression, which begins with an operand
expr_owes : (P : List Declaration → Type 0) (k : List Symbol) (vs : Values) (xs : Lexemes) →
    ((e : Term) (ys : Lexemes) → w.IsExpr (pending k) e xs ys → Owes P k (a_term e ∷ vs) ys) → OwesOperand P (rest_of_expr ++ k) vs xs
expr_owes P k vs xs owes e ys h = (xs, w.a_unary h, λ f zs g. (xs, w.a_product g, λ f zs g. (xs, g, owes)))

-- one argument, and those behind it
first_argument_owes : (P : List Declaration → Type 0) (k : List Symbol) (us : Values) (xs : Lexemes) →
    ((fs : Terms) (ys : Lexemes) → w.AreArguments (pending k) fs xs ys → Owes P k (some_terms fs ∷ us) ys) →
    (e : Term) (ys : Lexemes) → w.IsExpr (pending k) e xs ys → Owes P (act arg_done ∷ more_args ∷ k) (a_term e ∷ some_terms none ∷ us) ys
first_argument_owes P k us xs owes e ys h fs zs g =
    subst (λ es. Owes P k (some_terms es ∷ us) zs) (sym (with_terms_one e fs)) (owes (more e fs) zs (w.arguments h g))

-- a statement behind those of the block that is open
statement_owes : (P : List Declaration → Type 0) (k : List Symbol) (us : Values) (b : Block) (xs : Lexemes) → Owes P (stmts ∷ k) (a_block b ∷ us) xs →
    (s : Statement) (ys : Lexemes) → w.IsStatement (pending k) s xs ys → Owes P (stmts ∷ k) (a_block (with_statement b s) ∷ us) ys
statement_owes P k us b xs owes s ys h c zs g = owes (first s c) zs (w.statements h g)

-- One token, or the end: what was owed is kept.
step : (P : List Declaration → Type 0) (k : List Symbol) (vs : Values) (xs : Lexemes) → Owes P k vs xs → Leads P xs (feed k vs (token_of xs) (line_of xs))
step P [] vs xs owes = tt
step P (act f ∷ k) vs xs owes = step P k (f vs) xs owes
step P (lifted o j ∷ k) vs xs owes = unless P (nat_lt 200 (newest_height (lift o vs))) xs _ _ (λ few. step P k (lift o vs) xs (owes (ltb-false 200 (newest_height (lift o vs)) few)))
step P (read_from j ∷ k) vs xs owes = unless P (nat_lt 200 (newest_height vs)) xs _ _ (λ few. step P k vs xs (owes (ltb-false 200 (newest_height vs) few)))
step P (exactly a ∷ k) vs (comes (terminal b) l xs) owes = only_leads P (same_terminal a b) k vs a b l xs _ refl owes
step P (exactly a ∷ k) vs xs owes = tt
step P (closing a ∷ k) vs (comes (terminal b) l xs) owes = only_leads P (same_terminal a b) k vs a b l xs _ refl owes
step P (closing a ∷ k) vs xs owes = tt
step P (word ∷ k) vs (comes (a_name n) l xs) owes = opened_leads P (act (push (a_word (word_at n l))) ∷ k) vs (comes (a_name n) l xs) l (λ low. owes n l xs refl)
step P (word ∷ k) vs xs owes = tt
step P (cell_size ∷ k) (a_size z ∷ us) (comes (terminal m.SquareOpen) l xs) owes =
    opened_leads P (size ∷ closing m.SquareClose ∷ k) (a_size z ∷ us) (comes (terminal m.SquareOpen) l xs) l
    (λ low n i ys is j zs close. owes.1 (suc n) zs (subst (λ xs. w.IsSize (suc n) (comes (terminal m.SquareOpen) l xs) zs) (sym (is ∙ ap (comes (a_number (suc n)) i) close)) w.a_size))
step P (cell_size ∷ k) (a_size z ∷ us) xs owes = step P k (a_size z ∷ us) xs (subst (λ n. Owes P k (a_size n ∷ us) xs) (sym owes.0) (owes.1 0 xs w.no_size))
step P (cell_size ∷ k) vs xs owes = absurd owes
step P (size ∷ k) vs (comes (a_number zero) l xs) owes = tt
step P (size ∷ k) vs (comes (a_number (suc n)) l xs) owes = opened_leads P (act (with_size (suc n)) ∷ k) vs (comes (a_number (suc n)) l xs) l (λ low. owes n l xs refl)
step P (size ∷ k) vs xs owes = tt
step P (cell_init ∷ k) (an_init z ∷ us) (comes (terminal m.Assign) l xs) owes =
    opened_leads P (init ∷ k) (an_init z ∷ us) (comes (terminal m.Assign) l xs) l (λ low y ys h. owes.1 y ys (h l))
step P (cell_init ∷ k) (an_init z ∷ us) xs owes = step P k (an_init z ∷ us) xs (subst (λ z. Owes P k (an_init z ∷ us) xs) (sym owes.0) (owes.1 (pos 0) xs w.no_init))
step P (cell_init ∷ k) vs xs owes = absurd owes
step P (init ∷ k) vs (comes (a_number n) l xs) owes = opened_leads P (act (with_init (pos n)) ∷ k) vs (comes (a_number n) l xs) l (λ low. owes (pos n) xs (λ i. w.an_init))
step P (init ∷ k) vs (comes (terminal m.Minus) l xs) owes =
    opened_leads P (negated ∷ k) vs (comes (terminal m.Minus) l xs) l
    (λ low n j ys is. owes (neg_ℤ (pos n)) ys (λ i. subst (λ xs. w.IsInit (neg_ℤ (pos n)) (comes (terminal m.Assign) i (comes (terminal m.Minus) l xs)) ys) (sym is) (w.a_negative_init refl)))
step P (init ∷ k) vs xs owes = tt
step P (negated ∷ k) vs (comes (a_number n) l xs) owes = opened_leads P (act (with_init (neg_ℤ (pos n))) ∷ k) vs (comes (a_number n) l xs) l (λ low. owes n l xs refl)
step P (negated ∷ k) vs xs owes = tt
step P (params ∷ k) (some_words us ∷ ts) (comes (a_name n) l xs) owes =
    opened_leads P (act (push (a_word (word_at n l))) ∷ act param_done ∷ more_params ∷ k) (some_words us ∷ ts) (comes (a_name n) l xs) l
    (λ low ws ys h. subst (λ us. Owes P k (some_words ((us ++ word_at n l ∷ []) ++ ws) ∷ ts) ys) (sym owes.0) (owes.1 (word_at n l ∷ ws) ys (w.params h)))
step P (params ∷ k) (some_words us ∷ ts) xs owes = step P k (some_words us ∷ ts) xs (subst (λ us. Owes P k (some_words us ∷ ts) xs) (sym owes.0) (owes.1 [] xs w.no_params))
step P (params ∷ k) vs xs owes = absurd owes
step P (more_params ∷ k) (some_words us ∷ ts) (comes (terminal m.Comma) l xs) owes =
    opened_leads P (word ∷ act param_done ∷ more_params ∷ k) (some_words us ∷ ts) (comes (terminal m.Comma) l xs) l
    (λ low n i ys is ws zs h. subst (λ vs. Owes P k (some_words vs ∷ ts) zs) (sym (append_assoc us (word_at n i ∷ []) ws))
    (owes (word_at n i ∷ ws) zs (subst (λ xs. w.AreMoreParams (word_at n i ∷ ws) (comes (terminal m.Comma) l xs) zs) (sym is) (w.more_params h))))
step P (more_params ∷ k) (some_words us ∷ ts) xs owes = step P k (some_words us ∷ ts) xs (subst (λ us. Owes P k (some_words us ∷ ts) xs) (append-nil us) (owes [] xs w.no_more_params))
step P (more_params ∷ k) vs xs owes = absurd owes
step P (operand ∷ k) vs xs owes = operand_leads P [] k vs xs _ owes
step P (expr ∷ k) vs xs owes = operand_leads P rest_of_expr k vs xs _ (expr_owes P k vs xs owes)
step P (brackets j ∷ k) (a_term (name v) ∷ us) (comes (terminal m.SquareOpen) l xs) owes =
    opened_leads P (expr ∷ closing m.SquareClose ∷ act index_done ∷ read_from j ∷ k) (a_term (name v) ∷ us) (comes (terminal m.SquareOpen) l xs) l
    (λ low e ys h i zs is high. owes (at v e) zs (w.an_element (omega arith) high (subst (w.IsExpr (pending k + 1) e xs) is h)))
step P (brackets j ∷ k) (a_term (name v) ∷ us) (comes (terminal m.ParenOpen) l xs) owes =
    opened_leads P (act (push (some_terms none)) ∷ args ∷ closing m.ParenClose ∷ act call_done ∷ read_from j ∷ k) (a_term (name v) ∷ us) (comes (terminal m.ParenOpen) l xs) l
    (λ low. (refl, λ es ys h i zs is high. owes (call v es) zs (w.a_call (omega arith) high (subst (w.AreArguments (pending k + 1) es xs) is h))))
step P (brackets j ∷ k) (a_term (name v) ∷ us) xs owes = step P k (a_term (name v) ∷ us) xs (owes (name v) xs w.a_name_alone)
step P (brackets j ∷ k) vs xs owes = absurd owes
step P (args ∷ k) (some_terms es ∷ us) (comes (terminal m.ParenClose) l xs) owes =
    step P k (some_terms es ∷ us) (comes (terminal m.ParenClose) l xs) (subst (λ es. Owes P k (some_terms es ∷ us) (comes (terminal m.ParenClose) l xs)) (sym owes.0) (owes.1 none _ w.no_arguments))
step P (args ∷ k) (some_terms es ∷ us) xs owes =
    operand_leads P (rest_of_expr ++ act arg_done ∷ more_args ∷ []) k (some_terms es ∷ us) xs (feed k (some_terms es ∷ us) (token_of xs) (line_of xs))
    (expr_owes P (act arg_done ∷ more_args ∷ k) (some_terms es ∷ us) xs
    (subst (λ es. (e : Term) (ys : Lexemes) → w.IsExpr (pending k) e xs ys → Owes P (act arg_done ∷ more_args ∷ k) (a_term e ∷ some_terms es ∷ us) ys) (sym owes.0) (first_argument_owes P k us xs owes.1)))
step P (args ∷ k) vs xs owes = absurd owes
step P (more_args ∷ k) (some_terms es ∷ us) (comes (terminal m.Comma) l xs) owes =
    opened_leads P (expr ∷ act arg_done ∷ more_args ∷ k) (some_terms es ∷ us) (comes (terminal m.Comma) l xs) l
    (λ low e ys h fs zs g. owes (more e fs) zs (w.one_more h g))
step P (more_args ∷ k) (some_terms es ∷ us) xs owes = step P k (some_terms es ∷ us) xs (owes none xs w.no_more)
step P (more_args ∷ k) vs xs owes = absurd owes
step P (products ∷ k) (a_term e ∷ us) (comes (terminal a) l xs) owes =
    infix_leads P (product_of a) [] (products ∷ []) k (a_term e ∷ us) a l xs _
    (λ o is f ys h high. (owes.0, w.multiplied is high owes.1 h, owes.2))
    (step P k (a_term e ∷ us) (comes (terminal a) l xs) (owes.2 e (comes (terminal a) l xs) owes.1))
step P (products ∷ k) (a_term e ∷ us) xs owes = step P k (a_term e ∷ us) xs (owes.2 e xs owes.1)
step P (products ∷ k) vs xs owes = absurd owes
step P (sums ∷ k) (a_term e ∷ us) (comes (terminal a) l xs) owes =
    infix_leads P (sum_of a) (products ∷ []) (sums ∷ []) k (a_term e ∷ us) a l xs _
    (λ o is f ys h. (xs, w.a_unary h, λ f ys h high. (owes.0, w.added is high owes.1 h, owes.2)))
    (step P k (a_term e ∷ us) (comes (terminal a) l xs) (owes.2 e (comes (terminal a) l xs) owes.1))
step P (sums ∷ k) (a_term e ∷ us) xs owes = step P k (a_term e ∷ us) xs (owes.2 e xs owes.1)
step P (sums ∷ k) vs xs owes = absurd owes
step P (comparison ∷ k) (a_term e ∷ us) (comes (terminal a) l xs) owes =
    infix_leads P (comparison_of a) (products ∷ sums ∷ []) [] k (a_term e ∷ us) a l xs _
    (λ o is f ys h. (xs, w.a_unary h, λ f ys h. (xs, w.a_product h, λ f ys h high. owes.2 (binary o e f) ys (w.compared is high owes.1 h))))
    (step P k (a_term e ∷ us) (comes (terminal a) l xs) (owes.2 e (comes (terminal a) l xs) (w.a_sum owes.1)))
step P (comparison ∷ k) (a_term e ∷ us) xs owes = step P k (a_term e ∷ us) xs (owes.2 e xs (w.a_sum owes.1))
step P (comparison ∷ k) vs xs owes = absurd owes
step P (block ∷ k) vs (comes (terminal m.BraceOpen) l xs) owes =
    opened_leads P (act (push (a_block empty)) ∷ stmts ∷ closing m.BraceClose ∷ k) vs (comes (terminal m.BraceOpen) l xs) l
    (λ low c ys h i zs is. subst (λ b. Owes P k (a_block b ∷ vs) zs) (sym (joined_empty c)) (owes c zs (w.in_braces (omega arith) (subst (w.AreStatements (pending k + 1) c xs) is h))))
step P (block ∷ k) vs xs owes = tt
step P (stmts ∷ k) (a_block b ∷ us) (comes (terminal m.Let) h xs) owes =
    opened_leads P (word ∷ exactly m.Assign ∷ expr ∷ exactly m.Semicolon ∷ act let_done ∷ stmts ∷ k) (a_block b ∷ us) (comes (terminal m.Let) h xs) h
    (λ low n l ys named i zs assigned e ts g j vs over.
    statement_owes P k us b (comes (terminal m.Let) h xs) owes (declare (word_at n l) e) vs
    (subst (λ xs. w.IsStatement (pending k) (declare (word_at n l) e) (comes (terminal m.Let) h xs) vs) (sym (named ∙ ap (comes (a_name n) l) assigned))
    (w.declares (subst (w.IsExpr (pending k) e zs) over g))))
step P (stmts ∷ k) (a_block b ∷ us) (comes (terminal m.Out) i xs) owes =
    opened_leads P (expr ∷ exactly m.Semicolon ∷ act out_done ∷ stmts ∷ k) (a_block b ∷ us) (comes (terminal m.Out) i xs) i
    (λ low e ys g j zs over. statement_owes P k us b (comes (terminal m.Out) i xs) owes (out e) zs (w.outputs (subst (w.IsExpr (pending k) e xs) over g)))
step P (stmts ∷ k) (a_block b ∷ us) (comes (a_name n) l xs) owes =
    opened_leads P (act (push (a_word (word_at n l))) ∷ assignment ∷ stmts ∷ k) (a_block b ∷ us) (comes (a_name n) l xs) l
    (λ low s ys h. statement_owes P k us b (comes (a_name n) l xs) owes s ys h)
step P (stmts ∷ k) (a_block b ∷ us) (comes (terminal m.If) i xs) owes =
    opened_leads P (expr ∷ block ∷ act (push (a_block empty)) ∷ otherwise ∷ act choose_done ∷ stmts ∷ k) (a_block b ∷ us) (comes (terminal m.If) i xs) i
    (λ low e ys g c zs h. (refl, λ d ts j. statement_owes P k us b (comes (terminal m.If) i xs) owes (choose e c d) ts (w.chooses g h j)))
step P (stmts ∷ k) (a_block b ∷ us) (comes (terminal m.While) i xs) owes =
    opened_leads P (expr ∷ block ∷ act repeat_done ∷ stmts ∷ k) (a_block b ∷ us) (comes (terminal m.While) i xs) i
    (λ low e ys g c zs h. statement_owes P k us b (comes (terminal m.While) i xs) owes (repeat e c) zs (w.repeats g h))
step P (stmts ∷ k) (a_block b ∷ us) (comes (terminal m.Atomic) i xs) owes =
    opened_leads P (block ∷ act atomic_done ∷ stmts ∷ k) (a_block b ∷ us) (comes (terminal m.Atomic) i xs) i
    (λ low c ys h. statement_owes P k us b (comes (terminal m.Atomic) i xs) owes (atomic c) ys (w.is_atomic h))
step P (stmts ∷ k) (a_block b ∷ us) (comes (terminal m.Spawn) i xs) owes =
    opened_leads P (block ∷ act spawn_done ∷ stmts ∷ k) (a_block b ∷ us) (comes (terminal m.Spawn) i xs) i
    (λ low c ys h. statement_owes P k us b (comes (terminal m.Spawn) i xs) owes (spawn c) ys (w.spawns h))
step P (stmts ∷ k) (a_block b ∷ us) (comes (terminal m.Sync) i xs) owes =
    opened_leads P (exactly m.Semicolon ∷ act sync_done ∷ stmts ∷ k) (a_block b ∷ us) (comes (terminal m.Sync) i xs) i
    (λ low j ys over. statement_owes P k us b (comes (terminal m.Sync) i xs) owes sync ys
    (subst (λ xs. w.IsStatement (pending k) sync (comes (terminal m.Sync) i xs) ys) (sym over) w.syncs))
step P (stmts ∷ k) (a_block b ∷ us) (comes (terminal m.Cancel) l xs) owes =
    opened_leads P (act (push (a_line l)) ∷ exactly m.Semicolon ∷ act cancel_done ∷ stmts ∷ k) (a_block b ∷ us) (comes (terminal m.Cancel) l xs) l
    (λ low j ys over. statement_owes P k us b (comes (terminal m.Cancel) l xs) owes (cancel l) ys
    (subst (λ xs. w.IsStatement (pending k) (cancel l) (comes (terminal m.Cancel) l xs) ys) (sym over) w.cancels))
step P (stmts ∷ k) (a_block b ∷ us) (comes (terminal m.Return) l xs) owes =
    opened_leads P (act (push (a_line l)) ∷ expr ∷ exactly m.Semicolon ∷ act return_done ∷ stmts ∷ k) (a_block b ∷ us) (comes (terminal m.Return) l xs) l
    (λ low e ys g j zs over. statement_owes P k us b (comes (terminal m.Return) l xs) owes (return l e) zs (w.returns (subst (w.IsExpr (pending k) e xs) over g)))
step P (stmts ∷ k) (a_block b ∷ us) xs owes = step P k (a_block b ∷ us) xs (owes empty xs w.no_statements)
step P (stmts ∷ k) vs xs owes = absurd owes
step P (otherwise ∷ k) (a_block b ∷ us) (comes (terminal m.Else) i xs) owes =
    opened_leads P (act without_newest ∷ block ∷ k) (a_block b ∷ us) (comes (terminal m.Else) i xs) i (λ low c ys h. owes.1 c ys (w.an_else h))
step P (otherwise ∷ k) (a_block b ∷ us) xs owes = step P k (a_block b ∷ us) xs (subst (λ b. Owes P k (a_block b ∷ us) xs) (sym owes.0) (owes.1 empty xs w.no_else))
step P (otherwise ∷ k) vs xs owes = absurd owes
step P (assignment ∷ k) (a_word v ∷ us) (comes (terminal m.Assign) i xs) owes =
    opened_leads P (expr ∷ exactly m.Semicolon ∷ act assign_done ∷ k) (a_word v ∷ us) (comes (terminal m.Assign) i xs) i
    (λ low e ys g j zs over. owes (assign v e) zs (w.assigns (subst (w.IsExpr (pending k) e xs) over g)))
step P (assignment ∷ k) (a_word v ∷ us) (comes (terminal m.SquareOpen) g xs) owes =
    opened_leads P (expr ∷ closing m.SquareClose ∷ exactly m.Assign ∷ expr ∷ exactly m.Semicolon ∷ act assign_at_done ∷ k) (a_word v ∷ us) (comes (terminal m.SquareOpen) g xs) g
    (λ low e ys index h zs closed i ts assigned f qs value j rs over.
    owes (assign_at v e f) rs
    (w.assigns_at (omega arith) (subst (w.IsExpr (pending k + 1) e xs) (closed ∙ ap (comes (terminal m.SquareClose) h) assigned) index) (subst (w.IsExpr (pending k) f ts) over value)))
step P (assignment ∷ k) (a_word v ∷ us) (comes (terminal m.ParenOpen) h xs) owes =
    opened_leads P (act (push (some_terms none)) ∷ args ∷ closing m.ParenClose ∷ exactly m.Semicolon ∷ act run_done ∷ k) (a_word v ∷ us) (comes (terminal m.ParenOpen) h xs) h
    (λ low. (
      refl,
      λ es ys g i zs closed j ts over.
          owes (run v es) ts (w.calls (omega arith) (subst (w.AreArguments (pending k + 1) es xs) (closed ∙ ap (comes (terminal m.ParenClose) i) over) g)),
    ))
step P (assignment ∷ k) (a_word v ∷ us) xs owes = tt
step P (assignment ∷ k) vs xs owes = absurd owes
step P (items ∷ []) (declared ds ∷ []) (comes (terminal m.Cell) i xs) owes =
    opened_leads P (word ∷ act (push (a_size 0)) ∷ cell_size ∷ act (push (an_init (pos 0))) ∷ cell_init ∷ exactly m.Semicolon ∷ act cell_done ∷ items ∷ []) (declared ds ∷ []) (comes (terminal m.Cell) i xs) i
    (λ low n l ys named. (
      refl,
      λ len zs sized. (
        refl,
        λ z ts begun j us over es h.
            subst P (sym (append_assoc ds (cell n l len z ∷ []) es))
            (owes (cell n l len z ∷ es)
            (w.items
            (subst (λ xs. w.IsItem (cell n l len z) (comes (terminal m.Cell) i xs) us) (sym named) (w.is_cell sized (subst (w.IsInit z zs) over begun))) h)),
      ),
    ))
step P (items ∷ []) (declared ds ∷ []) (comes (terminal m.Fn) i xs) owes =
    opened_leads P (word ∷ exactly m.ParenOpen ∷ act (push (some_words [])) ∷ params ∷ closing m.ParenClose ∷ block ∷ act func_done ∷ items ∷ []) (declared ds ∷ []) (comes (terminal m.Fn) i xs) i
    (λ low n l ys named j zs opens. (
      refl,
      λ ws ts listed g us closed b qs body es h.
          subst P (sym (append_assoc ds (func n l ws b ∷ []) es))
          (owes (func n l ws b ∷ es)
          (w.items
          (subst (λ xs. w.IsItem (func n l ws b) (comes (terminal m.Fn) i xs) qs) (sym (named ∙ ap (comes (a_name n) l) opens)) (w.is_function (subst (w.AreParams ws zs) closed listed) body)) h)),
    ))
step P (items ∷ []) (declared ds ∷ []) (comes end l xs) owes = refl
step P (items ∷ []) (declared ds ∷ []) (end_on l) owes = subst P (append-nil ds) (owes [] w.over)
step P (items ∷ []) (declared ds ∷ []) xs owes = tt
step P (items ∷ k) vs xs owes = absurd owes

-- ## All tokens

-- declarations of which this is true, or a fault
abbrev Declares : (List Declaration → Type 0) → Result Values TextFault → Type 0
Declares P (Ok vs) = HasDeclared P vs
Declares P (Err e) = Unit {0}

-- nothing may follow the end
none_follow : (P : List Declaration → Type 0) (vs : Values) (xs : Lexemes) → Declares P (read [] vs xs)
none_follow P vs (end_on l) = tt
none_follow P vs (comes t l xs) = tt

end_led : (P : List Declaration → Type 0) (l : ℕ) (r : Result ReadingState TextFault) → Leads P (end_on l) r → Declares P (then_read r (λ _ vs. Ok vs))
end_led P l (Ok s) h = h
end_led P l (Err e) h = tt

led_on : (P : List Declaration → Type 0) (t : Token) (l : ℕ) (xs : Lexemes) (r : Result ReadingState TextFault) → Leads P (comes t l xs) r →
    ((k : List Symbol) (vs : Values) → Owes P k vs xs → Declares P (read k vs xs)) → Declares P (then_read r (λ k vs. read k vs xs))
led_on P end l xs (Ok s) h on = subst (λ k. Declares P (read k s.1 xs)) (sym h) (none_follow P s.1 xs)
led_on P t l xs (Ok s) h on = on s.0 s.1 h
led_on P t l xs (Err e) h on = tt

read_declares : (P : List Declaration → Type 0) (xs : Lexemes) (k : List Symbol) (vs : Values) → Owes P k vs xs → Declares P (read k vs xs)
read_declares P (end_on l) k vs owes = end_led P l (feed k vs end l) (step P k vs (end_on l) owes)
read_declares P (comes t l xs) k vs owes = led_on P t l xs (feed k vs t l) (step P k vs (comes t l xs) owes) (read_declares P xs)

declared_is : (P : List Declaration → Type 0) (r : Result Values TextFault) (ds : List Declaration) → Declares P r → program_in r ≡ Ok ds → P ds
declared_is P (Ok (declared es ∷ [])) ds h is = let e : es ≡ ds = cc in subst P e h
declared_is P (Ok vs) ds h is = absurd h
declared_is P (Err e) ds h is = cc

pub read_is_written : (xs : Lexemes) (ds : List Declaration) → program_of xs ≡ Ok ds → w.IsProgram ds xs
read_is_written xs ds =
    let P = λ (ds : List Declaration). w.IsProgram ds xs in
    declared_is P (read (items ∷ []) (declared [] ∷ []) xs) ds (read_declares P xs (items ∷ []) (declared [] ∷ []) (λ es h. h))
