-- Tokens that are printed one after the other.
use Rattle.std.proofs.Common.{◌≡◌, ℕ, ◌+◌, ◌-◌, ◌<◌, ◌≤◌, ◌==◌, false, List, [], ◌∷◌, ◌++◌, length, get_or, take, drop, map, append_assoc, append-nil, refl, sym, ap, ◌∙◌, arith}
use Rattle.std.proofs.Math.Seq.{take-length}
use Rattle.std.proofs.lemmas.List.{drop_all, drop_more}
use Rattle.cw_text.specs.declared.ast.Expr.{Expr}
use Rattle.cw_text.specs.declared.ast.Item.{Item}
use Rattle.cw_text.specs.declared.ast.Stmt.{Stmt}
use Rattle.cw_text.specs.declared.terminal.Terminal.TheVariants as m
use Rattle.cw_text.specs.Printed.{Placed, declaration_tokens, else_tokens, in_braces, more_terms_tokens, sign, statement_tokens, statements_tokens, term_tokens, terms_tokens, tokens}
use Rattle.cw_text.specs.PrintedText.{blank_behind, spelled, text_of, with_tokens}
use Rattle.cw_text.specs.Syntax.{Block, Term, block_of, choose, declaration_of, repeat, statement_of, term_of, terms_of}

pub with_tokens_append : (text : List ℕ) (ps qs : List Placed) → with_tokens text (ps ++ qs) ≡ with_tokens (with_tokens text ps) qs
with_tokens_append text [] qs = refl
with_tokens_append text (p ∷ ps) qs = with_tokens_append (text ++ (spelled p.0 ++ blank_behind p.0 ∷ [])) ps qs

pub with_tokens_text : (text : List ℕ) (ps : List Placed) → with_tokens text ps ≡ text ++ text_of ps
with_tokens_text text [] = sym (append-nil text)
with_tokens_text text (p ∷ ps) =
    with_tokens_text (text ++ (spelled p.0 ++ blank_behind p.0 ∷ [])) ps
    ∙ append_assoc text (spelled p.0 ++ blank_behind p.0 ∷ []) (text_of ps)
    ∙ ap (λ more. text ++ more) (append_assoc (spelled p.0) (blank_behind p.0 ∷ []) (text_of ps))

-- ## The next of those that are left

pub first_left : {X : Type 0} (xs : List X) (i : ℕ) (x : X) → i < length xs → x ≡ get_or xs i x → drop i xs ≡ x ∷ drop (i + 1) xs
first_left xs i x below is = drop_more xs i x below ∙ ap (λ y. y ∷ drop (i + 1) xs) (sym is)

pub arguments_next : (text : List ℕ) (xs : List Expr) (i : ℕ) (x : Expr) → i < length xs → x ≡ get_or xs i x →
    with_tokens text (more_terms_tokens (terms_of (drop i xs))) ≡ with_tokens (with_tokens (with_tokens text (sign m.Comma)) (term_tokens 0 (term_of x))) (more_terms_tokens (terms_of (drop (i + 1) xs)))
arguments_next text xs i x below is =
    rw (first_left xs i x below is) (with_tokens_append (with_tokens text (sign m.Comma)) (term_tokens 0 (term_of x)) (more_terms_tokens (terms_of (drop (i + 1) xs))))

pub statements_next : (text : List ℕ) (xs : List Stmt) (i : ℕ) (x : Stmt) → i < length xs → x ≡ get_or xs i x →
    with_tokens text (statements_tokens (block_of (drop i xs))) ≡ with_tokens (with_tokens text (statement_tokens (statement_of x))) (statements_tokens (block_of (drop (i + 1) xs)))
statements_next text xs i x below is =
    rw (first_left xs i x below is) (with_tokens_append text (statement_tokens (statement_of x)) (statements_tokens (block_of (drop (i + 1) xs))))

pub items_next : (text : List ℕ) (xs : List Item) (i : ℕ) (x : Item) → i < length xs → x ≡ get_or xs i x →
    with_tokens text (tokens (map declaration_of (drop i xs))) ≡ with_tokens (with_tokens text (declaration_tokens (declaration_of x))) (tokens (map declaration_of (drop (i + 1) xs)))
items_next text xs i x below is =
    rw (first_left xs i x below is) (with_tokens_append text (declaration_tokens (declaration_of x)) (tokens (map declaration_of (drop (i + 1) xs))))

-- ## None is left

pub arguments_over : (text begun : List ℕ) (xs : List Expr) (i : ℕ) → length xs ≤ i → with_tokens text (more_terms_tokens (terms_of (drop i xs))) ≡ begun → text ≡ begun
arguments_over text begun xs i over same = sym (ap (λ ys. with_tokens text (more_terms_tokens (terms_of ys))) (drop_all i xs over)) ∙ same

pub statements_over : (text begun : List ℕ) (xs : List Stmt) (i : ℕ) → length xs ≤ i → with_tokens text (statements_tokens (block_of (drop i xs))) ≡ begun → text ≡ begun
statements_over text begun xs i over same = sym (ap (λ ys. with_tokens text (statements_tokens (block_of ys))) (drop_all i xs over)) ∙ same

pub items_over : (text begun : List ℕ) (xs : List Item) (i : ℕ) → length xs ≤ i → with_tokens text (tokens (map declaration_of (drop i xs))) ≡ begun → text ≡ begun
items_over text begun xs i over same = sym (ap (λ ys. with_tokens text (tokens (map declaration_of ys))) (drop_all i xs over)) ∙ same

-- ## Parts of a statement

-- the first argument and the others
pub arguments_begun : (text : List ℕ) (xs : List Expr) (x : Expr) → 0 < length xs → x ≡ get_or xs 0 x →
    with_tokens text (terms_tokens (terms_of xs)) ≡ with_tokens (with_tokens text (term_tokens 0 (term_of x))) (more_terms_tokens (terms_of (take (length xs - 1) (drop 1 xs))))
arguments_begun text [] x some is = absurd (omega arith)
arguments_begun text (y ∷ ys) x some is =
    let all : take (length (y ∷ ys) - 1) ys ≡ ys = ap (λ n. take n ys) (omega arith) ∙ take-length ys in
    with_tokens_append text (term_tokens 0 (term_of y)) (more_terms_tokens (terms_of ys))
    ∙ ap (λ x. with_tokens (with_tokens text (term_tokens 0 (term_of x))) (more_terms_tokens (terms_of ys))) (sym is)
    ∙ ap (λ ys. with_tokens (with_tokens text (term_tokens 0 (term_of x))) (more_terms_tokens (terms_of ys))) (sym all)

pub else_printed : (text : List ℕ) (xs : List Stmt) → (length xs == 0) ≡ false → with_tokens text (else_tokens (block_of xs)) ≡
    with_tokens (with_tokens text (sign m.Else)) (in_braces (statements_tokens (block_of xs)))
else_printed text [] some = cc
else_printed text (s ∷ xs) some = refl

pub choice_printed : (text : List ℕ) (e : Term) (a b : Block) → with_tokens text (statement_tokens (choose e a b)) ≡
    with_tokens (with_tokens (with_tokens (with_tokens text (sign m.If)) (term_tokens 0 e)) (in_braces (statements_tokens a))) (else_tokens b)
choice_printed text e a b =
    let begun = with_tokens text (sign m.If) in
    with_tokens_append begun (term_tokens 0 e ++ in_braces (statements_tokens a)) (else_tokens b)
    ∙ ap (λ text. with_tokens text (else_tokens b)) (with_tokens_append begun (term_tokens 0 e) (in_braces (statements_tokens a)))

pub loop_printed : (text : List ℕ) (e : Term) (b : Block) → with_tokens text (statement_tokens (repeat e b)) ≡
    with_tokens (with_tokens (with_tokens text (sign m.While)) (term_tokens 0 e)) (in_braces (statements_tokens b))
loop_printed text e b = with_tokens_append (with_tokens text (sign m.While)) (term_tokens 0 e) (in_braces (statements_tokens b))
