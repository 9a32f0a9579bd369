-- Expressions that are read, by the tightness that is wanted of them.
use Rattle.std.proofs.Common.{◌≡◌, ℕ, zero, suc, ◌+◌, ◌<◌, ◌≤◌, max, List, ◌∷◌, ◌∙◌, subst, inl, inr, arith, pos}
use Rattle.std.proofs.lemmas.Bool.{cases_lt}
use Rattle.cw_text.specs.declared.ast.Op.{Op}
use Rattle.cw_text.specs.declared.ast.Word.{Word}
use Rattle.cw_text.specs.declared.terminal.Terminal.TheVariants as m
use Rattle.cw_text.specs.Lexemes.{Lexemes, comes, terminal, name as a_name, number as a_number}
use Rattle.cw_text.specs.Syntax.{Term, Terms, number, name, at, call, none, binary, unary, height, with_term}
use Rattle.cw_text.specs.Grammar.{Symbol, Values, a_term, act, arg_done, args, brackets, call_done, closing, comparison, comparison_of, expr, index_done, join, lifted, more_args, operand, pending, product_of, products, push, read, read_from, some_terms, sum_of, sums}
use Rattle.cw_text.specs.Printed.{terminal_of, tightness}
use Rattle.cw_text.proofs.Operators.{NoBracket, NotNext, takes_product, takes_sum, takes_comparison, takes_prefix, skips_brackets, skips_products, skips_sums, skips_comparison, product_of-terminal_of, sum_of-terminal_of, comparison_of-terminal_of, no_sum}
use Rattle.cw_text.proofs.Steps.{read-act, read-call, read-expr, read-index, read-join, read-lifted, taken_open}

-- the symbols of an expression, and those that are left once it was read
abbrev pub begins : ℕ → List Symbol → List Symbol
begins zero k = operand ∷ products ∷ sums ∷ comparison ∷ k
begins (suc zero) k = operand ∷ products ∷ sums ∷ k
begins (suc (suc zero)) k = operand ∷ products ∷ k
begins (suc (suc (suc n))) k = operand ∷ k

abbrev pub leaves : ℕ → List Symbol → List Symbol
leaves zero k = k
leaves (suc zero) k = sums ∷ k
leaves (suc (suc zero)) k = products ∷ k
leaves (suc (suc (suc n))) k = k

-- with room for `more` more open, these lexemes are read as an expression with others behind it
pub record Reads (more n : ℕ) (e : Term) (xs ys : Lexemes) : Type 0 where
  pub reading : (k : List Symbol) (vs : Values) → pending k + more ≤ 200 → read (begins n k) vs xs ≡ read (leaves n k) (a_term e ∷ vs) ys

-- the same of the arguments of a call
pub record ReadsAll (more : ℕ) (es : Terms) (xs ys : Lexemes) : Type 0 where
  pub reading : (k : List Symbol) (vs : Values) → pending k + more ≤ 200 → read (args ∷ k) (some_terms none ∷ vs) xs ≡ read k (some_terms es ∷ vs) ys

-- what comes behind an expression does not belong to it
abbrev pub Ends : ℕ → Lexemes → Type 0
Ends zero xs = NoBracket xs × NotNext product_of xs × NotNext sum_of xs × NotNext comparison_of xs
Ends (suc zero) xs = NoBracket xs × NotNext product_of xs
Ends (suc (suc n)) xs = NoBracket xs

-- an operand that is a name is over
pub ends_name : (n : ℕ) (xs : Lexemes) → Ends n xs → NoBracket xs
ends_name zero xs ends = ends.0
ends_name (suc zero) xs ends = ends.0
ends_name (suc (suc n)) xs ends = ends

pub ends_tighter : (n t : ℕ) (xs : Lexemes) → n ≤ t → Ends n xs → Ends t xs
ends_tighter zero zero xs within ends = ends
ends_tighter zero (suc zero) xs within ends = (ends.0, ends.1)
ends_tighter (suc zero) (suc zero) xs within ends = ends
ends_tighter (suc (suc n)) (suc zero) xs within ends = absurd (omega arith)
ends_tighter (suc n) zero xs within ends = absurd (omega arith)
ends_tighter n (suc (suc t)) xs within ends = ends_name n xs ends

pub Reads-more : {n : ℕ} {e : Term} {xs ys : Lexemes} (more most : ℕ) → more ≤ most → Reads more n e xs ys → Reads most n e xs ys
Reads-more more most within r = record { reading = λ k vs low. r.reading k vs (omega arith) }

-- ## Where less tightness is wanted

one_looser : {more : ℕ} {e : Term} {xs ys : Lexemes} (n : ℕ) → Ends n ys → Reads more (suc n) e xs ys → Reads more n e xs ys
one_looser {e = e} {ys = ys} zero ends r = record { reading = λ k vs low. r.reading (comparison ∷ k) vs low ∙ skips_sums (comparison ∷ k) (a_term e ∷ vs) ys ends.2 ∙ skips_comparison k (a_term e ∷ vs) ys ends.3 }
one_looser {e = e} {ys = ys} (suc zero) ends r = record { reading = λ k vs low. r.reading (sums ∷ k) vs low ∙ skips_products (sums ∷ k) (a_term e ∷ vs) ys ends.1 }
one_looser (suc (suc zero)) ends r = record { reading = λ k vs low. r.reading (products ∷ k) vs low }
one_looser (suc (suc (suc n))) ends r = record { reading = λ k vs low. r.reading k vs low }

pub looser : {more : ℕ} {e : Term} {xs ys : Lexemes} (n t : ℕ) → n ≤ t → Ends n ys → Reads more t e xs ys → Reads more n e xs ys
looser {more} {e} {xs} {ys} n zero within ends r = let same : zero ≡ n = omega arith in subst (λ t. Reads more t e xs ys) same r
looser {more} {e} {xs} {ys} n (suc t) within ends r =
    elim (cases_lt n (suc t)) [
      | inl less ↦ looser n t (omega arith) ends (one_looser t (ends_tighter n t ys (omega arith) ends) r)
      | inr greatest ↦ let same : suc t ≡ n = omega arith in subst (λ t. Reads more t e xs ys) same r
    ]

-- ## Numbers, names and arguments

pub number_read : (n l : ℕ) (xs : Lexemes) → Reads 0 3 (number (pos n)) (comes (a_number n) l xs) xs
number_read n l xs = record {
  reading = λ k vs low.
      taken_open (act (push (a_term (number (pos n)))) ∷ k) vs l (comes (a_number n) l xs) (omega arith)
      ∙ read-act (push (a_term (number (pos n)))) k vs xs;
}

pub name_read : (w : Word) (xs : Lexemes) → NoBracket xs → Reads 0 3 (name w) (comes (a_name w.name) w.line xs) xs
name_read w xs over = record {
  reading = λ k vs low.
      taken_open (act (push (a_term (name w))) ∷ brackets w.line ∷ k) vs w.line (comes (a_name w.name) w.line xs) (omega arith)
      ∙ read-act (push (a_term (name w))) (brackets w.line ∷ k) vs xs
      ∙ skips_brackets w.line k (a_term (name w) ∷ vs) xs over;
}

-- one argument
pub argument_read : {most : ℕ} (e : Term) (es : Terms) (k : List Symbol) (vs : Values) (xs ys : Lexemes) → pending k + most ≤ 200 → Reads most 0 e xs ys →
    read (expr ∷ act arg_done ∷ more_args ∷ k) (some_terms es ∷ vs) xs ≡ read (more_args ∷ k) (some_terms (with_term es e) ∷ vs) ys
argument_read e es k vs xs ys low r =
    let done = act arg_done ∷ more_args ∷ k in
    read-expr done (some_terms es ∷ vs) xs
    ∙ r.reading done (some_terms es ∷ vs) low
    ∙ read-act arg_done (more_args ∷ k) (a_term e ∷ some_terms es ∷ vs) ys

-- ## Operators and brackets

pub in_brackets : {more l j : ℕ} {e : Term} {xs ys : Lexemes} → Reads more 0 e xs (comes (terminal m.ParenClose) j ys) → Reads (more + 1) 3 e (comes (terminal m.ParenOpen) l xs) ys
in_brackets {l = l} {j = j} {e = e} {xs = xs} {ys = ys} r = record {
  reading = λ k vs low.
      taken_open (expr ∷ closing m.ParenClose ∷ k) vs l (comes (terminal m.ParenOpen) l xs) (omega arith)
      ∙ read-expr (closing m.ParenClose ∷ k) vs xs
      ∙ r.reading (closing m.ParenClose ∷ k) vs (omega arith)
      ∙ taken_open k (a_term e ∷ vs) j (comes (terminal m.ParenClose) j ys) (omega arith);
}

pub of_name : {more l j : ℕ} {i : Term} {xs ys : Lexemes} (w : Word) → height (at w i) ≤ 200 → Reads more 0 i xs (comes (terminal m.SquareClose) j ys) →
    Reads (more + 1) 3 (at w i) (comes (a_name w.name) w.line (comes (terminal m.SquareOpen) l xs)) ys
of_name {l = l} {j = j} {i = i} {xs = xs} {ys = ys} w high r = record {
  reading = λ k vs low.
      let index = comes (terminal m.SquareOpen) l xs in
      let done = act index_done ∷ read_from w.line ∷ k in
      let inside = closing m.SquareClose ∷ done in
      let values = a_term (name w) ∷ vs in
      taken_open (act (push (a_term (name w))) ∷ brackets w.line ∷ k) vs w.line (comes (a_name w.name) w.line index) (omega arith)
      ∙ read-act (push (a_term (name w))) (brackets w.line ∷ k) vs index
      ∙ taken_open (expr ∷ inside) values l index (omega arith)
      ∙ read-expr inside values xs
      ∙ r.reading inside values (omega arith)
      ∙ taken_open done (a_term i ∷ values) j (comes (terminal m.SquareClose) j ys) (omega arith)
      ∙ read-index w.line w i k vs ys high;
}

pub of_call : {more l j : ℕ} {es : Terms} {xs ys : Lexemes} (w : Word) → height (call w es) ≤ 200 → ReadsAll more es xs (comes (terminal m.ParenClose) j ys) →
    Reads (more + 1) 3 (call w es) (comes (a_name w.name) w.line (comes (terminal m.ParenOpen) l xs)) ys
of_call {l = l} {j = j} {es = es} {xs = xs} {ys = ys} w high r = record {
  reading = λ k vs low.
      let list = comes (terminal m.ParenOpen) l xs in
      let done = act call_done ∷ read_from w.line ∷ k in
      let inside = closing m.ParenClose ∷ done in
      let values = a_term (name w) ∷ vs in
      taken_open (act (push (a_term (name w))) ∷ brackets w.line ∷ k) vs w.line (comes (a_name w.name) w.line list) (omega arith)
      ∙ read-act (push (a_term (name w))) (brackets w.line ∷ k) vs list
      ∙ taken_open (act (push (some_terms none)) ∷ args ∷ inside) values l list (omega arith)
      ∙ read-act (push (some_terms none)) (args ∷ inside) values xs
      ∙ r.reading inside values (omega arith)
      ∙ taken_open done (some_terms es ∷ values) j (comes (terminal m.ParenClose) j ys) (omega arith)
      ∙ read-call w.line w es k vs ys high;
}

pub of_one : {more l : ℕ} {e : Term} {xs ys : Lexemes} (o : Op) → tightness o ≡ 3 → height (unary o e) ≤ 200 → Reads more 3 e xs ys → Reads (more + 1) 3 (unary o e) (comes (terminal (terminal_of o)) l xs) ys
of_one {l = l} {e = e} {xs = xs} {ys = ys} o prefix high r = record {
  reading = λ k vs low.
      takes_prefix o l k vs xs prefix (omega arith)
      ∙ r.reading (lifted o l ∷ k) vs (omega arith)
      ∙ read-lifted o l e k vs ys high;
}

-- an operator between its operands
pub of_two : {more l : ℕ} {e f : Term} {xs ys zs : Lexemes} (o : Op) (t : ℕ) → tightness o ≡ t → t < 3 → height (binary o e f) ≤ 200 → Ends t zs →
    Reads more (max 1 t) e xs (comes (terminal (terminal_of o)) l ys) → Reads more (t + 1) f ys zs → Reads more t (binary o e f) xs zs
of_two {l = l} {e = e} {f = f} {ys = ys} {zs = zs} o zero is two high ends a b = record {
  reading = λ k vs low.
      a.reading (comparison ∷ k) vs low
      ∙ skips_sums (comparison ∷ k) (a_term e ∷ vs) (comes (terminal (terminal_of o)) l ys) (no_sum o is)
      ∙ takes_comparison (terminal_of o) o l k (a_term e ∷ vs) ys (comparison_of-terminal_of o is) (omega arith)
      ∙ b.reading (act (join o) ∷ read_from l ∷ k) (a_term e ∷ vs) low
      ∙ skips_sums (act (join o) ∷ read_from l ∷ k) (a_term f ∷ a_term e ∷ vs) zs ends.2
      ∙ read-join o l e f k vs zs high;
}
of_two {l = l} {e = e} {f = f} {ys = ys} {zs = zs} o (suc zero) is two high ends a b = record {
  reading = λ k vs low.
      a.reading k vs low
      ∙ takes_sum (terminal_of o) o l k (a_term e ∷ vs) ys (sum_of-terminal_of o is) (omega arith)
      ∙ b.reading (act (join o) ∷ read_from l ∷ sums ∷ k) (a_term e ∷ vs) low
      ∙ skips_products (act (join o) ∷ read_from l ∷ sums ∷ k) (a_term f ∷ a_term e ∷ vs) zs ends.1
      ∙ read-join o l e f (sums ∷ k) vs zs high;
}
of_two {l = l} {e = e} {f = f} {ys = ys} {zs = zs} o (suc (suc zero)) is two high ends a b = record {
  reading = λ k vs low.
      a.reading k vs low
      ∙ takes_product (terminal_of o) o l k (a_term e ∷ vs) ys (product_of-terminal_of o is) (omega arith)
      ∙ b.reading (act (join o) ∷ read_from l ∷ products ∷ k) (a_term e ∷ vs) low
      ∙ read-join o l e f (products ∷ k) vs zs high;
}
of_two o (suc (suc (suc t))) is two high ends a b = absurd (omega arith)
