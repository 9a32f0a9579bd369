-- Operators where an operand was read: the next one is taken, or there is none of that kind.
use Rattle.std.proofs.Common.{◌≡◌, ℕ, ◌+◌, ◌≤◌, List, ◌∷◌, Option, Some, None, refl, arith}
use Rattle.std.proofs.lemmas.Bool.{le-ltb}
use Rattle.cw_text.specs.declared.ast.Op.{Op}
use Rattle.cw_text.specs.declared.ast.Op.TheVariants as op
use Rattle.cw_text.specs.declared.terminal.Terminal.{Terminal}
use Rattle.cw_text.specs.declared.terminal.Terminal.TheVariants as m
use Rattle.cw_text.specs.Lexemes.{Lexemes, end_on, comes, terminal}
use Rattle.cw_text.specs.Grammar.{Symbol, Values, act, brackets, comparison, comparison_of, join, lifted, operand, otherwise, pending, prefix_of, product_of, products, read, read_from, sum_of, sums}
use Rattle.cw_text.specs.Printed.{terminal_of, tightness}

-- the next token is no operator of this kind
abbrev pub NotNext : (Terminal → Option Op) → Lexemes → Type 0
NotNext f (end_on l) = Unit {0}
NotNext f (comes (terminal a) l xs) = f a ≡ None
NotNext f (comes t l xs) = Unit {0}

pub takes_product : (a : Terminal) (o : Op) (l : ℕ) (k : List Symbol) (vs : Values) (xs : Lexemes) → product_of a ≡ Some o → pending k ≤ 200 →
    read (products ∷ k) vs (comes (terminal a) l xs) ≡ read (operand ∷ act (join o) ∷ read_from l ∷ products ∷ k) vs xs
takes_product a o l k vs xs h low = rw (h, le-ltb 200 (pending k) low) refl

pub takes_sum : (a : Terminal) (o : Op) (l : ℕ) (k : List Symbol) (vs : Values) (xs : Lexemes) → sum_of a ≡ Some o → pending k ≤ 200 →
    read (sums ∷ k) vs (comes (terminal a) l xs) ≡ read (operand ∷ products ∷ act (join o) ∷ read_from l ∷ sums ∷ k) vs xs
takes_sum a o l k vs xs h low = rw (h, le-ltb 200 (pending k) low) refl

pub takes_comparison : (a : Terminal) (o : Op) (l : ℕ) (k : List Symbol) (vs : Values) (xs : Lexemes) → comparison_of a ≡ Some o → pending k ≤ 200 →
    read (comparison ∷ k) vs (comes (terminal a) l xs) ≡ read (operand ∷ products ∷ sums ∷ act (join o) ∷ read_from l ∷ k) vs xs
takes_comparison a o l k vs xs h low = rw (h, le-ltb 200 (pending k) low) refl

pub takes_prefix : (o : Op) (l : ℕ) (k : List Symbol) (vs : Values) (xs : Lexemes) → tightness o ≡ 3 → pending k + 1 ≤ 200 →
    read (operand ∷ k) vs (comes (terminal (terminal_of o)) l xs) ≡ read (operand ∷ lifted o l ∷ k) vs xs
takes_prefix op.Neg l k vs xs h low = rw (le-ltb 200 (pending k + 1) low) refl
takes_prefix op.Not l k vs xs h low = rw (le-ltb 200 (pending k + 1) low) refl
takes_prefix o l k vs xs h low = absurd (omega arith)

pub skips_products : (k : List Symbol) (vs : Values) (xs : Lexemes) → NotNext product_of xs → read (products ∷ k) vs xs ≡ read k vs xs
skips_products k vs (end_on l) h = refl
skips_products k vs (comes (terminal a) l xs) h = rw h refl
skips_products k vs (comes t l xs) h = refl

pub skips_sums : (k : List Symbol) (vs : Values) (xs : Lexemes) → NotNext sum_of xs → read (sums ∷ k) vs xs ≡ read k vs xs
skips_sums k vs (end_on l) h = refl
skips_sums k vs (comes (terminal a) l xs) h = rw h refl
skips_sums k vs (comes t l xs) h = refl

pub skips_comparison : (k : List Symbol) (vs : Values) (xs : Lexemes) → NotNext comparison_of xs → read (comparison ∷ k) vs xs ≡ read k vs xs
skips_comparison k vs (end_on l) h = refl
skips_comparison k vs (comes (terminal a) l xs) h = rw h refl
skips_comparison k vs (comes t l xs) h = refl

-- ## What may stand or not

-- the next token opens no bracket that may stand behind a name
abbrev pub NoBracket : Lexemes → Type 0
NoBracket (comes (terminal m.SquareOpen) l xs) = ⊥
NoBracket (comes (terminal m.ParenOpen) l xs) = ⊥
NoBracket xs = Unit {0}

pub skips_brackets : (n : ℕ) (k : List Symbol) (vs : Values) (xs : Lexemes) → NoBracket xs → read (brackets n ∷ k) vs xs ≡ read k vs xs
skips_brackets n k vs (end_on l) h = refl
skips_brackets n k vs (comes (terminal m.SquareOpen) l xs) h = absurd h
skips_brackets n k vs (comes (terminal m.ParenOpen) l xs) h = absurd h
skips_brackets n k vs (comes (terminal a) l xs) h = refl
skips_brackets n k vs (comes t l xs) h = refl

-- the next token is no `else`
abbrev pub NoElse : Lexemes → Type 0
NoElse (comes (terminal m.Else) l xs) = ⊥
NoElse xs = Unit {0}

pub skips_otherwise : (k : List Symbol) (vs : Values) (xs : Lexemes) → NoElse xs → read (otherwise ∷ k) vs xs ≡ read k vs xs
skips_otherwise k vs (end_on l) h = refl
skips_otherwise k vs (comes (terminal m.Else) l xs) h = absurd h
skips_otherwise k vs (comes (terminal a) l xs) h = refl
skips_otherwise k vs (comes t l xs) h = refl

-- ## The terminal of an operator

pub product_of-terminal_of : (o : Op) → tightness o ≡ 2 → product_of (terminal_of o) ≡ Some o
product_of-terminal_of op.Mul h = refl
product_of-terminal_of op.Div h = refl
product_of-terminal_of op.Rem h = refl
product_of-terminal_of o h = absurd (omega arith)

pub sum_of-terminal_of : (o : Op) → tightness o ≡ 1 → sum_of (terminal_of o) ≡ Some o
sum_of-terminal_of op.Add h = refl
sum_of-terminal_of op.Sub h = refl
sum_of-terminal_of o h = absurd (omega arith)

pub comparison_of-terminal_of : (o : Op) → tightness o ≡ 0 → comparison_of (terminal_of o) ≡ Some o
comparison_of-terminal_of op.Add h = absurd (omega arith)
comparison_of-terminal_of op.Sub h = absurd (omega arith)
comparison_of-terminal_of op.Mul h = absurd (omega arith)
comparison_of-terminal_of op.Div h = absurd (omega arith)
comparison_of-terminal_of op.Rem h = absurd (omega arith)
comparison_of-terminal_of op.Neg h = absurd (omega arith)
comparison_of-terminal_of op.Not h = absurd (omega arith)
comparison_of-terminal_of o h = refl

pub no_sum : (o : Op) → tightness o ≡ 0 → sum_of (terminal_of o) ≡ None
no_sum op.Add h = absurd (omega arith)
no_sum op.Sub h = absurd (omega arith)
no_sum op.Neg h = absurd (omega arith)
no_sum o h = refl

-- ## The operator of a terminal

pub product_tightness : (a : Terminal) (o : Op) → product_of a ≡ Some o → tightness o ≡ 2
product_tightness m.Star o h = cc
product_tightness m.Slash o h = cc
product_tightness m.Percent o h = cc
product_tightness a o h = cc

pub sum_tightness : (a : Terminal) (o : Op) → sum_of a ≡ Some o → tightness o ≡ 1
sum_tightness m.Plus o h = cc
sum_tightness m.Minus o h = cc
sum_tightness a o h = cc

pub comparison_tightness : (a : Terminal) (o : Op) → comparison_of a ≡ Some o → tightness o ≡ 0
comparison_tightness m.EqEq o h = cc
comparison_tightness a o h = cc

pub prefix_terminal : (a : Terminal) (o : Op) → prefix_of a ≡ Some o → a ≡ terminal_of o
prefix_terminal m.Minus o h = cc
prefix_terminal m.Bang o h = cc
prefix_terminal a o h = cc

pub prefix_tightness : (a : Terminal) (o : Op) → prefix_of a ≡ Some o → tightness o ≡ 3
prefix_tightness m.Minus o h = cc
prefix_tightness m.Bang o h = cc
prefix_tightness a o h = cc

pub product_terminal : (a : Terminal) (o : Op) → product_of a ≡ Some o → a ≡ terminal_of o
product_terminal m.Star o h = cc
product_terminal a o h = cc

pub sum_terminal : (a : Terminal) (o : Op) → sum_of a ≡ Some o → a ≡ terminal_of o
sum_terminal m.Plus o h = cc
sum_terminal a o h = cc

pub comparison_terminal : (a : Terminal) (o : Op) → comparison_of a ≡ Some o → a ≡ terminal_of o
comparison_terminal m.EqEq o h = cc
comparison_terminal a o h = cc
