-- Worked texts: what they read as, or their first fault.
use Rattle.std.specs.Prelude.{Result, ◌++◌, pos, negsuc, replicate, ℕ, zero, suc, ◌≡◌, List, [], ◌∷◌, codes, Ok, Err}
use Rattle.std.specs.List.{flat_map}
use Rattle.cw_text.specs.Syntax.{Declaration, func, cell, Block, empty, first, declare, assign, assign_at, run, out, choose, repeat, atomic, spawn, sync, cancel, return, Source, Term, at, call, none, more, binary, name, number, unary}
use Rattle.cw_text.specs.Lexemes.{end_on, comes, name as a_name, number as a_number, terminal, bad, lexemes, keywords, keywords_of}
use Rattle.cw_text.specs.Grammar.{program_of}
use Rattle.cw_text.specs.Text.{language_of, source_in}
use Rattle.cw_text.specs.Printed.{tokens_before}
use Rattle.cw_text.specs.PrintedText.{source_tokens}
use Rattle.cw_text.specs.declared.fault.TextKind.{TextKind}
use Rattle.cw_text.specs.declared.fault.TextKind.TheVariants.{BadChar, BadNumber, Unexpected, TooDeep}
use Rattle.cw_text.specs.declared.fault.TextFault.{TextFault}
use Rattle.cw_text.specs.declared.ast.Op.TheVariants as op
use Rattle.cw_text.specs.declared.ast.Word.{Word}
use Rattle.cw_text.specs.declared.terminal.Terminal.TheVariants as m

abbrev pub read : List ℕ → Result (List Declaration) TextFault
read text = program_of (lexemes keywords text)

abbrev pub refused : TextKind → ℕ → Result (List Declaration) TextFault
refused k l = Err (record { kind = k; line = l })

-- a name on line 1
abbrev pub word : List ℕ → Word
word text = record { name = text; line = 1 }

abbrev pub Tokens : Type 0
Tokens =
    lexemes keywords (codes "fn main() { x >= 12; }\n// y\n@")
    ≡ comes (terminal m.Fn) 1 (comes (a_name (codes "main")) 1 (comes (terminal m.ParenOpen) 1 (comes (terminal m.ParenClose) 1 (comes (terminal m.BraceOpen) 1 (comes (a_name (codes "x")) 1 (comes (terminal m.GreaterEq) 1 (comes (a_number 12) 1 (comes (terminal m.Semicolon) 1 (comes (terminal m.BraceClose) 1 (comes (bad BadChar) 3 (end_on 3)))))))))))

abbrev pub Programs : Type 0
Programs =
    (read (codes "fn main() {}") ≡ Ok (func (codes "main") 1 [] empty ∷ []))
    × (read [] ≡ Ok [])
    × (read (codes "cell c = -3; fn main() { let x = c + 1 * 2; c = x; out -c < (3 - c) - 1; }") ≡ Ok (cell (codes "c") 1 0 (negsuc 2) ∷ func (codes "main") 1 [] (first (declare (word (codes "x")) (binary op.Add (name (word (codes "c"))) (binary op.Mul (number (pos 1)) (number (pos 2))))) (first (assign (word (codes "c")) (name (word (codes "x")))) (first (out (binary op.Lt (unary op.Neg (name (word (codes "c")))) (binary op.Sub (binary op.Sub (number (pos 3)) (name (word (codes "c")))) (number (pos 1))))) empty))) ∷ []))
    × (read (codes "fn main() { atomic { spawn { atomic { } } sync; } }") ≡ Ok (func (codes "main") 1 [] (first (atomic (first (spawn (first (atomic empty) empty)) (first sync empty))) empty) ∷ []))

abbrev pub element : ℕ → Term
element i = at (word (codes "a")) (number (pos i))

abbrev pub Arrays : Type 0
Arrays =
    (read (codes "cell a[3] = -2; cell b[1]; fn main() { a[a[0] - 1] = -a[2] * a[1] / 5 % 3; }") ≡ Ok (cell (codes "a") 1 3 (negsuc 1) ∷ cell (codes "b") 1 1 (pos 0) ∷ func (codes "main") 1 [] (first (assign_at (word (codes "a")) (binary op.Sub (element 0) (number (pos 1))) (binary op.Rem (binary op.Div (binary op.Mul (unary op.Neg (element 2)) (element 1)) (number (pos 5))) (number (pos 3)))) empty) ∷ []))
    × (read (codes "cell a[\n0]; fn main() {}") ≡ refused BadNumber 2)
    × (read (codes "cell a[]; fn main() {}") ≡ refused Unexpected 1)
    × (read (codes "cell a[-1]; fn main() {}") ≡ refused Unexpected 1)
    × (read (codes "cell a[2\n= 1; fn main() {}") ≡ refused Unexpected 2)
    × (read (codes "fn main() { a[0\n}") ≡ refused Unexpected 2)
    × (read (codes "fn main() { a[0]\n; }") ≡ refused Unexpected 2)
    × (read (codes "fn main() { out a[0]\n[1]; }") ≡ refused Unexpected 2)
    × (read (codes "fn main() { out (a)\n[0]; }") ≡ refused Unexpected 2)

abbrev pub Choices : Type 0
Choices =
    (read (codes "fn main() { if a < 1 { out 1; } else { if b { } } while 1 { a = 2; } }") ≡ Ok (func (codes "main") 1 [] (first (choose (binary op.Lt (name (word (codes "a"))) (number (pos 1))) (first (out (number (pos 1))) empty) (first (choose (name (word (codes "b"))) empty empty) empty)) (first (repeat (number (pos 1)) (first (assign (word (codes "a")) (number (pos 2))) empty)) empty)) ∷ []))
    × (read (codes "fn main() { if 1 { } else\nout 1; }") ≡ refused Unexpected 2)
    × (read (codes "fn main() { if 1 { } else\nif 2 { } }") ≡ refused Unexpected 2)
    × (read (codes "fn main() { if 1 { } else { }\nelse { } }") ≡ refused Unexpected 2)
    × (read (codes "fn main() { if 1 { } sync;\nelse { } }") ≡ refused Unexpected 2)
    × (read (codes "fn main() { if\n{ } }") ≡ refused Unexpected 2)
    × (read (codes "fn main() { if 1\n; }") ≡ refused Unexpected 2)
    × (read (codes "fn main() { while\n{ } }") ≡ refused Unexpected 2)
    × (read (codes "fn main() { while 1\nout 1; }") ≡ refused Unexpected 2)
    × (read (codes "fn main() { while 1 < 2\n< 3 { } }") ≡ refused Unexpected 2)

abbrev pub Functions : Type 0
Functions =
    (read (codes "fn f(a, b) {\nreturn\na - b; } fn main() { f(); }") ≡ Ok (func (codes "f") 1 (word (codes "a") ∷ word (codes "b") ∷ []) (first (return 2 (binary op.Sub (name (record { name = codes "a"; line = 3 })) (name (record { name = codes "b"; line = 3 })))) empty) ∷ func (codes "main") 3 [] (first (run (record { name = codes "f"; line = 3 }) none) empty) ∷ []))
    × (read (codes "fn f(n) { f(1, -f(2, 3) * f()); }") ≡ Ok (func (codes "f") 1 (word (codes "n") ∷ []) (first (run (word (codes "f")) (more (number (pos 1)) (more (binary op.Mul (unary op.Neg (call (word (codes "f")) (more (number (pos 2)) (more (number (pos 3)) none)))) (call (word (codes "f")) none)) none))) empty) ∷ []))
    × (read (codes "fn main() { return\n; }") ≡ refused Unexpected 2)
    × (read (codes "fn f\n{ }") ≡ refused Unexpected 2)
    × (read (codes "fn f(\n1) { }") ≡ refused Unexpected 2)
    × (read (codes "fn f(a,\n) { }") ≡ refused Unexpected 2)
    × (read (codes "fn f(\n, a) { }") ≡ refused Unexpected 2)
    × (read (codes "fn f(a\nb) { }") ≡ refused Unexpected 2)
    × (read (codes "fn main() { f(1,\n); }") ≡ refused Unexpected 2)
    × (read (codes "fn main() { f(\n, 1); }") ≡ refused Unexpected 2)
    × (read (codes "fn main() { f(1\n}") ≡ refused Unexpected 2)
    × (read (codes "fn main() { f()\n}") ≡ refused Unexpected 2)
    × (read (codes "fn main() { f()\n= 1; }") ≡ refused Unexpected 2)
    × (read (codes "fn main() { out f(1)\n(2); }") ≡ refused Unexpected 2)
    × (read (codes "fn main() { out f[1]\n(2); }") ≡ refused Unexpected 2)

-- n times `1+`, and then `1`
abbrev pub ones : ℕ → List ℕ
ones n = flat_map {X = ℕ} (λ x. codes "1+") (replicate n 32) ++ codes "1"

-- An expression of height 200 passes. One of height 201 is refused at its operator or at its name. The index and the
-- value of an assignment each have their own height.
abbrev pub Heights : Type 0
Heights =
    (read (codes "fn main() { out\n" ++ (ones 199 ++ codes ";@")) ≡ refused BadChar 2)
    × (read (codes "fn main() { out 1\n+\n" ++ (ones 199 ++ codes ";@")) ≡ refused TooDeep 3)
    × (read (codes "fn main() { out\n" ++ (ones 199 ++ codes "\n== 1;")) ≡ refused TooDeep 3)
    × (read (codes "fn main() { out a[" ++ (ones 198 ++ codes "];@")) ≡ refused BadChar 1)
    × (read (codes "fn main() { out\na\n[" ++ (ones 199 ++ codes "];")) ≡ refused TooDeep 2)
    × (read (codes "fn main() { a[" ++ (ones 199 ++ (codes "] = " ++ (ones 199 ++ codes ";@")))) ≡ refused BadChar 1)

-- n atomic blocks, each in the one before, and the text that they begin with
abbrev pub nested : ℕ → Block
nested zero = empty
nested (suc n) = first (atomic (nested n)) empty

abbrev pub nested_begin : ℕ → List ℕ
nested_begin n = flat_map {X = ℕ} (λ x. codes "atomic{") (replicate n 32)

-- The brace of main is one of the 200 that may be open, and so is that of each block.
abbrev pub Brackets : Type 0
Brackets =
    (read (codes "fn main() { out " ++ (replicate 200 40 ++ (codes "1" ++ (replicate 200 41 ++ codes "; }")))) ≡ refused TooDeep 1)
    × (read (codes "fn main() { out " ++ (replicate 199 40 ++ (codes "1" ++ (replicate 199 41 ++ codes "; }")))) ≡ Ok (func (codes "main") 1 [] (first (out (number (pos 1))) empty) ∷ []))
    × (read (codes "fn main() {" ++ (nested_begin 199 ++ codes "atomic\n{")) ≡ refused TooDeep 2)
    × (read (codes "fn main() {" ++ (nested_begin 199 ++ replicate 200 125)) ≡ Ok (func (codes "main") 1 [] (nested 199) ∷ []))

-- n elements, each the index of the one before
abbrev pub elements : ℕ → Term
elements zero = number (pos 1)
elements (suc n) = at (word (codes "a")) (elements n)

abbrev pub elements_begin : ℕ → List ℕ
elements_begin n = flat_map {X = ℕ} (λ x. codes "a[") (replicate n 32)

-- A call is one higher than its highest argument, and has no height if it is a statement. Its bracket is one of the 200 too.
abbrev pub Calls : Type 0
Calls =
    (read (codes "fn main() { out f(1, " ++ (ones 198 ++ codes ", 1);@")) ≡ refused BadChar 1)
    × (read (codes "fn main() { out\nf\n(1, " ++ (ones 199 ++ codes ", 1);")) ≡ refused TooDeep 2)
    × (read (codes "fn main() { f(" ++ (ones 199 ++ codes ");@")) ≡ refused BadChar 1)
    × (read (codes "fn main() { f(" ++ (elements_begin 198 ++ codes "f\n(")) ≡ refused TooDeep 2)

-- The bracket of an index is one of the 200 too.
abbrev pub Indexes : Type 0
Indexes =
    (read (codes "fn main() { out " ++ (elements_begin 199 ++ codes "a\n[")) ≡ refused TooDeep 2)
    × (read (codes "fn main() { out " ++ (elements_begin 199 ++ (codes "1" ++ (replicate 199 93 ++ codes "; }")))) ≡ Ok (func (codes "main") 1 [] (first (out (elements 199)) empty) ∷ []))

-- The braces of a choice and a loop are among the 200 too. A test has its height, as every other expression.
abbrev pub Branches : Type 0
Branches =
    (read (codes "fn main() {" ++ (nested_begin 199 ++ codes "if 1\n{")) ≡ refused TooDeep 2)
    × (read (codes "fn main() {" ++ (nested_begin 198 ++ codes "if 1 { } else { while 1\n{")) ≡ refused TooDeep 2)
    × (read (codes "fn main() { while 1\n+" ++ (ones 199 ++ codes "{ }")) ≡ refused TooDeep 2)

abbrev pub Refusals : Type 0
Refusals =
    (read (codes "fn main( {}") ≡ refused Unexpected 1)
    × (read (codes "fn main() { @ }") ≡ refused BadChar 1)
    × (read (codes "fn main() { out 9223372036854775808; }") ≡ refused BadNumber 1)
    × (read (codes "fn main() {\n out 1 +; }") ≡ refused Unexpected 2)
    × (read (codes "fn main() {") ≡ refused Unexpected 1)
    × (read (codes "fn main() { sync\n}") ≡ refused Unexpected 2)
    × (read (codes "fn main() { atomic\nout 1; }") ≡ refused Unexpected 2)
    × (read (codes "fn main() { spawn\n; }") ≡ refused Unexpected 2)
    × (read (codes "fn main() { out\natomic; }") ≡ refused Unexpected 2)
    × (read (codes "fn main() {\nif }") ≡ refused Unexpected 2)

-- ## Languages

abbrev pub refused_source : TextKind → ℕ → Result Source TextFault
refused_source k l = Err (record { kind = k; line = l })

abbrev pub read_in : (newest : ℕ) → List ℕ → Result Source TextFault
read_in newest text = source_in (language_of newest (lexemes keywords text)) text

-- main alone, with the body b
abbrev pub main_of : ℕ → Block → Source
main_of n b = record { language = n; items = func (codes "main") 1 [] b ∷ [] }

abbrev pub Languages : Type 0
Languages =
    (read_in 2 (codes "language 2; fn main() { atomic { cancel; } }") ≡ Ok (main_of 2 (first (atomic (first (cancel 1) empty)) empty)))
    × (read_in 2 (codes "language 1; fn main() {}") ≡ Ok (main_of 1 empty))
    × (read_in 1 (codes "language 1; fn main() {}") ≡ Ok (main_of 1 empty))
    × (read_in 2 (codes "fn main() {}") ≡ Ok (main_of 1 empty))
    × (read_in 2 (codes "// c\nlanguage // d\n02 ; fn main() { cancel; }") ≡ Ok (record { language = 2; items = func (codes "main") 3 [] (first (cancel 3) empty) ∷ [] }))
    × (read_in 2 (codes "cell language; fn main() { language = 2; }") ≡ Ok (record { language = 1; items = cell (codes "language") 1 0 (pos 0) ∷ func (codes "main") 1 [] (first (assign (word (codes "language")) (number (pos 2))) empty) ∷ [] }))
    × (read_in 2 (codes "language 1; cell cancel; fn main() { cancel = 1; }") ≡ Ok (record { language = 1; items = cell (codes "cancel") 1 0 (pos 0) ∷ func (codes "main") 1 [] (first (assign (word (codes "cancel")) (number (pos 1))) empty) ∷ [] }))
    × (read_in 2 (codes "language 2;") ≡ Ok (record { language = 2; items = [] }))
    × (read_in 2 (codes "language 0;") ≡ refused_source Unexpected 1)
    × (read_in 2 (codes "language 3") ≡ refused_source Unexpected 1)
    × (read_in 2 (codes "language -2;") ≡ refused_source Unexpected 1)
    × (read_in 2 (codes "language 2 2;") ≡ refused_source Unexpected 1)
    × (read_in 2 (codes "language") ≡ refused_source Unexpected 1)
    × (read_in 2 (codes "language\n2\nfn main() {}") ≡ refused_source Unexpected 3)
    × (read_in 2 (codes "language 2; language 2;") ≡ refused_source Unexpected 1)
    × (read_in 2 (codes "fn main() {} language 2;") ≡ refused_source Unexpected 1)
    × (read_in 2 (codes "language 2; cell cancel; fn main() {}") ≡ refused_source Unexpected 1)
    × (read_in 2 (codes "language 1; fn main() { cancel; }") ≡ refused_source Unexpected 1)
    × (read_in 2 (codes "language 2; fn main() { atomic { cancel } }") ≡ refused_source Unexpected 1)
    × (read_in 2 (codes "language 2; fn main() { atomic { cancel 1; } }") ≡ refused_source Unexpected 1)
    × (read_in 2 (codes "language 2; fn main() { atomic { cancel = 1; } }") ≡ refused_source Unexpected 1)
    × (read_in 2 (codes "language 2; fn main() { atomic { cancel(); } }") ≡ refused_source Unexpected 1)
    × (read_in 2 (codes "language 2x;") ≡ refused_source BadNumber 1)
    × (read_in 2 (codes "language 99999999999999999999;") ≡ refused_source BadNumber 1)
    × (read_in 1 (codes "language 2 @") ≡ refused_source Unexpected 1)
    × (read_in 1 (codes "language 1 @") ≡ refused_source BadChar 1)
    × (lexemes (keywords_of 2) (codes "language 2 ; cell c = - 5 ; fn main ( ) { atomic { cancel ; } }")
    ≡ tokens_before (source_tokens (record { language = 2; items = cell (codes "c") 1 0 (negsuc 4) ∷ func (codes "main") 1 [] (first (atomic (first (cancel 1) empty)) empty) ∷ [] })) (end_on 1))
