-- A worked tree and the text that it is printed as. Brackets are written only if the tree needs them.
use Rattle.std.specs.Prelude.{◌≡◌, List, [], ◌∷◌, codes, pos, negsuc}
use Rattle.cw_text.specs.Syntax.{Term, name, number, at, call, none, more, unary, binary, declare, assign, assign_at, run, out, choose, repeat, atomic, spawn, sync, return, empty, first, Declaration, cell, func}
use Rattle.cw_text.specs.Lexemes.{keywords, lexemes}
use Rattle.cw_text.specs.Printed.{printed}
use Rattle.cw_text.specs.Worked.{word}
use Rattle.cw_text.specs.declared.ast.Op.TheVariants as op

abbrev pub a : Term
a = name (word (codes "a"))

abbrev pub b : Term
b = name (word (codes "b"))

abbrev pub less : Term
less = binary op.Lt a b

abbrev pub difference : Term
difference = binary op.Sub a b

abbrev pub product : Term
product = binary op.Mul a b

abbrev pub element_term : Term → Term
element_term i = at (word (codes "c")) i

abbrev pub tree : List Declaration
tree =
    cell (codes "a") 1 0 (pos 0)
    ∷ cell (codes "b") 1 0 (negsuc 2)
    ∷ cell (codes "c") 1 3 (pos 7)
    ∷ func (codes "f") 1 [] empty
    ∷ func (codes "g") 1 (word (codes "y") ∷ word (codes "z") ∷ []) (first (return 1 difference) empty)
    ∷ func (codes "main") 1 []
    (first (declare (word (codes "x")) (binary op.Eq less less))
    (first (assign (word (codes "a")) (binary op.Le difference product))
    (first (out (binary op.Sub (binary op.Add less difference) less))
    (first (out (binary op.Add (binary op.Sub difference product) (binary op.Add product (number (pos 7)))))
    (first (out (binary op.Mul (binary op.Mul less product) less))
    (first (out (binary op.Mul (binary op.Mul difference (unary op.Neg a)) difference))
    (first (out (binary op.Mul product (unary op.Not less)))
    (first (out (unary op.Neg (unary op.Neg (unary op.Not difference))))
    (first (out (binary op.Add (unary op.Neg product) (unary op.Neg (number (pos 0)))))
    (first (assign_at (word (codes "c")) difference (element_term less))
    (first (out (binary op.Rem (binary op.Div a product) (unary op.Neg (element_term (unary op.Neg (element_term a))))))
    (first (choose less (first (repeat difference (first (choose a empty empty) empty)) empty) (first (choose b empty (first sync empty)) empty))
    (first (out (binary op.Mul (call (word (codes "g")) (more less (more (call (word (codes "f")) none) none))) (unary op.Not (call (word (codes "h")) (more product none)))))
    (first (run (word (codes "g")) (more product (more difference none)))
    (first (run (word (codes "f")) none)
    (first (atomic (first (spawn (first (out a) empty)) (first sync empty)))
    empty))))))))))))))))
    ∷ []

abbrev pub Worked : Type 0
Worked =
    lexemes keywords (codes "cell a ; cell b = - 3 ; cell c [ 3 ] = 7 ; fn f ( ) { } fn g ( y , z ) { return a - b ; } fn main ( ) { let x = ( a < b ) == ( a < b ) ; a = a - b <= a * b ; out ( a < b ) + ( a - b ) - ( a < b ) ; out a - b - a * b + ( a * b + 7 ) ; out ( a < b ) * ( a * b ) * ( a < b ) ; out ( a - b ) * - a * ( a - b ) ; out a * b * ! ( a < b ) ; out - - ! ( a - b ) ; out - ( a * b ) + - 0 ; c [ a - b ] = c [ a < b ] ; out a / ( a * b ) % - c [ - c [ a ] ] ; if a < b { while a - b { if a { } } } else { if b { } else { sync ; } } out g ( a < b , f ( ) ) * ! h ( a * b ) ; g ( a * b , a - b ) ; f ( ) ; atomic { spawn { out a ; } sync ; } }")
    ≡ printed tree
