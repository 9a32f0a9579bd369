-- Which steps and names are the same.
use Rattle.std.proofs.Common.{◌≡◌, refl, ap, sym, ◌∙◌, Bool, true, false, eqb, List, [], ◌∷◌, ◌++◌}
use Rattle.std.proofs.lemmas.Bool.{and_parts, and_from, eqb-true, eq-eqb}
use Rattle.cw_tree.specs.declared.picks.Turn.{Turn}
use Rattle.cw_serial.specs.Machine.{same_side, same_turn, same_name, is_beneath}
use Rattle.cw_serial.proofs.Sides.{turn_is}

side_true : (b c : Bool) → same_side b c ≡ true → b ≡ c
side_true true c e = sym e
side_true false true e = absurd cc
side_true false false e = refl

side_itself : (b : Bool) → same_side b b ≡ true
side_itself true = refl
side_itself false = refl

pub turn_true : (x y : Turn) → same_turn x y ≡ true → x ≡ y
turn_true x y e =
    let (fork, side) = and_parts (eqb x.fork y.fork) (same_side x.right y.right) e in
    turn_is x y.fork y.right (eqb-true x.fork y.fork fork) (side_true x.right y.right side)

pub turn_itself : (x : Turn) → same_turn x x ≡ true
turn_itself x = and_from (eqb x.fork x.fork) (same_side x.right x.right) (eq-eqb x.fork x.fork refl) (side_itself x.right)

pub name_true : (p q : List Turn) → same_name p q ≡ true → p ≡ q
name_true [] [] e = refl
name_true [] (y ∷ q) e = absurd cc
name_true (x ∷ p) [] e = absurd cc
name_true (x ∷ p) (y ∷ q) e =
    let (turn, rest) = and_parts (same_turn x y) (same_name p q) e in
    ap (λ v. v ∷ p) (turn_true x y turn) ∙ ap (λ v. y ∷ v) (name_true p q rest)

pub name_itself : (p : List Turn) → same_name p p ≡ true
name_itself [] = refl
name_itself (x ∷ p) = and_from (same_turn x x) (same_name p p) (turn_itself x) (name_itself p)

pub beneath_more : (q r : List Turn) → is_beneath q (q ++ r) ≡ true
beneath_more [] r = refl
beneath_more (x ∷ q) r = and_from (same_turn x x) (is_beneath q (q ++ r)) (turn_itself x) (beneath_more q r)
