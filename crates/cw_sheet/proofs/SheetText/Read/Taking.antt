-- What readers take of texts that are spelled out.
use Rattle.std.proofs.Common.{◌≡◌, ℕ, ◌≤◌, Bool, true, false, if◌then◌else◌, List, [], ◌∷◌, ◌++◌, length, refl, ap, ◌∙◌, append_assoc, length-append, arith, subst, sym}
use Rattle.cw_sheet.specs.Items.{Place, Taken, took, ◌into◌, first_item}
use Rattle.cw_sheet.specs.SheetText.{line, spaced}

abbrev pub on_line : (line : ℕ) → List ℕ → Place
on_line l text = record { line = l; text = text }

-- x was taken, and this text is left
pub record Takes {A : Type 0} (r : Taken A) (x : A) (rest : List ℕ) : Type 0 where
  pub line : ℕ
  pub is : r ≡ took x (on_line line rest)

pub then_takes : {A B : Type 0} {x : A} {y : B} {middle rest : List ℕ} (r : Taken A) (f : A → Place → Taken B) →
    Takes r x middle → ((l : ℕ) → Takes (f x (on_line l middle)) y rest) → Takes (r into f) y rest
then_takes r f h g = let k = g h.line in record { line = k.line; is = ap (λ s. s into f) h.is ∙ k.is }

pub takes_if : {A : Type 0} (b : Bool) (r s : Taken A) (x : A) (rest : List ℕ) → b ≡ true → Takes r x rest → Takes (if b then r else s) x rest
takes_if true r s x rest e h = h
takes_if false r s x rest e h = cc

pub takes_unless : {A : Type 0} (b : Bool) (r s : Taken A) (x : A) (rest : List ℕ) → b ≡ false → Takes s x rest → Takes (if b then r else s) x rest
takes_unless false r s x rest e h = h
takes_unless true r s x rest e h = cc

-- ## Items that are spelled out

-- items, each behind a space, and what is behind them
abbrev pub spell : List (List ℕ) → List ℕ → List ℕ
spell [] rest = rest
spell (i ∷ is) rest = (32 ∷ i) ++ spell is rest

spaced_spelled : (is : List (List ℕ)) (rest : List ℕ) → spaced is ++ rest ≡ spell is rest
spaced_spelled [] rest = refl
spaced_spelled (i ∷ is) rest = append_assoc (32 ∷ i) (spaced is) rest ∙ ap (λ r. (32 ∷ i) ++ r) (spaced_spelled is rest)

pub line_spelled : (w : List ℕ) (is : List (List ℕ)) (rest : List ℕ) → line w is ++ rest ≡ w ++ spell is (10 ∷ rest)
line_spelled w is rest =
    append_assoc (w ++ spaced is) (10 ∷ []) rest ∙ append_assoc w (spaced is) (10 ∷ rest) ∙ ap (λ r. w ++ r) (spaced_spelled is (10 ∷ rest))

-- what is taken of a line, by its items
pub line_takes : {A : Type 0} {x : A} {left : List ℕ} (read : Place → Taken A) (w : List ℕ) (is : List (List ℕ)) (l : ℕ) (rest : List ℕ) →
    Takes (read (on_line l (w ++ spell is (10 ∷ rest)))) x left → Takes (read (on_line l (line w is ++ rest))) x left
line_takes {x = x} {left = left} read w is l rest h = subst (λ s. Takes (read (on_line l s)) x left) (sym (line_spelled w is rest)) h

-- an item ends where the next one begins
pub ends_there : (is : List (List ℕ)) (rest : List ℕ) → first_item (spell is (10 ∷ rest)) ≡ []
ends_there [] rest = refl
ends_there (i ∷ is) rest = refl

pub long_enough : (is : List (List ℕ)) (rest : List ℕ) → length is ≤ length (spell is rest)
long_enough [] rest = omega arith
long_enough (i ∷ is) rest = omega (arith, long_enough is rest, length-append i (spell is rest))
