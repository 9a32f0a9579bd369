-- The first fault of two lists of faults, and that of one.
use Rattle.std.proofs.Common.{◌≡◌, ℕ, zero, suc, ◌+◌, ◌<◌, ◌≤◌, Bool, true, false, List, [], ◌∷◌, ◌++◌, Option, Some, None, refl, sym, ap, ◌∙◌, subst, arith, nat_lt, drop, ◌&&◌, ◌⊎◌, inl, inr, ⊎_elim}
use Rattle.std.specs.Prelude.{slice_get, Contains, ◌==◌, nat_le, if◌then◌else◌}
use Rattle.std.proofs.lemmas.Bool.{ltb-true, leb-true, eqb-true, ltb-false, leb-false}
use Rattle.std.proofs.lemmas.Bool.Decides.{eqb_tells}
use Rattle.cw_code.specs.declared.instruction.CodeFault.{CodeFault}
use Rattle.cw_code.specs.declared.instruction.Instr.{Instr}
use Rattle.cw_code.specs.declared.instruction.Func.{Func}
use Rattle.cw_code.specs.declared.instruction.Code.{Code}
use Rattle.cw_code.specs.declared.effects.Effect.{Effect}
use Rattle.cw_code.specs.Rules.{earlier, earliest, inside, if_inside, next_of, target_of, never_passed, jumps, natural, head_faults, is_laid, place_faults, places, size_of, faults_from, faults, precedes, Before, kind_number, IsFirst}
use Rattle.std.proofs.lemmas.Bool.{and_parts, or_cases, or_parts}

pub earliest_append : (o : Option CodeFault) (xs ys : List CodeFault) → earliest o (xs ++ ys) ≡ earliest (earliest o xs) ys
earliest_append o [] ys = refl
earliest_append o (x ∷ xs) ys = earliest_append (earlier o x) xs ys

-- where ways lead, the function has a place
inside_found : (f : Func) (o : Option ℕ) (q : ℕ) → if_inside f o ≡ Some q → (f.start ≤ q) × (q < f.end)
inside_found f None q e = cc
inside_found f (Some r) q e = found (inside f r) refl e
  where
    found : (b : Bool) → inside f r ≡ b → (if b then Some r else None) ≡ Some q → (f.start ≤ q) × (q < f.end)
    found true i e =
        let rq : r ≡ q = cc in
        let b = and_parts (nat_le f.start r) (nat_lt r f.end) i in
        subst (λ x. (f.start ≤ x) × (x < f.end)) rq (leb-true f.start r b.0, ltb-true r f.end b.1)
    found false i e = cc

pub next_inside : (f : Func) (p : ℕ) (e : Option Effect) (q : ℕ) → next_of f p e ≡ Some q → (f.start ≤ q) × (q < f.end)
next_inside f p e q is = found (never_passed e) is
  where
    found : (b : Bool) → (if b then None else if_inside f (Some (p + 1))) ≡ Some q → (f.start ≤ q) × (q < f.end)
    found true h = cc
    found false h = inside_found f (Some (p + 1)) q h

pub target_inside : (f : Func) (i : Instr) (e : Option Effect) (q : ℕ) → target_of f i e ≡ Some q → (f.start ≤ q) × (q < f.end)
target_inside f i e q is = found (jumps e) is
  where
    found : (b : Bool) → (if b then if_inside f (natural i.a) else None) ≡ Some q → (f.start ≤ q) × (q < f.end)
    found true h = inside_found f (natural i.a) q h
    found false h = cc

drop_at : {X : Type 0} (xs : List X) (n : ℕ) (x : X) → slice_get xs n ≡ Some x → drop n xs ≡ x ∷ drop (n + 1) xs
drop_at [] n x e = cc
drop_at (y ∷ ys) zero x e = let s : y ≡ x = cc in ap (λ z. z ∷ ys) s
drop_at (y ∷ ys) (suc n) x e = let z : suc n + 1 ≡ suc (n + 1) = omega arith in drop_at ys n x e ∙ ap (λ k. x ∷ drop k (y ∷ ys)) (sym z)

pub next_function : (c : Code) (n : ℕ) (f : Func) (best r : Option CodeFault) (laid : Bool) (at : ℕ) → slice_get c.funcs n ≡ Some f → r ≡ earliest best (head_faults c at f ++ (if laid && is_laid c at f then place_faults c f (places c f) (size_of f) else [])) → earliest r (faults_from c (laid && is_laid c at f) f.end (drop (n + 1) c.funcs)) ≡ earliest best (faults_from c laid at (drop n c.funcs))
next_function c n f best r laid at is e =
    let well = laid && is_laid c at f in
    let mine = if well then place_faults c f (places c f) (size_of f) else [] in
    let rest = faults_from c well f.end (drop (n + 1) c.funcs) in
    ap (λ o. earliest o rest) (e ∙ earliest_append best (head_faults c at f) mine)
    ∙ sym (earliest_append (earliest best (head_faults c at f)) mine rest)
    ∙ sym (earliest_append best (head_faults c at f) (mine ++ rest))
    ∙ ap (λ l. earliest best (faults_from c laid at l)) (sym (drop_at c.funcs n f is))

-- ## The first of a list

and_false : (x y : Bool) → (x && y) ≡ false → x ≡ true → y ≡ false
and_false true y e t = e
and_false false y e t = cc

precedes_is : (a b : CodeFault) → precedes a b ≡ true → Before a b
precedes_is a b e =
    let lt = nat_lt a.at b.at in
    let rest = (a.at == b.at) && nat_le (kind_number a.kind) (kind_number b.kind) in
    ⊎_elim (λ l. inl (ltb-true a.at b.at l)) (λ r.
    let p = and_parts (a.at == b.at) (nat_le (kind_number a.kind) (kind_number b.kind)) r in
    inr (eqb-true a.at b.at p.0, leb-true (kind_number a.kind) (kind_number b.kind) p.1)) (or_cases lt rest e)

precedes_not : (a b : CodeFault) → precedes a b ≡ false → Before b a
precedes_not a b e =
    let lt = nat_lt a.at b.at in
    let rest = (a.at == b.at) && nat_le (kind_number a.kind) (kind_number b.kind) in
    let p = or_parts lt rest e in
    let le = ltb-false a.at b.at p.0 in
    ⊎_elim (λ y. inr (sym y.1, omega (arith, leb-false (kind_number a.kind) (kind_number b.kind) (and_false (a.at == b.at) _ p.1 y.0)))) (λ y. inl (omega (arith, y.1))) (eqb_tells a.at b.at)

before_all : (a b d : CodeFault) → Before a b → Before b d → Before a d
before_all a b d (inl x) (inl y) = inl (omega arith)
before_all a b d (inl x) (inr y) = inl (omega (arith, y.0))
before_all a b d (inr x) (inl y) = inl (omega (arith, x.0))
before_all a b d (inr x) (inr y) = inr (x.0 ∙ y.0, omega (arith, x.1, y.1))

before_itself : (a : CodeFault) → Before a a
before_itself a = inr (refl, omega arith)

-- the first of a list and a fault
record First (o : CodeFault) (gs : List CodeFault) (r : CodeFault) : Type 0 where
  one : (r ≡ o) ⊎ Contains gs r
  here : Before r o
  least : (g : CodeFault) → Contains gs g → Before r g

tail_has : {X : Type 0} (x : X) (xs : List X) (y : X) → Contains xs y → Contains (x ∷ xs) y
tail_has x xs y k = (suc k.0, omega (arith, k.1), k.2)

abbrev HasFirst : Option CodeFault → CodeFault → List CodeFault → Type 0
HasFirst e o gs = (r : CodeFault) × (e ≡ Some r) × First o gs r

one_more : (o g : CodeFault) (gs : List CodeFault) → ((x : CodeFault) → HasFirst (earliest (Some x) gs) x gs) → (b : Bool) → precedes o g ≡ b → HasFirst (earliest (if b then Some o else Some g) gs) o (g ∷ gs)
one_more o g gs further true e =
    let h = further o in
    let p = precedes_is o g e in (
      h.0,
      h.1,
      record {
        one = ⊎_elim inl (λ k. inr (tail_has g gs h.0 k)) h.2.one;
        here = h.2.here;
        least = in_list h.0 h.2 p;
      },
    )
  where
    in_list : (r : CodeFault) → First o gs r → Before o g → (x : CodeFault) → Contains (g ∷ gs) x → Before r x
    in_list r f p x (zero, lt, is) = subst (Before r) is (before_all r o g f.here p)
    in_list r f p x (suc k, lt, is) = f.least x (k, omega arith, is)
one_more o g gs further false e =
    let h = further g in
    let p = precedes_not o g e in (
      h.0,
      h.1,
      record {
        one = ⊎_elim (λ s. inr (0, omega arith, sym s)) (λ k. inr (tail_has g gs h.0 k)) h.2.one;
        here = before_all h.0 g o h.2.here p;
        least = in_list h.0 h.2;
      },
    )
  where
    in_list : (r : CodeFault) → First g gs r → (x : CodeFault) → Contains (g ∷ gs) x → Before r x
    in_list r f x (zero, lt, is) = subst (Before r) is f.here
    in_list r f x (suc k, lt, is) = f.least x (k, omega arith, is)

first_of_list : (gs : List CodeFault) (o : CodeFault) → HasFirst (earliest (Some o) gs) o gs
first_of_list [] o = (o, refl, record { one = inl refl; here = before_itself o; least = λ g k. absurd (omega (arith, k.1)) })
first_of_list (g ∷ gs) o = one_more o g gs (λ x. first_of_list gs x) (precedes o g) refl

pub none_found : (gs : List CodeFault) → earliest None gs ≡ None → gs ≡ []
none_found [] e = refl
none_found (g ∷ gs) e = let h = first_of_list gs g in let no : Some h.0 ≡ None = sym h.1 ∙ e in cc

first_found : (gs : List CodeFault) (f : CodeFault) → earliest None gs ≡ Some f → Contains gs f × ((g : CodeFault) → Contains gs g → Before f g)
first_found [] f e = cc
first_found (g ∷ gs) f e =
    let h = first_of_list gs g in
    let both : Some h.0 ≡ Some f = sym h.1 ∙ e in
    let same : h.0 ≡ f = cc in
    subst (λ x. Contains (g ∷ gs) x × ((y : CodeFault) → Contains (g ∷ gs) y → Before x y)) same (⊎_elim (λ s. (0, omega arith, sym s)) (λ k. tail_has g gs h.0 k) h.2.one, in_list h.0 h.2)
  where
    in_list : (r : CodeFault) → First g gs r → (x : CodeFault) → Contains (g ∷ gs) x → Before r x
    in_list r f x (zero, lt, is) = subst (Before r) is f.here
    in_list r f x (suc k, lt, is) = f.least x (k, omega arith, is)

pub is_first : (c : Code) (f : CodeFault) → earliest None (faults c) ≡ Some f → IsFirst c f
is_first c f e = let h = first_found (faults c) f e in record { broken = h.0; least = h.1 }
