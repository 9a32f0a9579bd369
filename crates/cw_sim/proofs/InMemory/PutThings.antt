-- What is where a thing of a node was put, and elsewhere.
use Rattle.std.proofs.Common.{◌≡◌, ◌≢◌, ℕ, List, refl, ap, sym, ◌∙◌, subst, cond, Option, Some}
use Rattle.std.proofs.lemmas.Bool.{eq-eqb, ne_eqb}
use Rattle.std.specs.Prelude.{IsSome}
use Rattle.cw_sim.specs.ThingsInMemory.{thing_at, Puts}

module _ {T : Type 0} where
  -- what was put is there
  pub put_here : (old new : List (Option T)) (n : ℕ) (thing : Option T) → Puts old n thing new → thing_at new n ≡ thing
  put_here old new n thing put = put n ∙ ap (λ b. cond b thing (thing_at old n)) (eq-eqb n n refl)

  -- and elsewhere what was
  pub put_other : (old new : List (Option T)) (n : ℕ) (thing : Option T) → Puts old n thing new → (m : ℕ) → m ≢ n → thing_at new m ≡ thing_at old m
  put_other old new n thing put m ne = put m ∙ ap (λ b. cond b thing (thing_at old m)) (ne_eqb m n ne)

  -- a thing that is there is some
  pub some_here : (o : Option T) (x : T) → o ≡ Some x → IsSome o
  some_here o x e = let P : Option T → Type 0 = λ o. IsSome o in subst P (sym e) refl

  -- and is one only
  pub same_thing : (o : Option T) (x y : T) → o ≡ Some x → o ≡ Some y → x ≡ y
  same_thing o x y e q = cc
