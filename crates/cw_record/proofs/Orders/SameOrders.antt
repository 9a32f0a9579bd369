-- Names are compared by their parts.
use Rattle.std.proofs.Common.{◌≡◌, Bool, true, false, ap, arith, List, refl, ◌∙◌, subst}
use Rattle.std.specs.Prelude.{◌==◌, ◌&&◌}
use Rattle.std.specs.Bool.{Decides}
use Rattle.std.specs.Cmp.Lexicographic.{pointwise, pointwise_decides}
use Rattle.std.proofs.lemmas.Bool.{and_parts, eqb-true}
use Rattle.cw_tree.specs.declared.picks.Name.{Name}
use mathlib.Core.Bool.{beq}

same_bool : (a b : Bool) → beq a b ≡ true → a ≡ b
same_bool true true e = refl
same_bool false false e = refl
same_bool true false e = absurd (cc e)
same_bool false true e = absurd (cc e)

itself : (x : Name) (b : Bool) → (x.parent == x.parent) && ((x.fork == x.fork) && beq b b) ≡ true
itself x true = grind arith
itself x false = grind arith

name_decides : (x y : Name) → Decides ((x.parent == y.parent) && ((x.fork == y.fork) && beq x.right y.right)) (x ≡ y)
name_decides x y = (same, λ e. subst (λ z. (x.parent == z.parent) && ((x.fork == z.fork) && beq x.right z.right) ≡ true) e (itself x x.right)) where
  same : ((x.parent == y.parent) && ((x.fork == y.fork) && beq x.right y.right)) ≡ true → x ≡ y
  same e =
      let (parent, rest) = and_parts (x.parent == y.parent) ((x.fork == y.fork) && beq x.right y.right) e in
      let (fork, right) = and_parts (x.fork == y.fork) (beq x.right y.right) rest in
      ap (λ p. record { parent = p; fork = x.fork; right = x.right }) (eqb-true x.parent y.parent parent)
      ∙ (ap (λ f. record { parent = y.parent; fork = f; right = x.right }) (eqb-true x.fork y.fork fork)
      ∙ ap (λ b. record { parent = y.parent; fork = y.fork; right = b }) (same_bool x.right y.right right))

pub names_decide : (xs ys : List Name) → Decides (pointwise (λ (x y : Name). (x.parent == y.parent) && ((x.fork == y.fork) && beq x.right y.right)) xs ys) (xs ≡ ys)
names_decide = pointwise_decides name_decides
