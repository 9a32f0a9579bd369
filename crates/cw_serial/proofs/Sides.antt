-- The sides of a fork, by the step that leads to one.
use Rattle.std.proofs.Common.{◌≡◌, ℕ, refl, ap, ◌∙◌, Bool, true, false, cond, eqb}
use Rattle.std.proofs.lemmas.Bool.{eqb-true, eq-eqb}
use Rattle.cw_tree.specs.declared.picks.Turn.{Turn}
use Rattle.cw_serial.specs.StrandTree.{side_by}
use Rattle.cw_serial.specs.Spots.{turn_to}

pub turn_is : (x : Turn) (k : ℕ) (b : Bool) → x.fork ≡ k → x.right ≡ b → x ≡ turn_to k b
turn_is x k b e f = ap (λ j. turn_to j x.right) e ∙ ap (turn_to k) f

module _ {X : Type 0} where
  abbrev pub side : (f b : Bool) → (left right nothing : X) → X
  side f b l r none = cond f (cond b r l) none

  side_same_by : (f b : Bool) (l m r q none : X) → (f ≡ true → b ≡ false → l ≡ m) → (f ≡ true → b ≡ true → r ≡ q) → side f b l r none ≡ side f b m q none
  side_same_by true true l m r q none hl hr = hr refl refl
  side_same_by true false l m r q none hl hr = hl refl refl
  side_same_by false b l m r q none hl hr = refl

  -- where each side is the same, so is what the step leads to
  pub side_same : (x : Turn) (k : ℕ) (l m r q none : X) → (x ≡ turn_to k false → l ≡ m) → (x ≡ turn_to k true → r ≡ q) → side_by x k l r none ≡ side_by x k m q none
  side_same x k l m r q none hl hr =
      side_same_by (eqb x.fork k) x.right l m r q none (λ e f. hl (turn_is x k false (eqb-true x.fork k e) f)) (λ e f. hr (turn_is x k true (eqb-true x.fork k e) f))

  pub side_left : (k : ℕ) (l r none : X) → side_by (turn_to k false) k l r none ≡ l
  side_left k l r none = ap (λ f. side f false l r none) (eq-eqb k k refl)

  pub side_right : (k : ℕ) (l r none : X) → side_by (turn_to k true) k l r none ≡ r
  side_right k l r none = ap (λ f. side f true l r none) (eq-eqb k k refl)

-- a step leads to the left strand, to the right one, or nowhere
pub data Way (x : Turn) (k : ℕ) : Type 0 where
  to_left : x ≡ turn_to k false → Way x k
  to_right : x ≡ turn_to k true → Way x k
  nowhere : eqb x.fork k ≡ false → Way x k

pub way : (x : Turn) (k : ℕ) → Way x k
way x k = by (eqb x.fork k) x.right refl refl where
  by : (f b : Bool) → eqb x.fork k ≡ f → x.right ≡ b → Way x k
  by true true e h = to_right (turn_is x k true (eqb-true x.fork k e) h)
  by true false e h = to_left (turn_is x k false (eqb-true x.fork k e) h)
  by false b e h = nowhere e

pub side_none : {X : Type 0} (x : Turn) (k : ℕ) (l r none : X) → eqb x.fork k ≡ false → side_by x k l r none ≡ none
side_none x k l r none e = ap (λ f. side f x.right l r none) e
