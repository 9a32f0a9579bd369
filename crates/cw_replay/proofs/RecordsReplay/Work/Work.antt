-- What a strand has to do: acts in series, and forks with what their two strands have to do.
use Rattle.std.proofs.Common.{◌≡◌, ℕ, suc, List, [], ◌∷◌, ◌++◌, true, false, inl, inr}
use Rattle.std.specs.Prelude.{◌⊎◌, IsTrue}
use Rattle.cw_strand.specs.declared.want.Want.{Want}
use Rattle.cw_strand.specs.declared.want.Want.TheVariants as want
use Rattle.cw_strand.specs.declared.want.Given.{Given}
use Rattle.cw_strand.specs.Strands.{Strands, is_over}
use Rattle.cw_tree.specs.declared.picks.Turn.{Turn}
use Rattle.cw_serial.specs.Spots.{turn_to}

pub data Work (I : Type 0) : Type 0 where
  nil : Work I
  act : I → Work I → Work I
  -- the left strand's, the right strand's, and what follows the join
  split : Work I → Work I → Work I → Work I

module _ {I : Type 0} where
  abbrev pub Has : I → Work I → Type 0
  Has i nil = ⊥
  Has i (act j w) = (i ≡ j) ⊎ Has i w
  Has i (split l r w) = Has i l ⊎ (Has i r ⊎ Has i w)

  -- i is before j in series
  abbrev pub Before : I → I → Work I → Type 0
  Before i j nil = ⊥
  Before i j (act x w) = ((i ≡ x) × Has j w) ⊎ Before i j w
  Before i j (split l r w) = Before i j l ⊎ (Before i j r ⊎ (Before i j w ⊎ ((Has i l ⊎ Has i r) × Has j w)))

  -- each act stands once
  abbrev pub Once : Work I → Type 0
  Once nil = Unit {0}
  Once (act i w) = (Has i w → ⊥) × Once w
  Once (split l r w) = Once l × Once r × Once w × ((i : I) → Has i l → Has i r → ⊥) × ((i : I) → Has i l ⊎ Has i r → Has i w → ⊥)

  abbrev pub More : Work I → Type 0
  More nil = ⊥
  More (act i w) = Unit {0}
  More (split l r w) = Unit {0}

  pub has_more : (i : I) (w : Work I) → Has i w → More w
  has_more i nil h = h
  has_more i (act j w) h = tt
  has_more i (split l r w) h = tt

  pub before_has : (i j : I) (w : Work I) → Before i j w → Has i w
  before_has i j nil h = h
  before_has i j (act x w) (inl z) = inl z.0
  before_has i j (act x w) (inr h) = inr (before_has i j w h)
  before_has i j (split l r w) (inl h) = inl (before_has i j l h)
  before_has i j (split l r w) (inr (inl h)) = inr (inl (before_has i j r h))
  before_has i j (split l r w) (inr (inr (inl h))) = inr (inr (before_has i j w h))
  before_has i j (split l r w) (inr (inr (inr (inl h, g)))) = inl h
  before_has i j (split l r w) (inr (inr (inr (inr h, g)))) = inr (inl h)

-- what acts are, to the strands that do them: what is wanted, what it is answered with, and the name of the strand
pub record Doing (I A : Type 0) : Type 0 where
  pub law : Strands A
  pub wanted : I → Want
  pub given : I → Given
  pub name : I → List Turn

module _ {I A : Type 0} (u : Doing I A) where
  -- the state after all of it
  abbrev pub fold : A → Work I → A
  fold a nil = a
  fold a (act i w) = fold (u.law.answer a (u.given i)) w
  fold a (split l r w) = fold (u.law.joined (fold (u.law.right a) r) (fold (u.law.left a) l)) w

  -- the strand comes to its end, and so do all strands of its forks
  abbrev pub Over : A → Work I → Type 0
  Over a nil = IsTrue (is_over (u.law.want a))
  Over a (act i w) = Over (u.law.answer a (u.given i)) w
  Over a (split l r w) = (u.law.want a ≡ want.Fork) × Over (u.law.left a) l × Over (u.law.right a) r × Over (u.law.joined (fold (u.law.right a) r) (fold (u.law.left a) l)) w

  -- a strand with the name q, which has made k forks, wants just this
  abbrev pub Fits : List Turn → ℕ → A → Work I → Type 0
  Fits q k a nil = Unit {0}
  Fits q k a (act i w) = (u.law.want a ≡ u.wanted i) × (u.name i ≡ q) × Fits q k (u.law.answer a (u.given i)) w
  Fits q k a (split l r w) =
      (u.law.want a ≡ want.Fork) × Fits (q ++ turn_to (suc k) false ∷ []) 0 (u.law.left a) l × Fits (q ++ turn_to (suc k) true ∷ []) 0 (u.law.right a) r
      × Fits q (suc k) (u.law.joined (fold (u.law.right a) r) (fold (u.law.left a) l)) w × (More w → Over (u.law.left a) l × Over (u.law.right a) r)

-- strands on their way, each with what it still has to do
pub data Way (I A : Type 0) : Type 0 where
  runs : ℕ → A → Work I → Way I A
  splits : ℕ → Way I A → Way I A → Work I → Way I A

module _ {I A : Type 0} where
  abbrev pub HasWay : I → Way I A → Type 0
  HasWay i (runs k a w) = Has i w
  HasWay i (splits k l r w) = HasWay i l ⊎ (HasWay i r ⊎ Has i w)

  abbrev pub BeforeWay : I → I → Way I A → Type 0
  BeforeWay i j (runs k a w) = Before i j w
  BeforeWay i j (splits k l r w) = BeforeWay i j l ⊎ (BeforeWay i j r ⊎ (Before i j w ⊎ ((HasWay i l ⊎ HasWay i r) × Has j w)))

  abbrev pub OnceWay : Way I A → Type 0
  OnceWay (runs k a w) = Once w
  OnceWay (splits k l r w) = OnceWay l × OnceWay r × Once w × ((i : I) → HasWay i l → HasWay i r → ⊥) × ((i : I) → HasWay i l ⊎ HasWay i r → Has i w → ⊥)

  pub before_has_way : (i j : I) (c : Way I A) → BeforeWay i j c → HasWay i c
  before_has_way i j (runs k a w) h = before_has i j w h
  before_has_way i j (splits k l r w) (inl h) = inl (before_has_way i j l h)
  before_has_way i j (splits k l r w) (inr (inl h)) = inr (inl (before_has_way i j r h))
  before_has_way i j (splits k l r w) (inr (inr (inl h))) = inr (inr (before_has i j w h))
  before_has_way i j (splits k l r w) (inr (inr (inr (inl h, g)))) = inl h
  before_has_way i j (splits k l r w) (inr (inr (inr (inr h, g)))) = inr (inl h)
