-- What each end knows, as one more deed is done.
use Rattle.std.proofs.Common.{◌≡◌, ◌≢◌, ℕ, zero, suc, ◌<◌, ◌==◌, ◌⊎◌, Bool, true, false, List, [], ◌∷◌, ◌++◌, length, map, filter, sym, refl, ap, ◌∙◌, inl, inr, ⊎_elim, arith, if◌then◌else◌}
use mathlib.Core.Option.{some, some-ne-none, some-injective}
use lib.ListN.{get_elem?}
use Rattle.std.proofs.lemmas.List.{map-append, append-nil}
use Rattle.std.proofs.lemmas.List.Elements.{filter-append}
use Rattle.std.proofs.lemmas.Bool.Decides.{eqb_tells}
use Rattle.cw_deck.specs.declared.deed.Deed.{Deed}
use Rattle.cw_deck.specs.Deeds.{deeds_of}

pub in_range : {X : Type 0} (l : List X) (a : X) (j : ℕ) → get_elem? l j ≡ some a → j < length l
in_range [] a j e = absurd (some-ne-none a (sym e))
in_range (x ∷ xs) a zero e = omega arith
in_range (x ∷ xs) a (suc j) e = let r = in_range xs a j e in omega arith

module _ {T : Type 0} where
  abbrev only_if : Bool → Deed T → List (Deed T)
  only_if true d = d ∷ []
  only_if false d = []

  one : (b : Bool) (p : ℕ) (d : Deed T) → map (λ (e : ℕ × Deed T). e.1) (if b then ((p, d) ∷ []) else []) ≡ only_if b d
  one true p d = refl
  one false p d = refl

  with_one : (end p : ℕ) (d : Deed T) (h : List (ℕ × Deed T)) → deeds_of end (h ++ (p, d) ∷ []) ≡ deeds_of end h ++ only_if (p == end) d
  with_one end p d h =
      ap (map (λ e. e.1)) (filter-append (λ (e : ℕ × Deed T). e.0 == end) h ((p, d) ∷ []))
      ∙ map-append (λ (e : ℕ × Deed T). e.1) (filter (λ e. e.0 == end) h) (filter (λ e. e.0 == end) ((p, d) ∷ []))
      ∙ ap (λ ds. deeds_of end h ++ ds) (one (p == end) p d)

  pub mine : (end : ℕ) (d : Deed T) (h : List (ℕ × Deed T)) → deeds_of end (h ++ (end, d) ∷ []) ≡ deeds_of end h ++ d ∷ []
  mine end d h = with_one end end d h ∙ ⊎_elim (λ (t : ((end == end) ≡ true) × (end ≡ end)). ap (λ b. deeds_of end h ++ only_if b d) t.0) (λ (t : ((end == end) ≡ false) × (end ≢ end)). absurd (t.1 refl)) (eqb_tells end end)

  pub another's : (end p : ℕ) (d : Deed T) (h : List (ℕ × Deed T)) → p ≢ end → deeds_of end (h ++ (p, d) ∷ []) ≡ deeds_of end h
  another's end p d h n = with_one end p d h ∙ ⊎_elim (λ (t : ((p == end) ≡ true) × (p ≡ end)). absurd (n t.1)) (λ (t : ((p == end) ≡ false) × (p ≢ end)). ap (λ b. deeds_of end h ++ only_if b d) t.0 ∙ append-nil (deeds_of end h)) (eqb_tells p end)
