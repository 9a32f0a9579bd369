-- Serves `StopWord`: the stop word and who has learnt of it, after a step of one seat.
use Rattle.std.proofs.Common.{◌≡◌, ℕ, ◌<◌, List, arith, ap, inl, inr, sym, ◌∙◌, set, subst, true}
use Rattle.std.specs.Prelude.{◌⊎◌, slice_index, IsTrue, is_some}
use Rattle.std.proofs.lemmas.Bool.Decides.{eqb_tells}
use mathlib.Core.Option.{some, some-injective}
use lib.ListN.{get_elem?}
use Rattle.atomic_table.proofs.Lists.{at_set, set_else}
use Rattle.cw_steps.specs.declared.view.View.{View}
use Rattle.cw_steps.specs.Places.{stop_word}
use Rattle.cw_steps.specs.Rule.{StopWord, HasHalted}
use Rattle.cw_steps.proofs.Counts.{set_there}

-- a halt stays
pub halted_set : (views : List View) (id : ℕ) (v w : View) → get_elem? views id ≡ some v → (IsTrue (is_some v.halt) → IsTrue (is_some w.halt)) → HasHalted views → HasHalted (set views id w)
halted_set views id v w at kept h = elim (eqb_tells h.seat id) [
  | inl z ↦ (let same : h.knows ≡ v = some-injective h.knows v (sym h.there ∙ ap (get_elem? views) z.1 ∙ at) in
      record { seat = id; knows = w; there = set_there views id v w at; halted = kept (subst (λ (u : View). IsTrue (is_some u.halt)) same h.halted) })
  | inr z ↦ record { seat = h.seat; knows = h.knows; there = set_else views id h.seat w z.1 ∙ h.there; halted = h.halted }
]

-- the stop word is set after the step only if it was before, or if this seat has halted; and the seat has learnt only what is so
pub stops_set : (cells : ℕ) (words words' : List ℕ) (views : List View) (id : ℕ) (v w : View)
    → get_elem? views id ≡ some v → StopWord cells words views
    → (IsTrue (is_some v.halt) → IsTrue (is_some w.halt))
    → (0 < slice_index words' (stop_word cells) → (0 < slice_index words (stop_word cells)) ⊎ IsTrue (is_some w.halt))
    → (w.told ≡ true → (v.told ≡ true) ⊎ (0 < slice_index words (stop_word cells)))
    → StopWord cells words' (set views id w)
stops_set cells words words' views id v w at h kept word told = record {
  word = λ p. elim (word p) [
    | inl z ↦ halted_set views id v w at kept (h.word z)
    | inr z ↦ record { seat = id; knows = w; there = set_there views id v w at; halted = z }
  ];
  told = λ k u atk t. halted_set views id v w at kept (elim (at_set views id k w u atk) [
    | inl z ↦ (elim (told (ap (λ (y : View). y.told) z.1 ∙ t)) [
      | inl y ↦ h.told id v at y
      | inr y ↦ h.word y
    ])
    | inr z ↦ h.told k u z.1 t
  ]);
}

-- neither word nor seat has anything to do with it
pub stops_stay : (cells : ℕ) (words words' : List ℕ) (views : List View) (id : ℕ) (v w : View)
    → get_elem? views id ≡ some v → StopWord cells words views
    → slice_index words' (stop_word cells) ≡ slice_index words (stop_word cells) → w.halt ≡ v.halt → w.told ≡ v.told
    → StopWord cells words' (set views id w)
stops_stay cells words words' views id v w at h same halt told =
    stops_set cells words words' views id v w at h (subst (λ o. IsTrue (is_some o)) (sym halt)) (λ p. inl (omega (arith, same, p))) (λ t. inl (sym told ∙ t))

-- views change and no word does
pub stops_views : (cells : ℕ) (words : List ℕ) (views views' : List View) → StopWord cells words views
    → (HasHalted views → HasHalted views')
    → ((k : ℕ) (v : View) → get_elem? views' k ≡ some v → v.told ≡ true → HasHalted views)
    → StopWord cells words views'
stops_views cells words views views' h kept told = record { word = λ p. kept (h.word p); told = λ k v at t. kept (told k v at t) }
