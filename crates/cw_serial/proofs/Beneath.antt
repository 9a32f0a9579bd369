-- Strands beneath a strand, as the way up from one meets them.
use Rattle.std.proofs.Common.{◌≡◌, ℕ, zero, suc, ◌<◌, ◌≤◌, refl, ap, sym, ◌∙◌, arith, Bool, true, false, eqb, ◌⊎◌, inl, inr, Some, None, List, [], ◌∷◌, ◌++◌, append_assoc, append-nil}
use Rattle.std.specs.List.{slice_get}
use Rattle.std.proofs.lemmas.Bool.{and_parts, eq-eqb, ne_eqb, cases_eq}
use Rattle.cw_tree.specs.declared.picks.Name.{Name}
use Rattle.cw_tree.specs.declared.picks.Turn.{Turn}
use Rattle.cw_serial.specs.declared.table.Row.{Row}
use Rattle.cw_serial.specs.Machine.{same_turn, is_beneath, steps_down}
use Rattle.cw_serial.specs.TableInMemory.{StrandsAreNumbered}
use Rattle.cw_serial.proofs.Turns.{turn_true, beneath_more}
use Rattle.cw_serial.proofs.Numbers.{get_some, snoc_same, snoc_cases, turn_of, turns_last, turns_down}
use Rattle.cw_serial.proofs.Numbered.{turns_unique, turns_within, parent_low}

beneath_leads : (q z : List Turn) → is_beneath q z ≡ true → (r : List Turn) × (z ≡ q ++ r)
beneath_leads [] z e = (z, refl)
beneath_leads (x ∷ q) [] e = absurd cc
beneath_leads (x ∷ q) (y ∷ z) e =
    let (turn, rest) = and_parts (same_turn x y) (is_beneath q z) e in
    let (r, same) = beneath_leads q z rest in
    (r, ap (λ v. v ∷ z) (sym (turn_true x y turn)) ∙ ap (λ v. x ∷ v) same)

-- one step up, from another strand
beneath_up : (q y : List Turn) (x : Turn) → (q ≡ y ++ x ∷ [] → ⊥) → is_beneath q (y ++ x ∷ []) ≡ is_beneath q y
beneath_up q y x ne = by (is_beneath q (y ++ x ∷ [])) (is_beneath q y) refl refl where
  ends : (r : List Turn) → y ++ x ∷ [] ≡ q ++ r → (r ≡ []) ⊎ ((s : List Turn) × (z : Turn) × (r ≡ s ++ z ∷ [])) → is_beneath q y ≡ true
  ends r e (inl none) = absurd (ne (sym (e ∙ (ap (λ v. q ++ v) none ∙ append-nil q))))
  ends r e (inr (s, z, some)) =
      let (same, last) = snoc_same y (q ++ s) x z (e ∙ (ap (λ v. q ++ v) some ∙ sym (append_assoc q s (z ∷ [])))) in
      ap (is_beneath q) same ∙ beneath_more q s

  by : (b c : Bool) → is_beneath q (y ++ x ∷ []) ≡ b → is_beneath q y ≡ c → is_beneath q (y ++ x ∷ []) ≡ is_beneath q y
  by true true e f = e ∙ sym f
  by false false e f = e ∙ sym f
  by true false e f =
      let (r, same) = beneath_leads q (y ++ x ∷ []) e in
      e ∙ sym (ends r same (snoc_cases r))
  by false true e f =
      let (r, same) = beneath_leads q y f in
      ap (is_beneath q) (ap (λ v. v ++ x ∷ []) same ∙ append_assoc q r (x ∷ [])) ∙ (beneath_more q (r ++ x ∷ []) ∙ sym f)

module _ {S : Type 0} (names : List Name) (rows : List (Row S)) where
  -- on the way up from a strand, which is beneath the other one as the one here is
  pub record Climbs (above number here : ℕ) : Type 0 where
    pub same : StrandsAreNumbered names rows → (q z : List Turn) → steps_down names above ≡ Some q → steps_down names number ≡ Some z → (y : List Turn) × (steps_down names here ≡ Some y) × (is_beneath q z ≡ is_beneath q y)

  pub climb_up : (above number here : ℕ) (n : Name) → above < here → slice_get names here ≡ Some n → Climbs above number here → Climbs above number n.parent
  climb_up above number zero n low there c = absurd (omega arith)
  climb_up above number (suc k) n low there c = record {
    same = λ ok q z up uz.
        let (y, uy, same) = c.same ok q z up uz in
        let l = turns_last names k y uy in
        let ln : l.name ≡ n = (let e : Some l.name ≡ Some n = sym l.here ∙ there in cc) in
        let ne : q ≡ l.above ++ turn_of l.name ∷ [] → ⊥ = λ e. absurd (let equal : above ≡ suc k = turns_unique names rows ok above (suc k) q up (uy ∙ ap (λ v. Some v) (l.same ∙ sym e)) in omega arith) in
        (l.above, ap (λ (v : Name). steps_down names v.parent) (sym ln) ∙ l.up, same ∙ (ap (is_beneath q) l.same ∙ beneath_up q l.above (turn_of l.name) ne));
  }

  module _ (ok : StrandsAreNumbered names rows) (above number here : ℕ) (q z : List Turn) (up : steps_down names above ≡ Some q) (uz : steps_down names number ≡ Some z) (c : Climbs above number here) where
    reached : (y : List Turn) → steps_down names here ≡ Some y → is_beneath q y ≡ true → above ≤ here
    reached y uy e = by (beneath_leads q y e) where
      by : (r : List Turn) × (y ≡ q ++ r) → above ≤ here
      by ([], same) = omega (arith, turns_unique names rows ok above here q up (uy ∙ ap (λ v. Some v) (same ∙ append-nil q)))
      by (x ∷ r, same) =
          let d = turns_down names here q r x (uy ∙ ap (λ v. Some v) same) in
          let parent = turns_unique names rows ok d.name.parent above q d.up up in
          let low = d.low in
          let within = d.within in
          omega arith

    at_end : (y : List Turn) → steps_down names here ≡ Some y → here ≤ above → (here ≡ above) ⊎ (here ≡ above → ⊥) → eqb here above ≡ is_beneath q y
    at_end y uy low (inl e) =
        let same : y ≡ q = (let f : Some y ≡ Some q = sym uy ∙ (ap (steps_down names) e ∙ up) in cc) in
        eq-eqb here above e ∙ sym (ap (is_beneath q) (same ∙ sym (append-nil q)) ∙ beneath_more q [])
    at_end y uy low (inr ne) = ne_eqb here above ne ∙ by (is_beneath q y) refl where
      by : (b : Bool) → is_beneath q y ≡ b → false ≡ is_beneath q y
      by false e = sym e
      by true e = absurd (let most = reached y uy e in ne (omega arith))

    pub climb_end : here ≤ above → eqb here above ≡ is_beneath q z
    climb_end low =
        let (y, uy, same) = c.same ok q z up uz in
        at_end y uy low (cases_eq here above) ∙ sym same

    -- the way up ends only at the other strand
    pub climb_named : slice_get names here ≡ None → ⊥
    climb_named none =
        let (y, uy, same) = c.same ok q z up uz in
        let (n, there) = get_some names here (turns_within names rows ok here y uy) in
        let e : Some n ≡ None = sym there ∙ none in
        cc

    parent_below : (k : ℕ) (n : Name) → above < k → slice_get names k ≡ Some n → k ≤ n.parent → ⊥
    parent_below zero n low there high = absurd (omega arith)
    parent_below (suc k) n low there high = let less = parent_low names rows ok k n there in absurd (omega arith)

    pub climb_falls : (n : Name) → above < here → slice_get names here ≡ Some n → here ≤ n.parent → ⊥
    climb_falls n low there high = parent_below here n low there high
