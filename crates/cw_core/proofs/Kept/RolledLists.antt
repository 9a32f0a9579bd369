-- The lists of a core after a roll are those of its cells.
use Rattle.std.proofs.Common.{◌≡◌, ℕ, suc, ◌<◌, ◌≤◌, List, [], ◌∷◌, length, map, refl, ap, sym, ◌∙◌, arith, Bool, true, false, cond, Some, inl, inr}
use Rattle.std.specs.Prelude.{◌⊎◌, not, ℤ, filter, slice_get, slice_set}
use Rattle.std.proofs.lemmas.Bool.{cases_eq}
use Rattle.std.proofs.lemmas.List.{length-set, length-map}
use Rattle.std.proofs.lemmas.Option.{slice_get_cases, slice_get_past}
use Rattle.cw_tree.specs.declared.node.Node.{Node}
use Rattle.cw_tree.specs.declared.access.Entry.{Entry}
use Rattle.cw_tree.specs.Walks.{is_above}
use Rattle.cw_tree.specs.Series.{place}
use Rattle.cw_tree.specs.AccessStacks.{stamps, access_at}
use Rattle.cw_tree.proofs.Lists.{In}
use Rattle.cw_tree.proofs.Members.{in_filter, filter_all}
use Rattle.cw_stack.specs.Cells.{CellParts}
use Rattle.cw_open.specs.Machine.{rolls_back}
use Rattle.cw_open.proofs.Laws.Listing.{listed}
use Rattle.cw_open.proofs.Laws.ListSteps.{listed_here, listed_other}
use Rattle.cw_core.specs.State.{CoreState, waits_for_left}
use Rattle.cw_core.specs.Laws.{IsCore}
use Rattle.cw_core.specs.Undone.{AreUndone}
use Rattle.cw_core.proofs.Events.Rolling.{filtered, filtered_length, none_beneath, low, cs, ls}
use Rattle.cw_core.proofs.Kept.Rolled.{lists_of, listed_cell}

-- a list is filtered, or as it was
filtered_at : (f : ℕ → Bool) (xs : List (List ℕ)) (ds : List ℕ) → ((c : ℕ) → In c ds → c < length xs) → (d : ℕ) → (listed (filtered f xs ds) d ≡ listed xs d) ⊎ (listed (filtered f xs ds) d ≡ filter f (listed xs d))
filtered_at f xs [] low d = inl refl
filtered_at f xs (c ∷ ds) low d =
    let next = slice_set xs c (filter f (listed xs c)) in
    let len = length-set xs c (filter f (listed xs c)) in
    let more = filtered_at f next ds (λ c j. let h = low c (inr j) in omega arith) d in
    elim (cases_eq d c) [
      | inl q ↦
          (let here : listed next d ≡ filter f (listed xs d) = ap (listed next) q ∙ listed_here xs c (filter f (listed xs c)) (low c (inl refl)) ∙ ap (λ c. filter f (listed xs c)) (sym q) in
          inr (elim more [
            | inl e ↦ e ∙ here
            | inr e ↦ e ∙ ap (filter f) here ∙ filter_all f (filter f (listed xs d)) (λ v i. (in_filter f v (listed xs d) i).1)
          ]))
      | inr ne ↦
          (let other : listed next d ≡ listed xs d = listed_other xs c d (filter f (listed xs c)) ne in
          elim more [ inl e ↦ inl (e ∙ other) | inr e ↦ inr (e ∙ ap (filter f) other) ])
    ]

lists_same : (xs ys : List (List ℕ)) → length xs ≡ length ys → ((d : ℕ) → listed xs d ≡ listed ys d) → xs ≡ ys
lists_same [] [] len h = refl
lists_same [] (y ∷ ys) len h = absurd (omega arith)
lists_same (x ∷ xs) [] len h = absurd (omega arith)
lists_same (x ∷ xs) (y ∷ ys) len h = ap (λ z. z ∷ xs) (h 0) ∙ ap (λ zs. y ∷ zs) (lists_same xs ys (omega arith) (λ d. h (suc d)))

stamps_cond : (x : Bool) (e : Entry) (es : List Entry) → stamps (cond x (e ∷ es) es) ≡ cond x (e.mark.stamp ∷ stamps es) (stamps es)
stamps_cond true e es = refl
stamps_cond false e es = refl

stamps_filter : (f : ℕ → Bool) (es : List Entry) → stamps (filter (λ e. f e.mark.stamp) es) ≡ filter f (stamps es)
stamps_filter f [] = refl
stamps_filter f (e ∷ es) = stamps_cond (f e.mark.stamp) e (filter (λ e. f e.mark.stamp) es) ∙ ap (λ ns. cond (f e.mark.stamp) (e.mark.stamp ∷ ns) ns) (stamps_filter f es)

listed_past : (xs : List (List ℕ)) (d : ℕ) → length xs ≤ d → listed xs d ≡ []
listed_past xs d le = ap (λ o. Rattle.std.specs.Prelude.unwrap_or o []) (slice_get_past xs d le)

firsts_same : (new old : List CellParts) → length new ≡ length old → ((c : ℕ) (y : CellParts) → slice_get new c ≡ Some y → (x : CellParts) × (slice_get old c ≡ Some x) × (y.first ≡ x.first)) → map (λ c. c.first) new ≡ map (λ c. c.first) old
firsts_same [] [] len h = refl
firsts_same [] (x ∷ xs) len h = absurd (omega arith)
firsts_same (y ∷ ys) [] len h = absurd (omega arith)
firsts_same (y ∷ ys) (x ∷ xs) len h =
    let z = h 0 y refl in
    let q : x ≡ z.0 = (let e = z.1 in cc e) in
    ap (λ i. i ∷ map (λ c. c.first) ys) (z.2 ∙ ap (λ c. c.first) (sym q)) ∙ ap (λ is. x.first ∷ is) (firsts_same ys xs (omega arith) (λ c y e. h (suc c) y e))

module _ (first : List ℤ) (k : CoreState) (core : IsCore first k) (s : ℕ) (rolls : rolls_back k.machine s ≡ true) (ready : waits_for_left k s ≡ false) where
  abbrev t : List Node
  t = k.machine.tree

  abbrev b : ℕ
  b = place t s

  rolled_at : (d : ℕ) → listed (filtered (λ u. not (is_above t b (access_at t u))) k.machine.lists (cs first k core s rolls ready)) d ≡ filter (λ u. not (is_above t b (access_at t u))) (listed k.machine.lists d)
  rolled_at d =
      elim (filtered_at (λ u. not (is_above t b (access_at t u))) k.machine.lists (cs first k core s rolls ready) (low first k core s rolls ready) d) [
        | inr e ↦ e
        | inl e ↦
            (let all = filter_all (λ u. not (is_above t b (access_at t u))) (listed (ls first k core s rolls ready) d) (λ v i. none_beneath first k core s rolls ready d v i) in
            sym all ∙ ap (filter (λ u. not (is_above t b (access_at t u)))) e)
      ]

  module _ (old new : List CellParts) (lists : lists_of old ≡ k.machine.lists) (undone : AreUndone t b old new) where
    pub rolled_lists : lists_of new ≡ ls first k core s rolls ready
    rolled_lists =
        lists_same (lists_of new) (ls first k core s rolls ready)
        (length-map new (λ c. stamps c.entries) ∙ undone.len ∙ sym (length-map old (λ c. stamps c.entries)) ∙ ap length lists ∙ sym (filtered_length (λ u. not (is_above t b (access_at t u))) k.machine.lists (cs first k core s rolls ready)))
        (λ d. at d ∙ sym (rolled_at d)) where
          at : (d : ℕ) → listed (lists_of new) d ≡ filter (λ u. not (is_above t b (access_at t u))) (listed k.machine.lists d)
          at d = elim (slice_get_cases new d).1 [
            | inl c ↦
                (let z = undone.each d c.0 c.2 in
                listed_cell new d c.0 c.2 ∙ ap stamps z.2.entries ∙ stamps_filter (λ u. not (is_above t b (access_at t u))) z.0.entries
                ∙ ap (filter (λ u. not (is_above t b (access_at t u)))) (sym (listed_cell old d z.0 z.1) ∙ ap (λ xs. listed xs d) lists))
            | inr c ↦
                (let len = undone.len in
                let size = length-map new (λ c. stamps c.entries) in
                let past = c.0 in
                let old_size = length-map old (λ c. stamps c.entries) ∙ sym len in
                let same = ap length lists in
                listed_past (lists_of new) d (omega arith) ∙ sym (ap (filter (λ u. not (is_above t b (access_at t u)))) (listed_past k.machine.lists d (omega arith))))
          ]

    pub rolled_firsts : map (λ c. c.first) new ≡ map (λ c. c.first) old
    rolled_firsts = firsts_same new old undone.len (λ c y e. let z = undone.each c y e in (z.0, z.1, z.2.first))
