-- The races that a search has found, as a list.
use Rattle.std.proofs.Common.{◌≡◌, ℕ, List, map, refl, sym, ◌∙◌, Option, Some, None, Result, Ok, Err, subst}
use Rattle.std.specs.Prelude.{Contains, IfOk, OnOk}
use Rattle.std.specs.List.Sorted.{IsStrictlySortedBy}
use Rattle.std.specs.BTreeMap.{BTreeMap, get, keys, values, IsOrdered}
use Rattle.std.specs.Ordering.{nat_cmp}
use Rattle.std.specs.Cmp.{nat_cmp_total}
use Rattle.std.proofs.lemmas.Simd.{map-map}
use Rattle.std.proofs.lemmas.Map.Views.{All-found}
use Rattle.cw_tree.specs.declared.node.Node.{Node}
use Rattle.cw_tree.proofs.Lists.{In}
use Rattle.cw_tree.proofs.Members.{all_at, all_of, in_map, map_same}
use Rattle.cw_tree.proofs.Maps.{in_keys}
use Rattle.cw_sp.proofs.Lines.{contains}
use Rattle.cw_race.specs.declared.race.Race.{Race}
use Rattle.cw_race.specs.Races.{IsFirstRace, AreRaces}
use Rattle.cw_race.specs.InMemory.{AreFound}

module _ (t : List Node) (m : BTreeMap ℕ Race) (ordered : IsOrdered nat_cmp m) (w : AreFound t (get nat_cmp m)) where
  entry_found : (e : ℕ × Race) → In e m.entries → get nat_cmp m e.0 ≡ Some e.1
  entry_found = all_at (λ (e : ℕ × Race). get nat_cmp m e.0 ≡ Some e.1) m.entries (All-found nat_cmp_total m ordered)

  cells : map (λ (r : Race). r.cell) (values m) ≡ keys m
  cells =
      map-map (λ (r : Race). r.cell) (λ (e : ℕ × Race). e.1) m.entries
      ∙ map_same (λ (e : ℕ × Race). e.1.cell) (λ e. e.0) m.entries (λ e i. w.cell e.0 e.1 (entry_found e i))

  found_race : (o : Option Race) (c : ℕ) → get nat_cmp m c ≡ o → (get nat_cmp m c ≡ None → ⊥) → In c (keys m)
  found_race None c e some = absurd (some e)
  found_race (Some r) c e some = in_keys c r m.entries e

  pub found_are_races : (rs : List Race) → rs ≡ values m → AreRaces t rs
  found_are_races rs e =
      let P : List Race → Type 0 = AreRaces t in
      let Sorted : List ℕ → Type 0 = IsStrictlySortedBy nat_cmp in
      subst P (sym e) (record {
        rising = subst Sorted (sym cells) ordered;
        first = all_of (IsFirstRace t) (values m) (λ r i.
            let (e, there, same) = in_map (λ (e : ℕ × Race). e.1) r m.entries i in
            subst (IsFirstRace t) (sym same) (w.first e.0 e.1 (entry_found e there)));
        all = λ c u v race.
            let Q : List ℕ → Type 0 = λ cs. Contains cs c in
            subst Q (sym cells) (contains (keys m) c (found_race (get nat_cmp m c) c refl (w.all c u v race)));
      })

pub listed_races : {V E : Type 0} (t : List Node) (m : BTreeMap ℕ Race) → AreFound t (get nat_cmp m) → (r : Result V E) (items : V → List Race) → OnOk r (IsOrdered nat_cmp m) → IfOk r (λ v. items v ≡ values m)
    → IfOk r (λ v. AreRaces t (items v))
listed_races t m w (Ok v) items ordered e = found_are_races t m ordered w (items v) e
listed_races t m w (Err x) items ordered e = tt
