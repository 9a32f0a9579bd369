-- A tree has one list of cells with races, each with one second access.
use Rattle.std.proofs.Common.{zero, suc, true, false, ◌≡◌, ℕ, ◌<◌, ◌≤◌, List, [], ◌∷◌, map, refl, sym, arith, inl, inr, subst}
use Rattle.std.specs.Prelude.{◌⊎◌, ◌&&◌, ◌||◌, Contains}
use Rattle.std.proofs.lemmas.Bool.{and_parts, cases_lt, lt-ltb}
use Rattle.cw_tree.specs.declared.node.Node.{Node}
use Rattle.cw_tree.specs.Nodes.{touches}
use Rattle.cw_tree.specs.Walks.{xparent}
use Rattle.cw_tree.specs.Shape.{IsTree}
use Rattle.cw_tree.specs.Series.{parallel, children}
use Rattle.cw_tree.specs.Accesses.{is_live}
use Rattle.cw_tree.proofs.Lists.{In}
use Rattle.cw_tree.proofs.Members.{all_at, in_map}
use Rattle.cw_tree.proofs.Maps.{rises_sorted}
use Rattle.cw_tree.proofs.Rising.{rises_same}
use Rattle.cw_tree.proofs.InOrder.DepthFirst.{by_number}
use Rattle.cw_order.specs.Order.{position}
use Rattle.cw_record.specs.Items.{same_block}
use Rattle.cw_sp.specs.Orders.{english, stands_before}
use Rattle.cw_sp.proofs.Orders.{leaf_there}
use Rattle.cw_sp.proofs.BothLines.{all_visited}
use Rattle.cw_race.specs.declared.race.Race.{Race}
use Rattle.cw_race.specs.Races.{is_access, writes, are_racing, IsFirstRace, AreRaces, RacesAgree, later_of}
use Rattle.cw_race.proofs.Racing.{access_leaf, one_place}

in_of : (v : ℕ) (xs : List ℕ) → Contains xs v → In v xs
in_of v [] h = absurd (let l = h.1 in omega arith)
in_of v (x ∷ xs) (zero, l, e) = inl (sym e)
in_of v (x ∷ xs) (suc i, l, e) = inr (in_of v xs (i, omega (arith, l), e))

module _ (t : List Node) (w : IsTree t) where
  -- the second of two accesses that race is in the English order
  second_there : (c u v : ℕ) → are_racing t c u v ≡ true → In v (english t)
  second_there c u v e =
      let a = and_parts (is_access t c u && is_access t c v && stands_before (english t) u v && (writes t u || writes t v) && parallel t u v) (same_block (xparent t u) (xparent t v)) e in
      let b = and_parts (is_access t c u && is_access t c v && stands_before (english t) u v && (writes t u || writes t v)) (parallel t u v) a.0 in
      let d = and_parts (is_access t c u && is_access t c v && stands_before (english t) u v) (writes t u || writes t v) b.0 in
      let f = and_parts (is_access t c u && is_access t c v) (stands_before (english t) u v) d.0 in
      let g = and_parts (is_access t c u) (is_access t c v) f.0 in
      let touched = (and_parts (touches t c v) (is_live t v) g.1).0 in
      all_visited t w.rooted w.some (children t) (by_number t) v (leaf_there t v (access_leaf t c v touched))

  -- two numbers in the order are one if neither stands before the other
  one_second : (x y : ℕ) → In x (english t) → stands_before (english t) x y ≡ false → stands_before (english t) y x ≡ false → x ≡ y
  one_second x y i e f = by (cases_lt (position (english t) x) (position (english t) y)) (cases_lt (position (english t) y) (position (english t) x)) where
    by : (position (english t) x < position (english t) y) ⊎ (position (english t) y ≤ position (english t) x)
        → (position (english t) y < position (english t) x) ⊎ (position (english t) x ≤ position (english t) y) → x ≡ y
    by (inl l) other = absurd (cc (e, lt-ltb (position (english t) x) (position (english t) y) l))
    by (inr a) (inl l) = absurd (cc (f, lt-ltb (position (english t) y) (position (english t) x) l))
    by (inr a) (inr b) = one_place x y (english t) i (omega (arith, a, b))

  same_seconds : (rs ss : List Race) → map (λ (r : Race). r.cell) rs ≡ map (λ (r : Race). r.cell) ss → ((r : Race) → In r rs → IsFirstRace t r) → ((s : Race) → In s ss → IsFirstRace t s)
      → map later_of rs ≡ map later_of ss
  same_seconds [] [] e f g = refl
  same_seconds [] (s ∷ ss) e f g = absurd (cc e)
  same_seconds (r ∷ rs) [] e f g = absurd (cc e)
  same_seconds (r ∷ rs) (s ∷ ss) e f g =
      let cell : r.cell ≡ s.cell = cc e in
      let rest : map (λ (r : Race). r.cell) rs ≡ map (λ (r : Race). r.cell) ss = cc e in
      let a = f r (inl refl) in
      let b = g s (inl refl) in
      let P : ℕ → Type 0 = λ c. are_racing t c s.first s.second ≡ true in
      let Q : ℕ → Type 0 = λ c. are_racing t c r.first r.second ≡ true in
      let second : r.second ≡ s.second =
      one_second r.second s.second (second_there r.cell r.first r.second a.racing) (b.soonest r.first r.second (subst Q cell a.racing)) (a.soonest s.first s.second (subst P (sym cell) b.racing)) in
      cc (cell, second, same_seconds rs ss rest (λ x i. f x (inr i)) (λ x i. g x (inr i)))

  module _ (rs ss : List Race) (a : AreRaces t rs) (b : AreRaces t ss) where
    first_of : (qs : List Race) → AreRaces t qs → (r : Race) → In r qs → IsFirstRace t r
    first_of qs q = all_at (IsFirstRace t) qs q.first

    -- a cell of one list has a race, so the other list has it too
    cell_there : (ps qs : List Race) → AreRaces t ps → AreRaces t qs → (c : ℕ) → In c (map (λ (r : Race). r.cell) ps) → In c (map (λ (r : Race). r.cell) qs)
    cell_there ps qs p q c i =
        let (r, there, same) = in_map (λ (r : Race). r.cell) c ps i in
        let P : ℕ → Type 0 = λ d. In d (map (λ (r : Race). r.cell) qs) in
        subst P (sym same) (in_of r.cell (map (λ (r : Race). r.cell) qs) (q.all r.cell r.first r.second (first_of ps p r there).racing))

    agree : map later_of rs ≡ map later_of ss
    agree =
        same_seconds rs ss
        (rises_same (map (λ (r : Race). r.cell) rs) (map (λ (r : Race). r.cell) ss) (rises_sorted (map (λ (r : Race). r.cell) rs) a.rising) (rises_sorted (map (λ (r : Race). r.cell) ss) b.rising)
        (cell_there rs ss a b) (cell_there ss rs b a))
        (first_of rs a) (first_of ss b)

pub races_agree : RacesAgree
races_agree t w rs ss a b = agree t w rs ss a b
