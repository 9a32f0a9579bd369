-- A search, as it comes to one node after another.
use Rattle.std.proofs.Common.{◌≡◌, ◌≢◌, ℕ, suc, ◌+◌, ◌<◌, ◌≤◌, List, [], ◌∷◌, ◌++◌, length, refl, ap, sym, ◌∙◌, arith, Bool, true, false, cond, Option, Some, None, inl, inr, subst}
use Rattle.std.specs.Prelude.{◌⊎◌, ◌&&◌, not, is_some, unwrap_or}
use Rattle.std.specs.Map.{lookup}
use Rattle.std.specs.BTreeMap.{BTreeMap, get, Updates, is_at}
use Rattle.std.specs.Ordering.{is_eq, nat_cmp}
use Rattle.std.proofs.lemmas.Bool.{and_parts, and_from, and_left, eqb-true, eq-eqb, ne_eqb, cases_eq, false_from_ne_true, not_from_false}
use Rattle.cw_tree.specs.declared.node.Node.{Node}
use Rattle.cw_tree.specs.Nodes.{touches, is_aborted, below}
use Rattle.cw_tree.specs.Walks.{xparent, above}
use Rattle.cw_tree.specs.Shape.{IsTree}
use Rattle.cw_tree.specs.Accesses.{is_live}
use Rattle.cw_tree.proofs.Lists.{In, all_from, any_from, lt_or}
use Rattle.cw_tree.proofs.Rising.{Rises, below_rises, rises_filter}
use Rattle.cw_sp.specs.Orders.{english, stands_before, is_leaf}
use Rattle.cw_record.specs.Items.{same_block}
use Rattle.cw_record.specs.Records.{IsNumberedDepthFirst}
use Rattle.cw_record.proofs.Orders.Homes.{same_block_true}
use Rattle.cw_race.specs.declared.race.Race.{Race}
use Rattle.cw_race.specs.declared.kept.Kept.{Kept}
use Rattle.cw_race.specs.declared.search.Search.{Search}
use Rattle.cw_race.specs.Kept.{races, races_with, rival}
use Rattle.cw_race.specs.Races.{is_access, writes, are_racing, IsFirstRace, cell_of}
use Rattle.cw_race.specs.InMemory.{Group, group_cmp, nothing_kept, kept_at, AreLeaves, rival_of, kept_after, IsNoted, known, finds, keeps, AreFound}
use Rattle.cw_race.proofs.Readers.{Races, NoRace, race_told, rival_races, rival_found}
use Rattle.cw_race.proofs.Racing.{access_leaf, access_there, touches_is, no_touch, hebrew_place, group, is_first, racing, race_from, race_in_group, group_race}
use Rattle.cw_race.proofs.Groups.{same_number, same_groups, group_more, group_same, member, kept_of, kept_leaves, rival_is, kept_more}

-- no two of a rising list race if none does with a smaller one
none_in : (hebrew : ℕ → ℕ) (w : ℕ → Bool) (xs : List ℕ) → Rises xs → ((x y : ℕ) → In x xs → In y xs → x < y → Races hebrew w x y → ⊥) → NoRace hebrew w xs
none_in hebrew w [] r f = tt
none_in hebrew w (x ∷ xs) r f = ((λ y i h. f x y (inl refl) (inr i) (r.0 y i) h), none_in hebrew w xs r.1 (λ a b i j. f a b (inr i) (inr j)))

-- what is known once the first n nodes were looked at
pub record Searched (t : List Node) (n : ℕ) (s : Search) : Type 0 where
  -- where nothing was found nothing has raced, and all is kept
  pub free : (c : ℕ) → get nat_cmp s.found c ≡ None → (u v : ℕ) → v < n → are_racing t c u v ≡ true → ⊥
  pub kept : (c : ℕ) (b : Option ℕ) → get nat_cmp s.found c ≡ None → kept_at s.kept (c, b) ≡ kept_of t (group t c b n)
  pub cell : (c : ℕ) (r : Race) → get nat_cmp s.found c ≡ Some r → r.cell ≡ c
  pub first : (c : ℕ) (r : Race) → get nat_cmp s.found c ≡ Some r → IsFirstRace t r

none_found : (s : Search) (c : ℕ) → s.found.entries ≡ [] → get nat_cmp s.found c ≡ None
none_found s c e = ap (lookup (is_at (nat_cmp c))) e

pub search_starts : (t : List Node) (s : Search) → s.kept.entries ≡ [] → s.found.entries ≡ [] → Searched t 0 s
search_starts t s none empty = record {
  free = λ c e u v l race. omega arith;
  kept = λ c b e. ap (λ o. unwrap_or o nothing_kept) (ap (lookup (is_at (group_cmp (c, b)))) none);
  cell = λ c r h. absurd (cc (h, none_found s c empty));
  first = λ c r h. absurd (cc (h, none_found s c empty));
}

module _ (t : List Node) (tree : IsTree t) (numbered : IsNumberedDepthFirst t) (live : (n : ℕ) → is_aborted t n ≡ false) where
  live_node : (n : ℕ) → is_live t n ≡ true
  live_node n = all_from (λ a. not (is_aborted t a)) (above t n) (λ a i. not_from_false (is_aborted t a) (live a))

  pub search_ends : (n : ℕ) (s : Search) → length t ≤ n → Searched t n s → AreFound t (get nat_cmp s.found)
  search_ends n s long w = record {
    cell = w.cell;
    first = w.first;
    all = λ c u v race none.
        let r = racing t tree numbered c u v race in
        let low = access_there t c v (and_parts (touches t c v) (is_live t v) r.second).0 in
        w.free c none u v (omega arith) race;
  }

  module _ (n : ℕ) (there : n < length t) (s : Search) (w : Searched t n s) where
    -- ## A node that is no access

    module _ (other : cell_of t n ≡ None) where
      no_access : (c : ℕ) → is_access t c n ≡ false
      no_access c = and_left (touches t c n) (is_live t n) (no_touch t c n other)

      pub search_passes : Searched t (suc n) s
      search_passes = record {
        free = λ c e u v less race. elim (lt_or v n less) [
          | inl q ↦
              (let P : ℕ → Type 0 = λ x. is_access t c x ≡ true in
              let here = subst P q (racing t tree numbered c u v race).second in
              cc (here, no_access c))
          | inr l ↦ w.free c e u v l race
        ];
        kept = λ c b e. w.kept c b e ∙ ap (kept_of t) (sym (group_same t c b n (and_left (is_access t c n) (same_block (xparent t n) b) (no_access c))));
        cell = w.cell;
        first = w.first;
      }

    -- ## An access

    module _ (c : ℕ) (is : cell_of t n ≡ Some c) where
      abbrev b : Option ℕ
      b = xparent t n

      abbrev us : List ℕ
      us = group t c b n

      here : touches t c n ≡ true
      here = touches_is t c c n is ∙ eq-eqb c c refl

      access : is_access t c n ≡ true
      access = and_from (touches t c n) (is_live t n) here (live_node n)

      pub node_leaf : is_leaf t n ≡ true
      node_leaf = access_leaf t c n here

      each : (u : ℕ) → In u us → (is_leaf t u ≡ true) × (u < n)
      each u i = let m = member t c b n u i in (m.leaf, m.less)

      pub group_leaves : get nat_cmp s.found c ≡ None → AreLeaves t (kept_at s.kept (c, b))
      group_leaves e = subst (AreLeaves t) (sym (w.kept c b e)) (kept_leaves t us (λ u i. (each u i).0))

      -- a race of the node is one of its cell
      own_cell : (d u v : ℕ) → v ≡ n → are_racing t d u v ≡ true → c ≡ d
      own_cell d u v q race =
          let P : ℕ → Type 0 = λ x. touches t d x ≡ true in
          let touch = subst P q (and_parts (touches t d v) (is_live t v) (racing t tree numbered d u v race).second).0 in
          eqb-true c d (sym (touches_is t d c n is) ∙ touch)

      -- nothing changes for other cells
      other_free : (d : ℕ) → get nat_cmp s.found d ≡ None → c ≢ d → (u v : ℕ) → v < suc n → are_racing t d u v ≡ true → ⊥
      other_free d e ne u v less race = elim (lt_or v n less) [ inl q ↦ ne (own_cell d u v q race) | inr l ↦ w.free d e u v l race ]

      other_access : (d : ℕ) → c ≢ d → is_access t d n ≡ false
      other_access d ne = and_left (touches t d n) (is_live t n) (touches_is t d c n is ∙ ne_eqb c d ne)

      other_kept : (d : ℕ) (a : Option ℕ) → get nat_cmp s.found d ≡ None → c ≢ d → kept_at s.kept (d, a) ≡ kept_of t (group t d a (suc n))
      other_kept d a e ne = w.kept d a e ∙ ap (kept_of t) (sym (group_same t d a n (and_left (is_access t d n) (same_block (xparent t n) a) (other_access d ne))))

      -- where no race of the cell was found
      module _ (none : get nat_cmp s.found c ≡ None) where
        kept_is : kept_at s.kept (c, b) ≡ kept_of t us
        kept_is = w.kept c b none

        rival_told : rival_of t (kept_at s.kept (c, b)) n (writes t n) ≡ rival (hebrew_place t) (writes t) us n
        rival_told = ap (λ k. rival_of t k n (writes t n)) kept_is ∙ rival_is t us tree numbered n node_leaf each

        group_free : NoRace (hebrew_place t) (writes t) us
        group_free =
            none_in (hebrew_place t) (writes t) us (rises_filter (λ u. is_access t c u && same_block (xparent t u) b) (below n) (below_rises n)) (λ x y i j less h.
            let k = member t c b n x i in
            let m = member t c b n y j in
            let P : Option ℕ → Type 0 = λ a. same_block (xparent t x) a ≡ true in
            w.free c none x y m.less
            (race_from t tree numbered c x y (record {
              first = k.access;
              second = m.access;
              less = less;
              race = race_told (hebrew_place t) (writes t) x y h;
              block = subst P (sym (same_block_true (xparent t y) b m.block)) k.block;
            })))

        -- the node races if it has a rival
        pub first_found : (u : ℕ) → rival_of t (kept_at s.kept (c, b)) n (writes t n) ≡ Some u → IsFirstRace t (record { cell = c; first = u; second = n })
        first_found u e =
            let z = rival_races (hebrew_place t) (writes t) us n u (sym rival_told ∙ e) in
            record {
              racing = race_from t tree numbered c u n (group_race t tree numbered c u n access z.0 z.1);
              soonest = λ x y race. false_from_ne_true (stands_before (english t) y n) (λ f.
                  let r = racing t tree numbered c x y race in
                  let low = access_there t c y (and_parts (touches t c y) (is_live t y) r.second).0 in
                  w.free c none x y (is_first t tree numbered y n low f) race);
            }

        -- and otherwise it does not
        still_free : rival_of t (kept_at s.kept (c, b)) n (writes t n) ≡ None → (u : ℕ) → are_racing t c u n ≡ true → ⊥
        still_free e u race =
            let r = racing t tree numbered c u n race in
            let i = race_in_group t tree numbered c u n r in
            let found : races_with (hebrew_place t) (writes t) us n ≡ true = any_from (λ x. races (hebrew_place t) (writes t) x n) u us i r.race in
            let is : is_some (rival (hebrew_place t) (writes t) us n) ≡ false = ap is_some (sym rival_told ∙ e) in
            cc (found, is, rival_found (hebrew_place t) (writes t) us n group_free)

        free_here : rival_of t (kept_at s.kept (c, b)) n (writes t n) ≡ None → (d : ℕ) → get nat_cmp s.found d ≡ None → (u v : ℕ) → v < suc n → are_racing t d u v ≡ true → ⊥
        free_here e d g u v less race = elim (lt_or v n less) [
          | inl q ↦
              (let same = own_cell d u v q race in
              let P : ℕ → Type 0 = λ x. are_racing t x u v ≡ true in
              let Q : ℕ → Type 0 = λ x. are_racing t c u x ≡ true in
              still_free e u (subst Q q (subst P (sym same) race)))
          | inr l ↦ w.free d g u v l race
        ]

        -- what is kept of the group with one access more
        kept_now : kept_after t (kept_at s.kept (c, b)) n (writes t n) ≡ kept_of t (us ++ n ∷ [])
        kept_now = ap (λ k. kept_after t k n (writes t n)) kept_is ∙ kept_more t us tree numbered n node_leaf each

        is_group : (d : ℕ) (a : Option ℕ) → is_eq (group_cmp (c, b) (d, a)) ≡ (is_access t d n && same_block b a)
        is_group d a =
            same_groups c d b a
            ∙ ap (λ x. x && same_block b a) (sym (touches_is t d c n is) ∙ lives (touches t d n) (is_live t n) (live_node n)) where
              lives : (x y : Bool) → y ≡ true → x ≡ (x && y)
              lives x y e = by x where
                by : (x : Bool) → x ≡ (x && y)
                by true = sym e
                by false = refl

        module _ (kept : BTreeMap Group Kept) (up : Updates group_cmp s.kept kept (c, b) (Some (kept_after t (kept_at s.kept (c, b)) n (writes t n)))) where
          kept_grown : (d : ℕ) (a : Option ℕ) → get nat_cmp s.found d ≡ None → kept_at kept (d, a) ≡ kept_of t (group t d a (suc n))
          kept_grown d a g =
              ap (λ o. unwrap_or o nothing_kept) (up.0 (d, a)) ∙ by (is_access t d n && same_block b a) refl (is_group d a) where
                by : (x : Bool) → (is_access t d n && same_block b a) ≡ x → is_eq (group_cmp (c, b) (d, a)) ≡ (is_access t d n && same_block b a)
                    → unwrap_or (cond (is_eq (group_cmp (c, b) (d, a))) (Some (kept_after t (kept_at s.kept (c, b)) n (writes t n))) (get group_cmp s.kept (d, a))) nothing_kept ≡ kept_of t (group t d a (suc n))
                by true f e =
                    let y = and_parts (is_access t d n) (same_block b a) f in
                    let cells : c ≡ d = eqb-true c d (sym (touches_is t d c n is) ∙ (and_parts (touches t d n) (is_live t n) y.0).0) in
                    let blocks : b ≡ a = same_block_true b a y.1 in
                    ap (λ x. unwrap_or (cond x (Some (kept_after t (kept_at s.kept (c, b)) n (writes t n))) (get group_cmp s.kept (d, a))) nothing_kept) (e ∙ f)
                    ∙ kept_now
                    ∙ ap (λ x. kept_of t (group t x b n ++ n ∷ [])) cells
                    ∙ ap (λ x. kept_of t (group t d x n ++ n ∷ [])) blocks
                    ∙ ap (kept_of t) (sym (group_more t d a n f))
                by false f e =
                    ap (λ x. unwrap_or (cond x (Some (kept_after t (kept_at s.kept (c, b)) n (writes t n))) (get group_cmp s.kept (d, a))) nothing_kept) (e ∙ f)
                    ∙ w.kept d a g
                    ∙ ap (kept_of t) (sym (group_same t d a n f))

      -- what is found at another cell stays
      module _ (r : Race) (found : BTreeMap ℕ Race) (up : Updates nat_cmp s.found found c (Some r)) where
        stays : (d : ℕ) → c ≢ d → get nat_cmp found d ≡ get nat_cmp s.found d
        stays d ne = up.2 d (same_number c d ∙ ne_eqb c d ne)

        differs : (d : ℕ) → get nat_cmp found d ≡ None → c ≢ d
        differs d e same = absurd (cc (e, up.1, same))

        found_is : (d : ℕ) (q : Race) → get nat_cmp found d ≡ Some q → ((c ≡ d) × (r ≡ q)) ⊎ (get nat_cmp s.found d ≡ Some q)
        found_is d q h = elim (cases_eq c d) [
          | inl same ↦ inl (same, (let is : r ≡ q = cc (up.1, h, same) in is))
          | inr ne ↦ inr (sym (stays d ne) ∙ h)
        ]

      pub search_noted : (new : Search) → IsNoted t (c, b) n (writes t n) s new → Searched t (suc n) new
      search_noted new (known r e same) =
          let P : Search → Type 0 = Searched t (suc n) in
          let ne : (d : ℕ) → get nat_cmp s.found d ≡ None → c ≢ d = λ d h q. absurd (cc (e, h, ap (get nat_cmp s.found) q)) in
          subst P (sym same) (record {
            free = λ d h. other_free d h (ne d h);
            kept = λ d a h. other_kept d a h (ne d h);
            cell = w.cell;
            first = w.first;
          })
      search_noted new (finds u none e same up) =
          let r : Race = record { cell = c; first = u; second = n } in
          let before = λ (d : ℕ) (h : get nat_cmp new.found d ≡ None). sym (stays r new.found up d (differs r new.found up d h)) ∙ h in
          record {
            free = λ d h. other_free d (before d h) (differs r new.found up d h);
            kept = λ d a h. ap (λ m. kept_at m (d, a)) same ∙ other_kept d a (before d h) (differs r new.found up d h);
            cell = λ d q h. elim (found_is r new.found up d q h) [ inl z ↦ sym (ap (λ (x : Race). x.cell) z.1) ∙ z.0 | inr g ↦ w.cell d q g ];
            first = λ d q h. elim (found_is r new.found up d q h) [ inl z ↦ subst (IsFirstRace t) z.1 (first_found none u e) | inr g ↦ w.first d q g ];
          }
      search_noted new (keeps none e up same) =
          let before = λ (d : ℕ) (o : Option Race) (h : get nat_cmp new.found d ≡ o). sym (ap (λ m. get nat_cmp m d) same) ∙ h in
          record {
            free = λ d h. free_here none e d (before d None h);
            kept = λ d a h. kept_grown none new.kept up d a (before d None h);
            cell = λ d q h. w.cell d q (before d (Some q) h);
            first = λ d q h. w.first d q (before d (Some q) h);
          }

      -- the same, by the values that the code has
      module _ (seen : List Node) (tree_is : seen ≡ t) (block : Option ℕ) (block_is : block ≡ b) where
        pub leaf_here : is_leaf seen n ≡ true
        leaf_here = let P : List Node → Type 0 = λ x. is_leaf x n ≡ true in subst P (sym tree_is) node_leaf

        pub leaves_here : get nat_cmp s.found c ≡ None → AreLeaves seen (kept_at s.kept (c, block))
        leaves_here e =
            let P : List Node → Type 0 = λ x. AreLeaves x (kept_at s.kept (c, block)) in
            let Q : Option ℕ → Type 0 = λ a. AreLeaves t (kept_at s.kept (c, a)) in
            subst P (sym tree_is) (subst Q (sym block_is) (group_leaves e))

        pub noted_here : (is_write : Bool) → is_write ≡ writes t n → (new : Search) → IsNoted seen (c, block) n is_write s new → Searched t (n + 1) new
        noted_here is_write write_is new h =
            let P : List Node → Type 0 = λ x. IsNoted x (c, block) n is_write s new in
            let Q : Option ℕ → Type 0 = λ a. IsNoted t (c, a) n is_write s new in
            let R : Bool → Type 0 = λ x. IsNoted t (c, b) n x s new in
            let S : ℕ → Type 0 = λ k. Searched t k new in
            let next : suc n ≡ n + 1 = omega arith in
            subst S next (search_noted new (subst R write_is (subst Q block_is (subst P tree_is h))))
