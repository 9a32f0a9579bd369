-- A block that the word of a strand's gap shows is around the strand's place.
use Rattle.std.proofs.Common.{◌≡◌, ℕ, ◌≤◌, List, length, Bool, refl, ap, sym, ◌∙◌, subst, arith, true, Option, Some, None, inl, inr, nat_eq}
use Rattle.std.specs.Prelude.{◌⊎◌, ◌&&◌, Contains, slice_index}
use Rattle.std.proofs.lemmas.Bool.{and_parts, eqb-true}
use Rattle.std.proofs.lemmas.List.{get_or_default}
use Rattle.cw_tree.specs.declared.node.Node.{Node}
use Rattle.cw_tree.specs.Nodes.{stamp_of, is_pending}
use Rattle.cw_tree.specs.Walks.{path, is_ancestor}
use Rattle.cw_tree.proofs.Lists.{In}
use Rattle.cw_tree.proofs.Members.{filter_in, map_in, in_at}
use Rattle.cw_tree.proofs.Walks.Kin.{has_in}
use Rattle.cw_tree.proofs.Walks.There.{pending_there}
use Rattle.cw_trace.specs.Columns.{ColumnTable, used, owner, gap}
use Rattle.cw_trace.specs.Stands.{column, outermost_pending, stamp_or_0}
use Rattle.cw_trace.specs.Running.{MayGoOn}
use Rattle.cw_trace.specs.Hands.{StandsInOrder, gap_at}
use Rattle.cw_trace.proofs.Keeps.GoingOn.{segment_of, active, goes_on}
use Rattle.cw_trace.proofs.Keeps.Meaning.{column_low}
use Rattle.cw_trace.proofs.Segments.Lines.{used_some, own_trace, gap_le}
use Rattle.cw_trace.proofs.Stands.Counting.{some_below}
use Rattle.cw_open.specs.Around.{blocks_at, begins_at}
use Rattle.cw_hands.specs.Shared.{is_open_yet, place_at}
use Rattle.cw_hands.specs.WordsAround.{WordsShowAround}
use Rattle.cw_hands.proofs.Laws.Runs.{tiers_stand, ready_go_on}

module _ (c : ColumnTable) (words : List ℕ) (t : List Node) (cuts joins : List ℕ) (is_open : ℕ → Bool) (h : StandsInOrder c words t cuts joins is_open) (p : ℕ) (m : MayGoOn c t cuts is_open p) where
  abbrev col : ℕ → ℕ
  col = column t (used c)

  -- a pending block with the gap of the place is around it, and was begun in the last segment there
  pub record IsShown (b : ℕ) : Type 0 where
    pub over : is_ancestor t b p ≡ true
    pub late : (segment_of c words t cuts joins h.tree h.keeps is_open h.ordered p m.there m.opened).start ≤ col b

  pub is_shown : (b : ℕ) → is_pending t b ≡ true → gap c (col b) ≡ gap c (col p) → IsShown b
  is_shown b pending same =
      let k = h.keeps in
      let g = k.segments in
      let w = segment_of c words t cuts joins h.tree k is_open h.ordered p m.there m.opened in
      let act = active c words t cuts joins h.tree k is_open h.ordered p m in
      let low = column_low t (used c) p (used_some c cuts joins (is_pending t) col g) in
      let trace = own_trace c cuts joins (is_pending t) col g (col p) low in
      let owned = g.gap_owned (owner c (col p)) w.start b trace w.starts (λ x cut e. act.uncut x cut) pending (same ∙ w.same) in
      record { over = goes_on c words t cuts joins h.tree k is_open h.ordered p m b (pending_there t b pending) pending owned.0; late = owned.1 }

  -- the word is 0, or the begin of such a block
  pub word_shows : (slice_index words (gap_at c t p) ≡ 0) ⊎ ((b : ℕ) × (is_pending t b ≡ true) × (gap c (col b) ≡ gap c (col p)) × (stamp_of t b ≡ slice_index words (gap_at c t p)))
  word_shows =
      let k = h.keeps in
      let low = column_low t (used c) p (used_some c cuts joins (is_pending t) col k.segments) in
      let small : gap c (col p) ≤ col p = gap_le c cuts joins (is_pending t) col k.segments (col p) low in
      let is : slice_index words (gap_at c t p) ≡ stamp_or_0 t (outermost_pending t (used c) (λ i. nat_eq (gap c i) (gap c (col p)))) = k.words_are (gap c (col p)) (omega arith) in
      by (outermost_pending t (used c) (λ i. nat_eq (gap c i) (gap c (col p)))) refl is where
        by : (o : Option ℕ) → outermost_pending t (used c) (λ i. nat_eq (gap c i) (gap c (col p))) ≡ o → slice_index words (gap_at c t p) ≡ stamp_or_0 t (outermost_pending t (used c) (λ i. nat_eq (gap c i) (gap c (col p))))
            → (slice_index words (gap_at c t p) ≡ 0) ⊎ ((b : ℕ) × (is_pending t b ≡ true) × (gap c (col b) ≡ gap c (col p)) × (stamp_of t b ≡ slice_index words (gap_at c t p)))
        by None e is = inl (is ∙ ap (stamp_or_0 t) e)
        by (Some b) e is =
            let z = and_parts (is_pending t b) (nat_eq (gap c (col b)) (gap c (col p))) (some_below (λ b. is_pending t b && nat_eq (gap c (column t (used c) b)) (gap c (col p))) (length t) b e).passed in
            inr (b, z.0, eqb-true (gap c (col b)) (gap c (col p)) z.1, sym (is ∙ ap (stamp_or_0 t) e))

  pub shows_around : (slice_index words (gap_at c t p) ≡ 0) ⊎ Contains (begins_at t p) (slice_index words (gap_at c t p))
  shows_around = elim word_shows [
    | inl none ↦ inl none
    | inr z ↦ (
        let over = (is_shown z.0 z.1 z.2).over in
        let inside : In (stamp_of t z.0) (begins_at t p) = map_in (stamp_of t) z.0 (blocks_at t p) (filter_in (is_pending t) z.0 (path t p) (has_in (path t p) z.0 over) z.1) in
        let P : ℕ → Type 0 = λ w. Contains (begins_at t p) w in
        let at = in_at (stamp_of t z.0) (begins_at t p) inside in
        inr (subst P z.3 (at.0, at.1, get_or_default (begins_at t p) at.0 (stamp_of t z.0) 0 at.1 ∙ at.2)))
  ]

pub words_show_around : WordsShowAround
words_show_around asked first s run root x goes =
    shows_around s.columns s.words s.machine.tree s.cuts s.joins (is_open_yet s) (tiers_stand asked first s run root) (place_at s x) (ready_go_on asked first s run root x goes)
