-- A strand whose fork was merged goes on.
use Rattle.std.proofs.Common.{◌≡◌, ◌≢◌, ℕ, ◌+◌, ◌<◌, ◌≤◌, List, length, refl, ap, sym, ◌∙◌, arith, true, false, inl, inr, nat_lt, nat_eq}
use Rattle.std.specs.Prelude.{◌⊎◌, ◌&&◌, not}
use Rattle.std.proofs.lemmas.Bool.{and_parts, and_from, or_left, or_right, not_from_false, false_from_ne_true, cases_Bool, cases_eq, cases_lt, eqb-true, eq-eqb}
use Rattle.std.proofs.lemmas.List.{length-map}
use Rattle.cw_tree.specs.declared.node.Node.{Node}
use Rattle.cw_tree.specs.Nodes.{parent_of, is_strand, is_fork, all_nodes}
use Rattle.cw_tree.specs.Walks.{has, is_ancestor, lca}
use Rattle.cw_tree.specs.Series.{strand_of, place}
use Rattle.cw_tree.proofs.Lists.{any_in}
use Rattle.cw_tree.proofs.NextNodes.Trees.{no_fork}
use Rattle.cw_tree.proofs.NodeKinds.{fork_no_strand, fork_some}
use Rattle.cw_tree.proofs.Walks.Ancestors.{ancestor_le}
use Rattle.cw_tree.proofs.Walks.Kin.{branch, fork_child}
use Rattle.cw_tree.proofs.Walks.Meets.{lca_is_meet}
use Rattle.cw_tree.proofs.Walks.Strands.{strand_of_other, strand_of_le, strand_innermost, strand_over}
use Rattle.cw_tree.proofs.Walks.There.{fork_there, strand_there}
use Rattle.cw_trace.specs.Columns.{used, merged, back_to, around_fork}
use Rattle.cw_trace.specs.Stands.{fork_column}
use Rattle.cw_trace.specs.Hands.{StandsInOrder}
use Rattle.cw_trace.proofs.Keeps.GoingOn.{open_above}
use Rattle.cw_open.specs.Machine.{OpenMachine, is_running}
use Rattle.cw_open.specs.Open.{is_open}
use Rattle.cw_open.specs.Runs.{at_any_time}
use Rattle.cw_open.proofs.Open.Standing.{stands, runs, place_open, place_holds, none_open, open_over}
use Rattle.cw_open.proofs.Open.Trees.{IsWell}
use Rattle.cw_hands.specs.Shared.{SharedMoment, is_split, is_owed, is_open_yet, waits_for_left, waits_for_merge, is_ready, after_merge, merges, RunsTogether, more}
use Rattle.cw_hands.specs.Laws.{MergedGoOn}
use Rattle.cw_hands.proofs.Shared.Order.{at_wide, at_no_fork, wide_fork}
use Rattle.cw_hands.proofs.Laws.Kept.{owed_is, owed_from}
use Rattle.cw_hands.proofs.Laws.Unready.{none_left}
use Rattle.cw_hands.proofs.Laws.Runs.{well_at, tiers_stand}

module _ (s : SharedMoment) (w : IsWell s.machine) (h : StandsInOrder s.columns s.words s.machine.tree s.cuts s.joins (is_open_yet s)) (x : ℕ) (running : is_running s.machine x ≡ true) where
  abbrev m : OpenMachine
  m = s.machine

  abbrev t : List Node
  t = s.machine.tree

  abbrev p : ℕ
  p = place t x

  low : p < length t
  low = (stands m w.sound.tree w.nested x running).there

  own_place : strand_of t p ≡ x
  own_place = (stands m w.sound.tree w.nested x running).strand

  over_strand : (n : ℕ) → n < length t → strand_of t n ≡ x → is_ancestor t x n ≡ true
  over_strand n there own = sym (ap (λ y. is_ancestor t y n) own) ∙ strand_over t w.sound.tree.rooted n there

  -- where two open nodes of the strand part it is at no fork
  module _ (q : ℕ) (there : q < length t) (opened : is_open m q ≡ true) (own : strand_of t q ≡ x) (not_over : is_ancestor t q p ≡ false) (not_under : is_ancestor t p q ≡ false) where
    abbrev a : ℕ
    a = lca t q p

    -- the two are reached through children of one node, both open
    parted : (b c : ℕ) → 0 < b → 0 < c → parent_of t b ≡ a → parent_of t c ≡ a → is_ancestor t b q ≡ true → is_ancestor t c p ≡ true → is_fork t a ≡ false → ⊥
    parted b c sb sc up_b up_c over_b over_c plain =
        let r = w.sound.tree.rooted in
        let b_le : b ≤ q = ancestor_le t r b q there over_b in
        let c_le : c ≤ p = ancestor_le t r c p low over_c in
        let p_low : p < length t = low in
        let b_open = open_over m w.sound.tree w.nested b q there over_b opened in
        let c_open = open_over m w.sound.tree w.nested c p low over_c (place_open m w.sound.tree w.nested x running) in
        by_order (cases_lt b c) (cases_eq b c) b_le c_le p_low b_open c_open where
          by_order : (b < c) ⊎ (c ≤ b) → (b ≡ c) ⊎ (b ≢ c) → b ≤ q → c ≤ p → p < length t → is_open m b ≡ true → is_open m c ≡ true → ⊥
          by_order (inl less) e b_le c_le p_low b_open c_open = cc (b_open, w.nested.last b c sb less (omega arith) (up_b ∙ sym up_c) (ap (is_fork t) up_b ∙ plain))
          by_order (inr le) (inr ne) b_le c_le p_low b_open c_open = cc (c_open, w.nested.last c b sc (omega (arith, ne)) (omega arith) (up_c ∙ sym up_b) (ap (is_fork t) up_c ∙ plain))
          by_order (inr le) (inl same) b_le c_le p_low b_open c_open =
              let meet = lca_is_meet t w.sound.tree.rooted q p there low in
              let both : is_ancestor t b a ≡ true = meet.innermost b over_b (ap (λ y. is_ancestor t y p) same ∙ over_c) in
              let aq : a ≤ q = ancestor_le t w.sound.tree.rooted a q there meet.left in
              let le : b ≤ a = ancestor_le t w.sound.tree.rooted b a (omega arith) both in
              let up : parent_of t b < b = w.sound.tree.rooted b sb (omega arith) in
              omega (arith, up_b)

    never : ⊥
    never =
        let r = w.sound.tree.rooted in
        let meet = lca_is_meet t r q p there low in
        let x_over : is_ancestor t x a ≡ true = meet.innermost x (over_strand q there own) (over_strand p low own_place) in
        let aq : a ≤ q = ancestor_le t r a q there meet.left in
        let x_le : x ≤ a = ancestor_le t r x a (omega arith) x_over in
        let b = branch t r a q there (λ e. absurd (cc (e, meet.right, not_over))) meet.left in
        let c = branch t r a p low (λ e. absurd (cc (e, meet.left, not_under))) meet.right in
        let b_le : b.child ≤ q = ancestor_le t r b.child q there b.over in
        let b_up : parent_of t b.child < b.child = r b.child b.some (omega arith) in
        elim (cases_Bool (is_fork t a)) [
          | inl fork ↦
              (let strand : is_strand t b.child ≡ true = fork_child t w.sound.tree b.child b.some (omega arith) (ap (is_fork t) b.parent ∙ fork) in
              let inner : b.child ≤ strand_of t q = strand_innermost t r b.child strand q there b.over in
              omega (arith, b.parent, own))
          | inr plain ↦ parted b.child c.child b.some c.some b.parent c.parent b.over c.over plain
        ]

  -- a fork of the strand is not above its place
  no_fork_over : (f : ℕ) → is_fork t f ≡ true → strand_of t f ≡ x → is_ancestor t f p ≡ true → ⊥
  no_fork_over f fork own over =
      let r = w.sound.tree.rooted in
      let plain = no_fork t p (place_holds m w.sound.tree w.nested x running) in
      let b = branch t r f p low (λ e. absurd (cc (e, fork, plain))) over in
      let le : b.child ≤ p = ancestor_le t r b.child p low b.over in
      let up : parent_of t b.child < b.child = r b.child b.some (let l = low in omega arith) in
      let strand : is_strand t b.child ≡ true = fork_child t w.sound.tree b.child b.some (let l = low in omega arith) (ap (is_fork t) b.parent ∙ fork) in
      let inner : b.child ≤ strand_of t p = strand_innermost t r b.child strand p low b.over in
      let outer : strand_of t f ≤ f = strand_of_le t r f (fork_there t f fork) in
      omega (arith, b.parent, own, own_place)

  -- a fork that the strand made, and whose merge is owed, stands in its place
  pub owed_there : (f : ℕ) → is_owed s f ≡ true → strand_of t f ≡ x → parent_of t f ≡ p
  owed_there f owed own =
      let r = w.sound.tree.rooted in
      let o = owed_is s f owed in
      let fork = wide_fork s f o.wide in
      let there = fork_there t f fork in
      let some : 0 < f = fork_some t w.sound.tree.root f fork in
      let up : parent_of t f < f = r f some there in
      let opened : is_open_yet s f ≡ true = at_wide s f o.wide ∙ not_from_false (has s.joins (fork_column t f)) o.unmerged in
      let plain : is_fork t (parent_of t f) ≡ false = false_from_ne_true (is_fork t (parent_of t f)) (λ y. absurd (cc (fork_child t w.sound.tree f some there y, fork_no_strand t f fork))) in
      let q_own : strand_of t (parent_of t f) ≡ x = sym (strand_of_other t r f some there (fork_no_strand t f fork)) ∙ own in
      let q_open : is_open m (parent_of t f) ≡ true = sym (at_no_fork s (parent_of t f) plain) ∙ h.ordered.outer f some there opened in
      elim (cases_eq (parent_of t f) p) [
        | inl e ↦ e
        | inr ne ↦ elim (cases_Bool (is_ancestor t (parent_of t f) p)) [
          | inl over ↦ absurd (above_place f fork own some there opened plain over ne)
          | inr off ↦ elim (cases_Bool (is_ancestor t p (parent_of t f))) [
            | inl under ↦ absurd (below_place (parent_of t f) (omega arith) q_open under ne)
            | inr out ↦ absurd (never (parent_of t f) (omega arith) q_open q_own off out)
          ]
        ]
      ] where
        above_place : (f : ℕ) → is_fork t f ≡ true → strand_of t f ≡ x → 0 < f → f < length t → is_open_yet s f ≡ true → is_fork t (parent_of t f) ≡ false → is_ancestor t (parent_of t f) p ≡ true → parent_of t f ≢ p → ⊥
        above_place f fork own some there opened plain over ne =
            let b = branch t w.sound.tree.rooted (parent_of t f) p low (λ y. ne (sym y)) over in
            let le : b.child ≤ p = ancestor_le t w.sound.tree.rooted b.child p low b.over in
            let p_open : is_open_yet s p ≡ true = at_no_fork s p (no_fork t p (place_holds m w.sound.tree w.nested x running)) ∙ place_open m w.sound.tree w.nested x running in
            let child_open : is_open_yet s b.child ≡ true = open_above s.columns s.words t s.cuts s.joins h.tree h.keeps (is_open_yet s) h.ordered b.child p low p_open b.over in
            let same : b.child ≡ f = h.ordered.one b.child f b.some some (let l = low in omega arith) there child_open opened b.parent (ap (is_fork t) b.parent ∙ plain) in
            no_fork_over f fork own (sym (ap (λ y. is_ancestor t y p) same) ∙ b.over)

        below_place : (q : ℕ) → q < length t → is_open m q ≡ true → is_ancestor t p q ≡ true → q ≢ p → ⊥
        below_place q there opened under ne =
            let b = branch t w.sound.tree.rooted p q there ne under in
            let le : b.child ≤ q = ancestor_le t w.sound.tree.rooted b.child q there b.over in
            cc (open_over m w.sound.tree w.nested b.child q there b.over opened, none_open m w.sound.tree w.nested x running b.child b.some (omega arith) b.parent)

  -- so there is one at most
  pub one_owed : (f g : ℕ) → is_owed s f ≡ true → is_owed s g ≡ true → strand_of s.machine.tree f ≡ x → strand_of s.machine.tree g ≡ x → f ≡ g
  one_owed f g of og own_f own_g =
      let o = owed_is s f of in
      let q = owed_is s g og in
      let fork = wide_fork s f o.wide in
      let fork_g = wide_fork s g q.wide in
      let up : parent_of t f ≡ p = owed_there f of own_f in
      h.ordered.one f g (fork_some t w.sound.tree.root f fork) (fork_some t w.sound.tree.root g fork_g) (fork_there t f fork) (fork_there t g fork_g)
      (at_wide s f o.wide ∙ not_from_false (has s.joins (fork_column t f)) o.unmerged) (at_wide s g q.wide ∙ not_from_false (has s.joins (fork_column t g)) q.unmerged)
      (up ∙ sym (owed_there g og own_g)) (ap (is_fork t) up ∙ no_fork t p (place_holds m w.sound.tree w.nested x running))

pub merged_go_on : MergedGoOn
merged_go_on asked first s run root f e running =
    let r = at_any_time asked in
    let t = s.machine.tree in
    let x = strand_of t f in
    let col = fork_column t f in
    let u = after_merge s f in
    let w = well_at r first s run in
    let z = (and_parts (is_split s f) (is_owed s f) e).1 in
    let fork = wide_fork s f (owed_is s f z).wide in
    let same : used (merged col s.columns) ≡ used s.columns = length-map s.columns.owners (back_to (around_fork s.columns col) col) in
    let after : RunsTogether r first u = more s u run (merges f e) in
    let h = tiers_stand asked first s run root in
    let k = tiers_stand asked first u after root in
    let left : waits_for_left u x ≡ false = none_left u w x running (λ l some less up fork_x whole.
    k.ordered.left_first l x f some less (strand_there t x (runs s.machine w.sound.tree w.nested x running).strand) up fork_x whole (fork_there t f fork) (strand_over t w.sound.tree.rooted f (fork_there t f fork))
    (λ q. absurd (cc (q, fork_no_strand t f fork, (runs s.machine w.sound.tree w.nested x running).strand)))) in
    let unowed : waits_for_merge u x ≡ false = false_from_ne_true (waits_for_merge u x) (λ q.
    let y = any_in (λ g. is_owed u g && nat_eq (strand_of t g) x) (all_nodes t) q in
    let v = and_parts (is_owed u y.0) (nat_eq (strand_of t y.0) x) y.2 in
    let o = owed_is u y.0 v.0 in
    let was : is_owed s y.0 ≡ true = owed_from s y.0 (record {
      wide = sym (ap (λ n. is_fork t y.0 && nat_lt (fork_column t y.0 + 1) n) same) ∙ o.wide;
      joined = o.joined;
      unmerged = false_from_ne_true (has s.joins (fork_column t y.0)) (λ j. absurd (cc (o.unmerged, or_right (nat_eq col (fork_column t y.0)) (has s.joins (fork_column t y.0)) j)));
    }) in
    let one : f ≡ y.0 = one_owed s w h x running f y.0 z was refl (eqb-true (strand_of t y.0) x v.1) in
    absurd (cc (o.unmerged, or_left (nat_eq col (fork_column t y.0)) (has s.joins (fork_column t y.0)) (eq-eqb col (fork_column t y.0) (ap (fork_column t) one))))) in
    and_from (is_running s.machine x) (is_ready u x) running (and_from (not (waits_for_left u x)) (not (waits_for_merge u x)) (not_from_false (waits_for_left u x) left) (not_from_false (waits_for_merge u x) unowed))
