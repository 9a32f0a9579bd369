-- Shortcuts to blocks that have not ended, and what they tell of two accesses.
use Rattle.std.proofs.Common.{◌≡◌, ℕ, zero, suc, ◌<◌, ◌≤◌, List, length, map, get_or, set, drop, ap, sym, ◌∙◌, subst, arith, refl, true, false, nat_lt, Option, Some, None, inl, inr}
use Rattle.std.specs.Prelude.{◌⊎◌, ◌&&◌, not}
use Rattle.std.specs.List.{find}
use Rattle.std.proofs.lemmas.Bool.{cases_eq, cases_Bool, and_parts, and_from, ltb-true, lt-ltb, not-true, not_from_false, false_from_ne_true}
use Rattle.std.proofs.lemmas.List.{get_or-set_same, get_or-set_other, length-set}
use Rattle.cw_tree.specs.declared.node.Node.{Node}
use Rattle.cw_tree.specs.Nodes.{parent_of, stamp_of, end_of, is_block, is_block_kind, is_committed, all_nodes}
use Rattle.cw_tree.specs.Walks.{IsRooted, path, is_ancestor, is_above, xparent}
use Rattle.cw_tree.specs.Journals.{EndedBetween}
use Rattle.cw_tree.proofs.Lists.{length_map_below, get_map_below}
use Rattle.cw_tree.proofs.Walks.There.{node_there}
use Rattle.cw_tree.proofs.Walks.Climbs.{path_step}
use Rattle.cw_tree.proofs.Walks.Ancestors.{ancestor_above, above_ancestor, above_parent}
use Rattle.cw_tree.proofs.Walks.Upward.{find_found, find_none}
use Rattle.cw_tree.proofs.NextNodes.Before.{above_down}
use Rattle.cw_audit.specs.Ended.{has_ended_by, EndedUpTo, AreShortcuts}

-- the block that a way leads to is there
pub way_there : (t : List Node) (time n b : ℕ) → EndedUpTo t time n (Some b) → b < length t
way_there t time n b w = node_there (λ x. is_block_kind x.kind) t b w.0

-- what has ended stays so
ended_later : (t : List Node) (time later b : ℕ) → time ≤ later → has_ended_by t time b ≡ true → has_ended_by t later b ≡ true
ended_later t time later b le e =
    let z = and_parts (is_committed t b) (nat_lt (end_of t b) time) e in
    let less : end_of t b < time = ltb-true (end_of t b) time z.1 in
    and_from (is_committed t b) (nat_lt (end_of t b) later) z.0 (lt-ltb (end_of t b) later (omega arith))

up_to_later : (t : List Node) (time later n : ℕ) (o : Option ℕ) → time ≤ later → EndedUpTo t time n o → EndedUpTo t later n o
up_to_later t time later n None le h = λ a block over. ended_later t time later a le (h a block over)
up_to_later t time later n (Some b) le h = (h.0, h.1, λ a block over past. ended_later t time later a le (h.2 a block over past))

pub shortcuts_later : (t : List Node) (time later : ℕ) (ways : List (Option ℕ)) → time ≤ later → AreShortcuts t time ways → AreShortcuts t later ways
shortcuts_later t time later ways le w = record { len = w.len; each = λ n h. up_to_later t time later n (get_or ways n None) le (w.each n h) }

module _ (t : List Node) (r : IsRooted t) where
  -- no block is on the way to the innermost block above a node
  pub first_way : (time n : ℕ) → n < length t → (o : Option ℕ) → xparent t n ≡ o → EndedUpTo t time n o
  first_way time zero h None e = λ a block over. absurd (cc over)
  first_way time zero h (Some b) e = absurd (cc e)
  first_way time (suc n) h o e = by o (sym (ap (λ ns. find (is_block t) (drop 1 ns)) (path_step t r (suc n) (omega arith) h)) ∙ e) where
    p : ℕ
    p = parent_of t (suc n)

    up : (a : ℕ) → is_above t a (suc n) ≡ is_ancestor t a p
    up a = above_parent t r a (suc n) (omega arith) h

    low : p < length t
    low = let l : p < suc n = r (suc n) (omega arith) h in omega arith

    by : (o : Option ℕ) → find (is_block t) (path t p) ≡ o → EndedUpTo t time (suc n) o
    by None f = λ a block over. absurd (cc (block, find_none t r (is_block t) p low f a (sym (up a) ∙ over)))
    by (Some b) f =
        let w = find_found t r (is_block t) b p low f in
        (w.passed, up b ∙ w.above, λ a block over past. absurd (cc (past, w.innermost a (sym (up a) ∙ over) block)))

  pub first_ways : (time : ℕ) (ways : List (Option ℕ)) → ways ≡ map (xparent t) (all_nodes t) → AreShortcuts t time ways
  first_ways time ways e = record {
    len = ap length e ∙ length_map_below (xparent t) (length t);
    each = λ n h. first_way time n h (get_or ways n None) (sym (ap (λ xs. get_or xs n None) e ∙ get_map_below (xparent t) (length t) n None h));
  }

  -- from a block that has ended it goes on as from there
  pub on_from : (time n b : ℕ) (o : Option ℕ) → n < length t → EndedUpTo t time n (Some b) → has_ended_by t time b ≡ true → EndedUpTo t time b o → EndedUpTo t time n o
  on_from time n b None h w ended g = (λ a block over. elim (cases_Bool (is_ancestor t a b)) [ inl e ↦ on a block e (cases_eq b a) | inr e ↦ w.2 a block over e ]) where
    on : (a : ℕ) → is_block t a ≡ true → is_ancestor t a b ≡ true → (b ≡ a) ⊎ (b ≡ a → ⊥) → has_ended_by t time a ≡ true
    on a block e (inl same) = let P : ℕ → Type 0 = λ x. has_ended_by t time x ≡ true in subst P same ended
    on a block e (inr ne) = g a block (sym (ancestor_above t a b ne) ∙ e)
  on_from time n b (Some c) h w ended g = (g.0, above_down t r c b n h g.1 (above_ancestor t b n w.1), λ a block over past. elim (cases_Bool (is_ancestor t a b)) [ inl e ↦ on a block e past (cases_eq b a) | inr e ↦ w.2 a block over e ]) where
    on : (a : ℕ) → is_block t a ≡ true → is_ancestor t a b ≡ true → is_ancestor t a c ≡ false → (b ≡ a) ⊎ (b ≡ a → ⊥) → has_ended_by t time a ≡ true
    on a block e past (inl same) = let P : ℕ → Type 0 = λ x. has_ended_by t time x ≡ true in subst P same ended
    on a block e past (inr ne) = g.2 a block (sym (ancestor_above t a b ne) ∙ e) past

  -- a walk from a node came to node `at`, past blocks that have ended
  pub data Came (time n : ℕ) : (at : ℕ) → Type 0 where
    here : {at : ℕ} → at ≡ n → Came time n at
    past : {at : ℕ} → EndedUpTo t time n (Some at) → has_ended_by t time at ≡ true → Came time n at

  pub came_here : (time n : ℕ) → Came time n n
  came_here time n = here refl

  pub came_past : (time n at : ℕ) → EndedUpTo t time n (Some at) → has_ended_by t time at ≡ true → Came time n at
  came_past time n at w ended = past w ended

  pub came_on : (time n at : ℕ) (o : Option ℕ) → n < length t → Came time n at → EndedUpTo t time at o → EndedUpTo t time n o
  came_on time n at o h (here e) g = let P : ℕ → Type 0 = λ x. EndedUpTo t time x o in subst P e g
  came_on time n at o h (past w ended) g = on_from time n at o h w ended g

  pub shortened : (time : ℕ) (ways : List (Option ℕ)) (at b : ℕ) (o : Option ℕ) → AreShortcuts t time ways → at < length t → b < length t → get_or ways at None ≡ Some b → has_ended_by t time b ≡ true → o ≡ get_or ways b None
      → AreShortcuts t time (set ways at o)
  shortened time ways at b o w h there way ended is = record {
    len = length-set ways at o ∙ w.len;
    each = λ n g. each n g (cases_eq n at);
  } where
    each : (n : ℕ) → n < length t → (n ≡ at) ⊎ (n ≡ at → ⊥) → EndedUpTo t time n (get_or (set ways at o) n None)
    each n g (inl e) =
        let len = w.len in
        let value : get_or (set ways at o) at None ≡ o = get_or-set_same ways at o None (omega arith) in
        let P : ℕ → Type 0 = λ x. EndedUpTo t time x (get_or (set ways at o) x None) in
        let Q : Option ℕ → Type 0 = λ p. EndedUpTo t time at p in
        subst P (sym e) (subst Q (sym (value ∙ is)) (on_from time at b (get_or ways b None) h (subst Q way (w.each at h)) ended (w.each b there)))
    each n g (inr ne) = let Q : Option ℕ → Type 0 = λ p. EndedUpTo t time n p in subst Q (sym (get_or-set_other ways at n o None ne)) (w.each n g)

  -- ## Two accesses

  -- if the first block that has not ended is above the next access, too, all between have ended
  module _ (u v : ℕ) (hv : v < length t) where
    parts : (b : ℕ) → (is_block t b && is_above t b u && not (is_above t b v)) ≡ true → (is_block t b ≡ true) × (is_above t b u ≡ true) × (is_above t b v ≡ false)
    parts b e =
        let z = and_parts (is_block t b && is_above t b u) (not (is_above t b v)) e in
        let y = and_parts (is_block t b) (is_above t b u) z.0 in
        (y.0, y.1, not-true (is_above t b v) z.1)

    both : (b : ℕ) → has_ended_by t (stamp_of t v) b ≡ true → (is_committed t b ≡ true) × (end_of t b < stamp_of t v)
    both b e = let z = and_parts (is_committed t b) (nat_lt (end_of t b) (stamp_of t v)) e in (z.0, ltb-true (end_of t b) (stamp_of t v) z.1)

    pub none_open : EndedUpTo t (stamp_of t v) u None → EndedBetween t u v
    none_open w b there e = let z = parts b e in both b (w b z.0 z.1)

    pub open_above : (c : ℕ) → EndedUpTo t (stamp_of t v) u (Some c) → is_above t c v ≡ true → EndedBetween t u v
    open_above c w over b there e =
        let z = parts b e in
        both b (w.2 b z.0 z.1 (false_from_ne_true (is_ancestor t b c) (λ f. by b c f (cases_eq c b) z.2 over))) where
          by : (b c : ℕ) → is_ancestor t b c ≡ true → (c ≡ b) ⊎ (c ≡ b → ⊥) → is_above t b v ≡ false → is_above t c v ≡ true → ⊥
          by b c f (inl same) aside over = let P : ℕ → Type 0 = λ x. is_above t x v ≡ true in absurd (cc (aside, subst P same over))
          by b c f (inr ne) aside over = absurd (cc (aside, above_down t r b c v hv (sym (ancestor_above t b c ne) ∙ f) (above_ancestor t c v over)))

    pub open_aside : (c : ℕ) → EndedUpTo t (stamp_of t v) u (Some c) → has_ended_by t (stamp_of t v) c ≡ false → is_above t c v ≡ false → EndedBetween t u v → ⊥
    open_aside c w unended aside all =
        let there = node_there (λ x. is_block_kind x.kind) t c w.0 in
        let z = all c there (and_from (is_block t c && is_above t c u) (not (is_above t c v)) (and_from (is_block t c) (is_above t c u) w.0 w.1) (not_from_false (is_above t c v) aside)) in
        absurd (cc (unended, and_from (is_committed t c) (nat_lt (end_of t c) (stamp_of t v)) z.0 (lt-ltb (end_of t c) (stamp_of t v) z.1)))
