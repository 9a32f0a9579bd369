-- The name of a strand that comes as the last node of a tree.
use Rattle.std.proofs.Common.{◌≡◌, ℕ, suc, ◌<◌, ◌≤◌, List, [], ◌∷◌, ◌++◌, length, ap, ◌∙◌, arith, true, false, subst, nat_eq, nat_lt}
use Rattle.std.specs.Prelude.{◌&&◌}
use Rattle.std.proofs.lemmas.Bool.{and_parts, and_from, eqb-true, eq-eqb, ltb-true, lt-ltb, false_from_ne_true}
use Rattle.cw_tree.specs.declared.node.Node.{Node}
use Rattle.cw_tree.specs.declared.picks.Turn.{Turn}
use Rattle.cw_tree.specs.Nodes.{is_strand_kind, is_fork_kind, parent_of, is_strand, is_fork, below}
use Rattle.cw_tree.specs.Walks.{IsRooted}
use Rattle.cw_tree.specs.Series.{strand_of}
use Rattle.cw_tree.specs.Names.{fork_number, is_right, turn, name_of}
use Rattle.cw_tree.proofs.Walks.Strands.{strand_of_le}
use Rattle.cw_tree.proofs.Names.Sides.{is_branch, is_forked}
use Rattle.cw_tree.proofs.Lists.{any_in, any_from}
use Rattle.cw_tree.proofs.Members.{in_below, below_in, any_same}
use Rattle.cw_tree.proofs.NextNodes.Growing.{length_more, node_new, number_new, node_grown, number_grown, rooted_more, strand_of_grown}
use Rattle.cw_tree.proofs.Walks.Agreeing.{agree_grown}
use Rattle.cw_tree.proofs.Names.Naming.{name_step}
use Rattle.cw_tree.proofs.Names.KeptNames.{Continues, continues_no_fork, fork_number_stays, name_stays}

-- a node that comes last and is no fork
module _ (t : List Node) (r : IsRooted t) (x : Node) (there : x.parent < length t) (no_fork : is_fork_kind x.kind ≡ false) where
  pub none_came : (g : ℕ) → length t ≤ g → g < length (t ++ x ∷ []) → is_fork (t ++ x ∷ []) g ≡ false
  none_came g le low =
      let same : length t ≡ g = omega (arith, length_more t x) in
      let P : ℕ → Type 0 = λ m. is_fork (t ++ x ∷ []) m ≡ false in
      subst P same (node_new t x (λ y. is_fork_kind y.kind) ∙ no_fork)

  pub continues_more : Continues t (t ++ x ∷ [])
  continues_more = continues_no_fork t (t ++ x ∷ []) r (rooted_more t x r there) (agree_grown t (x ∷ []) r) none_came

-- the first strand in a node that comes last has no strand before it
pub none_forked : (t : List Node) → IsRooted t → (f : ℕ) → suc f ≡ length t → is_forked t (length t) f ≡ false
none_forked t r f last =
    false_from_ne_true (is_forked t (length t) f) (λ e.
    let z = any_in (is_branch t f) (below (length t)) e in
    let y = and_parts (nat_lt 0 z.0 && is_strand t z.0) (nat_eq (parent_of t z.0) f) z.2 in
    let some : 0 < z.0 = ltb-true 0 z.0 (and_parts (nat_lt 0 z.0) (is_strand t z.0) y.0).0 in
    let low : z.0 < length t = in_below z.0 (length t) z.1 in
    let up : parent_of t z.0 < z.0 = r z.0 some low in
    omega (arith, eqb-true (parent_of t z.0) f y.1))

-- where a strand is there, the next is the second
pub one_forked : (t : List Node) (f l : ℕ) → 0 < l → l < length t → is_strand t l ≡ true → parent_of t l ≡ f → is_forked t (length t) f ≡ true
one_forked t f l some low strand up =
    any_from (is_branch t f) l (below (length t)) (below_in l (length t) low)
    (and_from (nat_lt 0 l && is_strand t l) (nat_eq (parent_of t l) f) (and_from (nat_lt 0 l) (is_strand t l) (lt-ltb 0 l some) strand) (eq-eqb (parent_of t l) f up))

-- a strand that comes last
module _ (t : List Node) (r : IsRooted t) (x : Node) (there : x.parent < length t) (no_fork : is_fork_kind x.kind ≡ false) (strand : is_strand_kind x.kind ≡ true) where
  side : is_right (t ++ x ∷ []) (length t) ≡ is_forked t (length t) x.parent
  side =
      ap (is_forked (t ++ x ∷ []) (length t)) (number_new t x (λ y. y.parent))
      ∙ any_same (is_branch (t ++ x ∷ []) x.parent) (is_branch t x.parent) (below (length t)) (λ m i.
      let low : m < length t = in_below m (length t) i in
      ap (λ b. nat_lt 0 m && b && nat_eq (parent_of (t ++ x ∷ []) m) x.parent) (node_grown t (x ∷ []) (λ y. is_strand_kind y.kind) m low)
      ∙ ap (λ q. nat_lt 0 m && is_strand t m && nat_eq q x.parent) (number_grown t (x ∷ []) (λ y. y.parent) m low))

  new_turn : turn (t ++ x ∷ []) (length t) ≡ (let y : Turn = record { fork = fork_number t x.parent; right = is_forked t (length t) x.parent } in y)
  new_turn =
      ap (λ k. (let y : Turn = record { fork = k; right = is_right (t ++ x ∷ []) (length t) } in y))
      (ap (fork_number (t ++ x ∷ [])) (number_new t x (λ y. y.parent)) ∙ fork_number_stays t (t ++ x ∷ []) (continues_more t r x there no_fork) x.parent there)
      ∙ ap (λ b. (let y : Turn = record { fork = fork_number t x.parent; right = b } in y)) side

  -- is named after the strand that forked it, on the side that is left
  pub name_new : name_of (t ++ x ∷ []) (length t) ≡ name_of t (strand_of t x.parent) ++ (let y : Turn = record { fork = fork_number t x.parent; right = is_forked t (length t) x.parent } in y) ∷ []
  name_new =
      let high : strand_of t x.parent ≤ x.parent = strand_of_le t r x.parent there in
      name_step (t ++ x ∷ []) (rooted_more t x r there) (length t) (omega arith) (omega (arith, length_more t x)) (node_new t x (λ y. is_strand_kind y.kind) ∙ strand)
      ∙ ap (λ n. name_of (t ++ x ∷ []) n ++ turn (t ++ x ∷ []) (length t) ∷ []) (ap (strand_of (t ++ x ∷ [])) (number_new t x (λ y. y.parent)) ∙ strand_of_grown t (x ∷ []) r x.parent there)
      ∙ ap (λ ns. ns ++ turn (t ++ x ∷ []) (length t) ∷ []) (name_stays t (t ++ x ∷ []) (continues_more t r x there no_fork) (strand_of t x.parent) (omega arith))
      ∙ ap (λ y. name_of t (strand_of t x.parent) ++ y ∷ []) new_turn
