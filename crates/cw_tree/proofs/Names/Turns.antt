-- The steps down to a strand, as the way up from it meets them.
use Rattle.std.proofs.Common.{◌≡◌, ℕ, ◌<◌, List, [], ◌∷◌, ◌++◌, length, map, get_or, ap, sym, ◌∙◌, Bool, true, false, cond, append_assoc}
use Rattle.std.specs.Prelude.{◌&&◌, nat_lt}
use Rattle.std.specs.List.{filter}
use Rattle.std.proofs.lemmas.Bool.{lt-ltb, and_from, and_right}
use Rattle.cw_tree.specs.declared.node.Node.{Node}
use Rattle.cw_tree.specs.declared.picks.Turn.{Turn}
use Rattle.cw_tree.specs.Nodes.{all_nodes, parent_of, is_strand}
use Rattle.cw_tree.specs.Walks.{IsRooted}
use Rattle.cw_tree.specs.Names.{fork_number, is_right, turn, strands_on}
use Rattle.cw_tree.proofs.Walks.Climbs.{path_step}
use Rattle.cw_tree.proofs.Lists.{get_map_below}

-- a turn from the numbers of all forks and the sides of all strands
pub turn_at : (t : List Node) (forks : List ℕ) (sides : List Bool) → forks ≡ map (fork_number t) (all_nodes t) → sides ≡ map (is_right t) (all_nodes t)
    → (n q k : ℕ) (side : Bool) → n < length t → q < length t → q ≡ parent_of t n → k ≡ get_or forks q k → side ≡ get_or sides n side → (let x : Turn = record { fork = k; right = side } in x) ≡ turn t n
turn_at t forks sides fe se n q k side hn hq up kr sr =
    let fork : k ≡ fork_number t (parent_of t n) = kr ∙ ap (λ xs. get_or xs q k) fe ∙ get_map_below (fork_number t) (length t) q k hq ∙ ap (fork_number t) up in
    let right : side ≡ is_right t n = sr ∙ ap (λ xs. get_or xs n side) se ∙ get_map_below (is_right t) (length t) n side hn in
    ap (λ x. (let y : Turn = record { fork = x; right = side } in y)) fork ∙ ap (λ x. (let y : Turn = record { fork = fork_number t (parent_of t n); right = x } in y)) right

module _ (t : List Node) (r : IsRooted t) (n : ℕ) (p : 0 < n) (hn : n < length t) where
  pub strands_step : strands_on t n ≡ cond (nat_lt 0 n && is_strand t n) (n ∷ strands_on t (parent_of t n)) (strands_on t (parent_of t n))
  strands_step = ap (filter (λ m. nat_lt 0 m && is_strand t m)) (path_step t r n p hn)

  pub turns_strand : (q : ℕ) (x : Turn) (xs : List Turn) → q ≡ parent_of t n → is_strand t n ≡ true → x ≡ turn t n → (xs ++ x ∷ []) ++ map (turn t) (strands_on t q) ≡ xs ++ map (turn t) (strands_on t n)
  turns_strand q x xs up e same =
      append_assoc xs (x ∷ []) (map (turn t) (strands_on t q))
      ∙ ap (λ y. xs ++ y ∷ map (turn t) (strands_on t q)) same
      ∙ ap (λ m. xs ++ turn t n ∷ map (turn t) (strands_on t m)) up
      ∙ ap (λ ns. xs ++ map (turn t) ns) (sym (strands_step ∙ ap (λ b. cond b (n ∷ strands_on t (parent_of t n)) (strands_on t (parent_of t n))) (and_from (nat_lt 0 n) (is_strand t n) (lt-ltb 0 n p) e)))

  pub turns_other : (q : ℕ) (xs : List Turn) → q ≡ parent_of t n → is_strand t n ≡ false → xs ++ map (turn t) (strands_on t q) ≡ xs ++ map (turn t) (strands_on t n)
  turns_other q xs up e =
      ap (λ m. xs ++ map (turn t) (strands_on t m)) up
      ∙ ap (λ ns. xs ++ map (turn t) ns) (sym (strands_step ∙ ap (λ b. cond b (n ∷ strands_on t (parent_of t n)) (strands_on t (parent_of t n))) (and_right (nat_lt 0 n) (is_strand t n) e)))
