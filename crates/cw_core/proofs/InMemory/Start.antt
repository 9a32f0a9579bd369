-- A core's fields before its first event.
use Rattle.std.proofs.Common.{◌≡◌, ℕ, ◌<◌, List, [], ◌∷◌, map, ap, sym, ◌∙◌, subst, Bool, None}
use Rattle.std.specs.Prelude.{ℤ, replicate}
use Rattle.cw_tree.specs.declared.node.Node.{Node}
use Rattle.cw_tree.specs.declared.node.Kind.TheVariants.{Strand}
use Rattle.cw_tree.specs.declared.conflict.Conflict.{Conflict}
use Rattle.cw_tree.specs.Nodes.{fresh_node}
use Rattle.cw_stack.specs.Cells.{CellParts}
use Rattle.cw_trace.specs.Columns.{ColumnTable, first_tier}
use Rattle.cw_core.specs.declared.row.Row.{Row}
use Rattle.cw_core.specs.State.{CoreState, start}
use Rattle.cw_core.specs.Kept.{AreParts, leaf_row, fresh_cell}
use Rattle.cw_core.proofs.Kept.Starts.{start_parts, firsts_are, lists_are}

-- a state by its parts, those of a core without an event in which something differs
abbrev parts_of : List ℤ → List Node → List (List ℕ) → List Conflict → List (ℕ × Bool) → (joined splits : List ℕ) → ColumnTable → (words : List ℕ) → ℕ → CoreState
parts_of first tree lists conflicts finished joined splits tier words budget = record {
  machine = record { first = first; tree = tree; lists = lists; clock = 0; conflicts = conflicts; finished = finished; joined = joined; stopped = [] };
  tier = tier;
  words = words;
  splits = splits;
  budget = budget;
  halt = None;
}

module _ (first : List ℤ) (room budget : ℕ) (some : 0 < room) (cells : List CellParts) (are : cells ≡ map fresh_cell first) (tree : List Node) (tree_is : tree ≡ fresh_node 0 Strand 0 ∷ []) (conflicts : List Conflict) (conflicts_are : conflicts ≡ [])
    (finished : List (ℕ × Bool)) (finished_are : finished ≡ []) (joined splits : List ℕ) (joined_are : joined ≡ []) (splits_are : splits ≡ []) (tier : ColumnTable) (tier_is : tier ≡ first_tier room) (words : List ℕ) (words_are : words ≡ replicate room 0) where
  abbrev lists : List (List ℕ)
  lists = map (λ c. Rattle.cw_tree.specs.AccessStacks.stamps c.entries) cells

  abbrev firsts : List ℤ
  firsts = map (λ c. c.first) cells

  abbrev root : List Node
  root = fresh_node 0 Strand 0 ∷ []

  abbrev none : List (List ℕ)
  none = map (λ v. let us : List ℕ = [] in us) first

  pub start_state : parts_of firsts tree lists conflicts finished joined splits tier words budget ≡ start first room budget
  start_state =
      ap (λ x. parts_of x tree lists conflicts finished joined splits tier words budget) (firsts_are first room budget some cells are)
      ∙ ap (λ x. parts_of first x lists conflicts finished joined splits tier words budget) tree_is
      ∙ ap (λ x. parts_of first root x conflicts finished joined splits tier words budget) (lists_are first room budget some cells are)
      ∙ ap (λ x. parts_of first root none x finished joined splits tier words budget) conflicts_are
      ∙ ap (λ x. parts_of first root none [] x joined splits tier words budget) finished_are
      ∙ ap (λ x. parts_of first root none [] [] x splits tier words budget) joined_are
      ∙ ap (λ x. parts_of first root none [] [] [] x tier words budget) splits_are
      ∙ ap (λ x. parts_of first root none [] [] [] [] x words budget) tier_is
      ∙ ap (λ x. parts_of first root none [] [] [] [] (first_tier room) x budget) words_are

  pub start_kept : (rows : List Row) → rows ≡ leaf_row 0 0 ∷ [] → (forks : List ℕ) → forks ≡ [] → AreParts (parts_of firsts tree lists conflicts finished joined splits tier words budget) rows forks cells None
  start_kept rows rows_are forks forks_are =
      let P : CoreState → Type 0 = λ z. AreParts z rows forks cells None in
      let Q : List Row → Type 0 = λ rs. AreParts (start first room budget) rs forks cells None in
      let R : List ℕ → Type 0 = λ fs. AreParts (start first room budget) (leaf_row 0 0 ∷ []) fs cells None in
      subst P (sym start_state) (subst Q (sym rows_are) (subst R (sym forks_are) (start_parts first room budget some cells are)))
