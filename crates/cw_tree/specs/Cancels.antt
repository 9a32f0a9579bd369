-- What a cancel puts back: the cells that its block wrote, each with its value from before the block first accessed it.
use Rattle.std.specs.Prelude.{◌≡◌, ℕ, ℤ, pos, ◌&&◌, Bool, true, not, nat_lt, IsTrue, is_some, List, length, map, filter, take_while, slice_get, slice_index_or, Some}
use Rattle.std.specs.List.{list_any, list_all}
use Rattle.cw_code.specs.declared.Back.{Back}
use Rattle.cw_tree.specs.declared.node.Node.{Node}
use Rattle.cw_tree.specs.declared.node.Kind.{Kind}
use Rattle.cw_tree.specs.declared.node.Kind.TheVariants.{Cancel}
use Rattle.cw_tree.specs.Nodes.{stamp_of, is_block, below}
use Rattle.cw_tree.specs.Walks.{is_above}
use Rattle.cw_tree.specs.Accesses.{is_live, live_accesses, written, cell_value}

-- one of the accesses us is a write beneath block b with a smaller stamp
abbrev pub wrote_in : List Node → (b stamp : ℕ) → List ℕ → Bool
wrote_in t b stamp us = list_any (λ u. is_above t b u && nat_lt (stamp_of t u) stamp && is_some (written t u)) us

-- the accesses before the first one beneath block b
abbrev pub before_block : List Node → ℕ → List ℕ → List ℕ
before_block t b us = take_while (λ u. not (is_above t b u)) us

-- What block b puts back if it is given up at a stamp: by rising number, each cell that was written beneath it before
-- that stamp, and the value that the cell's accesses before the first one beneath it left. The cells have the values
-- `first` at first, and these live accesses, oldest first.
abbrev pub put_back : List Node → (first : List ℤ) → (accesses : ℕ → List ℕ) → (b stamp : ℕ) → List Back
put_back t first accesses b stamp =
    map (λ c. record { cell = c; value = cell_value (slice_index_or first c (pos 0)) (map (written t) (before_block t b (accesses c))) })
    (filter (λ c. wrote_in t b stamp (accesses c)) (below (length first)))

-- node x is a cancel directly in a block, and its list is what that block puts back
pub record IsCancel (t : List Node) (first : List ℤ) (x : Node) (back : List Back) : Type 0 where
  pub block : IsTrue (is_block t x.parent)
  pub list : back ≡ put_back t first (live_accesses t) x.parent x.stamp

-- each live cancel tells what its block puts back
abbrev pub AreCancels : List Node → List ℤ → Type 0
AreCancels t first =
    (n : ℕ) (x : Node) (back : List Back) → slice_get t n ≡ Some x → x.kind ≡ Cancel back → IsTrue (is_live t n) → IsCancel t first x back

-- if the kind is a cancel, its list names cells below k
abbrev pub names_cells : ℕ → Kind → Bool
names_cells k (Cancel back) = list_all (λ b. nat_lt b.cell k) back
names_cells k kind = true

-- each cancel names cells below k, live or not
abbrev pub NamesCells : List Node → ℕ → Type 0
NamesCells t k = IsTrue (list_all (λ x. names_cells k x.kind) t)
