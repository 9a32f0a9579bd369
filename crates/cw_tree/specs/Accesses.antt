-- The accesses of a cell: which are live, the chain that they make, and the cell's value. If they outlive a
-- numbering of the tree, they are named by their stamps.
use Rattle.std.specs.Prelude.{◌≡◌, ℕ, ℤ, ◌&&◌, Bool, true, false, not, nat_le, IsTrue, List, [], ◌∷◌, map, filter, slice_get, Option, Some, None, unwrap_or, All, if◌then◌else◌}
use Rattle.std.specs.List.{list_all}
use Rattle.cw_tree.specs.declared.node.Node.{Node}
use Rattle.cw_tree.specs.declared.node.Kind.{Kind}
use Rattle.cw_tree.specs.declared.node.Kind.TheVariants.{Read, Write}
use Rattle.cw_tree.specs.Nodes.{stamp_of, is_aborted, touches, all_nodes, with_stamp}
use Rattle.cw_tree.specs.Walks.{above, is_ancestor, nua}

-- no block above n was rolled back
abbrev pub is_live : List Node → ℕ → Bool
is_live t n = list_all (λ a. not (is_aborted t a)) (above t n)

-- puts x into a list that rises by a key, before what has an equal key
abbrev pub put_by : {X : Type 0} → (X → ℕ) → X → List X → List X
put_by key x [] = x ∷ []
put_by key x (y ∷ ys) = if nat_le (key x) (key y) then x ∷ y ∷ ys else y ∷ put_by key x ys

-- a list by rising keys; elements with equal keys stay in their order
abbrev pub by_key : {X : Type 0} → (X → ℕ) → List X → List X
by_key key [] = []
by_key key (x ∷ xs) = put_by key x (by_key key xs)

-- the live accesses of cell c, oldest first
abbrev pub live_accesses : List Node → ℕ → List ℕ
live_accesses t c = by_key (stamp_of t) (filter (λ n. touches t c n && is_live t n) (all_nodes t))

abbrev pub value_in : (Kind → Option ℤ) → Option Node → Option ℤ
value_in f None = None
value_in f (Some node) = f node.kind

abbrev pub written_kind : Kind → Option ℤ
written_kind (Write c v) = Some v
written_kind _ = None

abbrev pub read_kind : Kind → Option ℤ
read_kind (Read c v) = Some v
read_kind _ = None

-- what node n wrote, or read
abbrev pub written : List Node → ℕ → Option ℤ
written t n = value_in written_kind (slice_get t n)

abbrev pub read : List Node → ℕ → Option ℤ
read t n = value_in read_kind (slice_get t n)

-- the value of a cell that had value v, after accesses, each with what it wrote if it wrote
abbrev pub cell_value : ℤ → List (Option ℤ) → ℤ
cell_value v [] = v
cell_value v (w ∷ ws) = cell_value (unwrap_or w v) ws

-- the access before has no nearest pending block, or it is an ancestor of the next access's
abbrev pub lets_follow : List Node → Option ℕ → Option ℕ → Bool
lets_follow t None b = true
lets_follow t (Some a) None = false
lets_follow t (Some a) (Some b) = is_ancestor t a b

-- accesses, oldest first, whose nearest pending blocks lie on one path
abbrev pub IsChain : List Node → List ℕ → Type 0
IsChain t [] = Unit {0}
IsChain t (u ∷ []) = Unit {0}
IsChain t (u ∷ v ∷ us) = IsTrue (lets_follow t (nua t u) (nua t v)) × IsChain t (v ∷ us)

-- an access of cell c has the stamp s
abbrev pub HasAccess : List Node → ℕ → ℕ → Type 0
HasAccess t c s = (n : ℕ) × IsTrue (touches t c n) × (stamp_of t n ≡ s)

-- stamps of accesses of cell c that make a chain
pub record IsChainOf (t : List Node) (c : ℕ) (stamps : List ℕ) : Type 0 where
  pub accesses : All (HasAccess t c) stamps
  pub chain : IsChain t (map (λ s. unwrap_or (with_stamp t s) 0) stamps)
