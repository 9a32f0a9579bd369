-- What passes over a tree find: the first node with a name, and the first position of a name.
use Rattle.std.specs.Prelude.{◌≡◌, ℕ, suc, ◌<◌, Bool, List, [], ◌∷◌, length, map, Option, Some, None, option_map, if◌then◌else◌, slice_index_or, All, IsTrue}
use Rattle.std.specs.declared.cmp.Ordering.{Ordering}
use Rattle.std.specs.Ordering.{ordering_then, nat_cmp, bool_cmp}
use Rattle.cw_tree.specs.declared.node.Node.{Node}
use Rattle.cw_tree.specs.declared.picks.Turn.{Turn}
use Rattle.cw_tree.specs.Nodes.{all_nodes, is_strand}
use Rattle.cw_tree.specs.Names.{name_of}
use Rattle.cw_serial.specs.Machine.{same_name}
use Rattle.cw_record.specs.Listed.{index_of, names}

-- the first node with the name of n
abbrev pub first_named : List Node → ℕ → ℕ
first_named t n = index_of (map (name_of t) (all_nodes t)) (name_of t n)

-- the first position of a name, if it occurs
abbrev pub place_in : List (List Turn) → List Turn → Option ℕ
place_in [] p = None
place_in (q ∷ qs) p = if same_name q p then Some 0 else option_map suc (place_in qs p)

-- a name, given by the first node with the name that it extends, and by its last turn
abbrev pub NameStep : Type 0
NameStep = ℕ × ℕ × Bool

abbrev pub step_cmp : NameStep → NameStep → Ordering
step_cmp a b = ordering_then (ordering_then (nat_cmp a.0 b.0) (nat_cmp a.1 b.1)) (bool_cmp a.2 b.2)

-- strands with all names, each once; and for each node that is the first with its name, the position of that name among them
pub record AreFirsts (t : List Node) (strands : List ℕ) (places : List (Option ℕ)) : Type 0 where
  pub listed : map (name_of t) strands ≡ names t
  pub there : All (λ s. IsTrue (is_strand t s)) strands
  pub len : length places ≡ length t
  pub at : (n : ℕ) → n < length t → slice_index_or places (first_named t n) None ≡ place_in (names t) (name_of t n)
