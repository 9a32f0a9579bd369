-- The names of a run's strands, each once, as an order lists them.
use Rattle.std.specs.Prelude.{ℕ, suc, false, List, [], ◌∷◌, map, filter, if◌then◌else◌}
use Rattle.std.specs.List.{list_any}
use Rattle.cw_tree.specs.declared.node.Node.{Node}
use Rattle.cw_tree.specs.declared.picks.Name.{Name}
use Rattle.cw_tree.specs.declared.picks.Turn.{Turn}
use Rattle.cw_tree.specs.Nodes.{is_strand}
use Rattle.cw_tree.specs.Series.{depth_first}
use Rattle.cw_tree.specs.Names.{name_of}
use Rattle.cw_serial.specs.Machine.{same_name}

-- each name where it comes first, except those that were seen before
abbrev pub once : (seen : List (List Turn)) → List (List Turn) → List (List Turn)
once seen [] = []
once seen (p ∷ ps) = if list_any (same_name p) seen then once seen ps else p ∷ once (p ∷ seen) ps

-- The names of all strands, in the order in which a depth-first walk first meets them. The strands of an attempt that was rolled
-- back have the names of those of the next attempt.
abbrev pub names : List Node → List (List Turn)
names t = once [] (map (name_of t) (filter (is_strand t) (depth_first t)))

abbrev pub index_of : List (List Turn) → List Turn → ℕ
index_of [] p = 0
index_of (q ∷ qs) p = if same_name q p then 0 else suc (index_of qs p)

abbrev pub without_last : List Turn → List Turn
without_last [] = []
without_last (x ∷ []) = []
without_last (x ∷ y ∷ p) = x ∷ without_last (y ∷ p)

abbrev pub last_turn : List Turn → Turn
last_turn [] = record { fork = 0; right = false }
last_turn (x ∷ []) = x
last_turn (x ∷ y ∷ p) = last_turn (y ∷ p)

-- a listed name, which has the number of the strand that forked
abbrev pub listed_name : List (List Turn) → List Turn → Name
listed_name ps p = let x = last_turn p in record { parent = index_of ps (without_last p); fork = x.fork; right = x.right }

-- all listed names
abbrev pub listed_names : List Node → List Name
listed_names t = let ps = names t in map (listed_name ps) ps

-- the number of strand s among the listed names
abbrev pub strand_number : List Node → ℕ → ℕ
strand_number t s = index_of (names t) (name_of t s)
