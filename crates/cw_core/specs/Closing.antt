-- What a core leaves.
use Rattle.std.specs.Prelude.{ℕ, ℤ, List, [], ◌∷◌, unwrap_or}
use Rattle.cw_tree.specs.declared.access.Entry.{Entry}
use Rattle.cw_tree.specs.Accesses.{written}
use Rattle.cw_tree.specs.AccessStacks.{access_at}
use Rattle.cw_stack.specs.Cells.{entry_of}
use Rattle.cw_core.specs.State.{CoreState, column_of}

-- the entries of accesses with these stamps, one after another; the first of them found value v
abbrev pub journal : CoreState → ℤ → List ℕ → List Entry
journal k v [] = []
journal k v (s ∷ ss) =
    let u = access_at k.machine.tree s in
    entry_of (record { strand = column_of k u; stamp = s }) (written k.machine.tree u) v ∷ journal k (unwrap_or (written k.machine.tree u) v) ss

-- for each cell, the entries of its live accesses, from the cell's first value
abbrev pub journals : CoreState → List ℤ → List (List ℕ) → List (List Entry)
journals k [] ls = []
journals k (v ∷ vs) [] = []
journals k (v ∷ vs) (l ∷ ls) = journal k v l ∷ journals k vs ls

abbrev pub journals_of : CoreState → List (List Entry)
journals_of k = journals k k.machine.first k.machine.lists
