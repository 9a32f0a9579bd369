-- Entries of a list of accesses: of its beginning, with one more, and after a step.
use Rattle.std.specs.Prelude.{ℕ, ℤ, List, [], ◌∷◌, ◌++◌, length, map, take}
use Rattle.cw_tree.specs.declared.access.Entry.{Entry}
use Rattle.cw_tree.specs.declared.node.Node.{Node}
use Rattle.cw_tree.specs.Accesses.{written, cell_value}
use Rattle.cw_tree.specs.AccessStacks.{access_at}
use Rattle.cw_open.specs.Machine.{live}
use Rattle.cw_open.specs.Steps.{after_open_step}
use Rattle.cw_open.specs.Left.{IsEntryAt, AreEntriesAt}
use Rattle.cw_open.specs.Hands.{OfEachStep}

-- the entries of the beginning of a list are the first of its entries
abbrev pub EntriesBegin : Type 0
EntriesBegin = (t : List Node) (v : ℤ) (ss more : List ℕ) (es : List Entry) → AreEntriesAt t v (ss ++ more) es → AreEntriesAt t v ss (take (length ss) es)

-- with an access more there is an entry more, which met the value that the others left
abbrev pub EntriesMore : Type 0
EntriesMore =
    (t : List Node) (v : ℤ) (ss : List ℕ) (s : ℕ) (es : List Entry) (e : Entry) → AreEntriesAt t v ss es → IsEntryAt t (cell_value v (map (λ s. written t (access_at t s)) ss)) s e
    → AreEntriesAt t v (ss ++ s ∷ []) (es ++ e ∷ [])

-- a step leaves the entries of the accesses that were in a list
abbrev pub EntriesStay : Type 0
EntriesStay = OfEachStep (λ m e. (v : ℤ) (c : ℕ) (es : List Entry) → AreEntriesAt m.tree v (live m c) es → AreEntriesAt (after_open_step m e).tree v (live m c) es)
