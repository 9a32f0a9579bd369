-- The journals that a tree tells: for each cell its live accesses by rising stamp, each with the cell's value after it and before it.
use Rattle.std.specs.Prelude.{◌≡◌, ℕ, suc, ℤ, is_some, List, [], ◌∷◌, slice_get, Some, unwrap_or}
use Rattle.cw_tree.specs.declared.node.Node.{Node}
use Rattle.cw_tree.specs.declared.access.Entry.{Entry}
use Rattle.cw_tree.specs.Nodes.{stamp_of}
use Rattle.cw_tree.specs.Accesses.{live_accesses, written, read}

-- the entry of access u, which met value v. A tree tells no column, so 0 is in its place.
abbrev pub entry_told : List Node → ℤ → ℕ → Entry
entry_told t v u = record { mark = record { strand = 0; stamp = stamp_of t u }; wrote = is_some (written t u); value = unwrap_or (written t u) v; old = v }

-- the entries of accesses, one after another, the first of which met value v
abbrev pub entries_told : List Node → ℤ → List ℕ → List Entry
entries_told t v [] = []
entries_told t v (u ∷ us) = entry_told t v u ∷ entries_told t (unwrap_or (written t u) v) us

-- the journals of the cells from number c on, which have these first values
abbrev pub journals_from : List Node → (c : ℕ) → List ℤ → List (List Entry)
journals_from t c [] = []
journals_from t c (v ∷ vs) = entries_told t v (live_accesses t c) ∷ journals_from t (suc c) vs

abbrev pub journals_told : List Node → (first : List ℤ) → List (List Entry)
journals_told t first = journals_from t 0 first

-- ## Reads

-- Each of these accesses that is a read has the value that the accesses before it left. The first one met value v.
abbrev pub ReadWhatWasLeft : List Node → ℤ → List ℕ → Type 0
ReadWhatWasLeft t v [] = Unit {0}
ReadWhatWasLeft t v (u ∷ us) = ((w : ℤ) → read t u ≡ Some w → w ≡ v) × ReadWhatWasLeft t (unwrap_or (written t u) v) us

-- Each live read has what the live accesses of its cell before it left.
abbrev pub ReadsAreRight : List Node → (first : List ℤ) → Type 0
ReadsAreRight t first = (c : ℕ) (v : ℤ) → slice_get first c ≡ Some v → ReadWhatWasLeft t v (live_accesses t c)
