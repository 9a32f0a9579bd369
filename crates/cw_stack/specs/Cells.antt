-- What contracts see of a cell: its first value, its entries (oldest first), how many of the oldest were cleaned, and its room.
use Rattle.std.specs.Prelude.{◌≡◌, ℕ, ◌-◌, ◌<◌, ◌≤◌, ℤ, List, [], ◌∷◌, ◌++◌, length, map, filter, find, take, drop, slice_get, Option, Some, is_some, unwrap_or, false, IsTrue}
use Rattle.std.specs.List.Sorted.{IsStrictlyIncreasing}
use Rattle.cw_tree.specs.declared.node.Node.{Node}
use Rattle.cw_tree.specs.declared.access.Mark.{Mark}
use Rattle.cw_tree.specs.declared.access.Entry.{Entry}
use Rattle.cw_tree.specs.Nodes.{is_pending, stamp_of, fresh_node}
use Rattle.cw_tree.specs.Walks.{IsRooted, is_above}
use Rattle.cw_tree.specs.Accesses.{cell_value, written}
use Rattle.cw_tree.specs.Cancels.{before_block}
use Rattle.cw_tree.specs.AccessStacks.{newest_conflicts, access_kind, written_by, stamps, IsAccessStack}

pub record CellParts : Type 0 where
  pub first : ℤ
  pub entries : List Entry
  pub cleaned : ℕ
  pub room : ℕ

-- the cell's value: what its entries make of the first value
abbrev pub entries_value : CellParts → ℤ
entries_value c = cell_value c.first (map written_by c.entries)

-- the newest entry
abbrev pub newest_entry : List Entry → Option Entry
newest_entry es = slice_get es (length es - 1)

-- the entry of an access that found value v
abbrev pub entry_of : Mark → Option ℤ → ℤ → Entry
entry_of mark write v = record { mark = mark; wrote = is_some write; value = unwrap_or write v; old = v }

-- ## What is true of every cell

-- each entry has the value that those before it made of v, and the value that it leaves
abbrev pub AreSteps : ℤ → List Entry → Type 0
AreSteps v [] = Unit {0}
AreSteps v (e ∷ es) = (e.old ≡ v) × (e.value ≡ unwrap_or (written_by e) v) × AreSteps (unwrap_or (written_by e) v) es

-- the first value of a cell with value v and these entries: the value that the oldest entry found
abbrev pub first_value : ℤ → List Entry → ℤ
first_value v [] = v
first_value v (e ∷ es) = e.old

-- how the fields of every cell fit together
pub record IsCellInMemory (now : ℤ) (es : List Entry) (cleaned : ℕ) : Type 0 where
  pub rising : IsStrictlyIncreasing (stamps es)
  pub few : cleaned ≤ length es
  pub steps : AreSteps (first_value now es) es
  pub value : now ≡ cell_value (first_value now es) (map written_by es)

-- ## In a tree

-- An access with a stamp and an answer goes with every tree. If the old entries are those of the cell's accesses, and the newest
-- access does not conflict with one at place p, then the new entries are those of the accesses and the new one at p.
abbrev pub GoesWithTrees : CellParts → CellParts → ℕ → Option ℤ → ℤ → Type 0
GoesWithTrees old new stamp write answer =
    (t : List Node) (c p : ℕ) (us : List ℕ)
    → IsRooted t → p < length t → IsAccessStack t c old.first us old.entries → newest_conflicts t us p ≡ false
    → IsAccessStack (t ++ fresh_node p (access_kind c write answer) stamp ∷ []) c new.first (us ++ length t ∷ []) new.entries

-- a roll goes with every tree: the entries that are left are those of the accesses that are left
abbrev pub StaysWithTrees : CellParts → CellParts → Type 0
StaysWithTrees old new =
    (t : List Node) (c : ℕ) (us : List ℕ)
    → IsAccessStack t c old.first us old.entries → IsAccessStack t c new.first (take (length new.entries) us) new.entries

-- if the stamp is that of the first access beneath a pending block, a roll removes exactly the accesses beneath that block
abbrev pub TakesWhatIsBeneath : CellParts → CellParts → ℕ → Type 0
TakesWhatIsBeneath old new first =
    (t : List Node) (c b n : ℕ) (us : List ℕ)
    → IsRooted t → IsAccessStack t c old.first us old.entries → IsTrue (is_pending t b) → find (is_above t b) us ≡ Some n → stamp_of t n ≡ first
    → drop (length new.entries) us ≡ filter (is_above t b) us

-- if the stamp is that of the first access beneath a block, the value is what the accesses before that one left
abbrev pub TellsWhatWasBefore : CellParts → ℕ → ℤ → Type 0
TellsWhatWasBefore cell first value =
    (t : List Node) (c b n : ℕ) (us : List ℕ)
    → IsAccessStack t c cell.first us cell.entries → find (is_above t b) us ≡ Some n → stamp_of t n ≡ first
    → value ≡ cell_value cell.first (map (written t) (before_block t b us))
