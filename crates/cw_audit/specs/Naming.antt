-- Whether the lists of cancels name all that their blocks wrote. For each node there is the nearest block above it that was given up,
-- so that one look tells: what is in the list of one cancel is in the lists of all further out.
use Rattle.std.specs.Prelude.{◌≡◌, ◌⊎◌, ℕ, ℤ, pos, ◌-◌, ◌<◌, ◌&&◌, Bool, IsTrue, IfSome, is_some, List, [], length, map, slice_get, slice_index_or, Option, Some, None, unwrap_or, if◌then◌else◌}
use Rattle.cw_code.specs.declared.Back.{Back}
use Rattle.cw_tree.specs.declared.node.Node.{Node}
use Rattle.cw_tree.specs.declared.node.Kind.{Kind}
use Rattle.cw_tree.specs.declared.node.Kind.TheVariants.{Read, Write}
use Rattle.cw_tree.specs.Nodes.{parent_of, stamp_of, is_block, below}
use Rattle.cw_tree.specs.Shape.{AreStamps}
use Rattle.cw_tree.specs.Journals.{JournalsEnded}
use Rattle.cw_tree.specs.Accesses.{is_live, live_accesses, written}
use Rattle.cw_audit.specs.declared.entries.Survey.{Survey}
use Rattle.cw_audit.specs.Journals.{ReadsAreRight}
use Rattle.cw_audit.specs.Spans.{AreSpans}
use Rattle.cw_audit.specs.Backs.{list_told, value_back}
use Rattle.cw_audit.specs.LiveAccesses.{cell_accessed}

-- ## Lists

-- a list puts something back into cell c
abbrev pub Names : List Back → ℕ → Type 0
Names back c = (i : ℕ) × (e : Back) × (slice_get back i ≡ Some e) × (e.cell ≡ c)

-- Entry e of a list, at place i, is of a cell below k, and that of the entry before it is less.
pub record ComesNext (k : ℕ) (back : List Back) (i : ℕ) (e : Back) : Type 0 where
  pub low : e.cell < k
  pub rises : (d : Back) → 0 < i → slice_get back (i - 1) ≡ Some d → d.cell < e.cell

-- a list rises by cells, which are below k
abbrev pub RisesBelow : ℕ → List Back → Type 0
RisesBelow k back = (i : ℕ) (e : Back) → slice_get back i ≡ Some e → ComesNext k back i e

-- ## Blocks that were given up

abbrev pub is_live_cancel : List Node → ℕ → Bool
is_live_cancel t n = is_live t n && is_some (list_told t n)

-- what node n puts back; nothing if it is no cancel
abbrev pub list_put_back : List Node → ℕ → List Back
list_put_back t n = unwrap_or (list_told t n) []

-- the one that a list has for node n
abbrev pub one_for : List (Option ℕ) → ℕ → Option ℕ
one_for ns n = slice_index_or ns n None

-- For each node the live cancel directly in it. All are directly in blocks, and none has two.
pub record AreLiveCancels (t : List Node) (cancels : List (Option ℕ)) : Type 0 where
  pub len : length cancels ≡ length t
  pub there : (b m : ℕ) → one_for cancels b ≡ Some m → m < length t
  pub each : (m : ℕ) → IsTrue (is_live_cancel t m) → IsTrue (is_block t (parent_of t m)) × (one_for cancels (parent_of t m) ≡ Some m)

-- what is around the children of node q: itself, if it was given up
abbrev pub around_in : (cancels around : List (Option ℕ)) → ℕ → Option ℕ
around_in cancels around q = if is_some (one_for cancels q) then Some q else one_for around q

-- for each node the nearest block above it that was given up
pub record AreAround (t : List Node) (cancels around : List (Option ℕ)) : Type 0 where
  pub len : length around ≡ length t
  pub there : (n b : ℕ) → one_for around n ≡ Some b → b < length t
  pub each : (n : ℕ) → 0 < n → n < length t → one_for around n ≡ around_in cancels around (parent_of t n)

-- the cancel of this block, if there is one, names cell c
abbrev pub NamesIn : List Node → (cancels : List (Option ℕ)) → Option ℕ → ℕ → Type 0
NamesIn t cancels b c = IfSome b (λ p. IfSome (one_for cancels p) (λ m. Names (list_put_back t m) c))

-- Node n came after the block around it was given up, and the next one further out names cell c.
pub record CameBack (t : List Node) (cancels around : List (Option ℕ)) (n c : ℕ) : Type 0 where
  pub block : ℕ
  pub cancel : ℕ
  pub is_block : one_for around n ≡ Some block
  pub is_cancel : one_for cancels block ≡ Some cancel
  pub later : stamp_of t cancel < stamp_of t n
  pub named : NamesIn t cancels (one_for around block) c

-- cell c is named by the block around node n, or n came after that was given up
abbrev pub IsNamedNear : List Node → (cancels around : List (Option ℕ)) → (n c : ℕ) → Type 0
IsNamedNear t cancels around n c = NamesIn t cancels (one_for around n) c ⊎ CameBack t cancels around n c

-- the same for the cell of node n, if it is a live write
abbrev pub WriteIsNamed : List Node → (cancels around : List (Option ℕ)) → ℕ → Type 0
WriteIsNamed t cancels around n =
    (c : ℕ) → IsTrue (is_live t n) → IsTrue (is_some (written t n)) → cell_accessed t n ≡ Some c → IsNamedNear t cancels around n c

-- ## One list

-- What block b puts back if it is given up at a stamp has this entry.
abbrev pub IsPutBack : List Node → (first : List ℤ) → (b stamp : ℕ) → Back → Type 0
IsPutBack t first b stamp e = value_back t b stamp (slice_index_or first e.cell (pos 0)) (live_accesses t e.cell) ≡ Some e.value

-- the entries of a list are put back by block b, and the next block around b that was given up names their cells
pub record ListFits (t : List Node) (first : List ℤ) (cancels around : List (Option ℕ)) (b stamp : ℕ) (back : List Back) : Type 0 where
  pub rises : RisesBelow (length first) back
  pub right : (i : ℕ) (e : Back) → slice_get back i ≡ Some e → IsPutBack t first b stamp e
  pub named : (i : ℕ) (e : Back) → slice_get back i ≡ Some e → NamesIn t cancels (one_for around b) e.cell

-- the list of the cancel in node b, if there is one, does so
abbrev pub BlockFits : List Node → (first : List ℤ) → (cancels around : List (Option ℕ)) → ℕ → Type 0
BlockFits t first cancels around b = IfSome (one_for cancels b) (λ m. ListFits t first cancels around b (stamp_of t m) (list_put_back t m))

-- ## What an entry is held against

-- the value that a node read or wrote; 0 if it did neither
abbrev pub value_in_kind : Kind → ℤ
value_in_kind (Read c v) = v
value_in_kind (Write c v) = v
value_in_kind _ = pos 0

abbrev pub value_of_node : Option Node → ℤ
value_of_node None = pos 0
value_of_node (Some x) = value_in_kind x.kind

abbrev pub value_told : List Node → ℕ → ℤ
value_told t n = value_of_node (slice_get t n)

-- spans, and the journals of the cells below k; for each node some number
pub record IsSurvey (t : List Node) (k : ℕ) (s : Survey) : Type 0 where
  pub spans : AreSpans t s.spans.first.items s.spans.last.items
  pub journals : s.journals.items ≡ map (live_accesses t) (below k)
  pub latest : length s.latest.items ≡ length t

-- Parts 1 to 3, as far as they are about accesses: stamps rise, live reads are right, and blocks ended in time.
pub record HoldSoFar (t : List Node) (first : List ℤ) : Type 0 where
  pub stamps : AreStamps t
  pub reads : ReadsAreRight t first
  pub ended : JournalsEnded t (length first)
