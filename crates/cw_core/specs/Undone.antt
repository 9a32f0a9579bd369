-- Which entries of cells are undone.
use Rattle.std.specs.Prelude.{◌≡◌, ◌⊎◌, ℕ, ◌≤◌, Bool, true, false, not, nat_lt, List, [], ◌∷◌, length, filter, slice_get, Option, Some, None, Contains, if◌then◌else◌}
use Rattle.cw_tree.specs.declared.node.Node.{Node}
use Rattle.cw_tree.specs.declared.node.Kind.{Kind}
use Rattle.cw_tree.specs.declared.node.Kind.TheVariants.{Read, Write}
use Rattle.cw_tree.specs.declared.access.Entry.{Entry}
use Rattle.cw_tree.specs.Nodes.{stamp_of, touches, is_pending}
use Rattle.cw_tree.specs.Walks.{is_above}
use Rattle.cw_tree.specs.Accesses.{is_live}
use Rattle.cw_tree.specs.AccessStacks.{stamps, access_at}
use Rattle.cw_stack.specs.Cells.{CellParts}

-- the cell that a node of this kind reads or writes
abbrev pub accessed : Kind → Option ℕ
accessed (Read c v) = Some c
accessed (Write c v) = Some c
accessed _ = None

-- the entries before a stamp
abbrev pub before_stamp : ℕ → List Entry → List Entry
before_stamp stamp es = filter (λ e. nat_lt e.mark.stamp stamp) es

-- if the list has an entry with this stamp or a later one, it has one with this stamp
abbrev pub HasIfLater : ℕ → List Entry → Type 0
HasIfLater stamp es = (i : ℕ) (e : Entry) → slice_get es i ≡ Some e → stamp ≤ e.mark.stamp → Contains (stamps es) stamp

-- access n can be undone in its cell, or has been undone
abbrev pub MayCut : List Node → ℕ → List CellParts → Type 0
MayCut t n cells = (c : ℕ) → touches t c n ≡ true → (x : CellParts) × (slice_get cells c ≡ Some x) × (x.cleaned ≡ 0) × HasIfLater (stamp_of t n) x.entries

-- the entries of cell c without that of node n and those after it
abbrev pub cut_entries : List Node → (n c : ℕ) → List Entry → List Entry
cut_entries t n c es = if touches t c n then before_stamp (stamp_of t n) es else es

-- cell y is cell x with the entries es left
pub record IsLeftWith (x y : CellParts) (es : List Entry) : Type 0 where
  pub first : y.first ≡ x.first
  pub cleaned : y.cleaned ≡ x.cleaned
  pub entries : y.entries ≡ es

-- access n is undone in its cell, and the other cells are as before
pub record AreCut (t : List Node) (n : ℕ) (old new : List CellParts) : Type 0 where
  pub len : length new ≡ length old
  pub each : (c : ℕ) (y : CellParts) → slice_get new c ≡ Some y → (x : CellParts) × (slice_get old c ≡ Some x) × IsLeftWith x y (cut_entries t n c x.entries)

-- ## All that was done beneath a block

abbrev pub Among : Entry → List Entry → Type 0
Among e [] = ⊥
Among e (x ∷ xs) = (e ≡ x) ⊎ Among e xs

-- the entry is that of an access beneath block b
abbrev pub is_beneath : List Node → ℕ → Entry → Bool
is_beneath t b e = is_above t b (access_at t e.mark.stamp)

-- what cells keep of a tree whose pending block b is to be undone
pub record MayUndo (t : List Node) (b : ℕ) (cells : List CellParts) : Type 0 where
  pub pending : is_pending t b ≡ true
  pub lives : is_live t b ≡ true
  pub whole : (c : ℕ) (x : CellParts) → slice_get cells c ≡ Some x → x.cleaned ≡ 0
  -- each live access beneath the block has its entry
  pub listed : (c n : ℕ) → touches t c n ≡ true → is_live t n ≡ true → is_above t b n ≡ true → (x : CellParts) × (slice_get cells c ≡ Some x) × (e : Entry) × Among e x.entries × (e.mark.stamp ≡ stamp_of t n)
  -- each entry is that of a live access of its cell
  pub accesses : (c : ℕ) (x : CellParts) (e : Entry) → slice_get cells c ≡ Some x → Among e x.entries → (touches t c (access_at t e.mark.stamp) ≡ true) × (stamp_of t (access_at t e.mark.stamp) ≡ e.mark.stamp) × (is_live t (access_at t e.mark.stamp) ≡ true)
  -- the entries of accesses beneath the block are the last
  pub last : (c : ℕ) (x : CellParts) (e f : Entry) → slice_get cells c ≡ Some x → Among e x.entries → Among f x.entries → e.mark.stamp ≤ f.mark.stamp → is_beneath t b e ≡ true → is_beneath t b f ≡ true
  pub named : (c n : ℕ) → touches t c n ≡ true → access_at t (stamp_of t n) ≡ n

-- exactly the entries of accesses beneath the block are gone
pub record AreUndone (t : List Node) (b : ℕ) (old new : List CellParts) : Type 0 where
  pub len : length new ≡ length old
  pub each : (c : ℕ) (y : CellParts) → slice_get new c ≡ Some y → (x : CellParts) × (slice_get old c ≡ Some x) × IsLeftWith x y (filter (λ e. not (is_beneath t b e)) x.entries)

-- no entry is left of an access beneath the block
abbrev pub NoneBeneath : List Node → ℕ → List CellParts → Type 0
NoneBeneath t b cells = (c : ℕ) (x : CellParts) (e : Entry) → slice_get cells c ≡ Some x → Among e x.entries → is_beneath t b e ≡ false
