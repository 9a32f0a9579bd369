-- Boards and their tokens.
use Rattle.std.specs.Prelude.{◌≡◌, ℕ, ℤ, ◌+◌, ◌<◌, ◌≤◌, ◌==◌, true, All, List, [], length, slice_get, Some, if◌then◌else◌}
use Rattle.std.specs.List.Sorted.{IsStrictlyIncreasing}
use Rattle.atomic_table.specs.Seated.{TableId}
use Rattle.cw_steps.specs.declared.table.StrandToken.{StrandToken}
use Rattle.cw_steps.specs.declared.view.Whereabouts.{Whereabouts}
use Rattle.cw_tree.specs.declared.access.Entry.{Entry}
use Rattle.cw_tree.specs.AccessStacks.{stamps}
use Rattle.cw_tree.specs.Nodes.{stamp_of}
use Rattle.cw_stack.specs.Cells.{AreSteps}
use Rattle.cw_steps.specs.Tracks.{TrackParts, HasRoom}
use Rattle.cw_steps.specs.Stands.{token_of}
use Rattle.cw_steps.specs.Views.{cells_of, held_by, key_of, view_of}
use Rattle.cw_board.specs.declared.board.Board.{Board}
use Rattle.cw_board.specs.Sound.{IsSoundToken}

abbrev pub cells_in : Board → ℕ
cells_in b = cells_of (key_of b.shared)

-- the most attempts that a block or an access may have
abbrev pub budget_of : Board → ℕ
budget_of b = (key_of b.shared).aborts

abbrev pub columns_of : Board → ℕ
columns_of b = (key_of b.shared).columns

-- which table the board has
abbrev pub table_of : Board → TableId
table_of b = b.shared.table.shared.table_id

-- The word of the token's gap shows a block: the one that it showed before, otherwise the one in the token's place now.
abbrev pub IsBlockShown : (before after : TrackParts) → Type 0
IsBlockShown c d = d.word ≡ (if c.word == 0 then stamp_of d.own.nodes d.place else c.word)

-- the word shows no block if the block that it showed was closed
abbrev pub IsHidden : (before after : TrackParts) → Type 0
IsHidden c d = d.word ≡ (if c.word == stamp_of c.own.nodes c.place then 0 else c.word)

-- any table, for type parameters that nobody chose; each run picks its own
abbrev pub no_table : TableId
no_table = record { words = 0; slots = 0; views_name = 0; atom = 0; block = 0; offset = 0; slot_names = [] }

-- what a named board shows: the number of its cells, and the most attempts that a block or an access may have
pub record Extent : Type 0 where
  pub cells : ℕ
  pub budget : ℕ

-- Entries that may be those of one cell, with some first value: their stamps rise, and each has the value that those before it
-- left.
pub record IsOfOneCell (es : List Entry) : Type 0 where
  pub first : ℤ
  pub rising : IsStrictlyIncreasing (stamps es)
  pub steps : AreSteps first es

-- one list of entries for each cell
pub record AreOfCells (cells : ℕ) (js : List (List Entry)) : Type 0 where
  pub many : length js ≡ cells
  pub each : (n : ℕ) (es : List Entry) → slice_get js n ≡ Some es → IsOfOneCell es

-- A token between two calls, at this table with `columns` columns. It has no turn. The gaps that it and the strands that wait use
-- exist. It owns a column for each of its logs.
pub record IsAt (id : TableId) (columns : ℕ) (t : StrandToken) : Type 0 where
  pub table : t.seat.table_id ≡ id
  pub here : (view_of t).here ≡ true
  pub turns : (view_of t).turns ≡ []
  pub slots : held_by t ≡ []
  pub gap : (view_of t).gap < columns
  pub gaps : All (λ (o : Whereabouts). o.gap < columns) (view_of t).outer
  pub room : HasRoom t.track
  pub lists : length (token_of t).joined + 1 ≤ (view_of t).owns
  pub sound : IsSoundToken (token_of t) (view_of t).room (view_of t).seen

-- a token of this board
abbrev pub IsOf : Board → StrandToken → Type 0
IsOf b t = IsAt (table_of b) (columns_of b) t
