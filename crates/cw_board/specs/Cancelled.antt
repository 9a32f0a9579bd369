-- What a cancel puts back, out of what it found in cells.
use Rattle.std.specs.Prelude.{◌≡◌, ℕ, ℤ, Bool, All, List, filter, map}
use Rattle.cw_code.specs.declared.Back.{Back}
use Rattle.cw_log.specs.declared.token.Token.{Token}
use Rattle.cw_stack.specs.Cells.{CellParts, entries_value}
use Rattle.cw_steps.specs.declared.draw.Aim.TheVariants as aims
use Rattle.cw_steps.specs.declared.table.StrandToken.{StrandToken}
use Rattle.cw_steps.specs.declared.view.Slot.TheVariants as slot
use Rattle.cw_steps.specs.Beneath.{entries_before, is_written_beneath, AreWrittenBeneath}
use Rattle.cw_steps.specs.Leaving.{HasReturned}
use Rattle.cw_steps.specs.Stands.{token_of}
use Rattle.cw_board.specs.declared.board.Board.{Board}
use Rattle.cw_board.specs.Boards.{cells_in}
use Rattle.cw_board.specs.Turns.{HasCell, IsHolding}

-- a look at a cell: what lay there
pub record Look : Type 0 where
  pub cell : ℕ
  pub lay : CellParts

-- Since it was `t`, the token took turns and gave them back, and then took that of the cell to look, and this lay there.
pub record HasLookedAt (b : Board) (t : StrandToken) (l : Look) : Type 0 where
  pub before : StrandToken
  pub during : StrandToken
  pub returned : HasReturned t.seat.me before.seat.me
  pub holding : IsHolding b l.cell slot.Empty before during
  pub found : HasCell aims.Look l.lay during

-- an entry that lay there is a write beneath the token's place
abbrev pub has_written : Token → Look → Bool
has_written x l = is_written_beneath x l.cell l.lay.entries

-- the cell's value before the first entry that is an access beneath the token's place
abbrev pub value_before : Token → (cell : ℕ) → CellParts → ℤ
value_before x c y = entries_value (record y { entries = entries_before x c y.entries })

abbrev pub back_at : Token → Look → Back
back_at x l = record { cell = l.cell; value = value_before x l.cell l.lay }

-- Since it was `t`, the token looked at these cells, one after another, and the list has those that were written, with their values
-- from before.
pub record ArePutBack (b : Board) (t : StrandToken) (at : List ℕ) (back : List Back) : Type 0 where
  pub looks : List Look
  pub cells : map (λ (l : Look). l.cell) looks ≡ at
  pub looked : All (HasLookedAt b t) looks
  pub list : back ≡ map (back_at (token_of t)) (filter (has_written (token_of t)) looks)

-- That is so of all cells of the board that the logs say were written beneath the token's place, by rising number.
pub record IsPutBack (b : Board) (t : StrandToken) (back : List Back) : Type 0 where
  pub cells : List ℕ
  pub written : AreWrittenBeneath (token_of t) (cells_in b) cells
  pub put_back : ArePutBack b t cells back
