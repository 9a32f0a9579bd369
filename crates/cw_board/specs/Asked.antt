-- Tokens that read words of the table: what they noted, what they heard, and a pass in which the tier moved.
use Rattle.std.specs.Prelude.{◌≡◌, ◌⊎◌, ℕ, ◌-◌, ◌%◌, ◌++◌, List, length, take, Option, Some, None}
use Rattle.std.specs.Borrow.{MutBor}
use Rattle.cw_trace.specs.Told.{Read, Answer}
use Rattle.cw_steps.specs.declared.places.Place.{Place}
use Rattle.cw_steps.specs.declared.table.StrandToken.{StrandToken}
use Rattle.cw_steps.specs.declared.view.WordNote.{WordNote}
use Rattle.cw_steps.specs.Passes.{IsHeard, IsNotedBetween, ToldBy}
use Rattle.cw_steps.specs.Stands.{token_of}
use Rattle.cw_steps.specs.Views.{held_by, view_of, IsTokenOf}
use Rattle.cw_board.specs.declared.asking.Moved.{Moved}
use Rattle.cw_board.specs.declared.board.Board.{Board}
use Rattle.cw_board.specs.Boards.{cells_in, columns_of}

-- the notes of `u` are those of `t` and newer ones
abbrev pub HasNoted : (t u : StrandToken) → Type 0
HasNoted t u = (more : List WordNote) × ((view_of u).notes ≡ more ++ (view_of t).notes)

-- the notes that the token made since it was `t`, newest first
abbrev pub noted_since : (t u : StrandToken) → List WordNote
noted_since t u = take (length (view_of u).notes - length (view_of t).notes) (view_of u).notes

-- since it was `t`, the token only read words
pub record HasRead (t u : StrandToken) : Type 0 where
  pub notes : List WordNote
  pub me : u.seat.me ≡ (record (view_of t) { notes = notes ++ (view_of t).notes }, held_by t)
  pub table : u.seat.table_id ≡ t.seat.table_id
  pub track : u.track ≡ t.track
  pub token : token_of u ≡ token_of t

-- ## One reader

-- the token as it was lent, and the numbers of cells and columns
pub record Question : Type 0 where
  pub token : MutBor StrandToken
  pub cells : ℕ
  pub columns : ℕ

abbrev pub HeardFor : Option Question → StrandToken → Place → ℕ → Type 0
HeardFor None u p n = ⊥
HeardFor (Some q) u p n = IsHeard q.cells q.columns (noted_since q.token.now u) p n

abbrev pub ToldFor : Option Question → StrandToken → Read → Answer → Type 0
ToldFor None u r a = ⊥
ToldFor (Some q) u r a = ToldBy q.cells q.columns (noted_since q.token.now u) r a

-- It reads what the question is about, for the token that was lent. That token only read words since.
pub record IsReading (q : Question) (b : Board) (lent : MutBor StrandToken) : Type 0 where
  pub name : lent.ghost_name ≡ q.token.ghost_name
  pub read : HasRead q.token.now lent.now
  pub table : IsTokenOf b.shared lent.now
  pub cells : cells_in b ≡ q.cells
  pub columns : columns_of b ≡ q.columns

abbrev pub ReadsFor : Option Question → Board → MutBor StrandToken → Type 0
ReadsFor None b lent = ⊥
ReadsFor (Some q) b lent = IsReading q b lent

-- ## A pass in which the tier moved

-- words were heard between two loads of the version, and the first was odd or the two differ
pub record HasMoved (cells : ℕ) (before after : List WordNote) (m : Moved) : Type 0 where
  pub heard : List WordNote
  pub noted : IsNotedBetween cells m.before m.after heard before after
  pub moved : (m.before % 2 ≡ 1) ⊎ (m.before ≡ m.after → ⊥)
