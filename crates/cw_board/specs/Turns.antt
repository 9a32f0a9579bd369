-- Turns for which a token waited.
use Rattle.std.specs.Prelude.{◌≡◌, ◌⊎◌, ℕ, ◌+◌, ◌<◌, ◌≤◌, ◌==◌, ◌||◌, Bool, true, false, List, [], ◌∷◌, Some, if◌then◌else◌}
use Rattle.cw_steps.specs.declared.draw.Aim.{Aim}
use Rattle.cw_steps.specs.declared.draw.Home.{Home}
use Rattle.cw_steps.specs.declared.draw.Home.TheVariants as home
use Rattle.cw_steps.specs.declared.places.Place.{Place}
use Rattle.cw_steps.specs.declared.places.Place.TheVariants.{Owner}
use Rattle.cw_steps.specs.declared.table.StrandToken.{StrandToken}
use Rattle.cw_steps.specs.declared.view.Change.{Change}
use Rattle.cw_steps.specs.declared.view.WordNote.{WordNote}
use Rattle.cw_steps.specs.Stands.{drawn_token, token_of}
use Rattle.cw_steps.specs.declared.view.Slot.{Slot}
use Rattle.cw_steps.specs.declared.view.View.{View}
use Rattle.cw_steps.specs.declared.draw.Draw.TheVariants as draw
use Rattle.cw_steps.specs.Tracks.{drawn, track_of}
use Rattle.cw_stack.specs.Cells.{CellParts}
use Rattle.cw_trace.specs.Columns.{ColumnTable, is_trace, used}
use Rattle.cw_trace.specs.Labels.{AreLabels}
use Rattle.cw_trace.specs.Touched.{TouchedAreListed}
use Rattle.cw_trace.specs.Traces.{Traces}
use Rattle.cw_steps.specs.Homes.{IsAsItLay}
use Rattle.cw_steps.specs.Places.{places_of_column}
use Rattle.cw_steps.specs.Views.{drew_view, gave_view, held_by, key_of, newest_aim, newest_cell, newest_slot, newest_used, older, view_of, with_change, CanFork, IsTierOf, IsTokenOf, TakesIt}
use Rattle.cw_board.specs.Boards.{columns_of, IsOf}
use Rattle.cw_log.specs.declared.board.Forked.{Forked}
use Rattle.cw_log.specs.declared.board.Forked.TheVariants.{Two, Inline}
use Rattle.cw_board.specs.declared.board.Board.{Board}

-- the token found turns taken, and did nothing else
pub record HasWaited (t t' : StrandToken) : Type 0 where
  pub notes : List WordNote
  pub me : t'.seat.me ≡ (record (view_of t) { notes = notes }, held_by t)
  pub track : t'.track ≡ t.track
  pub stop : t'.stop ≡ t.stop
  pub token : token_of t' ≡ token_of t

-- it found turns taken, and then took the turn of slot `n`
pub record HasTaken (b : Board) (aim : Aim) (n : ℕ) (t t' : StrandToken) : Type 0 where
  pub notes : List WordNote
  pub takes : TakesIt (key_of b.shared) aim n (record (view_of t) { notes = notes }, held_by t) t'.seat.me
  pub track : t'.track ≡ t.track
  pub stop : t'.stop ≡ t.stop
  pub token : token_of t' ≡ token_of t

-- the view without its turns, the newest number that it knows, and its notes
abbrev pub at_rest : View → View
at_rest v = record v { turns = []; seen = 0; notes = [] }

-- The token has the turn of slot `n` and no other, and `y` lies there now. It was `t`, a token of this board, and since then only
-- waited for that turn.
pub record IsHolding (b : Board) (n : ℕ) (y : Slot) (t u : StrandToken) : Type 0 where
  pub was : IsOf b t
  pub table : IsTokenOf b.shared u
  pub turn : newest_slot (view_of u).turns ≡ Some n
  pub alone : older (view_of u).turns ≡ []
  pub slots : held_by u ≡ (n, y) ∷ []
  pub later : (view_of t).seen ≤ (view_of u).seen
  pub rest : at_rest (view_of u) ≡ at_rest (view_of t)
  pub track : u.track ≡ t.track
  pub token : token_of u ≡ token_of t

-- It has the turn of the tier, whose columns in use are as many as that turn says. Its own column and gap are among them.
pub record HasTier (b : Board) (y : Slot) (u : StrandToken) : Type 0 where
  pub few : newest_used (view_of u).turns ≤ columns_of b
  pub column : (view_of u).column < newest_used (view_of u).turns
  pub gap : (view_of u).gap < newest_used (view_of u).turns
  pub whole : IsTierOf (columns_of b) (newest_used (view_of u).turns) y

-- It has the cell that lay in the slot of its newest turn; only the room may differ. It took that turn for `a`.
pub record HasCell (a : Aim) (x : CellParts) (u : StrandToken) : Type 0 where
  pub lay : CellParts
  pub aim : newest_aim (view_of u).turns ≡ a
  pub there : newest_cell (view_of u).turns ≡ Some lay
  pub same : IsAsItLay lay x

-- what the strand tells belongs to the tier's turn
abbrev pub IsOfTier : Home → Type 0
IsOfTier (home.Refused c) = ⊥
IsOfTier home.Plain = Unit {0}
IsOfTier (home.Split fork used) = Unit {0}
IsOfTier (home.Merge fork used) = Unit {0}
IsOfTier (home.Inline used) = Unit {0}
IsOfTier (home.Early before used) = Unit {0}

-- ## Changes of the tier

-- Each column that names no trace was in use and named none before, or is one of the two of the fork.
abbrev pub UnnamedAsBefore : (fork : ℕ) → (lay come : ColumnTable) → Type 0
UnnamedAsBefore f c d = (i : ℕ) → i < used d → is_trace d i ≡ false → (i ≡ f) ⊎ (i ≡ f + 1) ⊎ ((i < used c) × (is_trace c i ≡ false))

-- A call made, split or merged the fork, and made `come` of the tier that lay there: the labels go in the order of the marks, each
-- column whose row it changed is listed, and only those of the fork may have ceased to name a trace.
pub record IsChanged (fork : ℕ) (lay come : Traces) : Type 0 where
  pub labels : AreLabels come.columns come.labels
  pub touched : TouchedAreListed lay come
  pub unnamed : UnnamedAsBefore fork lay.columns come.columns

abbrev pub is_of_fork : (fork column : ℕ) → Bool
is_of_fork f i = (i == f) || (i == f + 1)

-- the words of a column's row that such a change may have changed: the owner alone, if the column is not of the fork and names no
-- trace
abbrev pub places_changed : (fork : ℕ) → ColumnTable → (column : ℕ) → List Place
places_changed f c i = if is_of_fork f i || is_trace c i then places_of_column i else Owner i ∷ []

-- It showed the rows of the tier `come` while it had the tier's turn, and the version is even again.
pub record HasShown (b : Board) (come : Traces) (u u' : StrandToken) : Type 0 where
  pub change : Change
  pub comes : change.come ≡ come
  pub even : change.even ≡ true
  pub table : IsTokenOf b.shared u'
  pub view : view_of u' ≡ record (view_of u) { turns = with_change (Some change) (view_of u).turns }
  pub slots : held_by u' ≡ held_by u
  pub track : u'.track ≡ u.track
  pub stop : u'.stop ≡ u.stop
  pub token : token_of u' ≡ token_of u

-- ## Forks

-- nothing but the turn comes home
abbrev pub BringsNothing : Home → Type 0
BringsNothing home.Plain = Unit {0}
BringsNothing (home.Inline used) = Unit {0}
BringsNothing (home.Refused c) = ⊥
BringsNothing (home.Split fork used) = ⊥
BringsNothing (home.Merge fork used) = ⊥
BringsNothing (home.Early before used) = ⊥

-- it drew a fork's number while it had the tier's turn, and gave that turn back
pub record HasForked (b : Board) (left right gap stamp : ℕ) (u u' : StrandToken) : Type 0 where
  pub table : IsTokenOf b.shared u'
  pub later : (view_of u).seen < stamp
  pub fits : CanFork (key_of b.shared) (view_of u) left right gap
  pub view : view_of u' ≡ gave_view home.Plain (drew_view (draw.Fork left right gap) u.track.behind u.track.second stamp (view_of u))
  pub slots : held_by u' ≡ []
  pub track : track_of u'.track ≡ drawn (draw.Fork left right gap) stamp (track_of u.track)
  pub token : token_of u' ≡ drawn_token (draw.Fork left right gap) stamp (token_of u)
  pub room : u'.track.room ≡ u.track.room

-- the tokens that come of a fork are tokens of this board
abbrev pub AreOf : Board → Forked StrandToken → Type 0
AreOf b (Two fork left right) = IsOf b left × IsOf b right
AreOf b (Inline token) = IsOf b token
