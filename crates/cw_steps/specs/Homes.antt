-- What comes home when a turn is given back. A tier comes as it lay, with the columns that were drawn since, except for what `Home`
-- tells. A cell comes with the access that was drawn since, or with some of its newest entries undone.
use Rattle.std.specs.Prelude.{◌≡◌, ◌⊎◌, ℕ, ◌+◌, ◌<◌, ◌%◌, nat_lt, Bool, true, false, filter, Option, Some, None, IsSomeAnd}
use Rattle.cw_log.specs.declared.token.Phase.{Phase}
use Rattle.cw_log.specs.declared.token.Phase.TheVariants.{Parted}
use Rattle.cw_stack.specs.Cells.{CellParts}
use Rattle.cw_trace.specs.Columns.{ColumnTable}
use Rattle.cw_trace.specs.Columns as columns
use Rattle.cw_trace.specs.Traces.{Traces}
use Rattle.cw_steps.specs.declared.draw.Aim.{Aim}
use Rattle.cw_steps.specs.declared.draw.Aim.TheVariants as aims
use Rattle.cw_steps.specs.declared.draw.Home.{Home}
use Rattle.cw_steps.specs.declared.draw.Home.TheVariants as home
use Rattle.cw_steps.specs.declared.table.StrandToken.{StrandToken}
use Rattle.cw_steps.specs.declared.view.Change.{Change}
use Rattle.cw_steps.specs.declared.view.Key.{Key}
use Rattle.cw_steps.specs.declared.view.Slot.{Slot}
use Rattle.cw_steps.specs.declared.view.Slot.TheVariants as slot
use Rattle.cw_steps.specs.Views.{newest_aim, newest_cell, newest_change, newest_tier, newest_used, view_of, Holding, IsWhole}
use Rattle.cw_steps.specs.Words.{AreSameRows}

-- in these columns, `f` is the left column of a fork that is split, or of one that is not
abbrev pub IsForkThere : (split : Bool) → ColumnTable → (fork : ℕ) → Type 0
IsForkThere split c f = (f < columns.used c) × (f % 2 ≡ 1) × (columns.is_trace c f ≡ split)

-- the fork was not split and could be split, and now it is
pub record IsSplitNow (fork : ℕ) (lay come : ColumnTable) : Type 0 where
  pub whole : IsForkThere false lay fork
  pub first : columns.before_split lay fork ≡ None
  pub now : come ≡ columns.split_at fork lay

-- Nothing changed. If the fork was there and not split, `before` is the next fork outward, which has to be split first.
pub record IsTooEarly (fork before : ℕ) (lay come : ColumnTable) : Type 0 where
  pub next : IsForkThere false lay fork → columns.before_split lay fork ≡ Some before
  pub same : come ≡ lay

-- the fork was split and its traces are now merged; or it was not split, and nothing changed
pub record IsMergedNow (fork : ℕ) (lay come : ColumnTable) : Type 0 where
  pub now : IsForkThere true lay fork → come ≡ columns.merged fork lay
  pub same : (IsForkThere true lay fork → ⊥) → come ≡ lay

-- What may be told with the tier's turn by a strand that began with fork `f`, has phase `p` and took the turn for `a`. It tells as
-- many columns as there are. It tells an inline fork only if there is no room for two more columns, and a split or a merge only of
-- its own fork.
abbrev pub Brings : (fork : ℕ) → Phase → Aim → Home → (lay come : ColumnTable) → Type 0
Brings f p a home.Plain c d = d ≡ c
Brings f p a (home.Refused k) c d = ⊥
Brings f p a (home.Inline used) c d = (used ≡ columns.used c) × (c.room < used + 2) × (d ≡ c)
Brings f p a (home.Split g used) c d = (a ≡ aims.Split) × (g ≡ f) × (used ≡ columns.used c) × IsSplitNow g c d
Brings f p a (home.Early before used) c d = (a ≡ aims.Split) × (used ≡ columns.used c) × IsTooEarly f before c d
Brings f p a (home.Merge g used) c d = (a ≡ aims.Merge) × (p ≡ Parted g) × (used ≡ columns.used c) × IsMergedNow g c d

-- what the slot holds now may come home, if this tier lay there
abbrev pub ComesHome : (fork : ℕ) → Phase → Aim → Home → (lay : Option Traces) → Slot → Type 0
ComesHome f p a m lay (slot.Tier x) = IsSomeAnd lay (λ y. Brings f p a m y.columns x.columns)
ComesHome f p a m lay (slot.Cell x) = Unit {0}
ComesHome f p a m lay slot.Empty = Unit {0}

-- the entries are those that lay there, and as many of the oldest are cleaned
abbrev pub IsAsItLay : (lay come : CellParts) → Type 0
IsAsItLay c d = (d.first ≡ c.first) × (d.entries ≡ c.entries) × (d.cleaned ≡ c.cleaned)

-- the entries are those that lay there with stamps smaller than `stamp`, and no more of them are cleaned than were
pub record IsCutBack (lay come : CellParts) : Type 0 where
  pub stamp : ℕ
  pub first : come.first ≡ lay.first
  pub entries : come.entries ≡ filter (λ e. nat_lt e.mark.stamp stamp) lay.entries
  pub cleaned : come.cleaned ≡ lay.cleaned

abbrev pub LeavesCell : Aim → (lay come : CellParts) → Type 0
LeavesCell aims.Undo c d = IsAsItLay c d ⊎ IsCutBack c d
LeavesCell aims.Access c d = IsAsItLay c d
LeavesCell aims.Look c d = IsAsItLay c d
LeavesCell aims.Fork c d = IsAsItLay c d
LeavesCell aims.Split c d = IsAsItLay c d
LeavesCell aims.Merge c d = IsAsItLay c d

-- with a cell's turn a strand tells nothing, or a refused access of that cell
abbrev pub IsOfCell : (cell : ℕ) → Home → Type 0
IsOfCell n home.Plain = Unit {0}
IsOfCell n (home.Refused k) = k.cell ≡ n
IsOfCell n (home.Inline used) = ⊥
IsOfCell n (home.Split g used) = ⊥
IsOfCell n (home.Early before used) = ⊥
IsOfCell n (home.Merge g used) = ⊥

-- what the slot holds now may come home, if this cell lay there
abbrev pub CellComesHome : (cell : ℕ) → Home → Aim → (lay : Option CellParts) → Slot → Type 0
CellComesHome n m a lay (slot.Cell x) = IsOfCell n m × IsSomeAnd lay (λ y. LeavesCell a y x)
CellComesHome n m a lay (slot.Tier x) = Unit {0}
CellComesHome n m a lay slot.Empty = Unit {0}

-- What the slot holds now is what the words show: the tier that lay there with the same rows, or the one to which a change has
-- come.
abbrev pub IsAsShown : (lay : Option Traces) → Option Change → Slot → Type 0
IsAsShown lay None (slot.Tier x) = IsSomeAnd lay (λ y. AreSameRows y x)
IsAsShown lay (Some ch) (slot.Tier x) = (ch.even ≡ true) × AreSameRows ch.come x
IsAsShown lay o (slot.Cell x) = Unit {0}
IsAsShown lay o slot.Empty = Unit {0}

-- The newest turn is that of slot `n`. What lies there is whole, and may come home with `m`.
pub record MayGive (key : Key) (t : StrandToken) (n : ℕ) (m : Home) : Type 0 where
  pub lies : Slot
  pub held : Holding t n lies
  pub whole : IsWhole key (view_of t).seen (newest_used (view_of t).turns) n lies
  pub tier : ComesHome (view_of t).fork (view_of t).phase (newest_aim (view_of t).turns) m (newest_tier (view_of t).turns) lies
  pub cell : CellComesHome n m (newest_aim (view_of t).turns) (newest_cell (view_of t).turns) lies
  pub shown : IsAsShown (newest_tier (view_of t).turns) (newest_change (view_of t).turns) lies
