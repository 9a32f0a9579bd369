-- What the words of columns hold, and when a change of the tier is shown.
use Rattle.std.specs.Prelude.{◌≡◌, ◌⊎◌, ℕ, suc, ◌<◌, All, Contains, Option, Some, None}
use Rattle.cw_trace.specs.declared.tier.Row.{Row}
use Rattle.cw_trace.specs.Columns as columns
use Rattle.cw_trace.specs.Labels.{full_row}
use Rattle.cw_trace.specs.Traces.{Traces}
use Rattle.cw_steps.specs.declared.places.Place.{Place}
use Rattle.cw_steps.specs.declared.places.Place.TheVariants.{Gap, Owner, Lead, Up, Opening, Closing, Version}
use Rattle.cw_steps.specs.declared.view.Change.{Change}
use Rattle.cw_steps.specs.Places.{places_of_column, word_of_place}

-- a number plus 1, and 0 for none
abbrev pub as_word : Option ℕ → ℕ
as_word None = 0
as_word (Some n) = suc n

abbrev pub row_of : Traces → (column : ℕ) → Row
row_of x i = full_row x.columns x.labels i

-- the word belongs to the row of column `i`, and this row has the value `n` there
abbrev pub IsInRow : (i : ℕ) → Row → Place → (n : ℕ) → Type 0
IsInRow i r (Owner j) n = (j ≡ i) × (n ≡ r.owner)
IsInRow i r (Lead j) n = (j ≡ i) × (n ≡ as_word r.lead)
IsInRow i r (Up j) n = (j ≡ i) × (n ≡ as_word r.up)
IsInRow i r (Opening j) n = (j ≡ i) × (n ≡ r.opening)
IsInRow i r (Closing j) n = (j ≡ i) × (n ≡ r.closing)
IsInRow i r (Gap j) n = ⊥
IsInRow i r Version n = ⊥

-- the value that a row has for the word at a place of it
abbrev pub row_value : Row → Place → ℕ
row_value r (Owner j) = r.owner
row_value r (Lead j) = as_word r.lead
row_value r (Up j) = as_word r.up
row_value r (Opening j) = r.opening
row_value r (Closing j) = r.closing
row_value r (Gap j) = 0
row_value r Version = 0

-- the column was in use by the tier that lay there, and the word at this place of its row had the same value
abbrev pub IsUntouched : (lay come : Traces) → (column : ℕ) → Place → Type 0
IsUntouched lay come i p = (i < columns.used lay.columns) × (row_value (row_of come i) p ≡ row_value (row_of lay i) p)

-- each word of the row of each column in use of the tier that comes was stored, or did not change
abbrev pub IsStored : (cells limit : ℕ) → (lay : Traces) → Change → Type 0
IsStored cells limit lay ch = (i : ℕ) → i < columns.used ch.come.columns
    → All (λ (p : Place). Contains ch.stored (word_of_place cells limit p) ⊎ IsUntouched lay ch.come i p) (places_of_column i)

-- both tiers show the same words
pub record AreSameRows (x y : Traces) : Type 0 where
  pub used : columns.used x.columns ≡ columns.used y.columns
  pub rows : (i : ℕ) → i < columns.used x.columns → row_of x i ≡ row_of y i
