-- What a caller sees of a list of columns.
use Rattle.std.specs.Prelude.{ℕ, ◌≡◌, ◌<◌, ◌/◌, ◌⊎◌, true, List, slice_index}
use Rattle.cw_tree.specs.Walks.{has}

pub record Listing : Type 0 where
  pub columns : List ℕ
  -- how many columns are in use, and how many there can be
  pub used : ℕ
  pub room : ℕ

-- what is listed stays so
pub record Grows (a b : Listing) : Type 0 where
  pub used : b.used ≡ a.used
  pub room : b.room ≡ a.room
  pub kept : (i : ℕ) → has a.columns i ≡ true → has b.columns i ≡ true

-- each of these marks has its label as before, or its column is listed
abbrev pub KeepsLabels : (marks : List ℕ) → Listing → (old new : List ℕ) → Type 0
KeepsLabels marks t old new = (m : ℕ) → has marks m ≡ true → m / 2 < t.used → (has t.columns (m / 2) ≡ true) ⊎ (slice_index new m ≡ slice_index old m)
