-- What a caller sees of an order list.
use Rattle.std.specs.Prelude.{ℕ, ◌==◌, ◌<◌, ◌≡◌, ◌⊎◌, ◌↔◌, Option, Some, None, List, [], ◌∷◌, Contains, filter, not, slice_index, if◌then◌else◌}
use Rattle.std.specs.List.{position_or_len}

pub record Order : Type 0 where
  -- in order
  pub elements : List ℕ
  -- how many elements the list can hold
  pub room : ℕ
  -- the label of each element
  pub labels : List ℕ
  -- the elements that the last insertion gave new labels; 0 may be among them, which is no element
  pub renumbered : List ℕ

-- the list with e right after a
abbrev pub put_after : ℕ → ℕ → List ℕ → List ℕ
put_after a e [] = []
put_after a e (x ∷ xs) = if x == a then x ∷ e ∷ xs else x ∷ put_after a e xs

-- the list with e right after a, or first if no a is given
abbrev pub placed_after : Option ℕ → ℕ → List ℕ → List ℕ
placed_after None e xs = e ∷ xs
placed_after (Some a) e xs = put_after a e xs

-- the list without e
abbrev pub without : ℕ → List ℕ → List ℕ
without e xs = filter (λ x. not (x == e)) xs

-- the number of elements before e
abbrev pub position : List ℕ → ℕ → ℕ
position xs e = position_or_len (λ x. x == e) xs

-- labels rise in the order of the list, and none is 0
pub record LabelsRise (o : Order) : Type 0 where
  pub low : (a : ℕ) → Contains o.elements a → 0 < slice_index o.labels a
  pub order : (a b : ℕ) → Contains o.elements a → Contains o.elements b → (slice_index o.labels a < slice_index o.labels b) ↔ (position o.elements a < position o.elements b)

-- each element has its label as before, if it was not given a new one
abbrev pub LeavesLabels : Order → Order → Type 0
LeavesLabels o p = (a : ℕ) → Contains o.elements a → Contains p.renumbered a ⊎ (slice_index p.labels a ≡ slice_index o.labels a)
