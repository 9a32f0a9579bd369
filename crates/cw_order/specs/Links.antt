-- Lists of places that links keep, and labels that rise along them.
use Rattle.std.specs.Prelude.{ℕ, zero, suc, ◌+◌, ◌≤◌, ◌≡◌, ◌≢◌, List, [], ◌∷◌, slice_index, slice_set}

-- the first k places that `next` leads through, beginning with `at`
abbrev pub walk : List ℕ → ℕ → ℕ → List ℕ
walk next at zero = []
walk next at (suc k) = at ∷ walk next (slice_index next at) k

-- the first of xs, or `beyond` if there is none
abbrev pub first_or : List ℕ → ℕ → ℕ
first_or [] beyond = beyond
first_or (x ∷ xs) beyond = x

-- `next` leads from each place to the one after it, and from the last to `beyond`; `previous` leads back
abbrev pub AreLinked : List ℕ → List ℕ → List ℕ → ℕ → Type 0
AreLinked next previous [] beyond = Unit {0}
AreLinked next previous (x ∷ xs) beyond =
    (slice_index next x ≡ first_or xs beyond) × (slice_index previous (first_or xs beyond) ≡ x) × AreLinked next previous xs beyond

-- each number is at least `gap` below the one after it, and the last at least `gap` below `beyond`
abbrev pub Rise : ℕ → List ℕ → ℕ → Type 0
Rise gap [] beyond = Unit {0}
Rise gap (n ∷ ns) beyond = (n + gap ≤ first_or ns beyond) × Rise gap ns beyond

-- y is not in the list
abbrev pub Lacks : List ℕ → ℕ → Type 0
Lacks [] y = Unit {0}
Lacks (x ∷ xs) y = (x ≢ y) × Lacks xs y

-- no two are the same
abbrev pub AreApart : List ℕ → Type 0
AreApart [] = Unit {0}
AreApart (x ∷ xs) = Lacks xs x × AreApart xs

-- the labels after these places got `base`, `base + gap` and so on
abbrev pub spread_over : List ℕ → ℕ → ℕ → List ℕ → List ℕ
spread_over [] base gap labels = labels
spread_over (x ∷ xs) base gap labels = spread_over xs (base + gap) gap (slice_set labels x base)

-- the links after e was inserted right after `at`
abbrev pub next_with : List ℕ → ℕ → ℕ → List ℕ
next_with next at e = slice_set (slice_set next e (slice_index next at)) at e

abbrev pub previous_with : List ℕ → List ℕ → ℕ → ℕ → List ℕ
previous_with next previous at e = slice_set (slice_set previous e at) (slice_index next at) e

-- the links after e was taken out and linked to `other`
abbrev pub next_without : List ℕ → List ℕ → ℕ → ℕ → List ℕ
next_without next previous e other =
    slice_set (slice_set next (slice_index previous e) (slice_index next e)) e other

abbrev pub previous_without : List ℕ → List ℕ → ℕ → List ℕ
previous_without next previous e =
    slice_set previous (slice_index next e) (slice_index previous e)
