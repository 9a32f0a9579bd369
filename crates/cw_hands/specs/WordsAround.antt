-- The word of the gap of a strand that goes on shows no block, or one around its place. With this word the strand waits once it forks.
use Rattle.std.specs.Prelude.{◌≡◌, ◌⊎◌, ℕ, IsTrue, Contains, slice_index}
use Rattle.cw_trace.specs.Hands.{gap_at}
use Rattle.cw_open.specs.Around.{begins_at}
use Rattle.cw_hands.specs.Shared.{SharedMoment, goes_on, place_at}
use Rattle.cw_hands.specs.Laws.{OfEachMoment}

-- the word of the gap of strand x is 0, or the begin stamp of a pending block around its place
abbrev pub ShowsAround : SharedMoment → ℕ → Type 0
ShowsAround s x =
    let w = slice_index s.words (gap_at s.columns s.machine.tree (place_at s x)) in
    (w ≡ 0) ⊎ Contains (begins_at s.machine.tree (place_at s x)) w

abbrev pub WordsShowAround : Type 0
WordsShowAround = OfEachMoment (λ s. (x : ℕ) → IsTrue (goes_on s x) → ShowsAround s x)
