-- A left strand that goes on and is in no block of its own: the word of its gap shows no block. Until its fork is split, its right
-- strand has the same gap.
use Rattle.std.specs.Prelude.{◌≡◌, ℕ, false, IsTrue, [], ◌∷◌, slice_index}
use Rattle.cw_tree.specs.Series.{children}
use Rattle.cw_trace.specs.Hands.{gap_at}
use Rattle.cw_hands.specs.Shared.{SharedMoment, has_columns, is_split, goes_on, place_at}
use Rattle.cw_hands.specs.Laws.{OfEachMoment}

-- the word of the gap of left strand l shows no block, and neither does that of right strand r, if their fork f is not split
pub record ShowsNone (s : SharedMoment) (f l r : ℕ) : Type 0 where
  pub left : slice_index s.words (gap_at s.columns s.machine.tree l) ≡ 0
  pub right : is_split s f ≡ false → slice_index s.words (gap_at s.columns s.machine.tree r) ≡ 0

abbrev pub IdleShowNone : Type 0
IdleShowNone = OfEachMoment (λ s. (f l r : ℕ) → IsTrue (has_columns s f) → children s.machine.tree f ≡ l ∷ r ∷ [] → IsTrue (goes_on s l) → place_at s l ≡ l → ShowsNone s f l r)
