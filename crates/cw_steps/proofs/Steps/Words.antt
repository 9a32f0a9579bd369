-- Serves `Places`: where a word is written, the others stay.
use Rattle.std.proofs.Common.{◌≡◌, ◌≢◌, ℕ, ◌+◌, ◌<◌, List, length, set, get_or-set_same, get_or-set_other, arith, ap, ◌∙◌}
use Rattle.std.specs.Prelude.{slice_index}
use Rattle.cw_trace.specs.declared.tier.Row.{Row}
use Rattle.cw_steps.specs.declared.places.Place.{Place}
use Rattle.cw_steps.specs.declared.places.Place.TheVariants.{Gap, Owner, Lead, Up, Opening, Closing, Version}
use Rattle.cw_steps.specs.Places.{all_words, word_of_place, IsThere}
use Rattle.cw_steps.specs.Words.{IsInRow}

pub word_here : (words : List ℕ) (i x : ℕ) → i < length words → slice_index (set words i x) i ≡ x
word_here words i x there = get_or-set_same words i x 0 there

pub word_else : (words : List ℕ) (i j x : ℕ) → j ≢ i → slice_index (set words i x) j ≡ slice_index words j
word_else words i j x ne = get_or-set_other words i j x 0 ne

-- each place lies behind the stop word
pub behind_stop : (cells columns : ℕ) (p : Place) → cells + 2 < word_of_place cells columns p
behind_stop cells columns (Gap i) = omega arith
behind_stop cells columns (Owner i) = omega arith
behind_stop cells columns (Lead i) = omega arith
behind_stop cells columns (Up i) = omega arith
behind_stop cells columns (Opening i) = omega arith
behind_stop cells columns (Closing i) = omega arith
behind_stop cells columns Version = omega arith

pub word_there : (cells columns : ℕ) (p : Place) → IsThere columns p → word_of_place cells columns p < all_words cells columns
word_there cells columns (Gap i) low = omega (arith, low)
word_there cells columns (Owner i) low = omega (arith, low)
word_there cells columns (Lead i) low = omega (arith, low)
word_there cells columns (Up i) low = omega (arith, low)
word_there cells columns (Opening i) low = omega (arith, low)
word_there cells columns (Closing i) low = omega (arith, low)
word_there cells columns Version low = omega arith

pub row_there : (columns i : ℕ) (r : Row) (p : Place) (n : ℕ) → i < columns → IsInRow i r p n → IsThere columns p
row_there columns i r (Gap j) n low inside = absurd inside
row_there columns i r (Owner j) n low inside = omega (arith, low, inside.0)
row_there columns i r (Lead j) n low inside = omega (arith, low, inside.0)
row_there columns i r (Up j) n low inside = omega (arith, low, inside.0)
row_there columns i r (Opening j) n low inside = omega (arith, low, inside.0)
row_there columns i r (Closing j) n low inside = omega (arith, low, inside.0)
row_there columns i r Version n low inside = absurd inside

-- the word of a place, as a table with `m` cells and `n` columns finds it
pub place_found : (cells columns m n : ℕ) (p : Place) (word total : ℕ) → word ≡ word_of_place m n p → m ≡ cells → n ≡ columns → total ≡ all_words cells columns → IsThere columns p
    → (word < total) × (cells + 2 < word)
place_found cells columns m n p word total e em en et low =
    let same : word ≡ word_of_place cells columns p = e ∙ ap (λ (k : ℕ). word_of_place k n p) em ∙ ap (λ (k : ℕ). word_of_place cells k p) en in
    (omega (arith, same, et, word_there cells columns p low), omega (arith, same, behind_stop cells columns p))
