-- Where the words of the table stand: the clock, a turn for each slot, the stop flag, the version, a gap word for each column; and
-- then, for each column, its owner, and lead, up and the labels of both marks of the trace that it names.
use Rattle.std.specs.Prelude.{ℕ, suc, ◌+◌, ◌*◌, ◌<◌, List, [], ◌∷◌}
use Rattle.cw_steps.specs.declared.places.Place.{Place}
use Rattle.cw_steps.specs.declared.places.Place.TheVariants.{Gap, Owner, Lead, Up, Opening, Closing, Version}

abbrev pub turn_word : (slot : ℕ) → ℕ
turn_word slot = suc slot

abbrev pub stop_word : (cells : ℕ) → ℕ
stop_word cells = cells + 2

abbrev pub version_word : (cells : ℕ) → ℕ
version_word cells = cells + 3

abbrev pub gap_word : (cells gap : ℕ) → ℕ
gap_word cells gap = cells + 4 + gap

-- the words of columns begin here
abbrev pub column_words : (cells columns : ℕ) → ℕ
column_words cells columns = cells + 4 + columns

abbrev pub word_of_place : (cells columns : ℕ) → Place → ℕ
word_of_place cells columns (Gap i) = gap_word cells i
word_of_place cells columns (Owner i) = column_words cells columns + i
word_of_place cells columns (Lead i) = column_words cells columns + columns + i
word_of_place cells columns (Up i) = column_words cells columns + 2 * columns + i
word_of_place cells columns (Opening i) = column_words cells columns + 3 * columns + i
word_of_place cells columns (Closing i) = column_words cells columns + 4 * columns + i
word_of_place cells columns Version = version_word cells

-- the number of words
abbrev pub all_words : (cells columns : ℕ) → ℕ
all_words cells columns = column_words cells columns + 5 * columns

-- the word is one of a table with this many columns
abbrev pub IsThere : (columns : ℕ) → Place → Type 0
IsThere columns (Gap i) = i < columns
IsThere columns (Owner i) = i < columns
IsThere columns (Lead i) = i < columns
IsThere columns (Up i) = i < columns
IsThere columns (Opening i) = i < columns
IsThere columns (Closing i) = i < columns
IsThere columns Version = Unit {0}

-- the words of the row of column `i`
abbrev pub places_of_column : (i : ℕ) → List Place
places_of_column i = Owner i ∷ Lead i ∷ Up i ∷ Opening i ∷ Closing i ∷ []
