-- Passes over the words of the table: what a pass hears, what that answers to a question, and which answers let an access through.
use Rattle.std.specs.Prelude.{◌≡◌, ℕ, zero, suc, ◌^◌, ◌%◌, ◌&&◌, ◌++◌, ◌∷◌, nat_lt, Bool, List, Contains, Option, Some, None}
use Rattle.cw_tree.specs.declared.access.Mark.{Mark}
use Rattle.cw_trace.specs.Told.{Read, Answer, Owner, Lead, Up, Word, Inside, Number, Maybe, Test}
use Rattle.cw_trace.specs.Query.{Gives}
use Rattle.cw_trace.specs.declared.verdict.Verdict.{Verdict}
use Rattle.cw_trace.specs.declared.verdict.Verdict.TheVariants.{Against, Free, Within}
use Rattle.cw_steps.specs.declared.places.Place.{Place}
use Rattle.cw_steps.specs.declared.places.Place.TheVariants as places
use Rattle.cw_steps.specs.declared.view.WordNote.{WordNote}
use Rattle.cw_steps.specs.Places.{version_word, word_of_place, IsThere}

-- ## Words that were heard

-- the word was noted to be `n`
abbrev pub IsHeardAt : (heard : List WordNote) → (word n : ℕ) → Type 0
IsHeardAt heard w n = Contains heard (record { word = w; value = n })

-- the word at a place was noted to be `n`; a place that the table lacks reads as 0
pub record IsHeard (cells columns : ℕ) (heard : List WordNote) (p : Place) (n : ℕ) : Type 0 where
  pub there : IsThere columns p → IsHeardAt heard (word_of_place cells columns p) n
  pub lacks : (IsThere columns p → ⊥) → n ≡ 0

-- the number in the lower half of a word
abbrev pub low_half : ℕ → ℕ
low_half n = n % 2 ^ 32

-- the number that a word holds plus 1, and none if the word is 0
abbrev pub word_number : ℕ → Option ℕ
word_number zero = None
word_number (suc n) = Some (low_half n)

-- the answer is made of the word that was heard at a place
abbrev pub IsMadeOf : (cells columns : ℕ) → (heard : List WordNote) → Place → (ℕ → Answer) → Answer → Type 0
IsMadeOf cells columns heard p make a = (n : ℕ) × IsHeard cells columns heard p n × (a ≡ make n)

-- the opening label of `trace` was heard to be between both labels of `outer`, or not to be
pub record IsInsideBy (cells columns : ℕ) (heard : List WordNote) (trace outer : ℕ) (b : Bool) : Type 0 where
  pub opening : ℕ
  pub inner : ℕ
  pub closing : ℕ
  pub opening_is : IsHeard cells columns heard (places.Opening outer) opening
  pub inner_is : IsHeard cells columns heard (places.Opening trace) inner
  pub closing_is : IsHeard cells columns heard (places.Closing outer) closing
  pub inside : b ≡ (nat_lt opening inner && nat_lt inner closing)

-- what the words that were heard answer to a read
abbrev pub ToldBy : (cells columns : ℕ) → (heard : List WordNote) → Read → Answer → Type 0
ToldBy cells columns heard (Owner i) a = IsMadeOf cells columns heard (places.Owner i) (λ n. Number (low_half n)) a
ToldBy cells columns heard (Lead t) a = IsMadeOf cells columns heard (places.Lead t) (λ n. Maybe (word_number n)) a
ToldBy cells columns heard (Up t) a = IsMadeOf cells columns heard (places.Up t) (λ n. Maybe (word_number n)) a
ToldBy cells columns heard (Word g) a = IsMadeOf cells columns heard (places.Gap g) (λ n. Number n) a
ToldBy cells columns heard (Inside t o) a = (b : Bool) × IsInsideBy cells columns heard t o b × (a ≡ Test b)

-- ## One pass

abbrev pub version_note : (cells n : ℕ) → WordNote
version_note cells n = record { word = version_word cells; value = n }

-- the token noted one version, then what was heard, then another version
abbrev pub IsNotedBetween : (cells first second : ℕ) → (heard before after : List WordNote) → Type 0
IsNotedBetween cells m n heard before after = after ≡ version_note cells n ∷ (heard ++ version_note cells m ∷ before)

-- words were heard between two loads of the version, which was even and the same both times
pub record IsOnePass (cells : ℕ) (heard before after : List WordNote) : Type 0 where
  pub version : ℕ
  pub even : version % 2 ≡ 0
  pub noted : IsNotedBetween cells version version heard before after

-- the verdict on the access `last` and the next one of the asker, by what one pass heard
pub record IsAnswered (cells columns : ℕ) (last : Mark) (asker : ℕ) (before after : List WordNote) (v : Verdict) : Type 0 where
  pub heard : List WordNote
  pub pass : IsOnePass cells heard before after
  pub gives : Gives (ToldBy cells columns heard) last asker v

-- no access is refused for this verdict
abbrev pub LetsThrough : Verdict → Type 0
LetsThrough Free = Unit {0}
LetsThrough Within = Unit {0}
LetsThrough (Against block) = ⊥

-- the newest notes are those of one pass, by which a question about the access `last` lets the asker's next one through
pub record IsAskedNow (cells columns : ℕ) (last : Mark) (asker : ℕ) (notes : List WordNote) : Type 0 where
  pub before : List WordNote
  pub verdict : Verdict
  pub through : LetsThrough verdict
  pub question : IsAnswered cells columns last asker before notes verdict
