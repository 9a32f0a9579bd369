-- A whole text: its length, its characters, its language, its tokens.
use Rattle.std.specs.Prelude.{◌≡◌, ℕ, ◌+◌, Bool, false, ◌&&◌, List, codes, length, take, Result, Ok, Err, if◌then◌else◌, nat_le, nat_lt, ◌==◌, count_by}
use Rattle.std.specs.Str.{bytes_eq}
use Rattle.std.specs.Str.Lossy.{utf8_valid_len}
use Rattle.cw_text.specs.declared.ast.Ast.{Ast}
use Rattle.cw_text.specs.declared.terminal.Terminal.TheVariants as m
use Rattle.cw_text.specs.declared.fault.TextKind.TheVariants.{TooLong, NotUtf8, Unexpected}
use Rattle.cw_text.specs.declared.fault.TextFault.{TextFault}
use Rattle.cw_text.specs.declared.fault.TextRefusal.{TextRefusal}
use Rattle.cw_text.specs.declared.fault.TextRefusal.TheVariants as refusal
use Rattle.cw_text.specs.Syntax.{Declaration, Source, source_of}
use Rattle.cw_text.specs.Lexemes.{Lexemes, comes, name as a_name, number as a_number, terminal, keywords, keywords_of, lexemes, rest_of}
use Rattle.cw_text.specs.Grammar.{program_of, text_fault, fault_at}

-- the line of a place: 1 plus the number of newlines before it
abbrev pub line_of : (place : ℕ) (text : List ℕ) → ℕ
line_of place text = count_by (λ c. c == 10) (take place text) + 1

-- ## The language

-- The name `language` begins the heading, which names the language of the text, but only as the very first token.
abbrev pub is_headed : Lexemes → Bool
is_headed (comes (a_name n) l xs) = bytes_eq n (codes "language")
is_headed xs = false

-- the end of the heading
abbrev pub line_ended : (language : ℕ) → Lexemes → Result ℕ TextFault
line_ended n (comes (terminal m.Semicolon) l xs) = Ok n
line_ended n xs = Err (fault_at xs)

-- the number of the language, from 1 to the newest that is read
abbrev pub numbered : (newest : ℕ) → Lexemes → Result ℕ TextFault
numbered newest (comes (a_number n) l xs) = if nat_le 1 n && nat_le n newest then line_ended n xs else text_fault Unexpected l
numbered newest xs = Err (fault_at xs)

-- A text without a heading is of language 1.
abbrev pub language_of : (newest : ℕ) → Lexemes → Result ℕ TextFault
language_of newest xs = if is_headed xs then numbered newest (rest_of xs) else Ok 1

-- what comes behind the heading
abbrev pub items_of : Lexemes → Lexemes
items_of xs = if is_headed xs then rest_of (rest_of (rest_of xs)) else xs

abbrev pub with_language : (language : ℕ) → Result (List Declaration) TextFault → Result Source TextFault
with_language n (Ok ds) = Ok (record { language = n; items = ds })
with_language n (Err f) = Err f

-- the source that a text spells in this language, with the keywords of the language
abbrev pub source_in : Result ℕ TextFault → List ℕ → Result Source TextFault
source_in (Ok n) text = with_language n (program_of (items_of (lexemes (keywords_of n) text)))
source_in (Err f) text = Err f

-- ## The text

-- The source that a text of at most `most` bytes spells, in a language up to `newest`, or the text's first fault. Its
-- length comes first, then its characters, then its language, then its tokens.
abbrev pub reading : (newest most : ℕ) → List ℕ → Result Source TextFault
reading newest most text =
    if nat_lt most (length text) then text_fault TooLong 0
    else (if nat_lt (utf8_valid_len text) (length text) then text_fault NotUtf8 (line_of (utf8_valid_len text) text)
    else source_in (language_of newest (lexemes keywords text)) text)

-- the source that a text is, or the text's first fault
abbrev pub program : (newest : ℕ) → List ℕ → Result Source TextFault
program newest text = reading newest 1048576 text

-- A result is this reading, unless memory ran out.
abbrev pub Reads : Result Ast TextRefusal → Result Source TextFault → Type 0
Reads (Ok a) reading = reading ≡ Ok (source_of a)
Reads (Err (refusal.Text f)) reading = reading ≡ Err f
Reads (Err refusal.OutOfMemory) reading = Unit {0}
