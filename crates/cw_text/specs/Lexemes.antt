-- The tokens of a text: names, numbers, keywords and signs, each with its line.
use Rattle.std.specs.Prelude.{ℕ, zero, suc, ◌+◌, ◌-◌, ◌*◌, ◌^◌, Bool, false, ◌||◌, not, List, [], ◌∷◌, length, if◌then◌else◌, ◌==◌, nat_eq, nat_le, fold, codes, take_while}
use Rattle.std.specs.Char.{is_ascii_digit, is_ascii_alphabetic}
use Rattle.std.specs.List.{starts_with}
use Rattle.std.specs.Str.{bytes_eq}
use Rattle.cw_text.specs.declared.fault.TextKind.{TextKind}
use Rattle.cw_text.specs.declared.fault.TextKind.TheVariants.{BadChar, BadNumber}
use Rattle.cw_text.specs.declared.terminal.Terminal.{Terminal}
use Rattle.cw_text.specs.declared.terminal.Terminal.TheVariants as m

pub data Token : Type 0 where
  name : List ℕ → Token
  number : ℕ → Token
  terminal : Terminal → Token
  bad : TextKind → Token
  end : Token

-- tokens with their lines, and the line of the end
pub data Lexemes : Type 0 where
  end_on : ℕ → Lexemes
  comes : Token → ℕ → Lexemes → Lexemes

-- what comes behind the first token
abbrev pub rest_of : Lexemes → Lexemes
rest_of (end_on line) = end_on line
rest_of (comes t line xs) = xs

-- what a text begins with, a gap or a token, and how many bytes it takes
pub data Front : Type 0 where
  gap : ℕ → Front
  found : Token → ℕ → Front

abbrev pub is_letter : ℕ → Bool
is_letter c = is_ascii_alphabetic c || c == 95

abbrev pub is_word : ℕ → Bool
is_word c = is_letter c || is_ascii_digit c

abbrev pub is_blank : ℕ → Bool
is_blank c = c == 32 || c == 9 || c == 13 || c == 10

-- how a keyword or a sign is spelled
abbrev pub spelling : Terminal → List ℕ
spelling m.Cell = codes "cell"
spelling m.Fn = codes "fn"
spelling m.Let = codes "let"
spelling m.Out = codes "out"
spelling m.If = codes "if"
spelling m.Else = codes "else"
spelling m.While = codes "while"
spelling m.Atomic = codes "atomic"
spelling m.Spawn = codes "spawn"
spelling m.Sync = codes "sync"
spelling m.Cancel = codes "cancel"
spelling m.Return = codes "return"
spelling m.BraceOpen = codes "{"
spelling m.BraceClose = codes "}"
spelling m.ParenOpen = codes "("
spelling m.ParenClose = codes ")"
spelling m.SquareOpen = codes "["
spelling m.SquareClose = codes "]"
spelling m.Comma = codes ","
spelling m.Semicolon = codes ";"
spelling m.Assign = codes "="
spelling m.Plus = codes "+"
spelling m.Minus = codes "-"
spelling m.Star = codes "*"
spelling m.Slash = codes "/"
spelling m.Percent = codes "%"
spelling m.Bang = codes "!"
spelling m.EqEq = codes "=="
spelling m.BangEq = codes "!="
spelling m.Less = codes "<"
spelling m.LessEq = codes "<="
spelling m.Greater = codes ">"
spelling m.GreaterEq = codes ">="

-- the keywords of language 1
abbrev pub keywords : List Terminal
keywords = m.Cell ∷ m.Fn ∷ m.Let ∷ m.Out ∷ m.If ∷ m.Else ∷ m.While ∷ m.Atomic ∷ m.Spawn ∷ m.Sync ∷ m.Return ∷ []

-- language 2 has one more keyword
abbrev pub keywords_of : (language : ℕ) → List Terminal
keywords_of language = if language == 2 then m.Cancel ∷ keywords else keywords

-- a sign comes before those that begin it
abbrev pub signs : List Terminal
signs = m.EqEq ∷ m.BangEq ∷ m.LessEq ∷ m.GreaterEq ∷ m.BraceOpen ∷ m.BraceClose ∷ m.ParenOpen ∷ m.ParenClose ∷ m.SquareOpen ∷ m.SquareClose ∷ m.Comma ∷ m.Semicolon ∷ m.Assign ∷ m.Plus ∷ m.Minus ∷ m.Star ∷ m.Slash ∷ m.Percent ∷ m.Bang ∷ m.Less ∷ m.Greater ∷ []

-- the keyword that the text is, otherwise a name
abbrev pub word_token : List Terminal → List ℕ → Token
word_token [] text = name text
word_token (k ∷ ks) text = if bytes_eq (spelling k) text then terminal k else word_token ks text

-- the first sign of the list that the text begins with
abbrev pub sign_front : List Terminal → List ℕ → Front
sign_front [] text = found (bad BadChar) 1
sign_front (s ∷ ss) text = if starts_with nat_eq text (spelling s) then found (terminal s) (length (spelling s)) else sign_front ss text

abbrev pub value_of_digits : List ℕ → ℕ
value_of_digits ds = fold (λ n d. 10 * n + (d - 48)) 0 ds

abbrev pub begins_by : (ℕ → Bool) → List ℕ → Bool
begins_by p [] = false
begins_by p (c ∷ cs) = p c

-- a number over the greatest i64 is bad, and so is one that a letter follows at once
abbrev pub number_token : (digits rest : List ℕ) → Token
number_token ds rest = if begins_by is_letter rest || nat_le (2 ^ 63) (value_of_digits ds) then bad BadNumber else number (value_of_digits ds)

abbrev pub after_digits : List ℕ → List ℕ
after_digits [] = []
after_digits (c ∷ cs) = if is_ascii_digit c then after_digits cs else c ∷ cs

abbrev pub front : (words : List Terminal) → List ℕ → Front
front ks [] = gap 0
front ks (c ∷ cs) =
    if is_blank c then gap 1
    else (if is_letter c then found (word_token ks (c ∷ take_while is_word cs)) (suc (length (take_while is_word cs)))
    else (if is_ascii_digit c then found (number_token (c ∷ take_while is_ascii_digit cs) (after_digits cs)) (suc (length (take_while is_ascii_digit cs)))
    else (if starts_with nat_eq (c ∷ cs) (codes "//") then gap (suc (length (take_while (λ x. not (x == 10)) cs)))
    else sign_front signs (c ∷ cs))))

abbrev pub line_after : ℕ → ℕ → ℕ
line_after c line = if c == 10 then suc line else line

abbrev pub width : Front → ℕ
width (gap n) = n
width (found t n) = n

abbrev pub begun_by : Front → ℕ → Lexemes → Lexemes
begun_by (gap n) line xs = xs
begun_by (found t n) line xs = comes t line xs

-- the tokens of a text whose first bytes, as many as `taken`, belong to the token before
abbrev pub lexemes_from : (words : List Terminal) (line taken : ℕ) → List ℕ → Lexemes
lexemes_from ks line taken [] = end_on line
lexemes_from ks line (suc n) (c ∷ cs) = lexemes_from ks (line_after c line) n cs
lexemes_from ks line zero (c ∷ cs) =
    begun_by (front ks (c ∷ cs)) line (lexemes_from ks (line_after c line) (width (front ks (c ∷ cs)) - 1) cs)

abbrev pub lexemes : (words : List Terminal) → List ℕ → Lexemes
lexemes ks text = lexemes_from ks 1 0 text
