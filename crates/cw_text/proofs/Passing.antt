-- What belongs to a token or a gap is passed over.
use Rattle.std.proofs.Common.{◌≡◌, ℕ, zero, suc, ◌+◌, ◌-◌, ◌<◌, ◌==◌, Bool, true, false, cond, List, [], ◌∷◌, length, take, drop, refl, ap, sym, ◌∙◌, arith}
use Rattle.std.proofs.lemmas.List.Sums.{sum_by-cons}
use Rattle.std.specs.List.{count_by}
use Rattle.cw_text.specs.declared.terminal.Terminal.{Terminal}
use Rattle.cw_text.specs.Lexemes.{Lexemes, lexemes_from, line_after, end_on, comes, front, width, begun_by, found}
use Rattle.cw_text.specs.declared.cursor.Token.{Token}
use Rattle.cw_text.specs.declared.cursor.Token.TheVariants as token
use Rattle.cw_text.specs.Cursor.{before}
use Rattle.cw_text.specs.Front.{lexeme_of}
use Rattle.cw_text.proofs.Fronts.{front_is, gives_end}

abbrev pub newlines_in : List ℕ → ℕ
newlines_in = count_by (λ c. c == 10)

one_counted : (is_newline : Bool) (line more : ℕ) → cond is_newline (suc line) line + more ≡ line + (cond is_newline 1 0 + more)
one_counted true line more = omega arith
one_counted false line more = omega arith

counted : (c line : ℕ) (cs : List ℕ) → line_after c line + newlines_in cs ≡ line + newlines_in (c ∷ cs)
counted c line cs = one_counted (c == 10) line (newlines_in cs) ∙ ap (λ n. line + n) (sym (sum_by-cons (λ x. cond (x == 10) 1 0) c cs))

pub passed : (words : List Terminal) (line n : ℕ) (text : List ℕ) → lexemes_from words line n text ≡ lexemes_from words (line + newlines_in (take n text)) 0 (drop n text)
passed words line zero text = ap (λ l. lexemes_from words l 0 text) (omega arith)
passed words line (suc n) [] = ap end_on (omega arith)
passed words line (suc n) (c ∷ cs) = passed words (line_after c line) n cs ∙ ap (λ l. lexemes_from words l 0 (drop n cs)) (counted c line (take n cs))

one_passed : (words : List Terminal) (line n c : ℕ) (cs : List ℕ) → 0 < n → lexemes_from words (line_after c line) (n - 1) cs ≡ lexemes_from words line n (c ∷ cs)
one_passed words line zero c cs some = absurd (omega arith)
one_passed words line (suc n) c cs some = ap (λ k. lexemes_from words (line_after c line) k cs) (omega arith)

-- a gap or a token at the front of a text, and what stands behind it
pub begun : (words : List Terminal) (line : ℕ) (text : List ℕ) → 0 < length text →
    lexemes_from words line 0 text ≡ begun_by (front words text) line (lexemes_from words line (width (front words text)) text)
begun words line [] some = absurd (omega arith)
begun words line (c ∷ cs) some = ap (λ xs. begun_by (front words (c ∷ cs)) line xs) (one_passed words line (width (front words (c ∷ cs))) c cs (front_is words c cs).some)

-- a token that was found is not the end
found_before : (words : List Terminal) (c : ℕ) (cs : List ℕ) (t : Token) (n line : ℕ) (xs : Lexemes) → found (lexeme_of t) n ≡ front words (c ∷ cs) → before t line xs ≡ comes (lexeme_of t) line xs
found_before words c cs (token.Name w) n line xs is = refl
found_before words c cs (token.Number v) n line xs is = refl
found_before words c cs (token.Terminal m) n line xs is = refl
found_before words c cs (token.Bad k) n line xs is = refl
found_before words c cs token.End n line xs is = let e : true ≡ false = ap gives_end is ∙ (front_is words c cs).no_end in cc

-- a token that was found, and what stands behind it
pub found_gone : (words : List Terminal) (text : List ℕ) (t : Token) (n line : ℕ) → found (lexeme_of t) n ≡ front words text → 0 < length text →
    before t line (lexemes_from words line n text) ≡ lexemes_from words line 0 text
found_gone words [] t n line is some = absurd (omega arith)
found_gone words (c ∷ cs) t n line is some =
    found_before words c cs t n line (lexemes_from words line n (c ∷ cs)) is
    ∙ ap (λ f. begun_by f line (lexemes_from words line (width f) (c ∷ cs))) is
    ∙ sym (begun words line (c ∷ cs) some)
