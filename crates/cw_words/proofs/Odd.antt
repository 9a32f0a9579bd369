-- A text is odd only if it is `-`.
use Rattle.std.proofs.Common.{◌≡◌, ◌∙◌, ◌&&◌, ◌++◌, ℕ, Bool, true, false, true≢false, zero, suc, [], ◌∷◌, length, not, refl, sym, ap, arith, append-nil}
use Rattle.std.specs.Prelude.{◌==◌}
use Rattle.std.specs.Str.{IsAscii, IsUtf8, bytes_eq, chars}
use Rattle.std.proofs.lemmas.Str.{IsUtf8-from_ascii, chars-append, encodes-chars}
use Rattle.std.proofs.lemmas.Bool.Decides.{Decides-eqb}
use lib.Utf8.{encodes}
use Rattle.clap.specs.Words.{Text}
use Rattle.clap.specs.Walk.{is_empty}
use Rattle.cw_words.specs.Shapes.{is_odd}
use Rattle.cw_words.specs.Options.{is_option}
use Rattle.cw_words.proofs.Walks.{no_hyphen, no_option, word_cases}

hyphen_ascii : IsAscii (45 ∷ [])
hyphen_ascii zero = omega arith
hyphen_ascii (suc i) = omega arith

hyphen_utf8 : IsUtf8 (45 ∷ [])
hyphen_utf8 = IsUtf8-from_ascii (45 ∷ []) hyphen_ascii

not_zero : (n : ℕ) → (suc n == 0) ≡ false
not_zero n = go (suc n == 0) refl
  where
    go : (t : Bool) → (suc n == 0) ≡ t → t ≡ false
    go true i = let z : suc n ≡ 0 = (Decides-eqb (suc n) 0).0 i in absurd (omega arith)
    go false i = refl

-- what stands behind a hyphen has a character
some_char : (d : ℕ) (ds : Text) → IsUtf8 (45 ∷ d ∷ ds) → is_empty (chars (d ∷ ds)) ≡ false
some_char d ds u = go (chars (d ∷ ds)) refl
  where
    longer : (xs : Text) → 45 ∷ d ∷ xs ≡ 45 ∷ [] → ⊥
    longer xs e = let n : suc (suc (length xs)) ≡ 1 = ap length e in absurd (omega arith)

    go : (cs : Text) → chars (d ∷ ds) ≡ cs → is_empty cs ≡ false
    go [] e =
        let whole : chars (45 ∷ d ∷ ds) ≡ chars (45 ∷ []) = chars-append (45 ∷ []) (d ∷ ds) hyphen_utf8 ∙ ap (λ cs. chars (45 ∷ []) ++ cs) e ∙ append-nil (chars (45 ∷ [])) in
        absurd (longer ds (sym (encodes-chars (45 ∷ d ∷ ds) u) ∙ ap encodes whole ∙ encodes-chars (45 ∷ []) hyphen_utf8))
    go (c ∷ cs) e = not_zero (length cs)

pub text_even : (w : Text) → IsUtf8 w → bytes_eq w (45 ∷ []) ≡ false → is_odd w ≡ false
text_even w =
    word_cases (λ x. IsUtf8 x → bytes_eq x (45 ∷ []) ≡ false → is_odd x ≡ false)
    (λ u n. refl)
    (λ c cs i u n. ap (λ t. t && (not (is_option (c ∷ cs)) && is_empty (chars cs))) (no_hyphen c cs i))
    (λ u n. absurd (true≢false n))
    (λ d ds i u n. ap (λ t. not t && is_empty (chars (d ∷ ds))) (no_option d ds i) ∙ some_char d ds u)
    (λ u n. refl)
    (λ e es u n. refl)
    w
