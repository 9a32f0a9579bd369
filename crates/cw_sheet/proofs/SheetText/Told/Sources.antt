-- A source that was taken has a text, and was taken from it.
use Rattle.std.proofs.Common.{◌≡◌, ℕ, ◌≤◌, Bool, true, false, nat_lt, if◌then◌else◌, List, [], ◌∷◌, ◌++◌, codes, length, take, drop, Option, Some, None, is_none, Result, Ok, Err, refl, ap, sym, subst, ◌∙◌, arith, le_refl, length-take, take-append-drop}
use Rattle.std.proofs.lemmas.Bool.{and_parts, false≢true, le-ltb, ltb-false}
use Rattle.std.specs.Cmp.Lexicographic.{bytes_decides}
use Rattle.std.specs.Fmt.{decimal}
use Rattle.std.specs.Str.{bytes_eq}
use Rattle.cw_text.specs.declared.fault.TextFault.{TextFault}
use Rattle.cw_text.specs.PrintedText.{printed_text}
use Rattle.cw_text.specs.Syntax.{Source}
use Rattle.cw_text.specs.Text.{reading}
use Rattle.cw_strand.specs.Names.{naming_fault}
use Rattle.cw_sheet.specs.Contents.{HasSourceText}
use Rattle.cw_sheet.specs.Items.{Place, took, count, word}
use Rattle.cw_sheet.specs.Laws.{HasOwnLines}
use Rattle.cw_sheet.specs.Reading.{behind_lines, canonical, is_canonical, longest_source, source, source_of_length}
use Rattle.cw_sheet.specs.SheetText.{decimals, line}
use Rattle.cw_sheet.proofs.SheetText.Beginning.{BeginsWith, item, line_of, none}
use Rattle.cw_sheet.proofs.SheetText.Told.Items.{done_then, number_told, word_told}
use Rattle.cw_sheet.proofs.SheetText.Told.Taking.{IfTook, took_if, took_so, took_then}

-- ## Readings with other bounds

not_too_long : (long : Bool) (f : TextFault) (r : Result Source TextFault) (s : Source) → (if long then Err f else r) ≡ Ok s → (long ≡ false) × (r ≡ Ok s)
not_too_long true f r s e = cc
not_too_long false f r s e = (refl, e)

-- A text that was read under one bound is read so under each bound that it fits.
pub bound_otherwise : (newest most other : ℕ) (text : List ℕ) (s : Source) → length text ≤ other → reading newest most text ≡ Ok s → reading newest other text ≡ Ok s
bound_otherwise newest most other text s fits e =
    let read = not_too_long (nat_lt most (length text)) _ _ s e in
    rw (le-ltb other (length text) fits) read.1

-- ## The canonical text of a source

none_is : {A : Type 0} (o : Option A) → is_none o ≡ true → o ≡ None
none_is None e = refl
none_is (Some x) e = absurd (false≢true e)

-- what is true of a source that was read
pub record IsReadSource (s : Source) : Type 0 where
  pub few : length (printed_text s) ≤ longest_source
  pub has : HasSourceText s
  pub own : HasOwnLines s

canonical_told : (P : Source → Place → Type 0) (l : ℕ) (text : List ℕ) (r : Result Source TextFault) (q : Place) → reading 2 longest_source text ≡ r →
    ((s : Source) → printed_text s ≡ text → IsReadSource s → P s q) → IfTook P (canonical l text r q)
canonical_told P l text (Err f) q read h = tt
canonical_told P l text (Ok s) q read h =
    took_if P (is_canonical text s) (took s q) _
    (λ e.
    let parts = and_parts (is_none (naming_fault s.items)) (bytes_eq (printed_text s) text) e in
    let same = (bytes_decides (printed_text s) text).0 parts.1 in
    let again = bound_otherwise 2 longest_source (length text) text s (le_refl (length text)) read in
    let short = ltb-false longest_source (length text) (not_too_long (nat_lt longest_source (length text)) _ _ s read).0 in
    h s same (record {
      few = omega (arith, ap length same);
      has = record { read = (s, subst (λ t. reading 2 (length t) t ≡ Ok s) (sym same) again, refl, refl); named = none_is (naming_fault s.items) parts.0 };
      own = subst (λ t. reading 2 longest_source t ≡ Ok s) (sym same) read;
    }))
    (λ _. tt)

-- the source has n bytes, which come first
record IsSized (n : ℕ) (text : List ℕ) (s : Source) (rest : List ℕ) : Type 0 where
  size : length (printed_text s) ≡ n
  spelled : BeginsWith text (printed_text s) rest
  source : IsReadSource s

sized_told : (n l : ℕ) (p : Place) → IfTook (λ s q. IsSized n p.text s q.text) (source_of_length n l p)
sized_told n l p =
    took_if _ (nat_lt (length p.text) n) _ (canonical l (take n p.text) (reading 2 longest_source (take n p.text)) (behind_lines n p)) (λ _. tt)
    (λ short. canonical_told (λ s q. IsSized n p.text s q.text) l (take n p.text) (reading 2 longest_source (take n p.text)) (behind_lines n p) refl
    (λ s same read. record {
      size = (let enough : n ≤ length p.text = ltb-false (length p.text) n short in omega (arith, ap length same, length-take n p.text));
      spelled = record { is = sym (take-append-drop n p.text) ∙ ap (λ t. t ++ drop n p.text) (sym same) };
      source = read;
    }))

-- ## With the line before it

-- the line before the source, and the source
pub record IsSource (text : List ℕ) (s : Source) (rest : List ℕ) : Type 0 where
  pub middle : List ℕ
  pub sized : BeginsWith text (line (codes "source") (decimals (length (printed_text s) ∷ []))) middle
  pub spelled : BeginsWith middle (printed_text s) rest
  pub source : IsReadSource s

pub source_told : (p : Place) → IfTook (λ s q. IsSource p.text s q.text) (source p)
source_told p =
    took_then _ _ (word (codes "source") p) _ (word_told (codes "source") p)
    (λ _ p1 h. took_then _ _ (count p1) _ (number_told 100000001 p1)
    (λ n p2 h1. done_then _ n p2 (λ n q. source_of_length n p.line q)
    (λ p3 h2. took_so _ _ (source_of_length n p.line p3) (sized_told n p.line p3)
    (λ s q g.
    let counted = subst (λ m. BeginsWith p1.text (32 ∷ decimal m) p2.text) (sym g.size) h1.0 in
    record { middle = p3.text; sized = line_of (codes "source") (decimals (length (printed_text s) ∷ [])) h (item counted none) h2; spelled = g.spelled; source = g.source }))))
