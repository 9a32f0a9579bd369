-- The heading, values and limits that were taken are spelled so.
use Rattle.std.proofs.Common.{ℕ, ◌^◌, List, [], ◌∷◌, codes, length}
use Rattle.std.specs.Fmt.{signed_decimal}
use Rattle.std.specs.List.{AllByRecursion}
use Rattle.cw_sheet.specs.Items.{Place, all_behind, newline, next_word, number32, number64, value, word}
use Rattle.cw_sheet.specs.Laws.{IsValue, LimitsFit}
use Rattle.cw_sheet.specs.Reading.{heading, limits, values}
use Rattle.cw_sheet.specs.SheetText.{decimals, first_line, limits_line, line, signed_decimals}
use Rattle.cw_sheet.proofs.SheetText.Beginning.{BeginsWith, item, line_of, none, same_part, some, spaced_map}
use Rattle.cw_sheet.proofs.SheetText.Told.Items.{line_done_told, newline_told, next_word_told, number_told, up_to_told, value_told, word_told}
use Rattle.cw_sheet.proofs.SheetText.Told.Taking.{IfTook, took_so, took_then}

pub heading_told : (p : Place) → IfTook (λ _ q. BeginsWith p.text first_line q.text) (heading p)
heading_told p =
    took_then _ _ (word (codes "cwstm") p) _ (word_told (codes "cwstm") p)
    (λ _ p1 h. took_then _ _ (next_word (codes "record") p1) _ (next_word_told (codes "record") p1)
    (λ _ p2 g. took_then _ _ (next_word (codes "1") p2) _ (next_word_told (codes "1") p2)
    (λ _ p3 f. took_so _ _ (newline p3) (newline_told p3)
    (λ _ q e. line_of (codes "cwstm") (codes "record" ∷ codes "1" ∷ []) h (item g (item f none)) e))))

pub values_told : (w : List ℕ) (p : Place) → IfTook (λ zs q. BeginsWith p.text (line w (signed_decimals zs)) q.text × AllByRecursion IsValue zs) (values w p)
values_told w p =
    took_then _ _ (word w p) _ (word_told w p)
    (λ _ p1 h. took_then _ _ (all_behind value p1) _ (up_to_told (λ z. 32 ∷ signed_decimal z) IsValue value value_told (length p1.text) p1)
    (λ zs p2 g. line_done_told _ zs p2
    (λ q f. (line_of w (signed_decimals zs) h (some (same_part _ (spaced_map (λ z. signed_decimal z) zs) g.0)) f, g.1))))

pub limits_told : (p : Place) → IfTook (λ l q. BeginsWith p.text (limits_line l) q.text × LimitsFit l) (limits p)
limits_told p =
    took_then _ _ (word (codes "limits") p) _ (word_told (codes "limits") p)
    (λ _ p0 h. took_then _ _ (number64 p0) _ (number_told (2 ^ 64) p0)
    (λ fuel p1 h1. took_then _ _ (number32 p1) _ (number_told (2 ^ 32) p1)
    (λ size p2 h2. took_then _ _ (number32 p2) _ (number_told (2 ^ 32) p2)
    (λ aborts p3 h3. took_then _ _ (number32 p3) _ (number_told (2 ^ 32) p3)
    (λ strands p4 h4. took_then _ _ (number64 p4) _ (number_told (2 ^ 64) p4)
    (λ moves p5 h5. line_done_told _ _ p5
    (λ q f. (
      line_of (codes "limits") (decimals (fuel ∷ size ∷ aborts ∷ strands ∷ moves ∷ [])) h (item h1.0 (item h2.0 (item h3.0 (item h4.0 (item h5.0 none))))) f,
      record { fuel = h1.1; size = h2.1; aborts = h3.1; strands = h4.1; moves = h5.1 },
    ))))))))
