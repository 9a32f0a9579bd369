-- An item that was taken is spelled so.
use Rattle.std.proofs.Common.{◌≡◌, ℕ, zero, suc, ◌==◌, ◌<◌, ◌&&◌, ◌||◌, Bool, true, not, nat_lt, if◌then◌else◌, List, [], ◌∷◌, ◌++◌, length, drop, refl, ap, sym, ◌∙◌}
use Rattle.std.proofs.lemmas.Bool.{eqb-true, false≢true, and_parts, ltb-true}
use Rattle.std.specs.Cmp.Lexicographic.{bytes_decides}
use Rattle.std.specs.Fmt.{decimal, signed_decimal}
use Rattle.std.specs.List.{AllByRecursion, flat_map, prefix_len}
use Rattle.std.specs.Prelude.{⊤}
use Rattle.std.specs.Str.{bytes_eq}
use Rattle.cw_text.specs.Lexemes.{begins_by, value_of_digits}
use Rattle.cw_sheet.specs.declared.sheet.SheetKind.TheVariants.{Unexpected, BadNumber}
use Rattle.cw_sheet.specs.Items.{Place, Taken, took, ◌into◌, refuse, behind, is_space, is_newline, first_item, item, space, newline, word, line_done, is_numeral, judged, first_number, value_of_numeral, is_i64, first_value, next_item, next_word, number, value, up_to, exactly}
use Rattle.cw_sheet.specs.Laws.{IsValue}
use Rattle.cw_sheet.proofs.SheetText.Beginning.{BeginsWith, front_and_rest, none_taken, one_more}
use Rattle.cw_sheet.proofs.SheetText.Told.Taking.{IfTook, took_done, took_if, took_so, took_then}

-- ## Blanks and words

first_byte : (c : ℕ) (text : List ℕ) → begins_by (λ x. x == c) text ≡ true → text ≡ c ∷ drop 1 text
first_byte c [] e = absurd (false≢true e)
first_byte c (x ∷ xs) e = ap (λ y. y ∷ xs) (eqb-true x c e)

pub space_told : (p : Place) → IfTook (λ _ q. BeginsWith p.text (32 ∷ []) q.text) (space p)
space_told p = took_if _ (begins_by is_space p.text) (took tt (behind 1 p)) (refuse Unexpected p) (λ e. record { is = first_byte 32 p.text e }) (λ _. tt)

pub newline_told : (p : Place) → IfTook (λ _ q. BeginsWith p.text (10 ∷ []) q.text) (newline p)
newline_told p =
    took_if _ (begins_by is_newline p.text) (took tt (record { line = suc p.line; text = drop 1 p.text })) (refuse Unexpected p)
    (λ e. record { is = first_byte 10 p.text e }) (λ _. tt)

pub item_and_rest : (text : List ℕ) → first_item text ++ drop (length (first_item text)) text ≡ text
item_and_rest text = front_and_rest (prefix_len (λ c. not (is_space c || is_newline c)) text) text

-- an item that is `w`
item_is : (text w : List ℕ) → first_item text ≡ w → BeginsWith text w (drop (length (first_item text)) text)
item_is text w same = record { is = sym (item_and_rest text) ∙ ap (λ i. i ++ drop (length (first_item text)) text) same }

pub item_told : (p : Place) → BeginsWith p.text (first_item p.text) (drop (length (first_item p.text)) p.text)
item_told p = item_is p.text (first_item p.text) refl

word_is : (text w : List ℕ) → first_item text ≡ w → BeginsWith text w (drop (length w) text)
word_is text w same = record { is = sym (item_and_rest text) ∙ ap (λ i. i ++ drop (length i) text) same }

pub word_told : (w : List ℕ) (p : Place) → IfTook (λ _ q. BeginsWith p.text w q.text) (word w p)
word_told w p =
    took_if _ (bytes_eq (first_item p.text) w) (took tt (behind (length w) p)) (refuse Unexpected p)
    (λ e. word_is p.text w ((bytes_decides (first_item p.text) w).0 e)) (λ _. tt)

pub done_then : {A B : Type 0} (Q : B → Place → Type 0) (x : A) (p : Place) (f : A → Place → Taken B) →
    ((q : Place) → BeginsWith p.text (10 ∷ []) q.text → IfTook Q (f x q)) → IfTook Q (line_done x p into f)
done_then Q x p f h = took_done Q x (newline p) f (took_so (λ _ q. BeginsWith p.text (10 ∷ []) q.text) (λ _ q. IfTook Q (f x q)) (newline p) (newline_told p) (λ _ q g. h q g))

pub line_done_told : {A : Type 0} (Q : A → Place → Type 0) (x : A) (p : Place) → ((q : Place) → BeginsWith p.text (10 ∷ []) q.text → Q x q) → IfTook Q (line_done x p)
line_done_told Q x p h = took_then (λ _ q. BeginsWith p.text (10 ∷ []) q.text) Q (newline p) (λ _ q. took x q) (newline_told p) (λ _ q g. h q g)

-- ## Numbers

judged_told : {A : Type 0} (P : A → Place → Type 0) (i : List ℕ) (good : Bool) (x : A) (p : Place) → (good ≡ true → P x p) → IfTook P (judged i good x p)
judged_told P i good x p h =
    took_if P (is_numeral i) (if good then took x p else refuse BadNumber p) (refuse Unexpected p)
    (λ _. took_if P good (took x p) (refuse BadNumber p) h (λ _. tt)) (λ _. tt)

pub first_number_told : (limit : ℕ) (p : Place) → IfTook (λ n q. BeginsWith p.text (decimal n) q.text × (n < limit)) (first_number limit p)
first_number_told limit p =
    let i = first_item p.text in
    let n = value_of_digits i in
    judged_told (λ m q. BeginsWith p.text (decimal m) q.text × (m < limit)) i (nat_lt n limit && bytes_eq i (decimal n)) n (behind (length i) p)
    (λ e.
    let parts = and_parts (nat_lt n limit) (bytes_eq i (decimal n)) e in
    (item_is p.text (decimal n) ((bytes_decides i (decimal n)).0 parts.1), ltb-true n limit parts.0))

first_value_told : (p : Place) → IfTook (λ z q. BeginsWith p.text (signed_decimal z) q.text × IsValue z) (first_value p)
first_value_told p =
    let i = first_item p.text in
    let z = value_of_numeral i in
    judged_told (λ y q. BeginsWith p.text (signed_decimal y) q.text × IsValue y) i (is_i64 z && bytes_eq i (signed_decimal z)) z (behind (length i) p)
    (λ e.
    let parts = and_parts (is_i64 z) (bytes_eq i (signed_decimal z)) e in
    (item_is p.text (signed_decimal z) ((bytes_decides i (signed_decimal z)).0 parts.1), parts.0))

-- ## Behind a space

behind_space : {A : Type 0} (t : A → List ℕ) (P : A → Type 0) (p : Place) (each : Place → Taken A) →
    ((q : Place) → IfTook (λ x r. BeginsWith q.text (t x) r.text × P x) (each q)) →
    IfTook (λ x r. BeginsWith p.text (32 ∷ t x) r.text × P x) (space p into λ _ q. each q)
behind_space t P p each h =
    took_then (λ _ q. BeginsWith p.text (32 ∷ []) q.text) (λ x r. BeginsWith p.text (32 ∷ t x) r.text × P x) (space p) (λ _ q. each q) (space_told p)
    (λ _ q g. took_so (λ x r. BeginsWith q.text (t x) r.text × P x) (λ x r. BeginsWith p.text (32 ∷ t x) r.text × P x) (each q) (h q)
    (λ x r f. (one_more (32 ∷ []) (t x) g f.0, f.1)))

pub number_told : (limit : ℕ) (p : Place) → IfTook (λ n q. BeginsWith p.text (32 ∷ decimal n) q.text × (n < limit)) (number limit p)
number_told limit p = behind_space (λ n. decimal n) (λ n. n < limit) p (first_number limit) (first_number_told limit)

pub value_told : (p : Place) → IfTook (λ z q. BeginsWith p.text (32 ∷ signed_decimal z) q.text × IsValue z) (value p)
value_told p = behind_space (λ z. signed_decimal z) IsValue p first_value first_value_told

pub next_item_told : (p : Place) → IfTook (λ i q. BeginsWith p.text (32 ∷ i) q.text) (next_item p)
next_item_told p =
    took_so _ _ (next_item p) (behind_space (λ i. i) (λ _. ⊤) p item (λ q. (item_told q, tt))) (λ i q h. h.0)

pub next_word_told : (w : List ℕ) (p : Place) → IfTook (λ _ q. BeginsWith p.text (32 ∷ w) q.text) (next_word w p)
next_word_told w p =
    took_so _ _ (next_word w p) (behind_space (λ (_ : ⊤). w) (λ _. ⊤) p (word w) (λ q. took_so _ _ (word w q) (word_told w q) (λ _ r h. (h, tt)))) (λ _ q h. h.0)

-- ## Several of a kind

pub up_to_told : {A : Type 0} (t : A → List ℕ) (P : A → Type 0) (each : Place → Taken A) →
    ((p : Place) → IfTook (λ x q. BeginsWith p.text (t x) q.text × P x) (each p)) →
    (most : ℕ) (p : Place) → IfTook (λ xs q. BeginsWith p.text (flat_map t xs) q.text × AllByRecursion P xs) (up_to most each p)
up_to_told t P each h zero p = (none_taken p.text, tt)
up_to_told t P each h (suc most) p =
    took_if _ (begins_by is_space p.text) (each p into λ x q. up_to most each q into λ xs r. took (x ∷ xs) r) (took [] p)
    (λ _. took_then _ _ (each p) _ (h p)
    (λ x q g. took_then _ _ (up_to most each q) _ (up_to_told t P each h most q)
    (λ xs r f. (one_more (t x) (flat_map t xs) g.0 f.0, (g.1, f.1)))))
    (λ _. (none_taken p.text, tt))

-- P of each, with its number
abbrev pub AllFrom : {A : Type 0} → (ℕ → A → Type 0) → ℕ → List A → Type 0
AllFrom P k [] = Unit {0}
AllFrom P k (x ∷ xs) = P k x × AllFrom P (suc k) xs

pub exactly_told : {A : Type 0} (t : A → List ℕ) (P : ℕ → A → Type 0) (each : ℕ → Place → Taken A) →
    ((k : ℕ) (p : Place) → IfTook (λ x q. BeginsWith p.text (t x) q.text × P k x) (each k p)) →
    (n k : ℕ) (p : Place) → IfTook (λ xs q. BeginsWith p.text (flat_map t xs) q.text × (length xs ≡ n) × AllFrom P k xs) (exactly n k each p)
exactly_told t P each h zero k p = (none_taken p.text, refl, tt)
exactly_told t P each h (suc n) k p =
    took_then _ _ (each k p) _ (h k p)
    (λ x q g. took_then _ _ (exactly n (suc k) each q) _ (exactly_told t P each h n (suc k) q)
    (λ xs r f. (one_more (t x) (flat_map t xs) g.0 f.0, ap suc f.1, (g.1, f.2))))
