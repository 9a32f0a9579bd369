-- The four marks of a split fork, put in and taken out one by one.
use Rattle.std.proofs.Common.{◌≡◌, ◌≢◌, ℕ, suc, ◌+◌, ◌<◌, ◌≤◌, List, [], ◌∷◌, ◌++◌, length, refl, ap, sym, ◌∙◌, arith, Bool, true, false, cond, nat_eq, not, inl, inr, eq-eqb, eqb-true, length-append}
use Rattle.std.specs.Prelude.{◌*◌, ◌&&◌, ◌||◌}
use Rattle.std.specs.List.{filter}
use Rattle.std.proofs.lemmas.Bool.{ne_eqb, cases_eq}
use Rattle.cw_tree.specs.Walks.{has}
use Rattle.cw_trace.specs.Columns.{place_after, opening_mark, closing_mark, is_mark_of}
use Rattle.cw_trace.specs.Keeps.{Distinct}
use Rattle.cw_trace.proofs.Marks.Marking.{has_place, distinct_filter, has_filter}
use Rattle.cw_trace.proofs.Marks.Numbering.{has_cases, lacks_parts}

place_skip : (m : ℕ) (ns ms xs : List ℕ) → has ms m ≡ false → place_after m ns (ms ++ xs) ≡ ms ++ place_after m ns xs
place_skip m ns [] xs h = refl
place_skip m ns (y ∷ ms) xs h =
    let z = lacks_parts y ms m h in
    ap (λ b. cond b (y ∷ (ns ++ (ms ++ xs))) (y ∷ place_after m ns (ms ++ xs))) (ne_eqb y m z.0) ∙ ap (λ ys. y ∷ ys) (place_skip m ns ms xs z.1)

-- numbers ms and then m after a, and n after m
pub place_more : (a m n : ℕ) (ms xs : List ℕ) → has ms m ≡ false → has xs m ≡ false → place_after m (n ∷ []) (place_after a (ms ++ m ∷ []) xs) ≡ place_after a (ms ++ m ∷ n ∷ []) xs
place_more a m n ms [] h g = refl
place_more a m n ms (x ∷ xs) h g =
    let z = lacks_parts x xs m g in
    elim (cases_eq x a) [
      | inl q ↦
          ap (λ b. place_after m (n ∷ []) (cond b (x ∷ ((ms ++ m ∷ []) ++ xs)) (x ∷ place_after a (ms ++ m ∷ []) xs))) (eq-eqb x a q)
          ∙ ap (λ b. cond b (x ∷ (n ∷ ((ms ++ m ∷ []) ++ xs))) (x ∷ place_after m (n ∷ []) ((ms ++ m ∷ []) ++ xs))) (ne_eqb x m z.0)
          ∙ ap (λ ys. x ∷ ys) (ap (place_after m (n ∷ [])) (append_three ms (m ∷ []) xs) ∙ place_skip m (n ∷ []) ms (m ∷ xs) h ∙ ap (λ b. ms ++ cond b (m ∷ n ∷ xs) (m ∷ place_after m (n ∷ []) xs)) (eq-eqb m m refl) ∙ sym (append_three ms (m ∷ n ∷ []) xs))
          ∙ sym (ap (λ b. cond b (x ∷ ((ms ++ m ∷ n ∷ []) ++ xs)) (x ∷ place_after a (ms ++ m ∷ n ∷ []) xs)) (eq-eqb x a q))
      | inr q ↦
          ap (λ b. place_after m (n ∷ []) (cond b (x ∷ ((ms ++ m ∷ []) ++ xs)) (x ∷ place_after a (ms ++ m ∷ []) xs))) (ne_eqb x a q)
          ∙ ap (λ b. cond b (x ∷ (n ∷ place_after a (ms ++ m ∷ []) xs)) (x ∷ place_after m (n ∷ []) (place_after a (ms ++ m ∷ []) xs))) (ne_eqb x m z.0)
          ∙ ap (λ ys. x ∷ ys) (place_more a m n ms xs h z.1)
          ∙ sym (ap (λ b. cond b (x ∷ ((ms ++ m ∷ n ∷ []) ++ xs)) (x ∷ place_after a (ms ++ m ∷ n ∷ []) xs)) (ne_eqb x a q))
    ] where
      append_three : (xs ys zs : List ℕ) → (xs ++ ys) ++ zs ≡ xs ++ (ys ++ zs)
      append_three = Rattle.std.proofs.Common.append_assoc

pub length_place : (a : ℕ) (ns xs : List ℕ) → has xs a ≡ true → length (place_after a ns xs) ≡ length xs + length ns
length_place a ns [] h = absurd (cc h)
length_place a ns (x ∷ xs) h = elim (cases_eq x a) [
  | inl q ↦ ap (λ b. length (cond b (x ∷ (ns ++ xs)) (x ∷ place_after a ns xs))) (eq-eqb x a q) ∙ omega (arith, length-append ns xs)
  | inr q ↦
      ap (λ b. length (cond b (x ∷ (ns ++ xs)) (x ∷ place_after a ns xs))) (ne_eqb x a q)
      ∙ omega (arith, length_place a ns xs (elim (has_cases x xs a h) [ inl e ↦ absurd (q e) | inr e ↦ e ]))
]

-- ## In

-- marks are put in one by one: those of the front ms stand after a already
pub record Stage (a : ℕ) (ms xs ys : List ℕ) : Type 0 where
  pub are : ys ≡ place_after a ms xs
  pub there : has xs a ≡ true

pub stage_has : (a : ℕ) (ms xs ys : List ℕ) → Stage a ms xs ys → (b : ℕ) → has ys b ≡ (has ms b || has xs b)
stage_has a ms xs ys s b = ap (λ zs. has zs b) s.are ∙ has_place a ms xs b s.there

pub stage_length : (a : ℕ) (ms xs ys : List ℕ) → Stage a ms xs ys → length ys ≡ length xs + length ms
stage_length a ms xs ys s = ap length s.are ∙ length_place a ms xs s.there

pub stage_more : (a m n : ℕ) (ms xs ys zs : List ℕ) → has ms m ≡ false → has xs m ≡ false → Stage a (ms ++ m ∷ []) xs ys → zs ≡ place_after m (n ∷ []) ys → Stage a (ms ++ m ∷ n ∷ []) xs zs
stage_more a m n ms xs ys zs h g s e = record { are = e ∙ ap (place_after m (n ∷ [])) s.are ∙ place_more a m n ms xs h g; there = s.there }

-- ## Out

pub length_out : (m : ℕ) (xs : List ℕ) → Distinct xs → has xs m ≡ true → length (filter (λ b. not (nat_eq b m)) xs) + 1 ≡ length xs
length_out m [] d h = absurd (cc h)
length_out m (x ∷ xs) d h = elim (cases_eq x m) [
  | inl q ↦
      ap (λ b. length (cond (not b) (x ∷ filter (λ b. not (nat_eq b m)) xs) (filter (λ b. not (nat_eq b m)) xs)) + 1) (eq-eqb x m q)
      ∙ omega (arith, ap length (all_stay xs (ap (has xs) (sym q) ∙ d.0)))
  | inr q ↦
      ap (λ b. length (cond (not b) (x ∷ filter (λ b. not (nat_eq b m)) xs) (filter (λ b. not (nat_eq b m)) xs)) + 1) (ne_eqb x m q)
      ∙ omega (arith, length_out m xs d.1 (elim (has_cases x xs m h) [ inl e ↦ absurd (q e) | inr e ↦ e ]))
] where
  all_stay : (ys : List ℕ) → has ys m ≡ false → filter (λ b. not (nat_eq b m)) ys ≡ ys
  all_stay [] g = refl
  all_stay (y ∷ ys) g = let z = lacks_parts y ys m g in ap (λ b. cond (not b) (y ∷ filter (λ b. not (nat_eq b m)) ys) (filter (λ b. not (nat_eq b m)) ys)) (ne_eqb y m z.0) ∙ ap (λ zs. y ∷ zs) (all_stay ys z.1)

filter_both : (p q r : ℕ → Bool) → ((x : ℕ) → r x ≡ (p x && q x)) → (xs : List ℕ) → filter q (filter p xs) ≡ filter r xs
filter_both p q r e [] = refl
filter_both p q r e (x ∷ xs) = by_test (p x) (e x) (filter_both p q r e xs) where
  by_test : (a : Bool) → r x ≡ (a && q x) → filter q (filter p xs) ≡ filter r xs → filter q (cond a (x ∷ filter p xs) (filter p xs)) ≡ cond (r x) (x ∷ filter r xs) (filter r xs)
  by_test true f more = ap (λ zs. cond (q x) (x ∷ zs) zs) more ∙ sym (ap (λ b. cond b (x ∷ filter r xs) (filter r xs)) f)
  by_test false f more = more ∙ sym (ap (λ b. cond b (x ∷ filter r xs) (filter r xs)) f)

-- without one mark
abbrev pub out : ℕ → List ℕ → List ℕ
out m xs = filter (λ b. not (nat_eq b m)) xs

abbrev pub all_out : ℕ → List ℕ → List ℕ
all_out f xs = filter (λ b. not (is_mark_of f b || is_mark_of (f + 1) b)) xs

pub next_opening : (f : ℕ) → 2 * f + 2 ≡ opening_mark (f + 1)
next_opening f = omega arith

pub next_closing : (f : ℕ) → 2 * f + 3 ≡ closing_mark (f + 1)
next_closing f = omega arith

pub four_out : (f : ℕ) (xs : List ℕ) → out (2 * f + 3) (out (2 * f + 2) (out (2 * f + 1) (out (2 * f) xs))) ≡ all_out f xs
four_out f xs =
    ap (λ n. out (2 * f + 3) (out n (out (2 * f + 1) (out (2 * f) xs)))) (next_opening f)
    ∙ ap (λ n. out n (out (opening_mark (f + 1)) (out (2 * f + 1) (out (2 * f) xs)))) (next_closing f)
    ∙ ap (λ ys. out (closing_mark (f + 1)) (out (opening_mark (f + 1)) ys)) (filter_both _ _ (λ b. not (nat_eq b (opening_mark f)) && not (nat_eq b (closing_mark f))) (λ x. refl) xs)
    ∙ filter_both _ _ (λ b. not (nat_eq b (opening_mark (f + 1))) && not (nat_eq b (closing_mark (f + 1)))) (λ x. refl) (filter (λ b. not (nat_eq b (opening_mark f)) && not (nat_eq b (closing_mark f))) xs)
    ∙ filter_both _ _ (λ b. not (is_mark_of f b || is_mark_of (f + 1) b)) (λ b. four (nat_eq b (opening_mark f)) (nat_eq b (closing_mark f)) (nat_eq b (opening_mark (f + 1))) (nat_eq b (closing_mark (f + 1)))) xs where
      four : (p q r s : Bool) → not ((p || q) || (r || s)) ≡ ((not p && not q) && (not r && not s))
      four true q r s = refl
      four false true r s = refl
      four false false true s = refl
      four false false false true = refl
      four false false false false = refl

-- a mark is still there where another one went
pub stays_out : (m b : ℕ) (xs : List ℕ) → b ≢ m → has xs b ≡ true → has (out m xs) b ≡ true
stays_out m b xs n h = has_filter (λ b. not (nat_eq b m)) xs b (ap not (ne_eqb b m n)) ∙ h

pub length_four : (f : ℕ) (xs : List ℕ) → Distinct xs → has xs (opening_mark f) ≡ true → has xs (closing_mark f) ≡ true → has xs (opening_mark (f + 1)) ≡ true → has xs (closing_mark (f + 1)) ≡ true → length (all_out f xs) + 4 ≡ length xs
length_four f xs d a b e g =
    let xs1 = out (2 * f) xs in
    let xs2 = out (2 * f + 1) xs1 in
    let xs3 = out (2 * f + 2) xs2 in
    let d1 : Distinct xs1 = distinct_filter (λ b. not (nat_eq b (2 * f))) xs d in
    let d2 : Distinct xs2 = distinct_filter (λ b. not (nat_eq b (2 * f + 1))) xs1 d1 in
    let d3 : Distinct xs3 = distinct_filter (λ b. not (nat_eq b (2 * f + 2))) xs2 d2 in
    let e2 : has xs (2 * f + 2) ≡ true = ap (has xs) (next_opening f) ∙ e in
    let g2 : has xs (2 * f + 3) ≡ true = ap (has xs) (next_closing f) ∙ g in
    let b1 : has xs1 (2 * f + 1) ≡ true = stays_out (2 * f) (2 * f + 1) xs (omega arith) b in
    let e3 : has xs2 (2 * f + 2) ≡ true = stays_out (2 * f + 1) (2 * f + 2) xs1 (omega arith) (stays_out (2 * f) (2 * f + 2) xs (omega arith) e2) in
    let g3 : has xs3 (2 * f + 3) ≡ true = stays_out (2 * f + 2) (2 * f + 3) xs2 (omega arith) (stays_out (2 * f + 1) (2 * f + 3) xs1 (omega arith) (stays_out (2 * f) (2 * f + 3) xs (omega arith) g2)) in
    omega (arith, ap length (sym (four_out f xs)), length_out (2 * f) xs d a, length_out (2 * f + 1) xs1 d1 b1, length_out (2 * f + 2) xs2 d2 e3, length_out (2 * f + 3) xs3 d3 g3)
