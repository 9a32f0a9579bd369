-- The parts of a text between its commas, one after another, and the numbers that they spell.
use Rattle.std.proofs.Common.{◌≡◌, ◌<◌, ◌≤◌, ◌+◌, ◌∙◌, ◌∷◌, ◌++◌, [], ℕ, Bool, true, false, List, length, take, drop, Option, Some, None, Result, Ok, Err, IfOk, IsOkAnd, arith, rules, ap, refl, sym, suc, ◌-◌, append_assoc}
use Rattle.std.specs.Prelude.{if◌then◌else◌, nat_le, option_and_then, option_map}
use Rattle.std.specs.List.{before_first, after_first, position_or_len}
use Rattle.cw_base.specs.declared.memory.OutOfMemory.{OutOfMemory}
use Rattle.cw_words.specs.Options.{in_front, is_comma, list_below, number_within, numbers_below, parts_of}

-- where there is no comma
pub whole : (text : List ℕ) → position_or_len is_comma text ≡ length text → parts_of text ≡ text ∷ []
whole [] e = refl
whole (c ∷ cs) e = go (is_comma c) refl (whole cs)
  where
    go : (t : Bool) → is_comma c ≡ t → (position_or_len is_comma cs ≡ length cs → parts_of cs ≡ cs ∷ []) → parts_of (c ∷ cs) ≡ (c ∷ cs) ∷ []
    go true i later = let z = rw i at e in absurd (omega arith)
    go false i later = let z = rw i at e in rw i (ap (in_front c) (later (omega arith)))

-- before the first comma, and behind it
pub cut : (text : List ℕ) → position_or_len is_comma text < length text → parts_of text ≡ before_first is_comma text ∷ parts_of (after_first is_comma text)
cut [] l = absurd (omega arith)
cut (c ∷ cs) l = go (is_comma c) refl (cut cs)
  where
    go : (t : Bool) → is_comma c ≡ t → (position_or_len is_comma cs < length cs → parts_of cs ≡ before_first is_comma cs ∷ parts_of (after_first is_comma cs))
        → parts_of (c ∷ cs) ≡ before_first is_comma (c ∷ cs) ∷ parts_of (after_first is_comma (c ∷ cs))
    go true i later = rw i refl
    go false i later =
        let z = rw i at l in
        let k : ℕ = position_or_len is_comma cs in
        let one : 1 + k ≡ suc k = omega arith in
        let two : 1 + k + 1 ≡ suc (k + 1) = omega arith in
        rw i (ap (in_front c) (later (omega arith))
        ∙ ap (λ p. p ∷ parts_of (drop (k + 1) cs)) (sym (ap (λ n. take n (c ∷ cs)) one))
        ∙ ap (λ d. take (1 + k) (c ∷ cs) ∷ parts_of d) (sym (ap (λ n. drop n (c ∷ cs)) two)))

front_some : (c : ℕ) (ps : List (List ℕ)) → 0 < length (in_front c ps)
front_some c [] = omega arith
front_some c (p ∷ ps) = omega arith

pub some : (text : List ℕ) → 0 < length (parts_of text)
some [] = omega arith
some (c ∷ cs) = go (is_comma c)
  where
    go : (t : Bool) → 0 < length (if t then [] ∷ parts_of cs else in_front c (parts_of cs))
    go true = omega arith
    go false = front_some c (parts_of cs)

-- ## The numbers of the parts

abbrev pub behind : (before : List ℕ) → Option (List ℕ) → Option (List ℕ)
behind before ns = option_map (λ ms. before ++ ms) ns

-- what was read of a list, `count` numbers, and what is left of it
pub record IsReading (limit most : ℕ) (text rest : List ℕ) (count : ℕ) (kept : Result (List ℕ) OutOfMemory) : Type 0 where
  pub before : List ℕ
  pub so_far : IfOk kept (λ ns. ns ≡ before)
  pub few : count ≤ most
  pub parts : count + length (parts_of rest) ≡ length (parts_of text)
  pub numbers : numbers_below limit (parts_of text) ≡ behind before (numbers_below limit (parts_of rest))

one_more : (before : List ℕ) (n : ℕ) (ns : Option (List ℕ)) → behind before (option_map (λ ms. n ∷ ms) ns) ≡ behind (before ++ n ∷ []) ns
one_more before n None = refl
one_more before n (Some ms) = ap Some (sym (append_assoc before (n ∷ []) ms))

pub one_longer : (old new : Result (List ℕ) OutOfMemory) (before : List ℕ) (n : ℕ) → IfOk new (λ ns. IsOkAnd old (λ ms. ns ≡ ms ++ n ∷ [])) → IfOk old (λ ms. ms ≡ before) → IfOk new (λ ns. ns ≡ before ++ n ∷ [])
one_longer old (Err e) before n h k = tt
one_longer (Ok ms) (Ok ns) before n h k = h ∙ ap (λ is. is ++ n ∷ []) k
one_longer (Err e) (Ok ns) before n h k = absurd h

module _ (limit most : ℕ) (text rest : List ℕ) (count : ℕ) (kept : Result (List ℕ) OutOfMemory) (i : IsReading limit most text rest count kept) where
  -- as many were read as may be, and more is left
  pub too_many : count ≡ most → list_below limit most text ≡ None
  too_many e = go (nat_le (length (parts_of text)) most) refl
    where
      go : (b : Bool) → nat_le (length (parts_of text)) most ≡ b → list_below limit most text ≡ None
      go false f = rw f refl
      go true f = let l : length (parts_of text) ≤ most = search rules in absurd (omega (arith, some rest, i.parts))

  module _ (part : List ℕ) (parts : List (List ℕ)) (cuts : parts_of rest ≡ part ∷ parts) where
    left : numbers_below limit (parts_of text) ≡ behind i.before (numbers_below limit (part ∷ parts))
    left = i.numbers ∙ ap (λ ps. behind i.before (numbers_below limit ps)) cuts

    module _ (n : ℕ) (e : number_within 0 (limit - 1) part ≡ Some n) where
      more : numbers_below limit (parts_of text) ≡ behind (i.before ++ n ∷ []) (numbers_below limit parts)
      more = left ∙ ap (λ o. behind i.before (option_and_then (λ m. option_map (λ ns. m ∷ ns) (numbers_below limit parts)) o)) e ∙ one_more i.before n (numbers_below limit parts)

      pub goes_on : (new : Result (List ℕ) OutOfMemory) (behind_it : List ℕ) → parts ≡ parts_of behind_it → count < most → IfOk new (λ ns. IsOkAnd kept (λ ms. ns ≡ ms ++ n ∷ [])) → IsReading limit most text behind_it (count + 1) new
      goes_on new behind_it is less h = record {
        before = i.before ++ n ∷ [];
        so_far = one_longer kept new i.before n h i.so_far;
        few = omega arith;
        parts = let one = ap length cuts in let same = ap length is in omega (arith, i.parts);
        numbers = more ∙ ap (λ ps. behind (i.before ++ n ∷ []) (numbers_below limit ps)) is;
      }
