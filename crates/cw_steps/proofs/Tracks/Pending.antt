-- Serves `first_begun`, `arounds_of` and `are_within`: the pending blocks around a place, and those around the strands that wait.
use Rattle.std.proofs.Common.{◌≡◌, ℕ, suc, ◌-◌, ◌<◌, ◌≤◌, Bool, true, false, List, [], ◌∷◌, ◌++◌, length, take, drop, reverse, refl, sym, ap, ◌∙◌, subst, arith}
use Rattle.std.specs.Prelude.{nat_le, Option, Some, None, option_to_list}
use Rattle.std.proofs.lemmas.Bool.{and_from, and_parts, leb-true, le-leb}
use Rattle.std.proofs.lemmas.List.{append-nil, drop_at, length-drop, length-map, length-reverse, reverse-append, take-append-drop}
use Rattle.cw_log.specs.declared.log.Above.{Above}
use Rattle.cw_steps.specs.declared.track.Stood.{Stood}
use Rattle.cw_steps.specs.Tracks.{begins, first_begun, innermost_of, arounds_of, are_within}
use Rattle.cw_steps.specs.Stands.{blocks_outside, open_forks}
use Rattle.cw_steps.specs.Around.{innermost, outwards, gone_over}

-- ## Those that were begun first

pub length_first : (n : ℕ) (blocks : List Above) → n ≤ length blocks → length (first_begun n blocks) ≡ n
length_first n blocks le = omega (arith, length-drop (length blocks - n) blocks, le)

pub first_twice : (n : ℕ) (blocks : List Above) → first_begun n (first_begun n blocks) ≡ first_begun n blocks
first_twice n blocks =
    let none : length (first_begun n blocks) - n ≡ 0 = omega (arith, length-drop (length blocks - n) blocks) in
    ap (λ (k : ℕ). drop k (first_begun n blocks)) none

pub first_all : (blocks : List Above) → first_begun (length blocks) blocks ≡ blocks
first_all blocks =
    let none : length blocks - length blocks ≡ 0 = omega arith in
    ap (λ (k : ℕ). drop k blocks) none

pub first_more : (n : ℕ) (a : Above) (blocks : List Above) → n ≤ length blocks → first_begun n (a ∷ blocks) ≡ first_begun n blocks
first_more n a blocks le =
    let one : length (a ∷ blocks) - n ≡ suc (length blocks - n) = omega (arith, le) in
    ap (λ (k : ℕ). drop k (a ∷ blocks)) one

pub first_less : (n : ℕ) (blocks : List Above) → n < length blocks → first_begun n (drop 1 blocks) ≡ first_begun n blocks
first_less n [] l = absurd (omega (arith, l))
first_less n (a ∷ blocks) l = sym (first_more n a blocks (omega (arith, l)))

-- they are the first of a list with the outermost first
pub first_taken : (n : ℕ) (blocks : List Above) → reverse (take n blocks) ≡ first_begun n (reverse blocks)
first_taken n blocks =
    let back : reverse blocks ≡ reverse (drop n blocks) ++ reverse (take n blocks) = ap reverse (sym (take-append-drop n blocks)) ∙ reverse-append (take n blocks) (drop n blocks) in
    let many : length (reverse (drop n blocks)) ≡ length (reverse blocks) - n = omega (arith, length-reverse (drop n blocks), length-drop n blocks, length-reverse blocks) in
    sym (ap (drop (length (reverse blocks) - n)) back ∙ drop_at (reverse (drop n blocks)) (reverse (take n blocks)) (length (reverse blocks) - n) many)

-- the innermost is taken away
no_length : (blocks : List Above) → length blocks ≡ 0 → blocks ≡ []
no_length [] e = refl
no_length (a ∷ blocks) e = absurd (omega (arith, e))

pub popped : (old new : List Above) (o : Option Above) → old ≡ new ++ option_to_list o → (o ≡ None → length old ≡ 0) → (o ≡ innermost_of (reverse old)) × (reverse new ≡ drop 1 (reverse old))
popped old new (Some a) e none =
    let back : reverse old ≡ a ∷ reverse new = ap reverse e ∙ reverse-append new (a ∷ []) in
    (sym (ap innermost_of back), sym (ap (λ (bs : List Above). drop 1 bs) back))
popped old new None e none =
    let empty : old ≡ [] = no_length old (none refl) in
    let too : new ≡ [] = sym (append-nil new) ∙ sym e ∙ empty in
    (sym (ap (λ (bs : List Above). innermost_of (reverse bs)) empty), ap reverse too ∙ sym (ap (λ (bs : List Above). drop 1 (reverse bs)) empty))

-- ## Around strands that wait

pub head_within : (n : ℕ) (o : Stood) (os : List Stood) → are_within n (o ∷ os) ≡ true → o.pending ≤ n
head_within n o os h = leb-true o.pending n (and_parts (nat_le o.pending n) (are_within o.pending os) h).0

pub rest_within : (n : ℕ) (o : Stood) (os : List Stood) → are_within n (o ∷ os) ≡ true → are_within o.pending os ≡ true
rest_within n o os h = (and_parts (nat_le o.pending n) (are_within o.pending os) h).1

pub both_within : (n : ℕ) (o : Stood) (os : List Stood) → o.pending ≤ n → are_within o.pending os ≡ true → are_within n (o ∷ os) ≡ true
both_within n o os le h = and_from (nat_le o.pending n) (are_within o.pending os) (le-leb o.pending n le) h

pub more_within : (n m : ℕ) (os : List Stood) → n ≤ m → are_within n os ≡ true → are_within m os ≡ true
more_within n m [] le h = refl
more_within n m (o ∷ os) le h = both_within m o os (omega (arith, le, head_within n o os h)) (rest_within n o os h)

pub innermost_around : (blocks : List Above) (os : List Stood) → innermost (arounds_of blocks os) ≡ begins blocks
innermost_around blocks [] = refl
innermost_around blocks (o ∷ os) = refl

-- with a block more, or the innermost less
pub arounds_more : (a : Above) (blocks : List Above) (os : List Stood) → are_within (length blocks) os ≡ true
    → arounds_of (a ∷ blocks) os ≡ (a.begin ∷ innermost (arounds_of blocks os)) ∷ outwards (arounds_of blocks os)
arounds_more a blocks [] h = refl
arounds_more a blocks (o ∷ os) h = ap (λ (bs : List Above). (a.begin ∷ begins blocks) ∷ arounds_of bs os) (first_more o.pending a blocks (head_within (length blocks) o os h))

begins_less : (blocks : List Above) → begins (drop 1 blocks) ≡ drop 1 (begins blocks)
begins_less [] = refl
begins_less (a ∷ blocks) = refl

-- the innermost is not around the strand that waits
abbrev pub IsOwn : List Above → List Stood → Type 0
IsOwn blocks [] = 0 < length blocks
IsOwn blocks (o ∷ os) = o.pending < length blocks

pub arounds_less : (blocks : List Above) (os : List Stood) → IsOwn blocks os
    → arounds_of (drop 1 blocks) os ≡ drop 1 (innermost (arounds_of blocks os)) ∷ outwards (arounds_of blocks os)
arounds_less blocks [] h = ap (λ (bs : List ℕ). bs ∷ []) (begins_less blocks)
arounds_less blocks (o ∷ os) h = λ i. begins_less blocks i ∷ arounds_of (first_less o.pending blocks h i) os

length_less : (blocks : List Above) → length (drop 1 blocks) ≡ length blocks - 1
length_less blocks = length-drop 1 blocks

pub within_less : (blocks : List Above) (os : List Stood) → IsOwn blocks os → are_within (length blocks) os ≡ true → are_within (length (drop 1 blocks)) os ≡ true
within_less blocks [] own h = refl
within_less blocks (o ∷ os) own h = both_within (length (drop 1 blocks)) o os (omega (arith, own, length_less blocks)) (rest_within (length blocks) o os h)

-- as what a token stands for has it
pub is_own : (blocks : List Above) (os : List Stood) (ws : List (List ℕ)) → ws ≡ arounds_of blocks os → are_within (length blocks) os ≡ true
    → blocks_outside (open_forks os (outwards ws)) < length (innermost ws) → IsOwn blocks os
is_own blocks [] ws e h less =
    let around : length (innermost ws) ≡ length blocks = ap (λ us. length (innermost us)) e ∙ length-map blocks (λ a. a.begin) in
    omega (arith, less, around)
is_own blocks (o ∷ os) ws e h less =
    let around : length (innermost ws) ≡ length blocks = ap (λ us. length (innermost us)) e ∙ length-map blocks (λ a. a.begin) in
    let out : length (innermost (outwards ws)) ≡ length (first_begun o.pending blocks) =
    ap (λ us. length (innermost (outwards us))) e ∙ ap length (innermost_around (first_begun o.pending blocks) os) ∙ length-map (first_begun o.pending blocks) (λ a. a.begin) in
    omega (arith, less, around, out, length_first o.pending blocks (head_within (length blocks) o os h))

-- ## Outwards

pub over_or_not : (second : Bool) (ws : List (List ℕ)) → outwards (gone_over second ws) ≡ outwards ws
over_or_not true ws = refl
over_or_not false ws = refl

module _ (blocks : List Above) (o : Stood) (os : List Stood) (ws : List (List ℕ)) (e : outwards ws ≡ arounds_of (first_begun o.pending blocks) os) (h : are_within (length blocks) (o ∷ os) ≡ true) where
  abbrev few : List Above
  few = first_begun o.pending blocks

  few_are : length few ≡ o.pending
  few_are = length_first o.pending blocks (head_within (length blocks) o os h)

  -- in the right strand of the same fork
  pub arounds_over : (p : Stood) → p.pending ≡ o.pending → innermost (outwards ws) ∷ outwards ws ≡ arounds_of few (p ∷ os)
  arounds_over p same =
      (λ i. innermost (e i) ∷ e i) ∙ ap (λ (b : List ℕ). b ∷ arounds_of few os) (innermost_around few os)
      ∙ ap (λ (bs : List Above). begins few ∷ arounds_of bs os) (sym (first_twice o.pending blocks) ∙ ap (λ (n : ℕ). first_begun n few) (sym same))

  pub within_over : (p : Stood) → p.pending ≡ o.pending → are_within (length few) (p ∷ os) ≡ true
  within_over p same = both_within (length few) p os (omega (arith, same, few_are)) (subst (λ (n : ℕ). are_within n os ≡ true) (sym same) (rest_within (length blocks) o os h))

  pub within_out : are_within (length few) os ≡ true
  within_out = subst (λ (n : ℕ). are_within n os ≡ true) (sym few_are) (rest_within (length blocks) o os h)
