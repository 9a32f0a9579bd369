-- What a roll leaves and takes: by stamps, and in a tree.
use Rattle.std.proofs.Common.{◌≡◌, ℕ, suc, ◌+◌, ◌-◌, ◌<◌, ◌≤◌, ℤ, List, [], ◌∷◌, ◌++◌, length, map, take, drop, get_or, refl, ap, sym, ◌∙◌, arith, Bool, true, cond, Some, inl, inr, subst, nat_lt, length-append}
use Rattle.std.specs.Prelude.{not, filter, find, Contains}
use Rattle.std.specs.List.{prefix_len}
use Rattle.std.specs.List.Sorted.{IsStrictlyIncreasing}
use Rattle.std.proofs.lemmas.Bool.{cases_lt, cases_Bool, lt-ltb, le-ltb}
use Rattle.std.proofs.lemmas.List.{length-map, length-take-le, drop_at, get_or-map, get_or_default}
use Rattle.std.proofs.lemmas.Option.{same_Some}
use Rattle.cw_tree.specs.declared.node.Node.{Node}
use Rattle.cw_tree.specs.declared.access.Entry.{Entry}
use Rattle.cw_tree.specs.Nodes.{stamp_of, is_pending}
use Rattle.cw_tree.specs.Walks.{IsRooted, is_above}
use Rattle.cw_tree.specs.Accesses.{written}
use Rattle.cw_tree.specs.Cancels.{before_block}
use Rattle.cw_tree.specs.AccessStacks.{written_by, stamps, IsAccessStack}
use Rattle.cw_tree.proofs.ChainLaws.Chains.{beneath_is_end}
use Rattle.cw_tree.proofs.ChainLaws.Stacks.{stack_there, stacks_tell, fronts_of_stacks}
use Rattle.cw_stack.proofs.Rising.{earlier_less, filter_front, stamp_at, contains_rest}

-- the entries with smaller stamps are those before the entry with the stamp
pub smaller_front : (es : List Entry) (k s : ℕ) → IsStrictlyIncreasing (stamps es) → k < length es → get_or (stamps es) k 0 ≡ s → filter (λ e. nat_lt e.mark.stamp s) es ≡ take k es
smaller_front es k s r h e =
    let len : length (stamps es) ≡ length es = length-map es (λ x. x.mark.stamp) in
    filter_front (λ x. nat_lt x.mark.stamp s) es k
    (λ i d low l.
    let less : get_or (stamps es) i 0 < get_or (stamps es) k 0 = earlier_less (stamps es) r i k low (omega arith) in
    lt-ltb (get_or es i d).mark.stamp s (omega (arith, stamp_at es i d l)))
    (λ i d le l.
    le-ltb (get_or es i d).mark.stamp s (omega (arith, stamp_at es i d l, not_less i le l))) where
      not_less : (i : ℕ) → k ≤ i → i < length es → s ≤ get_or (stamps es) i 0
      not_less i le l =
          let len : length (stamps es) ≡ length es = length-map es (λ x. x.mark.stamp) in
          elim (cases_lt k i) [
            | inl low ↦ (let less : get_or (stamps es) k 0 < get_or (stamps es) i 0 = earlier_less (stamps es) r k i low (omega arith) in omega arith)
            | inr ge ↦ (let same : get_or (stamps es) k 0 ≡ get_or (stamps es) i 0 = ap (λ n. get_or (stamps es) n 0) (let q : k ≡ i = omega arith in q) in omega arith)
          ]

-- two entries with one stamp are one
pub one_place : (ns : List ℕ) → IsStrictlyIncreasing ns → (i j : ℕ) → i < length ns → j < length ns → get_or ns i 0 ≡ get_or ns j 0 → i ≡ j
one_place ns r i j hi hj e =
    elim (cases_lt i j) [
      | inl low ↦ (let less : get_or ns i 0 < get_or ns j 0 = earlier_less ns r i j low hj in absurd (omega arith))
      | inr le ↦
          elim (cases_lt j i) [
            | inl low ↦ (let less : get_or ns j 0 < get_or ns i 0 = earlier_less ns r j i low hi in absurd (omega arith))
            | inr ge ↦ omega arith
          ]
    ]

-- the first that passes is the first of those that pass
first_of_passed : (p : ℕ → Bool) (xs : List ℕ) (n : ℕ) → find p xs ≡ Some n → (ys : List ℕ) × (filter p xs ≡ n ∷ ys)
first_of_passed p [] n e = absurd (cc e)
first_of_passed p (x ∷ xs) n e =
    elim (cases_Bool (p x)) [
      | inl g ↦ (filter p xs, ap (λ b. cond b (x ∷ filter p xs) (filter p xs)) g ∙ ap (λ m. m ∷ filter p xs) (same_Some x n (sym (ap (λ b. cond b (Some x) (find p xs)) g) ∙ e)))
      | inr g ↦
          (let more = first_of_passed p xs n (sym (ap (λ b. cond b (Some x) (find p xs)) g) ∙ e) in
          (more.0, ap (λ b. cond b (x ∷ filter p xs) (filter p xs)) g ∙ more.1))
    ]

get_behind : {X : Type 0} (xs ys : List X) (n d : X) → get_or (xs ++ n ∷ ys) (length xs) d ≡ n
get_behind [] ys n d = refl
get_behind (x ∷ xs) ys n d = get_behind xs ys n d

-- the entries from that of the first access beneath a pending block on are those of the accesses beneath it
pub beneath_taken : (t : List Node) (c b n : ℕ) (v : ℤ) (us : List ℕ) (es : List Entry) (k s : ℕ)
    → IsRooted t → IsAccessStack t c v us es → is_pending t b ≡ true → find (is_above t b) us ≡ Some n → stamp_of t n ≡ s
    → IsStrictlyIncreasing (stamps es) → k < length es → get_or (stamps es) k 0 ≡ s → drop k us ≡ filter (is_above t b) us
beneath_taken t c b n v us es k s r w pending first stamp rise h at =
    let test : ℕ → Bool = is_above t b in
    let before : List ℕ = filter (λ u. not (test u)) us in
    let parts : us ≡ before ++ filter test us = beneath_is_end t b us r (stack_there t c us w.accesses) pending w.chain in
    let head = first_of_passed test us n first in
    let whole : us ≡ before ++ n ∷ head.0 = parts ∙ ap (λ ys. before ++ ys) head.1 in
    let tell : stamps es ≡ map (stamp_of t) us = (stacks_tell t c v us es w).1 in
    let len : length (stamps es) ≡ length es = length-map es (λ x. x.mark.stamp) in
    let size : length (map (stamp_of t) us) ≡ length us = length-map us (stamp_of t) in
    let sizes : length (before ++ n ∷ head.0) ≡ length before + length (n ∷ head.0) = length-append before (n ∷ head.0) in
    let low : length before < length us = omega (arith, ap length whole) in
    let named : get_or (stamps es) (length before) 0 ≡ s = ap (λ ns. get_or ns (length before) 0) tell
    ∙ get_or-map (stamp_of t) us (length before) 0 0 low
    ∙ ap (stamp_of t) (ap (λ xs. get_or xs (length before) 0) whole ∙ get_behind before head.0 n 0)
    ∙ stamp in
    let place : k ≡ length before = one_place (stamps es) rise k (length before) (omega arith) (omega (arith, ap length tell)) (at ∙ sym named) in
    ap (λ i. drop i us) place
    ∙ ap (drop (length before)) parts
    ∙ drop_at before (filter test us) (length before) refl

-- the first that passes stands behind just those that come before any that pass
first_behind : (p : ℕ → Bool) (xs : List ℕ) (n : ℕ) → find p xs ≡ Some n → let k = prefix_len (λ x. not (p x)) xs in (k < length xs) × (get_or xs k 0 ≡ n)
first_behind p [] n e = absurd (cc e)
first_behind p (x ∷ xs) n e =
    elim (cases_Bool (p x)) [
      | inl g ↦
          (let none : prefix_len (λ y. not (p y)) (x ∷ xs) ≡ 0 = ap (λ b. cond (not b) (1 + prefix_len (λ y. not (p y)) xs) 0) g in
          (omega (arith, none), ap (λ i. get_or (x ∷ xs) i 0) none ∙ same_Some x n (sym (ap (λ b. cond b (Some x) (find p xs)) g) ∙ e)))
      | inr g ↦
          (let more = first_behind p xs n (sym (ap (λ b. cond b (Some x) (find p xs)) g) ∙ e) in
          let low = more.0 in
          let one : prefix_len (λ y. not (p y)) (x ∷ xs) ≡ 1 + prefix_len (λ y. not (p y)) xs = ap
          (λ b. cond (not b) (1 + prefix_len (λ y. not (p y)) xs) 0) g in (
            omega (arith, one),
            ap (λ i. get_or (x ∷ xs) i 0) (let e : prefix_len (λ y. not (p y)) (x ∷ xs)
                ≡ suc (prefix_len (λ y. not (p y)) xs) = omega (arith, one) in e) ∙ more.1,
          ))
    ]

-- the entries before that of the first access beneath a block are those of the accesses before it
pub beneath_before : (t : List Node) (c b n : ℕ) (v : ℤ) (us : List ℕ) (es : List Entry) (k s : ℕ)
    → IsAccessStack t c v us es → find (is_above t b) us ≡ Some n → stamp_of t n ≡ s
    → IsStrictlyIncreasing (stamps es) → k < length es → get_or (stamps es) k 0 ≡ s → map written_by (take k es) ≡ map (written t) (before_block t b us)
beneath_before t c b n v us es k s w first stamp rise h at =
    let head = first_behind (is_above t b) us n first in
    let i = prefix_len (λ u. not (is_above t b u)) us in
    let low = head.0 in
    let tell : stamps es ≡ map (stamp_of t) us = (stacks_tell t c v us es w).1 in
    let len : length (stamps es) ≡ length es = length-map es (λ x. x.mark.stamp) in
    let size : length (map (stamp_of t) us) ≡ length us = length-map us (stamp_of t) in
    let named : get_or (stamps es) i 0 ≡ s = ap (λ ns. get_or ns i 0) tell ∙ get_or-map (stamp_of t) us i 0 0 low ∙ ap (stamp_of t) head.1 ∙ stamp in
    let place : k ≡ i = one_place (stamps es) rise k i (omega arith) (omega (arith, ap length tell)) (at ∙ sym named) in
    (stacks_tell t c v (take k us) (take k es) (fronts_of_stacks t c k v us es w)).0 ∙ ap (λ j. map (written t) (take j us)) place

-- what is left of the entries goes with what is left of the accesses
pub stays : (t : List Node) (c k : ℕ) (v : ℤ) (us : List ℕ) (es : List Entry) → k < length es → IsAccessStack t c v us es → IsAccessStack t c v (take (length (take k es)) us) (take k es)
stays t c k v us es h w =
    let P : ℕ → Type 0 = λ n. IsAccessStack t c v (take n us) (take k es) in
    subst P (sym (length-take-le k es (omega arith))) (fronts_of_stacks t c k v us es w)

-- ## The place of a stamp

-- a walk down from the newest stops at the entry with the stamp
pub stopped_at : (es : List Entry) (s k : ℕ) (d : Entry) → IsStrictlyIncreasing (stamps es) → Contains (stamps es) s → k < length es → (get_or es k d).mark.stamp ≤ s
    → ((i : ℕ) → i < length es → get_or (stamps es) i 0 ≡ s → i ≤ k) → get_or (stamps es) k 0 ≡ s
stopped_at es s k d r c h le below =
    let len : length (stamps es) ≡ length es = length-map es (λ x. x.mark.stamp) in
    let low = c.1 in
    let there : c.0 < length es = omega arith in
    let at : get_or (stamps es) c.0 0 ≡ s = get_or_default (stamps es) c.0 0 s low ∙ c.2 in
    let here = stamp_at es k d h in
    let not_past : c.0 ≤ k = below c.0 there at in
    elim (cases_lt c.0 k) [
      | inl less ↦ (let more : get_or (stamps es) c.0 0 < get_or (stamps es) k 0 = earlier_less (stamps es) r c.0 k less (omega arith) in absurd (omega arith))
      | inr ge ↦ ap (λ i. get_or (stamps es) i 0) (let q : k ≡ c.0 = omega arith in q) ∙ at
    ]

-- it goes on down where the stamp is greater
pub goes_down : (es : List Entry) (s k : ℕ) (d : Entry) → k < length es → s < (get_or es k d).mark.stamp
    → ((i : ℕ) → i < length es → get_or (stamps es) i 0 ≡ s → i ≤ k) → (i : ℕ) → i < length es → get_or (stamps es) i 0 ≡ s → i ≤ k - 1
goes_down es s k d h less below i there e =
    let le : i ≤ k = below i there e in
    let here = stamp_at es k d h in
    elim (cases_lt i k) [ inl low ↦ omega arith | inr ge ↦ (let same : get_or (stamps es) i 0 ≡ get_or (stamps es) k 0 = ap (λ j. get_or (stamps es) j 0) (let q : i ≡ k = omega arith in q) in absurd (omega arith)) ]

-- an entry that was not cleaned stands behind those that were
pub not_cleaned : (es : List Entry) (cleaned s k : ℕ) → IsStrictlyIncreasing (stamps es) → Contains (stamps (drop cleaned es)) s → k < length es → get_or (stamps es) k 0 ≡ s → cleaned ≤ k
not_cleaned es cleaned s k r c h e =
    let w = contains_rest cleaned es s c in
    let len : length (stamps es) ≡ length es = length-map es (λ x. x.mark.stamp) in
    let le = w.1 in
    let low = w.2 in
    let same : w.0 ≡ k = one_place (stamps es) r w.0 k (omega arith) (omega arith) (w.3 ∙ sym e) in
    omega arith

pub contained : (es : List Entry) (cleaned s : ℕ) → Contains (stamps (drop cleaned es)) s → Contains (stamps es) s
contained es cleaned s c =
    let w = contains_rest cleaned es s c in
    let len : length (stamps es) ≡ length es = length-map es (λ x. x.mark.stamp) in
    let low = w.2 in
    let there : w.0 < length (stamps es) = omega arith in
    (w.0, there, get_or_default (stamps es) w.0 s 0 there ∙ w.3)

-- where a list is split at an entry with the stamp, that is its place
pub split_at : (es fs gs : List Entry) (e : Entry) (k s : ℕ) (d : Entry) → es ≡ fs ++ e ∷ gs → e.mark.stamp ≡ s → IsStrictlyIncreasing (stamps es) → k < length es → get_or (stamps es) k 0 ≡ s → get_or es k d ≡ e
split_at es fs gs e k s d q stamp r h at =
    let len : length (stamps es) ≡ length es = length-map es (λ x. x.mark.stamp) in
    let size : length (fs ++ e ∷ gs) ≡ length fs + length (e ∷ gs) = length-append fs (e ∷ gs) in
    let low : length fs < length es = omega (arith, ap length q) in
    let here : get_or es (length fs) d ≡ e = ap (λ xs. get_or xs (length fs) d) q ∙ get_behind fs gs e d in
    let named : get_or (stamps es) (length fs) 0 ≡ s = stamp_at es (length fs) d low ∙ ap (λ x. x.mark.stamp) here ∙ stamp in
    ap (λ i. get_or es i d) (one_place (stamps es) r k (length fs) (omega arith) (omega arith) (at ∙ sym named)) ∙ here
