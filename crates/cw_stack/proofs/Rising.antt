-- Lists of numbers that rise, and fronts of lists.
use Rattle.std.proofs.Common.{◌≡◌, ℕ, zero, suc, ◌+◌, ◌-◌, ◌<◌, ◌≤◌, List, [], ◌∷◌, ◌++◌, length, take, drop, get_or, refl, ap, sym, ◌∙◌, arith, Bool, true, false, cond, Option, Some, inl, inr, subst}
use Rattle.std.specs.Prelude.{◌⊎◌, slice_get, filter, IfSome, Contains}
use Rattle.std.specs.List.Sorted.{IsStrictlyIncreasing}
use Rattle.std.proofs.lemmas.Bool.{cases_lt}
use Rattle.std.proofs.lemmas.List.{get_or-take, get_or-drop, get_or_push, length-take-le, length-map, length-drop, length_push, get_or_append_left, get_or-map, drop-map, get_or_default}
use Rattle.std.proofs.lemmas.Option.{same_Some}
use Rattle.cw_tree.specs.declared.access.Entry.{Entry}
use Rattle.cw_tree.specs.AccessStacks.{stamps}
use Rattle.cw_stack.specs.Cells.{newest_entry}

-- an earlier number is less than a later one
pub earlier_less : (ns : List ℕ) → IsStrictlyIncreasing ns → (i j : ℕ) → i < j → j < length ns → get_or ns i 0 < get_or ns j 0
earlier_less ns r i zero h l = absurd (omega arith)
earlier_less ns r i (suc j) h l =
    let next : get_or ns j 0 < get_or ns (j + 1) 0 = r j (omega arith) in
    let same : get_or ns (j + 1) 0 ≡ get_or ns (suc j) 0 = ap (λ k. get_or ns k 0) (let e : j + 1 ≡ suc j = omega arith in e) in
    elim (cases_lt i j) [
      | inl low ↦ (let more : get_or ns i 0 < get_or ns j 0 = earlier_less ns r i j low (omega arith) in omega arith)
      | inr le ↦ (let here : get_or ns i 0 ≡ get_or ns j 0 = ap (λ k. get_or ns k 0) (let e : i ≡ j = omega arith in e) in omega arith)
    ]

pub rising_front : (k : ℕ) (ns : List ℕ) → k ≤ length ns → IsStrictlyIncreasing ns → IsStrictlyIncreasing (take k ns)
rising_front k ns h r i l =
    let len = length-take-le k ns h in
    let next : get_or ns i 0 < get_or ns (i + 1) 0 = r i (omega arith) in
    omega (arith, get_or-take k ns i 0 (omega arith), get_or-take k ns (i + 1) 0 (omega arith))

pub rising_rest : (n : ℕ) (es : List Entry) → IsStrictlyIncreasing (stamps es) → IsStrictlyIncreasing (stamps (drop n es))
rising_rest n es r i l =
    let rest : stamps (drop n es) ≡ drop n (stamps es) = sym (drop-map (λ e. e.mark.stamp) n es) in
    let len = length-drop n (stamps es) in
    let one : get_or (stamps (drop n es)) i 0 ≡ get_or (stamps es) (n + i) 0 = ap (λ ns. get_or ns i 0) rest ∙ get_or-drop n (stamps es) i 0 in
    let two : get_or (stamps (drop n es)) (i + 1) 0 ≡ get_or (stamps es) (n + (i + 1)) 0 = ap (λ ns. get_or ns (i + 1) 0) rest ∙ get_or-drop n (stamps es) (i + 1) 0 in
    let same : get_or (stamps es) (n + (i + 1)) 0 ≡ get_or (stamps es) (n + i + 1) 0 = ap (λ k. get_or (stamps es) k 0) (let e : n + (i + 1) ≡ n + i + 1 = omega arith in e) in
    let next : get_or (stamps es) (n + i) 0 < get_or (stamps es) (n + i + 1) 0 = r (n + i) (omega (arith, ap length rest)) in
    omega arith

-- a number behind those that rise, greater than the last
pub rising_more : (ns : List ℕ) (n : ℕ) → IsStrictlyIncreasing ns → (0 < length ns → get_or ns (length ns - 1) 0 < n) → IsStrictlyIncreasing (ns ++ n ∷ [])
rising_more ns n r last i l = by_place (cases_lt (i + 1) (length ns)) where
  by_place : (i + 1 < length ns) ⊎ (length ns ≤ i + 1) → get_or (ns ++ n ∷ []) i 0 < get_or (ns ++ n ∷ []) (i + 1) 0
  by_place (inl low) =
      let next : get_or ns i 0 < get_or ns (i + 1) 0 = r i low in
      omega (arith, get_or_append_left ns (n ∷ []) 0 i (omega arith), get_or_append_left ns (n ∷ []) 0 (i + 1) low)
  by_place (inr le) =
      let len = length_push ns n in
      let at : i ≡ length ns - 1 = omega arith in
      let old : get_or (ns ++ n ∷ []) i 0 ≡ get_or ns i 0 = get_or_append_left ns (n ∷ []) 0 i (omega arith) in
      let new : get_or (ns ++ n ∷ []) (i + 1) 0 ≡ n = get_or_push ns n 0 (i + 1) (omega arith) in
      let less : get_or ns (length ns - 1) 0 < n = last (omega arith) in
      let same : get_or ns i 0 ≡ get_or ns (length ns - 1) 0 = ap (λ k. get_or ns k 0) at in
      omega arith

-- where those before place k pass a test, and the others do not
pub filter_front : {X : Type 0} (p : X → Bool) (xs : List X) (k : ℕ) → ((i : ℕ) (d : X) → i < k → i < length xs → p (get_or xs i d) ≡ true) → ((i : ℕ) (d : X) → k ≤ i → i < length xs → p (get_or xs i d) ≡ false) → filter p xs ≡ take k xs
filter_front p [] zero yea nay = refl
filter_front p [] (suc k) yea nay = refl
filter_front p (x ∷ xs) zero yea nay =
    ap (λ b. cond b (x ∷ filter p xs) (filter p xs)) (nay 0 x (omega arith) (omega arith))
    ∙ filter_front p xs zero (λ i d h l. absurd (omega arith)) (λ i d h l. nay (suc i) d (omega arith) (omega arith))
filter_front p (x ∷ xs) (suc k) yea nay =
    ap (λ b. cond b (x ∷ filter p xs) (filter p xs)) (yea 0 x (omega arith) (omega arith))
    ∙ ap (λ ys. x ∷ ys) (filter_front p xs k (λ i d h l. yea (suc i) d (omega arith) (omega arith)) (λ i d h l. nay (suc i) d (omega arith) (omega arith)))

-- ## Stamps of entries

pub stamp_at : (es : List Entry) (k : ℕ) (d : Entry) → k < length es → get_or (stamps es) k 0 ≡ (get_or es k d).mark.stamp
stamp_at es k d h = get_or-map (λ e. e.mark.stamp) es k d 0 h

newest_at : (es : List Entry) (k : ℕ) (e : Entry) → slice_get es k ≡ Some e → (k < length es) × ((d : Entry) → get_or es k d ≡ e)
newest_at [] k e h = absurd (cc h)
newest_at (x ∷ es) zero e h = (omega arith, λ d. same_Some x e h)
newest_at (x ∷ es) (suc k) e h = let more = newest_at es k e h in (let low = more.0 in omega arith, more.1)

get_some : (es : List Entry) (k : ℕ) → k < length es → (e : Entry) × (slice_get es k ≡ Some e)
get_some [] k h = absurd (omega arith)
get_some (x ∷ es) zero h = (x, refl)
get_some (x ∷ es) (suc k) h = get_some es k (omega arith)

-- a stamp above the newest entry's is above the last stamp
pub above_last : (es : List Entry) (s : ℕ) → IfSome (newest_entry es) (λ e. e.mark.stamp < s) → 0 < length (stamps es) → get_or (stamps es) (length (stamps es) - 1) 0 < s
above_last es s later h =
    let len : length (stamps es) ≡ length es = length-map es (λ e. e.mark.stamp) in
    let w = get_some es (length es - 1) (omega arith) in
    let P : Option Entry → Type 0 = λ o. IfSome o (λ e. e.mark.stamp < s) in
    let less : w.0.mark.stamp < s = subst P w.1 later in
    let at = newest_at es (length es - 1) w.0 w.1 in
    let same : get_or (stamps es) (length es - 1) 0 ≡ w.0.mark.stamp = stamp_at es (length es - 1) w.0 (omega arith) ∙ ap (λ e. e.mark.stamp) (at.1 w.0) in
    let place : get_or (stamps es) (length (stamps es) - 1) 0 ≡ get_or (stamps es) (length es - 1) 0 = ap (λ k. get_or (stamps es) (k - 1) 0) len in
    omega arith

-- a stamp of what is left of a list is one of the list, at that place or later
pub contains_rest : (n : ℕ) (es : List Entry) (s : ℕ) → Contains (stamps (drop n es)) s → (k : ℕ) × (n ≤ k) × (k < length es) × (get_or (stamps es) k 0 ≡ s)
contains_rest n es s c =
    let rest : stamps (drop n es) ≡ drop n (stamps es) = sym (drop-map (λ e. e.mark.stamp) n es) in
    let len : length (stamps es) ≡ length es = length-map es (λ e. e.mark.stamp) in
    let low = c.1 in
    let there : n + c.0 < length (stamps es) = omega (arith, ap length rest, length-drop n (stamps es)) in
    let here : get_or (stamps es) (n + c.0) s ≡ s = sym (get_or-drop n (stamps es) c.0 s) ∙ ap (λ ns. get_or ns c.0 s) (sym rest) ∙ c.2 in
    (n + c.0, omega arith, omega arith, get_or_default (stamps es) (n + c.0) 0 s there ∙ here)
