-- Numbers that rise, cut and joined, and which of two is the less.
use Rattle.std.proofs.Common.{ℕ, zero, suc, ◌+◌, ◌<◌, ◌≤◌, ◌≡◌, List, [], ◌∷◌, ◌++◌, length, get_or, refl, ap, arith}
use Rattle.cw_order.specs.Links.{first_or, Rise}
use Rattle.cw_order.proofs.Linking.{first_or-append}

pub rise_parts : (gap : ℕ) (ms ns : List ℕ) (t : ℕ) → Rise gap (ms ++ ns) t → Rise gap ms (first_or ns t) × Rise gap ns t
rise_parts gap [] ns t h = (tt, h)
rise_parts gap (m ∷ ms) ns t h =
    let e = first_or-append ms ns t in
    let more = rise_parts gap ms ns t h.1 in
    let below : m + gap ≤ first_or ms (first_or ns t) = omega (arith, e, h.0) in
    ((below, more.0), more.1)

pub rise_whole : (gap : ℕ) (ms ns : List ℕ) (t : ℕ) → Rise gap ms (first_or ns t) → Rise gap ns t → Rise gap (ms ++ ns) t
rise_whole gap [] ns t h more = more
rise_whole gap (m ∷ ms) ns t h more =
    let e = first_or-append ms ns t in
    let below : m + gap ≤ first_or (ms ++ ns) t = omega (arith, e, h.0) in
    (below, rise_whole gap ms ns t h.1 more)

-- a smaller gap
pub rise_less : (gap less : ℕ) (ns : List ℕ) (t : ℕ) → less ≤ gap → Rise gap ns t → Rise less ns t
rise_less gap less [] t h r = tt
rise_less gap less (n ∷ ns) t h r = (omega (arith, r.0), rise_less gap less ns t h r.1)

-- the last number alone has to do with what lies beyond
pub rise_to : (gap : ℕ) (ns : List ℕ) (s t : ℕ) → Rise gap ns s → ((k : ℕ) → suc k ≡ length ns → get_or ns k 0 + gap ≤ t) → Rise gap ns t
rise_to gap [] s t r last = tt
rise_to gap (n ∷ []) s t r last = (last 0 refl, tt)
rise_to gap (n ∷ m ∷ ns) s t r last = (r.0, rise_to gap (m ∷ ns) s t r.1 (λ k e. last (suc k) (ap suc e)))

pub rise_first : (gap : ℕ) (ns : List ℕ) (t k : ℕ) → Rise gap ns t → k < length ns → first_or ns t ≤ get_or ns k 0
rise_first gap [] t k r h = absurd (omega arith)
rise_first gap (n ∷ ns) t zero r h = omega arith
rise_first gap (n ∷ []) t (suc k) r h = absurd (omega arith)
rise_first gap (n ∷ m ∷ ns) t (suc k) r h = let more = rise_first gap (m ∷ ns) t k r.1 (omega arith) in omega (arith, r.0, more)

-- the first of two places in the list has the smaller number
pub rise_places : (gap : ℕ) (ns : List ℕ) (t i j : ℕ) → 0 < gap → Rise gap ns t → i < j → j < length ns → get_or ns i 0 < get_or ns j 0
rise_places gap [] t i j g r h l = absurd (omega arith)
rise_places gap (n ∷ ns) t i zero g r h l = absurd (omega arith)
rise_places gap (n ∷ ns) t zero (suc j) g r h l = let more = rise_first gap ns t j r.1 (omega arith) in omega (arith, r.0, more)
rise_places gap (n ∷ ns) t (suc i) (suc j) g r h l = rise_places gap ns t i j g r.1 (omega arith) (omega arith)
