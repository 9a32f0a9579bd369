-- Labels that are spread over a part of a list.
use Rattle.std.proofs.Common.{ℕ, suc, ◌+◌, ◌*◌, ◌<◌, ◌≤◌, ◌≡◌, List, [], ◌∷◌, ◌++◌, length, map, get_or, set, refl, sym, ap, ◌∙◌, subst, arith, inl, inr}
use Rattle.std.specs.Prelude.{◌⊎◌}
use Rattle.std.specs.List.{AllByRecursion, Contains}
use Rattle.std.proofs.lemmas.List.{map-append, get_or-set_other, get_or-set_same, length-set}
use Rattle.cw_order.specs.Links.{walk, first_or, Rise, Lacks, AreApart, spread_over}
use Rattle.cw_order.proofs.Apart.{AreDisjoint, has_or_lacks, apart_parts, apart_across, disjoint_turned, disjoint_parts}
use Rattle.cw_order.proofs.Rising.{rise_whole, rise_less}

-- what the numbers of a list have in an array
abbrev pub read_all : List ℕ → List ℕ → List ℕ
read_all labels xs = map (λ x. get_or labels x 0) xs

pub read_all-append : (labels xs ys : List ℕ) → read_all labels (xs ++ ys) ≡ read_all labels xs ++ read_all labels ys
read_all-append labels xs ys = map-append (λ x. get_or labels x 0) xs ys

pub read_all-set : (labels xs : List ℕ) (i v : ℕ) → Lacks xs i → read_all (set labels i v) xs ≡ read_all labels xs
read_all-set labels [] i v l = refl
read_all-set labels (x ∷ xs) i v l = cc (get_or-set_other labels i x v 0 l.0, read_all-set labels xs i v l.1)

pub spread-beside : (run xs : List ℕ) (base gap : ℕ) (labels : List ℕ) → AreDisjoint run xs → read_all (spread_over run base gap labels) xs ≡ read_all labels xs
spread-beside [] xs base gap labels d = refl
spread-beside (x ∷ run) xs base gap labels d = spread-beside run xs (base + gap) gap (set labels x base) d.1 ∙ read_all-set labels xs x base d.0

pub spread-lacks : (run : List ℕ) (y base gap : ℕ) (labels : List ℕ) → Lacks run y → get_or (spread_over run base gap labels) y 0 ≡ get_or labels y 0
spread-lacks [] y base gap labels l = refl
spread-lacks (x ∷ run) y base gap labels l =
    spread-lacks run y (base + gap) gap (set labels x base) l.1 ∙ get_or-set_other labels x y base 0 (λ e. l.0 (sym e))

-- a place has its label as before, if it is not in the run
pub spread_keeps : (run : List ℕ) (base gap : ℕ) (labels : List ℕ) (x : ℕ) → Contains run x ⊎ (get_or (spread_over run base gap labels) x 0 ≡ get_or labels x 0)
spread_keeps run base gap labels x = elim (has_or_lacks run x) [ inl h ↦ inl h | inr l ↦ inr (spread-lacks run x base gap labels l) ]

pub spread-first : (x : ℕ) (run : List ℕ) (base gap : ℕ) (labels : List ℕ) → Lacks run x → x < length labels → get_or (spread_over (x ∷ run) base gap labels) x 0 ≡ base
spread-first x run base gap labels l h = spread-lacks run x (base + gap) gap (set labels x base) l ∙ get_or-set_same labels x base 0 h

pub spread_rises : (run : List ℕ) (base gap : ℕ) (labels : List ℕ) (t : ℕ) → AreApart run → AllByRecursion (λ x. x < length labels) run → base + length run * gap ≤ t → Rise gap (read_all (spread_over run base gap labels) run) t
spread_rises [] base gap labels t a w h = tt
spread_rises (x ∷ []) base gap labels t a w h = let e = spread-first x [] base gap labels tt w.0 in (omega (arith, e, h), tt)
spread_rises (x ∷ y ∷ run) base gap labels t a w h =
    let e = spread-first x (y ∷ run) base gap labels a.0 w.0 in
    let more = spread_rises (y ∷ run) (base + gap) gap (set labels x base) t a.1 (subst (λ n. AllByRecursion (λ z. z < n) (y ∷ run)) (sym (length-set labels x base)) w.1) (omega (arith, h)) in
    let second = spread-first y run (base + gap) gap (set labels x base) a.1.0 (omega (arith, w.1.0, length-set labels x base)) in
    (omega (arith, e, second), more)

-- the whole list, where the labels of the run were spread between those of its front and its back
pub spread_whole : (front run back : List ℕ) (base gap : ℕ) (labels : List ℕ) (t : ℕ)
    → AreApart (front ++ (run ++ back))
    → AllByRecursion (λ x. x < length labels) run
    → 0 < length run
    → Rise 1 (read_all labels front) base
    → Rise 1 (read_all labels back) t
    → base + length run * gap ≤ first_or (read_all labels back) t
    → 1 ≤ gap
    → Rise 1 (read_all (spread_over run base gap labels) (front ++ (run ++ back))) t
spread_whole front [] back base gap labels t a w some rf rb room g = absurd (omega arith)
spread_whole front (x ∷ run) back base gap labels t a w some rf rb room g =
    let inner = apart_parts front (x ∷ run ++ back) a in
    let outer = disjoint_parts front (x ∷ run) back (apart_across front (x ∷ run ++ back) a) in
    let parts = apart_parts (x ∷ run) back inner.1 in
    let ls = spread_over (x ∷ run) base gap labels in
    let before : read_all ls front ≡ read_all labels front = spread-beside (x ∷ run) front base gap labels (disjoint_turned front (x ∷ run) outer.0) in
    let behind : read_all ls back ≡ read_all labels back = spread-beside (x ∷ run) back base gap labels (apart_across (x ∷ run) back inner.1) in
    let first = spread-first x run base gap labels parts.0.0 w.0 in
    let within = rise_less gap 1 (read_all ls (x ∷ run)) (first_or (read_all labels back) t) g (spread_rises (x ∷ run) base gap labels (first_or (read_all labels back) t) parts.0 w room) in
    let rest : Rise 1 (read_all ls (x ∷ run) ++ read_all labels back) t = rise_whole 1 (read_all ls (x ∷ run)) (read_all labels back) t within rb in
    let all : Rise 1 (read_all labels front ++ (read_all ls (x ∷ run) ++ read_all labels back)) t =
    rise_whole 1 (read_all labels front) (read_all ls (x ∷ run) ++ read_all labels back) t (subst (Rise 1 (read_all labels front)) (sym first) rf) rest in
    let joined : read_all ls (front ++ (x ∷ run ++ back)) ≡ read_all labels front ++ (read_all ls (x ∷ run) ++ read_all labels back) =
    read_all-append ls front (x ∷ run ++ back) ∙ (ap (λ z. z ++ read_all ls (x ∷ run ++ back)) before ∙ ap (λ z. read_all labels front ++ z) (read_all-append ls (x ∷ run) back ∙ ap (λ z. read_all ls (x ∷ run) ++ z) behind)) in
    subst (λ ns. Rise 1 ns t) (sym joined) all

-- one place of a walk gets its label
pub spread_more : (next labels : List ℕ) (at left label gap rest : ℕ) → left ≡ suc rest → spread_over (walk next at left) label gap labels ≡ spread_over (walk next (get_or next at 0) rest) (label + gap) gap (set labels at label)
spread_more next labels at left label gap rest e = ap (λ n. spread_over (walk next at n) label gap labels) e
