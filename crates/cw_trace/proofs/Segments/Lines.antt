-- What the division into segments tells: owners and gaps go down, owners are traces, a segment's strands have its gap or newer ones.
use Rattle.std.proofs.Common.{◌≡◌, ◌≢◌, ℕ, zero, suc, ◌+◌, ◌<◌, ◌≤◌, List, refl, ap, sym, ◌∙◌, arith, Bool, true, false, nat_eq, inl, inr, subst, eqb-true}
use Rattle.std.specs.Prelude.{◌⊎◌, ◌%◌, ◌&&◌, not, slice_index}
use Rattle.std.proofs.lemmas.Bool.{and_parts, not-true, or_right, or_cases, cases_eq}
use Rattle.cw_trace.specs.Columns.{ColumnTable, used, owner, gap, left_column_of}
use Rattle.cw_tree.specs.Walks.{has}
use Rattle.cw_trace.specs.Stands.{around, is_apart}
use Rattle.cw_trace.specs.Segments.{IsOpen, SegmentStart, IsCut, IsTrace, Segments}

pub order : (n m : ℕ) → (n < m) ⊎ ((n ≡ m) ⊎ (m < n))
order n m = grind arith

pub le_or_lt : (n m : ℕ) → (n ≤ m) ⊎ (m < n)
le_or_lt n m = grind arith

-- a number is odd, and its own left column, or has its left column right before it, or is 0
pub left_of_odd : (s : ℕ) → s % 2 ≡ 1 → left_column_of s ≡ s
left_of_odd s e = omega arith

pub left_of_next : (s : ℕ) → s % 2 ≡ 1 → left_column_of (s + 1) ≡ s
left_of_next s e = omega arith

pub left_of_is_odd : (i : ℕ) → 0 < i → left_column_of i % 2 ≡ 1
left_of_is_odd i h = omega arith

pub left_of_le : (i : ℕ) → 0 < i → (left_column_of i ≤ i) × (i ≤ left_column_of i + 1)
left_of_le i h = (omega arith, omega arith)

pub left_of_cases : (i : ℕ) → 0 < i → (i ≡ left_column_of i) ⊎ (i ≡ left_column_of i + 1)
left_of_cases i h = elim (cases_eq i (left_column_of i)) [ inl e ↦ inl e | inr n ↦ inr (let w = left_of_le i h in omega (arith, n)) ]

-- a fork that was not split, or was joined, has strands that are not apart
pub unsplit : (cuts joins : List ℕ) (i : ℕ) → has cuts (left_column_of i) ≡ false → is_apart cuts joins i ≡ false
unsplit cuts joins i e = ap (λ b. b && not (has joins (left_column_of i))) e

pub is_split : (cuts joins : List ℕ) (i : ℕ) → has cuts (left_column_of i) ≡ true → has joins (left_column_of i) ≡ false → is_apart cuts joins i ≡ true
is_split cuts joins i e f = ap (λ b. b && not (has joins (left_column_of i))) e ∙ ap not f

pub apart_parts : (cuts joins : List ℕ) (i : ℕ) → is_apart cuts joins i ≡ true → (has cuts (left_column_of i) ≡ true) × (has joins (left_column_of i) ≡ false)
apart_parts cuts joins i e = let z = and_parts (has cuts (left_column_of i)) (not (has joins (left_column_of i))) e in (z.0, not-true _ z.1)

strong_to : (P : ℕ → Type 0) → ((n : ℕ) → ((m : ℕ) → m < n → P m) → P n) → (k n : ℕ) → n < k → P n
strong_to P h zero n l = absurd (omega arith)
strong_to P h (suc k) n l = h n (λ m q. strong_to P h k m (omega arith))

-- what holds of a number where it holds of all smaller ones holds of all
pub strong : (P : ℕ → Type 0) → ((n : ℕ) → ((m : ℕ) → m < n → P m) → P n) → (n : ℕ) → P n
strong P h n = strong_to P h (suc n) n (omega arith)

module _ (c : ColumnTable) (cuts joins : List ℕ) (pend : ℕ → Bool) (col : ℕ → ℕ) (s : Segments c cuts joins pend col) where
  -- a column is the root's, or its strand is apart, or it has the owner of the column that it was forked from
  pub data Made (i : ℕ) : Type 0 where
    first : i ≡ 0 → Made i
    split_off : 0 < i → is_apart cuts joins i ≡ true → owner c i ≡ i → Made i
    forked : 0 < i → is_apart cuts joins i ≡ false → slice_index c.parents i < i → owner c i ≡ around c i → Made i

  pub made : (i : ℕ) → i < used c → Made i
  made i h = elim (cases_eq i 0) [ inl e ↦ first e | inr n ↦ by_apart (omega (arith, n)) (is_apart cuts joins i) refl ] where
    by_apart : 0 < i → (b : Bool) → is_apart cuts joins i ≡ b → Made i
    by_apart p true e = split_off p e (s.apart i p h e)
    by_apart p false e = forked p e (s.rooted i p h) (s.together i p h e)

  pub used_some : 0 < used c
  used_some = by_used (used c) s.odd where
    by_used : (n : ℕ) → n % 2 ≡ 1 → 0 < n
    by_used n e = omega arith

  pub right_used : (f : ℕ) → f < used c → f % 2 ≡ 1 → f + 1 < used c
  right_used f h e = by_odd (used c) h s.odd where
    by_odd : (n : ℕ) → f < n → n % 2 ≡ 1 → f + 1 < n
    by_odd n h o = omega (arith, e)

  pub own_le : (i : ℕ) → i < used c → owner c i ≤ i
  own_le = strong (λ i. i < used c → owner c i ≤ i) (λ i more h. elim (made i h) [
    | first e ↦ omega (arith, s.root, ap (owner c) e)
    | split_off p a e ↦ omega (arith, e)
    | forked p a l e ↦ (let w : owner c (slice_index c.parents i) ≤ slice_index c.parents i = more (slice_index c.parents i) l (omega arith) in omega (arith, e))
  ])

  pub own_trace : (i : ℕ) → i < used c → IsTrace c cuts joins (owner c i)
  own_trace = strong (λ i. i < used c → IsTrace c cuts joins (owner c i)) (λ i more h. let P : ℕ → Type 0 = λ x. IsTrace c cuts joins x in elim (made i h) [
    | first e ↦ subst P (sym (ap (owner c) e ∙ s.root)) (record { low = used_some; named = refl })
    | split_off p a e ↦ subst P (sym e) (record { low = h; named = or_right (nat_eq i 0) (is_apart cuts joins i) a })
    | forked p a l e ↦ subst P (sym e) (more (slice_index c.parents i) l (omega arith))
  ])

  -- a trace owns its head
  pub own_self : (t : ℕ) → IsTrace c cuts joins t → owner c t ≡ t
  own_self t n = elim (or_cases (nat_eq t 0) (is_apart cuts joins t) n.named) [
    | inl z ↦ (let e : t ≡ 0 = eqb-true _ _ z in ap (owner c) e ∙ s.root ∙ sym e)
    | inr z ↦ elim (cases_eq t 0) [ inl e ↦ ap (owner c) e ∙ s.root ∙ sym e | inr e ↦ s.apart t (omega (arith, e)) n.low z ]
  ]

  pub gap_le : (i : ℕ) → i < used c → gap c i ≤ i
  gap_le = strong (λ i. i < used c → gap c i ≤ i) (λ i more h. elim (cases_eq i 0) [
    | inl e ↦ omega (arith, s.gap_root, ap (gap c) e)
    | inr n ↦ (
        let l : slice_index c.parents i < i = s.rooted i (omega (arith, n)) h in
        let w : gap c (slice_index c.parents i) ≤ slice_index c.parents i = more (slice_index c.parents i) l (omega arith) in
        elim (s.gap_step i (omega (arith, n)) h) [ inl e ↦ omega (arith, e) | inr e ↦ e.1 ])
  ])

  -- a fork that was not split has its left strand's owner from around it, and a split one is not yet joined
  pub open_owner : (t f : ℕ) → IsOpen c joins t f → has cuts f ≡ false → owner c f ≡ t
  open_owner t f o u = s.together f (positive f o.left) o.low (unsplit cuts joins f (ap (has cuts) (left_of_odd f o.left) ∙ u)) ∙ o.outside where
    positive : (f : ℕ) → f % 2 ≡ 1 → 0 < f
    positive f e = omega arith

  pub open_pos : (t f : ℕ) → IsOpen c joins t f → 0 < f
  open_pos t f o = by_odd f o.left where
    by_odd : (f : ℕ) → f % 2 ≡ 1 → 0 < f
    by_odd f e = omega arith

  -- a trace's forks come after its head
  pub open_after : (t f : ℕ) → IsOpen c joins t f → t < f
  open_after t f o =
      let p : slice_index c.parents f < f = s.rooted f (open_pos t f o) o.low in
      let q : owner c (slice_index c.parents f) ≤ slice_index c.parents f = own_le (slice_index c.parents f) (omega (arith, o.low)) in
      omega (arith, o.outside)

  pub start_used : (t r : ℕ) → IsTrace c cuts joins t → SegmentStart c joins t r → r < used c
  start_used t r n (inl e) = omega (arith, n.low, e)
  start_used t r n (inr o) = o.low

  pub start_after : (t r : ℕ) → SegmentStart c joins t r → t ≤ r
  start_after t r (inl e) = omega (arith, e)
  start_after t r (inr o) = let l : t < r = open_after t r o in omega arith

  -- a trace's start that was not split is owned by it
  pub start_owner : (t r : ℕ) → IsTrace c cuts joins t → SegmentStart c joins t r → (IsCut c cuts joins t r → ⊥) → owner c r ≡ t
  start_owner t r n (inl e) u = ap (owner c) e ∙ own_self t n
  start_owner t r n (inr o) u = open_owner t r o (by_cut (has cuts r) refl) where
    by_cut : (b : Bool) → has cuts r ≡ b → has cuts r ≡ false
    by_cut true e = absurd (u (record { fork = o; cut = e }))
    by_cut false e = e

  pub not_cut : (t r : ℕ) → IsOpen c joins t r → (IsCut c cuts joins t r → ⊥) → has cuts r ≡ false
  not_cut t r o u = by_cut (has cuts r) refl where
    by_cut : (b : Bool) → has cuts r ≡ b → has cuts r ≡ false
    by_cut true e = absurd (u (record { fork = o; cut = e }))
    by_cut false e = e

  -- a strand of a trace after a start was forked after it, unless it is the start's own right strand
  pub forked_after : (t r i : ℕ) → IsTrace c cuts joins t → SegmentStart c joins t r → i < used c → owner c i ≡ t → r < i → (IsOpen c joins t r → i ≢ r + 1) → r ≤ slice_index c.parents i
  forked_after t r i n w h e g ne = elim (made i h) [
    | first q ↦ absurd (omega (arith, q))
    | split_off p a o ↦ absurd (omega (arith, o, e, start_after t r w))
    | forked p a l o ↦ by_start w l o
  ] where
    by_start : SegmentStart c joins t r → slice_index c.parents i < i → owner c i ≡ around c i → r ≤ slice_index c.parents i
    by_start (inl z) l o = let q : owner c (slice_index c.parents i) ≤ slice_index c.parents i = own_le (slice_index c.parents i) (omega arith) in omega (arith, z, o, e)
    by_start (inr z) l o = s.nested t r i n (inr z) h (omega (arith, g, ne z)) (sym o ∙ e)

  -- the strands of a trace from a start on have the start's gap or a newer one
  pub later_gap : (t r : ℕ) → IsTrace c cuts joins t → SegmentStart c joins t r → (IsCut c cuts joins t r → ⊥) → (i : ℕ) → i < used c → owner c i ≡ t → r ≤ i → (gap c i ≡ gap c r) ⊎ (r ≤ gap c i)
  later_gap t r n w u =
      strong (λ i. i < used c → owner c i ≡ t → r ≤ i → (gap c i ≡ gap c r) ⊎ (r ≤ gap c i)) (λ i more h e g. elim (cases_eq i r) [
        | inl q ↦ inl (ap (gap c) q)
        | inr q ↦ by_right i more h e (omega (arith, g, q)) w (cases_eq i (r + 1))
      ]) where
        step : (i : ℕ) → ((m : ℕ) → m < i → m < used c → owner c m ≡ t → r ≤ m → (gap c m ≡ gap c r) ⊎ (r ≤ gap c m)) → i < used c → owner c i ≡ t → r < i → r ≤ slice_index c.parents i → (gap c i ≡ gap c r) ⊎ (r ≤ gap c i)
        step i more h e l low = elim (made i h) [
          | first q ↦ absurd (omega (arith, q))
          | split_off p a o ↦ absurd (omega (arith, o, e, start_after t r w))
          | forked p a k o ↦ elim (s.gap_step i p h) [
            | inl q ↦ elim (more (slice_index c.parents i) k (omega arith) (sym o ∙ e) low) [ inl z ↦ inl (q ∙ z) | inr z ↦ inr (omega (arith, q, z)) ]
            | inr q ↦ inr (let y = left_of_le i p in omega (arith, q.0, y.1))
          ]
        ]

        by_right : (i : ℕ) → ((m : ℕ) → m < i → m < used c → owner c m ≡ t → r ≤ m → (gap c m ≡ gap c r) ⊎ (r ≤ gap c m)) → i < used c → owner c i ≡ t → r < i → SegmentStart c joins t r → (i ≡ r + 1) ⊎ (i ≢ r + 1) → (gap c i ≡ gap c r) ⊎ (r ≤ gap c i)
        by_right i more h e l (inr o) (inl q) = inl (ap (gap c) q ∙ s.right_gap r o.left o.low (not_cut t r o u))
        by_right i more h e l (inl z) (inl q) = step i more h e l (forked_after t r i n (inl z) h e l (λ o. absurd (omega (arith, open_after t r o, z))))
        by_right i more h e l x (inr q) = step i more h e l (forked_after t r i n x h e l (λ o. q))

pub odd_apart : (s f : ℕ) → s % 2 ≡ 1 → f % 2 ≡ 1 → s ≢ f + 1
odd_apart s f a b e = by_eq s f a b e where
  by_eq : (s f : ℕ) → s % 2 ≡ 1 → f % 2 ≡ 1 → s ≡ f + 1 → ⊥
  by_eq s f a b e = omega arith
