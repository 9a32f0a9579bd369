-- Places of a list in a row, and how a row grows along the links.
use Rattle.std.proofs.Common.{ℕ, zero, suc, ◌+◌, ◌-◌, ◌*◌, ◌/◌, ◌<◌, ◌≤◌, ◌≡◌, ◌≢◌, List, [], ◌∷◌, length, get_or, refl, sym, ap, ◌∙◌, subst, arith, inl, inr}
use Rattle.std.specs.Prelude.{◌⊎◌}
use Rattle.std.specs.List.{Contains}
use Rattle.std.proofs.lemmas.List.{get_or_default, get_or_past}
use Rattle.std.proofs.lemmas.Bool.{cases_lt}
use Rattle.cw_order.specs.declared.ring.Ring.{Ring}
use Rattle.cw_order.specs.declared.ring.Run.{Run}
use Rattle.cw_order.specs.declared.ring.TheConstants.{END}
use Rattle.cw_order.specs.Links.{Lacks}
use Rattle.cw_order.specs.Ring.{IsRing, IsRun, path, label_of}
use Rattle.cw_order.proofs.Linking.{next_at, previous_at}
use Rattle.cw_order.proofs.Placing.{StandsAt, sooner}
use Rattle.cw_order.proofs.Ranges.{below_range, above_range}

-- a row from run.first to `last` that has `at`
pub record IsRow (xs : List ℕ) (at : ℕ) (run : Run) (last : ℕ) : Type 0 where
  pub start : ℕ
  pub end : ℕ
  pub span : end + 1 ≡ start + run.count
  pub within : end < length (path xs)
  pub first : get_or (path xs) start 0 ≡ run.first
  pub last_is : get_or (path xs) end 0 ≡ last
  pub place : ℕ
  pub from : start ≤ place
  pub to : place ≤ end
  pub there : get_or (path xs) place 0 ≡ at

-- what stands before the row has a label below the range
pub record IsRowFrom (r : Ring) (xs : List ℕ) (at size : ℕ) (run : Run) (last : ℕ) : Type 0 where
  pub row : IsRow xs at run last
  pub below : 0 < row.start → label_of r (get_or (path xs) (row.start - 1) 0) < label_of r at / size * size

pub row_alone : (xs : List ℕ) (at : ℕ) → Contains (path xs) at → IsRow xs at (record { first = at; count = 1 }) at
row_alone xs at has =
    let there : get_or (path xs) has.0 0 ≡ at = sym (get_or_default (path xs) has.0 at 0 has.1) ∙ has.2 in
    record { start = has.0; end = has.0; span = refl; within = has.1; first = there; last_is = there; place = has.0; from = omega arith; to = omega arith; there = there }

pub row_back : (r : Ring) (xs : List ℕ) (at last first2 count2 : ℕ) (run : Run) → IsRing r xs → IsRow xs at run last → run.first ≢ 0 → first2 ≡ get_or r.previous.items run.first 0 → count2 ≡ run.count + 1
    → IsRow xs at (record { first = first2; count = count2 }) last
row_back r xs at last first2 count2 run ring row ne e f = by_start row.start row.span row.first row.from where
  by_start : (start : ℕ) → row.end + 1 ≡ start + run.count → get_or (path xs) start 0 ≡ run.first → start ≤ row.place → IsRow xs at (record { first = first2; count = count2 }) last
  by_start zero span first from = absurd (ne (sym first))
  by_start (suc start) span first from = record {
    start = start;
    end = row.end;
    span = omega (arith, span, f);
    within = row.within;
    first = sym (e ∙ (ap (λ y. get_or r.previous.items y 0) (sym first) ∙ previous_at r.next.items r.previous.items (path xs) 0 start ring.linked (omega (arith, row.within, from, row.to))));
    last_is = row.last_is;
    place = row.place;
    from = omega (arith, from);
    to = row.to;
    there = row.there;
  }

-- there is a place after one that does not lead to the head
place_after : (r : Ring) (xs : List ℕ) (i y : ℕ) → IsRing r xs → i < length (path xs) → get_or r.next.items (get_or (path xs) i 0) 0 ≡ y → y ≢ 0 → StandsAt (path xs) y (i + 1)
place_after r xs i y ring l e ne =
    let next : y ≡ get_or (path xs) (i + 1) 0 = sym e ∙ next_at r.next.items r.previous.items (path xs) 0 i ring.linked l in
    elim (cases_lt (i + 1) (length (path xs))) [
      | inl less ↦ record { within = less; there = sym next }
      | inr past ↦ absurd (ne (next ∙ get_or_past (path xs) (i + 1) 0 past))
    ]

row_on : (r : Ring) (xs : List ℕ) (at last last2 count2 : ℕ) (run : Run) → IsRing r xs → IsRow xs at run last → last2 ≢ 0 → last2 ≡ get_or r.next.items last 0 → count2 ≡ run.count + 1
    → IsRow xs at (record { first = run.first; count = count2 }) last2
row_on r xs at last last2 count2 run ring row ne e f =
    let after = place_after r xs row.end last2 ring row.within (ap (λ y. get_or r.next.items y 0) row.last_is ∙ sym e) ne in
    record {
      start = row.start;
      end = row.end + 1;
      span = omega (arith, row.span, f);
      within = after.within;
      first = row.first;
      last_is = after.there;
      place = row.place;
      from = row.from;
      to = omega (arith, row.to);
      there = row.there;
    }

-- the head comes first, and never again
pub only_first : (xs : List ℕ) (i : ℕ) → Lacks xs 0 → suc i < length (path xs) → get_or (path xs) (suc i) 0 ≢ 0
only_first [] i l h = absurd (omega arith)
only_first (x ∷ xs) zero l h = λ e. l.0 e
only_first (x ∷ xs) (suc i) l h = only_first xs i l.1 (omega arith)

label_places : (r : Ring) (xs : List ℕ) (i j : ℕ) → IsRing r xs → i < j → j < length (path xs) → label_of r (get_or (path xs) i 0) < label_of r (get_or (path xs) j 0)
label_places r xs i j ring h l =
    sooner r.labels.items (path xs) END i j (get_or (path xs) i 0) (get_or (path xs) j 0) ring.rising (record { within = omega (arith, h, l); there = refl }) (record { within = l; there = refl }) h

-- the row goes back as far as the range does
pub row_from : (r : Ring) (xs : List ℕ) (at size last : ℕ) (run : Run) → 0 < size → IsRing r xs → (row : IsRow xs at run last)
    → (run.first ≡ 0) ⊎ (label_of r (get_or r.previous.items run.first 0) / size ≢ label_of r at / size)
    → IsRowFrom r xs at size run last
row_from r xs at size last run some ring row ends = record { row = row; below = by_start row.start row.first row.from } where
  at_label : label_of r (get_or (path xs) row.place 0) ≡ label_of r at
  at_label = ap (label_of r) row.there

  by_end : (start : ℕ) → get_or (path xs) (suc start) 0 ≡ run.first → suc start ≤ row.place
      → (run.first ≡ 0) ⊎ (label_of r (get_or r.previous.items run.first 0) / size ≢ label_of r at / size)
      → label_of r (get_or (path xs) start 0) < label_of r at / size * size
  by_end start first from (inl e) = absurd (only_first xs start ring.apart.0 (omega (arith, from, row.to, row.within)) (first ∙ e))
  by_end start first from (inr ne) =
      let back : get_or r.previous.items run.first 0 ≡ get_or (path xs) start 0 =
      ap (λ y. get_or r.previous.items y 0) (sym first) ∙ previous_at r.next.items r.previous.items (path xs) 0 start ring.linked (omega (arith, from, row.to, row.within)) in
      let less = label_places r xs start row.place ring (omega (arith, from)) (omega (arith, row.to, row.within)) in
      below_range (label_of r (get_or (path xs) start 0)) (label_of r at) size some (omega (arith, less, at_label)) (λ q. ne (ap (λ y. label_of r y / size) back ∙ q))

  by_start : (start : ℕ) → get_or (path xs) start 0 ≡ run.first → start ≤ row.place → 0 < start → label_of r (get_or (path xs) (start - 1) 0) < label_of r at / size * size
  by_start zero first from h = absurd (omega arith)
  by_start (suc start) first from h = subst (λ i. label_of r (get_or (path xs) i 0) < label_of r at / size * size) (let e : start ≡ suc start - 1 = omega arith in e) (by_end start first from ends)

pub row_from_on : (r : Ring) (xs : List ℕ) (at size last last2 count2 : ℕ) (run : Run) → IsRing r xs → IsRowFrom r xs at size run last → last2 ≢ 0 → last2 ≡ get_or r.next.items last 0 → count2 ≡ run.count + 1
    → IsRowFrom r xs at size (record { first = run.first; count = count2 }) last2
unfolding row_on
row_from_on r xs at size last last2 count2 run ring from ne e f = record { row = row_on r xs at last last2 count2 run ring from.row ne e f; below = from.below }

-- the row goes on as far as the range does
pub row_whole : (r : Ring) (xs : List ℕ) (at size last : ℕ) (run : Run) → 0 < size → IsRing r xs → IsRowFrom r xs at size run last
    → (get_or r.next.items last 0 ≡ 0) ⊎ (label_of r (get_or r.next.items last 0) / size ≢ label_of r at / size)
    → IsRun r xs at size run
row_whole r xs at size last run some ring from ends = record {
  start = row.start;
  fits = omega (arith, row.span, row.within);
  first = row.first;
  place = row.place;
  from = row.from;
  to = omega (arith, row.span, row.to);
  there = row.there;
  below = from.below;
  above = λ h. subst (λ i. label_of r at / size * size + size ≤ label_of r (get_or (path xs) i 0)) row.span (by_end ends (omega (arith, h, row.span)));
} where
  row : IsRow xs at run last
  row = from.row

  on : get_or r.next.items last 0 ≡ get_or (path xs) (from.row.end + 1) 0
  on = ap (λ y. get_or r.next.items y 0) (sym from.row.last_is) ∙ next_at r.next.items r.previous.items (path xs) 0 from.row.end ring.linked from.row.within

  by_end : (get_or r.next.items last 0 ≡ 0) ⊎ (label_of r (get_or r.next.items last 0) / size ≢ label_of r at / size) → from.row.end + 1 < length (path xs)
      → label_of r at / size * size + size ≤ label_of r (get_or (path xs) (from.row.end + 1) 0)
  by_end (inl e) l =
      let one : from.row.end + 1 ≡ suc from.row.end = omega arith in
      absurd (only_first xs from.row.end ring.apart.0 (omega (arith, l)) (sym (ap (λ i. get_or (path xs) i 0) one) ∙ (sym on ∙ e)))
  by_end (inr ne) l =
      let less = label_places r xs from.row.place (from.row.end + 1) ring (omega (arith, from.row.to)) l in
      above_range (label_of r (get_or (path xs) (from.row.end + 1) 0)) (label_of r at) size some (omega (arith, less, ap (label_of r) from.row.there)) (λ q. ne (ap (λ y. label_of r y / size) on ∙ q))
