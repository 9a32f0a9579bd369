-- What is left of a ring where the labels of a run were spread.
use Rattle.std.proofs.Common.{ℕ, zero, suc, ◌+◌, ◌-◌, ◌*◌, ◌/◌, ◌^◌, ◌<◌, ◌≤◌, ◌≡◌, ◌≢◌, List, [], ◌∷◌, ◌++◌, length, get_or, take, drop, nat_eq, cond, refl, sym, ap, ◌∙◌, subst, arith, inl, inr}
use Rattle.std.specs.List.{All, AllByRecursion, Contains}
use Rattle.std.proofs.lemmas.List.{get_or-append-add, take-append-drop, length-take-le, length-drop, get_or-take, get_or-drop, get_or_past, get_or_default}
use Rattle.std.proofs.lemmas.List.Elements.{All-take, All-drop, recursion_from_All, All-from_recursion, All-get_or}
use Rattle.std.proofs.Math.Nat.{mul-div-le}
use Rattle.std.proofs.lemmas.Nat.{le-div}
use Rattle.std.proofs.lemmas.Bool.{cases_lt, ne_eqb}
use Rattle.std.specs.Vec.{vec_len}
use Rattle.cw_order.specs.declared.ring.Ring.{Ring}
use Rattle.cw_order.specs.declared.ring.Run.{Run}
use Rattle.cw_order.specs.declared.ring.TheConstants.{END}
use Rattle.cw_order.specs.Links.{walk, AreLinked, AreApart, Rise, first_or, spread_over}
use Rattle.cw_order.specs.Ring.{IsRing, IsRun, path, label_of, above_of}
use Rattle.cw_order.proofs.Apart.{apart_parts, apart_across}
use Rattle.cw_order.proofs.Linking.{first_or-append, next_at, linked_parts, walk-linked}
use Rattle.cw_order.proofs.Placing.{get_or-read_all, length-read_all}
use Rattle.cw_order.proofs.Ranges.{RangeFits}
use Rattle.cw_order.proofs.Rising.{rise_parts, rise_to}
use Rattle.cw_order.proofs.Rows.{only_first}
use Rattle.cw_order.proofs.Spreading.{read_all, read_all-append, spread_whole, spread_rises, spread-beside}

-- where labels base, base + gap and so on fit a part of the list that has `at`
pub record CanSpread (r : Ring) (xs : List ℕ) (at base gap : ℕ) (run : Run) : Type 0 where
  pub start : ℕ
  pub fits : start + run.count ≤ length (path xs)
  pub first : get_or (path xs) start 0 ≡ run.first
  pub place : ℕ
  pub from : start ≤ place
  pub to : place < start + run.count
  pub there : get_or (path xs) place 0 ≡ at
  pub below : 0 < start → label_of r (get_or (path xs) (start - 1) 0) < base
  pub above : start + run.count < length (path xs) → base + run.count * gap ≤ label_of r (get_or (path xs) (start + run.count) 0)
  pub end : base + run.count * gap ≤ END

-- the run of a range
pub spread_range : (r : Ring) (xs : List ℕ) (at size gap : ℕ) (run : Run) → IsRun r xs at size run → run.count * gap ≤ size → label_of r at / size * size + run.count * gap ≤ END → CanSpread r xs at (label_of r at / size * size) gap run
spread_range r xs at size gap run is fits end = record {
  start = is.start;
  fits = is.fits;
  first = is.first;
  place = is.place;
  from = is.from;
  to = is.to;
  there = is.there;
  below = is.below;
  above = λ h. omega (arith, is.above h, fits);
  end = end;
}

-- the whole list
pub spread_all : (r : Ring) (xs : List ℕ) (at count gap : ℕ) → Contains (path xs) at → count ≡ length (path xs) → count * gap ≤ END → CanSpread r xs at 0 gap (record { first = 0; count = count })
spread_all r xs at count gap has e end = record {
  start = 0;
  fits = omega (arith, e);
  first = refl;
  place = has.0;
  from = omega arith;
  to = omega (arith, e, has.1);
  there = get_or_default (path xs) has.0 0 at has.1 ∙ has.2;
  below = λ h. absurd (omega (arith, h));
  above = λ h. absurd (omega (arith, h, e));
  end = omega (arith, end);
}

first_or-get_or : (xs : List ℕ) (b : ℕ) → first_or xs b ≡ get_or xs 0 b
first_or-get_or [] b = refl
first_or-get_or (x ∷ xs) b = refl

-- each place that the links lead to is there
pub linked_within : (next previous xs : List ℕ) (b n : ℕ) → All (λ at. at < n) next → length next ≡ n → first_or xs b < n → AreLinked next previous xs b → AllByRecursion (λ x. x < n) xs
linked_within next previous [] b n all l f h = tt
linked_within next previous (x ∷ xs) b n all l f h =
    let there = All-get_or (λ at. at < n) next x 0 (omega (arith, f, l)) all in
    (f, linked_within next previous xs b n all l (omega (arith, there, h.0)) h.2)

rise_at : (gap : ℕ) (ns : List ℕ) (t i : ℕ) → Rise gap ns t → i < length ns → get_or ns i 0 + gap ≤ get_or ns (i + 1) t
rise_at gap [] t i r h = absurd (omega arith)
rise_at gap (n ∷ ns) t zero r h = omega (arith, r.0, first_or-get_or ns t)
rise_at gap (n ∷ ns) t (suc i) r h =
    let more = rise_at gap ns t i r.1 (omega arith) in
    let e : suc i + 1 ≡ suc (i + 1) = omega arith in
    omega (arith, more, ap (λ k. get_or (n ∷ ns) k t) e)

-- up to the end of the front, a whole list reads as the front, with the rest beyond it
get_or-append-first : (ms ns : List ℕ) (k t : ℕ) → k ≤ length ms → get_or (ms ++ ns) k t ≡ get_or ms k (first_or ns t)
get_or-append-first [] ns zero t h = sym (first_or-get_or ns t)
get_or-append-first [] ns (suc k) t h = absurd (omega arith)
get_or-append-first (m ∷ ms) ns zero t h = refl
get_or-append-first (m ∷ ms) ns (suc k) t h = get_or-append-first ms ns k t (omega arith)

-- the label above that of a place is the one of the next place, or the end
pub above-at : (r : Ring) (xs : List ℕ) (i x : ℕ) → AreLinked r.next.items r.previous.items (path xs) 0 → AreApart (path xs) → i < length (path xs) → get_or (path xs) i 0 ≡ x
    → above_of r x ≡ get_or (read_all r.labels.items (path xs)) (i + 1) END
above-at r xs i x linked apart l e = elim (cases_lt (i + 1) (length (path xs))) [
  | inl less ↦ (let one : i + 1 ≡ suc i = omega arith in
      let ne : get_or (path xs) (i + 1) 0 ≢ 0 = λ z. only_first xs i apart.0 (omega (arith, less)) (sym (ap (λ k. get_or (path xs) k 0) one) ∙ z) in
      ap (λ y. cond (nat_eq y 0) END (get_or labels y 0)) on ∙ (ap (λ b. cond b END (get_or labels (get_or (path xs) (i + 1) 0) 0)) (ne_eqb (get_or (path xs) (i + 1) 0) 0 ne)
      ∙ (sym (get_or-read_all labels (path xs) (i + 1) less) ∙ get_or_default (read_all labels (path xs)) (i + 1) 0 END (omega (arith, length-read_all labels (path xs), less)))))
  | inr past ↦ ap (λ y. cond (nat_eq y 0) END (get_or labels y 0)) (on ∙ get_or_past (path xs) (i + 1) 0 past)
      ∙ sym (get_or_past (read_all labels (path xs)) (i + 1) END (omega (arith, length-read_all labels (path xs), past)))
] where
  labels : List ℕ
  labels = r.labels.items

  on : get_or r.next.items x 0 ≡ get_or (path xs) (i + 1) 0
  on = ap (λ y. get_or r.next.items y 0) (sym e) ∙ next_at r.next.items r.previous.items (path xs) 0 i linked l

module _ (r : Ring) (xs : List ℕ) (at base gap : ℕ) (run : Run) (ring : IsRing r xs) (can : CanSpread r xs at base gap run) (some : 0 < run.count) (places : 0 < vec_len r.next) where
  abbrev labels : List ℕ
  labels = r.labels.items

  abbrev front : List ℕ
  front = take can.start (path xs)

  abbrev rest : List ℕ
  rest = drop can.start (path xs)

  abbrev mid : List ℕ
  mid = take run.count rest

  abbrev back : List ℕ
  back = drop run.count rest

  abbrev after : List ℕ
  after = spread_over mid base gap labels

  abbrev beyond : ℕ
  beyond = first_or (read_all labels back) END

  whole : front ++ (mid ++ back) ≡ path xs
  whole = ap (λ zs. front ++ zs) (take-append-drop run.count rest) ∙ take-append-drop can.start (path xs)

  length-front : length front ≡ can.start
  length-front = length-take-le can.start (path xs) (omega (arith, can.fits))

  length-rest : length rest ≡ length (path xs) - can.start
  length-rest = length-drop can.start (path xs)

  length-mid : length mid ≡ run.count
  length-mid = length-take-le run.count rest (omega (arith, can.fits, length-rest))

  apart : AreApart (front ++ (mid ++ back))
  apart = subst AreApart (sym whole) ring.apart

  rising : Rise 1 (read_all labels front ++ (read_all labels mid ++ read_all labels back)) END
  rising = subst (λ ns. Rise 1 ns END) (ap (read_all labels) (sym whole) ∙ (read_all-append labels front (mid ++ back) ∙ ap (λ ns. read_all labels front ++ ns) (read_all-append labels mid back))) ring.rising

  at_rest : (k : ℕ) → get_or rest k 0 ≡ get_or (path xs) (can.start + k) 0
  at_rest k = get_or-drop can.start (path xs) k 0

  first_is : first_or mid (first_or back 0) ≡ run.first
  first_is =
      let zero_more : can.start + 0 ≡ can.start = omega arith in
      sym (first_or-append mid back 0) ∙ (ap (λ zs. first_or zs 0) (take-append-drop run.count rest) ∙ (first_or-get_or rest 0 ∙ (at_rest 0 ∙ (ap (λ k. get_or (path xs) k 0) zero_more ∙ can.first))))

  walk_is : walk r.next.items run.first run.count ≡ mid
  walk_is =
      let parts = linked_parts r.next.items r.previous.items front (mid ++ back) 0 (subst (λ zs. AreLinked r.next.items r.previous.items zs 0) (sym whole) ring.linked) in
      let inner = linked_parts r.next.items r.previous.items mid back 0 parts.1 in
      ap (λ k. walk r.next.items run.first k) (sym length-mid) ∙ (ap (λ x. walk r.next.items x (length mid)) (sym first_is) ∙ walk-linked r.next.items r.previous.items mid (first_or back 0) inner.0)

  within : AllByRecursion (λ x. x < length labels) mid
  within =
      let size : length r.next.items ≡ vec_len r.next = omega (arith, r.next.ok.0) in
      let same : vec_len r.next ≡ length labels = omega (arith, r.labels.ok.0, r.labelled) in
      let all = All-from_recursion (λ x. x < vec_len r.next) (path xs) (linked_within r.next.items r.previous.items (path xs) 0 (vec_len r.next) r.leads_on size places ring.linked) in
      let part = All-take (λ x. x < vec_len r.next) run.count rest (All-drop (λ x. x < vec_len r.next) can.start (path xs) all) in
      subst (λ n. AllByRecursion (λ x. x < n) mid) same (recursion_from_All (λ x. x < vec_len r.next) mid part)

  front_below : Rise 1 (read_all labels front) base
  front_below = rise_to 1 (read_all labels front) (first_or (read_all labels mid ++ read_all labels back) END) base (rise_parts 1 (read_all labels front) (read_all labels mid ++ read_all labels back) END rising).0 last where
    last : (k : ℕ) → suc k ≡ length (read_all labels front) → get_or (read_all labels front) k 0 + 1 ≤ base
    last k e =
        let count : suc k ≡ can.start = e ∙ (length-read_all labels front ∙ length-front) in
        let before : can.start - 1 ≡ k = omega arith in
        let here = get_or-read_all labels front k (omega (arith, count, length-front)) in
        let there = get_or-take can.start (path xs) k 0 (omega arith) in
        omega (arith, here, ap (label_of r) there, ap (λ i. label_of r (get_or (path xs) i 0)) before, can.below (omega arith))

  back_above : base + length mid * gap ≤ beyond
  back_above = elim (cases_lt (can.start + run.count) (length (path xs))) [
    | inl less ↦ (let some_back : 0 < length back = omega (arith, length-drop run.count rest, length-rest, less) in
        let first = first_or-get_or (read_all labels back) END in
        let any = get_or_default (read_all labels back) 0 END 0 (omega (arith, length-read_all labels back, some_back)) in
        let here = get_or-read_all labels back 0 some_back in
        let there = ap (label_of r) (get_or-drop run.count rest 0 0 ∙ at_rest (run.count + 0)) in
        let zero_more : can.start + (run.count + 0) ≡ can.start + run.count = omega arith in
        omega (arith, first, any, here, there, ap (λ k. label_of r (get_or (path xs) k 0)) zero_more, can.above less, ap (λ n. n * gap) length-mid))
    | inr past ↦ (let none : length (read_all labels back) ≤ 0 = omega (arith, length-read_all labels back, length-drop run.count rest, length-rest, past) in
        omega (arith, first_or-get_or (read_all labels back) END, get_or_past (read_all labels back) 0 END none, can.end, ap (λ n. n * gap) length-mid))
  ]

  -- the labels rise along the whole list
  pub spread_rising : 1 ≤ gap → (labels2 : List ℕ) → labels2 ≡ spread_over (walk r.next.items run.first run.count) base gap labels → Rise 1 (read_all labels2 (path xs)) END
  spread_rising g labels2 e =
      let back_rises = (rise_parts 1 (read_all labels mid) (read_all labels back) END (rise_parts 1 (read_all labels front) (read_all labels mid ++ read_all labels back) END rising).1).1 in
      let all = spread_whole front mid back base gap labels END apart within (omega (arith, length-mid)) front_below back_rises back_above g in
      let same : labels2 ≡ after = e ∙ ap (λ zs. spread_over zs base gap labels) walk_is in
      subst (λ ls. Rise 1 (read_all ls (path xs)) END) (sym same) (subst (λ zs. Rise 1 (read_all after zs) END) whole all)

  abbrev index : ℕ
  index = can.place - can.start

  in_mid : get_or mid index 0 ≡ at
  in_mid =
      let place : can.start + index ≡ can.place = omega (arith, can.from) in
      get_or-take run.count rest index 0 (omega (arith, can.to, can.from)) ∙ (at_rest index ∙ (ap (λ k. get_or (path xs) k 0) place ∙ can.there))

  mid_rises : Rise gap (read_all after mid) beyond
  mid_rises =
      let inner = (apart_parts front (mid ++ back) apart).1 in
      spread_rises mid base gap labels beyond (apart_parts mid back inner).0 within back_above

  -- what is above `at`, in the run or beyond it
  read_above : get_or (read_all after (path xs)) (can.place + 1) END ≡ get_or (read_all after mid) (index + 1) beyond
  read_above =
      let inner = (apart_parts front (mid ++ back) apart).1 in
      let parts = read_all-append after front (mid ++ back) ∙ ap (λ ns. read_all after front ++ ns) (read_all-append after mid back ∙ ap (λ ns. read_all after mid ++ ns) (spread-beside mid back base gap labels (apart_across mid back inner))) in
      let place : can.place + 1 ≡ length (read_all after front) + (index + 1) = omega (arith, can.from, length-read_all after front, length-front) in
      ap (λ zs. get_or (read_all after zs) (can.place + 1) END) (sym whole) ∙ (
      ap (λ ns. get_or ns (can.place + 1) END) parts ∙ (
      ap (λ k. get_or (read_all after front ++ (read_all after mid ++ read_all labels back)) k END) place ∙ (
      get_or-append-add (read_all after front) (read_all after mid ++ read_all labels back) (index + 1) END
      ∙ get_or-append-first (read_all after mid) (read_all labels back) (index + 1) END (omega (arith, can.to, can.from, length-read_all after mid, length-mid))
      )
      )
      )

  -- the label of `at` is less by the gap than the one above it
  pub spread_apart : (labels2 : List ℕ) → labels2 ≡ spread_over (walk r.next.items run.first run.count) base gap labels → get_or labels2 at 0 + gap ≤ get_or (read_all labels2 (path xs)) (can.place + 1) END
  spread_apart labels2 e =
      let same : labels2 ≡ after = e ∙ ap (λ zs. spread_over zs base gap labels) walk_is in
      let inside : index < length mid = omega (arith, can.to, can.from, length-mid) in
      let rises = rise_at gap (read_all after mid) beyond index mid_rises (omega (arith, length-read_all after mid, inside)) in
      let here = get_or-read_all after mid index inside ∙ ap (λ x. get_or after x 0) in_mid in
      let there : get_or after at 0 + gap ≤ get_or (read_all after (path xs)) (can.place + 1) END = omega (arith, rises, here, read_above) in
      subst (λ ls. get_or ls at 0 + gap ≤ get_or (read_all ls (path xs)) (can.place + 1) END) (sym same) there

  -- so the ring keeps the list, and there is room after `at`
  pub spread_ring : (r2 : Ring) → 1 ≤ gap → r2.next.items ≡ r.next.items → r2.previous.items ≡ r.previous.items → r2.labels.items ≡ spread_over (walk r.next.items run.first run.count) base gap labels → IsRing r2 xs
  spread_ring r2 g next previous e = record {
    linked = subst (λ ns. AreLinked ns r2.previous.items (path xs) 0) (sym next) (subst (λ ps. AreLinked r.next.items ps (path xs) 0) (sym previous) ring.linked);
    rising = spread_rising g r2.labels.items e;
    apart = ring.apart;
  }

  pub spread_room : (r2 : Ring) → 2 ≤ gap → r2.next.items ≡ r.next.items → r2.previous.items ≡ r.previous.items → r2.labels.items ≡ spread_over (walk r.next.items run.first run.count) base gap labels → label_of r2 at + 2 ≤ above_of r2 at
  spread_room r2 g next previous e =
      let linked : AreLinked r2.next.items r2.previous.items (path xs) 0 = subst (λ ns. AreLinked ns r2.previous.items (path xs) 0) (sym next) (subst (λ ps. AreLinked r.next.items ps (path xs) 0) (sym previous) ring.linked) in
      let above = above-at r2 xs can.place at linked ring.apart (omega (arith, can.to, can.fits)) can.there in
      omega (arith, above, spread_apart r2.labels.items e)

-- the ring keeps the list, and two labels fit after `at`
pub record HasRoom (r : Ring) (xs : List ℕ) (at : ℕ) : Type 0 where
  pub ring : IsRing r xs
  pub room : label_of r at + 2 ≤ above_of r at

pub room_in_range : (r r2 : Ring) (xs : List ℕ) (at label size by : ℕ) (run : Run) → IsRing r xs → IsRun r xs at size run → 0 < run.count → 0 < vec_len r.next
    → label ≡ label_of r at → RangeFits label run.count size → by ≡ run.count
    → r2.next.items ≡ r.next.items → r2.previous.items ≡ r.previous.items
    → r2.labels.items ≡ spread_over (walk r.next.items run.first run.count) (label / size * size) ((size - 1) / by) r.labels.items
    → HasRoom r2 xs at
room_in_range r r2 xs at label size by run ring is some places e fits f next previous spread =
    let gap = (size - 1) / run.count in
    let same : (size - 1) / by ≡ gap = ap (λ n. (size - 1) / n) f in
    let base : label / size * size ≡ label_of r at / size * size = ap (λ x. x / size * size) e in
    let can = spread_range r xs at size gap run is fits.within (omega (arith, fits.end, base)) in
    let labels = spread ∙ (ap (λ b. spread_over (walk r.next.items run.first run.count) b ((size - 1) / by) r.labels.items) base ∙ ap (λ g. spread_over (walk r.next.items run.first run.count) (label_of r at / size * size) g r.labels.items) same) in
    let large : 2 ≤ gap = fits.gap in
    record {
      ring = spread_ring r xs at (label_of r at / size * size) gap run ring can some places r2 (omega (arith, large)) next previous labels;
      room = spread_room r xs at (label_of r at / size * size) gap run ring can some places r2 large next previous labels;
    }

pub room_in_all : (r r2 : Ring) (xs : List ℕ) (at count : ℕ) → IsRing r xs → Contains (path xs) at → count ≡ length xs → count < 2 ^ 32 - 1 → 0 < vec_len r.next
    → r2.next.items ≡ r.next.items → r2.previous.items ≡ r.previous.items
    → r2.labels.items ≡ spread_over (walk r.next.items 0 (count + 1)) 0 (END / (count + 1)) r.labels.items
    → HasRoom r2 xs at
room_in_all r r2 xs at count ring has e few places next previous spread =
    let gap = END / (count + 1) in
    let can = spread_all r xs at (count + 1) gap has (omega (arith, e)) (mul-div-le END (count + 1)) in
    let large : 2 ≤ gap = le-div 2 END (count + 1) (omega arith) (omega arith) in
    let run : Run = record { first = 0; count = count + 1 } in
    record {
      ring = spread_ring r xs at 0 gap run ring can (omega arith) places r2 (omega (arith, large)) next previous spread;
      room = spread_room r xs at 0 gap run ring can (omega arith) places r2 large next previous spread;
    }

-- the label above is greater
pub gap_above : (r : Ring) (xs : List ℕ) (at : ℕ) → IsRing r xs → Contains (path xs) at → label_of r at < above_of r at
gap_above r xs at ring has =
    let there : get_or (path xs) has.0 0 ≡ at = get_or_default (path xs) has.0 0 at has.1 ∙ has.2 in
    let above = above-at r xs has.0 at ring.linked ring.apart has.1 there in
    let rises = rise_at 1 (read_all r.labels.items (path xs)) END has.0 ring.rising (omega (arith, has.1, length-read_all r.labels.items (path xs))) in
    let here = get_or-read_all r.labels.items (path xs) has.0 has.1 ∙ ap (label_of r) there in
    omega (arith, above, rises, here)
