-- What brackets keep: each mark has its element, also as marks are put in and taken out.
use Rattle.std.proofs.Common.{◌≡◌, ◌≢◌, ℕ, ◌<◌, ◌≤◌, ◌∷◌, map, length, nat_eq, not, refl, sym, ap, ◌∙◌, arith, Bool, true, false, Option, Some, None, inl, inr, subst, zero, suc, List, []}
use Rattle.std.specs.Prelude.{◌⊎◌, ◌↔◌, IsTrue, nat_lt, slice_index, slice_index_or, slice_set}
use Rattle.std.specs.List.{filter, Contains, IsDistinct}
use Rattle.std.specs.Option.{ForSome, option_map}
use Rattle.std.specs.Vec.{vec_capacity}
use Rattle.std.proofs.lemmas.List.{get_or_read, get_or-map, get_or-set_same, get_or-set_other, length-set}
use Rattle.std.proofs.lemmas.Bool.Decides.{Decides-ltb}
use Rattle.cw_order.specs.Order.{LabelsRise, LeavesLabels, placed_after, without, position}
use Rattle.cw_tree.specs.Walks.{has}
use Rattle.cw_trace.specs.declared.brackets.Brackets.TheInside.{Inside}
use Rattle.cw_trace.specs.Columns.{stands_before}
use Rattle.cw_trace.specs.Labels.{AreInOrder}
use Rattle.cw_trace.specs.Marks.{Marks, with_mark}
use Rattle.cw_trace.specs.Brackets.{bracket_of, marks_of, AreBracketsInMemory}
use Rattle.std.proofs.lemmas.Bool.{or_right}
use Rattle.cw_trace.proofs.Marks.Marking.{has_place}
use Rattle.cw_trace.proofs.Marks.Numbering.{Differ, has_here, has_later, has_map, map_has, map_alike, map_placed, map_without, map_before, has_cases, has_contains, placed_has, without_has}

pub kept_differ : (a : Inside) → AreBracketsInMemory a → Differ (bracket_of a) a.order.elements
kept_differ a k = λ x y hx hy e. sym (k.back x hx) ∙ ap (slice_index a.elements.items) e ∙ k.back y hy

-- the element e of mark m, as it is read
pub record Marked (a : Inside) (m e : ℕ) : Type 0 where
  pub there : has a.order.elements e ≡ true
  pub marks : bracket_of a e ≡ m
  pub low : m < length a.elements.items

pub mark_low : (a : Inside) (s : Marks) → AreBracketsInMemory a → marks_of a ≡ s → (m : ℕ) → has s.marks m ≡ true → m < length a.elements.items
mark_low a s k v m h =
    let z = has_map (bracket_of a) a.order.elements m (ap (λ x. has x.marks m) v ∙ h) in
    let low = k.mark_low z.0 z.1 in
    omega (arith, z.2)

pub marked : (a : Inside) (s : Marks) → AreBracketsInMemory a → marks_of a ≡ s → (m e : ℕ) → has s.marks m ≡ true → e ≡ slice_index_or a.elements.items m e → Marked a m e
marked a s k v m e h q =
    let z = has_map (bracket_of a) a.order.elements m (ap (λ x. has x.marks m) v ∙ h) in
    let low = k.mark_low z.0 z.1 in
    let read : e ≡ slice_index a.elements.items m = get_or_read a.elements.items m e (mark_low a s k v m h) q 0 in
    let same : e ≡ z.0 = read ∙ ap (slice_index a.elements.items) (sym z.2) ∙ k.back z.0 z.1 in
    record { there = ap (has a.order.elements) same ∙ z.1; marks = ap (bracket_of a) same ∙ z.2; low = omega (arith, z.2) }

-- the element after which a new one goes
pub record Place (a : Inside) (at place : Option ℕ) : Type 0 where
  pub there : (x : ℕ) → place ≡ Some x → has a.order.elements x ≡ true
  pub marks : at ≡ option_map (bracket_of a) place

pub place_some : (a : Inside) (at place : Option ℕ) (m e : ℕ) → at ≡ Some m → place ≡ Some e → Marked a m e → Place a at place
place_some a at place m e p q w = record {
  there = λ x h. (let same : e ≡ x = cc (q, h) in ap (has a.order.elements) (sym same) ∙ w.there);
  marks = p ∙ ap Some (sym w.marks) ∙ sym (ap (option_map (bracket_of a)) q);
}

pub place_none : (a : Inside) (at place : Option ℕ) → at ≡ None → place ≡ None → Place a at place
place_none a at place p q = record { there = λ x h. absurd (cc (q, h)); marks = p ∙ sym (ap (option_map (bracket_of a)) q) }

-- the label of a mark is that of its element
pub label_is : (a : Inside) → AreBracketsInMemory a → (m e : ℕ) → Marked a m e → slice_index (marks_of a).labels m ≡ slice_index a.order.labels e
label_is a k m e w =
    let same : slice_index a.elements.items m ≡ e = ap (slice_index a.elements.items) (sym w.marks) ∙ k.back e w.there in
    get_or-map (λ x. slice_index a.order.labels x) a.elements.items m 0 0 w.low ∙ ap (λ x. slice_index a.order.labels x) same

-- the element of a mark
pub element_of : (a : Inside) → AreBracketsInMemory a → (m : ℕ) → has (marks_of a).marks m ≡ true → (e : ℕ) × Marked a m e
element_of a k m h =
    let z = has_map (bracket_of a) a.order.elements m h in
    let low = k.mark_low z.0 z.1 in
    (z.0, record { there = z.1; marks = z.2; low = omega (arith, z.2) })

-- longer tables, with each read as before
pub record HasReached (a d : Inside) : Type 0 where
  pub kept : AreBracketsInMemory d
  pub marks : (marks_of d).marks ≡ (marks_of a).marks
  pub place : (at place : Option ℕ) → Place a at place → Place d at place
  pub labels : (m : ℕ) → has (marks_of a).marks m ≡ true → slice_index (marks_of d).labels m ≡ slice_index (marks_of a).labels m

pub reached : (a d : Inside) → AreBracketsInMemory a → d.order ≡ a.order → ((k : ℕ) → slice_index d.elements.items k ≡ slice_index a.elements.items k) → ((k : ℕ) → slice_index d.marks.items k ≡ slice_index a.marks.items k)
    → length a.elements.items ≤ length d.elements.items → length a.marks.items ≤ length d.marks.items → vec_capacity a.elements ≤ vec_capacity d.elements → vec_capacity a.marks ≤ vec_capacity d.marks → HasReached a d
reached a d k order elements marks more_elements more_marks elements_as marks_as = record {
  kept = kept;
  labels = λ m h.
      (let y = element_of a k m h in
      let low = y.1.low in
      label_is d kept m y.0 (record { there = ap (λ o. has o.elements y.0) order ∙ y.1.there; marks = marks y.0 ∙ y.1.marks; low = omega (arith, low, more_elements) })
      ∙ (ap (λ o. slice_index o.labels y.0) order ∙ sym (label_is a k m y.0 y.1)));
  marks =
      ap (λ o. map (λ e. slice_index d.marks.items e) o.elements) order ∙ map_alike (bracket_of d) (bracket_of a) a.order.elements (λ x h. marks x);
  place = λ at place p. record { there = λ x h. ap (λ o. has o.elements x) order ∙ p.there x h; marks = p.marks ∙ same place };
} where
  old : (e : ℕ) → has d.order.elements e ≡ true → has a.order.elements e ≡ true
  old e h = ap (λ o. has o.elements e) (sym order) ∙ h

  same : (place : Option ℕ) → option_map (bracket_of a) place ≡ option_map (bracket_of d) place
  same None = refl
  same (Some x) = ap Some (sym (marks x))

  kept : AreBracketsInMemory d
  kept = record {
    elements_room = omega (arith, k.elements_room, ap (λ o. o.room) order);
    marks_room = omega (arith, k.marks_room, ap (λ o. o.room) order);
    labelled = subst LabelsRise (sym order) k.labelled;
    distinct = subst (λ o. IsDistinct nat_eq o.elements) (sym order) k.distinct;
    low = λ e h. (let l = k.low e (old e h) in omega (arith, more_marks));
    mark_low = λ e h. (let l = k.mark_low e (old e h) in omega (arith, marks e, more_elements));
    back = λ e h. ap (slice_index d.elements.items) (marks e) ∙ elements (bracket_of a e) ∙ k.back e (old e h);
  }

-- one mark more
pub record HasInserted (a d : Inside) (at : Option ℕ) (m : ℕ) : Type 0 where
  pub kept : AreBracketsInMemory d
  pub marks : (marks_of d).marks ≡ with_mark at m (marks_of a).marks
  pub labels : ForSome at (λ b. has (marks_of a).marks b ≡ true) → LeavesLabels a.order d.order → (b : ℕ) → has (marks_of a).marks b ≡ true
      → (has (marks_of d).renumbered b ≡ true) ⊎ (slice_index (marks_of d).labels b ≡ slice_index (marks_of a).labels b)

contains_has : (xs : List ℕ) (y : ℕ) → Contains xs y → has xs y ≡ true
contains_has [] y (k, within, e) = absurd (omega arith)
contains_has (x ∷ xs) y (zero, within, e) = has_here x xs y e
contains_has (x ∷ xs) y (suc k, within, e) = has_later x xs y (contains_has xs y (k, omega (arith, within), e))

with_mark_old : (at : Option ℕ) (mark : ℕ) (xs : List ℕ) → ForSome at (λ b. has xs b ≡ true) → (m : ℕ) → has xs m ≡ true → has (with_mark at mark xs) m ≡ true
with_mark_old None mark xs some m h = has_later mark xs m h
with_mark_old (Some a) mark xs some m h = has_place a (mark ∷ []) xs m (some a refl) ∙ or_right (has (mark ∷ []) m) (has xs m) h

-- a mark that was there has its label as before, or is renumbered
labels_kept : (a d : Inside) (place : Option ℕ) (e mark : ℕ) → AreBracketsInMemory a → AreBracketsInMemory d → d.order.elements ≡ placed_after place e a.order.elements → bracket_of d e ≡ mark
    → ((x : ℕ) → has a.order.elements x ≡ true → bracket_of d x ≡ bracket_of a x) → has (marks_of a).marks mark ≡ false → LeavesLabels a.order d.order
    → (m : ℕ) → has (marks_of a).marks m ≡ true → has (marks_of d).marks m ≡ true → (has (marks_of d).renumbered m ≡ true) ⊎ (slice_index (marks_of d).labels m ≡ slice_index (marks_of a).labels m)
labels_kept a d place e mark k l placed fresh old lacks kept m h g =
    let y = element_of d l m g in
    by y.0 y.1 (placed_has place e a.order.elements y.0 (ap (λ xs. has xs y.0) (sym placed) ∙ y.1.there)) where
      by : (y : ℕ) → Marked d m y → (e ≡ y) ⊎ (has a.order.elements y ≡ true) → (has (marks_of d).renumbered m ≡ true) ⊎ (slice_index (marks_of d).labels m ≡ slice_index (marks_of a).labels m)
      by y w (inl q) =
          let same : mark ≡ m = sym fresh ∙ (ap (bracket_of d) q ∙ w.marks) in
          absurd (cc (sym (ap (has (marks_of a).marks) same) ∙ lacks, h))
      by y w (inr there) =
          let was : bracket_of a y ≡ m = sym (old y there) ∙ w.marks in
          let low = k.mark_low y there in
          let v : Marked a m y = record { there = there; marks = was; low = omega (arith, was, low) } in
          elim (kept y (has_contains a.order.elements y there)) [
            | inl r ↦ inl (ap (has (marks_of d).renumbered) (sym w.marks) ∙ map_has (bracket_of d) d.order.renumbered y (contains_has d.order.renumbered y r))
            | inr z ↦ inr (label_is d l m y w ∙ (z ∙ sym (label_is a k m y v)))
          ]

pub inserted : (a d : Inside) (at place : Option ℕ) (e m : ℕ) → AreBracketsInMemory a → LabelsRise d.order → at ≡ option_map (bracket_of a) place → ((x : ℕ) → place ≡ Some x → has a.order.elements x ≡ true)
    → (Contains a.order.elements e → ⊥) → e < length a.marks.items → d.order.elements ≡ placed_after place e a.order.elements → IsDistinct nat_eq d.order.elements → d.order.room ≡ a.order.room
    → d.elements.items ≡ slice_set a.elements.items m e → d.marks.items ≡ slice_set a.marks.items e m → vec_capacity d.elements ≡ vec_capacity a.elements → vec_capacity d.marks ≡ vec_capacity a.marks → m < length a.elements.items → has (marks_of a).marks m ≡ false → HasInserted a d at m
inserted a d at place e m k labelled same_at there fresh high placed distinct room elements marks elements_as marks_as low lacks = record {
  kept = kept;
  marks = marks_are;
  labels = λ some keeps b h. labels_kept a d place e m k kept placed mark_new mark_old lacks keeps b h (ap (λ ms. has ms b) marks_are ∙ with_mark_old at m (marks_of a).marks some b h);
} where
  elements_long : length d.elements.items ≡ length a.elements.items
  elements_long = ap length elements ∙ length-set a.elements.items m e

  marks_long : length d.marks.items ≡ length a.marks.items
  marks_long = ap length marks ∙ length-set a.marks.items e m

  cases : (x : ℕ) → has d.order.elements x ≡ true → (e ≡ x) ⊎ (has a.order.elements x ≡ true)
  cases x h = placed_has place e a.order.elements x (ap (λ xs. has xs x) (sym placed) ∙ h)

  mark_new : bracket_of d e ≡ m
  mark_new = ap (λ xs. slice_index xs e) marks ∙ get_or-set_same a.marks.items e m 0 high

  differs : (x : ℕ) → has a.order.elements x ≡ true → x ≢ e
  differs x g q = fresh (has_contains a.order.elements e (ap (has a.order.elements) (sym q) ∙ g))

  mark_old : (x : ℕ) → has a.order.elements x ≡ true → bracket_of d x ≡ bracket_of a x
  mark_old x g = ap (λ xs. slice_index xs x) marks ∙ get_or-set_other a.marks.items e x m 0 (differs x g)

  other : (x : ℕ) → has a.order.elements x ≡ true → bracket_of a x ≢ m
  other x g q = cc (sym (ap (has (map (bracket_of a) a.order.elements)) q) ∙ map_has (bracket_of a) a.order.elements x g, lacks)

  differ : Differ (bracket_of d) a.order.elements
  differ x y hx hy q = kept_differ a k x y hx hy (sym (mark_old x hx) ∙ q ∙ mark_old y hy)

  same_place : (place : Option ℕ) → ((x : ℕ) → place ≡ Some x → has a.order.elements x ≡ true) → option_map (bracket_of a) place ≡ option_map (bracket_of d) place
  same_place None h = refl
  same_place (Some x) h = ap Some (sym (mark_old x (h x refl)))

  kept : AreBracketsInMemory d
  kept = record {
    elements_room = omega (arith, k.elements_room, room, elements_as);
    marks_room = omega (arith, k.marks_room, room, marks_as);
    labelled = labelled;
    distinct = distinct;
    low = λ x h. elim (cases x h) [ inl q ↦ omega (arith, q, marks_long) | inr g ↦ (let l = k.low x g in omega (arith, marks_long)) ];
    mark_low = λ x h. elim (cases x h) [ inl q ↦ omega (arith, ap (bracket_of d) (sym q), mark_new, elements_long) | inr g ↦ (let l = k.mark_low x g in omega (arith, mark_old x g, elements_long)) ];
    back = λ x h. elim (cases x h) [
      | inl q ↦ ap (slice_index d.elements.items) (ap (bracket_of d) (sym q) ∙ mark_new) ∙ ap (λ xs. slice_index xs m) elements ∙ get_or-set_same a.elements.items m e 0 low ∙ q
      | inr g ↦ ap (slice_index d.elements.items) (mark_old x g) ∙ ap (λ xs. slice_index xs (bracket_of a x)) elements ∙ get_or-set_other a.elements.items m (bracket_of a x) e 0 (other x g) ∙ k.back x g
    ];
  }

  marks_are : (marks_of d).marks ≡ with_mark at m (marks_of a).marks
  marks_are =
      ap (map (bracket_of d)) placed
      ∙ map_placed (bracket_of d) place at e a.order.elements differ there (same_at ∙ same_place place there)
      ∙ ap (λ n. with_mark at n (map (bracket_of d) a.order.elements)) mark_new
      ∙ ap (with_mark at m) (map_alike (bracket_of d) (bracket_of a) a.order.elements mark_old)

-- one mark fewer
pub record HasRemoved (a d : Inside) (m : ℕ) : Type 0 where
  pub kept : AreBracketsInMemory d
  pub marks : (marks_of d).marks ≡ filter (λ b. not (nat_eq b m)) (marks_of a).marks

pub removed : (a d : Inside) (e m : ℕ) → AreBracketsInMemory a → LabelsRise d.order → Marked a m e → d.order.elements ≡ without e a.order.elements → IsDistinct nat_eq d.order.elements → d.order.room ≡ a.order.room → d.elements.items ≡ a.elements.items → d.marks.items ≡ a.marks.items → vec_capacity d.elements ≡ vec_capacity a.elements → vec_capacity d.marks ≡ vec_capacity a.marks → HasRemoved a d m
removed a d e m k labelled w out distinct room elements marks elements_as marks_as = record {
  kept = record {
    elements_room = omega (arith, k.elements_room, room, elements_as);
    marks_room = omega (arith, k.marks_room, room, marks_as);
    labelled = labelled;
    distinct = distinct;
    low = λ x h. (let l = k.low x (old x h) in omega (arith, ap length marks));
    mark_low = λ x h. (let l = k.mark_low x (old x h) in omega (arith, same x, ap length elements));
    back = λ x h. ap (slice_index d.elements.items) (same x) ∙ ap (λ xs. slice_index xs (bracket_of a x)) elements ∙ k.back x (old x h);
  };
  marks =
      ap (map (bracket_of d)) out ∙ map_alike (bracket_of d) (bracket_of a) (without e a.order.elements) (λ x h. same x)
      ∙ map_without (bracket_of a) e a.order.elements with_own
      ∙ ap (λ n. filter (λ b. not (nat_eq b n)) (map (bracket_of a) a.order.elements)) w.marks;
} where
  old : (x : ℕ) → has d.order.elements x ≡ true → has a.order.elements x ≡ true
  old x h = without_has e a.order.elements x (ap (λ xs. has xs x) (sym out) ∙ h)

  same : (x : ℕ) → bracket_of d x ≡ bracket_of a x
  same x = ap (λ xs. slice_index xs x) marks

  there : (x : ℕ) → (e ≡ x) ⊎ (has a.order.elements x ≡ true) → has a.order.elements x ≡ true
  there x (inl q) = ap (has a.order.elements) (sym q) ∙ w.there
  there x (inr h) = h

  with_own : Differ (bracket_of a) (e ∷ a.order.elements)
  with_own x y hx hy q = kept_differ a k x y (there x (has_cases e a.order.elements x hx)) (there y (has_cases e a.order.elements y hy)) q

-- which of two marks comes first
pub told : (a : Inside) (s : Marks) → AreBracketsInMemory a → marks_of a ≡ s → (m n x y : ℕ) → Marked a m x → Marked a n y → (r : Bool) → IsTrue r ↔ (position a.order.elements x < position a.order.elements y) → r ≡ stands_before s.marks m n
told a s k v m n x y p q r w = by_case r (stands_before s.marks m n) refl w where
  both : (position a.order.elements x < position a.order.elements y) ↔ (stands_before s.marks m n ≡ true)
  both =
      let z = map_before (bracket_of a) a.order.elements k.distinct (kept_differ a k) x y p.there q.there in
      let P : ℕ → Type 0 = λ i. (position a.order.elements x < position a.order.elements y) ↔ (stands_before (marks_of a).marks i (bracket_of a y) ≡ true) in
      let R : ℕ → Type 0 = λ j. (position a.order.elements x < position a.order.elements y) ↔ (stands_before (marks_of a).marks m j ≡ true) in
      let S : Marks → Type 0 = λ u. (position a.order.elements x < position a.order.elements y) ↔ (stands_before u.marks m n ≡ true) in
      subst S v (subst R q.marks (subst P p.marks z))

  by_case : (r b : Bool) → stands_before s.marks m n ≡ b → IsTrue r ↔ (position a.order.elements x < position a.order.elements y) → r ≡ stands_before s.marks m n
  by_case true b e w = sym (both.0 (w.0 refl))
  by_case false true e w = absurd (cc (w.1 (both.1 e)))
  by_case false false e w = sym e

-- labels of marks go as those of their elements
pub in_order : (a : Inside) → AreBracketsInMemory a → AreInOrder (marks_of a).marks (marks_of a).labels
in_order a k = record { low = low; order = order } where
  low : (m : ℕ) → has (marks_of a).marks m ≡ true → 0 < slice_index (marks_of a).labels m
  low m h =
      let z = element_of a k m h in
      let above = k.labelled.low z.0 (has_contains a.order.elements z.0 z.1.there) in
      omega (arith, above, label_is a k m z.0 z.1)

  order : (m n : ℕ) → has (marks_of a).marks m ≡ true → has (marks_of a).marks n ≡ true → nat_lt (slice_index (marks_of a).labels m) (slice_index (marks_of a).labels n) ≡ stands_before (marks_of a).marks m n
  order m n h g =
      let y = element_of a k m h in
      let z = element_of a k n g in
      let l = slice_index a.order.labels in
      let both = k.labelled.order y.0 z.0 (has_contains a.order.elements y.0 y.1.there) (has_contains a.order.elements z.0 z.1.there) in
      let less = Decides-ltb (l y.0) (l z.0) in
      ap (λ i. nat_lt i (slice_index (marks_of a).labels n)) (label_is a k m y.0 y.1) ∙ (ap (nat_lt (l y.0)) (label_is a k n z.0 z.1)
      ∙ told a (marks_of a) k refl m n y.0 z.0 y.1 z.1 (nat_lt (l y.0) (l z.0)) ((λ t. both.0 (less.0 t)), λ p. less.1 (both.1 p)))
