-- A ring after an element was put in.
use Rattle.std.proofs.Common.{ℕ, suc, ◌+◌, ◌-◌, ◌<◌, ◌≡◌, ◌≢◌, Option, None, Some, List, [], ◌∷◌, ◌++◌, length, get_or, set, drop, cond, nat_eq, refl, sym, ap, ◌∙◌, subst, arith, append_assoc}
use Rattle.std.specs.List.{Contains}
use Rattle.std.specs.Option.{ForSome, unwrap_or}
use Rattle.std.specs.Vec.{vec_len}
use Rattle.std.proofs.lemmas.List.{get_or-set_same, get_or-set_other, length-append, length-set}
use Rattle.std.proofs.lemmas.List.Elements.{All-get_or}
use Rattle.std.proofs.lemmas.Bool.{ne_eqb}
use Rattle.cw_order.specs.declared.ring.Ring.{Ring}
use Rattle.cw_order.specs.declared.ring.TheConstants.{END}
use Rattle.cw_order.specs.declared.list.OrderList.TheInside.{Inside}
use Rattle.cw_order.specs.Order.{put_after, placed_after}
use Rattle.cw_order.specs.OrderList.{IsListInMemory, free_from}
use Rattle.cw_order.specs.Links.{walk, first_or, AreLinked, AreApart, Lacks, Rise}
use Rattle.cw_order.specs.Ring.{IsRing, path, label_of, above_of, elements_of}
use Rattle.cw_order.proofs.Apart.{lacks-contains, CutAt, cut_at, apart_parts, apart_across, disjoint_there, apart_out, apart_in, lacks_parts}
use Rattle.cw_order.proofs.Keeping.{elements_are, path_within, place_of}
use Rattle.cw_order.proofs.Linking.{linked_parts, walk-set, length-walk}
use Rattle.cw_order.proofs.Placing.{put_after-cut}
use Rattle.cw_order.proofs.Relinking.{back_lacks, linked_in}
use Rattle.cw_order.proofs.Rising.{rise_parts, rise_whole}
use Rattle.cw_order.proofs.Spreading.{read_all, read_all-append, read_all-set}

-- the label above that of `at` is the first one behind it
above-cut : (r : Ring) (back : List ℕ) (at : ℕ) → get_or r.next.items at 0 ≡ first_or back 0 → Lacks back 0 → above_of r at ≡ first_or (read_all r.labels.items back) END
above-cut r [] at e l = ap (λ y. cond (nat_eq y 0) END (label_of r y)) e
above-cut r (y ∷ back) at e l = ap (λ y. cond (nat_eq y 0) END (label_of r y)) e ∙ ap (λ b. cond b END (label_of r y)) (ne_eqb y 0 l.0)

module _ (r r2 : Ring) (xs ys fs : List ℕ) (at e label : ℕ) (ring : IsRing r xs) (has : Contains (path xs) at) (apart : AreApart (path xs ++ e ∷ fs))
    (places : at < vec_len r.next) (free : e < vec_len r.next) (above : label_of r at < label) (below : label < above_of r at) (is : path ys ≡ put_after at e (path xs))
    (next : r2.next.items ≡ set (set r.next.items e (get_or r.next.items at 0)) at e)
    (previous : r2.previous.items ≡ set (set r.previous.items e at) (get_or r.next.items at 0) e)
    (labels : r2.labels.items ≡ set r.labels.items e label) where
  cut : CutAt (path xs) at
  cut = cut_at (path xs) at has

  abbrev front : List ℕ
  front = cut.front

  abbrev back : List ℕ
  back = cut.back

  -- the list with the new element
  after_is : path ys ≡ front ++ at ∷ e ∷ back
  after_is = is ∙ (ap (put_after at e) cut.whole ∙ put_after-cut front back at e cut.first)

  old : AreApart (front ++ at ∷ back)
  old = subst AreApart cut.whole ring.apart

  out : Lacks (front ++ at ∷ back) e
  out = subst (λ zs. Lacks zs e) cut.whole (lacks_parts (path xs) fs e (apart_out (path xs) fs e apart).0).0

  zero_out : Lacks (drop 1 (front ++ at ∷ back)) 0
  zero_out = subst (λ zs. Lacks (drop 1 zs) 0) cut.whole ring.apart.0

  linked : AreLinked r.next.items r.previous.items (front ++ at ∷ back) 0
  linked = subst (λ zs. AreLinked r.next.items r.previous.items zs 0) cut.whole ring.linked

  next_is : get_or r.next.items at 0 ≡ first_or back 0
  next_is = (linked_parts r.next.items r.previous.items front (at ∷ back) 0 linked).1.0

  size : length r.next.items ≡ vec_len r.next
  size = omega (arith, r.next.ok.0)

  size_back : length r.previous.items ≡ vec_len r.next
  size_back = omega (arith, r.previous.ok.0, r.same_places)

  zero_ne : 0 ≢ e
  zero_ne = (lacks_parts (path xs) fs e (apart_out (path xs) fs e apart).0).0.0

  linked_after : AreLinked r2.next.items r2.previous.items (path ys) 0
  linked_after =
      let there : get_or r.next.items at 0 < vec_len r.next = All-get_or (λ x. x < vec_len r.next) r.next.items at 0 (omega (arith, places, size)) r.leads_on in
      let step = linked_in r.next.items r.previous.items front back at e linked old zero_out out zero_ne (omega (arith, places, size)) (omega (arith, free, size)) (omega (arith, free, size_back)) (omega (arith, there, next_is, size_back)) in
      subst (λ zs. AreLinked r2.next.items r2.previous.items zs 0) (sym after_is) (
      subst (λ ns. AreLinked ns r2.previous.items (front ++ at ∷ e ∷ back) 0) (sym (next ∙ ap (λ s. set (set r.next.items e s) at e) next_is)) (
      subst (λ ps. AreLinked (set (set r.next.items e (first_or back 0)) at e) ps (front ++ at ∷ e ∷ back) 0) (sym (previous ∙ ap (λ s. set (set r.previous.items e at) s e) next_is)) step
      )
      )

  rising_after : Rise 1 (read_all r2.labels.items (path ys)) END
  rising_after =
      let ls = r.labels.items in
      let ms = set r.labels.items e label in
      let outs = lacks_parts front (at ∷ back) e out in
      let zeros : Lacks back 0 = back_lacks front back at zero_out in
      let all : Rise 1 (read_all ls front ++ read_all ls (at ∷ back)) END = subst (λ ns. Rise 1 ns END) (ap (read_all ls) cut.whole ∙ read_all-append ls front (at ∷ back)) ring.rising in
      let parts = rise_parts 1 (read_all ls front) (read_all ls (at ∷ back)) END all in
      let over = above-cut r back at next_is zeros in
      let same_at : get_or ms at 0 ≡ get_or ls at 0 = get_or-set_other ls e at label 0 outs.1.0 in
      let here : get_or ms e 0 ≡ label = get_or-set_same ls e label 0 (omega (arith, free, r.labels.ok.0, r.labelled)) in
      let same_front : read_all ms front ≡ read_all ls front = read_all-set ls front e label outs.0 in
      let same_back : read_all ms back ≡ read_all ls back = read_all-set ls back e label outs.1.1 in
      let back_rises : Rise 1 (get_or ms e 0 ∷ read_all ms back) END = (omega (arith, here, below, over, ap (λ ns. first_or ns END) same_back), subst (λ ns. Rise 1 ns END) (sym same_back) parts.1.1) in
      let rest_rises : Rise 1 (read_all ms (at ∷ e ∷ back)) END = (omega (arith, same_at, here, above), back_rises) in
      let front_rises : Rise 1 (read_all ms front) (get_or ms at 0) = subst (Rise 1 (read_all ms front)) (sym same_at) (subst (λ ns. Rise 1 ns (get_or ls at 0)) (sym same_front) parts.0) in
      let whole = rise_whole 1 (read_all ms front) (read_all ms (at ∷ e ∷ back)) END front_rises rest_rises in
      subst (λ ns. Rise 1 (read_all ns (path ys)) END) (sym labels) (
      subst (λ zs. Rise 1 (read_all ms zs) END) (sym after_is) (subst (λ ns. Rise 1 ns END) (sym (read_all-append ms front (at ∷ e ∷ back))) whole)
      )

  -- all places, with e in the list
  apart_after : AreApart (path ys ++ fs)
  apart_after =
      let moved = apart_out (path xs) fs e apart in
      let joined : path xs ++ fs ≡ (front ++ at ∷ []) ++ (back ++ fs) = ap (λ zs. zs ++ fs) cut.whole ∙ (append_assoc front (at ∷ back) fs ∙ sym (append_assoc front (at ∷ []) (back ++ fs))) in
      let back_in = apart_in (front ++ at ∷ []) (back ++ fs) e (subst (λ zs. Lacks zs e) joined moved.0) (subst AreApart joined moved.1) in
      let split : (front ++ at ∷ []) ++ e ∷ (back ++ fs) ≡ path ys ++ fs = append_assoc front (at ∷ []) (e ∷ (back ++ fs)) ∙ (sym (append_assoc front (at ∷ e ∷ back) fs) ∙ ap (λ zs. zs ++ fs) (sym after_is)) in
      subst AreApart split back_in

  pub ring_after : IsRing r2 ys
  ring_after = record { linked = linked_after; rising = rising_after; apart = (apart_parts (path ys) fs apart_after).0 }

  pub length-after : length ys ≡ length xs + 1
  length-after = omega (arith, ap length after_is, ap length cut.whole, length-append front (at ∷ e ∷ back), length-append front (at ∷ back))

  -- a walk over free places meets the same ones
  pub walk-after : (start k : ℕ) → walk r.next.items start k ≡ fs → walk r2.next.items start k ≡ fs
  walk-after start k w =
      let e_out : Lacks fs e = (lacks_parts (path xs) fs e (apart_out (path xs) fs e apart).0).1 in
      let at_out : Lacks fs at = disjoint_there front (e ∷ back) fs at (apart_across (front ++ at ∷ e ∷ back) fs (subst (λ zs. AreApart (zs ++ fs)) after_is apart_after)) in
      let once = walk-set r.next.items e (get_or r.next.items at 0) start k (subst (λ zs. Lacks zs e) (sym w) e_out) ∙ w in
      ap (λ ns. walk ns start k) next ∙ (walk-set (set r.next.items e (get_or r.next.items at 0)) at e start k (subst (λ zs. Lacks zs at) (sym once) at_out) ∙ once)

  pub all_apart : AreApart (path ys ++ fs)
  all_apart = apart_after

-- the head, and the list with e placed
placed_path : (at : Option ℕ) (e : ℕ) (xs : List ℕ) → ForSome at (Contains xs) → Lacks xs 0 → path (placed_after at e xs) ≡ put_after (unwrap_or at 0) e (path xs)
placed_path None e xs has l = refl
placed_path (Some a) e xs has l =
    let ne : 0 ≢ a = λ z. lacks-contains xs 0 l (subst (Contains xs) (sym z) (has a refl)) in
    sym (ap (λ b. cond b (0 ∷ e ∷ xs) (0 ∷ put_after a e xs)) (ne_eqb 0 a ne))

-- an order list with a new element
pub record HasInserted (a b : Inside) (at : Option ℕ) : Type 0 where
  pub kept : IsListInMemory b
  pub elements : elements_of b.ring b.count ≡ placed_after at a.free (elements_of a.ring a.count)

pub inserted : (a b : Inside) (r : Ring) (at : Option ℕ) (place label : ℕ) → place ≡ unwrap_or at 0 → IsListInMemory a → (a.count ≡ a.made → ⊥) → ForSome at (Contains (elements_of a.ring a.count))
    → r.next.items ≡ a.ring.next.items → IsRing r (elements_of a.ring a.count)
    → label_of r place < label → label < above_of r place
    → b.ring.next.items ≡ set (set r.next.items a.free (get_or r.next.items place 0)) place a.free
    → b.ring.previous.items ≡ set (set r.previous.items a.free place) (get_or r.next.items place 0) a.free
    → b.ring.labels.items ≡ set r.labels.items a.free label
    → b.made ≡ a.made → b.ring.room ≡ a.ring.room → b.count ≡ a.count + 1 → b.free ≡ get_or r.next.items a.free 0
    → HasInserted a b at
inserted a b r at place label place_is kept room has links ring above below next previous labels b_made b_room b_count b_free = record {
  kept = record {
    places = omega (arith, sizes, same, kept.places, b_made);
    within = omega (arith, kept.within, b_made, b_room);
    few = omega (arith, kept.few, room, b_made, b_count);
    ring = subst (IsRing b.ring) (sym elements) ring2;
    there = omega (arith, b_free, next_there, sizes, kept.there);
    apart = subst (λ zs. AreApart (path zs ++ free_from b.ring b.made b.count b.free)) (sym elements) (subst (λ zs. AreApart (path ys ++ zs)) (sym free_is) all);
  };
  elements = elements;
} where
  xs : List ℕ
  xs = elements_of a.ring a.count

  ys : List ℕ
  ys = placed_after at a.free (elements_of a.ring a.count)

  k : ℕ
  k = a.made - (a.count + 1)

  fs : List ℕ
  fs = walk r.next.items (get_or r.next.items a.free 0) (a.made - (a.count + 1))

  left : a.made - a.count ≡ suc (a.made - (a.count + 1))
  left = omega (arith, kept.few, room)

  old_free : free_from a.ring a.made a.count a.free ≡ a.free ∷ fs
  old_free = ap (walk a.ring.next.items a.free) left ∙ ap (λ ns. walk ns a.free (suc (a.made - (a.count + 1)))) (sym links)

  apart : AreApart (path xs ++ a.free ∷ fs)
  apart = subst (λ zs. AreApart (path xs ++ zs)) old_free kept.apart

  same : vec_len r.next ≡ vec_len a.ring.next
  same = omega (arith, r.next.ok.0, a.ring.next.ok.0, ap length links)

  e_there : a.free < vec_len r.next
  e_there = omega (arith, same, kept.there)

  at_has : Contains (path xs) place
  at_has = subst (Contains (path (elements_of a.ring a.count))) (sym place_is) (place_of at (elements_of a.ring a.count) has)

  at_there : place < vec_len r.next
  at_there = path_within r (elements_of a.ring a.count) place ring (omega (arith, e_there)) at_has

  is : path ys ≡ put_after place a.free (path xs)
  is = placed_path at a.free (elements_of a.ring a.count) has ring.apart.0 ∙ ap (λ p. put_after p a.free (path (elements_of a.ring a.count))) (sym place_is)

  ring2 : IsRing b.ring ys
  ring2 = ring_after r b.ring xs ys fs place a.free label ring at_has apart at_there e_there above below is next previous labels

  sizes : vec_len b.ring.next ≡ vec_len r.next
  sizes =
      let once = length-set r.next.items a.free (get_or r.next.items place 0) in
      let twice = length-set (set r.next.items a.free (get_or r.next.items place 0)) place a.free in
      omega (arith, b.ring.next.ok.0, r.next.ok.0, ap length next, once, twice)

  next_there : get_or r.next.items a.free 0 < vec_len r.next
  next_there = All-get_or (λ x. x < vec_len r.next) r.next.items a.free 0 (omega (arith, r.next.ok.0, e_there)) r.leads_on

  elements : elements_of b.ring b.count ≡ ys
  elements =
      let more = length-after r b.ring xs ys fs place a.free label ring at_has apart at_there e_there above below is next previous labels in
      elements_are b.ring ys b.count ring2.linked (omega (arith, more, length-walk a.ring.next.items (get_or a.ring.next.items 0 0) a.count, b_count))

  free_is : free_from b.ring b.made b.count b.free ≡ fs
  free_is =
      let rest : b.made - b.count ≡ a.made - (a.count + 1) = omega (arith, b_made, b_count) in
      ap (λ n. walk b.ring.next.items b.free n) rest ∙ (
      ap (λ x. walk b.ring.next.items x (a.made - (a.count + 1))) b_free
      ∙ walk-after r b.ring xs ys fs place a.free label ring at_has apart at_there e_there above below is next previous labels (get_or r.next.items a.free 0) (a.made - (a.count + 1)) refl
      )

  all : AreApart (path ys ++ fs)
  all = all_apart r b.ring xs ys fs place a.free label ring at_has apart at_there e_there above below is next previous labels
