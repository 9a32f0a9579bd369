-- A ring after an element was taken out.
use Rattle.std.proofs.Common.{ℕ, suc, ◌+◌, ◌-◌, ◌<◌, ◌≡◌, List, [], ◌∷◌, ◌++◌, length, get_or, set, drop, refl, sym, ap, ◌∙◌, subst, arith, append_assoc}
use Rattle.std.specs.List.{Contains}
use Rattle.std.specs.Vec.{vec_len}
use Rattle.std.proofs.lemmas.List.{get_or-set_same, length-append, length-set}
use Rattle.std.proofs.lemmas.List.Elements.{All-get_or}
use Rattle.cw_order.specs.declared.ring.Ring.{Ring}
use Rattle.cw_order.specs.declared.ring.TheConstants.{END}
use Rattle.cw_order.specs.declared.list.OrderList.TheInside.{Inside}
use Rattle.cw_order.specs.Order.{without}
use Rattle.cw_order.specs.OrderList.{IsListInMemory, free_from}
use Rattle.cw_order.specs.Links.{walk, first_or, AreLinked, AreApart, Lacks, Rise}
use Rattle.cw_order.specs.Ring.{IsRing, path, elements_of}
use Rattle.cw_order.proofs.Apart.{AreDisjoint, CutAt, cut_at, apart_parts, apart_across, apart_out, apart_in, disjoint_there, contains_there}
use Rattle.cw_order.proofs.Keeping.{after_head, elements_are, path_within}
use Rattle.cw_order.proofs.Linking.{linked_parts, length-walk, walk-set}
use Rattle.cw_order.proofs.Placing.{without-cut}
use Rattle.cw_order.proofs.Relinking.{linked_out}
use Rattle.cw_order.proofs.Rising.{rise_parts, rise_whole}
use Rattle.cw_order.proofs.Spreading.{read_all, read_all-append}

-- a list that is not empty ends in some number
record EndsIn (xs : List ℕ) : Type 0 where
  pub front : List ℕ
  pub last : ℕ
  pub whole : xs ≡ front ++ last ∷ []

ends_in : (x : ℕ) (xs : List ℕ) → EndsIn (x ∷ xs)
ends_in x [] = record { front = []; last = x; whole = refl }
ends_in x (y ∷ xs) = let more = ends_in y xs in record { front = x ∷ more.front; last = more.last; whole = ap (λ zs. x ∷ zs) more.whole }

module _ (r r2 : Ring) (xs fs : List ℕ) (e other : ℕ) (ring : IsRing r xs) (has : Contains xs e) (apart : AreApart (path xs ++ fs)) (some : 0 < vec_len r.next)
    (next : r2.next.items ≡ set (set r.next.items (get_or r.previous.items e 0) (get_or r.next.items e 0)) e other)
    (previous : r2.previous.items ≡ set r.previous.items (get_or r.next.items e 0) (get_or r.previous.items e 0))
    (labels : r2.labels.items ≡ r.labels.items) where
  cut : CutAt xs e
  cut = cut_at xs e has

  abbrev back : List ℕ
  back = cut.back

  ends : EndsIn (0 ∷ cut.front)
  ends = ends_in 0 cut.front

  abbrev front : List ℕ
  front = ends.front

  abbrev before : ℕ
  before = ends.last

  -- the list before and after
  old_is : path xs ≡ front ++ before ∷ e ∷ back
  old_is = ap (λ zs. 0 ∷ zs) cut.whole ∙ (ap (λ zs. zs ++ e ∷ back) ends.whole ∙ append_assoc front (before ∷ []) (e ∷ back))

  rest_is : path (cut.front ++ back) ≡ front ++ before ∷ back
  rest_is = ap (λ zs. zs ++ back) ends.whole ∙ append_assoc front (before ∷ []) back

  without_is : without e xs ≡ cut.front ++ back
  without_is =
      let whole : AreApart (cut.front ++ e ∷ back) = subst AreApart cut.whole ring.apart.1 in
      ap (without e) cut.whole ∙ without-cut cut.front back e (apart_out cut.front back e whole).0

  after_is : path (without e xs) ≡ front ++ before ∷ back
  after_is = ap path without_is ∙ rest_is

  linked : AreLinked r.next.items r.previous.items (front ++ before ∷ e ∷ back) 0
  linked = subst (λ zs. AreLinked r.next.items r.previous.items zs 0) old_is ring.linked

  old : AreApart (front ++ before ∷ e ∷ back)
  old = subst AreApart old_is ring.apart

  zero_out : Lacks (drop 1 (front ++ before ∷ e ∷ back)) 0
  zero_out = subst (λ zs. Lacks (drop 1 zs) 0) old_is ring.apart.0

  parts : AreLinked r.next.items r.previous.items front before × AreLinked r.next.items r.previous.items (before ∷ e ∷ back) 0
  parts = linked_parts r.next.items r.previous.items front (before ∷ e ∷ back) 0 linked

  before_is : get_or r.previous.items e 0 ≡ before
  before_is = parts.1.1

  next_is : get_or r.next.items e 0 ≡ first_or back 0
  next_is = parts.1.2.0

  size : length r.next.items ≡ vec_len r.next
  size = omega (arith, r.next.ok.0)

  e_there : e < vec_len r.next
  e_there = path_within r xs e ring some (after_head xs e has)

  before_there : before < vec_len r.next
  before_there = path_within r xs before ring some (subst (λ zs. Contains zs before) (sym old_is) (contains_there front (e ∷ back) before))

  next_there : first_or back 0 < vec_len r.next
  next_there = omega (arith, next_is, All-get_or (λ x. x < vec_len r.next) r.next.items e 0 (omega (arith, e_there, size)) r.leads_on)

  linked_after : AreLinked r2.next.items r2.previous.items (path (without e xs)) 0
  linked_after =
      let step = linked_out r.next.items r.previous.items front back before e other linked old zero_out (omega (arith, before_there, size)) (omega (arith, next_there, r.previous.ok.0, r.same_places)) in
      subst (λ zs. AreLinked r2.next.items r2.previous.items zs 0) (sym after_is) (
      subst (λ ns. AreLinked ns r2.previous.items (front ++ before ∷ back) 0) (sym (next ∙ (ap (λ p. set (set r.next.items p (get_or r.next.items e 0)) e other) before_is ∙ ap (λ s. set (set r.next.items before s) e other) next_is))) (
      subst (λ ps. AreLinked (set (set r.next.items before (first_or back 0)) e other) ps (front ++ before ∷ back) 0) (sym (previous ∙ (ap (λ s. set r.previous.items s (get_or r.previous.items e 0)) next_is ∙ ap (λ p. set r.previous.items (first_or back 0) p) before_is))) step
      )
      )

  rising_after : Rise 1 (read_all r2.labels.items (path (without e xs))) END
  rising_after =
      let ls = r.labels.items in
      let all : Rise 1 (read_all ls front ++ read_all ls (before ∷ e ∷ back)) END = subst (λ ns. Rise 1 ns END) (ap (read_all ls) old_is ∙ read_all-append ls front (before ∷ e ∷ back)) ring.rising in
      let ups = rise_parts 1 (read_all ls front) (read_all ls (before ∷ e ∷ back)) END all in
      let rest : Rise 1 (read_all ls (before ∷ back)) END = (omega (arith, ups.1.0, ups.1.1.0), ups.1.1.1) in
      let whole = rise_whole 1 (read_all ls front) (read_all ls (before ∷ back)) END ups.0 rest in
      subst (λ ns. Rise 1 (read_all ns (path (without e xs))) END) (sym labels) (
      subst (λ zs. Rise 1 (read_all ls zs) END) (sym after_is) (subst (λ ns. Rise 1 ns END) (sym (read_all-append ls front (before ∷ back))) whole)
      )

  -- all places, with e among the free ones
  pub apart_after : AreApart (path (without e xs) ++ e ∷ fs)
  apart_after =
      let joined : path xs ++ fs ≡ (front ++ before ∷ []) ++ e ∷ (back ++ fs) = ap (λ zs. zs ++ fs) old_is ∙ (append_assoc front (before ∷ e ∷ back) fs ∙ sym (append_assoc front (before ∷ []) (e ∷ (back ++ fs)))) in
      let out = apart_out (front ++ before ∷ []) (back ++ fs) e (subst AreApart joined apart) in
      let split : (front ++ before ∷ []) ++ (back ++ fs) ≡ path (without e xs) ++ fs = append_assoc front (before ∷ []) (back ++ fs) ∙ (sym (append_assoc front (before ∷ back) fs) ∙ ap (λ zs. zs ++ fs) (sym after_is)) in
      apart_in (path (without e xs)) fs e (subst (λ zs. Lacks zs e) split out.0) (subst AreApart split out.1)

  pub ring_without : IsRing r2 (without e xs)
  ring_without = record { linked = linked_after; rising = rising_after; apart = (apart_parts (path (without e xs)) (e ∷ fs) apart_after).0 }

  pub length-without : length (without e xs) + 1 ≡ length xs
  length-without = omega (arith, ap length after_is, ap length old_is, length-append front (before ∷ e ∷ back), length-append front (before ∷ back))

  -- a walk from e meets e, and then the free places
  pub walk-without : (k : ℕ) → walk r.next.items other k ≡ fs → walk r2.next.items e (suc k) ≡ e ∷ fs
  walk-without k w =
      let p = get_or r.previous.items e 0 in
      let n = get_or r.next.items e 0 in
      let across = apart_across (front ++ before ∷ e ∷ back) fs (subst (λ zs. AreApart (zs ++ fs)) old_is apart) in
      let before_out : Lacks fs p = subst (Lacks fs) (sym before_is) (disjoint_there front (e ∷ back) fs before across) in
      let e_out : Lacks fs e = disjoint_there (front ++ before ∷ []) back fs e (subst (λ zs. AreDisjoint zs fs) (sym (append_assoc front (before ∷ []) (e ∷ back))) across) in
      let once = walk-set r.next.items p n other k (subst (λ zs. Lacks zs p) (sym w) before_out) ∙ w in
      let twice = walk-set (set r.next.items p n) e other other k (subst (λ zs. Lacks zs e) (sym once) e_out) ∙ once in
      let leads : get_or r2.next.items e 0 ≡ other = ap (λ ns. get_or ns e 0) next ∙ get_or-set_same (set r.next.items p n) e other 0 (omega (arith, length-set r.next.items p n, e_there, size)) in
      ap (λ zs. e ∷ zs) (ap (λ x. walk r2.next.items x k) leads ∙ (ap (λ ns. walk ns other k) next ∙ twice))

-- an order list without an element
pub record HasRemoved (a b : Inside) (e : ℕ) : Type 0 where
  pub kept : IsListInMemory b
  pub elements : elements_of b.ring b.count ≡ without e (elements_of a.ring a.count)

pub removed : (a b : Inside) (e : ℕ) → IsListInMemory a → Contains (elements_of a.ring a.count) e
    → b.ring.next.items ≡ set (set a.ring.next.items (get_or a.ring.previous.items e 0) (get_or a.ring.next.items e 0)) e a.free
    → b.ring.previous.items ≡ set a.ring.previous.items (get_or a.ring.next.items e 0) (get_or a.ring.previous.items e 0)
    → b.ring.labels.items ≡ a.ring.labels.items
    → b.made ≡ a.made → b.ring.room ≡ a.ring.room → b.count ≡ a.count - 1 → b.free ≡ e
    → HasRemoved a b e
removed a b e kept has next previous labels b_made b_room b_count b_free = record {
  kept = record {
    places = omega (arith, sizes, kept.places, b_made);
    within = omega (arith, kept.within, b_made, b_room);
    few = omega (arith, kept.few, b_made, b_count);
    ring = subst (IsRing b.ring) (sym elements) ring2;
    there = omega (arith, b_free, sizes, path_within a.ring xs e kept.ring some (after_head xs e has));
    apart = subst (λ zs. AreApart (path zs ++ free_from b.ring b.made b.count b.free)) (sym elements) (subst (λ zs. AreApart (path (without e xs) ++ zs)) (sym free_is) (apart_after a.ring b.ring xs (free_from a.ring a.made a.count a.free) e a.free kept.ring has kept.apart some next previous labels));
  };
  elements = elements;
} where
  xs : List ℕ
  xs = elements_of a.ring a.count

  some : 0 < vec_len a.ring.next
  some = omega (arith, kept.there)

  one : 0 < a.count
  one = omega (arith, has.1, length-walk a.ring.next.items (get_or a.ring.next.items 0 0) a.count)

  ring2 : IsRing b.ring (without e xs)
  ring2 = ring_without a.ring b.ring xs (free_from a.ring a.made a.count a.free) e a.free kept.ring has kept.apart some next previous labels

  sizes : vec_len b.ring.next ≡ vec_len a.ring.next
  sizes =
      let once = length-set a.ring.next.items (get_or a.ring.previous.items e 0) (get_or a.ring.next.items e 0) in
      let twice = length-set (set a.ring.next.items (get_or a.ring.previous.items e 0) (get_or a.ring.next.items e 0)) e a.free in
      omega (arith, b.ring.next.ok.0, a.ring.next.ok.0, ap length next, once, twice)

  elements : elements_of b.ring b.count ≡ without e xs
  elements =
      let less = length-without a.ring b.ring xs (free_from a.ring a.made a.count a.free) e a.free kept.ring has kept.apart some next previous labels in
      elements_are b.ring (without e xs) b.count ring2.linked (omega (arith, less, length-walk a.ring.next.items (get_or a.ring.next.items 0 0) a.count, b_count))

  free_is : free_from b.ring b.made b.count b.free ≡ e ∷ free_from a.ring a.made a.count a.free
  free_is =
      let more : b.made - b.count ≡ suc (a.made - a.count) = omega (arith, b_made, b_count, one, kept.few) in
      ap (λ n. walk b.ring.next.items b.free n) more ∙ (
      ap (λ x. walk b.ring.next.items x (suc (a.made - a.count))) b_free
      ∙ walk-without a.ring b.ring xs (free_from a.ring a.made a.count a.free) e a.free kept.ring has kept.apart some next previous labels (a.made - a.count) refl
      )
