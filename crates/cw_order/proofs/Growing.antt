-- A place more: the ring keeps the same list, and the new place is in no use.
use Rattle.std.proofs.Common.{ℕ, zero, suc, ◌+◌, ◌-◌, ◌≤◌, ◌<◌, ◌≡◌, List, [], ◌∷◌, ◌++◌, length, get_or, refl, sym, ap, ◌∙◌, subst, arith, inl, inr}
use Rattle.std.specs.Vec.{vec_len}
use Rattle.std.proofs.lemmas.List.{length-append}
use Rattle.cw_order.specs.declared.ring.Ring.{Ring}
use Rattle.cw_order.specs.declared.ring.TheConstants.{END}
use Rattle.cw_order.specs.Links.{walk, first_or, AreLinked, AreApart, Lacks, Rise}
use Rattle.cw_order.specs.Ring.{IsRing, path, elements_of}
use Rattle.cw_order.specs.OrderList.{ArePlaces}
use Rattle.cw_order.proofs.Apart.{has_or_lacks, lacks_whole, apart_in}
use Rattle.cw_order.proofs.Keeping.{path_within}
use Rattle.cw_order.proofs.Spreading.{read_all}

-- what is read of a list is read of it with a 0 behind it
pub get_or-more : (ns : List ℕ) (k : ℕ) → get_or (ns ++ 0 ∷ []) k 0 ≡ get_or ns k 0
get_or-more [] zero = refl
get_or-more [] (suc k) = refl
get_or-more (n ∷ ns) zero = refl
get_or-more (n ∷ ns) (suc k) = get_or-more ns k

walk-more : (ns : List ℕ) (at k : ℕ) → walk (ns ++ 0 ∷ []) at k ≡ walk ns at k
walk-more ns at zero = refl
walk-more ns at (suc k) = ap (λ zs. at ∷ zs) (ap (λ x. walk (ns ++ 0 ∷ []) x k) (get_or-more ns at) ∙ walk-more ns (get_or ns at 0) k)

linked-more : (ns ps xs : List ℕ) (b : ℕ) → AreLinked ns ps xs b → AreLinked (ns ++ 0 ∷ []) (ps ++ 0 ∷ []) xs b
linked-more ns ps [] b l = tt
linked-more ns ps (x ∷ xs) b l = (get_or-more ns x ∙ l.0, get_or-more ps (first_or xs b) ∙ l.1, linked-more ns ps xs b l.2)

read_all-more : (ls xs : List ℕ) → read_all (ls ++ 0 ∷ []) xs ≡ read_all ls xs
read_all-more ls [] = refl
read_all-more ls (x ∷ xs) = ap (λ y. y ∷ read_all (ls ++ 0 ∷ []) xs) (get_or-more ls x) ∙ ap (λ ys. get_or ls x 0 ∷ ys) (read_all-more ls xs)

module _ (r r2 : Ring) (next : r2.next.items ≡ r.next.items ++ 0 ∷ []) (previous : r2.previous.items ≡ r.previous.items ++ 0 ∷ []) (labels : r2.labels.items ≡ r.labels.items ++ 0 ∷ []) where
  ring_grown : (xs : List ℕ) → IsRing r xs → IsRing r2 xs
  ring_grown xs ring = record {
    linked =
        subst (λ ns. AreLinked ns r2.previous.items (path xs) 0) (sym next)
        (subst (λ ps. AreLinked (r.next.items ++ 0 ∷ []) ps (path xs) 0) (sym previous) (linked-more r.next.items r.previous.items (path xs) 0 ring.linked));
    rising =
        subst (λ ls. Rise 1 (read_all ls (path xs)) END) (sym labels)
        (subst (λ ns. Rise 1 ns END) (sym (read_all-more r.labels.items (path xs))) ring.rising);
    apart = ring.apart;
  }

  pub elements_grown : (count : ℕ) → elements_of r2 count ≡ elements_of r count
  elements_grown count =
      ap (λ ns. walk ns (get_or ns 0 0) count) next
      ∙ (walk-more r.next.items (get_or (r.next.items ++ 0 ∷ []) 0 0) count ∙ ap (λ x. walk r.next.items x count) (get_or-more r.next.items 0))

  pub places_grown : (made count free place : ℕ) → ArePlaces r made count free → made ≤ count → made < r.room → place ≡ vec_len r.next → r2.room ≡ r.room → ArePlaces r2 place count place
  places_grown made count free place kept full room is same = record {
    places = size;
    within = omega (arith, kept.places, room, is, same);
    few = omega (arith, kept.few, kept.places, is);
    ring = subst (IsRing r2) (sym (elements_grown count)) (ring_grown xs kept.ring);
    there = omega (arith, size);
    apart = subst (λ zs. AreApart (path zs ++ walk r2.next.items place (place - count))) (sym (elements_grown count)) (subst (λ k. AreApart (path xs ++ walk r2.next.items place k)) (sym one) alone);
  } where
    xs : List ℕ
    xs = elements_of r count

    size : vec_len r2.next ≡ place + 1
    size = omega (arith, r2.next.ok.0, r.next.ok.0, ap length next, length-append r.next.items (0 ∷ []), is)

    none : made - count ≡ 0
    none = omega (arith, full)

    one : place - count ≡ 1
    one = omega (arith, kept.few, kept.places, full, is)

    old : AreApart (path xs ++ [])
    old = subst (λ k. AreApart (path xs ++ walk r.next.items free k)) none kept.apart

    out : Lacks (path xs) place
    out = elim (has_or_lacks (path xs) place) [
      | inl h ↦ absurd (let low = path_within r xs place kept.ring (omega (arith, kept.there)) h in omega (arith, low, is))
      | inr l ↦ l
    ]

    alone : AreApart (path xs ++ place ∷ [])
    alone = apart_in (path xs) [] place (lacks_whole (path xs) [] place out tt) old
