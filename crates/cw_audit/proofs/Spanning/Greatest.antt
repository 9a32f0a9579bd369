-- The pass from the last node down, which finds the greatest number in each node.
use Rattle.std.proofs.Common.{◌≡◌, ℕ, suc, ◌-◌, ◌<◌, ◌≤◌, List, length, map, get_or, set, ap, sym, ◌∙◌, subst, arith, inl, inr}
use Rattle.std.specs.Prelude.{◌⊎◌, max}
use Rattle.std.proofs.lemmas.Bool.{cases_eq}
use Rattle.std.proofs.lemmas.List.{get_or-set_same, get_or-set_other, length-set}
use Rattle.std.proofs.lemmas.Grind.{get_or_default_zero}
use Rattle.cw_tree.specs.declared.node.Node.{Node}
use Rattle.cw_tree.specs.Nodes.{parent_of, all_nodes}
use Rattle.cw_tree.specs.Walks.{IsRooted}
use Rattle.cw_tree.specs.InOrder.{renamed}
use Rattle.cw_tree.proofs.Lists.{length_map_below, get_map_below}
use Rattle.cw_audit.specs.Latest.{IsLeast}
use Rattle.cw_audit.specs.Spans.{Covers, AreLast}
use Rattle.cw_audit.proofs.Rising.Least.{least_same, least_number, least_both}
use Rattle.cw_audit.proofs.Rising.Within.{AllBeneath, AllFrom, within_from, within_to, beneath_children, children_beneath, both_from, from_both, other_from, from_other}

-- v is no less than the number of node m
abbrev pub Reaches : List Node → (m v : ℕ) → Type 0
Reaches t m v = renamed t m ≤ v

-- nor than that of node x and those in its children from number n on
abbrev pub CoversFrom : List Node → (n x v : ℕ) → Type 0
CoversFrom t n x v = Reaches t x v × AllFrom t (Reaches t) n x v

pub record GreatestDown (t : List Node) (n : ℕ) (greatest : List ℕ) : Type 0 where
  pub some : 0 < n
  pub low : n ≤ length t
  pub len : length greatest ≡ length t
  pub each : (x : ℕ) → x < length t → IsLeast (CoversFrom t n x) (get_or greatest x 0)

module _ (t : List Node) (r : IsRooted t) where
  pub greatest_start : (n : ℕ) (numbers greatest : List ℕ) → 0 < length t → n ≡ length t → greatest ≡ numbers → numbers ≡ map (renamed t) (all_nodes t) → GreatestDown t n greatest
  greatest_start n numbers greatest some e q is = record {
    some = omega arith;
    low = omega arith;
    len = ap length (q ∙ is) ∙ length_map_below (renamed t) (length t);
    each = λ x h. (
        let value : get_or greatest x 0 ≡ renamed t x = ap (λ xs. get_or xs x 0) (q ∙ is) ∙ get_map_below (renamed t) (length t) x 0 h in
        let P : ℕ → Type 0 = λ k. IsLeast (CoversFrom t n x) k in
        subst P (sym value) (least_same (Reaches t x) (CoversFrom t n x) (renamed t x) (λ v h. (h, λ c low s there up. absurd (omega arith))) (λ v h. h.0) (least_number (renamed t x))));
  }

  covers_to : (n x v : ℕ) → n ≤ suc x → CoversFrom t n x v → Covers t x v
  covers_to n x v low h = within_from t (Reaches t) x v h.0 (beneath_children t r (Reaches t) n x v low h.1)

  covers_from : (n x v : ℕ) → x < length t → Covers t x v → CoversFrom t n x v
  covers_from n x v there h =
      let z : Reaches t x v × AllBeneath t (Reaches t) x v = within_to t (Reaches t) x v there h in
      (z.0, children_beneath t r (Reaches t) n x v z.1)

  done : (n x : ℕ) (greatest : List ℕ) → GreatestDown t n greatest → x < length t → n ≤ suc x → IsLeast (Covers t x) (get_or greatest x 0)
  done n x greatest w there low = least_same (CoversFrom t n x) (Covers t x) (get_or greatest x 0) (λ v. covers_to n x v low) (λ v. covers_from n x v there) (w.each x there)

  pub greatest_end : (n : ℕ) (greatest : List ℕ) → GreatestDown t n greatest → n ≤ 1 → AreLast t greatest
  greatest_end n greatest w last = record { len = w.len; each = λ x there. done n x greatest w there (omega arith) }

  module _ (n : ℕ) (greatest : List ℕ) (w : GreatestDown t n greatest) (more : 1 < n) (k q old new : ℕ) (within : k ≡ get_or greatest (n - 1) k) (up : q ≡ parent_of t (n - 1))
      (read : old ≡ get_or greatest q old) (is : new ≡ max old k) where
    below : q < length t
    below = let low = w.low in let l : parent_of t (n - 1) < n - 1 = r (n - 1) (omega arith) (omega arith) in omega arith

    there_too : n - 1 < length t
    there_too = let low = w.low in omega arith

    own : IsLeast (Covers t (n - 1)) k
    own =
        let len = w.len in
        let there : n - 1 < length t = there_too in
        let k_is : k ≡ get_or greatest (n - 1) 0 = within ∙ get_or_default_zero greatest (n - 1) k (omega arith) in
        let P : ℕ → Type 0 = λ j. IsLeast (Covers t (n - 1)) j in
        subst P (sym k_is) (done n (n - 1) greatest w there (omega arith))

    here : IsLeast (CoversFrom t (n - 1) q) new
    here =
        let len = w.len in
        let there : q < length t = below in
        let old_is : old ≡ get_or greatest q 0 = read ∙ get_or_default_zero greatest q old (omega arith) in
        let P : ℕ → Type 0 = λ j. IsLeast (CoversFrom t (n - 1) q) j in
        let Q : ℕ → Type 0 = λ j. IsLeast (CoversFrom t n q) j in
        subst P (sym is) (least_same (λ v. CoversFrom t n q v × Covers t (n - 1) v) (CoversFrom t (n - 1) q) (max old k)
        (λ v h. (h.0.0, both_from t r (Reaches t) n more w.low q v (h.0.1, h.1)))
        (λ v h. (let z = from_both t r (Reaches t) n more w.low q v up h.1 in ((h.0, z.0), z.1)))
        (least_both (CoversFrom t n q) (Covers t (n - 1)) old k (subst Q (sym old_is) (w.each q there)) own))

    pub greatest_step : GreatestDown t (n - 1) (set greatest q new)
    greatest_step = record {
      some = omega arith;
      low = (let low = w.low in omega arith);
      len = length-set greatest q new ∙ w.len;
      each = λ x h. each_at x h (cases_eq x q);
    } where
      each_at : (x : ℕ) → x < length t → (x ≡ q) ⊎ (x ≡ q → ⊥) → IsLeast (CoversFrom t (n - 1) x) (get_or (set greatest q new) x 0)
      each_at x h (inl e) =
          let len = w.len in
          let there : q < length t = below in
          let value : get_or (set greatest q new) q 0 ≡ new = get_or-set_same greatest q new 0 (omega arith) in
          let P : ℕ → Type 0 = λ y. IsLeast (CoversFrom t (n - 1) y) (get_or (set greatest q new) y 0) in
          let Q : ℕ → Type 0 = λ j. IsLeast (CoversFrom t (n - 1) q) j in
          subst P (sym e) (subst Q (sym value) here)
      each_at x h (inr ne) =
          let Q : ℕ → Type 0 = λ j. IsLeast (CoversFrom t (n - 1) x) j in
          subst Q (sym (get_or-set_other greatest q x new 0 ne))
          (least_same (CoversFrom t n x) (CoversFrom t (n - 1) x) (get_or greatest x 0) (λ v y. (y.0, other_from t r (Reaches t) n more w.low x v (λ e. ne (e ∙ sym up)) y.1))
          (λ v y. (y.0, from_other t r (Reaches t) n more w.low x v y.1)) (w.each x h))
