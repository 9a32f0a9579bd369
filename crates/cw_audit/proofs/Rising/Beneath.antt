-- The pass from the last node down, which finds the greatest stamp or end beneath each node.
use Rattle.std.proofs.Common.{◌≡◌, ◌≢◌, ℕ, suc, ◌-◌, ◌<◌, ◌≤◌, List, length, get_or, set, replicate, ap, sym, ◌∙◌, subst, arith, inl, inr}
use Rattle.std.specs.Prelude.{◌⊎◌, max}
use Rattle.std.proofs.lemmas.Bool.{cases_eq}
use Rattle.std.proofs.lemmas.List.{get_or-set_same, get_or-set_other, get_or-replicate, length-set, length-replicate}
use Rattle.std.proofs.lemmas.Grind.{get_or_default_zero}
use Rattle.cw_tree.specs.declared.node.Node.{Node}
use Rattle.cw_tree.specs.Nodes.{parent_of, stamp_of, end_of}
use Rattle.cw_tree.specs.Walks.{IsRooted}
use Rattle.cw_audit.specs.Latest.{IsLeast, Tops, TopsWithin, TopsBeneath}
use Rattle.cw_audit.proofs.Rising.Least.{least_same, least_none, least_both}
use Rattle.cw_audit.proofs.Rising.Within.{AllFrom, within_from, within_to, beneath_children, children_beneath, both_from, from_both, other_from, from_other}

-- v tops what is in the children of node x from number n on
abbrev pub TopsFrom : List Node → (n x v : ℕ) → Type 0
TopsFrom t n x v = AllFrom t (Tops t) n x v

-- each node has the greatest stamp or end in its children from number n on
pub record LatestDown (t : List Node) (n : ℕ) (latest : List ℕ) : Type 0 where
  pub some : 0 < n
  pub low : n ≤ length t
  pub len : length latest ≡ length t
  pub each : (x : ℕ) → x < length t → IsLeast (TopsFrom t n x) (get_or latest x 0)

pub within_least : (t : List Node) (n s e a k b : ℕ) → n < length t → stamp_of t n ≡ s → end_of t n ≡ e → IsLeast (TopsBeneath t n) b → a ≡ max s e → k ≡ max a b → IsLeast (TopsWithin t n) k
within_least t n s e a k b there p q w f g = record {
  upward = λ v le. within_from t (Tops t) n v (omega arith, omega arith) (w.upward v (omega arith));
  least = λ v h. (
      let z : Tops t n v × TopsBeneath t n v = within_to t (Tops t) n v there h in
      let x : stamp_of t n ≤ v = z.0.0 in
      let y : end_of t n ≤ v = z.0.1 in
      let l : b ≤ v = w.least v z.1 in
      omega arith);
}

module _ (t : List Node) (r : IsRooted t) where
  pub down_start : (n : ℕ) (latest : List ℕ) → 0 < length t → n ≡ length t → latest ≡ replicate n 0 → LatestDown t n latest
  down_start n latest some e q = record {
    some = omega arith;
    low = omega arith;
    len = ap length q ∙ length-replicate n 0 ∙ e;
    each = λ x h. (
        let zero_is : get_or latest x 0 ≡ 0 = ap (λ xs. get_or xs x 0) q ∙ get_or-replicate n x 0 0 (omega arith) in
        let P : ℕ → Type 0 = λ k. IsLeast (TopsFrom t n x) k in
        subst P (sym zero_is) (least_none (TopsFrom t n x) (λ v c low s there up. absurd (omega arith))));
  }

  -- what is kept of a node whose children are done
  done_least : (n x : ℕ) (latest : List ℕ) (b : ℕ) → LatestDown t n latest → x < length t → n ≤ suc x → b ≡ get_or latest x b → IsLeast (TopsBeneath t x) b
  done_least n x latest b w there low read =
      let len = w.len in
      let e : b ≡ get_or latest x 0 = read ∙ get_or_default_zero latest x b (omega arith) in
      let P : ℕ → Type 0 = λ k. IsLeast (TopsBeneath t x) k in
      subst P (sym e) (least_same (TopsFrom t n x) (TopsBeneath t x) (get_or latest x 0) (λ v h. beneath_children t r (Tops t) n x v low h) (λ v h. children_beneath t r (Tops t) n x v h) (w.each x there))

  pub beneath_least : (n : ℕ) (latest : List ℕ) (b : ℕ) → LatestDown t n latest → 1 < n → b ≡ get_or latest (n - 1) b → IsLeast (TopsBeneath t (n - 1)) b
  beneath_least n latest b w more read = let low = w.low in done_least n (n - 1) latest b w (omega arith) (omega arith) read

  pub down_end : (n : ℕ) (latest : List ℕ) → LatestDown t n latest → n ≤ 1 → (x : ℕ) → x < length t → IsLeast (TopsBeneath t x) (get_or latest x 0)
  down_end n latest w last x there =
      least_same (TopsFrom t n x) (TopsBeneath t x) (get_or latest x 0) (λ v h. beneath_children t r (Tops t) n x v (omega arith) h) (λ v h. children_beneath t r (Tops t) n x v h) (w.each x there)

  module _ (n : ℕ) (latest : List ℕ) (w : LatestDown t n latest) (more : 1 < n) (k q old new : ℕ) (within : IsLeast (TopsWithin t (n - 1)) k) (up : q ≡ parent_of t (n - 1))
      (read : old ≡ get_or latest q old) (is : new ≡ max old k) where
    below : q < length t
    below = let low = w.low in let l : parent_of t (n - 1) < n - 1 = r (n - 1) (omega arith) (omega arith) in omega arith

    here : IsLeast (TopsFrom t (n - 1) q) new
    here =
        let len = w.len in
        let there : q < length t = below in
        let old_is : old ≡ get_or latest q 0 = read ∙ get_or_default_zero latest q old (omega arith) in
        let P : ℕ → Type 0 = λ j. IsLeast (TopsFrom t (n - 1) q) j in
        let Q : ℕ → Type 0 = λ j. IsLeast (TopsFrom t n q) j in
        subst P (sym is) (least_same (λ v. TopsFrom t n q v × TopsWithin t (n - 1) v) (TopsFrom t (n - 1) q) (max old k) (λ v. both_from t r (Tops t) n more w.low q v) (λ v. from_both t r (Tops t) n more w.low q v up)
        (least_both (TopsFrom t n q) (TopsWithin t (n - 1)) old k (subst Q (sym old_is) (w.each q there)) within))

    other : (x : ℕ) → x < length t → x ≢ q → IsLeast (TopsFrom t (n - 1) x) (get_or latest x 0)
    other x there ne =
        least_same (TopsFrom t n x) (TopsFrom t (n - 1) x) (get_or latest x 0) (λ v. other_from t r (Tops t) n more w.low x v (λ e. ne (e ∙ sym up))) (λ v. from_other t r (Tops t) n more w.low x v) (w.each x there)

    pub down_step : LatestDown t (n - 1) (set latest q new)
    down_step = record {
      some = omega arith;
      low = (let low = w.low in omega arith);
      len = length-set latest q new ∙ w.len;
      each = λ x h. each_at x h (cases_eq x q);
    } where
      each_at : (x : ℕ) → x < length t → (x ≡ q) ⊎ (x ≡ q → ⊥) → IsLeast (TopsFrom t (n - 1) x) (get_or (set latest q new) x 0)
      each_at x h (inl e) =
          let len = w.len in
          let there : q < length t = below in
          let value : get_or (set latest q new) q 0 ≡ new = get_or-set_same latest q new 0 (omega arith) in
          let P : ℕ → Type 0 = λ y. IsLeast (TopsFrom t (n - 1) y) (get_or (set latest q new) y 0) in
          let Q : ℕ → Type 0 = λ j. IsLeast (TopsFrom t (n - 1) q) j in
          subst P (sym e) (subst Q (sym value) here)
      each_at x h (inr ne) =
          let Q : ℕ → Type 0 = λ j. IsLeast (TopsFrom t (n - 1) x) j in
          subst Q (sym (get_or-set_other latest q x new 0 ne)) (other x h ne)
