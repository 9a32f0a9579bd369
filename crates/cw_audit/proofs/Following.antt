-- The first stamps after each node in series.
use Rattle.std.proofs.Common.{◌≡◌, ◌≢◌, ◌↔◌, ℕ, ◌+◌, ◌-◌, ◌<◌, ◌≤◌, List, length, get_or, set, replicate, ap, sym, ◌∙◌, subst, arith, false, Option, Some, None, inl, inr}
use Rattle.std.specs.Prelude.{◌⊎◌}
use Rattle.std.proofs.lemmas.Bool.{cases_eq}
use Rattle.std.proofs.lemmas.List.{get_or-set_same, get_or-set_other, get_or-replicate, length-set, length-replicate}
use Rattle.cw_tree.specs.declared.node.Node.{Node}
use Rattle.cw_tree.specs.Nodes.{parent_of, stamp_of, is_fork}
use Rattle.cw_tree.specs.Walks.{IsRooted}
use Rattle.cw_tree.proofs.Walks.Ancestors.{ancestor_self, ancestor_root, ancestor_up, ancestor_le}
use Rattle.cw_tree.proofs.Walks.Upward.{ancestor_cases}
use Rattle.cw_tree.proofs.Walks.Kin.{of_before, before_of}
use Rattle.cw_audit.specs.Moments.{IsUnder, HoldsUnder, Predates, PredatesWithin, PredatesBeneath, PredatesPast, PredatesBeside, PredatesAfter, AreBesides}
use Rattle.cw_audit.proofs.Rising.Within.{AllFrom, within_from, within_to, beneath_children, children_beneath, both_from, from_both, other_from, from_other}

-- ## Limits

pub under_same : (D E : ℕ → Type 0) (o : Option ℕ) → ((v : ℕ) → D v → E v) → ((v : ℕ) → E v → D v) → HoldsUnder D o → HoldsUnder E o
under_same D E o to from w v = (λ e. (w v).0 (from v e), λ u. to v ((w v).1 u))

pub under_all : (D : ℕ → Type 0) → ((v : ℕ) → D v) → HoldsUnder D None
under_all D all v = (λ d. tt, λ u. all v)

pub under_both : (D E : ℕ → Type 0) (a b o : Option ℕ) → HoldsUnder D a → HoldsUnder E b → ((v : ℕ) → IsUnder v o ↔ (IsUnder v a × IsUnder v b)) → HoldsUnder (λ v. D v × E v) o
under_both D E a b o d e w v = (λ h. (w v).1 ((d v).0 h.0, (e v).0 h.1), λ u. let z = (w v).0 u in ((d v).1 z.0, (e v).1 z.1))

-- the stamp of a node that has one
stamp_under : (t : List Node) (n s : ℕ) → stamp_of t n ≡ s → 0 < s → HoldsUnder (Predates t n) (Some s)
stamp_under t n s e pos v = (λ h. (let z = h (omega arith) in omega arith), λ u p. (let l : v < s = u in omega arith))

-- ## Within a node

pub within_stamp : (t : List Node) (n s : ℕ) (b o : Option ℕ) → n < length t → stamp_of t n ≡ s → 0 < s → HoldsUnder (PredatesBeneath t n) b → ((v : ℕ) → IsUnder v o ↔ (IsUnder v (Some s) × IsUnder v b)) → HoldsUnder (PredatesWithin t n) o
within_stamp t n s b o there e pos w is =
    under_same (λ v. Predates t n v × PredatesBeneath t n v) (PredatesWithin t n) o (λ v h. within_from t (Predates t) n v h.0 h.1) (λ v h. within_to t (Predates t) n v there h)
    (under_both (Predates t n) (PredatesBeneath t n) (Some s) b o (stamp_under t n s e pos) w is)

-- ## The pass from the last node down

-- the nodes from n on have the least stamp beside them, and each node the one in its children from n on
pub record BesidesDown (t : List Node) (n : ℕ) (firsts past : List (Option ℕ)) : Type 0 where
  pub some : 0 < n
  pub low : n ≤ length t
  pub len : length firsts ≡ length t
  pub past_len : length past ≡ length t
  pub root : get_or firsts 0 None ≡ None
  pub done : (x : ℕ) → n ≤ x → x < length t → HoldsUnder (PredatesBeside t x) (get_or firsts x None)
  pub each : (x : ℕ) → x < length t → HoldsUnder (AllFrom t (Predates t) n x) (get_or past x None)

pub besides_start : (t : List Node) (n : ℕ) (firsts past : List (Option ℕ)) → 0 < length t → n ≡ length t → firsts ≡ replicate n None → past ≡ replicate n None → BesidesDown t n firsts past
besides_start t n firsts past some e p q = record {
  some = omega arith;
  low = omega arith;
  len = ap length p ∙ length-replicate n None ∙ e;
  past_len = ap length q ∙ length-replicate n None ∙ e;
  root = ap (λ xs. get_or xs 0 None) p ∙ get_or-replicate n 0 None None (omega arith);
  done = λ x h l. absurd (omega arith);
  each = λ x h. (
      let none_is : get_or past x None ≡ None = ap (λ xs. get_or xs x None) q ∙ get_or-replicate n x None None (omega arith) in
      let P : Option ℕ → Type 0 = λ o. HoldsUnder (AllFrom t (Predates t) n x) o in
      subst P (sym none_is) (under_all (AllFrom t (Predates t) n x) (λ v c l s there up. absurd (omega arith))));
}

pub besides_end : (t : List Node) (n : ℕ) (firsts past : List (Option ℕ)) → BesidesDown t n firsts past → n ≤ 1 → AreBesides t firsts
besides_end t n firsts past w last = record { len = w.len; root = w.root; each = λ x s there. w.done x (omega arith) there }

module _ (t : List Node) (r : IsRooted t) (n : ℕ) (firsts past : List (Option ℕ)) (w : BesidesDown t n firsts past) (more : 1 < n) where
  here : n - 1 < length t
  here = let low = w.low in omega arith

  -- what is kept of the children of the node's parent
  pub past_parent : (q : ℕ) (o : Option ℕ) → q ≡ parent_of t (n - 1) → o ≡ get_or past q None → HoldsUnder (PredatesPast t (n - 1) (parent_of t (n - 1))) o
  past_parent q o up read =
      let there = here in
      let low : parent_of t (n - 1) < n - 1 = r (n - 1) (omega arith) there in
      let P : Option ℕ → Type 0 = λ x. HoldsUnder (AllFrom t (Predates t) n q) x in
      let Q : ℕ → Type 0 = λ x. HoldsUnder (PredatesPast t (n - 1) x) o in
      subst Q up (under_same (AllFrom t (Predates t) n q) (PredatesPast t (n - 1) q) o (λ v h c l there up. h c (omega arith) (omega arith) there up) (λ v h c l s there up. h c (omega arith) there up)
      (subst P (sym read) (w.each q (omega arith))))

  -- and of its own
  pub past_beneath : (o : Option ℕ) → o ≡ get_or past (n - 1) None → HoldsUnder (PredatesBeneath t (n - 1)) o
  past_beneath o read =
      let P : Option ℕ → Type 0 = λ x. HoldsUnder (PredatesBeneath t (n - 1)) x in
      subst P (sym read) (under_same (AllFrom t (Predates t) n (n - 1)) (PredatesBeneath t (n - 1)) (get_or past (n - 1) None) (λ v h. beneath_children t r (Predates t) n (n - 1) v (omega arith) h) (λ v h. children_beneath t r (Predates t) n (n - 1) v h)
      (w.each (n - 1) here))

  module _ (q : ℕ) (old beside within new : Option ℕ) (up : q ≡ parent_of t (n - 1)) (read : old ≡ get_or past q None) (own : HoldsUnder (PredatesBeside t (n - 1)) beside)
      (in_here : HoldsUnder (PredatesWithin t (n - 1)) within) (is : (v : ℕ) → IsUnder v new ↔ (IsUnder v old × IsUnder v within)) where
    below : q < length t
    below = let there = here in let low : parent_of t (n - 1) < n - 1 = r (n - 1) (omega arith) there in omega arith

    at_parent : HoldsUnder (AllFrom t (Predates t) (n - 1) q) new
    at_parent =
        let P : Option ℕ → Type 0 = λ x. HoldsUnder (AllFrom t (Predates t) n q) x in
        under_same (λ v. AllFrom t (Predates t) n q v × PredatesWithin t (n - 1) v) (AllFrom t (Predates t) (n - 1) q) new (λ v. both_from t r (Predates t) n more w.low q v) (λ v. from_both t r (Predates t) n more w.low q v up)
        (under_both (AllFrom t (Predates t) n q) (PredatesWithin t (n - 1)) old within new (subst P (sym read) (w.each q below)) in_here is)

    at_other : (x : ℕ) → x < length t → x ≢ q → HoldsUnder (AllFrom t (Predates t) (n - 1) x) (get_or past x None)
    at_other x there ne =
        under_same (AllFrom t (Predates t) n x) (AllFrom t (Predates t) (n - 1) x) (get_or past x None) (λ v. other_from t r (Predates t) n more w.low x v (λ e. ne (e ∙ sym up))) (λ v. from_other t r (Predates t) n more w.low x v) (w.each x there)

    pub besides_step : BesidesDown t (n - 1) (set firsts (n - 1) beside) (set past q new)
    besides_step = record {
      some = omega arith;
      low = (let low = w.low in omega arith);
      len = length-set firsts (n - 1) beside ∙ w.len;
      past_len = length-set past q new ∙ w.past_len;
      root = get_or-set_other firsts (n - 1) 0 beside None (omega arith) ∙ w.root;
      done = λ x l h. done_at x l h (cases_eq x (n - 1));
      each = λ x h. each_at x h (cases_eq x q);
    } where
      done_at : (x : ℕ) → n - 1 ≤ x → x < length t → (x ≡ n - 1) ⊎ (x ≡ n - 1 → ⊥) → HoldsUnder (PredatesBeside t x) (get_or (set firsts (n - 1) beside) x None)
      done_at x l h (inl e) =
          let len = w.len in
          let there = here in
          let value : get_or (set firsts (n - 1) beside) (n - 1) None ≡ beside = get_or-set_same firsts (n - 1) beside None (omega arith) in
          let P : ℕ → Type 0 = λ y. HoldsUnder (PredatesBeside t y) (get_or (set firsts (n - 1) beside) y None) in
          let Q : Option ℕ → Type 0 = λ o. HoldsUnder (PredatesBeside t (n - 1)) o in
          subst P (sym e) (subst Q (sym value) own)
      done_at x l h (inr ne) =
          let Q : Option ℕ → Type 0 = λ o. HoldsUnder (PredatesBeside t x) o in
          subst Q (sym (get_or-set_other firsts (n - 1) x beside None ne)) (w.done x (omega arith) h)

      each_at : (x : ℕ) → x < length t → (x ≡ q) ⊎ (x ≡ q → ⊥) → HoldsUnder (AllFrom t (Predates t) (n - 1) x) (get_or (set past q new) x None)
      each_at x h (inl e) =
          let len = w.past_len in
          let there = below in
          let value : get_or (set past q new) q None ≡ new = get_or-set_same past q new None (omega arith) in
          let P : ℕ → Type 0 = λ y. HoldsUnder (AllFrom t (Predates t) (n - 1) y) (get_or (set past q new) y None) in
          let Q : Option ℕ → Type 0 = λ o. HoldsUnder (AllFrom t (Predates t) (n - 1) q) o in
          subst P (sym e) (subst Q (sym value) at_parent)
      each_at x h (inr ne) =
          let Q : Option ℕ → Type 0 = λ o. HoldsUnder (AllFrom t (Predates t) (n - 1) x) o in
          subst Q (sym (get_or-set_other past q x new None ne)) (at_other x h ne)

-- ## The pass from the first node up

-- nothing is after the root
root_last : (t : List Node) (v : ℕ) → PredatesAfter t 0 v
root_last t v m there e =
    let s = of_before t 0 m e in
    let o = s.ordered in
    let some = o.some in
    let at_root : s.first ≡ 0 = ancestor_root t s.first s.over_first in
    absurd (omega arith)

module _ (t : List Node) (r : IsRooted t) (n : ℕ) (some : 0 < n) (there : n < length t) where
  -- what is after a node is after its parent or in the children after it
  after_from : (v : ℕ) → PredatesBeside t n v × PredatesAfter t (parent_of t n) v → PredatesAfter t n v
  after_from v h m in_tree e =
      let s = of_before t n m e in
      let o = s.ordered in
      let less = o.less in
      elim (ancestor_cases t r s.first n some there s.over_first) [
        | inl q ↦
            (let up : parent_of t s.second ≡ parent_of t n = sym o.same ∙ ap (parent_of t) (sym q) in
            let free : is_fork t (parent_of t n) ≡ false = ap (λ x. is_fork t (parent_of t x)) q ∙ o.no_fork in
            let le : s.second ≤ m = ancestor_le t r s.second m in_tree s.over_second in
            h.0 free s.second (omega arith) (omega arith) up m in_tree s.over_second)
        | inr over ↦ h.1 m in_tree (before_of t (parent_of t n) m (record { first = s.first; second = s.second; ordered = o; over_first = over; over_second = s.over_second }))
      ]

  after_to : (v : ℕ) → PredatesAfter t n v → PredatesBeside t n v × PredatesAfter t (parent_of t n) v
  after_to v h = (
    λ free c less c_in up m in_tree e. h m in_tree (before_of t n m (record {
      first = n;
      second = c;
      ordered = record { some = some; less = less; same = sym up; no_fork = free };
      over_first = ancestor_self t n;
      over_second = e;
    })),
    λ m in_tree e. (
        let s = of_before t (parent_of t n) m e in
        h m in_tree (before_of t n m (record { first = s.first; second = s.second; ordered = s.ordered; over_first = ancestor_up t r s.first n some there s.over_first; over_second = s.over_second }))),
  )

-- the nodes below n have the least stamp after them, the others that beside them
pub record FirstsUp (t : List Node) (n : ℕ) (firsts : List (Option ℕ)) : Type 0 where
  pub some : 0 < n
  pub len : length firsts ≡ length t
  pub done : (x : ℕ) → x < n → x < length t → HoldsUnder (PredatesAfter t x) (get_or firsts x None)
  pub left : (x : ℕ) → n ≤ x → x < length t → HoldsUnder (PredatesBeside t x) (get_or firsts x None)

pub firsts_start : (t : List Node) (firsts : List (Option ℕ)) → AreBesides t firsts → FirstsUp t 1 firsts
firsts_start t firsts w = record {
  some = omega arith;
  len = w.len;
  done = λ x l there. (
      let root : x ≡ 0 = omega arith in
      let P : ℕ → Type 0 = λ y. HoldsUnder (PredatesAfter t y) (get_or firsts y None) in
      let Q : Option ℕ → Type 0 = λ o. HoldsUnder (PredatesAfter t 0) o in
      subst P (sym root) (subst Q (sym w.root) (under_all (PredatesAfter t 0) (root_last t))));
  left = λ x l there. w.each x (omega arith) there;
}

module _ (t : List Node) (r : IsRooted t) (n : ℕ) (there : n < length t) (firsts : List (Option ℕ)) (w : FirstsUp t n firsts) (q : ℕ) (beside above new : Option ℕ) (up : q ≡ parent_of t n)
    (own : beside ≡ get_or firsts n None) (read : above ≡ get_or firsts q None) (is : (v : ℕ) → IsUnder v new ↔ (IsUnder v beside × IsUnder v above)) where
  here_after : HoldsUnder (PredatesAfter t n) new
  here_after =
      let some = w.some in
      let low : parent_of t n < n = r n w.some there in
      let P : Option ℕ → Type 0 = λ o. HoldsUnder (PredatesBeside t n) o in
      let Q : Option ℕ → Type 0 = λ o. HoldsUnder (PredatesAfter t (parent_of t n)) o in
      under_same (λ v. PredatesBeside t n v × PredatesAfter t (parent_of t n) v) (PredatesAfter t n) new (after_from t r n some there) (after_to t r n some there)
      (under_both (PredatesBeside t n) (PredatesAfter t (parent_of t n)) beside above new (subst P (sym own) (w.left n (omega arith) there))
      (subst Q (sym (read ∙ ap (λ y. get_or firsts y None) up)) (w.done (parent_of t n) low (omega arith))) is)

  pub firsts_step : FirstsUp t (n + 1) (set firsts n new)
  firsts_step = record {
    some = omega arith;
    len = length-set firsts n new ∙ w.len;
    done = λ x l h. done_at x l h (cases_eq x n);
    left = λ x l h. (
        let Q : Option ℕ → Type 0 = λ o. HoldsUnder (PredatesBeside t x) o in
        subst Q (sym (get_or-set_other firsts n x new None (omega arith))) (w.left x (omega arith) h));
  } where
    done_at : (x : ℕ) → x < n + 1 → x < length t → (x ≡ n) ⊎ (x ≡ n → ⊥) → HoldsUnder (PredatesAfter t x) (get_or (set firsts n new) x None)
    done_at x l h (inl e) =
        let len = w.len in
        let value : get_or (set firsts n new) n None ≡ new = get_or-set_same firsts n new None (omega arith) in
        let P : ℕ → Type 0 = λ y. HoldsUnder (PredatesAfter t y) (get_or (set firsts n new) y None) in
        let Q : Option ℕ → Type 0 = λ o. HoldsUnder (PredatesAfter t n) o in
        subst P (sym e) (subst Q (sym value) here_after)
    done_at x l h (inr ne) =
        let Q : Option ℕ → Type 0 = λ o. HoldsUnder (PredatesAfter t x) o in
        subst Q (sym (get_or-set_other firsts n x new None ne)) (w.done x (omega arith) h)
