-- The pass from the first node up, which finds what each stamp has to exceed.
use Rattle.std.proofs.Common.{◌≡◌, ◌≢◌, ℕ, ◌+◌, ◌<◌, ◌≤◌, List, length, get_or, set, replicate, refl, ap, sym, ◌∙◌, subst, arith, true, false, inl, inr}
use Rattle.std.specs.Prelude.{◌⊎◌, max}
use Rattle.std.proofs.lemmas.Bool.{cases_eq, and_parts, and_from}
use Rattle.std.proofs.lemmas.List.{get_or-set_same, get_or-set_other, get_or-replicate, length-set, length-replicate}
use Rattle.std.proofs.lemmas.Grind.{get_or_default_zero}
use Rattle.cw_tree.specs.declared.node.Node.{Node}
use Rattle.cw_tree.specs.Nodes.{parent_of, stamp_of, end_of, is_block, is_fork, is_strand}
use Rattle.cw_tree.specs.Walks.{IsRooted, is_ancestor, is_above}
use Rattle.cw_tree.proofs.NodeKinds.{strand_no_block}
use Rattle.cw_tree.proofs.Walks.Ancestors.{ancestor_self, ancestor_root, ancestor_above, above_ancestor, above_parent, ancestor_up}
use Rattle.cw_tree.proofs.Walks.Upward.{ancestor_cases}
use Rattle.cw_tree.proofs.Walks.Kin.{InSeries, of_before, before_of}
use Rattle.cw_audit.specs.Latest.{IsLeast, TopsWithin, TopsBefore, TopsBehind}
use Rattle.cw_audit.proofs.Rising.Least.{least_same, least_none, least_number, least_both}

-- each node below n has what it has to exceed, and what its next child has to
pub record FloorsUp (t : List Node) (n : ℕ) (floors behind : List ℕ) : Type 0 where
  pub some : 0 < n
  pub len : length floors ≡ length t
  pub behind_len : length behind ≡ length t
  pub own : (x : ℕ) → x < n → x < length t → IsLeast (TopsBefore t x) (get_or floors x 0)
  pub each : (x : ℕ) → x < n → x < length t → IsLeast (TopsBehind t n x) (get_or behind x 0)

-- nothing is before the root
root_first : (t : List Node) (v : ℕ) → TopsBefore t 0 v
root_first t v = record {
  series = λ n there e. (
      let s = of_before t n 0 e in
      let o = s.ordered in
      let less = o.less in
      let at_root : s.second ≡ 0 = ancestor_root t s.second s.over_second in
      absurd (omega arith));
  begun = λ b there e. (let z = (and_parts (is_block t b) (is_above t b 0) e).1 in absurd (cc z));
}

pub up_start : (t : List Node) (k : ℕ) (floors behind : List ℕ) → is_strand t 0 ≡ true → k ≡ length t → floors ≡ replicate k 0 → behind ≡ replicate k 0 → FloorsUp t 1 floors behind
up_start t k floors behind strand e p q = record {
  some = omega arith;
  len = ap length p ∙ length-replicate k 0 ∙ e;
  behind_len = ap length q ∙ length-replicate k 0 ∙ e;
  own = λ x low there. (
      let root : x ≡ 0 = omega arith in
      let P : ℕ → Type 0 = λ j. IsLeast (TopsBefore t x) j in
      let Q : ℕ → Type 0 = λ y. IsLeast (TopsBefore t y) 0 in
      subst P (sym (zero_at floors x p there)) (subst Q (sym root) (least_none (TopsBefore t 0) (root_first t))));
  each = λ x low there. (
      let root : x ≡ 0 = omega arith in
      let P : ℕ → Type 0 = λ j. IsLeast (TopsBehind t 1 x) j in
      let Q : ℕ → Type 0 = λ y. IsLeast (TopsBehind t 1 y) 0 in
      subst P (sym (zero_at behind x q there)) (subst Q (sym root) (least_none (TopsBehind t 1 0) (λ v. record {
        before = root_first t v;
        block = λ b. absurd (cc (b, strand_no_block t 0 strand));
        children = λ c s l in_tree up free. absurd (omega arith);
      }))));
} where
  zero_at : (xs : List ℕ) (x : ℕ) → xs ≡ replicate k 0 → x < length t → get_or xs x 0 ≡ 0
  zero_at xs x q there = ap (λ ys. get_or ys x 0) q ∙ get_or-replicate k x 0 0 (omega arith)

module _ (t : List Node) (r : IsRooted t) (n : ℕ) (some : 0 < n) (there : n < length t) where
  -- the parent
  abbrev p : ℕ
  p = parent_of t n

  -- what is before a node is before its parent or in the children before it
  behind_to_before : (v : ℕ) → TopsBehind t n p v → TopsBefore t n v
  behind_to_before v h = record {
    series = λ m in_tree e. series m in_tree (of_before t m n e);
    begun = λ b in_tree e. (
        let z = and_parts (is_block t b) (is_above t b n) e in
        let up : is_ancestor t b p ≡ true = sym (above_parent t r b n some there) ∙ z.1 in
        begun b in_tree z.0 up (cases_eq p b));
  } where
    series : (m : ℕ) → m < length t → InSeries t m n → (stamp_of t m ≤ v) × (end_of t m ≤ v)
    series m in_tree s =
        let o = s.ordered in
        let less = o.less in
        elim (ancestor_cases t r s.second n some there s.over_second) [
          | inl q ↦
              (let up : parent_of t s.first ≡ p = o.same ∙ ap (parent_of t) (sym q) in
              let free : is_fork t p ≡ false = sym (ap (is_fork t) up) ∙ o.no_fork in
              h.children s.first o.some (omega arith) (omega arith) up free m in_tree s.over_first)
          | inr over ↦ h.before.series m in_tree (before_of t m p (record { first = s.first; second = s.second; ordered = s.ordered; over_first = s.over_first; over_second = over }))
        ]

    begun : (b : ℕ) → b < length t → is_block t b ≡ true → is_ancestor t b p ≡ true → (p ≡ b) ⊎ (p ≡ b → ⊥) → stamp_of t b ≤ v
    begun b in_tree block up (inl q) =
        let P : ℕ → Type 0 = λ x. stamp_of t x ≤ v in
        subst P q (h.block (ap (is_block t) q ∙ block))
    begun b in_tree block up (inr ne) = h.before.begun b in_tree (and_from (is_block t b) (is_above t b p) block (sym (ancestor_above t b p ne) ∙ up))

  over_here : (b : ℕ) → is_ancestor t b p ≡ true → is_above t b n ≡ true
  over_here b e = above_parent t r b n some there ∙ e

  before_to_behind : (v : ℕ) → TopsBefore t n v → TopsBehind t n p v
  before_to_behind v h = record {
    before = record {
      series = λ m in_tree e. (
          let s = of_before t m p e in
          h.series m in_tree (before_of t m n (record { first = s.first; second = s.second; ordered = s.ordered; over_first = s.over_first; over_second = ancestor_up t r s.second n some there s.over_second })));
      begun = λ b in_tree e. (
          let z = and_parts (is_block t b) (is_above t b p) e in
          h.begun b in_tree (and_from (is_block t b) (is_above t b n) z.0 (over_here b (above_ancestor t b p z.1))));
    };
    block = λ b. (
        let low : p < n = r n some there in
        h.begun p (omega arith) (and_from (is_block t p) (is_above t p n) b (over_here p (ancestor_self t p))));
    children = λ c s l in_tree up free m m_in e.
        h.series m m_in (before_of t m n (record {
          first = c;
          second = n;
          ordered = record { some = s; less = l; same = up; no_fork = ap (is_fork t) up ∙ free };
          over_first = e;
          over_second = ancestor_self t n;
        }));
  }

  pub behind_least : (floors behind : List ℕ) (f q : ℕ) → FloorsUp t n floors behind → q ≡ p → f ≡ get_or behind q f → IsLeast (TopsBehind t n p) f
  behind_least floors behind f q w up read =
      let low : p < n = r n some there in
      let len = w.behind_len in
      let is : f ≡ get_or behind q 0 = read ∙ get_or_default_zero behind q f (omega arith) in
      let P : ℕ → Type 0 = λ j. IsLeast (TopsBehind t n p) j in
      let Q : ℕ → Type 0 = λ x. IsLeast (TopsBehind t n p) (get_or behind x 0) in
      subst P (sym is) (subst Q (sym up) (w.each p low (omega arith)))

  pub before_least : (floors behind : List ℕ) (f q : ℕ) → FloorsUp t n floors behind → q ≡ p → f ≡ get_or behind q f → IsLeast (TopsBefore t n) f
  before_least floors behind f q w up read = least_same (TopsBehind t n p) (TopsBefore t n) f behind_to_before before_to_behind (behind_least floors behind f q w up read)

  -- ## Inside the node

  no_children : (c : ℕ) → 0 < c → c < n + 1 → c < length t → parent_of t c ≡ n → ⊥
  no_children c s l in_tree up = let low : parent_of t c < c = r c s in_tree in omega arith

  pub inside_block : (f s k : ℕ) → IsLeast (TopsBefore t n) f → stamp_of t n ≡ s → k ≡ max f s → is_block t n ≡ true → IsLeast (TopsBehind t (n + 1) n) k
  inside_block f s k w stamp is block =
      let P : ℕ → Type 0 = λ j. IsLeast (TopsBehind t (n + 1) n) j in
      let Q : ℕ → Type 0 = λ j. IsLeast (λ v. stamp_of t n ≤ v) j in
      subst P (sym is) (least_same (λ v. TopsBefore t n v × (stamp_of t n ≤ v)) (TopsBehind t (n + 1) n) (max f s)
      (λ v h. record { before = h.0; block = λ b. h.1; children = λ c d l in_tree up free. absurd (no_children c d l in_tree up) })
      (λ v h. (h.before, h.block block))
      (least_both (TopsBefore t n) (λ v. stamp_of t n ≤ v) f s w (subst Q stamp (least_number (stamp_of t n)))))

  pub inside_other : (f : ℕ) → IsLeast (TopsBefore t n) f → is_block t n ≡ false → IsLeast (TopsBehind t (n + 1) n) f
  inside_other f w no_block =
      least_same (TopsBefore t n) (TopsBehind t (n + 1) n) f
      (λ v h. record { before = h; block = λ b. absurd (cc (b, no_block)); children = λ c d l in_tree up free. absurd (no_children c d l in_tree up) })
      (λ v h. h.before)
      w

  -- ## Behind the node

  pub behind_fork : (f : ℕ) → IsLeast (TopsBehind t n p) f → is_fork t p ≡ true → IsLeast (TopsBehind t (n + 1) p) f
  behind_fork f w fork =
      least_same (TopsBehind t n p) (TopsBehind t (n + 1) p) f
      (λ v h. record { before = h.before; block = h.block; children = λ c d l in_tree up free. absurd (cc (fork, free)) })
      (λ v h. record { before = h.before; block = h.block; children = λ c d l in_tree up free. absurd (cc (fork, free)) })
      w

  pub behind_other : (f within k : ℕ) → IsLeast (TopsBehind t n p) f → IsLeast (TopsWithin t n) within → k ≡ max f within → is_fork t p ≡ false → IsLeast (TopsBehind t (n + 1) p) k
  behind_other f within k w u is no_fork =
      let P : ℕ → Type 0 = λ j. IsLeast (TopsBehind t (n + 1) p) j in
      subst P (sym is) (least_same (λ v. TopsBehind t n p v × TopsWithin t n v) (TopsBehind t (n + 1) p) (max f within)
      (λ v h. record { before = h.0.before; block = h.0.block; children = λ c d l in_tree up free. child v h c d l in_tree up free (cases_eq c n) })
      (λ v h. (record { before = h.before; block = h.block; children = λ c d l in_tree up free. h.children c d (omega arith) in_tree up free }, h.children n some (omega arith) there refl no_fork))
      (least_both (TopsBehind t n p) (TopsWithin t n) f within w u)) where
        child : (v : ℕ) → TopsBehind t n p v × TopsWithin t n v → (c : ℕ) → 0 < c → c < n + 1 → c < length t → parent_of t c ≡ p → is_fork t p ≡ false → (c ≡ n) ⊎ (c ≡ n → ⊥) → TopsWithin t c v
        child v h c d l in_tree up free (inl e) = let R : ℕ → Type 0 = λ x. TopsWithin t x v in subst R (sym e) h.1
        child v h c d l in_tree up free (inr ne) = h.0.children c d (omega arith) in_tree up free

  -- for other nodes there is no child more
  behind_same : (x f : ℕ) → x ≢ p → IsLeast (TopsBehind t n x) f → IsLeast (TopsBehind t (n + 1) x) f
  behind_same x f other w =
      least_same (TopsBehind t n x) (TopsBehind t (n + 1) x) f
      (λ v h. record { before = h.before; block = h.block; children = λ c d l in_tree up free. child v h c d l in_tree up free (cases_eq c n) })
      (λ v h. record { before = h.before; block = h.block; children = λ c d l in_tree up free. h.children c d (omega arith) in_tree up free })
      w where
        child : (v : ℕ) → TopsBehind t n x v → (c : ℕ) → 0 < c → c < n + 1 → c < length t → parent_of t c ≡ x → is_fork t x ≡ false → (c ≡ n) ⊎ (c ≡ n → ⊥) → TopsWithin t c v
        child v h c d l in_tree up free (inl e) = absurd (other (sym up ∙ ap (parent_of t) e))
        child v h c d l in_tree up free (inr ne) = h.children c d (omega arith) in_tree up free

  pub up_step : (floors behind : List ℕ) (q f inside next : ℕ) → FloorsUp t n floors behind → q ≡ p → IsLeast (TopsBefore t n) f → IsLeast (TopsBehind t (n + 1) n) inside → IsLeast (TopsBehind t (n + 1) p) next
      → FloorsUp t (n + 1) (set floors n f) (set (set behind n inside) q next)
  up_step floors behind q f inside next w up here in_here past = record {
    some = omega arith;
    len = length-set floors n f ∙ w.len;
    behind_len = length-set (set behind n inside) q next ∙ length-set behind n inside ∙ w.behind_len;
    own = λ x l h. own_at x l h (cases_eq x n);
    each = λ x l h. each_at x l h (cases_eq x q) (cases_eq x n);
  } where
    own_at : (x : ℕ) → x < n + 1 → x < length t → (x ≡ n) ⊎ (x ≡ n → ⊥) → IsLeast (TopsBefore t x) (get_or (set floors n f) x 0)
    own_at x l h (inl e) =
        let len = w.len in
        let value : get_or (set floors n f) n 0 ≡ f = get_or-set_same floors n f 0 (omega arith) in
        let P : ℕ → Type 0 = λ y. IsLeast (TopsBefore t y) (get_or (set floors n f) y 0) in
        let Q : ℕ → Type 0 = λ j. IsLeast (TopsBefore t n) j in
        subst P (sym e) (subst Q (sym value) here)
    own_at x l h (inr ne) =
        let Q : ℕ → Type 0 = λ j. IsLeast (TopsBefore t x) j in
        subst Q (sym (get_or-set_other floors n x f 0 ne)) (w.own x (omega arith) h)

    each_at : (x : ℕ) → x < n + 1 → x < length t → (x ≡ q) ⊎ (x ≡ q → ⊥) → (x ≡ n) ⊎ (x ≡ n → ⊥) → IsLeast (TopsBehind t (n + 1) x) (get_or (set (set behind n inside) q next) x 0)
    each_at x l h (inl e) b =
        let len = w.behind_len in
        let low : p < n = r n some there in
        let is : x ≡ p = e ∙ up in
        let value : get_or (set (set behind n inside) q next) q 0 ≡ next = get_or-set_same (set behind n inside) q next 0 (omega (arith, length-set behind n inside)) in
        let P : ℕ → Type 0 = λ y. IsLeast (TopsBehind t (n + 1) y) next in
        let Q : ℕ → Type 0 = λ j. IsLeast (TopsBehind t (n + 1) x) j in
        subst Q (sym (ap (λ y. get_or (set (set behind n inside) q next) y 0) e ∙ value)) (subst P (sym is) past)
    each_at x l h (inr a) (inl e) =
        let len = w.behind_len in
        let value : get_or (set (set behind n inside) q next) x 0 ≡ inside =
        get_or-set_other (set behind n inside) q x next 0 a ∙ ap (λ y. get_or (set behind n inside) y 0) e ∙ get_or-set_same behind n inside 0 (omega arith)
        in
        let P : ℕ → Type 0 = λ y. IsLeast (TopsBehind t (n + 1) y) inside in
        let Q : ℕ → Type 0 = λ j. IsLeast (TopsBehind t (n + 1) x) j in
        subst Q (sym value) (subst P (sym e) in_here)
    each_at x l h (inr a) (inr b) =
        let value : get_or (set (set behind n inside) q next) x 0 ≡ get_or behind x 0 = get_or-set_other (set behind n inside) q x next 0 a ∙ get_or-set_other behind n x inside 0 b in
        let Q : ℕ → Type 0 = λ j. IsLeast (TopsBehind t (n + 1) x) j in
        subst Q (sym value) (behind_same x (get_or behind x 0) (λ z. a (z ∙ sym up)) (w.each x (omega arith) h))
