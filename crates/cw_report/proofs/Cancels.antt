-- The pass that finds the nodes with a cancel of their own.
use Rattle.std.proofs.Common.{◌≡◌, ℕ, suc, ◌+◌, ◌<◌, ◌≤◌, Bool, true, false, cond, List, [], ◌∷◌, length, map, replicate, get_or, set, refl, ap, sym, ◌∙◌, arith, inl, inr}
use Rattle.std.specs.Prelude.{◌⊎◌, ◌&&◌, ◌||◌, ◌==◌, nat_lt}
use Rattle.std.specs.List.{filter, list_any}
use Rattle.std.proofs.lemmas.Bool.{cases_eq, and_from, and_right, lt-ltb, eq-eqb, ne_eqb}
use Rattle.std.proofs.Math.Bool.{or-false}
use Rattle.std.proofs.lemmas.List.{get_or-set_same, get_or-set_other, get_or-replicate, get_or_default, length-set, length-replicate}
use Rattle.std.proofs.lemmas.List.Elements.{filter-append}
use Rattle.std.proofs.lemmas.List.Folds.{list_any-append}
use Rattle.cw_tree.specs.declared.node.Node.{Node}
use Rattle.cw_tree.specs.Nodes.{all_nodes, below, parent_of}
use Rattle.cw_tree.proofs.Lists.{map_below}
use Rattle.cw_report.specs.Report.{has_own_cancel, is_cancel_leaf}

-- m is a child of n
abbrev pub is_child_of : List Node → (n m : ℕ) → Bool
is_child_of t n m = nat_lt 0 m && (parent_of t m == n)

-- a child of n among the nodes below k is a cancel
abbrev pub has_cancel_below : List Node → (k n : ℕ) → Bool
has_cancel_below t k n = list_any (is_cancel_leaf t) (filter (is_child_of t n) (below k))

-- the nodes below k were met
pub record Met (t : List Node) (k : ℕ) (xs : List Bool) : Type 0 where
  pub some : 0 < k
  pub len : length xs ≡ length t
  pub are : (n : ℕ) → n < length t → get_or xs n false ≡ has_cancel_below t k n

module _ (t : List Node) where
  by_child : (b : Bool) (k : ℕ) → list_any (is_cancel_leaf t) (cond b (k ∷ []) []) ≡ (b && is_cancel_leaf t k)
  by_child true k = or-false (is_cancel_leaf t k)
  by_child false k = refl

  next_is : (k n : ℕ) (b : Bool) → is_child_of t n k ≡ b → has_cancel_below t (k + 1) n ≡ (has_cancel_below t k n || (b && is_cancel_leaf t k))
  next_is k n b e =
      ap (λ m. has_cancel_below t m n) (let next : k + 1 ≡ suc k = omega arith in next)
      ∙ ap (list_any (is_cancel_leaf t)) (filter-append (is_child_of t n) (below k) (k ∷ []))
      ∙ list_any-append (is_cancel_leaf t) (filter (is_child_of t n) (below k)) (filter (is_child_of t n) (k ∷ []))
      ∙ ap (λ c. has_cancel_below t k n || c) (by_child (is_child_of t n k) k)
      ∙ ap (λ c. has_cancel_below t k n || (c && is_cancel_leaf t k)) e

  pub met_start : (k : ℕ) (xs : List Bool) → k ≡ length t → xs ≡ replicate k false → Met t 1 xs
  met_start k xs e q = record {
    some = omega arith;
    len = ap length q ∙ length-replicate k false ∙ e;
    are = λ n h. ap (λ l. get_or l n false) q ∙ get_or-replicate k n false false (omega arith);
  }

  pub met_end : (k : ℕ) (xs : List Bool) → Met t k xs → length t ≤ k → (1 ≤ length t → k ≤ length t) → xs ≡ map (has_own_cancel t) (all_nodes t)
  met_end k xs w h g =
      map_below (has_own_cancel t) xs (length t) w.len (λ n d l.
      let len = w.len in
      let high : k ≤ length t = g (omega arith) in
      get_or_default xs n d false (omega arith) ∙ w.are n l ∙ ap (λ m. has_cancel_below t m n) (let end : k ≡ length t = omega arith in end))

  module _ (k : ℕ) (xs : List Bool) (w : Met t k xs) (q : ℕ) (up : q ≡ parent_of t k) where
    other_is : (n : ℕ) → (n ≡ q → ⊥) → has_cancel_below t (k + 1) n ≡ has_cancel_below t k n
    other_is n ne =
        next_is k n false (and_right (nat_lt 0 k) (parent_of t k == n) (ne_eqb (parent_of t k) n (λ z. ne (sym z ∙ sym up))))
        ∙ or-false (has_cancel_below t k n)

    own_is : has_cancel_below t (k + 1) q ≡ (has_cancel_below t k q || is_cancel_leaf t k)
    own_is = next_is k q true (and_from (nat_lt 0 k) (parent_of t k == q) (lt-ltb 0 k w.some) (eq-eqb (parent_of t k) q (sym up)))

    pub met_step : (own : Bool) → q < length t → own ≡ get_or xs q own → Met t (k + 1) (set xs q (own || is_cancel_leaf t k))
    met_step own low read = record {
      some = omega arith;
      len = length-set xs q (own || is_cancel_leaf t k) ∙ w.len;
      are = λ n h. at n h (cases_eq n q);
    } where
      now_is : own ≡ has_cancel_below t k q
      now_is = let len = w.len in read ∙ get_or_default xs q own false (omega arith) ∙ w.are q low

      at : (n : ℕ) → n < length t → (n ≡ q) ⊎ (n ≡ q → ⊥) → get_or (set xs q (own || is_cancel_leaf t k)) n false ≡ has_cancel_below t (k + 1) n
      at n h (inl e) =
          let len = w.len in
          ap (λ j. get_or (set xs q (own || is_cancel_leaf t k)) j false) e
          ∙ get_or-set_same xs q (own || is_cancel_leaf t k) false (omega arith)
          ∙ ap (λ b. b || is_cancel_leaf t k) now_is
          ∙ sym own_is
          ∙ ap (has_cancel_below t (k + 1)) (sym e)
      at n h (inr ne) = get_or-set_other xs q n (own || is_cancel_leaf t k) false ne ∙ w.are n h ∙ sym (other_is n ne)
