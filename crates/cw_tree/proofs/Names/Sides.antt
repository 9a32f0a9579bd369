-- The pass that tells right strands from left ones.
use Rattle.std.proofs.Common.{◌≡◌, ℕ, suc, ◌+◌, ◌<◌, ◌≤◌, List, [], ◌∷◌, length, map, get_or, set, ap, sym, ◌∙◌, arith, Bool, false, inl, inr, nat_eq, nat_lt}
use Rattle.std.specs.Prelude.{◌⊎◌, ◌&&◌, ◌||◌}
use Rattle.std.specs.List.{list_any}
use Rattle.std.proofs.lemmas.Bool.{cases_eq, and_right, lt-ltb, eq-eqb, ne_eqb}
use Rattle.std.proofs.Math.Bool.{or-false, and-true}
use Rattle.std.proofs.lemmas.List.{get_or-set_same, get_or-set_other, length-set, get_or_default}
use Rattle.std.proofs.lemmas.List.Folds.{list_any-append}
use Rattle.cw_tree.specs.declared.node.Node.{Node}
use Rattle.cw_tree.specs.Nodes.{below, all_nodes, parent_of, is_strand}
use Rattle.cw_tree.specs.Names.{is_right}
use Rattle.cw_tree.proofs.Lists.{map_below}

-- m is a strand and a child of x
abbrev pub is_branch : List Node → ℕ → ℕ → Bool
is_branch t x m = nat_lt 0 m && is_strand t m && nat_eq (parent_of t m) x

-- a strand below n is a child of x
abbrev pub is_forked : List Node → ℕ → ℕ → Bool
is_forked t n x = list_any (is_branch t x) (below n)

forked_more : (t : List Node) (n x : ℕ) → is_forked t (n + 1) x ≡ (is_forked t n x || is_branch t x n)
forked_more t n x =
    ap (λ k. is_forked t k x) (let next : n + 1 ≡ suc n = omega arith in next)
    ∙ list_any-append (is_branch t x) (below n) (n ∷ [])
    ∙ ap (λ b. is_forked t n x || b) (or-false (is_branch t x n))

-- the side of each strand below n is known, and for each node whether one of them is its child
pub record Told (t : List Node) (n : ℕ) (sides forked : List Bool) : Type 0 where
  pub some : 0 < n
  pub len : length sides ≡ length t
  pub forked_len : length forked ≡ length t
  pub done : (c : ℕ) → c < n → c < length t → get_or sides c false ≡ is_right t c
  pub met : (x : ℕ) → x < length t → get_or forked x false ≡ is_forked t n x

module _ (t : List Node) where
  pub told_end : (n : ℕ) (sides forked : List Bool) → Told t n sides forked → length t ≤ n → sides ≡ map (is_right t) (all_nodes t)
  told_end n sides forked w h = map_below (is_right t) sides (length t) w.len (λ c d l. let len = w.len in get_or_default sides c d false (omega arith) ∙ w.done c (omega arith) l)

  module _ (n : ℕ) (sides forked : List Bool) (w : Told t n sides forked) (there : n < length t) (q : ℕ) (low : q < n) (up : q ≡ parent_of t n) (side : Bool) (read : side ≡ get_or forked q side) where
    side_is : side ≡ is_right t n
    side_is = let len = w.forked_len in read ∙ get_or_default forked q side false (omega arith) ∙ w.met q (omega arith) ∙ ap (is_forked t n) up

    done_more : (c : ℕ) → c < n + 1 → c < length t → get_or (set sides n side) c false ≡ is_right t c
    done_more c h l =
        by_case (cases_eq c n) where
          by_case : (c ≡ n) ⊎ (c ≡ n → ⊥) → get_or (set sides n side) c false ≡ is_right t c
          by_case (inl e) = let len = w.len in ap (λ k. get_or (set sides n side) k false) e ∙ get_or-set_same sides n side false (omega arith) ∙ side_is ∙ ap (is_right t) (sym e)
          by_case (inr ne) = get_or-set_other sides n c side false ne ∙ w.done c (omega arith) l

    pub told_step : (met : Bool) → met ≡ get_or forked q met → Told t (n + 1) (set sides n side) (set forked q (met || is_strand t n))
    told_step met met_read = record {
      some = omega arith;
      len = length-set sides n side ∙ w.len;
      forked_len = length-set forked q (met || is_strand t n) ∙ w.forked_len;
      done = done_more;
      met = λ x h. met_more x h (cases_eq x q);
    } where
      own : (x : ℕ) → parent_of t n ≡ x → is_branch t x n ≡ is_strand t n
      own x e = ap (λ b. b && is_strand t n && nat_eq (parent_of t n) x) (lt-ltb 0 n w.some) ∙ ap (λ b. is_strand t n && b) (eq-eqb (parent_of t n) x e) ∙ and-true (is_strand t n)

      met_more : (x : ℕ) → x < length t → (x ≡ q) ⊎ (x ≡ q → ⊥) → get_or (set forked q (met || is_strand t n)) x false ≡ is_forked t (n + 1) x
      met_more x h (inl z) =
          let len = w.forked_len in
          ap (λ k. get_or (set forked q (met || is_strand t n)) k false) z
          ∙ get_or-set_same forked q (met || is_strand t n) false (omega arith)
          ∙ ap (λ b. b || is_strand t n) (met_read ∙ get_or_default forked q met false (omega arith) ∙ w.met q (omega arith))
          ∙ ap (λ k. is_forked t n k || is_strand t n) (sym z)
          ∙ ap (λ b. is_forked t n x || b) (sym (own x (sym up ∙ sym z)))
          ∙ sym (forked_more t n x)
      met_more x h (inr ne) =
          get_or-set_other forked q x (met || is_strand t n) false ne
          ∙ w.met x h
          ∙ sym (forked_more t n x ∙ ap (λ b. is_forked t n x || b) (and_right (nat_lt 0 n && is_strand t n) (nat_eq (parent_of t n) x) (ne_eqb (parent_of t n) x (λ z. ne (sym z ∙ sym up)))) ∙ or-false (is_forked t n x))
