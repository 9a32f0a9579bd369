-- The pass that tells what hangs beneath each node.
use Rattle.std.proofs.Common.{◌≡◌, ℕ, suc, ◌+◌, ◌<◌, ◌≤◌, Bool, true, false, cond, List, [], ◌∷◌, length, map, replicate, get_or, set, refl, ap, sym, ◌∙◌, arith, inl, inr}
use Rattle.std.specs.Prelude.{◌⊎◌, ◌&&◌, ◌==◌, nat_lt, fold}
use Rattle.std.specs.List.{filter}
use Rattle.std.proofs.lemmas.Bool.{cases_eq, and_from, and_right, lt-ltb, eq-eqb, ne_eqb}
use Rattle.std.proofs.lemmas.Grind.{fold-append}
use Rattle.std.proofs.lemmas.List.{get_or-set_same, get_or-set_other, get_or-replicate, get_or_default, length-set, length-replicate}
use Rattle.std.proofs.lemmas.List.Elements.{filter-append}
use Rattle.cw_tree.specs.declared.node.Node.{Node}
use Rattle.cw_tree.specs.Nodes.{all_nodes, below, is_strand, parent_of}
use Rattle.cw_tree.proofs.Lists.{map_below}
use Rattle.cw_sheet.specs.declared.judging.Beneath.{Beneath}
use Rattle.cw_sheet.specs.declared.judging.Beneath.TheVariants.{Nothing, Other}
use Rattle.cw_sheet.specs.Beneath.{beneath_all, beneath_more, beneath_of, is_two}
use Rattle.cw_sheet.specs.Reading.{are_two_strands}

-- ## Two strands

one_child : (a : Bool) → is_two (beneath_more Nothing a) ≡ false
one_child true = refl
one_child false = refl

two_children : (a b : Bool) → is_two (beneath_more (beneath_more Nothing a) b) ≡ (a && b)
two_children true true = refl
two_children true false = refl
two_children false true = refl
two_children false false = refl

three_children : (a b c : Bool) → beneath_more (beneath_more (beneath_more Nothing a) b) c ≡ Other
three_children true true true = refl
three_children true true false = refl
three_children true false true = refl
three_children true false false = refl
three_children false true true = refl
three_children false true false = refl
three_children false false true = refl
three_children false false false = refl

other_more : (a : Bool) → beneath_more Other a ≡ Other
other_more true = refl
other_more false = refl

-- with one node more
abbrev more : List Node → Beneath → ℕ → Beneath
more t b m = beneath_more b (is_strand t m)

other_stays : (t : List Node) (ns : List ℕ) → fold (more t) Other ns ≡ Other
other_stays t [] = refl
other_stays t (n ∷ ns) = ap (λ b. fold (more t) b ns) (other_more (is_strand t n)) ∙ other_stays t ns

pub two_is : (t : List Node) (ns : List ℕ) → is_two (beneath_all t ns) ≡ are_two_strands t ns
two_is t [] = refl
two_is t (l ∷ []) = one_child (is_strand t l)
two_is t (l ∷ r ∷ []) = two_children (is_strand t l) (is_strand t r)
two_is t (l ∷ r ∷ m ∷ ns) = ap is_two (ap (λ b. fold (more t) b ns) (three_children (is_strand t l) (is_strand t r) (is_strand t m)) ∙ other_stays t ns)

-- ## The pass

-- m is a child of x
abbrev pub is_child_of : List Node → (x m : ℕ) → Bool
is_child_of t x m = nat_lt 0 m && (parent_of t m == x)

-- the nodes below k were met
pub record Met (t : List Node) (k : ℕ) (xs : List Beneath) : Type 0 where
  pub some : 0 < k
  pub len : length xs ≡ length t
  pub are : (x : ℕ) → x < length t → get_or xs x Nothing ≡ beneath_of t k x

module _ (t : List Node) where
  by_child : (b : Bool) (of : Beneath) (k : ℕ) → fold (more t) of (cond b (k ∷ []) []) ≡ cond b (beneath_more of (is_strand t k)) of
  by_child true of k = refl
  by_child false of k = refl

  next_is : (k x : ℕ) (b : Bool) → is_child_of t x k ≡ b → beneath_of t (k + 1) x ≡ cond b (beneath_more (beneath_of t k x) (is_strand t k)) (beneath_of t k x)
  next_is k x b e =
      ap (λ n. beneath_of t n x) (let next : k + 1 ≡ suc k = omega arith in next)
      ∙ ap (beneath_all t) (filter-append (is_child_of t x) (below k) (k ∷ []))
      ∙ fold-append (more t) Nothing (filter (is_child_of t x) (below k)) (filter (is_child_of t x) (k ∷ []))
      ∙ by_child (is_child_of t x k) (beneath_of t k x) k
      ∙ ap (λ b. cond b (beneath_more (beneath_of t k x) (is_strand t k)) (beneath_of t k x)) e

  pub met_start : (k : ℕ) (xs : List Beneath) → k ≡ length t → xs ≡ replicate k Nothing → Met t 1 xs
  met_start k xs e q = record {
    some = omega arith;
    len = ap length q ∙ length-replicate k Nothing ∙ e;
    are = λ x h. ap (λ l. get_or l x Nothing) q ∙ get_or-replicate k x Nothing Nothing (omega arith);
  }

  pub met_end : (k : ℕ) (xs : List Beneath) → Met t k xs → length t ≤ k → (1 ≤ length t → k ≤ length t) → xs ≡ map (beneath_of t (length t)) (all_nodes t)
  met_end k xs w h g =
      map_below (beneath_of t (length t)) xs (length t) w.len (λ c d l.
      let len = w.len in
      let high : k ≤ length t = g (omega arith) in
      get_or_default xs c d Nothing (omega arith) ∙ w.are c l ∙ ap (λ n. beneath_of t n c) (let end : k ≡ length t = omega arith in end))

  module _ (k : ℕ) (xs : List Beneath) (w : Met t k xs) (q : ℕ) (up : q ≡ parent_of t k) where
    other_is : (x : ℕ) → (x ≡ q → ⊥) → beneath_of t (k + 1) x ≡ beneath_of t k x
    other_is x ne = next_is k x false (and_right (nat_lt 0 k) (parent_of t k == x) (ne_eqb (parent_of t k) x (λ z. ne (sym z ∙ sym up))))

    own_is : beneath_of t (k + 1) q ≡ beneath_more (beneath_of t k q) (is_strand t k)
    own_is = next_is k q true (and_from (nat_lt 0 k) (parent_of t k == q) (lt-ltb 0 k w.some) (eq-eqb (parent_of t k) q (sym up)))

    pub met_over : length t ≤ q → Met t (k + 1) xs
    met_over high = record {
      some = omega arith;
      len = w.len;
      are = λ x h. w.are x h ∙ sym (other_is x (λ e. absurd (omega arith)));
    }

    pub met_step : (own : Beneath) → q < length t → own ≡ get_or xs q own → Met t (k + 1) (set xs q (beneath_more own (is_strand t k)))
    met_step own low read = record {
      some = omega arith;
      len = length-set xs q (beneath_more own (is_strand t k)) ∙ w.len;
      are = λ x h. at x h (cases_eq x q);
    } where
      now_is : own ≡ beneath_of t k q
      now_is = let len = w.len in read ∙ get_or_default xs q own Nothing (omega arith) ∙ w.are q low

      at : (x : ℕ) → x < length t → (x ≡ q) ⊎ (x ≡ q → ⊥) → get_or (set xs q (beneath_more own (is_strand t k))) x Nothing ≡ beneath_of t (k + 1) x
      at x h (inl e) =
          let len = w.len in
          ap (λ j. get_or (set xs q (beneath_more own (is_strand t k))) j Nothing) e
          ∙ get_or-set_same xs q (beneath_more own (is_strand t k)) Nothing (omega arith)
          ∙ ap (λ b. beneath_more b (is_strand t k)) now_is
          ∙ sym own_is
          ∙ ap (beneath_of t (k + 1)) (sym e)
      at x h (inr ne) = get_or-set_other xs q x (beneath_more own (is_strand t k)) Nothing ne ∙ w.are x h ∙ sym (other_is x ne)
