-- No load has a naming fault: each name is declared once, and each that is used is declared.
use Rattle.std.proofs.Common.{◌≡◌, ℕ, zero, suc, ◌+◌, ◌<◌, ◌≤◌, ◌^◌, List, [], ◌∷◌, ◌++◌, map, refl, ap, sym, ◌∙◌, arith, Bool, true, false, cond, Some, None}
use Rattle.std.specs.Prelude.{codes}
use Rattle.std.specs.Fmt.{decimal}
use Rattle.std.specs.List.{range_with_len}
use Rattle.std.specs.Str.{bytes_eq}
use Rattle.std.proofs.lemmas.Fmt.{decimal_injective}
use Rattle.std.specs.Bool.{Decides}
use Rattle.std.proofs.lemmas.Slice.Eq.{bytes_eq-Decides}
use Rattle.std.proofs.Math.Numerals.{lt_of_le_of_ne}
use Rattle.cw_text.specs.Syntax.{Declaration, Statement, sync}
use Rattle.cw_strand.specs.declared.naming.Around.TheVariants.{Neither}
use Rattle.cw_strand.specs.Names.{an_array, a_function, Scope, find, Fault, ◌then◌, declared_new, fault_of_call, in_statement, in_block, in_items, in_functions, in_params, globals, main_from, naming_fault, without_main}
use Rattle.cw_gen.specs.Load.{Transfer, transfers, group, group_count, group_name, group_function, transfer_function, spawned_transfer, spawned_group, load_main, summed, block, word, load_tree}

both : (f g : Fault) → f ≡ None → g ≡ None → (f then g) ≡ None
both f g e h = ap (λ x. x then g) e ∙ h

-- ## Names of groups

same_bytes : (xs ys : List ℕ) → xs ≡ ys → bytes_eq xs ys ≡ true
same_bytes xs ys e = by (bytes_eq xs ys) refl (bytes_eq-Decides xs ys) where
  by : (b : Bool) → bytes_eq xs ys ≡ b → Decides b (xs ≡ ys) → b ≡ true
  by true q d = refl
  by false q d = d.1 e

tail_same : (x : ℕ) (xs ys : List ℕ) → x ∷ xs ≡ x ∷ ys → xs ≡ ys
tail_same x xs ys e = cc e

other_bytes : (k j : ℕ) → k < 2 ^ 64 → j < 2 ^ 64 → j < k → bytes_eq (group_name k) (group_name j) ≡ false
other_bytes k j low_k low_j less = by (bytes_eq (group_name k) (group_name j)) (bytes_eq-Decides (group_name k) (group_name j)) where
  by : (b : Bool) → Decides b (group_name k ≡ group_name j) → b ≡ false
  by true d = absurd (let e : k ≡ j = decimal_injective k j low_k low_j (tail_same 103 (decimal k) (decimal j) (d.0 refl)) in omega (arith, e))
  by false d = refl

-- ## What the items declare

module _ (n : ℕ) where
  abbrev function : ℕ → Declaration
  function k = group_function k (group k (transfers n n))

  -- the functions of `len` groups, from group a on
  abbrev functions : ℕ → ℕ → List Declaration
  functions a len = map function (range_with_len a len)

  abbrev groups : ℕ → ℕ → Scope
  groups a len = map (λ k. (group_name k, a_function 0)) (range_with_len a len)

  declares : (a len : ℕ) (ds : List Declaration) → globals (functions a len ++ ds) ≡ groups a len ++ globals ds
  declares a zero ds = refl
  declares a (suc len) ds = ap (λ g. (group_name a, a_function 0) ∷ g) (declares (a + 1) len ds)

  -- a name that is no group's is found behind them
  find_behind : (text : List ℕ) → ((k : ℕ) → bytes_eq text (group_name k) ≡ false) → (a len : ℕ) (g : Scope) → find text (groups a len ++ g) ≡ find text g
  find_behind text other a zero g = refl
  find_behind text other a (suc len) g = ap (λ b. cond b (Some (a_function 0)) (find text (groups (a + 1) len ++ g))) (other a) ∙ find_behind text other (a + 1) len g

  find_group : (k a len : ℕ) (g : Scope) → a ≤ k → k < a + len → find (group_name k) (groups a len ++ g) ≡ Some (a_function 0)
  find_group k a zero g low high = absurd (omega (arith, low, high))
  find_group k a (suc len) g low high = by (bytes_eq (group_name k) (group_name a)) refl (λ later. find_group k (a + 1) len g (omega (arith, later)) (omega (arith, high))) where
    by : (b : Bool) → bytes_eq (group_name k) (group_name a) ≡ b → (a < k → find (group_name k) (groups (a + 1) len ++ g) ≡ Some (a_function 0)) → cond b (Some (a_function 0)) (find (group_name k) (groups (a + 1) len ++ g)) ≡ Some (a_function 0)
    by true e more = refl
    by false e more =
        let apart : a ≡ k → ⊥ = λ same. (let r = sym e ∙ same_bytes (group_name k) (group_name a) (ap group_name (sym same)) in cc r) in
        more (lt_of_le_of_ne low apart)

  -- ## Items

  items_from : (a len : ℕ) (g : Scope) (count : ℕ) → a + len < 2 ^ 64 → ((k : ℕ) → a ≤ k → k < a + len → find (group_name k) g ≡ None) → find (codes "main") g ≡ None
      → in_items g 64 (functions a len ++ load_main count ∷ []) ≡ None
  items_from a zero g count low new main = both (declared_new (find (codes "main") g) 1) None (ap (λ t. declared_new t 1) main) refl
  items_from a (suc len) g count low new main =
      both (declared_new (find (group_name a) g) 1) _ (ap (λ t. declared_new t 1) (new a (omega arith) (omega arith)))
      (items_from (a + 1) len ((group_name a, a_function 0) ∷ g) count (omega (arith, low))
      (λ k l h. ap (λ b. cond b (Some (a_function 0)) (find (group_name k) g)) (other_bytes k a (omega (arith, h, low)) (omega (arith, low)) (omega (arith, l))) ∙ new k (omega (arith, l)) (omega (arith, h)))
      main)

  items_are_new : group_count n < 2 ^ 64 → in_items [] 0 (load_tree n) ≡ None
  items_are_new low = items_from 0 (group_count n) ((codes "t", a_function 3) ∷ (codes "a", an_array) ∷ []) (group_count n) (omega (arith, low)) (λ k l h. refl) refl

  -- ## Functions

  abbrev rest : Scope
  rest = groups 0 (group_count n) ++ globals (load_main (group_count n) ∷ [])

  abbrev scope : Scope
  scope = (codes "a", an_array) ∷ (codes "t", a_function 3) ∷ rest

  all_declared : globals (load_tree n) ≡ scope
  all_declared = ap (λ g. (codes "a", an_array) ∷ (codes "t", a_function 3) ∷ g) (declares 0 (group_count n) (load_main (group_count n) ∷ []))

  hidden : (text : List ℕ) → ((k : ℕ) → bytes_eq text (group_name k) ≡ false) → find text (globals (load_main (group_count n) ∷ [])) ≡ None → find text rest ≡ None
  hidden text other e = find_behind text other 0 (group_count n) (globals (load_main (group_count n) ∷ [])) ∙ e

  -- that of a transfer
  transfer_has_none : (ds : List Declaration) → in_functions scope ds ≡ None → in_functions scope (transfer_function ∷ ds) ≡ None
  transfer_has_none ds e =
      both (in_params scope (word (codes "i") ∷ word (codes "j") ∷ word (codes "x") ∷ [])) _
      (both (declared_new (find (codes "i") rest) 1) _ (ap (λ t. declared_new t 1) (hidden (codes "i") (λ k. refl) refl))
      (both (declared_new (find (codes "j") rest) 1) _ (ap (λ t. declared_new t 1) (hidden (codes "j") (λ k. refl) refl))
      (both (declared_new (find (codes "x") rest) 1) None (ap (λ t. declared_new t 1) (hidden (codes "x") (λ k. refl) refl)) refl)))
      e

  calls_are_right : (ts : List Transfer) → in_block scope Neither (block (map spawned_transfer ts)) ≡ None
  calls_are_right [] = refl
  calls_are_right (t ∷ ts) = calls_are_right ts

  -- those of groups
  groups_have_none : (a len : ℕ) (ds : List Declaration) → in_functions scope ds ≡ None → in_functions scope (functions a len ++ ds) ≡ None
  groups_have_none a zero ds e = e
  groups_have_none a (suc len) ds e =
      both (in_block scope Neither (block (map spawned_transfer (group a (transfers n n))))) _ (calls_are_right (group a (transfers n n))) (groups_have_none (a + 1) len ds e)

  spawns_are_right : (a len : ℕ) (ss : List Statement) → a + len ≤ group_count n → in_block scope Neither (block ss) ≡ None → in_block scope Neither (block (map spawned_group (range_with_len a len) ++ ss)) ≡ None
  spawns_are_right a zero ss low e = e
  spawns_are_right a (suc len) ss low e =
      both (in_statement scope Neither (spawned_group a)) _
      (ap (λ t. ((fault_of_call t 0 1 then None) then None)) (find_group a 0 (group_count n) (globals (load_main (group_count n) ∷ [])) (omega arith) (omega (arith, low))))
      (spawns_are_right (a + 1) len ss (omega (arith, low)) e)

  sum_is_right : in_block scope Neither (block (sync ∷ summed)) ≡ None
  sum_is_right =
      both (declared_new (find (codes "k") rest) 1 then None) _ (both (declared_new (find (codes "k") rest) 1) None (ap (λ t. declared_new t 1) (hidden (codes "k") (λ k. refl) refl)) refl)
      (both (declared_new (find (codes "s") rest) 1 then None) _ (both (declared_new (find (codes "s") rest) 1) None (ap (λ t. declared_new t 1) (hidden (codes "s") (λ k. refl) refl)) refl) refl)

  main_has_none : in_functions scope (load_main (group_count n) ∷ []) ≡ None
  main_has_none = both (in_block scope Neither (block (map spawned_group (range_with_len 0 (group_count n)) ++ sync ∷ summed))) None (spawns_are_right 0 (group_count n) (sync ∷ summed) (omega arith) sum_is_right) refl

  functions_have_none : in_functions (globals (load_tree n)) (load_tree n) ≡ None
  functions_have_none =
      ap (λ g. in_functions g (load_tree n)) all_declared
      ∙ transfer_has_none (functions 0 (group_count n) ++ load_main (group_count n) ∷ []) (groups_have_none 0 (group_count n) (load_main (group_count n) ∷ []) main_has_none)

  -- ## Main

  main_is_there : (a len at count : ℕ) → without_main (main_from at (functions a len ++ load_main count ∷ [])) ≡ None
  main_is_there a zero at count = refl
  main_is_there a (suc len) at count = main_is_there (a + 1) len (suc at) count

  pub no_fault : n ≤ 20000 → naming_fault (load_tree n) ≡ None
  no_fault most =
      both (in_items [] 0 (load_tree n)) _ (items_are_new (let e : group_count n < 2 ^ 64 = omega (arith, most) in e))
      (both (in_functions (globals (load_tree n)) (load_tree n)) _ functions_have_none (main_is_there 0 (group_count n) 2 (group_count n)))
