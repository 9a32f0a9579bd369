-- Serves walks over what is beneath a token's place: what was found in the nodes so far, with what is found in the rest.
use Rattle.std.proofs.Common.{◌≡◌, ℕ, zero, suc, ◌<◌, ◌≤◌, ◌↔◌, length, get_or, inl, inr, arith, subst, List, [], ◌∷◌, ◌++◌, map, refl, ap, sym, ◌∙◌, Bool, true, false, cond, Option, Some, None, append_assoc}
use Rattle.std.specs.Prelude.{All, IfSome, min, Contains, ◌==◌, ◌&&◌, ◌||◌, nat_lt, filter, if◌then◌else◌}
use Rattle.std.specs.List.{flat_map}
use Rattle.std.specs.Option.{option_to_list}
use Rattle.std.proofs.lemmas.List.{map-append}
use Rattle.std.proofs.lemmas.List.Elements.{filter-append, All-nil, All-cons, All-head, All-tail}
use Rattle.std.proofs.lemmas.Bool.{eqb-true, eq-eqb, cases_lt}
use Rattle.std.proofs.Math.Nat.{min-le_left, min-le_right}
use Rattle.std.proofs.lemmas.Map.Views.{Contains-from_any}
use Rattle.cw_tree.specs.declared.node.Node.{Node}
use Rattle.cw_tree.specs.Walks.{has}
use Rattle.cw_log.specs.declared.log.Log.{Log}
use Rattle.cw_steps.specs.Beneath.{cell_reached, cells_reached, is_cell, least_with, lesser, logs_beneath, reaches_in}

pub least_more : (r : Option ℕ) (ms ns : List ℕ) → least_with r (ms ++ ns) ≡ least_with (least_with r ms) ns
least_more r [] ns = refl
least_more r (m ∷ ms) ns = least_more (lesser r m) ms ns

pub cells_more : (w : Bool) (p : ℕ → Bool) (xs ys : List Node) → filter p (cells_reached w (xs ++ ys)) ≡ filter p (cells_reached w xs) ++ filter p (cells_reached w ys)
cells_more w p xs ys = ap (filter p) (all xs) ∙ filter-append p (cells_reached w xs) (cells_reached w ys) where
  all : (xs : List Node) → cells_reached w (xs ++ ys) ≡ cells_reached w xs ++ cells_reached w ys
  all [] = refl
  all (x ∷ xs) = ap (λ cs. option_to_list (cell_reached w x.kind) ++ cs) (all xs) ∙ sym (append_assoc (option_to_list (cell_reached w x.kind)) (cells_reached w xs) (cells_reached w ys))

pub reaches_more : (w : Bool) (p : ℕ → Bool) (c : ℕ) (xs ys : List Node) → filter p (reaches_in w c (xs ++ ys)) ≡ filter p (reaches_in w c xs) ++ filter p (reaches_in w c ys)
reaches_more w p c xs ys =
    ap (λ ns. filter p (map (λ (x : Node). x.stamp) ns)) (filter-append (λ (x : Node). is_cell c (cell_reached w x.kind)) xs ys)
    ∙ ap (filter p) (map-append (λ (x : Node). x.stamp) (filter (λ (x : Node). is_cell c (cell_reached w x.kind)) xs) (filter (λ (x : Node). is_cell c (cell_reached w x.kind)) ys))
    ∙ filter-append p (reaches_in w c xs) (reaches_in w c ys)

-- the nodes of logs
abbrev pub nodes_of : List Log → List Node
nodes_of ls = flat_map (λ (l : Log). l.nodes) ls

-- the logs that are beneath of those that are left, if one was before
abbrev pub rest_beneath : Bool → (column place : ℕ) → List Log → List Log
rest_beneath b c p ls = if b then ls else logs_beneath c p ls

module _ (F : List Node → List ℕ) (more : (xs ys : List Node) → F (xs ++ ys) ≡ F xs ++ F ys) where
  -- what is found in some nodes and then in others
  pub found_more : (r r' : Option ℕ) (xs ys : List Node) → r' ≡ least_with r (F xs) → least_with r' (F ys) ≡ least_with r (F (xs ++ ys))
  found_more r r' xs ys e = ap (λ q. least_with q (F ys)) e ∙ sym (least_more r (F xs) (F ys)) ∙ ap (least_with r) (sym (more xs ys))

  module _ (c p : ℕ) (l : Log) (ls : List Log) (r all : Option ℕ) where
    -- a log that is beneath
    pub log_beneath : (b : Bool) (r' : Option ℕ) → (b || ((l.from == c) && nat_lt p l.fork)) ≡ true → r' ≡ least_with r (F l.nodes)
        → least_with r (F (nodes_of (rest_beneath b c p (l ∷ ls)))) ≡ all → least_with r' (F (nodes_of ls)) ≡ all
    log_beneath true r' h e q = found_more r r' l.nodes (nodes_of ls) e ∙ q
    log_beneath false r' h e q =
        found_more r r' l.nodes (nodes_of ls) e
        ∙ ap (λ (t : Bool). least_with r (F (nodes_of (if t then l ∷ ls else logs_beneath c p ls)))) (sym h)
        ∙ q

    -- one that is not
    pub log_beside : (b : Bool) → (b || ((l.from == c) && nat_lt p l.fork)) ≡ false
        → least_with r (F (nodes_of (rest_beneath b c p (l ∷ ls)))) ≡ all → least_with r (F (nodes_of (logs_beneath c p ls))) ≡ all
    log_beside true h q = absurd (cc h)
    log_beside false h q = ap (λ (t : Bool). least_with r (F (nodes_of (if t then l ∷ ls else logs_beneath c p ls)))) (sym h) ∙ q

-- a number that is not in a list
pub not_had : (ns : List ℕ) (n : ℕ) → (Contains ns n → ⊥) → has ns n ≡ false
not_had ns n out = by (has ns n) refl where
  by : (b : Bool) → has ns n ≡ b → has ns n ≡ false
  by true e = absurd (out (Contains-from_any {eq = λ x y. y == x} (λ x y h. sym (eqb-true y x h)) n ns e))
  by false e = e

pub contains_had : (ns : List ℕ) (n : ℕ) → has ns n ≡ true → Contains ns n
contains_had ns n e = Contains-from_any {eq = λ x y. y == x} (λ x y h. sym (eqb-true y x h)) n ns e

pub had_at : (ns : List ℕ) (k n d : ℕ) → k < length ns → get_or ns k d ≡ n → has ns n ≡ true
had_at [] k n d h e = absurd (omega arith)
had_at (x ∷ ns) zero n d h e = ap (λ b. b || has ns n) (eq-eqb x n e)
had_at (x ∷ ns) (suc k) n d h e = by (x == n) (had_at ns k n d (omega arith) e) where
  by : (b : Bool) → has ns n ≡ true → (b || has ns n) ≡ true
  by true q = refl
  by false q = q

pub is_had : (ns : List ℕ) (n : ℕ) → Contains ns n → has ns n ≡ true
is_had ns n c = had_at ns c.0 n n c.1 c.2

-- a number of a list that passes a test is among those that do
pub kept_had : (p : ℕ → Bool) (n : ℕ) → p n ≡ true → (ns : List ℕ) → has ns n ≡ true → has (filter p ns) n ≡ true
kept_had p n q [] h = h
kept_had p n q (x ∷ ns) h = by (x == n) refl (p x) refl (kept_had p n q ns) h where
  by : (a : Bool) → (x == n) ≡ a → (b : Bool) → p x ≡ b → (has ns n ≡ true → has (filter p ns) n ≡ true) → (a || has ns n) ≡ true → has (cond b (x ∷ filter p ns) (filter p ns)) n ≡ true
  by true e true f more g = ap (λ c. c || has (filter p ns) n) e
  by true e false f more g = absurd (cc (sym f ∙ ap p (eqb-true x n e) ∙ q))
  by false e true f more g = ap (λ c. c || has (filter p ns) n) e ∙ more g
  by false e false f more g = more g

-- a test that tells what a list contains
pub tells_had : (b : Bool) (ns : List ℕ) (n : ℕ) → b ≡ true ↔ Contains ns n → b ≡ has ns n
tells_had true ns n h = sym (is_had ns n (h.0 refl))
tells_had false ns n h = sym (not_had ns n (λ c. cc (h.1 c)))

-- an access that does not pass is not found
pub reaches_none : (w : Bool) (p : ℕ → Bool) (c : ℕ) (x : Node) → p x.stamp ≡ false → filter p (reaches_in w c (x ∷ [])) ≡ []
reaches_none w p c x h = by (is_cell c (cell_reached w x.kind)) where
  by : (b : Bool) → filter p (map (λ (y : Node). y.stamp) (cond b (x ∷ []) [])) ≡ []
  by true = ap (λ q. cond q (x.stamp ∷ []) []) h
  by false = refl

-- ## The least

lesser_kept : (P : ℕ → Type 0) (r : Option ℕ) (n : ℕ) → IfSome r P → P n → IfSome (lesser r n) P
lesser_kept P None n h q = q
lesser_kept P (Some m) n h q = elim (cases_lt m n) [
  | inl less ↦ subst P (let e : m ≡ min m n = omega arith in e) h
  | inr le ↦ subst P (let e : n ≡ min m n = omega arith in e) q
]

-- it is one of the numbers
pub least_kept : (P : ℕ → Type 0) (ns : List ℕ) (r : Option ℕ) → All P ns → IfSome r P → IfSome (least_with r ns) P
least_kept P [] r h q = q
least_kept P (n ∷ ns) r h q = least_kept P ns (lesser r n) (All-tail P n ns h) (lesser_kept P r n q (All-head P n ns h))

-- each number that passes a test passes it
pub all_pass : (p : ℕ → Bool) (ns : List ℕ) → All (λ n. p n ≡ true) (filter p ns)
all_pass p [] = All-nil (λ n. p n ≡ true)
all_pass p (n ∷ ns) = by (p n) refl (all_pass p ns) where
  by : (b : Bool) → p n ≡ b → All (λ n. p n ≡ true) (filter p ns) → All (λ n. p n ≡ true) (cond b (n ∷ filter p ns) (filter p ns))
  by true e h = All-cons (λ k. p k ≡ true) n (filter p ns) e h
  by false e h = h

-- no number is less
pub least_low : (ns : List ℕ) (r : Option ℕ) (m : ℕ) → least_with r ns ≡ Some m → All (λ n. m ≤ n) ns × IfSome r (λ n. m ≤ n)
least_low [] r m e = (All-nil (λ n. m ≤ n), subst (λ (q : Option ℕ). IfSome q (λ n. m ≤ n)) (sym e) (let le : m ≤ m = omega arith in le))
least_low (n ∷ ns) r m e =
    let low = least_low ns (lesser r n) m e in
    let both = parts r n low.1 in
    (All-cons (λ k. m ≤ k) n ns both.1 low.0, both.0)
  where
    parts : (r : Option ℕ) (n : ℕ) → IfSome (lesser r n) (λ k. m ≤ k) → IfSome r (λ k. m ≤ k) × (m ≤ n)
    parts None n h = (tt, h)
    parts (Some k) n h = (omega (arith, min-le_left k n), omega (arith, min-le_right k n))

-- there is none only if there are no numbers
pub least_none : (ns : List ℕ) → least_with None ns ≡ None → ns ≡ []
least_none [] e = refl
least_none (n ∷ ns) e = absurd (some n ns e) where
  some : (m : ℕ) (ns : List ℕ) → least_with (Some m) ns ≡ None → ⊥
  some m [] e = cc e
  some m (n ∷ ns) e = some (min m n) ns e
