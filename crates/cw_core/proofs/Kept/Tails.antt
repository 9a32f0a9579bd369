-- How the children of a node end, as the tree changes.
use Rattle.std.proofs.Common.{◌≡◌, ◌≢◌, ℕ, ◌+◌, ◌<◌, ◌≤◌, List, [], ◌∷◌, ◌++◌, length, refl, ap, ◌∙◌, arith, Bool, true, false, cond, nat_eq, nat_lt, append-nil}
use Rattle.std.specs.Prelude.{filter}
use Rattle.std.specs.List.{prefix_len, suffix_len}
use Rattle.std.proofs.lemmas.List.{reverse-append}
use Rattle.std.proofs.lemmas.List.Elements.{filter-append}
use Rattle.std.proofs.lemmas.Bool.{ne_eqb, eq-eqb, ltb-true}
use Rattle.cw_tree.specs.declared.node.Node.{Node}
use Rattle.cw_tree.specs.Nodes.{all_nodes}
use Rattle.cw_tree.specs.Series.{children}
use Rattle.cw_tree.proofs.Lists.{In}
use Rattle.cw_tree.proofs.Members.{in_filter, in_below}
use Rattle.cw_tree.proofs.NextNodes.Trees.{is_child, children_more}

-- ## The end of a list that passes a test

pub suffix_more : (p : ℕ → Bool) (xs : List ℕ) (x : ℕ) → suffix_len p (xs ++ x ∷ []) ≡ cond (p x) (1 + suffix_len p xs) 0
suffix_more p xs x = ap (prefix_len p) (reverse-append xs (x ∷ []))

-- ## Children of a tree that grew

-- they are there
pub child_low : (t : List Node) (q m : ℕ) → In m (children t q) → m < length t
child_low t q m i = in_below m (length t) (in_filter (is_child t q) m (all_nodes t) i).0

pub children_other : (t : List Node) (x : Node) (q : ℕ) → 0 < length t → x.parent ≢ q → children (t ++ x ∷ []) q ≡ children t q
children_other t x q some ne =
    children_more t x q some
    ∙ ap (λ b. children t q ++ cond b (length t ∷ []) []) (ne_eqb x.parent q ne)
    ∙ append-nil (children t q)

pub children_here : (t : List Node) (x : Node) → 0 < length t → children (t ++ x ∷ []) x.parent ≡ children t x.parent ++ length t ∷ []
children_here t x some =
    children_more t x x.parent some
    ∙ ap (λ b. children t x.parent ++ cond b (length t ∷ []) []) (eq-eqb x.parent x.parent refl)

-- those before an older node are the same
pub elders_more : (t : List Node) (x : Node) (q n : ℕ) → 0 < length t → n ≤ length t → filter (λ l. nat_lt l n) (children (t ++ x ∷ []) q) ≡ filter (λ l. nat_lt l n) (children t q)
elders_more t x q n some le =
    ap (filter (λ l. nat_lt l n)) (children_more t x q some)
    ∙ filter-append (λ l. nat_lt l n) (children t q) (cond (nat_eq x.parent q) (length t ∷ []) [])
    ∙ ap (λ ns. filter (λ l. nat_lt l n) (children t q) ++ ns) (none (nat_eq x.parent q))
    ∙ append-nil (filter (λ l. nat_lt l n) (children t q)) where
      late : nat_lt (length t) n ≡ false
      late = Rattle.std.proofs.lemmas.Bool.false_from_ne_true (nat_lt (length t) n) (λ e. absurd (let h = ltb-true (length t) n e in omega arith))

      none : (b : Bool) → filter (λ l. nat_lt l n) (cond b (length t ∷ []) []) ≡ []
      none false = refl
      none true = ap (λ c. cond c (length t ∷ []) []) late
