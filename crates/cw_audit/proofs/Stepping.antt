-- A walk over a tree, step by step: what is left of it fits exactly if main's strand fits the whole tree.
use Rattle.std.proofs.Common.{◌≡◌, ℕ, ◌+◌, ◌*◌, ◌<◌, List, [], ◌∷◌, ◌++◌, length, map, reverse, refl, ap, sym, ◌∙◌, arith, subst, inl, inr, get_or, Option, Some, append_assoc, append-nil, length-append}
use Rattle.std.specs.Prelude.{◌⊎◌, ◌↔◌, slice_get}
use Rattle.std.specs.List.{flat_map}
use Rattle.std.proofs.lemmas.List.{reverse-append, reverse-reverse, map-append}
use Rattle.std.proofs.lemmas.Option.{slice_get-get_or}
use Rattle.cw_strand.specs.Strands.{Strands}
use Rattle.cw_tree.specs.declared.node.Node.{Node}
use Rattle.cw_tree.specs.declared.node.Kind.TheVariants.{Strand as AStrand}
use Rattle.cw_tree.specs.Nodes.{fresh_node}
use Rattle.cw_tree.specs.Series.{children}
use Rattle.cw_tree.specs.Shape.{IsTree}
use Rattle.cw_tree.proofs.Lists.{In}
use Rattle.cw_tree.proofs.Members.{in_append, append_in, in_reverse}
use Rattle.cw_tree.proofs.InOrder.DepthFirst.{child_is, whole, walk_step}
use Rattle.cw_record.specs.declared.record_end.RecordEnd.{RecordEnd}
use Rattle.cw_audit.specs.Settled.{CanDo}
use Rattle.cw_audit.specs.Visits.{WalkSpot}
use Rattle.cw_audit.specs.Visiting.{steps_after, IsThere, MayEnter, entered_node, MayVisit, visited}
use Rattle.cw_audit.specs.declared.strands.walk.Visit.{Visit}
use Rattle.cw_audit.specs.declared.strands.walk.Visit.TheVariants.{Enter, Leave}
use Rattle.cw_audit.proofs.Going.{Goes, one_step}

-- ## Steps on a stack

reverse_map : {X Y : Type 0} (f : X → Y) (xs : List X) → reverse (map f xs) ≡ map f (reverse xs)
reverse_map f [] = refl
reverse_map f (x ∷ xs) =
    reverse-append (f x ∷ []) (map f xs)
    ∙ ap (λ ys. ys ++ f x ∷ []) (reverse_map f xs)
    ∙ sym (map-append f (reverse xs) (x ∷ []))
    ∙ ap (map f) (sym (reverse-append (x ∷ []) xs))

-- the steps that follow when a node was entered
abbrev pub steps_inside : List Node → ℕ → List Visit
steps_inside t n = Leave n ∷ map Enter (reverse (children t n))

inside_reversed : (t : List Node) (n : ℕ) (rest : List Visit) → reverse (rest ++ steps_inside t n) ≡ map Enter (children t n) ++ Leave n ∷ reverse rest
inside_reversed t n rest =
    reverse-append rest (steps_inside t n)
    ∙ ap (λ vs. vs ++ reverse rest) (reverse-append (Leave n ∷ []) (map Enter (reverse (children t n)))
    ∙ ap (λ vs. vs ++ Leave n ∷ []) (reverse_map Enter (reverse (children t n)) ∙ ap (map Enter) (reverse-reverse (children t n))))
    ∙ append_assoc (map Enter (children t n)) (Leave n ∷ []) (reverse rest)

-- ## How many steps are left

module _ (t : List Node) where
  -- how many steps are left to do
  abbrev pub steps_left : List Visit → ℕ
  steps_left [] = 0
  steps_left (Enter n ∷ vs) = 2 * length (whole t n) + steps_left vs
  steps_left (Leave n ∷ vs) = 1 + steps_left vs

  left_append : (us vs : List Visit) → steps_left (us ++ vs) ≡ steps_left us + steps_left vs
  left_append [] vs = omega arith
  left_append (Enter n ∷ us) vs = omega (arith, left_append us vs)
  left_append (Leave n ∷ us) vs = omega (arith, left_append us vs)

  left_children : (cs : List ℕ) → steps_left (map Enter (reverse cs)) ≡ 2 * length (flat_map (whole t) cs)
  left_children [] = refl
  left_children (c ∷ cs) =
      let apart : steps_left (map Enter (reverse (c ∷ cs))) ≡ steps_left (map Enter (reverse cs) ++ Enter c ∷ []) =
      ap (λ ns. steps_left (map Enter ns)) (reverse-append (c ∷ []) cs) ∙ ap steps_left (map-append Enter (reverse cs) (c ∷ [])) in
      let both = left_append (map Enter (reverse cs)) (Enter c ∷ []) in
      let rest = left_children cs in
      let sum = length-append (whole t c) (flat_map (whole t) cs) in
      omega (arith, apart, both, rest, sum)

  module _ (tree : IsTree t) where
    pub fewer_inside : (stack rest : List Visit) (n : ℕ) → stack ≡ rest ++ Enter n ∷ [] → (next : List Visit) → next ≡ rest ++ steps_inside t n → steps_left next < steps_left stack
    fewer_inside stack rest n taken next put =
        let old = ap steps_left taken ∙ left_append rest (Enter n ∷ []) in
        let new = ap steps_left put ∙ left_append rest (steps_inside t n) in
        let inside = left_children (children t n) in
        let size = ap length (walk_step t tree.rooted n) in
        omega (arith, old, new, inside, size)

    pub fewer_behind : (stack rest : List Visit) (n : ℕ) → stack ≡ rest ++ Leave n ∷ [] → steps_left rest < steps_left stack
    fewer_behind stack rest n taken = (let old = ap steps_left taken ∙ left_append rest (Leave n ∷ []) in omega (arith, old))

    pub fewer_steps : (stack rest : List Visit) (v : Visit) → stack ≡ rest ++ v ∷ [] → (next : List Visit) → next ≡ rest ++ steps_after t v → steps_left next < steps_left stack
    fewer_steps stack rest (Enter n) taken next put = fewer_inside stack rest n taken next put
    fewer_steps stack rest (Leave n) taken next put =
        let P : List Visit → Type 0 = λ vs. steps_left vs < steps_left stack in
        subst P (sym (put ∙ append-nil rest)) (fewer_behind stack rest n taken)

-- ## The walk

in_map : (xs : List ℕ) (v : Visit) → In v (map Enter xs) → (n : ℕ) × In n xs × (v ≡ Enter n)
in_map [] v i = absurd i
in_map (x ∷ xs) v (inl e) = (x, inl refl, e)
in_map (x ∷ xs) v (inr i) = let z = in_map xs v i in (z.0, inr z.1, z.2)

module _ {A : Type 0} (s : Strands A) (t : List Node) (e : RecordEnd) where
  -- The walk is here, with these steps left, the next one last.
  pub record IsGoing (stack : List Visit) (p : WalkSpot A) : Type 0 where
    pub fits : CanDo s t e (length t) 0 s.start ↔ Goes s t e (reverse stack) p
    pub there : (v : Visit) → In v stack → IsThere t v

  module _ (stack rest : List Visit) (v : Visit) (p : WalkSpot A) (w : IsGoing stack p) (taken : stack ≡ rest ++ v ∷ []) where
    reversed : reverse stack ≡ v ∷ reverse rest
    reversed = ap reverse taken ∙ reverse-append rest (v ∷ [])

    pub taken_there : IsThere t v
    taken_there = (let P : List Visit → Type 0 = In v in w.there v (subst P (sym taken) (append_in v rest (v ∷ []) (inr (inl refl)))))

    rest_there : (u : Visit) → In u rest → IsThere t u
    rest_there u i = (let P : List Visit → Type 0 = In u in w.there u (subst P (sym taken) (append_in u rest (v ∷ []) (inl i))))

    next_goes : CanDo s t e (length t) 0 s.start ↔ Goes s t e (v ∷ reverse rest) p
    next_goes = (let P : List Visit → Type 0 = λ vs. CanDo s t e (length t) 0 s.start ↔ Goes s t e vs p in subst P reversed w.fits)

  -- a step on which the walk enters a node
  module _ (tree : IsTree t) (stack rest : List Visit) (n : ℕ) (p : WalkSpot A) (w : IsGoing stack p) (taken : stack ≡ rest ++ Enter n ∷ []) where
    enters : Goes s t e (Enter n ∷ reverse rest) p ↔ (MayVisit s t e (Enter n) p × Goes s t e (map Enter (children t n) ++ Leave n ∷ reverse rest) (visited s t (Enter n) p))
    enters =
        let there : n < length t = taken_there stack rest (Enter n) p w taken in
        let x = get_or t n (fresh_node 0 AStrand 0) in
        let here : slice_get t n ≡ Some x = slice_get-get_or t n (fresh_node 0 AStrand 0) there in
        let P : Option Node → Type 0 = λ o. Goes s t e (Enter n ∷ reverse rest) p ↔ (MayEnter s t o p × Goes s t e (map Enter (children t n) ++ Leave n ∷ reverse rest) (entered_node s t n o p)) in
        subst P (sym here) (one_step s t e tree n (reverse rest) x here p.now p.kept)

    pub enter_refused : (MayVisit s t e (Enter n) p → ⊥) → CanDo s t e (length t) 0 s.start → ⊥
    enter_refused may_not f = may_not (enters.0 ((next_goes stack rest (Enter n) p w taken).0 f)).0

    pub enter_goes : MayVisit s t e (Enter n) p → (q : WalkSpot A) → q ≡ visited s t (Enter n) p → (next : List Visit) → next ≡ rest ++ steps_inside t n → IsGoing next q
    enter_goes may q at next put =
        let whole = next_goes stack rest (Enter n) p w taken in
        let P : List Visit → Type 0 = λ vs. CanDo s t e (length t) 0 s.start ↔ Goes s t e vs q in
        let Q : WalkSpot A → Type 0 = λ z. CanDo s t e (length t) 0 s.start ↔ Goes s t e (map Enter (children t n) ++ Leave n ∷ reverse rest) z in
        record {
          fits = subst P (sym (ap reverse put ∙ inside_reversed t n rest)) (subst Q (sym at) (
            (λ f. (enters.0 (whole.0 f)).1),
            (λ g. whole.1 (enters.1 (may, g))),
          ));
          there = λ u i. (let R : List Visit → Type 0 = In u in inside_there u (in_append u rest (steps_inside t n) (subst R put i)));
        } where
          inside_there : (u : Visit) → In u rest ⊎ In u (steps_inside t n) → IsThere t u
          inside_there u (inl i) = rest_there stack rest (Enter n) p w taken u i
          inside_there u (inr (inl q)) = let S : Visit → Type 0 = IsThere t in subst S (sym q) (taken_there stack rest (Enter n) p w taken)
          inside_there u (inr (inr i)) =
              let z = in_map (reverse (children t n)) u i in
              let S : Visit → Type 0 = IsThere t in
              subst S (sym z.2) (child_is t n z.0 (in_reverse z.0 (children t n) z.1)).there

  -- a step on which the walk leaves a node
  module _ (stack rest : List Visit) (n : ℕ) (p : WalkSpot A) (w : IsGoing stack p) (taken : stack ≡ rest ++ Leave n ∷ []) where
    pub leave_refused : (MayVisit s t e (Leave n) p → ⊥) → CanDo s t e (length t) 0 s.start → ⊥
    leave_refused may_not f = may_not ((next_goes stack rest (Leave n) p w taken).0 f).0

    pub leave_goes : MayVisit s t e (Leave n) p → (q : WalkSpot A) → q ≡ visited s t (Leave n) p → IsGoing rest q
    leave_goes may q at =
        let whole = next_goes stack rest (Leave n) p w taken in
        let Q : WalkSpot A → Type 0 = λ z. CanDo s t e (length t) 0 s.start ↔ Goes s t e (reverse rest) z in
        record {
          fits = subst Q (sym at) ((λ f. (whole.0 f).1), (λ g. whole.1 (may, g)));
          there = rest_there stack rest (Leave n) p w taken;
        }

  -- any step
  module _ (tree : IsTree t) (stack rest : List Visit) (p : WalkSpot A) (w : IsGoing stack p) where
    pub visit_refused : (v : Visit) → stack ≡ rest ++ v ∷ [] → (MayVisit s t e v p → ⊥) → CanDo s t e (length t) 0 s.start → ⊥
    visit_refused (Enter n) taken = enter_refused tree stack rest n p w taken
    visit_refused (Leave n) taken = leave_refused stack rest n p w taken

    pub visit_goes : (v : Visit) → stack ≡ rest ++ v ∷ [] → MayVisit s t e v p → (q : WalkSpot A) → q ≡ visited s t v p → (next : List Visit) → next ≡ rest ++ steps_after t v → IsGoing next q
    visit_goes (Enter n) taken may q at next put = enter_goes tree stack rest n p w taken may q at next put
    visit_goes (Leave n) taken may q at next put =
        let P : List Visit → Type 0 = λ vs. IsGoing vs q in
        subst P (sym (put ∙ append-nil rest)) (leave_goes stack rest n p w taken may q at)
