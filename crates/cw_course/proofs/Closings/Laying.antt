-- The tree in which a course is laid, with the logs of its right strands beside it, shows the course.
use Rattle.std.proofs.Common.{◌≡◌, ℕ, suc, ◌+◌, ◌<◌, ◌≤◌, List, [], ◌∷◌, ◌++◌, length, length-append, append-nil, refl, ap, ◌∙◌, subst, arith, Some, None, inl, inr}
use Rattle.std.specs.Prelude.{slice_get}
use Rattle.cw_tree.specs.declared.node.Node.{Node}
use Rattle.cw_tree.specs.declared.node.Kind.TheVariants.{Strand, Fork, Block}
use Rattle.cw_tree.specs.Nodes.{fresh_node}
use Rattle.cw_tree.specs.Series.{children}
use Rattle.cw_course.specs.Courses.{Course, nothing, act, block, fork, fault, size, laid}
use Rattle.cw_course.proofs.Closings.Children.{offspring, offspring_append, offspring_own, offspring_other, children_are}
use Rattle.cw_course.proofs.Closings.Shown.{IsPart, width, members, Shows}
use Rattle.cw_course.proofs.Closings.Trees.{IsTreeOf}

-- the logs of its right strands, with the numbers of a tree, where its own nodes begin with number `base` and these with number `to`
abbrev pub beside : Course → (base to : ℕ) → List Node
beside nothing base to = []
beside (act cs kind stamp) base to = beside cs base to
beside (block cs state stamp end js) base to = beside cs base to ++ beside js (base + size cs + 1) (to + width cs)
beside (fork cs None stamp ls rs) base to =
    let n = base + size cs in
    beside cs base to ++ (beside ls (n + 3) (to + width cs) ++ beside rs (n + 3 + size ls) (to + width cs + width ls))
beside (fork cs (Some column) stamp ls rs) base to =
    let n = base + size cs in
    let r = to + width cs + width ls in
    beside cs base to ++ (beside ls (n + 2) (to + width cs) ++ fresh_node n Strand 0 ∷ (laid rs (r + 1) r ++ beside rs (r + 1) (r + 1 + size rs)))
beside (fault cs kind) base to = beside cs base to

-- ## How many

pub laid_many : (cs : Course) (base under : ℕ) → length (laid cs base under) ≡ size cs
laid_many nothing base under = refl
laid_many (act cs kind stamp) base under = length-append (laid cs base under) (fresh_node under kind stamp ∷ []) ∙ omega (arith, laid_many cs base under)
laid_many (block cs state stamp end js) base under =
    let n = base + size cs in
    length-append (laid cs base under) (record (fresh_node under Block stamp) { state = state; end = end } ∷ laid js (n + 1) n) ∙ omega (arith, laid_many cs base under, laid_many js (n + 1) n)
laid_many (fork cs None stamp ls rs) base under =
    let n = base + size cs in
    length-append (laid cs base under) (fresh_node under Fork stamp ∷ fresh_node n Strand 0 ∷ fresh_node n Strand 0 ∷ (laid ls (n + 3) (n + 1) ++ laid rs (n + 3 + size ls) (n + 2)))
    ∙ omega (arith, laid_many cs base under, length-append (laid ls (n + 3) (n + 1)) (laid rs (n + 3 + size ls) (n + 2)), laid_many ls (n + 3) (n + 1), laid_many rs (n + 3 + size ls) (n + 2))
laid_many (fork cs (Some column) stamp ls rs) base under =
    let n = base + size cs in
    length-append (laid cs base under) (fresh_node under Fork stamp ∷ fresh_node n Strand 0 ∷ laid ls (n + 2) (n + 1)) ∙ omega (arith, laid_many cs base under, laid_many ls (n + 2) (n + 1))
laid_many (fault cs kind) base under = laid_many cs base under

pub beside_many : (cs : Course) (base to : ℕ) → length (beside cs base to) ≡ width cs
beside_many nothing base to = refl
beside_many (act cs kind stamp) base to = beside_many cs base to
beside_many (block cs state stamp end js) base to =
    length-append (beside cs base to) (beside js (base + size cs + 1) (to + width cs)) ∙ omega (arith, beside_many cs base to, beside_many js (base + size cs + 1) (to + width cs))
beside_many (fork cs None stamp ls rs) base to =
    let n = base + size cs in
    let bl = beside ls (n + 3) (to + width cs) in
    let br = beside rs (n + 3 + size ls) (to + width cs + width ls) in
    length-append (beside cs base to) (bl ++ br)
    ∙ omega (arith, beside_many cs base to, length-append bl br, beside_many ls (n + 3) (to + width cs), beside_many rs (n + 3 + size ls) (to + width cs + width ls))
beside_many (fork cs (Some column) stamp ls rs) base to =
    let n = base + size cs in
    let r = to + width cs + width ls in
    let bl = beside ls (n + 2) (to + width cs) in
    let own = laid rs (r + 1) r in
    let br = beside rs (r + 1) (r + 1 + size rs) in
    length-append (beside cs base to) (bl ++ fresh_node n Strand 0 ∷ (own ++ br))
    ∙ omega (arith, beside_many cs base to, length-append bl (fresh_node n Strand 0 ∷ (own ++ br)), length-append own br, beside_many ls (n + 2) (to + width cs), laid_many rs (r + 1) r, beside_many rs (r + 1) (r + 1 + size rs))
beside_many (fault cs kind) base to = beside_many cs base to

-- ## Whose children they are

none_both : (xs ys : List Node) (from to n : ℕ) → from + length xs ≡ to → offspring xs from n ≡ [] → offspring ys to n ≡ [] → offspring (xs ++ ys) from n ≡ []
none_both xs ys from to n e f g = offspring_append xs ys from to n e ∙ ap (λ ks. ks ++ offspring ys to n) f ∙ g

none_more : (x : Node) (xs : List Node) (from to n : ℕ) → from + 1 ≡ to → (x.parent ≡ n → ⊥) → offspring xs to n ≡ [] → offspring (x ∷ xs) from n ≡ []
none_more x xs from to n e other f = offspring_other x xs from to n e other ∙ f

module _ (n : ℕ) where
  -- nothing that is laid beneath another node is a child of a node that is not laid
  pub laid_off : (cs : Course) (base under : ℕ) → (under ≡ n → ⊥) → (base ≤ n → n < base + size cs → ⊥) → offspring (laid cs base under) base n ≡ []
  laid_off nothing base under other off = refl
  laid_off (act cs kind stamp) base under other off =
      let k = base + size cs in
      none_both (laid cs base under) (fresh_node under kind stamp ∷ []) base k n (omega (arith, laid_many cs base under)) (laid_off cs base under other (λ g h. off g (omega arith)))
      (none_more (fresh_node under kind stamp) [] k (k + 1) n refl other refl)
  laid_off (block cs state stamp end js) base under other off =
      let k = base + size cs in
      let x = record (fresh_node under Block stamp) { state = state; end = end } in
      none_both (laid cs base under) (x ∷ laid js (k + 1) k) base k n (omega (arith, laid_many cs base under)) (laid_off cs base under other (λ g h. off g (omega arith)))
      (none_more x (laid js (k + 1) k) k (k + 1) n refl other (laid_off js (k + 1) k (λ e. off (omega arith) (omega arith)) (λ g h. off (omega arith) (omega arith))))
  laid_off (fork cs None stamp ls rs) base under other off =
      let k = base + size cs in
      let l = laid ls (k + 3) (k + 1) in
      let r = laid rs (k + 3 + size ls) (k + 2) in
      let x = fresh_node k Strand 0 in
      none_both (laid cs base under) (fresh_node under Fork stamp ∷ x ∷ x ∷ (l ++ r)) base k n (omega (arith, laid_many cs base under)) (laid_off cs base under other (λ g h. off g (omega arith)))
      (none_more (fresh_node under Fork stamp) (x ∷ x ∷ (l ++ r)) k (k + 1) n refl other
      (none_more x (x ∷ (l ++ r)) (k + 1) (k + 2) n (omega arith) (λ e. off (omega arith) (omega arith))
      (none_more x (l ++ r) (k + 2) (k + 3) n (omega arith) (λ e. off (omega arith) (omega arith))
      (none_both l r (k + 3) (k + 3 + size ls) n (omega (arith, laid_many ls (k + 3) (k + 1)))
      (laid_off ls (k + 3) (k + 1) (λ e. off (omega arith) (omega arith)) (λ g h. off (omega arith) (omega arith)))
      (laid_off rs (k + 3 + size ls) (k + 2) (λ e. off (omega arith) (omega arith)) (λ g h. off (omega arith) (omega arith)))))))
  laid_off (fork cs (Some column) stamp ls rs) base under other off =
      let k = base + size cs in
      let l = laid ls (k + 2) (k + 1) in
      let x = fresh_node k Strand 0 in
      none_both (laid cs base under) (fresh_node under Fork stamp ∷ x ∷ l) base k n (omega (arith, laid_many cs base under)) (laid_off cs base under other (λ g h. off g (omega arith)))
      (none_more (fresh_node under Fork stamp) (x ∷ l) k (k + 1) n refl other
      (none_more x l (k + 1) (k + 2) n (omega arith) (λ e. off (omega arith) (omega arith))
      (laid_off ls (k + 2) (k + 1) (λ e. off (omega arith) (omega arith)) (λ g h. off (omega arith) (omega arith)))))
  laid_off (fault cs kind) base under other off = laid_off cs base under other off

  -- nor what is beside it one of a node that is in neither
  pub beside_off : (cs : Course) (base to : ℕ) → (base ≤ n → n < base + size cs → ⊥) → (to ≤ n → n < to + width cs → ⊥) → offspring (beside cs base to) to n ≡ []
  beside_off nothing base to own off = refl
  beside_off (act cs kind stamp) base to own off = beside_off cs base to (λ g h. own g (omega arith)) off
  beside_off (block cs state stamp end js) base to own off =
      let k = base + size cs in
      none_both (beside cs base to) (beside js (k + 1) (to + width cs)) to (to + width cs) n (omega (arith, beside_many cs base to))
      (beside_off cs base to (λ g h. own g (omega arith)) (λ g h. off g (omega arith)))
      (beside_off js (k + 1) (to + width cs) (λ g h. own (omega arith) (omega arith)) (λ g h. off (omega arith) (omega arith)))
  beside_off (fork cs None stamp ls rs) base to own off =
      let k = base + size cs in
      let l = beside ls (k + 3) (to + width cs) in
      let r = beside rs (k + 3 + size ls) (to + width cs + width ls) in
      none_both (beside cs base to) (l ++ r) to (to + width cs) n (omega (arith, beside_many cs base to)) (beside_off cs base to (λ g h. own g (omega arith)) (λ g h. off g (omega arith)))
      (none_both l r (to + width cs) (to + width cs + width ls) n (omega (arith, beside_many ls (k + 3) (to + width cs)))
      (beside_off ls (k + 3) (to + width cs) (λ g h. own (omega arith) (omega arith)) (λ g h. off (omega arith) (omega arith)))
      (beside_off rs (k + 3 + size ls) (to + width cs + width ls) (λ g h. own (omega arith) (omega arith)) (λ g h. off (omega arith) (omega arith))))
  beside_off (fork cs (Some column) stamp ls rs) base to own off =
      let k = base + size cs in
      let r = to + width cs + width ls in
      let l = beside ls (k + 2) (to + width cs) in
      let m = laid rs (r + 1) r in
      let b = beside rs (r + 1) (r + 1 + size rs) in
      let x = fresh_node k Strand 0 in
      none_both (beside cs base to) (l ++ x ∷ (m ++ b)) to (to + width cs) n (omega (arith, beside_many cs base to)) (beside_off cs base to (λ g h. own g (omega arith)) (λ g h. off g (omega arith)))
      (none_both l (x ∷ (m ++ b)) (to + width cs) r n (omega (arith, beside_many ls (k + 2) (to + width cs)))
      (beside_off ls (k + 2) (to + width cs) (λ g h. own (omega arith) (omega arith)) (λ g h. off (omega arith) (omega arith)))
      (none_more x (m ++ b) r (r + 1) n refl (λ e. own (omega arith) (omega arith))
      (none_both m b (r + 1) (r + 1 + size rs) n (omega (arith, laid_many rs (r + 1) r))
      (laid_off rs (r + 1) r (λ e. off (omega arith) (omega arith)) (λ g h. off (omega arith) (omega arith)))
      (beside_off rs (r + 1) (r + 1 + size rs) (λ g h. off (omega arith) (omega arith)) (λ g h. off (omega arith) (omega arith))))))
  beside_off (fault cs kind) base to own off = beside_off cs base to own off

members_more : (cs : Course) (base under : ℕ) (x : Node) (ys : List Node) → offspring (laid cs base under) base under ≡ members cs base → x.parent ≡ under → offspring ys (base + size cs + 1) under ≡ []
    → offspring (laid cs base under ++ x ∷ ys) base under ≡ members cs base ++ (base + size cs) ∷ []
members_more cs base under x ys e same none =
    let k = base + size cs in
    offspring_append (laid cs base under) (x ∷ ys) base k under (omega (arith, laid_many cs base under))
    ∙ ap (λ ks. ks ++ offspring (x ∷ ys) k under) e
    ∙ ap (λ ks. members cs base ++ ks) (offspring_own x ys k (k + 1) under refl same ∙ ap (λ ks. k ∷ ks) none)

-- the children of the node beneath which a course is laid
pub laid_members : (cs : Course) (base under : ℕ) → under < base → offspring (laid cs base under) base under ≡ members cs base
laid_members nothing base under low = refl
laid_members (act cs kind stamp) base under low = members_more cs base under (fresh_node under kind stamp) [] (laid_members cs base under low) refl refl
laid_members (block cs state stamp end js) base under low =
    let k = base + size cs in
    members_more cs base under (record (fresh_node under Block stamp) { state = state; end = end }) (laid js (k + 1) k) (laid_members cs base under low) refl
    (laid_off under js (k + 1) k (λ e. absurd (omega arith)) (λ g h. absurd (omega arith)))
laid_members (fork cs None stamp ls rs) base under low =
    let k = base + size cs in
    let l = laid ls (k + 3) (k + 1) in
    let r = laid rs (k + 3 + size ls) (k + 2) in
    let x = fresh_node k Strand 0 in
    members_more cs base under (fresh_node under Fork stamp) (x ∷ x ∷ (l ++ r)) (laid_members cs base under low) refl
    (none_more x (x ∷ (l ++ r)) (k + 1) (k + 2) under (omega arith) (λ e. absurd (omega arith))
    (none_more x (l ++ r) (k + 2) (k + 3) under (omega arith) (λ e. absurd (omega arith))
    (none_both l r (k + 3) (k + 3 + size ls) under (omega (arith, laid_many ls (k + 3) (k + 1)))
    (laid_off under ls (k + 3) (k + 1) (λ e. absurd (omega arith)) (λ g h. absurd (omega arith)))
    (laid_off under rs (k + 3 + size ls) (k + 2) (λ e. absurd (omega arith)) (λ g h. absurd (omega arith))))))
laid_members (fork cs (Some column) stamp ls rs) base under low =
    let k = base + size cs in
    let l = laid ls (k + 2) (k + 1) in
    let x = fresh_node k Strand 0 in
    members_more cs base under (fresh_node under Fork stamp) (x ∷ l) (laid_members cs base under low) refl
    (none_more x l (k + 1) (k + 2) under (omega arith) (λ e. absurd (omega arith)) (laid_off under ls (k + 2) (k + 1) (λ e. absurd (omega arith)) (λ g h. absurd (omega arith))))
laid_members (fault cs kind) base under low = laid_members cs base under low

-- ## Parts of a tree

module _ (t : List Node) where
  -- these nodes stand there from this number on
  abbrev pub Lies : (from : ℕ) → List Node → Type 0
  Lies from [] = Unit {0}
  Lies from (x ∷ xs) = (slice_get t from ≡ Some x) × Lies (from + 1) xs

  lies_split : (xs ys : List Node) (from to : ℕ) → from + length xs ≡ to → Lies from (xs ++ ys) → Lies from xs × Lies to ys
  lies_split [] ys from to e w = let same : from ≡ to = omega arith in let P : ℕ → Type 0 = λ k. Lies k ys in (tt, subst P same w)
  lies_split (x ∷ xs) ys from to e w = let z = lies_split xs ys (from + 1) to (omega arith) w.1 in ((w.0, z.0), z.1)

  lies_at : (ys : List Node) (from to : ℕ) → from ≡ to → Lies from ys → Lies to ys
  lies_at ys from to e w = let P : ℕ → Type 0 = λ k. Lies k ys in subst P e w

lies_more : (x : Node) (t xs : List Node) (from : ℕ) → Lies t from xs → Lies (x ∷ t) (from + 1) xs
lies_more x t [] from w = tt
lies_more x t (y ∷ xs) from w =
    let P : ℕ → Type 0 = λ k. slice_get (x ∷ t) k ≡ Some y in
    let next : suc from ≡ from + 1 = omega arith in
    (subst P next w.0, lies_more x t xs (from + 1) w.1)

pub lies_all : (t : List Node) → Lies t 0 t
lies_all [] = tt
lies_all (x ∷ t) = (refl, lies_more x t t 0 (lies_all t))

-- from one list to one of its parts, where the other part has no child of n
first_part : (xs ys : List Node) (from to n : ℕ) → from + length xs ≡ to → offspring ys to n ≡ [] → offspring (xs ++ ys) from n ≡ offspring xs from n
first_part xs ys from to n e none = offspring_append xs ys from to n e ∙ ap (λ ks. offspring xs from n ++ ks) none ∙ append-nil (offspring xs from n)

last_part : (xs ys : List Node) (from to n : ℕ) → from + length xs ≡ to → offspring xs from n ≡ [] → offspring (xs ++ ys) from n ≡ offspring ys to n
last_part xs ys from to n e none = offspring_append xs ys from to n e ∙ ap (λ ks. ks ++ offspring ys to n) none

-- behind the strands of a fork that come with it
behind_both : (cs : Course) (base under stamp n : ℕ) (zs : List Node) → (under ≡ n → ⊥) → (base + size cs ≡ n → ⊥) → (base ≤ n → n < base + size cs → ⊥)
    → offspring (laid cs base under ++ fresh_node under Fork stamp ∷ fresh_node (base + size cs) Strand 0 ∷ fresh_node (base + size cs) Strand 0 ∷ zs) base n ≡ offspring zs (base + size cs + 3) n
behind_both cs base under stamp n zs other here off =
    let k = base + size cs in
    let x = fresh_node k Strand 0 in
    last_part (laid cs base under) (fresh_node under Fork stamp ∷ x ∷ x ∷ zs) base k n (omega (arith, laid_many cs base under)) (laid_off n cs base under other off)
    ∙ offspring_other (fresh_node under Fork stamp) (x ∷ x ∷ zs) k (k + 1) n refl other
    ∙ offspring_other x (x ∷ zs) (k + 1) (k + 2) n (omega arith) here
    ∙ offspring_other x zs (k + 2) (k + 3) n (omega arith) here

behind_left : (cs : Course) (base under stamp n : ℕ) (zs : List Node) → (under ≡ n → ⊥) → (base + size cs ≡ n → ⊥) → (base ≤ n → n < base + size cs → ⊥)
    → offspring (laid cs base under ++ fresh_node under Fork stamp ∷ fresh_node (base + size cs) Strand 0 ∷ zs) base n ≡ offspring zs (base + size cs + 2) n
behind_left cs base under stamp n zs other here off =
    let k = base + size cs in
    let x = fresh_node k Strand 0 in
    last_part (laid cs base under) (fresh_node under Fork stamp ∷ x ∷ zs) base k n (omega (arith, laid_many cs base under)) (laid_off n cs base under other off)
    ∙ offspring_other (fresh_node under Fork stamp) (x ∷ zs) k (k + 1) n refl other
    ∙ offspring_other x zs (k + 1) (k + 2) n (omega arith) here

module _ (t : List Node) where
  -- a course lies there, and the children of its nodes stand nowhere else
  pub record Laid (cs : Course) (base under to : ℕ) : Type 0 where
    pub own : Lies t base (laid cs base under)
    pub aside : Lies t to (beside cs base to)
    pub only : (n : ℕ) → IsPart cs base to n → children t n ≡ offspring (laid cs base under) base n ++ offspring (beside cs base to) to n

  only_by : (n : ℕ) (os bs cs ds : List ℕ) → children t n ≡ os ++ bs → os ≡ cs → bs ≡ ds → children t n ≡ cs ++ ds
  only_by n os bs cs ds e f g = cc

  all_by : (n : ℕ) (os bs cs : List ℕ) → children t n ≡ os ++ bs → os ≡ cs → bs ≡ [] → children t n ≡ cs
  all_by n os bs cs e f g = only_by n os bs cs [] e f g ∙ append-nil cs

  shown : (cs : Course) (base under to : ℕ) → under < base → base + size cs ≤ to → Laid cs base under to → Shows t cs base under to
  shown nothing base under to low h w = tt
  shown (act cs kind stamp) base under to low h w =
      let k = base + size cs in
      let x = fresh_node under kind stamp in
      let at = lies_split t (laid cs base under) (x ∷ []) base k (omega (arith, laid_many cs base under)) w.own in
      let here = beside_off k cs base to (λ a b. absurd (omega arith)) (λ a b. absurd (omega arith)) in (
        shown cs base under to low (omega arith)
            (record {
              own = at.0;
              aside = w.aside;
              only = λ n i.
                  only_by n _ _ _ _ (w.only n (elim i [ inl a ↦ inl (a.0, omega arith) | inr a ↦ inr a ]))
                  (first_part (laid cs base under) (x ∷ []) base k n (omega (arith, laid_many cs base under)) (none_more x [] k (k + 1) n refl (λ e. absurd (omega (arith, i))) refl)) refl;
            }),
        record {
          there = at.1.0;
          none = all_by k _ _ [] (w.only k (inl (omega arith, omega arith)))
              (none_both (laid cs base under) (x ∷ []) base k k (omega (arith, laid_many cs base under)) (laid_off k cs base under (λ e. absurd (omega arith)) (λ a b. absurd (omega arith)))
              (none_more x [] k (k + 1) k refl (λ e. absurd (omega arith)) refl))
              here;
        },
      )
  shown (block cs state stamp end js) base under to low h w =
      let k = base + size cs in
      let x = record (fresh_node under Block stamp) { state = state; end = end } in
      let j = laid js (k + 1) k in
      let many : base + length (laid cs base under) ≡ k = omega (arith, laid_many cs base under) in
      let more : to + length (beside cs base to) ≡ to + width cs = omega (arith, beside_many cs base to) in
      let at = lies_split t (laid cs base under) (x ∷ j) base k many w.own in
      let by = lies_split t (beside cs base to) (beside js (k + 1) (to + width cs)) to (to + width cs) more w.aside in (
        shown cs base under to low (omega arith)
            (record {
              own = at.0;
              aside = by.0;
              only = λ n i.
                  only_by n _ _ _ _ (w.only n (elim i [ inl a ↦ inl (a.0, omega arith) | inr a ↦ inr (a.0, omega arith) ]))
                  (first_part (laid cs base under) (x ∷ j) base k n many
                  (none_more x j k (k + 1) n refl (λ e. absurd (omega (arith, i))) (laid_off n js (k + 1) k (λ e. absurd (omega (arith, i))) (λ a b. absurd (omega (arith, i))))))
                  (first_part (beside cs base to) (beside js (k + 1) (to + width cs)) to (to + width cs) n more
                  (beside_off n js (k + 1) (to + width cs) (λ a b. absurd (omega (arith, i))) (λ a b. absurd (omega (arith, i)))));
            }),
        record {
          there = at.1.0;
          has = all_by k _ _ _ (w.only k (inl (omega arith, omega arith)))
              (last_part (laid cs base under) (x ∷ j) base k k many (laid_off k cs base under (λ e. absurd (omega arith)) (λ a b. absurd (omega arith)))
              ∙ offspring_other x j k (k + 1) k refl (λ e. absurd (omega arith))
              ∙ laid_members js (k + 1) k (omega arith))
              (none_both (beside cs base to) (beside js (k + 1) (to + width cs)) to (to + width cs) k more
              (beside_off k cs base to (λ a b. absurd (omega arith)) (λ a b. absurd (omega arith)))
              (beside_off k js (k + 1) (to + width cs) (λ a b. absurd (omega arith)) (λ a b. absurd (omega arith))));
        },
        shown js (k + 1) k (to + width cs) (omega arith) (omega arith)
            (record {
              own = at.1.1;
              aside = by.1;
              only = λ n i.
                  only_by n _ _ _ _ (w.only n (elim i [ inl a ↦ inl (omega arith, omega arith) | inr a ↦ inr (omega arith, omega arith) ]))
                  (last_part (laid cs base under) (x ∷ j) base k n many (laid_off n cs base under (λ e. absurd (omega (arith, i))) (λ a b. absurd (omega (arith, i))))
                  ∙ offspring_other x j k (k + 1) n refl (λ e. absurd (omega (arith, i))))
                  (last_part (beside cs base to) (beside js (k + 1) (to + width cs)) to (to + width cs) n more
                  (beside_off n cs base to (λ a b. absurd (omega (arith, i))) (λ a b. absurd (omega (arith, i)))));
            }),
      )
  shown (fork cs None stamp ls rs) base under to low h w =
      let k = base + size cs in
      let f = fresh_node under Fork stamp in
      let x = fresh_node k Strand 0 in
      let l = laid ls (k + 3) (k + 1) in
      let r = laid rs (k + 3 + size ls) (k + 2) in
      let u = to + width cs in
      let bl = beside ls (k + 3) u in
      let br = beside rs (k + 3 + size ls) (u + width ls) in
      let many : base + length (laid cs base under) ≡ k = omega (arith, laid_many cs base under) in
      let left : k + 3 + length l ≡ k + 3 + size ls = omega (arith, laid_many ls (k + 3) (k + 1)) in
      let more : to + length (beside cs base to) ≡ u = omega (arith, beside_many cs base to) in
      let next : u + length bl ≡ u + width ls = omega (arith, beside_many ls (k + 3) u) in
      let at = lies_split t (laid cs base under) (f ∷ x ∷ x ∷ (l ++ r)) base k many w.own in
      let both = lies_split t l r (k + 3) (k + 3 + size ls) left (lies_at t (l ++ r) (k + 1 + 1 + 1) (k + 3) (omega arith) at.1.1.1.1) in
      let by = lies_split t (beside cs base to) (bl ++ br) to u more w.aside in
      let on = lies_split t bl br u (u + width ls) next by.1 in
      let second : k + 1 + 1 ≡ k + 2 = omega arith in
      let P : ℕ → Type 0 = λ n. slice_get t n ≡ Some x in
      -- no child of a node of the fork stands beside it
      let clear : (n : ℕ) → k ≤ n → n < k + 3 → offspring (beside cs base to ++ (bl ++ br)) to n ≡ [] = λ n a b.
      none_both (beside cs base to) (bl ++ br) to u n more (beside_off n cs base to (λ c d. absurd (omega arith)) (λ c d. absurd (omega arith)))
      (none_both bl br u (u + width ls) n next (beside_off n ls (k + 3) u (λ c d. absurd (omega arith)) (λ c d. absurd (omega arith)))
      (beside_off n rs (k + 3 + size ls) (u + width ls) (λ c d. absurd (omega arith)) (λ c d. absurd (omega arith)))) in (
        shown cs base under to low (omega arith)
            (record {
              own = at.0;
              aside = by.0;
              only = λ n i.
                  only_by n _ _ _ _ (w.only n (elim i [ inl a ↦ inl (a.0, omega arith) | inr a ↦ inr (a.0, omega arith) ]))
                  (first_part (laid cs base under) (f ∷ x ∷ x ∷ (l ++ r)) base k n many
                  (none_more f (x ∷ x ∷ (l ++ r)) k (k + 1) n refl (λ e. absurd (omega (arith, i)))
                  (none_more x (x ∷ (l ++ r)) (k + 1) (k + 2) n (omega arith) (λ e. absurd (omega (arith, i)))
                  (none_more x (l ++ r) (k + 2) (k + 3) n (omega arith) (λ e. absurd (omega (arith, i)))
                  (none_both l r (k + 3) (k + 3 + size ls) n left (laid_off n ls (k + 3) (k + 1) (λ e. absurd (omega (arith, i))) (λ a b. absurd (omega (arith, i))))
                  (laid_off n rs (k + 3 + size ls) (k + 2) (λ e. absurd (omega (arith, i))) (λ a b. absurd (omega (arith, i)))))))))
                  (first_part (beside cs base to) (bl ++ br) to u n more
                  (none_both bl br u (u + width ls) n next (beside_off n ls (k + 3) u (λ a b. absurd (omega (arith, i))) (λ a b. absurd (omega (arith, i))))
                  (beside_off n rs (k + 3 + size ls) (u + width ls) (λ a b. absurd (omega (arith, i))) (λ a b. absurd (omega (arith, i))))));
            }),
        record {
          there = at.1.0;
          has = all_by k _ _ _ (w.only k (inl (omega arith, omega arith)))
              (last_part (laid cs base under) (f ∷ x ∷ x ∷ (l ++ r)) base k k many (laid_off k cs base under (λ e. absurd (omega arith)) (λ a b. absurd (omega arith)))
              ∙ offspring_other f (x ∷ x ∷ (l ++ r)) k (k + 1) k refl (λ e. absurd (omega arith))
              ∙ offspring_own x (x ∷ (l ++ r)) (k + 1) (k + 2) k (omega arith) refl
              ∙ ap (λ ks. (k + 1) ∷ ks)
              (offspring_own x (l ++ r) (k + 2) (k + 3) k (omega arith) refl
              ∙ ap (λ ks. (k + 2) ∷ ks)
              (none_both l r (k + 3) (k + 3 + size ls) k left (laid_off k ls (k + 3) (k + 1) (λ e. absurd (omega arith)) (λ a b. absurd (omega arith)))
              (laid_off k rs (k + 3 + size ls) (k + 2) (λ e. absurd (omega arith)) (λ a b. absurd (omega arith))))))
              (clear k (omega arith) (omega arith));
          left = record {
            there = at.1.1.0;
            has = all_by (k + 1) _ _ _ (w.only (k + 1) (inl (omega arith, omega arith)))
                (behind_both cs base under stamp (k + 1) (l ++ r) (λ e. absurd (omega arith)) (λ e. absurd (omega arith)) (λ a b. absurd (omega arith))
                ∙ first_part l r (k + 3) (k + 3 + size ls) (k + 1) left (laid_off (k + 1) rs (k + 3 + size ls) (k + 2) (λ e. absurd (omega arith)) (λ a b. absurd (omega arith)))
                ∙ laid_members ls (k + 3) (k + 1) (omega arith))
                (clear (k + 1) (omega arith) (omega arith));
          };
          right = record {
            there = subst P second at.1.1.1.0;
            has = all_by (k + 2) _ _ _ (w.only (k + 2) (inl (omega arith, omega arith)))
                (behind_both cs base under stamp (k + 2) (l ++ r) (λ e. absurd (omega arith)) (λ e. absurd (omega arith)) (λ a b. absurd (omega arith))
                ∙ last_part l r (k + 3) (k + 3 + size ls) (k + 2) left (laid_off (k + 2) ls (k + 3) (k + 1) (λ e. absurd (omega arith)) (λ a b. absurd (omega arith)))
                ∙ laid_members rs (k + 3 + size ls) (k + 2) (omega arith))
                (clear (k + 2) (omega arith) (omega arith));
          };
        },
        shown ls (k + 3) (k + 1) u (omega arith) (omega arith)
            (record {
              own = both.0;
              aside = on.0;
              only = λ n i.
                  only_by n _ _ _ _ (w.only n (elim i [ inl a ↦ inl (omega arith, omega arith) | inr a ↦ inr (omega arith, omega arith) ]))
                  (behind_both cs base under stamp n (l ++ r) (λ e. absurd (omega (arith, i))) (λ e. absurd (omega (arith, i))) (λ a b. absurd (omega (arith, i)))
                  ∙ first_part l r (k + 3) (k + 3 + size ls) n left (laid_off n rs (k + 3 + size ls) (k + 2) (λ e. absurd (omega (arith, i))) (λ a b. absurd (omega (arith, i)))))
                  (last_part (beside cs base to) (bl ++ br) to u n more (beside_off n cs base to (λ a b. absurd (omega (arith, i))) (λ a b. absurd (omega (arith, i))))
                  ∙ first_part bl br u (u + width ls) n next (beside_off n rs (k + 3 + size ls) (u + width ls) (λ a b. absurd (omega (arith, i))) (λ a b. absurd (omega (arith, i)))));
            }),
        shown rs (k + 3 + size ls) (k + 2) (u + width ls) (omega arith) (omega arith)
            (record {
              own = both.1;
              aside = on.1;
              only = λ n i.
                  only_by n _ _ _ _ (w.only n (elim i [ inl a ↦ inl (omega arith, omega arith) | inr a ↦ inr (omega arith, omega arith) ]))
                  (behind_both cs base under stamp n (l ++ r) (λ e. absurd (omega (arith, i))) (λ e. absurd (omega (arith, i))) (λ a b. absurd (omega (arith, i)))
                  ∙ last_part l r (k + 3) (k + 3 + size ls) n left (laid_off n ls (k + 3) (k + 1) (λ e. absurd (omega (arith, i))) (λ a b. absurd (omega (arith, i)))))
                  (last_part (beside cs base to) (bl ++ br) to u n more (beside_off n cs base to (λ a b. absurd (omega (arith, i))) (λ a b. absurd (omega (arith, i))))
                  ∙ last_part bl br u (u + width ls) n next (beside_off n ls (k + 3) u (λ a b. absurd (omega (arith, i))) (λ a b. absurd (omega (arith, i)))));
            }),
      )
  shown (fork cs (Some column) stamp ls rs) base under to low h w =
      let k = base + size cs in
      let f = fresh_node under Fork stamp in
      let x = fresh_node k Strand 0 in
      let l = laid ls (k + 2) (k + 1) in
      let u = to + width cs in
      let r = u + width ls in
      let bl = beside ls (k + 2) u in
      let m = laid rs (r + 1) r in
      let br = beside rs (r + 1) (r + 1 + size rs) in
      let many : base + length (laid cs base under) ≡ k = omega (arith, laid_many cs base under) in
      let more : to + length (beside cs base to) ≡ u = omega (arith, beside_many cs base to) in
      let next : u + length bl ≡ r = omega (arith, beside_many ls (k + 2) u) in
      let last : r + 1 + length m ≡ r + 1 + size rs = omega (arith, laid_many rs (r + 1) r) in
      let at = lies_split t (laid cs base under) (f ∷ x ∷ l) base k many w.own in
      let by = lies_split t (beside cs base to) (bl ++ x ∷ (m ++ br)) to u more w.aside in
      let on = lies_split t bl (x ∷ (m ++ br)) u r next by.1 in
      let own = lies_split t m br (r + 1) (r + 1 + size rs) last on.1.1 in (
        shown cs base under to low (omega arith)
            (record {
              own = at.0;
              aside = by.0;
              only = λ n i.
                  only_by n _ _ _ _ (w.only n (elim i [ inl a ↦ inl (a.0, omega arith) | inr a ↦ inr (a.0, omega arith) ]))
                  (first_part (laid cs base under) (f ∷ x ∷ l) base k n many
                  (none_more f (x ∷ l) k (k + 1) n refl (λ e. absurd (omega (arith, i)))
                  (none_more x l (k + 1) (k + 2) n (omega arith) (λ e. absurd (omega (arith, i))) (laid_off n ls (k + 2) (k + 1) (λ e. absurd (omega (arith, i))) (λ a b. absurd (omega (arith, i)))))))
                  (first_part (beside cs base to) (bl ++ x ∷ (m ++ br)) to u n more
                  (none_both bl (x ∷ (m ++ br)) u r n next (beside_off n ls (k + 2) u (λ a b. absurd (omega (arith, i))) (λ a b. absurd (omega (arith, i))))
                  (none_more x (m ++ br) r (r + 1) n refl (λ e. absurd (omega (arith, i)))
                  (none_both m br (r + 1) (r + 1 + size rs) n last (laid_off n rs (r + 1) r (λ e. absurd (omega (arith, i))) (λ a b. absurd (omega (arith, i))))
                  (beside_off n rs (r + 1) (r + 1 + size rs) (λ a b. absurd (omega (arith, i))) (λ a b. absurd (omega (arith, i))))))));
            }),
        record {
          there = at.1.0;
          has = only_by k _ _ ((k + 1) ∷ []) (r ∷ []) (w.only k (inl (omega arith, omega arith)))
              (last_part (laid cs base under) (f ∷ x ∷ l) base k k many (laid_off k cs base under (λ e. absurd (omega arith)) (λ a b. absurd (omega arith)))
              ∙ offspring_other f (x ∷ l) k (k + 1) k refl (λ e. absurd (omega arith))
              ∙ offspring_own x l (k + 1) (k + 2) k (omega arith) refl
              ∙ ap (λ ks. (k + 1) ∷ ks) (laid_off k ls (k + 2) (k + 1) (λ e. absurd (omega arith)) (λ a b. absurd (omega arith))))
              (last_part (beside cs base to) (bl ++ x ∷ (m ++ br)) to u k more (beside_off k cs base to (λ a b. absurd (omega arith)) (λ a b. absurd (omega arith)))
              ∙ last_part bl (x ∷ (m ++ br)) u r k next (beside_off k ls (k + 2) u (λ a b. absurd (omega arith)) (λ a b. absurd (omega arith)))
              ∙ offspring_own x (m ++ br) r (r + 1) k refl refl
              ∙ ap (λ ks. r ∷ ks)
              (none_both m br (r + 1) (r + 1 + size rs) k last (laid_off k rs (r + 1) r (λ e. absurd (omega arith)) (λ a b. absurd (omega arith)))
              (beside_off k rs (r + 1) (r + 1 + size rs) (λ a b. absurd (omega arith)) (λ a b. absurd (omega arith)))));
          left = record {
            there = at.1.1.0;
            has = all_by (k + 1) _ _ _ (w.only (k + 1) (inl (omega arith, omega arith)))
                (behind_left cs base under stamp (k + 1) l (λ e. absurd (omega arith)) (λ e. absurd (omega arith)) (λ a b. absurd (omega arith)) ∙ laid_members ls (k + 2) (k + 1) (omega arith))
                (none_both (beside cs base to) (bl ++ x ∷ (m ++ br)) to u (k + 1) more (beside_off (k + 1) cs base to (λ a b. absurd (omega arith)) (λ a b. absurd (omega arith)))
                (none_both bl (x ∷ (m ++ br)) u r (k + 1) next (beside_off (k + 1) ls (k + 2) u (λ a b. absurd (omega arith)) (λ a b. absurd (omega arith)))
                (none_more x (m ++ br) r (r + 1) (k + 1) refl (λ e. absurd (omega arith))
                (none_both m br (r + 1) (r + 1 + size rs) (k + 1) last (laid_off (k + 1) rs (r + 1) r (λ e. absurd (omega arith)) (λ a b. absurd (omega arith)))
                (beside_off (k + 1) rs (r + 1) (r + 1 + size rs) (λ a b. absurd (omega arith)) (λ a b. absurd (omega arith)))))));
          };
          right = record {
            there = on.1.0;
            has = only_by r _ _ [] _ (w.only r (inr (omega arith, omega arith)))
                (laid_off r (fork cs (Some column) stamp ls rs) base under (λ e. absurd (omega arith)) (λ a b. absurd (omega arith)))
                (last_part (beside cs base to) (bl ++ x ∷ (m ++ br)) to u r more (beside_off r cs base to (λ a b. absurd (omega arith)) (λ a b. absurd (omega arith)))
                ∙ last_part bl (x ∷ (m ++ br)) u r r next (beside_off r ls (k + 2) u (λ a b. absurd (omega arith)) (λ a b. absurd (omega arith)))
                ∙ offspring_other x (m ++ br) r (r + 1) r refl (λ e. absurd (omega arith))
                ∙ first_part m br (r + 1) (r + 1 + size rs) r last (beside_off r rs (r + 1) (r + 1 + size rs) (λ a b. absurd (omega arith)) (λ a b. absurd (omega arith)))
                ∙ laid_members rs (r + 1) r (omega arith));
          };
        },
        shown ls (k + 2) (k + 1) u (omega arith) (omega arith)
            (record {
              own = lies_at t l (k + 1 + 1) (k + 2) (omega arith) at.1.1.1;
              aside = on.0;
              only = λ n i.
                  only_by n _ _ _ _ (w.only n (elim i [ inl a ↦ inl (omega arith, omega arith) | inr a ↦ inr (omega arith, omega arith) ]))
                  (behind_left cs base under stamp n l (λ e. absurd (omega (arith, i))) (λ e. absurd (omega (arith, i))) (λ a b. absurd (omega (arith, i))))
                  (last_part (beside cs base to) (bl ++ x ∷ (m ++ br)) to u n more (beside_off n cs base to (λ a b. absurd (omega (arith, i))) (λ a b. absurd (omega (arith, i))))
                  ∙ first_part bl (x ∷ (m ++ br)) u r n next
                  (none_more x (m ++ br) r (r + 1) n refl (λ e. absurd (omega (arith, i)))
                  (none_both m br (r + 1) (r + 1 + size rs) n last (laid_off n rs (r + 1) r (λ e. absurd (omega (arith, i))) (λ a b. absurd (omega (arith, i))))
                  (beside_off n rs (r + 1) (r + 1 + size rs) (λ a b. absurd (omega (arith, i))) (λ a b. absurd (omega (arith, i)))))));
            }),
        shown rs (r + 1) r (r + 1 + size rs) (omega arith) (omega arith)
            (record {
              own = own.0;
              aside = own.1;
              only = λ n i.
                  only_by n _ _ [] _ (w.only n (inr (elim i [ inl a ↦ (omega arith, omega arith) | inr a ↦ (omega arith, omega arith) ])))
                  (laid_off n (fork cs (Some column) stamp ls rs) base under (λ e. absurd (omega (arith, i))) (λ a b. absurd (omega (arith, i))))
                  (last_part (beside cs base to) (bl ++ x ∷ (m ++ br)) to u n more (beside_off n cs base to (λ a b. absurd (omega (arith, i))) (λ a b. absurd (omega (arith, i))))
                  ∙ last_part bl (x ∷ (m ++ br)) u r n next (beside_off n ls (k + 2) u (λ a b. absurd (omega (arith, i))) (λ a b. absurd (omega (arith, i))))
                  ∙ offspring_other x (m ++ br) r (r + 1) n refl (λ e. absurd (omega (arith, i)))
                  ∙ offspring_append m br (r + 1) (r + 1 + size rs) n last);
            }),
      )
  shown (fault cs kind) base under to low h w = shown cs base under to low h (record { own = w.own; aside = w.aside; only = w.only })

-- a course laid beneath a root, with its right strands' logs behind it
pub laid_tree : (cs : Course) → IsTreeOf (fresh_node 0 Strand 0 ∷ (laid cs 1 0 ++ beside cs 1 (1 + size cs))) cs
laid_tree cs =
    let own = laid cs 1 0 in
    let aside = beside cs 1 (1 + size cs) in
    let root = fresh_node 0 Strand 0 in
    let t = root ∷ (own ++ aside) in
    let many : 1 + length own ≡ 1 + size cs = omega (arith, laid_many cs 1 0) in
    let at = lies_split t own aside 1 (1 + size cs) many (lies_all t).1 in
    let all : (n : ℕ) → children t n ≡ offspring own 1 n ++ offspring aside (1 + size cs) n = λ n. children_are root (own ++ aside) n ∙ offspring_append own aside 1 (1 + size cs) n many in
    record {
      root = record {
        there = refl;
        has = all_by t 0 _ _ _ (all 0) (laid_members cs 1 0 (omega arith)) (beside_off 0 cs 1 (1 + size cs) (λ a b. absurd (omega arith)) (λ a b. absurd (omega arith)));
      };
      shows = shown t cs 1 0 (1 + size cs) (omega arith) (omega arith) (record { own = at.0; aside = at.1; only = λ n i. all n });
      many = omega (arith, length-append own aside, laid_many cs 1 0, beside_many cs 1 (1 + size cs));
    }
