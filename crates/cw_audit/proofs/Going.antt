-- The rest of a walk fits: by the steps that are still to be taken, and by where the walk is before them.
use Rattle.std.proofs.Common.{◌≡◌, ℕ, zero, suc, ◌<◌, ◌&&◌, List, [], ◌∷◌, ◌++◌, length, map, refl, ap, sym, ◌∙◌, arith, subst, inl, inr, Option, Some, None, Bool, true, false, nat_lt}
use Rattle.std.specs.Prelude.{◌↔◌, ◌||◌, slice_get, option_and_then, IsTrue, if◌then◌else◌}
use Rattle.std.specs.List.{list_any}
use Rattle.std.proofs.lemmas.Bool.{and_parts, lt-ltb}
use Rattle.cw_strand.specs.declared.want.Given.TheVariants.{Nothing, Value, Back as Wrote}
use Rattle.cw_strand.specs.Strands.{Strands}
use Rattle.cw_tree.specs.declared.node.Node.{Node}
use Rattle.cw_tree.specs.declared.node.Kind.{Kind}
use Rattle.cw_tree.specs.declared.node.Kind.TheVariants.{Strand, Fork, Block, Read, Write, Out, Tried, Cancel}
use Rattle.cw_tree.specs.declared.node.BlockState.{BlockState}
use Rattle.cw_tree.specs.declared.node.BlockState.TheVariants.{Committed, Pending, Aborted}
use Rattle.cw_tree.specs.Nodes.{passes, is_strand_kind, is_fork_kind, is_block_kind, is_strand, is_fork, is_block, parent_of}
use Rattle.cw_tree.specs.Series.{children, has_later}
use Rattle.cw_tree.specs.Shape.{IsTree}
use Rattle.cw_tree.proofs.Lists.{In}
use Rattle.cw_tree.proofs.InOrder.DepthFirst.{child_is, children_rise}
use Rattle.cw_record.specs.declared.record_end.RecordEnd.{RecordEnd}
use Rattle.cw_audit.specs.Settled.{IsWantedAs, IsSome, behind_all, behind_both, behind_kind, behind_node, state_behind, MayLeave, AllFit, BothFit, FitsInside, FitsNode, CanDo}
use Rattle.cw_audit.specs.Visits.{comes_later, WalkSpot, keeping, gone_back, turned, answered, MayEnterKind, entered_kind, left_kind, MayLeaveKind}
use Rattle.cw_audit.specs.Visiting.{MayLeaveNode, left_node}
use Rattle.cw_audit.specs.declared.strands.walk.Visit.{Visit}
use Rattle.cw_audit.specs.declared.strands.walk.Visit.TheVariants.{Enter, Leave}
use Rattle.std.proofs.lemmas.Option.{slice_get_within}
use Rattle.cw_tree.proofs.Rising.{Rises}
use Rattle.cw_audit.proofs.Settling.Levels.{behind_is, fits_to, fits_from}

-- ## The shape of a tree

-- nothing above a list without members
none_in : (xs : List ℕ) → ((x : ℕ) → In x xs → ⊥) → xs ≡ []
none_in [] h = refl
none_in (x ∷ xs) h = absurd (h x (inl refl))

false_of : (b : Bool) → (b ≡ true → ⊥) → b ≡ false
false_of true h = absurd (h refl)
false_of false h = refl

module _ (t : List Node) (tree : IsTree t) (n : ℕ) where
  -- the children of a node that is no fork are no strands
  plain : is_fork t n ≡ false → (c : ℕ) → In c (children t n) → is_strand t c ≡ false
  plain e c i =
      let x = child_is t n c i in
      let P : ℕ → Type 0 = λ m. IsTrue (is_fork t m) in
      false_of (is_strand t c) (λ h. let fork : is_fork t n ≡ true = subst P x.parent (tree.strands c x.there x.some h) in cc (fork, e))

  -- a node of any other kind has none
  leaf : is_strand t n ≡ false → is_fork t n ≡ false → is_block t n ≡ false → children t n ≡ []
  leaf a b d = none_in (children t n) (λ c i.
      let x = child_is t n c i in
      let P : ℕ → Type 0 = λ m. IsTrue (is_strand t m || is_fork t m || is_block t m) in
      none_of (is_strand t n) (is_fork t n) (is_block t n) a b d (subst P x.parent (tree.parents c x.there x.some))) where
        none_of : (a b d : Bool) → a ≡ false → b ≡ false → d ≡ false → IsTrue (a || b || d) → ⊥
        none_of true b d p q r h = cc p
        none_of false true d p q r h = cc q
        none_of false false true p q r h = cc r
        none_of false false false p q r h = cc h

  -- something comes after a block by its parent alone
  block_later : is_strand t n ≡ false → comes_later t n ≡ has_later t n
  block_later e = some n e where
    some : (m : ℕ) → is_strand t m ≡ false → comes_later t m ≡ has_later t m
    some zero e = absurd (cc (e, tree.root))
    some (suc m) e = ap (λ b. b && has_later t (suc m)) (lt-ltb 0 (suc m) (omega arith))

-- the left strand of a fork has the right one after it, and nothing comes after the right one
pub record ForksInto (t : List Node) (n l r : ℕ) : Type 0 where
  pub both : children t n ≡ l ∷ r ∷ []
  pub turns : (is_strand t l && comes_later t l) ≡ true
  pub stays : (is_strand t r && comes_later t r) ≡ false

any_less : (l r : ℕ) → l < r → (list_any (λ m. nat_lt l m) (l ∷ r ∷ []) ≡ true) × (list_any (λ m. nat_lt r m) (l ∷ r ∷ []) ≡ false)
any_less l r h = (grind (arith, lt-ltb), grind (arith, lt-ltb))

forks_into : (t : List Node) → IsTree t → (n l r : ℕ) → children t n ≡ l ∷ r ∷ [] → IsTrue (is_strand t l && is_strand t r) → ForksInto t n l r
forks_into t tree n l r both strands =
    let InBoth : ℕ → Type 0 = λ c. In c (l ∷ r ∷ []) → In c (children t n) in
    let there : (c : ℕ) → In c (l ∷ r ∷ []) → In c (children t n) = λ c i. (let P : List ℕ → Type 0 = In c in subst P (sym both) i) in
    let left = child_is t n l (there l (inl refl)) in
    let right = child_is t n r (there r (inr (inl refl))) in
    let Rises_ : l < r = (subst (λ cs. Rises cs) both (children_rise t n)).0 r (inl refl) in
    let less = any_less l r Rises_ in
    let later : (c : ℕ) → parent_of t c ≡ n → has_later t c ≡ list_any (λ m. nat_lt c m) (l ∷ r ∷ []) =
    λ c e. ap (λ m. list_any (λ k. nat_lt c k) (children t m)) e ∙ ap (list_any (λ k. nat_lt c k)) both in
    let parts = and_parts (is_strand t l) (is_strand t r) strands in
    record {
      both = both;
      turns = all_true (is_strand t l) (nat_lt 0 l) (has_later t l) parts.0 (lt-ltb 0 l left.some) (later l left.parent ∙ less.0);
      stays = last_false (is_strand t r) (nat_lt 0 r) (has_later t r) (later r right.parent ∙ less.1);
    } where
      all_true : (a b d : Bool) → a ≡ true → b ≡ true → d ≡ true → (a && (b && d)) ≡ true
      all_true true true true p q r = refl
      all_true false b d p q r = p
      all_true true false d p q r = q
      all_true true true false p q r = r

      last_false : (a b d : Bool) → d ≡ false → (a && (b && d)) ≡ false
      last_false true true d e = e
      last_false true false d e = refl
      last_false false b d e = refl

-- ## What is left of a walk

module _ {A : Type 0} where
  abbrev pub on : Option A → List (Option A) → WalkSpot A
  on o os = record { now = o; kept = os }

  abbrev pub passed_by : Bool → WalkSpot A → WalkSpot A
  passed_by b p = if b then turned p else p

module _ {A : Type 0} (s : Strands A) (t : List Node) (e : RecordEnd) where
  abbrev pub whole_behind : ℕ → A → Option A
  whole_behind = state_behind s t (length t)

  abbrev pub WholeFits : ℕ → A → Type 0
  WholeFits = CanDo s t e (length t)

  -- behind node n, once the walk has entered and left it; then it goes from a left strand into the right one
  abbrev pub passed : ℕ → WalkSpot A → WalkSpot A
  passed n p = passed_by (is_strand t n && comes_later t n) (on (option_and_then (whole_behind n) p.now) p.kept)

  -- these steps can be taken
  abbrev pub Goes : List Visit → WalkSpot A → Type 0
  Goes [] p = Unit {0}
  Goes (Enter n ∷ vs) p = IsSome (WholeFits n) p.now × Goes vs (passed n p)
  Goes (Leave n ∷ vs) p = MayLeaveNode s t e n (slice_get t n) p × Goes vs (left_node s t n (slice_get t n) p)

  -- nodes that are no strands are gone past one after another
  all_go : (cs : List ℕ) → ((c : ℕ) → In c cs → is_strand t c ≡ false) → (vs : List Visit) (o : Option A) (os : List (Option A))
      → Goes (map Enter cs ++ vs) (on o os) ↔ (AllFit s t e whole_behind WholeFits cs o × Goes vs (on (option_and_then (behind_all s t whole_behind cs) o) os))
  all_go [] plain vs None os = (λ g. (tt, g), λ g. g.1)
  all_go [] plain vs (Some a) os = (λ g. (tt, g), λ g. g.1)
  all_go (c ∷ cs) plain vs None os = (λ g. absurd g.0, λ g. absurd g.0)
  all_go (c ∷ cs) plain vs (Some a) os =
      let rest = all_go cs (λ d i. plain d (inr i)) vs (whole_behind c a) os in
      let same : passed c (on (Some a) os) ≡ on (whole_behind c a) os = ap (λ b. passed_by (b && comes_later t c) (on (whole_behind c a) os)) (plain c (inl refl)) in
      let P : WalkSpot A → Type 0 = λ p. Goes (map Enter cs ++ vs) p in (
        (λ g. let r = rest.0 (subst P same g.1) in ((g.0, r.0), r.1)),
        (λ g. (g.0.0, subst P (sym same) (rest.1 (g.0.1, g.1)))),
      )

  module _ (tree : IsTree t) (n : ℕ) (vs : List Visit) where
    -- what the step that leaves the node asks
    abbrev Leaves : Kind → BlockState → Type 0
    Leaves k state = (p : WalkSpot A) → Goes (Leave n ∷ vs) p ↔ (MayLeaveKind s t e n k state p × Goes vs (left_kind s t n k state p))

    abbrev inside : WalkSpot A → Type 0
    inside p = Goes (map Enter (children t n) ++ Leave n ∷ vs) p

    -- the whole of a node, and its first step with all that follows, say the same
    abbrev SameSteps : Kind → BlockState → A → List (Option A) → Type 0
    SameSteps k state a os =
        ((IsWantedAs k (s.want a) × FitsInside s t e whole_behind WholeFits n k state a) × Goes vs (passed_by (is_strand_kind k && comes_later t n) (on (behind_kind s t whole_behind n k state a) os)))
        ↔ (IsWantedAs k (s.want a) × inside (entered_kind s t n k state (on (Some a) os)))

    fork_steps : (l r : ℕ) → ForksInto t n l r → (state : BlockState) → Leaves Fork state → (a : A) (os : List (Option A))
        → (BothFit s t e WholeFits (l ∷ r ∷ []) a × Goes vs (on (behind_both s t whole_behind (l ∷ r ∷ []) a) os))
        ↔ Goes (map Enter (l ∷ r ∷ []) ++ Leave n ∷ vs) (on (Some (s.left a)) (Some (s.right a) ∷ os))
    fork_steps l r f state leave a os =
        let o = whole_behind l (s.left a) in
        let q = whole_behind r (s.right a) in
        let first : passed l (on (Some (s.left a)) (Some (s.right a) ∷ os)) ≡ on (Some (s.right a)) (o ∷ os) = ap (λ b. passed_by b (on o (Some (s.right a) ∷ os))) f.turns in
        let second : passed r (on (Some (s.right a)) (o ∷ os)) ≡ on q (o ∷ os) = ap (λ b. passed_by b (on q (o ∷ os))) f.stays in
        let P : WalkSpot A → Type 0 = λ p. Goes (Enter r ∷ Leave n ∷ vs) p in
        let Q : WalkSpot A → Type 0 = λ p. Goes (Leave n ∷ vs) p in
        let last = leave (on q (o ∷ os)) in (
          (λ h. (h.0.0, subst P (sym first) (h.0.1, subst Q (sym second) (last.1 (tt, h.1))))),
          (λ g. let y = subst P first g.1 in ((g.0, y.0), (last.0 (subst Q second y.1)).1)),
        )

    leaf_steps : (W : Type 0) (p : WalkSpot A) → children t n ≡ [] → Goes (Leave n ∷ vs) p ↔ (Unit {0} × Goes vs p) → ((W × Unit {0}) × Goes vs p) ↔ (W × inside p)
    leaf_steps W p none leave =
        let P : List ℕ → Type 0 = λ cs. Goes (map Enter cs ++ Leave n ∷ vs) p in (
          (λ h. (h.0.0, subst P (sym none) (leave.1 (tt, h.1)))),
          (λ g. ((g.0, tt), (leave.0 (subst P none g.1)).1)),
        )

    -- a block that is left without an end
    back_steps : (W : Type 0) → ((c : ℕ) → In c (children t n) → is_strand t c ≡ false) → (b : Bool) → ((p : WalkSpot A) → Goes (Leave n ∷ vs) p ↔ (MayLeave s t e n p.now × Goes vs (if b then gone_back p else on None p.kept)))
        → (a : A) (os : List (Option A))
        → ((W × (AllFit s t e whole_behind WholeFits (children t n) (Some (s.answer a Nothing)) × MayLeave s t e n (behind_all s t whole_behind (children t n) (s.answer a Nothing)))) × Goes vs (on (if b then Some a else None) os))
        ↔ (W × inside (answered s Nothing (if b then keeping (on (Some a) os) else on (Some a) os)))
    back_steps W plain true leave a os =
        let o = behind_all s t whole_behind (children t n) (s.answer a Nothing) in
        let go = all_go (children t n) plain (Leave n ∷ vs) (Some (s.answer a Nothing)) (Some a ∷ os) in
        let last = leave (on o (Some a ∷ os)) in (
          (λ h. (h.0.0, go.1 (h.0.1.0, last.1 (h.0.1.1, h.1)))),
          (λ g. let y = go.0 g.1 in let z = last.0 y.1 in ((g.0, (y.0, z.0)), z.1)),
        )
    back_steps W plain false leave a os =
        let o = behind_all s t whole_behind (children t n) (s.answer a Nothing) in
        let go = all_go (children t n) plain (Leave n ∷ vs) (Some (s.answer a Nothing)) os in
        let last = leave (on o os) in (
          (λ h. (h.0.0, go.1 (h.0.1.0, last.1 (h.0.1.1, h.1)))),
          (λ g. let y = go.0 g.1 in let z = last.0 y.1 in ((g.0, (y.0, z.0)), z.1)),
        )

    -- the node is of this kind
    record IsOfKind (k : Kind) : Type 0 where
      strand : is_strand t n ≡ is_strand_kind k
      fork : is_fork t n ≡ is_fork_kind k
      block : is_block t n ≡ is_block_kind k
      forks : IsTrue (is_fork t n) → (l r : ℕ) × ForksInto t n l r

    back_of : (W : Type 0) → IsOfKind Block → ((p : WalkSpot A) → Goes (Leave n ∷ vs) p ↔ (MayLeave s t e n p.now × Goes vs (if comes_later t n then gone_back p else on None p.kept)))
        → (a : A) (os : List (Option A))
        → ((W × (AllFit s t e whole_behind WholeFits (children t n) (Some (s.answer a Nothing)) × MayLeave s t e n (behind_all s t whole_behind (children t n) (s.answer a Nothing)))) × Goes vs (on (if has_later t n then Some a else None) os))
        ↔ (W × inside (answered s Nothing (if comes_later t n then keeping (on (Some a) os) else on (Some a) os)))
    back_of W i leave a os =
        let P : Bool → Type 0 = λ b.
        ((W × (AllFit s t e whole_behind WholeFits (children t n) (Some (s.answer a Nothing)) × MayLeave s t e n (behind_all s t whole_behind (children t n) (s.answer a Nothing)))) × Goes vs (on (if b then Some a else None) os))
        ↔ (W × inside (answered s Nothing (if comes_later t n then keeping (on (Some a) os) else on (Some a) os))) in
        subst P (block_later t tree n i.strand) (back_steps W (plain t tree n i.fork) (comes_later t n) leave a os)

    steps_of : (k : Kind) (state : BlockState) → IsOfKind k → Leaves k state → (a : A) (os : List (Option A)) → SameSteps k state a os
    steps_of Strand state i leave a os =
        let o = behind_all s t whole_behind (children t n) a in
        let go = all_go (children t n) (plain t tree n i.fork) (Leave n ∷ vs) (Some a) os in
        let last = leave (on o os) in (
          (λ h. (tt, go.1 (h.0.1.0, last.1 (h.0.1.1, h.1)))),
          (λ g. let y = go.0 g.1 in let z = last.0 y.1 in ((tt, (y.0, z.0)), z.1)),
        )
    steps_of Fork state i leave a os =
        let (l, r, f) = i.forks i.fork in
        let go = fork_steps l r f state leave a os in
        let P : List ℕ → Type 0 = λ cs. (BothFit s t e WholeFits cs a × Goes vs (on (behind_both s t whole_behind cs a) os)) ↔ Goes (map Enter cs ++ Leave n ∷ vs) (on (Some (s.left a)) (Some (s.right a) ∷ os)) in
        let all = subst P (sym f.both) go in (
          (λ h. (h.0.0, all.0 (h.0.1, h.1))),
          (λ g. let y = all.1 g.1 in ((g.0, y.0), y.1)),
        )
    steps_of Block Committed i leave a os =
        let o = behind_all s t whole_behind (children t n) (s.answer a Nothing) in
        let go = all_go (children t n) (plain t tree n i.fork) (Leave n ∷ vs) (Some (s.answer a Nothing)) os in
        let last = leave (on o os) in (
          (λ h. (h.0.0, go.1 (h.0.1.0, last.1 (h.0.1.1, h.1)))),
          (λ g. let y = go.0 g.1 in let z = last.0 y.1 in ((g.0, (y.0, z.0)), z.1)),
        )
    steps_of Block Pending i leave a os = back_of (IsWantedAs Block (s.want a)) i leave a os
    steps_of Block Aborted i leave a os = back_of (IsWantedAs Block (s.want a)) i leave a os
    steps_of (Read c v) state i leave a os = leaf_steps (IsWantedAs (Read c v) (s.want a)) (on (Some (s.answer a (Value v))) os) (leaf t tree n i.strand i.fork i.block) (leave (on (Some (s.answer a (Value v))) os))
    steps_of (Write c v) state i leave a os = leaf_steps (IsWantedAs (Write c v) (s.want a)) (on (Some (s.answer a Nothing)) os) (leaf t tree n i.strand i.fork i.block) (leave (on (Some (s.answer a Nothing)) os))
    steps_of (Out v) state i leave a os = leaf_steps (IsWantedAs (Out v) (s.want a)) (on (Some (s.answer a Nothing)) os) (leaf t tree n i.strand i.fork i.block) (leave (on (Some (s.answer a Nothing)) os))
    steps_of (Tried c) state i leave a os = leaf_steps (IsWantedAs (Tried c) (s.want a)) (on (Some a) os) (leaf t tree n i.strand i.fork i.block) (leave (on (Some a) os))
    steps_of (Cancel back) state i leave a os = leaf_steps (IsWantedAs (Cancel back) (s.want a)) (on (Some (s.answer a (Wrote back))) os) (leaf t tree n i.strand i.fork i.block) (leave (on (Some (s.answer a (Wrote back))) os))

    -- ## One step

    module _ (x : Node) (here : slice_get t n ≡ Some x) where
      of_kind : IsOfKind x.kind
      of_kind = record {
        strand = ap (passes (λ y. is_strand_kind y.kind)) here;
        fork = ap (passes (λ y. is_fork_kind y.kind)) here;
        block = ap (passes (λ y. is_block_kind y.kind)) here;
        forks = λ f. (let (l, r, both, strands) = tree.forks n (slice_get_within t n x here) f in (l, r, forks_into t tree n l r both strands));
      }

      leaves : Leaves x.kind x.state
      leaves p =
          let P : Option Node → Type 0 = λ o. MayLeaveNode s t e n o p × Goes vs (left_node s t n o p) in
          ((λ g. subst P here g), (λ g. subst P (sym here) g))

      -- The whole of a node at once, or its first step and all that follows.
      pub one_step : (o : Option A) (os : List (Option A)) → Goes (Enter n ∷ vs) (on o os) ↔ (MayEnterKind s x.kind (on o os) × inside (entered_kind s t n x.kind x.state (on o os)))
      one_step None os = (λ g. absurd g.0, λ g. absurd g.0)
      one_step (Some a) os =
          let steps = steps_of x.kind x.state of_kind leaves a os in
          let b = is_strand_kind x.kind && comes_later t n in
          let F : Option Node → Type 0 = λ o. FitsNode s t e whole_behind WholeFits n o a in
          let there : whole_behind n a ≡ behind_kind s t whole_behind n x.kind x.state a = behind_is s t tree.rooted n a ∙ ap (λ o. behind_node s t whole_behind n o a) here in
          let to : passed n (on (Some a) os) ≡ passed_by b (on (behind_kind s t whole_behind n x.kind x.state a) os) =
          ap (λ c. passed_by (c && comes_later t n) (on (whole_behind n a) os)) (of_kind.strand) ∙ ap (λ o. passed_by b (on o os)) there in
          let P : WalkSpot A → Type 0 = λ p. Goes vs p in (
            (λ g. steps.0 (subst F here (fits_to s t e tree.rooted n a g.0), subst P to g.1)),
            (λ g. let y = steps.1 g in (fits_from s t e tree.rooted n a (subst F (sym here) y.0), subst P (sym to) y.1)),
          )
