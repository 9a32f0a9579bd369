-- States told node by node, as a run goes, make the states of a coherent record: where each node begins, what it wants there, and which
-- strands are over.
use Rattle.std.proofs.Common.{◌≡◌, ℕ, zero, suc, ◌+◌, ◌<◌, ◌≤◌, List, [], ◌∷◌, ◌++◌, length, refl, ap, sym, ◌∙◌, subst, arith, Bool, true, false, cond, inl, inr, Option, Some, None, nat_lt, nat_eq, length-append}
use Rattle.std.specs.Prelude.{◌⊎◌, ◌&&◌, ◌||◌, slice_get, if◌then◌else◌}
use Rattle.std.specs.List.{filter}
use Rattle.std.proofs.lemmas.Bool.{and_parts, ltb-true, eqb-true, not_from_false}
use Rattle.std.proofs.lemmas.List.{append-nil}
use Rattle.std.proofs.lemmas.Option.{slice_get_within}
use Rattle.std.proofs.lemmas.List.Elements.{filter-append}
use Rattle.cw_strand.specs.declared.want.Want.TheVariants as want
use Rattle.cw_strand.specs.declared.want.Given.TheVariants.{Nothing, Value, Back as Wrote}
use Rattle.cw_strand.specs.Strands.{Strands, is_over}
use Rattle.cw_tree.specs.declared.node.Node.{Node}
use Rattle.cw_tree.specs.declared.node.Kind.{Kind}
use Rattle.cw_tree.specs.declared.node.Kind.TheVariants.{Strand, Fork, Block, Read, Write, Out, Tried, Cancel}
use Rattle.cw_tree.specs.declared.node.BlockState.{BlockState}
use Rattle.cw_tree.specs.declared.node.BlockState.TheVariants.{Pending, Committed, Aborted}
use Rattle.cw_tree.specs.Nodes.{parent_of, passes, below, last_below, is_strand, is_fork, is_fork_kind, is_block, is_committed}
use Rattle.cw_tree.specs.Walks.{IsRooted}
use Rattle.cw_tree.specs.Series.{children, has_later}
use Rattle.cw_tree.specs.Shape.{IsTree}
use Rattle.cw_tree.specs.Links.{is_child, last_child, child_before}
use Rattle.cw_tree.proofs.Walks.Children.{last_passes}
use Rattle.cw_tree.proofs.InOrder.DepthFirst.{IsChild, child_is}
use Rattle.cw_tree.proofs.Lists.{In}
use Rattle.cw_tree.proofs.NextNodes.Trees.{no_fork}
use Rattle.cw_serial.proofs.Numbers.{snoc_same}
use Rattle.cw_record.specs.Coherent.{InSeries, IsWanted, IsForkOf, StrandEnded, alone, joined, IsJoined, Follows}
use Rattle.cw_record.specs.Replay.{IsAccessOf}

-- ## The last that passes

pub none_below : (p : ℕ → Bool) (k : ℕ) → filter p (below k) ≡ [] → last_below p k ≡ None
none_below p zero e = refl
none_below p (suc k) e = by (p k) (none_below p k) (sym (filter-append p (below k) (k ∷ [])) ∙ e) where
  by : (b : Bool) → (filter p (below k) ≡ [] → last_below p k ≡ None) → filter p (below k) ++ cond b (k ∷ []) [] ≡ [] → cond b (Some k) (last_below p k) ≡ None
  by true more f = absurd (omega (arith, ap length f, length-append (filter p (below k)) (k ∷ [])))
  by false more f = more (sym (append-nil (filter p (below k))) ∙ f)

one_below : (p : ℕ → Bool) (k l : ℕ) → filter p (below k) ≡ l ∷ [] → (last_below p l ≡ None) × (last_below p k ≡ Some l)
one_below p zero l e = absurd (cc e)
one_below p (suc k) l e = by (p k) (one_below p k l) (sym (filter-append p (below k) (k ∷ [])) ∙ e) where
  by : (b : Bool) → (filter p (below k) ≡ l ∷ [] → (last_below p l ≡ None) × (last_below p k ≡ Some l)) → filter p (below k) ++ cond b (k ∷ []) [] ≡ l ∷ [] → (last_below p l ≡ None) × (cond b (Some k) (last_below p k) ≡ Some l)
  by true more f =
      let z = snoc_same (filter p (below k)) [] k l f in
      let P : ℕ → Type 0 = λ m. last_below p m ≡ None in
      (subst P z.1 (none_below p k z.0), ap Some z.1)
  by false more f = more (sym (append-nil (filter p (below k))) ∙ f)

pub two_below : (p : ℕ → Bool) (k l r : ℕ) → filter p (below k) ≡ l ∷ r ∷ [] → (last_below p l ≡ None) × (last_below p r ≡ Some l)
two_below p zero l r e = absurd (cc e)
two_below p (suc k) l r e = by (p k) (two_below p k l r) (sym (filter-append p (below k) (k ∷ [])) ∙ e) where
  by : (b : Bool) → (filter p (below k) ≡ l ∷ r ∷ [] → (last_below p l ≡ None) × (last_below p r ≡ Some l)) → filter p (below k) ++ cond b (k ∷ []) [] ≡ l ∷ r ∷ [] → (last_below p l ≡ None) × (last_below p r ≡ Some l)
  by true more f =
      let z = snoc_same (filter p (below k)) (l ∷ []) k r f in
      let y = one_below p k l z.0 in
      let P : ℕ → Type 0 = λ m. last_below p m ≡ Some l in
      (y.0, subst P z.1 y.1)
  by false more f = more (sym (append-nil (filter p (below k))) ∙ f)

-- ## States

-- the states before and after each node
pub record States (A : Type 0) : Type 0 where
  pub before : ℕ → A
  pub after : ℕ → A

module _ {A : Type 0} (s : Strands A) where
  -- A committed block comes to its end; any other one leaves its strand where it was.
  abbrev pub Closes : (before after reached : A) → BlockState → Type 0
  Closes a b c Committed = (s.want c ≡ want.End) × (b ≡ s.answer c Nothing)
  Closes a b c state = b ≡ a

  -- a node is what its strand wants before it, and after it that is answered
  abbrev pub DoesAs : (before after reached : A) → Kind → BlockState → Type 0
  DoesAs a b c Strand state = Unit {0}
  DoesAs a b c Fork state = s.want a ≡ want.Fork
  DoesAs a b c Block state = (s.want a ≡ want.Begin) × Closes a b c state
  DoesAs a b c (Read e v) state = (s.want a ≡ want.Load e) × (b ≡ s.answer a (Value v))
  DoesAs a b c (Write e v) state = (s.want a ≡ want.Store e v) × (b ≡ s.answer a Nothing)
  DoesAs a b c (Out v) state = (s.want a ≡ want.Out v) × (b ≡ s.answer a Nothing)
  DoesAs a b c (Cancel back) state = (s.want a ≡ want.Cancel) × (b ≡ s.answer a (Wrote back))
  DoesAs a b c (Tried e) state = IsAccessOf e (s.want a) × (b ≡ a)

module _ {A : Type 0} (s : Strands A) (t : List Node) (x : States A) where
  -- the state at the start of a strand, or in a block that was just begun
  abbrev pub enters : ℕ → A
  enters n = if is_block t n then s.answer (x.before n) Nothing else x.before n

  -- behind this child of n, or at its start
  abbrev pub behind : ℕ → Option ℕ → A
  behind n None = enters n
  behind n (Some c) = x.after c

  abbrev pub reached : ℕ → A
  reached n = behind n (last_child t n)

  -- the strand of fork f that has this one before it
  abbrev pub side : ℕ → Option ℕ → A
  side f None = s.left (x.before f)
  side f (Some c) = s.right (x.before f)

  abbrev pub begins_in : Bool → ℕ → Option ℕ → A
  begins_in true n o = side n o
  begins_in false n o = behind n o

  -- where node d begins
  abbrev pub begins : ℕ → A
  begins d = begins_in (is_fork t (parent_of t d)) (parent_of t d) (child_before t d)

  -- the node is what its strand wants before it
  abbrev pub Does : ℕ → Kind → BlockState → Type 0
  Does n = DoesAs s (x.before n) (x.after n) (reached n)

  pub record AreStates : Type 0 where
    pub start : x.before 0 ≡ s.start
    pub begun : (d : ℕ) → 0 < d → d < length t → x.before d ≡ begins d
    pub does : (n : ℕ) (y : Node) → slice_get t n ≡ Some y → Does n y.kind y.state

  -- strand n is over; behind fork f is what its strands become
  abbrev pub IsOver : ℕ → Type 0
  IsOver n = is_over (s.want (reached n)) ≡ true

  abbrev pub JoinsAt : ℕ → Type 0
  JoinsAt f = (l r : ℕ) → IsChild t f r → child_before t r ≡ Some l → x.after f ≡ s.joined (reached r) (reached l)

  -- ## The states of a strand follow each other

  module _ (r : IsRooted t) (h : AreStates) where
    series_more : (a b : A) (ns : List ℕ) (c : ℕ) → InSeries x.before x.after a ns b → x.before c ≡ b → InSeries x.before x.after a (ns ++ c ∷ []) (x.after c)
    series_more a b [] c g e = (e ∙ sym g, refl)
    series_more a b (n ∷ ns) c g e = (g.0, series_more (x.after n) b ns c g.1 e)

    module _ (n : ℕ) (other : is_fork t n ≡ false) where
      begins_here : (c : ℕ) → c < length t → is_child t n c ≡ true → x.before c ≡ behind n (last_below (is_child t n) c)
      begins_here c there e =
          let z = and_parts (nat_lt 0 c) (nat_eq (parent_of t c) n) e in
          let up : parent_of t c ≡ n = eqb-true (parent_of t c) n z.1 in
          let P : ℕ → Type 0 = λ m. is_fork t m ≡ false → begins_in (is_fork t m) m (last_below (is_child t m) c) ≡ behind m (last_below (is_child t m) c) in
          h.begun c (ltb-true 0 c z.0) there
          ∙ ap (λ m. begins_in (is_fork t m) m (last_below (is_child t m) c)) up
          ∙ ap (λ b. begins_in b n (last_below (is_child t n) c)) other

      series_below : (k : ℕ) → k ≤ length t → InSeries x.before x.after (enters n) (filter (is_child t n) (below k)) (behind n (last_below (is_child t n) k))
      series_below zero l = refl
      series_below (suc k) l =
          let P : List ℕ → Type 0 = λ ns. InSeries x.before x.after (enters n) ns (behind n (last_below (is_child t n) (suc k))) in
          subst P (sym (filter-append (is_child t n) (below k) (k ∷ []))) (by (is_child t n k) refl (series_below k (omega arith))) where
            by : (b : Bool) → is_child t n k ≡ b → InSeries x.before x.after (enters n) (filter (is_child t n) (below k)) (behind n (last_below (is_child t n) k))
                → InSeries x.before x.after (enters n) (filter (is_child t n) (below k) ++ cond b (k ∷ []) []) (behind n (cond b (Some k) (last_below (is_child t n) k)))
            by true e old = series_more (enters n) _ (filter (is_child t n) (below k)) k old (begins_here k (omega arith) e)
            by false e old = (let Q : List ℕ → Type 0 = λ ns. InSeries x.before x.after (enters n) ns (behind n (last_below (is_child t n) k)) in subst Q (sym (append-nil (filter (is_child t n) (below k)))) old)

  -- ## What is shut

  -- Nodes are shut with all beneath them; a shut strand is over, and behind a shut fork is what its strands become.
  pub record AreShut (shut : ℕ → Bool) : Type 0 where
    pub beneath : (n m : ℕ) → shut n ≡ true → 0 < m → m < length t → parent_of t m ≡ n → shut m ≡ true
    pub over : (n : ℕ) → n < length t → is_strand t n ≡ true → shut n ≡ true → IsOver n
    pub joins : (f : ℕ) → f < length t → is_fork t f ≡ true → shut f ≡ true → JoinsAt f

  module _ (tree : IsTree t) (shut : ℕ → Bool) (sh : AreShut shut) where
    abbrev pub Ended : ℕ → Type 0
    Ended = StrandEnded s t x.before x.after reached

    -- behind a fork is what its two strands become
    become : (f l r : ℕ) → children t f ≡ l ∷ r ∷ [] → IsChild t f r → JoinsAt f → x.after f ≡ s.joined (reached r) (reached l)
    become f l r kids right joins = joins l r right (ap (λ n. last_below (is_child t n) r) right.parent ∙ (two_below (is_child t f) (length t) l r kids).1)

    some_same : (c d : ℕ) → Some c ≡ Some d → c ≡ d
    some_same c d e = cc e

    fork_child : (f l r c : ℕ) → children t f ≡ l ∷ r ∷ [] → (c ≡ l) ⊎ (c ≡ r) → IsChild t f c
    fork_child f l r c e w =
        let i : In c (l ∷ r ∷ []) = elim w [ inl q ↦ inl q | inr q ↦ inr (inl q) ] in
        let P : List ℕ → Type 0 = In c in
        child_is t f c (subst P (sym e) i)

    ended : (k n : ℕ) → length t ≤ n + k → n < length t → is_strand t n ≡ true → shut n ≡ true → Ended n
    ended zero n le there strand e = absurd (omega arith)
    ended (suc k) n le there strand e = by (last_child t n) refl (λ m after low g shuts. ended k m (omega arith) low g shuts) where
      More : Type 0
      More = (m : ℕ) → n < m → m < length t → is_strand t m ≡ true → shut m ≡ true → Ended m

      by : (o : Option ℕ) → last_child t n ≡ o → More → Ended n
      by None last more = alone (sh.over n there strand e) (λ f found. absurd (let both = sym last ∙ found in cc both))
      by (Some c) last more = by_kind (is_fork t c) refl where
        found : (c < length t) × (is_child t n c ≡ true)
        found = last_passes (is_child t n) (length t) c last

        z : (is_child t n c ≡ true) × (c < length t)
        z = (found.1, found.0)

        y : (nat_lt 0 c ≡ true) × (nat_eq (parent_of t c) n ≡ true)
        y = and_parts (nat_lt 0 c) (nat_eq (parent_of t c) n) z.0

        after_n : n < c
        after_n = let low : parent_of t c < c = tree.rooted c (ltb-true 0 c y.0) z.1 in let up : parent_of t c ≡ n = eqb-true (parent_of t c) n y.1 in omega arith

        by_kind : (b : Bool) → is_fork t c ≡ b → Ended n
        by_kind false other = alone (sh.over n there strand e) (λ f found. (let P : ℕ → Type 0 = λ m. is_fork t m ≡ false in not_from_false (is_fork t f) (subst P (some_same c f (sym last ∙ found)) other)))
        by_kind true fork =
            let (l, r, kids, strands) = tree.forks c z.1 fork in
            let both = and_parts (is_strand t l) (is_strand t r) strands in
            let left = fork_child c l r l kids (inl refl) in
            let right = fork_child c l r r kids (inr refl) in
            let here = sh.beneath n c e (ltb-true 0 c y.0) z.1 (eqb-true (parent_of t c) n y.1) in
            let l_low : parent_of t l < l = tree.rooted l left.some left.there in
            let r_low : parent_of t r < r = tree.rooted r right.some right.there in
            let low = after_n in
            let lp = left.parent in
            let rp = right.parent in
            joined (sh.over n there strand e) last fork kids
            (more l (omega arith) left.there both.0 (sh.beneath c l here left.some left.there left.parent))
            (more r (omega arith) right.there both.1 (sh.beneath c r here right.some right.there right.parent))
            (become c l r kids right (sh.joins c z.1 fork here))

    pub strand_ended : (n : ℕ) → n < length t → is_strand t n ≡ true → shut n ≡ true → Ended n
    strand_ended n = ended (length t) n (omega arith)

    pub fork_joined : (f : ℕ) → f < length t → is_fork t f ≡ true → shut f ≡ true → IsJoined s t x.before x.after reached f
    fork_joined f there fork e =
        let (l, r, kids, strands) = tree.forks f there fork in
        let both = and_parts (is_strand t l) (is_strand t r) strands in
        let left = fork_child f l r l kids (inl refl) in
        let right = fork_child f l r r kids (inr refl) in
        record {
          left = l;
          right = r;
          strands = kids;
          left_ended = strand_ended l left.there both.0 (sh.beneath f l e left.some left.there left.parent);
          right_ended = strand_ended r right.there both.1 (sh.beneath f r e right.some right.there right.parent);
          behind = become f l r kids right (sh.joins f there fork e);
        }

    module _ (h : AreStates) where
      starts : (n : ℕ) → n < length t → is_fork t n ≡ true → IsForkOf s t x.before x.after reached n (children t n)
      starts n there fork =
          let (l, r, kids, strands) = tree.forks n there fork in
          let left = fork_child n l r l kids (inl refl) in
          let right = fork_child n l r r kids (inr refl) in
          let at = two_below (is_child t n) (length t) l r kids in
          let first : x.before l ≡ side n (last_below (is_child t n) l) =
          h.begun l left.some left.there ∙ ap (λ m. begins_in (is_fork t m) m (last_below (is_child t m) l)) left.parent ∙ ap (λ b. begins_in b n (last_below (is_child t n) l)) fork in
          let second : x.before r ≡ side n (last_below (is_child t n) r) =
          h.begun r right.some right.there ∙ ap (λ m. begins_in (is_fork t m) m (last_below (is_child t m) r)) right.parent ∙ ap (λ b. begins_in b n (last_below (is_child t n) r)) fork in
          let P : List ℕ → Type 0 = IsForkOf s t x.before x.after reached n in
          subst P (sym kids) (first ∙ ap (side n) at.0, second ∙ ap (side n) at.1)

      wanted : (n : ℕ) (k : Kind) (state : BlockState) → n < length t → (is_fork_kind k ≡ true → is_fork t n ≡ true) → Does n k state → IsWanted s t x.before x.after reached n k state
      wanted n Strand state there fork d = tt
      wanted n Fork state there fork d = (d, starts n there (fork refl))
      wanted n Block Committed there fork d = d
      wanted n Block Pending there fork d = d
      wanted n Block Aborted there fork d = d
      wanted n (Read c v) state there fork d = d
      wanted n (Write c v) state there fork d = d
      wanted n (Out v) state there fork d = d
      wanted n (Cancel back) state there fork d = d
      wanted n (Tried c) state there fork d = d

      -- the states of a coherent record, where a strand went on only behind shut forks
      pub all_follow : ((f : ℕ) → f < length t → (is_fork t f && (has_later t f || is_committed t (parent_of t f))) ≡ true → shut f ≡ true) → Follows s t x.before x.after reached
      all_follow went_on = record {
        start = h.start;
        series = λ n there e. series_below tree.rooted h n (no_fork t n e) (length t) (omega arith);
        fits = λ n y e. wanted n y.kind y.state (slice_get_within t n y e) (λ k. ap (passes (λ z. is_fork_kind z.kind)) e ∙ k) (h.does n y e);
        joined = λ f there e. fork_joined f there (and_parts (is_fork t f) (has_later t f || is_committed t (parent_of t f)) e).0 (went_on f there e);
      }
