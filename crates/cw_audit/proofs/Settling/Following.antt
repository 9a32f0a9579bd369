-- If strands did what the tree tells, main's strand fits the tree: each choice of states agrees with what is behind each node.
use Rattle.std.proofs.Common.{◌≡◌, ℕ, zero, suc, ◌+◌, ◌<◌, ◌≤◌, List, [], ◌∷◌, ◌++◌, length, refl, ap, sym, ◌∙◌, arith, subst, inl, inr, nat_lt, append-nil, Bool, true, false, Option, Some, None, cond}
use Rattle.std.specs.Prelude.{◌⊎◌, ◌&&◌, ◌||◌, filter, slice_get, option_map, option_and_then}
use Rattle.std.proofs.lemmas.Bool.{cases_Bool, and_from, and_parts, or_left, or_right, or_cases, lt-ltb}
use Rattle.std.proofs.lemmas.Option.{slice_get-get_or}
use Rattle.std.proofs.lemmas.List.Elements.{filter-append}
use Rattle.cw_strand.specs.declared.want.Want.{Want}
use Rattle.cw_strand.specs.declared.want.Want.TheVariants as want
use Rattle.cw_strand.specs.declared.want.Given.TheVariants.{Nothing}
use Rattle.cw_strand.specs.Strands.{Strands, is_over}
use Rattle.cw_tree.specs.declared.node.Node.{Node}
use Rattle.cw_tree.specs.declared.node.Kind.{Kind}
use Rattle.cw_tree.specs.declared.node.Kind.TheVariants.{Strand, Fork, Block, Read, Write, Out, Tried, Cancel}
use Rattle.cw_tree.specs.declared.node.BlockState.{BlockState}
use Rattle.cw_tree.specs.declared.node.BlockState.TheVariants.{Committed, Pending, Aborted}
use Rattle.cw_tree.specs.Nodes.{passes, parent_of, is_strand, is_strand_kind, is_fork, is_fork_kind, is_block, is_block_kind, is_committed, is_committed_state, below, last_below, fresh_node}
use Rattle.cw_tree.specs.Series.{children, has_later}
use Rattle.cw_tree.specs.Shape.{IsTree}
use Rattle.cw_tree.specs.Links.{is_child}
use Rattle.cw_tree.proofs.Lists.{In, any_from}
use Rattle.cw_tree.proofs.Walks.There.{fork_there}
use Rattle.cw_tree.proofs.NodeKinds.{fork_no_strand, fork_no_block, strand_no_block}
use Rattle.cw_tree.proofs.Rising.{Rises}
use Rattle.cw_tree.proofs.InOrder.DepthFirst.{child_is, children_rise}
use Rattle.cw_record.specs.declared.record_end.RecordEnd.{RecordEnd}
use Rattle.cw_record.specs.declared.record_end.RecordEnd.TheVariants.{Finished, Fault, Budget, Moves}
use Rattle.cw_record.specs.Coherent.{InSeries, entered, IsForkOf, IsClosed, IsWanted, StrandEnded, alone, joined, IsJoined, HasNoOpenFork, Follows, EndStands}
use Rattle.cw_audit.proofs.Settling.Levels.{behind_is, fits_from}
use Rattle.cw_audit.specs.Settled.{IsSome, IsWantedAs, joins, behind_all, behind_both, behind_kind, behind_node, state_behind, MayLeave, AllFit, BothFit, FitsInside, FitsNode, CanDo}

-- ## The last of a list

abbrev pub last_of : List ℕ → Option ℕ
last_of [] = None
last_of (x ∷ []) = Some x
last_of (x ∷ y ∷ xs) = last_of (y ∷ xs)

last_more : (xs : List ℕ) (k : ℕ) → last_of (xs ++ k ∷ []) ≡ Some k
last_more [] k = refl
last_more (x ∷ []) k = refl
last_more (x ∷ y ∷ xs) k = last_more (y ∷ xs) k

-- the last number that passes is the last of those that pass
pub last_passing : (p : ℕ → Bool) (k : ℕ) → last_below p k ≡ last_of (filter p (below k))
last_passing p zero = refl
last_passing p (suc k) = by (p k) (last_passing p k) ∙ sym (ap last_of (filter-append p (below k) (k ∷ []))) where
  by : (b : Bool) → last_below p k ≡ last_of (filter p (below k)) → cond b (Some k) (last_below p k) ≡ last_of (filter p (below k) ++ cond b (k ∷ []) [])
  by true e = sym (last_more (filter p (below k)) k)
  by false e = e ∙ ap last_of (sym (append-nil (filter p (below k))))

-- ## What a strand did

-- it has not begun a block that was not committed
abbrev pub IsNoBegin : Want → Type 0
IsNoBegin w = w ≡ want.Begin → ⊥

over_no_begin : (w : Want) → is_over w ≡ true → IsNoBegin w
over_no_begin w over e = let same : is_over w ≡ is_over want.Begin = ap is_over e in cc (over, same)

module _ {A : Type 0} (s : Strands A) (t : List Node) (e : RecordEnd) (tree : IsTree t) (before after reached : ℕ → A)
    (q : Follows s t before after reached) (stands : EndStands s t before after reached e) where
  abbrev bh : ℕ → A → Option A
  bh = state_behind s t (length t)

  abbrev Fit : ℕ → A → Type 0
  Fit = CanDo s t e (length t)

  abbrev Joined : ℕ → Type 0
  Joined = IsJoined s t before after reached

  abbrev Shut : ℕ → Type 0
  Shut = HasNoOpenFork s t before after reached

  abbrev Ended : ℕ → Type 0
  Ended = StrandEnded s t before after reached

  -- A node fits the state before it. What is behind it is the state after it, if a fork is joined, and if something comes after it or
  -- its strand does not begin a block there.
  record DidWell (n : ℕ) : Type 0 where
    fits : Fit n (before n)
    goes : is_strand t n ≡ false → (is_fork t n ≡ true → Joined n) → (has_later t n ≡ true) ⊎ IsNoBegin (s.want (after n)) → bh n (before n) ≡ Some (after n)
    ends : is_strand t n ≡ true → Shut n → IsNoBegin (s.want (reached n)) → bh n (before n) ≡ Some (reached n)

  -- ## Strands that ended

  some_same : (c d : ℕ) → Some c ≡ Some d → c ≡ d
  some_same c d e = cc e

  ended_over : (x : ℕ) → Ended x → is_over (s.want (reached x)) ≡ true
  ended_over x (alone over none) = over
  ended_over x (joined over last fork these left right behind) = over

  ended_shut : (x : ℕ) → Ended x → Shut x
  ended_shut x (alone over none) f last fork = absurd (let other = none f last in cc (fork, other))
  ended_shut x (joined {f = g} {l = l} {r = r} over last fork these left right behind) f there is =
      let same : g ≡ f = some_same g f (sym last ∙ there) in
      subst Joined same (record { left = l; right = r; strands = these; left_ended = left; right_ended = right; behind = behind })

  -- ## In series

  later : (n c d : ℕ) → In c (children t n) → In d (children t n) → c < d → has_later t c ≡ true
  later n c d i j less =
      let x = child_is t n c i in
      let P : ℕ → Type 0 = λ p. In d (children t p) in
      any_from (λ m. nat_lt c m) d (children t (parent_of t c)) (subst P (sym x.parent) j) (lt-ltb c d less)

  -- these are children of one place, each did well
  record Series (n : ℕ) (cs : List ℕ) : Type 0 where
    rises : Rises cs
    within : (c : ℕ) → In c cs → In c (children t n)
    kinds : (c : ℕ) → In c cs → is_strand t c ≡ false
    well : (c : ℕ) → In c cs → DidWell c

  behind_first : (n c : ℕ) (cs : List ℕ) → Series n (c ∷ cs) → Series n cs
  behind_first n c cs x = record { rises = x.rises.1; within = λ d i. x.within d (inr i); kinds = λ d i. x.kinds d (inr i); well = λ d i. x.well d (inr i) }

  goes_on : (n c d : ℕ) (cs : List ℕ) → Series n (c ∷ d ∷ cs) → bh c (before c) ≡ Some (after c)
  goes_on n c d cs x =
      let more = later n c d (x.within c (inl refl)) (x.within d (inr (inl refl))) (x.rises.0 d (inl refl)) in
      (x.well c (inl refl)).goes (x.kinds c (inl refl))
      (λ fork. q.joined c (child_is t n c (x.within c (inl refl))).there (and_from (is_fork t c) (has_later t c || is_committed t (parent_of t c)) fork (or_left (has_later t c) (is_committed t (parent_of t c)) more)))
      (inl more)

  all_fit : (n : ℕ) (cs : List ℕ) (a b : A) → Series n cs → InSeries before after a cs b → AllFit s t e bh Fit cs (Some a)
  all_fit n [] a b x i = tt
  all_fit n (c ∷ []) a b x i = (subst (Fit c) i.0 (x.well c (inl refl)).fits, tt)
  all_fit n (c ∷ d ∷ cs) a b x i =
      let P : Option A → Type 0 = λ o. AllFit s t e bh Fit (d ∷ cs) o in
      let step : bh c a ≡ Some (after c) = ap (bh c) (sym i.0) ∙ goes_on n c d cs x in
      (subst (Fit c) i.0 (x.well c (inl refl)).fits, subst P (sym step) (all_fit n (d ∷ cs) (after c) b (behind_first n c (d ∷ cs) x) i.1))

  all_behind : (n : ℕ) (cs : List ℕ) (a b : A) → Series n cs → InSeries before after a cs b → ((f : ℕ) → last_of cs ≡ Some f → is_fork t f ≡ true → Joined f) → IsNoBegin (s.want b)
      → behind_all s t bh cs a ≡ Some b
  all_behind n [] a b x i shut never = ap Some i
  all_behind n (c ∷ []) a b x i shut never =
      let P : A → Type 0 = λ d. IsNoBegin (s.want d) in
      ap (option_and_then (behind_all s t bh [])) (ap (bh c) (sym i.0) ∙ (x.well c (inl refl)).goes (x.kinds c (inl refl)) (shut c refl) (inr (subst P (sym i.1) never))) ∙ ap Some i.1
  all_behind n (c ∷ d ∷ cs) a b x i shut never =
      ap (option_and_then (behind_all s t bh (d ∷ cs))) (ap (bh c) (sym i.0) ∙ goes_on n c d cs x) ∙ all_behind n (d ∷ cs) (after c) b (behind_first n c (d ∷ cs) x) i.1 shut never

  -- ## One node

  -- what the strand of a place has reached is behind its children
  abbrev Reaches : ℕ → Option A → Type 0
  Reaches n o = Shut n → IsNoBegin (s.want (reached n)) → o ≡ Some (reached n)

  may_leave : (n : ℕ) (o : Option A) → n < length t → Reaches n o → MayLeave s t e n o
  may_leave n o low reach = by e stands where
    there : (d : RecordEnd) (Is : A → Type 0) → Is (reached n) → o ≡ Some (reached n) → IsSome Is o
    there d Is x same = subst (IsSome Is) (sym same) x

    by : (d : RecordEnd) → EndStands s t before after reached d → MayLeave s t d n o
    by (Finished memory outputs) x = λ live. (let ended = x.1 n low live in let over = ended_over n ended in
        there (Finished memory outputs) (λ a. is_over (s.want a) ≡ true) over (reach (ended_shut n ended) (over_no_begin (s.want (reached n)) over)))
    by (Fault y kind) x = λ same.
        let P : ℕ → Type 0 = λ m. (s.want (reached m) ≡ want.Fault kind) × Shut m in
        let z = subst P (sym same) x in
        there (Fault y kind) (λ a. s.want a ≡ want.Fault kind) z.0 (reach z.1 (λ begin. let both = sym z.0 ∙ begin in cc both))
    by (Budget y) x = tt
    by Moves x = tt

  shut_last : (n : ℕ) → Shut n → (f : ℕ) → last_of (children t n) ≡ Some f → is_fork t f ≡ true → Joined f
  shut_last n shut f last = shut f (last_passing (is_child t n) (length t) ∙ last)

  last_in : (cs : List ℕ) (f : ℕ) → last_of cs ≡ Some f → In f cs
  last_in [] f e = absurd (cc e)
  last_in (x ∷ []) f e = inl (some_same f x (sym e))
  last_in (x ∷ y ∷ xs) f e = inr (last_in (y ∷ xs) f e)

  committed_shut : (n : ℕ) → is_committed t n ≡ true → Shut n
  committed_shut n sure f last fork =
      let i = last_in (children t n) f (sym (last_passing (is_child t n) (length t)) ∙ last) in
      let x = child_is t n f i in
      q.joined f x.there (and_from (is_fork t f) (has_later t f || is_committed t (parent_of t f)) fork (or_right (has_later t f) (is_committed t (parent_of t f)) (ap (is_committed t) x.parent ∙ sure)))

  joins_over : (r l : A) → is_over (s.want r) ≡ true → is_over (s.want l) ≡ true → joins s t (Some r) (Some l) ≡ Some (s.joined r l)
  joins_over r l x y = ap (λ b. cond b (Some (s.joined r l)) None) (and_from (is_over (s.want r)) (is_over (s.want l)) x y)

  place_no_fork : (n : ℕ) → (is_strand t n || is_block t n) ≡ true → is_fork t n ≡ true → ⊥
  place_no_fork n held fork = elim (or_cases (is_strand t n) (is_block t n) held) [
    | inl sure ↦ (let never = fork_no_strand t n fork in cc (sure, never))
    | inr sure ↦ (let never = fork_no_block t n fork in cc (sure, never))
  ]

  -- the children of a fork are strands
  strand_in : (f c : ℕ) → is_fork t f ≡ true → In c (children t f) → is_strand t c ≡ true
  strand_in f c fork i =
      let x = child_is t f c i in
      let (l, r, these, strands) = tree.forks f (fork_there t f fork) fork in
      let both = and_parts (is_strand t l) (is_strand t r) strands in
      let R : List ℕ → Type 0 = λ cs. In c cs in
      elim (subst R these i) [
        | inl same ↦ ap (is_strand t) same ∙ both.0
        | inr more ↦ elim more [ inl same ↦ ap (is_strand t) same ∙ both.1 | inr none ↦ absurd none ]
      ]

  -- what a node of this kind is
  record DidAs (n : ℕ) (k : Kind) (state : BlockState) : Type 0 where
    fits : IsWantedAs k (s.want (before n)) × FitsInside s t e bh Fit n k state (before n)
    goes : is_strand_kind k ≡ false → (is_fork_kind k ≡ true → Joined n) → (has_later t n ≡ true) ⊎ IsNoBegin (s.want (after n)) → behind_kind s t bh n k state (before n) ≡ Some (after n)
    ends : is_strand_kind k ≡ true → Shut n → IsNoBegin (s.want (reached n)) → behind_kind s t bh n k state (before n) ≡ Some (reached n)

  module _ (n : ℕ) (low : n < length t) (kids : (c : ℕ) → In c (children t n) → DidWell c) where
    no_strands : (is_strand t n || is_block t n) ≡ true → (c : ℕ) → In c (children t n) → is_strand t c ≡ false
    no_strands held c i =
        let x = child_is t n c i in
        elim (cases_Bool (is_strand t c)) [
          | inl sure ↦ (let fork = tree.strands c x.there x.some sure in let P : ℕ → Type 0 = λ p. is_fork t p ≡ true in absurd (place_no_fork n held (subst P x.parent fork)))
          | inr never ↦ never
        ]

    series : (is_strand t n || is_block t n) ≡ true → Series n (children t n)
    series held = record { rises = children_rise t n; within = λ c i. i; kinds = no_strands held; well = kids }

    module _ (held : (is_strand t n || is_block t n) ≡ true) (a : A) (start : entered s t before after reached n ≡ a) where
      runs : InSeries before after a (children t n) (reached n)
      runs = (let P : A → Type 0 = λ b. InSeries before after b (children t n) (reached n) in subst P start (q.series n low held))

      inner_fit : AllFit s t e bh Fit (children t n) (Some a)
      inner_fit = all_fit n (children t n) a (reached n) (series held) runs

      inner_reach : Reaches n (behind_all s t bh (children t n) a)
      inner_reach shut never = all_behind n (children t n) a (reached n) (series held) runs (shut_last n shut) never

    of_fork : is_fork t n ≡ true → s.want (before n) ≡ want.Fork → IsForkOf s t before after reached n (children t n) → (state : BlockState) → DidAs n Fork state
    of_fork fork wants starts state = record {
      fits = (
        wants,
        (
            let (l, r, these, strands) = tree.forks n low fork in
            let P : List ℕ → Type 0 = IsForkOf s t before after reached n in
            let z = subst P these starts in
            let Q : List ℕ → Type 0 = λ cs. BothFit s t e Fit cs (before n) in
            let R : ℕ → List ℕ → Type 0 = In in
            subst Q (sym these) (
              subst (Fit l) z.0 (kids l (subst (R l) (sym these) (inl refl))).fits,
              subst (Fit r) z.1 (kids r (subst (R r) (sym these) (inr (inl refl)))).fits,
            )),
      );
      goes = λ never join more. by (join refl);
      ends = λ sure. absurd (cc sure);
    } where
      by : Joined n → behind_both s t bh (children t n) (before n) ≡ Some (after n)
      by j =
          let P : List ℕ → Type 0 = IsForkOf s t before after reached n in
          let z = subst P j.strands starts in
          let R : ℕ → List ℕ → Type 0 = In in
          let il = subst (R j.left) (sym j.strands) (inl refl) in
          let ir = subst (R j.right) (sym j.strands) (inr (inl refl)) in
          let ol = ended_over j.left j.left_ended in
          let or = ended_over j.right j.right_ended in
          let el = (kids j.left il).ends (strand_in n j.left fork il) (ended_shut j.left j.left_ended) (over_no_begin _ ol) in
          let er = (kids j.right ir).ends (strand_in n j.right fork ir) (ended_shut j.right j.right_ended) (over_no_begin _ or) in
          ap (λ cs. behind_both s t bh cs (before n)) j.strands
          ∙ ap (λ o. joins s t o (bh j.left (s.left (before n)))) (ap (bh j.right) (sym z.1) ∙ er)
          ∙ ap (joins s t (Some (reached j.right))) (ap (bh j.left) (sym z.0) ∙ el)
          ∙ joins_over (reached j.right) (reached j.left) or ol
          ∙ ap Some (sym j.behind)

    -- where a block that was begun has its first node
    in_block : is_block t n ≡ true → entered s t before after reached n ≡ s.answer (before n) Nothing
    in_block sure = ap (λ b. cond b (s.answer (before n) Nothing) (before n)) sure

    in_strand : is_strand t n ≡ true → entered s t before after reached n ≡ before n
    in_strand sure = ap (λ b. cond b (s.answer (before n) Nothing) (before n)) (strand_no_block t n sure)

    of_strand : is_strand t n ≡ true → (state : BlockState) → DidAs n Strand state
    of_strand sure state =
        let held = or_left (is_strand t n) (is_block t n) sure in
        let reach = inner_reach held (before n) (in_strand sure) in
        record {
          fits = (tt, (inner_fit held (before n) (in_strand sure), may_leave n (behind_all s t bh (children t n) (before n)) low reach));
          goes = λ never. absurd (cc never);
          ends = λ sure. reach;
        }

    of_committed : is_block t n ≡ true → is_committed t n ≡ true → s.want (before n) ≡ want.Begin → IsClosed s t before after reached n Committed → DidAs n Block Committed
    of_committed sure done wants closed =
        let held = or_right (is_strand t n) (is_block t n) sure in
        let a = s.answer (before n) Nothing in
        let never : IsNoBegin (s.want (reached n)) = λ begin. (let ends = closed.0 in let both = sym ends ∙ begin in cc both) in
        let same : behind_all s t bh (children t n) a ≡ Some (reached n) = inner_reach held a (in_block sure) (committed_shut n done) never in
        let P : Option A → Type 0 = IsSome (λ b. s.want b ≡ want.End) in
        record {
          fits = (wants, (inner_fit held a (in_block sure), subst P (sym same) closed.0));
          goes = λ other join more. ap (option_map (λ b. s.answer b Nothing)) same ∙ ap Some (sym closed.1);
          ends = λ strand. absurd (cc strand);
        }

    -- a block that was not committed
    open_block : is_block t n ≡ true → s.want (before n) ≡ want.Begin → after n ≡ before n
        → IsWantedAs Block (s.want (before n)) × AllFit s t e bh Fit (children t n) (Some (s.answer (before n) Nothing)) × MayLeave s t e n (behind_all s t bh (children t n) (s.answer (before n) Nothing))
    open_block sure wants same =
        let held = or_right (is_strand t n) (is_block t n) sure in
        let a = s.answer (before n) Nothing in
        (wants, inner_fit held a (in_block sure), may_leave n (behind_all s t bh (children t n) a) low (inner_reach held a (in_block sure)))

    back_there : s.want (before n) ≡ want.Begin → after n ≡ before n → (has_later t n ≡ true) ⊎ IsNoBegin (s.want (after n)) → cond (has_later t n) (Some (before n)) None ≡ Some (after n)
    back_there wants same (inl more) = ap (λ b. cond b (Some (before n)) None) more ∙ ap Some (sym same)
    back_there wants same (inr never) = absurd (never (ap s.want same ∙ wants))

    of_kind : (k : Kind) (state : BlockState) → (is_strand t n ≡ is_strand_kind k) → (is_fork t n ≡ is_fork_kind k) → (is_block t n ≡ is_block_kind k)
        → (is_committed t n ≡ (is_block_kind k && is_committed_state state)) → IsWanted s t before after reached n k state → DidAs n k state
    of_kind Strand state es ef eb ec w = of_strand es state
    of_kind Fork state es ef eb ec w = of_fork ef w.0 w.1 state
    of_kind Block Committed es ef eb ec w = of_committed eb ec w.0 w.1
    of_kind Block Pending es ef eb ec w = (let z = open_block eb w.0 w.1 in record { fits = (z.0, (z.1, z.2)); goes = λ other join more. back_there w.0 w.1 more; ends = λ strand. absurd (cc strand) })
    of_kind Block Aborted es ef eb ec w = (let z = open_block eb w.0 w.1 in record { fits = (z.0, (z.1, z.2)); goes = λ other join more. back_there w.0 w.1 more; ends = λ strand. absurd (cc strand) })
    of_kind (Read c v) state es ef eb ec w = record { fits = (w.0, tt); goes = λ other join more. ap Some (sym w.1); ends = λ strand. absurd (cc strand) }
    of_kind (Write c v) state es ef eb ec w = record { fits = (w.0, tt); goes = λ other join more. ap Some (sym w.1); ends = λ strand. absurd (cc strand) }
    of_kind (Out v) state es ef eb ec w = record { fits = (w.0, tt); goes = λ other join more. ap Some (sym w.1); ends = λ strand. absurd (cc strand) }
    of_kind (Cancel back) state es ef eb ec w = record { fits = (w.0, tt); goes = λ other join more. ap Some (sym w.1); ends = λ strand. absurd (cc strand) }
    of_kind (Tried c) state es ef eb ec w = record { fits = (w.0, tt); goes = λ other join more. ap Some (sym w.1); ends = λ strand. absurd (cc strand) }

    did_well : DidWell n
    did_well = by (slice_get t n) refl where
      by : (o : Option Node) → slice_get t n ≡ o → DidWell n
      by None at = absurd (let some = slice_get-get_or t n (fresh_node 0 Strand 0) low in cc (some, at))
      by (Some x) at =
          let did = of_kind x.kind x.state (ap (passes (λ y. is_strand_kind y.kind)) at) (ap (passes (λ y. is_fork_kind y.kind)) at) (ap (passes (λ y. is_block_kind y.kind)) at) (ap (passes (λ y. is_block_kind y.kind && is_committed_state y.state)) at) (q.fits n x at) in
          let step : bh n (before n) ≡ behind_kind s t bh n x.kind x.state (before n) = behind_is s t tree.rooted n (before n) ∙ ap (λ o. behind_node s t bh n o (before n)) at in
          let P : Option Node → Type 0 = λ o. FitsNode s t e bh Fit n o (before n) in
          record {
            fits = fits_from s t e tree.rooted n (before n) (subst P (sym at) did.fits);
            goes = λ other join more. step ∙ did.goes (sym (ap (passes (λ y. is_strand_kind y.kind)) at) ∙ other) (λ fork. join (ap (passes (λ y. is_fork_kind y.kind)) at ∙ fork)) more;
            ends = λ strand shut never. step ∙ did.ends (sym (ap (passes (λ y. is_strand_kind y.kind)) at) ∙ strand) shut never;
          }

  all_did : (k n : ℕ) → length t ≤ n + k → n < length t → DidWell n
  all_did zero n enough low = absurd (omega arith)
  all_did (suc k) n enough low =
      did_well n low (λ c i.
      let x = child_is t n c i in
      let less = tree.rooted c x.some x.there in
      let up = x.parent in
      all_did k c (omega arith) x.there)

  pub main_fits : Fit 0 s.start
  main_fits = subst (Fit 0) q.start (all_did (length t) 0 (omega arith) tree.some).fits
