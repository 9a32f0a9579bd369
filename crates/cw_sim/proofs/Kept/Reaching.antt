-- By the states of a coherent tree each strand of it is one to which a run comes, and in each of its nodes stands where a run comes to: in each
-- node that is begun, and at the end of each that has no open fork there.
use Rattle.std.proofs.Common.{◌≡◌, ℕ, zero, suc, ◌<◌, ◌≤◌, List, [], ◌∷◌, ◌++◌, length, refl, ap, sym, ◌∙◌, subst, arith, Bool, true, false, Option, Some, None, inl, inr, nat_eq, nat_lt, append_assoc}
use Rattle.std.specs.Prelude.{◌||◌, slice_get}
use Rattle.std.specs.List.{filter}
use Rattle.std.proofs.lemmas.Bool.{and_parts, and_from, or_cases, or_left, or_right, eq-eqb, eqb-true, lt-ltb, ltb-true, false_from_ne_true, cases_Bool}
use Rattle.std.proofs.lemmas.List.Elements.{filter-append}
use Rattle.cw_strand.specs.declared.want.Want.TheVariants as want
use Rattle.cw_strand.specs.declared.want.Given.TheVariants.{Nothing}
use Rattle.cw_strand.specs.Strands.{Strands, GoesTo, stays, Reached, of_main, of_left, of_right, own_after}
use Rattle.cw_tree.specs.declared.node.Node.{Node}
use Rattle.cw_tree.specs.declared.node.Kind.{Kind}
use Rattle.cw_tree.specs.declared.node.Kind.TheVariants.{Fork, Block}
use Rattle.cw_tree.specs.declared.node.BlockState.{BlockState}
use Rattle.cw_tree.specs.Nodes.{passes, is_fork_kind, is_block_kind, parent_of, is_strand, is_fork, is_block, below}
use Rattle.cw_tree.specs.Cancels.{NamesCells}
use Rattle.cw_tree.specs.Series.{children}
use Rattle.cw_tree.specs.Shape.{IsTree}
use Rattle.cw_tree.specs.Links.{is_child}
use Rattle.cw_tree.proofs.Lists.{In, at_or_before}
use Rattle.cw_tree.proofs.Members.{in_filter, in_below, below_last}
use Rattle.cw_tree.proofs.Walks.Climbs.{by_parent}
use Rattle.cw_tree.proofs.Walks.Kin.{fork_child}
use Rattle.cw_tree.proofs.NodeKinds.{strand_no_block, fork_no_block}
use Rattle.cw_record.specs.Coherent.{InSeries, entered, IsWanted, IsForkOf, HasNoOpenFork, Follows}
use Rattle.cw_sim.proofs.Kept.Halves.{AsMade, which}
use Rattle.cw_sim.proofs.Kept.Levels.{levels, some_levels, levels_left, levels_right, levels_other, levels_block}
use Rattle.cw_sim.proofs.Kept.Onward.{reached_on, answers, Passes, passes_all}
use Rattle.cw_sim.proofs.Kept.Passing.{entered_block, entered_other, through, past_earlier}

-- the numbers that pass a test, up to one of them, and from it on
filter_split : (p : ℕ → Bool) (n k : ℕ) → n < k → p n ≡ true → (rest : List ℕ) × (filter p (below k) ≡ filter p (below n) ++ n ∷ rest)
filter_split p n zero h e = absurd (omega arith)
filter_split p n (suc k) h e =
    elim (at_or_before n k h) [
      | inl less ↦
          (let (rest, q) = filter_split p n k less e in (
            rest ++ filter p (k ∷ []),
            filter-append p (below k) (k ∷ []) ∙ ap (λ xs. xs ++ filter p (k ∷ [])) q ∙ append_assoc (filter p (below n)) (n ∷ rest) (filter p (k ∷ [])),
          ))
      | inr same ↦ (let none : List ℕ = [] in (none, ap (λ m. filter p (below (suc m))) same ∙ below_last p n (suc n) (omega arith) e (λ m a b. absurd (omega arith))))
    ]

module _ {A : Type 0} (s : Strands A) (t : List Node) (before after reached : ℕ → A) (tree : IsTree t) (f : Follows s t before after reached) (cells : ℕ) (are : cells ≤ s.elements) (named : NamesCells t cells) (made : AsMade t) where
  abbrev enters : ℕ → A
  enters = entered s t before after reached

  abbrev Goes : A → A → Type 0
  Goes = Passes s

  -- ## What is wanted

  fork_wanted : (n : ℕ) → is_fork t n ≡ true → (s.want (before n) ≡ want.Fork) × IsForkOf s t before after reached n (children t n)
  fork_wanted n = by (slice_get t n) refl where
    by_kind : (k : Kind) (state : BlockState) → is_fork_kind k ≡ true → IsWanted s t before after reached n k state → (s.want (before n) ≡ want.Fork) × IsForkOf s t before after reached n (children t n)
    by_kind Fork state e w = w
    by_kind _ state e w = absurd (cc e)

    by : (o : Option Node) → slice_get t n ≡ o → passes (λ x. is_fork_kind x.kind) o ≡ true → (s.want (before n) ≡ want.Fork) × IsForkOf s t before after reached n (children t n)
    by None g e = absurd (cc e)
    by (Some x) g e = by_kind x.kind x.state e (f.fits n x g)

  block_wanted : (n : ℕ) → is_block t n ≡ true → s.want (before n) ≡ want.Begin
  block_wanted n = by (slice_get t n) refl where
    by_kind : (k : Kind) (state : BlockState) → is_block_kind k ≡ true → IsWanted s t before after reached n k state → s.want (before n) ≡ want.Begin
    by_kind Block state e w = w.0
    by_kind _ state e w = absurd (cc e)

    by : (o : Option Node) → slice_get t n ≡ o → passes (λ x. is_block_kind x.kind) o ≡ true → s.want (before n) ≡ want.Begin
    by None g e = absurd (cc e)
    by (Some x) g e = by_kind x.kind x.state e (f.fits n x g)

  -- ## In each node

  -- on in node n
  further : (n : ℕ) → n < length t → (a b : A) → Reached s (levels t n) a → Goes a b → Reached s (levels t n) b
  further n low a b come goes =
      let own = some_levels t tree.rooted n low in
      let P : List ℕ → Type 0 = λ ns. GoesTo s ns a ns b in
      reached_on s come (subst P (sym own.is) (goes own.head own.rest))

  front : (xs ys : List ℕ) (n : ℕ) (a b : A) → InSeries before after a (xs ++ n ∷ ys) b → InSeries before after a xs (before n)
  front [] ys n a b e = sym e.0
  front (x ∷ xs) ys n a b e = (e.0, front xs ys n (after x) b e.1)

  -- up to a child of a strand or block
  module _ (n : ℕ) (some : 0 < n) (low : n < length t) (is : (is_strand t (parent_of t n) || is_block t (parent_of t n)) ≡ true) where
    abbrev q : ℕ
    q = parent_of t n

    less : q < n
    less = tree.rooted n some low

    test : is_child t q n ≡ true
    test = and_from (nat_lt 0 n) (nat_eq q q) (lt-ltb 0 n some) (eq-eqb q q refl)

    earlier : (c : ℕ) → In c (filter (is_child t q) (below n)) → Goes (before c) (after c)
    earlier c i =
        let z = in_filter (is_child t q) c (below n) i in
        let y = and_parts (nat_lt 0 c) (nat_eq (parent_of t c) q) z.1 in
        let under : c < n = in_below c n z.0 in
        past_earlier s t before after reached tree f cells are named q c n is
        (record { some = ltb-true 0 c y.0; there = omega arith; parent = eqb-true (parent_of t c) q y.1 })
        (record { some = some; there = low; parent = refl }) under

    to_child : Goes (enters q) (before n)
    to_child =
        let h = less in
        let (rest, e) = filter_split (is_child t q) n (length t) low test in
        let P : List ℕ → Type 0 = λ cs. InSeries before after (enters q) cs (reached q) in
        let own = front (filter (is_child t q) (below n)) rest n (enters q) (reached q) (subst P e (f.series q (omega arith) is)) in
        passes_all s before after (filter (is_child t q) (below n)) (enters q) (before n) earlier own

  module _ (n : ℕ) (some : 0 < n) (low : n < length t) (up : Reached s (levels t (parent_of t n)) (enters (parent_of t n))) where
    abbrev p : ℕ
    p = parent_of t n

    abbrev Here : Type 0
    Here = Reached s (levels t n) (enters n)

    -- a strand of a fork
    in_strand : is_fork t p ≡ true → Here
    in_strand fork =
        let strand = fork_child t tree n some low fork in
        let (forks, kids) = fork_wanted p fork in
        let P : List ℕ → Type 0 = IsForkOf s t before after reached p in
        let both = subst P (made p fork) kids in
        let Q : A → Type 0 = λ a. Reached s (levels t p) a in
        let stood = subst Q (entered_other s t before after reached tree f cells are named p (fork_no_block t p fork)) up in
        let here = entered_other s t before after reached tree f cells are named n (strand_no_block t n strand) in
        let R : List ℕ → Type 0 = λ own. Reached s own (enters n) in
        elim (which t tree made p fork n some low refl) [
          | inl left ↦
              (let own : List ℕ = 0 ∷ [] in
              let S : A → Type 0 = λ a. Reached s own a in
              subst R (sym (levels_left t tree.rooted n some low strand left)) (subst S (sym (here ∙ ap before left ∙ both.0)) (of_left stood forks stays)))
          | inr right ↦
              (let own : List ℕ = 0 ∷ levels t p in
              let S : A → Type 0 = λ a. Reached s own a in
              subst R (sym (levels_right t tree.rooted n some low strand (λ left. omega (arith, left, right)))) (subst S (sym (here ∙ ap before right ∙ both.1)) (of_right stood forks stays)))
        ]

    -- a node in a strand or block
    module _ (other : is_fork t p ≡ false) where
      is_home : (is_strand t p || is_block t p) ≡ true
      is_home = elim (or_cases (is_strand t p || is_fork t p) (is_block t p) (tree.parents n low some)) [
        | inr block ↦ or_right (is_strand t p) (is_block t p) block
        | inl z ↦ elim (or_cases (is_strand t p) (is_fork t p) z) [ inl strand ↦ or_left (is_strand t p) (is_block t p) strand | inr fork ↦ absurd (cc (fork, other)) ]
      ]

      plain : is_strand t n ≡ false
      plain = false_from_ne_true (is_strand t n) (λ e. absurd (let fork = tree.strands n low some e in cc (fork, other)))

      comes : Reached s (levels t p) (before n)
      comes = let less = tree.rooted n some low in further p (omega arith) (enters p) (before n) up (to_child n some low is_home)

      in_home : Here
      in_home =
          let P : List ℕ → Type 0 = λ own. Reached s own (enters n) in
          elim (cases_Bool (is_block t n)) [
            | inl block ↦
                (let own : List ℕ = own_after want.Begin (levels t p) in
                let Q : A → Type 0 = λ a. Reached s own a in
                let there = reached_on s comes (answers s want.Begin (levels t p) (before n) (s.answer (before n) Nothing) Nothing (block_wanted n block) tt refl) in
                subst P (sym (levels_block t tree.rooted n some low plain block)) (subst Q (sym (entered_block s t before after reached tree f cells are named n block)) there))
            | inr none ↦
                (let Q : A → Type 0 = λ a. Reached s (levels t p) a in
                subst P (sym (levels_other t tree.rooted n some low plain none)) (subst Q (sym (entered_other s t before after reached tree f cells are named n none)) comes))
          ]

  root_reached : Reached s (levels t 0) (enters 0)
  root_reached =
      let own : List ℕ = 0 ∷ [] in
      let P : A → Type 0 = λ a. Reached s own a in
      subst P (sym (entered_other s t before after reached tree f cells are named 0 (strand_no_block t 0 tree.root) ∙ f.start)) (of_main stays)

  -- where a node is begun
  pub entered_reached : (n : ℕ) → n < length t → Reached s (levels t n) (enters n)
  entered_reached =
      by_parent t tree.rooted (λ n. Reached s (levels t n) (enters n)) root_reached
      (λ n some low up. elim (cases_Bool (is_fork t (parent_of t n))) [ inl fork ↦ in_strand n some low up fork | inr other ↦ in_home n some low up other ])

  -- at the end of a node that has no open fork there
  pub end_reached : (n : ℕ) → n < length t → (is_strand t n || is_block t n) ≡ true → HasNoOpenFork s t before after reached n → Reached s (levels t n) (reached n)
  end_reached n low is none = further n low (enters n) (reached n) (entered_reached n low) (through s t before after reached tree f cells are named n low is none)
