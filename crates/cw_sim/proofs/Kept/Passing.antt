-- By the states of a coherent tree a strand goes past each node that is no open fork, and through each that has no open fork at its end: what
-- is begun in it is ended in it.
use Rattle.std.proofs.Common.{◌≡◌, ℕ, zero, suc, ◌+◌, ◌<◌, ◌≤◌, List, [], ◌∷◌, length, refl, ap, sym, ◌∙◌, subst, arith, Bool, true, false, cond, Option, Some, None, inl, inr, nat_eq, nat_lt}
use Rattle.std.specs.Prelude.{◌&&◌, ◌||◌, slice_get}
use Rattle.std.proofs.lemmas.Bool.{and_parts, and_from, or_left, or_right, not-true, cases_eq, cases_lt, eq-eqb, eqb-true, lt-ltb, false_from_ne_true}
use Rattle.std.proofs.lemmas.Option.{slice_get_cases}
use Rattle.cw_strand.specs.declared.want.Want.TheVariants as want
use Rattle.cw_strand.specs.declared.want.Given.TheVariants.{Nothing, Value, Back}
use Rattle.cw_strand.specs.Strands.{Strands, is_over, GoesTo, stays, joins}
use Rattle.cw_tree.specs.declared.node.Node.{Node}
use Rattle.cw_tree.specs.declared.node.Kind.{Kind}
use Rattle.cw_tree.specs.declared.node.Kind.TheVariants.{Strand, Fork, Block, Read, Write, Out, Cancel, Tried}
use Rattle.cw_tree.specs.declared.node.BlockState.{BlockState}
use Rattle.cw_tree.specs.declared.node.BlockState.TheVariants.{Pending, Committed, Aborted}
use Rattle.cw_tree.specs.Nodes.{passes, is_strand_kind, is_fork_kind, is_block_kind, is_committed_state, parent_of, is_strand, is_fork, is_block, is_committed}
use Rattle.cw_tree.specs.Cancels.{NamesCells, names_cells}
use Rattle.cw_tree.specs.Series.{children, has_later}
use Rattle.cw_tree.specs.Shape.{IsTree}
use Rattle.cw_tree.specs.Links.{is_child, last_child}
use Rattle.cw_tree.proofs.Cancels.{passes_at}
use Rattle.cw_tree.proofs.Lists.{In}
use Rattle.cw_tree.proofs.Walks.Children.{last_passes}
use Rattle.cw_tree.proofs.InOrder.DepthFirst.{IsChild, child_is}
use Rattle.cw_tree.proofs.NextNodes.Trees.{no_fork}
use Rattle.cw_tree.proofs.Walks.Kin.{fork_child}
use Rattle.cw_tree.proofs.NodeKinds.{strand_no_block}
use Rattle.cw_tree.proofs.LastBelow.{last_is, none_is}
use Rattle.cw_open.proofs.Open.Staying.{is_later}
use Rattle.cw_record.specs.Coherent.{entered, IsWanted, IsForkOf, StrandEnded, alone, joined, IsJoined, HasNoOpenFork, Follows}
use Rattle.cw_sim.proofs.Kept.Elements.{elements_named}
use Rattle.cw_sim.proofs.Kept.Onward.{goes_on, answers, Passes, passes_all}

module _ {A : Type 0} (s : Strands A) (t : List Node) (before after reached : ℕ → A) (tree : IsTree t) (f : Follows s t before after reached) (cells : ℕ) (are : cells ≤ s.elements) (named : NamesCells t cells) where
  abbrev Joined : ℕ → Type 0
  Joined = IsJoined s t before after reached

  abbrev NoneOpen : ℕ → Type 0
  NoneOpen = HasNoOpenFork s t before after reached

  abbrev Ended : ℕ → Type 0
  Ended = StrandEnded s t before after reached

  abbrev enters : ℕ → A
  enters = entered s t before after reached

  abbrev holds : ℕ → Bool
  holds n = is_strand t n || is_block t n

  abbrev Goes : A → A → Type 0
  Goes = Passes s

  -- ## Which forks are joined

  test : (n c : ℕ) → IsChild t n c → is_child t n c ≡ true
  test n c child = and_from (nat_lt 0 c) (nat_eq (parent_of t c) n) (lt-ltb 0 c child.some) (eq-eqb (parent_of t c) n child.parent)

  later_joined : (c d : ℕ) → 0 < c → c < d → d < length t → parent_of t d ≡ parent_of t c → is_fork t c ≡ true → Joined c
  later_joined c d some less low same fork =
      f.joined c (omega arith) (and_from (is_fork t c) (has_later t c || is_committed t (parent_of t c)) fork (or_left (has_later t c) (is_committed t (parent_of t c)) (is_later t c d (record { less = less; there = low; same = same }))))

  -- those in a node that has no open fork at its end
  child_joined : (n c : ℕ) → IsChild t n c → NoneOpen n → is_fork t c ≡ true → Joined c
  child_joined n c child none fork = by (last_child t n) refl where
    by : (o : Option ℕ) → last_child t n ≡ o → Joined c
    by None e = absurd (let yes = test n c child in let no = none_is (is_child t n) (length t) c e child.there in cc (yes, no))
    by (Some d) e =
        let last = last_is (is_child t n) (length t) d e in
        elim (cases_eq d c) [
          | inl same ↦ none c (e ∙ ap Some same) fork
          | inr ne ↦ elim (cases_lt c d) [
            | inl less ↦ later_joined c d child.some less last.low (eqb-true (parent_of t d) n (and_parts (nat_lt 0 d) (nat_eq (parent_of t d) n) last.passes).1 ∙ sym child.parent) fork
            | inr le ↦ absurd (let yes = test n c child in let no = last.none c (omega arith) child.there in cc (yes, no))
          ]
        ]

  ended_over : (x : ℕ) → Ended x → is_over (s.want (reached x)) ≡ true
  ended_over x (alone over none) = over
  ended_over x (joined over last fork kids l r behind) = over

  ended_none : (x : ℕ) → Ended x → NoneOpen x
  ended_none x (alone over none) g e fork = absurd (let no = not-true (is_fork t g) (none g e) in cc (fork, no))
  ended_none x (joined {f = h} {l = l} {r = r} over last is kids left right behind) g e fork =
      let same : h ≡ g = cc (last, e) in
      subst Joined same (record { left = l; right = r; strands = kids; left_ended = left; right_ended = right; behind = behind })

  committed_none : (n : ℕ) → is_committed t n ≡ true → NoneOpen n
  committed_none n committed g e fork =
      let z = last_passes (is_child t n) (length t) g e in
      let up = eqb-true (parent_of t g) n (and_parts (nat_lt 0 g) (nat_eq (parent_of t g) n) z.1).1 in
      f.joined g z.0 (and_from (is_fork t g) (has_later t g || is_committed t (parent_of t g)) fork (or_right (has_later t g) (is_committed t (parent_of t g)) (ap (is_committed t) up ∙ committed)))

  child_plain : (n c : ℕ) → IsChild t n c → holds n ≡ true → is_strand t c ≡ false
  child_plain n c child is =
      false_from_ne_true (is_strand t c) (λ e.
      let yes = ap (is_fork t) (sym child.parent) ∙ tree.strands c child.there child.some e in
      let no = no_fork t n is in
      absurd (cc (yes, no)))

  -- ## Past a node

  pub entered_block : (n : ℕ) → is_block t n ≡ true → enters n ≡ s.answer (before n) Nothing
  entered_block n e = ap (λ b. cond b (s.answer (before n) Nothing) (before n)) e

  pub entered_other : (n : ℕ) → is_block t n ≡ false → enters n ≡ before n
  entered_other n e = ap (λ b. cond b (s.answer (before n) Nothing) (before n)) e

  module _ (n : ℕ) (low : n < length t) (plain : is_strand t n ≡ false) (fork : is_fork t n ≡ true → Joined n)
      (within : (y : ℕ) → n ≤ y → y < length t → holds y ≡ true → NoneOpen y → Goes (enters y) (reached y)) where
    stays_there : after n ≡ before n → Goes (before n) (after n)
    stays_there e b bs = (let P : A → Type 0 = λ x. GoesTo s (b ∷ bs) (before n) (b ∷ bs) x in subst P (sym e) stays)

    past_block : is_block t n ≡ true → is_committed t n ≡ true → s.want (before n) ≡ want.Begin → s.want (reached n) ≡ want.End → after n ≡ s.answer (reached n) Nothing → Goes (before n) (after n)
    past_block block committed begins ends e b bs =
        let inside = within n (omega arith) low (or_right (is_strand t n) (is_block t n) block) (committed_none n committed) (suc b) bs in
        let P : A → Type 0 = λ x. GoesTo s (suc b ∷ bs) x (suc b ∷ bs) (reached n) in
        goes_on s (goes_on s (answers s want.Begin (b ∷ bs) (before n) (s.answer (before n) Nothing) Nothing begins tt refl) (subst P (entered_block n block) inside)) (answers s want.End (suc b ∷ bs) (reached n) (after n) Nothing ends tt e)

    past_fork : is_fork t n ≡ true → s.want (before n) ≡ want.Fork → IsForkOf s t before after reached n (children t n) → Goes (before n) (after n)
    past_fork is forks kids b bs =
        let j = fork is in
        let P : List ℕ → Type 0 = IsForkOf s t before after reached n in
        let Q : A → Type 0 = λ x. GoesTo s (b ∷ bs) (before n) (b ∷ bs) x in
        let both = subst P j.strands kids in
        let R : ℕ → List ℕ → Type 0 = In in
        let left = child_is t n j.left (subst (R j.left) (sym j.strands) (inl refl)) in
        let right = child_is t n j.right (subst (R j.right) (sym j.strands) (inr (inl refl))) in
        subst Q (sym j.behind)
        (joins stays forks (side j.left left (s.left (before n)) both.0 j.left_ended 0 []) (ended_over j.left j.left_ended) (side j.right right (s.right (before n)) both.1 j.right_ended 0 (b ∷ bs)) (ended_over j.right j.right_ended)) where
          side : (x : ℕ) → IsChild t n x → (a : A) → before x ≡ a → Ended x → Goes a (reached x)
          side x child a begins ended m ms =
              let strand = fork_child t tree x child.some child.there (ap (is_fork t) child.parent ∙ is) in
              let up = child.parent in
              let less = tree.rooted x child.some child.there in
              let P : A → Type 0 = λ c. GoesTo s (m ∷ ms) c (m ∷ ms) (reached x) in
              subst P (entered_other x (strand_no_block t x strand) ∙ begins) (within x (omega arith) child.there (or_left (is_strand t x) (is_block t x) strand) (ended_none x ended) m ms)

    past_kind : (k : Kind) (state : BlockState) → is_strand t n ≡ is_strand_kind k → is_fork t n ≡ is_fork_kind k → is_block t n ≡ is_block_kind k → is_committed t n ≡ (is_block_kind k && is_committed_state state) → names_cells cells k ≡ true → IsWanted s t before after reached n k state
        → Goes (before n) (after n)
    past_kind Strand state a b c d e w = absurd (cc (a, plain))
    past_kind Fork state a b c d e w = past_fork b w.0 w.1
    past_kind Block Committed a b c d e w = past_block c d w.0 w.1.0 w.1.1
    past_kind Block Pending a b c d e w = stays_there w.1
    past_kind Block Aborted a b c d e w = stays_there w.1
    past_kind (Read cell v) state a b c d e w = λ m ms. answers s (want.Load cell) (m ∷ ms) (before n) (after n) (Value v) w.0 tt w.1
    past_kind (Write cell v) state a b c d e w = λ m ms. answers s (want.Store cell v) (m ∷ ms) (before n) (after n) Nothing w.0 tt w.1
    past_kind (Out v) state a b c d e w = λ m ms. answers s (want.Out v) (m ∷ ms) (before n) (after n) Nothing w.0 tt w.1
    past_kind (Cancel back) state a b c d e w = λ m ms. answers s want.Cancel (m ∷ ms) (before n) (after n) (Back back) w.0 (elements_named cells s.elements are back e) w.1
    past_kind (Tried cell) state a b c d e w = stays_there w.1

    past : Goes (before n) (after n)
    past = elim (slice_get_cases t n).1 [ inl c ↦ there c.0 c.2 | inr c ↦ absurd (omega (arith, low, c.0)) ] where
      there : (x : Node) → slice_get t n ≡ Some x → Goes (before n) (after n)
      there x e =
          past_kind x.kind x.state (ap (passes (λ y. is_strand_kind y.kind)) e) (ap (passes (λ y. is_fork_kind y.kind)) e) (ap (passes (λ y. is_block_kind y.kind)) e)
          (ap (passes (λ y. is_block_kind y.kind && is_committed_state y.state)) e) (passes_at (λ y. names_cells cells y.kind) t n x named e) (f.fits n x e)

  -- ## Through a node

  through_to : (k n : ℕ) → length t ≤ n + k → n < length t → holds n ≡ true → NoneOpen n → Goes (enters n) (reached n)
  through_to zero n le low is none = absurd (omega arith)
  through_to (suc k) n le low is none =
      passes_all s before after (children t n) (enters n) (reached n)
      (λ c i.
      let child = child_is t n c i in
      let up = child.parent in
      let less = tree.rooted c child.some child.there in
      past c child.there (child_plain n c child is) (child_joined n c child none) (λ y h. through_to k y (omega arith)))
      (f.series n low is)

  -- from its begin to what was reached in it
  pub through : (n : ℕ) → n < length t → holds n ≡ true → NoneOpen n → Goes (enters n) (reached n)
  through n = through_to (length t) n (omega arith)

  -- a sibling that is not the last, in a strand or block, is passed
  pub past_earlier : (n c d : ℕ) → holds n ≡ true → IsChild t n c → IsChild t n d → c < d → Goes (before c) (after c)
  past_earlier n c d is child later less = past c child.there (child_plain n c child is) (later_joined c d child.some less later.there (later.parent ∙ sym child.parent)) (λ y h. through y)
