-- A running strand forks: the states around the fork and its strands, and where strands stand.
use Rattle.std.proofs.Common.{◌≡◌, ◌≢◌, ℕ, suc, ◌+◌, ◌<◌, ◌≤◌, List, [], ◌∷◌, ◌++◌, length, refl, ap, sym, ◌∙◌, subst, arith, Bool, true, false, cond, inl, inr, Some, nat_eq, length-append, append_assoc}
use Rattle.std.specs.Prelude.{◌⊎◌, ◌&&◌, ◌||◌, slice_get, unwrap_or}
use Rattle.std.proofs.lemmas.Bool.{and_left, and_right, cases_eq, cases_lt, ne_eqb, false_from_ne_true}
use Rattle.std.proofs.lemmas.Option.{slice_get_within, same_Some}
use Rattle.cw_strand.specs.declared.want.Want.TheVariants as want
use Rattle.cw_strand.specs.declared.want.Given.TheVariants.{Nothing}
use Rattle.cw_strand.specs.Strands.{Strands}
use Rattle.cw_tree.specs.declared.node.Node.{Node}
use Rattle.cw_tree.specs.declared.node.Kind.TheVariants.{Strand, Fork}
use Rattle.cw_tree.specs.Nodes.{passes, is_strand_kind, is_fork_kind, is_block_kind, is_pending_state, is_strand, is_fork, is_block, is_pending, fresh_node}
use Rattle.cw_tree.specs.Walks.{has}
use Rattle.cw_tree.specs.Series.{strand_of, children, place}
use Rattle.cw_tree.specs.Shape.{IsTree}
use Rattle.cw_tree.specs.NextNodes.{fork_nodes}
use Rattle.cw_tree.proofs.NextNodes.Growing.{get_append, get_next, length_more, node_grown, number_grown, rooted_more, strand_of_grown, strand_of_new}
use Rattle.cw_tree.proofs.Walks.Strands.{strand_of_le}
use Rattle.cw_tree.proofs.Walks.There.{fork_there, strand_there}
use Rattle.cw_tree.proofs.LastBelow.{last_past}
use Rattle.cw_open.specs.Machine.{is_running}
use Rattle.cw_open.proofs.Laws.ListSteps.{none_new}
use Rattle.cw_open.proofs.Open.Standing.{is_begun_in}
use Rattle.cw_open.proofs.Open.Trees.{IsWell}
use Rattle.cw_core.proofs.Kept.ForkTails.{place_children, fork_children, other_children, no_children}
use Rattle.cw_core.proofs.Events.Places.{place_grown, waits_for}
use Rattle.cw_record.specs.Coherent.{InSeries, IsForkOf, IsWanted, entered}
use Rattle.cw_record.proofs.Coherent.AddedStates.{state_same, state_other}
use Rattle.cw_sim.specs.Workers.{Simulation, left_node, right_node, changed_at, tree}
use Rattle.cw_sim.specs.Kept.{AreStanding, HasStates}
use Rattle.cw_sim.proofs.Kept.StatesKept.{AllStates, Stay, MayChange, AreNew, states_kept, series_with_new}
use Rattle.cw_sim.proofs.Kept.PlacedKept.{Elsewhere, AreHere, current_is, standing_kept}
use Rattle.cw_sim.proofs.Kept.PlacedRunning.{running_place, running_own, running_strand, running_none, running_holds, running_may, running_stands}

-- strand o forks: the strands of fork g stand so, and all others as in f
abbrev pub halves : {A : Type 0} → Strands A → (g : ℕ) → A → (ℕ → A) → ℕ → A
halves s g a f = changed_at (left_node g) (s.left a) (changed_at (right_node g) (s.right a) f)

abbrev pub with_fork : {A : Type 0} → Strands A → Simulation A → (o st : ℕ) → Simulation A
with_fork s m o st = record m { core = record m.core { machine = record m.core.machine { tree = tree m ++ fork_nodes (length (tree m)) (place (tree m) o) st } }; at = halves s (length (tree m)) (m.at o) m.at }

module _ {A : Type 0} (s : Strands A) (m : Simulation A) (w : IsWell m.core.machine) (forks : (f : ℕ) → has m.core.machine.joined f ≡ true → is_fork (tree m) f ≡ true) (o : ℕ) (running : is_running m.core.machine o ≡ true) (st : ℕ) (x : AllStates A) where
  abbrev t : List Node
  t = tree m

  abbrev p : ℕ
  p = place t o

  -- the fork, and the state of its strand
  abbrev g : ℕ
  g = length t

  abbrev a : A
  a = m.at o

  abbrev xs : List Node
  xs = fork_nodes g p st

  abbrev u : List Node
  u = t ++ xs

  abbrev z : Simulation A
  z = with_fork s m o st

  abbrev forked : (ℕ → A) → ℕ → A
  forked = halves s g a

  abbrev y : AllStates A
  y = record { before = changed_at g a (forked x.before); after = changed_at g a x.after; reached = forked x.reached }

  shape : IsTree t
  shape = w.sound.tree

  there : p < g
  there = running_place m.core.machine w o running

  own_low : o < g
  own_low = strand_there t o (running_strand m.core.machine w o running)

  len : length u ≡ g + 3
  len = length-append t xs

  -- ## The new nodes

  abbrev fork_node : Node
  fork_node = fresh_node p Fork st

  abbrev half : Node
  half = fresh_node g Strand 0

  abbrev one : List Node
  one = t ++ fork_node ∷ []

  abbrev two : List Node
  two = one ++ half ∷ []

  in_turn : u ≡ one ++ half ∷ half ∷ []
  in_turn = sym (append_assoc t (fork_node ∷ []) (half ∷ half ∷ []))

  get_left : slice_get u (left_node g) ≡ Some half
  get_left =
      let at : left_node g ≡ length one = omega (arith, length_more t fork_node) in
      ap (slice_get u) at ∙ ap (λ v. slice_get v (length one)) in_turn ∙ get_next one half (half ∷ [])

  get_right : slice_get u (right_node g) ≡ Some half
  get_right =
      let at : right_node g ≡ length two = omega (arith, length_more t fork_node, length_more one half) in
      ap (slice_get u) at ∙ ap (λ v. slice_get v (length two)) (in_turn ∙ sym (append_assoc one (half ∷ []) (half ∷ []))) ∙ get_next two half []

  which_new : (n : ℕ) → g < n → n < length u → (n ≡ left_node g) ⊎ (n ≡ right_node g)
  which_new n more low = elim (cases_eq n (left_node g)) [ inl e ↦ inl e | inr ne ↦ inr (omega (arith, len, ne)) ]

  get_half : (n : ℕ) → g < n → n < length u → slice_get u n ≡ Some half
  get_half n more low = elim (which_new n more low) [ inl e ↦ ap (slice_get u) e ∙ get_left | inr e ↦ ap (slice_get u) e ∙ get_right ]

  fork_here : is_fork u g ≡ true
  fork_here = ap (passes (λ i. is_fork_kind i.kind)) (get_next t fork_node (half ∷ half ∷ []))

  fork_only : (f : ℕ) → g ≤ f → is_fork u f ≡ true → f ≡ g
  fork_only f le e = elim (cases_eq f g) [
    | inl q ↦ q
    | inr ne ↦ absurd (let no = ap (passes (λ i. is_fork_kind i.kind)) (get_half f (omega arith) (fork_there u f e)) in cc (e, no))
  ]

  strand_past : (n : ℕ) → g ≤ n → is_strand u n ≡ true → g < n
  strand_past n le e = elim (cases_eq n g) [
    | inl q ↦ absurd (let no = ap (passes (λ i. is_strand_kind i.kind)) (get_next t fork_node (half ∷ half ∷ [])) in cc (e, ap (is_strand u) q, no))
    | inr ne ↦ omega arith
  ]

  no_block : (n : ℕ) → g ≤ n → is_block u n ≡ false
  no_block n le = none_new (λ i. is_block_kind i.kind) t xs n refl le

  no_pending : (n : ℕ) → g ≤ n → is_pending u n ≡ false
  no_pending n le = none_new (λ i. is_block_kind i.kind && is_pending_state i.state) t xs n refl le

  own_new : strand_of u g ≡ o
  own_new =
      ap (λ v. strand_of v g) in_turn
      ∙ strand_of_grown one (half ∷ half ∷ []) (rooted_more t fork_node shape.rooted there) g (omega (arith, length_more t fork_node))
      ∙ strand_of_new t fork_node shape.rooted there
      ∙ running_own m.core.machine w o running

  -- the new strands stand at themselves
  new_place : (n : ℕ) → g < n → place u n ≡ n
  new_place n more =
      ap (λ i. unwrap_or i n)
      (last_past (is_begun_in u n) 0 (length u) (omega arith) (λ i le l.
      elim (cases_lt i g) [
        | inl low ↦ and_right (is_pending u i) (nat_eq (strand_of u i) n) (ne_eqb (strand_of u i) n (λ e. (let le = strand_of_le t shape.rooted i low in omega (arith, e, strand_of_grown t xs shape.rooted i low))))
        | inr past ↦ and_left (is_pending u i) (nat_eq (strand_of u i) n) (no_pending i past)
      ]))

  -- ## States

  half_old : (f : ℕ → A) (n : ℕ) → n ≤ g → forked f n ≡ f n
  half_old f n le = state_other (changed_at (right_node g) (s.right a) f) (left_node g) (s.left a) n (λ e. omega (arith, e)) ∙ state_other f (right_node g) (s.right a) n (λ e. omega (arith, e))

  half_left : (f : ℕ → A) → forked f (left_node g) ≡ s.left a
  half_left f = state_same (changed_at (right_node g) (s.right a) f) (left_node g) (s.left a)

  half_right : (f : ℕ → A) → forked f (right_node g) ≡ s.right a
  half_right f = state_other (changed_at (right_node g) (s.right a) f) (left_node g) (s.left a) (right_node g) (λ e. omega (arith, e)) ∙ state_same f (right_node g) (s.right a)

  half_same : (f h : ℕ → A) (n : ℕ) → g < n → n < length u → forked f n ≡ forked h n
  half_same f h n more low = elim (which_new n more low) [
    | inl e ↦ ap (forked f) e ∙ half_left f ∙ sym (half_left h) ∙ ap (forked h) (sym e)
    | inr e ↦ ap (forked f) e ∙ half_right f ∙ sym (half_right h) ∙ ap (forked h) (sym e)
  ]

  before_past : (n : ℕ) → n ≢ g → y.before n ≡ forked x.before n
  before_past n ne = state_other (forked x.before) g a n ne

  before_here : y.before g ≡ a
  before_here = state_same (forked x.before) g a

  stays : Stay m.core.machine z.core.machine x y p g
  stays = record {
    longer = omega (arith, len);
    nodes = λ n low ne. get_append t xs n low;
    strands = node_grown t xs (λ i. is_strand_kind i.kind);
    blocks = node_grown t xs (λ i. is_block_kind i.kind);
    children = λ n low ne. other_children t shape.rooted p st there n ne (λ e. omega (arith, e));
    finished = refl;
    before = λ n low. before_past n (λ e. omega (arith, e)) ∙ half_old x.before n (omega arith);
    after = λ n low ne. state_other x.after g a n ne;
    reached = λ n low ne. half_old x.reached n (omega arith);
  }

  may : MayChange m.core.machine p g
  may = running_may m.core.machine w o running forks g (λ low. absurd (omega arith)) (false_from_ne_true (has m.core.machine.joined g) (λ e. absurd (let low = w.joined g e in omega arith)))

  module _ (h : AreStanding s m x.before x.after x.reached) (wants : s.want (m.at o) ≡ want.Fork) where
    series_new : (n : ℕ) → g ≤ n → n < length u → (is_strand u n || is_block u n) ≡ true → InSeries y.before y.after (entered s u y.before y.after y.reached n) (children u n) (y.reached n)
    series_new n le low e =
        let strand : is_strand u n ≡ true = sym (or_none (is_strand u n)) ∙ ap (λ i. is_strand u n || i) (sym (no_block n le)) ∙ e in
        let more = strand_past n le strand in
        let P : List ℕ → Type 0 = λ ns. InSeries y.before y.after (entered s u y.before y.after y.reached n) ns (y.reached n) in
        subst P (sym (no_children t shape.rooted p st there n more))
        (ap (λ i. cond i (s.answer (y.before n) Nothing) (y.before n)) (no_block n le) ∙ before_past n (λ q. omega (arith, q)) ∙ half_same x.before x.reached n more low) where
          or_none : (b : Bool) → (b || false) ≡ b
          or_none true = refl
          or_none false = refl

    is_forked : IsWanted s u y.before y.after y.reached g Fork fork_node.state
    is_forked =
        let left : left_node g ≡ suc g = omega arith in
        let right : right_node g ≡ suc (suc g) = omega arith in
        let P : List ℕ → Type 0 = λ ns. IsForkOf s u y.before y.after y.reached g ns in
        let begins : P (left_node g ∷ right_node g ∷ []) = (
          before_past (left_node g) (λ e. omega (arith, e)) ∙ half_left x.before ∙ ap s.left (sym before_here),
          before_past (right_node g) (λ e. omega (arith, e)) ∙ half_right x.before ∙ ap s.right (sym before_here),
        ) in
        (ap s.want before_here ∙ wants, subst P (sym (fork_children t shape.rooted p st there ∙ ap (λ i. i ∷ suc (suc g) ∷ []) (sym left) ∙ ap (λ i. left_node g ∷ i ∷ []) (sym right))) begins)

    are_new : AreNew s m.core.machine z.core.machine y p g
    are_new = record {
      here =
          let stood = running_stands s m w x h o running in
          series_with_new s m.core.machine z.core.machine x y p g may stays there (omega arith) (place_children t shape.rooted p st there) (before_here ∙ sym stood)
          (half_old x.reached p (let low = there in omega arith) ∙ stood ∙ sym (state_same x.after g a)) (h.states.series p there (running_holds m.core.machine w o running));
      series = series_new;
      behind = λ v is. (let P : Node → Type 0 = λ i. IsWanted s u y.before y.after y.reached g i.kind i.state in subst P (same_Some fork_node v (sym (get_next t fork_node (half ∷ half ∷ [])) ∙ is)) is_forked);
      fits = λ n le ne v is. (let P : Node → Type 0 = λ i. IsWanted s u y.before y.after y.reached n i.kind i.state in subst P (same_Some half v (sym (get_half n (omega arith) (slice_get_within u n v is)) ∙ is)) tt);
      joins = λ f l r e off kids. absurd (cc (e, off));
    }

    elsewhere : Elsewhere m z p o
    elsewhere = record {
      own = running_own m.core.machine w o running;
      parents = number_grown t xs (λ i. i.parent);
      stand = strand_of_grown t xs shape.rooted;
      forks = node_grown t xs (λ i. is_fork_kind i.kind);
      pending = λ n low e. sym (node_grown t xs (λ i. is_block_kind i.kind && is_pending_state i.state) n low) ∙ e;
      places = λ n low ne. place_grown t xs shape.rooted n (λ i le l. and_left (is_pending u i) (nat_eq (strand_of u i) n) (no_pending i le));
      fewer = λ f e. e;
      more = λ f ne e. e;
      none = running_none m.core.machine w o running;
      at = λ n low ne. half_old m.at n (omega arith);
      saved = λ n low. refl;
    }

    are_here : AreHere m z y o
    are_here = record {
      here = λ q. absurd (let yes = waits_for z.core.machine o g (omega (arith, len)) fork_here own_new may.apart in cc (yes, q));
      strands = λ n le e q.
          (let strand = (current_is z.core (stays.strands 0 shape.some ∙ shape.root) n e).0 in
          let more = strand_past n le strand in
          ap y.reached (new_place n more) ∙ half_same x.reached m.at n more (strand_there u n strand));
      forks = λ f le e.
          (let at = fork_only f le e in
          let low = own_low in
          ap y.before at ∙ before_here ∙ sym (half_old m.at o (omega arith)) ∙ ap z.at (sym (ap (strand_of u) at ∙ own_new)));
      saved = λ n le e. absurd (let no = no_pending n le in cc (e, no));
    }

    pub forked_states : HasStates s (with_fork s m o st)
    forked_states = (
      y.before,
      y.after,
      y.reached,
      standing_kept s m z x y p g o shape stays elsewhere are_here h
          (states_kept s m.core.machine z.core.machine x y p g may stays h.states are_new),
    )
