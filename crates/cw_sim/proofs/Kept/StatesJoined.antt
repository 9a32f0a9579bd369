-- The strands of a fork join: the states around it, and where strands stand.
use Rattle.std.proofs.Common.{◌≡◌, ◌≢◌, ℕ, ◌<◌, ◌≤◌, List, [], ◌∷◌, length, refl, ap, sym, ◌∙◌, subst, arith, true, false, inl, inr, nat_eq}
use Rattle.std.proofs.lemmas.Bool.{or_cases, or_from, or_left, or_parts, eq-eqb, eqb-true, ne_eqb}
use Rattle.std.proofs.lemmas.Option.{slice_get_within}
use Rattle.cw_strand.specs.Strands.{Strands}
use Rattle.cw_tree.specs.declared.node.Node.{Node}
use Rattle.cw_tree.specs.declared.node.Kind.{Kind}
use Rattle.cw_tree.specs.declared.node.Kind.TheVariants.{Fork}
use Rattle.cw_tree.specs.declared.node.BlockState.{BlockState}
use Rattle.cw_tree.specs.Nodes.{passes, is_fork_kind, parent_of, is_fork}
use Rattle.cw_tree.specs.Walks.{has}
use Rattle.cw_tree.specs.Series.{strand_of, children}
use Rattle.cw_tree.specs.Shape.{IsTree}
use Rattle.cw_tree.proofs.Walks.There.{pending_there, fork_there as fork_low, strand_there}
use Rattle.cw_open.proofs.Open.Trees.{IsWell}
use Rattle.cw_open.proofs.Open.Kinds.{unjoined_open}
use Rattle.cw_core.proofs.Events.OneFork.{one_fork}
use Rattle.cw_record.specs.Coherent.{IsForkOf, IsWanted}
use Rattle.cw_record.proofs.Coherent.AddedStates.{state_same, state_other}
use Rattle.cw_sim.specs.Workers.{Simulation, left_node, right_node, changed_at, tree}
use Rattle.cw_sim.specs.Kept.{AreStanding}
use Rattle.cw_sim.proofs.Kept.StatesKept.{AllStates, Stay, MayChange, AreNew, states_kept, series_with_last}
use Rattle.cw_sim.proofs.Kept.PlacedKept.{Elsewhere, AreHere, current_is, standing_kept}
use Rattle.cw_sim.proofs.Kept.PlacedForked.{fork_there, above_low, above_open, above_no_fork, above_holds, above_own, above_place, fork_last}

-- the strands of fork f join, and the strand that forked stands at what they become
abbrev pub with_joined : {A : Type 0} → Strands A → Simulation A → (f : ℕ) → Simulation A
with_joined s m f = record m {
  core = record m.core { machine = record m.core.machine { joined = f ∷ m.core.machine.joined } };
  at = changed_at (strand_of (tree m) f) (s.joined (m.at (right_node f)) (m.at (left_node f))) m.at;
}

-- as is behind the fork, and reached in what holds it
abbrev pub joined_states : {A : Type 0} → Strands A → Simulation A → (f : ℕ) → AllStates A → AllStates A
joined_states s m f x =
    let v = s.joined (m.at (right_node f)) (m.at (left_node f)) in
    record { before = x.before; after = changed_at f v x.after; reached = changed_at (parent_of (tree m) f) v x.reached }

module _ {A : Type 0} (s : Strands A) (m : Simulation A) (w : IsWell m.core.machine) (forks : (f : ℕ) → has m.core.machine.joined f ≡ true → is_fork (tree m) f ≡ true)
    (f : ℕ) (fork : is_fork (tree m) f ≡ true) (unjoined : has m.core.machine.joined f ≡ false) (made : children (tree m) f ≡ left_node f ∷ right_node f ∷ []) (x : AllStates A) where
  abbrev t : List Node
  t = tree m

  -- what holds the fork, and the strand that forked
  abbrev p : ℕ
  p = parent_of t f

  abbrev o : ℕ
  o = strand_of t f

  -- what its strands become
  abbrev v : A
  v = s.joined (m.at (right_node f)) (m.at (left_node f))

  abbrev z : Simulation A
  z = with_joined s m f

  abbrev y : AllStates A
  y = joined_states s m f x

  shape : IsTree t
  shape = w.sound.tree

  f_there : f < length t
  f_there = fork_there m.core.machine w f fork unjoined

  p_low : p < f
  p_low = above_low m.core.machine w f fork unjoined

  p_there : p < length t
  p_there = let h = f_there in let l = p_low in omega arith

  stays : Stay m.core.machine z.core.machine x y p f
  stays = record {
    longer = omega arith;
    nodes = λ n l ne. refl;
    strands = λ n l. refl;
    blocks = λ n l. refl;
    children = λ n l ne. refl;
    finished = refl;
    before = λ n l. refl;
    after = λ n l ne. state_other x.after f v n ne;
    reached = λ n l ne. state_other x.reached p v n ne;
  }

  may : MayChange m.core.machine p f
  may = record {
    well = w;
    forks = forks;
    opened = above_open m.core.machine w f fork unjoined;
    no_fork = above_no_fork m.core.machine w f fork unjoined;
    under = λ l. refl;
    apart = unjoined;
  }

  -- it is joined, and so is each that was
  has_f : has z.core.machine.joined f ≡ true
  has_f = or_left (nat_eq f f) (has m.core.machine.joined f) (eq-eqb f f refl)

  fewer : (g : ℕ) → has z.core.machine.joined g ≡ false → has m.core.machine.joined g ≡ false
  fewer g e = (or_parts (nat_eq f g) (has m.core.machine.joined g) e).1

  more : (g : ℕ) → strand_of t g ≢ o → has m.core.machine.joined g ≡ false → has z.core.machine.joined g ≡ false
  more g ne e = or_from (nat_eq f g) (has m.core.machine.joined g) (ne_eqb f g (λ q. ne (sym (ap (strand_of t) q)))) e

  none : (g : ℕ) → is_fork t g ≡ true → has z.core.machine.joined g ≡ false → strand_of t g ≢ o
  none g other e own =
      let one = one_fork m.core.machine shape w.nested g f other fork (unjoined_open m.core.machine g other (fewer g e)) (unjoined_open m.core.machine f fork unjoined) own in
      let yes = has_f in
      cc (yes, ap (has z.core.machine.joined) one, e)

  module _ (h : AreStanding s m x.before x.after x.reached) (left : x.reached (left_node f) ≡ m.at (left_node f)) (right : x.reached (right_node f) ≡ m.at (right_node f)) where
    wanted_here : (kind : Kind) (state : BlockState) → is_fork_kind kind ≡ true → IsWanted s t x.before x.after x.reached f kind state → IsWanted s t y.before y.after y.reached f kind state
    wanted_here Fork state e g =
        let P : List ℕ → Type 0 = λ ns. IsForkOf s t x.before x.after x.reached f ns in
        let Q : List ℕ → Type 0 = λ ns. IsForkOf s t y.before y.after y.reached f ns in
        (g.0, subst Q (sym made) (subst P made g.1))
    wanted_here _ state e g = absurd (cc e)

    -- behind the fork is what its strands become
    joins : (l r : ℕ) → children t f ≡ l ∷ r ∷ [] → y.after f ≡ s.joined (y.reached r) (y.reached l)
    joins l r kids =
        let both : left_node f ∷ right_node f ∷ [] ≡ l ∷ r ∷ [] = sym made ∙ kids in
        let same_l : left_node f ≡ l = cc both in
        let same_r : right_node f ≡ r = cc both in
        let low = p_low in
        let other : (n : ℕ) → f < n → y.reached n ≡ x.reached n = λ n more. state_other x.reached p v n (λ e. omega (arith, e, low)) in
        state_same x.after f v
        ∙ ap (λ i. s.joined i (m.at (left_node f))) (sym (other (right_node f) (omega arith) ∙ right))
        ∙ ap (s.joined (y.reached (right_node f))) (sym (other (left_node f) (omega arith) ∙ left))
        ∙ ap (λ i. s.joined (y.reached i) (y.reached (left_node f))) same_r
        ∙ ap (λ i. s.joined (y.reached r) (y.reached i)) same_l

    none_new : (n : ℕ) → length t ≤ n → n < length t → ⊥
    none_new n le l = omega arith

    are_new : AreNew s m.core.machine z.core.machine y p f
    are_new = record {
      here =
          let whole = fork_last m.core.machine w f fork unjoined in
          series_with_last s m.core.machine z.core.machine x y p f may stays p_there f_there whole whole (state_same x.reached p v ∙ sym (state_same x.after f v)) (h.states.series p p_there (above_holds m.core.machine w f fork unjoined));
      series = λ n le l e. absurd (none_new n le l);
      behind = λ n is. wanted_here n.kind n.state (sym (ap (passes (λ i. is_fork_kind i.kind)) is) ∙ fork) (h.states.fits f n is);
      fits = λ n le ne i is. absurd (none_new n le (slice_get_within t n i is));
      joins = λ g l r e off kids. elim (or_cases (nat_eq f g) (has m.core.machine.joined g) e) [
        | inr was ↦ absurd (cc (was, off))
        | inl q ↦ (let P : ℕ → Type 0 = λ i. children t i ≡ l ∷ r ∷ [] → y.after i ≡ s.joined (y.reached r) (y.reached l) in subst P (eqb-true f g q) (joins l r) kids)
      ];
    }

    elsewhere : Elsewhere m z p o
    elsewhere = record {
      own = above_own m.core.machine w f fork unjoined;
      parents = λ n l. refl;
      stand = λ n l. refl;
      forks = λ n l. refl;
      pending = λ n l e. e;
      places = λ n l ne. refl;
      fewer = fewer;
      more = more;
      none = none;
      at = λ n l ne. state_other m.at o v n ne;
      saved = λ n l. refl;
    }

    are_here : AreHere m z y o
    are_here = record {
      here = λ q. ap y.reached (above_place m.core.machine w f fork unjoined) ∙ state_same x.reached p v ∙ sym (state_same m.at o v);
      strands = λ n le e q. absurd (none_new n le (strand_there t n (current_is z.core shape.root n e).0));
      forks = λ g le e. absurd (none_new g le (fork_low t g e));
      saved = λ n le e. absurd (none_new n le (pending_there t n e));
    }

    pub joined_stands : AreStanding s (with_joined s m f) y.before y.after y.reached
    joined_stands =
        standing_kept s m z x y p f o shape stays elsewhere are_here h
        (states_kept s m.core.machine z.core.machine x y p f may stays h.states are_new)
