-- What the step of another does to the tree, seen from where a strand stands: nodes come beside it, or a block is closed beside it.
use Rattle.std.proofs.Common.{◌≡◌, ◌≢◌, ℕ, zero, suc, ◌<◌, ◌≤◌, List, [], ◌∷◌, ◌++◌, length, refl, ap, sym, ◌∙◌, subst, arith, true, false, Some, inl, inr, nat_eq, nat_lt}
use Rattle.std.specs.Prelude.{◌⊎◌, ◌&&◌, not, ℤ, slice_get}
use Rattle.std.proofs.lemmas.Bool.{and_parts, cases_eq, not-true, false_from_ne_true, eq-eqb, cases_Bool}
use Rattle.cw_tree.specs.declared.node.Node.{Node}
use Rattle.cw_tree.specs.declared.node.Kind.TheVariants.{Block, Out, Cancel, Tried}
use Rattle.cw_tree.specs.declared.node.BlockState.{BlockState}
use Rattle.cw_tree.specs.declared.node.BlockState.TheVariants.{Committed, Aborted}
use Rattle.cw_tree.specs.Nodes.{is_pending_state, touches_kind, passes, number_in, stamp_of, end_of, is_strand, is_fork, is_pending, touches, fresh_node, closed}
use Rattle.cw_tree.specs.Walks.{IsRooted, lca, is_ancestor}
use Rattle.cw_tree.specs.Series.{strand_of, place, is_before}
use Rattle.cw_tree.specs.AccessStacks.{access_kind}
use Rattle.cw_tree.specs.NextNodes.{IsPlace, fork_nodes}
use Rattle.cw_tree.proofs.Lists.{In}
use Rattle.cw_tree.proofs.Walks.Climbs.{by_parent}
use Rattle.cw_tree.proofs.Walks.Ancestors.{ancestor_step}
use Rattle.cw_tree.proofs.Walks.Meets.{lca_is_meet}
use Rattle.cw_tree.proofs.Walks.Strands.{strand_of_strand, strand_of_other}
use Rattle.cw_tree.proofs.NextNodes.Before.{before_closed}
use Rattle.cw_tree.proofs.NextNodes.Closing.{closed_other, node_closed, end_closed, rooted_closed, length_closed}
use Rattle.cw_tree.proofs.NextNodes.Pending.{end_of_place, pending_closed}
use Rattle.cw_open.specs.Machine.{OpenMachine, live_value, is_running, in_block, is_free, rolls_back}
use Rattle.cw_open.specs.Steps.{Step, forks, begins, accesses, refuses, outputs, cancels, commits, undoes, aborts, finishes, joins, stops, puts_back, after_open_step}
use Rattle.cw_open.specs.Runs.{Rules, Allowed}
use Rattle.cw_open.specs.Hands.{is_step_of, brought}
use Rattle.cw_open.proofs.Open.Trees.{IsWell, stands_well}
use Rattle.cw_open.proofs.Open.TreeSteps.{free_runs, rolls_runs, place_pending}
use Rattle.cw_open.proofs.Open.Standing.{stands, open_last, place_open, runs}
use Rattle.cw_open.proofs.Open.Growth.{IsGrowth, growth_leaf, growth_fork}
use Rattle.cw_open.proofs.Open.Staying.{Stays, grown_stays, closed_stays, ancestor_stays, strand_stays}
use Rattle.cw_open.proofs.Refused.OnwardSteps.{before_grown}
use Rattle.cw_open.proofs.Refused.Victims.{IsToldState, no_fork_between, over_place}
use Rattle.cw_open.proofs.Hands.Apart.{places_parallel}
use Rattle.cw_tree.proofs.Walks.There.{strand_there}
use Rattle.cw_tree.specs.declared.node.Kind.{Kind}

-- node n came beside strand s, which stands at place p
pub record CameBeside (u : List Node) (s p number n : ℕ) : Type 0 where
  pub strand : strand_of u n ≢ s
  pub outside : is_ancestor u s n ≡ false
  pub later : is_before u n p ≡ false
  pub stamp : (stamp_of u n ≡ 0) ⊎ (stamp_of u n ≡ number)
  pub end : end_of u n ≡ 0

-- block n was closed there
pub record ShutBeside (t u : List Node) (s p number n : ℕ) : Type 0 where
  pub pending : is_pending t n ≡ true
  pub done : is_pending u n ≡ false
  pub strand : strand_of t n ≢ s
  pub outside : is_ancestor t s n ≡ false
  pub under : is_ancestor t n p ≡ false
  pub later : is_before t n p ≡ false
  pub end : end_of u n ≡ number

-- tree t became u, with a number that was brought, and strand s stands at place p beside all that changed
pub record IsBeside (t u : List Node) (s p number : ℕ) : Type 0 where
  pub stays : Stays t u
  pub rooted : IsRooted u
  pub touched : (c n : ℕ) → n < length t → touches u c n ≡ touches t c n
  pub before : (n k : ℕ) → n < length t → k < length t → is_before u n k ≡ is_before t n k
  pub old : (n : ℕ) → n < length t → (slice_get u n ≡ slice_get t n) ⊎ ShutBeside t u s p number n
  pub new : (n : ℕ) → length t ≤ n → n < length u → CameBeside u s p number n

-- ## What comes

came : (t xs : List Node) (n : ℕ) → length t ≤ n → n < length (t ++ xs) → (x : Node) × In x xs × (slice_get (t ++ xs) n ≡ Some x)
came [] [] n le h = absurd (omega arith)
came [] (x ∷ xs) zero le h = (x, inl refl, refl)
came [] (x ∷ xs) (suc n) le h = let z = came [] xs n (omega arith) (omega arith) in (z.0, inr z.1, z.2)
came (y ∷ t) xs zero le h = absurd (omega arith)
came (y ∷ t) xs (suc n) le h = came t xs n (omega arith) (omega arith)

abbrev AreNew : List Node → ℕ → Type 0
AreNew xs number = (x : Node) → In x xs → ((x.stamp ≡ 0) ⊎ (x.stamp ≡ number)) × (x.end ≡ 0)

module _ (t xs : List Node) (q number : ℕ) (r : IsRooted t) (g : IsGrowth t (t ++ xs) q number) (new : AreNew xs number) (s p : ℕ) (low_s : s < length t) (low_p : p < length t) (low_q : q < length t)
    (other : strand_of t q ≢ s) (outside : is_ancestor t s q ≡ false) where
  abbrev u : List Node
  u = t ++ xs

  stay : Stays t u
  stay = grown_stays t u q number r g

  strand_new : (n : ℕ) → n < length u → length t ≤ n → strand_of u n ≢ s
  strand_new n h =
      by_parent u g.rooted (λ n. length t ≤ n → strand_of u n ≢ s) (λ le. absurd (omega arith))
      (λ n some h more le e.
      elim (cases_Bool (is_strand u n)) [
        | inl is ↦ absurd (let own = strand_of_strand u g.rooted n some h is in omega (arith, own, e))
        | inr plain ↦ (
            let up = strand_of_other u g.rooted n some h plain in
            elim (g.parents n le h) [
              | inl z ↦ other (sym (strand_stays t u stay q low_q) ∙ sym (ap (strand_of u) z) ∙ sym up ∙ e)
              | inr z ↦ more z (sym up ∙ e)
            ])
      ])
      n h

  outside_new : (n : ℕ) → n < length u → length t ≤ n → is_ancestor u s n ≡ false
  outside_new n h =
      by_parent u g.rooted (λ n. length t ≤ n → is_ancestor u s n ≡ false) (λ le. absurd (omega arith))
      (λ n some h more le.
      ancestor_step u g.rooted s n some h (λ e. omega (arith, e))
      ∙ elim (g.parents n le h) [
        | inl z ↦ ap (is_ancestor u s) z ∙ ancestor_stays t u stay s q low_q ∙ outside
        | inr z ↦ more z
      ])
      n h

  numbers : (n : ℕ) → length t ≤ n → n < length u → ((stamp_of u n ≡ 0) ⊎ (stamp_of u n ≡ number)) × (end_of u n ≡ 0)
  numbers n le h =
      let z = came t xs n le h in
      let y = new z.0 z.1 in (
        elim y.0 [ inl q ↦ inl (ap (number_in (λ x. x.stamp)) z.2 ∙ q) | inr q ↦ inr (ap (number_in (λ x. x.stamp)) z.2 ∙ q) ],
        ap (number_in (λ x. x.end)) z.2 ∙ y.1,
      )

  grown_beside : IsBeside t u s p number
  grown_beside = record {
    stays = stay;
    rooted = g.rooted;
    touched = λ c n h. ap (passes (λ y. touches_kind c y.kind)) (g.old n h);
    before = before_grown t u q number r g;
    old = λ n h. inl (g.old n h);
    new = λ n le h. (let z = numbers n le h in record { strand = strand_new n h le; outside = outside_new n h le; later = g.first n p le h low_p; stamp = z.0; end = z.1 });
  }

-- ## Nothing comes, and nothing is closed

same_beside : (t : List Node) → IsRooted t → (s p number : ℕ) → IsBeside t t s p number
same_beside t r s p number = record {
  stays = record { longer = omega arith; rooted = r; parents = λ n h. refl; stamps = λ n h. refl; strands = λ n h. refl; forks = λ n h. refl; blocks = λ n h. refl };
  rooted = r;
  touched = λ c n h. refl;
  before = λ n k hn hk. refl;
  old = λ n h. inl refl;
  new = λ n le h. absurd (omega arith);
}

-- ## Seen from a running strand

module _ (first : List ℤ) (m : OpenMachine) (w : IsToldState first m) (s : ℕ) (running : is_running m s ≡ true) where
  abbrev t : List Node
  t = m.tree

  abbrev p : ℕ
  p = place t s

  well : IsWell m
  well = w.state.well

  r : IsRooted t
  r = well.sound.tree.rooted

  low : p < length t
  low = (stands m well.sound.tree well.nested s running).there

  low_strand : s < length t
  low_strand = strand_there t s (runs m well.sound.tree well.nested s running).strand

  module _ (u : ℕ) (ne : u ≢ s) (runs_u : is_running m u ≡ true) where
    abbrev q : ℕ
    q = place t u

    at : IsPlace t q
    at = stands_well m well u runs_u

    own : strand_of t q ≢ s
    own e = ne (sym (stands m well.sound.tree well.nested u runs_u).strand ∙ e)

    parted : (not (is_ancestor t p q) && not (is_ancestor t q p)) ≡ true × (is_fork t (lca t p q) ≡ true)
    parted = and_parts (not (is_ancestor t p q) && not (is_ancestor t q p)) (is_fork t (lca t p q)) (places_parallel m well s u running runs_u (λ e. ne (sym e)))

    -- no strand runs beneath one that runs
    outside : is_ancestor t s q ≡ false
    outside =
        false_from_ne_true (is_ancestor t s q) (λ e.
        let meet = lca_is_meet t r p q low at.there in
        absurd (no_fork_between first m w s running (lca t p q) parted.1 (meet.innermost s (over_place first m w s running) e) meet.left))

    leaf_beside : (kind : Kind) (stamp : ℕ) → IsBeside t (t ++ fresh_node q kind stamp ∷ []) s p stamp
    leaf_beside kind stamp =
        grown_beside t (fresh_node q kind stamp ∷ []) q stamp r (growth_leaf t r q (end_of_place t q at) kind stamp) (λ x i. elim i [ inl e ↦ (inr (ap (λ y. y.stamp) e), ap (λ y. y.end) e) | inr z ↦ absurd z ]) s p low_strand low at.there own outside

    fork_beside : (stamp : ℕ) → IsBeside t (t ++ fork_nodes (length t) q stamp) s p stamp
    fork_beside stamp =
        grown_beside t (fork_nodes (length t) q stamp) q stamp r (growth_fork t well.sound.tree q at stamp)
        (λ x i. elim i [
          | inl e ↦ (inr (ap (λ y. y.stamp) e), ap (λ y. y.end) e)
          | inr j ↦ elim j [
            | inl e ↦ (inl (ap (λ y. y.stamp) e), ap (λ y. y.end) e)
            | inr k ↦ elim k [ inl e ↦ (inl (ap (λ y. y.stamp) e), ap (λ y. y.end) e) | inr z ↦ absurd z ]
          ]
        ]) s p low_strand low at.there own outside

    shut_beside : (state : BlockState) (end : ℕ) → is_pending_state state ≡ false → in_block m u ≡ true → IsBeside t (closed t q state end) s p end
    shut_beside state end done within = record {
      stays = closed_stays t r q state end;
      rooted = rooted_closed t q state end r;
      touched = λ c n h. node_closed t q state end (λ y. touches_kind c y.kind) (λ y. refl) n;
      before = before_closed t q state end r;
      old = λ n h. elim (cases_eq n q) [
        | inr other ↦ inl (closed_other t q state end n other)
        | inl e ↦ (let P : ℕ → Type 0 = λ n. ShutBeside t (closed t q state end) s p end n in inr (subst P (sym e) it))
      ];
      new = λ n le h. absurd (let len = length_closed t q state end in omega arith);
    } where
      it : ShutBeside t (closed t q state end) s p end q
      it = record {
        pending = place_pending m well u runs_u within;
        done = false_from_ne_true (is_pending (closed t q state end) q) (λ e. (pending_closed t q state end done q e).0 refl);
        strand = own;
        outside = outside;
        under = not-true (is_ancestor t q p) (and_parts (not (is_ancestor t p q)) (not (is_ancestor t q p)) parted.0).1;
        later = open_last m well.sound.tree well.nested q p at.there low (place_open m well.sound.tree well.nested u runs_u);
        end = end_closed t q state end at.there;
      }

  -- the strand of a step of another
  differs : (u : ℕ) → nat_eq u s ≡ false → u ≢ s
  differs u e same = cc (e, eq-eqb u s same)

  pub beside : (rules : Rules) (e : Step) → is_step_of s e ≡ false → Allowed rules m e → IsBeside t (after_open_step m e).tree s p (brought e)
  beside rules (forks u stamp) o a = fork_beside u (differs u o) (free_runs m u a.0) stamp
  beside rules (begins u stamp) o a = leaf_beside u (differs u o) (free_runs m u a.0) Block stamp
  beside rules (accesses u c write stamp) o a =
      let z = and_parts (is_free m u && nat_lt c (length m.lists)) _ a.0 in
      let free = (and_parts (is_free m u) (nat_lt c (length m.lists)) z.0).0 in
      leaf_beside u (differs u o) (free_runs m u free) (access_kind c write (live_value m c)) stamp
  beside rules (refuses u c write met) o a =
      let free = (and_parts (is_free m u) (nat_lt c (length m.lists)) a.0).0 in
      leaf_beside u (differs u o) (free_runs m u free) (Tried c) 0
  beside rules (outputs u v stamp) o a = leaf_beside u (differs u o) (free_runs m u a.0) (Out v) stamp
  beside rules (cancels u stamp) o a = leaf_beside u (differs u o) (free_runs m u (and_parts (is_free m u) (in_block m u) a.0).0) (Cancel (puts_back m u stamp)) stamp
  beside rules (commits u stamp) o a =
      let z = and_parts (is_free m u && in_block m u) _ a.0 in
      let y = and_parts (is_free m u) (in_block m u) z.0 in
      shut_beside u (differs u o) (free_runs m u y.0) Committed stamp refl y.1
  beside rules (undoes u c) o a = same_beside t r s p 0
  beside rules (aborts u stamp) o a =
      let z = rolls_runs m u (and_parts (rolls_back m u) _ a.0).0 in
      shut_beside u (differs u o) z.running Aborted stamp refl z.within
  beside rules (finishes u dead) o a = same_beside t r s p 0
  beside rules (joins f) o a = same_beside t r s p 0
  beside rules (stops u) o a = same_beside t r s p 0
