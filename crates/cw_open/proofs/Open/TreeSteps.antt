-- Each step keeps of the tree what is true of it.
use Rattle.std.proofs.Common.{◌≡◌, ℕ, ◌<◌, List, length, refl, ap, sym, ◌∙◌, subst, arith, Bool, true, false, inl, inr, nat_eq, nat_lt}
use Rattle.std.specs.Prelude.{ℤ, Option, Some, None, ◌&&◌, ◌||◌, not}
use Rattle.std.specs.List.{list_all}
use Rattle.std.proofs.lemmas.Bool.{and_parts, and_from, and_left, and_right, or_from, or_left, or_cases, not-true, not-false, not_from_true, false_from_ne_true, eqb-true, eq-eqb, ne_eqb, lt-ltb}
use Rattle.cw_tree.specs.declared.node.Node.{Node}
use Rattle.cw_tree.specs.declared.node.Kind.TheVariants.{Cancel, Block, Out}
use Rattle.cw_tree.specs.declared.node.BlockState.TheVariants.{Committed, Aborted}
use Rattle.cw_tree.specs.Nodes.{is_strand_kind, is_fork_kind, is_tried_kind, parent_of, is_strand, is_fork, is_pending, all_nodes}
use Rattle.cw_tree.specs.Walks.{has}
use Rattle.cw_tree.specs.Series.{children, place}
use Rattle.cw_tree.specs.AccessStacks.{access_kind}
use Rattle.cw_tree.proofs.Lists.{In, all_in}
use Rattle.cw_tree.proofs.Members.{below_in, filter_in}
use Rattle.cw_tree.proofs.Walks.There.{node_there}
use Rattle.cw_tree.proofs.NextNodes.Trees.{is_child}
use Rattle.cw_tree.proofs.NodeKinds.{strand_no_block, fork_no_strand, fork_no_block, pending_block}
use Rattle.cw_open.specs.Machine.{OpenMachine, live_value, has_finished, is_running, in_block, is_dying, is_free, rolls_back}
use Rattle.cw_open.specs.Steps.{puts_back, Step, forks, begins, accesses, refuses, outputs, cancels, commits, undoes, aborts, finishes, joins, stops, after_open_step}
use Rattle.cw_open.specs.Runs.{Rules, Allowed}
use Rattle.cw_open.specs.Open.{is_open}
use Rattle.cw_open.proofs.Open.Standing.{runs, stands, none_open}
use Rattle.cw_open.proofs.Open.Nesting.{nested_shut}
use Rattle.cw_open.proofs.Open.Trees.{IsWell, well_grows, well_refuses, well_forks, well_closes}

-- ## What a step needs, taken apart

pub free_runs : (m : OpenMachine) (s : ℕ) → is_free m s ≡ true → is_running m s ≡ true
free_runs m s e = (and_parts (is_running m s) (not (is_dying m s)) e).0

pub record RollsBack (m : OpenMachine) (s : ℕ) : Type 0 where
  pub running : is_running m s ≡ true
  pub within : in_block m s ≡ true

pub rolls_runs : (m : OpenMachine) (s : ℕ) → rolls_back m s ≡ true → RollsBack m s
rolls_runs m s e = let z = and_parts (is_running m s && in_block m s) _ e in let y = and_parts (is_running m s) (in_block m s) z.0 in record { running = y.0; within = y.1 }

-- a strand that stands in a block stands in a pending one
pub place_pending : (m : OpenMachine) (w : IsWell m) (s : ℕ) → is_running m s ≡ true → in_block m s ≡ true → is_pending m.tree (place m.tree s) ≡ true
place_pending m w s running within =
    elim (stands m w.sound.tree w.nested s running).kind [
      | inl q ↦ absurd (cc (within, not_from_true _ (eq-eqb (place m.tree s) s q)))
      | inr e ↦ e
    ]

-- ## A strand finishes, and a fork is joined

module _ (m : OpenMachine) (w : IsWell m) where
  abbrev t : List Node
  t = m.tree

  well_finishes : (s : ℕ) (dead : Bool) → is_running m s ≡ true → in_block m s ≡ false → IsWell (after_open_step m (finishes s dead))
  well_finishes s dead running outside =
      let z = after_open_step m (finishes s dead) in
      let r = runs m w.sound.tree w.nested s running in
      let at : place t s ≡ s = eqb-true (place t s) s (not-false (nat_eq (place t s) s) outside) in
      let strand = r.strand in
      let there : s < length t = node_there (λ y. is_strand_kind y.kind) t s strand in
      record {
        sound = w.sound;
        nested = nested_shut t t (is_open m) (is_open z) s w.nested refl (λ n. refl) (λ n. refl)
            (λ n ne. ap (λ q. (is_strand t n && not (q || has_finished m n)) || (is_fork t n && not (has m.joined n)) || is_pending t n) (ne_eqb s n (λ e. ne (sym e))))
            (or_from (is_strand t s && not (nat_eq s s || has_finished m s) || is_fork t s && not (has m.joined s)) (is_pending t s)
            (or_from (is_strand t s && not (nat_eq s s || has_finished m s)) (is_fork t s && not (has m.joined s)) (and_right (is_strand t s) _ (not_from_true _ (or_left (nat_eq s s) (has_finished m s) (eq-eqb s s refl))))
            (and_left (is_fork t s) _ (false_from_ne_true (is_fork t s) (λ e. absurd (cc (strand, fork_no_strand t s e))))))
            (false_from_ne_true (is_pending t s) (λ e. absurd (cc (strand_no_block t s strand, pending_block t s e)))))
            (λ c some h e. none_open m w.sound.tree w.nested s running c some h (e ∙ sym at));
        finished = λ n e. elim (or_cases (nat_eq s n) (has_finished m n) e) [ inl q ↦ (let P : ℕ → Type 0 = λ n. n < length t in subst P (eqb-true s n q) there) | inr q ↦ w.finished n q ];
        joined = w.joined;
        clock = w.clock;
      }

  -- the children of a fork are strands
  fork_children : (f c : ℕ) → is_fork t f ≡ true → 0 < c → c < length t → parent_of t c ≡ f → In c (children t f)
  fork_children f c fork some h up = in_children where
    in_children : In c (children t f)
    in_children = filter_in (is_child t f) c (all_nodes t) (below_in c (length t) h) (and_from (nat_lt 0 c) (nat_eq (parent_of t c) f) (lt-ltb 0 c some) (eq-eqb (parent_of t c) f up))

  well_joins : (f : ℕ) → is_fork t f ≡ true → list_all (has_finished m) (children t f) ≡ true → IsWell (after_open_step m (joins f))
  well_joins f fork all =
      let z = after_open_step m (joins f) in
      let there : f < length t = node_there (λ y. is_fork_kind y.kind) t f fork in
      record {
        sound = w.sound;
        nested = nested_shut t t (is_open m) (is_open z) f w.nested refl (λ n. refl) (λ n. refl)
            (λ n ne. ap (λ q. (is_strand t n && not (has_finished m n)) || (is_fork t n && not (q || has m.joined n)) || is_pending t n) (ne_eqb f n (λ e. ne (sym e))))
            (or_from (is_strand t f && not (has_finished m f) || is_fork t f && not (nat_eq f f || has m.joined f)) (is_pending t f)
            (or_from (is_strand t f && not (has_finished m f)) (is_fork t f && not (nat_eq f f || has m.joined f)) (and_left (is_strand t f) _ (fork_no_strand t f fork))
            (and_right (is_fork t f) _ (not_from_true _ (or_left (nat_eq f f) (has m.joined f) (eq-eqb f f refl)))))
            (false_from_ne_true (is_pending t f) (λ e. absurd (cc (fork_no_block t f fork, pending_block t f e)))))
            (λ c some h up.
            let tree = w.sound.tree in
            let (l, r, these, strands) = tree.forks f there fork in
            let both = and_parts (is_strand t l) (is_strand t r) strands in
            let P : List ℕ → Type 0 = λ ns. In c ns in
            let is : is_strand t c ≡ true = elim (subst P these (fork_children f c fork some h up)) [ inl q ↦ ap (is_strand t) q ∙ both.0 | inr q ↦ elim q [ inl e ↦ ap (is_strand t) e ∙ both.1 | inr e ↦ absurd e ] ] in
            let done = all_in (has_finished m) c (children t f) all (fork_children f c fork some h up) in
            or_from (is_strand t c && not (has_finished m c) || is_fork t c && not (has m.joined c)) (is_pending t c)
            (or_from (is_strand t c && not (has_finished m c)) (is_fork t c && not (has m.joined c)) (and_right (is_strand t c) _ (not_from_true _ done)) (and_left (is_fork t c) _ (false_from_ne_true (is_fork t c) (λ e. absurd (cc (is, fork_no_strand t c e))))))
            (false_from_ne_true (is_pending t c) (λ e. absurd (cc (strand_no_block t c is, pending_block t c e)))));
        finished = w.finished;
        joined = λ n e. elim (or_cases (nat_eq f n) (has m.joined n) e) [ inl q ↦ (let P : ℕ → Type 0 = λ n. n < length t in subst P (eqb-true f n q) there) | inr q ↦ w.joined n q ];
        clock = w.clock;
      }

-- ## Each step

access_is : (c : ℕ) (write : Option ℤ) (v : ℤ)
    → (is_strand_kind (access_kind c write v) ≡ false) × (is_fork_kind (access_kind c write v) ≡ false) × (is_tried_kind (access_kind c write v) ≡ false)
access_is c None v = (refl, refl, refl)
access_is c (Some w) v = (refl, refl, refl)

pub well_after : (r : Rules) (m : OpenMachine) (e : Step) → IsWell m → Allowed r m e → IsWell (after_open_step m e)
well_after r m (forks s stamp) w a = well_forks m w s (free_runs m s a.0) stamp a.1
well_after r m (begins s stamp) w a = well_grows m w s (free_runs m s a.0) Block stamp refl refl refl a.1
well_after r m (accesses s c write stamp) w a =
    let z = and_parts (is_free m s && nat_lt c (length m.lists)) _ a.0 in
    let free = (and_parts (is_free m s) (nat_lt c (length m.lists)) z.0).0 in
    let k = access_is c write (live_value m c) in
    let g = well_grows m w s (free_runs m s free) (access_kind c write (live_value m c)) stamp k.0 k.1 k.2 a.1 in
    record { sound = g.sound; nested = g.nested; finished = g.finished; joined = g.joined; clock = g.clock }
well_after r m (refuses s c write met) w a =
    let free = (and_parts (is_free m s) (nat_lt c (length m.lists)) a.0).0 in
    let g = well_refuses m w s (free_runs m s free) c in
    record {
      sound = g.sound;
      nested = g.nested;
      finished = g.finished;
      joined = g.joined;
      clock = λ n h. (let z = g.clock n h in (omega (arith, z.0), omega (arith, z.1)));
    }
well_after r m (outputs s v stamp) w a = well_grows m w s (free_runs m s a.0) (Out v) stamp refl refl refl a.1
well_after r m (cancels s stamp) w a = well_grows m w s (free_runs m s (and_parts (is_free m s) (in_block m s) a.0).0) (Cancel (puts_back m s stamp)) stamp refl refl refl a.1
well_after r m (commits s stamp) w a =
    let z = and_parts (is_free m s && in_block m s) _ a.0 in
    let y = and_parts (is_free m s) (in_block m s) z.0 in
    let running = free_runs m s y.0 in
    well_closes m w s running Committed stamp refl (place_pending m w s running y.1) a.1
well_after r m (undoes s c) w a = record { sound = w.sound; nested = w.nested; finished = w.finished; joined = w.joined; clock = w.clock }
well_after r m (aborts s stamp) w a =
    let z = rolls_runs m s (and_parts (rolls_back m s) _ a.0).0 in
    well_closes m w s z.running Aborted stamp refl (place_pending m w s z.running z.within) a.1
well_after r m (finishes s dead) w a =
    let z = and_parts (is_running m s && not (in_block m s)) _ a in
    let y = and_parts (is_running m s) (not (in_block m s)) z.0 in
    well_finishes m w s dead y.0 (not-true (in_block m s) y.1)
well_after r m (joins f) w a =
    let z = and_parts (is_fork m.tree f && not (has m.joined f)) (list_all (has_finished m) (children m.tree f)) a in
    well_joins m w f (and_parts (is_fork m.tree f) (not (has m.joined f)) z.0).0 z.1
well_after r m (stops s) w a = record { sound = w.sound; nested = w.nested; finished = w.finished; joined = w.joined; clock = w.clock }
