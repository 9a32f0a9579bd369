-- Both strands of a fork finish, the fork is joined, and the strand that forked runs again where it did.
use Rattle.std.proofs.Common.{◌≡◌, ◌≢◌, ℕ, ◌<◌, ◌≤◌, List, [], ◌∷◌, length, refl, ap, sym, ◌∙◌, subst, arith, Bool, true, false, inl, inr, nat_eq}
use Rattle.std.specs.Prelude.{◌⊎◌, ◌&&◌, ◌||◌, not, if◌then◌else◌, nat_lt}
use Rattle.std.specs.List.{list_all}
use Rattle.std.proofs.lemmas.Bool.{and_parts, and_from, or_cases, or_left, or_right, cases_eq, not-true, not_from_false, false_from_ne_true, true_from_ne_false, eqb-true, eq-eqb, ne_eqb, cases_lt}
use Rattle.cw_tree.specs.declared.node.Node.{Node}
use Rattle.cw_tree.specs.Nodes.{is_block_kind, is_pending_state, parent_of, is_strand, is_fork, is_block, is_pending, all_nodes}
use Rattle.cw_tree.specs.Walks.{IsRooted, has, lca, is_ancestor}
use Rattle.cw_tree.specs.Series.{strand_of, children, place, parallel}
use Rattle.cw_tree.specs.ForkCounts.{one_if}
use Rattle.cw_tree.proofs.Lists.{In, any_in}
use Rattle.cw_tree.proofs.InOrder.DepthFirst.{child_is}
use Rattle.cw_tree.proofs.Walks.There.{node_there, fork_there}
use Rattle.cw_tree.proofs.Walks.Ancestors.{ancestor_le, ancestor_past}
use Rattle.cw_tree.proofs.Walks.Kin.{branch, fork_child}
use Rattle.cw_tree.proofs.Walks.Meets.{lca_is_meet}
use Rattle.cw_tree.proofs.Walks.Parting.{series_or_parallel}
use Rattle.cw_tree.proofs.Walks.Strands.{strand_of_other, strand_of_le, strand_over, strand_innermost, strand_itself}
use Rattle.cw_tree.proofs.NodeKinds.{strand_no_block, fork_no_strand, fork_no_block, fork_some, pending_block}
use Rattle.cw_open.specs.Machine.{OpenMachine, has_finished, waits, is_running, in_block, is_dying, leads_back}
use Rattle.cw_open.specs.Steps.{finishes, after_open_step, after_all}
use Rattle.cw_open.specs.Runs.{Rules, Allowed, IsRun, left_died, at_any_time}
use Rattle.cw_open.specs.Open.{is_open}
use Rattle.cw_open.specs.Hands.{join_steps, HaveCome, WaitsForAlone, MayFinishAndJoin, StrandsMayJoin, RunsAgain, ForkersRunAgain, IsLeftAlone, JoinsLeaveAlone}
use Rattle.cw_open.proofs.Open.Trees.{IsWell}
use Rattle.cw_open.proofs.Open.Standing.{StandsAt, stands_at, open_over, open_last, open_block, pending_open, runs}
use Rattle.cw_open.proofs.Laws.Named.{strand_is}
use Rattle.cw_open.proofs.Runs.States.{states}
use Rattle.cw_tree.proofs.Rising.{Rises, below_rises, rises_filter}

-- ## Strands that have come

-- the strands of a fork, which are two
pub record TwoStrands (t : List Node) (f l r : ℕ) : Type 0 where
  pub left : f < l
  pub right : f < r
  pub differ : l ≢ r

two_strands : (m : OpenMachine) → IsWell m → (f l r : ℕ) → HaveCome m f l r → TwoStrands m.tree f l r
two_strands m w f l r c =
    let t = m.tree in
    let In_children : List ℕ → Type 0 = λ cs. In l cs × In r cs in
    let both : In l (children t f) × In r (children t f) = subst In_children (sym c.strands) (inl refl, inr (inl refl)) in
    let at_l = child_is t f l both.0 in
    let at_r = child_is t f r both.1 in
    let rises : Rises (l ∷ r ∷ []) = subst Rises c.strands (rises_filter (λ n. nat_lt 0 n && nat_eq (parent_of t n) f) (all_nodes t) (below_rises (length t))) in
    record {
      left = (let up : parent_of t l < l = w.sound.tree.rooted l at_l.some at_l.there in omega (arith, at_l.parent));
      right = (let up : parent_of t r < r = w.sound.tree.rooted r at_r.some at_r.there in omega (arith, at_r.parent));
      differ = λ e. (let less : l < r = rises.0 r (inl refl) in omega arith);
    }

-- a finish that is dead where the strand is dying is allowed
pub as_dying : (d e : Bool) → (if d then d else (not d || e)) ≡ true
as_dying true e = refl
as_dying false e = refl

module _ (rules : Rules) (m : OpenMachine) (w : IsWell m) (f l r : ℕ) (c : HaveCome m f l r) where
  two : TwoStrands m.tree f l r
  two = two_strands m w f l r c

  abbrev one : Bool → OpenMachine
  one dl = after_open_step m (finishes l dl)

  abbrev next : Bool → Bool → OpenMachine
  next dl dr = after_open_step (one dl) (finishes r dr)

  all_finished : (dl dr : Bool) → list_all (has_finished (next dl dr)) (children m.tree f) ≡ true
  all_finished dl dr = rw (c.strands, eq-eqb r r refl, eq-eqb l l refl) (or_true (nat_eq r l)) where
    or_true : (b : Bool) → ((b || true) && true) ≡ true
    or_true true = refl
    or_true false = refl

  either : (dl dr : Bool) → Allowed rules m (finishes l dl) → Allowed rules (one dl) (finishes r dr) → IsRun rules m (join_steps f l r dl dr)
  either dl dr a b = (a, (b, (and_from (is_fork m.tree f && not (has m.joined f)) (list_all (has_finished (next dl dr)) (children m.tree f)) c.fork (all_finished dl dr), tt)))

  right_runs : (dl : Bool) → is_running (one dl) r ≡ true
  right_runs dl = rw (ne_eqb l r two.differ) (and_parts (is_running m r) (not (in_block m r)) c.right).0

  pub may_join : MayFinishAndJoin rules m f l r
  may_join = record {
    as_dying = either (is_dying m l) (is_dying m r)
        (and_from (is_running m l && not (in_block m l)) (if is_dying m l then is_dying m l else (not (is_dying m l) || left_died m l)) c.left (as_dying (is_dying m l) (left_died m l)))
        (and_from (is_running (one (is_dying m l)) r && not (in_block m r)) (if is_dying m r then is_dying m r else (not (is_dying m r) || left_died (one (is_dying m l)) r))
        (and_from (is_running (one (is_dying m l)) r) (not (in_block m r)) (right_runs (is_dying m l)) (and_parts (is_running m r) (not (in_block m r)) c.right).1)
        (as_dying (is_dying m r) (left_died (one (is_dying m l)) r)));
    either = either;
  }

pub strands_may_join : StrandsMayJoin
strands_may_join asked first m reached f l r c = may_join (at_any_time asked) m (states (at_any_time asked) first m reached).well f l r c

-- ## After the join

module _ (m : OpenMachine) (f l r : ℕ) (dl dr : Bool) where
  abbrev k : OpenMachine
  k = after_all m (join_steps f l r dl dr)

  finished_else : (s : ℕ) → s ≢ l → s ≢ r → has_finished k s ≡ has_finished m s
  finished_else s nl nr = rw (ne_eqb r s (λ e. nr (sym e)), ne_eqb l s (λ e. nl (sym e))) refl

  -- what is open in it was, and is not the fork that was joined
  waits_not : (s : ℕ) → ((g : ℕ) → is_fork m.tree g ≡ true → strand_of m.tree g ≡ s → g ≢ f → has m.joined g ≡ true) → waits k s ≡ false
  waits_not s none =
      false_from_ne_true (waits k s) (λ q.
      let z = any_in (λ g. is_fork m.tree g && nat_eq (strand_of m.tree g) s && not (has k.joined g)) (all_nodes m.tree) q in
      let y = and_parts (is_fork m.tree z.0 && nat_eq (strand_of m.tree z.0) s) (not (has k.joined z.0)) z.2 in
      let x = and_parts (is_fork m.tree z.0) (nat_eq (strand_of m.tree z.0) s) y.0 in
      let out = not-true (has k.joined z.0) y.1 in
      elim (cases_eq z.0 f) [
        | inl e ↦ absurd (cc (out, or_left (nat_eq f z.0) (has m.joined z.0) (eq-eqb f z.0 (sym e))))
        | inr ne ↦ absurd (cc (out, or_right (nat_eq f z.0) (has m.joined z.0) (none z.0 x.0 (eqb-true (strand_of m.tree z.0) s x.1) ne)))
      ])

  runs_then : (s : ℕ) → is_strand m.tree s ≡ true → has_finished m s ≡ false → has m.stopped s ≡ false → s ≢ l → s ≢ r
      → ((g : ℕ) → is_fork m.tree g ≡ true → strand_of m.tree g ≡ s → g ≢ f → has m.joined g ≡ true) → is_running k s ≡ true
  runs_then s strand unfinished unstopped nl nr none =
      and_from (is_strand m.tree s && not (has_finished k s) && not (waits k s)) (not (has m.stopped s))
      (and_from (is_strand m.tree s && not (has_finished k s)) (not (waits k s))
      (and_from (is_strand m.tree s) (not (has_finished k s)) strand (not_from_false (has_finished k s) (finished_else s nl nr ∙ unfinished)))
      (not_from_false (waits k s) (waits_not s none)))
      (not_from_false (has m.stopped s) unstopped)

  module _ (w : IsWell m) where
    abbrev t : List Node
    t = m.tree

    rooted : IsRooted t
    rooted = w.sound.tree.rooted

    pub others : (s : ℕ) → s ≢ l → s ≢ r → is_running m s ≡ true → IsLeftAlone m k s
    others s nl nr running =
        let was = runs m w.sound.tree w.nested s running in
        let unstopped = not-true (has m.stopped s) (and_parts (is_strand t s && not (has_finished m s) && not (waits m s)) (not (has m.stopped s)) running).1 in
        let now = runs_then s was.strand was.unfinished unstopped nl nr (λ g fork own ne. was.waits_for_none g fork own) in
        record {
          running = now;
          place = refl;
          begun = refl;
          free = ap (λ q. q && not (is_dying m s)) (now ∙ sym running);
          rolls_back = ap (λ q. q && in_block m s && leads_back m s (place t s)) (now ∙ sym running);
        }

    -- if two open nodes are of one strand, the first is above the second
    in_line : (a b : ℕ) → a < b → b < length t → is_open m a ≡ true → is_open m b ≡ true → strand_of t a ≡ strand_of t b → is_ancestor t a b ≡ true
    in_line a b less hb open_a open_b same =
        true_from_ne_false (is_ancestor t a b) (λ off.
        let tree = w.sound.tree in
        let ha : a < length t = omega arith in
        let one = series_or_parallel t rooted a b ha hb off (ancestor_past t rooted b a ha less) in
        let apart : parallel t a b ≡ true = true_from_ne_false (parallel t a b) (λ e.
        omega (arith, one, ap one_if e, ap one_if (open_last m tree w.nested a b ha hb open_a), ap one_if (open_last m tree w.nested b a hb ha open_b))) in
        let fork = (and_parts (not (is_ancestor t a b) && not (is_ancestor t b a)) (is_fork t (lca t a b)) apart).1 in
        let meet = lca_is_meet t rooted a b ha hb in
        let s = strand_of t a in
        let above_b : is_ancestor t s b ≡ true = (let P : ℕ → Type 0 = λ x. is_ancestor t x b ≡ true in subst P (sym same) (strand_over t rooted b hb)) in
        let s_over : is_ancestor t s (lca t a b) ≡ true = meet.innermost s (strand_over t rooted a ha) above_b in
        let ne : a ≢ lca t a b = λ e. absurd (cc (off, meet.right, ap (λ x. is_ancestor t x b) e)) in
        absurd (within (lca t a b) a ha fork s_over meet.left ne)) where
          -- nothing of a strand is in a fork beneath it
          within : (g n : ℕ) → n < length t → is_fork t g ≡ true → is_ancestor t (strand_of t n) g ≡ true → is_ancestor t g n ≡ true → n ≢ g → ⊥
          within g n h fork over under ne =
              let z = branch t rooted g n h ne under in
              let le = ancestor_le t rooted z.child n h z.over in
              let high : z.child < length t = omega arith in
              let is : is_strand t z.child ≡ true = fork_child t w.sound.tree z.child z.some high (ap (is_fork t) z.parent ∙ fork) in
              let inner = strand_innermost t rooted z.child is n h z.over in
              let low = ancestor_le t rooted (strand_of t n) g (fork_there t g fork) over in
              let up : parent_of t z.child < z.child = rooted z.child z.some high in
              omega (arith, z.parent)

    -- the fork of a strand that has nothing open but what is in it stands at the strand's place
    module _ (fork : is_fork t f ≡ true) (unjoined : has m.joined f ≡ false) where
      abbrev s : ℕ
      s = strand_of t f

      abbrev q : ℕ
      q = parent_of t f

      low : f < length t
      low = fork_there t f fork

      some : 0 < f
      some = fork_some t w.sound.tree.root f fork

      up : q < f
      up = rooted f some low

      open_f : is_open m f ≡ true
      open_f = or_left (is_strand t f && not (has_finished m f) || is_fork t f && not (has m.joined f)) (is_pending t f)
          (or_right (is_strand t f && not (has_finished m f)) (is_fork t f && not (has m.joined f)) (and_from (is_fork t f) (not (has m.joined f)) fork (not_from_false (has m.joined f) unjoined)))

      open_q : is_open m q ≡ true
      open_q = w.nested.outer f some low open_f

      own : strand_of t q ≡ s
      own = sym (strand_of_other t rooted f some low (fork_no_strand t f fork))

      no_fork_q : is_fork t q ≡ false
      no_fork_q = false_from_ne_true (is_fork t q) (λ e. absurd (cc (fork_no_strand t f fork, fork_child t w.sound.tree f some low e)))

      strand : is_strand t s ≡ true
      strand = strand_is t w.sound.tree.root f

      at : StandsAt t s (place t s)
      at = stands_at t rooted s strand

      unfinished : has_finished m s ≡ false
      unfinished = false_from_ne_true (has_finished m s) (λ e.
          let open_s = open_over m w.sound.tree w.nested s f low (strand_over t rooted f low) open_f in
          elim (or_cases (is_strand t s && not (has_finished m s) || is_fork t s && not (has m.joined s)) (is_pending t s) open_s) [
            | inr z ↦ absurd (cc (strand_no_block t s strand, pending_block t s z))
            | inl z ↦ elim (or_cases (is_strand t s && not (has_finished m s)) (is_fork t s && not (has m.joined s)) z) [
              | inl y ↦ absurd (cc (e, not-true (has_finished m s) (and_parts (is_strand t s) (not (has_finished m s)) y).1))
              | inr y ↦ absurd (cc (strand, fork_no_strand t s (and_parts (is_fork t s) (not (has m.joined s)) y).0))
            ]
          ])

      -- a pending block of the strand is not later than that in which it forked
      none_later : (b : ℕ) → q < b → is_pending t b ≡ true → strand_of t b ≡ s → ⊥
      none_later b less pending same =
          let hb : b < length t = node_there (λ y. is_block_kind y.kind && is_pending_state y.state) t b pending in
          let open_b = pending_open m w.sound.tree w.nested b pending in
          let over = in_line q b less hb open_q open_b (own ∙ sym same) in
          let z = branch t rooted q b hb (λ e. omega arith) over in
          let le = ancestor_le t rooted z.child b hb z.over in
          let high : z.child < length t = omega arith in
          let open_c = open_over m w.sound.tree w.nested z.child b hb z.over open_b in
          let plain : is_fork t (parent_of t z.child) ≡ false = ap (is_fork t) z.parent ∙ no_fork_q in
          by_order z.child z.some high z.parent z.over open_c plain (cases_lt z.child f) where
            by_order : (c : ℕ) → 0 < c → c < length t → parent_of t c ≡ q → is_ancestor t c b ≡ true → is_open m c ≡ true → is_fork t (parent_of t c) ≡ false → (c < f) ⊎ (f ≤ c) → ⊥
            by_order c some_c hc at_c over open_c plain (inl l) = cc (open_c, w.nested.last c f some_c l low at_c plain)
            by_order c some_c hc at_c over open_c plain (inr le) = elim (cases_eq c f) [
              | inr ne ↦ cc (open_f, w.nested.last f c some (omega arith) hc (sym at_c) no_fork_q)
              | inl e ↦ (
                  let hb : b < length t = node_there (λ y. is_block_kind y.kind && is_pending_state y.state) t b pending in
                  let under : is_ancestor t f b ≡ true = sym (ap (λ x. is_ancestor t x b) e) ∙ over in
                  let apart : b ≢ f = λ q. absurd (cc (pending_block t b pending, fork_no_block t f fork, ap (is_block t) q)) in
                  let z = branch t rooted f b hb apart under in
                  let le = ancestor_le t rooted z.child b hb z.over in
                  let is : is_strand t z.child ≡ true = fork_child t w.sound.tree z.child z.some (omega arith) (ap (is_fork t) z.parent ∙ fork) in
                  let inner = strand_innermost t rooted z.child is b hb z.over in
                  let below = strand_of_le t rooted f low in
                  let step : parent_of t z.child < z.child = rooted z.child z.some (omega arith) in
                  omega (arith, same, z.parent))
            ]

      place_is : place t s ≡ q
      place_is =
          let p = place t s in
          let lowest : s ≤ q = (let z = strand_of_le t rooted q (let h = low in let u = up in omega arith) in omega (arith, own)) in
          elim (cases_eq p q) [
            | inl e ↦ e
            | inr ne ↦ elim (cases_lt q p) [
              | inl less ↦ elim at.kind [
                | inl e ↦ absurd (omega arith)
                | inr pending ↦ absurd (none_later p less pending at.strand)
              ]
              | inr le ↦ absurd (earlier (omega arith))
            ]
          ] where
            -- the strand stands no earlier than where it forked
            earlier : place t s < q → ⊥
            earlier less = elim (or_cases (is_strand t q || is_fork t q) (is_block t q) (w.sound.tree.parents f low some)) [
              | inr block ↦ at.last q less (open_block m w.sound.tree w.nested q block open_q) own
              | inl z ↦ elim (or_cases (is_strand t q) (is_fork t q) z) [
                | inr e ↦ cc (e, no_fork_q)
                | inl is ↦ (
                    let itself : strand_of t q ≡ q = strand_itself t rooted q is in
                    let over = strand_of_le t rooted (place t s) at.there in
                    omega (arith, own, at.strand))
              ]
            ]

      pub again : l ≢ s → r ≢ s → WaitsForAlone m f → RunsAgain m k s q
      again nl nr alone = record {
        running = runs_then s strand unfinished alone.unstopped (λ e. nl (sym e)) (λ e. nr (sym e)) alone.alone;
        place = place_is;
        begun = refl;
      }

pub joins_leave_alone : JoinsLeaveAlone
joins_leave_alone asked first m reached f l r s dl dr nl nr running = others m f l r dl dr (states (at_any_time asked) first m reached).well s nl nr running

pub forkers_run_again : ForkersRunAgain
forkers_run_again asked first m reached f l r dl dr c alone =
    let w = (states (at_any_time asked) first m reached).well in
    let z = and_parts (is_fork m.tree f) (not (has m.joined f)) c.fork in
    let two = two_strands m w f l r c in
    let high = two.left in
    let low = two.right in
    let le = strand_of_le m.tree w.sound.tree.rooted f (fork_there m.tree f z.0) in
    again m f l r dl dr w z.0 (not-true (has m.joined f) z.1) (λ e. omega arith) (λ e. omega arith) alone
