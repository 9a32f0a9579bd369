-- Trees go on: as nodes come at a place, and as a block is closed.
use Rattle.std.proofs.Common.{◌≡◌, ◌≢◌, ℕ, ◌<◌, ◌≤◌, List, length, refl, ap, ◌∙◌, arith, Bool, true, false, cond, Option, Some, None, inl, inr, nat_le}
use Rattle.std.specs.Prelude.{◌&&◌, not}
use Rattle.std.proofs.lemmas.Bool.{or_cases, or_left, or_right, or_from, le-leb, leb-true, and_from, not_from_false, false_from_ne_true}
use Rattle.cw_tree.specs.declared.node.Node.{Node}
use Rattle.cw_tree.specs.declared.node.BlockState.{BlockState}
use Rattle.cw_tree.specs.Nodes.{passes, is_strand_kind, is_fork_kind, is_block_kind, is_pending_state, is_aborted_state, touches_kind, tries_kind, number_in, stamp_of, end_of, is_pending, closed}
use Rattle.cw_tree.specs.Walks.{IsRooted, is_above}
use Rattle.cw_tree.specs.Series.{is_before}
use Rattle.cw_tree.specs.Shape.{PendingLast}
use Rattle.cw_tree.specs.Attempts.{tried_cell, tried_cell_in}
use Rattle.cw_tree.specs.NextNodes.{is_before_at, IsPlace}
use Rattle.cw_tree.proofs.Walks.There.{node_there}
use Rattle.cw_tree.proofs.NextNodes.Kept.{path_kept}
use Rattle.cw_tree.proofs.Names.Forks.{same_truth}
use Rattle.cw_tree.proofs.Walks.Agreeing.{Agree, agree_back, before_to}
use Rattle.cw_tree.proofs.NextNodes.Closing.{length_closed, node_closed, node_closed_other, number_closed_other, same_closed, rooted_closed}
use Rattle.cw_tree.proofs.NextNodes.Before.{before_closed}
use Rattle.cw_tree.proofs.NextNodes.Pending.{pending_stays}
use Rattle.cw_open.specs.Machine.{OpenMachine}
use Rattle.cw_open.specs.Steps.{Step, after_open_step}
use Rattle.cw_open.specs.Times.{times_after}
use Rattle.cw_open.proofs.Open.Growth.{IsGrowth}
use Rattle.cw_open.proofs.Open.Staying.{keeps, grown_stays, closed_stays}
use Rattle.cw_open.proofs.Refused.Onward.{GoesOn}

-- ## Nodes come

module _ (t u : List Node) (p stamp : ℕ) (r : IsRooted t) (g : IsGrowth t u p stamp) where
  agrees : Agree t u (length t)
  agrees = record {
    there = omega arith;
    there_too = g.longer;
    paths = path_kept t u (keeps t u (grown_stays t u p stamp r g));
    parents = λ n h. ap (number_in (λ y. y.parent)) (g.old n h);
    strands = λ n h. ap (passes (λ y. is_strand_kind y.kind)) (g.old n h);
    forks = λ n h. ap (passes (λ y. is_fork_kind y.kind)) (g.old n h);
    aborted = λ n h. ap (passes (λ y. is_block_kind y.kind && is_aborted_state y.state)) (g.old n h);
  }

  pub before_grown : (n k : ℕ) → n < length t → k < length t → is_before u n k ≡ is_before t n k
  before_grown n k hn hk = same_truth (is_before u n k) (is_before t n k) (before_to u t (length t) (agree_back t u (length t) agrees) g.rooted n k hn hk) (before_to t u (length t) agrees r n k hn hk)

  pub pending_grown : (n : ℕ) → n < length t → is_pending u n ≡ is_pending t n
  pending_grown n h = ap (passes (λ y. is_block_kind y.kind && is_pending_state y.state)) (g.old n h)

  module _ (times after : ℕ → ℕ) (clock : ℕ) (place : IsPlace t p) (last : PendingLast t) (drawn : (n k : ℕ) → n < length t → length t ≤ k → k < length u → 0 < stamp_of u k → is_before_at t n p ≡ true → times n < stamp)
      (same : (n : ℕ) → n < length t → is_pending t n ≡ is_pending u n → after n ≡ times n) (new : (n : ℕ) → length t ≤ n → after n ≡ clock) (latest : (n : ℕ) → n < length u → (stamp_of u n ≤ clock) × (end_of u n ≤ clock)) where
    pub goes_grown : GoesOn times after clock t u
    goes_grown = record {
      stays = grown_stays t u p stamp r g;
      rooted = g.rooted;
      touched = λ c n h. ap (passes (λ y. touches_kind c y.kind)) (g.old n h);
      tried = λ c n h. ap (passes (λ y. tries_kind c y.kind)) (g.old n h);
      cells = λ n h. rw (g.old n h) refl;
      ends = λ n h e. (ap (number_in (λ y. y.end)) (g.old n h), ap (passes (λ y. is_block_kind y.kind && is_aborted_state y.state)) (g.old n h), pending_grown n h ∙ e);
      before = before_grown;
      first = g.first;
      apart = g.apart;
      drawn = λ n k low le h some e.
          (let z = g.before n k low le h some e in (
            false_from_ne_true (is_pending t n) (λ q.
                elim (or_cases (is_above t p n) (is_before t n p) z.0) [
                  | inl y ↦ absurd (cc (q, place.within n low y))
                  | inr y ↦ absurd (cc (y, last.last n p low place.there q))
                ]),
            omega (arith, drawn n k low le h some z.0, z.1),
          ));
      same = same;
      new = new;
      shut = λ n e f. absurd (cc (e, f, pending_grown n (node_there (λ y. is_block_kind y.kind && is_pending_state y.state) t n e)));
      latest = latest;
    }

-- ## A block is closed

-- the cell of which a node is a refused access
abbrev pub tells : Option Node → Option ℕ
tells None = None
tells (Some y) = tried_cell_in y.kind

module _ (t : List Node) (r : IsRooted t) (p : ℕ) (state : BlockState) (end : ℕ) (pending : is_pending t p ≡ true) (done : is_pending_state state ≡ false) where
  abbrev v : List Node
  v = closed t p state end

  pub goes_closed : (times after : ℕ → ℕ) (clock : ℕ) → ((n : ℕ) → n < length t → is_pending t n ≡ is_pending v n → after n ≡ times n) → ((n : ℕ) → length t ≤ n → after n ≡ clock)
      → ((n : ℕ) → is_pending t n ≡ true → is_pending v n ≡ false → after n ≡ clock) → ((n : ℕ) → n < length v → (stamp_of v n ≤ clock) × (end_of v n ≤ clock)) → GoesOn times after clock t v
  goes_closed times after clock same new shut latest =
      let len = length_closed t p state end in
      record {
        stays = closed_stays t r p state end;
        rooted = rooted_closed t p state end r;
        touched = λ c n h. node_closed t p state end (λ y. touches_kind c y.kind) (λ y. refl) n;
        tried = λ c n h. node_closed t p state end (λ y. tries_kind c y.kind) (λ y. refl) n;
        cells = λ n h. cells_closed n;
        ends = λ n h e.
            (let ne : n ≢ p = λ q. absurd (cc (e, pending, ap (is_pending t) q)) in (
              number_closed_other t p state end (λ y. y.end) n ne,
              node_closed_other t p state end (λ y. is_block_kind y.kind && is_aborted_state y.state) n ne,
              pending_stays t p state end n ne ∙ e,
            ));
        before = before_closed t p state end r;
        first = λ k n le h low. absurd (omega arith);
        apart = λ k j le h le' h'. absurd (omega arith);
        drawn = λ n k low le h some e. absurd (omega arith);
        same = same;
        new = new;
        shut = shut;
        latest = latest;
      } where
        cells_closed : (n : ℕ) → tried_cell (closed t p state end) n ≡ tried_cell t n
        cells_closed n = same_closed t p state end tells (λ y. refl) n

-- ## Nothing changes

pub goes_same : (t : List Node) → IsRooted t → (times after : ℕ → ℕ) (clock : ℕ) → ((n : ℕ) → n < length t → after n ≡ times n) → ((n : ℕ) → length t ≤ n → after n ≡ clock) → ((n : ℕ) → n < length t → (stamp_of t n ≤ clock) × (end_of t n ≤ clock)) → GoesOn times after clock t t
goes_same t r times after clock same new latest = record {
  stays = record { longer = omega arith; rooted = r; parents = λ n h. refl; stamps = λ n h. refl; strands = λ n h. refl; forks = λ n h. refl; blocks = λ n h. refl };
  rooted = r;
  touched = λ c n h. refl;
  tried = λ c n h. refl;
  cells = λ n h. refl;
  ends = λ n h e. (refl, refl, e);
  before = λ n k hn hk. refl;
  first = λ k n le h low. absurd (omega arith);
  apart = λ k j le h le' h'. absurd (omega arith);
  drawn = λ n k low le h some e. absurd (omega arith);
  same = λ n h e. same n h;
  new = new;
  shut = λ n e f. absurd (cc (e, f));
  latest = latest;
}

-- ## Times after a step

module _ (times : ℕ → ℕ) (m : OpenMachine) (e : Step) where
  abbrev k : OpenMachine
  k = after_open_step m e

  pub times_same : (n : ℕ) → n < length m.tree → is_pending m.tree n ≡ is_pending k.tree n → times_after times m e n ≡ times n
  times_same n h same =
      ap (λ b. cond b k.clock (times n))
      (or_from (nat_le (length m.tree) n) (is_pending m.tree n && not (is_pending k.tree n)) (false_from_ne_true (nat_le (length m.tree) n) (λ q. absurd (let le = leb-true (length m.tree) n q in omega arith)))
      (ap (λ b. b && not (is_pending k.tree n)) same ∙ never (is_pending k.tree n))) where
        never : (b : Bool) → (b && not b) ≡ false
        never true = refl
        never false = refl

  pub times_new : (n : ℕ) → length m.tree ≤ n → times_after times m e n ≡ k.clock
  times_new n le = ap (λ b. cond b k.clock (times n)) (or_left (nat_le (length m.tree) n) (is_pending m.tree n && not (is_pending k.tree n)) (le-leb (length m.tree) n le))

  pub times_shut : (n : ℕ) → is_pending m.tree n ≡ true → is_pending k.tree n ≡ false → times_after times m e n ≡ k.clock
  times_shut n was shut =
      ap (λ b. cond b k.clock (times n))
      (or_right (nat_le (length m.tree) n) (is_pending m.tree n && not (is_pending k.tree n)) (and_from (is_pending m.tree n) (not (is_pending k.tree n)) was (not_from_false (is_pending k.tree n) shut)))
