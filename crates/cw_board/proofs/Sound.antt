-- Serves `IsSoundToken`: what stays true of a token, whatever it does next.
use Rattle.std.proofs.Common.{◌≡◌, max, append_assoc, ℕ, zero, suc, ◌+◌, ◌*◌, ◌<◌, ◌≤◌, ◌∙◌, List, [], ◌∷◌, ◌++◌, length, length-append, drop, arith, ap, sym, refl, subst, inl, inr}
use Rattle.std.specs.Prelude.{◌||◌, All, slice_get, Some, if◌then◌else◌}
use Rattle.std.proofs.lemmas.List.{length-drop}
use Rattle.std.proofs.lemmas.List.Elements.{All-nil, All-cons, All-contains, All-head, All-tail, All-weaker}
use Rattle.cw_tree.specs.declared.node.Node.{Node}
use Rattle.cw_tree.specs.declared.node.Kind.{Kind}
use Rattle.cw_tree.specs.declared.node.Kind.TheVariants.{Block, Fork, Strand, Tried}
use Rattle.cw_steps.specs.declared.track.Ahead.{Ahead}
use Rattle.cw_tree.specs.declared.node.BlockState.{BlockState}
use Rattle.cw_tree.specs.declared.conflict.Conflict.{Conflict}
use Rattle.cw_tree.specs.Nodes.{parent_of, fresh_node, closed, number_in}
use Rattle.cw_tree.proofs.NextNodes.Closing.{length_closed, number_closed}
use Rattle.cw_log.specs.declared.token.Open.{Open}
use Rattle.cw_log.specs.declared.token.Token.{Token}
use Rattle.cw_log.specs.declared.token.Phase.{Phase}
use Rattle.cw_log.specs.declared.log.Log.{Log}
use Rattle.cw_log.specs.declared.token.Phase.TheVariants.{Going, Parted}
use Rattle.cw_log.specs.declared.token.Side.{Side}
use Rattle.cw_log.specs.declared.token.Side.TheVariants.{Beside, First, Second}
use Rattle.cw_log.specs.Answers.{IsAround}
use Rattle.cw_log.specs.Tokens.{refused, made, began, ended, branched, forked, left_behind, turned, turned_by, taken_in, kept_stop, conflicts_in, logs, HasBlock}
use Rattle.cw_steps.specs.declared.draw.Home.{Home}
use Rattle.cw_steps.specs.declared.draw.Home.TheVariants as home
use Rattle.cw_steps.specs.Stands.{blocks_outside, brought_token, right_token}
use Rattle.cw_steps.specs.Totals.{total}
use Rattle.cw_steps.specs.Views.{share}
use Rattle.cw_board.specs.Turns.{IsOfTier}
use Rattle.cw_board.specs.Sound.{Climbs, ClimbOut, OwnOut, AreLow, IsSoundToken}

-- ## Nodes that stand

node_stays : (ns xs : List Node) (p : ℕ) → p < length ns → slice_get (ns ++ xs) p ≡ slice_get ns p
node_stays [] xs p l = absurd (omega arith)
node_stays (n ∷ ns) xs zero l = refl
node_stays (n ∷ ns) xs (suc p) l = node_stays ns xs p (omega arith)

new_node : (ns : List Node) (x : Node) → slice_get (ns ++ x ∷ []) (length ns) ≡ Some x
new_node [] x = refl
new_node (n ∷ ns) x = new_node ns x

climbs_more : (ns xs : List Node) (s p n : ℕ) → Climbs ns s p n → Climbs (ns ++ xs) s p n
climbs_more ns xs s p zero h = h
climbs_more ns xs s p (suc n) h = (
  omega (arith, length-append ns xs, h.0),
  subst (λ (q : ℕ). Climbs (ns ++ xs) s q n) (sym (ap (number_in (λ y. y.parent)) (node_stays ns xs p h.0))) (climbs_more ns xs s (parent_of ns p) n h.1),
)

out_more : (ns xs : List Node) (os : List Open) (ks : List ℕ) → ClimbOut ns os ks → ClimbOut (ns ++ xs) os ks
out_more ns xs [] ks h = tt
out_more ns xs (o ∷ os) [] h = absurd h
out_more ns xs (o ∷ os) (k ∷ ks) h = (climbs_more ns xs o.strand o.place k h.0, out_more ns xs os ks h.1)

module _ (ns : List Node) (b : ℕ) (state : BlockState) (end : ℕ) where
  same_parent : (p : ℕ) → parent_of (closed ns b state end) p ≡ parent_of ns p
  same_parent p = number_closed ns b state end (λ x. x.parent) (λ x. refl) p

  climbs_closed : (s p n : ℕ) → Climbs ns s p n → Climbs (closed ns b state end) s p n
  climbs_closed s p zero h = h
  climbs_closed s p (suc n) h = (
    omega (arith, length_closed ns b state end, h.0),
    subst (λ (q : ℕ). Climbs (closed ns b state end) s q n) (sym (same_parent p)) (climbs_closed s (parent_of ns p) n h.1),
  )

  out_closed : (os : List Open) (ks : List ℕ) → ClimbOut ns os ks → ClimbOut (closed ns b state end) os ks
  out_closed [] ks h = tt
  out_closed (o ∷ os) [] h = absurd h
  out_closed (o ∷ os) (k ∷ ks) h = (climbs_closed o.strand o.place k h.0, out_closed os ks h.1)

-- ## Greater numbers

low_more : (seen n : ℕ) (bs : List ℕ) → seen ≤ n → AreLow seen bs → AreLow n bs
low_more seen n bs le h = All-weaker (λ b. b ≤ seen) (λ b. b ≤ n) (λ b l. omega (arith, l, le)) bs h

outs_more : (seen n : ℕ) (os : List Open) → seen ≤ n → All (λ (o : Open). AreLow seen o.around) os → All (λ (o : Open). AreLow n o.around) os
outs_more seen n os le h = All-weaker (λ (o : Open). AreLow seen o.around) (λ (o : Open). AreLow n o.around) (λ o l. low_more seen n o.around le l) os h

victims_more : (seen n : ℕ) (cs : List Conflict) → seen ≤ n → All (λ (c : Conflict). c.victim ≤ seen) cs → All (λ (c : Conflict). c.victim ≤ n) cs
victims_more seen n cs le h = All-weaker (λ (c : Conflict). c.victim ≤ seen) (λ (c : Conflict). c.victim ≤ n) (λ c l. omega (arith, l, le)) cs h

low_rest : (seen : ℕ) (bs : List ℕ) → AreLow seen bs → AreLow seen (drop 1 bs)
low_rest seen [] h = h
low_rest seen (b ∷ bs) h = All-tail (λ c. c ≤ seen) b bs h

-- ## What a token does

module _ (x : Token) (room seen : ℕ) (h : IsSoundToken x room seen) where
  own_from : (k : ℕ) → Climbs x.own.nodes x.strand x.place k → k + blocks_outside x.forks ≤ length x.around → HasBlock x → blocks_outside x.forks < length x.around
  own_from zero p own block = absurd (block p)
  own_from (suc k) p own block = omega (arith, own)

  -- the innermost block around it was begun in its strand
  pub own_block : HasBlock x → blocks_outside x.forks < length x.around
  own_block block = own_from h.begun h.path h.own block

  module _ (room' n : ℕ) (paid : room ≤ room' + 1) (less : seen < n) where
    pub sound_made : (k : Kind) → IsSoundToken (made x k n) room' n
    sound_made k = record {
      begun = h.begun;
      waiting = h.waiting;
      path = climbs_more x.own.nodes (fresh_node x.place k n ∷ []) x.strand x.place h.begun h.path;
      outer = out_more x.own.nodes (fresh_node x.place k n ∷ []) x.forks h.waiting h.outer;
      own = h.own;
      outer_own = h.outer_own;
      numbers = omega (arith, h.numbers, paid, length-append x.own.nodes (fresh_node x.place k n ∷ []));
      around = low_more seen n x.around (omega (arith, less)) h.around;
      outer_around = outs_more seen n x.forks (omega (arith, less)) h.outer_around;
      victims = victims_more seen n (conflicts_in (logs x)) (omega (arith, less)) h.victims;
    }

    pub sound_began : IsSoundToken (began x n) room' n
    sound_began =
        let more : List Node = x.own.nodes ++ fresh_node x.place Block n ∷ [] in
        let parent : parent_of more (length x.own.nodes) ≡ x.place = ap (number_in (λ y. y.parent)) (new_node x.own.nodes (fresh_node x.place Block n)) in
        record {
          begun = suc h.begun;
          waiting = h.waiting;
          path = (
            omega (arith, length-append x.own.nodes (fresh_node x.place Block n ∷ [])),
            subst (λ (q : ℕ). Climbs more x.strand q h.begun) (sym parent) (climbs_more x.own.nodes (fresh_node x.place Block n ∷ []) x.strand x.place h.begun h.path),
          );
          outer = out_more x.own.nodes (fresh_node x.place Block n ∷ []) x.forks h.waiting h.outer;
          own = omega (arith, h.own);
          outer_own = h.outer_own;
          numbers = omega (arith, h.numbers, paid, length-append x.own.nodes (fresh_node x.place Block n ∷ []));
          around = All-cons (λ b. b ≤ n) n x.around (omega arith) (low_more seen n x.around (omega (arith, less)) h.around);
          outer_around = outs_more seen n x.forks (omega (arith, less)) h.outer_around;
          victims = victims_more seen n (conflicts_in (logs x)) (omega (arith, less)) h.victims;
        }

    ended_from : (state : BlockState) (k : ℕ) → Climbs x.own.nodes x.strand x.place k → share + k + total (λ j. j) h.waiting ≤ room + 2 * length x.own.nodes → k + blocks_outside x.forks ≤ length x.around → HasBlock x
        → IsSoundToken (ended x state n) room' n
    ended_from state zero p numbers own block = absurd (block p)
    ended_from state (suc k) p numbers own block = record {
      begun = k;
      waiting = h.waiting;
      path = climbs_closed x.own.nodes x.place state n x.strand (parent_of x.own.nodes x.place) k p.1;
      outer = out_closed x.own.nodes x.place state n x.forks h.waiting h.outer;
      own = omega (arith, own, length-drop 1 x.around);
      outer_own = h.outer_own;
      numbers = omega (arith, numbers, paid, length_closed x.own.nodes x.place state n);
      around = low_rest n x.around (low_more seen n x.around (omega (arith, less)) h.around);
      outer_around = outs_more seen n x.forks (omega (arith, less)) h.outer_around;
      victims = victims_more seen n (conflicts_in (logs x)) (omega (arith, less)) h.victims;
    }

    pub sound_ended : (state : BlockState) → HasBlock x → IsSoundToken (ended x state n) room' n
    sound_ended state block = ended_from state h.begun h.path h.numbers h.own block

-- ## What does not change the log

module _ (x : Token) (room seen : ℕ) (h : IsSoundToken x room seen) where
  pub sound_phase : (phase : Phase) → IsSoundToken (record x { phase = phase }) room seen
  sound_phase phase = record { begun = h.begun; waiting = h.waiting; path = h.path; outer = h.outer; own = h.own; outer_own = h.outer_own; numbers = h.numbers; around = h.around; outer_around = h.outer_around; victims = h.victims }

  -- ## From one strand of a fork to the next

  out_of : (o : Open) (os : List Open) (ks : List ℕ) → ClimbOut x.own.nodes (o ∷ os) ks → OwnOut (o ∷ os) ks → share + h.begun + total (λ k. k) ks ≤ room + 2 * length x.own.nodes
      → All (λ (p : Open). AreLow seen p.around) (o ∷ os) → IsSoundToken (left_behind x (o ∷ os)) room seen
  out_of o os [] climb own numbers low = absurd climb
  out_of o os (k ∷ ks) climb own numbers low = record {
    begun = k;
    waiting = ks;
    path = climb.0;
    outer = climb.1;
    own = own.0;
    outer_own = own.1;
    numbers = omega (arith, numbers);
    around = All-head (λ (p : Open). AreLow seen p.around) o os low;
    outer_around = All-tail (λ (p : Open). AreLow seen p.around) o os low;
    victims = h.victims;
  }

  pub sound_behind : (o : Open) (os : List Open) → x.forks ≡ o ∷ os → IsSoundToken (left_behind x (o ∷ os)) room seen
  sound_behind o os e = out_of o os h.waiting (subst (λ ps. ClimbOut x.own.nodes ps h.waiting) e h.outer) (subst (λ ps. OwnOut ps h.waiting) e h.outer_own) h.numbers (subst (λ ps. All (λ (p : Open). AreLow seen p.around) ps) e h.outer_around)

  second_of : (o : Open) (os : List Open) (right : ℕ) (ks : List ℕ) → ClimbOut x.own.nodes (o ∷ os) ks → OwnOut (o ∷ os) ks → share + h.begun + total (λ k. k) ks ≤ room + 2 * length x.own.nodes
      → All (λ (p : Open). AreLow seen p.around) (o ∷ os)
      → IsSoundToken (record x { strand = right; place = right; around = o.around; forks = record o { side = Second } ∷ os }) room seen
  second_of o os right [] climb own numbers low = absurd climb
  second_of o os right (k ∷ ks) climb own numbers low = record {
    begun = 0;
    waiting = k ∷ ks;
    path = refl;
    outer = (climb.0, climb.1);
    own = omega arith;
    outer_own = (own.0, own.1);
    numbers = omega (arith, numbers);
    around = All-head (λ (p : Open). AreLow seen p.around) o os low;
    outer_around = All-cons (λ (p : Open). AreLow seen p.around) (record o { side = Second }) os (All-head (λ (p : Open). AreLow seen p.around) o os low) (All-tail (λ (p : Open). AreLow seen p.around) o os low);
    victims = h.victims;
  }

  turned_side : (o : Open) (os : List Open) (s : Side) → x.forks ≡ record o { side = s } ∷ os → IsSoundToken (turned_by x (record o { side = s } ∷ os)) room seen
  turned_side o os (Beside fork) e = h
  turned_side o os (First right) e =
      let o' : Open = record o { side = First right } in
      second_of o' os right h.waiting (subst (λ ps. ClimbOut x.own.nodes ps h.waiting) e h.outer) (subst (λ ps. OwnOut ps h.waiting) e h.outer_own) h.numbers (subst (λ ps. All (λ (p : Open). AreLow seen p.around) ps) e h.outer_around)
  turned_side o os Second e = sound_behind (record o { side = Second }) os e

  turned_from : (os : List Open) → x.forks ≡ os → IsSoundToken (turned_by x os) room seen
  turned_from [] e = h
  turned_from (o ∷ os) e = turned_side o os o.side e

  pub sound_turned : IsSoundToken (turned x) room seen
  sound_turned = turned_from x.forks refl

pub sound_later : (x : Token) (room seen n : ℕ) → seen ≤ n → IsSoundToken x room seen → IsSoundToken x room n
sound_later x room seen n le h = record {
  begun = h.begun;
  waiting = h.waiting;
  path = h.path;
  outer = h.outer;
  own = h.own;
  outer_own = h.outer_own;
  numbers = h.numbers;
  around = low_more seen n x.around le h.around;
  outer_around = outs_more seen n x.forks le h.outer_around;
  victims = victims_more seen n (conflicts_in (logs x)) le h.victims;
}

pub sound_brought : (m : Home) (x : Token) (room seen : ℕ) → IsOfTier m → IsSoundToken x room seen → IsSoundToken (brought_token m x) room seen
sound_brought (home.Refused c) x room seen of h = absurd of
sound_brought home.Plain x room seen of h = h
sound_brought (home.Split fork used) x room seen of h = record { begun = h.begun; waiting = h.waiting; path = h.path; outer = h.outer; own = h.own; outer_own = h.outer_own; numbers = h.numbers; around = h.around; outer_around = h.outer_around; victims = h.victims }
sound_brought (home.Merge fork used) x room seen of h = sound_phase x room seen h Going
sound_brought (home.Inline used) x room seen of h = h
sound_brought (home.Early before used) x room seen of h = h

-- ## Forks

module _ (x : Token) (room seen : ℕ) (h : IsSoundToken x room seen) (room' n : ℕ) (paid : room ≤ room' + 1) (less : seen < n) where
  pub sound_forked : (fork : ℕ) → IsSoundToken (forked x n fork) room' n
  sound_forked fork =
      let xs : List Node = fresh_node x.place Fork n ∷ fresh_node (length x.own.nodes) Strand 0 ∷ [] in record {
        begun = 0;
        waiting = h.begun ∷ h.waiting;
        path = refl;
        outer = (climbs_more x.own.nodes xs x.strand x.place h.begun h.path, out_more x.own.nodes xs x.forks h.waiting h.outer);
        own = omega arith;
        outer_own = (h.own, h.outer_own);
        numbers = omega (arith, h.numbers, paid, length-append x.own.nodes xs);
        around = low_more seen n x.around (omega (arith, less)) h.around;
        outer_around = All-cons (λ (o : Open). AreLow n o.around) (record { side = Beside fork; strand = x.strand; place = x.place; around = x.around }) x.forks (low_more seen n x.around (omega (arith, less)) h.around)
            (outs_more seen n x.forks (omega (arith, less)) h.outer_around);
        victims = victims_more seen n (conflicts_in (logs x)) (omega (arith, less)) h.victims;
      }

  pub sound_branched : IsSoundToken (branched x n) room' n
  sound_branched =
      let xs : List Node = fresh_node x.place Fork n ∷ fresh_node (length x.own.nodes) Strand 0 ∷ fresh_node (length x.own.nodes) Strand 0 ∷ [] in record {
        begun = 0;
        waiting = h.begun ∷ h.waiting;
        path = refl;
        outer = (climbs_more x.own.nodes xs x.strand x.place h.begun h.path, out_more x.own.nodes xs x.forks h.waiting h.outer);
        own = omega arith;
        outer_own = (h.own, h.outer_own);
        numbers = omega (arith, h.numbers, paid, length-append x.own.nodes xs);
        around = low_more seen n x.around (omega (arith, less)) h.around;
        outer_around = All-cons (λ (o : Open). AreLow n o.around) (record { side = First (length x.own.nodes + 2); strand = x.strand; place = x.place; around = x.around }) x.forks (low_more seen n x.around (omega (arith, less)) h.around)
            (outs_more seen n x.forks (omega (arith, less)) h.outer_around);
        victims = victims_more seen n (conflicts_in (logs x)) (omega (arith, less)) h.victims;
      }

-- the right strand of a fork, with the numbers of its column
pub sound_right : (x : Token) (room seen : ℕ) (a : Ahead) → IsSoundToken x room seen → IsSoundToken (right_token x a) share seen
sound_right x room seen a h = record {
  begun = 0;
  waiting = [];
  path = refl;
  outer = tt;
  own = omega arith;
  outer_own = tt;
  numbers = omega arith;
  around = h.around;
  outer_around = All-nil (λ (o : Open). AreLow seen o.around);
  victims = All-nil (λ (c : Conflict). c.victim ≤ seen);
}

-- ## Logs that come together

conflicts_of_both : (ls ms : List Log) → conflicts_in (ls ++ ms) ≡ conflicts_in ls ++ conflicts_in ms
conflicts_of_both [] ms = refl
conflicts_of_both (l ∷ ls) ms = ap (λ cs. l.conflicts ++ cs) (conflicts_of_both ls ms) ∙ sym (append_assoc l.conflicts (conflicts_in ls) (conflicts_in ms))

all_both : (P : Conflict → Type 0) (xs ys : List Conflict) → All P xs → All P ys → All P (xs ++ ys)
all_both P [] ys a b = b
all_both P (x ∷ xs) ys a b = All-cons P x (xs ++ ys) (All-head P x xs a) (all_both P xs ys (All-tail P x xs a) b)

module _ (x y : Token) (room seen room' seen' : ℕ) (h : IsSoundToken x room seen) (g : IsSoundToken y room' seen') where
  victims_of_both : All (λ (c : Conflict). c.victim ≤ max seen seen') (conflicts_in (x.own ∷ x.joined ++ y.own ∷ y.joined))
  victims_of_both = subst (All (λ (c : Conflict). c.victim ≤ max seen seen')) (sym (conflicts_of_both (x.own ∷ x.joined) (y.own ∷ y.joined)))
      (all_both (λ (c : Conflict). c.victim ≤ max seen seen') (conflicts_in (x.own ∷ x.joined)) (conflicts_in (y.own ∷ y.joined))
      (victims_more seen (max seen seen') (conflicts_in (logs x)) (omega arith) h.victims) (victims_more seen' (max seen seen') (conflicts_in (logs y)) (omega arith) g.victims))

  pub sound_joined : (o : Open) (os : List Open) → x.forks ≡ o ∷ os → IsSoundToken (taken_in x y) (room + room') (max seen seen')
  sound_joined o os e =
      let q = sound_behind x room seen h o os e in
      let z : IsSoundToken (record (left_behind x (o ∷ os)) { joined = x.joined ++ y.own ∷ y.joined; phase = (if y.split then Parted y.fork else Going); stop = kept_stop x.stop y.stop; told = x.told || y.told }) (room + room') (max seen seen') = record {
        begun = q.begun;
        waiting = q.waiting;
        path = q.path;
        outer = q.outer;
        own = q.own;
        outer_own = q.outer_own;
        numbers = omega (arith, q.numbers);
        around = low_more seen (max seen seen') o.around (omega arith) q.around;
        outer_around = outs_more seen (max seen seen') os (omega arith) q.outer_around;
        victims = victims_of_both;
      } in
      subst (λ ps. IsSoundToken (record (left_behind x ps) { joined = x.joined ++ y.own ∷ y.joined; phase = (if y.split then Parted y.fork else Going); stop = kept_stop x.stop y.stop; told = x.told || y.told }) (room + room') (max seen seen')) (sym e) z

-- ## Refused accesses

all_split : (P : Conflict → Type 0) (xs ys : List Conflict) → All P (xs ++ ys) → All P xs × All P ys
all_split P [] ys all = (All-nil P, all)
all_split P (x ∷ xs) ys all =
    let q = all_split P xs ys (All-tail P x (xs ++ ys) all) in
    (All-cons P x xs (All-head P x (xs ++ ys) all) q.0, q.1)

-- a block around it was begun before the greatest number that it knows
pub around_low : (x : Token) (seen begin : ℕ) → AreLow seen x.around → IsAround x begin → begin ≤ seen
around_low x seen begin low (inl e) = omega (arith, e)
around_low x seen begin low (inr h) = All-contains (λ b. b ≤ seen) x.around begin low h

pub sound_refused : (x : Token) (room seen : ℕ) (c : Conflict) → IsSoundToken x room seen → c.victim ≤ seen → IsSoundToken (refused x c) room seen
sound_refused x room seen c h low =
    let node : Node = fresh_node x.place (Tried c.cell) 0 in
    let P : Conflict → Type 0 = λ k. k.victim ≤ seen in
    let both = all_split P x.own.conflicts (conflicts_in x.joined) h.victims in record {
      begun = h.begun;
      waiting = h.waiting;
      path = climbs_more x.own.nodes (node ∷ []) x.strand x.place h.begun h.path;
      outer = out_more x.own.nodes (node ∷ []) x.forks h.waiting h.outer;
      own = h.own;
      outer_own = h.outer_own;
      numbers = omega (arith, h.numbers, length-append x.own.nodes (node ∷ []));
      around = h.around;
      outer_around = h.outer_around;
      victims = all_both P (x.own.conflicts ++ c ∷ []) (conflicts_in x.joined) (all_both P x.own.conflicts (c ∷ []) both.0 (All-cons P c [] low (All-nil P))) both.1;
    }
