-- The way down to the place of one worker, as its tree grows.
use Rattle.std.proofs.Common.{◌≡◌, ℕ, zero, suc, ◌<◌, ◌≤◌, List, [], ◌∷◌, ◌++◌, length, refl, ap, sym, ◌∙◌, arith, Bool, true, false, subst}
use Rattle.std.specs.Prelude.{All, IsTrue}
use Rattle.std.proofs.lemmas.List.Elements.{All-nil, All-cons}
use Rattle.cw_tree.specs.declared.node.Node.{Node}
use Rattle.cw_tree.specs.declared.node.Kind.{Kind}
use Rattle.cw_tree.specs.declared.node.Kind.TheVariants.{Strand, Fork, Block}
use Rattle.cw_tree.specs.declared.node.BlockState.TheVariants.{Committed}
use Rattle.cw_tree.specs.declared.picks.Turn.{Turn}
use Rattle.cw_tree.specs.Nodes.{is_node, is_strand_kind, is_fork_kind, is_block_kind, parent_of, is_strand, is_fork, is_block, fresh_node, closed}
use Rattle.cw_tree.specs.Walks.{IsRooted}
use Rattle.cw_tree.specs.Series.{strand_of}
use Rattle.cw_tree.specs.Names.{fork_number, name_of}
use Rattle.cw_tree.proofs.Walks.Ancestors.{ancestor_self}
use Rattle.cw_tree.proofs.Walks.Strands.{strand_of_root, strand_of_strand, strand_of_other, strand_of_le}
use Rattle.cw_tree.proofs.NextNodes.Growing.{length_more, node_new, number_new, node_grown, number_grown}
use Rattle.cw_tree.proofs.NextNodes.Closing.{node_closed, number_closed}
use Rattle.cw_tree.proofs.Walks.StrandForks.{forks_of}
use Rattle.cw_tree.proofs.NodeKinds.{other_some, block_no_strand, fork_no_strand}
use Rattle.cw_record.specs.Items.{is_act_kind}
use Rattle.cw_record.proofs.OneWorker.Building.{IsBuilt}
use Rattle.cw_record.specs.Drawn.{added, added_fork}
use Rattle.cw_record.proofs.OneWorker.GrowingNames.{name_beside, fork_number_beside, forks_beside, forks_new, name_closed, fork_number_closed, forks_closed, name_forked, fork_number_forked, forks_forked_here, forks_forked_elsewhere, fork_number_forked_next, name_left, forks_left, name_right}
use Rattle.cw_record.proofs.OneWorker.Descending.{Crossing, way_of, Descends}

-- the root alone is in no block and made no fork
pub descends_root : Descends (fresh_node 0 Strand 0 ∷ []) 0 [] 0 0
descends_root = (refl, refl)

-- ## What stands on a way

module _ (t : List Node) (r : IsRooted t) (root : is_strand t 0 ≡ true) where
  -- what is no strand stands beneath its parent, in the same strand
  other_low : (n : ℕ) → n < length t → is_strand t n ≡ false → parent_of t n < n
  other_low n h e = r n (other_some t root n e) h

  other_strand : (n : ℕ) → n < length t → is_strand t n ≡ false → strand_of t n ≡ strand_of t (parent_of t n)
  other_strand n h e = strand_of_other t r n (other_some t root n e) h e

  -- the strand of the place has the name of the way, and made k forks
  strand_of_way : (p : ℕ) (c : List Crossing) (b k : ℕ) → p < length t → Descends t p c b k → (name_of t (strand_of t p) ≡ way_of c) × (forks_of t (strand_of t p) ≡ k)
  strand_of_way p c (suc b) k h d =
      let e : is_strand t p ≡ false = block_no_strand t p d.0 in
      let low : parent_of t p < p = other_low p h e in
      let same : strand_of t p ≡ strand_of t (parent_of t p) = other_strand p h e in
      let more = strand_of_way (parent_of t p) c b k (omega arith) d.1 in
      (ap (name_of t) same ∙ more.0, ap (forks_of t) same ∙ more.1)
  strand_of_way p [] zero k h d =
      let own : strand_of t p ≡ 0 = ap (strand_of t) d.0 ∙ strand_of_root t in
      (ap (name_of t) own, ap (forks_of t) own ∙ d.1)
  strand_of_way p (x ∷ c) zero k h d =
      let own : strand_of t p ≡ p = strand_of_strand t r p d.0 h d.1 in
      (ap (name_of t) own ∙ d.5, ap (forks_of t) own ∙ d.6)

  -- a fork on the way, and its parent, have smaller numbers than the strand beneath it
  pub crossed_low : (p : ℕ) (x : Crossing) (c : List Crossing) (k : ℕ) → p < length t → Descends t p (x ∷ c) zero k → (parent_of t x.node < x.node) × (x.node < p)
  crossed_low p x c k h d =
      let low : parent_of t p < p = r p d.0 h in
      let under : x.node < p = let up : parent_of t p ≡ x.node = d.2 in omega arith in
      (other_low x.node (omega arith) (fork_no_strand t x.node d.3), under)

  nodes_there : (p : ℕ) (c : List Crossing) (b k : ℕ) → p < length t → Descends t p c b k → All (λ x. x.node < length t) c
  nodes_there p c (suc b) k h d =
      let low : parent_of t p < p = other_low p h (block_no_strand t p d.0) in
      nodes_there (parent_of t p) c b k (omega arith) d.1
  nodes_there p [] zero k h d = All-nil (λ x. x.node < length t)
  nodes_there p (x ∷ c) zero k h d =
      let low = crossed_low p x c k h d in
      All-cons (λ x. x.node < length t) x c (omega arith) (nodes_there (parent_of t x.node) c x.blocks x.turn.fork (omega arith) d.7)

-- ## Trees that keep a way

-- in tree u the nodes of tree t stand where they stand, as what they are, and have their names and numbers
record KeepsWay (t u : List Node) : Type 0 where
  kinds : (f : Kind → Bool) (n : ℕ) → n < length t → is_node (λ x. f x.kind) u n ≡ is_node (λ x. f x.kind) t n
  parents : (n : ℕ) → n < length t → parent_of u n ≡ parent_of t n
  numbers : (n : ℕ) → n < length t → fork_number u n ≡ fork_number t n
  names : (n : ℕ) → n < length t → name_of u n ≡ name_of t n

module _ (t : List Node) (r : IsRooted t) (root : is_strand t 0 ≡ true) (u : List Node) (w : KeepsWay t u) where
  -- also where the strand of the place forked
  way_forks : (p : ℕ) (c : List Crossing) (b k j : ℕ) → p < length t → ((n : ℕ) → n < strand_of t p → forks_of u n ≡ forks_of t n) → forks_of u (strand_of t p) ≡ j → Descends t p c b k → Descends u p c b j
  way_forks p c (suc b) k j h out here d =
      let e : is_strand t p ≡ false = block_no_strand t p d.0 in
      let low : parent_of t p < p = other_low t r root p h e in
      let same : strand_of t p ≡ strand_of t (parent_of t p) = other_strand t r root p h e in
      let P : ℕ → Type 0 = λ n. Descends u n c b j in
      (w.kinds is_block_kind p h ∙ d.0, subst P (sym (w.parents p h)) (way_forks (parent_of t p) c b k j (omega arith) (λ n l. out n (omega arith)) (ap (forks_of u) (sym same) ∙ here) d.1))
  way_forks p [] zero k j h out here d = (d.0, ap (forks_of u) (sym (ap (strand_of t) d.0 ∙ strand_of_root t)) ∙ here)
  way_forks p (x ∷ c) zero k j h out here d =
      let low = crossed_low t r root p x c k h d in
      let there : x.node < length t = omega arith in
      let up : parent_of t x.node < length t = omega arith in
      let own : strand_of t p ≡ p = strand_of_strand t r p d.0 h d.1 in
      let outer : strand_of t (parent_of t x.node) ≤ parent_of t x.node = strand_of_le t r (parent_of t x.node) up in
      let P : ℕ → Type 0 = λ n. Descends u n c x.blocks x.turn.fork in (
        d.0,
        w.kinds is_strand_kind p h ∙ d.1,
        w.parents p h ∙ d.2,
        w.kinds is_fork_kind x.node there ∙ d.3,
        w.numbers x.node there ∙ d.4,
        w.names p h ∙ d.5,
        ap (forks_of u) (sym own) ∙ here,
        subst P (sym (w.parents x.node there))
            (way_forks (parent_of t x.node) c x.blocks x.turn.fork x.turn.fork up (λ n l. out n (omega arith))
            (out (strand_of t (parent_of t x.node)) (omega arith) ∙ (strand_of_way t r root (parent_of t x.node) c x.blocks x.turn.fork up d.7).1) d.7),
      )

  -- where no strand forked
  way_kept : ((n : ℕ) → forks_of u n ≡ forks_of t n) → (p : ℕ) (c : List Crossing) (b k : ℕ) → p < length t → Descends t p c b k → Descends u p c b k
  way_kept same p c b k h d = way_forks p c b k k h (λ n l. same n) (same (strand_of t p) ∙ (strand_of_way t r root p c b k h d).1) d

-- ## A node that is no fork, anywhere

module _ (t : List Node) (r : IsRooted t) (root : is_strand t 0 ≡ true) (f : ℕ) (there : f < length t) (kind : Kind) (st : ℕ) (other : is_fork_kind kind ≡ false) where
  pub way_beside : (p : ℕ) (c : List Crossing) (b k : ℕ) → p < length t → Descends t p c b k → Descends (added t f kind st) p c b k
  way_beside =
      way_kept t r root (added t f kind st)
      (record {
        kinds = λ g n h. node_grown t (fresh_node f kind st ∷ []) (λ x. g x.kind) n h;
        parents = number_grown t (fresh_node f kind st ∷ []) (λ x. x.parent);
        numbers = fork_number_beside t r f there kind st other;
        names = name_beside t r f there kind st other;
      })
      (forks_beside t r f there kind st other)

-- ## The steps

act_no_fork : (k : Kind) → is_act_kind k ≡ true → is_fork_kind k ≡ false
act_no_fork Fork e = absurd (cc e)
act_no_fork _ e = refl

module _ (t : List Node) (p clock : ℕ) (built : IsBuilt t p clock) where
  pub strand_down : (c : List Crossing) (b k : ℕ) → Descends t p c b k → (name_of t (strand_of t p) ≡ way_of c) × (forks_of t (strand_of t p) ≡ k)
  strand_down c b k d = strand_of_way t built.rooted built.root p c b k built.there d

  pub crossings_there : (c : List Crossing) (b k : ℕ) → Descends t p c b k → All (λ x. x.node < length t) c
  crossings_there c b k d = nodes_there t built.rooted built.root p c b k built.there d

  pub way_leaf : (kind : Kind) (st : ℕ) → is_act_kind kind ≡ true → (c : List Crossing) (b k : ℕ) → Descends t p c b k → Descends (added t p kind st) p c b k
  way_leaf kind st act c b k d = way_beside t built.rooted built.root p built.there kind st (act_no_fork kind act) p c b k built.there d

  pub way_begin : (st : ℕ) (c : List Crossing) (b k : ℕ) → Descends t p c b k → Descends (added t p Block st) (length t) c (suc b) k
  way_begin st c b k d =
      let P : ℕ → Type 0 = λ n. Descends (added t p Block st) n c b k in (
        node_new t (fresh_node p Block st) (λ x. is_block_kind x.kind),
        subst P (sym (number_new t (fresh_node p Block st) (λ x. x.parent))) (way_beside t built.rooted built.root p built.there Block st refl p c b k built.there d),
      )

  pub way_end : (st : ℕ) (c : List Crossing) (b k : ℕ) → Descends t p c (suc b) k → Descends (closed t p Committed st) (parent_of t p) c b k
  way_end st c b k d =
      let pending = built.pending p d.0 (ancestor_self t p) in
      let there = built.there in
      let low : parent_of t p < p = other_low t built.rooted built.root p there (block_no_strand t p d.0) in
      way_kept t built.rooted built.root (closed t p Committed st)
      (record {
        kinds = λ g n h. node_closed t p Committed st (λ x. g x.kind) (λ x. refl) n;
        parents = λ n h. number_closed t p Committed st (λ x. x.parent) (λ x. refl) n;
        numbers = fork_number_closed t built.rooted p st pending;
        names = name_closed t built.rooted p st pending;
      })
      (forks_closed t built.rooted p st pending) (parent_of t p) c b k (omega arith) d.1

  pub way_fork : (st : ℕ) (c : List Crossing) (b k : ℕ) → Descends t p c b k
      → Descends (added_fork t p st) (suc (length t)) ((let x : Crossing = record { node = length t; turn = record { fork = suc k; right = false }; blocks = b } in x) ∷ c) 0 0
  way_fork st c b k d =
      let there = built.there in
      let u = added t p Fork st in
      let v = added_fork t p st in
      let long : length u ≡ suc (length t) = length_more t (fresh_node p Fork st) in
      let down = strand_down c b k d in
      let P : ℕ → Type 0 = λ n. Descends v n c b (suc k) in
      let at_fork : parent_of v (length t) ≡ p = number_grown u (fresh_node (length t) Strand 0 ∷ []) (λ x. x.parent) (length t) (omega arith) ∙ number_new t (fresh_node p Fork st) (λ x. x.parent) in
      let kept : KeepsWay t v = record {
        kinds = λ g n h. node_grown u (fresh_node (length t) Strand 0 ∷ []) (λ x. g x.kind) n (omega arith) ∙ node_grown t (fresh_node p Fork st ∷ []) (λ x. g x.kind) n h;
        parents = λ n h. number_grown u (fresh_node (length t) Strand 0 ∷ []) (λ x. x.parent) n (omega arith) ∙ number_grown t (fresh_node p Fork st ∷ []) (λ x. x.parent) n h;
        numbers = fork_number_forked t p clock built st;
        names = name_forked t p clock built st;
      } in (
        omega arith,
        ap (is_strand v) (sym long) ∙ node_new u (fresh_node (length t) Strand 0) (λ x. is_strand_kind x.kind),
        ap (parent_of v) (sym long) ∙ number_new u (fresh_node (length t) Strand 0) (λ x. x.parent),
        node_grown u (fresh_node (length t) Strand 0 ∷ []) (λ x. is_fork_kind x.kind) (length t) (omega arith) ∙ node_new t (fresh_node p Fork st) (λ x. is_fork_kind x.kind),
        fork_number_forked_next t p clock built st ∙ ap suc down.1,
        name_left t p clock built st
            ∙ ap (λ ns. ns ++ (let x : Turn = record { fork = suc (forks_of t (strand_of t p)); right = false } in x) ∷ []) down.0
            ∙ ap (λ j. way_of c ++ (let x : Turn = record { fork = suc j; right = false } in x) ∷ []) down.1,
        forks_left t p clock built st,
        subst P (sym at_fork)
            (way_forks t built.rooted built.root v kept p c b k (suc k) there (λ n l. forks_forked_elsewhere t p clock built st n (λ e. omega arith))
            (forks_forked_here t p clock built st ∙ ap suc down.1) d),
      )

  -- a fork on the way that is left
  module _ (x : Crossing) (c : List Crossing) (k : ℕ) (d : Descends t p (x ∷ c) 0 k) where
    low : (parent_of t x.node < x.node) × (x.node < p)
    low = crossed_low t built.rooted built.root p x c k built.there d

    pub crossed_there : x.node < length t
    crossed_there = let there = built.there in let l = low in omega arith

    pub crossed_parent : parent_of t p ≡ x.node
    crossed_parent = d.2

    pub crossed_some : 0 < p
    crossed_some = d.0

    pub crossed_strand : IsTrue (is_strand t p)
    crossed_strand = d.1

    pub crossed_fork : IsTrue (is_fork t (parent_of t p))
    crossed_fork = ap (is_fork t) d.2 ∙ d.3

    pub way_join : Descends t (parent_of t x.node) c x.blocks x.turn.fork
    way_join = d.7

    -- the right strand
    pub way_turn : Descends (added t x.node Strand 0) (length t) ((let y : Crossing = record { node = x.node; turn = record { fork = x.turn.fork; right = true }; blocks = x.blocks } in y) ∷ c) 0 0
    way_turn =
        let u = added t x.node Strand 0 in
        let there : x.node < length t = crossed_there in
        let l = low in
        let up : parent_of t x.node < length t = omega arith in
        let some : 0 < p = d.0 in
        let outer = strand_of_way t built.rooted built.root (parent_of t x.node) c x.blocks x.turn.fork up d.7 in
        let same : strand_of t x.node ≡ strand_of t (parent_of t x.node) = other_strand t built.rooted built.root x.node there (fork_no_strand t x.node d.3) in
        let P : ℕ → Type 0 = λ n. Descends u n c x.blocks x.turn.fork in (
          omega arith,
          node_new t (fresh_node x.node Strand 0) (λ y. is_strand_kind y.kind),
          number_new t (fresh_node x.node Strand 0) (λ y. y.parent),
          node_grown t (fresh_node x.node Strand 0 ∷ []) (λ y. is_fork_kind y.kind) x.node there ∙ d.3,
          fork_number_beside t built.rooted x.node there Strand 0 refl x.node there ∙ d.4,
          name_right t built.rooted x.node p there some built.there d.1 d.2
              ∙ ap (λ s. name_of t s ++ (let y : Turn = record { fork = fork_number t x.node; right = true } in y) ∷ []) same
              ∙ ap (λ ns. ns ++ (let y : Turn = record { fork = fork_number t x.node; right = true } in y) ∷ []) outer.0
              ∙ ap (λ j. way_of c ++ (let y : Turn = record { fork = j; right = true } in y) ∷ []) d.4,
          forks_new t built.rooted x.node there Strand 0 refl,
          subst P (sym (number_grown t (fresh_node x.node Strand 0 ∷ []) (λ y. y.parent) x.node there)) (way_beside t built.rooted built.root x.node there Strand 0 refl (parent_of t x.node) c x.blocks x.turn.fork up d.7),
        )

pub way_block : (t : List Node) (p : ℕ) (c : List Crossing) (b k : ℕ) → Descends t p c (suc b) k → IsTrue (is_block t p)
way_block t p c b k d = d.0

pub way_root : (t : List Node) (p k : ℕ) → Descends t p [] 0 k → p ≡ 0
way_root t p k d = d.0
