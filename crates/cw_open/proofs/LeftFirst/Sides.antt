-- A right strand has something in it only where its left one has finished: this stays true as nodes come, as blocks are closed and as
-- strands finish.
use Rattle.std.proofs.Common.{◌≡◌, ℕ, suc, ◌<◌, List, [], ◌∷◌, ◌++◌, length, refl, ap, sym, ◌∙◌, subst, arith, Bool, true, false}
use Rattle.std.specs.Prelude.{◌||◌}
use Rattle.cw_tree.specs.declared.node.Node.{Node}
use Rattle.cw_tree.specs.declared.node.Kind.TheVariants.{Strand, Fork}
use Rattle.cw_tree.specs.declared.node.BlockState.{BlockState}
use Rattle.cw_tree.specs.Nodes.{is_fork_kind, is_strand, is_block, parent_of, is_fork, fresh_node, closed}
use Rattle.cw_tree.specs.Walks.{IsRooted}
use Rattle.cw_tree.specs.Shape.{IsTree}
use Rattle.cw_tree.specs.NextNodes.{fork_nodes}
use Rattle.cw_tree.proofs.NextNodes.Growing.{length_more, node_grown, number_grown, number_new}
use Rattle.cw_tree.proofs.NextNodes.Closing.{length_closed, node_closed, number_closed}
use Rattle.cw_tree.proofs.NextNodes.Trees.{each_more, hung_one, hung_two, in_turn, no_fork}

-- the left strand of the fork in which q is the right one has finished
abbrev pub LeftDone : List Node → (ℕ → Bool) → ℕ → Type 0
LeftDone t done q = (l : ℕ) → 0 < l → l < q → parent_of t l ≡ parent_of t q → is_fork t (parent_of t q) ≡ true → done l ≡ true

-- so it is of each node that something is in
abbrev pub RightsWait : List Node → (ℕ → Bool) → Type 0
RightsWait t done = (k : ℕ) → 0 < k → k < length t → LeftDone t done (parent_of t k)

-- ## One node more

module _ (t : List Node) (r : IsRooted t) (done : ℕ → Bool) (x : Node) where
  abbrev u : List Node
  u = t ++ x ∷ []

  up : (n : ℕ) → n < length t → parent_of u n ≡ parent_of t n
  up = number_grown t (x ∷ []) (λ y. y.parent)

  -- what was there before
  pub left_grown : (q : ℕ) → q < length t → LeftDone t done q → LeftDone u done q
  left_grown q h old l some less same fork =
      let low : parent_of t q < q = r q (omega arith) h in
      old l some less (sym (up l (omega arith)) ∙ same ∙ up q h) (sym (node_grown t (x ∷ []) (λ y. is_fork_kind y.kind) (parent_of t q) (omega arith)) ∙ ap (is_fork u) (sym (up q h)) ∙ fork)

  module _ (there : x.parent < length t) where
    -- what comes, where that is in no fork
    pub left_new : is_fork t x.parent ≡ false → LeftDone u done (length t)
    left_new none l some less same fork =
        absurd (cc (none, fork, ap (is_fork u) (number_new t x (λ y. y.parent)), node_grown t (x ∷ []) (λ y. is_fork_kind y.kind) x.parent there))

    pub rights_more : RightsWait t done → LeftDone t done x.parent → RightsWait u done
    rights_more old here k some h =
        each_more t x (λ k. 0 < k → LeftDone u done (parent_of u k))
        (λ k h some. let low : parent_of t k < k = r k some h in let P : ℕ → Type 0 = λ q. LeftDone u done q in subst P (sym (up k h)) (left_grown (parent_of t k) (omega arith) (old k some h)))
        (λ some. let P : ℕ → Type 0 = λ q. LeftDone u done q in subst P (sym (number_new t x (λ y. y.parent))) (left_grown x.parent there here)) k h some

-- ## A fork with its strands

pub rights_fork : (t : List Node) → IsTree t → (done : ℕ → Bool) (p stamp : ℕ) → p < length t → (is_strand t p || is_block t p) ≡ true → RightsWait t done → LeftDone t done p
    → RightsWait (t ++ fork_nodes (length t) p stamp) done
rights_fork t tree done p stamp there holds old here =
    let n = length t in
    let a = fresh_node p Fork stamp in
    let b = fresh_node n Strand 0 in
    let one = t ++ a ∷ [] in
    let two = one ++ b ∷ [] in
    let r = (hung_one t p stamp tree there holds).rooted in
    let q = (hung_two t p stamp tree there holds).rooted in
    let len : length one ≡ suc n = length_more t a in
    let more : length two ≡ suc (length one) = length_more one b in
    let fork_one : LeftDone one done n = left_new t tree.rooted done a there (no_fork t p holds) in
    let in_one : RightsWait one done = rights_more t tree.rooted done a there old here in
    let in_two : RightsWait two done = rights_more one r done b (omega arith) in_one fork_one in
    let P : List Node → Type 0 = λ u. RightsWait u done in
    subst P (sym (in_turn t p stamp tree there holds)) (rights_more two q done b (omega arith) in_two (left_grown one r done b n (omega arith) fork_one))

-- ## Blocks are closed, and strands finish

pub rights_closed : (t : List Node) (done : ℕ → Bool) (b : ℕ) (state : BlockState) (end : ℕ) → RightsWait t done → RightsWait (closed t b state end) done
rights_closed t done b state end old k some h l pos less same fork =
    let up : (n : ℕ) → parent_of (closed t b state end) n ≡ parent_of t n = number_closed t b state end (λ y. y.parent) (λ y. refl) in
    let kind : (n : ℕ) → is_fork (closed t b state end) n ≡ is_fork t n = node_closed t b state end (λ y. is_fork_kind y.kind) (λ y. refl) in
    old k some (omega (arith, length_closed t b state end)) l pos (omega (arith, up k)) (sym (up l) ∙ same ∙ up (parent_of (closed t b state end) k) ∙ ap (parent_of t) (up k))
    (ap (is_fork t) (ap (parent_of t) (sym (up k)) ∙ sym (up (parent_of (closed t b state end) k))) ∙ sym (kind _) ∙ fork)

pub rights_later : (t : List Node) (done more : ℕ → Bool) → ((n : ℕ) → done n ≡ true → more n ≡ true) → RightsWait t done → RightsWait t more
rights_later t done more grows old k some h l pos less same fork = grows l (old k some h l pos less same fork)
