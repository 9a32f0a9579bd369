-- One worker's next step: the tree is still one that a worker builds, and its items are those so far, with the step's own at the end.
use Rattle.std.proofs.Common.{◌≡◌, ℕ, zero, suc, ◌<◌, ◌≤◌, List, [], ◌∷◌, ◌++◌, length, refl, ap, sym, ◌∙◌, arith, true, false, None, subst}
use Rattle.std.specs.Prelude.{◌||◌}
use Rattle.std.proofs.lemmas.Bool.{or_left, or_right}
use Rattle.cw_tree.specs.declared.node.Node.{Node}
use Rattle.cw_tree.specs.declared.node.Kind.{Kind}
use Rattle.cw_tree.specs.declared.node.Kind.TheVariants.{Strand, Fork, Block}
use Rattle.cw_tree.specs.declared.node.BlockState.TheVariants.{Committed}
use Rattle.cw_tree.specs.Nodes.{parent_of, is_strand, is_fork, is_block, is_strand_kind, is_fork_kind, is_block_kind, fresh_node, closed}
use Rattle.cw_tree.proofs.NextNodes.Growing.{length_more, node_new, number_new}
use Rattle.cw_tree.proofs.NextNodes.Closing.{node_closed, number_closed}
use Rattle.cw_tree.proofs.NodeKinds.{block_some, fork_some, fork_no_block, strand_no_block, strand_no_fork}
use Rattle.cw_record.specs.declared.items.OrderItem.TheVariants.{Begins, Does, Ends}
use Rattle.cw_record.specs.Items.{is_act_kind, items_in}
use Rattle.cw_record.proofs.OneWorker.Building.{IsBuilt, open_items}
use Rattle.cw_record.specs.Drawn.{added}
use Rattle.cw_record.proofs.OneWorker.Moves.{IsGrowing, of_built, to_built, root_no_block, place_kept, growing_root, growing_down, growing_up, growing_closed}
use Rattle.cw_record.proofs.Members.{act_no_block}
use Rattle.cw_record.proofs.Orders.Alike.{levels_more}
use Rattle.cw_record.proofs.OneWorker.NewMembers.{items_down, items_up}
use Rattle.cw_record.proofs.OneWorker.LastItems.{levels_added, leaf_last, begin_last, end_last}

-- ## The start

pub built_root : IsBuilt (fresh_node 0 Strand 0 ∷ []) 0 0
built_root = to_built (fresh_node 0 Strand 0 ∷ []) 0 0 growing_root refl

pub root_items : open_items (fresh_node 0 Strand 0 ∷ []) 0 ≡ []
root_items = refl

-- ## What is common to the steps

module _ (t : List Node) (p c : ℕ) (g : IsGrowing t p c) where
  one_level : items_in t p (suc (length t)) None ≡ items_in t p (length t) None
  one_level = levels_more t g.rooted (root_no_block t p c g) p g.there (length t) None (let there = g.there in omega arith) (omega arith)

  two_levels : items_in t p (suc (suc (length t))) None ≡ items_in t p (length t) None
  two_levels = levels_more t g.rooted (root_no_block t p c g) p g.there (suc (length t)) None (let there = g.there in omega arith) (omega arith) ∙ one_level

  -- a new node that is no block, and the place stays
  growing_stay : (kind : Kind) (stamp d : ℕ) → stamp ≤ d → c ≤ d → ((is_fork_kind kind || is_block_kind kind) ≡ true → (is_strand t p || is_block t p) ≡ true) → is_block_kind kind ≡ false → IsGrowing (added t p kind stamp) p d
  growing_stay kind stamp d low later fits other =
      let u = added t p kind stamp in
      let x = fresh_node p kind stamp in
      let P : ℕ → Type 0 = λ m. IsGrowing u m d in
      subst P (number_new t x (λ y. y.parent))
      (growing_up u (length t) d (growing_down t p c g kind stamp d low later fits) (let there = g.there in omega arith) (node_new t x (λ y. is_block_kind y.kind) ∙ other))

  -- a new strand, and the place goes there
  growing_strand : IsGrowing (added t p Strand 0) (length t) c
  growing_strand = growing_down t p c g Strand 0 c (omega arith) (omega arith) (λ e. absurd (cc e))

  strand_place : (is_strand (added t p Strand 0) (length t) || is_block (added t p Strand 0) (length t)) ≡ true
  strand_place = or_left (is_strand (added t p Strand 0) (length t)) (is_block (added t p Strand 0) (length t)) (node_new t (fresh_node p Strand 0) (λ y. is_strand_kind y.kind))

  -- a child of a fork is not the root
  forked_some : (n : ℕ) → is_fork t (parent_of t n) ≡ true → 0 < n
  forked_some zero e = absurd (let no = (strand_no_fork t 0 g.root) in let yes = sym (ap (is_fork t) g.top) ∙ e in cc)
  forked_some (suc n) e = omega arith

module _ (t : List Node) (p c : ℕ) (b : IsBuilt t p c) where
  g : IsGrowing t p c
  g = of_built t p c b

  -- ## Accesses and outputs

  pub leaf_built : (kind : Kind) (st : ℕ) → is_act_kind kind ≡ true → c < st → IsBuilt (added t p kind st) p st
  leaf_built kind st act later =
      let fits = λ (e : (is_fork_kind kind || is_block_kind kind) ≡ true). b.place in
      to_built (added t p kind st) p st (growing_stay t p c g kind st st (omega arith) (omega arith) fits (act_no_block kind act))
      (place_kept t p c g kind st st (omega arith) (omega arith) fits p b.there b.place)

  pub leaf_items : (kind : Kind) (st : ℕ) → is_act_kind kind ≡ true → c < st → open_items (added t p kind st) p ≡ open_items t p ++ Does (length t) ∷ []
  leaf_items kind st act later = leaf_last t p c g kind st later act

  -- ## Blocks

  pub begin_built : (st : ℕ) → c < st → IsBuilt (added t p Block st) (length t) st
  begin_built st later =
      let u = added t p Block st in
      to_built u (length t) st (growing_down t p c g Block st st (omega arith) (omega arith) (λ e. b.place))
      (or_right (is_strand u (length t)) (is_block u (length t)) (node_new t (fresh_node p Block st) (λ y. is_block_kind y.kind)))

  pub begin_items : (st : ℕ) → open_items (added t p Block st) (length t) ≡ open_items t p ++ Begins (length t) ∷ []
  begin_items st = begin_last t p c g st

  pub end_built : (st : ℕ) → is_block t p ≡ true → c < st → IsBuilt (closed t p Committed st) (parent_of t p) st
  end_built st block later =
      let v = closed t p Committed st in
      let closes = growing_closed t p c g (block_some t b.root p block) st (omega arith) block in
      let P : ℕ → Type 0 = λ m. (is_strand v m || is_block v m) ≡ true in
      to_built v (parent_of t p) st closes
      (subst P (number_closed t p Committed st (λ y. y.parent) (λ y. refl) p) (closes.blocks p (node_closed t p Committed st (λ y. is_block_kind y.kind) (λ y. refl) p ∙ block)))

  pub end_items : (st : ℕ) → is_block t p ≡ true → c < st → open_items (closed t p Committed st) (parent_of t p) ≡ open_items t p ++ Ends p ∷ []
  end_items st block later = end_last t p c g (block_some t b.root p block) block st (omega arith)

  -- ## Forks

  forking : (st : ℕ) → c < st → IsGrowing (added t p Fork st) (length t) st
  forking st later = growing_down t p c g Fork st st (omega arith) (omega arith) (λ e. b.place)

  -- a fork, and its left strand begins
  pub fork_built : (st : ℕ) → c < st → IsBuilt (added (added t p Fork st) (length t) Strand 0) (suc (length t)) st
  fork_built st later =
      let u = added t p Fork st in
      let P : ℕ → Type 0 = λ m. IsBuilt (added u (length t) Strand 0) m st in
      subst P (length_more t (fresh_node p Fork st))
      (to_built (added u (length t) Strand 0) (length u) st (growing_strand u (length t) st (forking st later)) (strand_place u (length t) st (forking st later)))

  pub fork_items : (st : ℕ) → c < st → open_items (added (added t p Fork st) (length t) Strand 0) (suc (length t)) ≡ open_items t p
  fork_items st later =
      let u = added t p Fork st in
      let f = forking st later in
      let long : length u ≡ suc (length t) = length_more t (fresh_node p Fork st) in
      ap (open_items (added u (length t) Strand 0)) (sym long)
      ∙ levels_added u (length t) Strand 0 (length u)
      ∙ items_down u f.rooted (length t) f.there Strand 0 refl refl (suc (length u)) None
      ∙ items_down t b.rooted p b.there Fork st refl refl (suc (length u)) None
      ∙ ap (λ k. items_in t p (suc k) None) long
      ∙ two_levels t p c g

  module _ (strand : is_strand t p ≡ true) (fork : is_fork t (parent_of t p) ≡ true) where
    no_block : is_block t p ≡ false
    no_block = (strand_no_block t p strand)

    some : 0 < p
    some = forked_some t p c g p fork

    up : IsGrowing t (parent_of t p) c
    up = growing_up t p c g some no_block

    -- the strand has ended, and the right one begins
    pub turn_built : IsBuilt (added t (parent_of t p) Strand 0) (length t) c
    turn_built = to_built (added t (parent_of t p) Strand 0) (length t) c (growing_strand t (parent_of t p) c up) (strand_place t (parent_of t p) c up)

    pub turn_items : open_items (added t (parent_of t p) Strand 0) (length t) ≡ open_items t p
    turn_items =
        levels_added t (parent_of t p) Strand 0 (length t)
        ∙ items_down t b.rooted (parent_of t p) up.there Strand 0 refl refl (suc (length t)) None
        ∙ items_up t b.rooted p some b.there no_block (suc (length t)) None
        ∙ one_level t p c g

    -- both have, and it goes on after the fork
    pub join_built : IsBuilt t (parent_of t (parent_of t p)) c
    join_built =
        to_built t (parent_of t (parent_of t p)) c (growing_up t (parent_of t p) c up (fork_some t b.root (parent_of t p) fork) (fork_no_block t (parent_of t p) fork)) (b.forks (parent_of t p) fork)

    pub join_items : open_items t (parent_of t (parent_of t p)) ≡ open_items t p
    join_items =
        items_up t b.rooted (parent_of t p) (fork_some t b.root (parent_of t p) fork) up.there (fork_no_block t (parent_of t p) fork) (length t) None
        ∙ items_up t b.rooted p some b.there no_block (length t) None
