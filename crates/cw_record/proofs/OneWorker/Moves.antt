-- Where the place of a tree that one worker builds may go: down to a new node, or up from one that is no open block.
use Rattle.std.proofs.Common.{◌≡◌, ℕ, zero, suc, ◌<◌, ◌≤◌, List, [], ◌∷◌, length, refl, ap, sym, ◌∙◌, arith, Bool, true, false, inl, inr, subst, nat_eq}
use Rattle.std.specs.Prelude.{◌⊎◌, ◌&&◌, ◌||◌, slice_get}
use Rattle.std.proofs.lemmas.Bool.{ne_eqb, and_from, or_left, or_right, cases_eq, cases_lt, false_from_ne_true}
use Rattle.std.proofs.lemmas.Option.{slice_get_past}
use Rattle.cw_tree.specs.declared.node.Node.{Node}
use Rattle.cw_tree.specs.declared.node.Kind.{Kind}
use Rattle.cw_tree.specs.declared.node.Kind.TheVariants.{Strand}
use Rattle.cw_tree.specs.declared.node.BlockState.TheVariants.{Committed}
use Rattle.cw_tree.specs.Nodes.{parent_of, stamp_of, end_of, is_node, number_in, is_strand, is_fork, is_block, is_pending, is_committed, is_strand_kind, is_fork_kind, is_block_kind, is_pending_state, is_committed_state, fresh_node, closed}
use Rattle.cw_tree.specs.Walks.{IsRooted, is_ancestor}
use Rattle.cw_tree.proofs.Lists.{at_or_before}
use Rattle.cw_tree.proofs.Walks.Ancestors.{ancestor_self, ancestor_root, ancestor_step, ancestor_up, ancestor_le}
use Rattle.cw_tree.proofs.NextNodes.Growing.{length_more, node_grown, number_grown, ancestor_grown, node_new, number_new, rooted_more, ancestor_new}
use Rattle.cw_tree.proofs.NextNodes.Closing.{length_closed, node_closed, node_closed_other, number_closed, number_closed_other, state_closed, end_closed, rooted_closed, ancestor_closed}
use Rattle.cw_record.proofs.OneWorker.Building.{IsBuilt}
use Rattle.cw_record.specs.Drawn.{added}
use Rattle.cw_tree.proofs.NextNodes.Trees.{each_more}
use Rattle.cw_tree.proofs.Walks.There.{node_there}
use Rattle.cw_tree.proofs.NodeKinds.{new_open, strand_no_block}

-- what is true of such a tree wherever the place is, also where it is a fork, an access or an output
pub record IsGrowing (t : List Node) (p clock : ℕ) : Type 0 where
  pub rooted : IsRooted t
  pub root : is_strand t 0 ≡ true
  pub top : parent_of t 0 ≡ 0
  pub there : p < length t
  pub forks : (f : ℕ) → is_fork t f ≡ true → (is_strand t (parent_of t f) || is_block t (parent_of t f)) ≡ true
  pub blocks : (b : ℕ) → is_block t b ≡ true → (is_strand t (parent_of t b) || is_block t (parent_of t b)) ≡ true
  pub pending : (b : ℕ) → is_block t b ≡ true → is_ancestor t b p ≡ true → is_pending t b ≡ true
  pub committed : (b : ℕ) → is_block t b ≡ true → is_ancestor t b p ≡ false → is_committed t b ≡ true
  pub numbered : (n : ℕ) → suc n < length t → is_ancestor t (parent_of t (suc n)) n ≡ true
  pub last : (c m : ℕ) → is_ancestor t c p ≡ true → c ≤ m → m < length t → is_ancestor t c m ≡ true
  pub stamps : (n : ℕ) → stamp_of t n ≤ clock
  pub ends : (n : ℕ) → end_of t n ≤ clock

pub of_built : (t : List Node) (p c : ℕ) → IsBuilt t p c → IsGrowing t p c
of_built t p c b = record {
  rooted = b.rooted;
  root = b.root;
  top = b.top;
  there = b.there;
  forks = b.forks;
  blocks = b.blocks;
  pending = b.pending;
  committed = λ m e off. b.committed m e (λ over. absurd (cc (off, over)));
  numbered = b.numbered;
  last = b.last;
  stamps = b.stamps;
  ends = b.ends;
}

pub to_built : (t : List Node) (p c : ℕ) → IsGrowing t p c → (is_strand t p || is_block t p) ≡ true → IsBuilt t p c
to_built t p c g place = record {
  rooted = g.rooted;
  root = g.root;
  top = g.top;
  there = g.there;
  place = place;
  forks = g.forks;
  blocks = g.blocks;
  pending = g.pending;
  committed = λ m e off. g.committed m e (false_from_ne_true (is_ancestor t m p) off);
  numbered = g.numbered;
  last = g.last;
  stamps = g.stamps;
  ends = g.ends;
}

pub root_no_block : (t : List Node) (p c : ℕ) → IsGrowing t p c → is_block t 0 ≡ false
root_no_block t p c g = (strand_no_block t 0 g.root)

-- ## Down

module _ (t : List Node) (p c : ℕ) (g : IsGrowing t p c) (kind : Kind) (stamp d : ℕ) (low : stamp ≤ d) (later : c ≤ d)
    (fits : (is_fork_kind kind || is_block_kind kind) ≡ true → (is_strand t p || is_block t p) ≡ true) where
  abbrev n : ℕ
  n = length t

  abbrev x : Node
  x = fresh_node p kind stamp

  abbrev u : List Node
  u = added t p kind stamp

  len : length u ≡ suc n
  len = length_more t x

  -- what is true of all nodes that pass a test and were there, and of the new one where it does
  any : (f : Node → Bool) (P : ℕ → Type 0) → ((m : ℕ) → m < n → is_node f t m ≡ true → P m) → (f x ≡ true → P n) → (m : ℕ) → is_node f u m ≡ true → P m
  any f P old new m e =
      each_more t x (λ m. is_node f u m ≡ true → P m) (λ m h e. old m h (sym (node_grown t (x ∷ []) f m h) ∙ e)) (λ e. new (sym (node_new t x f) ∙ e)) m (node_there f u m e) e

  number_each : (f : Node → ℕ) → ((m : ℕ) → number_in f (slice_get t m) ≤ c) → f x ≤ d → (m : ℕ) → number_in f (slice_get u m) ≤ d
  number_each f old new m =
      elim (cases_lt m (length u)) [
        | inl h ↦ each_more t x (λ m. number_in f (slice_get u m) ≤ d) (λ k l. let o = old k in omega (arith, number_grown t (x ∷ []) f k l)) (omega (arith, number_new t x f)) m h
        | inr h ↦ omega (arith, ap (number_in f) (slice_get_past u m h))
      ]

  over_old : (a m : ℕ) → m < n → is_ancestor u a m ≡ is_ancestor t a m
  over_old a m h = ancestor_grown t (x ∷ []) g.rooted a m h

  over_new : (a : ℕ) → is_ancestor u a n ≡ (nat_eq n a || is_ancestor t a p)
  over_new a = ancestor_new t x g.rooted g.there a

  -- an old node is on the way to the new one just if it is on the way to its parent
  over_less : (a : ℕ) → a < n → is_ancestor u a n ≡ is_ancestor t a p
  over_less a h = over_new a ∙ ap (λ b. b || is_ancestor t a p) (ne_eqb n a (λ e. omega arith))

  pub place_kept : (m : ℕ) → m < n → (is_strand t m || is_block t m) ≡ true → (is_strand u m || is_block u m) ≡ true
  place_kept m h e = ap (λ b. b || is_block u m) (node_grown t (x ∷ []) (λ y. is_strand_kind y.kind) m h) ∙ ap (λ b. is_strand t m || b) (node_grown t (x ∷ []) (λ y. is_block_kind y.kind) m h) ∙ e

  parent_low : (m : ℕ) → m < n → parent_of t m < n
  parent_low zero h = omega (arith, g.top)
  parent_low (suc m) h = let l : parent_of t (suc m) < suc m = g.rooted (suc m) (omega arith) h in omega arith

  parent_old : (m : ℕ) → m < n → (is_strand t (parent_of t m) || is_block t (parent_of t m)) ≡ true → (is_strand u (parent_of u m) || is_block u (parent_of u m)) ≡ true
  parent_old m h e =
      let P : ℕ → Type 0 = λ k. (is_strand u k || is_block u k) ≡ true in
      subst P (sym (number_grown t (x ∷ []) (λ y. y.parent) m h)) (place_kept (parent_of t m) (parent_low m h) e)

  parent_new : (is_strand t p || is_block t p) ≡ true → (is_strand u (parent_of u n) || is_block u (parent_of u n)) ≡ true
  parent_new e =
      let P : ℕ → Type 0 = λ k. (is_strand u k || is_block u k) ≡ true in
      subst P (sym (number_new t x (λ y. y.parent))) (place_kept p g.there e)

  last_more : (a m : ℕ) → is_ancestor u a n ≡ true → a ≤ m → m < length u → is_ancestor u a m ≡ true
  last_more a m e le h =
      each_more t x (λ m. a ≤ m → is_ancestor u a m ≡ true)
      (λ m h le. over_old a m h ∙ g.last a m (sym (over_less a (omega arith)) ∙ e) le h)
      (λ le. e) m h le

  numbered_old : (m : ℕ) → suc m < n → is_ancestor u (parent_of u (suc m)) m ≡ true
  numbered_old m h = ap (λ k. is_ancestor u k m) (number_grown t (x ∷ []) (λ y. y.parent) (suc m) h) ∙ (over_old (parent_of t (suc m)) m (omega arith) ∙ g.numbered m h)

  numbered_new : (m : ℕ) → suc m ≡ n → is_ancestor u (parent_of u (suc m)) m ≡ true
  numbered_new m e =
      let there = g.there in
      ap (λ k. is_ancestor u (parent_of u k) m) e
      ∙ (ap (λ k. is_ancestor u k m) (number_new t x (λ y. y.parent)) ∙ (over_old p m (omega arith) ∙ g.last p m (ancestor_self t p) (omega arith) (omega arith)))

  numbered_more : (m : ℕ) → suc m < length u → is_ancestor u (parent_of u (suc m)) m ≡ true
  numbered_more m h = elim (at_or_before (suc m) n (omega (arith, len))) [ inl l ↦ numbered_old m l | inr e ↦ numbered_new m (sym e) ]

  -- a new node, and its place goes there
  pub growing_down : IsGrowing u n d
  growing_down = record {
    rooted = rooted_more t x g.rooted g.there;
    root = let there = g.there in node_grown t (x ∷ []) (λ y. is_strand_kind y.kind) 0 (omega arith) ∙ g.root;
    top = let there = g.there in number_grown t (x ∷ []) (λ y. y.parent) 0 (omega arith) ∙ g.top;
    there = omega (arith, len);
    forks = any (λ y. is_fork_kind y.kind) (λ m. (is_strand u (parent_of u m) || is_block u (parent_of u m)) ≡ true) (λ m h e. parent_old m h (g.forks m e))
        (λ e. parent_new (fits (or_left (is_fork_kind kind) (is_block_kind kind) e)));
    blocks = any (λ y. is_block_kind y.kind) (λ m. (is_strand u (parent_of u m) || is_block u (parent_of u m)) ≡ true) (λ m h e. parent_old m h (g.blocks m e))
        (λ e. parent_new (fits (or_right (is_fork_kind kind) (is_block_kind kind) e)));
    pending = any (λ y. is_block_kind y.kind) (λ m. is_ancestor u m n ≡ true → is_pending u m ≡ true)
        (λ m h e over. node_grown t (x ∷ []) (λ y. is_block_kind y.kind && is_pending_state y.state) m h ∙ g.pending m e (sym (over_less m h) ∙ over))
        (λ e over. node_new t x (λ y. is_block_kind y.kind && is_pending_state y.state) ∙ new_open kind ∙ e);
    committed = any (λ y. is_block_kind y.kind) (λ m. is_ancestor u m n ≡ false → is_committed u m ≡ true)
        (λ m h e off. node_grown t (x ∷ []) (λ y. is_block_kind y.kind && is_committed_state y.state) m h ∙ g.committed m e (sym (over_less m h) ∙ off))
        (λ e off. absurd (let self = ancestor_self u n in cc));
    numbered = numbered_more;
    last = last_more;
    stamps = number_each (λ y. y.stamp) g.stamps low;
    ends = number_each (λ y. y.end) g.ends (omega arith);
  }

-- ## Up

module _ (t : List Node) (p c : ℕ) (g : IsGrowing t p c) (some : 0 < p) where
  up_low : parent_of t p < length t
  up_low = let there = g.there in let low : parent_of t p < p = g.rooted p some there in omega arith

  over_up : (a : ℕ) → is_ancestor t a (parent_of t p) ≡ true → is_ancestor t a p ≡ true
  over_up a e = ancestor_up t g.rooted a p some g.there e

  pub growing_up : is_block t p ≡ false → IsGrowing t (parent_of t p) c
  growing_up other = record {
    rooted = g.rooted;
    root = g.root;
    top = g.top;
    there = up_low;
    forks = g.forks;
    blocks = g.blocks;
    pending = λ b e over. g.pending b e (over_up b over);
    committed = λ b e off. g.committed b e (ancestor_step t g.rooted b p some g.there (λ same. let P : ℕ → Type 0 = λ m. is_block t m ≡ true in absurd (cc (other, subst P (sym same) e))) ∙ off);
    numbered = g.numbered;
    last = λ a m over le h. g.last a m (over_up a over) le h;
    stamps = g.stamps;
    ends = g.ends;
  }

  module _ (stamp : ℕ) (later : c ≤ stamp) (block : is_block t p ≡ true) where
    abbrev v : List Node
    v = closed t p Committed stamp

    as_long : length v ≡ length t
    as_long = length_closed t p Committed stamp

    keeps : (f : Node → Bool) → ((y : Node) → f (record y { state = Committed; end = stamp }) ≡ f y) → (m : ℕ) → is_node f v m ≡ is_node f t m
    keeps f e m = node_closed t p Committed stamp f e m

    up_same : (m : ℕ) → parent_of v m ≡ parent_of t m
    up_same m = number_closed t p Committed stamp (λ y. y.parent) (λ y. refl) m

    over_same : (a m : ℕ) → m < length t → is_ancestor v a m ≡ is_ancestor t a m
    over_same a m h = ancestor_closed t p Committed stamp g.rooted a m h

    place_same : (m : ℕ) → (is_strand t (parent_of t m) || is_block t (parent_of t m)) ≡ true → (is_strand v (parent_of v m) || is_block v (parent_of v m)) ≡ true
    place_same m e =
        ap (λ k. is_strand v k || is_block v k) (up_same m)
        ∙ ap (λ b. b || is_block v (parent_of t m)) (keeps (λ y. is_strand_kind y.kind) (λ y. refl) (parent_of t m))
        ∙ ap (λ b. is_strand t (parent_of t m) || b) (keeps (λ y. is_block_kind y.kind) (λ y. refl) (parent_of t m))
        ∙ e

    -- the parent is no block that is there twice: it has a smaller number
    other_up : (b : ℕ) → is_ancestor t b (parent_of t p) ≡ true → b ≡ p → ⊥
    other_up b over e =
        let there = g.there in
        let low : parent_of t p < p = g.rooted p some there in
        let le : b ≤ parent_of t p = ancestor_le t g.rooted b (parent_of t p) up_low over in
        omega arith

    committed_up : (b : ℕ) → is_block t b ≡ true → is_ancestor t b (parent_of t p) ≡ false → (b ≡ p) ⊎ (b ≡ p → ⊥) → is_committed v b ≡ true
    committed_up b e off (inl same) =
        ap (is_committed v) same ∙ state_closed t p Committed stamp is_committed_state ∙ and_from (is_block t p) true block refl
    committed_up b e off (inr ne) =
        node_closed_other t p Committed stamp (λ y. is_block_kind y.kind && is_committed_state y.state) b ne
        ∙ g.committed b e (ancestor_step t g.rooted b p some g.there (λ same. ne (sym same)) ∙ off)

    end_up : (m : ℕ) → (m ≡ p) ⊎ (m ≡ p → ⊥) → end_of v m ≤ stamp
    end_up m (inl e) = omega (arith, ap (end_of v) e, end_closed t p Committed stamp g.there)
    end_up m (inr ne) = let o = g.ends m in omega (arith, number_closed_other t p Committed stamp (λ y. y.end) m ne)

    -- the block at the place is closed, and the place goes to its parent
    pub growing_closed : IsGrowing v (parent_of t p) stamp
    growing_closed = record {
      rooted = rooted_closed t p Committed stamp g.rooted;
      root = keeps (λ y. is_strand_kind y.kind) (λ y. refl) 0 ∙ g.root;
      top = up_same 0 ∙ g.top;
      there = omega (arith, as_long, up_low);
      forks = λ f e. place_same f (g.forks f (sym (keeps (λ y. is_fork_kind y.kind) (λ y. refl) f) ∙ e));
      blocks = λ b e. place_same b (g.blocks b (sym (keeps (λ y. is_block_kind y.kind) (λ y. refl) b) ∙ e));
      pending = λ b e over.
          (let way = sym (over_same b (parent_of t p) up_low) ∙ over in
          node_closed_other t p Committed stamp (λ y. is_block_kind y.kind && is_pending_state y.state) b (other_up b way)
          ∙ g.pending b (sym (keeps (λ y. is_block_kind y.kind) (λ y. refl) b) ∙ e) (over_up b way));
      committed = λ b e off. committed_up b (sym (keeps (λ y. is_block_kind y.kind) (λ y. refl) b) ∙ e) (sym (over_same b (parent_of t p) up_low) ∙ off) (cases_eq b p);
      numbered = λ m h.
          (let l : suc m < length t = omega (arith, as_long) in
          ap (λ k. is_ancestor v k m) (up_same (suc m)) ∙ (over_same (parent_of t (suc m)) m (omega arith) ∙ g.numbered m l));
      last = λ a m over le h.
          (let l : m < length t = omega (arith, as_long) in
          over_same a m l ∙ g.last a m (over_up a (sym (over_same a (parent_of t p) up_low) ∙ over)) le l);
      stamps = λ m. (let o = g.stamps m in omega (arith, number_closed t p Committed stamp (λ y. y.stamp) (λ y. refl) m));
      ends = λ m. end_up m (cases_eq m p);
    }

-- ## The root

abbrev pub root_alone : List Node
root_alone = fresh_node 0 Strand 0 ∷ []

none_there : (f : Node → Bool) → f (fresh_node 0 Strand 0) ≡ false → (n : ℕ) → is_node f root_alone n ≡ false
none_there f e zero = e
none_there f e (suc n) = refl

zero_there : (f : Node → ℕ) → f (fresh_node 0 Strand 0) ≡ 0 → (n : ℕ) → number_in f (slice_get root_alone n) ≡ 0
zero_there f e zero = e
zero_there f e (suc n) = refl

pub growing_root : IsGrowing root_alone 0 0
growing_root = record {
  rooted = λ n p h. absurd (omega arith);
  root = refl;
  top = refl;
  there = omega arith;
  forks = λ f e. absurd (let no = none_there (λ y. is_fork_kind y.kind) refl f in cc);
  blocks = λ b e. absurd (let no = none_there (λ y. is_block_kind y.kind) refl b in cc);
  pending = λ b e over. absurd (let no = none_there (λ y. is_block_kind y.kind) refl b in cc);
  committed = λ b e off. absurd (let no = none_there (λ y. is_block_kind y.kind) refl b in cc);
  numbered = λ n h. absurd (omega arith);
  last = λ c m over le h.
      (let same : m ≡ c = omega (arith, ancestor_root root_alone c over) in
      let P : ℕ → Type 0 = λ k. is_ancestor root_alone c k ≡ true in
      subst P (sym same) (ancestor_self root_alone c));
  stamps = λ n. omega (arith, zero_there (λ y. y.stamp) refl n);
  ends = λ n. omega (arith, zero_there (λ y. y.end) refl n);
}
