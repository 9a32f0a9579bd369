-- The states of the strands of a record, node by node, and where a strand stopped.
use Rattle.std.proofs.Common.{◌≡◌, ℕ, zero, suc, ◌<◌, ◌≤◌, List, [], ◌∷◌, length, refl, ap, ◌∙◌, arith, Bool, true, false, cond, Some, inl, inr, subst}
use Rattle.std.specs.Prelude.{◌⊎◌}
use Rattle.std.proofs.lemmas.Bool.{or_left, or_right}
use Rattle.cw_strand.specs.declared.want.Want.{Want}
use Rattle.cw_strand.specs.declared.want.Given.TheVariants.{Nothing}
use Rattle.cw_strand.specs.Strands.{Strands, is_over}
use Rattle.cw_tree.specs.declared.node.Node.{Node}
use Rattle.cw_tree.specs.Nodes.{parent_of, is_strand, is_fork, is_block, is_pending, is_aborted, last_below}
use Rattle.cw_tree.specs.Walks.{is_ancestor}
use Rattle.cw_tree.specs.Series.{children}
use Rattle.cw_tree.specs.Shape.{IsTree, PendingLast}
use Rattle.cw_tree.proofs.InOrder.DepthFirst.{IsChild}
use Rattle.cw_tree.proofs.Lists.{In}
use Rattle.cw_tree.proofs.Rising.{Rises}
use Rattle.cw_record.specs.Coherent.{InSeries, Follows, IsJoined}
use Rattle.cw_replay.proofs.RecordsReplay.Tasks.Sorts.{strand_sort}

-- where a strand stopped: what it wants there, the node in which it stands, and a pending block in that which is left out, since it was refused
pub record Stop : Type 0 where
  pub wants : Want
  pub at : ℕ → Bool
  pub out : ℕ → Bool

module _ {A : Type 0} (s : Strands A) (t : List Node) where
  -- node b stands in a child of n that is left out
  pub record InLeftOut (z : Stop) (n b : ℕ) : Type 0 where
    pub child : ℕ
    pub is_child : IsChild t n child
    pub out : z.out child ≡ true
    pub over : is_ancestor t child b ≡ true

  -- a strand stopped in node n, a strand or a pending block, behind all that is in it
  pub record IsStop (before after reached : ℕ → A) (z : Stop) (n : ℕ) : Type 0 where
    pub there : n < length t
    pub wants : s.want (reached n) ≡ z.wants
    pub kind : (is_strand t n ≡ true) ⊎ (is_pending t n ≡ true)
    pub live : (a : ℕ) → is_ancestor t a n ≡ true → is_aborted t a ≡ false
    pub shut : (b : ℕ) → is_pending t b ≡ true → is_ancestor t n b ≡ true → (b ≡ n) ⊎ InLeftOut z n b
    pub joined : (f : ℕ) → IsChild t n f → is_fork t f ≡ true → IsJoined s t before after reached f

  -- the tree of a record, the states of its strands, and where a strand stopped, if one did
  pub record Account : Type 0 where
    pub tree : IsTree t
    pub pending_last : PendingLast t
    pub before : ℕ → A
    pub after : ℕ → A
    pub reached : ℕ → A
    pub follows : Follows s t before after reached
    pub stop : Stop
    pub stops : (n : ℕ) → stop.at n ≡ true → IsStop before after reached stop n
    pub once : (m n : ℕ) → stop.at m ≡ true → stop.at n ≡ true → m ≡ n
    pub left_out : (b : ℕ) → stop.out b ≡ true → (is_pending t b ≡ true) × (stop.at (parent_of t b) ≡ true)
    pub not_over : is_over stop.wants ≡ false

-- ## Series

-- the last of nodes in series comes to the state behind them all
pub last_state : {A : Type 0} (before after : ℕ → A) (a b : A) (ns : List ℕ) (z : ℕ) → InSeries before after a ns b → Rises ns → In z ns → ((c : ℕ) → In c ns → c ≤ z) → after z ≡ b
last_state before after a b [] z l r h m = absurd h
last_state before after a b (c ∷ []) z l r (inl q) m = ap after q ∙ l.1
last_state before after a b (c ∷ []) z l r (inr h) m = absurd h
last_state before after a b (c ∷ d ∷ ns) z l r (inl q) m = absurd (let less : c < d = r.0 d (inl refl) in let le : d ≤ z = m d (inr (inl refl)) in omega (arith, q))
last_state before after a b (c ∷ d ∷ ns) z l r (inr h) m = last_state before after (after c) b (d ∷ ns) z l.1 r.1 h (λ x y. m x (inr y))

-- the last number that passes
pub record Last (p : ℕ → Bool) (k c : ℕ) : Type 0 where
  pub number : ℕ
  pub is : last_below p k ≡ Some number
  pub low : number < k
  pub passes : p number ≡ true
  pub last : c ≤ number

pub last_of_below : (p : ℕ → Bool) (k c : ℕ) → c < k → p c ≡ true → Last p k c
last_of_below p zero c h e = absurd (omega arith)
last_of_below p (suc k) c h e = by (p k) refl (λ l. last_of_below p k c l e) where
  by : (b : Bool) → p k ≡ b → (c < k → Last p k c) → Last p (suc k) c
  by true q more = record { number = k; is = ap (λ b. cond b (Some k) (last_below p k)) q; low = omega arith; passes = q; last = omega arith }
  by false q more =
      let ne : c ≡ k → ⊥ = λ z. absurd (cc (q, e, ap p z)) in
      let l = more (omega (arith, ne)) in
      let low = l.low in
      record { number = l.number; is = ap (λ b. cond b (Some k) (last_below p k)) q ∙ l.is; low = omega arith; passes = l.passes; last = l.last }

module _ {A : Type 0} (s : Strands A) (t : List Node) (w : Account s t) where
  pub block_series : (c : ℕ) → c < length t → is_block t c ≡ true → InSeries w.before w.after (s.answer (w.before c) Nothing) (children t c) (w.reached c)
  block_series c h e =
      let P : A → Type 0 = λ a. InSeries w.before w.after a (children t c) (w.reached c) in
      subst P (ap (λ b. cond b (s.answer (w.before c) Nothing) (w.before c)) e) (w.follows.series c h (or_right (is_strand t c) (is_block t c) e))

  pub strand_series : (x : ℕ) → x < length t → is_strand t x ≡ true → InSeries w.before w.after (w.before x) (children t x) (w.reached x)
  strand_series x h e =
      let P : A → Type 0 = λ a. InSeries w.before w.after a (children t x) (w.reached x) in
      subst P (ap (λ b. cond b (s.answer (w.before x) Nothing) (w.before x)) (strand_sort t x e).block) (w.follows.series x h (or_left (is_strand t x) (is_block t x) e))
