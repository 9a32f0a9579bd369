-- Nodes behind which their strand can go on: neither a pending block nor a fork whose strands have not ended; and that all is so in them.
use Rattle.std.proofs.Common.{◌≡◌, ℕ, ◌<◌, ◌≤◌, List, length, refl, ap, sym, ◌∙◌, arith, true, false, Some, inl, inr, subst, nat_lt}
use Rattle.std.specs.Prelude.{◌⊎◌, ◌&&◌, ◌||◌}
use Rattle.std.proofs.lemmas.Bool.{and_from, or_left, or_right, lt-ltb, eq-eqb, eqb-true, false_from_ne_true, not-true, cases_eq, cases_Bool}
use Rattle.cw_strand.specs.declared.want.Want.TheVariants as want
use Rattle.cw_strand.specs.Strands.{Strands, is_over}
use Rattle.cw_tree.specs.declared.node.Node.{Node}
use Rattle.cw_tree.specs.declared.node.Kind.{Kind}
use Rattle.cw_tree.specs.declared.node.Kind.TheVariants.{Block, Tried}
use Rattle.cw_tree.specs.declared.node.BlockState.{BlockState}
use Rattle.cw_tree.specs.declared.node.BlockState.TheVariants.{Pending, Committed}
use Rattle.cw_tree.specs.Nodes.{parent_of, is_strand, is_fork, is_block, is_pending, is_committed, is_aborted, tries, passes, all_nodes, is_block_kind, is_pending_state, is_committed_state, tries_kind}
use Rattle.cw_tree.specs.Walks.{is_ancestor}
use Rattle.cw_tree.specs.Series.{children, has_later}
use Rattle.cw_tree.specs.Links.{is_child}
use Rattle.cw_tree.proofs.Walks.There.{node_there}
use Rattle.cw_tree.proofs.Lists.{any_from, In}
use Rattle.cw_tree.proofs.Walks.Ancestors.{ancestor_self, ancestor_up, above_parent, beneath}
use Rattle.cw_tree.proofs.Walks.Kin.{before_of}
use Rattle.cw_tree.proofs.InOrder.DepthFirst.{IsChild, child_is, child_in, children_rise}
use Rattle.cw_tree.proofs.Members.{filter_in, below_in}
use Rattle.cw_serial.proofs.Numbers.{get_some}
use Rattle.cw_record.specs.Coherent.{IsWanted, StrandEnded, alone, joined, IsJoined}
use Rattle.cw_record.specs.Replay.{IsAccessOf}
use Rattle.cw_replay.proofs.RecordsReplay.Tasks.Sorts.{strand_sort, committed_sort, kept_block}
use Rattle.cw_replay.proofs.Kin.{left_or_right, fork_child}
use Rattle.cw_replay.proofs.RecordsReplay.Tasks.Accounts.{Account, last_state, Last, last_of_below, strand_series}

module _ {A : Type 0} (s : Strands A) (t : List Node) (w : Account s t) where
  abbrev pub Ended : ℕ → Type 0
  Ended = StrandEnded s t w.before w.after w.reached

  abbrev pub Joined : ℕ → Type 0
  Joined = IsJoined s t w.before w.after w.reached

  pub record Quiet (n : ℕ) : Type 0 where
    pub none : is_pending t n ≡ false
    pub joined : is_fork t n ≡ true → Joined n

  pub over_of : (x : ℕ) → Ended x → is_over (s.want (w.reached x)) ≡ true
  over_of x (alone o e) = o
  over_of x (joined o e g ch hl hr b) = o

  -- a strand wants to begin a pending block before it and behind it
  pub pending_stays : (b : ℕ) → is_pending t b ≡ true → (s.want (w.before b) ≡ want.Begin) × (w.after b ≡ w.before b)
  pending_stays b e =
      let x = get_some t b (node_there (λ x. is_block_kind x.kind && is_pending_state x.state) t b e) in
      by x.0.kind x.0.state (sym (ap (passes (λ x. is_block_kind x.kind && is_pending_state x.state)) x.1) ∙ e) (w.follows.fits b x.0 x.1) where
        by : (k : Kind) (z : BlockState) → (is_block_kind k && is_pending_state z) ≡ true → IsWanted s t w.before w.after w.reached b k z → (s.want (w.before b) ≡ want.Begin) × (w.after b ≡ w.before b)
        by Block Pending e f = f
        by Block _ e f = absurd (cc e)
        by _ z e f = absurd (cc e)

  -- a strand wants to end a committed block where it has come to in it
  pub committed_ends : (b : ℕ) → is_committed t b ≡ true → s.want (w.reached b) ≡ want.End
  committed_ends b e =
      let x = get_some t b (node_there (λ x. is_block_kind x.kind && is_committed_state x.state) t b e) in
      by x.0.kind x.0.state (sym (ap (passes (λ x. is_block_kind x.kind && is_committed_state x.state)) x.1) ∙ e) (w.follows.fits b x.0 x.1) where
        by : (k : Kind) (z : BlockState) → (is_block_kind k && is_committed_state z) ≡ true → IsWanted s t w.before w.after w.reached b k z → s.want (w.reached b) ≡ want.End
        by Block Committed e f = let g = f.1 in g.0
        by Block _ e f = absurd (cc e)
        by _ z e f = absurd (cc e)

  -- a strand wants a refused access before it and behind it
  pub tried_stays : (n cell : ℕ) → tries t cell n ≡ true → IsAccessOf cell (s.want (w.before n)) × (w.after n ≡ w.before n)
  tried_stays n cell e =
      let x = get_some t n (node_there (λ x. tries_kind cell x.kind) t n e) in
      by x.0.kind x.0.state (sym (ap (passes (λ x. tries_kind cell x.kind)) x.1) ∙ e) (w.follows.fits n x.0 x.1) where
        by : (k : Kind) (z : BlockState) → tries_kind cell k ≡ true → IsWanted s t w.before w.after w.reached n k z → IsAccessOf cell (s.want (w.before n)) × (w.after n ≡ w.before n)
        by (Tried d) z e f = let P : ℕ → Type 0 = λ c. IsAccessOf c (s.want (w.before n)) in (subst P (eqb-true d cell e) f.0, f.1)
        by _ z e f = absurd (cc e)

  -- a child behind which another one comes in series
  pub quiet_before : (q c d : ℕ) → IsChild t q c → IsChild t q d → is_fork t q ≡ false → c < d → Quiet c
  quiet_before q c d k m no_fork less = record {
    none = false_from_ne_true (is_pending t c) (λ p. absurd (cc (
      w.pending_last.last c d k.there m.there p,
      before_of t c d (record {
        first = c;
        second = d;
        ordered = record { some = k.some; less = less; same = k.parent ∙ sym m.parent; no_fork = ap (is_fork t) k.parent ∙ no_fork };
        over_first = ancestor_self t c;
        over_second = ancestor_self t d;
      }),
    )));
    joined = λ e. w.follows.joined c k.there (and_from (is_fork t c) (has_later t c || is_committed t (parent_of t c)) e (or_left (has_later t c) (is_committed t (parent_of t c))
        (any_from (λ m. nat_lt c m) d (children t (parent_of t c)) (child_in t (parent_of t c) d (record { some = m.some; there = m.there; parent = m.parent ∙ sym k.parent })) (lt-ltb c d less))));
  }

  pub quiet_in_block : (n c : ℕ) → n < length t → is_committed t n ≡ true → IsChild t n c → Quiet c
  quiet_in_block n c h e k = record {
    none = false_from_ne_true (is_pending t c) (λ p.
        let z = committed_sort t n e in
        let over = above_parent t w.tree.rooted n c k.some k.there ∙ (let P : ℕ → Type 0 = λ x. is_ancestor t n x ≡ true in subst P (sym k.parent) (ancestor_self t n)) in
        absurd (cc (z.pending, w.pending_last.around n c h k.there (and_from (is_pending t c && is_block t n) _ (and_from (is_pending t c) (is_block t n) p z.block) over))));
    joined = λ f. w.follows.joined c k.there (and_from (is_fork t c) (has_later t c || is_committed t (parent_of t c)) f (or_right (has_later t c) (is_committed t (parent_of t c)) (ap (is_committed t) k.parent ∙ e)));
  }

  pub quiet_in_ended : (x c : ℕ) → x < length t → is_strand t x ≡ true → Ended x → IsChild t x c → Quiet c
  quiet_in_ended x c h strand e k = by (cases_eq c l.number) where
    test : (m : ℕ) → IsChild t x m → is_child t x m ≡ true
    test m k = and_from (nat_lt 0 m) _ (lt-ltb 0 m k.some) (eq-eqb (parent_of t m) x k.parent)

    l : Last (is_child t x) (length t) c
    l = last_of_below (is_child t x) (length t) c k.there (test c k)

    z : IsChild t x l.number
    z = child_is t x l.number (filter_in (is_child t x) l.number (all_nodes t) (below_in l.number (length t) l.low) l.passes)

    most : (m : ℕ) → In m (children t x) → m ≤ l.number
    most m i = let y = child_is t x m i in let a = last_of_below (is_child t x) (length t) m y.there (test m y) in let same : a.number ≡ l.number = (let e : Some a.number ≡ Some l.number = sym a.is ∙ l.is in cc) in let le = a.last in omega (arith, same)

    ends : w.after l.number ≡ w.reached x
    ends = last_state w.before w.after (w.before x) (w.reached x) (children t x) l.number (strand_series s t w x h strand) (children_rise t x) (child_in t x l.number z) most

    at_last : Ended x → (is_fork t l.number ≡ true → Joined l.number)
    at_last (alone o f) g = absurd (cc (g, not-true (is_fork t l.number) (f l.number l.is)))
    at_last (joined {f = f} {l = a} {r = b} o e g ch ea eb behind) q =
        let same : f ≡ l.number = (let z : Some f ≡ Some l.number = sym e ∙ l.is in cc) in
        let P : ℕ → Type 0 = λ y. Joined y in
        subst P same (record { left = a; right = b; strands = ch; left_ended = ea; right_ended = eb; behind = behind })

    last : Quiet l.number
    last = record {
      none = false_from_ne_true (is_pending t l.number) (λ p.
          let y = pending_stays l.number p in
          absurd (cc (over_of x e, ap (λ a. is_over (s.want a)) (sym ends ∙ y.1) ∙ ap is_over y.0)));
      joined = at_last e;
    }

    by : (c ≡ l.number) ⊎ (c ≡ l.number → ⊥) → Quiet c
    by (inl q) = let P : ℕ → Type 0 = λ y. Quiet y in subst P (sym q) last
    by (inr ne) = quiet_before x c l.number k z (strand_sort t x strand).fork (let le = l.last in omega arith)

  -- ## All in a quiet node

  -- a strand that has ended, or another node that is quiet
  pub record Calm (n : ℕ) : Type 0 where
    pub quiet : Quiet n
    pub ended : is_strand t n ≡ true → Ended n

  pub calm_strand : (x : ℕ) → is_strand t x ≡ true → Ended x → Calm x
  calm_strand x e o =
      let z = strand_sort t x e in
      record { quiet = record { none = z.pending; joined = λ f. absurd (cc (f, z.fork)) }; ended = λ e. o }

  -- right in a calm node that was not rolled back all is calm
  calm_child : (q n : ℕ) → IsChild t q n → is_aborted t q ≡ false → Calm q → Calm n
  calm_child q n k live c = by (cases_Bool (is_strand t q)) (cases_Bool (is_fork t q)) where
    there : q < length t
    there = let low : parent_of t n < n = w.tree.rooted n k.some k.there in let high = k.there in omega (arith, k.parent)

    plain : is_fork t q ≡ false → is_strand t n ≡ false
    plain e = false_from_ne_true (is_strand t n) (λ f. absurd (cc (e, ap (is_fork t) (sym k.parent) ∙ w.tree.strands n k.there k.some f)))

    quiet_calm : is_fork t q ≡ false → Quiet n → Calm n
    quiet_calm e z = record { quiet = z; ended = λ f. absurd (cc (f, plain e)) }

    by : (is_strand t q ≡ true) ⊎ (is_strand t q ≡ false) → (is_fork t q ≡ true) ⊎ (is_fork t q ≡ false) → Calm n
    by (inl e) f = quiet_calm (strand_sort t q e).fork (quiet_in_ended q n there e (c.ended e) k)
    by (inr ns) (inl f) =
        let j = c.quiet.joined f in
        let strand = fork_child t w.tree q n there f k in
        let P : ℕ → Type 0 = λ x. Ended x in
        calm_strand n strand (elim (left_or_right t q j.left j.right j.strands n k) [ inl z ↦ subst P (sym z) j.left_ended | inr z ↦ subst P (sym z) j.right_ended ])
    by (inr ns) (inr nf) =
        let o = ap (λ p. is_strand t p || is_fork t p || is_block t p) (sym k.parent) ∙ w.tree.parents n k.there k.some in
        let block : is_block t q ≡ true = cc (o, ns, nf) in
        elim (kept_block t q block live) [
          | inl done ↦ quiet_calm nf (quiet_in_block q n there done k)
          | inr pends ↦ absurd (cc (pends, c.quiet.none))
        ]

  -- so is all in it that was not rolled back
  pub calm : (c : ℕ) → Calm c → (n : ℕ) → n < length t → is_ancestor t c n ≡ true → ((a : ℕ) → is_ancestor t a n ≡ true → is_aborted t a ≡ false) → Calm n
  calm c z =
      beneath t w.tree.rooted c (λ n. ((a : ℕ) → is_ancestor t a n ≡ true → is_aborted t a ≡ false) → Calm n) (λ live. z)
      (λ n p h up more live. calm_child (parent_of t n) n (record { some = p; there = h; parent = refl }) (live (parent_of t n) (ancestor_up t w.tree.rooted (parent_of t n) n p h (ancestor_self t (parent_of t n)))) (more (λ a e. live a (ancestor_up t w.tree.rooted a n p h e))))
