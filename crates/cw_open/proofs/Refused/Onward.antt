-- A tree that goes on from another: what came, and what was closed, came after what was there. Times are those of nodes: the clock when one
-- was made, or closed.
use Rattle.std.proofs.Common.{◌≡◌, ℕ, ◌<◌, ◌≤◌, List, length, refl, ap, sym, ◌∙◌, arith, true, false, Option, Some, None, inl, inr}
use Rattle.std.specs.Prelude.{◌⊎◌, ◌&&◌, not, option_map}
use Rattle.std.proofs.lemmas.Bool.{and_parts, and_from, cases_lt, cases_Bool, false_from_ne_true}
use Rattle.std.proofs.lemmas.List.Elements.{All-weaker}
use Rattle.cw_tree.specs.declared.node.Node.{Node}
use Rattle.cw_tree.specs.declared.node.Kind.{Kind}
use Rattle.cw_tree.specs.declared.node.Kind.TheVariants.{Strand, Fork, Block, Read, Write, Out, Tried}
use Rattle.cw_tree.specs.declared.node.BlockState.{BlockState}
use Rattle.cw_tree.specs.declared.conflict.Conflict.{Conflict}
use Rattle.cw_tree.specs.Nodes.{is_block_kind, is_pending_state, tries_kind, touches_kind, parent_of, stamp_of, end_of, is_fork, is_block, is_pending, is_aborted, touches, tries}
use Rattle.cw_tree.specs.Walks.{IsRooted, above, is_above, outermost}
use Rattle.cw_tree.specs.Series.{parallel, is_before}
use Rattle.cw_tree.specs.Shape.{PendingLast}
use Rattle.cw_tree.specs.Attempts.{tried_cell, attempt_of}
use Rattle.cw_tree.specs.Accesses.{HasAccess}
use Rattle.cw_tree.specs.Refusals.{outermost_apart, IsRefusal}
use Rattle.cw_tree.proofs.Walks.There.{node_there}
use Rattle.cw_tree.proofs.Walks.Kin.{in_above, before_of}
use Rattle.cw_tree.proofs.Walks.Ancestors.{ancestor_self, above_ancestor, ancestor_le}
use Rattle.cw_tree.proofs.NextNodes.Kept.{above_kept}
use Rattle.cw_tree.proofs.NodeKinds.{node_tells}
use Rattle.cw_open.proofs.Open.Staying.{Stays, keeps, above_stays, parallel_stays}
use Rattle.cw_open.proofs.Refused.Victims.{outermost_in}
use Rattle.cw_open.proofs.Refused.Attempted.{IsElder, attempt_stays, outermost_agrees}

pub record GoesOn (times after : ℕ → ℕ) (clock : ℕ) (t u : List Node) : Type 0 where
  pub stays : Stays t u
  pub rooted : IsRooted u
  pub touched : (c n : ℕ) → n < length t → touches u c n ≡ touches t c n
  pub tried : (c n : ℕ) → n < length t → tries u c n ≡ tries t c n
  pub cells : (n : ℕ) → n < length t → tried_cell u n ≡ tried_cell t n
  -- only pending blocks are closed
  pub ends : (n : ℕ) → n < length t → is_pending t n ≡ false → (end_of u n ≡ end_of t n) × (is_aborted u n ≡ is_aborted t n) × (is_pending u n ≡ false)
  pub before : (n k : ℕ) → n < length t → k < length t → is_before u n k ≡ is_before t n k
  -- what comes is before none, and was drawn after what is before it
  pub first : (g n : ℕ) → length t ≤ g → g < length u → n < length t → is_before u g n ≡ false
  pub apart : (g h : ℕ) → length t ≤ g → g < length u → length t ≤ h → h < length u → is_before u g h ≡ false
  pub drawn : (n k : ℕ) → n < length t → length t ≤ k → k < length u → 0 < stamp_of u k → is_before u n k ≡ true → (is_pending t n ≡ false) × (times n < stamp_of u k)
  -- the times of what comes or is closed are those of the clock
  pub same : (n : ℕ) → n < length t → is_pending t n ≡ is_pending u n → after n ≡ times n
  pub new : (n : ℕ) → length t ≤ n → after n ≡ clock
  pub shut : (n : ℕ) → is_pending t n ≡ true → is_pending u n ≡ false → after n ≡ clock
  pub latest : (n : ℕ) → n < length u → (stamp_of u n ≤ clock) × (end_of u n ≤ clock)

-- times are those of a tree
pub record AreTimes (times : ℕ → ℕ) (clock : ℕ) (t : List Node) : Type 0 where
  pub low : (n : ℕ) → n < length t → times n ≤ clock
  pub later : (n k : ℕ) → n < length t → k < length t → is_before t n k ≡ true → 0 < stamp_of t k → times n < stamp_of t k

-- all that is before a refused access, or around it, came before block b was closed
pub record CameBefore (times : ℕ → ℕ) (t : List Node) (v b : ℕ) : Type 0 where
  pub before : (n : ℕ) → n < length t → is_before t n v ≡ true → (stamp_of t n ≤ times b) × (end_of t n ≤ times b)
  pub around : (a : ℕ) → (is_block t a && is_above t a v) ≡ true → stamp_of t a ≤ times b

-- a conflict that was recorded, and its moment
pub record IsKept (times : ℕ → ℕ) (t : List Node) (c : Conflict) : Type 0 where
  pub access : ℕ
  pub block : ℕ
  pub refusal : IsRefusal t c access block
  pub met : (is_pending t block ≡ true) ⊎ CameBefore times t c.asker block
  pub last : c.last ≤ times c.asker

-- ## What goes on

module _ (times after : ℕ → ℕ) (was clock : ℕ) (t u : List Node) (g : GoesOn times after clock t u) (pending : PendingLast t) (on : was ≤ clock) where
  s : Stays t u
  s = g.stays

  -- what is before another is not pending
  closed_before : (n k : ℕ) → n < length t → k < length t → is_before t n k ≡ true → is_pending t n ≡ false
  closed_before n k hn hk e = false_from_ne_true (is_pending t n) (λ q. absurd (cc (e, pending.last n k hn hk q)))

  unchanged : (n : ℕ) → n < length t → is_pending t n ≡ false → after n ≡ times n
  unchanged n h e = g.same n h (e ∙ sym (g.ends n h e).2)

  pub times_on : AreTimes times was t → AreTimes after clock u
  times_on w = record {
    low = λ n h. elim (cases_lt n (length t)) [
      | inr le ↦ omega (arith, g.new n le)
      | inl old ↦ elim (cases_Bool (is_pending t n)) [
        | inr done ↦ omega (arith, unchanged n old done, w.low n old)
        | inl waits ↦ elim (cases_Bool (is_pending u n)) [
          | inl still ↦ omega (arith, g.same n old (waits ∙ sym still), w.low n old)
          | inr shut ↦ omega (arith, g.shut n waits shut)
        ]
      ]
    ];
    later = λ n k hn hk e some. elim (cases_lt n (length t)) [
      | inr new ↦ elim (cases_lt k (length t)) [
        | inl old ↦ absurd (cc (e, g.first n k new hn old))
        | inr late ↦ absurd (cc (e, g.apart n k new hn late hk))
      ]
      | inl old ↦ elim (cases_lt k (length t)) [
        | inl low ↦
            (let b = sym (g.before n k old low) ∙ e in
            omega (arith, unchanged n old (closed_before n k old low b), s.stamps k low, w.later n k old low b (omega (arith, s.stamps k low))))
        | inr late ↦ (let d = g.drawn n k old late hk some e in omega (arith, unchanged n old d.0, d.1))
      ]
    ];
  }

  -- ## A conflict

  module _ (c : Conflict) (w : IsKept times t c) (no_fork_over : (b : ℕ) → is_block t b ≡ true → is_fork t (parent_of t b) ≡ false) where
    abbrev x : ℕ
    x = w.access

    abbrev b : ℕ
    b = w.block

    abbrev v : ℕ
    v = c.asker

    abbrev q : IsRefusal t c w.access w.block
    q = w.refusal

    low_x : x < length t
    low_x = node_there (λ y. touches_kind c.cell y.kind) t x q.last.0

    low_v : v < length t
    low_v = node_there (λ y. tries_kind c.cell y.kind) t v q.asker

    is_over : ((is_block t b && is_above t b x) ≡ true) × (not (is_above t b v) ≡ true)
    is_over = and_parts (is_block t b && is_above t b x) (not (is_above t b v)) q.block.0

    block_b : is_block t b ≡ true
    block_b = (and_parts (is_block t b) (is_above t b x) is_over.0).0

    low_b : b < length t
    low_b = node_there (λ y. is_block_kind y.kind) t b block_b

    parallel_same : parallel u x v ≡ parallel t x v
    parallel_same = parallel_stays t u s x v low_x low_v

    outermost_stays : outermost_apart u x v ≡ outermost_apart t x v
    outermost_stays =
        ap (outermost (λ m. is_block u m && not (is_above u m x))) (above_kept t u (keeps t u s) v low_v)
        ∙ outermost_agrees (λ m. is_block u m && not (is_above u m x)) (λ m. is_block t m && not (is_above t m x)) (above t v)
        (λ m i.
        let le = ancestor_le t s.rooted m v low_v (above_ancestor t m v (in_above t m v i)) in
        let low = low_v in
        ap (λ k. k && not (is_above u m x)) (s.blocks m (omega arith)) ∙ ap (λ k. is_block t m && not k) (above_stays t u s m x low_x))

    -- the outermost is a block, and there
    outermost_there : (m : ℕ) → outermost_apart t x v ≡ Some m → (m < length t) × (is_block t m ≡ true)
    outermost_there m e =
        let z = outermost_in (λ m. is_block t m && not (is_above t m x)) (above t v) m e in
        let is = (and_parts (is_block t m) (not (is_above t m x)) z.1).0 in
        (node_there (λ y. is_block_kind y.kind) t m is, is)

    stamp_same : option_map (stamp_of u) (outermost_apart t x v) ≡ option_map (stamp_of t) (outermost_apart t x v)
    stamp_same = by (outermost_apart t x v) outermost_there where
      by : (o : Option ℕ) → ((m : ℕ) → o ≡ Some m → (m < length t) × (is_block t m ≡ true)) → option_map (stamp_of u) o ≡ option_map (stamp_of t) o
      by None f = refl
      by (Some m) f = ap Some (s.stamps m (f m refl).0)

    -- an elder of a block is closed
    elders_closed : (m : ℕ) → is_block t m ≡ true → m < length t → (n : ℕ) → IsElder t m n → is_aborted u n ≡ is_aborted t n
    elders_closed m is low n e =
        let less = e.less in
        let h : n < length t = omega arith in
        let no_fork : is_fork t (parent_of t n) ≡ false = ap (is_fork t) e.same ∙ no_fork_over m is in
        let before = before_of t n m (record { first = n; second = m; ordered = record { some = e.some; less = e.less; same = e.same; no_fork = no_fork }; over_first = ancestor_self t n; over_second = ancestor_self t m }) in
        (g.ends n h (closed_before n m h low before)).1

    attempt_same : attempt_of u v (outermost_apart t x v) ≡ attempt_of t v (outermost_apart t x v)
    attempt_same = attempt_stays t u s g.cells v low_v (outermost_apart t x v) (λ m e. let z = outermost_there m e in (z.0, elders_closed m z.1 z.0))

    -- what is before the asker was there
    old_before : (n : ℕ) → n < length u → is_before u n v ≡ true → (n < length t) × (is_before t n v ≡ true)
    old_before n h e = elim (cases_lt n (length t)) [
      | inr new ↦ absurd (cc (e, g.first n v new h low_v))
      | inl old ↦ (old, sym (g.before n v old low_v) ∙ e)
    ]

    -- and so is what is around it
    old_around : (a : ℕ) → (is_block u a && is_above u a v) ≡ true → (a < length t) × ((is_block t a && is_above t a v) ≡ true)
    old_around a e =
        let z = and_parts (is_block u a) (is_above u a v) e in
        let over = sym (above_stays t u s a v low_v) ∙ z.1 in
        let le = ancestor_le t s.rooted a v low_v (above_ancestor t a v over) in
        let low = low_v in
        let h : a < length t = omega arith in
        (h, and_from (is_block t a) (is_above t a v) (sym (s.blocks a h) ∙ z.0) over)

    -- nothing that came is after a pending block
    came_before : (k : ℕ) → length t ≤ k → k < length u → 0 < stamp_of u k → is_before u b k ≡ true → CameBefore times t v b × (times b < stamp_of u k)
    came_before k new h some e =
        let d = g.drawn b k low_b new h some e in
        elim w.met [ inl waits ↦ absurd (cc (waits, d.0)) | inr came ↦ (came, d.1) ]

    tried_closed : is_pending t v ≡ false
    tried_closed = node_tells false t (λ y. tries_kind c.cell y.kind) (λ y. is_block_kind y.kind && is_pending_state y.state) (λ y e. no_tried y.kind y.state e) v q.asker where
      no_tried : (k : Kind) (st : BlockState) → tries_kind c.cell k ≡ true → (is_block_kind k && is_pending_state st) ≡ false
      no_tried (Tried d) st e = refl
      no_tried Strand st e = absurd (cc e)
      no_tried Fork st e = absurd (cc e)
      no_tried Block st e = absurd (cc e)
      no_tried (Read d y) st e = absurd (cc e)
      no_tried (Write d y) st e = absurd (cc e)
      no_tried (Out y) st e = absurd (cc e)
      no_tried _ st e = absurd (cc e)

    refusal_on : IsRefusal u c x b
    refusal_on = record {
      last = (g.touched c.cell x low_x ∙ q.last.0, s.stamps x low_x ∙ q.last.1);
      asker = g.tried c.cell v low_v ∙ q.asker;
      parallel = parallel_same ∙ q.parallel;
      block = (
        ap (λ k. k && is_above u b x && not (is_above u b v)) (s.blocks b low_b)
            ∙ ap (λ k. is_block t b && k && not (is_above u b v)) (above_stays t u s b x low_x)
            ∙ ap (λ k. is_block t b && is_above t b x && not k) (above_stays t u s b v low_v)
            ∙ q.block.0,
        s.stamps b low_b ∙ q.block.1,
      );
      victim = q.victim ∙ sym (ap (option_map (stamp_of u)) outermost_stays ∙ stamp_same);
      attempt = q.attempt ∙ sym (ap (attempt_of u v) outermost_stays ∙ attempt_same);
      chain_len = q.chain_len;
      chain_rises = q.chain_rises;
      chain_accesses = All-weaker (HasAccess t c.cell) (HasAccess u c.cell)
          (λ y (n, e, f). let h = node_there (λ z. touches_kind c.cell z.kind) t n e in (n, g.touched c.cell n h ∙ e, s.stamps n h ∙ f)) c.chain q.chain_accesses;
      chain_last = q.chain_last;
      before_after_block = λ n k hn hk e f some.
          (let (old, was) = old_before n hn e in
          let end = (g.ends n old (closed_before n v old low_v was)).0 in
          elim (cases_lt k (length t)) [
            | inl low ↦
                (let z = q.before_after_block n k old low was (sym (g.before b k low_b low) ∙ f) (omega (arith, s.stamps k low)) in
                (omega (arith, z.0, s.stamps n old, s.stamps k low), omega (arith, z.1, end, s.stamps k low)))
            | inr new ↦
                (let z = came_before k new hk some f in
                let y = z.0.before n old was in
                (omega (arith, y.0, z.1, s.stamps n old), omega (arith, y.1, z.1, end)))
          ]);
      begun_after_block = λ n k hn hk e f some.
          (let (old, was) = old_around n e in
          elim (cases_lt k (length t)) [
            | inl low ↦ omega (arith, q.begun_after_block n k old low was (sym (g.before b k low_b low) ∙ f) (omega (arith, s.stamps k low)), s.stamps n old, s.stamps k low)
            | inr new ↦ (let z = came_before k new hk some f in omega (arith, z.0.around n was, z.1, s.stamps n old))
          ]);
      last_after_asker = λ k hk e some. elim (cases_lt k (length t)) [
        | inl low ↦ omega (arith, q.last_after_asker k low (sym (g.before v k low_v low) ∙ e) (omega (arith, s.stamps k low)), s.stamps k low)
        | inr new ↦ (let d = g.drawn v k low_v new hk some e in let last = w.last in omega (arith, d.1))
      ];
    }

    met_on : (is_pending u b ≡ true) ⊎ CameBefore after u v b
    met_on = elim (cases_Bool (is_pending t b)) [
      | inl waits ↦ elim (cases_Bool (is_pending u b)) [
        | inl still ↦ inl still
        | inr shut ↦
            (let at = g.shut b waits shut in
            inr (record {
              before = λ n h e. (let z = g.latest n h in (omega (arith, z.0, at), omega (arith, z.1, at)));
              around = λ a e. (let (old, was) = old_around a e in let longer = s.longer in omega (arith, (g.latest a (omega arith)).0, at));
            }))
      ]
      | inr done ↦ elim w.met [
        | inl waits ↦ absurd (cc (waits, done))
        | inr came ↦
            (let at = unchanged b low_b done in
            inr (record {
              before = λ n h e.
                  (let (old, was) = old_before n h e in
                  let z = came.before n old was in
                  (omega (arith, z.0, at, s.stamps n old), omega (arith, z.1, at, (g.ends n old (closed_before n v old low_v was)).0)));
              around = λ a e. (let (old, was) = old_around a e in omega (arith, came.around a was, at, s.stamps a old));
            }))
      ]
    ]

    pub kept_on : IsKept after u c
    kept_on = record { access = x; block = b; refusal = refusal_on; met = met_on; last = (let last = w.last in omega (arith, unchanged v low_v tried_closed)) }
