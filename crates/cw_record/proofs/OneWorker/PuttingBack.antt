-- What the begun blocks of one worker may put back, told by the tree that it builds.
use Rattle.std.proofs.Common.{◌≡◌, ℕ, zero, suc, ℤ, pos, ◌<◌, ◌≤◌, List, [], ◌∷◌, ◌++◌, length, map, refl, ap, sym, ◌∙◌, subst, arith, Bool, true, false, cond, inl, inr, append_assoc, append-nil}
use Rattle.std.specs.Prelude.{◌⊎◌, ◌&&◌, ◌||◌, ◌==◌, not, is_some, filter, nat_lt, slice_index_or, unwrap_or}
use Rattle.std.specs.List.{list_any}
use Rattle.std.proofs.Math.Bool.{or-false}
use Rattle.std.proofs.lemmas.Bool.{lt-ltb, cases_eq, eq-eqb, ne_eqb, false_from_ne_true}
use Rattle.std.proofs.lemmas.List.{map-id}
use Rattle.std.proofs.lemmas.List.Folds.{list_any-append, list_any_none}
use Rattle.std.proofs.lemmas.Option.{unwrap_or-slice_get}
use Rattle.cw_code.specs.declared.Back.{Back}
use Rattle.cw_tree.specs.declared.node.Node.{Node}
use Rattle.cw_tree.specs.declared.node.Kind.{Kind}
use Rattle.cw_tree.specs.declared.node.Kind.TheVariants.{Read, Write, Block, Fork, Strand}
use Rattle.cw_tree.specs.declared.node.BlockState.TheVariants.{Committed}
use Rattle.cw_tree.specs.declared.access.Entry.{Entry}
use Rattle.cw_tree.specs.Nodes.{touches_kind, stamp_of, parent_of, is_strand, is_aborted, below, fresh_node, closed}
use Rattle.cw_tree.specs.Walks.{IsRooted, has, is_ancestor, is_above}
use Rattle.cw_tree.specs.Accesses.{live_accesses, written, written_kind, value_in, cell_value}
use Rattle.cw_tree.specs.Cancels.{wrote_in, before_block, put_back, IsCancel}
use Rattle.cw_tree.proofs.Lists.{In}
use Rattle.cw_tree.proofs.Members.{in_append, in_below, in_filter, in_left, in_right, any_same, all_of, filter_same, map_same}
use Rattle.cw_tree.proofs.NodeKinds.{other_some, block_no_strand}
use Rattle.cw_tree.proofs.ChainLaws.CellJournals.{HasJournals}
use Rattle.cw_tree.proofs.ChainLaws.LiveAccesses.{live_there, live_more, live_same, live_stays}
use Rattle.cw_tree.proofs.NextNodes.Growing.{get_next, length_more, node_new, number_new, above_new, rooted_more}
use Rattle.cw_tree.proofs.NextNodes.Closing.{length_closed}
use Rattle.cw_tree.proofs.Walks.Ancestors.{ancestor_self, above_ancestor, ancestor_up, ancestor_past, ancestor_trans}
use Rattle.cw_job.specs.Memory.{value_at}
use Rattle.cw_strand.specs.declared.want.Want.TheVariants.{End}
use Rattle.cw_tree.proofs.Cancels.{before_step}
use Rattle.cw_serial.specs.Wants.{Since, was_written, with_write, given_up, since_after, put_back_since}
use Rattle.cw_serial.proofs.Numbers.{get_some}
use Rattle.cw_record.specs.Drawn.{added, added_fork}
use Rattle.cw_record.proofs.OneWorker.Building.{IsBuilt}
use Rattle.cw_record.proofs.OneWorker.Descending.{Crossing, Descends}
use Rattle.cw_record.proofs.OneWorker.Grown.{IsGrown, grown_by, grown_closed, grown_twice}
use Rattle.cw_record.proofs.OneWorker.GrowingWays.{crossed_low}
use Rattle.cw_record.proofs.OneWorker.NoneAborted.{not_aborted}

-- ## One block

module _ (t : List Node) (first : List ℤ) (b : ℕ) (x : Since) where
  -- The live accesses of cell c are those before block b, and those beneath it. The former left what the cell held at the block's begin, and
  -- one of the latter is a write where the cell was written since.
  pub record IsSplit (c : ℕ) : Type 0 where
    pub old : List ℕ
    pub new : List ℕ
    pub all : live_accesses t c ≡ old ++ new
    pub outside : (u : ℕ) → In u old → is_above t b u ≡ false
    pub beneath : (u : ℕ) → In u new → is_above t b u ≡ true
    pub value : value_at x.memory c ≡ cell_value (slice_index_or first c (pos 0)) (map (written t) old)
    pub wrote : was_written x c ≡ list_any (λ u. is_some (written t u)) new

  -- this is what block b may put back
  pub record IsKept : Type 0 where
    pub there : b < length t
    pub len : length x.memory ≡ length first
    pub each : (c : ℕ) → c < length first → IsSplit c

module _ (t : List Node) (b : ℕ) (old new : List ℕ) (outside : (u : ℕ) → In u old → is_above t b u ≡ false) (beneath : (u : ℕ) → In u new
    → is_above t b u ≡ true) where
  wrote_new : (stamp : ℕ) → ((u : ℕ) → In u new → stamp_of t u < stamp) → wrote_in t b stamp (old ++ new) ≡ list_any (λ u. is_some (written t u)) new
  wrote_new stamp less =
      let p : ℕ → Bool = λ u. is_above t b u && nat_lt (stamp_of t u) stamp && is_some (written t u) in
      list_any-append p old new
      ∙ ap (λ a. a || list_any p new) (list_any_none p old (all_of (λ u. p u ≡ false) old (λ u i. ap (λ a. a && nat_lt (stamp_of t u) stamp && is_some
      (written t u)) (outside u i))))
      ∙ any_same p (λ u. is_some (written t u)) new (λ u i. ap (λ a. a && nat_lt (stamp_of t u) stamp && is_some (written t u)) (beneath u i)
      ∙ ap (λ a. a && is_some (written t u)) (lt-ltb (stamp_of t u) stamp (less u i)))

before_old : (t : List Node) (b : ℕ) (old new : List ℕ) → ((u : ℕ) → In u old → is_above t b u ≡ false) → ((u : ℕ) → In u new → is_above t b u ≡ true)
    → before_block t b (old ++ new) ≡ old
before_old t b [] [] outside beneath = refl
before_old t b [] (n ∷ new) outside beneath = before_step t b n new ∙ ap (λ a. cond (not a) (n ∷ before_block t b new) []) (beneath n (inl refl))
before_old t b (n ∷ old) new outside beneath =
    before_step t b n (old ++ new)
    ∙ ap (λ a. cond (not a) (n ∷ before_block t b (old ++ new)) []) (outside n (inl refl))
    ∙ ap (λ ns. n ∷ ns) (before_old t b old new (λ u i. outside u (inr i)) beneath)

-- it is what a cancel of the block puts back at a later stamp
module _ (t : List Node) (first : List ℤ) (b : ℕ) (x : Since) (h : IsKept t first b x) (stamp : ℕ) (less : (c u : ℕ) → In u (live_accesses t c)
    → stamp_of t u < stamp) where
  cell_wrote : (c : ℕ) → c < length first → was_written x c ≡ wrote_in t b stamp (live_accesses t c)
  cell_wrote c low =
      let s = h.each c low in
      let P : ℕ → List ℕ → Type 0 = λ u us. In u us in
      s.wrote ∙ sym (ap (wrote_in t b stamp) s.all
      ∙ wrote_new t b s.old s.new s.outside s.beneath stamp (λ u i. less c u (subst (P u) (sym s.all) (in_right u s.old s.new i))))

  cell_left : (c : ℕ) → c < length first
      → value_at x.memory c ≡ cell_value (slice_index_or first c (pos 0)) (map (written t) (before_block t b (live_accesses t c)))
  cell_left c low =
      let s = h.each c low in
      s.value ∙ ap (λ us. cell_value (slice_index_or first c (pos 0)) (map (written t) us)) (sym (ap (before_block t b) s.all
      ∙ before_old t b s.old s.new s.outside s.beneath))

  pub puts_back_same : put_back_since x ≡ put_back t first (live_accesses t) b stamp
  puts_back_same =
      let entry : ℕ → ℤ → Back = λ c v. record { cell = c; value = v } in
      let wrote : ℕ → Bool = λ c. wrote_in t b stamp (live_accesses t c) in
      let left : ℕ → ℤ = λ c. cell_value (slice_index_or first c (pos 0)) (map (written t) (before_block t b (live_accesses t c))) in
      ap (λ n. map (λ c. entry c (value_at x.memory c)) (filter (was_written x) (below n))) h.len
      ∙ ap (map (λ c. entry c (value_at x.memory c))) (filter_same (was_written x) wrote (below (length first)) (λ c i. cell_wrote c (in_below c
      (length first) i)))
      ∙ map_same (λ c. entry c (value_at x.memory c)) (λ c. entry c (left c)) (filter wrote (below (length first)))
      (λ c i. ap (entry c) (cell_left c (in_below c (length first) (in_filter wrote c (below (length first)) i).0)))

-- ## The tree grows

module _ (t u : List Node) (g : IsGrown t u) (first : List ℤ) (b : ℕ) (x y : Since) (memory : y.memory ≡ x.memory) where
  module _ (c : ℕ) (h : IsSplit t first b x c) where
    old_there : (n : ℕ) → In n h.old → n < length t
    old_there n i = let P : List ℕ → Type 0 = λ us. In n us in live_there t c n (subst P (sym h.all) (in_left n h.old h.new i))

    new_there : (n : ℕ) → In n h.new → n < length t
    new_there n i = let P : List ℕ → Type 0 = λ us. In n us in live_there t c n (subst P (sym h.all) (in_right n h.old h.new i))

    value_same : value_at y.memory c ≡ cell_value (slice_index_or first c (pos 0)) (map (written u) h.old)
    value_same =
        ap (λ m. value_at m c) memory
        ∙ h.value
        ∙ ap (cell_value (slice_index_or first c (pos 0))) (sym (map_same (written u) (written t) h.old (λ n i. (g.same.each n (old_there n i)).wrote)))

    wrote_same : was_written x c ≡ list_any (λ n. is_some (written u n)) h.new
    wrote_same = h.wrote ∙ sym (any_same (λ n. is_some (written u n)) (λ n. is_some (written t n)) h.new (λ n i. ap is_some (g.same.each n
        (new_there n i)).wrote))

    -- where no access of the cell came
    pub split_stays : live_accesses u c ≡ live_accesses t c → was_written y c ≡ was_written x c → IsSplit u first b y c
    split_stays live wrote = record {
      old = h.old;
      new = h.new;
      all = live ∙ h.all;
      outside = λ n i. g.over b n (old_there n i) ∙ h.outside n i;
      beneath = λ n i. g.over b n (new_there n i) ∙ h.beneath n i;
      value = value_same;
      wrote = wrote ∙ wrote_same;
    }

    -- where one came beneath the block
    pub split_more : (n : ℕ) → live_accesses u c ≡ live_accesses t c ++ n ∷ [] → is_above u b n ≡ true
        → was_written y c ≡ (was_written x c || is_some (written u n)) → IsSplit u first b y c
    split_more n live over wrote =
        let q : ℕ → Bool = λ m. is_some (written u m) in
        record {
          old = h.old;
          new = h.new ++ n ∷ [];
          all = live ∙ ap (λ us. us ++ n ∷ []) h.all ∙ append_assoc h.old h.new (n ∷ []);
          outside = λ m i. g.over b m (old_there m i) ∙ h.outside m i;
          beneath = λ m i. elim (in_append m h.new (n ∷ []) i) [
            | inl j ↦ g.over b m (new_there m j) ∙ h.beneath m j
            | inr j ↦ elim j [ inl e ↦ ap (is_above u b) e ∙ over | inr z ↦ absurd z ]
          ];
          value = value_same;
          wrote = wrote ∙ ap (λ a. a || q n) wrote_same ∙ sym (list_any-append q h.new (n ∷ []) ∙ ap (λ a. list_any q h.new || a) (or-false (q n)));
        }

  pub kept_by : IsKept t first b x → ((c : ℕ) → c < length first → IsSplit t first b x c → IsSplit u first b y c) → IsKept u first b y
  kept_by h f = record { there = omega (arith, h.there, g.longer); len = ap length memory ∙ h.len; each = λ c low. f c low (h.each c low) }

-- ## All begun blocks

-- the blocks on the way down to place p may put these back, the innermost first
abbrev pub Keeps : List Node → List ℤ → (p : ℕ) → List Crossing → (blocks : ℕ) → List Since → Type 0
Keeps t first p c (suc b) [] = ⊥
Keeps t first p c (suc b) (x ∷ xs) = IsKept t first p x × Keeps t first (parent_of t p) c b xs
Keeps t first p [] zero xs = xs ≡ []
Keeps t first p (y ∷ c) zero xs = Keeps t first (parent_of t y.node) c y.blocks xs

module _ (t u : List Node) (r : IsRooted t) (root : is_strand t 0 ≡ true) (g : IsGrown t u) (first : List ℤ) (f : Since → Since) (q : ℕ) (hq : q < length t)
    (each : (b : ℕ) (x : Since) → is_ancestor t b q ≡ true → IsKept t first b x → IsKept u first b (f x)) where
  parent_over : (p : ℕ) → 0 < p → p < length t → is_ancestor t p q ≡ true → is_ancestor t (parent_of t p) q ≡ true
  parent_over p some h a = ancestor_trans t r (parent_of t p) p q hq (ancestor_up t r (parent_of t p) p some h (ancestor_self t (parent_of t p))) a

  pub keeps_grown : (p : ℕ) (c : List Crossing) (b k : ℕ) → p < length t → is_ancestor t p q ≡ true → Descends t p c b k → (xs : List Since)
      → Keeps t first p c b xs → Keeps u first p c b (map f xs)
  keeps_grown p c (suc b) k h a d [] z = absurd z
  keeps_grown p c (suc b) k h a d (x ∷ xs) z =
      let some : 0 < p = other_some t root p (block_no_strand t p d.0) in
      let low : parent_of t p < p = r p some h in
      let P : ℕ → Type 0 = λ n. Keeps u first n c b (map f xs) in
      (each p x a z.0, subst P (sym (g.parents p h)) (keeps_grown (parent_of t p) c b k (omega arith) (parent_over p some h a) d.1 xs z.1))
  keeps_grown p [] zero k h a d xs z = ap (map f) z
  keeps_grown p (y ∷ c) zero k h a d xs z =
      let low = crossed_low t r root p y c k h d in
      let A : ℕ → Type 0 = λ n. is_ancestor t n q ≡ true in
      let P : ℕ → Type 0 = λ n. Keeps u first n c y.blocks (map f xs) in
      let over : is_ancestor t y.node q ≡ true = subst A d.2 (parent_over p d.0 h a) in
      subst P (sym (g.parents y.node (omega arith))) (keeps_grown (parent_of t y.node) c y.blocks y.turn.fork (omega arith) (parent_over y.node (omega arith)
      (omega arith) over) d.7 xs z)

-- ## The steps

-- where no access came the blocks may put back what they may
pub keeps_same : (t u : List Node) → IsRooted t → is_strand t 0 ≡ true → IsGrown t u → ((c : ℕ) → live_accesses u c ≡ live_accesses t c)
    → (first : List ℤ) (p : ℕ) (c : List Crossing) (b k : ℕ) → p < length t → Descends t p c b k
    → (xs : List Since) → Keeps t first p c b xs → Keeps u first p c b xs
keeps_same t u r root g live first p c b k h d xs z =
    let P : List Since → Type 0 = λ ys. Keeps u first p c b ys in
    subst P (map-id xs)
    (keeps_grown t u r root g first (λ x. x) p h (λ n x a kept. kept_by t u g first n x x refl kept (λ e low s. split_stays t u g first n x x refl e s
    (live e) refl)) p c b k h (ancestor_self t p) d xs z)

module _ (t : List Node) (p clock : ℕ) (built : IsBuilt t p clock) (first : List ℤ) (c : List Crossing) (b k : ℕ) (down : Descends t p c b k)
    (xs : List Since) (keeps : Keeps t first p c b xs) where
  -- no node was rolled back
  none : (n : ℕ) → is_aborted t n ≡ false
  none = not_aborted t p clock built

  -- a node that is no access, anywhere
  plain_live : (f : ℕ) (kind : Kind) (st : ℕ) → ((e : ℕ) → touches_kind e kind ≡ false) → (e : ℕ) → live_accesses (added t f kind st) e ≡ live_accesses t e
  plain_live f kind st plain e =
      let x = fresh_node f kind st in
      live_stays t (added t f kind st) (grown_by t built.rooted none f kind st).same e (length_more t x) (node_new t x (λ y. touches_kind e y.kind) ∙ plain e)

  pub keeps_plain : (kind : Kind) (st : ℕ) → ((e : ℕ) → touches_kind e kind ≡ false) → Keeps (added t p kind st) first p c b xs
  keeps_plain kind st plain =
      keeps_same t (added t p kind st) built.rooted built.root (grown_by t built.rooted none p kind st)
      (plain_live p kind st plain) first p c b k built.there down xs keeps

  -- ## An access

  module _ (kind : Kind) (e st : ℕ) (later : clock < st) (only : (d : ℕ) → touches_kind d kind ≡ (e == d)) (f : Since → Since) (memory : (x : Since)
      → (f x).memory ≡ x.memory)
      (here : (x : Since) → was_written (f x) e ≡ (was_written x e || is_some (written_kind kind))) (elsewhere : (x : Since) (d : ℕ) → (e ≡ d → ⊥)
      → was_written (f x) d ≡ was_written x d) where
    abbrev u : List Node
    u = added t p kind st

    grown : IsGrown t u
    grown = grown_by t built.rooted none p kind st

    abbrev node : Node
    node = fresh_node p kind st

    over_new : (n : ℕ) → is_ancestor t n p ≡ true → is_above u n (length t) ≡ true
    over_new n a = ap (λ ns. has ns n) (above_new t node built.rooted built.there) ∙ a

    access_new : live_accesses u e ≡ live_accesses t e ++ length t ∷ []
    access_new =
        live_more t u grown.same e (length_more t node) (node_new t node (λ y. touches_kind e y.kind) ∙ (only e ∙ eq-eqb e e refl))
        (λ n h. let le : stamp_of t n ≤ clock = built.stamps n in omega (arith, number_new t node (λ y. y.stamp)))

    access_other : (d : ℕ) → (e ≡ d → ⊥) → live_accesses u d ≡ live_accesses t d
    access_other d ne = live_stays t u grown.same d (length_more t node) (node_new t node (λ y. touches_kind d y.kind) ∙ (only d ∙ ne_eqb e d ne))

    kept_access : (n : ℕ) (x : Since) → is_ancestor t n p ≡ true → IsKept t first n x → IsKept u first n (f x)
    kept_access n x a h = kept_by t u grown first n x (f x) (memory x) h (λ d low s. by d s (cases_eq e d)) where
      by : (d : ℕ) → IsSplit t first n x d → (e ≡ d) ⊎ (e ≡ d → ⊥) → IsSplit u first n (f x) d
      by d s (inr ne) = split_stays t u grown first n x (f x) (memory x) d s (access_other d ne) (elsewhere x d ne)
      by d s (inl q) =
          let P : ℕ → Type 0 = λ j. IsSplit t first n x j → IsSplit u first n (f x) j in
          subst P q (λ s. split_more t u grown first n x (f x) (memory x) e s (length t) access_new (over_new n a)
          (here x ∙ ap (λ o. was_written x e || is_some o) (sym (ap (value_in written_kind) (get_next t node []))))) s

    pub keeps_access : Keeps u first p c b (map f xs)
    keeps_access = keeps_grown t u built.rooted built.root grown first f p built.there kept_access p c b k built.there (ancestor_self t p) down xs keeps

  pub keeps_read : (e : ℕ) (v : ℤ) (st : ℕ) → clock < st → Keeps (added t p (Read e v) st) first p c b xs
  keeps_read e v st later =
      let P : List Since → Type 0 = λ ys. Keeps (added t p (Read e v) st) first p c b ys in
      subst P (map-id xs) (keeps_access (Read e v) e st later (λ d. refl) (λ x. x) (λ x. refl) (λ x. sym (or-false (was_written x e))) (λ x d ne. refl))

  pub keeps_write : (e : ℕ) (v : ℤ) (st : ℕ) → clock < st → Keeps (added t p (Write e v) st) first p c b (map (with_write e) xs)
  keeps_write e v st later =
      keeps_access (Write e v) e st later (λ d. refl) (with_write e) (λ x. refl)
      (λ x. list_any-append (λ d. d == e) x.written (e ∷ []) ∙ ap (λ a. was_written x e || (a || false)) (eq-eqb e e refl))
      (λ x d ne. list_any-append (λ j. j == d) x.written (e ∷ []) ∙ ap (λ a. was_written x d || (a || false)) (ne_eqb e d ne) ∙ or-false (was_written x d))

  -- ## A block that begins

  module _ (memory : List ℤ) (kept : List (List Entry)) (h : HasJournals t first memory kept) (st : ℕ) where
    begun_outside : (n : ℕ) → n < length t → is_above (added t p Block st) (length t) n ≡ false
    begun_outside n low =
        (grown_by t built.rooted none p Block st).over (length t) n low
        ∙ false_from_ne_true (is_above t (length t) n) (λ q. absurd (cc (above_ancestor t (length t) n q, ancestor_past t built.rooted (length t) n low low)))

    pub keeps_begun : Keeps (added t p Block st) first (length t) c (suc b) ((let x : Since = record { memory = memory; written = [] } in x) ∷ xs)
    keeps_begun =
        let u = added t p Block st in
        let g = grown_by t built.rooted none p Block st in
        let live = plain_live p Block st (λ e. refl) in
        let P : ℕ → Type 0 = λ n. Keeps u first n c b xs in (
          record {
            there = omega (arith, length_more t (fresh_node p Block st));
            len = h.len;
            each = λ e low. (
                let (v, at) = get_some first e low in
                record {
                  old = live_accesses t e;
                  new = [];
                  all = live e ∙ sym (append-nil (live_accesses t e));
                  outside = λ n i. begun_outside n (live_there t e n i);
                  beneath = λ n i. absurd i;
                  value =
                      ap (λ o. unwrap_or o (pos 0)) (h.values e v at)
                      ∙ ap (λ w. cell_value w (map (written t) (live_accesses t e))) (sym (sym (unwrap_or-slice_get first e (pos 0))
                      ∙ ap (λ o. unwrap_or o (pos 0)) at))
                      ∙ ap (cell_value (slice_index_or first e (pos 0))) (sym (map_same (written u) (written t) (live_accesses t e) (λ n i. (g.same.each n
                      (live_there t e n i)).wrote)));
                  wrote = refl;
                });
          },
          subst P (sym (number_new t (fresh_node p Block st) (λ y. y.parent))) (keeps_plain Block st (λ e. refl)),
        )

  -- ## A fork

  pub keeps_forked : (st : ℕ) → parent_of (added_fork t p st) (length t) ≡ p → Keeps (added_fork t p st) first (parent_of (added_fork t p st) (length t)) c b xs
  keeps_forked st at =
      let u = added t p Fork st in
      let v = added_fork t p st in
      let x = fresh_node (length t) Strand 0 in
      let g = grown_by t built.rooted none p Fork st in
      let h = grown_by u (rooted_more t (fresh_node p Fork st) built.rooted built.there) g.same.none_too (length t) Strand 0 in
      let P : ℕ → Type 0 = λ n. Keeps v first n c b xs in
      subst P (sym at)
      (keeps_same t v built.rooted built.root (grown_twice t u v g h)
      (λ e. live_stays u v h.same e (length_more u x) (node_new u x (λ y. touches_kind e y.kind))
      ∙ plain_live p Fork st (λ e. refl) e) first p c b k built.there down xs keeps)

-- ## The way up

-- a block that ends may put back nothing any more
pub keeps_ended : (t : List Node) (p clock : ℕ) → IsBuilt t p clock → (first : List ℤ) (c : List Crossing) (b k : ℕ) → Descends t p c (suc b) k
    → (memory : List ℤ) (xs : List Since) → Keeps t first p c (suc b) xs
    → (st : ℕ) → Keeps (closed t p Committed st) first (parent_of t p) c b (since_after End memory xs)
keeps_ended t p clock built first c b k down memory [] keeps st = absurd keeps
keeps_ended t p clock built first c b k down memory (x ∷ xs) keeps st =
    let g = grown_closed t built.rooted (not_aborted t p clock built) p st in
    let there = built.there in
    let low : parent_of t p < p = built.rooted p (other_some t built.root p (block_no_strand t p down.0)) there in
    keeps_same t (closed t p Committed st) built.rooted built.root g (λ e. live_same t (closed t p Committed st) g.same e
    (length_closed t p Committed st)) first (parent_of t p) c b k (omega arith) down.1 xs keeps.1

-- the right strand of a fork on the way
pub keeps_turned : (t : List Node) (p clock : ℕ) → IsBuilt t p clock → (first : List ℤ) (y : Crossing) (c : List Crossing) (k : ℕ)
    → Descends t p (y ∷ c) 0 k → (xs : List Since) → Keeps t first p (y ∷ c) 0 xs
    → Keeps (added t y.node Strand 0) first (parent_of (added t y.node Strand 0) y.node) c y.blocks xs
keeps_turned t p clock built first y c k down xs keeps =
    let u = added t y.node Strand 0 in
    let x = fresh_node y.node Strand 0 in
    let g = grown_by t built.rooted (not_aborted t p clock built) y.node Strand 0 in
    let there = built.there in
    let low = crossed_low t built.rooted built.root p y c k there down in
    let P : ℕ → Type 0 = λ n. Keeps u first n c y.blocks xs in
    subst P (sym (g.parents y.node (omega arith)))
    (keeps_same t u built.rooted built.root g (λ e. live_stays t u g.same e (length_more t x) (node_new t x (λ z. touches_kind e z.kind))) first
    (parent_of t y.node) c y.blocks y.turn.fork (omega arith) down.7 xs keeps)

-- a cancel in the innermost block puts back what that may put back
pub given_right : (t : List Node) (p clock : ℕ) → IsBuilt t p clock → (first : List ℤ) (c : List Crossing) (b k : ℕ) → Descends t p c (suc b) k
    → (kind : Kind) (st : ℕ) → clock < st → ((e : ℕ) → touches_kind e kind ≡ false)
    → (xs : List Since) → Keeps (added t p kind st) first p c (suc b) xs → IsCancel (added t p kind st) first (fresh_node p kind st) (given_up xs)
given_right t p clock built first c b k down kind st later plain [] keeps = absurd keeps
given_right t p clock built first c b k down kind st later plain (x ∷ xs) keeps =
    let u = added t p kind st in
    let y = fresh_node p kind st in
    let g = grown_by t built.rooted (not_aborted t p clock built) p kind st in
    let live : (e : ℕ) → live_accesses u e ≡ live_accesses t e = λ e. live_stays t u g.same e (length_more t y) (node_new t y (λ z. touches_kind e z.kind)
    ∙ plain e) in
    record {
      block = g.blocks p built.there ∙ down.0;
      list = puts_back_same u first p x keeps.0 st (λ e n i.
          let P : List ℕ → Type 0 = λ us. In n us in
          let low : n < length t = live_there t e n (subst P (live e) i) in
          let le : stamp_of t n ≤ clock = built.stamps n in
          omega (arith, (g.same.each n low).stamp));
    }
