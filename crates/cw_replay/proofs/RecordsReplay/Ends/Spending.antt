-- A run in which a strand spent its budget: the strand stopped at what was refused.
use Rattle.std.proofs.Common.{◌≡◌, ℕ, ℤ, ◌<◌, ◌≤◌, List, length, refl, ap, sym, ◌∙◌, arith, Bool, true, false, cond, Option, Some, None, inl, inr, subst, nat_eq}
use Rattle.std.specs.Prelude.{◌⊎◌, ◌&&◌, ◌||◌, unwrap_or, is_some, slice_get}
use Rattle.std.specs.Option.{option_map_or}
use Rattle.std.proofs.lemmas.Bool.{and_parts, or_cases, cases_lt, cases_eq, eqb-true, eq-eqb, false_from_ne_true}
use Rattle.std.proofs.lemmas.List.Elements.{All-contains}
use Rattle.cw_strand.specs.declared.want.Want.{Want}
use Rattle.cw_strand.specs.declared.want.Want.TheVariants as want
use Rattle.cw_strand.specs.Strands.{Strands, is_over, wants_fork}
use Rattle.cw_tree.specs.declared.node.Node.{Node}
use Rattle.cw_tree.specs.declared.node.Kind.{Kind}
use Rattle.cw_tree.specs.declared.node.Kind.TheVariants.{Tried}
use Rattle.cw_tree.specs.declared.access.Entry.{Entry}
use Rattle.cw_tree.specs.declared.conflict.Conflict.{Conflict}
use Rattle.cw_tree.specs.Nodes.{parent_of, stamp_of, is_strand, is_block, is_pending, is_aborted, is_tried, tries, all_nodes, block_with_stamp}
use Rattle.cw_tree.specs.Nodes as nodes
use Rattle.cw_tree.specs.Walks.{is_ancestor}
use Rattle.cw_tree.specs.Series.{children, strand_of, last_of}
use Rattle.cw_tree.specs.Accesses.{is_live}
use Rattle.cw_tree.specs.Refusals.{victim_of, is_refused_in, tells, telling, refused_node, may_be_last, Spent, IsRecorded}
use Rattle.cw_tree.specs.Histories.{IsHistory}
use Rattle.cw_tree.proofs.Walks.There.{node_there}
use Rattle.cw_tree.proofs.Walks.Ancestors.{ancestor_self, ancestor_up, ancestor_le}
use Rattle.cw_tree.proofs.Walks.Strands.{strand_of_other, strand_itself}
use Rattle.cw_tree.proofs.InOrder.DepthFirst.{IsChild, child_is, child_in, children_rise}
use Rattle.cw_serial.specs.declared.ends.SerialEnd.TheVariants as last
use Rattle.cw_serial.specs.Machine.{stands_at}
use Rattle.cw_record.specs.Coherent.{Follows, InSeries}
use Rattle.cw_record.specs.Items.{place_of_refused}
use Rattle.cw_record.specs.Replay.{IsAccessOf, IsRefusedBy, WantsAgain}
use Rattle.cw_record.proofs.Lists.{find_passes}
use Rattle.cw_replay.proofs.Found.{find_contains}
use Rattle.cw_replay.proofs.RecordsReplay.Tasks.Sorts as sorts
use Rattle.cw_replay.proofs.RecordsReplay.Tasks.Sorts.{IsSort, pending_sort, tried_sort, kept_block}
use Rattle.cw_replay.proofs.Kin.{parent_low, live_over, fork_child}
use Rattle.cw_replay.proofs.RecordsReplay.Tasks.Accounts.{Account, last_state, Last, last_of_below, strand_series, block_series}
use Rattle.cw_replay.proofs.RecordsReplay.Tasks.Folds.{plain_child}
use Rattle.cw_replay.proofs.RecordsReplay.Tasks.Quiet.{Quiet, quiet_before, pending_stays, committed_ends, tried_stays}
use Rattle.cw_replay.proofs.RecordsReplay.Ends.Stops.{none_true, unstopped, Stopped, StoppedAt, stopped_there}
use Rattle.cw_strand.specs.declared.want.Given.TheVariants.{Nothing}
use Rattle.cw_tree.proofs.InOrder.Visits.{child_over}
use Rattle.cw_tree.proofs.NodeKinds.{other_some}

tries_tried : (t : List Node) (n cell : ℕ) → tries t cell n ≡ true → is_tried t n ≡ true
tries_tried t n cell e = by (slice_get t n) e where
  kinds : (k : Kind) → nodes.tries_kind cell k ≡ true → nodes.is_tried_kind k ≡ true
  kinds (Tried d) e = refl
  kinds _ e = absurd (cc e)

  by : (o : Option Node) → nodes.passes (λ x. nodes.tries_kind cell x.kind) o ≡ true → nodes.passes (λ x. nodes.is_tried_kind x.kind) o ≡ true
  by None e = absurd (cc e)
  by (Some x) e = kinds x.kind e

-- a node may be the last of a run
abbrev may_be : List Node → ℕ → Bool
may_be t n = is_live t n && (is_tried t n || is_pending t n)

-- an access that is wanted is no end and no fork
access_stops : (cell : ℕ) (w : Want) → IsAccessOf cell w → (is_over w ≡ false) × (wants_fork w ≡ false)
access_stops cell (want.Load d) e = (refl, refl)
access_stops cell (want.Store d v) e = (refl, refl)
access_stops cell _ e = absurd e

module _ {A : Type 0} (s : Strands A) where
  access_shows : (cell : ℕ) (w : Want) → IsAccessOf cell w → (name : ℕ) → stands_at s name w ≡ Some (last.At name)
  access_shows cell (want.Load d) e name = refl
  access_shows cell (want.Store d v) e name = refl
  access_shows cell _ e name = absurd e

module _ {A : Type 0} (s : Strands A) (t : List Node) (first : List ℤ) (kept : List (List Entry)) (cs : List Conflict) (h : IsHistory t first kept cs) (before after reached : ℕ → A) (follows : Follows s t before after reached) where
  abbrev w : Account s t
  w = unstopped s t first kept cs h before after reached follows

  -- a live node, the last right in its parent, behind which its strand is where it was before it
  pub record IsLast (z : ℕ) (out : ℕ → Bool) : Type 0 where
    pub there : z < length t
    pub some : 0 < z
    pub plain : is_strand t z ≡ false
    pub live : (a : ℕ) → is_ancestor t a z ≡ true → is_aborted t a ≡ false
    pub stays : after z ≡ before z
    pub last : (c : ℕ) → IsChild t (parent_of t z) c → c ≤ z
    pub not_over : is_over (s.want (before z)) ≡ false
    pub no_end : s.want (before z) ≡ want.End → ⊥
    pub own : Quiet s t w z ⊎ (out z ≡ true)
    pub left_out : (b : ℕ) → out b ≡ true → (is_pending t b ≡ true) × (b ≡ z)

  module _ (z : ℕ) (out : ℕ → Bool) (l : IsLast z out) where
    abbrev n : ℕ
    n = parent_of t z

    child : IsChild t n z
    child = record { some = l.some; there = l.there; parent = refl }

    low : n < length t
    low = let less = parent_low t h.tree.rooted n z child in let there = l.there in omega arith

    no_fork : nodes.is_fork t n ≡ false
    no_fork = false_from_ne_true (nodes.is_fork t n) (λ f. absurd (cc (l.plain, fork_child t h.tree n z low f child)))

    ends : (a : A) → InSeries before after a (children t n) (reached n) → reached n ≡ before z
    ends a series = sym (last_state before after a (reached n) (children t n) z series (children_rise t n) (child_in t n z child) (λ c m. l.last c (child_is t n c m))) ∙ l.stays

    live : (a : ℕ) → is_ancestor t a n ≡ true → is_aborted t a ≡ false
    live a e = l.live a (ancestor_up t h.tree.rooted a z l.some l.there e)

    kinds : (is_strand t n ≡ true) ⊎ (is_block t n ≡ true)
    kinds = elim (or_cases (is_strand t n || nodes.is_fork t n) (is_block t n) (h.tree.parents z l.there l.some)) [
      | inl x ↦ elim (or_cases (is_strand t n) (nodes.is_fork t n) x) [ inl y ↦ inl y | inr y ↦ absurd (cc (y, no_fork)) ]
      | inr x ↦ inr x
    ]

    stands : reached n ≡ before z
    stands = elim kinds [ inl e ↦ ends (before n) (strand_series s t w n low e) | inr e ↦ ends (s.answer (before n) Nothing) (block_series s t w n low e) ]

    pub refused_stopped : StoppedAt s t first kept cs h before after reached follows n (s.want (before z)) out
    refused_stopped = record {
      there = low;
      stands = ap s.want stands;
      not_over = l.not_over;
      kind = elim kinds [
        | inl e ↦ inl e
        | inr e ↦ elim (kept_block t n e (live n (ancestor_self t n))) [ inl done ↦ absurd (l.no_end (ap s.want (sym stands) ∙ committed_ends s t w n done)) | inr pends ↦ inr pends ]
      ];
      live = live;
      no_fork = no_fork;
      children = λ c k. elim (cases_eq c z) [
        | inl q ↦ (let P : ℕ → Type 0 = λ y. Quiet s t w y ⊎ (out y ≡ true) in subst P (sym q) l.own)
        | inr ne ↦ inl (quiet_before s t w n c z k child no_fork (let le = l.last c k in omega arith))
      ];
      left_out = λ b o. (let y = l.left_out b o in let P : ℕ → Type 0 = λ x. IsChild t n x in (y.0, subst P (sym y.1) child));
    }

    -- it stands in the strand of its parent
    pub same_strand : strand_of t n ≡ strand_of t z
    same_strand = sym (strand_of_other t h.tree.rooted z l.some l.there l.plain)

  -- what a conflict refused
  pub record Refuses (x p : ℕ) (c : Conflict) : Type 0 where
    pub want : Want
    pub is : WantsAgain c want
    pub no_fork : wants_fork want ≡ false
    pub shows : (name : ℕ) → stands_at s name want ≡ Some (last.At name)
    pub stopped : Stopped s t first kept cs h before after reached follows x p want

  module _ (x budget : ℕ) (spent : Spent t cs budget x) where
    abbrev test : ℕ → Bool
    test n = nat_eq (strand_of t n) x

    there : x < length t
    there = node_there (λ y. nodes.is_strand_kind y.kind) t x spent.strand

    -- no node of the strand is later than its last
    last_node : Last test (length t) x
    last_node = last_of_below test (length t) x there (eq-eqb (strand_of t x) x (strand_itself t h.tree.rooted x spent.strand))

    last_is : last_of t x ≡ last_node.number
    last_is = ap (λ o. unwrap_or o x) last_node.is

    none_later : (c : ℕ) → c < length t → strand_of t c ≡ x → c ≤ last_node.number
    none_later c l e =
        let y = last_of_below test (length t) c l (eq-eqb (strand_of t c) x e) in
        let same : y.number ≡ last_node.number = (let q : Some y.number ≡ Some last_node.number = sym y.is ∙ last_node.is in cc q) in
        let le = y.last in
        omega (arith, same)

    -- the asker of a conflict without a victim is the last node of the strand
    module _ (c : Conflict) (rec : IsRecorded t c) (none : victim_of c ≡ None) (told : tells t budget x c ≡ true) (may : may_be_last t c ≡ true) where
      abbrev a : ℕ
      a = c.asker

      tried : tries t c.cell a ≡ true
      tried = rec.2.asker

      asker_sort : IsSort t a sorts.tried
      asker_sort = tried_sort t a (tries_tried t a c.cell tried)

      is_last : last_node.number ≡ a
      is_last = sym last_is ∙ eqb-true (last_of t x) a (sym (ap (is_refused_in t x a) none) ∙ (and_parts (nat_eq c.attempt budget) (is_refused_in t x a (victim_of c)) told).1)

      in_strand : strand_of t a ≡ x
      in_strand = ap (strand_of t) (sym is_last) ∙ eqb-true (strand_of t last_node.number) x last_node.passes

      is_refused : refused_node t c ≡ a
      is_refused = ap (λ o. option_map_or (λ v. unwrap_or (block_with_stamp t v) 0) o c.asker) none

      asker_live : is_live t a ≡ true
      asker_live = ap (is_live t) (sym is_refused) ∙ (and_parts (is_live t (refused_node t c)) (is_tried t (refused_node t c) || is_pending t (refused_node t c)) may).0

      stays : IsAccessOf c.cell (s.want (before a)) × (after a ≡ before a)
      stays = tried_stays s t w a c.cell tried

      asker_low : a < length t
      asker_low = node_there (λ y. nodes.tries_kind c.cell y.kind) t a tried

      asker_some : 0 < a
      asker_some = other_some t h.tree.root a asker_sort.strand

      asker_last : IsLast a (λ m. false)
      asker_last = record {
        there = asker_low;
        some = asker_some;
        plain = asker_sort.strand;
        live = live_over t a asker_live asker_sort.aborted;
        stays = stays.1;
        last = λ d k. omega (arith, is_last, none_later d k.there (strand_of_other t h.tree.rooted d k.some k.there (plain_child s t w (parent_of t a) d parent_plain k) ∙ ap (strand_of t) k.parent ∙ sym (strand_of_other t h.tree.rooted a asker_some asker_low asker_sort.strand) ∙ in_strand));
        not_over = (access_stops c.cell (s.want (before a)) stays.0).0;
        no_end = λ e. let P : Want → Type 0 = λ v. IsAccessOf c.cell v in absurd (let no : IsAccessOf c.cell want.End = subst P e stays.0 in no);
        own = inl (record { none = asker_sort.pending; joined = λ f. absurd (cc (f, asker_sort.fork)) });
        left_out = λ b e. absurd (none_true e);
      } where
        parent_plain : nodes.is_fork t (parent_of t a) ≡ false
        parent_plain = false_from_ne_true (nodes.is_fork t (parent_of t a)) (λ f. (let less = h.tree.rooted a asker_some asker_low in absurd (cc (asker_sort.strand, fork_child t h.tree (parent_of t a) a (omega (arith, asker_low)) f (record { some = asker_some; there = asker_low; parent = refl })))))

      alone : Refuses x (place_of_refused t c) c
      alone = record {
        want = s.want (before a);
        is = (let R : Option ℕ → Type 0 = λ o. IsRefusedBy c.cell o (s.want (before a)) in subst R (sym none) stays.0);
        no_fork = (access_stops c.cell (s.want (before a)) stays.0).1;
        shows = access_shows s c.cell (s.want (before a)) stays.0;
        stopped = (let P : ℕ → Type 0 = λ p. Stopped s t first kept cs h before after reached follows x p (s.want (before a)) in
            subst P (sym (ap (λ o. cond (is_some o) (parent_of t (refused_node t c)) c.asker) none))
            (stopped_there s t first kept cs h before after reached follows (parent_of t a) (s.want (before a)) (λ m. false) (refused_stopped a (λ m. false) asker_last) x a asker_low
            (child_over t h.tree.rooted (parent_of t a) a (record { some = asker_some; there = asker_low; parent = refl })) (λ b e. absurd (none_true e)) (same_strand a (λ m. false) asker_last ∙ in_strand)));
      }

    -- the victim of a conflict was begun in the strand, and is pending
    module _ (c : Conflict) (v : ℕ) (some_victim : victim_of c ≡ Some v) (told : tells t budget x c ≡ true) (may : may_be_last t c ≡ true) where
      record IsVictim (b : ℕ) : Type 0 where
        pub is : refused_node t c ≡ b
        pub pending : is_pending t b ≡ true
        pub live : is_live t b ≡ true
        pub strand : strand_of t b ≡ x

      the_victim : (b : ℕ) × IsVictim b
      the_victim = by (block_with_stamp t v) refl (sym (ap (is_refused_in t x c.asker) some_victim) ∙ (and_parts (nat_eq c.attempt budget) (is_refused_in t x c.asker (victim_of c)) told).1) where
        by : (o : Option ℕ) → block_with_stamp t v ≡ o → option_map_or (λ b. nat_eq (strand_of t b) x) o false ≡ true → (b : ℕ) × IsVictim b
        by None e f = absurd (cc f)
        by (Some b) e f =
            let is : refused_node t c ≡ b = ap (λ o. option_map_or (λ v. unwrap_or (block_with_stamp t v) 0) o c.asker) some_victim ∙ ap (λ o. unwrap_or o 0) e in
            let P : ℕ → Type 0 = λ m. may_be t m ≡ true in
            let m = and_parts (is_live t b) (is_tried t b || is_pending t b) (subst P is may) in
            let block : is_block t b ≡ true = (and_parts (is_block t b) (nat_eq (stamp_of t b) v) (find_passes (λ n. is_block t n && nat_eq (stamp_of t n) v) (all_nodes t) b e)).0 in (
              b,
              record {
                is = is;
                pending = elim (or_cases (is_tried t b) (is_pending t b) m.1) [ inl y ↦ (let z = tried_sort t b y in absurd (cc (block, z.block))) | inr y ↦ y ];
                live = m.0;
                strand = eqb-true (strand_of t b) x f;
              },
            )

      with_victim : (b : ℕ) → IsVictim b → Refuses x (place_of_refused t c) c
      with_victim b z = record {
        want = want.Begin;
        is = (let R : Option ℕ → Type 0 = λ o. IsRefusedBy c.cell o want.Begin in subst R (sym some_victim) refl);
        no_fork = refl;
        shows = λ name. refl;
        stopped = (let P : ℕ → Type 0 = λ p. Stopped s t first kept cs h before after reached follows x p want.Begin in
            let Q : Want → Type 0 = λ v. Stopped s t first kept cs h before after reached follows x (parent_of t b) v in
            let less = h.tree.rooted b some low in
            subst P (sym (ap (λ o. cond (is_some o) (parent_of t (refused_node t c)) c.asker) some_victim ∙ ap (parent_of t) z.is))
            (subst Q begins.0
            (stopped_there s t first kept cs h before after reached follows (parent_of t b) (s.want (before b)) (λ m. nat_eq m b) (refused_stopped b (λ m. nat_eq m b) victim_last) x (parent_of t b) (omega (arith, low)) (ancestor_self t (parent_of t b))
            (λ m e over. let le : m ≤ parent_of t b = ancestor_le t h.tree.rooted m (parent_of t b) (omega (arith, low)) over in omega (arith, eqb-true m b e)) (same_strand b (λ m. nat_eq m b) victim_last ∙ z.strand))));
      } where
        sort : IsSort t b sorts.pending
        sort = pending_sort t b z.pending

        some : 0 < b
        some = other_some t h.tree.root b sort.strand

        low : b < length t
        low = node_there (λ y. nodes.is_block_kind y.kind) t b sort.block

        begins : (s.want (before b) ≡ want.Begin) × (after b ≡ before b)
        begins = pending_stays s t w b z.pending

        parent_plain : nodes.is_fork t (parent_of t b) ≡ false
        parent_plain = false_from_ne_true (nodes.is_fork t (parent_of t b)) (λ f. (let less = h.tree.rooted b some low in absurd (cc (sort.strand, fork_child t h.tree (parent_of t b) b (omega (arith, low)) f (record { some = some; there = low; parent = refl })))))

        victim_last : IsLast b (λ m. nat_eq m b)
        victim_last = record {
          there = low;
          some = some;
          plain = sort.strand;
          live = live_over t b z.live sort.aborted;
          stays = begins.1;
          last = λ d k. elim (cases_lt b d) [ inl l ↦ absurd (cc (z.pending, (quiet_before s t w (parent_of t b) b d (record { some = some; there = low; parent = refl }) k parent_plain l).none)) | inr le ↦ le ];
          not_over = ap is_over begins.0;
          no_end = λ e. absurd (cc (sym begins.0 ∙ e));
          own = inr (eq-eqb b b refl);
          left_out = λ m e. let q = eqb-true m b e in let P : ℕ → Type 0 = λ y. is_pending t y ≡ true in (subst P (sym q) z.pending, q);
        }

    -- the conflict that tells of the spent budget
    pub record Tells : Type 0 where
      pub conflict : Conflict
      pub is : telling t cs budget x ≡ Some conflict
      pub refuses : Refuses x (place_of_refused t conflict) conflict

    pub budget_spent : Tells
    budget_spent = by (telling t cs budget x) refl spent.told where
      victims : (c : Conflict) → IsRecorded t c → tells t budget x c ≡ true → may_be_last t c ≡ true → (o : Option ℕ) → victim_of c ≡ o → Refuses x (place_of_refused t c) c
      victims c rec told may None e = alone c rec e told may
      victims c rec told may (Some v) e = let b = the_victim c v e told may in with_victim c v e told may b.0 b.1

      by : (o : Option Conflict) → telling t cs budget x ≡ o → option_map_or (may_be_last t) o false ≡ true → Tells
      by None e f = absurd (cc f)
      by (Some c) e f = let z = find_contains (tells t budget x) cs c e in record { conflict = c; is = e; refuses = victims c (All-contains (IsRecorded t) cs c h.refusals.recorded z.0) z.1 f (victim_of c) refl }
