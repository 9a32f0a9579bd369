-- Where a strand stopped, from the children of the node in which it stands: each is quiet, or left out.
use Rattle.std.proofs.Common.{◌≡◌, ℕ, ℤ, ◌<◌, ◌≤◌, List, length, refl, sym, ◌∙◌, arith, Bool, true, false, inl, inr, subst, nat_eq}
use Rattle.std.specs.Prelude.{◌⊎◌, ◌&&◌}
use Rattle.std.proofs.lemmas.Bool.{and_from, cases_eq, eqb-true, eq-eqb, false_from_ne_true}
use Rattle.cw_strand.specs.declared.want.Want.{Want}
use Rattle.cw_strand.specs.declared.want.Want.TheVariants as want
use Rattle.cw_strand.specs.Strands.{Strands, is_over}
use Rattle.cw_tree.specs.declared.node.Node.{Node}
use Rattle.cw_tree.specs.declared.access.Entry.{Entry}
use Rattle.cw_tree.specs.declared.conflict.Conflict.{Conflict}
use Rattle.cw_tree.specs.Nodes.{parent_of, is_strand, is_fork, is_block, is_pending, is_aborted, is_pending_state, is_block_kind}
use Rattle.cw_tree.specs.Walks.{is_ancestor, is_above}
use Rattle.cw_tree.specs.Series.{strand_of}
use Rattle.cw_tree.specs.Histories.{IsHistory}
use Rattle.cw_tree.proofs.Walks.Ancestors.{ancestor_above, ancestor_le}
use Rattle.cw_tree.proofs.Walks.Kin.{branch}
use Rattle.cw_tree.proofs.InOrder.DepthFirst.{IsChild}
use Rattle.cw_record.specs.Coherent.{Follows}
use Rattle.cw_replay.proofs.RecordsReplay.Tasks.Sorts.{aborted_sort, pending_sort}
use Rattle.cw_replay.proofs.RecordsReplay.Tasks.Accounts.{Account, Stop, IsStop, InLeftOut}
use Rattle.cw_replay.proofs.RecordsReplay.Tasks.Folds.{plain_child}
use Rattle.cw_replay.proofs.RecordsReplay.Tasks.Quiet.{Quiet, calm}
use Rattle.cw_replay.proofs.RecordsReplay.Ordered.Runs.{Run}
use Rattle.cw_tree.proofs.Walks.There.{node_there}

-- no node passes a test that none passes
pub none_true : false ≡ true → ⊥
none_true e = absurd (cc e)

module _ {A : Type 0} (s : Strands A) (t : List Node) (first : List ℤ) (kept : List (List Entry)) (cs : List Conflict) (h : IsHistory t first kept cs) (before after reached : ℕ → A) (follows : Follows s t before after reached) where
  -- the account of the run, where a strand stopped so
  abbrev pub accounted : (z : Stop) → ((n : ℕ) → z.at n ≡ true → IsStop s t before after reached z n) → ((m n : ℕ) → z.at m ≡ true → z.at n ≡ true → m ≡ n) → ((b : ℕ) → z.out b ≡ true → (is_pending t b ≡ true) × (z.at (parent_of t b) ≡ true))
      → is_over z.wants ≡ false → Account s t
  accounted z stops once left_out not_over = record {
    tree = h.tree;
    pending_last = h.pending_last;
    before = before;
    after = after;
    reached = reached;
    follows = follows;
    stop = z;
    stops = stops;
    once = once;
    left_out = left_out;
    not_over = not_over;
  }

  abbrev nowhere : Stop
  nowhere = record { wants = want.Begin; at = λ n. false; out = λ n. false }

  -- no strand stopped
  abbrev pub unstopped : Account s t
  unstopped = accounted nowhere (λ n e. absurd (none_true e)) (λ m n e f. absurd (none_true e)) (λ b e. absurd (none_true e)) refl

  abbrev pub unstopped_run : Run s t 0
  unstopped_run = record {
    account = unstopped;
    laid = record { tree = h.tree; stamps = h.stamps; pending_last = h.pending_last; there = h.tree.some };
    toward = λ n e. absurd (none_true e);
    apart = λ b e. absurd (none_true e);
  }

  -- all around a pending block is live
  pub pending_live : (b : ℕ) → b < length t → is_pending t b ≡ true → (a : ℕ) → is_ancestor t a b ≡ true → is_aborted t a ≡ false
  pending_live b hb e a over = false_from_ne_true (is_aborted t a) (λ f.
      let z = aborted_sort t a f in
      elim (cases_eq b a) [
        | inl q ↦ (let P : ℕ → Type 0 = λ x. is_pending t x ≡ true in absurd (cc (subst P q e, z.pending)))
        | inr ne ↦
            (let le : a ≤ b = ancestor_le t h.tree.rooted a b hb over in
            absurd (cc (h.pending_last.around a b (omega arith) hb (and_from (is_pending t b && is_block t a) (is_above t a b) (and_from (is_pending t b) (is_block t a) e z.block) (sym (ancestor_above t a b ne) ∙ over)), z.pending)))
      ])

  -- strand x stopped, and wants this, where the order goes down to place p
  pub record Stopped (x p : ℕ) (v : Want) : Type 0 where
    pub run : Run s t p
    pub node : ℕ
    pub at : run.account.stop.at node ≡ true
    pub strand : strand_of t node ≡ x
    pub wants : run.account.stop.wants ≡ v

  -- a strand stopped in node n
  pub record StoppedAt (n : ℕ) (wants : Want) (out : ℕ → Bool) : Type 0 where
    pub there : n < length t
    pub stands : s.want (reached n) ≡ wants
    pub not_over : is_over wants ≡ false
    pub kind : (is_strand t n ≡ true) ⊎ (is_pending t n ≡ true)
    pub live : (a : ℕ) → is_ancestor t a n ≡ true → is_aborted t a ≡ false
    pub no_fork : is_fork t n ≡ false
    pub children : (c : ℕ) → IsChild t n c → Quiet s t unstopped c ⊎ (out c ≡ true)
    pub left_out : (b : ℕ) → out b ≡ true → (is_pending t b ≡ true) × IsChild t n b

  module _ (n : ℕ) (wants : Want) (out : ℕ → Bool) (z : StoppedAt n wants out) where
    abbrev pub stop_at : Stop
    stop_at = record { wants = wants; at = λ m. nat_eq m n; out = out }

    pub is_stop : IsStop s t before after reached stop_at n
    is_stop = record {
      there = z.there;
      wants = z.stands;
      kind = z.kind;
      live = z.live;
      shut = shut;
      joined = λ f k e. elim (z.children f k) [ inl q ↦ q.joined e | inr o ↦ (let y = pending_sort t f (z.left_out f o).0 in absurd (cc (e, y.fork))) ];
    } where
      shut : (b : ℕ) → is_pending t b ≡ true → is_ancestor t n b ≡ true → (b ≡ n) ⊎ InLeftOut s t stop_at n b
      shut b e over = elim (cases_eq b n) [ inl q ↦ inl q | inr ne ↦ inr (by ne) ] where
        hb : b < length t
        hb = node_there (λ x. is_block_kind x.kind && is_pending_state x.state) t b e

        by : (b ≡ n → ⊥) → InLeftOut s t stop_at n b
        by ne =
            let c = branch t h.tree.rooted n b hb ne over in
            let le : c.child ≤ b = ancestor_le t h.tree.rooted c.child b hb c.over in
            let low = hb in
            let k : IsChild t n c.child = record { some = c.some; there = omega arith; parent = c.parent } in
            elim (z.children c.child k) [
              | inl q ↦
                  (let y = calm s t unstopped c.child (record { quiet = q; ended = λ f. absurd (cc (f, plain_child s t unstopped n c.child z.no_fork k)) }) b hb c.over (pending_live b hb e) in
                  let quiet = y.quiet in
                  absurd (cc (e, quiet.none)))
              | inr o ↦ record { child = c.child; is_child = k; out = o; over = c.over }
            ]

    abbrev pub stopped : Account s t
    stopped =
        accounted stop_at (λ m e. let P : ℕ → Type 0 = λ x. IsStop s t before after reached stop_at x in subst P (sym (eqb-true m n e)) is_stop) (λ a b e f. eqb-true a n e ∙ sym (eqb-true b n f))
        (λ b o. let y = z.left_out b o in let k = y.1 in (y.0, eq-eqb (parent_of t b) n k.parent)) z.not_over

    -- with an order that goes down to it, and not into what is left out
    pub stopped_there : (x p : ℕ) → p < length t → is_ancestor t n p ≡ true → ((b : ℕ) → out b ≡ true → is_ancestor t b p ≡ true → ⊥) → strand_of t n ≡ x → Stopped x p wants
    stopped_there x p hp over apart own = record {
      run = record {
        account = stopped;
        laid = record { tree = h.tree; stamps = h.stamps; pending_last = h.pending_last; there = hp };
        toward = λ m e. let P : ℕ → Type 0 = λ x. is_ancestor t x p ≡ true in subst P (sym (eqb-true m n e)) over;
        apart = apart;
      };
      node = n;
      at = eq-eqb n n refl;
      strand = own;
      wants = refl;
    }
