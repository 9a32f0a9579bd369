-- A run that came to a fault: its strand stopped at the fault.
use Rattle.std.proofs.Common.{◌≡◌, ℕ, ℤ, ◌<◌, ◌≤◌, List, length, refl, ap, sym, ◌∙◌, arith, Bool, true, false, Option, Some, None, inl, inr, subst, nat_eq, nat_lt}
use Rattle.std.specs.Prelude.{◌⊎◌, ◌&&◌, unwrap_or, IsTrue}
use Rattle.std.proofs.lemmas.Bool.{and_parts, and_from, cases_eq, eqb-true, eq-eqb, lt-ltb, false_from_ne_true}
use Rattle.cw_code.specs.declared.FaultKind.{FaultKind}
use Rattle.cw_strand.specs.declared.want.Want.TheVariants as want
use Rattle.cw_strand.specs.Strands.{Strands}
use Rattle.cw_tree.specs.declared.node.Node.{Node}
use Rattle.cw_tree.specs.declared.access.Entry.{Entry}
use Rattle.cw_tree.specs.declared.conflict.Conflict.{Conflict}
use Rattle.cw_tree.specs.Nodes.{parent_of, is_strand, is_fork, is_pending, is_aborted, last_below, is_strand_kind, all_nodes}
use Rattle.cw_tree.specs.Walks.{is_ancestor}
use Rattle.cw_tree.specs.Series.{strand_of, place}
use Rattle.cw_tree.specs.Accesses.{is_live}
use Rattle.cw_tree.specs.Histories.{IsHistory}
use Rattle.cw_tree.specs.Links.{is_child}
use Rattle.cw_tree.proofs.Walks.There.{node_there}
use Rattle.cw_tree.proofs.Walks.Ancestors.{ancestor_self}
use Rattle.cw_tree.proofs.Walks.Strands.{strand_of_other, strand_itself}
use Rattle.cw_tree.proofs.InOrder.DepthFirst.{IsChild, child_is}
use Rattle.cw_tree.proofs.Walks.Children.{last_passes}
use Rattle.cw_tree.proofs.Members.{filter_in, below_in}
use Rattle.cw_record.specs.Coherent.{Follows, HasNoOpenFork}
use Rattle.cw_replay.proofs.RecordsReplay.Tasks.Sorts.{strand_sort, pending_sort}
use Rattle.cw_replay.proofs.Kin.{parent_low, live_over}
use Rattle.cw_replay.proofs.RecordsReplay.Tasks.Accounts.{Last, last_of_below}
use Rattle.cw_replay.proofs.RecordsReplay.Tasks.Folds.{plain_child}
use Rattle.cw_replay.proofs.RecordsReplay.Tasks.Quiet.{Quiet, quiet_before}
use Rattle.cw_replay.proofs.RecordsReplay.Ends.Stops.{none_true, unstopped, pending_live, Stopped, StoppedAt, stopped_there}

module _ {A : Type 0} (s : Strands A) (t : List Node) (first : List ℤ) (kept : List (List Entry)) (cs : List Conflict) (h : IsHistory t first kept cs) (before after reached : ℕ → A) (follows : Follows s t before after reached) where
  -- a test of pending blocks begun in strand x
  abbrev is_begun_in : ℕ → ℕ → Bool
  is_begun_in x m = is_pending t m && nat_eq (strand_of t m) x

  -- the place of a live strand: its innermost pending block, or the strand itself
  record IsPlace (x n : ℕ) : Type 0 where
    pub there : n < length t
    pub kind : (is_strand t n ≡ true) ⊎ (is_pending t n ≡ true)
    pub strand : strand_of t n ≡ x
    pub live : (a : ℕ) → is_ancestor t a n ≡ true → is_aborted t a ≡ false
    pub last : (c : ℕ) → c < length t → is_pending t c ≡ true → strand_of t c ≡ x → c ≤ n

  at_place : (x : ℕ) → is_strand t x ≡ true → is_live t x ≡ true → IsPlace x (place t x)
  at_place x e live = by (last_below (is_begun_in x) (length t)) refl where
    test : (c : ℕ) → is_pending t c ≡ true → strand_of t c ≡ x → is_begun_in x c ≡ true
    test c p q = and_from (is_pending t c) (nat_eq (strand_of t c) x) p (eq-eqb (strand_of t c) x q)

    by : (o : Option ℕ) → last_below (is_begun_in x) (length t) ≡ o → IsPlace x (unwrap_or o x)
    by None q = record {
      there = node_there (λ y. is_strand_kind y.kind) t x e;
      kind = inl e;
      strand = strand_itself t h.tree.rooted x e;
      live = live_over t x live (strand_sort t x e).aborted;
      last = λ c l p z. let y = last_of_below (is_begun_in x) (length t) c l (test c p z) in absurd (let f : Some y.number ≡ None = sym y.is ∙ q in cc f);
    }
    by (Some n) q =
        let z = last_passes (is_begun_in x) (length t) n q in
        let y = and_parts (is_pending t n) (nat_eq (strand_of t n) x) z.1 in
        record {
          there = z.0;
          kind = inr y.0;
          strand = eqb-true (strand_of t n) x y.1;
          live = pending_live s t first kept cs h before after reached follows n z.0 y.0;
          last = λ c l p f. (let y = last_of_below (is_begun_in x) (length t) c l (test c p f) in let same : y.number ≡ n = (let g : Some y.number ≡ Some n = sym y.is ∙ q in cc g) in let le = y.last in omega (arith, same));
        }

  module _ (x : ℕ) (kind : FaultKind) (may : IsTrue (is_strand t x && is_live t x)) (wants : s.want (reached (place t x)) ≡ want.Fault kind) (goes : HasNoOpenFork s t before after reached (place t x)) where
    strand : is_strand t x ≡ true
    strand = (and_parts (is_strand t x) (is_live t x) may).0

    here : IsPlace x (place t x)
    here = at_place x strand (and_parts (is_strand t x) (is_live t x) may).1

    no_fork : is_fork t (place t x) ≡ false
    no_fork = elim here.kind [ inl e ↦ (strand_sort t (place t x) e).fork | inr e ↦ (pending_sort t (place t x) e).fork ]

    all_quiet : (c : ℕ) → IsChild t (place t x) c → Quiet s t (unstopped s t first kept cs h before after reached follows) c
    all_quiet c k = by (cases_eq c l.number) where
      l : Last (is_child t (place t x)) (length t) c
      l = last_of_below (is_child t (place t x)) (length t) c k.there (and_from (nat_lt 0 c) (nat_eq (parent_of t c) (place t x)) (lt-ltb 0 c k.some) (eq-eqb (parent_of t c) (place t x) k.parent))

      z : IsChild t (place t x) l.number
      z = child_is t (place t x) l.number (filter_in (is_child t (place t x)) l.number (all_nodes t) (below_in l.number (length t) l.low) l.passes)

      last : Quiet s t (unstopped s t first kept cs h before after reached follows) l.number
      last = record {
        none = false_from_ne_true (is_pending t l.number) (λ p.
            let own = strand_of_other t h.tree.rooted l.number z.some z.there (plain_child s t (unstopped s t first kept cs h before after reached follows) (place t x) l.number no_fork z) ∙ ap (strand_of t) z.parent ∙ here.strand in
            let le = here.last l.number z.there p own in
            let low = parent_low t h.tree.rooted (place t x) l.number z in
            omega arith);
        joined = λ e. goes l.number l.is e;
      }

      by : (c ≡ l.number) ⊎ (c ≡ l.number → ⊥) → Quiet s t (unstopped s t first kept cs h before after reached follows) c
      by (inl q) = let P : ℕ → Type 0 = λ y. Quiet s t (unstopped s t first kept cs h before after reached follows) y in subst P (sym q) last
      by (inr ne) = quiet_before s t (unstopped s t first kept cs h before after reached follows) (place t x) c l.number k z no_fork (let le = l.last in omega arith)

    pub fault_stopped : StoppedAt s t first kept cs h before after reached follows (place t x) (want.Fault kind) (λ m. false)
    fault_stopped = record {
      there = here.there;
      stands = wants;
      not_over = refl;
      kind = here.kind;
      live = here.live;
      no_fork = no_fork;
      children = λ c k. inl (all_quiet c k);
      left_out = λ b e. absurd (none_true e);
    }

    pub fault_stop : Stopped s t first kept cs h before after reached follows x (place t x) (want.Fault kind)
    fault_stop = stopped_there s t first kept cs h before after reached follows (place t x) (want.Fault kind) (λ m. false) fault_stopped x (place t x) here.there (ancestor_self t (place t x)) (λ b e. absurd (none_true e)) here.strand
