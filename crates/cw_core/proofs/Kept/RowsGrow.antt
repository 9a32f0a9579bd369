-- Rows stay right as a node comes at the place of a running strand.
use Rattle.std.proofs.Common.{◌≡◌, ◌≢◌, ℕ, ◌+◌, ◌<◌, List, [], ◌∷◌, ◌++◌, length, refl, ap, sym, ◌∙◌, arith, Bool, true, false, cond, Option, Some, None, nat_eq, nat_lt, length-append}
use Rattle.std.specs.Prelude.{◌&&◌, ℤ, filter, slice_get}
use Rattle.std.specs.List.{suffix_len}
use Rattle.std.proofs.lemmas.Bool.{and_left, false_from_ne_true}
use Rattle.cw_tree.specs.declared.node.Node.{Node}
use Rattle.cw_tree.specs.declared.conflict.Conflict.{Conflict}
use Rattle.cw_tree.specs.Nodes.{is_strand_kind, is_fork_kind, is_block_kind, is_pending_state, is_aborted_state, parent_of, is_strand, is_fork, is_pending, is_aborted}
use Rattle.cw_tree.specs.Walks.{IsRooted, has}
use Rattle.cw_tree.specs.Series.{strand_of, children, place}
use Rattle.cw_tree.specs.Attempts.{tried_cell, same_cell, block_attempt, elders}
use Rattle.cw_tree.proofs.Members.{in_filter, suffix_same}
use Rattle.cw_tree.proofs.NextNodes.Growing.{length_more, get_append, node_grown, number_grown, node_new, strand_of_grown, strand_of_new}
use Rattle.cw_tree.proofs.NextNodes.Trees.{children_none, no_fork}
use Rattle.cw_trace.specs.Columns.{used}
use Rattle.cw_trace.specs.Stands.{fork_column}
use Rattle.cw_trace.proofs.Keeps.Grow.{fork_column_append, column_append}
use Rattle.cw_open.specs.Machine.{OpenMachine, has_finished, finished_dead, waits, is_running}
use Rattle.cw_open.proofs.Open.Standing.{stands}
use Rattle.cw_open.proofs.Refused.Backed.{dead_finished}
use Rattle.cw_core.specs.declared.row.Made.{Made}
use Rattle.cw_core.specs.declared.row.Tail.{Tail}
use Rattle.cw_core.specs.declared.row.Now.{Now}
use Rattle.cw_core.specs.State.{CoreState, waits_for_left}
use Rattle.cw_core.specs.Laws.{IsCore}
use Rattle.cw_core.specs.Kept.{IsMade, IsTail, IsNow, IsRow, IsVictim, leaf_row}
use Rattle.cw_core.proofs.Events.Going.{well, at_place}
use Rattle.cw_core.proofs.Kept.Tails.{suffix_more, child_low, children_other, children_here, elders_more}
use Rattle.cw_core.proofs.Events.Places.{waits_grown}

-- the cell of a node that was there
pub tried_grown : (t xs : List Node) (n : ℕ) → n < length t → tried_cell (t ++ xs) n ≡ tried_cell t n
tried_grown t xs n h = by (slice_get t n) refl where
  by : (o : Option Node) → slice_get t n ≡ o → tried_cell (t ++ xs) n ≡ tried_cell t n
  by o e = rw (get_append t xs n h, e) refl

module _ (first : List ℤ) (k : CoreState) (core : IsCore first k) (s : ℕ) (running : is_running k.machine s ≡ true) (ready : waits_for_left k s ≡ false) (x : Node) (up : x.parent ≡ place k.machine.tree s) where
  abbrev t : List Node
  t = k.machine.tree

  abbrev m : OpenMachine
  m = k.machine

  abbrev p : ℕ
  p = place t s

  abbrev u : List Node
  u = t ++ x ∷ []

  rooted : IsRooted t
  rooted = (well first k core).sound.tree.rooted

  there : p < length t
  there = (at_place first k core s running ready).there

  some : 0 < length t
  some = let h = there in omega arith

  place_no_fork : is_fork t p ≡ false
  place_no_fork = no_fork t p (at_place first k core s running ready).holds

  strand_same : (n : ℕ) → n < length t → is_strand u n ≡ is_strand t n
  strand_same n h = node_grown t (x ∷ []) (λ y. is_strand_kind y.kind) n h

  fork_same : (n : ℕ) → n < length t → is_fork u n ≡ is_fork t n
  fork_same n h = node_grown t (x ∷ []) (λ y. is_fork_kind y.kind) n h

  aborted_same : (n : ℕ) → n < length t → is_aborted u n ≡ is_aborted t n
  aborted_same n h = node_grown t (x ∷ []) (λ y. is_block_kind y.kind && is_aborted_state y.state) n h

  -- ## What is known of nodes since they were made

  module _ (lists : List (List ℕ)) (clock : ℕ) (conflicts : List Conflict) (words : List ℕ) where
    abbrev z : CoreState
    z = record k { machine = record m { tree = u; lists = lists; clock = clock; conflicts = conflicts }; words = words }

    pub made_grown : (n : ℕ) (r : Made) → n < length t → IsMade k n r → IsMade z n r
    made_grown n r h w =
        let parent_same : parent_of u n ≡ parent_of t n = number_grown t (x ∷ []) (λ y. y.parent) n h in
        let columns_same : fork_column u n ≡ fork_column t n = fork_column_append t (x ∷ []) rooted (used k.tier) n (omega arith) in
        record {
          strand = strand_of_grown t (x ∷ []) rooted n h ∙ w.strand;
          column = λ e. column_append t (x ∷ []) rooted (used k.tier) n h ∙ w.column (sym (strand_same n h) ∙ e);
          elder = λ e.
              ap (λ q. filter (λ l. nat_lt l n) (children u q)) parent_same
              ∙ elders_more t x (parent_of t n) n some (omega arith)
              ∙ w.elder (sym (strand_same n h) ∙ e);
          halves = λ e.
              (let fork = sym (fork_same n h) ∙ e in
              children_other t x n some (λ q. absurd (let a = ap (is_fork t) (sym up ∙ q) in cc (a, fork, place_no_fork))) ∙ w.halves fork);
          columns = λ e. ap (λ c. Rattle.std.specs.Prelude.nat_le (c + 2) k.tier.room) columns_same ∙ w.columns (sym (fork_same n h) ∙ e);
          forked = λ e c. columns_same ∙ w.forked (sym (fork_same n h) ∙ e) c;
          attempt = λ e.
              ap (λ q. suffix_len (is_aborted u) (filter (λ l. nat_lt l n) (children u q)) + 1) parent_same
              ∙ ap (λ ns. suffix_len (is_aborted u) ns + 1) (elders_more t x (parent_of t n) n some (omega arith))
              ∙ ap (λ c. c + 1) (suffix_same (is_aborted u) (is_aborted t) (elders t n) (λ v i. aborted_same v (child_low t (parent_of t n) v (in_filter (λ l. nat_lt l n) v (children t (parent_of t n)) i).0)))
              ∙ w.attempt (sym (node_grown t (x ∷ []) (λ y. is_block_kind y.kind && is_pending_state y.state) n h) ∙ e);
        }

    -- ## What becomes of them

    module _ (other : is_fork_kind x.kind ≡ false) where
      pub waits_same : (n : ℕ) → waits z.machine n ≡ waits m n
      waits_same n = waits_grown t (x ∷ []) rooted m z.machine refl refl refl n (λ f a b.
          and_left (is_fork u f) (nat_eq (strand_of u f) n)
          (let e : f ≡ length t = omega (arith, length_more t x) in
          ap (is_fork u) e ∙ node_new t x (λ y. is_fork_kind y.kind) ∙ other))

      pub now_grown : (n : ℕ) (r : Now) (q : ℕ) → n < length t → IsNow k n r → (is_strand t n ≡ true → place u n ≡ q) → (is_strand t n ≡ true → IsVictim z.machine n r.victim) → IsNow z n (record r { place = q })
      now_grown n r q h w at victim = record {
        place = λ e. at (sym (strand_same n h) ∙ e);
        waits = λ e. waits_same n ∙ w.waits (sym (strand_same n h) ∙ e);
        finished = w.finished;
        dead = w.dead;
        victim = λ e. victim (sym (strand_same n h) ∙ e);
        quiet = λ e g. w.quiet (sym (strand_same n h) ∙ e) g;
        split = λ e.
            ap (λ c. Rattle.std.specs.Prelude.nat_le (c + 2) k.tier.room && has k.splits c) (fork_column_append t (x ∷ []) rooted (used k.tier) n (omega arith))
            ∙ w.split (sym (fork_same n h) ∙ e);
        joined = w.joined;
      }

    -- ## The new node

    pub new_row : is_strand_kind x.kind ≡ false → is_fork_kind x.kind ≡ false → (attempt : ℕ) → (is_pending u (length t) ≡ true → block_attempt u (length t) ≡ attempt) → IsRow z (length t) (leaf_row s attempt)
    new_row no_strand other attempt at =
        let strand_no : is_strand u (length t) ≡ false = node_new t x (λ y. is_strand_kind y.kind) ∙ no_strand in
        let fork_no : is_fork u (length t) ≡ false = node_new t x (λ y. is_fork_kind y.kind) ∙ other in
        let unfinished : has_finished m (length t) ≡ false = false_from_ne_true (has_finished m (length t)) (λ e. absurd (let h = (well first k core).finished (length t) e in omega arith)) in
        let none : children u (length t) ≡ [] = children_other t x (length t) some (λ q. absurd (let h = there in omega (arith, up))) ∙ children_none t rooted (length t) (omega arith) in
        record {
          made = record {
            strand = strand_of_new t x rooted (let h = there in omega (arith, up)) ∙ ap (λ b. cond b (length t) (strand_of t x.parent)) no_strand ∙ ap (strand_of t) up ∙ (stands m (well first k core).sound.tree (well first k core).nested s running).strand;
            column = λ e. absurd (cc (e, strand_no));
            elder = λ e. absurd (cc (e, strand_no));
            halves = λ e. absurd (cc (e, fork_no));
            columns = λ e. absurd (cc (e, fork_no));
            forked = λ e c. absurd (cc (e, fork_no));
            attempt = at;
          };
          tail = record {
            started = ap (λ ns. nat_eq (length ns) 0) none;
            aborted = ap (suffix_len (is_aborted u)) none;
            tried = λ c. ap (suffix_len (λ m. same_cell (tried_cell u m) (Some c))) none ∙ zero_either (nat_eq 0 c);
          };
          now = record {
            place = λ e. absurd (cc (e, strand_no));
            waits = λ e. absurd (cc (e, strand_no));
            finished = unfinished;
            dead = false_from_ne_true (finished_dead m (length t)) (λ e. absurd (cc (unfinished, dead_finished m (length t) e)));
            victim = λ e. absurd (cc (e, strand_no));
            quiet = λ e g. absurd (cc (e, strand_no));
            split = λ e. absurd (cc (e, fork_no));
            joined = false_from_ne_true (has m.joined (length t)) (λ e. absurd (let h = (well first k core).joined (length t) e in omega arith));
          };
        } where
          zero_either : (b : Bool) → (let n : ℕ = 0 in n) ≡ cond b 0 0
          zero_either true = refl
          zero_either false = refl

  -- ## How children end

  pub tail_other : (n : ℕ) (r : Tail) → n < length t → n ≢ p → IsTail t n r → IsTail u n r
  tail_other n r h ne w =
      let same : children u n ≡ children t n = children_other t x n some (λ q. absurd (ne (sym q ∙ up))) in
      record {
        started = ap (λ ns. nat_eq (length ns) 0) same ∙ w.started;
        aborted = ap (suffix_len (is_aborted u)) same ∙ suffix_same (is_aborted u) (is_aborted t) (children t n) (λ v i. aborted_same v (child_low t n v i)) ∙ w.aborted;
        tried = λ c.
            ap (suffix_len (λ m. same_cell (tried_cell u m) (Some c))) same
            ∙ suffix_same (λ m. same_cell (tried_cell u m) (Some c)) (λ m. same_cell (tried_cell t m) (Some c)) (children t n) (λ v i. ap (λ o. same_cell o (Some c)) (tried_grown t (x ∷ []) v (child_low t n v i)))
            ∙ w.tried c;
      }

  pub tail_here : (r : Tail) → IsTail t p r → (x.kind ≡ x.kind) → is_aborted u (length t) ≡ false → tried_cell u (length t) ≡ None → IsTail u p (record { started = true; aborted = 0; tried = 0; cell = 0 })
  tail_here r w e fresh quiet =
      let more : children u p ≡ children t p ++ length t ∷ [] = ap (children u) (sym up) ∙ children_here t x some ∙ ap (λ q. children t q ++ length t ∷ []) up in
      record {
        started = ap (λ ns. nat_eq (length ns) 0) more ∙ Rattle.std.proofs.lemmas.Bool.false_from_ne_true (nat_eq (length (children t p ++ length t ∷ [])) 0) (λ q. absurd (let h = Rattle.std.proofs.lemmas.Bool.eqb-true (length (children t p ++ length t ∷ [])) 0 q in omega (arith, length-append (children t p) (length t ∷ []))));
        aborted = ap (suffix_len (is_aborted u)) more ∙ suffix_more (is_aborted u) (children t p) (length t) ∙ ap (λ b. cond b (1 + suffix_len (is_aborted u) (children t p)) 0) fresh;
        tried = λ c.
            ap (suffix_len (λ m. same_cell (tried_cell u m) (Some c))) more
            ∙ suffix_more (λ m. same_cell (tried_cell u m) (Some c)) (children t p) (length t)
            ∙ ap (λ o. cond (same_cell o (Some c)) (1 + suffix_len (λ m. same_cell (tried_cell u m) (Some c)) (children t p)) 0) quiet
            ∙ none (nat_eq 0 c);
      } where
        none : (b : Bool) → (let n : ℕ = 0 in n) ≡ cond b 0 0
        none true = refl
        none false = refl
