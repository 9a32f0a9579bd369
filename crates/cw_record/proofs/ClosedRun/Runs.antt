-- A closed run in depth-first order is coherent.
use Rattle.std.proofs.Common.{◌≡◌, ℕ, ◌<◌, List, [], ◌∷◌, length, map, refl, ap, sym, ◌∙◌, subst, arith, Bool, true, false, Option, Some, None, inl, inr}
use Rattle.std.specs.Prelude.{◌&&◌, not, ℤ, option_map}
use Rattle.std.proofs.lemmas.Bool.{and_parts, and_from, not-true}
use Rattle.cw_strand.specs.Strands.{Strands}
use Rattle.cw_tree.specs.declared.node.Node.{Node}
use Rattle.cw_tree.specs.declared.access.Entry.{Entry}
use Rattle.cw_tree.specs.declared.conflict.Conflict.{Conflict}
use Rattle.cw_tree.specs.declared.closed.Halt.{Halt}
use Rattle.cw_tree.specs.declared.closed.Halt.TheVariants as halt
use Rattle.cw_tree.specs.Nodes.{touches_kind, is_strand, is_fork, is_pending}
use Rattle.cw_tree.specs.Walks.{IsNumbered, is_ancestor}
use Rattle.cw_tree.specs.Series.{place, strand_of}
use Rattle.cw_tree.specs.Accesses.{is_live, live_accesses, written, cell_value}
use Rattle.cw_tree.specs.Histories.{IsHistory}
use Rattle.cw_tree.specs.Newest.{newest}
use Rattle.cw_tree.specs.NextNodes.{IsPlace}
use Rattle.cw_tree.specs.InOrder.{renamed, in_order, conflicts_in_order, halt_in_order}
use Rattle.cw_tree.proofs.Lists.{In}
use Rattle.cw_tree.proofs.Walks.There.{node_there}
use Rattle.cw_tree.proofs.Walks.Ancestors.{above_ancestor, ancestor_trans}
use Rattle.cw_tree.proofs.Walks.Strands.{strand_over, strand_of_le}
use Rattle.cw_open.specs.Machine.{OpenMachine, has_finished, finished_dead, is_running, is_dying, is_free}
use Rattle.cw_open.specs.Runs.{IsReachedBy, at_any_time}
use Rattle.cw_open.specs.Refused.{unstopped}
use Rattle.cw_open.specs.Left.{IsHistoryAsMade}
use Rattle.cw_open.proofs.Open.Standing.{runs, stands}
use Rattle.cw_open.proofs.Open.Trees.{stands_well}
use Rattle.cw_open.proofs.Laws.Named.{live_from, none_aborted}
use Rattle.cw_open.proofs.Refused.Victims.{told_states}
use Rattle.cw_open.proofs.Runs.Unstopped.{told_any_time, stops_left_out}
use Rattle.cw_open.proofs.Reordered.Leaving.{histories_left, live_touched}
use Rattle.cw_open.proofs.Reordered.Renamed.{each_number, strand_kept, fork_kept, pending_kept, live_renamed, written_kept}
use Rattle.cw_open.proofs.Reordered.History.{accesses_renamed, histories_in_order}
use Rattle.cw_open.proofs.Reordered.Spending.{spent_in_order}
use Rattle.cw_open.proofs.Reordered.Places.{place_renamed}
use Rattle.cw_tree.specs.Links.{last_child}
use Rattle.cw_record.specs.Coherent.{IsMemory, StrandEnded, IsJoined, HasNoOpenFork, Follows, EndStands, IsCoherent}
use Rattle.cw_record.specs.ClosedRun.{AreStates, EndsSo, IsClosedRun, end_after}
use Rattle.cw_record.proofs.ClosedRun.Strands.{follows, none_pending, live_ended, no_open_fork}
use Rattle.cw_record.proofs.ClosedRun.RenamedStrands.{moved, moved_at, last_renamed, last_is_child, follows_at, ended_at, joined_at}

module _ {A : Type 0} (s : Strands A) (first : List ℤ) (budget : ℕ) (m : OpenMachine) (kept : List (List Entry)) (memory outputs : List ℤ) (w : IsNumbered m.tree) (mem : IsMemory m.tree first memory) where
  abbrev t : List Node
  t = m.tree

  abbrev new : List Node
  new = in_order t

  abbrev f : ℕ → ℕ
  f = renamed t

  abbrev cs : List Conflict
  cs = conflicts_in_order t m.conflicts

  abbrev asked : List Node → List ℕ → Option ℤ → List ℕ
  asked = λ t us w. newest us

  module _ (h : Option Halt) (spent : Bool) (c : IsClosedRun s first budget m kept h spent) where
    any : IsReachedBy (at_any_time asked) first m
    any = told_any_time asked first m c.reached

    made : IsHistoryAsMade t first kept m.conflicts
    made = histories_left first m kept c.reached c.complete c.entries

    history : IsHistory new first kept cs
    history = histories_in_order first m kept c.reached c.complete c.entries w

    writes_moved : (us : List ℕ) → ((u : ℕ) → In u us → u < length t) → map (written new) (map f us) ≡ map (written t) us
    writes_moved [] low = refl
    writes_moved (u ∷ us) low = ap (λ o. o ∷ map (written new) (map f us)) (written_kept t w u (low u (inl refl))) ∙ ap (λ os. written t u ∷ os) (writes_moved us (λ v i. low v (inr i)))

    has_memory : IsMemory new first memory
    has_memory = record {
      len = mem.len;
      each = λ k v e.
          mem.each k v e
          ∙ ap (λ ws. Some (cell_value v ws))
          (sym (ap (map (written new)) (accesses_renamed t w made.sound k) ∙ writes_moved (live_accesses t k) (λ u i. node_there (λ y. touches_kind k y.kind) t u (live_touched t k u i))));
    }

  -- a strand that may go on, in depth-first order
  module _ (x : ℕ) (reach : IsReachedBy (at_any_time asked) first m) (free : is_free (unstopped m) x ≡ true) where
    abbrev k : OpenMachine
    k = unstopped m

    goes : IsReachedBy (at_any_time asked) first k
    goes = stops_left_out asked first m reach

    running : is_running k x ≡ true
    running = (and_parts (is_running k x) (not (is_dying k x)) free).0

    at : IsPlace t (place t x)
    at = let told = told_states (at_any_time asked) first k goes in stands_well k told.state.well x running

    own : strand_of t (place t x) ≡ x
    own = let wl = (told_states (at_any_time asked) first k goes).state.well in (stands k wl.sound.tree wl.nested x running).strand

    low_x : x < length t
    low_x = let le = strand_of_le t w.rooted (place t x) at.there in let there = at.there in omega (arith, own)

    over_place : is_ancestor t x (place t x) ≡ true
    over_place = let P : ℕ → Type 0 = λ y. is_ancestor t y (place t x) ≡ true in subst P own (strand_over t w.rooted (place t x) at.there)

    may_fault : (is_strand new (f x) && is_live new (f x)) ≡ true
    may_fault =
        let wl = (told_states (at_any_time asked) first k goes).state.well in
        let strand = (runs k wl.sound.tree wl.nested x running).strand in
        and_from (is_strand new (f x)) (is_live new (f x)) (strand_kept t w x low_x ∙ strand)
        (live_renamed t w x low_x ∙ live_from t x (λ b over. none_aborted t (place t x) at b (ancestor_trans t w.rooted b x (place t x) at.there (above_ancestor t b x over) over_place)))

    place_at : place new (f x) ≡ f (place t x)
    place_at = place_renamed first k (told_states (at_any_time asked) first k goes) w x running

  -- ## The strands

  -- the last child of a renamed place
  no_fork_there : (p : ℕ) → p < length t → (before after reached : ℕ → A) → HasNoOpenFork s t before after reached p → HasNoOpenFork s new (moved s t w before after reached before) (moved s t w before after reached after) (moved s t w before after reached reached) (f p)
  no_fork_there p low before after reached none g e fork = by (last_child t p) refl (sym (last_renamed s t w before after reached p low) ∙ e) where
    by : (o : Option ℕ) → last_child t p ≡ o → option_map f o ≡ Some g
        → IsJoined s new (moved s t w before after reached before) (moved s t w before after reached after) (moved s t w before after reached reached) g
    by None q e = absurd (cc e)
    by (Some j) q e =
        let same : f j ≡ g = cc e in
        let l = last_is_child s t w before after reached p j q in
        let Q : ℕ → Type 0 = λ n. IsJoined s new (moved s t w before after reached before) (moved s t w before after reached after) (moved s t w before after reached reached) n in
        subst Q same (joined_at s t w before after reached j l (none j q (sym (fork_kept t w j l) ∙ ap (is_fork new) same ∙ fork)))

  module _ (h : Option Halt) (spent : Bool) (c : IsClosedRun s first budget m kept h spent) (before after reached : ℕ → A) (st : AreStates s m before after reached) where
    pub strands_follow : Follows s new (moved s t w before after reached before) (moved s t w before after reached after) (moved s t w before after reached reached)
    strands_follow = follows_at s t w before after reached (follows s asked first m (any h spent c) before after reached st)

    pub strands_stand : EndsSo s m before after reached budget h spent
        → EndStands s new (moved s t w before after reached before) (moved s t w before after reached after) (moved s t w before after reached reached) (end_after (halt_in_order t h) spent memory outputs)
    strands_stand = by h spent (any h spent c) where
      by : (h : Option Halt) (spent : Bool) → IsReachedBy (at_any_time asked) first m → EndsSo s m before after reached budget h spent
          → EndStands s new (moved s t w before after reached before) (moved s t w before after reached after) (moved s t w before after reached reached) (end_after (halt_in_order t h) spent memory outputs)
      by None true reach end = tt
      by None false reach end =
          let y = and_parts (has_finished m 0) (not (finished_dead m 0)) end in
          let lives = not-true (finished_dead m 0) y.1 in (
            each_number t w (λ n. is_pending new n ≡ false) (λ n l. pending_kept t w n l ∙ none_pending s asked first m reach before after reached st y.0 lives n l),
            each_number t w (λ n. (is_strand new n && is_live new n) ≡ true → StrandEnded s new (moved s t w before after reached before) (moved s t w before after reached after) (moved s t w before after reached reached) n)
                (λ n l e.
                let was : (is_strand t n && is_live t n) ≡ true = sym (ap (λ b. b && is_live new (f n)) (strand_kept t w n l) ∙ ap (λ b. is_strand t n && b) (live_renamed t w n l)) ∙ e in
                ended_at s t w before after reached n l (live_ended s asked first m reach before after reached st y.0 lives n l was)),
          )
      by (Some (halt.Fault x kind)) spent reach end =
          let there = at x reach end.0 in
          let place_is = place_at x reach end.0 in
          let P : ℕ → Type 0 = λ p. HasNoOpenFork s new (moved s t w before after reached before) (moved s t w before after reached after) (moved s t w before after reached reached) p in (
            ap (λ p. s.want (moved s t w before after reached reached p)) place_is ∙ ap s.want (moved_at s t w before after reached reached (place t x) there.there) ∙ end.1,
            subst P (sym place_is) (no_fork_there (place t x) there.there before after reached (no_open_fork s asked first m reach before after reached st x end.0)),
          )
      by (Some (halt.Budget x)) spent reach end = tt
      by (Some halt.Memory) spent reach end = absurd end

    pub strands_end : EndsSo s m before after reached budget h spent
        → (b a r : ℕ → A) × Follows s new b a r × EndStands s new b a r (end_after (halt_in_order t h) spent memory outputs)
    strands_end end = (moved s t w before after reached before, moved s t w before after reached after, moved s t w before after reached reached, strands_follow, strands_stand end)

  pub coherent_end : (h : Option Halt) (spent : Bool) → IsClosedRun s first budget m kept h spent → IsCoherent s first budget new kept cs (end_after (halt_in_order t h) spent memory outputs)
  coherent_end None true c =
      let (before, after, reached, st, end) = c.states in
      record { history = history None true c; faulted = tt; spent = tt; memory = tt; strands = strands_end None true c before after reached st end }
  coherent_end None false c =
      let (before, after, reached, st, end) = c.states in
      record { history = history None false c; faulted = tt; spent = tt; memory = has_memory None false c; strands = strands_end None false c before after reached st end }
  coherent_end (Some (halt.Fault x kind)) spent c =
      let (before, after, reached, st, end) = c.states in
      record {
        history = history (Some (halt.Fault x kind)) spent c;
        faulted = may_fault x (any (Some (halt.Fault x kind)) spent c) end.0;
        spent = tt;
        memory = tt;
        strands = strands_end (Some (halt.Fault x kind)) spent c before after reached st end;
      }
  coherent_end (Some (halt.Budget x)) spent c =
      let (before, after, reached, st, end) = c.states in
      record {
        history = history (Some (halt.Budget x)) spent c;
        faulted = tt;
        spent = spent_in_order asked first m (any (Some (halt.Budget x)) spent c) budget x w end;
        memory = tt;
        strands = strands_end (Some (halt.Budget x)) spent c before after reached st end;
      }
  coherent_end (Some halt.Memory) spent c = let (before, after, reached, st, end) = c.states in absurd end
