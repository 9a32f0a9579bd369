-- A closed run in which left strands went first is so in depth-first order.
use Rattle.std.proofs.Common.{◌≡◌, ℕ, ℤ, ◌<◌, ◌≤◌, List, [], ◌∷◌, length, map, refl, sym, ◌∙◌, subst, arith, Bool, true, false, Option, Some, None, inl, inr}
use Rattle.std.specs.Prelude.{◌⊎◌, ◌&&◌, ◌==◌}
use Rattle.std.specs.List.{list_any}
use Rattle.std.specs.Option.{option_map_or}
use Rattle.std.proofs.lemmas.Bool.{and_parts, false_from_ne_true}
use Rattle.cw_strand.specs.Strands.{Strands}
use Rattle.cw_tree.specs.declared.node.Node.{Node}
use Rattle.cw_tree.specs.declared.access.Entry.{Entry}
use Rattle.cw_tree.specs.declared.conflict.Conflict.{Conflict}
use Rattle.cw_tree.specs.declared.closed.Halt.{Halt}
use Rattle.cw_tree.specs.declared.closed.Halt.TheVariants as halt
use Rattle.cw_tree.specs.Nodes.{stamp_of, is_strand, is_fork, is_block}
use Rattle.cw_tree.specs.Walks.{IsNumbered, is_ancestor, path}
use Rattle.cw_tree.specs.Series.{children, place, strand_of}
use Rattle.cw_tree.specs.Refusals.{is_victim, victim_of, refused_node}
use Rattle.cw_tree.specs.Newest.{newest}
use Rattle.cw_tree.specs.InOrder.{renamed, in_order, conflicts_in_order, halt_in_order}
use Rattle.cw_tree.proofs.Lists.{In, any_in}
use Rattle.cw_tree.proofs.Walks.There.{fork_there, strand_there}
use Rattle.cw_tree.proofs.Walks.Ancestors.{ancestor_le, ancestor_root}
use Rattle.cw_tree.proofs.Walks.Siblings.{siblings}
use Rattle.cw_tree.proofs.InOrder.DepthFirst.{IsChild, child_is}
use Rattle.cw_tree.proofs.InOrder.Renumbered.{some_node}
use Rattle.cw_tree.proofs.InOrder.Renaming.{root_stays, renamed_apart, ancestor_stays}
use Rattle.cw_open.specs.Machine.{OpenMachine, has_finished, finished_dead, is_running}
use Rattle.cw_open.specs.Runs.{IsReachedBy, at_any_time}
use Rattle.cw_open.specs.Refused.{unstopped}
use Rattle.cw_open.specs.LeftFirst.{IsLeftOf, IsOlder, LeftsAreOlder}
use Rattle.cw_open.proofs.Refused.GoingBack.{dead_back}
use Rattle.cw_open.proofs.Refused.Victims.{told_states}
use Rattle.cw_open.proofs.Runs.Unstopped.{told_any_time, stops_left_out}
use Rattle.cw_open.proofs.Reordered.Renamed.{each_number, each_pair, stamp_kept, end_kept, strand_kept, fork_kept, pending_kept}
use Rattle.cw_open.proofs.Reordered.Places.{place_renamed}
use Rattle.cw_open.proofs.Open.Trees.{stands_well}
use Rattle.cw_open.proofs.LeftFirst.AreOlder.{lefts_ended}
use Rattle.cw_record.specs.Items.{place_of_end}
use Rattle.cw_record.specs.Coherent.{StrandEnded, IsMemory}
use Rattle.cw_record.specs.ClosedRun.{AreStates, EndsSo, IsClosedRun, end_after}
use Rattle.cw_record.proofs.ClosedRun.Strands.{ended}
use Rattle.cw_record.proofs.ClosedRun.RenamedStrands.{moved, ended_at}
use Rattle.cw_record.proofs.ClosedRun.Runs.{coherent_end, strands_follow, strands_stand}
use Rattle.cw_replay.specs.LeftFirst.{LeftsHaveEnded, CameLeftFirst, WentLeftFirst, ClosedWentLeftFirst}

-- two renamed numbers
record Two (f : ℕ → ℕ) (cs : List ℕ) (p q : ℕ) : Type 0 where
  first : ℕ
  second : ℕ
  these : cs ≡ first ∷ second ∷ []
  to_first : f first ≡ p
  to_second : f second ≡ q

two_of : (f : ℕ → ℕ) (cs : List ℕ) (p q : ℕ) → map f cs ≡ p ∷ q ∷ [] → Two f cs p q
two_of f [] p q e = absurd (cc e)
two_of f (a ∷ []) p q e = absurd (cc e)
two_of f (a ∷ b ∷ []) p q e = record { first = a; second = b; these = refl; to_first = cc e; to_second = cc e }
two_of f (a ∷ b ∷ c ∷ cs) p q e = absurd (cc e)

module _ {A : Type 0} (s : Strands A) (first : List ℤ) (budget : ℕ) (m : OpenMachine) (kept : List (List Entry)) (h : Option Halt) (spent : Bool) (memory outputs : List ℤ) (w : IsNumbered m.tree)
    (c : IsClosedRun s first budget m kept h spent) (l : CameLeftFirst m h) where
  abbrev t : List Node
  t = m.tree

  abbrev new : List Node
  new = in_order t

  abbrev f : ℕ → ℕ
  f = renamed t

  abbrev cs : List Conflict
  cs = conflicts_in_order t m.conflicts

  abbrev asked : List Node → List ℕ → Option ℤ → List ℕ
  asked = λ t us w. newest us

  any : IsReachedBy (at_any_time asked) first m
  any = told_any_time asked first m c.reached

  -- ## What stands to the left

  child_at : (g a b : ℕ) → children t g ≡ a ∷ b ∷ [] → IsChild t g a × IsChild t g b
  child_at g a b e =
      let P : List ℕ → Type 0 = λ ns. In a ns in
      let Q : List ℕ → Type 0 = λ ns. In b ns in
      (child_is t g a (subst P (sym e) (inl refl)), child_is t g b (subst Q (sym e) (inr (inl refl))))

  left_back : (x n : ℕ) → x < length t → n < length t → IsLeftOf new (f x) (f n) → IsLeftOf t x n
  left_back x n hx hn z =
      each_number t w (λ g. is_fork new g ≡ true → children new g ≡ z.left ∷ z.right ∷ [] → IsLeftOf t x n)
      (λ g hg fork kids.
      let two = two_of f (children t g) z.left z.right (sym (siblings t w g hg) ∙ kids) in
      let both = child_at g two.first two.second two.these in
      let P : ℕ → Type 0 = λ a. is_ancestor new a (f x) ≡ true in
      let Q : ℕ → Type 0 = λ a. is_ancestor new a (f n) ≡ true in
      record {
        fork = g;
        left = two.first;
        right = two.second;
        forks = sym (fork_kept t w g hg) ∙ fork;
        strands = two.these;
        in_left = sym (ancestor_stays t w two.first x both.0.there hx) ∙ subst P (sym two.to_first) z.in_left;
        in_right = sym (ancestor_stays t w two.second n both.1.there hn) ∙ subst Q (sym two.to_second) z.in_right;
      }) z.fork (fork_there new z.fork z.forks) z.forks z.strands

  older_new : LeftsAreOlder new
  older_new =
      each_pair t w (λ x n. IsLeftOf new x n → 0 < stamp_of new n → IsOlder new x n)
      (λ x n hx hn z pos.
      let o = l.older x n hx hn (left_back x n hx hn z) (omega (arith, pos, stamp_kept t w n hn)) in
      let came = o.came in
      let ended = o.ended in
      record { came = omega (arith, stamp_kept t w x hx, stamp_kept t w n hn); ended = omega (arith, end_kept t w x hx, stamp_kept t w n hn); shut = pending_kept t w x hx ∙ o.shut })

  -- nothing stands to the left of the root
  never_root : (x : ℕ) → IsLeftOf t x 0 → ⊥
  never_root x z =
      let both = child_at z.fork z.left z.right z.strands in
      let some = both.1.some in
      let root : z.right ≡ 0 = ancestor_root t z.right z.in_right in
      omega arith

  -- ## Strands to the left

  none_dead : (x : ℕ) → 0 < x → finished_dead m x ≡ false
  none_dead x some =
      false_from_ne_true (finished_dead m x) (λ e.
      let (v, i, victim) = any_in (is_victim t m.conflicts) (path t _) (dead_back asked first m any x some e).victim in
      let P : List Conflict → Type 0 = λ ds. (is_block t v && list_any (λ c. option_map_or (λ v'. v' == stamp_of t v) (victim_of c) false) ds) ≡ true in
      absurd (let none = (and_parts (is_block t v) false (subst P l.unrefused victim)).1 in cc none))

  -- also to the left of where a strand came to a fault
  at_end : (before after reached : ℕ → A) → (g : Option Halt) (b : Bool) → h ≡ g → EndsSo s m before after reached budget g b → (x n : ℕ) → is_strand t x ≡ true → n < length t → IsLeftOf t x n
      → f n ≡ place_of_end new cs budget (end_after (halt_in_order t g) b memory outputs) → has_finished m x ≡ true
  at_end before after reached None true q end x n is hn z e = absurd (never_root x (let P : ℕ → Type 0 = λ k. IsLeftOf t x k in subst P (renamed_apart t w n 0 hn (some_node t w) (e ∙ sym (root_stays t w))) z))
  at_end before after reached None false q end x n is hn z e = absurd (never_root x (let P : ℕ → Type 0 = λ k. IsLeftOf t x k in subst P (renamed_apart t w n 0 hn (some_node t w) (e ∙ sym (root_stays t w))) z))
  at_end before after reached (Some (halt.Fault y kind)) b q end x n is hn z e =
      let k = unstopped m in
      let told = told_states (at_any_time asked) first k (stops_left_out asked first m any) in
      let running : is_running k y ≡ true = (and_parts (is_running k y) _ end.0).0 in
      let place_is : place new (f y) ≡ f (place t y) = place_renamed first k told w y running in
      let there : place t y < length t = (stands_well k told.state.well y running).there in
      let P : ℕ → Type 0 = λ k. IsLeftOf t x k in
      lefts_ended k told.state.well y running (l.faulted y kind q) x is (subst P (renamed_apart t w n (place t y) hn there (e ∙ place_is)) z)
  at_end before after reached (Some (halt.Budget y)) b q end x n is hn z e =
      let P : List Conflict → Type 0 = λ ds. list_any (λ d. (d.attempt == budget) && (strand_of t (refused_node t d) == y)) ds ≡ true in
      absurd (let told = subst P l.unrefused end.told in cc told)
  at_end before after reached (Some halt.Memory) b q end x n is hn z e = absurd end

  module _ (before after reached : ℕ → A) (st : AreStates s m before after reached) (end : EndsSo s m before after reached budget h spent) where
    abbrev at_new : (ℕ → A) → ℕ → A
    at_new = moved s t w before after reached

    has_ended : (x n : ℕ) → is_strand t x ≡ true → n < length t → IsLeftOf t x n → has_finished m x ≡ true → StrandEnded s t before after reached x
    has_ended x n is hn z done =
        let both = child_at z.fork z.left z.right z.strands in
        let some = both.0.some in
        let le : z.left ≤ x = ancestor_le t w.rooted z.left x (strand_there t x is) z.in_left in
        ended s asked first m any before after reached st x is done (none_dead x (omega arith))

    lefts_new : LeftsHaveEnded s new (at_new before) (at_new after) (at_new reached) (place_of_end new cs budget (end_after (halt_in_order t h) spent memory outputs))
    lefts_new x n is hn z k =
        each_pair t w
        (λ x n. is_strand new x ≡ true → IsLeftOf new x n → (0 < stamp_of new n) ⊎ (n ≡ place_of_end new cs budget (end_after (halt_in_order t h) spent memory outputs)) → StrandEnded s new (at_new before) (at_new after) (at_new reached) x)
        (λ x n hx hn is z k.
        let was : is_strand t x ≡ true = sym (strand_kept t w x hx) ∙ is in
        let left = left_back x n hx hn z in
        ended_at s t w before after reached x hx
        (has_ended x n was hn left (elim k [ inl pos ↦ l.finished x n was hn left (omega (arith, pos, stamp_kept t w n hn)) | inr e ↦ at_end before after reached h spent refl end x n was hn left e ]))) x n (strand_there new x is) hn is z k

  pub went_left : IsMemory m.tree first memory → WentLeftFirst s first budget new kept cs (end_after (halt_in_order t h) spent memory outputs)
  went_left mem =
      let co = coherent_end s first budget m kept memory outputs w mem h spent c in
      let (before, after, reached, st, end) = c.states in
      record {
        history = co.history;
        faulted = co.faulted;
        memory = co.memory;
        older = older_new;
        strands = (
          moved s t w before after reached before,
          moved s t w before after reached after,
          moved s t w before after reached reached,
          strands_follow s first budget m kept memory outputs w mem h spent c before after reached st,
          strands_stand s first budget m kept memory outputs w mem h spent c before after reached st end,
          lefts_new before after reached st end,
        );
      }

pub closed_went_left : (A : Type 0) → ClosedWentLeftFirst A
closed_went_left A s first budget m kept h spent memory outputs w c l mem = went_left s first budget m kept h spent memory outputs w c l mem
