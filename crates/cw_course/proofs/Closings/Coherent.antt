-- Logs that strands wrote, and a board that is closed so with them, give a coherent record.
use Rattle.std.proofs.Common.{◌≡◌, ℕ, ◌+◌, ◌<◌, List, [], ◌∷◌, ◌++◌, map, length, cond, refl, ap, sym, ◌∙◌, subst, true, false, Option, Some, None, nat_eq}
use Rattle.std.specs.Prelude.{◌&&◌, ℤ}
use Rattle.cw_code.specs.declared.FaultKind.{FaultKind}
use Rattle.cw_strand.specs.declared.want.Want.TheVariants as want
use Rattle.cw_strand.specs.Strands.{Strands, is_over}
use Rattle.cw_tree.specs.declared.node.Node.{Node}
use Rattle.cw_tree.specs.declared.closed.Closed.{Closed}
use Rattle.cw_tree.specs.declared.closed.Halt.{Halt}
use Rattle.cw_tree.specs.declared.closed.Halt.TheVariants.{Fault, Budget, Memory}
use Rattle.cw_tree.specs.Nodes.{is_strand}
use Rattle.cw_tree.specs.Accesses.{is_live}
use Rattle.cw_tree.specs.Walks.{IsRooted}
use Rattle.cw_tree.specs.Shape.{PendingLast}
use Rattle.cw_tree.specs.InOrder.{renamed, in_order}
use Rattle.cw_tree.proofs.Walks.There.{strand_there}
use Rattle.cw_open.proofs.Reordered.Renamed.{each_number, strand_kept, live_renamed}
use Rattle.cw_log.specs.declared.log.Log.{Log}
use Rattle.cw_log.specs.declared.token.Stop.{Stop}
use Rattle.cw_record.specs.declared.record_end.RecordEnd.{RecordEnd}
use Rattle.cw_record.specs.declared.record_end.RecordEnd.TheVariants as ends
use Rattle.cw_record.specs.ClosedRun.{end_after}
use Rattle.cw_record.specs.Built.{memory_left, outputs_left, end_left}
use Rattle.cw_record.specs.Coherent.{StrandEnded, HasNoOpenFork, Follows, EndStands, IsCoherent}
use Rattle.cw_record.proofs.ClosedRun.LeftRuns.{followed_coherent}
use Rattle.cw_record.proofs.ClosedRun.RenamedStrands.{moved, moved_at, follows_at, ended_at, shut_renamed}
use Rattle.cw_course.specs.Courses.{Course, Goes, Stops, there, size, logs_of}
use Rattle.cw_course.specs.Closings.{hung, base_of, put_together, tree_of, HasNone, AreApart, bare_log, FaultsIn, Ends, IsClosing, WorkedAreCoherent}
use Rattle.cw_course.proofs.Closings.Following.{B, F, R}
use Rattle.cw_course.proofs.Closings.Trees.{IsTreeOf, all_held, follows, live_ended}
use Rattle.cw_course.proofs.Closings.Faulting.{Faults, at_fault}
use Rattle.cw_course.proofs.Closings.Laying.{laid_tree}
use Rattle.cw_course.proofs.Closings.Together.{tree_is, faults_in_tree}
use Rattle.cw_course.proofs.Closings.Renaming.{chain_low, place_renamed}

-- ## Without conflicts

bare_base : (ls : List Log) (c : ℕ) → base_of (map bare_log ls) c ≡ base_of ls c
bare_base [] c = refl
bare_base (l ∷ ls) c = ap (λ n. cond (nat_eq l.column c) 0 (length l.nodes + n)) (bare_base ls c)

bare_together : (all ls : List Log) (base : ℕ) → put_together (map bare_log all) base (map bare_log ls) ≡ put_together all base ls
bare_together all [] base = refl
bare_together all (l ∷ ls) base =
    ap (λ n. hung base (n + l.fork) l.nodes ++ put_together (map bare_log all) (base + length l.nodes) (map bare_log ls)) (bare_base all l.from)
    ∙ ap (λ xs. hung base (base_of all l.from + l.fork) l.nodes ++ xs) (bare_together all ls (base + length l.nodes))

bare_none : (c : ℕ) (ls : List Log) → HasNone c ls → HasNone c (map bare_log ls)
bare_none c [] w = tt
bare_none c (l ∷ ls) w = (w.0, bare_none c ls w.1)

bare_apart : (ls : List Log) → AreApart ls → AreApart (map bare_log ls)
bare_apart [] w = tt
bare_apart (l ∷ ls) w = (bare_none l.column ls w.0, bare_apart ls w.1)

module _ {A : Type 0} (s : Strands A) (first : List ℤ) (budget : ℕ) (all : List Log) (stop : Option Stop) (c : Closed) (k : IsClosing first budget all stop c) (cs : Course) (written : map bare_log all ≡ logs_of cs 0 0 0) where
  abbrev t : List Node
  t = tree_of all

  abbrev rooted : IsRooted t
  rooted = k.together.numbered.rooted

  abbrev new : List Node
  new = in_order t

  abbrev before : ℕ → A
  before = B s t rooted

  abbrev after : ℕ → A
  after = F s t rooted

  abbrev reached : ℕ → A
  reached = R s t rooted

  -- the states of the nodes in depth-first order
  abbrev in_new : (ℕ → A) → ℕ → A
  in_new = moved s t k.together.numbered before after reached

  apart : AreApart (logs_of cs 0 0 0)
  apart = subst AreApart written (bare_apart all k.together.apart)

  same_tree : t ≡ tree_of (logs_of cs 0 0 0)
  same_tree = sym (bare_together all all 0) ∙ ap tree_of written

  same_base : (column : ℕ) → base_of (logs_of cs 0 0 0) column ≡ base_of all column
  same_base column = ap (λ ls. base_of ls column) (sym written) ∙ bare_base all column

  shown : IsTreeOf t cs
  shown = let P : List Node → Type 0 = λ u. IsTreeOf u cs in subst P (sym (same_tree ∙ tree_is cs apart)) (laid_tree cs)

  abbrev first_left : List ℤ
  first_left = memory_left first c.journals

  abbrev shown_left : List ℤ
  shown_left = outputs_left c.tree c.conflicts budget

  abbrev Stands : RecordEnd → Type 0
  Stands e = EndStands s c.tree (in_new before) (in_new after) (in_new reached) e

  -- ## How it ended

  live_stand : (b : A) → Goes s s.start cs b → is_over (s.want b) ≡ true → (x : ℕ) → x < length new → (is_strand new x && is_live new x) ≡ true → StrandEnded s new (in_new before) (in_new after) (in_new reached) x
  live_stand b g o =
      each_number t k.together.numbered (λ x. (is_strand new x && is_live new x) ≡ true → StrandEnded s new (in_new before) (in_new after) (in_new reached) x)
      (λ x l e.
      let was : (is_strand t x && is_live t x) ≡ true =
      sym (ap (λ b. b && is_live new (renamed t x)) (strand_kept t k.together.numbered x l) ∙ ap (λ b. is_strand t x && b) (live_renamed t k.together.numbered x l)) ∙ e in
      ended_at s t k.together.numbered before after reached x l (live_ended t rooted s cs shown b g o x l was))

  finished_stands : c.halt ≡ None → (b : A) → Goes s s.start cs b → is_over (s.want b) ≡ true → Stands (ends.Finished first_left shown_left)
  finished_stands e b g o =
      let P : List Node → Type 0 = λ u. (x : ℕ) → x < length u → (is_strand u x && is_live u x) ≡ true → StrandEnded s u (in_new before) (in_new after) (in_new reached) x in
      (k.finished e, subst P (sym k.together.tree) (live_stand b g o))

  fault_stands : (kind : FaultKind) (column strand : ℕ) → Stops s s.start cs → FaultsIn kind column strand cs 0 0 1 → Stands (ends.Fault (renamed t (base_of all column + strand)) kind)
  fault_stands kind column strand st i =
      let x = base_of all column + strand in
      let At : ℕ → Type 0 = λ n. Faults kind (n + strand) cs 0 1 (1 + size cs) in
      let d = at_fault s t rooted kind x cs shown st (subst At (same_base column) (faults_in_tree cs apart kind column strand i)) in
      let low = strand_there t x d.stands.strand in
      let inside = chain_low t k.together.numbered x d.place d.way.chain low in
      let pl = let P : List Node → Type 0 = PendingLast in subst P k.together.tree k.history.pending_last in
      let here = place_renamed t k.together.numbered (all_held t rooted cs shown) pl x d.place low d.stands.strand d.way in
      let Q : ℕ → Type 0 = λ p. (s.want (in_new reached p) ≡ want.Fault kind) × HasNoOpenFork s new (in_new before) (in_new after) (in_new reached) p in
      let U : List Node → Type 0 = λ u. EndStands s u (in_new before) (in_new after) (in_new reached) (ends.Fault (renamed t x) kind) in
      subst U (sym k.together.tree)
      (subst Q (sym here)
      (ap s.want (moved_at s t k.together.numbered before after reached reached d.place inside) ∙ d.stands.wants, shut_renamed s t k.together.numbered before after reached d.place inside d.stands.shut))

  -- ## The record

  follows_new : Stops s s.start cs → Follows s c.tree (in_new before) (in_new after) (in_new reached)
  follows_new st =
      let P : List Node → Type 0 = λ u. Follows s u (in_new before) (in_new after) (in_new reached) in
      subst P (sym k.together.tree) (follows_at s t k.together.numbered before after reached (follows t rooted s cs shown st))

  coherent_from : (h : Option Halt) → c.halt ≡ h → Stops s s.start cs → Stands (end_after h false first_left shown_left) → IsCoherent s first budget c.tree c.journals c.conflicts (end_left first budget c false)
  coherent_from h e st stands =
      followed_coherent s first budget false c
      (record {
        history = k.history;
        faulted = k.faulted;
        spends = k.spent;
        strands = (in_new before, in_new after, in_new reached, follows_new st, subst (λ g. Stands (end_after g false first_left shown_left)) (sym e) stands);
      })

coherent_stopped : {A : Type 0} (s : Strands A) (first : List ℤ) (budget : ℕ) (all : List Log) (h : Halt) (column strand : ℕ) (c : Closed) → (k : IsClosing first budget all (Some (record { halt = h; column = column; strand = strand })) c)
    → (cs : Course) (written : map bare_log all ≡ logs_of cs 0 0 0) → Ends s (Some (record { halt = h; column = column; strand = strand })) cs → (c.halt ≡ Some Memory → ⊥)
    → IsCoherent s first budget c.tree c.journals c.conflicts (end_left first budget c false)
coherent_stopped s first budget all (Fault y kind) column strand c k cs written end memory =
    coherent_from s first budget all _ c k cs written _ k.together.halt end.0 (fault_stands s first budget all _ c k cs written kind column strand end.0 end.1)
coherent_stopped s first budget all (Budget y) column strand c k cs written end memory = coherent_from s first budget all _ c k cs written _ k.together.halt end tt
coherent_stopped s first budget all Memory column strand c k cs written end memory = absurd (memory k.together.halt)

coherent_so : {A : Type 0} (s : Strands A) (first : List ℤ) (budget : ℕ) (all : List Log) (stop : Option Stop) (c : Closed) (k : IsClosing first budget all stop c) (cs : Course) (written : map bare_log all ≡ logs_of cs 0 0 0)
    → Ends s stop cs → (c.halt ≡ Some Memory → ⊥) → IsCoherent s first budget c.tree c.journals c.conflicts (end_left first budget c false)
coherent_so s first budget all None c k cs written (b, g, o) memory =
    coherent_from s first budget all None c k cs written None k.together.halt (there g) (finished_stands s first budget all None c k cs written k.together.halt b g o)
coherent_so s first budget all (Some x) c k cs written end memory = coherent_stopped s first budget all x.halt x.column x.strand c k cs written end memory

pub worked_are_coherent : {A : Type 0} → WorkedAreCoherent A
worked_are_coherent s first budget all stop c w k memory = coherent_so s first budget all stop c k w.course w.written w.ends memory
