-- The record of what a board gave.
use Rattle.std.proofs.Common.{◌≡◌, ◌≢◌, ◌∙◌, List, Option, Some, None, Result, Ok, Err, IfOk, IsTrue, ℤ, false, ap, sym, subst, length, Bool, ℕ}
use Rattle.cw_base.specs.declared.OutOfMemory.{OutOfMemory}
use Rattle.cw_code.specs.declared.Limits.{Limits}
use Rattle.cw_code.specs.declared.program.Program.{Program}
use Rattle.cw_strand.specs.Names.{first_memory}
use Rattle.cw_job.specs.Jobs.{Job}
use Rattle.cw_job.specs.Room.Strands.{strands_of_job}
use Rattle.cw_tree.specs.declared.access.Entry.{Entry}
use Rattle.cw_tree.specs.declared.closed.Closed.{Closed}
use Rattle.cw_tree.specs.declared.closed.Halt.{Halt}
use Rattle.cw_tree.specs.declared.closed.Halt.TheVariants as stop
use Rattle.cw_tree.specs.declared.conflict.Conflict.{Conflict}
use Rattle.cw_tree.specs.declared.node.Node.{Node}
use Rattle.cw_tree.specs.InOrder.{in_order, halt_in_order}
use Rattle.cw_tree.specs.Walks.{IsNumbered}
use Rattle.cw_log.specs.declared.log.Log.{Log}
use Rattle.cw_log.specs.declared.token.Stop.{Stop}
use Rattle.cw_log.specs.declared.token.Token.{Token}
use Rattle.cw_log.specs.Tokens.{logs}
use Rattle.cw_record.specs.declared.record.Record.{Record}
use Rattle.cw_record.specs.declared.record_end.RecordEnd.{RecordEnd}
use Rattle.cw_record.specs.declared.record_end.RecordEnd.TheVariants.{Moves}
use Rattle.cw_record.specs.Built.{HasRecord, end_left, memory_left, outputs_left}
use Rattle.cw_record.specs.ClosedRun.{end_after}
use Rattle.cw_record.specs.Coherent.{IsCoherent}
use Rattle.cw_record.specs.Order.{order_of}
use Rattle.cw_record.specs.Records.{job_of_record, IsNumberedDepthFirst}
use Rattle.cw_course.specs.Closings.{AreWorked, IsPutTogether, halt_in, tree_of}
use Rattle.cw_course.proofs.Closings.Coherent.{worked_are_coherent}
use Rattle.cw_board.specs.Boards.{AreOfCells}
use Rattle.cw_pool.specs.Ends.{IsWorked}
use Rattle.cw_pool.specs.Recorded.{IsOfBoard}

-- where none of the logs has a halt, the closed board has none
no_halt : (all : List Log) (o : Option Stop) (c : Closed) → IsPutTogether all o c → o ≡ None → c.halt ≡ None
no_halt all o c together none = together.halt ∙ ap (λ (u : Option Stop). halt_in_order (tree_of all) (halt_in all u)) none

all_done : (j : Job) (x : Token) (c : Closed) (is_whole : Bool) → IsWorked j x → (IsTrue is_whole → x.told ≡ false) → (c.halt ≡ None → IsTrue is_whole) → IsPutTogether (logs x) x.stop c
    → AreWorked (strands_of_job j) (logs x) x.stop
all_done j x c is_whole w told whole together = record { course = w.course; written = w.written; ends = w.ends (λ none. told (whole (no_halt (logs x) x.stop c together none))) }

of_board : (r : Record) (c : Closed) → HasRecord c.tree c.halt → r.tree ≡ c.tree → r.journals ≡ c.journals → r.conflicts ≡ c.conflicts → r.order ≡ order_of r.tree r.conflicts r.limits.aborts r.end
    → r.end ≡ end_left (first_memory r.program.cells) r.limits.aborts c false → (all : List Log) (stop : Option Stop) → AreWorked (strands_of_job (job_of_record r)) all stop → IsPutTogether all stop c
    → AreOfCells (length (first_memory r.program.cells)) c.journals → IsOfBoard r
of_board r c has tree journals conflicts order end all stop w together cells =
    let s = strands_of_job (job_of_record r) in
    let f = first_memory r.program.cells in
    let b = r.limits.aborts in
    record {
      logs = all;
      stop = stop;
      closed = c;
      worked = w;
      together = together;
      tree = tree;
      journals = journals;
      cells = subst (AreOfCells (length (first_memory r.program.cells))) (sym journals) cells;
      conflicts = conflicts;
      order = order;
      end = end;
      coherent = λ k.
          subst (λ (t : List Node). IsCoherent s f b t r.journals r.conflicts r.end) (sym tree)
          (subst (λ (js : List (List Entry)). IsCoherent s f b c.tree js r.conflicts r.end) (sym journals)
          (subst (λ (cs : List Conflict). IsCoherent s f b c.tree c.journals cs r.end) (sym conflicts)
          (subst (λ (e : RecordEnd). IsCoherent s f b c.tree c.journals c.conflicts e) (sym end)
          (worked_are_coherent s f b all stop c w k (λ memory. subst (λ (h : Option Halt). HasRecord c.tree h) memory has)))));
    }

-- what is built of it
pub built_is : (p : Program) (ws : List ℤ) (l : Limits) (c : Closed) (is_whole : Bool) (kept : Result Record OutOfMemory) → HasRecord c.tree c.halt → (c.halt ≡ None → IsTrue is_whole)
    → IfOk kept (λ r. r.program ≡ p) → IfOk kept (λ r. r.words ≡ ws) → IfOk kept (λ r. r.limits ≡ l) → IfOk kept (λ r. r.tree ≡ c.tree) → IfOk kept (λ r. r.journals ≡ c.journals) → IfOk kept (λ r. r.conflicts ≡ c.conflicts)
    → IfOk kept (λ r. r.order ≡ order_of r.tree r.conflicts r.limits.aborts r.end) → IfOk kept (λ r. r.end ≡ end_left (first_memory p.cells) l.aborts c false)
    → IfOk kept (λ r. (t : List Node) → IsNumbered t → c.tree ≡ in_order t → IsNumberedDepthFirst r.tree)
    → IfOk kept (λ r. (x : Token) → IsWorked (record { program = p; words = ws; limits = l }) x → (IsTrue is_whole → x.told ≡ false) → IsPutTogether (logs x) x.stop c
    → AreOfCells (length (first_memory p.cells)) c.journals → IsOfBoard r × IsNumberedDepthFirst r.tree)
built_is p ws l c is_whole (Err e) has whole program words limits tree journals conflicts order end numbered = tt
built_is p ws l c is_whole (Ok r) has whole program words limits tree journals conflicts order end numbered = λ x w told together cells.
    let same : record { program = p; words = ws; limits = l } ≡ job_of_record r = ap (λ (q : Program). record { program = q; words = ws; limits = l }) (sym program)
    ∙ ap (λ (v : List ℤ). record { program = r.program; words = v; limits = l }) (sym words)
    ∙ ap (λ (m : Limits). record { program = r.program; words = r.words; limits = m }) (sym limits) in
    let ended : r.end ≡ end_left (first_memory r.program.cells) r.limits.aborts c false = end
    ∙ ap (λ (q : Program). end_left (first_memory q.cells) l.aborts c false) (sym program)
    ∙ ap (λ (m : Limits). end_left (first_memory r.program.cells) m.aborts c false) (sym limits) in
    let done = all_done (job_of_record r) x c is_whole (subst (λ (j : Job). IsWorked j x) same w) told whole together in
    (of_board r c has tree journals conflicts order ended (logs x) x.stop done together (subst (λ (q : Program). AreOfCells (length (first_memory q.cells)) c.journals) (sym program) cells), numbered _ together.numbered together.tree)

-- where memory was not wanting, no moves were spent
end_is : (t : List Node) (h : Option Halt) (memory outputs : List ℤ) → HasRecord t h → end_after h false memory outputs ≢ Moves
end_is t None memory outputs has = λ e. absurd (cc e)
end_is t (Some (stop.Fault x k)) memory outputs has = λ e. absurd (cc e)
end_is t (Some (stop.Budget x)) memory outputs has = λ e. absurd (cc e)
end_is t (Some stop.Memory) memory outputs has = absurd has

pub ends_so : (c : Closed) (first : List ℤ) (budget : ℕ) (kept : Result Record OutOfMemory) → HasRecord c.tree c.halt → IfOk kept (λ r. r.end ≡ end_left first budget c false) → IfOk kept (λ r. r.end ≢ Moves)
ends_so c first budget (Err e) has end = tt
ends_so c first budget (Ok r) has end = subst (λ (x : RecordEnd). x ≢ Moves) (sym end) (end_is c.tree c.halt (memory_left first c.journals) (outputs_left c.tree c.conflicts budget) has)

-- ## Of what the answer of a run is made

-- the same words, as the strands had them and as they were handed in
module _ (p : Program) (ws vs : List ℤ) (l : Limits) (c : Closed) (x : Token) (same : vs ≡ ws) (worked : IsWorked (record { program = p; words = vs; limits = l }) x)
    (is_whole : Bool) (told : IsTrue is_whole → x.told ≡ false) (together : IsPutTogether (logs x) x.stop c) (cells : AreOfCells (length (first_memory p.cells)) c.journals) where
  had : IsWorked (record { program = p; words = ws; limits = l }) x
  had = subst (λ (us : List ℤ). IsWorked (record { program = p; words = us; limits = l }) x) same worked

  abbrev Gives : Record → Type 0
  Gives r = (y : Token) → IsWorked (record { program = p; words = ws; limits = l }) y → (IsTrue is_whole → y.told ≡ false) → IsPutTogether (logs y) y.stop c → AreOfCells (length (first_memory p.cells)) c.journals → IsOfBoard r × IsNumberedDepthFirst r.tree

  pub gives_board : (kept : Result Record OutOfMemory) → IfOk kept Gives → IfOk kept IsOfBoard
  gives_board (Ok r) h = (h x had told together cells).0
  gives_board (Err e) h = tt

  pub gives_numbers : (kept : Result Record OutOfMemory) → IfOk kept Gives → IfOk kept (λ r. IsNumberedDepthFirst r.tree)
  gives_numbers (Ok r) h = (h x had told together cells).1
  gives_numbers (Err e) h = tt
