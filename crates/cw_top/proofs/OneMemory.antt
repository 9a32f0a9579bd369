-- With status 0 what was written is what one memory gives that runs the syntax tree: the picks are those of the order that is kept.
use Rattle.std.proofs.Common.{◌≡◌, ◌++◌, inl, inr, ℕ, ℤ, List, [], Option, Some, None, Ok, IfSome, ap, sym, ◌∙◌, append-nil}
use Rattle.std.specs.Result.{result_ok}
use Rattle.std.proofs.lemmas.Option.{same_Some}
use Rattle.cw_io.specs.Outside.{Appends}
use Rattle.cw_code.specs.declared.Limits.{Limits}
use Rattle.cw_text.specs.Syntax.{Declaration, Source}
use Rattle.cw_text.specs.Text.{program}
use Rattle.cw_strand.specs.Names.{cells_of, first_memory}
use Rattle.cw_strand.specs.Meaning.{strands_of_syntax}
use Rattle.cw_tree.specs.Walks.{IsNumbered}
use Rattle.cw_serial.specs.Machine.{serial_end}
use Rattle.cw_record.specs.declared.record.Record.{Record}
use Rattle.cw_record.specs.declared.record_end.RecordEnd.TheVariants.{Finished}
use Rattle.cw_record.proofs.Replay.OneRun.{replay_ends}
use Rattle.cw_report.specs.Results.{end_text, finished_text}
use Rattle.cw_gen.specs.Load.{load_tree}
use Rattle.cw_words.specs.declared.command.Command.{Command}
use Rattle.cw_words.specs.declared.command.Command.TheVariants.{Run, Sim, Load, Keep, Races, Check}
use Rattle.cw_words.specs.declared.command.ReportVersion.{ReportVersion}
use Rattle.cw_words.specs.Words.{limits_of, words_of}
use Rattle.cw_code.specs.Ranges.{default_limits}
use Rattle.cw_top.specs.declared.outcome.Note.{Note}
use Rattle.cw_top.specs.declared.outcome.Note.TheVariants as note
use Rattle.cw_top.specs.Outcome.{IsStatus, IsStatusOfRun, status_of_end}
use Rattle.cw_top.specs.Audited.{TellsBy}
use Rattle.cw_top.specs.OneMemory.{IsOneMemory, IsResultText, IsTextOfEnd, WritesWhatOneMemoryGives}
use Rattle.cw_top.specs.OverSource.{IsRunOfDeclarations, IsRunOfSource}
use Rattle.cw_top.specs.Runs.{IsRunBy, IsRunOf}
use Rattle.cw_top.specs.Written.{IsTextBy, IsTextIn, IsTextOfCommand, Tells, load_text_of, report_if, sheet_of_run, telling_of}
use Rattle.cw_top.proofs.OverSource.{of_source}
use Rattle.cw_top.proofs.Statuses.{finished_at, written_at}

-- what stands behind a result is the report, if one is asked for
behind : (report : Option ReportVersion) (r : Record) (result text : List ℕ) → text ≡ result ++ report_if report r → IsResultText report result text
behind None r result text is = is ∙ append-nil result
behind (Some version) r result text is = (report_if (Some version) r, is)

-- the text of a run that finished
of_text : (c : Command) (ds : List Declaration) (r : Record) (source : Source) (text : List ℕ) (m o : List ℤ) → r.end ≡ Finished m o → r.program.cells ≡ cells_of ds → source.items ≡ ds → r.words ≡ words_of c → r.limits ≡ limits_of c
    → IsTextIn (telling_of c) source r text → IsTextOfEnd c ds m o text
of_text (Run words limits workers report) ds r source text m o is cells items ws ls told = behind report r (finished_text (cells_of ds) m o) text (told ∙ (λ i. end_text (cells i) r.tree (is i) ++ report_if report r))
of_text (Sim words limits workers schedule report) ds r source text m o is cells items ws ls told = behind report r (finished_text (cells_of ds) m o) text (told ∙ (λ i. end_text (cells i) r.tree (is i) ++ report_if report r))
of_text (Load transfers workers) ds r source text m o is cells items ws ls told = told ∙ ap (load_text_of transfers r.program.cells r.tree) is
of_text (Races words limits) ds r source text m o is cells items ws ls told = tt
of_text Check ds r source text m o is cells items ws ls told = tt
of_text (Keep words limits workers) ds r source text m o is cells items ws ls told = record { sheet = sheet_of_run source r; source = items; words = ws; limits = ls; end = is; is_text = told }

-- a run whose status is 0, of these declarations
of_declarations : (c : Command) (ds : List Declaration) (ws : List ℤ) (ls : Limits) (r : Record) (source : Source) (text : List ℕ) (old new : Option (List ℕ)) → 0 ≡ status_of_end r.end → IsNumbered r.tree → r.words ≡ words_of c → r.limits ≡ limits_of c
    → IsRunOfDeclarations ws ls ds r → source.items ≡ ds → IsTextIn (telling_of c) source r text → Appends old new text → WritesWhatOneMemoryGives c ws ls ds old new
of_declarations c ds ws ls r source text old new is tree words limits run items told written =
    let same = replay_ends (strands_of_syntax ds ws ls) r.tree tree.rooted tree.root (first_memory (cells_of ds)) ls.aborts r.conflicts r.end r.order run.replays in
    let (memory, outputs, finishes, ends) = finished_at r.end r.order (serial_end (strands_of_syntax ds ws ls) (first_memory (cells_of ds)) r.order) is same in
    record {
      named = run.named;
      takes = run.takes;
      memory = memory;
      outputs = outputs;
      finishes = record { picks = r.order; ends = finishes };
      text = text;
      is_text = of_text c ds r source text memory outputs ends run.cells items words limits told;
      written = written;
    }

-- two syntax trees that the same bytes spell
same_items : (l : ℕ) (bytes : List ℕ) (s z : Source) → program l bytes ≡ Ok s → program l bytes ≡ Ok z → s.items ≡ z.items
same_items l bytes s z one two = ap (λ (x : Source). x.items) (same_Some s z (ap result_ok (sym one ∙ two)))

-- the same of a command and its source
of_command : (c : Command) (left old new : Option (List ℕ)) (r : Record) (text : List ℕ) → 0 ≡ status_of_end r.end → IsRunBy c left r → IsRunOfSource (Some c) left r → IsTextBy c left r text → Appends old new text → IsOneMemory (Some c) left old new
of_command (Load transfers workers) left old new r text is by run told written =
    of_declarations (Load transfers workers) (load_tree transfers) [] default_limits r told.source text old new is by.tree by.words by.limits run told.its told.told written
of_command (Run ws ls w p) None old new r text is by run told written = tt
of_command (Run ws ls w p) (Some bytes) old new r text is by (source, spelled, run) told written =
    (source, spelled, of_declarations (Run ws ls w p) source.items ws ls r told.source text old new is by.tree by.words by.limits run (same_items 2 bytes told.source source told.its spelled) told.told written)
of_command (Sim ws ls w s p) None old new r text is by run told written = tt
of_command (Sim ws ls w s p) (Some bytes) old new r text is by (source, spelled, run) told written =
    (source, spelled, of_declarations (Sim ws ls w s p) source.items ws ls r told.source text old new is by.tree by.words by.limits run (same_items 2 bytes told.source source told.its spelled) told.told written)
of_command (Keep ws ls w) None old new r text is by run told written = tt
of_command (Keep ws ls w) (Some bytes) old new r text is by (source, spelled, run) told written =
    (source, spelled, of_declarations (Keep ws ls w) source.items ws ls r told.source text old new is by.tree by.words by.limits run (same_items 2 bytes told.source source told.its spelled) told.told written)
of_command (Races ws ls) None old new r text is by run told written = tt
of_command Check left old new r text is by run told written = tt
of_command (Races ws ls) (Some bytes) old new r text is by (source, spelled, run) told written =
    (source, spelled, of_declarations (Races ws ls) source.items ws ls r told.source text old new is by.tree by.words by.limits run (same_items 2 bytes told.source source told.its spelled) told.told written)

one_memory_run : (command : Option Command) (kept : Option Record) (status : ℕ) (n : Note) (left old new : Option (List ℕ)) (before after : ℕ → Type 0) → IsStatusOfRun kept status n → IfSome kept (IsRunOf command left) → Tells (IsTextOfCommand command left) kept status n old new before after → status ≡ 0 → IsOneMemory command left old new
one_memory_run command None status note.Nothing left old new before after is run told zero = absurd is
one_memory_run None (Some r) status note.Nothing left old new before after is run told zero = absurd run
one_memory_run (Some co) (Some r) status note.Nothing left old new before after (inl (same, is)) run told zero =
    let (is_text, written) = written_at (IsTextOfCommand (Some co) left) r status old new before after told zero in
    of_command co left old new r told.text (sym zero ∙ is) run (of_source (Some co) left (Some r) run same) is_text written
one_memory_run (Some co) (Some r) status note.Nothing left old new before after (inr (other, is)) run told zero = cc
one_memory_run command kept status note.Usage left old new before after (none, is) run told zero = cc
one_memory_run command kept status note.Memory left old new before after (none, is) run told zero = cc
one_memory_run command kept status note.Read left old new before after (none, is) run told zero = cc
one_memory_run command kept status note.Write left old new before after (some, is) run told zero = cc
one_memory_run command kept status (note.Text f) left old new before after (none, is) run told zero = cc
one_memory_run command kept status (note.Name f) left old new before after (none, is) run told zero = cc
one_memory_run command kept status (note.Sheet f) left old new before after is run told zero = absurd is

module _ (kept : Option Record) (status : ℕ) (n : Note) (left old new : Option (List ℕ)) (before after : ℕ → Type 0) where
  pub one_memory : (command : Option Command) → IsStatus command kept status n → IfSome kept (IsRunOf command left) → TellsBy command left kept status n old new before after → status ≡ 0 → IsOneMemory command left old new
  one_memory None is run told zero = one_memory_run None kept status n left old new before after is run told zero
  one_memory (Some (Run ws ls w p)) is run told zero = one_memory_run (Some (Run ws ls w p)) kept status n left old new before after is run told zero
  one_memory (Some (Sim ws ls w s p)) is run told zero = one_memory_run (Some (Sim ws ls w s p)) kept status n left old new before after is run told zero
  one_memory (Some (Load tr w)) is run told zero = one_memory_run (Some (Load tr w)) kept status n left old new before after is run told zero
  one_memory (Some (Keep ws ls w)) is run told zero = one_memory_run (Some (Keep ws ls w)) kept status n left old new before after is run told zero
  one_memory (Some (Races ws ls)) is run told zero = one_memory_run (Some (Races ws ls)) kept status n left old new before after is run told zero
  one_memory (Some Check) is run told zero = tt
