-- All rows.
use Rattle.cw_audit.specs.Worked.{SoundSheets, BrokenSheets}
use Rattle.cw_audit.proofs.Worked.Writers as writers
use Rattle.cw_audit.proofs.Worked.Stopped as stopped
use Rattle.cw_audit.proofs.Worked.OneStrand as one
use Rattle.cw_audit.proofs.Worked.Giver as giver
use Rattle.cw_audit.proofs.Worked.Givers as givers
use Rattle.cw_audit.proofs.Worked.Undone as undone
use Rattle.cw_audit.proofs.Worked.Divider as divider
use Rattle.cw_audit.proofs.Worked.Nested as nested
use Rattle.cw_audit.proofs.Worked.Readers as readers
use Rattle.cw_audit.proofs.Worked.Small as small

pub sound_sheets : SoundSheets
sound_sheets = record {
  finished = writers.finished;
  late_fork = writers.late_fork;
  stopped = stopped.stopped;
  counted = one.counted;
  cut_off = one.cut_off;
  given_up = giver.given_up;
  both_given_up = givers.both_given_up;
  rolled_back = undone.rolled_back;
  faulted = divider.faulted;
  own_end = nested.own_end;
  readers_by_commits = readers.by_commits;
  words = small.words;
}

pub broken_sheets : BrokenSheets
broken_sheets = record {
  same_stamp = writers.same_stamp;
  pending_end = writers.pending_end;
  no_cell = writers.no_cell;
  other_read = one.other_read;
  written_back = giver.written_back;
  late_end = writers.late_end;
  readers_by_clock = readers.by_clock;
  lost_by_commits = readers.lost_by_commits;
  lost_by_clock = readers.lost_by_clock;
  no_conflict = writers.no_conflict;
  no_chain = writers.no_chain;
  unspent = stopped.unspent;
  other_strand = stopped.other_strand;
  other_asker = writers.other_asker;
  inner_victim = writers.inner_victim;
  other_attempt = writers.other_attempt;
  word = writers.word;
  no_fuel = writers.no_fuel;
  many_strands = writers.many_strands;
  much_fuel = writers.much_fuel;
  large_size = writers.large_size;
  many_aborts = writers.many_aborts;
  many_moves = writers.many_moves;
  no_strand = stopped.no_strand;
  pending_inside = writers.pending_inside;
  other_write = writers.other_write;
  other_list = giver.other_list;
  undone_write = undone.undone_write;
  other_words = small.other_words;
  other_fault = divider.other_fault;
  undone_fault = divider.undone_fault;
  open_block = small.open_block;
  not_ended = one.not_ended;
  other_memory = writers.other_memory;
  more_memory = writers.more_memory;
  wrong_list = giver.wrong_list;
  more_outputs = writers.more_outputs;
  fewer_outputs = one.fewer_outputs;
}
