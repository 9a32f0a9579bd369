use Rattle.cw_hands.proofs.Laws.Sound.{columns_are_sound, forks_leave_reads, cuts_are_once}
use Rattle.cw_hands.proofs.columns_are_sound.Goals as goal

pub returns : goal.returns
returns c = record { sound = columns_are_sound; reads = forks_leave_reads; once = cuts_are_once }
