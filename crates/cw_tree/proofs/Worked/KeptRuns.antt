-- What is kept of a small run: each part holds of it.
use Rattle.std.proofs.Common.{zero, suc, List, [], ◌∷◌, refl, arith, pos}
use Rattle.std.specs.Prelude.{not}
use Rattle.std.proofs.lemmas.Bool.{not-true}
use Rattle.cw_tree.specs.declared.node.Node.{Node}
use Rattle.cw_tree.specs.Nodes.{is_pending}
use Rattle.cw_tree.specs.Shape.{NonePending}
use Rattle.cw_tree.specs.Accesses.{live_accesses}
use Rattle.cw_tree.specs.Journals.{AllEndedBetween, JournalsEnded}
use Rattle.cw_tree.specs.Worked.{apart}
use Rattle.cw_tree.specs.WorkedRun.{two_blocks, refused_write, entry, two_writes, AllHold, Stops, Breaks}
use Rattle.cw_tree.proofs.Cancels.{no_cancels}
use Rattle.cw_tree.proofs.Worked.Checks.{each_below, is_tree, are_stamps, pending_last, are_refusals, rolls_back}
use Rattle.cw_tree.proofs.Worked.KeptParts.{are_journals, is_entry, ended_between, recorded}

pub ended_one : (t : List Node) → AllEndedBetween t (live_accesses t 0) → JournalsEnded t 1
ended_one t h zero l = h
ended_one t h (suc c) l = absurd (omega arith)

none_pending : NonePending two_blocks
none_pending n h = not-true _ (each_below (λ n. not (is_pending two_blocks n)) 12 refl n h)

pub holds : AllHold
holds = record {
  history = record {
    tree = is_tree two_blocks (omega arith) refl refl refl refl refl;
    stamps = are_stamps two_blocks refl refl refl refl refl refl refl refl refl;
    pending_last = pending_last two_blocks refl refl;
    cells = each_below _ 12 refl;
    journals = are_journals two_blocks (pos 0 ∷ []) (two_writes ∷ []) ((is_entry two_blocks (pos 0) 4 _ refl refl refl refl refl, (is_entry two_blocks (pos 1) 11 _ refl refl refl refl refl, tt)), tt);
    ended = ended_one two_blocks (ended_between two_blocks 4 11 refl, tt);
    cancels = no_cancels two_blocks (pos 0 ∷ []) refl;
    refusals = are_refusals two_blocks (refused_write ∷ []) refl (recorded two_blocks refused_write 4 3 (refl, refl, refl, refl, refl, refl, refl, refl, refl) (refl, refl, refl)) refl refl;
    rolls_back = rolls_back two_blocks (refused_write ∷ []) refl refl;
  };
  none_pending = none_pending;
}

pub stops : Stops
stops = record {
  history = record {
    tree = is_tree apart (omega arith) refl refl refl refl refl;
    stamps = are_stamps apart refl refl refl refl refl refl refl refl refl;
    pending_last = pending_last apart refl refl;
    cells = each_below _ 9 refl;
    journals = are_journals apart (pos 0 ∷ []) ((entry 1 3 (pos 1) (pos 0) ∷ []) ∷ []) ((is_entry apart (pos 0) 4 _ refl refl refl refl refl, tt), tt);
    ended = ended_one apart tt;
    cancels = no_cancels apart (pos 0 ∷ []) refl;
    refusals = are_refusals apart (refused_write ∷ []) refl (recorded apart refused_write 4 3 (refl, refl, refl, refl, refl, refl, refl, refl, refl) (refl, refl, refl)) refl refl;
    rolls_back = rolls_back apart (refused_write ∷ []) refl refl;
  };
  spent = record { strand = refl; told = refl };
}

pub breaks : Breaks
breaks = record {
  shape = λ w. (let z = w.forks 1 (omega arith) refl in absurd (cc z.2));
  stamps = λ w. (let z = (w.beneath 1 2 (omega arith) (omega arith) refl).0 in omega arith);
  read = λ w. (let z = w.0.read (pos 9) refl in cc z);
  value = λ w. (let z = w.1.0.old in cc z);
  lost = λ w. w.1;
  unended = λ w. (let z = (w 3 (omega arith) refl).0 in cc z);
  attempt = λ w. (let z = w.attempt in cc z);
  inner_victim = λ w. (let z = w.victim in cc z);
  own_block = λ w. (let z = w.block.0 in cc z);
  no_conflict = λ w. (let z = w.each in cc z);
  twice = λ w. (let z = w.each in cc z);
  other_strand = λ w. (let told = w.told in cc told);
  other_budget = λ w. (let told = w.told in cc told);
  other_cell = λ w. (let there = w 4 (omega arith) in cc there);
}
