-- Small programs and what their strands did.
use Rattle.std.proofs.Common.{◌≡◌, ℕ, ◌<◌, List, [], ◌∷◌, refl, ap, sym, ◌∙◌, subst, arith, lit<, pos, Option, Some, None}
use Rattle.cw_code.specs.declared.Back.{Back}
use Rattle.cw_strand.specs.declared.want.Want.{Want}
use Rattle.cw_strand.specs.declared.want.Want.TheVariants.{Store, Out as Shows}
use Rattle.cw_strand.specs.declared.want.Given.TheVariants.{Back as Wrote}
use Rattle.cw_tree.specs.declared.node.Kind.TheVariants.{Out}
use Rattle.cw_tree.specs.declared.node.BlockState.TheVariants.{Committed}
use Rattle.cw_tree.specs.declared.closed.Halt.{Halt}
use Rattle.cw_tree.specs.declared.closed.Halt.TheVariants.{Budget}
use Rattle.cw_tree.specs.Walks.{IsNumbered}
use Rattle.cw_tree.specs.declared.conflict.Conflict.{Conflict}
use Rattle.cw_tree.specs.WorkedRun.{refused_write}
use Rattle.cw_tree.proofs.Worked.KeptRuns.{holds}
use Rattle.cw_tree.proofs.Worked.Checks.{is_numbered}
use Rattle.cw_log.specs.declared.log.Log.{Log}
use Rattle.cw_record.proofs.WorkedEnds.Victim.{at_victim}
use Rattle.cw_record.specs.Scripts as script
use Rattle.cw_record.specs.Scripts.{scripted, wants_of, right_of}
use Rattle.cw_course.specs.Courses.{Goes, Stops, starts, acts, commits, aborts, joins, there, within, apart, nothing, act, block}
use Rattle.cw_course.specs.Closings.{tree_of, HasStates, AreWorked, AreApart}
use Rattle.cw_course.specs.Worked.{Reader, reader, reader_wants, reads, shows, showed, Reads, Forks, Blocks, quitter, quitter_wants, quitter_next, begins, quit, Cancels, Sums, Nests, Mixes, Closes, WorkedCourses, spawns, shown, spawned, shows_in_block, sums, nests, nested, nested_logs, Finishes, mixes, mixed, logs_at, spent, spent_logs}
use Rattle.cw_course.proofs.Closings.States.{has_states}

-- what is shown
abbrev number : Want → ℕ
number (Shows (pos n)) = n
number w = 0

less : (a b : ℕ) → a < b → a ≡ b → ⊥
less a b h e = omega arith

other : (a b : ℕ) → a < b → b ≡ a → ⊥
other a b h e = less a b h (sym e)

-- ## A value that is read

showed_other : (b : Reader) → b ≡ shows (pos 4) → reader_wants b ≡ Shows (pos 5) → ⊥
showed_other b e f = less 4 5 (lit< tt) (ap (λ x. number (reader_wants x)) (sym e) ∙ ap number f)

no_other : Stops reader reads (showed 4) → ⊥
no_other (there (acts {b = b} (acts starts d) e)) = showed_other b d.1 e.0

reads_go : Reads
reads_go = record { goes = acts (acts starts (refl, refl)) (refl, refl); other = no_other }

-- ## Two strands

shown_other : wants_of (right_of spawns) ≡ Shows (pos 1) → ⊥
shown_other e = less 1 2 (lit< tt) (sym (ap number e))

no_side : Stops (scripted spawns) spawns (spawned (shown 1 3)) → ⊥
no_side (there (joins starts e gl lo (acts starts d) ro)) = shown_other d.0
no_side (apart starts e jl (there (acts starts d))) = shown_other d.0

not_behind : (value stamp : ℕ) → Stops (scripted spawns) spawns (act (spawned nothing) (Out (pos value)) stamp) → ⊥
not_behind value stamp (there (acts (joins starts e gl lo starts ro) d)) = cc ro

forks_go : Forks
forks_go = record {
  goes = acts (joins starts refl (acts starts (refl, refl)) refl (acts starts (refl, refl)) refl) (refl, refl);
  sides = no_side;
  stops = apart starts refl (there (acts starts (refl, refl))) (there starts);
  behind = not_behind 3 4;
}

-- ## A block

not_broken : Stops (scripted shows_in_block) shows_in_block (block nothing Committed 1 2 nothing) → ⊥
not_broken (there (commits starts e starts f)) = cc f

blocks_go : Blocks
blocks_go = record {
  goes = commits starts refl (acts starts (refl, refl)) refl;
  pending = within starts refl (there starts);
  again = commits (aborts starts refl (there starts)) refl (acts starts (refl, refl)) refl;
  broken = not_broken;
}

-- ## A block that is given up

-- what is stored
abbrev stored : Want → ℕ
stored (Store c (pos n)) = n
stored w = 0

quit_other : Stops quitter begins (quit 0 4) → ⊥
quit_other (there (commits starts e (acts {b = x} (acts {b = y} (acts starts a) b) d) f)) = less 0 4 (lit< tt) (by_list ∙ at_store ∙ ap stored d.0) where
  back : Back
  back = record { cell = 0; value = pos 0 }

  by_list : 0 ≡ stored (quitter_wants (quitter_next y (Wrote (back ∷ []))))
  by_list = ap (λ z. stored (quitter_wants (quitter_next z (Wrote (back ∷ []))))) (sym a.1)

  at_store : stored (quitter_wants (quitter_next y (Wrote (back ∷ [])))) ≡ stored (quitter_wants x)
  at_store = ap (λ z. stored (quitter_wants z)) (sym b.2)

quit_there : Stops quitter begins (quit 1 0) → ⊥
quit_there (there (commits starts e (acts (acts g b) d) f)) = less 1 1 b.1.0 refl

cancels_go : Cancels
cancels_go = record {
  goes = commits starts refl (acts (acts (acts starts (refl, refl)) (refl, (lit< tt, tt), refl)) (refl, refl)) refl;
  other = quit_other;
  there = quit_there;
}

-- ## One of two sums is lost

sums_go : Sums
sums_go = record {
  goes = commits starts refl
      (joins starts refl (acts (acts starts (refl, refl)) (refl, refl)) refl (acts (acts starts (refl, refl)) (refl, refl)) refl) refl;
  tree = refl;
}

-- ## The outer one of two blocks is a victim

nested_goes : Goes (scripted nests) nests nested script.done
nested_goes =
    joins starts refl (commits starts refl (acts starts (refl, refl)) refl) refl
    (commits (aborts starts refl (there (aborts starts refl (there (acts starts (refl, refl)))))) refl
    (commits starts refl (acts starts (refl, refl)) refl) refl) refl

nests_go : Nests
nests_go = record { goes = nested_goes; tree = refl }

none_is_not_one : (c : Conflict) (cs : List Conflict) → [] ≡ c ∷ cs → ⊥
none_is_not_one c cs e = absurd (cc e)

finishes_all : Finishes
finishes_all = record {
  worked = record { course = nested; written = refl; ends = (script.done, nested_goes, refl) };
  closing = record {
    together = record {
      apart = ((other 0 2 (lit< tt), tt), (tt, tt));
      numbered = is_numbered (tree_of nested_logs) refl refl (lit< tt);
      tree = refl;
      conflicts = refl;
      halt = refl;
    };
    history = holds.history;
    faulted = tt;
    spent = tt;
    finished = λ e. holds.none_pending;
  };
  silent = λ k. none_is_not_one refused_write [] k.together.conflicts;
}

-- ## All of it

mixes_go : Goes (scripted mixes) mixes mixed script.done
mixes_go =
    joins
    (commits (aborts starts refl (apart starts refl (there starts) (there starts))) refl
    (joins starts refl (acts starts (refl, refl)) refl (acts starts (refl, refl)) refl) refl)
    refl (acts starts (refl, refl)) refl (acts starts (refl, refl)) refl

logs_apart : (at : ℕ) → AreApart (logs_at at)
logs_apart at = ((other 0 1 (lit< tt), (other 0 2 (lit< tt), tt)), ((other 1 2 (lit< tt), tt), (tt, tt)))

mixes_stand : HasStates (scripted mixes) mixed (logs_at 5)
mixes_stand = has_states (scripted mixes) mixed (there mixes_go) (logs_apart 5) (is_numbered (tree_of (logs_at 5)) refl refl (lit< tt))

-- the fork of a right strand has none where its log hangs from another
not_hung : AreWorked (scripted mixes) (logs_at 2) None → ⊥
not_hung w =
    let (b, g, o) = w.ends in
    let N : List Log → Type 0 = λ ls. IsNumbered (tree_of ls) in
    let S : List Log → Type 0 = λ ls. HasStates (scripted mixes) w.course ls in
    let states = has_states (scripted mixes) w.course (there g) (subst AreApart w.written (logs_apart 2)) (subst N w.written (is_numbered (tree_of (logs_at 2)) refl refl (lit< tt))) in
    let here = subst S (sym w.written) states in
    (here.follows.fits 5 _ refl).1

mixes_all : Mixes
mixes_all = record {
  goes = mixes_go;
  logs = refl;
  tree = refl;
  states = mixes_stand;
  worked = record { course = mixed; written = refl; ends = (script.done, mixes_go, refl) };
  hung = not_hung;
}

-- ## A board that is closed

abbrev told : Option Halt → ℕ
told (Some (Budget x)) = x
told h = 0

closes_all : Closes
closes_all = record {
  worked = record {
    course = spent;
    written = refl;
    ends = apart starts refl (within starts refl (there (acts starts (refl, refl)))) (within starts refl (apart starts refl (there (acts starts (refl, refl))) (there starts)));
  };
  closing = record {
    together = record {
      apart = ((other 0 1 (lit< tt), (other 0 2 (lit< tt), tt)), ((other 1 2 (lit< tt), tt), (tt, tt)));
      numbered = is_numbered (tree_of spent_logs) refl refl (lit< tt);
      tree = refl;
      conflicts = refl;
      halt = refl;
    };
    history = at_victim.holds.history;
    faulted = tt;
    spent = at_victim.holds.spent;
    finished = λ e. absurd (cc e);
  };
  refused = λ w. less 5 8 (lit< tt) (sym (ap told w.together.halt));
}

pub courses : WorkedCourses
courses = record {
  reads = reads_go;
  forks = forks_go;
  blocks = blocks_go;
  cancels = cancels_go;
  sums = sums_go;
  nests = nests_go;
  finishes = finishes_all;
  mixes = mixes_all;
  closes = closes_all;
}
