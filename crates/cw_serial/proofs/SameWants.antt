-- What the strands of a table want is the same in each job.
use Rattle.std.proofs.Common.{◌≡◌, ◌∙◌, ℕ, List, Option, Some, None, true, refl, sym, ap}
use Rattle.std.specs.List.{slice_get}
use Rattle.cw_code.specs.declared.program.Program.{Program}
use Rattle.cw_tree.specs.declared.picks.Name.{Name}
use Rattle.cw_strand.specs.declared.want.Want.TheVariants.{Fork}
use Rattle.cw_job.specs.declared.standing.Standing.{Standing}
use Rattle.cw_serial.specs.declared.table.Row.{Row}
use Rattle.cw_serial.specs.declared.table.Sides.{Sides}
use Rattle.cw_serial.specs.declared.table.Table.{Table}
use Rattle.cw_job.specs.Jobs.{Job, bare_job}
use Rattle.cw_job.specs.Room.Strands.{state_of, strands_of_job}
use Rattle.cw_job.proofs.Room.Wants.{same_want}
use Rattle.cw_serial.specs.TableInMemory.{want_of, want_at, strand_at, over_by, over_at, awaited_at, Rests}

wanted_by : (job other : Job) (o : Option Standing) → want_of (strands_of_job job) state_of o ≡ want_of (strands_of_job other) state_of o
wanted_by job other None = refl
wanted_by job other (Some x) = ap Some (same_want job other (state_of x))

pub same_want_at : (job other : Job) (rows : List (Row Standing)) (i : ℕ) → want_at (strands_of_job job) state_of rows i ≡ want_at (strands_of_job other) state_of rows i
same_want_at job other rows i = wanted_by job other (strand_at rows i)

pub same_over_at : (job other : Job) (rows : List (Row Standing)) (i : ℕ) → over_at (strands_of_job job) state_of rows i ≡ over_at (strands_of_job other) state_of rows i
same_over_at job other rows i = ap over_by (same_want_at job other rows i)

-- a strand at its end rests, unless it can be joined
pub rests_over : (job : Job) (program : Program) (table : Table Standing) (i : ℕ) → over_at (strands_of_job (bare_job program)) state_of table.rows.items i ≡ true
    → ((n : Name) (sides : Sides) → slice_get table.names.items i ≡ Some n → awaited_at table.rows.items n.parent ≡ Some sides
    → over_at (strands_of_job (bare_job program)) state_of table.rows.items sides.left ≡ true → over_at (strands_of_job (bare_job program)) state_of table.rows.items sides.right ≡ true → ⊥)
    → Rests (strands_of_job job) state_of table i
rests_over job program table i over apart = record {
  fork = λ e. (let f : over_by (Some Fork) ≡ true = sym (ap over_by e) ∙ (same_over_at job (bare_job program) table.rows.items i ∙ over) in cc);
  join = λ n sides named awaited o l r. apart n sides named awaited (same_over_at (bare_job program) job table.rows.items sides.left ∙ l) (same_over_at (bare_job program) job table.rows.items sides.right ∙ r);
}
