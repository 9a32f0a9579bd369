-- The columns that the code of a fork, a split and a merge makes, step by step.
use Rattle.std.proofs.Common.{◌≡◌, ℕ, ◌+◌, List, [], ◌∷◌, ◌++◌, Option, Some, None, map, refl}
use Rattle.std.specs.Prelude.{◌==◌, slice_set, if◌then◌else◌}
use Rattle.std.specs.List.{slice_get}
use Rattle.cw_trace.specs.declared.tier.Trace.{Trace}
use Rattle.cw_trace.specs.Columns.{ColumnTable, used, owner, gap, row_in, kept_lead, or_else, parts, place_after, opening_mark, marks, split_at, merged, back_to, around_fork, forked, outer_at}
use Rattle.cw_trace.proofs.Marks.FourMarks.{all_out}

pub split_is : (c : ColumnTable) (f t g : ℕ) (row : Trace) (l above : Option ℕ) (owners brackets : List ℕ) → t ≡ owner c f → g ≡ gap c f → row ≡ row_in (slice_get c.traces t) → l ≡ kept_lead row.lead g → above ≡ or_else l t row.up
    → owners ≡ parts t f 0 c.owners → brackets ≡ place_after (opening_mark t) (marks f) c.brackets
    → (let d : ColumnTable = record c {
      owners = owners;
      gaps = slice_set c.gaps (f + 1) (f + 1);
      traces = slice_set (slice_set (slice_set c.traces t (Some (record { head = row.head; lead = l; up = row.up }))) f (Some (record { head = g; lead = Some g; up = above }))) (f + 1) (Some (record { head = f + 1; lead = Some (f + 1); up = above }));
      brackets = brackets;
    } in d) ≡ split_at f c
split_is c f t g row l above owners brackets et eg er el ea eo eb = rw (eo, eb, ea, el, er, eg, et) refl

pub merged_is : (c : ColumnTable) (f t : ℕ) (row : Trace) (owners brackets : List ℕ) → t ≡ around_fork c f → row ≡ row_in (slice_get c.traces t) → owners ≡ map (back_to t f) c.owners → brackets ≡ all_out f c.brackets
    → (let d : ColumnTable = record c {
      owners = owners;
      traces = slice_set (slice_set (slice_set c.traces t (Some (record { head = row.head; lead = Some row.head; up = row.up }))) f None) (f + 1) None;
      brackets = brackets;
    } in d) ≡ merged f c
merged_is c f t row owners brackets et er eo eb = rw (eo, eb, er, et) refl

pub forked_is : (c : ColumnTable) (word p g : ℕ) (outer : Option ℕ) (owners gaps parents : List ℕ) (traces : List (Option Trace)) (outers : List (Option ℕ)) → owners ≡ c.owners ++ owner c p ∷ owner c p ∷ [] → gaps ≡ c.gaps ++ g ∷ g ∷ [] → g ≡ (if word == 0 then gap c p else used c)
    → parents ≡ c.parents ++ p ∷ p ∷ [] → traces ≡ c.traces ++ None ∷ None ∷ [] → outers ≡ c.outers ++ outer ∷ outer ∷ [] → outer ≡ outer_at c p
    → (let d : ColumnTable = record c { owners = owners; gaps = gaps; parents = parents; traces = traces; outers = outers } in d) ≡ forked word p c
forked_is c word p g outer owners gaps parents traces outers eo eg e ep et eu ez = rw (eo, eg, ep, et, eu, ez, e) refl
