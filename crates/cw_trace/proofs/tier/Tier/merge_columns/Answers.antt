use Rattle.std.proofs.Common.{◌≡◌, ◌+◌, ◌<◌, ℕ, length, map, ap, sym, ◌∙◌, true, arith, subst, Some, None, inl, inr}
use Rattle.std.specs.Prelude.{◌%◌, slice_index, slice_index_or}
use Rattle.std.specs.List.{slice_get}
use Rattle.std.specs.Vec.{vec_len, with_item, with_items}
use Rattle.std.proofs.lemmas.List.{get_or_read, length-map, length-set, with_items_is}
use Rattle.cw_trace.specs.Columns.{used, owner, is_trace, around_fork, back_to, row_in, merged}
use Rattle.cw_trace.specs.Tier.{traces_of, AreSound, IsTierInMemory}
use Rattle.cw_trace.proofs.Sound.Merge.{merge_parent_low, merge_trace_low, merge_left, merge_right, merge_smaller, sound_merge}
use Rattle.cw_trace.proofs.Marks.Counts.{SameLengths}
use Rattle.cw_trace.proofs.Sound.Made.{merged_is}
use Rattle.cw_trace.specs.declared.tier.Tier.TheInside.{Inside}
use Rattle.cw_trace.specs.Traces.{Traces}
use Rattle.cw_tree.specs.Walks.{has}
use Rattle.cw_trace.proofs.Touching.{merge_touches, touched_as}
use Rattle.cw_trace.proofs.tier.Tier.merge_columns.Goals as goal

-- what the fork to be merged is in the parts of the tier
record Given (a : Inside) (f : ℕ) : Type 0 where
  pub low : f < length a.owners.items
  pub split : is_trace (traces_of a).columns f ≡ true

given : (a : Inside) (s : Traces) (f : ℕ) → traces_of a ≡ s → f < used s.columns → is_trace s.columns f ≡ true → Given a f
given a s f v h e = record { low = omega (arith, ap (λ t. used t.columns) v); split = ap (λ t. is_trace t.columns f) v ∙ e }

lengths_of : (a : Inside) → IsTierInMemory a → SameLengths (traces_of a).columns
lengths_of a k = record { parents = k.parents; traces = k.traces; outers = k.outers }

-- the parent's column as it is read, and its trace
parent_is : (a : Inside) → IsTierInMemory a → (f p : ℕ) → Given a f → p ≡ slice_index_or a.parents.items f p → p ≡ slice_index a.parents.items f
parent_is a k f p g e = get_or_read a.parents.items f p (let low = g.low in omega (arith, k.parents)) e 0

parent_low : (a : Inside) → IsTierInMemory a → (f p : ℕ) → f % 2 ≡ 1 → Given a f → p ≡ slice_index_or a.parents.items f p → p < length a.owners.items
parent_low a k f p left g e = let h = merge_parent_low (traces_of a).columns k.sound (lengths_of a k) f g.low left g.split in omega (arith, h, parent_is a k f p g e)

trace_is : (a : Inside) → IsTierInMemory a → (f p t : ℕ) → f % 2 ≡ 1 → Given a f → p ≡ slice_index_or a.parents.items f p → t ≡ slice_index_or a.owners.items p t
    → t ≡ around_fork (traces_of a).columns f
trace_is a k f p t left g e q = get_or_read a.owners.items p t (parent_low a k f p left g e) q 0 ∙ ap (owner (traces_of a).columns) (parent_is a k f p g e)

trace_low : (a : Inside) → IsTierInMemory a → (f p t : ℕ) → f % 2 ≡ 1 → Given a f → p ≡ slice_index_or a.parents.items f p → t ≡ slice_index_or a.owners.items p t
    → t < length a.owners.items
trace_low a k f p t left g e q = let h = merge_trace_low (traces_of a).columns k.sound (lengths_of a k) f g.low left g.split in omega (arith, h, trace_is a k f p t left g e q)

pub index-trace-requires : goal.index-trace-requires
index-trace-requires c =
    let a = c.self.inside in
    let low = parent_low a c.self.invariant c.args.fork c.index.result.now c.requires.left (given a c.args.self.now c.args.fork c.self.view_is c.requires.low c.requires.split) c.index.ensures in
    omega (arith, low, a.owners.ok.0)

pub row_of-row-requires : goal.row_of-row-requires
row_of-row-requires c =
    let a = c.self.inside in
    let low = trace_low a c.self.invariant c.args.fork c.index.result.now c.index-trace.result.now c.requires.left (given a c.args.self.now c.args.fork c.self.view_is c.requires.low c.requires.split) c.index.ensures c.index-trace.ensures in
    omega (arith, low, ap length c.as_slice.ensures.value, c.self.invariant.traces)

pub list_change-requires-clause-trace : goal.list_change-requires-clause-trace
list_change-requires-clause-trace c =
    let a = c.self.inside in
    let low = trace_low a c.self.invariant c.args.fork c.index.result.now c.index-trace.result.now c.requires.left (given a c.args.self.now c.args.fork c.self.view_is c.requires.low c.requires.split) c.index.ensures c.index-trace.ensures in
    omega (arith, low, c.self.invariant.touched_used)

pub put_back-requires-clause-smaller : goal.put_back-requires-clause-smaller
put_back-requires-clause-smaller c = λ i h.
    (let a = c.self.inside in
    let k = c.self.invariant in
    let g = given a c.args.self.now c.args.fork c.self.view_is c.requires.low c.requires.split in
    let small = merge_smaller (traces_of a).columns k.sound (lengths_of a k) c.args.fork g.low c.requires.left g.split i h in
    omega (arith, small, ap (λ xs. slice_index xs i) c.as_mut_slice.ensures.value))

pub index_mut-requires : goal.index_mut-requires
index_mut-requires c =
    let a = c.self.inside in
    let low = trace_low a c.self.invariant c.args.fork c.index.result.now c.index-trace.result.now c.requires.left (given a c.args.self.now c.args.fork c.self.view_is c.requires.low c.requires.split) c.index.ensures c.index-trace.ensures in
    omega (arith, low, a.traces.ok.0, c.self.invariant.traces)

pub close_both-requires-clause-left : goal.close_both-requires-clause-left
close_both-requires-clause-left c =
    let a = c.self.inside in
    let k = c.self.invariant in
    let g = given a c.args.self.now c.args.fork c.self.view_is c.requires.low c.requires.split in
    merge_left (traces_of a).columns k.sound (lengths_of a k) c.args.fork g.low c.requires.left g.split

pub close_both-requires-clause-right : goal.close_both-requires-clause-right
close_both-requires-clause-right c =
    let a = c.self.inside in
    let k = c.self.invariant in
    let g = given a c.args.self.now c.args.fork c.self.view_is c.requires.low c.requires.split in
    merge_right (traces_of a).columns k.sound (lengths_of a k) c.args.fork g.low c.requires.left g.split

-- the tier after the merge
abbrev after : goal.After-close_both → Inside
after c = record {
  room = c.self.inside.room;
  owners = with_items c.self.inside.owners c.put_back.new.owners;
  gaps = c.self.inside.gaps;
  parents = c.self.inside.parents;
  traces =
      with_item
      (with_item (with_item c.self.inside.traces c.index-trace.result.now (Some (record { head = c.row_of-row.result.head; lead = Some c.row_of-row.result.head; up = c.row_of-row.result.up }))) c.args.fork None)
      (c.args.fork + 1)
      None;
  outers = c.self.inside.outers;
  brackets = c.close_both.new.self;
  touched = c.list_change.new.self;
}

is_merged : (c : goal.After-close_both) → (traces_of (after c)).columns ≡ merged c.args.fork (traces_of c.self.inside).columns
is_merged c =
    let a = c.self.inside in
    let k = c.self.invariant in
    let f = c.args.fork in
    let g = given a c.args.self.now f c.self.view_is c.requires.low c.requires.split in
    let is = trace_is a k f c.index.result.now c.index-trace.result.now c.requires.left g c.index.ensures c.index-trace.ensures in
    let moved = c.put_back.ensures ∙ ap (map (back_to c.index-trace.result.now f)) c.as_mut_slice.ensures.value in
    let as_long : length c.put_back.new.owners ≡ vec_len a.owners = ap length moved ∙ length-map a.owners.items (back_to c.index-trace.result.now f) ∙ omega (arith, a.owners.ok.0) in
    let owners = with_items_is a.owners c.put_back.new.owners as_long ∙ moved in
    let row = c.row_of-row.ensures ∙ ap (λ ts. row_in (slice_get ts c.index-trace.result.now)) c.as_slice.ensures.value in
    merged_is (traces_of a).columns f c.index-trace.result.now c.row_of-row.result (with_items a.owners c.put_back.new.owners).items c.close_both.new.self.marks is row owners c.close_both.ensures.marks

kept : (c : goal.After-close_both) → IsTierInMemory (after c)
kept c =
    let a = c.self.inside in
    let k = c.self.invariant in
    let f = c.args.fork in
    let g = given a c.args.self.now f c.self.view_is c.requires.low c.requires.split in
    let is = trace_is a k f c.index.result.now c.index-trace.result.now c.requires.left g c.index.ensures c.index-trace.ensures in
    let moved = c.put_back.ensures ∙ ap (map (back_to c.index-trace.result.now f)) c.as_mut_slice.ensures.value in
    let as_long : length c.put_back.new.owners ≡ vec_len a.owners = ap length moved ∙ length-map a.owners.items (back_to c.index-trace.result.now f) ∙ omega (arith, a.owners.ok.0) in
    let owners = with_items_is a.owners c.put_back.new.owners as_long ∙ moved in
    let row = c.row_of-row.ensures ∙ ap (λ ts. row_in (slice_get ts c.index-trace.result.now)) c.as_slice.ensures.value in
    let same = is_merged c in
    let sound = sound_merge (traces_of a).columns k.sound (lengths_of a k) f g.low c.requires.left g.split in
    let size = ap length owners ∙ length-map a.owners.items (back_to c.index-trace.result.now f) in
    record {
      few = k.few;
      fits = omega (arith, size, k.fits);
      gaps = k.gaps ∙ sym size;
      parents = k.parents ∙ sym size;
      traces = length-set _ (f + 1) _ ∙ length-set _ f _ ∙ length-set a.traces.items c.index-trace.result.now _ ∙ k.traces ∙ sym size;
      outers = k.outers ∙ sym size;
      owners_room = k.owners_room;
      gaps_room = k.gaps_room;
      parents_room = k.parents_room;
      traces_room = k.traces_room;
      outers_room = k.outers_room;
      brackets_room = c.close_both.ensures.room ∙ k.brackets_room;
      touched_used = c.list_change.ensures.used ∙ (k.touched_used ∙ sym size);
      touched_room = c.list_change.ensures.room ∙ k.touched_room;
      labelled = c.close_both.ensures.labels;
      sound = subst AreSound (sym same) sound;
    }

pub invariant_of-self : goal.invariant_of-self
invariant_of-self c = kept c

pub returns-clause-touched : goal.returns-clause-touched
returns-clause-touched c =
    let a = c.self.inside in
    let k = c.self.invariant in
    let f = c.args.fork in
    let g = given a c.args.self.now f c.self.view_is c.requires.low c.requires.split in
    let is = trace_is a k f c.index.result.now c.index-trace.result.now c.requires.left g c.index.ensures c.index-trace.ensures in
    let t = c.list_change.new.self in
    let listed = c.list_change.ensures in
    let owners = c.as_slice-2.ensures.value in
    let touches = merge_touches (traces_of a).columns k.sound (lengths_of a k) f g.low c.requires.left g.split t a.brackets.labels c.close_both.new.self.labels (listed.used ∙ k.touched_used) c.close_both.ensures.same
    (ap (has t.columns) (sym is) ∙ listed.trace) listed.left listed.right
    (λ i h there e. listed.owned i h (omega (arith, there, ap length owners)) (elim e [ inl q ↦ inl (ap (λ xs. slice_index xs i) owners ∙ q) | inr q ↦ inr (ap (λ xs. slice_index xs i) owners ∙ q) ])) in
    touched_as c.args.self.now (traces_of a) (traces_of (after c)) (merged f (traces_of a).columns) c.self.view_is (is_merged c) touches
