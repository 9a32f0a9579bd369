use Rattle.std.proofs.Common.{◌≡◌, ◌+◌, ◌<◌, length, ap, sym, ◌∙◌, false, arith, subst, Some, inl, slice_index}
use Rattle.std.proofs.lemmas.List.{get_or_read, length-set, with_items_is}
use Rattle.std.specs.List.{slice_get}
use Rattle.std.specs.Vec.{vec_len, with_item, with_items}
use Rattle.cw_tree.specs.Walks.{has}
use Rattle.cw_trace.specs.Columns.{used, owner, gap, is_trace, opening_mark, parts, row_in, split_at}
use Rattle.cw_trace.specs.Tier.{traces_of, AreSound, IsTierInMemory}
use Rattle.cw_trace.proofs.Sound.Split.{split_around, split_left, split_right, split_few, sound_split}
use Rattle.cw_trace.proofs.Marks.Counts.{SameLengths}
use Rattle.cw_trace.proofs.Marks.Edits.{length_parts}
use Rattle.cw_trace.proofs.Sound.Made.{split_is}
use Rattle.cw_trace.specs.declared.tier.Tier.TheInside.{Inside}
use Rattle.cw_trace.proofs.Touching.{split_touches, touched_as}
use Rattle.cw_trace.proofs.tier.Tier.split_columns.Goals as goal

pub row_of-row-requires : goal.row_of-row-requires
row_of-row-requires c =
    let a = c.self.inside in
    let k = c.self.invariant in
    let v = ap (λ t. t.columns) (sym c.self.view_is) in
    let low : c.args.fork < length a.owners.items = omega (arith, ap (λ d. used d) v, c.requires.low) in
    let is : c.index-trace.result.now ≡ owner (traces_of a).columns c.args.fork = get_or_read a.owners.items c.args.fork c.index-trace.result.now low c.index-trace.ensures 0 in
    omega (arith, k.sound.owner_low c.args.fork low, is, low, ap length c.as_slice.ensures.value, k.traces)

pub list_change-requires-clause-trace : goal.list_change-requires-clause-trace
list_change-requires-clause-trace c =
    let a = c.self.inside in
    let k = c.self.invariant in
    let v = ap (λ t. t.columns) (sym c.self.view_is) in
    let low : c.args.fork < length a.owners.items = omega (arith, ap (λ d. used d) v, c.requires.low) in
    let is : c.index-trace.result.now ≡ owner (traces_of a).columns c.args.fork = get_or_read a.owners.items c.args.fork c.index-trace.result.now low c.index-trace.ensures 0 in
    omega (arith, k.sound.owner_low c.args.fork low, is, low, k.touched_used)

pub index_mut-requires-2 : goal.index_mut-requires-2
index_mut-requires-2 c =
    let a = c.self.inside in
    let k = c.self.invariant in
    let v = ap (λ t. t.columns) (sym c.self.view_is) in
    let low : c.args.fork < length a.owners.items = omega (arith, ap (λ d. used d) v, c.requires.low) in
    let is : c.index-trace.result.now ≡ owner (traces_of a).columns c.args.fork = get_or_read a.owners.items c.args.fork c.index-trace.result.now low c.index-trace.ensures 0 in
    omega (arith, k.sound.owner_low c.args.fork low, is, low, k.traces, a.traces.ok.0)

lengths_of : (c : goal.After-open_both-arg-2-1) → SameLengths (traces_of c.self.inside).columns
lengths_of c = record { parents = c.self.invariant.parents; traces = c.self.invariant.traces; outers = c.self.invariant.outers }

pub open_both-requires-clause-around : goal.open_both-requires-clause-around
open_both-requires-clause-around c =
    let a = c.self.inside in
    let k = c.self.invariant in
    let v = ap (λ t. t.columns) (sym c.self.view_is) in
    let low : c.args.fork < length a.owners.items = omega (arith, ap (λ d. used d) v, c.requires.low) in
    let whole : is_trace (traces_of a).columns c.args.fork ≡ false = sym (ap (λ d. is_trace d c.args.fork) v) ∙ c.requires.whole in
    let is : c.index-trace.result.now ≡ owner (traces_of a).columns c.args.fork = get_or_read a.owners.items c.args.fork c.index-trace.result.now low c.index-trace.ensures 0 in
    ap (λ t. has a.brackets.marks (opening_mark t)) is ∙ split_around (traces_of a).columns k.sound (lengths_of c) c.args.fork low c.requires.left whole

pub open_both-requires-clause-new_left : goal.open_both-requires-clause-new_left
open_both-requires-clause-new_left c =
    let a = c.self.inside in
    let k = c.self.invariant in
    let v = ap (λ t. t.columns) (sym c.self.view_is) in
    let low : c.args.fork < length a.owners.items = omega (arith, ap (λ d. used d) v, c.requires.low) in
    split_left (traces_of a).columns k.sound (lengths_of c) c.args.fork low c.requires.left (sym (ap (λ d. is_trace d c.args.fork) v) ∙ c.requires.whole)

pub open_both-requires-clause-new_right : goal.open_both-requires-clause-new_right
open_both-requires-clause-new_right c =
    let a = c.self.inside in
    let k = c.self.invariant in
    let v = ap (λ t. t.columns) (sym c.self.view_is) in
    let low : c.args.fork < length a.owners.items = omega (arith, ap (λ d. used d) v, c.requires.low) in
    split_right (traces_of a).columns k.sound (lengths_of c) c.args.fork low c.requires.left (sym (ap (λ d. is_trace d c.args.fork) v) ∙ c.requires.whole)

pub open_both-requires-clause-few : goal.open_both-requires-clause-few
open_both-requires-clause-few c =
    let a = c.self.inside in
    let k = c.self.invariant in
    let v = ap (λ t. t.columns) (sym c.self.view_is) in
    let low : c.args.fork < length a.owners.items = omega (arith, ap (λ d. used d) v, c.requires.low) in
    let few = split_few (traces_of a).columns k.sound (lengths_of c) c.args.fork low c.requires.left (sym (ap (λ d. is_trace d c.args.fork) v) ∙ c.requires.whole) in
    omega (arith, few, k.fits, k.brackets_room)

pub open_both-requires-clause-trace : goal.open_both-requires-clause-trace
open_both-requires-clause-trace c =
    let a = c.self.inside in
    let k = c.self.invariant in
    let v = ap (λ t. t.columns) (sym c.self.view_is) in
    let low : c.args.fork < length a.owners.items = omega (arith, ap (λ d. used d) v, c.requires.low) in
    let is : c.index-trace.result.now ≡ owner (traces_of a).columns c.args.fork = get_or_read a.owners.items c.args.fork c.index-trace.result.now low c.index-trace.ensures 0 in
    omega (arith, k.sound.owner_low c.args.fork low, is, low, k.fits, k.few)

-- the tier after the split
abbrev after : goal.After-open_both → Inside
after c = record {
  room = c.self.inside.room;
  owners = with_items c.self.inside.owners c.part.new.owners;
  gaps = with_item c.self.inside.gaps (c.args.fork + 1) (c.args.fork + 1);
  parents = c.self.inside.parents;
  traces =
      with_item
      (with_item (with_item c.self.inside.traces c.index-trace.result.now (Some (record { head = c.row_of-row.result.head; lead = c.kept_lead-lead.result; up = c.row_of-row.result.up }))) c.args.fork
      (Some (record { head = c.index-gap.result.now; lead = Some c.index-gap.result.now; up = c.around_new-above.result })))
      (c.args.fork + 1)
      (Some (record { head = c.args.fork + 1; lead = Some (c.args.fork + 1); up = c.around_new-above.result }));
  outers = c.self.inside.outers;
  brackets = c.open_both.new.self;
  touched = c.open_both.new.touched;
}

is_split : (c : goal.After-open_both) → (traces_of (after c)).columns ≡ split_at c.args.fork (traces_of c.self.inside).columns
is_split c =
    let a = c.self.inside in
    let k = c.self.invariant in
    let f = c.args.fork in
    let v = ap (λ t. t.columns) (sym c.self.view_is) in
    let low : f < length a.owners.items = omega (arith, ap (λ d. used d) v, c.requires.low) in
    let is : c.index-trace.result.now ≡ owner (traces_of a).columns f = get_or_read a.owners.items f c.index-trace.result.now low c.index-trace.ensures 0 in
    let gap_is : c.index-gap.result.now ≡ gap (traces_of a).columns f = get_or_read a.gaps.items f c.index-gap.result.now (omega (arith, low, k.gaps)) c.index-gap.ensures 0 in
    let parted = c.part.ensures ∙ ap (parts c.index-trace.result.now f 0) c.as_mut_slice.ensures.value in
    let as_long : length c.part.new.owners ≡ vec_len a.owners = ap length parted ∙ length_parts c.index-trace.result.now f 0 a.owners.items ∙ omega (arith, a.owners.ok.0) in
    let owners = with_items_is a.owners c.part.new.owners as_long ∙ parted in
    let row = c.row_of-row.ensures ∙ ap (λ ts. row_in (slice_get ts c.index-trace.result.now)) c.as_slice.ensures.value in
    split_is (traces_of a).columns f c.index-trace.result.now c.index-gap.result.now c.row_of-row.result c.kept_lead-lead.result c.around_new-above.result (with_items a.owners c.part.new.owners).items c.open_both.new.self.marks is gap_is row c.kept_lead-lead.ensures
    c.around_new-above.ensures owners c.open_both.ensures.marks

kept : (c : goal.After-open_both) → IsTierInMemory (after c)
kept c =
    let a = c.self.inside in
    let k = c.self.invariant in
    let f = c.args.fork in
    let v = ap (λ t. t.columns) (sym c.self.view_is) in
    let low : f < length a.owners.items = omega (arith, ap (λ d. used d) v, c.requires.low) in
    let is : c.index-trace.result.now ≡ owner (traces_of a).columns f = get_or_read a.owners.items f c.index-trace.result.now low c.index-trace.ensures 0 in
    let gap_is : c.index-gap.result.now ≡ gap (traces_of a).columns f = get_or_read a.gaps.items f c.index-gap.result.now (omega (arith, low, k.gaps)) c.index-gap.ensures 0 in
    let parted = c.part.ensures ∙ ap (parts c.index-trace.result.now f 0) c.as_mut_slice.ensures.value in
    let as_long : length c.part.new.owners ≡ vec_len a.owners = ap length parted ∙ length_parts c.index-trace.result.now f 0 a.owners.items ∙ omega (arith, a.owners.ok.0) in
    let owners = with_items_is a.owners c.part.new.owners as_long ∙ parted in
    let row = c.row_of-row.ensures ∙ ap (λ ts. row_in (slice_get ts c.index-trace.result.now)) c.as_slice.ensures.value in
    let same = is_split c in
    let whole = sym (ap (λ d. is_trace d f) v) ∙ c.requires.whole in
    let sound = sound_split (traces_of a).columns k.sound (record { parents = k.parents; traces = k.traces; outers = k.outers }) f low c.requires.left whole in
    let size = ap length owners ∙ length_parts c.index-trace.result.now f 0 a.owners.items in
    record {
      few = k.few;
      fits = omega (arith, size, k.fits);
      gaps = length-set a.gaps.items (f + 1) (f + 1) ∙ k.gaps ∙ sym size;
      parents = k.parents ∙ sym size;
      traces = length-set _ (f + 1) _ ∙ length-set _ f _ ∙ length-set a.traces.items c.index-trace.result.now _ ∙ k.traces ∙ sym size;
      outers = k.outers ∙ sym size;
      owners_room = k.owners_room;
      gaps_room = k.gaps_room;
      parents_room = k.parents_room;
      traces_room = k.traces_room;
      outers_room = k.outers_room;
      brackets_room = c.open_both.ensures.room ∙ k.brackets_room;
      touched_used = c.open_both.ensures.grows.used ∙ (c.list_change.ensures.used ∙ (k.touched_used ∙ sym size));
      touched_room = c.open_both.ensures.grows.room ∙ (c.list_change.ensures.room ∙ k.touched_room);
      labelled = c.open_both.ensures.labels;
      sound = subst AreSound (sym same) sound;
    }

pub invariant_of-self : goal.invariant_of-self
invariant_of-self c = kept c

pub returns-clause-touched : goal.returns-clause-touched
returns-clause-touched c =
    let a = c.self.inside in
    let k = c.self.invariant in
    let f = c.args.fork in
    let v = ap (λ t. t.columns) (sym c.self.view_is) in
    let low : f < length a.owners.items = omega (arith, ap (λ d. used d) v, c.requires.low) in
    let is : c.index-trace.result.now ≡ owner (traces_of a).columns f = get_or_read a.owners.items f c.index-trace.result.now low c.index-trace.ensures 0 in
    let t = c.open_both.new.touched in
    let listed = c.list_change.ensures in
    let grows = c.open_both.ensures.grows in
    let owners = c.as_slice-2.ensures.value in
    let touches = split_touches (traces_of a).columns k.sound (record { parents = k.parents; traces = k.traces; outers = k.outers }) f low c.requires.left t a.brackets.labels c.open_both.new.self.labels (grows.used ∙ (listed.used ∙ k.touched_used)) c.open_both.ensures.kept
    (grows.kept _ (ap (has c.list_change.new.self.columns) (sym is) ∙ listed.trace)) (grows.kept f listed.left) (grows.kept (f + 1) listed.right)
    (λ i h there e. grows.kept i (listed.owned i h (omega (arith, there, ap length owners)) (inl (ap (λ xs. slice_index xs i) owners ∙ (e ∙ sym is))))) in
    touched_as c.args.self.now (traces_of a) (traces_of (after c)) (split_at f (traces_of a).columns) c.self.view_is (is_split c) touches
