use Rattle.std.proofs.Common.{◌≡◌, ◌+◌, ◌<◌, ◌++◌, ◌∷◌, [], ℕ, List, length, ap, sym, ◌∙◌, arith, subst, refl, length-append}
use Rattle.std.specs.Prelude.{◌==◌, if◌then◌else◌}
use Rattle.std.proofs.lemmas.List.{get_or_read}
use Rattle.std.proofs.lemmas.Bool.{ne_eqb, eq-eqb}
use Rattle.cw_trace.specs.Columns.{used, owner, gap, outer_at, forked}
use Rattle.cw_trace.specs.Tier.{traces_of, AreSound, IsTierInMemory}
use Rattle.cw_trace.proofs.Sound.Fork.{sound_fork}
use Rattle.cw_trace.proofs.Sound.Made.{forked_is}
use Rattle.cw_tree.specs.Walks.{has}
use Rattle.cw_trace.specs.declared.tier.Tier.TheInside.{Inside}
use Rattle.cw_trace.proofs.Touching.{fork_touches, touched_as}
use Rattle.cw_trace.proofs.tier.Tier.fork_columns.Goals as goal
use Rattle.cw_trace.proofs.tier.Tier.fork_columns.Goals.{then-word-eq0, else-word-eq0}

two_longer : {A : Type 0} (xs ys : List A) (x y : A) (n : ℕ) → ys ≡ xs ++ x ∷ y ∷ [] → length xs ≡ n → length ys ≡ n + 2
two_longer xs ys x y n e h = ap length e ∙ length-append xs (x ∷ y ∷ []) ∙ ap (λ k. k + 2) h

-- the tier after the fork
abbrev after : goal.After-list_pair → Inside
after c = record {
  room = c.self.inside.room;
  owners = c.put_pair.new.list;
  gaps = c.put_pair-2.new.list;
  parents = c.put_pair-3.new.list;
  traces = c.put_pair-4.new.list;
  outers = c.put_pair-5.new.list;
  brackets = c.self.inside.brackets;
  touched = c.list_pair.new.self;
}

is_forked : (c : goal.After-list_pair) → (traces_of (after c)).columns ≡ forked c.args.word c.args.parent (traces_of c.self.inside).columns
is_forked c =
    let a = c.self.inside in
    let k = c.self.invariant in
    let p = c.args.parent in
    let v = ap (λ t. t.columns) (sym c.self.view_is) in
    let low : p < length a.owners.items = omega (arith, ap (λ d. used d) v, c.requires) in
    let owner_is : c.index-owner.result.now ≡ owner (traces_of a).columns p = get_or_read a.owners.items p c.index-owner.result.now low c.index-owner.ensures 0 in
    let outer_is = c.outer_at-outer.ensures ∙ ap (λ d. outer_at d p) v in
    let owners = c.put_pair.ensures.items ∙ ap (λ o. a.owners.items ++ o ∷ o ∷ []) owner_is in
    let gap_is : c.if-word-eq0.gap ≡ (if c.args.word == 0 then gap (traces_of a).columns p else used (traces_of a).columns) = elim c.if-word-eq0.branch [
      | then-word-eq0 w ↦ w.gap-is ∙ get_or_read a.gaps.items p w.index.result.now (omega (arith, low, k.gaps)) w.index.ensures 0 ∙ sym (ap (λ b. if b then gap (traces_of a).columns p else used (traces_of a).columns) (eq-eqb c.args.word 0 w.if-word-eq0.true))
      | else-word-eq0 w ↦ w.gap-is ∙ omega (arith, c.len-used.ensures, a.owners.ok.0) ∙ sym (ap (λ b. if b then gap (traces_of a).columns p else used (traces_of a).columns) (ne_eqb c.args.word 0 w.if-word-eq0.false))
    ] in
    forked_is (traces_of a).columns c.args.word p c.if-word-eq0.gap c.outer_at-outer.result c.put_pair.new.list.items c.put_pair-2.new.list.items c.put_pair-3.new.list.items c.put_pair-4.new.list.items c.put_pair-5.new.list.items
    owners c.put_pair-2.ensures.items gap_is c.put_pair-3.ensures.items c.put_pair-4.ensures.items c.put_pair-5.ensures.items outer_is

kept : (c : goal.After-list_pair) → IsTierInMemory (after c)
kept c =
    let a = c.self.inside in
    let k = c.self.invariant in
    let p = c.args.parent in
    let v = ap (λ t. t.columns) (sym c.self.view_is) in
    let low : p < length a.owners.items = omega (arith, ap (λ d. used d) v, c.requires) in
    let owner_is : c.index-owner.result.now ≡ owner (traces_of a).columns p = get_or_read a.owners.items p c.index-owner.result.now low c.index-owner.ensures 0 in
    let owners = c.put_pair.ensures.items ∙ ap (λ o. a.owners.items ++ o ∷ o ∷ []) owner_is in
    let same = is_forked c in
    let sound = sound_fork (traces_of a).columns k.sound (record { parents = k.parents; traces = k.traces; outers = k.outers }) c.args.word p low in
    let size = two_longer a.owners.items c.put_pair.new.list.items _ _ (length a.owners.items) owners refl in
    record {
      few = k.few;
      fits = omega (arith, size, c.if-self-used.false, c.len-used.ensures, a.owners.ok.0);
      gaps = two_longer a.gaps.items c.put_pair-2.new.list.items _ _ (length a.owners.items) c.put_pair-2.ensures.items k.gaps ∙ sym size;
      parents = two_longer a.parents.items c.put_pair-3.new.list.items _ _ (length a.owners.items) c.put_pair-3.ensures.items k.parents ∙ sym size;
      traces = two_longer a.traces.items c.put_pair-4.new.list.items _ _ (length a.owners.items) c.put_pair-4.ensures.items k.traces ∙ sym size;
      outers = two_longer a.outers.items c.put_pair-5.new.list.items _ _ (length a.owners.items) c.put_pair-5.ensures.items k.outers ∙ sym size;
      owners_room = omega (arith, k.owners_room, c.put_pair.ensures.capacity);
      gaps_room = omega (arith, k.gaps_room, c.put_pair-2.ensures.capacity);
      parents_room = omega (arith, k.parents_room, c.put_pair-3.ensures.capacity);
      traces_room = omega (arith, k.traces_room, c.put_pair-4.ensures.capacity);
      outers_room = omega (arith, k.outers_room, c.put_pair-5.ensures.capacity);
      brackets_room = k.brackets_room;
      touched_used = c.list_pair.ensures.used ∙ (ap (λ n. n + 2) k.touched_used ∙ sym size);
      touched_room = c.list_pair.ensures.room ∙ k.touched_room;
      labelled = k.labelled;
      sound = subst AreSound (sym same) sound;
    }

pub invariant_of-self : goal.invariant_of-self
invariant_of-self c = kept c

pub list_pair-requires : goal.list_pair-requires
list_pair-requires c =
    let a = c.self.inside in
    let k = c.self.invariant in
    omega (arith, k.touched_used, k.touched_room, c.if-self-used.false, c.len-used.ensures, a.owners.ok.0)

pub returns-clause-touched : goal.returns-clause-touched
returns-clause-touched c =
    let a = c.self.inside in
    let k = c.self.invariant in
    let now = c.list_pair.new.self.columns in
    let touches = fork_touches (traces_of a).columns c.args.word c.args.parent now a.brackets.labels a.brackets.labels (record { parents = k.parents; traces = k.traces; outers = k.outers }) k.gaps refl (ap (has now) (sym k.touched_used) ∙ c.list_pair.ensures.left) (ap (λ n. has now (n + 1)) (sym k.touched_used) ∙ c.list_pair.ensures.right) in
    touched_as c.args.self.now (traces_of a) (traces_of (after c)) (forked c.args.word c.args.parent (traces_of a).columns) c.self.view_is (is_forked c) touches
