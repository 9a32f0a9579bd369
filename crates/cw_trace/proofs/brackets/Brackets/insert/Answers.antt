use Rattle.std.proofs.Common.{◌≡◌, ◌<◌, true, length, refl, ap, ◌∙◌, arith, get_or, inl, inr}
use Rattle.std.specs.Vec.{with_item}
use Rattle.std.specs.Option.{ForSome}
use Rattle.cw_trace.specs.Brackets.{marks_of}
use Rattle.cw_tree.specs.Walks.{has}
use Rattle.cw_trace.specs.declared.brackets.Brackets.TheInside.{Inside}
use Rattle.cw_trace.specs.Marks.{with_mark}
use Rattle.cw_trace.proofs.Marks.Bracketing.{mark_low, marked, Place, place_some, place_none, HasInserted, HasReached, inserted, reached, in_order}
use Rattle.cw_trace.proofs.Marks.Numbering.{has_contains}
use Rattle.cw_trace.proofs.brackets.Brackets.insert.Goals as goal
use Rattle.cw_trace.proofs.brackets.Brackets.insert.Goals.{in-Some, in-None}

pub index-requires : goal.index-requires
index-requires c =
    let a = c.self.inside in
    let low : c.in-Some.other < length a.elements.items = mark_low a c.args.self.now c.self.invariant c.self.view_is c.in-Some.other (c.requires.at c.in-Some.other c.in-Some.is) in
    omega (arith, a.elements.ok.0, low)

pub insert_after-requires : goal.insert_after-requires
insert_after-requires c =
    let a = c.self.inside in
    let p : Place a c.args.at c.match-at.place = elim c.match-at.branch [
      | in-Some w ↦ place_some a c.args.at c.match-at.place w.in-Some.other w.index.result.now w.in-Some.is w.place-is (marked a c.args.self.now c.self.invariant c.self.view_is w.in-Some.other w.index.result.now (c.requires.at w.in-Some.other w.in-Some.is) w.index.ensures)
      | in-None w ↦ place_none a c.args.at c.match-at.place w.in-None.is w.place-is
    ] in
    λ x e. has_contains a.order.elements x (p.there x e)

-- the brackets with tables that reach to the new mark and its element
is_reached : (c : goal.After-self-in-Ok-1) → HasReached c.self.inside (record { order = c.self.inside.order; elements = c.reach.new.list; marks = c.reach-in-Ok.new.list })
is_reached c =
    let a = c.self.inside in
    reached a (record { order = a.order; elements = c.reach.new.list; marks = c.reach-in-Ok.new.list }) c.self.invariant refl c.reach.ensures.same c.reach-in-Ok.ensures.same
    (omega (arith, c.reach.ensures.longer, a.elements.ok.0, c.reach.new.list.ok.0)) (omega (arith, c.reach-in-Ok.ensures.longer, a.marks.ok.0, c.reach-in-Ok.new.list.ok.0)) c.reach.ensures.capacity c.reach-in-Ok.ensures.capacity

is_inserted : (c : goal.After-self-in-Ok-1)
    → HasInserted (record { order = c.self.inside.order; elements = c.reach.new.list; marks = c.reach-in-Ok.new.list })
    (record { order = c.insert_after.new.self; elements = with_item c.reach.new.list c.args.mark c.in-Ok.element; marks = with_item c.reach-in-Ok.new.list c.in-Ok.element c.args.mark }) c.args.at c.args.mark
is_inserted c =
    let a = c.self.inside in
    let p : Place a c.args.at c.match-at.place = elim c.match-at.branch [
      | in-Some w ↦ place_some a c.args.at c.match-at.place w.in-Some.other w.index.result.now w.in-Some.is w.place-is (marked a c.args.self.now c.self.invariant c.self.view_is w.in-Some.other w.index.result.now (c.requires.at w.in-Some.other w.in-Some.is) w.index.ensures)
      | in-None w ↦ place_none a c.args.at c.match-at.place w.in-None.is w.place-is
    ] in
    let b : Inside = record { order = a.order; elements = c.reach.new.list; marks = c.reach-in-Ok.new.list } in
    let r = is_reached c in
    let q = r.place c.args.at c.match-at.place p in
    inserted b (record { order = c.insert_after.new.self; elements = with_item b.elements c.args.mark c.in-Ok.element; marks = with_item b.marks c.in-Ok.element c.args.mark }) c.args.at c.match-at.place c.in-Ok.element c.args.mark
    r.kept c.insert_after.ensures.labels q.marks q.there c.in-Ok.ensures.new (omega (arith, c.reach-in-Ok.ensures.there, b.marks.ok.0)) c.in-Ok.ensures.placed c.in-Ok.ensures.distinct c.in-Ok.ensures.room refl refl refl refl
    (omega (arith, c.reach.ensures.there, b.elements.ok.0)) (ap (λ ms. has ms c.args.mark) (r.marks ∙ ap (λ s. s.marks) c.self.view_is) ∙ c.requires.new)

pub invariant_of-self : goal.invariant_of-self
invariant_of-self c = (is_inserted c).kept

pub returns-clause-marks : goal.returns-clause-marks
returns-clause-marks c = (is_inserted c).marks ∙ ap (with_mark c.args.at c.args.mark) ((is_reached c).marks ∙ ap (λ s. s.marks) c.self.view_is)

pub returns-clause-labels : goal.returns-clause-labels
returns-clause-labels c = in_order _ (is_inserted c).kept

pub returns-clause-kept : goal.returns-clause-kept
returns-clause-kept c = λ m h.
    (let r = is_reached c in
    let seen = r.marks ∙ ap (λ s. s.marks) c.self.view_is in
    let some : ForSome c.args.at (λ b. has (marks_of (record { order = c.self.inside.order; elements = c.reach.new.list; marks = c.reach-in-Ok.new.list })).marks b ≡ true) = λ b e. ap (λ ms. has ms b) seen ∙ c.requires.at b e in
    let there = ap (λ ms. has ms m) seen ∙ h in
    let was = r.labels m (ap (λ s. has s.marks m) c.self.view_is ∙ h) ∙ ap (λ s. get_or s.labels m 0) c.self.view_is in
    elim ((is_inserted c).labels some c.in-Ok.ensures.kept m there) [ inl z ↦ inl z | inr z ↦ inr (z ∙ was) ])
