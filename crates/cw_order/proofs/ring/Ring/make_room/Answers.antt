use Rattle.std.proofs.Common.{◌≡◌, ◌+◌, ◌-◌, ◌*◌, ◌/◌, ◌<◌, ◌≤◌, ◌^◌, ◌++◌, [], ℕ, length, get_or, sym, ap, ◌∙◌, subst, arith, inl, inr}
use Rattle.std.specs.Prelude.{◌⊎◌}
use Rattle.std.specs.List.{Contains}
use Rattle.cw_order.specs.declared.ring.Ring.{Ring}
use Rattle.cw_order.proofs.Spreading.{spread_keeps}
use Rattle.std.specs.Vec.{vec_len}
use Rattle.cw_order.specs.declared.ring.TheConstants.{END}
use Rattle.cw_order.specs.Links.{walk, spread_over}
use Rattle.cw_order.specs.Ring.{IsRing, label_of, elements_of}
use Rattle.cw_order.proofs.Linking.{length-walk}
use Rattle.cw_order.proofs.Ranges.{range_fits}
use Rattle.cw_order.proofs.Rooms.{HasRoom, room_in_range, room_in_all}
use Rattle.cw_order.proofs.ring.Ring.make_room.Goals as goal

pub spread-requires-clause-fits : goal.spread-requires-clause-fits
spread-requires-clause-fits c =
    let fits = range_fits c.loop-level.level c.label.result c.in-Some.run'.count c.from.result c.from-in-loop-level.result c.loop-level-test.true (omega arith) c.label.type_inv c.from.ensures c.from-in-loop-level.ensures c.in-Some.ensures.few.0 (omega (arith, c.in-Some.ensures.few.1, c.from.ensures)) in
    let base = c.label.result / (c.from.result * c.from-in-loop-level.result) * (c.from.result * c.from-in-loop-level.result) in
    subst (λ n. base + c.in-Some.run'.count * ((c.from.result * c.from-in-loop-level.result - 1) / n) < 2 ^ 64) (sym c.from-in-Some.ensures) fits.end

-- the places of the run are listed, and the others keep their labels
kept_by : (r r2 : Ring) (first count base gap : ℕ) → r.renumbered.items ≡ []
    → r2.labels.items ≡ spread_over (walk r.next.items first count) base gap r.labels.items
    → r2.renumbered.items ≡ r.renumbered.items ++ walk r.next.items first count
    → (x : ℕ) → Contains r2.renumbered.items x ⊎ (label_of r2 x ≡ label_of r x)
kept_by r r2 first count base gap none labels listed x =
    let run = walk r.next.items first count in
    let are : r2.renumbered.items ≡ run = listed ∙ ap (λ xs. xs ++ run) none in
    elim (spread_keeps run base gap r.labels.items x) [
      | inl h ↦ inl (subst (λ xs. Contains xs x) (sym are) h)
      | inr e ↦ inr (ap (λ ls. get_or ls x 0) labels ∙ e)
    ]

pub spread-requires-clause-listed : goal.spread-requires-clause-listed
spread-requires-clause-listed c =
    let r = c.loop-level.self in
    let xs = elements_of c.args.self.now c.args.count in
    let ring : IsRing r xs = subst (λ q. IsRing q xs) (sym c.loop-level.invariant) c.requires.ring in
    let none : r.renumbered.items ≡ [] = ap (λ q. q.renumbered.items) c.loop-level.invariant ∙ c.requires.none in
    let fits : c.args.count ≤ r.room = subst (λ q. c.args.count ≤ q.room) (sym c.loop-level.invariant) c.requires.fits in
    let many = length-walk c.args.self.now.next.items (get_or c.args.self.now.next.items 0 0) c.args.count in
    omega (arith, r.renumbered.ok.0, ap length none, (c.in-Some.ensures.run xs ring c.requires.there).fits, many, fits)

pub spread-requires-2-clause-listed : goal.spread-requires-2-clause-listed
spread-requires-2-clause-listed c =
    let r = c.loop-level.self in
    let none : r.renumbered.items ≡ [] = ap (λ q. q.renumbered.items) c.loop-level.invariant ∙ c.requires.none in
    let fits : c.args.count ≤ r.room = subst (λ q. c.args.count ≤ q.room) (sym c.loop-level.invariant) c.requires.fits in
    omega (arith, r.renumbered.ok.0, ap length none, fits)

in_range : (c : goal.After-spread) → HasRoom c.spread.new.self (elements_of c.args.self.now c.args.count) c.args.at
in_range c =
    let r = c.loop-level.self in
    let xs = elements_of c.args.self.now c.args.count in
    let ring : IsRing r xs = subst (λ q. IsRing q xs) (sym c.loop-level.invariant) c.requires.ring in
    let place : c.args.at < vec_len r.next = subst (λ q. c.args.at < vec_len q.next) (sym c.loop-level.invariant) c.requires.place in
    let fits = range_fits c.loop-level.level c.label.result c.in-Some.run'.count c.from.result c.from-in-loop-level.result c.loop-level-test.true (omega arith) c.label.type_inv c.from.ensures c.from-in-loop-level.ensures c.in-Some.ensures.few.0 (omega (arith, c.in-Some.ensures.few.1, c.from.ensures)) in
    room_in_range r c.spread.new.self xs c.args.at c.label.result (c.from.result * c.from-in-loop-level.result) c.from-in-Some.result c.in-Some.run' ring (c.in-Some.ensures.run xs ring c.requires.there) c.in-Some.ensures.few.0 (omega (arith, place)) c.label.ensures fits c.from-in-Some.ensures c.spread.ensures.next c.spread.ensures.previous c.spread.ensures.labels

in_all : (c : goal.After-spread-2) → HasRoom c.spread-2.new.self (elements_of c.args.self.now c.args.count) c.args.at
in_all c =
    let r = c.loop-level.self in
    let xs = elements_of c.args.self.now c.args.count in
    let ring : IsRing r xs = subst (λ q. IsRing q xs) (sym c.loop-level.invariant) c.requires.ring in
    let place : c.args.at < vec_len r.next = subst (λ q. c.args.at < vec_len q.next) (sym c.loop-level.invariant) c.requires.place in
    let labels = subst (λ n. c.spread-2.new.self.labels.items ≡ spread_over (walk r.next.items 0 (c.args.count + 1)) 0 (END / n) r.labels.items) c.from-2.ensures c.spread-2.ensures.labels in
    room_in_all r c.spread-2.new.self xs c.args.at c.args.count ring c.requires.there (sym (length-walk _ _ c.args.count)) c.requires.few (omega (arith, place)) c.spread-2.ensures.next c.spread-2.ensures.previous labels

pub returns-in-Some-clause-ring : goal.returns-in-Some-clause-ring
returns-in-Some-clause-ring c = (in_range c).ring

pub returns-in-Some-clause-room : goal.returns-in-Some-clause-room
returns-in-Some-clause-room c = (in_range c).room

pub returns-clause-ring : goal.returns-clause-ring
returns-clause-ring c = (in_all c).ring

pub returns-clause-room : goal.returns-clause-room
returns-clause-room c = (in_all c).room

pub returns-in-Some-clause-kept : goal.returns-in-Some-clause-kept
returns-in-Some-clause-kept c = λ x.
    (let none = ap (λ q. q.renumbered.items) c.loop-level.invariant ∙ c.requires.none in
    let kept = kept_by c.loop-level.self c.spread.new.self _ _ _ _ none c.spread.ensures.labels c.spread.ensures.renumbered x in
    subst (λ q. Contains c.spread.new.self.renumbered.items x ⊎ (label_of c.spread.new.self x ≡ label_of q x)) c.loop-level.invariant kept)

pub returns-clause-kept : goal.returns-clause-kept
returns-clause-kept c = λ x.
    (let none = ap (λ q. q.renumbered.items) c.loop-level.invariant ∙ c.requires.none in
    let kept = kept_by c.loop-level.self c.spread-2.new.self _ _ _ _ none c.spread-2.ensures.labels c.spread-2.ensures.renumbered x in
    subst (λ q. Contains c.spread-2.new.self.renumbered.items x ⊎ (label_of c.spread-2.new.self x ≡ label_of q x)) c.loop-level.invariant kept)
