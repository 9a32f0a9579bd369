use Rattle.std.proofs.Common.{◌≡◌, ◌∙◌, Some, None, ap, subst, refl, sym, arith, rules, length, vec_len, true, false}
use Rattle.std.specs.List.{slice_get}
use Rattle.std.proofs.lemmas.Option.{slice_get_within}
use Rattle.cw_job.specs.Jobs.{bare_job}
use Rattle.cw_job.specs.Room.Strands.{state_of, strands_of_job}
use Rattle.cw_serial.specs.declared.table.Sides.{Sides}
use Rattle.cw_serial.specs.declared.table.Place.TheVariants.{Stands, Gone}
use Rattle.cw_serial.specs.TableInMemory.{joins, rests, awaited_at, over_at}
use Rattle.std.proofs.lemmas.Option.{same_Some}
use Rattle.cw_tree.specs.declared.picks.Name.{Name}
use Rattle.cw_serial.proofs.SameWants.{same_over_at, rests_over}
use Rattle.cw_serial.proofs.AreOf.{stood_is_of, put_are_of, nobody_is_of, stands_is_of}
use Rattle.cw_serial.proofs.Waiting.{awaited_there, over_within, over_stood, over_still, waits_still, join_made}
use Rattle.cw_serial.proofs.table.Table+Standing.join.Goals.{then-not-is_over-via-then-not-is_over, then-not-is_over-via-else-not-is_over+then-not-is_over-2}
use Rattle.cw_serial.proofs.table.Table+Standing.join.Goals as goal

pub put-requires : goal.put-requires
put-requires c =
    let job = bare_job c.args.program.now in
    let within = over_within (strands_of_job job) state_of c.args.self.now.rows.items c.in-Some-awaited.sides.left (sym (c.is_over.ensures job) ∙ c.if-not-is_over.false) in
    let len : vec_len c.args.self.now.rows ≡ length c.args.self.now.rows.items = search rules in
    omega arith

pub unreachable-requires : goal.unreachable-requires
unreachable-requires c =
    let job = bare_job c.args.program.now in
    let (st, stood) = over_stood (strands_of_job job) state_of c.args.self.now c.put.new.self c.in-Some-awaited.sides.left Gone c.put.result (sym (c.is_over.ensures job) ∙ c.if-not-is_over.false) c.put.ensures in
    c.in_default-put.not-Stands st stood

pub put-requires-2 : goal.put-requires-2
put-requires-2 c =
    let job = bare_job c.args.program.now in
    let sides = c.in-Some-awaited.sides in
    let right_over : over_at (strands_of_job job) state_of c.args.self.now.rows.items sides.right ≡ true = sym (c.is_over-else-not-is_over.ensures job) ∙ c.if-not-is_over-2.false in
    let within = over_within (strands_of_job job) state_of c.put.new.self.rows.items sides.right (over_still (strands_of_job job) state_of c.args.self.now c.put.new.self sides c.put.result right_over c.put.ensures) in
    let len : vec_len c.put.new.self.rows ≡ length c.put.new.self.rows.items = search rules in
    omega arith

pub unreachable-requires-in_default-put-2 : goal.unreachable-requires-in_default-put-2
unreachable-requires-in_default-put-2 c =
    let job = bare_job c.args.program.now in
    let sides = c.in-Some-awaited.sides in
    let right_over : over_at (strands_of_job job) state_of c.args.self.now.rows.items sides.right ≡ true = sym (c.is_over-else-not-is_over.ensures job) ∙ c.if-not-is_over-2.false in
    let (st, stood) = over_stood (strands_of_job job) state_of c.put.new.self c.put-2.new.self sides.right Gone c.put-2.result (over_still (strands_of_job job) state_of c.args.self.now c.put.new.self sides c.put.result right_over c.put.ensures) c.put-2.ensures in
    c.in_default-put-2.not-Stands st stood

pub join-requires : goal.join-requires
join-requires c =
    let sides = c.in-Some-awaited.sides in
    let p = c.args.program.now in
    let gone = put_are_of p c.args.self.now c.put.new.self sides.left Gone _ c.requires.stands c.put.ensures (nobody_is_of p Gone refl) in
    stood_is_of p c.put.new.self c.put-2.new.self sides.right Gone c.in-Stands-put.right gone (rw c.in-Stands-put.is at c.put-2.ensures)

pub put-requires-3 : goal.put-requires-3
put-requires-3 c =
    let sides = c.in-Some-awaited.sides in
    let awaited : awaited_at c.args.self.now.rows.items c.in-Some.name.parent ≡ Some sides = sym c.awaited.ensures ∙ c.in-Some-awaited.is in
    let left_gone = rw c.in-Stands.is at c.put.ensures in
    let right_gone = rw c.in-Stands-put.is at c.put-2.ensures in
    let w = awaited_there c.args.self.now.rows.items c.in-Some.name.parent sides awaited in
    let within = slice_get_within c.put-2.new.self.rows.items c.in-Some.name.parent w.row (waits_still c.args.self.now c.put.new.self c.put-2.new.self c.in-Some.name.parent sides c.in-Stands.left c.in-Stands-put.right awaited left_gone right_gone ∙ w.here) in
    let len : vec_len c.put-2.new.self.rows ≡ length c.put-2.new.self.rows.items = search rules in
    omega arith

pub returns-clause-moves : goal.returns-clause-moves
returns-clause-moves c = λ job same.
    let sides = c.in-Some-awaited.sides in
    let awaited : awaited_at c.args.self.now.rows.items c.in-Some.name.parent ≡ Some sides = sym c.awaited.ensures ∙ c.in-Some-awaited.is in
    let left_over : over_at (strands_of_job job) state_of c.args.self.now.rows.items sides.left ≡ true = sym (c.is_over.ensures job) ∙ c.if-not-is_over.false in
    let right_over : over_at (strands_of_job job) state_of c.args.self.now.rows.items sides.right ≡ true = sym (c.is_over-else-not-is_over.ensures job) ∙ c.if-not-is_over-2.false in
    let left_gone = rw c.in-Stands.is at c.put.ensures in
    let right_gone = rw c.in-Stands-put.is at c.put-2.ensures in
    let named : slice_get c.args.self.now.names.items c.args.number ≡ Some c.in-Some.name = sym c.name.ensures ∙ c.in-Some.is in
    joins c.in-Some.name named (same_over_at job (bare_job c.args.program.now) c.args.self.now.rows.items c.args.number ∙ c.requires.over)
    (join_made (strands_of_job job) state_of c.args.self.now c.put.new.self c.put-2.new.self c.put-3.new.self c.in-Some.name.parent sides c.in-Stands.left c.in-Stands-put.right c.join.new.self c.put-3.result awaited left_over right_over left_gone right_gone c.put-3.ensures (c.in_ok-join.ensures.joined job same))
    c.in_ok-push.ensures.items

pub returns-clause-stands : goal.returns-clause-stands
returns-clause-stands c =
    let p = c.args.program.now in
    let sides = c.in-Some-awaited.sides in
    let left_gone = put_are_of p c.args.self.now c.put.new.self sides.left Gone _ c.requires.stands c.put.ensures (nobody_is_of p Gone refl) in
    let right_gone = put_are_of p c.put.new.self c.put-2.new.self sides.right Gone _ left_gone c.put-2.ensures (nobody_is_of p Gone refl) in
    put_are_of p c.put-2.new.self c.put-3.new.self c.in-Some.name.parent (Stands c.join.new.self) _ right_gone c.put-3.ensures (stands_is_of p c.join.new.self c.in_ok-join.ensures.stands)

pub returns-in_default-clause-moves : goal.returns-in_default-clause-moves
returns-in_default-clause-moves c = λ job same.
    let named : slice_get c.args.self.now.names.items c.args.number ≡ None = sym c.name.ensures ∙ c.in_default.is in
    rests (rests_over job c.args.program.now c.args.self.now c.args.number c.requires.over (λ n sides here awaited l r. let e : Some n ≡ None = sym here ∙ named in cc)) refl refl

pub returns-in_default-awaited-clause-moves : goal.returns-in_default-awaited-clause-moves
returns-in_default-awaited-clause-moves c = λ job same.
    let named : slice_get c.args.self.now.names.items c.args.number ≡ Some c.in-Some.name = sym c.name.ensures ∙ c.in-Some.is in
    let none : awaited_at c.args.self.now.rows.items c.in-Some.name.parent ≡ None = sym c.awaited.ensures ∙ c.in_default-awaited.is in
    rests (rests_over job c.args.program.now c.args.self.now c.args.number c.requires.over (λ n sides here awaited l r.
    let m : c.in-Some.name ≡ n = same_Some c.in-Some.name n (sym named ∙ here) in
    let e : Some sides ≡ None = sym awaited ∙ (ap (λ (x : Name). awaited_at c.args.self.now.rows.items x.parent) (sym m) ∙ none) in cc)) refl refl

pub returns-then-not-is_over-clause-moves : goal.returns-then-not-is_over-clause-moves
returns-then-not-is_over-clause-moves c = λ job same.
    let bare_job = bare_job c.args.program.now in
    let awaits = c.in-Some-awaited.sides in
    let named : slice_get c.args.self.now.names.items c.args.number ≡ Some c.in-Some.name = sym c.name.ensures ∙ c.in-Some.is in
    let these : awaited_at c.args.self.now.rows.items c.in-Some.name.parent ≡ Some awaits = sym c.awaited.ensures ∙ c.in-Some-awaited.is in
    let not_both : over_at (strands_of_job bare_job) state_of c.args.self.now.rows.items awaits.left ≡ true → over_at (strands_of_job bare_job) state_of c.args.self.now.rows.items awaits.right ≡ true → ⊥ =
    λ l r. elim c.then-not-is_over.branch [
      | then-not-is_over-via-then-not-is_over w ↦ (let e : true ≡ false = sym l ∙ (sym (c.is_over.ensures bare_job) ∙ w.if-not-is_over.true) in cc)
      | then-not-is_over-via-else-not-is_over+then-not-is_over-2 w ↦ (let e : true ≡ false = sym r ∙ (sym (w.is_over-else-not-is_over.ensures bare_job) ∙ w.if-not-is_over-2.true) in cc)
    ] in
    rests (rests_over job c.args.program.now c.args.self.now c.args.number c.requires.over (λ n sides here awaited l r.
    let m : c.in-Some.name ≡ n = same_Some c.in-Some.name n (sym named ∙ here) in
    let k : sides ≡ awaits = same_Some sides awaits (sym awaited ∙ (ap (λ (x : Name). awaited_at c.args.self.now.rows.items x.parent) (sym m) ∙ these)) in
    not_both (subst (λ (x : Sides). over_at (strands_of_job bare_job) state_of c.args.self.now.rows.items x.left ≡ true) k l) (subst (λ (x : Sides). over_at (strands_of_job bare_job) state_of c.args.self.now.rows.items x.right ≡ true) k r))) refl refl
