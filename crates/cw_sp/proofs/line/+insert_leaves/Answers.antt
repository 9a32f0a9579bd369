use Rattle.std.proofs.Common.{◌≡◌, ℕ, ◌+◌, ◌<◌, ◌/◌, ◌∙◌, List, refl, sym, arith, drop, get_or, length, map, subst}
use Rattle.std.specs.Prelude.{All, Contains, slice_index}
use Rattle.std.proofs.lemmas.List.{length-map, length-set}
use Rattle.cw_order.proofs.Members.{placed_old}
use Rattle.cw_sp.specs.Lines.{AreInserted}
use Rattle.cw_sp.proofs.Lines.{all_old, inserted_around, is_zero, none_inserted, not_zero, once_apart, once_left, once_right, parted, room_left, room_right, there_left, there_node, there_right}
use Rattle.cw_sp.proofs.line.+insert_leaves.Goals as goal

pub returns-then-is_empty-clause-filled : goal.returns-then-is_empty-clause-filled
returns-then-is_empty-clause-filled t c =
    none_inserted c.args.leaves.now c.args.last c.args.list.now.elements c.args.elements.now.items (is_zero (length c.args.leaves.now) c.is_empty.result c.is_empty.ensures c.if-is_empty.true) c.requires.distinct

pub insert_leaves-requires : goal.insert_leaves-requires
insert_leaves-requires t c =
    let xs = c.args.leaves.now in
    let m = length xs / 2 in
    let n = get_or xs m 0 in
    let e = c.in-Ok.element in
    let elements = c.args.elements.now.items in
    let A = c.split_at.result.0.now in
    let B = drop (m + 1) xs in
    let some : 0 < length xs = not_zero (length xs) c.is_empty.result c.is_empty.ensures c.if-is_empty.false in
    let low : m < length xs = omega arith in
    let q = parted xs A B m low c.split_at.ensures.front refl in
    let smaller : length A < length xs = omega (arith, c.split_at.ensures.front_len) in
    let room = room_left xs A B n q c.args.last e c.args.list.now.room c.args.list.now.elements c.insert_after.new.self.elements c.in-Ok.ensures.placed c.requires.room in
    let fits : ℕ → Type 0 = λ k. All (λ v. v < k) A in (
      omega arith,
      (
        subst fits (sym (length-set elements n e)) (there_left xs A B n q (λ v. v < length elements) c.requires.there),
        (
          once_left xs A B n q c.requires.once,
          (
            λ x h. let P : List ℕ → Type 0 = λ ns. Contains ns x in subst P (sym c.in-Ok.ensures.placed) (placed_old c.args.last e c.args.list.now.elements x (c.requires.last x h)),
            (c.in-Ok.ensures.distinct, omega (arith, room, c.in-Ok.ensures.room)),
          ),
        ),
      ),
    )

pub insert_leaves-requires-2 : goal.insert_leaves-requires-2
insert_leaves-requires-2 t c =
    let xs = c.args.leaves.now in
    let m = length xs / 2 in
    let n = get_or xs m 0 in
    let e = c.in-Ok.element in
    let elements = c.args.elements.now.items in
    let A = c.split_at.result.0.now in
    let B = c.split_at-2.result.1.now in
    let one = c.insert_after.new.self.elements in
    let two = c.insert_leaves.new.list.elements in
    let filled = c.insert_leaves.ensures.filled in
    let es = map (slice_index c.insert_leaves.new.elements.items) A in
    let some : 0 < length xs = not_zero (length xs) c.is_empty.result c.is_empty.ensures c.if-is_empty.false in
    let low : m < length xs = omega arith in
    let q = parted xs A B m low c.split_at.ensures.front c.split_at-2.ensures.back in
    let smaller : length B < length xs = omega (arith, c.split_at-2.ensures.back_len) in
    let room = room_right xs A B n q c.args.last e c.args.list.now.room c.args.list.now.elements one two es c.in-Ok.ensures.placed filled.placed (length-map A (slice_index c.insert_leaves.new.elements.items)) c.requires.room in
    let fits : ℕ → Type 0 = λ k. All (λ v. v < k) B in
    let has : List ℕ → Type 0 = λ ns. Contains ns e in
    let here : Contains two e = subst has (sym filled.placed) (all_old c.args.last es one e c.in-Ok.ensures.there) in (
      omega arith,
      (
        subst fits (sym (filled.nodes ∙ length-set elements n e)) (there_right xs A B n q (λ v. v < length elements) c.requires.there),
        (
          once_right xs A B n q c.requires.once,
          (
            λ x h. let P : ℕ → Type 0 = Contains two in let same : e ≡ x = cc h in subst P same here,
            (filled.distinct, omega (arith, room, c.insert_leaves.ensures.room, c.in-Ok.ensures.room)),
          ),
        ),
      ),
    )

pub returns-clause-filled : goal.returns-clause-filled
returns-clause-filled t c =
    let xs = c.args.leaves.now in
    let m = length xs / 2 in
    let n = get_or xs m 0 in
    let e = c.in-Ok.element in
    let old = c.args.list.now.elements in
    let elements = c.args.elements.now.items in
    let A = c.split_at.result.0.now in
    let B = c.split_at-2.result.1.now in
    let one = c.insert_after.new.self.elements in
    let two = c.insert_leaves.new.list.elements in
    let three = c.insert_leaves-2.new.list.elements in
    let first = c.insert_leaves.new.elements.items in
    let second = c.insert_leaves-2.new.elements.items in
    let some : 0 < length xs = not_zero (length xs) c.is_empty.result c.is_empty.ensures c.if-is_empty.false in
    let low : m < length xs = omega arith in
    let q = parted xs A B m low c.split_at.ensures.front c.split_at-2.ensures.back in
    let P : List ℕ → Type 0 = λ ns. AreInserted ns c.args.last old elements three second in
    subst P q (
    inserted_around A n B (once_apart xs A B n q c.requires.once) c.args.last old elements (there_node xs A B n q (λ v. v < length elements) c.requires.there) e c.in-Ok.ensures.new one c.in-Ok.ensures.placed c.in-Ok.ensures.there
    two first c.insert_leaves.ensures.filled three second c.insert_leaves-2.ensures.filled
    )
