-- Serves `drew`: a draw keeps the rule.
use Rattle.std.proofs.Common.{◌≡◌, ℕ, suc, ◌+◌, ◌*◌, ◌%◌, ◌^◌, ◌<◌, ◌≤◌, ◌∙◌, List, [], ◌∷◌, arith, ap, sym, refl, set, length-set, true, false, Bool, subst, inl}
use Rattle.std.specs.Prelude.{slice_index, ◌==◌, if◌then◌else◌, Some, All, Option, unwrap_or}
use Rattle.std.proofs.lemmas.List.Elements.{All-cons, All-head}
use mathlib.Core.Option.{some, none}
use lib.ListN.{get_elem?}
use Rattle.atomic_table.specs.Table.{State, Me, step, stepped, keeps, Allows}
use Rattle.cw_steps.specs.declared.draw.Draw.{Draw}
use Rattle.cw_steps.specs.declared.draw.Draw.TheVariants as draw
use Rattle.cw_steps.specs.declared.view.Key.{Key}
use Rattle.cw_steps.specs.declared.view.Slot.{Slot}
use Rattle.cw_steps.specs.declared.view.Turn.{Turn}
use Rattle.cw_steps.specs.declared.view.View.{View}
use Rattle.cw_steps.specs.Totals.{total}
use Rattle.cw_steps.specs.Views.{cells_of, share, has_turn, turns_of, with_come, with_more, newest_slot, newest_used, columns_for, drew, drew_view, CanDraw, CanFork}
use Rattle.cw_steps.specs.Rule.{Holds, Tiers, StandsIn, ComesIn, WaitsIn}
use Rattle.cw_steps.proofs.Counts.{total_part, turns_access, turns_more, used_access, newest_brings, newest_is_one, none_of, turn_here}
use Rattle.cw_steps.proofs.Concerns.Clock.{clock_set}
use Rattle.cw_steps.proofs.Concerns.Turns.{turns_stay}
use Rattle.cw_steps.proofs.Concerns.Cells.{cells_stay}
use Rattle.cw_steps.proofs.Concerns.Tiers.{comes_more, waits_more, tiers_set, tiers_grow}
use Rattle.cw_steps.proofs.Concerns.StopWord.{stops_stay}
use Rattle.cw_steps.proofs.Steps.Words.{word_here, word_else}

module _ (key : Key) (s : State Slot View) (h : Holds key s) (id : ℕ) (v : View) (at : get_elem? s.views id ≡ some v) (some_room : 0 < v.room) where
  abbrev next : ℕ
  next = slice_index s.words 0 + 1

  abbrev words : List ℕ
  words = set s.words 0 (next % 2 ^ 64)

  pub small : next < 2 ^ 64
  small = let part : v.room ≤ total (λ z. z.room) s.views = total_part (λ z. z.room) s.views id v at in omega (arith, part, h.clock.room, h.tiers.few)

  clock : slice_index words 0 ≡ next
  clock = word_here s.words 0 (next % 2 ^ 64) (omega (arith, h.long)) ∙ omega (arith, small)

  other : (n : ℕ) → slice_index words (suc n) ≡ slice_index s.words (suc n)
  other n = word_else s.words 0 (suc n) (next % 2 ^ 64) (λ e. omega arith)

  module _ (w : View) (more : ℕ) (fits : w.room + 1 + share * h.used ≤ v.room + share * more) (seen : w.seen ≡ next) (turns : (n : ℕ) → has_turn n w ≡ has_turn n v)
      (owns : w.owns + h.used ≤ v.owns + more) (halt : w.halt ≡ v.halt) (told : w.told ≡ v.told) (tiers : Tiers (cells_of key) key.columns more words s.homes (set s.views id w)) where
    pub draw_rule : (c : List (ℕ × Slot)) → Holds key (stepped s 0 (next % 2 ^ 64) id c w keeps)
    draw_rule c = record {
      long = length-set s.words 0 (next % 2 ^ 64) ∙ h.long;
      deep = h.deep;
      small = h.small;
      used = more;
      clock = clock_set key.columns h.used more s.words words s.views id v w at h.clock (omega (arith, clock)) (omega (arith, clock, fits)) (omega (arith, clock, seen)) owns;
      turns = turns_stay (cells_of key) s.words words s.views id v w at h.turns (λ n p. other n) turns;
      cells = cells_stay (cells_of key) s.words words s.homes h.cells (omega (arith, clock)) (λ n p. other n);
      tiers = tiers;
      stops = stops_stay (cells_of key) s.words words s.views id v w at h.stops (word_else s.words 0 (cells_of key + 2) (next % 2 ^ 64) (λ e. omega arith)) halt told;
    }

  -- a draw that takes no column
  module _ (w : View) (room : w.room + 1 ≡ v.room) (seen : w.seen ≡ next) (turns : (n : ℕ) → has_turn n w ≡ has_turn n v) (brings : All (λ (t : Turn). t.slot ≡ cells_of key → t.used ≡ h.used) w.turns) (halt : w.halt ≡ v.halt) (told : w.told ≡ v.told)
      (column : w.column ≡ v.column) (gap : w.gap ≡ v.gap) (coming : w.coming ≡ v.coming) (outer : w.outer ≡ v.outer) (owns : w.owns ≡ v.owns) where
    pub plain_rule : (c : List (ℕ × Slot)) → Holds key (stepped s 0 (next % 2 ^ 64) id c w keeps)
    plain_rule = draw_rule w h.used (omega (arith, room)) seen turns (omega (arith, owns)) halt told
        (tiers_set (cells_of key) key.columns h.used s.words words s.homes s.homes s.views id w h.tiers (λ free. inl (sym (other (cells_of key)) ∙ free, refl))
        brings
        (let b = h.tiers.stands id v at in record { column = omega (arith, b.column, column); gap = omega (arith, b.gap, gap); coming = subst (ComesIn h.used) (sym coming) b.coming; outer = subst (All (WaitsIn h.used)) (sym outer) b.outer }))

  -- a fork takes its columns
  module _ (left right gap behind : ℕ) (second : Bool) (can : CanFork key v left right gap) where
    abbrev more : ℕ
    more = h.used + columns_for left right

    abbrev w : View
    w = drew_view (draw.Fork left right gap) behind second next v

    now : newest_used v.turns ≡ h.used
    now = newest_brings (cells_of key) h.used v.turns (h.tiers.held id v at) can.turn

    mine : has_turn (cells_of key) v ≡ 1
    mine =
        let part : has_turn (cells_of key) v ≤ total (has_turn (cells_of key)) s.views = total_part (has_turn (cells_of key)) s.views id v at in
        omega (arith, part, h.turns.one (cells_of key) (omega arith), h.turns.bits (cells_of key) (omega arith), newest_is_one (cells_of key) v.turns can.turn)

    brings : (ts : List Turn) → All (λ (t : Turn). t.slot ≡ cells_of key → t.used ≡ h.used) ts → newest_slot ts ≡ Some (cells_of key) → turns_of (cells_of key) ts ≡ 1
        → All (λ (t : Turn). t.slot ≡ cells_of key → t.used ≡ more) (with_more (columns_for left right) ts)
    brings [] all e one = absurd (cc e)
    brings (t ∷ ts) all e one =
        let same : t.slot ≡ cells_of key = ap (λ (o : Option ℕ). unwrap_or o 0) e in
        All-cons (λ (t : Turn). t.slot ≡ cells_of key → t.used ≡ more) (record (with_come t.change t) { used = t.used + columns_for left right }) ts
        (λ z. omega (arith, All-head (λ (t : Turn). t.slot ≡ cells_of key → t.used ≡ h.used) t ts all same))
        (none_of (cells_of key) (λ (u : Turn). u.used ≡ more) ts (omega (arith, one, turn_here (cells_of key) t same)))

    stands : (b : Bool) → left ≡ (if b then v.column else h.used) → right ≡ (if b then left else suc left) → gap < h.used + (if b then 0 else 2)
        → (left < h.used + (if b then 0 else 2)) × ComesIn (h.used + (if b then 0 else 2)) (if b then v.coming else Some (record { fork = left; column = right; gap = gap }))
        × All (WaitsIn (h.used + (if b then 0 else 2))) (if b then v.outer else record { column = v.column; gap = v.gap; word = v.word } ∷ v.outer)
    stands true l r g = let b = h.tiers.stands id v at in (
      omega (arith, l, b.column),
      comes_more h.used (h.used + 0) v.coming (omega arith) b.coming,
      waits_more h.used (h.used + 0) v.outer (omega arith) b.outer,
    )
    stands false l r g = let b = h.tiers.stands id v at in (
      omega (arith, l),
      (omega (arith, l, r), g),
      All-cons (WaitsIn (h.used + 2)) (record { column = v.column; gap = v.gap; word = v.word }) v.outer (omega (arith, b.column), omega (arith, b.gap)) (waits_more h.used (h.used + 2) v.outer (omega arith) b.outer),
    )

    stands_now : StandsIn more w
    stands_now =
        let q = stands (left == right) (subst (λ (n : ℕ). left ≡ (if left == right then v.column else n)) now can.one) can.other (omega (arith, now, can.within)) in
        record { column = q.0; gap = omega (arith, now, can.within); coming = q.1; outer = q.2 }

    owns_for : (b : Bool) → v.owns + (if b then 0 else 1) + h.used ≤ v.owns + (h.used + (if b then 0 else 2))
    owns_for true = omega arith
    owns_for false = omega arith

    pub fork_rule : (c : List (ℕ × Slot)) → Holds key (stepped s 0 (next % 2 ^ 64) id c w keeps)
    fork_rule = draw_rule w more (omega (arith, some_room)) refl (λ n. turns_more n (columns_for left right) v.turns) (owns_for (left == right)) refl refl
        (tiers_grow (cells_of key) key.columns h.used more s.words words s.homes s.views id v w at h.turns h.tiers (other (cells_of key)) mine (omega arith) (omega (arith, now, can.few))
        (brings v.turns (h.tiers.held id v at) can.turn mine) stands_now)

  pub rule_of : (d : Draw) (behind : ℕ) (second : Bool) → CanDraw key v d → (c : List (ℕ × Slot)) → Holds key (stepped s 0 (next % 2 ^ 64) id c (drew_view d behind second next v) keeps)
  rule_of (draw.Fork left right gap) n b can = fork_rule left right gap n b can
  rule_of (draw.Access c wrote x) n b can = plain_rule (drew_view (draw.Access c wrote x) n b next v) (omega (arith, some_room)) refl
      (λ i. turns_access i (record { strand = v.column; stamp = next }) wrote x v.turns) (used_access (cells_of key) h.used (record { strand = v.column; stamp = next }) wrote x v.turns (h.tiers.held id v at))
      refl refl refl refl refl refl refl
  rule_of (draw.Out x) n b can = plain_rule (drew_view (draw.Out x) n b next v) (omega (arith, some_room)) refl (λ i. refl) (h.tiers.held id v at) refl refl refl refl refl refl refl
  rule_of (draw.Cancel back) n b can = plain_rule (drew_view (draw.Cancel back) n b next v) (omega (arith, some_room)) refl (λ i. refl) (h.tiers.held id v at) refl refl refl refl refl refl refl
  rule_of draw.Begin n b can = plain_rule (drew_view draw.Begin n b next v) (omega (arith, some_room)) refl (λ i. refl) (h.tiers.held id v at) refl refl refl refl refl refl refl
  rule_of (draw.End aborted) n b can = plain_rule (drew_view (draw.End aborted) n b next v) (omega (arith, some_room)) refl (λ i. refl) (h.tiers.held id v at) refl refl refl refl refl refl refl

pub draws : (key : Key) (d : Draw) (behind : ℕ) (second : Bool) (slots id : ℕ) (me : Me Slot View) → 0 < me.0.room → CanDraw key me.0 d
    → Allows (Holds key) slots id me 0 (λ n. (n + 1) % 2 ^ 64) (drew d behind second (step slots 0 1 0 none) me)
draws key d behind second slots id me room can s h deep at bound = (
  drew_view d behind second (slice_index s.words 0 + 1) me.0,
  keeps,
  tt,
  rule_of key s h id me.0 at room d behind second can me.1,
  (small key s h id me.0 at room, h.clock.seen id me.0 at, refl),
)
