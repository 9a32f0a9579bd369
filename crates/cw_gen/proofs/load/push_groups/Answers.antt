use Rattle.std.proofs.Common.{◌≡◌, ℕ, ◌+◌, ◌-◌, ◌*◌, ◌<◌, ◌++◌, ap, sym, ◌∙◌, map, arith, subst}
use Rattle.std.specs.Prelude.{min}
use Rattle.std.specs.List.{range_with_len}
use Rattle.cw_text.specs.Syntax.{Declaration, declaration_of}
use Rattle.cw_gen.specs.Load.{group, group_count, group_function, state_after, transfers}
use Rattle.cw_gen.proofs.Draws.{map_more, range_more, group_is, state_both}
use Rattle.cw_gen.proofs.load.push_groups.Goals as goal

pub loop-place-preserved : goal.loop-place-preserved
loop-place-preserved c =
    let k = c.loop-place.place in
    let n = c.args.count in
    let old = c.loop-place.items.items in
    let end : c.group_count-place-end.result ≡ group_count n = c.group_count-place-end.ensures in
    let low : k < group_count n = subst (λ m. k < m) end c.loop-place-test.true in
    let before : min (16 * k) n ≡ 16 * k = omega arith in
    let state = c.loop-place.invariant.state ∙ ap (λ a. state_after a n) before in
    let size = min (n - 16 * k) 16 in
    let sized : c.min-size.result ≡ size = c.min-size.ensures in
    let function : ℕ → Declaration = λ j. group_function j (group j (transfers n n)) in
    record {
      functions =
          map_more declaration_of old c.push.new.self.items c.in_ok-group.field-0 (function k) (map function (range_with_len (k + 1) (group_count n - (k + 1)))) c.in_ok-push.ensures.items
          (c.in_ok-group.ensures.function ∙ ap (λ m. group_function k (transfers m c.loop-place.draws)) sized ∙ ap (λ s. group_function k (transfers size s)) state ∙ ap (group_function k) (sym (group_is k n n)))
          ∙ ap (λ ks. map declaration_of old ++ map function ks) (sym (range_more k (group_count n) low))
          ∙ c.loop-place.invariant.functions;
      state =
          c.in_ok-group.ensures.drawn ∙ ap (λ m. state_after m c.loop-place.draws) sized ∙ ap (state_after size) state ∙ sym (state_both (16 * k) size n)
          ∙ ap (λ a. state_after a n) (let e : 16 * k + size ≡ min (16 * (k + 1)) n = omega arith in e);
    }
