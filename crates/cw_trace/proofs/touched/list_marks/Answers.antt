use Rattle.std.proofs.Common.{◌∙◌, ap, sym, slice_index, arith, inl, inr}
use Rattle.std.specs.Prelude.{◌/◌}
use Rattle.std.proofs.lemmas.Bool.{cases_eq}
use Rattle.cw_tree.specs.Walks.{has}
use Rattle.cw_trace.proofs.Touching.{grows_refl, grows_more}
use Rattle.cw_trace.proofs.touched.list_marks.Goals as goal

pub loop-i-init : goal.loop-i-init
loop-i-init c = record { grows = grows_refl _; there = λ k low q. absurd (omega (arith, low)) }

pub loop-i-preserved : goal.loop-i-preserved
loop-i-preserved c = record {
  grows = grows_more _ _ _ c.loop-i.invariant.grows c.add.ensures.grows;
  there = λ k low q. elim (cases_eq k c.loop-i.i) [
    | inl e ↦
        (let is = c.mark_at-mark.ensures ∙ ap (λ n. slice_index c.args.marks.now (slice_index c.args.places.now n)) (sym e) in
        ap (λ n. has c.add.new.self.columns (n / 2)) (sym is) ∙ c.add.ensures.there (omega (arith, c.loop-i.invariant.grows.used, is, q)))
    | inr n ↦ c.add.ensures.grows.kept _ (c.loop-i.invariant.there k (omega (arith, low, n)) q)
  ];
}
