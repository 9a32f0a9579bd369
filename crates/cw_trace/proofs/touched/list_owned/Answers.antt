use Rattle.std.proofs.Common.{◌≡◌, ◌∙◌, ap, sym, slice_index, arith, inl, inr}
use Rattle.std.specs.Prelude.{◌⊎◌}
use Rattle.std.proofs.lemmas.Bool.{cases_eq}
use Rattle.cw_tree.specs.Walks.{has}
use Rattle.cw_trace.proofs.Touching.{grows_refl, grows_more}
use Rattle.cw_trace.proofs.touched.list_owned.Goals as goal

pub loop-i-init : goal.loop-i-init
loop-i-init c = record { grows = grows_refl _; there = λ k h low q. absurd (omega (arith, h, low)) }

pub loop-i-preserved : goal.loop-i-preserved
loop-i-preserved c = record {
  grows = grows_more _ _ _ c.loop-i.invariant.grows c.add_owned.ensures.grows;
  there = λ k h low q. elim (cases_eq k c.loop-i.i) [
    | inl e ↦
        (let is : slice_index c.args.owners.now c.loop-i.i ≡ slice_index c.args.owners.now k = ap (slice_index c.args.owners.now) (sym e) in
        let own : (slice_index c.args.owners.now c.loop-i.i ≡ c.args.a) ⊎ (slice_index c.args.owners.now c.loop-i.i ≡ c.args.b) = elim q [ inl z ↦ inl (is ∙ z) | inr z ↦ inr (is ∙ z) ] in
        ap (has c.add_owned.new.touched.columns) e ∙ c.add_owned.ensures.there own (omega (arith, c.loop-i.invariant.grows.used, c.requires.used)))
    | inr n ↦ c.add_owned.ensures.grows.kept k (c.loop-i.invariant.there k h (omega (arith, low, n)) q)
  ];
}
