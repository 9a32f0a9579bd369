use Rattle.std.proofs.Common.{◌≡◌, ◌≢◌, ◌-◌, ◌<◌, ℕ, zero, suc, Bool, ap, sym, ◌∙◌, Option, Some, None, length, true, false, arith, inl, inr, nat_eq}
use Rattle.std.specs.Prelude.{◌%◌, ◌==◌, slice_index_or, if◌then◌else◌}
use Rattle.std.proofs.lemmas.Option.{slice_get-get_or}
use Rattle.std.proofs.lemmas.Bool.{ne_eqb, eq-eqb, false≢true}
use Rattle.cw_trace.specs.Columns.{ColumnTable, used, outer, outer_at, is_trace, fork_in}
use Rattle.cw_trace.specs.Tier.{traces_of}
use Rattle.cw_trace.proofs.tier.Tier.outer_at.Goals as goal
use Rattle.cw_trace.proofs.tier.Tier.outer_at.Goals.{then-parent-eq0, else-parent-eq0}

past : (c : ColumnTable) (p : ℕ) → p ≢ 0 → is_trace c p ≡ false → p % 2 ≢ 1 → outer_at c p ≡ outer c (p - 1)
past c zero n h e = absurd (n Rattle.std.proofs.Common.refl)
past c (suc p) n h e =
    ap (λ b. if b then None else if suc p % 2 == 1 then Some (suc p) else outer c p) h
    ∙ ap (λ b. if b then Some (suc p) else outer c p) (ne_eqb (suc p % 2) 1 e)
    ∙ ap (outer c) (one_less p) where
      one_less : (p : ℕ) → p ≡ suc p - 1
      one_less p = omega arith

read : (xs : ColumnTable) (f : ℕ) (d : Option ℕ) → f < length xs.outers → d ≡ slice_index_or xs.outers f d → outer xs f ≡ d
read xs f d low e = ap fork_in (slice_get-get_or xs.outers f d low) ∙ sym e

pub returns-else-parent-eq1 : goal.returns-else-parent-eq1
returns-else-parent-eq1 c =
    let a = c.self.inside in
    let v = ap (λ t. t.columns) (sym c.self.view_is) in
    let low : c.args.parent - 1 < length a.outers.items = omega (arith, ap (λ d. used d) v, c.requires, c.self.invariant.outers) in
    elim c.if-parent-eq0.branch [
      | then-parent-eq0 w ↦ absurd (false≢true (sym c.if-is_trace.false ∙ w.value-is ∙ eq-eqb c.args.parent 0 w.if-parent-eq0.true))
      | else-parent-eq0 w ↦
          sym (past c.args.self.now.columns c.args.parent (λ e. omega (arith, e, w.if-parent-eq0.false)) (sym w.is_trace.ensures ∙ sym w.value-is ∙ c.if-is_trace.false) c.if-parent-eq1.false
          ∙ ap (λ d. outer d (c.args.parent - 1)) v
          ∙ read (traces_of a).columns (c.args.parent - 1) c.index.result.now low c.index.ensures)
    ]
