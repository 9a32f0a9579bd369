use Rattle.std.proofs.Common.{◌≡◌, ◌<◌, ℕ, Bool, ap, sym, ◌∙◌, Option, Some, None, length, true, false, arith}
use Rattle.std.specs.Prelude.{if◌then◌else◌}
use Rattle.std.proofs.lemmas.Option.{slice_get-get_or}
use Rattle.cw_trace.specs.Columns.{ColumnTable, used, outer, is_trace, fork_in, unless_split, before_split}
use Rattle.cw_trace.specs.Tier.{traces_of}
use Rattle.cw_trace.proofs.tier.Tier.before_split.Goals as goal

-- what is read is the outer fork
read : (xs : ColumnTable) (f : ℕ) (d : Option ℕ) → f < length xs.outers → d ≡ Rattle.std.specs.Prelude.slice_index_or xs.outers f d → outer xs f ≡ d
read xs f d low e = ap fork_in (slice_get-get_or xs.outers f d low) ∙ sym e

pub is_trace-requires : goal.is_trace-requires
is_trace-requires c =
    let a = c.self.inside in
    let v = ap (λ t. t.columns) (sym c.self.view_is) in
    let low : c.args.fork < length a.outers.items = omega (arith, ap (λ d. used d) v, c.requires, c.self.invariant.outers) in
    omega (arith, c.self.invariant.sound.outer_low c.args.fork c.in-Some.outer (read (traces_of a).columns c.args.fork c.index.result.now low c.index.ensures ∙ c.in-Some.is), ap (λ d. used d) v)

split_to : (c : ColumnTable) (f s : ℕ) (b : Bool) → outer c f ≡ Some s → is_trace c s ≡ b → before_split c f ≡ (if b then None else Some s)
split_to c f s b e h = ap (unless_split c) e ∙ ap (λ b. if b then None else Some s) h

pub returns-then-is_trace : goal.returns-then-is_trace
returns-then-is_trace c =
    let a = c.self.inside in
    let v = ap (λ t. t.columns) (sym c.self.view_is) in
    let low : c.args.fork < length a.outers.items = omega (arith, ap (λ d. used d) v, c.requires, c.self.invariant.outers) in
    let is = ap (λ d. outer d c.args.fork) v ∙ read (traces_of a).columns c.args.fork c.index.result.now low c.index.ensures ∙ c.in-Some.is in
    sym (split_to c.args.self.now.columns c.args.fork c.in-Some.outer true is (sym c.is_trace.ensures ∙ c.if-is_trace.true))

pub returns-else-is_trace : goal.returns-else-is_trace
returns-else-is_trace c =
    let a = c.self.inside in
    let v = ap (λ t. t.columns) (sym c.self.view_is) in
    let low : c.args.fork < length a.outers.items = omega (arith, ap (λ d. used d) v, c.requires, c.self.invariant.outers) in
    let is = ap (λ d. outer d c.args.fork) v ∙ read (traces_of a).columns c.args.fork c.index.result.now low c.index.ensures ∙ c.in-Some.is in
    sym (split_to c.args.self.now.columns c.args.fork c.in-Some.outer false is (sym c.is_trace.ensures ∙ c.if-is_trace.false))

pub returns-in-None : goal.returns-in-None
returns-in-None c =
    let a = c.self.inside in
    let v = ap (λ t. t.columns) (sym c.self.view_is) in
    let low : c.args.fork < length a.outers.items = omega (arith, ap (λ d. used d) v, c.requires, c.self.invariant.outers) in
    let is = ap (λ d. outer d c.args.fork) v ∙ read (traces_of a).columns c.args.fork c.index.result.now low c.index.ensures ∙ c.in-None.is in
    sym (ap (unless_split c.args.self.now.columns) is)
