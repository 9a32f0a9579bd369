use Rattle.std.proofs.Common.{◌≡◌, ◌<◌, ◌∙◌, ap, sym, length, set, refl, false, arith, rules}
use Rattle.std.specs.Vec.{with_item}
use Rattle.cw_tree.specs.Walks.{has}
use Rattle.cw_trace.proofs.Listings.{column_few, column_fits, listed_more}
use Rattle.cw_trace.proofs.touched.Touched.add.Goals as goal

pub overflow_cast-len : goal.overflow_cast-len
overflow_cast-len c =
    let a = c.self.inside in
    let low : c.args.column < length a.places.items = omega (arith, c.if-column-len.true, c.len.ensures, a.places.ok.0) in
    let no : c.is_listed.result ≡ false = search rules in
    let out : has a.columns.items c.args.column ≡ false = ap (λ s. has s.columns c.args.column) c.self.view_is ∙ (sym c.is_listed.ensures ∙ no) in
    let few = column_few a c.self.invariant c.args.column low out in
    record { fits = omega (arith, few, c.len-then-not-is_listed.ensures, a.columns.ok.0) }

pub put-requires : goal.put-requires
put-requires c =
    let a = c.self.inside in
    let low : c.args.column < length a.places.items = omega (arith, c.if-column-len.true, c.len.ensures, a.places.ok.0) in
    let no : c.is_listed.result ≡ false = search rules in
    let out : has a.columns.items c.args.column ≡ false = ap (λ s. has s.columns c.args.column) c.self.view_is ∙ (sym c.is_listed.ensures ∙ no) in
    omega (arith, column_fits a c.self.invariant c.args.column low out, a.columns.ok.0)

pub invariant_of-self : goal.invariant_of-self
invariant_of-self c =
    let a = c.self.inside in
    let low : c.args.column < length a.places.items = omega (arith, c.if-column-len.true, c.len.ensures, a.places.ok.0) in
    let no : c.is_listed.result ≡ false = search rules in
    let out : has a.columns.items c.args.column ≡ false = ap (λ s. has s.columns c.args.column) c.self.view_is ∙ (sym c.is_listed.ensures ∙ no) in
    let place : c.len-then-not-is_listed.result ≡ length a.columns.items = omega (arith, c.len-then-not-is_listed.ensures, a.columns.ok.0) in
    listed_more a c.self.invariant c.args.column low out (record { room = a.room; columns = c.put.new.list; places = with_item a.places c.args.column c.len-then-not-is_listed.result })
    c.put.ensures.items (ap (set a.places.items c.args.column) place) refl c.put.ensures.capacity (omega arith)
