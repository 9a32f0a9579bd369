use Rattle.std.proofs.Common.{◌≡◌, ◌<◌, ◌∙◌, ap, length, nat_eq, slice_index, arith}
use Rattle.std.proofs.lemmas.List.{get_or_read}
use Rattle.cw_tree.specs.Walks.{has}
use Rattle.cw_trace.proofs.Listings.{stands_there, stands_nowhere}
use Rattle.cw_trace.proofs.touched.Touched.is_listed.Goals as goal

pub returns-then-place-len : goal.returns-then-place-len
returns-then-place-len c =
    let a = c.self.inside in
    let place = c.index.result.now in
    let low : c.args.column < length a.places.items = omega (arith, c.requires, ap (λ s. s.used) c.self.view_is) in
    let is : place ≡ slice_index a.places.items c.args.column = get_or_read a.places.items c.args.column place low c.index.ensures 0 in
    let within : place < length a.columns.items = omega (arith, c.if-place-len.true, c.len.ensures, a.columns.ok.0) in
    let there = get_or_read a.columns.items place c.index-then-place-len.result.now within c.index-then-place-len.ensures 0 in
    ap (λ n. nat_eq n c.args.column) there ∙ (stands_there a c.self.invariant c.args.column place is within ∙ ap (λ s. has s.columns c.args.column) c.self.view_is)

pub returns-else-place-len : goal.returns-else-place-len
returns-else-place-len c =
    let a = c.self.inside in
    let place = c.index.result.now in
    let low : c.args.column < length a.places.items = omega (arith, c.requires, ap (λ s. s.used) c.self.view_is) in
    let is : place ≡ slice_index a.places.items c.args.column = get_or_read a.places.items c.args.column place low c.index.ensures 0 in
    stands_nowhere a c.self.invariant c.args.column place is (omega (arith, c.if-place-len.false, c.len.ensures, a.columns.ok.0)) ∙ ap (λ s. has s.columns c.args.column) c.self.view_is
