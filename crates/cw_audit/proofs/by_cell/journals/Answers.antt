use Rattle.std.proofs.Common.{◌≡◌, ℕ, ◌<◌, List, [], ◌∷◌, ◌++◌, length, take, get_or, set, ap, sym, ◌∙◌, subst, arith, rules, Some}
use Rattle.std.proofs.lemmas.List.{take_more, take_all, get_or_read}
use Rattle.cw_audit.specs.LiveAccesses.{cell_accessed}
use Rattle.cw_audit.proofs.Making.{access_there, cell_fits}
use Rattle.cw_audit.proofs.Backs.{AreByCell, by_cell_none, by_cell_other, by_cell_next, by_cell_all}
use Rattle.cw_audit.proofs.by_cell.journals.Goals as goal

pub loop-i-init : goal.loop-i-init
loop-i-init c = by_cell_none c.args.tree.now c.args.cells c.in_ok-journals.journals.items c.in_ok-journals.ensures.len c.in_ok-journals.ensures.empty

pub cell_accessed-requires : goal.cell_accessed-requires
cell_accessed-requires c =
    let P : List ℕ → Type 0 = λ xs. get_or xs c.loop-i.i 0 < length c.args.tree.now in
    subst P (sym c.requires.accesses) (access_there c.args.tree.now c.loop-i.i (omega (arith, ap length c.requires.accesses)))

pub loop-i-preserved-in_default : goal.loop-i-preserved-in_default
loop-i-preserved-in_default c =
    let t = c.args.tree.now in
    let xs = c.args.accesses.now in
    let i = c.loop-i.i in
    let low : i < length xs = omega arith in
    let P : List ℕ → Type 0 = λ ys. AreByCell t c.args.cells ys c.loop-i.journals.items in
    subst P (sym (take_more xs i 0 low)) (by_cell_other t c.args.cells (take i xs) c.loop-i.journals.items (get_or xs i 0) c.loop-i.invariant (sym c.cell_accessed.ensures ∙ search rules))

pub index_mut-requires : goal.index_mut-requires
index_mut-requires c =
    let t = c.args.tree.now in
    let n = get_or c.args.accesses.now c.loop-i.i 0 in
    let P : List ℕ → Type 0 = λ xs. get_or xs c.loop-i.i 0 < length t in
    let there : n < length t = subst P (sym c.requires.accesses) (access_there t c.loop-i.i (omega (arith, ap length c.requires.accesses))) in
    let ok = c.loop-i.journals.ok in
    omega (arith, c.loop-i.invariant.len, cell_fits t c.args.cells n c.in-Some.cell c.requires.cells there (sym c.cell_accessed.ensures ∙ c.in-Some.is), ok.0)

pub loop-i-preserved : goal.loop-i-preserved
loop-i-preserved c =
    let t = c.args.tree.now in
    let xs = c.args.accesses.now in
    let i = c.loop-i.i in
    let n = get_or xs i 0 in
    let d = c.in-Some.cell in
    let journals = c.loop-i.journals.items in
    let w = c.loop-i.invariant in
    let low : i < length xs = omega arith in
    let Q : List ℕ → Type 0 = λ ys. get_or ys i 0 < length t in
    let there : n < length t = subst Q (sym c.requires.accesses) (access_there t i (omega (arith, ap length c.requires.accesses))) in
    let cell : cell_accessed t n ≡ Some d = sym c.cell_accessed.ensures ∙ c.in-Some.is in
    let fits : d < c.args.cells = cell_fits t c.args.cells n d c.requires.cells there cell in
    let had : c.index_mut.result.now ≡ get_or journals d [] = get_or_read journals d c.index_mut.result.now (omega (arith, w.len, fits)) c.index_mut.ensures.value [] in
    let new : c.push.new.self ≡ get_or journals d [] ++ n ∷ [] = c.in_ok-push.ensures.ok ∙ ap (λ js. js ++ n ∷ []) had in
    let P : List ℕ → Type 0 = λ ys. AreByCell t c.args.cells ys (set journals d c.push.new.self) in
    let R : List ℕ → Type 0 = λ js. AreByCell t c.args.cells (take i xs ++ n ∷ []) (set journals d js) in
    subst P (sym (take_more xs i 0 low)) (subst R (sym new) (by_cell_next t c.args.cells (take i xs) journals n d w cell fits))

pub returns : goal.returns
returns c =
    let t = c.args.tree.now in
    let P : List ℕ → Type 0 = λ ys. AreByCell t c.args.cells ys c.loop-i.journals.items in
    by_cell_all t c.args.cells c.loop-i.journals.items (subst P (take_all c.loop-i.i c.args.accesses.now c.loop-i-test.false ∙ c.requires.accesses) c.loop-i.invariant)
