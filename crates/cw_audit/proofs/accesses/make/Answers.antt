use Rattle.std.proofs.Common.{◌≡◌, ℕ, suc, set, ◌<◌, List, length, take, drop, get_or, ap, sym, ◌∙◌, subst, arith, refl, w64, SFits, to_z, of_z, Some, rules}
use Rattle.std.specs.Prelude.{slice_get, unwrap_or}
use Rattle.std.proofs.lemmas.Int.{to_z-of_z}
use Rattle.std.proofs.lemmas.List.{take_more, take_all}
use Rattle.std.proofs.lemmas.Option.{slice_get_read}
use Rattle.cw_tree.specs.Accesses.{read, written}
use Rattle.cw_audit.specs.LiveAccesses.{all_live_accesses, cell_accessed}
use Rattle.cw_audit.proofs.Making.{Made, access_there, cell_fits, made_other, made_here, made_wrong, made_reads, made_memory}
use Rattle.cw_audit.proofs.accesses.make.Goals as goal
use Rattle.cw_audit.proofs.Taking.{split_at}

pub cell_accessed-requires : goal.cell_accessed-requires
cell_accessed-requires c =
    let P : List ℕ → Type 0 = λ xs. get_or xs c.loop-i.i 0 < length c.args.tree.now in
    subst P (sym c.requires.accesses) (access_there c.args.tree.now c.loop-i.i (omega (arith, ap length c.requires.accesses)))

pub read-requires : goal.read-requires
read-requires c =
    let P : List ℕ → Type 0 = λ xs. get_or xs c.loop-i.i 0 < length c.args.tree.now in
    subst P (sym c.requires.accesses) (access_there c.args.tree.now c.loop-i.i (omega (arith, ap length c.requires.accesses)))

pub written-requires : goal.written-requires
written-requires c =
    let P : List ℕ → Type 0 = λ xs. get_or xs c.loop-i.i 0 < length c.args.tree.now in
    subst P (sym c.requires.accesses) (access_there c.args.tree.now c.loop-i.i (omega (arith, ap length c.requires.accesses)))

pub index-before-requires : goal.index-before-requires
index-before-requires c =
    let t = c.args.tree.now in
    let n = get_or c.args.accesses.now c.loop-i.i 0 in
    let P : List ℕ → Type 0 = λ xs. get_or xs c.loop-i.i 0 < length t in
    let there : n < length t = subst P (sym c.requires.accesses) (access_there t c.loop-i.i (omega (arith, ap length c.requires.accesses))) in
    let len = c.loop-i.invariant.len in
    let ok = c.loop-i.memory.ok in
    omega (arith, cell_fits t (length c.args.memory.now.items) n c.in-Some.cell c.requires.cells there (sym c.cell_accessed.ensures ∙ c.in-Some.is), ok.0)

pub index_mut-requires : goal.index_mut-requires
index_mut-requires c =
    let t = c.args.tree.now in
    let n = get_or c.args.accesses.now c.loop-i.i 0 in
    let P : List ℕ → Type 0 = λ xs. get_or xs c.loop-i.i 0 < length t in
    let there : n < length t = subst P (sym c.requires.accesses) (access_there t c.loop-i.i (omega (arith, ap length c.requires.accesses))) in
    let len = c.loop-i.invariant.len in
    let ok = c.loop-i.memory.ok in
    omega (arith, cell_fits t (length c.args.memory.now.items) n c.in-Some.cell c.requires.cells there (sym c.cell_accessed.ensures ∙ c.in-Some.is), ok.0)

pub loop-i-preserved-in_default : goal.loop-i-preserved-in_default
loop-i-preserved-in_default c =
    let t = c.args.tree.now in
    let xs = c.args.accesses.now in
    let i = c.loop-i.i in
    let low : i < length xs = omega arith in
    let P : List ℕ → Type 0 = λ ys. Made t c.args.memory.now.items ys c.loop-i.memory.items in
    subst P (sym (take_more xs i 0 low)) (made_other t c.args.memory.now.items (take i xs) c.loop-i.memory.items (get_or xs i 0) c.loop-i.invariant (sym c.cell_accessed.ensures ∙ search rules))

pub loop-i-preserved : goal.loop-i-preserved
loop-i-preserved c =
    let t = c.args.tree.now in
    let xs = c.args.accesses.now in
    let first = c.args.memory.now.items in
    let memory = c.loop-i.memory.items in
    let i = c.loop-i.i in
    let n = get_or xs i 0 in
    let d = c.in-Some.cell in
    let low : i < length xs = omega arith in
    let Q : List ℕ → Type 0 = λ ys. get_or ys i 0 < length t in
    let there : n < length t = subst Q (sym c.requires.accesses) (access_there t i (omega (arith, ap length c.requires.accesses))) in
    let len = c.loop-i.invariant.len in
    let cell : cell_accessed t n ≡ Some d = sym c.cell_accessed.ensures ∙ c.in-Some.is in
    let fits : d < length memory = omega (arith, cell_fits t (length first) n d c.requires.cells there cell) in
    let was : slice_get memory d ≡ Some c.index-before.result.now = slice_get_read memory (length memory) d c.index-before.result.now refl fits c.index-before.ensures in
    let had : SFits w64 c.index-before.result.now = search rules in
    let signed : SFits w64 c.unwrap_or-in-loop-i.result = search rules in
    let value : to_z w64 (of_z w64 c.unwrap_or-in-loop-i.result) ≡ unwrap_or (written t n) c.index-before.result.now =
    to_z-of_z w64 c.unwrap_or-in-loop-i.result signed ∙ c.unwrap_or-in-loop-i.ensures ∙ ap (unwrap_or c.written.result) (to_z-of_z w64 c.index-before.result.now had) ∙ ap (λ o. unwrap_or o c.index-before.result.now) c.written.ensures
    in
    let told : c.unwrap_or.result ≡ unwrap_or (read t n) c.index-before.result.now =
    c.unwrap_or.ensures ∙ ap (unwrap_or c.read.result) (to_z-of_z w64 c.index-before.result.now had) ∙ ap (λ o. unwrap_or o c.index-before.result.now) c.read.ensures
    in
    let same : c.unwrap_or.result ≡ c.index-before.result.now = search rules in
    let right : unwrap_or (read t n) c.index-before.result.now ≡ c.index-before.result.now = sym told ∙ same in
    let P : List ℕ → Type 0 = λ ys. Made t first ys (set memory d (to_z w64 (of_z w64 c.unwrap_or-in-loop-i.result))) in
    subst P (sym (take_more xs i 0 low)) (made_here t first (take i xs) memory n d c.index-before.result.now c.loop-i.invariant cell fits was right (to_z w64 (of_z w64 c.unwrap_or-in-loop-i.result)) value)

pub returns-then-unwrap_or-before-clause-reads : goal.returns-then-unwrap_or-before-clause-reads
returns-then-unwrap_or-before-clause-reads c =
    let t = c.args.tree.now in
    let xs = c.args.accesses.now in
    let first = c.args.memory.now.items in
    let memory = c.loop-i.memory.items in
    let i = c.loop-i.i in
    let n = get_or xs i 0 in
    let d = c.in-Some.cell in
    let low : i < length xs = omega arith in
    let Q : List ℕ → Type 0 = λ ys. get_or ys i 0 < length t in
    let there : n < length t = subst Q (sym c.requires.accesses) (access_there t i (omega (arith, ap length c.requires.accesses))) in
    let len = c.loop-i.invariant.len in
    let cell : cell_accessed t n ≡ Some d = sym c.cell_accessed.ensures ∙ c.in-Some.is in
    let fits : d < length memory = omega (arith, cell_fits t (length first) n d c.requires.cells there cell) in
    let was : slice_get memory d ≡ Some c.index-before.result.now = slice_get_read memory (length memory) d c.index-before.result.now refl fits c.index-before.ensures in
    let had : SFits w64 c.index-before.result.now = search rules in
    let value : c.unwrap_or.result ≡ unwrap_or (read t n) c.index-before.result.now = c.unwrap_or.ensures ∙ ap (unwrap_or c.read.result) (to_z-of_z w64 c.index-before.result.now had) ∙ ap (λ o. unwrap_or o c.index-before.result.now) c.read.ensures in
    let wrong : (unwrap_or (read t n) c.index-before.result.now ≡ c.index-before.result.now) → ⊥ = λ e. (let differ = c.if-unwrap_or-before.true in let same : c.unwrap_or.result ≡ c.index-before.result.now = value ∙ e in search rules) in (
      λ e. absurd (cc e),
      λ right. absurd (made_wrong t first (take i xs) memory n d c.index-before.result.now c.loop-i.invariant cell fits was (drop (suc i) xs) (sym c.requires.accesses ∙ split_at xs i 0 low) wrong right),
    )

pub returns-clause-reads : goal.returns-clause-reads
returns-clause-reads c =
    let t = c.args.tree.now in
    let first = c.args.memory.now.items in
    let P : List ℕ → Type 0 = λ ys. Made t first ys c.loop-i.memory.items in
    let made : Made t first (all_live_accesses t) c.loop-i.memory.items = subst P (take_all c.loop-i.i c.args.accesses.now c.loop-i-test.false ∙ c.requires.accesses) c.loop-i.invariant in
    (λ e. made_reads t first c.loop-i.memory.items made, λ right. refl)

pub returns-clause-memory : goal.returns-clause-memory
returns-clause-memory c =
    let t = c.args.tree.now in
    let first = c.args.memory.now.items in
    let P : List ℕ → Type 0 = λ ys. Made t first ys c.loop-i.memory.items in
    let made : Made t first (all_live_accesses t) c.loop-i.memory.items = subst P (take_all c.loop-i.i c.args.accesses.now c.loop-i-test.false ∙ c.requires.accesses) c.loop-i.invariant in
    λ e. made_memory t first c.loop-i.memory.items made
