use Rattle.std.proofs.Common.{◌≡◌, ℕ, suc, ◌<◌, List, length, take, drop, get_or, set, ap, sym, ◌∙◌, subst, arith, rules, refl, Some, None}
use Rattle.std.proofs.lemmas.List.{take_more, take_all, get_or_read}
use Rattle.cw_tree.specs.Nodes.{stamp_of}
use Rattle.cw_tree.specs.Journals.{EndedBetween}
use Rattle.cw_audit.specs.LiveAccesses.{all_live_accesses, cell_accessed}
use Rattle.cw_audit.proofs.Making.{access_there, cell_fits}
use Rattle.cw_audit.proofs.Taking.{split_at}
use Rattle.cw_audit.proofs.Shortcuts.{first_ways}
use Rattle.cw_audit.proofs.Sweeping.{Swept, swept_none, swept_other, swept_next, swept_right, swept_all, ways_on}
use Rattle.cw_audit.proofs.blocks.blocks_hold.Goals as goal

pub loop-i-init : goal.loop-i-init
loop-i-init c =
    let t = c.args.tree.now in
    record {
      swept = swept_none t c.args.cells c.in_ok-last.last.items (c.in_ok-last.ensures.items_if_clones_equal (λ y e. search rules));
      ways = λ h. first_ways t c.nodes.ensures.numbered.rooted (stamp_of t (get_or c.args.accesses.now 0 0)) c.in_ok-ways.ways.items c.in_ok-ways.ensures;
    }

pub cell_accessed-requires : goal.cell_accessed-requires
cell_accessed-requires c =
    let P : List ℕ → Type 0 = λ xs. get_or xs c.loop-i.i 0 < length c.args.tree.now in
    subst P (sym c.requires.accesses) (access_there c.args.tree.now c.loop-i.i (omega (arith, ap length c.requires.accesses)))

pub may_follow-requires-clause-next : goal.may_follow-requires-clause-next
may_follow-requires-clause-next c =
    let P : List ℕ → Type 0 = λ xs. get_or xs c.loop-i.i 0 < length c.args.tree.now in
    subst P (sym c.requires.accesses) (access_there c.args.tree.now c.loop-i.i (omega (arith, ap length c.requires.accesses)))

pub loop-i-preserved-in_default : goal.loop-i-preserved-in_default
loop-i-preserved-in_default c =
    let t = c.args.tree.now in
    let xs = c.args.accesses.now in
    let i = c.loop-i.i in
    let low : i < length xs = omega arith in
    let w = c.loop-i.invariant in
    let P : List ℕ → Type 0 = λ ys. Swept t c.args.cells ys c.loop-i.last.items in
    record {
      swept = subst P (sym (take_more xs i 0 low)) (swept_other t c.args.cells (take i xs) c.loop-i.last.items (get_or xs i 0) w.swept (sym c.cell_accessed.ensures ∙ search rules));
      ways = λ h. ways_on t xs c.loop-i.ways.items i c.requires.accesses h (w.ways low);
    }

pub index_mut-requires : goal.index_mut-requires
index_mut-requires c =
    let t = c.args.tree.now in
    let n = get_or c.args.accesses.now c.loop-i.i 0 in
    let P : List ℕ → Type 0 = λ xs. get_or xs c.loop-i.i 0 < length t in
    let there : n < length t = subst P (sym c.requires.accesses) (access_there t c.loop-i.i (omega (arith, ap length c.requires.accesses))) in
    let ok = c.loop-i.last.ok in
    omega (arith, c.loop-i.invariant.swept.len, cell_fits t c.args.cells n c.in-Some.cell c.requires.cells there (sym c.cell_accessed.ensures ∙ c.in-Some.is), ok.0)

pub returns-then-not-may_follow : goal.returns-then-not-may_follow
returns-then-not-may_follow c =
    let t = c.args.tree.now in
    let xs = c.args.accesses.now in
    let i = c.loop-i.i in
    let n = get_or xs i 0 in
    let d = c.in-Some.cell in
    let last = c.loop-i.last.items in
    let w = c.loop-i.invariant.swept in
    let low : i < length xs = omega arith in
    let P : List ℕ → Type 0 = λ ys. get_or ys i 0 < length t in
    let there : n < length t = subst P (sym c.requires.accesses) (access_there t i (omega (arith, ap length c.requires.accesses))) in
    let cell : cell_accessed t n ≡ Some d = sym c.cell_accessed.ensures ∙ c.in-Some.is in
    let fits : d < c.args.cells = cell_fits t c.args.cells n d c.requires.cells there cell in
    let read : c.index.result.now ≡ get_or last d None = get_or_read last d c.index.result.now (omega (arith, w.len, fits)) c.index.ensures None in (
      λ e. absurd (cc e),
      λ right. absurd (cc (c.if-not-may_follow.true, c.may_follow.ensures.ended.1 (λ u is. swept_right t c.args.cells (take i xs) last n d w cell fits (drop (suc i) xs) (sym c.requires.accesses ∙ split_at xs i 0 low) right u (sym read ∙ is)))),
    )

pub loop-i-preserved : goal.loop-i-preserved
loop-i-preserved c =
    let t = c.args.tree.now in
    let xs = c.args.accesses.now in
    let i = c.loop-i.i in
    let n = get_or xs i 0 in
    let d = c.in-Some.cell in
    let last = c.loop-i.last.items in
    let w = c.loop-i.invariant.swept in
    let low : i < length xs = omega arith in
    let P : List ℕ → Type 0 = λ ys. get_or ys i 0 < length t in
    let there : n < length t = subst P (sym c.requires.accesses) (access_there t i (omega (arith, ap length c.requires.accesses))) in
    let cell : cell_accessed t n ≡ Some d = sym c.cell_accessed.ensures ∙ c.in-Some.is in
    let fits : d < c.args.cells = cell_fits t c.args.cells n d c.requires.cells there cell in
    let read : c.index.result.now ≡ get_or last d None = get_or_read last d c.index.result.now (omega (arith, w.len, fits)) c.index.ensures None in
    let good : (u : ℕ) → get_or last d None ≡ Some u → EndedBetween t u n = λ u is. c.may_follow.ensures.ended.0 c.if-not-may_follow.false u (read ∙ is) in
    let Q : List ℕ → Type 0 = λ ys. Swept t c.args.cells ys (set last d (Some n)) in
    record {
      swept = subst Q (sym (take_more xs i 0 low)) (swept_next t c.args.cells (take i xs) last n d w cell fits there good);
      ways = λ h. ways_on t xs c.may_follow.new.ways.items i c.requires.accesses h c.may_follow.ensures.ways;
    }

pub returns : goal.returns
returns c =
    let t = c.args.tree.now in
    let P : List ℕ → Type 0 = λ ys. Swept t c.args.cells ys c.loop-i.last.items in
    let swept : Swept t c.args.cells (all_live_accesses t) c.loop-i.last.items = subst P (take_all c.loop-i.i c.args.accesses.now c.loop-i-test.false ∙ c.requires.accesses) c.loop-i.invariant.swept in
    (λ e. swept_all t c.args.cells c.loop-i.last.items swept, λ right. refl)
