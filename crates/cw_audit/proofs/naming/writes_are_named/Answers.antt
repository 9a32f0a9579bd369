use Rattle.std.proofs.Common.{◌<◌, ℕ, arith, ap, sym, length, inl, inr, subst}
use Rattle.std.proofs.lemmas.Bool.{cases_eq}
use Rattle.cw_tree.specs.Accesses.{is_live}
use Rattle.cw_tree.proofs.Lists.{length_map_below}
use Rattle.cw_audit.specs.Naming.{WriteIsNamed}
use Rattle.cw_audit.proofs.Living.{live_read}
use Rattle.cw_audit.proofs.naming.writes_are_named.Goals as goal
use Rattle.cw_audit.proofs.naming.writes_are_named.Goals.{else-lives-n-via-then-lives-n+else-not-write_is_named, else-lives-n-via-else-lives-n}

pub bounds-lives-n : goal.bounds-lives-n
bounds-lives-n c = omega (arith, ap length c.requires.lives, length_map_below (is_live c.args.tree.now) (length c.args.tree.now), ap length c.nodes.ensures.nodes)

pub loop-n-preserved : goal.loop-n-preserved
loop-n-preserved c m h =
    let t = c.args.tree.now in
    let n = c.loop-n.n in
    let there : n < length t = omega (arith, ap length c.nodes.ensures.nodes) in
    let P : ℕ → Type 0 = λ x. WriteIsNamed t c.args.cancels.now c.args.around.now x in
    let here : WriteIsNamed t c.args.cancels.now c.args.around.now n =
    elim c.else-lives-n.branch [
      | else-lives-n-via-then-lives-n+else-not-write_is_named w ↦ w.write_is_named.ensures w.if-not-write_is_named.false
      | else-lives-n-via-else-lives-n w ↦ (λ d live. absurd (cc (live, sym (live_read t c.args.lives.now (length t) n c.requires.lives there), w.if-lives-n.false)))
    ]
    in
    elim (cases_eq m n) [
      | inl e ↦ subst P (sym e) here
      | inr ne ↦ c.loop-n.invariant m (omega arith)
    ]
