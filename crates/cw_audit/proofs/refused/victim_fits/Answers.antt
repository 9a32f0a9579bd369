use Rattle.std.proofs.Common.{sym, ◌∙◌, ap, refl}
use Rattle.std.specs.Prelude.{not}
use Rattle.std.proofs.lemmas.Bool.{not-true}
use Rattle.cw_audit.proofs.Rolling.{aborted_not_committed}
use Rattle.cw_audit.proofs.refused.victim_fits.Goals as goal

pub returns-then-is_aborted : goal.returns-then-is_aborted
returns-then-is_aborted c =
    let aborted = sym c.is_aborted.ensures ∙ c.if-is_aborted.true in (
      λ e. record { aborted = λ a. sym c.requires.inside ∙ e; committed = λ k. absurd (cc (k, aborted_not_committed c.args.tree.now c.args.n aborted)) },
      λ w. c.requires.inside ∙ w.aborted aborted,
    )

pub returns-then-is_committed : goal.returns-then-is_committed
returns-then-is_committed c = (
  λ e. record {
    aborted = λ a. absurd (cc (a, sym c.is_aborted.ensures ∙ c.if-is_aborted.false));
    committed = λ k. sym c.is_victim.ensures ∙ not-true c.is_victim.result e;
  },
  λ w. ap not (c.is_victim.ensures ∙ w.committed (sym c.is_committed.ensures ∙ c.if-is_committed.true)),
)

pub returns : goal.returns
returns c = (
  λ e. record {
    aborted = λ a. absurd (cc (a, sym c.is_aborted.ensures ∙ c.if-is_aborted.false));
    committed = λ k. absurd (cc (k, sym c.is_committed.ensures ∙ c.if-is_committed.false));
  },
  λ w. refl,
)
