-- How a split is answered, in words of the tree.
use Rattle.std.proofs.Common.{◌≡◌, ℕ, ◌+◌, ◌<◌, refl, ap, ◌∙◌, arith, false, Option, Some, None, inl, inr}
use Rattle.std.specs.Prelude.{◌⊎◌}
use Rattle.std.specs.Option.{option_map_or}
use Rattle.cw_tree.specs.Nodes.{is_fork_kind}
use Rattle.cw_tree.proofs.Walks.There.{node_there}
use Rattle.cw_trace.specs.Columns.{used}
use Rattle.cw_trace.specs.Stands.{fork_column}
use Rattle.cw_trace.specs.Running.{IsOrdered}
use Rattle.cw_trace.proofs.Outward.Barring.{none_bars, next_bars}
use Rattle.cw_trace.proofs.Keeps.Meaning.{odd_column}
use Rattle.cw_open.specs.Open.{is_open}
use Rattle.cw_open.proofs.Open.Trees.{IsWell}
use Rattle.cw_open.proofs.Open.Kinds.{unjoined_open}
use Rattle.cw_core.specs.declared.event.Event.TheVariants as event
use Rattle.cw_core.specs.declared.event.Reply.TheVariants as reply
use Rattle.cw_core.specs.State.{joined_columns}
use Rattle.cw_core.specs.Events.{is_early, fork_at, reply_to}
use Rattle.cw_core.specs.Laws.{Bars, IsNextOut, SplitsAreAnswered}
use Rattle.cw_core.proofs.Events.Forks.{names}
use Rattle.cw_core.proofs.Events.Going.{well, root_open}
use Rattle.cw_core.proofs.InMemory.Out.{now_of}
use Rattle.cw_core.proofs.Events.Ordering.{columns_used, ordered, unjoined}
use Rattle.cw_core.proofs.Kept.Splitting.{MaySplit, may_split, fork_is}

pub answered : SplitsAreAnswered
answered first k f core fit = by (is_early k f) refl where
  may : MaySplit k f
  may = may_split k f (now_of k (event.Split f) fit)

  w : IsWell k.machine
  w = well first k core

  low : fork_column k.machine.tree f + 1 < used k.tier
  low = columns_used k w core.joined core.left_first core.stands f may.fork may.columns

  in_order : IsOrdered k.tier k.machine.tree k.splits (joined_columns k) (is_open k.machine)
  in_order =
      let there = node_there (λ y. is_fork_kind y.kind) k.machine.tree f may.fork in
      ordered k w core.joined core.left_first core.stands (root_open first k core f there (unjoined_open k.machine f may.fork may.unjoined))

  by : (o : Option ℕ) → is_early k f ≡ o
      → ((reply_to k (event.Split f) ≡ reply.Done) × ((m : ℕ) → Bars k f m → ⊥)) ⊎ ((m : ℕ) × (reply_to k (event.Split f) ≡ reply.Early m) × IsNextOut k f m)
  by None e =
      let un = unjoined k w core.joined core.left_first core.stands f may.fork may.unjoined in
      let whole = names first k core f may.fork may.unjoined false may.uncut low in
      inl (
        ap (λ o. option_map_or (λ c. reply.Early (fork_at k c)) o reply.Done) e,
        none_bars k.tier k.words k.machine.tree k.splits (joined_columns k) core.stands w.sound.tree (is_open k.machine) in_order (fork_column k.machine.tree f) f may.fork refl un (omega (arith, low)) (odd_column k.machine.tree f) whole e,
      )
  by (Some c) e =
      let un = unjoined k w core.joined core.left_first core.stands f may.fork may.unjoined in
      let whole = names first k core f may.fork may.unjoined false may.uncut low in
      let next = next_bars k.tier k.words k.machine.tree k.splits (joined_columns k) core.stands w.sound.tree (is_open k.machine) in_order (fork_column k.machine.tree f) f may.fork refl un (omega (arith, low)) (odd_column k.machine.tree f) whole c e in
      inr (
        next.fork,
        ap (λ o. option_map_or (λ c. reply.Early (fork_at k c)) o reply.Done) e ∙ ap reply.Early (fork_is k next.fork next.bars.outward.fork c next.at),
        record { bars = next.bars; next = next.next },
      )
