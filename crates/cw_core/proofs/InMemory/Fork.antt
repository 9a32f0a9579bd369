-- A core's fields after a fork.
use Rattle.std.proofs.Common.{◌≡◌, ℕ, ◌+◌, ◌^◌, ◌<◌, ◌≤◌, List, [], ◌∷◌, ◌++◌, length, ap, sym, ◌∙◌, subst, arith, Bool, true, false, cond}
use Rattle.std.specs.Prelude.{slice_index, max}
use Rattle.std.proofs.lemmas.Bool.{leb-true, le-leb, false_from_ne_true}
use Rattle.cw_tree.specs.Series.{place}
use Rattle.cw_tree.specs.NextNodes.{fork_nodes}
use Rattle.cw_trace.specs.Columns.{ColumnTable, used, forked}
use Rattle.cw_open.specs.Machine.{is_running}
use Rattle.cw_core.specs.declared.event.Event.TheVariants as event
use Rattle.cw_core.specs.declared.event.Reply.{Reply}
use Rattle.cw_core.specs.declared.event.Reply.TheVariants as reply
use Rattle.cw_core.specs.declared.row.Row.{Row}
use Rattle.cw_core.specs.declared.cores.Core.TheInside.{Inside}
use Rattle.cw_core.specs.State.{CoreState, column_of, gap_of}
use Rattle.cw_core.specs.Events.{fits, may_fork, after_event, reply_to}
use Rattle.cw_core.specs.Kept.{AreParts, with_row_changed, with_tail, with_wait, plain_tail, fork_rows}
use Rattle.cw_core.specs.InMemory.{state_of, IsCoreInMemory}
use Rattle.cw_core.proofs.InMemory.Out.{max_next, now_of, runs_free}
use Rattle.cw_core.proofs.Kept.ForkParts.{fork_parts, after_is}

pub runs_fork : (k : CoreState) (s : ℕ) → fits k (event.Fork s) ≡ true → is_running k.machine s ≡ true
runs_fork k s fit = runs_free k s (now_of k (event.Fork s) fit)

-- whether there are columns for it
pub may : (c : ColumnTable) → used c + 2 ≤ c.room → Rattle.std.specs.Prelude.nat_le (used c + 2) c.room ≡ true
may c le = le-leb (used c + 2) c.room le

pub may_not : (c : ColumnTable) → c.room < used c + 2 → Rattle.std.specs.Prelude.nat_le (used c + 2) c.room ≡ false
may_not c less = false_from_ne_true (Rattle.std.specs.Prelude.nat_le (used c + 2) c.room) (λ e. absurd (let le = leb-true (used c + 2) c.room e in omega arith))

module _ (a : Inside) (i : IsCoreInMemory a) (s : ℕ) (fit : fits (state_of a) (event.Fork s) ≡ true) (z : Bool) (e : may_fork (state_of a) ≡ z) where
  abbrev k : CoreState
  k = state_of a

  abbrev word : ℕ
  word = slice_index a.gaps.words.items (gap_of k s)

  abbrev tier : ColumnTable
  tier = cond z (forked word (column_of k s) a.tier.columns) a.tier.columns

  pub fork_state : (b : Inside) → b.tree ≡ a.tree ++ fork_nodes (length a.tree) (place a.tree s) (a.clock + 1) → b.clock ≡ a.clock + 1 → b.tier.columns ≡ tier
      → state_of (record a { tree = b.tree; clock = b.clock; rows = b.rows; tier = b.tier; forks = b.forks }) ≡ after_event k (event.Fork s)
  fork_state b grown drawn columns =
      ap (λ t. state_of (record a { tree = t; clock = b.clock; rows = b.rows; tier = b.tier; forks = b.forks })) grown
      ∙ ap (λ n. state_of (record a { tree = a.tree ++ fork_nodes (length a.tree) (place a.tree s) (a.clock + 1); clock = n; rows = b.rows; tier = b.tier; forks = b.forks })) (drawn ∙ max_next a.clock)
      ∙ ap (λ c. let y : CoreState = record k { machine = record k.machine { tree = a.tree ++ fork_nodes (length a.tree) (place a.tree s) (a.clock + 1); clock = max a.clock (a.clock + 1) }; tier = c } in y) columns
      ∙ sym (after_is k a.rows.items a.forks.items a.cells.items a.spent i s fit z e)

  pub fork_kept : (b : Inside) → b.tree ≡ a.tree ++ fork_nodes (length a.tree) (place a.tree s) (a.clock + 1) → b.clock ≡ a.clock + 1 → b.tier.columns ≡ tier
      → length a.tree + 3 < 2 ^ 32
      → b.rows.items ≡ with_row_changed with_wait s (with_row_changed (with_tail plain_tail) (place a.tree s) a.rows.items ++ fork_rows s (cond z (used a.tier.columns) (column_of k s)) (cond z (used a.tier.columns + 1) (column_of k s)) (length a.tree) z)
      → b.forks.items ≡ cond z (a.forks.items ++ length a.tree ∷ []) a.forks.items
      → IsCoreInMemory (record a { tree = b.tree; clock = b.clock; rows = b.rows; tier = b.tier; forks = b.forks })
  fork_kept b grown drawn columns few rows forks =
      let parts = fork_parts k a.rows.items a.forks.items a.cells.items a.spent i s fit z e few in
      let P : CoreState → Type 0 = λ y. AreParts y b.rows.items b.forks.items a.cells.items a.spent in
      let Q : List Row → Type 0 = λ rs. AreParts (after_event k (event.Fork s)) rs b.forks.items a.cells.items a.spent in
      let R : List ℕ → Type 0 = λ fs. AreParts (after_event k (event.Fork s)) (with_row_changed with_wait s (with_row_changed (with_tail plain_tail) (place a.tree s) a.rows.items ++ fork_rows s (cond z (used a.tier.columns) (column_of k s)) (cond z (used a.tier.columns + 1) (column_of k s)) (length a.tree) z)) fs a.cells.items a.spent in
      subst P (sym (fork_state b grown drawn columns)) (subst Q (sym rows) (subst R (sym forks) parts))

pub fork_reply : (k : CoreState) (s : ℕ) (n left right : ℕ) → may_fork k ≡ true → n ≡ length k.machine.tree → left ≡ n + 1 → right ≡ n + 2 → reply.Forked left right n ≡ reply_to k (event.Fork s)
fork_reply k s n left right e at l r =
    ap (λ i. reply.Forked i right n) (l ∙ ap (λ n. n + 1) at) ∙ ap (λ i. reply.Forked (length k.machine.tree + 1) i n) (r ∙ ap (λ n. n + 2) at) ∙ ap (λ n. reply.Forked (length k.machine.tree + 1) (length k.machine.tree + 2) n) at
    ∙ sym (ap (λ b. let y : Reply = cond b (reply.Forked (length k.machine.tree + 1) (length k.machine.tree + 2) (length k.machine.tree)) (reply.Inline (length k.machine.tree + 1) (length k.machine.tree + 2)) in y) e)

pub inline_reply : (k : CoreState) (s : ℕ) (n left right : ℕ) → may_fork k ≡ false → n ≡ length k.machine.tree → left ≡ n + 1 → right ≡ n + 2 → reply.Inline left right ≡ reply_to k (event.Fork s)
inline_reply k s n left right e at l r =
    ap (λ i. reply.Inline i right) (l ∙ ap (λ n. n + 1) at) ∙ ap (reply.Inline (length k.machine.tree + 1)) (r ∙ ap (λ n. n + 2) at)
    ∙ sym (ap (λ b. let y : Reply = cond b (reply.Forked (length k.machine.tree + 1) (length k.machine.tree + 2) (length k.machine.tree)) (reply.Inline (length k.machine.tree + 1) (length k.machine.tree + 2)) in y) e)
