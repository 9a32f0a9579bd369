-- A core's fields at a split.
use Rattle.std.proofs.Common.{◌≡◌, ℕ, ◌/◌, ◌%◌, ◌<◌, List, [], ◌∷◌, length, ap, sym, ◌∙◌, subst, arith, true, false, Option, Some, None}
use Rattle.std.specs.Prelude.{slice_get, MatchOption}
use Rattle.std.specs.Option.{option_map_or}
use Rattle.cw_tree.specs.Nodes.{is_fork_kind}
use Rattle.cw_tree.proofs.Walks.There.{node_there}
use Rattle.cw_trace.specs.Columns.{used, is_trace, split_at, before_split}
use Rattle.cw_trace.specs.Stands.{fork_column}
use Rattle.cw_trace.specs.Outward.{NextBars}
use Rattle.cw_trace.proofs.Keeps.Meaning.{odd_column}
use Rattle.cw_core.specs.declared.cores.Core.TheInside.{Inside}
use Rattle.cw_core.specs.declared.event.Event.TheVariants as event
use Rattle.cw_core.specs.declared.event.Reply.TheVariants as reply
use Rattle.cw_core.specs.declared.row.Row.{Row}
use Rattle.cw_core.specs.State.{CoreState}
use Rattle.cw_core.specs.Events.{fits, fork_at, after_event, reply_to}
use Rattle.cw_core.specs.Kept.{IsRow, AreParts, with_row_changed, with_split}
use Rattle.cw_core.specs.InMemory.{state_of, IsCoreInMemory}
use Rattle.cw_core.proofs.Events.Forks.{names}
use Rattle.cw_core.proofs.Events.Ordering.{columns_used}
use Rattle.cw_core.proofs.Events.Going.{well}
use Rattle.cw_core.proofs.InMemory.Out.{seen, now_of}
use Rattle.cw_core.proofs.Kept.Splitting.{MaySplit, may_split, after_split, after_early, split_parts, IsBefore, is_before}

-- a fork that is split is there
pub split_there : (k : CoreState) (f : ℕ) → fits k (event.Split f) ≡ true → f < length k.machine.tree
split_there k f fit = node_there (λ y. is_fork_kind y.kind) k.machine.tree f (may_split k f (now_of k (event.Split f) fit)).fork

-- what is found by its row
pub record Cuts (a : Inside) (f : ℕ) (r : Row) : Type 0 where
  pub fork : f < length a.tree
  pub rows : length a.rows.items ≡ length a.tree
  pub column : r.made.column ≡ fork_column a.tree f
  pub low : r.made.column < used a.tier.columns
  pub left : r.made.column % 2 ≡ 1
  pub whole : is_trace a.tier.columns r.made.column ≡ false

module _ (a : Inside) (i : IsCoreInMemory a) (k : CoreState) (view : state_of a ≡ k) (f : ℕ) (fit : fits k (event.Split f) ≡ true) where
  abbrev j : CoreState
  j = state_of a

  fits_here : fits j (event.Split f) ≡ true
  fits_here = seen a k (λ k. fits k (event.Split f) ≡ true) view fit

  may : MaySplit j f
  may = may_split j f (now_of j (event.Split f) fits_here)

  pub cuts : (r : Row) → IsRow k f r → Cuts a f r
  cuts r row =
      let here = seen a k (λ k. IsRow k f r) view row in
      let w = well j.machine.first j i.core in
      let column : r.made.column ≡ fork_column a.tree f = sym (here.made.forked may.fork (sym (here.made.columns may.fork) ∙ may.columns)) in
      let low = columns_used j w i.core.joined i.core.left_first i.core.stands f may.fork may.columns in
      let odd = odd_column a.tree f in
      record {
        fork = node_there (λ y. is_fork_kind y.kind) a.tree f may.fork;
        rows = i.rowed.len;
        column = column;
        low = omega (arith, column, low);
        left = ap (λ n. n % 2) column ∙ odd;
        whole = ap (is_trace a.tier.columns) column ∙ names j.machine.first j i.core f may.fork may.unjoined false may.uncut low;
      }

  module _ (r : Row) (row : IsRow k f r) (b : Inside) where
    abbrev whole : Inside
    whole = record a { tier = b.tier; splits = b.splits; rows = b.rows }

    abbrev c : ℕ
    c = r.made.column

    at : c ≡ fork_column a.tree f
    at = (cuts r row).column

    pub split_state : before_split a.tier.columns c ≡ None → b.tier.columns ≡ split_at c a.tier.columns → b.splits ≡ c ∷ a.splits → state_of whole ≡ after_event k (event.Split f)
    split_state none tier splits =
        ap (λ t. let y : CoreState = record j { tier = t; splits = b.splits } in y) (tier ∙ ap (λ c. split_at c a.tier.columns) at)
        ∙ ap (λ ss. let y : CoreState = record j { tier = split_at (fork_column a.tree f) a.tier.columns; splits = ss } in y) (splits ∙ ap (λ c. c ∷ a.splits) at)
        ∙ sym (after_split j f may (ap (before_split a.tier.columns) (sym at) ∙ none))
        ∙ ap (λ k. after_event k (event.Split f)) view

    pub split_kept : before_split a.tier.columns c ≡ None → b.tier.columns ≡ split_at c a.tier.columns → b.splits ≡ c ∷ a.splits → b.rows.items ≡ with_row_changed with_split f a.rows.items → IsCoreInMemory whole
    split_kept none tier splits rows =
        let P : CoreState → Type 0 = λ z. AreParts z b.rows.items a.forks.items a.cells.items a.spent in
        let now = ap (before_split a.tier.columns) (sym at) ∙ none in
        let parts = split_parts j f may a.rows.items a.forks.items a.cells.items a.spent i fits_here now in
        let same : state_of whole ≡ record j { tier = split_at (fork_column a.tree f) a.tier.columns; splits = fork_column a.tree f ∷ a.splits } =
        ap (λ t. let y : CoreState = record j { tier = t; splits = b.splits } in y) (tier ∙ ap (λ c. split_at c a.tier.columns) at)
        ∙ ap (λ ss. let y : CoreState = record j { tier = split_at (fork_column a.tree f) a.tier.columns; splits = ss } in y) (splits ∙ ap (λ c. c ∷ a.splits) at) in
        let Q : List Row → Type 0 = λ rs. AreParts (record j { tier = split_at (fork_column a.tree f) a.tier.columns; splits = fork_column a.tree f ∷ a.splits }) rs a.forks.items a.cells.items a.spent in
        subst P (sym same) (subst Q (sym rows) parts)

    pub split_reply : before_split a.tier.columns c ≡ None → reply.Done ≡ reply_to k (event.Split f)
    split_reply none =
        sym (ap (λ o. option_map_or (λ c. reply.Early (fork_at j c)) o reply.Done) (ap (before_split a.tier.columns) (sym at) ∙ none))
        ∙ ap (λ k. reply_to k (event.Split f)) view

    -- another fork is to be split before
    pub early_state : (n : ℕ) → before_split a.tier.columns c ≡ Some n → after_event k (event.Split f) ≡ k
    early_state n e = ap (λ k. after_event k (event.Split f)) (sym view) ∙ after_early j f may n (ap (before_split a.tier.columns) (sym at) ∙ e) ∙ view

    pub before : (n : ℕ) → NextBars c n a.tier.columns → IsBefore j a.forks.items n
    before n bars =
        let P : ℕ → Type 0 = λ c. NextBars c n a.tier.columns in
        is_before j f a.rows.items a.forks.items a.cells.items a.spent i may n (subst P at bars)

    pub early_reply : (n : ℕ) → before_split a.tier.columns c ≡ Some n → NextBars c n a.tier.columns → (h : ℕ) → slice_get a.forks.items (n / 2) ≡ Some h → reply.Early h ≡ reply_to k (event.Split f)
    early_reply n e bars h there =
        ap reply.Early (sym ((before n bars).named h there))
        ∙ sym (ap (λ o. option_map_or (λ c. reply.Early (fork_at j c)) o reply.Done) (ap (before_split a.tier.columns) (sym at) ∙ e))
        ∙ ap (λ k. reply_to k (event.Split f)) view

-- what was put on a stack and taken away leaves it as it was
pub popped : (o : Option ℕ) (old new rest : List ℕ) (x : ℕ) → MatchOption o ((old ≡ []) × (new ≡ [])) (λ y. old ≡ y ∷ new) → old ≡ x ∷ rest → new ≡ rest
popped None old new rest x w e = let q = w.0 in cc (q, e)
popped (Some y) old new rest x w e = cc (w, e)
