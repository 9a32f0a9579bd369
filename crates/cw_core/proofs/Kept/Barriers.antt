-- What the query tells of a cell's newest access.
use Rattle.std.proofs.Common.{◌≡◌, ℕ, suc, ◌-◌, List, [], ◌∷◌, length, refl, ap, sym, ◌∙◌, subst, arith, Bool, true, false, Option, Some, None}
use Rattle.std.specs.Prelude.{◌||◌, slice_get, find, unwrap_or}
use Rattle.std.specs.Option.{option_map}
use Rattle.cw_tree.specs.declared.node.Node.{Node}
use Rattle.cw_tree.specs.declared.access.Entry.{Entry}
use Rattle.cw_tree.specs.declared.access.Mark.{Mark}
use Rattle.cw_tree.specs.Nodes.{stamp_of, touches}
use Rattle.cw_tree.specs.Series.{place}
use Rattle.cw_tree.specs.AccessStacks.{conflict_at, access_at, stamps}
use Rattle.cw_tree.specs.Newest.{newest}
use Rattle.cw_stack.specs.Cells.{CellParts}
use Rattle.cw_stack.specs.Cells as stack
use Rattle.cw_trace.specs.declared.verdict.Verdict.{Verdict}
use Rattle.cw_trace.specs.declared.verdict.Verdict.TheVariants.{Against}
use Rattle.cw_trace.specs.Columns.{used}
use Rattle.cw_trace.specs.Stands.{column}
use Rattle.cw_trace.specs.Query.{verdict}
use Rattle.cw_trace.specs.Verdicts.{Tells, is_against, mark_of}
use Rattle.cw_open.specs.Machine.{OpenMachine, live}
use Rattle.cw_open.specs.Runs.{meets}
use Rattle.cw_open.proofs.Laws.Named.{access_named}
use Rattle.cw_core.specs.declared.event.Event.TheVariants as event
use Rattle.cw_core.specs.declared.cores.Core.TheInside.{Inside}
use Rattle.cw_core.specs.State.{CoreState, column_of}
use Rattle.cw_core.specs.Events.{fits, is_met, met_by, against}
use Rattle.cw_core.specs.Kept.{IsEntryOf, IsMarked, IsBarrier}
use Rattle.cw_core.specs.InMemory.{state_of, IsCoreInMemory}
use Rattle.cw_core.proofs.Events.Going.{well}
use Rattle.cw_core.proofs.Kept.Accesses.{access_ready}
use Rattle.cw_core.proofs.Events.Accessing.{told_newest}
use Rattle.cw_core.proofs.Kept.Entering.{live_is}

-- the newest stamp is that of the newest entry
newest_stamp : (es : List Entry) (e : Entry) → stack.newest_entry es ≡ Some e → newest (stamps es) ≡ e.mark.stamp ∷ []
newest_stamp [] e at = absurd (cc at)
newest_stamp (x ∷ []) e at = let same : x ≡ e = cc at in ap (λ y. y.mark.stamp ∷ []) same
newest_stamp (x ∷ y ∷ es) e at =
    let less : suc (suc (length es)) - 1 ≡ suc (suc (length es) - 1) = omega arith in
    newest_stamp (y ∷ es) e (sym (ap (slice_get (x ∷ y ∷ es)) less) ∙ at)

-- a mark is that of an entry
entry_marked : (o : Option Entry) (mark : Mark) → Some mark ≡ option_map (λ e. e.mark) o → (e : Entry) × (o ≡ Some e) × (e.mark ≡ mark)
entry_marked None mark e = absurd (cc e)
entry_marked (Some x) mark e = let same : mark ≡ x.mark = cc e in (x, refl, sym same)

or_false : (b : Bool) → (b || false) ≡ b
or_false true = refl
or_false false = refl

module _ (a : Inside) (i : IsCoreInMemory a) (s c : ℕ) (fit : fits (state_of a) (event.Access s c None) ≡ true) (cell : CellParts) (at : slice_get a.cells.items c ≡ Some cell) where
  abbrev k : CoreState
  k = state_of a

  abbrev m : OpenMachine
  m = k.machine

  abbrev t : List Node
  t = a.tree

  abbrev p : ℕ
  p = place t s

  same_list : live m c ≡ stamps cell.entries
  same_list = live_is k a.rows.items a.forks.items a.cells.items a.spent i c cell at

  module _ (e : Entry) (last : stack.newest_entry cell.entries ≡ Some e) where
    alone : newest (live m c) ≡ e.mark.stamp ∷ []
    alone = ap newest same_list ∙ newest_stamp cell.entries e last

    of : IsEntryOf k c e
    of = (i.held c cell at).entries (length cell.entries - 1) e last

    named : access_at t e.mark.stamp ≡ of.node
    named = ap (access_at t) (sym of.stamp) ∙ access_named t (well m.first k i.core).sound.stamps c of.node of.touches

    marked : IsMarked k e.mark
    marked = record {
      cell = c;
      touched = ap (touches t c) named ∙ of.touches;
      marks = sym (ap (mark_of k.tier t) named ∙ ap (λ q. let z : Mark = record { strand = q; stamp = stamp_of t of.node } in z) of.strand ∙ ap (λ q. let z : Mark = record { strand = e.mark.strand; stamp = q } in z) of.stamp);
    }

    abbrev by_column : ℕ → Mark
    by_column u = record { strand = column_of k (access_at t u); stamp = u }

    mark_is : by_column e.mark.stamp ≡ e.mark
    mark_is = ap (λ q. let z : Mark = record { strand = column t (used k.tier) q; stamp = e.mark.stamp } in z) named ∙ ap (λ q. let z : Mark = record { strand = q; stamp = e.mark.stamp } in z) of.strand

    tells : Tells t (access_at t e.mark.stamp) p (verdict k.tier k.words e.mark (column_of k s))
    tells =
        let now = access_ready k s c None i.core fit in
        let P : Mark → Type 0 = λ q. Tells t (access_at t e.mark.stamp) p (verdict k.tier k.words q (column_of k s)) in
        subst P mark_is (told_newest m.first k i.core s c None now.0 now.1 now.2 e.mark.stamp alone)

    decided : is_against (verdict k.tier k.words e.mark (column_of k s)) ≡ is_met k s c
    decided = tells.against ∙ sym (ap (λ us. meets t us p) alone ∙ or_false (conflict_at t (access_at t e.mark.stamp) p))

    barred : (block : ℕ) → verdict k.tier k.words e.mark (column_of k s) ≡ Against block → IsBarrier k s c (record { last = e.mark; block = block })
    barred block so =
        let there : e.mark.stamp ≡ (met_by k s c).last = sym (ap (λ us. unwrap_or (find (λ u. true) us) 0) alone) in
        record {
          met = sym decided ∙ ap is_against so;
          last = there;
          block = sym (ap (λ u. against (verdict k.tier k.words (by_column u) (column_of k s))) (sym there) ∙ ap (λ q. against (verdict k.tier k.words q (column_of k s))) mark_is ∙ ap against so);
          marked = marked;
        }

  -- the verdict by the mark of the newest entry tells whether an access by the strand conflicts
  module _ (mark : Mark) (last : Some mark ≡ option_map (λ e. e.mark) (stack.newest_entry cell.entries)) (asker : ℕ) (own : asker ≡ column_of k s) where
    pub off : (v : Verdict) → v ≡ verdict k.tier k.words mark asker → is_against v ≡ false → is_met k s c ≡ false
    off v is none =
        let e = entry_marked (stack.newest_entry cell.entries) mark last in
        sym (decided e.0 e.1) ∙ ap is_against (ap (λ q. verdict k.tier k.words q (column_of k s)) e.2 ∙ ap (verdict k.tier k.words mark) (sym own) ∙ sym is) ∙ none

    pub on : (block : ℕ) → Against block ≡ verdict k.tier k.words mark asker → IsBarrier k s c (record { last = mark; block = block })
    on block is =
        let e = entry_marked (stack.newest_entry cell.entries) mark last in
        let P : Mark → Type 0 = λ q. IsBarrier k s c (record { last = q; block = block }) in
        subst P e.2 (barred e.0 e.1 block (ap (λ q. verdict k.tier k.words q (column_of k s)) e.2 ∙ ap (verdict k.tier k.words mark) (sym own) ∙ sym is))
