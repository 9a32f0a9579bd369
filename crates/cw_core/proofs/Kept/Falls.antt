-- Which blocks may fall for an access, as the columns tell.
use Rattle.std.proofs.Common.{◌≡◌, ℕ, ◌<◌, List, length, refl, ap, sym, ◌∙◌, subst, arith, Bool, true, false, cond, Option, Some, None}
use Rattle.std.specs.Prelude.{◌&&◌, not}
use Rattle.std.specs.Option.{option_or}
use Rattle.std.proofs.lemmas.Bool.{false_from_ne_true}
use Rattle.cw_tree.specs.declared.node.Node.{Node}
use Rattle.cw_tree.specs.declared.access.Mark.{Mark}
use Rattle.cw_tree.specs.Nodes.{stamp_of, parent_of, is_pending}
use Rattle.cw_tree.specs.Walks.{path, is_above, outermost, may_fall}
use Rattle.cw_tree.specs.Series.{strand_of}
use Rattle.cw_tree.specs.Shape.{IsTree}
use Rattle.cw_tree.specs.AccessStacks.{access_at}
use Rattle.cw_tree.proofs.Walks.Climbs.{path_step}
use Rattle.cw_tree.proofs.Walks.Strands.{strand_of_le, strand_itself}
use Rattle.cw_tree.proofs.NodeKinds.{strand_no_block, pending_block}
use Rattle.cw_trace.specs.Columns.{used}
use Rattle.cw_trace.specs.Stands.{column_in}
use Rattle.cw_trace.specs.Verdicts.{TellsOfBlock}
use Rattle.cw_trace.proofs.Keeps.Meaning.{stands_of}
use Rattle.cw_open.proofs.Laws.Named.{strand_is}
use Rattle.cw_core.specs.declared.row.Row.{Row}
use Rattle.cw_core.specs.declared.cores.Core.TheInside.{Inside}
use Rattle.cw_core.specs.State.{CoreState, joined_columns, column_of}
use Rattle.cw_core.specs.Kept.{IsRow, IsMarked}
use Rattle.cw_core.specs.InMemory.{state_of, IsCoreInMemory}
use Rattle.cw_core.proofs.Events.Going.{well}

module _ (a : Inside) (i : IsCoreInMemory a) where
  abbrev k : CoreState
  k = state_of a

  abbrev t : List Node
  t = a.tree

  tree : IsTree t
  tree = (well k.machine.first k i.core).sound.tree

  -- the strand of a node is there, and has its column
  pub strand_low : (n : ℕ) → n < length t → strand_of t n < length t
  strand_low n h = let le = strand_of_le t tree.rooted n h in omega arith

  strand_column : (n : ℕ) → column_of k (strand_of t n) ≡ column_of k n
  strand_column n = ap (λ x. column_in t (used a.tier.columns) x x) (strand_itself t tree.rooted (strand_of t n) (strand_is t tree.root n))

  pub falls_so : (last : Mark) → IsMarked k last → (n : ℕ) → is_pending t n ≡ true → (r own : Row) → IsRow k n r → IsRow k r.made.strand own → (stamp : ℕ) → stamp ≡ stamp_of t n
      → (result : Bool) → TellsOfBlock a.tier.columns a.gaps.words.items (record { strand = own.made.column; stamp = stamp }) last result → not result ≡ may_fall t (access_at t last.stamp) n
  falls_so last w n pending r own row strand_row stamp stamped result tells =
      let P : ℕ → Type 0 = λ s. IsRow k s own in
      let of_strand = subst P (sym row.made.strand) strand_row in
      let column : own.made.column ≡ column_of k n = sym (of_strand.made.column (strand_is t tree.root n)) ∙ strand_column n in
      let marks = ap (λ c. let m : Mark = record { strand = c; stamp = stamp } in m) column ∙ ap (λ s. let m : Mark = record { strand = column_of k n; stamp = s } in m) stamped in
      let told = tells t a.splits (joined_columns k) w.cell (access_at t last.stamp) n (stands_of a.tier.columns a.gaps.words.items t a.splits (joined_columns k) i.core.stands) tree (well k.machine.first k i.core).sound.stamps w.touched w.marks pending marks in
      ap not told ∙ sym (ap (λ b. b && not (is_above t n (access_at t last.stamp))) pending)

-- ## The walk up

module _ (t : List Node) (tree : IsTree t) where
  -- the root does not fall
  root_stays : (u : ℕ) → may_fall t u 0 ≡ false
  root_stays u = ap (λ b. b && not (is_above t 0 u)) (false_from_ne_true (is_pending t 0) (λ e. absurd (let b = pending_block t 0 e in let s = strand_no_block t 0 tree.root in cc (b, s))))

  pub walk_on : (q : ℕ → Bool) (n : ℕ) → 0 < n → n < length t → (found : Option ℕ) → option_or (outermost q (path t n)) found ≡ option_or (outermost q (path t (parent_of t n))) (cond (q n) (Some n) found)
  walk_on q n some h found = ap (λ ns. option_or (outermost q ns) found) (path_step t tree.rooted n some h) ∙ by (outermost q (path t (parent_of t n))) (q n) where
    by : (o : Option ℕ) (b : Bool) → option_or (option_or o (cond b (Some n) None)) found ≡ option_or o (cond b (Some n) found)
    by None true = refl
    by None false = refl
    by (Some x) b = refl

  pub walk_ends : (u : ℕ) (found : Option ℕ) → option_or (outermost (may_fall t u) (path t 0)) found ≡ found
  walk_ends u found = ap (λ b. option_or (option_or None (cond b (Some 0) None)) found) (root_stays u)
