-- What the strands in memory say of the machine's end, and of names.
use Rattle.std.proofs.Common.{◌≡◌, ℕ, zero, suc, ◌<◌, ◌≤◌, refl, ap, sym, ◌∙◌, arith, subst, Bool, true, false, Option, Some, None, List, [], length}
use Rattle.std.specs.Prelude.{is_some}
use Rattle.std.specs.Bool.{if◌then◌else◌}
use Rattle.std.specs.List.{slice_get}
use Rattle.std.proofs.lemmas.Option.{slice_get_within}
use Rattle.cw_strand.specs.Strands.{Strands, is_over}
use Rattle.cw_tree.specs.declared.picks.Name.{Name}
use Rattle.cw_tree.specs.declared.picks.Turn.{Turn}
use Rattle.cw_serial.specs.declared.table.Table.{Table}
use Rattle.cw_serial.specs.StrandTree.{StrandTree, stands, waits, state_at_end, at}
use Rattle.cw_serial.specs.Machine.{steps_down}
use Rattle.cw_serial.specs.Spots.{Spot, standing, waiting, spot}
use Rattle.cw_serial.specs.TableInMemory.{left_name, right_name, IsSpotAt, Holds, strand_in, strand_in_row, want_of, over_by, over_at}
use Rattle.cw_serial.specs.InMemory.{AreNames}
use Rattle.cw_serial.proofs.Replaced.{at_spot, at_is}
use Rattle.cw_serial.proofs.Numbers.{get_some}
use Rattle.cw_serial.proofs.Numbered.{parent_low, turns_total, turns_unique}
use Rattle.cw_serial.proofs.Waiting.{over_here}
use Rattle.cw_serial.proofs.Holding.{at_stand, at_wait, row_named, listed}

module _ {S A : Type 0} (s : Strands A) (state : S → A) (table : Table S) (tree : StrandTree A) (holds : Holds state table tree) where
  root_named : steps_down table.names.items 0 ≡ Some []
  root_named = rw holds.numbered.first refl

  over_some : (b : Bool) (a : A) → b ≡ is_some (if b then Some a else None)
  over_some true a = refl
  over_some false a = refl

  root_by : (t : StrandTree A) → tree ≡ t → over_at s state table.rows.items 0 ≡ is_some (state_at_end s t)
  root_by (stands k a) e =
      let (row, here) = row_named state table tree holds 0 [] root_named in
      let n = length row.forks.items in
      let st = at_stand state row.place n k a (subst (IsSpotAt state row.place n) (ap (λ t. spot t []) e) (holds.places 0 [] row root_named here)) in
      over_here s state table.rows.items 0 row st.strand here st.stands ∙ (ap (λ b. is_over (s.want b)) st.is ∙ over_some (is_over (s.want a)) a)
  root_by (waits k l r) e =
      let (row, here) = row_named state table tree holds 0 [] root_named in
      let n = length row.forks.items in
      let (place, rest, more) = at_wait state row.place n k (subst (IsSpotAt state row.place n) (ap (λ t. spot t []) e) (holds.places 0 [] row root_named here)) in
      ap (λ o. over_by (want_of s state (strand_in_row o))) here ∙ ap (λ pl. over_by (want_of s state (strand_in pl))) place

  -- the root has ended in memory where it has in the tree
  pub root_ended : over_at s state table.rows.items 0 ≡ is_some (state_at_end s tree)
  root_ended = root_by tree refl

  earlier : (j : ℕ) (n : Name) (f : ℕ) → slice_get table.names.items (suc j) ≡ Some n → 0 < f → f ≤ n.fork → (l : ℕ) × (r : ℕ) × (slice_get table.names.items l ≡ Some (left_name n.parent f)) × (slice_get table.names.items r ≡ Some (right_name n.parent f))
  earlier j n zero h some most = absurd (omega arith)
  earlier j n (suc g) h some most =
      let (t, f, x, there, fork, here, number) = holds.numbered.named j n h in
      let within = slice_get_within t.forks.items f x here in
      let (y, at) = get_some t.forks.items g (omega arith) in
      let (l, r, hl, hr) = holds.numbered.forked n.parent g t y there at in
      (y.left, y.right, hl, hr)

  listed_by : (q : List Turn) (a : A) (o : Option (Spot A)) → spot tree q ≡ o → at_spot s o ≡ Some a → (i : ℕ) × (steps_down table.names.items i ≡ Some q)
  listed_by q a None e h = absurd cc
  listed_by q a (Some (waiting k)) e h = absurd cc
  listed_by q a (Some (standing k b)) e h = listed state table tree holds q (standing k b) e

  pub are_names : AreNames s table.names.items tree
  are_names = record {
    first = holds.numbered.first;
    parents = λ j n h. parent_low table.names.items table.rows.items holds.numbered j n h;
    named = λ i h. turns_total table.names.items table.rows.items holds.numbered i h;
    apart = λ i j q hi hj. turns_unique table.names.items table.rows.items holds.numbered i j q hi hj;
    forks = λ j n f h some most. earlier j n f h some most;
    listed = λ q a h. listed_by q a (spot tree q) refl (sym (at_is s tree q) ∙ h);
  }
