-- The strand of a fork that was not joined stands at the node in which the fork is, and the fork is the last there.
use Rattle.std.proofs.Common.{◌≡◌, ◌≢◌, ℕ, ◌<◌, List, [], ◌∷◌, ◌++◌, length, refl, ap, sym, ◌∙◌, arith, Bool, true, false, inl, inr, nat_eq, nat_lt}
use Rattle.std.specs.Prelude.{◌||◌, filter}
use Rattle.std.proofs.lemmas.Bool.{and_parts, and_from, or_cases, cases_Bool, cases_eq, eq-eqb, eqb-true, lt-ltb, false_from_ne_true}
use Rattle.cw_tree.specs.declared.node.Node.{Node}
use Rattle.cw_tree.specs.Nodes.{parent_of, is_strand, is_fork, is_block, is_pending, below}
use Rattle.cw_tree.specs.Walks.{has, is_ancestor}
use Rattle.cw_tree.specs.Series.{strand_of, children, place}
use Rattle.cw_tree.specs.ForkCounts.{one_if}
use Rattle.cw_tree.specs.Shape.{IsTree}
use Rattle.cw_tree.proofs.Walks.Ancestors.{ancestor_le, ancestor_step}
use Rattle.cw_tree.proofs.Walks.Kin.{branch, fork_child}
use Rattle.cw_tree.proofs.Members.{below_last}
use Rattle.cw_tree.proofs.NextNodes.Trees.{is_child}
use Rattle.cw_tree.proofs.Walks.Parting.{series_or_parallel}
use Rattle.cw_tree.proofs.Walks.Strands.{strand_of_le, strand_of_other, strand_innermost, strand_itself}
use Rattle.cw_tree.proofs.Walks.There.{pending_there, fork_there as fork_low}
use Rattle.cw_tree.proofs.NodeKinds.{fork_no_strand, fork_no_block, pending_block}
use Rattle.cw_open.specs.Machine.{OpenMachine}
use Rattle.cw_open.specs.Open.{is_open}
use Rattle.cw_open.proofs.Laws.Named.{strand_is}
use Rattle.cw_open.proofs.Open.Standing.{pending_open, open_block, open_last}
use Rattle.cw_open.proofs.Open.Trees.{IsWell}
use Rattle.cw_open.proofs.Open.Kinds.{unjoined_open}
use Rattle.cw_core.proofs.Events.OneFork.{not_parallel}
use Rattle.cw_core.proofs.Events.Places.{place_is}

module _ (m : OpenMachine) (w : IsWell m) (f : ℕ) (fork : is_fork m.tree f ≡ true) (unjoined : has m.joined f ≡ false) where
  abbrev t : List Node
  t = m.tree

  abbrev p : ℕ
  p = parent_of t f

  abbrev o : ℕ
  o = strand_of t f

  shape : IsTree t
  shape = w.sound.tree

  pub fork_there : f < length t
  fork_there = fork_low t f fork

  pub fork_some : 0 < f
  fork_some = elim (cases_eq f 0) [
    | inl e ↦ absurd (let root = shape.root in let no = fork_no_strand t f fork in cc (root, no, ap (is_strand t) e))
    | inr ne ↦ omega (arith, ne)
  ]

  pub above_low : p < f
  above_low = shape.rooted f fork_some fork_there

  fork_open : is_open m f ≡ true
  fork_open = unjoined_open m f fork unjoined

  pub above_open : is_open m p ≡ true
  above_open = w.nested.outer f fork_some fork_there fork_open

  pub above_no_fork : is_fork t p ≡ false
  above_no_fork = false_from_ne_true (is_fork t p) (λ e. absurd (let a = fork_child t shape f fork_some fork_there e in let no = fork_no_strand t f fork in cc (a, no)))

  pub above_holds : (is_strand t p || is_block t p) ≡ true
  above_holds = by (is_strand t p) (is_fork t p) (is_block t p) above_no_fork (shape.parents f fork_there fork_some) where
    by : (i j k : Bool) → j ≡ false → (i || j || k) ≡ true → (i || k) ≡ true
    by true j k e g = refl
    by false true k e g = absurd (cc e)
    by false false k e g = g

  pub above_own : strand_of t p ≡ o
  above_own = sym (strand_of_other t shape.rooted f fork_some fork_there (fork_no_strand t f fork))

  pub fork_last : children t p ≡ filter (is_child t p) (below f) ++ f ∷ []
  fork_last = below_last (is_child t p) f (length t) fork_there (and_from (nat_lt 0 f) (nat_eq p p) (lt-ltb 0 f fork_some) (eq-eqb p p refl)) (λ n l h.
      false_from_ne_true (is_child t p n) (λ e.
      let up = eqb-true (parent_of t n) p (and_parts (nat_lt 0 n) (nat_eq (parent_of t n) p) e).1 in
      let shut = w.nested.last f n fork_some l h (sym up) above_no_fork in
      absurd (let opened = fork_open in cc (opened, shut))))

  -- a pending block of the strand holds the fork
  none_after : (b : ℕ) → p < b → is_pending t b ≡ true → strand_of t b ≡ o → ⊥
  none_after b more pending same = elim (cases_Bool (is_ancestor t b f)) [
    | inl over ↦
        (let up : is_ancestor t b p ≡ true = sym (ancestor_step t shape.rooted b f fork_some fork_there (λ e. ne (sym e))) ∙ over in
        let h = fork_there in
        let l = above_low in
        let le = ancestor_le t shape.rooted b p (omega arith) up in
        omega arith)
    | inr off ↦ elim (cases_Bool (is_ancestor t f b)) [
      | inl over ↦
          (let h = low in
          let z = branch t shape.rooted f b h ne over in
          let z_le = ancestor_le t shape.rooted z.child b low z.over in
          let strand = fork_child t shape z.child z.some (omega arith) (ap (is_fork t) z.parent ∙ fork) in
          let inner = strand_innermost t shape.rooted z.child strand b low z.over in
          let up : parent_of t z.child < z.child = shape.rooted z.child z.some (omega arith) in
          let le = strand_of_le t shape.rooted f fork_there in
          let e = z.parent in
          omega (arith, same, inner, up, le, e))
      | inr back ↦
          (let sum = series_or_parallel t shape.rooted b f low fork_there off back in
          let one = ap one_if (open_last m shape w.nested b f low fork_there (pending_open m shape w.nested b pending)) in
          let two = ap one_if (open_last m shape w.nested f b fork_there low fork_open) in
          let par = ap one_if (not_parallel t shape b f low fork_there off same) in
          omega (arith, sum, one, two, par))
    ]
  ] where
    low : b < length t
    low = pending_there t b pending

    ne : b ≢ f
    ne e = (let block = pending_block t b pending in let no = fork_no_block t f fork in cc (block, ap (is_block t) e, no))

  pub above_place : place t o ≡ p
  above_place = place_is t shape.rooted o p (strand_is t shape.root f) (record {
    there = (let h = fork_there in let l = above_low in omega arith);
    strand = above_own;
    kind = elim (or_cases (is_strand t p) (is_block t p) above_holds) [
      | inl e ↦ inl (sym (strand_itself t shape.rooted p e) ∙ above_own)
      | inr e ↦ inr (open_block m shape w.nested p e above_open)
    ];
    last = none_after;
  })
