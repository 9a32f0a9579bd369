-- Two strands that run stand in parallel.
use Rattle.std.proofs.Common.{◌≡◌, ◌≢◌, ℕ, ◌<◌, ◌≤◌, List, length, ap, sym, ◌∙◌, arith, true, false}
use Rattle.std.proofs.lemmas.Bool.{false_from_ne_true, true_from_ne_false}
use Rattle.cw_tree.specs.declared.node.Node.{Node}
use Rattle.cw_tree.specs.Walks.{IsRooted, is_ancestor}
use Rattle.cw_tree.specs.Series.{place, parallel, strand_of}
use Rattle.cw_tree.specs.ForkCounts.{one_if}
use Rattle.cw_tree.proofs.Walks.Kin.{branch}
use Rattle.cw_tree.proofs.Walks.Ancestors.{ancestor_le}
use Rattle.cw_tree.proofs.Walks.Parting.{series_or_parallel}
use Rattle.cw_open.specs.Machine.{OpenMachine, is_running}
use Rattle.cw_open.specs.Runs.{at_any_time}
use Rattle.cw_open.specs.Open.{is_open}
use Rattle.cw_open.specs.Hands.{PlacesPart}
use Rattle.cw_open.proofs.Open.Trees.{IsWell}
use Rattle.cw_open.proofs.Open.Standing.{open_over, open_last, stands, place_open, none_open}
use Rattle.cw_open.proofs.Runs.States.{states}

module _ (m : OpenMachine) (w : IsWell m) where
  abbrev t : List Node
  t = m.tree

  r : IsRooted t
  r = w.sound.tree.rooted

  -- where a running strand stands is not above what is open elsewhere
  pub not_over : (s : ℕ) → is_running m s ≡ true → (q : ℕ) → q < length t → q ≢ place t s → is_open m q ≡ true → is_ancestor t (place t s) q ≡ false
  not_over s run q h ne open_q =
      false_from_ne_true (is_ancestor t (place t s) q) (λ e.
      let z = branch t r (place t s) q h ne e in
      let le : z.child ≤ q = ancestor_le t r z.child q h z.over in
      absurd (cc (none_open m w.sound.tree w.nested s run z.child z.some (omega arith) z.parent, open_over m w.sound.tree w.nested z.child q h z.over open_q)))

  pub places_differ : (s u : ℕ) → is_running m s ≡ true → is_running m u ≡ true → s ≢ u → place t s ≢ place t u
  places_differ s u rs ru ne e = ne (sym (stands m w.sound.tree w.nested s rs).strand ∙ ap (strand_of t) e ∙ (stands m w.sound.tree w.nested u ru).strand)

  pub places_parallel : (s u : ℕ) → is_running m s ≡ true → is_running m u ≡ true → s ≢ u → parallel t (place t s) (place t u) ≡ true
  places_parallel s u rs ru ne =
      let p = place t s in
      let q = place t u in
      let at_p = stands m w.sound.tree w.nested s rs in
      let at_q = stands m w.sound.tree w.nested u ru in
      let open_p = place_open m w.sound.tree w.nested s rs in
      let open_q = place_open m w.sound.tree w.nested u ru in
      let apart : p ≢ q = places_differ s u rs ru ne in
      true_from_ne_false (parallel t p q) (λ e.
      let one = series_or_parallel t r p q at_p.there at_q.there (not_over s rs q at_q.there (λ g. apart (sym g)) open_q) (not_over u ru p at_p.there apart open_p) in
      omega (arith, one, ap one_if e, ap one_if (open_last m w.sound.tree w.nested p q at_p.there at_q.there open_p), ap one_if (open_last m w.sound.tree w.nested q p at_q.there at_p.there open_q)))

pub places_part : PlacesPart
places_part asked first m reached s u rs ru ne = places_parallel m (states (at_any_time asked) first m reached).well s u rs ru ne
