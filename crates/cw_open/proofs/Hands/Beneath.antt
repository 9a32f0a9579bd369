-- What is beneath the place of a running strand is its own, or beneath a fork that it made there and that was joined.
use Rattle.std.proofs.Common.{◌≡◌, ℕ, ◌<◌, List, length, ap, sym, ◌∙◌, arith, true, false, inl, inr}
use Rattle.std.specs.Prelude.{◌⊎◌, ◌&&◌}
use Rattle.std.proofs.lemmas.Bool.{and_parts, and_from, cases_eq, cases_Bool}
use Rattle.cw_tree.specs.declared.node.Node.{Node}
use Rattle.cw_tree.specs.Nodes.{parent_of, is_strand, is_fork}
use Rattle.cw_tree.specs.Walks.{IsRooted, has, is_ancestor, is_above}
use Rattle.cw_tree.specs.Series.{strand_of, place}
use Rattle.cw_tree.proofs.Walks.Climbs.{by_parent}
use Rattle.cw_tree.proofs.Walks.Ancestors.{ancestor_self, ancestor_above, above_ancestor, above_parent}
use Rattle.cw_tree.proofs.Walks.Strands.{strand_of_other}
use Rattle.cw_tree.proofs.NextNodes.Before.{above_less}
use Rattle.cw_tree.proofs.NextNodes.Trees.{no_fork}
use Rattle.cw_open.specs.Machine.{OpenMachine, is_running}
use Rattle.cw_open.specs.Runs.{at_any_time}
use Rattle.cw_open.specs.Hands.{BeneathIsOwn}
use Rattle.cw_open.proofs.Open.Trees.{IsWell}
use Rattle.cw_open.proofs.Open.Standing.{stands, runs, place_holds}
use Rattle.cw_open.proofs.Runs.States.{states}

module _ (m : OpenMachine) (w : IsWell m) (s : ℕ) (running : is_running m s ≡ true) where
  abbrev t : List Node
  t = m.tree

  abbrev p : ℕ
  p = place t s

  r : IsRooted t
  r = w.sound.tree.rooted

  no_fork_there : is_fork t p ≡ false
  no_fork_there = no_fork t p (place_holds m w.sound.tree w.nested s running)

  abbrev Own : ℕ → Type 0
  Own n = (strand_of t n ≡ s) ⊎ ((f : ℕ) × (strand_of t f ≡ s) × ((is_fork t f && has m.joined f && is_above t p f && is_above t f n) ≡ true))

  -- what stands in its own node is its own, or stands in a fork that was joined
  in_own : (n : ℕ) → 0 < n → n < length t → strand_of t (parent_of t n) ≡ s → (parent_of t n ≡ p) ⊎ (is_above t p (parent_of t n) ≡ true) → Own n
  in_own n some h own place = elim (cases_Bool (is_strand t n)) [
    | inr plain ↦ inl (strand_of_other t r n some h plain ∙ own)
    | inl strand ↦ (
        let q = parent_of t n in
        let fork : is_fork t q ≡ true = w.sound.tree.strands n h some strand in
        elim place [
          | inl e ↦ absurd (cc (no_fork_there, fork, ap (is_fork t) e))
          | inr over ↦ inr (
            q,
            own,
            and_from (is_fork t q && has m.joined q && is_above t p q) (is_above t q n)
                (and_from (is_fork t q && has m.joined q) (is_above t p q) (and_from (is_fork t q) (has m.joined q) fork ((runs m w.sound.tree w.nested s running).waits_for_none q fork own)) over)
                (above_parent t r q n some h ∙ ancestor_self t q),
          )
        ])
  ]

  pub beneath_own : (n : ℕ) → n < length t → is_above t p n ≡ true → Own n
  beneath_own =
      by_parent t r (λ n. is_above t p n ≡ true → Own n) (λ e. absurd (let at = stands m w.sound.tree w.nested s running in let less = above_less t r p 0 (let h = at.there in omega arith) e in omega arith))
      (λ n some h more e.
      let up : is_ancestor t p (parent_of t n) ≡ true = sym (above_parent t r p n some h) ∙ e in
      elim (cases_eq (parent_of t n) p) [
        | inl same ↦ in_own n some h (ap (strand_of t) same ∙ (stands m w.sound.tree w.nested s running).strand) (inl same)
        | inr ne ↦ (
            let over : is_above t p (parent_of t n) ≡ true = sym (ancestor_above t p (parent_of t n) ne) ∙ up in
            elim (more over) [
              | inl own ↦ in_own n some h own (inr over)
              | inr z ↦ (
                  let f = z.0 in
                  let y = and_parts (is_fork t f && has m.joined f && is_above t p f) (is_above t f (parent_of t n)) z.2 in
                  inr (f, z.1, and_from (is_fork t f && has m.joined f && is_above t p f) (is_above t f n) y.0 (above_parent t r f n some h ∙ above_ancestor t f (parent_of t n) y.1)))
            ])
      ])

pub beneath_is_own : BeneathIsOwn
beneath_is_own asked first m reached s n running h e = beneath_own m (states (at_any_time asked) first m reached).well s running n h e
