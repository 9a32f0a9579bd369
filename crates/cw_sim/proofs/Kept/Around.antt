-- What a fork is that waits around a strand.
use Rattle.std.proofs.Common.{◌≡◌, ℕ, zero, suc, ◌<◌, List, [], ◌∷◌, ◌++◌, length, refl, ap, sym, ◌∙◌, subst, arith, Bool, true, false, inl, inr}
use Rattle.std.specs.Prelude.{◌⊎◌}
use Rattle.cw_tree.specs.declared.node.Node.{Node}
use Rattle.cw_tree.specs.Nodes.{is_strand_kind, parent_of, is_strand, is_fork}
use Rattle.cw_tree.specs.Walks.{is_ancestor}
use Rattle.cw_tree.specs.Series.{strand_of}
use Rattle.cw_tree.specs.Shape.{IsTree}
use Rattle.cw_tree.proofs.Walks.Ancestors.{ancestor_self, ancestor_up, ancestor_trans}
use Rattle.cw_tree.proofs.Walks.Strands.{strand_of_le, strand_over}
use Rattle.cw_tree.proofs.Walks.There.{node_there}
use Rattle.cw_trace.proofs.Segments.Lines.{strong}
use Rattle.cw_open.proofs.Laws.Named.{strand_is}
use Rattle.cw_core.specs.State.{CoreState, is_split}
use Rattle.cw_sim.specs.Workers.{left_node, right_node}
use Rattle.cw_sim.specs.Kept.{forks_around}
use Rattle.cw_sim.proofs.Kept.Ways.{around_split, around_left, around_right}
use Rattle.cw_sim.proofs.Kept.Halves.{AsMade, which}

-- where a list with one more at its end has an element, that is the last, or in the list
pub at_end : (xs fs gs : List ℕ) (g f : ℕ) → xs ++ g ∷ [] ≡ fs ++ f ∷ gs → ((xs ≡ fs) × (g ≡ f) × (gs ≡ [])) ⊎ ((hs : List ℕ) × (xs ≡ fs ++ f ∷ hs))
at_end [] [] gs g f e = inl (refl, cc, cc)
at_end [] (x ∷ []) gs g f e = absurd (cc e)
at_end [] (x ∷ y ∷ fs) gs g f e = absurd (cc e)
at_end (a ∷ xs) [] gs g f e = let q : a ≡ f = cc in inr (xs, ap (λ x. x ∷ xs) q)
at_end (a ∷ xs) (x ∷ fs) gs g f e =
    let q : a ≡ x = cc in
    elim (at_end xs fs gs g f (cc)) [
      | inl z ↦ inl ((let one = z.0 in cc), z.1, z.2)
      | inr z ↦ inr (z.0, (let one = z.1 in cc))
    ]

-- the fork f waits around strand x, and these further out
pub record Waits (k : CoreState) (x f : ℕ) (fs : List ℕ) : Type 0 where
  pub fork : is_fork k.machine.tree f ≡ true
  pub split : is_split k f ≡ false
  pub outer : forks_around k (strand_of k.machine.tree f) ≡ fs
  pub over : is_ancestor k.machine.tree (left_node f) x ≡ true

module _ (k : CoreState) (tree : IsTree k.machine.tree) (made : AsMade k.machine.tree) where
  abbrev t : List Node
  t = k.machine.tree

  -- a strand is beneath the strand that forked it
  up_to : (x : ℕ) → 0 < x → x < length t → is_ancestor t (strand_of t (parent_of t x)) x ≡ true
  up_to x some there = let low : parent_of t x < x = tree.rooted x some there in ancestor_up t tree.rooted (strand_of t (parent_of t x)) x some there (strand_over t tree.rooted (parent_of t x) (omega arith))

  -- each fork that waits around a strand waits so
  pub waits_around : (x : ℕ) → is_strand t x ≡ true → (fs gs : List ℕ) (f : ℕ) → forks_around k x ≡ fs ++ f ∷ gs → Waits k x f fs
  waits_around = strong (λ x. is_strand t x ≡ true → (fs gs : List ℕ) (f : ℕ) → forks_around k x ≡ fs ++ f ∷ gs → Waits k x f fs) step where
    none_at : (fs gs : List ℕ) (f : ℕ) → [] ≡ fs ++ f ∷ gs → ⊥
    none_at [] gs f e = absurd (cc e)
    none_at (x ∷ fs) gs f e = absurd (cc e)

    step : (x : ℕ) → ((y : ℕ) → y < x → is_strand t y ≡ true → (fs gs : List ℕ) (f : ℕ) → forks_around k y ≡ fs ++ f ∷ gs → Waits k y f fs) → is_strand t x ≡ true → (fs gs : List ℕ) (f : ℕ) → forks_around k x ≡ fs ++ f ∷ gs → Waits k x f fs
    step zero more strand fs gs f e = absurd (none_at fs gs f e)
    step (suc z) more strand fs gs f e = by_split (is_split k g) refl (which t tree made g fork x (omega arith) there refl) where
      x : ℕ
      x = suc z

      g : ℕ
      g = parent_of t x

      there : x < length t
      there = node_there (λ n. is_strand_kind n.kind) t x strand

      low : g < x
      low = tree.rooted x (omega arith) there

      fork : is_fork t g ≡ true
      fork = tree.strands x there (omega arith) strand

      further : (hs : List ℕ) → forks_around k (strand_of t g) ≡ fs ++ f ∷ hs → Waits k x f fs
      further hs q =
          let l : g < x = low in
          let h : x < length t = there in
          let le = strand_of_le t tree.rooted g (omega arith) in
          let w = more (strand_of t g) (omega arith) (strand_is t tree.root g) fs hs f q in
          record { fork = w.fork; split = w.split; outer = w.outer; over = ancestor_trans t tree.rooted (left_node f) (strand_of t g) x there w.over (up_to x (omega arith) there) }

      by_split : (b : Bool) → is_split k g ≡ b → (x ≡ left_node g) ⊎ (x ≡ right_node g) → Waits k x f fs
      by_split true c side = absurd (none_at fs gs f (sym (around_split k tree.rooted x (omega arith) there strand c) ∙ e))
      by_split false c (inr q) = further gs (sym (around_right k tree.rooted x (omega arith) there strand c (λ y. omega (arith, q, y))) ∙ e)
      by_split false c (inl q) = elim (at_end (forks_around k (strand_of t g)) fs gs g f (sym (around_left k tree.rooted x (omega arith) there strand c q) ∙ e)) [
        | inr y ↦ further y.0 y.1
        | inl y ↦ (
            let P : ℕ → Type 0 = λ n. (is_fork t n ≡ true) × (is_split k n ≡ false) × (forks_around k (strand_of t n) ≡ fs) × (is_ancestor t (left_node n) x ≡ true) in
            let Q : ℕ → Type 0 = λ n. is_ancestor t n x ≡ true in
            let w = subst P y.1 (fork, c, y.0, subst Q q (ancestor_self t x)) in
            record { fork = w.0; split = w.1; outer = w.2; over = w.3 })
      ]
