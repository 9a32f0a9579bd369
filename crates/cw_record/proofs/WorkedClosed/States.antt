-- The states of a small closed run, node by node, in which one fork was joined.
use Rattle.std.proofs.Common.{◌≡◌, ℕ, [], ◌∷◌, length, Bool, true, false, inl, inr, ap, sym, ◌∙◌, nat_eq}
use Rattle.std.specs.Prelude.{◌⊎◌, ◌&&◌, ◌||◌, not}
use Rattle.std.proofs.lemmas.Bool.{and_parts, cases_eq, ne_eqb}
use Rattle.cw_strand.specs.Strands.{Strands, is_over}
use Rattle.cw_tree.specs.Nodes.{is_strand, is_block}
use Rattle.cw_tree.specs.Walks.{has}
use Rattle.cw_tree.specs.Series.{children}
use Rattle.cw_tree.proofs.Walks.There.{strand_there}
use Rattle.cw_tree.proofs.Worked.Checks.{all_below, each_below, implies, implied}
use Rattle.cw_open.specs.Machine.{OpenMachine, has_finished, finished_dead}
use Rattle.cw_record.specs.ClosedRun.{AreStates}
use Rattle.cw_record.proofs.WorkedEnds.Parts.{AllBelow, AllFrom, Steady, FitsAt, each, found, where_true}

module _ {A : Type 0} (s : Strands A) (m : OpenMachine) (before after reached : ℕ → A) where
  -- strand x finished, and did not die
  abbrev pub ended : ℕ → Bool
  ended x = is_strand m.tree x && has_finished m x && not (finished_dead m x)

  abbrev pub over_test : ℕ → Bool
  over_test x = implies (ended x) (is_over (s.want (reached x)))

  over_each : all_below over_test (length m.tree) ≡ true → (x : ℕ) → ended x ≡ true → is_over (s.want (reached x)) ≡ true
  over_each w x e =
      let there = strand_there m.tree x (and_parts (is_strand m.tree x) (has_finished m x) (and_parts (is_strand m.tree x && has_finished m x) (not (finished_dead m x)) e).0).0 in
      implied (ended x) (is_over (s.want (reached x))) (each_below over_test (length m.tree) w x there) e

  -- fork 1, of strands 2 and 3, was joined
  joined_one : children m.tree 1 ≡ 2 ∷ 3 ∷ [] → after 1 ≡ s.joined (reached 3) (reached 2) → (f l r : ℕ) → has (1 ∷ []) f ≡ true → children m.tree f ≡ l ∷ r ∷ [] → (f ≡ 1) ⊎ (f ≡ 1 → ⊥) → after f ≡ s.joined (reached r) (reached l)
  joined_one two behind f l r h e (inl q) =
      let same : 2 ∷ 3 ∷ [] ≡ l ∷ r ∷ [] = sym two ∙ ap (children m.tree) (sym q) ∙ e in
      let left : 2 ≡ l = cc in
      let right : 3 ≡ r = cc in
      ap after q ∙ behind ∙ ap (λ k. s.joined (reached k) (reached 2)) right ∙ ap (λ k. s.joined (reached r) (reached k)) left
  joined_one two behind f l r h e (inr ne) = absurd (let no_one : nat_eq 1 f ≡ false = ne_eqb 1 f (λ q. ne (sym q)) in let z = sym (ap (λ b. b || false) no_one) ∙ h in cc)

  pub are_states : before 0 ≡ s.start → AllBelow (Steady s m.tree before after reached) (length m.tree) → AllFrom (FitsAt s m.tree before after reached) m.tree
      → m.joined ≡ 1 ∷ [] → children m.tree 1 ≡ 2 ∷ 3 ∷ [] → after 1 ≡ s.joined (reached 3) (reached 2) → all_below over_test (length m.tree) ≡ true → AreStates s m before after reached
  are_states start steady fits one two behind over = record {
    start = start;
    series = λ n h e. where_true (is_strand m.tree n || is_block m.tree n) _ (each (Steady s m.tree before after reached) (length m.tree) steady n h) e;
    fits = found (FitsAt s m.tree before after reached) m.tree fits;
    joined = λ f l r h e d g. joined_one two behind f l r (ap (λ fs. has fs f) (sym one) ∙ h) e (cases_eq f 1);
    over = over_each over;
  }
