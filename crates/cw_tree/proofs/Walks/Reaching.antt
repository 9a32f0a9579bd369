-- What the way up from a node meets before a strand or a block that was rolled back.
use Rattle.std.proofs.Common.{◌≡◌, ℕ, ◌<◌, ◌≤◌, List, [], ◌∷◌, length, refl, ap, sym, ◌∙◌, arith, Bool, true, false, cond, inl, inr, subst}
use Rattle.std.specs.Prelude.{◌&&◌, ◌||◌, take_while}
use Rattle.std.specs.List.{list_any}
use Rattle.std.proofs.lemmas.List.Sums.{take_while-cons}
use Rattle.std.proofs.lemmas.Bool.{and_parts, and_from, or_cases, or_left, or_right, cases_eq}
use Rattle.cw_tree.specs.declared.node.Node.{Node}
use Rattle.cw_tree.specs.Nodes.{parent_of}
use Rattle.cw_tree.specs.Walks.{IsRooted, path, is_ancestor}
use Rattle.cw_tree.specs.ForkCounts.{lets_out}
use Rattle.cw_tree.proofs.Walks.Climbs.{path_step, by_parent}
use Rattle.cw_tree.proofs.Walks.Ancestors.{ancestor_self, ancestor_root, ancestor_step, ancestor_up, ancestor_le}

-- one of these nodes passes, and it and those before it are open
abbrev pub reaches_in : List Node → (ℕ → Bool) → List ℕ → Bool
reaches_in t w [] = false
reaches_in t w (m ∷ ms) = lets_out t m && (w m || reaches_in t w ms)

abbrev pub reaches : List Node → (ℕ → Bool) → ℕ → Bool
reaches t w g = reaches_in t w (path t g)

reaches_cons : (t : List Node) (w : ℕ → Bool) (m : ℕ) (ms : List ℕ) → list_any w (take_while (lets_out t) ms) ≡ reaches_in t w ms → list_any w (take_while (lets_out t) (m ∷ ms)) ≡ reaches_in t w (m ∷ ms)
reaches_cons t w m ms more =
    ap (list_any w) (take_while-cons (lets_out t) m ms) ∙ by_case (lets_out t m) where
      by_case : (b : Bool) → list_any w (cond b (m ∷ take_while (lets_out t) ms) []) ≡ (b && (w m || reaches_in t w ms))
      by_case true = ap (λ b. w m || b) more
      by_case false = refl

pub reaches_list : (t : List Node) (w : ℕ → Bool) (ns : List ℕ) → list_any w (take_while (lets_out t) ns) ≡ reaches_in t w ns
reaches_list t w [] = refl
reaches_list t w (m ∷ ms) = reaches_cons t w m ms (reaches_list t w ms)

-- the node that was reached from g
pub record Reached (t : List Node) (w : ℕ → Bool) (g : ℕ) : Type 0 where
  pub node : ℕ
  pub over : is_ancestor t node g ≡ true
  pub passes : w node ≡ true
  pub opened : (m : ℕ) → is_ancestor t m g ≡ true → node ≤ m → lets_out t m ≡ true

module _ (t : List Node) (r : IsRooted t) (w : ℕ → Bool) where
  step : (g : ℕ) → 0 < g → g < length t → reaches t w g ≡ (lets_out t g && (w g || reaches t w (parent_of t g)))
  step g p h = ap (reaches_in t w) (path_step t r g p h)

  pub reached : (g : ℕ) → g < length t → reaches t w g ≡ true → Reached t w g
  reached =
      by_parent t r (λ g. reaches t w g ≡ true → Reached t w g)
      (λ e.
      let z = and_parts (lets_out t 0) (w 0 || false) e in
      let P : ℕ → Type 0 = λ m. lets_out t m ≡ true in
      record { node = 0; over = refl; passes = elim (or_cases (w 0) false z.1) [ inl q ↦ q | inr q ↦ absurd (cc q) ]; opened = λ m a le. subst P (sym (ancestor_root t m a)) z.0 })
      (λ g p h more e.
      let z = and_parts (lets_out t g) (w g || reaches t w (parent_of t g)) (sym (step g p h) ∙ e) in
      elim (or_cases (w g) (reaches t w (parent_of t g)) z.1) [ inl q ↦ here g h z.0 q | inr q ↦ further g p h z.0 (more q) ]) where
        here : (g : ℕ) → g < length t → lets_out t g ≡ true → w g ≡ true → Reached t w g
        here g h o q = record {
          node = g;
          over = ancestor_self t g;
          passes = q;
          opened = λ m a le. (let e : g ≡ m = let low : m ≤ g = ancestor_le t r m g h a in omega arith in let P : ℕ → Type 0 = λ m. lets_out t m ≡ true in subst P e o);
        }

        further : (g : ℕ) → 0 < g → g < length t → lets_out t g ≡ true → Reached t w (parent_of t g) → Reached t w g
        further g p h o s = record {
          node = s.node;
          over = ancestor_up t r s.node g p h s.over;
          passes = s.passes;
          opened = λ m a le. elim (cases_eq g m) [
            | inl e ↦ (let P : ℕ → Type 0 = λ m. lets_out t m ≡ true in subst P e o)
            | inr ne ↦ s.opened m (sym (ancestor_step t r m g p h ne) ∙ a) le
          ];
        }

  pub reaches_from : (g : ℕ) → g < length t → Reached t w g → reaches t w g ≡ true
  reaches_from =
      by_parent t r (λ g. Reached t w g → reaches t w g ≡ true)
      (λ s.
      let e = ancestor_root t s.node s.over in
      let P : ℕ → Type 0 = λ m. w m ≡ true in
      and_from (lets_out t 0) (w 0 || false) (s.opened 0 refl (omega (arith, e))) (or_left (w 0) false (subst P e s.passes)))
      (λ g p h more s.
      let le : s.node ≤ g = ancestor_le t r s.node g h s.over in
      step g p h
      ∙ and_from (lets_out t g) (w g || reaches t w (parent_of t g)) (s.opened g (ancestor_self t g) le)
      (elim (cases_eq g s.node) [
        | inl e ↦ or_left (w g) (reaches t w (parent_of t g)) (let P : ℕ → Type 0 = λ m. w m ≡ true in subst P (sym e) s.passes)
        | inr ne ↦
            or_right (w g) (reaches t w (parent_of t g)) (more (record {
              node = s.node;
              over = sym (ancestor_step t r s.node g p h ne) ∙ s.over;
              passes = s.passes;
              opened = λ m a le. s.opened m (ancestor_up t r m g p h a) le;
            }))
      ]))
