-- Places and waits, as the tree grows.
use Rattle.std.proofs.Common.{◌≡◌, ℕ, zero, suc, ◌<◌, ◌≤◌, List, [], ◌∷◌, ◌++◌, length, refl, ap, sym, ◌∙◌, arith, Bool, true, false, cond, Some, nat_eq, inl, inr, length-append}
use Rattle.std.specs.Prelude.{◌&&◌, ◌||◌, not, unwrap_or}
use Rattle.std.specs.List.{list_any}
use Rattle.std.proofs.lemmas.List.Folds.{list_any-append}
use Rattle.std.proofs.lemmas.Bool.{and_from, and_left, cases_lt, cases_eq, eq-eqb}
use Rattle.cw_tree.specs.declared.node.Node.{Node}
use Rattle.cw_tree.specs.Nodes.{is_fork_kind, is_block_kind, is_pending_state, is_strand, is_fork, is_pending, all_nodes, below, last_below}
use Rattle.cw_tree.specs.Walks.{IsRooted, has}
use Rattle.cw_tree.specs.Series.{strand_of, place}
use Rattle.cw_tree.proofs.Lists.{any_from}
use Rattle.cw_tree.proofs.Members.{any_same, in_below, below_in}
use Rattle.cw_tree.proofs.NextNodes.Growing.{node_grown, strand_of_grown}
use Rattle.cw_tree.proofs.LastBelow.{last_past, last_same}
use Rattle.cw_open.specs.Machine.{OpenMachine, waits}
use Rattle.cw_open.proofs.Open.Standing.{StandsAt, is_begun_in, stands_at}

-- ## Tests of the numbers below another

pub any_pass : (p q : ℕ → Bool) (k n : ℕ) → k ≤ n → ((m : ℕ) → m < k → p m ≡ q m) → ((m : ℕ) → k ≤ m → m < n → p m ≡ false) → list_any p (below n) ≡ list_any q (below k)
any_pass p q k n le same none = past n le none ∙ any_same p q (below k) (λ v i. same v (in_below v k i)) where
  past : (n : ℕ) → k ≤ n → ((m : ℕ) → k ≤ m → m < n → p m ≡ false) → list_any p (below n) ≡ list_any p (below k)
  past zero le f = let e : zero ≡ k = omega arith in ap (λ j. list_any p (below j)) e
  past (suc n) le f =
      elim (cases_lt n k) [
        | inl h ↦ (let e : suc n ≡ k = omega arith in ap (λ j. list_any p (below j)) e)
        | inr h ↦
            list_any-append p (below n) (n ∷ [])
            ∙ ap (λ b. list_any p (below n) || (b || false)) (f n h (omega arith))
            ∙ or_false (list_any p (below n))
            ∙ past n h (λ m a b. f m a (omega arith))
      ] where
        or_false : (b : Bool) → (b || false) ≡ b
        or_false true = refl
        or_false false = refl

-- ## Places

-- a strand stands at one place
pub place_is : (t : List Node) → IsRooted t → (s p : ℕ) → is_strand t s ≡ true → StandsAt t s p → place t s ≡ p
place_is t r s p strand at =
    let own = stands_at t r s strand in
    let q = place t s in
    elim (cases_lt q p) [
      | inl less ↦ absurd (at_later q p less own at)
      | inr ge ↦ elim (cases_eq q p) [ inl e ↦ e | inr ne ↦ absurd (at_later p q (omega arith) at own) ]
    ] where
      at_later : (a b : ℕ) → a < b → StandsAt t s a → StandsAt t s b → ⊥
      at_later a b less x y = elim y.kind [
        | inl e ↦ absurd (let h = a_over a x in omega (arith, e))
        | inr pending ↦ x.last b less pending y.strand
      ] where
        a_over : (a : ℕ) → StandsAt t s a → s ≤ a
        a_over a x = let h = Rattle.cw_tree.proofs.Walks.Strands.strand_of_le t r a x.there in omega (arith, x.strand)

module _ (t xs : List Node) (r : IsRooted t) where
  abbrev u : List Node
  u = t ++ xs

  longer : length t ≤ length u
  longer = omega (arith, length-append t xs)

  begun_same : (s m : ℕ) → m < length t → is_begun_in u s m ≡ is_begun_in t s m
  begun_same s m h =
      ap (λ b. b && nat_eq (strand_of u m) s) (node_grown t xs (λ y. is_block_kind y.kind && is_pending_state y.state) m h)
      ∙ ap (λ n. is_pending t m && nat_eq n s) (strand_of_grown t xs r m h)

  -- no new node is a pending block of the strand
  pub place_grown : (s : ℕ) → ((m : ℕ) → length t ≤ m → m < length u → is_begun_in u s m ≡ false) → place u s ≡ place t s
  place_grown s none = ap (λ o. unwrap_or o s) (last_past (is_begun_in u s) (length t) (length u) longer none ∙ last_same (is_begun_in u s) (is_begun_in t s) (length t) (begun_same s))

  -- a pending block of the strand comes last
  pub place_begun : (s b : ℕ) → length u ≡ suc b → is_begun_in u s b ≡ true → place u s ≡ b
  place_begun s b len e = ap (λ n. unwrap_or (last_below (is_begun_in u s) n) s) len ∙ ap (λ z. unwrap_or (cond z (Some b) (last_below (is_begun_in u s) b)) s) e

  module _ (m z : OpenMachine) (tm : m.tree ≡ t) (tz : z.tree ≡ u) (same : z.joined ≡ m.joined) where
    abbrev test : OpenMachine → List Node → ℕ → ℕ → Bool
    test m t s f = is_fork t f && nat_eq (strand_of t f) s && not (has m.joined f)

    pub waits_grown : (s : ℕ) → ((f : ℕ) → length t ≤ f → f < length u → (is_fork u f && nat_eq (strand_of u f) s) ≡ false) → waits z s ≡ waits m s
    waits_grown s none =
        ap (λ t. list_any (test z t s) (all_nodes t)) tz
        ∙ any_pass (test z u s) (test m t s) (length t) (length u) longer
        (λ f h.
        ap (λ b. b && nat_eq (strand_of u f) s && not (has z.joined f)) (node_grown t xs (λ y. is_fork_kind y.kind) f h)
        ∙ ap (λ n. is_fork t f && nat_eq n s && not (has z.joined f)) (strand_of_grown t xs r f h)
        ∙ ap (λ js. is_fork t f && nat_eq (strand_of t f) s && not (has js f)) same)
        (λ f a b. and_left (is_fork u f && nat_eq (strand_of u f) s) (not (has z.joined f)) (none f a b))
        ∙ ap (λ t. list_any (test m t s) (all_nodes t)) (sym tm)

-- a strand waits where a fork of it was not joined
pub waits_for : (m : OpenMachine) (s f : ℕ) → f < length m.tree → is_fork m.tree f ≡ true → strand_of m.tree f ≡ s → has m.joined f ≡ false → waits m s ≡ true
waits_for m s f h fork own off =
    any_from (λ f. is_fork m.tree f && nat_eq (strand_of m.tree f) s && not (has m.joined f)) f (all_nodes m.tree) (below_in f (length m.tree) h)
    (and_from (is_fork m.tree f && nat_eq (strand_of m.tree f) s) (not (has m.joined f)) (and_from (is_fork m.tree f) (nat_eq (strand_of m.tree f) s) fork (eq-eqb (strand_of m.tree f) s own)) (Rattle.std.proofs.lemmas.Bool.not_from_false (has m.joined f) off))
