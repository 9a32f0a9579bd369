-- How many blocks are begun and not ended in each node of a tree: in its strand; then, where that is the right one of its fork, in the strand
-- that forked; and so on.
use Rattle.std.proofs.Common.{◌≡◌, ℕ, zero, suc, ◌<◌, ◌≤◌, List, [], ◌∷◌, length, refl, ap, ◌∙◌, arith, Bool, true, false, cond, inl, inr, nat_eq}
use Rattle.std.proofs.lemmas.Bool.{cases_eq, eq-eqb, ne_eqb}
use Rattle.cw_strand.specs.declared.want.Want.TheVariants.{Begin}
use Rattle.cw_strand.specs.Strands.{own_after}
use Rattle.cw_tree.specs.declared.node.Node.{Node}
use Rattle.cw_tree.specs.Nodes.{parent_of, is_strand, is_block}
use Rattle.cw_tree.specs.Walks.{IsRooted}
use Rattle.cw_tree.proofs.Walks.Climbs.{by_parent}
use Rattle.cw_sim.specs.Workers.{left_node}

-- The numbers in a node, by those around it: a strand begins none itself, and has those around it where it is a right one; a block is begun.
abbrev pub levels_by : (strand left block : Bool) → List ℕ → List ℕ
levels_by strand left block around = cond strand (0 ∷ cond left [] around) (cond block (own_after Begin around) around)

abbrev pub levels_in : List Node → ℕ → List ℕ → List ℕ
levels_in t n = levels_by (is_strand t n) (nat_eq n (left_node (parent_of t n))) (is_block t n)

abbrev pub levels_to : List Node → (k n : ℕ) → List ℕ
levels_to t zero n = 0 ∷ []
levels_to t (suc k) zero = 0 ∷ []
levels_to t (suc k) (suc n) = levels_in t (suc n) (levels_to t k (parent_of t (suc n)))

abbrev pub levels : List Node → ℕ → List ℕ
levels t n = levels_to t n n

-- the first of these numbers, and the others
pub record Begins (own : List ℕ) : Type 0 where
  pub head : ℕ
  pub rest : List ℕ
  pub is : own ≡ head ∷ rest

begins_by : (strand left block : Bool) (b : ℕ) (bs : List ℕ) → Begins (levels_by strand left block (b ∷ bs))
begins_by true left block b bs = record { head = 0; rest = cond left [] (b ∷ bs); is = refl }
begins_by false left true b bs = record { head = suc b; rest = bs; is = refl }
begins_by false left false b bs = record { head = b; rest = bs; is = refl }

module _ (t : List Node) (r : IsRooted t) where
  -- as many steps as there are numbers below n are enough
  enough : (k j n : ℕ) → n < length t → n ≤ k → n ≤ j → levels_to t k n ≡ levels_to t j n
  enough zero zero n b h g = refl
  enough zero (suc j) zero b h g = refl
  enough zero (suc j) (suc n) b h g = absurd (omega arith)
  enough (suc k) zero zero b h g = refl
  enough (suc k) zero (suc n) b h g = absurd (omega arith)
  enough (suc k) (suc j) zero b h g = refl
  enough (suc k) (suc j) (suc n) b h g =
      let low : parent_of t (suc n) < suc n = r (suc n) (omega arith) b in
      ap (levels_in t (suc n)) (enough k j (parent_of t (suc n)) (omega arith) (omega arith) (omega arith))

  -- the numbers in a node come of those in its parent
  pub levels_step : (n : ℕ) → 0 < n → n < length t → levels t n ≡ levels_in t n (levels t (parent_of t n))
  levels_step zero some h = absurd (omega arith)
  levels_step (suc n) some h =
      let low : parent_of t (suc n) < suc n = r (suc n) some h in
      ap (levels_in t (suc n)) (enough n (parent_of t (suc n)) (parent_of t (suc n)) (omega arith) (omega arith) (omega arith))

  module _ (n : ℕ) (some : 0 < n) (low : n < length t) where
    abbrev around : List ℕ
    around = levels t (parent_of t n)

    abbrev left : Bool
    left = nat_eq n (left_node (parent_of t n))

    pub levels_strand : is_strand t n ≡ true → levels t n ≡ 0 ∷ cond left [] around
    levels_strand strand = levels_step n some low ∙ ap (λ b. levels_by b left (is_block t n) around) strand

    pub levels_left : is_strand t n ≡ true → n ≡ left_node (parent_of t n) → levels t n ≡ 0 ∷ []
    levels_left strand is = levels_strand strand ∙ ap (λ b. 0 ∷ cond b [] around) (eq-eqb n (left_node (parent_of t n)) is)

    pub levels_right : is_strand t n ≡ true → (n ≡ left_node (parent_of t n) → ⊥) → levels t n ≡ 0 ∷ around
    levels_right strand is = levels_strand strand ∙ ap (λ b. 0 ∷ cond b [] around) (ne_eqb n (left_node (parent_of t n)) is)

    pub levels_other : is_strand t n ≡ false → is_block t n ≡ false → levels t n ≡ around
    levels_other strand block = levels_step n some low ∙ ap (λ b. levels_by b left (is_block t n) around) strand ∙ ap (λ b. levels_by false left b around) block

    pub levels_block : is_strand t n ≡ false → is_block t n ≡ true → levels t n ≡ own_after Begin around
    levels_block strand block = levels_step n some low ∙ ap (λ b. levels_by b left (is_block t n) around) strand ∙ ap (λ b. levels_by false left b around) block

  -- there is one number at least
  pub some_levels : (n : ℕ) → n < length t → Begins (levels t n)
  some_levels =
      by_parent t r (λ n. Begins (levels t n)) (record { head = 0; rest = []; is = refl })
      (λ n some low more.
      let here = begins_by (is_strand t n) (nat_eq n (left_node (parent_of t n))) (is_block t n) more.head more.rest in
      record { head = here.head; rest = here.rest; is = levels_step n some low ∙ ap (levels_in t n) more.is ∙ here.is })

  -- a strand has begun none where it begins
  pub strand_levels : (n : ℕ) → n < length t → is_strand t n ≡ true → (bs : List ℕ) × (levels t n ≡ 0 ∷ bs)
  strand_levels n low strand =
      elim (cases_eq n 0) [
        | inl root ↦ (let bs : List ℕ = [] in (bs, ap (levels t) root))
        | inr ne ↦ (cond (nat_eq n (left_node (parent_of t n))) [] (levels t (parent_of t n)), levels_strand n (omega arith) low strand)
      ]

  -- in a block one is begun at least
  pub block_levels : (n : ℕ) → 0 < n → n < length t → is_strand t n ≡ false → is_block t n ≡ true → (b : ℕ) × (bs : List ℕ) × (levels t n ≡ suc b ∷ bs)
  block_levels n some low strand block =
      let there : parent_of t n < n = r n some low in
      let up = some_levels (parent_of t n) (omega arith) in
      (up.head, up.rest, levels_block n some low strand block ∙ ap (own_after Begin) up.is)
