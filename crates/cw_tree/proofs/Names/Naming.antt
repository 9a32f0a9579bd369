-- The name of a strand goes on from that of the strand that forked it.
use Rattle.std.proofs.Common.{◌≡◌, ℕ, ◌<◌, List, [], ◌∷◌, ◌++◌, length, map, ap, sym, ◌∙◌, arith, true, false, cond, inl, inr, reverse}
use Rattle.std.specs.Prelude.{◌⊎◌, nat_lt}
use Rattle.std.proofs.lemmas.Bool.{cases_Bool, lt-ltb, and_from, and_right}
use Rattle.std.proofs.lemmas.Grind.{reverse_onto}
use Rattle.cw_tree.specs.declared.node.Node.{Node}
use Rattle.cw_tree.specs.Nodes.{parent_of, is_strand}
use Rattle.cw_tree.specs.Walks.{IsRooted}
use Rattle.cw_tree.specs.Series.{strand_of}
use Rattle.cw_tree.specs.Names.{turn, strands_on, name_of}
use Rattle.cw_tree.proofs.Walks.Climbs.{by_parent}
use Rattle.cw_tree.proofs.Walks.Strands.{strand_of_root, strand_of_strand, strand_of_other}
use Rattle.cw_tree.proofs.Names.Turns.{strands_step}

module _ (t : List Node) (r : IsRooted t) where
  pub on_strand : (n : ℕ) → 0 < n → n < length t → is_strand t n ≡ true → strands_on t n ≡ n ∷ strands_on t (parent_of t n)
  on_strand n p h e = strands_step t r n p h ∙ ap (λ b. cond b (n ∷ strands_on t (parent_of t n)) (strands_on t (parent_of t n))) (and_from (nat_lt 0 n) (is_strand t n) (lt-ltb 0 n p) e)

  pub on_other : (n : ℕ) → 0 < n → n < length t → is_strand t n ≡ false → strands_on t n ≡ strands_on t (parent_of t n)
  on_other n p h e = strands_step t r n p h ∙ ap (λ b. cond b (n ∷ strands_on t (parent_of t n)) (strands_on t (parent_of t n))) (and_right (nat_lt 0 n) (is_strand t n) e)

  -- the strands on the way up from a node are those on the way up from its strand
  pub strands_of_strand : (n : ℕ) → n < length t → strands_on t n ≡ strands_on t (strand_of t n)
  strands_of_strand =
      by_parent t r (λ n. strands_on t n ≡ strands_on t (strand_of t n)) (sym (ap (strands_on t) (strand_of_root t)))
      (λ n p h more. by_kind n p h more (cases_Bool (is_strand t n))) where
        by_kind : (n : ℕ) → 0 < n → n < length t → strands_on t (parent_of t n) ≡ strands_on t (strand_of t (parent_of t n)) → (is_strand t n ≡ true) ⊎ (is_strand t n ≡ false) → strands_on t n ≡ strands_on t (strand_of t n)
        by_kind n p h more (inl e) = sym (ap (strands_on t) (strand_of_strand t r n p h e))
        by_kind n p h more (inr e) = on_other n p h e ∙ more ∙ sym (ap (strands_on t) (strand_of_other t r n p h e))

  -- the name of a strand is that of the strand that forked it, and one step
  pub name_step : (s : ℕ) → 0 < s → s < length t → is_strand t s ≡ true → name_of t s ≡ name_of t (strand_of t (parent_of t s)) ++ turn t s ∷ []
  name_step s p h e =
      let low : parent_of t s < s = r s p h in
      ap (λ ns. reverse (map (turn t) ns)) (on_strand s p h e ∙ ap (λ ns. s ∷ ns) (strands_of_strand (parent_of t s) (omega arith)))
      ∙ reverse_onto (map (turn t) (strands_on t (strand_of t (parent_of t s)))) (turn t s) []
