-- What holds of neighbours in a journal holds of each earlier and each later access.
use Rattle.std.proofs.Common.{ℕ, ◌<◌, List, [], ◌∷◌, sym, arith, inl, inr, subst}
use Rattle.std.specs.Prelude.{◌&&◌, not}
use Rattle.std.proofs.lemmas.Bool.{and_parts, and_from, not_from_false, cases_Bool}
use Rattle.cw_tree.specs.declared.node.Node.{Node}
use Rattle.cw_tree.specs.Nodes.{stamp_of, is_block}
use Rattle.cw_tree.specs.Walks.{is_above}
use Rattle.cw_tree.specs.Journals.{EndedBetween, AllEndedBetween}
use Rattle.cw_tree.proofs.Lists.{In}
use Rattle.cw_tree.proofs.Ahead.{Ahead}

module _ (t : List Node) where
  -- stamps rise
  abbrev pub StampsRise : List ℕ → Type 0
  StampsRise [] = Unit {0}
  StampsRise (u ∷ []) = Unit {0}
  StampsRise (u ∷ v ∷ us) = (stamp_of t u < stamp_of t v) × StampsRise (v ∷ us)

  later_stamp : (u : ℕ) (us : List ℕ) → StampsRise (u ∷ us) → (v : ℕ) → In v us → stamp_of t u < stamp_of t v
  later_stamp u [] r v h = absurd h
  later_stamp u (x ∷ xs) r v (inl q) = let P : ℕ → Type 0 = λ z. stamp_of t u < stamp_of t z in subst P (sym q) r.0
  later_stamp u (x ∷ xs) r v (inr h) = let l : stamp_of t x < stamp_of t v = later_stamp x xs r.1 v h in omega (arith, r.0)

  later_ended : (u : ℕ) (us : List ℕ) → AllEndedBetween t (u ∷ us) → StampsRise (u ∷ us) → (v : ℕ) → In v us → EndedBetween t u v
  later_ended u [] c r v h = absurd h
  later_ended u (x ∷ xs) c r v (inl q) = let P : ℕ → Type 0 = λ z. EndedBetween t u z in subst P (sym q) c.0
  later_ended u (x ∷ xs) c r v (inr h) =
      λ b low e. (
      let y = and_parts (is_block t b && is_above t b u) (not (is_above t b v)) e in
      let z = and_parts (is_block t b) (is_above t b u) y.0 in
      elim (cases_Bool (is_above t b x)) [
        | inl a ↦ later_ended x xs c.1 r.1 v h b low (and_from (is_block t b && is_above t b x) (not (is_above t b v)) (and_from (is_block t b) (is_above t b x) z.0 a) y.1)
        | inr a ↦
            (let f = c.0 b low (and_from (is_block t b && is_above t b u) (not (is_above t b x)) y.0 (not_from_false (is_above t b x) a)) in
            let l : stamp_of t x < stamp_of t v = later_stamp x xs r.1 v h in
            (f.0, omega (arith, f.1)))
      ])

  tail_ended : (u : ℕ) (us : List ℕ) → AllEndedBetween t (u ∷ us) → AllEndedBetween t us
  tail_ended u [] c = tt
  tail_ended u (v ∷ us) c = c.1

  tail_rises : (u : ℕ) (us : List ℕ) → StampsRise (u ∷ us) → StampsRise us
  tail_rises u [] c = tt
  tail_rises u (v ∷ us) c = c.1

  pub ended_between : (us : List ℕ) (u n : ℕ) → AllEndedBetween t us → StampsRise us → Ahead u n us → EndedBetween t u n × (stamp_of t u < stamp_of t n)
  ended_between [] u n c r e = absurd e
  ended_between (x ∷ us) u n c r (inl z) =
      let P : ℕ → Type 0 = λ y. EndedBetween t y n × (stamp_of t y < stamp_of t n) in
      subst P (sym z.0) (later_ended x us c r n z.1, later_stamp x us r n z.1)
  ended_between (x ∷ us) u n c r (inr e) = ended_between us u n (tail_ended x us c) (tail_rises x us r) e
