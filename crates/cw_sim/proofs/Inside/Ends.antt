-- Strands stay inside their blocks, as one of them finishes.
use Rattle.std.proofs.Common.{◌≡◌, ℕ, ◌∷◌, ap, sym, ◌∙◌, subst, Bool, true, false, inl, inr, nat_eq}
use Rattle.std.specs.Prelude.{◌&&◌}
use Rattle.std.proofs.lemmas.Bool.{cases_Bool, and_parts, or_cases, or_parts, or_from, eqb-true}
use Rattle.cw_strand.specs.declared.want.Want.TheVariants.{End}
use Rattle.cw_strand.specs.Strands.{Strands}
use Rattle.cw_tree.specs.Nodes.{is_pending}
use Rattle.cw_tree.specs.Series.{strand_of}
use Rattle.cw_tree.specs.Shape.{IsTree}
use Rattle.cw_open.specs.Machine.{OpenMachine, has_finished, finished_dead, is_running, is_dying}
use Rattle.cw_open.specs.Open.{is_open, AreNested}
use Rattle.cw_sim.specs.Inside.{HasOneOpenFork, IsRightOf, goes_back, LivesIn, GoesBackIn, AreInside}
use Rattle.cw_sim.proofs.Inside.Law.{stays_other}

module _ {A : Type 0} (s : Strands A) (m : OpenMachine) (tree : IsTree m.tree) (nested : AreNested m.tree (is_open m)) (x : ℕ) (dead : Bool) (running : is_running m x ≡ true)
    (at saved there : ℕ → A) (old : AreInside s m at saved there) (off : is_dying m x ≡ false → s.want (at x) ≡ End → ⊥) where
  abbrev u : OpenMachine
  u = record m { finished = (x, dead) ∷ m.finished }

  was : (y : ℕ) → HasOneOpenFork u y → HasOneOpenFork m y
  was y st = record { strand = st.strand; apart = st.apart; alone = st.alone }

  lived : (y : ℕ) → goes_back u y ≡ false → goes_back m y ≡ false
  lived y e =
      let a = or_parts (is_dying m y) (finished_dead u y) e in
      let b = or_parts (nat_eq x y && dead) (finished_dead m y) a.1 in
      or_from (is_dying m y) (finished_dead m y) a.0 b.1

  alive : (y : ℕ) → goes_back m y ≡ false → is_dying m y ≡ false
  alive y e = (or_parts (is_dying m y) (finished_dead m y) e).0

  lives : (y b n : ℕ) → HasOneOpenFork u y → goes_back u y ≡ false → is_pending m.tree b ≡ true → IsRightOf m.tree n y (strand_of m.tree b) → LivesIn s (has_finished u y) (saved b) n (at y)
  lives y b n st e pending right =
      let l = old.lives y b n (was y st) (lived y e) pending right in
      record {
        inner = l.inner;
        inside = l.inside;
        stays = λ done. elim (or_cases (nat_eq x y) (has_finished m y) done) [
          | inr f ↦ l.stays f
          | inl f ↦
              (let same = eqb-true x y f in
              let free = ap (is_dying m) same ∙ alive y (lived y e) in
              stays_other (s.want (at y)) l.inner (λ end. off free (ap (λ c. s.want (at c)) same ∙ end)))
        ];
      }

  back : (y b n : ℕ) → HasOneOpenFork u y → goes_back u y ≡ true → is_pending m.tree b ≡ true → IsRightOf m.tree n y (strand_of m.tree b) → GoesBackIn s (saved b) (there y)
  back y b n st e pending right = elim (cases_Bool (goes_back m y)) [
    | inl goes ↦ old.back y b n (was y st) goes pending right
    | inr live ↦
        (let l = old.lives y b n (was y st) live pending right in
        let free = alive y live in
        let parts = or_parts (is_dying m y) (finished_dead m y) live in
        let same : x ≡ y = elim (or_cases (is_dying m y) (finished_dead u y) e) [
          | inl f ↦ absurd (cc (f, free))
          | inr f ↦ elim (or_cases (nat_eq x y && dead) (finished_dead m y) f) [
            | inl g ↦ eqb-true x y (and_parts (nat_eq x y) dead g).0
            | inr g ↦ absurd (let d = parts.1 in cc (g, d))
          ]
        ] in
        let P : A → Type 0 = λ a. GoesBackIn s (saved b) a in
        subst P (sym (old.same y (was y st) live)) (record {
          forks = n;
          inner = l.inner;
          inside = l.inside;
          stays = stays_other (s.want (at y)) l.inner (λ end. off (ap (is_dying m) same ∙ free) (ap (λ c. s.want (at c)) same ∙ end));
        }))
  ]

  pub finished : AreInside s u at saved there
  finished = record { same = λ y st e. old.same y (was y st) (lived y e); lives = lives; back = back; blocks = old.blocks; begins = old.begins }
