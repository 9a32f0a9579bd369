-- Strands stay inside their blocks, as a strand acts: an access, an output, a begin or an end, and as it rolls a block back.
use Rattle.std.proofs.Common.{◌≡◌, ◌≢◌, ℕ, zero, suc, ◌<◌, List, length, refl, ap, sym, ◌∙◌, subst, arith, Bool, true, false, inl, inr}
use Rattle.std.specs.Prelude.{◌⊎◌, ◌&&◌, ◌||◌, ℤ}
use Rattle.std.proofs.lemmas.Bool.{cases_eq, false_from_ne_true}
use Rattle.cw_strand.specs.declared.want.Want.TheVariants.{Begin, End}
use Rattle.cw_strand.specs.declared.want.Given.{Given}
use Rattle.cw_strand.specs.declared.want.Given.TheVariants.{Nothing}
use Rattle.cw_strand.specs.Strands.{Strands, IsAnswer}
use Rattle.cw_strand.specs.Saving.{Inside, begun}
use Rattle.cw_tree.specs.Nodes.{is_block_kind, is_pending_state, is_pending}
use Rattle.cw_tree.specs.Series.{strand_of, place}
use Rattle.cw_tree.specs.Shape.{IsTree}
use Rattle.cw_tree.proofs.Walks.There.{node_there}
use Rattle.cw_open.specs.Machine.{OpenMachine, finished_dead, is_running, is_dying}
use Rattle.cw_open.specs.Open.{is_open, AreNested}
use Rattle.cw_open.proofs.Refused.Backed.{dead_finished}
use Rattle.cw_open.proofs.Open.Standing.{stands}
use Rattle.cw_open.proofs.Refused.Victims.{IsToldState, told_states}
use Rattle.cw_open.specs.Runs.{at_once}
use Rattle.cw_core.specs.State.{CoreState}
use Rattle.cw_core.specs.Laws.{IsCore}
use Rattle.cw_sim.specs.Workers.{changed_at}
use Rattle.cw_sim.specs.Kept.{CoreGoesOn}
use Rattle.cw_sim.specs.Inside.{HasOneOpenFork, IsRightOf, goes_back, GoesBackIn, AreInside}
use Rattle.cw_sim.proofs.Inside.Kept.{changed_here, changed_other}
use Rattle.cw_sim.proofs.Inside.Law.{stays_other, goes_on}
use Rattle.cw_sim.proofs.Inside.Quiet.{IsLeft, WasPending, IsBegun, Pends, steps, inside_to}
use Rattle.cw_sim.proofs.Inside.Waits.{going, running_stands}

-- a running strand of a core, before a step to another core, that leaves all strands and forks
module _ {A : Type 0} (s : Strands A) (first : List ℤ) (k z : CoreState) (on : CoreGoesOn first k) (core : IsCore first z) (left : IsLeft k.machine z.machine) (x : ℕ) (running : is_running k.machine x ≡ true)
    (at saved there : ℕ → A) (old : AreInside s k.machine at saved there) where
  abbrev m : OpenMachine
  m = k.machine

  abbrev u : OpenMachine
  u = z.machine

  abbrev p : ℕ
  p = place m.tree x

  told : IsToldState first m
  told = told_states at_once first m on.core.reached

  tree : IsTree m.tree
  tree = told.state.well.sound.tree

  nested : AreNested m.tree (is_open m)
  nested = told.state.well.nested

  x_stands : HasOneOpenFork m x
  x_stands = running_stands m tree nested x running

  dead_no : finished_dead m x ≡ false
  dead_no = false_from_ne_true (finished_dead m x) (λ e. absurd (let d = dead_finished m x e in let g = (going m x running).unfinished in cc (d, g)))

  back_is : (b : Bool) → is_dying m x ≡ b → goes_back m x ≡ b
  back_is true e = ap (λ d. d || finished_dead m x) e
  back_is false e = ap (λ d. d || finished_dead m x) e ∙ dead_no

  -- where it lives, it is inside
  module _ (free : is_dying m x ≡ false) where
    pub x_there : there x ≡ at x
    x_there = old.same x x_stands (back_is false free)

    pub x_inside : (b n : ℕ) → is_pending m.tree b ≡ true → IsRightOf m.tree n x (strand_of m.tree b) → (inner : ℕ) × Inside s (saved b) n inner (at x)
    x_inside b n pending right = let l = old.lives x b n x_stands (back_is false free) pending right in (l.inner, l.inside)

  -- no block comes, and what falls for no free strand stays
  module _ (fewer : (b : ℕ) → is_pending u.tree b ≡ true → is_pending m.tree b ≡ true) (others : (y : ℕ) → HasOneOpenFork m y → y ≢ x → is_dying u y ≡ is_dying m y) where
    was : (b : ℕ) → is_pending u.tree b ≡ true → WasPending m saved saved b
    was b e = record { low = node_there (λ y. is_block_kind y.kind && is_pending_state y.state) m.tree b (fewer b e); pending = fewer b e; saved_as = refl }

    none_new : (q : ℕ) → is_pending u.tree q ≡ true → IsBegun m u x q → ⊥
    none_new q e new = let w = was q e in let low = w.low in let past = new.past in omega arith

    own_as : (b n : ℕ) → is_pending u.tree b ≡ true → IsRightOf m.tree n x (strand_of u.tree b) → IsRightOf m.tree n x (strand_of m.tree b)
    own_as b n e right = let P : ℕ → Type 0 = λ c. IsRightOf m.tree n x c in subst P (Rattle.cw_open.proofs.Open.Staying.strand_stays m.tree u.tree left.stays b (was b e).low) right

    -- a free strand is answered
    pub answered : (given : Given) → is_dying m x ≡ false → is_dying u x ≡ false
        → ((b n : ℕ) → is_pending u.tree b ≡ true → IsRightOf m.tree n x (strand_of m.tree b) → (inner : ℕ) × Inside s (saved b) n inner (s.answer (at x) given))
        → AreInside s u (changed_at x (s.answer (at x) given) at) saved (changed_at x (s.answer (at x) given) there)
    answered given free still inside =
        let a = s.answer (at x) given in
        steps s m u tree nested on.forks left x running at saved there (changed_at x a at) saved (changed_at x a there) old
        (record { others_at = changed_other x a at; others_there = changed_other x a there; dying = others; pend = λ b e. inl (was b e) })
        (record {
          same = λ e. changed_here x a there ∙ sym (changed_here x a at);
          lives = λ b n e pending w right. inside_to s (saved b) (saved b) n a (changed_at x a at x) refl (changed_here x a at) (inside b n pending (own_as b n pending right));
          back = λ b n e. absurd (cc (e, still));
          blocks = λ q b n e new. absurd (none_new q e new);
          begins = λ q e new. absurd (none_new q e new);
        })

    -- its access is refused: it stands where it stood, at no end
    pub refused : is_dying m x ≡ false → (s.want (at x) ≡ End → ⊥) → AreInside s u at saved there
    refused free off =
        steps s m u tree nested on.forks left x running at saved there at saved there old
        (record { others_at = λ y ne. refl; others_there = λ y ne. refl; dying = others; pend = λ b e. inl (was b e) })
        (record {
          same = λ e. x_there free;
          lives = λ b n e pending w right. x_inside free b n (fewer b pending) (own_as b n pending right);
          back = λ b n e pending w right.
              (let (inner, inside) = x_inside free b n (fewer b pending) (own_as b n pending right) in
              let P : A → Type 0 = λ a. GoesBackIn s (saved b) a in
              subst P (sym (x_there free)) (record { forks = n; inner = inner; inside = inside; stays = stays_other (s.want (at x)) inner off }));
          blocks = λ q b n e new. absurd (none_new q e new);
          begins = λ q e new. absurd (none_new q e new);
        })

    -- it rolls back its innermost block, and stands at the begin of that
    pub rolled : is_pending m.tree p ≡ true → is_pending u.tree p ≡ false → AreInside s u (changed_at x (saved p) at) saved (changed_at x (saved p) there)
    rolled pend_p shut_p =
        let a = saved p in
        let here = stands m tree nested x running in
        let P : ℕ → ℕ → ℕ → Type 0 = λ n c d. IsRightOf m.tree n c d in
        let around : (b n : ℕ) → is_pending u.tree b ≡ true → IsRightOf m.tree n x (strand_of u.tree b) → (inner : ℕ) × Inside s (saved b) n inner a = λ b n pending right.
        (let up = own_as b n pending right in
        old.blocks p b n pend_p (fewer b pending) (subst (λ c. P n c (strand_of m.tree b)) (sym here.strand) up) (λ e.
        let same : x ≡ strand_of m.tree b = (let Q : ℕ → Type 0 = λ j. IsRightOf m.tree j x (strand_of m.tree b) in subst Q e up) in
        elim (Rattle.std.proofs.lemmas.Bool.cases_lt b p) [
          | inl less ↦ less
          | inr le ↦ elim (cases_eq b p) [
            | inl at_p ↦ absurd (cc (pending, ap (is_pending u.tree) at_p, shut_p))
            | inr ne ↦ absurd (here.last b (omega arith) (fewer b pending) (sym same))
          ]
        ])) in
        steps s m u tree nested on.forks left x running at saved there (changed_at x a at) saved (changed_at x a there) old
        (record { others_at = changed_other x a at; others_there = changed_other x a there; dying = others; pend = λ b e. inl (was b e) })
        (record {
          same = λ e. changed_here x a there ∙ sym (changed_here x a at);
          lives = λ b n e pending w right. inside_to s (saved b) (saved b) n a (changed_at x a at x) refl (changed_here x a at) (around b n pending right);
          back = λ b n e pending w right.
              (let (inner, inside) = around b n pending right in
              let R : A → Type 0 = λ c. GoesBackIn s (saved b) c in
              subst R (sym (changed_here x a there)) (record { forks = n; inner = inner; inside = inside; stays = stays_other (s.want a) inner (λ e. let begins = old.begins p pend_p in cc (e, begins)) }));
          blocks = λ q b n e new. absurd (none_new q e new);
          begins = λ q e new. absurd (none_new q e new);
        })

  -- ## A block begins

  module _ (q : ℕ) (fresh : q ≡ length m.tree) (own : strand_of u.tree q ≡ x) (begins : s.want (at x) ≡ Begin)
      (split : (b : ℕ) → is_pending u.tree b ≡ true → ((b < length m.tree) × (is_pending m.tree b ≡ true)) ⊎ (b ≡ q))
      (others : (y : ℕ) → is_dying u y ≡ is_dying m y) (free : is_dying m x ≡ false) where
    abbrev a : A
    a = s.answer (at x) Nothing

    abbrev after : ℕ → A
    after = changed_at q (at x) saved

    pends : (b : ℕ) → is_pending u.tree b ≡ true → Pends s m u tree nested on.forks left x running at saved there (changed_at x a at) after (changed_at x a there) old b
    pends b e = elim (split b e) [
      | inl w ↦ inl (record { low = w.0; pending = w.1; saved_as = changed_other q (at x) saved b (λ same. (let low = w.0 in omega (arith, same, fresh))) })
      | inr same ↦ inr (record { past = omega (arith, same, fresh); own = ap (strand_of u.tree) same ∙ own })
    ]

    right_to : (b n : ℕ) → b < length m.tree → IsRightOf m.tree n x (strand_of u.tree b) → IsRightOf m.tree n x (strand_of m.tree b)
    right_to b n low right = let P : ℕ → Type 0 = λ c. IsRightOf m.tree n x c in subst P (Rattle.cw_open.proofs.Open.Staying.strand_stays m.tree u.tree left.stays b low) right

    -- a block of the strand's own, no forks up
    no_forks : (n : ℕ) → IsRightOf m.tree n x x → n ≡ 0
    no_forks zero e = refl
    no_forks (suc n) e = absurd (
        let g = going m x running in
        let low = Rattle.cw_tree.proofs.Walks.There.strand_there m.tree x g.strand in
        let over = Rattle.cw_sim.proofs.Inside.Waits.right_above m tree nested on.forks n x x low e in
        let waits_x = Rattle.cw_sim.proofs.Inside.Waits.stands_waits m tree nested x x_stands x g.strand over in
        let alone = g.alone in
        cc (waits_x, alone))

    is_new : (b : ℕ) → IsBegun m u x b → is_pending u.tree b ≡ true → b ≡ q
    is_new b new e = elim (split b e) [ inl w ↦ absurd (let low = w.0 in let past = new.past in omega arith) | inr same ↦ same ]

    old_inside : (b n : ℕ) → WasPending m saved after b → IsRightOf m.tree n x (strand_of u.tree b) → (inner : ℕ) × Inside s (after b) n inner (at x)
    old_inside b n w right = inside_to s (saved b) (after b) n (at x) (at x) w.saved_as refl (x_inside free b n w.pending (right_to b n w.low right))

    pub begins_in : AreInside s u (changed_at x a at) after (changed_at x a there)
    begins_in =
        steps s m u tree nested on.forks left x running at saved there (changed_at x a at) after (changed_at x a there) old
        (record { others_at = changed_other x a at; others_there = changed_other x a there; dying = λ y st ne. others y; pend = pends })
        (record {
          same = λ e. changed_here x a there ∙ sym (changed_here x a at);
          lives = λ b n e pending w right. elim w [
            | inl was ↦
                (let (inner, inside) = old_inside b n was right in
                let P : Rattle.cw_strand.specs.declared.want.Want.Want → Type 0 = λ v. IsAnswer s.elements v Nothing in
                inside_to s (after b) (after b) n a (changed_at x a at x) refl (changed_here x a at)
                (goes_on s (after b) n inner (at x) Nothing inside (subst P (sym begins) tt) (λ end. cc (end, begins))))
            | inr new ↦
                (let same = is_new b new pending in
                let P : ℕ → Type 0 = λ c. IsRightOf m.tree n x c in
                let none = no_forks n (subst P new.own right) in
                let Q : ℕ → Type 0 = λ j. (inner : ℕ) × Inside s (after b) j inner (changed_at x a at x) in
                subst Q (sym none) (inside_to s (at x) (after b) 0 a (changed_at x a at x) (ap after same ∙ changed_here q (at x) saved) (changed_here x a at) (0, begun)))
          ];
          back = λ b n e. absurd (let f = free in cc (e, others x, f));
          blocks = λ c b n e new pending w right less. (let same = is_new c new e in
              elim w [
                | inl was ↦ inside_to s (after b) (after b) n (at x) (after c) refl (ap after same ∙ changed_here q (at x) saved) (old_inside b n was right)
                | inr late ↦ absurd (let l = less (let P : ℕ → Type 0 = λ d. IsRightOf m.tree n x d in no_forks n (subst P late.own right)) in let too = is_new b late pending in omega (arith, l, too, same))
              ]);
          begins = λ c e new. ap (λ d. s.want (after d)) (is_new c new e) ∙ ap s.want (changed_here q (at x) saved) ∙ begins;
        })
