-- What every state that a run leads to has, by induction over runs.
use Rattle.std.proofs.Common.{◌≡◌, ℕ, zero, suc, ◌<◌, ◌≤◌, List, [], ◌∷◌, length, map, refl, sym, ◌∙◌, subst, arith, true, false}
use Rattle.std.specs.Prelude.{ℤ, slice_get, unwrap_or}
use Rattle.std.proofs.lemmas.List.{length-map}
use Rattle.std.proofs.lemmas.List.Elements.{All-nil}
use Rattle.cw_tree.specs.declared.node.Node.{Node}
use Rattle.cw_tree.specs.declared.conflict.Conflict.{Conflict}
use Rattle.cw_tree.specs.declared.node.Kind.TheVariants.{Strand}
use Rattle.cw_tree.specs.Nodes.{is_node, stamp_of, end_of, touches, fresh_node}
use Rattle.cw_tree.specs.Journals.{fits_cells}
use Rattle.cw_tree.specs.NextNodes.{IsSound}
use Rattle.cw_tree.proofs.Lists.{In}
use Rattle.cw_tree.proofs.Worked.Checks.{is_tree, are_stamps, pending_last}
use Rattle.cw_tree.proofs.Rising.{Rises}
use Rattle.cw_open.specs.Machine.{OpenMachine, live}
use Rattle.cw_open.specs.Steps.{Step, forks, begins, accesses, refuses, outputs, cancels, commits, undoes, aborts, finishes, joins, stops, after_open_step, after_all, first_machine}
use Rattle.cw_open.specs.Runs.{Rules, Allowed, IsRun, IsReachedBy, at_any_time}
use Rattle.cw_open.proofs.Open.Trees.{IsWell}
use Rattle.cw_open.proofs.Open.TreeSteps.{well_after}
use Rattle.cw_open.proofs.Laws.Listing.{AreListed}
use Rattle.cw_open.proofs.Laws.Lists.{listed_after}

-- ## Induction

-- what holds at the opening and is kept by each step that is allowed holds of each state that is reached
pub by_run : (r : Rules) (first : List ℤ) (P : OpenMachine → Type 0) → P (first_machine first) → ((m : OpenMachine) (e : Step) → P m → Allowed r m e → P (after_open_step m e)) → (m : OpenMachine) → IsReachedBy r first m → P m
by_run r first P z s m reached = subst P reached.there (go (first_machine first) reached.steps z reached.run) where
  go : (m : OpenMachine) (es : List Step) → P m → IsRun r m es → P (after_all m es)
  go m [] p q = p
  go m (e ∷ es) p q = go (after_open_step m e) es (s m e p q.0) q.1

-- where what one rule needs is needed by another, what is reached by the one is reached by the other
pub by_rules : (r q : Rules) (first : List ℤ) → ((m : OpenMachine) (e : Step) → Allowed r m e → Allowed q m e) → (m : OpenMachine) → IsReachedBy r first m → IsReachedBy q first m
by_rules r q first f m reached = record { steps = reached.steps; run = go (first_machine first) reached.steps reached.run; there = reached.there } where
  go : (m : OpenMachine) (es : List Step) → IsRun r m es → IsRun q m es
  go m [] h = tt
  go m (e ∷ es) h = (f m e h.0, go (after_open_step m e) es h.1)

-- what any rule allows is allowed where accesses may be refused at any time
pub at_any_step : (r : Rules) (m : OpenMachine) (e : Step) → Allowed r m e → Allowed (at_any_time r.asked) m e
at_any_step r m (forks s stamp) a = a
at_any_step r m (begins s stamp) a = a
at_any_step r m (accesses s c w stamp) a = a
at_any_step r m (refuses s c w met) a = (a.0, tt)
at_any_step r m (outputs s v stamp) a = a
at_any_step r m (cancels s stamp) a = a
at_any_step r m (commits s stamp) a = a
at_any_step r m (undoes s c) a = a
at_any_step r m (aborts s stamp) a = a
at_any_step r m (finishes s dead) a = a
at_any_step r m (joins f) a = a
at_any_step r m (stops s) a = a

-- ## The opening

abbrev root : List Node
root = fresh_node 0 Strand 0 ∷ []

root_sound : IsSound root
root_sound = record {
  tree = is_tree root (omega arith) refl refl refl refl refl;
  stamps = are_stamps root refl refl refl refl refl refl refl refl refl;
  pending_last = pending_last root refl refl;
}

pub empty_lists : (vs : List ℤ) (c : ℕ) → unwrap_or (slice_get (map (λ v. let us : List ℕ = [] in us) vs) c) [] ≡ []
empty_lists [] c = refl
empty_lists (v ∷ vs) zero = refl
empty_lists (v ∷ vs) (suc c) = empty_lists vs c

module _ (first : List ℤ) where
  well_opening : IsWell (first_machine first)
  well_opening = record {
    sound = root_sound;
    nested = record { outer = λ n some h. absurd (omega arith); last = λ c d some less h. absurd (omega arith) };
    finished = λ s e. absurd (cc e);
    joined = λ f e. absurd (cc e);
    clock = λ n h. (let P : ℕ → Type 0 = λ n. (stamp_of root n ≤ 0) × (end_of root n ≤ 0) in subst P (let e : 0 ≡ n = omega arith in e) (omega arith, omega arith));
  }

  none_listed : (c s : ℕ) → In s (live (first_machine first) c) → ⊥
  none_listed c s i = let P : List ℕ → Type 0 = λ us. In s us in subst P (empty_lists first c) i

  no_access : (c n : ℕ) → touches root c n ≡ false
  no_access c zero = refl
  no_access c (suc n) = refl

  listed_opening : AreListed (first_machine first)
  listed_opening = record {
    len = length-map first (λ v. []);
    askers = All-nil (λ (c : Conflict). c.asker < 1);
    accesses = λ c s i. absurd (none_listed c s i);
    rises = λ c. (let P : List ℕ → Type 0 = λ us. Rises us in subst P (sym (empty_lists first c)) tt);
    lives = λ c n e i. absurd (none_listed c (stamp_of root n) i);
    missing = λ c n e l. absurd (cc (e, no_access c n));
    cells = λ n h. (let P : ℕ → Type 0 = λ n. is_node (λ x. fits_cells (length first) x.kind) root n ≡ true in subst P (let e : 0 ≡ n = omega arith in e) refl);
  }

-- ## Every state

pub record IsState (first : List ℤ) (m : OpenMachine) : Type 0 where
  pub well : IsWell m
  pub listed : AreListed m
  pub values : m.first ≡ first

pub same_first : (m : OpenMachine) (e : Step) → (after_open_step m e).first ≡ m.first
same_first m (forks s stamp) = refl
same_first m (begins s stamp) = refl
same_first m (accesses s c w stamp) = refl
same_first m (refuses s c w met) = refl
same_first m (outputs s v stamp) = refl
same_first m (cancels s stamp) = refl
same_first m (commits s stamp) = refl
same_first m (undoes s c) = refl
same_first m (aborts s stamp) = refl
same_first m (finishes s dead) = refl
same_first m (joins f) = refl
same_first m (stops s) = refl

pub state_after : (r : Rules) (first : List ℤ) (m : OpenMachine) (e : Step) → IsState first m → Allowed r m e → IsState first (after_open_step m e)
state_after r first m e s a = record { well = well_after r m e s.well a; listed = listed_after r m e s.well s.listed a; values = same_first m e ∙ s.values }

pub state_opening : (first : List ℤ) → IsState first (first_machine first)
state_opening first = record { well = well_opening first; listed = listed_opening first; values = refl }

pub states : (r : Rules) (first : List ℤ) (m : OpenMachine) → IsReachedBy r first m → IsState first m
states r first = by_run r first (IsState first) (state_opening first) (state_after r first)
