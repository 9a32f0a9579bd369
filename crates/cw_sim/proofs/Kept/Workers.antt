-- Workers of whom one changes.
use Rattle.std.proofs.Common.{◌≡◌, ◌≢◌, ℕ, zero, suc, ◌<◌, ◌≤◌, List, [], ◌∷◌, ◌++◌, length, refl, ap, sym, ◌∙◌, subst, arith, true, Option, Some, None, inl, inr, nat_eq}
use Rattle.std.specs.Prelude.{slice_set}
use Rattle.std.proofs.lemmas.Bool.{cases_eq, or_cases, or_left, or_right, eqb-true}
use Rattle.cw_tree.specs.Walks.{has}
use Rattle.cw_core.specs.State.{CoreState}
use Rattle.cw_sim.specs.Workers.{Worker, idle, waiting, worker_in}
use Rattle.cw_sim.specs.Kept.{Runs, IsIdle, Fits, AreWorkers}

-- another worker in a place, and the others as they were
pub worker_here : (ws : List Worker) (w : ℕ) (x : Worker) → w < length ws → worker_in (slice_set ws w x) w ≡ x
worker_here [] w x h = absurd (omega arith)
worker_here (y ∷ ws) zero x h = refl
worker_here (y ∷ ws) (suc w) x h = worker_here ws w x (omega arith)

pub worker_other : (ws : List Worker) (w v : ℕ) (x : Worker) → v ≢ w → worker_in (slice_set ws w x) v ≡ worker_in ws v
worker_other [] w v x ne = refl
worker_other (y ∷ ws) zero zero x ne = absurd (ne refl)
worker_other (y ∷ ws) zero (suc v) x ne = refl
worker_other (y ∷ ws) (suc w) zero x ne = refl
worker_other (y ∷ ws) (suc w) (suc v) x ne = worker_other ws w v x (λ e. ne (ap suc e))

-- past the last worker there is none
pub worker_past : (ws : List Worker) (v : ℕ) → length ws ≤ v → worker_in ws v ≡ idle
worker_past [] v h = refl
worker_past (y ∷ ws) zero h = absurd (omega arith)
worker_past (y ∷ ws) (suc v) h = worker_past ws v (omega arith)

set_twice : (ws : List Worker) (w : ℕ) (x y : Worker) → slice_set (slice_set ws w x) w y ≡ slice_set ws w y
set_twice [] w x y = refl
set_twice (v ∷ ws) zero x y = refl
set_twice (v ∷ ws) (suc w) x y = ap (λ us. v ∷ us) (set_twice ws w x y)

-- a worker changes, and then what it runs
pub set_run : (ws : List Worker) (w : ℕ) (x : Worker) (r : Option ℕ) → w < length ws → slice_set (slice_set ws w x) w (record (worker_in (slice_set ws w x) w) { runs = r }) ≡ slice_set ws w (record x { runs = r })
set_run ws w x r h = ap (λ v. slice_set (slice_set ws w x) w (record v { runs = r })) (worker_here ws w x h) ∙ set_twice ws w x (record x { runs = r })

-- a worker that runs a strand fits it
pub runs_in : (k : CoreState) (ws : List Worker) (w x : ℕ) → AreWorkers k ws → (worker_in ws w).runs ≡ Some x → Runs k (worker_in ws w) x
runs_in k ws w x old e = let P : Option ℕ → Type 0 = λ r. Fits k (worker_in ws w) r in subst P e (old.fit w)

-- and nothing waits in an idle one
pub idle_in : (k : CoreState) (ws : List Worker) (w : ℕ) → AreWorkers k ws → (worker_in ws w).runs ≡ None → IsIdle (worker_in ws w)
idle_in k ws w old e = let P : Option ℕ → Type 0 = λ r. Fits k (worker_in ws w) r in subst P e (old.fit w)

-- what waits in a list waits in it and one behind
pub has_front : (xs ys : List ℕ) (f : ℕ) → has xs f ≡ true → has (xs ++ ys) f ≡ true
has_front [] ys f e = absurd (cc e)
has_front (x ∷ xs) ys f e = elim (or_cases (nat_eq x f) (has xs f) e) [ inl q ↦ or_left (nat_eq x f) (has (xs ++ ys) f) q | inr q ↦ or_right (nat_eq x f) (has (xs ++ ys) f) (has_front xs ys f q) ]

pub has_back : (xs ys : List ℕ) (f : ℕ) → has ys f ≡ true → has (xs ++ ys) f ≡ true
has_back [] ys f e = e
has_back (x ∷ xs) ys f e = or_right (nat_eq x f) (has (xs ++ ys) f) (has_back xs ys f e)

-- an element, with what is before and behind it
pub has_parts : (xs : List ℕ) (f : ℕ) → has xs f ≡ true → (fs gs : List ℕ) × (xs ≡ fs ++ f ∷ gs)
has_parts [] f e = absurd (cc e)
has_parts (x ∷ xs) f e = elim (or_cases (nat_eq x f) (has xs f) e) [
  | inl q ↦ ([], xs, ap (λ y. y ∷ xs) (eqb-true x f q))
  | inr q ↦ (let z = has_parts xs f q in (x ∷ z.0, z.1, ap (λ ys. x ∷ ys) z.2))
]

-- what is said of each worker but one, and of that one, is said of each
module _ (ws : List Worker) (w : ℕ) (x : Worker) (h : w < length ws) where
  abbrev vs : List Worker
  vs = slice_set ws w x

  here : worker_in vs w ≡ x
  here = worker_here ws w x h

  -- where no two workers share a thing, and none has one of the new worker's, no two share one afterwards
  pub still_apart : (P : Worker → Type 0) → ((u v : ℕ) → P (worker_in ws u) → P (worker_in ws v) → u ≡ v) → ((v : ℕ) → v ≢ w → P x → P (worker_in ws v) → ⊥) → (u v : ℕ) → P (worker_in vs u) → P (worker_in vs v) → u ≡ v
  still_apart P old apart u v e q = elim (cases_eq u w) [
    | inl a ↦ elim (cases_eq v w) [
      | inl b ↦ a ∙ sym b
      | inr nb ↦ absurd (apart v nb (subst P (ap (worker_in vs) a ∙ here) e) (subst P (worker_other ws w v x nb) q))
    ]
    | inr na ↦ elim (cases_eq v w) [
      | inl b ↦ absurd (apart u na (subst P (ap (worker_in vs) b ∙ here) q) (subst P (worker_other ws w u x na) e))
      | inr nb ↦ old u v (subst P (worker_other ws w u x na) e) (subst P (worker_other ws w v x nb) q)
    ]
  ]

  -- workers fit another core, where each does that is as it was, and the new one does
  pub workers_after : (k z : CoreState) → AreWorkers k ws → ((v : ℕ) → v ≢ w → Fits z (worker_in ws v) (worker_in ws v).runs) → Fits z x x.runs → ((v y : ℕ) → v ≢ w → x.runs ≡ Some y → (worker_in ws v).runs ≡ Some y → ⊥)
      → ((v f : ℕ) → v ≢ w → has (waiting x) f ≡ true → has (waiting (worker_in ws v)) f ≡ true → ⊥) → AreWorkers z vs
  workers_after k z old others new runs waits = record {
    fit = λ v. (let P : Worker → Type 0 = λ y. Fits z y y.runs in elim (cases_eq v w) [
      | inl e ↦ subst P (sym (ap (worker_in vs) e ∙ here)) new
      | inr ne ↦ subst P (sym (worker_other ws w v x ne)) (others v ne)
    ]);
    apart = λ u v y. still_apart (λ o. o.runs ≡ Some y) (λ u v. old.apart u v y) (λ v ne. runs v y ne) u v;
    once = λ u v f. still_apart (λ o. has (waiting o) f ≡ true) (λ u v. old.once u v f) (λ v ne. waits v f ne) u v;
  }
