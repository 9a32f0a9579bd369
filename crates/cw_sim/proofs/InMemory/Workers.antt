-- What a list of workers is once one of them changed.
use Rattle.std.proofs.Common.{◌≡◌, ℕ, zero, suc, ◌+◌, ◌-◌, ◌%◌, ◌<◌, ◌≤◌, List, [], ◌∷◌, ◌++◌, length, get_or, set, drop, refl, ap, sym, ◌∙◌, arith, Bool, true, false, cond, nat_eq, deque_len, add-one, sub-one, append_assoc, length-append, append-nil, Some, None}
use Rattle.std.specs.Prelude.{◌==◌, not, filter, Option, is_some, replicate}
use Rattle.std.specs.Option.{option_to_list}
use Rattle.std.proofs.lemmas.Bool.{eq-eqb, eqb-true, eqb-false, or_parts}
use Rattle.std.proofs.lemmas.List.{same_from_push, length-map, map-append, replicate-append-replicate, map-set, drop_more, drop_all}
use Rattle.std.proofs.lemmas.List.Folds.{list_any-append}
use Rattle.cw_tree.specs.Nodes.{below}
use Rattle.cw_tree.specs.Walks.{has}
use Rattle.cw_tree.proofs.Lists.{get_map_below}
use Rattle.cw_sim.specs.Workers.{Worker, idle, worker_in}
use Rattle.cw_sim.specs.WorkersInMemory.{IsLast, without_waiting, worker_of, workers_of, first_with_forks, workers_next}
use Rattle.cw_sim.specs.declared.worker.WorkerInMemory.{WorkerInMemory}

-- ## One fork less

-- without a number that it has not, a list is as it was
pub without_none : (f : ℕ) (xs : List ℕ) → has xs f ≡ false → filter (λ g. not (g == f)) xs ≡ xs
without_none f [] e = refl
without_none f (x ∷ xs) e =
    let w = or_parts (nat_eq x f) (has xs f) e in
    ap (λ b. cond (not b) (x ∷ filter (λ g. not (g == f)) xs) (filter (λ g. not (g == f)) xs)) w.0 ∙ ap (λ ys. x ∷ ys) (without_none f xs w.1)

pub without_last : (f : ℕ) (xs : List ℕ) → has xs f ≡ false → filter (λ g. not (g == f)) (xs ++ f ∷ []) ≡ xs
without_last f [] e = ap (λ b. cond (not b) (f ∷ []) []) (eq-eqb f f refl)
without_last f (x ∷ xs) e =
    let w = or_parts (nat_eq x f) (has xs f) e in
    ap (λ b. cond (not b) (x ∷ filter (λ g. not (g == f)) (xs ++ f ∷ [])) (filter (λ g. not (g == f)) (xs ++ f ∷ []))) w.0 ∙ ap (λ ys. x ∷ ys) (without_last f xs w.1)

has_none : (xs ys : List ℕ) (f : ℕ) → has (xs ++ ys) f ≡ false → (has xs f ≡ false) × (has ys f ≡ false)
has_none xs ys f e = let both = sym (list_any-append (λ m. m == f) xs ys) ∙ e in or_parts (has xs f) (has ys f) both

-- the fork that waits last is last in the inline ones, or where there are none in the deque
pub last_inline : (w : Worker) (f g : ℕ) (rest : List ℕ) → IsLast w f → w.inline ≡ rest ++ g ∷ [] → without_waiting f w ≡ record w { inline = rest }
last_inline w f g rest last e =
    let split : (w.deque ++ rest) ++ g ∷ [] ≡ last.before ++ f ∷ [] = append_assoc w.deque rest (g ∷ []) ∙ ap (λ ys. w.deque ++ ys) (sym e) ∙ last.all in
    let two = same_from_push (w.deque ++ rest) last.before g f split in
    let none : has (w.deque ++ rest) f ≡ false = ap (λ ys. has ys f) two.0 ∙ last.once in
    let apart = has_none w.deque rest f none in
    ap (λ ds. record w { deque = ds; inline = filter (λ h. not (h == f)) w.inline }) (without_none f w.deque apart.0)
    ∙ ap (λ is. record w { inline = is }) (ap (filter (λ h. not (h == f))) (e ∙ ap (λ h. rest ++ h ∷ []) two.1) ∙ without_last f rest apart.1)

pub last_deque : (w : Worker) (f g : ℕ) (rest : List ℕ) → IsLast w f → w.inline ≡ [] → w.deque ≡ rest ++ g ∷ [] → without_waiting f w ≡ record w { deque = rest }
last_deque w f g rest last none e =
    let split : rest ++ g ∷ [] ≡ last.before ++ f ∷ [] = sym e ∙ sym (append-nil w.deque) ∙ ap (λ is. w.deque ++ is) (sym none) ∙ last.all in
    let two = same_from_push rest last.before g f split in
    let gone : has rest f ≡ false = ap (λ ys. has ys f) two.0 ∙ last.once in
    ap (λ is. record w { deque = filter (λ h. not (h == f)) w.deque; inline = filter (λ h. not (h == f)) is }) none
    ∙ ap (λ is. record w { deque = filter (λ h. not (h == f)) w.deque; inline = is }) (sym none)
    ∙ ap (λ ds. record w { deque = ds }) (ap (filter (λ h. not (h == f))) (e ∙ ap (λ h. rest ++ h ∷ []) two.1) ∙ without_last f rest gone)

-- ## Workers in memory

pub worker_there : (ws : List WorkerInMemory) (w : ℕ) (d : WorkerInMemory) → w < length ws → worker_in (workers_of ws) w ≡ worker_of (get_or ws w d)
worker_there [] w d low = absurd (omega (arith, low))
worker_there (x ∷ ws) zero d low = refl
worker_there (x ∷ ws) (suc w) d low = worker_there ws w d (omega (arith, low))

-- worker w was changed
pub worker_set : (ws : List WorkerInMemory) (w : ℕ) (x : WorkerInMemory) → workers_of (set ws w x) ≡ set (workers_of ws) w (worker_of x)
worker_set ws w x = map-set worker_of ws w x

-- and is then this function of what it was
pub changed_in : (ws : List WorkerInMemory) (w : ℕ) (old new : WorkerInMemory) → w < length ws → old ≡ get_or ws w old → (f : Worker → Worker) → worker_of new ≡ f (worker_of old)
    → workers_of (set ws w new) ≡ set (workers_of ws) w (f (worker_in (workers_of ws) w))
changed_in ws w old new low at f e = worker_set ws w new ∙ ap (set (workers_of ws) w) (e ∙ ap f (ap worker_of at ∙ sym (worker_there ws w old low)))

-- ## What is popped

none_left : (xs ys : List ℕ) → xs ≡ ys ++ [] → (0 < length xs → false ≡ true) → (xs ≡ []) × (ys ≡ [])
none_left [] ys q h = (refl, sym (q ∙ append-nil ys))
none_left (x ∷ xs) ys q h = absurd (let b = h (omega arith) in cc)

-- from the end: the last of a list, or nothing of an empty one
pub popped : (r : Option ℕ) (xs ys : List ℕ) → xs ≡ ys ++ option_to_list r → (0 < length xs → is_some r ≡ true) → (is_some r ≡ true → (g : ℕ) × (xs ≡ ys ++ g ∷ [])) × (is_some r ≡ false → (xs ≡ []) × (ys ≡ []))
popped None xs ys e some = (λ q. absurd (cc q), λ q. none_left xs ys e some)
popped (Some g) xs ys e some = (λ q. (g, e), λ q. absurd (cc q))

-- where a fork waits last and none is inline, one is in the deque
pub some_in_deque : (w : Worker) (f : ℕ) → IsLast w f → w.inline ≡ [] → 0 < length w.deque
some_in_deque w f last none = by w.deque (sym (append-nil w.deque) ∙ ap (λ is. w.deque ++ is) (sym none) ∙ last.all) where
  by : (ds : List ℕ) → ds ≡ last.before ++ f ∷ [] → 0 < length ds
  by ds e = let n = ap length e in let k = length-append last.before (f ∷ []) in omega (arith, n, k)

pub is_idle : (x : WorkerInMemory) → x.runs ≡ None → x.deque.items ≡ [] → x.inline.items ≡ [] → worker_of x ≡ idle
is_idle x runs deque inline =
    ap (λ r. record (worker_of x) { runs = r }) runs
    ∙ ap (λ ds. record (worker_of x) { runs = None; deque = ds }) deque
    ∙ ap (λ is. record (worker_of x) { runs = None; deque = []; inline = is }) inline

-- one idle worker more
pub idle_more : (ws : List WorkerInMemory) (x : WorkerInMemory) (first : Worker) (k : ℕ) → workers_of ws ≡ first ∷ replicate k idle → worker_of x ≡ idle → workers_of (ws ++ x ∷ []) ≡ first ∷ replicate (k + 1) idle
idle_more ws x first k e q =
    map-append worker_of ws (x ∷ [])
    ∙ ap (λ ys. ys ++ worker_of x ∷ []) e
    ∙ ap (λ y. first ∷ replicate k idle ++ y ∷ []) q
    ∙ ap (λ ys. first ∷ ys) (replicate-append-replicate k 1 idle)

-- ## The first of others with forks

length_none : (xs : List ℕ) → length xs ≡ 0 → xs ≡ []
length_none [] e = refl
length_none (x ∷ xs) e = absurd (cc e)

pub skips : (ws : List Worker) (v : ℕ) (vs : List ℕ) → (worker_in ws v).deque ≡ [] → first_with_forks ws (v ∷ vs) ≡ first_with_forks ws vs
skips ws v vs e = ap (λ ds. elim ds [ [] ↦ first_with_forks ws vs | f ∷ fs ↦ Some v ]) e

pub stops : (ws : List Worker) (v : ℕ) (vs : List ℕ) → (length (worker_in ws v).deque ≡ 0 → ⊥) → first_with_forks ws (v ∷ vs) ≡ Some v
stops ws v vs some = by (worker_in ws v).deque some where
  by : (ds : List ℕ) → (length ds ≡ 0 → ⊥) → elim ds [ [] ↦ first_with_forks ws vs | f ∷ fs ↦ Some v ] ≡ Some v
  by [] h = absurd (h refl)
  by (d ∷ ds) h = refl

length_below : (k : ℕ) → length (below k) ≡ k
length_below zero = refl
length_below (suc k) = length-append (below k) (k ∷ []) ∙ ap (λ n. n + 1) (length_below k) ∙ add-one k

length_after : (w count : ℕ) → length (workers_next w count) ≡ count - 1
length_after w count = length-map (below (count - 1)) (λ i. (w + suc i) % count) ∙ length_below (count - 1)

-- the workers that come after a worker, from the i-th on
pub from_after : (w count i : ℕ) → 0 < i → i < count → drop (i - 1) (workers_next w count) ≡ (w + i) % count ∷ drop i (workers_next w count)
from_after w count (suc i) some low =
    let few : i < length (workers_next w count) = omega (arith, length_after w count) in
    ap (λ j. drop j (workers_next w count)) (sub-one (suc i))
    ∙ drop_more (workers_next w count) i 0 few
    ∙ ap (λ v. v ∷ drop (i + 1) (workers_next w count)) (get_map_below (λ j. (w + suc j) % count) (count - 1) i 0 (omega arith))
    ∙ ap (λ j. (w + suc i) % count ∷ drop j (workers_next w count)) (add-one i)
from_after w count zero some low = absurd (omega (arith, some))

pub none_after : (w count i : ℕ) → count ≤ i → drop (i - 1) (workers_next w count) ≡ []
none_after w count i high = drop_all (i - 1) (workers_next w count) (omega (arith, length_after w count))

-- ## A search of them

module _ (ws : List WorkerInMemory) (v : ℕ) (d : WorkerInMemory) (b : Bool) (low : v < length ws) (is : b ≡ nat_eq (deque_len (get_or ws v d).deque) 0) where
  counted : length (worker_in (workers_of ws) v).deque ≡ deque_len (get_or ws v d).deque
  counted = ap (λ x. length x.deque) (worker_there ws v d low) ∙ sym (get_or ws v d).deque.ok.0

  pub empty_there : b ≡ true → length (worker_in (workers_of ws) v).deque ≡ 0
  empty_there e = counted ∙ eqb-true (deque_len (get_or ws v d).deque) 0 (sym is ∙ e)

  pub some_there : b ≡ false → length (worker_in (workers_of ws) v).deque ≡ 0 → ⊥
  some_there e none = eqb-false (deque_len (get_or ws v d).deque) 0 (sym is ∙ e) (sym counted ∙ none)

module _ (ws : List Worker) (w count i : ℕ) (some : 0 < i) (low : i < count) where
  abbrev v : ℕ
  v = (w + i) % count

  pub found_here : first_with_forks ws (workers_next w count) ≡ first_with_forks ws (drop (i - 1) (workers_next w count)) → (length (worker_in ws v).deque ≡ 0 → ⊥) → first_with_forks ws (workers_next w count) ≡ Some v
  found_here so has_some = so ∙ ap (first_with_forks ws) (from_after w count i some low) ∙ stops ws v (drop i (workers_next w count)) has_some

  pub not_here : first_with_forks ws (workers_next w count) ≡ first_with_forks ws (drop (i - 1) (workers_next w count)) → length (worker_in ws v).deque ≡ 0 → first_with_forks ws (workers_next w count) ≡ first_with_forks ws (drop i (workers_next w count))
  not_here so has_none = so ∙ ap (first_with_forks ws) (from_after w count i some low) ∙ skips ws v (drop i (workers_next w count)) (length_none (worker_in ws v).deque has_none)
