-- What begun blocks may put back names elements that are there.
use Rattle.std.proofs.Common.{◌<◌, ◌≤◌, ℕ, ℤ, zero, suc, List, [], ◌∷◌, length, arith}
use Rattle.std.specs.Prelude.{All, map}
use Rattle.std.proofs.lemmas.List.{length-set}
use Rattle.std.proofs.lemmas.List.Elements.{All-append, All-cons, All-filter, All-head, All-map, All-nil, All-tail}
use Rattle.cw_strand.specs.declared.want.Want.{Want}
use Rattle.cw_strand.specs.declared.want.Want.TheVariants.{Store, Begin, End}
use Rattle.cw_strand.specs.Strands.{AreElements}
use Rattle.cw_tree.specs.Nodes.{below}
use Rattle.cw_job.specs.Memory.{value_at}
use Rattle.cw_serial.specs.Wants.{Since, was_written, with_write, given_up, memory_after, since_after}

all_below : (n k : ℕ) → k ≤ n → All (λ c. c < n) (below k)
all_below n zero le = All-nil (λ c. c < n)
all_below n (suc k) le =
    All-append (λ c. c < n) (below k) (k ∷ []) (all_below n k (omega (arith, le))) (All-cons (λ c. c < n) k [] (omega (arith, le)) (All-nil (λ c. c < n)))

-- a list of what to put back, by its elements
are_elements : (n : ℕ) (value : ℕ → ℤ) (cs : List ℕ) → All (λ c. c < n) cs → AreElements n (map (λ c. record { cell = c; value = value c }) cs)
are_elements n value [] h = tt
are_elements n value (c ∷ cs) h = (All-head (λ d. d < n) c cs h, are_elements n value cs (All-tail (λ d. d < n) c cs h))

-- the memory at a block's begin has at most n elements
abbrev pub Fits : ℕ → Since → Type 0
Fits n x = length x.memory ≤ n

pub given_up_there : (n : ℕ) (xs : List Since) → All (Fits n) xs → AreElements n (given_up xs)
given_up_there n [] h = tt
given_up_there n (x ∷ xs) h =
    are_elements n (value_at x.memory) _ (All-filter (was_written x) (λ c. c < n) (below (length x.memory)) (all_below n (length x.memory) (All-head (Fits n) x xs h)))

pub memory_fits : (n : ℕ) (w : Want) (memory : List ℤ) → length memory ≤ n → length (memory_after w memory) ≤ n
memory_fits n (Store c v) memory h = omega (arith, h, length-set memory c v)
memory_fits n _ memory h = h

pub since_fits : (n : ℕ) (w : Want) (memory : List ℤ) (xs : List Since) → length memory ≤ n → All (Fits n) xs → All (Fits n) (since_after w memory xs)
since_fits n Begin memory xs there h = All-cons (Fits n) _ xs there h
since_fits n (Store c v) memory xs there h = All-map (Fits n) (with_write c) xs h
since_fits n End memory [] there h = h
since_fits n End memory (x ∷ xs) there h = All-tail (Fits n) x xs h
since_fits n _ memory xs there h = h
