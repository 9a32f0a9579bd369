-- What each call of a body makes of the begins around a strand, by their levels.
use Rattle.std.proofs.Common.{◌≡◌, ℕ, zero, suc, ◌+◌, ◌-◌, ◌<◌, List, [], ◌∷◌, length, map, drop, refl, ap, arith}
use Rattle.std.specs.Prelude.{All}
use Rattle.cw_body.specs.Bodies.{PendingBegin, one_fork_more, one_fork_less, seen_from}
use Rattle.tests_pool.specs.Levels.{level_at_begin, levels_at, AreUnder}

abbrev rest_of : List ℕ → List ℕ
rest_of [] = []
rest_of (l ∷ ls) = ls

pub some_begin : (level l : ℕ) (ls : List ℕ) (ps : List PendingBegin) → l ∷ ls ≡ levels_at level ps → 0 < length ps
some_begin level l ls [] e = absurd (omega (arith, ap length e))
some_begin level l ls (p ∷ ps) e = omega arith

pub one_less : (level l : ℕ) (ls : List ℕ) (ps : List PendingBegin) → l ∷ ls ≡ levels_at level ps → ls ≡ levels_at level (drop 1 ps)
one_less level l ls [] e = absurd (omega (arith, ap length e))
one_less level l ls (p ∷ ps) e = ap rest_of e

pub right_strand : (level : ℕ) (ps : List PendingBegin) → levels_at (level + 1) (map one_fork_more ps) ≡ levels_at level ps
right_strand level [] = refl
right_strand level (p ∷ ps) =
    let e : level + 1 - (p.forks + 1) ≡ level - p.forks = omega arith in
    let es = right_strand level ps in
    cc (e, es)

pub no_block : (level : ℕ) (ps : List PendingBegin) → AreUnder level (levels_at level ps) → All (λ p. 0 < p.forks) ps
no_block level [] below = λ k d r. absurd (omega (arith, r))
no_block level (p ∷ ps) below = by (no_block level ps below.1) where
  by : All (λ q. 0 < q.forks) ps → All (λ q. 0 < q.forks) (p ∷ ps)
  by rest zero d r =
      let a : level - p.forks < level = below.0 in
      omega (arith, a)
  by rest (suc k) d r = rest k d (omega (arith, r))

pub joined_strand : (level : ℕ) (ps : List PendingBegin) → AreUnder level (levels_at level ps) → levels_at (level - 1) (map one_fork_less ps) ≡ levels_at level ps
joined_strand level [] below = refl
joined_strand level (p ∷ ps) below =
    let a : level - p.forks < level = below.0 in
    let e : level - 1 - (p.forks - 1) ≡ level - p.forks = omega (arith, a) in
    let es = joined_strand level ps below.1 in
    cc (e, es)

pub seen_back : (level forks : ℕ) (ps : List PendingBegin) → AreUnder (level - forks + 1) (levels_at level ps) → levels_at (level - forks) (map (seen_from forks) ps) ≡ levels_at level ps
seen_back level forks [] below = refl
seen_back level forks (p ∷ ps) below =
    let a : level - p.forks < level - forks + 1 = below.0 in
    let e : level - forks - (p.forks - forks) ≡ level - p.forks = omega (arith, a) in
    let es = seen_back level forks ps below.1 in
    cc (e, es)
