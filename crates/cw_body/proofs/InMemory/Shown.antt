-- What is seen of a strand in its blocks, and of their begins from where it stands, as its level changes.
use Rattle.std.proofs.Common.{◌≡◌, ℕ, suc, ◌+◌, ◌-◌, ◌<◌, ◌≤◌, List, [], ◌∷◌, length, map, Option, Some, None, refl, ap, ◌∙◌, subst, arith}
use Rattle.std.specs.Prelude.{MatchOption}
use Rattle.cw_code.specs.declared.program.Program.{Program}
use Rattle.cw_strand.specs.Strands.{Strands}
use Rattle.cw_job.specs.Room.Strands.{StrandState}
use Rattle.cw_body.specs.declared.begin.Begin.{Begin}
use Rattle.cw_body.specs.declared.stage.Stage.{Stage}
use Rattle.cw_body.specs.Bodies.{InBlocks, PendingBegin, one_fork_more, one_fork_less, seen_from}
use Rattle.cw_body.specs.InMemory.{begin_of, shown, IsInsideEach}

abbrev pub seen : Program → Stage → StrandState → List PendingBegin → InBlocks
seen p st a ps = record { program = p; stage = st; state = a; begins = ps }

pub seen_as : (p : Program) (st su : Stage) (a b : StrandState) (ps qs : List PendingBegin) → st ≡ su → a ≡ b → ps ≡ qs
    → seen p st a ps ≡ seen p su b qs
seen_as p st su a b ps qs e f g =
    ap (λ v. seen p v a ps) e ∙ (ap (λ v. seen p su v ps) f ∙ ap (λ v. seen p su b v) g)

abbrev with_forks : Begin → ℕ → PendingBegin
with_forks b n = record { at = begin_of b; forks = n }

at_forks : (b : Begin) (n m : ℕ) → n ≡ m → with_forks b n ≡ with_forks b m
at_forks b n m e = ap (with_forks b) e

pub shown_more : (s : Strands StrandState) (level : ℕ) (a : StrandState) (n : ℕ) (bs : List Begin) → IsInsideEach s level a n bs → map (shown (level + 1)) bs ≡ map one_fork_more (map (shown level) bs)
shown_more s level a n [] h = refl
shown_more s level a n (b ∷ bs) h =
    let since : b.level ≤ level = h.0.since in
    let e = at_forks b (level + 1 - b.level) (level - b.level + 1) (omega (arith, since)) in
    let es = shown_more s level a (suc n) bs h.1 in
    cc (e, es)

pub shown_less : (level : ℕ) (bs : List Begin) → map (shown (level - 1)) bs ≡ map one_fork_less (map (shown level) bs)
shown_less level [] = refl
shown_less level (b ∷ bs) =
    let e = at_forks b (level - 1 - b.level) (level - b.level - 1) (omega arith) in
    let es = shown_less level bs in
    cc (e, es)

-- from a begin of this level
pub shown_from : (level k : ℕ) (bs : List Begin) → k ≤ level → map (shown k) bs ≡ map (seen_from (level - k)) (map (shown level) bs)
shown_from level k [] le = refl
shown_from level k (b ∷ bs) le =
    let e = at_forks b (k - b.level) (level - b.level - (level - k)) (omega (arith, le)) in
    let es = shown_from level k bs le in
    cc (e, es)

-- the innermost one, where there is one
pub innermost : (level : ℕ) (r : Option Begin) (bs rest : List Begin) → MatchOption r ((bs ≡ []) × (rest ≡ [])) (λ b. bs ≡ b ∷ rest) → 0 < length (map (shown level) bs) → (b : Begin) × (bs ≡ b ∷ rest)
innermost level (Some b) bs rest h some = (b, h)
innermost level None bs rest h some = absurd (let P : List Begin → Type 0 = λ ds. 0 < length (map (shown level) ds) in let none : 0 < 0 = subst P h.0 some in omega (arith, none))
