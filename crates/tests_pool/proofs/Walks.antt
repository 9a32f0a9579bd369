-- What each call of a body makes of a strand that is walked.
use Rattle.std.proofs.Common.{◌≡◌, ℕ, ◌+◌, ◌-◌, ◌<◌, List, [], ◌∷◌, length, drop, map, refl, sym, ◌∙◌, ap, subst, arith}
use Rattle.std.specs.Prelude.{All}
use Rattle.cw_code.specs.declared.program.Program.{Program}
use Rattle.cw_strand.specs.declared.want.Given.{Given}
use Rattle.cw_strand.specs.Strands.{Strands}
use Rattle.cw_job.specs.Jobs.{bare_job}
use Rattle.cw_job.specs.Room.Strands.{StrandState, strands_of_job}
use Rattle.cw_body.specs.declared.stage.Stage.{Stage}
use Rattle.cw_body.specs.declared.stage.Stage.TheVariants.{Goes, GaveUp}
use Rattle.cw_body.specs.Bodies.{InBlocks, PendingBegin, HasNoBlock, answered, back_to, body_in_block, body_behind_block, forgot, joined_body, left_of, right_of, went_back}
use Rattle.tests_pool.specs.Levels.{levels_at, AreUnder}
use Rattle.tests_pool.proofs.Levels.{some_begin, one_less, right_strand, no_block, joined_strand, seen_back}

-- its cells have as many elements as the code may name
pub elements_there : (p : Program) → (strands_of_job (bare_job p)).elements ≡ p.code.cells
unfolding strands_of_job
elements_there p = refl

-- how a strand of this level stands, with the levels of the begins around it
pub record Stands (stage : Stage) (p : Program) (level : ℕ) (levels : List ℕ) (b : InBlocks) : Type 0 where
  pub at : b.stage ≡ stage
  pub of : b.program ≡ p
  pub around : levels ≡ levels_at level b.begins

off : (level : ℕ) → level ≡ level - 0
off level = omega arith

pub goes_left : (p : Program) (s : Strands StrandState) (b c : InBlocks) → b.program ≡ p → c ≡ left_of s b → Stands Goes p 0 [] c
goes_left p s b c of e = subst (λ v. Stands Goes p 0 [] v) (sym e) (record { at = refl; of = of; around = refl })

module _ (stage : Stage) (p : Program) (level : ℕ) where
  abbrev So : List ℕ → InBlocks → Type 0
  So levels b = Stands stage p level levels b

  pub acts : (s : Strands StrandState) (given : Given) (levels : List ℕ) (b c : InBlocks) → So levels b → c ≡ answered s given b → So levels c
  acts s given levels b c h e = subst (λ v. So levels v) (sym e) (record { at = h.at; of = h.of; around = h.around })

  pub begins : (s : Strands StrandState) (levels : List ℕ) (b c : InBlocks) → So levels b → c ≡ body_in_block s b → So (level ∷ levels) c
  begins s levels b c h e = subst (λ v. So (level ∷ levels) v) (sym e) (record { at = h.at; of = h.of; around = ap (λ k. k ∷ levels) (off level) ∙ ap (λ ls. (level - 0) ∷ ls) h.around })

  pub ends : (s : Strands StrandState) (l : ℕ) (levels : List ℕ) (b c : InBlocks) → So (l ∷ levels) b → c ≡ body_behind_block s b → So levels c
  ends s l levels b c h e = subst (λ v. So levels v) (sym e) (record { at = h.at; of = h.of; around = one_less level l levels b.begins h.around })

  pub has_begin : (l : ℕ) (levels : List ℕ) (b : InBlocks) → So (l ∷ levels) b → 0 < length b.begins
  has_begin l levels b h = some_begin level l levels b.begins h.around

  pub forgets : (l : ℕ) (levels : List ℕ) (b c : InBlocks) → So (l ∷ levels) b → c ≡ forgot b → So levels c
  forgets l levels b c h e = subst (λ v. So levels v) (sym e) (record { at = h.at; of = h.of; around = one_less level l levels b.begins h.around })

  pub goes_right : (s : Strands StrandState) (levels : List ℕ) (b c : InBlocks) → So levels b → c ≡ right_of s b → Stands stage p (level + 1) levels c
  goes_right s levels b c h e = subst (λ v. Stands stage p (level + 1) levels v) (sym e) (record { at = h.at; of = h.of; around = h.around ∙ sym (right_strand level b.begins) })

  pub is_free : (levels : List ℕ) (b : InBlocks) → So levels b → AreUnder level levels → HasNoBlock b
  is_free levels b h below = no_block level b.begins (subst (AreUnder level) h.around below)

  pub joins : (s : Strands StrandState) (levels : List ℕ) (b l c : InBlocks) → So levels b → AreUnder level levels → c ≡ joined_body s b l → Stands stage p (level - 1) levels c
  joins s levels b l c h below e = subst (λ v. Stands stage p (level - 1) levels v) (sym e)
      (record { at = h.at; of = h.of; around = h.around ∙ sym (joined_strand level b.begins (subst (AreUnder level) h.around below)) })

abbrev first_of : List ℕ → ℕ
first_of [] = 0
first_of (l ∷ ls) = l

abbrev rest_of : List ℕ → List ℕ
rest_of [] = []
rest_of (l ∷ ls) = ls

went : (p : Program) (level l : ℕ) (levels : List ℕ) (b : InBlocks) (ps : List PendingBegin) → b.program ≡ p → l ∷ levels ≡ levels_at level ps → AreUnder (l + 1) levels
    → Stands Goes p l levels (back_to ps b)
went p level l levels b [] of e below = absurd (omega (arith, ap length e))
went p level l levels b (q ∷ qs) of e below =
    let first : l ≡ level - q.forks = ap first_of e in
    let rest : levels ≡ levels_at level qs = ap rest_of e in
    let P : ℕ → Type 0 = λ k. AreUnder (k + 1) (levels_at level qs) in
    let there : AreUnder (level - q.forks + 1) (levels_at level qs) = subst P first (subst (AreUnder (l + 1)) rest below) in
    let Q : ℕ → Type 0 = λ k. Stands Goes p k levels (back_to (q ∷ qs) b) in
    subst Q (sym first) (record { at = refl; of = of; around = rest ∙ sym (seen_back level q.forks qs there) })

pub goes_back : (p : Program) (level l : ℕ) (levels : List ℕ) (b c : InBlocks) → Stands GaveUp p level (l ∷ levels) b → AreUnder (l + 1) levels → c ≡ went_back b → Stands Goes p l levels c
goes_back p level l levels b c h below e = subst (λ v. Stands Goes p l levels v) (sym e) (went p level l levels b b.begins h.of h.around below)
