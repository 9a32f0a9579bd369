-- What a walker has in memory, taken from and put on its stack, and where its strands are then.
use Rattle.std.proofs.Common.{◌≡◌, List, [], ◌∷◌, drop, map, refl, ap, sym, subst, ◌∙◌, Option, Some, None, Bool, true, false}
use Rattle.std.specs.Prelude.{Result, OnOk, ◌&&◌, IsTrue, All, if◌then◌else◌}
use Rattle.std.proofs.lemmas.List.Elements.{All-cons, All-head, All-tail}
use Rattle.std.specs.Prelude.{Ok, Err}
use Rattle.cw_code.specs.declared.program.Program.{Program}
use Rattle.cw_strand.specs.Strands.{Strands, is_over}
use Rattle.cw_tree.specs.declared.node.Node.{Node}
use Rattle.cw_job.specs.declared.standing.Standing.{Standing}
use Rattle.cw_job.specs.Room.Strands.{StrandState}
use Rattle.cw_audit.specs.Settled.{IsSome, joins}
use Rattle.cw_audit.specs.Visits.{WalkSpot, kept_last, joined_from, joined_strand}
use Rattle.cw_audit.specs.Walkers.{state_there, IsOfIfThere}

pub both_ok : {T E P Q R : Type 0} (r : Result T E) → (P → Q → R) → OnOk r P → OnOk r Q → OnOk r R
both_ok (Ok x) f p q = f p q
both_ok (Err e) f p q = tt

-- where these strands are
abbrev pub spot_at : Option Standing → List (Option Standing) → WalkSpot StrandState
spot_at o os = record { now = state_there o; kept = map state_there os }

pub joined_at : (s : Strands StrandState) (t : List Node) (o p : Option Standing) (os : List (Option Standing)) → state_there p ≡ joins s t (state_there o) (state_there (kept_last os))
    → spot_at p (drop 1 os) ≡ joined_from s t (spot_at o os)
joined_at s t o p [] e = ap (λ x. record { now = x; kept = [] }) e
joined_at s t o p (q ∷ os) e = ap (λ x. record { now = x; kept = map state_there os }) e

-- where two strands of a fork have joined, or stopped
pub joins_at : (s : Strands StrandState) (t : List Node) (o : Option Standing) (os : List (Option Standing)) (r l p : Option Standing) (ps : List (Option Standing))
    → r ≡ o → l ≡ kept_last os → ps ≡ drop 1 os → state_there p ≡ joins s t (state_there r) (state_there l) → spot_at p ps ≡ joined_from s t (spot_at o os)
joins_at s t o os r l p ps a b k e =
    ap (spot_at p) k
    ∙ joined_at s t o p os (e ∙ ap (λ (x : Option Standing). joins s t (state_there x) (state_there l)) a ∙ ap (λ (x : Option Standing). joins s t (state_there o) (state_there x)) b)

-- the strand that is taken from the stack, and those that stay there, are of the program
pub taken_stand : (program : Program) (os : List (Option Standing)) → All (IsOfIfThere program) os → IsOfIfThere program (kept_last os) × All (IsOfIfThere program) (drop 1 os)
taken_stand program [] all = (tt, all)
taken_stand program (o ∷ os) all = (All-head (IsOfIfThere program) o os all, All-tail (IsOfIfThere program) o os all)

-- so are those after one was taken, and another put in its place
pub back_stand : (program : Program) (os : List (Option Standing)) → All (IsOfIfThere program) os → (p : Option Standing) (ps : List (Option Standing)) → p ≡ kept_last os → ps ≡ drop 1 os
    → IsOfIfThere program p × All (IsOfIfThere program) ps
back_stand program os all p ps taken rest =
    let both = taken_stand program os all in
    let P : Option Standing → Type 0 = IsOfIfThere program in
    let Q : List (Option Standing) → Type 0 = All (IsOfIfThere program) in
    (subst P (sym taken) both.0, subst Q (sym rest) both.1)

pub put_stand : (program : Program) (o : Option Standing) (os qs : List (Option Standing)) → IsOfIfThere program o → All (IsOfIfThere program) os → qs ≡ o ∷ os → All (IsOfIfThere program) qs
put_stand program o os qs one all put =
    let Q : List (Option Standing) → Type 0 = All (IsOfIfThere program) in
    subst Q (sym put) (All-cons (IsOfIfThere program) o os one all)

module _ {A : Type 0} (s : Strands A) (t : List Node) where
  abbrev pub HasEnded : Option A → Type 0
  HasEnded = IsSome (λ a. IsTrue (is_over (s.want a)))

  pub both_ended : (r l : Option A) → HasEnded l → HasEnded r → joined_strand s r l ≡ joins s t r l
  both_ended None l p q = absurd q
  both_ended (Some r) None p q = absurd p
  both_ended (Some r) (Some l) p q = sym (ap (λ b. if b && is_over (s.want l) then Some (s.joined r l) else None) q ∙ ap (λ b. if b then Some (s.joined r l) else None) p)

  pub not_both_ended : (r l : Option A) → (HasEnded l → HasEnded r → ⊥) → None ≡ joins s t r l
  not_both_ended None l h = refl
  not_both_ended (Some r) None h = refl
  not_both_ended (Some r) (Some l) h = open_of (is_over (s.want r)) (is_over (s.want l)) h where
    open_of : (b d : Bool) → (IsTrue d → IsTrue b → ⊥) → None ≡ (if b && d then Some (s.joined r l) else None)
    open_of true true h = absurd (h refl refl)
    open_of true false h = refl
    open_of false d h = refl
