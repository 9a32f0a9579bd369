-- The code goes on with a call, and behind the end of a function.
use Rattle.std.proofs.Common.{◌≡◌, ◌∙◌, ℕ, suc, ◌+◌, ◌-◌, ◌≤◌, Bool, true, false, List, [], ◌∷◌, length, drop, reverse, refl, sym, ap, subst, arith, Option, Some, None, ℤ, pos, nat_lt, length-drop}
use Rattle.std.specs.Prelude.{slice_get, if◌then◌else◌, nat_le}
use Rattle.std.proofs.lemmas.Bool.{le-ltb}
use Rattle.cw_text.specs.Syntax.{Declaration, number}
use Rattle.cw_code.specs.declared.CellInfo.{CellInfo}
use Rattle.cw_code.specs.declared.instruction.Instr.{Instr}
use Rattle.cw_code.specs.declared.effects.Effect.TheVariants as effect
use Rattle.cw_code.specs.declared.Limits.{Limits}
use Rattle.cw_code.specs.declared.FaultKind.TheVariants.{Depth, Fuel}
use Rattle.cw_strand.specs.declared.want.Want.TheVariants.{Fault}
use Rattle.cw_strand.specs.Running.{on, wants, stuck}
use Rattle.cw_strand.specs.Names.{find, fault_of_call, globals, in_functions, cells_of}
use Rattle.cw_strand.specs.Meaning as m
use Rattle.cw_strand.specs.Meaning.{Function, Locals, Task, function_of, bound_to, most_frames, perform, wait, value, enter, back_to}
use Rattle.cw_strand.specs.Coded as c
use Rattle.cw_strand.specs.Coded.{Frame, locals_for}
use Rattle.cw_strand.specs.Compilation.{Slots, code_of, function_names, number_from, calls, slots_with_params}
use Rattle.cw_strand.specs.Compilation as instr
use Rattle.cw_strand.proofs.StandingNames.{IsFunction}
use Rattle.cw_strand.proofs.Numbering.{Agree, scope_of, function_there}
use Rattle.cw_strand.proofs.Doing.{Does, Ending, ends_call}
use Rattle.cw_strand.proofs.FunctionCode.{FunctionCode, function_code_there, arguments_agree, function_does}
use Rattle.cw_strand.proofs.Sharing.{Shared, syntax_at, code_at, IsSmall, Ahead, moves, both_want, acts}

module _ (ds : List Declaration) (words : List ℤ) (limits : Limits) where
  abbrev instrs : List Instr
  instrs = (code_of ds).instrs

  abbrev cells : List CellInfo
  cells = cells_of ds

  abbrev functions : List ℕ → Option Function
  functions = function_of ds

  abbrev function_list : List (List ℕ)
  function_list = function_names ds

  module _ (named : in_functions (globals ds) ds ≡ None) {g : Slots} {n : ℕ} {fs : List Frame} (x : Shared ds words limits g n fs) (small : IsSmall ds words limits x) (p : ℕ) (vs : List ℤ) (k : List Task) where
    -- what called the function waits behind its call
    abbrev waiting : ℕ → Frame
    waiting c = record { place = p + 1; operands = drop c vs; locals = x.numbers }

    -- a unit of fuel is spent
    abbrev spent : Shared ds words limits g n fs
    spent = record x { fuel = x.fuel + 1 }

    abbrev source : List ℕ → ℕ → m.State
    source a c = syntax_at ds words limits spent (enter a c ∷ k) vs

    abbrev Follows : m.Step → Type 0
    Follows step = Ahead ds words limits step (code_at ds words limits x p vs)

    abbrev Steps : c.Step → Type 0
    Steps step = c.step (code_of ds) (code_at ds words limits x p vs) ≡ step

    module _ (a : List ℕ) (count : ℕ) (q : IsFunction ds a count) (code : FunctionCode ds ds 0 a q.function) (enough : count ≤ length vs) (rest : Does ds instrs n g (suc (length vs - count)) k (p + 1) fs) where
      abbrev f : Function
      f = q.function

      abbrev begun : Shared ds words limits (slots_with_params f.params []) (length (locals_for code.func vs)) (waiting code.func.params ∷ fs)
      begun = record {
        locals = bound_to (reverse f.params) vs;
        numbers = locals_for code.func vs;
        scopes = 0 ∷ x.scopes;
        fuel = x.fuel + 1;
        size = x.size;
        beside = x.beside;
        begins = x.begins;
        count = refl;
        agree = arguments_agree ds a f code vs (omega (arith, q.count, enough));
      }

      enters : Steps (on (code_at ds words limits begun code.func.start [])) → Follows (on (record (syntax_at ds words limits begun (perform f.body ∷ wait ∷ value (number (pos 0)) ∷ back_to x.locals (drop count vs) ∷ k) []) { frames = length fs + 1 + 1 }))
      enters step =
          let same : drop count vs ≡ drop code.func.params vs = ap (λ z. drop z vs) (sym (code.params ∙ q.count)) in
          let high : suc (length vs - count) ≡ suc (length (drop count vs)) = ap suc (sym (length-drop count vs)) in
          let later : Does ds instrs (length x.numbers) g (suc (length (drop count vs))) k (p + 1) fs =
          subst (λ h. Does ds instrs (length x.numbers) g h k (p + 1) fs) high (subst (λ z. Does ds instrs z g (suc (length vs - count)) k (p + 1) fs) x.count rest) in
          let todo : List Task = back_to x.locals (drop count vs) ∷ k in
          let ending : Ending ds instrs todo (waiting code.func.params ∷ fs) = ends_call g x.agree same later in
          let frames : length (waiting code.func.params ∷ fs) + 1 ≡ length fs + 1 + 1 = omega arith in
          let does = function_does ds a f code vs (omega (arith, q.count, enough)) todo (waiting code.func.params ∷ fs) ending in
          subst (λ z. Follows (on (record (syntax_at ds words limits begun (perform f.body ∷ wait ∷ value (number (pos 0)) ∷ todo) []) { frames = z }))) frames
          (moves ds words limits x p vs begun (perform f.body ∷ wait ∷ value (number (pos 0)) ∷ todo) code.func.start [] step does refl)

      -- unless too many functions stand
      deep : (b : Bool) → Steps (if b then wants (Fault Depth) (code_at ds words limits spent p vs) else on (code_at ds words limits begun code.func.start []))
          → Follows (if b then wants (Fault Depth) (source a count) else on (record (syntax_at ds words limits begun (perform f.body ∷ wait ∷ value (number (pos 0)) ∷ back_to x.locals (drop count vs) ∷ k) []) { frames = length fs + 1 + 1 }))
      deep true step = both_want ds words limits x p vs (Fault Depth) (source a count) (code_at ds words limits spent p vs) step tt
      deep false step = enters step

      called_follows : Steps (c.begins_call (slice_get (code_of ds).funcs (number_from 0 a function_list)) (p + 1) vs (code_at ds words limits spent p vs)) → Follows (m.begins_call cells functions limits (functions a) count k (source a count))
      called_follows step =
          let there = step ∙ ap (λ o. c.begins_call o (p + 1) vs (code_at ds words limits spent p vs)) code.numbered in
          let room : nat_lt (length vs) code.func.params ≡ false = le-ltb (length vs) code.func.params (omega (arith, code.params, q.count, enough)) in
          let goes = there ∙ ap (λ b. if b then stuck else (if nat_le most_frames (length fs + 1) then wants (Fault Depth) (code_at ds words limits spent p vs) else on (code_at ds words limits begun code.func.start []))) room in
          subst (λ o. Follows (m.begins_call cells functions limits o count k (source a count))) (sym q.found) (deep (nat_le most_frames (length fs + 1)) goes)

    pub call_follows : (a : List ℕ) (count line : ℕ) → fault_of_call (find a (scope_of ds g)) count line ≡ None → count ≤ length vs → slice_get instrs p ≡ Some (calls cells function_list a) → Does ds instrs n g (suc (length vs - count)) k (p + 1) fs
        → Follows (m.act cells functions limits (enter a count) vs k (syntax_at ds words limits x (enter a count ∷ k) vs))
    call_follows a count line may enough there rest = by (nat_le limits.fuel x.fuel) (acts ds words limits x p vs small (calls cells function_list a) effect.Call there refl)
      where
        q : IsFunction ds a count
        q = function_there ds g a count line may

        by : (b : Bool) → Steps (if b then wants (Fault Fuel) (code_at ds words limits x p vs) else c.begins_call (slice_get (code_of ds).funcs (number_from 0 a function_list)) (p + 1) vs (code_at ds words limits spent p vs))
            → Follows (if b then wants (Fault Fuel) (syntax_at ds words limits x (enter a count ∷ k) vs) else m.begins_call cells functions limits (functions a) count k (source a count))
        by true step = both_want ds words limits x p vs (Fault Fuel) (syntax_at ds words limits x (enter a count ∷ k) vs) (code_at ds words limits x p vs) step tt
        by false step = called_follows a count q (function_code_there ds a q.function named q.found) enough rest step

  -- ## Behind the end of a function

  module _ {g : Slots} {n : ℕ} {f : Frame} {fs : List Frame} (x : Shared ds words limits g n (f ∷ fs)) (small : IsSmall ds words limits x) (p : ℕ) where
    pub back_follows : {g2 : Slots} (l : Locals) (us : List ℤ) (v : ℤ) (vs : List ℤ) (k : List Task) → slice_get instrs p ≡ Some instr.ret → Agree l g2 f.locals → us ≡ f.operands → Does ds instrs (length f.locals) g2 (suc (length us)) k f.place fs
        → Ahead ds words limits (m.act cells functions limits (back_to l us) (v ∷ vs) k (syntax_at ds words limits x (back_to l us ∷ k) (v ∷ vs))) (code_at ds words limits x p (v ∷ vs))
    back_follows {g2 = g2} l us v vs k there agree same rest =
        let y : Shared ds words limits g2 (length f.locals) fs = record {
          locals = l;
          numbers = f.locals;
          scopes = drop 1 x.scopes;
          fuel = x.fuel;
          size = x.size;
          beside = x.beside;
          begins = x.begins;
          count = refl;
          agree = agree;
        } in
        let frames : length fs + 1 ≡ length (f ∷ fs) + 1 - 1 = omega arith in
        let step = acts ds words limits x p (v ∷ vs) small instr.ret effect.Ret there refl in
        let goes = moves ds words limits x p (v ∷ vs) y k f.place (v ∷ f.operands) step rest (ap suc (ap length (sym same))) in
        subst (λ z. Ahead ds words limits (on (record (syntax_at ds words limits y k (v ∷ us)) { frames = z })) (code_at ds words limits x p (v ∷ vs))) frames
        (subst (λ z. Ahead ds words limits (on (syntax_at ds words limits y k (v ∷ z))) (code_at ds words limits x p (v ∷ vs))) (sym same) goes)
