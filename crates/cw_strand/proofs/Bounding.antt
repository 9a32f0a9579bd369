-- Local work ends: a tick and a call spend fuel, a return leaves a caller, and each other step comes nearer to the end of the code.
use Rattle.std.proofs.Common.{◌≡◌, ℕ, zero, suc, ◌+◌, ◌-◌, ◌*◌, ◌<◌, ◌≤◌, ◌⊎◌, inl, inr, Bool, true, false, List, [], ◌∷◌, length, refl, sym, ap, ◌∙◌, subst, arith, Option, Some, None, Result, Ok, Err, ℤ, pos, negsuc, nat_lt}
use Rattle.std.specs.Prelude.{slice_get, max, if◌then◌else◌, nat_le}
use Rattle.std.proofs.lemmas.Bool.{leb-false}
use Rattle.std.proofs.lemmas.Option.{slice_get_within}
use Rattle.cw_code.specs.declared.instruction.Instr.{Instr}
use Rattle.cw_code.specs.declared.instruction.Func.{Func}
use Rattle.cw_code.specs.declared.instruction.Code.{Code}
use Rattle.cw_code.specs.declared.FaultKind.{FaultKind}
use Rattle.cw_code.specs.declared.FaultKind.TheVariants.{Range, Fuel, Size}
use Rattle.cw_code.specs.declared.Back.{Back}
use Rattle.cw_code.specs.declared.Limits.{Limits}
use Rattle.cw_code.specs.declared.effects.Effect.{Effect}
use Rattle.cw_code.specs.declared.effects.Effect.TheVariants as t
use Rattle.cw_code.specs.Rules.{effect_of, is_target, is_tick, ticks, faults, operand_faults}
use Rattle.cw_code.proofs.Sound.{owner, operands_fine, has_effect, target_is, tested}
use Rattle.cw_strand.specs.declared.want.Want.{Want}
use Rattle.cw_strand.specs.declared.want.Want.TheVariants.{Begin, Cancel, Done, Fork, Fault, Sync}
use Rattle.cw_strand.specs.declared.want.Given.{Given}
use Rattle.cw_strand.specs.declared.want.Given.TheVariants.{Nothing, Value, Back as Wrote}
use Rattle.cw_strand.specs.Running.{Running, on, wants, stuck, depth_of, IsBounded}
use Rattle.cw_strand.specs.Arithmetic.{is_zero}
use Rattle.cw_strand.specs.Meaning.{one_more, one_inside, most_frames}
use Rattle.cw_strand.specs.Coded as coded
use Rattle.cw_strand.proofs.Counting.{Keeps, StepKeeps, step_keeps}
use Rattle.cw_strand.proofs.Weights.{lighter, no_heavier}
use Rattle.cw_strand.specs.Coded.{Frame, State, Step, index, goes_to, with_value, joined, counted, counts, spends, result, in_range, read_local, returned, wait_in, rank, steps_left}

module _ (code : Code) where
  rank_low : (p : ℕ) → rank code p ≤ length code.instrs + 1
  rank_low p = by (is_tick (slice_get code.instrs p))
    where
      by : (b : Bool) → (if b then 0 else suc (length code.instrs - p)) ≤ length code.instrs + 1
      by true = omega arith
      by false = omega arith

  -- from an instruction that is no tick, further on or to a tick
  rises : (p q : ℕ) (i : Instr) (e : Effect) → slice_get code.instrs p ≡ Some i → effect_of i ≡ Some e → ticks (Some e) ≡ false → (p < q) ⊎ (is_tick (slice_get code.instrs q) ≡ true) → rank code q < rank code p
  rises p q i e is does free way =
      let here : is_tick (slice_get code.instrs p) ≡ false = ap is_tick is ∙ ap ticks does ∙ free in
      let lt = slice_get_within code.instrs p i is in
      let mine : rank code p ≡ suc (length code.instrs - p) = ap (λ b. if b then 0 else suc (length code.instrs - p)) here in
      subst (λ n. rank code q < n) (sym mine) (by (is_tick (slice_get code.instrs q)) refl way lt)
    where
      by : (b : Bool) → is_tick (slice_get code.instrs q) ≡ b → (p < q) ⊎ (is_tick (slice_get code.instrs q) ≡ true) → p < length code.instrs → (if b then 0 else suc (length code.instrs - q)) < suc (length code.instrs - p)
      by true e w lt = omega arith
      by false e (inl w) lt = omega arith
      by false e (inr w) lt = absurd (let no : false ≡ true = sym e ∙ w in cc)

  module _ (main : ℕ) (words : List ℤ) (limits : Limits) where
    abbrev whole : Running State
    whole = coded.runs code main words limits

    -- where nothing is to be written back
    abbrev run : Running State
    run = record whole { bound = λ s. steps_left code s }

    -- what a step leads to has less to do by itself
    abbrev Falls : State → Step → Type 0
    Falls s (on u) = steps_left code u < steps_left code s
    Falls s (wants w u) = depth_of run w u ≤ steps_left code s
    Falls s stuck = Unit {0}

    falls_either : (s : State) (b : Bool) (x y : Step) → (b ≡ true → Falls s x) → (b ≡ false → Falls s y) → Falls s (if b then x else y)
    falls_either s true x y g h = g refl
    falls_either s false x y g h = h refl

    at_fault : (k : FaultKind) (s : State) → Falls s (wants (Fault k) s)
    at_fault k s = omega arith

    counted_falls : (s : State) (go : State → Step) → Falls s (go (record s { size = s.size + 1 })) → Falls s (counted s go)
    counted_falls s go h = falls_either s (nat_le s.limits.size s.size) _ _ (λ e. at_fault Size s) (λ e. h)

    -- what is wanted at a state with less to do
    wanted : (w : Want) (s u : State) → (depth_of run w (record u { size = u.size + 1 }) ≡ suc (steps_left code u)) → steps_left code u < steps_left code s → Falls s (counts w u)
    wanted w s u is less = falls_either s (nat_le u.limits.size u.size) _ _ (λ e. omega (arith, less)) (λ e. omega (arith, is, less))

    spent_falls : (s : State) (go : State → Step) → (s.fuel < s.limits.fuel → Falls s (go (record s { fuel = s.fuel + 1 }))) → Falls s (spends s go)
    spent_falls s go h = falls_either s (nat_le s.limits.fuel s.fuel) _ _ (λ e. at_fault Fuel s) (λ e. h (leb-false s.limits.fuel s.fuel e))

    range_falls : (len : ℕ) (z : ℤ) (s : State) (go : Step) → Falls s go → Falls s (in_range len z s go)
    range_falls len (negsuc n) s go h = at_fault Range s
    range_falls len (pos n) s go h = falls_either s (nat_lt n len) _ _ (λ e. h) (λ e. at_fault Range s)

    ended_falls : (s : State) (ns : List ℕ) → Falls s (wants Done (coded.ended ns s))
    ended_falls s [] = omega arith
    ended_falls s (n ∷ []) = omega arith
    ended_falls s (n ∷ m ∷ ns) = omega arith

    returned_falls : (fs : List Frame) (v : ℤ) (s : State) → fs ≡ s.callers → Falls s (returned fs v s)
    returned_falls [] v s e = ended_falls s s.scopes
    returned_falls (f ∷ fs) v s e =
        let fewer : length s.callers ≡ suc (length fs) = ap length (sym e) in
        lighter (length code.instrs) _ _ (rank code f.place) (rank code s.current.place) (omega (arith, fewer)) (rank_low f.place)

    called_falls : (o : Option Func) (p : ℕ) (vs : List ℤ) (s : State) → s.fuel < s.limits.fuel → Falls s (coded.begins_call o p vs (record s { fuel = s.fuel + 1 }))
    called_falls None p vs s lt = tt
    called_falls (Some g) p vs s lt =
        falls_either s (nat_lt (length vs) g.params) _ _
        (λ few. tt)
        (λ enough. falls_either s (nat_le most_frames (length s.callers + 1)) _ _
        (λ deep. no_heavier (length code.instrs) _ _ (rank code s.current.place) (omega arith))
        (λ room. lighter (length code.instrs) _ _ (rank code g.start) (rank code s.current.place) (omega (arith, lt)) (rank_low g.start)))

    module _ (s : State) (i : Instr) (is : slice_get code.instrs s.current.place ≡ Some i) where
      module _ (e : Effect) (does : effect_of i ≡ Some e) (free : ticks (Some e) ≡ false) where
        -- on with the next instruction
        next_falls : rank code (s.current.place + 1) < rank code s.current.place
        next_falls = rises s.current.place (s.current.place + 1) i e is does free (inl (omega arith))

        jump_falls : (f : Func) → is_target code f s.current.place i.a ≡ true → rank code (index i.a) < rank code s.current.place
        jump_falls f to =
            let w = target_is code f s.current.place i.a to in
            subst (λ q. rank code q < rank code s.current.place) (sym (ap index w.1)) (rises s.current.place w.0 i e is does free w.3)

      moves : (p : ℕ) (vs : List ℤ) → rank code p < rank code s.current.place → Falls s (on (goes_to p vs s))
      moves p vs less = omega (arith, less)

      result_falls : (r : Result ℤ FaultKind) (p : ℕ) (vs : List ℤ) → rank code p < rank code s.current.place → Falls s (result r p vs s)
      result_falls (Ok v) p vs less = omega (arith, less)
      result_falls (Err k) p vs less = at_fault k s

      read_falls : (o : Option ℤ) (p : ℕ) (vs : List ℤ) → rank code p < rank code s.current.place → Falls s (read_local o p vs s)
      read_falls None p vs less = tt
      read_falls (Some v) p vs less = omega (arith, less)

      waited_falls : (ns : List ℕ) (p : ℕ) (vs : List ℤ) → rank code p < rank code s.current.place → Falls s (wait_in ns p vs s)
      waited_falls [] p vs less = omega (arith, less)
      waited_falls (zero ∷ ns) p vs less = omega (arith, less)
      waited_falls (suc n ∷ ns) p vs less = omega arith

      module _ (f : Func) (fine : (e : Effect) → effect_of i ≡ Some e → operand_faults code f s.current.place i (Some e) ≡ []) where
        act_falls : (e : Effect) (vs : List ℤ) → effect_of i ≡ Some e → Falls s (coded.act code e i (s.current.place + 1) vs s)
        act_falls t.Push vs d = moves _ (i.a ∷ vs) (next_falls t.Push d refl)
        act_falls t.Local vs d = read_falls _ _ vs (next_falls t.Local d refl)
        act_falls t.Set (v ∷ vs) d = falls_either s (nat_lt (index i.a) (length s.current.locals)) _ _ (λ lt. omega (arith, next_falls t.Set d refl)) (λ out. tt)
        act_falls t.Load vs d = wanted _ s (goes_to (s.current.place + 1) (pos 0 ∷ vs) s) refl (omega (arith, next_falls t.Load d refl))
        act_falls t.LoadAt (n ∷ vs) d = range_falls _ n s _ (wanted _ s (goes_to (s.current.place + 1) (pos 0 ∷ vs) s) refl (omega (arith, next_falls t.LoadAt d refl)))
        act_falls t.Store (v ∷ vs) d = wanted _ s (goes_to (s.current.place + 1) vs s) refl (omega (arith, next_falls t.Store d refl))
        act_falls t.StoreAt (v ∷ n ∷ vs) d = range_falls _ n s _ (wanted _ s (goes_to (s.current.place + 1) vs s) refl (omega (arith, next_falls t.StoreAt d refl)))
        act_falls (t.Lift o) (x ∷ vs) d = result_falls _ _ vs (next_falls (t.Lift o) d refl)
        act_falls (t.Join o) (y ∷ x ∷ vs) d = result_falls _ _ vs (next_falls (t.Join o) d refl)
        act_falls t.Jump vs d = moves _ vs (jump_falls t.Jump d refl f (tested _ _ _ (fine t.Jump d)))
        act_falls t.JumpZero (v ∷ vs) d = moves _ vs (either (is_zero v) (index i.a) (s.current.place + 1) (rank code s.current.place) (jump_falls t.JumpZero d refl f (tested _ _ _ (fine t.JumpZero d))) (next_falls t.JumpZero d refl))
          where
            either : (b : Bool) (p q n : ℕ) → rank code p < n → rank code q < n → rank code (if b then p else q) < n
            either true p q n g h = g
            either false p q n g h = h
        act_falls t.Call vs d = spent_falls s (λ u. coded.begins_call (slice_get code.funcs (index i.a)) (s.current.place + 1) vs u) (λ lt. called_falls (slice_get code.funcs (index i.a)) _ vs s lt)
        act_falls t.Ret (v ∷ vs) d = returned_falls s.callers v s refl
        act_falls t.Drop (v ∷ vs) d = moves _ vs (next_falls t.Drop d refl)
        act_falls t.Out (v ∷ vs) d = wanted _ s (goes_to (s.current.place + 1) vs s) refl (omega (arith, next_falls t.Out d refl))
        act_falls t.Begin vs d = wanted Begin s (record (goes_to (s.current.place + 1) vs s) { scopes = one_inside s.scopes }) refl (omega (arith, next_falls t.Begin d refl))
        act_falls t.End vs d = omega (arith, next_falls t.End d refl)
        act_falls t.Fork vs d = counted_falls s (λ u. wants Fork (record (goes_to (index i.a) vs u) { scopes = one_more u.scopes; beside = s.current.place + 1 })) (by (length s.callers) (jump_falls t.Fork d refl f (tested _ _ _ (fine t.Fork d))) (next_falls t.Fork d refl))
          where
            by : (n : ℕ) {q r p : ℕ} → q < p → r < p → suc (max ((length code.instrs + 2) * (2 * (s.limits.fuel - s.fuel) + n) + q) ((length code.instrs + 2) * (2 * (s.limits.fuel - s.fuel) + 0) + r)) ≤ (length code.instrs + 2) * (2 * (s.limits.fuel - s.fuel) + n) + p
            by n {r = r} l m = omega (arith, l, m, no_heavier (length code.instrs) (2 * (s.limits.fuel - s.fuel) + 0) (2 * (s.limits.fuel - s.fuel) + n) r (omega arith))
        act_falls t.Sync vs d = waited_falls s.scopes _ vs (next_falls t.Sync d refl)
        act_falls t.Done vs d = ended_falls s s.scopes
        act_falls t.Tick vs d = spent_falls s (λ u. on (goes_to (s.current.place + 1) vs u)) (λ lt. lighter (length code.instrs) _ _ (rank code (s.current.place + 1)) (rank code s.current.place) (omega (arith, lt)) (rank_low (s.current.place + 1)))
        act_falls t.Cancel vs d = wanted Cancel s (goes_to (s.current.place + 1) vs s) refl (omega (arith, next_falls t.Cancel d refl))
        act_falls t.Set [] d = tt
        act_falls t.LoadAt [] d = tt
        act_falls t.Store [] d = tt
        act_falls t.StoreAt [] d = tt
        act_falls t.StoreAt (v ∷ []) d = tt
        act_falls (t.Lift o) [] d = tt
        act_falls (t.Join o) [] d = tt
        act_falls (t.Join o) (x ∷ []) d = tt
        act_falls t.JumpZero [] d = tt
        act_falls t.Ret [] d = tt
        act_falls t.Drop [] d = tt
        act_falls t.Out [] d = tt

    -- less to do by itself is less of all
    less_of_all : (s u : State) → steps_left code u < steps_left code s → u.limits ≡ s.limits → whole.bound u < whole.bound s
    less_of_all s u less same =
        let n : u.limits.size ≡ s.limits.size = ap (λ (l : Limits). l.size) same in
        let lt = lighter s.limits.size (steps_left code u) (steps_left code s) (s.limits.size + 1 - u.size) (s.limits.size + 1 - s.size) less (omega arith) in
        subst (λ m. (m + 2) * steps_left code u + (m + 1 - u.size) < whole.bound s) (sym n) lt

    no_more_of_all : (s u : State) → steps_left code u ≤ steps_left code s → Keeps s u → whole.bound u ≤ whole.bound s
    no_more_of_all s u low kept =
        let n : u.limits.size ≡ s.limits.size = ap (λ (l : Limits). l.size) kept.limits in
        let le : (s.limits.size + 2) * steps_left code u + (s.limits.size + 1 - u.size) ≤ whole.bound s = omega (arith, no_heavier s.limits.size (steps_left code u) (steps_left code s) (s.limits.size + 1 - u.size) low, kept.counted) in
        subst (λ m. (m + 2) * steps_left code u + (m + 1 - u.size) ≤ whole.bound s) (sym n) le

    -- what a step leads to has less to do and to write back
    abbrev FallsAll : State → Step → Type 0
    FallsAll s (on u) = whole.bound u < whole.bound s
    FallsAll s (wants w u) = depth_of whole w u ≤ whole.bound s
    FallsAll s stuck = Unit {0}

    want_falls_all : (s u : State) (w : Want) → depth_of run w u ≤ steps_left code s → Keeps s u → depth_of whole w u ≤ whole.bound s
    want_falls_all s u Fork low kept = omega (arith, less_of_all s u (omega (arith, low)) kept.limits, less_of_all s (coded.left u) (omega (arith, low)) kept.limits)
    want_falls_all s u Sync low kept = no_more_of_all s u low kept
    want_falls_all s u Done low kept = no_more_of_all s u low kept
    want_falls_all s u (Fault k) low kept = no_more_of_all s u low kept
    want_falls_all s u w low kept = omega (arith, less_of_all s u (omega (arith, low)) kept.limits)

    all_falls : (s : State) (x : Step) → Falls s x → StepKeeps s x → FallsAll s x
    all_falls s (on u) h kept = less_of_all s u h kept.limits
    all_falls s (wants w u) h kept = want_falls_all s u w h kept
    all_falls s stuck h kept = tt

    either_all : (s : State) (b : Bool) (x y : Step) → (b ≡ true → FallsAll s x) → (b ≡ false → FallsAll s y) → FallsAll s (if b then x else y)
    either_all s true x y g h = g refl
    either_all s false x y g h = h refl

    module _ (ok : faults code ≡ []) where
      at_falls : (s : State) (o : Option Instr) → slice_get code.instrs s.current.place ≡ o → Falls s (coded.step_at code o s)
      at_falls s None is = tt
      at_falls s (Some i) is =
          let w = owner code ok s.current.place (slice_get_within code.instrs s.current.place i is) in
          let ops = operands_fine code ok w.func s.current.place w.declared w.inside i is in
          let e = has_effect code w.func s.current.place i (effect_of i) ops in
          subst (λ o. Falls s (coded.act_of code o i s)) (sym e.1)
          (act_falls s i is w.func (λ x d. subst (λ o. operand_faults code w.func s.current.place i o ≡ []) d ops) e.0 s.current.operands e.1)

      step_falls : (s : State) → FallsAll s (coded.step code s)
      step_falls s = either_all s (nat_lt s.limits.size s.size) _ _ (λ _. omega arith) (λ _. by s.back)
        where
          by : (bs : List Back) → FallsAll s (coded.writes_back code bs s)
          by [] = all_falls s _ (at_falls s (slice_get code.instrs s.current.place) refl) (step_keeps code s (slice_get code.instrs s.current.place))
          by (b ∷ bs) = either_all s (nat_le s.limits.size s.size) _ _ (λ _. omega arith) (λ e. omega (arith, leb-false s.limits.size s.size e))

      answered_falls : (given : Given) (s : State) → whole.bound (with_value given s) ≤ whole.bound s
      answered_falls Nothing s = omega arith
      answered_falls (Value v) s = omega arith
      answered_falls (Wrote bs) s = omega arith

      -- what is left to do falls with each step
      pub bounded : IsBounded whole
      bounded = record {
        on = λ s u is. subst (FallsAll s) is (step_falls s);
        want = λ s u w is. subst (FallsAll s) is (step_falls s);
        answered = answered_falls;
        joined = λ r l. no_more_of_all r (joined r l) (no_heavier (length code.instrs) _ _ (rank code r.current.place) (omega arith)) (record { limits = refl; counted = omega arith; back = refl });
      }
