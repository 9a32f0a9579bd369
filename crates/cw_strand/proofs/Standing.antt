-- A strand of code without faults always has what its next instruction needs.
use Rattle.std.proofs.Common.{◌≡◌, ℕ, zero, suc, ◌+◌, ◌-◌, ◌<◌, ◌≤◌, Bool, true, false, max, min, List, [], ◌∷◌, length, drop, reverse, Option, Some, Result, Ok, Err, refl, sym, ap, ◌∙◌, subst, arith, ℤ, pos, negsuc, length-append, length-drop, nat_lt}
use Rattle.std.specs.Prelude.{slice_get, Contains, if◌then◌else◌, nat_le}
use Rattle.std.proofs.Math.Nat.{le-max_left}
use Rattle.std.proofs.lemmas.List.{nil_from_length, length-reverse, length-set, length-replicate, length-take-le}
use Rattle.std.proofs.lemmas.Bool.{ltb-false, ltb-true}
use Rattle.cw_code.specs.declared.instruction.Instr.{Instr}
use Rattle.cw_code.specs.declared.instruction.Func.{Func}
use Rattle.cw_code.specs.declared.instruction.Code.{Code}
use Rattle.cw_code.specs.declared.FaultKind.{FaultKind}
use Rattle.cw_code.specs.declared.FaultKind.TheVariants.{Range, Depth, Fuel, Size}
use Rattle.cw_code.specs.declared.Limits.{Limits}
use Rattle.cw_code.specs.declared.effects.Effect.{Effect}
use Rattle.cw_code.specs.declared.effects.Effect.TheVariants as t
use Rattle.cw_code.specs.Table.{taken, left_there}
use Rattle.cw_code.specs.Rules.{Situation, at_start, blocks_in, effect_of, never_passed, jumps, called, params_of, is_target, operand_faults, situation_faults, places, onwards, passed, faults}
use Rattle.cw_code.proofs.Sound.{contained, laid, is_inside, inside_is, instr_at, operands_fine, situation_fine, has_effect, start_known, Around, around, next_is, target_found, below_names, target_is, tested}
use Rattle.cw_strand.specs.declared.want.Want.{Want}
use Rattle.cw_strand.specs.declared.want.Want.TheVariants.{Begin, End, Fork, Sync, Done, Fault, Store}
use Rattle.cw_strand.specs.declared.want.Given.{Given}
use Rattle.cw_strand.specs.declared.want.Given.TheVariants.{Nothing, Value, Back as Wrote}
use Rattle.cw_code.specs.declared.Back.{Back}
use Rattle.cw_strand.specs.Running.{on, wants, stuck, Visits, starts, steps, answers, goes_left, goes_right, joins}
use Rattle.cw_strand.specs.Arithmetic.{is_zero}
use Rattle.cw_strand.specs.Meaning.{in_place, one_more, one_inside, both_counts, most_frames}
use Rattle.cw_strand.specs.Coded as coded
use Rattle.cw_strand.specs.Coded.{Frame, State, Step, index, goes_to, with_value, locals_for, joined, counted, counts, spends, result, in_range, read_local, write_local, returned, wait_in, starts_at}
use Rattle.cw_strand.specs.Standing.{ends, is_end, StandsAt, WaitAt, NoneOver, StandsIn, HasBegun, StandsWanting, StepStands}

there : {X : Type 0} (xs : List X) (n : ℕ) → n < length xs → (x : X) × (slice_get xs n ≡ Some x)
there [] n lt = absurd (omega arith)
there (x ∷ xs) zero lt = (x, refl)
there (x ∷ xs) (suc n) lt = there xs n (omega arith)

-- ## Scopes

over_less : (m n : ℕ) (ns : List ℕ) → m ≤ n → NoneOver m ns → NoneOver n ns
over_less m n [] le low = tt
over_less m n (k ∷ ns) le low = (omega (arith, le, low.0), over_less m n ns le low.1)

over_behind : (m : ℕ) (ns : List ℕ) → NoneOver m ns → NoneOver m (drop 1 ns)
over_behind m [] low = tt
over_behind m (k ∷ ns) low = low.1

over_more : (m : ℕ) (ns : List ℕ) → NoneOver m ns → NoneOver (m + 1) (one_more ns)
over_more m [] low = (omega arith, tt)
over_more m (k ∷ ns) low = (omega (arith, low.0), over_less m (m + 1) ns (omega arith) low.1)

over_inside : (m : ℕ) (ns : List ℕ) → NoneOver m ns → NoneOver m (one_inside ns)
over_inside m [] low = (omega arith, (omega arith, tt))
over_inside m (k ∷ ns) low = (omega arith, low)

-- a scope that is opened inside those that are open has one around it
one_around : (ns : List ℕ) → (around : ℕ) × (outer : List ℕ) × (one_inside ns ≡ 0 ∷ around ∷ outer)
one_around [] = (0, [], refl)
one_around (n ∷ ns) = (n, ns, refl)

-- ## Steps

-- what goes on is no end
passed_no_end : (e : Effect) → never_passed (Some e) ≡ false → ends (Some e) ≡ false
passed_no_end t.Ret goes = absurd cc
passed_no_end t.Done goes = absurd cc
passed_no_end e goes = refl

jump_no_end : (e : Effect) → jumps (Some e) ≡ true → ends (Some e) ≡ false
jump_no_end t.Ret goes = absurd cc
jump_no_end t.Done goes = absurd cc
jump_no_end e goes = refl

module _ (code : Code) where
  stands_either : (b : Bool) (x y : Step) → (b ≡ true → StepStands code x) → (b ≡ false → StepStands code y) → StepStands code (if b then x else y)
  stands_either true x y g h = g refl
  stands_either false x y g h = h refl

  -- at a want at which no strand forks and no block begins
  at_want : (w : Want) (s : State) → (w ≡ Fork → ⊥) → (w ≡ Begin → ⊥) → StandsIn code s → StandsWanting code w s
  at_want w s no_fork no_begin h = record { stands = h; beside = λ is. absurd (no_fork is); begun = λ is. absurd (no_begin is) }

  at_fault : (k : FaultKind) (s : State) → StandsIn code s → StepStands code (wants (Fault k) s)
  at_fault k s h = at_want (Fault k) s (λ is. cc) (λ is. cc) h

  pub given_stands : (given : Given) (s : State) → StandsIn code s → StandsIn code (with_value given s)
  given_stands Nothing s h = h
  given_stands (Value v) s h = record { current = subst (λ n. StandsAt code s.current.place (length s.current.locals) n) (same_length s.current.operands) h.current; callers = h.callers; scopes = h.scopes }
    where
      same_length : (vs : List ℤ) → length vs ≡ length (in_place v vs)
      same_length [] = refl
      same_length (x ∷ vs) = refl
  given_stands (Wrote bs) s h = record { current = h.current; callers = h.callers; scopes = h.scopes }

  -- with more fuel spent, and no less counted
  pub grown_stands : (s : State) (fuel size : ℕ) → s.size ≤ size → StandsIn code s → StandsIn code (record s { fuel = fuel; size = size })
  grown_stands s fuel size le h = record { current = h.current; callers = h.callers; scopes = over_less s.size size s.scopes le h.scopes }

  -- at an end its locals may be gone
  ended_stands : (ns : List ℕ) (s : State) → is_end (slice_get code.instrs s.current.place) ≡ true → StandsIn code s → StandsIn code (coded.ended ns s)
  ended_stands [] s is f = f
  ended_stands (n ∷ []) s is f =
      let at = f.current in
      record {
        current = record {
          func = at.func;
          declared = at.declared;
          within = at.within;
          situation = at.situation;
          known = at.known;
          operands_there = at.operands_there;
          locals_there = λ off. absurd (let no : true ≡ false = sym is ∙ off in cc);
        };
        callers = f.callers;
        scopes = tt;
      }
  ended_stands (n ∷ m ∷ ns) s is f = f

  pub joined_stands : (s t : State) → StandsIn code s → StandsIn code (joined s t)
  joined_stands s t = grown_stands s (max t.fuel s.fuel) (both_counts s.limits s.size t.size) (le-max_left s.size (min (suc s.limits.size) (t.size + s.size)))

module _ (code : Code) (ok : faults code ≡ []) where
  -- what is known at an instruction
  pub record Here (p n h : ℕ) (i : Instr) (e : Effect) : Type 0 where
    pub at : StandsAt code p n h
    pub is : slice_get code.instrs p ≡ Some i
    pub does : effect_of i ≡ Some e
    pub operands : operand_faults code at.func p i (Some e) ≡ []
    pub around : Around code at.func (places code at.func) p i (Some e) at.situation
    pub room : taken e (called code i.a) ≤ h

  -- the locals are there, but where a strand is done
  pub locals_here : {p n h : ℕ} {i : Instr} {e : Effect} → (w : Here p n h i e) → ends (Some e) ≡ false → w.at.func.locals ≡ n
  locals_here w off = w.at.locals_there (ap is_end w.is ∙ ap ends w.does ∙ off)

  -- the height behind an instruction
  behind_height : (e : Effect) (i : Instr) (s : Situation) → (onwards code i (Some e) s).height ≡ s.height - taken e (called code i.a) + left_there e
  behind_height t.Fork i s = omega arith
  behind_height e i s = refl

  onward : {p n h : ℕ} {i : Instr} {e : Effect} → Here p n h i e → never_passed (Some e) ≡ false → (m : ℕ) → m ≡ h - taken e (called code i.a) + left_there e → StandsAt code (p + 1) n m
  onward {p = p} {i = i} {e = e} w goes m eq =
      let at = w.at in
      let in_f = is_inside at.func p at.within in
      let q = next_is code at.func p (Some e) in_f goes (w.around.last goes) in
      record {
        func = at.func;
        declared = at.declared;
        within = inside_is code at.func (p + 1) (omega (arith, in_f.from)) (omega (arith, in_f.to, w.around.last goes));
        situation = onwards code i (Some e) at.situation;
        known = w.around.next (p + 1) q;
        operands_there = omega (arith, behind_height e i at.situation, at.operands_there, eq);
        locals_there = λ off. locals_here w (passed_no_end e goes);
      }

  jumped : {p n h : ℕ} {i : Instr} {e : Effect} → (w : Here p n h i e) → jumps (Some e) ≡ true → is_target code w.at.func p i.a ≡ true → (m : ℕ) → m ≡ h - taken e (called code i.a) + left_there e → StandsAt code (index i.a) n m
  jumped {p = p} {n = n} {i = i} {e = e} w j is m eq =
      let at = w.at in
      let to = target_is code at.func p i.a is in
      let q = target_found code at.func i (Some e) to.0 j to.1 to.2 in
      let here : StandsAt code to.0 n m = record {
        func = at.func;
        declared = at.declared;
        within = to.2;
        situation = passed code i (Some e) at.situation;
        known = w.around.target to.0 q;
        operands_there = omega (arith, at.operands_there, eq);
        locals_there = λ off. locals_here w (jump_no_end e j);
      } in
      subst (λ k. StandsAt code k n m) (sym (ap index to.1)) here

  counted_stands : (s : State) (go : State → Step) → StandsIn code s → StepStands code (go (record s { size = s.size + 1 })) → StepStands code (counted s go)
  counted_stands s go f g = stands_either code (nat_le s.limits.size s.size) _ _ (λ e. at_fault code Size s f) (λ e. g)

  wants_counted : (w : Want) (s : State) → (w ≡ Fork → ⊥) → (w ≡ Begin → ⊥) → StandsIn code s → StepStands code (counts w s)
  wants_counted w s no_fork no_begin f = counted_stands s (λ u. wants w u) f (at_want code w (record s { size = s.size + 1 }) no_fork no_begin (record { current = f.current; callers = f.callers; scopes = over_less s.size (s.size + 1) s.scopes (omega arith) f.scopes }))

  spent_stands : (s : State) (go : State → Step) → StandsIn code s → StepStands code (go (record s { fuel = s.fuel + 1 })) → StepStands code (spends s go)
  spent_stands s go f g = stands_either code (nat_le s.limits.fuel s.fuel) _ _ (λ e. at_fault code Fuel s f) (λ e. g)

  result_stands : (r : Result ℤ FaultKind) (p : ℕ) (vs : List ℤ) (s : State) → StandsIn code s → StandsAt code p (length s.current.locals) (suc (length vs)) → StepStands code (result r p vs s)
  result_stands (Ok v) p vs s f h = record { current = h; callers = f.callers; scopes = f.scopes }
  result_stands (Err k) p vs s f h = at_fault code k s f

  range_stands : (len : ℕ) (z : ℤ) (s : State) (go : Step) → StandsIn code s → StepStands code go → StepStands code (in_range len z s go)
  range_stands len (negsuc n) s go f g = at_fault code Range s f
  range_stands len (pos n) s go f g = stands_either code (nat_lt n len) _ _ (λ e. g) (λ e. at_fault code Range s f)

  read_stands : (o : Option ℤ) (x : ℤ) → o ≡ Some x → (p : ℕ) (vs : List ℤ) (s : State) → StandsIn code s → StandsAt code p (length s.current.locals) (suc (length vs)) → StepStands code (read_local o p vs s)
  read_stands o x e p vs s f h = rw e (record { current = h; callers = f.callers; scopes = f.scopes })

  write_stands : (n : ℕ) (v : ℤ) (p : ℕ) (vs : List ℤ) (s : State) → n < length s.current.locals → StandsIn code s → StandsAt code p (length s.current.locals) (length vs) → StepStands code (write_local n v p vs s)
  write_stands n v p vs s lt f h =
      stands_either code (nat_lt n (length s.current.locals)) _ _
      (λ e. record { current = subst (λ m. StandsAt code p m (length vs)) (sym (length-set s.current.locals n v)) h; callers = f.callers; scopes = f.scopes })
      (λ e. absurd (omega (arith, lt, ltb-false n (length s.current.locals) e)))

  waited_stands : (ns : List ℕ) (p : ℕ) (vs : List ℤ) (s : State) → NoneOver s.size ns → StandsIn code s → StandsIn code (goes_to p vs s) → StepStands code (wait_in ns p vs s)
  waited_stands [] p vs s low f g = g
  waited_stands (zero ∷ ns) p vs s low f g = g
  waited_stands (suc n ∷ ns) p vs s low f g = at_want code Sync (record s { scopes = n ∷ ns }) (λ is. cc) (λ is. cc) (record { current = f.current; callers = f.callers; scopes = (omega (arith, low.0), low.1) })

  returned_stands : (fs : List Frame) (v : ℤ) (s : State) → is_end (slice_get code.instrs s.current.place) ≡ true → StandsIn code s → WaitAt code fs → StepStands code (returned fs v s)
  returned_stands [] v s end f w = at_want code Done (coded.ended s.scopes s) (λ is. cc) (λ is. cc) (ended_stands code s.scopes s end f)
  returned_stands (g ∷ fs) v s end f w = record { current = w.0; callers = w.1; scopes = over_behind s.size s.scopes f.scopes }

  -- a function begins, with its arguments and zeros
  pub begins : (g : Func) (vs : List ℤ) → Contains code.funcs g → g.params ≤ length vs → StandsAt code g.start (length (locals_for g vs)) 0
  begins g vs co le =
      let li = laid code ok g co in
      let pl = li.locals in
      let len : g.locals ≡ length (locals_for g vs) = simp (length-append, length-reverse, length-replicate, length-take-le g.params vs le) (omega arith) in
      record { func = g; declared = co; within = inside_is code g g.start (omega arith) li.starts; situation = at_start; known = start_known code g li.starts; operands_there = refl; locals_there = λ off. len }

  called_stands : (o : Option Func) (g : Func) → o ≡ Some g → Contains code.funcs g → (p : ℕ) (vs : List ℤ) (s : State) → g.params ≤ length vs → StandsIn code s → StandsAt code p (length s.current.locals) (suc (length (drop g.params vs))) → StepStands code (coded.begins_call o p vs s)
  called_stands o g e co p vs s le f h =
      rw e (stands_either code (nat_lt (length vs) g.params) _ _
      (λ few. absurd (omega (arith, le, ltb-true (length vs) g.params few)))
      (λ enough. stands_either code (nat_le most_frames (length s.callers + 1)) _ _ (λ deep. at_fault code Depth s f) (λ room. record { current = begins g vs co le; callers = (h, f.callers); scopes = (omega arith, f.scopes) })))

  module _ (i : Instr) (s : State) (f : StandsIn code s) (empty : s.back ≡ []) where
    -- a place and operands at which the current function stands
    moved : (p : ℕ) (vs : List ℤ) → StandsAt code p (length s.current.locals) (length vs) → StandsIn code (goes_to p vs s)
    moved p vs h = record { current = h; callers = f.callers; scopes = f.scopes }

    -- a block has begun where no operand was left
    begun_block : (vs : List ℤ) → Here s.current.place (length s.current.locals) (length vs) i t.Begin → length vs ≡ 0 → HasBegun code (record (goes_to (s.current.place + 1) vs s) { scopes = one_inside s.scopes; size = s.size + 1 })
    unfolding onward
    begun_block vs w none = record {
      operands = nil_from_length vs none;
      around = (one_around s.scopes).0;
      scopes = (one_around s.scopes).1;
      opened = (one_around s.scopes).2;
      current = onward w refl 0 (omega (arith, none));
      within = let some : 0 < blocks_in w.at.situation.parts + 1 = omega arith in some;
      back = empty;
    }

    act_stands : (e : Effect) (vs : List ℤ) → Here s.current.place (length s.current.locals) (length vs) i e → StepStands code (coded.act code e i (s.current.place + 1) vs s)
    act_stands t.Push vs w = moved _ (i.a ∷ vs) (onward w refl _ (omega arith))
    act_stands t.Local vs w =
        let n = below_names i.a w.at.func.locals (tested _ _ _ w.operands) in
        let x = there s.current.locals n.0 (omega (arith, n.2, locals_here w refl)) in
        let here : slice_get s.current.locals (index i.a) ≡ Some x.0 = ap (λ z. slice_get s.current.locals (index z)) n.1 ∙ x.1 in
        read_stands (slice_get s.current.locals (index i.a)) x.0 here (s.current.place + 1) vs s f (onward w refl _ (omega arith))
    act_stands t.Set (v ∷ vs) w =
        let n = below_names i.a w.at.func.locals (tested _ _ _ w.operands) in
        let lt : index i.a < length s.current.locals = subst (λ z. index z < length s.current.locals) (sym n.1) (omega (arith, n.2, locals_here w refl)) in
        write_stands (index i.a) v (s.current.place + 1) vs s lt f (onward w refl _ (omega arith))
    act_stands t.Load vs w = wants_counted _ _ (λ is. cc) (λ is. cc) (moved _ (pos 0 ∷ vs) (onward w refl _ (omega arith)))
    act_stands t.LoadAt (n ∷ vs) w = range_stands _ n s _ f (wants_counted _ _ (λ is. cc) (λ is. cc) (moved _ (pos 0 ∷ vs) (onward w refl _ (omega arith))))
    act_stands t.Store (v ∷ vs) w = wants_counted _ _ (λ is. cc) (λ is. cc) (moved _ vs (onward w refl _ (omega arith)))
    act_stands t.StoreAt (v ∷ n ∷ vs) w = range_stands _ n s _ f (wants_counted _ _ (λ is. cc) (λ is. cc) (moved _ vs (onward w refl _ (omega arith))))
    act_stands (t.Lift o) (x ∷ vs) w = result_stands _ (s.current.place + 1) vs s f (onward w refl _ (omega arith))
    act_stands (t.Join o) (y ∷ x ∷ vs) w = result_stands _ (s.current.place + 1) vs s f (onward w refl _ (omega arith))
    act_stands t.Jump vs w = moved _ vs (jumped w refl (tested _ _ _ w.operands) _ (omega arith))
    act_stands t.JumpZero (v ∷ vs) w =
        let m : length vs ≡ length (v ∷ vs) - taken t.JumpZero (called code i.a) + left_there t.JumpZero = omega arith in
        moved _ vs (either (is_zero v) (jumped w refl (tested _ _ _ w.operands) _ m) (onward w refl _ m))
      where
        either : (b : Bool) {n h x y : ℕ} → StandsAt code x n h → StandsAt code y n h → StandsAt code (if b then x else y) n h
        either true a b = a
        either false a b = b
    act_stands t.Call vs w =
        let n = below_names i.a (length code.funcs) (tested _ _ _ w.operands) in
        let x = there code.funcs n.0 n.2 in
        let here : slice_get code.funcs (index i.a) ≡ Some x.0 = ap (λ z. slice_get code.funcs (index z)) n.1 ∙ x.1 in
        let count : called code i.a ≡ x.0.params = ap (called code) n.1 ∙ ap params_of x.1 in
        let spent = record s { fuel = s.fuel + 1 } in
        spent_stands s (λ u. coded.begins_call (slice_get code.funcs (index i.a)) (s.current.place + 1) vs u) f
        (called_stands (slice_get code.funcs (index i.a)) x.0 here (contained code.funcs n.0 x.0 x.1) (s.current.place + 1) vs spent (omega (arith, w.room, count)) (record { current = f.current; callers = f.callers; scopes = f.scopes }) (onward w refl _ (omega (arith, w.room, count, length-drop x.0.params vs))))
    act_stands t.Ret (v ∷ vs) w = returned_stands s.callers v s (ap is_end w.is ∙ ap ends w.does) f f.callers
    act_stands t.Drop (v ∷ vs) w = moved _ vs (onward w refl _ (omega arith))
    act_stands t.Out (v ∷ vs) w = wants_counted _ _ (λ is. cc) (λ is. cc) (moved _ vs (onward w refl _ (omega arith)))
    act_stands t.Begin vs w =
        let here : StandsAt code (s.current.place + 1) (length s.current.locals) (length vs) = onward w refl _ (omega arith) in
        let none : length vs ≡ 0 = omega (arith, w.at.operands_there, w.around.border refl) in
        let begun : State = record (goes_to (s.current.place + 1) vs s) { scopes = one_inside s.scopes } in
        counted_stands begun (λ u. wants Begin u) (record { current = here; callers = f.callers; scopes = over_inside s.size s.scopes f.scopes }) (record {
          stands = record { current = here; callers = f.callers; scopes = over_inside (s.size + 1) s.scopes (over_less s.size (s.size + 1) s.scopes (omega arith) f.scopes) };
          beside = λ is. absurd (let no : Begin ≡ Fork = is in cc);
          begun = λ is. begun_block vs w none;
        })
    act_stands t.End vs w = at_want code End (record (goes_to (s.current.place + 1) vs s) { scopes = drop 1 s.scopes }) (λ is. cc) (λ is. cc) (record { current = onward w refl _ (omega arith); callers = f.callers; scopes = over_behind s.size s.scopes f.scopes })
    act_stands t.Fork vs w =
        let none : length vs ≡ 0 = omega (arith, w.at.operands_there, w.around.border refl) in
        counted_stands s (λ u. wants Fork (record (goes_to (index i.a) vs u) { scopes = one_more u.scopes; beside = s.current.place + 1 })) f (record {
          stands = record { current = jumped w refl (tested _ _ _ w.operands) _ (omega arith); callers = f.callers; scopes = over_more s.size s.scopes f.scopes };
          beside = λ is. record { current = onward w refl _ (omega arith); callers = tt; scopes = (omega arith, tt) };
          begun = λ is. absurd (let no : Fork ≡ Begin = is in cc);
        })
    act_stands t.Sync vs w = waited_stands s.scopes (s.current.place + 1) vs s f.scopes f (moved _ vs (onward w refl _ (omega arith)))
    act_stands t.Done vs w = at_want code Done (coded.ended s.scopes s) (λ is. cc) (λ is. cc) (ended_stands code s.scopes s (ap is_end w.is ∙ ap ends w.does) f)
    act_stands t.Tick vs w = spent_stands s (λ u. on (goes_to (s.current.place + 1) vs u)) f (record { current = onward w refl _ (omega arith); callers = f.callers; scopes = f.scopes })
    act_stands t.Cancel vs w = wants_counted _ _ (λ is. cc) (λ is. cc) (moved _ vs (onward w refl _ (omega arith)))
    act_stands t.Set [] w = absurd (omega (arith, w.room))
    act_stands t.LoadAt [] w = absurd (omega (arith, w.room))
    act_stands t.Store [] w = absurd (omega (arith, w.room))
    act_stands t.StoreAt [] w = absurd (omega (arith, w.room))
    act_stands t.StoreAt (v ∷ []) w = absurd (omega (arith, w.room))
    act_stands (t.Lift o) [] w = absurd (omega (arith, w.room))
    act_stands (t.Join o) [] w = absurd (omega (arith, w.room))
    act_stands (t.Join o) (x ∷ []) w = absurd (omega (arith, w.room))
    act_stands t.JumpZero [] w = absurd (omega (arith, w.room))
    act_stands t.Ret [] w = absurd (omega (arith, w.room))
    act_stands t.Drop [] w = absurd (omega (arith, w.room))
    act_stands t.Out [] w = absurd (omega (arith, w.room))

  -- what stands at the current place
  pub record Next (s : State) : Type 0 where
    pub instr : Instr
    pub effect : Effect
    pub does : effect_of instr ≡ Some effect
    pub here : Here s.current.place (length s.current.locals) (length s.current.operands) instr effect

  pub next : (s : State) → StandsIn code s → Next s
  next s f =
      let at = f.current in
      let in_f = is_inside at.func s.current.place at.within in
      let is = instr_at code ok at.func s.current.place at.declared in_f in
      let i = is.0 in
      let ops = operands_fine code ok at.func s.current.place at.declared in_f i is.1 in
      let sit = situation_fine code ok at.func s.current.place at.declared in_f i is.1 at.situation at.known in
      let e = has_effect code at.func s.current.place i (effect_of i) ops in
      let ops2 = subst (λ o. operand_faults code at.func s.current.place i o ≡ []) e.1 ops in
      let sit2 = around code at.func (places code at.func) s.current.place i (Some e.0) at.situation (subst (λ o. situation_faults code at.func (places code at.func) s.current.place i o at.situation ≡ []) e.1 sit) in
      record { instr = i; effect = e.0; does = e.1; here = record { at = at; is = is.1; does = e.1; operands = ops2; around = sit2; room = omega (arith, sit2.room, at.operands_there) } }

  -- no step of a strand that stands is stuck, and what it leads to stands
  pub step_stands : (s : State) → StandsIn code s → StepStands code (coded.step code s)
  step_stands s f =
      stands_either code (nat_lt s.limits.size s.size) _ _
      (λ e. at_fault code Size s f)
      (λ e. by s.back refl)
    where
      by : (bs : List Back) → s.back ≡ bs → StepStands code (coded.writes_back code bs s)
      by [] empty =
          let n = next s f in
          subst (λ o. StepStands code (coded.step_at code o s)) (sym n.here.is)
          (subst (λ o. StepStands code (coded.act_of code o n.instr s)) (sym n.does)
          (act_stands n.instr s f empty n.effect s.current.operands n.here))
      by (b ∷ bs) some = wants_counted (Store b.cell b.value) (record s { back = bs }) (λ is. cc) (λ is. cc) (record { current = f.current; callers = f.callers; scopes = f.scopes })

  module _ (main : ℕ) (words : List ℤ) (limits : Limits) (takes : coded.MainTakes code main (length words)) where
    first_stands : StandsIn code (coded.runs code main words limits).first
    first_stands =
        let f = takes.0 in
        let le : f.params ≤ length (reverse words) = simp length-reverse (omega (arith, takes.2)) in
        let co = contained code.funcs main f takes.1 in
        let starts : StandsIn code (starts_at code (Some f) (reverse words) limits) = record { current = begins f (reverse words) co le; callers = tt; scopes = (omega arith, tt) } in
        subst (λ o. StandsIn code (starts_at code o (reverse words) limits)) (sym takes.1) starts

    pub stands_first : (s : State) → s ≡ (coded.runs code main words limits).first → StandsIn code s
    stands_first s is = subst (StandsIn code) (sym is) first_stands

    pub visited_stands : (s : State) → Visits (coded.runs code main words limits) s → StandsIn code s
    visited_stands s starts = first_stands
    visited_stands t (steps {s = s} v is) = subst (StepStands code) is (step_stands s (visited_stands s v))
    visited_stands u (answers {s = s} {t = t} v is given) = given_stands code given t (subst (StepStands code) is (step_stands s (visited_stands s v))).stands
    visited_stands u (goes_left {s = s} v is) = (subst (StepStands code) is (step_stands s (visited_stands s v))).beside refl
    visited_stands u (goes_right {s = s} v is) = (subst (StepStands code) is (step_stands s (visited_stands s v))).stands
    visited_stands u (joins {s = s} {t = t} {v = y} v is w js) = joined_stands code t y (subst (StepStands code) is (step_stands s (visited_stands s v))).stands

    -- no strand of verified code ever lacks what it needs
    pub never_stuck : (s : State) → Visits (coded.runs code main words limits) s → coded.step code s ≡ stuck → ⊥
    never_stuck s v is = subst (StepStands code) is (step_stands s (visited_stands s v))
