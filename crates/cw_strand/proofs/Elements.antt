-- Strands of code that breaks no rule load and store only elements of the cells.
use Rattle.std.proofs.Common.{◌≡◌, ℕ, zero, suc, ◌+◌, ◌<◌, Bool, true, false, List, [], ◌∷◌, length, reverse, refl, sym, subst, arith, Option, Some, None, Result, Ok, Err, ℤ, pos, negsuc, nat_lt}
use Rattle.std.specs.Prelude.{slice_get, if◌then◌else◌, nat_le}
use Rattle.std.proofs.lemmas.Bool.{ltb-true, leb-true, and_parts}
use Rattle.std.proofs.lemmas.Option.{slice_get_within}
use Rattle.cw_code.specs.declared.instruction.Instr.{Instr}
use Rattle.cw_code.specs.declared.instruction.Func.{Func}
use Rattle.cw_code.specs.declared.instruction.Code.{Code}
use Rattle.cw_code.specs.declared.FaultKind.{FaultKind}
use Rattle.cw_code.specs.declared.Limits.{Limits}
use Rattle.cw_code.specs.declared.effects.Effect.{Effect}
use Rattle.cw_code.specs.declared.effects.Effect.TheVariants as t
use Rattle.cw_code.specs.Rules.{is_number_below, cells_below, effect_of, faults, operand_faults}
use Rattle.cw_code.proofs.Sound.{owner, operands_fine, has_effect, below_names, tested}
use Rattle.cw_strand.specs.declared.want.Want.{Want}
use Rattle.cw_strand.specs.declared.want.Want.TheVariants.{Out, Begin, Cancel}
use Rattle.cw_strand.specs.declared.want.Given.{Given}
use Rattle.cw_strand.specs.declared.want.Given.TheVariants.{Nothing, Value, Back as Wrote}
use Rattle.cw_code.specs.declared.Back.{Back}
use Rattle.cw_strand.specs.Strands.{Strands, AreElements, IsAnswer, GoesTo, Reached, stays, answered, joins, of_main, of_left, of_right}
use Rattle.cw_strand.specs.Running.{Standing, on, wants, stuck, stand}
use Rattle.cw_strand.specs.Coded as coded
use Rattle.cw_strand.specs.Meaning.{one_inside, most_frames}
use Rattle.cw_strand.specs.Coded.{Frame, State, Step, index, goes_to, counts, spends, result, in_range, read_local, returned, wait_in, with_value}
use Rattle.cw_strand.specs.Laws.{NamesElement}
use Rattle.cw_strand.proofs.Bounding.{bounded}
use Rattle.cw_strand.proofs.Counting.{StepKeeps, step_keeps}
use Rattle.cw_strand.proofs.Settling.{stand_holds}

-- a cell of an array
pub element_below : (a : ℤ) (len cells : ℕ) → cells_below a len cells ≡ true → (n : ℕ) → n < len → index a + n < cells
element_below (pos m) len cells e n lt = omega (arith, lt, leb-true (m + len) cells (and_parts (nat_lt m cells) (nat_le (m + len) cells) e).1)
element_below (negsuc m) len cells e n lt = absurd cc

pub cell_below : (a : ℤ) (cells : ℕ) → is_number_below a cells ≡ true → index a < cells
cell_below a cells e = let n = below_names a cells e in subst (λ z. index z < cells) (sym n.1) n.2

module _ (code : Code) where
  -- what a step wants names an element
  abbrev Names : Step → Type 0
  Names (on s) = Unit {0}
  Names (wants w s) = NamesElement code w
  Names stuck = Unit {0}

  names_either : (b : Bool) (x y : Step) → (b ≡ true → Names x) → (b ≡ false → Names y) → Names (if b then x else y)
  names_either true x y g h = g refl
  names_either false x y g h = h refl

  counted_names : (w : Want) (s : State) → NamesElement code w → Names (counts w s)
  counted_names w s h = names_either (nat_le s.limits.size s.size) _ _ (λ e. tt) (λ e. h)

  spent_names : (s : State) (go : State → Step) → Names (go (record s { fuel = s.fuel + 1 })) → Names (spends s go)
  spent_names s go h = names_either (nat_le s.limits.fuel s.fuel) _ _ (λ e. tt) (λ e. h)

  range_names : (len : ℕ) (z : ℤ) (s : State) (go : Step) → (index z < len → Names go) → Names (in_range len z s go)
  range_names len (negsuc n) s go h = tt
  range_names len (pos n) s go h = names_either (nat_lt n len) _ _ (λ e. h (ltb-true n len e)) (λ e. tt)

  result_names : (r : Result ℤ FaultKind) (p : ℕ) (vs : List ℤ) (s : State) → Names (result r p vs s)
  result_names (Ok v) p vs s = tt
  result_names (Err k) p vs s = tt

  read_names : (o : Option ℤ) (p : ℕ) (vs : List ℤ) (s : State) → Names (read_local o p vs s)
  read_names None p vs s = tt
  read_names (Some v) p vs s = tt

  returned_names : (fs : List Frame) (v : ℤ) (s : State) → Names (returned fs v s)
  returned_names [] v s = tt
  returned_names (f ∷ fs) v s = tt

  waited_names : (ns : List ℕ) (p : ℕ) (vs : List ℤ) (s : State) → Names (wait_in ns p vs s)
  waited_names [] p vs s = tt
  waited_names (zero ∷ ns) p vs s = tt
  waited_names (suc n ∷ ns) p vs s = tt

  called_names : (o : Option Func) (p : ℕ) (vs : List ℤ) (s : State) → Names (coded.begins_call o p vs s)
  called_names None p vs s = tt
  called_names (Some g) p vs s = names_either (nat_lt (length vs) g.params) _ _ (λ few. tt) (λ enough. names_either (nat_le most_frames (length s.callers + 1)) _ _ (λ e. tt) (λ e. tt))

  act_names : (f : Func) (q : ℕ) (e : Effect) (i : Instr) → operand_faults code f q i (Some e) ≡ [] → (p : ℕ) (vs : List ℤ) (s : State) → Names (coded.act code e i p vs s)
  act_names f q t.Load i ok p vs s = counted_names _ _ (cell_below i.a code.cells (tested _ _ _ ok))
  act_names f q t.LoadAt i ok p (n ∷ vs) s = range_names i.b n s _ (λ lt. counted_names _ _ (element_below i.a i.b code.cells (tested _ _ _ ok) (index n) lt))
  act_names f q t.Store i ok p (v ∷ vs) s = counted_names _ _ (cell_below i.a code.cells (tested _ _ _ ok))
  act_names f q t.StoreAt i ok p (v ∷ n ∷ vs) s = range_names i.b n s _ (λ lt. counted_names _ _ (element_below i.a i.b code.cells (tested _ _ _ ok) (index n) lt))
  act_names f q t.Push i ok p vs s = tt
  act_names f q t.Local i ok p vs s = read_names _ p vs s
  act_names f q t.Set i ok p (v ∷ vs) s = names_either (nat_lt (index i.a) (length s.current.locals)) _ _ (λ e. tt) (λ e. tt)
  act_names f q (t.Lift o) i ok p (x ∷ vs) s = result_names _ p vs s
  act_names f q (t.Join o) i ok p (y ∷ x ∷ vs) s = result_names _ p vs s
  act_names f q t.Jump i ok p vs s = tt
  act_names f q t.JumpZero i ok p (v ∷ vs) s = tt
  act_names f q t.Call i ok p vs s = spent_names s (λ u. coded.begins_call (slice_get code.funcs (index i.a)) p vs u) (called_names _ p vs _)
  act_names f q t.Ret i ok p (v ∷ vs) s = returned_names s.callers v s
  act_names f q t.Drop i ok p (v ∷ vs) s = tt
  act_names f q t.Out i ok p (v ∷ vs) s = counted_names (Out v) _ tt
  act_names f q t.Begin i ok p vs s = counted_names Begin (record (goes_to p vs s) { scopes = one_inside s.scopes }) tt
  act_names f q t.End i ok p vs s = tt
  act_names f q t.Fork i ok p vs s = names_either (nat_le s.limits.size s.size) _ _ (λ e. tt) (λ e. tt)
  act_names f q t.Sync i ok p vs s = waited_names s.scopes p vs s
  act_names f q t.Done i ok p vs s = tt
  act_names f q t.Tick i ok p vs s = spent_names s (λ u. on (goes_to p vs u)) tt
  act_names f q t.Cancel i ok p vs s = counted_names Cancel (goes_to p vs s) tt
  act_names f q e i ok p vs s = tt

  -- what a strand has to write back names elements
  abbrev Writes : State → Type 0
  Writes s = AreElements code.cells s.back

  -- a step wants an element, and what is to be written back then names elements
  abbrev NamesAll : Step → Type 0
  NamesAll (on s) = Writes s
  NamesAll (wants w s) = NamesElement code w × Writes s
  NamesAll stuck = Unit {0}

  all_names : (s : State) (x : Step) → Writes s → Names x → StepKeeps s x → NamesAll x
  all_names s (on u) writes h kept = subst (AreElements code.cells) (sym kept.back) writes
  all_names s (wants w u) writes h kept = (h, subst (AreElements code.cells) (sym kept.back) writes)
  all_names s stuck writes h kept = tt

  all_either : (b : Bool) (x y : Step) → NamesAll x → NamesAll y → NamesAll (if b then x else y)
  all_either true x y g h = g
  all_either false x y g h = h

  given_writes : (w : Want) (given : Given) (s : State) → IsAnswer code.cells w given → Writes s → Writes (with_value given s)
  given_writes w Nothing s is h = h
  given_writes w (Value v) s is h = h
  given_writes Cancel (Wrote bs) s is h = is
  given_writes w (Wrote bs) s is h = absurd is

  module _ (ok : faults code ≡ []) where
    pub step_names : (s : State) → Writes s → NamesAll (coded.step code s)
    step_names s writes = all_either (nat_lt s.limits.size s.size) _ _ (tt, writes) (by s.back refl)
      where
        at : (o : Option Instr) → slice_get code.instrs s.current.place ≡ o → Names (coded.step_at code o s)
        at None is = tt
        at (Some i) is =
            let w = owner code ok s.current.place (slice_get_within code.instrs s.current.place i is) in
            let ops = operands_fine code ok w.func s.current.place w.declared w.inside i is in
            let e = has_effect code w.func s.current.place i (effect_of i) ops in
            subst (λ o. Names (coded.act_of code o i s)) (sym e.1)
            (act_names w.func s.current.place e.0 i (subst (λ o. operand_faults code w.func s.current.place i o ≡ []) e.1 ops) (s.current.place + 1) s.current.operands s)

        by : (bs : List Back) → s.back ≡ bs → NamesAll (coded.writes_back code bs s)
        by [] same = all_names s _ writes (at (slice_get code.instrs s.current.place) refl) (step_keeps code s (slice_get code.instrs s.current.place))
        by (b ∷ bs) same = let named = subst (AreElements code.cells) same writes in all_either (nat_le s.limits.size s.size) _ _ (tt, named.1) (named.0, named.1)

    module _ (main : ℕ) (words : List ℤ) (limits : Limits) where
      abbrev strands : Strands (Standing State)
      strands = coded.strands_of_code code main words limits

      -- a strand that stands so wants an element, and writes back elements
      abbrev Stands : Standing State → Type 0
      Stands x = NamesElement code x.want × Writes x.state

      stand_names : (s : State) → Writes s → Stands (stand (coded.runs code main words limits) s)
      stand_names s writes =
          stand_holds (coded.runs code main words limits) (bounded code main words limits ok).on Writes Stands
          (λ u v h is. subst NamesAll is (step_names u h))
          (λ u v w h is. subst NamesAll is (step_names u h))
          (λ u h is. (tt, h))
          s writes

      starts : (o : Option Func) → Writes (coded.starts_at code o (reverse words) limits)
      starts None = tt
      starts (Some f) = tt

      goes_names : (from own : List ℕ) (a b : Standing State) → GoesTo strands from a own b → Stands a → Stands b
      goes_names from own a b stays h = h
      goes_names from own a b (answered {b = c} g given is) h = stand_names (with_value given c.state) (given_writes c.want given c.state is (goes_names _ _ _ _ g h).1)
      goes_names from own a b (joins {b = c} {left = l} {right = r} g is gl lo gr ro) h =
          let forked = goes_names _ _ _ _ g h in
          stand_names (coded.joined r.state l.state) (goes_names _ _ _ _ gr (stand_names c.state forked.1)).1

      reached_names : (own : List ℕ) (x : Standing State) → Reached strands own x → Stands x
      reached_names own x (of_main g) = goes_names _ _ _ _ g (stand_names _ (starts (slice_get code.funcs main)))
      reached_names own x (of_left {f = f} r is g) = goes_names _ _ _ _ g (stand_names (coded.left f.state) tt)
      reached_names own x (of_right {f = f} r is g) = goes_names _ _ _ _ g (stand_names f.state (reached_names _ _ r).1)

      pub names_elements : (own : List ℕ) (x : Standing State) → Reached strands own x → NamesElement code x.want
      names_elements own x reached = (reached_names own x reached).0
