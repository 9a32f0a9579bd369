-- A strand over the syntax and one over its code that stand at the same, and how the code goes on with it.
use Rattle.std.proofs.Common.{◌≡◌, ◌∙◌, ℕ, ◌+◌, Bool, true, false, List, [], ◌∷◌, length, max, refl, sym, ap, subst, Some, ℤ, nat_lt}
use Rattle.std.specs.Prelude.{slice_get, if◌then◌else◌, nat_le}
use Rattle.cw_text.specs.Syntax.{Block, Declaration}
use Rattle.cw_code.specs.declared.instruction.Instr.{Instr}
use Rattle.cw_code.specs.declared.instruction.Code.{Code}
use Rattle.cw_code.specs.declared.effects.Effect.{Effect}
use Rattle.cw_code.specs.declared.effects.Effect.TheVariants as effect
use Rattle.cw_code.specs.declared.Limits.{Limits}
use Rattle.cw_code.specs.declared.FaultKind.TheVariants.{Size, Fuel}
use Rattle.cw_code.specs.Table.{effect_at}
use Rattle.cw_strand.specs.declared.want.Want.{Want}
use Rattle.cw_strand.specs.declared.want.Want.TheVariants.{Fault}
use Rattle.cw_strand.specs.declared.want.Given.{Given}
use Rattle.cw_strand.specs.declared.want.Given.TheVariants.{Nothing, Value, Back as Wrote}
use Rattle.cw_strand.specs.Running.{Running, on, wants}
use Rattle.cw_strand.specs.Names.{cells_of}
use Rattle.cw_strand.specs.Meaning as m
use Rattle.cw_strand.specs.Meaning.{Task, Locals, function_of, in_place, both_counts}
use Rattle.cw_strand.specs.Coded as c
use Rattle.cw_strand.specs.Coded.{Frame}
use Rattle.cw_strand.specs.Compilation.{Slots, code_of, main_function}
use Rattle.cw_strand.specs.Compilation as instr
use Rattle.cw_strand.proofs.Numbering.{Agree}
use Rattle.cw_strand.proofs.Doing.{Does}
use Rattle.cw_strand.proofs.Following.{stays, goes, Kept, Follows, after_step}

module _ (ds : List Declaration) (words : List ℤ) (limits : Limits) where
  abbrev pub program : Code
  program = code_of ds

  abbrev pub over_syntax : Running m.State
  over_syntax = m.runs ds words limits

  abbrev pub over_code : Running c.State
  over_code = c.runs program (main_function ds) words limits

  -- ## States

  -- The two stand at the same: the code does what is to be done, on the same operands and locals.
  pub record Alike (s : m.State) (d : c.State) : Type 0 where
    pub slots : Slots
    pub height : ℕ
    pub does : Does ds program.instrs (length d.current.locals) slots height s.todo d.current.place d.callers
    pub agree : Agree s.locals slots d.current.locals
    pub operands : s.values ≡ d.current.operands
    pub high : length s.values ≡ height
    pub frames : s.frames ≡ length d.callers + 1
    pub scopes : s.scopes ≡ d.scopes
    pub fuel : s.fuel ≡ d.fuel
    pub size : s.size ≡ d.size
    pub back : s.back ≡ d.back
    pub within : d.limits ≡ limits

  -- they do so after an answer
  pub answered_alike : (given : Given) (s : m.State) (d : c.State) → Alike s d → Alike (m.with_value given s) (c.with_value given d)
  answered_alike Nothing s d h = h
  answered_alike (Value v) s d h = record {
    slots = h.slots;
    height = h.height;
    does = h.does;
    agree = h.agree;
    operands = ap (in_place v) h.operands;
    high = same_length s.values ∙ h.high;
    frames = h.frames;
    scopes = h.scopes;
    fuel = h.fuel;
    size = h.size;
    back = h.back;
    within = h.within;
  }
    where
      same_length : (vs : List ℤ) → length (in_place v vs) ≡ length vs
      same_length [] = refl
      same_length (x ∷ vs) = refl
  answered_alike (Wrote bs) s d h = record {
    slots = h.slots;
    height = h.height;
    does = h.does;
    agree = h.agree;
    operands = h.operands;
    high = h.high;
    frames = h.frames;
    scopes = h.scopes;
    fuel = h.fuel;
    size = h.size;
    back = refl;
    within = h.within;
  }

  -- and where two were joined
  pub joined_alike : (right left : m.State) (d e : c.State) → Alike right d → Alike left e → Alike (m.joined limits right left) (c.joined d e)
  joined_alike right left d e h l = record {
    slots = h.slots;
    height = h.height;
    does = h.does;
    agree = h.agree;
    operands = h.operands;
    high = h.high;
    frames = h.frames;
    scopes = h.scopes;
    fuel = ap (λ x. max x right.fuel) l.fuel ∙ ap (λ x. max e.fuel x) h.fuel;
    size =
        ap (λ x. both_counts limits right.size x) l.size
        ∙ ap (λ x. both_counts limits x e.size) h.size
        ∙ ap (λ x. both_counts x d.size e.size) (sym h.within);
    back = h.back;
    within = h.within;
  }

  -- ## What both have

  -- both have n locals, g says which are visible, and fs are the callers
  pub record Shared (g : Slots) (n : ℕ) (fs : List Frame) : Type 0 where
    pub locals : Locals
    pub numbers : List ℤ
    pub scopes : List ℕ
    pub fuel : ℕ
    pub size : ℕ
    -- what the left strand of the newest fork does, and where its code begins
    pub beside : Block
    pub begins : ℕ
    pub count : n ≡ length numbers
    pub agree : Agree locals g numbers

  -- with this to be done, and these operands
  abbrev pub syntax_at : {g : Slots} {n : ℕ} {fs : List Frame} → Shared g n fs → List Task → List ℤ → m.State
  syntax_at {fs = fs} x k vs = record { todo = k; values = vs; locals = x.locals; frames = length fs + 1; scopes = x.scopes; fuel = x.fuel; size = x.size; beside = x.beside; back = [] }

  -- at this place, with these operands
  abbrev pub code_at : {g : Slots} {n : ℕ} {fs : List Frame} → Shared g n fs → ℕ → List ℤ → c.State
  code_at {fs = fs} x p vs = record { current = record { place = p; operands = vs; locals = x.numbers }; callers = fs; scopes = x.scopes; fuel = x.fuel; size = x.size; beside = x.begins; back = []; limits = limits }

  -- not over the limit
  abbrev pub IsSmall : {g : Slots} {n : ℕ} {fs : List Frame} → Shared g n fs → Type 0
  IsSmall x = nat_lt limits.size x.size ≡ false

  abbrev pub Ahead : m.Step → c.State → Type 0
  Ahead step d = Follows over_syntax over_code Alike step d

  abbrev pub Keeps : Want → m.State → c.State → Type 0
  Keeps w t e = Kept over_syntax over_code Alike w t e

  pub alike : {g : Slots} {n h : ℕ} {fs : List Frame} (x : Shared g n fs) (k : List Task) (p : ℕ) (vs : List ℤ) → Does ds program.instrs n g h k p fs → length vs ≡ h → Alike (syntax_at x k vs) (code_at x p vs)
  alike {g = g} {h = h} {fs = fs} x k p vs does high = record {
    slots = g;
    height = h;
    does = subst (λ n. Does ds program.instrs n g h k p fs) x.count does;
    agree = x.agree;
    operands = refl;
    high = high;
    frames = refl;
    scopes = refl;
    fuel = refl;
    size = refl;
    back = refl;
    within = refl;
  }

  module _ {g : Slots} {n : ℕ} {fs : List Frame} (x : Shared g n fs) (p : ℕ) (vs : List ℤ) where
    -- the syntax goes on by itself
    pub same_place : {h : ℕ} (k : List Task) → Does ds program.instrs n g h k p fs → length vs ≡ h → Ahead (on (syntax_at x k vs)) (code_at x p vs)
    same_place k does high = (code_at x p vs, stays, alike x k p vs does high)

    -- one step of the code
    pub moves : {g2 : Slots} {n2 h : ℕ} {fs2 : List Frame} (y : Shared g2 n2 fs2) (k : List Task) (q : ℕ) (us : List ℤ) → c.step program (code_at x p vs) ≡ on (code_at y q us) → Does ds program.instrs n2 g2 h k q fs2 → length us ≡ h → Ahead (on (syntax_at y k us)) (code_at x p vs)
    moves y k q us step does high = (code_at y q us, goes step stays, alike y k q us does high)

    -- both want this
    pub both_want : (w : Want) (t : m.State) (e : c.State) → c.step program (code_at x p vs) ≡ wants w e → Keeps w t e → Ahead (wants w t) (code_at x p vs)
    both_want w t e step kept = (code_at x p vs, e, stays, step, kept)

    -- both want one of two
    pub both_choose : (b : Bool) (v w : Want) (t u : m.State) (d e : c.State) → c.step program (code_at x p vs) ≡ (if b then wants v d else wants w e) → Keeps v t d → Keeps w u e → Ahead (if b then wants v t else wants w u) (code_at x p vs)
    both_choose true v w t u d e step keeps kept = both_want v t d step keeps
    both_choose false v w t u d e step keeps kept = both_want w u e step kept

    module _ (small : IsSmall x) where
      -- an instruction of this effect
      pub acts : (i : Instr) (e : Effect) → slice_get program.instrs p ≡ Some i → effect_at i.op ≡ Some e → c.step program (code_at x p vs) ≡ c.act program e i (p + 1) vs (code_at x p vs)
      acts i e is does =
          ap (λ y. if y then wants (Fault Size) (code_at x p vs) else c.step_at program (slice_get program.instrs p) (code_at x p vs)) small
          ∙ ap (λ o. c.step_at program o (code_at x p vs)) is
          ∙ ap (λ o. c.act_of program o i (code_at x p vs)) does

      -- a unit of fuel at a tick, and what comes behind it
      pub ticks : (k : List Task) (go : m.State → m.Step) → slice_get program.instrs p ≡ Some instr.tick → ((z : ℕ) → let y : Shared g n fs = record x { fuel = z } in Ahead (go (syntax_at y k vs)) (code_at y (p + 1) vs)) → Ahead (m.spends (cells_of ds) (function_of ds) limits (syntax_at x k vs) go) (code_at x p vs)
      ticks k go is rest = by (nat_le limits.fuel x.fuel) (acts instr.tick effect.Tick is refl)
        where
          by : (b : Bool) → c.step program (code_at x p vs) ≡ (if b then wants (Fault Fuel) (code_at x p vs) else on (code_at (record x { fuel = x.fuel + 1 }) (p + 1) vs)) → Ahead (if b then wants (Fault Fuel) (syntax_at x k vs) else go (syntax_at (record x { fuel = x.fuel + 1 }) k vs)) (code_at x p vs)
          by true step = both_want (Fault Fuel) (syntax_at x k vs) (code_at x p vs) step tt
          by false step =
              let y : Shared g n fs = record x { fuel = x.fuel + 1 } in
              after_step over_syntax over_code Alike (go (syntax_at y k vs)) (code_at x p vs) (code_at y (p + 1) vs) step (rest (x.fuel + 1))
