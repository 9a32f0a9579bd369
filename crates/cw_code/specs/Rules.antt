-- The rules of code, by places.
use Rattle.std.specs.Prelude.{ℕ, zero, suc, ◌+◌, ◌-◌, ◌<◌, ◌≤◌, ◌≡◌, ◌⊎◌, Bool, true, false, not, ◌&&◌, ◌||◌, List, [], ◌∷◌, ◌++◌, length, replicate, Option, Some, None, ℤ, pos, negsuc, slice_get, slice_set, slice_index_or, Contains, if◌then◌else◌, nat_lt, nat_le, ◌==◌}
use Rattle.cw_code.specs.declared.instruction.CodeKind.{CodeKind}
use Rattle.cw_code.specs.declared.instruction.CodeKind.TheVariants.{Underflow, Uneven, JumpOut, NoEnd}
use Rattle.cw_code.specs.declared.instruction.CodeFault.{CodeFault}
use Rattle.cw_code.specs.declared.instruction.Instr.{Instr}
use Rattle.cw_code.specs.declared.instruction.Func.{Func}
use Rattle.cw_code.specs.declared.instruction.Code.{Code}
use Rattle.cw_code.specs.declared.situation.Part.{Part}
use Rattle.cw_code.specs.declared.situation.Part.TheVariants.{Block as block, Fork as forked}
use Rattle.cw_code.specs.Table.{Effect, local, set, load, load_at, store, store_at, jump, jump_zero, call, ret, begin, end, fork, done, tick, cancel, effect_at, taken, left_there}

-- the natural number that z is, if it is one
abbrev pub natural : ℤ → Option ℕ
natural (pos n) = Some n
natural (negsuc n) = None

abbrev pub effect_of : Instr → Option Effect
effect_of i = effect_at i.op

-- ## Numbers and targets

-- the number is one of those below `count`
abbrev pub is_number_below : ℤ → ℕ → Bool
is_number_below (pos n) count = nat_lt n count
is_number_below (negsuc n) count = false

-- the `len` cells from n on are among `count` cells
abbrev pub cells_below : ℤ → ℕ → ℕ → Bool
cells_below (pos n) len count = nat_lt n count && nat_le (n + len) count
cells_below (negsuc n) len count = false

abbrev pub inside : Func → ℕ → Bool
inside f p = nat_le f.start p && nat_lt p f.end

abbrev pub ticks : Option Effect → Bool
ticks (Some tick) = true
ticks e = false

abbrev pub is_tick : Option Instr → Bool
is_tick None = false
is_tick (Some i) = ticks (effect_of i)

-- q is a later place of the function, or a tick of it
abbrev pub is_target : Code → Func → ℕ → ℤ → Bool
is_target c f p (pos q) = inside f q && (nat_lt p q || is_tick (slice_get c.instrs q))
is_target c f p (negsuc n) = false

abbrev pub when : Bool → CodeKind → ℕ → List CodeFault
when true k p = record { kind = k; at = p } ∷ []
when false k p = []

-- the faults of an operand that names nothing
abbrev pub operand_faults : Code → Func → ℕ → Instr → Option Effect → List CodeFault
operand_faults c f p i None = when true Underflow p
operand_faults c f p i (Some local) = when (not (is_number_below i.a f.locals)) Underflow p
operand_faults c f p i (Some set) = when (not (is_number_below i.a f.locals)) Underflow p
operand_faults c f p i (Some load) = when (not (is_number_below i.a c.cells)) JumpOut p
operand_faults c f p i (Some store) = when (not (is_number_below i.a c.cells)) JumpOut p
operand_faults c f p i (Some load_at) = when (not (cells_below i.a i.b c.cells)) JumpOut p
operand_faults c f p i (Some store_at) = when (not (cells_below i.a i.b c.cells)) JumpOut p
operand_faults c f p i (Some jump) = when (not (is_target c f p i.a)) JumpOut p
operand_faults c f p i (Some jump_zero) = when (not (is_target c f p i.a)) JumpOut p
operand_faults c f p i (Some fork) = when (not (is_target c f p i.a)) JumpOut p
operand_faults c f p i (Some call) = when (not (is_number_below i.a (length c.funcs))) JumpOut p
operand_faults c f p i e = []

-- ## Situations

abbrev pub params_of : Option Func → ℕ
params_of None = 0
params_of (Some f) = f.params

-- how many parameters the called function has
abbrev pub called : Code → ℤ → ℕ
called c (negsuc n) = 0
called c (pos n) = params_of (slice_get c.funcs n)

abbrev pub pops : Code → Instr → Option Effect → ℕ
pops c i None = 0
pops c i (Some e) = taken e (called c i.a)

abbrev pub pushes : Option Effect → ℕ
pushes None = 0
pushes (Some e) = left_there e

-- The height of the operand stack, and the open parts, innermost first: blocks that were begun and parts that were forked.
pub record Situation : Type 0 where
  pub height : ℕ
  pub parts : List Part

-- a situation, and the place that gave it
pub record Known : Type 0 where
  pub from : ℕ
  pub situation : Situation

abbrev pub at_start : Situation
at_start = record { height = 0; parts = [] }

abbrev pub is_part : Part → Part → Bool
is_part block block = true
is_part forked forked = true
is_part p q = false

-- how many parts of this kind are open
abbrev pub parts_in : Part → List Part → ℕ
parts_in p [] = 0
parts_in p (q ∷ qs) = if is_part p q then parts_in p qs + 1 else parts_in p qs

abbrev pub blocks_in : List Part → ℕ
blocks_in = parts_in block

abbrev pub forks_in : List Part → ℕ
forks_in = parts_in forked

-- the parts without the innermost one of this kind, however deep it is
abbrev pub without_part : Part → List Part → List Part
without_part p [] = []
without_part p (q ∷ qs) = if is_part p q then qs else q ∷ without_part p qs

abbrev pub parts_after : Option Effect → List Part → List Part
parts_after (Some begin) ps = block ∷ ps
parts_after (Some end) ps = without_part block ps
parts_after (Some done) ps = without_part forked ps
parts_after e ps = ps

abbrev pub passed : Code → Instr → Option Effect → Situation → Situation
passed c i e s = record { height = s.height - pops c i e + pushes e; parts = parts_after e s.parts }

-- at the place behind a fork the forked part is open
abbrev pub onwards : Code → Instr → Option Effect → Situation → Situation
onwards c i (Some fork) s = record { height = s.height; parts = forked ∷ s.parts }
onwards c i e s = passed c i e s

abbrev pub jumps : Option Effect → Bool
jumps (Some jump) = true
jumps (Some jump_zero) = true
jumps (Some fork) = true
jumps e = false

-- execution never goes on at the place behind the instruction
abbrev pub never_passed : Option Effect → Bool
never_passed (Some jump) = true
never_passed (Some ret) = true
never_passed (Some done) = true
never_passed e = false

abbrev pub if_inside : Func → Option ℕ → Option ℕ
if_inside f None = None
if_inside f (Some q) = if inside f q then Some q else None

-- the place behind an instruction, if execution can go on there and it lies in the function; `target_of`: the target
-- that the instruction names
abbrev pub next_of : Func → ℕ → Option Effect → Option ℕ
next_of f p e = if never_passed e then None else if_inside f (Some (p + 1))

abbrev pub target_of : Func → Instr → Option Effect → Option ℕ
target_of f i e = if jumps e then if_inside f (natural i.a) else None

-- what is known of the places of a function, by their number in it
abbrev pub Places : Type 0
Places = List (Option Known)

-- if several ways lead into a place, the one from the smallest place counts
abbrev pub offered : ℕ → Situation → Option Known → Option Known
offered p s None = Some (record { from = p; situation = s })
offered p s (Some k) = if nat_le p k.from then Some (record { from = p; situation = s }) else Some k

abbrev pub give : Func → Option ℕ → ℕ → Situation → Places → Places
give f None p s t = t
give f (Some q) p s t =
    if nat_le q f.start then t else slice_set t (q - f.start) (offered p s (slice_index_or t (q - f.start) None))

-- a place whose situation is known gives what it leaves to the places that it leads to
abbrev pub visit : Code → Func → ℕ → Option Instr → Option Known → Places → Places
visit c f p None k t = t
visit c f p (Some i) None t = t
visit c f p (Some i) (Some k) t =
    let e = effect_of i in
    give f (target_of f i e) p (passed c i e k.situation) (give f (next_of f p e) p (onwards c i e k.situation) t)

-- visits the first n places of the function, in order
abbrev pub pass : Code → Func → ℕ → Places → Places
pass c f zero t = t
pass c f (suc n) t =
    let before = pass c f n t in
    visit c f (f.start + n) (slice_get c.instrs (f.start + n)) (slice_index_or before n None) before

-- the places after n passes
abbrev pub places_after_passes : Code → Func → ℕ → ℕ → Places → Places
places_after_passes c f size zero t = t
places_after_passes c f size (suc n) t = pass c f size (places_after_passes c f size n t)

abbrev pub begun : Func → ℕ → Places
begun f zero = []
begun f (suc n) = Some (record { from = f.start; situation = at_start }) ∷ replicate n None

abbrev pub size_of : Func → ℕ
size_of f = f.end - f.start

-- The situations at the places of a function. Each place gives what it leaves to the places that it leads to, in as
-- many passes as there are places, and in as many again for what smaller places gave late.
abbrev pub places : Code → Func → Places
places c f = places_after_passes c f (size_of f) (size_of f + size_of f) (begun f (size_of f))

abbrev pub situation_of : Option Known → Option Situation
situation_of None = None
situation_of (Some k) = Some k.situation

abbrev pub known_at : Func → Places → ℕ → Option Situation
known_at f t p = situation_of (slice_index_or t (p - f.start) None)

-- ## What is broken

abbrev pub is_border : Option Effect → Bool
is_border (Some begin) = true
is_border (Some end) = true
is_border (Some fork) = true
is_border (Some done) = true
is_border (Some cancel) = true
is_border e = false

-- the innermost part is a block
abbrev pub is_in_block : List Part → Bool
is_in_block [] = false
is_in_block (p ∷ ps) = is_part block p

-- the instruction is inside a part where it is not allowed, or outside one that it needs
abbrev pub is_torn : Option Effect → Situation → Bool
is_torn (Some ret) s = not (blocks_in s.parts == 0) || not (forks_in s.parts == 0)
is_torn (Some end) s = blocks_in s.parts == 0
is_torn (Some done) s = forks_in s.parts == 0
is_torn (Some cancel) s = not (is_in_block s.parts)
is_torn e s = false

-- the same parts in the same order
abbrev pub same_parts : List Part → List Part → Bool
same_parts [] [] = true
same_parts (p ∷ ps) (q ∷ qs) = is_part p q && same_parts ps qs
same_parts ps qs = false

abbrev pub same : Option Situation → Situation → Bool
same None t = false
same (Some s) t = (s.height == t.height) && same_parts s.parts t.parts

-- the fault of a way into the place q that brings another situation than is known there
abbrev pub uneven_faults : Func → Places → Option ℕ → Situation → List CodeFault
uneven_faults f t None s = []
uneven_faults f t (Some q) s = when (not (same (known_at f t q) s)) Uneven q

-- the faults of an instruction in its own situation
abbrev pub faults_here : Code → Func → ℕ → Instr → Option Effect → Situation → List CodeFault
faults_here c f p i e s =
    when (nat_lt s.height (pops c i e)) Underflow p
    ++ (when (is_border e && not (s.height == 0)) Uneven p
    ++ (when (is_torn e s) Uneven p
    ++ when (not (never_passed e) && (p + 1 == f.end)) NoEnd p))

abbrev pub situation_faults : Code → Func → Places → ℕ → Instr → Option Effect → Situation → List CodeFault
situation_faults c f t p i e s =
    faults_here c f p i e s ++ (uneven_faults f t (next_of f p e) (onwards c i e s) ++ uneven_faults f t (target_of f i e) (passed c i e s))

abbrev pub faults_at : Code → Func → Places → ℕ → Option Instr → Option Situation → List CodeFault
faults_at c f t p None s = []
faults_at c f t p (Some i) None = operand_faults c f p i (effect_of i)
faults_at c f t p (Some i) (Some s) = operand_faults c f p i (effect_of i) ++ situation_faults c f t p i (effect_of i) s

-- the faults at the first n places of the function
abbrev pub place_faults : Code → Func → Places → ℕ → List CodeFault
place_faults c f t zero = []
place_faults c f t (suc n) =
    place_faults c f t n ++ faults_at c f t (f.start + n) (slice_get c.instrs (f.start + n)) (known_at f t (f.start + n))

-- the function begins at `at`, where the one before it ended, and lies within the code
abbrev pub is_laid : Code → ℕ → Func → Bool
is_laid c at f = (f.start == at) && (nat_le f.start f.end && nat_le f.end (length c.instrs))

abbrev pub head_faults : Code → ℕ → Func → List CodeFault
head_faults c at f =
    when (nat_lt f.locals f.params) Underflow f.start
    ++ (when (not (is_laid c at f)) JumpOut f.start ++ when (nat_le f.end f.start) NoEnd f.start)

-- The faults of functions of which the first should begin at `at`. The places of a function are examined only if it and
-- all before it lie well.
abbrev pub faults_from : Code → Bool → ℕ → List Func → List CodeFault
faults_from c laid at [] = when (nat_lt at (length c.instrs)) JumpOut at
faults_from c laid at (f ∷ fs) =
    let well = laid && is_laid c at f in
    head_faults c at f ++ ((if well then place_faults c f (places c f) (size_of f) else []) ++ faults_from c well f.end fs)

-- each rule that is broken, and where
abbrev pub faults : Code → List CodeFault
faults c = faults_from c true 0 c.funcs

abbrev pub kind_number : CodeKind → ℕ
kind_number Underflow = 1
kind_number Uneven = 2
kind_number JumpOut = 3
kind_number NoEnd = 4

abbrev pub Before : CodeFault → CodeFault → Type 0
Before a b = (a.at < b.at) ⊎ ((a.at ≡ b.at) × (kind_number a.kind ≤ kind_number b.kind))

-- a comes before b or with it: by place, and at one place by kind
abbrev pub precedes : CodeFault → CodeFault → Bool
precedes a b = nat_lt a.at b.at || ((a.at == b.at) && nat_le (kind_number a.kind) (kind_number b.kind))

abbrev pub earlier : Option CodeFault → CodeFault → Option CodeFault
earlier None g = Some g
earlier (Some f) g = if precedes f g then Some f else Some g

abbrev pub earliest : Option CodeFault → List CodeFault → Option CodeFault
earliest o [] = o
earliest o (g ∷ gs) = earliest (earlier o g) gs

-- the first fault by place, and at one place by kind
pub record IsFirst (c : Code) (fault : CodeFault) : Type 0 where
  pub broken : Contains (faults c) fault
  pub least : (other : CodeFault) → Contains (faults c) other → Before fault other
