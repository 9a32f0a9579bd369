-- Worked programs: their naming faults, their code, and what their strands want, over the syntax and over the code.
use Rattle.std.specs.Prelude.{ℕ, zero, suc, ◌-◌, ◌≡◌, List, [], ◌∷◌, map, replicate, codes, Result, Ok, Err, Option, Some, None, ℤ, pos, negsuc}
use Rattle.cw_text.specs.declared.fault.TextFault.{TextFault}
use Rattle.cw_text.specs.Syntax.{Declaration, empty}
use Rattle.cw_text.specs.Worked.{read}
use Rattle.cw_text.specs.Lexemes.{keywords_of, lexemes}
use Rattle.cw_text.specs.Grammar.{program_of}
use Rattle.cw_code.specs.declared.FaultKind.TheVariants.{Zero, Overflow, Range, Depth, Fuel, Size}
use Rattle.cw_code.specs.declared.Limits.{Limits}
use Rattle.cw_code.specs.declared.instruction.Code.{Code}
use Rattle.cw_strand.specs.declared.naming.NameKind.TheVariants.{Unknown, Twice, WrongCount, NoMain, ReturnInside, NotACell, NotALocal, TooManyCells, CancelOutside}
use Rattle.cw_strand.specs.declared.want.Want.{Want}
use Rattle.cw_strand.specs.declared.want.Want.TheVariants.{Load, Store, Out, Begin, End, Cancel, Fork, Sync, Done, Fault}
use Rattle.cw_strand.specs.declared.want.Given.{Given}
use Rattle.cw_strand.specs.declared.want.Given.TheVariants.{Nothing, Value, Back as Wrote}
use Rattle.cw_code.specs.declared.Back.{Back}
use Rattle.cw_strand.specs.Names as names
use Rattle.cw_strand.specs.Strands.{Strands}
use Rattle.cw_strand.specs.Running.{LocalStep, on, wants, stuck}
use Rattle.cw_strand.specs.Meaning as meaning
use Rattle.cw_strand.specs.Meaning.{Task, enter, finish_main, function_of}
use Rattle.cw_strand.specs.Coded as coded
use Rattle.cw_strand.specs.Compilation.{code_of, plain, local, set, load, push, jump, jump_zero, call, discard, fork, begin, end, show, wait, done, tick, ret}
use Rattle.cw_strand.specs.Laws.{compiled}

abbrev pub tree : List ℕ → List Declaration
tree text = given (read text) where
  given : Result (List Declaration) TextFault → List Declaration
  given (Ok ds) = ds
  given (Err f) = []

abbrev pub faulty : List ℕ → names.Fault
faulty text = names.naming_fault (tree text)

abbrev pub Faults : Type 0
Faults =
    (faulty [] ≡ names.fault NoMain 0)
    × (faulty (codes "fn main() {\n x = 1; }") ≡ names.fault Unknown 2)
    × (faulty (codes "cell c; cell\nc; fn main() {}") ≡ names.fault Twice 2)
    × (faulty (codes "fn main() { main = 1; }") ≡ names.fault NotALocal 1)
    × (faulty (codes "fn main() { out c; let c = 1; } cell c;") ≡ names.fault Twice 1)
    × (faulty (codes "fn main() { let x = x; }") ≡ names.fault Unknown 1)
    × (faulty (codes "fn main() { let x = 1; x = x; out x; }") ≡ None)
    × (faulty (codes "fn main() { atomic { let x = 1; }\n out x; }") ≡ names.fault Unknown 2)
    × (faulty (codes "fn main() { atomic { let x = 1; } let x = 2; spawn { let y = x; } let y = x; }") ≡ None)
    × (faulty (codes "fn main() { let x = 1; spawn {\n let x = 2; } }") ≡ names.fault Twice 2)
    × (faulty (codes "fn main() { spawn { atomic {\n out x; } } let x = 2; }") ≡ names.fault Unknown 2)
    × (faulty (codes "cell a[65537]; fn main() {}") ≡ names.fault TooManyCells 1)
    × (faulty (codes "cell c; fn main() { c[0] = 1; }") ≡ names.fault NotACell 1)
    × (faulty (codes "cell a[2]; fn main() { out a; }") ≡ names.fault NotACell 1)
    × (faulty (codes "fn main() { out main[0]; }") ≡ names.fault NotACell 1)
    × (faulty (codes "fn main() { out g[0]; }") ≡ names.fault Unknown 1)
    × (faulty (codes "fn main() { if 1 { let x = 1; } else { let x = 2; }\n out x; }") ≡ names.fault Unknown 2)
    × (faulty (codes "fn main() { while\n x { out y; } }") ≡ names.fault Unknown 2)
    × (faulty (codes "fn main() { if 1 { while 0 { out 1; } } else {\n main = 1; } }") ≡ names.fault NotALocal 2)
    × (faulty (codes "fn main() { out f(1); } fn f(x) { return x; }") ≡ None)
    × (faulty (codes "fn f(a) {} fn main() {\n f(); }") ≡ names.fault WrongCount 2)
    × (faulty (codes "fn f(x) {} fn main() { out f(y,\n 2); }") ≡ names.fault WrongCount 1)
    × (faulty (codes "cell c; fn main() { c(); }") ≡ names.fault Unknown 1)
    × (faulty (codes "fn f(x) { return x; } fn main() { out f(\nx); }") ≡ names.fault Unknown 2)
    × (faulty (codes "fn main() { atomic { return 1; } }") ≡ names.fault ReturnInside 1)
    × (faulty (codes "fn main() { spawn { if 1 {\n return x; } } }") ≡ names.fault ReturnInside 2)
    × (faulty (codes "fn main(a) { if a { while a { return a; } } }") ≡ None)
    × (faulty (codes "fn f() {} fn main() { out f[0]; }") ≡ names.fault NotACell 1)
    × (faulty (codes "fn f() {} fn main() { f = 1; }") ≡ names.fault NotALocal 1)
    × (faulty (codes "fn f(a,\n a) {} fn main() {}") ≡ names.fault Twice 2)

-- The strand of a fork that does not run now: the right one, before it begins, or the left one, at its end.
pub data Other (A : Type 0) : Type 0 where
  to_come : A → Other A
  ended : A → Other A

module _ {A : Type 0} (s : Strands A) (go : List Given → List (Other A) → A → List Want) where
  -- after its end, a left strand is followed by the right one, and a right one by the strand that forked
  abbrev pub after_end : List Given → List (Other A) → A → List Want
  after_end gs [] a = []
  after_end gs (to_come right ∷ others) a = go gs (ended a ∷ others) right
  after_end gs (ended left ∷ others) a = go gs others (s.joined a left)

  -- goes on with the next of the answers that are left
  abbrev pub after_answer : List Given → List (Other A) → A → List Want
  after_answer [] others a = []
  after_answer (g ∷ gs) others a = go gs others (s.answer a g)

  -- goes on after a want, with the answers that are left for loads and cancels
  abbrev pub after_want : Want → List Given → List (Other A) → A → List Want
  after_want (Load c) gs others a = after_answer gs others a
  after_want Cancel gs others a = after_answer gs others a
  after_want Fork gs others a = go gs (to_come (s.right a) ∷ others) (s.left a)
  after_want Sync gs others a = after_end gs others a
  after_want Done gs others a = after_end gs others a
  after_want (Fault k) gs others a = []
  after_want w gs others a = go gs others (s.answer a Nothing)

-- What the strands want, each left one up to its end before its right one, if loads and cancels get these answers.
abbrev pub asked : {A : Type 0} → Strands A → ℕ → List Given → List (Other A) → A → List Want
asked s zero gs others a = []
asked s (suc n) gs others a = s.want a ∷ after_want s (λ us more b. asked s n us more b) (s.want a) gs others a

-- limits of fuel and size
abbrev pub within : ℕ → ℕ → Limits
within fuel size = record { fuel = fuel; size = size; aborts = 1; strands = 1; moves = 1 }

abbrev pub trace : List ℤ → ℕ → ℕ → List ℕ → List ℤ → List Want
trace words fuel size text vs = let s = meaning.strands_of_syntax (tree text) words (within fuel size) in asked s 20 (map Value vs) [] s.start

-- the same over its code
abbrev pub code_trace : List ℤ → ℕ → ℕ → List ℕ → List ℤ → List Want
code_trace words fuel size text vs = let s = compiled (tree text) words (within fuel size) in asked s 20 (map Value vs) [] s.start

-- what the strands want with these words, over the syntax and over the code
abbrev pub WantsWith : List ℤ → ℕ → ℕ → List ℕ → List ℤ → List Want → Type 0
WantsWith words fuel size text vs ws = (trace words fuel size text vs ≡ ws) × (code_trace words fuel size text vs ≡ ws)

-- without words
abbrev pub Wants : ℕ → ℕ → List ℕ → List ℤ → List Want → Type 0
Wants = WantsWith []

-- ## Cancels

-- the tree of a text in language 2, behind its heading
abbrev pub newer_tree : List ℕ → List Declaration
newer_tree text = given (program_of (lexemes (keywords_of 2) text)) where
  given : Result (List Declaration) TextFault → List Declaration
  given (Ok ds) = ds
  given (Err f) = []

abbrev pub newer_faulty : List ℕ → names.Fault
newer_faulty text = names.naming_fault (newer_tree text)

-- an element, and a value that is written back
abbrev pub back : ℕ → ℤ → Back
back c v = record { cell = c; value = v }

-- what the strands want with these answers, over the syntax and over the code
abbrev pub Asks : ℕ → ℕ → List ℕ → List Given → List Want → Type 0
Asks fuel size text gs ws =
    (let s = meaning.strands_of_syntax (newer_tree text) [] (within fuel size) in asked s 20 gs [] s.start ≡ ws)
    × (let s = compiled (newer_tree text) [] (within fuel size) in asked s 20 gs [] s.start ≡ ws)

-- A cancel has to be inside an atomic block of its function, and inside no spawned block within that.
abbrev pub Outside : Type 0
Outside =
    (newer_faulty (codes "fn main() {\ncancel; }") ≡ names.fault CancelOutside 2)
    × (newer_faulty (codes "fn main() { if 1 { cancel; } }") ≡ names.fault CancelOutside 1)
    × (newer_faulty (codes "fn main() { spawn { cancel; } }") ≡ names.fault CancelOutside 1)
    × (newer_faulty (codes "fn main() { atomic { spawn { cancel; } } }") ≡ names.fault CancelOutside 1)
    × (newer_faulty (codes "fn main() { atomic { atomic { spawn { cancel; } } } }") ≡ names.fault CancelOutside 1)
    × (newer_faulty (codes "fn f() { cancel; } fn main() { atomic { f(); } }") ≡ names.fault CancelOutside 1)
    × (newer_faulty (codes "fn main() { cancel;\nx = 1; }") ≡ names.fault CancelOutside 1)
    × (newer_faulty (codes "fn main() { x = 1;\ncancel; }") ≡ names.fault Unknown 1)
    × (newer_faulty (codes "fn main() { atomic { spawn { atomic { cancel; } } } }") ≡ None)
    × (newer_faulty (codes "fn main() { spawn { atomic { cancel; } } }") ≡ None)
    × (newer_faulty (codes "fn main() { atomic { if 1 { while 1 { cancel; } } } }") ≡ None)

-- What the block wrote is written back, one store after the other, and nothing comes between that and the end of the block. Locals stay.
abbrev pub Cancels : Type 0
Cancels =
    Asks 9 9 (codes "cell c = 5; fn main() { atomic { c = 9; out c; cancel; out 1; } out c; }") (Value (pos 9) ∷ Wrote (back 0 (pos 5) ∷ []) ∷ Value (pos 5) ∷ [])
    (Begin ∷ Store 0 (pos 9) ∷ Load 0 ∷ Out (pos 9) ∷ Cancel ∷ Store 0 (pos 5) ∷ End ∷ Load 0 ∷ Out (pos 5) ∷ Done ∷ [])
    × Asks 9 9 (codes "cell c; fn main() { atomic { cancel; } }") (Wrote [] ∷ []) (Begin ∷ Cancel ∷ End ∷ Done ∷ [])
    × Asks 9 9 (codes "cell c; cell d; fn main() { atomic { spawn { c = 1; } d = 2; cancel; } }") (Wrote (back 0 (pos 0) ∷ back 1 (pos 0) ∷ []) ∷ [])
    (Begin ∷ Fork ∷ Store 0 (pos 1) ∷ Done ∷ Store 1 (pos 2) ∷ Sync ∷ Cancel ∷ Store 0 (pos 0) ∷ Store 1 (pos 0) ∷ End ∷ Done ∷ [])
    × Asks 19 19 (codes "cell c; fn main() { let x = 3; atomic { let y = 1; x = x + y; c = 7; if x { let z = 9; x = z; cancel; } x = 0; } out x; let y = 2; out y; }") (Wrote (back 0 (pos 0) ∷ []) ∷ [])
    (Begin ∷ Store 0 (pos 7) ∷ Cancel ∷ Store 0 (pos 0) ∷ End ∷ Out (pos 9) ∷ Out (pos 2) ∷ Done ∷ [])
    × Asks 29 19 (codes "cell c; fn main() { let i = 0; atomic { while 1 { i = i + 1; c = i; if i == 3 { cancel; } } } out i; }") (Wrote (back 0 (pos 0) ∷ []) ∷ [])
    (Begin ∷ Store 0 (pos 1) ∷ Store 0 (pos 2) ∷ Store 0 (pos 3) ∷ Cancel ∷ Store 0 (pos 0) ∷ End ∷ Out (pos 3) ∷ Done ∷ [])
    -- a cancel counts one, and so does each store that writes back
    × Asks 9 3 (codes "cell c; cell d; fn main() { atomic { c = 1; d = 2; cancel; } }") [] (Begin ∷ Store 0 (pos 1) ∷ Store 1 (pos 2) ∷ Fault Size ∷ [])
    × Asks 9 5 (codes "cell c; cell d; fn main() { atomic { c = 1; d = 2; cancel; } }") (Wrote (back 0 (pos 0) ∷ back 1 (pos 0) ∷ []) ∷ []) (Begin ∷ Store 0 (pos 1) ∷ Store 1 (pos 2) ∷ Cancel ∷ Store 0 (pos 0) ∷ Fault Size ∷ [])
    × Asks 9 6 (codes "cell c; cell d; fn main() { atomic { c = 1; d = 2; cancel; } }") (Wrote (back 0 (pos 0) ∷ back 1 (pos 0) ∷ []) ∷ [])
    (Begin ∷ Store 0 (pos 1) ∷ Store 1 (pos 2) ∷ Cancel ∷ Store 0 (pos 0) ∷ Store 1 (pos 0) ∷ End ∷ Done ∷ [])
    × Asks 2 9 (codes "cell c; fn main() { atomic { c = 1; cancel; } }") [] (Begin ∷ Store 0 (pos 1) ∷ Fault Fuel ∷ [])
    × Asks 3 9 (codes "cell c; fn main() { atomic { c = 1; cancel; } }") (Wrote (back 0 (pos 0) ∷ []) ∷ []) (Begin ∷ Store 0 (pos 1) ∷ Cancel ∷ Store 0 (pos 0) ∷ End ∷ Done ∷ [])

abbrev pub count_one : List ℕ
count_one = codes "cell c; fn main() { c = c + 1; out c; }"

abbrev pub Traces : Type 0
Traces =
    Wants 9 9 count_one (pos 0 ∷ pos 1 ∷ []) (Load 0 ∷ Store 0 (pos 1) ∷ Load 0 ∷ Out (pos 1) ∷ Done ∷ [])
    × Wants 9 9 (codes "cell a; cell b; fn main() { let x = a - b; x = x * x; b = !x; out x >= 4; }") (pos 1 ∷ pos 3 ∷ []) (Load 0 ∷ Load 1 ∷ Store 1 (pos 0) ∷ Out (pos 1) ∷ Done ∷ [])
    × Wants 9 9 (codes "fn main() { out 9223372036854775807 + 1; }") [] (Fault Overflow ∷ [])

-- An index is tested after the value that is stored, and before the store counts. The remainder of the least number by -1 is a fault.
abbrev pub Arrays : Type 0
Arrays =
    Wants 9 9 (codes "cell a[3] = 2; fn main() { a[1] = a[0] * 5; a[3] = 1; }") (pos 2 ∷ []) (Load 0 ∷ Store 1 (pos 10) ∷ Fault Range ∷ [])
    × Wants 9 9 (codes "cell a[2]; fn main() { a[2] = 1 / 0; }") [] (Fault Zero ∷ [])
    × Wants 9 1 (codes "cell c; cell a[2]; fn main() { c = 1; a[2] = 1; }") [] (Store 0 (pos 1) ∷ Fault Range ∷ [])
    × Wants 9 9 (codes "fn main() { out 7 / 2; out -7 / 2; out -7 % 2; out 7 % -2; out (0 - 9223372036854775807 - 1) % -1; }") [] (Out (pos 3) ∷ Out (negsuc 2) ∷ Out (negsuc 0) ∷ Out (pos 1) ∷ Fault Overflow ∷ [])

-- After a fork come the wants of its left strand up to its end, then those of its right strand up to its sync, and then
-- those of the strand that forked.
abbrev pub Forks : Type 0
Forks =
    Wants 9 9 (codes "cell c; fn main() { atomic { spawn { c = c + 1; } c = c + 1; } }") (pos 0 ∷ pos 1 ∷ []) (Begin ∷ Fork ∷ Load 0 ∷ Store 0 (pos 1) ∷ Done ∷ Load 0 ∷ Store 0 (pos 2) ∷ Sync ∷ End ∷ Done ∷ [])
    × Wants 9 9 (codes "fn main() { spawn { } spawn { sync; } sync; out 1; }") [] (Fork ∷ Done ∷ Fork ∷ Done ∷ Sync ∷ Sync ∷ Out (pos 1) ∷ Done ∷ [])
    × Wants 9 9 (codes "fn main() { spawn { spawn { out 1; } out 2; } out 3; }") [] (Fork ∷ Fork ∷ Out (pos 1) ∷ Done ∷ Out (pos 2) ∷ Sync ∷ Done ∷ Out (pos 3) ∷ Sync ∷ Done ∷ [])
    × Wants 9 9 (codes "fn main() { spawn { } atomic { atomic { spawn { } } sync; out 1; } }") [] (Fork ∷ Done ∷ Begin ∷ Begin ∷ Fork ∷ Done ∷ Sync ∷ End ∷ Out (pos 1) ∷ End ∷ Sync ∷ Done ∷ [])
    × Wants 9 9 (codes "fn main() { let x = 1; spawn { x = 2; let y = 3; out y; } sync; out x; }") [] (Fork ∷ Out (pos 3) ∷ Done ∷ Sync ∷ Out (pos 1) ∷ Done ∷ [])
    × Wants 9 9 (codes "fn main() { let x = 1; atomic { let y = 2; x = y; } let y = 3; out x; out y; }") [] (Begin ∷ End ∷ Out (pos 2) ∷ Out (pos 3) ∷ Done ∷ [])

-- Each statement costs a unit of fuel, along the longest way. What both strands of a fork counted is added when they are joined.
abbrev pub Spent : Type 0
Spent =
    Wants 9 3 count_one (pos 0 ∷ pos 1 ∷ []) (Load 0 ∷ Store 0 (pos 1) ∷ Load 0 ∷ Fault Size ∷ [])
    × Wants 2 4 count_one (pos 0 ∷ pos 1 ∷ []) (Load 0 ∷ Store 0 (pos 1) ∷ Load 0 ∷ Out (pos 1) ∷ Done ∷ [])
    × Wants 1 4 count_one (pos 0 ∷ pos 1 ∷ []) (Load 0 ∷ Store 0 (pos 1) ∷ Fault Fuel ∷ [])
    × Wants 4 9 (codes "fn main() { spawn { out 1; out 2; } sync; out 3; }") [] (Fork ∷ Out (pos 1) ∷ Out (pos 2) ∷ Done ∷ Sync ∷ Out (pos 3) ∷ Done ∷ [])
    × Wants 3 9 (codes "fn main() { spawn { out 1; out 2; } sync; out 3; }") [] (Fork ∷ Out (pos 1) ∷ Out (pos 2) ∷ Done ∷ Sync ∷ Fault Fuel ∷ [])
    × Wants 2 9 (codes "fn main() { spawn { out 1; out 2; } sync; out 3; }") [] (Fork ∷ Out (pos 1) ∷ Fault Fuel ∷ [])
    × Wants 9 4 (codes "cell c; fn main() { spawn { c = 1; c = 2; } c = 3; }") [] (Fork ∷ Store 0 (pos 1) ∷ Store 0 (pos 2) ∷ Done ∷ Store 0 (pos 3) ∷ Sync ∷ Done ∷ [])
    × Wants 9 3 (codes "cell c; fn main() { spawn { c = 1; c = 2; } c = 3; }") [] (Fork ∷ Store 0 (pos 1) ∷ Store 0 (pos 2) ∷ Done ∷ Store 0 (pos 3) ∷ Sync ∷ Fault Size ∷ [])
    × Wants 9 1 (codes "cell c; fn main() { spawn { c = 1; c = 2; } c = 3; }") [] (Fork ∷ Store 0 (pos 1) ∷ Fault Size ∷ [])

-- What a block of a choice or of a loop declares is forgotten at its end.
abbrev pub Choices : Type 0
Choices =
    Wants 9 9 (codes "fn main() { if 2 { out 1; } else { out 2; } if 0 { out 3; } else { out 4; } if 0 { } out 5; }") [] (Out (pos 1) ∷ Out (pos 4) ∷ Out (pos 5) ∷ Done ∷ [])
    × Wants 9 9 (codes "fn main() { let x = 1; if x { let y = 2; x = y; } else { } let y = 3; out x; out y; }") [] (Out (pos 2) ∷ Out (pos 3) ∷ Done ∷ [])
    × Wants 2 9 (codes "fn main() { if 0 { out 1; out 2; } else { if 1 { out 3; } } }") [] (Fault Fuel ∷ [])

-- A test of a loop costs a unit of fuel, the loop itself costs none. What a loop spawns is waited for in the scope around it.
abbrev pub Loops : Type 0
Loops =
    Wants 99 9 (codes "fn main() { let i = 0; while i < 3 { let j = i * i; i = i + 1; out j; } out i; }") [] (Out (pos 0) ∷ Out (pos 1) ∷ Out (pos 4) ∷ Out (pos 3) ∷ Done ∷ [])
    × Wants 99 9 (codes "cell c; fn main() { while c < 1 { } out 1; }") (pos 0 ∷ pos 0 ∷ pos 1 ∷ []) (Load 0 ∷ Load 0 ∷ Load 0 ∷ Out (pos 1) ∷ Done ∷ [])
    × Wants 99 9 (codes "fn main() { let i = 0; while i < 2 { spawn { out i; } i = i + 1; } out i; }") [] (Fork ∷ Out (pos 0) ∷ Done ∷ Fork ∷ Out (pos 1) ∷ Done ∷ Out (pos 2) ∷ Sync ∷ Sync ∷ Done ∷ [])
    × Wants 100 9 (codes "fn main() { while 1 { } }") [] (Fault Fuel ∷ [])
    × Wants 100 9 (codes "fn main() { let i = 0; while i < 49 { i = i + 1; } }") [] (Done ∷ [])
    × Wants 99 9 (codes "fn main() { let i = 0; while i < 49 { i = i + 1; } }") [] (Fault Fuel ∷ [])

-- Arguments come before the unit of a call, from left to right. The value of a call as a statement is dropped. A
-- function without `return` gives 0.
abbrev pub Calls : Type 0
Calls =
    Wants 99 9 (codes "fn f(x, y) { let z = y - x; return z; } fn main() { let z = 1; out f(2, 5) + z; }") [] (Out (pos 4) ∷ Done ∷ [])
    × Wants 999 9 (codes "fn f(n) { if n < 2 { return n; } return f(n - 1) + f(n - 2); } fn main() { out f(5); }") [] (Out (pos 5) ∷ Done ∷ [])
    × Wants 99 9 (codes "fn f() { out 1; } fn main() { f(); out f(); }") [] (Out (pos 1) ∷ Out (pos 1) ∷ Out (pos 0) ∷ Done ∷ [])
    × Wants 99 9 (codes "fn f(n) { while 1 { let x = n; if x { return x; } } } fn main() { out f(3) * f(4); }") [] (Out (pos 12) ∷ Done ∷ [])
    × Wants 1 9 (codes "fn f(x) { } fn main() { f(1 / 0); }") [] (Fault Zero ∷ [])
    × Wants 1 9 (codes "fn f(x) { } fn main() { f(1); }") [] (Fault Fuel ∷ [])
    × Wants 2 9 (codes "fn f() { } fn main() { f(); out 1; }") [] (Fault Fuel ∷ [])
    × Wants 3 9 (codes "fn f() { } fn main() { f(); out 1; }") [] (Out (pos 1) ∷ Done ∷ [])
    × WantsWith (pos 7 ∷ negsuc 4 ∷ []) 9 9 (codes "fn main(a, b) { out a - b; return 5; out 1; }") [] (Out (pos 12) ∷ Done ∷ [])

-- What a function spawned is waited for before it returns, and the value of its `return` is kept meanwhile.
abbrev pub Returns : Type 0
Returns =
    Wants 99 9 (codes "cell c; fn f() { spawn { c = 7; } return c + 1; } fn main() { out f(); out c; }") (pos 7 ∷ pos 7 ∷ []) (Fork ∷ Store 0 (pos 7) ∷ Done ∷ Load 0 ∷ Sync ∷ Out (pos 8) ∷ Load 0 ∷ Out (pos 7) ∷ Done ∷ [])
    × Wants 99 9 (codes "fn f(n) { if n { spawn { out n; } f(n - 1); } } fn main() { f(2); out 9; }") [] (Fork ∷ Out (pos 2) ∷ Done ∷ Fork ∷ Out (pos 1) ∷ Done ∷ Sync ∷ Sync ∷ Out (pos 9) ∷ Done ∷ [])
    × Wants 99 9 (codes "fn f() { atomic { spawn { out 1; } } return 2; } fn main() { spawn { } out f(); }") [] (Fork ∷ Done ∷ Begin ∷ Fork ∷ Out (pos 1) ∷ Done ∷ Sync ∷ End ∷ Out (pos 2) ∷ Sync ∷ Done ∷ [])

-- the want at which a step stops, if it does not go on by itself
abbrev pub stop_of : {S : Type 0} → LocalStep S → Option Want
stop_of (on s) = None
stop_of (wants w s) = Some w
stop_of stuck = Some Done

abbrev pub main_alone : List Declaration
main_alone = tree (codes "fn main() { main(); }")

-- main calls itself with n active functions, over the syntax and over the code
abbrev pub called_among : ℕ → Option Want
called_among n = stop_of (meaning.step [] (function_of main_alone) (within 9 9) (record {
  todo = enter (codes "main") 0 ∷ [];
  values = [];
  locals = [];
  frames = n;
  scopes = [];
  fuel = 0;
  size = 0;
  beside = empty;
  back = [];
}))

abbrev pub code_called_among : ℕ → Option Want
code_called_among n = stop_of (coded.step (code_of main_alone) (record {
  current = record { place = 1; operands = []; locals = [] };
  callers = replicate (n - 1) (record { place = 2; operands = []; locals = [] });
  scopes = [];
  fuel = 0;
  size = 0;
  beside = 0;
  back = [];
  limits = within 9 9;
}))

-- With 10,000 active functions none begins.
abbrev pub Depths : Type 0
Depths =
    (called_among 9999 ≡ None)
    × (code_called_among 9999 ≡ None)
    × (called_among 10000 ≡ Some (Fault Depth))
    × (code_called_among 10000 ≡ Some (Fault Depth))

-- the code of a program
abbrev pub Compiles : List ℕ → Code → Type 0
Compiles text code = code_of (tree text) ≡ code

-- The number of an ended block is used again. A fork's target lies behind what it spawns. A loop jumps back to its tick.
abbrev pub Codes : Type 0
Codes =
    Compiles (codes "cell c; fn main() { atomic { let x = -c; } let y = 2; spawn { out y; } }") (record {
      cells = 1;
      funcs = record { params = 0; locals = 1; start = 0; end = 21 } ∷ [];
      instrs =
          tick ∷ begin ∷ tick ∷ load 0 ∷ plain 13 ∷ set 0 ∷ wait ∷ end
          ∷ tick ∷ push (pos 2) ∷ set 0
          ∷ tick ∷ fork 18 ∷ tick ∷ local 0 ∷ show ∷ wait ∷ done
          ∷ wait ∷ push (pos 0) ∷ ret ∷ [];
    })
    × Compiles (codes "fn main() { let i = 3; while i { i = i - 1; } if i { out 1; } else { out 2; } }") (record {
      cells = 0;
      funcs = record { params = 0; locals = 1; start = 0; end = 25 } ∷ [];
      instrs =
          tick ∷ push (pos 3) ∷ set 0
          ∷ tick ∷ local 0 ∷ jump_zero 12 ∷ tick ∷ local 0 ∷ push (pos 1) ∷ plain 9 ∷ set 0 ∷ jump 3
          ∷ tick ∷ local 0 ∷ jump_zero 19 ∷ tick ∷ push (pos 1) ∷ show ∷ jump 22 ∷ tick ∷ push (pos 2) ∷ show
          ∷ wait ∷ push (pos 0) ∷ ret ∷ [];
    })
    × Compiles (codes "fn f(a, b) { return a - b; } fn main() { f(1, f(2, 3)); }") (record {
      cells = 0;
      funcs = record { params = 2; locals = 2; start = 0; end = 9 } ∷ record { params = 0; locals = 0; start = 9; end = 19 } ∷ [];
      instrs =
          tick ∷ local 0 ∷ local 1 ∷ plain 9 ∷ wait ∷ ret ∷ wait ∷ push (pos 0) ∷ ret
          ∷ tick ∷ push (pos 1) ∷ push (pos 2) ∷ push (pos 3) ∷ call 0 ∷ call 0 ∷ discard ∷ wait ∷ push (pos 0) ∷ ret ∷ [];
    })

-- what a strand has become after these answers, the newest first
abbrev pub after_answers : {A : Type 0} → Strands A → List Given → A
after_answers s [] = s.start
after_answers s (g ∷ gs) = s.answer (after_answers s gs) g

-- what a strand is at, and what it has to do after that, once it got these answers, the newest first
abbrev pub standing : List ℕ → List Given → Want × List Task
standing text given = let x = after_answers (meaning.strands_of_syntax (tree text) [] (within 9 9)) given in (x.want, x.state.todo)

-- Both are over. The second ends too early, since its name means nothing.
abbrev pub Endings : Type 0
Endings =
    (standing (codes "cell c; fn main() { let x = c; out x * x; }") (Nothing ∷ Value (pos 3) ∷ []) ≡ (Done, finish_main ∷ []))
    × ((after_answers (meaning.strands_of_syntax (tree (codes "fn main() { out x; }")) [] (within 9 9)) []).want ≡ Done)
