-- The naming rules: the first naming fault of a program, and what its names declare.
--
-- Items come first, in the order of the text. Then come the functions, each from its first token. Last comes whether there is a main.
use Rattle.std.specs.Prelude.{ℕ, zero, suc, ◌+◌, List, [], ◌∷◌, length, replicate, Option, Some, None, if◌then◌else◌, nat_lt, ◌==◌, codes, ℤ}
use Rattle.std.specs.List.{flat_map}
use Rattle.cw_text.specs.declared.ast.Word.{Word}
use Rattle.std.specs.Str.{bytes_eq}
use Rattle.cw_text.specs.Syntax.{Term, number, name, at, call, unary, binary, Terms, none, more, Statement, declare, assign, assign_at, run, out, choose, repeat, atomic, spawn, sync, cancel, return, Block, empty, first, Declaration, cell, func}
use Rattle.cw_code.specs.declared.CellInfo.{CellInfo}
use Rattle.cw_strand.specs.declared.naming.NameKind.{NameKind}
use Rattle.cw_strand.specs.declared.naming.NameKind.TheVariants as kind
use Rattle.cw_strand.specs.declared.naming.NameFault.{NameFault}
use Rattle.cw_strand.specs.declared.naming.Around.{Around}
use Rattle.cw_strand.specs.declared.naming.Around.TheVariants as around

-- what a name means
pub data Thing : Type 0 where
  a_local : Thing
  -- a plain cell, and one with elements
  a_cell : Thing
  an_array : Thing
  -- a function with this number of parameters
  a_function : ℕ → Thing

-- names and what they mean, the newest first
abbrev pub Scope : Type 0
Scope = List (List ℕ × Thing)

abbrev pub find : List ℕ → Scope → Option Thing
find n [] = None
find n (x ∷ xs) = if bytes_eq n x.0 then Some x.1 else find n xs

abbrev pub Fault : Type 0
Fault = Option NameFault

abbrev pub fault : NameKind → ℕ → Fault
fault k l = Some (record { kind = k; line = l })

-- the first of two faults, in the order of the text
infixr 5 ◌then◌
abbrev pub ◌then◌ : Fault → Fault → Fault
None then g = g
(Some f) then g = Some f

-- ## Names in their places

-- a name that is read or assigned
abbrev pub used : Option Thing → ℕ → Fault
used None l = fault kind.Unknown l
used (Some a_local) l = None
used (Some a_cell) l = None
used (Some an_array) l = fault kind.NotACell l
used (Some (a_function n)) l = fault kind.NotALocal l

-- a name that is read or assigned with an index
abbrev pub indexed : Option Thing → ℕ → Fault
indexed None l = fault kind.Unknown l
indexed (Some an_array) l = None
indexed (Some t) l = fault kind.NotACell l

-- a name that is called with this number of arguments
abbrev pub fault_of_call : Option Thing → ℕ → ℕ → Fault
fault_of_call (Some (a_function n)) arguments l = if n == arguments then None else fault kind.WrongCount l
fault_of_call t arguments l = fault kind.Unknown l

-- a name that is declared
abbrev pub declared_new : Option Thing → ℕ → Fault
declared_new None l = None
declared_new (Some t) l = fault kind.Twice l

-- a `return`, which is not allowed inside an atomic or a spawned block of its function
abbrev pub returned_from : Around → ℕ → Fault
returned_from around.Neither l = None
returned_from a l = fault kind.ReturnInside l

-- a `cancel`, which has to be inside an atomic block of its function, and inside no spawned block within that
abbrev pub cancelled_in : Around → ℕ → Fault
cancelled_in around.Atomic l = None
cancelled_in a l = fault kind.CancelOutside l

abbrev pub count_of : Terms → ℕ
count_of none = 0
count_of (more e es) = suc (count_of es)

abbrev mutual
  pub in_term : Scope → Term → Fault
  in_term g (number n) = None
  in_term g (name w) = used (find w.name g) w.line
  in_term g (at w i) = indexed (find w.name g) w.line then in_term g i
  in_term g (call w es) = fault_of_call (find w.name g) (count_of es) w.line then in_terms g es
  in_term g (unary o e) = in_term g e
  in_term g (binary o l r) = in_term g l then in_term g r

  -- the arguments of a call
  pub in_terms : Scope → Terms → Fault
  in_terms g none = None
  in_terms g (more e es) = in_term g e then in_terms g es

-- what is visible after a statement
abbrev pub scope_after : Statement → Scope → Scope
scope_after (declare w e) g = (w.name, a_local) ∷ g
scope_after s g = g

-- a statement or a block, given the innermost atomic or spawned block of the function around it
abbrev mutual
  pub in_statement : Scope → Around → Statement → Fault
  in_statement g i (declare w e) = declared_new (find w.name g) w.line then in_term g e
  in_statement g i (assign w e) = used (find w.name g) w.line then in_term g e
  in_statement g i (assign_at w a e) = indexed (find w.name g) w.line then in_term g a then in_term g e
  in_statement g i (run w es) = fault_of_call (find w.name g) (count_of es) w.line then in_terms g es
  in_statement g i (out e) = in_term g e
  in_statement g i (choose e a b) = in_term g e then in_block g i a then in_block g i b
  in_statement g i (repeat e b) = in_term g e then in_block g i b
  in_statement g i (atomic b) = in_block g around.Atomic b
  in_statement g i (spawn b) = in_block g around.Spawn b
  in_statement g i sync = None
  in_statement g i (cancel l) = cancelled_in i l
  in_statement g i (return l e) = returned_from i l then in_term g e

  -- what is declared in a block is visible to its end
  pub in_block : Scope → Around → Block → Fault
  in_block g i empty = None
  in_block g i (first s b) = in_statement g i s then in_block (scope_after s g) i b

abbrev pub in_params : Scope → List Word → Fault
in_params g [] = None
in_params g (w ∷ ws) = declared_new (find w.name g) w.line then in_params ((w.name, a_local) ∷ g) ws

abbrev pub scope_with_params : Scope → List Word → Scope
scope_with_params g [] = g
scope_with_params g (w ∷ ws) = scope_with_params ((w.name, a_local) ∷ g) ws

-- ## The whole program

-- a cell's number of elements
abbrev pub elements : ℕ → ℕ
elements zero = 1
elements (suc n) = suc n

-- what a cell of this length is
abbrev pub cell_thing : ℕ → Thing
cell_thing zero = a_cell
cell_thing (suc n) = an_array

-- what the items declare
abbrev pub globals : List Declaration → Scope
globals [] = []
globals (cell n l len i ∷ ds) = (n, cell_thing len) ∷ globals ds
globals (func n l ps b ∷ ds) = (n, a_function (length ps)) ∷ globals ds

-- the items, given the names before them and the number of elements before them
abbrev pub in_items : Scope → ℕ → List Declaration → Fault
in_items g n [] = None
in_items g n (cell x l len i ∷ ds) =
    declared_new (find x g) l
    then (if nat_lt 65536 (n + elements len) then fault kind.TooManyCells l else None)
    then in_items ((x, cell_thing len) ∷ g) (n + elements len) ds
in_items g n (func x l ps b ∷ ds) = declared_new (find x g) l then in_items ((x, a_function (length ps)) ∷ g) n ds

abbrev pub in_functions : Scope → List Declaration → Fault
in_functions g [] = None
in_functions g (cell x l len i ∷ ds) = in_functions g ds
in_functions g (func x l ps b ∷ ds) = in_params g ps then in_block (scope_with_params g ps) around.Neither b then in_functions g ds

-- the number of the item that is the function main, counted from n
abbrev pub main_from : ℕ → List Declaration → Option ℕ
main_from n [] = None
main_from n (cell x l len i ∷ ds) = main_from (suc n) ds
main_from n (func x l ps b ∷ ds) = if bytes_eq x (codes "main") then Some n else main_from (suc n) ds

abbrev pub main_of : List Declaration → Option ℕ
main_of ds = main_from 0 ds

abbrev pub without_main : Option ℕ → Fault
without_main None = fault kind.NoMain 0
without_main (Some n) = None

-- the first naming fault
abbrev pub naming_fault : List Declaration → Fault
naming_fault ds = in_items [] 0 ds then in_functions (globals ds) ds then without_main (main_of ds)

-- ## Cells

-- the cells, with their elements numbered from n in the order of the text
abbrev pub cells_from : ℕ → List Declaration → List CellInfo
cells_from n [] = []
cells_from n (cell x l len i ∷ ds) = record { name = x; len = len; base = n; init = i } ∷ cells_from (n + elements len) ds
cells_from n (func x l ps b ∷ ds) = cells_from n ds

abbrev pub cells_of : List Declaration → List CellInfo
cells_of ds = cells_from 0 ds

-- what the memory holds at first
abbrev pub first_memory : List CellInfo → List ℤ
first_memory cells = flat_map {X = CellInfo} (λ c. replicate (elements c.len) c.init) cells
