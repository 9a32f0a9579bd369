-- The code of an expression fits what is expected at its places: it leaves one operand more.
use Rattle.std.proofs.Common.{◌≡◌, ◌∙◌, ℕ, zero, suc, ◌+◌, ◌-◌, ◌<◌, ◌≤◌, Bool, true, false, not, List, [], ◌∷◌, ◌++◌, length, refl, sym, ap, subst, arith, Option, Some, None, length-append, ℤ, pos}
use Rattle.std.specs.Prelude.{slice_get, if◌then◌else◌}
use Rattle.std.specs.Str.{bytes_eq}
use Rattle.std.proofs.lemmas.Bool.{lt-ltb, le-leb}
use Rattle.std.proofs.lemmas.Option.{same_Some, slice_get_within}
use Rattle.cw_code.specs.Rules.{Situation, cells_below, params_of}
use Rattle.cw_text.specs.Syntax.{Term, number, name, at as indexed_at, call as call_of, unary, binary, Terms, none, more, Declaration, cell, func}
use Rattle.cw_code.specs.declared.CellInfo.{CellInfo}
use Rattle.cw_code.specs.declared.instruction.Func.{Func}
use Rattle.cw_code.specs.declared.instruction.Code.{Code}
use Rattle.cw_code.specs.declared.effects.Operator.{Operator}
use Rattle.cw_code.specs.declared.effects.Effect.TheVariants as effect
use Rattle.cw_code.specs.declared.situation.Part.{Part}
use Rattle.cw_code.specs.Table.{effect_at}
use Rattle.cw_code.proofs.Passes.{no_fault}
use Rattle.cw_code.proofs.Walk.{at, expected, Walks, further, nothing, simply}
use Rattle.cw_strand.specs.Names.{find, used, indexed, fault_of_call, count_of, in_terms, in_functions, globals, elements, cells_from, cells_of, in_term}
use Rattle.cw_strand.specs.Meaning.{element_of, cell_of, lifted, joining}
use Rattle.cw_strand.specs.Compilation.{Slots, slot_of, function_names, number_from, calls, terms_code, code_of, elements_in, element, reads, writes, loads_at, stores_at, plain, operator_number, term_code, lift_code, join_code}
use Rattle.cw_strand.specs.Compilation as instr
use Rattle.cw_strand.proofs.Numbering.{scope_of, find_out, element_there, array_there, function_there}
use Rattle.cw_strand.proofs.FunctionCode.{function_code_there}
use Rattle.cw_strand.proofs.StandingNames.{IsCell}
use Rattle.cw_strand.proofs.StandingNames as standing
use Rattle.cw_strand.proofs.Doing.{HasAt, front, behind, Lifts, lifted_lifts, Joins, joining_joins}

-- ## Numbers of locals and of elements

slot_below : (g : Slots) (n : List ℕ) (s : ℕ) → slot_of g n ≡ Some s → s < length g
slot_below [] n s e = cc
slot_below (x ∷ g) n s e = by (bytes_eq n x) e (λ h. slot_below g n s h)
  where
    by : (y : Bool) → (if y then Some (length g) else slot_of g n) ≡ Some s → (slot_of g n ≡ Some s → s < length g) → s < length (x ∷ g)
    by true h f = let same : length g ≡ s = cc in omega arith
    by false h f = let lt = f h in omega arith

element_below : (ds : List Declaration) (base : ℕ) (n : List ℕ) (c : ℕ) → element_of (cells_from base ds) n ≡ Some c → c < base + elements_in ds
element_below [] base n c e = cc
element_below (cell x line len i ∷ ds) base n c e = by (bytes_eq n x) e (λ h. element_below ds (base + elements len) n c h)
  where
    has_one : (len : ℕ) → 0 < elements len
    has_one zero = omega arith
    has_one (suc n) = omega arith

    by : (y : Bool) → (if y then Some base else element_of (cells_from (base + elements len) ds) n) ≡ Some c → (element_of (cells_from (base + elements len) ds) n ≡ Some c → c < base + elements len + elements_in ds) → c < base + (elements len + elements_in ds)
    by true h f = let same : base ≡ c = cc in omega (arith, has_one len)
    by false h f = let lt = f h in omega arith
element_below (func x line ps b ∷ ds) base n c e = element_below ds base n c e

-- the elements of a cell are among those of the program
cell_within : (ds : List Declaration) (base : ℕ) (n : List ℕ) (c : CellInfo) → cell_of (cells_from base ds) n ≡ Some c → (c.base < base + elements_in ds) × (c.base + c.len ≤ base + elements_in ds)
cell_within [] base n c e = absurd cc
cell_within (cell x line len i ∷ ds) base n c e = by (bytes_eq n x) e (λ h. cell_within ds (base + elements len) n c h)
  where
    fits : (len : ℕ) → (0 < elements len) × (len ≤ elements len)
    fits zero = (omega arith, omega arith)
    fits (suc n) = (omega arith, omega arith)

    by : (y : Bool) → (if y then Some (record { name = x; len = len; base = base; init = i }) else cell_of (cells_from (base + elements len) ds) n) ≡ Some c
        → (cell_of (cells_from (base + elements len) ds) n ≡ Some c → (c.base < base + elements len + elements_in ds) × (c.base + c.len ≤ base + elements len + elements_in ds))
        → (c.base < base + (elements len + elements_in ds)) × (c.base + c.len ≤ base + (elements len + elements_in ds))
    by true h later =
        let whole = fits len in
        subst (λ (d : CellInfo). (d.base < base + (elements len + elements_in ds)) × (d.base + d.len ≤ base + (elements len + elements_in ds))) (same_Some _ c h) (omega (arith, whole.0), omega (arith, whole.1))
    by false h later = let w = later h in (omega (arith, w.0), omega (arith, w.1))
cell_within (func x line ps b ∷ ds) base n c e = cell_within ds base n c e

below_all : (n len cells : ℕ) → n < cells → n + len ≤ cells → cells_below (pos n) len cells ≡ true
below_all n len cells lt le = rw (lt-ltb n cells lt, le-leb (n + len) cells le) refl

-- a name of the program that may be used stands for an element
named_element : (ds : List Declaration) (n : List ℕ) (line : ℕ) → used (find n (globals ds)) line ≡ None → element (element_of (cells_of ds) n) < elements_in ds
named_element ds n line e =
    let there = element_there ds 0 n line e in
    let lt = element_below ds 0 n there.0 there.1 in
    let lt2 : there.0 < elements_in ds = omega arith in
    subst (λ o. element o < elements_in ds) (sym there.1) lt2

module _ (ds : List Declaration) (f : Func) (all_named : in_functions (globals ds) ds ≡ None) where
  abbrev code : Code
  code = code_of ds

  abbrev cells : List CellInfo
  cells = cells_of ds

  abbrev function_list : List (List ℕ)
  function_list = function_names ds

  abbrev Up : ℕ → ℕ → Situation → Type 0
  Up = Walks code f

  abbrev Expects : ℕ → Situation → Type 0
  Expects p s = expected code f p ≡ s

  -- ## Instructions

  module _ (g : Slots) (visible : length g ≤ f.locals) (p h : ℕ) (parts : List Part) (from : f.start ≤ p) (to : p + 1 < f.end) where
    local_fits : (n : ℕ) → n < length g → slice_get code.instrs p ≡ Some (instr.local n) → Expects p (at h parts) → Up p (p + 1) (at (suc h) parts)
    local_fits n lt is here =
        let one_more : h - 0 + 1 ≡ suc h = omega arith in
        simply code f p (instr.local n) (Some effect.Local) h parts (suc h) refl from is here (ap (λ x. at x parts) one_more) (no_fault _ _ p (ap not (lt-ltb n f.locals (omega arith)))) (omega arith) refl refl refl to

    load_fits : (n : ℕ) → n < elements_in ds → slice_get code.instrs p ≡ Some (instr.load n) → Expects p (at h parts) → Up p (p + 1) (at (suc h) parts)
    load_fits n lt is here =
        let one_more : h - 0 + 1 ≡ suc h = omega arith in
        simply code f p (instr.load n) (Some effect.Load) h parts (suc h) refl from is here (ap (λ x. at x parts) one_more) (no_fault _ _ p (ap not (lt-ltb n (elements_in ds) lt))) (omega arith) refl refl refl to

    pub set_fits : (n : ℕ) → n < f.locals → slice_get code.instrs p ≡ Some (instr.set n) → Expects p (at (suc h) parts) → Up p (p + 1) (at h parts)
    set_fits n lt is here =
        let one_less : suc h - 1 + 0 ≡ h = omega arith in
        simply code f p (instr.set n) (Some effect.Set) (suc h) parts h refl from is here (ap (λ x. at x parts) one_less) (no_fault _ _ p (ap not (lt-ltb n f.locals lt))) (omega arith) refl refl refl to

    store_fits : (n : ℕ) → n < elements_in ds → slice_get code.instrs p ≡ Some (instr.store n) → Expects p (at (suc h) parts) → Up p (p + 1) (at h parts)
    store_fits n lt is here =
        let one_less : suc h - 1 + 0 ≡ h = omega arith in
        simply code f p (instr.store n) (Some effect.Store) (suc h) parts h refl from is here (ap (λ x. at x parts) one_less) (no_fault _ _ p (ap not (lt-ltb n (elements_in ds) lt))) (omega arith) refl refl refl to

    load_at_fits : (n len : ℕ) → n < elements_in ds → n + len ≤ elements_in ds → slice_get code.instrs p ≡ Some (instr.load_at n len) → Expects p (at (suc h) parts) → Up p (p + 1) (at (suc h) parts)
    load_at_fits n len lt le is here =
        let same : suc h - 1 + 1 ≡ suc h = omega arith in
        simply code f p (instr.load_at n len) (Some effect.LoadAt) (suc h) parts (suc h) refl from is here (ap (λ x. at x parts) same) (no_fault _ _ p (ap not (below_all n len (elements_in ds) lt le))) (omega arith) refl refl refl to

    pub store_at_fits : (n len : ℕ) → n < elements_in ds → n + len ≤ elements_in ds → slice_get code.instrs p ≡ Some (instr.store_at n len) → Expects p (at (suc (suc h)) parts) → Up p (p + 1) (at h parts)
    store_at_fits n len lt le is here =
        let two_less : suc (suc h) - 2 + 0 ≡ h = omega arith in
        simply code f p (instr.store_at n len) (Some effect.StoreAt) (suc (suc h)) parts h refl from is here (ap (λ x. at x parts) two_less) (no_fault _ _ p (ap not (below_all n len (elements_in ds) lt le))) (omega arith) refl refl refl to

    -- an element of an array that is read, and one that is written
    loads_fit : (x : List ℕ) (line : ℕ) → indexed (find x (scope_of ds g)) line ≡ None → slice_get code.instrs p ≡ Some (loads_at cells function_list (cell_of cells x)) → Expects p (at (suc h) parts) → Up p (p + 1) (at (suc h) parts)
    loads_fit x line fine is here = by (cell_of cells x) refl (array_there ds g x line fine) is
      where
        by : (o : Option CellInfo) → cell_of cells x ≡ o → IsCell o → slice_get code.instrs p ≡ Some (loads_at cells function_list o) → Up p (p + 1) (at (suc h) parts)
        by None e never is = absurd never
        by (Some d) e some is = let within = cell_within ds 0 x d e in load_at_fits d.base d.len (omega (arith, within.0)) (omega (arith, within.1)) is here

    pub stores_fit : (x : List ℕ) (line : ℕ) → indexed (find x (scope_of ds g)) line ≡ None → slice_get code.instrs p ≡ Some (stores_at cells function_list (cell_of cells x)) → Expects p (at (suc (suc h)) parts) → Up p (p + 1) (at h parts)
    stores_fit x line fine is here = by (cell_of cells x) refl (array_there ds g x line fine) is
      where
        by : (o : Option CellInfo) → cell_of cells x ≡ o → IsCell o → slice_get code.instrs p ≡ Some (stores_at cells function_list o) → Up p (p + 1) (at h parts)
        by None e never is = absurd never
        by (Some d) e some is = let within = cell_within ds 0 x d e in store_at_fits d.base d.len (omega (arith, within.0)) (omega (arith, within.1)) is here

    -- a name that is read, and one that is written
    reads_fits : (x : List ℕ) (line : ℕ) → used (find x (scope_of ds g)) line ≡ None → slice_get code.instrs p ≡ Some (reads cells function_list (slot_of g x) x) → Expects p (at h parts) → Up p (p + 1) (at (suc h) parts)
    reads_fits x line fine is here = by (slot_of g x) refl is
      where
        by : (o : Option ℕ) → slot_of g x ≡ o → slice_get code.instrs p ≡ Some (reads cells function_list o x) → Up p (p + 1) (at (suc h) parts)
        by (Some n) e is = local_fits n (slot_below g x n e) is here
        by None e is = load_fits (element (element_of cells x)) (named_element ds x line (subst (λ t. used t line ≡ None) (find_out ds g x e) fine)) is here

    pub writes_fits : (x : List ℕ) (line : ℕ) → used (find x (scope_of ds g)) line ≡ None → slice_get code.instrs p ≡ Some (writes cells function_list (slot_of g x) x) → Expects p (at (suc h) parts) → Up p (p + 1) (at h parts)
    writes_fits x line fine is here = by (slot_of g x) refl is
      where
        by : (o : Option ℕ) → slot_of g x ≡ o → slice_get code.instrs p ≡ Some (writes cells function_list o x) → Up p (p + 1) (at h parts)
        by (Some n) e is = let lt = slot_below g x n e in set_fits n (omega arith) is here
        by None e is = store_fits (element (element_of cells x)) (named_element ds x line (subst (λ t. used t line ≡ None) (find_out ds g x e) fine)) is here

    pub push_fits : (z : ℤ) → slice_get code.instrs p ≡ Some (instr.push z) → Expects p (at h parts) → Up p (p + 1) (at (suc h) parts)
    push_fits z is here =
        let one_more : h - 0 + 1 ≡ suc h = omega arith in
        simply code f p (instr.push z) (Some effect.Push) h parts (suc h) refl from is here (ap (λ x. at x parts) one_more) refl (omega arith) refl refl refl to

    lift_fits : (o : Operator) → effect_at (operator_number o) ≡ Some (effect.Lift o) → slice_get code.instrs p ≡ Some (plain (operator_number o)) → Expects p (at (suc h) parts) → Up p (p + 1) (at (suc h) parts)
    lift_fits o does is here =
        let same : suc h - 1 + 1 ≡ suc h = omega arith in
        simply code f p (plain (operator_number o)) (Some (effect.Lift o)) (suc h) parts (suc h) does from is here (ap (λ x. at x parts) same) refl (omega arith) refl refl refl to

    pub discard_fits : slice_get code.instrs p ≡ Some instr.discard → Expects p (at (suc h) parts) → Up p (p + 1) (at h parts)
    discard_fits is here =
        let one_less : suc h - 1 + 0 ≡ h = omega arith in
        simply code f p instr.discard (Some effect.Drop) (suc h) parts h refl from is here (ap (λ x. at x parts) one_less) refl (omega arith) refl refl refl to

    -- a call, with its arguments
    pub call_fits : (x : List ℕ) (count line : ℕ) → fault_of_call (find x (scope_of ds g)) count line ≡ None → slice_get code.instrs p ≡ Some (calls cells function_list x) → Expects p (at (h + count) parts) → Up p (p + 1) (at (suc h) parts)
    call_fits x count line may is here =
        let q = function_there ds g x count line may in
        let c = function_code_there ds x q.function all_named q.found in
        let number = number_from 0 x function_list in
        let params : params_of (slice_get code.funcs number) ≡ count = ap params_of c.numbered ∙ c.params ∙ q.count in
        let lt : number < length code.funcs = slice_get_within code.funcs number c.func c.numbered in
        let left : h + count - params_of (slice_get code.funcs number) + 1 ≡ suc h = omega (arith, params) in
        simply code f p (calls cells function_list x) (Some effect.Call) (h + count) parts (suc h) refl from is here (ap (λ z. at z parts) left) (no_fault _ _ p (ap not (lt-ltb number (length code.funcs) lt))) (omega (arith, params)) refl refl refl to

    join_fits : (o : Option Operator) → Joins ds code.instrs o → slice_get code.instrs p ≡ Some (join_code o) → Expects p (at (suc (suc h)) parts) → Up p (p + 1) (at (suc h) parts)
    join_fits (Some o) does is here =
        let one_less : suc (suc h) - 2 + 1 ≡ suc h = omega arith in
        simply code f p (plain (operator_number o)) (Some (effect.Join o)) (suc (suc h)) parts (suc h) does from is here (ap (λ x. at x parts) one_less) refl (omega arith) refl refl refl to
    join_fits None does is here =
        let one_less : suc (suc h) - 1 + 0 ≡ suc h = omega arith in
        simply code f p instr.discard (Some effect.Drop) (suc (suc h)) parts (suc h) refl from is here (ap (λ x. at x parts) one_less) refl (omega arith) refl refl refl to

  -- ## Expressions

  module _ (g : Slots) (visible : length g ≤ f.locals) where
    lifts_fit : (o : Option Operator) → Lifts ds code.instrs o → (p h : ℕ) (parts : List Part) → f.start ≤ p → HasAt code.instrs p (lift_code o) → p + length (lift_code o) < f.end → Expects p (at (suc h) parts) → Up p (p + length (lift_code o)) (at (suc h) parts)
    lifts_fit None does p h parts from has to here = let same : p ≡ p + 0 = omega arith in subst (λ q. Up p q (at (suc h) parts)) same (nothing code f p (at (suc h) parts) here)
    lifts_fit (Some o) does p h parts from has to here = lift_fits g visible p h parts from to o does has.0 here

    mutual
      pub term_fits : (e : Term) (p h : ℕ) (parts : List Part) → in_term (scope_of ds g) e ≡ None → f.start ≤ p → HasAt code.instrs p (term_code cells function_list g e) → p + length (term_code cells function_list g e) < f.end → Expects p (at h parts) → Up p (p + length (term_code cells function_list g e)) (at (suc h) parts)
      term_fits (number n) p h parts fine from has to here = push_fits g visible p h parts from to n has.0 here
      term_fits (name w) p h parts fine from has to here = reads_fits g visible p h parts from to w.name w.line fine has.0 here
      term_fits (indexed_at w i) p h parts fine from has to here =
          let first = term_code cells function_list g i in
          let loads = loads_at cells function_list (cell_of cells w.name) ∷ [] in
          let q = p + length first in
          let fine_parts = standing.no_fault (indexed (find w.name (scope_of ds g)) w.line) (in_term (scope_of ds g) i) fine in
          let ends : q + 1 ≡ p + length (first ++ loads) = omega (arith, length-append first loads) in
          subst (λ r. Up p r (at (suc h) parts)) ends
          (further code f p q (q + 1) (at (suc h) parts) (at (suc h) parts)
          (term_fits i p h parts fine_parts.1 from (front code.instrs p first loads has) (omega (arith, length-append first loads)) here)
          (λ v. loads_fit g visible q h parts (omega arith) (omega arith) w.name w.line fine_parts.0 (behind code.instrs p first loads has).0 v))
      term_fits (call_of w es) p h parts fine from has to here =
          let first = terms_code cells function_list g es in
          let calls_it = calls cells function_list w.name ∷ [] in
          let q = p + length first in
          let fine_parts = standing.no_fault (fault_of_call (find w.name (scope_of ds g)) (count_of es) w.line) (in_terms (scope_of ds g) es) fine in
          let ends : q + 1 ≡ p + length (first ++ calls_it) = omega (arith, length-append first calls_it) in
          subst (λ r. Up p r (at (suc h) parts)) ends
          (further code f p q (q + 1) (at (h + count_of es) parts) (at (suc h) parts)
          (terms_fit es p h parts fine_parts.1 from (front code.instrs p first calls_it has) (omega (arith, length-append first calls_it)) here)
          (λ v. call_fits g visible q h parts (omega arith) (omega arith) w.name (count_of es) w.line fine_parts.0 (behind code.instrs p first calls_it has).0 v))
      term_fits (unary o e) p h parts fine from has to here =
          let first = term_code cells function_list g e in
          let rest = lift_code (lifted o) in
          let q = p + length first in
          let ends : q + length rest ≡ p + length (first ++ rest) = omega (arith, length-append first rest) in
          subst (λ r. Up p r (at (suc h) parts)) ends
          (further code f p q (q + length rest) (at (suc h) parts) (at (suc h) parts)
          (term_fits e p h parts fine from (front code.instrs p first rest has) (omega (arith, length-append first rest)) here)
          (λ w. lifts_fit (lifted o) (lifted_lifts ds code.instrs o) q h parts (omega arith) (behind code.instrs p first rest has) (omega arith) w))
      term_fits (binary o l r) p h parts fine from has to here =
          let one = term_code cells function_list g l in
          let two = term_code cells function_list g r in
          let joins = join_code (joining o) ∷ [] in
          let q = p + length one in
          let u = q + length two in
          let rest = behind code.instrs p one (two ++ joins) has in
          let fine_parts = standing.no_fault (in_term (scope_of ds g) l) (in_term (scope_of ds g) r) fine in
          let ends : u + 1 ≡ p + length (one ++ (two ++ joins)) = omega (arith, length-append one (two ++ joins), length-append two joins) in
          subst (λ x. Up p x (at (suc h) parts)) ends
          (further code f p q (u + 1) (at (suc h) parts) (at (suc h) parts)
          (term_fits l p h parts fine_parts.0 from (front code.instrs p one (two ++ joins) has) (omega (arith, length-append one (two ++ joins), length-append two joins)) here)
          (λ w. further code f q u (u + 1) (at (suc (suc h)) parts) (at (suc h) parts)
          (term_fits r q (suc h) parts fine_parts.1 (omega arith) (front code.instrs q two joins rest) (omega (arith, length-append one (two ++ joins), length-append two joins)) w)
          (λ v. join_fits g visible u h parts (omega arith) (omega arith) (joining o) (joining_joins ds code.instrs o) (behind code.instrs q two joins rest).0 v)))

      -- arguments leave an operand each
      pub terms_fit : (es : Terms) (p h : ℕ) (parts : List Part) → in_terms (scope_of ds g) es ≡ None → f.start ≤ p → HasAt code.instrs p (terms_code cells function_list g es) → p + length (terms_code cells function_list g es) < f.end → Expects p (at h parts) → Up p (p + length (terms_code cells function_list g es)) (at (h + count_of es) parts)
      terms_fit none p h parts fine from has to here =
          let same : p ≡ p + 0 = omega arith in
          let count : h ≡ h + 0 = omega arith in
          subst (λ n. Up p (p + 0) (at n parts)) count (subst (λ q. Up p q (at h parts)) same (nothing code f p (at h parts) here))
      terms_fit (more e es) p h parts fine from has to here =
          let first = term_code cells function_list g e in
          let rest = terms_code cells function_list g es in
          let q = p + length first in
          let fine_parts = standing.no_fault (in_term (scope_of ds g) e) (in_terms (scope_of ds g) es) fine in
          let ends : q + length rest ≡ p + length (first ++ rest) = omega (arith, length-append first rest) in
          let count : suc h + count_of es ≡ h + suc (count_of es) = omega arith in
          subst (λ n. Up p (p + length (first ++ rest)) (at n parts)) count
          (subst (λ r. Up p r (at (suc h + count_of es) parts)) ends
          (further code f p q (q + length rest) (at (suc h) parts) (at (suc h + count_of es) parts)
          (term_fits e p h parts fine_parts.0 from (front code.instrs p first rest has) (omega (arith, length-append first rest)) here)
          (λ v. terms_fit es q (suc h) parts fine_parts.1 (omega arith) (behind code.instrs p first rest has) (omega (arith, length-append first rest)) v)))
