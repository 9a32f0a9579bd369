-- The code of a statement and of a block fits what is expected at its places: it leaves what was there.
use Rattle.std.proofs.Common.{◌≡◌, ◌∙◌, ℕ, ◌+◌, ◌-◌, ◌<◌, ◌≤◌, not, List, [], ◌∷◌, ◌++◌, length, true, false, pos, refl, sym, ap, subst, arith, Some, None, length-append}
use Rattle.std.specs.Prelude.{slice_get}
use Rattle.std.proofs.lemmas.Bool.{le-leb, lt-ltb}
use Rattle.std.proofs.Math.Bool.{or-true}
use Rattle.cw_text.specs.Syntax.{Term, Statement, declare, assign, assign_at, run, out, choose, repeat, atomic, spawn, sync, cancel as cancel_of, return, Block, empty, first, Declaration}
use Rattle.cw_code.specs.declared.CellInfo.{CellInfo}
use Rattle.cw_code.specs.declared.instruction.Instr.{Instr}
use Rattle.cw_code.specs.declared.instruction.Func.{Func}
use Rattle.cw_code.specs.declared.instruction.Code.{Code}
use Rattle.cw_code.specs.declared.situation.Part.{Part}
use Rattle.cw_code.specs.declared.situation.Part.TheVariants.{Block as block, Fork as forked}
use Rattle.cw_code.specs.declared.effects.Effect.TheVariants as effect
use Rattle.cw_code.specs.Rules.{Situation, onwards, is_target, is_in_block}
use Rattle.cw_code.proofs.Parts.{parts_in_first}
use Rattle.cw_code.proofs.Passes.{no_fault}
use Rattle.cw_code.proofs.Walk.{at, expected, expected_behind, Walks, further, nothing, one, simply, no_target, named_target, further_on}
use Rattle.cw_strand.specs.declared.naming.Around.{Around}
use Rattle.cw_strand.specs.declared.naming.Around.TheVariants as around
use Rattle.cw_strand.specs.Names.{globals, in_functions, fault_of_call, count_of, in_terms, returned_from, cells_of, in_term, in_statement, in_block, scope_after, indexed, find, ◌then◌}
use Rattle.cw_strand.specs.Meaning.{cell_of}
use Rattle.cw_strand.specs.Compilation.{Slots, slots_after, code_of, function_names, calls, terms_code, term_code, statement_code, block_code, block_length, most, most_in, stores_at}
use Rattle.cw_strand.specs.Compilation as instr
use Rattle.cw_strand.proofs.Numbering.{scope_of, scope_behind, count_behind, most_from}
use Rattle.cw_strand.proofs.StandingNames as standing
use Rattle.cw_strand.proofs.Lengths.{block_long}
use Rattle.cw_strand.proofs.Doing.{HasAt, front, behind}
use Rattle.cw_strand.proofs.Unbroken.Terms.{set_fits, writes_fits, term_fits, terms_fit, call_fits, discard_fits, stores_fit}

module _ (ds : List Declaration) (f : Func) (all_named : in_functions (globals ds) ds ≡ None) where
  abbrev code : Code
  code = code_of ds

  abbrev cells : List CellInfo
  cells = cells_of ds

  abbrev function_list : List (List ℕ)
  function_list = function_names ds

  abbrev Up : ℕ → ℕ → Situation → Type 0
  Up = Walks code f

  abbrev Expects : ℕ → Situation → Type 0
  Expects p s = expected code f p ≡ s

  -- ## Instructions

  -- any operands may be there where a strand waits
  pub wait_fits : (h p : ℕ) (ps : List Part) → f.start ≤ p → p + 1 < f.end → slice_get code.instrs p ≡ Some instr.wait → Expects p (at h ps) → Up p (p + 1) (at h ps)
  wait_fits h p ps from to is here =
      let same : h - 0 + 0 ≡ h = omega arith in
      simply code f p instr.wait (Some effect.Sync) h ps h refl from is here (ap (λ x. at x ps) same) refl (omega arith) refl refl refl to

  -- a function returns in none of its blocks and forked parts
  pub ret_fits : (p : ℕ) → f.start ≤ p → slice_get code.instrs p ≡ Some instr.ret → Expects p (at 1 []) → Up p (p + 1) (at 0 [])
  ret_fits p from there is = one code f p instr.ret (Some effect.Ret) (at 1 []) (at 0 []) refl from there is refl (record {
    operands = refl;
    room = omega arith;
    border = λ border. absurd (let never : false ≡ true = border in cc);
    whole = refl;
    last = λ passed. absurd (let never : true ≡ false = passed in cc);
    target = no_target code f instr.ret (Some effect.Ret) p (at 1 []) refl;
  })

  -- outside atomic blocks and spawned ones none is open
  abbrev pub Alone : Around → List Part → Type 0
  Alone around.Neither ps = ps ≡ []
  Alone i ps = Unit {0}

  -- and where there is a `return`, none is
  alone_there : (i : Around) (l : ℕ) (ps : List Part) → returned_from i l ≡ None → Alone i ps → ps ≡ []
  alone_there around.Neither l ps fine h = h
  alone_there around.Atomic l ps never h = absurd cc
  alone_there around.Spawn l ps never h = absurd cc

  -- directly inside an atomic block its end lies behind this place, where the same is expected
  abbrev pub Ending : Around → (ending place : ℕ) → List Part → Type 0
  Ending around.Atomic q p ps = (is_in_block ps ≡ true) × (p ≤ q) × (q < f.end) × Expects q (at 0 ps)
  Ending i q p ps = Unit {0}

  -- it lies behind each smaller place
  ending_behind : (i : Around) (q p r : ℕ) (ps : List Part) → r ≤ p → Ending i q p ps → Ending i q r ps
  ending_behind around.Neither q p r ps le h = tt
  ending_behind around.Spawn q p r ps le h = tt
  ending_behind around.Atomic q p r ps le h = (h.0, omega (arith, le, h.1), h.2, h.3)

  module _ (p : ℕ) (ps : List Part) (from : f.start ≤ p) (to : p + 1 < f.end) where
    tick_fits : slice_get code.instrs p ≡ Some instr.tick → Expects p (at 0 ps) → Up p (p + 1) (at 0 ps)
    tick_fits is here = simply code f p instr.tick (Some effect.Tick) 0 ps 0 refl from is here refl refl (omega arith) refl refl refl to

    show_fits : slice_get code.instrs p ≡ Some instr.show → Expects p (at 1 ps) → Up p (p + 1) (at 0 ps)
    show_fits is here = simply code f p instr.show (Some effect.Out) 1 ps 0 refl from is here refl refl (omega arith) refl refl refl to

    begin_fits : slice_get code.instrs p ≡ Some instr.begin → Expects p (at 0 ps) → Up p (p + 1) (at 0 (block ∷ ps))
    begin_fits is here = one code f p instr.begin (Some effect.Begin) (at 0 ps) (at 0 (block ∷ ps)) refl from is here refl (record {
      operands = refl;
      room = omega arith;
      border = λ border. refl;
      whole = refl;
      last = λ passed. to;
      target = no_target code f instr.begin (Some effect.Begin) p (at 0 ps) refl;
    })

    end_fits : slice_get code.instrs p ≡ Some instr.end → Expects p (at 0 (block ∷ ps)) → Up p (p + 1) (at 0 ps)
    end_fits is here = one code f p instr.end (Some effect.End) (at 0 (block ∷ ps)) (at 0 ps) refl from is here refl (record {
      operands = refl;
      room = omega arith;
      border = λ border. refl;
      whole = parts_in_first block block ps refl;
      last = λ passed. to;
      target = no_target code f instr.end (Some effect.End) p (at 0 (block ∷ ps)) refl;
    })

    done_fits : slice_get code.instrs p ≡ Some instr.done → Expects p (at 0 (forked ∷ ps)) → Up p (p + 1) (at 0 ps)
    done_fits is here = one code f p instr.done (Some effect.Done) (at 0 (forked ∷ ps)) (at 0 ps) refl from is here refl (record {
      operands = refl;
      room = omega arith;
      border = λ border. refl;
      whole = parts_in_first forked forked ps refl;
      last = λ passed. to;
      target = no_target code f instr.done (Some effect.Done) p (at 0 (forked ∷ ps)) refl;
    })

    cancel_fits : is_in_block ps ≡ true → slice_get code.instrs p ≡ Some instr.cancel → Expects p (at 0 ps) → Up p (p + 1) (at 0 ps)
    cancel_fits inner is here = one code f p instr.cancel (Some effect.Cancel) (at 0 ps) (at 0 ps) refl from is here refl (record {
      operands = refl;
      room = omega arith;
      border = λ border. refl;
      whole = ap not inner;
      last = λ passed. to;
      target = no_target code f instr.cancel (Some effect.Cancel) p (at 0 ps) refl;
    })

    fork_fits : (q : ℕ) → p < q → q < f.end → slice_get code.instrs p ≡ Some (instr.fork q) → Expects p (at 0 ps) → Expects q (at 0 ps) → Up p (p + 1) (at 0 (forked ∷ ps))
    fork_fits q lt within is here there = one code f p (instr.fork q) (Some effect.Fork) (at 0 ps) (at 0 (forked ∷ ps)) refl from is here refl (record {
      operands = no_fault _ _ p (ap not (further_on code f p q from lt within));
      room = omega arith;
      border = λ border. refl;
      whole = refl;
      last = λ passed. to;
      target = λ r leads. let same = named_target code f (instr.fork q) (Some effect.Fork) q r refl leads in sym (ap (expected code f) same) ∙ there;
    })

    -- where the operand is 0 it leads further on
    jump_zero_fits : (q : ℕ) → p < q → q < f.end → slice_get code.instrs p ≡ Some (instr.jump_zero q) → Expects p (at 1 ps) → Expects q (at 0 ps) → Up p (p + 1) (at 0 ps)
    jump_zero_fits q lt within is here there = one code f p (instr.jump_zero q) (Some effect.JumpZero) (at 1 ps) (at 0 ps) refl from is here refl (record {
      operands = no_fault _ _ p (ap not (further_on code f p q from lt within));
      room = omega arith;
      border = λ border. absurd (let never : false ≡ true = border in cc);
      whole = refl;
      last = λ passed. to;
      target = λ r leads. let same = named_target code f (instr.jump_zero q) (Some effect.JumpZero) q r refl leads in sym (ap (expected code f) same) ∙ there;
    })

    jump_fits : (q : ℕ) → is_target code f p (pos q) ≡ true → slice_get code.instrs p ≡ Some (instr.jump q) → Expects p (at 0 ps) → Expects q (at 0 ps) → Up p (p + 1) (at 0 ps)
    jump_fits q may is here there = one code f p (instr.jump q) (Some effect.Jump) (at 0 ps) (at 0 ps) refl from is here refl (record {
      operands = no_fault _ _ p (ap not may);
      room = omega arith;
      border = λ border. absurd (let never : false ≡ true = border in cc);
      whole = refl;
      last = λ passed. to;
      target = λ r leads. let same = named_target code f (instr.jump q) (Some effect.Jump) q r refl leads in sym (ap (expected code f) same) ∙ there;
    })

    -- a jump back to a tick
    jump_back_fits : (q : ℕ) → f.start ≤ q → q ≤ p → slice_get code.instrs q ≡ Some instr.tick → slice_get code.instrs p ≡ Some (instr.jump q) → Expects p (at 0 ps) → Expects q (at 0 ps) → Up p (p + 1) (at 0 ps)
    jump_back_fits q starts le ticks is here there =
        let may : is_target code f p (pos q) ≡ true = rw (le-leb f.start q starts, lt-ltb q f.end (omega (arith, to)), ticks, or-true) refl in
        jump_fits q may is here there

  -- ## Statements

  -- an expression between a tick and what is done with its value
  with_value : (g : Slots) (e : Term) (i : Instr) (p : ℕ) (ps : List Part) → in_term (scope_of ds g) e ≡ None → length g ≤ f.locals → f.start ≤ p → HasAt code.instrs p (instr.tick ∷ (term_code cells function_list g e ++ i ∷ [])) → p + length (instr.tick ∷ (term_code cells function_list g e ++ i ∷ [])) < f.end → Expects p (at 0 ps) → ((q : ℕ) → f.start ≤ q → q + 1 < f.end → slice_get code.instrs q ≡ Some i → Expects q (at 1 ps) → Up q (q + 1) (at 0 ps)) → Up p (p + length (instr.tick ∷ (term_code cells function_list g e ++ i ∷ []))) (at 0 ps)
  with_value g e i p ps fine visible from has to here does =
      let term = term_code cells function_list g e in
      let long = length-append term (i ∷ []) in
      let q = p + 1 + length term in
      let ends : q + 1 ≡ p + length (instr.tick ∷ (term ++ i ∷ [])) = omega (arith, long) in
      subst (λ r. Up p r (at 0 ps)) ends
      (further code f p (p + 1) (q + 1) (at 0 ps) (at 0 ps) (tick_fits p ps from (omega (arith, long)) has.0 here) (λ w.
      further code f (p + 1) q (q + 1) (at 1 ps) (at 0 ps) (term_fits ds f all_named g visible e (p + 1) 0 ps fine (omega arith) (front code.instrs (p + 1) term (i ∷ []) has.1) (omega (arith, long)) w) (λ v.
      does q (omega arith) (omega (arith, long)) (behind code.instrs (p + 1) term (i ∷ []) has.1).0 v)))

  -- Behind a statement stands what stood at it; and its code fits, where the end to which its `cancel`s lead stands further on.
  pub record Leads (i : Around) (ending p behind : ℕ) (ps : List Part) : Type 0 where
    pub ends : Expects behind (at 0 ps)
    pub fits : Ending i ending behind ps → Up p behind (at 0 ps)

  plainly : (i : Around) (ending p behind : ℕ) (ps : List Part) → Up p behind (at 0 ps) → Leads i ending p behind ps
  plainly i ending p behind ps w = record { ends = w.ends; fits = λ h. w }

  mutual
    pub statement_fits : (i : Around) (s : Statement) (g : Slots) (p ending : ℕ) (ps : List Part) → Alone i ps → in_statement (scope_of ds g) i s ≡ None → length g ≤ f.locals → most_in (length g) s ≤ f.locals → f.start ≤ p → HasAt code.instrs p (statement_code cells function_list g p ending s) → p + length (statement_code cells function_list g p ending s) < f.end → Expects p (at 0 ps) → Leads i ending p (p + length (statement_code cells function_list g p ending s)) ps
    statement_fits j (declare w e) g p ending ps alone fine visible room from has to here =
        plainly j ending p _ ps (with_value g e (instr.set (length g)) p ps (standing.no_fault _ _ fine).1 visible from has to here (λ q past more is v. set_fits ds f all_named g visible q 0 ps past more (length g) (omega arith) is v))
    statement_fits j (assign w e) g p ending ps alone fine visible room from has to here =
        let parts = standing.no_fault _ _ fine in
        plainly j ending p _ ps (with_value g e _ p ps parts.1 visible from has to here (λ q past more is v. writes_fits ds f all_named g visible q 0 ps past more w.name w.line parts.0 is v))
    statement_fits j (assign_at w i e) g p ending ps alone fine visible room from has to here =
        let one = term_code cells function_list g i in
        let two = term_code cells function_list g e in
        let stores = stores_at cells function_list (cell_of cells w.name) ∷ [] in
        let long = length-append one (two ++ stores) in
        let long2 = length-append two stores in
        let q = p + 1 + length one in
        let u = q + length two in
        let rest = behind code.instrs (p + 1) one (two ++ stores) has.1 in
        let parts = standing.no_fault (indexed (find w.name (scope_of ds g)) w.line) (in_term (scope_of ds g) i then in_term (scope_of ds g) e) fine in
        let terms = standing.no_fault (in_term (scope_of ds g) i) (in_term (scope_of ds g) e) parts.1 in
        let ends : u + 1 ≡ p + length (instr.tick ∷ (one ++ (two ++ stores))) = omega (arith, long, long2) in
        plainly j ending p _ ps (subst (λ r. Up p r (at 0 ps)) ends
        (further code f p (p + 1) (u + 1) (at 0 ps) (at 0 ps) (tick_fits p ps from (omega (arith, long, long2)) has.0 here) (λ z.
        further code f (p + 1) q (u + 1) (at 1 ps) (at 0 ps) (term_fits ds f all_named g visible i (p + 1) 0 ps terms.0 (omega arith) (front code.instrs (p + 1) one (two ++ stores) has.1) (omega (arith, long, long2)) z) (λ y.
        further code f q u (u + 1) (at 2 ps) (at 0 ps) (term_fits ds f all_named g visible e q 1 ps terms.1 (omega arith) (front code.instrs q two stores rest) (omega (arith, long, long2)) y) (λ x.
        stores_fit ds f all_named g visible u 0 ps (omega arith) (omega (arith, long, long2)) w.name w.line parts.0 (behind code.instrs q two stores rest).0 x)))))
    statement_fits j (run w es) g p ending ps alone fine visible room from has to here =
        let first = terms_code cells function_list g es in
        let tail = calls cells function_list w.name ∷ instr.discard ∷ [] in
        let long = length-append first tail in
        let q = p + 1 + length first in
        let rest = behind code.instrs (p + 1) first tail has.1 in
        let parts = standing.no_fault (fault_of_call (find w.name (scope_of ds g)) (count_of es) w.line) (in_terms (scope_of ds g) es) fine in
        let ends : q + 1 + 1 ≡ p + length (instr.tick ∷ (first ++ tail)) = omega (arith, long) in
        plainly j ending p _ ps (subst (λ r. Up p r (at 0 ps)) ends
        (further code f p (p + 1) (q + 1 + 1) (at 0 ps) (at 0 ps) (tick_fits p ps from (omega (arith, long)) has.0 here) (λ z.
        further code f (p + 1) q (q + 1 + 1) (at (0 + count_of es) ps) (at 0 ps) (terms_fit ds f all_named g visible es (p + 1) 0 ps parts.1 (omega arith) (front code.instrs (p + 1) first tail has.1) (omega (arith, long)) z) (λ y.
        further code f q (q + 1) (q + 1 + 1) (at 1 ps) (at 0 ps) (call_fits ds f all_named g visible q 0 ps (omega arith) (omega (arith, long)) w.name (count_of es) w.line parts.0 rest.0 y) (λ x.
        discard_fits ds f all_named g visible (q + 1) 0 ps (omega arith) (omega (arith, long)) rest.1.0 x)))))
    statement_fits j (return l e) g p ending ps alone fine visible room from has to here =
        let term = term_code cells function_list g e in
        let tail = instr.wait ∷ instr.ret ∷ [] in
        let long = length-append term tail in
        let q = p + 1 + length term in
        let rest = behind code.instrs (p + 1) term tail has.1 in
        let parts = standing.no_fault (returned_from j l) (in_term (scope_of ds g) e) fine in
        let none = alone_there j l ps parts.0 alone in
        let ends : q + 1 + 1 ≡ p + length (instr.tick ∷ (term ++ tail)) = omega (arith, long) in
        let returns : Expects (q + 1) (at 1 ps) → Up (q + 1) (q + 1 + 1) (at 0 ps) =
        subst (λ z. Expects (q + 1) (at 1 z) → Up (q + 1) (q + 1 + 1) (at 0 z)) (sym none) (λ y. ret_fits (q + 1) (omega arith) rest.1.0 y) in
        plainly j ending p _ ps (subst (λ r. Up p r (at 0 ps)) ends
        (further code f p (p + 1) (q + 1 + 1) (at 0 ps) (at 0 ps) (tick_fits p ps from (omega (arith, long)) has.0 here) (λ z.
        further code f (p + 1) q (q + 1 + 1) (at 1 ps) (at 0 ps) (term_fits ds f all_named g visible e (p + 1) 0 ps parts.1 (omega arith) (front code.instrs (p + 1) term tail has.1) (omega (arith, long)) z) (λ y.
        further code f q (q + 1) (q + 1 + 1) (at 1 ps) (at 0 ps) (wait_fits 1 q ps (omega arith) (omega (arith, long)) rest.0 y) (λ x. returns x)))))
    statement_fits j sync g p ending ps alone fine visible room from has to here =
        let ends : p + 1 + 1 ≡ p + 2 = omega arith in
        plainly j ending p _ ps (subst (λ r. Up p r (at 0 ps)) ends
        (further code f p (p + 1) (p + 1 + 1) (at 0 ps) (at 0 ps) (tick_fits p ps from (omega arith) has.0 here) (λ w.
        wait_fits 0 (p + 1) ps (omega arith) (omega arith) has.1.0 w)))
    statement_fits j (out e) g p ending ps alone fine visible room from has to here =
        plainly j ending p _ ps (with_value g e instr.show p ps fine visible from has to here (λ q past more is v. show_fits q ps past more is v))
    statement_fits around.Neither (cancel_of l) g p ending ps alone never visible room from has to here = absurd cc
    statement_fits around.Spawn (cancel_of l) g p ending ps alone never visible room from has to here = absurd cc
    statement_fits around.Atomic (cancel_of l) g p ending ps alone fine visible room from has to here =
        let long : p + 1 + 1 + 1 + 1 ≡ p + 4 = omega arith in
        let w1 : Up p (p + 1) (at 0 ps) = tick_fits p ps from (omega arith) has.0 here in
        let w2 : Up (p + 1) (p + 1 + 1) (at 0 ps) = wait_fits 0 (p + 1) ps (omega arith) (omega arith) has.1.0 w1.ends in
        let third = p + 1 + 1 in
        let gone : Expects (third + 1) (at 0 ps) = expected_behind code f third instr.cancel (omega arith) has.1.1.0 ∙ ap (λ s. onwards code instr.cancel (Some effect.Cancel) s) w2.ends in
        let behind_it : Expects (third + 1 + 1) (at 0 ps) = expected_behind code f (third + 1) (instr.jump ending) (omega arith) has.1.1.1.0 ∙ ap (λ s. onwards code (instr.jump ending) (Some effect.Jump) s) gone in
        subst (λ r. Leads around.Atomic ending p r ps) long (record {
          ends = behind_it;
          fits = λ h.
              further code f p (p + 1) (third + 1 + 1) (at 0 ps) (at 0 ps) w1 (λ z.
              further code f (p + 1) third (third + 1 + 1) (at 0 ps) (at 0 ps) w2 (λ y.
              further code f third (third + 1) (third + 1 + 1) (at 0 ps) (at 0 ps) (cancel_fits third ps (omega arith) (omega arith) h.0 has.1.1.0 y) (λ x.
              jump_fits (third + 1) ps (omega arith) (omega arith) ending (further_on code f (third + 1) ending (omega arith) (omega (arith, h.1)) h.2) has.1.1.1.0 x h.3)));
        })
    statement_fits j (choose e a c) g p ending ps alone fine visible room from has to here =
        let test = term_code cells function_list g e in
        let q = p + 1 + length test in
        let first = block_code cells function_list g (q + 1) ending a in
        let past = q + 1 + length first in
        let second = block_code cells function_list g (past + 1) ending c in
        let end = past + 1 + length second in
        let passes = instr.jump end ∷ second in
        let choice = instr.jump_zero (past + 1) ∷ (first ++ passes) in
        let tail = behind code.instrs (p + 1) test choice has.1 in
        let later = behind code.instrs (q + 1) first passes tail.1 in
        let long = length-append test choice in
        let long2 = length-append first passes in
        let parts = standing.no_fault (in_term (scope_of ds g) e) (in_block (scope_of ds g) j a then in_block (scope_of ds g) j c) fine in
        let blocks = standing.no_fault (in_block (scope_of ds g) j a) (in_block (scope_of ds g) j c) parts.1 in
        let ends : end ≡ p + length (instr.tick ∷ (test ++ choice)) = omega (arith, long, long2) in
        let w1 : Up p (p + 1) (at 0 ps) = tick_fits p ps from (omega (arith, long, long2)) has.0 here in
        let w2 : Up (p + 1) q (at 1 ps) = term_fits ds f all_named g visible e (p + 1) 0 ps parts.0 (omega arith) (front code.instrs (p + 1) test choice has.1) (omega (arith, long, long2)) w1.ends in
        let held : Expects (q + 1) (at 0 ps) = expected_behind code f q (instr.jump_zero (past + 1)) (omega arith) tail.0 ∙ ap (λ s. onwards code (instr.jump_zero (past + 1)) (Some effect.JumpZero) s) w2.ends in
        let one : Leads j ending (q + 1) past ps = block_fits j a g (q + 1) ending ps alone blocks.0 visible (omega (arith, room)) (omega arith) (front code.instrs (q + 1) first passes tail.1) (omega (arith, long, long2)) held in
        let else : Expects (past + 1) (at 0 ps) = expected_behind code f past (instr.jump end) (omega arith) later.0 ∙ ap (λ s. onwards code (instr.jump end) (Some effect.Jump) s) one.ends in
        let two : Leads j ending (past + 1) end ps = block_fits j c g (past + 1) ending ps alone blocks.1 visible (omega (arith, room)) (omega arith) later.1 (omega (arith, long, long2)) else in
        subst (λ r. Leads j ending p r ps) ends (record {
          ends = two.ends;
          fits = λ h.
              further code f p (p + 1) end (at 0 ps) (at 0 ps) w1 (λ z.
              further code f (p + 1) q end (at 1 ps) (at 0 ps) w2 (λ y.
              further code f q (q + 1) end (at 0 ps) (at 0 ps) (jump_zero_fits q ps (omega arith) (omega (arith, long, long2)) (past + 1) (omega arith) (omega (arith, long, long2)) tail.0 y else) (λ x.
              further code f (q + 1) past end (at 0 ps) (at 0 ps) (one.fits (ending_behind j ending end past ps (omega arith) h)) (λ w.
              further code f past (past + 1) end (at 0 ps) (at 0 ps) (jump_fits past ps (omega arith) (omega (arith, long, long2)) end (further_on code f past end (omega arith) (omega arith) (omega (arith, long, long2))) later.0 w two.ends) (λ v. two.fits h)))));
        })
    statement_fits j (repeat e body) g p ending ps alone fine visible room from has to here =
        let test = term_code cells function_list g e in
        let q = p + 1 + length test in
        let is = block_code cells function_list g (q + 1) ending body in
        let u = q + 1 + length is in
        let again = instr.jump p ∷ [] in
        let loop = instr.jump_zero (u + 1) ∷ (is ++ again) in
        let tail = behind code.instrs (p + 1) test loop has.1 in
        let later = behind code.instrs (q + 1) is again tail.1 in
        let long = length-append test loop in
        let long2 = length-append is again in
        let parts = standing.no_fault (in_term (scope_of ds g) e) (in_block (scope_of ds g) j body) fine in
        let ends : u + 1 ≡ p + length (instr.tick ∷ (test ++ loop)) = omega (arith, long, long2) in
        let w1 : Up p (p + 1) (at 0 ps) = tick_fits p ps from (omega (arith, long, long2)) has.0 here in
        let w2 : Up (p + 1) q (at 1 ps) = term_fits ds f all_named g visible e (p + 1) 0 ps parts.0 (omega arith) (front code.instrs (p + 1) test loop has.1) (omega (arith, long, long2)) w1.ends in
        let held : Expects (q + 1) (at 0 ps) = expected_behind code f q (instr.jump_zero (u + 1)) (omega arith) tail.0 ∙ ap (λ s. onwards code (instr.jump_zero (u + 1)) (Some effect.JumpZero) s) w2.ends in
        let inner : Leads j ending (q + 1) u ps = block_fits j body g (q + 1) ending ps alone parts.1 visible room (omega arith) (front code.instrs (q + 1) is again tail.1) (omega (arith, long, long2)) held in
        let back : Up u (u + 1) (at 0 ps) = jump_back_fits u ps (omega arith) (omega (arith, long, long2)) p from (omega arith) has.0 later.0 inner.ends here in
        subst (λ r. Leads j ending p r ps) ends (record {
          ends = back.ends;
          fits = λ h.
              further code f p (p + 1) (u + 1) (at 0 ps) (at 0 ps) w1 (λ z.
              further code f (p + 1) q (u + 1) (at 1 ps) (at 0 ps) w2 (λ y.
              further code f q (q + 1) (u + 1) (at 0 ps) (at 0 ps) (jump_zero_fits q ps (omega arith) (omega (arith, long, long2)) (u + 1) (omega arith) (omega (arith, long, long2)) tail.0 y back.ends) (λ w.
              further code f (q + 1) u (u + 1) (at 0 ps) (at 0 ps) (inner.fits (ending_behind j ending (u + 1) u ps (omega arith) h)) (λ x. back))));
        })
    statement_fits j (atomic body) g p ending ps alone fine visible room from has to here =
        let last = p + 1 + 1 + block_length body + 1 in
        let is = block_code cells function_list g (p + 1 + 1) last body in
        let tail = instr.wait ∷ instr.end ∷ [] in
        let long = length-append is tail in
        let length_is = block_long cells function_list g (p + 1 + 1) last body in
        let q = p + 1 + 1 + length is in
        let rest = behind code.instrs (p + 1 + 1) is tail has.1.1 in
        let ends : q + 1 + 1 ≡ p + length (statement_code cells function_list g p ending (atomic body)) = omega (arith, long) in
        let same : last ≡ q + 1 = omega (arith, length_is) in
        let w1 : Up p (p + 1) (at 0 ps) = tick_fits p ps from (omega (arith, long)) has.0 here in
        let w2 : Up (p + 1) (p + 1 + 1) (at 0 (block ∷ ps)) = begin_fits (p + 1) ps (omega arith) (omega (arith, long)) has.1.0 w1.ends in
        let inner : Leads around.Atomic last (p + 1 + 1) q (block ∷ ps) = block_fits around.Atomic body g (p + 1 + 1) last (block ∷ ps) tt fine visible room (omega arith) (front code.instrs (p + 1 + 1) is tail has.1.1) (omega (arith, long)) w2.ends in
        let w3 : Up q (q + 1) (at 0 (block ∷ ps)) = wait_fits 0 q (block ∷ ps) (omega arith) (omega (arith, long)) rest.0 inner.ends in
        let w4 : Up (q + 1) (q + 1 + 1) (at 0 ps) = end_fits (q + 1) ps (omega arith) (omega (arith, long)) rest.1.0 w3.ends in
        let body_fits : Up (p + 1 + 1) q (at 0 (block ∷ ps)) = inner.fits (refl, omega (arith, same), omega (arith, same, long, to), subst (λ r. Expects r (at 0 (block ∷ ps))) (sym same) w3.ends) in
        subst (λ r. Leads j ending p r ps) ends (plainly j ending p (q + 1 + 1) ps
        (further code f p (p + 1) (q + 1 + 1) (at 0 ps) (at 0 ps) w1 (λ w.
        further code f (p + 1) (p + 1 + 1) (q + 1 + 1) (at 0 (block ∷ ps)) (at 0 ps) w2 (λ v.
        further code f (p + 1 + 1) q (q + 1 + 1) (at 0 (block ∷ ps)) (at 0 ps) body_fits (λ u.
        further code f q (q + 1) (q + 1 + 1) (at 0 (block ∷ ps)) (at 0 ps) w3 (λ t. w4))))))
    statement_fits j (spawn body) g p ending ps alone fine visible room from has to here =
        let is = block_code cells function_list g (p + 1 + 1) ending body in
        let tail = instr.wait ∷ instr.done ∷ [] in
        let long = length-append is tail in
        let q = p + 1 + 1 + length is in
        let rest = behind code.instrs (p + 1 + 1) is tail has.1.1 in
        let ends : q + 1 + 1 ≡ p + length (statement_code cells function_list g p ending (spawn body)) = omega (arith, long) in
        let w1 : Up p (p + 1) (at 0 ps) = tick_fits p ps from (omega (arith, long)) has.0 here in
        let away : Expects (p + 1 + 1) (at 0 (forked ∷ ps)) = expected_behind code f (p + 1) (instr.fork (q + 1 + 1)) (omega arith) has.1.0 ∙ ap (λ s. onwards code (instr.fork (q + 1 + 1)) (Some effect.Fork) s) w1.ends in
        let inner : Leads around.Spawn ending (p + 1 + 1) q (forked ∷ ps) = block_fits around.Spawn body g (p + 1 + 1) ending (forked ∷ ps) tt fine visible room (omega arith) (front code.instrs (p + 1 + 1) is tail has.1.1) (omega (arith, long)) away in
        let w3 : Up q (q + 1) (at 0 (forked ∷ ps)) = wait_fits 0 q (forked ∷ ps) (omega arith) (omega (arith, long)) rest.0 inner.ends in
        let w4 : Up (q + 1) (q + 1 + 1) (at 0 ps) = done_fits (q + 1) ps (omega arith) (omega (arith, long)) rest.1.0 w3.ends in
        let all : Up (p + 1 + 1) (q + 1 + 1) (at 0 ps) =
        further code f (p + 1 + 1) q (q + 1 + 1) (at 0 (forked ∷ ps)) (at 0 ps) (inner.fits tt) (λ u.
        further code f q (q + 1) (q + 1 + 1) (at 0 (forked ∷ ps)) (at 0 ps) w3 (λ t. w4)) in
        subst (λ r. Leads j ending p r ps) ends (plainly j ending p (q + 1 + 1) ps
        (further code f p (p + 1) (q + 1 + 1) (at 0 ps) (at 0 ps) w1 (λ w.
        further code f (p + 1) (p + 1 + 1) (q + 1 + 1) (at 0 (forked ∷ ps)) (at 0 ps) (fork_fits (p + 1) ps (omega arith) (omega (arith, long)) (q + 1 + 1) (omega arith) (omega (arith, long)) has.1.0 w w4.ends) (λ v. all))))

    pub block_fits : (i : Around) (x : Block) (g : Slots) (p ending : ℕ) (ps : List Part) → Alone i ps → in_block (scope_of ds g) i x ≡ None → length g ≤ f.locals → most (length g) x ≤ f.locals → f.start ≤ p → HasAt code.instrs p (block_code cells function_list g p ending x) → p + length (block_code cells function_list g p ending x) < f.end → Expects p (at 0 ps) → Leads i ending p (p + length (block_code cells function_list g p ending x)) ps
    block_fits j empty g p ending ps alone fine visible room from has to here = let same : p ≡ p + 0 = omega arith in plainly j ending p _ ps (subst (λ q. Up p q (at 0 ps)) same (nothing code f p (at 0 ps) here))
    block_fits j (first s x) g p ending ps alone fine visible room from has to here =
        let more = slots_after s g in
        let one = statement_code cells function_list g p ending s in
        let q = p + length one in
        let rest = block_code cells function_list more q ending x in
        let long = length-append one rest in
        let parts = standing.no_fault (in_statement (scope_of ds g) j s) (in_block (scope_after s (scope_of ds g)) j x) fine in
        let fine_rest : in_block (scope_of ds more) j x ≡ None = subst (λ z. in_block z j x ≡ None) (scope_behind ds s g) parts.1 in
        let count = count_behind s g in
        let room_rest : most (length more) x ≤ f.locals = subst (λ n. most n x ≤ f.locals) count (omega arith) in
        let visible_rest : length more ≤ f.locals = let m = most_from (length more) x in omega arith in
        let ends : q + length rest ≡ p + length (one ++ rest) = omega (arith, long) in
        let now : Leads j ending p q ps = statement_fits j s g p ending ps alone parts.0 visible (omega arith) from (front code.instrs p one rest has) (omega (arith, long)) here in
        let then_rest : Leads j ending q (q + length rest) ps = block_fits j x more q ending ps alone fine_rest visible_rest room_rest (omega arith) (behind code.instrs p one rest has) (omega (arith, long)) now.ends in
        subst (λ r. Leads j ending p r ps) ends (record {
          ends = then_rest.ends;
          fits = λ h.
              further code f p q (q + length rest) (at 0 ps) (at 0 ps) (now.fits (ending_behind j ending (q + length rest) q ps (omega arith) h)) (λ w. then_rest.fits h);
        })
