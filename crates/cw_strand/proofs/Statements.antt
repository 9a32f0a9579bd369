-- The code goes on with each statement, and so with all that the syntax does.
use Rattle.std.proofs.Common.{◌≡◌, ℕ, ◌+◌, ◌≤◌, List, [], ◌∷◌, ◌++◌, length, refl, sym, ap, ◌∙◌, subst, arith, Option, None, ℤ, append_assoc, length-append}
use Rattle.std.specs.Prelude.{nat_le}
use Rattle.cw_text.specs.Syntax.{Statement, declare, assign, assign_at, run, out, choose, repeat, atomic, spawn, sync, cancel, return, Block, empty, first, Declaration}
use Rattle.cw_code.specs.declared.CellInfo.{CellInfo}
use Rattle.cw_code.specs.declared.instruction.Instr.{Instr}
use Rattle.cw_code.specs.declared.effects.Effect.TheVariants as effect
use Rattle.cw_code.specs.declared.Limits.{Limits}
use Rattle.cw_code.specs.declared.FaultKind.TheVariants.{Size}
use Rattle.cw_strand.specs.declared.want.Want.TheVariants.{Begin, Fork, Fault}
use Rattle.cw_strand.specs.declared.naming.Around.{Around}
use Rattle.cw_strand.specs.declared.naming.Around.TheVariants as around
use Rattle.cw_strand.proofs.Lengths.{block_long}
use Rattle.cw_strand.specs.Names.{◌then◌, count_of, in_term, in_statement, in_block, cells_of}
use Rattle.cw_strand.specs.Meaning as m
use Rattle.cw_strand.specs.Meaning.{Function, function_of, arguments, enter, discard, leave, Task, value, perform, bind, store_in, store_at, show, choose_by, test, forget, wait, commit, give_up, finish, one_more, one_inside, cell_of}
use Rattle.cw_strand.specs.Coded.{Frame}
use Rattle.cw_strand.specs.Compilation.{Slots, code_of, function_names, calls, term_code, terms_code, statement_code, block_code, block_length, slots_after, slot_of, most, most_in, writes, set, tick, begin, end, fork, stores_at}
use Rattle.cw_strand.specs.Compilation as instr
use Rattle.cw_strand.proofs.Numbering.{more_behind, more_dropped, scope_of, slots_behind, scope_behind, count_behind, dropped_behind, same_count}
use Rattle.cw_strand.proofs.StandingNames.{no_fault}
use Rattle.cw_strand.proofs.Doing.{HasAt, front, behind, Choice, Does, Shuts, shuts_commit, shuts_forget, shuts_perform, shuts_wait, does_give_up, does_value, does_perform, does_bind, does_store, does_show, does_choose, does_test, does_forget, does_wait, does_commit, does_finish, does_store_at, does_discard, does_call, does_leave, unwinds}
use Rattle.cw_strand.proofs.Sharing.{Shared, syntax_at, code_at, IsSmall, Ahead, Keeps, alike, same_place, both_choose, acts, ticks}
use Rattle.cw_strand.proofs.Tasks.{counts_follow}

module _ (ds : List Declaration) (words : List ℤ) (limits : Limits) where
  abbrev instrs : List Instr
  instrs = (code_of ds).instrs

  abbrev cells : List CellInfo
  cells = cells_of ds

  abbrev functions : List ℕ → Option Function
  functions = function_of ds

  abbrev function_list : List (List ℕ)
  function_list = function_names ds

  -- With these operands, the code at this place goes on with the syntax that has this to do.
  abbrev GoesOnWith : {g : Slots} {n : ℕ} {fs : List Frame} → Shared ds words limits g n fs → ℕ → List ℤ → m.Step → Type 0
  GoesOnWith x p vs step = Ahead ds words limits step (code_at ds words limits x p vs)

  module _ {g : Slots} {n : ℕ} {fs : List Frame} (x : Shared ds words limits g n fs) (small : IsSmall ds words limits x) (p : ℕ) (vs : List ℤ) (k : List Task) where
    abbrev source : List Task → m.State
    source todo = syntax_at ds words limits x todo vs

    abbrev DoesThen : ℕ → Type 0
    DoesThen q = Does ds instrs n g (length vs) k q fs

    -- a block is begun
    begin_follows : (b : Block) (todo : List Task) → in_block (scope_of ds g) around.Atomic b ≡ None → most (length g) b ≤ n → HasAt instrs p (begin ∷ (block_code cells function_list g (p + 1) (p + 1 + block_length b + 1) b ++ (instr.wait ∷ end ∷ [])))
        → DoesThen (p + length (begin ∷ (block_code cells function_list g (p + 1) (p + 1 + block_length b + 1) b ++ (instr.wait ∷ end ∷ [])))) → GoesOnWith x p vs (m.begin_with cells functions limits (atomic b) k (source todo))
    begin_follows b todo named room has rest =
        let ending = p + 1 + block_length b + 1 in
        let a = block_code cells function_list g (p + 1) ending b in
        let tail = behind instrs (p + 1) a (instr.wait ∷ end ∷ []) has.1 in
        let past : p + length (begin ∷ (a ++ (instr.wait ∷ end ∷ []))) ≡ p + 1 + length a + 1 + 1 = omega (arith, length-append a (instr.wait ∷ end ∷ [])) in
        let count = same_count x.locals g x.numbers x.agree in
        let back = dropped_behind b g (length x.locals) count in
        let behind_it = subst (λ q. DoesThen q) past rest in
        let there : p + 1 + length a + 1 ≡ ending = omega (arith, block_long cells function_list g (p + 1) ending b) in
        let shut : Shuts ds instrs n g (length vs) (wait ∷ commit ∷ k) ending fs = subst (λ q. Shuts ds instrs n g (length vs) (wait ∷ commit ∷ k) q fs) there (shuts_wait (shuts_commit tail.1.0 behind_it)) in
        let last = does_wait tail.0 (does_commit tail.1.0 behind_it) in
        let does = does_perform around.Atomic ending named room (front instrs (p + 1) a (instr.wait ∷ end ∷ []) has.1)
        (λ more _. shuts_forget {o = length x.locals} (subst (λ z. Shuts ds instrs n z (length vs) (wait ∷ commit ∷ k) ending fs) (sym (more_dropped more g (length x.locals) count)) shut))
        (does_forget {o = length x.locals} (subst (λ q. Does ds instrs n q (length vs) (wait ∷ commit ∷ k) (p + 1 + length a) fs) (sym back) last)) in
        let y : Shared ds words limits g n fs = record x { scopes = one_inside x.scopes } in
        let z : Shared ds words limits g n fs = record y { size = x.size + 1 } in
        let inside : List Task = perform b ∷ forget (length x.locals) ∷ wait ∷ commit ∷ k in
        counts_follow ds words limits x small p vs Begin y inside (p + 1) vs (acts ds words limits x p vs small begin effect.Begin has.0 refl) (alike ds words limits z inside (p + 1) vs does refl)

    -- a fork
    fork_follows : (b : Block) (todo : List Task) (past ending : ℕ) → in_block (scope_of ds g) around.Spawn b ≡ None → most (length g) b ≤ n → HasAt instrs p (fork past ∷ (block_code cells function_list g (p + 1) ending b ++ (instr.wait ∷ instr.done ∷ []))) → DoesThen past → GoesOnWith x p vs (m.begin_with cells functions limits (spawn b) k (source todo))
    fork_follows b todo past ending named room has rest =
        let a = block_code cells function_list g (p + 1) ending b in
        let tail = behind instrs (p + 1) a (instr.wait ∷ instr.done ∷ []) has.1 in
        let right : Shared ds words limits g n fs = record x { size = x.size + 1; scopes = one_more x.scopes; beside = b; begins = p + 1 } in
        let left : Shared ds words limits g n [] = record {
          locals = x.locals;
          numbers = x.numbers;
          scopes = 0 ∷ [];
          fuel = x.fuel;
          size = 0;
          beside = b;
          begins = p + 1;
          count = x.count;
          agree = x.agree;
        } in
        let does = does_perform {h = 0} around.Spawn ending named room (front instrs (p + 1) a (instr.wait ∷ instr.done ∷ []) has.1) (λ more never. cc) (does_wait tail.0 (does_finish tail.1.0)) in
        let both : Keeps ds words limits Fork (syntax_at ds words limits right k vs) (code_at ds words limits right past vs) = (alike ds words limits right k past vs rest refl, alike ds words limits left (perform b ∷ wait ∷ finish ∷ []) (p + 1) [] does refl) in
        both_choose ds words limits x p vs (nat_le limits.size x.size) (Fault Size) Fork (source todo) (syntax_at ds words limits right k vs) (code_at ds words limits x p vs) (code_at ds words limits right past vs) (acts ds words limits x p vs small (fork past) effect.Fork has.0 refl) tt both

  module _ {g : Slots} {n : ℕ} {fs : List Frame} (x : Shared ds words limits g n fs) (small : IsSmall ds words limits x) (p : ℕ) (vs : List ℤ) (k : List Task) where
    -- a statement, from its first instruction on
    statement_follows : (inside : Around) (ending : ℕ) (st : Statement) (todo : List Task) → in_statement (scope_of ds g) inside st ≡ None → most_in (length g) st ≤ n → HasAt instrs p (statement_code cells function_list g p ending st) → (inside ≡ around.Atomic → Shuts ds instrs n g (length vs) k ending fs)
        → Does ds instrs n (slots_after st g) (length vs) k (p + length (statement_code cells function_list g p ending st)) fs → GoesOnWith x p vs (m.perform_with cells functions limits st k (syntax_at ds words limits x todo vs))
    statement_follows inside ending (declare w e) todo named room has shut rest =
        let a = term_code cells function_list g e in
        let i = set (length g) in
        let past : p + length (tick ∷ (a ++ i ∷ [])) ≡ p + 1 + length a + 1 = omega (arith, length-append a (i ∷ [])) in
        let last = does_bind (omega (arith, room)) (behind instrs (p + 1) a (i ∷ []) has.1).0 (subst (λ q. Does ds instrs n (w.name ∷ g) (length vs) k q fs) past rest) in
        let does = does_value (no_fault _ _ named).1 (front instrs (p + 1) a (i ∷ []) has.1) last in
        ticks ds words limits x p vs small todo (λ t. m.begin_with cells functions limits (declare w e) k t) has.0 (λ z.
        let y : Shared ds words limits g n fs = record x { fuel = z } in
        same_place ds words limits y (p + 1) vs (value e ∷ bind w.name ∷ k) does refl)
    statement_follows inside ending (assign w e) todo named room has shut rest =
        let a = term_code cells function_list g e in
        let i = writes cells function_list (slot_of g w.name) w.name in
        let past : p + length (tick ∷ (a ++ i ∷ [])) ≡ p + 1 + length a + 1 = omega (arith, length-append a (i ∷ [])) in
        let last = does_store w.line (no_fault _ _ named).0 (behind instrs (p + 1) a (i ∷ []) has.1).0 (subst (λ q. Does ds instrs n g (length vs) k q fs) past rest) in
        let does = does_value (no_fault _ _ named).1 (front instrs (p + 1) a (i ∷ []) has.1) last in
        ticks ds words limits x p vs small todo (λ t. m.begin_with cells functions limits (assign w e) k t) has.0 (λ z.
        let y : Shared ds words limits g n fs = record x { fuel = z } in
        same_place ds words limits y (p + 1) vs (value e ∷ store_in w.name ∷ k) does refl)
    statement_follows inside ending (assign_at w i e) todo named room has shut rest =
        let a = term_code cells function_list g i in
        let b = term_code cells function_list g e in
        let j = stores_at cells function_list (cell_of cells w.name) in
        let tail = behind instrs (p + 1) a (b ++ j ∷ []) has.1 in
        let past : p + length (tick ∷ (a ++ (b ++ j ∷ []))) ≡ p + 1 + length a + length b + 1 = omega (arith, length-append a (b ++ j ∷ []), length-append b (j ∷ [])) in
        let parts = no_fault _ _ (no_fault _ _ named).1 in
        let last = does_store_at w.line (no_fault _ _ named).0 (behind instrs (p + 1 + length a) b (j ∷ []) tail).0 (subst (λ q. Does ds instrs n g (length vs) k q fs) past rest) in
        let second = does_value parts.1 (front instrs (p + 1 + length a) b (j ∷ []) tail) last in
        let does = does_value parts.0 (front instrs (p + 1) a (b ++ j ∷ []) has.1) second in
        ticks ds words limits x p vs small todo (λ t. m.begin_with cells functions limits (assign_at w i e) k t) has.0 (λ z.
        let y : Shared ds words limits g n fs = record x { fuel = z } in
        same_place ds words limits y (p + 1) vs (value i ∷ value e ∷ store_at w.name ∷ k) does refl)
    statement_follows inside ending (run w es) todo named room has shut rest =
        let a = terms_code cells function_list g es in
        let i = calls cells function_list w.name in
        let j = i ∷ instr.discard ∷ [] in
        let tail = behind instrs (p + 1) a j has.1 in
        let past : p + length (tick ∷ (a ++ j)) ≡ p + 1 + length a + 1 + 1 = omega (arith, length-append a j) in
        let last = does_discard tail.1.0 (subst (λ q. Does ds instrs n g (length vs) k q fs) past rest) in
        let does = does_call ds instrs w.name w.line es (instr.discard ∷ []) (no_fault _ _ named).0 (no_fault _ _ named).1 has.1 last in
        ticks ds words limits x p vs small todo (λ t. m.begin_with cells functions limits (run w es) k t) has.0 (λ z.
        let y : Shared ds words limits g n fs = record x { fuel = z } in
        same_place ds words limits y (p + 1) vs (arguments es (enter w.name (count_of es) ∷ discard ∷ k)) does refl)
    statement_follows inside ending (out e) todo named room has shut rest =
        let a = term_code cells function_list g e in
        let past : p + length (tick ∷ (a ++ instr.show ∷ [])) ≡ p + 1 + length a + 1 = omega (arith, length-append a (instr.show ∷ [])) in
        let last = does_show (behind instrs (p + 1) a (instr.show ∷ []) has.1).0 (subst (λ q. Does ds instrs n g (length vs) k q fs) past rest) in
        let does = does_value named (front instrs (p + 1) a (instr.show ∷ []) has.1) last in
        ticks ds words limits x p vs small todo (λ t. m.begin_with cells functions limits (out e) k t) has.0 (λ z.
        let y : Shared ds words limits g n fs = record x { fuel = z } in
        same_place ds words limits y (p + 1) vs (value e ∷ show ∷ k) does refl)
    statement_follows inside ending (choose e a b) todo named room has shut rest =
        let one = term_code cells function_list g e in
        let q = p + 1 + length one in
        let first = block_code cells function_list g (q + 1) ending a in
        let past = q + 1 + length first in
        let second = block_code cells function_list g (past + 1) ending b in
        let passes = instr.jump (past + 1 + length second) ∷ second in
        let choice = instr.jump_zero (past + 1) ∷ (first ++ passes) in
        let tail = behind instrs (p + 1) one choice has.1 in
        let later = behind instrs (q + 1) first passes tail.1 in
        let ends : p + length (tick ∷ (one ++ choice)) ≡ past + 1 + length second = omega (arith, length-append one choice, length-append first passes) in
        let test_fault = in_term (scope_of ds g) e in
        let first_fault = in_block (scope_of ds g) inside a in
        let second_fault = in_block (scope_of ds g) inside b in
        let fine = no_fault test_fault (first_fault then second_fault) named in
        let parts = no_fault first_fault second_fault fine.1 in
        let stands : Choice ds instrs n q (past + 1 + length second) g a b = record {
          inside = inside;
          ending = ending;
          first_named = parts.0;
          second_named = parts.1;
          first_room = omega (arith, room);
          second_room = omega (arith, room);
          past = past;
          past_is = refl;
          end_is = refl;
          skips = tail.0;
          first_stands = front instrs (q + 1) first passes tail.1;
          passes = later.0;
          second_stands = later.1;
        } in
        let does = does_value fine.0 (front instrs (p + 1) one choice has.1) (does_choose stands shut (subst (λ q. Does ds instrs n g (length vs) k q fs) ends rest)) in
        ticks ds words limits x p vs small todo (λ t. m.begin_with cells functions limits (choose e a b) k t) has.0 (λ z.
        let y : Shared ds words limits g n fs = record x { fuel = z } in
        same_place ds words limits y (p + 1) vs (value e ∷ choose_by a b ∷ k) does refl)
    statement_follows inside ending (repeat e b) todo named room has shut rest =
        let parts = no_fault _ _ named in
        same_place ds words limits x p vs (test e b ∷ k) (does_test (record { inside = inside; ending = ending; test_named = parts.0; body_named = parts.1; room = room; stands = has }) shut rest) refl
    statement_follows inside ending sync todo named room has shut rest =
        let past : p + length (tick ∷ instr.wait ∷ []) ≡ p + 1 + 1 = omega arith in
        let does = does_wait has.1.0 (subst (λ q. Does ds instrs n g (length vs) k q fs) past rest) in
        ticks ds words limits x p vs small todo (λ t. m.begin_with cells functions limits sync k t) has.0 (λ z.
        let y : Shared ds words limits g n fs = record x { fuel = z } in
        same_place ds words limits y (p + 1) vs (wait ∷ k) does refl)
    statement_follows around.Neither ending (cancel l) todo named room has shut rest = absurd cc
    statement_follows around.Spawn ending (cancel l) todo named room has shut rest = absurd cc
    statement_follows around.Atomic ending (cancel l) todo named room has shut rest =
        let does = does_wait has.1.0 (does_give_up has.1.1.0 has.1.1.1.0 (shut refl)) in
        ticks ds words limits x p vs small todo (λ t. m.begin_with cells functions limits (cancel l) k t) has.0 (λ z.
        let y : Shared ds words limits g n fs = record x { fuel = z } in
        same_place ds words limits y (p + 1) vs (wait ∷ give_up ∷ k) does refl)
    statement_follows inside ending (return l e) todo named room has shut rest =
        let a = term_code cells function_list g e in
        let tail = behind instrs (p + 1) a (instr.wait ∷ instr.ret ∷ []) has.1 in
        let last = does_wait tail.0 (does_leave tail.1.0 (unwinds ds instrs rest)) in
        let does = does_value (no_fault _ _ named).1 (front instrs (p + 1) a (instr.wait ∷ instr.ret ∷ []) has.1) last in
        ticks ds words limits x p vs small todo (λ t. m.begin_with cells functions limits (return l e) k t) has.0 (λ z.
        let y : Shared ds words limits g n fs = record x { fuel = z } in
        same_place ds words limits y (p + 1) vs (value e ∷ wait ∷ leave ∷ k) does refl)
    statement_follows inside ending (atomic b) todo named room has shut rest =
        let a = block_code cells function_list g (p + 1 + 1) (p + 1 + 1 + block_length b + 1) b ++ (instr.wait ∷ end ∷ []) in
        let past : p + length (tick ∷ begin ∷ a) ≡ p + 1 + length (begin ∷ a) = omega arith in
        ticks ds words limits x p vs small todo (λ t. m.begin_with cells functions limits (atomic b) k t) has.0 (λ z.
        let y : Shared ds words limits g n fs = record x { fuel = z } in
        begin_follows y small (p + 1) vs k b todo named room has.1 (subst (λ q. Does ds instrs n g (length vs) k q fs) past rest))
    statement_follows inside ending (spawn b) todo named room has shut rest =
        let body = block_code cells function_list g (p + 1 + 1) ending b in
        let target = p + 1 + 1 + length body + 1 + 1 in
        let past : p + length (tick ∷ fork target ∷ (body ++ (instr.wait ∷ instr.done ∷ []))) ≡ target = omega (arith, length-append body (instr.wait ∷ instr.done ∷ [])) in
        ticks ds words limits x p vs small todo (λ t. m.begin_with cells functions limits (spawn b) k t) has.0 (λ z.
        let y : Shared ds words limits g n fs = record x { fuel = z } in
        fork_follows y small (p + 1) vs k b todo target ending named room has.1 (subst (λ q. Does ds instrs n g (length vs) k q fs) past rest))

  module _ {g : Slots} {n : ℕ} {fs : List Frame} (x : Shared ds words limits g n fs) (small : IsSmall ds words limits x) (p : ℕ) (vs : List ℤ) where
    -- what is left of a block
    pub perform_follows : (inside : Around) (ending : ℕ) (b : Block) (k : List Task) → in_block (scope_of ds g) inside b ≡ None → most (length g) b ≤ n → HasAt instrs p (block_code cells function_list g p ending b)
        → ((more : Slots) → inside ≡ around.Atomic → Shuts ds instrs n (more ++ g) (length vs) k ending fs) → Does ds instrs n (slots_behind b g) (length vs) k (p + length (block_code cells function_list g p ending b)) fs
        → GoesOnWith x p vs (m.act cells functions limits (perform b) vs k (syntax_at ds words limits x (perform b ∷ k) vs))
    perform_follows inside ending empty k named room has shut rest =
        let past : p + 0 ≡ p = omega arith in
        same_place ds words limits x p vs k (subst (λ q. Does ds instrs n g (length vs) k q fs) past rest) refl
    perform_follows inside ending (first st b) k named room has shut rest =
        let here = statement_code cells function_list g p ending st in
        let g2 = slots_after st g in
        let grown = more_behind st g in
        let later = block_code cells function_list g2 (p + length here) ending b in
        let past : p + length (here ++ later) ≡ p + length here + length later = omega (arith, length-append here later) in
        let room1 : most_in (length g) st ≤ n = omega (arith, room) in
        let room2 = subst (λ z. most z b ≤ n) (count_behind st g) (omega (arith, room)) in
        let named2 = subst (λ z. in_block z inside b ≡ None) (scope_behind ds st g) (no_fault _ _ named).1 in
        let shut2 : (more : Slots) → inside ≡ around.Atomic → Shuts ds instrs n (more ++ g2) (length vs) k ending fs =
        λ more is. subst (λ z. Shuts ds instrs n z (length vs) k ending fs) (append_assoc more grown.0 g ∙ ap (λ z. more ++ z) (sym grown.1)) (shut (more ++ grown.0) is) in
        let does = does_perform inside ending named2 room2 (behind instrs p here later has) shut2 (subst (λ q. Does ds instrs n (slots_behind b g2) (length vs) k q fs) past rest) in
        statement_follows x small p vs (perform b ∷ k) inside ending st (perform (first st b) ∷ k) (no_fault _ _ named).0 room1 (front instrs p here later has) (λ is. shuts_perform (shut [] is)) does
