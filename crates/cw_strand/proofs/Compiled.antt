-- The code of a program does what the program does, step by step.
use Rattle.std.proofs.Common.{◌≡◌, ◌∙◌, ℕ, suc, ◌+◌, ◌-◌, Bool, true, false, List, [], ◌∷◌, length, refl, sym, ap, subst, arith, Option, None, ℤ, nat_lt}
use Rattle.std.specs.Prelude.{if◌then◌else◌, nat_le}
use Rattle.cw_text.specs.Syntax.{Declaration}
use Rattle.cw_code.specs.declared.Back.{Back}
use Rattle.cw_code.specs.declared.CellInfo.{CellInfo}
use Rattle.cw_code.specs.declared.instruction.Instr.{Instr}
use Rattle.cw_code.specs.declared.effects.Effect.TheVariants as effect
use Rattle.cw_code.specs.declared.Limits.{Limits}
use Rattle.cw_code.specs.declared.FaultKind.TheVariants.{Size}
use Rattle.cw_strand.specs.declared.want.Want.TheVariants.{Done, Fault, Store}
use Rattle.cw_strand.specs.Running.{wants}
use Rattle.cw_strand.specs.Names.{globals, in_functions, cells_of}
use Rattle.cw_strand.specs.Meaning as m
use Rattle.cw_strand.specs.Meaning.{Function, Task, function_of, finish, finish_main, unwound}
use Rattle.cw_strand.specs.Coded as c
use Rattle.cw_strand.specs.Coded.{Frame}
use Rattle.cw_strand.specs.Compilation.{Slots, code_of}
use Rattle.cw_strand.specs.Compilation as instr
use Rattle.cw_strand.proofs.Doing.{Does, does_value, does_lift, does_join, does_discard, does_enter, does_perform, does_bind, does_store, does_show, does_forget, does_wait, does_commit, does_give_up, Shuts, does_finish, does_end, does_leave, ends_main, ends_left, ends_call, does_load_at, does_store_at, does_choose, does_test, does_repeat, does_there}
use Rattle.cw_strand.proofs.Sharing.{program, over_syntax, over_code, Alike, Shared, syntax_at, code_at, IsSmall, Ahead, alike, same_place, both_want, acts}
use Rattle.cw_strand.proofs.Following.{stays, after_step}
use Rattle.cw_strand.proofs.Calls.{call_follows, back_follows}
use Rattle.cw_strand.proofs.Tasks.{value_follows, lift_follows, join_follows, discard_follows, show_follows, bind_follows, store_follows, forget_follows, wait_follows, commit_follows, give_up_follows, load_at_follows, store_at_follows, choose_follows, test_follows, repeat_follows}
use Rattle.cw_strand.proofs.Statements.{perform_follows}

module _ (ds : List Declaration) (words : List ℤ) (limits : Limits) (named : in_functions (globals ds) ds ≡ None) where
  abbrev instrs : List Instr
  instrs = (code_of ds).instrs

  abbrev cells : List CellInfo
  cells = cells_of ds

  abbrev functions : List ℕ → Option Function
  functions = function_of ds

  as_high : {n h j p : ℕ} {g : Slots} {k : List Task} {fs : List Frame} → h ≡ j → Does ds instrs n g h k p fs → Does ds instrs n g j k p fs
  as_high {n = n} {p = p} {g = g} {k = k} {fs = fs} same does = subst (λ i. Does ds instrs n g i k p fs) same does

  shut_high : {n h j q : ℕ} {g : Slots} {k : List Task} {fs : List Frame} → h ≡ j → Shuts ds instrs n g h k q fs → Shuts ds instrs n g j k q fs
  shut_high {n = n} {q = q} {g = g} {k = k} {fs = fs} same shut = subst (λ i. Shuts ds instrs n g i k q fs) same shut

  -- at its end
  finished : {n : ℕ} {g : Slots} (x : Shared ds words limits g n []) (k : List Task) (p : ℕ) (vs : List ℤ) → ((m : ℕ) (f : Slots) → Does ds instrs m f (length vs) k p [])
      → c.step (program ds words limits) (code_at ds words limits x p vs) ≡ wants Done (c.ended x.scopes (code_at ds words limits x p vs))
      → Ahead ds words limits (wants Done (m.ended x.scopes (syntax_at ds words limits x k vs))) (code_at ds words limits x p vs)
  finished {n = n} {g = g} x k p vs does step =
      both_want ds words limits x p vs Done (m.ended x.scopes (syntax_at ds words limits x k vs)) (c.ended x.scopes (code_at ds words limits x p vs)) step (kept x.scopes)
    where
      -- once its locals and its scope are gone
      bare : Shared ds words limits [] 0 []
      bare = record {
        locals = [];
        numbers = [];
        scopes = [];
        fuel = x.fuel;
        size = x.size;
        beside = x.beside;
        begins = x.begins;
        count = refl;
        agree = tt;
      }

      kept : (ns : List ℕ) → Alike ds words limits (m.ended ns (syntax_at ds words limits x k vs)) (c.ended ns (code_at ds words limits x p vs))
      kept [] = alike ds words limits x k p vs (does n g) refl
      kept (m ∷ []) = alike ds words limits bare k p vs (does 0 []) refl
      kept (m ∷ o ∷ ns) = alike ds words limits x k p vs (does n g) refl

  follow : {n h p : ℕ} {g : Slots} {todo : List Task} {fs : List Frame} → Does ds instrs n g h todo p fs → (x : Shared ds words limits g n fs) → IsSmall ds words limits x → (vs : List ℤ) → h ≡ length vs → Ahead ds words limits (m.step_of cells functions limits todo (syntax_at ds words limits x todo vs)) (code_at ds words limits x p vs)
  follow (does_value {p = p} {e = e} {k = k} fine has rest) x small vs high = value_follows ds words limits x small p e vs k fine has (as_high (ap suc high) rest)
  follow (does_lift {p = p} {o = o} {k = k} is there rest) x small [] high = absurd (omega (arith, high))
  follow (does_lift {p = p} {o = o} {k = k} is there rest) x small (v ∷ vs) high = lift_follows ds words limits x small p o v vs k is there (as_high high rest)
  follow (does_join {p = p} {o = o} {k = k} is there rest) x small [] high = absurd (omega (arith, high))
  follow (does_join {p = p} {o = o} {k = k} is there rest) x small (v ∷ []) high = absurd (omega (arith, high))
  follow (does_join {p = p} {o = o} {k = k} is there rest) x small (v ∷ w ∷ vs) high = join_follows ds words limits x small p o v w vs k is there (as_high (omega (arith, high)) rest)
  follow (does_enter {p = p} {a = c} {x = a} {k = k} line may enough there rest) x small vs high =
      call_follows ds words limits named x small p vs k a c line may (omega (arith, enough, high)) there (as_high (ap (λ z. suc (z - c)) high) rest)
  follow (does_discard {p = p} {k = k} there rest) x small [] high = absurd (omega (arith, high))
  follow (does_discard {p = p} {k = k} there rest) x small (v ∷ vs) high = discard_follows ds words limits x small p v vs k there (as_high (omega (arith, high)) rest)
  follow (does_perform {p = p} {b = b} {k = k} inside ending fine room has shut rest) x small vs high = perform_follows ds words limits x small p vs inside ending b k fine room has (λ more is. shut_high high (shut more is)) (as_high high rest)
  follow (does_bind {p = p} {x = a} {k = k} less there rest) x small [] high = absurd (omega (arith, high))
  follow (does_bind {p = p} {x = a} {k = k} less there rest) x small (v ∷ vs) high = bind_follows ds words limits x small p a v vs k less there (as_high (omega (arith, high)) rest)
  follow (does_store {p = p} {x = a} {k = k} line fine there rest) x small [] high = absurd (omega (arith, high))
  follow (does_store {p = p} {x = a} {k = k} line fine there rest) x small (v ∷ vs) high = store_follows ds words limits x small p a line v vs k fine there (as_high (omega (arith, high)) rest)
  follow (does_load_at {p = p} {x = a} {k = k} line fine there rest) x small [] high = absurd (omega (arith, high))
  follow (does_load_at {p = p} {x = a} {k = k} line fine there rest) x small (i ∷ vs) high = load_at_follows ds words limits x small p a line i vs k fine there (as_high high rest)
  follow (does_store_at {p = p} {x = a} {k = k} line fine there rest) x small [] high = absurd (omega (arith, high))
  follow (does_store_at {p = p} {x = a} {k = k} line fine there rest) x small (v ∷ []) high = absurd (omega (arith, high))
  follow (does_store_at {p = p} {x = a} {k = k} line fine there rest) x small (v ∷ i ∷ vs) high = store_at_follows ds words limits x small p a line v i vs k fine there (as_high (omega (arith, high)) rest)
  follow (does_show {p = p} {k = k} there rest) x small [] high = absurd (omega (arith, high))
  follow (does_show {p = p} {k = k} there rest) x small (v ∷ vs) high = show_follows ds words limits x small p v vs k there (as_high (omega (arith, high)) rest)
  follow (does_choose {p = p} {a = a} {b = b} {k = k} w shut rest) x small [] high = absurd (omega (arith, high))
  follow (does_choose {p = p} {a = a} {b = b} {k = k} w shut rest) x small (v ∷ vs) high = choose_follows ds words limits x small p a b v vs k w (λ is. shut_high (omega (arith, high)) (shut is)) (as_high (omega (arith, high)) rest)
  follow (does_test {p = p} {e = e} {b = b} {k = k} w shut rest) x small vs high = test_follows ds words limits x small p e b vs k w (λ is. shut_high high (shut is)) (as_high high rest)
  follow (does_repeat {p = p} {q = q} {e = e} {b = b} {k = k} is w shut rest) x small [] high = absurd (omega (arith, high))
  follow (does_repeat {p = p} {q = q} {e = e} {b = b} {k = k} is w shut rest) x small (v ∷ vs) high = repeat_follows ds words limits x small q e b p v vs k is w (λ is. shut_high (omega (arith, high)) (shut is)) (as_high (omega (arith, high)) rest)
  follow (does_there {p = p} {q = q} {todo = todo} there rest) x small vs high =
      after_step (over_syntax ds words limits) (over_code ds words limits) (Alike ds words limits) (m.step_of cells functions limits todo (syntax_at ds words limits x todo vs)) (code_at ds words limits x p vs) (code_at ds words limits x q vs)
      (acts ds words limits x p vs small (instr.jump q) effect.Jump there refl) (follow rest x small vs high)
  follow (does_forget {p = p} {o = o} {k = k} rest) x small vs high = forget_follows ds words limits x small p o vs k (as_high high rest)
  follow (does_wait {p = p} {k = k} there rest) x small vs high = wait_follows ds words limits x small p vs k there (as_high high rest)
  follow (does_commit {p = p} {k = k} there rest) x small vs high = commit_follows ds words limits x small p vs k there (as_high high rest)
  follow (does_give_up {p = p} {q = q} {k = k} there jumps shut) x small vs high = give_up_follows ds words limits x small p q vs k there jumps (shut_high high shut)
  follow (does_finish {p = p} there) x small [] high = finished x (finish ∷ []) p [] (λ m f. does_finish there) (acts ds words limits x p [] small instr.done effect.Done there refl)
  follow (does_finish {p = p} there) x small (v ∷ vs) high = absurd (omega (arith, high))
  follow (does_end {p = p} there ends_main) x small [] high = absurd (omega (arith, high))
  follow (does_end {p = p} there ends_left) x small [] high = absurd (omega (arith, high))
  follow (does_end {p = p} there (ends_call g2 agree same rest)) x small [] high = absurd (omega (arith, high))
  follow (does_end {p = p} there ends_main) x small (v ∷ vs) high = finished x (finish_main ∷ []) p (v ∷ vs) (λ m f. does_end {h = length vs} there ends_main) (acts ds words limits x p (v ∷ vs) small instr.ret effect.Ret there refl)
  follow (does_end {p = p} there ends_left) x small (v ∷ vs) high = finished x (finish ∷ []) p (v ∷ vs) (λ m f. does_end {h = length vs} there ends_left) (acts ds words limits x p (v ∷ vs) small instr.ret effect.Ret there refl)
  follow (does_end {p = p} there (ends_call {l = l} {vs = us} {k = k} g2 agree same rest)) x small (v ∷ vs) high = back_follows ds words limits x small p l us v vs k there agree same rest
  follow (does_leave {h = h} {p = p} {k = k} there ending) x small vs high = same_place ds words limits x p vs (unwound k) (does_end {h = h} there ending) (sym high)

  abbrev with_parts : c.State → List ℤ → List ℕ → ℕ → ℕ → Limits → c.State
  with_parts d vs ns fuel size within = record {
    current = record { place = d.current.place; operands = vs; locals = d.current.locals };
    callers = d.callers;
    scopes = ns;
    fuel = fuel;
    size = size;
    beside = d.beside;
    back = d.back;
    limits = within;
  }

  work_follows : (s : m.State) (d : c.State) → Alike ds words limits s d → nat_lt limits.size s.size ≡ false → s.back ≡ [] → Ahead ds words limits (m.step_of cells functions limits s.todo s) d
  work_follows s d h small none =
      subst (λ (bs : List Back). Ahead ds words limits (m.step_of cells functions limits s.todo (record s { back = bs })) d) (sym none)
      (subst (λ z. Ahead ds words limits (m.step_of cells functions limits s.todo (record s { frames = z; back = [] })) d) (sym h.frames)
      (subst (Ahead ds words limits (m.step_of cells functions limits s.todo (record s { frames = length d.callers + 1; back = [] }))) same (follow h.does x small s.values (sym h.high))))
    where
      x : Shared ds words limits h.slots (length d.current.locals) d.callers
      x = record {
        locals = s.locals;
        numbers = d.current.locals;
        scopes = s.scopes;
        fuel = s.fuel;
        size = s.size;
        beside = s.beside;
        begins = d.beside;
        count = refl;
        agree = h.agree;
      }

      same : code_at ds words limits x d.current.place s.values ≡ d
      same =
          ap (λ (bs : List Back). record (with_parts d s.values s.scopes s.fuel s.size limits) { back = bs }) (sym none ∙ h.back)
          ∙ ap (λ z. with_parts d z s.scopes s.fuel s.size limits) h.operands
          ∙ ap (λ z. with_parts d d.current.operands z s.fuel s.size limits) h.scopes
          ∙ ap (λ z. with_parts d d.current.operands d.scopes z s.size limits) h.fuel
          ∙ ap (λ z. with_parts d d.current.operands d.scopes d.fuel z limits) h.size
          ∙ ap (λ z. with_parts d d.current.operands d.scopes d.fuel d.size z) (sym h.within)

  -- what is to be written back is written back by both
  back_follows_it : (s : m.State) (d : c.State) → Alike ds words limits s d → nat_lt limits.size s.size ≡ false → (b : Back) (bs : List Back) → s.back ≡ b ∷ bs → Ahead ds words limits (m.writes_back cells functions limits (b ∷ bs) s) d
  back_follows_it s d h small b bs same =
      let small2 : nat_lt d.limits.size d.size ≡ false = ap (λ l. nat_lt l.size d.size) h.within ∙ sym (ap (nat_lt limits.size) h.size) ∙ small in
      let full : nat_le d.limits.size d.size ≡ nat_le limits.size s.size = ap (λ l. nat_le l.size d.size) h.within ∙ sym (ap (nat_le limits.size) h.size) in
      let writes = ap (λ z. if z then wants (Fault Size) d else c.writes_back (code_of ds) d.back d) small2 ∙ ap (λ l. c.writes_back (code_of ds) l d) (sym h.back ∙ same) in
      by (nat_le limits.size s.size) (writes ∙ ap (λ z. if z then wants (Fault Size) (record d { back = bs }) else wants (Store b.cell b.value) (record d { size = d.size + 1; back = bs })) full)
    where
      by : (z : Bool) → c.step (code_of ds) d ≡ (if z then wants (Fault Size) (record d { back = bs }) else wants (Store b.cell b.value) (record d { size = d.size + 1; back = bs }))
          → Ahead ds words limits (if z then wants (Fault Size) (record s { back = bs }) else wants (Store b.cell b.value) (record s { size = s.size + 1; back = bs })) d
      by true step = (d, record d { back = bs }, stays, step, tt)
      by false step = (
        d,
        record d { size = d.size + 1; back = bs },
        stays,
        step,
        record {
          slots = h.slots;
          height = h.height;
          does = h.does;
          agree = h.agree;
          operands = h.operands;
          high = h.high;
          frames = h.frames;
          scopes = h.scopes;
          fuel = h.fuel;
          size = ap (λ z. z + 1) h.size;
          back = refl;
          within = h.within;
        },
      )

  pub steps : (s : m.State) (d : c.State) → Alike ds words limits s d → Ahead ds words limits (m.step cells functions limits s) d
  steps s d h = by (nat_lt limits.size s.size) refl
    where
      by : (b : Bool) → nat_lt limits.size s.size ≡ b → Ahead ds words limits (if b then wants (Fault Size) s else m.writes_back cells functions limits s.back s) d
      by true over =
          let over2 : nat_lt d.limits.size d.size ≡ true = ap (λ l. nat_lt l.size d.size) h.within ∙ sym (ap (nat_lt limits.size) h.size) ∙ over in
          (d, d, stays, ap (λ z. if z then wants (Fault Size) d else c.writes_back (code_of ds) d.back d) over2, tt)
      by false small = on s.back refl
        where
          on : (bs : List Back) → s.back ≡ bs → Ahead ds words limits (m.writes_back cells functions limits bs s) d
          on [] none = work_follows s d h small none
          on (b ∷ bs) some = back_follows_it s d h small b bs some
