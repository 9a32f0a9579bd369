-- The code goes on with each task of the syntax that is no statement.
use Rattle.std.proofs.Common.{◌≡◌, ◌∙◌, Bool, true, false, ℕ, zero, suc, ◌+◌, ◌-◌, ◌<◌, ◌≤◌, List, [], ◌∷◌, ◌++◌, length, drop, refl, sym, ap, subst, arith, Option, Some, None, Result, Ok, Err, ℤ, pos, negsuc, inl, inr, length-append}
use Rattle.std.specs.Prelude.{slice_get, slice_set, if◌then◌else◌, nat_le, nat_lt}
use Rattle.std.proofs.lemmas.Option.{slice_get_within}
use Rattle.std.proofs.lemmas.List.{length-set}
use Rattle.std.proofs.lemmas.Bool.{lt-ltb}
use Rattle.cw_text.specs.declared.ast.Word.{Word}
use Rattle.cw_text.specs.Syntax.{Term, number, name, at, call, unary, binary, repeat, Block, Declaration}
use Rattle.cw_code.specs.declared.CellInfo.{CellInfo}
use Rattle.cw_code.specs.declared.instruction.Instr.{Instr}
use Rattle.cw_code.specs.declared.effects.Operator.{Operator}
use Rattle.cw_code.specs.declared.effects.Effect.TheVariants as effect
use Rattle.cw_code.specs.declared.Limits.{Limits}
use Rattle.cw_code.specs.declared.FaultKind.{FaultKind}
use Rattle.cw_code.specs.declared.FaultKind.TheVariants.{Range, Size}
use Rattle.cw_code.specs.Table.{effect_at}
use Rattle.cw_strand.specs.declared.want.Want.{Want}
use Rattle.cw_strand.specs.declared.want.Want.TheVariants.{Load, Store, Out, End, Cancel, Sync, Fault}
use Rattle.cw_strand.specs.Arithmetic.{one, two, is_zero}
use Rattle.cw_strand.specs.Running.{on, wants, stuck}
use Rattle.cw_strand.specs.declared.naming.Around.{Around}
use Rattle.cw_strand.specs.declared.naming.Around.TheVariants as around
use Rattle.cw_strand.specs.Names.{find, used, indexed, count_of, in_term, in_block, cells_of}
use Rattle.cw_strand.specs.Meaning as m
use Rattle.cw_strand.specs.Meaning.{Function, function_of, arguments, enter, Task, value, lift, join, discard, perform, bind, store_in, load_at, store_at, show, choose_by, test, repeat_by, forget, wait, commit, give_up, tasks_after_cancel, local_of, with_local, element_of, cell_of, lifted, joining, lifts, joins_operands}
use Rattle.cw_strand.specs.Coded as c
use Rattle.cw_strand.specs.Coded.{Frame}
use Rattle.cw_strand.specs.Compilation.{Slots, code_of, function_names, calls, slot_of, term_code, terms_code, statement_code, block_code, most, plain, operator_number, lift_code, join_code, reads, writes, loads_at, stores_at, element, push, set}
use Rattle.cw_strand.specs.Compilation as instr
use Rattle.cw_strand.proofs.Numbering.{Agree, scope_of, Slotted, slotted, find_out, element_there, get_set, agree_newer, same_count, agree_drop, dropped_behind, more_dropped, array_there}
use Rattle.cw_strand.proofs.StandingNames.{IsCell}
use Rattle.cw_strand.proofs.StandingNames.{no_fault}
use Rattle.cw_strand.proofs.Doing.{HasAt, front, behind, Choice, Loop, Does, Shuts, shuts_forget, shuts_test, shut_does, does_value, does_perform, does_load_at, does_repeat, does_test, does_there, does_forget, does_wait, does_lifts, does_joins, does_call}
use Rattle.cw_strand.proofs.Sharing.{Shared, syntax_at, code_at, IsSmall, Ahead, Keeps, alike, same_place, moves, both_want, both_choose, acts, ticks}
use Rattle.cw_strand.proofs.Following.{stays}

module _ (ds : List Declaration) (words : List ℤ) (limits : Limits) {g : Slots} {n : ℕ} {fs : List Frame} (x : Shared ds words limits g n fs) (small : IsSmall ds words limits x) (p : ℕ) where
  abbrev instrs : List Instr
  instrs = (code_of ds).instrs

  abbrev cells : List CellInfo
  cells = cells_of ds

  abbrev functions : List ℕ → Option Function
  functions = function_of ds

  abbrev function_list : List (List ℕ)
  function_list = function_names ds

  abbrev source : List Task → List ℤ → m.State
  source k vs = syntax_at ds words limits x k vs

  abbrev coded : ℕ → List ℤ → c.State
  coded q vs = code_at ds words limits x q vs

  abbrev DoesNext : ℕ → List Task → Type 0
  DoesNext h k = Does ds instrs n g h k (p + 1) fs

  abbrev Follows : m.Step → List ℤ → Type 0
  Follows step vs = Ahead ds words limits step (coded p vs)

  abbrev Steps : List ℤ → c.Step → Type 0
  Steps vs step = c.step (code_of ds) (coded p vs) ≡ step

  -- something is wanted that counts
  pub counts_follow : {g2 : Slots} {n2 : ℕ} {fs2 : List Frame} (vs : List ℤ) (w : Want) (y : Shared ds words limits g2 n2 fs2) (k : List Task) (q : ℕ) (us : List ℤ) → Steps vs (c.counts w (code_at ds words limits y q us)) → (let z : Shared ds words limits g2 n2 fs2 = record y { size = y.size + 1 } in Keeps ds words limits w (syntax_at ds words limits z k us) (code_at ds words limits z q us)) → Follows (m.counts cells functions limits w (syntax_at ds words limits y k us)) vs
  counts_follow vs w y k q us step kept = both_choose ds words limits x p vs (nat_le limits.size y.size) (Fault Size) w _ _ _ _ step tt kept

  -- a number is pushed
  pushes : (vs : List ℤ) (v : ℤ) (k : List Task) → Steps vs (on (coded (p + 1) (v ∷ vs))) → DoesNext (suc (length vs)) k → Follows (on (source k (v ∷ vs))) vs
  pushes vs v k step rest = moves ds words limits x p vs x k (p + 1) (v ∷ vs) step rest refl

  name_follows : (w : Word) (vs : List ℤ) (k : List Task) (o : Option ℤ) (l : Option ℕ) → Slotted x.locals g x.numbers w.name o l → l ≡ slot_of g w.name → used (find w.name (scope_of ds g)) w.line ≡ None → slice_get instrs p ≡ Some (reads cells function_list l w.name) → DoesNext (suc (length vs)) k → Follows (m.read_name cells functions limits o (element_of cells w.name) (source k vs)) vs
  name_follows w vs k o l (inl r) is named stands rest =
      let there = stands ∙ ap (λ z. Some (reads cells function_list z w.name)) r.numbered in
      let step = acts ds words limits x p vs small (instr.local r.number) effect.Local there refl ∙ ap (λ z. c.read_local z (p + 1) vs (coded p vs)) r.holds in
      subst (λ z. Follows (m.read_name cells functions limits z (element_of cells w.name) (source k vs)) vs) (sym r.named) (pushes vs r.held k step rest)
  name_follows w vs k o l (inr r) is named stands rest =
      let found = find_out ds g w.name (sym is ∙ r.1) in
      let e = element_there ds 0 w.name w.line (sym (ap (λ z. used z w.line) found) ∙ named) in
      let there = stands ∙ ap (λ z. Some (reads cells function_list z w.name)) r.1 ∙ ap (λ z. Some (instr.load (element z))) e.1 in
      let step = acts ds words limits x p vs small (instr.load e.0) effect.Load there refl in
      let both = counts_follow vs (Load e.0) x k (p + 1) (pos 0 ∷ vs) step (alike ds words limits (record x { size = x.size + 1 }) k (p + 1) (pos 0 ∷ vs) rest refl) in
      subst (λ z. Follows (m.read_name cells functions limits z (element_of cells w.name) (source k vs)) vs) (sym r.0) (subst (λ z. Follows (m.read_name cells functions limits None z (source k vs)) vs) (sym e.1) both)

  pub value_follows : (e : Term) (vs : List ℤ) (k : List Task) → in_term (scope_of ds g) e ≡ None → HasAt instrs p (term_code cells function_list g e) → Does ds instrs n g (suc (length vs)) k (p + length (term_code cells function_list g e)) fs → Follows (m.act cells functions limits (value e) vs k (source (value e ∷ k) vs)) vs
  value_follows (number v) vs k named has rest = pushes vs v k (acts ds words limits x p vs small (push v) effect.Push has.0 refl) rest
  value_follows (name w) vs k named has rest = name_follows w vs k (local_of x.locals w.name) (slot_of g w.name) (slotted x.locals g x.numbers w.name x.agree) refl named has.0 rest
  value_follows (at w i) vs k named has rest =
      let a = term_code cells function_list g i in
      let j = loads_at cells function_list (cell_of cells w.name) in
      let past : p + length (a ++ j ∷ []) ≡ p + length a + 1 = omega (arith, length-append a (j ∷ [])) in
      let last = does_load_at w.line (no_fault _ _ named).0 (behind instrs p a (j ∷ []) has).0 (subst (λ q. Does ds instrs n g (suc (length vs)) k q fs) past rest) in
      same_place ds words limits x p vs (value i ∷ load_at w.name ∷ k) (does_value (no_fault _ _ named).1 (front instrs p a (j ∷ []) has) last) refl
  value_follows (call w es) vs k named has rest =
      let a = terms_code cells function_list g es in
      let i = calls cells function_list w.name in
      let past : p + length (a ++ i ∷ []) ≡ p + length a + 1 = omega (arith, length-append a (i ∷ [])) in
      let does = does_call ds instrs w.name w.line es [] (no_fault _ _ named).0 (no_fault _ _ named).1 has (subst (λ q. Does ds instrs n g (suc (length vs)) k q fs) past rest) in
      same_place ds words limits x p vs (arguments es (enter w.name (count_of es) ∷ k)) does refl
  value_follows (unary o e) vs k named has rest =
      let a = term_code cells function_list g e in
      let b = lift_code (lifted o) in
      let past : p + length (a ++ b) ≡ p + length a + length b = omega (arith, length-append a b) in
      let behind_it = subst (λ q. Does ds instrs n g (suc (length vs)) k q fs) past rest in
      same_place ds words limits x p vs (value e ∷ lifts (lifted o) k) (does_value named (front instrs p a b has) (does_lifts ds instrs o (behind instrs p a b has) behind_it)) refl
  value_follows (binary o l r) vs k named has rest =
      let a = term_code cells function_list g l in
      let b = term_code cells function_list g r in
      let i = join_code (joining o) in
      let tail = behind instrs p a (b ++ i ∷ []) has in
      let past : p + length (a ++ (b ++ i ∷ [])) ≡ p + length a + length b + 1 = omega (arith, length-append a (b ++ i ∷ []), length-append b (i ∷ [])) in
      let behind_it = subst (λ q. Does ds instrs n g (suc (length vs)) k q fs) past rest in
      let last = does_joins ds instrs o (behind instrs (p + length a) b (i ∷ []) tail).0 behind_it in
      let second = does_value (no_fault _ _ named).1 (front instrs (p + length a) b (i ∷ []) tail) last in
      same_place ds words limits x p vs (value l ∷ value r ∷ joins_operands (joining o) k) (does_value (no_fault _ _ named).0 (front instrs p a (b ++ i ∷ []) has) second) refl

  -- ## Tasks that take operands

  result_follows : (r : Result ℤ FaultKind) (us vs : List ℤ) (k : List Task) → Steps us (c.result r (p + 1) vs (coded p us)) → DoesNext (suc (length vs)) k → Follows (m.result r vs (source k us)) us
  result_follows (Ok v) us vs k step rest = moves ds words limits x p us x k (p + 1) (v ∷ vs) step rest refl
  result_follows (Err e) us vs k step rest = both_want ds words limits x p us (Fault e) (source k us) (coded p us) step tt

  pub lift_follows : (o : Operator) (v : ℤ) (vs : List ℤ) (k : List Task) → effect_at (operator_number o) ≡ Some (effect.Lift o) → slice_get instrs p ≡ Some (plain (operator_number o)) → DoesNext (suc (length vs)) k → Follows (m.act cells functions limits (lift o) (v ∷ vs) k (source (lift o ∷ k) (v ∷ vs))) (v ∷ vs)
  lift_follows o v vs k does there rest = result_follows (one o v) (v ∷ vs) vs k (acts ds words limits x p (v ∷ vs) small (plain (operator_number o)) (effect.Lift o) there does) rest

  pub join_follows : (o : Operator) (v w : ℤ) (vs : List ℤ) (k : List Task) → effect_at (operator_number o) ≡ Some (effect.Join o) → slice_get instrs p ≡ Some (plain (operator_number o)) → DoesNext (suc (length vs)) k → Follows (m.act cells functions limits (join o) (v ∷ w ∷ vs) k (source (join o ∷ k) (v ∷ w ∷ vs))) (v ∷ w ∷ vs)
  join_follows o v w vs k does there rest = result_follows (two o w v) (v ∷ w ∷ vs) vs k (acts ds words limits x p (v ∷ w ∷ vs) small (plain (operator_number o)) (effect.Join o) there does) rest

  pub discard_follows : (v : ℤ) (vs : List ℤ) (k : List Task) → slice_get instrs p ≡ Some instr.discard → DoesNext (length vs) k → Follows (m.act cells functions limits discard (v ∷ vs) k (source (discard ∷ k) (v ∷ vs))) (v ∷ vs)
  discard_follows v vs k there rest = moves ds words limits x p (v ∷ vs) x k (p + 1) vs (acts ds words limits x p (v ∷ vs) small instr.discard effect.Drop there refl) rest refl

  pub show_follows : (v : ℤ) (vs : List ℤ) (k : List Task) → slice_get instrs p ≡ Some instr.show → DoesNext (length vs) k → Follows (m.act cells functions limits show (v ∷ vs) k (source (show ∷ k) (v ∷ vs))) (v ∷ vs)
  show_follows v vs k there rest =
      counts_follow (v ∷ vs) (Out v) x k (p + 1) vs (acts ds words limits x p (v ∷ vs) small instr.show effect.Out there refl)
      (alike ds words limits (record x { size = x.size + 1 }) k (p + 1) vs rest refl)

  -- a local is set
  sets : {g2 : Slots} (i : ℕ) (v : ℤ) (vs : List ℤ) (k : List Task) (l : m.Locals) → i < n → Agree l g2 (slice_set x.numbers i v) → slice_get instrs p ≡ Some (set i) → Does ds instrs n g2 (length vs) k (p + 1) fs → Follows (on (record (source k vs) { locals = l })) (v ∷ vs)
  sets {g2 = g2} i v vs k l less agree there rest =
      let y : Shared ds words limits g2 n fs = record {
        locals = l;
        numbers = slice_set x.numbers i v;
        scopes = x.scopes;
        fuel = x.fuel;
        size = x.size;
        beside = x.beside;
        begins = x.begins;
        count = x.count ∙ sym (length-set x.numbers i v);
        agree = agree;
      } in
      let room = lt-ltb i (length x.numbers) (omega (arith, less, x.count)) in
      let step = acts ds words limits x p (v ∷ vs) small (set i) effect.Set there refl ∙ ap (λ z. if z then on (code_at ds words limits y (p + 1) vs) else stuck) room in
      moves ds words limits x p (v ∷ vs) y k (p + 1) vs step rest refl

  pub bind_follows : (a : List ℕ) (v : ℤ) (vs : List ℤ) (k : List Task) → length g < n → slice_get instrs p ≡ Some (set (length g)) → Does ds instrs n (a ∷ g) (length vs) k (p + 1) fs → Follows (m.act cells functions limits (bind a) (v ∷ vs) k (source (bind a ∷ k) (v ∷ vs))) (v ∷ vs)
  bind_follows a v vs k less there rest =
      let agree : Agree ((a, v) ∷ x.locals) (a ∷ g) (slice_set x.numbers (length g) v) = (refl, get_set x.numbers (length g) v (omega (arith, less, x.count)), agree_newer x.locals g x.numbers (length g) v (omega arith) x.agree) in
      sets (length g) v vs k ((a, v) ∷ x.locals) less agree there rest

  pub store_follows : (a : List ℕ) (line : ℕ) (v : ℤ) (vs : List ℤ) (k : List Task) → used (find a (scope_of ds g)) line ≡ None → slice_get instrs p ≡ Some (writes cells function_list (slot_of g a) a) → DoesNext (length vs) k → Follows (m.act cells functions limits (store_in a) (v ∷ vs) k (source (store_in a ∷ k) (v ∷ vs))) (v ∷ vs)
  store_follows a line v vs k named stands rest = by (slotted x.locals g x.numbers a x.agree)
    where
      by : Slotted x.locals g x.numbers a (local_of x.locals a) (slot_of g a) → Follows (m.write_name cells functions limits (local_of x.locals a) (element_of cells a) a v (source k vs)) (v ∷ vs)
      by (inl r) =
          let there = stands ∙ ap (λ z. Some (writes cells function_list z a)) r.numbered in
          let less = slice_get_within x.numbers r.number r.held r.holds in
          subst (λ z. Follows (m.write_name cells functions limits z (element_of cells a) a v (source k vs)) (v ∷ vs)) (sym r.named) (sets r.number v vs k (with_local x.locals a v) (omega (arith, less, x.count)) (r.set v) there rest)
      by (inr r) =
          let found = find_out ds g a r.1 in
          let e = element_there ds 0 a line (sym (ap (λ z. used z line) found) ∙ named) in
          let there = stands ∙ ap (λ z. Some (writes cells function_list z a)) r.1 ∙ ap (λ z. Some (instr.store (element z))) e.1 in
          let step = acts ds words limits x p (v ∷ vs) small (instr.store e.0) effect.Store there refl in
          let both = counts_follow (v ∷ vs) (Store e.0 v) x k (p + 1) vs step (alike ds words limits (record x { size = x.size + 1 }) k (p + 1) vs rest refl) in
          subst (λ z. Follows (m.write_name cells functions limits z (element_of cells a) a v (source k vs)) (v ∷ vs)) (sym r.0) (subst (λ z. Follows (m.write_name cells functions limits None z a v (source k vs)) (v ∷ vs)) (sym e.1) both)

  -- ## Elements of arrays

  -- an index that is one of an array's, or else a fault
  range_follows : (d : CellInfo) (i : ℤ) (us : List ℤ) (k : List Task) (go : ℕ → m.Step) (on_code : ℕ → c.Step) → Steps us (c.in_range d.len i (coded p us) (on_code (c.index i)))
      → ((j : ℕ) → Steps us (on_code j) → Follows (go (d.base + j)) us) → Follows (m.in_range cells functions limits (Some d) i (source k us) go) us
  range_follows d (negsuc j) us k go on_code step h = both_want ds words limits x p us (Fault Range) (source k us) (coded p us) step tt
  range_follows d (pos j) us k go on_code step h = by (nat_lt j d.len) step
    where
      by : (b : Bool) → Steps us (if b then on_code j else wants (Fault Range) (coded p us)) → Follows (if b then go (d.base + j) else wants (Fault Range) (source k us)) us
      by true step = h j step
      by false step = both_want ds words limits x p us (Fault Range) (source k us) (coded p us) step tt

  pub load_at_follows : (a : List ℕ) (line : ℕ) (i : ℤ) (vs : List ℤ) (k : List Task) → indexed (find a (scope_of ds g)) line ≡ None → slice_get instrs p ≡ Some (loads_at cells function_list (cell_of cells a)) → DoesNext (suc (length vs)) k → Follows (m.act cells functions limits (load_at a) (i ∷ vs) k (source (load_at a ∷ k) (i ∷ vs))) (i ∷ vs)
  load_at_follows a line i vs k named stands rest = by (cell_of cells a) refl (array_there ds g a line named)
    where
      by : (o : Option CellInfo) → cell_of cells a ≡ o → IsCell o → Follows (m.in_range cells functions limits o i (source (load_at a ∷ k) (i ∷ vs)) (λ e. m.counts cells functions limits (Load e) (source k (pos 0 ∷ vs)))) (i ∷ vs)
      by None e none = absurd none
      by (Some d) e some =
          let there = stands ∙ ap (λ z. Some (loads_at cells function_list z)) e in
          range_follows d i (i ∷ vs) (load_at a ∷ k) _ (λ j. c.counts (Load (d.base + j)) (coded (p + 1) (pos 0 ∷ vs))) (acts ds words limits x p (i ∷ vs) small (instr.load_at d.base d.len) effect.LoadAt there refl)
          (λ j step. counts_follow (i ∷ vs) (Load (d.base + j)) x k (p + 1) (pos 0 ∷ vs) step (alike ds words limits (record x { size = x.size + 1 }) k (p + 1) (pos 0 ∷ vs) rest refl))

  pub store_at_follows : (a : List ℕ) (line : ℕ) (v i : ℤ) (vs : List ℤ) (k : List Task) → indexed (find a (scope_of ds g)) line ≡ None → slice_get instrs p ≡ Some (stores_at cells function_list (cell_of cells a)) → DoesNext (length vs) k → Follows (m.act cells functions limits (store_at a) (v ∷ i ∷ vs) k (source (store_at a ∷ k) (v ∷ i ∷ vs))) (v ∷ i ∷ vs)
  store_at_follows a line v i vs k named stands rest = by (cell_of cells a) refl (array_there ds g a line named)
    where
      by : (o : Option CellInfo) → cell_of cells a ≡ o → IsCell o → Follows (m.in_range cells functions limits o i (source (store_at a ∷ k) (v ∷ i ∷ vs)) (λ e. m.counts cells functions limits (Store e v) (source k vs))) (v ∷ i ∷ vs)
      by None e none = absurd none
      by (Some d) e some =
          let there = stands ∙ ap (λ z. Some (stores_at cells function_list z)) e in
          range_follows d i (v ∷ i ∷ vs) (store_at a ∷ k) _ (λ j. c.counts (Store (d.base + j) v) (coded (p + 1) vs)) (acts ds words limits x p (v ∷ i ∷ vs) small (instr.store_at d.base d.len) effect.StoreAt there refl)
          (λ j step. counts_follow (v ∷ i ∷ vs) (Store (d.base + j) v) x k (p + 1) vs step (alike ds words limits (record x { size = x.size + 1 }) k (p + 1) vs rest refl))

  -- ## Choices and loops

  -- a block, behind which its locals are forgotten
  block_does : {h q : ℕ} {k : List Task} (inside : Around) (ending : ℕ) (b : Block) → in_block (scope_of ds g) inside b ≡ None → most (length g) b ≤ n → HasAt instrs q (block_code cells function_list g q ending b) → (inside ≡ around.Atomic → Shuts ds instrs n g h k ending fs)
      → Does ds instrs n g h k (q + length (block_code cells function_list g q ending b)) fs → Does ds instrs n g h (perform b ∷ forget (length x.locals) ∷ k) q fs
  block_does {h = h} {q = q} {k = k} inside ending b named room has shut rest =
      let count = same_count x.locals g x.numbers x.agree in
      let back = dropped_behind b g (length x.locals) count in
      does_perform inside ending named room has (λ more is. shuts_forget {o = length x.locals} (subst (λ s. Shuts ds instrs n s h k ending fs) (sym (more_dropped more g (length x.locals) count)) (shut is)))
      (does_forget {o = length x.locals} (subst (λ s. Does ds instrs n s h k (q + length (block_code cells function_list g q ending b)) fs) (sym back) rest))

  pub choose_follows : {end : ℕ} (a b : Block) (v : ℤ) (vs : List ℤ) (k : List Task) → (w : Choice ds instrs n p end g a b) → (w.inside ≡ around.Atomic → Shuts ds instrs n g (length vs) k w.ending fs) → Does ds instrs n g (length vs) k end fs → Follows (m.act cells functions limits (choose_by a b) (v ∷ vs) k (source (choose_by a b ∷ k) (v ∷ vs))) (v ∷ vs)
  choose_follows {end = end} a b v vs k w shut rest = by (is_zero v) (acts ds words limits x p (v ∷ vs) small (instr.jump_zero (w.past + 1)) effect.JumpZero w.skips refl)
    where
      by : (z : Bool) → Steps (v ∷ vs) (on (coded (if z then w.past + 1 else p + 1) vs)) → Follows (on (source (perform (if z then b else a) ∷ forget (length x.locals) ∷ k) vs)) (v ∷ vs)
      by true step = moves ds words limits x p (v ∷ vs) x _ (w.past + 1) vs step (block_does w.inside w.ending b w.second_named w.second_room w.second_stands shut (subst (λ q. Does ds instrs n g (length vs) k q fs) w.end_is rest)) refl
      by false step = moves ds words limits x p (v ∷ vs) x _ (p + 1) vs step (block_does w.inside w.ending a w.first_named w.first_room w.first_stands shut (subst (λ q. Does ds instrs n g (length vs) k q fs) w.past_is (does_there w.passes rest))) refl

  module _ (e : Term) (b : Block) where
    abbrev DoesBehind : (h q ending : ℕ) → List Task → Type 0
    DoesBehind h q ending k = Does ds instrs n g h k (q + length (statement_code cells function_list g q ending (repeat e b))) fs

    -- inside an atomic block its end comes behind the loop
    abbrev ShutsBehind : {q : ℕ} → ℕ → List Task → Loop ds instrs n q g e b → Type 0
    ShutsBehind h k w = w.inside ≡ around.Atomic → Shuts ds instrs n g h k w.ending fs

    pub test_follows : (vs : List ℤ) (k : List Task) → (w : Loop ds instrs n p g e b) → ShutsBehind (length vs) k w → DoesBehind (length vs) p w.ending k → Follows (m.act cells functions limits (test e b) vs k (source (test e b ∷ k) vs)) vs
    test_follows vs k w shut rest =
        let body = block_code cells function_list g (p + 1 + length (term_code cells function_list g e) + 1) w.ending b in
        ticks ds words limits x p vs small (test e b ∷ k) (λ t. on (m.to_do (value e ∷ repeat_by e b ∷ k) t)) w.stands.0 (λ z.
        let y : Shared ds words limits g n fs = record x { fuel = z } in
        same_place ds words limits y (p + 1) vs (value e ∷ repeat_by e b ∷ k) (does_value w.test_named (front instrs (p + 1) (term_code cells function_list g e) _ w.stands.1) (does_repeat refl w shut rest)) refl)

    -- the loop stands at q, and behind its test the place is p
    pub repeat_follows : (q : ℕ) (v : ℤ) (vs : List ℤ) (k : List Task) → p ≡ q + 1 + length (term_code cells function_list g e) → (w : Loop ds instrs n q g e b) → ShutsBehind (length vs) k w → DoesBehind (length vs) q w.ending k → Follows (m.act cells functions limits (repeat_by e b) (v ∷ vs) k (source (repeat_by e b ∷ k) (v ∷ vs))) (v ∷ vs)
    repeat_follows q v vs k is w shut rest =
        by (is_zero v) (acts ds words limits x p (v ∷ vs) small (instr.jump_zero past) effect.JumpZero (subst (λ r. slice_get instrs r ≡ Some (instr.jump_zero past)) (sym is) behind_test.0) refl)
      where
        one : List Instr
        one = term_code cells function_list g e

        inner : ℕ
        inner = q + 1 + length one + 1

        body : List Instr
        body = block_code cells function_list g inner w.ending b

        past : ℕ
        past = inner + length body + 1

        behind_test : HasAt instrs (q + 1 + length one) (instr.jump_zero past ∷ (body ++ instr.jump q ∷ []))
        behind_test = behind instrs (q + 1) one (instr.jump_zero past ∷ (body ++ instr.jump q ∷ [])) w.stands.1

        ends : q + length (statement_code cells function_list g q w.ending (repeat e b)) ≡ past
        ends = omega (arith, length-append one (instr.jump_zero past ∷ (body ++ instr.jump q ∷ [])), length-append body (instr.jump q ∷ []))

        does_body : Does ds instrs n g (length vs) (perform b ∷ forget (length x.locals) ∷ test e b ∷ k) inner fs
        does_body = block_does w.inside w.ending b w.body_named w.room (front instrs inner body (instr.jump q ∷ []) behind_test.1) (λ is. shuts_test (shut is)) (does_there (behind instrs inner body (instr.jump q ∷ []) behind_test.1).0 (does_test w shut rest))

        by : (z : Bool) → Steps (v ∷ vs) (on (coded (if z then past else p + 1) vs)) → Follows (if z then on (source k vs) else on (source (perform b ∷ forget (length x.locals) ∷ test e b ∷ k) vs)) (v ∷ vs)
        by true step = moves ds words limits x p (v ∷ vs) x k past vs step (subst (λ r. Does ds instrs n g (length vs) k r fs) ends rest) refl
        by false step =
            let there : inner ≡ p + 1 = omega (arith, is) in
            moves ds words limits x p (v ∷ vs) x _ (p + 1) vs step (subst (λ r. Does ds instrs n g (length vs) (perform b ∷ forget (length x.locals) ∷ test e b ∷ k) r fs) there does_body) refl

  -- ## The ends of blocks, and of strands

  pub forget_follows : (o : ℕ) (vs : List ℤ) (k : List Task) → Does ds instrs n (drop (length g - o) g) (length vs) k p fs → Follows (m.act cells functions limits (forget o) vs k (source (forget o ∷ k) vs)) vs
  forget_follows o vs k rest =
      let same = same_count x.locals g x.numbers x.agree in
      let dropped = agree_drop (length g - o) x.locals g x.numbers x.agree in
      let y : Shared ds words limits (drop (length g - o) g) n fs = record {
        locals = drop (length x.locals - o) x.locals;
        numbers = x.numbers;
        scopes = x.scopes;
        fuel = x.fuel;
        size = x.size;
        beside = x.beside;
        begins = x.begins;
        count = x.count;
        agree = subst (λ q. Agree (drop (q - o) x.locals) (drop (length g - o) g) x.numbers) (sym same) dropped;
      } in
      (coded p vs, stays, alike ds words limits y k p vs rest refl)

  pub wait_follows : (vs : List ℤ) (k : List Task) → slice_get instrs p ≡ Some instr.wait → DoesNext (length vs) k → Follows (m.act cells functions limits wait vs k (source (wait ∷ k) vs)) vs
  wait_follows vs k there rest = by x.scopes (acts ds words limits x p vs small instr.wait effect.Sync there refl)
    where
      by : (ns : List ℕ) → Steps vs (c.wait_in ns (p + 1) vs (coded p vs)) → Follows (m.wait_in ns k (source (wait ∷ k) vs)) vs
      by [] step = moves ds words limits x p vs x k (p + 1) vs step rest refl
      by (zero ∷ ns) step = moves ds words limits x p vs x k (p + 1) vs step rest refl
      by (suc o ∷ ns) step =
          let y : Shared ds words limits g n fs = record x { scopes = o ∷ ns } in
          both_want ds words limits x p vs Sync (syntax_at ds words limits y (wait ∷ k) vs) (code_at ds words limits y p vs) step (alike ds words limits y (wait ∷ k) p vs (does_wait there rest) refl)

  pub commit_follows : (vs : List ℤ) (k : List Task) → slice_get instrs p ≡ Some instr.end → DoesNext (length vs) k → Follows (m.act cells functions limits commit vs k (source (commit ∷ k) vs)) vs
  commit_follows vs k there rest =
      let y : Shared ds words limits g n fs = record x { scopes = drop 1 x.scopes } in
      both_want ds words limits x p vs End (syntax_at ds words limits y k vs) (code_at ds words limits y (p + 1) vs) (acts ds words limits x p vs small instr.end effect.End there refl) (alike ds words limits y k (p + 1) vs rest refl)

  -- a block is given up
  pub give_up_follows : (q : ℕ) (vs : List ℤ) (k : List Task) → slice_get instrs p ≡ Some instr.cancel → slice_get instrs (p + 1) ≡ Some (instr.jump q) → Shuts ds instrs n g (length vs) k q fs → Follows (m.act cells functions limits give_up vs k (source (give_up ∷ k) vs)) vs
  give_up_follows q vs k there jumps shut =
      let y : Shared ds words limits g n fs = record x { size = x.size + 1 } in
      counts_follow vs Cancel x (tasks_after_cancel k) (p + 1) vs (acts ds words limits x p vs small instr.cancel effect.Cancel there refl) (alike ds words limits y (tasks_after_cancel k) (p + 1) vs (does_there jumps (shut_does ds instrs shut)) refl)
