-- What stood below the begin of a block stands there still, for each strand inside the block.
use Rattle.std.proofs.Common.{◌≡◌, ◌∙◌, ℕ, zero, suc, ◌+◌, ◌-◌, ◌<◌, ◌≤◌, Bool, true, false, ◌||◌, List, [], ◌∷◌, length, drop, refl, sym, ap, subst, arith, Option, Some, None, Result, Ok, Err, ℤ, pos, negsuc, nat_lt}
use Rattle.std.specs.Prelude.{slice_get, slice_set, Contains, if◌then◌else◌, nat_le, ◌==◌}
use Rattle.std.proofs.lemmas.Bool.{eqb-true, eq-eqb}
use Rattle.std.proofs.lemmas.List.{length-set}
use Rattle.cw_code.specs.declared.instruction.Instr.{Instr}
use Rattle.cw_code.specs.declared.instruction.Func.{Func}
use Rattle.cw_code.specs.declared.instruction.Code.{Code}
use Rattle.cw_code.specs.declared.FaultKind.{FaultKind}
use Rattle.cw_code.specs.declared.FaultKind.TheVariants.{Depth, Size}
use Rattle.cw_code.specs.declared.Limits.{Limits}
use Rattle.cw_code.specs.declared.effects.Effect.{Effect}
use Rattle.cw_code.specs.declared.effects.Effect.TheVariants as t
use Rattle.cw_code.specs.Rules.{Situation, at_start, effect_of, blocks_in, is_torn, is_target, inside, jumps, known_at, never_passed, onwards, operand_faults, passed, places, situation_faults, faults}
use Rattle.cw_code.proofs.Parts.{blocks_after, blocks_onwards, blocks_passed}
use Rattle.cw_code.proofs.Sound.{Around, around, contained, inside_is, is_inside, laid, next_is, not_false, operands_fine, situation_fine, start_known, target_found, target_is, tested}
use Rattle.cw_strand.specs.declared.want.Want.{Want}
use Rattle.cw_strand.specs.declared.want.Want.TheVariants.{Load, Store, Out, Begin, End, Fork, Done, Fault, Cancel}
use Rattle.cw_strand.specs.declared.want.Given.{Given}
use Rattle.cw_strand.specs.declared.want.Given.TheVariants.{Nothing, Value, Back as Wrote}
use Rattle.cw_code.specs.declared.Back.{Back}
use Rattle.cw_strand.specs.Running.{Standing, on, wants, stuck, stand}
use Rattle.cw_strand.specs.Meaning.{one_more, one_inside, most_frames}
use Rattle.cw_strand.specs.Arithmetic.{is_zero}
use Rattle.cw_strand.specs.Coded as coded
use Rattle.cw_strand.specs.Coded.{Frame, State, Step, index, goes_to, with_value, joined, counted, counts, spends, result, in_range, read_local, write_local, returned, wait_in, strands_of_code}
use Rattle.cw_strand.specs.Standing.{StandsWanting}
use Rattle.cw_strand.specs.Saving.{inner_after, StaysIn, Inside, begun, answered, goes_right, joins, lowest, StillStands}
use Rattle.cw_strand.proofs.Bounding.{bounded}
use Rattle.cw_strand.proofs.Lowest.{IsEnd, end_behind, end_of_end, lowest_end}
use Rattle.cw_strand.proofs.Settling.{stand_holds}

-- ## Scopes

-- one scope is on top of `below`, and n more are on that
data Over (below : List ℕ) : ℕ → List ℕ → Type 0 where
  last : {m : ℕ} → Over below 0 (m ∷ below)
  more : {n m : ℕ} {ns : List ℕ} → Over below n ns → Over below (suc n) (m ∷ ns)

over_other : {below ns : List ℕ} {n m : ℕ} → Over below n (m ∷ ns) → (k : ℕ) → Over below n (k ∷ ns)
over_other last k = last
over_other (more h) k = more h

over_one_more : {below ns : List ℕ} {n : ℕ} → Over below n ns → Over below n (one_more ns)
over_one_more last = last
over_one_more (more h) = more h

over_inside : {below ns : List ℕ} {n : ℕ} → Over below n ns → Over below (suc n) (one_inside ns)
over_inside last = more last
over_inside (more h) = more (more h)

over_longer : {below ns : List ℕ} {n : ℕ} → Over below n ns → length below < length ns
over_longer last = omega arith
over_longer (more h) = omega (arith, over_longer h)

over_popped : {below ns : List ℕ} {n : ℕ} → Over below (suc n) ns → Over below n (drop 1 ns)
over_popped (more h) = h

over_none : {below ns : List ℕ} → Over below 0 ns → drop 1 ns ≡ below
over_none last = refl

over_end : {below ns : List ℕ} {n : ℕ} → Over below n ns → (m : ℕ) × IsEnd (m ∷ below) ns
over_end (last {m = m}) = (m, ([], refl))
over_end (more {m = m} h) = let e = over_end h in (e.0, end_behind m e.1)

-- ## Blocks at a place

module _ (code : Code) where
  -- at place p of a function of the code, n of its blocks are open
  record BlocksAt (p n : ℕ) : Type 0 where
    func : Func
    declared : Contains code.funcs func
    within : inside func p ≡ true
    situation : Situation
    known : known_at func (places code func) p ≡ Some situation
    blocks : blocks_in situation.parts ≡ n

  module _ (ok : faults code ≡ []) where
    starts : (f : Func) → Contains code.funcs f → BlocksAt f.start 0
    starts f co =
        let lies = (laid code ok f co).starts in
        record { func = f; declared = co; within = inside_is code f f.start (omega arith) lies; situation = at_start; known = start_known code f lies; blocks = refl }

    module _ (p : ℕ) (i : Instr) (e : Effect) (is : slice_get code.instrs p ≡ Some i) (does : effect_of i ≡ Some e) where
      fine : {n : ℕ} (at : BlocksAt p n) → situation_faults code at.func (places code at.func) p i (Some e) at.situation ≡ []
      fine at =
          let here = is_inside at.func p at.within in
          subst (λ o. situation_faults code at.func (places code at.func) p i o at.situation ≡ []) does
          (situation_fine code ok at.func p at.declared here i is at.situation at.known)

      around_it : {n : ℕ} (at : BlocksAt p n) → Around code at.func (places code at.func) p i (Some e) at.situation
      around_it at = around code at.func (places code at.func) p i (Some e) at.situation (fine at)

      -- nothing around it is torn
      whole : {n : ℕ} (at : BlocksAt p n) → is_torn (Some e) at.situation ≡ false
      whole at = (around_it at).whole

      onward : {n : ℕ} → never_passed (Some e) ≡ false → BlocksAt p n → BlocksAt (p + 1) (blocks_after (Some e) n)
      onward goes at =
          let w = around_it at in
          let here = is_inside at.func p at.within in
          record {
            func = at.func;
            declared = at.declared;
            within = inside_is code at.func (p + 1) (omega (arith, here.from)) (omega (arith, here.to, w.last goes));
            situation = onwards code i (Some e) at.situation;
            known = w.next (p + 1) (next_is code at.func p (Some e) here goes (w.last goes));
            blocks = blocks_onwards code i (Some e) at.situation ∙ ap (blocks_after (Some e)) at.blocks;
          }

      jumped : {n : ℕ} → jumps (Some e) ≡ true → ((f : Func) → operand_faults code f p i (Some e) ≡ [] → is_target code f p i.a ≡ true) → BlocksAt p n → BlocksAt (index i.a) (blocks_after (Some e) n)
      jumped {n = n} j target at =
          let w = around_it at in
          let named = subst (λ o. operand_faults code at.func p i o ≡ []) does (operands_fine code ok at.func p at.declared (is_inside at.func p at.within) i is) in
          let to = target_is code at.func p i.a (target at.func named) in
          let there : BlocksAt to.0 (blocks_after (Some e) n) = record {
            func = at.func;
            declared = at.declared;
            within = to.2;
            situation = passed code i (Some e) at.situation;
            known = w.target to.0 (target_found code at.func i (Some e) to.0 j to.1 to.2);
            blocks = blocks_passed code i (Some e) at.situation ∙ ap (blocks_after (Some e)) at.blocks;
          } in
          subst (λ q. BlocksAt q (blocks_after (Some e) n)) (sym (ap index to.1)) there

    -- a function returns with no block open
    returns_flat : (p n : ℕ) (i : Instr) → slice_get code.instrs p ≡ Some i → effect_of i ≡ Some t.Ret → BlocksAt p n → n ≡ 0
    returns_flat p n i is does at =
        let torn = whole p i t.Ret is does at in
        sym at.blocks ∙ eqb-true (blocks_in at.situation.parts) 0 (not_false (blocks_in at.situation.parts == 0) (first _ _ torn))
      where
        first : (a b : Bool) → (a || b) ≡ false → a ≡ false
        first true b e = absurd cc
        first false b e = refl

    -- a block that ends is open
    ends_some : (p n : ℕ) (i : Instr) → slice_get code.instrs p ≡ Some i → effect_of i ≡ Some t.End → BlocksAt p n → 0 < n
    ends_some p n i is does at = by n at.blocks (whole p i t.End is does at)
      where
        by : (n : ℕ) → blocks_in at.situation.parts ≡ n → (blocks_in at.situation.parts == 0) ≡ false → 0 < n
        by zero same torn = absurd (let no : true ≡ false = sym (eq-eqb (blocks_in at.situation.parts) 0 same) ∙ torn in cc)
        by (suc n) same torn = omega arith

-- ## Functions above the begin

module _ (code : Code) (ok : faults code ≡ []) (start : State) (deep : ℕ) (some : 0 < deep) (below : List ℕ) (around : 0 < length below) where
  -- The current function, at this place with these locals, is that of the block, or one that it led to by calls. These callers wait for it,
  -- with these scopes, and n blocks are begun inside the block. At its begin, `deep` blocks of its function were open.
  data Above : ℕ → List ℤ → List Frame → List ℕ → ℕ → Type 0 where
    own : {p n : ℕ} {ls : List ℤ} {fs : List Frame} {ns : List ℕ} → BlocksAt code p (n + deep) → length ls ≡ length start.current.locals → fs ≡ start.callers → Over below n ns → Above p ls fs ns n
    called : {p n j k : ℕ} {ls : List ℤ} {f : Frame} {fs : List Frame} {ns ms : List ℕ} → BlocksAt code p j → Above f.place f.locals fs ms k → Over ms j ns → n ≡ j + k → Above p ls (f ∷ fs) ns n

  goes : {p n : ℕ} {ls : List ℤ} {fs : List Frame} {ns : List ℕ} (q : ℕ) (vs : List ℤ) → length vs ≡ length ls → ((j : ℕ) → BlocksAt code p j → BlocksAt code q j) → Above p ls fs ns n → Above q vs fs ns n
  goes q vs same move (own {n = n} at count here over) = own (move (n + deep) at) (same ∙ count) here over
  goes q vs same move (called {j = j} at h over is) = called (move j at) h over is

  begins : {p n : ℕ} {ls : List ℤ} {fs : List Frame} {ns : List ℕ} (q : ℕ) → ((j : ℕ) → BlocksAt code p j → BlocksAt code q (j + 1)) → Above p ls fs ns n → Above q ls fs (one_inside ns) (suc n)
  begins q move (own {n = n} at count here over) = own (subst (λ j. BlocksAt code q j) (omega arith) (move (n + deep) at)) count here (over_inside over)
  begins q move (called {j = j} at h over is) = called (subst (λ m. BlocksAt code q m) (omega arith) (move j at)) h (over_inside over) (omega (arith, is))

  ends : {p n : ℕ} {ls : List ℤ} {fs : List Frame} {ns : List ℕ} (q : ℕ) → ((j : ℕ) → BlocksAt code p j → 0 < j) → ((j : ℕ) → BlocksAt code p j → BlocksAt code q (j - 1)) → Above p ls fs ns (suc n) → Above q ls fs (drop 1 ns) n
  ends {n = n} q open_there move (own at count here over) = own (subst (λ j. BlocksAt code q j) (omega arith) (move (suc n + deep) at)) count here (over_popped over)
  ends q open_there move (called {j = zero} at h over is) = absurd (omega (arith, open_there 0 at))
  ends q open_there move (called {j = suc j} at h over is) = called (subst (λ m. BlocksAt code q m) (omega arith) (move (suc j) at)) h (over_popped over) (omega (arith, is))

  other_top : {p n m : ℕ} {ls : List ℤ} {fs : List Frame} {ns : List ℕ} (k : ℕ) → Above p ls fs (m ∷ ns) n → Above p ls fs (k ∷ ns) n
  other_top k (own at count here over) = own at count here (over_other over k)
  other_top k (called at h over is) = called at h (over_other over k) is

  top_more : {p n : ℕ} {ls : List ℤ} {fs : List Frame} {ns : List ℕ} → Above p ls fs ns n → Above p ls fs (one_more ns) n
  top_more (own at count here over) = own at count here (over_one_more over)
  top_more (called at h over is) = called at h (over_one_more over) is

  returns : {p n : ℕ} {ls : List ℤ} {f : Frame} {fs : List Frame} {ns : List ℕ} → ((j : ℕ) → BlocksAt code p j → j ≡ 0) → Above p ls (f ∷ fs) ns n → Above f.place f.locals fs (drop 1 ns) n
  returns flat (own {n = n} at count here over) = absurd (omega (arith, some, flat (n + deep) at))
  returns flat (called {j = suc j} at h over is) = absurd (omega (arith, flat (suc j) at))
  returns {n = n} {f = f} {fs = fs} flat (called {j = zero} {k = k} {ms = ms} at h over is) =
      let same : k ≡ n = omega (arith, is) in
      subst (λ ns. Above f.place f.locals fs ns n) (sym (over_none over)) (subst (λ m. Above f.place f.locals fs ms m) same h)

  some_scope : {p n : ℕ} {ls : List ℤ} {fs : List Frame} {ns : List ℕ} → Above p ls fs ns n → 0 < length ns
  some_scope (own at count here over) = omega (arith, over_longer over)
  some_scope (called at h over is) = omega (arith, over_longer over)

  -- there are two scopes at least
  two_scopes : {p n : ℕ} {ls : List ℤ} {fs : List Frame} {ns : List ℕ} → Above p ls fs ns n → 1 < length ns
  two_scopes (own at count here over) = omega (arith, over_longer over, around)
  two_scopes (called at h over is) = omega (arith, over_longer over, some_scope h)

  -- what is below
  record Ends (current : Frame) (fs : List Frame) (ns : List ℕ) : Type 0 where
    function : Frame
    functions : IsEnd (function ∷ start.callers) (current ∷ fs)
    locals : length function.locals ≡ length start.current.locals
    forks : ℕ
    scopes : IsEnd (forks ∷ below) ns

  ended : {n : ℕ} {ns : List ℕ} (current : Frame) (fs : List Frame) → Above current.place current.locals fs ns n → Ends current fs ns
  ended current fs (own at count here over) = let e = over_end over in record { function = current; functions = ([], ap (λ gs. current ∷ gs) here); locals = count; forks = e.0; scopes = e.1 }
  ended current (f ∷ fs) (called at h over is) =
      let e = ended f fs h in
      let o = over_end over in
      record { function = e.function; functions = end_behind current e.functions; locals = e.locals; forks = e.forks; scopes = end_of_end o.0 e.scopes o.1 }

  -- ## Steps

  -- n blocks are begun inside
  abbrev Holds : ℕ → State → Type 0
  Holds n s = Above s.current.place s.current.locals s.callers s.scopes n × (s.limits ≡ start.limits)

  -- or more
  abbrev HoldsMore : ℕ → State → Type 0
  HoldsMore n s = (m : ℕ) × ((n ≤ m) × Holds m s)

  -- as many as the answer to the want leaves, or more, unless it ends the block
  abbrev HoldsAt : ℕ → Want → State → Type 0
  HoldsAt n w s = StaysIn w n → HoldsMore (inner_after w n) s

  abbrev Goes : ℕ → Step → Type 0
  Goes n (on s) = Holds n s
  Goes n (wants w s) = HoldsAt n w s
  Goes n stuck = Unit {0}

  goes_either : (n : ℕ) (b : Bool) (x y : Step) → Goes n x → Goes n y → Goes n (if b then x else y)
  goes_either n true x y g h = g
  goes_either n false x y g h = h

  module _ (n : ℕ) where
    enough : n ≤ n
    enough = omega arith

    goes_counted : (s : State) (go : State → Step) → Holds n s → Goes n (go (record s { size = s.size + 1 })) → Goes n (counted s go)
    goes_counted s go h g = goes_either n (nat_le s.limits.size s.size) _ _ (λ stays. (n, (enough, h))) g

    goes_counts : (w : Want) (s : State) → inner_after w n ≡ n → Holds n s → Goes n (counts w s)
    goes_counts w s flat h = goes_counted s (λ t. wants w t) h (λ stays. (n, (omega (arith, flat), h)))

    goes_spent : (s : State) (go : State → Step) → Holds n s → Goes n (go (record s { fuel = s.fuel + 1 })) → Goes n (spends s go)
    goes_spent s go h g = goes_either n (nat_le s.limits.fuel s.fuel) _ _ (λ stays. (n, (enough, h))) g

    goes_result : (r : Result ℤ FaultKind) (p : ℕ) (vs : List ℤ) (s : State) → Holds n s → ((us : List ℤ) → Holds n (goes_to p us s)) → Goes n (result r p vs s)
    goes_result (Ok v) p vs s h g = g (v ∷ vs)
    goes_result (Err k) p vs s h g = λ stays. (n, (enough, h))

    goes_range : (len : ℕ) (z : ℤ) (s : State) (go : Step) → Holds n s → Goes n go → Goes n (in_range len z s go)
    goes_range len (negsuc m) s go h g = λ stays. (n, (enough, h))
    goes_range len (pos m) s go h g = goes_either n (nat_lt m len) _ _ g (λ stays. (n, (enough, h)))

    goes_read : (o : Option ℤ) (p : ℕ) (vs : List ℤ) (s : State) → ((us : List ℤ) → Holds n (goes_to p us s)) → Goes n (read_local o p vs s)
    goes_read None p vs s g = tt
    goes_read (Some v) p vs s g = g (v ∷ vs)

    goes_waited : (ns : List ℕ) (p : ℕ) (vs : List ℤ) (s : State) → s.scopes ≡ ns → Holds n s → Holds n (goes_to p vs s) → Goes n (wait_in ns p vs s)
    goes_waited [] p vs s is h g = g
    goes_waited (zero ∷ ns) p vs s is h g = g
    goes_waited (suc m ∷ ns) p vs s is h g = λ stays. (n, (enough, (other_top m (subst (λ ms. Above s.current.place s.current.locals s.callers ms n) is h.0), h.1)))

    goes_ended : (ns : List ℕ) (s : State) → s.scopes ≡ ns → Holds n s → Goes n (wants Done (coded.ended ns s))
    goes_ended [] s is h = λ stays. (n, (enough, h))
    goes_ended (m ∷ []) s is h = absurd (omega (arith, two_scopes (subst (λ ms. Above s.current.place s.current.locals s.callers ms n) is h.0)))
    goes_ended (m ∷ k ∷ ns) s is h = λ stays. (n, (enough, h))

    goes_returned : (fs : List Frame) (v : ℤ) (s : State) → s.callers ≡ fs → ((j : ℕ) → BlocksAt code s.current.place j → j ≡ 0) → Holds n s → Goes n (returned fs v s)
    goes_returned [] v s is flat h = goes_ended s.scopes s refl h
    goes_returned (f ∷ fs) v s is flat h = (returns flat (subst (λ gs. Above s.current.place s.current.locals gs s.scopes n) is h.0), h.1)

    module _ (i : Instr) (s : State) (is : slice_get code.instrs s.current.place ≡ Some i) (h : Holds n s) where
      -- on at the place behind
      behind : (e : Effect) → effect_of i ≡ Some e → never_passed (Some e) ≡ false → ((j : ℕ) → blocks_after (Some e) j ≡ j) → (ls : List ℤ) → length ls ≡ length s.current.locals → Above (s.current.place + 1) ls s.callers s.scopes n
      behind e does passes flat ls same = goes (s.current.place + 1) ls same (λ j at. subst (λ m. BlocksAt code (s.current.place + 1) m) (flat j) (onward code ok s.current.place i e is does passes at)) h.0

      moved : (e : Effect) → effect_of i ≡ Some e → never_passed (Some e) ≡ false → ((j : ℕ) → blocks_after (Some e) j ≡ j) → (us : List ℤ) → Holds n (goes_to (s.current.place + 1) us s)
      moved e does passes flat us = (behind e does passes flat s.current.locals refl, h.1)

      leaps : (e : Effect) → effect_of i ≡ Some e → jumps (Some e) ≡ true → ((f : Func) → operand_faults code f s.current.place i (Some e) ≡ [] → is_target code f s.current.place i.a ≡ true) → ((j : ℕ) → blocks_after (Some e) j ≡ j) → Above (index i.a) s.current.locals s.callers s.scopes n
      leaps e does j target flat = goes (index i.a) s.current.locals refl (λ m at. subst (λ k. BlocksAt code (index i.a) k) (flat m) (jumped code ok s.current.place i e is does j target at)) h.0

      goes_called : (o : Option Func) → slice_get code.funcs (index i.a) ≡ o → (vs : List ℤ) (u : State) → Holds n u → Above (s.current.place + 1) u.current.locals u.callers u.scopes n → Goes n (coded.begins_call o (s.current.place + 1) vs u)
      goes_called None found vs u g at = tt
      goes_called (Some f) found vs u g at =
          goes_either n (nat_lt (length vs) f.params) stuck _ tt
          (goes_either n (nat_le most_frames (length u.callers + 1)) (wants (Fault Depth) u) _ (λ stays. (n, (enough, g))) (called {j = 0} {k = n} (starts code ok f (contained code.funcs (index i.a) f found)) at last (omega arith), g.1))

      acts : (e : Effect) (vs : List ℤ) → effect_of i ≡ Some e → Goes n (coded.act code e i (s.current.place + 1) vs s)
      acts t.Push vs does = moved t.Push does refl (λ j. refl) (i.a ∷ vs)
      acts t.Local vs does = goes_read (slice_get s.current.locals (index i.a)) (s.current.place + 1) vs s (moved t.Local does refl (λ j. refl))
      acts t.Set (v ∷ vs) does = goes_either n (nat_lt (index i.a) (length s.current.locals)) _ _ (behind t.Set does refl (λ j. refl) (slice_set s.current.locals (index i.a) v) (length-set s.current.locals (index i.a) v), h.1) tt
      acts t.Load vs does = goes_counts (Load (index i.a)) (goes_to (s.current.place + 1) (pos 0 ∷ vs) s) refl (moved t.Load does refl (λ j. refl) (pos 0 ∷ vs))
      acts t.LoadAt (z ∷ vs) does = goes_range i.b z s _ h (goes_counts (Load (index i.a + index z)) (goes_to (s.current.place + 1) (pos 0 ∷ vs) s) refl (moved t.LoadAt does refl (λ j. refl) (pos 0 ∷ vs)))
      acts t.Store (v ∷ vs) does = goes_counts (Store (index i.a) v) (goes_to (s.current.place + 1) vs s) refl (moved t.Store does refl (λ j. refl) vs)
      acts t.StoreAt (v ∷ z ∷ vs) does = goes_range i.b z s _ h (goes_counts (Store (index i.a + index z) v) (goes_to (s.current.place + 1) vs s) refl (moved t.StoreAt does refl (λ j. refl) vs))
      acts (t.Lift o) (x ∷ vs) does = goes_result _ (s.current.place + 1) vs s h (moved (t.Lift o) does refl (λ j. refl))
      acts (t.Join o) (y ∷ x ∷ vs) does = goes_result _ (s.current.place + 1) vs s h (moved (t.Join o) does refl (λ j. refl))
      acts t.Jump vs does = (leaps t.Jump does refl (λ f named. tested _ _ _ named) (λ j. refl), h.1)
      acts t.JumpZero (v ∷ vs) does = (either (is_zero v) (leaps t.JumpZero does refl (λ f named. tested _ _ _ named) (λ j. refl)) (behind t.JumpZero does refl (λ j. refl) s.current.locals refl), h.1)
        where
          either : (b : Bool) {x y : ℕ} → Above x s.current.locals s.callers s.scopes n → Above y s.current.locals s.callers s.scopes n → Above (if b then x else y) s.current.locals s.callers s.scopes n
          either true a b = a
          either false a b = b
      acts t.Call vs does = goes_spent s (λ u. coded.begins_call (slice_get code.funcs (index i.a)) (s.current.place + 1) vs u) h (goes_called (slice_get code.funcs (index i.a)) refl vs (record s { fuel = s.fuel + 1 }) h (behind t.Call does refl (λ j. refl) s.current.locals refl))
      acts t.Ret (v ∷ vs) does = goes_returned s.callers v s refl (λ j at. returns_flat code ok s.current.place j i is does at) h
      acts t.Drop (v ∷ vs) does = moved t.Drop does refl (λ j. refl) vs
      acts t.Out (v ∷ vs) does = goes_counts (Out v) (goes_to (s.current.place + 1) vs s) refl (moved t.Out does refl (λ j. refl) vs)
      acts t.Begin vs does =
          let inside = begins (s.current.place + 1) (λ j at. onward code ok s.current.place i t.Begin is does refl at) h.0 in
          goes_either n (nat_le s.limits.size s.size) _ _ (λ stays. (suc n, (omega arith, (inside, h.1)))) (λ stays. (suc n, (omega arith, (inside, h.1))))
      acts t.End vs does = by n h.0
        where
          by : (m : ℕ) → Above s.current.place s.current.locals s.callers s.scopes m → Goes m (wants End (record (goes_to (s.current.place + 1) vs s) { scopes = drop 1 s.scopes }))
          by zero a = λ stays. absurd stays
          by (suc m) a = λ stays. (m, (omega arith, (ends (s.current.place + 1) (λ j at. ends_some code ok s.current.place j i is does at) (λ j at. onward code ok s.current.place i t.End is does refl at) a, h.1)))
      acts t.Fork vs does = goes_counted s (λ u. wants Fork (record (goes_to (index i.a) vs u) { scopes = one_more u.scopes; beside = s.current.place + 1 })) h (λ stays. (n, (enough, (top_more (leaps t.Fork does refl (λ f named. tested _ _ _ named) (λ j. refl)), h.1))))
      acts t.Sync vs does = goes_waited s.scopes (s.current.place + 1) vs s refl h (moved t.Sync does refl (λ j. refl) vs)
      acts t.Done vs does = goes_ended s.scopes s refl h
      acts t.Tick vs does = goes_spent s (λ u. on (goes_to (s.current.place + 1) vs u)) h (moved t.Tick does refl (λ j. refl) vs)
      acts t.Cancel vs does = goes_counts Cancel (goes_to (s.current.place + 1) vs s) refl (moved t.Cancel does refl (λ j. refl) vs)
      acts e vs does = tt

    steps_at : (o : Option Instr) (s : State) → slice_get code.instrs s.current.place ≡ o → Holds n s → Goes n (coded.step_at code o s)
    steps_at None s is h = tt
    steps_at (Some i) s is h = by (effect_of i) refl
      where
        by : (o : Option Effect) → effect_of i ≡ o → Goes n (coded.act_of code o i s)
        by None does = tt
        by (Some e) does = acts i s is h e s.current.operands does

    steps : (s : State) → Holds n s → Goes n (coded.step code s)
    steps s h = goes_either n (nat_lt s.limits.size s.size) (wants (Fault Size) s) _ (λ stays. (n, (enough, h))) (by s.back)
      where
        by : (bs : List Back) → Goes n (coded.writes_back code bs s)
        by [] = steps_at (slice_get code.instrs s.current.place) s refl h
        by (b ∷ bs) = goes_counts (Store b.cell b.value) (record s { back = bs }) refl h

  -- ## Strands inside

  stays_more : (w : Want) (m n : ℕ) → m ≤ n → StaysIn w m → StaysIn w n
  stays_more End zero n le stays = absurd stays
  stays_more End (suc m) zero le stays = absurd (omega (arith, le))
  stays_more End (suc m) (suc n) le stays = tt
  stays_more w m n le stays = tt

  after_more : (w : Want) (m n : ℕ) → m ≤ n → inner_after w m ≤ inner_after w n
  after_more Begin m n le = omega (arith, le)
  after_more End m n le = omega (arith, le)
  after_more w m n le = le

  goes_on : (n : ℕ) (s t : State) → HoldsMore n s → coded.step code s ≡ on t → HoldsMore n t
  goes_on n s t h is = (h.0, (h.1.0, subst (Goes h.0) is (steps h.0 s h.1.1)))

  comes : (n : ℕ) (s t : State) (w : Want) → HoldsMore n s → coded.step code s ≡ wants w t → HoldsAt n w t
  comes n s t w h is = λ stays.
      let at = subst (Goes h.0) is (steps h.0 s h.1.1) (stays_more w n h.0 h.1.0 stays) in
      (at.0, (omega (arith, after_more w n h.0 h.1.0, at.1.0), at.1.1))

  given : (n : ℕ) (s : State) (g : Given) → HoldsMore n s → HoldsMore n (with_value g s)
  given n s Nothing h = h
  given n s (Value v) h = h
  given n s (Wrote bs) h = h

  module _ (main : ℕ) (words : List ℤ) (limits : Limits) where
    stands_so : (n : ℕ) (s : State) → HoldsMore n s → let x = stand (coded.runs code main words limits) s in HoldsAt n x.want x.state
    stands_so n s h =
        stand_holds (coded.runs code main words limits) (bounded code main words limits ok).on (HoldsMore n) (λ x. HoldsAt n x.want x.state)
        (λ s t h is. goes_on n s t h is) (λ s t w h is. comes n s t w h is) (λ s h is. λ stays. h) s h

    module _ (begin : Standing State) (first : HoldsMore 0 begin.state) where
      inside_holds : {forks n : ℕ} {x : Standing State} → Inside (strands_of_code code main words limits) begin forks n x → HoldsAt n x.want x.state
      inside_holds begun = stands_so 0 begin.state first
      inside_holds (answered {inner = n} {a = a} h g is stays) = stands_so (inner_after a.want n) (with_value g a.state) (given (inner_after a.want n) a.state g (inside_holds h stays))
      inside_holds (goes_right {inner = n} {a = a} h is) = stands_so n a.state (at_fork a.want is (inside_holds h))
        where
          at_fork : (w : Want) → w ≡ Fork → HoldsAt n w a.state → HoldsMore n a.state
          at_fork Fork is h = h tt
          at_fork w is h = absurd cc
      inside_holds (joins {inner = n} {right = right} h stays left) = stands_so (inner_after right.want n) (joined right.state left.state) (inside_holds h stays)

  still : (n : ℕ) (s : State) → start.scopes ≡ 0 ∷ below → HoldsMore n s → StillStands start s
  still n s opened h =
      let e = ended s.current s.callers h.1.1.0 in
      record {
        function = e.function;
        functions = lowest_end (suc (length start.callers)) (s.current ∷ s.callers) (e.function ∷ start.callers) refl e.functions;
        locals = e.locals;
        forks = e.forks;
        scopes = ap (λ ns. lowest (length ns) s.scopes) opened ∙ lowest_end (suc (length below)) s.scopes (e.forks ∷ below) refl e.scopes ∙ ap (λ ns. e.forks ∷ drop 1 ns) (sym opened);
        limits = h.1.1.1;
      }

module _ (code : Code) (ok : faults code ≡ []) (main : ℕ) (words : List ℤ) (limits : Limits) where
  pub stays_below : (begin x : Standing State) (forks inner : ℕ) → begin.want ≡ Begin → StandsWanting code Begin begin.state → Inside (strands_of_code code main words limits) begin forks inner x → StaysIn x.want inner → StillStands begin.state x.state
  stays_below begin x forks inner is stands inside stays =
      let s = begin.state in
      let b = stands.begun refl in
      let at : BlocksAt code s.current.place (0 + (blocks_in b.current.situation.parts)) = record { func = b.current.func; declared = b.current.declared; within = b.current.within; situation = b.current.situation; known = b.current.known; blocks = omega arith } in
      let below : List ℕ = b.around ∷ b.scopes in
      let around : 0 < length below = omega arith in
      let over : Over below 0 s.scopes = subst (Over below 0) (sym b.opened) last in
      let deep = (blocks_in b.current.situation.parts) in
      let first : HoldsMore code ok s deep b.within below around 0 s = (0, (omega arith, (own {n = 0} at refl refl over, refl))) in
      let there = inside_holds code ok s deep b.within below around main words limits begin first inside stays in
      still code ok s deep b.within below around _ x.state b.opened there
