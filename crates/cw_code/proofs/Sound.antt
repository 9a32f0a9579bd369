-- What is there where no rule is broken.
use Rattle.std.proofs.Common.{◌≡◌, ◌≢◌, ℕ, zero, suc, ◌+◌, ◌-◌, ◌<◌, ◌≤◌, ◌⊎◌, inl, inr, ⊎_elim, Bool, true, false, not, ◌&&◌, ◌||◌, List, [], ◌∷◌, ◌++◌, length, Option, Some, None, refl, sym, ap, ◌∙◌, subst, arith, ℤ, pos, negsuc, nat_lt}
use Rattle.std.specs.Prelude.{slice_get, slice_set, slice_index_or, Contains, nat_le, ◌==◌, if◌then◌else◌}
use Rattle.std.proofs.lemmas.Option.{slice_get_within, get_or_from_slice_get}
use Rattle.std.proofs.lemmas.List.{get_or-set_other}
use Rattle.std.proofs.lemmas.Bool.{ltb-true, leb-true, eqb-true, ltb-false, leb-false, cases_order, eq-eqb, le-leb, lt-ltb, and_parts}
use Rattle.cw_code.specs.declared.instruction.CodeKind.{CodeKind}
use Rattle.cw_code.specs.declared.instruction.CodeFault.{CodeFault}
use Rattle.cw_code.specs.declared.instruction.Instr.{Instr}
use Rattle.cw_code.specs.declared.instruction.Func.{Func}
use Rattle.cw_code.specs.declared.instruction.Code.{Code}
use Rattle.cw_code.specs.Table.{Effect}
use Rattle.cw_code.proofs.Parts.{same_parts_is}
use Rattle.cw_code.specs.Rules.{Situation, Known, effect_of, pops, is_number_below, inside, is_target, is_tick, when, operand_faults, at_start, passed, onwards, jumps, never_passed, next_of, target_of, Places, offered, give, visit, pass, places_after_passes, begun, size_of, places, situation_of, known_at, is_border, is_torn, same, uneven_faults, faults_here, situation_faults, faults_at, place_faults, is_laid, head_faults, faults_from, faults}

-- ## Tests

pub not_false : (b : Bool) → not b ≡ false → b ≡ true
not_false true e = refl
not_false false e = sym e

pub when_not : (b : Bool) (k : CodeKind) (p : ℕ) → when b k p ≡ [] → b ≡ false
when_not false k p e = refl
when_not true k p e = absurd (no_list e)
  where
    no_list : {x : CodeFault} → x ∷ [] ≡ [] → ⊥
    no_list e = cc

-- a test that is not failed
pub tested : (b : Bool) (k : CodeKind) (p : ℕ) → when (not b) k p ≡ [] → b ≡ true
tested b k p e = not_false b (when_not (not b) k p e)

pub nil_left : (xs ys : List CodeFault) → xs ++ ys ≡ [] → xs ≡ []
nil_left [] ys e = refl
nil_left (x ∷ xs) ys e = cc

pub nil_right : (xs ys : List CodeFault) → xs ++ ys ≡ [] → ys ≡ []
nil_right [] ys e = e
nil_right (x ∷ xs) ys e = cc

if_true : (b : Bool) (xs : List CodeFault) → b ≡ true → (if b then xs else []) ≡ [] → xs ≡ []
if_true true xs e h = h
if_true false xs e h = absurd (no e)
  where
    no : false ≡ true → ⊥
    no e = cc

-- ## Numbers

pub below_names : (z : ℤ) (count : ℕ) → is_number_below z count ≡ true → (n : ℕ) × (z ≡ pos n) × (n < count)
below_names (pos n) count e = (n, refl, ltb-true n count e)
below_names (negsuc n) count e = absurd (no e)
  where
    no : false ≡ true → ⊥
    no e = cc

pub record Inside (f : Func) (p : ℕ) : Type 0 where
  pub from : f.start ≤ p
  pub to : p < f.end

pub is_inside : (f : Func) (p : ℕ) → inside f p ≡ true → Inside f p
is_inside f p e =
    let b = and_parts (nat_le f.start p) (nat_lt p f.end) e in
    record { from = leb-true f.start p b.0; to = ltb-true p f.end b.1 }

pub target_is : (c : Code) (f : Func) (p : ℕ) (z : ℤ) → is_target c f p z ≡ true → (q : ℕ) × (z ≡ pos q) × (inside f q ≡ true) × ((p < q) ⊎ (is_tick (slice_get c.instrs q) ≡ true))
target_is c f p (pos q) e =
    let b = and_parts (inside f q) _ e in
    (q, refl, b.0, further (nat_lt p q) (is_tick (slice_get c.instrs q)) (ltb-true p q) b.1)
  where
    further : (x y : Bool) {A : Type 0} → (x ≡ true → A) → (x || y) ≡ true → A ⊎ (y ≡ true)
    further true y f e = inl (f refl)
    further false y f e = inr e
target_is c f p (negsuc n) e = absurd (no e)
  where
    no : false ≡ true → ⊥
    no e = cc

-- ## Functions

pub contained : {X : Type 0} (xs : List X) (n : ℕ) (x : X) → slice_get xs n ≡ Some x → Contains xs x
contained xs n x e = (n, slice_get_within xs n x e, get_or_from_slice_get xs n x x e)

-- what is known of a function
pub record Laid (c : Code) (f : Func) : Type 0 where
  pub locals : f.params ≤ f.locals
  pub starts : f.start < f.end
  pub ends : f.end ≤ length c.instrs
  pub each : place_faults c f (places c f) (size_of f) ≡ []

module _ (c : Code) where
  -- the first function of those that lie from a place on, and those behind it
  record First (at : ℕ) (f : Func) (fs : List Func) : Type 0 where
    laid : Laid c f
    begins : f.start ≡ at
    behind : faults_from c true f.end fs ≡ []

  first_laid : (f : Func) (fs : List Func) (at : ℕ) → faults_from c true at (f ∷ fs) ≡ [] → First at f fs
  first_laid f fs at e =
      let well = is_laid c at f in
      let head = nil_left (head_faults c at f) _ e in
      let rest = nil_right (head_faults c at f) _ e in
      let h1 = nil_left (when (nat_lt f.locals f.params) _ f.start) _ head in
      let h2 = nil_right (when (nat_lt f.locals f.params) _ f.start) _ head in
      let w : well ≡ true = not_false well (when_not (not well) _ f.start (nil_left (when (not well) _ f.start) _ h2)) in
      let h4 = when_not (nat_le f.end f.start) _ f.start (nil_right (when (not well) _ f.start) _ h2) in
      let parts = and_parts (f.start == at) (nat_le f.start f.end && nat_le f.end (length c.instrs)) w in
      let parts2 = and_parts (nat_le f.start f.end) (nat_le f.end (length c.instrs)) parts.1 in
      let next : faults_from c well f.end fs ≡ [] = nil_right (if well then place_faults c f (places c f) (size_of f) else []) _ rest in
      record {
        laid = record {
          locals = ltb-false f.locals f.params (when_not (nat_lt f.locals f.params) _ f.start h1);
          starts = leb-false f.end f.start h4;
          ends = leb-true f.end (length c.instrs) parts2.1;
          each = if_true well _ w (nil_left (if well then place_faults c f (places c f) (size_of f) else []) _ rest);
        };
        begins = eqb-true f.start at parts.0;
        behind = subst (λ b. faults_from c b f.end fs ≡ []) w next;
      }

  laid_from : (fs : List Func) (at : ℕ) → faults_from c true at fs ≡ [] → (f : Func) (k : ℕ) → k < length fs → slice_index_or fs k f ≡ f → Laid c f
  laid_from [] at e f k lt is = absurd (omega arith)
  laid_from (g ∷ fs) at e f zero lt is = subst (Laid c) is (first_laid g fs at e).laid
  laid_from (g ∷ fs) at e f (suc k) lt is = laid_from fs g.end (first_laid g fs at e).behind f k (omega arith) is

  -- a function that has a place
  pub record Owner (fs : List Func) (p : ℕ) : Type 0 where
    pub func : Func
    pub declared : Contains fs func
    pub inside : Inside func p

  owner_from : (fs : List Func) (at p : ℕ) → faults_from c true at fs ≡ [] → at ≤ p → p < length c.instrs → Owner fs p
  owner_from [] at p e le lt = absurd (omega (arith, le, lt, ltb-false at (length c.instrs) (when_not (nat_lt at (length c.instrs)) _ at e)))
  owner_from (f ∷ fs) at p e le lt = by (cases_order p f.end) (λ past. owner_from fs f.end p (first_laid f fs at e).behind past lt)
    where
      behind : Owner fs p → Owner (f ∷ fs) p
      behind w = record { func = w.func; declared = (suc w.declared.0, omega (arith, w.declared.1), w.declared.2); inside = w.inside }

      by : (p ≡ f.end) ⊎ ((p < f.end) ⊎ (f.end < p)) → (f.end ≤ p → Owner fs p) → Owner (f ∷ fs) p
      by (inl same) further = behind (further (omega (arith, same)))
      by (inr (inl less)) further = record { func = f; declared = (0, omega arith, refl); inside = record { from = omega (arith, (first_laid f fs at e).begins, le); to = less } }
      by (inr (inr more)) further = behind (further (omega (arith, more)))

  module _ (none : faults c ≡ []) where
    pub laid : (f : Func) → Contains c.funcs f → Laid c f
    laid f k = laid_from c.funcs 0 none f k.0 k.1 k.2

    -- each place belongs to a function
    pub owner : (p : ℕ) → p < length c.instrs → Owner c.funcs p
    owner p lt = owner_from c.funcs 0 p none (omega arith) lt

    -- an instruction stands at each place of a function
    pub instr_at : (f : Func) (p : ℕ) → Contains c.funcs f → Inside f p → (i : Instr) × (slice_get c.instrs p ≡ Some i)
    instr_at f p k i = find c.instrs p (omega (arith, i.to, (laid f k).ends))
      where
        find : (is : List Instr) (p : ℕ) → p < length is → (i : Instr) × (slice_get is p ≡ Some i)
        find [] p lt = absurd (omega arith)
        find (i ∷ is) zero lt = (i, refl)
        find (i ∷ is) (suc p) lt = find is p (omega arith)

    one_place : (f : Func) (t : Places) (n : ℕ) → place_faults c f t n ≡ [] → (k : ℕ) → k < n → faults_at c f t (f.start + k) (slice_get c.instrs (f.start + k)) (known_at f t (f.start + k)) ≡ []
    one_place f t zero e k lt = absurd (omega arith)
    one_place f t (suc n) e k lt =
        ⊎_elim (λ same. subst (λ m. faults_at c f t (f.start + m) (slice_get c.instrs (f.start + m)) (known_at f t (f.start + m)) ≡ []) same (nil_right (place_faults c f t n) _ e)) (λ less. one_place f t n (nil_left (place_faults c f t n) _ e) k less) (last k n lt)
      where
        last : (k n : ℕ) → k < suc n → (n ≡ k) ⊎ (k < n)
        last k n lt = ⊎_elim (λ e. inl (sym e)) (λ r. ⊎_elim inr (λ gt. absurd (omega arith)) r) (cases_order k n)

    pub at_place : (f : Func) (p : ℕ) → Contains c.funcs f → Inside f p → (i : Instr) → slice_get c.instrs p ≡ Some i → faults_at c f (places c f) p (Some i) (known_at f (places c f) p) ≡ []
    at_place f p k in_f i is =
        let n = p - f.start in
        let back : f.start + n ≡ p = omega (arith, in_f.from) in
        let e = one_place f (places c f) (size_of f) (laid f k).each n (omega (arith, in_f.from, in_f.to)) in
        subst (λ o. faults_at c f (places c f) p o (known_at f (places c f) p) ≡ []) is (subst (λ m. faults_at c f (places c f) m (slice_get c.instrs m) (known_at f (places c f) m) ≡ []) back e)

    pub operands_fine : (f : Func) (p : ℕ) → Contains c.funcs f → Inside f p → (i : Instr) → slice_get c.instrs p ≡ Some i → operand_faults c f p i (effect_of i) ≡ []
    operands_fine f p k in_f i is = by_known (known_at f (places c f) p) (at_place f p k in_f i is)
      where
        by_known : (o : Option Situation) → faults_at c f (places c f) p (Some i) o ≡ [] → operand_faults c f p i (effect_of i) ≡ []
        by_known None e = e
        by_known (Some s) e = nil_left (operand_faults c f p i (effect_of i)) _ e

    pub situation_fine : (f : Func) (p : ℕ) → Contains c.funcs f → Inside f p → (i : Instr) → slice_get c.instrs p ≡ Some i → (s : Situation) → known_at f (places c f) p ≡ Some s → situation_faults c f (places c f) p i (effect_of i) s ≡ []
    situation_fine f p k in_f i is s known = nil_right (operand_faults c f p i (effect_of i)) _ (subst (λ o. faults_at c f (places c f) p (Some i) o ≡ []) known (at_place f p k in_f i is))

  -- an instruction without faults is in the table
  pub has_effect : (f : Func) (p : ℕ) (i : Instr) (o : Option Effect) → operand_faults c f p i o ≡ [] → (e : Effect) × (o ≡ Some e)
  has_effect f p i None e = absurd (no_list e)
    where
      no_list : {x : CodeFault} → x ∷ [] ≡ [] → ⊥
      no_list e = cc
  has_effect f p i (Some x) e = (x, refl)

  -- ## What stands where

  give_keeps : (f : Func) (o : Option ℕ) (p : ℕ) (s : Situation) (t : Places) → slice_index_or (give f o p s t) 0 None ≡ slice_index_or t 0 None
  give_keeps f None p s t = refl
  give_keeps f (Some q) p s t = either (nat_le q f.start) refl
    where
      either : (b : Bool) → nat_le q f.start ≡ b → slice_index_or (if b then t else slice_set t (q - f.start) (offered p s (slice_index_or t (q - f.start) None))) 0 None ≡ slice_index_or t 0 None
      either true e = refl
      either false e = get_or-set_other t (q - f.start) 0 _ None (λ z. omega (arith, leb-false q f.start e))

  pass_keeps : (f : Func) (n : ℕ) (t : Places) → slice_index_or (pass c f n t) 0 None ≡ slice_index_or t 0 None
  pass_keeps f zero t = refl
  pass_keeps f (suc n) t = visit_keeps (f.start + n) (slice_get c.instrs (f.start + n)) (slice_index_or (pass c f n t) n None) (pass c f n t) ∙ pass_keeps f n t
    where
      visit_keeps : (p : ℕ) (o : Option Instr) (k : Option Known) (t : Places) → slice_index_or (visit c f p o k t) 0 None ≡ slice_index_or t 0 None
      visit_keeps p None k t = refl
      visit_keeps p (Some i) None t = refl
      visit_keeps p (Some i) (Some k) t = give_keeps f (target_of f i (effect_of i)) p _ (give f (next_of f p (effect_of i)) p _ t) ∙ give_keeps f (next_of f p (effect_of i)) p _ t

  passes_keep : (f : Func) (size n : ℕ) (t : Places) → slice_index_or (places_after_passes c f size n t) 0 None ≡ slice_index_or t 0 None
  passes_keep f size zero t = refl
  passes_keep f size (suc n) t = pass_keeps f size (places_after_passes c f size n t) ∙ passes_keep f size n t

  pub start_known : (f : Func) → f.start < f.end → known_at f (places c f) f.start ≡ Some at_start
  start_known f lt =
      let z : f.start - f.start ≡ 0 = omega arith in
      ap (λ n. situation_of (slice_index_or (places c f) n None)) z ∙ ap situation_of (passes_keep f (size_of f) (size_of f + size_of f) (begun f (size_of f)) ∙ first (size_of f) (omega arith))
    where
      first : (n : ℕ) → 0 < n → slice_index_or (begun f n) 0 None ≡ Some (record { from = f.start; situation = at_start })
      first zero lt = absurd (omega arith)
      first (suc n) lt = refl

  -- ## Where an instruction leads

  pub same_is : (o : Option Situation) (s : Situation) → same o s ≡ true → o ≡ Some s
  same_is None s e = absurd (no e)
    where
      no : false ≡ true → ⊥
      no e = cc
  same_is (Some t) s e =
      let b = and_parts (t.height == s.height) _ e in
      ap Some (equal t s (eqb-true t.height s.height b.0) (same_parts_is t.parts s.parts b.1))
    where
      equal : (t s : Situation) → t.height ≡ s.height → t.parts ≡ s.parts → t ≡ s
      equal t s h k = rw (← h, ← k) refl

  pub leads_to : (f : Func) (t : Places) (o : Option ℕ) (q : ℕ) (s : Situation) → uneven_faults f t o s ≡ [] → o ≡ Some q → known_at f t q ≡ Some s
  leads_to f t None q s e is = cc
  leads_to f t (Some r) q s e is =
      let rq : r ≡ q = cc in
      let e2 = subst (λ x. uneven_faults f t (Some x) s ≡ []) rq e in
      same_is (known_at f t q) s (not_false _ (when_not (not (same (known_at f t q) s)) _ q e2))

  -- what the situation at a place allows
  pub record Around (f : Func) (t : Places) (p : ℕ) (i : Instr) (e : Option Effect) (s : Situation) : Type 0 where
    pub room : pops c i e ≤ s.height
    pub border : is_border e ≡ true → s.height ≡ 0
    pub whole : is_torn e s ≡ false
    pub last : never_passed e ≡ false → p + 1 ≢ f.end
    pub next : (q : ℕ) → next_of f p e ≡ Some q → known_at f t q ≡ Some (onwards c i e s)
    pub target : (q : ℕ) → target_of f i e ≡ Some q → known_at f t q ≡ Some (passed c i e s)

  pub around : (f : Func) (t : Places) (p : ℕ) (i : Instr) (e : Option Effect) (s : Situation) → situation_faults c f t p i e s ≡ [] → Around f t p i e s
  around f t p i e s none =
      let b1 = nat_lt s.height (pops c i e) in
      let b2 = is_border e && not (s.height == 0) in
      let b3 = is_torn e s in
      let b4 = not (never_passed e) && (p + 1 == f.end) in
      let here = nil_left (faults_here c f p i e s) _ none in
      let ways = nil_right (faults_here c f p i e s) _ none in
      let r1 = nil_right (when b1 _ p) _ here in
      let r2 = nil_right (when b2 _ p) _ r1 in
      let r3 = nil_right (when b3 _ p) _ r2 in
      record {
        room = ltb-false s.height (pops c i e) (when_not b1 _ p (nil_left (when b1 _ p) _ here));
        border = λ y. zero_height (is_border e) y (when_not b2 _ p (nil_left (when b2 _ p) _ r1));
        whole = when_not b3 _ p (nil_left (when b3 _ p) _ r2);
        last = λ y. not_last (never_passed e) y (when_not b4 _ p r3);
        next = λ q y. leads_to f t (next_of f p e) q (onwards c i e s) (nil_left (uneven_faults f t (next_of f p e) (onwards c i e s)) _ ways) y;
        target = λ q y. leads_to f t (target_of f i e) q (passed c i e s) (nil_right (uneven_faults f t (next_of f p e) (onwards c i e s)) _ ways) y;
      }
    where
      zero_height : (b : Bool) → b ≡ true → (b && not (s.height == 0)) ≡ false → s.height ≡ 0
      zero_height true y h = eqb-true s.height 0 (not_false (s.height == 0) h)
      zero_height false y h = absurd (let no : false ≡ true = y in cc)

      not_last : (b : Bool) → b ≡ false → (not b && (p + 1 == f.end)) ≡ false → p + 1 ≢ f.end
      not_last false y h z = absurd (let no : true ≡ false = sym (eq-eqb (p + 1) f.end z) ∙ h in cc)
      not_last true y h z = absurd (let no : true ≡ false = y in cc)

  -- the ways on
  pub inside_is : (f : Func) (p : ℕ) → f.start ≤ p → p < f.end → inside f p ≡ true
  inside_is f p a b = rw (le-leb f.start p a, lt-ltb p f.end b) refl

  pub next_is : (f : Func) (p : ℕ) (e : Option Effect) → Inside f p → never_passed e ≡ false → p + 1 ≢ f.end → next_of f p e ≡ Some (p + 1)
  next_is f p e in_f n last = rw (n, inside_is f (p + 1) (omega (arith, in_f.from)) (omega (arith, in_f.to, last))) refl

  pub target_found : (f : Func) (i : Instr) (e : Option Effect) (q : ℕ) → jumps e ≡ true → i.a ≡ pos q → inside f q ≡ true → target_of f i e ≡ Some q
  target_found f i e q j a in_f = rw (j, a, in_f) refl
