-- What is expected at the places of a function by walking over them: what an instruction leaves is expected behind it.
use Rattle.std.proofs.Common.{◌≡◌, ℕ, suc, ◌+◌, ◌-◌, ◌<◌, ◌≤◌, ⊎_elim, Bool, true, false, List, [], Option, Some, None, pos, refl, sym, ap, ◌∙◌, subst, arith}
use Rattle.std.specs.Prelude.{slice_get, if◌then◌else◌}
use Rattle.std.proofs.lemmas.Bool.{cases_order, le-leb, lt-ltb}
use Rattle.cw_code.specs.declared.situation.Part.{Part}
use Rattle.cw_code.specs.declared.instruction.Instr.{Instr}
use Rattle.cw_code.specs.declared.instruction.Func.{Func}
use Rattle.cw_code.specs.declared.instruction.Code.{Code}
use Rattle.cw_code.specs.Table.{Effect}
use Rattle.cw_code.specs.Rules.{Situation, effect_of, pops, operand_faults, at_start, passed, onwards, jumps, never_passed, natural, if_inside, target_of, inside, is_target, is_border, is_torn}
use Rattle.cw_code.specs.Walked.{left_by, walked}
use Rattle.cw_code.proofs.Expected.{FitsAt, next_behind}

-- the situation with h operands and these parts
abbrev pub at : ℕ → List Part → Situation
at h ps = record { height = h; parts = ps }

module _ (c : Code) (f : Func) where
  abbrev pub expected : ℕ → Situation
  expected p = walked c f (p - f.start)

  pub at_first : expected f.start ≡ at_start
  at_first = let z : f.start - f.start ≡ 0 = omega arith in ap (walked c f) z

  pub expected_behind : (p : ℕ) (i : Instr) → f.start ≤ p → slice_get c.instrs p ≡ Some i → expected (p + 1) ≡ onwards c i (effect_of i) (expected p)
  expected_behind p i le is =
      let n = p - f.start in
      let more : p + 1 - f.start ≡ suc n = omega arith in
      let back : f.start + n ≡ p = omega arith in
      ap (walked c f) more ∙ ap (λ q. left_by c (slice_get c.instrs q) (walked c f n)) back ∙ ap (λ o. left_by c o (walked c f n)) is

  -- The instructions from one place up to another fit, and behind them this is expected.
  pub record Walks (p q : ℕ) (t : Situation) : Type 0 where
    pub fits : (r : ℕ) → p ≤ r → r < q → FitsAt c f expected r
    pub ends : expected q ≡ t

  pub further : (p q r : ℕ) (t u : Situation) → Walks p q t → (expected q ≡ t → Walks q r u) → Walks p r u
  further p q r t u a b =
      let w = b a.ends in
      record {
        fits = λ x from to. ⊎_elim (λ same. w.fits x (omega arith) to) (λ o. ⊎_elim (λ lt. a.fits x from lt) (λ gt. w.fits x (omega arith) to) o) (cases_order x q);
        ends = w.ends;
      }

  pub nothing : (p : ℕ) (s : Situation) → expected p ≡ s → Walks p p s
  nothing p s is = record { fits = λ r from to. absurd (omega arith); ends = is }

  -- an instruction may stand where so much is there
  pub record MayStand (p : ℕ) (i : Instr) (e : Option Effect) (s : Situation) : Type 0 where
    pub operands : operand_faults c f p i e ≡ []
    pub room : pops c i e ≤ s.height
    pub border : is_border e ≡ true → s.height ≡ 0
    pub whole : is_torn e s ≡ false
    pub last : never_passed e ≡ false → p + 1 < f.end
    pub target : (q : ℕ) → target_of f i e ≡ Some q → expected q ≡ passed c i e s

  pub one : (p : ℕ) (i : Instr) (e : Option Effect) (s t : Situation) → effect_of i ≡ e → f.start ≤ p → slice_get c.instrs p ≡ Some i → expected p ≡ s → onwards c i e s ≡ t → MayStand p i e s → Walks p (p + 1) t
  one p i e s t does le is here leaves may =
      let left : expected (p + 1) ≡ onwards c i (effect_of i) (expected p) = expected_behind p i le is in
      let m = subst (λ x. MayStand p i (effect_of i) x) (sym here) (subst (λ x. MayStand p i x s) (sym does) may) in
      let at_p : FitsAt c f expected p = record {
        instr = i;
        stands = is;
        fits = record {
          operands = m.operands;
          room = m.room;
          border = m.border;
          whole = m.whole;
          last = m.last;
          next = λ q w. ap expected (next_behind c f p (effect_of i) q w) ∙ left;
          target = m.target;
        };
      } in
      record {
        fits = λ r from to. let same : p ≡ r = omega arith in subst (FitsAt c f expected) same at_p;
        ends = left ∙ ap (λ x. onwards c i x (expected p)) does ∙ ap (onwards c i e) here ∙ leaves;
      }

  -- no way leads anywhere but behind it
  pub no_target : (i : Instr) (e : Option Effect) (p : ℕ) (s : Situation) → jumps e ≡ false → (q : ℕ) → target_of f i e ≡ Some q → expected q ≡ passed c i e s
  no_target i e p s never q is = absurd (by (jumps e) never is)
    where
      by : (b : Bool) → b ≡ false → (if b then if_inside f (natural i.a) else None) ≡ Some q → ⊥
      by true n h = cc
      by false n h = cc

  -- a jump leads to the place that it names
  pub named_target : (i : Instr) (e : Option Effect) (q r : ℕ) → i.a ≡ pos q → target_of f i e ≡ Some r → q ≡ r
  named_target i e q r a is = by (jumps e) (subst (λ z. (if jumps e then if_inside f (natural z) else None) ≡ Some r) a is)
    where
      found : (b : Bool) → (if b then Some q else None) ≡ Some r → q ≡ r
      found true h = cc
      found false h = cc

      by : (b : Bool) → (if b then if_inside f (Some q) else None) ≡ Some r → q ≡ r
      by true h = found (inside f q) h
      by false h = cc

  -- a place of the function further on may be named
  pub further_on : (p q : ℕ) → f.start ≤ p → p < q → q < f.end → is_target c f p (pos q) ≡ true
  further_on p q from lt to = rw (le-leb f.start q (omega arith), lt-ltb q f.end to, lt-ltb p q lt) refl

  -- an instruction that neither begins nor ends anything nor leads elsewhere, and what it leaves
  pub simply : (p : ℕ) (i : Instr) (e : Option Effect) (h : ℕ) (ps : List Part) (left : ℕ) → effect_of i ≡ e → f.start ≤ p → slice_get c.instrs p ≡ Some i → expected p ≡ at h ps → onwards c i e (at h ps) ≡ at left ps → operand_faults c f p i e ≡ [] → pops c i e ≤ h → is_border e ≡ false → is_torn e (at h ps) ≡ false → jumps e ≡ false → p + 1 < f.end → Walks p (p + 1) (at left ps)
  simply p i e h ps left does le is here leaves operands room border whole jump lt = one p i e (at h ps) (at left ps) does le is here leaves (record {
    operands = operands;
    room = room;
    border = λ is. absurd (let never : false ≡ true = sym border ∙ is in cc);
    whole = whole;
    last = λ is. lt;
    target = no_target i e p (at h ps) jump;
  })
