-- A strand that stands has what its next instruction needs.
use Rattle.std.proofs.Common.{◌≡◌, ℕ, ◌+◌, ◌<◌, ◌≤◌, ◌^◌, true, [], length, Some, None, refl, sym, ap, ◌∙◌, subst, arith, ℤ, pos, negsuc, nat_lt}
use Rattle.std.specs.Prelude.{slice_get, nat_le}
use Rattle.std.proofs.lemmas.Bool.{leb-true, and_parts}
use Rattle.std.proofs.lemmas.Option.{slice_get_within}
use Rattle.cw_code.specs.declared.instruction.Instr.{Instr}
use Rattle.cw_code.specs.declared.instruction.Func.{Func}
use Rattle.cw_code.specs.declared.instruction.Code.{Code}
use Rattle.cw_code.specs.declared.effects.Effect.{Effect}
use Rattle.cw_code.specs.declared.effects.Effect.TheVariants as t
use Rattle.cw_code.specs.Rules.{is_number_below, cells_below, called, effect_of, faults, params_of}
use Rattle.cw_code.proofs.Sound.{below_names, contained, laid, tested}
use Rattle.cw_strand.specs.Coded.{State, index}
use Rattle.cw_strand.specs.Standing.{NoneOver, StandsIn}
use Rattle.cw_strand.specs.Acting.{Needs, HasArguments}
use Rattle.cw_strand.proofs.Standing.{Here, locals_here, next}
use Rattle.cw_strand.proofs.Elements.{cell_below}

array_below : (a : ℤ) (len cells : ℕ) → cells_below a len cells ≡ true → index a + len ≤ cells
array_below (pos m) len cells e = leb-true (m + len) cells (and_parts (nat_lt m cells) (nat_le (m + len) cells) e).1
array_below (negsuc m) len cells e = absurd cc

module _ (code : Code) (ok : faults code ≡ []) where
  takes : (i : Instr) (s : State) (f : Func) → slice_get code.funcs (index i.a) ≡ Some f → is_number_below i.a (length code.funcs) ≡ true → called code i.a ≤ length s.current.operands → HasArguments f s
  takes i s f is named room =
      let n = below_names i.a (length code.funcs) named in
      let at : slice_get code.funcs n.0 ≡ Some f = subst (λ z. slice_get code.funcs (index z) ≡ Some f) n.1 is in
      let count : called code i.a ≡ f.params = ap (called code) n.1 ∙ ap params_of at in
      record { room = omega (arith, room, count); fits = (laid code ok f (contained code.funcs n.0 f at)).locals }

  needs : (cells : code.cells < 2 ^ 32) (i : Instr) (e : Effect) (s : State) → NoneOver s.size s.scopes → Here code ok s.current.place (length s.current.locals) (length s.current.operands) i e → Needs code e i s
  needs cells i t.Local s low w = subst (λ n. index i.a < n) (locals_here code ok w refl) (cell_below i.a w.at.func.locals (tested _ _ _ w.operands))
  needs cells i t.Set s low w = (subst (λ n. index i.a < n) (locals_here code ok w refl) (cell_below i.a w.at.func.locals (tested _ _ _ w.operands)), omega (arith, w.room))
  needs cells i t.Load s low w = omega (arith, cells, cell_below i.a code.cells (tested _ _ _ w.operands))
  needs cells i t.LoadAt s low w = (omega (arith, cells, array_below i.a i.b code.cells (tested _ _ _ w.operands)), omega (arith, w.room))
  needs cells i t.Store s low w = (omega (arith, cells, cell_below i.a code.cells (tested _ _ _ w.operands)), omega (arith, w.room))
  needs cells i t.StoreAt s low w = (omega (arith, cells, array_below i.a i.b code.cells (tested _ _ _ w.operands)), omega (arith, w.room))
  needs cells i (t.Lift o) s low w = omega (arith, w.room)
  needs cells i (t.Join o) s low w = omega (arith, w.room)
  needs cells i t.JumpZero s low w = omega (arith, w.room)
  needs cells i t.Call s low w =
      let named : is_number_below i.a (length code.funcs) ≡ true = tested _ _ _ w.operands in
      (cell_below i.a (length code.funcs) named, λ f is. takes i s f is named w.room)
  needs cells i t.Ret s low w = omega (arith, w.room)
  needs cells i t.Drop s low w = omega (arith, w.room)
  needs cells i t.Out s low w = omega (arith, w.room)
  needs cells i t.Push s low w = tt
  needs cells i t.Jump s low w = tt
  needs cells i t.Begin s low w = tt
  needs cells i t.End s low w = tt
  needs cells i t.Fork s low w = low
  needs cells i t.Sync s low w = tt
  needs cells i t.Done s low w = tt
  needs cells i t.Tick s low w = tt
  needs cells i t.Cancel s low w = tt

  module _ (s : State) (f : StandsIn code s) where
    -- an instruction stands at the place
    pub within : s.current.place < length code.instrs
    within = let n = next code ok s f in slice_get_within code.instrs s.current.place n.instr n.here.is

    module _ (i : Instr) (is : slice_get code.instrs s.current.place ≡ Some i) where
      one_instr : (next code ok s f).instr ≡ i
      one_instr = let e = sym (next code ok s f).here.is ∙ is in cc

      -- the instruction does something
      pub has_one : effect_of i ≡ None → ⊥
      has_one none = let n = next code ok s f in let e = sym n.does ∙ ap effect_of one_instr ∙ none in cc

      -- and what it needs is there
      pub needed : code.cells < 2 ^ 32 → (e : Effect) → effect_of i ≡ Some e → Needs code e i s
      needed cells e does =
          let n = next code ok s f in
          let same : n.effect ≡ e = let both = sym n.does ∙ ap effect_of one_instr ∙ does in cc in
          subst (λ j. Needs code e j s) one_instr (subst (λ x. Needs code x n.instr s) same (needs cells n.instr n.effect s f.scopes n.here))
