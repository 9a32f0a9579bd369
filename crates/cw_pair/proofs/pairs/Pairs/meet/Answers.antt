use Rattle.std.proofs.Common.{rules, ◌≡◌, ◌∙◌, ap, sym, subst}
use Rattle.cw_pair.specs.declared.view.Binding.{Binding}
use Rattle.cw_pair.specs.Numbers.{Has}
use Rattle.cw_pair.proofs.Kept.{joins, looks, met}
use Rattle.cw_pair.proofs.pairs.Pairs.meet.Goals as goal

pub join_seat-requires : goal.join_seat-requires
join_seat-requires g c = (search rules, search rules, search rules, search rules, joins _ _ _ _)

pub load-requires : goal.load-requires
load-requires g c = (search rules, search rules, looks _ _ _)

pub returns : goal.returns
returns g c =
    let same = met _ _ _ _ c.mine.invariant.2 c.other.invariant.2 (search rules)
    (subst (λ me. (x y : Binding _) → Has me.0.bindings x → Has me.0.bindings y → x.number ≡ y.number → x.of ≡ y.of) c.join_seat.ensures.2 c.load.ensures.2.1) in
    ap (λ (n : Binding _). n.of) (sym c.mine.view_is) ∙ same ∙ ap (λ (n : Binding _). n.of) c.other.view_is
