use Rattle.std.proofs.Common.{◌≡◌, length, subst, sym, ◌∙◌}
use Rattle.std.proofs.lemmas.Bool.Decides.{Decides-eqb}
use Rattle.cw_order.proofs.Keeping.{kept_length}
use Rattle.cw_order.proofs.list.OrderList.is_full.Goals as goal

pub returns : goal.returns
returns c =
    let same = Decides-eqb c.self.inside.count c.room.result in (
      λ t. subst (λ o. length o.elements ≡ o.room) c.self.view_is (kept_length c.self.inside ∙ same.0 t ∙ c.room.ensures),
      λ e. same.1 (sym (kept_length c.self.inside) ∙ subst (λ o. length o.elements ≡ o.room) (sym c.self.view_is) e ∙ sym c.room.ensures),
    )
