-- What a call of `note` makes of a search, by what its callees say.
use Rattle.std.proofs.Common.{◌≡◌, ℕ, List, refl, ap, sym, ◌∙◌, Bool, true, false, Option, Some, None, subst}
use Rattle.std.specs.Prelude.{is_some}
use Rattle.std.specs.BTreeMap.{get, Updates}
use Rattle.std.specs.Ordering.{nat_cmp}
use Rattle.cw_tree.specs.declared.node.Node.{Node}
use Rattle.cw_race.specs.declared.race.Race.{Race}
use Rattle.cw_race.specs.declared.kept.Kept.{Kept}
use Rattle.cw_race.specs.declared.search.Search.{Search}
use Rattle.cw_race.specs.InMemory.{Group, group_cmp, kept_at, AreLeaves, rival_of, kept_after, IsNoted, known, finds, keeps}

pub no_value : {X : Type 0} (o : Option X) → is_some o ≡ false → o ≡ None
no_value None e = refl
no_value (Some x) e = absurd (cc e)

module _ (t : List Node) (g : Group) (v : ℕ) (writes : Bool) (old : Search) where
  pub noted_known : is_some (get nat_cmp old.found g.0) ≡ true → IsNoted t g v writes old old
  noted_known e =
      by (get nat_cmp old.found g.0) refl e where
        by : (o : Option Race) → get nat_cmp old.found g.0 ≡ o → is_some o ≡ true → IsNoted t g v writes old old
        by None q e = absurd (cc e)
        by (Some r) q e = known r q refl

  module _ (none : get nat_cmp old.found g.0 ≡ None) (kept : Kept) (kept_is : kept ≡ kept_at old.kept g) where
    pub leaves_kept : (get nat_cmp old.found g.0 ≡ None → AreLeaves t (kept_at old.kept g)) → AreLeaves t kept
    leaves_kept h = subst (AreLeaves t) (sym kept_is) (h none)

    module _ (rival : Option ℕ) (rival_is : rival ≡ rival_of t kept v writes) where
      told : rival_of t (kept_at old.kept g) v writes ≡ rival
      told = sym (rival_is ∙ ap (λ k. rival_of t k v writes) kept_is)

      pub noted_finds : (u : ℕ) → rival ≡ Some u → (new : Search) → new.kept ≡ old.kept → Updates nat_cmp old.found new.found g.0 (Some (record { cell = g.0; first = u; second = v })) → IsNoted t g v writes old new
      noted_finds u is new same up = finds u none (told ∙ is) same up

      pub noted_keeps : rival ≡ None → (after : Kept) → (rival ≡ None → after ≡ kept_after t kept v writes) → (new : Search) → new.found ≡ old.found
          → Updates group_cmp old.kept new.kept g (Some after) → IsNoted t g v writes old new
      noted_keeps is after after_is new same up =
          let P : Kept → Type 0 = λ k. Updates group_cmp old.kept new.kept g (Some k) in
          let now : after ≡ kept_after t (kept_at old.kept g) v writes = after_is is ∙ ap (λ k. kept_after t k v writes) kept_is in
          keeps none (told ∙ is) (subst P now up) same
