-- Each call leads the history on.
use Rattle.std.proofs.Common.{◌≡◌, ◌≢◌, ℕ, zero, suc, List, [], ◌∷◌, ◌++◌, length, map, set, sym, refl, ap, ◌∙◌, subst, ⊎_elim, arith}
use mathlib.Core.Option.{some, some-ne-none, some-injective}
use lib.ListN.{get_elem?}
use Rattle.std.proofs.lemmas.List.{length-set, length-append}
use Rattle.crossbeam_deque.specs.Tasks.{Pushes, Takes, Pops, Forks, Finds}
use Rattle.crossbeam_deque.proofs.Lists.{at_set, set_again}
use Rattle.cw_deck.specs.declared.deed.Deed.{Deed}
use Rattle.cw_deck.specs.declared.deed.Deed.TheVariants.{Pushed, Popped, Stolen}
use Rattle.cw_deck.specs.Deeds.{IsDone, IsHistory, deeds_of, HasHistory, MayHold}
use Rattle.cw_base.proofs.Ends.{snoc_at}
use Rattle.cw_deck.proofs.Deeds.Known.{in_range, mine, another's}

module _ {T : Type 0} where
  pub begins : HasHistory {T = T} [] ([] ∷ [])
  begins = ([], IsHistory.starts, record { each = each; others = λ end le. refl }) where
    each : (end : ℕ) (ds : List (Deed T)) → get_elem? ([] ∷ []) end ≡ some ds → ds ≡ deeds_of end []
    each zero ds e = sym (some-injective [] ds e)
    each (suc end) ds e = absurd (some-ne-none ds (sym e))

  leads_on : (end : ℕ) (ds : List (Deed T)) (d : Deed T) (old new : List T) (known : List (List (Deed T))) → IsDone d old new → HasHistory old known → get_elem? known end ≡ some ds
      → (after : List (Deed T)) × HasHistory new (set known end after) × (after ≡ ds ++ d ∷ [])
  leads_on end ds d old new known done k at = let after : List (Deed T) = ds ++ d ∷ [] in let h : List (ℕ × Deed T) = k.0 ++ (end, d) ∷ [] in (
    after,
    (
      h,
      IsHistory.goes_on end d k.1 done,
      record {
        each = λ j u e. ⊎_elim
            (λ (t : (j ≡ end) × (after ≡ u)). subst (λ (x : ℕ). u ≡ deeds_of x h) (sym t.0) (sym t.1 ∙ ap (λ l. l ++ d ∷ []) (k.2.each end ds at) ∙ sym (mine end d k.0)))
            (λ (t : (j ≢ end) × (get_elem? known j ≡ some u)). k.2.each j u t.1 ∙ sym (another's j end d k.0 (λ e'. t.0 (sym e'))))
            (at_set known end j after u e);
        others = λ j le. let inside = in_range known ds end at in let long = length-set known end after in
            another's j end d k.0 (λ e'. absurd (omega arith)) ∙ k.2.others j (omega arith);
      },
    ),
    refl,
  )

  pub pushes : (end : ℕ) (ds : List (Deed T)) (x : T) → Pushes HasHistory end ds (x ∷ []) (λ after. after ≡ ds ++ Pushed x ∷ [])
  pushes end ds x tasks known k at = leads_on end ds (Pushed x) tasks (tasks ++ x ∷ []) known refl k at

  pub pops : (end : ℕ) (ds : List (Deed T)) → Pops HasHistory end ds (λ xs after. after ≡ ds ++ map Popped xs)
  pops end ds x tasks known k at = leads_on end ds (Popped x) (tasks ++ x ∷ []) tasks known refl k at

  pub takes : (end : ℕ) (ds : List (Deed T)) → Takes HasHistory end ds 1 (λ xs after. after ≡ ds ++ map Stolen xs)
  takes end ds [] tasks known any few k at = absurd (omega arith)
  takes end ds (x ∷ []) tasks known any few k at = leads_on end ds (Stolen x) (x ∷ tasks) tasks known refl k at
  takes end ds (x ∷ y ∷ xs) tasks known any few k at = absurd (omega arith)

  pub forks : (end : ℕ) (ds : List (Deed T)) → Forks HasHistory end ds ds []
  forks end ds tasks known k at = subst (λ (all : List (List (Deed T))). HasHistory tasks (all ++ [] ∷ [])) (sym (set_again known end ds at)) (
    k.0,
    k.1,
    record {
      each = λ j u e. ⊎_elim (λ h. k.2.each j u h) (λ (h : (j ≡ length known) × ([] ≡ u)). sym h.1 ∙ sym (subst (λ (n : ℕ). deeds_of n k.0 ≡ []) (sym h.0) (k.2.others (length known) (omega arith)))) (snoc_at known [] u j e);
      others = λ j le. k.2.others j (let one : List (List (Deed T)) = [] ∷ [] in let r = length-append known one in omega arith);
    },
  )

  pub finds_none : (end : ℕ) (ds : List (Deed T)) → Finds HasHistory end ds (MayHold 0 ds)
  finds_none end ds known k at = (k.0, [], end, k.1, k.2.each end ds at, omega arith)
