-- What was pushed is what was taken and what is left.
use Rattle.std.proofs.Common.{◌≡◌, ℕ, List, [], ◌∷◌, ◌++◌, ◌+◌, map, sym, refl, ap, ◌∙◌, subst}
use Rattle.std.specs.List.Sorted.{IsPermutation}
use Rattle.std.proofs.lemmas.List.{append-nil, append_assoc, map-append}
use Rattle.std.proofs.lemmas.List.Sorted.{IsPermutation-refl, IsPermutation-trans, IsPermutation-append_comm, IsPermutation-append_left, IsPermutation-append_right}
use Rattle.cw_deck.specs.declared.deed.Deed.{Deed}
use Rattle.cw_deck.specs.declared.deed.Deed.TheVariants.{Pushed, Popped, Stolen}
use Rattle.cw_deck.specs.Deeds.{IsDone, IsHistory, tasks_of, pushed_by, taken_by, IsBalanced, NoTaskIsLost}

module _ {T : Type 0} where
  with_one : (f : Deed T → List T) (ds : List (Deed T)) (d : Deed T) → tasks_of f (ds ++ d ∷ []) ≡ tasks_of f ds ++ f d
  with_one f [] d = append-nil (f d)
  with_one f (x ∷ xs) d = ap (λ ys. f x ++ ys) (with_one f xs d) ∙ sym (append_assoc (f x) (tasks_of f xs) (f d))

  along : {xs xs' ys ys' : List T} → xs ≡ xs' → ys ≡ ys' → IsPermutation xs ys → IsPermutation xs' ys'
  along {xs = xs} {ys' = ys'} e e' p = subst (λ zs. IsPermutation zs ys') e (subst (λ zs. IsPermutation xs zs) e' p)

  step : (pushed taken old new : List T) (d : Deed T) → IsDone d old new
      → IsPermutation pushed (taken ++ old) → IsPermutation (pushed ++ pushed_by d) ((taken ++ taken_by d) ++ new)
  step pushed taken old new (Pushed x) done p =
      along refl (append_assoc taken old (x ∷ []) ∙ ap (λ zs. taken ++ zs) (sym done) ∙ ap (λ zs. zs ++ new) (sym (append-nil taken)))
      (IsPermutation-append_left (x ∷ []) pushed (taken ++ old) p)
  step pushed taken old new (Popped x) done p =
      along (sym (append-nil pushed)) (sym (append_assoc taken (x ∷ []) new))
      (IsPermutation-trans pushed (taken ++ old) (taken ++ (x ∷ new)) p
      (IsPermutation-append_right taken old (x ∷ new) (along (sym done) refl (IsPermutation-append_comm new (x ∷ [])))))
  step pushed taken old new (Stolen x) done p =
      along (sym (append-nil pushed)) (ap (λ zs. taken ++ zs) done ∙ sym (append_assoc taken (x ∷ []) new)) p

  abbrev all : List (ℕ × Deed T) → List (Deed T)
  all h = map (λ e. e.1) h

  balanced : {h : List (ℕ × Deed T)} {tasks : List T} → IsHistory h tasks → IsBalanced (all h) tasks
  balanced IsHistory.starts = IsPermutation-refl []
  balanced (IsHistory.goes_on {h = h} {old = old} {new = new} end d k done) =
      let more = map-append (λ (e : ℕ × Deed T). e.1) h ((end, d) ∷ []) in
      along (sym (ap (tasks_of pushed_by) more ∙ with_one pushed_by (all h) d)) (ap (λ zs. zs ++ new) (sym (ap (tasks_of taken_by) more ∙ with_one taken_by (all h) d)))
      (step (tasks_of pushed_by (all h)) (tasks_of taken_by (all h)) old new d done (balanced k))

  pub no_task_is_lost : NoTaskIsLost T
  no_task_is_lost h tasks k = balanced k
