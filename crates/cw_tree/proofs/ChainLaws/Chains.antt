-- What a chain gives: its parts, its earlier and later accesses, and the accesses beneath a pending block.
use Rattle.std.proofs.Common.{◌≡◌, ℕ, ◌<◌, List, [], ◌∷◌, ◌++◌, length, map, refl, ap, sym, ◌∙◌, Bool, true, false, cond, inl, inr, subst}
use Rattle.std.specs.Prelude.{not, filter, All}
use Rattle.std.proofs.lemmas.Bool.{cases_Bool}
use Rattle.std.proofs.lemmas.List.{map-id}
use Rattle.std.proofs.lemmas.List.Elements.{All-head, All-tail}
use Rattle.cw_tree.specs.declared.node.Node.{Node}
use Rattle.cw_tree.specs.Nodes.{is_pending}
use Rattle.cw_tree.specs.Walks.{IsRooted, is_above, nua}
use Rattle.cw_tree.specs.Accesses.{lets_follow, IsChain}
use Rattle.cw_tree.specs.AccessStacks.{AreThere}
use Rattle.cw_tree.specs.ChainLaws.{EachFollows, SomeAreChains, PartsAreChains, BeneathIsEnd}
use Rattle.cw_tree.proofs.Lists.{In}
use Rattle.cw_tree.proofs.ChainLaws.Nearest.{Passes, follows_passes, passes_follows}
use Rattle.cw_tree.proofs.Members.{all_at, all_of, map_in}

pub there_in : (k : ℕ) (us : List ℕ) → All (λ u. u < k) us → (u : ℕ) → In u us → u < k
there_in k us h u i = all_at (λ u. u < k) us h u i

pub there_from : (k : ℕ) (us : List ℕ) → ((u : ℕ) → In u us → u < k) → All (λ u. u < k) us
there_from k us h = all_of (λ u. u < k) us h

-- a chain of one tree is one of another where those follow that followed
pub chain_kept : (t u : List Node) (us : List ℕ)
    → ((x y : ℕ) → In x us → In y us → lets_follow t (nua t x) (nua t y) ≡ true → lets_follow u (nua u x) (nua u y) ≡ true)
    → IsChain t us → IsChain u us
chain_kept t u [] f c = tt
chain_kept t u (x ∷ []) f c = tt
chain_kept t u (x ∷ y ∷ us) f c = (f x y (inl refl) (inr (inl refl)) c.0, chain_kept t u (y ∷ us) (λ a b i j. f a b (inr i) (inr j)) c.1)

named_in : (f : ℕ → ℕ) (p : ℕ → Bool) (v : ℕ) (xs : List ℕ) → In v (map f (filter p xs)) → In v (map f xs)
named_in f p v [] i = i
named_in f p v (x ∷ xs) i = by_case (p x) i (named_in f p v xs) where
  by_case : (b : Bool) → In v (map f (cond b (x ∷ filter p xs) (filter p xs))) → (In v (map f (filter p xs)) → In v (map f xs)) → In v (f x ∷ map f xs)
  by_case true (inl e) more = inl e
  by_case true (inr j) more = inr (more j)
  by_case false j more = inr (more j)

named_there : (k : ℕ) (f : ℕ → ℕ) (p : ℕ → Bool) (xs : List ℕ) → All (λ u. u < k) (map f xs) → All (λ u. u < k) (map f (filter p xs))
named_there k f p xs h = there_from k (map f (filter p xs)) (λ v i. there_in k (map f xs) h v (named_in f p v xs i))

pub parts_are_chains : PartsAreChains
parts_are_chains t [] vs c = (tt, c)
parts_are_chains t (x ∷ []) [] c = (tt, tt)
parts_are_chains t (x ∷ []) (v ∷ vs) c = (tt, c.1)
parts_are_chains t (x ∷ y ∷ us) vs c = let more = parts_are_chains t (y ∷ us) vs c.1 in ((c.0, more.0), more.1)

module _ (t : List Node) (r : IsRooted t) where
  -- the first of a chain lets each of the others follow
  pub first_passes : (u : ℕ) (us : List ℕ) → AreThere t (u ∷ us) → IsChain t (u ∷ us) → (v : ℕ) → In v us → Passes t r u v
  first_passes u [] h c v i b pending over = absurd i
  first_passes u (x ∷ us) h c v i b pending over =
      let rest : AreThere t (x ∷ us) = All-tail (λ n. n < length t) u (x ∷ us) h in
      let next : is_above t b x ≡ true = follows_passes t r u x (All-head (λ n. n < length t) u (x ∷ us) h) (All-head (λ n. n < length t) x us rest) c.0 b pending over in
      elim i [ inl e ↦ ap (is_above t b) e ∙ next | inr j ↦ first_passes x us rest c.1 v j b pending next ]

  -- a chain of the accesses behind u, where u passes to each of them
  pub chain_onto : (u : ℕ) (us : List ℕ) → u < length t → AreThere t us → ((v : ℕ) → In v us → Passes t r u v) → IsChain t us → IsChain t (u ∷ us)
  chain_onto u [] hu h f c = tt
  chain_onto u (x ∷ us) hu h f c = (passes_follows t r u x hu (All-head (λ n. n < length t) x us h) (f x (inl refl)), c)

kept_onto : (t : List Node) (f : ℕ → ℕ) (b : Bool) (x : ℕ) (xs : List ℕ) → IsChain t (map f xs) → IsChain t (f x ∷ map f xs) → IsChain t (map f (cond b (x ∷ xs) xs))
kept_onto t f true x xs more onto = onto
kept_onto t f false x xs more onto = more

-- accesses that f names stay a chain if some are taken out
pub some_named : (t : List Node) → IsRooted t → (f : ℕ → ℕ) (p : ℕ → Bool) (xs : List ℕ) → AreThere t (map f xs) → IsChain t (map f xs) → IsChain t (map f (filter p xs))
some_named t r f p [] h c = tt
some_named t r f p (x ∷ xs) h c =
    let there : ℕ → Type 0 = λ n. n < length t in
    let rest : AreThere t (map f xs) = All-tail there (f x) (map f xs) h in
    let more = some_named t r f p xs rest (parts_are_chains t (f x ∷ []) (map f xs) c).1 in
    kept_onto t f (p x) x (filter p xs) more
    (chain_onto t r (f x) (map f (filter p xs)) (All-head there (f x) (map f xs) h) (named_there (length t) f p xs rest)
    (λ v i. first_passes t r (f x) (map f xs) h c v (named_in f p v xs i)) more)

pub some_are_chains : SomeAreChains
some_are_chains t p us r h c =
    let P : List ℕ → Type 0 = λ xs. AreThere t xs in
    let Q : List ℕ → Type 0 = λ xs. IsChain t xs in
    subst Q (map-id (filter p us)) (some_named t r (λ u. u) p us (subst P (sym (map-id us)) h) (subst Q (sym (map-id us)) c))

in_end : (v : ℕ) (xs ys : List ℕ) → In v (xs ++ v ∷ ys)
in_end v [] ys = inl refl
in_end v (x ∷ xs) ys = inr (in_end v xs ys)

pub each_follows : EachFollows
each_follows t [] vs ws u v r h c =
    passes_follows t r u v (All-head (λ n. n < length t) u (vs ++ v ∷ ws) h) (there_in (length t) (vs ++ v ∷ ws) (All-tail (λ n. n < length t) u (vs ++ v ∷ ws) h) v (in_end v vs ws))
    (first_passes t r u (vs ++ v ∷ ws) h c v (in_end v vs ws))
each_follows t (x ∷ us) vs ws u v r h c =
    each_follows t us vs ws u v r (All-tail (λ n. n < length t) x (us ++ u ∷ vs ++ v ∷ ws) h) (parts_are_chains t (x ∷ []) (us ++ u ∷ vs ++ v ∷ ws) c).1

-- ## Beneath a pending block

all_pass : (p : ℕ → Bool) (xs : List ℕ) → ((v : ℕ) → In v xs → p v ≡ true) → (filter p xs ≡ xs) × (filter (λ u. not (p u)) xs ≡ [])
all_pass p [] f = (refl, refl)
all_pass p (x ∷ xs) f =
    let more = all_pass p xs (λ v i. f v (inr i)) in
    let here = f x (inl refl) in (
      ap (λ b. cond b (x ∷ filter p xs) (filter p xs)) here ∙ ap (λ ys. x ∷ ys) more.0,
      ap (λ b. cond (not b) (x ∷ filter (λ u. not (p u)) xs) (filter (λ u. not (p u)) xs)) here ∙ more.1,
    )

-- among accesses that f names, those beneath a pending block come last
pub beneath_named : (t : List Node) → IsRooted t → (b : ℕ) → is_pending t b ≡ true → (f : ℕ → ℕ) (xs : List ℕ) → AreThere t (map f xs) → IsChain t (map f xs)
    → xs ≡ filter (λ x. not (is_above t b (f x))) xs ++ filter (λ x. is_above t b (f x)) xs
beneath_named t r b pending f [] h c = refl
beneath_named t r b pending f (x ∷ xs) h c =
    let test : ℕ → Bool = λ y. is_above t b (f y) in
    let more = beneath_named t r b pending f xs (All-tail (λ n. n < length t) (f x) (map f xs) h) (parts_are_chains t (f x ∷ []) (map f xs) c).1 in
    elim (cases_Bool (test x)) [
      | inl e ↦
          (let all = all_pass test (x ∷ xs) (λ v i. elim i [ inl q ↦ ap test q ∙ e | inr j ↦ first_passes t r (f x) (map f xs) h c (f v) (map_in f v xs j) b pending e ]) in
          sym (ap (λ ys. ys ++ filter test (x ∷ xs)) all.1 ∙ all.0))
      | inr e ↦
          ap (λ ys. x ∷ ys) more
          ∙ sym (ap (λ q. cond (not q) (x ∷ filter (λ y. not (test y)) xs) (filter (λ y. not (test y)) xs) ++ cond q (x ∷ filter test xs) (filter test xs)) e)
    ]

pub beneath_is_end : BeneathIsEnd
beneath_is_end t b us r h pending c =
    let P : List ℕ → Type 0 = λ xs. AreThere t xs in
    let Q : List ℕ → Type 0 = λ xs. IsChain t xs in
    beneath_named t r b pending (λ u. u) us (subst P (sym (map-id us)) h) (subst Q (sym (map-id us)) c)
