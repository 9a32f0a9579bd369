-- Names that were declared one after another: what each stands for, where one more is declared and where one gets another value.
use Rattle.std.proofs.Common.{◌≡◌, ℕ, suc, ◌-◌, ◌<◌, List, [], ◌∷◌, length, drop, map, Bool, true, false, cond, Option, Some, None, IsSome, refl, ap, sym, ◌∙◌, subst, arith}
use Rattle.std.specs.Option.{option_map}
use Rattle.std.specs.Str.{bytes_eq}
use Rattle.std.proofs.lemmas.Slice.Eq.{bytes_eq-Decides}
use Rattle.cw_strand.specs.Names.{find}
use Rattle.cw_compile.specs.declared.locals.Hidden.{Hidden}
use Rattle.cw_compile.specs.declared.naming.scope.Thing.{Thing}
use Rattle.cw_compile.specs.NamingRules.Scopes.{thing_of}
use Rattle.cw_compile.specs.Named.{named, before_declared, with_name, list_of, Fits}

same_name : (n m : List ℕ) → bytes_eq n m ≡ true → n ≡ m
same_name n m e = (bytes_eq-Decides n m).0 e

own_name : (n : List ℕ) → bytes_eq n n ≡ true
own_name n = (bytes_eq-Decides n n).1 refl

abbrev Meanings : Type 0 → Type 0
Meanings V = List ℕ → Option V

-- what names stand for, after one was set
abbrev IsSet : {V : Type 0} → List ℕ → Option V → Meanings V → Meanings V → Type 0
IsSet x o f g = (n : List ℕ) → g n ≡ cond (bytes_eq n x) o (f n)

module _ {V : Type 0} where
  -- ## Names that stand for the same

  pub fits_same : (hs : List (Hidden V)) (f g : Meanings V) → ((n : List ℕ) → f n ≡ g n) → Fits hs f → Fits hs g
  fits_same [] f g same fits = λ n. sym (same n) ∙ fits n
  fits_same (h ∷ hs) f g same fits = (
    subst IsSome (same h.name.now) fits.0,
    fits_same hs (before_declared h f) (before_declared h g) (λ n. ap (cond (bytes_eq n h.name.now) h.value) (same n)) fits.1,
  )

  -- ## One more name

  hidden_again : (b : Bool) (n x : List ℕ) (o p : Option V) (f : Meanings V) → bytes_eq n x ≡ b → o ≡ f x → cond b o (cond b p (f n)) ≡ f n
  hidden_again true n x o p f e is = is ∙ ap f (sym (same_name n x e))
  hidden_again false n x o p f e is = refl

  module _ (hs : List (Hidden V)) (h : Hidden V) (v : V) (f g : Meanings V) (hides : h.value ≡ f h.name.now) (sets : IsSet h.name.now (Some v) f g) where
    before_is : (n : List ℕ) → before_declared h g n ≡ f n
    before_is n = rw (sets n) (hidden_again (bytes_eq n h.name.now) n h.name.now h.value (Some v) f refl hides)

    new_is : g h.name.now ≡ Some v
    new_is = sets h.name.now ∙ rw (own_name h.name.now) refl

    pub fits_more : Fits hs f → Fits (h ∷ hs) g
    fits_more fits = (rw new_is refl, fits_same hs f (before_declared h g) (λ n. sym (before_is n)) fits)

  -- ## Fewer names

  -- if there are more than k, one fewer leaves the same
  pub drop_next : (xs : List (List ℕ × V)) (k : ℕ) → k < length xs → drop (length (drop 1 xs) - k) (drop 1 xs) ≡ drop (length xs - k) xs
  drop_next [] k more = absurd (omega arith)
  drop_next (x ∷ xs) k more = let one : suc (length xs) - k ≡ suc (length xs - k) = omega arith in rw one refl

  -- ## What is found

  one_longer : (n : List ℕ) (o : Option V) (xs : List (List ℕ × V)) (k : ℕ) → IsSome o → length xs ≡ k → length (with_name n o xs) ≡ suc k
  one_longer n None xs k some is = absurd cc
  one_longer n (Some v) xs k some is = ap suc is

  pub length-list_of : (hs : List (Hidden V)) (f : Meanings V) → Fits hs f → length (list_of hs f) ≡ length hs
  length-list_of [] f fits = refl
  length-list_of (h ∷ hs) f fits = one_longer h.name.now (f h.name.now) (list_of hs (before_declared h f)) (length hs) fits.0 (length-list_of hs (before_declared h f) fits.1)

  -- the newest stands for what it stands for
  newest_found : (b : Bool) (n x : List ℕ) (o p : Option V) (xs : List (List ℕ × V)) (f : Meanings V) → bytes_eq n x ≡ b → IsSome o → f x ≡ o → named xs n ≡ cond b p (f n) → named (with_name x o xs) n ≡ f n
  newest_found b n x None p xs f e some is rest = absurd cc
  newest_found true n x (Some v) p xs f e some is rest = rw e (sym is ∙ ap f (sym (same_name n x e)))
  newest_found false n x (Some v) p xs f e some is rest = rw e rest

  pub named-list_of : (hs : List (Hidden V)) (f : Meanings V) → Fits hs f → (n : List ℕ) → named (list_of hs f) n ≡ f n
  named-list_of [] f fits n = sym (fits n)
  named-list_of (h ∷ hs) f fits n = newest_found (bytes_eq n h.name.now) n h.name.now (f h.name.now) h.value (list_of hs (before_declared h f)) f refl fits.0 refl (named-list_of hs (before_declared h f) fits.1 n)

-- ## The same in the words of the naming rules

pub find-named : (ls : List (List ℕ × Thing)) (n : List ℕ) → find n (map (λ x. (x.0, thing_of x.1)) ls) ≡ option_map thing_of (named ls n)
find-named [] n = refl
find-named (x ∷ xs) n = rw (find-named xs n) (first_or (bytes_eq n x.0)) where
  first_or : (b : Bool) → cond b (Some (thing_of x.1)) (option_map thing_of (named xs n)) ≡ option_map thing_of (cond b (Some x.1) (named xs n))
  first_or true = refl
  first_or false = refl
