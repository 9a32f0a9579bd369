-- Victims of the conflicts of a token's logs, log by log and block by block.
use Rattle.std.proofs.Common.{inl, inr, ◌≡◌, ℕ, List, [], ◌∷◌, ◌++◌, zero, suc, arith, subst, sym, ◌∙◌}
use Rattle.std.specs.Prelude.{◌⊎◌, All, Contains, MatchOption, MatchBool, Option, Some, None, Bool, true, false}
use Rattle.std.proofs.lemmas.List.Elements.{All-append, Contains-append_left, Contains-append_right}
use Rattle.cw_tree.specs.declared.conflict.Conflict.{Conflict}
use Rattle.cw_log.specs.declared.log.Log.{Log}
use Rattle.cw_log.specs.Tokens.{conflicts_in}
use Rattle.tests_log.specs.Kept.{HasVictim, HasNoVictim}

-- some conflict of a log of the list
pub one_in : (front : List Log) (l : Log) (back : List Log) (c : Conflict) → Contains l.conflicts c → Contains (conflicts_in (front ++ l ∷ back)) c
one_in [] l back c h = Contains-append_left l.conflicts (conflicts_in back) c h
one_in (x ∷ xs) l back c h = Contains-append_right x.conflicts (conflicts_in (xs ++ l ∷ back)) c (one_in xs l back c h)

-- what is left of a stack after an element was taken was in it before
pub still_in : (old new : List ℕ) (taken : Option ℕ) → MatchOption taken ((old ≡ []) × (new ≡ [])) (λ x. old ≡ x ∷ new) → (b : ℕ) → Contains new b → Contains old b
still_in old new None (e, f) b h = subst (λ bs. Contains bs b) (f ∙ sym e) h
still_in old new (Some x) e b (k, r, q) = subst (λ bs. Contains bs b) (sym e) (suc k, omega arith, q)

-- and what was in it is left, or has what the element has
pub rest_or : (P : ℕ → Type 0) (x : ℕ) (old new : List ℕ) → old ≡ x ∷ new → P x → (b : ℕ) → Contains old b ⊎ P b → Contains new b ⊎ P b
rest_or P x old new e p b (inr q) = inr q
rest_or P x old new e p b (inl h) = by (subst (λ bs. Contains bs b) e h) where
  by : Contains (x ∷ new) b → Contains new b ⊎ P b
  by (zero, r, q) = inr (subst P q p)
  by (suc k, r, q) = inl (k, omega arith, q)

pub none_in : (b : ℕ) → Contains [] b → ⊥
none_in b (k, r, q) = absurd (omega arith)

-- conflicts before which there are others that spare a block
pub with_more : (own rest : List Conflict) (b : ℕ) (r : Bool) → HasNoVictim own b → MatchBool r (HasVictim rest b) (HasNoVictim rest b) → MatchBool r (HasVictim (own ++ rest) b) (HasNoVictim (own ++ rest) b)
with_more own rest b true none (c, h, v) = (c, Contains-append_right own rest c h, v)
with_more own rest b false none more = All-append (λ c. c.victim ≡ b → ⊥) own rest none more
