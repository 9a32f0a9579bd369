-- Bytes that come from a source one piece after another.
use Rattle.std.proofs.Common.{◌≡◌, ℕ, inl, inr, List, [], ◌∷◌, ◌++◌, length, Option, Some, None, ap, ◌∙◌, refl, sym, append_assoc, arith}
use Rattle.std.proofs.Common.{◌≤◌, ◌-◌, length-append, subst}
use Rattle.cw_io.specs.Outside.{Rose, Takes, TakesNothing}
use Rattle.cw_top.specs.declared.reasons.Stop.{Stop}
use Rattle.cw_top.specs.declared.reasons.Stop.TheVariants as stop
use Rattle.cw_top.specs.Taken.{GivesOn, TakesAtMost}
use Rattle.cw_top.specs.Reasons.{WhyStopped}

-- a count that rose from a later one on
pub Rose-later : (before between after : ℕ) → before ≤ between → Rose between after → Rose before after
Rose-later before between after later (inl more) = inl (omega (arith, later, more))
Rose-later before between after later (inr most) = inr most

-- reading that stopped for a read that failed after others
pub WhyStopped-later : (s : Stop) (before between after : ℕ) → before ≤ between → WhyStopped s (Rose between after) → WhyStopped s (Rose before after)
WhyStopped-later stop.OutOfMemory before between after later why = tt
WhyStopped-later stop.ReadFault before between after later why = Rose-later before between after later why

-- a piece, and another one behind it
pub Takes-append : (a b c : Option (List ℕ)) (xs ys : List ℕ) → Takes a b xs → Takes b c ys → Takes a c (xs ++ ys)
Takes-append None b c xs ys h k = tt
Takes-append (Some zs) None c xs ys h k = absurd h
Takes-append (Some zs) (Some bs) None xs ys h k = absurd k
Takes-append (Some zs) (Some bs) (Some cs) xs ys h k = h ∙ ap (λ z. xs ++ z) k ∙ sym (append_assoc xs ys cs)

-- as many bytes as may still come, behind those that came
pub TakesAtMost-append : (a b c : Option (List ℕ)) (xs : List ℕ) (most : ℕ) → length xs ≤ most → Takes a b xs → TakesAtMost (most - length xs) b c → TakesAtMost most a c
TakesAtMost-append a b c xs most few h (ys, fewer, k) = (xs ++ ys, omega (arith, length-append xs ys), Takes-append a b c xs ys h k)

-- the bytes so far, with those that came behind them
pub Takes-gives : (a b c : Option (List ℕ)) (old new : List ℕ) (count : ℕ) → Takes a b old → GivesOn b c old new count → Takes a c new
Takes-gives a b c old new count h (xs, many, is, k) = subst (λ z. Takes a c z) (sym is) (Takes-append a b c old xs h k)

-- Where no byte may be taken, all that was to come is still to come.
pub TakesAtMost-none : (a b : Option (List ℕ)) (most : ℕ) → TakesAtMost most a b → most ≡ 0 → TakesNothing a b
TakesAtMost-none a b most ([], few, h) none = h
TakesAtMost-none a b most (x ∷ xs, few, h) none = absurd (omega arith)

-- nothing was taken where all is as it was
pub TakesNothing-same : (left : Option (List ℕ)) → TakesNothing left left
TakesNothing-same None = tt
TakesNothing-same (Some xs) = refl
