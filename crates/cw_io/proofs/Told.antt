-- What a sink tells after it took one thing, and then another.
use Rattle.std.proofs.Common.{ℕ, ◌+◌, List, ◌++◌, take, drop, Option, Some, None, ◌∙◌, ap, append_assoc, arith, subst}
use Rattle.std.proofs.Math.Seq.{take-add}
use Rattle.cw_io.specs.Outside.{Appends, KeepsTelling}

-- two pieces, one after the other
pub Appends-append : (a b c : Option (List ℕ)) (xs ys : List ℕ) → Appends a b xs → Appends b c ys → Appends a c (xs ++ ys)
Appends-append a b None xs ys p q = tt
Appends-append a None (Some w) xs ys p q = absurd q
Appends-append None (Some v) (Some w) xs ys p q = absurd p
Appends-append (Some u) (Some v) (Some w) xs ys p q = q ∙ ap (λ x. x ++ ys) p ∙ append_assoc u xs ys

-- a front of a text, and then a front of the rest
pub Appends-take : (a b c : Option (List ℕ)) (text : List ℕ) (n m : ℕ) → Appends a b (take n text) → Appends b c (take m (drop n text)) → Appends a c (take (n + m) text)
Appends-take a b c text n m p q = rw take-add (Appends-append a b c (take n text) (take m (drop n text)) p q)

-- a sink that goes on telling for n bytes, and then for m more, goes on telling for both together
pub KeepsTelling-add : {S : Type 0} (tells : S → ℕ → Type 0) (written : S → Option (List ℕ)) (a b c : S) (n m : ℕ) → KeepsTelling (tells a) (tells b) (written a) (written b) n → KeepsTelling (tells b) (tells c) (written b) (written c) m → KeepsTelling (tells a) (tells c) (written a) (written c) (n + m)
KeepsTelling-add tells written a b c n m p q rest says =
    let (first, more) = p (m + rest) (subst (tells a) (omega arith) says) in
    let (second, left) = q rest more in
    (λ told. second (first told), left)
