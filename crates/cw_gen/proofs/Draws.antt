-- Transfers that are drawn one after another, and their groups.
use Rattle.std.proofs.Common.{◌≡◌, ℕ, zero, suc, ◌+◌, ◌-◌, ◌*◌, ◌<◌, List, [], ◌∷◌, ◌++◌, map, ap, ◌∙◌, arith, append_assoc}
use Rattle.std.specs.Prelude.{min, take, drop}
use Rattle.std.specs.List.{range_with_len}
use Rattle.std.proofs.lemmas.List.{map-append}
use Rattle.cw_gen.specs.Load.{after_transfer, group, state_after, transfer_from, transfers}

-- One more of a list that is made from both.
pub map_more : {X Y : Type 0} (f : X → Y) (old new : List X) (x : X) (y : Y) (rest : List Y) → new ≡ old ++ x ∷ [] → f x ≡ y → map f new ++ rest ≡ map f old ++ y ∷ rest
map_more f old new x y rest is e =
    ap (λ xs. map f xs ++ rest) is
    ∙ ap (λ ys. ys ++ rest) (map-append f old (x ∷ []))
    ∙ append_assoc (map f old) (f x ∷ []) rest
    ∙ ap (λ z. map f old ++ z ∷ rest) e

-- one more of the numbers from i up to n
pub range_more : (i n : ℕ) → i < n → range_with_len i (n - i) ≡ i ∷ range_with_len (i + 1) (n - (i + 1))
range_more i n low = let e : n - i ≡ suc (n - (i + 1)) = omega arith in ap (range_with_len i) e

-- one more of n transfers, after i were drawn
pub transfers_more : (i n s : ℕ) → i < n → transfers (n - i) s ≡ transfer_from s ∷ transfers (n - (i + 1)) (after_transfer s)
transfers_more i n s low = let e : n - i ≡ suc (n - (i + 1)) = omega arith in ap (λ k. transfers k s) e

pub state_more : (i n s : ℕ) → i < n → state_after (n - i) s ≡ state_after (n - (i + 1)) (after_transfer s)
state_more i n s low = let e : n - i ≡ suc (n - (i + 1)) = omega arith in ap (λ k. state_after k s) e

pub state_both : (a b s : ℕ) → state_after (a + b) s ≡ state_after b (state_after a s)
state_both zero b s = ap (λ k. state_after k s) (let e : 0 + b ≡ b = omega arith in e)
state_both (suc a) b s = ap (λ k. state_after k s) (let e : suc a + b ≡ suc (a + b) = omega arith in e) ∙ state_both a b (after_transfer s)

drop_drawn : (a n s : ℕ) → drop a (transfers n s) ≡ transfers (n - a) (state_after a s)
drop_drawn zero n s = ap (λ k. transfers k s) (let e : n ≡ n - 0 = omega arith in e)
drop_drawn (suc a) zero s = ap (λ k. transfers k (state_after (suc a) s)) (let e : 0 ≡ 0 - suc a = omega arith in e)
drop_drawn (suc a) (suc n) s = drop_drawn a n (after_transfer s) ∙ ap (λ k. transfers k (state_after (suc a) s)) (let e : n - a ≡ suc n - suc a = omega arith in e)

take_drawn : (a n s : ℕ) → take a (transfers n s) ≡ transfers (min n a) s
take_drawn zero n s = ap (λ k. transfers k s) (let e : 0 ≡ min n 0 = omega arith in e)
take_drawn (suc a) zero s = ap (λ k. transfers k s) (let e : 0 ≡ min 0 (suc a) = omega arith in e)
take_drawn (suc a) (suc n) s = ap (λ ts. transfer_from s ∷ ts) (take_drawn a n (after_transfer s)) ∙ ap (λ k. transfers k s) (let e : suc (min n a) ≡ min (suc n) (suc a) = omega arith in e)

-- group k is what is drawn after all groups before it
pub group_is : (k n s : ℕ) → group k (transfers n s) ≡ transfers (min (n - 16 * k) 16) (state_after (16 * k) s)
group_is k n s = ap (take 16) (drop_drawn (16 * k) n s) ∙ take_drawn 16 (n - 16 * k) (state_after (16 * k) s)
