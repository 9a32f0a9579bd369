-- Sums over the views of all seats (`Totals`), and turns among those of one seat (`turns_of`).
use Rattle.std.proofs.Common.{◌≡◌, ◌≢◌, ℕ, zero, suc, ◌+◌, ◌<◌, ◌≤◌, List, [], ◌∷◌, ◌++◌, refl, ap, sym, arith, Bool, set, inl, inr, eq-eqb}
use Rattle.std.specs.Prelude.{ℤ, All}
use Rattle.std.specs.Prelude.{if◌then◌else◌, ◌==◌, Option, Some, None, unwrap_or}
use Rattle.std.proofs.lemmas.Bool.Decides.{eqb_tells}
use Rattle.std.proofs.lemmas.List.Elements.{All-nil, All-cons, All-head, All-tail}
use mathlib.Core.Option.{some, some-injective, some-ne-none}
use lib.ListN.{get_elem?}
use Rattle.cw_tree.specs.declared.access.Mark.{Mark}
use Rattle.cw_steps.specs.declared.view.Change.{Change}
use Rattle.cw_steps.specs.declared.view.Turn.{Turn}
use Rattle.cw_steps.specs.Totals.{total}
use Rattle.cw_steps.specs.Views.{cell_with, turns_of, with_access, with_come, with_more, newest_slot, newest_used, older}

module _ {A : Type 0} (f : A → ℕ) where
  pub total_set : (xs : List A) (i : ℕ) (v w : A) → get_elem? xs i ≡ some v → total f (set xs i w) + f v ≡ total f xs + f w
  total_set [] i v w e = absurd (some-ne-none v (sym e))
  total_set (x ∷ xs) zero v w e = let q : f x ≡ f v = ap f (some-injective x v e) in omega arith
  total_set (x ∷ xs) (suc i) v w e = let q : total f (set xs i w) + f v ≡ total f xs + f w = total_set xs i v w e in omega arith

  pub total_part : (xs : List A) (i : ℕ) (v : A) → get_elem? xs i ≡ some v → f v ≤ total f xs
  total_part [] i v e = absurd (some-ne-none v (sym e))
  total_part (x ∷ xs) zero v e = let q : f x ≡ f v = ap f (some-injective x v e) in omega arith
  total_part (x ∷ xs) (suc i) v e = let q : f v ≤ total f xs = total_part xs i v e in omega arith

  pub total_two : (xs : List A) (i j : ℕ) (v w : A) → i ≢ j → get_elem? xs i ≡ some v → get_elem? xs j ≡ some w → f v + f w ≤ total f xs
  total_two [] i j v w ne e g = absurd (some-ne-none v (sym e))
  total_two (x ∷ xs) zero zero v w ne e g = absurd (ne refl)
  total_two (x ∷ xs) zero (suc j) v w ne e g = let q : f x ≡ f v = ap f (some-injective x v e) in let p : f w ≤ total f xs = total_part xs j w g in omega arith
  total_two (x ∷ xs) (suc i) zero v w ne e g = let q : f x ≡ f w = ap f (some-injective x w g) in let p : f v ≤ total f xs = total_part xs i v e in omega arith
  total_two (x ∷ xs) (suc i) (suc j) v w ne e g = let p : f v + f w ≤ total f xs = total_two xs i j v w (λ q. ne (ap suc q)) e g in omega arith

  pub total_snoc : (xs : List A) (x : A) → total f (xs ++ x ∷ []) ≡ total f xs + f x
  total_snoc [] x = omega arith
  total_snoc (y ∷ ys) x = let q : total f (ys ++ x ∷ []) ≡ total f ys + f x = total_snoc ys x in omega arith

-- ## Turns of one seat

abbrev pub bit : Bool → ℕ
bit b = if b then 1 else 0

pub turn_here : (n : ℕ) (t : Turn) → t.slot ≡ n → bit (t.slot == n) ≡ 1
turn_here n t e = ap {B = ℕ} bit (eq-eqb t.slot n e)

pub turn_else : (n : ℕ) (t : Turn) → t.slot ≢ n → bit (t.slot == n) ≡ 0
turn_else n t ne = elim (eqb_tells t.slot n) [ inl z ↦ absurd (ne z.1) | inr z ↦ ap {B = ℕ} bit z.0 ]

-- the tier that a change brought lies in the same slot
pub come_slot : (o : Option Change) (t : Turn) → (with_come o t).slot ≡ t.slot
come_slot None t = refl
come_slot (Some ch) t = refl

-- columns are no matter of whose turn it is
pub turns_more : (n k : ℕ) (ts : List Turn) → turns_of n (with_more k ts) ≡ turns_of n ts
turns_more n k [] = refl
turns_more n k (t ∷ ts) = ap (λ (j : ℕ). bit (j == n) + turns_of n ts) (come_slot t.change t)

-- nor is what an access leaves in the cell
pub turns_access : (n : ℕ) (m : Mark) (w : Bool) (x : ℤ) (ts : List Turn) → turns_of n (with_access m w x ts) ≡ turns_of n ts
turns_access n m w x [] = refl
turns_access n m w x (t ∷ ts) = refl

pub used_access : (c used : ℕ) (m : Mark) (w : Bool) (x : ℤ) (ts : List Turn) → All (λ (t : Turn). t.slot ≡ c → t.used ≡ used) ts → All (λ (t : Turn). t.slot ≡ c → t.used ≡ used) (with_access m w x ts)
used_access c used m w x [] all = all
used_access c used m w x (t ∷ ts) all = All-cons (λ (t : Turn). t.slot ≡ c → t.used ≡ used) (record t { cell = cell_with m w x t.cell }) ts
    (All-head (λ (t : Turn). t.slot ≡ c → t.used ≡ used) t ts all) (All-tail (λ (t : Turn). t.slot ≡ c → t.used ≡ used) t ts all)

-- with the newest turn given back
pub turns_older : (n c : ℕ) (ts : List Turn) → newest_slot ts ≡ Some c → turns_of n ts ≡ bit (c == n) + turns_of n (older ts)
turns_older n c [] e = absurd (cc e)
turns_older n c (t ∷ ts) e =
    ap (λ (k : ℕ). bit (k == n) + turns_of n ts) (ap (λ (o : Option ℕ). unwrap_or o 0) e)

pub newest_is_one : (c : ℕ) (ts : List Turn) → newest_slot ts ≡ Some c → 0 < turns_of c ts
newest_is_one c [] e = absurd (cc e)
newest_is_one c (t ∷ ts) e = let one = turn_here c t (ap (λ (o : Option ℕ). unwrap_or o 0) e) in omega arith

-- where no turn is that of slot c, whatever is said of those is true
pub none_of : (c : ℕ) (P : Turn → Type 0) (ts : List Turn) → turns_of c ts ≡ 0 → All (λ t. t.slot ≡ c → P t) ts
none_of c P [] e = All-nil (λ t. t.slot ≡ c → P t)
none_of c P (t ∷ ts) e = All-cons (λ t. t.slot ≡ c → P t) t ts (λ h. absurd (let one = turn_here c t h in omega arith)) (none_of c P ts (omega arith))

-- the tier has to come home as its newest turn says
pub newest_brings : (c used : ℕ) (ts : List Turn) → All (λ (t : Turn). t.slot ≡ c → t.used ≡ used) ts → newest_slot ts ≡ Some c → newest_used ts ≡ used
newest_brings c used [] all e = absurd (cc e)
newest_brings c used (t ∷ ts) all e = All-head (λ (t : Turn). t.slot ≡ c → t.used ≡ used) t ts all (ap (λ (o : Option ℕ). unwrap_or o 0) e)

pub all_older : (P : Turn → Type 0) (ts : List Turn) → All P ts → All P (older ts)
all_older P [] all = all
all_older P (t ∷ ts) all = All-tail P t ts all

-- an entry of a list that is written anew
pub set_there : {A : Type 0} (l : List A) (i : ℕ) (a b : A) → get_elem? l i ≡ some a → get_elem? (set l i b) i ≡ some b
set_there [] i a b e = absurd (some-ne-none a (sym e))
set_there (x ∷ xs) zero a b e = refl
set_there (x ∷ xs) (suc i) a b e = set_there xs i a b e
