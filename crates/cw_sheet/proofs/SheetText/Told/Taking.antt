-- What is true of all that readers take, one after the other.
use Rattle.std.proofs.Common.{◌≡◌, Bool, true, false, if◌then◌else◌, refl}
use Rattle.std.specs.Prelude.{⊤}
use Rattle.cw_sheet.specs.Items.{Place, Taken, took, refused, ◌into◌}

-- P of what was taken and of the place behind it, unless it was refused
abbrev pub IfTook : {A : Type 0} → (A → Place → Type 0) → Taken A → Type 0
IfTook P (took x p) = P x p
IfTook P (refused e) = Unit {0}

pub took_then : {A B : Type 0} (P : A → Place → Type 0) (Q : B → Place → Type 0) (r : Taken A) (f : A → Place → Taken B) →
    IfTook P r → ((x : A) (q : Place) → P x q → IfTook Q (f x q)) → IfTook Q (r into f)
took_then P Q (took x q) f h g = g x q h
took_then P Q (refused e) f h g = tt

pub took_so : {A : Type 0} (P Q : A → Place → Type 0) (r : Taken A) → IfTook P r → ((x : A) (q : Place) → P x q → Q x q) → IfTook Q r
took_so P Q (took x q) h g = g x q h
took_so P Q (refused e) h g = tt

pub took_if : {A : Type 0} (P : A → Place → Type 0) (b : Bool) (r s : Taken A) → (b ≡ true → IfTook P r) → (b ≡ false → IfTook P s) → IfTook P (if b then r else s)
took_if P true r s h g = h refl
took_if P false r s h g = g refl

-- a line that ends behind what was read
pub took_done : {A B : Type 0} (Q : B → Place → Type 0) (x : A) (r : Taken ⊤) (f : A → Place → Taken B) →
    IfTook (λ _ q. IfTook Q (f x q)) r → IfTook Q ((r into λ _ q. took x q) into f)
took_done Q x (took y q) f h = h
took_done Q x (refused e) f h = tt
