-- The names of groups are of ASCII characters.
use Rattle.std.proofs.Common.{ℕ, ◌+◌, ◌<◌, ◌^◌, ◌%◌, List, [], ◌∷◌, arith}
use Rattle.std.specs.Prelude.{All}
use Rattle.std.specs.Fmt.{decimal}
use Rattle.std.proofs.lemmas.Fmt.{decimal_by_steps}
use Rattle.std.proofs.lemmas.List.Elements.{All-append, All-cons}
use Rattle.cw_gen.specs.Load.{group_name}

abbrev Ascii : List ℕ → Type 0
Ascii = All (λ b. b < 128)

one_is_ascii : (b : ℕ) → b < 128 → Ascii (b ∷ [])
one_is_ascii b low = All-cons (λ c. c < 128) b [] low (λ k d h. absurd (omega (arith, h)))

decimal_is_ascii : (n : ℕ) → n < 2 ^ 64 → Ascii (decimal n)
decimal_is_ascii =
    decimal_by_steps (λ n text. Ascii text) (λ n low. one_is_ascii (48 + n) (omega arith))
    (λ n text low is. All-append (λ b. b < 128) text ((48 + n % 10) ∷ []) is (one_is_ascii (48 + n % 10) (omega arith)))

pub group_name_is_ascii : (k : ℕ) → k < 2 ^ 32 → Ascii (group_name k)
group_name_is_ascii k low = All-cons (λ b. b < 128) 103 (decimal k) (omega arith) (decimal_is_ascii k (omega arith))
