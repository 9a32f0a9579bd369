-- What the answers of a board's calls tell.
use Rattle.std.specs.Prelude.{◌≡◌, ◌⊎◌, ℕ, ℤ, ◌<◌, All, Contains, List, Option, Some, None, length, map}
use Rattle.std.specs.List.Sorted.{IsStrictlyIncreasing}
use Rattle.cw_code.specs.declared.Back.{Back}
use Rattle.cw_tree.specs.declared.node.Kind.{Kind}
use Rattle.cw_tree.specs.declared.node.Kind.TheVariants.{Read, Write, Cancel}
use Rattle.cw_log.specs.declared.board.Access.{Access}
use Rattle.cw_log.specs.declared.board.Access.TheVariants.{Value, Conflict}
use Rattle.cw_log.specs.declared.board.Forked.{Forked}
use Rattle.cw_log.specs.declared.board.Forked.TheVariants.{Two, Inline}
use Rattle.cw_log.specs.declared.token.Token.{Token}
use Rattle.cw_log.specs.Tokens.{made, refused, forked, right_of, branched}

-- a read of `v`, or a write of `v` if a value was given to write
abbrev pub kind_of_answer : (cell : ℕ) → Option ℤ → ℤ → Kind
kind_of_answer c None v = Read c v
kind_of_answer c (Some w) v = Write c v

abbrev pub IsWritten : Option ℤ → ℤ → Type 0
IsWritten None v = Unit {0}
IsWritten (Some w) v = v ≡ w

-- `b` is 0 for no block, or the begin of a pending block around the token's place
abbrev pub IsAround : Token → (begin : ℕ) → Type 0
IsAround x b = (b ≡ 0) ⊎ Contains x.around b

-- Either the access is in the log with the value that was answered, or the refused access is, with its conflict. The victim of that
-- conflict is none, or a pending block around the token's place.
abbrev pub Meets : (before after : Token) → (cell : ℕ) → Option ℤ → Access → Type 0
Meets x y c w (Value v) = IsWritten w v × ((stamp : ℕ) × (y ≡ made x (kind_of_answer c w v) stamp))
Meets x y c w (Conflict k) = (k.cell ≡ c) × (k.asker ≡ length x.own.nodes) × IsAround x k.victim × (y ≡ refused x k)

-- The log has one more node, a cancel with the list `back`. That list names cells by rising number, and no cell but those below
-- `cells`.
pub record Cancels (cells : ℕ) (before after : Token) (back : List Back) : Type 0 where
  pub rises : IsStrictlyIncreasing (map (λ (b : Back). b.cell) back)
  pub there : All (λ (b : Back). b.cell < cells) back
  pub stamp : ℕ
  pub token : after ≡ made before (Cancel back) stamp

-- Either two tokens, and the left one goes on with the log, or one token in the left strand.
abbrev pub Forks : {T : Type 0} → (T → Token) → Token → Forked T → Type 0
Forks of x (Two fork left right) = (0 < fork) × ((stamp : ℕ) × (of left ≡ forked x stamp fork)) × ((column : ℕ) × (of right ≡ right_of x fork column))
Forks of x (Inline token) = (stamp : ℕ) × (of token ≡ branched x stamp)
