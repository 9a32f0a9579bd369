-- What reading gives, if memory may run out, and the parts of a list that is read part by part.
use Rattle.std.specs.Prelude.{◌≡◌, ℕ, List, [], Option, Some, None, Result, IfOk, IsSomeAnd}
use Rattle.std.specs.Borrow.{Bor}
use Rattle.cw_base.specs.declared.memory.OutOfMemory.{OutOfMemory}
use Rattle.cw_words.specs.Options.{parts_of}

-- The value read is the one the words give, or `None` if they give none. Out of memory is answered only if they give one.
abbrev pub Reads : {T : Type 0} → Option T → Option (Result T OutOfMemory) → Type 0
Reads said None = said ≡ None
Reads said (Some kept) = IsSomeAnd said (λ x. IfOk kept (λ y. y ≡ x))

-- the parts of the text behind a comma, if there is one
abbrev pub parts_behind : Option (Bor (List ℕ)) → List (List ℕ)
parts_behind None = []
parts_behind (Some text) = parts_of text.now
