-- What the sink over a writer of std tells.
use Rattle.std.specs.Prelude.{ℕ, Bool, List, Option, None, if◌then◌else◌}
use Rattle.std.specs.Option.{option_and}

-- What the writer holds now, if it told its bytes at first and the sink has not fallen silent.
abbrev pub told_since : Bool → (first now : Option (List ℕ)) → Option (List ℕ)
told_since is_told first now = if is_told then option_and first now else None
