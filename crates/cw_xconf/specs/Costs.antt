-- How many looks a verdict takes. No look is made that decides nothing.
use Rattle.std.specs.Prelude.{ℕ, ◌+◌}
use Rattle.cw_trace.specs.declared.verdict.Verdict.{Verdict}
use Rattle.cw_trace.specs.declared.verdict.Verdict.TheVariants.{Free, Within, Against}

-- the most looks at the trace around: whether the asker's trace is it or lies inside it, and the word of its lead only if not
abbrev pub looks_around : Verdict → ℕ
looks_around Free = 0
looks_around Within = 5
looks_around (Against w) = 7

-- the most looks in all: before those, the last accessor's trace, its lead, the word of that and the trace around
abbrev pub looks_for : Verdict → ℕ
looks_for v = 4 + looks_around v

-- the most looks of any verdict
abbrev pub most_looks : ℕ
most_looks = 11
