-- The query: what the columns of an access and of an asker, and at most two gap words, tell of pending blocks.
use Rattle.std.specs.Prelude.{◌≡◌, ℕ, ◌==◌, ◌&&◌, ◌||◌, Bool, true, false, nat_lt, List, IsTrue, Option, Some, None, if◌then◌else◌}
use Rattle.cw_tree.specs.declared.access.Mark.{Mark}
use Rattle.cw_trace.specs.declared.verdict.Verdict.{Verdict}
use Rattle.cw_trace.specs.declared.verdict.Verdict.TheVariants.{Free, Within, Against}
use Rattle.cw_trace.specs.Columns.{ColumnTable, owner, lead, up, inside}
use Rattle.cw_trace.specs.Stands.{word_of}
use Rattle.cw_trace.specs.Told.{Read, Answer, Owner, Lead, Up, Word, Inside, Number, Maybe, Test}

-- a block was begun at stamp w, before another stamp; w = 0 is no begin
abbrev pub came_before : ℕ → ℕ → Bool
came_before w stamp = nat_lt 0 w && nat_lt w stamp

-- ## From answers

-- the word of a lead, or 0 for none
pub data LeadWord (told : Read → Answer → Type 0) : Option ℕ → ℕ → Type 0 where
  no_lead : LeadWord told None 0
  a_lead : {g w : ℕ} → told (Word g) (Number w) → LeadWord told (Some g) w

-- w is the word of trace t's lead, or 0 if t has none
pub record HasWord (told : Read → Answer → Type 0) (t w : ℕ) : Type 0 where
  pub lead : Option ℕ
  pub is : told (Lead t) (Maybe lead)
  pub word : LeadWord told lead w

-- whether the trace of a strand is t or lies inside t
pub data IsWithinTrace (told : Read → Answer → Type 0) (strand t : ℕ) : Bool → Type 0 where
  is_it : told (Owner strand) (Number t) → IsWithinTrace told strand t true
  by_place : {v : ℕ} {b : Bool} → told (Owner strand) (Number v) → (v ≡ t → ⊥) → told (Inside v t) (Test b) → IsWithinTrace told strand t b

-- the verdict from the nearest trace around that has a pending block, if there is one
pub data GivesAround (told : Read → Answer → Type 0) (asker : ℕ) : Option ℕ → Verdict → Type 0 where
  free : GivesAround told asker None Free
  around_within : {t : ℕ} → IsWithinTrace told asker t true → GivesAround told asker (Some t) Within
  around_against : {t w : ℕ} → IsWithinTrace told asker t false → HasWord told t w → GivesAround told asker (Some t) (Against w)

-- the verdict; u is the last accessor's trace
pub data Gives (told : Read → Answer → Type 0) (last : Mark) (asker : ℕ) : Verdict → Type 0 where
  -- a pending block of u itself was begun before the access
  own_within : {u w : ℕ} → told (Owner last.strand) (Number u) → HasWord told u w → IsTrue (came_before w last.stamp) → IsWithinTrace told asker u true → Gives told last asker Within
  own_against : {u w : ℕ} → told (Owner last.strand) (Number u) → HasWord told u w → IsTrue (came_before w last.stamp) → IsWithinTrace told asker u false → Gives told last asker (Against w)
  -- no pending block of u itself was begun before the access
  around : {u w : ℕ} {t : Option ℕ} {v : Verdict} → told (Owner last.strand) (Number u) → HasWord told u w → came_before w last.stamp ≡ false → told (Up u) (Maybe t) → GivesAround told asker t v → Gives told last asker v

-- whether the last accessor's trace u lies inside trace t, in which a pending block was begun; or u is t, and the block was begun
-- before the access
pub data Covers (told : Read → Answer → Type 0) (block last : Mark) : Bool → Type 0 where
  same_trace : {t : ℕ} → told (Owner block.strand) (Number t) → told (Owner last.strand) (Number t) → Covers told block last (nat_lt block.stamp last.stamp)
  other_trace : {t u : ℕ} {b : Bool} → told (Owner block.strand) (Number t) → told (Owner last.strand) (Number u) → (u ≡ t → ⊥) → told (Inside u t) (Test b) → Covers told block last b

-- ## From a tier and gap words

-- the trace of a strand is t or lies inside t
abbrev pub stands_in : ColumnTable → ℕ → ℕ → Bool
stands_in c strand t = (owner c strand == t) || inside c (owner c strand) t

abbrev pub verdict_of : Bool → ℕ → Verdict
verdict_of true w = Within
verdict_of false w = Against w

-- the verdict from the nearest trace around that has a pending block, if there is one
abbrev pub verdict_around : ColumnTable → List ℕ → ℕ → Option ℕ → Verdict
verdict_around c words asker None = Free
verdict_around c words asker (Some t) = verdict_of (stands_in c asker t) (word_of words (lead c t))

abbrev pub verdict : ColumnTable → List ℕ → Mark → ℕ → Verdict
verdict c words last asker =
    let u = owner c last.strand in
    let w = word_of words (lead c u) in
    if came_before w last.stamp then verdict_of (stands_in c asker u) w else verdict_around c words asker (up c u)

abbrev pub covers : ColumnTable → Mark → Mark → Bool
covers c block last =
    let t = owner c block.strand in
    let u = owner c last.strand in
    if u == t then nat_lt block.stamp last.stamp else inside c u t
