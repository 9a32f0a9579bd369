-- What stands in the way of an access, and what a refused access tells.
use Rattle.std.specs.Prelude.{◌≡◌, ◌⊎◌, ℕ, ℤ, [], ◌∷◌, ◌++◌, All, true, false, List, Option, Some, None, IfSome, IsSomeAnd, length, reverse, unwrap_or}
use Rattle.cw_stack.specs.Cells.{entries_value, newest_entry, CellParts}
use Rattle.cw_tree.specs.declared.access.Entry.{Entry}
use Rattle.cw_tree.specs.declared.access.Mark.{Mark}
use Rattle.cw_tree.specs.AccessStacks.{stamps}
use Rattle.cw_tree.specs.Newest.{last_eight}
use Rattle.cw_tree.specs.declared.conflict.Conflict.{Conflict}
use Rattle.cw_trace.specs.Told.{Read, Answer}
use Rattle.cw_trace.specs.Query.{Covers}
use Rattle.cw_trace.specs.declared.verdict.Verdict.{Verdict}
use Rattle.cw_trace.specs.declared.verdict.Verdict.TheVariants.{Against}
use Rattle.cw_log.specs.declared.board.Access.{Access}
use Rattle.cw_log.specs.declared.board.Access.TheVariants as access
use Rattle.cw_log.specs.declared.log.Above.{Above}
use Rattle.cw_log.specs.declared.token.Token.{Token}
use Rattle.cw_log.specs.Answers.{IsAround}
use Rattle.cw_log.specs.Tokens.{refused}
use Rattle.cw_steps.specs.declared.draw.Aim.TheVariants as aims
use Rattle.cw_steps.specs.declared.table.StrandToken.{StrandToken}
use Rattle.cw_steps.specs.declared.view.Slot.TheVariants as slot
use Rattle.cw_steps.specs.declared.view.WordNote.{WordNote}
use Rattle.cw_steps.specs.Stands.{token_of}
use Rattle.cw_steps.specs.Tracks.{one_more, track_of, tries_of}
use Rattle.cw_steps.specs.Views.{view_of}
use Rattle.cw_board.specs.declared.asking.Moved.{Moved}
use Rattle.cw_board.specs.declared.board.Board.{Board}
use Rattle.cw_board.specs.declared.victims.Barrier.{Barrier}
use Rattle.cw_steps.specs.Passes.{IsAnswered, IsOnePass, LetsThrough, ToldBy}
use Rattle.cw_board.specs.Asked.{HasMoved, HasNoted}
use Rattle.cw_board.specs.Boards.{cells_in, columns_of}
use Rattle.cw_board.specs.Turns.{HasCell, IsHolding}

-- ## The victim

abbrev pub begin_mark : Above → Mark
begin_mark a = record { strand = a.column; stamp = a.begin }

-- each of the blocks is above the access `last`
abbrev pub AreAbove : (told : Read → Answer → Type 0) → (last : Mark) → List Above → Type 0
AreAbove told last blocks = All (λ (a : Above). Covers told (begin_mark a) last true) blocks

-- `a` is the first of the blocks that is not above the access `last`
pub record IsFirstNotAbove (told : Read → Answer → Type 0) (last : Mark) (blocks : List Above) (a : Above) : Type 0 where
  pub outer : List Above
  pub inner : List Above
  pub blocks_are : blocks ≡ outer ++ a ∷ inner
  pub above : AreAbove told last outer
  pub not_above : Covers told (begin_mark a) last false

-- the victim is the first of the blocks that is not above the access `last`, and there is none if all are above it
abbrev pub IsVictim : (told : Read → Answer → Type 0) → (last : Mark) → (blocks : List Above) → Option Above → Type 0
IsVictim told last blocks None = AreAbove told last blocks
IsVictim told last blocks (Some a) = IsFirstNotAbove told last blocks a

-- the victim among the blocks, by what one pass heard
pub record IsSearched (cells columns : ℕ) (last : Mark) (blocks : List Above) (before after : List WordNote) (found : Option Above) : Type 0 where
  pub heard : List WordNote
  pub pass : IsOnePass cells heard before after
  pub victim : IsVictim (ToldBy cells columns heard) last blocks found

-- the pending blocks around the token's place, outermost first
abbrev pub outermost_first : StrandToken → List Above
outermost_first t = reverse (track_of t.track).pending

-- the begin of the victim, or 0 without a victim
abbrev pub begin_of : Option Above → ℕ
begin_of None = 0
begin_of (Some a) = a.begin

-- the attempt number of the victim, or without a victim that of the access itself
abbrev pub attempt_refused : Option Above → (own : ℕ) → ℕ
attempt_refused None n = n
attempt_refused (Some a) n = a.attempt

-- ## What stands in the way

-- one pass gave a verdict that lets the token's next access through
pub record IsClear (b : Board) (last : Mark) (t : StrandToken) (before after : List WordNote) : Type 0 where
  pub verdict : Verdict
  pub through : LetsThrough verdict
  pub question : IsAnswered (cells_in b) (columns_of b) last (track_of t.track).column before after verdict

-- One pass gave a verdict against the token's next access, by this block, and the next pass found the victim. Nothing else was noted
-- between the two.
pub record IsBarrier (b : Board) (last : Mark) (t : StrandToken) (before after : List WordNote) (block : ℕ) (victim : Option Above) : Type 0 where
  pub between : List WordNote
  pub question : IsAnswered (cells_in b) (columns_of b) last (track_of t.track).column before between (Against block)
  pub search : IsSearched (cells_in b) (columns_of b) last (outermost_first t) between after victim
  pub around : IsAround (token_of t) (begin_of victim)

-- what was judged of the token's next access: nothing, or this, stands in its way
abbrev pub IsJudged : Board → (last : Mark) → StrandToken → (before after : List WordNote) → Option Barrier → Type 0
IsJudged b last t before after None = IsClear b last t before after
IsJudged b last t before after (Some x) = IsBarrier b last t before after x.block x.victim

-- A try to judge the token's next access ended with a pass that moved: that of the question, or that of the search after a question
-- that went against the access.
pub record HasMovedSince (b : Board) (last : Mark) (t : StrandToken) (before after : List WordNote) (m : Moved) : Type 0 where
  pub between : List WordNote
  pub question : (between ≡ before) ⊎ ((block : ℕ) × IsAnswered (cells_in b) (columns_of b) last (track_of t.track).column before between (Against block))
  pub moved : HasMoved (cells_in b) between after m

-- The notes grew from `before` to `after` by such tries alone. `starts` are the notes as they were when each try began, newest first.
abbrev pub HasOnlyMoved : Board → (last : Mark) → StrandToken → (before : List WordNote) → (starts : List (List WordNote)) → (after : List WordNote) → Type 0
HasOnlyMoved b last t before [] after = after ≡ before
HasOnlyMoved b last t before (start ∷ starts) after = ((m : Moved) × HasMovedSince b last t start after m) × HasOnlyMoved b last t before starts start

-- One try judged that since the token was `t`. Only tries that moved came before it.
pub record IsJudgedSince (b : Board) (last : Mark) (t u : StrandToken) (found : Option Barrier) : Type 0 where
  pub starts : List (List WordNote)
  pub between : List WordNote
  pub moved : HasOnlyMoved b last t (view_of t).notes starts between
  pub is : IsJudged b last t between (view_of u).notes found

abbrev pub conflict_with : (cell asker last : ℕ) → Barrier → (own : ℕ) → (chain : List ℕ) → Conflict
conflict_with c asker last x own chain = record {
  cell = c;
  last = last;
  asker = asker;
  block = x.block;
  victim = begin_of x.victim;
  attempt = attempt_refused x.victim own;
  chain = chain;
}

-- the refused access is in the log, with this conflict
abbrev pub Refuses : (before after : Token) → (cell last : ℕ) → Barrier → (own : ℕ) → (chain : List ℕ) → Access → Type 0
Refuses x y c last b own chain (access.Value v) = ⊥
Refuses x y c last b own chain (access.Conflict k) = (k ≡ conflict_with c (length x.own.nodes) last b own chain) × (y ≡ refused x k)

-- ## An access of a cell

-- Since it was `t`, the token made room, waited for the lock of the cell, and took it for an access. Then it was `during`, and this
-- lay in the cell.
pub record HasFound (b : Board) (cell : ℕ) (t during : StrandToken) (lay : CellParts) : Type 0 where
  pub before : StrandToken
  pub seat : before.seat ≡ t.seat
  pub track : track_of before.track ≡ track_of t.track
  pub token : token_of before ≡ token_of t
  pub holding : IsHolding b cell slot.Empty before during
  pub found : HasCell aims.Access lay during
  pub noted : HasNoted t during

-- a question and a search, which the token noted since it was `t`, found what stands in the way; the conflict tells that and the
-- newest of the entries
pub record IsRefusedBy (b : Board) (cell : ℕ) (entries : List Entry) (last : Mark) (t u : StrandToken) (k : Conflict) : Type 0 where
  pub barrier : Barrier
  pub judged : IsJudgedSince b last t u (Some barrier)
  pub told : k ≡ conflict_with cell (length (token_of t).own.nodes) last.stamp barrier (one_more (tries_of (track_of t.track).tail cell)) (last_eight (stamps entries))

-- An access was made if there were no entries, or a question about the newest one let it through. It was refused by such a question.
abbrev pub IsJudgedBy : (b : Board) (cell : ℕ) (entries : List Entry) (t u : StrandToken) → Access → Type 0
IsJudgedBy b c es t u (access.Value v) = IfSome (newest_entry es) (λ (e : Entry). IsJudgedSince b e.mark t u None)
IsJudgedBy b c es t u (access.Conflict k) = IsSomeAnd (newest_entry es) (λ (e : Entry). IsRefusedBy b c es e.mark t u k)

-- an access that was made gives the value that it wrote, or else that of the cell
abbrev pub GivesValue : (lay : CellParts) → (write : Option ℤ) → Access → Type 0
GivesValue y w (access.Value v) = v ≡ unwrap_or w (entries_value y)
GivesValue y w (access.Conflict k) = Unit {0}

-- Both are so of the cell that lay there once the token had its lock.
pub record IsAskedAbout (b : Board) (cell : ℕ) (write : Option ℤ) (t u : StrandToken) (a : Access) : Type 0 where
  pub during : StrandToken
  pub lay : CellParts
  pub found : HasFound b cell t during lay
  pub judged : IsJudgedBy b cell lay.entries during u a
  pub value : GivesValue lay write a
