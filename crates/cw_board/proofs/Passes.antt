-- Serves `IsOnePass` and `IsJudgedSince`: words that were heard between two loads of the version.
use Rattle.std.proofs.Common.{◌≡◌, ◌∙◌, ℕ, List, [], ◌∷◌, ◌++◌, ap, inl, inr, refl, subst, reverse}
use Rattle.std.specs.Prelude.{◌⊎◌, ◌%◌, Option, Some, None}
use Rattle.cw_tree.specs.declared.access.Mark.{Mark}
use Rattle.cw_trace.specs.declared.verdict.Verdict.TheVariants.{Against}
use Rattle.cw_log.specs.declared.token.Token.{Token}
use Rattle.cw_log.specs.Answers.{IsAround}
use Rattle.cw_steps.specs.declared.table.StrandToken.{StrandToken}
use Rattle.cw_steps.specs.declared.view.WordNote.{WordNote}
use Rattle.cw_steps.specs.Stands.{token_of}
use Rattle.cw_steps.specs.Tracks.{track_of, TrackParts}
use Rattle.cw_steps.specs.Places.{turn_word}
use Rattle.cw_steps.specs.declared.draw.Aim.{Aim}
use Rattle.cw_steps.specs.declared.view.Key.{Key}
use Rattle.cw_steps.specs.Views.{noted_view, view_of, LeavesIt, TakesIt}
use Rattle.cw_board.specs.declared.asking.Moved.{Moved}
use Rattle.cw_board.specs.declared.board.Board.{Board}
use Rattle.cw_board.specs.declared.victims.Barrier.{Barrier}
use Rattle.cw_steps.specs.Passes.{version_note, IsAnswered, IsNotedBetween, IsOnePass}
use Rattle.cw_board.specs.Asked.{noted_since, HasMoved, HasNoted, HasRead}
use Rattle.cw_board.specs.Boards.{cells_in, columns_of}
use Rattle.cw_board.specs.Turns.{HasWaited}
use Rattle.cw_board.specs.Victims.{begin_of, HasMovedSince, HasOnlyMoved, IsJudged, IsJudgedSince, IsSearched}
use Rattle.cw_board.proofs.Reading.{noted_read, since_grown}

-- the version, then words, then the version again
module _ (cells m n : ℕ) (t t' u u' : StrandToken) (first : (view_of t').notes ≡ version_note cells m ∷ (view_of t).notes) (h : HasRead t' u) (second : (view_of u').notes ≡ version_note cells n ∷ (view_of u).notes) where
  between_versions : IsNotedBetween cells m n (noted_since t' u) (view_of t).notes (view_of u').notes
  between_versions = second ∙ ap (λ ns. version_note cells n ∷ ns) (since_grown t' u (noted_read t' u h) ∙ ap (λ ns. noted_since t' u ++ ns) first)

  pub one_pass : m % 2 ≡ 0 → m ≡ n → IsOnePass cells (noted_since t' u) (view_of t).notes (view_of u').notes
  one_pass even same = record { version = n; even = subst (λ k. k % 2 ≡ 0) same even; noted = subst (λ k. IsNotedBetween cells k n (noted_since t' u) (view_of t).notes (view_of u').notes) same between_versions }

-- ## What was judged

-- it is about the place of the token alone
judged_of : (b : Board) (last : Mark) (t u : StrandToken) (before after : List WordNote) (found : Option Barrier) → track_of u.track ≡ track_of t.track → token_of u ≡ token_of t → IsJudged b last u before after found → IsJudged b last t before after found
judged_of b last t u before after None track token h = record {
  verdict = h.verdict;
  through = h.through;
  question = subst (λ (x : TrackParts). IsAnswered (cells_in b) (columns_of b) last x.column before after h.verdict) track h.question;
}
judged_of b last t u before after (Some bar) track token h = record {
  between = h.between;
  question = subst (λ (x : TrackParts). IsAnswered (cells_in b) (columns_of b) last x.column before h.between (Against bar.block)) track h.question;
  search = subst (λ (x : TrackParts). IsSearched (cells_in b) (columns_of b) last (reverse x.pending) h.between after bar.victim) track h.search;
  around = subst (λ (x : Token). IsAround x (begin_of bar.victim)) token h.around;
}

-- ## Tries that moved

module _ (b : Board) (last : Mark) (t u : StrandToken) where
  pub moved_asking : (m : Moved) → HasMoved (cells_in b) (view_of t).notes (view_of u).notes m → HasMovedSince b last t (view_of t).notes (view_of u).notes m
  moved_asking m h = record { between = (view_of t).notes; question = inl refl; moved = h }

  pub moved_searching : (v : StrandToken) (block : ℕ) (m : Moved) → IsAnswered (cells_in b) (columns_of b) last (track_of t.track).column (view_of t).notes (view_of u).notes (Against block) → HasMoved (cells_in b) (view_of u).notes (view_of v).notes m
      → HasMovedSince b last t (view_of t).notes (view_of v).notes m
  moved_searching v block m a h = record { between = (view_of u).notes; question = inr (block, a); moved = h }

  -- it is about the place of the token alone
  moved_of : (before after : List WordNote) (m : Moved) → track_of u.track ≡ track_of t.track → HasMovedSince b last u before after m → HasMovedSince b last t before after m
  moved_of before after m track h = record {
    between = h.between;
    question = subst (λ (x : TrackParts). (h.between ≡ before) ⊎ ((block : ℕ) × IsAnswered (cells_in b) (columns_of b) last x.column before h.between (Against block))) track h.question;
    moved = h.moved;
  }

-- every try moved since the token was `t`
abbrev pub EachMoved : Board → (last : Mark) → (t u : StrandToken) → Type 0
EachMoved b last t u = (starts : List (List WordNote)) × HasOnlyMoved b last t (view_of t).notes starts (view_of u).notes

-- one more
pub moved_again : (b : Board) (last : Mark) (t u v : StrandToken) (m : Moved) → HasRead t u → EachMoved b last t u → HasMovedSince b last u (view_of u).notes (view_of v).notes m → EachMoved b last t v
moved_again b last t u v m h each g = ((view_of u).notes ∷ each.0, ((m, moved_of b last t u (view_of u).notes (view_of v).notes m (ap track_of h.track) g), each.1))

-- of a token all of whose tries moved before
pub judged_since : (b : Board) (last : Mark) (t u v : StrandToken) (found : Option Barrier) → HasRead t u → EachMoved b last t u → IsJudged b last u (view_of u).notes (view_of v).notes found → IsJudgedSince b last t v found
judged_since b last t u v found h each g = record {
  starts = each.0;
  between = (view_of u).notes;
  moved = each.1;
  is = judged_of b last t u (view_of u).notes (view_of v).notes found (ap track_of h.track) h.token g;
}

-- ## A token that waited for a turn

pub noted_not : (t : StrandToken) → HasNoted t t
noted_not t = ([], refl)

pub noted_left : (word : ℕ) (s t u : StrandToken) → HasNoted s t → LeavesIt word t.seat.me u.seat.me → HasNoted s u
noted_left word s t u h leaves = (record { word = word; value = leaves.0 } ∷ h.0, ap (λ m. m.0.notes) leaves.2 ∙ ap (λ ns. record { word = word; value = leaves.0 } ∷ ns) h.1)

pub noted_taken : (key : Key) (aim : Aim) (n : ℕ) (s t u : StrandToken) → HasNoted s t → TakesIt key aim n t.seat.me u.seat.me → HasNoted s u
noted_taken key aim n s t u h takes = (record { word = turn_word n; value = 0 } ∷ h.0, ap (λ m. m.0.notes) takes.after ∙ ap (λ ns. record { word = turn_word n; value = 0 } ∷ ns) h.1)

pub waits_more : (word : ℕ) (s t u : StrandToken) → HasWaited s t → LeavesIt word t.seat.me u.seat.me → u.track ≡ t.track → u.stop ≡ t.stop → token_of u ≡ token_of t → HasWaited s u
waits_more word s t u h leaves track stop token = record {
  notes = record { word = word; value = leaves.0 } ∷ h.notes;
  me = leaves.2 ∙ ap (λ m. (noted_view word leaves.0 m.0, m.1)) h.me;
  track = track ∙ h.track;
  stop = stop ∙ h.stop;
  token = token ∙ h.token;
}
