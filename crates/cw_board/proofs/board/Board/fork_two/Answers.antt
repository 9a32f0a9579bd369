use Rattle.std.proofs.Common.{ℕ, ◌+◌, ◌≡◌, ◌≢◌, ◌∙◌, ◌<◌, ◌≤◌, Bool, true, false, ap, arith, refl, sym, subst, length}
use Rattle.std.specs.Prelude.{◌==◌, if◌then◌else◌, Some}
use Rattle.std.proofs.lemmas.Bool.{ne_eqb}
use Rattle.cw_log.specs.Tokens.{forked, right_of}
use Rattle.cw_steps.specs.declared.track.Ahead.{Ahead}
use Rattle.cw_steps.specs.declared.view.View.{View}
use Rattle.cw_steps.specs.Stands.{token_of}
use Rattle.cw_steps.specs.Tracks.{CanPart, IsReady}
use Rattle.cw_steps.specs.Views.{columns_for, view_of}
use Rattle.cw_board.specs.Boards.{cells_in}
use Rattle.cw_board.proofs.Forking.{ahead_now, can_fork_shown, left_forks, left_is, right_forks, right_is, tier_more}
use Rattle.cw_board.proofs.Showing.{shown_change, shown_holds, shown_used}
use Rattle.cw_board.proofs.board.Board.fork_two.Goals as goal

apart : (n : ℕ) → n ≢ n + 1
apart n e = omega arith

pub show_tier-requires-clause-few : goal.show_tier-requires-clause-few
show_tier-requires-clause-few c = omega (arith, c.requires.tier.1, c.requires.columns.1)

pub show_tier-requires-clause-changed : goal.show_tier-requires-clause-changed
show_tier-requires-clause-changed c = let q = c.requires.forked in (q.0, q.1, q.3)

pub make_fork-requires-clause-held : goal.make_fork-requires-clause-held
make_fork-requires-clause-held c =
    let h = c.requires.held in
    (h.0, h.1, shown_holds c.args.self.now c.args.tier c.args.token c.show_tier.new.token c.show_tier.ensures.shown h.1 h.0 h.2)

low_gap : (b : Bool) (g l x : ℕ) → g < l → x ≡ (if b then g else l) → x ≤ l
low_gap true g l x less e = omega (arith, less, e)
low_gap false g l x less e = omega (arith, e)

pub make_fork-requires-clause-fits : goal.make_fork-requires-clause-fits
make_fork-requires-clause-fits c =
    let t = c.args.token in
    let v : View = view_of t in
    let h = c.requires.held in
    let q = c.requires.forked in
    let x : ℕ = c.gap_for-gap.result in
    let used : x ≡ (if v.word == 0 then v.gap else c.args.left) =
    subst (λ (w : ℕ). x ≡ (if w == 0 then v.gap else c.args.left)) (c.word.ensures ∙ sym t.word) (subst (λ (g : ℕ). x ≡ (if c.word.result == 0 then g else c.args.left)) (c.gap.ensures ∙ sym t.gap) c.gap_for-gap.ensures) in
    can_fork_shown c.args.self.now c.args.left x q.0 c.args.tier h.1 h.0 t c.show_tier.new.token h.2 c.show_tier.ensures.shown c.requires.aim q.1 q.2 c.requires.columns.0 c.requires.columns.1
    (low_gap (v.word == 0) v.gap c.args.left x c.requires.columns.2 used) used

two : (n : ℕ) → columns_for n (n + 1) ≡ 2
two n = ap {B = ℕ} (λ (r : Bool). if r then 0 else 2) (ne_eqb n (n + 1) (apart n))

pub make_fork-requires-clause-tier : goal.make_fork-requires-clause-tier
make_fork-requires-clause-tier c =
    let b = c.args.self.now in
    let u' = c.show_tier.new.token in
    (c.requires.tier.0, omega (arith, c.requires.tier.1, c.requires.columns.0, two c.args.left, shown_used b c.args.tier c.args.token u' c.show_tier.ensures.shown))

pub make_fork-requires-clause-comes : goal.make_fork-requires-clause-comes
make_fork-requires-clause-comes c =
    let b = c.args.self.now in
    let u' = c.show_tier.new.token in
    let s = c.show_tier.ensures.shown in
    tier_more (columns_for c.args.left (c.args.left + 1)) s.change (view_of u').turns (shown_change b c.args.tier c.args.token u' s (cells_in b) c.requires.held.2.turn) ∙ ap Some s.comes

pub make_fork-requires-clause-ready : goal.make_fork-requires-clause-ready
make_fork-requires-clause-ready c = subst (λ k. IsReady k 3 × CanPart k) (sym c.show_tier.ensures.shown.track) c.requires.ready

pub split_seat-right-requires-clause-ahead : goal.split_seat-right-requires-clause-ahead
split_seat-right-requires-clause-ahead c = λ e.
    let b = c.args.self.now in
    let h = c.requires.held in
    let m = c.make_fork.ensures.made in
    let u = c.show_tier.new.token in
    let holds = shown_holds b c.args.tier c.args.token u c.show_tier.ensures.shown h.1 h.0 h.2 in
    (_, ahead_now b c.args.left (c.args.left + 1) c.gap_for-gap.result m.0 h.1 h.0 u c.make_fork.new.token holds m.1 (apart c.args.left))

pub returns-clause-of : goal.returns-clause-of
returns-clause-of c =
    let b = c.args.self.now in
    let h = c.requires.held in
    let m = c.make_fork.ensures.made in
    let u = c.show_tier.new.token in
    let holds = shown_holds b c.args.tier c.args.token u c.show_tier.ensures.shown h.1 h.0 h.2 in
    let v = c.make_fork.new.token in
    let s = c.split_seat-right.ensures in
    let l = c.split_seat-right.new.token in
    let a : Ahead = record { fork = c.args.left; node = length (token_of u).own.nodes; column = c.args.left + 1; gap = c.gap_for-gap.result } in
    let ahead = ahead_now b c.args.left (c.args.left + 1) c.gap_for-gap.result m.0 h.1 h.0 u v holds m.1 (apart c.args.left) in (
      left_is b c.args.left (c.args.left + 1) c.gap_for-gap.result m.0 h.1 h.0 u v holds m.1 (apart c.args.left) l v.track.behind v.track.second s.table.0 s.left s.slots.0 (s.parted refl).1 (s.parted refl).2,
      right_is b c.args.left (c.args.left + 1) c.gap_for-gap.result m.0 h.1 h.0 u v holds m.1 (apart c.args.left) a c.split_seat-right.result v.track.behind v.track.second s.table.1 s.right s.slots.1 (s.begun refl).1 (s.begun_as refl a ahead),
    )

pub returns-clause-forks : goal.returns-clause-forks
returns-clause-forks c =
    let b = c.args.self.now in
    let h = c.requires.held in
    let m = c.make_fork.ensures.made in
    let u = c.show_tier.new.token in
    let shown = c.show_tier.ensures.shown in
    let holds = shown_holds b c.args.tier c.args.token u shown h.1 h.0 h.2 in
    let v = c.make_fork.new.token in
    let s = c.split_seat-right.ensures in
    let ahead = ahead_now b c.args.left (c.args.left + 1) c.gap_for-gap.result m.0 h.1 h.0 u v holds m.1 (apart c.args.left) in (
      omega (arith, c.requires.columns.2),
      (m.0, left_forks b c.args.left (c.args.left + 1) c.gap_for-gap.result m.0 h.1 h.0 u v holds m.1 (apart c.args.left) c.split_seat-right.new.token (s.parted refl).2 ∙ ap (λ x. forked x m.0 c.args.left) shown.token),
      (c.args.left + 1, right_forks b c.args.left (c.args.left + 1) c.gap_for-gap.result m.0 h.1 h.0 u v holds m.1 (apart c.args.left) c.split_seat-right.result (s.begun_as refl _ ahead) ∙ ap (λ x. right_of x c.args.left (c.args.left + 1)) shown.token),
    )
