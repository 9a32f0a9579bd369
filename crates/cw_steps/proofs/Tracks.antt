-- Serves `drawn`, `brought` and `turned_track`: what a step makes of a track, of its seat's view and of what the token stands for.
use Rattle.std.proofs.Common.{◌≡◌, ℕ, suc, ◌+◌, Bool, true, false, List, [], ◌∷◌, drop, length, arith, refl, sym, ap, ◌∙◌, subst, add-one}
use Rattle.std.specs.Prelude.{◌==◌, Option, Some, None, if◌then◌else◌}
use Rattle.cw_tree.specs.declared.closed.Halt.{Halt}
use Rattle.cw_log.specs.declared.log.Above.{Above}
use Rattle.cw_log.specs.declared.token.Phase.TheVariants.{Going}
use Rattle.cw_log.specs.declared.token.Side.{Side}
use Rattle.cw_log.specs.declared.token.Side.TheVariants.{Beside, First, Second}
use Rattle.cw_log.specs.declared.token.Stop.{Stop}
use Rattle.cw_log.specs.Tokens as tokens
use Rattle.cw_steps.specs.declared.draw.Draw.{Draw}
use Rattle.cw_steps.specs.declared.draw.Draw.TheVariants as draw
use Rattle.cw_steps.specs.declared.draw.Home.{Home}
use Rattle.cw_steps.specs.declared.draw.Home.TheVariants as home
use Rattle.cw_steps.specs.declared.track.Stood.{Stood}
use Rattle.cw_steps.specs.declared.view.View.{View}
use Rattle.cw_steps.specs.declared.track.Ahead.{Ahead}
use Rattle.cw_steps.specs.declared.view.Coming.{Coming}
use Rattle.cw_steps.specs.Tracks.{TrackParts, drawn, brought, forked_in, turned_track, turned_track_by, turned_on, settled, parted, right_track, joined_track, outer_of, put_first, coming_of, halt_of, first_begun, arounds_of, are_within, begins, one_more, IsBeside, WaitsBeside}
use Rattle.cw_steps.specs.Around.{caught_up, gone_behind, gone_over, outwards, innermost}
use Rattle.cw_steps.specs.Views.{drew_view, gave_view, parted_view, right_view, new_seat_view, joined_view, both_view, kept_halt, stood_at, further_out}
use Rattle.cw_steps.specs.Stands.{stands_for, drawn_token, brought_token, right_token, EndsBlock}
use Rattle.cw_steps.proofs.Tracks.Pending.{first_all, arounds_less, arounds_more, arounds_over, both_within, innermost_around, is_own, more_within, over_or_not, within_less, within_out, within_over, IsOwn}
pub mod Pending

-- ## What a token stands for

-- behind one fork more
one_more_behind : (n : ℕ) (ws : List (List ℕ)) → gone_behind (n + 1) ws ≡ outwards (gone_behind n ws)
one_more_behind n ws = ap (λ (k : ℕ). gone_behind k ws) (add-one n)

module _ (v : View) (h : Option Stop) where
  fork_token : (b : Bool) (left right gap n : ℕ) (c : TrackParts)
      → stands_for (forked_in b (settled c) left right gap n) (drew_view (draw.Fork left right gap) c.behind c.second n v) h
      ≡ (if b then tokens.branched (stands_for c v h) n else tokens.forked (stands_for c v h) n left)
  fork_token true left right gap n c = refl
  fork_token false left right gap n c = refl

  pub drawn_stands : (d : Draw) (n : ℕ) (c : TrackParts) → stands_for (drawn d n c) (drew_view d c.behind c.second n v) h ≡ drawn_token d n (stands_for c v h)
  drawn_stands (draw.Fork left right gap) n c = fork_token (left == right) left right gap n c
  drawn_stands (draw.Access cell wrote x) n c = refl
  drawn_stands (draw.Out x) n c = refl
  drawn_stands (draw.Cancel back) n c = refl
  drawn_stands draw.Begin n c = refl
  drawn_stands (draw.End aborted) n c = refl

  pub brought_stands : (m : Home) (c : TrackParts) → stands_for (brought m c) (gave_view m v) h ≡ brought_token m (stands_for c v h)
  brought_stands (home.Split fork used) c = refl
  brought_stands home.Plain c = refl
  brought_stands (home.Refused x) c = refl
  brought_stands (home.Merge fork used) c = refl
  brought_stands (home.Inline used) c = refl
  brought_stands (home.Early before used) c = refl

  pub parted_stands : (c : TrackParts) → stands_for (parted c) (parted_view false c.behind c.second v) h ≡ stands_for c v h
  parted_stands c = refl

  right_from : (c : TrackParts) (a : Ahead) (x : Option Coming) → x ≡ coming_of (Some a)
      → stands_for (right_track c.own.column c.pending (Some a)) (right_view x (innermost (caught_up c.behind c.second v.arounds)) v) None ≡ right_token (stands_for c v h) a
  right_from c a x e = subst (λ y. stands_for (right_track c.own.column c.pending (Some a)) (right_view y (innermost (caught_up c.behind c.second v.arounds)) v) None ≡ right_token (stands_for c v h) a) (sym e) refl

  pub right_stands : (c : TrackParts) (a : Ahead) → c.ahead ≡ Some a → v.coming ≡ coming_of c.ahead
      → stands_for (right_track c.own.column c.pending c.ahead) (new_seat_view false c.behind c.second v) None ≡ right_token (stands_for c v h) a
  right_stands c a e f = subst (λ y. stands_for (right_track c.own.column c.pending y) (new_seat_view false c.behind c.second v) None ≡ right_token (stands_for c v h) a) (sym e) (right_from c a v.coming (f ∙ ap coming_of e))

  joined_from : (c : TrackParts) (os : List Stood) (d : TrackParts) (w : View) (k : Option Stop) → WaitsBeside os
      → stands_for (joined_track (record c { outer = os }) d) (both_view c.behind c.second v w) (tokens.kept_stop h k) ≡ tokens.taken_in (stands_for (record c { outer = os }) v h) (stands_for d w k)
  joined_from c [] d w k p = absurd p
  joined_from c (o ∷ os) d w k p = refl

  pub joined_stands : (c d : TrackParts) (w : View) (k : Option Stop) → WaitsBeside c.outer
      → stands_for (joined_track c d) (both_view c.behind c.second v w) (tokens.kept_stop h k) ≡ tokens.taken_in (stands_for c v h) (stands_for d w k)
  joined_stands c d w k p = joined_from c c.outer d w k p

-- ## Where a strand stands, in its log and in its seat's view

pub record Agrees (c : TrackParts) (v : View) : Type 0 where
  pub column : v.column ≡ c.column
  pub gap : v.gap ≡ c.gap
  pub word : v.word ≡ c.word
  pub outer : v.outer ≡ outer_of c.outer
  pub coming : v.coming ≡ coming_of c.ahead
  pub arounds : caught_up c.behind c.second v.arounds ≡ arounds_of c.pending c.outer
  pub within : are_within (length c.pending) c.outer ≡ true

pub agrees_too : (c c' : TrackParts) (v v' : View) → c' ≡ c → v' ≡ v → Agrees c v → Agrees c' v'
agrees_too c c' v v' e f a = record {
  column = ap (λ u. u.column) f ∙ a.column ∙ sym (ap (λ d. d.column) e);
  gap = ap (λ u. u.gap) f ∙ a.gap ∙ sym (ap (λ d. d.gap) e);
  word = ap (λ u. u.word) f ∙ a.word ∙ sym (ap (λ d. d.word) e);
  outer = ap (λ u. u.outer) f ∙ a.outer ∙ sym (ap (λ d. outer_of d.outer) e);
  coming = ap (λ u. u.coming) f ∙ a.coming ∙ sym (ap (λ d. coming_of d.ahead) e);
  arounds = (λ i. caught_up (e i).behind (e i).second (f i).arounds) ∙ a.arounds ∙ sym (ap (λ d. arounds_of d.pending d.outer) e);
  within = ap (λ d. are_within (length d.pending) d.outer) e ∙ a.within;
}

abbrev first_stood : List Stood → Stood
first_stood [] = record { side = Second; strand = 0; place = 0; column = 0; gap = 0; word = 0; pending = 0 }
first_stood (o ∷ os) = o

module _ (v : View) (c : TrackParts) (h : Agrees c v) where
  fork_outer : (b : Bool) (left right gap n : ℕ)
      → (if b then v.outer else record { column = v.column; gap = v.gap; word = v.word } ∷ v.outer) ≡ outer_of (forked_in b (settled c) left right gap n).outer
  fork_outer true left right gap n = h.outer
  fork_outer false left right gap n = λ i. record { column = h.column i; gap = h.gap i; word = h.word i } ∷ h.outer i

  fork_coming : (b : Bool) (left right gap n : ℕ) → (if b then v.coming else Some (record { fork = left; column = right; gap = gap })) ≡ coming_of (forked_in b (settled c) left right gap n).ahead
  fork_coming true left right gap n = h.coming
  fork_coming false left right gap n = refl

  fork_word : (b : Bool) (left right gap n : ℕ) → (if b then v.word else 0) ≡ (forked_in b (settled c) left right gap n).word
  fork_word true left right gap n = h.word
  fork_word false left right gap n = refl

  -- around its place, and around the strands that wait
  abbrev now : List (List ℕ)
  now = caught_up c.behind c.second v.arounds

  fork_arounds : (o : Stood) → o.pending ≡ length c.pending → innermost now ∷ now ≡ arounds_of c.pending (o ∷ c.outer)
  fork_arounds o same = (λ i. innermost (h.arounds i) ∷ h.arounds i) ∙ ap (λ (b : List ℕ). b ∷ arounds_of c.pending c.outer) (innermost_around c.pending c.outer)
      ∙ ap (λ (bs : List Above). begins c.pending ∷ arounds_of bs c.outer) (sym (ap (λ (n : ℕ). first_begun n c.pending) same ∙ first_all c.pending))

  begin_arounds : (a : Above) → (a.begin ∷ innermost now) ∷ outwards now ≡ arounds_of (a ∷ c.pending) c.outer
  begin_arounds a = (λ i. (a.begin ∷ innermost (h.arounds i)) ∷ outwards (h.arounds i)) ∙ sym (arounds_more a c.pending c.outer h.within)

  end_arounds : IsOwn c.pending c.outer → drop 1 (innermost now) ∷ outwards now ≡ arounds_of (drop 1 c.pending) c.outer
  end_arounds own = (λ i. drop 1 (innermost (h.arounds i)) ∷ outwards (h.arounds i)) ∙ sym (arounds_less c.pending c.outer own)

  pub drawn_agrees : (d : Draw) (n : ℕ) (s : Option Stop) → EndsBlock d (stands_for c v s) → Agrees (drawn d n c) (drew_view d c.behind c.second n v)
  drawn_agrees (draw.Fork left right gap) n s ends = record {
    column = refl;
    gap = refl;
    word = fork_word (left == right) left right gap n;
    outer = fork_outer (left == right) left right gap n;
    coming = fork_coming (left == right) left right gap n;
    arounds = fork_arounds (first_stood (forked_in (left == right) (settled c) left right gap n).outer) refl;
    within = both_within (length c.pending) (first_stood (forked_in (left == right) (settled c) left right gap n).outer) c.outer (omega arith) h.within;
  }
  drawn_agrees (draw.Access cell wrote x) n s ends = record { column = h.column; gap = h.gap; word = h.word; outer = h.outer; coming = h.coming; arounds = h.arounds; within = h.within }
  drawn_agrees (draw.Out x) n s ends = record { column = h.column; gap = h.gap; word = h.word; outer = h.outer; coming = h.coming; arounds = h.arounds; within = h.within }
  drawn_agrees (draw.Cancel back) n s ends = record { column = h.column; gap = h.gap; word = h.word; outer = h.outer; coming = h.coming; arounds = h.arounds; within = h.within }
  drawn_agrees draw.Begin n s ends = record {
    column = h.column;
    gap = h.gap;
    word = h.word;
    outer = h.outer;
    coming = h.coming;
    arounds = begin_arounds (record { begin = n; column = c.column; attempt = one_more c.tail.aborted });
    within = more_within (length c.pending) (suc (length c.pending)) c.outer (omega arith) h.within;
  }
  drawn_agrees (draw.End aborted) n s ends =
      let own : IsOwn c.pending c.outer = is_own c.pending c.outer now h.arounds h.within ends.1 in
      record { column = h.column; gap = h.gap; word = h.word; outer = h.outer; coming = h.coming; arounds = end_arounds own; within = within_less c.pending c.outer own h.within }

  pub brought_agrees : (m : Home) → Agrees (brought m c) (gave_view m v)
  brought_agrees (home.Split fork used) = record { column = h.column; gap = h.column; word = h.word; outer = h.outer; coming = h.coming; arounds = h.arounds; within = h.within }
  brought_agrees home.Plain = record { column = h.column; gap = h.gap; word = h.word; outer = h.outer; coming = h.coming; arounds = h.arounds; within = h.within }
  brought_agrees (home.Refused x) = record { column = h.column; gap = h.gap; word = h.word; outer = h.outer; coming = h.coming; arounds = h.arounds; within = h.within }
  brought_agrees (home.Merge fork used) = record { column = h.column; gap = h.gap; word = h.word; outer = h.outer; coming = h.coming; arounds = h.arounds; within = h.within }
  brought_agrees (home.Inline used) = record { column = h.column; gap = h.gap; word = h.word; outer = h.outer; coming = h.coming; arounds = h.arounds; within = h.within }
  brought_agrees (home.Early before used) = record { column = h.column; gap = h.gap; word = h.word; outer = h.outer; coming = h.coming; arounds = h.arounds; within = h.within }

  -- where a strand stands that waits
  out_of : (o : Stood) (os : List Stood) → now ≡ arounds_of c.pending (o ∷ os) → outwards now ≡ arounds_of (first_begun o.pending c.pending) os
  out_of o os e = ap outwards e

  joined_from_agrees : (os : List Stood) (d : TrackParts) (w : View) → WaitsBeside os → v.outer ≡ outer_of os → now ≡ arounds_of c.pending os → are_within (length c.pending) os ≡ true
      → Agrees (joined_track (record c { outer = os }) d) (both_view c.behind c.second v w)
  joined_from_agrees [] d w p e around within = absurd p
  joined_from_agrees (o ∷ os) d w p e around within = on_side o.side refl p where
    on_side : (x : Side) → o.side ≡ x → IsBeside x → Agrees (joined_track (record c { outer = o ∷ os }) d) (both_view c.behind c.second v w)
    on_side (Beside fork) is q =
        let f : v.outer ≡ record { column = o.column; gap = o.gap; word = o.word } ∷ outer_of os = e ∙ ap (λ x. put_first x o (outer_of os)) is in record {
          column = ap (λ ws. (stood_at v ws).column) f;
          gap = ap (λ ws. (stood_at v ws).gap) f;
          word = ap (λ ws. (stood_at v ws).word) f;
          outer = ap further_out f;
          coming = h.coming;
          arounds = out_of o os around;
          within = within_out c.pending o os now (out_of o os around) within;
        }
    on_side (First right) is q = absurd q
    on_side Second is q = absurd q

  pub joined_agrees : (d : TrackParts) (w : View) → WaitsBeside c.outer → Agrees (joined_track c d) (both_view c.behind c.second v w)
  joined_agrees d w p = joined_from_agrees c.outer d w p h.outer h.arounds h.within

  -- from one strand of a fork to the next
  turned_from_agrees : (o : Stood) (os : List Stood) (x : Side) → c.outer ≡ o ∷ os → o.side ≡ x → Agrees (turned_on c o os x) v
  turned_from_agrees o os (Beside fork) e is = h
  turned_from_agrees o os (First right) e is =
      let around : now ≡ arounds_of c.pending (o ∷ os) = h.arounds ∙ ap (arounds_of c.pending) e in
      let within : are_within (length c.pending) (o ∷ os) ≡ true = ap (are_within (length c.pending)) (sym e) ∙ h.within in
      let further : outwards (gone_behind c.behind v.arounds) ≡ arounds_of (first_begun o.pending c.pending) os = sym (over_or_not c.second (gone_behind c.behind v.arounds)) ∙ out_of o os around in
      let over : Stood = record o { side = Second } in record {
        column = h.column;
        gap = h.gap;
        word = h.word;
        outer = h.outer ∙ ap outer_of e ∙ ap (λ y. put_first y o (outer_of os)) is;
        coming = h.coming;
        arounds = arounds_over c.pending o os (gone_behind c.behind v.arounds) further within over refl;
        within = within_over c.pending o os (gone_behind c.behind v.arounds) further within over refl;
      }
  turned_from_agrees o os Second e is =
      let around : now ≡ arounds_of c.pending (o ∷ os) = h.arounds ∙ ap (arounds_of c.pending) e in
      let within : are_within (length c.pending) (o ∷ os) ≡ true = ap (are_within (length c.pending)) (sym e) ∙ h.within in
      let further : outwards (gone_behind c.behind v.arounds) ≡ arounds_of (first_begun o.pending c.pending) os = sym (over_or_not c.second (gone_behind c.behind v.arounds)) ∙ out_of o os around in record {
        column = h.column;
        gap = h.gap;
        word = h.word;
        outer = h.outer ∙ ap outer_of e ∙ ap (λ y. put_first y o (outer_of os)) is;
        coming = h.coming;
        arounds = one_more_behind c.behind v.arounds ∙ further;
        within = within_out c.pending o os (gone_behind c.behind v.arounds) further within;
      }

  turned_by_agrees : (os : List Stood) → c.outer ≡ os → Agrees (turned_track_by c os) v
  turned_by_agrees [] e = h
  turned_by_agrees (o ∷ os) e = turned_from_agrees o os o.side e refl

  pub turned_agrees : Agrees (turned_track c) v
  turned_agrees = turned_by_agrees c.outer refl

-- a right strand has the blocks around it that are around the left one
pub right_around : (c : TrackParts) (v : View) (from : ℕ) (x : Option Ahead) (y : Option Coming) → Agrees c v
    → (let d : TrackParts = right_track from c.pending x in let w : View = right_view y (innermost (caught_up c.behind c.second v.arounds)) v in
    caught_up d.behind d.second w.arounds ≡ arounds_of d.pending d.outer)
right_around c v from None None h = ap (λ (b : List ℕ). b ∷ []) (ap innermost h.arounds ∙ innermost_around c.pending c.outer)
right_around c v from None (Some y) h = ap (λ (b : List ℕ). b ∷ []) (ap innermost h.arounds ∙ innermost_around c.pending c.outer)
right_around c v from (Some x) None h = ap (λ (b : List ℕ). b ∷ []) (ap innermost h.arounds ∙ innermost_around c.pending c.outer)
right_around c v from (Some x) (Some y) h = ap (λ (b : List ℕ). b ∷ []) (ap innermost h.arounds ∙ innermost_around c.pending c.outer)

pub right_within : (c : TrackParts) (from : ℕ) (x : Option Ahead) → are_within (length (right_track from c.pending x).pending) (right_track from c.pending x).outer ≡ true
right_within c from None = refl
right_within c from (Some x) = refl

-- ## What a join keeps

kept_as_one : (x y : Option Stop) → kept_halt (halt_of x) (halt_of y) ≡ halt_of (tokens.kept_stop x y)
kept_as_one None y = refl
kept_as_one (Some x) y = refl

pub halts_kept : (a b : Option Halt) (x y : Option Stop) → a ≡ halt_of x → b ≡ halt_of y → kept_halt a b ≡ halt_of (tokens.kept_stop x y)
halts_kept a b x y e f = (λ i. kept_halt (e i) (f i)) ∙ kept_as_one x y

pub here_both : (behind : ℕ) (second : Bool) (v w : View) → w.here ≡ true → joined_view behind second v w ≡ both_view behind second v w
here_both behind second v w e = ap (λ (b : Bool). if b then both_view behind second v w else record v { phase = Going }) e
