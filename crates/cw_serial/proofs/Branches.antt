-- Where one worker stands: the strand that it runs, and the forks on the way down to it. On a left strand the right one is still to
-- come; on a right strand the left one has ended.
use Rattle.std.proofs.Common.{◌≡◌, ℕ, zero, suc, List, [], ◌∷◌, ◌++◌, refl, ap, sym, ◌∙◌, true, false, cond, Some, None, append-nil, append_assoc}
use Rattle.std.specs.Option.{option_or}
use Rattle.std.proofs.lemmas.Bool.{eq-eqb}
use Rattle.cw_strand.specs.Strands.{Strands, is_over}
use Rattle.cw_tree.specs.declared.picks.Turn.{Turn}
use Rattle.cw_serial.specs.StrandTree.{StrandTree, stands, waits, state_at_end, meet, goes_on, at, put}
use Rattle.cw_serial.specs.Machine.{Begun, may_pick}
use Rattle.cw_serial.specs.DepthFirst.{beneath, leftmost}
use Rattle.cw_serial.proofs.Deep.{meet_left, meet_right}
use Rattle.cw_serial.proofs.Turns.{beneath_more}

-- the k-th fork of a strand in which `blocks` blocks are begun
pub data Branch (A : Type 0) : Type 0 where
  on_left : (k blocks : ℕ) (right : A) → Branch A
  on_right : (k blocks forks : ℕ) (left : A) → Branch A

module _ {A : Type 0} where
  abbrev pub turn_at : Branch A → Turn
  turn_at (on_left k b r) = record { fork = k; right = false }
  turn_at (on_right k b n l) = record { fork = k; right = true }

  abbrev pub blocks_at : Branch A → ℕ
  blocks_at (on_left k b r) = b
  blocks_at (on_right k b n l) = b

  -- the name of the strand beneath these forks, the innermost of which comes first
  abbrev pub way : List (Branch A) → List Turn
  way [] = []
  way (x ∷ c) = way c ++ turn_at x ∷ []

  -- all begun blocks, if b of them are begun in that strand
  abbrev pub begun_in : List (Branch A) → ℕ → List Begun
  begun_in c (suc b) = record { strand = way c } ∷ begun_in c b
  begun_in [] zero = []
  begun_in (x ∷ c) zero = begun_in c (blocks_at x)

-- ## Picks

-- a strand may be picked where only strands above it have begun blocks
pub may_pick_beneath : {A : Type 0} (c : List (Branch A)) (b : ℕ) (q : List Turn) → may_pick (begun_in c b) (way c ++ q) ≡ true
may_pick_beneath c (suc b) q = beneath_more (way c) q
may_pick_beneath [] zero q = refl
may_pick_beneath (x ∷ c) zero q = ap (may_pick (begun_in c (blocks_at x))) (append_assoc (way c) (turn_at x ∷ []) q) ∙ may_pick_beneath c (blocks_at x) (turn_at x ∷ q)

pub may_pick_here : {A : Type 0} (c : List (Branch A)) (b : ℕ) → may_pick (begun_in c b) (way c) ≡ true
may_pick_here c b = sym (ap (may_pick (begun_in c b)) (append-nil (way c))) ∙ may_pick_beneath c b []

-- ## All strands

module _ {A : Type 0} (s : Strands A) where
  -- the strands of a machine, where these are beneath the forks
  abbrev pub plugged : List (Branch A) → StrandTree A → StrandTree A
  plugged [] t = t
  plugged (on_left k b r ∷ c) t = plugged c (meet s (goes_on s) k t (goes_on s 0 r))
  plugged (on_right k b n l ∷ c) t = plugged c (meet s (goes_on s) k (stands n l) t)

  -- what waits beside them
  abbrev beside : Branch A → StrandTree A → StrandTree A
  beside (on_left k b r) t = waits k t (goes_on s 0 r)
  beside (on_right k b n l) t = waits k (stands n l) t

  plugged_on : (x : Branch A) (c : List (Branch A)) (t : StrandTree A) → state_at_end s t ≡ None → plugged (x ∷ c) t ≡ plugged c (beside x t)
  plugged_on (on_left k b r) c t e = ap (plugged c) (meet_left s (goes_on s) k t (goes_on s 0 r) e)
  plugged_on (on_right k b n l) c t e = ap (plugged c) (meet_right s (goes_on s) k (stands n l) t e)

  beside_stays : (x : Branch A) (t : StrandTree A) → state_at_end s (beside x t) ≡ None
  beside_stays (on_left k b r) t = refl
  beside_stays (on_right k b n l) t = refl

  at_beside : (x : Branch A) (t : StrandTree A) (p : List Turn) → at s (beside x t) (turn_at x ∷ p) ≡ at s t p
  at_beside (on_left k b r) t p = ap (λ e. cond e (at s t p) None) (eq-eqb k k refl)
  at_beside (on_right k b n l) t p = ap (λ e. cond e (at s t p) None) (eq-eqb k k refl)

  -- a strand stands where it stands beneath the forks
  pub at_plugged : (c : List (Branch A)) (t : StrandTree A) (p : List Turn) → state_at_end s t ≡ None → at s (plugged c t) (way c ++ p) ≡ at s t p
  at_plugged [] t p e = refl
  at_plugged (x ∷ c) t p e =
      ap (λ u. at s u (way (x ∷ c) ++ p)) (plugged_on x c t e)
      ∙ (ap (at s (plugged c (beside x t))) (append_assoc (way c) (turn_at x ∷ []) p)
      ∙ (at_plugged c (beside x t) (turn_at x ∷ p) (beside_stays x t) ∙ at_beside x t p))

  put_beside : (x : Branch A) (c : List (Branch A)) (t : StrandTree A) (p : List Turn) (b : A) → plugged c (put s (beside x t) (turn_at x ∷ p) b) ≡ plugged (x ∷ c) (put s t p b)
  put_beside (on_left k n r) c t p b = refl
  put_beside (on_right k n m l) c t p b = refl

  -- one that becomes another does so beneath the forks
  pub put_plugged : (c : List (Branch A)) (t : StrandTree A) (p : List Turn) (b : A) → state_at_end s t ≡ None → put s (plugged c t) (way c ++ p) b ≡ plugged c (put s t p b)
  put_plugged [] t p b e = refl
  put_plugged (x ∷ c) t p b e =
      ap (λ u. put s u (way (x ∷ c) ++ p) b) (plugged_on x c t e)
      ∙ (ap (λ q. put s (plugged c (beside x t)) q b) (append_assoc (way c) (turn_at x ∷ []) p)
      ∙ (put_plugged c (beside x t) (turn_at x ∷ p) b (beside_stays x t) ∙ put_beside x c t p b))

  -- on a right strand the left one has ended
  abbrev pub HasPassed : List (Branch A) → Type 0
  HasPassed [] = Unit {0}
  HasPassed (on_left k b r ∷ c) = HasPassed c
  HasPassed (on_right k b n l ∷ c) = (is_over (s.want l) ≡ true) × HasPassed c

  leftmost_beside : (x : Branch A) (c : List (Branch A)) (t : StrandTree A) (p : List Turn) → HasPassed (x ∷ c) → leftmost s t ≡ Some p → leftmost s (beside x t) ≡ Some (turn_at x ∷ p)
  leftmost_beside (on_left k b r) c t p h e = ap (λ o. option_or (beneath k false o) (beneath k true (leftmost s (goes_on s 0 r)))) e
  leftmost_beside (on_right k b n l) c t p h e = ap (λ o. option_or (beneath k false o) (beneath k true (leftmost s t))) (ap (λ b. cond b None (Some [])) h.0) ∙ ap (beneath k true) e

  passed_on : (x : Branch A) (c : List (Branch A)) → HasPassed (x ∷ c) → HasPassed c
  passed_on (on_left k b r) c h = h
  passed_on (on_right k b n l) c h = h.1

  -- the strand that is run is the leftmost one
  pub leftmost_plugged : (c : List (Branch A)) (t : StrandTree A) (p : List Turn) → HasPassed c → state_at_end s t ≡ None → leftmost s t ≡ Some p → leftmost s (plugged c t) ≡ Some (way c ++ p)
  leftmost_plugged [] t p h e f = f
  leftmost_plugged (x ∷ c) t p h e f =
      ap (leftmost s) (plugged_on x c t e)
      ∙ (leftmost_plugged c (beside x t) (turn_at x ∷ p) (passed_on x c h) (beside_stays x t) (leftmost_beside x c t p h f)
      ∙ ap Some (sym (append_assoc (way c) (turn_at x ∷ []) p)))
