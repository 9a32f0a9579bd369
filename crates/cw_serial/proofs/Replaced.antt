-- A tree of strands in which one strand is replaced by a tree.
use Rattle.std.proofs.Common.{◌≡◌, ℕ, ◌==◌, refl, ap, sym, ◌∙◌, if◌then◌else◌, Bool, true, false, Option, Some, None, List, [], ◌∷◌, ◌++◌}
use Rattle.cw_tree.specs.declared.picks.Turn.{Turn}
use Rattle.cw_strand.specs.Strands.{Strands, is_over, wants_fork}
use Rattle.cw_serial.specs.StrandTree.{StrandTree, stands, waits, side_by, state_at_end, meet, goes_on, at, put}
use Rattle.cw_serial.specs.Spots.{turn_to, Spot, standing, waiting, spot, settle, Apart, IsSettled}
use Rattle.cw_serial.proofs.Sides.{side_same, side_left, side_right, side_none, Way, to_left, to_right, nowhere, way}
use Rattle.cw_serial.proofs.Settled.{settled_stays}

-- this name leads nowhere from that one
abbrev pub Beside : List Turn → List Turn → Type 0
Beside p q = (r : List Turn) → q ≡ p ++ r → ⊥

beside_head : (x y : Turn) (p q : List Turn) → x ≡ y → Beside (x ∷ p) (y ∷ q) → Beside p q
beside_head x y p q e h r f = h r (ap (λ z. z ∷ q) (sym e) ∙ ap (λ z. x ∷ z) f)

module _ {A : Type 0} where
  -- the tree, with another one at a name
  abbrev pub replaced : StrandTree A → List Turn → StrandTree A → StrandTree A
  replaced t [] u = u
  replaced (stands k a) (x ∷ p) u = stands k a
  replaced (waits k l r) (x ∷ p) u = side_by x k (waits k (replaced l p u) r) (waits k l (replaced r p u)) (waits k l r)

  -- ## What is at a name

  pub spot_left : (k : ℕ) (l r : StrandTree A) (p : List Turn) → spot (waits k l r) (turn_to k false ∷ p) ≡ spot l p
  spot_left k l r p = side_left k (spot l p) (spot r p) None

  pub spot_right : (k : ℕ) (l r : StrandTree A) (p : List Turn) → spot (waits k l r) (turn_to k true ∷ p) ≡ spot r p
  spot_right k l r p = side_right k (spot l p) (spot r p) None

  spot_nowhere : (k : ℕ) (l r : StrandTree A) (x : Turn) (p : List Turn) (P : Type 0) (v : Spot A) → Way x k → spot (waits k l r) (x ∷ p) ≡ Some v → (x ≡ turn_to k false → spot l p ≡ Some v → P) → (x ≡ turn_to k true → spot r p ≡ Some v → P) → P
  spot_nowhere k l r x p P v (to_left e) h hl hr = hl e (sym (spot_left k l r p) ∙ (ap (λ y. spot (waits k l r) (y ∷ p)) (sym e) ∙ h))
  spot_nowhere k l r x p P v (to_right e) h hl hr = hr e (sym (spot_right k l r p) ∙ (ap (λ y. spot (waits k l r) (y ∷ p)) (sym e) ∙ h))
  spot_nowhere k l r x p P v (nowhere e) h hl hr = absurd (let none : None ≡ Some v = sym (side_none x k (spot l p) (spot r p) None e) ∙ h in cc)

  -- a name leads on to one side
  pub spot_side : (k : ℕ) (l r : StrandTree A) (x : Turn) (p : List Turn) (P : Type 0) (v : Spot A) → spot (waits k l r) (x ∷ p) ≡ Some v → (x ≡ turn_to k false → spot l p ≡ Some v → P) → (x ≡ turn_to k true → spot r p ≡ Some v → P) → P
  spot_side k l r x p P v = spot_nowhere k l r x p P v (way x k)

  replaced_left : (k : ℕ) (l r : StrandTree A) (p : List Turn) (u : StrandTree A) → replaced (waits k l r) (turn_to k false ∷ p) u ≡ waits k (replaced l p u) r
  replaced_left k l r p u = side_left k (waits k (replaced l p u) r) (waits k l (replaced r p u)) (waits k l r)

  replaced_right : (k : ℕ) (l r : StrandTree A) (p : List Turn) (u : StrandTree A) → replaced (waits k l r) (turn_to k true ∷ p) u ≡ waits k l (replaced r p u)
  replaced_right k l r p u = side_right k (waits k (replaced l p u) r) (waits k l (replaced r p u)) (waits k l r)

  -- in the other tree, and elsewhere
  pub spot_beneath : (t : StrandTree A) (p q : List Turn) (u : StrandTree A) (v : Spot A) → spot t p ≡ Some v → spot (replaced t p u) (p ++ q) ≡ spot u q
  spot_beneath t [] q u v h = refl
  spot_beneath (stands k a) (x ∷ p) q u v h = absurd cc
  spot_beneath (waits k l r) (x ∷ p) q u v h =
      spot_side k l r x p (spot (replaced (waits k l r) (x ∷ p) u) (x ∷ (p ++ q)) ≡ spot u q) v h
      (λ e f. ap (λ y. spot (replaced (waits k l r) (y ∷ p) u) (y ∷ (p ++ q))) e ∙ (ap (λ z. spot z (turn_to k false ∷ (p ++ q))) (replaced_left k l r p u) ∙ (spot_left k (replaced l p u) r (p ++ q) ∙ spot_beneath l p q u v f)))
      (λ e f. ap (λ y. spot (replaced (waits k l r) (y ∷ p) u) (y ∷ (p ++ q))) e ∙ (ap (λ z. spot z (turn_to k true ∷ (p ++ q))) (replaced_right k l r p u) ∙ (spot_right k l (replaced r p u) (p ++ q) ∙ spot_beneath r p q u v f)))

  pub spot_beside : (t : StrandTree A) (p q : List Turn) (u : StrandTree A) → Beside p q → spot (replaced t p u) q ≡ spot t q
  spot_beside t [] q u h = absurd (h q refl)
  spot_beside (stands k a) (x ∷ p) q u h = refl
  spot_beside (waits k l r) (x ∷ p) [] u h = by (way x k) where
    by : Way x k → spot (replaced (waits k l r) (x ∷ p) u) [] ≡ Some (waiting k)
    by (to_left e) = ap (λ y. spot (replaced (waits k l r) (y ∷ p) u) []) e ∙ ap (λ z. spot z []) (replaced_left k l r p u)
    by (to_right e) = ap (λ y. spot (replaced (waits k l r) (y ∷ p) u) []) e ∙ ap (λ z. spot z []) (replaced_right k l r p u)
    by (nowhere e) = ap (λ z. spot z []) (side_none x k (waits k (replaced l p u) r) (waits k l (replaced r p u)) (waits k l r) e)
  spot_beside (waits k l r) (x ∷ p) (y ∷ q) u h = by (way x k) (λ b. spot_beside l p q u b) (λ b. spot_beside r p q u b) where
    by : Way x k → (Beside p q → spot (replaced l p u) q ≡ spot l q) → (Beside p q → spot (replaced r p u) q ≡ spot r q) → spot (replaced (waits k l r) (x ∷ p) u) (y ∷ q) ≡ spot (waits k l r) (y ∷ q)
    by (to_left e) hl hr =
        ap (λ z. spot (replaced (waits k l r) (z ∷ p) u) (y ∷ q)) e
        ∙ (ap (λ z. spot z (y ∷ q)) (replaced_left k l r p u)
        ∙ side_same y k (spot (replaced l p u) q) (spot l q) (spot r q) (spot r q) None (λ f. hl (beside_head x y p q (e ∙ sym f) h)) (λ f. refl))
    by (to_right e) hl hr =
        ap (λ z. spot (replaced (waits k l r) (z ∷ p) u) (y ∷ q)) e
        ∙ (ap (λ z. spot z (y ∷ q)) (replaced_right k l r p u)
        ∙ side_same y k (spot l q) (spot l q) (spot (replaced r p u) q) (spot r q) None (λ f. refl) (λ f. hr (beside_head x y p q (e ∙ sym f) h)))
    by (nowhere e) hl hr = ap (λ z. spot z (y ∷ q)) (side_none x k (waits k (replaced l p u) r) (waits k l (replaced r p u)) (waits k l r) e)

  -- ## The tree itself

  same_stands : (t : StrandTree A) (k : ℕ) (a : A) → spot t [] ≡ Some (standing k a) → t ≡ stands k a
  same_stands (stands i b) k a h = cc
  same_stands (waits i l r) k a h = absurd cc

  -- a standing strand, where it stands
  pub replaced_itself : (t : StrandTree A) (p : List Turn) (k : ℕ) (a : A) → spot t p ≡ Some (standing k a) → replaced t p (stands k a) ≡ t
  replaced_itself t [] k a h = sym (same_stands t k a h)
  replaced_itself (stands i b) (x ∷ p) k a h = absurd cc
  replaced_itself (waits i l r) (x ∷ p) k a h =
      spot_side i l r x p (replaced (waits i l r) (x ∷ p) (stands k a) ≡ waits i l r) (standing k a) h
      (λ e f. ap (λ y. replaced (waits i l r) (y ∷ p) (stands k a)) e ∙ (replaced_left i l r p (stands k a) ∙ ap (λ z. waits i z r) (replaced_itself l p k a f)))
      (λ e f. ap (λ y. replaced (waits i l r) (y ∷ p) (stands k a)) e ∙ (replaced_right i l r p (stands k a) ∙ ap (λ z. waits i l z) (replaced_itself r p k a f)))

  same_waits : (t : StrandTree A) (k i j : ℕ) (x y : A) → spot t [] ≡ Some (waiting k) → spot t (turn_to k false ∷ []) ≡ Some (standing i x) → spot t (turn_to k true ∷ []) ≡ Some (standing j y) → t ≡ waits k (stands i x) (stands j y)
  same_waits (stands n b) k i j x y h hl hr = absurd cc
  same_waits (waits n l r) k i j x y h hl hr =
      let e : n ≡ k = cc in
      let el : l ≡ stands i x = same_stands l i x (sym (spot_left n l r []) ∙ (ap (λ m. spot (waits n l r) (turn_to m false ∷ [])) e ∙ hl)) in
      let er : r ≡ stands j y = same_stands r j y (sym (spot_right n l r []) ∙ (ap (λ m. spot (waits n l r) (turn_to m true ∷ [])) e ∙ hr)) in
      ap (λ m. waits m l r) e ∙ (ap (λ z. waits k z r) el ∙ ap (λ z. waits k (stands i x) z) er)

  -- a strand that waits for two that stand, where it waits
  pub replaced_waiting : (t : StrandTree A) (p : List Turn) (k i j : ℕ) (x y : A) → spot t p ≡ Some (waiting k) → spot t (p ++ turn_to k false ∷ []) ≡ Some (standing i x) → spot t (p ++ turn_to k true ∷ []) ≡ Some (standing j y)
      → replaced t p (waits k (stands i x) (stands j y)) ≡ t
  replaced_waiting t [] k i j x y h hl hr = sym (same_waits t k i j x y h hl hr)
  replaced_waiting (stands n b) (z ∷ p) k i j x y h hl hr = absurd cc
  replaced_waiting (waits n l r) (z ∷ p) k i j x y h hl hr =
      let u : StrandTree A = waits k (stands i x) (stands j y) in
      spot_side n l r z p (replaced (waits n l r) (z ∷ p) u ≡ waits n l r) (waiting k) h
      (λ e f.
      let down = λ (q : List Turn). sym (spot_left n l r q) ∙ ap (λ y. spot (waits n l r) (y ∷ q)) (sym e) in
      ap (λ y. replaced (waits n l r) (y ∷ p) u) e ∙ (replaced_left n l r p u ∙ ap (λ z. waits n z r) (replaced_waiting l p k i j x y f (down (p ++ turn_to k false ∷ []) ∙ hl) (down (p ++ turn_to k true ∷ []) ∙ hr))))
      (λ e f.
      let down = λ (q : List Turn). sym (spot_right n l r q) ∙ ap (λ y. spot (waits n l r) (y ∷ q)) (sym e) in
      ap (λ y. replaced (waits n l r) (y ∷ p) u) e ∙ (replaced_right n l r p u ∙ ap (λ z. waits n l z) (replaced_waiting r p k i j x y f (down (p ++ turn_to k false ∷ []) ∙ hl) (down (p ++ turn_to k true ∷ []) ∙ hr))))

  -- nothing stands beneath a standing strand
  pub spot_under : (t : StrandTree A) (p : List Turn) (k : ℕ) (a : A) (x : Turn) (q : List Turn) → spot t p ≡ Some (standing k a) → spot t (p ++ x ∷ q) ≡ None
  spot_under t p k a x q h = ap (λ z. spot z (p ++ x ∷ q)) (sym (replaced_itself t p k a h)) ∙ spot_beneath t p (x ∷ q) (stands k a) (standing k a) h

module _ {A : Type 0} (s : Strands A) where
  -- what the tree comes to depends on what the other one comes to
  pub settle_replaced : (t : StrandTree A) (p : List Turn) (u v : StrandTree A) → settle s u ≡ settle s v → settle s (replaced t p u) ≡ settle s (replaced t p v)
  settle_replaced t [] u v h = h
  settle_replaced (stands k a) (x ∷ p) u v h = refl
  settle_replaced (waits k l r) (x ∷ p) u v h =
      side_settles x (settle_replaced l p u v h) (settle_replaced r p u v h) where
        side_settles : (x : Turn) → settle s (replaced l p u) ≡ settle s (replaced l p v) → settle s (replaced r p u) ≡ settle s (replaced r p v) → settle s (replaced (waits k l r) (x ∷ p) u) ≡ settle s (replaced (waits k l r) (x ∷ p) v)
        side_settles x hl hr = by (way x k) where
          by : Way x k → settle s (replaced (waits k l r) (x ∷ p) u) ≡ settle s (replaced (waits k l r) (x ∷ p) v)
          by (to_left e) =
              ap (λ y. settle s (replaced (waits k l r) (y ∷ p) u)) e ∙ (ap (settle s) (replaced_left k l r p u) ∙ (ap (λ z. meet s (goes_on s) k z (settle s r)) hl
              ∙ (ap (settle s) (sym (replaced_left k l r p v)) ∙ ap (λ y. settle s (replaced (waits k l r) (y ∷ p) v)) (sym e))))
          by (to_right e) =
              ap (λ y. settle s (replaced (waits k l r) (y ∷ p) u)) e ∙ (ap (settle s) (replaced_right k l r p u) ∙ (ap (meet s (goes_on s) k (settle s l)) hr
              ∙ (ap (settle s) (sym (replaced_right k l r p v)) ∙ ap (λ y. settle s (replaced (waits k l r) (y ∷ p) v)) (sym e))))
          by (nowhere e) = ap (settle s) (side_none x k (waits k (replaced l p u) r) (waits k l (replaced r p u)) (waits k l r) e) ∙ ap (settle s) (sym (side_none x k (waits k (replaced l p v) r) (waits k l (replaced r p v)) (waits k l r) e))

  -- ## What a machine reads and writes

  abbrev pub at_spot : Option (Spot A) → Option A
  at_spot None = None
  at_spot (Some (standing k a)) = Some a
  at_spot (Some (waiting k)) = None

  side_at : (f b : Bool) (o q : Option (Spot A)) → (if f then (if b then at_spot q else at_spot o) else None) ≡ at_spot (if f then (if b then q else o) else None)
  side_at true true o q = refl
  side_at true false o q = refl
  side_at false b o q = refl

  pub at_is : (t : StrandTree A) (p : List Turn) → at s t p ≡ at_spot (spot t p)
  at_is (stands k a) [] = refl
  at_is (stands k a) (x ∷ p) = refl
  at_is (waits k l r) [] = refl
  at_is (waits k l r) (x ∷ p) =
      ap (λ y. side_by x k y (at s r p) None) (at_is l p) ∙ (ap (λ y. side_by x k (at_spot (spot l p)) y None) (at_is r p) ∙ side_at (x.fork == k) x.right (spot l p) (spot r p))

  -- another strand is put where one stands, and all is settled
  pub put_is : (t : StrandTree A) (p : List Turn) (k : ℕ) (a b : A) → IsSettled s t → spot t p ≡ Some (standing k a) → put s t p b ≡ settle s (replaced t p (stands k b))
  put_is (stands n c) [] k a b d h = let e : n ≡ k = cc in ap (λ m. goes_on s m b) e
  put_is (stands n c) (x ∷ p) k a b d h = absurd cc
  put_is (waits n l r) [] k a b d h = absurd cc
  put_is (waits n l r) (x ∷ p) k a b d h =
      spot_side n l r x p (put s (waits n l r) (x ∷ p) b ≡ settle s (replaced (waits n l r) (x ∷ p) (stands k b))) (standing k a) h
      (λ e f.
      ap (λ y. put s (waits n l r) (y ∷ p) b) e
      ∙ (ap (λ z. meet s (goes_on s) n z r) (put_is l p k a b d.0 f)
      ∙ (ap (meet s (goes_on s) n (settle s (replaced l p (stands k b)))) (sym (settled_stays s r d.1))
      ∙ (ap (settle s) (sym (replaced_left n l r p (stands k b))) ∙ ap (λ y. settle s (replaced (waits n l r) (y ∷ p) (stands k b))) (sym e)))))
      (λ e f.
      ap (λ y. put s (waits n l r) (y ∷ p) b) e
      ∙ (ap (meet s (goes_on s) n l) (put_is r p k a b d.1 f)
      ∙ (ap (λ z. meet s (goes_on s) n z (settle s (replaced r p (stands k b)))) (sym (settled_stays s l d.0))
      ∙ (ap (settle s) (sym (replaced_right n l r p (stands k b))) ∙ ap (λ y. settle s (replaced (waits n l r) (y ∷ p) (stands k b))) (sym e)))))

  -- ## Which trees have settled

  -- no standing strand wants a fork, and no two at their ends wait for a join
  abbrev pub NoForks : StrandTree A → Type 0
  NoForks t = (p : List Turn) (k : ℕ) (a : A) → spot t p ≡ Some (standing k a) → wants_fork (s.want a) ≡ false

  abbrev pub NoJoins : StrandTree A → Type 0
  NoJoins t = (p : List Turn) (k i j : ℕ) (x y : A) → spot t p ≡ Some (waiting k) → spot t (p ++ turn_to k false ∷ []) ≡ Some (standing i x) → spot t (p ++ turn_to k true ∷ []) ≡ Some (standing j y)
      → is_over (s.want x) ≡ true → is_over (s.want y) ≡ true → ⊥

  ended_spot : (t : StrandTree A) (x : A) → state_at_end s t ≡ Some x → (i : ℕ) × (spot t [] ≡ Some (standing i x)) × (is_over (s.want x) ≡ true)
  ended_spot (waits k l r) x h = absurd cc
  ended_spot (stands k a) x h = by (is_over (s.want a)) refl h where
    by : (b : Bool) → is_over (s.want a) ≡ b → (if b then Some a else None) ≡ Some x → (i : ℕ) × (spot (stands k a) [] ≡ Some (standing i x)) × (is_over (s.want x) ≡ true)
    by true e f = let same : a ≡ x = cc in (k, ap (λ z. Some (standing k z)) same, ap (λ z. is_over (s.want z)) (sym same) ∙ e)
    by false e f = absurd (cc)

  apart_by : (o q : Option A) → ((x y : A) → o ≡ Some x → q ≡ Some y → ⊥) → Apart s o q
  apart_by None q h = tt
  apart_by (Some x) None h = tt
  apart_by (Some x) (Some y) h = h x y refl refl

  pub settled_by : (t : StrandTree A) → NoForks t → NoJoins t → IsSettled s t
  settled_by (stands k a) forks joins = forks [] k a refl
  settled_by (waits k l r) forks joins = (
    settled_by l (λ p i a e. forks (turn_to k false ∷ p) i a (spot_left k l r p ∙ e)) (λ p n i j x y e f g. joins (turn_to k false ∷ p) n i j x y (spot_left k l r p ∙ e) (spot_left k l r (p ++ turn_to n false ∷ []) ∙ f) (spot_left k l r (p ++ turn_to n true ∷ []) ∙ g)),
    settled_by r (λ p i a e. forks (turn_to k true ∷ p) i a (spot_right k l r p ∙ e)) (λ p n i j x y e f g. joins (turn_to k true ∷ p) n i j x y (spot_right k l r p ∙ e) (spot_right k l r (p ++ turn_to n false ∷ []) ∙ f) (spot_right k l r (p ++ turn_to n true ∷ []) ∙ g)),
    apart_by (state_at_end s l) (state_at_end s r) (λ x y e f.
        let (i, hl, ol) = ended_spot l x e in
        let (j, hr, or) = ended_spot r y f in
        joins [] k i j x y refl (spot_left k l r [] ∙ hl) (spot_right k l r [] ∙ hr) ol or),
  )

  pub settled_no_forks : (t : StrandTree A) → IsSettled s t → NoForks t
  settled_no_forks (stands n b) d [] k a h = let e : b ≡ a = cc in ap (λ z. wants_fork (s.want z)) (sym e) ∙ d
  settled_no_forks (stands n b) d (x ∷ p) k a h = absurd cc
  settled_no_forks (waits n l r) d [] k a h = absurd cc
  settled_no_forks (waits n l r) d (x ∷ p) k a h = spot_side n l r x p (wants_fork (s.want a) ≡ false) (standing k a) h (λ e f. settled_no_forks l d.0 p k a f) (λ e f. settled_no_forks r d.1 p k a f)

  ended_here : (t : StrandTree A) (i : ℕ) (x : A) → spot t [] ≡ Some (standing i x) → is_over (s.want x) ≡ true → state_at_end s t ≡ Some x
  ended_here (waits k l r) i x h o = absurd cc
  ended_here (stands k a) i x h o =
      let same : a ≡ x = cc in
      ap (λ z. if is_over (s.want z) then Some z else None) same ∙ ap (λ b. if b then Some x else None) o

  pub settled_no_joins : (t : StrandTree A) → IsSettled s t → NoJoins t
  settled_no_joins (stands n b) d [] k i j x y h hl hr ol or = cc
  settled_no_joins (stands n b) d (z ∷ p) k i j x y h hl hr ol or = cc
  settled_no_joins (waits n l r) d [] k i j x y h hl hr ol or =
      let e : n ≡ k = cc in
      let el = ended_here l i x (sym (spot_left n l r []) ∙ (ap (λ m. spot (waits n l r) (turn_to m false ∷ [])) e ∙ hl)) ol in
      let er = ended_here r j y (sym (spot_right n l r []) ∙ (ap (λ m. spot (waits n l r) (turn_to m true ∷ [])) e ∙ hr)) or in
      let apart : Apart s (state_at_end s l) (state_at_end s r) = d.2 in
      rw (el, er) at apart
  settled_no_joins (waits n l r) d (z ∷ p) k i j x y h hl hr ol or =
      spot_side n l r z p ⊥ (waiting k) h
      (λ e f.
      let down = λ (q : List Turn). sym (spot_left n l r q) ∙ ap (λ y. spot (waits n l r) (y ∷ q)) (sym e) in
      settled_no_joins l d.0 p k i j x y f (down (p ++ turn_to k false ∷ []) ∙ hl) (down (p ++ turn_to k true ∷ []) ∙ hr) ol or)
      (λ e f.
      let down = λ (q : List Turn). sym (spot_right n l r q) ∙ ap (λ y. spot (waits n l r) (y ∷ q)) (sym e) in
      settled_no_joins r d.1 p k i j x y f (down (p ++ turn_to k false ∷ []) ∙ hl) (down (p ++ turn_to k true ∷ []) ∙ hr) ol or)
