-- The tree of a course that stops: its states follow, and where the course goes to its end each live strand has ended.
use Rattle.std.proofs.Common.{◌≡◌, ℕ, zero, suc, ◌+◌, ◌<◌, ◌≤◌, List, [], ◌∷◌, ◌++◌, length, append_assoc, append-nil, cond, refl, ap, sym, ◌∙◌, subst, arith, true, false, Some, inl, inr}
use Rattle.std.specs.Prelude.{◌&&◌, ◌||◌, not, slice_get}
use Rattle.std.specs.List.{list_all}
use Rattle.std.proofs.lemmas.Bool.{and_parts, and_right, or_left, or_right, or_cases, cases_lt, false_from_ne_true}
use Rattle.cw_strand.specs.declared.want.Given.TheVariants.{Nothing}
use Rattle.cw_strand.specs.Strands.{Strands, is_over}
use Rattle.cw_tree.specs.declared.node.Node.{Node}
use Rattle.cw_tree.specs.declared.node.Kind.TheVariants.{Strand}
use Rattle.cw_tree.specs.declared.node.BlockState.TheVariants.{Committed}
use Rattle.cw_tree.specs.Nodes.{passes, fresh_node, is_strand_kind, is_block_kind, is_aborted_state, parent_of, is_strand, is_fork, is_block, is_aborted, is_pending}
use Rattle.cw_tree.specs.Walks.{IsRooted}
use Rattle.cw_tree.specs.Series.{children}
use Rattle.cw_tree.specs.Accesses.{is_live}
use Rattle.cw_tree.proofs.NodeKinds.{strand_no_fork, fork_no_block, block_no_strand, pending_block}
use Rattle.cw_tree.proofs.Walks.There.{pending_there}
use Rattle.cw_tree.proofs.Walks.Climbs.{above_step}
use Rattle.cw_tree.proofs.InOrder.DepthFirst.{IsChild, child_is}
use Rattle.cw_tree.proofs.Lists.{In}
use Rattle.cw_tree.proofs.Members.{in_left, in_right}
use Rattle.cw_record.specs.Coherent.{StrandEnded, Follows}
use Rattle.cw_course.specs.Courses.{Course, nothing, act, block, fork, fault, size, Goes, Stops, starts, acts, commits, aborts, joins}
use Rattle.cw_course.proofs.Closings.Children.{is_there}
use Rattle.cw_course.proofs.Closings.Chains.{AreInPlaces}
use Rattle.cw_course.proofs.Closings.Told.{in_series}
use Rattle.cw_course.proofs.Closings.Shown.{Strands as Stranded, sides, width, members, Shows, Each, at_each}
use Rattle.cw_course.proofs.Closings.Following.{B, F, R, Known, Place, shorter, sides_fit, comes, no_open, ended_by, reached_at, before_next, whole, inside, in_left_strand, in_right_strand, each_stops, acts_no_strand, no_fork_by, known_strand, uncommitted}

-- this tree is that of a strand with this course, and has no other nodes
pub record IsTreeOf (t : List Node) (cs : Course) : Type 0 where
  pub root : Stranded t 0 0 cs 1
  pub shows : Shows t cs 1 0 (1 + size cs)
  pub many : length t ≡ 1 + size cs + width cs

module _ (t : List Node) (rooted : IsRooted t) where
  -- ## What lives

  live_step : (p n : ℕ) → IsChild t p n → is_live t n ≡ (not (is_aborted t p) && is_live t p)
  live_step p n c =
      let P : ℕ → Type 0 = λ q. is_live t n ≡ (not (is_aborted t q) && is_live t q) in
      subst P c.parent (ap (list_all (λ a. not (is_aborted t a))) (above_step t rooted n c.some c.there))

  -- no child of it lives
  abbrev Dead : ℕ → Type 0
  Dead p = (n : ℕ) → IsChild t p n → is_live t n ≡ false

  dead_in : (p : ℕ) → is_aborted t p ≡ true → Dead p
  dead_in p e n c = live_step p n c ∙ ap (λ b. not b && is_live t p) e

  dead_under : (p : ℕ) → is_live t p ≡ false → Dead p
  dead_under p e n c = live_step p n c ∙ and_right (not (is_aborted t p)) (is_live t p) e

  child_at : (p n : ℕ) (xs ys : List ℕ) → children t p ≡ (xs ++ n ∷ []) ++ ys → IsChild t p n
  child_at p n xs ys e =
      let P : List ℕ → Type 0 = In n in
      child_is t p n (subst P (sym e) (in_left n (xs ++ n ∷ []) ys (in_right n xs (n ∷ []) (inl refl))))

  next_to : (p n : ℕ) (xs ys : List ℕ) → children t p ≡ (xs ++ n ∷ []) ++ ys → children t p ≡ xs ++ n ∷ ys
  next_to p n xs ys e = e ∙ append_assoc xs (n ∷ []) ys

  all_in : (p : ℕ) (xs : List ℕ) → children t p ≡ xs → children t p ≡ xs ++ []
  all_in p xs e = e ∙ sym (append-nil xs)

  -- what holds of all nodes of a course, where Q holds of the place in which it stands
  pub record GoesDown (P Q : ℕ → Type 0) : Type 0 where
    pub member : (p n : ℕ) → IsChild t p n → Q p → P n
    pub block : (p n : ℕ) → IsChild t p n → is_block t n ≡ true → Q p → Q n
    pub side : (p n x : ℕ) → IsChild t p n → IsChild t n x → is_strand t x ≡ true → Q p → P x × Q x

  pub is_one : (n under : ℕ) → slice_get t n ≡ Some (fresh_node under Strand 0) → is_strand t n ≡ true
  is_one n under e = ap (passes (λ y. is_strand_kind y.kind)) e

  module _ (P Q : ℕ → Type 0) (d : GoesDown P Q) where
    pub each_down : (cs : Course) (base under to : ℕ) (ns : List ℕ) → Shows t cs base under to → children t under ≡ members cs base ++ ns → Q under → Each P cs base to
    each_down nothing base under to ns sh e q = tt
    each_down (act cs kind stamp) base under to ns sh e q =
        let n = base + size cs in
        (each_down cs base under to (n ∷ ns) sh.0 (next_to under n (members cs base) ns e) q, d.member under n (child_at under n (members cs base) ns e) q)
    each_down (block cs state stamp end js) base under to ns sh e q =
        let n = base + size cs in
        let c = child_at under n (members cs base) ns e in (
          each_down cs base under to (n ∷ ns) sh.0 (next_to under n (members cs base) ns e) q,
          d.member under n c q,
          each_down js (n + 1) n (to + width cs) [] sh.2 (all_in n _ sh.1.has) (d.block under n c (ap (passes (λ y. is_block_kind y.kind)) sh.1.there) q),
        )
    each_down (fork cs column stamp ls rs) base under to ns sh e q =
        let n = base + size cs in
        let x = sides column cs ls rs n to in
        let c = child_at under n (members cs base) ns e in
        let l = d.side under n (n + 1) c (child_at n (n + 1) [] (x.right ∷ []) sh.1.has) (is_one (n + 1) n sh.1.left.there) q in
        let r = d.side under n x.right c (child_at n x.right ((n + 1) ∷ []) [] sh.1.has) (is_one x.right n sh.1.right.there) q in (
          each_down cs base under to (n ∷ ns) sh.0 (next_to under n (members cs base) ns e) q,
          (d.member under n c q, l.0, r.0),
          each_down ls x.left_base (n + 1) x.left_to [] sh.2 (all_in (n + 1) _ sh.1.left.has) l.1,
          each_down rs x.right_base x.right x.right_to [] sh.3 (all_in x.right _ sh.1.right.has) r.1,
        )
    each_down (fault cs kind) base under to ns sh e q = each_down cs base under to ns sh e q

  -- what holds of nodes that do not live holds of all of which the place is dead
  dead_down : (P : ℕ → Type 0) → ((n : ℕ) → is_live t n ≡ false → P n) → GoesDown P Dead
  dead_down P off = record {
    member = λ p n c q. off n (q n c);
    block = λ p n c is q. dead_under n (q n c);
    side = λ p n x c e is q. (let gone = dead_under n (q n c) x e in (off x gone, dead_under x gone));
  }

  -- a pending block stands in a strand or block
  abbrev Holds : ℕ → Type 0
  Holds p = (is_strand t p || is_block t p) ≡ true

  abbrev Held : ℕ → Type 0
  Held n = is_pending t n ≡ true → Holds (parent_of t n)

  held_down : GoesDown Held Holds
  held_down = record {
    member = λ p n c q e. subst Holds (sym c.parent) q;
    block = λ p n c is q. or_right (is_strand t n) (is_block t n) is;
    side = λ p n x c e is q. ((λ w. absurd (let other = block_no_strand t x (pending_block t x w) in cc)), or_left (is_strand t x) (is_block t x) is);
  }

  module _ {A : Type 0} (s : Strands A) where
    -- a live strand has ended
    abbrev Ended : ℕ → Type 0
    Ended n = (is_strand t n && is_live t n) ≡ true → StrandEnded s t (B s t rooted) (F s t rooted) (R s t rooted) n

    ended_dead : (n : ℕ) → is_live t n ≡ false → Ended n
    ended_dead n gone e = absurd (let z = and_parts (is_strand t n) (is_live t n) e in let lives = z.1 in cc)

    ended_other : (n : ℕ) (x : Node) → slice_get t n ≡ Some x → is_strand_kind x.kind ≡ false → Ended n
    ended_other n x at other e = absurd (let z = and_parts (is_strand t n) (is_live t n) e in let is = z.0 in let tells = ap (passes (λ y. is_strand_kind y.kind)) at in cc)

    ended_strand : (base under to : ℕ) (a b : A) (cs : Course) → Goes s a cs b → is_over (s.want b) ≡ true → Shows t cs base under to → base + size cs ≤ to → Place s t rooted under a (members cs base)
        → StrandEnded s t (B s t rooted) (F s t rooted) (R s t rooted) under
    ended_strand base under to a b cs g o sh h w =
        ended_by s t rooted under
        (ap (λ z. is_over (s.want z)) (reached_at s t rooted under a b (members cs base) w (comes s t rooted (suc (length t)) base under to g sh h (omega arith))) ∙ o)
        (no_open s t rooted base under to g sh h w)

    each_ended : (base under to : ℕ) (ns : List ℕ) {a b : A} {cs : Course} → Goes s a cs b → Shows t cs base under to → base + size cs ≤ to → Place s t rooted under a (members cs base ++ ns) → Each Ended cs base to
    each_ended base under to ns starts sh h w = tt
    each_ended base under to ns {a = a} (acts {b = b} {c = c} {cs = cs} {kind = kind} g d) sh h w =
        let n = base + size cs in (
          each_ended base under to (n ∷ ns) g sh.0 (omega arith) (shorter s t rooted under a (members cs base) n ns w),
          ended_other n _ sh.1.there (acts_no_strand s t rooted b c kind d),
        )
    each_ended base under to ns {a = a} (commits {b = b} {c = c} {cs = cs} {js = js} {stamp = stamp} {end = end} g e j f) sh h w =
        let n = base + size cs in
        let v = shorter s t rooted under a (members cs base) n ns w in
        let at = before_next s t rooted base under to a b cs n ns g sh.0 (omega arith) v in (
          each_ended base under to (n ∷ ns) g sh.0 (omega arith) v,
          ended_other n _ sh.1.there refl,
          each_ended (n + 1) n (to + width cs) [] j sh.2 (omega arith) (whole s t rooted n _ _ (inside s t rooted n under stamp end Committed b js sh.1 at)),
        )
    each_ended base under to ns {a = a} (aborts {b = b} {cs = cs} {js = js} g e j) sh h w =
        let n = base + size cs in (
          each_ended base under to (n ∷ ns) g sh.0 (omega arith) (shorter s t rooted under a (members cs base) n ns w),
          ended_other n _ sh.1.there refl,
          each_down Ended Dead (dead_down Ended ended_dead) js (n + 1) n (to + width cs) [] sh.2 (all_in n _ sh.1.has) (dead_in n (ap (passes (λ y. is_block_kind y.kind && is_aborted_state y.state)) sh.1.there)),
        )
    each_ended base under to ns {a = a} (joins {b = b} {l = left} {r = right} {cs = cs} {ls = ls} {rs = rs} {column = column} {stamp = stamp} g e gl lo gr ro) sh h w =
        let n = base + size cs in
        let x = sides column cs ls rs n to in
        let z = sides_fit column cs ls rs stamp base to h in
        let v = shorter s t rooted under a (members cs base) n ns w in
        let at = before_next s t rooted base under to a b cs n ns g sh.0 z.before v in
        let wl = in_left_strand s t rooted n under stamp to ls rs x sh.1 b at in
        let wr = in_right_strand s t rooted n under stamp to ls rs x sh.1 b at in (
          each_ended base under to (n ∷ ns) g sh.0 z.before v,
          (
            ended_other n _ sh.1.there refl,
            λ e. ended_strand x.left_base (n + 1) x.left_to (s.left b) left ls gl lo sh.2 z.left_fits wl,
            λ e. ended_strand x.right_base x.right x.right_to (s.right b) right rs gr ro sh.3 z.right_fits wr,
          ),
          each_ended x.left_base (n + 1) x.left_to [] gl sh.2 z.left_fits (whole s t rooted (n + 1) _ _ wl),
          each_ended x.right_base x.right x.right_to [] gr sh.3 z.right_fits (whole s t rooted x.right _ _ wr),
        )

  -- ## The whole tree

  pub each_node : (cs : Course) → IsTreeOf t cs → (P : ℕ → Type 0) → P 0 → Each P cs 1 (1 + size cs) → (n : ℕ) → n < length t → P n
  each_node cs w P root each zero h = root
  each_node cs w P root each (suc n) h =
      at_each P cs 1 (1 + size cs) (suc n) each (elim (cases_lt (suc n) (1 + size cs)) [ inl l ↦ inl (omega arith, l) | inr l ↦ inr (l, let many = w.many in omega arith) ])

  pub all_held : (cs : Course) → IsTreeOf t cs → AreInPlaces t
  all_held cs w n e =
      each_node cs w Held (λ f. absurd (let other = block_no_strand t 0 (pending_block t 0 f) in let is = is_one 0 0 w.root.there in cc))
      (each_down Held Holds held_down cs 1 0 (1 + size cs) [] w.shows (all_in 0 _ w.root.has) (or_left (is_strand t 0) (is_block t 0) (is_one 0 0 w.root.there))) n (pending_there t n e) e

  module _ {A : Type 0} (s : Strands A) (cs : Course) (w : IsTreeOf t cs) where
    pub at_root : Place s t rooted 0 s.start (members cs 1)
    at_root = record {
      none = no_fork_by s t rooted 0 _ w.root.there refl;
      has = w.root.has;
      at = ap (λ q. cond q (s.answer s.start Nothing) s.start) (ap (passes (λ y. is_block_kind y.kind)) w.root.there);
    }

    pub fits_all : 1 + size cs ≤ 1 + size cs
    fits_all = omega arith

    module _ (st : Stops s s.start cs) where
      known : (n : ℕ) → n < length t → Known s t rooted n
      known =
          each_node cs w (Known s t rooted) (known_strand s t rooted 0 0 w.root.there)
          (each_stops s t rooted 1 0 (1 + size cs) st w.shows fits_all at_root (uncommitted s t rooted 0 _ w.root.there refl))

      known_there : (n : ℕ) (x : Node) → slice_get t n ≡ Some x → Known s t rooted n
      known_there n x e = known n (is_there t n x e)

      pub follows : Follows s t (B s t rooted) (F s t rooted) (R s t rooted)
      follows = record {
        start = refl;
        series = λ n h e.
            in_series s t rooted n
            (elim (or_cases (is_strand t n) (is_block t n) e) [
              | inl is ↦ strand_no_fork t n is
              | inr is ↦ false_from_ne_true (is_fork t n) (λ f. absurd (let other = fork_no_block t n f in cc))
            ]);
        fits = λ n x e. (known_there n x e).fits x e;
        joined = λ f h e. (known f h).joined e;
      }

    module _ (b : A) (g : Goes s s.start cs b) (o : is_over (s.want b) ≡ true) where
      pub live_ended : (x : ℕ) → x < length t → Ended s x
      live_ended =
          each_node cs w (Ended s) (λ e. ended_strand s 1 0 (1 + size cs) s.start b cs g o w.shows fits_all at_root)
          (each_ended s 1 0 (1 + size cs) [] g w.shows fits_all (whole s t rooted 0 _ _ at_root))
