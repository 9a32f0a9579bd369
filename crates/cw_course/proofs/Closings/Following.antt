-- If a course goes, or stops, the states that its tree tells are those of its strands.
use Rattle.std.proofs.Common.{◌≡◌, ℕ, zero, suc, ◌+◌, ◌<◌, ◌≤◌, List, [], ◌∷◌, ◌++◌, length, refl, ap, sym, ◌∙◌, subst, arith, Bool, true, false, cond, Option, Some, None, inl, inr, append_assoc, append-nil}
use Rattle.std.specs.Prelude.{◌&&◌, ◌||◌, slice_get}
use Rattle.std.proofs.lemmas.Bool.{and_parts, or_cases, not_from_false}
use Rattle.cw_strand.specs.declared.want.Want.TheVariants as want
use Rattle.cw_strand.specs.declared.want.Given.TheVariants.{Nothing, Value, Back as Wrote}
use Rattle.cw_strand.specs.Strands.{Strands, is_over}
use Rattle.cw_tree.specs.declared.node.Node.{Node}
use Rattle.cw_tree.specs.declared.node.Kind.{Kind}
use Rattle.cw_tree.specs.declared.node.Kind.TheVariants.{Strand, Fork, Block, Read, Write, Out, Tried, Cancel}
use Rattle.cw_tree.specs.declared.node.BlockState.{BlockState}
use Rattle.cw_tree.specs.declared.node.BlockState.TheVariants.{Pending, Committed, Aborted}
use Rattle.cw_tree.specs.Nodes.{passes, fresh_node, first_state, is_fork_kind, is_block_kind, is_strand_kind, is_committed_state, parent_of, is_fork, is_committed}
use Rattle.cw_tree.specs.Walks.{IsRooted}
use Rattle.cw_tree.specs.Series.{children, has_later}
use Rattle.cw_tree.specs.Links.{last_child}
use Rattle.cw_record.specs.Coherent.{IsForkOf, IsWanted, StrandEnded, alone, joined, IsJoined, HasNoOpenFork}
use Rattle.cw_course.specs.Courses.{Course, fork, size, Acts, Goes, Stops, starts, acts, commits, aborts, joins, there, within, apart, faults}
use Rattle.cw_record.specs.Replay.{IsAccessOf}
use Rattle.cw_course.proofs.Closings.Children.{is_there, none_is_last, last_is, last_is_child, none_later}
use Rattle.cw_course.proofs.Closings.Told.{through, through_more, after_fork, after_kind, after_node, past, past_all, in_place, before, after, reached, before_here, before_left, before_right}
use Rattle.cw_course.proofs.Closings.Shown.{Leaf, Blocks, Forked, Sides, sides, width, members, Shows, Each}

-- ## Where the strands of a fork stand

pub record Fits (n to : ℕ) (ls rs : Course) (x : Sides) : Type 0 where
  pub before : n ≤ to
  pub left : n + 1 < x.left_base
  pub left_fits : x.left_base + size ls ≤ x.left_to
  pub right : n + 1 < x.right
  pub behind : x.right < x.right_base
  pub right_fits : x.right_base + size rs ≤ x.right_to

pub sides_fit : (column : Option ℕ) (cs ls rs : Course) (stamp base to : ℕ) → base + size (fork cs column stamp ls rs) ≤ to → Fits (base + size cs) to ls rs (sides column cs ls rs (base + size cs) to)
sides_fit None cs ls rs stamp base to h = record { before = omega arith; left = omega arith; left_fits = omega arith; right = omega arith; behind = omega arith; right_fits = omega arith }
sides_fit (Some column) cs ls rs stamp base to h = record { before = omega arith; left = omega arith; left_fits = omega arith; right = omega arith; behind = omega arith; right_fits = omega arith }

module _ {A : Type 0} (s : Strands A) (t : List Node) (rooted : IsRooted t) where
  -- ## The course, by its nodes

  acted : (f : ℕ → A → A) (ns : List ℕ) (a : A) (kind : Kind) (state : BlockState) (b : A) → Acts s a kind b → after_kind s t f ns a kind state ≡ b
  acted f ns a (Read c v) state b d = sym d.1
  acted f ns a (Write c v) state b d = sym d.1
  acted f ns a (Out v) state b d = sym d.1
  acted f ns a (Cancel back) state b d = sym d.2
  acted f ns a (Tried c) state b d = sym d.1
  acted f ns a Strand state b d = absurd d
  acted f ns a Fork state b d = absurd d
  acted f ns a Block state b d = absurd d

  -- a node that is there is left to be gone through
  some_left : (k base n : ℕ) (x : Node) → slice_get t n ≡ Some x → base ≤ n → length t ≤ k + base → 0 < k
  some_left k base n x e h l = let low = is_there t n x e in omega arith

  behind_fork : (k n under stamp : ℕ) (ls rs : Course) (x : Sides) (b left right : A) → Forked t n under stamp ls rs x → through (past s t k) (s.left b) (members ls x.left_base) ≡ left
      → through (past s t k) (s.right b) (members rs x.right_base) ≡ right → after_fork s t (past s t k) b (children t n) ≡ s.joined right left
  behind_fork k n under stamp ls rs x b left right w el er =
      let f = past s t k in
      ap (after_fork s t f b) w.has
      ∙ ap (λ ns. s.joined (through f (s.right b) ns) (through f (s.left b) (children t (n + 1)))) w.right.has
      ∙ ap (λ ns. s.joined (through f (s.right b) (members rs x.right_base)) (through f (s.left b) ns)) w.left.has
      ∙ ap (λ z. s.joined z (through f (s.left b) (members ls x.left_base))) er
      ∙ ap (s.joined right) el

  -- one that goes from a to b leads there through its nodes
  pub comes : (k base under to : ℕ) {a b : A} {cs : Course} → Goes s a cs b → Shows t cs base under to → base + size cs ≤ to → length t ≤ k + base → through (past s t k) a (members cs base) ≡ b
  comes k base under to starts sh h l = refl
  comes zero base under to (acts {cs = cs} g d) sh h l = absurd (let low = some_left 0 base (base + size cs) _ sh.1.there (omega arith) l in omega arith)
  comes (suc k) base under to {a = a} (acts {b = b} {c = c} {cs = cs} {kind = kind} {stamp = stamp} g d) sh h l =
      let n = base + size cs in
      through_more (past s t (suc k)) a (members cs base) n
      ∙ ap (past s t (suc k) n) (comes (suc k) base under to g sh.0 (omega arith) l)
      ∙ ap (after_node s t (past s t k) n b) sh.1.there
      ∙ acted (past s t k) (children t n) b kind (first_state kind) c d
  comes zero base under to (commits {cs = cs} g e j f) sh h l = absurd (let low = some_left 0 base (base + size cs) _ sh.1.there (omega arith) l in omega arith)
  comes (suc k) base under to {a = a} (commits {b = b} {c = c} {cs = cs} {js = js} g e j f) sh h l =
      let n = base + size cs in
      through_more (past s t (suc k)) a (members cs base) n
      ∙ ap (past s t (suc k) n) (comes (suc k) base under to g sh.0 (omega arith) l)
      ∙ ap (after_node s t (past s t k) n b) sh.1.there
      ∙ ap (λ ns. s.answer (through (past s t k) (s.answer b Nothing) ns) Nothing) sh.1.has
      ∙ ap (λ z. s.answer z Nothing) (comes k (n + 1) n (to + width cs) j sh.2 (omega arith) (omega arith))
  comes zero base under to (aborts {cs = cs} g e j) sh h l = absurd (let low = some_left 0 base (base + size cs) _ sh.1.there (omega arith) l in omega arith)
  comes (suc k) base under to {a = a} (aborts {b = b} {cs = cs} {js = js} g e j) sh h l =
      let n = base + size cs in
      through_more (past s t (suc k)) a (members cs base) n
      ∙ ap (past s t (suc k) n) (comes (suc k) base under to g sh.0 (omega arith) l)
      ∙ ap (after_node s t (past s t k) n b) sh.1.there
  comes zero base under to (joins {cs = cs} g e gl lo gr ro) sh h l = absurd (let low = some_left 0 base (base + size cs) _ sh.1.there (omega arith) l in omega arith)
  comes (suc k) base under to {a = a} (joins {b = b} {l = left} {r = right} {cs = cs} {ls = ls} {rs = rs} {column = column} {stamp = stamp} g e gl lo gr ro) sh h l =
      let n = base + size cs in
      let x = sides column cs ls rs n to in
      let z = sides_fit column cs ls rs stamp base to h in
      let zl = z.left in
      let zr = z.right in
      let zb = z.behind in
      through_more (past s t (suc k)) a (members cs base) n
      ∙ ap (past s t (suc k) n) (comes (suc k) base under to g sh.0 z.before l)
      ∙ ap (after_node s t (past s t k) n b) sh.1.there
      ∙ behind_fork k n under stamp ls rs x b left right sh.1
      (comes k x.left_base (n + 1) x.left_to gl sh.2 z.left_fits (omega arith))
      (comes k x.right_base x.right x.right_to gr sh.3 z.right_fits (omega arith))

  -- ## What is known of each node

  abbrev pub B : ℕ → A
  B = before s t

  abbrev pub F : ℕ → A
  F = after s t

  abbrev pub R : ℕ → A
  R = reached s t

  pub record Known (n : ℕ) : Type 0 where
    pub fits : (x : Node) → slice_get t n ≡ Some x → IsWanted s t B F R n x.kind x.state
    pub joined : (is_fork t n && (has_later t n || is_committed t (parent_of t n))) ≡ true → IsJoined s t B F R n

  -- In a strand or block with number p, which begins in state a, these come one after another.
  pub record Place (p : ℕ) (a : A) (ns : List ℕ) : Type 0 where
    pub none : is_fork t p ≡ false
    pub has : children t p ≡ ns
    pub at : in_place s t p (B p) ≡ a

  pub shorter : (p : ℕ) (a : A) (xs : List ℕ) (n : ℕ) (ys : List ℕ) → Place p a ((xs ++ n ∷ []) ++ ys) → Place p a (xs ++ n ∷ ys)
  shorter p a xs n ys w = record { none = w.none; has = w.has ∙ append_assoc xs (n ∷ []) ys; at = w.at }

  pub before_at : (p : ℕ) (a b : A) (xs : List ℕ) (n : ℕ) (ys : List ℕ) → Place p a (xs ++ n ∷ ys) → through (past_all s t) a xs ≡ b → B n ≡ b
  before_at p a b xs n ys w e = before_here s t rooted p n xs ys w.none w.has ∙ ap (λ z. through (past_all s t) z xs) w.at ∙ e

  pub reached_at : (p : ℕ) (a b : A) (ns : List ℕ) → Place p a ns → through (past_all s t) a ns ≡ b → R p ≡ b
  reached_at p a b ns w e = ap (through (past_all s t) (in_place s t p (B p))) w.has ∙ ap (λ z. through (past_all s t) z ns) w.at ∙ e

  -- behind a node of which the state before is known
  after_at : (n : ℕ) (b : A) (x : Node) → B n ≡ b → slice_get t n ≡ Some x → F n ≡ after_kind s t (past s t (length t)) (children t n) b x.kind x.state
  after_at n b x e f = ap (past_all s t n) e ∙ ap (after_node s t (past s t (length t)) n b) f

  one_node : (n : ℕ) (x y : Node) → slice_get t n ≡ Some x → slice_get t n ≡ Some y → x ≡ y
  one_node n x y e f = cc

  known_by : (n : ℕ) (x : Node) → slice_get t n ≡ Some x → IsWanted s t B F R n x.kind x.state → (is_fork t n ≡ true → IsJoined s t B F R n) → Known n
  known_by n x e w j = record {
    fits = λ y f. (let P : Node → Type 0 = λ z. IsWanted s t B F R n z.kind z.state in subst P (one_node n x y e f) w);
    joined = λ p. j (and_parts (is_fork t n) (has_later t n || is_committed t (parent_of t n)) p).0;
  }

  pub no_fork_by : (n : ℕ) (x : Node) → slice_get t n ≡ Some x → is_fork_kind x.kind ≡ false → is_fork t n ≡ false
  no_fork_by n x e plain = ap (passes (λ y. is_fork_kind y.kind)) e ∙ plain

  known_other : (n : ℕ) (x : Node) → slice_get t n ≡ Some x → is_fork_kind x.kind ≡ false → IsWanted s t B F R n x.kind x.state → Known n
  known_other n x e plain w = known_by n x e w (λ f. absurd (let g = no_fork_by n x e plain in cc))

  pub known_strand : (n under : ℕ) → slice_get t n ≡ Some (fresh_node under Strand 0) → Known n
  known_strand n under e = known_other n (fresh_node under Strand 0) e refl tt

  -- ## Acts

  acts_no_fork : (a b : A) (kind : Kind) → Acts s a kind b → is_fork_kind kind ≡ false
  acts_no_fork a b (Read c v) d = refl
  acts_no_fork a b (Write c v) d = refl
  acts_no_fork a b (Out v) d = refl
  acts_no_fork a b (Cancel back) d = refl
  acts_no_fork a b (Tried c) d = refl
  acts_no_fork a b Strand d = refl
  acts_no_fork a b Fork d = absurd d
  acts_no_fork a b Block d = refl

  pub acts_no_block : (a b : A) (kind : Kind) → Acts s a kind b → is_block_kind kind ≡ false
  acts_no_block a b (Read c v) d = refl
  acts_no_block a b (Write c v) d = refl
  acts_no_block a b (Out v) d = refl
  acts_no_block a b (Cancel back) d = refl
  acts_no_block a b (Tried c) d = refl
  acts_no_block a b Strand d = refl
  acts_no_block a b Fork d = refl
  acts_no_block a b Block d = absurd d

  pub acts_no_strand : (a b : A) (kind : Kind) → Acts s a kind b → is_strand_kind kind ≡ false
  acts_no_strand a b (Read c v) d = refl
  acts_no_strand a b (Write c v) d = refl
  acts_no_strand a b (Out v) d = refl
  acts_no_strand a b (Cancel back) d = refl
  acts_no_strand a b (Tried c) d = refl
  acts_no_strand a b Strand d = absurd d
  acts_no_strand a b Fork d = refl
  acts_no_strand a b Block d = refl

  wanted_act : (n : ℕ) (a b : A) (kind : Kind) (state : BlockState) → B n ≡ a → F n ≡ b → Acts s a kind b → IsWanted s t B F R n kind state
  wanted_act n a b (Read c v) state e f d = (ap s.want e ∙ d.0, f ∙ d.1 ∙ ap (λ z. s.answer z (Value v)) (sym e))
  wanted_act n a b (Write c v) state e f d = (ap s.want e ∙ d.0, f ∙ d.1 ∙ ap (λ z. s.answer z Nothing) (sym e))
  wanted_act n a b (Out v) state e f d = (ap s.want e ∙ d.0, f ∙ d.1 ∙ ap (λ z. s.answer z Nothing) (sym e))
  wanted_act n a b (Cancel back) state e f d = (ap s.want e ∙ d.0, f ∙ d.2 ∙ ap (λ z. s.answer z (Wrote back)) (sym e))
  wanted_act n a b (Tried c) state e f d = let P : A → Type 0 = λ z. IsAccessOf c (s.want z) in (subst P (sym e) d.0, f ∙ d.1 ∙ sym e)
  wanted_act n a b Strand state e f d = absurd d
  wanted_act n a b Fork state e f d = absurd d
  wanted_act n a b Block state e f d = absurd d

  known_act : (n under stamp : ℕ) (a b : A) (kind : Kind) → Leaf t n under kind stamp → B n ≡ a → Acts s a kind b → Known n
  known_act n under stamp a b kind leaf e d =
      let x = fresh_node under kind stamp in
      known_other n x leaf.there (acts_no_fork a b kind d)
      (wanted_act n a b kind (first_state kind) e (after_at n a x e leaf.there ∙ acted (past s t (length t)) (children t n) a kind (first_state kind) b d) d)

  -- ## Blocks

  -- in a block stands its course, from its begin on
  pub inside : (n under stamp end : ℕ) (state : BlockState) (b : A) (js : Course) → Blocks t n under state stamp end js → B n ≡ b → Place n (s.answer b Nothing) (members js (n + 1))
  inside n under stamp end state b js w e = record {
    none = no_fork_by n _ w.there refl;
    has = w.has;
    at = ap (λ q. cond q (s.answer (B n) Nothing) (B n)) (ap (passes (λ y. is_block_kind y.kind)) w.there) ∙ ap (λ z. s.answer z Nothing) e;
  }

  known_committed : (n under stamp end to : ℕ) (b c : A) (js : Course) → Blocks t n under Committed stamp end js → Shows t js (n + 1) n to → n + 1 + size js ≤ to → B n ≡ b → s.want b ≡ want.Begin
      → Goes s (s.answer b Nothing) js c → s.want c ≡ want.End → Known n
  known_committed n under stamp end to b c js w sh h e begins j ends =
      let x = record (fresh_node under Block stamp) { state = Committed; end = end } in
      let all : length t ≤ length t + (n + 1) = omega arith in
      let r : R n ≡ c = reached_at n (s.answer b Nothing) c (members js (n + 1)) (inside n under stamp end Committed b js w e) (comes (suc (length t)) (n + 1) n to j sh h (omega arith)) in
      let f : F n ≡ s.answer c Nothing =
      after_at n b x e w.there
      ∙ ap (λ ns. s.answer (through (past s t (length t)) (s.answer b Nothing) ns) Nothing) w.has
      ∙ ap (λ z. s.answer z Nothing) (comes (length t) (n + 1) n to j sh h all) in
      known_other n x w.there refl (ap s.want e ∙ begins, (ap s.want r ∙ ends, f ∙ ap (λ z. s.answer z Nothing) (sym r)))

  known_pending : (n under stamp end : ℕ) (b : A) (js : Course) → Blocks t n under Pending stamp end js → B n ≡ b → s.want b ≡ want.Begin → Known n
  known_pending n under stamp end b js w e begins = known_other n _ w.there refl (ap s.want e ∙ begins, after_at n b _ e w.there ∙ sym e)

  known_aborted : (n under stamp end : ℕ) (b : A) (js : Course) → Blocks t n under Aborted stamp end js → B n ≡ b → s.want b ≡ want.Begin → Known n
  known_aborted n under stamp end b js w e begins = known_other n _ w.there refl (ap s.want e ∙ begins, after_at n b _ e w.there ∙ sym e)

  -- ## Forks

  module _ (n under stamp to : ℕ) (ls rs : Course) (x : Sides) (w : Forked t n under stamp ls rs x) (b : A) (e : B n ≡ b) where
    is_one : is_fork t n ≡ true
    is_one = ap (passes (λ y. is_fork_kind y.kind)) w.there

    pub in_left_strand : Place (n + 1) (s.left b) (members ls x.left_base)
    in_left_strand = record {
      none = no_fork_by (n + 1) _ w.left.there refl;
      has = w.left.has;
      at = ap (λ q. cond q (s.answer (B (n + 1)) Nothing) (B (n + 1))) (ap (passes (λ y. is_block_kind y.kind)) w.left.there)
          ∙ before_left s t rooted n (n + 1) x.right is_one w.has ∙ ap s.left e;
    }

    pub in_right_strand : Place x.right (s.right b) (members rs x.right_base)
    in_right_strand = record {
      none = no_fork_by x.right _ w.right.there refl;
      has = w.right.has;
      at = ap (λ q. cond q (s.answer (B x.right) Nothing) (B x.right)) (ap (passes (λ y. is_block_kind y.kind)) w.right.there)
          ∙ before_right s t rooted n (n + 1) x.right is_one w.has ∙ ap s.right e;
    }

    wanted_fork : s.want b ≡ want.Fork → IsWanted s t B F R n Fork Committed
    wanted_fork forks =
        let P : List ℕ → Type 0 = IsForkOf s t B F R n in
        (ap s.want e ∙ forks, subst P (sym w.has) (before_left s t rooted n (n + 1) x.right is_one w.has, before_right s t rooted n (n + 1) x.right is_one w.has))

  -- behind a fork that is the last in a strand or block which is not committed nothing comes
  last_fork : (n under : ℕ) (xs : List ℕ) (x : Node) → children t under ≡ xs ++ n ∷ [] → slice_get t n ≡ Some x → IsWanted s t B F R n x.kind x.state → is_committed t under ≡ false → Known n
  last_fork n under xs x e at w c = record {
    fits = λ y f. (let P : Node → Type 0 = λ z. IsWanted s t B F R n z.kind z.state in subst P (one_node n x y at f) w);
    joined = λ p.
        absurd
        (elim (or_cases (has_later t n) (is_committed t (parent_of t n)) (and_parts (is_fork t n) (has_later t n || is_committed t (parent_of t n)) p).1) [
          | inl later ↦ (let none = none_later t under xs n e in cc)
          | inr committed ↦ (let up = (last_is_child t under xs n e).parent in let is = ap (is_committed t) up in cc)
        ]);
  }

  pub uncommitted : (n : ℕ) (x : Node) → slice_get t n ≡ Some x → (is_block_kind x.kind && is_committed_state x.state) ≡ false → is_committed t n ≡ false
  uncommitted n x e plain = ap (passes (λ y. is_block_kind y.kind && is_committed_state y.state)) e ∙ plain

  -- ## Where a strand goes on or ends, no fork is open

  no_open_by : (p n : ℕ) (xs : List ℕ) → children t p ≡ xs ++ n ∷ [] → (is_fork t n ≡ true → IsJoined s t B F R n) → HasNoOpenFork s t B F R p
  no_open_by p n xs e j f last is =
      let same : n ≡ f = let here = last_is t p xs n e in cc in
      let P : ℕ → Type 0 = IsJoined s t B F R in
      let Q : ℕ → Type 0 = λ k. is_fork t k ≡ true in
      subst P same (j (subst Q (sym same) is))

  no_open_other : (p n : ℕ) (xs : List ℕ) (x : Node) → children t p ≡ xs ++ n ∷ [] → slice_get t n ≡ Some x → is_fork_kind x.kind ≡ false → HasNoOpenFork s t B F R p
  no_open_other p n xs x e at plain = no_open_by p n xs e (λ f. absurd (let g = no_fork_by n x at plain in cc))

  -- a strand that is over in a place with no open fork has ended
  pub ended_by : (x : ℕ) → is_over (s.want (R x)) ≡ true → HasNoOpenFork s t B F R x → StrandEnded s t B F R x
  ended_by x over shut = by (last_child t x) refl where
    at : (f : ℕ) → last_child t x ≡ Some f → (b : Bool) → is_fork t f ≡ b → StrandEnded s t B F R x
    at f e true is = let j = shut f e is in joined over e is j.strands j.left_ended j.right_ended j.behind
    at f e false plain =
        alone over (λ g h.
        let same : f ≡ g = cc in
        not_from_false (is_fork t g) (sym (ap (is_fork t) same) ∙ plain))

    by : (o : Option ℕ) → last_child t x ≡ o → StrandEnded s t B F R x
    by None e = alone over (λ g h. absurd (cc))
    by (Some f) e = at f e (is_fork t f) refl

  module _ (n under stamp to : ℕ) (ls rs : Course) (x : Sides) (w : Forked t n under stamp ls rs x) (z : Fits n to ls rs x) (b : A) (e : B n ≡ b) (shl : Shows t ls x.left_base (n + 1) x.left_to) (shr : Shows t rs x.right_base x.right x.right_to)
      (left right : A) (gl : Goes s (s.left b) ls left) (lo : is_over (s.want left) ≡ true) (gr : Goes s (s.right b) rs right) (ro : is_over (s.want right) ≡ true) where
    -- both strands of a fork came to their ends
    joined_fork : HasNoOpenFork s t B F R (n + 1) → HasNoOpenFork s t B F R x.right → IsJoined s t B F R n
    joined_fork ol orr =
        let all : (k : ℕ) → length t ≤ length t + k = λ k. omega arith in
        let more : (k : ℕ) → length t ≤ suc (length t) + k = λ k. omega arith in
        let l : R (n + 1) ≡ left =
        reached_at (n + 1) (s.left b) left (members ls x.left_base) (in_left_strand n under stamp to ls rs x w b e) (comes (suc (length t)) x.left_base (n + 1) x.left_to gl shl z.left_fits (more x.left_base)) in
        let r : R x.right ≡ right =
        reached_at x.right (s.right b) right (members rs x.right_base) (in_right_strand n under stamp to ls rs x w b e) (comes (suc (length t)) x.right_base x.right x.right_to gr shr z.right_fits (more x.right_base)) in
        record {
          left = n + 1;
          right = x.right;
          strands = w.has;
          left_ended = ended_by (n + 1) (ap (λ a. is_over (s.want a)) l ∙ lo) ol;
          right_ended = ended_by x.right (ap (λ a. is_over (s.want a)) r ∙ ro) orr;
          behind = after_at n b _ e w.there
              ∙ behind_fork (length t) n under stamp ls rs x b left right w
              (comes (length t) x.left_base (n + 1) x.left_to gl shl z.left_fits (all x.left_base))
              (comes (length t) x.right_base x.right x.right_to gr shr z.right_fits (all x.right_base))
              ∙ ap (λ a. s.joined a left) (sym r) ∙ ap (s.joined (R x.right)) (sym l);
        }

  -- the state before what comes next behind a course
  pub before_next : (base under to : ℕ) (a b : A) (cs : Course) (n : ℕ) (ns : List ℕ) → Goes s a cs b → Shows t cs base under to → base + size cs ≤ to → Place under a (members cs base ++ n ∷ ns) → B n ≡ b
  before_next base under to a b cs n ns g sh h w = before_at under a b (members cs base) n ns w (comes (suc (length t)) base under to g sh h (omega arith))

  -- in a strand that goes by its whole course no fork is open
  pub no_open : (base under to : ℕ) {a b : A} {cs : Course} → Goes s a cs b → Shows t cs base under to → base + size cs ≤ to → Place under a (members cs base) → HasNoOpenFork s t B F R under
  no_open base under to starts sh h w = λ f e is. absurd (let none = none_is_last t under w.has in cc)
  no_open base under to (acts {b = b} {c = c} {cs = cs} {kind = kind} g d) sh h w =
      no_open_other under (base + size cs) (members cs base) _ w.has sh.1.there (acts_no_fork b c kind d)
  no_open base under to (commits {cs = cs} g e j f) sh h w = no_open_other under (base + size cs) (members cs base) _ w.has sh.1.there refl
  no_open base under to (aborts {cs = cs} g e j) sh h w = no_open_other under (base + size cs) (members cs base) _ w.has sh.1.there refl
  no_open base under to {a = a} (joins {b = b} {l = left} {r = right} {cs = cs} {ls = ls} {rs = rs} {column = column} {stamp = stamp} g e gl lo gr ro) sh h w =
      let n = base + size cs in
      let x = sides column cs ls rs n to in
      let z = sides_fit column cs ls rs stamp base to h in
      let at = before_next base under to a b cs n [] g sh.0 z.before w in
      no_open_by under n (members cs base) w.has
      (λ is.
      joined_fork n under stamp to ls rs x sh.1 z b at sh.2 sh.3 left right gl lo gr ro
      (no_open x.left_base (n + 1) x.left_to gl sh.2 z.left_fits (in_left_strand n under stamp to ls rs x sh.1 b at))
      (no_open x.right_base x.right x.right_to gr sh.3 z.right_fits (in_right_strand n under stamp to ls rs x sh.1 b at)))

  -- ## All nodes

  -- all that is in the place
  pub whole : (p : ℕ) (a : A) (ns : List ℕ) → Place p a ns → Place p a (ns ++ [])
  whole p a ns w = record { none = w.none; has = w.has ∙ sym (append-nil ns); at = w.at }

  mutual
    pub each_goes : (base under to : ℕ) (ns : List ℕ) {a b : A} {cs : Course} → Goes s a cs b → Shows t cs base under to → base + size cs ≤ to → Place under a (members cs base ++ ns) → Each Known cs base to
    each_goes base under to ns starts sh h w = tt
    each_goes base under to ns {a = a} (acts {b = b} {c = c} {cs = cs} {kind = kind} {stamp = stamp} g d) sh h w =
        let n = base + size cs in
        let v = shorter under a (members cs base) n ns w in
        (each_goes base under to (n ∷ ns) g sh.0 (omega arith) v, known_act n under stamp b c kind sh.1 (before_next base under to a b cs n ns g sh.0 (omega arith) v) d)
    each_goes base under to ns {a = a} (commits {b = b} {c = c} {cs = cs} {js = js} {stamp = stamp} {end = end} g e j f) sh h w =
        let n = base + size cs in
        let v = shorter under a (members cs base) n ns w in
        let at = before_next base under to a b cs n ns g sh.0 (omega arith) v in (
          each_goes base under to (n ∷ ns) g sh.0 (omega arith) v,
          known_committed n under stamp end (to + width cs) b c js sh.1 sh.2 (omega arith) at e j f,
          each_goes (n + 1) n (to + width cs) [] j sh.2 (omega arith) (whole n _ _ (inside n under stamp end Committed b js sh.1 at)),
        )
    each_goes base under to ns {a = a} (aborts {b = b} {cs = cs} {js = js} {stamp = stamp} {end = end} g e j) sh h w =
        let n = base + size cs in
        let v = shorter under a (members cs base) n ns w in
        let at = before_next base under to a b cs n ns g sh.0 (omega arith) v in (
          each_goes base under to (n ∷ ns) g sh.0 (omega arith) v,
          known_aborted n under stamp end b js sh.1 at e,
          each_stops (n + 1) n (to + width cs) j sh.2 (omega arith) (inside n under stamp end Aborted b js sh.1 at) (uncommitted n _ sh.1.there refl),
        )
    each_goes base under to ns {a = a} (joins {b = b} {l = left} {r = right} {cs = cs} {ls = ls} {rs = rs} {column = column} {stamp = stamp} g e gl lo gr ro) sh h w =
        let n = base + size cs in
        let x = sides column cs ls rs n to in
        let z = sides_fit column cs ls rs stamp base to h in
        let v = shorter under a (members cs base) n ns w in
        let at = before_next base under to a b cs n ns g sh.0 z.before v in
        let wl = in_left_strand n under stamp to ls rs x sh.1 b at in
        let wr = in_right_strand n under stamp to ls rs x sh.1 b at in (
          each_goes base under to (n ∷ ns) g sh.0 z.before v,
          (
            known_by n _ sh.1.there (wanted_fork n under stamp to ls rs x sh.1 b at e)
                (λ is.
                joined_fork n under stamp to ls rs x sh.1 z b at sh.2 sh.3 left right gl lo gr ro
                (no_open x.left_base (n + 1) x.left_to gl sh.2 z.left_fits wl) (no_open x.right_base x.right x.right_to gr sh.3 z.right_fits wr)),
            known_strand (n + 1) n sh.1.left.there,
            known_strand x.right n sh.1.right.there,
          ),
          each_goes x.left_base (n + 1) x.left_to [] gl sh.2 z.left_fits (whole (n + 1) _ _ wl),
          each_goes x.right_base x.right x.right_to [] gr sh.3 z.right_fits (whole x.right _ _ wr),
        )

    pub each_stops : (base under to : ℕ) {a : A} {cs : Course} → Stops s a cs → Shows t cs base under to → base + size cs ≤ to → Place under a (members cs base) → is_committed t under ≡ false → Each Known cs base to
    each_stops base under to {a = a} (there g) sh h w c = each_goes base under to [] g sh h (whole under a _ w)
    each_stops base under to {a = a} (within {b = b} {cs = cs} {js = js} {stamp = stamp} g e j) sh h w c =
        let n = base + size cs in
        let at = before_next base under to a b cs n [] g sh.0 (omega arith) w in (
          each_goes base under to (n ∷ []) g sh.0 (omega arith) w,
          known_pending n under stamp 0 b js sh.1 at e,
          each_stops (n + 1) n (to + width cs) j sh.2 (omega arith) (inside n under stamp 0 Pending b js sh.1 at) (uncommitted n _ sh.1.there refl),
        )
    each_stops base under to {a = a} (apart {b = b} {cs = cs} {ls = ls} {rs = rs} {column = column} {stamp = stamp} g e jl jr) sh h w c =
        let n = base + size cs in
        let x = sides column cs ls rs n to in
        let z = sides_fit column cs ls rs stamp base to h in
        let at = before_next base under to a b cs n [] g sh.0 z.before w in (
          each_goes base under to (n ∷ []) g sh.0 z.before w,
          (
            last_fork n under (members cs base) _ w.has sh.1.there (wanted_fork n under stamp to ls rs x sh.1 b at e) c,
            known_strand (n + 1) n sh.1.left.there,
            known_strand x.right n sh.1.right.there,
          ),
          each_stops x.left_base (n + 1) x.left_to jl sh.2 z.left_fits (in_left_strand n under stamp to ls rs x sh.1 b at) (uncommitted (n + 1) _ sh.1.left.there refl),
          each_stops x.right_base x.right x.right_to jr sh.3 z.right_fits (in_right_strand n under stamp to ls rs x sh.1 b at) (uncommitted x.right _ sh.1.right.there refl),
        )
    each_stops base under to {a = a} (faults g e) sh h w c = each_goes base under to [] g sh h (whole under a _ w)
