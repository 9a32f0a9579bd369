-- The strand of a fault stands at it, in the innermost of its pending blocks.
use Rattle.std.proofs.Common.{◌≡◌, ℕ, suc, ◌+◌, ◌≤◌, List, [], ◌∷◌, ◌++◌, length, refl, ap, ◌∙◌, subst, arith, Bool, true, false, Some, inl, inr}
use Rattle.std.specs.Prelude.{◌⊎◌, ◌&&◌, slice_get}
use Rattle.cw_code.specs.declared.FaultKind.{FaultKind}
use Rattle.cw_strand.specs.declared.want.Want.TheVariants as want
use Rattle.cw_strand.specs.Strands.{Strands}
use Rattle.cw_tree.specs.declared.node.Node.{Node}
use Rattle.cw_tree.specs.declared.node.BlockState.TheVariants.{Pending, Committed, Aborted}
use Rattle.cw_tree.specs.Nodes.{passes, first_state, is_block_kind, is_pending_state, is_strand, is_pending}
use Rattle.cw_tree.specs.Walks.{IsRooted}
use Rattle.cw_tree.proofs.Lists.{In}
use Rattle.cw_tree.proofs.Members.{in_append}
use Rattle.cw_tree.proofs.InOrder.DepthFirst.{IsChild, child_in}
use Rattle.cw_record.specs.Coherent.{HasNoOpenFork}
use Rattle.cw_course.specs.Courses.{Course, nothing, act, block, fork, fault, size, Goes, Stops, starts, acts, commits, aborts, joins, there, within, apart, faults}
use Rattle.cw_course.proofs.Closings.Children.{last_is_child}
use Rattle.cw_course.proofs.Closings.Shown.{sides, width, members, Shows}
use Rattle.cw_course.proofs.Closings.Chains.{Down, here, deeper}
use Rattle.cw_course.proofs.Closings.Following.{B, F, R, Place, comes, no_open, reached_at, before_next, inside, in_left_strand, in_right_strand, sides_fit, acts_no_block}
use Rattle.cw_course.proofs.Closings.Trees.{IsTreeOf, is_one, at_root}

module _ (kind : FaultKind) (x : ℕ) where
  -- strand x of the tree stands at this fault, as this course in that strand has it
  abbrev pub Faults : Course → (strand base to : ℕ) → Type 0
  Faults nothing strand base to = ⊥
  Faults (act cs did stamp) strand base to = ⊥
  Faults (block cs Pending stamp end js) strand base to = Faults js strand (base + size cs + 1) (to + width cs)
  Faults (block cs Committed stamp end js) strand base to = ⊥
  Faults (block cs Aborted stamp end js) strand base to = ⊥
  Faults (fork cs column stamp ls rs) strand base to =
      let n = base + size cs in
      let y = sides column cs ls rs n to in
      Faults ls (n + 1) y.left_base y.left_to ⊎ Faults rs y.right y.right_base y.right_to
  Faults (fault cs met) strand base to = (met ≡ kind) × (strand ≡ x)

module _ {A : Type 0} (s : Strands A) (t : List Node) (rooted : IsRooted t) (kind : FaultKind) (x : ℕ) where
  -- one that goes on stands at none
  goes_on : (strand base to : ℕ) {a b : A} {cs : Course} → Goes s a cs b → Faults kind x cs strand base to → ⊥
  goes_on strand base to starts f = f
  goes_on strand base to (acts g d) f = f
  goes_on strand base to (commits g e j h) f = f
  goes_on strand base to (aborts g e j) f = f
  goes_on strand base to (joins {cs = cs} {ls = ls} {rs = rs} {column = column} g e gl lo gr ro) f =
      let n = base + size cs in
      let y = sides column cs ls rs n to in
      elim f [ inl i ↦ goes_on (n + 1) y.left_base y.left_to gl i | inr i ↦ goes_on y.right y.right_base y.right_to gr i ]

  at_last : (ns : List ℕ) (k n : ℕ) → In n (ns ++ k ∷ []) → (In n ns → is_pending t n ≡ false) → is_pending t k ≡ false → is_pending t n ≡ false
  at_last ns k n i more e = elim (in_append n ns (k ∷ []) i) [ inl j ↦ more j | inr j ↦ elim j [ inl same ↦ ap (is_pending t) same ∙ e | inr z ↦ absurd z ] ]

  is_pending_by : (n : ℕ) (y : Node) (b : Bool) → slice_get t n ≡ Some y → (is_block_kind y.kind && is_pending_state y.state) ≡ b → is_pending t n ≡ b
  is_pending_by n y b e f = ap (passes (λ z. is_block_kind z.kind && is_pending_state z.state)) e ∙ f

  -- no block right in it is pending
  none_pending : (base under to : ℕ) {a b : A} {cs : Course} → Goes s a cs b → Shows t cs base under to → (n : ℕ) → In n (members cs base) → is_pending t n ≡ false
  none_pending base under to starts sh n i = absurd i
  none_pending base under to (acts {b = b} {c = c} {cs = cs} {kind = k} g d) sh n i =
      at_last (members cs base) (base + size cs) n i (none_pending base under to g sh.0 n)
      (is_pending_by (base + size cs) _ false sh.1.there (ap (λ q. q && is_pending_state (first_state k)) (acts_no_block s t rooted b c k d)))
  none_pending base under to (commits {cs = cs} g e j f) sh n i = at_last (members cs base) (base + size cs) n i (none_pending base under to g sh.0 n) (is_pending_by (base + size cs) _ false sh.1.there refl)
  none_pending base under to (aborts {cs = cs} g e j) sh n i = at_last (members cs base) (base + size cs) n i (none_pending base under to g sh.0 n) (is_pending_by (base + size cs) _ false sh.1.there refl)
  none_pending base under to (joins {cs = cs} g e gl lo gr ro) sh n i = at_last (members cs base) (base + size cs) n i (none_pending base under to g sh.0 n) (is_pending_by (base + size cs) _ false sh.1.there refl)

  -- strand x stands at the fault in q
  pub record StandsIn (q : ℕ) : Type 0 where
    pub strand : is_strand t x ≡ true
    pub wants : s.want (R s t rooted q) ≡ want.Fault kind
    pub shut : HasNoOpenFork s t (B s t rooted) (F s t rooted) (R s t rooted) q

  -- beneath a place in this strand, if that is strand x
  pub record Found (strand under : ℕ) : Type 0 where
    pub place : ℕ
    pub stands : StandsIn place
    pub way : ((strand ≡ x) × Down t under place) ⊎ Down t x place

  in_strand : (y strand under : ℕ) → Found y y → Found strand under
  in_strand y strand under f = record {
    place = f.place;
    stands = f.stands;
    way = inr (elim (f.way) [ inl z ↦ (let P : ℕ → Type 0 = λ k. Down t k f.place in subst P z.0 z.1) | inr d ↦ d ]);
  }

  under_block : (strand under n : ℕ) → IsChild t under n → is_pending t n ≡ true → Found strand n → Found strand under
  under_block strand under n c e f = record {
    place = f.place;
    stands = f.stands;
    way = elim (f.way) [ inl z ↦ inl (z.0, deeper t under n f.place c e z.1) | inr d ↦ inr d ];
  }

  find_fault : (strand base under to : ℕ) {a : A} {cs : Course} → Stops s a cs → Shows t cs base under to → base + size cs ≤ to → Place s t rooted under a (members cs base) → is_strand t strand ≡ true
      → Faults kind x cs strand base to → Found strand under
  find_fault strand base under to (there g) sh h w is f = absurd (goes_on strand base to g f)
  find_fault strand base under to {a = a} (within {b = b} {cs = cs} {js = js} {stamp = stamp} g e j) sh h w is f =
      let n = base + size cs in
      let at = before_next s t rooted base under to a b cs n [] g sh.0 (omega arith) w in
      under_block strand under n (last_is_child t under (members cs base) n w.has) (is_pending_by n _ true sh.1.there refl)
      (find_fault strand (n + 1) n (to + width cs) j sh.2 (omega arith) (inside s t rooted n under stamp 0 Pending b js sh.1 at) is f)
  find_fault strand base under to {a = a} (apart {b = b} {cs = cs} {ls = ls} {rs = rs} {column = column} {stamp = stamp} g e jl jr) sh h w is f =
      let n = base + size cs in
      let y = sides column cs ls rs n to in
      let z = sides_fit column cs ls rs stamp base to h in
      let at = before_next s t rooted base under to a b cs n [] g sh.0 z.before w in
      elim f [
        | inl i ↦
            in_strand (n + 1) strand under
            (find_fault (n + 1) y.left_base (n + 1) y.left_to jl sh.2 z.left_fits (in_left_strand s t rooted n under stamp to ls rs y sh.1 b at) (is_one t rooted (n + 1) n sh.1.left.there) i)
        | inr i ↦
            in_strand y.right strand under
            (find_fault y.right y.right_base y.right y.right_to jr sh.3 z.right_fits (in_right_strand s t rooted n under stamp to ls rs y sh.1 b at) (is_one t rooted y.right n sh.1.right.there) i)
      ]
  find_fault strand base under to {a = a} (faults {b = b} {cs = cs} g e) sh h w is f =
      let P : ℕ → Type 0 = λ k. is_strand t k ≡ true in
      record {
        place = under;
        stands = record {
          strand = subst P f.1 is;
          wants = ap s.want (reached_at s t rooted under a b (members cs base) w (comes s t rooted (suc (length t)) base under to g sh h (omega arith))) ∙ e ∙ ap want.Fault f.0;
          shut = no_open s t rooted base under to g sh h w;
        };
        way = inl (
          f.1,
          record {
            chain = here;
            last = λ n c. (let Q : List ℕ → Type 0 = In n in none_pending base under to g sh n (subst Q w.has (child_in t under n c)));
          },
        );
      }

  -- in the tree of a whole course
  pub record AtFault : Type 0 where
    pub place : ℕ
    pub stands : StandsIn place
    pub way : Down t x place

  pub at_fault : (cs : Course) → IsTreeOf t cs → Stops s s.start cs → Faults kind x cs 0 1 (1 + size cs) → AtFault
  at_fault cs w st f =
      let z = in_strand 0 0 0 (find_fault 0 1 0 (1 + size cs) st w.shows (omega arith) (at_root t rooted s cs w) (is_one t rooted 0 0 w.root.there) f) in
      record { place = z.place; stands = z.stands; way = elim (z.way) [ inl y ↦ (let P : ℕ → Type 0 = λ k. Down t k z.place in subst P y.0 y.1) | inr d ↦ d ] }
