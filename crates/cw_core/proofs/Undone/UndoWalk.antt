-- A walk beneath a block undoes all that was done there.
use Rattle.std.proofs.Common.{◌≡◌, ◌≢◌, ℕ, ◌<◌, ◌≤◌, List, length, refl, ap, sym, ◌∙◌, subst, arith, Bool, true, false, cond, Some, inl, inr, nat_lt}
use Rattle.std.specs.Prelude.{◌&&◌, not, Contains, filter, slice_get}
use Rattle.cw_tree.specs.declared.node.Node.{Node}
use Rattle.cw_tree.specs.declared.access.Entry.{Entry}
use Rattle.cw_tree.specs.Nodes.{touches_kind, stamp_of, touches}
use Rattle.cw_tree.specs.Walks.{IsRooted, is_ancestor, is_above}
use Rattle.cw_tree.proofs.Walks.Ancestors.{ancestor_self, ancestor_above, above_ancestor}
use Rattle.cw_tree.proofs.Walks.There.{node_there}
use Rattle.cw_open.proofs.Laws.Named.{live_tells}
use Rattle.std.proofs.lemmas.Bool.{and_parts, and_from, cases_lt, cases_Bool, lt-ltb, ltb-true, false_from_ne_true}
use Rattle.std.proofs.lemmas.Option.{slice_get_within, slice_get_cases}
use Rattle.cw_core.proofs.Undone.Undoing.{get_among, among_stamp, among_was, among_filter, filter_alike, filter_both, filter_true, block_touches}
use Rattle.cw_tree.specs.Accesses.{is_live}
use Rattle.cw_tree.specs.AccessStacks.{stamps, access_at}
use Rattle.cw_tree.proofs.NodeKinds.{pending_block}
use Rattle.cw_stack.specs.Cells.{CellParts}
use Rattle.cw_core.specs.Undone.{IsLeftWith, Among, is_beneath, before_stamp, MayCut, AreCut, MayUndo, AreUndone}
use Rattle.cw_core.proofs.Undone.Walking.{ToCome, IsStep, not_left}

-- the entries that are left of a cell are the oldest, and those that are gone were beneath the block
pub record IsFront (t : List Node) (b c : ℕ) (old : List CellParts) (y : CellParts) : Type 0 where
  pub was : CellParts
  pub there : slice_get old c ≡ Some was
  pub keep : ℕ → Bool
  pub left : IsLeftWith was y (filter (λ e. keep e.mark.stamp) was.entries)
  pub front : (i j : ℕ) → i ≤ j → keep j ≡ true → keep i ≡ true
  pub gone : (e : Entry) → Among e was.entries → keep e.mark.stamp ≡ false → is_beneath t b e ≡ true

-- a walk is at node n, and what is left beneath the block is still to come
pub record Undoing (t : List Node) (b : ℕ) (old cells : List CellParts) (n : ℕ) (d : Bool) : Type 0 where
  pub there : n < length t
  pub within : is_ancestor t b n ≡ true
  pub live : is_live t n ≡ true
  pub len : length cells ≡ length old
  pub fronts : (c : ℕ) (y : CellParts) → slice_get cells c ≡ Some y → IsFront t b c old y
  pub comes : (c : ℕ) (y : CellParts) (e : Entry) → slice_get cells c ≡ Some y → Among e y.entries → is_beneath t b e ≡ true → ToCome t n d (access_at t e.mark.stamp)

module _ (t : List Node) (r : IsRooted t) (b : ℕ) (block_there : b < length t) (old : List CellParts) (may : MayUndo t b old) where
  pub starts : Undoing t b old old b true
  starts = record {
    there = block_there;
    within = ancestor_self t b;
    live = may.lives;
    len = refl;
    fronts = λ c y e. record { was = y; there = e; keep = λ i. true; left = record { first = refl; cleaned = refl; entries = sym (filter_true y.entries) }; front = λ i j le k. refl; gone = λ e i off. absurd (cc off) };
    comes = λ c y e at i over. inl (above_ancestor t b (access_at t e.mark.stamp) over);
  }

  -- an access at which a walk is stands beneath the block
  beneath_it : (c n : ℕ) → touches t c n ≡ true → is_ancestor t b n ≡ true → is_above t b n ≡ true
  beneath_it c n touch within =
      let ne : n ≢ b = λ q. absurd (let a = ap (touches t c) q in let x = block_touches t c b (pending_block t b may.pending) in cc (a, x, touch)) in
      sym (ancestor_above t b n ne) ∙ within

  module _ (n : ℕ) (d : Bool) (cells : List CellParts) (w : Undoing t b old cells n d) where
    pub may_cut : MayCut t n cells
    may_cut c touch =
        let z = may.listed c n touch w.live (beneath_it c n touch w.within) in
        let low = slice_get_within old c z.0 z.1 in
        let len = w.len in
        elim (slice_get_cases cells c).1 [
          | inr past ↦ absurd (let le = past.0 in omega arith)
          | inl here ↦
              (let y = here.0 in
              let f = w.fronts c y here.2 in
              let a = f.there in
              let b = z.1 in
              let same : f.was ≡ z.0 = cc (a, b) in (
                y,
                here.2,
                f.left.cleaned ∙ may.whole c f.was f.there,
                λ i e at le.
                    (let kept = among_was (λ e. f.keep e.mark.stamp) f.was.entries e (let P : List Entry → Type 0 = λ es. Among e es in subst P f.left.entries (get_among y.entries i e at)) in
                    let own = z.2 in
                    let stamp = z.4 in
                    let keeps : f.keep own.mark.stamp ≡ true = f.front own.mark.stamp e.mark.stamp (omega (arith, stamp)) kept.1 in
                    let among : Among own f.was.entries = let P : CellParts → Type 0 = λ x. Among own x.entries in subst P (sym same) z.3 in
                    let left : Among own y.entries = let P : List Entry → Type 0 = λ es. Among own es in subst P (sym f.left.entries) (among_filter (λ e. f.keep e.mark.stamp) f.was.entries own among keeps) in
                    let Q : ℕ → Type 0 = λ s. Contains (stamps y.entries) s in
                    subst Q stamp (among_stamp y.entries own left)),
              ))
        ]

    module _ (new : List CellParts) (cut : AreCut t n cells new) where
      cut_front : (c : ℕ) (y z : CellParts) → slice_get cells c ≡ Some y → (x : Bool) → touches t c n ≡ x → IsLeftWith y z (cond x (before_stamp (stamp_of t n) y.entries) y.entries) → IsFront t b c old z
      cut_front c y z at false touch left =
          let f = w.fronts c y at in
          record { was = f.was; there = f.there; keep = f.keep; left = record { first = left.first ∙ f.left.first; cleaned = left.cleaned ∙ f.left.cleaned; entries = left.entries ∙ f.left.entries }; front = f.front; gone = f.gone }
      cut_front c y z at true touch left =
          let f = w.fronts c y at in
          let s = stamp_of t n in
          let own = may.listed c n touch w.live (beneath_it c n touch w.within) in
          let same : f.was ≡ own.0 = (let a = f.there in let b = own.1 in cc (a, b)) in
          let among : Among own.2 f.was.entries = let P : CellParts → Type 0 = λ x. Among own.2 x.entries in subst P (sym same) own.3 in
          let over : is_beneath t b own.2 ≡ true = ap (λ i. is_above t b (access_at t i)) own.4 ∙ ap (is_above t b) (may.named c n touch) ∙ beneath_it c n touch w.within in
          record {
            was = f.was;
            there = f.there;
            keep = λ i. f.keep i && nat_lt i s;
            left = record {
              first = left.first ∙ f.left.first;
              cleaned = left.cleaned ∙ f.left.cleaned;
              entries = left.entries ∙ ap (before_stamp s) f.left.entries ∙ filter_both (λ e. nat_lt e.mark.stamp s) (λ e. f.keep e.mark.stamp) f.was.entries;
            };
            front = λ i j le k. (let z = and_parts (f.keep j) (nat_lt j s) k in let low : j < s = ltb-true j s z.1 in and_from (f.keep i) (nat_lt i s) (f.front i j le z.0) (lt-ltb i s (omega arith)));
            gone = λ e i off.
                elim (cases_Bool (f.keep e.mark.stamp)) [
                  | inr none ↦ f.gone e i none
                  | inl keeps ↦
                      elim (cases_lt e.mark.stamp s) [
                        | inl less ↦ absurd (let on = and_from (f.keep e.mark.stamp) (nat_lt e.mark.stamp s) keeps (lt-ltb e.mark.stamp s less) in cc (on, off))
                        | inr le ↦ may.last c f.was own.2 e f.there among i (omega (arith, own.4)) over
                      ]
                ];
          }

      pub cut_fronts : (c : ℕ) (z : CellParts) → slice_get new c ≡ Some z → IsFront t b c old z
      cut_fronts c z at = let y = cut.each c z at in cut_front c y.0 z y.1 (touches t c n) refl y.2

      pub cut_comes : (c : ℕ) (z : CellParts) (e : Entry) → slice_get new c ≡ Some z → Among e z.entries → is_beneath t b e ≡ true → ToCome t n d (access_at t e.mark.stamp) × (access_at t e.mark.stamp ≢ n)
      cut_comes c z e at i over =
          let y = cut.each c z at in
          let f = w.fronts c y.0 y.1 in
          let P : List Entry → Type 0 = λ es. Among e es in
          let was = cut_was y.0.entries (touches t c n) (subst P y.2.entries i) in
          let first = among_was (λ e. f.keep e.mark.stamp) f.was.entries e (subst P f.left.entries was.0) in
          let told = may.accesses c f.was e f.there first.0 in
          (w.comes c y.0 e y.1 was.0 over, λ q. absurd (let low = was.1 (ap (touches t c) (sym q) ∙ told.0) in let s = told.1 in let g = ap (stamp_of t) q in omega (arith, low, s, g))) where
            cut_was : (y : List Entry) (x : Bool) → Among e (cond x (before_stamp (stamp_of t n) y) y) → Among e y × (x ≡ true → e.mark.stamp < stamp_of t n)
            cut_was y true i = (let g = among_was (λ e. nat_lt e.mark.stamp (stamp_of t n)) y e i in (g.0, λ q. ltb-true e.mark.stamp (stamp_of t n) g.1))
            cut_was y false i = (i, λ q. absurd (cc q))

  -- on to the next node, after the access was cut if a walk came down to it
  pub goes_on : (n : ℕ) (d : Bool) (cells new : List CellParts) (m : ℕ) (e : Bool) → Undoing t b old cells n d → IsStep t r b n d m e → length new ≡ length cells → ((c : ℕ) (z : CellParts) → slice_get new c ≡ Some z → IsFront t b c old z)
      → ((c : ℕ) (z : CellParts) (e : Entry) → slice_get new c ≡ Some z → Among e z.entries → is_beneath t b e ≡ true → ToCome t n d (access_at t e.mark.stamp) × (d ≡ true → access_at t e.mark.stamp ≢ n)) → Undoing t b old new m e
  goes_on n d cells new m down w step len fronts comes = record {
    there = step.there;
    within = step.within;
    live = step.lives w.live;
    len = len ∙ w.len;
    fronts = fronts;
    comes = λ c z e at i over.
        (let x = access_at t e.mark.stamp in
        let was = comes c z e at i over in
        let f = fronts c z at in
        let P : List Entry → Type 0 = λ es. Among e es in
        let told = may.accesses c f.was e f.there (among_was (λ e. f.keep e.mark.stamp) f.was.entries e (subst P f.left.entries i)).0 in
        let low = node_there (λ y. touches_kind c y.kind) t x told.0 in
        step.comes x low was.1 (λ out. false_from_ne_true (is_above t n x) (λ up. absurd (let no = live_tells t x n told.2 up in cc (no, out)))) was.0);
  }

  pub after_cut : (n : ℕ) (d : Bool) (cells new : List CellParts) (m : ℕ) (e : Bool) → Undoing t b old cells n d → IsStep t r b n d m e → AreCut t n cells new → Undoing t b old new m e
  after_cut n d cells new m down w step cut =
      goes_on n d cells new m down w step cut.len (cut_fronts n d cells w new cut) (λ c z e at i over. let x = cut_comes n d cells w new cut c z e at i over in (x.0, λ q. x.1))

  pub after_none : (n : ℕ) (d : Bool) (cells : List CellParts) (m : ℕ) (e : Bool) → Undoing t b old cells n d → IsStep t r b n d m e → d ≡ false → Undoing t b old cells m e
  after_none n d cells m down w step off = goes_on n d cells cells m down w step refl w.fronts (λ c z e at i over. (w.comes c z e at i over, λ q. absurd (cc (q, off))))

  -- the walk has come back to the block
  pub all_undone : (cells : List CellParts) → Undoing t b old cells b false → AreUndone t b old cells
  all_undone cells w = record {
    len = w.len;
    each = λ c y at.
        (let f = w.fronts c y at in (
          f.was,
          f.there,
          record {
            first = f.left.first;
            cleaned = f.left.cleaned;
            entries = f.left.entries ∙ filter_alike (λ e. f.keep e.mark.stamp) (λ e. not (is_beneath t b e)) f.was.entries (λ e i.
                elim (cases_Bool (f.keep e.mark.stamp)) [
                  | inr off ↦ off ∙ ap not (sym (f.gone e i off))
                  | inl on ↦
                      (let P : List Entry → Type 0 = λ es. Among e es in
                      let left = subst P (sym f.left.entries) (among_filter (λ e. f.keep e.mark.stamp) f.was.entries e i on) in
                      let told = may.accesses c f.was e f.there i in
                      let low = node_there (λ y. touches_kind c y.kind) t (access_at t e.mark.stamp) told.0 in
                      let off : is_beneath t b e ≡ false = false_from_ne_true (is_beneath t b e) (λ over. absurd (not_left t r b (access_at t e.mark.stamp) low (above_ancestor t b (access_at t e.mark.stamp) over) (w.comes c y e at left over))) in
                      on ∙ ap not (sym off))
                ]);
          },
        ));
  }
