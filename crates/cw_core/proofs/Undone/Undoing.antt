-- Entries that are undone, one access after another.
use Rattle.std.proofs.Common.{◌≡◌, ℕ, zero, suc, ◌-◌, ◌<◌, List, [], ◌∷◌, length, take, get_or, refl, ap, sym, ◌∙◌, subst, arith, Bool, true, false, cond, Option, Some, None, nat_eq, nat_lt, inl, inr}
use Rattle.std.specs.Prelude.{◌⊎◌, ◌&&◌, filter, slice_get, slice_set, Contains, IfSome}
use Rattle.std.specs.Option.{option_map}
use Rattle.std.specs.List.Sorted.{IsStrictlyIncreasing}
use Rattle.std.proofs.lemmas.Bool.{cases_lt, cases_eq, eq-eqb, ne_eqb, lt-ltb}
use Rattle.std.proofs.lemmas.List.{length-map, length-set}
use Rattle.cw_tree.specs.declared.node.Node.{Node}
use Rattle.cw_tree.specs.declared.access.Mark.{Mark}
use Rattle.cw_tree.specs.declared.access.Entry.{Entry}
use Rattle.cw_tree.specs.AccessStacks.{stamps}
use Rattle.cw_stack.specs.Cells.{CellParts, newest_entry}
use Rattle.cw_stack.proofs.Rising.{above_last, earlier_less, filter_front, stamp_at}
use Rattle.cw_tree.specs.declared.node.Kind.{Kind}
use Rattle.cw_tree.specs.declared.node.Kind.TheVariants.{Strand, Fork, Block, Read, Write, Out, Tried, Cancel}
use Rattle.cw_tree.specs.Nodes.{passes, is_block, is_block_kind, touches_kind, stamp_of, touches}
use Rattle.cw_tree.proofs.NextNodes.Closing.{get_set_same, get_set_other}
use Rattle.cw_tree.proofs.NodeKinds.{node_tells}
use Rattle.cw_core.specs.Undone.{Among, accessed, before_stamp, cut_entries, IsLeftWith, AreCut}

pub get_among : (es : List Entry) (i : ℕ) (e : Entry) → slice_get es i ≡ Some e → Among e es
get_among [] i e at = absurd (cc at)
get_among (x ∷ es) zero e at = inl (let q : x ≡ e = cc at in sym q)
get_among (x ∷ es) (suc i) e at = inr (get_among es i e at)

pub among_stamp : (es : List Entry) (e : Entry) → Among e es → Contains (stamps es) e.mark.stamp
among_stamp [] e i = absurd i
among_stamp (x ∷ es) e (inl q) = (0, omega arith, ap (λ y. y.mark.stamp) (sym q))
among_stamp (x ∷ es) e (inr i) = let z = among_stamp es e i in (suc z.0, (let h = z.1 in omega arith), z.2)

pub filter_alike : (p q : Entry → Bool) (es : List Entry) → ((e : Entry) → Among e es → p e ≡ q e) → filter p es ≡ filter q es
filter_alike p q [] h = refl
filter_alike p q (x ∷ es) h = ap (λ b. cond b (x ∷ filter p es) (filter p es)) (h x (inl refl)) ∙ ap (λ ys. cond (q x) (x ∷ ys) ys) (filter_alike p q es (λ e i. h e (inr i)))

among_cond : (b : Bool) (e x : Entry) (ys : List Entry) → Among e (cond b (x ∷ ys) ys) → ((b ≡ true) × (e ≡ x)) ⊎ Among e ys
among_cond true e x ys (inl q) = inl (refl, q)
among_cond true e x ys (inr i) = inr i
among_cond false e x ys i = inr i

pub among_was : (p : Entry → Bool) (es : List Entry) (e : Entry) → Among e (filter p es) → Among e es × (p e ≡ true)
among_was p [] e i = absurd i
among_was p (x ∷ es) e i = elim (among_cond (p x) e x (filter p es) i) [ inl z ↦ (inl z.1, ap p z.1 ∙ z.0) | inr j ↦ (let z = among_was p es e j in (inr z.0, z.1)) ]

cond_among : (b : Bool) (e x : Entry) (ys : List Entry) → ((b ≡ true) × (e ≡ x)) ⊎ Among e ys → Among e (cond b (x ∷ ys) ys)
cond_among true e x ys (inl z) = inl z.1
cond_among false e x ys (inl z) = absurd (let q = z.0 in cc q)
cond_among true e x ys (inr i) = inr i
cond_among false e x ys (inr i) = i

pub among_filter : (p : Entry → Bool) (es : List Entry) (e : Entry) → Among e es → p e ≡ true → Among e (filter p es)
among_filter p [] e i is = absurd i
among_filter p (x ∷ es) e (inl q) is = cond_among (p x) e x (filter p es) (inl (sym (ap p q) ∙ is, q))
among_filter p (x ∷ es) e (inr i) is = cond_among (p x) e x (filter p es) (inr (among_filter p es e i is))

filter_cond : (p : Entry → Bool) (b : Bool) (x : Entry) (ys : List Entry) → filter p (cond b (x ∷ ys) ys) ≡ cond (b && p x) (x ∷ filter p ys) (filter p ys)
filter_cond p true x ys = refl
filter_cond p false x ys = refl

pub filter_both : (p q : Entry → Bool) (es : List Entry) → filter p (filter q es) ≡ filter (λ e. q e && p e) es
filter_both p q [] = refl
filter_both p q (x ∷ es) = filter_cond p (q x) x (filter q es) ∙ ap (λ ys. cond (q x && p x) (x ∷ ys) ys) (filter_both p q es)

pub filter_true : (es : List Entry) → filter (λ e. true) es ≡ es
filter_true [] = refl
filter_true (x ∷ es) = ap (λ ys. x ∷ ys) (filter_true es)

-- ## Where the newest entry comes before a stamp, all do

newest_less : (o : Option Entry) (mark : Mark) (s : ℕ) → Some mark ≡ option_map (λ e. e.mark) o → mark.stamp < s → IfSome o (λ e. e.mark.stamp < s)
newest_less None mark s q less = absurd (cc q)
newest_less (Some e) mark s q less = let same : mark ≡ e.mark = cc q in omega (arith, ap (λ m. m.stamp) same)

take_all : (es : List Entry) → take (length es) es ≡ es
take_all [] = refl
take_all (x ∷ es) = ap (λ ys. x ∷ ys) (take_all es)

pub all_before : (es : List Entry) (mark : Mark) (s : ℕ) → IsStrictlyIncreasing (stamps es) → Some mark ≡ option_map (λ e. e.mark) (newest_entry es) → mark.stamp < s → before_stamp s es ≡ es
all_before es mark s rise q less =
    let len : length (stamps es) ≡ length es = length-map es (λ x. x.mark.stamp) in
    filter_front (λ e. nat_lt e.mark.stamp s) es (length es)
    (λ i d low l.
    let top = above_last es s (newest_less (newest_entry es) mark s q less) (omega arith) in
    let at : get_or (stamps es) i 0 < s = elim (cases_lt i (length es - 1)) [
      | inl before ↦ (let more = earlier_less (stamps es) rise i (length (stamps es) - 1) (omega arith) (omega arith) in omega arith)
      | inr last ↦ (let same : get_or (stamps es) i 0 ≡ get_or (stamps es) (length (stamps es) - 1) 0 = ap (λ n. get_or (stamps es) n 0) (let g : i ≡ length (stamps es) - 1 = omega arith in g) in omega arith)
    ] in
    lt-ltb (get_or es i d).mark.stamp s (omega (arith, stamp_at es i d l, at)))
    (λ i d le l. absurd (omega arith))
    ∙ take_all es

-- ## An access and its cell

pub touches_is : (t : List Node) (n : ℕ) (x : Node) (d : ℕ) → slice_get t n ≡ Some x → Some d ≡ accessed x.kind → (c : ℕ) → touches t c n ≡ nat_eq d c
touches_is t n x d at is c =
    ap (passes (λ y. touches_kind c y.kind)) at ∙ by x.kind is where
      by : (k : Kind) → Some d ≡ accessed k → touches_kind c k ≡ nat_eq d c
      by (Read e v) q = ap (λ i. nat_eq i c) (let same : e ≡ d = cc q in same)
      by (Write e v) q = ap (λ i. nat_eq i c) (let same : e ≡ d = cc q in same)
      by Strand q = absurd (cc q)
      by Fork q = absurd (cc q)
      by Block q = absurd (cc q)
      by (Out v) q = absurd (cc q)
      by (Tried e) q = absurd (cc q)
      by (Cancel back) q = absurd (cc q)

-- one cell is cut, and the node touches no other
pub cut_one : (t : List Node) (n d : ℕ) (old : List CellParts) (x y : CellParts) → ((c : ℕ) → touches t c n ≡ nat_eq d c) → slice_get old d ≡ Some x → IsLeftWith x y (before_stamp (stamp_of t n) x.entries) → AreCut t n old (slice_set old d y)
cut_one t n d old x y is at left = record {
  len = length-set old d y;
  each = λ c z e.
      elim (cases_eq c d) [
        | inl q ↦
            (let a = get_set_same old d x y at in
            let b = ap (slice_get (slice_set old d y)) q in
            let same : y ≡ z = cc (a, b, e) in
            let P : CellParts → Type 0 = λ z. IsLeftWith x z (cut_entries t n c x.entries) in
            let on : touches t c n ≡ true = is c ∙ eq-eqb d c (sym q) in
            (x, ap (slice_get old) q ∙ at, subst P same (record { first = left.first; cleaned = left.cleaned; entries = left.entries ∙ sym (ap (λ b. cond b (before_stamp (stamp_of t n) x.entries) x.entries) on) })))
        | inr ne ↦
            (let off : touches t c n ≡ false = is c ∙ ne_eqb d c (λ g. ne (sym g)) in
            (z, sym (get_set_other old d c y ne) ∙ e, record { first = refl; cleaned = refl; entries = sym (ap (λ b. cond b (before_stamp (stamp_of t n) z.entries) z.entries) off) }))
      ];
}

pub block_touches : (t : List Node) (c n : ℕ) → is_block t n ≡ true → touches t c n ≡ false
block_touches t c n = node_tells false t (λ x. is_block_kind x.kind) (λ x. touches_kind c x.kind) (λ x. by x.kind) n where
  by : (k : Kind) → is_block_kind k ≡ true → touches_kind c k ≡ false
  by Block e = refl
  by Strand e = absurd (cc e)
  by Fork e = absurd (cc e)
  by (Read d v) e = absurd (cc e)
  by (Write d v) e = absurd (cc e)
  by (Out v) e = absurd (cc e)
  by (Cancel back) e = absurd (cc e)
  by (Tried d) e = absurd (cc e)
