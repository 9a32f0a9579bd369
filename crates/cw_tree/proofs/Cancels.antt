-- What cancels put back.
use Rattle.std.proofs.Common.{◌≡◌, ℕ, ℤ, zero, suc, ◌<◌, List, [], ◌∷◌, ◌++◌, length, map, filter, refl, sym, ◌∙◌, ap, Bool, true, false, cond, Some, inl, inr, nat_lt}
use Rattle.std.specs.Prelude.{◌&&◌, not, is_some, slice_get}
use Rattle.std.specs.List.{list_all}
use Rattle.std.specs.Cmp.{both_ways}
use Rattle.std.proofs.lemmas.Bool.{and_parts, and_from, ltb-true, lt-ltb, not_from_true}
use Rattle.std.proofs.lemmas.List.Folds.{list_all-map}
use Rattle.std.proofs.lemmas.List.Sums.{take_while-cons}
use Rattle.std.proofs.lemmas.Option.{same_Some}
use Rattle.cw_code.specs.declared.Back.{Back}
use Rattle.cw_tree.specs.declared.node.Node.{Node}
use Rattle.cw_tree.specs.declared.node.Kind.{Kind}
use Rattle.cw_tree.specs.declared.node.Kind.TheVariants.{Cancel}
use Rattle.cw_tree.specs.Nodes.{touches_kind, stamp_of, touches, below, all_nodes}
use Rattle.cw_tree.specs.Walks.{is_above}
use Rattle.cw_tree.specs.Accesses.{is_live, live_accesses, written, cell_value}
use Rattle.cw_tree.specs.Cancels.{AreCancels, before_block, put_back, wrote_in}
use Rattle.cw_tree.proofs.Lists.{In, all_from, any_from, any_in}
use Rattle.cw_tree.proofs.Members.{in_below, in_filter, filter_in, below_in}
use Rattle.cw_tree.proofs.InOrder.Keys.{by_key_in, in_by_key}
use Rattle.cw_tree.proofs.Walks.There.{node_there}

abbrev pub is_cancel_kind : Kind → Bool
is_cancel_kind (Cancel back) = true
is_cancel_kind _ = false

-- what all pass, the one at a place passes
pub passes_at : {X : Type 0} (p : X → Bool) (xs : List X) (n : ℕ) (x : X) → list_all p xs ≡ true → slice_get xs n ≡ Some x → p x ≡ true
passes_at p [] n x h e = absurd (cc e)
passes_at p (y ∷ ys) zero x h e = ap p (sym (same_Some y x e)) ∙ (and_parts (p y) (list_all p ys) h).0
passes_at p (y ∷ ys) (suc n) x h e = passes_at p ys n x (and_parts (p y) (list_all p ys) h).1 e

-- a tree without a cancel
pub no_cancels : (t : List Node) (first : List ℤ) → list_all (λ x. not (is_cancel_kind x.kind)) t ≡ true → AreCancels t first
no_cancels t first h n x back e k live =
    let p = passes_at (λ y. not (is_cancel_kind y.kind)) t n x h e in
    absurd (cc (ap (λ kind. not (is_cancel_kind kind)) (sym k) ∙ p))

-- what is put back names cells that are there
pub names_back : (t : List Node) (first : List ℤ) (accesses : ℕ → List ℕ) (b stamp : ℕ) → list_all (λ x. nat_lt x.cell (length first)) (put_back t first accesses b stamp) ≡ true
names_back t first accesses b stamp =
    let cells = filter (λ c. wrote_in t b stamp (accesses c)) (below (length first)) in
    list_all-map (λ (x : Back). nat_lt x.cell (length first)) _ cells
    ∙ all_from (λ c. nat_lt c (length first)) cells (λ c i. lt-ltb c (length first) (in_below c (length first) (in_filter (λ c. wrote_in t b stamp (accesses c)) c (below (length first)) i).0))

-- ## What was written beneath a block

-- n is one of these nodes, a write beneath block b, and has a smaller stamp
pub record IsWroteIn (t : List Node) (b stamp : ℕ) (us : List ℕ) (n : ℕ) : Type 0 where
  pub member : In n us
  pub over : is_above t b n ≡ true
  pub earlier : stamp_of t n < stamp
  pub wrote : is_some (written t n) ≡ true

pub wrote_tells : (t : List Node) (b stamp : ℕ) (us : List ℕ) → wrote_in t b stamp us ≡ true → (n : ℕ) × IsWroteIn t b stamp us n
wrote_tells t b stamp us e =
    let z = any_in (λ u. is_above t b u && nat_lt (stamp_of t u) stamp && is_some (written t u)) us e in
    let y = and_parts (is_above t b z.0 && nat_lt (stamp_of t z.0) stamp) (is_some (written t z.0)) z.2 in
    let x = and_parts (is_above t b z.0) (nat_lt (stamp_of t z.0) stamp) y.0 in
    (z.0, record { member = z.1; over = x.0; earlier = ltb-true (stamp_of t z.0) stamp x.1; wrote = y.1 })

pub wrote_from : (t : List Node) (b stamp : ℕ) (us : List ℕ) (n : ℕ) → IsWroteIn t b stamp us n → wrote_in t b stamp us ≡ true
wrote_from t b stamp us n w =
    any_from (λ u. is_above t b u && nat_lt (stamp_of t u) stamp && is_some (written t u)) n us w.member
    (and_from (is_above t b n && nat_lt (stamp_of t n) stamp) (is_some (written t n))
    (and_from (is_above t b n) (nat_lt (stamp_of t n) stamp) w.over (lt-ltb (stamp_of t n) stamp w.earlier)) w.wrote)

-- two trees tell the same of it, where each finds what the other does
pub wrote_same : (t u : List Node) (b stamp d k : ℕ) (ns ms : List ℕ) → ((n : ℕ) → IsWroteIn t b stamp ns n → (m : ℕ) × IsWroteIn u d k ms m)
    → ((m : ℕ) → IsWroteIn u d k ms m → (n : ℕ) × IsWroteIn t b stamp ns n)
    → wrote_in u d k ms ≡ wrote_in t b stamp ns
wrote_same t u b stamp d k ns ms f g =
    both_ways (wrote_in u d k ms) (wrote_in t b stamp ns)
    (λ e. let z = wrote_tells u d k ms e in let y = g z.0 z.1 in wrote_from t b stamp ns y.0 y.1)
    (λ e. let z = wrote_tells t b stamp ns e in let y = f z.0 z.1 in wrote_from u d k ms y.0 y.1)

-- a live access is an access, and live
pub live_is : (t : List Node) (c n : ℕ) → In n (live_accesses t c) → (touches t c n ≡ true) × (is_live t n ≡ true)
live_is t c n i =
    let p = λ (n : ℕ). touches t c n && is_live t n in
    and_parts (touches t c n) (is_live t n) (in_filter p n (all_nodes t) (by_key_in (stamp_of t) n (filter p (all_nodes t)) i)).1

pub is_live_access : (t : List Node) (c n : ℕ) → touches t c n ≡ true → is_live t n ≡ true → In n (live_accesses t c)
is_live_access t c n e l =
    let p = λ (n : ℕ). touches t c n && is_live t n in
    in_by_key (stamp_of t) n (filter p (all_nodes t))
    (filter_in p n (all_nodes t) (below_in n (length t) (node_there (λ x. touches_kind c x.kind) t n e)) (and_from (touches t c n) (is_live t n) e l))

-- ## What accesses before a block left

-- the value of a cell that had value v, after those of some accesses before the first one beneath block b
abbrev pub left_before : List Node → ℤ → (b : ℕ) → List ℕ → ℤ
left_before t v b us = cell_value v (map (written t) (before_block t b us))

pub before_step : (t : List Node) (b n : ℕ) (ns : List ℕ) → before_block t b (n ∷ ns) ≡ cond (not (is_above t b n)) (n ∷ before_block t b ns) []
before_step t b n ns = take_while-cons (λ u. not (is_above t b u)) n ns

-- in two trees it is the same where their nodes are the same to the block, and wrote the same
pub before_same : {X : Type 0} (t u : List Node) (b d : ℕ) (f g : X → ℕ) (xs : List X)
    → ((x : X) → In x xs → (is_above u d (g x) ≡ is_above t b (f x)) × (written u (g x) ≡ written t (f x)))
    → map (written u) (before_block u d (map g xs)) ≡ map (written t) (before_block t b (map f xs))
before_same t u b d f g [] h = refl
before_same t u b d f g (x ∷ xs) h =
    let z = h x (inl refl) in
    ap (map (written u)) (before_step u d (g x) (map g xs))
    ∙ ap (λ a. map (written u) (cond (not a) (g x ∷ before_block u d (map g xs)) [])) z.0
    ∙ by (is_above t b (f x)) z.1 (before_same t u b d f g xs (λ y i. h y (inr i)))
    ∙ sym (ap (map (written t)) (before_step t b (f x) (map f xs))) where
      by : (a : Bool) → written u (g x) ≡ written t (f x) → map (written u) (before_block u d (map g xs)) ≡ map (written t) (before_block t b (map f xs))
          → map (written u) (cond (not a) (g x ∷ before_block u d (map g xs)) []) ≡ map (written t) (cond (not a) (f x ∷ before_block t b (map f xs)) [])
      by true w e = refl
      by false w e = ap (λ y. y ∷ map (written u) (before_block u d (map g xs))) w ∙ ap (λ ys. written t (f x) ∷ ys) e

-- what comes behind one beneath the block does not count
pub before_front : (t : List Node) (b : ℕ) (ns ms : List ℕ) (n : ℕ) → In n ns → is_above t b n ≡ true → before_block t b (ns ++ ms) ≡ before_block t b ns
before_front t b [] ms n i over = absurd i
before_front t b (k ∷ ns) ms n (inl e) over =
    before_step t b k (ns ++ ms)
    ∙ ap (λ a. cond a (k ∷ before_block t b (ns ++ ms)) []) beneath
    ∙ sym (before_step t b k ns ∙ ap (λ a. cond a (k ∷ before_block t b ns) []) beneath) where
      beneath : not (is_above t b k) ≡ false
      beneath = not_from_true (is_above t b k) (ap (is_above t b) (sym e) ∙ over)
before_front t b (k ∷ ns) ms n (inr i) over =
    before_step t b k (ns ++ ms)
    ∙ ap (λ xs. cond (not (is_above t b k)) (k ∷ xs) []) (before_front t b ns ms n i over)
    ∙ sym (before_step t b k ns)

-- ## A list of what is put back

-- its cells, and the value of each, determine it
pub backs_are : (f : ℕ → ℤ) (back : List Back) (cs : List ℕ) → map (λ x. x.cell) back ≡ cs → ((x : Back) → In x back → x.value ≡ f x.cell)
    → back ≡ map (λ c. record { cell = c; value = f c }) cs
backs_are f [] [] e h = refl
backs_are f [] (c ∷ cs) e h = absurd (cc e)
backs_are f (x ∷ back) [] e h = absurd (cc e)
backs_are f (x ∷ back) (c ∷ cs) e h =
    let here : x.cell ≡ c = cc e in
    let rest : map (λ x. x.cell) back ≡ cs = cc e in
    let entry : ℕ → ℤ → Back = λ k v. record { cell = k; value = v } in
    ap (λ y. y ∷ back) (ap (entry x.cell) (h x (inl refl)) ∙ ap (λ k. entry k (f k)) here)
    ∙ ap (λ ys. entry c (f c) ∷ ys) (backs_are f back cs rest (λ y i. h y (inr i)))
