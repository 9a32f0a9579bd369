-- The cells of a core as the block of a running strand is undone.
use Rattle.std.proofs.Common.{◌≡◌, ℕ, zero, suc, ◌≤◌, List, [], ◌∷◌, ◌++◌, map, refl, ap, sym, ◌∙◌, subst, arith, Bool, true, false, cond, Option, Some, inl, inr}
use Rattle.std.specs.Prelude.{not, filter, slice_get}
use Rattle.std.proofs.lemmas.Bool.{cases_Bool}
use Rattle.cw_tree.specs.declared.node.Node.{Node}
use Rattle.cw_tree.specs.declared.node.BlockState.TheVariants.{Aborted}
use Rattle.cw_tree.specs.declared.access.Entry.{Entry}
use Rattle.cw_tree.specs.Nodes.{stamp_of, touches}
use Rattle.cw_tree.specs.Walks.{is_above}
use Rattle.cw_tree.specs.Series.{place}
use Rattle.cw_tree.specs.Accesses.{is_live}
use Rattle.cw_tree.specs.AccessStacks.{stamps, access_at}
use Rattle.cw_tree.proofs.Lists.{In}
use Rattle.cw_tree.proofs.Walks.Ancestors.{above_ancestor}
use Rattle.cw_tree.proofs.ChainLaws.Stamps.{stamps_beneath}
use Rattle.cw_tree.proofs.Rising.{Rises}
use Rattle.cw_stack.specs.Cells.{CellParts}
use Rattle.cw_open.specs.Machine.{OpenMachine, live, is_running, in_block}
use Rattle.cw_open.proofs.Laws.Listing.{listed}
use Rattle.cw_open.proofs.Laws.Named.{access_named, none_aborted, live_from}
use Rattle.cw_core.specs.declared.row.Row.{Row}
use Rattle.cw_core.specs.State.{CoreState, waits_for_left}
use Rattle.cw_core.specs.Kept.{AreParts}
use Rattle.cw_core.specs.Undone.{Among, MayUndo}
use Rattle.cw_core.proofs.Events.Kept.{cells}
use Rattle.cw_core.proofs.Events.Going.{state, well, all_listed, at_place}
use Rattle.cw_core.proofs.Events.Closing.{pending}

-- ## Entries and stamps

pub among_get : (es : List Entry) (e : Entry) → Among e es → (i : ℕ) × (slice_get es i ≡ Some e)
among_get [] e i = absurd i
among_get (x ∷ es) e (inl q) = (0, ap Some (sym q))
among_get (x ∷ es) e (inr i) = let z = among_get es e i in (suc z.0, z.1)

pub among_in : (es : List Entry) (e : Entry) → Among e es → In e.mark.stamp (stamps es)
among_in [] e i = absurd i
among_in (x ∷ es) e (inl q) = inl (ap (λ y. y.mark.stamp) q)
among_in (x ∷ es) e (inr i) = inr (among_in es e i)

pub in_among : (es : List Entry) (v : ℕ) → In v (stamps es) → (e : Entry) × Among e es × (e.mark.stamp ≡ v)
in_among [] v i = absurd i
in_among (x ∷ es) v (inl q) = (x, inl refl, sym q)
in_among (x ∷ es) v (inr i) = let z = in_among es v i in (z.0, inr z.1, z.2)

-- the list of a cell has the stamps of its entries
abbrev pub lists_of : List CellParts → List (List ℕ)
lists_of cs = map (λ c. stamps c.entries) cs

pub listed_cell : (cs : List CellParts) (c : ℕ) (x : CellParts) → slice_get cs c ≡ Some x → listed (lists_of cs) c ≡ stamps x.entries
listed_cell [] c x e = absurd (cc e)
listed_cell (y ∷ cs) zero x e = ap (λ z. stamps z.entries) (let q : y ≡ x = cc e in q)
listed_cell (y ∷ cs) (suc c) x e = listed_cell cs c x e

pub cell_listed : (cs : List CellParts) (c v : ℕ) → In v (listed (lists_of cs) c) → (x : CellParts) × (slice_get cs c ≡ Some x) × In v (stamps x.entries)
cell_listed [] c v i = absurd i
cell_listed (y ∷ cs) zero v i = (y, refl, i)
cell_listed (y ∷ cs) (suc c) v i = cell_listed cs c v i

-- ## Of a list whose last members pass, what comes after one that passes does

abbrev all_pass : (ℕ → Bool) → List ℕ → Type 0
all_pass p xs = (v : ℕ) → In v xs → p v ≡ true

none_left : (p : ℕ → Bool) (x : ℕ) (ys : List ℕ) → p x ≡ true → x ∷ ys ≡ filter (λ u. not (p u)) ys ++ x ∷ filter p ys → (zs : List ℕ) → filter (λ u. not (p u)) ys ≡ zs → all_pass p ys
none_left p x ys on e [] f v i =
    elim (cases_Bool (p v)) [
      | inl g ↦ g
      | inr g ↦ absurd (let h = Rattle.cw_tree.proofs.Members.filter_in (λ u. not (p u)) v ys i (ap not g) in let P : List ℕ → Type 0 = λ ns. In v ns in let z = subst P f h in z)
    ]
none_left p x ys on e (z ∷ zs) f v i =
    absurd (let q : x ∷ ys ≡ z ∷ (zs ++ x ∷ filter p ys) = e ∙ ap (λ ns. ns ++ x ∷ filter p ys) f in
    let head : x ≡ z = cc q in
    let P : List ℕ → Type 0 = λ ns. In z ns in
    let own = Rattle.cw_tree.proofs.Members.in_filter (λ u. not (p u)) z ys (subst P (sym f) (inl refl)) in
    let off = own.1 in
    let at : not (p x) ≡ true = ap (λ n. not (p n)) head ∙ off in
    let no : not (p x) ≡ false = ap not on in
    cc (at, no))

after_passes : (p : ℕ → Bool) (xs : List ℕ) → Rises xs → xs ≡ filter (λ u. not (p u)) xs ++ filter p xs → (a b : ℕ) → In a xs → In b xs → a ≤ b → p a ≡ true → p b ≡ true
after_passes p [] r e a b i j le on = absurd i
after_passes p (x ∷ xs) r e a b i j le on =
    elim (cases_Bool (p x)) [
      | inl g ↦
          (let f : x ∷ xs ≡ filter (λ u. not (p u)) xs ++ x ∷ filter p xs = e ∙ ap (λ c. cond (not c) (x ∷ filter (λ u. not (p u)) xs) (filter (λ u. not (p u)) xs) ++ cond c (x ∷ filter p xs) (filter p xs)) g in
          let all = none_left p x xs g f (filter (λ u. not (p u)) xs) refl in
          elim j [ inl q ↦ ap p q ∙ g | inr k ↦ all b k ])
      | inr g ↦
          (let f : x ∷ xs ≡ x ∷ (filter (λ u. not (p u)) xs ++ filter p xs) = e ∙ ap (λ c. cond (not c) (x ∷ filter (λ u. not (p u)) xs) (filter (λ u. not (p u)) xs) ++ cond c (x ∷ filter p xs) (filter p xs)) g in
          let tail : xs ≡ filter (λ u. not (p u)) xs ++ filter p xs = cc f in
          elim i [
            | inl q ↦ absurd (let h = ap p q in cc (h, g, on))
            | inr k ↦ elim j [
              | inl q ↦ absurd (let less = r.0 a k in omega (arith, q))
              | inr l ↦ after_passes p xs r.1 tail a b k l le on
            ]
          ])
    ]

-- ## What is undone

module _ (k : CoreState) (rows : List Row) (forks : List ℕ) (cs : List CellParts) (last : Option ℕ) (w : AreParts k rows forks cs last) (s : ℕ) (running : is_running k.machine s ≡ true) (ready : waits_for_left k s ≡ false) (within : in_block k.machine s ≡ true) where
  abbrev t : List Node
  t = k.machine.tree

  abbrev m : OpenMachine
  m = k.machine

  abbrev b : ℕ
  b = place t s

  pub is_pending_block : Rattle.cw_tree.specs.Nodes.is_pending t b ≡ true
  is_pending_block = pending m.first k w.core s running ready within Aborted refl

  told : (c : ℕ) (x : CellParts) (e : Entry) → slice_get cs c ≡ Some x → Among e x.entries → (touches t c (access_at t e.mark.stamp) ≡ true) × (stamp_of t (access_at t e.mark.stamp) ≡ e.mark.stamp) × (is_live t (access_at t e.mark.stamp) ≡ true)
  told c x e at i =
      let g = among_get x.entries e i in
      let y = (w.held c x at).entries g.0 e g.1 in
      let here : access_at t e.mark.stamp ≡ y.node = ap (access_at t) (sym y.stamp) ∙ access_named t (well m.first k w.core).sound.stamps c y.node y.touches in
      let P : ℕ → Type 0 = λ n. (touches t c n ≡ true) × (stamp_of t n ≡ e.mark.stamp) × (is_live t n ≡ true) in
      let Q : ℕ → Type 0 = λ v. In v (live m c) in
      let R : List (List ℕ) → Type 0 = λ ls. In e.mark.stamp (listed ls c) in
      let S : List ℕ → Type 0 = λ ns. In e.mark.stamp ns in
      let listed_here : In e.mark.stamp (live m c) = subst R w.lists (subst S (sym (listed_cell cs c x at)) (among_in x.entries e i)) in
      subst P (sym here) (y.touches, y.stamp, (state m.first k w.core).listed.lives c y.node y.touches (subst Q (sym y.stamp) listed_here))

  pub may_undo : MayUndo t b cs
  may_undo = record {
    pending = is_pending_block;
    lives = live_from t b (λ a over. none_aborted t b (at_place m.first k w.core s running ready) a (above_ancestor t a b over));
    whole = λ c x at. (w.held c x at).whole;
    listed = λ c n touch lives over.
        (let R : List (List ℕ) → Type 0 = λ ls. In (stamp_of t n) (listed ls c) in
        let x = cell_listed cs c (stamp_of t n) (subst R (sym w.lists) (all_listed m.first k w.core c n touch lives)) in
        let e = in_among x.0.entries (stamp_of t n) x.2 in
        (x.0, x.1, e.0, e.1, e.2));
    accesses = told;
    last = λ c x e f at i j le over.
        (let chain = (cells m.first k w.core c).1 in
        let end = stamps_beneath t c b (live m c) (well m.first k w.core).sound.tree.rooted is_pending_block chain in
        let S : List ℕ → Type 0 = λ ns. In e.mark.stamp ns in
        let T : List ℕ → Type 0 = λ ns. In f.mark.stamp ns in
        let same : stamps x.entries ≡ live m c = sym (listed_cell cs c x at) ∙ ap (λ ls. listed ls c) w.lists in
        after_passes (λ u. is_above t b (access_at t u)) (live m c) ((state m.first k w.core).listed.rises c) end e.mark.stamp f.mark.stamp (subst S same (among_in x.entries e i)) (subst T same (among_in x.entries f j)) le over);
    named = λ c n touch. access_named t (well m.first k w.core).sound.stamps c n touch;
  }
