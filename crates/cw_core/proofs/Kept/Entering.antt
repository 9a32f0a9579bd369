-- The cells of a core: what is seen of one, and an entry that is put in.
use Rattle.std.proofs.Common.{◌≡◌, ℕ, zero, suc, ◌+◌, ◌<◌, List, [], ◌∷◌, ◌++◌, length, map, refl, ap, sym, ◌∙◌, arith, Option, Some, None, inl, inr}
use Rattle.std.specs.Prelude.{◌⊎◌, slice_get, slice_set, unwrap_or}
use Rattle.std.specs.Option.{option_map}
use Rattle.std.proofs.lemmas.Simd.{map-map}
use Rattle.std.proofs.lemmas.Option.{slice_get-map, slice_get_within}
use Rattle.std.proofs.lemmas.Bool.{cases_lt}
use Rattle.cw_tree.specs.declared.access.Entry.{Entry}
use Rattle.cw_tree.specs.Accesses.{cell_value, written}
use Rattle.cw_tree.specs.AccessStacks.{access_at, written_by, stamps}
use Rattle.cw_tree.proofs.NextNodes.Growing.{get_append, get_next}
use Rattle.cw_open.specs.Machine.{OpenMachine, live}
use Rattle.cw_open.proofs.Laws.Named.{access_named}
use Rattle.cw_stack.specs.Cells.{CellParts, entries_value}
use Rattle.cw_core.specs.State.{CoreState}
use Rattle.cw_core.specs.Kept.{AreParts, IsEntryOf, cell_changed, without_room}
use Rattle.cw_core.proofs.Events.Going.{well}

-- ## Rooms

-- a cell that differs in its room alone
pub same_but_room : (xs ys : List CellParts) → map without_room xs ≡ map without_room ys → (d : ℕ) (c : CellParts) → slice_get xs d ≡ Some c → (b : CellParts) × (slice_get ys d ≡ Some b) × (without_room c ≡ without_room b)
same_but_room xs ys same d c at = by (slice_get ys d) refl where
  told : option_map without_room (slice_get xs d) ≡ option_map without_room (slice_get ys d)
  told = sym (slice_get-map without_room xs d) ∙ ap (λ l. slice_get l d) same ∙ slice_get-map without_room ys d

  by : (o : Option CellParts) → slice_get ys d ≡ o → (b : CellParts) × (slice_get ys d ≡ Some b) × (without_room c ≡ without_room b)
  by None e = absurd (let a = ap (option_map without_room) at in let b = ap (option_map without_room) e in cc (told, a, b))
  by (Some b) e = (b, e, (let x = ap (option_map without_room) at in let y = ap (option_map without_room) e in let z : Some (without_room c) ≡ Some (without_room b) = sym x ∙ told ∙ y in cc z))

-- cells that differ only in their rooms look the same to what does not look at rooms
pub seen_same : {A : Type 0} (f : CellParts → A) → (xs ys : List CellParts) → ((c : CellParts) → f (without_room c) ≡ f c) → map without_room xs ≡ map without_room ys → map f xs ≡ map f ys
seen_same f xs ys plain same =
    sym (map_plain xs) ∙ sym (map-map f without_room xs) ∙ ap (map f) same ∙ map-map f without_room ys ∙ map_plain ys where
      map_plain : (xs : List CellParts) → map (λ c. f (without_room c)) xs ≡ map f xs
      map_plain [] = refl
      map_plain (c ∷ xs) = ap (λ y. y ∷ map (λ c. f (without_room c)) xs) (plain c) ∙ ap (λ ys. f c ∷ ys) (map_plain xs)

pub plain_same : (b c : CellParts) → b.first ≡ c.first → b.entries ≡ c.entries → b.cleaned ≡ c.cleaned → without_room b ≡ without_room c
plain_same b c first entries cleaned =
    ap (λ v. let z : CellParts = record { first = v; entries = b.entries; cleaned = b.cleaned; room = 0 } in z) first
    ∙ ap (λ es. let z : CellParts = record { first = c.first; entries = es; cleaned = b.cleaned; room = 0 } in z) entries
    ∙ ap (λ n. let z : CellParts = record { first = c.first; entries = c.entries; cleaned = n; room = 0 } in z) cleaned

-- ## An entry that is put in

pub changed_cell : (f : CellParts → CellParts) (n : ℕ) (cells : List CellParts) (c : CellParts) → slice_get cells n ≡ Some c → cell_changed f n cells ≡ slice_set cells n (f c)
changed_cell f n cells c e = rw e refl

-- what stands in a list with one more stood there, or is the new one
pub there_or_last : {A : Type 0} → (xs : List A) (x : A) (m : ℕ) (y : A) → slice_get (xs ++ x ∷ []) m ≡ Some y → (slice_get xs m ≡ Some y) ⊎ ((m ≡ length xs) × (y ≡ x))
there_or_last xs x m y at =
    let h = slice_get_within (xs ++ x ∷ []) m y at in
    elim (cases_lt m (length xs)) [
      | inl less ↦ inl (sym (get_append xs (x ∷ []) m less) ∙ at)
      | inr le ↦
          (let q : m ≡ length xs = omega (arith, Rattle.std.proofs.Common.length-append xs (x ∷ [])) in
          let a = ap (slice_get (xs ++ x ∷ [])) q in
          let b = get_next xs x [] in
          let c : y ≡ x = cc (a, b, at) in
          inr (q, c))
    ]

-- a number that is seen of the changed cell as before is seen of all
pub firsts_kept : {A : Type 0} (f : CellParts → A) → (cells : List CellParts) (n : ℕ) (c b : CellParts) → slice_get cells n ≡ Some c → f b ≡ f c → map f (slice_set cells n b) ≡ map f cells
firsts_kept f [] n c b at e = refl
firsts_kept f (x ∷ cells) zero c b at e = let q : x ≡ c = cc at in ap (λ y. y ∷ map f cells) (e ∙ sym (ap f q))
firsts_kept f (x ∷ cells) (suc n) c b at e = ap (λ ys. f x ∷ ys) (firsts_kept f cells n c b at e)

-- ## What a cell's entries tell

module _ (k : CoreState) (rows : List Rattle.cw_core.specs.declared.row.Row.Row) (forks : List ℕ) (cells : List CellParts) (last : Option ℕ) (w : AreParts k rows forks cells last) where
  abbrev m : OpenMachine
  m = k.machine

  module _ (c : ℕ) (cell : CellParts) (at : slice_get cells c ≡ Some cell) where
    pub live_is : live m c ≡ stamps cell.entries
    live_is = ap (λ ls. unwrap_or (slice_get ls c) []) (sym w.lists) ∙ ap (λ o. unwrap_or o []) (slice_get-map (λ c. stamps c.entries) cells c) ∙ ap (λ o. unwrap_or (option_map (λ c. stamps c.entries) o) []) at

    first_is : unwrap_or (slice_get m.first c) (Rattle.std.specs.Prelude.pos 0) ≡ cell.first
    first_is = ap (λ ls. unwrap_or (slice_get ls c) (Rattle.std.specs.Prelude.pos 0)) (sym w.firsts) ∙ ap (λ o. unwrap_or o (Rattle.std.specs.Prelude.pos 0)) (slice_get-map (λ c. c.first) cells c) ∙ ap (λ o. unwrap_or (option_map (λ c. c.first) o) (Rattle.std.specs.Prelude.pos 0)) at

    entry_wrote : (e : Entry) → IsEntryOf k c e → written m.tree (access_at m.tree e.mark.stamp) ≡ written_by e
    entry_wrote e h = ap (λ v. written m.tree (access_at m.tree v)) (sym h.stamp) ∙ ap (written m.tree) (access_named m.tree (well m.first k w.core).sound.stamps c h.node h.touches) ∙ h.wrote

    wrote_all : (es : List Entry) → ((i : ℕ) (e : Entry) → slice_get es i ≡ Some e → IsEntryOf k c e) → map (λ v. written m.tree (access_at m.tree v)) (stamps es) ≡ map written_by es
    wrote_all [] h = refl
    wrote_all (e ∷ es) h = ap (λ y. y ∷ map (λ v. written m.tree (access_at m.tree v)) (stamps es)) (entry_wrote e (h 0 e refl)) ∙ ap (λ ys. written_by e ∷ ys) (wrote_all es (λ i e at. h (suc i) e at))

    -- the cell's value is the machine's
    pub value_is : entries_value cell ≡ Rattle.cw_open.specs.Machine.live_value m c
    value_is =
        sym (ap (λ us. cell_value (unwrap_or (slice_get m.first c) (Rattle.std.specs.Prelude.pos 0)) (map (λ s. written m.tree (access_at m.tree s)) us)) live_is
        ∙ ap (λ ws. cell_value (unwrap_or (slice_get m.first c) (Rattle.std.specs.Prelude.pos 0)) ws) (wrote_all cell.entries (w.held c cell at).entries)
        ∙ ap (λ v. cell_value v (map written_by cell.entries)) first_is)

    -- its entries came before the next stamp
    pub entries_low : (i : ℕ) (e : Entry) → slice_get cell.entries i ≡ Some e → e.mark.stamp < m.clock + 1
    entries_low i e q =
        let h = (w.held c cell at).entries i e q in
        let low = (well m.first k w.core).clock h.node (Rattle.cw_tree.proofs.Walks.There.node_there (λ y. Rattle.cw_tree.specs.Nodes.touches_kind c y.kind) m.tree h.node h.touches) in
        omega (arith, low.0, h.stamp)

-- rooms of cells matter for no part
pub rooms_parts : (k : CoreState) (rows : List Rattle.cw_core.specs.declared.row.Row.Row) (forks : List ℕ) (cells : List CellParts) (last : Option ℕ) → AreParts k rows forks cells last → (more : List CellParts) → map without_room more ≡ map without_room cells → AreParts k rows forks more last
rooms_parts k rows forks cells last w more same = record {
  core = w.core;
  few = w.few;
  drawn = w.drawn;
  rowed = w.rowed;
  askers = w.askers;
  forked = w.forked;
  told = w.told;
  held = λ c cell at.
      (let b = same_but_room more cells same c cell at in
      let h = w.held c b.0 b.1 in
      let es : cell.entries ≡ b.0.entries = ap (λ x. x.entries) b.2 in
      let P : List Entry → Type 0 = λ es. (i : ℕ) (e : Entry) → slice_get es i ≡ Some e → IsEntryOf k c e in
      record { whole = ap (λ x. x.cleaned) b.2 ∙ h.whole; entries = Rattle.std.proofs.Common.subst P (sym es) h.entries });
  firsts = seen_same (λ c. c.first) more cells (λ c. refl) same ∙ w.firsts;
  lists = seen_same (λ c. stamps c.entries) more cells (λ c. refl) same ∙ w.lists;
}
