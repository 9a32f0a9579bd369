-- Locals by their names, as the syntax has them, and by their numbers, as the code has them.
use Rattle.std.proofs.Common.{◌≡◌, ℕ, zero, suc, ◌+◌, ◌-◌, ◌<◌, ◌≤◌, Bool, true, false, List, [], ◌∷◌, ◌++◌, length, map, take, reverse, drop, refl, sym, ap, ◌∙◌, subst, arith, Option, Some, None, ℤ, append_assoc, add-one, length-append, ◌⊎◌, inl, inr}
use Rattle.std.proofs.lemmas.Option.{slice_get_within}
use Rattle.std.proofs.Math.Seq.{drop-append_seam}
use Rattle.std.proofs.lemmas.List.{append-nil, reverse-append, map-append, length-map, length-reverse, length-take-le}
use Rattle.std.specs.Prelude.{slice_get, slice_set, if◌then◌else◌}
use Rattle.std.specs.Str.{bytes_eq}
use Rattle.cw_text.specs.declared.ast.Word.{Word}
use Rattle.cw_text.specs.Syntax.{Statement, declare, Block, empty, first, Declaration, cell, func}
use Rattle.cw_strand.specs.Names.{Scope, a_local, a_function, globals, find, used, elements, cells_from, cells_of, scope_after, cell_thing, indexed, fault_of_call}
use Rattle.cw_strand.proofs.StandingNames.{IsCell, IsFunction, with_names, name_indexed, name_called}
use Rattle.cw_strand.specs.Names as names
use Rattle.cw_strand.specs.Meaning.{Locals, local_of, with_local, bound_to, element_of, cell_of}
use Rattle.cw_strand.specs.Compilation.{Slots, slot_of, slots_after, slots_with_params, most, visible_after}

-- the names of the locals that are visible, and the program's
abbrev pub scope_of : List Declaration → Slots → Scope
scope_of ds [] = globals ds
scope_of ds (x ∷ g) = (x, a_local) ∷ scope_of ds g

-- the locals that are visible at the end of a block
abbrev pub slots_behind : Block → Slots → Slots
slots_behind empty g = g
slots_behind (first s b) g = slots_behind b (slots_after s g)

-- named locals and numbered ones, where the oldest has number 0
abbrev pub Agree : Locals → Slots → List ℤ → Type 0
Agree [] [] ls = Unit {0}
Agree [] (x ∷ g) ls = ⊥
Agree (x ∷ l) [] ls = ⊥
Agree (x ∷ l) (y ∷ g) ls = (x.0 ≡ y) × (slice_get ls (length g) ≡ Some x.1) × Agree l g ls

-- ## Behind a statement and a block

pub scope_behind : (ds : List Declaration) (x : Statement) (g : Slots) → scope_after x (scope_of ds g) ≡ scope_of ds (slots_after x g)
scope_behind ds (declare w e) g = refl
scope_behind ds x g = refl

pub count_behind : (x : Statement) (g : Slots) → visible_after x (length g) ≡ length (slots_after x g)
count_behind (declare w e) g = add-one (length g)
count_behind x g = refl

-- at least those that are visible before a block are visible in it
pub most_from : (n : ℕ) (b : Block) → n ≤ most n b
most_from n empty = omega arith
most_from n (first s b) = let one = visible n s in let rest = most_from (visible_after s n) b in omega (arith, one, rest)
  where
    visible : (n : ℕ) (s : Statement) → n ≤ visible_after s n
    visible n (declare w e) = omega arith
    visible n s = omega arith

pub scope_of_params : (ds : List Declaration) (ps : List Word) (g : Slots) → names.scope_with_params (scope_of ds g) ps ≡ scope_of ds (slots_with_params ps g)
scope_of_params ds [] g = refl
scope_of_params ds (w ∷ ps) g = scope_of_params ds ps (w.name ∷ g)

pub count_of_params : (ps : List Word) (g : Slots) → length (slots_with_params ps g) ≡ length ps + length g
count_of_params [] g = omega arith
count_of_params (w ∷ ps) g = let e = count_of_params ps (w.name ∷ g) in omega (arith, e)

-- a statement hides nothing
pub more_behind : (x : Statement) (g : Slots) → (more : Slots) × (slots_after x g ≡ more ++ g)
more_behind (declare w e) g = (w.name ∷ [], refl)
more_behind x g = ([], refl)

-- whatever a block declared is dropped at its end
pub more_dropped : (more g : Slots) (n : ℕ) → n ≡ length g → drop (length (more ++ g) - n) (more ++ g) ≡ g
more_dropped more g n same =
    let front : length (more ++ g) - n ≡ length more = omega (arith, same, length-append more g) in
    ap (λ m. drop m (more ++ g)) front ∙ drop-append_seam more g

-- at the end of a block its own locals are dropped
length_behind : (b : Block) (g : Slots) → drop (length (slots_behind b g) - length g) (slots_behind b g) ≡ g
length_behind b g = let w = more_slots b g in subst (λ l. drop (length l - length g) l ≡ g) (sym w.1) (cut w.0 g)
  where
    after_one : (s : Statement) (g : Slots) → (x : Slots) × (slots_after s g ≡ x ++ g)
    after_one (declare w e) g = (w.name ∷ [], refl)
    after_one s g = ([], refl)

    more_slots : (b : Block) (g : Slots) → (x : Slots) × (slots_behind b g ≡ x ++ g)
    more_slots empty g = ([], refl)
    more_slots (first s b) g =
        let one = after_one s g in
        let rest = more_slots b (slots_after s g) in
        (rest.0 ++ one.0, rest.1 ∙ ap (λ l. rest.0 ++ l) one.1 ∙ sym (append_assoc rest.0 one.0 g))

    cut : (x g : Slots) → drop (length (x ++ g) - length g) (x ++ g) ≡ g
    cut x g = let e : length (x ++ g) - length g ≡ length x = omega (arith, length-append x g) in ap (λ k. drop k (x ++ g)) e ∙ drop-append_seam x g

pub dropped_behind : (b : Block) (g : Slots) (o : ℕ) → o ≡ length g → drop (length (slots_behind b g) - o) (slots_behind b g) ≡ g
dropped_behind b g o e = ap (λ k. drop (length (slots_behind b g) - k) (slots_behind b g)) e ∙ length_behind b g

-- ## Locals

pub get_set : (ls : List ℤ) (k : ℕ) (v : ℤ) → k < length ls → slice_get (slice_set ls k v) k ≡ Some v
get_set [] k v lt = absurd (omega arith)
get_set (x ∷ xs) zero v lt = refl
get_set (x ∷ xs) (suc k) v lt = get_set xs k v (omega arith)

get_older : (ls : List ℤ) (j k : ℕ) (v : ℤ) → j < k → slice_get (slice_set ls k v) j ≡ slice_get ls j
get_older [] j k v lt = refl
get_older (x ∷ xs) j zero v lt = absurd (omega arith)
get_older (x ∷ xs) zero (suc k) v lt = refl
get_older (x ∷ xs) (suc j) (suc k) v lt = get_older xs j k v (omega arith)

get_newer : (ls : List ℤ) (j k : ℕ) (v : ℤ) → k < j → slice_get (slice_set ls k v) j ≡ slice_get ls j
get_newer [] j k v lt = refl
get_newer (x ∷ xs) zero k v lt = absurd (omega arith)
get_newer (x ∷ xs) (suc j) zero v lt = refl
get_newer (x ∷ xs) (suc j) (suc k) v lt = get_newer xs j k v (omega arith)

-- what is newer than all of them does not touch them
pub agree_newer : (l : Locals) (g : Slots) (ls : List ℤ) (k : ℕ) (v : ℤ) → length g ≤ k → Agree l g ls → Agree l g (slice_set ls k v)
agree_newer [] [] ls k v le h = tt
agree_newer [] (y ∷ g) ls k v le h = h
agree_newer (x ∷ l) [] ls k v le h = h
agree_newer (x ∷ l) (y ∷ g) ls k v le h = (h.0, get_older ls (length g) k v (omega arith) ∙ h.1, agree_newer l g ls k v (omega arith) h.2)

pub same_count : (l : Locals) (g : Slots) (ls : List ℤ) → Agree l g ls → length l ≡ length g
same_count [] [] ls h = refl
same_count [] (y ∷ g) ls h = absurd h
same_count (x ∷ l) [] ls h = absurd h
same_count (x ∷ l) (y ∷ g) ls h = ap suc (same_count l g ls h.2)

pub agree_drop : (o : ℕ) (l : Locals) (g : Slots) (ls : List ℤ) → Agree l g ls → Agree (drop o l) (drop o g) ls
agree_drop zero l g ls h = h
agree_drop (suc o) [] [] ls h = tt
agree_drop (suc o) [] (y ∷ g) ls h = absurd h
agree_drop (suc o) (x ∷ l) [] ls h = absurd h
agree_drop (suc o) (x ∷ l) (y ∷ g) ls h = agree_drop o l g ls h.2

-- ## Names

-- a local of this name, with this number and this value, in whose place another value may be set
pub record IsLocal (l : Locals) (g : Slots) (ls : List ℤ) (n : List ℕ) (o : Option ℤ) (s : Option ℕ) : Type 0 where
  pub number : ℕ
  pub held : ℤ
  pub named : o ≡ Some held
  pub numbered : s ≡ Some number
  pub older : number < length g
  pub holds : slice_get ls number ≡ Some held
  pub set : (x : ℤ) → Agree (with_local l n x) g (slice_set ls number x)

-- a name is that of a local with its number, or of none
abbrev pub Slotted : Locals → Slots → List ℤ → List ℕ → Option ℤ → Option ℕ → Type 0
Slotted l g ls n o s = IsLocal l g ls n o s ⊎ ((o ≡ None) × (s ≡ None))

pub slotted : (l : Locals) (g : Slots) (ls : List ℤ) (n : List ℕ) → Agree l g ls → Slotted l g ls n (local_of l n) (slot_of g n)
slotted [] [] ls n h = inr (refl, refl)
slotted [] (y ∷ g) ls n h = absurd h
slotted (x ∷ l) [] ls n h = absurd h
slotted (x ∷ l) (y ∷ g) ls n h = by (bytes_eq n x.0) (bytes_eq n y) (ap (bytes_eq n) h.0) refl (slotted l g ls n h.2)
  where
    by : (p q : Bool) → p ≡ q → bytes_eq n x.0 ≡ p → Slotted l g ls n (local_of l n) (slot_of g n) → Slotted (x ∷ l) (y ∷ g) ls n (if p then Some x.1 else local_of l n) (if q then Some (length g) else slot_of g n)
    by true true e i r = inl (record {
      number = length g;
      held = x.1;
      named = refl;
      numbered = refl;
      older = omega arith;
      holds = h.1;
      set = λ z. subst (λ w. Agree w (y ∷ g) (slice_set ls (length g) z)) (sym (ap (λ w. if w then (x.0, z) ∷ l else x ∷ with_local l n z) i)) (h.0, get_set ls (length g) z (slice_get_within ls (length g) x.1 h.1), agree_newer l g ls (length g) z (omega arith) h.2);
    })
    by false false e i (inl r) = inl (record {
      number = r.number;
      held = r.held;
      named = r.named;
      numbered = r.numbered;
      older = omega (arith, r.older);
      holds = r.holds;
      set = λ z. subst (λ w. Agree w (y ∷ g) (slice_set ls r.number z)) (sym (ap (λ w. if w then (x.0, z) ∷ l else x ∷ with_local l n z) i)) (h.0, get_newer ls (length g) r.number z r.older ∙ h.1, r.set z);
    })
    by false false e i (inr r) = inr r
    by true false e i r = absurd cc
    by false true e i r = absurd cc

-- a name without a number is that of the program
pub find_out : (ds : List Declaration) (g : Slots) (n : List ℕ) → slot_of g n ≡ None → find n (scope_of ds g) ≡ find n (globals ds)
find_out ds [] n e = refl
find_out ds (y ∷ g) n e = by (bytes_eq n y) e (λ h. find_out ds g n h)
  where
    by : (p : Bool) → (if p then Some (length g) else slot_of g n) ≡ None → ((slot_of g n ≡ None) → find n (scope_of ds g) ≡ find n (globals ds)) → (if p then Some a_local else find n (scope_of ds g)) ≡ find n (globals ds)
    by true h f = absurd cc
    by false h f = f h

-- the element of a cell
pub element_there : (ds : List Declaration) (base : ℕ) (n : List ℕ) (l : ℕ) → used (find n (globals ds)) l ≡ None → (c : ℕ) × (element_of (cells_from base ds) n ≡ Some c)
element_there [] base n l e = absurd cc
element_there (cell y line len i ∷ ds) base n l e = by (bytes_eq n y) e (λ h. element_there ds (base + elements len) n l h)
  where
    by : (p : Bool) → used (if p then Some (cell_thing len) else find n (globals ds)) l ≡ None → (used (find n (globals ds)) l ≡ None → (c : ℕ) × (element_of (cells_from (base + elements len) ds) n ≡ Some c)) → (c : ℕ) × ((if p then Some base else element_of (cells_from (base + elements len) ds) n) ≡ Some c)
    by true h f = (base, refl)
    by false h f = f h
element_there (func y line ps b ∷ ds) base n l e = by (bytes_eq n y) e (λ h. element_there ds base n l h)
  where
    by : (p : Bool) → used (if p then Some (a_function (length ps)) else find n (globals ds)) l ≡ None → (used (find n (globals ds)) l ≡ None → (c : ℕ) × (element_of (cells_from base ds) n ≡ Some c)) → (c : ℕ) × (element_of (cells_from base ds) n ≡ Some c)
    by true h f = absurd cc
    by false h f = f h

scope_named : (ds : List Declaration) (g : Slots) → scope_of ds g ≡ with_names g (globals ds)
scope_named ds [] = refl
scope_named ds (x ∷ g) = ap (λ (s : Scope). (x, a_local) ∷ s) (scope_named ds g)

-- the cell of an array
pub array_there : (ds : List Declaration) (g : Slots) (n : List ℕ) (l : ℕ) → indexed (find n (scope_of ds g)) l ≡ None → IsCell (cell_of (cells_of ds) n)
array_there ds g n l e = name_indexed ds g n l (subst (λ (s : Scope). indexed (find n s) l ≡ None) (scope_named ds g) e)

-- the function of a call
pub function_there : (ds : List Declaration) (g : Slots) (n : List ℕ) (c l : ℕ) → fault_of_call (find n (scope_of ds g)) c l ≡ None → IsFunction ds n c
function_there ds g n c l e = name_called ds g n c l (subst (λ (s : Scope). fault_of_call (find n s) c l ≡ None) (scope_named ds g) e)

-- ## Arguments

get_past : (xs : List ℤ) (v : ℤ) (zs : List ℤ) → slice_get (xs ++ v ∷ zs) (length xs) ≡ Some v
get_past [] v zs = refl
get_past (x ∷ xs) v zs = get_past xs v zs

agree_bound : (rs : List Word) (vs zs : List ℤ) → length rs ≤ length vs → Agree (bound_to rs vs) (map (λ w. w.name) rs) (reverse (take (length rs) vs) ++ zs)
agree_bound [] vs zs le = tt
agree_bound (w ∷ rs) [] zs le = absurd (omega arith)
agree_bound (w ∷ rs) (v ∷ vs) zs le =
    let xs = take (length rs) vs in
    let turned : reverse (v ∷ xs) ++ zs ≡ reverse xs ++ v ∷ zs = ap (λ l. l ++ zs) (reverse-append (v ∷ []) xs) ∙ append_assoc (reverse xs) (v ∷ []) zs in
    let len : length (map (λ w. w.name) rs) ≡ length (reverse xs) = simp (length-map, length-reverse, length-take-le (length rs) vs (omega arith)) refl in
    subst (λ l. Agree ((w.name, v) ∷ bound_to rs vs) (w.name ∷ map (λ w. w.name) rs) l) (sym turned)
    (refl, ap (slice_get (reverse xs ++ v ∷ zs)) len ∙ get_past (reverse xs) v zs, agree_bound rs vs (v ∷ zs) (omega arith))

names_turned : (ws : List Word) (g : Slots) → slots_with_params ws g ≡ map (λ w. w.name) (reverse ws) ++ g
names_turned [] g = refl
names_turned (w ∷ ws) g =
    names_turned ws (w.name ∷ g)
    ∙ sym (append_assoc (map (λ w. w.name) (reverse ws)) (w.name ∷ []) g)
    ∙ ap (λ l. l ++ g) (sym (map-append (λ w. w.name) (reverse ws) (w ∷ [])))
    ∙ ap (λ l. map (λ w. w.name) l ++ g) (sym (reverse-append (w ∷ []) ws))

pub agree_arguments : (ws : List Word) (vs zs : List ℤ) → length ws ≤ length vs → Agree (bound_to (reverse ws) vs) (slots_with_params ws []) (reverse (take (length ws) vs) ++ zs)
agree_arguments ws vs zs le =
    let n = length-reverse ws in
    let h = agree_bound (reverse ws) vs zs (omega (arith, n)) in
    subst (λ g. Agree (bound_to (reverse ws) vs) g (reverse (take (length ws) vs) ++ zs)) (sym (names_turned ws [] ∙ append-nil _))
    (subst (λ k. Agree (bound_to (reverse ws) vs) (map (λ w. w.name) (reverse ws)) (reverse (take k vs) ++ zs)) n h)
