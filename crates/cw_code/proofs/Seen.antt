-- What is kept of the places of a function, seen through a table of nestings.
use Rattle.std.proofs.Common.{◌≡◌, ℕ, zero, suc, ◌+◌, ◌-◌, ◌<◌, ◌≤◌, ⊎_elim, Bool, true, false, List, [], ◌∷◌, ◌++◌, length, replicate, Option, Some, None, refl, sym, ap, ◌∙◌, arith, take, drop}
use Rattle.std.specs.Prelude.{slice_set, slice_index_or, nat_le, ◌==◌, if◌then◌else◌}
use Rattle.std.proofs.lemmas.List.{length-replicate, length-set, map-set}
use Rattle.std.proofs.Math.ListN.{get_or-map}
use Rattle.std.proofs.lemmas.Bool.Decides.{eqb_tells}
use Rattle.std.proofs.Math.Seq.{take-append_seam}
use Rattle.cw_code.specs.declared.situation.Level.{Level}
use Rattle.cw_code.specs.declared.situation.Arrival.{Arrival}
use Rattle.cw_code.specs.declared.instruction.CodeFault.{CodeFault}
use Rattle.cw_code.specs.declared.instruction.Instr.{Instr}
use Rattle.cw_code.specs.declared.instruction.Func.{Func}
use Rattle.cw_code.specs.declared.instruction.Code.{Code}
use Rattle.cw_code.specs.Table.{Effect}
use Rattle.cw_code.specs.Rules.{Situation, Places, pass, places_after_passes, effect_of, earliest, faults_here, operand_faults, situation_faults, faults_at, uneven_faults, known_at, situation_of, next_of, target_of, onwards, passed, offered, give, visit, begun}
use Rattle.cw_code.specs.Nested.{Nested, IsGrown, situation_at, level_at, level_on_arrival, known_by, seen, IsBelow, AreBelow, offered_level, give_level, none_yet}
use Rattle.cw_code.proofs.Fold.{earliest_append}
use Rattle.cw_code.proofs.Visits.{settles_at}

-- ## Places

pub seen_get : (ns : Nested) (ts : List (Option Arrival)) (k : ℕ) → slice_index_or (seen ns ts) k None ≡ known_by ns (slice_index_or ts k None)
seen_get ns ts k = get_or-map (known_by ns) ts k None

pub known_seen : (f : Func) (ns : Nested) (ts : List (Option Arrival)) (p : ℕ) → known_at f (seen ns ts) p ≡ level_at ns (level_on_arrival (slice_index_or ts (p - f.start) None))
known_seen f ns ts p = ap situation_of (seen_get ns ts (p - f.start)) ∙ by (slice_index_or ts (p - f.start) None)
  where
    by : (o : Option Arrival) → situation_of (known_by ns o) ≡ level_at ns (level_on_arrival o)
    by None = refl
    by (Some a) = refl

-- ## A table that grows

pub situation_grown : (ns ms : Nested) (l : Level) → IsGrown ns ms → l.nesting < length ns → situation_at ms l ≡ situation_at ns l
situation_grown ns ms l grown lt = ap (λ ps. let s : Situation = record { height = l.height; parts = ps } in s) (grown.same l.nesting lt)

below_more : (n m : ℕ) (o : Option Level) → n ≤ m → IsBelow n o → IsBelow m o
below_more n m None le b = tt
below_more n m (Some l) le b = omega (arith, b)

pub below_grown : (ns ms : Nested) (ts : List (Option Arrival)) → IsGrown ns ms → AreBelow (length ns) ts → AreBelow (length ms) ts
below_grown ns ms ts grown below k = below_more (length ns) (length ms) _ grown.longer (below k)

pub seen_grown : (ns ms : Nested) (ts : List (Option Arrival)) → IsGrown ns ms → AreBelow (length ns) ts → seen ms ts ≡ seen ns ts
seen_grown ns ms [] grown below = refl
seen_grown ns ms (None ∷ ts) grown below = ap (λ l. None ∷ l) (seen_grown ns ms ts grown (λ k. below (suc k)))
seen_grown ns ms (Some a ∷ ts) grown below =
    ap (λ s. Some (record { from = a.from; situation = s }) ∷ seen ms ts) (situation_grown ns ms a.level grown (below 0))
    ∙ ap (λ l. known_by ns (Some a) ∷ l) (seen_grown ns ms ts grown (λ k. below (suc k)))

-- ## What is given on

offered_seen : (ns : Nested) (p : ℕ) (l : Level) (o : Option Arrival) → known_by ns (offered_level p l o) ≡ offered p (situation_at ns l) (known_by ns o)
offered_seen ns p l None = refl
offered_seen ns p l (Some a) = either (nat_le p a.from)
  where
    either : (b : Bool) → known_by ns (if b then Some (record { from = p; level = l }) else Some a) ≡ (if b then Some (record { from = p; situation = situation_at ns l }) else known_by ns (Some a))
    either true = refl
    either false = refl

pub give_seen : (ns : Nested) (f : Func) (o : Option ℕ) (p : ℕ) (l : Level) (ts : List (Option Arrival)) → seen ns (give_level f o p l ts) ≡ give f o p (situation_at ns l) (seen ns ts)
give_seen ns f None p l ts = refl
give_seen ns f (Some q) p l ts = either (nat_le q f.start)
  where
    either : (b : Bool) → seen ns (if b then ts else slice_set ts (q - f.start) (offered_level p l (slice_index_or ts (q - f.start) None)))
        ≡ (if b then seen ns ts else slice_set (seen ns ts) (q - f.start) (offered p (situation_at ns l) (slice_index_or (seen ns ts) (q - f.start) None)))
    either true = refl
    either false =
        map-set (known_by ns) ts (q - f.start) (offered_level p l (slice_index_or ts (q - f.start) None))
        ∙ ap (slice_set (seen ns ts) (q - f.start)) (offered_seen ns p l (slice_index_or ts (q - f.start) None) ∙ ap (offered p (situation_at ns l)) (sym (seen_get ns ts (q - f.start))))

below_set : (count : ℕ) (ts : List (Option Arrival)) (i : ℕ) (a : Option Arrival) → IsBelow count (level_on_arrival a) → AreBelow count ts → AreBelow count (slice_set ts i a)
below_set count [] i a b below k = below k
below_set count (t ∷ ts) zero a b below zero = b
below_set count (t ∷ ts) zero a b below (suc k) = below (suc k)
below_set count (t ∷ ts) (suc i) a b below zero = below 0
below_set count (t ∷ ts) (suc i) a b below (suc k) = below_set count ts i a b (λ j. below (suc j)) k

offered_below : (count p : ℕ) (l : Level) (o : Option Arrival) → l.nesting < count → IsBelow count (level_on_arrival o) → IsBelow count (level_on_arrival (offered_level p l o))
offered_below count p l None lt b = lt
offered_below count p l (Some a) lt b = either (nat_le p a.from)
  where
    either : (x : Bool) → IsBelow count (level_on_arrival (if x then Some (record { from = p; level = l }) else Some a))
    either true = lt
    either false = b

pub give_below : (count : ℕ) (f : Func) (o : Option ℕ) (p : ℕ) (l : Level) (ts : List (Option Arrival)) → l.nesting < count → AreBelow count ts → AreBelow count (give_level f o p l ts)
give_below count f None p l ts lt below = below
give_below count f (Some q) p l ts lt below = either (nat_le q f.start)
  where
    either : (b : Bool) → AreBelow count (if b then ts else slice_set ts (q - f.start) (offered_level p l (slice_index_or ts (q - f.start) None)))
    either true = below
    either false = below_set count ts (q - f.start) _ (offered_below count p l _ lt (below (q - f.start))) below

pub length_given : (f : Func) (o : Option ℕ) (p : ℕ) (l : Level) (ts : List (Option Arrival)) → length (give_level f o p l ts) ≡ length ts
length_given f None p l ts = refl
length_given f (Some q) p l ts = either (nat_le q f.start)
  where
    either : (b : Bool) → length (if b then ts else slice_set ts (q - f.start) (offered_level p l (slice_index_or ts (q - f.start) None))) ≡ length ts
    either true = refl
    either false = length-set ts (q - f.start) _

-- ## At first

pub none_seen : (ns : Nested) (f : Func) (n : ℕ) → ns ≡ [] ∷ [] → seen ns (none_yet f n) ≡ begun f n
none_seen ns f zero e = refl
none_seen ns f (suc n) e =
    ap (λ ms. known_by ms (Some (record { from = f.start; level = record { height = 0; nesting = 0 } })) ∷ seen ns (replicate n None)) e
    ∙ ap (λ l. known_by ([] ∷ []) (Some (record { from = f.start; level = record { height = 0; nesting = 0 } })) ∷ l) (unknown n)
  where
    unknown : (n : ℕ) → seen ns (replicate n None) ≡ replicate n None
    unknown zero = refl
    unknown (suc n) = ap (λ l. None ∷ l) (unknown n)

pub none_below : (count : ℕ) (f : Func) (n : ℕ) → 0 < count → AreBelow count (none_yet f n)
none_below count f zero some k = tt
none_below count f (suc n) some zero = some
none_below count f (suc n) some (suc k) = unknown n k
  where
    unknown : (n k : ℕ) → IsBelow count (level_on_arrival (slice_index_or (replicate n None) k None))
    unknown zero k = tt
    unknown (suc n) zero = tt
    unknown (suc n) (suc k) = unknown n k

pub length_none : (f : Func) (n : ℕ) → length (none_yet f n) ≡ n
length_none f zero = refl
length_none f (suc n) = ap suc (length-replicate n None)

pub more_none : (f : Func) (n : ℕ) → none_yet f n ++ (if n == 0 then Some (record { from = f.start; level = record { height = 0; nesting = 0 } }) else None) ∷ [] ≡ none_yet f (n + 1)
more_none f zero = refl
more_none f (suc n) =
    let z : suc n + 1 ≡ suc (suc n) = omega arith in
    let no : (suc n == 0) ≡ false = ⊎_elim (λ y. absurd (omega (arith, y.1))) (λ y. y.0) (eqb_tells (suc n) 0) in
    let first : Option Arrival = Some (record { from = f.start; level = record { height = 0; nesting = 0 } }) in
    ap (λ b. none_yet f (suc n) ++ (if b then first else None) ∷ []) no ∙ ap (λ l. first ∷ l) (one_more n) ∙ ap (none_yet f) (sym z)
  where
    one_more : (n : ℕ) → replicate n None ++ None ∷ [] ≡ replicate {A = Option Arrival} (suc n) None
    one_more zero = refl
    one_more (suc n) = ap (λ l. None ∷ l) (one_more n)

pub same_elements : (xs ys : List (Option Arrival)) → length xs ≡ length ys → ((k : ℕ) → k < length xs → slice_index_or xs k None ≡ slice_index_or ys k None) → xs ≡ ys
same_elements [] [] l e = refl
same_elements [] (y ∷ ys) l e = absurd (omega arith)
same_elements (x ∷ xs) [] l e = absurd (omega arith)
same_elements (x ∷ xs) (y ∷ ys) l e =
    let h : x ≡ y = e 0 (omega arith) in
    let r : xs ≡ ys = same_elements xs ys (omega arith) (λ k lt. e (suc k) (omega arith)) in
    cc

-- ## Passes

-- a pass that changed nothing is the last one
pub ends_here : (c : Code) (f : Func) (size n len all : ℕ) (t : Places) (ns ms : Nested) (u items b : List (Option Arrival)) → IsGrown ns ms → AreBelow (length ns) items → n ≤ all → seen ns items ≡ places_after_passes c f size n t
    → b ≡ items → u ≡ b → seen ms u ≡ pass c f size (seen ns b) → length items ≡ len → seen ms (take len (u ++ drop (length u) items)) ≡ places_after_passes c f size all t
ends_here c f size n len all t ns ms u items b grown below le p bi ub up l =
    let ui : u ≡ items = ub ∙ bi in
    let v = seen ns items in
    let now : seen ms u ≡ v = ap (seen ms) ui ∙ seen_grown ns ms items grown below in
    let settled : pass c f size v ≡ v = ap (λ x. pass c f size (seen ns x)) (sym bi) ∙ sym up ∙ now in
    ap (λ k. seen ms (take k (u ++ drop (length u) items))) (sym (ap length ui ∙ l)) ∙ ap (seen ms) (take-append_seam u _) ∙ now ∙ sym (settles_at c f size n all t v le (sym p) settled)

-- ## An instruction at a place

module _ (c : Code) (f : Func) (p : ℕ) (ns ms ls : Nested) (ts : List (Option Arrival)) (grown : IsGrown ns ms) (more : IsGrown ms ls) (below : AreBelow (length ns) ts) where
  -- the levels that it leaves, as the table shows them at last
  pub record Leaves (i : Instr) (e : Option Effect) (l ahead away : Level) : Type 0 where
    pub low : l.nesting < length ns
    pub made : ahead.nesting < length ms
    pub on : situation_at ms ahead ≡ onwards c i e (situation_at ns l)
    pub off : situation_at ls away ≡ passed c i e (situation_at ms l)

  twice : IsGrown ns ls
  twice = record { longer = omega (arith, grown.longer, more.longer); same = λ n lt. more.same n (omega (arith, grown.longer)) ∙ grown.same n lt }

  module _ (i : Instr) (e : Option Effect) (l ahead away : Level) (w : Leaves i e l ahead away) where
    on_is : situation_at ls ahead ≡ onwards c i e (situation_at ns l)
    on_is = situation_grown ms ls ahead more w.made ∙ w.on

    off_is : situation_at ls away ≡ passed c i e (situation_at ns l)
    off_is = w.off ∙ ap (passed c i e) (situation_grown ns ms l grown w.low)

    pub level_judged : (best first second last : Option CodeFault) (to target : Option ℕ) → first ≡ earliest best (faults_here c f p i e (situation_at ls l)) → to ≡ next_of f p e
        → second ≡ earliest first (uneven_faults f (seen ls ts) to (situation_at ls ahead)) → target ≡ target_of f i e → last ≡ earliest second (uneven_faults f (seen ls ts) target (situation_at ls away))
        → last ≡ earliest best (situation_faults c f (seen ns ts) p i e (situation_at ns l))
    level_judged best first second last to target one two three four five =
        let s = situation_at ns l in
        let t = seen ns ts in
        let here = faults_here c f p i e s in
        let on = uneven_faults f t (next_of f p e) (onwards c i e s) in
        let off = uneven_faults f t (target_of f i e) (passed c i e s) in
        let table : seen ls ts ≡ t = seen_grown ns ls ts twice below in
        let a : first ≡ earliest best here = one ∙ ap (λ x. earliest best (faults_here c f p i e x)) (situation_grown ns ls l twice w.low) in
        let b : second ≡ earliest first on =
        three ∙ ap (λ x. earliest first (uneven_faults f x to (situation_at ls ahead))) table ∙ ap (λ x. earliest first (uneven_faults f t x (situation_at ls ahead))) two ∙ ap (λ x. earliest first (uneven_faults f t (next_of f p e) x)) on_is
        in
        let d : last ≡ earliest second off =
        five ∙ ap (λ x. earliest second (uneven_faults f x target (situation_at ls away))) table ∙ ap (λ x. earliest second (uneven_faults f t x (situation_at ls away))) four ∙ ap (λ x. earliest second (uneven_faults f t (target_of f i e) x)) off_is
        in
        d ∙ ap (λ x. earliest x off) b ∙ ap (λ x. earliest (earliest x on) off) a
        ∙ sym (earliest_append (earliest best here) on off) ∙ sym (earliest_append best here (on ++ off))

  pub visit_seen : (n : ℕ) (i : Instr) (a : Arrival) (ahead away : Level) (us vs : List (Option Arrival)) (to target : Option ℕ) (o : Option Instr) → Leaves i (effect_of i) a.level ahead away → Some i ≡ o → slice_index_or ts n None ≡ Some a
      → to ≡ next_of f p (effect_of i) → us ≡ give_level f to p ahead ts → target ≡ target_of f i (effect_of i) → vs ≡ give_level f target p away us
      → seen ls vs ≡ visit c f p o (slice_index_or (seen ns ts) n None) (seen ns ts)
  visit_seen n i a ahead away us vs to target o w stands known next one leads two =
      let e = effect_of i in
      let s = situation_at ns a.level in
      let t = seen ns ts in
      let first : seen ls us ≡ give f (next_of f p e) p (onwards c i e s) t =
      ap (seen ls) one ∙ give_seen ls f to p ahead ts ∙ ap (λ x. give f x p (situation_at ls ahead) (seen ls ts)) next
      ∙ ap (λ x. give f (next_of f p e) p x (seen ls ts)) (on_is i e a.level ahead away w) ∙ ap (give f (next_of f p e) p (onwards c i e s)) (seen_grown ns ls ts twice below)
      in
      let second : seen ls vs ≡ visit c f p (Some i) (known_by ns (Some a)) t =
      ap (seen ls) two ∙ give_seen ls f target p away us ∙ ap (λ x. give f x p (situation_at ls away) (seen ls us)) leads
      ∙ ap (λ x. give f (target_of f i e) p x (seen ls us)) (off_is i e a.level ahead away w) ∙ ap (give f (target_of f i e) p (passed c i e s)) first
      in
      let place : slice_index_or t n None ≡ known_by ns (Some a) = seen_get ns ts n ∙ ap (known_by ns) known in
      second ∙ ap (λ x. visit c f p (Some i) x t) (sym place) ∙ ap (λ x. visit c f p x (slice_index_or t n None) t) stands

pub place_judged : (c : Code) (f : Func) (p : ℕ) (ns : Nested) (ts : List (Option Arrival)) (i : Instr) (l : Level) (best first last : Option CodeFault) (o : Option Instr) → Some i ≡ o → Some l ≡ level_on_arrival (slice_index_or ts (p - f.start) None)
    → first ≡ earliest best (operand_faults c f p i (effect_of i)) → last ≡ earliest first (situation_faults c f (seen ns ts) p i (effect_of i) (situation_at ns l)) → last ≡ earliest best (faults_at c f (seen ns ts) p o (known_at f (seen ns ts) p))
place_judged c f p ns ts i l best first last o stands kept one two =
    let t = seen ns ts in
    let known : Some (situation_at ns l) ≡ known_at f t p = ap (level_at ns) kept ∙ sym (known_seen f ns ts p) in
    let e = effect_of i in
    let s = situation_at ns l in
    two ∙ ap (λ x. earliest x (situation_faults c f t p i e s)) one ∙ sym (earliest_append best (operand_faults c f p i e) (situation_faults c f t p i e s))
    ∙ ap (λ x. earliest best (faults_at c f t p (Some i) x)) known ∙ ap (λ x. earliest best (faults_at c f t p x (known_at f t p))) stands
