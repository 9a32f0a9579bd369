-- One part behind another: what the whole takes, and what it ends with.
use Rattle.std.proofs.Common.{◌≡◌, ℕ, zero, suc, ◌+◌, ◌-◌, ◌<◌, ◌≤◌, true, false, List, [], ◌∷◌, ◌++◌, length, refl, ap, sym, subst, ◌∙◌, arith, append_assoc, append-nil, length-append}
use Rattle.cw_text.specs.Lexemes.{begins_by}
use Rattle.cw_sheet.specs.declared.sheet.SheetFault.{SheetFault}
use Rattle.cw_sheet.specs.declared.sheet.SheetRefusal.{SheetRefusal}
use Rattle.cw_sheet.specs.declared.sheet.SheetRefusal.TheVariants as refusal
use Rattle.cw_sheet.specs.Contents.{Contents}
use Rattle.cw_sheet.specs.Items.{Place, Taken, took, refused, ◌into◌, is_space, all_behind, up_to, exactly}
use Rattle.cw_sheet.specs.Reading.{judged_sheet}
use Rattle.cw_sheet.specs.Taking.{EndsWith, FailsWith}

-- ## One behind another

pub into_into : {A B C : Type 0} (t : Taken A) (f : A → Place → Taken B) (g : B → Place → Taken C) → (t into f) into g ≡ t into (λ x p. f x p into g)
into_into (took x p) f g = refl
into_into (refused e) f g = refl

-- what was taken goes on
pub took_into : {A B : Type 0} (t : Taken A) (x : A) (p : Place) (f : A → Place → Taken B) → t ≡ took x p → (t into f) ≡ f x p
took_into t x p f h = rw h refl

pub refused_into : {A B : Type 0} (t : Taken A) (e : SheetFault) (f : A → Place → Taken B) → t ≡ refused e → (t into f) ≡ refused e
refused_into t e f h = rw h refl

-- ## Refusals

pub ends_into : {A B : Type 0} (e : SheetRefusal) (t : Taken A) (f : A → Place → Taken B) → EndsWith e t → EndsWith e (t into f)
ends_into (refusal.Sheet x) t f h = refused_into t x f h
ends_into refusal.OutOfMemory t f h = tt

pub ends_as : {A : Type 0} (e : SheetRefusal) (t u : Taken A) → t ≡ u → EndsWith e u → EndsWith e t
ends_as e t u h k = subst (EndsWith e) (sym h) k

pub fails_judged : (e : SheetRefusal) (t : Taken (Contents × ℕ)) → EndsWith e t → FailsWith e (judged_sheet t)
fails_judged (refusal.Sheet x) t h = rw h refl
fails_judged refusal.OutOfMemory t h = tt

-- ## As many as a line has

-- xs were taken so far, each with at least one byte, and p is behind them
pub record HasTaken {A : Type 0} (each : Place → Taken A) (start : Place) (xs : List A) (p : Place) : Type 0 where
  pub room : length p.text + length xs ≤ length start.text
  pub reading : all_behind each start ≡ (up_to (length start.text - length xs) each p into λ ys q. took (xs ++ ys) q)

same_taken : {A : Type 0} (t : Taken (List A)) → t ≡ (t into λ ys q. took ([] ++ ys) q)
same_taken (took xs p) = refl
same_taken (refused e) = refl

-- x is taken before the others
one_more : {A : Type 0} (xs : List A) (x : A) (t : Taken (List A)) → ((t into λ ys q. took (x ∷ ys) q) into λ ys q. took (xs ++ ys) q) ≡ (t into λ ys q. took ((xs ++ x ∷ []) ++ ys) q)
one_more xs x (took ys p) = ap (λ l. took l p) (sym (append_assoc xs (x ∷ []) ys))
one_more xs x (refused e) = refl

module _ {A : Type 0} (each : Place → Taken A) (start : Place) where
  pub taken_start : HasTaken each start [] start
  taken_start = record {
    room = omega arith;
    reading = same_taken (all_behind each start) ∙ ap (λ n. up_to n each start into λ ys q. took ([] ++ ys) q) (let e : length start.text ≡ length start.text - 0 = omega arith in e);
  }

  module _ (xs : List A) (p : Place) (w : HasTaken each start xs p) where
    next_is : (n : ℕ) → n ≡ length start.text - length xs → all_behind each start ≡ (up_to n each p into λ ys q. took (xs ++ ys) q)
    next_is n e = w.reading ∙ ap (λ k. up_to k each p into λ ys q. took (xs ++ ys) q) (sym e)

    step_of : (m : ℕ) → begins_by is_space p.text ≡ true → up_to (suc m) each p ≡ (each p into λ x q. up_to m each q into λ ys r. took (x ∷ ys) r)
    step_of m h = rw h refl

    end_of : (m : ℕ) → begins_by is_space p.text ≡ false → up_to m each p ≡ took [] p
    end_of zero h = refl
    end_of (suc m) h = rw h refl

    pub taken_step : (x : A) (q : Place) → begins_by is_space p.text ≡ true → each p ≡ took x q → length q.text < length p.text → HasTaken each start (xs ++ x ∷ []) q
    taken_step x q h e shorter =
        let room = w.room in
        let m : ℕ = length start.text - (length xs + 1) in
        let more : suc m ≡ length start.text - length xs = omega arith in
        let longer : length (xs ++ x ∷ []) ≡ length xs + 1 = length-append xs (x ∷ []) in
        record {
          room = omega arith;
          reading =
              next_is (suc m) more
              ∙ ap (λ t. t into λ ys r. took (xs ++ ys) r) (step_of m h ∙ took_into (each p) x q (λ x q. up_to m each q into λ ys r. took (x ∷ ys) r) e)
              ∙ one_more xs x (up_to m each q)
              ∙ ap (λ n. up_to n each q into λ ys r. took ((xs ++ x ∷ []) ++ ys) r) (ap (λ k. length start.text - k) (sym longer));
        }

    pub taken_fails : (f : SheetFault) → begins_by is_space p.text ≡ true → 0 < length p.text → each p ≡ refused f → all_behind each start ≡ refused f
    taken_fails f h some e =
        let room = w.room in
        let m : ℕ = length start.text - (length xs + 1) in
        let more : suc m ≡ length start.text - length xs = omega arith in
        next_is (suc m) more
        ∙ ap (λ t. t into λ ys r. took (xs ++ ys) r) (step_of m h ∙ refused_into (each p) f (λ x q. up_to m each q into λ ys r. took (x ∷ ys) r) e)

    pub taken_end : begins_by is_space p.text ≡ false → all_behind each start ≡ took xs p
    taken_end h =
        w.reading
        ∙ ap (λ t. t into λ ys r. took (xs ++ ys) r) (end_of (length start.text - length xs) h)
        ∙ ap (λ l. took l p) (append-nil xs)

-- ## A given number of items

-- xs were taken so far, of n, and p is behind them
pub record HasTakenOf {A : Type 0} (n : ℕ) (each : ℕ → Place → Taken A) (start : Place) (xs : List A) (k : ℕ) (p : Place) : Type 0 where
  pub count : length xs ≡ k
  pub reading : exactly n 0 each start ≡ (exactly (n - k) k each p into λ ys q. took (xs ++ ys) q)

module _ {A : Type 0} (n : ℕ) (each : ℕ → Place → Taken A) (start : Place) where
  pub taken_of_start : HasTakenOf n each start [] 0 start
  taken_of_start = record {
    count = refl;
    reading = same_taken (exactly n 0 each start) ∙ ap (λ m. exactly m 0 each start into λ ys q. took ([] ++ ys) q) (let e : n ≡ n - 0 = omega arith in e);
  }

  module _ (xs : List A) (k : ℕ) (p : Place) (w : HasTakenOf n each start xs k p) where
    of_next : (m : ℕ) → m ≡ n - k → exactly n 0 each start ≡ (exactly m k each p into λ ys q. took (xs ++ ys) q)
    of_next m e = w.reading ∙ ap (λ j. exactly j k each p into λ ys q. took (xs ++ ys) q) (sym e)

    pub taken_of_step : (x : A) (q : Place) → k < n → each k p ≡ took x q → HasTakenOf n each start (xs ++ x ∷ []) (k + 1) q
    taken_of_step x q below e =
        let m : ℕ = n - (k + 1) in
        let more : suc m ≡ n - k = omega arith in
        record {
          count = length-append xs (x ∷ []) ∙ ap (λ j. j + 1) w.count;
          reading =
              of_next (suc m) more
              ∙ ap (λ t. t into λ ys r. took (xs ++ ys) r) (took_into (each k p) x q (λ x q. exactly m (suc k) each q into λ ys r. took (x ∷ ys) r) e)
              ∙ one_more xs x (exactly m (suc k) each q)
              ∙ ap (λ j. exactly m j each q into λ ys r. took ((xs ++ x ∷ []) ++ ys) r) (let e : suc k ≡ k + 1 = omega arith in e);
        }

    pub taken_of_fails : (e : SheetRefusal) → k < n → EndsWith e (each k p) → EndsWith e (exactly n 0 each start)
    taken_of_fails e below h =
        let m : ℕ = n - (k + 1) in
        let more : suc m ≡ n - k = omega arith in
        ends_as e _ _ (of_next (suc m) more) (
        ends_into e (each k p into λ x q. exactly m (suc k) each q into λ ys r. took (x ∷ ys) r) (λ ys r. took (xs ++ ys) r)
        (ends_into e (each k p) (λ x q. exactly m (suc k) each q into λ ys r. took (x ∷ ys) r) h))

    pub taken_of_end : n ≤ k → exactly n 0 each start ≡ took xs p
    taken_of_end high =
        of_next 0 (omega arith)
        ∙ ap (λ l. took l p) (append-nil xs)
