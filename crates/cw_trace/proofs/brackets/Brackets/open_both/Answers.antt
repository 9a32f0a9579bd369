use Rattle.std.proofs.Common.{◌≡◌, ◌≢◌, ◌+◌, ◌<◌, ◌∷◌, [], ℕ, List, length, ap, sym, ◌∙◌, refl, true, false, arith, subst, inr}
use Rattle.std.specs.Prelude.{◌*◌, ◌||◌}
use Rattle.std.proofs.lemmas.Bool.{ne_eqb, or_right}
use Rattle.cw_tree.specs.Walks.{has}
use Rattle.cw_trace.specs.Columns.{place_after}
use Rattle.cw_trace.proofs.Marks.FourMarks.{Stage, stage_has, stage_length, stage_more, next_opening, next_closing}
use Rattle.cw_trace.proofs.Marks.Numbering.{has_here, has_later}
use Rattle.cw_trace.proofs.Touching.{grows_more, keeps_more}
use Rattle.cw_trace.proofs.brackets.Brackets.open_both.Goals as goal

-- the marks of the fork, as they are counted up
record New (f : ℕ) (xs : List ℕ) : Type 0 where
  pub at0 : has xs (2 * f) ≡ false
  pub at1 : has xs (2 * f + 1) ≡ false
  pub at2 : has xs (2 * f + 2) ≡ false
  pub at3 : has xs (2 * f + 3) ≡ false

new_of : (f : ℕ) (xs : List ℕ) → (has xs (2 * f) ≡ false) × (has xs (2 * f + 1) ≡ false) → (has xs (2 * (f + 1)) ≡ false) × (has xs (2 * (f + 1) + 1) ≡ false) → New f xs
new_of f xs l r = record { at0 = l.0; at1 = l.1; at2 = ap (has xs) (next_opening f) ∙ r.0; at3 = ap (has xs) (next_closing f) ∙ r.1 }

lacks1 : (a n : ℕ) → a ≢ n → has (a ∷ []) n ≡ false
lacks1 a n p = rw (ne_eqb a n p) refl

lacks2 : (a b n : ℕ) → a ≢ n → b ≢ n → has (a ∷ b ∷ []) n ≡ false
lacks2 a b n p q = rw (ne_eqb a n p, ne_eqb b n q) refl

lacks3 : (a b d n : ℕ) → a ≢ n → b ≢ n → d ≢ n → has (a ∷ b ∷ d ∷ []) n ≡ false
lacks3 a b d n p q r = rw (ne_eqb a n p, ne_eqb b n q, ne_eqb d n r) refl

module _ (a f : ℕ) (xs : List ℕ) (new : New f xs) where
  stage1 : (y : List ℕ) → has xs a ≡ true → y ≡ place_after a (2 * f ∷ []) xs → Stage a (2 * f ∷ []) xs y
  stage1 y h e = record { are = e; there = h }

  stage2 : (y z : List ℕ) → Stage a (2 * f ∷ []) xs y → z ≡ place_after (2 * f) ((2 * f + 1) ∷ []) y → Stage a (2 * f ∷ (2 * f + 1) ∷ []) xs z
  stage2 y z s e = stage_more a (2 * f) (2 * f + 1) [] xs y z refl new.at0 s e

  stage3 : (y z : List ℕ) → Stage a (2 * f ∷ (2 * f + 1) ∷ []) xs y → z ≡ place_after (2 * f + 1) ((2 * f + 2) ∷ []) y → Stage a (2 * f ∷ (2 * f + 1) ∷ (2 * f + 2) ∷ []) xs z
  stage3 y z s e = stage_more a (2 * f + 1) (2 * f + 2) (2 * f ∷ []) xs y z (lacks1 (2 * f) (2 * f + 1) (omega arith)) new.at1 s e

  stage4 : (y z : List ℕ) → Stage a (2 * f ∷ (2 * f + 1) ∷ (2 * f + 2) ∷ []) xs y → z ≡ place_after (2 * f + 2) ((2 * f + 3) ∷ []) y → Stage a (2 * f ∷ (2 * f + 1) ∷ (2 * f + 2) ∷ (2 * f + 3) ∷ []) xs z
  stage4 y z s e = stage_more a (2 * f + 2) (2 * f + 3) (2 * f ∷ (2 * f + 1) ∷ []) xs y z (lacks2 (2 * f) (2 * f + 1) (2 * f + 2) (omega arith) (omega arith)) new.at2 s e

is_there : (a : ℕ) (ms xs ys : List ℕ) → Stage a ms xs ys → (b : ℕ) → has ms b ≡ true → has ys b ≡ true
is_there a ms xs ys s b h = stage_has a ms xs ys s b ∙ ap (λ z. z || has xs b) h

-- a mark that was there still is
still : (a : ℕ) (ms xs ys : List ℕ) → Stage a ms xs ys → (b : ℕ) → has xs b ≡ true → has ys b ≡ true
still a ms xs ys s b h = stage_has a ms xs ys s b ∙ or_right (has ms b) (has xs b) h

not_there : (a : ℕ) (ms xs ys : List ℕ) → Stage a ms xs ys → (b : ℕ) → has ms b ≡ false → has xs b ≡ false → has ys b ≡ false
not_there a ms xs ys s b h g = stage_has a ms xs ys s b ∙ ap (λ z. z || has xs b) h ∙ g

at_some : (n x : ℕ) (ys : List ℕ) → Rattle.std.proofs.Common.Some n ≡ Rattle.std.proofs.Common.Some x → has ys n ≡ true → has ys x ≡ true
at_some n x ys e h = let same : n ≡ x = cc e in ap (has ys) (sym same) ∙ h

pub insert-requires-2-clause-at : goal.insert-requires-2-clause-at
insert-requires-2-clause-at c = λ x e.
    (let f = c.args.fork in let xs = c.args.self.now.marks in let a = 2 * c.args.trace in
    let n = new_of f xs c.requires.new_left c.requires.new_right in
    let s = stage1 a f xs n c.insert.new.self.marks c.requires.around c.insert.ensures.marks in
    at_some (2 * f) x c.insert.new.self.marks e (is_there a (2 * f ∷ []) xs c.insert.new.self.marks s (2 * f) (has_here (2 * f) [] (2 * f) refl)))

pub insert-requires-2-clause-new : goal.insert-requires-2-clause-new
insert-requires-2-clause-new c =
    let f = c.args.fork in let xs = c.args.self.now.marks in let a = 2 * c.args.trace in
    let n = new_of f xs c.requires.new_left c.requires.new_right in
    let s = stage1 a f xs n c.insert.new.self.marks c.requires.around c.insert.ensures.marks in
    not_there a (2 * f ∷ []) xs c.insert.new.self.marks s (2 * f + 1) (lacks1 (2 * f) (2 * f + 1) (omega arith)) n.at1

pub insert-requires-2-clause-few : goal.insert-requires-2-clause-few
insert-requires-2-clause-few c =
    let f = c.args.fork in let xs = c.args.self.now.marks in let a = 2 * c.args.trace in
    let n = new_of f xs c.requires.new_left c.requires.new_right in
    let s = stage1 a f xs n c.insert.new.self.marks c.requires.around c.insert.ensures.marks in
    omega (arith, stage_length a (2 * f ∷ []) xs c.insert.new.self.marks s, c.insert.ensures.room, c.requires.few)

pub insert-requires-3-clause-at : goal.insert-requires-3-clause-at
insert-requires-3-clause-at c = λ x e.
    (let f = c.args.fork in let xs = c.args.self.now.marks in let a = 2 * c.args.trace in
    let n = new_of f xs c.requires.new_left c.requires.new_right in
    let y = c.insert.new.self.marks in let z = c.insert-2.new.self.marks in
    let s = stage2 a f xs n y z (stage1 a f xs n y c.requires.around c.insert.ensures.marks) c.insert-2.ensures.marks in
    at_some (2 * f + 1) x z e (is_there a (2 * f ∷ (2 * f + 1) ∷ []) xs z s (2 * f + 1) (has_later (2 * f) ((2 * f + 1) ∷ []) (2 * f + 1) (has_here (2 * f + 1) [] (2 * f + 1) refl))))

pub insert-requires-3-clause-new : goal.insert-requires-3-clause-new
insert-requires-3-clause-new c =
    let f = c.args.fork in let xs = c.args.self.now.marks in let a = 2 * c.args.trace in
    let n = new_of f xs c.requires.new_left c.requires.new_right in
    let y = c.insert.new.self.marks in let z = c.insert-2.new.self.marks in
    let s = stage2 a f xs n y z (stage1 a f xs n y c.requires.around c.insert.ensures.marks) c.insert-2.ensures.marks in
    not_there a (2 * f ∷ (2 * f + 1) ∷ []) xs z s (2 * f + 2) (lacks2 (2 * f) (2 * f + 1) (2 * f + 2) (omega arith) (omega arith)) n.at2

pub insert-requires-3-clause-few : goal.insert-requires-3-clause-few
insert-requires-3-clause-few c =
    let f = c.args.fork in let xs = c.args.self.now.marks in let a = 2 * c.args.trace in
    let n = new_of f xs c.requires.new_left c.requires.new_right in
    let y = c.insert.new.self.marks in let z = c.insert-2.new.self.marks in
    let s = stage2 a f xs n y z (stage1 a f xs n y c.requires.around c.insert.ensures.marks) c.insert-2.ensures.marks in
    omega (arith, stage_length a (2 * f ∷ (2 * f + 1) ∷ []) xs z s, c.insert.ensures.room, c.insert-2.ensures.room, c.requires.few)

pub insert-requires-4-clause-at : goal.insert-requires-4-clause-at
insert-requires-4-clause-at c = λ x e.
    (let f = c.args.fork in let xs = c.args.self.now.marks in let a = 2 * c.args.trace in
    let n = new_of f xs c.requires.new_left c.requires.new_right in
    let y = c.insert.new.self.marks in let z = c.insert-2.new.self.marks in let w = c.insert-3.new.self.marks in
    let s = stage3 a f xs n z w (stage2 a f xs n y z (stage1 a f xs n y c.requires.around c.insert.ensures.marks) c.insert-2.ensures.marks) c.insert-3.ensures.marks in
    at_some (2 * f + 2) x w e
    (is_there a (2 * f ∷ (2 * f + 1) ∷ (2 * f + 2) ∷ []) xs w s (2 * f + 2) (has_later (2 * f) ((2 * f + 1) ∷ (2 * f + 2) ∷ []) (2 * f + 2) (has_later (2 * f + 1) ((2 * f + 2) ∷ []) (2 * f + 2) (has_here (2 * f + 2) [] (2 * f + 2) refl)))))

pub insert-requires-4-clause-new : goal.insert-requires-4-clause-new
insert-requires-4-clause-new c =
    let f = c.args.fork in let xs = c.args.self.now.marks in let a = 2 * c.args.trace in
    let n = new_of f xs c.requires.new_left c.requires.new_right in
    let y = c.insert.new.self.marks in let z = c.insert-2.new.self.marks in let w = c.insert-3.new.self.marks in
    let s = stage3 a f xs n z w (stage2 a f xs n y z (stage1 a f xs n y c.requires.around c.insert.ensures.marks) c.insert-2.ensures.marks) c.insert-3.ensures.marks in
    not_there a (2 * f ∷ (2 * f + 1) ∷ (2 * f + 2) ∷ []) xs w s (2 * f + 3) (lacks3 (2 * f) (2 * f + 1) (2 * f + 2) (2 * f + 3) (omega arith) (omega arith) (omega arith)) n.at3

pub insert-requires-4-clause-few : goal.insert-requires-4-clause-few
insert-requires-4-clause-few c =
    let f = c.args.fork in let xs = c.args.self.now.marks in let a = 2 * c.args.trace in
    let n = new_of f xs c.requires.new_left c.requires.new_right in
    let y = c.insert.new.self.marks in let z = c.insert-2.new.self.marks in let w = c.insert-3.new.self.marks in
    let s = stage3 a f xs n z w (stage2 a f xs n y z (stage1 a f xs n y c.requires.around c.insert.ensures.marks) c.insert-2.ensures.marks) c.insert-3.ensures.marks in
    omega (arith, stage_length a (2 * f ∷ (2 * f + 1) ∷ (2 * f + 2) ∷ []) xs w s, c.insert.ensures.room, c.insert-2.ensures.room, c.insert-3.ensures.room, c.requires.few)

pub returns-clause-marks : goal.returns-clause-marks
returns-clause-marks c =
    let f = c.args.fork in let xs = c.args.self.now.marks in let a = 2 * c.args.trace in
    let n = new_of f xs c.requires.new_left c.requires.new_right in
    let y = c.insert.new.self.marks in let z = c.insert-2.new.self.marks in let w = c.insert-3.new.self.marks in let v = c.insert-4.new.self.marks in
    let s = stage3 a f xs n z w (stage2 a f xs n y z (stage1 a f xs n y c.requires.around c.insert.ensures.marks) c.insert-2.ensures.marks) c.insert-3.ensures.marks in
    (stage4 a f xs n w v s c.insert-4.ensures.marks).are
    ∙ ap (λ k. place_after a (2 * f ∷ (2 * f + 1) ∷ k ∷ (2 * f + 3) ∷ []) xs) (next_opening f)
    ∙ ap (λ k. place_after a (2 * f ∷ (2 * f + 1) ∷ (2 * (f + 1)) ∷ k ∷ []) xs) (next_closing f)

pub returns-clause-grows : goal.returns-clause-grows
returns-clause-grows c =
    grows_more _ _ _ c.list_renumbered.ensures.grows (grows_more _ _ _ c.list_renumbered-2.ensures.grows (grows_more _ _ _ c.list_renumbered-3.ensures.grows c.list_renumbered-4.ensures.grows))

pub returns-clause-kept : goal.returns-clause-kept
returns-clause-kept c =
    let f = c.args.fork in let xs = c.args.self.now.marks in let a = 2 * c.args.trace in
    let n = new_of f xs c.requires.new_left c.requires.new_right in
    let y = c.insert.new.self.marks in let z = c.insert-2.new.self.marks in let w = c.insert-3.new.self.marks in
    let s1 = stage1 a f xs n y c.requires.around c.insert.ensures.marks in
    let s2 = stage2 a f xs n y z s1 c.insert-2.ensures.marks in
    let s3 = stage3 a f xs n z w s2 c.insert-3.ensures.marks in
    let k1 = keeps_more xs xs _ _ c.args.self.now.labels c.args.self.now.labels c.insert.new.self.labels c.insert.new.self.renumbered (λ m h. h) c.list_renumbered.ensures.grows (λ m h low. inr refl) c.insert.ensures.kept c.list_renumbered.ensures.there in
    let k2 = keeps_more xs y _ _ c.args.self.now.labels c.insert.new.self.labels c.insert-2.new.self.labels c.insert-2.new.self.renumbered (still a (2 * f ∷ []) xs y s1) c.list_renumbered-2.ensures.grows k1 c.insert-2.ensures.kept c.list_renumbered-2.ensures.there in
    let k3 = keeps_more xs z _ _ c.args.self.now.labels c.insert-2.new.self.labels c.insert-3.new.self.labels c.insert-3.new.self.renumbered (still a (2 * f ∷ (2 * f + 1) ∷ []) xs z s2) c.list_renumbered-3.ensures.grows k2 c.insert-3.ensures.kept c.list_renumbered-3.ensures.there in
    keeps_more xs w _ _ c.args.self.now.labels c.insert-3.new.self.labels c.insert-4.new.self.labels c.insert-4.new.self.renumbered (still a (2 * f ∷ (2 * f + 1) ∷ (2 * f + 2) ∷ []) xs w s3) c.list_renumbered-4.ensures.grows k3 c.insert-4.ensures.kept c.list_renumbered-4.ensures.there
