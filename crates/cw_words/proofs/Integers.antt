-- The integers that words spell, one after another, and words without `-`, one after another.
use Rattle.std.proofs.Common.{◌≡◌, ◌∙◌, ◌∷◌, ◌++◌, ◌+◌, ◌<◌, [], ℕ, ℤ, zero, suc, List, drop, length, map, Option, Some, None, Result, Ok, Err, IfOk, IsOkAnd, arith, get_or, ap, refl, subst, sym, append_assoc}
use Rattle.std.specs.Borrow.{Bor}
use Rattle.std.specs.Prelude.{option_and_then, option_map}
use Rattle.cw_base.specs.declared.memory.OutOfMemory.{OutOfMemory}
use Rattle.cw_words.specs.Options.{integer_of, integers_of}

pub drop_next : {X : Type 0} (xs : List X) (i : ℕ) (d : X) → i < length xs → drop i xs ≡ get_or xs i d ∷ drop (i + 1) xs
drop_next {X = X} xs i d lt = go xs i lt ∙ ap (λ k. get_or xs i d ∷ drop k xs) one
  where
    one : suc i ≡ i + 1
    one = omega arith

    go : (xs : List X) (i : ℕ) → i < length xs → drop i xs ≡ get_or xs i d ∷ drop (suc i) xs
    go [] i lt = absurd (omega arith)
    go (x ∷ xs) zero lt = refl
    go (x ∷ xs) (suc i) lt = go xs i (omega arith)

-- the integers so far, unless memory ran out, and what is left
pub record AreRead (all : Option (List ℤ)) (kept : Result (List ℤ) OutOfMemory) (left : List (List ℕ)) : Type 0 where
  pub before : List ℤ
  pub so_far : IfOk kept (λ ns. ns ≡ before)
  pub more : all ≡ option_map (λ ms. before ++ ms) (integers_of left)

pub none_read : (ws : List (List ℕ)) (kept : Result (List ℤ) OutOfMemory) → kept ≡ Ok [] → AreRead (integers_of ws) kept ws
none_read ws (Ok ns) e = record { before = []; so_far = cc; more = go (integers_of ws) }
  where
    go : (o : Option (List ℤ)) → o ≡ option_map (λ ms. [] ++ ms) o
    go None = refl
    go (Some ns) = refl
none_read ws (Err x) e = cc

module _ (all : Option (List ℤ)) (kept : Result (List ℤ) OutOfMemory) (w : List ℕ) (ws : List (List ℕ)) (i : AreRead all kept (w ∷ ws)) where
  pub bad_word : integer_of w ≡ None → all ≡ None
  bad_word k = i.more ∙ ap (λ o. option_map (λ ms. i.before ++ ms) (option_and_then (λ n. option_map (λ ns. n ∷ ns) (integers_of ws)) o)) k

  pub word_read : (new : Result (List ℤ) OutOfMemory) (n : ℤ) → integer_of w ≡ Some n → IfOk new (λ ns. IsOkAnd kept (λ ms. ns ≡ ms ++ n ∷ [])) → AreRead all new ws
  word_read new n k e = record {
    before = i.before ++ n ∷ [];
    so_far = longer kept new e i.so_far;
    more = i.more ∙ ap (λ o. option_map (λ ms. i.before ++ ms) (option_and_then (λ n. option_map (λ ns. n ∷ ns) (integers_of ws)) o)) k ∙ one_more (integers_of ws);
  }
    where
      one_more : (o : Option (List ℤ)) → option_map (λ ms. i.before ++ ms) (option_map (λ ms. n ∷ ms) o) ≡ option_map (λ ms. (i.before ++ n ∷ []) ++ ms) o
      one_more None = refl
      one_more (Some ms) = ap Some (sym (append_assoc i.before (n ∷ []) ms))

      longer : (old now : Result (List ℤ) OutOfMemory) → IfOk now (λ ns. IsOkAnd old (λ ms. ns ≡ ms ++ n ∷ [])) → IfOk old (λ ms. ms ≡ i.before) → IfOk now (λ ns. ns ≡ i.before ++ n ∷ [])
      longer old (Err x) a b = tt
      longer (Ok ms) (Ok ns) a b = a ∙ ap (λ is. is ++ n ∷ []) b
      longer (Err x) (Ok ns) a b = absurd a

-- ## A loop over words

module _ (all : Option (List ℤ)) (kept : Result (List ℤ) OutOfMemory) (words : List (Bor (List ℕ))) (k : ℕ) (d : Bor (List ℕ)) (some : k < length words)
    (i : AreRead all kept (map (λ w. w.now) (drop k words))) where
  left : AreRead all kept ((get_or words k d).now ∷ map (λ w. w.now) (drop (k + 1) words))
  left = subst (λ (ws : List (Bor (List ℕ))). AreRead all kept (map (λ w. w.now) ws)) (drop_next words k d some) i

  pub loop_read : (new : Result (List ℤ) OutOfMemory) (n : ℤ) → integer_of (get_or words k d).now ≡ Some n → IfOk new (λ ns. IsOkAnd kept (λ ms. ns ≡ ms ++ n ∷ [])) → AreRead all new (map (λ w. w.now) (drop (k + 1) words))
  loop_read new n e more = word_read all kept (get_or words k d).now (map (λ w. w.now) (drop (k + 1) words)) left new n e more

  pub loop_bad : integer_of (get_or words k d).now ≡ None → all ≡ None
  loop_bad e = bad_word all kept (get_or words k d).now (map (λ w. w.now) (drop (k + 1) words)) left e
