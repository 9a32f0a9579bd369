-- Open parts: how many are left of each kind, and when two nestings are the same.
use Rattle.std.proofs.Common.{◌≡◌, ℕ, zero, suc, ◌+◌, ◌-◌, Bool, true, false, ◌&&◌, List, [], ◌∷◌, ◌++◌, replicate, Option, Some, refl, sym, ap, ◌∙◌, arith}
use Rattle.std.specs.Prelude.{◌==◌, if◌then◌else◌}
use Rattle.std.proofs.lemmas.Bool.{and_parts, ne_eqb}
use Rattle.cw_code.specs.declared.situation.Part.{Part}
use Rattle.cw_code.specs.declared.situation.Part.TheVariants.{Block as block, Fork as forked}
use Rattle.cw_code.specs.declared.instruction.Instr.{Instr}
use Rattle.cw_code.specs.declared.instruction.Code.{Code}
use Rattle.cw_code.specs.declared.effects.Effect.{Effect}
use Rattle.cw_code.specs.Table.{begin, end, fork, done}
use Rattle.cw_code.specs.Rules.{Situation, is_part, parts_in, blocks_in, without_part, parts_after, passed, onwards, same_parts}

-- ## Kinds

pub is_part_itself : (p : Part) → is_part p p ≡ true
is_part_itself block = refl
is_part_itself forked = refl

pub is_part_same : (p q : Part) → is_part p q ≡ true → p ≡ q
is_part_same block block e = refl
is_part_same forked forked e = refl
is_part_same block forked e = cc
is_part_same forked block e = cc

-- there are two kinds
pub one_of_two : (p q r : Part) → is_part p q ≡ false → is_part p r ≡ false → q ≡ r
one_of_two block forked forked a b = refl
one_of_two forked block block a b = refl
one_of_two block block r a b = cc
one_of_two forked forked r a b = cc
one_of_two block forked block a b = cc
one_of_two forked block forked a b = cc

-- ## The same parts

pub same_parts_itself : (ps : List Part) → same_parts ps ps ≡ true
same_parts_itself [] = refl
same_parts_itself (p ∷ ps) = ap (λ b. b && same_parts ps ps) (is_part_itself p) ∙ same_parts_itself ps

pub same_parts_is : (ps qs : List Part) → same_parts ps qs ≡ true → ps ≡ qs
same_parts_is [] [] e = refl
same_parts_is [] (q ∷ qs) e = cc
same_parts_is (p ∷ ps) [] e = cc
same_parts_is (p ∷ ps) (q ∷ qs) e =
    let b = and_parts (is_part p q) (same_parts ps qs) e in
    ap (λ x. x ∷ ps) (is_part_same p q b.0) ∙ ap (λ l. q ∷ l) (same_parts_is ps qs b.1)

-- ## Numbers of parts

-- how many blocks are open after an instruction, given how many were before it
abbrev pub blocks_after : Option Effect → ℕ → ℕ
blocks_after (Some begin) n = n + 1
blocks_after (Some end) n = n - 1
blocks_after e n = n

pub one_fewer : (p : Part) (ps : List Part) → parts_in p (without_part p ps) ≡ parts_in p ps - 1
one_fewer p [] = omega arith
one_fewer p (q ∷ qs) = either (one_fewer p qs) (is_part p q) refl
  where
    either : parts_in p (without_part p qs) ≡ parts_in p qs - 1 → (b : Bool) → is_part p q ≡ b → parts_in p (if b then qs else q ∷ without_part p qs) ≡ (if b then parts_in p qs + 1 else parts_in p qs) - 1
    either rest true e = omega arith
    either rest false e = ap (λ b. if b then parts_in p (without_part p qs) + 1 else parts_in p (without_part p qs)) e ∙ rest

pub others_stay : (p o : Part) (ps : List Part) → is_part p o ≡ false → parts_in o (without_part p ps) ≡ parts_in o ps
others_stay p o [] ne = refl
others_stay block forked (block ∷ qs) ne = refl
others_stay block forked (forked ∷ qs) ne = ap (λ n. n + 1) (others_stay block forked qs ne)
others_stay forked block (forked ∷ qs) ne = refl
others_stay forked block (block ∷ qs) ne = ap (λ n. n + 1) (others_stay forked block qs ne)
others_stay block block (q ∷ qs) ne = cc
others_stay forked forked (q ∷ qs) ne = cc

pub blocks_left : (e : Option Effect) (ps : List Part) → blocks_in (parts_after e ps) ≡ blocks_after e (blocks_in ps)
blocks_left (Some begin) ps = refl
blocks_left (Some end) ps = one_fewer block ps
blocks_left (Some done) ps = others_stay forked block ps refl
blocks_left e ps = refl

module _ (c : Code) (i : Instr) where
  pub blocks_passed : (e : Option Effect) (s : Situation) → blocks_in (passed c i e s).parts ≡ blocks_after e (blocks_in s.parts)
  blocks_passed e s = blocks_left e s.parts

  pub blocks_onwards : (e : Option Effect) (s : Situation) → blocks_in (onwards c i e s).parts ≡ blocks_after e (blocks_in s.parts)
  blocks_onwards (Some fork) s = refl
  blocks_onwards e s = blocks_left e s.parts

-- ## Parts of the other kind in front

-- there is another kind
pub other_part : (p : Part) → (q : Part) × (is_part p q ≡ false)
other_part block = (forked, refl)
other_part forked = (block, refl)

pub one_before : (q : Part) (k : ℕ) (ps : List Part) → replicate k q ++ q ∷ ps ≡ replicate (k + 1) q ++ ps
one_before q zero ps = refl
one_before q (suc k) ps = let e : suc k + 1 ≡ suc (k + 1) = omega arith in ap (λ l. q ∷ l) (one_before q k ps) ∙ ap (λ n. replicate n q ++ ps) (sym e)

pub without_behind : (p q : Part) (k : ℕ) (ps : List Part) → is_part p q ≡ false → without_part p (replicate k q ++ ps) ≡ replicate k q ++ without_part p ps
without_behind p q zero ps ne = refl
without_behind p q (suc k) ps ne =
    ap (λ b. if b then replicate k q ++ ps else q ∷ without_part p (replicate k q ++ ps)) ne ∙ ap (λ l. q ∷ l) (without_behind p q k ps ne)

pub without_first : (p r : Part) (ps : List Part) → is_part p r ≡ true → without_part p (r ∷ ps) ≡ ps
without_first p r ps e = ap (λ b. if b then ps else r ∷ without_part p ps) e

-- how many parts of a kind there are, by the innermost part
pub parts_in_first : (p r : Part) (ps : List Part) → is_part p r ≡ true → (parts_in p (r ∷ ps) == 0) ≡ false
parts_in_first p r ps e = ap (λ b. (if b then parts_in p ps + 1 else parts_in p ps) == 0) e ∙ ne_eqb (parts_in p ps + 1) 0 (λ z. omega arith)

pub parts_in_behind : (p r : Part) (ps : List Part) → is_part p r ≡ false → parts_in p (r ∷ ps) ≡ parts_in p ps
parts_in_behind p r ps e = ap (λ b. if b then parts_in p ps + 1 else parts_in p ps) e
