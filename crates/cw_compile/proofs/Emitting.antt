-- What the parts of a statement and of a block add up to.
use Rattle.std.proofs.Common.{◌≡◌, ℕ, ◌+◌, List, [], ◌∷◌, ◌++◌, length, max, refl, sym, ap, ◌∙◌, subst, arith, append_assoc, length-append}
use Rattle.std.specs.Prelude.{slice_set}
use Rattle.std.proofs.Math.Seq.{set-append_seam}
use Rattle.cw_text.specs.Syntax.{Term, Statement, declare, Block, first, choose, repeat, atomic, spawn}
use Rattle.cw_code.specs.declared.instruction.Instr.{Instr}
use Rattle.cw_strand.proofs.Numbering.{count_behind}
use Rattle.cw_strand.specs.Compilation.{Slots, slots_after, term_code, statement_code, block_code, block_length, jump, jump_zero, tick, begin, end, fork, wait, done}
use Rattle.cw_compile.specs.declared.emitter.Emitter.{Emitter}
use Rattle.cw_compile.specs.Emitted.{peak, with_code, with_statement_code, with_block, IsLeft}

two_more : (xs : List Instr) (x y : Instr) → length ((xs ++ x ∷ []) ++ y ∷ []) ≡ length xs + 1 + 1
two_more xs x y = omega (arith, length-append xs (x ∷ []), length-append (xs ++ x ∷ []) (y ∷ []))

-- an atomic block, piece by piece
pub atomic_emitted : (e e1 e2 e3 e4 e5 : Emitter) (b : Block) (q last : ℕ) → e1 ≡ with_code e (tick ∷ []) → e2 ≡ with_code e1 (begin ∷ []) → last ≡ length e2.code + block_length b + 1 → e3 ≡ with_block e2 last b → e4 ≡ with_code e3 (wait ∷ []) → e5 ≡ with_code e4 (end ∷ []) → e5 ≡ with_statement_code e q (atomic b)
atomic_emitted e e1 e2 e3 e4 e5 b q last i1 i2 k i3 i4 i5 =
    let before : List Instr = (e.code ++ tick ∷ []) ++ begin ∷ [] in
    let body : ℕ → List Instr = λ n. block_code e.elements e.functions e.slots n (n + block_length b + 1) b in
    let flat : ((before ++ body (length before)) ++ wait ∷ []) ++ end ∷ [] ≡ e.code ++ (tick ∷ begin ∷ (body (length e.code + 1 + 1) ++ (wait ∷ end ∷ []))) = rw (two_more e.code tick begin) (simp append_assoc) in
    rw (i5, i4, i3, k, i2, i1) (ap (λ c. record e { code = c; most = (with_block e q b).most }) flat)

-- a spawned block, piece by piece, where the target of the fork was written last
module _ (e e1 e2 e3 e4 e5 : Emitter) (b : Block) (n q : ℕ) where
  pub spawn_emitted : e1 ≡ with_code e (tick ∷ []) → n ≡ length e1.code → e2 ≡ with_code e1 (fork 0 ∷ []) → e3 ≡ with_block e2 q b → e4 ≡ with_code e3 (wait ∷ []) → e5 ≡ with_code e4 (done ∷ []) → record e5 { code = slice_set e5.code n (fork (length e5.code)) } ≡ with_statement_code e q (spawn b)
  spawn_emitted i1 m i2 i3 i4 i5 =
      let front : List Instr = e.code ++ tick ∷ [] in
      let before : List Instr = front ++ fork 0 ∷ [] in
      let body : List Instr = block_code e.elements e.functions e.slots (length before) q b in
      let all : List Instr = ((before ++ body) ++ wait ∷ []) ++ done ∷ [] in
      let flat : all ≡ front ++ fork 0 ∷ (body ++ (wait ∷ done ∷ [])) = simp append_assoc in
      let past : length all ≡ length e.code + 1 + 1 + length body + 1 + 1 = omega (arith, two_more e.code tick (fork 0), length-append before body, two_more (before ++ body) wait done) in
      let set : slice_set all (length front) (fork (length all)) ≡ e.code ++ (tick ∷ fork (length e.code + 1 + 1 + length body + 1 + 1) ∷ (body ++ (wait ∷ done ∷ []))) =
      ap (λ l. slice_set l (length front) (fork (length all))) flat ∙ set-append_seam front (fork 0) (body ++ (wait ∷ done ∷ [])) (fork (length all)) ∙ rw past (append_assoc e.code (tick ∷ []) _) in
      rw (i5, i4, i3, i2, m, i1) (ap (λ c. record e { code = c; most = (with_block e q b).most }) set ∙ rw (two_more e.code tick (fork 0)) refl)

-- a jump that was emitted before its target is written again, with its target
targeted : (front : List Instr) (p : ℕ) (i j : Instr) (rest : List Instr) → length front ≡ p → slice_set (front ++ i ∷ rest) p j ≡ front ++ j ∷ rest
targeted front p i j rest here = subst (λ k. slice_set (front ++ i ∷ rest) k j ≡ front ++ j ∷ rest) here (set-append_seam front i rest j)

-- ## Choices and loops
--
-- What stands before, the test, and the block that is done where it holds, as it is emitted from a place on.
module _ (before test : List Instr) (body : ℕ → List Instr) where
  abbrev front : List Instr
  front = (before ++ tick ∷ []) ++ test

  -- the place of the jump behind the test
  abbrev skip : ℕ
  skip = length before + 1 + length test

  abbrev one : List Instr
  one = body (skip + 1)

  -- the place behind the block
  abbrev past : ℕ
  past = skip + 1 + length one

  front_long : length front ≡ skip
  front_long = omega (arith, length-append (before ++ tick ∷ []) test, length-append before (tick ∷ []))

  abbrev tested : List Instr
  tested = (before ++ tick ∷ []) ++ (test ++ jump_zero 0 ∷ [])

  tested_flat : tested ≡ front ++ jump_zero 0 ∷ []
  tested_flat = sym (append_assoc (before ++ tick ∷ []) test (jump_zero 0 ∷ []))

  tested_long : length tested ≡ skip + 1
  tested_long = omega (arith, ap length tested_flat, length-append front (jump_zero 0 ∷ []), front_long)

  abbrev with_body : List Instr
  with_body = tested ++ body (length tested)

  with_body_flat : with_body ≡ front ++ jump_zero 0 ∷ one
  with_body_flat = ap (λ k. tested ++ body k) tested_long ∙ ap (λ l. l ++ one) tested_flat ∙ append_assoc front (jump_zero 0 ∷ []) one

  with_body_long : length with_body ≡ past
  with_body_long = omega (arith, ap length with_body_flat, length-append front (jump_zero 0 ∷ one), front_long)

  -- one instruction more, and the jump behind the test is written again
  ended : (i j : Instr) → slice_set (with_body ++ i ∷ []) skip j ≡ front ++ j ∷ (one ++ i ∷ [])
  ended i j = ap (λ l. slice_set (l ++ i ∷ []) skip j) with_body_flat ∙ ap (λ l. slice_set l skip j) (append_assoc front (jump_zero 0 ∷ one) (i ∷ [])) ∙ targeted front skip (jump_zero 0) j (one ++ i ∷ []) front_long

  in_place : (rest : List Instr) → front ++ rest ≡ before ++ (tick ∷ (test ++ rest))
  in_place rest = append_assoc (before ++ tick ∷ []) test rest ∙ append_assoc before (tick ∷ []) (test ++ rest)

  -- a loop, whose last jump leads back to its tick
  loop_written : let all = with_body ++ jump (length before) ∷ [] in
      slice_set all skip (jump_zero (length all)) ≡ before ++ (tick ∷ (test ++ (jump_zero (past + 1) ∷ (one ++ jump (length before) ∷ []))))
  loop_written =
      let all : List Instr = with_body ++ jump (length before) ∷ [] in
      let long : length all ≡ past + 1 = omega (arith, length-append with_body (jump (length before) ∷ []), with_body_long) in
      ap (λ k. slice_set all skip (jump_zero k)) long ∙ ended (jump (length before)) (jump_zero (past + 1)) ∙ in_place (jump_zero (past + 1) ∷ (one ++ jump (length before) ∷ []))

  -- a choice, and the block that is done else
  module _ (second : ℕ → List Instr) where
    abbrev other : List Instr
    other = second (past + 1)

    abbrev first_done : List Instr
    first_done = slice_set (with_body ++ jump 0 ∷ []) skip (jump_zero (length with_body + 1))

    first_done_flat : first_done ≡ front ++ jump_zero (past + 1) ∷ (one ++ jump 0 ∷ [])
    first_done_flat = ap (λ k. slice_set (with_body ++ jump 0 ∷ []) skip (jump_zero (k + 1))) with_body_long ∙ ended (jump 0) (jump_zero (past + 1))

    first_done_long : length first_done ≡ past + 1
    first_done_long = omega (arith, ap length first_done_flat, length-append front (jump_zero (past + 1) ∷ (one ++ jump 0 ∷ [])), length-append one (jump 0 ∷ []), front_long)

    abbrev both_done : List Instr
    both_done = first_done ++ second (length first_done)

    -- up to the jump behind the first block
    abbrev first_part : List Instr
    first_part = front ++ jump_zero (past + 1) ∷ one

    first_part_long : length first_part ≡ past
    first_part_long = omega (arith, length-append front (jump_zero (past + 1) ∷ one), front_long)

    both_done_flat : both_done ≡ first_part ++ jump 0 ∷ other
    both_done_flat =
        ap (λ k. first_done ++ second k) first_done_long
        ∙ ap (λ l. l ++ other) first_done_flat
        ∙ append_assoc front (jump_zero (past + 1) ∷ (one ++ jump 0 ∷ [])) other
        ∙ ap (λ l. front ++ jump_zero (past + 1) ∷ l) (append_assoc one (jump 0 ∷ []) other)
        ∙ sym (append_assoc front (jump_zero (past + 1) ∷ one) (jump 0 ∷ other))

    both_done_long : length both_done ≡ past + 1 + length other
    both_done_long = omega (arith, ap length both_done_flat, length-append first_part (jump 0 ∷ other), first_part_long)

    choice_written : slice_set both_done past (jump (length both_done)) ≡ before ++ (tick ∷ (test ++ (jump_zero (past + 1) ∷ (one ++ (jump (past + 1 + length other) ∷ other)))))
    choice_written =
        let last : Instr = jump (past + 1 + length other) in
        ap (λ k. slice_set both_done past (jump k)) both_done_long
        ∙ ap (λ l. slice_set l past last) both_done_flat
        ∙ targeted first_part past (jump 0) last other first_part_long
        ∙ append_assoc front (jump_zero (past + 1) ∷ one) (last ∷ other)
        ∙ in_place (jump_zero (past + 1) ∷ (one ++ (last ∷ other)))

-- a choice, piece by piece, and a loop
module _ (e e1 e2 : Emitter) (t : Term) (n q : ℕ) (i1 : e1 ≡ with_code e (tick ∷ [])) (i2 : e2 ≡ with_code e1 (term_code e1.elements e1.functions e1.slots t ++ jump_zero 0 ∷ [])) (last : n + 1 ≡ length e2.code) where
  abbrev test : List Instr
  test = term_code e.elements e.functions e.slots t

  abbrev code_of : Block → ℕ → List Instr
  code_of b p = block_code e.elements e.functions e.slots p q b

  abbrev ticked : Emitter
  ticked = with_code (with_code e (tick ∷ [])) (test ++ jump_zero 0 ∷ [])

  is_tested : e2 ≡ ticked
  is_tested = i2 ∙ ap (λ x. with_code x (term_code x.elements x.functions x.slots t ++ jump_zero 0 ∷ [])) i1

  number : (b : Block) → n ≡ skip e.code test (code_of b)
  number b = omega (arith, last, ap (λ x. length x.code) is_tested, tested_long e.code test (code_of b))

  pub choice_emitted : (e3 e4 e5 : Emitter) (a b : Block) (m : ℕ) → e3 ≡ with_block e2 q a → e4 ≡ record e3 { code = slice_set (e3.code ++ jump 0 ∷ []) n (jump_zero (length e3.code + 1)) } → m ≡ length e3.code → e5 ≡ with_block e4 q b
      → record e5 { code = slice_set e5.code m (jump (length e5.code)) } ≡ with_statement_code e q (choose t a b)
  choice_emitted e3 e4 e5 a b m i3 i4 k i5 =
      let c = e.code in
      let s3 : e3 ≡ with_block ticked q a = i3 ∙ ap (λ x. with_block x q a) is_tested in
      let past_is : m ≡ past c test (code_of a) = k ∙ ap (λ x. length x.code) s3 ∙ with_body_long c test (code_of a) in
      let whole = choice_written c test (code_of a) (code_of b) in
      let high : max (max e.most (peak (length e.slots) a)) (peak (length e.slots) b) ≡ max e.most (max (peak (length e.slots) a) (peak (length e.slots) b)) = omega arith in
      rw (i5, i4, s3, number a, past_is) (ap (λ l. record e { code = l; most = max (max e.most (peak (length e.slots) a)) (peak (length e.slots) b) }) whole ∙ ap (λ m. record (with_statement_code e q (choose t a b)) { most = m }) high)

  pub loop_emitted : (e3 e4 : Emitter) (b : Block) (p : ℕ) → e3 ≡ with_block e2 q b → e4 ≡ with_code e3 (jump p ∷ []) → p ≡ length e.code
      → record e4 { code = slice_set e4.code n (jump_zero (length e4.code)) } ≡ with_statement_code e q (repeat t b)
  loop_emitted e3 e4 b p i3 i4 start =
      let whole = loop_written e.code test (code_of b) in
      rw (i4, i3, is_tested, number b, start) (ap (λ l. record e { code = l; most = max e.most (peak (length e.slots) b) }) whole)

grown : (s : Statement) (g outer inner : Slots) → g ≡ inner ++ outer → (more : Slots) × (slots_after s g ≡ more ++ outer)
grown (declare w e) g outer inner is = (w.name ∷ inner, ap (λ h. w.name ∷ h) is)
grown _ g outer inner is = (inner, is)

-- one statement more of a block
pub emit_next : (q : ℕ) (body : Block) (start : Emitter) (s : Statement) (b : Block) (e : Emitter) → IsLeft q body start (first s b) e → IsLeft q body start b (with_statement_code e q s)
emit_next q body start s b e is =
    let here : List Instr = statement_code e.elements e.functions e.slots (length e.code) q s in
    record {
      elements = is.elements;
      functions = is.functions;
      code = rw (length-append e.code here) (append_assoc e.code here _) ∙ is.code;
      most = rw (sym (count_behind s e.slots)) (omega arith) ∙ is.most;
      slots = grown s e.slots start.slots is.slots.0 is.slots.1;
    }
