-- The program of a load, as a tree whose lines are all 1. It makes transfers between 64 accounts, in groups of 16. Each transfer
-- has a strand of its own beneath the strand of its group.
use Rattle.std.specs.Prelude.{ℕ, zero, suc, ◌+◌, ◌*◌, ◌/◌, ◌%◌, pos, List, [], ◌∷◌, ◌++◌, map, codes, take, drop}
use Rattle.std.specs.List.{range_with_len}
use Rattle.std.specs.Fmt.{decimal}
use Rattle.cw_io.specs.Lcg.{drawn, next_state}
use Rattle.cw_text.specs.declared.ast.Word.{Word}
use Rattle.cw_text.specs.declared.ast.Op.{Op}
use Rattle.cw_text.specs.declared.ast.Op.TheVariants.{Add, Sub, Lt}
use Rattle.cw_text.specs.Syntax.{Term, number, name, at, none, more, binary, Statement, declare, assign, assign_at, run, out, repeat, atomic, spawn, sync, Block, empty, first, Declaration, cell, func}

-- ## What is drawn

-- an amount that is moved from one account to another
pub record Transfer : Type 0 where
  pub from : ℕ
  pub to : ℕ
  pub amount : ℕ

-- the state after three draws
abbrev pub after_transfer : ℕ → ℕ
after_transfer s = next_state (next_state (next_state s))

-- the transfer that three draws give, from state `s` on
abbrev pub transfer_from : ℕ → Transfer
transfer_from s = record {
  from = drawn (next_state s) % 64;
  to = drawn (next_state (next_state s)) % 64;
  amount = drawn (after_transfer s) % 100;
}

-- `count` transfers, drawn from this state on
abbrev pub transfers : (count state : ℕ) → List Transfer
transfers zero s = []
transfers (suc n) s = transfer_from s ∷ transfers n (after_transfer s)

-- the state after the draws of `count` transfers
abbrev pub state_after : (count state : ℕ) → ℕ
state_after zero s = s
state_after (suc n) s = state_after n (after_transfer s)

-- ## Pieces of text

abbrev pub word : List ℕ → Word
word text = record { name = text; line = 1 }

abbrev pub name_term : List ℕ → Term
name_term text = name (word text)

abbrev pub block : List Statement → Block
block [] = empty
block (s ∷ ss) = first s (block ss)

-- `a[NAME]`
abbrev pub account : List ℕ → Term
account text = at (word (codes "a")) (name_term text)

-- ## A transfer

-- `a[NAME] = a[NAME] OP x;`
abbrev pub changed : List ℕ → Op → Statement
changed text op = assign_at (word (codes "a")) (name_term text) (binary op (account text) (name_term (codes "x")))

-- `fn t(i, j, x) { atomic { a[i] = a[i] - x; a[j] = a[j] + x; } }`
abbrev pub transfer_function : Declaration
transfer_function =
    func (codes "t") 1 (word (codes "i") ∷ word (codes "j") ∷ word (codes "x") ∷ [])
    (block (atomic (block (changed (codes "i") Sub ∷ changed (codes "j") Add ∷ [])) ∷ []))

-- `spawn { t(FROM, TO, AMOUNT); }`
abbrev pub spawned_transfer : Transfer → Statement
spawned_transfer t = spawn (block (run (word (codes "t")) (more (number (pos t.from)) (more (number (pos t.to)) (more (number (pos t.amount)) none))) ∷ []))

-- ## Groups

abbrev pub group_name : ℕ → List ℕ
group_name k = codes "g" ++ decimal k

-- `fn gK() { .. }`, with these transfers
abbrev pub group_function : ℕ → List Transfer → Declaration
group_function k ts = func (group_name k) 1 [] (block (map spawned_transfer ts))

-- group `k` of some transfers
abbrev pub group : ℕ → List Transfer → List Transfer
group k ts = take 16 (drop (16 * k) ts)

-- the number of groups for `n` transfers
abbrev pub group_count : ℕ → ℕ
group_count n = (n + 15) / 16

-- `spawn { gK(); }`
abbrev pub spawned_group : ℕ → Statement
spawned_group k = spawn (block (run (word (group_name k)) none ∷ []))

-- ## The whole

-- `while k < 64 { s = s + a[k]; k = k + 1; }`
abbrev pub summing : Statement
summing =
    repeat (binary Lt (name_term (codes "k")) (number (pos 64)))
    (block
    (assign (word (codes "s")) (binary Add (name_term (codes "s")) (account (codes "k")))
    ∷ assign (word (codes "k")) (binary Add (name_term (codes "k")) (number (pos 1)))
    ∷ []))

-- `let k = 0; let s = 0; while .. { .. } out s;`
abbrev pub summed : List Statement
summed = declare (word (codes "k")) (number (pos 0)) ∷ declare (word (codes "s")) (number (pos 0)) ∷ summing ∷ out (name_term (codes "s")) ∷ []

-- `fn main() { .. }`: a strand for each group, and the sum of all accounts
abbrev pub load_main : ℕ → Declaration
load_main groups = func (codes "main") 1 [] (block (map spawned_group (range_with_len 0 groups) ++ sync ∷ summed))

-- `cell a[64] = 1000;`
abbrev pub accounts : Declaration
accounts = cell (codes "a") 1 64 (pos 1000)

-- the program of `n` transfers, drawn from state `n` on
abbrev pub load_tree : ℕ → List Declaration
load_tree n =
    accounts
    ∷ transfer_function
    ∷ (map (λ k. group_function k (group k (transfers n n))) (range_with_len 0 (group_count n)) ++ load_main (group_count n) ∷ [])
