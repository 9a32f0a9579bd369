-- What a parsing function promises, in the words of the grammar.
use Rattle.std.specs.Prelude.{ℕ, ◌≡◌, ◌<◌, List, [], ◌∷◌, ◌++◌, map, Option, Some, None, Result, Ok, Err, Vec}
use Rattle.std.specs.declared.alloc.Global.{Global}
use Rattle.cw_text.specs.declared.ast.Item.{Item}
use Rattle.cw_text.specs.declared.ast.Stmt.{Stmt}
use Rattle.cw_text.specs.declared.fault.TextFault.{TextFault}
use Rattle.cw_text.specs.declared.fault.TextRefusal.{TextRefusal}
use Rattle.cw_text.specs.declared.fault.TextRefusal.TheVariants.{Text, OutOfMemory}
use Rattle.cw_text.specs.declared.parser.Parser.{Parser}
use Rattle.cw_text.specs.Lexemes.{Lexemes, rest_of}
use Rattle.cw_text.specs.Cursor.{tokens_left, count_of_lexemes}
use Rattle.cw_text.specs.Syntax.{Declaration, declaration_of, statement_of}
use Rattle.cw_text.specs.Grammar.{Symbol, Values, declared, items, opened, pending, read, stated, stmts, then_read}

-- A result is the language that the tokens name, or their fault.
abbrev pub IsLanguage : Result ℕ TextRefusal → Result ℕ TextFault → Type 0
IsLanguage (Ok n) named = named ≡ Ok n
IsLanguage (Err (Text f)) named = named ≡ Err f
IsLanguage (Err OutOfMemory) named = ⊥

-- A result is what the tokens were read as, unless memory ran out.
abbrev pub ReadsItems : Result (Vec Item Global) TextRefusal → Result (List Declaration) TextFault → Type 0
ReadsItems (Ok list) read = read ≡ Ok (map declaration_of list.items)
ReadsItems (Err (Text f)) read = read ≡ Err f
ReadsItems (Err OutOfMemory) read = Unit {0}

-- the tokens that a parser has left
abbrev pub ahead : Parser → Lexemes
ahead p = tokens_left p.cursor

-- The next token was taken, and the symbols k may come behind it.
abbrev pub taken : List Symbol → Values → ℕ → Lexemes → Result Values TextFault
taken k vs line left = then_read (opened k vs line) (λ k' vs'. read k' vs' (rest_of left))

-- The next token begins the symbol s, and the symbols `behind` may come behind it.
abbrev pub Begins : Parser → Symbol → List Symbol → Type 0
Begins p s behind =
    (count_of_lexemes (rest_of (ahead p)) < count_of_lexemes (ahead p))
    × ((k : List Symbol) (vs : Values) → read (s ∷ k) vs (ahead p) ≡ taken (behind ++ k) vs p.cursor.line (ahead p))

-- The next token does not begin the symbol s, which may be empty.
abbrev pub Skips : Parser → Symbol → Type 0
Skips p s = (k : List Symbol) (vs : Values) → read (s ∷ k) vs (ahead p) ≡ read k vs (ahead p)

-- The reading ends in this refusal. If memory ran out, nothing is said.
abbrev pub Fails : TextRefusal → Result Values TextFault → Type 0
Fails (Text f) reading = reading ≡ Err f
Fails OutOfMemory reading = Unit {0}

-- Either the reading goes on from the tokens that are left, as `behind` says of the result, or it fails.
abbrev pub GoesOn : {T : Type 0} → Result T TextRefusal → Result Values TextFault → (T → Lexemes → Result Values TextFault) → Lexemes → Type 0
GoesOn (Ok x) reading behind left = reading ≡ behind x left
GoesOn (Err e) reading behind left = Fails e reading

-- The result was read for the symbols and made these values. This holds whatever symbols (with `depth` of them open)
-- and whatever values are behind them.
abbrev pub Parses : {T : Type 0} → Result T TextRefusal → (depth : ℕ) → List Symbol → (T → Values → Values) → (old new : Lexemes) → Type 0
Parses result depth symbols values old new =
    (k : List Symbol) (vs : Values) → pending k ≡ depth →
    GoesOn result (read (symbols ++ k) vs old) (λ x. read k (values x vs)) new

-- Behind a statement another may come. Without one the block goes on to its end.
abbrev pub statement_read : List Symbol → Values → Option Stmt → Lexemes → Result Values TextFault
statement_read k vs (Some s) = read (stmts ∷ k) (stated (statement_of s) vs)
statement_read k vs None = read k vs

-- Behind an item another may come. Without one the text ends.
abbrev pub item_read : List Symbol → Values → List Declaration → Option Item → Lexemes → Result Values TextFault
item_read k vs ds (Some i) = read (items ∷ k) (declared (ds ++ declaration_of i ∷ []) ∷ vs)
item_read k vs ds None = λ _. Ok (declared ds ∷ vs)
