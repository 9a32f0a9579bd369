-- Writes that are undone, and one more.
use Rattle.std.proofs.Common.{◌≡◌, ℕ, ℤ, pos, List, [], ◌∷◌, ◌++◌, drop, refl, ap, sym, ◌∙◌, arith, length-append}
use Rattle.std.specs.Prelude.{slice_set}
use Rattle.std.specs.List.{AllZip}
use Rattle.std.proofs.lemmas.List.{drop-append-le, map-append, set-set, set-get_or}
use Rattle.std.proofs.lemmas.Option.{unwrap_or-slice_get}
use Rattle.cw_serial.specs.declared.undo.Write.{Write}
use Rattle.cw_serial.specs.declared.undo.Begun.{Begun as Block}
use Rattle.cw_job.specs.Memory.{value_at}
use Rattle.cw_strand.specs.declared.want.Want.TheVariants.{Store}
use Rattle.cw_serial.specs.Wants.{Since, with_write, since_after}
use Rattle.cw_serial.specs.InMemory.{undone, since_of, IsSince}

-- an element that gets back what it held
set_back : (memory : List ℤ) (c : ℕ) (v : ℤ) → slice_set (slice_set memory c v) c (value_at memory c) ≡ memory
set_back memory c v = set-set memory c v (value_at memory c) ∙ (ap (slice_set memory c) (unwrap_or-slice_get memory c (pos 0)) ∙ set-get_or memory c (pos 0))

-- the newest is undone first
undone_newest : (ws : List Write) (w : Write) (memory : List ℤ) → undone (ws ++ w ∷ []) memory ≡ undone ws (slice_set memory w.element w.replaced)
undone_newest [] w memory = refl
undone_newest (x ∷ ws) w memory = ap (λ m. slice_set m x.element x.replaced) (undone_newest ws w memory)

module _ (ws : List Write) (memory : List ℤ) (c : ℕ) (v r : ℤ) (same : r ≡ value_at memory c) where
  abbrev newest : Write
  newest = record { element = c; replaced = r }

  undone_write : (before : List Write) → undone before memory ≡ undone (before ++ newest ∷ []) (slice_set memory c v)
  undone_write before =
      ap (undone before) (sym (set_back memory c v) ∙ ap (slice_set (slice_set memory c v) c) (sym same))
      ∙ sym (undone_newest before newest (slice_set memory c v))

  more_since : (before : List Write) → with_write c (since_of before memory) ≡ since_of (before ++ newest ∷ []) (slice_set memory c v)
  more_since before =
      let written = sym (map-append (λ (w : Write). w.element) before (newest ∷ [])) in
      λ i. record { memory = undone_write before i; written = written i }

  -- one more write counts in each begun block
  since_write : (b : Block) (x : Since) → IsSince ws memory b x → IsSince (ws ++ newest ∷ []) (slice_set memory c v) b (with_write c x)
  since_write b x (within, is) = (
    omega (arith, within, length-append ws (newest ∷ [])),
    ap (with_write c) is
        ∙ (more_since (drop b.writes ws) ∙ ap (λ us. since_of us (slice_set memory c v)) (sym (drop-append-le b.writes ws (newest ∷ []) within))),
  )

  pub since_writes : (bs : List Block) (xs : List Since) → AllZip (IsSince ws memory) bs xs → AllZip (IsSince (ws ++ newest ∷ []) (slice_set memory c v)) bs (since_after (Store c v) memory xs)
  since_writes [] [] h = tt
  since_writes [] (x ∷ xs) h = h
  since_writes (b ∷ bs) [] h = h
  since_writes (b ∷ bs) (x ∷ xs) h = (since_write b x h.0, since_writes bs xs h.1)
