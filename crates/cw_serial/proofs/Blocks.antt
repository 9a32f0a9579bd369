-- Begun blocks, by the numbers of the strands that began them, and by their names.
use Rattle.std.proofs.Common.{◌≡◌, ◌==◌, ℕ, refl, ap, sym, ◌∙◌, Bool, true, false, cond, ◌⊎◌, inl, inr, Option, Some, None, List, [], ◌∷◌}
use Rattle.std.proofs.lemmas.Bool.Decides.{eqb_tells}
use Rattle.cw_strand.specs.declared.want.Want.{Want}
use Rattle.cw_strand.specs.declared.want.Want.TheVariants.{Begin, End, Cancel, Fork, Sync, Done, Fault}
use Rattle.cw_tree.specs.declared.picks.Name.{Name}
use Rattle.cw_tree.specs.declared.picks.Turn.{Turn}
use Rattle.cw_serial.specs.declared.undo.Begun.{Begun as Block}
use Rattle.cw_serial.specs.declared.table.Row.{Row}
use Rattle.cw_serial.specs.Wants.{blocks_after}
use Rattle.cw_serial.specs.Machine.{Begun, same_name, steps_down}
use Rattle.cw_serial.specs.TableInMemory.{IsFront, StrandsAreNumbered}
use Rattle.cw_serial.specs.InMemory.{AreBegun}
use Rattle.cw_serial.proofs.Numbers.{turns_more}
use Rattle.cw_serial.proofs.Numbered.{turns_unique}
use Rattle.cw_serial.proofs.Turns.{name_true, name_itself}

-- blocks stay begun while strands are started
pub begun_more : (names more : List Name) (bs : List Block) (cs : List Begun) → IsFront names more → AreBegun names bs cs → AreBegun more bs cs
begun_more names more [] [] front h = tt
begun_more names more [] (c ∷ cs) front h = h
begun_more names more (b ∷ bs) [] front h = h
begun_more names more (b ∷ bs) (c ∷ cs) (rest, e) h = (ap (λ v. steps_down v b.strand) e ∙ turns_more names rest b.strand c.strand h.0, begun_more names more bs cs (rest, e) h.1)

-- the begun blocks, or none
abbrev pub AreAlike : List Name → Option (List Block) → Option (List Begun) → Type 0
AreAlike names None None = Unit {0}
AreAlike names (Some bs) (Some cs) = AreBegun names bs cs
AreAlike names o u = ⊥

pub alike_none : (names : List Name) (o : Option (List Begun)) → AreAlike names None o → o ≡ None
alike_none names None h = refl
alike_none names (Some cs) h = absurd h

pub alike_some : (names : List Name) (bs : List Block) (o : Option (List Begun)) → AreAlike names (Some bs) o → (cs : List Begun) × (o ≡ Some cs) × AreBegun names bs cs
alike_some names bs None h = absurd h
alike_some names bs (Some cs) h = (cs, refl, h)

module _ {S : Type 0} (names : List Name) (rows : List (Row S)) (ok : StrandsAreNumbered names rows) (n : ℕ) (q : List Turn) (up : steps_down names n ≡ Some q) where
  -- a strand has that number where it has that name
  same_strand : (m : ℕ) (z : List Turn) → steps_down names m ≡ Some z → (m == n) ≡ same_name z q
  same_strand m z uz = by (eqb_tells m n) (same_name z q) refl where
    by : (((m == n) ≡ true) × (m ≡ n)) ⊎ (((m == n) ≡ false) × (m ≡ n → ⊥)) → (b : Bool) → same_name z q ≡ b → (m == n) ≡ same_name z q
    by (inl (t, e)) b f = let same : z ≡ q = (let g : Some z ≡ Some q = sym uz ∙ (ap (steps_down names) e ∙ up) in cc) in t ∙ sym (ap (λ v. same_name v q) same ∙ name_itself q)
    by (inr (t, ne)) false f = t ∙ sym f
    by (inr (t, ne)) true f = absurd (ne (turns_unique names rows ok m n z uz (up ∙ ap (λ v. Some v) (sym (name_true z q f)))))

  -- where a block is the strand's own by its number, it is by its name
  where_own : (b : Block) (c : Begun) → steps_down names b.strand ≡ Some c.strand → (bs : List Block) (cs : List Begun) → AreBegun names bs cs → AreAlike names (cond (b.strand == n) (Some bs) None) (cond (same_name c.strand q) (Some cs) None)
  where_own b c up_to bs cs h = by (b.strand == n) (same_name c.strand q) (same_strand b.strand c.strand up_to) where
    by : (x y : Bool) → x ≡ y → AreAlike names (cond x (Some bs) None) (cond y (Some cs) None)
    by true true e = h
    by false false e = tt
    by true false e = absurd cc
    by false true e = absurd cc

  -- a want does the same to both
  pub blocks_alike : (place : ℕ) (w : Want) (bs : List Block) (cs : List Begun) → AreBegun names bs cs
      → AreAlike names (blocks_after (record { strand = n; writes = place }) (λ (b : Block). b.strand == n) w bs) (blocks_after (record { strand = q }) (λ (c : Begun). same_name c.strand q) w cs)
  blocks_alike place Begin bs cs h = (up, h)
  blocks_alike place End [] [] h = tt
  blocks_alike place End (b ∷ bs) (c ∷ cs) h = where_own b c h.0 bs cs h.1
  blocks_alike place End _ _ h = absurd h
  blocks_alike place Cancel [] [] h = tt
  blocks_alike place Cancel (b ∷ bs) (c ∷ cs) h = where_own b c h.0 (b ∷ bs) (c ∷ cs) h
  blocks_alike place Cancel _ _ h = absurd h
  blocks_alike place Fork bs cs h = tt
  blocks_alike place Sync bs cs h = tt
  blocks_alike place Done bs cs h = tt
  blocks_alike place (Fault k) bs cs h = tt
  blocks_alike place _ bs cs h = h
