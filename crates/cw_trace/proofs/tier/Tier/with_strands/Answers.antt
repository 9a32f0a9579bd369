use Rattle.std.proofs.Common.{◌≡◌, Some, None, [], ◌∷◌, length, sym, ap, ◌∙◌, subst, arith, rules}
use Rattle.cw_trace.specs.Columns.{ColumnTable, first_tier}
use Rattle.cw_trace.specs.Tier.{AreSound}
use Rattle.cw_trace.proofs.Sound.First.{sound_first}
use Rattle.cw_trace.proofs.tier.Tier.with_strands.Goals as goal

sound : (c : ColumnTable) → c.owners ≡ 0 ∷ [] → c.gaps ≡ 0 ∷ [] → c.parents ≡ 0 ∷ [] → c.traces ≡ Some (record { head = 0; lead = Some 0; up = None }) ∷ [] → c.brackets ≡ 0 ∷ 1 ∷ [] → c.outers ≡ None ∷ [] → AreSound c
sound c owners gaps parents traces brackets outers =
    let e : c ≡ first_tier c.room =
    ap (λ xs. let d : ColumnTable = record c { owners = xs } in d) owners
    ∙ ap (λ xs. let d : ColumnTable = record c { owners = 0 ∷ []; gaps = xs } in d) gaps
    ∙ ap (λ xs. let d : ColumnTable = record c { owners = 0 ∷ []; gaps = 0 ∷ []; parents = xs } in d) parents
    ∙ ap (λ xs. let d : ColumnTable = record c { owners = 0 ∷ []; gaps = 0 ∷ []; parents = 0 ∷ []; traces = xs } in d) traces
    ∙ ap (λ xs. let d : ColumnTable = record (first_tier c.room) { brackets = xs; outers = c.outers } in d) brackets
    ∙ ap (λ xs. let d : ColumnTable = record (first_tier c.room) { outers = xs } in d) outers in
    subst AreSound (sym e) (sound_first c.room)

pub invariant_of-result : goal.invariant_of-result
invariant_of-result c =
    let owners = c.in_ok-owners.ensures in
    let gaps = c.in_ok-gaps.ensures in
    let parents = c.in_ok-parents.ensures in
    let traces = c.in_ok-traces.ensures in
    let outers = c.in_ok-outers.ensures in
    let one = sym (ap length owners.items) in
    record {
      few = search rules;
      fits = omega (arith, ap length owners.items, c.requires);
      gaps = ap length gaps.items ∙ one;
      parents = ap length parents.items ∙ one;
      traces = ap length traces.items ∙ one;
      outers = ap length outers.items ∙ one;
      owners_room = owners.capacity;
      gaps_room = gaps.capacity;
      parents_room = parents.capacity;
      traces_room = traces.capacity;
      outers_room = outers.capacity;
      brackets_room = search rules;
      touched_used = c.in_ok-touched.ensures.used ∙ one;
      touched_room = c.in_ok-touched.ensures.room;
      labelled = c.insert-2.ensures.labels;
      sound = sound _ owners.items gaps.items parents.items traces.items (search rules) outers.items;
    }
