-- The laws on runs.
use Rattle.std.proofs.Common.{◌≡◌, ℕ, List, length, map, sym, subst, Bool, inl, inr}
use Rattle.std.specs.Prelude.{◌&&◌, ℤ, filter}
use Rattle.std.proofs.lemmas.Bool.{and_parts, and_from}
use Rattle.cw_tree.specs.declared.node.Node.{Node}
use Rattle.cw_tree.specs.Nodes.{touches_kind, stamp_of, touches, all_nodes}
use Rattle.cw_tree.specs.Accesses.{is_live, live_accesses}
use Rattle.cw_tree.specs.Journals.{FitsCells}
use Rattle.cw_tree.specs.Shape.{AreStamps}
use Rattle.cw_tree.proofs.Lists.{In}
use Rattle.cw_tree.proofs.Members.{in_filter, below_in, map_in, in_map, filter_in}
use Rattle.cw_tree.proofs.InOrder.Keys.{by_key_in, in_by_key}
use Rattle.cw_tree.proofs.Walks.There.{node_there}
use Rattle.cw_tree.proofs.ChainLaws.LiveAccesses.{live_rises}
use Rattle.cw_tree.proofs.Rising.{rises_increase, rises_same}
use Rattle.cw_tree.proofs.Walks.Kin.{has_in}
use Rattle.cw_open.specs.Machine.{OpenMachine, live}
use Rattle.cw_open.specs.Steps.{Step}
use Rattle.cw_open.specs.Runs.{Allowed, at_once, at_any_time}
use Rattle.cw_open.specs.Laws.{TreesAreSound, OpenAreNested, StrandsStandAtPlaces, ClocksAreLatest, CellsFit, ListsRise, ListsAreLive, ListsHaveAll, NoneUndone, ListsAreChains, BlocksHaveEnded, AtOnceIsAtAnyTime, RefusalsAreTold}
use Rattle.cw_open.proofs.Open.Trees.{stands_well}
use Rattle.cw_open.proofs.Runs.States.{IsState, states, by_rules, at_any_step}
use Rattle.cw_open.proofs.Laws.ChainStates.{newest_alone, chain_states}
use Rattle.cw_open.proofs.Refused.Told.{told}

-- ## Trees

pub trees : TreesAreSound
trees asked first m r = (states (at_any_time asked) first m r).well.sound

pub open_nodes : OpenAreNested
open_nodes asked first m r = (states (at_any_time asked) first m r).well.nested

pub places : StrandsStandAtPlaces
places asked first m r s running = stands_well m (states (at_any_time asked) first m r).well s running

pub clocks : ClocksAreLatest
clocks asked first m r = (states (at_any_time asked) first m r).well.clock

-- ## Lists

pub cells : CellsFit
cells asked first m r =
    let s = states (at_any_time asked) first m r in
    let P : List ℤ → Type 0 = λ vs. (length m.lists ≡ length vs) × FitsCells m.tree (length vs) in
    let z = subst P s.values (s.listed.len, s.listed.cells) in
    (s.values, z.0, z.1)

pub rise : ListsRise
rise asked first m r c = rises_increase (live m c) ((states (at_any_time asked) first m r).listed.rises c)

pub are_live : ListsAreLive
are_live asked first m r c s e =
    let l = (states (at_any_time asked) first m r).listed in
    let i = has_in (live m c) s e in
    let a = l.accesses c s i in
    let P : ℕ → Type 0 = λ k. In k (live m c) in
    (a.0, a.1, a.2, l.lives c a.0 a.1 (subst P (sym a.2) i))

module _ (first : List ℤ) (m : OpenMachine) (s : IsState first m) (none : NoneUndone m) (c : ℕ) where
  abbrev t : List Node
  t = m.tree

  abbrev lives : ℕ → Bool
  lives n = touches t c n && is_live t n

  all_there : (v : ℕ) → In v (live m c) → In v (map (stamp_of t) (live_accesses t c))
  all_there v i =
      let a = s.listed.accesses c v i in
      let P : ℕ → Type 0 = λ k. In k (live m c) in
      let alive = s.listed.lives c a.0 a.1 (subst P (sym a.2) i) in
      let low = node_there (λ x. touches_kind c x.kind) t a.0 a.1 in
      let Q : ℕ → Type 0 = λ k. In k (map (stamp_of t) (live_accesses t c)) in
      subst Q a.2 (map_in (stamp_of t) a.0 (live_accesses t c) (in_by_key (stamp_of t) a.0 (filter lives (all_nodes t)) (filter_in lives a.0 (all_nodes t) (below_in a.0 (length t) low) (and_from (touches t c a.0) (is_live t a.0) a.1 alive))))

  none_more : (v : ℕ) → In v (map (stamp_of t) (live_accesses t c)) → In v (live m c)
  none_more v i =
      let w = in_map (stamp_of t) v (live_accesses t c) i in
      let z = and_parts (touches t c w.0) (is_live t w.0) (in_filter lives w.0 (all_nodes t) (by_key_in (stamp_of t) w.0 (filter lives (all_nodes t)) w.1)).1 in
      let P : ℕ → Type 0 = λ k. In k (live m c) in
      subst P (sym w.2) (elim (s.listed.missing c w.0 z.0 z.1) [ inl j ↦ j | inr g ↦ has_in (live m c) (stamp_of t w.0) (none g.block c w.0 g.pending g.over z.0 z.1) ])

  stamps : AreStamps t
  stamps = s.well.sound.stamps

  pub same_list : live m c ≡ map (stamp_of t) (live_accesses t c)
  same_list =
      rises_same (live m c) (map (stamp_of t) (live_accesses t c)) (s.listed.rises c)
      (live_rises t c stamps)
      all_there none_more

pub have_all : ListsHaveAll
have_all asked first m r none c = same_list first m (states (at_any_time asked) first m r) none c

-- ## Chains

pub chains : ListsAreChains
chains first m r c = ((chain_states first m r).chained c).chain

pub ended : BlocksHaveEnded
ended first m r c = ((chain_states first m r).chained c).ended

-- ## Refused at once

pub any_time : (m : OpenMachine) (e : Step) → Allowed at_once m e → Allowed newest_alone m e
any_time = at_any_step at_once

pub at_any : AtOnceIsAtAnyTime
at_any first m r = by_rules at_once newest_alone first any_time m r

pub are_told : RefusalsAreTold
are_told first m s c w met r a = told first m s c w met r a
