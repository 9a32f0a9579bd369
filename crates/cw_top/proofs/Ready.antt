-- A command has numbers within their bounds: it has workers, lists none but them, and has a column for its first strand.
use Rattle.std.proofs.Common.{◌≡◌, ◌≤◌, ◌<◌, ◌-◌, ◌^◌, ◌∷◌, ◌&&◌, [], ℕ, zero, suc, Bool, true, false, List, length, Option, Some, None, IfSome, arith, refl, rules}
use Rattle.std.specs.Prelude.{◌==◌, All, codes, if◌then◌else◌, nat_le, option_and_then, option_map}
use Rattle.std.specs.Str.{all_ascii_digits, bytes_eq}
use Rattle.std.specs.Str.Parse.{digits_value}
use Rattle.cw_code.specs.declared.Limits.{Limits}
use Rattle.cw_io.specs.declared.schedule.Schedule.TheVariants.{List as Listed, Seeded}
use Rattle.cw_sim.specs.Turns.{ListsWorkers}
use Rattle.cw_words.specs.declared.command.Command.TheVariants.{Load, Check}
use Rattle.cw_code.specs.Ranges.{NumberOption, aborts_option, fuel_option, moves_option, size_option, strands_option, workers_option}
use Rattle.cw_words.specs.Options.{Given, GivenOption, are_known, given, integers_of, list_below, number_in, number_given, number_within, numbers_below, sole_word, parts_of, option_value}
use Rattle.cw_words.specs.Words.{check_given, check_options, command_of, keep_given, keep_options, limits_given, load_given, load_options, most_transfers, races_given, races_options, transfers_given, report_given, run_given, run_options, schedule_given, schedule_in, sim_given, sim_options, most_listed}
use Rattle.cw_top.specs.Runs.{IsReady}

-- ## Values that may be missing

then_some : {T U : Type 0} (P : T → Type 0) (Q : U → Type 0) (f : T → Option U) (o : Option T) → IfSome o P → ((x : T) → P x → IfSome (f x) Q) → IfSome (option_and_then f o) Q
then_some P Q f None h go = tt
then_some P Q f (Some x) h go = go x h

each_some : {T U : Type 0} (Q : U → Type 0) (f : T → Option U) (o : Option T) → ((x : T) → IfSome (f x) Q) → IfSome (option_and_then f o) Q
each_some Q f None go = tt
each_some Q f (Some x) go = go x

map_some : {T U : Type 0} (Q : U → Type 0) (f : T → U) (o : Option T) → ((x : T) → Q (f x)) → IfSome (option_map f o) Q
map_some Q f None go = tt
map_some Q f (Some x) go = go x

where_true : {T : Type 0} (Q : T → Type 0) (b : Bool) (o : Option T) → IfSome o Q → IfSome (if b then o else None) Q
where_true Q true o h = h
where_true Q false o h = tt

-- ## Numbers

within : (least most : ℕ) (v : List ℕ) → IfSome (number_within least most v) (λ n. (least ≤ n) × (n ≤ most))
within least most [] = tt
within least most (d ∷ ds) =
    let n = digits_value 10 (d ∷ ds) in
    go n (all_ascii_digits (d ∷ ds)) (nat_le least n) refl (nat_le n most) refl
  where
    go : (n : ℕ) (a b : Bool) → nat_le least n ≡ b → (c : Bool) → nat_le n most ≡ c → IfSome (if a && b && c then Some n else None) (λ m. (least ≤ m) × (m ≤ most))
    go n false b e c f = tt
    go n true false e c f = tt
    go n true true e false f = tt
    go n true true e true f = let l : least ≤ n = search rules in let m : n ≤ most = search rules in (l, m)

at_least : (o : NumberOption) (os : List GivenOption) → o.least ≤ o.default → IfSome (number_given o os) (λ n. o.least ≤ n)
at_least o os d = each_some (λ n. o.least ≤ n) (number_in o) (option_value o.name os) go
  where
    weaker : (r : Option ℕ) → IfSome r (λ n. (o.least ≤ n) × (n ≤ o.most)) → IfSome r (λ n. o.least ≤ n)
    weaker None h = tt
    weaker (Some n) h = h.0

    go : (v : Option (List ℕ)) → IfSome (number_in o v) (λ n. o.least ≤ n)
    go None = d
    go (Some v) = weaker (number_within o.least o.most v) (within o.least o.most v)

all_none : (P : ℕ → Type 0) → All P []
all_none P k d l = absurd (omega arith)

all_more : (P : ℕ → Type 0) (x : ℕ) (xs : List ℕ) → P x → All P xs → All P (x ∷ xs)
all_more P x xs p h zero d l = p
all_more P x xs p h (suc k) d l = h k d (omega arith)

below : (limit : ℕ) (vs : List (List ℕ)) → 0 < limit → IfSome (numbers_below limit vs) (All (λ n. n < limit))
below limit [] some = all_none (λ n. n < limit)
below limit (v ∷ vs) some = go (number_within 0 (limit - 1) v) (within 0 (limit - 1) v) (numbers_below limit vs) (below limit vs some)
  where
    go : (o : Option ℕ) → IfSome o (λ n. (0 ≤ n) × (n ≤ limit - 1)) → (r : Option (List ℕ)) → IfSome r (All (λ n. n < limit)) → IfSome (option_and_then (λ n. option_map (λ ns. n ∷ ns) r) o) (All (λ n. n < limit))
    go None h r k = tt
    go (Some n) h None k = tt
    go (Some n) h (Some ns) k = let l : n < limit = omega (arith, h.1) in all_more (λ m. m < limit) n ns l k

listed : (workers : ℕ) (list seed : Option (List ℕ)) → 0 < workers → IfSome (schedule_in workers list seed) (λ s. ListsWorkers s workers)
listed workers None None some = λ n l. absurd (omega arith)
listed workers (Some v) None some = go (list_below workers most_listed v) (where_true (All (λ n. n < workers)) (nat_le (length (parts_of v)) most_listed) (numbers_below workers (parts_of v)) (below workers (parts_of v) some))
  where
    go : (o : Option (List ℕ)) → IfSome o (All (λ n. n < workers)) → IfSome (option_map Listed o) (λ s. ListsWorkers s workers)
    go None h = tt
    go (Some ns) h = λ n l. h n 0 l
listed workers None (Some v) some = go (number_within 0 (2 ^ 64 - 1) v)
  where
    go : (o : Option ℕ) → IfSome (option_map Seeded o) (λ s. ListsWorkers s workers)
    go None = tt
    go (Some n) = tt
listed workers (Some v) (Some w) some = tt

-- ## Commands

column : (os : List GivenOption) → IfSome (limits_given os) (λ ls. 0 < ls.strands)
column os =
    let P : Limits → Type 0 = λ ls. 0 < ls.strands in
    each_some P _ (number_given fuel_option os) (λ f. each_some P _ (number_given size_option os) (λ n. each_some P _ (number_given aborts_option os) (λ b.
    then_some (λ m. 1 ≤ m) P _ (number_given strands_option os) (at_least strands_option os (omega arith)) (λ m l. map_some P _ (number_given moves_option os) (λ c. omega arith)))))

run_ready : (g : Given) → IfSome (run_given g) IsReady
run_ready g = where_true IsReady (are_known run_options g.options) _
    (then_some (λ (ls : Limits). 0 < ls.strands) IsReady _ (limits_given g.options) (column g.options) (λ ls l.
    each_some IsReady _ (report_given g.options) (λ p.
    then_some (λ w. 1 ≤ w) IsReady _ (number_given workers_option g.options) (at_least workers_option g.options (omega arith)) (λ w m.
    map_some IsReady _ (integers_of g.words) (λ ns. (omega arith, l))))))

sim_ready : (g : Given) → IfSome (sim_given g) IsReady
sim_ready g = where_true IsReady (are_known sim_options g.options) _
    (then_some (λ (ls : Limits). 0 < ls.strands) IsReady _ (limits_given g.options) (column g.options) (λ ls l.
    each_some IsReady _ (report_given g.options) (λ p.
    then_some (λ w. 1 ≤ w) IsReady _ (number_given workers_option g.options) (at_least workers_option g.options (omega arith)) (λ w m.
    then_some (λ s. ListsWorkers s w) IsReady _ (schedule_given w g.options) (each_some (λ s. ListsWorkers s w) _ (option_value (codes "schedule") g.options) (λ list. each_some (λ s. ListsWorkers s w) _ (option_value (codes "seed") g.options) (λ seed. listed w list seed (omega arith)))) (λ s a.
    map_some IsReady _ (integers_of g.words) (λ ns. (omega arith, a, l)))))))

counted : (g : Given) → IfSome (transfers_given g) (λ n. (1 ≤ n) × (n ≤ most_transfers))
counted g = each_some (λ n. (1 ≤ n) × (n ≤ most_transfers)) _ (sole_word g.words) (within 1 most_transfers)

load_ready : (g : Given) → IfSome (load_given g) IsReady
load_ready g = where_true IsReady (are_known load_options g.options) _
    (then_some (λ w. 1 ≤ w) IsReady _ (number_given workers_option g.options) (at_least workers_option g.options (omega arith)) (λ w m.
    go w m (transfers_given g) (counted g)))
  where
    go : (w : ℕ) → 1 ≤ w → (o : Option ℕ) → IfSome o (λ n. (1 ≤ n) × (n ≤ most_transfers)) → IfSome (option_map (λ n. Load n w) o) IsReady
    go w m None h = tt
    go w m (Some n) h = (omega arith, h.0, h.1)

keep_ready : (g : Given) → IfSome (keep_given g) IsReady
keep_ready g = where_true IsReady (are_known keep_options g.options) _
    (then_some (λ (ls : Limits). 0 < ls.strands) IsReady _ (limits_given g.options) (column g.options) (λ ls l.
    then_some (λ w. 1 ≤ w) IsReady _ (number_given workers_option g.options) (at_least workers_option g.options (omega arith)) (λ w m.
    map_some IsReady _ (integers_of g.words) (λ ns. (omega arith, l)))))

races_ready : (g : Given) → IfSome (races_given g) IsReady
races_ready g = where_true IsReady (are_known races_options g.options) _ (each_some IsReady _ (limits_given g.options) (λ ls. map_some IsReady _ (integers_of g.words) (λ ns. tt)))

check_ready : (g : Given) → IfSome (check_given g) IsReady
check_ready g = where_true IsReady (are_known check_options g.options && length g.words == 0) (Some Check) tt

pub ready : (words : List (List ℕ)) → IfSome (command_of words) IsReady
ready [] = tt
ready (name ∷ words) = go (bytes_eq name (codes "run")) (bytes_eq name (codes "sim")) (bytes_eq name (codes "load")) (bytes_eq name (codes "keep")) (bytes_eq name (codes "races")) (bytes_eq name (codes "check"))
  where
    go : (a b c d e f : Bool) → IfSome (if a then option_and_then run_given (given words) else if b then option_and_then sim_given (given words) else if c then option_and_then load_given (given words) else if d then option_and_then keep_given (given words) else if e then option_and_then races_given (given words) else if f then option_and_then check_given (given words) else None) IsReady
    go true b c d e f = each_some IsReady run_given (given words) run_ready
    go false true c d e f = each_some IsReady sim_given (given words) sim_ready
    go false false true d e f = each_some IsReady load_given (given words) load_ready
    go false false false true e f = each_some IsReady keep_given (given words) keep_ready
    go false false false false true f = each_some IsReady races_given (given words) races_ready
    go false false false false false true = each_some IsReady check_given (given words) check_ready
    go false false false false false false = tt
