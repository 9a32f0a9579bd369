-- Where no access was refused and no block was rolled back, there are no conflicts to tell.
use Rattle.std.proofs.Common.{◌≡◌, ℕ, ◌<◌, List, [], length, refl, sym, true, false}
use Rattle.std.specs.Prelude.{not}
use Rattle.std.proofs.lemmas.Bool.{and_parts, not_from_false, and_right, false_from_ne_true}
use Rattle.std.proofs.lemmas.List.Elements.{All-nil}
use Rattle.cw_tree.specs.declared.node.Node.{Node}
use Rattle.cw_tree.specs.Nodes.{is_block, is_aborted, is_tried, is_tried_kind}
use Rattle.cw_tree.specs.Walks.{above}
use Rattle.cw_tree.specs.Series.{depth_first}
use Rattle.cw_tree.specs.Accesses.{is_live}
use Rattle.cw_tree.proofs.Lists.{all_from}
use Rattle.cw_tree.specs.Refusals.{IsRecorded, AreRefusals, RollsBack, is_victim}
use Rattle.cw_record.specs.Records.{BlocksAround}
use Rattle.cw_record.proofs.Lists.{filter_none}
use Rattle.cw_record.proofs.OneWorker.NoneAborted.{none_aborted}
use Rattle.cw_tree.proofs.Walks.There.{node_there}

pub none_refused : (t : List Node) (q : ℕ) → ((n : ℕ) → n < length t → is_tried t n ≡ false) → BlocksAround t q → AreRefusals t []
none_refused t q untried blocks = record {
  each = sym (filter_none (is_tried t) (depth_first t) (λ n i. false_from_ne_true (is_tried t n) (λ e. absurd (cc (e, untried n (node_there (λ x. is_tried_kind x.kind) t n e))))));
  recorded = All-nil (IsRecorded t);
  aborted = λ b h e. absurd (cc (e, none_aborted t q blocks b));
  committed = λ b h e. and_right (is_block t b) false refl;
}

-- then no strand rolls back, and each is live
module _ (t : List Node) (none : (n : ℕ) → is_aborted t n ≡ false) where
  pub none_roll : RollsBack t []
  none_roll = record {
    tried = λ n h e. absurd (cc e);
    aborted = λ n h e. absurd (let gone = (and_parts (is_aborted t n) (not (is_victim t [] n)) e).0 in cc (gone, none n));
  }

  pub all_are_live : (n : ℕ) → is_live t n ≡ true
  all_are_live n = all_from (λ a. not (is_aborted t a)) (above t n) (λ a i. not_from_false (is_aborted t a) (none a))
