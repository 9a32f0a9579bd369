-- A block that is left open, and words.
use Rattle.std.proofs.Common.{◌≡◌, ℕ, ℤ, List, [], ◌∷◌, refl, ap, sym, ◌∙◌, arith, true, false, pos, negsuc}
use Rattle.cw_strand.specs.declared.want.Want.TheVariants.{Out as Shows}
use Rattle.cw_strand.specs.declared.want.Given.TheVariants.{Nothing}
use Rattle.cw_strand.specs.Pasts.{start, answered, became}
use Rattle.cw_strand.specs.Strands.{Strands}
use Rattle.cw_tree.specs.declared.node.Node.{Node}
use Rattle.cw_tree.specs.Journals.{JournalsEnded}
use Rattle.cw_tree.specs.Worked.{pending}
use Rattle.cw_tree.proofs.Cancels.{no_cancels}
use Rattle.cw_tree.proofs.Worked.Checks.{is_tree, are_stamps}
use Rattle.cw_job.specs.Room.Strands.{StrandState}
use Rattle.cw_record.specs.Coherent.{alone, Follows}
use Rattle.cw_record.proofs.WorkedEnds.Parts.{follows}
use Rattle.cw_sheet.specs.Contents.{Contents}
use Rattle.cw_audit.specs.declared.findings.Audit.TheVariants.{Sound, Broken}
use Rattle.cw_audit.specs.Journals.{ReadsAreRight}
use Rattle.cw_audit.specs.Parts.{strands_of_sheet}
use Rattle.cw_audit.specs.Audits.{strands, ending, IsAudit}
use Rattle.cw_audit.specs.Worked.{blank, subtracts}
use Rattle.cw_audit.proofs.Worked.Claims.{Before, broken_row, sound_row, accesses_fit, none_pending, none_refused, no_fork, past_in, all_over, strands_by, by_default}

-- without cells
no_reads : (t : List Node) → ReadsAreRight t []
no_reads t c v e = absurd (cc e)

no_journals : (t : List Node) → JournalsEnded t 0
no_journals t c l = absurd (omega arith)

-- ## A block that is left open

abbrev b : Contents
b = blank (pending 0 1)

abbrev in_block : Strands StrandState
in_block = strands_of_sheet b

abbrev at_begin : ℕ → StrandState
at_begin n = became in_block start

abbrev begun : ℕ → StrandState
begun n = became in_block (past_in (start ∷ answered start Nothing ∷ []) n)

did_begin : Follows in_block b.tree at_begin at_begin begun
did_begin = follows in_block b.tree at_begin at_begin begun refl ((tt, (refl, refl)), refl) (tt, ((refl, refl), tt)) refl

pub open_block : IsAudit (blank (pending 0 1)) (Broken 6)
open_block =
    let t = b.tree in
    broken_row b ending (
      are_stamps t refl refl refl refl refl refl refl refl refl,
      record { cells = accesses_fit t 0 refl; reads = no_reads t },
      no_journals t,
      record { refused = none_refused t refl refl refl; spent = λ is. tt },
      strands_by b (_, refl, refl) by_default refl refl refl refl refl (at_begin, at_begin, begun, did_begin, tt),
      tt,
      tt,
      tt,
    )
    (λ w. (let (before, after, reached, d, stands) = w.done in let e : true ≡ false = stands.0 1 (omega arith) in absurd (cc e)))

-- ## Words

abbrev c : Contents
c = subtracts (pos 7 ∷ negsuc 4 ∷ [])

abbrev s : Strands StrandState
s = strands_of_sheet c

abbrev t : List Node
t = c.tree

abbrev before : ℕ → StrandState
before n = became s start

abbrev after : ℕ → StrandState
after n = became s (answered start Nothing)

did : Follows s t before after after
did = follows s t before after after refl ((tt, (refl, refl)), tt) (tt, ((refl, refl), tt)) refl

-- parts 1 to 4, which do not look at words
four : (ws : List ℤ) → Before (subtracts ws) 5
four ws = (
  are_stamps t refl refl refl refl refl refl refl refl refl,
  record { cells = accesses_fit t 0 refl; reads = no_reads t },
  no_journals t,
  record { refused = none_refused t refl refl refl; spent = λ is. tt },
  tt,
  tt,
  tt,
  tt,
)

pub words : IsAudit (subtracts (pos 7 ∷ negsuc 4 ∷ [])) Sound
words =
    let (p1, p2, p3, p4, p5, p6, p7, p8) = four (pos 7 ∷ negsuc 4 ∷ []) in
    sound_row c (is_tree t (omega arith) refl refl refl refl refl) refl (
      p1,
      p2,
      p3,
      p4,
      strands_by c (_, refl, refl) by_default refl refl refl refl refl (before, after, after, did, tt),
      record {
        faulted = tt;
        memory = record { len = refl; each = λ k v e. absurd (cc e) };
        done = (before, after, after, did, (none_pending t refl, all_over s t before after after ((tt, alone {x = 0} refl (λ f e. no_fork t 1 f refl e)), tt)));
      },
      no_cancels t [] refl,
      tt,
    )
    refl

pub other_words : IsAudit (subtracts (negsuc 4 ∷ pos 7 ∷ [])) (Broken 5)
other_words =
    let d : Contents = subtracts (negsuc 4 ∷ pos 7 ∷ []) in
    broken_row d strands (four (negsuc 4 ∷ pos 7 ∷ []))
    (λ w. (
    let (b, a, r, f, stands) = w.done in
    let at_out : b 1 ≡ (strands_of_sheet d).start = (f.series 0 (omega arith) refl).0 ∙ f.start in
    let z : Shows (negsuc 11) ≡ Shows (pos 12) = sym (ap (strands_of_sheet d).want at_out) ∙ (f.fits 1 _ refl).0 in
    absurd (cc z)
    ))
