-- The whole of a sheet, one part behind another.
use Rattle.std.proofs.Common.{◌≡◌, ℕ, ◌≤◌, List, codes, length, refl, ap, sym, subst, ◌∙◌, arith, ℤ, None}
use Rattle.std.specs.Prelude.{Ok, Err}
use Rattle.std.specs.Str.{IsUtf8}
use Rattle.std.proofs.lemmas.Bool.{le-ltb}
use Rattle.std.proofs.lemmas.Str.{utf8_valid_len-IsUtf8}
use Rattle.cw_text.specs.Syntax.{Source}
use Rattle.cw_code.specs.declared.Limits.{Limits}
use Rattle.cw_tree.specs.declared.conflict.Conflict.{Conflict}
use Rattle.cw_tree.specs.declared.node.Node.{Node}
use Rattle.cw_record.specs.declared.record_end.RecordEnd.{RecordEnd}
use Rattle.cw_sheet.specs.declared.sheet.SheetFault.{SheetFault}
use Rattle.cw_sheet.specs.declared.sheet.SheetRefusal.{SheetRefusal}
use Rattle.cw_sheet.specs.Contents.{Contents}
use Rattle.cw_sheet.specs.Items.{Place, Taken, took, refused, ◌into◌}
use Rattle.cw_sheet.specs.Reading.{behind_source, conflicts, contents_from, heading, judged_sheet, last, limits, misplaced, nodes, run_end, sheet_reading, source, values, with_tree}
use Rattle.cw_sheet.specs.Taking.{EndsWith, FailsWith}
use Rattle.cw_sheet.proofs.Taking.{ends_as, ends_into, fails_judged, refused_into, took_into}

-- ## What comes behind each part

abbrev made : Source → List ℤ → Limits → List Node → List Conflict → RecordEnd → Contents
made s w l t k e = record { source = s; words = w; limits = l; tree = t; conflicts = k; end = e }

abbrev after_end : Source → List ℤ → Limits → (line : ℕ) → List Node → List Conflict → RecordEnd → Place → Taken (Contents × ℕ)
after_end s w l line t k e p = last p into λ _ q. took (made s w l t k e, line) q

abbrev after_conflicts : Source → List ℤ → Limits → (line : ℕ) → List Node → List Conflict → Place → Taken (Contents × ℕ)
after_conflicts s w l line t k p = run_end p into after_end s w l line t k

abbrev after_nodes : Source → List ℤ → Limits → (line : ℕ) → List Node → Place → Taken (Contents × ℕ)
after_nodes s w l line t p = conflicts p into after_conflicts s w l line t

abbrev after_limits : Source → List ℤ → Limits → Place → Taken (Contents × ℕ)
after_limits s w l p = nodes p into after_nodes s w l p.line

abbrev after_words : Source → List ℤ → Place → Taken (Contents × ℕ)
after_words s w p = limits p into after_limits s w

-- ## Behind the source

module _ (s : Source) (p : Place) where
  pub words_end : (e : SheetRefusal) → EndsWith e (values (codes "words") p) → FailsWith e (judged_sheet (behind_source s p))
  words_end e h = fails_judged e (behind_source s p) (ends_into e (values (codes "words") p) (after_words s) h)

  module _ (w : List ℤ) (p1 : Place) (is_words : values (codes "words") p ≡ took w p1) where
    words_are : behind_source s p ≡ after_words s w p1
    words_are = took_into (values (codes "words") p) w p1 (after_words s) is_words

    pub limits_end : (f : SheetFault) → limits p1 ≡ refused f → judged_sheet (behind_source s p) ≡ Err f
    limits_end f h = ap judged_sheet (words_are ∙ refused_into (limits p1) f (after_limits s w) h)

    module _ (l : Limits) (p2 : Place) (is_limits : limits p1 ≡ took l p2) where
      limits_are : behind_source s p ≡ after_limits s w l p2
      limits_are = words_are ∙ took_into (limits p1) l p2 (after_limits s w) is_limits

      pub nodes_end : (e : SheetRefusal) → EndsWith e (nodes p2) → FailsWith e (judged_sheet (behind_source s p))
      nodes_end e h = fails_judged e (behind_source s p) (ends_as e (behind_source s p) (after_limits s w l p2) limits_are (ends_into e (nodes p2) (after_nodes s w l p2.line) h))

      module _ (t : List Node) (p3 : Place) (is_nodes : nodes p2 ≡ took t p3) where
        nodes_are : behind_source s p ≡ after_nodes s w l p2.line t p3
        nodes_are = limits_are ∙ took_into (nodes p2) t p3 (after_nodes s w l p2.line) is_nodes

        pub conflicts_end : (e : SheetRefusal) → EndsWith e (conflicts p3) → FailsWith e (judged_sheet (behind_source s p))
        conflicts_end e h = fails_judged e (behind_source s p) (ends_as e (behind_source s p) (after_nodes s w l p2.line t p3) nodes_are (ends_into e (conflicts p3) (after_conflicts s w l p2.line t) h))

        module _ (k : List Conflict) (p4 : Place) (is_conflicts : conflicts p3 ≡ took k p4) where
          conflicts_are : behind_source s p ≡ after_conflicts s w l p2.line t k p4
          conflicts_are = nodes_are ∙ took_into (conflicts p3) k p4 (after_conflicts s w l p2.line t) is_conflicts

          pub run_end_end : (e : SheetRefusal) → EndsWith e (run_end p4) → FailsWith e (judged_sheet (behind_source s p))
          run_end_end e h = fails_judged e (behind_source s p) (ends_as e (behind_source s p) (after_conflicts s w l p2.line t k p4) conflicts_are (ends_into e (run_end p4) (after_end s w l p2.line t k) h))

          module _ (r : RecordEnd) (p5 : Place) (is_end : run_end p4 ≡ took r p5) where
            end_is : behind_source s p ≡ after_end s w l p2.line t k r p5
            end_is = conflicts_are ∙ took_into (run_end p4) r p5 (after_end s w l p2.line t k) is_end

            pub last_end : (f : SheetFault) → last p5 ≡ refused f → judged_sheet (behind_source s p) ≡ Err f
            last_end f h = ap judged_sheet (end_is ∙ refused_into (last p5) f (λ _ q. took (made s w l t k r, p2.line) q) h)

            module _ (p6 : Place) (is_last : last p5 ≡ took tt p6) where
              judged_is : judged_sheet (behind_source s p) ≡ with_tree p2.line (misplaced t) (made s w l t k r)
              judged_is = ap judged_sheet (end_is ∙ took_into (last p5) tt p6 (λ _ q. took (made s w l t k r, p2.line) q) is_last)

              pub tree_end : (e : SheetRefusal) → ((c : Contents) → FailsWith e (with_tree p2.line (misplaced t) c)) → FailsWith e (judged_sheet (behind_source s p))
              tree_end e h = subst (FailsWith e) (sym judged_is) (h (made s w l t k r))

              pub rest_is : misplaced t ≡ None → judged_sheet (behind_source s p) ≡ Ok (made s w l t k r)
              rest_is h = judged_is ∙ ap (λ m. with_tree p2.line m (made s w l t k r)) h

-- ## From the first place on

abbrev after_heading : Place → Taken (Contents × ℕ)
after_heading p = source p into behind_source

module _ (p : Place) where
  pub heading_end : (f : SheetFault) → heading p ≡ refused f → judged_sheet (contents_from p) ≡ Err f
  heading_end f h = ap judged_sheet (refused_into (heading p) f (λ _ q. after_heading q) h)

  module _ (p1 : Place) (is_heading : heading p ≡ took tt p1) where
    heading_is : contents_from p ≡ after_heading p1
    heading_is = took_into (heading p) tt p1 (λ _ q. after_heading q) is_heading

    pub source_end : (e : SheetRefusal) → EndsWith e (source p1) → FailsWith e (judged_sheet (contents_from p))
    source_end e h = fails_judged e (contents_from p) (ends_as e (contents_from p) (after_heading p1) heading_is (ends_into e (source p1) behind_source h))

    pub source_is : (s : Source) (p2 : Place) → source p1 ≡ took s p2 → judged_sheet (contents_from p) ≡ judged_sheet (behind_source s p2)
    source_is s p2 h = ap judged_sheet (heading_is ∙ took_into (source p1) s p2 behind_source h)

-- ## The text

-- a text that is short enough, and whole characters, is what its parts are
pub sheet_is : (text : List ℕ) → length text ≤ 67108864 → IsUtf8 text → sheet_reading text ≡ judged_sheet (contents_from (record { line = 1; text = text }))
sheet_is text short whole =
    rw (le-ltb 67108864 (length text) short, utf8_valid_len-IsUtf8 text whole, le-ltb (length text) (length text) (omega arith)) refl
