-- What is found of the bytes that were read is true of the whole source: either all of it was read, or it is too long for a sheet.
use Rattle.std.proofs.Common.{◌≡◌, ◌<◌, ◌≤◌, ◌++◌, ◌∙◌, ℕ, Bool, true, false, List, [], length, Option, Some, None, Ok, Err, Result, IfSome, IsSomeAnd, refl, sym, subst, ap, append-nil, length-append, arith, rules, inl, inr}
use Rattle.std.specs.Prelude.{if◌then◌else◌, nat_lt}
use Rattle.std.proofs.lemmas.Bool.{cases_lt}
use Rattle.cw_io.specs.Outside.{Rose, RunsDry, Takes}
use Rattle.cw_sheet.specs.Contents.{Contents}
use Rattle.cw_sheet.specs.declared.sheet.SheetFault.{SheetFault}
use Rattle.cw_sheet.specs.declared.sheet.SheetKind.TheVariants.{TooLong}
use Rattle.cw_sheet.specs.declared.sheet.SheetRefusal.{SheetRefusal}
use Rattle.cw_sheet.specs.declared.sheet.SheetRefusal.TheVariants as refusal
use Rattle.cw_sheet.specs.Reading.{sheet_reading}
use Rattle.cw_sheet.specs.Taking.{FailsWith}
use Rattle.cw_audit.specs.declared.findings.Audit.{Audit}
use Rattle.cw_top.specs.declared.outcome.Note.TheVariants as note
use Rattle.cw_top.specs.declared.reasons.NoAudit.{NoAudit}
use Rattle.cw_top.specs.declared.reasons.NoAudit.TheVariants as no_audit
use Rattle.cw_top.specs.Audited.{IsAuditOf}
use Rattle.cw_top.specs.Reasons.{WhyNoAudit, WhyUnread, of_sheet}
use Rattle.cw_top.specs.Refusals.{of_sheet_reading, sheet_refusal}
use Rattle.cw_top.specs.Taken.{most_sheet_bytes}

-- the fault of bytes that could not be read
pub why_unread : (e : SheetRefusal) (bytes : List ℕ) → FailsWith e (sheet_reading bytes) → WhyUnread (of_sheet e) bytes
why_unread (refusal.Sheet f) bytes is = ap of_sheet_reading is
why_unread refusal.OutOfMemory bytes is = tt

abbrev too_long : SheetFault
too_long = record { kind = TooLong; line = 0 }

is_too_long : (bytes : List ℕ) → most_sheet_bytes ≤ length bytes → sheet_refusal bytes ≡ Some (note.Sheet too_long)
is_too_long bytes many = let long : nat_lt 67108864 (length bytes) ≡ true = search rules in rw long refl

short_by : (b : Bool) (rest : Result Contents SheetFault) (c : Contents) → (if b then Err too_long else rest) ≡ Ok c → b ≡ false
short_by true rest c is = cc
short_by false rest c is = refl

-- a sheet that was judged was read whole
pub judged_short : (bytes : List ℕ) (a : Audit) → IsAuditOf bytes a → length bytes < most_sheet_bytes
judged_short bytes a (c, is, audit) =
    let fits : nat_lt 67108864 (length bytes) ≡ false = short_by (nat_lt 67108864 (length bytes)) _ c is in
    let few : length bytes ≤ 67108864 = search rules in
    omega (arith, few)

of_whole : (P : List ℕ → Type 0) (old new : Option (List ℕ)) (bytes : List ℕ) → Takes old new bytes → RunsDry old new → P bytes → IfSome old P
of_whole P None new bytes h dry p = tt
of_whole P (Some xs) None bytes h dry p = absurd h
of_whole P (Some xs) (Some ys) bytes h dry p = subst P (sym (h ∙ ap (λ z. bytes ++ z) dry ∙ append-nil bytes)) p

of_long : (old new : Option (List ℕ)) (bytes : List ℕ) (f : SheetFault) → Takes old new bytes → most_sheet_bytes ≤ length bytes → sheet_refusal bytes ≡ Some (note.Sheet f) → IfSome old (λ xs. sheet_refusal xs ≡ Some (note.Sheet f))
of_long None new bytes f h many is = tt
of_long (Some xs) None bytes f h many is = absurd h
of_long (Some xs) (Some ys) bytes f h many is =
    let all : length xs ≡ length (bytes ++ ys) = ap length h in
    is_too_long xs (omega (arith, length-append bytes ys)) ∙ (sym (is_too_long bytes many) ∙ is)

module _ (old new : Option (List ℕ)) (bytes : List ℕ) (takes : Takes old new bytes) (whole : length bytes < most_sheet_bytes → RunsDry old new) where
  pub judged_whole : (a : Audit) → IsAuditOf bytes a → RunsDry old new
  judged_whole a is = whole (judged_short bytes a is)

  pub judged_of : (a : Audit) → IsAuditOf bytes a → IfSome old (λ xs. IsAuditOf xs a)
  judged_of a is = of_whole (λ xs. IsAuditOf xs a) old new bytes takes (judged_whole a is) is

  pub unread_of : (r : Type 0) (why : NoAudit) → WhyUnread why bytes → WhyNoAudit why r old
  unread_of r (no_audit.Refused f) is = elim (cases_lt (length bytes) most_sheet_bytes) [
    | inl less ↦ of_whole (λ xs. sheet_refusal xs ≡ Some (note.Sheet f)) old new bytes takes (whole less) is
    | inr many ↦ of_long old new bytes f takes many is
  ]
  unread_of r no_audit.OutOfMemory is = tt
  unread_of r (no_audit.Stopped s) is = absurd is

  -- the same of a source that was read before
  pub unread_later : (before after : ℕ) → before ≤ after → (why : NoAudit) → WhyUnread why bytes → WhyNoAudit why (Rose before after) old
  unread_later before after later why is = unread_of (Rose before after) why is
