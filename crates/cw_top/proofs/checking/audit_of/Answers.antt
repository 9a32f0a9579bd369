use Rattle.cw_top.proofs.checking.audit_of.Goals as goal

-- what was read has a text
pub audit-requires : goal.audit-requires
audit-requires c = (c.read_is_text.ensures _ _ c.in_ok-sheet.ensures.exact).0.has_text
