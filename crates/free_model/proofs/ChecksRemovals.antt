-- Removals: whole outputs that are runs, and what is none, as the definition computes it.
use Rattle.std.proofs.Common.{◌≡◌, refl}
use Rattle.std.specs.Prelude.{codes}
use Rattle.std.specs.Fmt.{digits}
use Rattle.free_model.specs.Checks.{Yes, No}
use Rattle.pnp_model.proofs.RowsRemovals.{row_eject_events, row_eject_found, row_eject_known, row_eject_lines, row_surprise_events, row_surprise_found, row_surprise_known, row_surprise_lines, row_veto_events, row_veto_found, row_veto_known, row_veto_lines}
use Rattle.pnp_model.proofs.RowsRestarts.{row_violation_events, row_violation_found, row_violation_known, row_violation_lines}
use Rattle.free_model.proofs.CheckBase.{verdict, script_of, with_line}

-- veto
pub check_veto : verdict row_veto_known row_veto_found (script_of row_veto_events) row_veto_lines ≡ Yes
unfolding digits
check_veto = refl

-- the device agreed, so it is RemovePending
pub check_veto_agreed : verdict row_veto_known row_veto_found (script_of row_veto_events) (with_line 47 (codes "QUERY_REMOVE_DEVICE OWN\\FIL\\2 low ok") row_veto_lines) ≡ No 48
unfolding digits
check_veto_agreed = refl

-- a request that may not fail is answered so all the same; all goes on
pub check_veto_violated : verdict row_veto_known row_veto_found (script_of row_veto_events) (with_line 50 (codes "CANCEL_REMOVE_DEVICE OWN\\FIL\\2 dev violation") row_veto_lines) ≡ Yes
unfolding digits
check_veto_violated = refl

-- the end names who refused
pub check_veto_other_end : verdict row_veto_known row_veto_found (script_of row_veto_events) (with_line 54 (codes "end disable OWN\\DEV\\H veto OWN\\DEV\\3") row_veto_lines) ≡ No 54
unfolding digits
check_veto_other_end = refl

-- eject
pub check_eject : verdict row_eject_known row_eject_found (script_of row_eject_events) row_eject_lines ≡ Yes
unfolding digits
check_eject = refl

-- surprise
pub check_surprise : verdict row_surprise_known row_surprise_found (script_of row_surprise_events) row_surprise_lines ≡ Yes
unfolding digits
check_surprise = refl

-- violation
pub check_violation : verdict row_violation_known row_violation_found (script_of row_violation_events) row_violation_lines ≡ Yes
unfolding digits
check_violation = refl

-- a request that may not fail does not fail
pub check_violation_as_a_failure : verdict row_violation_known row_violation_found (script_of row_violation_events) (with_line 22 (codes "STOP_DEVICE OWN\\DEV\\A dev fail") row_violation_lines) ≡ No 22
unfolding digits
check_violation_as_a_failure = refl

-- the answer is free
pub check_no_violation : verdict row_violation_known row_violation_found (script_of row_violation_events) (with_line 22 (codes "STOP_DEVICE OWN\\DEV\\A dev ok") row_violation_lines) ≡ Yes
unfolding digits
check_no_violation = refl
