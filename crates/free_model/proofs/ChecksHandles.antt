-- Handles, devices that stay behind, and their end: whole outputs that are runs, and what is none, as the definition computes it.
use Rattle.std.proofs.Common.{◌≡◌, refl}
use Rattle.std.specs.Prelude.{codes}
use Rattle.std.specs.Fmt.{digits}
use Rattle.free_model.specs.Checks.{Yes, No}
use Rattle.pnp_model.proofs.RowsBehind.{row_held_after_a_finish_events, row_held_after_a_finish_found, row_held_after_a_finish_known, row_held_after_a_finish_lines}
use Rattle.pnp_model.proofs.RowsFinishes.{row_the_greatest_is_finished_first_events, row_the_greatest_is_finished_first_found, row_the_greatest_is_finished_first_known, row_the_greatest_is_finished_first_lines, row_told_and_refusing_events, row_told_and_refusing_found, row_told_and_refusing_known, row_told_and_refusing_lines}
use Rattle.pnp_model.proofs.RowsHandles.{row_a_handle_below_what_was_pulled_events, row_a_handle_below_what_was_pulled_found, row_a_handle_below_what_was_pulled_known, row_a_handle_below_what_was_pulled_lines, row_a_handle_refuses_a_removal_events, row_a_handle_refuses_a_removal_found, row_a_handle_refuses_a_removal_known, row_a_handle_refuses_a_removal_lines}
use Rattle.free_model.proofs.CheckBase.{verdict, script_of, with_line, without_line}

-- a handle below what was pulled
pub check_a_handle_below_what_was_pulled : verdict row_a_handle_below_what_was_pulled_known row_a_handle_below_what_was_pulled_found (script_of row_a_handle_below_what_was_pulled_events) row_a_handle_below_what_was_pulled_lines ≡ Yes
unfolding digits
check_a_handle_below_what_was_pulled = refl

-- what depends on it stayed behind, so it waits too
pub check_nobody_waits : verdict row_a_handle_below_what_was_pulled_known row_a_handle_below_what_was_pulled_found (script_of row_a_handle_below_what_was_pulled_events) (without_line 30 row_a_handle_below_what_was_pulled_lines) ≡ No 30
unfolding digits
check_nobody_waits = refl

-- a device stayed behind
pub check_surprise_is_done : verdict row_a_handle_below_what_was_pulled_known row_a_handle_below_what_was_pulled_found (script_of row_a_handle_below_what_was_pulled_events) (with_line 31 (codes "end surprise OWN\\DEV\\H done") row_a_handle_below_what_was_pulled_lines) ≡ No 31
unfolding digits
check_surprise_is_done = refl

-- a REMOVE that is pending leaves the device as it is
pub check_finish_pending : verdict row_a_handle_below_what_was_pulled_known row_a_handle_below_what_was_pulled_found (script_of row_a_handle_below_what_was_pulled_events) (with_line 34 (codes "REMOVE_DEVICE OWN\\DEV\\C dev pend") row_a_handle_below_what_was_pulled_lines) ≡ No 35
unfolding digits
check_finish_pending = refl

-- a handle refuses a removal
pub check_a_handle_refuses_a_removal : verdict row_a_handle_refuses_a_removal_known row_a_handle_refuses_a_removal_found (script_of row_a_handle_refuses_a_removal_events) row_a_handle_refuses_a_removal_lines ≡ Yes
unfolding digits
check_a_handle_refuses_a_removal = refl

-- nobody is asked while a handle is open
pub check_asked_over_a_handle : verdict row_a_handle_refuses_a_removal_known row_a_handle_refuses_a_removal_found (script_of row_a_handle_refuses_a_removal_events) (with_line 14 (codes "QUERY_REMOVE_DEVICE OWN\\DEV\\1 dev ok") row_a_handle_refuses_a_removal_lines) ≡ No 14
unfolding digits
check_asked_over_a_handle = refl

-- the greatest is finished first
pub check_the_greatest_is_finished_first : verdict row_the_greatest_is_finished_first_known row_the_greatest_is_finished_first_found (script_of row_the_greatest_is_finished_first_events) row_the_greatest_is_finished_first_lines ≡ Yes
unfolding digits
check_the_greatest_is_finished_first = refl

-- the ready device of the greatest serial is next
pub check_the_lesser_first : verdict row_the_greatest_is_finished_first_known row_the_greatest_is_finished_first_found (script_of row_the_greatest_is_finished_first_events) (with_line 72 (codes "REMOVE_DEVICE OWN\\DEV\\2 dev ok") row_the_greatest_is_finished_first_lines) ≡ No 72
unfolding digits
check_the_lesser_first = refl

-- held after a finish
pub check_held_after_a_finish : verdict row_held_after_a_finish_known row_held_after_a_finish_found (script_of row_held_after_a_finish_events) row_held_after_a_finish_lines ≡ Yes
unfolding digits
check_held_after_a_finish = refl

-- told and refusing
pub check_told_and_refusing : verdict row_told_and_refusing_known row_told_and_refusing_found (script_of row_told_and_refusing_events) row_told_and_refusing_lines ≡ Yes
unfolding digits
check_told_and_refusing = refl
