-- Starts: whole outputs that are runs, and what is none, as the definition computes it.
use Rattle.std.proofs.Common.{[], ◌∷◌, ◌++◌, ◌≡◌, refl, true}
use Rattle.std.specs.Prelude.{codes, take, drop}
use Rattle.std.specs.Fmt.{digits}
use Rattle.pnp_labels.specs.declared.event.Event.{Event}
use Rattle.free_model.specs.Checks.{Yes, No}
use Rattle.pnp_model.proofs.RowsBooks.{row_filter_stack_events, row_filter_stack_found, row_filter_stack_known, row_filter_stack_lines, row_full_book_events, row_full_book_found, row_full_book_known, row_full_book_lines}
use Rattle.pnp_model.proofs.RowsStarts.{row_empty_script_events, row_empty_script_found, row_empty_script_known, row_empty_script_lines, row_one_device_events, row_one_device_found, row_one_device_known, row_one_device_lines, row_two_starts_at_once_events, row_two_starts_at_once_found, row_two_starts_at_once_known, row_two_starts_at_once_lines}
use Rattle.pnp_model.proofs.RowsTroubles.{row_refused_add_events, row_refused_add_found, row_refused_add_known, row_refused_add_lines}
use Rattle.free_model.proofs.CheckBase.{verdict, script_of, spoilt, with_line, without_line, twice_line}

-- empty script
pub check_empty_script : verdict row_empty_script_known row_empty_script_found (script_of row_empty_script_events) row_empty_script_lines ≡ Yes
unfolding digits
check_empty_script = refl

-- no trace at all
pub check_empty_trace : verdict row_empty_script_known row_empty_script_found (script_of row_empty_script_events) [] ≡ No 1
unfolding digits
check_empty_trace = refl

-- one device
pub check_one_device : verdict row_one_device_known row_one_device_found (script_of row_one_device_events) row_one_device_lines ≡ Yes
unfolding digits
check_one_device = refl

-- the START of line 8 failed: what a failed one leads to is due
pub check_one_device_failed : verdict row_one_device_known row_one_device_found (script_of row_one_device_events) (with_line 8 (codes "START_DEVICE OWN\\DEV\\1 dev fail") row_one_device_lines) ≡ No 9
unfolding digits
check_one_device_failed = refl

-- a driver is added or not: no such answer is pending
pub check_one_device_pending : verdict row_one_device_known row_one_device_found (script_of row_one_device_events) (with_line 6 (codes "add OWN\\DEV\\1 dev pend") row_one_device_lines) ≡ No 6
unfolding digits
check_one_device_pending = refl

-- its problem is due
pub check_one_device_not_added : verdict row_one_device_known row_one_device_found (script_of row_one_device_events) (with_line 6 (codes "add OWN\\DEV\\1 dev fail") row_one_device_lines) ≡ No 7
unfolding digits
check_one_device_not_added = refl

-- the events are those of the script
pub check_one_device_other_event : verdict row_one_device_known row_one_device_found (script_of row_one_device_events) (with_line 2 (codes "event plug OWN\\DEV\\2") row_one_device_lines) ≡ No 2
unfolding digits
check_one_device_other_event = refl

-- a line is left out
pub check_one_device_without_a_state : verdict row_one_device_known row_one_device_found (script_of row_one_device_events) (without_line 9 row_one_device_lines) ≡ No 9
unfolding digits
check_one_device_without_a_state = refl

-- a line stands twice
pub check_one_device_listed_twice : verdict row_one_device_known row_one_device_found (script_of row_one_device_events) (twice_line 10 row_one_device_lines) ≡ No 11
unfolding digits
check_one_device_listed_twice = refl

-- the end of the output is told too
pub check_one_device_other_end : verdict row_one_device_known row_one_device_found (script_of row_one_device_events) (with_line 13 (codes " 1 OWN\\DEV\\1 NotStarted") row_one_device_lines) ≡ No 13
unfolding digits
check_one_device_other_end = refl

-- a line too many
pub check_one_device_longer : verdict row_one_device_known row_one_device_found (script_of row_one_device_events) (row_one_device_lines ++ codes "outstanding" ∷ []) ≡ No 16
unfolding digits
check_one_device_longer = refl

-- a line too few
pub check_one_device_shorter : verdict row_one_device_known row_one_device_found (script_of row_one_device_events) (take 14 row_one_device_lines) ≡ No 15
unfolding digits
check_one_device_shorter = refl

-- with a bad line after its events
pub check_one_device_bad : verdict row_one_device_known row_one_device_found (spoilt 4 row_one_device_events) (take 10 row_one_device_lines ++ codes "script error line 4" ∷ drop 10 row_one_device_lines) ≡ Yes
unfolding digits
check_one_device_bad = refl

-- two starts at once
pub check_two_starts_at_once : verdict row_two_starts_at_once_known row_two_starts_at_once_found (script_of row_two_starts_at_once_events) row_two_starts_at_once_lines ≡ Yes
unfolding digits
check_two_starts_at_once = refl

-- the START was answered, so its state is due before the next event
pub check_no_answer_pending : verdict row_two_starts_at_once_known row_two_starts_at_once_found (script_of row_two_starts_at_once_events) (with_line 16 (codes "START_DEVICE OWN\\DEV\\2 dev ok") row_two_starts_at_once_lines) ≡ No 17
unfolding digits
check_no_answer_pending = refl

-- refused add
pub check_refused_add : verdict row_refused_add_known row_refused_add_found (script_of row_refused_add_events) row_refused_add_lines ≡ Yes
unfolding digits
check_refused_add = refl

-- what an added driver leads to is due
pub check_add_agreed : verdict row_refused_add_known row_refused_add_found (script_of row_refused_add_events) (with_line 7 (codes "add OWN\\DEV\\1 dev ok") row_refused_add_lines) ≡ No 8
unfolding digits
check_add_agreed = refl

-- filter stack
pub check_filter_stack : verdict row_filter_stack_known row_filter_stack_found (script_of row_filter_stack_events) row_filter_stack_lines ≡ Yes
unfolding digits
check_filter_stack = refl

-- full book
pub check_full_book : verdict row_full_book_known row_full_book_found (script_of row_full_book_events) row_full_book_lines ≡ Yes
unfolding digits
check_full_book = refl

-- the machine knows no clients: what would be refused by it is no line of a run
pub check_a_client : verdict [] [] (script_of (Event.Watch (codes "app") (codes "OWN\\DEV\\1") true ∷ [])) (codes "refused watch NoDevice" ∷ row_empty_script_lines) ≡ No 1
unfolding digits
check_a_client = refl

pub check_no_client : verdict [] [] (script_of (Event.Unwatch (codes "app") (codes "OWN\\DEV\\1") ∷ [])) (codes "refused unwatch NoDevice" ∷ row_empty_script_lines) ≡ No 1
unfolding digits
check_no_client = refl
