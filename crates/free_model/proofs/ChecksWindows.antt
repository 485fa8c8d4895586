-- Windows, bus numbers, and a whole small board: whole outputs that are runs, and what is none, as the definition computes it.
use Rattle.std.proofs.Common.{◌≡◌, refl}
use Rattle.std.specs.Prelude.{codes}
use Rattle.std.specs.Fmt.{digits}
use Rattle.free_model.specs.Checks.{Yes, No}
use Rattle.pnp_model.proofs.RowsBoard.{row_small_board_events, row_small_board_found, row_small_board_known, row_small_board_lines}
use Rattle.pnp_model.proofs.RowsBuses.{known, row_buses_last_events, row_buses_last_found, row_buses_last_lines}
use Rattle.pnp_model.proofs.RowsChangesMore.{row_a_change_below_a_window_events, row_a_change_below_a_window_found, row_a_change_below_a_window_known, row_a_change_below_a_window_lines}
use Rattle.pnp_model.proofs.RowsWindows.{row_nothing_in_the_window_events, row_nothing_in_the_window_found, row_nothing_in_the_window_known, row_nothing_in_the_window_lines, row_window_events, row_window_found, row_window_known, row_window_lines}
use Rattle.free_model.proofs.CheckBase.{verdict, script_of, with_line}

-- window
pub check_window : verdict row_window_known row_window_found (script_of row_window_events) row_window_lines ≡ Yes
unfolding digits
check_window = refl

-- below the window nothing is given
pub check_before_the_window : verdict row_window_known row_window_found (script_of row_window_events) (with_line 17 (codes "assign OWN\\DEV\\1 port:0x0-0x7") row_window_lines) ≡ No 17
unfolding digits
check_before_the_window = refl

-- the reason is told
pub check_refused_otherwise : verdict row_window_known row_window_found (script_of row_window_events) (with_line 21 (codes "refused window SameWindow") row_window_lines) ≡ No 21
unfolding digits
check_refused_otherwise = refl

-- nothing in the window
pub check_nothing_in_the_window : verdict row_nothing_in_the_window_known row_nothing_in_the_window_found (script_of row_nothing_in_the_window_events) row_nothing_in_the_window_lines ≡ Yes
unfolding digits
check_nothing_in_the_window = refl

-- a change below a window
pub check_a_change_below_a_window : verdict row_a_change_below_a_window_known row_a_change_below_a_window_found (script_of row_a_change_below_a_window_events) row_a_change_below_a_window_lines ≡ Yes
unfolding digits
check_a_change_below_a_window = refl

-- bus numbers stand last in the map, and are shared as other numbers are
pub check_buses_last : verdict known row_buses_last_found (script_of row_buses_last_events) row_buses_last_lines ≡ Yes
unfolding digits
check_buses_last = refl

-- small board
pub check_small_board : verdict row_small_board_known row_small_board_found (script_of row_small_board_events) row_small_board_lines ≡ Yes
unfolding digits
check_small_board = refl
