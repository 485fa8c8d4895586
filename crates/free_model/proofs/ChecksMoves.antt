-- Rebalances and changes: whole outputs that are runs, and what is none, as the definition computes it.
use Rattle.std.proofs.Common.{◌≡◌, refl}
use Rattle.std.specs.Prelude.{codes}
use Rattle.std.specs.Fmt.{digits}
use Rattle.free_model.specs.Checks.{Yes, No}
use Rattle.pnp_model.proofs.RowsChanges.{row_a_change_events, row_a_change_found, row_a_change_known, row_a_change_lines, row_a_change_that_its_device_refuses_events, row_a_change_that_its_device_refuses_found, row_a_change_that_its_device_refuses_known, row_a_change_that_its_device_refuses_lines}
use Rattle.pnp_model.proofs.RowsChangesMore.{row_a_change_that_fails_to_restart_events, row_a_change_that_fails_to_restart_found, row_a_change_that_fails_to_restart_known, row_a_change_that_fails_to_restart_lines}
use Rattle.pnp_model.proofs.RowsRebalances.{row_chain_over_a_budget_of_five_events, row_chain_over_a_budget_of_five_found, row_chain_over_a_budget_of_five_known, row_chain_over_a_budget_of_five_lines, row_rebalance_events, row_rebalance_found, row_rebalance_known, row_rebalance_lines}
use Rattle.free_model.proofs.CheckBase.{verdict, script_of, with_line}

-- rebalance
pub check_rebalance : verdict row_rebalance_known row_rebalance_found (script_of row_rebalance_events) row_rebalance_lines ≡ Yes
unfolding digits
check_rebalance = refl

-- what is held after the move
pub check_other_holdings : verdict row_rebalance_known row_rebalance_found (script_of row_rebalance_events) (with_line 36 (codes "irq:7-7 OWN\\DEV\\A") row_rebalance_lines) ≡ No 36
unfolding digits
check_other_holdings = refl

-- the device refused, so it is Started still
pub check_refused_to_stop : verdict row_rebalance_known row_rebalance_found (script_of row_rebalance_events) (with_line 18 (codes "QUERY_STOP_DEVICE OWN\\DEV\\A dev fail") row_rebalance_lines) ≡ No 19
unfolding digits
check_refused_to_stop = refl

-- chain over a budget of five
pub check_chain_over_a_budget_of_five : verdict row_chain_over_a_budget_of_five_known row_chain_over_a_budget_of_five_found (script_of row_chain_over_a_budget_of_five_events) row_chain_over_a_budget_of_five_lines ≡ Yes
unfolding digits
check_chain_over_a_budget_of_five = refl

-- a change
pub check_a_change : verdict row_a_change_known row_a_change_found (script_of row_a_change_events) row_a_change_lines ≡ Yes
unfolding digits
check_a_change = refl

-- a change that its device refuses
pub check_a_change_that_its_device_refuses : verdict row_a_change_that_its_device_refuses_known row_a_change_that_its_device_refuses_found (script_of row_a_change_that_its_device_refuses_events) row_a_change_that_its_device_refuses_lines ≡ Yes
unfolding digits
check_a_change_that_its_device_refuses = refl

-- the device agreed
pub check_change_agreed : verdict row_a_change_that_its_device_refuses_known row_a_change_that_its_device_refuses_found (script_of row_a_change_that_its_device_refuses_events) (with_line 13 (codes "QUERY_STOP_DEVICE OWN\\HARD\\A hard ok") row_a_change_that_its_device_refuses_lines) ≡ No 14
unfolding digits
check_change_agreed = refl

-- a change that fails to restart
pub check_a_change_that_fails_to_restart : verdict row_a_change_that_fails_to_restart_known row_a_change_that_fails_to_restart_found (script_of row_a_change_that_fails_to_restart_events) row_a_change_that_fails_to_restart_lines ≡ Yes
unfolding digits
check_a_change_that_fails_to_restart = refl
