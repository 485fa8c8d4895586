use Rattle.pnp_cli.specs.Words.{texts, settings_of}
use Rattle.pnp_cli.proofs.Lawfulness.{output_tells, output_by_diagram, output_shares, output_holds_whole, output_restores, output_dependents, output_conflicts, output_begins, output_joins, output_told, output_keyed, output_acyclic, output_map_clear, output_stacks, output_names, output_remembers, output_holds_parts, output_inside_windows, output_handles, output_holds_few, output_shown, output_tree, output_promises, output_keeps, output_ends_told, output_of_machine, output_asks, output_hears, output_declines, output_notices, output_clients, output_alone}
use Rattle.pnp_cli.proofs.OwnTraces.{output_checks}
use Rattle.pnp_cli.proofs.Answered.{all_answered}
use Rattle.pnp_cli.proofs.OneOutput.{one_front}
use Rattle.pnp_io.specs.Outside.{Rose}
use Rattle.pnp_cli.proofs.program.run.Goals as goal

pub returns-clause-front : goal.returns-clause-front
returns-clause-front g c = one_front (settings_of (texts c.args.words.now)) (g.F.Files.contents c.args.files.now) _ (g.K.Sink.taken c.args.sink.now) (g.K.Sink.taken c.run_over.new.sink) c.run_over.ensures.front

pub returns-clause-answered : goal.returns-clause-answered
returns-clause-answered g c =
    all_answered (settings_of (texts c.args.words.now)) (g.F.Files.contents c.args.files.now) _ (g.F.Files.faults c.args.files.now) (g.F.Files.faults c.run_over.new.files)
    (Rose (g.K.Sink.faults c.args.sink.now) (g.K.Sink.faults c.run_over.new.sink)) c.run_over.result c.run_over.ensures.bad_words c.run_over.ensures.decided c.run_over.ensures.read_fault c.run_over.ensures.write_fault

pub returns-clause-tells : goal.returns-clause-tells
returns-clause-tells g c = output_tells (texts c.args.words.now) (g.F.Files.contents c.args.files.now) _

pub returns-clause-follows_diagram : goal.returns-clause-follows_diagram
returns-clause-follows_diagram g c = output_by_diagram (texts c.args.words.now) (g.F.Files.contents c.args.files.now) _

pub returns-clause-nothing_clashes : goal.returns-clause-nothing_clashes
returns-clause-nothing_clashes g c = output_shares (texts c.args.words.now) (g.F.Files.contents c.args.files.now) _

pub returns-clause-all_hold_whole : goal.returns-clause-all_hold_whole
returns-clause-all_hold_whole g c = output_holds_whole (texts c.args.words.now) (g.F.Files.contents c.args.files.now) _

pub returns-clause-each_end_restores : goal.returns-clause-each_end_restores
returns-clause-each_end_restores g c = output_restores (texts c.args.words.now) (g.F.Files.contents c.args.files.now) _

pub returns-clause-dependents_first : goal.returns-clause-dependents_first
returns-clause-dependents_first g c = output_dependents (texts c.args.words.now) (g.F.Files.contents c.args.files.now) _

pub returns-clause-each_conflict_is_real : goal.returns-clause-each_conflict_is_real
returns-clause-each_conflict_is_real g c = output_conflicts (texts c.args.words.now) (g.F.Files.contents c.args.files.now) _

pub returns-clause-operations_begin : goal.returns-clause-operations_begin
returns-clause-operations_begin g c = output_begins (texts c.args.words.now) (g.F.Files.contents c.args.files.now) _

pub returns-clause-joins_are_limited : goal.returns-clause-joins_are_limited
returns-clause-joins_are_limited g c = output_joins (texts c.args.words.now) (g.F.Files.contents c.args.files.now) _

pub returns-clause-states_are_told : goal.returns-clause-states_are_told
returns-clause-states_are_told g c = output_told (texts c.args.words.now) (g.F.Files.contents c.args.files.now) _

pub returns-clause-nodes_are_keyed : goal.returns-clause-nodes_are_keyed
returns-clause-nodes_are_keyed g c = output_keyed (texts c.args.words.now) (g.F.Files.contents c.args.files.now) _

pub returns-clause-nothing_depends_on_itself : goal.returns-clause-nothing_depends_on_itself
returns-clause-nothing_depends_on_itself g c = output_acyclic (texts c.args.words.now) (g.F.Files.contents c.args.files.now) _

pub returns-clause-nothing_printed_clashes : goal.returns-clause-nothing_printed_clashes
returns-clause-nothing_printed_clashes g c = output_map_clear (texts c.args.words.now) (g.F.Files.contents c.args.files.now) _

pub returns-clause-stacks_fit : goal.returns-clause-stacks_fit
returns-clause-stacks_fit g c = output_stacks (texts c.args.words.now) (g.F.Files.contents c.args.files.now) _

pub returns-clause-names_are_known : goal.returns-clause-names_are_known
returns-clause-names_are_known g c = output_names (texts c.args.words.now) (g.F.Files.contents c.args.files.now) _

pub returns-clause-nobody_is_forgotten : goal.returns-clause-nobody_is_forgotten
returns-clause-nobody_is_forgotten g c = output_remembers (texts c.args.words.now) (g.F.Files.contents c.args.files.now) _

pub returns-clause-each_holds_a_part : goal.returns-clause-each_holds_a_part
returns-clause-each_holds_a_part g c = output_holds_parts (texts c.args.words.now) (g.F.Files.contents c.args.files.now) _

pub returns-clause-held_inside_windows : goal.returns-clause-held_inside_windows
returns-clause-held_inside_windows g c = output_inside_windows (texts c.args.words.now) (g.F.Files.contents c.args.files.now) _

pub returns-clause-handles : goal.returns-clause-handles
returns-clause-handles g c = output_handles (texts c.args.words.now) (g.F.Files.contents c.args.files.now) _

pub returns-clause-few_held : goal.returns-clause-few_held
returns-clause-few_held g c = output_holds_few (texts c.args.words.now) (g.F.Files.contents c.args.files.now) _

pub returns-clause-shown : goal.returns-clause-shown
returns-clause-shown g c = output_shown _ _ c.args.rack.items (texts c.args.words.now) (g.F.Files.contents c.args.files.now)

pub returns-clause-each_node_is_printed_once : goal.returns-clause-each_node_is_printed_once
returns-clause-each_node_is_printed_once g c = output_tree (texts c.args.words.now) (g.F.Files.contents c.args.files.now) _

pub returns-clause-promises : goal.returns-clause-promises
returns-clause-promises g c = output_promises (texts c.args.words.now) (g.F.Files.contents c.args.files.now) _

pub returns-clause-keeps : goal.returns-clause-keeps
returns-clause-keeps g c = output_keeps (texts c.args.words.now) (g.F.Files.contents c.args.files.now) _

pub returns-clause-ending : goal.returns-clause-ending
returns-clause-ending g c = output_ends_told (texts c.args.words.now) (g.F.Files.contents c.args.files.now) _

pub returns-clause-runs_the_machine : goal.returns-clause-runs_the_machine
returns-clause-runs_the_machine g c = output_of_machine (texts c.args.words.now) (g.F.Files.contents c.args.files.now) _

pub returns-clause-asks_all_before : goal.returns-clause-asks_all_before
returns-clause-asks_all_before g c = output_asks (texts c.args.words.now) (g.F.Files.contents c.args.files.now) _

pub returns-clause-all_hear_the_result : goal.returns-clause-all_hear_the_result
returns-clause-all_hear_the_result g c = output_hears (texts c.args.words.now) (g.F.Files.contents c.args.files.now) _

pub returns-clause-declined_by_a_client : goal.returns-clause-declined_by_a_client
returns-clause-declined_by_a_client g c = output_declines (texts c.args.words.now) (g.F.Files.contents c.args.files.now) _

pub returns-clause-clients : goal.returns-clause-clients
returns-clause-clients g c = output_clients (texts c.args.words.now) (g.F.Files.contents c.args.files.now) _

pub returns-clause-notices_keep_the_core : goal.returns-clause-notices_keep_the_core
returns-clause-notices_keep_the_core g c = output_notices (texts c.args.words.now) (g.F.Files.contents c.args.files.now) _

pub returns-clause-same_without_clients : goal.returns-clause-same_without_clients
returns-clause-same_without_clients g c = output_alone (texts c.args.words.now) (g.F.Files.contents c.args.files.now) _

pub returns-clause-each_output_is_a_trace : goal.returns-clause-each_output_is_a_trace
returns-clause-each_output_is_a_trace g c = output_checks (texts c.args.words.now) (g.F.Files.contents c.args.files.now) _
