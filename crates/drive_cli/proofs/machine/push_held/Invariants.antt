use Rattle.std.proofs.Common.{◌≡◌, ◌++◌, drop, map}
use Rattle.pnp_labels.specs.Texts.{after_spaces, res_text}
use Rattle.drive_cli.proofs.machine.push_held.Given as goal

abbrev pub invariant-loop-at : goal.invariant-loop-at
invariant-loop-at l = l.words.items ++ after_spaces (map res_text (drop l.at l.held)) ≡ l.fn.words.items ++ after_spaces (map res_text l.held)
