use Rattle.std.proofs.Common.{◌≡◌, drop}
use Rattle.lint_cli.specs.Words.{texts, no_options, options_from, names_from}
use Rattle.lint_cli.proofs.words.options_from.Given as goal

abbrev pub invariant-loop-at : goal.invariant-loop-at
invariant-loop-at l = record {
  options : options_from l.options (texts (drop l.at l.words)) ≡ options_from no_options (texts l.words);
  names : names_from (texts (drop l.at l.words)) ≡ names_from (texts l.words);
}
