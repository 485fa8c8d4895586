use Rattle.std.proofs.Common.{◌≡◌, drop, not}
use Rattle.std.specs.List.{list_all}
use Rattle.lint_cli.specs.Words.{texts, is_option}
use Rattle.lint_cli.proofs.words.are_names.Given as goal

abbrev pub invariant-loop-word : goal.invariant-loop-word
invariant-loop-word l =
    list_all (λ word. not (is_option word)) (texts (drop l.word-index l.words)) ≡ list_all (λ word. not (is_option word)) (texts l.words)
