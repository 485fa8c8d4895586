use Rattle.std.proofs.Common.{◌≡◌, ◌≤◌, ◌||◌, ℕ, List, drop, IfSome}
use Rattle.lint_cli.specs.Words.{texts}
use Rattle.lint_cli.specs.Warnings.{told as as_known}
use Rattle.lint_cli.specs.Lints.{bad_infs, some_large, AddsInfs}
use Rattle.lint_cli.proofs.lints.lint_infs.Given as goal

abbrev pub invariant-loop-name : goal.invariant-loop-name
invariant-loop-name g l = record {
  bad : IfSome (g.F.Files.contents l.fn.files) (λ told. (l.found || bad_infs told (texts (drop l.name-index l.names))) ≡ bad_infs told (texts l.names));
  fits : IfSome (g.F.Files.contents l.fn.files) (λ told. some_large told (texts (drop l.name-index l.names)) ≡ some_large told (texts l.names));
  text :
      (new : List ℕ)
      → IfSome (g.F.Files.contents l.fn.files) (λ told.
      AddsInfs told (as_known l.known) (texts (drop l.name-index l.names)) l.out.items new
      → AddsInfs told (as_known l.known) (texts l.names) l.initial.out.items new);
  counts : (other : List ℕ) → g.F.Files.faults l.fn.files other ≤ g.F.Files.faults l.files other;
  same : g.F.Files.contents l.files ≡ g.F.Files.contents l.fn.files;
}
