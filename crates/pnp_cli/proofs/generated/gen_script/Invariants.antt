use Rattle.std.proofs.Common.{◌≡◌, ◌++◌}
use Rattle.pnp_cli.specs.Generated.{head, device_lines}
use Rattle.pnp_cli.proofs.generated.gen_script.Given as goal

abbrev pub invariant-loop-k : goal.invariant-loop-k
invariant-loop-k l = l.text.items ≡ head ++ device_lines l.k
