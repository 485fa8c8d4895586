use Rattle.std.proofs.Common.{◌≡◌, ◌<◌, ◌^◌, drop}
use Rattle.pnp_cli.specs.Words.{digits_from}
use Rattle.pnp_cli.proofs.words.number.Given as goal

abbrev pub invariant-loop-b : goal.invariant-loop-b
invariant-loop-b l = record {
  value : digits_from 0 l.bytes ≡ digits_from l.n (drop l.b-index l.bytes);
  small : l.n < 10 ^ l.b-index;
}
