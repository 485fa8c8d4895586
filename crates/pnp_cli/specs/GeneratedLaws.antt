-- What is so of the generated texts.
use Rattle.std.specs.Prelude.{ℕ, ◌≡◌, ◌≤◌, Ok, Some}
use Rattle.inf_reader.specs.declared.parts.Inf.{Inf}
use Rattle.inf_reader.specs.Meaning.{inf}
use Rattle.pnp_cli.specs.Contents.{script_status}
use Rattle.pnp_cli.specs.Generated.{gen_inf, gen_script}
use Rattle.pnp_cli.specs.declared.status.Status.{Status}

-- the generated INF is accepted
abbrev pub GeneratedInfIsAcceptedLaw : Type 0
GeneratedInfIsAcceptedLaw = (made : Inf) × (inf gen_inf ≡ Ok made)

-- a generated script has no bad line and is not too large: it is run to its end
abbrev pub GeneratedScriptEndsLaw : Type 0
GeneratedScriptEndsLaw = (n : ℕ) → n ≤ 400 → script_status (Some (gen_script n)) ≡ Some Status.Done
